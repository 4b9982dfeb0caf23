-- The frames of an activity at a poll, before and after they are saved.
use Rattle.std.proofs.Common.{◌≡◌, ℕ, zero, suc, ◌+◌, ◌-◌, ◌*◌, ◌<◌, ◌≤◌, refl, ◌∙◌, ap, sym, subst, arith}
use Rattle.std.specs.Prelude.{List, [], length}
use Rattle.std.proofs.lemmas.Option.{slice_get_within}
use Rattle.self_terms.specs.Depths.{taken, depth}
use Rattle.sparc_store.specs.Words.{Words, word_at}
use Rattle.sparc_store.specs.Windows.{Frame as Window, IsPlace, kept, saved_at, frame_before, but_first, flushed, CanFlush}
use Rattle.sparc_store.specs.Chain.{IsSound, IsStack}
use Rattle.sparc_machine.specs.State.{stack_of}
use Rattle.source_model.specs.Soundness.{body_in}
use Rattle.heap_cells.proofs.Numbered.{got_if}
use Rattle.frame_walk.specs.Places.{Descriptor, pending_places, plain_descriptor}
use Rattle.frame_walk.specs.Walk.{activations, Asked, AreLaid}
use Rattle.frame_walk.proofs.Resting.{laid_as}
use Rattle.frame_moves.proofs.Listed.{stack_of as laid_stack}
use Rattle.frame_moves.proofs.Spared.{can_flush, flush_only, low_same}
use Rattle.frame_moves.proofs.Moving.{flush_stays}
use Rattle.plain_words.specs.Units.{frame_locals}
use Rattle.plain_runs.specs.Host.{Host, seen, waiting, descriptor_at, point_at}
use Rattle.plain_runs.specs.declared.status.Status.TheVariants.{Waiting}
use Rattle.plain_runs.specs.Sound.{IsCaller, IsHeld, Calls, Polls, entry_frame, ending_stub}
use Rattle.plain_runs.specs.Course.{AllRun}
use Rattle.plain_runs.specs.Units.{node_offset}
use Rattle.plain_runs.proofs.Keeping.{held_kept}
use Rattle.plain_runs.proofs.Pointed.{call_descriptor, in_poll_descriptor, node_within, next_offset}
use Rattle.plain_runs.proofs.Working.{held_have_room, run_kept, same_descriptors}
use Rattle.plain_show.specs.Reading.{CanRead, IsReadable}
use Rattle.plain_show.specs.Showing.{flushed_host, IsAtPoll}

pending_long : (locals k : ℕ) → length (pending_places locals k) ≡ k
pending_long locals zero = refl
pending_long locals (suc k) = ap suc (pending_long locals k)

-- what a descriptor tells of its point
point_body : (h : Host) (pc b n locals k : ℕ) → descriptor_at h pc ≡ plain_descriptor b n locals k → (point_at h pc).body ≡ b
unfolding descriptor_at
point_body h pc b n locals k e = ap (λ (d : Descriptor). d.body) e

point_pending : (h : Host) (pc b n locals k : ℕ) → descriptor_at h pc ≡ plain_descriptor b n locals k → (point_at h pc).pending ≡ k
unfolding descriptor_at
point_pending h pc b n locals k e =
    sym (pending_long (frame_locals (body_in h.bodies (point_at h pc).body)) (point_at h pc).pending) ∙ ap (λ (d : Descriptor). length d.pending) e ∙ pending_long locals k

-- a frame that waits can be read
pub held_reads : (h : Host) (pc sp fp : ℕ) → AllRun h → IsHeld h pc sp fp → IsReadable h pc sp fp
held_reads h pc sp fp run (Calls c) =
    let b = c.body in
    let n = c.number in
    let x = body_in h.bodies b in
    let k = depth x.nodes n - taken c.node in
    let d = call_descriptor h pc b n c.node c.call in
    let body = point_body h pc b n (frame_locals x) k d in
    let pending = point_pending h pc b n (frame_locals x) k d in
    let within = node_within h.references x n c.node c.call.node_is in
    let next : n + 1 ≡ suc n = omega arith in
    let address = c.call.address in
    let to = c.call.unit.region.to in
    let known = c.call.unit.known in
    let given = c.call.unit.given in
    let deep = (run b).translates.deep n in
    record {
      frame = held_have_room h run pc sp fp (Calls c);
      low = (let f = c.call.address ∙ ap (λ m. c.call.at + 4 * node_offset h.references x m) next in omega (arith, f, within, to));
      given = omega (arith, body, given);
      known = omega (arith, body, known);
      translates = (run (point_at h pc).body).translates;
      pending = omega (arith, pending, deep);
    }
held_reads h pc sp fp run (Polls b n p r room) =
    let x = body_in h.bodies b in
    let node = got_if x.nodes n p.inside in
    let k = depth x.nodes n in
    let d = in_poll_descriptor h pc b n node.0 p node.1 in
    let body = point_body h pc b n (frame_locals x) k d in
    let pending = point_pending h pc b n (frame_locals x) k d in
    let within = node_within h.references x n node.0 node.1 in
    let next = next_offset h.references x n node.0 node.1 in
    let address = p.address in
    let to = p.unit.region.to in
    let known = p.unit.known in
    let given = p.unit.given in
    let deep = (run b).translates.deep n in
    let word = p.within in
    record {
      frame = held_have_room h run pc sp fp (Polls b n p r room);
      low = omega arith;
      given = omega (arith, body, given);
      known = omega (arith, body, known);
      translates = (run (point_at h pc).body).translates;
      pending = omega (arith, pending, deep);
    }

pub entry_place : (k : ℕ) → k < 4 → IsPlace (entry_frame k)
entry_place k low = (omega arith, omega arith, omega (arith, low), omega arith)

pub laid_more : (asked : Asked) (entry end : ℕ) (memory : Words) (n sp : ℕ) (w : Window) (pc : ℕ) (held : List Window) → asked pc sp (w 14) → AreLaid asked entry end memory n (w 14) (frame_before memory (w 14) held) (w 15 + 8) (but_first held)
    → AreLaid asked entry end memory (suc n) sp w pc held
unfolding AreLaid
laid_more asked entry end memory n sp w pc held first rest = (first, rest)

module _ (h : Host) (p : IsAtPoll h) where
  pub few : h.current < 4
  few = let r = p.runs in let hosted = p.hosted in omega (arith, slice_get_within h.statuses h.current (Waiting r.view.sp r.view.pc r.view.known) r.view.running, hosted.activities)

  -- the frame in view is in a poll, and the others wait
  pub laid_now : AreLaid (IsHeld h) (entry_frame h.current) ending_stub h.machine.memory (suc p.runs.view.older) (h.machine.regs 14) (kept h.machine.regs) h.machine.pc h.machine.older
  laid_now =
      let r = p.runs in
      let m = h.machine in
      let q = r.poll in
      let first : IsHeld h m.pc (m.regs 14) (m.regs 30) = Polls p.body p.number (record { at = q.at; word = 0; unit = q.unit; inside = q.inside; within = omega arith; address = omega (arith, q.address) }) (p.all p.body) r.view.frame in
      laid_more (IsHeld h) (entry_frame h.current) ending_stub m.memory r.view.older (m.regs 14) (kept m.regs) m.pc m.older first
      (laid_as (IsCaller h) (IsHeld h) (entry_frame h.current) ending_stub m.memory r.view.older (m.regs 30) (frame_before m.memory (m.regs 30) m.older) (m.regs 31 + 8) (but_first m.older) (λ pc sp fp c. Calls c) r.view.callers)

  pub sound : IsSound (suc p.runs.view.older) (stack_of h.machine)
  sound = record { whole = p.hosted.within; frames = p.hosted.windows; covers = p.runs.view.held }

  pub stack : IsStack (entry_frame h.current) (suc p.runs.view.older) (stack_of h.machine)
  stack = laid_stack (descriptor_at h) (IsHeld h) (entry_frame h.current) ending_stub (suc p.runs.view.older) h.machine.pc (stack_of h.machine) (held_have_room h p.all) (entry_place h.current few) laid_now

  pub may_flush : CanFlush (stack_of h.machine)
  may_flush = can_flush (entry_frame h.current) (suc p.runs.view.older) (stack_of h.machine) sound stack

  abbrev Stays : ℕ → Type 0
  Stays count =
      let m = h.machine in
      let new = (flushed (stack_of m)).memory in
      (activations (descriptor_at h) new count (m.regs 14) (saved_at new (m.regs 14)) m.pc [] ≡ activations (descriptor_at h) m.memory count (m.regs 14) (kept m.regs) m.pc m.older)
      × AreLaid (IsHeld h) (entry_frame h.current) ending_stub new count (m.regs 14) (saved_at new (m.regs 14)) m.pc []

  stays : Stays (h.machine.regs 4)
  stays =
      subst Stays (sym p.runs.view.count)
      (flush_stays (descriptor_at h) (IsHeld h) (entry_frame h.current) ending_stub (suc p.runs.view.older) h.machine.pc (stack_of h.machine) (held_have_room h p.all) (entry_place h.current few) sound laid_now)

  pub few_frames : h.machine.regs 4 ≤ 4096
  few_frames = let c = p.runs.view.count in let f = p.runs.view.few in omega arith

  pub low : (b : ℕ) → b < 0x20000000 → word_at (flushed (stack_of h.machine)).memory b ≡ word_at h.machine.memory b
  low b lt = low_same h.machine.memory (flushed (stack_of h.machine)).memory b (flush_only (stack_of h.machine)) (omega arith)

  pub can_read : CanRead (flushed_host h) (h.machine.regs 14) h.machine.pc (h.machine.regs 4)
  can_read =
      let m = h.machine in
      let new = (flushed (stack_of m)).memory in
      let to = (flushed_host h).machine in
      record {
        entry = entry_frame h.current;
        end = ending_stub;
        low = omega arith;
        laid = laid_as (IsHeld h) (IsReadable (flushed_host h)) (entry_frame h.current) ending_stub new (m.regs 4) (m.regs 14) (saved_at new (m.regs 14)) m.pc [] (λ pc sp fp x. held_reads (flushed_host h) pc sp fp (run_kept h to p.all) (held_kept h to pc sp fp low x)) stays.1;
      }

  pub waits_as_seen : waiting (flushed_host h) (h.machine.regs 14) h.machine.pc (h.machine.regs 4) ≡ seen h
  waits_as_seen =
      let m = h.machine in
      let new = (flushed (stack_of m)).memory in
      ap (λ (d : ℕ → Descriptor). activations d new (m.regs 4) (m.regs 14) (saved_at new (m.regs 14)) m.pc []) (same_descriptors h (flushed_host h).machine) ∙ stays.0

  pub reads_as : (to : Host) (sp pc n : ℕ) → to ≡ flushed_host h → sp ≡ h.machine.regs 14 → pc ≡ h.machine.pc → n ≡ h.machine.regs 4 → CanRead to sp pc n × (n ≤ 4096)
  reads_as to sp pc n et es ep en =
      let few = few_frames in (
        subst (λ (x : Host). CanRead x sp pc n) (sym et) (subst (λ x. CanRead (flushed_host h) x pc n) (sym es) (subst (λ x. CanRead (flushed_host h) (h.machine.regs 14) x n) (sym ep) (subst (λ x. CanRead (flushed_host h) (h.machine.regs 14) h.machine.pc x) (sym en) can_read))),
        omega arith,
      )

  pub waits_as : (to : Host) (sp pc n : ℕ) → to ≡ flushed_host h → sp ≡ h.machine.regs 14 → pc ≡ h.machine.pc → n ≡ h.machine.regs 4 → waiting to sp pc n ≡ seen h
  waits_as to sp pc n et es ep en = (λ i. waiting (et i) (es i) (ep i) (en i)) ∙ waits_as_seen
