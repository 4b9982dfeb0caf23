-- Nodes that are done in words, and leave their frame in view.
use Rattle.std.proofs.Common.{◌≡◌, ℕ, suc, ◌+◌, ◌*◌, ◌%◌, ◌^◌, ◌<◌, ◌≤◌, refl, ◌∙◌, ap, sym, subst, arith}
use Rattle.std.specs.Prelude.{◌∷◌, ◌++◌, length, Some, slice_get, drop}
use Rattle.std.proofs.lemmas.Option.{slice_get_within}
use Rattle.self_terms.specs.declared.nodes.Node.{Node}
use Rattle.self_terms.specs.Depths.{depth, depth_from}
use Rattle.sparc_store.specs.Words.{Words, word_at, IsWithin}
use Rattle.sparc_store.proofs.Placed.{put_stays_within}
use Rattle.sparc_machine.specs.State.{MachineState}
use Rattle.frame_walk.specs.Places.{pending_offset}
use Rattle.frame_walk.specs.Raw.{Going, moved_on}
use Rattle.source_model.specs.Soundness.{body_in}
use Rattle.plain_words.specs.Going.{At, StandsAt, IsCodeFrom}
use Rattle.plain_words.specs.Code.{poll}
use Rattle.plain_words.specs.Moves.{IsReady, Does, pended}
use Rattle.plain_words.specs.Showing.{viewed}
use Rattle.plain_words.specs.Units.{node_code, nodes_code, entry_code, owns_context, frame_locals, frame_words}
use Rattle.plain_words.proofs.Basics.{at_behind}
use Rattle.plain_words.proofs.Long.{node_long}
use Rattle.plain_words.proofs.Shown.{pended_shows, left_shows}
use Rattle.plain_runs.specs.Course.{with_machine, AllRun, code_at, Follows, PendedFollows, DroppedFollows}
use Rattle.plain_runs.specs.Host.{Host, heap_words}
use Rattle.plain_runs.specs.Units.{words_before, node_offset, HasUnit, IsPoll}
use Rattle.plain_runs.specs.Sound.{RunsAt, IsHosted, callers_of}
use Rattle.plain_runs.proofs.Located.{nodes_at}
use Rattle.plain_runs.proofs.Pointed.{next_offset, node_within}
use Rattle.plain_runs.proofs.Keeping.{unit_kept}
use Rattle.plain_runs.proofs.Working.{ChangedInView, code_same, heap_stays, view_on, view_goes_on}

pub there_at : (h : Host) (b n : ℕ) (node : Node) → (p : IsPoll h h.machine.pc b n) → slice_get (body_in h.bodies b).nodes n ≡ Some node
    → At h.machine.memory h.machine.pc (poll ++ code_at h b n node) × IsCodeFrom h.machine.pc (length (poll ++ code_at h b n node))
there_at h b n node p e =
    let x = body_in h.bodies b in
    let r = h.references in
    let owns = owns_context x in
    let locals = frame_locals x in
    let before = words_before r owns locals 0 0 x.nodes n in
    let u = p.unit in
    let nodes = at_behind h.machine.memory p.at (entry_code r x) (nodes_code r owns locals 0 0 x.nodes) u.code in
    let g = nodes_at x.nodes n node r owns locals 0 0 (p.at + 4 * length (entry_code r x)) h.machine.memory e nodes in
    let P : ℕ → ℕ → Type 0 = λ q a. At h.machine.memory q (poll ++ node_code r owns locals a node (depth_from 0 x.nodes n)) in
    let e1 : p.at + 4 * length (entry_code r x) + 4 * before ≡ h.machine.pc = omega (arith, p.address) in
    let e2 : 0 + before ≡ before = omega arith in
    let next = next_offset r x n node e in
    let within = node_within r x n node e in (
      subst (λ a. P h.machine.pc a) e2 (subst (λ q. P q (0 + before)) e1 g),
      record { aligned = omega (arith, p.address, u.region.aligned); from = omega (arith, p.address, u.region.from); to = omega (arith, p.address, u.region.to, next, within) },
    )

-- a node and its poll have few words
pub node_few : (h : Host) (b n : ℕ) (node : Node) → AllRun h → slice_get (body_in h.bodies b).nodes n ≡ Some node → length (poll ++ code_at h b n node) ≤ 128
node_few h b n node run is =
    let x = body_in h.bodies b in
    let locals = frame_locals x in
    let owns = owns_context x in
    let e = node_long 64 h.references owns locals (words_before h.references owns locals 0 0 x.nodes n) node (depth_from 0 x.nodes n) (omega arith) ((run b).translates.short n node is) in
    omega (arith, e)

-- a node is ready where a step is left of the goal
pub ready_at : (h : Host) (b n : ℕ) (node : Node) → RunsAt h b n node → h.machine.regs 2 < word_at h.machine.memory 0x30000000
    → IsReady h.machine h.machine.pc (frame_words (body_in h.bodies b)) (code_at h b n node)
ready_at h b n node r left =
    let t = there_at h b n node r.poll r.node_is in
    record { stands = r.stands; code_region = t.1; code_there = t.0; frame = r.view.frame.place; left = left }

-- where a machine has gone on to the poll of the next node
pub next_poll : (h : Host) (b n : ℕ) (node next : Node) (to : MachineState) → (p : IsPoll h h.machine.pc b n) → slice_get (body_in h.bodies b).nodes n ≡ Some node → slice_get (body_in h.bodies b).nodes (n + 1) ≡ Some next
    → HasUnit (with_machine h to) b p.at → to.pc ≡ h.machine.pc + 4 * length (poll ++ code_at h b n node) → IsPoll (with_machine h to) to.pc b (n + 1)
next_poll h b n node next to p e more unit at =
    let o = next_offset h.references (body_in h.bodies b) n node e in
    let o2 : node_offset h.references (body_in h.bodies b) (n + 1) ≡ node_offset h.references (body_in h.bodies b) (suc n) = ap (node_offset h.references (body_in h.bodies b)) (omega arith) in
    record {
      at = p.at;
      unit = unit;
      inside = slice_get_within (body_in h.bodies b).nodes (n + 1) next more;
      address = omega (arith, at, p.address, o, o2);
    }

-- A word is pended in the place of those over the first j.
pub replaced_follows : (h : Host) (b n : ℕ) (node next : Node) (j word : ℕ) → (r : RunsAt h b n node) → IsHosted h → AllRun h → h.current < 4 → h.machine.regs 2 < word_at h.machine.memory 0x30000000
    → slice_get (body_in h.bodies b).nodes (n + 1) ≡ Some next → depth (body_in h.bodies b).nodes (n + 1) ≡ j + 1 → j ≤ depth (body_in h.bodies b).nodes n
    → Does h.machine h.machine.pc (code_at h b n node) (pended h.machine (frame_locals (body_in h.bodies b)) j word)
    → (let f = viewed h.machine b n (frame_locals (body_in h.bodies b)) (depth (body_in h.bodies b).nodes n) in
    Follows h b (n + 1) next (Going (moved_on (word ∷ (viewed h.machine b n (frame_locals (body_in h.bodies b)) j).pending) f ∷ callers_of h r.view.older)))
replaced_follows h b n node next j word r hosted run low left more deeper within d =
    let m = h.machine in
    let x = body_in h.bodies b in
    let locals = frame_locals x in
    let to = d.to in
    let mv = d.moved in
    let room = (run b).room n in
    let shows = pended_shows m to (m.pc + 4 * length (poll ++ code_at h b n node)) ((m.regs 2 + 1) % 2 ^ 32) (frame_words x) locals j word hosted.within r.view.frame.place (omega (arith, room, within)) mv in
    let at = m.regs 14 + pending_offset locals j in
    let c : ChangedInView h b to = record {
      changed = shows.1;
      high = r.view.frame.place.1;
      ends = r.view.frame.ends;
      heap = ap heap_words mv.memory_is ∙ heap_stays m.memory at word (omega (arith, r.view.frame.place.1));
      within = (let P : Words → Type 0 = IsWithin in subst P (sym mv.memory_is) (put_stays_within m.memory at word hosted.within));
    } in
    let stands : StandsAt to to.pc = record { here = refl; next = mv.stands.next ∙ ap (λ z. z + 4) (sym mv.stands.here) } in
    let poll_next = next_poll h b n node next to r.poll r.node_is more (unit_kept h to b r.poll.at (code_same h b to c) r.poll.unit) mv.stands.here in
    let counted : to.regs 2 ≡ m.regs 2 + 1 = mv.counted ∙ omega (arith, left, hosted.goal) in
    let v = view_on h b (n + 1) next to _ r.view hosted run low c mv.kept mv.older stands poll_next more
    (ap (λ z. viewed to b (n + 1) locals z) deeper ∙ shows.0 b n (n + 1)) in
    record { instructions = d.instructions; few = omega (arith, d.few, node_few h b n node run r.node_is); to = to; goes = d.goes; on = view_goes_on h b (n + 1) next to _ r.view.older v c.heap counted (mv.kept 3 refl) (mv.kept 6 refl); runs = v.runs }

-- A value is dropped.
pub dropped_follows : (h : Host) (b n : ℕ) (node next : Node) → (r : RunsAt h b n node) → IsHosted h → AllRun h → h.current < 4 → h.machine.regs 2 < word_at h.machine.memory 0x30000000
    → slice_get (body_in h.bodies b).nodes (n + 1) ≡ Some next → depth (body_in h.bodies b).nodes n ≡ suc (depth (body_in h.bodies b).nodes (n + 1))
    → Does h.machine h.machine.pc (code_at h b n node) h.machine.memory
    → (let f = viewed h.machine b n (frame_locals (body_in h.bodies b)) (depth (body_in h.bodies b).nodes n) in Follows h b (n + 1) next (Going (moved_on (drop 1 f.pending) f ∷ callers_of h r.view.older)))
dropped_follows h b n node next r hosted run low left more less d =
    let m = h.machine in
    let x = body_in h.bodies b in
    let locals = frame_locals x in
    let k = depth x.nodes (n + 1) in
    let to = d.to in
    let mv = d.moved in
    let c : ChangedInView h b to = record {
      changed = λ a out. ap (λ z. word_at z a) mv.memory_is;
      high = r.view.frame.place.1;
      ends = r.view.frame.ends;
      heap = ap heap_words mv.memory_is;
      within = (let P : Words → Type 0 = IsWithin in subst P (sym mv.memory_is) hosted.within);
    } in
    let stands : StandsAt to to.pc = record { here = refl; next = mv.stands.next ∙ ap (λ z. z + 4) (sym mv.stands.here) } in
    let poll_next = next_poll h b n node next to r.poll r.node_is more (unit_kept h to b r.poll.at (code_same h b to c) r.poll.unit) mv.stands.here in
    let counted : to.regs 2 ≡ m.regs 2 + 1 = mv.counted ∙ omega (arith, left, hosted.goal) in
    let same : (z : ℕ) → z ≡ suc k → record (viewed m b n locals k) { next = n + 1 } ≡ moved_on (drop 1 (viewed m b n locals z).pending) (viewed m b n locals z) =
    λ z e. (let P : ℕ → Type 0 = λ y. record (viewed m b n locals k) { next = n + 1 } ≡ moved_on (drop 1 (viewed m b n locals y).pending) (viewed m b n locals y) in subst P (sym e) refl) in
    let v = view_on h b (n + 1) next to _ r.view hosted run low c mv.kept mv.older stands poll_next more
    (left_shows m to (m.pc + 4 * length (poll ++ code_at h b n node)) ((m.regs 2 + 1) % 2 ^ 32) locals k mv b n (n + 1) ∙ same (depth x.nodes n) less) in
    record { instructions = d.instructions; few = omega (arith, d.few, node_few h b n node run r.node_is); to = to; goes = d.goes; on = view_goes_on h b (n + 1) next to _ r.view.older v c.heap counted (mv.kept 3 refl) (mv.kept 6 refl); runs = v.runs }

pub pended_follow : PendedFollows
pended_follow h b n node next word r c more deeper d =
    replaced_follows h b n node next (depth (body_in h.bodies b).nodes n) word r c.hosted c.runs c.current c.left more deeper (omega arith) d

pub dropped_follow : DroppedFollows
dropped_follow h b n node next r c more less d = dropped_follows h b n node next r c.hosted c.runs c.current c.left more less d
