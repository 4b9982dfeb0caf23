-- The caller of a home is taken up, and has the answer.
use Rattle.std.proofs.Common.{◌≡◌, ℕ, suc, ◌+◌, ◌-◌, ◌*◌, ◌<◌, ◌≤◌, refl, ◌∙◌, ap, sym, subst, arith}
use Rattle.std.specs.Prelude.{List, [], ◌∷◌, length, drop, slice_set}
use Rattle.self_terms.specs.declared.nodes.Node.{Node}
use Rattle.self_terms.specs.Depths.{taken, depth_from}
use Rattle.sparc_store.specs.Words.{Words, word_at, HasFrame}
use Rattle.sparc_store.specs.Windows.{Frame as Window, kept, saved_at, frame_before, but_first}
use Rattle.sparc_machine.specs.State.{MachineState}
use Rattle.source_model.specs.Soundness.{body_in}
use Rattle.frame_walk.specs.Places.{Descriptor, Frame, shown, plain_descriptor}
use Rattle.frame_walk.specs.Raw.{Going, moved_on, answered_to}
use Rattle.frame_walk.specs.Walk.{activations, Asked, AreLaid, SameBetween}
use Rattle.frame_walk.proofs.Resting.{rests, laid_as, saved_same, shown_same}
use Rattle.plain_words.specs.Going.{Goes, StandsAt}
use Rattle.plain_words.specs.Showing.{viewed}
use Rattle.plain_words.specs.Units.{frame_locals, frame_words}
use Rattle.plain_runs.specs.Host.{Host, seen, threads_from, descriptor_at, heap_words}
use Rattle.plain_runs.specs.Units.{IsBehindCall}
use Rattle.plain_runs.specs.Sound.{IsCaller, InFrame, RunsAt, IsHosted, callers_of, entry_frame, ending_stub}
use Rattle.plain_runs.specs.Course.{with_machine, AllRun}
use Rattle.plain_runs.proofs.Keeping.{unit_kept, caller_kept, threads_set}
use Rattle.plain_runs.proofs.Pointed.{call_descriptor}
use Rattle.plain_runs.proofs.Working.{run_kept, callers_have_room, same_descriptors, plain_fits}
use Rattle.plain_sends.proofs.Behind.{pended_behind, depth_is}
use Rattle.plain_sends.proofs.Serving.{set_set}
use Rattle.plain_unwinds.specs.Frames.{frame_behind}
use Rattle.plain_unwinds.proofs.Apart.{IsApart, kept_apart}
use Rattle.plain_unwinds.proofs.Walk.{behind_shown, behind_laid}
use Rattle.plain_unwinds.proofs.Written.{new, window_saved, new_shows, callers_laid}

first_laid : (asked : Asked) (entry end : ℕ) (memory : Words) (n sp : ℕ) (w : Window) (pc : ℕ) (held : List Window) → AreLaid asked entry end memory (suc n) sp w pc held
    → asked pc sp (w 14) × AreLaid asked entry end memory n (w 14) (frame_before memory (w 14) held) (w 15 + 8) (but_first held)
unfolding AreLaid
first_laid asked entry end memory n sp w pc held l = l

first_seen : (d : ℕ → Descriptor) (memory : Words) (n sp : ℕ) (w : Window) (pc : ℕ) (held : List Window)
    → activations d memory (suc n) sp w pc held ≡ shown memory w sp (d pc) ∷ activations d memory n (w 14) (frame_before memory (w 14) held) (w 15 + 8) (but_first held)
unfolding activations
first_seen d memory n sp w pc held = refl

told_call : (h : Host) (pc b n : ℕ) (node : Node) → IsBehindCall h pc b n node → descriptor_at h pc ≡ plain_descriptor b n (frame_locals (body_in h.bodies b)) (depth_from 0 (body_in h.bodies b).nodes n - taken node)
told_call h pc b n node c = call_descriptor h pc b n node c ∙ ap (λ d. plain_descriptor b n (frame_locals (body_in h.bodies b)) (d - taken node)) (depth_is (body_in h.bodies b).nodes n)

-- A machine in the caller's frame goes on to the poll of the caller's next node, with the word of its %o0 pended.
pub record Resumes (h : Host) (m : MachineState) (k older : ℕ) : Type 0 where
  pub to : MachineState
  pub goes : Goes 1 m to
  pub body : ℕ
  pub number : ℕ
  pub next : Node
  pub hosted : IsHosted (with_machine h to)
  pub goal : word_at to.memory 0x30000000 ≡ word_at m.memory 0x30000000
  pub left : word_at to.memory 0x30000004 ≡ word_at m.memory 0x30000004
  pub runs : RunsAt (with_machine h to) body number next
  pub threads : threads_from (with_machine h to) 0 h.statuses ≡ slice_set (threads_from h 0 h.statuses) h.current (answered_to (drop k (callers_of h older)) (m.regs 8))
  pub heap : heap_words to.memory ≡ heap_words m.memory
  pub counted : to.regs 2 ≡ m.regs 2
  pub cost : to.regs 3 ≡ m.regs 3
  pub top : to.regs 6 ≡ m.regs 6

module _ (h : Host) (b n : ℕ) (node : Node) (r : RunsAt h b n node) (hosted : IsHosted h) (run : AllRun h) (k o : ℕ) (e : r.view.older ≡ k + suc o) where
  abbrev lain : Words
  lain = new h b n node r hosted run

  -- the home's frame, and its caller's
  abbrev pub home : ℕ
  home = frame_behind lain k (h.machine.regs 14)

  abbrev pub place : ℕ
  place = saved_at lain home 14

  abbrev pub back : ℕ
  back = saved_at lain home 15 + 8

  abbrev pub window : Window
  window = saved_at lain place

  laid_there : AreLaid (IsCaller h) (entry_frame h.current) ending_stub lain (suc o) place window back []
  laid_there =
      let sp = h.machine.regs 14 in
      let P : Window → Type 0 = λ q. AreLaid (IsCaller h) (entry_frame h.current) ending_stub lain r.view.older (q 14) (saved_at lain (q 14)) (q 15 + 8) [] in
      behind_laid (IsCaller h) (entry_frame h.current) ending_stub lain k r.view.older (suc o) sp e (subst P (sym (window_saved h b n node r hosted run)) (callers_laid h b n node r hosted run))

  both : IsCaller h back place (window 14) × AreLaid (IsCaller h) (entry_frame h.current) ending_stub lain o (window 14) (saved_at lain (window 14)) (window 15 + 8) []
  both = first_laid (IsCaller h) (entry_frame h.current) ending_stub lain o place window back [] laid_there

  pub c : IsCaller h back place (window 14)
  c = both.0

  -- what they show
  abbrev its_frame : Frame
  its_frame = shown lain window place (descriptor_at h back)

  abbrev rest : List Frame
  rest = activations (descriptor_at h) lain o (window 14) (saved_at lain (window 14)) (window 15 + 8) []

  left_shown : drop k (callers_of h r.view.older) ≡ its_frame ∷ rest
  left_shown =
      ap (drop (suc k)) (sym (new_shows h b n node r hosted run))
      ∙ behind_shown h lain k r.view.older (suc o) (h.machine.regs 14) h.machine.pc e
      ∙ first_seen (descriptor_at h) lain o place window back []

  -- A machine in that frame.
  module _ (goal : ℕ) (m : MachineState) (apart : IsApart h m goal) (high : (a : ℕ) → 0x40000000 ≤ a → word_at m.memory a ≡ word_at lain a)
      (older_is : m.older ≡ []) (frame_is : m.regs 14 ≡ place) (window_is : kept m.regs ≡ window) (count_is : m.regs 4 ≡ suc o) (stands : StandsAt m back) where
    abbrev hm : Host
    hm = with_machine h m

    fp : m.regs 30 ≡ window 14
    fp = ap (λ (q : Window). q 14) window_is

    ret : m.regs 31 ≡ window 15
    ret = ap (λ (q : Window). q 15) window_is

    above : (end : ℕ) → SameBetween (window 14) end lain m.memory
    above end a from to = high a (omega (arith, from, c.room.ends, c.room.place.1))

    rest_same : (activations (descriptor_at h) m.memory o (window 14) (saved_at lain (window 14)) (window 15 + 8) [] ≡ rest)
        × AreLaid (IsCaller h) (entry_frame h.current) ending_stub m.memory o (window 14) (saved_at lain (window 14)) (window 15 + 8) []
    rest_same = rests (descriptor_at h) (IsCaller h) (entry_frame h.current) ending_stub lain m.memory o (window 14) (saved_at lain (window 14)) (window 15 + 8) [] (callers_have_room h run) both.1 (above (entry_frame h.current + 64))

    before : saved_at m.memory (window 14) ≡ saved_at lain (window 14)
    before = saved_same lain m.memory (window 14) (above (window 14 + 64))

    callers_now : AreLaid (IsCaller hm) (entry_frame h.current) ending_stub m.memory o (m.regs 30) (frame_before m.memory (m.regs 30) m.older) (m.regs 31 + 8) (but_first m.older)
    callers_now =
        let P : ℕ → ℕ → Window → List Window → Type 0 = λ x y v held. AreLaid (IsCaller hm) (entry_frame h.current) ending_stub m.memory o x v (y + 8) held in
        let there = laid_as (IsCaller h) (IsCaller hm) (entry_frame h.current) ending_stub m.memory o (window 14) (saved_at lain (window 14)) (window 15 + 8) [] (λ q s f y. caller_kept h m q s f apart.code y) rest_same.1 in
        subst (λ x. P x (m.regs 31) (frame_before m.memory x m.older) (but_first m.older)) (sym fp)
        (subst (λ y. P (window 14) y (frame_before m.memory (window 14) m.older) (but_first m.older)) (sym ret)
        (subst (λ held. P (window 14) (window 15) (frame_before m.memory (window 14) held) (but_first held)) (sym older_is)
        (subst (λ v. P (window 14) (window 15) v []) (sym before) there)))

    tail_now : callers_of hm o ≡ rest
    tail_now =
        ap (λ f. activations f m.memory o (m.regs 30) (frame_before m.memory (m.regs 30) m.older) (m.regs 31 + 8) (but_first m.older)) (same_descriptors h m)
        ∙ ap (λ x. activations (descriptor_at h) m.memory o x (frame_before m.memory x m.older) (m.regs 31 + 8) (but_first m.older)) fp
        ∙ ap (λ y. activations (descriptor_at h) m.memory o (window 14) (frame_before m.memory (window 14) m.older) (y + 8) (but_first m.older)) ret
        ∙ ap (λ held. activations (descriptor_at h) m.memory o (window 14) (frame_before m.memory (window 14) held) (window 15 + 8) (but_first held)) older_is
        ∙ ap (λ v. activations (descriptor_at h) m.memory o (window 14) v (window 15 + 8) []) before
        ∙ rest_same.0

    view_now : InFrame hm c.body
    view_now =
        let words = frame_words (body_in h.bodies c.body) in
        record {
          sp = r.view.sp;
          pc = r.view.pc;
          known = r.view.known;
          running = r.view.running;
          frame = record { ends = fp ∙ c.room.ends ∙ ap (λ q. q + 4 * words) (sym frame_is); place = (let P : ℕ → Type 0 = λ q. HasFrame q words in subst P (sym frame_is) c.room.place) };
          older = o;
          count = count_is;
          few = omega (arith, r.view.few, e);
          held = (let P : List Window → Type 0 = λ q. length q ≤ suc o in subst P (sym older_is) (omega arith));
          callers = callers_now;
        }

    behind_now : IsBehindCall hm back c.body c.number c.node
    behind_now = record { at = c.call.at; unit = unit_kept h m c.body c.call.at apart.code c.call.unit; node_is = c.call.node_is; call = c.call.call; address = c.call.address }

    -- the frame as it was
    frame_now : (let x = body_in h.bodies c.body in viewed m c.body c.number (frame_locals x) (depth_from 0 x.nodes c.number - taken c.node) ≡ its_frame)
    frame_now =
        let x = body_in h.bodies c.body in
        let words = frame_words x in
        let locals = frame_locals x in
        let k1 = depth_from 0 x.nodes c.number in
        let d = plain_descriptor c.body c.number locals (k1 - taken c.node) in
        let room = (run c.body).room c.number in
        ap (λ q. shown m.memory q (m.regs 14) d) window_is
        ∙ ap (λ q. shown m.memory window q d) frame_is
        ∙ shown_same lain m.memory window place (4 * words) d (plain_fits words c.body c.number locals (k1 - taken c.node) (omega (arith, room, depth_is x.nodes c.number))) (λ a from to. high a (omega (arith, from, c.room.place.1)))
        ∙ ap (shown lain window place) (sym (told_call h back c.body c.number c.node c.call))

    pub resumes : h.current < 4 → Resumes h m k r.view.older
    unfolding view_now
    resumes low =
        let x = body_in h.bodies c.body in
        let locals = frame_locals x in
        let j = depth_from 0 x.nodes c.number - taken c.node in
        let kept = kept_apart h m goal hosted run apart in
        let p = pended_behind hm c.body c.number c.node back view_now kept.hosted (run_kept h m run) low behind_now stands in
        let answer = m.regs 8 in
        let number : its_frame.next ≡ c.number = ap (λ (q : Frame). q.next) (sym frame_now) in
        let moved : p.now ≡ moved_on (answer ∷ its_frame.pending) its_frame =
        p.shows ∙ ap (λ (q : Frame). record q { next = c.number + 1; pending = answer ∷ q.pending }) frame_now
        ∙ ap (λ (q : ℕ). record its_frame { next = q + 1; pending = answer ∷ its_frame.pending }) (sym number) in
        let ts = threads_from h 0 h.statuses in
        record {
          to = p.to;
          goes = p.goes;
          body = c.body;
          number = c.number + 1;
          next = p.next;
          hosted = p.view.hosted;
          goal = p.view.goal;
          left = p.view.left;
          runs = p.view.runs;
          threads =
              p.view.threads
              ∙ ap (λ q. slice_set q h.current (Going (p.now ∷ callers_of hm o))) (threads_set h hm 0 h.current h.statuses r.view.sp r.view.pc r.view.known refl (omega arith) r.view.running kept.waits)
              ∙ set_set ts h.current (Going (seen hm)) (Going (p.now ∷ callers_of hm o))
              ∙ ap (λ q. slice_set ts h.current (Going (p.now ∷ q))) tail_now
              ∙ ap (λ q. slice_set ts h.current (Going (q ∷ rest))) moved
              ∙ ap (λ q. slice_set ts h.current (answered_to q answer)) (sym left_shown);
          heap = p.heap;
          counted = p.counted;
          cost = p.cost;
          top = p.top;
        }
