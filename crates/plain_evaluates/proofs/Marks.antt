-- The mark of a block's context tells whether its maker runs in the current activity.
use Rattle.std.proofs.Common.{◌≡◌, ◌≢◌, ℕ, zero, suc, ◌+◌, ◌*◌, ◌/◌, ◌%◌, ◌<◌, ◌≤◌, refl, ◌∙◌, ap, sym, subst, arith, inl, inr}
use Rattle.std.specs.Prelude.{Bool, true, false, nat_eq, not, ◌&&◌, find, cond, if◌then◌else◌, List, [], ◌∷◌, length, Option, Some, None, slice_get}
use Rattle.std.proofs.lemmas.Bool.{cases_eq, eqb-true, eq-eqb, ne_eqb, cond-false}
use Rattle.self_terms.specs.declared.nodes.Node.{Node}
use Rattle.self_terms.specs.declared.values.BodyId.{BodyId}
use Rattle.self_terms.specs.declared.values.Value.{Value}
use Rattle.self_terms.specs.declared.values.Value.TheVariants as values
use Rattle.self_terms.specs.Depths.{depth}
use Rattle.sparc_store.specs.Words.{Words, word_at}
use Rattle.sparc_store.specs.Windows.{saved_at, frame_before, but_first}
use Rattle.sparc_machine.specs.State.{MachineState}
use Rattle.source_model.specs.Messages.{Met}
use Rattle.source_model.specs.Soundness.{body_in}
use Rattle.source_model.specs.State.{State}
use Rattle.heap_cells.specs.Source.{Made, Plain as without, Ended, Live}
use Rattle.heap_cells.specs.Standing.{IsValue}
use Rattle.heap_cells.proofs.Numbered.{got_if}
use Rattle.heap_cells.proofs.Reading.{read_block, read_context, read_ended}
use Rattle.std.proofs.lemmas.Option.{slice_get_within}
use Rattle.frame_walk.specs.Places.{Frame}
use Rattle.frame_walk.specs.Raw.{IsFrame}
use Rattle.raw_steps.specs.Messages.{has_mark}
use Rattle.raw_steps.specs.Sends.{maker_frame, frame_at}
use Rattle.raw_steps.specs.Stands.{Sense}
use Rattle.plain_words.specs.Moves.{IsContext}
use Rattle.plain_words.specs.Showing.{viewed}
use Rattle.plain_words.specs.Units.{frame_locals, frame_words}
use Rattle.plain_runs.specs.Host.{Host, seen, waiting, raw_of, descriptor_at}
use Rattle.plain_runs.specs.Sound.{IsCaller, IsHeld, RunsAt, callers_of, entry_frame, ending_stub}
use Rattle.plain_runs.specs.Course.{CanGo}
use Rattle.plain_runs.proofs.Located.{some_is}
use Rattle.plain_runs.proofs.Working.{callers_have_room, held_have_room, same_stack}
use Rattle.plain_steps.specs.Steps.{StandsFor}
use Rattle.plain_steps.proofs.Here.{now_seen}
use Rattle.plain_sends.specs.Messages.{IsMessaged}
use Rattle.plain_evaluates.specs.Evaluates.{frames_waiting}
use Rattle.plain_evaluates.specs.Refusing.{mark_at, is_live, Decides, MarksDecide}
use Rattle.plain_evaluates.proofs.Blocks.{in_cell}
use Rattle.plain_evaluates.proofs.Free.{IsAbove, all_above, going, apart, is_current, not_current}
use Rattle.plain_evaluates.proofs.Heaped.{same_word}
use Rattle.plain_evaluates.proofs.Makers.{marked_there, block_there}

-- one that is there is found
found_by : (t : Bool) (mark : ℕ) (f : Frame) (fs : List Frame) → nat_eq f.mark mark ≡ t → (f.mark ≢ mark → (y : Frame) × (find (has_mark mark) fs ≡ Some y)) → (y : Frame) × (cond t (Some f) (find (has_mark mark) fs) ≡ Some y)
found_by true mark f fs e more = (f, refl)
found_by false mark f fs e more = more (λ same. let bad : true ≡ false = sym (eq-eqb f.mark mark same) ∙ e in absurd (cc))

found_at : (mark j : ℕ) (frames : List Frame) (x : Frame) → slice_get frames j ≡ Some x → x.mark ≡ mark → (y : Frame) × (find (has_mark mark) frames ≡ Some y)
found_at mark j [] x there marked = absurd (cc)
found_at mark zero (f ∷ fs) x there marked = found_by (nat_eq f.mark mark) mark f fs refl (λ ne. absurd (ne (ap (λ (y : Frame). y.mark) (some_is f x there) ∙ marked)))
found_at mark (suc j) (f ∷ fs) x there marked = found_by (nat_eq f.mark mark) mark f fs refl (λ ne. found_at mark j fs x there marked)

both_true : (a b : Bool) → (not a && b) ≡ true → (a ≡ false) × (b ≡ true)
both_true false true e = (refl, refl)
both_true false false e = absurd (cc)
both_true true b e = absurd (cc)

live_is : (mark sp : ℕ) → mark ≢ 0 → mark / 0x02000000 ≡ sp / 0x02000000 → (not (nat_eq mark 0) && nat_eq (mark / 0x02000000) (sp / 0x02000000)) ≡ true
live_is mark sp some same = ap (λ a. not a && nat_eq (mark / 0x02000000) (sp / 0x02000000)) (ne_eqb mark 0 some) ∙ eq-eqb (mark / 0x02000000) (sp / 0x02000000) same

module _ (z : Sense) (h : Host) (s : State) (b n : ℕ) (node : Node) (args name : ℕ) (met : Met) (r : RunsAt h b n node) (mt : MachineState) (q : IsMessaged z h s b n node args name met r mt) (stood : StandsFor z h s) (can : CanGo h) where
  abbrev f : Frame
  f = viewed h.machine b n (frame_locals (body_in h.bodies b)) (depth (body_in h.bodies b).nodes n)

  abbrev waiting_now : List Frame
  waiting_now = frames_waiting z h s b n node args name met r mt q

  callers_above : (j : ℕ) (y : Frame) → slice_get (callers_of h r.view.older) j ≡ Some y → IsAbove (h.machine.regs 30) (entry_frame h.current) y
  callers_above j y e =
      let m = h.machine in
      all_above (descriptor_at h) (IsCaller h) (entry_frame h.current) ending_stub m.memory r.view.older (m.regs 30) (frame_before m.memory (m.regs 30) m.older) (m.regs 31 + 8) (but_first m.older) (callers_have_room h can.runs) r.view.callers j y e

  one_stack : (sp words fp : ℕ) → sp % 0x02000000 + 4 * words ≤ 16781312 → fp ≡ sp + 4 * words → sp / 0x02000000 ≡ fp / 0x02000000
  one_stack sp words fp room e = omega (arith, e)

  stack_here : h.machine.regs 14 / 0x02000000 ≡ entry_frame h.current / 0x02000000
  stack_here =
      let m = h.machine in
      one_stack (m.regs 14) (frame_words (body_in h.bodies b)) (m.regs 30) r.view.frame.place.3 r.view.frame.ends
      ∙ same_stack (descriptor_at h) (IsCaller h) (entry_frame h.current) ending_stub m.memory r.view.older (m.regs 30) (frame_before m.memory (m.regs 30) m.older) (m.regs 31 + 8) (but_first m.older) (callers_have_room h can.runs) r.view.callers

  -- all of them lie in the stack of the frame in view, and none begins at 0
  record IsOurs (mark : ℕ) : Type 0 where
    some : mark ≢ 0
    stack : mark / 0x02000000 ≡ h.machine.regs 14 / 0x02000000

  waiting_ours : (j : ℕ) (y : Frame) → slice_get waiting_now j ≡ Some y → IsOurs y.mark
  waiting_ours zero y e =
      let same : h.machine.regs 14 ≡ y.mark = ap (λ (x : Frame). x.mark) (some_is _ y e) in
      record { some = λ bad. absurd (omega (arith, bad, same, r.view.frame.place.1)); stack = ap (λ k. k / 0x02000000) (sym same) }
  waiting_ours (suc j) y e =
      let up = callers_above j y e in
      record { some = λ bad. absurd (omega (arith, bad, up.from, r.view.frame.place.1, r.view.frame.ends)); stack = up.stack ∙ sym stack_here }

  -- a frame of the host's that lies in this stack is one of them
  ours_waiting : (x : Frame) → IsFrame (raw_of h).threads x → x.mark / 0x02000000 ≡ h.machine.regs 14 / 0x02000000 → (y : Frame) × (find (has_mark x.mark) waiting_now ≡ Some y)
  ours_waiting x is stack =
      let m = h.machine in
      let fs = callers_of h r.view.older in
      let g = going h 0 h.statuses is.activity is.frames is.going in
      elim (cases_eq is.activity h.current) [
        | inl same ↦
            let frames : is.frames ≡ f ∷ fs = g.are ∙ ap (λ t. if t then seen h else waiting h g.sp g.pc g.count) (is_current is.activity h.current same) ∙ now_seen h b n node r in
            let got : slice_get (f ∷ fs) is.height ≡ Some x = ap (λ (xs : List Frame). slice_get xs is.height) (sym frames) ∙ is.there in
            by_height is.height x got
        | inr ne ↦
            let frames : is.frames ≡ waiting h g.sp g.pc g.count = g.are ∙ ap (λ t. if t then seen h else waiting h g.sp g.pc g.count) (not_current is.activity h.current ne) in
            let got : slice_get (waiting h g.sp g.pc g.count) is.height ≡ Some x = ap (λ (xs : List Frame). slice_get xs is.height) (sym frames) ∙ is.there in
            let up = all_above (descriptor_at h) (IsHeld h) (entry_frame is.activity) ending_stub m.memory g.count g.sp (saved_at m.memory g.sp) g.pc [] (held_have_room h can.runs) (can.hosted.others is.activity g.sp g.pc g.count g.status ne) is.height x got in
            absurd (ne (apart is.activity h.current (sym up.stack ∙ stack ∙ stack_here)))
      ]
    where
      by_height : (j : ℕ) (x : Frame) → slice_get (f ∷ callers_of h r.view.older) j ≡ Some x → (y : Frame) × (find (has_mark x.mark) waiting_now ≡ Some y)
      by_height zero x got = found_at x.mark 0 waiting_now (frame_at f.next q.words.rest f) refl (ap (λ (y : Frame). y.mark) (some_is f x got))
      by_height (suc j) x got = found_at x.mark (suc j) waiting_now x got refl

  module _ (block : BodyId) (maker : ℕ) (receiver : q.message.receiver ≡ values.Block block maker) where
    abbrev w : ℕ
    w = q.words.receiver

    abbrev mem : Words
    mem = (raw_of h).mem

    abbrev mark : ℕ
    mark = word_at mem (word_at mem (w + 7) + 7)

    value : IsValue z.cells z.places (values.Block block maker) w
    value = subst (λ (v : Value). IsValue z.cells z.places v w) receiver q.send.message.receiver

    -- the words at the trap are those of the heap
    mark_same : mark_at mt ≡ mark
    mark_same =
        let m = h.machine in
        let has = block_there (raw_of h) s z stood.stands w maker block value in
        let outer : word_at mem (w + 7) ≡ word_at m.memory (w + 7) = same_word m.memory (w + 7) (in_cell w 7 has.block refl (omega arith)) in
        let inner : word_at mem (word_at mem (w + 7) + 7) ≡ word_at m.memory (word_at mem (w + 7) + 7) = same_word m.memory (word_at mem (w + 7) + 7) (in_cell (word_at mem (w + 7)) 7 has.context refl (omega arith)) in
        ap (λ (y : Words). word_at y (word_at y (mt.regs 8 + 7) + 7)) q.moved.memory_is
        ∙ ap (λ k. word_at m.memory (word_at m.memory (k + 7) + 7)) (sym q.receiver_is)
        ∙ ap (λ k. word_at m.memory (k + 7)) (sym outer)
        ∙ sym inner

    abbrev found : Option Frame
    found = maker_frame mem q.words waiting_now

    live_found : is_live mt ≡ true → (y : Frame) × (found ≡ Some y)
    live_found e =
        let both = both_true (nat_eq (mark_at mt) 0) (nat_eq (mark_at mt / 0x02000000) (mt.regs 14 / 0x02000000)) e in
        let some : nat_eq mark 0 ≡ false = ap (λ k. nat_eq k 0) (sym mark_same) ∙ both.0 in
        let stack : mark / 0x02000000 ≡ h.machine.regs 14 / 0x02000000 =
        ap (λ k. k / 0x02000000) (sym mark_same) ∙ eqb-true (mark_at mt / 0x02000000) (mt.regs 14 / 0x02000000) both.1 ∙ ap (λ k. k / 0x02000000) (q.moved.kept 14 refl) in
        let read = read_block (raw_of h).maps mem (raw_of h).heap z.cells z.places s.things z.made stood.stands.heap w maker block value in
        let below : maker < length z.made = (let lt = slice_get_within z.places.contexts maker (word_at mem (w + 7)) read.context in let same = stood.stands.heap.means.contexts_all in omega arith) in
        let got = got_if z.made maker below in
        by_kind some stack (word_at mem (w + 7)) refl read.context read.tagged got.0 got.1
      where
        by_kind : nat_eq mark 0 ≡ false → mark / 0x02000000 ≡ h.machine.regs 14 / 0x02000000 → (context : ℕ) → word_at mem (w + 7) ≡ context → slice_get z.places.contexts maker ≡ Some (word_at mem (w + 7)) → word_at mem (w + 7) % 4 ≡ 1
            → (x : Made) → slice_get z.made maker ≡ Some x → (y : Frame) × (found ≡ Some y)
        by_kind some stack context is at tagged without was = let none = stood.stands.heap.means.context maker (word_at mem (w + 7)) without at was in absurd (omega arith)
        by_kind some stack context is at tagged Ended was =
            let ended = read_ended (raw_of h).maps mem (raw_of h).heap z.cells z.places s.things z.made stood.stands.heap maker (word_at mem (w + 7)) at was in
            let bad : true ≡ false = sym (eq-eqb mark 0 ended) ∙ some in
            absurd (cc)
        by_kind some stack context is at tagged (Live o) was =
            let marked = (read_context (raw_of h).maps mem (raw_of h).heap z.cells z.places s.things z.made stood.stands.heap maker (word_at mem (w + 7)) o at was).mark in
            let live = stood.stands.live maker o was in
            let same : live.frame.mark ≡ mark = live.marked ∙ sym marked in
            let y = ours_waiting live.frame live.is_frame (ap (λ k. k / 0x02000000) same ∙ stack) in
            (y.0, cond-false (nat_eq mark 0) None (find (has_mark mark) waiting_now) some ∙ ap (λ k. find (has_mark k) waiting_now) (sym same) ∙ y.1)

    found_live : (y : Frame) → found ≡ Some y → is_live mt ≡ true
    found_live y e =
        let there = marked_there mark waiting_now y e in
        let ours = waiting_ours there.height y there.there in
        let same : y.mark ≡ mark_at mt = there.marked ∙ sym mark_same in
        live_is (mark_at mt) (mt.regs 14) (λ bad. ours.some (same ∙ bad)) (ap (λ k. k / 0x02000000) (sym same) ∙ ours.stack ∙ ap (λ k. k / 0x02000000) (sym (q.moved.kept 14 refl)))

    gone_by : (x : Option Frame) → found ≡ x → is_live mt ≡ false → found ≡ None
    gone_by None e gone = e
    gone_by (Some y) e gone = let bad : true ≡ false = sym (found_live y e) ∙ gone in absurd (cc)

    pub decides : Decides z h s b n node args name met r mt q
    decides =
        let m = h.machine in
        let has = block_there (raw_of h) s z stood.stands w maker block value in
        let outer : word_at mem (w + 7) ≡ word_at mt.memory (mt.regs 8 + 7) =
        same_word m.memory (w + 7) (in_cell w 7 has.block refl (omega arith)) ∙ ap (λ k. word_at m.memory (k + 7)) q.receiver_is ∙ ap (λ (y : Words). word_at y (mt.regs 8 + 7)) (sym q.moved.memory_is) in
        record {
          block = subst (λ (k : ℕ). IsContext k 0) q.receiver_is has.block;
          context = subst (λ (k : ℕ). IsContext k 0) outer has.context;
          live = live_found;
          gone = gone_by found refl;
        }

pub marks_decide : MarksDecide
marks_decide z h s b n node args name met r mt q stood can block maker receiver = decides z h s b n node args name met r mt q stood can block maker receiver
