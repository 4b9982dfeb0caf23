-- A block that a message is for is entered, where it meets the block's own method.
use Rattle.std.proofs.Common.{◌≡◌, ℕ, suc, ◌+◌, ◌%◌, ◌<◌, ◌≤◌, refl, ◌∙◌, ap, sym, subst, arith}
use Rattle.std.specs.Prelude.{true, List, ◌∷◌, Some, slice_get}
use Rattle.self_terms.specs.declared.nodes.Node.{Node}
use Rattle.self_terms.specs.declared.values.BodyId.{BodyId}
use Rattle.self_terms.specs.declared.values.Value.{Value}
use Rattle.self_terms.specs.declared.values.Value.TheVariants as values
use Rattle.self_terms.specs.Depths.{depth}
use Rattle.sparc_store.specs.Words.{Words, word_at, HasFrame}
use Rattle.sparc_store.specs.Windows.{kept, saved, but_spilled}
use Rattle.sparc_machine.specs.State.{MachineState, stack_of}
use Rattle.source_model.specs.Messages.{Met}
use Rattle.source_model.specs.Soundness.{body_in}
use Rattle.source_model.specs.State.{State}
use Rattle.heap_cells.specs.Standing.{IsValue}
use Rattle.frame_walk.specs.Places.{Frame, holder_offset}
use Rattle.frame_walk.specs.Walk.{activations}
use Rattle.frame_moves.proofs.Moving.{save_stays}
use Rattle.raw_steps.specs.Sends.{frame_at, block_entry, block_words, maker_frame}
use Rattle.raw_steps.specs.Stands.{Sense}
use Rattle.raw_steps.proofs.Evaluating.{block_evaluates}
use Rattle.plain_words.specs.Moves.{IsContext, IsEvaluated, given_holder}
use Rattle.plain_words.specs.Showing.{viewed}
use Rattle.plain_words.specs.Units.{initial_words, owns_context, frame_locals}
use Rattle.plain_runs.specs.Host.{Host, raw_of, descriptor_at}
use Rattle.plain_runs.specs.Sound.{RunsAt, IsCaller, callers_of, entry_frame, ending_stub}
use Rattle.plain_runs.specs.Course.{with_machine, CanGo}
use Rattle.plain_runs.proofs.Working.{callers_have_room}
use Rattle.plain_steps.specs.Steps.{StandsFor}
use Rattle.plain_sends.specs.Messages.{IsMessaged}
use Rattle.plain_sends.proofs.Settling.{KeptTo, StillThere, kept_to, stays_there}
use Rattle.plain_evaluates.specs.Evaluates.{BlocksAreEntered, frames_waiting}
use Rattle.plain_evaluates.proofs.Asked.{sender_shown, machine_called, call_settles, AtEntry, at_entry}
use Rattle.plain_evaluates.proofs.Called.{entry_place, sender_laid, sender_sound}
use Rattle.plain_evaluates.proofs.Entered.{entry_steps}
use Rattle.plain_evaluates.proofs.Heaped.{InHeap, same_word}
use Rattle.plain_evaluates.proofs.Initials.{initials_are}
use Rattle.plain_evaluates.proofs.Inside.{sender_frame}
use Rattle.plain_evaluates.proofs.Makers.{Holds, all_hold, marked_there, block_there}
use Rattle.plain_evaluates.proofs.Methods.{words_given, many_given}
use Rattle.plain_evaluates.proofs.Views.{sender_seen}

-- a word of four that a reference names
pub in_cell : (w d : ℕ) → IsContext w 0 → d % 4 ≡ 3 → d < 15 → InHeap (w + d)
in_cell w d c whole low = record { aligned = omega (arith, c.tagged, whole); above = omega (arith, c.from); below = omega (arith, c.to, low) }

-- What the words of the entry read of the block.
pub record Reads (mc : MachineState) (mem : Words) (w : ℕ) (y : Frame) : Type 0 where
  pub start : IsEvaluated mc
  pub receiver : word_at mc.memory (mc.regs 8 + 11) ≡ word_at mem (w + 11)
  pub outer : word_at mc.memory (mc.regs 8 + 7) ≡ word_at mem (w + 7)
  pub holder : given_holder true mc ≡ y.holder

module _ (z : Sense) (h : Host) (s : State) (b n : ℕ) (node : Node) (args name : ℕ) (met : Met) (r : RunsAt h b n node) (mt : MachineState) (q : IsMessaged z h s b n node args name met r mt) (stood : StandsFor z h s) (can : CanGo h) (c goal cost at holder : ℕ) (low : goal ≤ 1000000000) where
  abbrev mc : MachineState
  mc = machine_called z h s b n node args name met r mt q goal cost at holder

  abbrev hm : Host
  hm = with_machine h mc

  abbrev mem : Words
  mem = (raw_of h).mem

  abbrev f : Frame
  f = viewed h.machine b n (frame_locals (body_in h.bodies b)) (depth (body_in h.bodies b).nodes n)

  kept_called : KeptTo h mc goal
  kept_called = kept_to h mc goal (call_settles z h s b n node args name met r mt q can goal cost at holder low)

  still : StillThere h mc b r.view.older
  still = stays_there h mc b goal r.view can.hosted can.runs kept_called

  -- the sender waits, and those behind it
  waits : sender_frame hm b n node ∷ callers_of hm r.view.older ≡ frames_waiting z h s b n node args name met r mt q
  waits =
      ap (λ (y : Frame). y ∷ callers_of hm r.view.older) (sender_shown h b n node mc goal r can kept_called ∙ ap {A = List ℕ} (λ ws. frame_at f.next ws f) (sym q.rest))
      ∙ ap (λ (ys : List Frame). frame_at f.next q.words.rest f ∷ ys) still.callers

  reads_heap : (a : ℕ) → InHeap a → word_at mc.memory a ≡ word_at mem a
  reads_heap a here = sym (same_word mc.memory a here) ∙ ap (λ (x : Words). word_at x a) (call_settles z h s b n node args name met r mt q can goal cost at holder low).memory.heap

  -- the holder of each of these frames stands in it, also behind a SAVE
  waiting_holds : AtEntry hm b n c at r.view.older node → (height : ℕ) (y : Frame) → slice_get (frames_waiting z h s b n node args name met r mt q) height ≡ Some y → Holds (saved (stack_of mc)).memory y
  waiting_holds entry height y there =
      let called = entry.called in
      let o = called.view.older in
      let entry_at = entry_frame h.current in
      let st = save_stays (descriptor_at hm) (IsCaller hm) entry_at ending_stub (suc o) (mc.regs 15 + 8) (stack_of mc) (callers_have_room hm called.runs) (entry_place h.current can.current) (sender_sound hm b n c at node called) (sender_laid hm b n c at node called) in
      let same : activations (descriptor_at hm) (saved (stack_of mc)).memory (suc o) (mc.regs 14) (kept mc.regs) (mc.regs 15 + 8) (but_spilled mc.older) ≡ frames_waiting z h s b n node args name met r mt q =
      st.0 ∙ sender_seen hm b n c at node called ∙ ap (λ k. sender_frame hm b n node ∷ callers_of hm k) entry.deep ∙ waits in
      all_hold hm entry_at ending_stub (saved (stack_of mc)).memory (suc o) (mc.regs 14) (kept mc.regs) (mc.regs 15 + 8) (but_spilled mc.older) st.1 height y
      (ap (λ (ys : List Frame). slice_get ys height) same ∙ there)

  pub block_reads : AtEntry hm b n c at r.view.older node → (body : BodyId) (maker : ℕ) → q.message.receiver ≡ values.Block body maker → (y : Frame) → maker_frame mem q.words (frames_waiting z h s b n node args name met r mt q) ≡ Some y
      → Reads mc mem q.words.receiver y
  block_reads entry body maker receiver y some =
      let w = q.words.receiver in
      let value : IsValue z.cells z.places (values.Block body maker) w = subst (λ (v : Value). IsValue z.cells z.places v w) receiver q.send.message.receiver in
      let has = block_there (raw_of h) s z stood.stands w maker body value in
      let is : w ≡ mc.regs 8 = q.receiver_is in
      let outer : word_at mc.memory (w + 7) ≡ word_at mem (w + 7) = reads_heap (w + 7) (in_cell w 7 has.block refl (omega arith)) in
      let context : IsContext (word_at mc.memory (w + 7)) 0 = subst (λ (k : ℕ). IsContext k 0) (sym outer) has.context in
      let mark : word_at mc.memory (word_at mc.memory (w + 7) + 7) ≡ word_at mem (word_at mem (w + 7) + 7) =
      reads_heap (word_at mc.memory (w + 7) + 7) (in_cell (word_at mc.memory (w + 7)) 7 context refl (omega arith)) ∙ ap (λ k. word_at mem (k + 7)) outer in
      let found = marked_there (word_at mem (word_at mem (w + 7) + 7)) (frames_waiting z h s b n node args name met r mt q) y some in
      let holds = waiting_holds entry found.height y found.there in
      let marked : y.mark ≡ word_at mc.memory (word_at mc.memory (w + 7) + 7) = found.marked ∙ sym mark in
      let at_mark : y.mark ≡ word_at mc.memory (word_at mc.memory (mc.regs 8 + 7) + 7) = marked ∙ ap (λ k. word_at mc.memory (word_at mc.memory (k + 7) + 7)) is in
      record {
        start = record {
          block = subst (λ (k : ℕ). IsContext k 0) is has.block;
          maker = subst (λ (k : ℕ). IsContext (word_at mc.memory (k + 7)) 0) is context;
          home = subst (λ (k : ℕ). HasFrame k 27) at_mark holds.frame;
        };
        receiver = ap (λ k. word_at mc.memory (k + 11)) (sym is) ∙ reads_heap (w + 11) (in_cell w 11 has.block refl (omega arith));
        outer = ap (λ k. word_at mc.memory (k + 7)) (sym is) ∙ outer;
        holder = ap (λ k. word_at (saved (stack_of mc)).memory (k + holder_offset)) (sym at_mark) ∙ sym holds.word;
      }

pub blocks_entered : BlocksAreEntered
blocks_entered z h s b n node args name met r mt q stood can o c block maker holder at meets_it own receiver y some is_open goal cost few =
    let body = body_in h.bodies block.0 in
    let f = viewed h.machine b n (frame_locals (body_in h.bodies b)) (depth (body_in h.bodies b).nodes n) in
    let initial = initial_words h.references body in
    let mc = machine_called z h s b n node args name met r mt q goal cost at holder in
    let kept : KeptTo h mc goal = kept_to h mc goal (call_settles z h s b n node args name met r mt q can goal cost at holder few) in
    let entry = at_entry z h s b n node args name met r mt q can block.0 goal cost at holder is_open.unit mc.memory kept.code (stays_there h mc b goal r.view can.hosted can.runs kept) in
    let reads = block_reads z h s b n node args name met r mt q stood can block.0 goal cost at holder few entry block maker receiver y some in
    let can_do = block_evaluates (raw_of h) s z stood.stands q.sender q.older f (callers_of h r.view.older) node q.is_at q.message q.words name met q.send o c block maker meets_it own receiver y some in
    let is = can_do.words initial (initials_are z h s stood can.runs block.0) in
    entry_steps z h s b n node args name met r mt q stood can block.0 goal cost at holder few (owns_context body) true refl is_open (block_entry q.message block can_do.maker) (block_words (raw_of h).mem q.words y initial) is refl reads.receiver
    reads.holder reads.outer (words_given z h s b n node args name met r mt q can block.0 goal cost at holder is_open.same) can_do.done_is can_do.has_maker (many_given z h s b n node args name met r mt q block.0 is_open.same) reads.start
