-- Where the service can't enter what a message meets.
use Rattle.std.proofs.Common.{◌≡◌, ℕ, suc, ◌+◌, ◌<◌, ◌≤◌, refl, ◌∙◌, ap, sym, arith}
use Rattle.std.specs.Prelude.{true, ◌∷◌, length, Some}
use Rattle.std.proofs.lemmas.Bool.{cond-true}
use Rattle.self_terms.specs.declared.bodies.Body.{Body}
use Rattle.self_terms.specs.declared.errors.ErrorName.TheVariants as errors
use Rattle.self_terms.specs.declared.nodes.Node.{Node}
use Rattle.self_terms.specs.Depths.{depth}
use Rattle.sparc_machine.specs.State.{MachineState}
use Rattle.source_model.specs.Messages.{Met, body_of}
use Rattle.source_model.specs.Sends.{enters, entry_cost}
use Rattle.source_model.specs.Soundness.{body_in}
use Rattle.source_model.specs.State.{State}
use Rattle.source_model.specs.Step.{done}
use Rattle.frame_walk.specs.Places.{Frame}
use Rattle.raw_steps.specs.Sends.{Entry, here_of, at_node, begins, method_entry, block_entry, maker_frame}
use Rattle.raw_steps.specs.Stands.{Sense, makes_blocks}
use Rattle.raw_steps.proofs.Evaluating.{block_evaluates, block_refused}
use Rattle.raw_steps.proofs.Refusing.{overflows, fills}
use Rattle.raw_steps.proofs.Sending.{method_enters}
use Rattle.plain_words.specs.Showing.{viewed}
use Rattle.plain_words.specs.Units.{owns_context, frame_locals}
use Rattle.plain_runs.specs.Host.{Host, raw_of}
use Rattle.plain_runs.specs.Sound.{RunsAt, callers_of}
use Rattle.plain_steps.specs.Steps.{StandsFor}
use Rattle.plain_sends.specs.Messages.{IsMessaged}
use Rattle.plain_evaluates.specs.Evaluates.{context_words, frames_waiting}
use Rattle.plain_evaluates.specs.Refusing.{IsError, IsCostly, MethodsAreRefused, BlocksAreRefused}
use Rattle.plain_evaluates.proofs.Entered.{many_older, wants_one}
use Rattle.plain_evaluates.proofs.Marks.{decides}

module _ (z : Sense) (h : Host) (s : State) (b n : ℕ) (node : Node) (args name : ℕ) (met : Met) (r : RunsAt h b n node) (mt : MachineState) (q : IsMessaged z h s b n node args name met r mt) (stood : StandsFor z h s) where
  counted : mt.regs 4 ≡ suc (length q.older)
  counted = q.moved.kept 4 refl ∙ r.view.count ∙ ap suc (sym (many_older z h s b n node args name met r mt q stood))

  module _ (e : Entry) (done_is : done (here_of s q.sender q.older) node ≡ enters (begins s e) (at_node q.sender.next q.message.rest q.sender ∷ q.older) s) where
    pub too_many : 4096 ≤ mt.regs 4 → IsError z h s b n node args name met r mt q errors.StackOverflow
    too_many many = done_is ∙ overflows (begins s e) (at_node q.sender.next q.message.rest q.sender ∷ q.older) s (omega (arith, many, counted))

    -- the source asks for as much as the words do
    costs : (c : ℕ) → e.body ≡ c → owns_context (body_in h.bodies c) ≡ true → entry_cost (body_of s e.body) ≡ context_words h c
    costs c is owns =
        let x = body_of s e.body in
        let y = body_in h.bodies c in
        let same : x ≡ y = ap (λ k. body_in s.bodies k) is ∙ ap (λ bs. body_in bs c) (sym stood.bodies) in
        let wants : makes_blocks s e.body ≡ true = wants_one h s c e.body stood.bodies (sym is) owns in
        cond-true (makes_blocks s e.body) (4 + length x.arguments + length x.locals) 0 wants
        ∙ ap (λ (k : Body). 4 + length k.arguments + length k.locals) same
        ∙ omega arith

    pub too_costly : (c : ℕ) → e.body ≡ c → mt.regs 4 < 4096 → owns_context (body_in h.bodies c) ≡ true → IsCostly h mt (context_words h c) → IsError z h s b n node args name met r mt q errors.StoreFull
    too_costly c is few owns much =
        let cost = costs c is owns in
        let paid : h.cost + h.machine.regs 3 ≡ s.cost = stood.stands.cost in
        done_is ∙ fills (begins s e) (at_node q.sender.next q.message.rest q.sender ∷ q.older) s (omega (arith, few, counted)) (omega (arith, much, cost, paid, q.moved.kept 3 refl))

pub methods_refused : MethodsAreRefused
methods_refused z h s b n node args name met r mt q stood can o c meets_it low =
    let f = viewed h.machine b n (frame_locals (body_in h.bodies b)) (depth (body_in h.bodies b).nodes n) in
    let done_is = method_enters (raw_of h) s z stood.stands q.sender q.older f (callers_of h r.view.older) node q.is_at q.message q.words name met q.send o c meets_it low in
    record {
      overflow = λ many. too_many z h s b n node args name met r mt q stood (method_entry q.message o c) done_is many;
      full = λ few owns much. too_costly z h s b n node args name met r mt q stood (method_entry q.message o c) done_is c.0 refl few owns much;
    }

pub blocks_refused : BlocksAreRefused
blocks_refused z h s b n node args name met r mt q stood can o c block maker meets_it own receiver =
    let f = viewed h.machine b n (frame_locals (body_in h.bodies b)) (depth (body_in h.bodies b).nodes n) in
    let fs = callers_of h r.view.older in
    let d = decides z h s b n node args name met r mt q stood can block maker receiver in
    let evaluates = λ (y : Frame) (some : maker_frame (raw_of h).mem q.words (frames_waiting z h s b n node args name met r mt q) ≡ Some y). block_evaluates (raw_of h) s z stood.stands q.sender q.older f fs node q.is_at q.message q.words name met q.send o c block maker meets_it own receiver y some in
    record {
      gone = λ e. block_refused (raw_of h) s z stood.stands q.sender q.older f fs node q.is_at q.message q.words name met q.send o c block maker meets_it own receiver (d.gone e);
      overflow = λ e many. (let y = d.live e in
          let can_do = evaluates y.0 y.1 in
          too_many z h s b n node args name met r mt q stood (block_entry q.message block can_do.maker) can_do.done_is many);
      full = λ e few owns much. (let y = d.live e in
          let can_do = evaluates y.0 y.1 in
          too_costly z h s b n node args name met r mt q stood (block_entry q.message block can_do.maker) can_do.done_is block.0 refl few owns much);
    }
