-- A method that a message meets is entered.
use Rattle.std.proofs.Common.{◌≡◌, ◌≢◌, ℕ, zero, suc, ◌-◌, ◌<◌, refl, ◌∙◌, ap, sym, arith}
use Rattle.std.specs.Prelude.{false, List, [], ◌∷◌, ◌++◌, length, Some, slice_get}
use Rattle.self_terms.specs.declared.nodes.Node.{Node}
use Rattle.self_terms.specs.Depths.{depth}
use Rattle.sparc_machine.specs.State.{MachineState}
use Rattle.source_model.specs.Messages.{Met}
use Rattle.source_model.specs.Soundness.{body_in}
use Rattle.source_model.specs.State.{State}
use Rattle.raw_steps.specs.Sends.{method_entry, method_words}
use Rattle.raw_steps.specs.Stands.{Sense}
use Rattle.raw_steps.proofs.Refusing.{method_words_are}
use Rattle.raw_steps.proofs.Sending.{method_enters}
use Rattle.raw_steps.proofs.Values.{lengths}
use Rattle.plain_words.specs.Moves.{registers_from}
use Rattle.plain_words.specs.Showing.{viewed}
use Rattle.plain_words.specs.Units.{initial_words, owns_context, frame_locals}
use Rattle.plain_runs.specs.Host.{Host, raw_of}
use Rattle.plain_runs.specs.Sound.{RunsAt, callers_of}
use Rattle.plain_runs.specs.Course.{CanGo}
use Rattle.plain_runs.specs.Services.{handed}
use Rattle.plain_steps.specs.Steps.{StandsFor}
use Rattle.plain_sends.specs.Messages.{IsMessaged}
use Rattle.plain_evaluates.specs.Evaluates.{MethodsAreEntered}
use Rattle.plain_evaluates.proofs.Asked.{machine_called, arguments_kept, holder_back}
use Rattle.plain_evaluates.proofs.Entered.{all_words, registers_long, entry_steps}
use Rattle.plain_evaluates.proofs.Initials.{initials_are}

some_at : {A : Type 0} (xs : List A) (n : ℕ) → n < length xs → (x : A) × (slice_get xs n ≡ Some x)
some_at [] n h = absurd (omega (arith, h))
some_at (x ∷ xs) zero h = (x, refl)
some_at (x ∷ xs) (suc n) h = some_at xs n (omega (arith, h))

-- the reference to an object isn't 0
object_there : (z : Sense) (h : Host) (s : State) → StandsFor z h s → (o holder : ℕ) → o < length s.things → slice_get z.places.objects o ≡ Some holder → holder ≢ 0
object_there z h s stood o holder low at e =
    let t = some_at s.things o low in
    let tagged = (stood.stands.heap.means.object o holder t.0 at t.1).there.0 in
    absurd (omega (arith, tagged, e))

-- the arguments stand in the outs, and the words of the locals behind them
pub words_given : (z : Sense) (h : Host) (s : State) (b n : ℕ) (node : Node) (args name : ℕ) (met : Met) (r : RunsAt h b n node) (mt : MachineState) (q : IsMessaged z h s b n node args name met r mt) → CanGo h → (c goal cost at holder : ℕ) → length (body_in h.bodies c).arguments ≡ args
    → all_words h c (machine_called z h s b n node args name met r mt q goal cost at holder) ≡ q.words.arguments ++ initial_words h.references (body_in h.bodies c)
words_given z h s b n node args name met r mt q can c goal cost at holder same =
    let k = length (body_in h.bodies c).arguments in
    ap (λ (ws : List ℕ). ws ++ initial_words h.references (body_in h.bodies c))
    (arguments_kept mt.regs (mt.pc - 4) (handed (mt.regs 8) holder) k (can.runs c).translates.arguments ∙ ap (registers_from mt.regs 9) same ∙ sym q.arguments)

-- as many arguments as the body has
pub many_given : (z : Sense) (h : Host) (s : State) (b n : ℕ) (node : Node) (args name : ℕ) (met : Met) (r : RunsAt h b n node) (mt : MachineState) (q : IsMessaged z h s b n node args name met r mt) (c : ℕ) → length (body_in h.bodies c).arguments ≡ args
    → length q.message.arguments ≡ length (body_in h.bodies c).arguments
many_given z h s b n node args name met r mt q c same =
    sym (lengths z.cells z.places q.message.arguments q.words.arguments q.send.message.arguments) ∙ ap length q.arguments ∙ registers_long mt.regs 9 args ∙ sym same

pub methods_entered : MethodsAreEntered
methods_entered z h s b n node args name met r mt q stood can o c holder at meets_it low object is_open goal cost few =
    let x = body_in h.bodies c.0 in
    let f = viewed h.machine b n (frame_locals (body_in h.bodies b)) (depth (body_in h.bodies b).nodes n) in
    let initial = initial_words h.references x in
    let is = method_words_are s z q.message q.words o holder c initial q.send.message object (initials_are z h s stood can.runs c.0) in
    let done = method_enters (raw_of h) s z stood.stands q.sender q.older f (callers_of h r.view.older) node q.is_at q.message q.words name met q.send o c meets_it low in
    entry_steps z h s b n node args name met r mt q stood can c.0 goal cost at holder few (owns_context x) false refl is_open (method_entry q.message o c) (method_words q.words holder c initial) is refl (sym q.receiver_is)
    (holder_back holder (mt.regs 8) (object_there z h s stood o holder low object)) refl (words_given z h s b n node args name met r mt q can c.0 goal cost at holder is_open.same) done tt (many_given z h s b n node args name met r mt q c.0 is_open.same) tt
