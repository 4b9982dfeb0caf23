-- What is found tells what the message meets.
use Rattle.std.proofs.Common.{◌≡◌, ℕ, ◌+◌, ◌*◌, ◌≤◌, refl, ◌∙◌, ap, sym, subst, arith, inl, inr}
use Rattle.std.specs.Prelude.{◌⊎◌, is_some, true, false, List, length, ◌∷◌, Option, Some, None, slice_get}
use Rattle.std.proofs.lemmas.Bool.{le-ltb, lt-ltb}
use Rattle.std.proofs.lemmas.Option.{same_Some, none-some}
use Rattle.self_terms.specs.declared.bodies.Body.{Body}
use Rattle.self_terms.specs.declared.nodes.Node.{Node}
use Rattle.self_terms.specs.declared.nodes.Node.TheVariants as nodes
use Rattle.self_terms.specs.declared.nodes.Selector.{Selector}
use Rattle.self_terms.specs.declared.values.BodyId.{BodyId}
use Rattle.self_terms.specs.declared.values.Value.{Value}
use Rattle.self_terms.specs.declared.values.Value.TheVariants as values
use Rattle.object_maps.specs.declared.maps.SlotKind.TheVariants.{Constant, Parent, Field, Assign, Method as MethodSlot}
use Rattle.slot_lookup.specs.declared.sends.Found.{Found}
use Rattle.slot_lookup.specs.declared.sends.Found.TheVariants.{NotUnderstood, One, Ambiguous}
use Rattle.sparc_store.specs.Words.{word_at}
use Rattle.source_model.specs.declared.objects.Content.TheVariants.{Method}
use Rattle.source_model.specs.Formed.{IsWellFormed}
use Rattle.source_model.specs.Messages.{Met, Missing, Holds, body_of}
use Rattle.self_terms.specs.Depths.{taken}
use Rattle.source_model.specs.Sends.{Message}
use Rattle.source_model.specs.Soundness.{body_in, HasBody, Accepts, BlockAccepts, MetAccepts, NodeAccepts}
use Rattle.source_model.specs.State.{Activation, Running, State}
use Rattle.source_model.specs.Step.{node_at, value_at, stated, implied}
use Rattle.source_model.proofs.Finding.{finds_messages}
use Rattle.source_model.proofs.Soundly.{finds_arguments, finds_values}
use Rattle.raw_steps.specs.Sends.{here_of}
use Rattle.raw_steps.specs.Stands.{Sense}
use Rattle.plain_runs.specs.Host.{Host}
use Rattle.plain_sends.specs.Found.{data_word}
use Rattle.plain_sends.specs.Sends.{selector_of, met_of, IsData}
use Rattle.plain_answers.specs.Found.{IsMethod}
use Rattle.plain_answers.specs.Whole.{whole}
use Rattle.plain_lookups.specs.Telling.{begins_at, IsEvaluated, FoundTells}
use Rattle.plain_words.specs.Units.{of_block}

-- data and its word
pub data_told : {z : Sense} {h : Host} {s : State} {receiver : Option Value} {w name : ℕ} {met : Met} (r : Host) (f : Found) → FoundTells z h s r.machine.memory receiver w name f met → (word : ℕ) → data_word (whole r) f ≡ Some word → IsData z met word
data_told {z = z} {met = met} r (One holder (Constant u)) tells word e = subst (IsData z met) (same_Some u word e) (tells.constant holder u refl)
data_told {z = z} {met = met} r (One holder (Parent u)) tells word e = subst (IsData z met) (same_Some u word e) (tells.parent holder u refl)
data_told {z = z} {met = met} r (One holder (Field place)) tells word e = subst (IsData z met) (same_Some (word_at r.machine.memory (holder + 7 + 4 * place)) word e) (tells.field holder place refl).known
data_told r (One holder (Assign place)) tells word e = absurd (none-some word e)
data_told r (One holder (MethodSlot c)) tells word e = absurd (none-some word e)
data_told r NotUnderstood tells word e = absurd (none-some word e)
data_told r (Ambiguous a b) tells word e = absurd (none-some word e)

-- What a method that was found is.

-- an object's own method has a body that takes as many arguments as the message has, and stands in no other's; a block's is the block's body, which
-- stands in one
pub data IsFoundMethod (z : Sense) (s : State) (bodies : List Body) (args name holder : ℕ) (c : BodyId) (receiver : Option Value) (w : ℕ) (met : Met) : Type 0 where
  OfObject : IsMethod z s met holder c → Accepts bodies c.0 args None → IsFoundMethod z s bodies args name holder c receiver w met
  OfBlock : (outer : ℕ) → IsEvaluated z s receiver met name holder c w → Accepts bodies c.0 args (Some outer) → IsFoundMethod z s bodies args name holder c receiver w met

-- the message of a node that sends has so many arguments, and is accepted; where its lookup begins at a value, that is its receiver
record Accepted (home : ℕ → ℕ) (s : State) (node : Node) (a : Activation) (args : ℕ) (met : Met) : Type 0 where
  message : Message
  many : length message.arguments ≡ args
  accepts : MetAccepts home s message met
  receives : (v : Value) → begins_at node a ≡ Some v → message.receiver ≡ v

accepted_as : (s : State) (a : Activation) (older : List Activation) (node : Node) (sel : Selector) → slice_get s.activities s.current ≡ Some (Running (a ∷ older)) → node_at (body_of s a.body) a.next ≡ node → selector_of node ≡ Some sel
    → (w : IsWellFormed s) → Accepted w.0 s node a sel.args (met_of node s a)
accepted_as s a older node sel here is given w = by_node node given (finds_values w.0 s a older node w.1.well (record { here = here; node = is })) (subst (λ (x : Node). NodeAccepts w.0 (here_of s a older) x) is (finds_messages w.0 s w.1 a older here))
  where
    by_node : (x : Node) → selector_of x ≡ Some sel → taken x ≤ length a.pending → NodeAccepts w.0 (here_of s a older) x → Accepted w.0 s x a sel.args (met_of x s a)
    by_node (nodes.Send y) e enough ok = record {
      message = stated y.args (here_of s a older);
      many = finds_arguments y.args a.pending (omega (arith, enough)) ∙ ap (λ (q : Selector). q.args) (same_Some y sel e);
      accepts = ok;
      receives = λ v f. same_Some (value_at a.pending y.args) v f;
    }
    by_node (nodes.SelfSend y) e enough ok = record {
      message = implied y.args (here_of s a older);
      many = finds_arguments y.args a.pending enough ∙ ap (λ (q : Selector). q.args) (same_Some y sel e);
      accepts = ok;
      receives = λ v f. same_Some a.receiver v f;
    }
    by_node (nodes.Resend y) e enough ok = record {
      message = implied y.args (here_of s a older);
      many = finds_arguments y.args a.pending enough ∙ ap (λ (q : Selector). q.args) (same_Some y sel e);
      accepts = ok;
      receives = λ v f. absurd (none-some v f);
    }
    by_node (nodes.Directed parent y) e enough ok = record {
      message = implied y.args (here_of s a older);
      many = finds_arguments y.args a.pending enough ∙ ap (λ (q : Selector). q.args) (same_Some y sel e);
      accepts = ok;
      receives = λ v f. absurd (none-some v f);
    }
    by_node _ e enough ok = absurd (none-some sel e)

accepts_at : (home : ℕ → ℕ) (s : State) (m : Message) (met new : Met) → met ≡ new → MetAccepts home s m met → MetAccepts home s m new
accepts_at home s m met new e ok = subst (MetAccepts home s m) e ok

-- A method that was found has a body which takes as many arguments as a message that is accepted; a block that it evaluates is the message's receiver.
pub method_by : (z : Sense) (s : State) (bodies : List Body) → bodies ≡ s.bodies → (formed : IsWellFormed s) → (receiver : Option Value) (met : Met) (args : ℕ) (m : Message) → length m.arguments ≡ args → MetAccepts formed.0 s m met → ((v : Value) → receiver ≡ Some v → m.receiver ≡ v)
    → (w name holder : ℕ) (c : BodyId) → IsMethod z s met holder c ⊎ IsEvaluated z s receiver met name holder c w → IsFoundMethod z s bodies args name holder c receiver w met
method_by z s bodies same formed receiver met args m many accepts receives w name holder c (inl i) =
    let ok = (accepts_at formed.0 s m met (Holds i.object (Method c)) i.met_is accepts).0 (lt-ltb i.object (length s.things) i.inside) in
    OfObject i (subst (λ (bs : List Body). Accepts bs c.0 args None) (sym same) (subst (λ (k : ℕ). Accepts s.bodies c.0 k None) many ok))
method_by z s bodies same formed receiver met args m many accepts receives w name holder c (inr q) =
    let beyond = (accepts_at formed.0 s m met (Holds (length s.things) (Method c)) q.evaluates.met_is accepts).1 (le-ltb (length s.things) (length s.things) (omega arith)) in
    let of_block = subst (BlockAccepts s.bodies formed.0 (length m.arguments)) (receives (values.Block q.block q.maker) q.receiver_is) beyond in
    let mine = subst (λ (k : BodyId). Accepts s.bodies k.0 (length m.arguments) (Some (formed.0 q.maker))) (sym q.evaluates.body_is) of_block in
    let here = subst (λ (bs : List Body). Accepts bs c.0 (length m.arguments) (Some (formed.0 q.maker))) (sym same) mine in
    OfBlock (formed.0 q.maker) q (subst (λ (k : ℕ). Accepts bodies c.0 k (Some (formed.0 q.maker))) many here)

pub method_told : (z : Sense) (s : State) (bodies : List Body) → bodies ≡ s.bodies → (a : Activation) (older : List Activation) (node : Node) (sel : Selector) → slice_get s.activities s.current ≡ Some (Running (a ∷ older)) → node_at (body_of s a.body) a.next ≡ node
    → selector_of node ≡ Some sel → IsWellFormed s → (w name holder : ℕ) (c : BodyId) → IsMethod z s (met_of node s a) holder c ⊎ IsEvaluated z s (begins_at node a) (met_of node s a) name holder c w → IsFoundMethod z s bodies sel.args name holder c (begins_at node a) w (met_of node s a)
method_told z s bodies same a older node sel here is given formed w name holder c found =
    let g = accepted_as s a older node sel here is given formed in
    method_by z s bodies same formed (begins_at node a) (met_of node s a) sel.args g.message g.many g.accepts g.receives w name holder c found

pub given_by : (z : Sense) (s : State) (bodies : List Body) (args name holder : ℕ) (c : BodyId) (receiver : Option Value) (w : ℕ) (met : Met) → IsFoundMethod z s bodies args name holder c receiver w met → HasBody bodies c.0
given_by z s bodies args name holder c receiver w met (OfObject m ok) = ok.given
given_by z s bodies args name holder c receiver w met (OfBlock outer q ok) = ok.given

pub arguments_by : (z : Sense) (s : State) (bodies : List Body) (args name holder : ℕ) (c : BodyId) (receiver : Option Value) (w : ℕ) (met : Met) → IsFoundMethod z s bodies args name holder c receiver w met → length (body_in bodies c.0).arguments ≡ args
arguments_by z s bodies args name holder c receiver w met (OfObject m ok) = ok.arguments
arguments_by z s bodies args name holder c receiver w met (OfBlock outer q ok) = ok.arguments

-- A block's own method is met behind all objects, and so isn't an object's.
abbrev object_of : Met → ℕ
object_of (Holds o content) = o
object_of (Missing e) = 0

never_both : (z : Sense) (s : State) (name holder : ℕ) (c : BodyId) (receiver : Option Value) (w : ℕ) (met : Met) → IsMethod z s met holder c → IsEvaluated z s receiver met name holder c w → ⊥
never_both z s name holder c receiver w met m q =
    let one : object_of met ≡ m.object = ap object_of m.met_is in
    let two : object_of met ≡ length s.things = ap object_of q.evaluates.met_is in
    absurd (omega (arith, one, two, m.inside))

-- which kind of body it is
pub method_body : (z : Sense) (s : State) (bodies : List Body) (args name holder : ℕ) (c : BodyId) (receiver : Option Value) (w : ℕ) (met : Met) → IsFoundMethod z s bodies args name holder c receiver w met → IsMethod z s met holder c → of_block (body_in bodies c.0) ≡ false
method_body z s bodies args name holder c receiver w met (OfObject m ok) own = ap is_some ok.outer
method_body z s bodies args name holder c receiver w met (OfBlock outer q ok) own = absurd (never_both z s name holder c receiver w met own q)

pub block_body : (z : Sense) (s : State) (bodies : List Body) (args name holder : ℕ) (c : BodyId) (receiver : Option Value) (w : ℕ) (met : Met) → IsFoundMethod z s bodies args name holder c receiver w met → IsEvaluated z s receiver met name holder c w → of_block (body_in bodies c.0) ≡ true
block_body z s bodies args name holder c receiver w met (OfObject m ok) own = absurd (never_both z s name holder c receiver w met m own)
block_body z s bodies args name holder c receiver w met (OfBlock outer q ok) own = ap is_some ok.outer
