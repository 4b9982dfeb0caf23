-- A failure goes to the handler.
use Rattle.std.proofs.Common.{◌≡◌, ℕ, ◌+◌, refl, ◌∙◌, ap, sym, subst, arith, length}
use Rattle.std.specs.Prelude.{Bool, true, false, nat_eq, List, [], ◌∷◌, Option, Some, None, slice_get}
use Rattle.std.proofs.lemmas.Bool.{lt-ltb}
use Rattle.std.proofs.lemmas.Grind.{common_steps}
use Rattle.self_terms.specs.declared.errors.ErrorName.{ErrorName}
use Rattle.self_terms.specs.declared.bodies.Body.{Body}
use Rattle.self_terms.specs.declared.names.Name.{Name}
use Rattle.self_terms.specs.declared.nodes.Node.{Node}
use Rattle.self_terms.specs.declared.nodes.Node.TheVariants as nodes
use Rattle.self_terms.specs.declared.values.Value.{Value}
use Rattle.sparc_machine.specs.State.{MachineState, with_reg}
use Rattle.slot_lookup.specs.Lookup.{found_from}
use Rattle.sparc_store.specs.Words.{Words}
use Rattle.source_model.specs.Formed.{IsWellFormed}
use Rattle.source_model.specs.Messages.{Met, body_of, meets}
use Rattle.source_model.specs.Names.{text_named}
use Rattle.source_model.specs.Primitives.{Fails as Failure, row_of, error_string, row_string}
use Rattle.source_model.specs.Sends.{Message}
use Rattle.source_model.specs.Soundness.{Accepts, MetAccepts, NodeAccepts, HandlerAccepts}
use Rattle.source_model.specs.State.{Activation, Running, State}
use Rattle.source_model.specs.Step.{handler_of, node_at, fixed_string, value_at}
use Rattle.source_model.proofs.Finding.{finds_messages}
use Rattle.raw_steps.specs.Messages.{RawMessage, asked}
use Rattle.raw_steps.specs.Sends.{here_of}
use Rattle.plain_words.specs.Moves.{is_scratch, Moved}
use Rattle.plain_words.proofs.Basics.{other_register}
use Rattle.plain_prims.proofs.Performing.{done_by_effect}
use Rattle.plain_lookups.specs.Telling.{FoundTells}
use Rattle.plain_lookups.proofs.Telling.{may, values_told, agree}
use Rattle.plain_handlers.specs.Handling.{failure_name, hands_over, FailuresAreHandled, HandlersAreFound, HandlersFit}

-- the outs are scratch registers
outs_apart : (a : Bool) (r out : ℕ) → nat_eq r out ≡ a → is_scratch r ≡ false → is_scratch out ≡ true → nat_eq r out ≡ false
outs_apart false r out e kept scratch = e
outs_apart true r out e kept scratch = (let same : r ≡ out = grind (arith, common_steps, e) in absurd (let both : is_scratch r ≡ is_scratch out = ap is_scratch same in cc))

handed_kept : (regs : ℕ → ℕ) (handler error primitive r : ℕ) → is_scratch r ≡ false → with_reg (with_reg (with_reg regs 8 handler) 9 error) 10 primitive r ≡ regs r
handed_kept regs handler error primitive r kept =
    other_register (with_reg (with_reg regs 8 handler) 9 error) 10 primitive r (outs_apart _ r 10 refl kept refl)
    ∙ other_register (with_reg regs 8 handler) 9 error r (outs_apart _ r 9 refl kept refl)
    ∙ other_register regs 8 handler r (outs_apart _ r 8 refl kept refl)

handed_moved : (m to : MachineState) (p steps handler error primitive : ℕ) → Moved m to p m.memory steps → Moved m (hands_over handler error primitive to) p m.memory steps
handed_moved m to p steps handler error primitive mv = record {
  stands = mv.stands;
  memory_is = mv.memory_is;
  counted = handed_kept_2 to.regs handler error primitive ∙ mv.counted;
  kept = λ r kept. handed_kept to.regs handler error primitive r kept ∙ mv.kept r kept;
  older = mv.older;
}
  where
    handed_kept_2 : (regs : ℕ → ℕ) (handler error primitive : ℕ) → with_reg (with_reg (with_reg regs 8 handler) 9 error) 10 primitive 2 ≡ regs 2
    handed_kept_2 regs handler error primitive = refl

-- the message to a handler, and its words
abbrev to_handler : State → Name → ℕ → ErrorName → Value → Message → Message
to_handler s name args e handler m = record { receiver = handler; arguments = fixed_string s (error_string e) ∷ fixed_string s (row_string (row_of (text_named s.names name.0) args)) ∷ []; rest = m.rest }

abbrev handler_words : ℕ → ℕ → ℕ → RawMessage → RawMessage
handler_words handler error primitive x = record { receiver = handler; arguments = error ∷ primitive ∷ []; rest = x.rest }

pub failures_are_handled : FailuresAreHandled
failures_are_handled z h s b n name args implied true r q f e is has error primitive known =
    let node = nodes.Prim name args implied true in
    let here = here_of s q.sender q.older in
    let m = asked args implied true here in
    let value = value_at q.sender.pending 0 in
    let handler = q.asks.to.regs (9 + args) in
    record {
      value = value;
      handler_is = refl;
      stands = q.handles;
      sent = record {
        at = q.at;
        moved = handed_moved h.machine q.asks.to q.at (h.machine.regs 2) handler error primitive q.asks.moved;
        behind = q.behind;
        low = q.low;
        takes = q.takes;
        sender = q.sender;
        older = q.older;
        is_at = q.is_at;
        message = to_handler s name args e value m;
        words = handler_words handler error primitive q.words;
        send = record {
          message = record { receiver = q.handles; arguments = (f.objects (s.fixed + error_string e) error known.of_error, (f.objects (s.fixed + row_string (row_of (text_named s.names name.0) args)) primitive known.of_primitive, tt)); rest = q.message.rest };
          done_is = done_by_effect s q.sender q.older name args implied true (Failure e) is;
        };
        receiver_is = refl;
        arguments = refl;
        rest = q.rest;
      };
      sender_is = refl;
      receives = refl;
    }
failures_are_handled z h s b n name args implied false r q f e is has error primitive known = absurd (cc)

-- What the handler's message meets.

pub handlers_are_found : HandlersAreFound
handlers_are_found z h s b n name args implied handler r q f error primitive g room enough =
    let mt = q.asks.to in
    let w = mt.regs (9 + args) in
    let same = q.asks.moved.memory_is in
    let message = failure_name s in
    record {
      may = may z h s f mt.memory g.value w room same g.stands enough;
      tells = subst (λ (y : Words). FoundTells z h s y (Some g.value) w message (found_from h.maps y room w message) (meets s g.value message)) (sym same) (values_told z h s f g.value w message room g.stands enough);
      heap = sym ((agree z h s f mt.memory g.value w same g.stands).from room message);
    }

-- it is accepted with two arguments
pub two_accepted : (s : State) (a : Activation) (older : List Activation) (name : Name) (args : ℕ) (implied handler : Bool) (v : Value) → slice_get s.activities s.current ≡ Some (Running (a ∷ older)) → node_at (body_of s a.body) a.next ≡ nodes.Prim name args implied handler
    → handler_of handler (here_of s a older) ≡ Some v → (w : IsWellFormed s) → MetAccepts w.0 s (record { receiver = v; arguments = v ∷ v ∷ []; rest = [] }) (meets s v (failure_name s))
two_accepted s a older name args implied handler v here is one w =
    let accepts = subst (λ (x : Node). NodeAccepts w.0 (here_of s a older) x) is (finds_messages w.0 s w.1 a older here) in
    let P : Option Value → Type 0 = HandlerAccepts w.0 s in
    (subst P one accepts) (record { receiver = v; arguments = v ∷ v ∷ []; rest = [] }) refl refl

pub handlers_fit : HandlersFit
handlers_fit z h s b n name args implied handler r q f w error primitive g =
    let accepted = two_accepted s q.sender q.older name args implied handler g.value q.is_at.here q.is_at.node_is g.handler_is w in
    let m : Message = record { receiver = g.value; arguments = g.value ∷ g.value ∷ []; rest = [] } in (
      λ o c e inside. (
          let its = (subst (λ (y : Met). MetAccepts w.0 s m y) e accepted).0 (lt-ltb o (length s.things) inside) in
          subst (λ (bs : List Body). Accepts bs c.0 2 None) (sym f.bodies) its
          ),
      λ o e. absurd (let two : 2 ≡ 1 = subst (λ (y : Met). MetAccepts w.0 s m y) e accepted in omega (arith, two)),
    )
