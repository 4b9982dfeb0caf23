-- Messages of failed primitives to their handlers.
use Rattle.std.proofs.Common.{◌≡◌, ℕ, suc, ◌+◌, ◌-◌, ◌*◌, ◌≤◌, refl, ◌∙◌, ap, sym, subst, arith, length-append}
use Rattle.std.specs.Prelude.{Bool, true, false, not, nat_eq, codes, if◌then◌else◌, List, [], ◌∷◌, ◌++◌, length, Some, slice_get}
use Rattle.std.proofs.lemmas.Option.{same_Some}
use Rattle.self_terms.specs.declared.errors.ErrorName.{ErrorName}
use Rattle.self_terms.specs.declared.names.Name.{Name}
use Rattle.self_terms.specs.declared.names.TheConstants.{INT_SUB}
use Rattle.self_terms.specs.declared.nodes.Node.TheVariants as nodes
use Rattle.self_terms.specs.declared.values.BodyId.{BodyId}
use Rattle.self_terms.specs.Depths.{one_if, depth_from}
use Rattle.object_maps.specs.declared.maps.SlotKind.TheVariants.{Assign, Method as MethodSlot}
use Rattle.slot_lookup.specs.declared.sends.Found.TheVariants.{One}
use Rattle.sparc_insn.specs.declared.insn.Insn.TheVariants.{Trap}
use Rattle.sparc_machine.specs.State.{MachineState}
use Rattle.source_model.specs.Names.{number_of, text_named}
use Rattle.source_model.specs.Primitives.{Fails as Failure, row_of, error_string, row_string}
use Rattle.source_model.specs.Messages.{meets}
use Rattle.source_model.specs.Sends.{Message}
use Rattle.source_model.specs.Soundness.{body_in}
use Rattle.source_model.specs.State.{State, silent}
use Rattle.source_model.specs.Step.{place_of}
use Rattle.plain_words.specs.Code.{poll, is_sum, handed_code, summed_code, sum_code, primitive_code, answered_code}
use Rattle.plain_words.specs.Units.{frame_locals}
use Rattle.plain_runs.specs.Host.{Host}
use Rattle.plain_runs.specs.Units.{node_offset}
use Rattle.plain_runs.specs.Course.{with_machine, code_at}
use Rattle.plain_runs.proofs.Pointed.{next_offset}
use Rattle.plain_lookups.specs.Telling.{MayLook}
use Rattle.plain_prims.specs.Rows.{effect_of}
use Rattle.plain_handlers.specs.Handling.{failure_name, hands_over, KnowsStrings, IsHandled, IsFoundFrom}
use Rattle.plain_handlers.proofs.Handling.{failures_are_handled, handlers_are_found, handlers_fit, two_accepted}
use Rattle.plain_stretches.specs.Stretches.{Performs}
use Rattle.plain_stretches.proofs.Further.{run_keeps}
use Rattle.plain_turns.specs.Asking.{place_here}
use Rattle.plain_turns.specs.Handlers.{Fails, Undefined, Applied, FailsHandled, handed, found_there, behind_primitive, IsHandedOver, MeetsMethod, FailuresAsk, HandlersAreRead, HandlersAssignNothing, HandlersAnswer, HandlersMiss, HandlersMeetMethods}
use Rattle.plain_turns.specs.Primitives.{IsOf}
use Rattle.plain_turns.specs.Resting.{IsAtTrap}
use Rattle.plain_turns.proofs.Answering.{data_turn, miss_turn}
use Rattle.plain_turns.proofs.Asked.{handed_long}
use Rattle.plain_turns.proofs.Messaged.{IsAsking}
use Rattle.plain_turns.proofs.Onward.{stopped, stopped_as, rest_is, counted_is}
use Rattle.plain_turns.proofs.Primitives.{SameParts, performed, parts, message, moved, place_is, names_same, effect_is, refusal_is, unknown_here}
use Rattle.plain_turns.proofs.Putting.{is_there, fits, unit_turn}
use Rattle.plain_turns.proofs.Served.{marked, call_turn, refused_turn}
use Rattle.plain_turns.proofs.Telling.{method_by}

-- How many bytes the words of a primitive take; those of a sum take six words more.
primitive_long : (sum less implied : Bool) (locals k n : ℕ) → 4 * length (if sum then sum_code less implied locals k n else (handed_code implied locals k n ++ (Trap 3 ∷ []))) ≡ 4 * n + 8 + (if sum then 24 else 0)
primitive_long true less implied locals k n = omega (arith, length-append (handed_code implied locals k n) (summed_code less), handed_long implied locals k n)
primitive_long false less implied locals k n = omega (arith, length-append (handed_code implied locals k n) (Trap 3 ∷ []), handed_long implied locals k n)

performed_long : (h : Host) (b n : ℕ) (name : Name) (args : ℕ) (implied handler : Bool) → 4 * length (code_at h b n (nodes.Prim name args implied handler)) ≡ 4 * (args + one_if handler) + 12 + (if is_sum name.0 args then 24 else 0)
performed_long h b n name args implied handler =
    let x = body_in h.bodies b in
    let locals = frame_locals x in
    let first = depth_from 0 x.nodes n - (args + one_if (not implied) + one_if handler) in
    let k = args + one_if handler in
    omega (
      arith,
      length-append (primitive_code name.0 args implied locals first k) (answered_code locals first),
      primitive_long (is_sum name.0 args) (nat_eq name.0 INT_SUB.0) implied locals first k,
    )

-- Where the host has put the message to a handler in place of a primitive's, its lookup may be made, and it is a message at the trap that meets no
-- assignment slot.
record IsHanding (g : Host) (from : State) (target : ℕ) (out : List ℕ) (room name bytes : ℕ) : Type 0 where
  may : MayLook g.maps g.machine.memory room (g.machine.regs 8)
  asking : IsAsking g from target out 2 name bytes (found_there room name g)
  none : (holder place : ℕ) → found_there room name g ≡ One holder (Assign place) → ⊥

module _ (h : Host) (from : State) (target : ℕ) (out : List ℕ) (room : ℕ) (x : IsAtTrap h 3 from target out) (le : h.next ≤ room) (name : Name) (args error primitive : ℕ) (f : FailsHandled h from name args error primitive) where
  abbrev at_poll : Host
  at_poll = with_machine h x.last

  q : Performs x.sense at_poll x.state x.on h.machine
  q = performed h from target out x

  same : SameParts q.name name q.args args q.handler true
  same = parts h from target out x q name args f.implied true f.node_is

  fixed_same : from.fixed ≡ x.state.fixed
  fixed_same = sym (run_keeps x.done (silent from)).fixed ∙ ap (λ r. r.state.fixed) x.runs

  -- the error is the one that the source's effect fails with
  fails_by : (e : ErrorName) → Fails h from name args e → effect_of x.state q.name q.args (message h from target out x q) ≡ Failure e
  unfolding q
  fails_by _ (Undefined none) = unknown_here h from target out x name args f.implied true f.node_is none
  fails_by _ (Applied p core memory heap e is known was) =
      let o : IsOf h from p args true = record { name = name; implied = f.implied; node_is = f.node_is; is = is } in
      effect_is h from target out x q p args true o ∙ (refusal_is h from target out x q p args true o core known memory heap e was).0

  strings : KnowsStrings at_poll x.state q.name q.args f.e error primitive
  strings =
      let objects = h.references.objects in
      record {
        of_error = ap (λ k. slice_get objects (k + error_string f.e)) (sym fixed_same) ∙ f.strings.of_error;
        of_primitive = ap (λ k. slice_get objects (k + row_string (row_of (text_named x.state.names q.name.0) q.args))) (sym fixed_same)
            ∙ ap (λ n. slice_get objects (from.fixed + row_string (row_of (text_named n q.name.0) q.args))) (sym (names_same h from target out x))
            ∙ ap (λ (n : Name). slice_get objects (from.fixed + row_string (row_of (text_named from.names n.0) q.args))) same.named
            ∙ ap (λ k. slice_get objects (from.fixed + row_string (row_of (text_named from.names name.0) k))) same.takes
            ∙ f.strings.of_primitive;
      }

  handled : IsHandled x.sense at_poll x.state x.on.body x.on.number q.name q.args q.implied q.handler q.at q.performed error primitive
  handled = failures_are_handled x.sense at_poll x.state x.on.body x.on.number q.name q.args q.implied q.handler q.at q.performed x.on.sound.stands f.e (fails_by f.e f.fails) same.handles error primitive strings

  -- the host with the message in place of a machine's, by the number of the primitive's arguments
  abbrev over : MachineState → ℕ → Host
  over m k = with_machine h (hands_over (m.regs (9 + k)) error primitive m)

  abbrev to : MachineState
  to = q.performed.asks.to

  looked : IsFoundFrom x.sense at_poll x.state (over to q.args).machine handled.value (failure_name x.state) room
  looked = handlers_are_found x.sense at_poll x.state x.on.body x.on.number q.name q.args q.implied q.handler q.at q.performed x.on.sound.stands error primitive handled room (omega (arith, le, x.on.sound.stands.stands.heap.numbered))

  -- the trap stands so far behind the poll
  behind_is : to.pc ≡ x.last.pc + behind_primitive q.name q.args
  behind_is =
      let p = q.performed in
      let node = nodes.Prim q.name q.args q.implied q.handler in
      let y = body_in h.bodies x.on.body in
      let n = x.on.number in
      let words = code_at at_poll x.on.body n node in
      let long = performed_long at_poll x.on.body n q.name q.args q.implied q.handler in
      let whole_long : length (poll ++ words) ≡ 6 + length words = omega (arith, length-append poll words) in
      let next : node_offset h.references y (suc n) ≡ node_offset h.references y n + length (poll ++ words) = next_offset h.references y n node q.at.node_is in
      let next2 : node_offset h.references y (n + 1) ≡ node_offset h.references y (suc n) = ap (node_offset h.references y) (omega arith) in
      let at_one : p.behind.at ≡ q.at.poll.at = same_Some p.behind.at q.at.poll.at (sym p.behind.unit.entry ∙ q.at.poll.unit.entry) in
      let one : one_if q.handler ≡ 1 = ap one_if same.handles in
      omega (arith, p.asks.moved.stands.here, long, one, whole_long, next, next2, at_one, p.behind.address, q.at.poll.address)

  handing_there : IsHanding (over to q.args) from target out room (failure_name x.state) (behind_primitive q.name q.args)
  handing_there =
      let z = x.sense in
      let s = x.state in
      let v = handled.value in
      let word = failure_name s in
      let met = meets s v word in
      let p = q.performed in
      let m : Message = record { receiver = v; arguments = v ∷ v ∷ []; rest = [] } in
      let accepted = two_accepted s p.sender p.older q.name q.args q.implied q.handler v p.is_at.here p.is_at.node_is handled.handler_is x.formed in
      let fit = handlers_fit z at_poll s x.on.body x.on.number q.name q.args q.implied q.handler q.at p x.on.sound.stands x.formed error primitive handled in
      record {
        may = looked.may;
        asking = record {
          stop = stopped_as h 3 from target out x (over to q.args).machine;
          can = q.can;
          few = omega arith;
          node = nodes.Prim q.name q.args q.implied q.handler;
          runs_at = q.at;
          met = met;
          message = handled.sent;
          receiver = Some v;
          received = λ w e. handled.receives ∙ same_Some v w e;
          tells = looked.tells;
          is_method = λ holder c e. method_by z s h.bodies x.on.sound.stands.bodies x.formed (Some v) met 2 m refl accepted (λ w same. same_Some v w same) (to.regs (9 + q.args)) word holder c (looked.tells.method holder c e);
          place = ap (place_of s) handled.sender_is ∙ place_is h from target out x q ∙ ap (λ k. place_here (with_machine h k)) q.there;
          behind = behind_is;
        };
        none = λ holder place e. (let is = (looked.tells.assignment x.formed holder place e).0 in fit.1 is.object is.met_is);
      }

  handing : IsHanding (handed args error primitive h) from target out room (failure_name from) (behind_primitive name args)
  handing =
      let here = subst (λ (m : MachineState). IsHanding (over m q.args) from target out room (failure_name x.state) (behind_primitive q.name q.args)) (sym q.there) handing_there in
      let words = subst (λ (k : ℕ). IsHanding (over h.machine k) from target out room (failure_name x.state) (behind_primitive q.name q.args)) same.takes here in
      let message = subst (λ (k : ℕ). IsHanding (over h.machine args) from target out room k (behind_primitive q.name q.args)) (ap (λ n. number_of n (codes "value:With:")) (sym (names_same h from target out x))) words in
      subst (λ (k : ℕ). IsHanding (over h.machine args) from target out room (failure_name from) k) (ap (λ (n : Name). behind_primitive n q.args) same.named ∙ ap (behind_primitive name) same.takes) message

  -- What answers it.

  abbrev there : Host
  there = handed args error primitive h

  abbrev asks : IsAsking there from target out 2 (failure_name from) (behind_primitive name args) (found_there room (failure_name from) there)
  asks = handing.asking

  handed_over : IsHandedOver h name args error primitive target room
  handed_over =
      let a = asks in
      let few = q.performed.few in
      let one : one_if q.handler ≡ 1 = ap one_if same.handles in
      let steps = counted_is h from target out (stopped h 3 from target out x) q.performed.at (moved h from target out x q) in
      let left = rest_is h from target out (stopped h 3 from target out x) q.performed.at q.can (moved h from target out x q) in
      record {
        few = omega (arith, few, one, same.takes);
        may = handing.may;
        left = omega (arith, left, steps, x.left_is);
        back = omega (arith, a.behind);
      }

  meets_method : (holder : ℕ) (c : BodyId) → found_there room (failure_name from) there ≡ One holder (MethodSlot c) → MeetsMethod h there from target out name args holder c
  meets_method holder c is =
      let N = failure_name from in
      let B = behind_primitive name args in
      let F = found_there room N there in
      let t = is_there there from target out 2 N B F asks holder c is in
      record {
        there = record { body = t.body; translates = t.translates; entry = t.entry; entry_is = t.entry_is; low = t.low };
        mark = λ at entry stands. marked there from target out 2 N B F asks holder at c is entry stands;
        call = λ at entry stands none. (let on = call_turn there from target out 2 N B F asks holder at c is entry stands none in record { going = on.going; more = on.more });
        refused = λ at entry stands goal e few refuses. refused_turn there from target out 2 N B F asks holder at c is entry stands goal e few refuses;
        fits = λ none. fits there from target out 2 N B F asks holder c is none;
        put = λ none memory put. (let on = unit_turn there from target out 2 N B F asks holder c is none memory put in record { going = on.going; same = on.same; fewer = on.fewer });
      }

pub failures_ask : FailuresAsk
failures_ask h from target out room x le name args error primitive f = handed_over h from target out room x le name args error primitive f

pub handlers_answer : HandlersAnswer
handlers_answer h from target out room x le name args error primitive f word e =
    let on = data_turn (handed args error primitive h) from target out 2 (failure_name from) (behind_primitive name args) _ (asks h from target out room x le name args error primitive f) word e in
    record { going = on.going; more = on.more }

pub handlers_miss : HandlersMiss
handlers_miss h from target out room x le name args error primitive f goal e few is =
    miss_turn (handed args error primitive h) from target out 2 (failure_name from) (behind_primitive name args) _ (asks h from target out room x le name args error primitive f) goal e few is

pub handlers_assign_nothing : HandlersAssignNothing
handlers_assign_nothing h from target out room x le name args error primitive f holder place e = (handing h from target out room x le name args error primitive f).none holder place e

pub handlers_are_read : HandlersAreRead
handlers_are_read h from target out room x le name args error primitive f holder place e = ((asks h from target out room x le name args error primitive f).tells.field holder place e).here

pub handlers_meet_methods : HandlersMeetMethods
handlers_meet_methods h from target out room x le name args error primitive f holder c is = meets_method h from target out room x le name args error primitive f holder c is
