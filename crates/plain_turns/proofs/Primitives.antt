-- Primitives at their traps.
use Rattle.std.proofs.Common.{◌≡◌, ℕ, zero, suc, ◌+◌, ◌-◌, ◌*◌, ◌<◌, ◌≤◌, refl, ◌∙◌, ap, sym, subst, arith, length-append}
use Rattle.std.specs.Prelude.{Bool, false, nat_le, List, [], ◌∷◌, length, Option, Some, None, Ok, Err}
use Rattle.std.proofs.lemmas.Bool.{cond-false}
use Rattle.std.proofs.lemmas.Grind.{common_steps}
use Rattle.std.proofs.lemmas.Option.{same_Some}
use Rattle.self_terms.specs.declared.errors.ErrorName.{ErrorName}
use Rattle.self_terms.specs.declared.errors.ErrorName.TheVariants as errors
use Rattle.self_terms.specs.declared.names.Name.{Name}
use Rattle.self_terms.specs.declared.nodes.Node.{Node}
use Rattle.self_terms.specs.declared.nodes.Node.TheVariants as nodes
use Rattle.self_terms.specs.declared.values.Value.{Value}
use Rattle.self_terms.specs.declared.values.Value.TheVariants as values
use Rattle.object_maps.specs.declared.layout.Heap.{Heap}
use Rattle.object_maps.specs.Slots.{Slots}
use Rattle.sparc_machine.specs.State.{MachineState}
use Rattle.sparc_store.specs.Words.{Words, word_at, IsWithin}
use Rattle.source_model.specs.declared.objects.Core.{Core}
use Rattle.source_model.specs.declared.objects.Thing.{Thing}
use Rattle.source_model.specs.declared.primitives.Primitive.{Primitive}
use Rattle.source_model.specs.Names.{text_named}
use Rattle.source_model.specs.Primitives.{Effect, Gives, Makes, Puts, Prints, Fails as Failure, apply, row_of}
use Rattle.source_model.specs.Sends.{Message, then_do, goes_on as source_goes, paid}
use Rattle.source_model.specs.State.{Activation, Failed as Ended_by, State, silent, with_current}
use Rattle.source_model.specs.Step.{done, settled, place_of, step, handler_of, performs as by_source, with_thing}
use Rattle.heap_cells.specs.Heaps.{IsHeap}
use Rattle.heap_cells.specs.Laying.{Cells}
use Rattle.heap_cells.specs.Source.{Made}
use Rattle.heap_cells.specs.Standing.{Places, IsValue, AreValues}
use Rattle.prim_table.specs.Answers.{HasCore, IsAnswer, cost}
use Rattle.prim_table.specs.declared.answers.CoreWords.{CoreWords}
use Rattle.prim_table.specs.declared.answers.PrimAnswer.TheVariants as answers
use Rattle.raw_steps.specs.Messages.{asked}
use Rattle.raw_steps.specs.Sends.{here_of}
use Rattle.raw_steps.specs.Stands.{Sense}
use Rattle.raw_steps.proofs.Nexts.{step_at}
use Rattle.plain_words.specs.Moves.{Moved, registers_from}
use Rattle.plain_runs.specs.Host.{Host}
use Rattle.plain_runs.specs.Course.{with_machine}
use Rattle.plain_steps.specs.Paying.{IsPaid}
use Rattle.plain_sends.proofs.Settling.{left_is, controlled}
use Rattle.plain_prims.specs.Performing.{printed_by, IsApplied, DoesPrint}
use Rattle.plain_prims.specs.Rows.{primitive_of, applied, effect_of}
use Rattle.plain_prims.specs.Services.{heap_of, performs}
use Rattle.plain_prims.proofs.Failing.{unknown_fails}
use Rattle.plain_prims.proofs.Operands.{core_known, operands_stand}
use Rattle.plain_prims.proofs.Performing.{done_by_effect, answers_perform}
use Rattle.plain_prims.proofs.Rows.{effects_tell, takes_so_many}
use Rattle.plain_unwinds.specs.Services.{fails_unmarked}
use Rattle.plain_stretches.specs.Standing.{IsOn}
use Rattle.plain_stretches.specs.Stretches.{Halts, AtGoal, AtSend, AtPrimitive, AtHome, AtFull, AtEnd, Performs}
use Rattle.plain_stretches.proofs.Further.{run_keeps}
use Rattle.plain_stretches.proofs.Stretches.{prints_stretch}
use Rattle.plain_turns.specs.Asking.{node_here, place_here, cost_left}
use Rattle.plain_turns.specs.Primitives.{IsPrimitive, PrimitivesAsk, UndefinedEnd, IsOf, KnowsWords, Costs, Says, MayApply, PrimitivesMayApply, WasApplied, FullsEnd, FailuresKeep, FailuresEnd, PrimitiveTurns, AnswersTurn}
use Rattle.plain_turns.specs.Resting.{IsReady, IsAtTrap, HasRun}
use Rattle.plain_turns.proofs.Counting.{objects_fit}
use Rattle.plain_turns.proofs.Onward.{stopped, rest, counted_is, rest_is, paid_here, goes_on, error_ends}
use Rattle.plain_turns.proofs.Places.{Points, performed_points, node_points, behind_place}

-- a primitive has led there
pub performs_at : (z : Sense) (h : Host) (s : State) (on : IsOn z h s) (trap : ℕ) (to : MachineState) → Halts z h s on trap to → trap ≡ 3 → Performs z h s on to
performs_at z h s on trap to (AtGoal e none w) three = absurd (omega (arith, e, three))
performs_at z h s on trap to (AtSend e q) three = absurd (omega (arith, e, three))
performs_at z h s on trap to (AtPrimitive e q) three = q
performs_at z h s on trap to (AtHome e q) three = absurd (omega (arith, e, three))
performs_at z h s on trap to (AtFull e q) three = absurd (omega (arith, e, three))
performs_at z h s on trap to (AtEnd e q) three = absurd (omega (arith, e, three))

-- two nodes of primitives that are one have the same parts
pub record SameParts (name other : Name) (args more : ℕ) (handler handled : Bool) : Type 0 where
  pub named : name ≡ other
  pub takes : args ≡ more
  pub handles : handler ≡ handled

same_parts : (name other : Name) (args more : ℕ) (implied by : Bool) (handler handled : Bool) → Some (nodes.Prim name args implied handler) ≡ Some (nodes.Prim other more by handled) → SameParts name other args more handler handled
same_parts name other args more implied by handler handled e =
    let same : nodes.Prim name args implied handler ≡ nodes.Prim other more by handled = same_Some _ _ e in
    record { named = cc; takes = cc; handles = cc }

registers_long : (regs : ℕ → ℕ) (r n : ℕ) → length (registers_from regs r n) ≡ n
registers_long regs r zero = refl
registers_long regs r (suc n) = ap suc (registers_long regs (r + 1) n)

-- What effects come to.

-- with no handler a failure is the error itself
fails_bare : (s : State) (a : Activation) (older : List Activation) (m : Message) (row : Option ℕ) (handler : Bool) (e : ErrorName) → handler ≡ false → by_source (here_of s a older) m row (handler_of handler (here_of s a older)) (Failure e) ≡ Err e
fails_bare s a older m row handler e none = ap (λ b. by_source (here_of s a older) m row (handler_of b (here_of s a older)) (Failure e)) none

-- what is left of the plain cost is too little
too_much : (words : ℕ) (s : State) → 4194304 < s.cost + words → nat_le (s.cost + words) 4194304 ≡ false
too_much words s much = grind (arith, common_steps)

unpaid : (words : ℕ) (s : State) → 4194304 < s.cost + words → paid words s ≡ Err errors.StoreFull
unpaid words s much = cond-false (nat_le (s.cost + words) 4194304) (Ok (record s { cost = s.cost + words })) (Err errors.StoreFull) (too_much words s much)

fills : (s : State) (a : Activation) (older : List Activation) (m : Message) (row : Option ℕ) (handler : Option Value) (e : Effect) → s.cost ≤ 4194304 → 4194304 < s.cost + cost e → by_source (here_of s a older) m row handler e ≡ Err errors.StoreFull
fills s a older m row handler (Makes words t) within much = ap (λ p. then_do p (λ x. source_goes (with_thing t x) (here_of s a older) (values.Object (length x.things) ∷ m.rest))) (unpaid words s much)
fills s a older m row handler (Gives v) within much = absurd (omega (arith, within, much))
fills s a older m row handler (Puts o t) within much = absurd (omega (arith, within, much))
fills s a older m row handler (Prints line) within much = absurd (omega (arith, within, much))
fills s a older m row handler (Failure y) within much = absurd (omega (arith, within, much))

-- what failed has the error of its effect, and left memory as it was
refused : (maps : List Slots) (old new : Words) (heap after : Heap) (cells : Cells) (places : Places) (things : List Thing) (made : List Made) (receiver : ℕ) (x : ErrorName) (e : Effect) → IsAnswer maps old new heap after cells places things made receiver (answers.Fails x) e → (e ≡ Failure x) × (new ≡ old)
refused maps old new heap after cells places things made receiver x (Failure y) a = (ap Failure (sym a.0), a.1)
refused maps old new heap after cells places things made receiver x (Gives v) a = absurd a
refused maps old new heap after cells places things made receiver x (Makes words t) a = absurd a
refused maps old new heap after cells places things made receiver x (Puts o t) a = absurd a
refused maps old new heap after cells places things made receiver x (Prints line) a = absurd a

-- what has answered has taken the words of its effect, and at most one number
record HasTaken (heap after : Heap) (words : ℕ) : Type 0 where
  top : after.top ≡ heap.top + 4 * words
  next : after.next ≤ heap.next + 1

same_heap : (heap after : Heap) → after ≡ heap → HasTaken heap after 0
same_heap heap after e = record { top = omega (arith, ap (λ (y : Heap). y.top) e); next = omega (arith, ap (λ (y : Heap). y.next) e) }

has_taken : (maps : List Slots) (old new : Words) (heap after : Heap) (cells : Cells) (places : Places) (things : List Thing) (made : List Made) (receiver word : ℕ) (e : Effect) → heap.next ≡ length things
    → IsAnswer maps old new heap after cells places things made receiver (answers.Done word) e → HasTaken heap after (cost e)
has_taken maps old new heap after cells places things made receiver word (Gives v) n a = same_heap heap after a.2
has_taken maps old new heap after cells places things made receiver word (Makes words t) n a = record { top = a.1; next = omega (arith, n, a.0.is.numbered, length-append things (t ∷ [])) }
has_taken maps old new heap after cells places things made receiver word (Puts o t) n a = same_heap heap after a.1
has_taken maps old new heap after cells places things made receiver word (Prints line) n a = same_heap heap after a.2
has_taken maps old new heap after cells places things made receiver word (Failure x) n a = absurd a

module _ (h : Host) (from : State) (target : ℕ) (out : List ℕ) (x : IsAtTrap h 3 from target out) where
  -- the names and the words of the language stay through a run
  pub names_same : from.names ≡ x.state.names
  names_same = sym (run_keeps x.done (silent from)).names ∙ ap (λ r. r.state.names) x.runs

  core_same : from.core ≡ x.state.core
  core_same = sym (run_keeps x.done (silent from)).core ∙ ap (λ r. r.state.core) x.runs

  module _ (q : Performs x.sense (with_machine h x.last) x.state x.on h.machine) where
    abbrev pub message : Message
    message = asked q.args q.implied q.handler (here_of x.state q.performed.sender q.performed.older)

    abbrev node : Node
    node = nodes.Prim q.name q.args q.implied q.handler

    pub moved : Moved x.last h.machine q.performed.at x.last.memory (x.last.regs 2)
    moved = (let P : MachineState → Type 0 = λ k. Moved x.last k q.performed.at x.last.memory (x.last.regs 2) in subst P (sym q.there) q.performed.asks.moved)

    points : Points h (h.machine.pc + 4) x.on.body x.on.number
    points = performed_points x.sense (with_machine h x.last) x.state x.on h.machine q

    pub node_is : node_here h ≡ Some node
    node_is = node_points h x.on.body x.on.number points ∙ q.at.node_is

    pub parts : (name : Name) (args : ℕ) (implied handler : Bool) → node_here h ≡ Some (nodes.Prim name args implied handler) → SameParts q.name name q.args args q.handler handler
    parts name args implied handler is = same_parts q.name name q.args args q.implied implied q.handler handler (sym node_is ∙ is)

    pub place_is : place_of x.state q.performed.sender ≡ place_here h
    place_is = behind_place x.sense (with_machine h x.last) x.state x.on h.machine q.performed.sender q.performed.older q.performed.is_at.here points

    -- the plain cost of the state
    cost_is : h.cost + h.machine.regs 3 ≡ x.state.cost
    cost_is = omega (arith, moved.kept 3 refl, x.on.sound.stands.stands.cost)

    is_primitive : IsPrimitive h target
    is_primitive = record {
      name = q.name;
      args = q.args;
      implied = q.implied;
      handler = q.handler;
      node_is = node_is;
      few = q.performed.few;
      left = omega (arith, rest_is h from target out (stopped h 3 from target out x) q.performed.at q.can moved, counted_is h from target out (stopped h 3 from target out x) q.performed.at moved, x.left_is);
    }

    -- an error that the step is
    ends_by : (e : ErrorName) → step x.state ≡ silent (with_current (Ended_by e (place_of x.state q.performed.sender)) x.state) → (goal : ℕ) → goal ≤ 1000000000 → HasRun (fails_unmarked goal (cost_left h) e (place_here h) h) from target out
    ends_by e now goal few =
        error_ends h from target out (stopped h 3 from target out x) q.performed.at q.can moved q.performed.sender q.performed.older q.performed.is_at.here e (place_here h) (now ∙ ap (λ k. silent (with_current (Ended_by e k) x.state)) place_is) goal few

    -- an error that the node is
    errs : (e : ErrorName) → done (here_of x.state q.performed.sender q.performed.older) node ≡ Err e → (goal : ℕ) → goal ≤ 1000000000 → HasRun (fails_unmarked goal (cost_left h) e (place_here h) h) from target out
    errs e is goal few =
        let here = here_of x.state q.performed.sender q.performed.older in
        ends_by e (step_at x.state q.performed.sender q.performed.older node q.performed.is_at.here q.performed.is_at.node_is ∙ ap (settled here) is) goal few

    -- the words of the operands stand for the message
    operands : IsHeap h.maps h.machine.memory (heap_of h) x.sense.cells x.sense.places x.state.things x.sense.made × IsValue x.sense.cells x.sense.places message.receiver (h.machine.regs 8) × AreValues x.sense.cells x.sense.places message.arguments (registers_from h.machine.regs 9 q.args)
    operands =
        let z = x.sense in
        let P : MachineState → Type 0 = λ k. IsHeap h.maps k.memory (heap_of (with_machine (with_machine h x.last) k)) z.cells z.places x.state.things z.made × IsValue z.cells z.places message.receiver (k.regs 8) × AreValues z.cells z.places message.arguments (registers_from k.regs 9 q.args) in
        subst P (sym q.there) (operands_stand z (with_machine h x.last) x.state x.on.body x.on.number q.name q.args q.implied q.handler q.at q.performed x.on.sound.stands)

    -- by the primitive of the node
    module _ (p : Primitive) (args : ℕ) (handler : Bool) (o : IsOf h from p args handler) where
      same : SameParts q.name o.name q.args args q.handler handler
      same = parts o.name args o.implied handler o.node_is

      found : primitive_of (text_named x.state.names q.name.0) q.args ≡ Some p
      found = ap (λ n. primitive_of (text_named n q.name.0) q.args) (sym names_same) ∙ ap (λ (n : Name). primitive_of (text_named from.names n.0) q.args) same.named ∙ ap (primitive_of (text_named from.names o.name.0)) same.takes ∙ o.is

      pub effect_is : effect_of x.state q.name q.args message ≡ apply x.state p message.receiver message.arguments
      effect_is = effects_tell x.state (text_named x.state.names q.name.0) q.args message.receiver message.arguments ∙ ap (λ y. applied x.state y message.receiver message.arguments) found

      arguments : AreValues x.sense.cells x.sense.places message.arguments (registers_from h.machine.regs 9 args)
      arguments = (let P : ℕ → Type 0 = λ k. AreValues x.sense.cells x.sense.places message.arguments (registers_from h.machine.regs 9 k) in subst P same.takes operands.2)

      -- what it takes of the plain cost, and what it prints
      costs : (words : ℕ) → Costs h p words → words ≡ cost (apply x.state p message.receiver message.arguments)
      costs words is = is (heap_of h) x.sense.cells x.sense.places x.sense.made x.state message.receiver message.arguments operands.0 operands.1

      says : (line : List ℕ) → Says h p line → printed_by (apply x.state p message.receiver message.arguments) ≡ line
      says line is = is (heap_of h) x.sense.cells x.sense.places x.sense.made x.state message.receiver message.arguments operands.0 operands.1

      known : (core : CoreWords) → KnowsWords h from.core core → HasCore x.sense.cells x.sense.places x.state.core core
      known core k0 =
          let k = (let P : Core → Type 0 = λ c. KnowsWords h c core in subst P core_same k0) in
          core_known x.sense (with_machine h x.last) x.state core x.on.sound.stands (record { nil = k.nil; yes = k.yes; no = k.no })

      may_apply : (core : CoreWords) → KnowsWords h from.core core → MayApply h p args core
      may_apply core k = record {
        operand = record { cells = x.sense.cells; places = x.sense.places; objects = x.state.things; made = x.sense.made; is = operands.0; value = message.receiver; stands = operands.1 };
        few = omega (arith, objects_fit h.maps h.machine.memory (heap_of h) x.sense.cells x.sense.places x.state.things x.sense.made operands.0);
        apply = λ words is fits. record {
          cells = x.sense.cells;
          places = x.sense.places;
          made = x.sense.made;
          state = x.state;
          is = operands.0;
          known = known core k;
          value = message.receiver;
          stands = operands.1;
          values = message.arguments;
          stand = arguments;
          takes = registers_long h.machine.regs 9 args ∙ sym (takes_so_many (text_named from.names o.name.0) args p o.is);
          room = (let paid = paid_here h from target out (stopped h 3 from target out x) q.performed.at moved in omega (arith, paid.room, paid.top, fits, costs words is));
        };
      }

      full_ends : (words : ℕ) → Costs h p words → 4194304 < h.cost + h.machine.regs 3 + words → (goal : ℕ) → goal ≤ 1000000000 → HasRun (fails_unmarked goal (cost_left h) errors.StoreFull (place_here h) h) from target out
      full_ends words is much goal few =
          let s = x.state in
          let e = apply s p message.receiver message.arguments in
          errs errors.StoreFull
          (done_by_effect s q.performed.sender q.performed.older q.name q.args q.implied q.handler e effect_is
          ∙ fills s q.performed.sender q.performed.older message (row_of (text_named s.names q.name.0) q.args) (handler_of q.handler (here_of s q.performed.sender q.performed.older)) e
          x.on.sound.stands.stands.within (omega (arith, much, cost_is, costs words is)))
          goal few

      -- what failed is the failure that the source's effect is, and has left memory as it was
      pub refusal_is : (core : CoreWords) → KnowsWords h from.core core → (memory : Words) (heap : Heap) (e : ErrorName) → WasApplied h p args core memory heap (answers.Fails e) → (apply x.state p message.receiver message.arguments ≡ Failure e) × (memory ≡ h.machine.memory)
      refusal_is core k memory heap e was =
          let s = x.state in
          let z = x.sense in
          refused h.maps h.machine.memory memory (heap_of h) heap z.cells z.places s.things z.made (h.machine.regs 8) e (apply s p message.receiver message.arguments)
          (was.answers z.cells z.places z.made s message.receiver message.arguments operands.0 (known core k) operands.1 arguments)

      failure_ends : handler ≡ false → (core : CoreWords) → KnowsWords h from.core core → (memory : Words) (heap : Heap) (e : ErrorName) → WasApplied h p args core memory heap (answers.Fails e) → (goal : ℕ) → goal ≤ 1000000000
          → HasRun (fails_unmarked goal (cost_left h) e (place_here h) h) from target out
      failure_ends none core k memory heap e was goal few =
          let s = x.state in
          errs e
          (done_by_effect s q.performed.sender q.performed.older q.name q.args q.implied q.handler (Failure e) (effect_is ∙ (refusal_is core k memory heap e was).0)
          ∙ fails_bare s q.performed.sender q.performed.older message (row_of (text_named s.names q.name.0) q.args) q.handler e (same.handles ∙ none))
          goal few

      answer_turns : (core : CoreWords) → KnowsWords h from.core core → (words : ℕ) → Costs h p words → h.cost + h.machine.regs 3 + words ≤ 4194304
          → (memory : Words) (heap : Heap) (word : ℕ) → WasApplied h p args core memory heap (answers.Done word) → (line : List ℕ) → Says h p line → IsWithin memory → PrimitiveTurns h from target out memory heap words word line
      answer_turns core k words is fits memory heap word was line tells within =
          let s = x.state in
          let z = x.sense in
          let host = with_machine h x.last in
          let at = q.performed.at in
          let e = apply s p message.receiver message.arguments in
          let r = rest h from target out (stopped h 3 from target out x) in
          let left = cost_left h - words in
          let h1 = performs r left memory heap words word h in
          let a = was.answers z.cells z.places z.made s message.receiver message.arguments operands.0 (known core k) operands.1 arguments in
          let takes = has_taken h.maps h.machine.memory memory (heap_of h) heap z.cells z.places s.things z.made (h.machine.regs 8) word e operands.0.numbered a in
          let A : MachineState → Type 0 = λ m. IsApplied z host s m memory heap (answers.Done word) e in
          let here : A h.machine = record { answers = a; outside = was.outside; within = within } in
          let few : r ≤ 1000000000 = omega (arith, rest_is h from target out (stopped h 3 from target out x) at q.can moved, x.near) in
          let room : s.cost + cost e ≤ 4194304 = omega (arith, cost_is, fits, costs words is) in
          let d0 = answers_perform z host s x.on.body x.on.number q.name q.args q.implied q.handler q.at q.performed x.on.sound.stands q.can memory heap word e effect_is (subst A q.there here) room r left few in
          let M : MachineState → Type 0 = λ m. DoesPrint (performs r left memory heap (cost e) word (with_machine host m)) s (printed_by e) in
          let C : ℕ → Type 0 = λ c. DoesPrint (performs r left memory heap c word h) s (printed_by e) in
          let L : List ℕ → Type 0 = λ l. DoesPrint h1 s l in
          let d : DoesPrint h1 s line = subst L (says line tells) (subst C (sym (costs words is)) (subst M (sym q.there) d0)) in
          let goal_is : word_at h1.machine.memory 0x30000000 ≡ r = (controlled memory r left within).goal_is in
          let stays : word_at h1.machine.memory 0x30000004 ≡ left = left_is memory r left within in
          let paid0 = paid_here h from target out (stopped h 3 from target out x) at moved in
          let paid1 : IsPaid x.start h1 = record { room = paid0.room; top = omega (arith, paid0.top, takes.top, costs words is); left = omega (arith, stays, fits) } in
          let far : h1.steps + word_at h1.machine.memory 0x30000000 ≡ s.steps + suc r = omega (arith, goal_is, counted_is h from target out (stopped h 3 from target out x) at moved) in
          let ready1 : IsReady h1 = record {
            fit = x.ready.fit;
            room = record { each = x.ready.room.each; left = x.ready.room.left; lobby = x.ready.room.lobby };
            maps = record { few = x.ready.maps.few; bodies = x.ready.maps.bodies; contexts = x.ready.maps.contexts; blocks = x.ready.maps.blocks };
          } in
          let on = prints_stretch x.start z h1 s line r x.formed x.on.sound.runs x.on.sound.current ready1.fit ready1.maps paid1 d far in
          record { on = goes_on h from target out (stopped h 3 from target out x) at q.can moved h1 line x.on.sound.runs x.on.sound.current ready1 on; objects = takes.next }

pub performed : (h : Host) (from : State) (target : ℕ) (out : List ℕ) (x : IsAtTrap h 3 from target out) → Performs x.sense (with_machine h x.last) x.state x.on h.machine
performed h from target out x = performs_at x.sense (with_machine h x.last) x.state x.on 3 h.machine x.halts refl

pub primitives_ask : PrimitivesAsk
primitives_ask h from target out x = is_primitive h from target out x (performed h from target out x)

-- one that isn't defined
pub unknown_here : (h : Host) (from : State) (target : ℕ) (out : List ℕ) (x : IsAtTrap h 3 from target out) (name : Name) (args : ℕ) (implied handler : Bool) → node_here h ≡ Some (nodes.Prim name args implied handler) → primitive_of (text_named from.names name.0) args ≡ None
    → (let q = performed h from target out x in effect_of x.state q.name q.args (message h from target out x q) ≡ Failure errors.PrimitiveNotDefined)
unknown_here h from target out x name args implied handler is none =
    let q = performed h from target out x in
    let s = x.state in
    let same = parts h from target out x q name args implied handler is in
    let not_found : primitive_of (text_named s.names q.name.0) q.args ≡ None =
    ap (λ n. primitive_of (text_named n q.name.0) q.args) (sym (names_same h from target out x)) ∙ ap (λ (n : Name). primitive_of (text_named from.names n.0) q.args) same.named ∙ ap (primitive_of (text_named from.names name.0)) same.takes ∙ none in
    unknown_fails s q.name q.args (message h from target out x q) not_found

pub undefined_end : UndefinedEnd
undefined_end h from target out x name args implied is none goal few =
    let q = performed h from target out x in
    let s = x.state in
    let p = q.performed in
    let m = message h from target out x q in
    let bare = (parts h from target out x q name args implied false is).handles in
    errs h from target out x q errors.PrimitiveNotDefined
    (done_by_effect s p.sender p.older q.name q.args q.implied q.handler (Failure errors.PrimitiveNotDefined) (unknown_here h from target out x name args implied false is none)
    ∙ fails_bare s p.sender p.older m (row_of (text_named s.names q.name.0) q.args) q.handler errors.PrimitiveNotDefined bare)
    goal few

pub primitives_may_apply : PrimitivesMayApply
primitives_may_apply h from target out x p args handler o core k = may_apply h from target out x (performed h from target out x) p args handler o core k

pub fulls_end : FullsEnd
fulls_end h from target out x p args handler o words is much goal few = full_ends h from target out x (performed h from target out x) p args handler o words is much goal few

pub failures_keep : FailuresKeep
failures_keep h from target out x p args handler o core k memory heap e was = (refusal_is h from target out x (performed h from target out x) p args handler o core k memory heap e was).1

pub failures_end : FailuresEnd
failures_end h from target out x p args o core k memory heap e was goal few = failure_ends h from target out x (performed h from target out x) p args false o refl core k memory heap e was goal few

pub answers_turn : AnswersTurn
answers_turn h from target out x p args handler o core k words is fits memory heap word was line tells = answer_turns h from target out x (performed h from target out x) p args handler o core k words is fits memory heap word was line tells was.within
