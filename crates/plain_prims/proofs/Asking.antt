-- The words of a primitive's node, where they ask for the service.
use Rattle.std.proofs.Common.{◌≡◌, ◌⊎◌, ℕ, zero, suc, ◌+◌, ◌-◌, ◌*◌, ◌<◌, ◌≤◌, refl, ◌∙◌, ap, sym, subst, arith, inl, inr, length-append}
use Rattle.std.specs.Prelude.{Bool, true, false, if◌then◌else◌, not, ◌&&◌, ◌||◌, nat_eq, List, [], ◌∷◌, ◌++◌, map, length, take, drop, reverse, get_or, Some, ℤ, ◌+ℤ◌, ◌-ℤ◌}
use Rattle.std.proofs.lemmas.Bool.{eqb-true}
use Rattle.std.proofs.lemmas.List.{reverse-append, drop-drop}
use Rattle.self_terms.specs.declared.names.Name.{Name}
use Rattle.self_terms.specs.declared.names.TheConstants.{INT_ADD, INT_SUB}
use Rattle.self_terms.specs.declared.nodes.Node.{Node}
use Rattle.self_terms.specs.declared.nodes.Node.TheVariants as nodes
use Rattle.self_terms.specs.declared.values.Value.{Value}
use Rattle.self_terms.specs.declared.values.Value.TheVariants as values
use Rattle.self_terms.specs.Depths.{one_if, depth}
use Rattle.self_terms.specs.Words.{IsSmall, word_of}
use Rattle.sparc_insn.specs.declared.insn.Insn.{Insn}
use Rattle.sparc_insn.specs.declared.insn.Insn.TheVariants.{Trap}
use Rattle.sparc_store.specs.Words.{Words, word_at}
use Rattle.sparc_store.specs.Windows.{kept}
use Rattle.sparc_machine.specs.State.{MachineState}
use Rattle.source_model.specs.Soundness.{body_in}
use Rattle.source_model.specs.Sends.{Here}
use Rattle.source_model.specs.State.{Running, State}
use Rattle.source_model.specs.Step.{handler_of}
use Rattle.heap_cells.specs.Standing.{IsValue, AreValues}
use Rattle.frame_walk.specs.Places.{word_in_place, pending_places, pending_offset}
use Rattle.raw_steps.specs.Messages.{asked, asked_words}
use Rattle.raw_steps.specs.Sends.{here_of}
use Rattle.raw_steps.specs.Stands.{Sense}
use Rattle.raw_steps.proofs.Summing.{asked_is, untagged_is, one_untagged}
use Rattle.raw_steps.proofs.Values.{value_got}
use Rattle.plain_words.specs.Code.{poll, is_sum, handed_code, summed_code, sum_code, primitive_code, answered_code}
use Rattle.plain_words.specs.Moves.{IsReady, Asks, AreArguments, registers_from, handed_receiver, first_handed, handed_argument, overflows}
use Rattle.plain_words.specs.Showing.{viewed}
use Rattle.plain_words.specs.Units.{frame_locals, frame_words, is_call}
use Rattle.plain_words.proofs.Basics.{at_front}
use Rattle.plain_words.proofs.Ints.{sum_fits, difference_fits, words_untagged}
use Rattle.plain_words.proofs.Long.{handed_long}
use Rattle.plain_words.proofs.Sending.{primitive_asks}
use Rattle.plain_words.proofs.Summing.{sum_asks}
use Rattle.plain_runs.specs.Host.{Host, raw_of}
use Rattle.plain_runs.specs.Units.{node_offset, IsBehindCall}
use Rattle.plain_runs.specs.Sound.{RunsAt, callers_of}
use Rattle.plain_runs.specs.Course.{CanGo, code_at}
use Rattle.plain_runs.proofs.Pointed.{next_offset}
use Rattle.plain_runs.proofs.Ready.{there_at, ready_at}
use Rattle.plain_steps.specs.Steps.{StandsFor, DoesStep, TakesIntegers, AreIntegers, first_taken}
use Rattle.plain_steps.proofs.Here.{at_node_of}
use Rattle.plain_steps.proofs.Reading.{values_long}
use Rattle.plain_steps.proofs.Summing.{sum_steps, difference_steps}
use Rattle.plain_steps.proofs.Words.{depth_is, room_of}
use Rattle.plain_prims.specs.Asking.{IsHandler, IsPerformed, Performed, InWords, ByService, PrimitivesAsk}

-- Words of pending values.

pending_long : (memory : Words) (window : ℕ → ℕ) (sp locals k : ℕ) → length (map (word_in_place memory window sp) (pending_places locals k)) ≡ k
pending_long memory window sp locals zero = refl
pending_long memory window sp locals (suc k) = ap suc (pending_long memory window sp locals k)

-- so many of them from a number on
abbrev rising : Words → ℕ → ℕ → ℕ → ℕ → List ℕ
rising memory sp locals k zero = []
rising memory sp locals k (suc n) = word_at memory (sp + pending_offset locals k) ∷ rising memory sp locals (k + 1) n

-- the registers that they are loaded to; and the one behind them
from_registers : (m to : MachineState) (register locals k n more : ℕ) → AreArguments m to register locals k (n + more) → registers_from to.regs register n ≡ rising m.memory (m.regs 14) locals k n
from_registers m to register locals k zero more a = refl
from_registers m to register locals k (suc n) more a =
    let next : suc n + more ≡ suc (n + more) = omega arith in
    let b : AreArguments m to register locals k (suc (n + more)) = (let P : ℕ → Type 0 = AreArguments m to register locals k in subst P next a) in
    λ i. b.0 i ∷ from_registers m to (register + 1) locals (k + 1) n more b.1 i

last_register : (m to : MachineState) (register locals k n : ℕ) → AreArguments m to register locals k (n + 1) → to.regs (register + n) ≡ word_at m.memory (m.regs 14 + pending_offset locals (k + n))
last_register m to register locals k zero a = ap to.regs (omega arith) ∙ a.0 ∙ ap (λ j. word_at m.memory (m.regs 14 + pending_offset locals j)) (omega arith)
last_register m to register locals k (suc n) a =
    let next : suc n + 1 ≡ suc (n + 1) = omega arith in
    let b : AreArguments m to register locals k (suc (n + 1)) = (let P : ℕ → Type 0 = AreArguments m to register locals k in subst P next a) in
    ap to.regs (omega arith) ∙ last_register m to (register + 1) locals (k + 1) n b.1 ∙ ap (λ j. word_at m.memory (m.regs 14 + pending_offset locals j)) (omega arith)

rising_last : (memory : Words) (sp locals k n : ℕ) → rising memory sp locals k (suc n) ≡ rising memory sp locals k n ++ (word_at memory (sp + pending_offset locals (k + n)) ∷ [])
rising_last memory sp locals k zero = ap (λ j. word_at memory (sp + pending_offset locals j) ∷ []) (omega arith)
rising_last memory sp locals k (suc n) =
    let later : k + 1 + n ≡ k + suc n = omega arith in
    ap (λ ws. word_at memory (sp + pending_offset locals k) ∷ ws) (rising_last memory sp locals (k + 1) n ∙ ap (λ j. rising memory sp locals (k + 1) n ++ (word_at memory (sp + pending_offset locals j) ∷ [])) later)

-- the youngest n of d pending words, in the order in which they were pended
turned : (memory : Words) (window : ℕ → ℕ) (sp locals n d : ℕ) → n ≤ d → reverse (take n (map (word_in_place memory window sp) (pending_places locals d))) ≡ rising memory sp locals (d - n) n
turned memory window sp locals zero d h = refl
turned memory window sp locals (suc n) zero h = absurd (omega (arith, h))
turned memory window sp locals (suc n) (suc d) h =
    let w = word_at memory (sp + pending_offset locals d) in
    let front : d - n ≡ suc d - suc n = omega arith in
    let last : d ≡ d - n + n = omega (arith, h) in
    reverse-append (w ∷ []) (take n (map (word_in_place memory window sp) (pending_places locals d)))
    ∙ ap (λ ws. ws ++ (w ∷ [])) (turned memory window sp locals n d (omega (arith, h)))
    ∙ ap (λ j. rising memory sp locals (d - n) n ++ (word_at memory (sp + pending_offset locals j) ∷ [])) last
    ∙ sym (rising_last memory sp locals (d - n) n)
    ∙ ap (λ j. rising memory sp locals j (suc n)) front

-- the pending word under so many younger ones
under : (memory : Words) (window : ℕ → ℕ) (sp locals n d : ℕ) → n < d → get_or (map (word_in_place memory window sp) (pending_places locals d)) n 0 ≡ word_at memory (sp + pending_offset locals (d - (n + 1)))
under memory window sp locals n zero h = absurd (omega (arith, h))
under memory window sp locals zero (suc d) h = ap (λ j. word_at memory (sp + pending_offset locals j)) (omega arith)
under memory window sp locals (suc n) (suc d) h = under memory window sp locals n d (omega (arith, h)) ∙ ap (λ j. word_at memory (sp + pending_offset locals j)) (omega arith)

-- without a handler's
over_words : (memory : Words) (window : ℕ → ℕ) (sp locals d : ℕ) (handler : Bool) → one_if handler ≤ d
    → drop (one_if handler) (map (word_in_place memory window sp) (pending_places locals d)) ≡ map (word_in_place memory window sp) (pending_places locals (d - one_if handler))
over_words memory window sp locals d false h = ap (λ j. map (word_in_place memory window sp) (pending_places locals j)) (omega arith)
over_words memory window sp locals zero true h = absurd (omega (arith, h))
over_words memory window sp locals (suc d) true h = ap (λ j. map (word_in_place memory window sp) (pending_places locals j)) (omega arith)

first_is : (implied : Bool) (k : ℕ) → first_handed implied k ≡ k + one_if (not implied)
first_is true k = omega arith
first_is false k = omega arith

-- What a primitive's message has in words, over d pending values: the receiver that is handed over, the arguments, and what stays pending.
record Hands (m : MachineState) (b n locals args d : ℕ) (implied handler : Bool) (first : ℕ) : Type 0 where
  receiver : (asked_words args implied handler (viewed m b n locals d)).receiver ≡ handed_receiver m implied locals first
  arguments : (asked_words args implied handler (viewed m b n locals d)).arguments ≡ rising m.memory (m.regs 14) locals (first_handed implied first) args
  rest : (asked_words args implied handler (viewed m b n locals d)).rest ≡ drop (args + one_if (not implied) + one_if handler) (viewed m b n locals d).pending

hands : (m : MachineState) (b n locals args d : ℕ) (implied handler : Bool) (first : ℕ) → d ≡ first + (args + one_if (not implied) + one_if handler) → Hands m b n locals args d implied handler first
hands m b n locals args d true handler first e =
    let w = map (word_in_place m.memory (kept m.regs) (m.regs 14)) (pending_places locals d) in
    let over = over_words m.memory (kept m.regs) (m.regs 14) locals d handler (omega (arith, e)) in
    record {
      receiver = refl;
      arguments =
          ap (λ ws. reverse (take args ws)) over
          ∙ turned m.memory (kept m.regs) (m.regs 14) locals args (d - one_if handler) (omega (arith, e))
          ∙ ap (λ j. rising m.memory (m.regs 14) locals j args) (omega (arith, e));
      rest = drop-drop args (one_if handler) w ∙ ap (λ j. drop j w) (omega arith);
    }
hands m b n locals args d false handler first e =
    let w = map (word_in_place m.memory (kept m.regs) (m.regs 14)) (pending_places locals d) in
    let over = over_words m.memory (kept m.regs) (m.regs 14) locals d handler (omega (arith, e)) in
    record {
      receiver =
          ap (λ ws. get_or ws args 0) over
          ∙ under m.memory (kept m.regs) (m.regs 14) locals args (d - one_if handler) (omega (arith, e))
          ∙ ap (λ j. word_at m.memory (m.regs 14 + pending_offset locals j)) (omega (arith, e));
      arguments =
          ap (λ ws. reverse (take args ws)) over
          ∙ turned m.memory (kept m.regs) (m.regs 14) locals args (d - one_if handler) (omega (arith, e))
          ∙ ap (λ j. rising m.memory (m.regs 14) locals j args) (omega (arith, e));
      rest = drop-drop (args + 1) (one_if handler) w ∙ ap (λ j. drop j w) (omega arith);
    }

-- The words of a node.

-- the call is the last word but one of the node
behind_at : (h : Host) (b n : ℕ) (node : Node) (k : ℕ) → (r : RunsAt h b n node) → is_call node ≡ true → length (code_at h b n node) ≡ k + 2 → IsBehindCall h (h.machine.pc + 24 + 4 * k + 4) b n node
behind_at h b n node k r call long =
    let next = next_offset h.references (body_in h.bodies b) n node r.node_is in
    let later : node_offset h.references (body_in h.bodies b) (n + 1) ≡ node_offset h.references (body_in h.bodies b) (suc n) = ap (node_offset h.references (body_in h.bodies b)) (omega arith) in
    record {
      at = r.poll.at;
      unit = r.poll.unit;
      node_is = r.node_is;
      call = call;
      address = omega (arith, r.poll.address, next, later, long);
    }

-- the words up to the call
front_ready : (m : MachineState) (p words : ℕ) (front rest : List Insn) → IsReady m p words (front ++ rest) → IsReady m p words front
front_ready m p words front rest r = record {
  stands = r.stands;
  code_region = record { aligned = r.code_region.aligned; from = r.code_region.from; to = omega (arith, r.code_region.to, length-append poll front, length-append poll (front ++ rest), length-append front rest) };
  code_there = at_front m.memory p (poll ++ front) rest r.code_there;
  frame = r.frame;
  left = r.left;
}

call_long : (implied : Bool) (locals k n at service : ℕ) → length ((handed_code implied locals k n ++ (Trap service ∷ [])) ++ answered_code locals at) ≡ 1 + n + 2
call_long implied locals k n at service =
    let both = length-append (handed_code implied locals k n ++ (Trap service ∷ [])) (answered_code locals at) in
    let front = length-append (handed_code implied locals k n) (Trap service ∷ []) in
    let many = handed_long implied locals k n in
    omega arith

sum_long : (less implied : Bool) (locals k n at : ℕ) → length (sum_code less implied locals k n ++ answered_code locals at) ≡ 7 + n + 2
sum_long less implied locals k n at =
    let both = length-append (sum_code less implied locals k n) (answered_code locals at) in
    let front = length-append (handed_code implied locals k n) (summed_code less) in
    let many = handed_long implied locals k n in
    omega arith

-- where there is no sum, and where there is one
plain_long : (sum less implied : Bool) (locals k n at : ℕ) → sum ≡ false → length ((if sum then sum_code less implied locals k n else (handed_code implied locals k n ++ (Trap 3 ∷ []))) ++ answered_code locals at) ≡ 1 + n + 2
plain_long true less implied locals k n at e = absurd (cc)
plain_long false less implied locals k n at e = call_long implied locals k n at 3

summed_long : (sum less implied : Bool) (locals k n at : ℕ) → sum ≡ true → length ((if sum then sum_code less implied locals k n else (handed_code implied locals k n ++ (Trap 3 ∷ []))) ++ answered_code locals at) ≡ 7 + n + 2
summed_long true less implied locals k n at e = sum_long less implied locals k n at
summed_long false less implied locals k n at e = absurd (cc)

-- The youngest pending value is the handler.
handler_word : (z : Sense) (h : Host) (s : State) (b n : ℕ) (node : Node) (args : ℕ) (handler : Bool) (to : MachineState) → (f : StandsFor z h s) → (r : RunsAt h b n node)
    → (handler ≡ true → to.regs (9 + args) ≡ word_at h.machine.memory (h.machine.regs 14 + pending_offset (frame_locals (body_in h.bodies b)) (depth (body_in h.bodies b).nodes n - 1)))
    → one_if handler ≤ depth (body_in h.bodies b).nodes n
    → IsHandler z (handler_of handler (here_of s (at_node_of z h s b n node f r).young (at_node_of z h s b n node f r).older)) (to.regs (9 + args))
handler_word z h s b n node args false to f r is some = tt
handler_word z h s b n node args true to f r is some =
    let m = h.machine in
    let x = body_in h.bodies b in
    let locals = frame_locals x in
    let at = at_node_of z h s b n node f r in
    let d = depth x.nodes n in
    let v = viewed m b n locals d in
    let many : length at.young.pending ≡ d = values_long z.cells z.places at.young.pending v.pending at.first.pending ∙ pending_long m.memory (kept m.regs) (m.regs 14) locals d in
    let value = value_got z.cells z.places at.young.pending v.pending 0 (values.Object 0) 0 at.first.pending (omega (arith, many, some)) in
    let word : get_or v.pending 0 0 ≡ to.regs (9 + args) = under m.memory (kept m.regs) (m.regs 14) locals 0 d (omega (arith, some)) ∙ sym (is refl) in
    (let P : ℕ → Type 0 = IsValue z.cells z.places (get_or at.young.pending 0 (values.Object 0)) in subst P word value)

module _ (name : Name) (args : ℕ) (implied handler : Bool) (z : Sense) (h : Host) (s : State) (b n : ℕ) (f : StandsFor z h s) (r : RunsAt h b n (nodes.Prim name args implied handler)) (can : CanGo h) where
  abbrev the_node : Node
  the_node = nodes.Prim name args implied handler

  abbrev first_value : ℕ
  first_value = first_taken h b n args implied handler

  abbrev its_locals : ℕ
  its_locals = frame_locals (body_in h.bodies b)

  enough : args + one_if (not implied) + one_if handler ≤ depth (body_in h.bodies b).nodes n
  enough = (can.runs b).takes n the_node r.node_is

  few_words : args + one_if handler ≤ 5
  few_words = (can.runs b).translates.short n the_node r.node_is

  first_place : depth (body_in h.bodies b).nodes n ≡ first_value + (args + one_if (not implied) + one_if handler)
  first_place = omega (arith, enough, depth_is (body_in h.bodies b).nodes n)

  -- the node asks for the service by the trap that is its last word but one
  pub performed : (k : ℕ) → Asks h.machine 3 (h.machine.pc + 24 + 4 * k) (handed_receiver h.machine implied its_locals first_value) its_locals (first_handed implied first_value) (args + one_if handler)
      → length (code_at h b n the_node) ≡ k + 2 → IsPerformed z h s b n name args implied handler r
  performed k a long =
      let m = h.machine in
      let x = body_in h.bodies b in
      let at = at_node_of z h s b n the_node f r in
      let d = depth x.nodes n in
      let v = viewed m b n its_locals d in
      let callers = callers_of h r.view.older in
      let t = there_at h b n the_node r.poll r.node_is in
      let many : length at.young.pending ≡ d = values_long z.cells z.places at.young.pending v.pending at.first.pending ∙ pending_long m.memory (kept m.regs) (m.regs 14) its_locals d in
      let hw = hands m b n its_locals args d implied handler first_value first_place in
      record {
        at = m.pc + 24 + 4 * k;
        receiver = handed_receiver m implied its_locals first_value;
        first = first_handed implied first_value;
        asks = a;
        few = few_words;
        behind = behind_at h b n the_node k r refl long;
        low = omega (arith, t.1.to, long);
        takes = omega (arith, enough, depth_is x.nodes n);
        sender = at.young;
        older = at.older;
        is_at = at.at;
        words = asked_words args implied handler v;
        message = asked_is (raw_of h) s z f.stands at.young at.older v callers args implied handler the_node at.at (omega (arith, many, enough));
        receiver_is = hw.receiver ∙ sym a.receiver_is;
        arguments = hw.arguments ∙ sym (from_registers m a.to 9 its_locals (first_handed implied first_value) args (one_if handler) a.arguments);
        rest = hw.rest;
        handles = handler_word z h s b n the_node args handler a.to f r (λ e. handler_last a e) (omega (arith, enough));
      }
    where
      handler_last : (a : Asks h.machine 3 (h.machine.pc + 24 + 4 * k) (handed_receiver h.machine implied its_locals first_value) its_locals (first_handed implied first_value) (args + one_if handler)) → handler ≡ true
          → a.to.regs (9 + args) ≡ word_at h.machine.memory (h.machine.regs 14 + pending_offset its_locals (depth (body_in h.bodies b).nodes n - 1))
      handler_last a e =
          let one : args + one_if handler ≡ args + 1 = ap (λ y. args + one_if y) e in
          let all = (let P : ℕ → Type 0 = AreArguments h.machine a.to 9 its_locals (first_handed implied first_value) in subst P one a.arguments) in
          last_register h.machine a.to 9 its_locals (first_handed implied first_value) args all
          ∙ ap (λ j. word_at h.machine.memory (h.machine.regs 14 + pending_offset its_locals j)) (omega (arith, first_is implied first_value, first_place, one))

  -- a primitive that is no sum always does
  asks_plainly : is_sum name.0 args ≡ false → IsPerformed z h s b n name args implied handler r
  asks_plainly e =
      let m = h.machine in
      let x = body_in h.bodies b in
      let count = args + one_if handler in
      performed (1 + count)
      (primitive_asks m m.pc (frame_words x) name.0 args implied its_locals first_value count e
      (front_ready m m.pc (frame_words x) (primitive_code name.0 args implied its_locals first_value count) (answered_code its_locals first_value) (ready_at h b n the_node r can.left))
      few_words (omega (arith, first_is implied first_value, room_of h b n can, enough, depth_is x.nodes n)))
      (plain_long (is_sum name.0 args) (nat_eq name.0 INT_SUB.0) implied its_locals first_value count first_value e)

  -- a sum does where it overflows, or a word has a tag
  asks_over : is_sum name.0 args ≡ true → args ≡ 1
      → overflows (nat_eq name.0 INT_SUB.0) (handed_receiver h.machine implied its_locals first_value) (handed_argument h.machine implied its_locals first_value) ≡ true → IsPerformed z h s b n name args implied handler r
  asks_over e one over =
      let m = h.machine in
      let x = body_in h.bodies b in
      let count = args + one_if handler in
      let less = nat_eq name.0 INT_SUB.0 in
      let front = sum_code less implied its_locals first_value count in
      let all = yes_sum (is_sum name.0 args) front (handed_code implied its_locals first_value count ++ (Trap 3 ∷ [])) (answered_code its_locals first_value) m m.pc (frame_words x) e (ready_at h b n the_node r can.left) in
      performed (7 + count)
      (sum_asks m m.pc (frame_words x) less implied its_locals first_value count
      (front_ready m m.pc (frame_words x) front (answered_code its_locals first_value) all) (omega (arith, one)) few_words (omega (arith, first_is implied first_value, room_of h b n can, enough, depth_is x.nodes n)) over)
      (summed_long (is_sum name.0 args) less implied its_locals first_value count first_value e)
    where
      yes_sum : (c : Bool) (x y w : List Insn) (m : MachineState) (p words : ℕ) → c ≡ true → IsReady m p words ((if c then x else y) ++ w) → IsReady m p words (x ++ w)
      yes_sum true x y w m p words t q = q
      yes_sum false x y w m p words t q = absurd (cc)

-- Where the words of a sum's operands have no tag, and it doesn't overflow, both are integers, and so is it.
integers_taken : (less : Bool) (g : ℤ → ℤ → ℤ) (name : Name) (implied handler : Bool) (z : Sense) (h : Host) (s : State) (b n : ℕ) → StandsFor z h s → RunsAt h b n (nodes.Prim name 1 implied handler) → CanGo h
    → ((x y : ℤ) → IsSmall x → IsSmall y → overflows less (word_of x) (word_of y) ≡ false → IsSmall (g x y))
    → overflows less (handed_receiver h.machine implied (frame_locals (body_in h.bodies b)) (first_taken h b n 1 implied handler)) (handed_argument h.machine implied (frame_locals (body_in h.bodies b)) (first_taken h b n 1 implied handler)) ≡ false
    → AreIntegers g implied handler s
integers_taken less g name implied handler z h s b n f r can fits e a older running =
    let m = h.machine in
    let x = body_in h.bodies b in
    let locals = frame_locals x in
    let node = nodes.Prim name 1 implied handler in
    let first = first_taken h b n 1 implied handler in
    let d = depth x.nodes n in
    let enough : 1 + one_if (not implied) + one_if handler ≤ d = (can.runs b).takes n node r.node_is in
    let at = at_node_of z h s b n node f r in
    let v = viewed m b n locals d in
    let many : length at.young.pending ≡ d = values_long z.cells z.places at.young.pending v.pending at.first.pending ∙ pending_long m.memory (kept m.regs) (m.regs 14) locals d in
    let message = asked_is (raw_of h) s z f.stands at.young at.older v (callers_of h r.view.older) 1 implied handler node at.at (omega (arith, enough, many)) in
    let q = asked 1 implied handler (here_of s at.young at.older) in
    let hw = hands m b n locals 1 d implied handler first (omega (arith, enough, depth_is x.nodes n)) in
    let receiver = handed_receiver m implied locals first in
    let argument = handed_argument m implied locals first in
    let bare = words_untagged less receiver argument e in
    let one = (let P : ℕ → Type 0 = IsValue z.cells z.places q.receiver in subst P hw.receiver message.receiver) in
    let two = (let P : List ℕ → Type 0 = AreValues z.cells z.places q.arguments in subst P hw.arguments message.arguments) in
    let i = untagged_is (raw_of h) s z f.stands q.receiver receiver one bare.0 in
    let j = one_untagged (raw_of h) s z f.stands q.arguments argument two bare.1 in
    let one_int = (let P : Value → Type 0 = λ y. IsValue z.cells z.places y receiver in subst P i.1 one) in
    let two_int = (let P : List Value → Type 0 = λ ys. AreValues z.cells z.places ys (argument ∷ []) in subst P j.1 two) in
    let flag : overflows less (word_of i.0) (word_of j.0) ≡ false = sym (ap (λ y. overflows less y argument) one_int.1 ∙ ap (overflows less (word_of i.0)) two_int.0.1) ∙ e in
    let both : Some (Running (at.young ∷ at.older)) ≡ Some (Running (a ∷ older)) = sym at.at.here ∙ running in
    let young : at.young ≡ a = cc in
    let others : at.older ≡ older = cc in
    let here : here_of s at.young at.older ≡ here_of s a older = λ k. record { state = s; young = young k; older = others k } in
    (let P : Here → Type 0 = TakesIntegers g implied handler in
    subst P here (record { x = i.0; y = j.0; receiver = i.1; argument = j.1; small = fits i.0 j.0 one_int.0 two_int.0.0 flag }))

-- A primitive whose number is that of a sum, or of a difference.
both_tests : (a c d : Bool) → (a && (c || d)) ≡ true → (a ≡ true) × ((c ≡ true) ⊎ (d ≡ true))
both_tests true true d h = (refl, inl refl)
both_tests true false true h = (refl, inr refl)
both_tests true false false h = absurd (cc)
both_tests false c d h = absurd (cc)

named : (name : Name) (k : Name) → name.0 ≡ k.0 → name ≡ k
named name k e = λ i. record { 0 = e i }

module _ (implied handler : Bool) (z : Sense) (h : Host) (s : State) (b n : ℕ) (f : StandsFor z h s) (can : CanGo h) where
  adds : (r : RunsAt h b n (nodes.Prim INT_ADD 1 implied handler))
      → overflows false (handed_receiver h.machine implied (frame_locals (body_in h.bodies b)) (first_taken h b n 1 implied handler)) (handed_argument h.machine implied (frame_locals (body_in h.bodies b)) (first_taken h b n 1 implied handler)) ≡ false
      → DoesStep z h s
  adds r e = sum_steps implied handler z h s b n f r can (integers_taken false (λ x y. x +ℤ y) INT_ADD implied handler z h s b n f r can sum_fits e)

  subtracts : (r : RunsAt h b n (nodes.Prim INT_SUB 1 implied handler))
      → overflows true (handed_receiver h.machine implied (frame_locals (body_in h.bodies b)) (first_taken h b n 1 implied handler)) (handed_argument h.machine implied (frame_locals (body_in h.bodies b)) (first_taken h b n 1 implied handler)) ≡ false
      → DoesStep z h s
  subtracts r e = difference_steps implied handler z h s b n f r can (integers_taken true (λ x y. x -ℤ y) INT_SUB implied handler z h s b n f r can difference_fits e)

  -- with one argument, where the words' sum fits
  in_words : (name : Name) → RunsAt h b n (nodes.Prim name 1 implied handler) → ((nat_eq name.0 INT_ADD.0 ≡ true) ⊎ (nat_eq name.0 INT_SUB.0 ≡ true))
      → overflows (nat_eq name.0 INT_SUB.0) (handed_receiver h.machine implied (frame_locals (body_in h.bodies b)) (first_taken h b n 1 implied handler)) (handed_argument h.machine implied (frame_locals (body_in h.bodies b)) (first_taken h b n 1 implied handler)) ≡ false
      → DoesStep z h s
  in_words name r (inl add) e =
      let same = named name INT_ADD (eqb-true name.0 INT_ADD.0 add) in
      let receiver = handed_receiver h.machine implied (frame_locals (body_in h.bodies b)) (first_taken h b n 1 implied handler) in
      let argument = handed_argument h.machine implied (frame_locals (body_in h.bodies b)) (first_taken h b n 1 implied handler) in
      adds (let P : Name → Type 0 = λ k. RunsAt h b n (nodes.Prim k 1 implied handler) in subst P same r) (let P : Name → Type 0 = λ k. overflows (nat_eq k.0 INT_SUB.0) receiver argument ≡ false in subst P same e)
  in_words name r (inr sub) e =
      let same = named name INT_SUB (eqb-true name.0 INT_SUB.0 sub) in
      let receiver = handed_receiver h.machine implied (frame_locals (body_in h.bodies b)) (first_taken h b n 1 implied handler) in
      let argument = handed_argument h.machine implied (frame_locals (body_in h.bodies b)) (first_taken h b n 1 implied handler) in
      subtracts (let P : Name → Type 0 = λ k. RunsAt h b n (nodes.Prim k 1 implied handler) in subst P same r) (let P : Name → Type 0 = λ k. overflows (nat_eq k.0 INT_SUB.0) receiver argument ≡ false in subst P same e)

by_flag : (over : Bool) (name : Name) (args : ℕ) (implied handler : Bool) (z : Sense) (h : Host) (s : State) (b n : ℕ) → StandsFor z h s → (r : RunsAt h b n (nodes.Prim name args implied handler)) → CanGo h → is_sum name.0 args ≡ true → args ≡ 1
    → ((nat_eq name.0 INT_ADD.0 ≡ true) ⊎ (nat_eq name.0 INT_SUB.0 ≡ true))
    → overflows (nat_eq name.0 INT_SUB.0) (handed_receiver h.machine implied (frame_locals (body_in h.bodies b)) (first_taken h b n args implied handler)) (handed_argument h.machine implied (frame_locals (body_in h.bodies b)) (first_taken h b n args implied handler)) ≡ over
    → Performed z h s b n name args implied handler r
by_flag true name args implied handler z h s b n f r can sum one which e = ByService (asks_over name args implied handler z h s b n f r can sum one e)
by_flag false name args implied handler z h s b n f r can sum one which e =
    InWords (in_words implied handler z h s b n f can name (let P : ℕ → Type 0 = λ k. RunsAt h b n (nodes.Prim name k implied handler) in subst P one r) which
    (let P : ℕ → Type 0 = λ k. overflows (nat_eq name.0 INT_SUB.0) (handed_receiver h.machine implied (frame_locals (body_in h.bodies b)) (first_taken h b n k implied handler)) (handed_argument h.machine implied (frame_locals (body_in h.bodies b)) (first_taken h b n k implied handler)) ≡ false in subst P one e))

by_sum : (sum : Bool) (name : Name) (args : ℕ) (implied handler : Bool) (z : Sense) (h : Host) (s : State) (b n : ℕ) → StandsFor z h s → (r : RunsAt h b n (nodes.Prim name args implied handler)) → CanGo h → is_sum name.0 args ≡ sum
    → Performed z h s b n name args implied handler r
by_sum true name args implied handler z h s b n f r can e =
    let q = both_tests (nat_eq args 1) (nat_eq name.0 INT_ADD.0) (nat_eq name.0 INT_SUB.0) e in
    by_flag _ name args implied handler z h s b n f r can e (eqb-true args 1 q.0) q.1 refl
by_sum false name args implied handler z h s b n f r can e = ByService (asks_plainly name args implied handler z h s b n f r can e)

pub primitives_ask : PrimitivesAsk
primitives_ask z h s b n name args implied handler f r can = by_sum (is_sum name.0 args) name args implied handler z h s b n f r can refl
