-- Sums and differences of integers are done in words.
use Rattle.std.proofs.Common.{◌≡◌, ℕ, zero, suc, ◌+◌, ◌-◌, ◌*◌, ◌≤◌, refl, ◌∙◌, ap, sym, subst, arith, inl, inr, length-append}
use Rattle.std.specs.Prelude.{◌⊎◌, if◌then◌else◌, pos, negsuc, Bool, true, false, not, ◌&&◌, ◌||◌, nat_eq, List, [], ◌∷◌, ◌++◌, map, length, Option, Some, slice_get, unwrap_or, codes, ℤ, ◌+ℤ◌, ◌-ℤ◌}
use Rattle.self_terms.specs.declared.names.Name.{Name}
use Rattle.self_terms.specs.declared.names.TheConstants.{INT_ADD, INT_SUB}
use Rattle.self_terms.specs.declared.nodes.Node.TheVariants as nodes
use Rattle.self_terms.specs.declared.values.Value.{Value}
use Rattle.self_terms.specs.declared.values.Value.TheVariants as values
use Rattle.self_terms.specs.Words.{IsSmall, word_of}
use Rattle.self_terms.specs.Depths.{one_if, depth, depth_from}
use Rattle.sparc_insn.specs.declared.insn.Insn.{Insn}
use Rattle.sparc_store.specs.Words.{Words, word_at}
use Rattle.sparc_store.specs.Windows.{kept}
use Rattle.sparc_machine.specs.State.{MachineState}
use Rattle.source_model.specs.State.{Activation, Activity, Running, State}
use Rattle.source_model.specs.Soundness.{body_in}
use Rattle.self_terms.specs.Names.{text_of}
use Rattle.source_model.specs.Names.{text_named}
use Rattle.source_model.specs.Primitives.{is_small, row_of}
use Rattle.source_model.specs.Sends.{Message}
use Rattle.std.proofs.lemmas.Bool.{eqb-true}
use Rattle.std.proofs.lemmas.Grind.{common_steps}
use Rattle.source_model.specs.Step.{step}
use Rattle.heap_cells.specs.Standing.{IsValue, AreValues}
use Rattle.frame_walk.specs.Places.{Frame, word_in_place, pending_places, pending_offset}
use Rattle.frame_walk.specs.Raw.{Going, becomes, moved_on}
use Rattle.raw_steps.specs.Sends.{here_of}
use Rattle.raw_steps.specs.Messages.{asked, asked_words}
use Rattle.raw_steps.specs.Stands.{Sense, IsAt, Follows as RawFollows}
use Rattle.raw_steps.proofs.Summing.{asked_is, untagged_is, one_untagged, sum_follows, difference_follows}
use Rattle.sparc_insn.specs.declared.insn.Insn.TheVariants.{Trap}
use Rattle.plain_words.specs.Code.{poll, is_sum, arguments_code, handed_code, summed_code, sum_code, primitive_code, answered_code}
use Rattle.plain_words.specs.Moves.{IsReady, Does, pended, handed_receiver, first_handed, handed_argument, summed, overflows}
use Rattle.plain_words.specs.Showing.{viewed}
use Rattle.plain_words.specs.Units.{node_code, owns_context, frame_locals, frame_words}
use Rattle.plain_words.specs.declared.references.References.{References}
use Rattle.plain_words.proofs.Ints.{sum_is, difference_is, sum_fits, difference_fits, words_untagged}
use Rattle.plain_words.proofs.Basics.{at_front}
use Rattle.plain_words.proofs.Sending.{primitive_asks}
use Rattle.plain_words.proofs.Summing.{sum_does, sum_asks}
use Rattle.plain_runs.specs.Host.{Host, raw_of}
use Rattle.plain_runs.specs.Units.{words_before}
use Rattle.plain_runs.specs.Sound.{RunsAt, callers_of}
use Rattle.plain_runs.specs.Course.{CanGo, code_at}
use Rattle.plain_runs.proofs.Ready.{ready_at, replaced_follows}
use Rattle.plain_steps.specs.Steps.{StandsFor, DoesStep, WordsDo, TakesIntegers, AreIntegers, comes_to, is_summed, IsSummed, Performs, InWords, ByService, WordsPerform, first_taken}
use Rattle.plain_steps.proofs.Here.{AtNode, at_node_of}
use Rattle.plain_steps.proofs.Words.{depth_is, depth_more, room_of, meets_step}
use Rattle.plain_steps.proofs.Reading.{values_long}

pending_long : (memory : Words) (window : ℕ → ℕ) (sp locals k : ℕ) → length (map (word_in_place memory window sp) (pending_places locals k)) ≡ k
pending_long memory window sp locals zero = refl
pending_long memory window sp locals (suc k) = ap suc (pending_long memory window sp locals k)

-- how many values a primitive with one argument takes
abbrev takes_of : Bool → Bool → ℕ
takes_of implied handler = 1 + one_if (not implied) + one_if handler

-- the words up to the call
front_ready : (m : MachineState) (p words : ℕ) (front rest : List Insn) → IsReady m p words (front ++ rest) → IsReady m p words front
front_ready m p words front rest r = record {
  stands = r.stands;
  code_region = record { aligned = r.code_region.aligned; from = r.code_region.from; to = omega (arith, r.code_region.to, length-append poll front, length-append poll (front ++ rest), length-append front rest) };
  code_there = at_front m.memory p (poll ++ front) rest r.code_there;
  frame = r.frame;
  left = r.left;
}

-- what it takes are the words that its code hands over, and the older ones stay
record Hands (m : MachineState) (b n locals : ℕ) (implied handler : Bool) (first d : ℕ) : Type 0 where
  receiver : (asked_words 1 implied handler (viewed m b n locals d)).receiver ≡ handed_receiver m implied locals first
  arguments : (asked_words 1 implied handler (viewed m b n locals d)).arguments ≡ handed_argument m implied locals first ∷ []
  rest : (asked_words 1 implied handler (viewed m b n locals d)).rest ≡ (viewed m b n locals first).pending

at_depth : (m : MachineState) (b n locals : ℕ) (implied handler : Bool) (first d e : ℕ) → d ≡ e → Hands m b n locals implied handler first e → Hands m b n locals implied handler first d
at_depth m b n locals implied handler first d e same h = let P : ℕ → Type 0 = Hands m b n locals implied handler first in subst P (sym same) h

hands : (m : MachineState) (b n locals : ℕ) (implied handler : Bool) (first d : ℕ) → d ≡ first + takes_of implied handler → Hands m b n locals implied handler first d
hands m b n locals true false first d e = at_depth m b n locals true false first d (suc first) (omega (arith, e)) (record { receiver = refl; arguments = refl; rest = refl })
hands m b n locals true true first d e = at_depth m b n locals true true first d (suc (suc first)) (omega (arith, e)) (record { receiver = refl; arguments = refl; rest = refl })
hands m b n locals false false first d e =
    at_depth m b n locals false false first d (suc (suc first)) (omega (arith, e)) (record { receiver = refl; arguments = ap (λ j. word_at m.memory (m.regs 14 + pending_offset locals j) ∷ []) (omega arith); rest = refl })
hands m b n locals false true first d e =
    at_depth m b n locals false true first d (suc (suc (suc first))) (omega (arith, e)) (record { receiver = refl; arguments = ap (λ j. word_at m.memory (m.regs 14 + pending_offset locals j) ∷ []) (omega arith); rest = refl })

one_few : (b : Bool) → one_if b ≤ 1
one_few true = omega arith
one_few false = omega arith

first_is : (implied : Bool) (k : ℕ) → first_handed implied k ≡ k + one_if (not implied)
first_is true k = omega arith
first_is false k = omega arith

-- Whether it is a sum that comes to an integer, told of the current activity.
abbrev summed_in : State → ℕ → ℕ → Bool → Bool → Option Activity → Bool
summed_in s name args implied handler (Some (Running (a ∷ older))) = is_summed name args (asked args implied handler (here_of s a older))
summed_in s name args implied handler _ = false

summed_here : (z : Sense) (h : Host) (s : State) (b n : ℕ) (name : Name) (args : ℕ) (implied handler is : Bool) (r : RunsAt h b n (nodes.Prim name args implied handler)) → (at : AtNode z h s b n (nodes.Prim name args implied handler) r)
    → is_summed name.0 args (asked args implied handler (here_of s at.young at.older)) ≡ is → IsSummed s name.0 args implied handler is
summed_here z h s b n name args implied handler is r at known a older running = sym (ap (summed_in s name.0 args implied handler) (sym at.at.here ∙ running)) ∙ known

comes_not : (less : Bool) (v : Value) (vs : List Value) → ((x y : ℤ) → v ≡ values.Int x → vs ≡ values.Int y ∷ [] → is_small (if less then x -ℤ y else x +ℤ y) ≡ false) → comes_to less v vs ≡ false
comes_not less (values.Int x) (values.Int y ∷ []) f = f x y refl refl
comes_not less _ _ f = refl

-- how many words hand a receiver and arguments over
arguments_long : (to locals k n : ℕ) → length (arguments_code to locals k n) ≡ n
arguments_long to locals k zero = refl
arguments_long to locals k (suc n) = ap suc (arguments_long (to + 1) locals (k + 1) n)

handed_long : (implied : Bool) (locals k n : ℕ) → length (handed_code implied locals k n) ≡ suc n
handed_long true locals k n = ap suc (arguments_long 9 locals k n)
handed_long false locals k n = ap suc (arguments_long 9 locals (k + 1) n)

sum_long : (less implied : Bool) (locals k n : ℕ) → length (sum_code less implied locals k n) ≡ n + 8
sum_long less implied locals k n = omega (arith, length-append (handed_code implied locals k n) (summed_code less), handed_long implied locals k n)

plain_long : (sum : Bool) (name args : ℕ) (implied : Bool) (locals k n : ℕ) → is_sum name args ≡ sum → sum ≡ false → length (primitive_code name args implied locals k n) ≡ n + 2
plain_long true name args implied locals k n e never_so = absurd (cc)
plain_long false name args implied locals k n e never_so =
    ap (λ c. length (if c then sum_code (nat_eq name INT_SUB.0) implied locals k n else (handed_code implied locals k n ++ (Trap 3 ∷ [])))) e
    ∙ omega (arith, length-append (handed_code implied locals k n) (Trap 3 ∷ []), handed_long implied locals k n)

never : (b : Bool) → (b ≡ true → ⊥) → b ≡ false
never true f = absurd (f refl)
never false f = refl

small_true : (z : ℤ) → IsSmall z → is_small z ≡ true
small_true (pos n) h = grind (arith, common_steps)
small_true (negsuc n) h = grind (arith, common_steps)

true_small : (z : ℤ) → is_small z ≡ true → IsSmall z
true_small (pos n) h = grind (arith, common_steps)
true_small (negsuc n) h = grind (arith, common_steps)

module _ (less : Bool) (name : Name) (f : ℤ → ℤ → ℤ) (implied handler : Bool)
    (code : (r : References) (owns : Bool) (locals at k : ℕ) → node_code r owns locals at (nodes.Prim name 1 implied handler) k
    ≡ sum_code less implied locals (k - takes_of implied handler) (1 + one_if handler) ++ answered_code locals (k - takes_of implied handler))
    (ints : (x y : ℤ) → IsSmall x → IsSmall y → IsSmall (f x y) → (overflows less (word_of x) (word_of y) ≡ false) × (summed less (word_of x) (word_of y) ≡ word_of (f x y)))
    (f_is : (x y : ℤ) → f x y ≡ (if less then x -ℤ y else x +ℤ y))
    (z : Sense) (h : Host) (s : State) (b n : ℕ) where
  -- what the raw step is, where both are integers
  abbrev RawSums : Type 0
  RawSums = (a : Activation) (older : List Activation) (g : Frame) (fs : List Frame) → IsAt (raw_of h) s a older g fs (nodes.Prim name 1 implied handler) → (i j : ℤ)
      → (asked 1 implied handler (here_of s a older)).receiver ≡ values.Int i → (asked 1 implied handler (here_of s a older)).arguments ≡ values.Int j ∷ [] → IsSmall (f i j)
      → RawFollows z (becomes (raw_of h) (Going (moved_on (word_of (f i j) ∷ (asked_words 1 implied handler g).rest) g ∷ fs))) (step s) []

  summed_steps : (stood : StandsFor z h s) (r : RunsAt h b n (nodes.Prim name 1 implied handler)) → CanGo h → RawSums
      → TakesIntegers f implied handler (here_of s (at_node_of z h s b n (nodes.Prim name 1 implied handler) stood r).young (at_node_of z h s b n (nodes.Prim name 1 implied handler) stood r).older)
      → DoesStep z h s
  summed_steps stood r can raw given =
      let m = h.machine in
      let x = body_in h.bodies b in
      let locals = frame_locals x in
      let node = nodes.Prim name 1 implied handler in
      let k = depth_from 0 x.nodes n in
      let deep = depth x.nodes n in
      let dd = depth_is x.nodes n in
      let t = takes_of implied handler in
      let first = k - t in
      let enough : t ≤ deep = (can.runs b).takes n node r.node_is in
      let at = at_node_of z h s b n node stood r in
      let v = viewed m b n locals deep in
      let callers = callers_of h r.view.older in
      let many : length at.young.pending ≡ deep = values_long z.cells z.places at.young.pending v.pending at.first.pending ∙ pending_long m.memory (kept m.regs) (m.regs 14) locals deep in
      let message = asked_is (raw_of h) s z stood.stands at.young at.older v callers 1 implied handler node at.at (omega (arith, enough, many)) in
      let w = asked_words 1 implied handler v in
      let hw = hands m b n locals implied handler first deep (omega (arith, enough, dd)) in
      let receiver = handed_receiver m implied locals first in
      let argument = handed_argument m implied locals first in
      let one = (let P : Value → Type 0 = λ y. IsValue z.cells z.places y w.receiver in subst P given.receiver message.receiver) in
      let others = (let P : List Value → Type 0 = λ ys. AreValues z.cells z.places ys w.arguments in subst P given.argument message.arguments) in
      let two = (let P : List ℕ → Type 0 = λ ws. AreValues z.cells z.places (values.Int given.y ∷ []) ws in subst P hw.arguments others) in
      let first_word : receiver ≡ word_of given.x = sym hw.receiver ∙ one.1 in
      let second_word : argument ≡ word_of given.y = two.0.1 in
      let q = ints given.x given.y one.0 two.0.0 given.small in
      let flag : overflows less receiver argument ≡ false = ap (λ y. overflows less y argument) first_word ∙ ap (overflows less (word_of given.x)) second_word ∙ q.0 in
      let word : summed less receiver argument ≡ word_of (f given.x given.y) = ap (λ y. summed less y argument) first_word ∙ ap (summed less (word_of given.x)) second_word ∙ q.1 in
      let words = sum_code less implied locals first (1 + one_if handler) ++ answered_code locals first in
      let code_is : code_at h b n node ≡ words = code h.references (owns_context x) locals (words_before h.references (owns_context x) locals 0 0 x.nodes n) k in
      let ready = (let P : List Insn → Type 0 = IsReady m m.pc (frame_words x) in subst P code_is (ready_at h b n node r can.left)) in
      let d = sum_does m m.pc (frame_words x) less implied locals first (1 + one_if handler) ready (omega arith) (omega (arith, one_few handler)) (omega (arith, first_is implied first, room_of h b n can, enough, dd)) flag in
      let d1 = (let P : ℕ → Type 0 = λ y. Does m m.pc words (pended m locals first y) in subst P word d) in
      let d2 = (let P : List Insn → Type 0 = λ y. Does m m.pc y (pended m locals first (word_of (f given.x given.y))) in subst P (sym code_is) d1) in
      let next = (can.runs b).ends n node r.node_is refl in
      let deeper : depth x.nodes (n + 1) ≡ first + 1 = omega (arith, depth_more x.nodes n node r.node_is, dd) in
      let follow = replaced_follows h b n node next.0 first (word_of (f given.x given.y)) r can.hosted can.runs can.current can.left next.1 deeper (omega (arith, enough, dd)) d2 in
      let raw1 = raw at.young at.older v callers at.at given.x given.y given.receiver given.argument given.small in
      let raw2 = (let P : List ℕ → Type 0 = λ ws. RawFollows z (becomes (raw_of h) (Going (moved_on (word_of (f given.x given.y) ∷ ws) v ∷ callers))) (step s) [] in subst P hw.rest raw1) in
      meets_step z h s b (n + 1) next.0 _ stood follow raw2

  -- by what the sum of the words is
  sums_perform : (stood : StandsFor z h s) (r : RunsAt h b n (nodes.Prim name 1 implied handler)) → CanGo h → RawSums → ((m : Message) → is_summed name.0 1 m ≡ comes_to less m.receiver m.arguments)
      → ((x y : ℤ) → IsSmall x → IsSmall y → overflows less (word_of x) (word_of y) ≡ false → IsSmall (f x y))
      → (over : Bool) → overflows less (handed_receiver h.machine implied (frame_locals (body_in h.bodies b)) (first_taken h b n 1 implied handler)) (handed_argument h.machine implied (frame_locals (body_in h.bodies b)) (first_taken h b n 1 implied handler)) ≡ over
      → Performs z h s b n name 1 implied handler
  sums_perform stood r can raw told fits false e =
      let m = h.machine in
      let x = body_in h.bodies b in
      let locals = frame_locals x in
      let node = nodes.Prim name 1 implied handler in
      let k = depth_from 0 x.nodes n in
      let deep = depth x.nodes n in
      let dd = depth_is x.nodes n in
      let t = takes_of implied handler in
      let first = k - t in
      let enough : t ≤ deep = (can.runs b).takes n node r.node_is in
      let at = at_node_of z h s b n node stood r in
      let v = viewed m b n locals deep in
      let callers = callers_of h r.view.older in
      let many : length at.young.pending ≡ deep = values_long z.cells z.places at.young.pending v.pending at.first.pending ∙ pending_long m.memory (kept m.regs) (m.regs 14) locals deep in
      let message = asked_is (raw_of h) s z stood.stands at.young at.older v callers 1 implied handler node at.at (omega (arith, enough, many)) in
      let q = asked 1 implied handler (here_of s at.young at.older) in
      let w = asked_words 1 implied handler v in
      let hw = hands m b n locals implied handler first deep (omega (arith, enough, dd)) in
      let receiver = handed_receiver m implied locals first in
      let argument = handed_argument m implied locals first in
      let bare = words_untagged less receiver argument e in
      let one = (let P : ℕ → Type 0 = IsValue z.cells z.places q.receiver in subst P hw.receiver message.receiver) in
      let two = (let P : List ℕ → Type 0 = AreValues z.cells z.places q.arguments in subst P hw.arguments message.arguments) in
      let i = untagged_is (raw_of h) s z stood.stands q.receiver receiver one bare.0 in
      let j = one_untagged (raw_of h) s z stood.stands q.arguments argument two bare.1 in
      let one_int = (let P : Value → Type 0 = λ y. IsValue z.cells z.places y receiver in subst P i.1 one) in
      let two_int = (let P : List Value → Type 0 = λ ys. AreValues z.cells z.places ys (argument ∷ []) in subst P j.1 two) in
      let flag : overflows less (word_of i.0) (word_of j.0) ≡ false = sym (ap (λ y. overflows less y argument) one_int.1 ∙ ap (overflows less (word_of i.0)) two_int.0.1) ∙ e in
      let small : is_small (if less then i.0 -ℤ j.0 else i.0 +ℤ j.0) ≡ true = sym (ap is_small (f_is i.0 j.0)) ∙ small_true (f i.0 j.0) (fits i.0 j.0 one_int.0 two_int.0.0 flag) in
      let known : is_summed name.0 1 q ≡ true = told q ∙ ap (λ v. comes_to less v q.arguments) i.1 ∙ ap (comes_to less (values.Int i.0)) j.1 ∙ small in
      InWords (summed_here z h s b n name 1 implied handler true r at known) (summed_steps stood r can raw (record { x = i.0; y = j.0; receiver = i.1; argument = j.1; small = fits i.0 j.0 one_int.0 two_int.0.0 flag }))
  sums_perform stood r can raw told fits true e =
      let m = h.machine in
      let x = body_in h.bodies b in
      let locals = frame_locals x in
      let node = nodes.Prim name 1 implied handler in
      let k = depth_from 0 x.nodes n in
      let deep = depth x.nodes n in
      let dd = depth_is x.nodes n in
      let t = takes_of implied handler in
      let first = k - t in
      let enough : t ≤ deep = (can.runs b).takes n node r.node_is in
      let at = at_node_of z h s b n node stood r in
      let v = viewed m b n locals deep in
      let callers = callers_of h r.view.older in
      let many : length at.young.pending ≡ deep = values_long z.cells z.places at.young.pending v.pending at.first.pending ∙ pending_long m.memory (kept m.regs) (m.regs 14) locals deep in
      let message = asked_is (raw_of h) s z stood.stands at.young at.older v callers 1 implied handler node at.at (omega (arith, enough, many)) in
      let q = asked 1 implied handler (here_of s at.young at.older) in
      let w = asked_words 1 implied handler v in
      let hw = hands m b n locals implied handler first deep (omega (arith, enough, dd)) in
      let receiver = handed_receiver m implied locals first in
      let argument = handed_argument m implied locals first in
      let over : (i j : ℤ) → q.receiver ≡ values.Int i → q.arguments ≡ values.Int j ∷ [] → is_small (if less then i -ℤ j else i +ℤ j) ≡ false = λ i j er ea. (
      let one = (let P : Value → Type 0 = λ y. IsValue z.cells z.places y w.receiver in subst P er message.receiver) in
      let others = (let P : List Value → Type 0 = λ ys. AreValues z.cells z.places ys w.arguments in subst P ea message.arguments) in
      let two = (let P : List ℕ → Type 0 = λ ws. AreValues z.cells z.places (values.Int j ∷ []) ws in subst P hw.arguments others) in
      let first_word : receiver ≡ word_of i = sym hw.receiver ∙ one.1 in
      let flag : overflows less (word_of i) (word_of j) ≡ true = sym (ap (λ y. overflows less y argument) first_word ∙ ap (overflows less (word_of i)) two.0.1) ∙ e in
      never (is_small (if less then i -ℤ j else i +ℤ j)) (λ yes. (let no : overflows less (word_of i) (word_of j) ≡ false = (ints i j one.0 two.0.0 (true_small (f i j) (ap is_small (f_is i j) ∙ yes))).0 in let both : true ≡ false = sym flag ∙ no in cc))
      ) in
      let known : is_summed name.0 1 q ≡ false = told q ∙ comes_not less q.receiver q.arguments over in
      let front = sum_code less implied locals first (1 + one_if handler) in
      let code_is : code_at h b n node ≡ front ++ answered_code locals first = code h.references (owns_context x) locals (words_before h.references (owns_context x) locals 0 0 x.nodes n) k in
      let ready = (let P : List Insn → Type 0 = IsReady m m.pc (frame_words x) in subst P code_is (ready_at h b n node r can.left)) in
      let long : length (poll ++ code_at h b n node) ≡ 6 + (1 + one_if handler + 8 + 1) = ap (λ c. length (poll ++ c)) code_is ∙ omega (arith, length-append front (answered_code locals first), sum_long less implied locals first (1 + one_if handler)) in
      ByService (summed_here z h s b n name 1 implied handler false r at known) (m.pc + 24 + 4 * (7 + (1 + one_if handler))) (omega (arith, long))
      (sum_asks m m.pc (frame_words x) less implied locals first (1 + one_if handler) (front_ready m m.pc (frame_words x) front (answered_code locals first) ready) (omega arith) (omega (arith, one_few handler)) (omega (arith, first_is implied first, room_of h b n can, enough, dd)) e)

-- the row of a text
row_is : (o : Option (List ℕ)) (text : List ℕ) → o ≡ Some text → row_of (unwrap_or o []) 1 ≡ row_of text 1
row_is o text e = ap (λ y. row_of (unwrap_or y []) 1) e

pub sum_steps : (implied handler : Bool) → WordsDo (nodes.Prim INT_ADD 1 implied handler) (AreIntegers (λ x y. x +ℤ y) implied handler)
sum_steps implied handler z h s b n stood r can holds =
    let at = at_node_of z h s b n (nodes.Prim INT_ADD 1 implied handler) stood r in
    summed_steps false INT_ADD (λ x y. x +ℤ y) implied handler (λ q owns locals at k. refl) sum_is (λ x y. refl) z h s b n stood r can
    (λ a older g fs at i j e y small. sum_follows (raw_of h) s z stood.stands a older g fs INT_ADD implied handler at (row_is _ _ stood.sums.add) i j e y small) (holds at.young at.older at.at.here)

pub difference_steps : (implied handler : Bool) → WordsDo (nodes.Prim INT_SUB 1 implied handler) (AreIntegers (λ x y. x -ℤ y) implied handler)
difference_steps implied handler z h s b n stood r can holds =
    let at = at_node_of z h s b n (nodes.Prim INT_SUB 1 implied handler) stood r in
    summed_steps true INT_SUB (λ x y. x -ℤ y) implied handler (λ q owns locals at k. refl) difference_is (λ x y. refl) z h s b n stood r can
    (λ a older g fs at i j e y small. difference_follows (raw_of h) s z stood.stands a older g fs INT_SUB implied handler at (row_is _ _ stood.sums.sub) i j e y small) (holds at.young at.older at.at.here)

-- a primitive that is a sum or a difference, by its name
both : (a b c : Bool) → (a && (b || c)) ≡ true → (a ≡ true) × ((b ≡ true) ⊎ (c ≡ true))
both true true c h = (refl, inl refl)
both true false true h = (refl, inr refl)
both true false false h = absurd (cc)
both false b c h = absurd (cc)

-- the code of one whose number is that of another's name
code_as : (name other : ℕ) (implied handler : Bool) (locals first : ℕ) → name ≡ other
    → primitive_code name 1 implied locals first (1 + one_if handler) ++ answered_code locals first ≡ primitive_code other 1 implied locals first (1 + one_if handler) ++ answered_code locals first
code_as name other implied handler locals first e = ap (λ x. primitive_code x 1 implied locals first (1 + one_if handler) ++ answered_code locals first) e

row_as : (s : State) (name other : ℕ) (text : List ℕ) → name ≡ other → text_of s.names other ≡ Some text → row_of (text_named s.names name) 1 ≡ row_of text 1
row_as s name other text e is = ap (λ x. row_of (text_named s.names x) 1) e ∙ row_is (text_of s.names other) text is

-- with one argument
one_performs : (name : Name) (implied handler : Bool) (z : Sense) (h : Host) (s : State) (b n : ℕ) → StandsFor z h s → RunsAt h b n (nodes.Prim name 1 implied handler) → CanGo h → ((nat_eq name.0 INT_ADD.0 ≡ true) ⊎ (nat_eq name.0 INT_SUB.0 ≡ true))
    → Performs z h s b n name 1 implied handler
one_performs name implied handler z h s b n stood r can (inl add) =
    let e = eqb-true name.0 INT_ADD.0 add in
    sums_perform false name (λ x y. x +ℤ y) implied handler (λ q owns locals at k. code_as name.0 INT_ADD.0 implied handler locals (k - takes_of implied handler) e) sum_is (λ x y. refl) z h s b n stood r can
    (λ a older g fs at i j y q small. sum_follows (raw_of h) s z stood.stands a older g fs name implied handler at (row_as s name.0 INT_ADD.0 _ e stood.sums.add) i j y q small) (λ m. ap (λ k. is_summed k 1 m) e) sum_fits _ refl
one_performs name implied handler z h s b n stood r can (inr sub) =
    let e = eqb-true name.0 INT_SUB.0 sub in
    sums_perform true name (λ x y. x -ℤ y) implied handler (λ q owns locals at k. code_as name.0 INT_SUB.0 implied handler locals (k - takes_of implied handler) e) difference_is (λ x y. refl) z h s b n stood r can
    (λ a older g fs at i j y q small. difference_follows (raw_of h) s z stood.stands a older g fs name implied handler at (row_as s name.0 INT_SUB.0 _ e stood.sums.sub) i j y q small) (λ m. ap (λ k. is_summed k 1 m) e) difference_fits _ refl

by_sum : (sum : Bool) (name : Name) (args : ℕ) (implied handler : Bool) (z : Sense) (h : Host) (s : State) (b n : ℕ) → StandsFor z h s → RunsAt h b n (nodes.Prim name args implied handler) → CanGo h → is_sum name.0 args ≡ sum → Performs z h s b n name args implied handler
by_sum true name args implied handler z h s b n stood r can e =
    let q = both (nat_eq args 1) (nat_eq name.0 INT_ADD.0) (nat_eq name.0 INT_SUB.0) e in
    let one = eqb-true args 1 q.0 in
    let r1 = (let P : ℕ → Type 0 = λ k. RunsAt h b n (nodes.Prim name k implied handler) in subst P one r) in
    (let P : ℕ → Type 0 = λ k. Performs z h s b n name k implied handler in subst P (sym one) (one_performs name implied handler z h s b n stood r1 can q.1))
by_sum false name args implied handler z h s b n stood r can e =
    let m = h.machine in
    let x = body_in h.bodies b in
    let locals = frame_locals x in
    let node = nodes.Prim name args implied handler in
    let first = first_taken h b n args implied handler in
    let enough : args + one_if (not implied) + one_if handler ≤ depth x.nodes n = (can.runs b).takes n node r.node_is in
    let few : args + one_if handler ≤ 5 = (can.runs b).translates.short n node r.node_is in
    let at = at_node_of z h s b n node stood r in
    ByService (summed_here z h s b n name args implied handler false r at (ap (λ c. c && comes_to (nat_eq name.0 INT_SUB.0) (asked args implied handler (here_of s at.young at.older)).receiver (asked args implied handler (here_of s at.young at.older)).arguments) e)) (m.pc + 24 + 4 * (1 + (args + one_if handler)))
    (omega (arith, length-append (primitive_code name.0 args implied locals first (args + one_if handler)) (answered_code locals first), plain_long false name.0 args implied locals first (args + one_if handler) e refl))
    (primitive_asks m m.pc (frame_words x) name.0 args implied locals first (args + one_if handler) e
    (front_ready m m.pc (frame_words x) (primitive_code name.0 args implied locals first (args + one_if handler)) (answered_code locals first) (ready_at h b n node r can.left)) few (omega (arith, first_is implied first, room_of h b n can, enough, depth_is x.nodes n)))

pub primitives_perform : WordsPerform
primitives_perform name args implied handler z h s b n stood r can = by_sum (is_sum name.0 args) name args implied handler z h s b n stood r can refl
