-- Primitives as turns.
use Rattle.std.proofs.Common.{◌≡◌, ℕ, ◌+◌, ◌-◌, ◌<◌, ◌≤◌, List, [], ◌∷◌, ◌++◌, refl, ◌∙◌, ap, sym, subst, arith}
use Rattle.std.specs.Prelude.{Bool, true, false, if◌then◌else◌, ℤ, pos, negsuc, ◌+ℤ◌, ◌-ℤ◌, ◌*ℤ◌, int_div, int_rem, Option, Some, None, slice_get, length, nat_le, nat_lt}
use Rattle.io_ports.specs.Causes.{Takes, TakesFront}
use Rattle.self_terms.specs.declared.errors.ErrorName.{ErrorName}
use Rattle.self_terms.specs.declared.errors.ErrorName.TheVariants as errors
use Rattle.self_terms.specs.declared.names.Name.{Name}
use Rattle.self_terms.specs.declared.nodes.Node.{Node}
use Rattle.self_terms.specs.declared.nodes.Node.TheVariants as nodes
use Rattle.self_terms.specs.declared.values.Value.{Value}
use Rattle.self_terms.specs.declared.values.Value.TheVariants as values
use Rattle.object_maps.specs.declared.layout.Heap.{Heap}
use Rattle.object_maps.specs.Slots.{Slots}
use Rattle.sparc_store.specs.Words.{Words}
use Rattle.source_model.specs.declared.objects.Core.{Core}
use Rattle.source_model.specs.declared.objects.Thing.{Thing}
use Rattle.source_model.specs.declared.objects.Thing.TheVariants.{Plain, Vector, Text}
use Rattle.source_model.specs.declared.primitives.Primitive.{Primitive}
use Rattle.source_model.specs.declared.primitives.Primitive.TheVariants as prim
use Rattle.source_model.specs.Names.{text_named}
use Rattle.source_model.specs.Primitives.{Effect, Gives, Fails as Failure, apply, is_small, checked, of_integers, int_eq, divided, same, cloned, new_vector, size, element, element_at, at, put_at, put, string_print, int_print, thing_of, first}
use Rattle.source_model.specs.State.{State, silent}
use Rattle.source_model.specs.Step.{run}
use Rattle.heap_cells.specs.Heaps.{IsHeap}
use Rattle.heap_cells.specs.Laying.{Cells}
use Rattle.heap_cells.specs.Source.{Made}
use Rattle.heap_cells.specs.Standing.{Places, IsValue}
use Rattle.prim_table.specs.Answers.{IsAnswer, cost}
use Rattle.prim_table.specs.Operands.{Operand}
use Rattle.prim_table.specs.declared.answers.CoreWords.{CoreWords}
use Rattle.prim_table.specs.declared.answers.PrimAnswer.{PrimAnswer}
use Rattle.prim_table.specs.declared.answers.PrimAnswer.TheVariants as answers
use Rattle.plain_runs.specs.Host.{Host}
use Rattle.plain_runs.specs.Course.{with_machine}
use Rattle.plain_prims.specs.Performing.{printed_by}
use Rattle.plain_prims.specs.Rows.{primitive_of}
use Rattle.plain_prims.specs.Services.{heap_of, performs}
use Rattle.plain_unwinds.specs.Services.{fails_unmarked}
use Rattle.plain_turns.specs.Asking.{count, cost_left, node_here, place_here}
use Rattle.plain_turns.specs.Events.{Performs, Exceeds}
use Rattle.plain_turns.specs.Handlers.{Applied}
use Rattle.plain_turns.specs.Primitives.{IsPrimitive, IsOf, KnowsWords, Costs, Says, MayApply, WasApplied}
use Rattle.plain_turns.specs.Resting.{IsAtTrap}
use Rattle.plain_core.specs.Handing.{FailsBy}
use Rattle.plain_core.specs.Language.{Language, IsSpoken}
use Rattle.plain_core.specs.Turning.{StandsAt, Served, Breaks, Quiet, IsKnown, is_printing, Writes, on, ended}
use Rattle.plain_core.specs.declared.turning.Turn.TheVariants as turns
use Rattle.plain_turns.proofs.Primitives.{primitives_ask, primitives_may_apply, fulls_end, failures_keep, answers_turn}
use Rattle.plain_core.proofs.Fronts.{going_front, breaks_within, breaks_behind}
use Rattle.plain_core.proofs.Serving.{quietly}

-- Effects that print nothing.

by_if : (b : Bool) (x y : Effect) → printed_by x ≡ [] → printed_by y ≡ [] → printed_by (if b then x else y) ≡ []
by_if true x y e f = e
by_if false x y e f = f

checked_quiet : (i : ℤ) → printed_by (checked i) ≡ []
checked_quiet i = by_if (is_small i) (Gives (values.Int i)) (Failure errors.Overflow) refl refl

divided_quiet : (f : ℤ → ℤ → ℤ) (x y : ℤ) → printed_by (divided f x y) ≡ []
divided_quiet f x y = by_if (int_eq y (pos 0)) (Failure errors.DivisionByZero) (checked (f x y)) refl (checked_quiet (f x y))

integers_quiet : (f : ℤ → ℤ → Effect) → ((x y : ℤ) → printed_by (f x y) ≡ []) → (v : Value) (vs : List Value) → printed_by (of_integers f v vs) ≡ []
integers_quiet f q (values.Int x) [] = refl
integers_quiet f q (values.Int x) (values.Int y ∷ []) = q x y
integers_quiet f q (values.Int x) (values.Int y ∷ z ∷ zs) = refl
integers_quiet f q (values.Int x) (values.Object o ∷ zs) = refl
integers_quiet f q (values.Int x) (values.Block b k ∷ zs) = refl
integers_quiet f q (values.Object o) vs = refl
integers_quiet f q (values.Block b k) vs = refl

same_quiet : (core : Core) (v : Value) (vs : List Value) → printed_by (same core v vs) ≡ []
same_quiet core (values.Int x) [] = refl
same_quiet core (values.Int x) (values.Int y ∷ []) = refl
same_quiet core (values.Int x) (values.Int y ∷ z ∷ zs) = refl
same_quiet core (values.Int x) (values.Object b ∷ []) = refl
same_quiet core (values.Int x) (values.Object b ∷ z ∷ zs) = refl
same_quiet core (values.Int x) (values.Block b k ∷ zs) = refl
same_quiet core (values.Object a) [] = refl
same_quiet core (values.Object a) (values.Int y ∷ []) = refl
same_quiet core (values.Object a) (values.Int y ∷ z ∷ zs) = refl
same_quiet core (values.Object a) (values.Object b ∷ []) = refl
same_quiet core (values.Object a) (values.Object b ∷ z ∷ zs) = refl
same_quiet core (values.Object a) (values.Block b k ∷ zs) = refl
same_quiet core (values.Block b k) vs = refl

cloned_quiet : (v : Value) (t : Option Thing) → printed_by (cloned v t) ≡ []
cloned_quiet (values.Block b k) t = refl
cloned_quiet (values.Int i) (Some (Plain slots)) = refl
cloned_quiet (values.Int i) (Some (Vector items)) = refl
cloned_quiet (values.Int i) (Some (Text bytes)) = refl
cloned_quiet (values.Int i) None = refl
cloned_quiet (values.Object o) (Some (Plain slots)) = refl
cloned_quiet (values.Object o) (Some (Vector items)) = refl
cloned_quiet (values.Object o) (Some (Text bytes)) = refl
cloned_quiet (values.Object o) None = refl

vector_quiet : (core : Core) (v : Value) → printed_by (new_vector core v) ≡ []
vector_quiet core (values.Int (pos n)) = by_if (nat_le n 65536) _ (Failure errors.BadSize) refl refl
vector_quiet core (values.Int (negsuc n)) = refl
vector_quiet core (values.Object o) = refl
vector_quiet core (values.Block b k) = refl

size_quiet : (t : Option Thing) → printed_by (size t) ≡ []
size_quiet (Some (Plain slots)) = refl
size_quiet (Some (Vector items)) = refl
size_quiet (Some (Text bytes)) = refl
size_quiet None = refl

element_quiet : (o : Option Value) → printed_by (element o) ≡ []
element_quiet (Some v) = refl
element_quiet None = refl

element_at_quiet : (items : List Value) (i : Value) → printed_by (element_at items i) ≡ []
element_at_quiet items (values.Int (pos n)) = element_quiet (slice_get items n)
element_at_quiet items (values.Int (negsuc n)) = refl
element_at_quiet items (values.Object o) = refl
element_at_quiet items (values.Block b k) = refl

at_quiet : (t : Option Thing) (i : Value) → printed_by (at t i) ≡ []
at_quiet (Some (Plain slots)) i = refl
at_quiet (Some (Vector items)) i = element_at_quiet items i
at_quiet (Some (Text bytes)) i = element_at_quiet _ i
at_quiet None i = refl

put_at_quiet : (o : ℕ) (items : List Value) (i v : Value) → printed_by (put_at o items i v) ≡ []
put_at_quiet o items (values.Int (pos n)) v = by_if (nat_lt n (length items)) _ (Failure errors.BadIndex) refl refl
put_at_quiet o items (values.Int (negsuc n)) v = refl
put_at_quiet o items (values.Object p) v = refl
put_at_quiet o items (values.Block b k) v = refl

put_quiet : (r : Value) (t : Option Thing) (vs : List Value) → printed_by (put r t vs) ≡ []
put_quiet (values.Int i) t vs = refl
put_quiet (values.Block b k) t vs = refl
put_quiet (values.Object o) None vs = refl
put_quiet (values.Object o) (Some (Plain slots)) vs = refl
put_quiet (values.Object o) (Some (Text bytes)) vs = refl
put_quiet (values.Object o) (Some (Vector items)) [] = refl
put_quiet (values.Object o) (Some (Vector items)) (i ∷ []) = refl
put_quiet (values.Object o) (Some (Vector items)) (i ∷ v ∷ []) = put_at_quiet o items i v
put_quiet (values.Object o) (Some (Vector items)) (i ∷ v ∷ w ∷ ws) = refl

quiet_primitive : (s : State) (p : Primitive) (v : Value) (vs : List Value) → is_printing p ≡ false → printed_by (apply s p v vs) ≡ []
quiet_primitive s prim.IntAdd v vs e = integers_quiet (λ x y. checked (x +ℤ y)) (λ x y. checked_quiet (x +ℤ y)) v vs
quiet_primitive s prim.IntSub v vs e = integers_quiet (λ x y. checked (x -ℤ y)) (λ x y. checked_quiet (x -ℤ y)) v vs
quiet_primitive s prim.IntMul v vs e = integers_quiet (λ x y. checked (x *ℤ y)) (λ x y. checked_quiet (x *ℤ y)) v vs
quiet_primitive s prim.IntDiv v vs e = integers_quiet (divided int_div) (λ x y. divided_quiet int_div x y) v vs
quiet_primitive s prim.IntMod v vs e = integers_quiet (divided int_rem) (λ x y. divided_quiet int_rem x y) v vs
quiet_primitive s prim.IntAnd v vs e = integers_quiet _ (λ x y. refl) v vs
quiet_primitive s prim.IntOr v vs e = integers_quiet _ (λ x y. refl) v vs
quiet_primitive s prim.IntXor v vs e = integers_quiet _ (λ x y. refl) v vs
quiet_primitive s prim.IntLT v vs e = integers_quiet _ (λ x y. refl) v vs
quiet_primitive s prim.IntLE v vs e = integers_quiet _ (λ x y. refl) v vs
quiet_primitive s prim.IntEQ v vs e = integers_quiet _ (λ x y. refl) v vs
quiet_primitive s prim.Eq v vs e = same_quiet s.core v vs
quiet_primitive s prim.Clone v vs e = cloned_quiet v (thing_of s v)
quiet_primitive s prim.VectorNew v vs e = vector_quiet s.core v
quiet_primitive s prim.Size v vs e = size_quiet (thing_of s v)
quiet_primitive s prim.At v vs e = at_quiet (thing_of s v) (first vs)
quiet_primitive s prim.AtPut v vs e = put_quiet v (thing_of s v) vs
quiet_primitive s prim.StringPrint v vs e = absurd (cc)
quiet_primitive s prim.IntPrint v vs e = absurd (cc)

-- One that prints and has answered left memory as it was.
module _ (maps : List Slots) (mem new : Words) (heap heap_new : Heap) (h : Cells) (p : Places) (things : List Thing) (made : List Made) (receiver word : ℕ) where
  string_same : (t : Option Thing) → IsAnswer maps mem new heap heap_new h p things made receiver (answers.Done word) (string_print t) → new ≡ mem
  string_same (Some (Text bytes)) a = a.1
  string_same (Some (Plain slots)) a = absurd a
  string_same (Some (Vector items)) a = absurd a
  string_same None a = absurd a

  integer_same : (v : Value) → IsAnswer maps mem new heap heap_new h p things made receiver (answers.Done word) (int_print v) → new ≡ mem
  integer_same (values.Int i) a = a.1
  integer_same (values.Object o) a = absurd a
  integer_same (values.Block b k) a = absurd a

  print_same : (s : State) (q : Primitive) (v : Value) (vs : List Value) → is_printing q ≡ true → IsAnswer maps mem new heap heap_new h p things made receiver (answers.Done word) (apply s q v vs) → new ≡ mem
  print_same s prim.StringPrint v vs e a = string_same (thing_of s v) a
  print_same s prim.IntPrint v vs e a = integer_same v a
  print_same s prim.IntAdd v vs e a = absurd (cc)
  print_same s prim.IntSub v vs e a = absurd (cc)
  print_same s prim.IntMul v vs e a = absurd (cc)
  print_same s prim.IntDiv v vs e a = absurd (cc)
  print_same s prim.IntMod v vs e a = absurd (cc)
  print_same s prim.IntAnd v vs e a = absurd (cc)
  print_same s prim.IntOr v vs e a = absurd (cc)
  print_same s prim.IntXor v vs e a = absurd (cc)
  print_same s prim.IntLT v vs e a = absurd (cc)
  print_same s prim.IntLE v vs e a = absurd (cc)
  print_same s prim.IntEQ v vs e a = absurd (cc)
  print_same s prim.Eq v vs e a = absurd (cc)
  print_same s prim.Clone v vs e a = absurd (cc)
  print_same s prim.VectorNew v vs e a = absurd (cc)
  print_same s prim.Size v vs e a = absurd (cc)
  print_same s prim.At v vs e a = absurd (cc)
  print_same s prim.AtPut v vs e a = absurd (cc)

-- Memory after a primitive was applied.
pub unchanged : (h g : Host) → g ≡ with_machine h (record h.machine { memory = g.machine.memory }) → g.machine.memory ≡ h.machine.memory → g ≡ h
unchanged h g e f = e ∙ ap (λ (m : Words). with_machine h (record h.machine { memory = m })) f

pub was_so : (h : Host) (p : Primitive) (args : ℕ) (core : CoreWords) (memory : Words) (heap : Heap) (one other : PrimAnswer) → one ≡ other → WasApplied h p args core memory heap one → WasApplied h p args core memory heap other
was_so h p args core memory heap one other e was = subst (λ (a : PrimAnswer). WasApplied h p args core memory heap a) e was

-- The cost of a receiver's word.
pub costs_of : (h : Host) (p : Primitive) (words word : ℕ) → word ≡ h.machine.regs 8
    → ((heap : Heap) (cells : Cells) (places : Places) (made : List Made) (s : State) (v : Value) (vs : List Value) → IsHeap h.maps h.machine.memory heap cells places s.things made → IsValue cells places v word → words ≡ cost (apply s p v vs)) → Costs h p words
costs_of h p words word e k =
    let P : ℕ → Type 0 = λ w. (heap : Heap) (cells : Cells) (places : Places) (made : List Made) (s : State) (v : Value) (vs : List Value) → IsHeap h.maps h.machine.memory heap cells places s.things made → IsValue cells places v w → words ≡ cost (apply s p v vs) in
    subst P e k

module _ (l : Language) (h : Host) (target : ℕ) (at : StandsAt l h 3 target) where
  pub primitive_here : IsPrimitive h target
  primitive_here = primitives_ask h at.from target at.out at.at

  pub few_arguments : (node : Node) (name : Name) (args : ℕ) (implied handler : Bool) → node_here h ≡ Some node → node ≡ nodes.Prim name args implied handler → args ≤ 5
  few_arguments node name args implied handler here is =
      let q = primitive_here in
      let few = q.few in
      let both : Some (nodes.Prim q.name q.args q.implied q.handler) ≡ Some (nodes.Prim name args implied handler) = sym q.node_is ∙ here ∙ ap Some is in
      let same : q.args ≡ args = cc in
      omega (arith, few, same)

  module _ (p : Primitive) (name : Name) (args : ℕ) (implied handler : Bool) (k : IsKnown l h p name args implied handler) where
    pub of_this : (from : State) → IsSpoken l from → IsOf h from p args handler
    of_this from spoken = record { name = name; implied = implied; node_is = k.node_is; is = ap (λ (ns : List (List ℕ)). primitive_of (text_named ns name.0) args) spoken.names ∙ k.is }

    pub full_served : (words : ℕ) → Costs h p words → 4194304 < h.cost + h.machine.regs 3 + words → Quiet l 3 h (fails_unmarked 0 (cost_left h) errors.StoreFull (place_here h) h) target turns.Ended
    full_served words costs full = quietly l 3 h _ target turns.Ended (Exceeds at.at.stands 0 (cost_left h) p words costs full) refl
        (λ from out spoken x. ended (fulls_end h from target out x p args handler (of_this from spoken) words costs full 0 (omega arith)))

    module _ (core : CoreWords) (known : KnowsWords h l.core core) where
      pub known_to : (from : State) → IsSpoken l from → KnowsWords h from.core core
      known_to from spoken = subst (λ (c : Core). KnowsWords h c core) (sym spoken.core) known

      pub may : MayApply h p args core
      may = primitives_may_apply h at.from target at.out at.at p args handler (of_this at.from at.spoken) core (known_to at.from at.spoken)

      pub operand_at : (word : ℕ) → word ≡ h.machine.regs 8 → (heap : Heap) × Operand h.maps h.machine.memory heap word
      operand_at word e = subst (λ (w : ℕ). (heap : Heap) × Operand h.maps h.machine.memory heap w) (sym e) (heap_of h, may.operand)

      -- it was applied, and has failed
      pub fails_applied : (memory : Words) (heap : Heap) (e : ErrorName) → WasApplied h p args core memory heap (answers.Fails e) → FailsBy l h name args e
      fails_applied memory heap e was = λ from spoken. Applied p core memory heap e (ap (λ (ns : List (List ℕ)). primitive_of (text_named ns name.0) args) spoken.names ∙ k.is) (known_to from spoken) was

      -- it was applied, and left this host
      module _ (g : Host) (heap : Heap) (is : g ≡ with_machine h (record h.machine { memory = g.machine.memory })) where
        pub failed_same : (e : ErrorName) → WasApplied h p args core g.machine.memory heap (answers.Fails e) → g ≡ h
        failed_same e was = unchanged h g is (failures_keep h at.from target at.out at.at p args handler (of_this at.from at.spoken) core (known_to at.from at.spoken) g.machine.memory heap e was)

        module _ (word words : ℕ) (was : WasApplied h p args core g.machine.memory heap (answers.Done word)) (costs : Costs h p words) (fits : h.cost + h.machine.regs 3 + words ≤ 4194304) where
          pub printing_same : is_printing p ≡ true → g ≡ h
          printing_same e =
              let c = may.apply words costs fits in
              let a = was.answers c.cells c.places c.made c.state c.value c.values c.is c.known c.stands c.stand in
              unchanged h g is (print_same h.maps h.machine.memory g.machine.memory (heap_of h) heap c.cells c.places c.state.things c.made (h.machine.regs 8) word c.state p c.value c.values e a)

          pub operand_after : is_printing p ≡ true → Operand g.maps g.machine.memory (heap_of g) (g.machine.regs 8)
          operand_after e = let P : Host → Type 0 = λ y. Operand y.maps y.machine.memory (heap_of y) (y.machine.regs 8) in subst P (sym (printing_same e)) may.operand

          says_by : (b : Bool) (line : List ℕ) → is_printing p ≡ b → Writes b g p line → Says h p line
          says_by true line e w = let P : Host → Type 0 = λ y. Says y p line in subst P (printing_same e) w
          says_by false line e w = λ _ _ _ _ s v vs _ _. quiet_primitive s p v vs e ∙ sym w

          pub says : (line : List ℕ) → Writes (is_printing p) g p line → Says h p line
          says line w = says_by (is_printing p) line refl w

          abbrev performed : Host
          performed = performs (target - count h - 1) (cost_left h - words) g.machine.memory heap words word h

          pub performed_is : (to : Host) (left cost : ℕ) → to ≡ performs left cost g.machine.memory heap words word g → left ≡ target - count h - 1 → cost ≡ cost_left h - words → to ≡ performed
          performed_is to left cost e f q =
              e ∙ ap (λ (y : Host). performs left cost g.machine.memory heap words word y) is ∙ ap (λ (k : ℕ). performs k cost g.machine.memory heap words word h) f ∙ ap (λ (k : ℕ). performs (target - count h - 1) k g.machine.memory heap words word h) q

          pub objects_after : (line : List ℕ) → Says h p line → heap.next ≤ h.next + 1
          objects_after line said = (answers_turn h at.from target at.out at.at p args handler (of_this at.from at.spoken) core (known_to at.from at.spoken) words costs fits g.machine.memory heap word was line said).objects

          pub answer_served : (to : Host) (old new : Option (List ℕ)) (line : List ℕ) → to ≡ performed → Says h p line → Takes old new line → Served l 3 h to target old new turns.On
          answer_served to old new line is_to said takes =
              let P : Host → Type 0 = λ y. Served l 3 h y target old new turns.On in
              subst P (sym is_to) (record {
                serves = Performs at.at.stands (target - count h - 1) (cost_left h - words) name args implied handler p core g.machine.memory heap words word k.node_is costs was;
                said = line;
                takes = takes;
                turned = λ from out spoken x. on refl (answers_turn h from target out x p args handler (of_this from spoken) core (known_to from spoken) words costs fits g.machine.memory heap word was line said).on;
              })

          further : (line : List ℕ) → Says h p line → (from : State) (out : List ℕ) → IsSpoken l from → IsAtTrap h 3 from target out → (rest : List ℕ) × ((run (target - from.steps) (silent from)).out ≡ (out ++ line) ++ rest)
          further line said from out spoken x =
              going_front performed from target (out ++ line) (answers_turn h from target out x p args handler (of_this from spoken) core (known_to from spoken) words costs fits g.machine.memory heap word was line said).on.going

          -- the line was written, or a front of it, and no more
          pub answer_breaks : (old new : Option (List ℕ)) (line : List ℕ) → Says h p line → Takes old new line → Breaks l 3 h target old new
          answer_breaks old new line said takes = breaks_behind l 3 h target old new line takes (further line said)

          pub answer_breaks_within : (old new : Option (List ℕ)) (line : List ℕ) → Says h p line → TakesFront old new line → Breaks l 3 h target old new
          answer_breaks_within old new line said takes = breaks_within l 3 h target old new line takes (further line said)
