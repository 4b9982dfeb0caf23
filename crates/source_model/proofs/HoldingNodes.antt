-- A step makes no value but integers, objects that are there, and the block of a block literal: primitives and nodes.
use Rattle.std.proofs.Common.{◌≡◌, ℕ, zero, suc, ◌+◌, ◌<◌, ◌≤◌, refl, arith, Bool, true, false, List, [], ◌∷◌, length, map, take, drop}
use Rattle.std.specs.Prelude.{◌==◌, nat_lt, nat_le, slice_get, slice_set, replicate, ℤ, pos, negsuc, ◌+ℤ◌, ◌-ℤ◌, ◌*ℤ◌, int_lt, int_le, int_div, int_rem, bit_and, bit_or, bit_xor, Option, Some, None, option_and_then, cond, Ok, Err, codes}
use Rattle.std.proofs.lemmas.List.{length-append}
use Rattle.self_terms.specs.declared.nodes.Node.{Node}
use Rattle.self_terms.specs.declared.nodes.Node.TheVariants as nodes
use Rattle.self_terms.specs.declared.values.Value.{Value}
use Rattle.self_terms.specs.declared.values.Value.TheVariants as values
use Rattle.self_terms.specs.declared.values.BodyId.{BodyId}
use Rattle.self_terms.specs.declared.errors.ErrorName.{ErrorName}
use Rattle.self_terms.specs.declared.errors.ErrorName.TheVariants as errors
use Rattle.self_terms.specs.Depths.{one_if}
use Rattle.source_model.specs.Names.{number_of, text_named}
use Rattle.source_model.specs.Objects.{Thing, Plain, Vector, Text}
use Rattle.source_model.specs.State.{Core, Activation, Activity, Running, Answered, Failed, State}
use Rattle.source_model.specs.Messages.{body_of, meets, meets_above, meets_through}
use Rattle.source_model.specs.Sends.{Outcome, then_do, Here, goes_on, beyond_home, Message, with_number}
use Rattle.source_model.specs.declared.primitives.Primitive.{Primitive}
use Rattle.source_model.specs.declared.primitives.Primitive.TheVariants.{IntAdd, IntSub, IntMul, IntDiv, IntMod, IntAnd, IntOr, IntXor, IntLT, IntLE, IntEQ, Eq, Clone, VectorNew, Size, At, AtPut, StringPrint, IntPrint}
use Rattle.source_model.specs.Primitives.{Row, Effect, Gives, Makes, Puts, Prints, Fails, is_small, checked, of_integers, int_eq, divided, bits, truth, same, cloned, new_vector, number, size, element, element_at, at, put_at, put, string_print, int_print, thing_of, first, apply, apply_row, table, row_of, error_string, row_string}
use Rattle.source_model.specs.Step.{value_at, taken, stated, implied, maker_in, outwards, owner, local_in, set_in, with_local, over_handler, called, handler_of, fixed_string, fails, with_thing, performs, primitive, done, node_at, place_of, settled, advanced, step}
use Rattle.source_model.specs.Canon.{Each}
use Rattle.source_model.specs.Formed.{ThingHolds, ActivationHolds, ActivityHolds, StateHolds}
use Rattle.source_model.proofs.Naming.{IsRow, is_row}
use Rattle.source_model.proofs.Keeping.{append_each, set_each, get_each, drop_each, take_each, reverse_each, InSome, find_each, slice_each, either}
use Rattle.source_model.proofs.Holding.{Kept, HereHolds, Ground, goes_kept, answers_kept, beyond_each, MessageHolds, meets_hold, above_hold, through_hold, sends_kept}

-- What a primitive makes is a vector, or equal to a thing that is there; and a vector comes into the place of a vector alone.
abbrev pub IsNew : List Thing → Thing → Type 0
IsNew things (Plain slots) = (o : ℕ) × (slice_get things o ≡ Some (Plain slots))
IsNew things (Vector items) = Unit {0}
IsNew things (Text bytes) = ⊥

abbrev pub IsPut : List Thing → ℕ → Thing → Type 0
IsPut things o (Plain slots) = ⊥
IsPut things o (Vector items) = (old : List Value) × (slice_get things o ≡ Some (Vector old))
IsPut things o (Text bytes) = ⊥

module _ (V : Value → Type 0) (ints : (i : ℤ) → V (values.Int i)) (n : ℕ) (there : (o : ℕ) → o < n → V (values.Object o)) where
  module _ (things : List Thing) where
    abbrev pub EffectHolds : Effect → Type 0
    EffectHolds (Gives v) = V v
    EffectHolds (Makes words x) = ThingHolds V x × IsNew things x
    EffectHolds (Puts o x) = ThingHolds V x × IsPut things o x
    EffectHolds (Prints line) = Unit {0}
    EffectHolds (Fails e) = Unit {0}

    integers_hold : (f : ℤ → ℤ → Effect) → ((x y : ℤ) → EffectHolds (f x y)) → (r : Value) (xs : List Value) → EffectHolds (of_integers f r xs)
    integers_hold f p (values.Int x) [] = tt
    integers_hold f p (values.Int x) (values.Int y ∷ []) = p x y
    integers_hold f p (values.Int x) (values.Int y ∷ z ∷ zs) = tt
    integers_hold f p (values.Int x) (values.Object o ∷ []) = tt
    integers_hold f p (values.Int x) (values.Object o ∷ z ∷ zs) = tt
    integers_hold f p (values.Int x) (values.Block b k ∷ []) = tt
    integers_hold f p (values.Int x) (values.Block b k ∷ z ∷ zs) = tt
    integers_hold f p (values.Object o) xs = tt
    integers_hold f p (values.Block b k) xs = tt

    checked_holds : (i : ℤ) → EffectHolds (checked i)
    checked_holds i = either EffectHolds (is_small i) (Gives (values.Int i)) (Fails errors.Overflow) (ints i) tt

    divided_holds : (f : ℤ → ℤ → ℤ) (x y : ℤ) → EffectHolds (divided f x y)
    divided_holds f x y = either EffectHolds (int_eq y (pos 0)) (Fails errors.DivisionByZero) (checked (f x y)) tt (checked_holds (f x y))

    truth_holds : (core : Core) → core.yes < n → core.no < n → (b : Bool) → EffectHolds (truth core b)
    truth_holds core ye na true = there core.yes ye
    truth_holds core ye na false = there core.no na

    same_holds : (core : Core) → core.yes < n → core.no < n → (r : Value) (xs : List Value) → EffectHolds (same core r xs)
    same_holds core ye na (values.Int x) [] = tt
    same_holds core ye na (values.Int x) (values.Int y ∷ []) = truth_holds core ye na (int_eq x y)
    same_holds core ye na (values.Int x) (values.Int y ∷ z ∷ zs) = tt
    same_holds core ye na (values.Int x) (values.Object b ∷ []) = truth_holds core ye na false
    same_holds core ye na (values.Int x) (values.Object b ∷ z ∷ zs) = tt
    same_holds core ye na (values.Int x) (values.Block b k ∷ []) = tt
    same_holds core ye na (values.Int x) (values.Block b k ∷ z ∷ zs) = tt
    same_holds core ye na (values.Object a) [] = tt
    same_holds core ye na (values.Object a) (values.Int y ∷ []) = truth_holds core ye na false
    same_holds core ye na (values.Object a) (values.Int y ∷ z ∷ zs) = tt
    same_holds core ye na (values.Object a) (values.Object b ∷ []) = truth_holds core ye na (a == b)
    same_holds core ye na (values.Object a) (values.Object b ∷ z ∷ zs) = tt
    same_holds core ye na (values.Object a) (values.Block b k ∷ []) = tt
    same_holds core ye na (values.Object a) (values.Block b k ∷ z ∷ zs) = tt
    same_holds core ye na (values.Block b k) xs = tt

    -- what there is at a number
    abbrev pub At' : ℕ → Option Thing → Type 0
    At' o x = slice_get things o ≡ x

    cloned_holds : (o : ℕ) (x : Option Thing) → At' o x → V (values.Object o) → InSome (ThingHolds V) x → EffectHolds (cloned (values.Object o) x)
    cloned_holds o None is e d = e
    cloned_holds o (Some (Plain slots)) is e d = (d, (o, is))
    cloned_holds o (Some (Vector items)) is e d = (d, tt)
    cloned_holds o (Some (Text bytes)) is e d = e

    nils_hold : (k o : ℕ) → o < n → Each V (replicate k (values.Object o))
    nils_hold zero o lt = tt
    nils_hold (suc k) o lt = (there o lt, nils_hold k o lt)

    vector_holds : (core : Core) → core.nil < n → (r : Value) → EffectHolds (new_vector core r)
    vector_holds core nil (values.Int (pos k)) =
        either EffectHolds (nat_le k 65536) (Makes (3 + k) (Vector (replicate k (values.Object core.nil)))) (Fails errors.BadSize) (nils_hold k core.nil nil, tt) tt
    vector_holds core nil (values.Int (negsuc k)) = tt
    vector_holds core nil (values.Object o) = tt
    vector_holds core nil (values.Block b k) = tt

    size_holds : (x : Option Thing) → EffectHolds (size x)
    size_holds None = tt
    size_holds (Some (Plain slots)) = tt
    size_holds (Some (Vector items)) = ints (pos (length items))
    size_holds (Some (Text bytes)) = ints (pos (length bytes))

    element_holds : (m : Option Value) → InSome V m → EffectHolds (element m)
    element_holds None e = tt
    element_holds (Some v) e = e

    element_at_holds : (items : List Value) (i : Value) → Each V items → EffectHolds (element_at items i)
    element_at_holds items (values.Int (pos k)) e = element_holds (slice_get items k) (slice_each V items k e)
    element_at_holds items (values.Int (negsuc k)) e = tt
    element_at_holds items (values.Object o) e = tt
    element_at_holds items (values.Block b k) e = tt

    bytes_hold : (bytes : List ℕ) → Each V (map number bytes)
    bytes_hold [] = tt
    bytes_hold (b ∷ bs) = (ints (pos b), bytes_hold bs)

    at_holds : (x : Option Thing) (i : Value) → InSome (ThingHolds V) x → EffectHolds (at x i)
    at_holds None i e = tt
    at_holds (Some (Plain slots)) i e = tt
    at_holds (Some (Vector items)) i e = element_at_holds items i e
    at_holds (Some (Text bytes)) i e = element_at_holds (map number bytes) i (bytes_hold bytes)

    put_at_holds : (o : ℕ) (items : List Value) (i w : Value) → At' o (Some (Vector items)) → Each V items → V w → EffectHolds (put_at o items i w)
    put_at_holds o items (values.Int (pos k)) w is e p =
        either EffectHolds (nat_lt k (length items)) (Puts o (Vector (slice_set items k w))) (Fails errors.BadIndex) (set_each V items k w e p, (items, is)) tt
    put_at_holds o items (values.Int (negsuc k)) w is e p = tt
    put_at_holds o items (values.Object a) w is e p = tt
    put_at_holds o items (values.Block b k) w is e p = tt

    put_holds : (o : ℕ) (x : Option Thing) (xs : List Value) → At' o x → InSome (ThingHolds V) x → Each V xs → EffectHolds (put (values.Object o) x xs)
    put_holds o None xs is e p = tt
    put_holds o (Some (Plain slots)) xs is e p = tt
    put_holds o (Some (Text bytes)) xs is e p = tt
    put_holds o (Some (Vector items)) [] is e p = tt
    put_holds o (Some (Vector items)) (i ∷ []) is e p = tt
    put_holds o (Some (Vector items)) (i ∷ w ∷ []) is e p = put_at_holds o items i w is e p.1.0
    put_holds o (Some (Vector items)) (i ∷ w ∷ z ∷ zs) is e p = tt

    print_holds : (x : Option Thing) → EffectHolds (string_print x)
    print_holds None = tt
    print_holds (Some (Plain slots)) = tt
    print_holds (Some (Vector items)) = tt
    print_holds (Some (Text bytes)) = tt

    int_print_holds : (r : Value) → EffectHolds (int_print r)
    int_print_holds (values.Int i) = tt
    int_print_holds (values.Object o) = tt
    int_print_holds (values.Block b k) = tt

  module _ (s : State) (e : StateHolds V s) (g : Ground V n there s) where
    abbrev pub Gives' : Effect → Type 0
    Gives' x = EffectHolds s.things x

    clones : (r : Value) → V r → Gives' (cloned r (thing_of s r))
    clones (values.Int i) d = d
    clones (values.Object o) d = cloned_holds s.things o (slice_get s.things o) refl d (slice_each (ThingHolds V) s.things o e.things)
    clones (values.Block b k) d = tt

    puts : (r : Value) (xs : List Value) → Each V xs → Gives' (put r (thing_of s r) xs)
    puts (values.Int i) xs d = tt
    puts (values.Object o) xs d = put_holds s.things o (slice_get s.things o) xs refl (slice_each (ThingHolds V) s.things o e.things) d
    puts (values.Block b k) xs d = tt

    thing_holds : (r : Value) → InSome (ThingHolds V) (thing_of s r)
    thing_holds (values.Int i) = tt
    thing_holds (values.Object o) = slice_each (ThingHolds V) s.things o e.things
    thing_holds (values.Block b k) = tt

    apply_holds : (p : Primitive) (r : Value) (xs : List Value) → V r → Each V xs → Gives' (apply s p r xs)
    apply_holds IntAdd r xs d v = integers_hold s.things (λ x y. checked (x +ℤ y)) (λ x y. checked_holds s.things (x +ℤ y)) r xs
    apply_holds IntSub r xs d v = integers_hold s.things (λ x y. checked (x -ℤ y)) (λ x y. checked_holds s.things (x -ℤ y)) r xs
    apply_holds IntMul r xs d v = integers_hold s.things (λ x y. checked (x *ℤ y)) (λ x y. checked_holds s.things (x *ℤ y)) r xs
    apply_holds IntDiv r xs d v = integers_hold s.things (divided int_div) (divided_holds s.things int_div) r xs
    apply_holds IntMod r xs d v = integers_hold s.things (divided int_rem) (divided_holds s.things int_rem) r xs
    apply_holds IntAnd r xs d v = integers_hold s.things (bits bit_and) (λ x y. ints _) r xs
    apply_holds IntOr r xs d v = integers_hold s.things (bits bit_or) (λ x y. ints _) r xs
    apply_holds IntXor r xs d v = integers_hold s.things (bits bit_xor) (λ x y. ints _) r xs
    apply_holds IntLT r xs d v = integers_hold s.things (λ x y. truth s.core (int_lt x y)) (λ x y. truth_holds s.things s.core g.yes g.no (int_lt x y)) r xs
    apply_holds IntLE r xs d v = integers_hold s.things (λ x y. truth s.core (int_le x y)) (λ x y. truth_holds s.things s.core g.yes g.no (int_le x y)) r xs
    apply_holds IntEQ r xs d v = integers_hold s.things (λ x y. truth s.core (int_eq x y)) (λ x y. truth_holds s.things s.core g.yes g.no (int_eq x y)) r xs
    apply_holds Eq r xs d v = same_holds s.things s.core g.yes g.no r xs
    apply_holds Clone r xs d v = clones r d
    apply_holds VectorNew r xs d v = vector_holds s.things s.core g.nil r
    apply_holds Size r xs d v = size_holds s.things (thing_of s r)
    apply_holds At r xs d v = at_holds s.things (thing_of s r) (first xs) (thing_holds r)
    apply_holds AtPut r xs d v = puts r xs v
    apply_holds StringPrint r xs d v = print_holds s.things (thing_of s r)
    apply_holds IntPrint r xs d v = int_print_holds s.things r

    pub apply_row_holds : (row : Option Row) (r : Value) (xs : List Value) → V r → Each V xs → Gives' (apply_row s row r xs)
    apply_row_holds None r xs d v = tt
    apply_row_holds (Some row) r xs d v = apply_holds row.primitive r xs d v

  -- Nodes.

  at_value : (vs : List Value) (k : ℕ) → 0 < n → Each V vs → V (value_at vs k)
  at_value vs k lt e = get_each V vs k (values.Object 0) e (there 0 lt)

  taken_holds : (k : ℕ) (vs : List Value) → Each V vs → Each V (taken k vs)
  taken_holds k vs e = reverse_each V (take k vs) (take_each V k vs e)

  stated_holds : (k : ℕ) (h : Here) → HereHolds V n there h → MessageHolds V n there (stated k h)
  stated_holds k h is = record {
    receiver = at_value h.young.pending k (omega (arith, is.ground.nil)) is.young.pending;
    arguments = taken_holds k h.young.pending is.young.pending;
    rest = drop_each V (k + 1) h.young.pending is.young.pending;
  }

  implied_holds : (k : ℕ) (h : Here) → HereHolds V n there h → MessageHolds V n there (implied k h)
  implied_holds k h is = record {
    receiver = is.young.receiver;
    arguments = taken_holds k h.young.pending is.young.pending;
    rest = drop_each V k h.young.pending is.young.pending;
  }

  maker_of_holds : (all : List Activation) (m : Option ℕ) → Each (ActivationHolds V) all → InSome (ActivationHolds V) (option_and_then (λ k. with_number k all) m)
  maker_of_holds all None e = tt
  maker_of_holds all (Some k) e = find_each (ActivationHolds V) (λ (a : Activation). a.number == k) all e

  one_out : (all : List Activation) (a : Option Activation) → Each (ActivationHolds V) all → InSome (ActivationHolds V) (option_and_then (maker_in all) a)
  one_out all None e = tt
  one_out all (Some a) e = maker_of_holds all a.maker e

  outwards_hold : (all : List Activation) (up : ℕ) (a : Option Activation) → Each (ActivationHolds V) all → InSome (ActivationHolds V) a → InSome (ActivationHolds V) (outwards all up a)
  outwards_hold all zero a e d = d
  outwards_hold all (suc up) a e d = outwards_hold all up (option_and_then (maker_in all) a) e (one_out all a e)

  local_holds : (a : Option Activation) (slot : ℕ) → 0 < n → InSome (ActivationHolds V) a → V (local_in a slot)
  local_holds None slot lt e = there 0 lt
  local_holds (Some a) slot lt e = at_value a.locals slot lt e.locals

  set_holds : (home : Activation) (slot : ℕ) (w : Value) (a : Activation) → V w → ActivationHolds V a → ActivationHolds V (set_in home slot w a)
  set_holds home slot w a p e = either (ActivationHolds V) (a.number == home.number) (record a { locals = slice_set a.locals slot w }) a
      (record { receiver = e.receiver; holder = e.holder; locals = set_each V a.locals slot w e.locals p; pending = e.pending }) e

  set_all_hold : (home : Activation) (slot : ℕ) (w : Value) (all : List Activation) → V w → Each (ActivationHolds V) all → Each (ActivationHolds V) (map (set_in home slot w) all)
  set_all_hold home slot w [] p e = tt
  set_all_hold home slot w (a ∷ all) p e = (set_holds home slot w a p e.0, set_all_hold home slot w all p e.1)

  -- what a node says by itself
  abbrev pub NodeHolds : Here → Node → Type 0
  NodeHolds h (nodes.Str o) = o < n
  NodeHolds h (nodes.BlockLit b) = V (values.Block b h.young.number)
  NodeHolds h _ = Unit {0}

  error_small : (e : ErrorName) → error_string e < 26
  error_small errors.BadType = omega arith
  error_small errors.Overflow = omega arith
  error_small errors.DivisionByZero = omega arith
  error_small errors.BadIndex = omega arith
  error_small errors.BadSize = omega arith
  error_small errors.PrimitiveNotDefined = omega arith
  error_small errors.NotUnderstood = omega arith
  error_small errors.Ambiguous = omega arith
  error_small errors.NonLifoBlock = omega arith
  error_small errors.StackOverflow = omega arith
  error_small errors.StoreFull = omega arith

  row_small : (r : Option ℕ) → IsRow r → row_string r < 26
  row_small None e = omega arith
  row_small (Some k) e = omega (arith, e)

  module _ (h : Here) (is : HereHolds V n there h) where
    abbrev Kept' : Outcome → Type 0
    Kept' o = Kept V n there o

    some : 0 < n
    some = omega (arith, is.ground.nil)

    fixed_holds : (k : ℕ) → k < 26 → V (fixed_string h.state k)
    fixed_holds k lt = there (h.state.fixed + k) (omega (arith, lt, is.ground.fixed))

    sets_kept : (home : Option Activation) (slot : ℕ) (w : Value) (vs : List Value) → V w → Each V vs → Kept' (goes_on h.state (with_local home slot w h) vs)
    sets_kept None slot w vs p e = goes_kept V n there h.state h vs (λ _. is.state) is.young is.older (λ _. e)
    sets_kept (Some home) slot w vs p e = goes_kept V n there h.state (with_local (Some home) slot w h) vs (λ _. is.state) (set_holds home slot w h.young p is.young) (set_all_hold home slot w h.older p is.older) (λ _. e)

    pushes : (v : Value) → V v → Kept' (goes_on h.state h (v ∷ h.young.pending))
    pushes v e = goes_kept V n there h.state h (v ∷ h.young.pending) (λ _. is.state) is.young is.older (λ _. (e, is.young.pending))

    fails_kept : (m : Message) (r : Option ℕ) (e : ErrorName) (handler : Option Value) → IsRow r → MessageHolds V n there m → InSome V handler → Kept' (fails h m r e handler)
    fails_kept m r e None q d p = tt
    fails_kept m r e (Some w) q d p =
        let name = number_of h.state.names (codes "value:With:") in
        sends_kept V n there h is (record { receiver = w; arguments = fixed_string h.state (error_string e) ∷ fixed_string h.state (row_string r) ∷ []; rest = m.rest }) name (meets h.state w name)
        (record { receiver = p; arguments = (fixed_holds (error_string e) (error_small e), (fixed_holds (row_string r) (row_small r q), tt)); rest = d.rest }) (meets_hold V n there h.state w name is.state is.ground)

    makes_kept : (words : ℕ) (x : Thing) (m : Message) (b : Bool) → ThingHolds V x → MessageHolds V n there m
        → Kept' (then_do (cond b (Ok (record h.state { cost = h.state.cost + words })) (Err errors.StoreFull)) (λ (s : State). goes_on (with_thing x s) h (values.Object (length s.things) ∷ m.rest)))
    makes_kept words x m false e d = tt
    makes_kept words x m true e d = goes_kept V n there (with_thing x (record h.state { cost = h.state.cost + words })) h (values.Object (length h.state.things) ∷ m.rest)
        (λ _. record { things = append_each (ThingHolds V) h.state.things (x ∷ []) is.state.things (e, tt); activities = is.state.activities }) is.young is.older
        (λ few. (there (length h.state.things) (omega (arith, few, length-append h.state.things (x ∷ []))), d.rest))

    performs_kept : (m : Message) (r : Option ℕ) (handler : Option Value) (e : Effect) → IsRow r → MessageHolds V n there m → InSome V handler → EffectHolds h.state.things e → Kept' (performs h m r handler e)
    performs_kept m r handler (Gives v) q d p e = goes_kept V n there h.state h (v ∷ m.rest) (λ _. is.state) is.young is.older (λ _. (e, d.rest))
    performs_kept m r handler (Makes words x) q d p e = makes_kept words x m (nat_le (h.state.cost + words) 4194304) e.0 d
    performs_kept m r handler (Puts o x) q d p e = goes_kept V n there (record h.state { things = slice_set h.state.things o x }) h (m.receiver ∷ m.rest)
        (λ _. record { things = set_each (ThingHolds V) h.state.things o x is.state.things e.0; activities = is.state.activities }) is.young is.older (λ _. (d.receiver, d.rest))
    performs_kept m r handler (Prints line) q d p e = goes_kept V n there h.state h (m.receiver ∷ m.rest) (λ _. is.state) is.young is.older (λ _. (d.receiver, d.rest))
    performs_kept m r handler (Fails x) q d p e = fails_kept m r x handler q d p

    primitive_kept : (r : Option ℕ) (m : Message) (handler : Option Value) → IsRow r → MessageHolds V n there m → InSome V handler → Kept' (primitive h r m handler)
    primitive_kept r m handler q d p = performs_kept m r handler (apply_row h.state (option_and_then (slice_get table) r) m.receiver m.arguments) q d p
        (apply_row_holds h.state is.state is.ground (option_and_then (slice_get table) r) m.receiver m.arguments d.receiver d.arguments)

    over_holds : (b : Bool) → HereHolds V n there (over_handler b h)
    over_holds b = record {
      state = is.state;
      young = record { receiver = is.young.receiver; holder = is.young.holder; locals = is.young.locals; pending = drop_each V (one_if b) h.young.pending is.young.pending };
      older = is.older;
      ground = is.ground;
    }

    called_holds : (args : ℕ) (b : Bool) (k : Here) → HereHolds V n there k → MessageHolds V n there (called args b k)
    called_holds args true k e = implied_holds args k e
    called_holds args false k e = stated_holds args k e

    handler_holds : (b : Bool) → InSome V (handler_of b h)
    handler_holds true = at_value h.young.pending 0 some is.young.pending
    handler_holds false = tt

    literal_kept : (b : BodyId) (t : Bool) → V (values.Block b h.young.number)
        → Kept' (then_do (cond t (Ok (record h.state { cost = h.state.cost + 4 })) (Err errors.StoreFull)) (λ (s : State). goes_on s h (values.Block b h.young.number ∷ h.young.pending)))
    literal_kept b false e = tt
    literal_kept b true e = goes_kept V n there (record h.state { cost = h.state.cost + 4 }) h (values.Block b h.young.number ∷ h.young.pending) (λ _. record { things = is.state.things; activities = is.state.activities }) is.young is.older (λ _. (e, is.young.pending))

    pub done_kept : (node : Node) → NodeHolds h node → Kept' (done h node)
    unfolding done
    done_kept (nodes.Int i) e = pushes (values.Int i) (ints i)
    done_kept (nodes.Str o) e = pushes (values.Object o) (there o e)
    done_kept (nodes.BlockLit b) e = literal_kept b (nat_le (h.state.cost + 4) 4194304) e
    done_kept nodes.SelfRef e = pushes h.young.receiver is.young.receiver
    done_kept nodes.Nil e = pushes (values.Object h.state.core.nil) (there h.state.core.nil is.ground.nil)
    done_kept (nodes.Read up slot) e = pushes (local_in (owner h up) slot) (local_holds (owner h up) slot some (outwards_hold (h.young ∷ h.older) up (Some h.young) (is.young, is.older) is.young))
    done_kept (nodes.Store up slot) e = sets_kept (owner h up) slot (value_at h.young.pending 0) (h.young.receiver ∷ drop 1 h.young.pending) (at_value h.young.pending 0 some is.young.pending) (is.young.receiver, drop_each V 1 h.young.pending is.young.pending)
    done_kept (nodes.Send sel) e = sends_kept V n there h is (stated sel.args h) sel.name.0 (meets h.state (stated sel.args h).receiver sel.name.0) (stated_holds sel.args h is) (meets_hold V n there h.state (stated sel.args h).receiver sel.name.0 is.state is.ground)
    done_kept (nodes.SelfSend sel) e = sends_kept V n there h is (implied sel.args h) sel.name.0 (meets h.state h.young.receiver sel.name.0) (implied_holds sel.args h is) (meets_hold V n there h.state h.young.receiver sel.name.0 is.state is.ground)
    done_kept (nodes.Resend sel) e = sends_kept V n there h is (implied sel.args h) sel.name.0 (meets_above h.state h.young.holder sel.name.0) (implied_holds sel.args h is) (above_hold V n there h.state h.young.holder sel.name.0 is.state is.ground)
    done_kept (nodes.Directed parent sel) e = sends_kept V n there h is (implied sel.args h) sel.name.0 (meets_through h.state h.young.holder parent.0 sel.name.0) (implied_holds sel.args h is) (through_hold V n there h.state h.young.holder parent.0 sel.name.0 is.state is.ground)
    done_kept (nodes.Prim name args is_implied handler) e = primitive_kept (row_of (text_named h.state.names name.0) args) (called args is_implied (over_handler handler h)) (handler_of handler h)
        (is_row (text_named h.state.names name.0) args) (called_holds args is_implied (over_handler handler h) (over_holds handler)) (handler_holds handler)
    done_kept nodes.Drop e = goes_kept V n there h.state h (drop 1 h.young.pending) (λ _. is.state) is.young is.older (λ _. drop_each V 1 h.young.pending is.young.pending)
    done_kept nodes.Restart e = λ few. record {
      things = is.state.things;
      activities = set_each (ActivityHolds V) h.state.activities h.state.current (Running (record h.young { pending = []; next = 0 } ∷ h.older)) is.state.activities
          (record { receiver = is.young.receiver; holder = is.young.holder; locals = is.young.locals; pending = tt }, is.older);
    }
    done_kept nodes.Return e = answers_kept V n there h h.older (value_at h.young.pending 0) is.state is.older (at_value h.young.pending 0 some is.young.pending)
    done_kept nodes.NonLocal e = answers_kept V n there h (beyond_home h.young.maker h.older) (value_at h.young.pending 0) is.state (beyond_each V n there h.young.maker h.older is.older) (at_value h.young.pending 0 some is.young.pending)
    done_kept nodes.End e = answers_kept V n there h h.older (value_at h.young.pending 0) is.state is.older (at_value h.young.pending 0 some is.young.pending)

  -- A step.

  settled_kept : (h : Here) → HereHolds V n there h → (o : Outcome) → Kept V n there o → length (settled h o).state.things ≤ n → StateHolds V (settled h o).state
  settled_kept h is (Ok r) e few = record { things = (e few).things; activities = (e few).activities }
  settled_kept h is (Err x) e few =
      record { things = is.state.things; activities = set_each (ActivityHolds V) h.state.activities h.state.current (Failed x (place_of h.state h.young)) is.state.activities tt }

  -- what the next node says by itself is there
  abbrev pub NextHolds : State → Option Activity → Type 0
  NextHolds s (Some (Running (a ∷ older))) = NodeHolds (record { state = s; young = a; older = older }) (node_at (body_of s a.body) a.next)
  NextHolds s _ = Unit {0}

  advanced_kept : (s : State) → StateHolds V s → Ground V n there s → (x : Option Activity) → NextHolds s x → InSome (ActivityHolds V) x
      → length (advanced s x).state.things ≤ n → StateHolds V (advanced s x).state
  advanced_kept s e g None q d few = e
  advanced_kept s e g (Some (Running [])) q d few = e
  advanced_kept s e g (Some (Answered v)) q d few = e
  advanced_kept s e g (Some (Failed x p)) q d few = e
  advanced_kept s e g (Some (Running (a ∷ older))) q d few =
      let h : Here = record { state = s; young = a; older = older } in
      let is : HereHolds V n there h = record { state = e; young = d.0; older = d.1; ground = g } in
      settled_kept h is (done h (node_at (body_of s a.body) a.next)) (done_kept h is (node_at (body_of s a.body) a.next) q) few

  pub step_holds : (s : State) → StateHolds V s → Ground V n there s → NextHolds s (slice_get s.activities s.current)
      → length (step s).state.things ≤ n → StateHolds V (step s).state
  unfolding step
  step_holds s e g q few = advanced_kept s e g (slice_get s.activities s.current) q (slice_each (ActivityHolds V) s.activities s.current e.activities) few
