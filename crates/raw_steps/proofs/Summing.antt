-- Primitives: their words, and the sums and differences of integers.
use Rattle.std.proofs.Common.{◌≡◌, refl, ap, ◌∙◌, ℕ, ◌+◌, ◌-◌, ◌%◌, ◌≤◌, List, [], ◌∷◌, length, take, drop, arith}
use Rattle.std.specs.Prelude.{Bool, true, false, not, Some, ℤ, pos, negsuc, ◌+ℤ◌, ◌-ℤ◌}
use Rattle.std.proofs.lemmas.List.{length-drop}
use Rattle.std.proofs.lemmas.Grind.{common_steps}
use Rattle.self_terms.specs.declared.nodes.Node.{Node}
use Rattle.self_terms.specs.declared.nodes.Node.TheVariants as nodes
use Rattle.self_terms.specs.declared.names.Name.{Name}
use Rattle.self_terms.specs.declared.values.Value.{Value}
use Rattle.self_terms.specs.declared.values.Value.TheVariants as values
use Rattle.self_terms.specs.Depths.{one_if}
use Rattle.self_terms.specs.Words.{IsSmall, word_of}
use Rattle.source_model.specs.declared.primitives.Primitive.TheVariants.{IntAdd, IntSub}
use Rattle.source_model.specs.Names.{text_named}
use Rattle.source_model.specs.Primitives.{is_small, checked, apply, row_of}
use Rattle.source_model.specs.State.{Activation, State}
use Rattle.source_model.specs.Sends.{Here, Message, goes_on}
use Rattle.source_model.specs.Step.{done, step, handler_of, performs, primitive}
use Rattle.std.proofs.lemmas.Option.{slice_get_within}
use Rattle.heap_cells.specs.Standing.{IsValue, AreValues}
use Rattle.heap_cells.proofs.Numbered.{got_if}
use Rattle.frame_walk.specs.Places.{Frame}
use Rattle.frame_walk.specs.Raw.{Going, Raw, becomes, moved_on}
use Rattle.raw_steps.specs.Stands.{Sense, Stands, IsAt, Follows}
use Rattle.raw_steps.specs.Messages.{IsMessage, asked, asked_words}
use Rattle.raw_steps.proofs.Nexts.{here_of}
use Rattle.raw_steps.proofs.Moving.{young_is}
use Rattle.raw_steps.proofs.Simple.{goes}
use Rattle.raw_steps.proofs.Values.{value_got, values_take, values_drop, values_reverse}

-- an integer of 30 bits is small
small_is : (z : ℤ) → IsSmall z → is_small z ≡ true
small_is (pos n) h = grind (arith, common_steps)
small_is (negsuc n) h = grind (arith, common_steps)

-- what a sum comes to
checked_is : (h : Here) (m : Message) (k : ℕ) (handler : Bool) (z : ℤ) → IsSmall z → performs h m (Some k) (handler_of handler h) (checked z) ≡ goes_on h.state h (values.Int z ∷ m.rest)
checked_is h m k handler z small = rw (small_is z small) refl

sum_is : (h : Here) (m : Message) (handler : Bool) (i j : ℤ) → m.receiver ≡ values.Int i → m.arguments ≡ values.Int j ∷ [] → IsSmall (i +ℤ j) → primitive h (Some 0) m (handler_of handler h) ≡ goes_on h.state h (values.Int (i +ℤ j) ∷ m.rest)
sum_is h m handler i j e f small =
    ap (λ (v : Value). performs h m (Some 0) (handler_of handler h) (apply h.state IntAdd v m.arguments)) e
    ∙ ap (λ (vs : List Value). performs h m (Some 0) (handler_of handler h) (apply h.state IntAdd (values.Int i) vs)) f
    ∙ checked_is h m 0 handler (i +ℤ j) small

difference_is : (h : Here) (m : Message) (handler : Bool) (i j : ℤ) → m.receiver ≡ values.Int i → m.arguments ≡ values.Int j ∷ [] → IsSmall (i -ℤ j) → primitive h (Some 1) m (handler_of handler h) ≡ goes_on h.state h (values.Int (i -ℤ j) ∷ m.rest)
difference_is h m handler i j e f small =
    ap (λ (v : Value). performs h m (Some 1) (handler_of handler h) (apply h.state IntSub v m.arguments)) e
    ∙ ap (λ (vs : List Value). performs h m (Some 1) (handler_of handler h) (apply h.state IntSub (values.Int i) vs)) f
    ∙ checked_is h m 1 handler (i -ℤ j) small

-- A word without a tag is that of an integer.
module _ (r : Raw) (s : State) (z : Sense) (S : Stands z r s) where
  pub untagged_is : (v : Value) (w : ℕ) → IsValue z.cells z.places v w → w % 4 ≡ 0 → (i : ℤ) × (v ≡ values.Int i)
  untagged_is (values.Int i) w is none = (i, refl)
  untagged_is (values.Object n) w is none =
      let t = got_if s.things n (let lt = slice_get_within z.places.objects n w is in let c = S.heap.means.objects_all in omega arith) in
      let o = S.heap.means.object n w t.0 is t.1 in
      absurd (omega (arith, o.there.0, none))
  untagged_is (values.Block b k) w is none = absurd (omega (arith, is.tagged, none))

  pub one_untagged : (vs : List Value) (w : ℕ) → AreValues z.cells z.places vs (w ∷ []) → w % 4 ≡ 0 → (i : ℤ) × (vs ≡ values.Int i ∷ [])
  one_untagged [] w are none = absurd are
  one_untagged (v ∷ []) w are none = let q = untagged_is v w are.0 none in (q.0, ap (λ (y : Value). y ∷ []) q.1)
  one_untagged (v ∷ u ∷ vs) w are none = absurd are.1

module _ (r : Raw) (s : State) (z : Sense) (S : Stands z r s) (a : Activation) (older : List Activation) (f : Frame) (fs : List Frame) where
  over_is : (node : Node) (at : IsAt r s a older f fs node) (handler : Bool) → AreValues z.cells z.places (drop (one_if handler) a.pending) (drop (one_if handler) f.pending)
  over_is node at handler = values_drop z.cells z.places (one_if handler) a.pending f.pending (young_is r s z S a older f fs node at).pending

  rest_is : (args : ℕ) (is_implied handler : Bool) (node : Node) (at : IsAt r s a older f fs node) → AreValues z.cells z.places (asked args is_implied handler (here_of s a older)).rest (asked_words args is_implied handler f).rest
  rest_is args true handler node at = values_drop z.cells z.places args (drop (one_if handler) a.pending) (drop (one_if handler) f.pending) (over_is node at handler)
  rest_is args false handler node at = values_drop z.cells z.places (args + 1) (drop (one_if handler) a.pending) (drop (one_if handler) f.pending) (over_is node at handler)

  pub asked_is : (args : ℕ) (is_implied handler : Bool) (node : Node) (at : IsAt r s a older f fs node) → args + one_if (not is_implied) + one_if handler ≤ length a.pending
      → IsMessage z (asked args is_implied handler (here_of s a older)) (asked_words args is_implied handler f)
  asked_is args true handler node at enough = record {
    receiver = (young_is r s z S a older f fs node at).receiver;
    arguments = values_reverse z.cells z.places (take args (drop (one_if handler) a.pending)) (take args (drop (one_if handler) f.pending)) (values_take z.cells z.places args (drop (one_if handler) a.pending) (drop (one_if handler) f.pending) (over_is node at handler));
    rest = rest_is args true handler node at;
  }
  asked_is args false handler node at enough = record {
    receiver = value_got z.cells z.places (drop (one_if handler) a.pending) (drop (one_if handler) f.pending) args (values.Object 0) 0 (over_is node at handler) (omega (arith, enough, length-drop (one_if handler) a.pending));
    arguments = values_reverse z.cells z.places (take args (drop (one_if handler) a.pending)) (take args (drop (one_if handler) f.pending)) (values_take z.cells z.places args (drop (one_if handler) a.pending) (drop (one_if handler) f.pending) (over_is node at handler));
    rest = rest_is args false handler node at;
  }

  -- where the primitive gives an integer
  gives : (name : Name) (is_implied handler : Bool) (at : IsAt r s a older f fs (nodes.Prim name 1 is_implied handler)) (i : ℤ) → IsSmall i
      → done (here_of s a older) (nodes.Prim name 1 is_implied handler) ≡ goes_on s (here_of s a older) (values.Int i ∷ (asked 1 is_implied handler (here_of s a older)).rest)
      → Follows z (becomes r (Going (moved_on (word_of i ∷ (asked_words 1 is_implied handler f).rest) f ∷ fs))) (step s) []
  gives name is_implied handler at i small done_is =
      let node = nodes.Prim name 1 is_implied handler in
      goes r s z S a older f fs node at (a.next + 1) (f.next + 1) (values.Int i ∷ (asked 1 is_implied handler (here_of s a older)).rest) (word_of i ∷ (asked_words 1 is_implied handler f).rest) done_is
      (ap (λ n. n + 1) (young_is r s z S a older f fs node at).next) ((small, refl), rest_is 1 is_implied handler node at)

  pub sum_follows : (name : Name) (is_implied handler : Bool) (at : IsAt r s a older f fs (nodes.Prim name 1 is_implied handler)) → row_of (text_named s.names name.0) 1 ≡ Some 0 → (i j : ℤ)
      → (asked 1 is_implied handler (here_of s a older)).receiver ≡ values.Int i → (asked 1 is_implied handler (here_of s a older)).arguments ≡ values.Int j ∷ [] → IsSmall (i +ℤ j)
      → Follows z (becomes r (Going (moved_on (word_of (i +ℤ j) ∷ (asked_words 1 is_implied handler f).rest) f ∷ fs))) (step s) []
  unfolding done
  sum_follows name is_implied handler at row i j e g small =
      let h = here_of s a older in
      let m = asked 1 is_implied handler h in
      gives name is_implied handler at (i +ℤ j) small (ap (λ k. primitive h k m (handler_of handler h)) row ∙ sum_is h m handler i j e g small)

  pub difference_follows : (name : Name) (is_implied handler : Bool) (at : IsAt r s a older f fs (nodes.Prim name 1 is_implied handler)) → row_of (text_named s.names name.0) 1 ≡ Some 1 → (i j : ℤ)
      → (asked 1 is_implied handler (here_of s a older)).receiver ≡ values.Int i → (asked 1 is_implied handler (here_of s a older)).arguments ≡ values.Int j ∷ [] → IsSmall (i -ℤ j)
      → Follows z (becomes r (Going (moved_on (word_of (i -ℤ j) ∷ (asked_words 1 is_implied handler f).rest) f ∷ fs))) (step s) []
  unfolding done
  difference_follows name is_implied handler at row i j e g small =
      let h = here_of s a older in
      let m = asked 1 is_implied handler h in
      gives name is_implied handler at (i -ℤ j) small (ap (λ k. primitive h k m (handler_of handler h)) row ∙ difference_is h m handler i j e g small)
