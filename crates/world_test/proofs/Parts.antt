-- The tests of a node and of a world by their parts.
use Rattle.std.specs.Prelude.{◌≡◌, ℕ, ◌+◌, ◌&&◌, ◌||◌, nat_lt, nat_le, Bool, true, false, not, Some, List, [], ◌∷◌, length, slice_get, zero, suc, refl}
use Rattle.std.proofs.Common.{ap, ◌∙◌, get_or}
use Rattle.self_terms.specs.declared.nodes.Node.{Node}
use Rattle.self_terms.specs.declared.nodes.Node.TheVariants as nodes
use Rattle.self_terms.specs.declared.bodies.Body.{Body}
use Rattle.self_terms.specs.Depths.{taken, depth, is_inner}
use Rattle.source_model.specs.Step.{node_at}
use Rattle.source_model.specs.Soundness.{body_in}
use Rattle.source_model.specs.Testing.{each_passes, below_pass, names_test, node_test, fit_test, said_test, thing_test, core_test, can_begin}
use Rattle.world_build.specs.Worlds.{World}
use Rattle.world_state.specs.Begun.{begun}

first_fails : (a b : Bool) → a ≡ false → (a && b) ≡ false
first_fails a b e = ap (λ c. c && b) e

first_passes : (a b : Bool) → a ≡ true → (a && b) ≡ b
first_passes a b e = ap (λ c. c && b) e

got : (ns : List Node) (k : ℕ) (node : Node) → slice_get ns k ≡ Some node → get_or ns k nodes.End ≡ node
got [] k node e = absurd (cc)
got (n ∷ ns) zero node e = cc
got (n ∷ ns) (suc k) node e = got ns k node e

module _ (bodies : List Body) (n k : ℕ) (b : Body) (node : Node) (same : body_in bodies n ≡ b) (here : slice_get b.nodes k ≡ Some node) where
  abbrev rest : Node → Body → Bool
  rest x c = (not (is_inner x) || nat_lt (k + 1) (length c.nodes)) && names_test bodies n x

  abbrev test : Node → Body → Bool
  test x c = nat_le (taken x) (depth c.nodes k) && rest x c

  node_is : node_test bodies n k ≡ test node b
  node_is = ap (λ x. test x (body_in bodies n)) (ap (λ c. node_at c k) same ∙ got b.nodes k node here) ∙ ap (test node) same

  pub node_lacks : nat_le (taken node) (depth b.nodes k) ≡ false → node_test bodies n k ≡ false
  node_lacks e = node_is ∙ first_fails (nat_le (taken node) (depth b.nodes k)) (rest node b) e

  pub node_alone : nat_le (taken node) (depth b.nodes k) ≡ true → (not (is_inner node) || nat_lt (k + 1) (length b.nodes)) ≡ false → node_test bodies n k ≡ false
  node_alone e f =
      node_is
      ∙ first_passes (nat_le (taken node) (depth b.nodes k)) (rest node b) e
      ∙ first_fails (not (is_inner node) || nat_lt (k + 1) (length b.nodes)) (names_test bodies n node) f

  pub node_names : nat_le (taken node) (depth b.nodes k) ≡ true → (not (is_inner node) || nat_lt (k + 1) (length b.nodes)) ≡ true → node_test bodies n k ≡ names_test bodies n node
  node_names e f =
      node_is
      ∙ first_passes (nat_le (taken node) (depth b.nodes k)) (rest node b) e
      ∙ first_passes (not (is_inner node) || nat_lt (k + 1) (length b.nodes)) (names_test bodies n node) f

module _ (w : World) (names : List (List ℕ)) where
  abbrev core : Bool
  core = core_test (begun w names 0)

  abbrev fit : Bool
  fit = below_pass (length w.bodies) (λ k. fit_test w.bodies (k + 1))

  abbrev said : Bool
  said = each_passes (said_test names (length w.things)) w.bodies

  abbrev things : Bool
  things = each_passes (thing_test names w.bodies (length w.things)) w.things

  parts : can_begin (begun w names 0) ≡ (core && (fit && (said && things)))
  unfolding can_begin
  parts = refl

  pub no_core : core ≡ false → can_begin (begun w names 0) ≡ false
  no_core e = parts ∙ first_fails core (fit && (said && things)) e

  pub not_fit : core ≡ true → fit ≡ false → can_begin (begun w names 0) ≡ false
  not_fit e f = parts ∙ first_passes core (fit && (said && things)) e ∙ first_fails fit (said && things) f

  pub not_said : core ≡ true → fit ≡ true → said ≡ false → can_begin (begun w names 0) ≡ false
  not_said e f g = parts ∙ first_passes core (fit && (said && things)) e ∙ first_passes fit (said && things) f ∙ first_fails said things g

  pub by_things : core ≡ true → fit ≡ true → said ≡ true → can_begin (begun w names 0) ≡ things
  by_things e f g = parts ∙ first_passes core (fit && (said && things)) e ∙ first_passes fit (said && things) f ∙ first_passes said things g
