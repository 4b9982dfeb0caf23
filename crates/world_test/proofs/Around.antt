-- The bodies around one, and how many values are pending before the next node.
use Rattle.std.specs.Prelude.{◌≡◌, ℕ, zero, suc, ◌+◌, ◌-◌, ◌<◌, ◌≤◌, Option, Some, List, [], ◌∷◌, slice_get, option_and_then, refl}
use Rattle.std.proofs.Common.{ap, sym, ◌∙◌, arith}
use Rattle.self_terms.specs.declared.nodes.Node.{Node}
use Rattle.self_terms.specs.declared.bodies.Body.{Body}
use Rattle.self_terms.specs.declared.nodes.Node.TheVariants as nodes
use Rattle.self_terms.specs.Depths.{grown, left_by, depth, depth_from}
use Rattle.source_model.specs.Soundness.{around, body_in}

pub around_more : (bodies : List Body) (up i : ℕ) (at : Option ℕ) → i < up
    → around bodies (up - (i + 1)) (option_and_then (λ k. (body_in bodies k).outer) at) ≡ around bodies (up - i) at
around_more bodies up i at h = sym (ap (λ n. around bodies n at) (let e : up - i ≡ suc (up - (i + 1)) = omega arith in e))

pub around_end : (bodies : List Body) (up i : ℕ) (at : Option ℕ) → up ≤ i → around bodies (up - i) at ≡ at
around_end bodies up i at h = ap (λ n. around bodies n at) (let e : up - i ≡ 0 = omega arith in e)

from_zero : (ns : List Node) (d : ℕ) → depth_from d ns 0 ≡ d
from_zero [] d = refl
from_zero (n ∷ ns) d = refl

from_next : (ns : List Node) (d k : ℕ) (node : Node) → slice_get ns k ≡ Some node → depth_from d ns (suc k) ≡ grown node (depth_from d ns k)
from_next [] d k node e = cc
from_next (n ∷ ns) d zero node e = from_zero ns (grown n d) ∙ ap (λ o. grown o d) (let f : n ≡ node = cc in f)
from_next (n ∷ ns) d (suc k) node e = from_next ns (grown n d) k node e

pub depth_next : (ns : List Node) (k : ℕ) (node : Node) → slice_get ns k ≡ Some node → depth ns (k + 1) ≡ grown node (depth ns k)
unfolding depth
depth_next ns k node e = ap (depth_from 0 ns) (omega arith) ∙ from_next ns 0 k node e

pub depth_none : (ns : List Node) → 0 ≡ depth ns 0
unfolding depth
depth_none ns = sym (from_zero ns 0)

left_few : (node : Node) → left_by node ≤ 1
left_few nodes.Drop = omega arith
left_few nodes.Return = omega arith
left_few nodes.NonLocal = omega arith
left_few nodes.End = omega arith
left_few _ = omega arith

pub grown_few : (node : Node) (d : ℕ) → grown node d ≤ d + 1
grown_few node d = omega (arith, left_few node)
