-- Where the words of a body stand, and where its nodes are.
use Rattle.std.specs.Prelude.{◌≡◌, ◌≢◌, ℕ, zero, suc, ◌+◌, ◌-◌, ◌*◌, ◌/◌, ◌%◌, ◌<◌, ◌≤◌, Bool, true, List, [], ◌∷◌, ◌++◌, length, Some, slice_get}
use Rattle.self_terms.specs.declared.nodes.Node.{Node}
use Rattle.self_terms.specs.declared.bodies.Body.{Body}
use Rattle.self_terms.specs.Depths.{grown, depth}
use Rattle.sparc_store.specs.Words.{Words}
use Rattle.source_model.specs.Soundness.{body_in}
use Rattle.plain_words.specs.Going.{At, IsCodeFrom}
use Rattle.plain_words.specs.Code.{poll}
use Rattle.plain_words.specs.declared.references.References.{References}
use Rattle.plain_words.specs.Units.{node_code, entry_code, unit_code, unit_points, owns_context, frame_locals, is_call}
use Rattle.plain_runs.specs.Host.{Host, first_unit}

-- how many words the first of these nodes take, which begin so many words behind the first of all over k pending values
abbrev pub words_before : References → Bool → ℕ → ℕ → ℕ → List Node → ℕ → ℕ
words_before r owns locals at k [] n = 0
words_before r owns locals at k (x ∷ xs) zero = 0
words_before r owns locals at k (x ∷ xs) (suc n) =
    let words = length (poll ++ node_code r owns locals at x k) in
    words + words_before r owns locals (at + words) (grown x k) xs n

-- how many words stand in a unit before a node
abbrev pub node_offset : References → Body → ℕ → ℕ
node_offset r b n = length (entry_code r b) + words_before r (owns_context b) (frame_locals b) 0 0 b.nodes n

-- The unit of a body stands at an address, and what its words say is known.
pub record HasUnit (h : Host) (b at : ℕ) : Type 0 where
  pub given : 0 < b
  pub known : b ≤ length h.bodies
  pub entry : slice_get h.entries (b - 1) ≡ Some at
  pub from : first_unit ≤ at
  pub region : IsCodeFrom at (length (unit_code h.references (body_in h.bodies b)))
  pub code : At h.machine.memory at (unit_code h.references (body_in h.bodies b))
  pub points : (j : ℕ) → j < length (unit_code h.references (body_in h.bodies b)) → slice_get h.points ((at - first_unit) / 4 + j) ≡ slice_get (unit_points h.references b (body_in h.bodies b)) j

-- the address is that of the poll of a node of a body
pub record IsPoll (h : Host) (pc b n : ℕ) : Type 0 where
  pub at : ℕ
  pub unit : HasUnit h b at
  pub inside : n < length (body_in h.bodies b).nodes
  pub address : pc ≡ at + 4 * node_offset h.references (body_in h.bodies b) n

-- it is that of a word of the poll
pub record IsInPoll (h : Host) (pc b n : ℕ) : Type 0 where
  pub at : ℕ
  pub word : ℕ
  pub unit : HasUnit h b at
  pub inside : n < length (body_in h.bodies b).nodes
  pub within : word < 6
  pub address : pc ≡ at + 4 * (node_offset h.references (body_in h.bodies b) n + word)

-- the address is that behind the call of a node, which is a send or a primitive: one word before the next node's poll
pub record IsBehindCall (h : Host) (pc b n : ℕ) (node : Node) : Type 0 where
  pub at : ℕ
  pub unit : HasUnit h b at
  pub node_is : slice_get (body_in h.bodies b).nodes n ≡ Some node
  pub call : is_call node ≡ true
  pub address : pc + 4 ≡ at + 4 * node_offset h.references (body_in h.bodies b) (n + 1)
