-- The bodies whose words fit their fields, and how long their words are.
use Rattle.std.specs.Prelude.{◌≡◌, ℕ, ◌+◌, ◌^◌, ◌<◌, ◌≤◌, List, length, Some, slice_get}
use Rattle.self_terms.specs.declared.nodes.Node.{Node}
use Rattle.self_terms.specs.declared.nodes.Node.TheVariants as nodes
use Rattle.self_terms.specs.declared.bodies.Body.{Body}
use Rattle.self_terms.specs.declared.bodies.Local.{Local}
use Rattle.self_terms.specs.declared.values.Datum.{Datum}
use Rattle.self_terms.specs.declared.values.Datum.TheVariants as datum
use Rattle.self_terms.specs.Words.{IsSmall}
use Rattle.self_terms.specs.Depths.{depth, one_if}
use Rattle.plain_words.specs.declared.references.References.{References}
use Rattle.plain_words.specs.Units.{object_word}

-- An integer literal has 30 bits, a message at most five arguments, a primitive at most so many with its handler, and a local stands at most
-- so many bodies out.
abbrev pub IsShort : ℕ → Node → Type 0
IsShort out (nodes.Int i) = IsSmall i
IsShort out (nodes.Read up slot) = (up ≤ out) × (slot < 256)
IsShort out (nodes.Store up slot) = (up ≤ out) × (slot < 256)
IsShort out (nodes.Send sel) = sel.args ≤ 5
IsShort out (nodes.SelfSend sel) = sel.args ≤ 5
IsShort out (nodes.Resend sel) = sel.args ≤ 5
IsShort out (nodes.Directed parent sel) = sel.args ≤ 5
IsShort out (nodes.Prim name args implied handler) = args + one_if handler ≤ 5
IsShort out _ = Unit {0}

abbrev pub AreShort : ℕ → List Node → Type 0
AreShort out list = (k : ℕ) (node : Node) → slice_get list k ≡ Some node → IsShort out node

-- an initial integer has 30 bits
abbrev pub IsSmallDatum : Datum → Type 0
IsSmallDatum (datum.Integer i) = IsSmall i
IsSmallDatum _ = Unit {0}

-- What the words of a body ask of it: no more arguments, locals, nodes and pending values than a text may have, and each node and initial
-- value as above. A text has at most 64 blocks open at once.
pub record CanTranslate (b : Body) : Type 0 where
  pub arguments : length b.arguments ≤ 5
  pub locals : length b.locals ≤ 64
  pub few : length b.nodes ≤ 1024
  pub deep : (k : ℕ) → depth b.nodes k ≤ 64
  pub short : AreShort 64 b.nodes
  pub initial : (k : ℕ) (x : Local) → slice_get b.locals k ≡ Some x → IsSmallDatum x.initial

-- references are words of 32 bits
pub record AreWords (r : References) : Type 0 where
  pub objects : (o : ℕ) → object_word r o < 2 ^ 32
  pub nil : r.nil < 2 ^ 32
