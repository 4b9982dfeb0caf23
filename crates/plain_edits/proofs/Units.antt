-- The words of a unit are the same where units know more objects and more maps of blocks.
use Rattle.std.proofs.Common.{◌≡◌, ℕ, zero, suc, ◌+◌, ◌*◌, ap, refl, ◌∙◌, Bool, List, [], ◌∷◌, ◌++◌, length, map}
use Rattle.std.specs.Prelude.{Some, slice_get}
use Rattle.self_terms.specs.declared.bodies.Body.{Body}
use Rattle.self_terms.specs.declared.bodies.Local.{Local}
use Rattle.self_terms.specs.declared.nodes.Node.{Node}
use Rattle.self_terms.specs.declared.nodes.Node.TheVariants as nodes
use Rattle.self_terms.specs.Depths.{grown}
use Rattle.sparc_insn.specs.declared.insn.Insn.{Insn}
use Rattle.plain_words.specs.Code.{poll, constant_code, block_code, entered_code}
use Rattle.plain_words.specs.declared.references.References.{References}
use Rattle.plain_words.specs.declared.units.Point.{Point}
use Rattle.plain_words.specs.Units.{object_word, datum_word, numbered, block_map, initial_words, node_code, nodes_code, node_points, nodes_points, entry_code, unit_code, unit_points, owns_context, of_block, frame_locals, frame_words, times}
use Rattle.plain_runs.specs.Units.{words_before, node_offset}

-- what a node names has the same words
abbrev pub SameNode : References → References → Node → Type 0
SameNode r q (nodes.Str o) = object_word q o ≡ object_word r o
SameNode r q (nodes.BlockLit b) = block_map q b.0 ≡ block_map r b.0
SameNode r q _ = Unit {0}

-- so it is of all nodes of a body, and of its initial values
pub record SameWords (r q : References) (x : Body) : Type 0 where
  pub nil : q.nil ≡ r.nil
  pub contexts : q.contexts ≡ r.contexts
  pub nodes_same : (n : ℕ) (node : Node) → slice_get x.nodes n ≡ Some node → SameNode r q node
  pub initials : (k : ℕ) (y : Local) → slice_get x.locals k ≡ Some y → datum_word q y.initial ≡ datum_word r y.initial

module _ (r q : References) (nil : q.nil ≡ r.nil) (owns : Bool) (locals : ℕ) where
  node_same : (at k : ℕ) (node : Node) → SameNode r q node → node_code q owns locals at node k ≡ node_code r owns locals at node k
  node_same at k (nodes.Int i) same = refl
  node_same at k (nodes.Str o) same = ap (constant_code locals k) same
  node_same at k (nodes.BlockLit b) same = ap (λ (w : ℕ). block_code locals k w (numbered b.0)) same
  node_same at k nodes.SelfRef same = refl
  node_same at k nodes.Nil same = ap (constant_code locals k) nil
  node_same at k (nodes.Read up slot) same = refl
  node_same at k (nodes.Store up slot) same = refl
  node_same at k (nodes.Send sel) same = refl
  node_same at k (nodes.SelfSend sel) same = refl
  node_same at k (nodes.Resend sel) same = refl
  node_same at k (nodes.Directed parent sel) same = refl
  node_same at k (nodes.Prim name args implied handler) same = refl
  node_same at k nodes.Drop same = refl
  node_same at k nodes.Restart same = refl
  node_same at k nodes.Return same = refl
  node_same at k nodes.NonLocal same = refl
  node_same at k nodes.End same = refl

  abbrev Same : List Node → Type 0
  Same xs = (n : ℕ) (node : Node) → slice_get xs n ≡ Some node → SameNode r q node

  nodes_code_same : (xs : List Node) (at k : ℕ) → Same xs → nodes_code q owns locals at k xs ≡ nodes_code r owns locals at k xs
  nodes_code_same [] at k same = refl
  nodes_code_same (x ∷ xs) at k same =
      let front = poll ++ node_code r owns locals at x k in
      ap (λ (c : List Insn). (poll ++ c) ++ nodes_code q owns locals (at + length (poll ++ c)) (grown x k) xs) (node_same at k x (same 0 x refl))
      ∙ ap (λ (rest : List Insn). front ++ rest) (nodes_code_same xs (at + length front) (grown x k) (λ n node e. same (suc n) node e))

  before_same : (xs : List Node) (n at k : ℕ) → Same xs → words_before q owns locals at k xs n ≡ words_before r owns locals at k xs n
  before_same [] n at k same = refl
  before_same (x ∷ xs) zero at k same = refl
  before_same (x ∷ xs) (suc n) at k same =
      let front = poll ++ node_code r owns locals at x k in
      ap (λ (c : List Insn). length (poll ++ c) + words_before q owns locals (at + length (poll ++ c)) (grown x k) xs n) (node_same at k x (same 0 x refl))
      ∙ ap (λ (rest : ℕ). length front + rest) (before_same xs n (at + length front) (grown x k) (λ m node e. same (suc m) node e))

  nodes_points_same : (xs : List Node) (body n at k : ℕ) → Same xs → nodes_points q owns locals body n at k xs ≡ nodes_points r owns locals body n at k xs
  nodes_points_same [] body n at k same = refl
  nodes_points_same (x ∷ xs) body n at k same =
      let words = length (poll ++ node_code r owns locals at x k) in
      ap (λ (c : List Insn). node_points body n x k (length (poll ++ c)) ++ nodes_points q owns locals body (n + 1) (at + length (poll ++ c)) (grown x k) xs) (node_same at k x (same 0 x refl))
      ∙ ap (λ (rest : List Point). node_points body n x k words ++ rest) (nodes_points_same xs body (n + 1) (at + words) (grown x k) (λ m node e. same (suc m) node e))

initial_same : (r q : References) (xs : List Local) → ((k : ℕ) (y : Local) → slice_get xs k ≡ Some y → datum_word q y.initial ≡ datum_word r y.initial) → map (λ (y : Local). datum_word q y.initial) xs ≡ map (λ (y : Local). datum_word r y.initial) xs
initial_same r q [] same = refl
initial_same r q (y ∷ ys) same =
    ap (λ (w : ℕ). w ∷ map (λ (z : Local). datum_word q z.initial) ys) (same 0 y refl) ∙ ap (λ (ws : List ℕ). datum_word r y.initial ∷ ws) (initial_same r q ys (λ k z e. same (suc k) z e))

module _ (r q : References) (x : Body) (same : SameWords r q x) where
  entry_same : entry_code q x ≡ entry_code r x
  entry_same =
      ap (λ (c : ℕ). entered_code (owns_context x) (of_block x) (4 * frame_words x) (numbered c) (length x.arguments) (initial_words q x)) same.contexts
      ∙ ap (λ (ws : List ℕ). entered_code (owns_context x) (of_block x) (4 * frame_words x) (numbered r.contexts) (length x.arguments) ws) (initial_same r q x.locals same.initials)

  pub unit_same : unit_code q x ≡ unit_code r x
  unit_same =
      ap (λ (c : List Insn). c ++ nodes_code q (owns_context x) (frame_locals x) 0 0 x.nodes) entry_same
      ∙ ap (λ (c : List Insn). entry_code r x ++ c) (nodes_code_same r q same.nil (owns_context x) (frame_locals x) x.nodes 0 0 same.nodes_same)

  pub points_same : (number : ℕ) → unit_points q number x ≡ unit_points r number x
  points_same number =
      ap (λ (c : List Insn). times (length c) (record { body = number; node = 0; pending = 0 }) ++ nodes_points q (owns_context x) (frame_locals x) number 0 0 0 x.nodes) entry_same
      ∙ ap (λ (ps : List Point). times (length (entry_code r x)) (record { body = number; node = 0; pending = 0 }) ++ ps) (nodes_points_same r q same.nil (owns_context x) (frame_locals x) x.nodes number 0 0 0 same.nodes_same)

  pub offset_same : (n : ℕ) → node_offset q x n ≡ node_offset r x n
  offset_same n =
      ap (λ (c : List Insn). length c + words_before q (owns_context x) (frame_locals x) 0 0 x.nodes n) entry_same
      ∙ ap (λ (k : ℕ). length (entry_code r x) + k) (before_same r q same.nil (owns_context x) (frame_locals x) x.nodes n 0 0 same.nodes_same)
