-- The first body of an edit's text.
use Rattle.std.specs.Prelude.{◌≡◌, ℕ, zero, suc, ◌+◌, ◌-◌, ◌≤◌, Option, None, Some, List, [], ◌∷◌, ◌++◌, length, map, slice_get, slice_set, refl}
use Rattle.std.proofs.Common.{ap, sym, subst, ◌∙◌, arith, append_assoc, length-append}
use Rattle.std.proofs.Math.ListN.{length-set}
use Rattle.self_terms.specs.declared.bodies.Body.{Body}
use Rattle.self_terms.specs.Bodies.{change_body, add_node, add_argument, add_local, with_name}
use Rattle.self_grammar.specs.declared.signs.Spot.{Spot}
use Rattle.self_grammar.specs.declared.signs.Role.TheVariants.{Equals}
use Rattle.self_grammar.specs.declared.signs.Symbol.{Symbol}
use Rattle.self_grammar.specs.declared.signs.Symbol.TheVariants as symbol
use Rattle.self_grammar.specs.declared.pieces.SlotForm.{SlotForm}
use Rattle.self_grammar.specs.declared.pieces.SlotForm.TheVariants as form
use Rattle.self_grammar.specs.declared.pieces.Item.{Item}
use Rattle.self_grammar.specs.declared.pieces.Item.TheVariants as items
use Rattle.self_grammar.specs.Grammar as g
use Rattle.self_grammar.specs.Counts.{Limits, quiet, Context, Event, Writer, write, telling, placing, entering, items_at, moved}
use Rattle.self_grammar.specs.Scopes.{either, Scope, scope, activation, holder, named, with_argument, with_local}
use Rattle.self_grammar.specs.Spelling as s
use Rattle.self_grammar.specs.Spelling.{items_of}
use Rattle.self_grammar.proofs.SlotMoves as v'
use Rattle.source_model.specs.Edits.{Initial, SlotText}
use Rattle.source_model.specs.Soundness.{body_in, HasBody}
use Rattle.source_model.specs.Told.{told_body}
use Rattle.source_model.specs.Told as source
use Rattle.world_build.specs.Loading.{place, local_for}
use Rattle.world_build.specs.Nodes.{node_of}
use Rattle.world_build.specs.Names.{word_number}
use Rattle.world_build.specs.SlotParts.{code_of}
use Rattle.world_build.specs.SlotTexts.{slot_of, slot_text, body_texts}
use Rattle.edit_formed.proofs.State.{State, shown, first, in_first, named_code, closes, new_body, next, all_next, nothing_read, all_shown}

-- A body opens.

pub record Opened (is : List Item) : Type 0 where
  pub front : List Item
  pub at : Spot
  pub rest : List Item
  pub parts : is ≡ front ++ items.Opened at ∷ rest

opened_behind : (xs ys : List Item) → Opened ys → Opened (xs ++ ys)
opened_behind xs ys h = record { front = xs ++ h.front; at = h.at; rest = h.rest; parts = ap (λ zs. xs ++ zs) h.parts ∙ sym (append_assoc xs h.front (items.Opened h.at ∷ h.rest)) }

abbrev Tells : Writer → Type 0
Tells k = (c : Context) → Opened (items_of (k c))

module _ (l : Limits) where
  sign : (x : Symbol) (p : Spot) (e : Event) (k : Writer) → Tells k → Tells (write l x p e k)
  sign x p e k tells c = opened_behind (items_at c e) (items_of (k (moved c e))) (tells (moved c e))

  opens : (x : Symbol) (p q : Spot) (e : Event) (k : Writer) → e.says ≡ items.Opened q ∷ [] → Tells (write l x p e k)
  opens x p q e k says c =
      let before : List Item = c.ready ++ map items.Node (c.due ++ e.made) in
      let rest : List Item = items_of (k (moved c e)) in
      record { front = before; at = q; rest = rest; parts = ap (λ xs. before ++ xs ++ rest) says ∙ append_assoc before (items.Opened q ∷ []) rest }

  method_tells : (x : g.Method) (n : s.Named) (k : Writer) → Tells (s.method l n x k)
  method_tells (g.bare_method p b q) n k =
      opens symbol.OpenParen p p (record (s.opening_item p) { next = s.wants_bar n }) (entering (s.code l b (write l symbol.CloseParen q (s.ending (g.full b) q) k))) refl
  method_tells (g.slotted_method p b ss b2 x q) n k =
      opens symbol.OpenParen p p (record (s.opening_item p) { next = s.wants_bar n })
      (write l symbol.Bar b quiet
      (s.slots l ss (λ u. write l symbol.Bar b2 (record quiet { broken = s.at_bar n u }) (entering (telling (s.at_code n u) (s.code l x (write l symbol.CloseParen q (s.ending (g.full x) q) k))))) n.inner))
      refl

  keyword_name_tells : (x : g.KeywordName) (k : s.Listing) → ((u : Scope) → Tells (k u)) → (u : Scope) → Tells (s.keyword_name l x k u)
  keyword_name_tells (g.keyword_first x) k tells u = sign (symbol.Keyword x.name) x.spot (v'.keyword_event l u x) (k (with_local l x.spot u)) (tells (with_local l x.spot u))
  keyword_name_tells (g.keyword_next n q) k tells u =
      keyword_name_tells n _ (λ t. sign (symbol.CapitalKeyword q.word.name q.handles) q.word.spot (v'.part_event l (s.count n)) (k t) (tells t)) u

  argument_tells : (x : g.Label) (k : s.Listing) (u : Scope) → Tells (k (with_argument (x.name ∷ []) u)) → Tells (s.head_argument l x k u)
  argument_tells x k u tells = sign (s.free_name x) x.spot (v'.head_argument_event l u x) (k (with_argument (x.name ∷ []) u)) tells

  keyword_head_tells : (x : g.KeywordHead) (k : Scope → s.Listing) → ((u i : Scope) → Tells (k u i)) → (u : Scope) → Tells (s.keyword_head l x k u)
  keyword_head_tells (g.head_first x w) k tells u =
      sign (symbol.Keyword x.name) x.spot (v'.keyword_event l u x) (s.head_argument l w (k (with_local l x.spot u)) (scope activation))
      (argument_tells w (k (with_local l x.spot u)) (scope activation) (tells (with_local l x.spot u) (with_argument (w.name ∷ []) (scope activation))))
  keyword_head_tells (g.head_next n q w) k tells u =
      keyword_head_tells n _
      (λ t i. sign (symbol.CapitalKeyword q.word.name q.handles) q.word.spot (v'.part_event l (s.count (s.head_name n))) (s.head_argument l w (k t) i)
      (argument_tells w (k t) i (tells t (with_argument (w.name ∷ []) i)))) u

  operator_tells : (x : g.AnyOperator) (k : s.Listing) → ((u : Scope) → Tells (k u)) → (u : Scope) → Tells (s.operator_name l x k u)
  operator_tells x k tells u = sign (symbol.Operator x.word.name x.role) x.word.spot (v'.operator_event l u x) (k (named (x.word.name ∷ []) (with_local l x.word.spot u))) (tells (named (x.word.name ∷ []) (with_local l x.word.spot u)))

  head_tells : (x : g.Head) (k : s.Named → Writer) → ((n : s.Named) → Tells (k n)) → (u : Scope) → Tells (s.head l x k u)
  head_tells (g.unary_head x) k tells u =
      let n : s.Named = record { around = named (x.name ∷ []) (with_local l x.spot u); inner = scope either; wanted = 0; spot = x.spot; broken = [] } in
      sign (s.free_name x) x.spot (v'.name_event l u x) (k n) (tells n)
  head_tells (g.operator_with x w) k tells u =
      operator_tells x (λ t. s.head_argument l w (λ i. k (record { around = t; inner = i; wanted = 1; spot = x.word.spot; broken = [] })) (scope activation))
      (λ t. argument_tells w (λ i. k (record { around = t; inner = i; wanted = 1; spot = x.word.spot; broken = [] })) (scope activation)
      (tells (record { around = t; inner = with_argument (w.name ∷ []) (scope activation); wanted = 1; spot = x.word.spot; broken = [] }))) u
  head_tells (g.operator x) k tells u =
      operator_tells x (λ t. k (record { around = t; inner = scope activation; wanted = 1; spot = x.word.spot; broken = [] }))
      (λ t. tells (record { around = t; inner = scope activation; wanted = 1; spot = x.word.spot; broken = [] })) u
  head_tells (g.keyword_with n) k tells u = keyword_head_tells n (λ t i. k (s.keyword_named (s.head_name n) t i)) (λ t i. tells (s.keyword_named (s.head_name n) t i)) u
  head_tells (g.keyword n) k tells u = keyword_name_tells n (λ t. k (s.keyword_named n t (scope activation))) (λ t. tells (s.keyword_named n t (scope activation))) u

  pub edit_opens : (x : g.Edit) → Opened (items_of (s.edit l x))
  edit_opens (g.edit (g.method h e x) q p) =
      let k : Writer = placing (s.method_items (g.method h e x)) (s.stopped l q (s.finish l p)) in
      head_tells h (λ n. s.mark l Equals e (record quiet { broken = n.broken }) (s.method l n x k))
      (λ n. sign (symbol.Operator e.name Equals) e.spot (record quiet { broken = n.broken }) (s.method l n x k) (method_tells x n k)) (scope holder) (s.at_first 0)

-- It stands in no other one.

abbrev FirstOk : List Body → List ℕ → Type 0
FirstOk [] around = around ≡ []
FirstOk (x ∷ xs) around = x.outer ≡ None

first_set : (xs : List Body) (j : ℕ) (x y : Body) (around : List ℕ) → slice_get xs j ≡ Some x → y.outer ≡ x.outer → FirstOk xs around → FirstOk (slice_set xs j y) around
first_set [] j x y around e same h = h
first_set (z ∷ xs) zero x y around e same h = let here : z ≡ x = cc in same ∙ ap (λ (b : Body). b.outer) (sym here) ∙ h
first_set (z ∷ xs) (suc j) x y around e same h = h

first_change : (f : Body → Body) (same : (x : Body) → (f x).outer ≡ x.outer) (o : Option Body) (xs : List Body) (j : ℕ) (around : List ℕ) → slice_get xs j ≡ o → FirstOk xs around → FirstOk (change_body f o xs j) around
first_change f same None xs j around e h = h
first_change f same (Some x) xs j around e h = first_set xs j x (f x) around e (same x) h

first_in : (f : Body → Body) (same : (x : Body) → (f x).outer ≡ x.outer) (os : List ℕ) (xs : List Body) (around : List ℕ) → FirstOk xs around → FirstOk (in_first f os xs) around
first_in f same [] xs around h = h
first_in f same (b ∷ os) xs around h = first_change f same (slice_get xs (b - 1)) xs (b - 1) around refl h

first_named : (code : Option ℕ) (n : ℕ) (f : SlotForm) (xs : List Body) (around : List ℕ) → FirstOk xs around → FirstOk (named_code code n f xs) around
first_named None n f xs around h = h
first_named (Some b) n form.Constant xs around h = h
first_named (Some b) n (form.Assignable t) xs around h = h
first_named (Some b) n (form.Bare t) xs around h = h
first_named (Some b) n form.Parent xs around h = h
first_named (Some b) n form.Method xs around h = first_change (with_name n) (λ x. refl) (slice_get xs (b - 1)) xs (b - 1) around refl h

first_new : (xs : List Body) (y : Body) (around now : List ℕ) → y.outer ≡ first around → FirstOk xs around → FirstOk (xs ++ y ∷ []) now
first_new [] y around now e h = e ∙ ap first h
first_new (x ∷ xs) y around now e h = h

first_out : (xs : List Body) (b : ℕ) (around : List ℕ) → FirstOk xs (b ∷ around) → FirstOk xs around
first_out [] b around h = cc
first_out (x ∷ xs) b around h = h

closes_first : (around : List ℕ) (s : State) → s.around ≡ around → FirstOk s.bodies s.around → FirstOk (closes around s).bodies (closes around s).around
closes_first [] s e h = h
closes_first (b ∷ around) s e h = first_out s.bodies b around (subst (FirstOk s.bodies) e h)

step : (bytes : List ℕ) (i : Item) (s : State) → FirstOk s.bodies s.around → FirstOk (next bytes i s).bodies (next bytes i s).around
step bytes (items.Node m) s h = first_in (add_node (node_of (shown s).loading m.node) (place m.spot)) (λ x. refl) s.around s.bodies s.around h
step bytes (items.Opened p) s h = first_new s.bodies (new_body s) s.around ((length s.bodies + 1) ∷ s.around) refl h
step bytes items.ClosedObject s h = h
step bytes items.ClosedBody s h = closes_first s.around s refl h
step bytes (items.Integer z) s h = h
step bytes (items.Text i j) s h = h
step bytes (items.Root n p) s h = h
step bytes (items.Further n p) s h = h
step bytes (items.Argument n) s h = first_in (add_argument n) (λ x. refl) s.around s.bodies s.around h
step bytes (items.Named n) s h = h
step bytes (items.Slot w f p) s h =
    first_in (add_local (local_for (word_number s.names w) f (code_of s.code))) (λ x. refl) s.around (named_code s.code (word_number s.names w) f s.bodies) s.around
    (first_named s.code (word_number s.names w) f s.bodies s.around h)

all_first : (bytes : List ℕ) (is : List Item) (s : State) → FirstOk s.bodies s.around → FirstOk (all_next bytes is s).bodies (all_next bytes is s).around
all_first bytes [] s h = h
all_first bytes (i ∷ is) s h = all_first bytes is (next bytes i s) (step bytes i s h)

-- No body goes.

count_change : (f : Body → Body) (o : Option Body) (xs : List Body) (j : ℕ) → length (change_body f o xs j) ≡ length xs
count_change f None xs j = refl
count_change f (Some x) xs j = length-set xs j (f x)

count_in : (f : Body → Body) (os : List ℕ) (xs : List Body) → length (in_first f os xs) ≡ length xs
count_in f [] xs = refl
count_in f (b ∷ os) xs = count_change f (slice_get xs (b - 1)) xs (b - 1)

count_named : (code : Option ℕ) (n : ℕ) (f : SlotForm) (xs : List Body) → length (named_code code n f xs) ≡ length xs
count_named None n f xs = refl
count_named (Some b) n form.Constant xs = refl
count_named (Some b) n (form.Assignable t) xs = refl
count_named (Some b) n (form.Bare t) xs = refl
count_named (Some b) n form.Parent xs = refl
count_named (Some b) n form.Method xs = count_change (with_name n) (slice_get xs (b - 1)) xs (b - 1)

count_closes : (around : List ℕ) (s : State) → length s.bodies ≤ length (closes around s).bodies
count_closes [] s = omega arith
count_closes (b ∷ around) s = omega arith

count_next : (bytes : List ℕ) (i : Item) (s : State) → length s.bodies ≤ length (next bytes i s).bodies
count_next bytes (items.Node m) s = omega (arith, count_in (add_node (node_of (shown s).loading m.node) (place m.spot)) s.around s.bodies)
count_next bytes (items.Opened p) s = omega (arith, length-append s.bodies (new_body s ∷ []))
count_next bytes items.ClosedObject s = omega arith
count_next bytes items.ClosedBody s = count_closes s.around s
count_next bytes (items.Integer z) s = omega arith
count_next bytes (items.Text i j) s = omega arith
count_next bytes (items.Root n p) s = omega arith
count_next bytes (items.Further n p) s = omega arith
count_next bytes (items.Argument n) s = omega (arith, count_in (add_argument n) s.around s.bodies)
count_next bytes (items.Named n) s = omega arith
count_next bytes (items.Slot w f p) s =
    let n : ℕ = word_number s.names w in
    omega (arith, count_in (add_local (local_for n f (code_of s.code))) s.around (named_code s.code n f s.bodies), count_named s.code n f s.bodies)

all_count : (bytes : List ℕ) (is : List Item) (s : State) → length s.bodies ≤ length (all_next bytes is s).bodies
all_count bytes [] s = omega arith
all_count bytes (i ∷ is) s = omega (arith, count_next bytes i s, all_count bytes is (next bytes i s))

some_open : (bytes : List ℕ) (front rest : List Item) (p : Spot) (s : State) → 1 ≤ length (all_next bytes (front ++ items.Opened p ∷ rest) s).bodies
some_open bytes [] rest p s = omega (arith, all_count bytes rest (next bytes (items.Opened p) s), length-append s.bodies (new_body s ∷ []))
some_open bytes (i ∷ front) rest p s = some_open bytes front rest p (next bytes i s)

-- The slot.

abbrev pub Stands : SlotText → Type 0
Stands t = HasBody (source.told t) 1 × ((body_in (source.told t) 1).outer ≡ None)

first_there : (all : List (ℕ × Initial)) (xs : List Body) (around : List ℕ) → FirstOk xs around → 1 ≤ length xs →
    HasBody (map told_body (body_texts all 1 xs)) 1 × ((body_in (map told_body (body_texts all 1 xs)) 1).outer ≡ None)
first_there all [] around h le = absurd (omega arith)
first_there all (x ∷ xs) around h le = ((omega arith, omega arith), h)

pub first_stands : (names : List (List ℕ)) (bytes : List ℕ) (is : List Item) → Opened is → Stands (slot_text names bytes is)
first_stands names bytes is o =
    let s : State = all_next bytes is (nothing_read names) in
    let some : 1 ≤ length s.bodies = subst (λ xs. 1 ≤ length (all_next bytes xs (nothing_read names)).bodies) (sym o.parts) (some_open bytes o.front o.rest o.at (nothing_read names)) in
    subst (λ t. Stands (slot_of t)) (sym (all_shown bytes is (nothing_read names))) (first_there s.initials s.bodies s.around (all_first bytes is (nothing_read names) refl) some)
