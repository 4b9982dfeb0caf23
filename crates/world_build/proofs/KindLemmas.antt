-- How what is open is closed, told by the items from their end.
use Rattle.std.proofs.Common.{◌≡◌, ℕ, zero, suc, ◌+◌, Bool, false, List, [], ◌∷◌, get_or, refl, sym, ap, ◌∙◌, arith}
use Rattle.std.specs.Prelude.{Ok}
use Rattle.self_grammar.specs.declared.pieces.Item.{Item}
use Rattle.self_grammar.specs.declared.pieces.Item.TheVariants as items
use Rattle.world_build.specs.declared.loading.Loading.{Loading}
use Rattle.world_build.specs.Loading.{is_object, opened}
use Rattle.world_build.specs.Nodes.{take_item}
use Rattle.world_build.specs.Kinds.{first_of, but_first, closings, openings, kind_at, kinds_behind}
use Rattle.world_build.specs.Steps.{take_one}

get_or-but_first : (ks : List Bool) (d : ℕ) → get_or ks (d + 1) false ≡ get_or (but_first ks) d false
get_or-but_first [] zero = refl
get_or-but_first [] (suc d) = refl
get_or-but_first (k ∷ ks) d = ap (λ n. get_or (k ∷ ks) n false) (let e : d + 1 ≡ suc d = omega arith in e)

nowhere : (d : ℕ) → false ≡ get_or [] d false
nowhere zero = refl
nowhere (suc d) = refl

is_object_told : (d : ℕ) (is : List Item) → is_object d is ≡ get_or (closings is) d false
is_object_told d [] = nowhere d
is_object_told d (items.Opened p ∷ is) = is_object_told (d + 1) is ∙ get_or-but_first (closings is) d
is_object_told zero (items.ClosedObject ∷ is) = refl
is_object_told (suc d) (items.ClosedObject ∷ is) = is_object_told d is
is_object_told zero (items.ClosedBody ∷ is) = refl
is_object_told (suc d) (items.ClosedBody ∷ is) = is_object_told d is
is_object_told d (items.Node m ∷ is) = is_object_told d is
is_object_told d (items.Integer z ∷ is) = is_object_told d is
is_object_told d (items.Text i j ∷ is) = is_object_told d is
is_object_told d (items.Root n p ∷ is) = is_object_told d is
is_object_told d (items.Further n p ∷ is) = is_object_told d is
is_object_told d (items.Argument n ∷ is) = is_object_told d is
is_object_told d (items.Named n ∷ is) = is_object_told d is
is_object_told d (items.Slot w f p ∷ is) = is_object_told d is

first_of_closings : (ks : List Bool) → get_or ks 0 false ≡ first_of ks
first_of_closings [] = refl
first_of_closings (k ∷ ks) = refl

-- an item with what it opens is that item before those behind it
pub taken_one : (bytes : List ℕ) (i : Item) (is : List Item) (s : Loading) → take_one bytes (kind_at i (openings (i ∷ is))) i s ≡ take_item bytes i is s
taken_one bytes (items.Opened p) is s = ap (λ k. Ok (opened k s)) (sym (is_object_told 0 is ∙ first_of_closings (closings is)))
taken_one bytes items.ClosedObject is s = refl
taken_one bytes items.ClosedBody is s = refl
taken_one bytes (items.Node m) is s = refl
taken_one bytes (items.Integer z) is s = refl
taken_one bytes (items.Text i j) is s = refl
taken_one bytes (items.Root n p) is s = refl
taken_one bytes (items.Further n p) is s = refl
taken_one bytes (items.Argument n) is s = refl
taken_one bytes (items.Named n) is s = refl
taken_one bytes (items.Slot w f p) is s = refl

pub kinds_left : (i : Item) (is : List Item) → kinds_behind i (openings (i ∷ is)) ≡ openings is
kinds_left (items.Opened p) is = refl
kinds_left items.ClosedObject is = refl
kinds_left items.ClosedBody is = refl
kinds_left (items.Node m) is = refl
kinds_left (items.Integer z) is = refl
kinds_left (items.Text i j) is = refl
kinds_left (items.Root n p) is = refl
kinds_left (items.Further n p) is = refl
kinds_left (items.Argument n) is = refl
kinds_left (items.Named n) is = refl
kinds_left (items.Slot w f p) is = refl
