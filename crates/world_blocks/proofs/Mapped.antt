-- The maps of blocks by their numbers.
use Rattle.std.proofs.Common.{◌≡◌, refl, sym, ap, subst, ◌∙◌, ℕ, zero, suc, ◌+◌, ◌-◌, ◌<◌, ◌≤◌, List, [], ◌∷◌, ◌++◌, length, arith, length-append}
use Rattle.std.specs.Prelude.{Option, None, Some, slice_get, slice_index, unwrap_or}
use Rattle.std.proofs.lemmas.List.{get_or-append-add, get_or_append_left}
use Rattle.std.proofs.lemmas.Option.{none-some, same_Some}
use Rattle.self_terms.specs.declared.bodies.Body.{Body}
use Rattle.object_maps.specs.Slots.{Slots, slots_in}
use Rattle.source_model.specs.Names.{number_of, evaluator}
use Rattle.source_model.specs.Soundness.{body_in, HasBody}
use Rattle.heap_cells.proofs.Numbered.{got_if}
use Rattle.world_build.specs.Worlds.{World}
use Rattle.world_heap.specs.Images.{Image}
use Rattle.world_blocks.specs.Sessions.{session_names, block_traits, block_map, own_block_map, block_maps, session_maps, contexts_map, own_number, number_behind, numbers_from, blocks_map}
use Rattle.world_blocks.specs.Knowing.{IsMapOf, HasBlockMaps}

-- the map of a body's blocks stands where its number says
record IsAt (names : List (List ℕ)) (traits : ℕ) (b next : ℕ) (xs : List Body) (k : ℕ) (x : Body) : Type 0 where
  at : ℕ
  number : slice_index (numbers_from next xs) k ≡ next + at
  within : at < length (block_maps names traits b xs)
  is : slots_in (block_maps names traits b xs) at ≡ block_map names traits (b + k) x

at_first : (names : List (List ℕ)) (traits : ℕ) (b next : ℕ) (x : Body) (xs : List Body) (o : Option ℕ) (outer : ℕ) → x.outer ≡ o → o ≡ Some outer → IsAt names traits b next (x ∷ xs) 0 x
at_first names traits b next x xs None outer e f = absurd (none-some outer f)
at_first names traits b next x xs (Some around) outer e f = record {
  at = 0;
  number = ap (own_number next) e ∙ omega arith;
  within = subst (λ (o : Option ℕ). 0 < length (own_block_map names traits b x o ++ block_maps names traits (b + 1) xs)) (sym e) (omega arith);
  is = ap (λ (o : Option ℕ). slots_in (own_block_map names traits b x o ++ block_maps names traits (b + 1) xs) 0) e ∙ ap (λ (n : ℕ). block_map names traits n x) (let same : b ≡ b + 0 = omega arith in same);
}

at_next : (names : List (List ℕ)) (traits : ℕ) (b next : ℕ) (y : Body) (xs : List Body) (k : ℕ) (x : Body) (o : Option ℕ) → y.outer ≡ o → IsAt names traits (b + 1) (number_behind next o) xs k x → IsAt names traits b next (y ∷ xs) (suc k) x
at_next names traits b next y xs k x None e r = record {
  at = r.at;
  number = ap (λ (o : Option ℕ). slice_index (numbers_from (number_behind next o) xs) k) e ∙ r.number;
  within = subst (λ (o : Option ℕ). r.at < length (own_block_map names traits b y o ++ block_maps names traits (b + 1) xs)) (sym e) r.within;
  is = ap (λ (o : Option ℕ). slots_in (own_block_map names traits b y o ++ block_maps names traits (b + 1) xs) r.at) e ∙ r.is ∙ ap (λ (n : ℕ). block_map names traits n x) (let same : b + 1 + k ≡ b + suc k = omega arith in same);
}
at_next names traits b next y xs k x (Some around) e r = record {
  at = suc r.at;
  number = ap (λ (o : Option ℕ). slice_index (numbers_from (number_behind next o) xs) k) e ∙ r.number ∙ omega arith;
  within = subst (λ (o : Option ℕ). suc r.at < length (own_block_map names traits b y o ++ block_maps names traits (b + 1) xs)) (sym e) (let lt = r.within in omega arith);
  is = ap (λ (o : Option ℕ). slots_in (own_block_map names traits b y o ++ block_maps names traits (b + 1) xs) (suc r.at)) e ∙ r.is ∙ ap (λ (n : ℕ). block_map names traits n x) (let same : b + 1 + k ≡ b + suc k = omega arith in same);
}

is_at : (names : List (List ℕ)) (traits : ℕ) (b next : ℕ) (xs : List Body) (k : ℕ) (x : Body) (outer : ℕ) → slice_get xs k ≡ Some x → x.outer ≡ Some outer → IsAt names traits b next xs k x
is_at names traits b next [] k x outer there is = absurd (none-some x there)
is_at names traits b next (y ∷ xs) zero x outer there is =
    let same = same_Some y x there in
    subst (λ (z : Body). IsAt names traits b next (y ∷ xs) 0 z) same (at_first names traits b next y xs y.outer outer refl (ap (λ (z : Body). z.outer) same ∙ is))
is_at names traits b next (y ∷ xs) (suc k) x outer there is = at_next names traits b next y xs k x y.outer refl (is_at names traits (b + 1) (number_behind next y.outer) xs k x outer there is)

-- each of them is that of a body
pub record IsOf (names : List (List ℕ)) (traits : ℕ) (b n : ℕ) (xs : List Body) : Type 0 where
  pub k : ℕ
  pub body : Body
  pub there : slice_get xs k ≡ Some body
  pub is : slots_in (block_maps names traits b xs) n ≡ block_map names traits (b + k) body

of_next : (names : List (List ℕ)) (traits : ℕ) (b n : ℕ) (y : Body) (xs : List Body) (m : ℕ) → slots_in (block_maps names traits b (y ∷ xs)) n ≡ slots_in (block_maps names traits (b + 1) xs) m → IsOf names traits (b + 1) m xs → IsOf names traits b n (y ∷ xs)
of_next names traits b n y xs m e r = record {
  k = suc r.k;
  body = r.body;
  there = r.there;
  is = e ∙ r.is ∙ ap (λ (n : ℕ). block_map names traits n r.body) (let same : b + 1 + r.k ≡ b + suc r.k = omega arith in same);
}

by_outer : (names : List (List ℕ)) (traits : ℕ) (b n : ℕ) (y : Body) (xs : List Body) (o : Option ℕ) → y.outer ≡ o → n < length (own_block_map names traits b y o ++ block_maps names traits (b + 1) xs)
    → ((m : ℕ) → m < length (block_maps names traits (b + 1) xs) → IsOf names traits (b + 1) m xs) → IsOf names traits b n (y ∷ xs)
by_outer names traits b n y xs None e lt more =
    of_next names traits b n y xs n (ap (λ (o : Option ℕ). slots_in (own_block_map names traits b y o ++ block_maps names traits (b + 1) xs) n) e) (more n lt)
by_outer names traits b zero y xs (Some around) e lt more = record {
  k = 0;
  body = y;
  there = refl;
  is = ap (λ (o : Option ℕ). slots_in (own_block_map names traits b y o ++ block_maps names traits (b + 1) xs) 0) e ∙ ap (λ (n : ℕ). block_map names traits n y) (let same : b ≡ b + 0 = omega arith in same);
}
by_outer names traits b (suc n) y xs (Some around) e lt more =
    of_next names traits b (suc n) y xs n (ap (λ (o : Option ℕ). slots_in (own_block_map names traits b y o ++ block_maps names traits (b + 1) xs) (suc n)) e) (more n (omega arith))

pub is_of : (names : List (List ℕ)) (traits : ℕ) (b n : ℕ) (xs : List Body) → n < length (block_maps names traits b xs) → IsOf names traits b n xs
is_of names traits b n [] lt = absurd (omega arith)
is_of names traits b n (y ∷ xs) lt = by_outer names traits b n y xs y.outer refl lt (λ m. is_of names traits (b + 1) m xs)

-- Behind the maps of the world.
abbrev pub maps_of_blocks : World → List Slots
maps_of_blocks w = block_maps (session_names w) (block_traits w) 1 w.bodies

pub behind : (i : Image) (n : ℕ) → slots_in (session_maps i) (length i.maps + n) ≡ slots_in ([] ∷ maps_of_blocks i.world) n
behind i n = get_or-append-add i.maps ([] ∷ maps_of_blocks i.world) n []

pub in_front : (i : Image) (n : ℕ) → n < length i.maps → slots_in (session_maps i) n ≡ slots_in i.maps n
in_front i n lt = get_or_append_left i.maps ([] ∷ maps_of_blocks i.world) [] n lt

pub how_many : (i : Image) → length (session_maps i) ≡ length i.maps + 1 + length (maps_of_blocks i.world)
how_many i = length-append i.maps ([] ∷ maps_of_blocks i.world) ∙ omega arith

module _ (i : Image) (three : 3 ≤ length i.maps) where
  map_of : (b outer k : ℕ) (x : Body) → b ≡ 1 + k → slice_get i.world.bodies k ≡ Some x → x.outer ≡ Some outer → IsMapOf (session_maps i) b (slice_index (numbers_from (length i.maps + 1) i.world.bodies) k)
  map_of b outer k x e there is =
      let r = is_at (session_names i.world) (block_traits i.world) 1 (length i.maps + 1) i.world.bodies k x outer there is in
      let number = r.number in
      let within = r.within in
      let many = how_many i in
      let place : slice_index (numbers_from (length i.maps + 1) i.world.bodies) k ≡ length i.maps + suc r.at = omega arith in
      let slots : slots_in (session_maps i) (length i.maps + suc r.at) ≡ block_map (session_names i.world) (block_traits i.world) b x = behind i (suc r.at) ∙ r.is ∙ ap (λ (n : ℕ). block_map (session_names i.world) (block_traits i.world) n x) (sym e) in
      subst (λ (n : ℕ). IsMapOf (session_maps i) b n) (sym place) (record {
        within = omega arith;
        told = λ context receiver. (let le : 3 ≤ length i.maps + suc r.at = omega arith in le, record { evaluator = number_of (session_names i.world) (evaluator (length x.arguments)); traits = block_traits i.world; are = slots });
      })

  map_of_body : (b outer : ℕ) → HasBody i.world.bodies b → (body_in i.world.bodies b).outer ≡ Some outer → IsMapOf (session_maps i) b (blocks_map i b)
  map_of_body b outer has is =
      let pos = has.0 in
      let le = has.1 in
      let x = got_if i.world.bodies (b - 1) (omega arith) in
      map_of b outer (b - 1) x.0 (omega arith) x.1 (sym (ap (λ (q : Option Body). (unwrap_or q (record { name = None; outer = None; arguments = []; locals = []; nodes = []; places = [] })).outer) x.1) ∙ is)

  pub has_block_maps : HasBlockMaps i (session_maps i)
  has_block_maps = record {
    contexts = let many = how_many i in omega arith;
    bare = ap (slots_in (session_maps i)) (let same : contexts_map i ≡ length i.maps + 0 = omega arith in same) ∙ behind i 0;
    blocks = map_of_body;
  }
