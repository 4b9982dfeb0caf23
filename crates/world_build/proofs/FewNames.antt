-- A world has few names.
use Rattle.std.specs.Prelude.{◌≡◌, ℕ, ◌+◌, ◌≤◌, Result, Ok, Err, List, [], ◌∷◌, length, refl}
use Rattle.std.proofs.Common.{ap, sym, arith}
use Rattle.self_grammar.specs.declared.pieces.Item.{Item}
use Rattle.world_build.specs.declared.refusals.BuildRefusal.{BuildRefusal}
use Rattle.world_build.specs.declared.loading.Loading.{Loading}
use Rattle.world_build.specs.Names.{core_names}
use Rattle.world_build.specs.Loading.{begun}
use Rattle.world_build.specs.Nodes.{take_item}
use Rattle.world_build.specs.Nodes
use Rattle.world_build.specs.Steps.{IsWithin}
use Rattle.world_build.specs.Worlds.{World}
use Rattle.world_build.specs.Worlds
use Rattle.world_build.proofs.Room.{within_begun, within_more}

ok_bound : (r : Result Loading BuildRefusal) (f : Loading → Result Loading BuildRefusal) (t : Loading) → Nodes.bound r f ≡ Ok t → (u : Loading) × (r ≡ Ok u) × (f u ≡ Ok t)
ok_bound (Ok u) f t e = (u, refl, e)
ok_bound (Err r) f t e = cc

ok_same : (s u : Loading) → ◌≡◌ {A = Result Loading BuildRefusal} (Ok s) (Ok u) → s ≡ u
ok_same s u e = cc

loaded_names : (n : ℕ) (bytes : List ℕ) (is : List Item) (s t : Loading) → IsWithin n s → Nodes.loaded bytes is s ≡ Ok t → length t.names ≤ n + length is
unfolding Nodes.loaded
loaded_names n bytes [] s t w e = let same : s ≡ t = ok_same s t e in omega (arith, w.names, ap (λ (x : Loading). length x.names) same)
loaded_names n bytes (i ∷ is) s t w e =
    let a = ok_bound (take_item bytes i is s) (λ u. Nodes.loaded bytes is u) t e in
    omega (arith, loaded_names (n + 1) bytes is a.0 t (within_more n bytes i is s a.0 w a.1) a.2)

world_same : (a b : World) → ◌≡◌ {A = Result World BuildRefusal} (Ok a) (Ok b) → a ≡ b
world_same a b e = cc

finished_names : (r : Result Loading BuildRefusal) (w : World) → Worlds.finished r ≡ Ok w → (t : Loading) × (r ≡ Ok t) × (w.names ≡ t.names)
finished_names (Err r) w e = cc
finished_names (Ok t) w e = (t, refl, same (Worlds.cores t core_names) e)
  where
    same : (c : Result (List ℕ) BuildRefusal) → Worlds.world_of t c ≡ Ok w → w.names ≡ t.names
    same (Err q) e = cc
    same (Ok core) e = ap (λ (x : World). x.names) (sym (world_same _ w e))

-- no more than eight beside those before it, and one an item
pub few_names : (names : List (List ℕ)) (bytes : List ℕ) (is : List Item) (w : World) → length is + length names ≤ 20000000 → Worlds.built names bytes is ≡ Ok w → length w.names ≤ 450000000
few_names names bytes is w h e =
    let t = finished_names (Nodes.loaded bytes is (begun names)) w e in
    omega (arith, h, ap length t.2, loaded_names (length names + 8) bytes is (begun names) t.0 (within_begun (length names + 8) names (omega arith)) t.1)
