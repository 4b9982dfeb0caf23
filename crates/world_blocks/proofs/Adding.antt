-- The maps and numbers of blocks, body by body; and the numbers of the messages that evaluate blocks.
use Rattle.std.proofs.Common.{◌≡◌, refl, sym, ap, ◌∙◌, ℕ, zero, suc, ◌+◌, ◌<◌, ◌≤◌, List, [], ◌∷◌, ◌++◌, length, drop, arith, length-append}
use Rattle.std.specs.Prelude.{Option, None, Some, slice_get, slice_index}
use Rattle.std.proofs.lemmas.List.{append_assoc}
use Rattle.std.proofs.lemmas.Option.{none-some, same_Some}
use Rattle.self_terms.specs.declared.bodies.Body.{Body}
use Rattle.object_maps.specs.Slots.{Slots}
use Rattle.source_model.specs.Names.{number_of, evaluator}
use Rattle.world_build.specs.Known.{IsNumber}
use Rattle.world_build.specs.Worlds.{World}
use Rattle.world_build.proofs.NameLemmas.{number_kept}
use Rattle.self_terms.specs.Names.{with_text}
use Rattle.world_blocks.specs.Sessions.{own_block_map, block_maps, own_number, number_behind, numbers_from}
use Rattle.world_blocks.specs.Steps.{AreEvaluators}

drop_got : (xs : List Body) (k : ℕ) (x : Body) → slice_get xs k ≡ Some x → drop k xs ≡ x ∷ drop (suc k) xs
drop_got [] k x is = absurd (none-some x is)
drop_got (y ∷ xs) zero x is = ap (λ (z : Body). z ∷ xs) (same_Some y x is)
drop_got (y ∷ xs) (suc k) x is = drop_got xs k x is

append_nil : {A : Type 0} (xs : List A) → xs ++ [] ≡ xs
append_nil [] = refl
append_nil (x ∷ xs) = ap (λ ys. x ∷ ys) (append_nil xs)

-- those of the bodies in front of one were added
pub record AreAdded (names : List (List ℕ)) (traits : ℕ) (bodies : List Body) (before maps : List Slots) (numbers : List ℕ) (k : ℕ) : Type 0 where
  pub maps_are : maps ++ block_maps names traits (k + 1) (drop k bodies) ≡ before ++ block_maps names traits 1 bodies
  pub numbers_are : numbers ++ numbers_from (length maps) (drop k bodies) ≡ numbers_from (length before) bodies
  pub few : length maps ≤ length before + k

count_behind : (names : List (List ℕ)) (traits b : ℕ) (x : Body) (o : Option ℕ) (maps : List Slots) → length (maps ++ own_block_map names traits b x o) ≡ number_behind (length maps) o
count_behind names traits b x None maps = ap length (append_nil maps)
count_behind names traits b x (Some outer) maps = length-append maps _

count_few : (names : List (List ℕ)) (traits b : ℕ) (x : Body) (o : Option ℕ) (maps : List Slots) → length (maps ++ own_block_map names traits b x o) ≤ length maps + 1
count_few names traits b x None maps = let e = ap length (append_nil maps) in omega arith
count_few names traits b x (Some outer) maps = let e = count_behind names traits b x (Some outer) maps in omega arith

pub one_added : (names : List (List ℕ)) (traits : ℕ) (bodies : List Body) (before maps new : List Slots) (numbers more : List ℕ) (k number : ℕ) (x : Body) → slice_get bodies k ≡ Some x
    → new ≡ maps ++ own_block_map names traits (k + 1) x x.outer → number ≡ own_number (length maps) x.outer → more ≡ numbers ++ number ∷ []
    → AreAdded names traits bodies before maps numbers k → AreAdded names traits bodies before new more (k + 1)
one_added names traits bodies before maps new numbers more k number x is e f g was =
    let next : suc k ≡ k + 1 = omega arith in
    let rest : drop k bodies ≡ x ∷ drop (k + 1) bodies = drop_got bodies k x is ∙ ap (λ (n : ℕ). x ∷ drop n bodies) next in
    let count : length new ≡ number_behind (length maps) x.outer = ap length e ∙ count_behind names traits (k + 1) x x.outer maps in
    record {
      maps_are =
          ap (λ (q : List Slots). q ++ block_maps names traits (k + 1 + 1) (drop (k + 1) bodies)) e
          ∙ append_assoc maps (own_block_map names traits (k + 1) x x.outer) (block_maps names traits (k + 1 + 1) (drop (k + 1) bodies))
          ∙ ap (λ (q : List Body). maps ++ block_maps names traits (k + 1) q) (sym rest)
          ∙ was.maps_are;
      numbers_are =
          ap (λ (q : List ℕ). q ++ numbers_from (length new) (drop (k + 1) bodies)) g
          ∙ append_assoc numbers (number ∷ []) (numbers_from (length new) (drop (k + 1) bodies))
          ∙ ap (λ (m : ℕ). numbers ++ m ∷ numbers_from (length new) (drop (k + 1) bodies)) f
          ∙ ap (λ (m : ℕ). numbers ++ own_number (length maps) x.outer ∷ numbers_from m (drop (k + 1) bodies)) count
          ∙ ap (λ (q : List Body). numbers ++ numbers_from (length maps) q) (sym rest)
          ∙ was.numbers_are;
      few = let a = was.few in let b = count_few names traits (k + 1) x x.outer maps in let c = ap length e in omega arith;
    }

-- six numbers of messages
pub evaluators_are : (names : List (List ℕ)) (a b c d e f : ℕ) → IsNumber names (evaluator 0) a → IsNumber names (evaluator 1) b → IsNumber names (evaluator 2) c → IsNumber names (evaluator 3) d → IsNumber names (evaluator 4) e → IsNumber names (evaluator 5) f
    → AreEvaluators names (a ∷ b ∷ c ∷ d ∷ e ∷ f ∷ [])
evaluators_are names a b c d e f p q r s t u = record { six = refl; number = number; given = given }
  where
    number : (k : ℕ) → k ≤ 5 → slice_index (a ∷ b ∷ c ∷ d ∷ e ∷ f ∷ []) k ≡ number_of names (evaluator k)
    number zero le = p.number
    number (suc zero) le = q.number
    number (suc (suc zero)) le = r.number
    number (suc (suc (suc zero))) le = s.number
    number (suc (suc (suc (suc zero)))) le = t.number
    number (suc (suc (suc (suc (suc zero))))) le = u.number
    number (suc (suc (suc (suc (suc (suc k)))))) le = absurd (omega arith)

    given : (k : ℕ) → k ≤ 5 → 0 < slice_index (a ∷ b ∷ c ∷ d ∷ e ∷ f ∷ []) k
    given zero le = p.given
    given (suc zero) le = q.given
    given (suc (suc zero)) le = r.given
    given (suc (suc (suc zero))) le = s.given
    given (suc (suc (suc (suc zero)))) le = t.given
    given (suc (suc (suc (suc (suc zero))))) le = u.given
    given (suc (suc (suc (suc (suc (suc k)))))) le = absurd (omega arith)

-- a world whose names are more texts has one more
pub grown_world : (first old new : World) (n : List (List ℕ)) (t u : List ℕ) → old ≡ record first { names = n } → new ≡ record old { names = with_text old.names t } → t ≡ u → new ≡ record first { names = with_text n u }
grown_world first old new n t u e f same = f ∙ ap (λ (w : World). record w { names = with_text w.names t }) e ∙ ap (λ (x : List ℕ). record first { names = with_text n x }) same

pub kept : (old new : World) (u t : List ℕ) (n : ℕ) → new ≡ record old { names = with_text old.names u } → IsNumber old.names t n → IsNumber new.names t n
kept old new u t n e is = number_kept old.names new.names u t n (ap (λ (w : World). w.names) e) is
