-- One item of an edit's text, and those behind it.
use Rattle.std.proofs.Common.{◌≡◌, ℕ, ◌+◌, ◌<◌, ◌≤◌, List, [], drop, length, get_or, refl, sym, ap, ◌∙◌, arith}
use Rattle.std.specs.Prelude.{Option, Some, None, Ok}
use Rattle.std.proofs.Math.ListN.{drop_of_length-le}
use Rattle.std.proofs.lemmas.Option.{slice_get-get_or}
use Rattle.self_terms.specs.declared.bodies.Body.{Body}
use Rattle.self_terms.specs.declared.values.Datum.TheVariants.{Object as object}
use Rattle.self_grammar.specs.declared.signs.Spot.{Spot}
use Rattle.self_grammar.specs.declared.pieces.Words.{Words}
use Rattle.self_grammar.specs.declared.pieces.SlotForm.{SlotForm}
use Rattle.self_grammar.specs.declared.pieces.SlotForm.TheVariants as form
use Rattle.self_grammar.specs.declared.pieces.Item.{Item}
use Rattle.self_grammar.specs.declared.pieces.Item.TheVariants as items
use Rattle.world_build.specs.Names.{with_words, word_number}
use Rattle.world_build.specs.Loading.{holding, with_string, with_slot, slot_ended}
use Rattle.world_build.specs.Steps.{IsWithin}
use Rattle.world_build.specs.SlotParts.{built_of}
use Rattle.world_build.specs.SlotTexts.{Told, tells, told}
use Rattle.world_build.proofs.Fronts.{drop_there}
use Rattle.world_build.proofs.ItemLemmas.{wider}
use Rattle.world_build.proofs.Room.{within_more}
use Rattle.slot_text.specs.declared.teller.Teller.{Teller}
use Rattle.slot_text.specs.Telling.{shown}

-- no slot of an edit's text has a parent that is none
module _ (names strings : List (List ℕ)) (bodies : List Body) (around : List ℕ) (waiting : List ℕ) (size : ℕ) (w : Words) (p : Spot) where
  ended : (code : Option ℕ) (f : SlotForm) → slot_ended w f p (built_of names strings bodies around code waiting size)
      ≡ Ok (with_slot (word_number names w) f (record (built_of names strings bodies around code waiting size) { names = with_words names w }))
  ended code form.Constant = refl
  ended code (form.Assignable setter) = refl
  ended code (form.Bare setter) = refl
  ended None form.Parent = refl
  ended (Some b) form.Parent = refl
  ended code form.Method = refl

-- an item adds at most one of each
pub within_tells : (n : ℕ) (bytes : List ℕ) (i : Item) (s : Teller) → IsWithin n (shown s).loading → IsWithin (n + 1) (tells bytes i (shown s)).loading
within_tells n bytes (items.Node m) s w = within_more n bytes (items.Node m) [] (shown s).loading (tells bytes (items.Node m) (shown s)).loading w refl
within_tells n bytes (items.Opened p) s w = within_more n bytes (items.Opened p) [] (shown s).loading (tells bytes (items.Opened p) (shown s)).loading w refl
within_tells n bytes items.ClosedObject s w = wider n (n + 1) (shown s).loading (omega arith) w
within_tells n bytes items.ClosedBody s w = within_more n bytes items.ClosedBody [] (shown s).loading (tells bytes items.ClosedBody (shown s)).loading w refl
within_tells n bytes (items.Integer z) s w = wider n (n + 1) (shown s).loading (omega arith) w
within_tells n bytes (items.Text i j) s w =
    let more = within_more n bytes (items.Text i j) [] (shown s).loading (holding (with_string bytes i j (shown s).loading) (object (length (shown s).loading.things))) w refl in
    record { names = more.names; things = more.things; bodies = more.bodies; size = more.size }
within_tells n bytes (items.Root m p) s w = wider n (n + 1) (shown s).loading (omega arith) w
within_tells n bytes (items.Further m p) s w = wider n (n + 1) (shown s).loading (omega arith) w
within_tells n bytes (items.Argument m) s w = within_more n bytes (items.Argument m) [] (shown s).loading (tells bytes (items.Argument m) (shown s)).loading w refl
within_tells n bytes (items.Named m) s w = within_more n bytes (items.Named m) [] (shown s).loading (tells bytes (items.Named m) (shown s)).loading w refl
within_tells n bytes (items.Slot x f p) s w =
    within_more n bytes (items.Slot x f p) [] (shown s).loading (tells bytes (items.Slot x f p) (shown s)).loading w (ended s.names s.strings s.bodies s.around s.waiting s.size x p s.code f)

pub goes_on : (bytes : List ℕ) (is : List Item) (at : ℕ) (d : Item) (t u : Told) → at < length is → u ≡ tells bytes (get_or is at d) t → told bytes (drop at is) t ≡ told bytes (drop (at + 1) is) u
goes_on bytes is at d t u h e =
    ap (λ xs. told bytes xs t) (drop_there is at (get_or is at d) (slice_get-get_or is at d h)) ∙ ap (told bytes (drop (at + 1) is)) (sym e)

pub at_end : (bytes : List ℕ) (is : List Item) (at : ℕ) (t : Told) → length is ≤ at → told bytes (drop at is) t ≡ t
at_end bytes is at t h = ap (λ xs. told bytes xs t) (drop_of_length-le is h)
