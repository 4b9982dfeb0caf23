-- What the locals of a body hold at first.
use Rattle.std.proofs.Common.{◌≡◌, ℕ, suc, refl, subst}
use Rattle.std.specs.Prelude.{List, [], ◌∷◌, map, length, Some, slice_get}
use Rattle.std.proofs.lemmas.Option.{slice_get-get_or}
use Rattle.self_terms.specs.declared.bodies.Body.{Body}
use Rattle.self_terms.specs.declared.bodies.Local.{Local}
use Rattle.self_terms.specs.declared.values.Datum.{Datum}
use Rattle.self_terms.specs.declared.values.Datum.TheVariants as datum
use Rattle.source_model.specs.Messages.{value_of}
use Rattle.source_model.specs.Soundness.{body_in}
use Rattle.source_model.specs.State.{State}
use Rattle.heap_cells.specs.Standing.{IsValue, AreValues}
use Rattle.raw_steps.specs.Sends.{initials}
use Rattle.raw_steps.specs.Stands.{Sense}
use Rattle.plain_words.specs.Translating.{IsSmallDatum}
use Rattle.plain_words.specs.Units.{object_word, datum_word, initial_words}
use Rattle.plain_runs.specs.Host.{Host}
use Rattle.plain_runs.specs.Sound.{HoldsObject}
use Rattle.plain_runs.specs.Course.{AllRun}
use Rattle.plain_steps.specs.Steps.{StandsFor}

datum_is : (z : Sense) (h : Host) (s : State) → StandsFor z h s → (d : Datum) → IsSmallDatum d → HoldsObject (length h.references.objects) d → IsValue z.cells z.places (value_of s.core d) (datum_word h.references d)
datum_is z h s f (datum.Integer i) small holds = (small, refl)
datum_is z h s f (datum.Object o) small holds = f.objects o (object_word h.references o) (slice_get-get_or h.references.objects o 0 holds)
datum_is z h s f datum.Nil small holds = f.nil

data_are : (z : Sense) (h : Host) (s : State) → StandsFor z h s → (xs : List Local) → ((k : ℕ) (x : Local) → slice_get xs k ≡ Some x → IsSmallDatum x.initial)
    → ((k : ℕ) (x : Local) → slice_get xs k ≡ Some x → HoldsObject (length h.references.objects) x.initial)
    → AreValues z.cells z.places (map (λ x. value_of s.core x.initial) xs) (map (λ x. datum_word h.references x.initial) xs)
data_are z h s f [] small holds = tt
data_are z h s f (x ∷ xs) small holds = (datum_is z h s f x.initial (small 0 x refl) (holds 0 x refl), data_are z h s f xs (λ k y e. small (suc k) y e) (λ k y e. holds (suc k) y e))

-- their words in a unit stand for them
pub initials_are : (z : Sense) (h : Host) (s : State) → StandsFor z h s → AllRun h → (c : ℕ) → AreValues z.cells z.places (initials s c) (initial_words h.references (body_in h.bodies c))
initials_are z h s f run c =
    let x = body_in h.bodies c in
    let P : List Body → Type 0 = λ bs. AreValues z.cells z.places (map (λ y. value_of s.core y.initial) (body_in bs c).locals) (initial_words h.references x) in
    subst P f.bodies (data_are z h s f x.locals (run c).translates.initial (run c).holds)
