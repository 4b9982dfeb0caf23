-- A string that is written back changes nothing.
use Rattle.std.proofs.Common.{◌≡◌, ℕ, ◌<◌, List, length, get_or, set, refl, sym, ap, ◌∙◌}
use Rattle.std.specs.Prelude.{Some, slice_get}
use Rattle.std.proofs.lemmas.Option.{slice_get_read}
use Rattle.std.proofs.lemmas.List.{set-get_or}
use Rattle.world_build.specs.declared.slots.ToldSlot.{ToldSlot}
use Rattle.world_build.specs.declared.things.ToldThing.{ToldThing}
use Rattle.world_build.specs.declared.things.ToldThing.TheVariants.{Text as string}
use Rattle.world_build.specs.Things.{change_thing}

pub string_kept : (things now : List ToldThing) (o : ℕ) (x : ToldThing) (t : List ℕ) (slot : ToldSlot)
    → things ≡ now → o < length things → x ≡ get_or things o x → x ≡ string t
    → set things o x ≡ change_thing slot (slice_get now o) now o
string_kept things now o x t slot e h r s =
    let kept : set things o x ≡ things = ap (set things o) r ∙ set-get_or things o x in
    rw (← e) (rw (slice_get_read things (length things) o x refl h r) (kept ∙ sym (ap (λ (y : ToldThing). change_thing slot (Some y) things o) s)))
