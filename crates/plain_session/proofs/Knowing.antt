-- What a session knows of the language.
use Rattle.std.proofs.Common.{◌≡◌, ℕ, suc, ◌+◌, refl, ◌∙◌, ap, sym, subst, arith}
use Rattle.std.specs.Prelude.{◌≤◌, List, [], ◌∷◌, length, get_or, slice_get, codes}
use Rattle.std.proofs.lemmas.Option.{slice_get-get_or}
use Rattle.source_model.specs.declared.objects.Core.{Core}
use Rattle.source_model.specs.declared.objects.Thing.{Thing}
use Rattle.source_model.specs.Names.{number_of}
use Rattle.source_model.specs.State.{State}
use Rattle.raw_steps.specs.Fixed.{IsFixed}
use Rattle.sparc_store.specs.Words.{Words}
use Rattle.plain_words.specs.declared.references.References.{References}
use Rattle.plain_runs.specs.Host.{Host}
use Rattle.plain_host.specs.Opened.{opened_host}
use Rattle.plain_core.specs.Language.{Language, IsSpoken, KnowsCore}
use Rattle.plain_session.specs.Stacks.{AreShort}
use Rattle.world_build.specs.Wholeness.{IsWhole}
use Rattle.world_build.specs.Worlds.{World}
use Rattle.world_heap.specs.Heaps.{places, references_from}
use Rattle.world_heap.specs.Images.{Image}

-- a state with the same names, core objects and fixed strings is one of the session too
pub still_spoken : (l : Language) (s t : State) → IsFixed s t → IsSpoken l s → IsSpoken l t
still_spoken l s t f k = record {
  names = f.names ∙ k.names;
  core = f.core ∙ k.core;
  fixed = f.fixed ∙ k.fixed;
  failure = ap (λ ns. number_of ns (codes "value:With:")) f.names ∙ k.failure;
}

-- The names of bodies are short as long as they stay.
pub still_short : (s t : State) → IsFixed s t → AreShort s.names s.bodies → AreShort t.names t.bodies
still_short s t f short = subst (λ bs. AreShort t.names bs) (sym f.bodies) (subst (λ ns. AreShort ns s.bodies) (sym f.names) short)

-- Units know the words of the core objects and of the fixed strings as long as the references stay.
pub still_known : (h to : Host) (l : Language) → to.references ≡ h.references → KnowsCore h l → KnowsCore to l
still_known h to l same k = let strings = k.strings in record {
  words = k.words;
  core = record {
    nil = k.core.nil ∙ ap (λ (r : References). r.nil) (sym same);
    yes = ap (λ (r : References). slice_get r.objects l.core.yes) same ∙ k.core.yes;
    no = ap (λ (r : References). slice_get r.objects l.core.no) same ∙ k.core.no;
  };
  strings = subst (λ (r : References). l.fixed + 26 ≤ length r.objects) (sym same) strings;
}

-- In the host of a world they do.

as_many : (w : World) (k : ℕ) (xs : List Thing) → length (references_from w k xs) ≡ length xs
as_many w k [] = refl
as_many w k (x ∷ xs) = ap suc (as_many w (k + 1) xs)

opened_known : (i : Image) (memory : Words) (l : Language) → l.core ≡ i.world.core → l.fixed ≡ i.world.objects → IsWhole i.world → i.world.objects + 26 ≤ length i.world.things → KnowsCore (opened_host i memory) l
opened_known i memory l same first whole fixed =
    let all = as_many i.world 0 i.world.things in
    let yes = whole.core.yes in
    let no = whole.core.no in
    let objects = (places i.world).objects in record {
      words = record { nil = (opened_host i memory).references.nil; yes = get_or objects i.world.core.yes 0; no = get_or objects i.world.core.no 0 };
      core = record {
        nil = refl;
        yes = ap (λ (c : Core). slice_get objects c.yes) same ∙ slice_get-get_or objects i.world.core.yes 0 (omega (arith, all, yes));
        no = ap (λ (c : Core). slice_get objects c.no) same ∙ slice_get-get_or objects i.world.core.no 0 (omega (arith, all, no));
      };
      strings = omega (arith, all, first, fixed);
    }

pub begins_known : (h : Host) (i : Image) (l : Language) → h ≡ opened_host i h.machine.memory → IsWhole i.world → l.core ≡ i.world.core → l.fixed ≡ i.world.objects → i.world.objects + 26 ≤ length i.world.things → KnowsCore h l
begins_known h i l is whole same first fixed =
    still_known (opened_host i h.machine.memory) h l (ap (λ (x : Host). x.references) is) (opened_known i h.machine.memory l same first whole fixed)
