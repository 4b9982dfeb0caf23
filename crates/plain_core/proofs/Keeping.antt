-- What services leave as it was.
use Rattle.std.proofs.Common.{◌≡◌, ℕ, ◌+◌, ◌-◌, ◌≤◌, refl, ◌∙◌, ap, sym, subst}
use Rattle.std.specs.Prelude.{Bool, true, false, nat_lt, if◌then◌else◌, slice_get, length}
use Rattle.plain_words.specs.declared.references.References.{References}
use Rattle.plain_runs.specs.Host.{Host}
use Rattle.plain_runs.specs.Services.{settled}
use Rattle.plain_unwinds.specs.Services.{written, unmarked, ended_older, home_at, returns_to, answers_from_home, unwinds}
use Rattle.sparc_store.specs.Windows.{saved_at}
use Rattle.slot_lookup.specs.declared.sends.Found.{Found}
use Rattle.plain_turns.specs.Asking.{found_here}
use Rattle.plain_turns.specs.Events.{Meets, Answers, Assigns, Calls, Puts, Misses, Refuses, Serves, Begins, Waits, Sends, Performs, Fails, Lacks, Exceeds, Hands, Returns, Fills, Ends, Reaches, Here, Steps, Services}
use Rattle.plain_turns.specs.Handlers.{handed, found_there}
use Rattle.plain_core.specs.Language.{Language, KnowsCore}
use Rattle.plain_core.specs.Turning.{Went}

-- A return from a home method changes machine, statuses and sums alone.
record Keeps (h to : Host) : Type 0 where
  references : to.references ≡ h.references
  entries : to.entries ≡ h.entries
  objects : to.next ≡ h.next
  current : to.current ≡ h.current

either : (h one other : Host) (b : Bool) → Keeps h one → Keeps h other → Keeps h (if b then one else other)
either h one other true k l = k
either h one other false k l = l

kept : (goal cost : ℕ) (h : Host) → Keeps h (unwinds goal cost h)
kept goal cost h =
    let w = written h in
    let ended = ended_older w + 1 in
    let home = saved_at w.machine.memory (home_at w) in
    let s = settled goal cost (unmarked ended w) in
    either h (returns_to (home 14) (home 15 + 8) (w.machine.regs 4 - ended) s) (answers_from_home s) (nat_lt ended (w.machine.regs 4)) (record { references = refl; entries = refl; objects = refl; current = refl }) (record { references = refl; entries = refl; objects = refl; current = refl })

pub unwound_entries : (goal cost : ℕ) (h : Host) → (unwinds goal cost h).entries ≡ h.entries
unwound_entries goal cost h = (kept goal cost h).entries

pub unwound_objects : (goal cost : ℕ) (h : Host) → (unwinds goal cost h).next ≡ h.next
unwound_objects goal cost h = (kept goal cost h).objects

pub unwound_current : (goal cost : ℕ) (h : Host) → (unwinds goal cost h).current ≡ h.current
unwound_current goal cost h = (kept goal cost h).current

met_keeps : (h : Host) (found : Found) (to : Host) → Meets h found to → to.references ≡ h.references
met_keeps h found to (Answers goal cost word is) = refl
met_keeps h found to (Assigns goal cost holder place is) = refl
met_keeps h found to (Calls goal cost holder at c is entry through) = refl
met_keeps h found to (Puts goal cost holder back c memory is put) = refl
met_keeps h found to (Misses goal cost e is) = refl
met_keeps h found to (Refuses goal cost holder c e is refused) = refl

pub serves_keep : (h to : Host) → Serves h to → to.references ≡ h.references
serves_keep h to (Begins goal cost) = refl
serves_keep h to (Waits trap goal cost) = refl
serves_keep h to (Sends trap room next fits met) = met_keeps h (found_here room h) to met
serves_keep h to (Performs trap goal cost name args implied handler p core memory heap words word node costs was) = refl
serves_keep h to (Fails trap goal cost name args implied p core memory heap e node was) = refl
serves_keep h to (Lacks trap goal cost name args implied node) = refl
serves_keep h to (Exceeds trap goal cost p words costs full) = refl
serves_keep h to (Hands trap room message name args implied error primitive next fits node met) = met_keeps (handed args error primitive h) (found_there room message (handed args error primitive h)) to met
serves_keep h to (Returns trap goal cost) = (kept goal cost h).references
serves_keep h to (Fills trap goal cost) = refl
serves_keep h to (Ends trap goal cost) = refl

pub reaches_keep : (h to : Host) (i v : ℕ) → Reaches h i v to → to.references ≡ h.references
reaches_keep h to i v Here = refl
reaches_keep h to i v (Steps k u n g m before goes) = reaches_keep h g k u before
reaches_keep h to i v (Services k u g next before serves) = serves_keep g next serves ∙ reaches_keep h g k u before

pub went_keep : (h to : Host) (n : ℕ) → Went h to n → to.references ≡ h.references
went_keep h to n w = ap (λ (y : Host). y.references) w.is

pub known_keeps : (h to : Host) (l : Language) → to.references ≡ h.references → KnowsCore h l → KnowsCore to l
known_keeps h to l e k =
    let known = k.core in
    record {
      words = k.words;
      core = record {
        nil = known.nil ∙ ap (λ (r : References). r.nil) (sym e);
        yes = ap (λ (r : References). slice_get r.objects l.core.yes) e ∙ known.yes;
        no = ap (λ (r : References). slice_get r.objects l.core.no) e ∙ known.no;
      };
      strings = subst (λ (r : References). l.fixed + 26 ≤ length r.objects) (sym e) k.strings;
    }
