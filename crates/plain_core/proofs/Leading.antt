-- How machine and host come about between commands.
use Rattle.std.proofs.Common.{◌≡◌, ℕ, ◌+◌, ◌-◌, ◌≤◌, List, [], ◌∙◌, ap, sym, subst, arith}
use Rattle.std.specs.Prelude.{Some, Option, length, slice_get}
use Rattle.self_terms.specs.declared.values.BodyId.{BodyId}
use Rattle.self_terms.specs.declared.values.Value.TheVariants as values
use Rattle.object_maps.specs.declared.maps.SlotKind.TheVariants.{Method as MethodKind}
use Rattle.slot_lookup.specs.Lookup.{found_from}
use Rattle.slot_lookup.specs.declared.sends.Found.TheVariants.{One}
use Rattle.sparc_store.specs.Words.{Words}
use Rattle.sparc_machine.specs.State.{IsWhole}
use Rattle.source_model.specs.Soundness.{body_in}
use Rattle.source_model.specs.State.{State}
use Rattle.plain_words.specs.Going.{At}
use Rattle.plain_words.specs.Putting.{Apart}
use Rattle.plain_words.specs.Units.{unit_code}
use Rattle.plain_runs.specs.Host.{Host}
use Rattle.plain_runs.specs.Services.{next_unit, with_unit}
use Rattle.plain_lookups.proofs.Looking.{memories_agree}
use Rattle.plain_units.specs.Putting.{IsPut}
use Rattle.plain_units.proofs.Passing.{above}
use Rattle.plain_units.proofs.Points.{heap_same}
use Rattle.plain_turns.specs.Resting.{Rests}
use Rattle.plain_births.specs.Births.{born}
use Rattle.plain_births.specs.Meeting.{lobby_finds}
use Rattle.plain_births.proofs.Units.{units_rest}
use Rattle.plain_core.specs.Language.{Language}
use Rattle.plain_core.specs.Leading.{Leads, Stays, Runs, Puts, Begins, Switches, Flushes}
use Rattle.plain_core.specs.Running.{HasRunOn}
use Rattle.plain_core.specs.Spawning.{IsReady}
use Rattle.plain_core.specs.declared.running.Counts.{Counts}
use Rattle.plain_core.proofs.Births.{IsFound, is_put}

pub counted_as : (h to : Host) (i j v w : ℕ) → i ≡ j → v ≡ w → Leads h i v to → Leads h j w to
counted_as h to i j v w e f r = subst (λ (k : ℕ). Leads h k w to) e (subst (λ (k : ℕ). Leads h i k to) f r)

-- one after the other
pub leads_on : (a b c : Host) (i v j w : ℕ) → Leads a i v b → Leads b j w c → Leads a (i + j) (v + w) c
leads_on a b c i v j w first Stays = counted_as a b i (i + 0) v (v + 0) (omega arith) (omega arith) first
leads_on a b c i v j w first (Runs k u more served g to before reached) =
    counted_as a to ((i + k) + more) (i + (k + more)) ((v + u) + served) (v + (u + served)) (omega arith) (omega arith) (Runs (i + k) (v + u) more served g to (leads_on a b g i v k u first before) reached)
leads_on a b c i v j w first (Puts k u g x memory before put) = Puts (i + k) (v + u) g x memory (leads_on a b g i v k u first before) put
leads_on a b c i v j w first (Begins k u g room lobby holder at name x before far is found unit some) = Begins (i + k) (v + u) g room lobby holder at name x (leads_on a b g i v k u first before) far is found unit some
leads_on a b c i v j w first (Switches k u g x before there) = Switches (i + k) (v + u) g x (leads_on a b g i v k u first before) there
leads_on a b c i v j w first (Flushes k u g before can) = Flushes (i + k) (v + u) g (leads_on a b g i v k u first before) can

-- A run.
pub run_leads : (n : ℕ) (c : Counts) (l : Language) (h to : Host) (old new : Option (List ℕ)) → HasRunOn n c l h to old new → Leads h c.instructions c.services to
run_leads n c l h to old new ran =
    counted_as h to (0 + c.instructions) c.instructions (0 + c.services) c.services (omega arith) (omega arith) (Runs 0 0 c.instructions c.services h to Stays ran.reached)

-- The lobby's lookup reads no words that a unit changes.
module _ (h : Host) (s : State) (c : ℕ) (memory : Words) (r : Rests h s) (put : IsPut h c memory) where
  found_same : (lobby name room : ℕ) → slice_get h.references.objects 0 ≡ Some lobby → lobby_finds room (with_unit c memory h) lobby name ≡ lobby_finds room h lobby name
  found_same lobby name room is =
      let x = (units_rest h s c memory r put).rests in
      let heap = heap_same h.machine.memory memory r.sound.hosted.within put.within (above h c memory put) in
      (memories_agree x.sense (with_unit c memory h) s x.sound.stands (values.Object 0) lobby (x.sound.stands.objects 0 lobby is)).from room name
      ∙ ap (λ (q : List ℕ). found_from h.maps (record { code = []; heap = q; control = []; stacks = [] }) room lobby name) heap
      ∙ sym ((memories_agree r.sense h s r.sound.stands (values.Object 0) lobby (r.sound.stands.objects 0 lobby is)).from room name)

-- The unit was put.
module _ (h mid : Host) (s : State) (c : BodyId) (r : Rests h s) (m : IsFound h c) (none : slice_get h.entries (c.0 - 1) ≡ Some 0) where
  module _ (is : mid ≡ with_unit c.0 mid.machine.memory h) (code : At mid.machine.memory (next_unit h) (unit_code h.references (body_in h.bodies c.0))) (apart : Apart h.machine.memory mid.machine.memory (next_unit h) (length (unit_code h.references (body_in h.bodies c.0)))) (whole : IsWhole mid.machine) where
    put : IsPut h c.0 mid.machine.memory
    put = is_put h mid s c r m none code apart whole

    pub put_leads : Leads h 0 0 mid
    put_leads =
        let P : Host → Type 0 = λ y. Leads h 0 0 y in
        subst P (sym is) (Puts 0 0 h c.0 mid.machine.memory Stays put)

    pub put_finds : (room lobby name holder : ℕ) → slice_get h.references.objects 0 ≡ Some lobby → lobby_finds room h lobby name ≡ One holder (MethodKind c) → lobby_finds room mid lobby name ≡ One holder (MethodKind c)
    put_finds room lobby name holder known found =
        ap (λ (y : Host). lobby_finds room y lobby name) is ∙ found_same h s c.0 mid.machine.memory r put lobby name room known ∙ found

-- The activity begins.
pub begin_leads : (h mid to : Host) (lobby room name holder at : ℕ) (c : BodyId) → slice_get h.references.objects 0 ≡ Some lobby → h.next ≤ room → IsReady h mid c.0 at → Leads h 0 0 mid → lobby_finds room mid lobby name ≡ One holder (MethodKind c)
    → to ≡ born c.0 at lobby holder mid → Leads h 0 0 to
begin_leads h mid to lobby room name holder at c is far ready led finds begun =
    let P : Host → Type 0 = λ y. Leads h 0 0 y in
    let known : slice_get mid.references.objects 0 ≡ Some lobby = ap (λ y. slice_get y.objects 0) ready.references ∙ is in
    let still : mid.next ≤ room = omega (arith, ready.objects, far) in
    subst P (sym begun) (Begins 0 0 mid room lobby holder at name c led still known finds ready.unit ready.some)
