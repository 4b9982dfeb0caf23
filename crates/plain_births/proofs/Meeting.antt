-- What the host's lookup from the lobby tells.
use Rattle.std.proofs.Common.{◌≡◌, ℕ, zero, suc, ◌-◌, ◌<◌, ◌≤◌, refl, ◌∙◌, ap, sym, subst, arith, inl, inr}
use Rattle.std.specs.Prelude.{◌⊎◌, nat_lt, List, [], ◌∷◌, length, Option, Some, None, slice_get, codes}
use Rattle.std.proofs.lemmas.Bool.{cond-true, cond-false, lt-ltb, le-ltb}
use Rattle.std.proofs.lemmas.Option.{same_Some, none-some}
use Rattle.self_terms.specs.declared.errors.ErrorName.TheVariants as errors
use Rattle.self_terms.specs.declared.values.BodyId.{BodyId}
use Rattle.self_terms.specs.declared.values.Value.TheVariants as values
use Rattle.object_maps.specs.declared.maps.SlotKind.TheVariants.{Constant as ConstantKind, Parent as ParentKind, Field, Assign, Method as MethodKind}
use Rattle.slot_lookup.specs.declared.sends.Found.{Found}
use Rattle.slot_lookup.specs.declared.sends.Found.TheVariants.{NotUnderstood, One, Ambiguous}
use Rattle.source_model.specs.declared.objects.Content.TheVariants.{Method}
use Rattle.source_model.specs.Formed.{arity, IsFormed}
use Rattle.source_model.specs.Messages.{Met, Holds}
use Rattle.source_model.specs.Script.{Spawn, refused, spawn_met, command}
use Rattle.source_model.specs.Soundness.{body_in, HasBody}
use Rattle.source_model.specs.State.{State, Reached}
use Rattle.source_model.proofs.Accepting.{MetFits, meets_fit}
use Rattle.source_model.proofs.Naming.{named_back}
use Rattle.plain_runs.specs.Host.{Host}
use Rattle.plain_sends.specs.Sends.{IsData, OfConstant, OfField, OfParent}
use Rattle.plain_answers.specs.Found.{IsMethod}
use Rattle.plain_begins.proofs.Starting.{activities_agree}
use Rattle.plain_lookups.specs.Telling.{IsEvaluated, FoundTells}
use Rattle.plain_lookups.proofs.Telling.{values_told, may}
use Rattle.plain_turns.specs.Resting.{Rests}
use Rattle.plain_births.specs.Meeting.{message, lobby_meets, lobby_finds, refusal, IsLobbyMethod, BirthsMeet, FourAreMost}

-- The command.

-- there are as many activities as the state has
pub as_many : (h : Host) (s : State) → Rests h s → length h.statuses ≡ length s.activities
as_many h s r = activities_agree r.sense h s r.sound.stands

-- with fewer than four it does what the message meets
pub spawns : (h : Host) (q : Reached) (text : List ℕ) (stop : ℕ) → Rests h q.state → length h.statuses < 4 → command (Spawn text) stop q ≡ spawn_met (lobby_meets q.state text) q
unfolding command
spawns h q text stop r few = cond-true (nat_lt (length q.state.activities) 4) _ _ (lt-ltb (length q.state.activities) 4 (omega (arith, as_many h q.state r, few)))

pub four_are_most : FourAreMost
unfolding command
four_are_most h q text stop r many = cond-false (nat_lt (length q.state.activities) 4) _ _ (le-ltb (length q.state.activities) 4 (omega (arith, as_many h q.state r, many)))

-- What a method is.

-- one that the lobby's message meets is there, and takes as many arguments as the text
pub record Fits (s : State) (text : List ℕ) (c : BodyId) : Type 0 where
  pub given : HasBody s.bodies c.0
  pub arguments : arity text ≡ length (body_in s.bodies c.0).arguments

fits_by : (home : ℕ → ℕ) (s : State) (formed : IsFormed home s) (text : List ℕ) (o : ℕ) (c : BodyId) → MetFits home s formed (values.Object 0) (message s text) (Holds o (Method c)) → Fits s text c
fits_by home s formed text o c (inl e) = record { given = e.1.0; arguments = ap arity (sym (named_back s.names text e.1.1.text e.1.1.given)) ∙ e.1.1.arguments }
fits_by home s formed text o c (inr e) = absurd e.1

pub method_fits : (z : _) (h : Host) (s : State) (text : List ℕ) (holder : ℕ) (c : BodyId) → Rests h s → IsMethod z s (lobby_meets s text) holder c → Fits s text c
method_fits z h s text holder c r m =
    let home = r.formed.0 in
    let P : Met → Type 0 = MetFits home s r.formed.1 (values.Object 0) (message s text) in
    fits_by home s r.formed.1 text m.object c (subst P m.met_is (meets_fit home s r.formed.1 (values.Object 0) (message s text)))

-- a body's entry
entry_there : (xs : List ℕ) (k : ℕ) → slice_get xs k ≡ None → length xs ≤ k
entry_there [] k e = omega arith
entry_there (y ∷ ys) zero e = absurd (cc)
entry_there (y ∷ ys) (suc k) e = omega (arith, entry_there ys k e)

-- What was found.

-- data is no method
data_refused : (q : Reached) (z : _) (met : Met) (word : ℕ) → IsData z met word → spawn_met met q ≡ refused (codes "not a method") q
data_refused q z met word (OfConstant o v is value) = ap (λ m. spawn_met m q) is
data_refused q z met word (OfField o v is value) = ap (λ m. spawn_met m q) is
data_refused q z met word (OfParent o p is there) = ap (λ m. spawn_met m q) is

same_why : (q : Reached) (a why : List ℕ) → Some a ≡ Some why → refused a q ≡ refused why q
same_why q a why e = ap (λ x. refused x q) (same_Some a why e)

module _ (h : Host) (q : Reached) (text : List ℕ) (lobby : ℕ) (r : Rests h q.state) where
  abbrev s : State
  s = q.state

  abbrev Told : Found → Type 0
  Told found = FoundTells r.sense h s h.machine.memory (Some (values.Object 0)) lobby (message s text) found (lobby_meets s text)

  met_refused : (found : Found) → Told found → (why : List ℕ) → refusal found ≡ Some why → spawn_met (lobby_meets s text) q ≡ refused why q
  met_refused NotUnderstood t why e = ap (λ m. spawn_met m q) (t.missing errors.NotUnderstood refl) ∙ same_why q _ why e
  met_refused (Ambiguous a b) t why e = ap (λ m. spawn_met m q) (t.missing errors.Ambiguous refl) ∙ same_why q _ why e
  met_refused (One holder (ConstantKind word)) t why e = data_refused q r.sense _ word (t.constant holder word refl) ∙ same_why q _ why e
  met_refused (One holder (ParentKind word)) t why e = data_refused q r.sense _ word (t.parent holder word refl) ∙ same_why q _ why e
  met_refused (One holder (Field place)) t why e = data_refused q r.sense _ _ (t.field holder place refl).known ∙ same_why q _ why e
  met_refused (One holder (Assign place)) t why e = ap (λ m. spawn_met m q) (t.assignment r.formed holder place refl).0.met_is ∙ same_why q _ why e
  met_refused (One holder (MethodKind c)) t why e = absurd (none-some why e)

  own_method : (holder : ℕ) (c : BodyId) → IsMethod r.sense s (lobby_meets s text) holder c ⊎ IsEvaluated r.sense s (Some (values.Object 0)) (lobby_meets s text) (message s text) holder c lobby → IsMethod r.sense s (lobby_meets s text) holder c
  own_method holder c (inl m) = m
  own_method holder c (inr x) = absurd (let e : Some (values.Object 0) ≡ Some (values.Block x.block x.maker) = x.receiver_is in cc)

  entry_at : (c : BodyId) → HasBody h.bodies c.0 → (o : Option ℕ) → slice_get h.entries (c.0 - 1) ≡ o → (at : ℕ) × (slice_get h.entries (c.0 - 1) ≡ Some at) × (at ≤ 0x12000000)
  entry_at c given None is = absurd (omega (arith, entry_there h.entries (c.0 - 1) is, r.ready.room.each, given.0, given.1))
  entry_at c given (Some zero) is = (0, is, omega arith)
  entry_at c given (Some (suc a)) is =
      let u = r.sound.hosted.units c.0 (suc a) given.0 is (λ z. absurd (omega (arith, z))) in
      (suc a, is, omega (arith, u.region.to))

  method_is : (holder : ℕ) (c : BodyId) → IsMethod r.sense s (lobby_meets s text) holder c → IsLobbyMethod h s r text holder c
  method_is holder c m =
      let f = method_fits r.sense h s text holder c r m in
      let bodies = r.sound.stands.bodies in
      let given : HasBody h.bodies c.0 = subst (λ bs. HasBody bs c.0) (sym bodies) f.given in
      let at = entry_at c given (slice_get h.entries (c.0 - 1)) refl in
      record {
        met = m;
        given = given;
        translates = (r.sound.runs c.0).translates;
        entry = at.0;
        entry_is = at.1;
        low = at.2;
        arguments = λ none. ap (λ bs. length (body_in bs c.0).arguments) bodies ∙ sym f.arguments ∙ none;
      }

pub births_meet : BirthsMeet
births_meet h q text lobby room r is far =
    let z = r.sense in
    let s = q.state in
    let f = r.sound.stands in
    let there : slice_get z.places.objects 0 ≡ Some lobby = f.objects 0 lobby is in
    let many : h.next ≡ length s.things = f.stands.heap.numbered in
    let enough : length s.things ≤ room = omega (arith, many, far) in
    let told = values_told z h s f (values.Object 0) lobby (message s text) room there enough in
    record {
      may = may z h s f h.machine.memory (values.Object 0) lobby room refl there enough;
      missing = told.missing;
      method = λ holder c e. method_is h q text lobby r holder c (own_method h q text lobby r holder c (told.method holder c e));
      refuses = λ why e few stop. spawns h q text stop r few ∙ met_refused h q text lobby r (lobby_finds room h lobby (message s text)) told why e;
    }
