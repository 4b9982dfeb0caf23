-- The commands of a script, one after the other.
use Rattle.std.proofs.Common.{◌≡◌, ℕ, zero, suc, ◌+◌, ◌*◌, ◌<◌, ◌≤◌, refl, ◌∙◌, ap, sym, subst, arith}
use Rattle.std.specs.Prelude.{◌&&◌, Bool, true, false, ◌++◌, List, [], ◌∷◌, length, drop, Option, Some, slice_get, get_or}
use Rattle.std.specs.List.{list_all}
use Rattle.io_ports.specs.Causes.{Takes, TakesFront}
use Rattle.session_text.specs.declared.commands.Command.{Command}
use Rattle.source_model.specs.State.{Reached, silent}
use Rattle.plain_core.specs.Leading.{Stays}
use Rattle.plain_core.proofs.Leading.{counted_as, leads_on}
use Rattle.plain_session.specs.Sessions as words
use Rattle.world_build.specs.Worlds.{World}
use Rattle.self_debugger.specs.Commands.{is_served, served, all_served, transcript}
use Rattle.self_debugger.specs.Sessions.{Session, host_of, Shows}
use Rattle.self_debugger.specs.Headline.{IsLedFrom}
use Rattle.self_debugger.specs.WorldFiles.{begins}
use Rattle.self_debugger.specs.Parts.{Did, Broke, IsAmid, IsDone}
use Rattle.self_debugger.proofs.Serving.{commands_write}
use Rattle.self_debugger.proofs.Taking.{takes_both, front_of_first, front_of_both, takes_none}

-- one command in front of others
served_first : (c : Command) (rest : List Command) (r : Reached) → all_served (c ∷ rest) r ≡ all_served rest (served c r)
unfolding all_served
served_first c rest r = refl

none_left : (r : Reached) → all_served [] r ≡ r
unfolding all_served
none_left r = refl

then_led : (handed : ℕ) (w : World) (x y : Session) → IsLedFrom handed w x → words.IsLed x.plain y.plain → IsLedFrom handed w y
then_led handed w x y a d = record {
  start = a.start;
  begun = a.begun;
  idle = a.idle;
  leads =
      let both = leads_on a.start (host_of x) (host_of y) x.plain.instructions x.plain.services d.instructions d.services a.leads d.leads in
      counted_as a.start (host_of y) (x.plain.instructions + d.instructions) y.plain.instructions (x.plain.services + d.services) y.plain.services (sym d.done) (sym d.served) both;
}

module _ (handed : ℕ) (w : World) (cs : List Command) where
  pub at_first : (x : Session) (old : Option (List ℕ)) → Shows x (begins handed w) → (host_of x).statuses ≡ [] → x.plain.instructions ≡ 0 → x.plain.services ≡ 0 → IsAmid handed w cs cs x old old
  at_first x old sh idle none unserved = record {
    reached = silent (begins handed w);
    shows = sh;
    took = takes_none old;
    left_is = refl;
    led = record { start = host_of x; begun = sh.plain.rests; idle = idle; leads = counted_as (host_of x) (host_of x) 0 x.plain.instructions 0 x.plain.services (sym none) (sym unserved) Stays };
  }

  module _ (c : Command) (rest : List Command) (x y : Session) (old mid new : Option (List ℕ)) (a : IsAmid handed w cs (c ∷ rest) x old mid) where
    next_left : all_served rest (served c a.reached) ≡ all_served cs (silent (begins handed w))
    next_left = sym (served_first c rest a.reached) ∙ a.left_is

    pub amid_next : Did x y c mid new → IsAmid handed w cs rest y old new
    amid_next d =
        let o = d.obeys a.reached a.shows in
        record {
          reached = served c a.reached;
          shows = o.0;
          took = subst (λ t. Takes old new t) (sym o.1) (takes_both old mid new a.reached.out d.text a.took d.took);
          left_is = next_left;
          led = then_led handed w x y a.led d.led;
        }

    abbrev Whole : List ℕ
    Whole = transcript cs (begins handed w)

    -- what this command writes stands in front of what the others do
    whole_is : (text : List ℕ) → (served c a.reached).out ≡ a.reached.out ++ text → (more : List ℕ) × (Whole ≡ (a.reached.out ++ text) ++ more)
    whole_is text e =
        let z = commands_write rest (served c a.reached) in
        (z.0, ap (λ (r : Reached). r.out) (sym next_left) ∙ z.1 ∙ ap (λ t. t ++ z.0) e)

    pub broke_front : Broke x c mid new → TakesFront old new Whole
    broke_front broke =
        let b = broke a.reached a.shows in
        let m = whole_is b.0 b.1 in
        let P : List ℕ → Type 0 = λ z. TakesFront old new z in
        subst P (sym m.1) (front_of_first old new (a.reached.out ++ b.0) m.0 (front_of_both old mid new a.reached.out b.0 a.took b.2))

  module _ (x : Session) (old now : Option (List ℕ)) (a : IsAmid handed w cs [] x old now) where
    all_is : a.reached ≡ all_served cs (silent (begins handed w))
    all_is = sym (none_left a.reached) ∙ a.left_is

    pub done_shows : IsDone handed w cs x
    done_shows = record { shows = subst (λ (r : Reached). Shows x r.state) all_is a.shows; led = a.led }

    pub done_takes : Takes old now (transcript cs (begins handed w))
    done_takes = subst (λ (r : Reached). Takes old now r.out) all_is a.took

-- Lists.

pub there : (cs : List Command) (k : ℕ) (c : Command) → k < length cs → c ≡ get_or cs k c → slice_get cs k ≡ Some c
there [] k c lt e = absurd (omega arith)
there (d ∷ ds) zero c lt e = ap Some (sym e)
there (d ∷ ds) (suc k) c lt e = there ds k c (omega arith) e

pub built_at : (cs : List Command) (k : ℕ) (c : Command) → list_all is_served cs ≡ true → slice_get cs k ≡ Some c → is_served c ≡ true
built_at [] k c all e = absurd (cc)
built_at (d ∷ ds) zero c all e = let same : d ≡ c = cc in ap is_served (sym same) ∙ first (is_served d) (list_all is_served ds) all
  where
    first : (p q : Bool) → (p && q) ≡ true → p ≡ true
    first true q h = refl
    first false q h = h
built_at (d ∷ ds) (suc k) c all e = built_at ds k c (second (is_served d) (list_all is_served ds) all) e
  where
    second : (p q : Bool) → (p && q) ≡ true → q ≡ true
    second true q h = h
    second false q h = absurd (cc)

pub none_behind : (cs : List Command) (k : ℕ) → length cs ≤ k → drop k cs ≡ []
none_behind [] zero le = refl
none_behind [] (suc k) le = refl
none_behind (c ∷ cs) zero le = absurd (omega arith)
none_behind (c ∷ cs) (suc k) le = none_behind cs k (omega arith)
