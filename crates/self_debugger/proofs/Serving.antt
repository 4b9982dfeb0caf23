-- Commands, with those of advisors: they write behind what was written before; those of plain code leave the advisors.
use Rattle.std.proofs.Common.{◌≡◌, ◌≢◌, ℕ, ◌+◌, refl, ◌∙◌, ap, sym, subst, append_assoc, append-nil}
use Rattle.std.specs.Prelude.{◌++◌, ◌-◌, ◌==◌, nat_le, if◌then◌else◌, true, false, List, [], ◌∷◌, Option, codes, decimal}
use Rattle.io_ports.specs.Causes.{Takes, TakesFront}
use Rattle.source_model.specs.Lines.{line}
use Rattle.source_model.specs.Script.{refused, becomes, advisor}
use Rattle.source_model.specs.Script as source
use Rattle.source_model.specs.State.{State, Reached}
use Rattle.source_model.proofs.Keeping.{either}
use Rattle.session_text.specs.declared.commands.Command.{Command}
use Rattle.session_text.specs.declared.commands.Command.TheVariants as commands
use Rattle.run_keeps.proofs.Commanding.{command_keeps}
use Rattle.plain_session.specs.Commands.{is_built, obeyed, steps_on, goes_to, finishes, stacks}
use Rattle.plain_session.specs.Sessions as words
use Rattle.plain_session.proofs.Writing.{Writes, command_writes}
use Rattle.self_debugger.specs.Commands.{is_served, served, all_served}
use Rattle.self_debugger.specs.Parts.{DidPlain, BrokePlain, Did, Broke}
use Rattle.self_debugger.specs.Sessions.{Session, Shows, Obeys}

nothing : (r : Reached) → Writes r r
nothing r = ([], sym (append-nil r.out))

advisor_writes : (k : ℕ) (r : Reached) → Writes r (advisor k r)
advisor_writes k r =
    either (Writes r) (nat_le k r.state.advisors) (becomes (record r.state { advisors = r.state.advisors - (if k == 0 then 0 else 1) }) (line (codes "advisor " ++ decimal k)) r) (refused (codes "no such advisor") r)
    (line (codes "advisor " ++ decimal k), refl) (line (codes "refused " ++ codes "no such advisor"), refl)

served_writes : (c : Command) (r : Reached) → Writes r (served c r)
unfolding served
served_writes (commands.Spawn name) r = command_writes (commands.Spawn name) r
served_writes (commands.Run n) r = command_writes (commands.Run n) r
served_writes (commands.Switch k) r = command_writes (commands.Switch k) r
served_writes (commands.Continue n) r = command_writes (commands.Continue n) r
served_writes commands.Step r = command_writes commands.Step r
served_writes (commands.Interrupt n) r = command_writes (commands.Interrupt n) r
served_writes (commands.Finish n) r = command_writes (commands.Finish n) r
served_writes commands.Stack r = command_writes commands.Stack r
served_writes (commands.Edit path text) r = command_writes (commands.Edit path text) r
served_writes commands.Units r = command_writes commands.Units r
served_writes commands.Machine r = command_writes commands.Machine r
served_writes (commands.Advisor k) r = advisor_writes k r

both : (r s t : Reached) → Writes r s → Writes s t → Writes r t
both r s t x y = (x.0 ++ y.0, y.1 ∙ ap (λ o. o ++ y.0) x.1 ∙ append_assoc r.out x.0 y.0)

pub commands_write : (cs : List Command) (r : Reached) → Writes r (all_served cs r)
unfolding all_served
commands_write [] r = nothing r
commands_write (c ∷ more) r = both r (served c r) (all_served more (served c r)) (served_writes c r) (commands_write more (served c r))

-- A command of plain code is served as plain code obeys it, and leaves as many advisors.

pub plain_served : (c : Command) → is_built c ≡ true → (r : Reached) → served c r ≡ obeyed c r
unfolding served
plain_served (commands.Spawn name) b r = refl
plain_served (commands.Run n) b r = refl
plain_served (commands.Switch k) b r = refl
plain_served (commands.Continue n) b r = refl
plain_served commands.Step b r = refl
plain_served (commands.Interrupt n) b r = refl
plain_served (commands.Finish n) b r = refl
plain_served commands.Stack b r = refl
plain_served (commands.Edit path text) b r = refl
plain_served commands.Units b r = refl
plain_served commands.Machine b r = refl
plain_served (commands.Advisor k) b r = absurd (cc)

pub advisors_stay : (c : Command) → is_built c ≡ true → (r : Reached) → (obeyed c r).state.advisors ≡ r.state.advisors
unfolding obeyed steps_on goes_to finishes stacks source.command
advisors_stay (commands.Spawn name) b r = (command_keeps r (source.Spawn name) 0 tt).advisors
advisors_stay (commands.Run n) b r = (command_keeps r (source.Run n) 0 tt).advisors
advisors_stay (commands.Switch k) b r = (command_keeps r (source.Switch k) 0 tt).advisors
advisors_stay (commands.Continue n) b r = (command_keeps r (source.Continue n) 0 tt).advisors
advisors_stay commands.Step b r = (command_keeps r source.Step 0 tt).advisors
advisors_stay (commands.Interrupt n) b r = (command_keeps r (source.Run n) 0 tt).advisors
advisors_stay (commands.Finish n) b r = (command_keeps r (source.Finish n) 0 tt).advisors
advisors_stay commands.Stack b r = (command_keeps r source.Stack 0 tt).advisors
advisors_stay (commands.Edit path text) b r = absurd (cc)
advisors_stay commands.Units b r = absurd (cc)
advisors_stay commands.Machine b r = absurd (cc)
advisors_stay (commands.Advisor k) b r = absurd (cc)

-- A command of plain code is obeyed, and so is it with the advisors, of which as many are left.

module _ (x y : Session) (c : Command) (old now : Option (List ℕ)) (left : y.left ≡ x.left) (plain : is_built c ≡ true) where
  pub did_plain : DidPlain x.plain y.plain c old now → Did x y c old now
  did_plain d = record {
    text = d.text;
    obeys = λ q sh.
        let o = d.obeys q sh.plain in
        let e = plain_served c plain q in (
          subst (λ (t : Reached). Shows y t.state) (sym e) (record { plain = o.0; advised = left ∙ sh.advised ∙ sym (advisors_stay c plain q) }),
          ap (λ (t : Reached). t.out) e ∙ o.1,
        );
    took = d.took;
    led = d.led;
  }

pub broke_plain : (x : Session) (c : Command) (old now : Option (List ℕ)) → is_built c ≡ true → BrokePlain x.plain c old now → Broke x c old now
broke_plain x c old now plain b q sh = let t = b q sh.plain in (t.0, ap (λ (r : Reached). r.out) (plain_served c plain q) ∙ t.1, t.2)

-- An advisor's line is all that its command writes.

served_advisor : (k : ℕ) (r : Reached) → served (commands.Advisor k) r ≡ advisor k r
unfolding served
served_advisor k r = refl

pub did_advise : (x y : Session) (k : ℕ) (text : List ℕ) (old now : Option (List ℕ)) → Obeys x y (advisor k) text → words.IsLed x.plain y.plain → Takes old now text → Did x y (commands.Advisor k) old now
did_advise x y k text old now obeys led took = record {
  text = text;
  obeys = λ q sh. let o = obeys q sh in let e = served_advisor k q in (subst (λ (t : Reached). Shows y t.state) (sym e) o.0, ap (λ (t : Reached). t.out) e ∙ o.1);
  took = took;
  led = led;
}

pub broke_advise : (x y : Session) (k : ℕ) (text : List ℕ) (old now : Option (List ℕ)) → Obeys x y (advisor k) text → TakesFront old now text → Broke x (commands.Advisor k) old now
broke_advise x y k text old now obeys front q sh = let o = obeys q sh in (text, ap (λ (r : Reached). r.out) (served_advisor k q) ∙ o.1, front)

-- which commands are those of plain code
pub built_of : (c : Command) → is_served c ≡ true → ((k : ℕ) → c ≢ commands.Advisor k) → is_built c ≡ true
built_of (commands.Spawn name) b other = b
built_of (commands.Run n) b other = b
built_of (commands.Switch k) b other = b
built_of (commands.Continue n) b other = b
built_of commands.Step b other = b
built_of (commands.Interrupt n) b other = b
built_of (commands.Finish n) b other = b
built_of commands.Stack b other = b
built_of (commands.Edit path text) b other = b
built_of commands.Units b other = b
built_of commands.Machine b other = b
built_of (commands.Advisor k) b other = absurd (other k refl)
