-- Commands write behind what was written before.
use Rattle.std.proofs.Common.{◌≡◌, ℕ, zero, suc, ◌+◌, refl, ◌∙◌, ap, sym, append_assoc, append-nil}
use Rattle.std.specs.Prelude.{◌++◌, ◌-◌, nat_lt, nat_le, if◌then◌else◌, Bool, true, false, cond, List, [], ◌∷◌, length, Option, Some, None, Ok, Err, slice_get, codes}
use Rattle.self_terms.specs.declared.values.Value.TheVariants as values
use Rattle.source_model.specs.declared.objects.Content.TheVariants.{Constant, Assignable, Assignment, Parent, Method}
use Rattle.source_model.specs.Lines.{line, activity_line, run_line, frame_lines}
use Rattle.source_model.specs.Messages.{Met, Missing, Holds, meets}
use Rattle.source_model.specs.Names.{number_of}
use Rattle.source_model.specs.Script.{refused, becomes, switch, spawned, with_activity, spawn_met, spawn, over, with_run_line, until, lacks, finish, shows}
use Rattle.source_model.specs.Sends.{Outcome, begun, enters}
use Rattle.source_model.specs.State.{Activation, Activity, Running, Answered, Failed, State, Reached, silent}
use Rattle.source_model.specs.Texts.{error_text}
use Rattle.source_model.proofs.Keeping.{either}
use Rattle.source_model.specs.Step.{run, onward}
use Rattle.session_text.specs.declared.commands.Command.{Command}
use Rattle.session_text.specs.declared.commands.Command.TheVariants as commands
use Rattle.plain_session.specs.Commands.{obeyed, all_obeyed, steps_on, goes_to, finishes, stacks}
use Rattle.plain_session.proofs.Running.{behind, onward_behind, run_behind, as_behind}

abbrev pub Writes : Reached → Reached → Type 0
Writes r t = (x : List ℕ) × (t.out ≡ r.out ++ x)

nothing : (r : Reached) → Writes r r
nothing r = ([], sym (append-nil r.out))

refuses : (why : List ℕ) (r : Reached) → Writes r (refused why r)
refuses why r = (line (codes "refused " ++ why), refl)

spawned_writes : (o : Outcome) (r : Reached) → Writes r (spawned o r)
spawned_writes (Ok t) r = (activity_line (t.state.current + 1), refl)
spawned_writes (Err e) r = refuses (error_text e) r

met_writes : (met : Met) (r : Reached) → Writes r (spawn_met met r)
met_writes (Missing e) r = refuses (error_text e) r
met_writes (Holds o (Method b)) r = spawned_writes (enters (begun r.state b.0 (values.Object 0) o None []) [] (with_activity r.state)) r
met_writes (Holds o (Constant v)) r = refuses (codes "not a method") r
met_writes (Holds o (Assignable v)) r = refuses (codes "not a method") r
met_writes (Holds o Assignment) r = refuses (codes "not a method") r
met_writes (Holds o (Parent p)) r = refuses (codes "not a method") r

pub spawn_writes : (name : List ℕ) (r : Reached) → Writes r (spawn name r)
spawn_writes name r =
    let met = meets r.state (values.Object 0) (number_of r.state.names name) in
    either (Writes r) (nat_lt (length r.state.activities) 4) (spawn_met met r) (refused (codes "too many activities") r) (met_writes met r) (refuses (codes "too many activities") r)

-- what a run prints, and its line
pub run_text : (n : ℕ) (r : Reached) → (with_run_line (run n r)).out ≡ r.out ++ ((run n (silent r.state)).out ++ run_line (run n (silent r.state)).state)
run_text n r =
    let t = run n (silent r.state) in
    let same : run n r ≡ behind r.out t = ap (run n) (as_behind r) ∙ run_behind n r.out (silent r.state) in
    ap (λ (q : Reached). q.out ++ run_line q.state) same ∙ append_assoc r.out t.out (run_line t.state)

run_writes : (n : ℕ) (r : Reached) → Writes r (with_run_line (run n r))
run_writes n r = ((run n (silent r.state)).out ++ run_line (run n (silent r.state)).state, run_text n r)

over_writes : (n : ℕ) (x : Option Activity) (r : Reached) → Writes r (over x (λ all q. with_run_line (run n q)) r)
over_writes n None r = refuses (codes "no activity") r
over_writes n (Some (Running all)) r = run_writes n r
over_writes n (Some (Answered v)) r = refuses (codes "ended") r
over_writes n (Some (Failed e p)) r = refuses (codes "ended") r

steps_write : (n : ℕ) (r : Reached) → Writes r (steps_on n r)
unfolding steps_on
steps_write n r = over_writes n (slice_get r.state.activities r.state.current) r

continue_over : (n : ℕ) (x : Option Activity) (r : Reached) → Writes r (over x (λ all q. if nat_le q.state.steps n then with_run_line (run (n - q.state.steps) q) else refused (codes "past") q) r)
continue_over n None r = refuses (codes "no activity") r
continue_over n (Some (Running all)) r = either (Writes r) (nat_le r.state.steps n) (with_run_line (run (n - r.state.steps) r)) (refused (codes "past") r) (run_writes (n - r.state.steps) r) (refuses (codes "past") r)
continue_over n (Some (Answered v)) r = refuses (codes "ended") r
continue_over n (Some (Failed e p)) r = refuses (codes "ended") r

continue_writes : (n : ℕ) (r : Reached) → Writes r (goes_to n r)
unfolding goes_to
continue_writes n r = continue_over n (slice_get r.state.activities r.state.current) r

-- on until a state passes: the same behind any text
until_by : (passes : State → Bool) (n : ℕ) (text : List ℕ) (r : Reached) (b : Bool) → passes r.state ≡ b → ((q : Reached) → until passes n (behind text q) ≡ behind text (until passes n q))
    → (elim b [ true ↦ behind text r | false ↦ until passes n (onward (behind text r)) ]) ≡ behind text (elim b [ true ↦ r | false ↦ until passes n (onward r) ])
until_by passes n text r true is rest = refl
until_by passes n text r false is rest = ap (until passes n) (onward_behind text r) ∙ rest (onward r)

pub until_behind : (passes : State → Bool) (n : ℕ) (text : List ℕ) (r : Reached) → until passes n (behind text r) ≡ behind text (until passes n r)
unfolding until
until_behind passes zero text r = refl
until_behind passes (suc n) text r = until_by passes n text r (passes r.state) refl (until_behind passes n text)

pub finish_behind : (n : ℕ) (all : List Activation) (text : List ℕ) (r : Reached) → finish n all (behind text r) ≡ behind text (finish n all r)
finish_behind n [] text r = refl
finish_behind n (a ∷ older) text r = until_behind (lacks a.number) n text r

-- what is printed until then, and the line of that run
pub finish_text : (n : ℕ) (all : List Activation) (r : Reached) → (with_run_line (finish n all r)).out ≡ r.out ++ ((finish n all (silent r.state)).out ++ run_line (finish n all (silent r.state)).state)
finish_text n all r =
    let t = finish n all (silent r.state) in
    let same : finish n all r ≡ behind r.out t = ap (finish n all) (as_behind r) ∙ finish_behind n all r.out (silent r.state) in
    ap (λ (q : Reached). q.out ++ run_line q.state) same ∙ append_assoc r.out t.out (run_line t.state)

finish_over : (n : ℕ) (x : Option Activity) (r : Reached) → Writes r (over x (λ all q. with_run_line (finish n all q)) r)
finish_over n None r = refuses (codes "no activity") r
finish_over n (Some (Running all)) r = ((finish n all (silent r.state)).out ++ run_line (finish n all (silent r.state)).state, finish_text n all r)
finish_over n (Some (Answered v)) r = refuses (codes "ended") r
finish_over n (Some (Failed e p)) r = refuses (codes "ended") r

pub finish_writes : (n : ℕ) (r : Reached) → Writes r (finishes n r)
unfolding finishes
finish_writes n r = finish_over n (slice_get r.state.activities r.state.current) r

-- the lines of activations
stack_over : (x : Option Activity) (r : Reached) → Writes r (over x shows r)
stack_over None r = refuses (codes "no activity") r
stack_over (Some (Running all)) r = (frame_lines r.state all all, refl)
stack_over (Some (Answered v)) r = refuses (codes "ended") r
stack_over (Some (Failed e p)) r = refuses (codes "ended") r

stack_writes : (r : Reached) → Writes r (stacks r)
unfolding stacks
stack_writes r = stack_over (slice_get r.state.activities r.state.current) r

switch_writes : (k : ℕ) (r : Reached) → Writes r (switch k r)
switch_writes zero r = refuses (codes "no such activity") r
switch_writes (suc k) r =
    either (Writes r) (nat_lt k (length r.state.activities)) (becomes (record r.state { current = k }) (activity_line (k + 1)) r) (refused (codes "no such activity") r) (activity_line (k + 1), refl) (refuses (codes "no such activity") r)

pub command_writes : (c : Command) (r : Reached) → Writes r (obeyed c r)
unfolding obeyed
command_writes (commands.Spawn name) r = spawn_writes name r
command_writes (commands.Run n) r = steps_write n r
command_writes (commands.Switch k) r = switch_writes k r
command_writes (commands.Continue n) r = continue_writes n r
command_writes commands.Step r = steps_write 1 r
command_writes (commands.Interrupt n) r = steps_write n r
command_writes (commands.Finish n) r = finish_writes n r
command_writes commands.Stack r = stack_writes r
command_writes (commands.Edit path text) r = nothing r
command_writes commands.Units r = nothing r
command_writes commands.Machine r = nothing r
command_writes (commands.Advisor k) r = nothing r

both : (r s t : Reached) → Writes r s → Writes s t → Writes r t
both r s t x y = (x.0 ++ y.0, y.1 ∙ ap (λ o. o ++ y.0) x.1 ∙ append_assoc r.out x.0 y.0)

pub commands_write : (cs : List Command) (r : Reached) → Writes r (all_obeyed cs r)
unfolding all_obeyed
commands_write [] r = nothing r
commands_write (c ∷ more) r = both r (obeyed c r) (all_obeyed more (obeyed c r)) (command_writes c r) (commands_write more (obeyed c r))
