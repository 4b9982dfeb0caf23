-- From a poll to the next trap, and from behind a service.
use Rattle.std.proofs.Common.{◌≡◌, ℕ, zero, suc, ◌+◌, ◌<◌, refl, ◌∙◌, ap, arith, append-nil}
use Rattle.std.specs.Prelude.{List, [], ◌++◌}
use Rattle.sparc_store.specs.Words.{word_at}
use Rattle.sparc_machine.specs.State.{MachineState}
use Rattle.source_model.specs.Formed.{IsWellFormed}
use Rattle.source_model.specs.State.{State}
use Rattle.source_model.specs.Step.{step}
use Rattle.source_model.proofs.Forming.{steps_form}
use Rattle.raw_steps.specs.Stands.{Sense}
use Rattle.plain_words.proofs.Basics.{goes_then}
use Rattle.plain_runs.specs.Host.{Host}
use Rattle.plain_runs.specs.Course.{with_machine, AllRun}
use Rattle.plain_steps.specs.Paying.{IsPaid, HasMaps}
use Rattle.plain_steps.proofs.Paying.{steps_pay}
use Rattle.plain_prims.specs.Performing.{DoesPrint}
use Rattle.plain_stretches.specs.Printing.{printed}
use Rattle.plain_stretches.specs.Standing.{IsOn, left_of}
use Rattle.plain_stretches.specs.Stretches.{AreFit, Stretch, StretchOn, PollsStretch, StepsStretch, PrintsStretch, StretchesRun}
use Rattle.plain_stretches.proofs.Further.{none_run, next_run, printed_run}
use Rattle.plain_stretches.proofs.Named.{maps_on}
use Rattle.plain_stretches.proofs.Nodes.{Halted, Done, Steps, Asks, goal_done, poll_done}
use Rattle.plain_stretches.proofs.Runs.{traps_stop}
use Rattle.plain_stretches.proofs.Waiting.{as_print, prints_go_on}

-- a stretch that prints nothing
abbrev pub Quiet : ℕ → Sense → Host → State → ℕ → Type 0
Quiet start z h s left = (x : Stretch start z h s left) × (x.out ≡ [])

halted : (start : ℕ) (z : Sense) (h : Host) (s : State) (left : ℕ) (on : IsOn z h s) → IsPaid start h → left_of h ≡ left → Halted z h s on → Quiet start z h s left
halted start z h s left on paid e x = (
  record {
    steps = 0;
    state = s;
    out = [];
    runs = none_run s;
    counted = omega arith;
    last = h.machine;
    sense = z;
    on = on;
    paid = paid;
    still = omega (arith, e);
    instructions = x.instructions;
    few = omega (arith, x.few);
    to = x.to;
    goes = x.goes;
    trap = x.trap;
    stands = x.stands;
    halts = x.halts;
  },
  refl,
)

stepped : (start : ℕ) (z : Sense) (h : Host) (s : State) (left : ℕ) (out : List ℕ) → (d : DoesPrint h s out) → Quiet start d.sense (with_machine h d.to) (step s).state left → StretchOn start z h s (suc left) out
stepped start z h s left out d (x, quiet) = record {
  stretch = record {
    steps = suc x.steps;
    state = x.state;
    out = out;
    runs = next_run x.steps s out d.printed ∙ printed_run x.steps (step s).state x.state out x.out x.runs ∙ ap (λ y. printed x.state (out ++ y)) quiet ∙ ap (printed x.state) (append-nil out);
    counted = omega (arith, x.counted, d.counted);
    last = x.last;
    sense = x.sense;
    on = x.on;
    paid = x.paid;
    still = omega (arith, x.still);
    instructions = d.instructions + x.instructions;
    few = omega (arith, d.few, x.few);
    to = x.to;
    goes = goes_then d.instructions x.instructions h.machine d.to x.to d.goes x.goes;
    trap = x.trap;
    stands = x.stands;
    halts = x.halts;
  };
  some = omega arith;
  prints = refl;
}

-- each poll of this host in a well-formed state, with its heap's room paid for and so many steps left, has its stretch
abbrev AllStretch : ℕ → Host → ℕ → Type 0
AllStretch start h left = (z : Sense) (m : MachineState) (s : State) → IsOn z (with_machine h m) s → IsWellFormed s → IsPaid start (with_machine h m) → left_of (with_machine h m) ≡ left → Quiet start z (with_machine h m) s left

step_stretches : (start : ℕ) (z : Sense) (h : Host) (s : State) (out : List ℕ) (left : ℕ) → AllRun h → h.current < 4 → IsWellFormed s → IsPaid start h → h.steps + word_at h.machine.memory 0x30000000 ≡ s.steps + suc left → AllStretch start h left
    → DoesPrint h s out → StretchOn start z h s (suc left) out
step_stretches start z h s out left runs current formed paid far more d =
    let g = prints_go_on h s out runs current d in
    stepped start z h s left out d (more d.sense d.to (step s).state g.on (steps_form s formed) (steps_pay start h d.to paid d.left d.paid) (g.left_is ∙ omega (arith, far)))

node_stretches : (start : ℕ) (z : Sense) (h : Host) (s : State) (left : ℕ) (on : IsOn z h s) → IsWellFormed s → IsPaid start h → left_of h ≡ suc left → AllStretch start h left → Done z h s on → Quiet start z h s (suc left)
node_stretches start z h s left on formed paid e more (Asks x) = halted start z h s (suc left) on paid e x
node_stretches start z h s left on formed paid e more (Steps d) =
    let before : h.steps + h.machine.regs 2 ≡ s.steps = on.sound.stands.stands.steps in
    let x = step_stretches start z h s [] left on.sound.runs on.sound.current formed paid (omega (arith, before, e)) more (as_print z h s d) in
    (x.stretch, x.prints)

stretches : (left start : ℕ) (z : Sense) (h : Host) (s : State) → (on : IsOn z h s) → IsWellFormed s → AreFit h → HasMaps h → IsPaid start h → left_of h ≡ left → Quiet start z h s left
stretches zero start z h s on formed fit maps paid e = halted start z h s 0 on paid e (goal_done z h s on e)
stretches (suc left) start z h s on formed fit maps paid e =
    node_stretches start z h s left on formed paid e (λ y m t next forms pays less. stretches left start y (with_machine h m) t next forms fit (maps_on h m maps) pays less)
    (poll_done start z h s on formed fit maps paid (omega (arith, e)))

-- From a well-formed state.

pub polls_stretch : PollsStretch
polls_stretch start z h s left formed set fit maps paid = stretches left start z h s set.on formed fit maps paid set.left_is

pub prints_stretch : PrintsStretch
prints_stretch start z h s out left formed runs current fit maps paid d far =
    step_stretches start z h s out left runs current formed paid far (λ y m t next forms pays less. stretches left start y (with_machine h m) t next forms fit (maps_on h m maps) pays less) d

pub steps_stretch : StepsStretch
steps_stretch start z h s left formed runs current fit maps paid d far = prints_stretch start z h s [] left formed runs current fit maps paid (as_print z h s d) far

pub stretches_run : StretchesRun
stretches_run start z h s left small x most far = traps_stop x.instructions x.trap most h.machine x.to x.goes x.stands (omega (arith, far, small, x.few, x.still))
