-- The machine as service 1 leaves it, where a method answers.
use Rattle.std.proofs.Common.{◌≡◌, ◌≢◌, ℕ, zero, suc, ◌+◌, ◌-◌, ◌*◌, ◌<◌, ◌≤◌, refl, ◌∙◌, ap, sym, subst, arith}
use Rattle.std.specs.Prelude.{Bool, true, false, if◌then◌else◌, nat_eq, ◌∷◌, drop}
use Rattle.std.proofs.lemmas.Grind.{common_steps}
use Rattle.self_terms.specs.declared.nodes.Node.{Node}
use Rattle.self_terms.specs.Depths.{taken, depth}
use Rattle.sparc_store.specs.Words.{Words}
use Rattle.sparc_store.specs.Windows.{kept, with_reg}
use Rattle.sparc_machine.specs.State.{MachineState}
use Rattle.source_model.specs.Messages.{Met}
use Rattle.source_model.specs.Soundness.{body_in}
use Rattle.source_model.specs.State.{State}
use Rattle.frame_walk.specs.Places.{shown, plain_descriptor}
use Rattle.frame_walk.specs.Walk.{SameBetween}
use Rattle.frame_walk.proofs.Resting.{shown_same}
use Rattle.raw_steps.specs.Stands.{Sense}
use Rattle.plain_words.specs.Moves.{registers_from}
use Rattle.plain_words.specs.Showing.{viewed}
use Rattle.plain_words.specs.Units.{frame_locals, frame_words}
use Rattle.plain_words.proofs.Basics.{other_register}
use Rattle.plain_words.proofs.Shown.{no_scratch, window_same}
use Rattle.plain_runs.specs.Host.{Host}
use Rattle.plain_runs.specs.Units.{HasUnit}
use Rattle.plain_runs.specs.Sound.{RunsAt}
use Rattle.plain_runs.specs.Course.{with_machine, CanGo}
use Rattle.plain_runs.specs.Services.{cleared, with_left, handed, calls}
use Rattle.plain_runs.proofs.Keeping.{SameCode, unit_kept}
use Rattle.plain_runs.proofs.Working.{run_kept, plain_fits}
use Rattle.plain_sends.specs.Messages.{IsMessaged}
use Rattle.plain_sends.proofs.Serving.{other, older_ones}
use Rattle.plain_sends.proofs.Settling.{Controlled, controlled, SettledTo, KeptTo, StillThere}
use Rattle.plain_evaluates.proofs.Called.{IsCalled}

-- Registers.

pub four_others : (regs : ℕ → ℕ) (v w r : ℕ) → nat_eq r 5 ≡ false → nat_eq r 15 ≡ false → nat_eq r 3 ≡ false → nat_eq r 2 ≡ false → with_reg (with_reg (cleared regs) 15 v) 5 w r ≡ regs r
four_others regs v w r e5 e15 e3 e2 = other_register (with_reg (cleared regs) 15 v) 5 w r e5 ∙ other_register (cleared regs) 15 v r e15 ∙ other_register (with_reg regs 2 0) 3 0 r e3 ∙ other_register regs 2 0 r e2

high_kept : (regs : ℕ → ℕ) (v w r : ℕ) → 16 ≤ r → with_reg (with_reg (cleared regs) 15 v) 5 w r ≡ regs r
high_kept regs v w r h = four_others regs v w r (other r 5 (omega arith)) (other r 15 (omega arith)) (other r 3 (omega arith)) (other r 2 (omega arith))

out_kept : (regs : ℕ → ℕ) (v w j : ℕ) → j < 5 → with_reg (with_reg (cleared regs) 15 v) 5 w (9 + j) ≡ regs (9 + j)
out_kept regs v w zero h = refl
out_kept regs v w (suc zero) h = refl
out_kept regs v w (suc (suc zero)) h = refl
out_kept regs v w (suc (suc (suc zero))) h = refl
out_kept regs v w (suc (suc (suc (suc zero)))) h = refl
out_kept regs v w (suc (suc (suc (suc (suc j))))) h = absurd (omega arith)

same_from : (n r s : ℕ) (f g : ℕ → ℕ) → ((j : ℕ) → j < n → f (r + j) ≡ g (s + j)) → registers_from f r n ≡ registers_from g s n
same_from zero r s f g h = refl
same_from (suc n) r s f g h =
    let first : f r ≡ g s = ap f (omega arith) ∙ h 0 (omega arith) ∙ ap g (omega arith) in
    let rest = same_from n (r + 1) (s + 1) f g (λ j lt. ap f (omega arith) ∙ h (suc j) (omega arith) ∙ ap g (omega arith)) in
    ap (λ w. w ∷ registers_from f (r + 1) n) first ∙ ap (λ ws. g s ∷ ws) rest

pub arguments_kept : (regs : ℕ → ℕ) (v w n : ℕ) → n ≤ 5 → registers_from (with_reg (with_reg (cleared regs) 15 v) 5 w) 9 n ≡ registers_from regs 9 n
arguments_kept regs v w n few = same_from n 9 9 (with_reg (with_reg (cleared regs) 15 v) 5 w) regs (λ j lt. out_kept regs v w j (omega (arith, lt, few)))

-- The word of the holder comes back as it was handed over.
same_number : (a b : ℕ) → nat_eq a b ≡ true → b ≡ a
same_number a b e = grind (arith, e)

by_receiver : (same : Bool) (holder receiver : ℕ) → nat_eq holder receiver ≡ same → holder ≢ 0 → (if nat_eq (if same then 0 else holder) 0 then receiver else (if same then 0 else holder)) ≡ holder
by_receiver true holder receiver e ne = same_number holder receiver e
by_receiver false holder receiver e ne = let f : nat_eq holder 0 ≡ false = grind (arith, common_steps) in ap (λ x. if x then receiver else holder) f

pub holder_back : (holder receiver : ℕ) → holder ≢ 0 → (if nat_eq (handed receiver holder) 0 then receiver else handed receiver holder) ≡ holder
holder_back holder receiver ne = by_receiver (nat_eq holder receiver) holder receiver refl ne

-- the sender's frame shows the values under its message
pub sender_shown : (h : Host) (b n : ℕ) (node : Node) (to : MachineState) (goal : ℕ) → RunsAt h b n node → CanGo h → KeptTo h to goal
    → (let v = viewed h.machine b n (frame_locals (body_in h.bodies b)) (depth (body_in h.bodies b).nodes n) in
    viewed to b n (frame_locals (body_in h.bodies b)) (depth (body_in h.bodies b).nodes n - taken node) ≡ record v { pending = drop (taken node) v.pending })
sender_shown h b n node to goal r can st =
    let m = h.machine in
    let x = body_in h.bodies b in
    let locals = frame_locals x in
    let k = depth x.nodes n in
    let d = plain_descriptor b n locals (k - taken node) in
    let window = kept m.regs in
    let sp = m.regs 14 in
    let words = frame_words x in
    let room = (can.runs b).room n in
    let takes = (can.runs b).takes n node r.node_is in
    let same : SameBetween sp (sp + 4 * words) m.memory to.memory = λ q from below. st.stacks q (omega (arith, from, r.view.frame.place.1)) in
    ap (λ z. shown to.memory z (to.regs 14) d) (window_same to.regs m.regs st.window)
    ∙ ap (λ z. shown to.memory window z d) st.frame
    ∙ shown_same m.memory to.memory window sp (4 * words) d (plain_fits words b n locals (k - taken node) (omega (arith, room))) same
    ∙ older_ones m.memory window sp b n locals (taken node) k takes

-- the machine at the first word of an entry
abbrev pub machine_called : (z : Sense) (h : Host) (s : State) (b n : ℕ) (node : Node) (args name : ℕ) (met : Met) (r : RunsAt h b n node) (mt : MachineState) → IsMessaged z h s b n node args name met r mt → ℕ → ℕ → ℕ → ℕ → MachineState
machine_called z h s b n node args name met r mt q goal cost at holder = (calls goal cost at holder (with_machine h mt)).machine

pub call_settles : (z : Sense) (h : Host) (s : State) (b n : ℕ) (node : Node) (args name : ℕ) (met : Met) (r : RunsAt h b n node) (mt : MachineState) (q : IsMessaged z h s b n node args name met r mt) → CanGo h → (goal cost at holder : ℕ) → goal ≤ 1000000000
    → SettledTo h (machine_called z h s b n node args name met r mt q goal cost at holder) goal
call_settles z h s b n node args name met r mt q can goal cost at holder few =
    let m = h.machine in
    let mv = q.moved in
    let v = mt.pc - 4 in
    let w = handed (mt.regs 8) holder in
    record {
      memory = (let P : Words → Type 0 = λ x. Controlled m.memory (with_left x goal cost) goal in subst P (sym mv.memory_is) (controlled m.memory goal cost can.hosted.within));
      few = few;
      zero_is = four_others mt.regs v w 0 refl refl refl refl ∙ mv.kept 0 refl;
      count = four_others mt.regs v w 4 refl refl refl refl ∙ mv.kept 4 refl;
      frame = four_others mt.regs v w 14 refl refl refl refl ∙ mv.kept 14 refl;
      window = λ k big. high_kept mt.regs v w k big ∙ mv.kept k (no_scratch k big);
      older = mv.older;
    }

-- the activation is about to begin
pub record AtEntry (h : Host) (b n c at older : ℕ) (node : Node) : Type 0 where
  pub called : IsCalled h b n c at node
  pub deep : called.view.older ≡ older

-- so it is over any machine whose registers are these, and whose stacks and code are those of the sender's
pub at_entry : (z : Sense) (h : Host) (s : State) (b n : ℕ) (node : Node) (args name : ℕ) (met : Met) (r : RunsAt h b n node) (mt : MachineState) (q : IsMessaged z h s b n node args name met r mt) → CanGo h → (c goal cost at holder : ℕ) → HasUnit h c at
    → (memory : Words) → SameCode h.machine.memory memory
    → (let to : MachineState = record (machine_called z h s b n node args name met r mt q goal cost at holder) { memory = memory } in StillThere h to b r.view.older → AtEntry (with_machine h to) b n c at r.view.older node)
at_entry z h s b n node args name met r mt q can c goal cost at holder unit memory low still =
    let to : MachineState = record (machine_called z h s b n node args name met r mt q goal cost at holder) { memory = memory } in
    let behind = q.behind in
    let back : to.regs 15 ≡ mt.pc - 4 = refl in
    record {
      called = record {
        view = still.view;
        hosted = still.hosted;
        runs = run_kept h to can.runs;
        current = can.current;
        behind = record { at = behind.at; unit = unit_kept h to b behind.at low behind.unit; node_is = behind.node_is; call = behind.call; address = omega (arith, back, behind.address, q.moved.stands.here, behind.unit.from) };
        stands = record { here = refl; next = refl };
        unit = unit_kept h to c at low unit;
      };
      deep = still.deep;
    }
