-- A machine with the message to a handler in its outs ends its activity as without.
use Rattle.std.proofs.Common.{◌≡◌, ℕ, zero, suc, ◌<◌, List, refl, ◌∙◌, ap, sym, subst}
use Rattle.std.specs.Prelude.{length}
use Rattle.sparc_store.specs.Words.{Words}
use Rattle.sparc_store.specs.Windows.{Frame, Stack, all_spilled, but_oldest, kept, with_saved, with_spilled}
use Rattle.sparc_machine.specs.State.{stack_of}
use Rattle.plain_runs.specs.Host.{Host}
use Rattle.plain_unwinds.specs.Frames.{AreWalked}
use Rattle.plain_unwinds.specs.Services.{CanUnwind}
use Rattle.plain_turns.specs.Handlers.{handed}

abbrev over : Words → (ℕ → ℕ) → List Frame → Stack
over memory regs held = record { memory = memory; regs = regs; held = held }

regs_stay : (n : ℕ) (memory : Words) (regs : ℕ → ℕ) (held : List Frame) → (all_spilled n (over memory regs held)).regs ≡ regs
unfolding all_spilled
regs_stay zero memory regs held = refl
regs_stay (suc n) memory regs held = regs_stay n (with_spilled memory (regs 30) held) regs (but_oldest held)

-- what is spilled depends on the frames and where they begin alone
spilled_same : (n : ℕ) (memory : Words) (one two : ℕ → ℕ) (held : List Frame) → one 30 ≡ two 30 → (all_spilled n (over memory one held)).memory ≡ (all_spilled n (over memory two held)).memory
unfolding all_spilled
spilled_same zero memory one two held e = refl
spilled_same (suc n) memory one two held e =
    spilled_same n (with_spilled memory (one 30) held) one two (but_oldest held) e ∙ ap (λ (k : ℕ). (all_spilled n (over (with_spilled memory k held) two (but_oldest held))).memory) e

abbrev Walked : Words → (ℕ → ℕ) → Type 0
Walked memory regs = AreWalked (with_saved memory (regs 14) (kept regs)) (regs 4) (regs 14)

pub ends_handed : (args error primitive : ℕ) (h : Host) → CanUnwind h → CanUnwind (handed args error primitive h)
ends_handed args error primitive h can =
    let g = handed args error primitive h in
    let n = length h.machine.older in
    let one = all_spilled n (stack_of h.machine) in
    let two = all_spilled n (stack_of g.machine) in
    let first : one.regs ≡ h.machine.regs = regs_stay n h.machine.memory h.machine.regs h.machine.older in
    let second : two.regs ≡ g.machine.regs = regs_stay n h.machine.memory g.machine.regs h.machine.older in
    let same : one.memory ≡ two.memory = spilled_same n h.machine.memory h.machine.regs g.machine.regs h.machine.older refl in
    let some : 0 < h.machine.regs 4 = subst (λ (r : ℕ → ℕ). 0 < r 4) first can.some in
    let walked : Walked one.memory h.machine.regs = subst (λ (r : ℕ → ℕ). Walked one.memory r) first can.walked in
    let there : Walked two.memory g.machine.regs = subst (λ (m : Words). Walked m h.machine.regs) same walked in
    record {
      flushes = can.flushes;
      some = subst (λ (r : ℕ → ℕ). 0 < r 4) (sym second) some;
      walked = subst (λ (r : ℕ → ℕ). Walked two.memory r) (sym second) there;
    }
