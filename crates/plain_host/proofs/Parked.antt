-- `flush` and parking keep registers, and how the other activities stand.
use Rattle.std.proofs.Common.{◌≡◌, ◌≢◌, ℕ, zero, suc, refl}
use Rattle.std.specs.Prelude.{Option, Some, None, length, slice_get}
use Rattle.sparc_store.specs.Windows.{Stack, spilled, all_spilled}
use Rattle.sparc_machine.specs.State.{stack_of}
use Rattle.heap_cells.proofs.Numbered.{got_other}
use Rattle.plain_runs.specs.Host.{Host}
use Rattle.plain_runs.specs.declared.status.Status.{Status}
use Rattle.plain_runs.specs.declared.status.Status.TheVariants.{Waiting, Answered, Failed}
use Rattle.plain_runs.specs.Services.{parked_by, parked}

spills_keep : (n : ℕ) (s : Stack) → (all_spilled n s).regs ≡ s.regs
unfolding all_spilled
spills_keep zero s = refl
spills_keep (suc n) s = spills_keep n (spilled s)

parks_keep : (x : Option Status) (h : Host) → (parked_by x h).machine.regs ≡ h.machine.regs
parks_keep None h = refl
parks_keep (Some (Waiting sp pc count)) h = spills_keep (length h.machine.older) (stack_of h.machine)
parks_keep (Some (Answered w)) h = refl
parks_keep (Some (Failed e p)) h = refl

pub registers_kept : (h : Host) → (parked h).machine.regs ≡ h.machine.regs
registers_kept h = parks_keep (slice_get h.statuses h.current) h

others_keep : (x : Option Status) (h : Host) (k : ℕ) → k ≢ h.current → slice_get (parked_by x h).statuses k ≡ slice_get h.statuses k
others_keep None h k ne = refl
others_keep (Some (Waiting sp pc count)) h k ne = got_other h.statuses h.current k (Waiting (h.machine.regs 14) h.machine.pc (h.machine.regs 4)) ne
others_keep (Some (Answered w)) h k ne = refl
others_keep (Some (Failed e p)) h k ne = refl

pub statuses_kept : (h : Host) (k : ℕ) → k ≢ h.current → slice_get (parked h).statuses k ≡ slice_get h.statuses k
statuses_kept h k ne = others_keep (slice_get h.statuses h.current) h k ne
