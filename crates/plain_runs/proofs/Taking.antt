-- Frames that may be taken up still may where the machine goes on beside them.
use Rattle.std.proofs.Common.{◌≡◌, ℕ, ◌+◌, sym, subst, arith}
use Rattle.std.specs.Prelude.{[]}
use Rattle.sparc_store.specs.Words.{Words}
use Rattle.sparc_store.specs.Windows.{Frame as Window, saved_at}
use Rattle.sparc_machine.specs.State.{MachineState}
use Rattle.frame_walk.specs.Walk.{AreLaid, Frames, SameBetween}
use Rattle.frame_walk.proofs.Resting.{rests, laid_as, saved_same, ends_below}
use Rattle.plain_runs.specs.Course.{with_machine}
use Rattle.plain_runs.specs.Host.{Host, descriptor_at}
use Rattle.plain_runs.specs.Units.{IsPoll}
use Rattle.plain_runs.specs.Sound.{IsRoomy, IsCaller, IsHeld, Calls, CanTakeUp, entry_frame, ending_stub}
use Rattle.plain_runs.proofs.Keeping.{SameCode, unit_kept, caller_kept}

-- where no word of them has changed
pub take_up_kept : (h : Host) → Frames (descriptor_at h) (IsHeld h) → (old new : Words) (k sp pc count : ℕ) → SameBetween sp (entry_frame k + 64) old new → CanTakeUp h old k sp pc count → CanTakeUp h new k sp pc count
take_up_kept h frames old new k sp pc count same a =
    let fp = saved_at old sp 14 in
    let back = saved_at old sp 15 + 8 in
    let room : Frames (descriptor_at h) (IsCaller h) = λ q s f c. frames q s f (Calls c) in
    let ends = a.frame.ends in
    let top = ends_below (descriptor_at h) (IsCaller h) (entry_frame k) ending_stub old a.older fp (saved_at old fp) back [] room a.callers in
    let e : saved_at new sp ≡ saved_at old sp = saved_same old new sp (λ b from to. same b from (omega (arith, to, ends, top))) in
    let f : saved_at new fp ≡ saved_at old fp = saved_same old new fp (λ b from to. same b (omega (arith, from, ends)) (omega (arith, to, top))) in
    let g = (rests (descriptor_at h) (IsCaller h) (entry_frame k) ending_stub old new a.older fp (saved_at old fp) back [] room a.callers (λ b from to. same b (omega (arith, from, ends)) to)).1 in
    let P : Window → Type 0 = λ v. AreLaid (IsCaller h) (entry_frame k) ending_stub new a.older fp v back [] in
    let Q : Window → Type 0 = λ w. AreLaid (IsCaller h) (entry_frame k) ending_stub new a.older (w 14) (saved_at new (w 14)) (w 15 + 8) [] in
    let R : Window → Type 0 = λ w. IsRoomy h a.body sp (w 14) in
    record {
      body = a.body;
      number = a.number;
      poll = a.poll;
      frame = subst R (sym e) a.frame;
      older = a.older;
      counted = a.counted;
      few = a.few;
      callers = subst Q (sym e) (subst P (sym f) g);
    }

-- over another host where polls, frames and callers are such
pub take_up_as : (h to : Host) → ((pc b n : ℕ) → IsPoll h pc b n → IsPoll to pc b n) → ((b sp fp : ℕ) → IsRoomy h b sp fp → IsRoomy to b sp fp) → ((pc sp fp : ℕ) → IsCaller h pc sp fp → IsCaller to pc sp fp)
    → (memory : Words) (k sp pc count : ℕ) → CanTakeUp h memory k sp pc count → CanTakeUp to memory k sp pc count
take_up_as h to poll frame caller memory k sp pc count a = record {
  body = a.body;
  number = a.number;
  poll = poll pc a.body a.number a.poll;
  frame = frame a.body sp (saved_at memory sp 14) a.frame;
  older = a.older;
  counted = a.counted;
  few = a.few;
  callers = laid_as (IsCaller h) (IsCaller to) (entry_frame k) ending_stub memory a.older (saved_at memory sp 14) (saved_at memory (saved_at memory sp 14)) (saved_at memory sp 15 + 8) [] caller a.callers;
}

-- where the machine has gone on over the same code
pub take_up_on : (h : Host) (m : MachineState) → SameCode h.machine.memory m.memory → (memory : Words) (k sp pc count : ℕ) → CanTakeUp h memory k sp pc count → CanTakeUp (with_machine h m) memory k sp pc count
take_up_on h m low =
    take_up_as h (with_machine h m) (λ pc b n p. record { at = p.at; unit = unit_kept h m b p.at low p.unit; inside = p.inside; address = p.address })
    (λ b sp fp r. record { ends = r.ends; place = r.place }) (λ pc sp fp c. caller_kept h m pc sp fp low c)

-- and both
pub taken_up_on : (h : Host) (m : MachineState) → Frames (descriptor_at h) (IsHeld h) → SameCode h.machine.memory m.memory → (k sp pc count : ℕ) → SameBetween sp (entry_frame k + 64) h.machine.memory m.memory → CanTakeUp h h.machine.memory k sp pc count
    → CanTakeUp (with_machine h m) m.memory k sp pc count
taken_up_on h m frames low k sp pc count same a = take_up_on h m low m.memory k sp pc count (take_up_kept h frames h.machine.memory m.memory k sp pc count same a)
