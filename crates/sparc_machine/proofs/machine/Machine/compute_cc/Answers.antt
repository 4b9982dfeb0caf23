use Rattle.std.proofs.Common.{◌≡◌, ℕ, refl}
use Rattle.sparc_insn.specs.declared.insn.Op3.{Op3}
use Rattle.sparc_insn.specs.declared.insn.Op3.TheVariants as ops
use Rattle.sparc_machine.specs.declared.work.Work.TheVariants.{ComputeCc}
use Rattle.sparc_machine.specs.State.{MachineState, Flags, put}
use Rattle.sparc_machine.specs.Held.{state}
use Rattle.sparc_machine.specs.Alu.{alu, flags_after}
use Rattle.sparc_machine.specs.Table.{went, three}
use Rattle.sparc_machine.specs.Work.{work_of}
use Rattle.sparc_machine.proofs.machine.Machine.compute_cc.Goals as goal

cc_row : (op : Op3) (rd x v r : ℕ) (icc : Flags) (m : MachineState) → work_of op ≡ ComputeCc → r ≡ alu op x v → icc ≡ flags_after op x v m.icc
    → went (put (record m { icc = icc }) rd r) ≡ three op rd x v m
cc_row ops.AddCc rd x v r icc m w e f = rw (e, f) refl
cc_row ops.SubCc rd x v r icc m w e f = rw (e, f) refl
cc_row ops.TaddCc rd x v r icc m w e f = rw (e, f) refl
cc_row ops.TsubCc rd x v r icc m w e f = rw (e, f) refl
cc_row ops.AndCc rd x v r icc m w e f = rw (e, f) refl
cc_row ops.OrCc rd x v r icc m w e f = rw (e, f) refl
cc_row ops.XorCc rd x v r icc m w e f = rw (e, f) refl
cc_row _ rd x v r icc m w e f = absurd (cc)

pub returns : goal.returns
returns c =
    rw (c.go_on.ensures, c.set.ensures, c.set_icc.ensures) (cc_row c.args.op c.args.rd c.args.x c.args.v _ _ (state c.args.self.now) c.requires.work c.alu.ensures (c.flags_of.ensures _))
