use Rattle.std.proofs.Common.{◌<◌, ◌∙◌, length, arith}
use Rattle.std.proofs.lemmas.Grind.{common_steps}
use Rattle.io_ports.proofs.Filing.{reads_on, all_read, front_is}
use Rattle.io_ports.proofs.reading.read_file.Goals as goal

pub returns-in_err-n-clause-later : goal.returns-in_err-n-clause-later
returns-in_err-n-clause-later g c = λ n. omega (arith, c.loop-buffer.invariant.later n, c.in_err-n.ensures.later n)

pub returns-then-n-eq0-clause-later : goal.returns-then-n-eq0-clause-later
returns-then-n-eq0-clause-later g c = λ n. omega (arith, c.loop-buffer.invariant.later n, c.in_ok-n.ensures.later n)

pub returns-in_err-extend_from_slice-clause-later : goal.returns-in_err-extend_from_slice-clause-later
returns-in_err-extend_from_slice-clause-later g c = λ n. omega (arith, c.loop-buffer.invariant.later n, c.in_ok-n.ensures.later n)

pub returns-clause-later : goal.returns-clause-later
returns-clause-later g c = c.loop-buffer.invariant.later

pub returns-then-n-eq0-clause-all : goal.returns-then-n-eq0-clause-all
returns-then-n-eq0-clause-all g c = λ w e.
    let f = rw (← c.len-in-loop-buffer-2.ensures) at (c.loop-buffer.invariant.so_far w e) in
    let room : 0 < length c.read_at.new.into = grind (arith, common_steps) in
    all_read _ _ w _ _ _ _ (c.loop-buffer.invariant.same _ ∙ e) c.in_ok-n.ensures.bytes c.if-n-eq0.true room f

pub loop-buffer-preserved : goal.loop-buffer-preserved
loop-buffer-preserved g c = record {
  same = λ n. c.in_ok-n.ensures.same n ∙ c.loop-buffer.invariant.same n;
  so_far = λ w e.
      let so_far = rw (← c.len-in-loop-buffer-2.ensures) at (c.loop-buffer.invariant.so_far w e) in
      let f = reads_on _ _ w _ _ _ _ (c.loop-buffer.invariant.same _ ∙ e) c.in_ok-n.ensures.bytes so_far in
      front_is w _ _ _ _ f c.in_ok-extend_from_slice.ensures.items (grind (arith, common_steps));
  later = λ n. omega (arith, c.loop-buffer.invariant.later n, c.in_ok-n.ensures.later n);
  short = grind (arith, common_steps);
}
