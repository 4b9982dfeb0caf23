use Rattle.std.proofs.Common.{◌≡◌, ◌≤◌, ◌+◌, ◌-◌, List, ℕ, vec_len}
use Rattle.std.specs.Prelude.{Some}
use Rattle.io_ports.proofs.Filing.{IsFront}
use Rattle.io_ports.proofs.reading.read_file.Given as goal

abbrev pub invariant-loop-buffer : goal.invariant-loop-buffer
invariant-loop-buffer g l =
    let bytes_of = g.F.Files.bytes_of in
    let faults_of = g.F.Files.faults_of in
    record {
      same : (n : List ℕ) → bytes_of l.files n ≡ bytes_of l.fn.files n;
      so_far : (w : List ℕ) → bytes_of l.fn.files l.name ≡ Some w → IsFront w l.bytes.items (vec_len l.bytes);
      later : (n : List ℕ) → faults_of l.fn.files n ≤ faults_of l.files n;
      short : vec_len l.bytes ≤ l.limit + 1;
    }

abbrev pub decreases-loop-buffer : goal.decreases-loop-buffer
decreases-loop-buffer g l = l.limit + 1 - vec_len l.bytes
