-- Two calls of a sink, one after the other.
use Rattle.std.proofs.Common.{ℕ, ◌+◌, ◌≤◌, List, take, drop, append_assoc, take-take}
use Rattle.std.specs.Prelude.{Option, Some, None}
use Rattle.std.proofs.Math.Seq.{take-add}
use Rattle.io_ports.specs.Causes.{Takes}

-- After the first m bytes the sink takes n more of a piece from there on.
pub takes_more : (a b c : Option (List ℕ)) (m n room : ℕ) (bytes : List ℕ) → n ≤ room → Takes a b (take m bytes) → Takes b c (take n (take room (drop m bytes))) → Takes a c (take (m + n) bytes)
takes_more a b None m n room bytes le h k = tt
takes_more a None (Some z) m n room bytes le h k = absurd k
takes_more None (Some y) (Some z) m n room bytes le h k = absurd h
takes_more (Some x) (Some y) (Some z) m n room bytes le h k =
    rw (k, h, take-take, take-add) (append_assoc x (take m bytes) (take n (drop m bytes)))
