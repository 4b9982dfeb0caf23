-- Nodes whose words are straight code of known length.
use Rattle.std.proofs.Common.{ℕ, ◌+◌, ◌*◌, ◌/◌, ◌%◌, ◌^◌, ◌<◌, refl, ◌∙◌, ap, arith}
use Rattle.std.specs.Prelude.{bit_or}
use Rattle.sparc_store.specs.Words.{with_word}
use Rattle.sparc_machine.specs.State.{MachineState}
use Rattle.frame_walk.specs.Places.{pending_offset}
use Rattle.plain_words.specs.Code.{constant_code, self_code, drop_code}
use Rattle.plain_words.specs.Moves.{IsReady, Does, pended}
use Rattle.plain_words.proofs.Placing.{placed, two_parts}
use Rattle.plain_words.proofs.Polls.{node_does}

pub constant_does : (m : MachineState) (p words locals k word : ℕ) → IsReady m p words (constant_code locals k word) → 27 + locals + k < words → Does m p (constant_code locals k word) (pended m locals k word)
constant_does m p words locals k word r room =
    let d = placed (m.regs 14) words (pending_offset locals k) r.frame (omega arith) (omega arith) in
    node_does (constant_code locals k word) m p words (pended m locals k word) r refl refl
    (tt, (tt, ((d.has, d.outside), (tt, tt))))
    (ap (λ a. with_word m.memory a (bit_or (word / 1024 * 2 ^ 10) (word % 1024))) d.address ∙ ap (with_word m.memory (m.regs 14 + pending_offset locals k)) (two_parts word))
    refl

pub self_does : (m : MachineState) (p words locals k : ℕ) → IsReady m p words (self_code locals k) → 27 + locals + k < words → Does m p (self_code locals k) (pended m locals k (m.regs 24))
self_does m p words locals k r room =
    let d = placed (m.regs 14) words (pending_offset locals k) r.frame (omega arith) (omega arith) in
    node_does (self_code locals k) m p words (pended m locals k (m.regs 24)) r refl refl
    ((d.has, d.outside), (tt, tt))
    (ap (λ a. with_word m.memory a (m.regs 24)) d.address)
    refl

pub drop_does : (m : MachineState) (p words : ℕ) → IsReady m p words drop_code → Does m p drop_code m.memory
drop_does m p words r = node_does drop_code m p words m.memory r refl refl (tt, tt) refl refl
