-- From one instruction to the next.
use Rattle.std.proofs.Common.{◌≡◌, ℕ, zero, suc, ◌+◌, ◌*◌, ◌%◌, ◌^◌, ◌<◌, ◌≤◌, refl, ◌∙◌, ap, sym, subst, arith}
use Rattle.std.specs.Prelude.{Option, Some, None, List, [], ◌∷◌, ◌++◌, length, Bool, false, not, nat_eq, ◌&&◌, if◌then◌else◌}
use Rattle.sparc_insn.specs.declared.insn.Insn.{Insn}
use Rattle.sparc_insn.specs.Instructions.{instruction}
use Rattle.sparc_store.specs.Words.{Words, word_at, with_word}
use Rattle.sparc_store.proofs.Placed.{others_stay}
use Rattle.sparc_machine.specs.State.{MachineState, with_reg}
use Rattle.sparc_machine.specs.Table.{effect, CanDo}
use Rattle.sparc_machine.specs.Running.{fetch, trap_of, CanStep, CanFetch}
use Rattle.plain_words.specs.Going.{Stepped, Goes, IsTrap, At, Stands, IsCodeFrom}

pub goes_none : (m : MachineState) → Goes 0 m m
unfolding Goes
goes_none m = refl

pub goes_on : (n : ℕ) (m next to : MachineState) → Stepped m next → Goes n next to → Goes (suc n) m to
unfolding Goes
goes_on n m next to s g = (next, s, g)

by_count : (a b : ℕ) (m to : MachineState) → a ≡ b → Goes a m to → Goes b m to
by_count a b m to e g = rw (← e) g

pub goes_then : (a b : ℕ) (m x to : MachineState) → Goes a m x → Goes b x to → Goes (a + b) m to
unfolding Goes
goes_then zero b m x to g h = by_count b (0 + b) m to (omega arith) (let P : MachineState → Type 0 = λ z. Goes b z to in subst P g h)
goes_then (suc a) b m x to g h = by_count (suc (a + b)) (suc a + b) m to (omega arith) (goes_on (a + b) m g.0 to g.1 (goes_then a b g.0 x to g.2 h))

-- a word wraps only past its last
pub unwrapped : (n : ℕ) → n < 2 ^ 32 → n % 2 ^ 32 ≡ n
unwrapped n h = omega arith

pub on : (pc npc p q : ℕ) → Stands pc npc p q → q + 4 < 2 ^ 32 → Stands npc ((npc + 4) % 2 ^ 32) q (q + 4)
on pc npc p q h room = record { here = h.next; next = ap (λ n. (n + 4) % 2 ^ 32) h.next ∙ unwrapped (q + 4) room }

pub jumps : (pc npc p q n : ℕ) → Stands pc npc p q → p + 4 * n < 2 ^ 32 → Stands npc ((pc + 4 * n) % 2 ^ 32) q (p + 4 * n)
jumps pc npc p q n h room = record { here = h.next; next = ap (λ z. (z + 4 * n) % 2 ^ 32) h.here ∙ unwrapped (p + 4 * n) room }

pub stands_as : (pc npc p q p' q' : ℕ) → Stands pc npc p q → p ≡ p' → q ≡ q' → Stands pc npc p' q'
stands_as pc npc p q p' q' h e f = record { here = h.here ∙ e; next = h.next ∙ f }

-- the instruction of an address, where the machine stands there
pub fetched : (m : MachineState) (p q : ℕ) (i : Insn) → Stands m.pc m.npc p q → instruction (word_at m.memory p) ≡ Some i → fetch m ≡ Some i
fetched m p q i h e = ap (λ a. instruction (word_at m.memory a)) h.here ∙ e

can_fetch : (o : Option Insn) (m : MachineState) (i : Insn) → o ≡ Some i → CanDo i m → CanFetch o m
can_fetch o m i e can = let P : Option Insn → Type 0 = λ z. CanFetch z m in subst P (sym e) can

pub can_step : (m : MachineState) (p q words : ℕ) (i : Insn) → Stands m.pc m.npc p q → IsCodeFrom p (suc words) → instruction (word_at m.memory p) ≡ Some i → CanDo i m → CanStep m
can_step m p q words i h a e can = record {
  aligned = ap (λ z. z % 4) h.here ∙ a.aligned;
  from = omega (arith, h.here, a.from);
  to = omega (arith, h.here, a.to);
  can = can_fetch (fetch m) m i (fetched m p q i h e) can;
}

pub stepped_to : (m next : MachineState) (p q words : ℕ) (i : Insn) → Stands m.pc m.npc p q → IsCodeFrom p (suc words) → instruction (word_at m.memory p) ≡ Some i → trap_of (Some i) ≡ None → CanDo i m → next ≡ effect i m → Stepped m next
stepped_to m next p q words i h a e goes can is = record { insn = i; fetched = fetched m p q i h e; goes = goes; can = can_step m p q words i h a e can; is = is }

pub stepped : (m : MachineState) (p q words : ℕ) (i : Insn) → Stands m.pc m.npc p q → IsCodeFrom p (suc words) → instruction (word_at m.memory p) ≡ Some i → trap_of (Some i) ≡ None → CanDo i m → Stepped m (effect i m)
stepped m p q words i h a e goes can = stepped_to m (effect i m) p q words i h a e goes can refl

pub at_trap : (m : MachineState) (p q words t : ℕ) (i : Insn) → Stands m.pc m.npc p q → IsCodeFrom p (suc words) → instruction (word_at m.memory p) ≡ Some i → trap_of (Some i) ≡ Some t → CanDo i m → IsTrap t m
at_trap m p q words t i h a e trap can = record { trap = ap trap_of (fetched m p q i h e) ∙ trap; can = can_step m p q words i h a e can }

-- the words behind the first
pub code_behind : (p words : ℕ) → IsCodeFrom p (suc words) → IsCodeFrom (p + 4) words
code_behind p words a = record { aligned = omega (arith, a.aligned); from = omega (arith, a.from); to = omega (arith, a.to) }

-- a store outside the code region leaves the code
pub at_stored : (is : List Insn) (memory : Words) (p a w : ℕ) → p + 4 * length is ≤ a → At memory p is → At (with_word memory a w) p is
at_stored [] memory p a w above h = tt
at_stored (i ∷ is) memory p a w above h =
    (ap instruction (others_stay memory a w p (omega arith)) ∙ h.0, at_stored is memory (p + 4) a w (omega arith) h.1)

-- two stretches, one behind the other
pub at_front : (memory : Words) (p : ℕ) (front rest : List Insn) → At memory p (front ++ rest) → At memory p front
at_front memory p [] rest h = tt
at_front memory p (i ∷ is) rest h = (h.0, at_front memory (p + 4) is rest h.1)

pub at_behind : (memory : Words) (p : ℕ) (front rest : List Insn) → At memory p (front ++ rest) → At memory (p + 4 * length front) rest
at_behind memory p [] rest h = let P : ℕ → Type 0 = λ a. At memory a rest in let e : p ≡ p + 4 * 0 = omega arith in subst P e h
at_behind memory p (i ∷ is) rest h =
    let P : ℕ → Type 0 = λ a. At memory a rest in
    let e : p + 4 + 4 * length is ≡ p + 4 * suc (length is) = omega arith in
    subst P e (at_behind memory (p + 4) is rest h.1)

-- another register keeps its word
by_number : (b : Bool) (rd w r : ℕ) (regs : ℕ → ℕ) → b ≡ false → (if b && not (nat_eq rd 0) then w else regs r) ≡ regs r
by_number b rd w r regs e = rw e refl

pub other_register : (regs : ℕ → ℕ) (rd w r : ℕ) → nat_eq r rd ≡ false → with_reg regs rd w r ≡ regs r
other_register regs rd w r e = by_number (nat_eq r rd) rd w r regs e
