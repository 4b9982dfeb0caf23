-- Straight code: sums, loads and stores one after the other.
use Rattle.std.proofs.Common.{◌≡◌, ℕ, suc, ◌+◌, ◌*◌, ◌%◌, ◌^◌, ◌≤◌, refl, ◌∙◌, ap, arith}
use Rattle.std.specs.Prelude.{Some, None, List, [], ◌∷◌, ◌++◌, length, Bool, true, false, not, nat_eq, ◌&&◌, ◌||◌, if◌then◌else◌}
use Rattle.std.proofs.lemmas.Bool.{eqb-true}
use Rattle.sparc_insn.specs.declared.insn.Insn.{Insn}
use Rattle.sparc_insn.specs.declared.insn.Insn.TheVariants.{Sethi, Three, Trap}
use Rattle.sparc_insn.specs.declared.insn.Operand.{Operand}
use Rattle.sparc_insn.specs.declared.insn.Op3.{Op3}
use Rattle.sparc_insn.specs.declared.insn.Op3.TheVariants as ops
use Rattle.sparc_store.specs.Words.{HasWord}
use Rattle.sparc_machine.specs.State.{MachineState, with_reg}
use Rattle.sparc_machine.specs.Alu.{add}
use Rattle.sparc_machine.specs.Table.{effect, operand, CanDo}
use Rattle.sparc_machine.specs.Running.{trap_of}
use Rattle.plain_words.specs.Going.{Goes, At, StandsAt, IsCodeFrom}
use Rattle.plain_words.specs.Moves.{is_scratch}
use Rattle.plain_words.proofs.Basics.{goes_none, goes_on, on, stepped, code_behind, at_stored, other_register, stands_as}

abbrev pub straight_op : Op3 → Bool
straight_op ops.Add = true
straight_op ops.Sub = true
straight_op ops.Or = true
straight_op ops.SubCc = true
straight_op ops.TaddCc = true
straight_op ops.TsubCc = true
straight_op ops.Ld = true
straight_op ops.St = true
straight_op _ = false

abbrev pub is_straight : Insn → Bool
is_straight (Sethi rd imm) = true
is_straight (Three op rd rs1 from) = straight_op op
is_straight _ = false

abbrev pub all_straight : List Insn → Bool
all_straight [] = true
all_straight (i ∷ is) = if is_straight i then all_straight is else false

-- a load and a store have their address, and a store leaves the code region alone
abbrev pub CanGo : Insn → MachineState → Type 0
CanGo (Three ops.Ld rd rs1 from) m = HasWord (add (m.regs rs1) (operand m from))
CanGo (Three ops.St rd rs1 from) m = HasWord (add (m.regs rs1) (operand m from)) × (0x20000000 ≤ add (m.regs rs1) (operand m from))
CanGo _ m = Unit {0}

abbrev pub straight : List Insn → MachineState → MachineState
straight [] m = m
straight (i ∷ is) m = straight is (effect i m)

abbrev pub CanAll : List Insn → MachineState → Type 0
CanAll [] m = Unit {0}
CanAll (i ∷ is) m = CanGo i m × CanAll is (effect i m)

first_of_both : (b c : Bool) → (if b then c else false) ≡ true → b ≡ true
first_of_both true c h = refl
first_of_both false c h = h

second_of_both : (b c : Bool) → (if b then c else false) ≡ true → c ≡ true
second_of_both true c h = h
second_of_both false c h = absurd (cc)

three_next : (op : Op3) (rd rs1 : ℕ) (from : Operand) (m : MachineState) → straight_op op ≡ true → ((effect (Three op rd rs1 from) m).pc ≡ m.npc) × ((effect (Three op rd rs1 from) m).npc ≡ (m.npc + 4) % 2 ^ 32)
three_next ops.Add rd rs1 from m h = (refl, refl)
three_next ops.Sub rd rs1 from m h = (refl, refl)
three_next ops.Or rd rs1 from m h = (refl, refl)
three_next ops.SubCc rd rs1 from m h = (refl, refl)
three_next ops.TaddCc rd rs1 from m h = (refl, refl)
three_next ops.TsubCc rd rs1 from m h = (refl, refl)
three_next ops.Ld rd rs1 from m h = (refl, refl)
three_next ops.St rd rs1 from m h = (refl, refl)
three_next _ rd rs1 from m h = absurd (cc)

next_of : (i : Insn) (m : MachineState) → is_straight i ≡ true → ((effect i m).pc ≡ m.npc) × ((effect i m).npc ≡ (m.npc + 4) % 2 ^ 32)
next_of (Sethi rd imm) m h = (refl, refl)
next_of (Three op rd rs1 from) m h = three_next op rd rs1 from m h
next_of _ m h = absurd (cc)

three_can : (op : Op3) (rd rs1 : ℕ) (from : Operand) (m : MachineState) → straight_op op ≡ true → CanGo (Three op rd rs1 from) m → CanDo (Three op rd rs1 from) m
three_can ops.Add rd rs1 from m h c = tt
three_can ops.Sub rd rs1 from m h c = tt
three_can ops.Or rd rs1 from m h c = tt
three_can ops.SubCc rd rs1 from m h c = tt
three_can ops.TaddCc rd rs1 from m h c = tt
three_can ops.TsubCc rd rs1 from m h c = tt
three_can ops.Ld rd rs1 from m h c = c
three_can ops.St rd rs1 from m h c = c.0
three_can _ rd rs1 from m h c = absurd (cc)

can_of : (i : Insn) (m : MachineState) → is_straight i ≡ true → CanGo i m → CanDo i m
can_of (Sethi rd imm) m h c = tt
can_of (Three op rd rs1 from) m h c = three_can op rd rs1 from m h c
can_of _ m h c = absurd (cc)

three_trap : (i : Insn) → is_straight i ≡ true → trap_of (Some i) ≡ None
three_trap (Trap n) h = absurd (cc)
three_trap _ h = refl

three_code : (op : Op3) (rd rs1 : ℕ) (from : Operand) (m : MachineState) (q : ℕ) (is : List Insn) → straight_op op ≡ true → CanGo (Three op rd rs1 from) m → q + 4 * length is ≤ 0x20000000
    → At m.memory q is → At (effect (Three op rd rs1 from) m).memory q is
three_code ops.Add rd rs1 from m q is h c low at = at
three_code ops.Sub rd rs1 from m q is h c low at = at
three_code ops.Or rd rs1 from m q is h c low at = at
three_code ops.SubCc rd rs1 from m q is h c low at = at
three_code ops.TaddCc rd rs1 from m q is h c low at = at
three_code ops.TsubCc rd rs1 from m q is h c low at = at
three_code ops.Ld rd rs1 from m q is h c low at = at
three_code ops.St rd rs1 from m q is h c low at = at_stored is m.memory q (add (m.regs rs1) (operand m from)) (m.regs rd) (omega (arith, c.1)) at
three_code _ rd rs1 from m q is h c low at = absurd (cc)

code_kept : (i : Insn) (m : MachineState) (q : ℕ) (is : List Insn) → is_straight i ≡ true → CanGo i m → q + 4 * length is ≤ 0x20000000 → At m.memory q is → At (effect i m).memory q is
code_kept (Sethi rd imm) m q is h c low at = at
code_kept (Three op rd rs1 from) m q is h c low at = three_code op rd rs1 from m q is h c low at
code_kept _ m q is h c low at = absurd (cc)

-- straight code is done, one instruction after the other
pub goes_straight : (is : List Insn) (m : MachineState) (p : ℕ) → StandsAt m p → IsCodeFrom p (length is) → At m.memory p is → all_straight is ≡ true → CanAll is m
    → Goes (length is) m (straight is m) × StandsAt (straight is m) (p + 4 * length is)
goes_straight [] m p s a at all can = (goes_none m, stands_as m.pc m.npc p (p + 4) (p + 4 * 0) (p + 4 * 0 + 4) s (omega arith) (omega arith))
goes_straight (i ∷ is) m p s a at all can =
    let one = first_of_both (is_straight i) (all_straight is) all in
    let more = second_of_both (is_straight i) (all_straight is) all in
    let n = next_of i m one in
    let s1 = on m.pc m.npc p (p + 4) s (omega (arith, a.to)) in
    let s2 : StandsAt (effect i m) (p + 4) = record { here = n.0 ∙ s1.here; next = n.1 ∙ s1.next } in
    let b = code_behind p (length is) a in
    let at2 = code_kept i m (p + 4) is one can.0 (omega (arith, b.to)) at.1 in
    let rest = goes_straight is (effect i m) (p + 4) s2 b at2 more can.1 in
    let there = rest.1 in (
      goes_on (length is) m (effect i m) (straight is (effect i m)) (stepped m p (p + 4) (length is) i s a at.0 (three_trap i one) (can_of i m one can.0)) rest.0,
      stands_as _ _ (p + 4 + 4 * length is) (p + 4 + 4 * length is + 4) (p + 4 * suc (length is)) (p + 4 * suc (length is) + 4) there (omega arith) (omega arith),
    )

-- What stays.

-- a register whose writing leaves all that isn't scratch; register 0 takes no write
abbrev pub spared : ℕ → Bool
spared rd = nat_eq rd 0 || is_scratch rd

abbrev pub spares : Insn → Bool
spares (Sethi rd imm) = spared rd
spares (Three ops.St rd rs1 from) = true
spares (Three op rd rs1 from) = spared rd
spares _ = false

abbrev pub all_spare : List Insn → Bool
all_spare [] = true
all_spare (i ∷ is) = if spares i then all_spare is else false

apart_number : (b : Bool) (r rd : ℕ) → nat_eq r rd ≡ b → is_scratch rd ≡ true → is_scratch r ≡ false → nat_eq r rd ≡ false
apart_number false r rd e s k = e
apart_number true r rd e s k =
    let h : r ≡ rd = eqb-true r rd e in
    let g : is_scratch r ≡ is_scratch rd = ap is_scratch h in
    absurd (cc)

no_write : (b : Bool) (w v : ℕ) → (if b && not true then w else v) ≡ v
no_write true w v = refl
no_write false w v = refl

pub zero_takes : (regs : ℕ → ℕ) (w r : ℕ) → with_reg regs 0 w r ≡ regs r
zero_takes regs w r = no_write (nat_eq r 0) w (regs r)

by_zero : (b : Bool) (regs : ℕ → ℕ) (rd w r : ℕ) → nat_eq rd 0 ≡ b → (b || is_scratch rd) ≡ true → is_scratch r ≡ false → with_reg regs rd w r ≡ regs r
by_zero true regs rd w r e s k = ap (λ d. with_reg regs d w r) (eqb-true rd 0 e) ∙ zero_takes regs w r
by_zero false regs rd w r e s k = other_register regs rd w r (apart_number (nat_eq r rd) r rd refl s k)

-- a register that isn't scratch keeps its word
pub put_spares : (regs : ℕ → ℕ) (rd w r : ℕ) → spared rd ≡ true → is_scratch r ≡ false → with_reg regs rd w r ≡ regs r
put_spares regs rd w r s k = by_zero (nat_eq rd 0) regs rd w r refl s k

three_spares : (op : Op3) (rd rs1 : ℕ) (from : Operand) (m : MachineState) (r : ℕ) → straight_op op ≡ true → spares (Three op rd rs1 from) ≡ true → is_scratch r ≡ false
    → (effect (Three op rd rs1 from) m).regs r ≡ m.regs r
three_spares ops.Add rd rs1 from m r h s k = put_spares m.regs rd _ r s k
three_spares ops.Sub rd rs1 from m r h s k = put_spares m.regs rd _ r s k
three_spares ops.Or rd rs1 from m r h s k = put_spares m.regs rd _ r s k
three_spares ops.SubCc rd rs1 from m r h s k = put_spares m.regs rd _ r s k
three_spares ops.TaddCc rd rs1 from m r h s k = put_spares m.regs rd _ r s k
three_spares ops.TsubCc rd rs1 from m r h s k = put_spares m.regs rd _ r s k
three_spares ops.Ld rd rs1 from m r h s k = put_spares m.regs rd _ r s k
three_spares ops.St rd rs1 from m r h s k = refl
three_spares _ rd rs1 from m r h s k = absurd (cc)

one_spares : (i : Insn) (m : MachineState) (r : ℕ) → is_straight i ≡ true → spares i ≡ true → is_scratch r ≡ false → (effect i m).regs r ≡ m.regs r
one_spares (Sethi rd imm) m r h s k = put_spares m.regs rd _ r s k
one_spares (Three op rd rs1 from) m r h s k = three_spares op rd rs1 from m r h s k
one_spares _ m r h s k = absurd (cc)

pub straight_spares : (is : List Insn) (m : MachineState) (r : ℕ) → all_straight is ≡ true → all_spare is ≡ true → is_scratch r ≡ false → (straight is m).regs r ≡ m.regs r
straight_spares [] m r h s k = refl
straight_spares (i ∷ is) m r h s k =
    straight_spares is (effect i m) r (second_of_both (is_straight i) (all_straight is) h) (second_of_both (spares i) (all_spare is) s) k
    ∙ one_spares i m r (first_of_both (is_straight i) (all_straight is) h) (first_of_both (spares i) (all_spare is) s) k

-- no frame comes or goes
three_older : (op : Op3) (rd rs1 : ℕ) (from : Operand) (m : MachineState) → straight_op op ≡ true → (effect (Three op rd rs1 from) m).older ≡ m.older
three_older ops.Add rd rs1 from m h = refl
three_older ops.Sub rd rs1 from m h = refl
three_older ops.Or rd rs1 from m h = refl
three_older ops.SubCc rd rs1 from m h = refl
three_older ops.TaddCc rd rs1 from m h = refl
three_older ops.TsubCc rd rs1 from m h = refl
three_older ops.Ld rd rs1 from m h = refl
three_older ops.St rd rs1 from m h = refl
three_older _ rd rs1 from m h = absurd (cc)

one_older : (i : Insn) (m : MachineState) → is_straight i ≡ true → (effect i m).older ≡ m.older
one_older (Sethi rd imm) m h = refl
one_older (Three op rd rs1 from) m h = three_older op rd rs1 from m h
one_older _ m h = absurd (cc)

pub straight_older : (is : List Insn) (m : MachineState) → all_straight is ≡ true → (straight is m).older ≡ m.older
straight_older [] m h = refl
straight_older (i ∷ is) m h =
    straight_older is (effect i m) (second_of_both (is_straight i) (all_straight is) h) ∙ one_older i m (first_of_both (is_straight i) (all_straight is) h)

-- the code elsewhere stays
pub code_stays : (is : List Insn) (m : MachineState) (q : ℕ) (js : List Insn) → all_straight is ≡ true → CanAll is m → q + 4 * length js ≤ 0x20000000 → At m.memory q js → At (straight is m).memory q js
code_stays [] m q js h c low at = at
code_stays (i ∷ is) m q js h c low at =
    code_stays is (effect i m) q js (second_of_both (is_straight i) (all_straight is) h) c.1 low (code_kept i m q js (first_of_both (is_straight i) (all_straight is) h) c.0 low at)

-- Two stretches of straight code.

either : (x : Bool) (a b : Bool) → (if x then a else false) ≡ true → (a ≡ true → b ≡ true) → (if x then b else false) ≡ true
either true a b h f = f h
either false a b h f = h

pub both_straight : (xs ys : List Insn) → all_straight xs ≡ true → all_straight ys ≡ true → all_straight (xs ++ ys) ≡ true
both_straight [] ys a b = b
both_straight (x ∷ xs) ys a b = either (is_straight x) (all_straight xs) (all_straight (xs ++ ys)) a (λ h. both_straight xs ys h b)

pub both_spare : (xs ys : List Insn) → all_spare xs ≡ true → all_spare ys ≡ true → all_spare (xs ++ ys) ≡ true
both_spare [] ys a b = b
both_spare (x ∷ xs) ys a b = either (spares x) (all_spare xs) (all_spare (xs ++ ys)) a (λ h. both_spare xs ys h b)

pub can_both : (xs ys : List Insn) (m : MachineState) → CanAll xs m → CanAll ys (straight xs m) → CanAll (xs ++ ys) m
can_both [] ys m a b = b
can_both (x ∷ xs) ys m a b = (a.0, can_both xs ys (effect x m) a.1 b)

pub straight_on : (xs ys : List Insn) (m : MachineState) → straight (xs ++ ys) m ≡ straight ys (straight xs m)
straight_on [] ys m = refl
straight_on (x ∷ xs) ys m = straight_on xs ys (effect x m)
