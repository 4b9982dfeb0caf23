-- A method is entered.
use Rattle.std.proofs.Common.{◌≡◌, ℕ, zero, suc, ◌+◌, ◌-◌, ◌*◌, ◌/◌, ◌%◌, ◌^◌, ◌<◌, ◌≤◌, refl, ◌∙◌, ap, sym, subst, arith, inl}
use Rattle.std.specs.Prelude.{Bool, true, false, if◌then◌else◌, nat_eq, bit_or, ◌&&◌, not, List, [], ◌∷◌, ◌++◌, length, pos, negsuc}
use Rattle.std.specs.Int.Bits.{or_zero_r}
use Rattle.sparc_insn.specs.declared.insn.Insn.{Insn}
use Rattle.sparc_insn.specs.declared.insn.Insn.TheVariants.{Three, Branch}
use Rattle.sparc_insn.specs.declared.insn.Operand.TheVariants.{Imm}
use Rattle.sparc_insn.specs.declared.insn.Op3.TheVariants as ops
use Rattle.sparc_insn.specs.Instructions.{instruction}
use Rattle.sparc_store.specs.Words.{Words, word_at, with_word, HasWord, HasFrame, IsWithin}
use Rattle.sparc_store.specs.Windows.{IsPlace, with_room, is_full, words_of, oldest, oldest_at, with_spilled}
use Rattle.sparc_store.proofs.Framing.{framed}
use Rattle.sparc_machine.specs.State.{MachineState, with_reg}
use Rattle.sparc_machine.specs.Alu.{add}
use Rattle.sparc_machine.specs.Table.{effect, transferred, jumped, words_on, branched}
use Rattle.frame_walk.specs.Places.{holder_offset, local_offset}
use Rattle.plain_words.specs.Going.{Stepped, Goes, At, StandsAt, IsCodeFrom}
use Rattle.plain_words.specs.Code.{store, move, plus, count, set_word, holder_code, argument_stores, initial_stores, kept_code, method_code}
use Rattle.plain_words.specs.Moves.{CanEnter, Enters, entered_memory, handed_holder, with_words, registers_from}
use Rattle.plain_words.proofs.Basics.{goes_then, goes_on, goes_none, on, jumps, stepped, stepped_to, at_front, at_behind, stands_as, other_register, unwrapped}
use Rattle.plain_words.proofs.Straight.{straight, all_straight, CanAll, goes_straight, both_straight, can_both, straight_on}
use Rattle.plain_words.proofs.Placing.{placed, two_parts}

-- The oldest frame that is held may be saved in its stack: the code stays.
pub at_apart : (is : List Insn) (old new : Words) (p : ℕ) → ((b : ℕ) → b < 0x20000000 → word_at new b ≡ word_at old b) → p + 4 * length is ≤ 0x20000000 → At old p is → At new p is
at_apart [] old new p same low h = tt
at_apart (i ∷ is) old new p same low h = (ap instruction (same p (omega arith)) ∙ h.0, at_apart is old new (p + 4) same (omega arith) h.1)

room_spares : (full : Bool) (memory : Words) (at : ℕ) (held : List (ℕ → ℕ)) (b : ℕ) → IsWithin memory → (full ≡ true → IsPlace (oldest_at at held)) → b < 0x20000000
    → word_at (if full then with_spilled memory at held else memory) b ≡ word_at memory b
room_spares true memory at held b whole place low = let p = place refl in (framed memory (oldest_at at held) (words_of (oldest held)) whole p).others b (inl (omega (arith, p.1)))
room_spares false memory at held b whole place low = refl

pub full_six : (held : List (ℕ → ℕ)) → is_full held ≡ true → 6 ≤ length held
full_six held h = grind arith

-- the registers of the new frame
abbrev pub saved : MachineState → ℕ → MachineState
saved m bytes = effect (Three ops.Save 14 14 (Imm (negsuc (bytes - 1)))) m

-- the arguments are kept
pub stores_straight : (register slot n : ℕ) → all_straight (argument_stores register slot n) ≡ true
stores_straight register slot zero = refl
stores_straight register slot (suc n) = stores_straight (register + 1) (slot + 1) n

pub initials_straight : (slot : ℕ) (ws : List ℕ) → all_straight (initial_stores slot ws) ≡ true
initials_straight slot [] = refl
initials_straight slot (w ∷ ws) = initials_straight (slot + 1) ws

next_place : (memory : Words) (sp slot : ℕ) (ws : List ℕ) → with_words memory (sp + local_offset (slot + 1)) ws ≡ with_words memory (sp + local_offset slot + 4) ws
next_place memory sp slot ws = ap (λ a. with_words memory a ws) (omega arith)

-- stores leave the registers
pub record Kept (t to : MachineState) (memory : Words) : Type 0 where
  pub memory_is : to.memory ≡ memory
  pub regs : to.regs ≡ t.regs
  pub older : to.older ≡ t.older

pub keeps : (n register slot : ℕ) (t : MachineState) (sp words : ℕ) → t.regs 14 ≡ sp → HasFrame sp words → 27 + slot + n ≤ words
    → CanAll (argument_stores register slot n) t × Kept t (straight (argument_stores register slot n) t) (with_words t.memory (sp + local_offset slot) (registers_from t.regs register n))
keeps zero register slot t sp words e f room = (tt, record { memory_is = refl; regs = refl; older = refl })
keeps (suc n) register slot t sp words e f room =
    let p = placed sp words (local_offset slot) f (omega arith) (omega arith) in
    let x = effect (store register 14 (local_offset slot)) t in
    let rest = keeps n (register + 1) (slot + 1) x sp words e f (omega arith) in
    let k = rest.1 in
    let Q : ℕ → Type 0 = λ z. HasWord (add z (local_offset slot)) × (0x20000000 ≤ add z (local_offset slot)) in
    let first : x.memory ≡ with_word t.memory (sp + local_offset slot) (t.regs register) = ap (λ z. with_word t.memory (add z (local_offset slot)) (t.regs register)) e ∙ ap (λ z. with_word t.memory z (t.regs register)) p.address in (
      (subst Q (sym e) (p.has, p.outside), rest.0),
      record {
        memory_is = k.memory_is ∙ next_place x.memory sp slot (registers_from t.regs (register + 1) n) ∙ ap (λ z. with_words z (sp + local_offset slot + 4) (registers_from t.regs (register + 1) n)) first;
        regs = k.regs;
        older = k.older;
      },
    )

-- the initial contents are kept; %g1 is all that changes beside
pub record KeptBut (t to : MachineState) (memory : Words) : Type 0 where
  pub memory_is : to.memory ≡ memory
  pub regs : (r : ℕ) → nat_eq r 1 ≡ false → to.regs r ≡ t.regs r
  pub older : to.older ≡ t.older

pub fills : (ws : List ℕ) (slot : ℕ) (t : MachineState) (sp words : ℕ) → t.regs 14 ≡ sp → HasFrame sp words → 27 + slot + length ws ≤ words
    → CanAll (initial_stores slot ws) t × KeptBut t (straight (initial_stores slot ws) t) (with_words t.memory (sp + local_offset slot) ws)
fills [] slot t sp words e f room = (tt, record { memory_is = refl; regs = λ r h. refl; older = refl })
fills (w ∷ ws) slot t sp words e f room =
    let p = placed sp words (local_offset slot) f (omega arith) (omega arith) in
    let y = straight (set_word 1 w) t in
    let x = effect (store 1 14 (local_offset slot)) y in
    let rest = fills ws (slot + 1) x sp words e f (omega arith) in
    let k = rest.1 in
    let Q : ℕ → Type 0 = λ z. HasWord (add z (local_offset slot)) × (0x20000000 ≤ add z (local_offset slot)) in
    let first : x.memory ≡ with_word t.memory (sp + local_offset slot) w =
    ap (λ z. with_word t.memory (add z (local_offset slot)) (bit_or (w / 1024 * 2 ^ 10) (w % 1024))) e ∙ ap (λ z. with_word t.memory z (bit_or (w / 1024 * 2 ^ 10) (w % 1024))) p.address ∙ ap (with_word t.memory (sp + local_offset slot)) (two_parts w) in (
      (tt, (tt, (subst Q (sym e) (p.has, p.outside), rest.0))),
      record {
        memory_is = k.memory_is ∙ next_place x.memory sp slot ws ∙ ap (λ z. with_words z (sp + local_offset slot + 4) ws) first;
        regs = λ r h. k.regs r h ∙ other_register (with_reg t.regs 1 (w / 1024 * 2 ^ 10)) 1 _ r h ∙ other_register t.regs 1 _ r h;
        older = k.older;
      },
    )

-- Words put behind one another.
pub with_words_both : (memory : Words) (at : ℕ) (xs ys : List ℕ) (to : ℕ) → to ≡ at + 4 * length xs → with_words (with_words memory at xs) to ys ≡ with_words memory at (xs ++ ys)
with_words_both memory at [] ys to e = ap (λ a. with_words memory a ys) (omega (arith, e))
with_words_both memory at (x ∷ xs) ys to e = with_words_both (with_word memory at x) (at + 4) xs ys to (omega (arith, e))

pub from_to : (n r s : ℕ) (f g : ℕ → ℕ) → ((j : ℕ) → j < n → f (r + j) ≡ g (s + j)) → registers_from f r n ≡ registers_from g s n
from_to zero r s f g h = refl
from_to (suc n) r s f g h =
    let first : f r ≡ g s = ap f (omega arith) ∙ h 0 (omega arith) ∙ ap g (omega arith) in
    let rest = from_to n (r + 1) (s + 1) f g (λ j lt. ap f (omega arith) ∙ h (suc j) (omega arith) ∙ ap g (omega arith)) in
    ap (λ w. w ∷ registers_from f (r + 1) n) first ∙ ap (λ ws. g s ∷ ws) rest

pub registers_long : (f : ℕ → ℕ) (r n : ℕ) → length (registers_from f r n) ≡ n
registers_long f r zero = refl
registers_long f r (suc n) = ap suc (registers_long f (r + 1) n)

-- The holder is the word that was handed over, or the receiver.
pub record HolderFound (x : MachineState) (p : ℕ) : Type 0 where
  pub instructions : ℕ
  pub few : instructions ≤ 3
  pub to : MachineState
  pub goes : Goes instructions x to
  pub stands : StandsAt to p
  pub memory_is : to.memory ≡ x.memory
  pub holder : to.regs 5 ≡ (if nat_eq (x.regs 5) 0 then x.regs 24 else x.regs 5)
  pub regs : (r : ℕ) → nat_eq r 5 ≡ false → to.regs r ≡ x.regs r
  pub older : to.older ≡ x.older

-- register 0 takes no write
no_write : (b : Bool) (w v : ℕ) → (if b && not true then w else v) ≡ v
no_write true w v = refl
no_write false w v = refl

zero_takes : (regs : ℕ → ℕ) (w r : ℕ) → with_reg regs 0 w r ≡ regs r
zero_takes regs w r = no_write (nat_eq r 0) w (regs r)

abbrev tested : MachineState → MachineState
tested x = effect (Three ops.OrCc 0 5 (Imm (pos 0))) x

chosen : (b : Bool) (u v w : ℕ) → b ≡ true → u ≡ w → u ≡ (if b then w else v)
chosen true u v w e f = f
chosen false u v w e f = absurd (cc)

not_chosen : (b : Bool) (u v w : ℕ) → b ≡ false → u ≡ v → u ≡ (if b then w else v)
not_chosen true u v w e f = absurd (cc)
not_chosen false u v w e f = f

by_holder : (x : MachineState) (p words : ℕ) → StandsAt (tested x) (p + 4) → IsCodeFrom (p + 4) (suc (suc words)) → IsCodeFrom (p + 4 + 4) (suc words) → At x.memory p holder_code → (b : Bool) → nat_eq (x.regs 5) 0 ≡ b → nat_eq (bit_or (x.regs 5) 0) 0 ≡ b
    → Stepped x (tested x) → HolderFound x (p + 12)
by_holder x p words s1 a1 a2 at true e test first =
    let y = tested x in
    let t = transferred (words_on y.pc (pos 2)) y in
    let z = effect (move 5 24) t in
    let taken : t ≡ effect (Branch true 1 (pos 2)) y = ap (λ b. branched true 1 (words_on y.pc (pos 2)) b y) (sym test) in
    let s2 = jumps y.pc y.npc (p + 4) (p + 4 + 4) 2 s1 (omega (arith, a1.to)) in
    let s3 = on t.pc t.npc (p + 4 + 4) (p + 4 + 4 * 2) s2 (omega (arith, a1.to)) in
    record {
      instructions = 3;
      few = omega arith;
      to = z;
      goes =
          goes_on 2 x y z first
          (goes_on 1 y t z (stepped_to y t (p + 4) (p + 4 + 4) (suc words) (Branch true 1 (pos 2)) s1 a1 at.1.0 refl tt taken)
          (goes_on 0 t z z (stepped t (p + 4 + 4) (p + 4 + 4 * 2) words (move 5 24) s2 a2 at.1.1.0 refl tt)
          (goes_none z)));
      stands = stands_as z.pc z.npc (p + 4 + 4 * 2) (p + 4 + 4 * 2 + 4) (p + 12) (p + 12 + 4) s3 (omega arith) (omega arith);
      memory_is = refl;
      holder = chosen (nat_eq (x.regs 5) 0) (z.regs 5) (x.regs 5) (x.regs 24) e (or_zero_r (x.regs 24));
      regs = λ r n. other_register y.regs 5 _ r n ∙ zero_takes x.regs _ r;
      older = refl;
    }
by_holder x p words s1 a1 a2 at false e test first =
    let y = tested x in
    let t = jumped ((y.npc + 4) % 2 ^ 32) y in
    let passed : t ≡ effect (Branch true 1 (pos 2)) y = ap (λ b. branched true 1 (words_on y.pc (pos 2)) b y) (sym test) in
    let here : (y.npc + 4) % 2 ^ 32 ≡ p + 12 = ap (λ n. (n + 4) % 2 ^ 32) s1.next ∙ omega (arith, a1.to) in
    record {
      instructions = 2;
      few = omega arith;
      to = t;
      goes = goes_on 1 x y t first (goes_on 0 y t t (stepped_to y t (p + 4) (p + 4 + 4) (suc words) (Branch true 1 (pos 2)) s1 a1 at.1.0 refl tt passed) (goes_none t));
      stands = record { here = here; next = ap (λ n. (n + 4) % 2 ^ 32) here ∙ unwrapped (p + 12 + 4) (omega (arith, a1.to)) };
      memory_is = refl;
      holder = not_chosen (nat_eq (x.regs 5) 0) (t.regs 5) (x.regs 5) (x.regs 24) e refl;
      regs = λ r n. zero_takes x.regs _ r;
      older = refl;
    }

pub find_holder : (x : MachineState) (p words : ℕ) → StandsAt x p → IsCodeFrom p (suc (suc (suc words))) → At x.memory p holder_code → (b : Bool) → nat_eq (x.regs 5) 0 ≡ b → HolderFound x (p + 12)
find_holder x p words s0 a0 at b e =
    let y = tested x in
    let s1 : StandsAt y (p + 4) = on x.pc x.npc p (p + 4) s0 (omega (arith, a0.to)) in
    let a1 : IsCodeFrom (p + 4) (suc (suc words)) = record { aligned = omega (arith, a0.aligned); from = omega (arith, a0.from); to = omega (arith, a0.to) } in
    let a2 : IsCodeFrom (p + 4 + 4) (suc words) = record { aligned = omega (arith, a0.aligned); from = omega (arith, a0.from); to = omega (arith, a0.to) } in
    let test : nat_eq (bit_or (x.regs 5) 0) 0 ≡ b = ap (λ z. nat_eq z 0) (or_zero_r (x.regs 5)) ∙ e in
    let first = stepped x p (p + 4) (suc (suc words)) (Three ops.OrCc 0 5 (Imm (pos 0))) s0 a0 at.0 refl tt in
    by_holder x p words s1 a1 a2 at b e test first

-- and then the frame is filled
abbrev front_code : ℕ → List Insn
front_code arguments = store 5 14 holder_offset ∷ move 16 0 ∷ move 17 0 ∷ argument_stores 25 0 arguments

abbrev pub last_code : List Insn
last_code = plus 4 1 ∷ count ∷ []

pub record Filled (t to : MachineState) (memory : Words) : Type 0 where
  pub memory_is : to.memory ≡ memory
  pub outer : to.regs 16 ≡ t.regs 0
  pub context : to.regs 17 ≡ t.regs 0
  pub counted : to.regs 2 ≡ (t.regs 2 + 1) % 2 ^ 32
  pub activations : to.regs 4 ≡ (t.regs 4 + 1) % 2 ^ 32
  pub kept : (r : ℕ) → nat_eq r 1 ≡ false → nat_eq r 2 ≡ false → nat_eq r 4 ≡ false → nat_eq r 16 ≡ false → nat_eq r 17 ≡ false → to.regs r ≡ t.regs r
  pub older : to.older ≡ t.older

abbrev filled_memory : MachineState → ℕ → ℕ → List ℕ → Words
filled_memory t sp arguments initial = with_words (with_word t.memory (sp + holder_offset) (t.regs 5)) (sp + local_offset 0) (registers_from t.regs 25 arguments ++ initial)

unlike_kept : (t : MachineState) (j : ℕ) (regs : ℕ → ℕ) → regs ≡ (straight (store 5 14 holder_offset ∷ move 16 0 ∷ move 17 0 ∷ []) t).regs → j < 5 → regs (25 + j) ≡ t.regs (25 + j)
unlike_kept t zero regs e h = ap (λ g. g 25) e
unlike_kept t (suc zero) regs e h = ap (λ g. g 26) e
unlike_kept t (suc (suc zero)) regs e h = ap (λ g. g 27) e
unlike_kept t (suc (suc (suc zero))) regs e h = ap (λ g. g 28) e
unlike_kept t (suc (suc (suc (suc zero)))) regs e h = ap (λ g. g 29) e
unlike_kept t (suc (suc (suc (suc (suc j))))) regs e h = absurd (omega arith)

fill : (t : MachineState) (sp words arguments : ℕ) (initial : List ℕ) → t.regs 14 ≡ sp → HasFrame sp words → arguments ≤ 5 → 27 + arguments + length initial ≤ words
    → CanAll (kept_code arguments initial) t × Filled t (straight (kept_code arguments initial) t) (filled_memory t sp arguments initial)
fill t sp words arguments initial e f few room =
    let p = placed sp words holder_offset f refl (omega arith) in
    let a = straight (store 5 14 holder_offset ∷ move 16 0 ∷ move 17 0 ∷ []) t in
    let Q : ℕ → Type 0 = λ z. HasWord (add z holder_offset) × (0x20000000 ≤ add z holder_offset) in
    let kb = keeps arguments 25 0 a sp words e f (omega arith) in
    let b = straight (argument_stores 25 0 arguments) a in
    let eb : b.regs 14 ≡ sp = ap (λ g. g 14) kb.1.regs ∙ e in
    let kc = fills initial arguments b sp words eb f (omega arith) in
    let c = straight (initial_stores arguments initial) b in
    let d = straight last_code c in
    let whole : straight (kept_code arguments initial) t ≡ d =
    straight_on (front_code arguments) (initial_stores arguments initial ++ last_code) t ∙ straight_on (initial_stores arguments initial) last_code b in
    let can = can_both (front_code arguments) (initial_stores arguments initial ++ last_code) t
    (subst Q (sym e) (p.has, p.outside), (tt, (tt, kb.0)))
    (can_both (initial_stores arguments initial) last_code b kc.0 (tt, (tt, tt))) in
    let first : a.memory ≡ with_word t.memory (sp + holder_offset) (t.regs 5) = ap (λ z. with_word t.memory (add z holder_offset) (t.regs 5)) e ∙ ap (λ z. with_word t.memory z (t.regs 5)) p.address in
    let args : registers_from a.regs 25 arguments ≡ registers_from t.regs 25 arguments = from_to arguments 25 25 a.regs t.regs (λ j lt. unlike_kept t j a.regs refl (omega arith)) in
    let long : sp + local_offset arguments ≡ sp + local_offset 0 + 4 * length (registers_from a.regs 25 arguments) = omega (arith, registers_long a.regs 25 arguments) in
    let memory : d.memory ≡ filled_memory t sp arguments initial =
    kc.1.memory_is
    ∙ ap (λ z. with_words z (sp + local_offset arguments) initial) kb.1.memory_is
    ∙ with_words_both a.memory (sp + local_offset 0) (registers_from a.regs 25 arguments) initial (sp + local_offset arguments) long
    ∙ ap (λ z. with_words z (sp + local_offset 0) (registers_from a.regs 25 arguments ++ initial)) first
    ∙ ap (λ ws. with_words (with_word t.memory (sp + holder_offset) (t.regs 5)) (sp + local_offset 0) (ws ++ initial)) args in
    let through : (r : ℕ) → nat_eq r 1 ≡ false → c.regs r ≡ a.regs r = λ r n1. kc.1.regs r n1 ∙ ap (λ g. g r) kb.1.regs in (
      can,
      (let P : MachineState → Type 0 = λ z. Filled t z (filled_memory t sp arguments initial) in subst P (sym whole) (record {
        memory_is = memory;
        outer = through 16 refl ∙ or_zero_r (t.regs 0);
        context = through 17 refl ∙ or_zero_r (t.regs 0);
        counted = ap (λ z. (z + 1) % 2 ^ 32) (through 2 refl);
        activations = ap (λ z. (z + 1) % 2 ^ 32) (through 4 refl);
        kept = λ r n1 n2 n4 n16 n17. other_register (with_reg c.regs 4 _) 2 _ r n2 ∙ other_register c.regs 4 _ r n4 ∙ through r n1
            ∙ other_register (with_reg t.regs 16 _) 17 _ r n17 ∙ other_register t.regs 16 _ r n16;
        older = kc.1.older ∙ kb.1.older;
      })),
    )

kept_straight : (arguments : ℕ) (initial : List ℕ) → all_straight (kept_code arguments initial) ≡ true
kept_straight arguments initial =
    both_straight (front_code arguments) (initial_stores arguments initial ++ last_code) (stores_straight 25 0 arguments)
    (both_straight (initial_stores arguments initial) last_code (initials_straight arguments initial) refl)

-- the new frame lies so many bytes below
pub below_by : (place bytes sp : ℕ) → sp ≡ place + bytes → 0 < bytes → sp < 0x60000000 → add sp (2 ^ 32 - (bytes - 1 + 1)) ≡ place
below_by place bytes sp e h low = omega arith

arrived : (m t : MachineState) (bytes j : ℕ) → ((r : ℕ) → nat_eq r 5 ≡ false → t.regs r ≡ (saved m bytes).regs r) → j < 5 → t.regs (25 + j) ≡ m.regs (9 + j)
arrived m t bytes zero h lt = h 25 refl
arrived m t bytes (suc zero) h lt = h 26 refl
arrived m t bytes (suc (suc zero)) h lt = h 27 refl
arrived m t bytes (suc (suc (suc zero))) h lt = h 28 refl
arrived m t bytes (suc (suc (suc (suc zero)))) h lt = h 29 refl
arrived m t bytes (suc (suc (suc (suc (suc j))))) h lt = absurd (omega arith)

pub method_enters : (m : MachineState) (p words arguments : ℕ) (initial : List ℕ) → (c : CanEnter m p words arguments initial)
    → Enters m (p + 4 * length (method_code (4 * words) arguments initial)) c.place (entered_memory m c.place arguments initial)
method_enters m p words arguments initial c =
    let bytes = 4 * words in
    let a = c.code_region in
    let x = saved m bytes in
    let place = c.place in
    let n : length (method_code bytes arguments initial) ≡ 4 + length (kept_code arguments initial) = omega arith in
    let s1 : StandsAt x (p + 4) = on m.pc m.npc p (p + 4) c.stands (omega (arith, a.to, n)) in
    let memory : Words = with_room m.memory (m.regs 30) m.older in
    let spares : (b : ℕ) → b < 0x20000000 → word_at memory b ≡ word_at m.memory b = λ b low. room_spares (is_full m.older) m.memory (m.regs 30) m.older b c.within (λ full. c.can_save (full_six m.older full)) low in
    let code = at_apart (holder_code ++ kept_code arguments initial) m.memory memory (p + 4) spares (omega (arith, a.to, n)) c.code_there.1 in
    let region1 : IsCodeFrom (p + 4) (suc (suc (suc (length (kept_code arguments initial))))) = record { aligned = omega (arith, a.aligned); from = omega (arith, a.from); to = omega (arith, a.to, n) } in
    let region2 : IsCodeFrom (p + 4 + 12) (length (kept_code arguments initial)) = record { aligned = omega (arith, a.aligned); from = omega (arith, a.from); to = omega (arith, a.to, n) } in
    let h = find_holder x (p + 4) (length (kept_code arguments initial)) s1 region1 (at_front memory (p + 4) holder_code (kept_code arguments initial) code) (nat_eq (x.regs 5) 0) refl in
    let t = h.to in
    let sp : t.regs 14 ≡ place = h.regs 14 refl ∙ below_by place bytes (m.regs 14) c.below (omega (arith, c.room)) (omega (arith, c.below, c.frame.2, c.frame.3)) in
    let code2 = (let P : Words → Type 0 = λ z. At z (p + 4 + 12) (kept_code arguments initial) in subst P (sym h.memory_is) (at_behind memory (p + 4) holder_code (kept_code arguments initial) code)) in
    let fl = fill t place words arguments initial sp c.frame c.few c.room in
    let to = straight (kept_code arguments initial) t in
    let g = goes_straight (kept_code arguments initial) t (p + 4 + 12) h.stands region2 code2 (kept_straight arguments initial) fl.0 in
    let f = fl.1 in
    let args : registers_from t.regs 25 arguments ≡ registers_from m.regs 9 arguments = from_to arguments 25 9 t.regs m.regs (λ j lt. arrived m t bytes j h.regs (omega (arith, c.few))) in
    record {
      instructions = suc (h.instructions + length (kept_code arguments initial));
      few = omega (arith, h.few, n, c.stands.here);
      to = to;
      goes = goes_on (h.instructions + length (kept_code arguments initial)) m x to (stepped m p (p + 4) _ (Three ops.Save 14 14 (Imm (negsuc (bytes - 1)))) c.stands a c.code_there.0 refl c.can_save)
          (goes_then h.instructions (length (kept_code arguments initial)) x t to h.goes g.0);
      entered = record {
        stands = stands_as to.pc to.npc _ _ _ _ g.1 (omega (arith, n)) (omega (arith, n));
        memory_is = f.memory_is
            ∙ ap (λ z. with_words (with_word z (place + holder_offset) (t.regs 5)) (place + local_offset 0) (registers_from t.regs 25 arguments ++ initial)) h.memory_is
            ∙ ap (λ z. with_words (with_word memory (place + holder_offset) z) (place + local_offset 0) (registers_from t.regs 25 arguments ++ initial)) h.holder
            ∙ ap (λ ws. with_words (with_word memory (place + holder_offset) (handed_holder m)) (place + local_offset 0) (ws ++ initial)) args;
        receiver = f.kept 24 refl refl refl refl refl ∙ h.regs 24 refl;
        outer = f.outer ∙ h.regs 0 refl ∙ c.register_0;
        context = f.context ∙ h.regs 0 refl ∙ c.register_0;
        frame = f.kept 14 refl refl refl refl refl ∙ sp;
        caller = f.kept 30 refl refl refl refl refl ∙ h.regs 30 refl;
        returns = f.kept 31 refl refl refl refl refl ∙ h.regs 31 refl;
        counted = f.counted ∙ ap (λ z. (z + 1) % 2 ^ 32) (h.regs 2 refl);
        activations = f.activations ∙ ap (λ z. (z + 1) % 2 ^ 32) (h.regs 4 refl);
        cost = f.kept 3 refl refl refl refl refl ∙ h.regs 3 refl;
        top = f.kept 6 refl refl refl refl refl ∙ h.regs 6 refl;
        register_0 = f.kept 0 refl refl refl refl refl ∙ h.regs 0 refl ∙ c.register_0;
        older = f.older ∙ h.older;
      };
    }
