-- The instruction of a word is the one whose word it is.
use Rattle.std.proofs.Common.{◌≡◌, ◌≢◌, ℕ, ◌+◌, ◌*◌, ◌/◌, ◌%◌, ◌^◌, ◌<◌, ◌≤◌, ℤ, pos, negsuc, Bool, true, false, cond, eqb, Option, Some, None, IfSome, IfNone, List, [], ◌∷◌, ◌++◌, ◌⊎◌, inl, inr, map, subst, refl, sym, ap, ◌∙◌, arith, rules}
use Rattle.std.specs.List.{find, flat_map}
use Rattle.std.proofs.lemmas.Bool.{eqb-true, eq-eqb, cases_eq}
use Rattle.sparc_insn.specs.Words.{op_of, op3_of, IsSigned, complement_bits, IsOperand, IsCount, IsNothing, operand_bits, IsInsn, word_of}
use Rattle.sparc_insn.specs.Instructions.{operations, signed, rd_of, rs1_of, rs2_of, simm13_of, with_either, with_operands, readings, instruction}
use Rattle.sparc_insn.specs.declared.insn.Op3.{Op3}
use Rattle.sparc_insn.specs.declared.insn.Op3.TheVariants as ops
use Rattle.sparc_insn.specs.declared.insn.Operand.{Operand}
use Rattle.sparc_insn.specs.declared.insn.Operand.TheVariants.{Reg, Imm}
use Rattle.sparc_insn.specs.declared.insn.Insn.{Insn}
use Rattle.sparc_insn.specs.declared.insn.Insn.TheVariants.{Call, Sethi, Branch, Three, Trap}
use Rattle.sparc_insn.proofs.Fields.{complement30-small, complement22-small, complement13-small, signed30-complement, signed22-complement, signed13-complement, signed30-fits, signed22-fits, signed13-fits, operand_bits-small, flag_bit-small, flag-read, is_operation, at_fields-is, rd-read, rs1-read}
use Rattle.sparc_insn.proofs.OneWord.{one_word}

-- x is one of a list
abbrev In : {X : Type 0} → X → List X → Type 0
In x [] = ⊥
In x (y ∷ ys) = (x ≡ y) ⊎ In x ys

-- P holds of each of a list
abbrev Each : {X : Type 0} → (X → Type 0) → List X → Type 0
Each P [] = Unit {0}
Each P (x ∷ xs) = P x × Each P xs

in-append_left : {X : Type 0} (x : X) (xs ys : List X) → In x xs → In x (xs ++ ys)
in-append_left x [] ys h = absurd h
in-append_left x (y ∷ xs) ys (inl e) = inl e
in-append_left x (y ∷ xs) ys (inr h) = inr (in-append_left x xs ys h)

in-append_right : {X : Type 0} (x : X) (xs ys : List X) → In x ys → In x (xs ++ ys)
in-append_right x [] ys h = h
in-append_right x (y ∷ xs) ys h = inr (in-append_right x xs ys h)

in-flat_map : {X Y : Type 0} (f : X → List Y) (x : X) (y : Y) (xs : List X) → In x xs → In y (f x) → In y (flat_map f xs)
in-flat_map f x y [] h k = absurd h
in-flat_map f x y (z ∷ xs) (inl e) k = in-append_left y (f z) (flat_map f xs) (subst (λ z. In y (f z)) e k)
in-flat_map f x y (z ∷ xs) (inr h) k = in-append_right y (f z) (flat_map f xs) (in-flat_map f x y xs h k)

each-append : {X : Type 0} (P : X → Type 0) (xs ys : List X) → Each P xs → Each P ys → Each P (xs ++ ys)
each-append P [] ys h k = k
each-append P (x ∷ xs) ys h k = (h.0, each-append P xs ys h.1 k)

each-flat_map : {X Y : Type 0} (P : Y → Type 0) (f : X → List Y) (xs : List X) → ((x : X) → Each P (f x)) → Each P (flat_map f xs)
each-flat_map P f [] h = tt
each-flat_map P f (x ∷ xs) h = each-append P (f x) (flat_map f xs) (h x) (each-flat_map P f xs h)

-- what a search finds passes the test, and P holds of it where it holds of each
passes-step : {X : Type 0} (P : X → Type 0) (p : X → Bool) (y x : X) (rest : Option X) (b : Bool) → p y ≡ b → P y → (rest ≡ Some x → P x × (p x ≡ true)) → cond b (Some y) rest ≡ Some x → P x × (p x ≡ true)
passes-step P p y x rest true t h k e = let same : y ≡ x = cc in (subst P same h, subst (λ z. p z ≡ true) same t)
passes-step P p y x rest false t h k e = k e

find-passes : {X : Type 0} (P : X → Type 0) (p : X → Bool) (xs : List X) (x : X) → Each P xs → find p xs ≡ Some x → P x × (p x ≡ true)
find-passes P p [] x h e = absurd cc
find-passes P p (y ∷ ys) x h e = passes-step P p y x (find p ys) (p y) refl h.0 (find-passes P p ys x h.1) e

-- a search finds something where one of the list passes
found-here : {X : Type 0} (x : X) (rest : Option X) (b : Bool) → b ≡ true → (y : X) × (cond b (Some x) rest ≡ Some y)
found-here x rest true t = (x, refl)
found-here x rest false t = absurd cc

found-later : {X : Type 0} (x : X) (rest : Option X) (b : Bool) → (y : X) × (rest ≡ Some y) → (y : X) × (cond b (Some x) rest ≡ Some y)
found-later x rest true h = (x, refl)
found-later x rest false h = h

find-some : {X : Type 0} (p : X → Bool) (xs : List X) (x : X) → In x xs → p x ≡ true → (y : X) × (find p xs ≡ Some y)
find-some p [] x h t = absurd h
find-some p (y ∷ ys) x (inl e) t = found-here y (find p ys) (p y) (ap p (sym e) ∙ t)
find-some p (y ∷ ys) x (inr h) t = found-later y (find p ys) (p y) (find-some p ys x h t)

-- each reading is an instruction of the subset
rd-fits : (word : ℕ) → rd_of word < 32
rd-fits word = omega arith

rs1-fits : (word : ℕ) → rs1_of word < 32
rs1-fits word = omega arith

rs2-fits : (word : ℕ) → rs2_of word < 32
rs2-fits word = omega arith

simm13-fits : (word : ℕ) → IsSigned 13 (simm13_of word)
simm13-fits word = signed13-fits (word % 2 ^ 13) (omega arith)

each-with_operands : (word : ℕ) (op : Op3) → Each IsInsn (with_operands word op)
each-with_operands word ops.Sll = ((rd-fits word, rs1-fits word, rs2-fits word, rs2-fits word), ((rd-fits word, rs1-fits word, omega arith, rs2-fits word), tt))
each-with_operands word ops.Srl = ((rd-fits word, rs1-fits word, rs2-fits word, rs2-fits word), ((rd-fits word, rs1-fits word, omega arith, rs2-fits word), tt))
each-with_operands word ops.Sra = ((rd-fits word, rs1-fits word, rs2-fits word, rs2-fits word), ((rd-fits word, rs1-fits word, omega arith, rs2-fits word), tt))
each-with_operands word ops.Rdy = ((rd-fits word, omega arith, omega arith, (refl, refl)), tt)
each-with_operands word ops.Wry = ((omega arith, rs1-fits word, rs2-fits word, refl), ((omega arith, rs1-fits word, simm13-fits word, refl), tt))
each-with_operands word _ = ((rd-fits word, rs1-fits word, rs2-fits word, tt), ((rd-fits word, rs1-fits word, simm13-fits word, tt), tt))

each-trap : Each IsInsn (map Trap (1 ∷ 2 ∷ 3 ∷ 4 ∷ 5 ∷ 6 ∷ 7 ∷ 8 ∷ 9 ∷ []))
each-trap = search rules

each-reading : (word : ℕ) → Each IsInsn (readings word)
each-reading word = (signed30-fits (word % 2 ^ 30) (omega arith), ((rd-fits word, omega arith), ((omega arith, signed22-fits (word % 2 ^ 22) (omega arith)), each-append IsInsn (map Trap (1 ∷ 2 ∷ 3 ∷ 4 ∷ 5 ∷ 6 ∷ 7 ∷ 8 ∷ 9 ∷ [])) (flat_map (with_operands word) operations) each-trap (each-flat_map IsInsn (with_operands word) operations (each-with_operands word)))))

-- an instruction of a word has the word
pub encodes : (word : ℕ) (i : Insn) → instruction word ≡ Some i → IsInsn i × (word_of i ≡ word)
unfolding instruction
encodes word i e =
    let f = find-passes IsInsn (λ j. eqb (word_of j) word) (readings word) i (each-reading word) e in
    (f.0, eqb-true (word_of i) word f.1)

-- what a search finds is one of the list
in-step : {X : Type 0} (x y : X) (ys : List X) (rest : Option X) (b : Bool) → (rest ≡ Some x → In x ys) → cond b (Some y) rest ≡ Some x → In x (y ∷ ys)
in-step x y ys rest true h e = inl cc
in-step x y ys rest false h e = inr (h e)

in-find : {X : Type 0} (p : X → Bool) (xs : List X) (x : X) → find p xs ≡ Some x → In x xs
in-find p [] x e = absurd cc
in-find p (y ∷ ys) x e = in-step x y ys (find p ys) (p y) (in-find p ys x) e

in-operations : (op : Op3) → In op operations
in-operations op = in-find (λ o. eqb (op_of o * 64 + op3_of o) (op_of op * 64 + op3_of op)) operations op (at_fields-is op)

-- each instruction is a reading of its word
rd-of_three : (op : Op3) (rd rs1 : ℕ) (o : Operand) → rd < 32 → rs1 < 32 → IsOperand o → rd_of (word_of (Three op rd rs1 o)) ≡ rd
rd-of_three op rd rs1 o h k m = rd-read (op_of op) rd (op3_of op) rs1 (operand_bits o) h (is_operation op).small k (operand_bits-small o m)

rs1-of_three : (op : Op3) (rd rs1 : ℕ) (o : Operand) → rs1 < 32 → IsOperand o → rs1_of (word_of (Three op rd rs1 o)) ≡ rs1
rs1-of_three op rd rs1 o k m = rs1-read (op_of op) rd (op3_of op) rs1 (operand_bits o) k (operand_bits-small o m)

operand-read : (op : Op3) (rd rs1 : ℕ) (o : Operand) → IsOperand o → (o ≡ Reg (rs2_of (word_of (Three op rd rs1 o)))) ⊎ (o ≡ Imm (simm13_of (word_of (Three op rd rs1 o))))
operand-read op rd rs1 (Reg r) h = inl (ap Reg (omega arith))
operand-read op rd rs1 (Imm n) h =
    let low : word_of (Three op rd rs1 (Imm n)) % 2 ^ 13 ≡ complement_bits 13 n = omega (arith, complement13-small n h) in
    inr (ap Imm (sym (ap (signed 13) low ∙ signed13-complement n h)))

count-read : (op : Op3) (rd rs1 : ℕ) (o : Operand) → IsCount o → (o ≡ Reg (rs2_of (word_of (Three op rd rs1 o)))) ⊎ (o ≡ Imm (pos (rs2_of (word_of (Three op rd rs1 o)))))
count-read op rd rs1 (Reg r) h = inl (ap Reg (omega arith))
count-read op rd rs1 (Imm (pos n)) h = inr (ap (λ m. Imm (pos m)) (omega arith))
count-read op rd rs1 (Imm (negsuc n)) h = absurd h

in-either : (op : Op3) (rd rs1 : ℕ) (o : Operand) (rd' rs1' rs2 : ℕ) (n : ℤ) → rd' ≡ rd → rs1' ≡ rs1 → (o ≡ Reg rs2) ⊎ (o ≡ Imm n) → In (Three op rd rs1 o) (with_either op rd' rs1' rs2 n)
in-either op rd rs1 o rd' rs1' rs2 n e f (inl g) = inl cc
in-either op rd rs1 o rd' rs1' rs2 n e f (inr g) = inr (inl cc)

in-general : (op : Op3) (rd rs1 : ℕ) (o : Operand) → rd < 32 → rs1 < 32 → IsOperand o → let w = word_of (Three op rd rs1 o) in In (Three op rd rs1 o) (with_either op (rd_of w) (rs1_of w) (rs2_of w) (simm13_of w))
in-general op rd rs1 o h k m =
    let w = word_of (Three op rd rs1 o) in
    in-either op rd rs1 o (rd_of w) (rs1_of w) (rs2_of w) (simm13_of w) (rd-of_three op rd rs1 o h k m) (rs1-of_three op rd rs1 o k m) (operand-read op rd rs1 o m)

in-shift : (op : Op3) (rd rs1 : ℕ) (o : Operand) → rd < 32 → rs1 < 32 → IsOperand o → IsCount o → let w = word_of (Three op rd rs1 o) in In (Three op rd rs1 o) (with_either op (rd_of w) (rs1_of w) (rs2_of w) (pos (rs2_of w)))
in-shift op rd rs1 o h k m n =
    let w = word_of (Three op rd rs1 o) in
    in-either op rd rs1 o (rd_of w) (rs1_of w) (rs2_of w) (pos (rs2_of w)) (rd-of_three op rd rs1 o h k m) (rs1-of_three op rd rs1 o k m) (count-read op rd rs1 o n)

is-nothing : (o : Operand) → IsNothing o → o ≡ Reg 0
is-nothing (Reg r) h = ap Reg h
is-nothing (Imm n) h = absurd h

in-with_operands : (op : Op3) (rd rs1 : ℕ) (o : Operand) → IsInsn (Three op rd rs1 o) → In (Three op rd rs1 o) (with_operands (word_of (Three op rd rs1 o)) op)
in-with_operands ops.Sll rd rs1 o h = in-shift ops.Sll rd rs1 o h.0 h.1 h.2 h.3
in-with_operands ops.Srl rd rs1 o h = in-shift ops.Srl rd rs1 o h.0 h.1 h.2 h.3
in-with_operands ops.Sra rd rs1 o h = in-shift ops.Sra rd rs1 o h.0 h.1 h.2 h.3
in-with_operands ops.Rdy rd rs1 o h =
    let same_rd = rd-of_three ops.Rdy rd rs1 o h.0 h.1 h.2 in
    let no_rs1 = h.3.0 in
    let no_o = is-nothing o h.3.1 in
    inl cc
in-with_operands ops.Wry rd rs1 o h =
    let w = word_of (Three ops.Wry rd rs1 o) in
    in-either ops.Wry rd rs1 o 0 (rs1_of w) (rs2_of w) (simm13_of w) (sym h.3) (rs1-of_three ops.Wry rd rs1 o h.1 h.2) (operand-read ops.Wry rd rs1 o h.2)
in-with_operands op rd rs1 o h = in-general op rd rs1 o h.0 h.1 h.2

trap-next : {A B : Type 0} → A ⊎ (A → ⊥) → ((A → ⊥) → B) → A ⊎ B
trap-next (inl a) f = inl a
trap-next (inr n) f = inr (f n)

in-traps : (n : ℕ) → 1 ≤ n → n ≤ 9 → In n (1 ∷ 2 ∷ 3 ∷ 4 ∷ 5 ∷ 6 ∷ 7 ∷ 8 ∷ 9 ∷ [])
in-traps n h k =
    trap-next (cases_eq n 1) (λ a. trap-next (cases_eq n 2) (λ b. trap-next (cases_eq n 3) (λ c. trap-next (cases_eq n 4) (λ d. trap-next (cases_eq n 5) (λ e. trap-next (cases_eq n 6) (λ f. trap-next (cases_eq n 7) (λ g. trap-next (cases_eq n 8) (λ i. inl (omega arith)))))))))

in-map : {X Y : Type 0} (f : X → Y) (x : X) (xs : List X) → In x xs → In (f x) (map f xs)
in-map f x [] h = absurd h
in-map f x (y ∷ ys) (inl e) = inl (ap f e)
in-map f x (y ∷ ys) (inr h) = inr (in-map f x ys h)

in-readings : (i : Insn) → IsInsn i → In i (readings (word_of i))
in-readings (Call d) h =
    let low : word_of (Call d) % 2 ^ 30 ≡ complement_bits 30 d = omega (arith, complement30-small d h) in
    inl (ap Call (sym (ap (signed 30) low ∙ signed30-complement d h)))
in-readings (Sethi rd imm) h =
    let same_rd : rd_of (word_of (Sethi rd imm)) ≡ rd = omega arith in
    let same_imm : word_of (Sethi rd imm) % 2 ^ 22 ≡ imm = omega arith in
    inr (inl cc)
in-readings (Branch a c d) h =
    let word = word_of (Branch a c d) in
    let small = complement22-small d h.1 in
    let bit = flag_bit-small a in
    let same_a : eqb (word / 2 ^ 29 % 2) 1 ≡ a = flag-read a (word / 2 ^ 29 % 2) (omega arith) in
    let same_c : word / 2 ^ 25 % 16 ≡ c = omega arith in
    let low : word % 2 ^ 22 ≡ complement_bits 22 d = omega arith in
    let same_d : signed 22 (word % 2 ^ 22) ≡ d = ap (signed 22) low ∙ signed22-complement d h.1 in
    inr (inr (inl cc))
in-readings (Three op rd rs1 o) h =
    let word = word_of (Three op rd rs1 o) in
    inr (inr (inr (in-append_right (Three op rd rs1 o) (map Trap (1 ∷ 2 ∷ 3 ∷ 4 ∷ 5 ∷ 6 ∷ 7 ∷ 8 ∷ 9 ∷ [])) (flat_map (with_operands word) operations) (in-flat_map (with_operands word) op (Three op rd rs1 o) operations (in-operations op) (in-with_operands op rd rs1 o h)))))
in-readings (Trap n) h =
    let word = word_of (Trap n) in
    inr (inr (inr (in-append_left (Trap n) (map Trap (1 ∷ 2 ∷ 3 ∷ 4 ∷ 5 ∷ 6 ∷ 7 ∷ 8 ∷ 9 ∷ [])) (flat_map (with_operands word) operations) (in-map Trap n (1 ∷ 2 ∷ 3 ∷ 4 ∷ 5 ∷ 6 ∷ 7 ∷ 8 ∷ 9 ∷ []) (in-traps n h.0 h.1)))))

some-instruction : (i : Insn) → IsInsn i → (j : Insn) × (instruction (word_of i) ≡ Some j)
unfolding instruction
some-instruction i h = find-some (λ j. eqb (word_of j) (word_of i)) (readings (word_of i)) i (in-readings i h) (eq-eqb (word_of i) (word_of i) refl)

-- the instruction of an instruction's word is that instruction
pub decodes : (i : Insn) → IsInsn i → instruction (word_of i) ≡ Some i
decodes i h =
    let found = some-instruction i h in
    let there = encodes (word_of i) found.0 found.1 in
    found.1 ∙ ap Some (one_word found.0 i there.0 h there.1)

none-is : (r : Option Insn) (word : ℕ) → instruction word ≡ r → ((i : Insn) → IsInsn i → word_of i ≢ word) → None ≡ instruction word
none-is (Some i) word e k = let h = encodes word i e in absurd (k i h.0 h.1)
none-is None word e k = sym e

-- what a decoder gives that answers by the words of the subset
pub instruction-is : (r : Option Insn) (word : ℕ) → IfSome r (λ i. IsInsn i × (word_of i ≡ word)) → IfNone r ((i : Insn) → IsInsn i → word_of i ≢ word) → r ≡ instruction word
instruction-is (Some i) word h k = sym (decodes i h.0) ∙ ap instruction h.1
instruction-is None word h k = none-is (instruction word) word refl k

-- a word has 32 bits
pub word_of-small : (i : Insn) → IsInsn i → word_of i < 2 ^ 32
word_of-small (Call d) h = omega (arith, complement30-small d h)
word_of-small (Sethi rd imm) h = omega arith
word_of-small (Branch a c d) h = omega (arith, complement22-small d h.1, flag_bit-small a)
word_of-small (Three op rd rs1 o) h =
    let p = is_operation op in
    let s = operand_bits-small o h.2 in
    omega arith
word_of-small (Trap n) h = omega arith
