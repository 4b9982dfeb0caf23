-- Blocks and methods are entered, with contexts and without.
use Rattle.std.proofs.Common.{◌≡◌, ℕ, zero, suc, ◌+◌, ◌-◌, ◌*◌, ◌/◌, ◌%◌, ◌^◌, ◌<◌, ◌≤◌, refl, ◌∙◌, ap, sym, subst, arith, inl, length-append}
use Rattle.std.specs.Prelude.{Bool, true, false, if◌then◌else◌, nat_eq, List, [], ◌∷◌, ◌++◌, length, negsuc}
use Rattle.std.specs.Int.Bits.{or_zero_r}
use Rattle.std.proofs.lemmas.Grind.{common_steps}
use Rattle.sparc_insn.specs.declared.insn.Insn.{Insn}
use Rattle.sparc_insn.specs.declared.insn.Insn.TheVariants.{Three}
use Rattle.sparc_insn.specs.declared.insn.Operand.TheVariants.{Imm}
use Rattle.sparc_insn.specs.declared.insn.Op3.TheVariants as ops
use Rattle.sparc_store.specs.Words.{Words, word_at, with_word, HasWord, HasFrame, IsWithin}
use Rattle.sparc_store.specs.Windows.{IsPlace, with_room, is_full, words_of, oldest, oldest_at, with_spilled, CanSave}
use Rattle.sparc_store.proofs.Framing.{framed}
use Rattle.sparc_machine.specs.State.{MachineState, with_reg, stack_of}
use Rattle.sparc_machine.specs.Alu.{add}
use Rattle.sparc_machine.specs.Table.{effect}
use Rattle.frame_walk.specs.Places.{holder_offset, local_offset}
use Rattle.plain_words.specs.Going.{Goes, At, StandsAt, IsCodeFrom}
use Rattle.plain_words.specs.Code.{store, move, set_word, argument_stores, initial_stores, maker_code, start_code, no_maker, cell_offset, cell_arguments, cell_initials, context_head, context_end, kept_first, kept_last, entry_kept, entered_code}
use Rattle.plain_words.specs.Moves.{HasRoom, with_words, registers_from, CanStart, given_maker, given_receiver, given_holder, in_frame, HasTop, own_context, cost_then, top_then, CanBegin, begun_memory, Begins}
use Rattle.plain_words.proofs.Basics.{goes_then, goes_on, on, stepped, at_front, at_behind, stands_as, other_register}
use Rattle.plain_words.proofs.Straight.{straight, all_straight, CanAll, goes_straight, both_straight, can_both, straight_on}
use Rattle.plain_words.proofs.Placing.{placed, two_parts}
use Rattle.plain_words.proofs.Reading.{context_word}
use Rattle.plain_words.proofs.Making.{heap_placed, four_put, joined}
use Rattle.plain_words.proofs.Prologue.{saved, last_code, Kept, KeptBut, keeps, fills, full_six, at_apart, stores_straight, initials_straight, with_words_both, from_to, registers_long, find_holder, below_by}

-- What is below the stacks stays where the oldest frame is saved.
room_spares : (full : Bool) (memory : Words) (at : ℕ) (held : List (ℕ → ℕ)) (b : ℕ) → IsWithin memory → (full ≡ true → IsPlace (oldest_at at held)) → b < 0x40000000
    → word_at (if full then with_spilled memory at held else memory) b ≡ word_at memory b
room_spares true memory at held b whole place low = let p = place refl in (framed memory (oldest_at at held) (words_of (oldest held)) whole p).others b (inl (omega (arith, p.1)))
room_spares false memory at held b whole place low = refl

below_stays : (m : MachineState) (b : ℕ) → IsWithin m.memory → CanSave (stack_of m) → b < 0x40000000 → word_at (with_room m.memory (m.regs 30) m.older) b ≡ word_at m.memory b
below_stays m b whole can low = room_spares (is_full m.older) m.memory (m.regs 30) m.older b whole (λ full. can (full_six m.older full)) low

-- The first words: the maker's context, the receiver and the holder.
pub record Started (block : Bool) (m x : MachineState) (p : ℕ) : Type 0 where
  pub instructions : ℕ
  pub few : instructions ≤ length (start_code block)
  pub to : MachineState
  pub goes : Goes instructions x to
  pub stands : StandsAt to p
  pub memory_is : to.memory ≡ x.memory
  pub holder : to.regs 5 ≡ given_holder block m
  pub receiver : to.regs 24 ≡ given_receiver block m
  pub maker : to.regs 16 ≡ given_maker block m
  pub regs : (r : ℕ) → nat_eq r 5 ≡ false → nat_eq r 16 ≡ false → nat_eq r 24 ≡ false → to.regs r ≡ x.regs r
  pub older : to.older ≡ x.older

starts : (block : Bool) (m : MachineState) (p bytes words : ℕ) → CanStart block m → IsWithin m.memory → CanSave (stack_of m) → StandsAt (saved m bytes) p → IsCodeFrom p (length (start_code block) + words)
    → At (with_room m.memory (m.regs 30) m.older) p (start_code block) → Started block m (saved m bytes) (p + 4 * length (start_code block))
starts false m p bytes words c whole can s a at =
    let x = saved m bytes in
    let b : IsCodeFrom p (suc (suc (suc words))) = record { aligned = a.aligned; from = a.from; to = omega (arith, a.to) } in
    let h = find_holder x p words s b at (nat_eq (x.regs 5) 0) refl in
    record {
      instructions = h.instructions;
      few = h.few;
      to = h.to;
      goes = h.goes;
      stands = h.stands;
      memory_is = h.memory_is;
      holder = h.holder;
      receiver = h.regs 24 refl;
      maker = h.regs 16 refl;
      regs = λ r n5 n16 n24. h.regs r n5;
      older = h.older;
    }
starts true m p bytes words c whole can s a at =
    let x = saved m bytes in
    let room = with_room m.memory (m.regs 30) m.older in
    let block = m.regs 8 in
    let context = word_at m.memory (block + 7) in
    let mark = word_at m.memory (context + 7) in
    let b7 = context_word block 0 7 c.block refl (omega arith) in
    let b11 = context_word block 0 11 c.block refl (omega arith) in
    let c7 = context_word context 0 7 c.maker refl (omega arith) in
    let h = placed mark 27 holder_offset c.home refl (omega arith) in
    let e1 : word_at room (add block 7) ≡ context = ap (word_at room) b7.0 ∙ below_stays m (block + 7) whole can (omega (arith, c.block.to)) in
    let e2 : word_at room (add (word_at room (add block 7)) 7) ≡ mark = ap (λ z. word_at room (add z 7)) e1 ∙ ap (word_at room) c7.0 ∙ below_stays m (context + 7) whole can (omega (arith, c.maker.to)) in
    let e3 : word_at room (add (word_at room (add (word_at room (add block 7)) 7)) holder_offset) ≡ word_at room (mark + holder_offset) = ap (λ z. word_at room (add z holder_offset)) e2 ∙ ap (word_at room) h.address in
    let e4 : word_at room (add block 11) ≡ word_at m.memory (block + 11) = ap (word_at room) b11.0 ∙ below_stays m (block + 11) whole can (omega (arith, c.block.to)) in
    let P : ℕ → Type 0 = λ z. HasWord (add z 7) in
    let Q : ℕ → Type 0 = λ z. HasWord (add z holder_offset) in
    let region : IsCodeFrom p 4 = record { aligned = a.aligned; from = a.from; to = omega (arith, a.to) } in
    let g = goes_straight maker_code x p s region at refl (b7.1, (subst P (sym e1) c7.1, (subst Q (sym e2) h.has, (b11.1, tt)))) in
    record {
      instructions = 4;
      few = omega arith;
      to = straight maker_code x;
      goes = g.0;
      stands = g.1;
      memory_is = refl;
      holder = e3;
      receiver = e4;
      maker = e1;
      regs = λ r n5 n16 n24. other_register (with_reg (with_reg (with_reg x.regs 16 _) 5 _) 5 _) 24 _ r n24 ∙ other_register (with_reg (with_reg x.regs 16 _) 5 _) 5 _ r n5 ∙ other_register (with_reg x.regs 16 _) 5 _ r n5 ∙ other_register x.regs 16 _ r n16;
      older = refl;
    }

-- The holder is kept; a method has no maker.
abbrev headed : Bool → List Insn
headed block = store 5 14 holder_offset ∷ no_maker block

pub record Headed (t to : MachineState) (memory : Words) : Type 0 where
  pub memory_is : to.memory ≡ memory
  pub maker : to.regs 16 ≡ t.regs 16
  pub regs : (r : ℕ) → nat_eq r 16 ≡ false → to.regs r ≡ t.regs r
  pub older : to.older ≡ t.older

abbrev HasNone : Bool → MachineState → Type 0
HasNone false t = t.regs 16 ≡ t.regs 0
HasNone true t = Unit {0}

head_memory : (t : MachineState) (sp words : ℕ) → t.regs 14 ≡ sp → HasFrame sp words → 27 ≤ words
    → (HasWord (add (t.regs 14) holder_offset) × (0x20000000 ≤ add (t.regs 14) holder_offset)) × (with_word t.memory (add (t.regs 14) holder_offset) (t.regs 5) ≡ with_word t.memory (sp + holder_offset) (t.regs 5))
head_memory t sp words e f room =
    let p = placed sp words holder_offset f refl (omega arith) in
    let Q : ℕ → Type 0 = λ z. HasWord (add z holder_offset) × (0x20000000 ≤ add z holder_offset) in
    (subst Q (sym e) (p.has, p.outside), ap (λ z. with_word t.memory (add z holder_offset) (t.regs 5)) e ∙ ap (λ z. with_word t.memory z (t.regs 5)) p.address)

heads : (block : Bool) (t : MachineState) (sp words : ℕ) → t.regs 14 ≡ sp → HasFrame sp words → 27 ≤ words → HasNone block t
    → CanAll (headed block) t × Headed t (straight (headed block) t) (with_word t.memory (sp + holder_offset) (t.regs 5))
heads false t sp words e f room none =
    let h = head_memory t sp words e f room in
    ((h.0, (tt, tt)), record { memory_is = h.1; maker = or_zero_r (t.regs 0) ∙ sym none; regs = λ r n16. other_register t.regs 16 _ r n16; older = refl })
heads true t sp words e f room none =
    let h = head_memory t sp words e f room in
    ((h.0, tt), record { memory_is = h.1; maker = refl; regs = λ r n16. refl; older = refl })

-- Arguments and initial contents go to a context at the heap's top.
next_cell : (memory : Words) (top slot : ℕ) (ws : List ℕ) → with_words memory (top + cell_offset (slot + 1)) ws ≡ with_words memory (top + cell_offset slot + 4) ws
next_cell memory top slot ws = ap (λ a. with_words memory a ws) (omega arith)

cell_keeps : (n register slot : ℕ) (t : MachineState) (top words : ℕ) → t.regs 6 ≡ top → HasRoom top words → 4 + slot + n ≤ words
    → CanAll (cell_arguments register slot n) t × Kept t (straight (cell_arguments register slot n) t) (with_words t.memory (top + cell_offset slot) (registers_from t.regs register n))
cell_keeps zero register slot t top words e f room = (tt, record { memory_is = refl; regs = refl; older = refl })
cell_keeps (suc n) register slot t top words e f room =
    let p = heap_placed top words (cell_offset slot) f (omega arith) (omega arith) in
    let x = effect (store register 6 (cell_offset slot)) t in
    let rest = cell_keeps n (register + 1) (slot + 1) x top words e f (omega arith) in
    let k = rest.1 in
    let Q : ℕ → Type 0 = λ z. HasWord (add z (cell_offset slot)) × (0x20000000 ≤ add z (cell_offset slot)) in
    let first : x.memory ≡ with_word t.memory (top + cell_offset slot) (t.regs register) = ap (λ z. with_word t.memory (add z (cell_offset slot)) (t.regs register)) e ∙ ap (λ z. with_word t.memory z (t.regs register)) p.address in (
      (subst Q (sym e) (p.has, p.outside), rest.0),
      record {
        memory_is = k.memory_is ∙ next_cell x.memory top slot (registers_from t.regs (register + 1) n) ∙ ap (λ z. with_words z (top + cell_offset slot + 4) (registers_from t.regs (register + 1) n)) first;
        regs = k.regs;
        older = k.older;
      },
    )

cell_fills : (ws : List ℕ) (slot : ℕ) (t : MachineState) (top words : ℕ) → t.regs 6 ≡ top → HasRoom top words → 4 + slot + length ws ≤ words
    → CanAll (cell_initials slot ws) t × KeptBut t (straight (cell_initials slot ws) t) (with_words t.memory (top + cell_offset slot) ws)
cell_fills [] slot t top words e f room = (tt, record { memory_is = refl; regs = λ r h. refl; older = refl })
cell_fills (w ∷ ws) slot t top words e f room =
    let p = heap_placed top words (cell_offset slot) f (omega arith) (omega arith) in
    let y = straight (set_word 1 w) t in
    let x = effect (store 1 6 (cell_offset slot)) y in
    let rest = cell_fills ws (slot + 1) x top words e f (omega arith) in
    let k = rest.1 in
    let Q : ℕ → Type 0 = λ z. HasWord (add z (cell_offset slot)) × (0x20000000 ≤ add z (cell_offset slot)) in
    let first : x.memory ≡ with_word t.memory (top + cell_offset slot) w =
    ap (λ z. with_word t.memory (add z (cell_offset slot)) (joined w)) e ∙ ap (λ z. with_word t.memory z (joined w)) p.address ∙ ap (with_word t.memory (top + cell_offset slot)) (two_parts w) in (
      (tt, (tt, (subst Q (sym e) (p.has, p.outside), rest.0))),
      record {
        memory_is = k.memory_is ∙ next_cell x.memory top slot ws ∙ ap (λ z. with_words z (top + cell_offset slot + 4) ws) first;
        regs = λ r h. k.regs r h ∙ other_register (with_reg t.regs 1 (w / 1024 * 2 ^ 10)) 1 _ r h ∙ other_register t.regs 1 _ r h;
        older = k.older;
      },
    )

-- What is kept behind the holder.
abbrev rest_memory : Bool → MachineState → ℕ → ℕ → ℕ → List ℕ → Words
rest_memory false h sp map n ws = with_words h.memory (sp + local_offset 0) (registers_from h.regs 25 n ++ ws)
rest_memory true h sp map n ws = with_words h.memory (h.regs 6) (map ∷ h.regs 16 ∷ sp ∷ h.regs 24 ∷ (registers_from h.regs 25 n ++ ws))

pub record Rest (owns : Bool) (h to : MachineState) (n : ℕ) (memory : Words) : Type 0 where
  pub memory_is : to.memory ≡ memory
  pub context : to.regs 17 ≡ own_context owns h
  pub counted : to.regs 2 ≡ (h.regs 2 + 1) % 2 ^ 32
  pub activations : to.regs 4 ≡ (h.regs 4 + 1) % 2 ^ 32
  pub cost : to.regs 3 ≡ cost_then owns h n
  pub top : to.regs 6 ≡ top_then owns h n
  pub others : (r : ℕ) → nat_eq r 1 ≡ false → nat_eq r 2 ≡ false → nat_eq r 3 ≡ false → nat_eq r 4 ≡ false → nat_eq r 6 ≡ false → nat_eq r 17 ≡ false → to.regs r ≡ h.regs r
  pub older : to.older ≡ h.older

apart_context : (j : ℕ) → nat_eq (25 + j) 17 ≡ false
apart_context j = grind (arith, common_steps)

apart_scratch : (j : ℕ) → nat_eq (25 + j) 1 ≡ false
apart_scratch j = grind (arith, common_steps)

rests : (owns : Bool) (h : MachineState) (sp words map n : ℕ) (ws : List ℕ) → h.regs 14 ≡ sp → HasFrame sp words → 27 + in_frame owns (n + length ws) ≤ words → HasTop owns h (n + length ws) → h.regs 0 ≡ 0
    → CanAll (kept_first owns map n) h × CanAll (kept_last owns n ws) (straight (kept_first owns map n) h)
    × Rest owns h (straight (kept_last owns n ws) (straight (kept_first owns map n) h)) (n + length ws) (rest_memory owns h sp map n ws)
rests false h sp words map n ws e f room heap none =
    let a = straight (move 17 0 ∷ []) h in
    let kb = keeps n 25 0 a sp words e f (omega arith) in
    let b = straight (argument_stores 25 0 n) a in
    let eb : b.regs 14 ≡ sp = ap (λ g. g 14) kb.1.regs ∙ e in
    let kc = fills ws n b sp words eb f (omega arith) in
    let c = straight (initial_stores n ws) b in
    let d = straight last_code c in
    let whole : straight (initial_stores n ws ++ last_code) b ≡ d = straight_on (initial_stores n ws) last_code b in
    let args : registers_from a.regs 25 n ≡ registers_from h.regs 25 n = from_to n 25 25 a.regs h.regs (λ j lt. other_register h.regs 17 _ (25 + j) (apart_context j)) in
    let long : sp + local_offset n ≡ sp + local_offset 0 + 4 * length (registers_from a.regs 25 n) = omega (arith, registers_long a.regs 25 n) in
    let memory : d.memory ≡ rest_memory false h sp map n ws =
    kc.1.memory_is
    ∙ ap (λ z. with_words z (sp + local_offset n) ws) kb.1.memory_is
    ∙ with_words_both a.memory (sp + local_offset 0) (registers_from a.regs 25 n) ws (sp + local_offset n) long
    ∙ ap (λ z. with_words h.memory (sp + local_offset 0) (z ++ ws)) args in
    let through : (r : ℕ) → nat_eq r 1 ≡ false → c.regs r ≡ a.regs r = λ r n1. kc.1.regs r n1 ∙ ap (λ g. g r) kb.1.regs in (
      (tt, kb.0),
      can_both (initial_stores n ws) last_code b kc.0 (tt, (tt, tt)),
      (let P : MachineState → Type 0 = λ z. Rest false h z (n + length ws) (rest_memory false h sp map n ws) in subst P (sym whole) (record {
        memory_is = memory;
        context = through 17 refl ∙ or_zero_r (h.regs 0) ∙ none;
        counted = ap (λ z. (z + 1) % 2 ^ 32) (through 2 refl);
        activations = ap (λ z. (z + 1) % 2 ^ 32) (through 4 refl);
        cost = through 3 refl;
        top = through 6 refl;
        others = λ r n1 n2 n3 n4 n6 n17. other_register (with_reg c.regs 4 _) 2 _ r n2 ∙ other_register c.regs 4 _ r n4 ∙ through r n1 ∙ other_register h.regs 17 _ r n17;
        older = kc.1.older ∙ kb.1.older;
      })),
    )
rests true h sp words map n ws e f room heap none =
    let top = h.regs 6 in
    let limit = 4 + (n + length ws) in
    let a = straight (context_head map) h in
    let p0 = heap_placed top limit 0 heap refl (omega arith) in
    let p4 = heap_placed top limit 4 heap refl (omega arith) in
    let p8 = heap_placed top limit 8 heap refl (omega arith) in
    let p12 = heap_placed top limit 12 heap refl (omega arith) in
    let four = four_put h.memory top (joined map) (h.regs 16) (h.regs 14) (h.regs 24) (add top 0) (add top 4) (add top 8) (add top 12) (omega (arith, p0.address)) p4.address (omega (arith, p8.address)) (omega (arith, p12.address)) in
    let head : a.memory ≡ with_words h.memory top (map ∷ h.regs 16 ∷ sp ∷ h.regs 24 ∷ []) =
    four ∙ ap (λ z. with_words h.memory top (z ∷ h.regs 16 ∷ h.regs 14 ∷ h.regs 24 ∷ [])) (two_parts map) ∙ ap (λ z. with_words h.memory top (map ∷ h.regs 16 ∷ z ∷ h.regs 24 ∷ [])) e in
    let kb = cell_keeps n 25 0 a top limit refl heap (omega arith) in
    let b = straight (cell_arguments 25 0 n) a in
    let first : straight (context_head map ++ cell_arguments 25 0 n) h ≡ b = straight_on (context_head map) (cell_arguments 25 0 n) h in
    let eb : b.regs 6 ≡ top = ap (λ g. g 6) kb.1.regs in
    let kc = cell_fills ws n b top limit eb heap (omega arith) in
    let c = straight (cell_initials n ws) b in
    let last = context_end (4 + n + length ws) in
    let d = straight last c in
    let whole : straight (cell_initials n ws ++ last) b ≡ d = straight_on (cell_initials n ws) last b in
    let args : registers_from a.regs 25 n ≡ registers_from h.regs 25 n =
    from_to n 25 25 a.regs h.regs (λ j lt. other_register (with_reg h.regs 1 (map / 1024 * 2 ^ 10)) 1 _ (25 + j) (apart_scratch j) ∙ other_register h.regs 1 _ (25 + j) (apart_scratch j)) in
    let long : top + cell_offset n ≡ top + cell_offset 0 + 4 * length (registers_from a.regs 25 n) = omega (arith, registers_long a.regs 25 n) in
    let four_words : top + cell_offset 0 ≡ top + 4 * 4 = omega arith in
    let memory : d.memory ≡ rest_memory true h sp map n ws =
    kc.1.memory_is
    ∙ ap (λ z. with_words z (top + cell_offset n) ws) kb.1.memory_is
    ∙ with_words_both a.memory (top + cell_offset 0) (registers_from a.regs 25 n) ws (top + cell_offset n) long
    ∙ ap (λ z. with_words a.memory (top + cell_offset 0) (z ++ ws)) args
    ∙ ap (λ z. with_words z (top + cell_offset 0) (registers_from h.regs 25 n ++ ws)) head
    ∙ with_words_both h.memory top (map ∷ h.regs 16 ∷ sp ∷ h.regs 24 ∷ []) (registers_from h.regs 25 n ++ ws) (top + cell_offset 0) four_words in
    let through : (r : ℕ) → nat_eq r 1 ≡ false → c.regs r ≡ a.regs r = λ r n1. kc.1.regs r n1 ∙ ap (λ g. g r) kb.1.regs in
    let words_are : 4 + n + length ws ≡ limit = omega arith in (
      can_both (context_head map) (cell_arguments 25 0 n) h (tt, (tt, ((p0.has, p0.outside), ((p4.has, p4.outside), ((p8.has, p8.outside), ((p12.has, p12.outside), tt)))))) kb.0,
      (let P : MachineState → Type 0 = λ z. CanAll (cell_initials n ws ++ last) z in subst P (sym first) (can_both (cell_initials n ws) last b kc.0 (tt, (tt, (tt, (tt, (tt, tt))))))),
      (let P : MachineState → Type 0 = λ z. Rest true h z (n + length ws) (rest_memory true h sp map n ws) in subst P (sym (ap (straight (cell_initials n ws ++ last)) first ∙ whole)) (record {
        memory_is = memory;
        context = ap (λ z. add z 1) (through 6 refl) ∙ omega (arith, heap.from, heap.to);
        counted = ap (λ z. (z + 1) % 2 ^ 32) (through 2 refl);
        activations = ap (λ z. (z + 1) % 2 ^ 32) (through 4 refl);
        cost = ap (λ z. add z (4 + n + length ws)) (through 3 refl) ∙ ap (add (h.regs 3)) words_are;
        top = ap (λ z. add z (4 * (4 + n + length ws))) (through 6 refl) ∙ omega (arith, heap.from, heap.to);
        others = λ r n1 n2 n3 n4 n6 n17. other_register (with_reg (with_reg (with_reg (with_reg c.regs 17 _) 6 _) 3 _) 4 _) 2 _ r n2 ∙ other_register (with_reg (with_reg (with_reg c.regs 17 _) 6 _) 3 _) 4 _ r n4
            ∙ other_register (with_reg (with_reg c.regs 17 _) 6 _) 3 _ r n3 ∙ other_register (with_reg c.regs 17 _) 6 _ r n6 ∙ other_register c.regs 17 _ r n17 ∙ through r n1
            ∙ other_register (with_reg h.regs 1 (map / 1024 * 2 ^ 10)) 1 _ r n1 ∙ other_register h.regs 1 _ r n1;
        older = kc.1.older ∙ kb.1.older;
      })),
    )

-- All of it is straight.
cells_straight : (register slot n : ℕ) → all_straight (cell_arguments register slot n) ≡ true
cells_straight register slot zero = refl
cells_straight register slot (suc n) = cells_straight (register + 1) (slot + 1) n

cell_initials_straight : (slot : ℕ) (ws : List ℕ) → all_straight (cell_initials slot ws) ≡ true
cell_initials_straight slot [] = refl
cell_initials_straight slot (w ∷ ws) = cell_initials_straight (slot + 1) ws

headed_straight : (block : Bool) → all_straight (headed block) ≡ true
headed_straight false = refl
headed_straight true = refl

first_straight : (owns : Bool) (map n : ℕ) → all_straight (kept_first owns map n) ≡ true
first_straight false map n = stores_straight 25 0 n
first_straight true map n = both_straight (context_head map) (cell_arguments 25 0 n) refl (cells_straight 25 0 n)

last_straight : (owns : Bool) (n : ℕ) (ws : List ℕ) → all_straight (kept_last owns n ws) ≡ true
last_straight false n ws = both_straight (initial_stores n ws) last_code (initials_straight n ws) refl
last_straight true n ws = both_straight (cell_initials n ws) (context_end (4 + n + length ws)) (cell_initials_straight n ws) refl

kept_straight : (owns block : Bool) (map n : ℕ) (ws : List ℕ) → all_straight (entry_kept owns block map n ws) ≡ true
kept_straight owns block map n ws =
    both_straight (headed block ++ kept_first owns map n) (kept_last owns n ws) (both_straight (headed block) (kept_first owns map n) (headed_straight block) (first_straight owns map n)) (last_straight owns n ws)

kept_on : (owns block : Bool) (map n : ℕ) (ws : List ℕ) (t : MachineState) → straight (entry_kept owns block map n ws) t ≡ straight (kept_last owns n ws) (straight (kept_first owns map n) (straight (headed block) t))
kept_on owns block map n ws t =
    straight_on (headed block ++ kept_first owns map n) (kept_last owns n ws) t ∙ ap (straight (kept_last owns n ws)) (straight_on (headed block) (kept_first owns map n) t)

kept_can : (owns block : Bool) (map n : ℕ) (ws : List ℕ) (t : MachineState) → CanAll (headed block) t → CanAll (kept_first owns map n) (straight (headed block) t)
    → CanAll (kept_last owns n ws) (straight (kept_first owns map n) (straight (headed block) t)) → CanAll (entry_kept owns block map n ws) t
kept_can owns block map n ws t a b c =
    let P : MachineState → Type 0 = λ z. CanAll (kept_last owns n ws) z in
    can_both (headed block ++ kept_first owns map n) (kept_last owns n ws) t (can_both (headed block) (kept_first owns map n) t a b) (subst P (sym (straight_on (headed block) (kept_first owns map n) t)) c)

-- From what the machine was when it was entered.
top_same : (owns : Bool) (m h : MachineState) (k : ℕ) → h.regs 6 ≡ m.regs 6 → HasTop owns m k → HasTop owns h k
top_same false m h k e t = tt
top_same true m h k e t = let P : ℕ → Type 0 = λ z. HasRoom z (4 + k) in subst P (sym e) t

context_same : (owns : Bool) (m h : MachineState) → h.regs 6 ≡ m.regs 6 → own_context owns h ≡ own_context owns m
context_same false m h e = refl
context_same true m h e = ap (λ z. z + 1) e

cost_same : (owns : Bool) (m h : MachineState) (k : ℕ) → h.regs 3 ≡ m.regs 3 → cost_then owns h k ≡ cost_then owns m k
cost_same false m h k e = e
cost_same true m h k e = ap (λ z. add z (4 + k)) e

top_after : (owns : Bool) (m h : MachineState) (k : ℕ) → h.regs 6 ≡ m.regs 6 → top_then owns h k ≡ top_then owns m k
top_after false m h k e = e
top_after true m h k e = ap (λ z. z + 4 * (4 + k)) e

memory_same : (owns block : Bool) (m h : MachineState) (place map n : ℕ) (ws : List ℕ) → h.memory ≡ with_word (with_room m.memory (m.regs 30) m.older) (place + holder_offset) (given_holder block m) → h.regs 6 ≡ m.regs 6
    → h.regs 16 ≡ given_maker block m → h.regs 24 ≡ given_receiver block m → registers_from h.regs 25 n ≡ registers_from m.regs 9 n → rest_memory owns h place map n ws ≡ begun_memory owns block m place map n ws
memory_same false block m h place map n ws e e6 e16 e24 args =
    ap (λ z. with_words z (place + local_offset 0) (registers_from h.regs 25 n ++ ws)) e
    ∙ ap (λ z. with_words (with_word (with_room m.memory (m.regs 30) m.older) (place + holder_offset) (given_holder block m)) (place + local_offset 0) (z ++ ws)) args
memory_same true block m h place map n ws e e6 e16 e24 args =
    let held = with_word (with_room m.memory (m.regs 30) m.older) (place + holder_offset) (given_holder block m) in
    ap (λ z. with_words z (h.regs 6) (map ∷ h.regs 16 ∷ place ∷ h.regs 24 ∷ (registers_from h.regs 25 n ++ ws))) e
    ∙ ap (λ z. with_words held z (map ∷ h.regs 16 ∷ place ∷ h.regs 24 ∷ (registers_from h.regs 25 n ++ ws))) e6
    ∙ ap (λ z. with_words held (m.regs 6) (map ∷ z ∷ place ∷ h.regs 24 ∷ (registers_from h.regs 25 n ++ ws))) e16
    ∙ ap (λ z. with_words held (m.regs 6) (map ∷ given_maker block m ∷ place ∷ z ∷ (registers_from h.regs 25 n ++ ws))) e24
    ∙ ap (λ z. with_words held (m.regs 6) (map ∷ given_maker block m ∷ place ∷ given_receiver block m ∷ (z ++ ws))) args

none_by : (block : Bool) (m t : MachineState) → t.regs 16 ≡ given_maker block m → t.regs 0 ≡ 0 → HasNone block t
none_by false m t e none = e ∙ sym none
none_by true m t e none = tt

arrived : (m x h : MachineState) (j : ℕ) → ((r : ℕ) → nat_eq r 5 ≡ false → nat_eq r 16 ≡ false → nat_eq r 24 ≡ false → h.regs r ≡ x.regs r) → ((j : ℕ) → j < 5 → x.regs (25 + j) ≡ m.regs (9 + j)) → j < 5 → h.regs (25 + j) ≡ m.regs (9 + j)
arrived m x h zero f g lt = f 25 refl refl refl ∙ g 0 lt
arrived m x h (suc zero) f g lt = f 26 refl refl refl ∙ g 1 lt
arrived m x h (suc (suc zero)) f g lt = f 27 refl refl refl ∙ g 2 lt
arrived m x h (suc (suc (suc zero))) f g lt = f 28 refl refl refl ∙ g 3 lt
arrived m x h (suc (suc (suc (suc zero)))) f g lt = f 29 refl refl refl ∙ g 4 lt
arrived m x h (suc (suc (suc (suc (suc j))))) f g lt = absurd (omega arith)

in_saved : (m : MachineState) (bytes j : ℕ) → j < 5 → (saved m bytes).regs (25 + j) ≡ m.regs (9 + j)
in_saved m bytes zero lt = refl
in_saved m bytes (suc zero) lt = refl
in_saved m bytes (suc (suc zero)) lt = refl
in_saved m bytes (suc (suc (suc zero))) lt = refl
in_saved m bytes (suc (suc (suc (suc zero)))) lt = refl
in_saved m bytes (suc (suc (suc (suc (suc j))))) lt = absurd (omega arith)

pub entry_begins : (owns block : Bool) (m : MachineState) (p words map n : ℕ) (ws : List ℕ) → (c : CanBegin owns block m p words map n ws)
    → Begins owns block m (p + 4 * length (entered_code owns block (4 * words) map n ws)) c.place (n + length ws) (begun_memory owns block m c.place map n ws)
entry_begins owns block m p words map n ws c =
    let bytes = 4 * words in
    let a = c.code_region in
    let x = saved m bytes in
    let place = c.place in
    let start = start_code block in
    let kept_words = entry_kept owns block map n ws in
    let long : length (start ++ kept_words) ≡ length start + length kept_words = length-append start kept_words in
    let size : length (entered_code owns block bytes map n ws) ≡ 1 + length start + length kept_words = omega (arith, long) in
    let s1 : StandsAt x (p + 4) = on m.pc m.npc p (p + 4) c.stands (omega (arith, a.to, size)) in
    let room : Words = with_room m.memory (m.regs 30) m.older in
    let spares : (b : ℕ) → b < 0x20000000 → word_at room b ≡ word_at m.memory b = λ b low. below_stays m b c.within c.can_save (omega (arith, low)) in
    let code = at_apart (start ++ kept_words) m.memory room (p + 4) spares (omega (arith, a.to, size, long)) c.code_there.1 in
    let region1 : IsCodeFrom (p + 4) (length start + length kept_words) = record { aligned = omega (arith, a.aligned); from = omega (arith, a.from); to = omega (arith, a.to, size) } in
    let region2 : IsCodeFrom (p + 4 + 4 * length start) (length kept_words) = record { aligned = omega (arith, a.aligned); from = omega (arith, a.from); to = omega (arith, a.to, size) } in
    let st = starts block m (p + 4) bytes (length kept_words) c.start c.within c.can_save s1 region1 (at_front room (p + 4) start kept_words code) in
    let t = st.to in
    let enough : 27 ≤ words = omega (arith, c.room) in
    let sp : t.regs 14 ≡ place = st.regs 14 refl refl refl ∙ below_by place bytes (m.regs 14) c.below (omega (arith, enough)) (omega (arith, c.below, c.frame.2, c.frame.3)) in
    let none : t.regs 0 ≡ 0 = st.regs 0 refl refl refl ∙ c.register_0 in
    let hd = heads block t place words sp c.frame enough (none_by block m t st.maker none) in
    let h = straight (headed block) t in
    let g = hd.1 in
    let six : h.regs 6 ≡ m.regs 6 = g.regs 6 refl ∙ st.regs 6 refl refl refl in
    let rs = rests owns h place words map n ws (g.regs 14 refl ∙ sp) c.frame c.room (top_same owns m h (n + length ws) six c.heap) (g.regs 0 refl ∙ none) in
    let done = straight (kept_last owns n ws) (straight (kept_first owns map n) h) in
    let to = straight kept_words t in
    let whole : to ≡ done = kept_on owns block map n ws t in
    let code2 = (let P : Words → Type 0 = λ z. At z (p + 4 + 4 * length start) kept_words in subst P (sym st.memory_is) (at_behind room (p + 4) start kept_words code)) in
    let go = goes_straight kept_words t (p + 4 + 4 * length start) st.stands region2 code2 (kept_straight owns block map n ws) (kept_can owns block map n ws t hd.0 rs.0 rs.1) in
    let r = rs.2 in
    let through : (k : ℕ) → nat_eq k 5 ≡ false → nat_eq k 16 ≡ false → nat_eq k 24 ≡ false → h.regs k ≡ x.regs k = λ k n5 n16 n24. g.regs k n16 ∙ st.regs k n5 n16 n24 in
    let args : registers_from h.regs 25 n ≡ registers_from m.regs 9 n = from_to n 25 9 h.regs m.regs (λ j lt. arrived m x h j through (in_saved m bytes) (omega (arith, c.few))) in
    let holder : h.memory ≡ with_word room (place + holder_offset) (given_holder block m) =
    g.memory_is ∙ ap (λ z. with_word z (place + holder_offset) (t.regs 5)) st.memory_is ∙ ap (with_word room (place + holder_offset)) st.holder in
    let maker : h.regs 16 ≡ given_maker block m = g.maker ∙ st.maker in
    let receiver : h.regs 24 ≡ given_receiver block m = g.regs 24 refl ∙ st.receiver in
    let at : (k : ℕ) → to.regs k ≡ done.regs k = λ k. ap (λ z. z.regs k) whole in
    record {
      instructions = suc (st.instructions + length kept_words);
      few = omega (arith, st.few, size, c.stands.here);
      to = to;
      goes = goes_on (st.instructions + length kept_words) m x to (stepped m p (p + 4) _ (Three ops.Save 14 14 (Imm (negsuc (bytes - 1)))) c.stands a c.code_there.0 refl c.can_save)
          (goes_then st.instructions (length kept_words) x t to st.goes go.0);
      begun = record {
        stands = stands_as to.pc to.npc _ _ _ _ go.1 (omega (arith, size)) (omega (arith, size));
        memory_is = ap (λ z. z.memory) whole ∙ r.memory_is ∙ memory_same owns block m h place map n ws holder six maker receiver args;
        receiver = at 24 ∙ r.others 24 refl refl refl refl refl refl ∙ receiver;
        outer = at 16 ∙ r.others 16 refl refl refl refl refl refl ∙ maker;
        context = at 17 ∙ r.context ∙ context_same owns m h six;
        frame = at 14 ∙ r.others 14 refl refl refl refl refl refl ∙ g.regs 14 refl ∙ sp;
        caller = at 30 ∙ r.others 30 refl refl refl refl refl refl ∙ through 30 refl refl refl;
        returns = at 31 ∙ r.others 31 refl refl refl refl refl refl ∙ through 31 refl refl refl;
        counted = at 2 ∙ r.counted ∙ ap (λ z. (z + 1) % 2 ^ 32) (through 2 refl refl refl);
        activations = at 4 ∙ r.activations ∙ ap (λ z. (z + 1) % 2 ^ 32) (through 4 refl refl refl);
        cost = at 3 ∙ r.cost ∙ cost_same owns m h (n + length ws) (through 3 refl refl refl);
        top = at 6 ∙ r.top ∙ top_after owns m h (n + length ws) six;
        register_0 = at 0 ∙ r.others 0 refl refl refl refl refl refl ∙ g.regs 0 refl ∙ none;
        older = ap (λ z. z.older) whole ∙ r.older ∙ g.older ∙ st.older;
      };
    }
