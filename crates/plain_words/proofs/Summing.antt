-- Sums and differences of integers, and where they are left to the service.
use Rattle.std.proofs.Common.{◌≡◌, ℕ, zero, suc, ◌+◌, ◌*◌, ◌%◌, ◌^◌, ◌<◌, ◌≤◌, refl, ◌∙◌, ap, sym, subst, arith, append_assoc, length-append}
use Rattle.std.specs.Prelude.{Bool, true, false, nat_eq, List, [], ◌∷◌, ◌++◌, length, pos}
use Rattle.std.proofs.lemmas.Grind.{common_steps}
use Rattle.std.specs.Int.Bits.{or_zero_r}
use Rattle.sparc_insn.specs.declared.insn.Insn.{Insn}
use Rattle.sparc_insn.specs.declared.insn.Insn.TheVariants.{Three, Branch, Trap}
use Rattle.sparc_insn.specs.declared.insn.Operand.TheVariants.{Reg}
use Rattle.sparc_store.specs.Words.{Words, word_at, with_word, HasFrame}
use Rattle.sparc_machine.specs.State.{MachineState}
use Rattle.sparc_machine.specs.Table.{effect, went, transferred, words_on, CanDo}
use Rattle.plain_words.specs.Going.{Goes, IsTrap, At, StandsAt, IsCodeFrom}
use Rattle.frame_walk.specs.Places.{pending_offset}
use Rattle.plain_words.specs.Code.{nop, count, move, take, pend, handed_code, sum_op, summed_code, sum_code, answered_code}
use Rattle.plain_words.specs.Moves.{is_scratch, IsReady, Does, Asks, AreArguments, pended, handed_receiver, first_handed, handed_argument, summed, overflows}
use Rattle.plain_words.proofs.Basics.{goes_then, goes_on, goes_none, on, jumps, stepped, stepped_to, at_trap, code_behind, stands_as, other_register}
use Rattle.plain_words.proofs.Straight.{straight, all_straight, all_spare, CanAll, straight_spares, straight_older, zero_takes}
use Rattle.plain_words.proofs.Placing.{IsPlaced, placed}
use Rattle.plain_words.proofs.Polls.{polled, poll_spares, branch_taken, branch_untaken}
use Rattle.plain_words.proofs.Long.{handed_long}
use Rattle.plain_words.proofs.Sending.{fronted, arguments_straight, arguments_spare, loads, same_arguments}

-- Receiver and arguments in the outs.

handed_straight : (implied : Bool) (locals k n : ℕ) → all_straight (handed_code implied locals k n) ≡ true
handed_straight true locals k n = arguments_straight 9 locals k n
handed_straight false locals k n = arguments_straight 9 locals (k + 1) n

handed_spare : (implied : Bool) (locals k n : ℕ) → n ≤ 5 → all_spare (handed_code implied locals k n) ≡ true
handed_spare true locals k n h = arguments_spare 9 locals k n (omega arith) (omega arith)
handed_spare false locals k n h = arguments_spare 9 locals (k + 1) n (omega arith) (omega arith)

record Handed (m t : MachineState) (implied : Bool) (locals k n : ℕ) : Type 0 where
  memory : t.memory ≡ m.memory
  count : t.regs 2 ≡ m.regs 2
  receiver : t.regs 8 ≡ handed_receiver m implied locals k
  arguments : AreArguments m t 9 locals (first_handed implied k) n
  frame : t.regs 14 ≡ m.regs 14

handed : (m : MachineState) (words : ℕ) (implied : Bool) (locals k n : ℕ) → HasFrame (m.regs 14) words → n ≤ 5 → 27 + locals + first_handed implied k + n ≤ words
    → CanAll (handed_code implied locals k n) (polled m) × Handed m (straight (handed_code implied locals k n) (polled m)) implied locals k n
handed m words true locals k n f few room =
    let x = effect (move 8 24) (polled m) in
    let l = loads n 9 k x words locals f (omega arith) (omega arith) room in (
      (tt, l.0),
      record {
        memory = l.1.memory;
        count = l.1.lower 2 (omega arith);
        receiver = l.1.lower 8 (omega arith) ∙ or_zero_r (m.regs 24);
        arguments = same_arguments x m (straight (handed_code true locals k n) (polled m)) 9 locals k n refl refl l.2;
        frame = l.1.frame;
      },
    )
handed m words false locals k n f few room =
    let d = placed (m.regs 14) words (pending_offset locals k) f (omega arith) (omega arith) in
    let x = effect (take 8 locals k) (polled m) in
    let l = loads n 9 (k + 1) x words locals f (omega arith) (omega arith) room in (
      (d.has, l.0),
      record {
        memory = l.1.memory;
        count = l.1.lower 2 (omega arith);
        receiver = l.1.lower 8 (omega arith) ∙ ap (word_at m.memory) d.address;
        arguments = same_arguments x m (straight (handed_code false locals k n) (polled m)) 9 locals (k + 1) n refl refl l.2;
        frame = l.1.frame;
      },
    )

-- The tagged sum of %o0 and %o1 in %g1.

abbrev tagged_sum : Bool → Insn
tagged_sum less = Three (sum_op less) 1 8 (Reg 9)

record Sums (less : Bool) (t u : MachineState) : Type 0 where
  pc : u.pc ≡ t.npc
  npc : u.npc ≡ (t.npc + 4) % 2 ^ 32
  memory : u.memory ≡ t.memory
  older : u.older ≡ t.older
  word : u.regs 1 ≡ summed less (t.regs 8) (t.regs 9)
  over : u.icc.overflow ≡ overflows less (t.regs 8) (t.regs 9)
  others : (r : ℕ) → nat_eq r 1 ≡ false → u.regs r ≡ t.regs r

can_sum : (less : Bool) (t : MachineState) → CanDo (tagged_sum less) t
can_sum true t = tt
can_sum false t = tt

sums : (less : Bool) (t : MachineState) → Sums less t (effect (tagged_sum less) t)
sums true t = record { pc = refl; npc = refl; memory = refl; older = refl; word = refl; over = refl; others = λ r h. other_register t.regs 1 _ r h }
sums false t = record { pc = refl; npc = refl; memory = refl; older = refl; word = refl; over = refl; others = λ r h. other_register t.regs 1 _ r h }

-- Behind it: no overflow.

abbrev moved_back : MachineState → MachineState
moved_back u = effect (move 8 1) (effect nop (went u))

abbrev counted : MachineState → MachineState
counted u = effect count (transferred (words_on (moved_back u).pc (pos 3)) (moved_back u))

abbrev kept_sum : MachineState → ℕ → ℕ → MachineState
kept_sum u locals k = effect (pend 8 locals k) (counted u)

abbrev behind_sum : List Insn → List Insn
behind_sum more = Branch false 7 (pos 5) ∷ nop ∷ move 8 1 ∷ Branch false 8 (pos 3) ∷ count ∷ Trap 3 ∷ more

ends : (u : MachineState) (q locals k : ℕ) → StandsAt u q → IsCodeFrom q 7 → At u.memory q (behind_sum (answered_code locals k)) → u.icc.overflow ≡ false → IsPlaced (u.regs 14) (pending_offset locals k)
    → Goes 6 u (kept_sum u locals k) × StandsAt (kept_sum u locals k) (q + 28)
ends u q locals k s0 a0 at flag d =
    let s1 = on u.pc u.npc q (q + 4) s0 (omega (arith, a0.to)) in
    let s2 = on _ _ (q + 4) (q + 4 + 4) s1 (omega (arith, a0.to)) in
    let s3 = on _ _ (q + 4 + 4) (q + 4 + 4 + 4) s2 (omega (arith, a0.to)) in
    let s4 = jumps _ _ (q + 4 + 4 + 4) (q + 4 + 4 + 4 + 4) 3 s3 (omega (arith, a0.to)) in
    let s5 = on _ _ (q + 4 + 4 + 4 + 4) (q + 4 + 4 + 4 + 4 * 3) s4 (omega (arith, a0.to)) in
    let s6 = on _ _ (q + 4 + 4 + 4 + 4 * 3) (q + 4 + 4 + 4 + 4 * 3 + 4) s5 (omega (arith, a0.to)) in
    let a1 = code_behind q 6 a0 in
    let a2 = code_behind (q + 4) 5 a1 in
    let a3 = code_behind (q + 4 + 4) 4 a2 in
    let a4 = code_behind (q + 4 + 4 + 4) 3 a3 in
    let a6 : IsCodeFrom (q + 4 + 4 + 4 + 4 * 3) 1 = record { aligned = omega (arith, a0.aligned); from = omega (arith, a0.from); to = omega (arith, a0.to) } in
    let last = (let P : ℕ → Type 0 = λ z. At u.memory z (answered_code locals k) in let e : q + 4 + 4 + 4 + 4 + 4 + 4 ≡ q + 4 + 4 + 4 + 4 * 3 = omega arith in subst P e at.1.1.1.1.1.1) in
    let m1 = went u in
    let m2 = effect nop m1 in
    let m3 = moved_back u in
    let m4 = transferred (words_on m3.pc (pos 3)) m3 in
    let m5 = counted u in (
      goes_on 5 u m1 _ (stepped_to u m1 q (q + 4) 6 (Branch false 7 (pos 5)) s0 a0 at.0 refl tt (branch_untaken u 7 5 flag))
          (goes_on 4 m1 m2 _ (stepped m1 (q + 4) (q + 4 + 4) 5 nop s1 a1 at.1.0 refl tt)
          (goes_on 3 m2 m3 _ (stepped m2 (q + 4 + 4) (q + 4 + 4 + 4) 4 (move 8 1) s2 a2 at.1.1.0 refl tt)
          (goes_on 2 m3 m4 _ (stepped_to m3 m4 (q + 4 + 4 + 4) (q + 4 + 4 + 4 + 4) 3 (Branch false 8 (pos 3)) s3 a3 at.1.1.1.0 refl tt (branch_taken m3 8 3 refl))
          (goes_on 1 m4 m5 _ (stepped m4 (q + 4 + 4 + 4 + 4) (q + 4 + 4 + 4 + 4 * 3) 2 count s4 a4 at.1.1.1.1.0 refl tt)
          (goes_on 0 m5 _ _ (stepped m5 (q + 4 + 4 + 4 + 4 * 3) (q + 4 + 4 + 4 + 4 * 3 + 4) 0 (pend 8 locals k) s5 a6 last.0 refl d.has)
          (goes_none _)))))),
      stands_as _ _ _ _ (q + 28) (q + 28 + 4) s6 (omega arith) (omega arith),
    )

-- An overflow, or a tag.

abbrev left_over : MachineState → MachineState
left_over u = effect nop (transferred (words_on u.pc (pos 5)) u)

asks_on : (u : MachineState) (q : ℕ) (more : List Insn) → StandsAt u q → IsCodeFrom q (length (behind_sum more)) → At u.memory q (behind_sum more) → u.icc.overflow ≡ true
    → Goes 2 u (left_over u) × IsTrap 3 (left_over u) × StandsAt (left_over u) (q + 20)
asks_on u q more s0 a0 at flag =
    let words = suc (suc (suc (suc (length more)))) in
    let s1 = jumps u.pc u.npc q (q + 4) 5 s0 (omega (arith, a0.to)) in
    let s2 = on _ _ (q + 4) (q + 4 * 5) s1 (omega (arith, a0.to)) in
    let a1 = code_behind q (suc words) a0 in
    let a5 : IsCodeFrom (q + 4 * 5) 1 = record { aligned = omega (arith, a0.aligned); from = omega (arith, a0.from); to = omega (arith, a0.to) } in
    let last = (let P : ℕ → Type 0 = λ z. At u.memory z (Trap 3 ∷ more) in let e : q + 4 + 4 + 4 + 4 + 4 ≡ q + 4 * 5 = omega arith in subst P e at.1.1.1.1.1) in
    let m1 = transferred (words_on u.pc (pos 5)) u in (
      goes_on 1 u m1 _ (stepped_to u m1 q (q + 4) (suc words) (Branch false 7 (pos 5)) s0 a0 at.0 refl tt (branch_taken u 7 5 flag))
          (goes_on 0 m1 _ _ (stepped m1 (q + 4) (q + 4 * 5) words nop s1 a1 at.1.0 refl tt)
          (goes_none _)),
      at_trap (left_over u) (q + 4 * 5) (q + 4 * 5 + 4) 0 3 (Trap 3) s2 a5 last.0 refl tt,
      stands_as _ _ _ _ (q + 20) (q + 20 + 4) s2 (omega arith) (omega arith),
    )

-- From the poll on.

apart_one : (r : ℕ) → is_scratch r ≡ false → nat_eq r 1 ≡ false
apart_one r h = grind (arith, common_steps)

out_apart : (r : ℕ) → 8 ≤ r → nat_eq r 1 ≡ false
out_apart r h = grind (arith, common_steps)

-- so far: the sum is in %g1
record Begun (less implied : Bool) (locals k n : ℕ) (more : List Insn) (m : MachineState) (p : ℕ) (u : MachineState) : Type 0 where
  goes : Goes (7 + n) m u
  stands : StandsAt u (p + 32 + 4 * n)
  code_region : IsCodeFrom (p + 32 + 4 * n) (length (behind_sum more))
  code_there : At u.memory (p + 32 + 4 * n) (behind_sum more)
  memory : u.memory ≡ m.memory
  count : u.regs 2 ≡ m.regs 2
  kept : (r : ℕ) → is_scratch r ≡ false → u.regs r ≡ m.regs r
  older : u.older ≡ m.older
  receiver : u.regs 8 ≡ handed_receiver m implied locals k
  arguments : AreArguments m u 9 locals (first_handed implied k) n
  word : u.regs 1 ≡ summed less (handed_receiver m implied locals k) (handed_argument m implied locals k)
  over : u.icc.overflow ≡ overflows less (handed_receiver m implied locals k) (handed_argument m implied locals k)

held_arguments : (m t u : MachineState) (register locals k n : ℕ) → 8 ≤ register → ((r : ℕ) → 8 ≤ r → u.regs r ≡ t.regs r) → AreArguments m t register locals k n → AreArguments m u register locals k n
held_arguments m t u register locals k zero low same h = tt
held_arguments m t u register locals k (suc n) low same h = (same register low ∙ h.0, held_arguments m t u (register + 1) locals (k + 1) n (omega arith) same h.1)

first_argument : (m t : MachineState) (locals k n : ℕ) → 0 < n → AreArguments m t 9 locals k n → t.regs 9 ≡ word_at m.memory (m.regs 14 + pending_offset locals k)
first_argument m t locals k zero h a = absurd (omega arith)
first_argument m t locals k (suc n) h a = a.0

begins : (less implied : Bool) (locals k n : ℕ) (more : List Insn) (m : MachineState) (p words : ℕ) → IsReady m p words (handed_code implied locals k n ++ (tagged_sum less ∷ behind_sum more)) → 0 < n → n ≤ 5
    → 27 + locals + first_handed implied k + n ≤ words
    → Begun less implied locals k n more m p (effect (tagged_sum less) (straight (handed_code implied locals k n) (polled m)))
begins less implied locals k n more m p words r some few room =
    let front = handed_code implied locals k n in
    let all = handed_straight implied locals k n in
    let spare = handed_spare implied locals k n few in
    let h = handed m words implied locals k n r.frame few room in
    let f = fronted front (tagged_sum less ∷ behind_sum more) m p words r all h.0 in
    let t = straight front (polled m) in
    let u = effect (tagged_sum less) t in
    let s = sums less t in
    let long : length front ≡ 1 + n = handed_long implied locals k n in
    let q = p + 24 + 4 * length front in
    let here : q + 4 ≡ p + 32 + 4 * n = omega (arith, long) in
    let s1 = on t.pc t.npc q (q + 4) f.stands (omega (arith, f.code_region.to)) in
    let stands : StandsAt u (q + 4) = record { here = s.pc ∙ s1.here; next = s.npc ∙ s1.next } in
    let a1 = code_behind q (length (behind_sum more)) f.code_region in
    let code : At u.memory (q + 4) (behind_sum more) = (let P : Words → Type 0 = λ z. At z (q + 4) (behind_sum more) in subst P (sym s.memory) f.code_there.1) in
    let argument = first_argument m t locals (first_handed implied k) n some h.1.arguments in
    let receiver = h.1.receiver in
    let g = goes_then (5 + length front) 1 m t u f.goes (goes_on 0 t u u (stepped t q (q + 4) (length (behind_sum more)) (tagged_sum less) f.stands f.code_region f.code_there.0 refl (can_sum less t)) (goes_none u)) in
    record {
      goes = (let P : ℕ → Type 0 = λ z. Goes z m u in let e : 5 + length front + 1 ≡ 7 + n = omega (arith, long) in subst P e g);
      stands = (let P : ℕ → Type 0 = StandsAt u in subst P here stands);
      code_region = (let P : ℕ → Type 0 = λ z. IsCodeFrom z (length (behind_sum more)) in subst P here a1);
      code_there = (let P : ℕ → Type 0 = λ z. At u.memory z (behind_sum more) in subst P here code);
      memory = s.memory ∙ h.1.memory;
      count = s.others 2 refl ∙ h.1.count;
      kept = λ r y. s.others r (apart_one r y) ∙ straight_spares front (polled m) r all spare y ∙ poll_spares m r y;
      older = s.older ∙ straight_older front (polled m) all;
      receiver = s.others 8 refl ∙ receiver;
      arguments = held_arguments m t u 9 locals (first_handed implied k) n (omega arith) (λ r y. s.others r (out_apart r y)) h.1.arguments;
      word = s.word ∙ ap (λ x. summed less x (t.regs 9)) receiver ∙ ap (summed less (handed_receiver m implied locals k)) argument;
      over = s.over ∙ ap (λ x. overflows less x (t.regs 9)) receiver ∙ ap (overflows less (handed_receiver m implied locals k)) argument;
    }

low_first : (implied : Bool) (k : ℕ) → k ≤ first_handed implied k
low_first true k = omega arith
low_first false k = omega arith

-- the words of a node, one behind the other
as_ready : (m : MachineState) (p words : ℕ) (a b : List Insn) → a ≡ b → IsReady m p words a → IsReady m p words b
as_ready m p words a b e r = let P : List Insn → Type 0 = IsReady m p words in subst P e r

pub sum_does : (m : MachineState) (p words : ℕ) (less implied : Bool) (locals k n : ℕ) → IsReady m p words (sum_code less implied locals k n ++ answered_code locals k) → 0 < n → n ≤ 5
    → 27 + locals + first_handed implied k + n ≤ words → overflows less (handed_receiver m implied locals k) (handed_argument m implied locals k) ≡ false
    → Does m p (sum_code less implied locals k n ++ answered_code locals k) (pended m locals k (summed less (handed_receiver m implied locals k) (handed_argument m implied locals k)))
sum_does m p words less implied locals k n r some few room flag =
    let front = handed_code implied locals k n in
    let more = answered_code locals k in
    let code = sum_code less implied locals k n ++ more in
    let same : code ≡ front ++ (tagged_sum less ∷ behind_sum more) = append_assoc front (summed_code less) more in
    let u = effect (tagged_sum less) (straight front (polled m)) in
    let b = begins less implied locals k n more m p words (as_ready m p words code _ same r) some few room in
    let long : length code ≡ 9 + n = ap length same ∙ length-append front (tagged_sum less ∷ behind_sum more) ∙ omega (arith, handed_long implied locals k n) in
    let at14 = b.kept 14 refl in
    let low : 27 + locals + k < words = omega (arith, low_first implied k, some, room) in
    let d = placed (m.regs 14) words (pending_offset locals k) r.frame (omega arith) (omega arith) in
    let d2 : IsPlaced (u.regs 14) (pending_offset locals k) = (let P : ℕ → Type 0 = λ z. IsPlaced z (pending_offset locals k) in subst P (sym at14) d) in
    let g = ends u (p + 32 + 4 * n) locals k b.stands b.code_region b.code_there (b.over ∙ flag) d2 in
    let w = summed less (handed_receiver m implied locals k) (handed_argument m implied locals k) in
    let word : (counted u).regs 8 ≡ w = or_zero_r (u.regs 1) ∙ b.word in
    record {
      instructions = 7 + n + 6;
      few = omega (arith, long);
      to = kept_sum u locals k;
      goes = goes_then (7 + n) 6 m u (kept_sum u locals k) b.goes g.0;
      moved = record {
        stands = stands_as _ _ _ _ _ _ g.1 (omega (arith, long)) (omega (arith, long));
        memory_is = ap (λ z. with_word u.memory z ((counted u).regs 8)) d2.address ∙ ap (λ z. with_word u.memory (z + pending_offset locals k) ((counted u).regs 8)) at14
            ∙ ap (λ z. with_word z (m.regs 14 + pending_offset locals k) ((counted u).regs 8)) b.memory ∙ ap (with_word m.memory (m.regs 14 + pending_offset locals k)) word;
        counted = ap (λ z. (z + 1) % 2 ^ 32) b.count;
        kept = λ j y. straight_spares (nop ∷ move 8 1 ∷ count ∷ pend 8 locals k ∷ []) u j refl refl y ∙ b.kept j y;
        older = b.older;
      };
    }

pub sum_asks : (m : MachineState) (p words : ℕ) (less implied : Bool) (locals k n : ℕ) → IsReady m p words (sum_code less implied locals k n) → 0 < n → n ≤ 5 → 27 + locals + first_handed implied k + n ≤ words
    → overflows less (handed_receiver m implied locals k) (handed_argument m implied locals k) ≡ true
    → Asks m 3 (p + 24 + 4 * (7 + n)) (handed_receiver m implied locals k) locals (first_handed implied k) n
sum_asks m p words less implied locals k n r some few room flag =
    let front = handed_code implied locals k n in
    let u = effect (tagged_sum less) (straight front (polled m)) in
    let b = begins less implied locals k n [] m p words r some few room in
    let g = asks_on u (p + 32 + 4 * n) [] b.stands b.code_region b.code_there (b.over ∙ flag) in
    record {
      instructions = 7 + n + 2;
      few = omega (arith, few);
      to = left_over u;
      goes = goes_then (7 + n) 2 m u (left_over u) b.goes g.0;
      trap = g.1;
      moved = record {
        stands = stands_as _ _ _ _ _ _ g.2 (omega arith) (omega arith);
        memory_is = b.memory;
        counted = b.count;
        kept = λ j y. straight_spares (nop ∷ []) u j refl refl y ∙ b.kept j y;
        older = b.older;
      };
      receiver_is = b.receiver;
      arguments = held_arguments m u (left_over u) 9 locals (first_handed implied k) n (omega arith) (λ j y. zero_takes u.regs 0 j) b.arguments;
    }
