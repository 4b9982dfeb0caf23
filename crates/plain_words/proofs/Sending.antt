-- Receiver and arguments go to the outs, and a service is asked for.
use Rattle.std.proofs.Common.{◌≡◌, ℕ, zero, suc, ◌+◌, ◌*◌, ◌<◌, ◌≤◌, refl, ◌∙◌, ap, sym, subst, arith}
use Rattle.std.specs.Prelude.{Bool, true, false, if◌then◌else◌, nat_eq, ◌||◌, List, [], ◌∷◌, ◌++◌, length}
use Rattle.std.proofs.lemmas.Grind.{common_steps}
use Rattle.std.proofs.Common.{length-append}
use Rattle.std.specs.Int.Bits.{or_zero_r}
use Rattle.self_terms.specs.declared.names.TheConstants.{INT_SUB}
use Rattle.sparc_insn.specs.declared.insn.Insn.{Insn}
use Rattle.sparc_insn.specs.declared.insn.Insn.TheVariants.{Trap}
use Rattle.sparc_store.specs.Words.{word_at, HasFrame}
use Rattle.sparc_machine.specs.State.{MachineState, with_reg}
use Rattle.sparc_machine.specs.Table.{effect}
use Rattle.plain_words.specs.Going.{Goes, IsTrap, At, StandsAt, IsCodeFrom}
use Rattle.frame_walk.specs.Places.{pending_offset}
use Rattle.plain_words.specs.Code.{poll, take, move, arguments_code, handed_code, send_code, implied_code, non_local_code, is_sum, sum_code, primitive_code}
use Rattle.plain_words.specs.Moves.{is_scratch, IsReady, Asks, AreArguments, handed_receiver, first_handed}
use Rattle.plain_words.proofs.Basics.{goes_then, at_trap, at_front, at_behind, stands_as, other_register}
use Rattle.plain_words.proofs.Straight.{straight, all_straight, all_spare, CanAll, CanGo, spared, goes_straight, straight_spares, straight_older, code_stays, both_straight, both_spare}
use Rattle.plain_words.proofs.Placing.{placed}
use Rattle.plain_words.proofs.Polls.{polled, poll_goes, poll_spares}

arguments_long : (to locals k n : ℕ) → length (arguments_code to locals k n) ≡ n
arguments_long to locals k zero = refl
arguments_long to locals k (suc n) = ap suc (arguments_long (to + 1) locals (k + 1) n)

pub arguments_straight : (to locals k n : ℕ) → all_straight (arguments_code to locals k n) ≡ true
arguments_straight to locals k zero = refl
arguments_straight to locals k (suc n) = arguments_straight (to + 1) locals (k + 1) n

is_out : (r : ℕ) → 8 ≤ r → r < 14 → is_scratch r ≡ true
is_out r low high = grind (arith, common_steps)

out_spared : (a b : Bool) → b ≡ true → (a || b) ≡ true
out_spared true b e = refl
out_spared false b e = e

both : (x a : Bool) → x ≡ true → a ≡ true → (if x then a else false) ≡ true
both true a e f = f
both false a e f = absurd (cc)

pub arguments_spare : (to locals k n : ℕ) → 9 ≤ to → to + n ≤ 14 → all_spare (arguments_code to locals k n) ≡ true
arguments_spare to locals k zero low high = refl
arguments_spare to locals k (suc n) low high = both (spared to) (all_spare (arguments_code (to + 1) locals (k + 1) n)) (out_spared (nat_eq to 0) (is_scratch to) (is_out to (omega arith) (omega arith))) (arguments_spare (to + 1) locals (k + 1) n (omega arith) (omega arith))

-- what the loads leave: memory, and each register but those that they load
pub record Loaded (t to : MachineState) (from : ℕ) : Type 0 where
  pub memory : to.memory ≡ t.memory
  pub lower : (r : ℕ) → r < from → to.regs r ≡ t.regs r
  pub frame : to.regs 14 ≡ t.regs 14

unlike : (r s : ℕ) → r < s → nat_eq r s ≡ false
unlike r s h = grind (arith, common_steps)

unlike_above : (r s : ℕ) → s < r → nat_eq r s ≡ false
unlike_above r s h = grind (arith, common_steps)

put_there : (regs : ℕ → ℕ) (rd w : ℕ) → 0 < rd → with_reg regs rd w rd ≡ w
put_there regs rd w h = grind (arith, common_steps)

pub same_arguments : (x t to : MachineState) (register locals k n : ℕ) → x.memory ≡ t.memory → x.regs 14 ≡ t.regs 14 → AreArguments x to register locals k n → AreArguments t to register locals k n
same_arguments x t to register locals k zero e f h = tt
same_arguments x t to register locals k (suc n) e f h = (
  h.0 ∙ ap (λ z. word_at z (x.regs 14 + pending_offset locals k)) e ∙ ap (λ z. word_at t.memory (z + pending_offset locals k)) f,
  same_arguments x t to (register + 1) locals (k + 1) n e f h.1,
)

pub loads : (n to k : ℕ) (t : MachineState) (words locals : ℕ) → HasFrame (t.regs 14) words → 9 ≤ to → to + n ≤ 14 → 27 + locals + k + n ≤ words
    → CanAll (arguments_code to locals k n) t × Loaded t (straight (arguments_code to locals k n) t) to × AreArguments t (straight (arguments_code to locals k n) t) to locals k n
loads zero to k t words locals f low high room = (tt, record { memory = refl; lower = λ r h. refl; frame = refl }, tt)
loads (suc n) to k t words locals f low high room =
    let p = placed (t.regs 14) words (pending_offset locals k) f (omega arith) (omega arith) in
    let x = effect (take to locals k) t in
    let same : x.regs 14 ≡ t.regs 14 = other_register t.regs to _ 14 (unlike_above 14 to (omega arith)) in
    let f2 = (let P : ℕ → Type 0 = λ z. HasFrame z words in subst P (sym same) f) in
    let rest = loads n (to + 1) (k + 1) x words locals f2 (omega arith) (omega arith) (omega arith) in
    let done = straight (arguments_code (to + 1) locals (k + 1) n) x in
    let l = rest.1 in
    let here : done.regs to ≡ word_at t.memory (t.regs 14 + pending_offset locals k) = l.lower to (omega arith) ∙ put_there t.regs to _ (omega arith) ∙ ap (word_at t.memory) p.address in (
      (p.has, rest.0),
      record {
        memory = l.memory;
        lower = λ r h. l.lower r (omega arith) ∙ other_register t.regs to _ r (unlike r to h);
        frame = l.frame ∙ same;
      },
      (here, same_arguments x t done (to + 1) locals (k + 1) n refl same rest.2),
    )

-- straight code behind a poll, and what stands behind it
pub record Fronted (front rest : List Insn) (m : MachineState) (p : ℕ) : Type 0 where
  pub goes : Goes (5 + length front) m (straight front (polled m))
  pub stands : StandsAt (straight front (polled m)) (p + 24 + 4 * length front)
  pub code_region : IsCodeFrom (p + 24 + 4 * length front) (length rest)
  pub code_there : At (straight front (polled m)).memory (p + 24 + 4 * length front) rest

pub fronted : (front rest : List Insn) (m : MachineState) (p words : ℕ) → IsReady m p words (front ++ rest) → all_straight front ≡ true → CanAll front (polled m) → Fronted front rest m p
fronted front rest m p words r all can =
    let c = r.code_region in
    let n : length (front ++ rest) ≡ length front + length rest = length-append front rest in
    let first = poll_goes m p r.stands (record { aligned = c.aligned; from = c.from; to = omega (arith, c.to) }) (at_front m.memory p poll (front ++ rest) r.code_there) r.left in
    let behind = at_behind m.memory p poll (front ++ rest) r.code_there in
    let here = at_front m.memory (p + 24) front rest behind in
    let a : IsCodeFrom (p + 24) (length front) = record { aligned = omega (arith, c.aligned); from = omega (arith, c.from); to = omega (arith, c.to, n) } in
    let b : IsCodeFrom (p + 24 + 4 * length front) (length rest) = record { aligned = omega (arith, c.aligned); from = omega (arith, c.from); to = omega (arith, c.to, n) } in
    let g = goes_straight front (polled m) (p + 24) first.1 a here all can in
    record {
      goes = goes_then 5 (length front) m (polled m) (straight front (polled m)) first.0 g.0;
      stands = g.1;
      code_region = b;
      code_there = code_stays front (polled m) (p + 24 + 4 * length front) rest all can (omega (arith, b.to)) (at_behind m.memory (p + 24) front rest behind);
    }

-- where that is a trap
asks : (front : List Insn) (rest : List Insn) (m : MachineState) (p words service : ℕ) → IsReady m p words (front ++ Trap service ∷ rest) → all_straight front ≡ true
    → CanAll front (polled m) → Goes (5 + length front) m (straight front (polled m)) × IsTrap service (straight front (polled m)) × StandsAt (straight front (polled m)) (p + 24 + 4 * length front)
asks front rest m p words service r all can =
    let f = fronted front (Trap service ∷ rest) m p words r all can in (
      f.goes,
      at_trap (straight front (polled m)) (p + 24 + 4 * length front) (p + 24 + 4 * length front + 4) (length rest) service (Trap service) f.stands f.code_region f.code_there.0 refl tt,
      f.stands,
    )

-- a message: a receiver in %o0, arguments behind it
message : (first : Insn) (rest : List Insn) (m : MachineState) (p words service locals k args receiver : ℕ) → IsReady m p words ((first ∷ arguments_code 9 locals k args) ++ Trap service ∷ rest)
    → args ≤ 5 → 27 + locals + k + args ≤ words → all_straight (first ∷ []) ≡ true → all_spare (first ∷ []) ≡ true → CanGo first (polled m)
    → (effect first (polled m)).memory ≡ m.memory → (effect first (polled m)).regs 8 ≡ receiver → (effect first (polled m)).regs 2 ≡ m.regs 2 → (effect first (polled m)).regs 14 ≡ m.regs 14
    → Asks m service (p + 24 + 4 * (1 + args)) receiver locals k args
message first rest m p words service locals k args receiver r few room all spare can memory is count frame =
    let x = effect first (polled m) in
    let f2 = (let P : ℕ → Type 0 = λ z. HasFrame z words in subst P (sym frame) r.frame) in
    let l = loads args 9 k x words locals f2 (omega arith) (omega arith) room in
    let front = first ∷ arguments_code 9 locals k args in
    let straight_all = both_straight (first ∷ []) (arguments_code 9 locals k args) all (arguments_straight 9 locals k args) in
    let spare_all = both_spare (first ∷ []) (arguments_code 9 locals k args) spare (arguments_spare 9 locals k args (omega arith) (omega arith)) in
    let g = asks front rest m p words service r straight_all (can, l.0) in
    let to = straight front (polled m) in
    let n : length front ≡ 1 + args = omega (arith, arguments_long 9 locals k args) in
    record {
      instructions = 5 + length front;
      few = omega (arith, n, few);
      to = to;
      goes = g.0;
      trap = g.1;
      moved = record {
        stands = stands_as _ _ _ _ _ _ g.2 (ap (λ z. p + 24 + 4 * z) n) (ap (λ z. p + 24 + 4 * z + 4) n);
        memory_is = l.1.memory ∙ memory;
        counted = l.1.lower 2 (omega arith) ∙ count;
        kept = λ j h. straight_spares front (polled m) j straight_all spare_all h ∙ poll_spares m j h;
        older = straight_older front (polled m) straight_all;
      };
      receiver_is = l.1.lower 8 (omega arith) ∙ is;
      arguments = same_arguments x m to 9 locals k args memory frame l.2;
    }

pub handed_asks : (m : MachineState) (p words service : ℕ) (implied : Bool) (locals k n : ℕ) → IsReady m p words (handed_code implied locals k n ++ (Trap service ∷ [])) → n ≤ 5 → 27 + locals + first_handed implied k + n ≤ words
    → Asks m service (p + 24 + 4 * (1 + n)) (handed_receiver m implied locals k) locals (first_handed implied k) n
handed_asks m p words service true locals k n r few room =
    message (move 8 24) [] m p words service locals k n _ r few room refl refl tt refl (or_zero_r (m.regs 24)) refl refl
handed_asks m p words service false locals k n r few room =
    let d = placed (m.regs 14) words (pending_offset locals k) r.frame (omega arith) (omega arith) in
    message (take 8 locals k) [] m p words service locals (k + 1) n _ r few room refl refl d.has refl (ap (word_at m.memory) d.address) refl refl

pub send_asks : (m : MachineState) (p words locals k args : ℕ) → IsReady m p words (send_code 1 locals k args) → args ≤ 5 → 28 + locals + k + args ≤ words
    → Asks m 1 (p + 24 + 4 * (1 + args)) (word_at m.memory (m.regs 14 + pending_offset locals k)) locals (k + 1) args
send_asks m p words locals k args r few room = handed_asks m p words 1 false locals k args r few (omega arith)

pub implied_asks : (m : MachineState) (p words locals k args : ℕ) → IsReady m p words (implied_code 1 locals k args) → args ≤ 5 → 27 + locals + k + args ≤ words
    → Asks m 1 (p + 24 + 4 * (1 + args)) (m.regs 24) locals k args
implied_asks m p words locals k args r few room = handed_asks m p words 1 true locals k args r few room

-- a primitive that is no sum
no_sum : (b : Bool) (x y : List Insn) (m : MachineState) (p words : ℕ) → b ≡ false → IsReady m p words (if b then x else y) → IsReady m p words y
no_sum true x y m p words e r = absurd (cc)
no_sum false x y m p words e r = r

pub primitive_asks : (m : MachineState) (p words name args : ℕ) (implied : Bool) (locals k n : ℕ) → is_sum name args ≡ false → IsReady m p words (primitive_code name args implied locals k n) → n ≤ 5
    → 27 + locals + first_handed implied k + n ≤ words → Asks m 3 (p + 24 + 4 * (1 + n)) (handed_receiver m implied locals k) locals (first_handed implied k) n
primitive_asks m p words name args implied locals k n e r few room =
    handed_asks m p words 3 implied locals k n (no_sum (is_sum name args) (sum_code (nat_eq name INT_SUB.0) implied locals k n) (handed_code implied locals k n ++ (Trap 3 ∷ [])) m p words e r) few room

pub non_local_asks : (m : MachineState) (p words locals k : ℕ) → IsReady m p words (non_local_code locals k) → 28 + locals + k ≤ words
    → Asks m 4 (p + 24 + 4 * (1 + 0)) (word_at m.memory (m.regs 14 + pending_offset locals k)) locals (k + 1) 0
non_local_asks m p words locals k r room =
    let d = placed (m.regs 14) words (pending_offset locals k) r.frame (omega arith) (omega arith) in
    message (take 8 locals k) [] m p words 4 locals (k + 1) 0 _ r (omega arith) (omega arith) refl refl d.has refl (ap (word_at m.memory) d.address) refl refl
