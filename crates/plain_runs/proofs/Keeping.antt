-- What stays when the machine goes on in its own frame.
use Rattle.std.proofs.Common.{◌≡◌, ◌≢◌, ◌⊎◌, ℕ, zero, suc, ◌+◌, ◌-◌, ◌*◌, ◌/◌, ◌%◌, ◌<◌, ◌≤◌, ◌==◌, refl, ◌∙◌, ap, sym, subst, arith, inl, inr}
use Rattle.std.specs.Prelude.{Bool, true, false, if◌then◌else◌, List, [], ◌∷◌, ◌++◌, length, Option, Some, None, slice_get, slice_set}
use Rattle.std.proofs.lemmas.Grind.{common_steps}
use Rattle.std.proofs.lemmas.Bool.{eqb-true, eq-eqb}
use Rattle.sparc_insn.specs.declared.insn.Insn.{Insn}
use Rattle.sparc_insn.specs.Instructions.{instruction}
use Rattle.sparc_store.specs.Words.{Words, word_at, with_word, HasFrame}
use Rattle.sparc_store.specs.Regions.{Place, Code, Heap, Control, Stacks, Nowhere, place_of}
use Rattle.sparc_store.specs.Windows.{kept, saved_at, frame_before, but_first}
use Rattle.sparc_machine.specs.State.{MachineState, IsWhole}
use Rattle.frame_walk.specs.Places.{Frame}
use Rattle.frame_walk.specs.Raw.{Thread, Going}
use Rattle.frame_walk.specs.Walk.{activations, AreLaid, IsFrameOf, SameBetween}
use Rattle.frame_walk.proofs.Resting.{rests, laid_as}
use Rattle.plain_words.specs.Going.{At, IsCodeFrom}
use Rattle.source_model.specs.Soundness.{body_in}
use Rattle.plain_words.specs.Units.{unit_code}
use Rattle.plain_runs.specs.Course.{with_machine}
use Rattle.plain_runs.specs.Host.{Host, Status, Waiting, Answered, Failed, seen, waiting, thread_of, threads_from, descriptor_at, heap_words}
use Rattle.plain_runs.specs.Units.{HasUnit, IsPoll, IsInPoll, IsBehindCall}
use Rattle.plain_runs.specs.Sound.{IsRoomy, IsCaller, IsHeld, Calls, Polls}

-- nothing below the heap is changed
abbrev pub SameCode : Words → Words → Type 0
SameCode old new = (b : ℕ) → b < 0x20000000 → word_at new b ≡ word_at old b

code_same : (is : List Insn) (old new : Words) (p : ℕ) → SameCode old new → p + 4 * length is ≤ 0x20000000 → At old p is → At new p is
code_same [] old new p same low h = tt
code_same (i ∷ is) old new p same low h = (ap instruction (same p (omega arith)) ∙ h.0, code_same is old new (p + 4) same (omega arith) h.1)

pub unit_kept : (h : Host) (m : MachineState) (b at : ℕ) → SameCode h.machine.memory m.memory → HasUnit h b at → HasUnit (with_machine h m) b at
unit_kept h m b at same u = record {
  given = u.given;
  known = u.known;
  entry = u.entry;
  from = u.from;
  region = u.region;
  code = code_same (unit_code h.references (body_in h.bodies b)) h.machine.memory m.memory at same (omega (arith, u.region.to)) u.code;
  points = u.points;
}

pub stub_kept : (is : List Insn) (h : Host) (m : MachineState) (p : ℕ) → SameCode h.machine.memory m.memory → p + 4 * length is ≤ 0x20000000 → At h.machine.memory p is → At m.memory p is
stub_kept is h m p same low at = code_same is h.machine.memory m.memory p same low at

pub caller_kept : (h : Host) (m : MachineState) (pc sp fp : ℕ) → SameCode h.machine.memory m.memory → IsCaller h pc sp fp → IsCaller (with_machine h m) pc sp fp
caller_kept h m pc sp fp same c = record {
  body = c.body;
  number = c.number;
  node = c.node;
  call = record { at = c.call.at; unit = unit_kept h m c.body c.call.at same c.call.unit; node_is = c.call.node_is; call = c.call.call; address = c.call.address };
  room = record { ends = c.room.ends; place = c.room.place };
}

pub held_kept : (h : Host) (m : MachineState) (pc sp fp : ℕ) → SameCode h.machine.memory m.memory → IsHeld h pc sp fp → IsHeld (with_machine h m) pc sp fp
held_kept h m pc sp fp same (Calls c) = Calls (caller_kept h m pc sp fp same c)
held_kept h m pc sp fp same (Polls b n p run room) =
    Polls b n (record { at = p.at; word = p.word; unit = unit_kept h m b p.at same p.unit; inside = p.inside; within = p.within; address = p.address })
    run (record { ends = room.ends; place = room.place })

-- Threads.

not_current : (a b : ℕ) → a ≢ b → (a == b) ≡ false
not_current a b ne = grind (arith, common_steps)

is_current : (a b : ℕ) → a ≡ b → (a == b) ≡ true
is_current a b e = grind (arith, common_steps)

thread_kept : (h to : Host) (k : ℕ) (s : Status) → to.current ≡ h.current → k ≢ h.current → ((sp pc n : ℕ) → s ≡ Waiting sp pc n → waiting to sp pc n ≡ waiting h sp pc n) → thread_of to k s ≡ thread_of h k s
thread_kept h to k (Waiting sp pc n) e ne w =
    ap (λ b. Going (if b then seen to else waiting to sp pc n)) (ap (λ c. k == c) e ∙ not_current k h.current ne)
    ∙ ap Going (w sp pc n refl)
    ∙ sym (ap (λ b. Going (if b then seen h else waiting h sp pc n)) (not_current k h.current ne))
thread_kept h to k (Answered w) e ne f = refl
thread_kept h to k (Failed x p) e ne f = refl

abbrev pub OthersWait : Host → Host → ℕ → List Status → Type 0
OthersWait h to from ss = (j sp pc n : ℕ) → slice_get ss j ≡ Some (Waiting sp pc n) → from + j ≢ h.current → waiting to sp pc n ≡ waiting h sp pc n

rest_waits : (h to : Host) (from : ℕ) (s : Status) (ss : List Status) → OthersWait h to from (s ∷ ss) → OthersWait h to (from + 1) ss
rest_waits h to from s ss w j sp pc n e ne = w (suc j) sp pc n e (λ same. ne (omega (arith, same)))

threads_kept : (h to : Host) (from : ℕ) (ss : List Status) → to.current ≡ h.current → h.current < from → OthersWait h to from ss → threads_from to from ss ≡ threads_from h from ss
threads_kept h to from [] e low w = refl
threads_kept h to from (s ∷ ss) e low w =
    ap (λ t. t ∷ threads_from to (from + 1) ss) (thread_kept h to from s e (λ same. absurd (omega (arith, same, low))) (λ sp pc n is. w 0 sp pc n (ap Some is) (λ same. absurd (omega (arith, same, low)))))
    ∙ ap (λ ts. thread_of h from s ∷ ts) (threads_kept h to (from + 1) ss e (omega arith) (rest_waits h to from s ss w))

pub threads_set : (h to : Host) (from c : ℕ) (ss : List Status) (sp pc n : ℕ) → to.current ≡ h.current → h.current ≡ from + c → slice_get ss c ≡ Some (Waiting sp pc n) → OthersWait h to from ss
    → threads_from to from ss ≡ slice_set (threads_from h from ss) c (Going (seen to))
threads_set h to from c [] sp pc n e at is w = absurd (cc)
threads_set h to from zero (s ∷ ss) sp pc n e at is w =
    let this : s ≡ Waiting sp pc n = (let f : Some s ≡ Some (Waiting sp pc n) = is in cc) in
    let here : (from == to.current) ≡ true = is_current from to.current (omega (arith, e, at)) in
    let first : thread_of to from s ≡ Going (seen to) = ap (thread_of to from) this ∙ ap (λ b. Going (if b then seen to else waiting to sp pc n)) here in
    ap (λ t. t ∷ threads_from to (from + 1) ss) first
    ∙ ap (λ ts. Going (seen to) ∷ ts) (threads_kept h to (from + 1) ss e (omega (arith, at)) (rest_waits h to from s ss w))
threads_set h to from (suc c) (s ∷ ss) sp pc n e at is w =
    ap (λ t. t ∷ threads_from to (from + 1) ss) (thread_kept h to from s e (λ same. absurd (omega (arith, same, at))) (λ sp pc n is. w 0 sp pc n (ap Some is) (λ same. absurd (omega (arith, same, at)))))
    ∙ ap (λ ts. thread_of h from s ∷ ts) (threads_set h to (from + 1) c ss sp pc n e (omega (arith, at)) is (rest_waits h to from s ss w))

-- a word of a stack isn't one of the heap
pub no_heap : (at k : ℕ) → 0x40000000 ≤ at → place_of at ≡ Heap k → ⊥
no_heap at k high e = grind (arith, common_steps)
