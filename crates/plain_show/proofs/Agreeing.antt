-- What is shown of a stack is what the source shows.
use Rattle.std.proofs.Common.{◌≡◌, ℕ, zero, suc, ◌+◌, ◌-◌, ◌/◌, ◌%◌, ◌<◌, ◌≤◌, refl, ◌∙◌, ap, sym, arith, inl, inr}
use Rattle.std.specs.Prelude.{List, [], ◌∷◌, Some, slice_get, if◌then◌else◌}
use Rattle.std.proofs.lemmas.Bool.{cases_eq, eq-eqb}
use Rattle.std.proofs.lemmas.Grind.{common_steps}
use Rattle.self_terms.specs.declared.bodies.Body.{Body}
use Rattle.sparc_store.specs.Words.{Words, word_at}
use Rattle.sparc_store.specs.Regions.{Heap, Nowhere, place_of}
use Rattle.sparc_store.specs.Windows.{flushed}
use Rattle.sparc_machine.specs.State.{stack_of}
use Rattle.source_model.specs.Formed.{IsWellFormed}
use Rattle.source_model.specs.State.{Activation, Running, State}
use Rattle.frame_walk.specs.Raw.{Going}
use Rattle.frame_moves.proofs.Spared.{flush_only, low_same}
use Rattle.raw_steps.specs.Stands.{Sense, Stands}
use Rattle.session_text.specs.Frames.{shown_of}
use Rattle.shown_frames.specs.Showing.{acts_shown}
use Rattle.shown_frames.specs.Standing.{HasHeap, AreOf}
use Rattle.shown_frames.proofs.Acts.{activations_show}
use Rattle.plain_runs.specs.Host.{Host, seen, waiting, thread_of, threads_from, raw_of, heap_words}
use Rattle.plain_runs.specs.declared.status.Status.{Status}
use Rattle.plain_runs.specs.declared.status.Status.TheVariants.{Waiting}
use Rattle.plain_show.specs.Showing.{IsAtPoll, stack_shown}

-- memory has the words of the heap
in_heap : (at : ℕ) → at % 4 ≡ 0 → 0x20000000 ≤ at → at < 0x20000000 + 46137344 → place_of at ≡ Heap ((at - 0x20000000) / 4)
in_heap at e from to = grind (arith, common_steps)

nowhere : (at : ℕ) → (at % 4 ≡ 0 → ⊥) → place_of at ≡ Nowhere
nowhere at ne = grind (arith, common_steps)

pub has_heap : (m : Words) → HasHeap m (heap_words m)
unfolding word_at
has_heap m = λ b from to. elim (cases_eq (b % 4) 0) [ inl e ↦ rw (in_heap b e from to) refl | inr ne ↦ rw (nowhere b ne) refl ]

-- the thread of a number
thread_there : (h : Host) (from k : ℕ) (ss : List Status) (x : Status) → slice_get ss k ≡ Some x → slice_get (threads_from h from ss) k ≡ Some (thread_of h (from + k) x)
thread_there h from k [] x e = absurd (cc)
thread_there h from zero (y ∷ ss) x e = let same : y ≡ x = cc in ap (λ q. Some (thread_of h from q)) same ∙ ap (λ n. Some (thread_of h n x)) (let z : from ≡ from + 0 = omega arith in z)
thread_there h from (suc k) (y ∷ ss) x e = thread_there h (from + 1) k ss x e ∙ ap (λ n. Some (thread_of h n x)) (let z : from + 1 + k ≡ from + suc k = omega arith in z)

current_going : (h : Host) (sp pc known : ℕ) → slice_get h.statuses h.current ≡ Some (Waiting sp pc known) → slice_get (raw_of h).threads h.current ≡ Some (Going (seen h))
current_going h sp pc known running =
    thread_there h 0 h.current h.statuses (Waiting sp pc known) running
    ∙ ap (λ b. Some (Going (if b then seen h else waiting h sp pc known))) (eq-eqb (0 + h.current) h.current (omega arith))

pub stacks_show : (z : Sense) (h : Host) (s : State) (all : List Activation) → IsAtPoll h → Stands z (raw_of h) s → h.bodies ≡ s.bodies → IsWellFormed s → slice_get s.activities s.current ≡ Some (Running all) → stack_shown h ≡ shown_of all
stacks_show z h s all p stands bodies well here =
    let view = p.runs.view in
    let new = (flushed (stack_of h.machine)).memory in
    let has : HasHeap new (heap_words h.machine.memory) = λ b from to. low_same h.machine.memory new b (flush_only (stack_of h.machine)) (omega arith) ∙ has_heap h.machine.memory b from to in
    let going : slice_get (raw_of h).threads s.current ≡ Some (Going (seen h)) = ap (slice_get (raw_of h).threads) (sym stands.current) ∙ current_going h view.sp view.pc view.known view.running in
    let are : AreOf z (raw_of h) s all (seen h) = record { stands = stands; activity = s.current; runs = here; going = going } in
    ap (λ (bs : List Body). acts_shown h.maps bs new (seen h)) bodies ∙ activations_show z (raw_of h) s all (seen h) new are has well
