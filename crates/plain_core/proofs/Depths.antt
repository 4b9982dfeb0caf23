-- How many activations the current activity has, by the host's count of them.
use Rattle.std.proofs.Common.{◌≡◌, ℕ, zero, suc, ◌+◌, ◌<◌, ◌≤◌, ◌==◌, refl, ◌∙◌, ap, sym, subst, arith}
use Rattle.std.specs.Prelude.{Bool, true, false, nat_lt, if◌then◌else◌, List, [], ◌∷◌, length, Option, Some, None, option_map, slice_get}
use Rattle.std.proofs.lemmas.Bool.{eq-eqb, lt-ltb, le-ltb}
use Rattle.self_terms.specs.declared.errors.ErrorName.{ErrorName}
use Rattle.self_terms.specs.declared.nodes.Place.{Place}
use Rattle.sparc_store.specs.Words.{Words}
use Rattle.sparc_store.specs.Windows.{Frame as Window, kept, frame_before, but_first}
use Rattle.source_model.specs.Lasting.{fewer_in, fewer}
use Rattle.source_model.specs.State.{Activation, Activity, Running, Answered as Ended_with, Failed as Ended_by, State}
use Rattle.frame_walk.specs.Places.{Descriptor, Frame}
use Rattle.frame_walk.specs.Raw.{Thread, Going, Answered as Answer, Failed as Failure}
use Rattle.frame_walk.specs.Walk.{activations}
use Rattle.raw_steps.specs.Stands.{Sense, AreActivations, IsActivity, makes_blocks}
use Rattle.plain_runs.specs.Host.{Host, seen, waiting, descriptor_at, thread_of, threads_from, raw_of}
use Rattle.plain_runs.specs.declared.status.Status.{Status}
use Rattle.plain_runs.specs.declared.status.Status.TheVariants.{Waiting, Answered, Failed}
use Rattle.plain_turns.specs.Resting.{Rests}
use Rattle.plain_core.specs.Finishing.{IsAsDeep, IsOver}

seen_long : (d : ℕ → Descriptor) (memory : Words) (n sp : ℕ) (w : Window) (pc : ℕ) (held : List Window) → length (activations d memory n sp w pc held) ≡ n
unfolding activations
seen_long d memory zero sp w pc held = refl
seen_long d memory (suc n) sp w pc held = ap suc (seen_long d memory n (w 14) (frame_before memory (w 14) held) (w 15 + 8) (but_first held))

as_many : (wants : ℕ → Bool) (z : Sense) (at : ℕ) (all : List Activation) (frames : List Frame) → AreActivations wants z at all frames → length all ≡ length frames
as_many wants z at [] [] are = refl
as_many wants z at (a ∷ older) (y ∷ ys) are = ap suc (as_many wants z at older ys are.2)
as_many wants z at [] (y ∷ ys) are = absurd are
as_many wants z at (a ∷ older) [] are = absurd are

-- the thread of a number, by its status
thread_there : (h : Host) (from k : ℕ) (ss : List Status) → slice_get (threads_from h from ss) k ≡ option_map (thread_of h (from + k)) (slice_get ss k)
thread_there h from k [] = refl
thread_there h from zero (x ∷ ss) = ap (λ n. Some (thread_of h n x)) (let e : from ≡ from + 0 = omega arith in e)
thread_there h from (suc k) (x ∷ ss) = thread_there h (from + 1) k ss ∙ ap (λ n. option_map (thread_of h n) (slice_get ss k)) (let e : from + 1 + k ≡ from + suc k = omega arith in e)

-- Which activity stands for a thread.
module _ (wants : ℕ → Bool) (z : Sense) (at : ℕ) where
  all_by : (x : Option Activity) (frames : List Frame) → IsActivity wants z at x (Some (Going frames)) → (all : List Activation) × (x ≡ Some (Running all)) × (length all ≡ length frames)
  all_by (Some (Running all)) frames is = (all, refl, as_many wants z at all frames is)
  all_by (Some (Ended_with v)) frames is = absurd is
  all_by (Some (Ended_by e p)) frames is = absurd is
  all_by None frames is = absurd is

  answered_by : (n : ℕ) (x : Option Activity) (w : ℕ) → IsActivity wants z at x (Some (Answer w)) → fewer_in n x ≡ true
  answered_by n (Some (Running all)) w is = absurd is
  answered_by n (Some (Ended_with v)) w is = refl
  answered_by n (Some (Ended_by e p)) w is = refl
  answered_by n None w is = refl

  failed_by : (n : ℕ) (x : Option Activity) (e : ErrorName) (p : Place) → IsActivity wants z at x (Some (Failure e p)) → fewer_in n x ≡ true
  failed_by n (Some (Running all)) e p is = absurd is
  failed_by n (Some (Ended_with v)) e p is = refl
  failed_by n (Some (Ended_by y q)) e p is = refl
  failed_by n None e p is = refl

  none_by : (n : ℕ) (x : Option Activity) → IsActivity wants z at x None → fewer_in n x ≡ true
  none_by n (Some (Running all)) is = absurd is
  none_by n (Some (Ended_with v)) is = refl
  none_by n (Some (Ended_by y q)) is = refl
  none_by n None is = refl

module _ (h : Host) (s : State) (r : Rests h s) where
  abbrev Stood : Option Thread → Type 0
  Stood t = IsActivity (makes_blocks s) r.sense h.current (slice_get s.activities s.current) t

  -- the current activities of host and source
  stood : (x : Option Status) → slice_get h.statuses h.current ≡ x → Stood (option_map (thread_of h h.current) x)
  stood x is =
      let f = r.sound.stands in
      let there : slice_get (raw_of h).threads h.current ≡ option_map (thread_of h h.current) x = thread_there h 0 h.current h.statuses ∙ ap (λ n. option_map (thread_of h n) (slice_get h.statuses h.current)) (let e : 0 + h.current ≡ h.current = omega arith in e) ∙ ap (option_map (thread_of h h.current)) is in
      let P : Option Thread → Type 0 = λ t. IsActivity (makes_blocks s) r.sense h.current (slice_get s.activities h.current) t in
      let Q : ℕ → Type 0 = λ k. IsActivity (makes_blocks s) r.sense h.current (slice_get s.activities k) (option_map (thread_of h h.current) x) in
      subst Q f.stands.current (subst P there (f.stands.activity h.current))

  -- where it goes on, as many as %g4 says
  pub counts_all : (sp pc known : ℕ) → slice_get h.statuses h.current ≡ Some (Waiting sp pc known) → (all : List Activation) × (slice_get s.activities s.current ≡ Some (Running all)) × (length all ≡ h.machine.regs 4)
  counts_all sp pc known is =
      let m = h.machine in
      let current : ◌≡◌ {A = Option Thread} (Some (thread_of h h.current (Waiting sp pc known))) (Some (Going (seen h))) = ap (λ (b : Bool). Some (Going (if b then seen h else waiting h sp pc known))) (eq-eqb h.current h.current refl) in
      let a = all_by (makes_blocks s) r.sense h.current (slice_get s.activities s.current) (seen h) (subst Stood current (stood (Some (Waiting sp pc known)) is)) in
      (a.0, a.1, a.2 ∙ seen_long (descriptor_at h) m.memory (m.regs 4) (m.regs 14) (kept m.regs) m.pc m.older)

  answered_over : (n w : ℕ) → slice_get h.statuses h.current ≡ Some (Answered w) → fewer n s ≡ true
  answered_over n w is = answered_by (makes_blocks s) r.sense h.current n (slice_get s.activities s.current) w (stood (Some (Answered w)) is)

  failed_over : (n : ℕ) (e : ErrorName) (p : Place) → slice_get h.statuses h.current ≡ Some (Failed e p) → fewer n s ≡ true
  failed_over n e p is = failed_by (makes_blocks s) r.sense h.current n (slice_get s.activities s.current) e p (stood (Some (Failed e p)) is)

  none_over : (n : ℕ) → slice_get h.statuses h.current ≡ None → fewer n s ≡ true
  none_over n is = none_by (makes_blocks s) r.sense h.current n (slice_get s.activities s.current) (stood None is)

  deep_here : (n sp pc known : ℕ) → slice_get h.statuses h.current ≡ Some (Waiting sp pc known) → n ≤ h.machine.regs 4 → fewer n s ≡ false
  deep_here n sp pc known is le =
      let a = counts_all sp pc known is in
      let count = a.2 in
      ap (fewer_in n) a.1 ∙ le-ltb (length a.0) n (omega (arith, count, le))

  shallow_here : (n sp pc known : ℕ) → slice_get h.statuses h.current ≡ Some (Waiting sp pc known) → h.machine.regs 4 < n → fewer n s ≡ true
  shallow_here n sp pc known is lt =
      let a = counts_all sp pc known is in
      let count = a.2 in
      ap (fewer_in n) a.1 ∙ lt-ltb (length a.0) n (omega (arith, count, lt))

-- So it is of whatever state they stand for.

pub is_deep : (h : Host) (n sp pc known : ℕ) → slice_get h.statuses h.current ≡ Some (Waiting sp pc known) → n ≤ h.machine.regs 4 → IsAsDeep n h
is_deep h n sp pc known is le = record { sp = sp; pc = pc; known = known; waits = is; deep = λ s r. deep_here h s r n sp pc known is le }

pub is_shallow : (h : Host) (n sp pc known : ℕ) → slice_get h.statuses h.current ≡ Some (Waiting sp pc known) → h.machine.regs 4 < n → IsOver n h
is_shallow h n sp pc known is lt s r = shallow_here h s r n sp pc known is lt

pub over_answered : (h : Host) (n w : ℕ) → slice_get h.statuses h.current ≡ Some (Answered w) → IsOver n h
over_answered h n w is s r = answered_over h s r n w is

pub over_failed : (h : Host) (n : ℕ) (e : ErrorName) (p : Place) → slice_get h.statuses h.current ≡ Some (Failed e p) → IsOver n h
over_failed h n e p is s r = failed_over h s r n e p is

pub over_none : (h : Host) (n : ℕ) → slice_get h.statuses h.current ≡ None → IsOver n h
over_none h n is s r = none_over h s r n is

-- the status of the current activity, as it was read
pub status_is : (h : Host) (k : ℕ) (read : Option Status) (x y : Status) → k ≡ h.current → read ≡ slice_get h.statuses k → read ≡ Some x → x ≡ y → slice_get h.statuses h.current ≡ Some y
status_is h k read x y number there is same = ap (slice_get h.statuses) (sym number) ∙ sym there ∙ is ∙ ap Some same

pub status_none : (h : Host) (k : ℕ) (read : Option Status) → k ≡ h.current → read ≡ slice_get h.statuses k → read ≡ None → slice_get h.statuses h.current ≡ None
status_none h k read number there is = ap (slice_get h.statuses) (sym number) ∙ sym there ∙ is
