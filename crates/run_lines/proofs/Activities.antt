-- The current activity of the source, by the status of that of the host.
use Rattle.std.proofs.Common.{◌≡◌, ℕ, zero, suc, ◌+◌, refl, ◌∙◌, ap, sym, subst, arith, inl, inr}
use Rattle.std.specs.Prelude.{List, [], ◌∷◌, Option, Some, None, option_map, slice_get}
use Rattle.self_terms.specs.declared.errors.ErrorName.{ErrorName}
use Rattle.self_terms.specs.declared.nodes.Place.{Place}
use Rattle.self_terms.specs.declared.values.Value.{Value}
use Rattle.source_model.specs.State.{Activation, Activity, Running, Answered as Ended_with, Failed as Ended_by, State}
use Rattle.heap_cells.specs.Standing.{IsValue}
use Rattle.frame_walk.specs.Places.{Frame}
use Rattle.frame_walk.specs.Raw.{Thread, Going, Answered as Answer, Failed as Failure}
use Rattle.raw_steps.specs.Stands.{Sense, IsActivity, makes_blocks}
use Rattle.plain_runs.specs.Host.{Host, thread_of, threads_from, raw_of}
use Rattle.plain_runs.specs.declared.status.Status.{Status}
use Rattle.plain_runs.specs.declared.status.Status.TheVariants.{Waiting, Answered, Failed}
use Rattle.plain_steps.specs.Steps.{StandsFor}
use Rattle.plain_turns.specs.Resting.{Rests}
use Rattle.run_lines.specs.declared.current.Standing.TheVariants as standings
use Rattle.run_lines.specs.Standing.{IsStanding}

-- the thread of a number, by its status
thread_there : (h : Host) (from k : ℕ) (ss : List Status) → slice_get (threads_from h from ss) k ≡ option_map (thread_of h (from + k)) (slice_get ss k)
thread_there h from k [] = refl
thread_there h from zero (x ∷ ss) = ap (λ n. Some (thread_of h n x)) (let e : from ≡ from + 0 = omega arith in e)
thread_there h from (suc k) (x ∷ ss) = thread_there h (from + 1) k ss ∙ ap (λ n. option_map (thread_of h n) (slice_get ss k)) (let e : from + 1 + k ≡ from + suc k = omega arith in e)

module _ (z : Sense) (h : Host) (s : State) (f : StandsFor z h s) where
  -- the current activities of host and source
  stood : (x : Option Status) → slice_get h.statuses h.current ≡ x → IsActivity (makes_blocks s) z h.current (slice_get s.activities s.current) (option_map (thread_of h h.current) x)
  stood x is =
      let there : slice_get (raw_of h).threads h.current ≡ option_map (thread_of h h.current) x = thread_there h 0 h.current h.statuses ∙ ap (λ n. option_map (thread_of h n) (slice_get h.statuses h.current)) (let e : 0 + h.current ≡ h.current = omega arith in e) ∙ ap (option_map (thread_of h h.current)) is in
      let P : Option Thread → Type 0 = λ t. IsActivity (makes_blocks s) z h.current (slice_get s.activities h.current) t in
      let Q : ℕ → Type 0 = λ k. IsActivity (makes_blocks s) z h.current (slice_get s.activities k) (option_map (thread_of h h.current) x) in
      subst Q f.stands.current (subst P there (f.stands.activity h.current))

  none_by : (o : Option Activity) → IsActivity (makes_blocks s) z h.current o None → o ≡ None
  none_by None is = refl
  none_by (Some (Running all)) is = absurd is
  none_by (Some (Ended_with v)) is = absurd is
  none_by (Some (Ended_by e p)) is = absurd is

  going_by : (o : Option Activity) (frames : List Frame) → IsActivity (makes_blocks s) z h.current o (Some (Going frames)) → (all : List Activation) × (o ≡ Some (Running all))
  going_by (Some (Running all)) frames is = (all, refl)
  going_by (Some (Ended_with v)) frames is = absurd is
  going_by (Some (Ended_by e p)) frames is = absurd is
  going_by None frames is = absurd is

  answered_by : (o : Option Activity) (w : ℕ) → IsActivity (makes_blocks s) z h.current o (Some (Answer w)) → (v : Value) × (o ≡ Some (Ended_with v)) × IsValue z.cells z.places v w
  answered_by (Some (Ended_with v)) w is = (v, refl, is)
  answered_by (Some (Running all)) w is = absurd is
  answered_by (Some (Ended_by e p)) w is = absurd is
  answered_by None w is = absurd is

  failed_by : (o : Option Activity) (e : ErrorName) (p : Place) → IsActivity (makes_blocks s) z h.current o (Some (Failure e p)) → o ≡ Some (Ended_by e p)
  failed_by (Some (Ended_by x q)) e p is = ap (λ y. Some (Ended_by y q)) (sym is.0) ∙ ap (λ y. Some (Ended_by e y)) (sym is.1)
  failed_by (Some (Running all)) e p is = absurd is
  failed_by (Some (Ended_with v)) e p is = absurd is
  failed_by None e p is = absurd is

  pub has_answered : (w : ℕ) → slice_get h.statuses h.current ≡ Some (Answered w) → (v : Value) × (slice_get s.activities s.current ≡ Some (Ended_with v)) × IsValue z.cells z.places v w
  has_answered w is = answered_by (slice_get s.activities s.current) w (stood (Some (Answered w)) is)

  pub has_failed : (e : ErrorName) (p : Place) → slice_get h.statuses h.current ≡ Some (Failed e p) → slice_get s.activities s.current ≡ Some (Ended_by e p)
  has_failed e p is = failed_by (slice_get s.activities s.current) e p (stood (Some (Failed e p)) is)

  pub goes : (sp pc known : ℕ) → slice_get h.statuses h.current ≡ Some (Waiting sp pc known) → (all : List Activation) × (slice_get s.activities s.current ≡ Some (Running all))
  goes sp pc known is = going_by (slice_get s.activities s.current) _ (stood (Some (Waiting sp pc known)) is)

  pub nobody : slice_get h.statuses h.current ≡ None → slice_get s.activities s.current ≡ None
  nobody is = none_by (slice_get s.activities s.current) (stood None is)

pub stands_nobody : (h : Host) (s : State) → Rests h s → slice_get h.statuses h.current ≡ None → IsStanding s standings.Nobody
stands_nobody h s r is = nobody r.sense h s r.sound.stands is

pub stands_going : (h : Host) (s : State) → Rests h s → (sp pc known : ℕ) → slice_get h.statuses h.current ≡ Some (Waiting sp pc known) → IsStanding s standings.Goes
stands_going h s r sp pc known is = goes r.sense h s r.sound.stands sp pc known is

pub stands_answered : (h : Host) (s : State) → Rests h s → (w : ℕ) → slice_get h.statuses h.current ≡ Some (Answered w) → IsStanding s standings.Ended
stands_answered h s r w is = let a = has_answered r.sense h s r.sound.stands w is in inl (a.0, a.1)

pub stands_failed : (h : Host) (s : State) → Rests h s → (e : ErrorName) (p : Place) → slice_get h.statuses h.current ≡ Some (Failed e p) → IsStanding s standings.Ended
stands_failed h s r e p is = inr (e, p, has_failed r.sense h s r.sound.stands e p is)

-- how the current activity of a host stands, as it was read
pub read_is : (h : Host) (k : ℕ) (read : Option Status) (x y : Status) → k ≡ h.current → read ≡ slice_get h.statuses k → read ≡ Some x → x ≡ y → slice_get h.statuses h.current ≡ Some y
read_is h k read x y number there is same = ap (slice_get h.statuses) (sym number) ∙ sym there ∙ is ∙ ap Some same

pub read_none : (h : Host) (k : ℕ) (read : Option Status) → k ≡ h.current → read ≡ slice_get h.statuses k → read ≡ None → slice_get h.statuses h.current ≡ None
read_none h k read number there is = ap (slice_get h.statuses) (sym number) ∙ sym there ∙ is
