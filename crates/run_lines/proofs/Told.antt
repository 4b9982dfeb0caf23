-- The line of a run, by machine and host.
use Rattle.std.proofs.Common.{◌≡◌, ℕ, zero, suc, ◌<◌, ◌≤◌, refl, ◌∙◌, ap, sym, subst}
use Rattle.std.specs.Prelude.{List, [], ◌∷◌, length, get_or, Option, Some, None, slice_get}
use Rattle.self_terms.specs.declared.errors.ErrorName.{ErrorName}
use Rattle.self_terms.specs.declared.nodes.Node.{Node}
use Rattle.self_terms.specs.declared.nodes.Place.{Place}
use Rattle.source_model.specs.declared.objects.Core.{Core}
use Rattle.source_model.specs.State.{State}
use Rattle.source_model.specs.Soundness.{body_in}
use Rattle.source_model.specs.Step.{place_at, place_of}
use Rattle.source_model.specs.Lines.{stop_line, error_line, run_line, run_line_of}
use Rattle.frame_walk.specs.Places.{Descriptor}
use Rattle.session_text.specs.declared.lines.ShownValue.{ShownValue}
use Rattle.session_text.specs.LineTexts.{as_shown, done_line}
use Rattle.session_text.proofs.ValueTexts.{done_lines_show}
use Rattle.shown_frames.specs.Showing.{value_shown}
use Rattle.shown_frames.proofs.Words.{ended_show}
use Rattle.plain_words.specs.declared.units.Point.{Point}
use Rattle.plain_runs.specs.Host.{Host, point_at, descriptor_at, raw_of}
use Rattle.plain_runs.specs.declared.status.Status.TheVariants.{Waiting, Answered, Failed}
use Rattle.plain_runs.specs.Sound.{RunsAt}
use Rattle.plain_runs.proofs.Pointed.{poll_descriptor}
use Rattle.plain_steps.proofs.Here.{at_node_of}
use Rattle.plain_answers.proofs.Failing.{places_agree}
use Rattle.plain_begins.specs.Begins.{CanPark, AtPoll, Idle}
use Rattle.plain_show.proofs.Agreeing.{has_heap}
use Rattle.plain_turns.specs.Asking.{count}
use Rattle.plain_turns.specs.Resting.{Rests}
use Rattle.run_lines.specs.Standing.{next_place}
use Rattle.run_lines.proofs.Activities.{has_answered, has_failed}

none_got : {A : Type 0} (xs : List A) (k : ℕ) (d : A) → slice_get xs k ≡ None → get_or xs k d ≡ d
none_got [] k d e = refl
none_got (x ∷ xs) zero d e = absurd (cc)
none_got (x ∷ xs) (suc k) d e = none_got xs k d e

-- The machine is at the poll of a node, whose number its point has.
record Pointed (h : Host) : Type 0 where
  body : ℕ
  number : ℕ
  node : Node
  at : RunsAt h body number node
  body_is : (point_at h h.machine.pc).body ≡ body
  number_is : (point_at h h.machine.pc).node ≡ number

pointed_by : (h : Host) (b n : ℕ) (node : Node) → RunsAt h b n node → (d : Descriptor) → descriptor_at h h.machine.pc ≡ d → d.body ≡ b → d.node ≡ n → Pointed h
unfolding descriptor_at
pointed_by h b n node r d e body number = record { body = b; number = n; node = node; at = r; body_is = ap (λ (x : Descriptor). x.body) e ∙ body; number_is = ap (λ (x : Descriptor). x.node) e ∙ number }

pointed_at : (h : Host) → CanPark h → (sp pc known : ℕ) → slice_get h.statuses h.current ≡ Some (Waiting sp pc known) → Pointed h
pointed_at h (AtPoll b n node r) sp pc known is = pointed_by h b n node r _ (poll_descriptor h h.machine.pc b n node r.poll r.node_is) refl refl
pointed_at h (Idle parked) sp pc known is = absurd (parked sp pc known is)

-- the body that its point has is there
pub body_given : (h : Host) (s : State) → Rests h s → (sp pc known : ℕ) → slice_get h.statuses h.current ≡ Some (Waiting sp pc known) → 0 < (point_at h h.machine.pc).body
body_given h s r sp pc known is = let p = pointed_at h r.parks sp pc known is in subst (λ (k : ℕ). 0 < k) (sym p.body_is) p.at.poll.unit.given

pub body_within : (h : Host) (s : State) → Rests h s → (sp pc known : ℕ) → slice_get h.statuses h.current ≡ Some (Waiting sp pc known) → (point_at h h.machine.pc).body ≤ length h.bodies
body_within h s r sp pc known is = let p = pointed_at h r.parks sp pc known is in subst (λ (k : ℕ). k ≤ length h.bodies) (sym p.body_is) p.at.poll.unit.known

-- where the current activity goes on
pub stop_told : (h : Host) (s : State) → Rests h s → (sp pc known : ℕ) → slice_get h.statuses h.current ≡ Some (Waiting sp pc known) → stop_line (count h) (next_place h) ≡ run_line s
stop_told h s r sp pc known is =
    let p = pointed_at h r.parks sp pc known is in
    let f = r.sound.stands in
    let its = at_node_of r.sense h s p.body p.number p.node f p.at in
    let place : next_place h ≡ place_of s its.young =
    ap (λ b. place_at (body_in h.bodies b) (point_at h h.machine.pc).node) p.body_is
    ∙ ap (λ n. place_at (body_in h.bodies p.body) n) p.number_is
    ∙ sym (places_agree r.sense h s p.body p.number p.node f p.at its.young its.older its.at.here) in
    ap (λ k. stop_line k (next_place h)) f.stands.steps
    ∙ ap (stop_line s.steps) place
    ∙ ap (run_line_of s) (sym its.at.here)

-- where it has answered
pub done_told : (h : Host) (s : State) → Rests h s → (core : Core) → s.core ≡ core → (w : ℕ) → slice_get h.statuses h.current ≡ Some (Answered w) → (v : ShownValue) → v ≡ value_shown h.maps h.machine.memory [] w → done_line core v (count h) ≡ run_line s
done_told h s r core same w is v shows =
    let f = r.sound.stands in
    let a = has_answered r.sense h s f w is in
    let value : v ≡ as_shown [] a.0 = shows ∙ ended_show r.sense (raw_of h) s h.machine.memory f.stands (has_heap h.machine.memory) a.0 w a.2 in
    ap (λ x. done_line core x (count h)) value
    ∙ ap (done_line core (as_shown [] a.0)) f.stands.steps
    ∙ ap (λ c. done_line c (as_shown [] a.0) s.steps) (sym same)
    ∙ sym (done_lines_show s.core a.0 s.steps)
    ∙ ap (run_line_of s) (sym a.1)

-- where an error ended it
pub error_told : (h : Host) (s : State) → Rests h s → (e : ErrorName) (p : Place) → slice_get h.statuses h.current ≡ Some (Failed e p) → error_line e (count h) p ≡ run_line s
error_told h s r e p is =
    ap (λ k. error_line e k p) r.sound.stands.stands.steps
    ∙ ap (run_line_of s) (sym (has_failed r.sense h s r.sound.stands e p is))

-- where a node has no place
pub no_place : (h : Host) (p : Point) (read : Option Place) → p ≡ point_at h h.machine.pc → read ≡ slice_get (body_in h.bodies p.body).places p.node → read ≡ None → record { edit = 0; line = 0; column = 0 } ≡ next_place h
no_place h p read at there is =
    sym (none_got (body_in h.bodies p.body).places p.node (record { edit = 0; line = 0; column = 0 }) (sym there ∙ is))
    ∙ ap (λ (q : Point). place_at (body_in h.bodies q.body) q.node) at
