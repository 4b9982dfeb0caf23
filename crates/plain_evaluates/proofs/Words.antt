-- The words of an entry may begin.
use Rattle.std.proofs.Common.{◌≡◌, ℕ, suc, ◌+◌, ◌*◌, refl, ◌∙◌, ap, arith, length-append}
use Rattle.std.specs.Prelude.{Bool, true, false, if◌then◌else◌, length}
use Rattle.self_terms.specs.declared.bodies.Body.{Body}
use Rattle.self_terms.specs.declared.nodes.Node.{Node}
use Rattle.sparc_machine.specs.State.{stack_of}
use Rattle.source_model.specs.Soundness.{body_in}
use Rattle.frame_moves.proofs.Spared.{can_save}
use Rattle.plain_words.specs.Units.{nodes_code, entry_code, initial_words, owns_context, of_block, numbered, frame_locals, frame_words}
use Rattle.plain_words.specs.declared.references.References.{References}
use Rattle.plain_words.proofs.Basics.{at_front}
use Rattle.plain_words.proofs.Entering.{entry_begins}
use Rattle.plain_runs.specs.Host.{Host}
use Rattle.plain_runs.specs.Sound.{entry_frame}
use Rattle.plain_words.specs.Moves.{CanStart, HasTop, in_frame, CanBegin, Begins, begun_memory}
use Rattle.plain_evaluates.proofs.Bounds.{frame_least, initial_long}
use Rattle.plain_evaluates.proofs.Called.{IsCalled, sender_sound, sender_stack, place_below, place_there, place_is}

frame_part : (o : Bool) (n : ℕ) → in_frame o n ≡ (if o then 0 else n)
frame_part true n = refl
frame_part false n = refl

-- of arguments and locals as many stand in the frame as it keeps
pub kept_count : (r : References) (x : Body) → in_frame (owns_context x) (length x.arguments + length (initial_words r x)) ≡ frame_locals x
kept_count r x = ap (λ k. in_frame (owns_context x) (length x.arguments + k)) (initial_long r x) ∙ frame_part (owns_context x) (length x.arguments + length x.locals)

can_begin : (h : Host) (b n c at : ℕ) (node : Node) → IsCalled h b n c at node
    → (let x = body_in h.bodies c in
    CanStart (of_block x) h.machine → HasTop (owns_context x) h.machine (length x.arguments + length (initial_words h.references x))
    → CanBegin (owns_context x) (of_block x) h.machine at (frame_words x) (numbered h.references.contexts) (length x.arguments) (initial_words h.references x))
can_begin h b n c at node q start top =
    let x = body_in h.bodies c in
    let r = h.references in
    let u = q.unit in
    let rest = nodes_code r (owns_context x) (frame_locals x) 0 0 x.nodes in
    record {
      stands = q.stands;
      code_region = record { aligned = u.region.aligned; from = u.region.from; to = omega (arith, u.region.to, length-append (entry_code r x) rest) };
      code_there = at_front h.machine.memory at (entry_code r x) rest u.code;
      few = (q.runs c).translates.arguments;
      room = omega (arith, frame_least x, kept_count r x);
      place = place_below h c;
      below = place_is h b n c at node q;
      frame = place_there h b n c at node q;
      can_save = can_save (entry_frame h.current) (suc q.view.older) (stack_of h.machine) (sender_sound h b n c at node q) (sender_stack h b n c at node q);
      within = q.hosted.within;
      register_0 = q.hosted.register_0;
      start = start;
      heap = top;
    }

-- so many instructions lead into it
pub leads_in : (h : Host) (b n c at : ℕ) (node : Node) → IsCalled h b n c at node
    → (let x = body_in h.bodies c in
    let initial = initial_words h.references x in
    CanStart (of_block x) h.machine → HasTop (owns_context x) h.machine (length x.arguments + length initial)
    → Begins (owns_context x) (of_block x) h.machine (at + 4 * length (entry_code h.references x)) (place_below h c) (length x.arguments + length initial)
    (begun_memory (owns_context x) (of_block x) h.machine (place_below h c) (numbered h.references.contexts) (length x.arguments) initial))
unfolding can_begin
leads_in h b n c at node q start top =
    let x = body_in h.bodies c in
    entry_begins (owns_context x) (of_block x) h.machine at (frame_words x) (numbered h.references.contexts) (length x.arguments) (initial_words h.references x) (can_begin h b n c at node q start top)
