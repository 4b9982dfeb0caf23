-- Messages that data and assignment slots answer, and those that end the current activity.
use Rattle.std.proofs.Common.{◌≡◌, ℕ, zero, suc, ◌+◌, ◌*◌, ◌%◌, ◌^◌, ◌<◌, ◌≤◌, refl, ◌∙◌, ap, sym, subst, arith}
use Rattle.std.specs.Prelude.{false, nat_eq, Bool, List, [], ◌∷◌, length, drop, get_or}
use Rattle.self_terms.specs.declared.nodes.Node.{Node}
use Rattle.self_terms.specs.Depths.{taken, depth}
use Rattle.sparc_store.specs.Words.{Words, Stored}
use Rattle.sparc_store.specs.Windows.{Frame as Window, frame_before, but_first}
use Rattle.sparc_store.proofs.Placed.{others_stay, put_stays_within}
use Rattle.sparc_machine.specs.State.{with_reg}
use Rattle.source_model.specs.Messages.{Met}
use Rattle.source_model.specs.Soundness.{body_in}
use Rattle.source_model.specs.State.{Activation, State}
use Rattle.source_model.specs.Step.{step}
use Rattle.frame_walk.specs.Places.{Descriptor, Frame}
use Rattle.frame_walk.specs.Raw.{Thread, Going, Raw, becomes, moved_on}
use Rattle.frame_walk.specs.Walk.{activations}
use Rattle.raw_steps.specs.Messages.{RawMessage}
use Rattle.raw_steps.specs.Sends.{IsSend, begins, method_entry, at_node}
use Rattle.raw_steps.specs.Stands.{Sense, Stands, IsAt, AreActivations, Follows as RawFollows, makes_blocks}
use Rattle.raw_steps.proofs.Assigning.{assignment_follows}
use Rattle.raw_steps.proofs.Nexts.{current_all}
use Rattle.raw_steps.proofs.Refusing.{overflows}
use Rattle.raw_steps.proofs.Sending.{constant_answers, field_answers, parent_answers, method_enters, missing_is}
use Rattle.source_model.specs.Sends.{Message}
use Rattle.plain_words.specs.Going.{StandsAt}
use Rattle.plain_words.specs.Moves.{registers_from}
use Rattle.plain_words.specs.Showing.{viewed}
use Rattle.plain_words.specs.Units.{frame_locals}
use Rattle.plain_words.proofs.Basics.{other_register}
use Rattle.plain_words.proofs.Shown.{no_scratch}
use Rattle.plain_runs.specs.Host.{raw_of, descriptor_at, heap_words}
use Rattle.plain_runs.specs.Services.{cleared, with_left, data_answers, assigns}
use Rattle.plain_runs.specs.Sound.{callers_of}
use Rattle.plain_runs.specs.Course.{with_machine}
use Rattle.plain_steps.proofs.Reading.{values_long}
use Rattle.plain_steps.proofs.Words.{stands_after, step_counted}
use Rattle.plain_sends.specs.Sends.{IsData, OfConstant, OfField, OfParent}
use Rattle.plain_sends.proofs.Serving.{other, two_others, high_counts, behind_service}
use Rattle.plain_sends.proofs.Settling.{Controlled, controlled, SettledTo, KeptTo, kept_to, same_code, same_stacks}
use Rattle.plain_answers.proofs.Failing.{errors_fail}
use Rattle.plain_answers.proofs.Storing.{InHeap, stored_in_heap, assignment_place}
use Rattle.plain_handlers.specs.Messages.{DataAnswersMessages, AssignmentsAnswerMessages, MissingMessagesFail, MessagesOverflow}

-- Data.

data_follows : (r : Raw) (s : State) (z : Sense) (S : Stands z r s) (a : Activation) (older : List Activation) (f : Frame) (fs : List Frame) (node : Node) (at : IsAt r s a older f fs node) (m : Message) (x : RawMessage) (name : ℕ) (met : Met) (w : ℕ)
    → IsSend s z a older node m x name met → IsData z met w → RawFollows z (becomes r (Going (moved_on (w ∷ x.rest) f ∷ fs))) (step s) []
data_follows r s z S a older f fs node at m x name met w is (OfConstant o v e value) = constant_answers r s z S a older f fs node at m x name met is o v w e value
data_follows r s z S a older f fs node at m x name met w is (OfField o v e value) = field_answers r s z S a older f fs node at m x name met is o v w e value
data_follows r s z S a older f fs node at m x name met w is (OfParent o p e there) = parent_answers r s z S a older f fs node at m x name met is o p w e there

three_others : (regs : ℕ → ℕ) (word r : ℕ) → nat_eq r 8 ≡ false → nat_eq r 3 ≡ false → nat_eq r 2 ≡ false → with_reg (cleared regs) 8 word r ≡ regs r
three_others regs word r e8 e3 e2 = other_register (cleared regs) 8 word r e8 ∙ two_others regs r e3 e2

high_cleared : (regs : ℕ → ℕ) (word r : ℕ) → 16 ≤ r → with_reg (cleared regs) 8 word r ≡ regs r
high_cleared regs word r h = other_register (cleared regs) 8 word r (other r 8 (omega arith)) ∙ high_counts regs r h

pub data_answers_messages : DataAnswersMessages
data_answers_messages z h s b n node args name met r mt q f can goal cost word few known =
    let m = h.machine in
    let x = body_in h.bodies b in
    let v = viewed m b n (frame_locals x) (depth x.nodes n) in
    let callers = callers_of h r.view.older in
    let mv = q.moved in
    let h1 = data_answers goal cost word (with_machine h mt) in
    let m1 = h1.machine in
    let whole1 = (let P : Words → Type 0 = λ y. Controlled m.memory (with_left y goal cost) goal in subst P (sym mv.memory_is) (controlled m.memory goal cost can.hosted.within)) in
    let st : SettledTo h m1 goal = record {
      memory = whole1;
      few = few;
      zero_is = three_others mt.regs word 0 refl refl refl ∙ mv.kept 0 refl;
      count = three_others mt.regs word 4 refl refl refl ∙ mv.kept 4 refl;
      frame = three_others mt.regs word 14 refl refl refl ∙ mv.kept 14 refl;
      window = λ a big. high_cleared mt.regs word a big ∙ mv.kept a (no_scratch a big);
      older = mv.older;
    } in
    let stands1 : StandsAt m1 (q.at + 4) = record { here = mv.stands.next; next = ap (λ y. (y + 4) % 2 ^ 32) mv.stands.next ∙ omega (arith, q.low) } in
    let to = behind_service h b n node goal q.at h1.steps h1.cost m1 r can (kept_to h m1 goal st) stands1 q.behind q.takes (omega (arith, mv.counted)) (omega (arith, mv.kept 3 refl)) (three_others mt.regs word 6 refl refl refl ∙ mv.kept 6 refl) in
    let raw0 = data_follows (raw_of h) s z f.stands q.sender q.older v callers node q.is_at q.message q.words name met word q.send known in
    let raw = (let P : List ℕ → Type 0 = λ ws. RawFollows z (becomes (raw_of h) (Going (moved_on (word ∷ ws) v ∷ callers))) (step s) [] in subst P q.rest raw0) in
    let now : Thread = Going (moved_on (word ∷ drop (taken node) v.pending) v ∷ callers) in
    let is_raw = to.raw ∙ ap (λ (y : Words). record (becomes (raw_of h) now) { mem = y }) whole1.heap in
    record {
      instructions = 1;
      few = omega arith;
      to = to.to;
      goes = to.goes;
      hosted = to.hosted;
      goal = to.goal;
      left = to.left;
      paid = to.paid;
      body = b;
      number = n + 1;
      next = to.next;
      runs = to.runs;
      sense = raw.to;
      stands = stands_after z h (with_machine h1 to.to) s (becomes (raw_of h) now) f is_raw refl refl refl raw;
      counted = step_counted z h s now f raw;
      silent = raw.same;
    }

-- Assignment slots.

registers_long : (regs : ℕ → ℕ) (r n : ℕ) → length (registers_from regs r n) ≡ n
registers_long regs r zero = refl
registers_long regs r (suc n) = ap suc (registers_long regs (r + 1) n)

first_register : (regs : ℕ → ℕ) (r n : ℕ) → 0 < n → get_or (registers_from regs r n) 0 0 ≡ regs r
first_register regs r zero some = absurd (omega (arith, some))
first_register regs r (suc n) some = refl

pub assignments_answer_messages : AssignmentsAnswerMessages
assignments_answer_messages z h s b n node args name met r mt q f can holder place slot some goal cost few =
    let m = h.machine in
    let x = body_in h.bodies b in
    let v = viewed m b n (frame_locals x) (depth x.nodes n) in
    let callers = callers_of h r.view.older in
    let mv = q.moved in
    let at = holder + 7 + 4 * place in
    let there : InHeap at = assignment_place z (raw_of h) s f.stands met name holder place slot in
    let word = mt.regs 9 in
    let left = with_left mt.memory goal cost in
    let h1 = assigns goal cost at (with_machine h mt) in
    let m1 = h1.machine in
    let whole = (let P : Words → Type 0 = λ y. Controlled m.memory (with_left y goal cost) goal in subst P (sym mv.memory_is) (controlled m.memory goal cost can.hosted.within)) in
    let st : KeptTo h m1 goal = record {
      code = λ a low. others_stay left at word a (λ e. absurd (omega (arith, e, low, there.above))) ∙ same_code m.memory left goal whole a low;
      stacks = λ a high. others_stay left at word a (λ e. absurd (omega (arith, e, high, there.below))) ∙ same_stacks m.memory left goal whole a high;
      goal_is = others_stay left at word 0x30000000 (λ e. absurd (omega (arith, e, there.below))) ∙ whole.goal_is;
      within = put_stays_within left at word whole.within;
      few = few;
      zero_is = two_others mt.regs 0 refl refl ∙ mv.kept 0 refl;
      count = two_others mt.regs 4 refl refl ∙ mv.kept 4 refl;
      frame = two_others mt.regs 14 refl refl ∙ mv.kept 14 refl;
      window = λ a big. high_counts mt.regs a big ∙ mv.kept a (no_scratch a big);
      older = mv.older;
    } in
    let stands1 : StandsAt m1 (q.at + 4) = record { here = mv.stands.next; next = ap (λ y. (y + 4) % 2 ^ 32) mv.stands.next ∙ omega (arith, q.low) } in
    let to = behind_service h b n node goal q.at h1.steps h1.cost m1 r can st stands1 q.behind q.takes (omega (arith, mv.counted)) (omega (arith, mv.kept 3 refl)) (two_others mt.regs 6 refl refl ∙ mv.kept 6 refl) in
    let mem = heap_words m1.memory in
    let first : get_or q.words.arguments 0 0 ≡ word = ap (λ ws. get_or ws 0 0) q.arguments ∙ first_register mt.regs 9 args some in
    let stored : Stored (heap_words m.memory) mem at (get_or q.words.arguments 0 0) =
    subst (λ (y : ℕ). Stored (heap_words m.memory) mem at y) (sym first) (subst (λ (y : Words). Stored y mem at word) whole.heap (stored_in_heap left at word whole.within there)) in
    let many : length q.message.arguments ≡ args = values_long z.cells z.places q.message.arguments q.words.arguments q.send.message.arguments ∙ ap length q.arguments ∙ registers_long mt.regs 9 args in
    let raw0 = assignment_follows (raw_of h) s z f.stands q.sender q.older v callers node q.is_at q.message q.words name met q.send
    slot.object slot.number slot.own holder place slot.old slot.slots mem slot.met_is slot.was slot.behind slot.there slot.found (omega (arith, some, many)) stored in
    let after = λ (w : ℕ) (ws : List ℕ). record (becomes (raw_of h) (Going (moved_on (w ∷ ws) v ∷ callers))) { mem = mem } in
    let raw1 = (let P : List ℕ → Type 0 = λ ws. RawFollows z (after q.words.receiver ws) (step s) [] in subst P q.rest raw0) in
    let raw = (let P : ℕ → Type 0 = λ w. RawFollows z (after w (drop (taken node) v.pending)) (step s) [] in subst P q.receiver_is raw1) in
    record {
      instructions = 1;
      few = omega arith;
      to = to.to;
      goes = to.goes;
      hosted = to.hosted;
      goal = to.goal;
      left = to.left;
      paid = to.paid;
      body = b;
      number = n + 1;
      next = to.next;
      runs = to.runs;
      sense = raw.to;
      stands = stands_after z h (with_machine h1 to.to) s (after (mt.regs 8) (drop (taken node) v.pending)) f to.raw refl refl refl raw;
      counted = sym raw.stands.steps ∙ ap (λ y. y + 1) f.stands.steps;
      silent = raw.same;
    }

-- Errors.

pub missing_messages_fail : MissingMessagesFail
missing_messages_fail z h s b n node args name met r to q f can plain e none =
    let v = viewed h.machine b n (frame_locals (body_in h.bodies b)) (depth (body_in h.bodies b).nodes n) in
    errors_fail z h s b n node f r can plain q.sender q.older q.is_at.here e
    (missing_is (raw_of h) s z f.stands q.sender q.older v (callers_of h r.view.older) node q.is_at q.message q.words name met q.send e none) to q.at q.moved

pub seen_long : (d : ℕ → Descriptor) (memory : Words) (n sp : ℕ) (w : Window) (pc : ℕ) (held : List Window) → length (activations d memory n sp w pc held) ≡ n
unfolding activations
seen_long d memory zero sp w pc held = refl
seen_long d memory (suc n) sp w pc held = ap suc (seen_long d memory n (w 14) (frame_before memory (w 14) held) (w 15 + 8) (but_first held))

pub as_many : (wants : ℕ → Bool) (z : Sense) (at : ℕ) (all : List Activation) (frames : List Frame) → AreActivations wants z at all frames → length all ≡ length frames
as_many wants z at [] [] are = refl
as_many wants z at (a ∷ older) (y ∷ ys) are = ap suc (as_many wants z at older ys are.2)
as_many wants z at [] (y ∷ ys) are = absurd are
as_many wants z at (a ∷ older) [] are = absurd are

pub messages_overflow : MessagesOverflow
messages_overflow z h s b n node args name met r to q f can plain o c is inside many =
    let m = h.machine in
    let v = viewed m b n (frame_locals (body_in h.bodies b)) (depth (body_in h.bodies b).nodes n) in
    let callers = callers_of h r.view.older in
    let all = current_all (raw_of h) s z f.stands q.sender q.older v callers node q.is_at in
    let long : length q.older ≡ r.view.older = as_many (makes_blocks s) z s.current q.older callers all.2 ∙ seen_long (descriptor_at h) m.memory r.view.older (m.regs 30) (frame_before m.memory (m.regs 30) m.older) (m.regs 31 + 8) (but_first m.older) in
    let counted : to.regs 4 ≡ suc r.view.older = q.moved.kept 4 refl ∙ r.view.count in
    let enters = method_enters (raw_of h) s z f.stands q.sender q.older v callers node q.is_at q.message q.words name met q.send o c is inside in
    errors_fail z h s b n node f r can plain q.sender q.older q.is_at.here _
    (enters ∙ overflows (begins s (method_entry q.message o c)) (at_node q.sender.next q.message.rest q.sender ∷ q.older) s (omega (arith, many, counted, long))) to q.at q.moved
