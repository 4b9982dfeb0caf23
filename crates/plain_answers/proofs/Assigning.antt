-- Sends that assignment slots answer.
use Rattle.std.proofs.Common.{◌≡◌, ℕ, zero, suc, ◌+◌, ◌*◌, ◌%◌, ◌^◌, ◌<◌, refl, ◌∙◌, ap, sym, subst, arith}
use Rattle.std.specs.Prelude.{List, [], ◌∷◌, length, drop, get_or}
use Rattle.self_terms.specs.Depths.{taken, depth}
use Rattle.sparc_store.specs.Words.{Words, IsWithin, Stored}
use Rattle.sparc_store.proofs.Placed.{others_stay, put_stays_within}
use Rattle.source_model.specs.Soundness.{body_in}
use Rattle.source_model.specs.Step.{step}
use Rattle.frame_walk.specs.Raw.{Going, becomes, moved_on}
use Rattle.raw_steps.specs.Stands.{Follows as RawFollows}
use Rattle.raw_steps.proofs.Assigning.{assignment_follows}
use Rattle.plain_words.specs.Going.{StandsAt}
use Rattle.plain_words.specs.Moves.{registers_from}
use Rattle.plain_words.specs.Showing.{viewed}
use Rattle.plain_words.specs.Units.{frame_locals}
use Rattle.plain_words.proofs.Shown.{no_scratch}
use Rattle.plain_runs.specs.Host.{raw_of, heap_words}
use Rattle.plain_runs.specs.Services.{with_left, assigns}
use Rattle.plain_runs.specs.Sound.{callers_of}
use Rattle.plain_runs.specs.Course.{with_machine}
use Rattle.plain_steps.proofs.Reading.{values_long}
use Rattle.plain_steps.proofs.Words.{stands_after}
use Rattle.plain_sends.proofs.Serving.{behind_service, two_others, high_counts}
use Rattle.plain_sends.proofs.Settling.{Controlled, controlled, KeptTo, same_code, same_stacks}
use Rattle.plain_answers.specs.Assigning.{AssignmentsAnswer, GoalsAreLeft}
use Rattle.plain_answers.proofs.Storing.{InHeap, stored_in_heap, assignment_place}

registers_long : (regs : ℕ → ℕ) (r n : ℕ) → length (registers_from regs r n) ≡ n
registers_long regs r zero = refl
registers_long regs r (suc n) = ap suc (registers_long regs (r + 1) n)

first_register : (regs : ℕ → ℕ) (r n : ℕ) → 0 < n → get_or (registers_from regs r n) 0 0 ≡ regs r
first_register regs r zero some = absurd (omega (arith, some))
first_register regs r (suc n) some = refl

pub assignments_answer : AssignmentsAnswer
assignments_answer z h s b n node sel r q f can holder place slot some goal cost few =
    let m = h.machine in
    let x = body_in h.bodies b in
    let v = viewed m b n (frame_locals x) (depth x.nodes n) in
    let callers = callers_of h r.view.older in
    let mt = q.asks.to in
    let mv = q.asks.moved in
    let at = holder + 7 + 4 * place in
    let there : InHeap at = assignment_place z (raw_of h) s f.stands _ sel.name.0 holder place slot in
    let word = mt.regs 9 in
    let left = with_left mt.memory goal cost in
    let h1 = assigns goal cost at (with_machine h mt) in
    let m1 = h1.machine in
    let whole = (let P : Words → Type 0 = λ y. Controlled m.memory (with_left y goal cost) goal in subst P (sym mv.memory_is) (controlled m.memory goal cost can.hosted.within)) in
    let st : KeptTo h m1 goal = record {
      code = λ a low. others_stay left at word a (λ e. absurd (omega (arith, e, low, there.above))) ∙ same_code m.memory left goal whole a low;
      stacks = λ a high. others_stay left at word a (λ e. absurd (omega (arith, e, high, there.below))) ∙ same_stacks m.memory left goal whole a high;
      goal_is = others_stay left at word 0x30000000 (λ e. absurd (omega (arith, e, there.below))) ∙ whole.goal_is;
      within = put_stays_within left at word whole.within;
      few = few;
      zero_is = two_others mt.regs 0 refl refl ∙ mv.kept 0 refl;
      count = two_others mt.regs 4 refl refl ∙ mv.kept 4 refl;
      frame = two_others mt.regs 14 refl refl ∙ mv.kept 14 refl;
      window = λ a big. high_counts mt.regs a big ∙ mv.kept a (no_scratch a big);
      older = mv.older;
    } in
    let stands1 : StandsAt m1 (q.at + 4) = record { here = mv.stands.next; next = ap (λ y. (y + 4) % 2 ^ 32) mv.stands.next ∙ omega (arith, q.low) } in
    let to = behind_service h b n node goal q.at h1.steps h1.cost m1 r can st stands1 q.behind q.takes (omega (arith, mv.counted)) (omega (arith, mv.kept 3 refl)) (two_others mt.regs 6 refl refl ∙ mv.kept 6 refl) in
    let mem = heap_words m1.memory in
    let first : get_or q.words.arguments 0 0 ≡ word = ap (λ ws. get_or ws 0 0) q.arguments ∙ first_register mt.regs 9 sel.args some in
    let stored : Stored (heap_words m.memory) mem at (get_or q.words.arguments 0 0) =
    subst (λ (y : ℕ). Stored (heap_words m.memory) mem at y) (sym first) (subst (λ (y : Words). Stored y mem at word) whole.heap (stored_in_heap left at word whole.within there)) in
    let many : length q.message.arguments ≡ sel.args = values_long z.cells z.places q.message.arguments q.words.arguments q.send.message.arguments ∙ ap length q.arguments ∙ registers_long mt.regs 9 sel.args in
    let raw0 = assignment_follows (raw_of h) s z f.stands q.sender q.older v callers node q.is_at q.message q.words sel.name.0 _ q.send
    slot.object slot.number slot.own holder place slot.old slot.slots mem slot.met_is slot.was slot.behind slot.there slot.found (omega (arith, some, many)) stored in
    let after = λ (w : ℕ) (ws : List ℕ). record (becomes (raw_of h) (Going (moved_on (w ∷ ws) v ∷ callers))) { mem = mem } in
    let raw1 = (let P : List ℕ → Type 0 = λ ws. RawFollows z (after q.words.receiver ws) (step s) [] in subst P q.rest raw0) in
    let raw = (let P : ℕ → Type 0 = λ w. RawFollows z (after w (drop (taken node) v.pending)) (step s) [] in subst P q.receiver_is raw1) in
    record {
      instructions = 1;
      few = omega arith;
      to = to.to;
      goes = to.goes;
      hosted = to.hosted;
      goal = to.goal;
      left = to.left;
      paid = to.paid;
      body = b;
      number = n + 1;
      next = to.next;
      runs = to.runs;
      sense = raw.to;
      stands = stands_after z h (with_machine h1 to.to) s (after (mt.regs 8) (drop (taken node) v.pending)) f to.raw refl refl refl raw;
      counted = sym raw.stands.steps ∙ ap (λ y. y + 1) f.stands.steps;
      silent = raw.same;
    }

pub goals_are_left : GoalsAreLeft
goals_are_left z h s b n node sel r q f can holder place slot goal cost =
    let there = assignment_place z (raw_of h) s f.stands _ sel.name.0 holder place slot in
    let mt = q.asks.to in
    let whole = (let P : Words → Type 0 = IsWithin in subst P (sym q.asks.moved.memory_is) can.hosted.within) in
    others_stay (with_left mt.memory goal cost) (holder + 7 + 4 * place) (mt.regs 9) 0x30000000 (λ e. absurd (omega (arith, e, there.below))) ∙ (controlled mt.memory goal cost whole).goal_is
