-- A return from a home method ends the activations up to the home's.
use Rattle.std.proofs.Common.{◌≡◌, ℕ, suc, ◌+◌, ◌-◌, ◌<◌, ◌≤◌, refl, ◌∙◌, ap, sym, subst, arith}
use Rattle.std.specs.Prelude.{Bool, true, false, nat_eq, nat_lt, if◌then◌else◌, List, [], ◌∷◌, take, drop, slice_set, get_or}
use Rattle.std.proofs.lemmas.List.Elements.{All-nil}
use Rattle.std.proofs.lemmas.Grind.{common_steps}
use Rattle.std.proofs.lemmas.Option.{slice_get_within}
use Rattle.self_terms.specs.declared.nodes.Node.TheVariants as nodes
use Rattle.self_terms.specs.Depths.{depth, depth_from}
use Rattle.sparc_store.specs.Words.{Words, word_at}
use Rattle.sparc_store.specs.Windows.{Frame as Window, kept, saved_at, resumed}
use Rattle.sparc_machine.specs.State.{MachineState, stack_of, with_reg}
use Rattle.source_model.specs.Soundness.{body_in}
use Rattle.source_model.specs.State.{State}
use Rattle.source_model.specs.Step.{step}
use Rattle.heap_cells.proofs.Numbered.{got_there}
use Rattle.frame_walk.specs.Places.{Frame}
use Rattle.frame_walk.specs.Raw.{Answered as Answer, Raw, becomes, answered_to}
use Rattle.frame_walk.specs.Walk.{activations}
use Rattle.frame_walk.proofs.Resting.{saved_same}
use Rattle.frame_moves.proofs.Moving.{taken_window}
use Rattle.raw_steps.specs.Ends.{Ends, ending}
use Rattle.raw_steps.specs.Stands.{Sense, makes_blocks, Follows as RawFollows}
use Rattle.raw_steps.proofs.Failing.{non_local_follows}
use Rattle.raw_steps.proofs.Nexts.{current_all}
use Rattle.plain_words.specs.Going.{StandsAt}
use Rattle.plain_words.specs.Moves.{Moved}
use Rattle.plain_words.specs.Showing.{viewed}
use Rattle.plain_words.specs.Units.{frame_locals, frame_words}
use Rattle.plain_words.proofs.Basics.{other_register}
use Rattle.plain_words.proofs.Sending.{non_local_asks}
use Rattle.plain_words.proofs.Shown.{window_same}
use Rattle.plain_runs.specs.Host.{Host, threads_from, raw_of, heap_words}
use Rattle.plain_runs.specs.declared.status.Status.TheVariants.{Waiting, Answered}
use Rattle.plain_runs.specs.Services.{settled}
use Rattle.plain_runs.specs.Sound.{IsWindow, RunsAt, callers_of}
use Rattle.plain_runs.specs.Course.{with_machine, CanGo}
use Rattle.plain_runs.proofs.Ready.{ready_at}
use Rattle.plain_sends.proofs.Behind.{depth_is}
use Rattle.plain_sends.proofs.Resumming.{runs_as, hosted_as, threads_as}
use Rattle.plain_steps.specs.Steps.{StandsFor, DoesStep}
use Rattle.plain_steps.proofs.Answering.{some_pending, youngest_is}
use Rattle.plain_steps.proofs.Here.{AtNode, at_node_of}
use Rattle.plain_steps.proofs.Words.{stands_after}
use Rattle.plain_unwinds.specs.Frames.{frame_behind, ending_at}
use Rattle.plain_unwinds.specs.Returning.{AsksHome, HomeReturnsAsk, HasAnswered, Unwinds, GoesOn, Answers, HomeReturns, Leaves, HomesLeave}
use Rattle.plain_unwinds.specs.Services.{unmarked, ended_older, home_at, taken_up_with, returns_to, answers_from_home, unwinds}
use Rattle.plain_unwinds.proofs.Apart.{IsApart, kept_apart, hosted_ended, threads_ended}
use Rattle.plain_unwinds.proofs.Changed.{last, last_high, last_ends, last_goal, last_left, apart_after}
use Rattle.plain_unwinds.proofs.Marks.{AreMarked, are_marked, first_marked}
use Rattle.plain_unwinds.proofs.Taken.{Resumes, c, place, back, window, resumes}
use Rattle.plain_unwinds.proofs.Trapped.{lain, w, flat, reg, windows, counted as all_counted, first, zero_is, frames, memory_is}
use Rattle.plain_unwinds.proofs.Walk.{saved_frames, ending_shown, behind_shown, ending_most}
use Rattle.plain_unwinds.proofs.Written.{window_saved, new_shows}

pub home_asks : HomeReturnsAsk
home_asks h b n r can =
    let m = h.machine in
    let x = body_in h.bodies b in
    let k = depth_from 0 x.nodes n in
    let room = (can.runs b).room n in
    let takes = (can.runs b).takes n nodes.NonLocal r.node_is in
    record { at = _; asks = non_local_asks m m.pc (frame_words x) (frame_locals x) (k - 1) (ready_at h b n nodes.NonLocal r can.left) (omega (arith, room, takes, depth_is x.nodes n)) }

no_frames : (h : Host) (memory : Words) (at pc : ℕ) → saved_frames h memory 0 at pc ≡ []
unfolding activations
no_frames h memory at pc = refl

others_left : (a b : ℕ) → b < a → nat_eq a b ≡ false
others_left a b lt = grind (arith, common_steps)

is_less : (a b : ℕ) → nat_lt a b ≡ true → a < b
is_less a b e = grind arith

is_least : (a b : ℕ) → nat_lt a b ≡ false → b ≤ a
is_least a b e = grind arith

-- the window of a frame that is taken up with other words in registers 8 and 4
taken_with : (m : MachineState) (at pc left : ℕ) → kept (taken_up_with at pc left m).regs ≡ saved_at m.memory at
taken_with m at pc left =
    let regs = (resumed (stack_of m) at).regs in
    window_same (with_reg (with_reg regs 8 (m.regs 8)) 4 left) regs
    (λ q big. other_register (with_reg regs 8 (m.regs 8)) 4 left q (others_left q 4 (omega (arith, big))) ∙ other_register regs 8 (m.regs 8) q (others_left q 8 (omega (arith, big))))
    ∙ taken_window (stack_of m) at

module _ (z : Sense) (h : Host) (s : State) (b n : ℕ) (f : StandsFor z h s) (r : RunsAt h b n nodes.NonLocal) (can : CanGo h) (q : AsksHome h b n) (goal cost : ℕ) (few : goal ≤ 1000000000) where
  abbrev m : MachineState
  m = h.machine

  abbrev to : MachineState
  to = q.asks.to

  abbrev mv : Moved m to q.at m.memory (m.regs 2)
  mv = q.asks.moved

  abbrev older : ℕ
  older = r.view.older

  abbrev its_lain : Words
  its_lain = lain h b n nodes.NonLocal r can to q.at mv

  abbrev its_w : Host
  its_w = w h b n nodes.NonLocal r can to q.at mv

  abbrev its_frames : List Frame
  its_frames = frames h b n nodes.NonLocal r can to q.at mv

  abbrev v : Frame
  v = viewed m b n (frame_locals (body_in h.bodies b)) (depth (body_in h.bodies b).nodes n)

  -- how many frames end beside the youngest
  abbrev k : ℕ
  k = ending_at its_lain older (saved_at its_lain (m.regs 14) 14) (saved_at its_lain (m.regs 14) 0)

  most : k ≤ older
  most = ending_most its_lain older (saved_at its_lain (m.regs 14) 14) (saved_at its_lain (m.regs 14) 0)

  its_reg : (j : ℕ) → its_w.machine.regs j ≡ to.regs j
  its_reg = reg h b n nodes.NonLocal r can to q.at mv

  its_flat : its_w.machine.memory ≡ its_lain
  its_flat = flat h b n nodes.NonLocal r can to q.at mv

  counted : its_w.machine.regs 4 ≡ suc older
  counted = all_counted h b n nodes.NonLocal r can to q.at mv

  sp_is : its_w.machine.regs 14 ≡ m.regs 14
  sp_is = first h b n nodes.NonLocal r can to q.at mv

  fewer : its_w.machine.regs 4 - 1 ≡ older
  fewer = omega (arith, counted)

  ended_is : ended_older its_w ≡ k
  ended_is = λ i. ending_at (its_flat i) (fewer i) (saved_at (its_flat i) (sp_is i) 14) (saved_at (its_flat i) (sp_is i) 0)

  -- as many as raw_steps has
  callers_are : callers_of h older ≡ saved_frames h its_lain older (saved_at its_lain (m.regs 14) 14) (saved_at its_lain (m.regs 14) 15 + 8)
  callers_are = ap (drop 1) (sym (new_shows h b n nodes.NonLocal r can.hosted can.runs)) ∙ behind_shown h its_lain 0 older older (m.regs 14) m.pc (omega arith)

  as_raw : k ≡ ending v.outer (callers_of h older)
  as_raw =
      let saved = window_saved h b n nodes.NonLocal r can.hosted can.runs in
      ap (λ (y : Window). ending_at its_lain older (saved_at its_lain (m.regs 14) 14) (y 0)) saved
      ∙ ending_shown h its_lain older (saved_at its_lain (m.regs 14) 14) (saved_at its_lain (m.regs 14) 15 + 8) (m.regs 16)
      ∙ ap (ending (m.regs 16)) (sym callers_are)

  abbrev its : AtNode z h s b n nodes.NonLocal r
  its = at_node_of z h s b n nodes.NonLocal f r

  marked : AreMarked (take (suc k) its_frames)
  marked =
      let all = current_all (raw_of h) s z f.stands its.young its.older v (callers_of h older) nodes.NonLocal its.at in
      first_marked (suc k) its_frames (are_marked z (raw_of h) s f.stands (makes_blocks s) s.current (its.young ∷ its.older) its_frames all)

  abbrev its_last : Words
  its_last = last h b n nodes.NonLocal r can.hosted can.runs (take (suc k) its_frames) marked goal cost

  -- the value
  abbrev value : ℕ
  value = get_or v.pending 0 0

  value_is : to.regs 8 ≡ value
  value_is =
      let x = body_in h.bodies b in
      let takes = (can.runs b).takes n nodes.NonLocal r.node_is in
      let e = depth_is x.nodes n in
      q.asks.receiver_is ∙ sym (youngest_is m b n (frame_locals x) (depth x.nodes n) (depth_from 0 x.nodes n - 1) (omega (arith, takes, e)))

  -- the step, over these words of the heap
  abbrev unwound_raw : Raw
  unwound_raw = record (becomes (raw_of h) (answered_to (drop k (callers_of h older)) value)) { mem = heap_words its_last }

  follows : RawFollows z unwound_raw (step s) []
  follows =
      let x = body_in h.bodies b in
      let takes = (can.runs b).takes n nodes.NonLocal r.node_is in
      let e = depth_is x.nodes n in
      let some = some_pending z.cells z.places its.young.pending m b n (frame_locals x) (depth x.nodes n) (depth_from 0 x.nodes n - 1) (omega (arith, takes, e)) its.first.pending in
      let P : ℕ → Type 0 = λ j. Ends (heap_words m.memory) (v ∷ take j (callers_of h older)) (heap_words its_last) in
      let ends = subst P as_raw (last_ends h b n nodes.NonLocal r can.hosted can.runs (take (suc k) its_frames) marked goal cost) in
      let raw = non_local_follows (raw_of h) s z f.stands its.young its.older v (callers_of h older) its.at (heap_words its_last) some ends in
      let Q : ℕ → Type 0 = λ j. RawFollows z (record (becomes (raw_of h) (answered_to (drop j (callers_of h older)) value)) { mem = heap_words its_last }) (step s) [] in
      subst Q (sym as_raw) raw

  -- the machine when the marks are cleared and the counts are settled
  abbrev ended : ℕ
  ended = ended_older its_w + 1

  abbrev set : Host
  set = settled goal cost (unmarked ended its_w)

  set_memory : set.machine.memory ≡ its_last
  set_memory =
      let e : ended ≡ suc k = omega (arith, ended_is) in
      ap (λ j. (settled goal cost (unmarked j its_w)).machine.memory) e ∙ memory_is h b n nodes.NonLocal r can to q.at mv (suc k) (omega (arith, most)) goal cost

  -- what stands behind either way
  stepped : (set.steps + 1) + 0 ≡ h.steps + m.regs 2 + 1
  stepped = omega (arith, its_reg 2, mv.counted)

  costs : set.cost + 0 ≡ h.cost + m.regs 3
  costs = omega (arith, its_reg 3, mv.kept 3 refl)

  top : set.machine.regs 6 ≡ m.regs 6
  top = its_reg 6 ∙ mv.kept 6 refl

  -- Where the home isn't the oldest activation.
  module _ (less : ended < its_w.machine.regs 4) where
    abbrev o : ℕ
    o = older - suc k

    split : older ≡ k + suc o
    split = omega (arith, less, counted, ended_is)

    abbrev home : Window
    home = saved_at its_w.machine.memory (home_at its_w)

    home_is : home ≡ saved_at its_lain (frame_behind its_lain k (m.regs 14))
    home_is = λ i. saved_at (its_flat i) (frame_behind (its_flat i) (ended_is i) (sp_is i))

    abbrev after : Host
    after = returns_to (home 14) (home 15 + 8) (its_w.machine.regs 4 - ended) set

    abbrev last_machine : MachineState
    last_machine = after.machine

    here : home 14 ≡ place h b n nodes.NonLocal r can.hosted can.runs k o split
    here = ap (λ (y : Window). y 14) home_is

    there : home 15 + 8 ≡ back h b n nodes.NonLocal r can.hosted can.runs k o split
    there = ap (λ (y : Window). y 15 + 8) home_is

    apart : IsApart h last_machine goal
    apart = apart_after h b n nodes.NonLocal r can.hosted can.runs (take (suc k) its_frames) marked goal cost few last_machine set_memory (zero_is h b n nodes.NonLocal r can to q.at mv) (All-nil IsWindow)

    high_last : (a : ℕ) → 0x40000000 ≤ a → word_at its_last a ≡ word_at its_lain a
    high_last = last_high h b n nodes.NonLocal r can.hosted can.runs (take (suc k) its_frames) marked goal cost

    window_is : kept last_machine.regs ≡ window h b n nodes.NonLocal r can.hosted can.runs k o split
    window_is =
        let caller = c h b n nodes.NonLocal r can.hosted can.runs k o split in
        let at = place h b n nodes.NonLocal r can.hosted can.runs k o split in
        taken_with set.machine (home 14) (home 15 + 8) (its_w.machine.regs 4 - ended)
        ∙ (λ i. saved_at (set_memory i) (here i))
        ∙ saved_same its_lain its_last at (λ a from end. high_last a (omega (arith, from, caller.room.place.1)))

    count_is : its_w.machine.regs 4 - ended ≡ suc o
    count_is = omega (arith, less, counted, ended_is)

    stands_there : StandsAt last_machine (back h b n nodes.NonLocal r can.hosted can.runs k o split)
    stands_there = record { here = there; next = ap (λ y. y + 4) there }

    its_resumes : Resumes h last_machine k older
    its_resumes =
        resumes h b n nodes.NonLocal r can.hosted can.runs k o split goal last_machine apart (λ a le. ap (λ (y : Words). word_at y a) set_memory ∙ high_last a le)
        refl here window_is count_is stands_there can.current

    abbrev now : MachineState
    now = its_resumes.to

    raw_now : raw_of (with_machine after now) ≡ unwound_raw
    raw_now = λ i. record {
      maps = h.maps;
      mem = (its_resumes.heap ∙ ap heap_words set_memory) i;
      heap = record { top = (its_resumes.top ∙ top) i; next = h.next };
      threads =
          (threads_as after.steps after.cost (with_machine h now) 0 h.statuses
          ∙ its_resumes.threads
          ∙ ap (λ y. slice_set (threads_from h 0 h.statuses) h.current (answered_to (drop k (callers_of h older)) y)) (its_reg 8 ∙ value_is)) i;
      current = h.current;
      steps = (let e : after.steps + now.regs 2 ≡ h.steps + m.regs 2 + 1 = omega (arith, its_resumes.counted, stepped) in e) i;
      cost = (let e : after.cost + now.regs 3 ≡ h.cost + m.regs 3 = omega (arith, its_resumes.cost, costs) in e) i;
    }

    does : DoesStep z after s
    does = record {
      instructions = 1;
      few = omega arith;
      to = now;
      goes = its_resumes.goes;
      hosted = hosted_as after.steps after.cost (with_machine h now) its_resumes.hosted;
      goal = its_resumes.goal;
      left = its_resumes.left;
      paid = omega (arith, its_resumes.top, its_resumes.cost);
      body = its_resumes.body;
      number = its_resumes.number;
      next = its_resumes.next;
      runs = runs_as after.steps after.cost (with_machine h now) its_resumes.body its_resumes.number its_resumes.next its_resumes.runs;
      sense = follows.to;
      stands = stands_after z h (with_machine after now) s unwound_raw f raw_now refl refl refl follows;
      counted = sym follows.stands.steps ∙ ap (λ y. y + 1) f.stands.steps;
      silent = follows.same;
    }

  -- Where it is.
  module _ (least : its_w.machine.regs 4 ≤ ended) where
    abbrev oldest : Host
    oldest = answers_from_home set

    abbrev word : ℕ
    word = set.machine.regs 8

    alone : IsApart h set.machine goal
    alone = apart_after h b n nodes.NonLocal r can.hosted can.runs (take (suc k) its_frames) marked goal cost few set.machine set_memory (zero_is h b n nodes.NonLocal r can to q.at mv) (windows h b n nodes.NonLocal r can to q.at mv)

    none_left : drop k (callers_of h older) ≡ []
    none_left =
        ap (drop (suc k)) (sym (new_shows h b n nodes.NonLocal r can.hosted can.runs))
        ∙ behind_shown h its_lain k older 0 (m.regs 14) m.pc (omega (arith, least, counted, ended_is, most))
        ∙ no_frames h its_lain (saved_at its_lain (frame_behind its_lain k (m.regs 14)) 14) (saved_at its_lain (frame_behind its_lain k (m.regs 14)) 15 + 8)

    raw_oldest : raw_of oldest ≡ unwound_raw
    raw_oldest =
        let kept = kept_apart h set.machine goal can.hosted can.runs alone in
        let ts = threads_from h 0 h.statuses in
        λ i. record {
          maps = h.maps;
          mem = ap heap_words set_memory i;
          heap = record { top = top i; next = h.next };
          threads =
              (threads_ended h set.machine (Answered word) oldest.steps oldest.cost (Answer word) (λ j. refl) 0 h.current h.statuses (Waiting r.view.sp r.view.pc r.view.known) (omega arith) r.view.running kept.waits
              ∙ ap (λ y. slice_set ts h.current (Answer y)) (its_reg 8 ∙ value_is)
              ∙ ap (λ y. slice_set ts h.current (answered_to y value)) (sym none_left)) i;
          current = h.current;
          steps = stepped i;
          cost = costs i;
        }

    answers : HasAnswered oldest s
    answers = record {
      word = word;
      answered = got_there h.statuses h.current (Answered word) (slice_get_within h.statuses h.current (Waiting r.view.sp r.view.pc r.view.known) r.view.running);
      hosted = hosted_ended h set.machine (Answered word) oldest.steps oldest.cost (kept_apart h set.machine goal can.hosted can.runs alone).hosted;
      sense = follows.to;
      stands = stands_after z h oldest s unwound_raw f raw_oldest refl refl refl follows;
      counted = sym follows.stands.steps ∙ ap (λ y. y + 1) f.stands.steps;
      silent = follows.same;
    }

  by_home : (c : Bool) → nat_lt ended (its_w.machine.regs 4) ≡ c → Unwinds z (if c then returns_to (saved_at its_w.machine.memory (home_at its_w) 14) (saved_at its_w.machine.memory (home_at its_w) 15 + 8) (its_w.machine.regs 4 - ended) set else answers_from_home set) s
  by_home true e = GoesOn (does (is_less ended (its_w.machine.regs 4) e))
  by_home false e = Answers (answers (is_least ended (its_w.machine.regs 4) e))

  pub unwound : Unwinds z (unwinds goal cost (with_machine h to)) s
  unwound = by_home (nat_lt ended (its_w.machine.regs 4)) refl

  goal_is : word_at set.machine.memory 0x30000000 ≡ goal
  goal_is = ap (λ (y : Words). word_at y 0x30000000) set_memory ∙ last_goal h b n nodes.NonLocal r can.hosted can.runs (take (suc k) its_frames) marked goal cost

  left_is : word_at set.machine.memory 0x30000004 ≡ cost
  left_is = ap (λ (y : Words). word_at y 0x30000004) set_memory ∙ last_left h b n nodes.NonLocal r can.hosted can.runs (take (suc k) its_frames) marked goal cost

  sum : set.cost ≡ h.cost + m.regs 3
  sum = omega (arith, costs)

  abbrev left_by : Bool → Host
  left_by c = if c then returns_to (saved_at its_w.machine.memory (home_at its_w) 14) (saved_at its_w.machine.memory (home_at its_w) 15 + 8) (its_w.machine.regs 4 - ended) set else answers_from_home set

  leaves_by : (c : Bool) → Leaves goal cost h (left_by c) s
  leaves_by true = record { goal_is = goal_is; left_is = left_is; top = top; settled = refl; sum = sum; steps_are = omega (arith, stepped, f.stands.steps); current = refl; runs = can.runs }
  leaves_by false = record { goal_is = goal_is; left_is = left_is; top = top; settled = refl; sum = sum; steps_are = omega (arith, stepped, f.stands.steps); current = refl; runs = can.runs }

  pub leaves : Leaves goal cost h (unwinds goal cost (with_machine h to)) s
  leaves = leaves_by (nat_lt ended (its_w.machine.regs 4))

pub home_returns : HomeReturns
home_returns z h s b n f r can q goal cost few = unwound z h s b n f r can q goal cost few

pub homes_leave : HomesLeave
homes_leave z h s b n f r can q goal cost few = leaves z h s b n f r can q goal cost few
