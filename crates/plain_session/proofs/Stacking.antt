-- The lines of activations, one after the other, and machine and host once their frames are saved.
use Rattle.std.proofs.Common.{◌≡◌, ℕ, zero, suc, ◌+◌, ◌-◌, ◌<◌, ◌≤◌, List, [], ◌∷◌, ◌++◌, take, length, refl, ◌∙◌, ap, sym, subst, arith, append_assoc, append-nil}
use Rattle.std.specs.Prelude.{Option, Some, None, reverse, map, slice_get}
use Rattle.std.proofs.lemmas.List.{length-map, length-reverse, reverse-append, reverse-reverse}
use Rattle.io_ports.specs.Causes.{Takes, TakesFront}
use Rattle.self_terms.specs.declared.bodies.Body.{Body}
use Rattle.source_model.specs.declared.objects.Core.{Core}
use Rattle.source_model.specs.Canon.{Each}
use Rattle.source_model.specs.Lines.{frame_lines}
use Rattle.source_model.specs.Soundness.{body_in, HasBody, IsActivity, AreCallers}
use Rattle.source_model.specs.State.{Activation, Running, State}
use Rattle.session_text.specs.Frames.{act_of, acts_text, act_text, frame_text, shown_of, ActHasNames, HasShortNames}
use Rattle.session_text.specs.declared.acts.ShownAct.{ShownAct}
use Rattle.session_text.proofs.ValueTexts.{stacks_show as lines_show}
use Rattle.sparc_store.specs.Words.{Words, word_at}
use Rattle.sparc_store.specs.Windows.{CanFlush, Frame as Window, kept, frame_before, but_first, flushed}
use Rattle.sparc_machine.specs.State.{stack_of}
use Rattle.frame_walk.specs.Places.{Descriptor, Frame}
use Rattle.frame_walk.specs.Raw.{Raw}
use Rattle.frame_walk.specs.Walk.{activations}
use Rattle.frame_moves.proofs.Spared.{flush_only, low_same}
use Rattle.raw_steps.specs.Meeting.{HasCore}
use Rattle.raw_steps.specs.Stands.{Stands}
use Rattle.shown_frames.specs.Showing.{act_shown}
use Rattle.plain_runs.specs.Host.{Host, descriptor_at, raw_of, seen}
use Rattle.plain_runs.specs.declared.status.Status.TheVariants.{Waiting}
use Rattle.plain_begins.specs.Begins.{CanPark, AtPoll, Idle}
use Rattle.plain_turns.specs.Resting.{Rests}
use Rattle.plain_show.specs.Showing.{IsAtPoll, flushed_host, stack_shown}
use Rattle.plain_show.proofs.Flushing.{may_flush, few_frames}
use Rattle.plain_show.proofs.Kept.{stays_at_poll}
use Rattle.plain_show.proofs.Agreeing.{stacks_show}
use Rattle.plain_turns.specs.Asking.{count}
use Rattle.world_heap.proofs.Fronts.{at_take}
use Rattle.run_lines.specs.Standing.{GoesOn}
use Rattle.plain_session.specs.Stacks.{AreShort, AllNamed}
use Rattle.plain_session.proofs.Fronts.{takes_none, takes_both, front_of_both, front_of_first}

-- Lines.

-- the line of an activation, as it was put together
pub frame_is : (core given : Core) (names told : List (List ℕ)) (bodies : List Body) (b : Body) (position : ℕ) (act : ShownAct) (o : Option ShownAct) (text line : List ℕ) → given ≡ core → told ≡ names → b ≡ body_in bodies act.body.0
    → o ≡ Some act → line ≡ frame_text given told b position act → text ≡ line → text ≡ act_text core names bodies position o
frame_is core given names told bodies b position act o text line same_core same_names same_body is put written =
    written ∙ put
    ∙ ap (λ (c : Core). frame_text c told b position act) same_core
    ∙ ap (λ ns. frame_text core ns b position act) same_names
    ∙ ap (λ (x : Body). frame_text core names x position act) same_body
    ∙ ap (act_text core names bodies position) (sym is)

module _ (core : Core) (names : List (List ℕ)) (bodies : List Body) where
  -- the lines of the oldest so many
  abbrev pub oldest : List ShownAct → ℕ → List ℕ
  oldest xs k = acts_text core names bodies (reverse (take k xs))

  -- Of the lines of all the sink took those above the oldest so many.
  pub record Took (xs : List ShownAct) (k : ℕ) (old now : Option (List ℕ)) : Type 0 where
    pub said : List ℕ
    pub takes : Takes old now said
    pub whole : acts_text core names bodies (reverse xs) ≡ said ++ oldest xs k

  took_none : (xs : List ShownAct) (taken : Option (List ℕ)) → Took xs (length xs) taken taken
  took_none xs taken = record { said = []; takes = takes_none taken; whole = ap (λ (l : List ShownAct). acts_text core names bodies (reverse l)) (sym (take_all xs)) }
    where
      take_all : (ys : List ShownAct) → take (length ys) ys ≡ ys
      take_all [] = refl
      take_all (y ∷ ys) = ap (λ (l : List ShownAct). y ∷ l) (take_all ys)

  pub took_first : (xs : List ShownAct) (taken : Option (List ℕ)) → Took xs (length xs - 0) taken taken
  took_first xs taken = let all : length xs ≡ length xs - 0 = omega arith in subst (λ k. Took xs k taken taken) all (took_none xs taken)

  take_long : (xs : List ShownAct) (k : ℕ) (x : ShownAct) → slice_get xs k ≡ Some x → length (take k xs) ≡ k
  take_long [] k x e = absurd (cc)
  take_long (y ∷ xs) zero x e = refl
  take_long (y ∷ xs) (suc k) x e = ap suc (take_long xs k x e)

  -- the line of one more
  one_more : (xs : List ShownAct) (k : ℕ) (x : ShownAct) → slice_get xs k ≡ Some x → oldest xs (k + 1) ≡ act_text core names bodies (k + 1) (slice_get xs k) ++ oldest xs k
  one_more xs k x e =
      let turned : reverse (take (k + 1) xs) ≡ x ∷ reverse (take k xs) = ap (λ (l : List ShownAct). reverse l) (at_take xs k x e) ∙ reverse-append (take k xs) (x ∷ []) in
      let long : length (reverse (take k xs)) ≡ k = length-reverse (take k xs) ∙ take_long xs k x e in
      ap (acts_text core names bodies) turned
      ∙ ap (λ n. frame_text core names (body_in bodies x.body.0) (n + 1) x ++ oldest xs k) long
      ∙ ap (λ o. act_text core names bodies (k + 1) o ++ oldest xs k) (sym e)

  pub took_more : (xs : List ShownAct) (k : ℕ) (x : ShownAct) (old mid now : Option (List ℕ)) → slice_get xs k ≡ Some x → Took xs (k + 1) old mid → Takes mid now (act_text core names bodies (k + 1) (slice_get xs k)) → Took xs k old now
  took_more xs k x old mid now e t more = let line = act_text core names bodies (k + 1) (slice_get xs k) in record {
    said = t.said ++ line;
    takes = takes_both old mid now t.said line t.takes more;
    whole = t.whole ∙ ap (λ o. t.said ++ o) (one_more xs k x e) ∙ sym (append_assoc t.said line (oldest xs k));
  }

  pub took_all : (xs : List ShownAct) (old now : Option (List ℕ)) → Took xs 0 old now → Takes old now (acts_text core names bodies (reverse xs))
  took_all xs old now t = subst (λ o. Takes old now o) (sym (t.whole ∙ append-nil t.said)) t.takes

  pub took_front : (xs : List ShownAct) (k : ℕ) (x : ShownAct) (old mid now : Option (List ℕ)) → slice_get xs k ≡ Some x → Took xs (k + 1) old mid → TakesFront mid now (act_text core names bodies (k + 1) (slice_get xs k))
      → TakesFront old now (acts_text core names bodies (reverse xs))
  took_front xs k x old mid now e t (n, le, front) =
      let line = act_text core names bodies (k + 1) (slice_get xs k) in
      let rest : TakesFront mid now (oldest xs (k + 1)) = subst (λ o. TakesFront mid now o) (sym (one_more xs k x e)) (front_of_first mid now line (oldest xs k) (n, le, front)) in
      subst (λ o. TakesFront old now o) (sym t.whole) (front_of_both old mid now t.said (oldest xs (k + 1)) t.takes rest)

  some_there : (xs : List ShownAct) (k : ℕ) → k < length xs → (x : ShownAct) × (slice_get xs k ≡ Some x)
  some_there [] k lt = absurd (omega (arith, lt))
  some_there (x ∷ xs) zero lt = (x, refl)
  some_there (x ∷ xs) (suc k) lt = some_there xs k (omega (arith, lt))

  -- the line at a place from the youngest
  module _ (xs : List ShownAct) (n at : ℕ) (long : n ≡ length xs) (lt : at < n) where
    abbrev left : ℕ
    left = length xs - (at + 1)

    before : length xs - at ≡ left + 1
    before = omega (arith, long, lt)

    position : n - at ≡ left + 1
    position = omega (arith, long, lt)

    place : n - at - 1 ≡ left
    place = omega (arith, long, lt)

    there : (x : ShownAct) × (slice_get xs left ≡ Some x)
    there = some_there xs left (omega (arith, long, lt))

    line_there : act_text core names bodies (n - at) (slice_get xs (n - at - 1)) ≡ act_text core names bodies (left + 1) (slice_get xs left)
    line_there = ap (λ j. act_text core names bodies j (slice_get xs (n - at - 1))) position ∙ ap (λ j. act_text core names bodies (left + 1) (slice_get xs j)) place

    pub took_next : (old mid now : Option (List ℕ)) → Took xs (length xs - at) old mid → Takes mid now (act_text core names bodies (n - at) (slice_get xs (n - at - 1))) → Took xs (length xs - (at + 1)) old now
    took_next old mid now t more =
        took_more xs left there.0 old mid now there.1 (subst (λ j. Took xs j old mid) before t) (subst (λ o. Takes mid now o) line_there more)

    pub front_next : (old mid now : Option (List ℕ)) → Took xs (length xs - at) old mid → TakesFront mid now (act_text core names bodies (n - at) (slice_get xs (n - at - 1))) → TakesFront old now (acts_text core names bodies (reverse xs))
    front_next old mid now t more =
        took_front xs left there.0 old mid now there.1 (subst (λ j. Took xs j old mid) before t) (subst (λ o. TakesFront mid now o) line_there more)

-- Frames.

seen_long : (d : ℕ → Descriptor) (memory : Words) (n sp : ℕ) (w : Window) (pc : ℕ) (held : List Window) → length (activations d memory n sp w pc held) ≡ n
unfolding activations
seen_long d memory zero sp w pc held = refl
seen_long d memory (suc n) sp w pc held = ap suc (seen_long d memory n (w 14) (frame_before memory (w 14) held) (w 15 + 8) (but_first held))

pub few_shown : (h : Host) → IsAtPoll h → length (stack_shown h) ≤ 4096
few_shown h p =
    let m = h.machine in
    let act : Frame → ShownAct = act_shown h.maps h.bodies (flushed_host h).machine.memory (seen h) in
    let long : length (stack_shown h) ≡ m.regs 4 = length-reverse (map act (seen h)) ∙ length-map (seen h) act ∙ seen_long (descriptor_at h) m.memory (m.regs 4) (m.regs 14) (kept m.regs) m.pc m.older in
    let few = few_frames h p in
    omega (arith, long, few)

-- The current activity is at a poll, where it goes on.
parked_at : (h : Host) (s : State) → Rests h s → CanPark h → GoesOn h → IsAtPoll h
parked_at h s r (AtPoll b n node runs) g = record { body = b; number = n; node = node; runs = runs; hosted = r.sound.hosted; all = r.sound.runs }
parked_at h s r (Idle parked) g = absurd (parked g.0 g.1 g.2 g.3)

pub at_poll : (h : Host) (s : State) → Rests h s → GoesOn h → IsAtPoll h
at_poll h s r g = parked_at h s r r.parks g

-- Once its frames are saved, machine and host rest for the same state.
pub rests_flushed : (h : Host) (s : State) → Rests h s → IsAtPoll h → Rests (flushed_host h) s
rests_flushed h s r p =
    let to = flushed_host h in
    let k = stays_at_poll h p in
    let f = r.sound.stands in
    let raw : raw_of to ≡ raw_of h = k.raw in
    let top : to.machine.regs 6 ≡ h.machine.regs 6 = ap (λ (x : Raw). x.heap.top) raw in
    let cost : h.cost + to.machine.regs 3 ≡ h.cost + h.machine.regs 3 = ap (λ (x : Raw). x.cost) raw in
    let left : word_at to.machine.memory 0x30000004 ≡ word_at h.machine.memory 0x30000004 = low_same h.machine.memory (flushed (stack_of h.machine)).memory 0x30000004 (flush_only (stack_of h.machine)) (omega arith) in
    let room = r.paid.room in
    let was_top = r.paid.top in
    let was_left = r.paid.left in record {
      sense = r.sense;
      sound = record {
        hosted = k.poll.hosted;
        runs = k.poll.all;
        current = r.sound.current;
        stands = record {
          stands = subst (λ (x : Raw). Stands r.sense x s) (sym raw) f.stands;
          core = subst (λ (x : Raw). HasCore x s r.sense) (sym raw) f.core;
          bodies = f.bodies;
          objects = f.objects;
          nil = f.nil;
          sums = f.sums;
        };
      };
      parks = AtPoll k.poll.body k.poll.number k.poll.node k.poll.runs;
      formed = r.formed;
      ready = record { fit = r.ready.fit; room = record { each = r.ready.room.each; left = r.ready.room.left; lobby = r.ready.room.lobby }; maps = record { few = r.ready.maps.few; bodies = r.ready.maps.bodies; contexts = r.ready.maps.contexts; blocks = r.ready.maps.blocks } };
      start = r.start;
      paid = record { room = room; top = omega (arith, top, cost, was_top); left = omega (arith, left, was_left) };
    }

-- What is shown is what the source shows.
pub shows_source : (h : Host) (s : State) (all : List Activation) → Rests h s → IsAtPoll h → slice_get s.activities s.current ≡ Some (Running all)
    → acts_text s.core s.names h.bodies (reverse (stack_shown h)) ≡ frame_lines s all all
shows_source h s all r p here =
    let f = r.sound.stands in
    ap (λ bs. acts_text s.core s.names bs (reverse (stack_shown h))) f.bodies
    ∙ ap (λ (xs : List ShownAct). acts_text s.core s.names s.bodies (reverse xs)) (stacks_show r.sense h s all p f.stands f.bodies r.formed here)
    ∙ sym (lines_show s all)

-- Lists of which all have a property.

module _ {A : Type 0} (P : A → Type 0) where
  each_there : (xs : List A) (k : ℕ) (x : A) → Each P xs → slice_get xs k ≡ Some x → P x
  each_there [] k x all e = absurd (cc)
  each_there (y ∷ xs) zero x all e = let same : y ≡ x = cc in subst P same all.0
  each_there (y ∷ xs) (suc k) x all e = each_there xs k x all.1 e

  each_both : (xs ys : List A) → Each P xs → Each P ys → Each P (xs ++ ys)
  each_both [] ys h k = k
  each_both (x ∷ xs) ys h k = (h.0, each_both xs ys h.1 k)

  each_turned : (xs : List A) → Each P xs → Each P (reverse xs)
  each_turned [] h = tt
  each_turned (x ∷ xs) h = subst (λ (l : List A). Each P l) (sym (reverse-append (x ∷ []) xs)) (each_both (reverse xs) (x ∷ []) (each_turned xs h.1) (h.0, tt))

-- Each activation has its body, whose names are short.

module _ (names : List (List ℕ)) (bodies : List Body) (short : AreShort names bodies) where
  -- of one that is shown
  abbrev IsNamed : ShownAct → Type 0
  IsNamed act = ActHasNames names bodies (Some act)

  named : (all : List Activation) (a : Activation) → HasBody bodies a.body → IsNamed (act_of all a)
  named all a has = (has.0, has.1, short a.body)

  callers_named : (home : ℕ → ℕ) (all older : List Activation) → AreCallers bodies home older → Each IsNamed (map (act_of all) older)
  callers_named home all [] are = tt
  callers_named home all (a ∷ older) are = (named all a are.0.given, callers_named home all older are.2)

  running_named : (home : ℕ → ℕ) (all acts : List Activation) → IsActivity bodies home (Running acts) → Each IsNamed (map (act_of all) acts)
  running_named home all [] is = absurd is
  running_named home all (a ∷ older) is = (named all a is.0.given, callers_named home all older is.2)

  named_at : (xs : List ShownAct) (k : ℕ) → Each IsNamed xs → k < length xs → ActHasNames names bodies (slice_get xs k)
  named_at [] k are lt = absurd (omega (arith, lt))
  named_at (x ∷ xs) zero are lt = are.0
  named_at (x ∷ xs) (suc k) are lt = named_at xs k are.1 (omega (arith, lt))

  pub all_named : (xs : List ShownAct) → Each IsNamed xs → AllNamed names bodies xs
  all_named xs are position given within = named_at xs (position - 1) are (omega (arith, given, within))

pub stack_named : (h : Host) (s : State) (all : List Activation) → Rests h s → IsAtPoll h → slice_get s.activities s.current ≡ Some (Running all) → AreShort s.names s.bodies → AllNamed s.names h.bodies (stack_shown h)
stack_named h s all r p here short =
    let f = r.sound.stands in
    let home = r.formed.0 in
    let is : IsActivity s.bodies home (Running all) = each_there (IsActivity s.bodies home) s.activities s.current (Running all) r.formed.1.well.activities here in
    let shown : AllNamed s.names s.bodies (shown_of all) = all_named s.names s.bodies short (shown_of all) (each_turned (λ act. ActHasNames s.names s.bodies (Some act)) (map (act_of all) all) (running_named s.names s.bodies short home all all is)) in
    subst (λ bs. AllNamed s.names bs (stack_shown h)) (sym f.bodies) (subst (λ (xs : List ShownAct). AllNamed s.names s.bodies xs) (sym (stacks_show r.sense h s all p f.stands f.bodies r.formed here)) shown)
