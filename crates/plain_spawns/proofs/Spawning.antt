-- A new activity whose activation has a context, over raw activations.
use Rattle.std.proofs.Common.{◌≡◌, ◌≢◌, inl, inr, refl, sym, ap, subst, ◌∙◌, ℕ, zero, suc, ◌+◌, ◌-◌, ◌*◌, ◌<◌, ◌≤◌, true, List, [], ◌∷◌, ◌++◌, length, set, arith, nat_eq}
use Rattle.std.specs.Prelude.{Option, Some, slice_get, Ok}
use Rattle.std.proofs.lemmas.Bool.{cond-true, cond-false, eq-eqb, ne_eqb}
use Rattle.std.proofs.lemmas.List.{length-append, length-map}
use Rattle.std.proofs.lemmas.Option.{slice_get_within}
use Rattle.self_terms.specs.declared.values.Value.{Value}
use Rattle.sparc_store.specs.Words.{Words, Framed}
use Rattle.source_model.specs.Script.{with_activity}
use Rattle.source_model.specs.Sends.{enters, entry_cost, entered}
use Rattle.source_model.specs.State.{Activation, Activity, Running, State, silent}
use Rattle.source_model.specs.Messages.{body_of, value_of}
use Rattle.heap_cells.specs.Laying.{Cells}
use Rattle.heap_cells.specs.Shapes.{Context, words_of}
use Rattle.heap_cells.specs.Source.{Owner, Live}
use Rattle.heap_cells.specs.Standing.{Places, AreValues, HasReceiver, Grows}
use Rattle.heap_cells.specs.Heaps.{IsHeap}
use Rattle.heap_cells.proofs.Cloned.{heap_on}
use Rattle.heap_cells.proofs.Growing.{value_grows, outer_grows}
use Rattle.heap_cells.proofs.Numbered.{got_left, got_last, push_cases}
use Rattle.heap_cells.proofs.Stepping.{after_new_context}
use Rattle.frame_walk.specs.Places.{Frame}
use Rattle.frame_walk.specs.Raw.{Thread, Going, Raw, IsFrame, IsFree}
use Rattle.raw_steps.specs.Fixed.{IsFixed}
use Rattle.raw_steps.specs.Meeting.{HasCore}
use Rattle.raw_steps.specs.Sends.{initials, Entry, RawEntry, IsEntry, context_frame, begins}
use Rattle.raw_steps.specs.Stands.{Sense, IsActivation, IsActivity, HasMaker, IsLive, Stands, makes_blocks, owner_of}
use Rattle.raw_steps.proofs.Entering.{enters_is, with_new}
use Rattle.raw_steps.proofs.Lasting.{core_stays}
use Rattle.raw_steps.proofs.Staying.{Stays, activity_stays}
use Rattle.raw_steps.proofs.Values.{lengths, values_append}
use Rattle.plain_begins.specs.Begins.{with_thread}
use Rattle.plain_begins.proofs.Spawning.{same_count}

-- one more activity, with more words of the heap
abbrev pub opened : Raw → Words → ℕ → Thread → Raw
opened r mem words t = record (with_thread r t) { mem = mem; heap = record r.heap { top = r.heap.top + 4 * words }; cost = r.cost + words }

-- the state with the new activity
abbrev begun_state : State → Activation → State
begun_state s new = entered new [] (record (with_activity s) { cost = s.cost + entry_cost (body_of s new.body) })

-- The entry begins an activity, which is a state; and the raw state with it stands for that.
pub record RawBegun (z : Sense) (r : Raw) (s : State) (e : Entry) (x : RawEntry) (mark : ℕ) (mem : Words) : Type 0 where
  pub state : State
  pub entered : enters (begins s e) [] (with_activity s) ≡ Ok (silent state)
  pub sense : Sense
  pub stands : Stands sense (opened r mem (4 + length (x.arguments ++ x.initial)) (Going (context_frame x (r.heap.top + 1) mark ∷ []))) state
  pub core : HasCore (opened r mem (4 + length (x.arguments ++ x.initial)) (Going (context_frame x (r.heap.top + 1) mark ∷ []))) state sense
  pub grows : Grows z.cells sense.cells z.places sense.places
  pub fixed : IsFixed s state

-- one more of each
one_more : (P : ℕ → Option Activity → Option Thread → Type 0) (xs : List Activity) (ts : List Thread) (x : Activity) (t : Thread) → length ts ≡ length xs
    → ((i : ℕ) → P i (slice_get xs i) (slice_get ts i)) → P (length xs) (Some x) (Some t) → (i : ℕ) → P i (slice_get (xs ++ x ∷ []) i) (slice_get (ts ++ t ∷ []) i)
one_more P [] [] x t long each last zero = last
one_more P [] [] x t long each last (suc i) = each (suc i)
one_more P (y ∷ ys) (u ∷ us) x t long each last zero = each 0
one_more P (y ∷ ys) (u ∷ us) x t long each last (suc i) = one_more (λ k. P (suc k)) ys us x t (omega (arith, long)) (λ k. each (suc k)) last i
one_more P [] (u ∷ us) x t long each last i = absurd (omega (arith, long))
one_more P (y ∷ ys) [] x t long each last i = absurd (omega (arith, long))

last_set : (xs : List Activity) (x y : Activity) → set (xs ++ x ∷ []) (length xs) y ≡ xs ++ y ∷ []
last_set [] x y = refl
last_set (z ∷ xs) x y = ap (λ ys. z ∷ ys) (last_set xs x y)

last_there : (ts : List Thread) (t : Thread) → slice_get (ts ++ t ∷ []) (length ts) ≡ Some t
last_there ts t = got_last ts t

module _ (z : Sense) (r : Raw) (s : State) (S : Stands z r s) (core : HasCore r s z) (e : Entry) (x : RawEntry) (mark : ℕ) (is : IsEntry s z e x) (maker : HasMaker [] e.maker) (some : makes_blocks s e.body ≡ true) (free : IsFree r.threads mark) (positive : mark ≢ 0)
    (number : ℕ) (mem : Words) (count : length e.arguments ≡ length (body_of s e.body).arguments) (framed : Framed r.mem mem r.heap.top (words_of (Context number x.outer mark x.receiver (x.arguments ++ x.initial))))
    (room : r.heap.top + 4 * (4 + length (x.arguments ++ x.initial)) ≤ 0x20000000 + 46137344) (mapped : number < length r.maps) (paid : r.cost + (4 + length (x.arguments ++ x.initial)) ≤ 4194304) where
  abbrev new : Activation
  new = begins s e

  abbrev its : Owner
  its = owner_of new mark

  abbrev ls : List ℕ
  ls = x.arguments ++ x.initial

  abbrev vs : List Value
  vs = e.arguments ++ initials s e.body

  are : AreValues z.cells z.places vs ls
  are = values_append z.cells z.places e.arguments x.arguments (initials s e.body) x.initial is.arguments is.initial

  abbrev place : Places
  place = record z.places { contexts = z.places.contexts ++ (r.heap.top + 1) ∷ [] }

  abbrev frame : Frame
  frame = context_frame x (r.heap.top + 1) mark

  abbrev thread : Thread
  thread = Going (frame ∷ [])

  abbrev threads_after : List Thread
  threads_after = r.threads ++ thread ∷ []

  with_cost : r.cost + (4 + length ls) ≡ s.cost + entry_cost (body_of s e.body)
  with_cost =
      let long : length ls ≡ length (body_of s e.body).arguments + length (body_of s e.body).locals =
      lengths z.cells z.places vs ls are ∙ length-append e.arguments (initials s e.body) ∙ ap (λ n. n + length (initials s e.body)) count
      ∙ ap (λ n. length (body_of s e.body).arguments + n) (length-map (body_of s e.body).locals (λ y. value_of s.core y.initial)) in
      (let k = S.cost in let same : r.cost + (4 + length ls) ≡ s.cost + (4 + length (body_of s e.body).arguments + length (body_of s e.body).locals) = omega arith in same)
      ∙ ap (λ n. s.cost + n) (sym (cond-true (makes_blocks s e.body) (4 + length (body_of s e.body).arguments + length (body_of s e.body).locals) 0 some))

  module _ (cells : Cells) (is_heap : IsHeap r.maps mem (record r.heap { top = r.heap.top + 4 * (4 + length ls) }) cells place s.things (z.made ++ Live its ∷ [])) (grows : Grows z.cells cells z.places place) where
    abbrev to : Sense
    to = with_new z cells place (Live its) mark s.unused (length s.activities, 0)

    old_stays : (k n : ℕ) (b : Activation) (y : Frame) → IsFrame r.threads y → IsActivation (makes_blocks s) z k n b y → Stays z to b y
    old_stays k n b y of is_b =
        let below = slice_get_within z.made b.number is_b.kind is_b.made in
        let unused = S.unused in
        record {
          made = got_left z.made (Live its ∷ []) b.number is_b.kind is_b.made ∙ sym is_b.made;
          owner = cond-false (nat_eq y.mark mark) s.unused (z.owner y.mark) (ne_eqb y.mark mark (free y of));
          seat = cond-false (nat_eq b.number s.unused) (length s.activities, 0) (z.seat b.number) (ne_eqb b.number s.unused (λ e. (let bad : ⊥ = omega arith in bad)));
        }

    contexts_all : length z.places.contexts ≡ s.unused
    contexts_all = S.heap.means.contexts_all ∙ S.unused

    own_there : slice_get place.contexts (length z.made) ≡ Some (r.heap.top + 1)
    own_there = ap (slice_get place.contexts) (sym S.heap.means.contexts_all) ∙ got_last z.places.contexts (r.heap.top + 1)

    receives : HasReceiver cells (r.heap.top + 1 - 1) x.receiver
    receives =
        let c = is_heap.means.context (length z.made) (r.heap.top + 1) (Live its) own_there (got_last z.made (Live its)) in
        let there : cells r.heap.top ≡ Some (Context c.map c.outer mark c.receiver c.locals) = ap cells (let same : r.heap.top ≡ r.heap.top + 1 - 1 = omega arith in same) ∙ c.there.1 in
        record {
          cell = Context c.map c.outer mark c.receiver c.locals;
          there = c.there.1;
          is = sym (is_heap.laid.held r.heap.top (Context c.map c.outer mark c.receiver c.locals) there 3 (omega arith)) ∙ framed.put 3 (omega arith);
        }

    new_is : IsActivation (makes_blocks s) to (length s.activities) 0 new frame
    new_is =
        record {
          body = is.body;
          next = refl;
          receiver = value_grows z.cells cells z.places place grows e.receiver x.receiver is.receiver;
          holder = is.holder;
          outer = outer_grows z.cells cells z.places place grows e.maker x.outer is.outer;
          pending = tt;
          kind = Live its;
          made = ap (slice_get (z.made ++ Live its ∷ [])) (sym S.unused) ∙ got_last z.made (Live its);
          context = ap (slice_get (z.places.contexts ++ (r.heap.top + 1) ∷ [])) (sym contexts_all) ∙ got_last z.places.contexts (r.heap.top + 1);
          locals = (refl, receives);
          wanted = some;
          named = cond-true (nat_eq mark mark) s.unused (z.owner mark) (eq-eqb mark mark refl);
          seated = cond-true (nat_eq s.unused s.unused) (length s.activities, 0) (z.seat s.unused) (eq-eqb s.unused s.unused refl);
        }

    abbrev Agree : ℕ → Option Activity → Option Thread → Type 0
    Agree i y t = IsActivity (makes_blocks s) to i y t

    old_agree : (i : ℕ) → Agree i (slice_get s.activities i) (slice_get r.threads i)
    old_agree i =
        activity_stays z to grows (makes_blocks s) i (λ n. Unit {0}) (λ f. IsFrame r.threads f) (λ n a f p q is_a. old_stays i n a f q is_a)
        (slice_get s.activities i) (slice_get r.threads i) (λ n. tt) (λ frames j f going at. record { activity = i; frames = frames; height = j; going = going; there = at }) (S.activity i)

    all_agree : (i : ℕ) → Agree i (slice_get (s.activities ++ Running (new ∷ []) ∷ []) i) (slice_get threads_after i)
    all_agree = one_more Agree s.activities r.threads (Running (new ∷ [])) thread (same_count z r s S) old_agree (new_is, maker, tt)

    alive : (k : ℕ) (o : Owner) → slice_get (z.made ++ Live its ∷ []) k ≡ Some (Live o) → IsLive threads_after to.owner k o.mark
    alive k o was = elim (push_cases z.made k (Live o) (Live its) was) [
      | inl before ↦
          let l = S.live k o before in
          record {
            frame = l.frame;
            is_frame = record {
              activity = l.is_frame.activity;
              frames = l.is_frame.frames;
              height = l.is_frame.height;
              going = got_left r.threads (thread ∷ []) l.is_frame.activity (Going l.is_frame.frames) l.is_frame.going;
              there = l.is_frame.there;
            };
            marked = l.marked;
            named = cond-false (nat_eq o.mark mark) s.unused (z.owner o.mark) (ne_eqb o.mark mark (λ q. free l.frame l.is_frame (l.marked ∙ q))) ∙ l.named;
            positive = l.positive;
          }
      | inr last ↦
          let both : Live o ≡ Live its = last.1 in
          let own : o ≡ its = cc in
          let same : o.mark ≡ mark = ap (λ (q : Owner). q.mark) own in
          record {
            frame = frame;
            is_frame = record { activity = length r.threads; frames = frame ∷ []; height = 0; going = last_there r.threads thread; there = refl };
            marked = sym same;
            named = cond-true (nat_eq o.mark mark) s.unused (z.owner o.mark) (eq-eqb o.mark mark same) ∙ sym S.unused ∙ sym last.0;
            positive = λ q. positive (sym same ∙ q);
          }
    ]

    stands_then : Stands to (opened r mem (4 + length ls) thread) (begun_state s new)
    stands_then =
        let P : List Activity → Type 0 = λ ys. (i : ℕ) → Agree i (slice_get ys i) (slice_get threads_after i) in
        record {
          heap = is_heap;
          unused = length-append z.made (Live its ∷ []) ∙ ap (λ n. n + 1) S.unused;
          activity = subst P (sym (last_set s.activities (Running []) (Running (new ∷ [])))) all_agree;
          live = alive;
          current = same_count z r s S;
          steps = S.steps;
          cost = with_cost;
          within = omega (arith, with_cost, paid);
        }

    begun : RawBegun z r s e x mark mem
    begun =
        record {
          state = begun_state s new;
          entered = enters_is new [] (with_activity s) (omega arith) (omega (arith, with_cost, paid));
          sense = to;
          stands = stands_then;
          core = core_stays z to r (opened r mem (4 + length ls) thread) s (begun_state s new) core grows refl (record { names = refl; core = refl; fixed = refl; bodies = refl });
          grows = grows;
          fixed = record { names = refl; core = refl; fixed = refl; bodies = refl };
        }

  pub raw_begins : RawBegun z r s e x mark mem
  raw_begins =
      let under = heap_on r.maps r.mem mem r.heap z.cells z.places s.things z.made S.heap (λ b above below. framed.others b (inl below)) in
      let after = after_new_context r.maps mem r.heap z.cells z.places s.things z.made under number x.outer x.receiver ls its framed.put room mapped is.outer is.receiver are in
      begun after.cells after.is after.grows
