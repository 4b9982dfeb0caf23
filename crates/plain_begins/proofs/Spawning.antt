-- A new activity, over raw activations.
use Rattle.std.proofs.Common.{◌≡◌, ◌≢◌, inl, inr, refl, sym, ap, subst, ◌∙◌, ℕ, zero, suc, ◌+◌, Bool, false, List, [], ◌∷◌, ◌++◌, length, set, arith, nat_eq}
use Rattle.std.specs.Prelude.{Option, Some, None, slice_get, Ok}
use Rattle.std.proofs.lemmas.Bool.{cond-true, cond-false, eq-eqb, ne_eqb}
use Rattle.std.proofs.lemmas.List.{length-append}
use Rattle.std.proofs.lemmas.Option.{slice_get_within}
use Rattle.source_model.specs.Script.{with_activity}
use Rattle.source_model.specs.Sends.{entry_cost, entered}
use Rattle.source_model.specs.State.{Activation, Activity, Running, Answered as Ended_with, Failed as Ended_by, State, silent}
use Rattle.source_model.specs.Messages.{body_of}
use Rattle.heap_cells.specs.Laying.{Cells}
use Rattle.heap_cells.specs.Source.{Owner, Plain as without, Live}
use Rattle.heap_cells.specs.Standing.{Places, Grows}
use Rattle.heap_cells.specs.Heaps.{IsHeap}
use Rattle.heap_cells.proofs.Growing.{value_grows, values_grow, outer_grows}
use Rattle.heap_cells.proofs.Numbered.{got_left, got_last, push_cases}
use Rattle.heap_cells.proofs.Stepping.{after_plain_entry}
use Rattle.frame_walk.specs.Places.{Frame}
use Rattle.frame_walk.specs.Raw.{Thread, Going, Answered, Failed, Raw, IsFrame, IsFree}
use Rattle.raw_steps.specs.Meeting.{HasCore}
use Rattle.raw_steps.specs.Sends.{initials, Entry, RawEntry, IsEntry, plain_frame, begins}
use Rattle.raw_steps.specs.Stands.{Sense, IsActivation, IsActivity, HasMaker, IsLive, Stands, makes_blocks}
use Rattle.raw_steps.proofs.Entering.{enters_is, with_new}
use Rattle.raw_steps.proofs.Lasting.{core_stays}
use Rattle.raw_steps.proofs.Staying.{Stays, activity_stays}
use Rattle.raw_steps.proofs.Values.{values_append}
use Rattle.plain_begins.specs.Begins.{with_thread, RawBegun, RawBegins}

-- Activities and threads agree in number.

abbrev Both : Option Activity → Option Thread → Type 0
Both None None = Unit {0}
Both (Some x) (Some t) = Unit {0}
Both _ _ = ⊥

both_there : (wants : ℕ → Bool) (z : Sense) (at : ℕ) (x : Option Activity) (t : Option Thread) → IsActivity wants z at x t → Both x t
both_there wants z at None None is = tt
both_there wants z at (Some (Running all)) (Some (Going frames)) is = tt
both_there wants z at (Some (Ended_with v)) (Some (Answered w)) is = tt
both_there wants z at (Some (Ended_by e p)) (Some (Failed x q)) is = tt
both_there wants z at _ _ is = absurd is

pub as_many : (xs : List Activity) (ts : List Thread) → ((i : ℕ) → Both (slice_get xs i) (slice_get ts i)) → length ts ≡ length xs
as_many [] [] each = refl
as_many (x ∷ xs) (t ∷ ts) each = ap suc (as_many xs ts (λ i. each (suc i)))
as_many [] (t ∷ ts) each = absurd (each 0)
as_many (x ∷ xs) [] each = absurd (each 0)

pub same_count : (z : Sense) (r : Raw) (s : State) → Stands z r s → length r.threads ≡ length s.activities
same_count z r s S = as_many s.activities r.threads (λ i. both_there (makes_blocks s) z i (slice_get s.activities i) (slice_get r.threads i) (S.activity i))

-- one more of each
one_more : (P : ℕ → Option Activity → Option Thread → Type 0) (xs : List Activity) (ts : List Thread) (x : Activity) (t : Thread) → length ts ≡ length xs
    → ((i : ℕ) → P i (slice_get xs i) (slice_get ts i)) → P (length xs) (Some x) (Some t) → (i : ℕ) → P i (slice_get (xs ++ x ∷ []) i) (slice_get (ts ++ t ∷ []) i)
one_more P [] [] x t long each last zero = last
one_more P [] [] x t long each last (suc i) = each (suc i)
one_more P (y ∷ ys) (u ∷ us) x t long each last zero = each 0
one_more P (y ∷ ys) (u ∷ us) x t long each last (suc i) = one_more (λ k. P (suc k)) ys us x t (omega (arith, long)) (λ k. each (suc k)) last i
one_more P [] (u ∷ us) x t long each last i = absurd (omega (arith, long))
one_more P (y ∷ ys) [] x t long each last i = absurd (omega (arith, long))

last_set : (xs : List Activity) (x y : Activity) → set (xs ++ x ∷ []) (length xs) y ≡ xs ++ y ∷ []
last_set [] x y = refl
last_set (z ∷ xs) x y = ap (λ ys. z ∷ ys) (last_set xs x y)

-- the state with the new activity
abbrev begun_state : State → Activation → State
begun_state s new = entered new [] (with_activity s)

module _ (z : Sense) (r : Raw) (s : State) (S : Stands z r s) (e : Entry) (x : RawEntry) (mark : ℕ) (is : IsEntry s z e x) (maker : HasMaker [] e.maker) (none : makes_blocks s e.body ≡ false) (free : IsFree r.threads mark) (positive : mark ≢ 0)
    (cells : Cells) (is_heap : IsHeap r.maps r.mem r.heap cells (record z.places { contexts = z.places.contexts ++ 0 ∷ [] }) s.things (z.made ++ without ∷ [])) (grows : Grows z.cells cells z.places (record z.places { contexts = z.places.contexts ++ 0 ∷ [] })) where
  abbrev new : Activation
  new = begins s e

  abbrev place : Places
  place = record z.places { contexts = z.places.contexts ++ 0 ∷ [] }

  abbrev frame : Frame
  frame = plain_frame x mark

  abbrev to : Sense
  to = with_new z cells place without mark s.unused (length s.activities, 0)

  abbrev threads_after : List Thread
  threads_after = r.threads ++ Going (frame ∷ []) ∷ []

  no_cost : s.cost + entry_cost (body_of s e.body) ≡ s.cost
  no_cost = ap (λ n. s.cost + n) (cond-false (makes_blocks s e.body) (4 + length (body_of s e.body).arguments + length (body_of s e.body).locals) 0 none) ∙ omega arith

  old_stays : (k n : ℕ) (b : Activation) (y : Frame) → IsFrame r.threads y → IsActivation (makes_blocks s) z k n b y → Stays z to b y
  old_stays k n b y of is_b =
      let below = slice_get_within z.made b.number is_b.kind is_b.made in
      let count = S.unused in
      record {
        made = got_left z.made (without ∷ []) b.number is_b.kind is_b.made ∙ sym is_b.made;
        owner = cond-false (nat_eq y.mark mark) s.unused (z.owner y.mark) (ne_eqb y.mark mark (free y of));
        seat = cond-false (nat_eq b.number s.unused) (length s.activities, 0) (z.seat b.number) (ne_eqb b.number s.unused (λ e. (let bad : ⊥ = omega arith in bad)));
      }

  contexts_all : length z.places.contexts ≡ s.unused
  contexts_all = S.heap.means.contexts_all ∙ S.unused

  new_is : IsActivation (makes_blocks s) to (length s.activities) 0 new frame
  new_is =
      record {
        body = is.body;
        next = refl;
        receiver = value_grows z.cells cells z.places place grows e.receiver x.receiver is.receiver;
        holder = is.holder;
        outer = outer_grows z.cells cells z.places place grows e.maker x.outer is.outer;
        pending = tt;
        kind = without;
        made = ap (slice_get (z.made ++ without ∷ [])) (sym S.unused) ∙ got_last z.made without;
        context = ap (slice_get (z.places.contexts ++ 0 ∷ [])) (sym contexts_all) ∙ got_last z.places.contexts 0;
        locals = values_grow z.cells cells z.places place grows (e.arguments ++ initials s e.body) (x.arguments ++ x.initial) (values_append z.cells z.places e.arguments x.arguments (initials s e.body) x.initial is.arguments is.initial);
        wanted = none;
        named = cond-true (nat_eq mark mark) s.unused (z.owner mark) (eq-eqb mark mark refl);
        seated = cond-true (nat_eq s.unused s.unused) (length s.activities, 0) (z.seat s.unused) (eq-eqb s.unused s.unused refl);
      }

  abbrev Agree : ℕ → Option Activity → Option Thread → Type 0
  Agree i y t = IsActivity (makes_blocks s) to i y t

  old_agree : (i : ℕ) → Agree i (slice_get s.activities i) (slice_get r.threads i)
  old_agree i =
      activity_stays z to grows (makes_blocks s) i (λ n. Unit {0}) (λ f. IsFrame r.threads f) (λ n a f p q is_a. old_stays i n a f q is_a)
      (slice_get s.activities i) (slice_get r.threads i) (λ n. tt) (λ frames j f going at. record { activity = i; frames = frames; height = j; going = going; there = at }) (S.activity i)

  all_agree : (i : ℕ) → Agree i (slice_get (s.activities ++ Running (new ∷ []) ∷ []) i) (slice_get threads_after i)
  all_agree = one_more Agree s.activities r.threads (Running (new ∷ [])) (Going (frame ∷ [])) (same_count z r s S) old_agree (new_is, maker, tt)

  alive : (k : ℕ) (o : Owner) → slice_get (z.made ++ without ∷ []) k ≡ Some (Live o) → IsLive threads_after to.owner k o.mark
  alive k o was = elim (push_cases z.made k (Live o) without was) [
    | inl before ↦
        let l = S.live k o before in
        record {
          frame = l.frame;
          is_frame = record {
            activity = l.is_frame.activity;
            frames = l.is_frame.frames;
            height = l.is_frame.height;
            going = got_left r.threads (Going (frame ∷ []) ∷ []) l.is_frame.activity (Going l.is_frame.frames) l.is_frame.going;
            there = l.is_frame.there;
          };
          marked = l.marked;
          named = cond-false (nat_eq o.mark mark) s.unused (z.owner o.mark) (ne_eqb o.mark mark (λ q. free l.frame l.is_frame (l.marked ∙ q))) ∙ l.named;
          positive = l.positive;
        }
    | inr last ↦ absurd (let bad : Live o ≡ without = last.1 in cc)
  ]

  stands_then : Stands to (with_thread r (Going (frame ∷ []))) (begun_state s new)
  stands_then =
      let P : List Activity → Type 0 = λ ys. (i : ℕ) → Agree i (slice_get ys i) (slice_get threads_after i) in
      record {
        heap = is_heap;
        unused = length-append z.made (without ∷ []) ∙ ap (λ n. n + 1) S.unused;
        activity = subst P (sym (last_set s.activities (Running []) (Running (new ∷ [])))) all_agree;
        live = alive;
        current = same_count z r s S;
        steps = S.steps;
        cost = S.cost;
        within = S.within;
      }

  begun : HasCore r s z → RawBegun z r s e x mark
  begun core =
      record {
        state = begun_state s new;
        entered =
            enters_is new [] (with_activity s) (omega arith) (omega (arith, no_cost, S.within))
            ∙ ap (λ (c : ℕ). Ok (silent (entered new [] (record (with_activity s) { cost = c })))) no_cost;
        sense = to;
        stands = stands_then;
        core = core_stays z to r (with_thread r (Going (frame ∷ []))) s (begun_state s new) core grows refl (record { names = refl; core = refl; fixed = refl; bodies = refl });
        grows = grows;
        fixed = record { names = refl; core = refl; fixed = refl; bodies = refl };
      }

pub raw_begins : RawBegins
raw_begins z r s S core e x mark is maker none free positive =
    let after = after_plain_entry r.maps r.mem r.heap z.cells z.places s.things z.made S.heap in
    begun z r s S e x mark is maker none free positive after.cells after.is after.grows core
