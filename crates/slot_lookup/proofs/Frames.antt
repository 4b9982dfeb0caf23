-- The stack of a walk as frames, and the work that is left.
use Rattle.std.proofs.Common.{◌≡◌, ℕ, suc, ◌+◌, ◌-◌, ◌<◌, ◌≤◌, Bool, true, false, ◌*◌, cond, not, eqb, List, [], ◌∷◌, ◌++◌, inl, inr, refl, sym, ap, ◌∙◌, length, get_or, set, drop, map, reverse, arith, length-append}
use Rattle.std.proofs.lemmas.List.{reverse-append, append-nil, length-reverse, length-map}
use Rattle.std.proofs.lemmas.List.Sums.{sum_by_push, sum_by-set}
use Rattle.std.proofs.lemmas.Bool.{true≢false}
use Rattle.std.specs.List.{IsDistinct}
use Rattle.std.proofs.Math.ListN.{length-set}
use Rattle.std.specs.Prelude.{sum_by, count_by, flat_map, fold, Option, Some, None}
use Rattle.object_maps.specs.Slots.{Slots, parents_in}
use Rattle.object_maps.specs.Layout.{number_at}
use Rattle.object_maps.specs.Sound.{IsSound, IsValue}
use Rattle.sparc_store.specs.Words.{Words}
use Rattle.source_model.specs.Lookup.{holders, also, found_of, Among, Found, NotUnderstood, Ambiguous}
use Rattle.slot_lookup.specs.Lookup.{has_at, parents_at, slots_of}
use Rattle.slot_lookup.specs.Walk.{base_of, from_parents}
use Rattle.slot_lookup.proofs.Holds.{Among-left, Among-right, is_in}
use Rattle.slot_lookup.proofs.Going.{Frame, Going, frame_done, seen_again, first_met, second_met, go_down, few, none_distinct, distinct_more}
use Rattle.slot_lookup.proofs.Marks.{Marked, marked_push, marked_start, turned, turned-push, length-turned, is_value}

abbrev pub frame_of : List Slots → Words → ℕ × ℕ → Frame
frame_of maps mem f = (f.0, parents_in (drop f.1 (slots_of maps mem f.0)))

-- the top comes first
abbrev pub frames_of : List Slots → Words → List (ℕ × ℕ) → List Frame
frames_of maps mem stack = map (frame_of maps mem) (reverse stack)

frames_push : (maps : List Slots) (mem : Words) (stack : List (ℕ × ℕ)) (f : ℕ × ℕ) → frames_of maps mem (stack ++ f ∷ []) ≡ frame_of maps mem f ∷ frames_of maps mem stack
frames_push maps mem stack f = ap (map (frame_of maps mem)) (reverse-append stack (f ∷ []))

frames_length : (maps : List Slots) (mem : Words) (stack : List (ℕ × ℕ)) → length (frames_of maps mem stack) ≡ length stack
frames_length maps mem stack = simp (length-map, length-reverse)

-- each frame is that of a value
abbrev pub AreValues : List Slots → Words → List (ℕ × ℕ) → Type 0
AreValues maps mem [] = Unit {0}
AreValues maps mem (f ∷ stack) = IsValue maps mem f.0 × AreValues maps mem stack

values_push : (maps : List Slots) (mem : Words) (stack : List (ℕ × ℕ)) (f : ℕ × ℕ) → AreValues maps mem stack → IsValue maps mem f.0 → AreValues maps mem (stack ++ f ∷ [])
values_push maps mem [] f h v = (v, tt)
values_push maps mem (g ∷ stack) f h v = (h.0, values_push maps mem stack f h.1 v)

values_top : (maps : List Slots) (mem : Words) (stack : List (ℕ × ℕ)) (f : ℕ × ℕ) → AreValues maps mem (stack ++ f ∷ []) → AreValues maps mem stack × IsValue maps mem f.0
values_top maps mem [] f h = (tt, h.0)
values_top maps mem (g ∷ stack) f h = let r = values_top maps mem stack f h.1 in ((h.0, r.0), r.1)

no_word : (h : ℕ) → ◌≡◌ {A = Option ℕ} None (Some h) → ⊥
no_word h e = cc

same_some : (a b : ℕ) → ◌≡◌ {A = Option ℕ} (Some a) (Some b) → a ≡ b
same_some a b e = cc

base_distinct : (word : Option ℕ) → IsDistinct eqb (base_of word)
base_distinct None = none_distinct
base_distinct (Some w) = distinct_more w [] refl none_distinct

module _ (maps : List Slots) (mem : Words) (objects : List ℕ) (sound : IsSound maps mem objects) (name start : ℕ) (skip : Option ℕ) (levels : ℕ) where
  abbrev pub all : List ℕ
  all = base_of skip ++ objects

  abbrev pub whole : Found
  whole = from_parents maps mem levels start skip name

  abbrev pub Goes : List ℕ → List Frame → Option ℕ → Type 0
  Goes seen frames first = Going (has_at maps mem name) (parents_at maps mem) (base_of skip) levels all whole seen frames first

  pub record Walking (marks : List Bool) (stack : List (ℕ × ℕ)) (trail : List ℕ) (first : Option ℕ) : Type 0 where
    pub going : Goes (turned trail (base_of skip)) (frames_of maps mem stack) first
    pub marked : Marked maps mem objects sound marks trail
    pub values : AreValues maps mem stack
    pub found : (h : ℕ) → first ≡ Some h → Among h objects
    pub wide : length marks ≡ levels

  module _ (marks : List Bool) (stack : List (ℕ × ℕ)) (trail : List ℕ) (first : Option ℕ) (w : Walking marks stack trail first) where
    -- no more frames than there is room for
    pub stack_fits : length stack ≤ suc levels
    stack_fits =
        let l = frames_length maps mem stack in
        let k = few all (turned trail (base_of skip)) w.going.apart w.going.inside in
        omega (arith, l, k, w.going.deep)

    pub trail_fits : length trail ≤ levels
    trail_fits =
        let k = few all (turned trail (base_of skip)) w.going.apart w.going.inside in
        let l = length-turned trail (base_of skip) in
        let m = length-append (base_of skip) objects in
        omega (arith, k, l, m, w.marked.size, w.wide)

  module _ (marks : List Bool) (stack below : List (ℕ × ℕ)) (trail : List ℕ) (first : Option ℕ) (x place : ℕ)
      (w : Walking marks stack trail first) (popped : stack ≡ below ++ (x, place) ∷ []) where
    opened : (ps : List ℕ) → parents_in (drop place (slots_of maps mem x)) ≡ ps → Goes (turned trail (base_of skip)) ((x, ps) ∷ frames_of maps mem below) first
    opened ps e = rw (popped, frames_push maps mem below (x, place), e) at w.going

    tops : AreValues maps mem below × IsValue maps mem x
    tops = values_top maps mem below (x, place) (rw popped at w.values)

    pub value_there : IsValue maps mem x
    value_there = tops.1

    pub done_step : parents_in (drop place (slots_of maps mem x)) ≡ [] → Walking marks below trail first
    done_step e = record {
      going = frame_done (has_at maps mem name) (parents_at maps mem) (base_of skip) levels all whole (turned trail (base_of skip)) x 0 [] (frames_of maps mem below) first (opened [] e);
      marked = w.marked;
      values = tops.0;
      found = w.found;
      wide = w.wide;
    }

    module _ (after : List (ℕ × ℕ)) (pushed : after ≡ below ++ (x, place + 1) ∷ []) where
      shut : (seen : List ℕ) (first' : Option ℕ)
          → Goes seen ((x, parents_in (drop (place + 1) (slots_of maps mem x))) ∷ frames_of maps mem below) first' → Goes seen (frames_of maps mem after) first'
      shut seen first' g = rw (pushed, frames_push maps mem below (x, place + 1)) g

      values_after : AreValues maps mem after
      values_after = rw pushed (values_push maps mem below (x, place + 1) tops.0 tops.1)

      pub other_step : parents_in (drop place (slots_of maps mem x)) ≡ parents_in (drop (place + 1) (slots_of maps mem x)) → Walking marks after trail first
      other_step e = record {
        going = shut (turned trail (base_of skip)) first (opened _ e);
        marked = w.marked;
        values = values_after;
        found = w.found;
        wide = w.wide;
      }

      module _ (p : ℕ) (next : parents_in (drop place (slots_of maps mem x)) ≡ p ∷ parents_in (drop (place + 1) (slots_of maps mem x))) where
        pub again_step : Among p (turned trail (base_of skip)) → Walking marks after trail first
        again_step s = record {
          going = shut (turned trail (base_of skip)) first (seen_again (has_at maps mem name) (parents_at maps mem) (base_of skip) levels all whole (turned trail (base_of skip)) x p _ (frames_of maps mem below) first (opened _ next) s);
          marked = w.marked;
          values = values_after;
          found = w.found;
          wide = w.wide;
        }

        module _ (here : Among p objects) (new : is_in (turned trail (base_of skip)) p ≡ false) where
          in_all : Among p all
          in_all = Among-right p (base_of skip) objects here

          pub first_step : has_at maps mem name p ≡ true → first ≡ None → Walking (set marks (number_at mem p) true) after (trail ++ p ∷ []) (Some p)
          first_step holds none = record {
            going = rw turned-push (shut (p ∷ turned trail (base_of skip)) (Some p) (first_met (has_at maps mem name) (parents_at maps mem) (base_of skip) levels all whole (turned trail (base_of skip)) x p _ (frames_of maps mem below) first (opened _ next) in_all new holds none));
            marked = marked_push maps mem objects sound marks trail p here w.marked;
            values = values_after;
            found = λ h e. rw (sym (same_some p h e)) here;
            wide = simp length-set w.wide;
          }

          pub second_step : has_at maps mem name p ≡ true → (h : ℕ) → first ≡ Some h → whole ≡ Ambiguous h p
          second_step holds h e = second_met (has_at maps mem name) (parents_at maps mem) (base_of skip) levels all whole (turned trail (base_of skip)) x p _ (frames_of maps mem below) first (opened _ next) in_all new holds h e

          pub down_step : (deeper : List (ℕ × ℕ)) → deeper ≡ after ++ (p, 0) ∷ [] → has_at maps mem name p ≡ false → Walking (set marks (number_at mem p) true) deeper (trail ++ p ∷ []) first
          down_step deeper d bare = record {
            going = rw (d, frames_push maps mem after (p, 0), pushed, frames_push maps mem below (x, place + 1), turned-push)
                (go_down (has_at maps mem name) (parents_at maps mem) (base_of skip) levels all whole (turned trail (base_of skip)) x p _ (frames_of maps mem below) first (opened _ next) in_all new bare);
            marked = marked_push maps mem objects sound marks trail p here w.marked;
            values = rw d (values_push maps mem after (p, 0) values_after (is_value maps mem objects sound p here));
            found = w.found;
            wide = simp length-set w.wide;
          }

  base_case : (word : Option ℕ) → ((w : ℕ) → word ≡ Some w → (w ≡ start) × (has_at maps mem name w ≡ false)) → (y : ℕ) → Among y (base_of word) → (y ≡ start) × (has_at maps mem name y ≡ false)
  base_case None h y a = absurd a
  base_case (Some w) h y (inl e) = rw e (h w refl)
  base_case (Some w) h y (inr a) = absurd a

  begun : (parents : List ℕ) → fold also NotUnderstood (flat_map (λ p. holders (has_at maps mem name) (parents_at maps mem) (levels - 0) p (base_of skip)) parents ++ [])
      ≡ found_of (flat_map (λ p. holders (has_at maps mem name) (parents_at maps mem) levels p (base_of skip)) parents)
  begun parents =
      let n : levels - 0 ≡ levels = omega arith in
      ap (fold also NotUnderstood) (append-nil (flat_map (λ p. holders (has_at maps mem name) (parents_at maps mem) (levels - 0) p (base_of skip)) parents)
      ∙ ap (λ k. flat_map (λ p. holders (has_at maps mem name) (parents_at maps mem) k p (base_of skip)) parents) n)

  pub start_walk : (marks : List Bool) (stack : List (ℕ × ℕ)) (trail : List ℕ) → ((n : ℕ) → get_or marks n false ≡ false) → length objects ≤ levels → length marks ≡ levels
      → IsValue maps mem start → ((word : ℕ) → skip ≡ Some word → (word ≡ start) × (has_at maps mem name word ≡ false))
      → stack ≡ (start, 0) ∷ [] → trail ≡ [] → Walking marks stack trail None
  start_walk marks stack trail fresh room wide value skipped s t = rw (s, t) (record {
    going = record {
      answer = begun (parents_at maps mem start);
      grey = λ y a. (a, (base_case skip skipped y a).1);
      closed = λ y q sy hy a. inr (inl (sy, rw (base_case skip skipped y sy).0 at a));
      met = λ h a hh. absurd (true≢false (sym hh ∙ (base_case skip skipped h a).1));
      only = λ h e. absurd (no_word h e);
      deep = let m = length-append (base_of skip) objects in omega (arith, m);
      apart = base_distinct skip;
      inside = λ y a. Among-left y (base_of skip) objects a;
    };
    marked = marked_start maps mem objects sound marks fresh (omega arith);
    values = (value, tt);
    found = λ h e. absurd (no_word h e);
    wide = wide;
  })

-- the work that is left: each object without a mark, each frame by its place
abbrev pub frame_work : ℕ × ℕ → ℕ
frame_work f = 500000001 - f.1 + 1

abbrev pub work : List Bool → List (ℕ × ℕ) → ℕ
work marks stack = count_by not marks * 500000003 + sum_by frame_work stack

unmarked_count : (marks : List Bool) (n : ℕ) → n < length marks → get_or marks n false ≡ false → count_by not (set marks n true) + 1 ≡ count_by not marks
unmarked_count marks n lt e =
    let f : Bool → ℕ = λ x. cond (not x) 1 0 in
    let s = sum_by-set f marks n true false lt in
    let t = rw e at s in
    omega arith

module _ (marks : List Bool) (stack below : List (ℕ × ℕ)) (x place : ℕ) (popped : stack ≡ below ++ (x, place) ∷ []) where
  pub work_done : work marks below < work marks stack
  work_done = rw popped (omega (arith, sum_by_push frame_work below (x, place)))

  module _ (after : List (ℕ × ℕ)) (pushed : after ≡ below ++ (x, place + 1) ∷ []) (lt : place < 500000000) where
    work_on : sum_by frame_work after + 1 ≡ sum_by frame_work stack
    work_on = rw (popped, pushed, sum_by_push frame_work below (x, place), sum_by_push frame_work below (x, place + 1)) (omega arith)

    pub work_again : work marks after < work marks stack
    work_again = omega (arith, work_on)

    module _ (n : ℕ) (there : n < length marks) (new : get_or marks n false ≡ false) where
      pub work_first : work (set marks n true) after < work marks stack
      work_first = omega (arith, work_on, unmarked_count marks n there new)

      pub work_down : (p : ℕ) (deeper : List (ℕ × ℕ)) → deeper ≡ after ++ (p, 0) ∷ [] → work (set marks n true) deeper < work marks stack
      work_down p deeper d =
          let less = unmarked_count marks n there new in
          let more = sum_by_push frame_work after (p, 0) in
          rw d (omega (arith, work_on, less, more))
