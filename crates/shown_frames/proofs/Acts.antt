-- What the frames of an activity show.
use Rattle.std.proofs.Common.{◌≡◌, ℕ, zero, suc, ◌+◌, ◌*◌, refl, ap, sym, subst, ◌∙◌, Bool, arith}
use Rattle.std.specs.Prelude.{List, [], ◌∷◌, ◌++◌, length, map, reverse, Option, Some, None, option_map, unwrap_or, slice_get, nat_eq}
use Rattle.std.proofs.lemmas.List.{map-append, reverse-append}
use Rattle.std.proofs.lemmas.Bool.{eq-eqb, ne_eqb, cond-true, cond-false}
use Rattle.self_terms.specs.declared.bodies.Body.{Body}
use Rattle.self_terms.specs.declared.values.Value.{Value}
use Rattle.sparc_store.specs.Words.{Words as Store, word_at}
use Rattle.source_model.specs.State.{Activation, Activity, Running, State}
use Rattle.source_model.specs.Canon.{Each}
use Rattle.source_model.specs.Formed.{IsWellFormed}
use Rattle.source_model.specs.Lines.{position_in}
use Rattle.source_model.specs.Soundness.{body_in, room, AreCallers, IsActivity as IsWellActivity}
use Rattle.heap_cells.specs.Laying.{Cells}
use Rattle.heap_cells.specs.Source.{Made, Owner, Plain as without, Ended, Live}
use Rattle.heap_cells.specs.Standing.{Places, IsValue, AreValues, IsOuter}
use Rattle.heap_cells.proofs.Reading.{read_context}
use Rattle.frame_walk.specs.Places.{Frame}
use Rattle.frame_walk.specs.Raw.{Raw}
use Rattle.raw_steps.specs.Stands.{Sense, IsActivation, AreActivations, HasLocals, makes_blocks}
use Rattle.session_text.specs.Values.{as_shown}
use Rattle.session_text.specs.Frames.{act_of, shown_of}
use Rattle.shown_frames.specs.Listed.{words_up}
use Rattle.shown_frames.specs.Showing.{value_shown, maker_shown, local_words, act_shown, acts_shown, position_at, mark_at}
use Rattle.shown_frames.specs.Standing.{HasHeap, AreOf}
use Rattle.shown_frames.proofs.Words.{is, activations_are, context_shows, number_shows, value_shows, values_show}

-- each has as many locals as its body says
abbrev HaveRooms : List Body → List Activation → Type 0
HaveRooms bodies [] = Unit {0}
HaveRooms bodies (a ∷ older) = (length a.locals ≡ room (body_in bodies a.body)) × HaveRooms bodies older

callers_rooms : (bodies : List Body) (home : ℕ → ℕ) (all : List Activation) → AreCallers bodies home all → HaveRooms bodies all
callers_rooms bodies home [] are = tt
callers_rooms bodies home (a ∷ older) are = (are.0.locals, callers_rooms bodies home older are.2)

activity_rooms : (bodies : List Body) (home : ℕ → ℕ) (all : List Activation) → IsWellActivity bodies home (Running all) → HaveRooms bodies all
activity_rooms bodies home [] is = absurd is
activity_rooms bodies home (a ∷ older) is = (is.0.locals, callers_rooms bodies home older is.2)

each_got : (P : Activity → Type 0) (xs : List Activity) (i : ℕ) (x : Activity) → Each P xs → slice_get xs i ≡ Some x → P x
each_got P [] i x each e = absurd (cc)
each_got P (y ∷ xs) zero x each e = let same : y ≡ x = cc in subst P same each.0
each_got P (y ∷ xs) (suc i) x each e = each_got P xs i x each.1 e

map-reversed : {A B : Type 0} (f : A → B) (xs : List A) → map f (reverse xs) ≡ reverse (map f xs)
map-reversed f [] = refl
map-reversed f (x ∷ xs) =
    ap (map f) (reverse-append (x ∷ []) xs) ∙ map-append f (reverse xs) (x ∷ []) ∙ ap (λ ys. ys ++ f x ∷ []) (map-reversed f xs) ∙ sym (reverse-append (f x ∷ []) (map f xs))

-- values that stand in a row of words
values_from : (h : Cells) (p : Places) (memory : Store) (vs : List Value) (at : ℕ) → ((i : ℕ) (v : Value) → slice_get vs i ≡ Some v → IsValue h p v (word_at memory (at + 4 * i))) → AreValues h p vs (words_up memory at (length vs))
values_from h p memory [] at each = tt
values_from h p memory (v ∷ vs) at each = (
  subst (λ a. IsValue h p v (word_at memory a)) (let e : at + 4 * 0 ≡ at = omega arith in e) (each 0 v refl),
  values_from h p memory vs (at + 4) (λ i w got. subst (λ a. IsValue h p w (word_at memory a)) (let e : at + 4 * suc i ≡ at + 4 + 4 * i = omega arith in e) (each (suc i) w got)),
)

module _ (z : Sense) (r : Raw) (s : State) (all : List Activation) (frames : List Frame) (memory : Store) (are : AreOf z r s all frames) (has : HasHeap memory r.mem) where
  maker_shows : (k : Option ℕ) (outer : ℕ) → IsOuter z.places k outer → maker_shown memory frames outer ≡ unwrap_or (option_map (λ n. unwrap_or (position_in all n) 0) k) 0
  maker_shows None outer is_outer = cond-true (nat_eq outer 0) 0 (position_at frames (mark_at memory outer)) (eq-eqb outer 0 is_outer)
  maker_shows (Some k) outer is_outer =
      let tagged = is_outer.0 in
      cond-false (nat_eq outer 0) 0 (position_at frames (mark_at memory outer)) (ne_eqb outer 0 (λ e. omega arith))
      ∙ context_shows z r s all frames memory are has k outer is_outer.1 is_outer.0

  locals_show : (a : Activation) (f : Frame) (m : Made) → f.body ≡ a.body → length a.locals ≡ room (body_in s.bodies a.body) → slice_get z.made a.number ≡ Some m → slice_get z.places.contexts a.number ≡ Some f.context → HasLocals z a f m
      → map (value_shown r.maps memory frames) (local_words s.bodies memory f) ≡ map (as_shown all) a.locals
  locals_show a f without body rooms was at l =
      let heap = is z r s all frames memory are has in
      ap (map (value_shown r.maps memory frames)) (cond-true (nat_eq f.context 0) f.locals (words_up memory (f.context + 15) (room (body_in s.bodies f.body))) (eq-eqb f.context 0 (heap.means.context a.number f.context without at was)))
      ∙ values_show z r s all frames memory are has a.locals f.locals l
  locals_show a f Ended body rooms was at l = absurd l
  locals_show a f (Live o) body rooms was at l =
      let heap = is z r s all frames memory are has in
      let c = heap.means.context a.number f.context (Live o) at was in
      let tagged = c.there.0 in
      let read = read_context r.maps memory r.heap z.cells z.places s.things z.made heap a.number f.context o at was in
      let same : o.locals ≡ a.locals = ap (λ (q : Owner). q.locals) l.0 in
      let each : (i : ℕ) (v : Value) → slice_get a.locals i ≡ Some v → IsValue z.cells z.places v (word_at memory (f.context + 15 + 4 * i)) = λ i v got. read.locals i v (ap (λ vs. slice_get vs i) same ∙ got) in
      ap (map (value_shown r.maps memory frames)) (cond-false (nat_eq f.context 0) f.locals (words_up memory (f.context + 15) (room (body_in s.bodies f.body))) (ne_eqb f.context 0 (λ e. omega arith))
      ∙ ap (words_up memory (f.context + 15)) (ap (λ b. room (body_in s.bodies b)) body ∙ sym rooms))
      ∙ values_show z r s all frames memory are has a.locals (words_up memory (f.context + 15) (length a.locals)) (values_from z.cells z.places memory a.locals (f.context + 15) each)

  act_shows : (wants : ℕ → Bool) (at older : ℕ) (a : Activation) (f : Frame) → IsActivation wants z at older a f → length a.locals ≡ room (body_in s.bodies a.body) → act_shown r.maps s.bodies memory frames f ≡ act_of all a
  act_shows wants at older a f i rooms =
      let body = i.body in
      let next = i.next in
      let receiver = value_shows z r s all frames memory are has a.receiver f.receiver i.receiver in
      let holder = number_shows z r s all frames memory are has a.holder f.holder i.holder in
      let maker = maker_shows a.maker f.outer i.outer in
      let locals = locals_show a f i.kind i.body rooms i.made i.context i.locals in
      let pending = map-reversed (value_shown r.maps memory frames) f.pending ∙ ap reverse (values_show z r s all frames memory are has a.pending f.pending i.pending) ∙ sym (map-reversed (as_shown all) a.pending) in
      (λ j. record { body = record { 0 = body j }; next = next j; receiver = receiver j; holder = holder j; maker = maker j; locals = locals j; pending = pending j })

  acts_show : (wants : ℕ → Bool) (at : ℕ) (some : List Activation) (fs : List Frame) → AreActivations wants z at some fs → HaveRooms s.bodies some → map (act_shown r.maps s.bodies memory frames) fs ≡ map (act_of all) some
  acts_show wants at [] [] a rooms = refl
  acts_show wants at (x ∷ some) (f ∷ fs) a rooms =
      ap (λ y. y ∷ map (act_shown r.maps s.bodies memory frames) fs) (act_shows wants at (length some) x f a.0 rooms.0) ∙ ap (λ ys. act_of all x ∷ ys) (acts_show wants at some fs a.2 rooms.1)
  acts_show wants at [] (f ∷ fs) a rooms = absurd a
  acts_show wants at (x ∷ some) [] a rooms = absurd a

  pub activations_show : IsWellFormed s → acts_shown r.maps s.bodies memory frames ≡ shown_of all
  activations_show well =
      let rooms = activity_rooms s.bodies well.0 all (each_got (IsWellActivity s.bodies well.0) s.activities are.activity (Running all) well.1.well.activities are.runs) in
      ap reverse (acts_show (makes_blocks s) are.activity all frames (activations_are z r s all frames memory are has) rooms)
