-- Contexts of the source's activations are contexts of plain code.
use Rattle.std.proofs.Common.{◌≡◌, ℕ, zero, suc, ◌+◌, ◌-◌, ◌≤◌, refl, ◌∙◌, ap, sym, subst, arith}
use Rattle.std.specs.Prelude.{Bool, true, List, length, Option, Some, None, slice_get}
use Rattle.std.proofs.lemmas.Option.{none-some}
use Rattle.sparc_store.specs.Words.{Words, word_at}
use Rattle.source_model.specs.State.{Activation, State}
use Rattle.source_model.specs.Step.{maker_in, outwards}
use Rattle.heap_cells.specs.Shapes.{Cell, Context}
use Rattle.heap_cells.specs.Source.{Made, Owner, Plain as without, Ended, Live}
use Rattle.heap_cells.specs.Standing.{IsOuter}
use Rattle.heap_cells.proofs.Fielding.{values_length}
use Rattle.heap_cells.proofs.Reading.{read_context}
use Rattle.frame_walk.specs.Places.{Frame}
use Rattle.frame_walk.specs.Raw.{Raw}
use Rattle.raw_steps.specs.Stands.{Sense, HasLocals, has_context, IsActivation, AreActivations, Stands, makes_blocks, owner_of}
use Rattle.raw_steps.specs.Nodes.{around}
use Rattle.raw_steps.proofs.Outwards.{out_keeps}
use Rattle.plain_words.specs.Moves.{IsContext, AreAround, around as words_around}
use Rattle.plain_contexts.proofs.Heaped.{InHeap, context_in_heap}

-- an activation of a body that makes blocks is live, with its locals in its context
pub record HasOwn (z : Sense) (a : Activation) (f : Frame) : Type 0 where
  pub its : Owner
  pub made : slice_get z.made a.number ≡ Some (Live its)
  pub own : its ≡ owner_of a f.mark

own_by : (z : Sense) (a : Activation) (f : Frame) (k : Made) → has_context k ≡ true → slice_get z.made a.number ≡ Some k → HasLocals z a f k → HasOwn z a f
own_by z a f without e made has = absurd (cc)
own_by z a f Ended e made has = absurd has
own_by z a f (Live o) e made has = record { its = o; made = made; own = has.0 }

pub has_own : (wants : ℕ → Bool) (z : Sense) (at older : ℕ) (a : Activation) (f : Frame) → IsActivation wants z at older a f → wants a.body ≡ true → HasOwn z a f
has_own wants z at older a f i e = own_by z a f i.kind (sym i.wanted ∙ e) i.made i.locals

nothing_out : (all : List Activation) (up : ℕ) → outwards all up None ≡ None
nothing_out all zero = refl
nothing_out all (suc up) = nothing_out all up

-- so many contexts around one
pub record AreThere (mem memory : Words) (up outer n : ℕ) : Type 0 where
  pub same : around mem up outer ≡ words_around memory up outer
  pub way : AreAround memory up outer n
  pub last : IsContext (words_around memory up outer) n

module _ (r : Raw) (s : State) (z : Sense) (S : Stands z r s) where
  -- a live activation's context has the words of its locals
  pub context_there : (y w : ℕ) (o : Owner) → slice_get z.places.contexts y ≡ Some w → slice_get z.made y ≡ Some (Live o) → (n : ℕ) → n ≤ length o.locals → IsContext w n
  context_there y w o at was n few =
      let c = S.heap.means.context y w (Live o) at was in
      let cell : Cell = Context c.map c.outer o.mark c.receiver c.locals in
      let i = S.heap.laid.inside (w - 1) cell c.there.1 in
      let above = i.above in
      let below = i.below in
      let within = S.heap.laid.end.within in
      let long = values_length z.cells z.places o.locals c.locals c.holds in
      let tagged = c.there.0 in
      record { tagged = tagged; from = omega arith; to = omega arith }

  module _ (memory : Words) (reads : (a : ℕ) → InHeap a → word_at r.mem a ≡ word_at memory a) (all : List Activation) (frames : List Frame) (are : AreActivations (makes_blocks s) z s.current all frames) where
    -- the makers' contexts are there, up to that of the activation whose local a node names
    pub all_there : (up : ℕ) (m home : Activation) (outer n : ℕ) → IsOuter z.places m.maker outer → outwards all (suc up) (Some m) ≡ Some home → n ≤ length home.locals → AreThere r.mem memory up outer n
    all_there zero m home outer n is_outer e few =
        let k = out_keeps r s z S all frames are zero m home outer is_outer e in
        let long = ap (λ (o : Owner). length o.locals) k.own in
        let here = context_there home.number outer k.its k.at k.made n (omega (arith, few, long)) in
        record { same = refl; way = here; last = here }
    all_there (suc up) m home outer n is_outer e few = by_maker (maker_in all m) refl e (λ p w is_w out. all_there up p home w n is_w out few)
      where
        by_maker : (q : Option Activation) → maker_in all m ≡ q → outwards all (suc up) q ≡ Some home
            → ((p : Activation) (w : ℕ) → IsOuter z.places p.maker w → outwards all (suc up) (Some p) ≡ Some home → AreThere r.mem memory up w n)
            → AreThere r.mem memory (suc up) outer n
        by_maker None is out rest = absurd (none-some home (sym (nothing_out all (suc up)) ∙ out))
        by_maker (Some p) is out rest =
            let k = out_keeps r s z S all frames are zero m p outer is_outer is in
            let c = read_context r.maps r.mem r.heap z.cells z.places s.things z.made S.heap p.number outer k.its k.at k.made in
            let here = context_there p.number outer k.its k.at k.made 0 (omega arith) in
            let w = word_at r.mem (outer + 3) in
            let is_w : IsOuter z.places p.maker w = subst (λ (q : Option ℕ). IsOuter z.places q w) (ap (λ (o : Owner). o.maker) k.own) c.outer in
            let same : w ≡ word_at memory (outer + 3) = reads (outer + 3) (context_in_heap outer 0 3 here refl (omega arith)) in
            let next = rest p w is_w out in
            record {
              same = next.same ∙ ap (words_around memory up) same;
              way = (here, subst (λ (v : ℕ). AreAround memory up v n) same next.way);
              last = subst (λ (v : ℕ). IsContext (words_around memory up v) n) same next.last;
            }
