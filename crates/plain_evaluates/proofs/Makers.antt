-- Where a block's own method is met: the words of the block and of its maker's context, and the frame that the context's mark names.
use Rattle.std.proofs.Common.{◌≡◌, ℕ, zero, suc, ◌+◌, ◌-◌, ◌%◌, ◌≤◌, refl, ◌∙◌, ap, sym, subst, arith}
use Rattle.std.specs.Prelude.{Bool, true, false, nat_eq, find, cond, List, [], ◌∷◌, Some, None, slice_get}
use Rattle.std.proofs.lemmas.Bool.{eqb-true}
use Rattle.self_terms.specs.declared.values.BodyId.{BodyId}
use Rattle.self_terms.specs.declared.values.Value.TheVariants as values
use Rattle.sparc_store.specs.Words.{Words, word_at, HasFrame}
use Rattle.sparc_store.specs.Windows.{Frame as Window, frame_before, but_first}
use Rattle.source_model.specs.Soundness.{body_in}
use Rattle.source_model.specs.State.{State}
use Rattle.heap_cells.specs.Shapes.{Cell, Plain, Vector, Text, Block, Context, size}
use Rattle.heap_cells.specs.Standing.{IsValue, IsReceiver}
use Rattle.heap_cells.proofs.Reading.{read_block}
use Rattle.frame_walk.specs.Places.{Frame, shown, plain_descriptor, holder_offset}
use Rattle.frame_walk.specs.Raw.{Raw}
use Rattle.frame_walk.specs.Walk.{activations, AreLaid}
use Rattle.raw_steps.specs.Messages.{has_mark, frame_marked}
use Rattle.raw_steps.specs.Stands.{Sense, Stands}
use Rattle.self_terms.specs.Depths.{taken, depth}
use Rattle.plain_words.specs.Moves.{IsContext}
use Rattle.plain_words.specs.Units.{frame_locals, frame_words}
use Rattle.plain_runs.specs.Host.{Host, descriptor_at}
use Rattle.plain_runs.specs.Sound.{IsCaller}
use Rattle.plain_runs.proofs.Located.{some_is}
use Rattle.plain_runs.proofs.Pointed.{call_descriptor}
use Rattle.plain_evaluates.proofs.Bounds.{frame_least}

-- what was looked for stands in the list
pub record IsThere (mark : ℕ) (frames : List Frame) (y : Frame) : Type 0 where
  pub height : ℕ
  pub there : slice_get frames height ≡ Some y
  pub marked : y.mark ≡ mark

there_by : (t : Bool) (mark : ℕ) (f : Frame) (fs : List Frame) (y : Frame) → nat_eq f.mark mark ≡ t → cond t (Some f) (find (has_mark mark) fs) ≡ Some y → (find (has_mark mark) fs ≡ Some y → IsThere mark fs y) → IsThere mark (f ∷ fs) y
there_by true mark f fs y same e more =
    let it : f ≡ y = some_is f y e in
    record { height = 0; there = e; marked = ap (λ (x : Frame). x.mark) (sym it) ∙ eqb-true f.mark mark same }
there_by false mark f fs y same e more =
    let m = more e in
    record { height = suc m.height; there = m.there; marked = m.marked }

found_there : (mark : ℕ) (frames : List Frame) (y : Frame) → find (has_mark mark) frames ≡ Some y → IsThere mark frames y
found_there mark [] y e = absurd (cc)
found_there mark (f ∷ fs) y e = there_by (nat_eq f.mark mark) mark f fs y refl e (found_there mark fs y)

marked_by : (t : Bool) (mark : ℕ) (frames : List Frame) (y : Frame) → cond t None (find (has_mark mark) frames) ≡ Some y → IsThere mark frames y
marked_by true mark frames y e = absurd (cc)
marked_by false mark frames y e = found_there mark frames y e

pub marked_there : (mark : ℕ) (frames : List Frame) (y : Frame) → frame_marked mark frames ≡ Some y → IsThere mark frames y
marked_there mark frames y e = marked_by (nat_eq mark 0) mark frames y e

-- The holder of each frame that waits stands in the frame.
pub record Holds (memory : Words) (f : Frame) : Type 0 where
  pub word : f.holder ≡ word_at memory (f.mark + holder_offset)
  pub frame : HasFrame f.mark 27

has_less : (sp words : ℕ) → HasFrame sp words → 27 ≤ words → HasFrame sp 27
has_less sp words f le = (f.0, f.1, f.2, omega (arith, f.3, le))

pub all_hold : (h : Host) (entry end : ℕ) (memory : Words) (n sp : ℕ) (w : Window) (pc : ℕ) (held : List Window) → AreLaid (IsCaller h) entry end memory n sp w pc held
    → (j : ℕ) (f : Frame) → slice_get (activations (descriptor_at h) memory n sp w pc held) j ≡ Some f → Holds memory f
unfolding AreLaid activations
all_hold h entry end memory zero sp w pc held l j f e = absurd (cc)
all_hold h entry end memory (suc n) sp w pc held l zero f e =
    let c = l.0 in
    let d = plain_descriptor c.body c.number (frame_locals (body_in h.bodies c.body)) (depth (body_in h.bodies c.body).nodes c.number - taken c.node) in
    let is : f ≡ shown memory w sp d = sym (some_is _ f e) ∙ ap (shown memory w sp) (call_descriptor h pc c.body c.number c.node c.call) in
    record {
      word = ap (λ (x : Frame). x.holder) is ∙ ap (λ (x : Frame). word_at memory (x.mark + holder_offset)) (sym is);
      frame = (let P : Frame → Type 0 = λ x. HasFrame x.mark 27 in subst P (sym is) (has_less sp (frame_words (body_in h.bodies c.body)) c.room.place (omega (arith, frame_least (body_in h.bodies c.body)))));
    }
all_hold h entry end memory (suc n) sp w pc held l (suc j) f e = all_hold h entry end memory n (w 14) (frame_before memory (w 14) held) (w 15 + 8) (but_first held) l.1 j f e

-- A block's word refers to its words, and these to a context's.
pub record HasWords (mem : Words) (w : ℕ) : Type 0 where
  pub block : IsContext w 0
  pub context : IsContext (word_at mem (w + 7)) 0

cell_inside : (r : Raw) (s : State) (z : Sense) → Stands z r s → (w : ℕ) (c : Cell) → w % 4 ≡ 1 → z.cells (w - 1) ≡ Some c → 4 ≤ size c → IsContext w 0
cell_inside r s z S w c tagged there long =
    let i = S.heap.laid.inside (w - 1) c there in
    let above = i.above in
    let below = i.below in
    let within = S.heap.laid.end.within in
    record { tagged = tagged; from = omega arith; to = omega arith }

-- the cell that has a receiver is a context's
long_cell : (c : Cell) (receiver : ℕ) → IsReceiver c receiver → 4 ≤ size c
long_cell (Context map outer mark kept locals) receiver is = omega arith
long_cell (Plain number map words) receiver is = absurd is
long_cell (Vector number words) receiver is = absurd is
long_cell (Text number text) receiver is = absurd is
long_cell (Block map body context kept) receiver is = absurd is

pub block_there : (r : Raw) (s : State) (z : Sense) → Stands z r s → (w maker : ℕ) (b : BodyId) → IsValue z.cells z.places (values.Block b maker) w → HasWords r.mem w
block_there r s z S w maker b value =
    let read = read_block r.maps r.mem r.heap z.cells z.places s.things z.made S.heap w maker b value in
    let same : value.context ≡ word_at r.mem (w + 7) = some_is _ _ (sym value.made_by ∙ read.context) in
    let here = cell_inside r s z S value.context value.shares.cell value.reference value.shares.there (long_cell value.shares.cell value.receiver value.shares.is) in
    record {
      block = cell_inside r s z S w (Block value.map b.0 value.context value.receiver) value.tagged value.cell (omega arith);
      context = subst (λ (k : ℕ). IsContext k 0) same here;
    }
