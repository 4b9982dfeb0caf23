-- No frame begins below the one in view.
use Rattle.std.proofs.Common.{◌≡◌, ◌≢◌, ℕ, zero, suc, ◌+◌, ◌/◌, ◌<◌, ◌≤◌, ◌==◌, refl, ◌∙◌, ap, sym, arith, inl, inr}
use Rattle.std.specs.Prelude.{true, false, if◌then◌else◌, List, [], ◌∷◌, Some, slice_get}
use Rattle.std.proofs.lemmas.Bool.{cases_eq}
use Rattle.std.proofs.lemmas.Grind.{common_steps}
use Rattle.self_terms.specs.declared.nodes.Node.{Node}
use Rattle.self_terms.specs.Depths.{depth}
use Rattle.sparc_store.specs.Words.{Words}
use Rattle.sparc_store.specs.Windows.{Frame as Window, saved_at, frame_before, but_first}
use Rattle.source_model.specs.Soundness.{body_in}
use Rattle.frame_walk.specs.Places.{Descriptor, Frame}
use Rattle.frame_walk.specs.Raw.{Going, IsFree}
use Rattle.frame_walk.specs.Walk.{activations, Asked, AreLaid, Frames}
use Rattle.plain_words.specs.Showing.{viewed}
use Rattle.plain_words.specs.Units.{frame_locals}
use Rattle.plain_runs.specs.Host.{Host, seen, waiting, threads_from, raw_of, descriptor_at}
use Rattle.plain_runs.specs.declared.status.Status.{Status}
use Rattle.plain_runs.specs.declared.status.Status.TheVariants.{Waiting, Answered, Failed}
use Rattle.plain_runs.specs.Sound.{IsCaller, IsHeld, RunsAt, IsHosted, callers_of, entry_frame, ending_stub}
use Rattle.plain_runs.specs.Course.{AllRun}
use Rattle.plain_runs.proofs.Located.{some_is}
use Rattle.plain_runs.proofs.Working.{callers_have_room, held_have_room, same_stack}
use Rattle.plain_steps.proofs.Here.{now_seen}

-- a frame begins there or above, in the stack of a frame of entry
pub record IsAbove (sp entry : ℕ) (f : Frame) : Type 0 where
  pub from : sp ≤ f.mark
  pub stack : f.mark / 0x02000000 ≡ entry / 0x02000000

-- so does each of these that are laid
pub all_above : (descs : ℕ → Descriptor) (asked : Asked) (entry end : ℕ) (memory : Words) (n sp : ℕ) (w : Window) (pc : ℕ) (held : List Window) → Frames descs asked → AreLaid asked entry end memory n sp w pc held
    → (j : ℕ) (f : Frame) → slice_get (activations descs memory n sp w pc held) j ≡ Some f → IsAbove sp entry f
unfolding activations AreLaid
all_above descs asked entry end memory zero sp w pc held all laid j f e = absurd (cc)
all_above descs asked entry end memory (suc n) sp w pc held all laid zero f e =
    let m : sp ≡ f.mark = ap (λ (y : Frame). y.mark) (some_is _ f e) in
    record { from = omega (arith, m); stack = ap (λ y. y / 0x02000000) (sym m) ∙ same_stack descs asked entry end memory (suc n) sp w pc held all laid }
all_above descs asked entry end memory (suc n) sp w pc held all laid (suc j) f e =
    let one = all pc sp (w 14) laid.0 in
    let more = all_above descs asked entry end memory n (w 14) (frame_before memory (w 14) held) (w 15 + 8) (but_first held) all laid.1 j f e in
    record { from = omega (arith, more.from, one.ends); stack = more.stack }

-- an activity that goes on waits, or is the current one
pub record IsGoing (h : Host) (from : ℕ) (ss : List Status) (j : ℕ) (frames : List Frame) : Type 0 where
  pub sp : ℕ
  pub pc : ℕ
  pub count : ℕ
  pub status : slice_get ss j ≡ Some (Waiting sp pc count)
  pub are : frames ≡ (if (from + j) == h.current then seen h else waiting h sp pc count)

going_is : (a b : List Frame) → Some (Going a) ≡ Some (Going b) → b ≡ a
going_is a b e = cc

pub going : (h : Host) (from : ℕ) (ss : List Status) (j : ℕ) (frames : List Frame) → slice_get (threads_from h from ss) j ≡ Some (Going frames) → IsGoing h from ss j frames
going h from [] j frames e = absurd (cc)
going h from (Waiting sp pc count ∷ ss) zero frames e = record {
  sp = sp;
  pc = pc;
  count = count;
  status = refl;
  are = going_is _ frames e ∙ ap (λ k. if k == h.current then seen h else waiting h sp pc count) (let q : from ≡ from + 0 = omega arith in q);
}
going h from (Answered w ∷ ss) zero frames e = absurd (cc)
going h from (Failed x p ∷ ss) zero frames e = absurd (cc)
going h from (x ∷ ss) (suc j) frames e =
    let g = going h (from + 1) ss j frames e in
    record { sp = g.sp; pc = g.pc; count = g.count; status = g.status; are = g.are ∙ ap (λ k. if k == h.current then seen h else waiting h g.sp g.pc g.count) (let q : from + 1 + j ≡ from + suc j = omega arith in q) }

first_or_later : (v : Frame) (fs : List Frame) (sp entry : ℕ) → sp ≤ v.mark → ((j : ℕ) (f : Frame) → slice_get fs j ≡ Some f → IsAbove sp entry f) → (j : ℕ) (f : Frame) → slice_get (v ∷ fs) j ≡ Some f → sp ≤ f.mark
first_or_later v fs sp entry here later zero f e = omega (arith, here, ap (λ (y : Frame). y.mark) (some_is v f e))
first_or_later v fs sp entry here later (suc j) f e = (later j f e).from

pub apart : (a b : ℕ) → entry_frame a / 0x02000000 ≡ entry_frame b / 0x02000000 → a ≡ b
apart a b e = omega (arith, e)

pub is_current : (a b : ℕ) → a ≡ b → (0 + a == b) ≡ true
is_current a b e = grind (arith, common_steps)

pub not_current : (a b : ℕ) → a ≢ b → (0 + a == b) ≡ false
not_current a b e = grind (arith, common_steps)

-- a place below the one in view, in its stack, is no frame's mark
pub free_below : (h : Host) (b n : ℕ) (node : Node) → (r : RunsAt h b n node) → IsHosted h → AllRun h → (place : ℕ) → place < h.machine.regs 14 → place / 0x02000000 ≡ entry_frame h.current / 0x02000000 → IsFree (raw_of h).threads place
free_below h b n node r hosted run place low stack f is e =
    let m = h.machine in
    let v = viewed m b n (frame_locals (body_in h.bodies b)) (depth (body_in h.bodies b).nodes n) in
    let fs = callers_of h r.view.older in
    let g = going h 0 h.statuses is.activity is.frames is.going in
    let there = is.there in
    elim (cases_eq is.activity h.current) [
      | inl same ↦
          let frames : is.frames ≡ v ∷ fs = g.are ∙ ap (λ x. if x then seen h else waiting h g.sp g.pc g.count) (is_current is.activity h.current same) ∙ now_seen h b n node r in
          let got : slice_get (v ∷ fs) is.height ≡ Some f = ap (λ (xs : List Frame). slice_get xs is.height) (sym frames) ∙ there in
          let later : (j : ℕ) (y : Frame) → slice_get fs j ≡ Some y → IsAbove (m.regs 14) (entry_frame h.current) y = λ j y q.
          let x = all_above (descriptor_at h) (IsCaller h) (entry_frame h.current) ending_stub m.memory r.view.older (m.regs 30) (frame_before m.memory (m.regs 30) m.older) (m.regs 31 + 8) (but_first m.older) (callers_have_room h run) r.view.callers j y q in
          record { from = omega (arith, x.from, r.view.frame.ends); stack = x.stack } in
          let up = first_or_later v fs (m.regs 14) (entry_frame h.current) (omega arith) later is.height f got in
          absurd (omega (arith, up, low, e))
      | inr ne ↦
          let frames : is.frames ≡ waiting h g.sp g.pc g.count = g.are ∙ ap (λ x. if x then seen h else waiting h g.sp g.pc g.count) (not_current is.activity h.current ne) in
          let got : slice_get (waiting h g.sp g.pc g.count) is.height ≡ Some f = ap (λ (xs : List Frame). slice_get xs is.height) (sym frames) ∙ there in
          let up = all_above (descriptor_at h) (IsHeld h) (entry_frame is.activity) ending_stub m.memory g.count g.sp (saved_at m.memory g.sp) g.pc [] (held_have_room h run) (hosted.others is.activity g.sp g.pc g.count g.status ne) is.height f got in
          ne (apart is.activity h.current (sym up.stack ∙ ap (λ y. y / 0x02000000) e ∙ stack))
    ]
