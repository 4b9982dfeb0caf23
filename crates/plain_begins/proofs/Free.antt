-- No frame begins in a stack that is left.
use Rattle.std.proofs.Common.{◌≡◌, ℕ, zero, suc, ◌+◌, ◌/◌, refl, ◌∙◌, ap, sym, arith}
use Rattle.std.proofs.lemmas.Option.{slice_get_within}
use Rattle.std.specs.Prelude.{List, [], ◌∷◌, length, map, Some, slice_get}
use Rattle.sparc_store.specs.Words.{Words}
use Rattle.sparc_store.specs.Windows.{Frame as Window, saved_at, frame_before, but_first}
use Rattle.frame_walk.specs.Places.{Descriptor, Frame}
use Rattle.frame_walk.specs.Raw.{Thread, Going, IsFree}
use Rattle.frame_walk.specs.Walk.{activations, Asked, AreLaid, Frames}
use Rattle.plain_runs.specs.Host.{Host, raw_of, descriptor_at}
use Rattle.plain_runs.specs.declared.status.Status.{Status}
use Rattle.plain_runs.specs.declared.status.Status.TheVariants.{Waiting, Answered, Failed}
use Rattle.plain_runs.specs.Sound.{IsHeld, entry_frame, ending_stub}
use Rattle.plain_runs.specs.Course.{AllRun}
use Rattle.plain_runs.proofs.Located.{some_is}
use Rattle.plain_runs.proofs.Working.{held_have_room, same_stack}
use Rattle.plain_begins.proofs.Parking.{Parks, lying}

-- laid frames begin in the stack of their frame of entry
all_inside : (descs : ℕ → Descriptor) (asked : Asked) (entry end : ℕ) (memory : Words) (n sp : ℕ) (w : Window) (pc : ℕ) (held : List Window) → Frames descs asked → AreLaid asked entry end memory n sp w pc held
    → (j : ℕ) (f : Frame) → slice_get (activations descs memory n sp w pc held) j ≡ Some f → f.mark / 0x02000000 ≡ entry / 0x02000000
unfolding activations AreLaid
all_inside descs asked entry end memory zero sp w pc held all laid j f e = absurd (cc)
all_inside descs asked entry end memory (suc n) sp w pc held all laid zero f e =
    let m : sp ≡ f.mark = ap (λ (y : Frame). y.mark) (some_is _ f e) in
    ap (λ y. y / 0x02000000) (sym m) ∙ same_stack descs asked entry end memory (suc n) sp w pc held all laid
all_inside descs asked entry end memory (suc n) sp w pc held all laid (suc j) f e =
    all_inside descs asked entry end memory n (w 14) (frame_before memory (w 14) held) (w 15 + 8) (but_first held) all laid.1 j f e

-- an activity that goes on has frames in memory
record GoesOn (h : Host) (memory : Words) (ss : List Status) (j : ℕ) (frames : List Frame) : Type 0 where
  sp : ℕ
  pc : ℕ
  count : ℕ
  status : slice_get ss j ≡ Some (Waiting sp pc count)
  are : frames ≡ activations (descriptor_at h) memory count sp (saved_at memory sp) pc []

going_is : (a b : List Frame) → Some (Going a) ≡ Some (Going b) → b ≡ a
going_is a b e = cc

going : (h : Host) (memory : Words) (ss : List Status) (j : ℕ) (frames : List Frame) → slice_get (map (lying h memory) ss) j ≡ Some (Going frames) → GoesOn h memory ss j frames
going h memory [] j frames e = absurd (cc)
going h memory (Waiting sp pc count ∷ ss) zero frames e = record { sp = sp; pc = pc; count = count; status = refl; are = going_is _ frames e }
going h memory (Answered w ∷ ss) zero frames e = absurd (cc)
going h memory (Failed x p ∷ ss) zero frames e = absurd (cc)
going h memory (x ∷ ss) (suc j) frames e =
    let g = going h memory ss j frames e in
    record { sp = g.sp; pc = g.pc; count = g.count; status = g.status; are = g.are }

apart : (a b : ℕ) → entry_frame a / 0x02000000 ≡ entry_frame b / 0x02000000 → a ≡ b
apart a b e = omega (arith, e)

-- a place in the stack behind those of all activities is no frame's mark
pub free_behind : (h : Host) (memory : Words) (ss : List Status) → Parks h memory ss → AllRun h → (place : ℕ) → place / 0x02000000 ≡ entry_frame (length h.statuses) / 0x02000000 → IsFree (raw_of h).threads place
free_behind h memory ss park run place stack f is e =
    let g = going h memory ss is.activity is.frames (ap (λ (ts : List Thread). slice_get ts is.activity) park.shows ∙ is.going) in
    let got : slice_get (activations (descriptor_at h) memory g.count g.sp (saved_at memory g.sp) g.pc []) is.height ≡ Some f = ap (λ (xs : List Frame). slice_get xs is.height) (sym g.are) ∙ is.there in
    let inside =
    all_inside (descriptor_at h) (IsHeld h) (entry_frame is.activity) ending_stub memory g.count g.sp (saved_at memory g.sp) g.pc [] (held_have_room h run) (park.laid is.activity (Waiting g.sp g.pc g.count) g.status) is.height f got in
    let same : is.activity ≡ length h.statuses = apart is.activity (length h.statuses) (sym inside ∙ ap (λ y. y / 0x02000000) e ∙ stack) in
    let lt = slice_get_within ss is.activity (Waiting g.sp g.pc g.count) g.status in
    let bad : ⊥ = omega (arith, lt, park.long, same) in
    bad
