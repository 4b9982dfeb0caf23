-- From a frame that stands in memory to the next older one.
use Rattle.std.proofs.Common.{◌≡◌, ℕ, zero, suc, ◌+◌, ◌-◌, ◌*◌, ◌^◌, ◌<◌, ◌≤◌, List, [], ◌∷◌, ◌++◌, refl, ap, sym, subst, ◌∙◌, arith, append_assoc}
use Rattle.std.specs.Prelude.{nat_lt}
use Rattle.std.proofs.lemmas.Bool.{cond-true, lt-ltb}
use Rattle.std.proofs.lemmas.List.{append-nil}
use Rattle.self_terms.specs.declared.bodies.Body.{Body}
use Rattle.sparc_store.specs.Words.{Words, word_at, HasFrame}
use Rattle.plain_words.specs.declared.units.Point.{Point}
use Rattle.sparc_store.specs.Windows.{saved_at}
use Rattle.frame_walk.specs.Places.{Frame, Descriptor, shown, slots_from, pending_places}
use Rattle.frame_walk.specs.Walk.{activations, AreLaid, AreInside}
use Rattle.plain_words.specs.Units.{frame_locals, point_descriptor}
use Rattle.source_model.specs.Soundness.{body_in}
use Rattle.plain_runs.specs.Host.{Host, point_at, descriptor_at}
use Rattle.plain_show.specs.Reading.{CanRead, IsReadable}

-- what the next frame is asked, and where the older ones can be read
pub can_first : (h : Host) (sp pc n : ℕ) → CanRead h sp pc (suc n) → IsReadable h pc sp (saved_at h.machine.memory sp 14)
unfolding AreLaid
can_first h sp pc n c = c.laid.0

pub can_next : (h : Host) (sp pc n : ℕ) → CanRead h sp pc (suc n) → CanRead h (saved_at h.machine.memory sp 14) (saved_at h.machine.memory sp 15 + 8) n
unfolding AreLaid
can_next h sp pc n c = record { entry = c.entry; end = c.end; low = c.low; laid = c.laid.1 }

pub can_low : (h : Host) (sp pc n : ℕ) → CanRead h sp pc n → pc < 2 ^ 32
unfolding AreLaid
can_low h sp pc zero c = let e = c.laid.1 in omega (arith, e, c.low)
can_low h sp pc (suc n) c = c.laid.0.low

-- one frame more
pub reads_next : (descs : ℕ → Descriptor) (memory : Words) (n sp pc : ℕ)
    → activations descs memory (suc n) sp (saved_at memory sp) pc [] ≡ shown memory (saved_at memory sp) sp (descs pc) ∷ activations descs memory n (saved_at memory sp 14) (saved_at memory (saved_at memory sp 14)) (saved_at memory sp 15 + 8) []
unfolding activations
reads_next descs memory n sp pc = refl

pub reads_none : (descs : ℕ → Descriptor) (memory : Words) (sp pc : ℕ) → activations descs memory 0 sp (saved_at memory sp) pc [] ≡ []
unfolding activations
reads_none descs memory sp pc = refl

last_slot : (bytes offset n : ℕ) → AreInside bytes (slots_from offset (suc n)) → offset + 4 * suc n ≤ bytes
last_slot bytes offset zero i = omega (arith, i.0.1)
last_slot bytes offset (suc n) i = omega (arith, last_slot bytes (offset + 4) n i.1)

room_for : (bytes locals k : ℕ) → 108 ≤ bytes → AreInside bytes (slots_from 108 locals) → AreInside bytes (pending_places locals k) → 108 + 4 * locals + 4 * k ≤ bytes
room_for bytes locals (suc k) low l p = omega (arith, p.0.1)
room_for bytes zero zero low l p = omega (arith, low)
room_for bytes (suc n) zero low l p = omega (arith, last_slot bytes 108 n l)

-- a frame that can be read has these words
pub has_words : (h : Host) (pc sp fp : ℕ) → IsReadable h pc sp fp → HasFrame sp (27 + frame_locals (body_in h.bodies (point_at h pc).body) + (point_at h pc).pending)
unfolding descriptor_at
has_words h pc sp fp r =
    let f = r.frame in
    let n = frame_locals (body_in h.bodies (point_at h pc).body) in
    let k = (point_at h pc).pending in
    let room = room_for (4 * f.words) n k (omega (arith, f.fits.holder.1)) f.fits.locals f.fits.pending in
    (f.place.0, f.place.1, f.place.2, omega (arith, f.place.3, room))

pub window_word : (memory : Words) (sp k : ℕ) → k < 16 → saved_at memory sp k ≡ word_at memory (sp + 4 * k)
unfolding saved_at
window_word memory sp k lt = cond-true (nat_lt k 16) (word_at memory (sp + 4 * k)) 0 (lt-ltb k 16 lt)

-- where a frame can be read, all of it is told by what its point says
pub reads_body : (h : Host) (pc sp fp : ℕ) (p : Point) (b : Body) (n : ℕ) → IsReadable h pc sp fp → p ≡ point_at h pc → b ≡ body_in h.bodies p.body → n ≡ frame_locals b
    → HasFrame sp (27 + n + p.pending) × (p.pending ≤ 79) × (descriptor_at h pc ≡ point_descriptor n p)
unfolding descriptor_at
reads_body h pc sp fp p b n r ep eb en =
    let same : n ≡ frame_locals (body_in h.bodies (point_at h pc).body) = en ∙ ap frame_locals (eb ∙ ap (λ (q : Point). body_in h.bodies q.body) ep) in
    let pending : p.pending ≡ (point_at h pc).pending = ap (λ (q : Point). q.pending) ep in
    let has = has_words h pc sp fp r in
    let few = r.pending in
    ((has.0, has.1, has.2, omega (arith, has.3, same, pending)), omega arith, (λ i. point_descriptor ((sym same) i) ((sym ep) i)))

-- the next frame of some, and where the older ones can be read
pub first_of : (h : Host) (sp pc n j : ℕ) → j < n → CanRead h sp pc (n - j) → IsReadable h pc sp (saved_at h.machine.memory sp 14)
first_of h sp pc n j lt c = let P : ℕ → Type 0 = λ k. CanRead h sp pc k in can_first h sp pc (n - (j + 1)) (subst P (omega arith) c)

pub next_of : (h : Host) (sp pc n j : ℕ) → j < n → CanRead h sp pc (n - j) → CanRead h (saved_at h.machine.memory sp 14) (saved_at h.machine.memory sp 15 + 8) (n - (j + 1))
next_of h sp pc n j lt c = let P : ℕ → Type 0 = λ k. CanRead h sp pc k in can_next h sp pc (n - (j + 1)) (subst P (omega arith) c)

pub has_window : (h : Host) (pc sp fp : ℕ) → IsReadable h pc sp fp → HasFrame sp 16
has_window h pc sp fp r = let f = r.frame in (f.place.0, f.place.1, f.place.2, omega (arith, f.place.3, f.room))

-- one frame more in a list
pub list_next : (descs : ℕ → Descriptor) (memory : Words) (n j sp pc : ℕ) (fs : List Frame) → j < n
    → (fs ++ shown memory (saved_at memory sp) sp (descs pc) ∷ []) ++ activations descs memory (n - (j + 1)) (saved_at memory sp 14) (saved_at memory (saved_at memory sp 14)) (saved_at memory sp 15 + 8) []
    ≡ fs ++ activations descs memory (n - j) sp (saved_at memory sp) pc []
list_next descs memory n j sp pc fs lt =
    let e : n - j ≡ suc (n - (j + 1)) = omega arith in
    append_assoc fs (shown memory (saved_at memory sp) sp (descs pc) ∷ []) (activations descs memory (n - (j + 1)) (saved_at memory sp 14) (saved_at memory (saved_at memory sp 14)) (saved_at memory sp 15 + 8) [])
    ∙ ap (λ xs. fs ++ xs) (sym (reads_next descs memory (n - (j + 1)) sp pc))
    ∙ ap (λ k. fs ++ activations descs memory k sp (saved_at memory sp) pc []) (sym e)

pub list_done : (descs : ℕ → Descriptor) (memory : Words) (n j sp pc : ℕ) (fs all : List Frame) → n ≤ j → fs ++ activations descs memory (n - j) sp (saved_at memory sp) pc [] ≡ all → fs ≡ all
list_done descs memory n j sp pc fs all le e =
    let z : n - j ≡ 0 = omega arith in
    sym (append-nil fs) ∙ ap (λ xs. fs ++ xs) (sym (ap (λ k. activations descs memory k sp (saved_at memory sp) pc []) z ∙ reads_none descs memory sp pc)) ∙ e

pub list_next_as : (descs : ℕ → Descriptor) (memory : Words) (n j sp pc older returns : ℕ) (fs new : List Frame) → j < n → new ≡ fs ++ shown memory (saved_at memory sp) sp (descs pc) ∷ []
    → older ≡ saved_at memory sp 14 → returns ≡ saved_at memory sp 15
    → new ++ activations descs memory (n - (j + 1)) older (saved_at memory older) (returns + 8) [] ≡ fs ++ activations descs memory (n - j) sp (saved_at memory sp) pc []
list_next_as descs memory n j sp pc older returns fs new lt e eo er =
    (λ i. e i ++ activations descs memory (n - (j + 1)) (eo i) (saved_at memory (eo i)) (er i + 8) []) ∙ list_next descs memory n j sp pc fs lt

pub next_as : (h : Host) (sp pc n j older returns : ℕ) → j < n → older ≡ saved_at h.machine.memory sp 14 → returns ≡ saved_at h.machine.memory sp 15 → CanRead h sp pc (n - j) → CanRead h older (returns + 8) (n - (j + 1))
next_as h sp pc n j older returns lt eo er c =
    let P : ℕ → ℕ → Type 0 = λ a b. CanRead h a (b + 8) (n - (j + 1)) in
    subst (λ a. P a returns) (sym eo) (subst (P (saved_at h.machine.memory sp 14)) (sym er) (next_of h sp pc n j lt c))
