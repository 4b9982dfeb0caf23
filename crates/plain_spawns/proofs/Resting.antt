-- Words put at the heap's top leave what activities show whose frames all stand in memory.
use Rattle.std.proofs.Common.{◌≡◌, ℕ, suc, ◌+◌, ◌*◌, ◌/◌, ◌≤◌, refl, ◌∙◌, ap, sym, subst, arith, inl, inr}
use Rattle.std.specs.Prelude.{List, [], ◌∷◌, length, map, Some, slice_get}
use Rattle.sparc_store.specs.Words.{Words, word_at, IsWithin}
use Rattle.sparc_store.specs.Windows.{Frame as Window, saved_at}
use Rattle.frame_walk.specs.Raw.{Going}
use Rattle.frame_walk.specs.Walk.{activations, AreLaid, SameBetween}
use Rattle.frame_walk.proofs.Resting.{rests, saved_same}
use Rattle.plain_words.specs.Moves.{with_words}
use Rattle.plain_runs.specs.Host.{Host, threads_from, descriptor_at}
use Rattle.plain_runs.specs.declared.status.Status.{Status}
use Rattle.plain_runs.specs.declared.status.Status.TheVariants.{Waiting, Answered, Failed}
use Rattle.plain_runs.specs.Sound.{IsHeld, entry_frame, ending_stub}
use Rattle.plain_runs.specs.Course.{AllRun}
use Rattle.plain_runs.proofs.Keeping.{SameCode}
use Rattle.plain_runs.proofs.Taking.{take_up_kept}
use Rattle.plain_runs.proofs.Working.{held_have_room, same_stack}
use Rattle.plain_begins.proofs.Parking.{Parks, Lies, Ready, lying}
use Rattle.plain_evaluates.proofs.Laid.{put_apart, put_within}

-- In this memory, which has the code of the host's, the goal and what is left of the plain cost, the activities with these statuses show what they showed.
pub record Rests (h : Host) (memory : Words) (ss : List Status) : Type 0 where
  pub within : IsWithin memory
  pub code : SameCode h.machine.memory memory
  pub goal : word_at memory 0x30000000 ≡ word_at h.machine.memory 0x30000000
  pub left : word_at memory 0x30000004 ≡ word_at h.machine.memory 0x30000004
  pub long : length ss ≡ length h.statuses
  pub laid : (k : ℕ) (x : Status) → slice_get ss k ≡ Some x → Lies h memory k x
  pub ready : (k : ℕ) (x : Status) → slice_get ss k ≡ Some x → Ready h memory k x
  pub shows : map (lying h memory) ss ≡ threads_from h 0 h.statuses

same_map : {A B : Type 0} (f g : A → B) (xs : List A) → ((k : ℕ) (x : A) → slice_get xs k ≡ Some x → f x ≡ g x) → map f xs ≡ map g xs
same_map f g [] each = refl
same_map f g (x ∷ xs) each = ap (λ y. y ∷ map f xs) (each 0 x refl) ∙ ap (λ ys. g x ∷ ys) (same_map f g xs (λ k y e. each (suc k) y e))

stack_high : (k sp : ℕ) → sp / 0x02000000 ≡ entry_frame k / 0x02000000 → 0x40000000 ≤ sp
stack_high k sp e = omega (arith, e)

module _ (h : Host) (run : AllRun h) (old new : Words) (same : (b : ℕ) → 0x40000000 ≤ b → word_at new b ≡ word_at old b) where
  one_stays : (k sp pc count : ℕ) → AreLaid (IsHeld h) (entry_frame k) ending_stub old count sp (saved_at old sp) pc []
      → (activations (descriptor_at h) new count sp (saved_at new sp) pc [] ≡ activations (descriptor_at h) old count sp (saved_at old sp) pc [])
      × AreLaid (IsHeld h) (entry_frame k) ending_stub new count sp (saved_at new sp) pc []
  one_stays k sp pc count l =
      let held = held_have_room h run in
      let up = stack_high k sp (same_stack (descriptor_at h) (IsHeld h) (entry_frame k) ending_stub old count sp (saved_at old sp) pc [] held l) in
      let between : (to : ℕ) → SameBetween sp to old new = λ to b from below. same b (omega (arith, up, from)) in
      let q = rests (descriptor_at h) (IsHeld h) (entry_frame k) ending_stub old new count sp (saved_at old sp) pc [] held l (between (entry_frame k + 64)) in
      let first : saved_at new sp ≡ saved_at old sp = saved_same old new sp (between (sp + 64)) in
      let P : Window → Type 0 = λ w. AreLaid (IsHeld h) (entry_frame k) ending_stub new count sp w pc [] in
      (ap (λ (w : Window). activations (descriptor_at h) new count sp w pc []) first ∙ q.0, subst P (sym first) q.1)

  lies_on : (k : ℕ) (x : Status) → Lies h old k x → Lies h new k x
  lies_on k (Waiting sp pc count) l = (one_stays k sp pc count l).1
  lies_on k (Answered w) l = tt
  lies_on k (Failed e p) l = tt

  ready_on : (k : ℕ) (x : Status) → Lies h old k x → Ready h old k x → Ready h new k x
  ready_on k (Waiting sp pc count) l r =
      let held = held_have_room h run in
      let up = stack_high k sp (same_stack (descriptor_at h) (IsHeld h) (entry_frame k) ending_stub old count sp (saved_at old sp) pc [] held l) in
      take_up_kept h held old new k sp pc count (λ b from below. same b (omega (arith, up, from))) r
  ready_on k (Answered w) l r = tt
  ready_on k (Failed e p) l r = tt

  lying_on : (k : ℕ) (x : Status) → Lies h old k x → lying h new x ≡ lying h old x
  lying_on k (Waiting sp pc count) l = ap Going (one_stays k sp pc count l).0
  lying_on k (Answered w) l = refl
  lying_on k (Failed e p) l = refl

pub rests_on : (h : Host) → AllRun h → (memory : Words) (ss : List Status) → Parks h memory ss → (top : ℕ) (ws : List ℕ) → 0x20000000 ≤ top → top + 4 * length ws ≤ 0x20000000 + 46137344 → Rests h (with_words memory top ws) ss
rests_on h run memory ss park top ws low room =
    let new = with_words memory top ws in
    let same : (b : ℕ) → 0x40000000 ≤ b → word_at new b ≡ word_at memory b = λ b high. put_apart ws memory top b (inr (omega (arith, high, room))) in
    record {
      within = put_within ws memory top park.within;
      code = λ b lt. put_apart ws memory top b (inl (omega (arith, lt, low))) ∙ park.low b (omega (arith, lt));
      goal = put_apart ws memory top 0x30000000 (inr (omega (arith, room))) ∙ park.low 0x30000000 (omega arith);
      left = put_apart ws memory top 0x30000004 (inr (omega (arith, room))) ∙ park.low 0x30000004 (omega arith);
      long = park.long;
      laid = λ k x e. lies_on h run memory new same k x (park.laid k x e);
      ready = λ k x e. ready_on h run memory new same k x (park.laid k x e) (park.ready k x e);
      shows = same_map (lying h new) (lying h memory) ss (λ k x e. lying_on h run memory new same k x (park.laid k x e)) ∙ park.shows;
    }
