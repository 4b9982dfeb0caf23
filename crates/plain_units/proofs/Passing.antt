-- What holds of frames and units holds where a unit is put behind the others.
use Rattle.std.proofs.Common.{◌≡◌, ◌≢◌, ℕ, suc, ◌+◌, ◌-◌, ◌/◌, ◌<◌, ◌≤◌, ◌==◌, refl, ◌∙◌, ap, sym, subst, arith, inl, inr}
use Rattle.std.specs.Prelude.{Bool, true, false, if◌then◌else◌, List, [], ◌∷◌, ◌++◌, length, Some, slice_get, get_or}
use Rattle.std.proofs.lemmas.Option.{slice_get-get_or, slice_get_within}
use Rattle.std.proofs.lemmas.Bool.{eqb-true, eqb-false}
use Rattle.self_terms.specs.declared.nodes.Node.{Node}
use Rattle.self_terms.specs.declared.nodes.Node.TheVariants as nodes
use Rattle.sparc_store.specs.Words.{Words, word_at}
use Rattle.sparc_store.specs.Windows.{Frame as Window, saved_at}
use Rattle.source_model.specs.Soundness.{body_in}
use Rattle.frame_walk.specs.Raw.{Going}
use Rattle.frame_walk.specs.Walk.{activations, AreLaid, SameBetween}
use Rattle.frame_walk.proofs.Resting.{rests, laid_as, shown_as, saved_same}
use Rattle.plain_words.specs.Units.{unit_code, unit_points, owns_context}
use Rattle.plain_runs.specs.Host.{Host, first_unit, descriptor_at, seen, waiting, thread_of, threads_from}
use Rattle.plain_runs.specs.declared.status.Status.{Status}
use Rattle.plain_runs.specs.declared.status.Status.TheVariants.{Waiting, Answered, Failed}
use Rattle.plain_runs.specs.Units.{HasUnit, IsInPoll, IsBehindCall}
use Rattle.plain_runs.specs.Services.{next_unit, with_unit}
use Rattle.plain_runs.specs.Sound.{IsCaller, IsHeld, Calls, Polls, ending_stub}
use Rattle.plain_runs.specs.Course.{AllRun}
use Rattle.plain_runs.proofs.Located.{slice_front, slice_behind}
use Rattle.plain_runs.proofs.Pointed.{call_descriptor, in_poll_descriptor}
use Rattle.plain_runs.proofs.Working.{held_have_room, callers_have_room}
use Rattle.plain_units.specs.Putting.{IsPut, PlainEntries}
use Rattle.plain_units.proofs.Points.{unit_front, set_there, set_elsewhere, at_same}

is_same : (a b : ℕ) → (a == b) ≡ true → a ≡ b
is_same a b e = eqb-true a b e

not_same : (a b : ℕ) → (a == b) ≡ false → a ≢ b
not_same a b e = eqb-false a b e

module _ (h : Host) (c : ℕ) (memory : Words) (put : IsPut h c memory) where
  abbrev pub hu : Host
  hu = with_unit c memory h

  -- a unit that is there has another body
  other : (b at : ℕ) → HasUnit h b at → b - 1 ≢ c - 1
  other b at u e =
      let here : Some 0 ≡ Some at = sym put.none ∙ ap (slice_get h.entries) (sym e) ∙ u.entry in
      let none : at ≡ 0 = (let f : Some 0 ≡ Some at = here in cc) in
      absurd (omega (arith, none, u.from))

  pub unit_in : (b at : ℕ) → HasUnit h b at → HasUnit hu b at
  unit_in b at u =
      let x = body_in h.bodies b in
      let code = unit_code h.references x in
      let front = unit_front h b at u in
      record {
        given = u.given;
        known = u.known;
        entry = set_elsewhere h.entries (c - 1) (b - 1) (next_unit h) (other b at u) ∙ u.entry;
        from = u.from;
        region = u.region;
        code = at_same code h.machine.memory memory at (λ a low. put.apart.others a (inl (omega (arith, low, front)))) u.code;
        points = λ j low. slice_front h.points (unit_points h.references c (body_in h.bodies c)) ((at - first_unit) / 4 + j) (omega (arith, low, front, u.from, u.region.aligned)) ∙ u.points j low;
      }

  pub new_unit : HasUnit hu c (next_unit h)
  new_unit =
      let x = body_in h.bodies c in
      let there : c - 1 < length h.entries = slice_get_within h.entries (c - 1) 0 put.none in
      record {
        given = put.given;
        known = put.known;
        entry = set_there h.entries (c - 1) (next_unit h) there;
        from = omega arith;
        region = put.region;
        code = put.code;
        points = λ j low. ap (slice_get (h.points ++ unit_points h.references c x)) (let e : (next_unit h - first_unit) / 4 + j ≡ length h.points + j = omega arith in e) ∙ slice_behind h.points (unit_points h.references c x) (length h.points) j refl;
      }

  plain_by : (b at : ℕ) (q : Bool) → (b - 1 == c - 1) ≡ q → ((b at : ℕ) → 0 < b → slice_get h.entries (b - 1) ≡ Some at → at ≢ 0 → owns_context (body_in h.bodies b) ≡ false) → owns_context (body_in h.bodies c) ≡ false
      → 0 < b → slice_get hu.entries (b - 1) ≡ Some at → at ≢ 0 → owns_context (body_in h.bodies b) ≡ false
  plain_by b at true e plain own given is some =
      let same : b - 1 ≡ c - 1 = is_same (b - 1) (c - 1) e in
      let body : b ≡ c = omega (arith, same, given, put.given) in
      ap (λ k. owns_context (body_in h.bodies k)) body ∙ own
  plain_by b at false e plain own given is some = plain b at given (sym (set_elsewhere h.entries (c - 1) (b - 1) (next_unit h) (not_same (b - 1) (c - 1) e)) ∙ is) some

  pub plain_in : PlainEntries h → owns_context (body_in h.bodies c) ≡ false → PlainEntries hu
  plain_in plain own b at given is some = plain_by b at (b - 1 == c - 1) refl plain own given is some

  -- Frames.

  pub behind_in : (pc b n : ℕ) (node : Node) → IsBehindCall h pc b n node → IsBehindCall hu pc b n node
  behind_in pc b n node k = record { at = k.at; unit = unit_in b k.at k.unit; node_is = k.node_is; call = k.call; address = k.address }

  pub caller_in : (pc sp fp : ℕ) → IsCaller h pc sp fp → IsCaller hu pc sp fp
  caller_in pc sp fp k = record { body = k.body; number = k.number; node = k.node; call = behind_in pc k.body k.number k.node k.call; room = record { ends = k.room.ends; place = k.room.place } }

  in_poll_in : (pc b n : ℕ) → IsInPoll h pc b n → IsInPoll hu pc b n
  in_poll_in pc b n p = record { at = p.at; word = p.word; unit = unit_in b p.at p.unit; inside = p.inside; within = p.within; address = p.address }

  pub held_in : (pc sp fp : ℕ) → IsHeld h pc sp fp → IsHeld hu pc sp fp
  held_in pc sp fp (Calls k) = Calls (caller_in pc sp fp k)
  held_in pc sp fp (Polls b n p run room) = Polls b n (in_poll_in pc b n p) run (record { ends = room.ends; place = room.place })

  caller_told : (pc sp fp : ℕ) → IsCaller h pc sp fp → descriptor_at hu pc ≡ descriptor_at h pc
  caller_told pc sp fp k = call_descriptor hu pc k.body k.number k.node (behind_in pc k.body k.number k.node k.call) ∙ sym (call_descriptor h pc k.body k.number k.node k.call)

  pub held_told : (pc sp fp : ℕ) → IsHeld h pc sp fp → descriptor_at hu pc ≡ descriptor_at h pc
  held_told pc sp fp (Calls k) = caller_told pc sp fp k
  held_told pc sp fp (Polls b n p run room) =
      let x = body_in h.bodies b in
      let there = slice_get-get_or x.nodes n nodes.End p.inside in
      in_poll_descriptor hu pc b n (get_or x.nodes n nodes.End) (in_poll_in pc b n p) there ∙ sym (in_poll_descriptor h pc b n (get_or x.nodes n nodes.End) p there)

  -- words from the heap on are the same
  pub above : (b : ℕ) → 0x20000000 ≤ b → word_at memory b ≡ word_at h.machine.memory b
  above b high = put.apart.others b (inr (omega (arith, high, put.region.to)))

  pub high_same : (from end : ℕ) → 0x40000000 ≤ from → SameBetween from end h.machine.memory memory
  high_same from end high b low below = above b (omega (arith, low, high))

  -- frames of a stack show the same, and are laid
  pub record Kept (entry n sp pc : ℕ) (window : Window) (held : List Window) : Type 0 where
    pub shows : activations (descriptor_at hu) memory n sp window pc held ≡ activations (descriptor_at h) h.machine.memory n sp window pc held
    pub laid : AreLaid (IsHeld hu) entry ending_stub memory n sp window pc held

  pub kept_in : AllRun h → (entry n sp pc : ℕ) (window : Window) (held : List Window) → 0x40000000 ≤ sp → AreLaid (IsHeld h) entry ending_stub h.machine.memory n sp window pc held → Kept entry n sp pc window held
  kept_in run entry n sp pc window held high laid =
      let r = rests (descriptor_at h) (IsHeld h) entry ending_stub h.machine.memory memory n sp window pc held (held_have_room h run) laid (high_same sp (entry + 64) high) in
      record {
        shows = shown_as (descriptor_at h) (descriptor_at hu) (IsHeld h) entry ending_stub memory n sp window pc held held_told r.1 ∙ r.0;
        laid = laid_as (IsHeld h) (IsHeld hu) entry ending_stub memory n sp window pc held held_in r.1;
      }

  pub callers_in : AllRun h → (entry n sp pc : ℕ) (window : Window) (held : List Window) → 0x40000000 ≤ sp → AreLaid (IsCaller h) entry ending_stub h.machine.memory n sp window pc held → AreLaid (IsCaller hu) entry ending_stub memory n sp window pc held
  callers_in run entry n sp pc window held high laid =
      let r = rests (descriptor_at h) (IsCaller h) entry ending_stub h.machine.memory memory n sp window pc held (callers_have_room h run) laid (high_same sp (entry + 64) high) in
      laid_as (IsCaller h) (IsCaller hu) entry ending_stub memory n sp window pc held caller_in r.1

  pub saved_in : (at : ℕ) → 0x40000000 ≤ at → saved_at memory at ≡ saved_at h.machine.memory at
  saved_in at high = saved_same h.machine.memory memory at (high_same at (at + 64) high)

-- threads of two hosts are the same where each is
pub threads_same : (h to : Host) (from : ℕ) (ss : List Status) → ((j : ℕ) (s : Status) → slice_get ss j ≡ Some s → thread_of to (from + j) s ≡ thread_of h (from + j) s) → threads_from to from ss ≡ threads_from h from ss
threads_same h to from [] each = refl
threads_same h to from (s ∷ ss) each =
    let here : from + 0 ≡ from = omega arith in
    let first : thread_of to from s ≡ thread_of h from s = (let P : ℕ → Type 0 = λ k. thread_of to k s ≡ thread_of h k s in subst P here (each 0 s refl)) in
    ap (λ t. t ∷ threads_from to (from + 1) ss) first
    ∙ ap (λ ts. thread_of h from s ∷ ts) (threads_same h to (from + 1) ss (λ j x e. let later : from + suc j ≡ from + 1 + j = omega arith in (let P : ℕ → Type 0 = λ k. thread_of to k x ≡ thread_of h k x in subst P later (each (suc j) x e))))

by_current : (h to : Host) (k sp pc n : ℕ) (q : Bool) → (k == h.current) ≡ q → (k ≡ h.current → seen to ≡ seen h) → (k ≢ h.current → waiting to sp pc n ≡ waiting h sp pc n) → (if q then seen to else waiting to sp pc n) ≡ (if q then seen h else waiting h sp pc n)
by_current h to k sp pc n true e now waits = now (is_same k h.current e)
by_current h to k sp pc n false e now waits = waits (not_same k h.current e)

-- one that waits shows the same, and so does the current one
pub thread_same : (h to : Host) (k : ℕ) (s : Status) → to.current ≡ h.current → (k ≡ h.current → (sp pc n : ℕ) → s ≡ Waiting sp pc n → seen to ≡ seen h) → (k ≢ h.current → (sp pc n : ℕ) → s ≡ Waiting sp pc n → waiting to sp pc n ≡ waiting h sp pc n) → thread_of to k s ≡ thread_of h k s
thread_same h to k (Answered w) e now waits = refl
thread_same h to k (Failed x p) e now waits = refl
thread_same h to k (Waiting sp pc n) e now waits =
    ap (λ c. Going (if k == c then seen to else waiting to sp pc n)) e ∙ ap Going (by_current h to k sp pc n (k == h.current) refl (λ same. now same sp pc n refl) (λ ne. waits ne sp pc n refl))
