-- What stays of the other activities where the current one's stack, the heap and the control region change.
use Rattle.std.proofs.Common.{◌≡◌, ◌≢◌, ℕ, zero, suc, ◌+◌, ◌/◌, ◌<◌, ◌≤◌, ◌==◌, refl, ◌∙◌, ap, sym, subst, arith}
use Rattle.std.specs.Prelude.{false, if◌then◌else◌, List, [], ◌∷◌, length, All, Some, slice_get, slice_set}
use Rattle.std.proofs.lemmas.Grind.{common_steps}
use Rattle.sparc_insn.specs.declared.insn.Insn.TheVariants.{Trap}
use Rattle.sparc_store.specs.Words.{word_at, IsWithin}
use Rattle.sparc_store.specs.Windows.{Frame as Window, saved_at}
use Rattle.sparc_machine.specs.State.{MachineState}
use Rattle.heap_cells.proofs.Numbered.{got_other}
use Rattle.frame_walk.specs.Raw.{Thread, Going}
use Rattle.frame_walk.specs.Walk.{activations, AreLaid, SameBetween}
use Rattle.frame_walk.proofs.Resting.{rests, laid_as, saved_same, ends_below}
use Rattle.plain_runs.specs.Host.{Host, seen, waiting, thread_of, threads_from, descriptor_at}
use Rattle.plain_runs.specs.declared.status.Status.{Status}
use Rattle.plain_runs.specs.declared.status.Status.TheVariants.{Waiting, Answered, Failed}
use Rattle.plain_runs.specs.Units.{HasUnit}
use Rattle.plain_runs.specs.Sound.{IsWindow, IsCaller, IsHeld, Calls, Polls, IsHosted, entry_frame, ending_stub}
use Rattle.plain_runs.specs.Course.{with_machine, AllRun}
use Rattle.plain_runs.proofs.Keeping.{SameCode, unit_kept, stub_kept, held_kept, OthersWait}
use Rattle.plain_runs.proofs.Taking.{take_up_as, taken_up_on}
use Rattle.plain_runs.proofs.Working.{held_have_room, same_stack, same_descriptors}

-- a machine whose memory has the same code and, but for the stack of the current activity, the same stacks
pub record IsApart (h : Host) (to : MachineState) (goal : ℕ) : Type 0 where
  pub code : SameCode h.machine.memory to.memory
  pub stacks : (b : ℕ) → 0x40000000 ≤ b → b / 0x02000000 ≢ entry_frame h.current / 0x02000000 → word_at to.memory b ≡ word_at h.machine.memory b
  pub goal_is : word_at to.memory 0x30000000 ≡ goal
  pub few : goal ≤ 1000000000
  pub within : IsWithin to.memory
  pub zero_is : to.regs 0 ≡ 0
  pub windows : All IsWindow to.older

pub record Kept (h : Host) (to : MachineState) : Type 0 where
  pub hosted : IsHosted (with_machine h to)
  pub waits : OthersWait h (with_machine h to) 0 h.statuses

stack_high : (k sp : ℕ) → sp / 0x02000000 ≡ entry_frame k / 0x02000000 → 0x40000000 ≤ sp
stack_high k sp e = omega (arith, e)

in_stack : (k sp b : ℕ) → sp / 0x02000000 ≡ entry_frame k / 0x02000000 → sp ≤ b → b < entry_frame k + 64 → b / 0x02000000 ≡ entry_frame k / 0x02000000
in_stack k sp b e from to = omega (arith, e, from, to)

other_entry : (j k : ℕ) → j ≢ k → entry_frame j / 0x02000000 ≢ entry_frame k / 0x02000000
other_entry j k ne e = ne (omega (arith, e))

pub kept_apart : (h : Host) (to : MachineState) (goal : ℕ) → IsHosted h → AllRun h → IsApart h to goal → Kept h to
kept_apart h to goal hosted run s =
    let m = h.machine in
    let h2 = with_machine h to in
    let held = held_have_room h run in
    let same : (k sp : ℕ) → k ≢ h.current → sp / 0x02000000 ≡ entry_frame k / 0x02000000 → SameBetween sp (entry_frame k + 64) m.memory to.memory =
    λ k sp ne at b from end. s.stacks b (omega (arith, stack_high k sp at, from)) (λ e. other_entry k h.current ne (sym (in_stack k sp b at from end) ∙ e)) in
    let first : (k sp : ℕ) → k ≢ h.current → sp / 0x02000000 ≡ entry_frame k / 0x02000000 → sp ≤ entry_frame k → saved_at to.memory sp ≡ saved_at m.memory sp =
    λ k sp ne at top. saved_same m.memory to.memory sp (λ b from end. same k sp ne at b from (omega (arith, end, top))) in
    record {
      hosted = record {
        within = s.within;
        register_0 = s.zero_is;
        windows = s.windows;
        units = λ u at given is stands. unit_kept h to u at s.code (hosted.units u at given is stands);
        stub = stub_kept (Trap 9 ∷ []) h to ending_stub s.code (omega arith) hosted.stub;
        activities = hosted.activities;
        others = λ k sp pc n is ne.
            let l = hosted.others k sp pc n is ne in
            let at = same_stack (descriptor_at h) (IsHeld h) (entry_frame k) ending_stub m.memory n sp (saved_at m.memory sp) pc [] held l in
            let top = ends_below (descriptor_at h) (IsHeld h) (entry_frame k) ending_stub m.memory n sp (saved_at m.memory sp) pc [] held l in
            let q = (rests (descriptor_at h) (IsHeld h) (entry_frame k) ending_stub m.memory to.memory n sp (saved_at m.memory sp) pc [] held l (same k sp ne at)).1 in
            let q2 = laid_as (IsHeld h) (IsHeld h2) (entry_frame k) ending_stub to.memory n sp (saved_at m.memory sp) pc [] (λ u a f x. held_kept h to u a f s.code x) q in
            (let Q : Window → Type 0 = λ v. AreLaid (IsHeld h2) (entry_frame k) ending_stub to.memory n sp v pc [] in subst Q (sym (first k sp ne at top)) q2);
        parked = λ k sp pc n is ne.
            let at = same_stack (descriptor_at h) (IsHeld h) (entry_frame k) ending_stub m.memory n sp (saved_at m.memory sp) pc [] held (hosted.others k sp pc n is ne) in
            taken_up_on h to held s.code k sp pc n (same k sp ne at) (hosted.parked k sp pc n is ne);
        goal = omega (arith, s.goal_is, s.few);
      };
      waits = λ k sp pc n is ne0.
          let ne : k ≢ h.current = λ e. ne0 (omega (arith, e)) in
          let l = hosted.others k sp pc n is ne in
          let at = same_stack (descriptor_at h) (IsHeld h) (entry_frame k) ending_stub m.memory n sp (saved_at m.memory sp) pc [] held l in
          let top = ends_below (descriptor_at h) (IsHeld h) (entry_frame k) ending_stub m.memory n sp (saved_at m.memory sp) pc [] held l in
          ap (λ d. activations d to.memory n sp (saved_at to.memory sp) pc []) (same_descriptors h to)
          ∙ ap (λ v. activations (descriptor_at h) to.memory n sp v pc []) (first k sp ne at top)
          ∙ (rests (descriptor_at h) (IsHeld h) (entry_frame k) ending_stub m.memory to.memory n sp (saved_at m.memory sp) pc [] held l (same k sp ne at)).0;
    }

-- The current activity has ended, with this status, and the host's sums are these.
abbrev pub ended : Host → MachineState → Status → ℕ → ℕ → Host
ended h to x steps cost = record h { machine = to; statuses = slice_set h.statuses h.current x; steps = steps; cost = cost }

module _ (h : Host) (to : MachineState) (x : Status) (steps cost : ℕ) where
  unit_as : (b at : ℕ) → HasUnit (with_machine h to) b at → HasUnit (ended h to x steps cost) b at
  unit_as b at u = record { given = u.given; known = u.known; entry = u.entry; from = u.from; region = u.region; code = u.code; points = u.points }

  caller_as : (pc sp fp : ℕ) → IsCaller (with_machine h to) pc sp fp → IsCaller (ended h to x steps cost) pc sp fp
  caller_as pc sp fp c = record {
    body = c.body;
    number = c.number;
    node = c.node;
    call = record { at = c.call.at; unit = unit_as c.body c.call.at c.call.unit; node_is = c.call.node_is; call = c.call.call; address = c.call.address };
    room = record { ends = c.room.ends; place = c.room.place };
  }

  held_as : (pc sp fp : ℕ) → IsHeld (with_machine h to) pc sp fp → IsHeld (ended h to x steps cost) pc sp fp
  held_as pc sp fp (Calls c) = Calls (caller_as pc sp fp c)
  held_as pc sp fp (Polls b n p r room) =
      Polls b n (record { at = p.at; word = p.word; unit = unit_as b p.at p.unit; inside = p.inside; within = p.within; address = p.address })
      r (record { ends = room.ends; place = room.place })

  set_long : (xs : List Status) (k : ℕ) → length (slice_set xs k x) ≡ length xs
  set_long [] k = refl
  set_long (y ∷ ys) zero = refl
  set_long (y ∷ ys) (suc k) = ap suc (set_long ys k)

  pub hosted_ended : IsHosted (with_machine h to) → IsHosted (ended h to x steps cost)
  hosted_ended o = record {
    within = o.within;
    register_0 = o.register_0;
    windows = o.windows;
    units = λ b at given is stands. unit_as b at (o.units b at given is stands);
    stub = o.stub;
    activities = omega (arith, set_long h.statuses h.current, o.activities);
    others = λ k sp pc n is ne.
        laid_as (IsHeld (with_machine h to)) (IsHeld (ended h to x steps cost)) (entry_frame k) ending_stub to.memory n sp (saved_at to.memory sp) pc [] held_as
        (o.others k sp pc n (sym (got_other h.statuses h.current k x ne) ∙ is) ne);
    parked = λ k sp pc n is ne.
        take_up_as (with_machine h to) (ended h to x steps cost) (λ q b j p. record { at = p.at; unit = unit_as b p.at p.unit; inside = p.inside; address = p.address }) (λ b s f r. record { ends = r.ends; place = r.place }) caller_as
        to.memory k sp pc n (o.parked k sp pc n (sym (got_other h.statuses h.current k x ne) ∙ is) ne);
    goal = o.goal;
  }

  not_current : (a b : ℕ) → a ≢ b → (a == b) ≡ false
  not_current a b ne = grind (arith, common_steps)

  one_thread : (k : ℕ) (s : Status) → k ≢ h.current → ((sp pc n : ℕ) → s ≡ Waiting sp pc n → waiting (with_machine h to) sp pc n ≡ waiting h sp pc n) → thread_of (ended h to x steps cost) k s ≡ thread_of h k s
  unfolding descriptor_at
  one_thread k (Waiting sp pc n) ne w =
      ap (λ b. Going (if b then seen (ended h to x steps cost) else waiting (with_machine h to) sp pc n)) (not_current k h.current ne)
      ∙ ap Going (w sp pc n refl)
      ∙ sym (ap (λ b. Going (if b then seen h else waiting h sp pc n)) (not_current k h.current ne))
  one_thread k (Answered w) ne f = refl
  one_thread k (Failed e p) ne f = refl

  rest_waits : (from : ℕ) (s : Status) (ss : List Status) → OthersWait h (with_machine h to) from (s ∷ ss) → OthersWait h (with_machine h to) (from + 1) ss
  rest_waits from s ss w j sp pc n e ne = w (suc j) sp pc n e (λ same. ne (omega (arith, same)))

  threads_behind : (from : ℕ) (ss : List Status) → h.current < from → OthersWait h (with_machine h to) from ss → threads_from (ended h to x steps cost) from ss ≡ threads_from h from ss
  threads_behind from [] low w = refl
  threads_behind from (s ∷ ss) low w =
      ap (λ t. t ∷ threads_from (ended h to x steps cost) (from + 1) ss) (one_thread from s (λ same. absurd (omega (arith, same, low))) (λ sp pc n is. w 0 sp pc n (ap Some is) (λ same. absurd (omega (arith, same, low)))))
      ∙ ap (λ ts. thread_of h from s ∷ ts) (threads_behind (from + 1) ss (omega arith) (rest_waits from s ss w))

  -- the threads: that of the current activity is this, whatever else the host says
  pub threads_ended : (t : Thread) → ((k : ℕ) → thread_of (ended h to x steps cost) k x ≡ t) → (from c : ℕ) (ss : List Status) (s : Status) → h.current ≡ from + c → slice_get ss c ≡ Some s → OthersWait h (with_machine h to) from ss
      → threads_from (ended h to x steps cost) from (slice_set ss c x) ≡ slice_set (threads_from h from ss) c t
  threads_ended t is from c [] s at there w = absurd (cc)
  threads_ended t is from zero (y ∷ ss) s at there w =
      ap (λ q. q ∷ threads_from (ended h to x steps cost) (from + 1) ss) (is from)
      ∙ ap (λ ts. t ∷ ts) (threads_behind (from + 1) ss (omega (arith, at)) (rest_waits from y ss w))
  threads_ended t is from (suc c) (y ∷ ss) s at there w =
      ap (λ q. q ∷ threads_from (ended h to x steps cost) (from + 1) (slice_set ss c x))
      (one_thread from y (λ same. absurd (omega (arith, same, at))) (λ sp pc n e. w 0 sp pc n (ap Some e) (λ same. absurd (omega (arith, same, at)))))
      ∙ ap (λ ts. thread_of h from y ∷ ts) (threads_ended t is (from + 1) c ss s (omega (arith, at)) there (rest_waits from y ss w))
