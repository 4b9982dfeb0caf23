-- Errors end the current activity.
use Rattle.std.proofs.Common.{◌≡◌, ◌≢◌, ℕ, zero, suc, ◌+◌, ◌<◌, ◌≤◌, ◌==◌, refl, ◌∙◌, ap, sym, subst, arith}
use Rattle.std.specs.Prelude.{Bool, false, if◌then◌else◌, List, [], ◌∷◌, length, Some, Err, slice_get, slice_set, All}
use Rattle.std.proofs.lemmas.Grind.{common_steps}
use Rattle.self_terms.specs.declared.errors.ErrorName.{ErrorName}
use Rattle.self_terms.specs.declared.errors.ErrorName.TheVariants as errors
use Rattle.self_terms.specs.declared.nodes.Node.{Node}
use Rattle.self_terms.specs.declared.nodes.Selector.{Selector}
use Rattle.self_terms.specs.declared.values.BodyId.{BodyId}
use Rattle.self_terms.specs.declared.nodes.Place.{Place}
use Rattle.self_terms.specs.Depths.{depth}
use Rattle.sparc_store.specs.Words.{Words}
use Rattle.sparc_store.specs.Windows.{Frame as Window, saved_at, frame_before, but_first}
use Rattle.sparc_machine.specs.State.{MachineState}
use Rattle.source_model.specs.declared.objects.Content.TheVariants.{Method}
use Rattle.source_model.specs.Messages.{Holds, body_of}
use Rattle.source_model.specs.Soundness.{body_in}
use Rattle.source_model.specs.State.{Activation, Running, Failed as Ended_by, State, with_current}
use Rattle.source_model.specs.Step.{done, node_at, place_at, place_of}
use Rattle.heap_cells.specs.Source.{Plain as without}
use Rattle.frame_walk.specs.Places.{Descriptor, Frame}
use Rattle.frame_walk.specs.Raw.{Raw, Going, Failed as Failure}
use Rattle.frame_walk.specs.Walk.{activations, AreLaid}
use Rattle.raw_steps.specs.Ends.{Ends}
use Rattle.raw_steps.specs.Sends.{here_of, begins, method_entry, at_node}
use Rattle.raw_steps.specs.Meeting.{HasCore}
use Rattle.raw_steps.specs.Stands.{Sense, Stands, IsAt, AreActivations, makes_blocks}
use Rattle.raw_steps.proofs.Failing.{fails_follow, ends_follow}
use Rattle.raw_steps.proofs.Lasting.{core_stays}
use Rattle.raw_steps.proofs.Nexts.{current_all}
use Rattle.raw_steps.proofs.Refusing.{overflows}
use Rattle.raw_steps.proofs.Sending.{method_enters, missing_is}
use Rattle.plain_words.specs.Showing.{viewed}
use Rattle.plain_words.specs.Units.{owns_context, frame_locals}
use Rattle.plain_runs.specs.declared.status.Status.{Status}
use Rattle.plain_runs.specs.declared.status.Status.TheVariants.{Waiting, Answered, Failed}
use Rattle.plain_runs.specs.Host.{Host, seen, waiting, thread_of, threads_from, raw_of, descriptor_at, heap_words}
use Rattle.plain_runs.specs.Services.{failed}
use Rattle.plain_runs.specs.Sound.{RunsAt, IsWindow, IsCaller, callers_of, entry_frame, ending_stub}
use Rattle.plain_runs.specs.Course.{with_machine}
use Rattle.plain_runs.proofs.Pointed.{call_descriptor}
use Rattle.plain_runs.proofs.Popping.{hosted_same}
use Rattle.plain_steps.specs.Steps.{StandsFor}
use Rattle.plain_sends.specs.Sends.{IsSent, met_of}
use Rattle.plain_steps.proofs.Answering.{no_context, wants_none}
use Rattle.plain_steps.proofs.Here.{at_node_of}
use Rattle.plain_steps.proofs.Words.{stands_after}
use Rattle.plain_answers.specs.Failing.{PlainUnits, ActivitiesEnd, ErrorsFail, MissingFails, OverflowFails, PlacesAgree}

-- Threads, where the current activity has failed.

other : (a b : ℕ) → a ≢ b → (a == b) ≡ false
other a b ne = grind (arith, common_steps)

abbrev gone : Host → MachineState → ErrorName → Place → Host
gone h m e p = failed e p (with_machine h m)

thread_after : (h : Host) (m : MachineState) (e : ErrorName) (p : Place) (k : ℕ) (s : Status) → m.memory ≡ h.machine.memory → k ≢ h.current → thread_of (gone h m e p) k s ≡ thread_of h k s
unfolding descriptor_at
thread_after h m e p k (Waiting sp pc n) same ne =
    ap (λ b. Going (if b then seen (gone h m e p) else waiting (gone h m e p) sp pc n)) (other k h.current ne)
    ∙ ap (λ y. Going (activations (descriptor_at h) y n sp (saved_at y sp) pc [])) same
    ∙ sym (ap (λ b. Going (if b then seen h else waiting h sp pc n)) (other k h.current ne))
thread_after h m e p k (Answered w) same ne = refl
thread_after h m e p k (Failed x q) same ne = refl

threads_after : (h : Host) (m : MachineState) (e : ErrorName) (p : Place) (from : ℕ) (ss : List Status) → m.memory ≡ h.machine.memory → h.current < from → threads_from (gone h m e p) from ss ≡ threads_from h from ss
threads_after h m e p from [] same low = refl
threads_after h m e p from (s ∷ ss) same low =
    ap (λ t. t ∷ threads_from (gone h m e p) (from + 1) ss) (thread_after h m e p from s same (λ is. absurd (omega (arith, is, low))))
    ∙ ap (λ ts. thread_of h from s ∷ ts) (threads_after h m e p (from + 1) ss same (omega arith))

threads_fail : (h : Host) (m : MachineState) (e : ErrorName) (p : Place) (from c : ℕ) (ss : List Status) (s : Status) → m.memory ≡ h.machine.memory → h.current ≡ from + c → slice_get ss c ≡ Some s
    → threads_from (gone h m e p) from (slice_set ss c (Failed e p)) ≡ slice_set (threads_from h from ss) c (Failure e p)
threads_fail h m e p from c [] s same at is = absurd (cc)
threads_fail h m e p from zero (x ∷ ss) s same at is = ap (λ ts. Failure e p ∷ ts) (threads_after h m e p (from + 1) ss same (omega (arith, at)))
threads_fail h m e p from (suc c) (x ∷ ss) s same at is =
    ap (λ t. t ∷ threads_from (gone h m e p) (from + 1) (slice_set ss c (Failed e p))) (thread_after h m e p from x same (λ it. absurd (omega (arith, it, at))))
    ∙ ap (λ ts. thread_of h from x ∷ ts) (threads_fail h m e p (from + 1) c ss s same (omega (arith, at)) is)

-- Frames without contexts.

abbrev ArePlain : Host → List Frame → Type 0
ArePlain h [] = Unit {0}
ArePlain h (f ∷ fs) = (owns_context (body_in h.bodies f.body) ≡ false) × ArePlain h fs

callers_plain : (h : Host) → PlainUnits h → (entry end : ℕ) (memory : Words) (n sp : ℕ) (w : Window) (pc : ℕ) (held : List Window) → AreLaid (IsCaller h) entry end memory n sp w pc held
    → ArePlain h (activations (descriptor_at h) memory n sp w pc held)
unfolding AreLaid activations
callers_plain h plain entry end memory zero sp w pc held l = tt
callers_plain h plain entry end memory (suc n) sp w pc held l =
    let c = l.0 in (
      ap (λ (d : Descriptor). owns_context (body_in h.bodies d.body)) (call_descriptor h pc c.body c.number c.node c.call) ∙ plain c.body c.call.at c.call.unit,
      callers_plain h plain entry end memory n (w 14) (frame_before memory (w 14) held) (w 15 + 8) (but_first held) l.1,
    )

-- contexts of such frames needn't be ended
none_end : (z : Sense) (h : Host) (s : State) → StandsFor z h s → (at : ℕ) (all : List Activation) (frames : List Frame) → AreActivations (makes_blocks s) z at all frames → ArePlain h frames → (mem : Words) → Ends mem frames mem
none_end z h s f at [] [] are plain mem = refl
none_end z h s f at (a ∷ older) (y ∷ ys) are plain mem =
    let kind_is : are.0.kind ≡ without = no_context z a y are.0.kind (sym are.0.wanted ∙ wants_none h s y.body a.body f.bodies are.0.body plain.0) are.0.locals in
    let none : y.context ≡ 0 = f.stands.heap.means.context a.number y.context without are.0.context (are.0.made ∙ ap Some kind_is) in
    (mem, (((λ e. refl), (λ some. absurd (some none))), none_end z h s f at older ys are.2 plain.1 mem))
none_end z h s f at [] (y ∷ ys) are plain mem = absurd are
none_end z h s f at (a ∷ older) [] are plain mem = absurd are

pub activities_end : ActivitiesEnd
activities_end z h s b n node f r can plain e place to p mv =
    let m = h.machine in
    let v = viewed m b n (frame_locals (body_in h.bodies b)) (depth (body_in h.bodies b).nodes n) in
    let callers = callers_of h r.view.older in
    let its = at_node_of z h s b n node f r in
    let all = current_all (raw_of h) s z f.stands its.young its.older v callers node its.at in
    let all_plain = callers_plain h plain (entry_frame h.current) ending_stub m.memory r.view.older (m.regs 30) (frame_before m.memory (m.regs 30) m.older) (m.regs 31 + 8) (but_first m.older) r.view.callers in
    let ends = none_end z h s f s.current (its.young ∷ its.older) (v ∷ callers) all (plain b r.poll.at r.poll.unit, all_plain) (raw_of h).mem in
    let raw = ends_follow (raw_of h) s z f.stands its.young its.older v callers node its.at e place (raw_of h).mem ends in
    let after = gone h to e place in
    let is : raw_of after ≡ record (raw_of h) { threads = slice_set (raw_of h).threads h.current (Failure e place) } = λ i. record {
      maps = h.maps;
      mem = ap heap_words mv.memory_is i;
      heap = record { top = mv.kept 6 refl i; next = h.next };
      threads = threads_fail h to e place 0 h.current h.statuses (Waiting r.view.sp r.view.pc r.view.known) mv.memory_is (omega arith) r.view.running i;
      current = h.current;
      steps = ap (λ y. h.steps + y) mv.counted i;
      cost = ap (λ y. h.cost + y) (mv.kept 3 refl) i;
    } in
    let windows = (let P : List Window → Type 0 = λ y. All IsWindow y in subst P (sym mv.older) can.hosted.windows) in
    let t = with_current (Ended_by e place) s in
    let P : Raw → Type 0 = λ q. Stands raw.to q t in
    let Q : Raw → Type 0 = λ q. HasCore q t raw.to in
    let core = core_stays z raw.to (raw_of h) (record (raw_of h) { threads = slice_set (raw_of h).threads h.current (Failure e place) }) s t f.core raw.grows refl (record { names = refl; core = refl; fixed = refl; bodies = refl }) in
    record {
      hosted = hosted_same h to mv.memory_is (mv.kept 0 refl ∙ can.hosted.register_0) windows can.hosted;
      sense = raw.to;
      stands = record {
        stands = subst P (sym is) raw.stands;
        core = subst Q (sym is) core;
        bodies = f.bodies;
        objects = λ o w at. raw.grows.objects o w (f.objects o w at);
        nil = raw.grows.objects s.core.nil h.references.nil f.nil;
        sums = f.sums;
      };
    }

pub errors_fail : ErrorsFail
errors_fail z h s b n node f r can plain a older running e err to p mv =
    let m = h.machine in
    let v = viewed m b n (frame_locals (body_in h.bodies b)) (depth (body_in h.bodies b).nodes n) in
    let callers = callers_of h r.view.older in
    let its = at_node_of z h s b n node f r in
    let same : its.young ≡ a = (let both : Some (Running (its.young ∷ its.older)) ≡ Some (Running (a ∷ older)) = sym its.at.here ∙ running in cc) in
    let at : IsAt (raw_of h) s a older v callers node = record { here = running; there = its.at.there; node_is = ap (λ (y : Activation). node_at (body_of s y.body) y.next) (sym same) ∙ its.at.node_is } in
    let all = current_all (raw_of h) s z f.stands a older v callers node at in
    let all_plain = callers_plain h plain (entry_frame h.current) ending_stub m.memory r.view.older (m.regs 30) (frame_before m.memory (m.regs 30) m.older) (m.regs 31 + 8) (but_first m.older) r.view.callers in
    let ends = none_end z h s f s.current (a ∷ older) (v ∷ callers) all (plain b r.poll.at r.poll.unit, all_plain) (raw_of h).mem in
    let place = place_of s a in
    let raw = fails_follow (raw_of h) s z f.stands a older v callers node at e (raw_of h).mem err ends in
    let after = gone h to e place in
    let is : raw_of after ≡ record (raw_of h) { threads = slice_set (raw_of h).threads h.current (Failure e place) } = λ i. record {
      maps = h.maps;
      mem = ap heap_words mv.memory_is i;
      heap = record { top = mv.kept 6 refl i; next = h.next };
      threads = threads_fail h to e place 0 h.current h.statuses (Waiting r.view.sp r.view.pc r.view.known) mv.memory_is (omega arith) r.view.running i;
      current = h.current;
      steps = ap (λ y. h.steps + y) mv.counted i;
      cost = ap (λ y. h.cost + y) (mv.kept 3 refl) i;
    } in
    let windows = (let P : List Window → Type 0 = λ y. All IsWindow y in subst P (sym mv.older) can.hosted.windows) in
    record {
      hosted = hosted_same h to mv.memory_is (mv.kept 0 refl ∙ can.hosted.register_0) windows can.hosted;
      sense = raw.to;
      stands = stands_after z h after s _ f is refl refl refl raw;
      uncounted = sym raw.stands.steps ∙ f.stands.steps;
      silent = raw.same;
    }

pub places_agree : PlacesAgree
places_agree z h s b n node f r a older running =
    let its = at_node_of z h s b n node f r in
    let same : a ≡ its.young = (let both : Some (Running (its.young ∷ its.older)) ≡ Some (Running (a ∷ older)) = sym its.at.here ∙ running in cc) in
    ap (place_of s) same
    ∙ ap (place_at (body_of s its.young.body)) (sym its.first.next)
    ∙ ap (λ k. place_at (body_of s k) n) (sym its.first.body)
    ∙ ap (λ bs. place_at (body_in bs b) n) (sym f.bodies)

-- Sends.

pub missing_fails : MissingFails
missing_fails z h s b n node sel r q f can plain e none =
    let v = viewed h.machine b n (frame_locals (body_in h.bodies b)) (depth (body_in h.bodies b).nodes n) in
    errors_fail z h s b n node f r can plain q.sender q.older q.is_at.here e
    (missing_is (raw_of h) s z f.stands q.sender q.older v (callers_of h r.view.older) node q.is_at q.message q.words sel.name.0 _ q.send e none) q.asks.to q.at q.asks.moved

seen_long : (d : ℕ → Descriptor) (memory : Words) (n sp : ℕ) (w : Window) (pc : ℕ) (held : List Window) → length (activations d memory n sp w pc held) ≡ n
unfolding activations
seen_long d memory zero sp w pc held = refl
seen_long d memory (suc n) sp w pc held = ap suc (seen_long d memory n (w 14) (frame_before memory (w 14) held) (w 15 + 8) (but_first held))

as_many : (wants : ℕ → Bool) (z : Sense) (at : ℕ) (all : List Activation) (frames : List Frame) → AreActivations wants z at all frames → length all ≡ length frames
as_many wants z at [] [] are = refl
as_many wants z at (a ∷ older) (y ∷ ys) are = ap suc (as_many wants z at older ys are.2)
as_many wants z at [] (y ∷ ys) are = absurd are
as_many wants z at (a ∷ older) [] are = absurd are

-- the step of a send that would make one activation too many
pub overflow_is : (z : Sense) (h : Host) (s : State) (b n : ℕ) (node : Node) (sel : Selector) (r : RunsAt h b n node) (q : IsSent z h s b n node sel r) → StandsFor z h s → (o : ℕ) (c : BodyId) → met_of node s q.sender ≡ Holds o (Method c) → o < length s.things → 4096 ≤ q.asks.to.regs 4
    → done (here_of s q.sender q.older) node ≡ Err errors.StackOverflow
overflow_is z h s b n node sel r q f o c met inside many =
    let m = h.machine in
    let v = viewed m b n (frame_locals (body_in h.bodies b)) (depth (body_in h.bodies b).nodes n) in
    let callers = callers_of h r.view.older in
    let all = current_all (raw_of h) s z f.stands q.sender q.older v callers node q.is_at in
    let long : length q.older ≡ r.view.older = as_many (makes_blocks s) z s.current q.older callers all.2 ∙ seen_long (descriptor_at h) m.memory r.view.older (m.regs 30) (frame_before m.memory (m.regs 30) m.older) (m.regs 31 + 8) (but_first m.older) in
    let counted : q.asks.to.regs 4 ≡ suc r.view.older = q.asks.moved.kept 4 refl ∙ r.view.count in
    let enters = method_enters (raw_of h) s z f.stands q.sender q.older v callers node q.is_at q.message q.words sel.name.0 _ q.send o c met inside in
    enters ∙ overflows (begins s (method_entry q.message o c)) (at_node q.sender.next q.message.rest q.sender ∷ q.older) s (omega (arith, many, counted, long))

pub overflow_fails : OverflowFails
overflow_fails z h s b n node sel r q f can plain o c met inside many = errors_fail z h s b n node f r can plain q.sender q.older q.is_at.here _ (overflow_is z h s b n node sel r q f o c met inside many) q.asks.to q.at q.asks.moved
