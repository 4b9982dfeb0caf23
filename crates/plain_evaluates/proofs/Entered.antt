-- An activation that a message begins.
use Rattle.std.proofs.Common.{◌≡◌, ◌≢◌, ℕ, zero, suc, ◌+◌, ◌-◌, ◌*◌, ◌%◌, ◌<◌, ◌≤◌, refl, ◌∙◌, ap, sym, subst, arith, length-append, inr}
use Rattle.std.specs.List.{list_any}
use Rattle.std.specs.Prelude.{Bool, true, false, ◌||◌, List, [], ◌∷◌, ◌++◌, length, slice_set}
use Rattle.object_maps.specs.declared.layout.Heap.{Heap}
use Rattle.self_terms.specs.declared.bodies.Body.{Body}
use Rattle.self_terms.specs.declared.nodes.Node.{Node}
use Rattle.self_terms.specs.declared.nodes.Node.TheVariants as nodes
use Rattle.self_terms.specs.Depths.{depth}
use Rattle.sparc_store.specs.Words.{Words, Framed}
use Rattle.sparc_store.specs.Windows.{Frame as Window, frame_before, but_first}
use Rattle.sparc_machine.specs.State.{MachineState}
use Rattle.source_model.specs.Soundness.{body_in}
use Rattle.source_model.specs.Messages.{Met, body_of}
use Rattle.source_model.specs.Sends.{enters, is_block_literal as by_source}
use Rattle.source_model.specs.State.{Activation, State}
use Rattle.source_model.specs.Step.{done, step}
use Rattle.heap_cells.specs.Shapes.{Context, words_of}
use Rattle.frame_walk.specs.Places.{Descriptor, Frame}
use Rattle.frame_walk.specs.Raw.{Thread, Going, Raw, becomes, IsFree}
use Rattle.frame_walk.specs.Walk.{activations}
use Rattle.raw_steps.specs.Sends.{here_of, at_node, frame_at, raw_after, begins, Entry, RawEntry, IsEntry, plain_frame, context_frame}
use Rattle.raw_steps.specs.Stands.{Sense, AreActivations, HasMaker, makes_blocks, Follows as RawFollows}
use Rattle.raw_steps.proofs.Calling.{plain_enters, context_enters}
use Rattle.raw_steps.proofs.Nexts.{current_all}
use Rattle.plain_words.specs.Moves.{registers_from}
use Rattle.plain_words.specs.Showing.{viewed}
use Rattle.plain_words.specs.Units.{entry_code, initial_words, owns_context, of_block, numbered, frame_locals, is_block_literal as by_words}
use Rattle.plain_runs.specs.Host.{Host, seen, threads_from, raw_of, heap_words, descriptor_at}
use Rattle.plain_runs.specs.Sound.{RunsAt, callers_of}
use Rattle.plain_runs.specs.Course.{with_machine, CanGo}
use Rattle.plain_runs.specs.Services.{handed, calls}
use Rattle.plain_runs.proofs.Keeping.{threads_set}
use Rattle.plain_steps.specs.Steps.{StandsFor, DoesStep}
use Rattle.plain_steps.proofs.Answering.{wants_none}
use Rattle.plain_steps.proofs.Words.{stands_after}
use Rattle.plain_sends.specs.Messages.{IsMessaged}
use Rattle.plain_sends.proofs.Resumming.{runs_as, hosted_as, threads_as}
use Rattle.plain_sends.proofs.Serving.{set_set}
use Rattle.plain_sends.proofs.Settling.{KeptTo, StillThere, kept_to, stays_there}
use Rattle.plain_words.specs.Moves.{CanStart, HasTop, Begins, given_maker, given_receiver, given_holder, own_context, cost_then, top_then, in_frame, begun_memory}
use Rattle.plain_evaluates.specs.Evaluates.{CanKeep, IsOpen, context_words}
use Rattle.plain_evaluates.proofs.Asked.{four_others, sender_shown, machine_called, call_settles, AtEntry, at_entry}
use Rattle.plain_evaluates.proofs.Bounds.{frame_least, initial_long, entry_few}
use Rattle.plain_evaluates.proofs.Called.{place_below, place_there, place_is, place_stack}
use Rattle.plain_evaluates.proofs.Free.{free_below}
use Rattle.plain_evaluates.proofs.Heaped.{framed_in_heap, filled_past}
use Rattle.plain_evaluates.proofs.Inside.{sender_frame, is_inside}
use Rattle.plain_evaluates.proofs.Laid.{put_apart, laid, kept_laid}
use Rattle.plain_evaluates.proofs.Saved.{Shape, frame_of, memory_after}
use Rattle.plain_evaluates.proofs.Views.{HasBegun}
use Rattle.plain_evaluates.proofs.Words.{leads_in, kept_count}

-- arguments and locals of a body: those that its frame keeps, and the words of its context
abbrev pub all_words : Host → ℕ → MachineState → List ℕ
all_words h c m = registers_from m.regs 9 (length (body_in h.bodies c).arguments) ++ initial_words h.references (body_in h.bodies c)

abbrev pub frame_part : Bool → List ℕ → List ℕ
frame_part false ws = ws
frame_part true ws = []

abbrev pub context_part : Bool → List ℕ → List ℕ
context_part false ws = []
context_part true ws = ws

abbrev pub shape_of : Bool → Bool → Host → ℕ → MachineState → Shape
shape_of owns block h c m = record { receiver = given_receiver block m; holder = given_holder block m; outer = given_maker block m; context = own_context owns m; locals = frame_part owns (all_words h c m) }

abbrev pub cell_of : Bool → Bool → Host → ℕ → MachineState → List ℕ
cell_of owns block h c m = context_part owns (numbered h.references.contexts ∷ given_maker block m ∷ place_below (with_machine h m) c ∷ given_receiver block m ∷ all_words h c m)

abbrev pub cost_more : Bool → ℕ → ℕ
cost_more false n = 0
cost_more true n = 4 + n

activations_long : (descs : ℕ → Descriptor) (memory : Words) (n sp : ℕ) (w : Window) (pc : ℕ) (held : List Window) → length (activations descs memory n sp w pc held) ≡ n
unfolding activations
activations_long descs memory zero sp w pc held = refl
activations_long descs memory (suc n) sp w pc held = ap suc (activations_long descs memory n (w 14) (frame_before memory (w 14) held) (w 15 + 8) (but_first held))

as_many : (wants : ℕ → Bool) (z : Sense) (at : ℕ) (all : List Activation) (fs : List Frame) → AreActivations wants z at all fs → length all ≡ length fs
as_many wants z at [] [] h = refl
as_many wants z at (a ∷ all) (f ∷ fs) h = ap suc (as_many wants z at all fs h.2)
as_many wants z at [] (f ∷ fs) h = absurd h
as_many wants z at (a ∷ all) [] h = absurd h

-- as many activations wait behind the sender's in the source as in words
pub many_older : (z : Sense) (h : Host) (s : State) (b n : ℕ) (node : Node) (args name : ℕ) (met : Met) (r : RunsAt h b n node) (mt : MachineState) (q : IsMessaged z h s b n node args name met r mt) → StandsFor z h s → length q.older ≡ r.view.older
many_older z h s b n node args name met r mt q stood =
    let m = h.machine in
    let f = viewed m b n (frame_locals (body_in h.bodies b)) (depth (body_in h.bodies b).nodes n) in
    let fs = callers_of h r.view.older in
    let all = current_all (raw_of h) s z stood.stands q.sender q.older f fs node q.is_at in
    as_many (makes_blocks s) z s.current q.older fs all.2 ∙ activations_long (descriptor_at h) m.memory r.view.older (m.regs 30) (frame_before m.memory (m.regs 30) m.older) (m.regs 31 + 8) (but_first m.older)

-- Whether a body has a block literal, in words and in the source.
literal_same : (n : Node) → by_source n ≡ by_words n
literal_same (nodes.BlockLit b) = refl
literal_same _ = refl

any_same : (xs : List Node) → list_any by_source xs ≡ list_any by_words xs
any_same [] = refl
any_same (x ∷ xs) = ap (λ q. q || list_any by_source xs) (literal_same x) ∙ ap (λ q. by_words x || q) (any_same xs)

pub wants_one : (h : Host) (s : State) (b y : ℕ) → h.bodies ≡ s.bodies → b ≡ y → owns_context (body_in h.bodies b) ≡ true → makes_blocks s y ≡ true
wants_one h s b y e same owns =
    any_same (body_in s.bodies y).nodes ∙ ap (λ k. owns_context (body_in s.bodies k)) (sym same) ∙ ap (λ bs. owns_context (body_in bs b)) (sym e) ∙ owns

pub registers_long : (f : ℕ → ℕ) (r n : ℕ) → length (registers_from f r n) ≡ n
registers_long f r zero = refl
registers_long f r (suc n) = ap suc (registers_long f (r + 1) n)

pub words_long : (h : Host) (c : ℕ) (m : MachineState) → length (all_words h c m) ≡ length (body_in h.bodies c).arguments + length (initial_words h.references (body_in h.bodies c))
words_long h c m =
    let x = body_in h.bodies c in
    length-append (registers_from m.regs 9 (length x.arguments)) (initial_words h.references x) ∙ ap (λ k. k + length (initial_words h.references x)) (registers_long m.regs 9 (length x.arguments))

part_long : (owns : Bool) (ws : List ℕ) (n : ℕ) → length ws ≡ n → length (frame_part owns ws) ≡ in_frame owns n
part_long false ws n e = e
part_long true ws n e = refl

-- the heap has room for the context
cell_room : (owns : Bool) (ws : List ℕ) (top n : ℕ) (h : Host) (c : ℕ) → 4 + n ≡ context_words h c → length ws ≡ 4 + n → top ≡ h.machine.regs 6 → top ≤ 0x20000000 + 46137344 → CanKeep owns h c → top + 4 * length (context_part owns ws) ≤ 0x20000000 + 46137344
cell_room false ws top n h c same long is within keeps = omega (arith, within)
cell_room true ws top n h c same long is within keeps = omega (arith, same, long, is, keeps.room)

has_top : (owns : Bool) (m : MachineState) (n : ℕ) (h : Host) (c : ℕ) → 4 + n ≡ context_words h c → m.regs 6 ≡ h.machine.regs 6 → m.regs 6 % 4 ≡ 0 → 0x20000000 ≤ m.regs 6 → CanKeep owns h c → HasTop owns m n
has_top false m n h c same is aligned low keeps = tt
has_top true m n h c same is aligned low keeps = record { aligned = aligned; from = low; to = omega (arith, same, is, keeps.room) }

cost_is : (owns : Bool) (m to : MachineState) (n : ℕ) → n ≤ 69 → m.regs 3 ≡ 0 → to.regs 3 ≡ cost_then owns m n → to.regs 3 ≡ cost_more owns n
cost_is false m to n few zero3 e = e ∙ zero3
cost_is true m to n few zero3 e = e ∙ omega (arith, few, zero3)

-- as many words are counted as are put at the heap's top
pays : (owns : Bool) (m to : MachineState) (n : ℕ) → m.regs 3 ≡ 0 → to.regs 3 ≡ cost_more owns n → to.regs 6 ≡ top_then owns m n → to.regs 6 + 4 * m.regs 3 ≡ m.regs 6 + 4 * to.regs 3
pays false m to n zero3 costs e = omega (arith, zero3, costs, e)
pays true m to n zero3 costs e = omega (arith, zero3, costs, e)

-- memory as the words leave it is that of a frame filled over a heap in which the context stands
memory_is : (owns block : Bool) (h : Host) (c : ℕ) (m : MachineState) → (let p = place_below (with_machine h m) c in let x = body_in h.bodies c in let cell = cell_of owns block h c m in
    m.regs 6 % 4 ≡ 0 → 0x20000000 ≤ m.regs 6 → m.regs 6 + 4 * length cell ≤ 0x20000000 + 46137344 → 0x40000000 ≤ p
    → begun_memory owns block m p (numbered h.references.contexts) (length x.arguments) (initial_words h.references x) ≡ memory_after (with_machine h (laid m cell)) c (shape_of owns block h c m))
memory_is false block h c m aligned low room high = refl
memory_is true block h c m aligned low room high =
    let p = place_below (with_machine h m) c in
    filled_past (cell_of true block h c m) m.memory (m.regs 6) (m.regs 30) (p + 104) (given_holder block m) m.older aligned low room (omega (arith, high))

module _ (z : Sense) (h : Host) (s : State) (b n : ℕ) (node : Node) (args name : ℕ) (met : Met) (r : RunsAt h b n node) (mt : MachineState) (q : IsMessaged z h s b n node args name met r mt) (stood : StandsFor z h s) (can : CanGo h)
    (c goal cost at holder : ℕ) (low : goal ≤ 1000000000) (owns block : Bool) (owned : owns_context (body_in h.bodies c) ≡ owns) (is_open : IsOpen h c at args r.view.older block) where
  abbrev mc : MachineState
  mc = machine_called z h s b n node args name met r mt q goal cost at holder

  abbrev x : Body
  x = body_in h.bodies c

  abbrev hm : Host
  hm = with_machine h mc

  abbrev count : ℕ
  count = length x.arguments + length (initial_words h.references x)

  abbrev cell : List ℕ
  cell = cell_of owns block h c mc

  abbrev m1 : MachineState
  m1 = laid mc cell

  abbrev h1 : Host
  h1 = with_machine h m1

  abbrev shape : Shape
  shape = shape_of owns block h c mc

  abbrev place : ℕ
  place = place_below hm c

  top_same : mc.regs 6 ≡ h.machine.regs 6
  top_same = four_others mt.regs (mt.pc - 4) (handed (mt.regs 8) holder) 6 refl refl refl refl ∙ q.moved.kept 6 refl

  same_count : 4 + count ≡ context_words h c
  same_count = let e = initial_long h.references x in omega arith

  few_words : count ≤ 69
  few_words = let e = initial_long h.references x in let a = (can.runs c).translates.arguments in let l = (can.runs c).translates.locals in omega arith

  top_aligned : mc.regs 6 % 4 ≡ 0
  top_aligned = let e = top_same in let a = stood.stands.heap.laid.end.aligned in omega arith

  top_low : 0x20000000 ≤ mc.regs 6
  top_low = let e = top_same in let a = stood.stands.heap.laid.end.above in omega arith

  top_within : mc.regs 6 ≤ 0x20000000 + 46137344
  top_within = let e = top_same in let a = stood.stands.heap.laid.end.within in omega arith

  keeps : CanKeep owns h c
  keeps = subst (λ (o : Bool). CanKeep o h c) owned is_open.keeps

  cell_fits : mc.regs 6 + 4 * length cell ≤ 0x20000000 + 46137344
  cell_fits = cell_room owns (numbered h.references.contexts ∷ given_maker block mc ∷ place ∷ given_receiver block mc ∷ all_words h c mc) (mc.regs 6) count h c same_count (omega (arith, words_long h c mc)) top_same top_within keeps

  kept_called : KeptTo h mc goal
  kept_called = kept_to h mc goal (call_settles z h s b n node args name met r mt q can goal cost at holder low)

  kept_here : KeptTo h m1 goal
  kept_here = kept_laid h mc goal cell kept_called top_low cell_fits

  still : StillThere h m1 b r.view.older
  still = stays_there h m1 b goal r.view can.hosted can.runs kept_here

  entry : AtEntry h1 b n c at r.view.older node
  entry = at_entry z h s b n node args name met r mt q can c goal cost at holder is_open.unit m1.memory kept_here.code still

  entry_before : AtEntry hm b n c at r.view.older node
  entry_before = at_entry z h s b n node args name met r mt q can c goal cost at holder is_open.unit mc.memory kept_called.code (stays_there h mc b goal r.view can.hosted can.runs kept_called)

  abbrev p : ℕ
  p = at + 4 * length (entry_code h.references x)

  abbrev Leads : Bool → Bool → Type 0
  Leads o k = Begins o k mc p place count (begun_memory o k mc place (numbered h.references.contexts) (length x.arguments) (initial_words h.references x))

  leads : CanStart block mc → Leads owns block
  leads start =
      let top = has_top owns mc count h c same_count top_same top_aligned top_low keeps in
      let start2 : CanStart (of_block x) mc = subst (λ (k : Bool). CanStart k mc) (sym is_open.kind) start in
      let top2 : HasTop (owns_context x) mc count = subst (λ (o : Bool). HasTop o mc count) (sym owned) top in
      let g = leads_in hm b n c at node entry_before.called start2 top2 in
      subst (λ (o : Bool). Leads o block) owned (subst (λ (k : Bool). Leads (owns_context x) k) is_open.kind g)

  shape_long : length shape.locals ≡ frame_locals x
  shape_long =
      part_long owns (all_words h c mc) count (words_long h c mc) ∙ ap (λ (o : Bool). in_frame o count) (sym owned) ∙ kept_count h.references x

  has_begun : (g : Leads owns block) → HasBegun h1 c p shape g.to
  has_begun g =
      let e = g.begun in
      let there = place_there hm b n c at node entry_before.called in
      record {
        stands = e.stands;
        memory_is = e.memory_is ∙ memory_is owns block h c mc top_aligned top_low cell_fits there.1;
        receiver = e.receiver;
        outer = e.outer;
        context = e.context;
        frame = e.frame;
        caller = e.caller;
        returns = e.returns;
        activations = e.activations;
        register_0 = e.register_0;
        older = e.older;
      }

  abbrev f : Frame
  f = viewed h.machine b n (frame_locals (body_in h.bodies b)) (depth (body_in h.bodies b).nodes n)

  abbrev now : Thread
  now = Going (frame_of c place shape ∷ frame_at f.next q.words.rest f ∷ callers_of h r.view.older)

  abbrev heap_then : Heap
  heap_then = record { top = top_then owns mc count; next = h.next }

  -- the sender waits, and those behind it
  pub waits : sender_frame h1 b n node ∷ callers_of h1 r.view.older ≡ frame_at f.next q.words.rest f ∷ callers_of h r.view.older
  waits =
      ap (λ (y : Frame). y ∷ callers_of h1 r.view.older) (sender_shown h b n node m1 goal r can kept_here ∙ ap {A = List ℕ} (λ ws. frame_at f.next ws f) (sym q.rest))
      ∙ ap (λ (ys : List Frame). frame_at f.next q.words.rest f ∷ ys) still.callers

  pub entered_step : CanStart block mc → RawFollows z (raw_after (raw_of h) (heap_words m1.memory) heap_then now (h.cost + h.machine.regs 3 + cost_more owns count)) (step s) [] → DoesStep z (calls goal cost at holder (with_machine h mt)) s
  entered_step start raw =
      let m = h.machine in
      let mv = q.moved in
      let g = leads start in
      let to = g.to in
      let called = entry.called in
      let room : suc called.view.older < 4096 = omega (arith, is_open.few, entry.deep) in
      let inside = is_inside h1 b n c at node called room is_open.some shape shape_long to (has_begun g) in
      let steps = h.steps + mt.regs 2 in
      let sum = h.cost + mt.regs 3 in
      let h2 = with_machine h to in
      let last = with_machine (calls goal cost at holder (with_machine h mt)) to in
      let ts = threads_from h 0 h.statuses in
      let new = frame_of c place shape in
      let threads : threads_from last 0 h.statuses ≡ slice_set ts h.current now =
      threads_as steps sum h2 0 h.statuses ∙ inside.threads
      ∙ ap (λ ys. slice_set ys h.current (Going (new ∷ sender_frame h1 b n node ∷ callers_of h1 called.view.older))) (threads_set h h1 0 h.current h.statuses r.view.sp r.view.pc r.view.known refl (omega arith) r.view.running still.waits)
      ∙ set_set ts h.current (Going (seen h1)) (Going (new ∷ sender_frame h1 b n node ∷ callers_of h1 called.view.older))
      ∙ ap (λ k. slice_set ts h.current (Going (new ∷ sender_frame h1 b n node ∷ callers_of h1 k))) entry.deep
      ∙ ap (λ (ys : List Frame). slice_set ts h.current (Going (new ∷ ys))) waits in
      let zero2 : mc.regs 2 ≡ 0 = refl in
      let zero3 : mc.regs 3 ≡ 0 = refl in
      let costs = cost_is owns mc to count few_words zero3 g.begun.cost in
      let shows : raw_of last ≡ raw_after (raw_of h) (heap_words m1.memory) heap_then now (h.cost + m.regs 3 + cost_more owns count) = λ i. record {
        maps = h.maps;
        mem = inside.heap i;
        heap = record { top = g.begun.top i; next = h.next };
        threads = threads i;
        current = h.current;
        steps = (let e : steps + to.regs 2 ≡ h.steps + m.regs 2 + 1 = omega (arith, g.begun.counted, zero2, mv.counted) in e) i;
        cost = (let e : sum + to.regs 3 ≡ h.cost + m.regs 3 + cost_more owns count = omega (arith, costs, mv.kept 3 refl) in e) i;
      } in
      let few = entry_few h.references x (can.runs c).translates in
      let stands : mc.pc ≡ at = refl in
      record {
        instructions = g.instructions;
        few = omega (arith, few, g.few, stands);
        to = to;
        goes = g.goes;
        hosted = hosted_as steps sum h2 inside.hosted;
        goal = inside.goal ∙ kept_here.goal_is ∙ sym kept_called.goal_is;
        left = inside.left ∙ put_apart cell mc.memory (mc.regs 6) 0x30000004 (inr (omega (arith, cell_fits)));
        paid = pays owns mc to count zero3 costs g.begun.top;
        body = c;
        number = 0;
        next = inside.next;
        runs = runs_as steps sum h2 c 0 inside.next inside.runs;
        sense = raw.to;
        stands = stands_after z h last s (raw_after (raw_of h) (heap_words m1.memory) heap_then now (h.cost + m.regs 3 + cost_more owns count)) stood shows refl refl refl raw;
        counted = sym raw.stands.steps ∙ ap (λ y. y + 1) stood.stands.steps;
        silent = raw.same;
      }

  -- What the source enters, and its words.
  module _ (e : Entry) (y : RawEntry) (is : IsEntry s z e y) (body_is : e.body ≡ c) (receiver_is : given_receiver block mc ≡ y.receiver) (holder_is : given_holder block mc ≡ y.holder) (outer_is : given_maker block mc ≡ y.outer)
      (words_are : all_words h c mc ≡ y.arguments ++ y.initial) (done_is : done (here_of s q.sender q.older) node ≡ enters (begins s e) (at_node q.sender.next q.message.rest q.sender ∷ q.older) s)
      (maker : HasMaker (at_node q.sender.next q.message.rest q.sender ∷ q.older) e.maker) (arguments : length e.arguments ≡ length x.arguments) where
    abbrev Target : Bool → Type 0
    Target o =
        RawFollows z (raw_after (raw_of h) (heap_words (laid mc (cell_of o block h c mc)).memory) (record { top = top_then o mc count; next = h.next })
        (Going (frame_of c place (shape_of o block h c mc) ∷ frame_at f.next q.words.rest f ∷ callers_of h r.view.older)) (h.cost + h.machine.regs 3 + cost_more o count)) (step s) []

    free : IsFree (raw_of h).threads place
    free =
        let least = frame_least x in
        let below = place_is hm b n c at node entry_before.called in
        free_below h b n node r can.hosted can.runs place (omega (arith, below, least, kept_called.frame)) (place_stack hm b n c at node entry_before.called)

    positive : place ≢ 0
    positive bad = let there = place_there hm b n c at node entry_before.called in absurd (omega (arith, bad, there.1))

    few_older : suc (length q.older) < 4096
    few_older = let a = many_older z h s b n node args name met r mt q stood in let b = is_open.few in omega arith

    body_of_it : y.body ≡ c
    body_of_it = is.body ∙ body_is

    long : length (y.arguments ++ y.initial) ≡ count
    long = ap length (sym words_are) ∙ words_long h c mc

    heap_same : heap_words mc.memory ≡ heap_words h.machine.memory
    heap_same = (call_settles z h s b n node args name met r mt q can goal cost at holder low).memory.heap

    by_kind : (o : Bool) → owns_context x ≡ o → CanKeep o h c → Target o
    by_kind false plain keep =
        let raw = plain_enters (raw_of h) s z stood.stands q.sender q.older f (callers_of h r.view.older) node q.is_at e y is q.message.rest q.words.rest q.send.message.rest place free positive few_older done_is maker (wants_none h s c e.body stood.bodies (sym body_is) plain) in
        let same : becomes (raw_of h) (Going (plain_frame y place ∷ frame_at f.next q.words.rest f ∷ callers_of h r.view.older))
        ≡ raw_after (raw_of h) (heap_words mc.memory) (record { top = mc.regs 6; next = h.next }) (Going (frame_of c place (shape_of false block h c mc) ∷ frame_at f.next q.words.rest f ∷ callers_of h r.view.older)) (h.cost + h.machine.regs 3 + 0) = λ i. record {
          maps = h.maps;
          mem = sym heap_same i;
          heap = record { top = sym top_same i; next = h.next };
          threads = slice_set (raw_of h).threads h.current (Going (record { body = body_of_it i; next = 0; receiver = sym receiver_is i; holder = sym holder_is i; outer = sym outer_is i; context = 0; mark = place; locals = sym words_are i; pending = [] } ∷ frame_at f.next q.words.rest f ∷ callers_of h r.view.older));
          current = h.current;
          steps = h.steps + h.machine.regs 2 + 1;
          cost = (let k : h.cost + h.machine.regs 3 ≡ h.cost + h.machine.regs 3 + 0 = omega arith in k) i;
        } in
        subst (λ (w : Raw). RawFollows z w (step s) []) same raw
    by_kind true owner keep =
        let map = h.references.contexts in
        let ws = y.arguments ++ y.initial in
        let laid_words = cell_of true block h c mc in
        let mem = heap_words (laid mc laid_words).memory in
        let fits : mc.regs 6 + 4 * length laid_words ≤ 0x20000000 + 46137344 = cell_room true laid_words (mc.regs 6) count h c same_count (omega (arith, words_long h c mc)) top_same top_within keep in
        let framed = framed_in_heap laid_words mc.memory (mc.regs 6) kept_called.within top_aligned top_low fits in
        let number : numbered map ≡ 4 * map = omega (arith, keep.small) in
        let are : laid_words ≡ words_of (Context map y.outer place y.receiver ws) = λ i. number i ∷ outer_is i ∷ place ∷ receiver_is i ∷ words_are i in
        let framed2 : Framed (raw_of h).mem mem (raw_of h).heap.top (words_of (Context map y.outer place y.receiver ws)) =
        subst (λ (w : Words). Framed w mem (raw_of h).heap.top (words_of (Context map y.outer place y.receiver ws))) heap_same
        (subst (λ (t : ℕ). Framed (heap_words mc.memory) mem t (words_of (Context map y.outer place y.receiver ws))) top_same
        (subst (λ (us : List ℕ). Framed (heap_words mc.memory) mem (mc.regs 6) us) are framed)) in
        let room : h.machine.regs 6 + 4 * (4 + length ws) ≤ 0x20000000 + 46137344 = omega (arith, keep.room, same_count, long) in
        let paid : h.cost + h.machine.regs 3 + (4 + length ws) ≤ 4194304 = omega (arith, keep.paid, same_count, long) in
        let body_same : length e.arguments ≡ length (body_of s e.body).arguments =
        arguments ∙ ap (λ bs. length (body_in bs c).arguments) stood.bodies ∙ ap (λ k. length (body_in s.bodies k).arguments) (sym body_is) in
        let raw =
        context_enters (raw_of h) s z stood.stands q.sender q.older f (callers_of h r.view.older) node q.is_at e y is q.message.rest q.words.rest q.send.message.rest place free positive few_older done_is maker map mem (wants_one h s c e.body stood.bodies (sym body_is) owner)
        body_same framed2 room keep.mapped paid in
        let same : raw_after (raw_of h) mem (record { top = h.machine.regs 6 + 4 * (4 + length ws); next = h.next }) (Going (context_frame y (h.machine.regs 6 + 1) place ∷ frame_at f.next q.words.rest f ∷ callers_of h r.view.older)) (h.cost + h.machine.regs 3 + (4 + length ws))
        ≡ raw_after (raw_of h) mem (record { top = top_then true mc count; next = h.next }) (Going (frame_of c place (shape_of true block h c mc) ∷ frame_at f.next q.words.rest f ∷ callers_of h r.view.older)) (h.cost + h.machine.regs 3 + (4 + count)) = λ i. record {
          maps = h.maps;
          mem = mem;
          heap = record { top = (let k : h.machine.regs 6 + 4 * (4 + length ws) ≡ mc.regs 6 + 4 * (4 + count) = omega (arith, top_same, long) in k) i; next = h.next };
          threads = slice_set (raw_of h).threads h.current (Going (record { body = body_of_it i; next = 0; receiver = sym receiver_is i; holder = sym holder_is i; outer = sym outer_is i; context = ap (λ t. t + 1) (sym top_same) i; mark = place; locals = []; pending = [] } ∷ frame_at f.next q.words.rest f ∷ callers_of h r.view.older));
          current = h.current;
          steps = h.steps + h.machine.regs 2 + 1;
          cost = ap (λ k. h.cost + h.machine.regs 3 + (4 + k)) long i;
        } in
        subst (λ (w : Raw). RawFollows z w (step s) []) same raw

    pub entry_steps : CanStart block mc → DoesStep z (calls goal cost at holder (with_machine h mt)) s
    entry_steps start = entered_step start (by_kind owns owned keeps)
