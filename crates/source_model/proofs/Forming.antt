-- Every step keeps a state well formed.
use Rattle.std.proofs.Common.{◌≡◌, ℕ, zero, suc, ◌+◌, ◌<◌, ◌≤◌, ap, sym, subst, refl, ◌∙◌, arith, List, [], ◌∷◌, ◌++◌, inl, inr, length}
use Rattle.std.specs.Prelude.{slice_get, Option, Some, None, codes}
use Rattle.self_terms.specs.declared.nodes.Node.{Node}
use Rattle.self_terms.specs.declared.nodes.Node.TheVariants as nodes
use Rattle.self_terms.specs.declared.values.Value.{Value}
use Rattle.self_terms.specs.declared.values.Value.TheVariants as values
use Rattle.self_terms.specs.declared.values.Datum.{Datum}
use Rattle.self_terms.specs.declared.values.Datum.TheVariants as datum
use Rattle.self_terms.specs.declared.bodies.Body.{Body}
use Rattle.self_terms.specs.declared.bodies.Local.{Local}
use Rattle.source_model.specs.Names.{number_of}
use Rattle.source_model.specs.Objects.{Content, Constant, Assignable, Assignment, Parent, Method, Thing, Plain, Vector, Text}
use Rattle.source_model.specs.State.{Core, Activation, Activity, Running, Answered, Failed, State, Reached}
use Rattle.source_model.specs.Messages.{body_of, value_of}
use Rattle.source_model.specs.Sends.{Here}
use Rattle.source_model.specs.Step.{node_at, step, onward, run}
use Rattle.source_model.specs.Canon.{Each, ActivityHas, ActivationHas}
use Rattle.source_model.specs.Soundness.{body_in, HasBody, Names, IsActivity, numbers}
use Rattle.source_model.proofs.Kept.{IsWellAfter}
use Rattle.source_model.specs.Formed.{Takes, Says, IsGiven, IsSaid, ContentHolds, SlotHolds, ThingHolds, ActivationHolds, ActivityHolds, StateHolds, IsThere, ThingFits, Descend, AreInOrder, HasCore, IsWorld, IsFormed, IsWellFormed}
use Rattle.source_model.proofs.Having.{each}
use Rattle.source_model.proofs.Keeping.{set_each, slice_each, InSome}
use Rattle.source_model.proofs.KeepingNodes.{keeps_numbers, step_kept}
use Rattle.source_model.proofs.EachStep.{steps_keep}
use Rattle.source_model.proofs.Holding.{Ground}
use Rattle.source_model.proofs.HoldingNodes.{NextHolds, NodeHolds, step_holds}
use Rattle.source_model.proofs.Turning.{Shape, numbers_in, IsAsBefore, as_it_is, step_turns}
use Rattle.source_model.proofs.Emptied.{grows, grown_length, grown_fits}
use Rattle.source_model.proofs.Accepting.{next_accepts, said_of, node_says}

-- Values that are there stay there.

module _ (V W : Value → Type 0) (h : (v : Value) → V v → W v) where
  content_holds : (c : Content) → ContentHolds V c → ContentHolds W c
  content_holds (Constant v) e = h v e
  content_holds (Assignable v) e = h v e
  content_holds Assignment e = tt
  content_holds (Parent o) e = h (values.Object o) e
  content_holds (Method b) e = tt

  pub thing_holds : (x : Thing) → ThingHolds V x → ThingHolds W x
  thing_holds (Plain slots) e = each (SlotHolds V) (SlotHolds W) (λ x. content_holds x.content) slots e
  thing_holds (Vector items) e = each V W h items e
  thing_holds (Text bytes) e = tt

  activation_holds : (a : Activation) → ActivationHolds V a → ActivationHolds W a
  activation_holds a e = record {
    receiver = h a.receiver e.receiver;
    holder = h (values.Object a.holder) e.holder;
    locals = each V W h a.locals e.locals;
    pending = each V W h a.pending e.pending;
  }

  pub activity_holds : (x : Activity) → ActivityHolds V x → ActivityHolds W x
  activity_holds (Running all) e = each (ActivationHolds V) (ActivationHolds W) activation_holds all e
  activity_holds (Answered v) e = tt
  activity_holds (Failed x p) e = tt

  pub state_holds : (s : State) → StateHolds V s → StateHolds W s
  state_holds s e = record { things = each (ThingHolds V) (ThingHolds W) thing_holds s.things e.things; activities = each (ActivityHolds V) (ActivityHolds W) activity_holds s.activities e.activities }

-- More things.

pub says_more : (names : List (List ℕ)) (m n : ℕ) → m ≤ n → (node : Node) → Says names m node → Says names n node
says_more names m n le (nodes.Int i) e = tt
says_more names m n le (nodes.Str o) e = omega (arith, le, e)
says_more names m n le (nodes.BlockLit b) e = tt
says_more names m n le nodes.SelfRef e = tt
says_more names m n le nodes.Nil e = tt
says_more names m n le (nodes.Read up slot) e = tt
says_more names m n le (nodes.Store up slot) e = tt
says_more names m n le (nodes.Send sel) e = e
says_more names m n le (nodes.SelfSend sel) e = e
says_more names m n le (nodes.Resend sel) e = e
says_more names m n le (nodes.Directed parent sel) e = e
says_more names m n le (nodes.Prim name args implied handler) e = e
says_more names m n le nodes.Drop e = tt
says_more names m n le nodes.Restart e = tt
says_more names m n le nodes.Return e = tt
says_more names m n le nodes.NonLocal e = tt
says_more names m n le nodes.End e = tt

given_more : (m n : ℕ) → m ≤ n → (d : Datum) → IsGiven m d → IsGiven n d
given_more m n le (datum.Integer i) e = tt
given_more m n le (datum.Object o) e = omega (arith, le, e)
given_more m n le datum.Nil e = tt

pub said_more : (names : List (List ℕ)) (m n : ℕ) → m ≤ n → (b : Body) → IsSaid names m b → IsSaid names n b
said_more names m n le b e = record {
  said = each (Says names m) (Says names n) (says_more names m n le) b.nodes e.said;
  placed = e.placed;
  initials = each (λ (x : Local). IsGiven m x.initial) (λ (x : Local). IsGiven n x.initial) (λ x. given_more m n le x.initial) b.locals e.initials;
}

-- The order of numbers.

descend_behind : (gone xs : List ℕ) → Descend (gone ++ xs) → Descend xs
descend_behind [] xs e = e
descend_behind (k ∷ gone) xs e = descend_behind gone xs e.1

numbers_each : (P : ℕ → Type 0) (all : List Activation) → Each (ActivationHas P) all → Each P (numbers all)
numbers_each P [] e = tt
numbers_each P (a ∷ all) e = (e.0.number, numbers_each P all e.1)

shape_order : (u : ℕ) (old new : List ℕ) → Shape u old new → Each (λ j. j < u) old → Descend old → Descend new
shape_order u old new (inl h) below e = descend_behind h.0 new (subst Descend h.1 e)
shape_order u old new (inr h) below e = subst Descend (sym h) (below, e)

in_order : (x : Activity) → Descend (numbers_in x) → AreInOrder x
in_order (Running all) e = e
in_order (Answered v) e = tt
in_order (Failed x p) e = tt

module _ (home : ℕ → ℕ) (s : State) (formed : IsFormed home s) where
  abbrev t : State
  t = (step s).state

  order_kept : Each AreInOrder t.activities
  order_kept = step_turns s formed.world.0 (λ (u : State). Each AreInOrder u.activities) formed.order (λ a older here turned.
      let now : Activity = turned.0 in
      let below = subst (InSome (ActivityHas (λ k. k < s.unused))) here (slice_each (ActivityHas (λ k. k < s.unused)) s.activities s.current formed.own.below.activities) in
      let was = subst (InSome AreInOrder) here (slice_each AreInOrder s.activities s.current formed.order) in
      subst (Each AreInOrder) (sym turned.1) (set_each AreInOrder s.activities s.current now formed.order
      (in_order now (shape_order s.unused (numbers (a ∷ older)) (numbers_in now) turned.3 (numbers_each (λ k. k < s.unused) (a ∷ older) below) was))))

  pub before : IsAsBefore s t
  before = step_turns s formed.world.0 (λ (u : State). IsAsBefore s u) (as_it_is s) (λ a older here turned. turned.4)

  more : length s.things ≤ length t.things
  more = grown_length s.things t.things (grows s.things t.things before.things)

  world_kept : IsWorld t
  world_kept =
      let core : HasCore s = formed.world.0 in
      let le = more in (
        record {
          nil = subst (λ (c : Core). c.nil < length t.things) (sym before.core) (omega (arith, core.nil, le));
          yes = subst (λ (c : Core). c.yes < length t.things) (sym before.core) (omega (arith, core.yes, le));
          no = subst (λ (c : Core). c.no < length t.things) (sym before.core) (omega (arith, core.no, le));
          integers = subst (λ (c : Core). c.integers < length t.things) (sym before.core) (omega (arith, core.integers, le));
          strings = subst (λ (c : Core). c.strings < length t.things) (sym before.core) (omega (arith, core.strings, le));
          vectors = subst (λ (c : Core). c.vectors < length t.things) (sym before.core) (omega (arith, core.vectors, le));
          blocks = subst (λ (c : Core). c.blocks < length t.things) (sym before.core) (omega (arith, core.blocks, le));
          fixed = subst (λ (n : ℕ). n + 26 ≤ length t.things) (sym before.fixed) (omega (arith, core.fixed, le));
          failure = subst (λ (names : List (List ℕ)). Takes names (number_of names (codes "value:With:")) 2) (sym before.names) core.failure;
        },
        record {
          code = subst (Each (IsSaid t.names (length t.things))) (sym before.bodies)
              (subst (λ (names : List (List ℕ)). Each (IsSaid names (length t.things)) s.bodies) (sym before.names)
              (each (IsSaid s.names (length s.things)) (IsSaid s.names (length t.things)) (said_more s.names (length s.things) (length t.things) le) s.bodies formed.world.1.code));
          slots = subst (λ (names : List (List ℕ)). Each (ThingFits names t.bodies) t.things) (sym before.names)
              (subst (λ (bodies : List Body). Each (ThingFits s.names bodies) t.things) (sym before.bodies)
              (grown_fits s.names s.bodies s.things t.things (grows s.things t.things before.things) formed.world.1.slots));
        },
      )

  after : IsWellAfter home s t
  after = steps_keep home s formed.well formed.own (next_accepts home s formed)

  later : s.unused ≤ t.unused
  later = (step_kept (λ k. k < s.unused) s formed.own.below).0

  abbrev Still : Value → Type 0
  Still v = IsThere after.0 t v

  still : (v : Value) → IsThere home s v → Still v
  still (values.Int i) e = tt
  still (values.Object o) e = let le = more in omega (arith, e, le)
  still (values.Block b k) e =
      let le = later in (
        subst (λ (bodies : List Body). HasBody bodies b.0) (sym before.bodies) e.0,
        subst (λ (bodies : List Body). (body_in bodies b.0).outer ≡ Some (after.0 k)) (sym before.bodies) (e.1 ∙ ap Some (sym (after.1 k e.2))),
        omega (arith, e.2, le),
      )

  initial_still : (d : Datum) → IsGiven (length s.things) d → Still (value_of s.core d)
  initial_still (datum.Integer i) e = tt
  initial_still (datum.Object o) e = let le = more in omega (arith, e, le)
  initial_still datum.Nil e = let le = more in omega (arith, formed.world.0.nil, le)

  ground : Ground Still (length t.things) (λ o lt. lt) s
  ground =
      let core : HasCore s = formed.world.0 in
      let le = more in
      record {
        few = le;
        nil = omega (arith, core.nil, le);
        yes = omega (arith, core.yes, le);
        no = omega (arith, core.no, le);
        integers = omega (arith, core.integers, le);
        strings = omega (arith, core.strings, le);
        vectors = omega (arith, core.vectors, le);
        blocks = omega (arith, core.blocks, le);
        fixed = omega (arith, core.fixed, le);
        initials = λ b. each (λ (x : Local). IsGiven (length s.things) x.initial) (λ (x : Local). Still (value_of s.core x.initial)) (λ x. initial_still x.initial) (body_of s b).locals (said_of home s formed b).initials;
      }

  module _ (a : Activation) (older : List Activation) (here : slice_get s.activities s.current ≡ Some (Running (a ∷ older))) where
    abbrev h : Here
    h = record { state = s; young = a; older = older }

    live : IsActivity s.bodies home (Running (a ∷ older))
    live = subst (InSome (IsActivity s.bodies home)) here (slice_each (IsActivity s.bodies home) s.activities s.current formed.well.activities)

    own_number : a.number < s.unused
    own_number = (subst (InSome (ActivityHas (λ k. k < s.unused))) here (slice_each (ActivityHas (λ k. k < s.unused)) s.activities s.current formed.own.below.activities)).0.number

    node_holds : (node : Node) → Says s.names (length s.things) node → Names s.bodies a.body node → NodeHolds Still (λ i. tt) (length t.things) (λ o lt. lt) h node
    node_holds (nodes.Int i) e d = tt
    node_holds (nodes.Str o) e d = let le = more in omega (arith, e, le)
    node_holds (nodes.BlockLit b) e d = still (values.Block b a.number) (d.0, d.1 ∙ ap Some (sym live.0.known), own_number)
    node_holds nodes.SelfRef e d = tt
    node_holds nodes.Nil e d = tt
    node_holds (nodes.Read up slot) e d = tt
    node_holds (nodes.Store up slot) e d = tt
    node_holds (nodes.Send sel) e d = tt
    node_holds (nodes.SelfSend sel) e d = tt
    node_holds (nodes.Resend sel) e d = tt
    node_holds (nodes.Directed parent sel) e d = tt
    node_holds (nodes.Prim name args implied handler) e d = tt
    node_holds nodes.Drop e d = tt
    node_holds nodes.Restart e d = tt
    node_holds nodes.Return e d = tt
    node_holds nodes.NonLocal e d = tt
    node_holds nodes.End e d = tt

    next_node : NodeHolds Still (λ i. tt) (length t.things) (λ o lt. lt) h (node_at (body_of s a.body) a.next)
    next_node = node_holds (node_at (body_of s a.body) a.next) (node_says home s formed a.body a.next) ((formed.well.bodies a.body live.0.given).names a.next live.0.next)

  next_holds : (x : Option Activity) → slice_get s.activities s.current ≡ x → NextHolds Still (λ i. tt) (length t.things) (λ o lt. lt) s x
  next_holds None e = tt
  next_holds (Some (Running [])) e = tt
  next_holds (Some (Answered v)) e = tt
  next_holds (Some (Failed x p)) e = tt
  next_holds (Some (Running (a ∷ older))) e = next_node a older e

  values_kept : StateHolds Still t
  values_kept = step_holds Still (λ i. tt) (length t.things) (λ o lt. lt) s (state_holds (IsThere home s) Still still s formed.values) ground (next_holds (slice_get s.activities s.current) refl) (omega arith)

  pub step_formed : IsWellFormed t
  step_formed = (after.0, record { own = keeps_numbers s formed.own; order = order_kept; well = after.2; values = values_kept; world = world_kept })

pub steps_form : (s : State) → IsWellFormed s → IsWellFormed (step s).state
steps_form s e = step_formed e.0 s e.1

pub runs_form : (n : ℕ) (r : Reached) → IsWellFormed r.state → IsWellFormed (run n r).state
unfolding run
runs_form zero r e = e
runs_form (suc n) r e = runs_form n (onward r) (steps_form r.state e)
