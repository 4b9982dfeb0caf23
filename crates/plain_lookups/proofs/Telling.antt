-- What is found over memory tells what is met.
use Rattle.std.proofs.Common.{◌≡◌, ◌⊎◌, refl, sym, ap, subst, ◌∙◌, ℕ, suc, ◌+◌, ◌*◌, ◌≤◌, length, arith, inl, inr}
use Rattle.std.specs.Prelude.{Option, Some, None, slice_get}
use Rattle.self_terms.specs.declared.nodes.Node.{Node}
use Rattle.self_terms.specs.declared.nodes.Node.TheVariants as nodes
use Rattle.self_terms.specs.declared.nodes.Selector.{Selector}
use Rattle.self_terms.specs.declared.names.Name.{Name}
use Rattle.self_terms.specs.declared.values.BodyId.{BodyId}
use Rattle.self_terms.specs.declared.values.Value.{Value}
use Rattle.self_terms.specs.declared.values.Value.TheVariants as values
use Rattle.object_maps.specs.declared.maps.SlotKind.TheVariants.{Method}
use Rattle.slot_lookup.specs.declared.sends.Found.{Found}
use Rattle.slot_lookup.specs.declared.sends.Found.TheVariants.{One}
use Rattle.object_maps.specs.Slots.{slots_in}
use Rattle.slot_lookup.specs.Lookup.{found_from, found_above, found_through, slot_at}
use Rattle.sparc_store.specs.Words.{Words, word_at}
use Rattle.source_model.specs.Messages.{Met, meets, meets_above, meets_through}
use Rattle.source_model.specs.State.{State}
use Rattle.source_model.specs.Step.{value_at}
use Rattle.heap_cells.specs.Standing.{IsValue}
use Rattle.frame_walk.specs.Raw.{Raw}
use Rattle.raw_steps.specs.Meeting.{HasCore}
use Rattle.raw_steps.specs.Stands.{Sense, Stands}
use Rattle.plain_runs.specs.Host.{Host, raw_of, heap_words}
use Rattle.plain_runs.specs.Sound.{RunsAt}
use Rattle.plain_runs.specs.Course.{with_machine, CanGo}
use Rattle.plain_runs.proofs.Located.{some_is}
use Rattle.plain_steps.specs.Steps.{StandsFor}
use Rattle.plain_sends.specs.Found.{data_word}
use Rattle.plain_sends.specs.Sends.{IsSent, IsData}
use Rattle.plain_sends.proofs.Founds.{values_answer, holders_answer, parents_answer}
use Rattle.plain_answers.specs.Found.{Misses, Assigns, ValuesFind, IsAssignment, IsMethod}
use Rattle.plain_answers.proofs.Founds.{values_miss, holders_miss, parents_miss, values_assign, holders_assign, parents_assign, values_find, holders_find, parents_find}
use Rattle.plain_answers.proofs.Storing.{assignments_have_words}
use Rattle.plain_lookups.specs.Telling.{holder_here, MayLook, IsEvaluated, FoundTells, IsFound, FoundsTell}
use Rattle.plain_lookups.proofs.Alone.{words_stand_for_one}
use Rattle.plain_lookups.specs.Looking.{FindSame}
use Rattle.plain_lookups.proofs.Looking.{same as find_same_at, whole, reached, objects_sound, values_sound}
use Rattle.plain_lookups.proofs.Trapped.{stated_receiver, own_receiver, holders_stand}
use Rattle.plain_lookups.proofs.Words.{map_same, same_word, has_word}
use Rattle.plain_lookups.proofs.Fields.{Inside, values_inside, holders_inside, parents_inside}

-- what machine and host show, over all memory
abbrev all_of : Host → Raw
all_of h = record (raw_of h) { mem = h.machine.memory }

module _ (z : Sense) (h : Host) (s : State) (f : StandsFor z h s) where
  all_stands : Stands z (all_of h) s
  all_stands = record {
    heap = whole z h s f;
    unused = f.stands.unused;
    activity = f.stands.activity;
    live = f.stands.live;
    current = f.stands.current;
    steps = f.stands.steps;
    cost = f.stands.cost;
    within = f.stands.within;
  }

  all_core : HasCore (all_of h) s z
  all_core = record { kin_of = f.core.kin_of; integers = f.core.integers; blocks = f.core.blocks }

  -- an assignment slot stands where it does over the words of the heap
  in_heap : (met : Met) (name holder place : ℕ) → IsAssignment z (all_of h) s met name holder place → IsAssignment z (raw_of h) s met name holder place
  in_heap met name holder place a = record {
    object = a.object;
    met_is = a.met_is;
    slots = a.slots;
    was = a.was;
    there = a.there;
    number = a.number;
    own = a.own;
    old = a.old;
    behind = a.behind;
    found = ap (λ y. slice_get (slots_in h.maps y) (suc a.number)) (sym (map_same h.machine.memory holder (reached z h s f (values.Object a.object) holder a.there))) ∙ a.found;
  }

  -- a block's own method, and others
  evaluated : (v : Value) (w name : ℕ) (found : Found) (met : Met) → IsValue z.cells z.places v w → ValuesFind v w z (all_of h) s name found met
      → (holder : ℕ) (c : BodyId) → found ≡ One holder (Method c) → IsMethod z s met holder c ⊎ IsEvaluated z s (Some v) met name holder c w
  evaluated (values.Block b maker) w name found met value finds holder c e = elim (finds holder c e) [
    | inl is ↦ inl is
    | inr is ↦ inr (record { block = b; maker = maker; receiver_is = refl; word = value; evaluates = is })
  ]
  evaluated (values.Int i) w name found met value finds holder c e = inl (finds holder c e)
  evaluated (values.Object n) w name found met value finds holder c e = inl (finds holder c e)

  told : (receiver : Option Value) (w name : ℕ) (found : Found) (met : Met) → ((word : ℕ) → data_word (all_of h) found ≡ Some word → IsData z met word)
      → Misses z (all_of h) s name found met → Assigns z (all_of h) s name found met → Inside z (all_of h) s name found met
      → ((holder : ℕ) (c : BodyId) → found ≡ One holder (Method c) → IsMethod z s met holder c ⊎ IsEvaluated z s receiver met name holder c w)
      → FoundTells z h s h.machine.memory receiver w name found met
  told receiver w name found met known misses assigns reads finds = record {
    constant = λ holder word e. known word (ap (data_word (all_of h)) e);
    parent = λ holder word e. known word (ap (data_word (all_of h)) e);
    field = λ holder place e.
        let inside = reads holder place e in
        record {
          known = known (word_at h.machine.memory (holder + 7 + 4 * place)) (ap (data_word (all_of h)) e);
          here = has_word (holder + 7 + 4 * place) inside;
          same = sym (same_word h.machine.memory (holder + 7 + 4 * place) inside);
        };
    assignment = λ formed holder place e.
        let a = in_heap met name holder place (assigns formed holder place e) in
        (a, assignments_have_words z (raw_of h) s f.stands met name holder place a);
    method = finds;
    missing = misses;
  }

  pub values_told : (v : Value) (w name room : ℕ) → IsValue z.cells z.places v w → length s.things ≤ room
      → FoundTells z h s h.machine.memory (Some v) w name (found_from h.maps h.machine.memory room w name) (meets s v name)
  values_told v w name room value enough =
      told (Some v) w name (found_from h.maps h.machine.memory room w name) (meets s v name)
      (λ word e. values_answer z (all_of h) s all_stands all_core v w word name room value enough e)
      (values_miss z (all_of h) s all_stands all_core v w name room value enough)
      (values_assign z (all_of h) s all_stands all_core v w name room value enough)
      (values_inside z (all_of h) s all_stands all_core v w name room value enough)
      (evaluated v w name (found_from h.maps h.machine.memory room w name) (meets s v name) value (values_find z (all_of h) s all_stands all_core v w name room value enough))

  holders_told : (n w receiver_word name room : ℕ) → slice_get z.places.objects n ≡ Some w → length s.things ≤ room
      → FoundTells z h s h.machine.memory None receiver_word name (found_above h.maps h.machine.memory room w name) (meets_above s n name)
  holders_told n w receiver_word name room at enough =
      told None receiver_word name (found_above h.maps h.machine.memory room w name) (meets_above s n name)
      (λ word e. holders_answer z (all_of h) s all_stands all_core n w word name room at enough e)
      (holders_miss z (all_of h) s all_stands all_core n w name room at enough)
      (holders_assign z (all_of h) s all_stands all_core n w name room at enough)
      (holders_inside z (all_of h) s all_stands all_core n w name room at enough)
      (λ holder c e. inl (holders_find z (all_of h) s all_stands all_core n w name room at enough holder c e))

  parents_told : (parent n w receiver_word name room : ℕ) → slice_get z.places.objects n ≡ Some w → length s.things ≤ room
      → FoundTells z h s h.machine.memory None receiver_word name (found_through h.maps h.machine.memory room (slot_at h.maps h.machine.memory parent w) name) (meets_through s n parent name)
  parents_told parent n w receiver_word name room at enough =
      told None receiver_word name (found_through h.maps h.machine.memory room (slot_at h.maps h.machine.memory parent w) name) (meets_through s n parent name)
      (λ word e. parents_answer z (all_of h) s all_stands all_core parent n w word name room at enough e)
      (parents_miss z (all_of h) s all_stands all_core parent n w name room at enough)
      (parents_assign z (all_of h) s all_stands all_core parent n w name room at enough)
      (parents_inside z (all_of h) s all_stands all_core parent n w name room at enough)
      (λ holder c e. inl (parents_find z (all_of h) s all_stands all_core parent n w name room at enough holder c e))

  pub may : (mem : Words) (v : Value) (w room : ℕ) → mem ≡ h.machine.memory → IsValue z.cells z.places v w → length s.things ≤ room → MayLook h.maps mem room w
  may mem v w room same value enough =
      subst (λ (y : Words). MayLook h.maps y room w) (sym same) (record {
        objects = z.places.objects;
        sound = (objects_sound z h s f).memory;
        enough = (let e = (objects_sound z h s f).room in omega arith);
        start = (values_sound z h s f v w value).0;
      })

  pub agree : (mem : Words) (v : Value) (w : ℕ) → mem ≡ h.machine.memory → IsValue z.cells z.places v w → FindSame h.maps mem (heap_words mem) w
  agree mem v w same value = subst (λ (y : Words). FindSame h.maps y (heap_words y) w) (sym same) (find_same_at z h s f v w value)

-- the message's receiver is the one whose word this is
message_to : (z : Sense) (h : Host) (s : State) (b n : ℕ) (node : Node) (sel : Selector) (r : RunsAt h b n node) (q : IsSent z h s b n node sel r) → StandsFor z h s → (v : Value) → IsValue z.cells z.places v (q.asks.to.regs 8) → q.message.receiver ≡ v
message_to z h s b n node sel r q f v is =
    words_stand_for_one z (raw_of h) s f.stands q.message.receiver v (q.asks.to.regs 8)
    (subst (λ (w : ℕ). IsValue z.cells z.places q.message.receiver w) q.receiver_is q.send.message.receiver) is

module _ (z : Sense) (h : Host) (s : State) (b n : ℕ) (f : StandsFor z h s) (can : CanGo h) (room : ℕ) (enough : length s.things ≤ room) where
  stated_found : (sel : Selector) (r : RunsAt h b n (nodes.Send sel)) (q : IsSent z h s b n (nodes.Send sel) sel r) → sel.args ≤ 5 → IsFound z h s b n (nodes.Send sel) sel r q room
  stated_found sel r q few =
      let v = value_at q.sender.pending sel.args in
      let to = q.asks.to in
      let is = stated_receiver sel z h s b n f r can few q in
      let same = q.asks.moved.memory_is in
      record {
        may = may z h s f to.memory v (to.regs 8) room same is enough;
        tells = subst (λ (y : Words). FoundTells z h s y (Some v) (to.regs 8) sel.name.0 (found_from h.maps y room (to.regs 8) sel.name.0) (meets s v sel.name.0)) (sym same)
            (values_told z h s f v (to.regs 8) sel.name.0 room is enough);
        heap = sym ((agree z h s f to.memory v (to.regs 8) same is).from room sel.name.0);
        receives = is;
        message = message_to z h s b n (nodes.Send sel) sel r q f v is;
      }

  own_found : (sel : Selector) (r : RunsAt h b n (nodes.SelfSend sel)) (q : IsSent z h s b n (nodes.SelfSend sel) sel r) → sel.args ≤ 5 → IsFound z h s b n (nodes.SelfSend sel) sel r q room
  own_found sel r q few =
      let v = q.sender.receiver in
      let to = q.asks.to in
      let is = own_receiver (nodes.SelfSend sel) sel refl (λ x owns locals at k. refl) z h s b n f r can few q in
      let same = q.asks.moved.memory_is in
      record {
        may = may z h s f to.memory v (to.regs 8) room same is enough;
        tells = subst (λ (y : Words). FoundTells z h s y (Some v) (to.regs 8) sel.name.0 (found_from h.maps y room (to.regs 8) sel.name.0) (meets s v sel.name.0)) (sym same)
            (values_told z h s f v (to.regs 8) sel.name.0 room is enough);
        heap = sym ((agree z h s f to.memory v (to.regs 8) same is).from room sel.name.0);
        receives = is;
        message = message_to z h s b n (nodes.SelfSend sel) sel r q f v is;
      }

  resend_found : (sel : Selector) (r : RunsAt h b n (nodes.Resend sel)) (q : IsSent z h s b n (nodes.Resend sel) sel r) → sel.args ≤ 5 → IsFound z h s b n (nodes.Resend sel) sel r q room
  resend_found sel r q few =
      let to = q.asks.to in
      let is = own_receiver (nodes.Resend sel) sel refl (λ x owns locals at k. refl) z h s b n f r can few q in
      let w = holder_here (with_machine h to) in
      let same = q.asks.moved.memory_is in
      let at : slice_get z.places.objects q.sender.holder ≡ Some w = (holders_stand z h s b n (nodes.Resend sel) f r q.sender q.older q.is_at.here).1 to q.at (h.machine.regs 2) q.asks.moved in
      record {
        may = may z h s f to.memory (values.Object q.sender.holder) w room same at enough;
        tells = subst (λ (y : Words). FoundTells z h s y None (to.regs 8) sel.name.0 (found_above h.maps y room w sel.name.0) (meets_above s q.sender.holder sel.name.0)) (sym same)
            (holders_told z h s f q.sender.holder w (to.regs 8) sel.name.0 room at enough);
        heap = sym ((agree z h s f to.memory (values.Object q.sender.holder) w same at).above room sel.name.0);
        receives = is;
        message = message_to z h s b n (nodes.Resend sel) sel r q f q.sender.receiver is;
      }

  directed_found : (parent : Name) (sel : Selector) (r : RunsAt h b n (nodes.Directed parent sel)) (q : IsSent z h s b n (nodes.Directed parent sel) sel r) → sel.args ≤ 5 → IsFound z h s b n (nodes.Directed parent sel) sel r q room
  directed_found parent sel r q few =
      let to = q.asks.to in
      let is = own_receiver (nodes.Directed parent sel) sel refl (λ x owns locals at k. refl) z h s b n f r can few q in
      let w = holder_here (with_machine h to) in
      let same = q.asks.moved.memory_is in
      let at : slice_get z.places.objects q.sender.holder ≡ Some w = (holders_stand z h s b n (nodes.Directed parent sel) f r q.sender q.older q.is_at.here).1 to q.at (h.machine.regs 2) q.asks.moved in
      record {
        may = may z h s f to.memory (values.Object q.sender.holder) w room same at enough;
        tells = subst (λ (y : Words). FoundTells z h s y None (to.regs 8) sel.name.0 (found_through h.maps y room (slot_at h.maps y parent.0 w) sel.name.0) (meets_through s q.sender.holder parent.0 sel.name.0)) (sym same)
            (parents_told z h s f parent.0 q.sender.holder w (to.regs 8) sel.name.0 room at enough);
        heap = sym ((agree z h s f to.memory (values.Object q.sender.holder) w same at).through room parent.0 sel.name.0);
        receives = is;
        message = message_to z h s b n (nodes.Directed parent sel) sel r q f q.sender.receiver is;
      }

pub founds_tell : FoundsTell
founds_tell z h s b n (nodes.Send sel) given r q e f can few room enough =
    (let P : Selector → Type 0 = λ y. (p : IsSent z h s b n (nodes.Send sel) y r) → y.args ≤ 5 → IsFound z h s b n (nodes.Send sel) y r p room in
    subst P (some_is sel given e) (λ p few. stated_found z h s b n f can room enough sel r p few) q few)
founds_tell z h s b n (nodes.SelfSend sel) given r q e f can few room enough =
    (let P : Selector → Type 0 = λ y. (p : IsSent z h s b n (nodes.SelfSend sel) y r) → y.args ≤ 5 → IsFound z h s b n (nodes.SelfSend sel) y r p room in
    subst P (some_is sel given e) (λ p few. own_found z h s b n f can room enough sel r p few) q few)
founds_tell z h s b n (nodes.Resend sel) given r q e f can few room enough =
    (let P : Selector → Type 0 = λ y. (p : IsSent z h s b n (nodes.Resend sel) y r) → y.args ≤ 5 → IsFound z h s b n (nodes.Resend sel) y r p room in
    subst P (some_is sel given e) (λ p few. resend_found z h s b n f can room enough sel r p few) q few)
founds_tell z h s b n (nodes.Directed parent sel) given r q e f can few room enough =
    (let P : Selector → Type 0 = λ y. (p : IsSent z h s b n (nodes.Directed parent sel) y r) → y.args ≤ 5 → IsFound z h s b n (nodes.Directed parent sel) y r p room in
    subst P (some_is sel given e) (λ p few. directed_found z h s b n f can room enough parent sel r p few) q few)
founds_tell z h s b n _ given r q e f can few room enough = absurd (cc)
