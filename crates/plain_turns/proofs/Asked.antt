-- At the trap of a message.
use Rattle.std.proofs.Common.{◌≡◌, ℕ, zero, suc, ◌+◌, ◌-◌, ◌*◌, ◌<◌, ◌≤◌, refl, ◌∙◌, ap, sym, subst, arith, inl, inr, length-append}
use Rattle.std.specs.Prelude.{◌⊎◌, Bool, true, false, List, [], ◌∷◌, ◌++◌, length, Some}
use Rattle.std.proofs.lemmas.Option.{same_Some, none-some}
use Rattle.self_terms.specs.declared.nodes.Node.{Node}
use Rattle.self_terms.specs.declared.nodes.Node.TheVariants as nodes
use Rattle.self_terms.specs.declared.nodes.Selector.{Selector}
use Rattle.self_terms.specs.declared.values.Value.{Value}
use Rattle.object_maps.specs.declared.maps.SlotKind.TheVariants.{Field, Assign}
use Rattle.slot_lookup.specs.declared.sends.Found.{Found}
use Rattle.slot_lookup.specs.declared.sends.Found.TheVariants.{One}
use Rattle.sparc_machine.specs.State.{MachineState}
use Rattle.sparc_store.specs.Words.{HasWord}
use Rattle.source_model.specs.Soundness.{body_in, HasBody}
use Rattle.source_model.specs.State.{Activation, State}
use Rattle.source_model.specs.Step.{place_of}
use Rattle.sparc_insn.specs.declared.insn.Insn.{Insn}
use Rattle.sparc_insn.specs.declared.insn.Insn.TheVariants.{Trap}
use Rattle.sparc_machine.specs.Alu.{add}
use Rattle.self_terms.specs.Depths.{depth_from}
use Rattle.plain_words.specs.Code.{poll, arguments_code, handed_code, answered_code}
use Rattle.plain_words.specs.Moves.{Moved}
use Rattle.plain_words.specs.Translating.{IsShort}
use Rattle.plain_words.specs.Units.{frame_locals, frame_words}
use Rattle.plain_words.proofs.Placing.{placed}
use Rattle.plain_runs.specs.Host.{Host}
use Rattle.plain_runs.specs.Units.{node_offset}
use Rattle.plain_runs.specs.Course.{with_machine, code_at}
use Rattle.plain_runs.proofs.Pointed.{next_offset}
use Rattle.plain_sends.specs.Sends.{selector_of, met_of}
use Rattle.plain_lookups.specs.Telling.{MayLook, start_of, begins_at, sent_to, found_by, FoundTells, IsFound}
use Rattle.plain_lookups.proofs.Telling.{founds_tell}
use Rattle.plain_stretches.specs.Standing.{left_of}
use Rattle.plain_stretches.specs.Stretches.{Halts, AtGoal, AtSend, AtPrimitive, AtHome, AtFull, AtEnd, Sends}
use Rattle.plain_turns.specs.Asking.{count, body_here, node_here, place_here, found_for, found_here, behind_poll}
use Rattle.plain_turns.specs.Resting.{IsAtTrap}
use Rattle.plain_turns.specs.Turns.{MessagesAsk, FieldsAreRead}
use Rattle.plain_turns.proofs.Messaged.{IsAsking}
use Rattle.plain_turns.proofs.Onward.{stopped_as}
use Rattle.plain_turns.proofs.Telling.{method_told}
use Rattle.plain_turns.proofs.Places.{Points, node_points, sent_points, sent_place}

-- a node that sends has led there
sends_at : (h : Host) (trap : ℕ) (from : State) (target : ℕ) (out : List ℕ) → (x : IsAtTrap h trap from target out) → trap ≡ 1 → Halts x.sense (with_machine h x.last) x.state x.on trap h.machine → Sends x.sense (with_machine h x.last) x.state x.on h.machine
sends_at h trap from target out x one (AtGoal e none w) = absurd (omega (arith, e, one))
sends_at h trap from target out x one (AtSend e q) = q
sends_at h trap from target out x one (AtPrimitive e q) = absurd (omega (arith, e, one))
sends_at h trap from target out x one (AtHome e q) = absurd (omega (arith, e, one))
sends_at h trap from target out x one (AtFull e q) = absurd (omega (arith, e, one))
sends_at h trap from target out x one (AtEnd e q) = absurd (omega (arith, e, one))

-- a message has at most five arguments
few_arguments : (node : Node) (sel : Selector) → selector_of node ≡ Some sel → IsShort 64 node → sel.args ≤ 5
few_arguments (nodes.Send y) sel e short = let same : y ≡ sel = same_Some y sel e in omega (arith, ap (λ (q : Selector). q.args) same, short)
few_arguments (nodes.SelfSend y) sel e short = let same : y ≡ sel = same_Some y sel e in omega (arith, ap (λ (q : Selector). q.args) same, short)
few_arguments (nodes.Resend y) sel e short = let same : y ≡ sel = same_Some y sel e in omega (arith, ap (λ (q : Selector). q.args) same, short)
few_arguments (nodes.Directed p y) sel e short = let same : y ≡ sel = same_Some y sel e in omega (arith, ap (λ (q : Selector). q.args) same, short)
few_arguments _ sel e short = absurd (none-some sel e)

-- how many words a message takes
arguments_long : (to locals k n : ℕ) → length (arguments_code to locals k n) ≡ n
arguments_long to locals k zero = refl
arguments_long to locals k (suc n) = ap suc (arguments_long (to + 1) locals (k + 1) n)

pub handed_long : (implied : Bool) (locals k n : ℕ) → length (handed_code implied locals k n) ≡ suc n
handed_long true locals k n = ap suc (arguments_long 9 locals k n)
handed_long false locals k n = ap suc (arguments_long 9 locals (k + 1) n)

trap_long : (implied : Bool) (locals k n : ℕ) (last : List Insn) → length last ≡ 1 → length ((handed_code implied locals k n ++ (Trap 1 ∷ [])) ++ last) ≡ n + 3
trap_long implied locals k n last one = omega (arith, length-append (handed_code implied locals k n ++ (Trap 1 ∷ [])) last, length-append (handed_code implied locals k n) (Trap 1 ∷ []), handed_long implied locals k n, one)

sent_long : (h : Host) (b n : ℕ) (node : Node) (sel : Selector) → selector_of node ≡ Some sel → length (code_at h b n node) ≡ sel.args + 3
sent_long h b n (nodes.Send y) sel e =
    let locals = frame_locals (body_in h.bodies b) in
    let k = depth_from 0 (body_in h.bodies b).nodes n in
    let first = k - (y.args + 1) in
    trap_long false locals first y.args (answered_code locals first) refl ∙ ap (λ (q : Selector). q.args + 3) (same_Some y sel e)
sent_long h b n (nodes.SelfSend y) sel e =
    let locals = frame_locals (body_in h.bodies b) in
    let first = depth_from 0 (body_in h.bodies b).nodes n - y.args in
    trap_long true locals first y.args (answered_code locals first) refl ∙ ap (λ (q : Selector). q.args + 3) (same_Some y sel e)
sent_long h b n (nodes.Resend y) sel e =
    let locals = frame_locals (body_in h.bodies b) in
    let first = depth_from 0 (body_in h.bodies b).nodes n - y.args in
    trap_long true locals first y.args (answered_code locals first) refl ∙ ap (λ (q : Selector). q.args + 3) (same_Some y sel e)
sent_long h b n (nodes.Directed p y) sel e =
    let locals = frame_locals (body_in h.bodies b) in
    let first = depth_from 0 (body_in h.bodies b).nodes n - y.args in
    trap_long true locals first y.args (answered_code locals first) refl ∙ ap (λ (q : Selector). q.args + 3) (same_Some y sel e)
sent_long h b n _ sel e = absurd (none-some sel e)

-- What is known at the trap of a message.
module _ (h : Host) (from : State) (target : ℕ) (out : List ℕ) (x : IsAtTrap h 1 from target out) where
  abbrev pub at_poll : Host
  at_poll = with_machine h x.last

  abbrev pub b : ℕ
  b = x.on.body

  abbrev pub n : ℕ
  n = x.on.number

  pub sent : Sends x.sense at_poll x.state x.on h.machine
  sent = sends_at h 1 from target out x refl x.halts

  -- nothing but scratch registers has changed since the poll
  pub moved : Moved x.last h.machine (h.machine.pc) x.last.memory (x.last.regs 2)
  moved =
      let q = sent in
      let P : MachineState → Type 0 = λ m. Moved x.last m m.pc x.last.memory (x.last.regs 2) in
      let here : q.sent.at ≡ q.sent.asks.to.pc = sym q.sent.asks.moved.stands.here in
      subst P (sym q.there) (let R : ℕ → Type 0 = λ p. Moved x.last q.sent.asks.to p x.last.memory (x.last.regs 2) in subst R here q.sent.asks.moved)

  pub few : sent.selector.args ≤ 5
  few = few_arguments x.on.node sent.selector sent.is ((x.on.sound.runs b).translates.short n x.on.node x.on.at.node_is)

  points : Points h (h.machine.pc + 4) b n
  points = sent_points x.sense at_poll x.state x.on h.machine sent

  pub node_is : node_here h ≡ Some x.on.node
  node_is = node_points h b n points ∙ x.on.at.node_is

  pub body_is : body_here h ≡ b
  body_is = points.body

  pub place_is : place_of x.state sent.sent.sender ≡ place_here h
  place_is = sent_place x.sense at_poll x.state x.on h.machine sent.sent.sender sent.sent.older sent.sent.is_at.here sent

  -- the trap stands so far behind the poll
  pub behind_is : h.machine.pc ≡ x.last.pc + behind_poll sent.selector.args
  behind_is =
      let q = sent.sent in
      let node = x.on.node in
      let y = body_in h.bodies b in
      let words = code_at at_poll b n node in
      let long : length words ≡ sent.selector.args + 3 = sent_long at_poll b n node sent.selector sent.is in
      let whole_long : length (poll ++ words) ≡ 6 + length words = omega (arith, length-append poll words) in
      let next : node_offset h.references y (suc n) ≡ node_offset h.references y n + length (poll ++ words) = next_offset h.references y n node x.on.at.node_is in
      let next2 : node_offset h.references y (n + 1) ≡ node_offset h.references y (suc n) = ap (node_offset h.references y) (omega arith) in
      let same : q.behind.at ≡ x.on.at.poll.at = same_Some q.behind.at x.on.at.poll.at (sym q.behind.unit.entry ∙ x.on.at.poll.unit.entry) in
      let here : h.machine.pc ≡ q.at = ap (λ (m : MachineState). m.pc) sent.there ∙ q.asks.moved.stands.here in
      omega (arith, here, long, whole_long, next, next2, same, q.behind.address, x.on.at.poll.address)

  -- the next object's number is how many there are
  pub objects_are : length x.state.things ≡ h.next
  objects_are = sym x.on.sound.stands.stands.heap.numbered

  -- what was found, over the trap's own machine
  module _ (room : ℕ) (le : h.next ≤ room) where
    pub looked : IsFound x.sense at_poll x.state b n x.on.node sent.selector x.on.at sent.sent room
    looked = founds_tell x.sense at_poll x.state b n x.on.node sent.selector x.on.at sent.sent sent.is x.on.sound.stands sent.can few room (omega (arith, le, objects_are))

    pub found_is : found_here room h ≡ found_by room (with_machine at_poll sent.sent.asks.to) x.on.node
    found_is = ap (found_for room h) node_is ∙ ap (λ m. found_by room (with_machine at_poll m) x.on.node) sent.there

    pub tells_of : (f : Found) → found_here room h ≡ f → FoundTells x.sense at_poll x.state sent.sent.asks.to.memory (begins_at x.on.node sent.sent.sender) (sent.sent.asks.to.regs 8) sent.selector.name.0 f (met_of x.on.node x.state sent.sent.sender)
    tells_of f e =
        let P : Found → Type 0 = λ y. FoundTells x.sense at_poll x.state sent.sent.asks.to.memory (begins_at x.on.node sent.sent.sender) (sent.sent.asks.to.regs 8) sent.selector.name.0 y (met_of x.on.node x.state sent.sent.sender) in
        subst P (sym found_is ∙ e) looked.tells

  pub goal_left : 0 < left_of at_poll
  goal_left = let some = sent.can.left in omega (arith, some)

  pub counted_is : count h ≡ x.state.steps
  counted_is =
      let before : h.steps + x.last.regs 2 ≡ x.state.steps = x.on.sound.stands.stands.steps in
      omega (arith, before, moved.counted)

-- the value at which a lookup begins is the message's receiver
begins_sent : (node : Node) (a : Activation) (v : Value) → begins_at node a ≡ Some v → sent_to node a ≡ v
begins_sent (nodes.Send sel) a v e = cc
begins_sent (nodes.SelfSend sel) a v e = cc
begins_sent _ a v e = absurd (cc)

-- The message at the trap.
pub asking : (h : Host) (from : State) (target : ℕ) (out : List ℕ) (room : ℕ) (x : IsAtTrap h 1 from target out) → h.next ≤ room
    → IsAsking h from target out (sent h from target out x).selector.args (sent h from target out x).selector.name.0 (behind_poll (sent h from target out x).selector.args) (found_here room h)
asking h from target out room x le =
    let q = sent h from target out x in
    let p = q.sent in
    let to = p.asks.to in
    let z = x.sense in
    let s = x.state in
    let node = x.on.node in
    let args = q.selector.args in
    let name = q.selector.name.0 in
    let bytes = behind_poll args in
    let found = found_here room h in
    let receiver = begins_at node p.sender in
    let tells = tells_of h from target out x room le found refl in
    let P : MachineState → Type 0 = λ m. IsAsking (with_machine h m) from target out args name bytes found in
    subst P (sym q.there) (record {
      stop = stopped_as h 1 from target out x to;
      can = q.can;
      few = few h from target out x;
      node = node;
      runs_at = x.on.at;
      met = met_of node s p.sender;
      message = record {
        at = p.at;
        moved = p.asks.moved;
        behind = p.behind;
        low = p.low;
        takes = p.takes;
        sender = p.sender;
        older = p.older;
        is_at = p.is_at;
        message = p.message;
        words = p.words;
        send = p.send;
        receiver_is = p.receiver_is;
        arguments = p.arguments;
        rest = p.rest;
      };
      receiver = receiver;
      received = λ v e. (looked h from target out x room le).message ∙ begins_sent node p.sender v e;
      tells = tells;
      is_method = λ holder c e. method_told z s h.bodies x.on.sound.stands.bodies p.sender p.older node q.selector p.is_at.here p.is_at.node_is q.is x.formed (to.regs 8) name holder c (tells.method holder c e);
      place = place_is h from target out x ∙ ap (λ m. place_here (with_machine h m)) q.there;
      behind = sym (ap (λ (m : MachineState). m.pc) q.there) ∙ behind_is h from target out x;
    })

pub messages_ask : MessagesAsk
messages_ask h from target out room x le =
    let q = sent h from target out x in
    let node = x.on.node in
    let at = with_machine h x.last in
    let v = x.on.at.view in
    let looked1 = looked h from target out x room le in
    let room_is = (x.on.sound.runs x.on.body).room x.on.number in
    let p = placed (x.last.regs 14) (frame_words (body_in h.bodies x.on.body)) 104 v.frame.place (omega arith) (omega (arith, room_is)) in
    let same : h.machine.regs 14 ≡ x.last.regs 14 = (moved h from target out x).kept 14 refl in
    let here : add (x.last.regs 14) 104 ≡ h.machine.regs 14 + 104 = p.address ∙ ap (λ k. k + 104) (sym same) in
    let behind1 = behind_is h from target out x in
    record {
      node = node;
      selector = q.selector;
      node_is = node_is h from target out x;
      sends = q.is;
      body = subst (HasBody h.bodies) (sym (body_is h from target out x)) (x.on.at.poll.unit.given, x.on.at.poll.unit.known);
      may = (let P : MachineState → Type 0 = λ m. MayLook h.maps m.memory room (start_of (with_machine at m) node) in subst P (sym q.there) looked1.may);
      holder = subst HasWord here p.has;
      left = omega (arith, goal_left h from target out x, counted_is h from target out x, x.left_is);
      back = omega (arith, behind1);
    }

field_word : (h : Host) (from : State) (target : ℕ) (out : List ℕ) (room : ℕ) → (x : IsAtTrap h 1 from target out) → h.next ≤ room → (holder place : ℕ) → (found_here room h ≡ One holder (Field place)) ⊎ (found_here room h ≡ One holder (Assign place)) → HasWord (holder + 7 + 4 * place)
field_word h from target out room x le holder place (inl e) = ((tells_of h from target out x room le _ e).field holder place refl).here
field_word h from target out room x le holder place (inr e) = ((tells_of h from target out x room le _ e).assignment x.formed holder place refl).1

pub fields_are_read : FieldsAreRead
fields_are_read = field_word
