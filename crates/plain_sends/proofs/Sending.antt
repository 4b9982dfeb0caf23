-- Sends that data answers do the source's step.
use Rattle.std.proofs.Common.{◌≡◌, ℕ, zero, suc, ◌+◌, ◌-◌, ◌*◌, ◌<◌, ◌≤◌, refl, ◌∙◌, ap, sym, subst, arith, length-append}
use Rattle.std.specs.Prelude.{Bool, true, List, [], ◌∷◌, ◌++◌, map, length, take, drop, reverse, get_or, Some}
use Rattle.std.proofs.lemmas.List.{reverse-append}
use Rattle.self_terms.specs.declared.nodes.Node.{Node}
use Rattle.self_terms.specs.declared.nodes.Node.TheVariants as nodes
use Rattle.self_terms.specs.declared.nodes.Selector.{Selector}
use Rattle.self_terms.specs.declared.names.Name.{Name}
use Rattle.self_terms.specs.Depths.{taken, depth, depth_from}
use Rattle.sparc_insn.specs.declared.insn.Insn.{Insn}
use Rattle.sparc_store.specs.Words.{Words, word_at}
use Rattle.sparc_store.specs.Windows.{kept}
use Rattle.sparc_machine.specs.State.{MachineState}
use Rattle.source_model.specs.Messages.{Met}
use Rattle.source_model.specs.Sends.{Message}
use Rattle.source_model.specs.State.{Activation, State}
use Rattle.source_model.specs.Soundness.{body_in}
use Rattle.source_model.specs.Step.{step, stated, implied}
use Rattle.frame_walk.specs.Places.{Frame, word_in_place, pending_places, pending_offset}
use Rattle.frame_walk.specs.Raw.{Thread, Going, Raw, becomes, moved_on}
use Rattle.raw_steps.specs.Stands.{Sense, Stands, IsAt, Follows as RawFollows}
use Rattle.raw_steps.specs.Messages.{RawMessage, stated_words, implied_words}
use Rattle.raw_steps.specs.Sends.{IsSend, here_of}
use Rattle.raw_steps.proofs.Sending.{send_is, self_send_is, resend_is, directed_is, constant_answers, field_answers, parent_answers}
use Rattle.plain_words.specs.Code.{poll, move, take as load_pending, send_code, implied_code, answered_code, arguments_code}
use Rattle.plain_words.specs.Moves.{IsReady, AreArguments, registers_from}
use Rattle.plain_words.specs.Showing.{viewed}
use Rattle.plain_words.specs.Units.{frame_locals, frame_words, is_call, node_code}
use Rattle.plain_words.specs.declared.references.References.{References}
use Rattle.plain_words.proofs.Basics.{at_front}
use Rattle.plain_words.proofs.Sending.{send_asks, implied_asks}
use Rattle.plain_runs.specs.Host.{Host, raw_of}
use Rattle.plain_runs.specs.Units.{node_offset, IsBehindCall}
use Rattle.plain_runs.specs.Sound.{RunsAt, callers_of}
use Rattle.plain_runs.specs.Course.{with_machine, CanGo, code_at}
use Rattle.plain_runs.proofs.Pointed.{next_offset}
use Rattle.plain_runs.proofs.Ready.{there_at, ready_at}
use Rattle.plain_steps.specs.Steps.{StandsFor}
use Rattle.plain_runs.proofs.Located.{some_is}
use Rattle.plain_steps.proofs.Words.{stands_after, step_counted}
use Rattle.plain_steps.proofs.Here.{at_node_of}
use Rattle.plain_steps.proofs.Reading.{values_long}
use Rattle.plain_runs.specs.Services.{data_answers}
use Rattle.plain_sends.specs.Sends.{met_of, IsSent, NodesSend, DataAnswers, IsData, OfConstant, OfField, OfParent}
use Rattle.plain_sends.proofs.Behind.{depth_is}
use Rattle.plain_sends.proofs.Serving.{served}

pending_long : (memory : Words) (window : ℕ → ℕ) (sp locals k : ℕ) → length (map (word_in_place memory window sp) (pending_places locals k)) ≡ k
pending_long memory window sp locals zero = refl
pending_long memory window sp locals (suc k) = ap suc (pending_long memory window sp locals k)

-- data that a message meets is its answer
data_follows : (r : Raw) (s : State) (z : Sense) (S : Stands z r s) (a : Activation) (older : List Activation) (f : Frame) (fs : List Frame) (node : Node) (at : IsAt r s a older f fs node) (m : Message) (x : RawMessage) (name : ℕ) (met : Met) (w : ℕ)
    → IsSend s z a older node m x name met → IsData z met w → RawFollows z (becomes r (Going (moved_on (w ∷ x.rest) f ∷ fs))) (step s) []
data_follows r s z S a older f fs node at m x name met w is (OfConstant o v e value) = constant_answers r s z S a older f fs node at m x name met is o v w e value
data_follows r s z S a older f fs node at m x name met w is (OfField o v e value) = field_answers r s z S a older f fs node at m x name met is o v w e value
data_follows r s z S a older f fs node at m x name met w is (OfParent o p e there) = parent_answers r s z S a older f fs node at m x name met is o p w e there

-- the call is the last word but one of the node
behind_at : (h : Host) (b n : ℕ) (node : Node) (args : ℕ) → (r : RunsAt h b n node) → is_call node ≡ true → length (code_at h b n node) ≡ args + 3
    → IsBehindCall h (h.machine.pc + 24 + 4 * (1 + args) + 4) b n node
behind_at h b n node args r call long =
    let next = next_offset h.references (body_in h.bodies b) n node r.node_is in
    let later : node_offset h.references (body_in h.bodies b) (n + 1) ≡ node_offset h.references (body_in h.bodies b) (suc n) = ap (node_offset h.references (body_in h.bodies b)) (omega arith) in
    record {
      at = r.poll.at;
      unit = r.poll.unit;
      node_is = r.node_is;
      call = call;
      address = omega (arith, r.poll.address, next, later, long);
    }

-- The words of arguments, oldest first.

-- so many pending words from a number on
abbrev rising : Words → ℕ → ℕ → ℕ → ℕ → List ℕ
rising memory sp locals k zero = []
rising memory sp locals k (suc n) = word_at memory (sp + pending_offset locals k) ∷ rising memory sp locals (k + 1) n

from_registers : (m to : MachineState) (register locals k n : ℕ) → AreArguments m to register locals k n → registers_from to.regs register n ≡ rising m.memory (m.regs 14) locals k n
from_registers m to register locals k zero a = refl
from_registers m to register locals k (suc n) a = λ i. a.0 i ∷ from_registers m to (register + 1) locals (k + 1) n a.1 i

-- the last of them
rising_last : (memory : Words) (sp locals k n : ℕ) → rising memory sp locals k (suc n) ≡ rising memory sp locals k n ++ (word_at memory (sp + pending_offset locals (k + n)) ∷ [])
rising_last memory sp locals k zero = ap (λ j. word_at memory (sp + pending_offset locals j) ∷ []) (omega arith)
rising_last memory sp locals k (suc n) =
    let later : k + 1 + n ≡ k + suc n = omega arith in
    ap (λ ws. word_at memory (sp + pending_offset locals k) ∷ ws) (rising_last memory sp locals (k + 1) n ∙ ap (λ j. rising memory sp locals (k + 1) n ++ (word_at memory (sp + pending_offset locals j) ∷ [])) later)

-- the youngest n of d pending words, in the order in which they were pended
turned : (memory : Words) (window : ℕ → ℕ) (sp locals n d : ℕ) → n ≤ d → reverse (take n (map (word_in_place memory window sp) (pending_places locals d))) ≡ rising memory sp locals (d - n) n
turned memory window sp locals zero d h = refl
turned memory window sp locals (suc n) zero h = absurd (omega (arith, h))
turned memory window sp locals (suc n) (suc d) h =
    let w = word_at memory (sp + pending_offset locals d) in
    let front : d - n ≡ suc d - suc n = omega arith in
    let last : d ≡ d - n + n = omega (arith, h) in
    reverse-append (w ∷ []) (take n (map (word_in_place memory window sp) (pending_places locals d)))
    ∙ ap (λ ws. ws ++ (w ∷ [])) (turned memory window sp locals n d (omega (arith, h)))
    ∙ ap (λ j. rising memory sp locals (d - n) n ++ (word_at memory (sp + pending_offset locals j) ∷ [])) last
    ∙ sym (rising_last memory sp locals (d - n) n)
    ∙ ap (λ j. rising memory sp locals j (suc n)) front

-- the pending word under so many younger ones
under : (memory : Words) (window : ℕ → ℕ) (sp locals n d : ℕ) → n < d → get_or (map (word_in_place memory window sp) (pending_places locals d)) n 0 ≡ word_at memory (sp + pending_offset locals (d - (n + 1)))
under memory window sp locals n zero h = absurd (omega (arith, h))
under memory window sp locals zero (suc d) h = ap (λ j. word_at memory (sp + pending_offset locals j)) (omega arith)
under memory window sp locals (suc n) (suc d) h = under memory window sp locals n d (omega (arith, h)) ∙ ap (λ j. word_at memory (sp + pending_offset locals j)) (omega arith)

-- the words up to the call
front_ready : (m : MachineState) (p words : ℕ) (front rest : List Insn) → IsReady m p words (front ++ rest) → IsReady m p words front
front_ready m p words front rest r = record {
  stands = r.stands;
  code_region = record { aligned = r.code_region.aligned; from = r.code_region.from; to = omega (arith, r.code_region.to, length-append poll front, length-append poll (front ++ rest), length-append front rest) };
  code_there = at_front m.memory p (poll ++ front) rest r.code_there;
  frame = r.frame;
  left = r.left;
}

loads_long : (to locals k n : ℕ) → length (arguments_code to locals k n) ≡ n
loads_long to locals k zero = refl
loads_long to locals k (suc n) = ap suc (loads_long (to + 1) locals (k + 1) n)

send_long : (locals k j args : ℕ) → length (send_code 1 locals k args ++ answered_code locals j) ≡ args + 3
send_long locals k j args =
    let front = send_code 1 locals k args in
    let e : length front ≡ suc (length (arguments_code 9 locals (k + 1) args)) + 1 = length-append (load_pending 8 locals k ∷ arguments_code 9 locals (k + 1) args) _ in
    omega (arith, length-append front (answered_code locals j), e, loads_long 9 locals (k + 1) args)

implied_long : (locals k j args : ℕ) → length (implied_code 1 locals k args ++ answered_code locals j) ≡ args + 3
implied_long locals k j args =
    let front = implied_code 1 locals k args in
    let e : length front ≡ suc (length (arguments_code 9 locals k args)) + 1 = length-append (move 8 24 ∷ arguments_code 9 locals k args) _ in
    omega (arith, length-append front (answered_code locals j), e, loads_long 9 locals k args)

ap_few : (a b : Selector) → Some a ≡ Some b → b.args ≤ 5 → a.args ≤ 5
ap_few a b e few = (let P : Selector → Type 0 = λ y. y.args ≤ 5 in subst P (sym (some_is a b e)) few)

-- a message to the activation's own receiver
own_sent : (node : Node) (sel : Selector) → is_call node ≡ true → taken node ≡ sel.args
    → ((r : References) (owns : Bool) (locals at k : ℕ) → node_code r owns locals at node k ≡ implied_code 1 locals (k - sel.args) sel.args ++ answered_code locals (k - sel.args))
    → ((r : Raw) (s : State) (z : Sense) → Stands z r s → (a : Activation) (older : List Activation) (f : Frame) (fs : List Frame) → IsAt r s a older f fs node
    → IsSend s z a older node (implied sel.args (here_of s a older)) (implied_words sel.args f) sel.name.0 (met_of node s a))
    → (z : Sense) (h : Host) (s : State) (b n : ℕ) → StandsFor z h s → (r : RunsAt h b n node) → CanGo h → sel.args ≤ 5 → IsSent z h s b n node sel r
own_sent node sel call takes code is z h s b n f r can few =
    let m = h.machine in
    let x = body_in h.bodies b in
    let locals = frame_locals x in
    let deep = depth_from 0 x.nodes n in
    let k = deep - sel.args in
    let at = at_node_of z h s b n node f r in
    let v = viewed m b n locals (depth x.nodes n) in
    let callers = callers_of h r.view.older in
    let code_is : code_at h b n node ≡ implied_code 1 locals k sel.args ++ answered_code locals k = code h.references _ locals _ deep in
    let ready = (let P : List Insn → Type 0 = IsReady m m.pc (frame_words x) in subst P code_is (ready_at h b n node r can.left)) in
    let room = (can.runs b).room n in
    let enough = (can.runs b).takes n node r.node_is in
    let dd = depth_is x.nodes n in
    let a = implied_asks m m.pc (frame_words x) locals k sel.args (front_ready m m.pc (frame_words x) (implied_code 1 locals k sel.args) (answered_code locals k) ready) few (omega (arith, room, enough, takes, dd)) in
    let long : length (code_at h b n node) ≡ sel.args + 3 = ap length code_is ∙ implied_long locals k k sel.args in
    let t = there_at h b n node r.poll r.node_is in
    record {
      at = m.pc + 24 + 4 * (1 + sel.args);
      receiver = m.regs 24;
      first = k;
      asks = a;
      behind = behind_at h b n node sel.args r call long;
      low = omega (arith, t.1.to, long);
      takes = omega (arith, enough, dd);
      sender = at.young;
      older = at.older;
      is_at = at.at;
      message = implied sel.args (here_of s at.young at.older);
      words = implied_words sel.args v;
      send = is (raw_of h) s z f.stands at.young at.older v callers at.at;
      receiver_is = sym a.receiver_is;
      arguments =
          ap (λ d. reverse (take sel.args (map (word_in_place m.memory (kept m.regs) (m.regs 14)) (pending_places locals d)))) dd
          ∙ turned m.memory (kept m.regs) (m.regs 14) locals sel.args deep (omega (arith, enough, takes, dd))
          ∙ sym (from_registers m a.to 9 locals k sel.args a.arguments);
      rest = ap (λ q. drop q v.pending) (sym takes);
    }

stated_sent : (sel : Selector) (z : Sense) (h : Host) (s : State) (b n : ℕ) → StandsFor z h s → (r : RunsAt h b n (nodes.Send sel)) → CanGo h → sel.args ≤ 5 → IsSent z h s b n (nodes.Send sel) sel r
stated_sent sel z h s b n f r can few =
    let m = h.machine in
    let x = body_in h.bodies b in
    let locals = frame_locals x in
    let deep = depth_from 0 x.nodes n in
    let k = deep - (sel.args + 1) in
    let node = nodes.Send sel in
    let at = at_node_of z h s b n node f r in
    let v = viewed m b n locals (depth x.nodes n) in
    let callers = callers_of h r.view.older in
    let room = (can.runs b).room n in
    let enough = (can.runs b).takes n node r.node_is in
    let dd = depth_is x.nodes n in
    let a = send_asks m m.pc (frame_words x) locals k sel.args (front_ready m m.pc (frame_words x) (send_code 1 locals k sel.args) (answered_code locals k) (ready_at h b n node r can.left)) few (omega (arith, room, enough, dd)) in
    let many : length at.young.pending ≡ depth x.nodes n = values_long z.cells z.places at.young.pending v.pending at.first.pending ∙ pending_long m.memory (kept m.regs) (m.regs 14) locals (depth x.nodes n) in
    let long = send_long locals k k sel.args in
    let t = there_at h b n node r.poll r.node_is in
    let next : deep - sel.args ≡ k + 1 = omega (arith, enough, dd) in
    record {
      at = m.pc + 24 + 4 * (1 + sel.args);
      receiver = word_at m.memory (m.regs 14 + pending_offset locals k);
      first = k + 1;
      asks = a;
      behind = behind_at h b n node sel.args r refl long;
      low = omega (arith, t.1.to, long);
      takes = omega (arith, enough, dd);
      sender = at.young;
      older = at.older;
      is_at = at.at;
      message = stated sel.args (here_of s at.young at.older);
      words = stated_words sel.args v;
      send = send_is (raw_of h) s z f.stands at.young at.older v callers sel at.at (omega (arith, many, enough));
      receiver_is = ap (λ d. get_or (map (word_in_place m.memory (kept m.regs) (m.regs 14)) (pending_places locals d)) sel.args 0) dd
          ∙ under m.memory (kept m.regs) (m.regs 14) locals sel.args deep (omega (arith, enough, dd)) ∙ sym a.receiver_is;
      arguments =
          ap (λ d. reverse (take sel.args (map (word_in_place m.memory (kept m.regs) (m.regs 14)) (pending_places locals d)))) dd
          ∙ turned m.memory (kept m.regs) (m.regs 14) locals sel.args deep (omega (arith, enough, dd))
          ∙ ap (λ j. rising m.memory (m.regs 14) locals j sel.args) next
          ∙ sym (from_registers m a.to 9 locals (k + 1) sel.args a.arguments);
      rest = refl;
    }

pub nodes_send : NodesSend
nodes_send z h s b n (nodes.Send sel) given e f r can few = (let P : Selector → Type 0 = λ y. IsSent z h s b n (nodes.Send sel) y r in subst P (some_is sel given e) (stated_sent sel z h s b n f r can (ap_few sel given e few)))
nodes_send z h s b n (nodes.SelfSend sel) given e f r can few = (let P : Selector → Type 0 = λ y. IsSent z h s b n (nodes.SelfSend sel) y r in subst P (some_is sel given e)
    (own_sent (nodes.SelfSend sel) sel refl refl (λ q owns locals at k. refl) (λ q t y S a older g fs at. self_send_is q t y S a older g fs sel at) z h s b n f r can (ap_few sel given e few)))
nodes_send z h s b n (nodes.Resend sel) given e f r can few = (let P : Selector → Type 0 = λ y. IsSent z h s b n (nodes.Resend sel) y r in subst P (some_is sel given e)
    (own_sent (nodes.Resend sel) sel refl refl (λ q owns locals at k. refl) (λ q t y S a older g fs at. resend_is q t y S a older g fs sel at) z h s b n f r can (ap_few sel given e few)))
nodes_send z h s b n (nodes.Directed parent sel) given e f r can few = (let P : Selector → Type 0 = λ y. IsSent z h s b n (nodes.Directed parent sel) y r in subst P (some_is sel given e)
    (own_sent (nodes.Directed parent sel) sel refl refl (λ q owns locals at k. refl) (λ q t y S a older g fs at. directed_is q t y S a older g fs parent sel at) z h s b n f r can (ap_few sel given e few)))
nodes_send z h s b n _ given e f r can few = absurd (cc)

pub data_answers_sends : DataAnswers
data_answers_sends z h s b n node sel r q f can goal cost word few known =
    let x = body_in h.bodies b in
    let v = viewed h.machine b n (frame_locals x) (depth x.nodes n) in
    let callers = callers_of h r.view.older in
    let to = served h b n node word goal cost q.at q.receiver q.first sel.args r can few q.asks q.behind q.low q.takes in
    let raw0 = data_follows (raw_of h) s z f.stands q.sender q.older v callers node q.is_at q.message q.words sel.name.0 (met_of node s q.sender) word q.send known in
    let raw = (let P : List ℕ → Type 0 = λ ws. RawFollows z (becomes (raw_of h) (Going (moved_on (word ∷ ws) v ∷ callers))) (step s) [] in subst P q.rest raw0) in
    let now : Thread = Going (moved_on (word ∷ drop (taken node) v.pending) v ∷ callers) in
    record {
      instructions = 1;
      few = omega arith;
      to = to.to;
      goes = to.goes;
      hosted = to.hosted;
      goal = to.goal;
      left = to.left;
      paid = to.paid;
      body = b;
      number = n + 1;
      next = to.next;
      runs = to.runs;
      sense = raw.to;
      stands = stands_after z h (with_machine (data_answers goal cost word (with_machine h q.asks.to)) to.to) s (becomes (raw_of h) now) f to.raw refl refl refl raw;
      counted = step_counted z h s now f raw;
      silent = raw.same;
    }
