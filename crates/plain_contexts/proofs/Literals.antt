-- Block literals, where the plain cost of a block is left and where it isn't.
use Rattle.std.proofs.Common.{◌≡◌, ℕ, ◌+◌, ◌-◌, ◌*◌, ◌^◌, ◌<◌, ◌≤◌, refl, ◌∙◌, ap, arith}
use Rattle.std.specs.Prelude.{Bool, true, false, nat_le, List, [], ◌∷◌, Some, Ok, Err, slice_index}
use Rattle.std.proofs.lemmas.Bool.{cond-false}
use Rattle.std.proofs.lemmas.Grind.{common_steps}
use Rattle.self_terms.specs.declared.errors.ErrorName.TheVariants as errors
use Rattle.self_terms.specs.declared.nodes.Node.TheVariants as nodes
use Rattle.self_terms.specs.declared.values.BodyId.{BodyId}
use Rattle.self_terms.specs.declared.values.Value.TheVariants as values
use Rattle.self_terms.specs.Depths.{depth_from}
use Rattle.sparc_store.specs.Words.{with_word}
use Rattle.sparc_machine.specs.State.{MachineState}
use Rattle.sparc_machine.specs.Alu.{add}
use Rattle.source_model.specs.Sends.{then_do, goes_on, paid}
use Rattle.source_model.specs.Soundness.{body_in, HasBody}
use Rattle.source_model.specs.State.{Activation, State}
use Rattle.source_model.specs.Step.{done}
use Rattle.heap_cells.specs.Laying.{with_words}
use Rattle.frame_walk.specs.Places.{pending_offset}
use Rattle.raw_steps.specs.Sends.{here_of}
use Rattle.raw_steps.specs.Stands.{Sense}
use Rattle.plain_words.specs.Moves.{IsReady, HasRoom, cost_left}
use Rattle.plain_words.specs.Units.{frame_locals, frame_words, numbered}
use Rattle.plain_words.specs.Code.{block_code}
use Rattle.plain_words.proofs.Making.{block_makes, block_full}
use Rattle.plain_runs.specs.Host.{Host}
use Rattle.plain_runs.specs.Sound.{RunsAt}
use Rattle.plain_runs.specs.Course.{CanGo, code_at}
use Rattle.plain_runs.proofs.Ready.{ready_at}
use Rattle.plain_steps.specs.Paying.{IsPaid, IsBlocksMap, HasMaps}
use Rattle.plain_steps.specs.Steps.{StandsFor}
use Rattle.plain_steps.proofs.Here.{at_node_of}
use Rattle.plain_steps.proofs.Words.{room_of}
use Rattle.plain_contexts.specs.Literals.{IsFullHere, Literal, Made, Full, LiteralsMake}
use Rattle.plain_contexts.specs.Making.{Makes, CanMake}
use Rattle.plain_contexts.proofs.Making.{blocks_made}

-- four words more can't be paid
too_much : (s : State) → 4194304 < s.cost + 4 → nat_le (s.cost + 4) 4194304 ≡ false
too_much s much = grind (arith, common_steps)

unpaid : (s : State) → 4194304 < s.cost + 4 → paid 4 s ≡ Err errors.StoreFull
unpaid s much = cond-false (nat_le (s.cost + 4) 4194304) (Ok (record s { cost = s.cost + 4 })) (Err errors.StoreFull) (too_much s much)

literal_fails : (s : State) (a : Activation) (older : List Activation) (body : BodyId) → 4194304 < s.cost + 4 → done (here_of s a older) (nodes.BlockLit body) ≡ Err errors.StoreFull
unfolding done
literal_fails s a older body much = ap (λ p. then_do p (λ x. goes_on x (here_of s a older) (values.Block body a.number ∷ a.pending))) (unpaid s much)

is_most : (a b : ℕ) → nat_le a b ≡ true → a ≤ b
is_most a b e = grind arith

is_more : (a b : ℕ) → nat_le a b ≡ false → b < a
is_more a b e = grind arith

-- small numbers have their words
small : (k : ℕ) → k < 2 ^ 30 → numbered k ≡ 4 * k
small k low = omega (arith, low)

module _ (z : Sense) (h : Host) (s : State) (b n : ℕ) (body : BodyId) (f : StandsFor z h s) (r : RunsAt h b n (nodes.BlockLit body)) (can : CanGo h) (start : ℕ) (is_paid : IsPaid start h) where
  abbrev m : MachineState
  m = h.machine

  abbrev locals : ℕ
  locals = frame_locals (body_in h.bodies b)

  abbrev words : ℕ
  words = frame_words (body_in h.bodies b)

  abbrev k : ℕ
  k = depth_from 0 (body_in h.bodies b).nodes n

  abbrev map : ℕ
  map = slice_index h.references.blocks (body.0 - 1)

  ready : IsReady m m.pc words (block_code locals k (numbered map) (numbered body.0))
  ready = ready_at h b n (nodes.BlockLit body) r can.left

  few : m.regs 3 ≤ 4194304
  few = omega (arith, f.stands.cost, f.stands.within)

  full_here : cost_left m < add (m.regs 3) 4 → IsFullHere z h s b n (nodes.BlockLit body) r
  full_here none =
      let at = at_node_of z h s b n (nodes.BlockLit body) f r in
      let much : 4194304 < s.cost + 4 = omega (arith, none, is_paid.left, f.stands.cost) in
      record {
        at = m.pc + 48;
        full = block_full m m.pc words locals k (numbered map) (numbered body.0) ready none;
        place = omega arith;
        sender = at.young;
        older = at.older;
        here = at.at.here;
        error = literal_fails s at.young at.older body much;
      }

  module _ (its_map : IsBlocksMap h.maps body.0 map) (low : map < 2 ^ 30) (little : body.0 < 2 ^ 30) (some : add (m.regs 3) 4 ≤ cost_left m) where
    fits : h.cost + m.regs 3 + 4 ≤ 4194304
    fits = omega (arith, some, few, is_paid.left)

    room : m.regs 6 + 16 ≤ 0x20000000 + 46137344
    room = omega (arith, fits, is_paid.top, is_paid.room)

    can_make : CanMake h map body.0
    can_make = record { mapped = its_map.there; told = its_map.told (m.regs 17) (m.regs 24); room = room; paid = fits }

    has_room : HasRoom (m.regs 6) 4
    has_room = let end = f.stands.heap.laid.end in record { aligned = end.aligned; from = end.above; to = omega (arith, room) }

    makes : Makes m m.pc (code_at h b n (nodes.BlockLit body)) locals k (4 * map) (4 * body.0)
    makes =
        let d = block_makes m m.pc words locals k (numbered map) (numbered body.0) ready (room_of h b n can) has_room some in
        let e = d.made in
        let memory = λ (x y : ℕ). with_word (with_words m.memory (m.regs 6) (x ∷ y ∷ m.regs 17 ∷ m.regs 24 ∷ [])) (m.regs 14 + pending_offset locals k) (m.regs 6 + 1) in
        record {
          instructions = d.instructions;
          few = omega (arith, d.few);
          to = d.to;
          goes = d.goes;
          stands = e.stands;
          memory_is = e.memory_is ∙ ap (λ (x : ℕ). memory x (numbered body.0)) (small map low) ∙ ap (memory (4 * map)) (small body.0 little);
          counted = e.counted;
          cost = omega (arith, e.cost, few);
          top = omega (arith, e.top);
          kept = e.kept;
          older = e.older;
        }

    made_here : Literal z h s b n body r
    made_here = Made (blocks_made z h s b n map body f r can can_make makes)

  by_left : IsBlocksMap h.maps body.0 map → map < 2 ^ 30 → body.0 < 2 ^ 30 → (c : Bool) → nat_le (add (m.regs 3) 4) (cost_left m) ≡ c → Literal z h s b n body r
  by_left its_map low little true e = made_here its_map low little (is_most (add (m.regs 3) 4) (cost_left m) e)
  by_left its_map low little false e = Full (full_here (is_more (add (m.regs 3) 4) (cost_left m) e))

-- A literal's words make a block, or lead to service 8, where the number of the block's body has a word.
pub literal_makes : (z : Sense) (h : Host) (s : State) (b n : ℕ) (body : BodyId) → StandsFor z h s → (r : RunsAt h b n (nodes.BlockLit body)) → CanGo h → (start : ℕ) → IsPaid start h → HasMaps h
    → (outer : ℕ) → HasBody h.bodies body.0 → (body_in h.bodies body.0).outer ≡ Some outer → body.0 < 2 ^ 30 → Literal z h s b n body r
literal_makes z h s b n body f r can start is_paid maps outer there is little =
    let its_map = maps.blocks body.0 outer there is in
    by_left z h s b n body f r can start is_paid its_map (omega (arith, its_map.there, maps.few)) little (nat_le (add (h.machine.regs 3) 4) (cost_left h.machine)) refl

pub literals_make : LiteralsMake
literals_make z h s b n body f r can start is_paid maps outer there is = literal_makes z h s b n body f r can start is_paid maps outer there is (omega (arith, there.1, maps.bodies))
