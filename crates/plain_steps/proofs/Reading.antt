-- Own locals that the frame keeps.
use Rattle.std.proofs.Common.{◌≡◌, ℕ, zero, suc, ◌+◌, ◌*◌, ◌<◌, refl, ◌∙◌, ap, sym, subst, arith}
use Rattle.std.specs.Prelude.{Bool, true, false, if◌then◌else◌, nat_eq, List, [], ◌∷◌, map, length, Some, get_or}
use Rattle.self_terms.specs.declared.nodes.Node.TheVariants as nodes
use Rattle.self_terms.specs.declared.values.Value.{Value}
use Rattle.self_terms.specs.Depths.{depth, depth_from}
use Rattle.sparc_store.specs.Words.{Words, word_at}
use Rattle.sparc_store.specs.Windows.{kept}
use Rattle.source_model.specs.Soundness.{body_in}
use Rattle.source_model.specs.Step.{step}
use Rattle.heap_cells.specs.Laying.{Cells}
use Rattle.heap_cells.specs.Source.{Made, Plain as without}
use Rattle.heap_cells.specs.Standing.{Places, AreValues}
use Rattle.frame_walk.specs.Places.{word_in_place, slots_from, local_offset}
use Rattle.frame_walk.specs.Raw.{Going, becomes, moved_on}
use Rattle.raw_steps.specs.Stands.{HasLocals, Follows as RawFollows}
use Rattle.raw_steps.specs.Nodes.{own_local, kept_at}
use Rattle.raw_steps.proofs.Simple.{read_own_follows}
use Rattle.plain_words.specs.Code.{read_code}
use Rattle.plain_words.specs.Moves.{IsReady, Does, pended, local_address}
use Rattle.plain_words.specs.Showing.{viewed}
use Rattle.plain_words.specs.Units.{frame_locals, frame_words}
use Rattle.plain_words.proofs.Reading.{read_does}
use Rattle.plain_runs.specs.Host.{raw_of}
use Rattle.plain_runs.specs.Sound.{callers_of}
use Rattle.plain_runs.proofs.Ready.{ready_at}
use Rattle.plain_steps.specs.Steps.{WordsRead}
use Rattle.plain_steps.proofs.Here.{at_node_of}
use Rattle.plain_steps.proofs.Words.{room_of, pends}
use Rattle.plain_steps.proofs.Answering.{no_context, wants_none}

-- the word of a local of the frame
local_word : (memory : Words) (window : ℕ → ℕ) (sp offset n slot : ℕ) → slot < n → get_or (map (word_in_place memory window sp) (slots_from offset n)) slot 0 ≡ word_at memory (sp + (offset + 4 * slot))
local_word memory window sp offset zero slot h = absurd (omega (arith, h))
local_word memory window sp offset (suc n) zero h = ap (word_at memory) (omega arith)
local_word memory window sp offset (suc n) (suc slot) h = local_word memory window sp (offset + 4) n slot (omega (arith, h)) ∙ ap (word_at memory) (omega arith)

slots_long : (memory : Words) (window : ℕ → ℕ) (sp offset n : ℕ) → length (map (word_in_place memory window sp) (slots_from offset n)) ≡ n
slots_long memory window sp offset zero = refl
slots_long memory window sp offset (suc n) = ap suc (slots_long memory window sp (offset + 4) n)

pub values_long : (cells : Cells) (p : Places) (vs : List Value) (ws : List ℕ) → AreValues cells p vs ws → length vs ≡ length ws
values_long cells p [] [] h = refl
values_long cells p (v ∷ vs) (w ∷ ws) h = ap suc (values_long cells p vs ws h.1)
values_long cells p [] (w ∷ ws) h = absurd h
values_long cells p (v ∷ vs) [] h = absurd h

is_zero : (a : ℕ) → a ≡ 0 → nat_eq a 0 ≡ true
is_zero a e = ap (λ z. nat_eq z 0) e

pub read_steps : (slot : ℕ) → WordsRead slot
read_steps slot z h s b n f r can plain low =
    let m = h.machine in
    let x = body_in h.bodies b in
    let locals = frame_locals x in
    let k = depth_from 0 x.nodes n in
    let node = nodes.Read 0 slot in
    let at = at_node_of z h s b n node f r in
    let v = viewed m b n locals (depth x.nodes n) in
    let ready = (let P : Bool → Type 0 = λ y. IsReady m m.pc (frame_words x) (read_code y locals k 0 slot) in subst P plain (ready_at h b n node r can.left)) in
    let d = read_does m m.pc (frame_words x) false locals k 0 slot ready (room_of h b n can) (omega (arith, low, room_of h b n can)) in
    let word = word_at m.memory (local_address m false 0 slot) in
    let d2 = (let P : Bool → Type 0 = λ y. Does m m.pc (read_code y locals k 0 slot) (pended m locals k word) in subst P (sym plain) d) in
    let kind_is : at.first.kind ≡ without = no_context z at.young v at.first.kind (sym at.first.wanted ∙ wants_none h s b at.young.body f.bodies at.first.body plain) at.first.locals in
    let none : v.context ≡ 0 = f.stands.heap.means.context at.young.number v.context without at.first.context (at.first.made ∙ ap Some kind_is) in
    let held : AreValues z.cells z.places at.young.locals v.locals = (let P : Made → Type 0 = λ y. HasLocals z at.young v y in subst P kind_is at.first.locals) in
    let many : length at.young.locals ≡ locals = values_long z.cells z.places at.young.locals v.locals held ∙ slots_long m.memory (kept m.regs) (m.regs 14) (local_offset 0) locals in
    let own : own_local (raw_of h).mem v slot ≡ word =
    ap (λ y. if y then get_or v.locals slot 0 else kept_at (raw_of h).mem v.context slot) (is_zero v.context none)
    ∙ local_word m.memory (kept m.regs) (m.regs 14) (local_offset 0) locals slot low in
    let raw = read_own_follows (raw_of h) s z f.stands at.young at.older v (callers_of h r.view.older) slot at.at (omega (arith, many, low)) in
    let raw2 = (let P : ℕ → Type 0 = λ y. RawFollows z (becomes (raw_of h) (Going (moved_on (y ∷ v.pending) v ∷ callers_of h r.view.older))) (step s) [] in subst P own raw) in
    pends z h s f b n node word r can refl (λ q. omega arith) d2 raw2
