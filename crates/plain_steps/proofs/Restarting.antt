-- An activation begins again.
use Rattle.std.proofs.Common.{◌≡◌, ℕ, suc, ◌+◌, ◌-◌, ◌*◌, ◌%◌, ◌^◌, ◌<◌, refl, ◌∙◌, ap, sym, subst, arith}
use Rattle.std.specs.Prelude.{false, List, [], ◌∷◌, length, Some, slice_get, negsuc}
use Rattle.self_terms.specs.declared.nodes.Node.{Node}
use Rattle.self_terms.specs.declared.nodes.Node.TheVariants as nodes
use Rattle.self_terms.specs.Depths.{depth}
use Rattle.sparc_insn.specs.declared.insn.Insn.TheVariants.{Branch}
use Rattle.sparc_store.specs.Words.{Words, word_at, IsWithin}
use Rattle.sparc_machine.specs.State.{MachineState}
use Rattle.sparc_machine.specs.Table.{effect, transferred, words_on}
use Rattle.source_model.specs.Soundness.{body_in}
use Rattle.raw_steps.proofs.Simple.{restart_follows}
use Rattle.plain_words.specs.Going.{Goes, Stands, StandsAt, IsCodeFrom}
use Rattle.plain_words.specs.Code.{poll, count}
use Rattle.plain_words.specs.Moves.{IsReady, Moved}
use Rattle.plain_words.specs.Showing.{viewed}
use Rattle.plain_words.specs.Units.{restart_code, frame_locals, frame_words, owns_context}
use Rattle.plain_words.proofs.Basics.{goes_then, goes_on, goes_none, on, stepped, stepped_to, at_front, at_behind}
use Rattle.plain_words.proofs.Straight.{put_spares}
use Rattle.plain_words.proofs.Polls.{polled, poll_goes, poll_spares}
use Rattle.plain_words.proofs.Shown.{left_shows}
use Rattle.plain_runs.specs.Host.{raw_of, heap_words}
use Rattle.plain_runs.specs.Units.{words_before, node_offset, IsPoll}
use Rattle.plain_runs.specs.Course.{with_machine}
use Rattle.plain_runs.proofs.Located.{none_before}
use Rattle.plain_runs.proofs.Keeping.{unit_kept}
use Rattle.plain_runs.proofs.Working.{ChangedInView, code_same, view_on, view_goes_on}
use Rattle.plain_runs.proofs.Ready.{ready_at}
use Rattle.plain_steps.specs.Steps.{WordsDo, Always}
use Rattle.plain_steps.proofs.Here.{at_node_of}
use Rattle.plain_steps.proofs.Words.{meets_step}

-- so many words back
back_to : (p q back : ℕ) → p ≡ q + 4 * back → 0 < back → p < 2 ^ 32 → (p + (2 ^ 32 - 4 * (back - 1 + 1))) % 2 ^ 32 ≡ q
back_to p q back e h low = omega arith

-- the branch back, the step counted in its delay place
pub record BranchedBack (m : MachineState) (first : ℕ) : Type 0 where
  pub to : MachineState
  pub goes : Goes 7 m to
  pub moved : Moved m to first m.memory ((m.regs 2 + 1) % 2 ^ 32)

branch_back : (m : MachineState) (p words back first : ℕ) → IsReady m p words (restart_code back) → p + 24 ≡ first + 4 * back → 0 < back → BranchedBack m first
branch_back m p words back first r e some =
    let c = r.code_region in
    let front = poll_goes m p r.stands (record { aligned = c.aligned; from = c.from; to = omega (arith, c.to) }) (at_front m.memory p poll (restart_code back) r.code_there) r.left in
    let at = at_behind m.memory p poll (restart_code back) r.code_there in
    let m0 = polled m in
    let a0 : IsCodeFrom (p + 24) (suc 1) = record { aligned = omega (arith, c.aligned); from = omega (arith, c.from); to = omega (arith, c.to) } in
    let a1 : IsCodeFrom (p + 24 + 4) (suc 0) = record { aligned = omega (arith, c.aligned); from = omega (arith, c.from); to = omega (arith, c.to) } in
    let m1 = transferred (words_on m0.pc (negsuc (back - 1))) m0 in
    let m2 = effect count m1 in
    let target : words_on m0.pc (negsuc (back - 1)) ≡ first = ap (λ z. (z + (2 ^ 32 - 4 * (back - 1 + 1))) % 2 ^ 32) front.1.here ∙ back_to (p + 24) first back e some (omega (arith, c.to)) in
    let s1 : Stands m1.pc m1.npc (p + 24 + 4) first = record { here = front.1.next; next = target } in
    let s2 = on m1.pc m1.npc (p + 24 + 4) first s1 (omega (arith, c.to, e)) in
    record {
      to = m2;
      goes = goes_then 5 2 m m0 m2 front.0
          (goes_on 1 m0 m1 m2 (stepped_to m0 m1 (p + 24) (p + 24 + 4) 1 (Branch false 8 (negsuc (back - 1))) front.1 a0 at.0 refl tt refl)
          (goes_on 0 m1 m2 m2 (stepped m1 (p + 24 + 4) first 0 count s1 a1 at.1.0 refl tt) (goes_none m2)));
      moved = record {
        stands = s2;
        memory_is = refl;
        counted = refl;
        kept = λ k h. put_spares m0.regs 2 _ k refl h ∙ poll_spares m k h;
        older = refl;
      };
    }

depth_none : (nodes : List Node) → depth nodes 0 ≡ 0
unfolding depth
depth_none [] = refl
depth_none (x ∷ xs) = refl

some_first : (nodes : List Node) (n : ℕ) (node : Node) → slice_get nodes n ≡ Some node → (first : Node) × (slice_get nodes 0 ≡ Some first) × (0 < length nodes)
some_first [] n node e = absurd (cc)
some_first (x ∷ xs) n node e = (x, refl, omega arith)

pub restart_steps : WordsDo nodes.Restart Always
restart_steps z h s b n f r can holds =
    let m = h.machine in
    let x = body_in h.bodies b in
    let locals = frame_locals x in
    let p = r.poll in
    let before = words_before h.references (owns_context x) locals 0 0 x.nodes n in
    let none : words_before h.references (owns_context x) locals 0 0 x.nodes 0 ≡ 0 = none_before x.nodes h.references (owns_context x) locals 0 0 in
    let first = p.at + 4 * node_offset h.references x 0 in
    let at = at_node_of z h s b n nodes.Restart f r in
    let d = branch_back m m.pc (frame_words x) (before + 6) first (ready_at h b n nodes.Restart r can.left) (omega (arith, p.address, none)) (omega arith) in
    let to = d.to in
    let mv = d.moved in
    let node0 = some_first x.nodes n nodes.Restart r.node_is in
    let c : ChangedInView h b to = record {
      changed = λ a out. ap (λ y. word_at y a) mv.memory_is;
      high = r.view.frame.place.1;
      ends = r.view.frame.ends;
      heap = ap heap_words mv.memory_is;
      within = (let P : Words → Type 0 = IsWithin in subst P (sym mv.memory_is) can.hosted.within);
    } in
    let stands : StandsAt to to.pc = record { here = refl; next = mv.stands.next ∙ ap (λ y. y + 4) (sym mv.stands.here) } in
    let poll_first : IsPoll (with_machine h to) to.pc b 0 = record { at = p.at; unit = unit_kept h to b p.at (code_same h b to c) p.unit; inside = node0.2; address = mv.stands.here } in
    let counted : to.regs 2 ≡ m.regs 2 + 1 = mv.counted ∙ omega (arith, can.left, can.hosted.goal) in
    let shows = ap (viewed to b 0 locals) (depth_none x.nodes) ∙ left_shows m to first ((m.regs 2 + 1) % 2 ^ 32) locals 0 mv b n 0 in
    let v = view_on h b 0 node0.0 to _ r.view can.hosted can.runs can.current c mv.kept mv.older stands poll_first node0.1 shows in
    meets_step z h s b 0 node0.0 _ f (record { instructions = 7; few = omega arith; to = to; goes = d.goes; on = view_goes_on h b 0 node0.0 to _ r.view.older v c.heap counted (mv.kept 3 refl) (mv.kept 6 refl); runs = v.runs })
    (restart_follows (raw_of h) s z f.stands at.young at.older _ _ at.at)
