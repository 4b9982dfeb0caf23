-- The operands of a primitive at its trap.
use Rattle.std.proofs.Common.{◌≡◌, ℕ, zero, suc, ◌+◌, refl, ◌∙◌, ap, sym, subst, arith, List, length}
use Rattle.std.specs.Prelude.{Some}
use Rattle.sparc_store.specs.Words.{Words}
use Rattle.source_model.specs.Names.{text_named}
use Rattle.source_model.specs.Primitives.{Effect}
use Rattle.source_model.specs.State.{State}
use Rattle.heap_cells.specs.Heaps.{IsHeap}
use Rattle.heap_cells.specs.Standing.{IsValue, AreValues}
use Rattle.prim_table.specs.Answers.{HasCore, HasRoom}
use Rattle.prim_table.specs.declared.answers.CoreWords.{CoreWords}
use Rattle.raw_steps.specs.Messages.{asked}
use Rattle.raw_steps.specs.Sends.{here_of}
use Rattle.raw_steps.specs.Stands.{Sense}
use Rattle.plain_words.specs.Moves.{registers_from}
use Rattle.plain_runs.specs.Host.{Host}
use Rattle.plain_runs.specs.Course.{with_machine}
use Rattle.plain_steps.specs.Steps.{StandsFor}
use Rattle.plain_answers.proofs.Whole.{whole_stands}
use Rattle.plain_prims.specs.Performing.{KnowsCore, OperandsStand, OperandsApply, CostsLeaveRoom}
use Rattle.plain_prims.specs.Rows.{applied}
use Rattle.plain_prims.specs.Services.{heap_of}
use Rattle.plain_prims.proofs.Rows.{effects_tell, takes_so_many}

registers_long : (regs : ℕ → ℕ) (r n : ℕ) → length (registers_from regs r n) ≡ n
registers_long regs r zero = refl
registers_long regs r (suc n) = ap suc (registers_long regs (r + 1) n)

pub core_known : (z : Sense) (h : Host) (s : State) (core : CoreWords) → StandsFor z h s → KnowsCore h s core → HasCore z.cells z.places s.core core
core_known z h s core f k = record { nil = f.nil ∙ ap Some (sym k.nil); yes = f.objects s.core.yes core.yes k.yes; no = f.objects s.core.no core.no k.no }

pub operands_stand : OperandsStand
operands_stand z h s b n name args implied handler r q f =
    let m = h.machine in
    let mv = q.asks.moved in
    let message = asked args implied handler (here_of s q.sender q.older) in
    let P : Words → ℕ → Type 0 = λ y top. IsHeap h.maps y (record { top = top; next = h.next }) z.cells z.places s.things z.made in (
      subst (λ y. P y (q.asks.to.regs 6)) (sym mv.memory_is) (subst (P m.memory) (sym (mv.kept 6 refl)) (whole_stands z h s f).0.heap),
      (let V : ℕ → Type 0 = IsValue z.cells z.places message.receiver in subst V q.receiver_is q.message.receiver),
      (let V : List ℕ → Type 0 = AreValues z.cells z.places message.arguments in subst V q.arguments q.message.arguments),
    )

pub operands_apply : OperandsApply
operands_apply z h s b n name args implied handler r q f core known p found room =
    let message = asked args implied handler (here_of s q.sender q.older) in
    let o = operands_stand z h s b n name args implied handler r q f in
    record {
      cells = z.cells;
      places = z.places;
      made = z.made;
      state = s;
      is = o.0;
      known = core_known z h s core f known;
      value = message.receiver;
      stands = o.1;
      values = message.arguments;
      stand = o.2;
      takes = registers_long q.asks.to.regs 9 args ∙ sym (takes_so_many (text_named s.names name.0) args p found);
      room = (let P : Effect → Type 0 = HasRoom (heap_of (with_machine h q.asks.to)) in
          subst P (effects_tell s (text_named s.names name.0) args message.receiver message.arguments ∙ ap (λ y. applied s y message.receiver message.arguments) found) room);
    }

pub costs_leave_room : CostsLeaveRoom
costs_leave_room h s start e low fits left = omega (arith, low, fits, left)
