use Rattle.std.proofs.Common.{◌≡◌, ◌≤◌, ◌-◌, length, sym, ap, subst, ◌∙◌, arith}
use Rattle.std.specs.Prelude.{Result, Ok, Err, OnOk, IfOk}
use Rattle.world_build.specs.Steps.{IsWithin}
use Rattle.world_build.specs.SlotTexts.{Told, nothing_told, told, slot_of}
use Rattle.slot_text.specs.Telling.{shown}
use Rattle.slot_text.proofs.Few.{few_of_edit}
use Rattle.slot_text.proofs.telling.slot_text_of.Goals as goal

always : {A E : Type 0} (r : Result A E) (P : Type 0) → P → OnOk r P
always (Ok a) P p = p
always (Err e) P p = tt

pub take_all-all-requires-clause-few : goal.take_all-all-requires-clause-few
take_all-all-requires-clause-few c =
    let few = few_of_edit c.args.names.now c.args.bytes.now c.args.slot.now.items.items c.requires.short c.requires.read in
    omega (arith, few, ap (λ is. length is) c.deref.ensures.value)

pub take_all-all-requires-clause-room : goal.take_all-all-requires-clause-room
take_all-all-requires-clause-room c =
    let few = few_of_edit c.args.names.now c.args.bytes.now c.args.slot.now.items.items c.requires.short c.requires.read in
    let begun : shown c.open-teller.result ≡ nothing_told c.args.names.now = c.open-teller.ensures ∙ ap nothing_told c.replace-own.ensures.value in
    let none : 0 ≤ 450000000 - length c.deref.result.now = omega arith in
    let names : length c.args.names.now ≤ 450000000 - length c.deref.result.now = omega (arith, few, ap (λ is. length is) c.deref.ensures.value, c.requires.room) in
    subst (λ (t : Told). IsWithin (450000000 - length c.deref.result.now) t.loading) (sym begun) (record { names = names; things = none; bodies = none; size = none })

pub returns-clause-told : goal.returns-clause-told
returns-clause-told c =
    let begun : shown c.open-teller.result ≡ nothing_told c.args.names.now = c.open-teller.ensures ∙ ap nothing_told c.replace-own.ensures.value in
    let all : shown c.take_all-all.new.self ≡ told c.args.bytes.now c.args.slot.now.items.items (nothing_told c.args.names.now) =
    c.in_ok-all.ensures ∙ ap (λ is. told c.args.bytes.now is (shown c.open-teller.result)) c.deref.ensures.value ∙ ap (told c.args.bytes.now c.args.slot.now.items.items) begun in
    subst (λ x. IfOk c.finish.result (λ t. t ≡ x)) (ap slot_of all) c.finish.ensures

pub returns-clause-names : goal.returns-clause-names
returns-clause-names c =
    let begun : shown c.open-teller.result ≡ nothing_told c.args.names.now = c.open-teller.ensures ∙ ap nothing_told c.replace-own.ensures.value in
    let all : shown c.take_all-all.new.self ≡ told c.args.bytes.now c.args.slot.now.items.items (nothing_told c.args.names.now) =
    c.in_ok-all.ensures ∙ ap (λ is. told c.args.bytes.now is (shown c.open-teller.result)) c.deref.ensures.value ∙ ap (told c.args.bytes.now c.args.slot.now.items.items) begun in
    always c.finish.result _ (c.swap.ensures.x_after ∙ ap (λ (t : Told). t.loading.names) all)
