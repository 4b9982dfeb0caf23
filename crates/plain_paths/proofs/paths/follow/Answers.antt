use Rattle.std.proofs.Common.{◌∙◌, ◌<◌, ◌+◌, sym, ap, subst, length, map, drop, arith}
use Rattle.std.specs.Prelude.{Some}
use Rattle.std.proofs.lemmas.Option.{same_Some}
use Rattle.plain_paths.specs.Paths.{IsOfHeap, name_number}
use Rattle.plain_paths.proofs.Going.{rest, begun, gone_on, ended}
use Rattle.plain_paths.proofs.Reached.{nothing_further}
use Rattle.plain_paths.proofs.paths.follow.Goals as goal

pub returns-in_err-here-clause-word : goal.returns-in_err-here-clause-word
returns-in_err-here-clause-word c =
    let some : 0 < length c.args.path.now = (let f = c.if-path-eq0.false in omega arith) in
    c.from_residual.ensures ∙ sym (nothing_further c.args.maps.now c.args.mem.now (map name_number (drop 1 c.args.path.now)))
    ∙ ap (λ z. rest c.args.maps.now c.args.mem.now z c.args.path.now 1) (sym c.in_err-here.was ∙ c.root.ensures.word)
    ∙ begun c.args.maps.now c.args.mem.now c.args.lobby c.args.lobby_name.0 c.args.path.now (record { 0 = 0 }) some

pub loop-at-init : goal.loop-at-init
loop-at-init c =
    let some : 0 < length c.args.path.now = (let f = c.if-path-eq0.false in omega arith) in (
      c.root.ensures.stands c.in_ok-here.here c.in_ok-here.was,
      ap (λ z. rest c.args.maps.now c.args.mem.now z c.args.path.now 1) (sym c.in_ok-here.was ∙ c.root.ensures.word)
          ∙ begun c.args.maps.now c.args.mem.now c.args.lobby c.args.lobby_name.0 c.args.path.now (record { 0 = 0 }) some,
    )

pub further-requires : goal.further-requires
further-requires c = c.loop-at.invariant.0

pub returns-in_err-here-2-clause-word : goal.returns-in_err-here-2-clause-word
returns-in_err-here-2-clause-word c =
    c.from_residual-in_err-here-2.ensures ∙ sym (nothing_further c.args.maps.now c.args.mem.now (map name_number (drop (c.loop-at.at + 1) c.args.path.now)))
    ∙ ap (λ z. rest c.args.maps.now c.args.mem.now z c.args.path.now (c.loop-at.at + 1)) (sym c.in_err-here-2.was ∙ c.further.ensures.word)
    ∙ gone_on c.args.maps.now c.args.mem.now c.args.path.now c.loop-at.at (record { 0 = 0 }) (Some c.loop-at.here) c.loop-at-test.true ∙ c.loop-at.invariant.1

pub loop-at-preserved : goal.loop-at-preserved
loop-at-preserved c = (
  c.further.ensures.stands c.in_ok-here-2.here c.in_ok-here-2.was,
  ap (λ z. rest c.args.maps.now c.args.mem.now z c.args.path.now (c.loop-at.at + 1)) (sym c.in_ok-here-2.was ∙ c.further.ensures.word)
      ∙ gone_on c.args.maps.now c.args.mem.now c.args.path.now c.loop-at.at (record { 0 = 0 }) (Some c.loop-at.here) c.loop-at-test.true ∙ c.loop-at.invariant.1,
)

pub returns-clause-word : goal.returns-clause-word
returns-clause-word c =
    let out = c.loop-at-test.false in
    sym (ended c.args.maps.now c.args.mem.now c.args.path.now c.loop-at.at (Some c.loop-at.here) (omega arith)) ∙ c.loop-at.invariant.1

pub returns-clause-stands : goal.returns-clause-stands
returns-clause-stands c = λ word e. subst (λ z. IsOfHeap c.args.maps.now c.args.mem.now z) (same_Some c.loop-at.here word e) c.loop-at.invariant.0
