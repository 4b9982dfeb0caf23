use Rattle.std.proofs.Common.{◌≡◌, ◌+◌, false, drop}
use Rattle.self_tokens.specs.Forms.{text_len}
use Rattle.self_tokens.proofs.forms.text_len.Given as goal

abbrev pub invariant-loop-index : goal.invariant-loop-index
invariant-loop-index l = l.index + text_len l.escaped (drop l.index l.rest) ≡ text_len false l.fn.rest
