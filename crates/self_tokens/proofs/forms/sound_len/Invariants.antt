use Rattle.std.proofs.Common.{◌≡◌, ◌+◌, false, drop}
use Rattle.self_tokens.specs.Forms.{sound_len}
use Rattle.self_tokens.proofs.forms.sound_len.Given as goal

abbrev pub invariant-loop-index : goal.invariant-loop-index
invariant-loop-index l = l.index + sound_len l.escaped (drop l.index l.text) ≡ sound_len false l.fn.text
