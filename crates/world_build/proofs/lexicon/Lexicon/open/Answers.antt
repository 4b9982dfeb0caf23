-- Each number is that of its text when it is given, and stays as the further texts are.
use Rattle.std.proofs.Common.{refl}
use Rattle.world_build.proofs.NameLemmas.{number_kept, number_as, grown}
use Rattle.world_build.proofs.lexicon.Lexicon.open.Goals as goal

pub invariant_of-result : goal.invariant_of-result
invariant_of-result c = record {
  lobby = number_kept c.number-7.new.names c.number-8.new.names _ _ c.in_ok-lobby.lobby c.in_ok-blocks.ensures.grows (number_kept c.number-6.new.names c.number-7.new.names _ _ c.in_ok-lobby.lobby c.in_ok-vectors.ensures.grows (number_kept c.number-5.new.names c.number-6.new.names _ _ c.in_ok-lobby.lobby c.in_ok-strings.ensures.grows (number_kept c.number-4.new.names c.number-5.new.names _ _ c.in_ok-lobby.lobby c.in_ok-integers.ensures.grows (number_kept c.number-3.new.names c.number-4.new.names _ _ c.in_ok-lobby.lobby c.in_ok-no.ensures.grows (number_kept c.number-2.new.names c.number-3.new.names _ _ c.in_ok-lobby.lobby c.in_ok-yes.ensures.grows (number_kept c.number.new.names c.number-2.new.names _ _ c.in_ok-lobby.lobby c.in_ok-nil.ensures.grows (number_as c.number.new.names _ _ c.in_ok-lobby.lobby c.as_bytes.ensures.value c.in_ok-lobby.ensures.number)))))));
  nil = number_kept c.number-7.new.names c.number-8.new.names _ _ c.in_ok-nil.nil c.in_ok-blocks.ensures.grows (number_kept c.number-6.new.names c.number-7.new.names _ _ c.in_ok-nil.nil c.in_ok-vectors.ensures.grows (number_kept c.number-5.new.names c.number-6.new.names _ _ c.in_ok-nil.nil c.in_ok-strings.ensures.grows (number_kept c.number-4.new.names c.number-5.new.names _ _ c.in_ok-nil.nil c.in_ok-integers.ensures.grows (number_kept c.number-3.new.names c.number-4.new.names _ _ c.in_ok-nil.nil c.in_ok-no.ensures.grows (number_kept c.number-2.new.names c.number-3.new.names _ _ c.in_ok-nil.nil c.in_ok-yes.ensures.grows (number_as c.number-2.new.names _ _ c.in_ok-nil.nil c.as_bytes-2.ensures.value c.in_ok-nil.ensures.number))))));
  yes = number_kept c.number-7.new.names c.number-8.new.names _ _ c.in_ok-yes.yes c.in_ok-blocks.ensures.grows (number_kept c.number-6.new.names c.number-7.new.names _ _ c.in_ok-yes.yes c.in_ok-vectors.ensures.grows (number_kept c.number-5.new.names c.number-6.new.names _ _ c.in_ok-yes.yes c.in_ok-strings.ensures.grows (number_kept c.number-4.new.names c.number-5.new.names _ _ c.in_ok-yes.yes c.in_ok-integers.ensures.grows (number_kept c.number-3.new.names c.number-4.new.names _ _ c.in_ok-yes.yes c.in_ok-no.ensures.grows (number_as c.number-3.new.names _ _ c.in_ok-yes.yes c.as_bytes-3.ensures.value c.in_ok-yes.ensures.number)))));
  no = number_kept c.number-7.new.names c.number-8.new.names _ _ c.in_ok-no.no c.in_ok-blocks.ensures.grows (number_kept c.number-6.new.names c.number-7.new.names _ _ c.in_ok-no.no c.in_ok-vectors.ensures.grows (number_kept c.number-5.new.names c.number-6.new.names _ _ c.in_ok-no.no c.in_ok-strings.ensures.grows (number_kept c.number-4.new.names c.number-5.new.names _ _ c.in_ok-no.no c.in_ok-integers.ensures.grows (number_as c.number-4.new.names _ _ c.in_ok-no.no c.as_bytes-4.ensures.value c.in_ok-no.ensures.number))));
  integers = number_kept c.number-7.new.names c.number-8.new.names _ _ c.in_ok-integers.integers c.in_ok-blocks.ensures.grows (number_kept c.number-6.new.names c.number-7.new.names _ _ c.in_ok-integers.integers c.in_ok-vectors.ensures.grows (number_kept c.number-5.new.names c.number-6.new.names _ _ c.in_ok-integers.integers c.in_ok-strings.ensures.grows (number_as c.number-5.new.names _ _ c.in_ok-integers.integers c.as_bytes-5.ensures.value c.in_ok-integers.ensures.number)));
  strings = number_kept c.number-7.new.names c.number-8.new.names _ _ c.in_ok-strings.strings c.in_ok-blocks.ensures.grows (number_kept c.number-6.new.names c.number-7.new.names _ _ c.in_ok-strings.strings c.in_ok-vectors.ensures.grows (number_as c.number-6.new.names _ _ c.in_ok-strings.strings c.as_bytes-6.ensures.value c.in_ok-strings.ensures.number));
  vectors = number_kept c.number-7.new.names c.number-8.new.names _ _ c.in_ok-vectors.vectors c.in_ok-blocks.ensures.grows (number_as c.number-7.new.names _ _ c.in_ok-vectors.vectors c.as_bytes-7.ensures.value c.in_ok-vectors.ensures.number);
  blocks = number_as c.number-8.new.names _ _ c.in_ok-blocks.blocks c.as_bytes-8.ensures.value c.in_ok-blocks.ensures.number;
}

pub returns : goal.returns
returns c = grown c.number-7.new.names c.number-8.new.names _ _ _ (grown c.number-6.new.names c.number-7.new.names _ _ _ (grown c.number-5.new.names c.number-6.new.names _ _ _ (grown c.number-4.new.names c.number-5.new.names _ _ _ (grown c.number-3.new.names c.number-4.new.names _ _ _ (grown c.number-2.new.names c.number-3.new.names _ _ _ (grown c.number.new.names c.number-2.new.names _ _ _ (grown c.args.names c.number.new.names _ _ _ refl c.in_ok-lobby.ensures.grows c.as_bytes.ensures.value) c.in_ok-nil.ensures.grows c.as_bytes-2.ensures.value) c.in_ok-yes.ensures.grows c.as_bytes-3.ensures.value) c.in_ok-no.ensures.grows c.as_bytes-4.ensures.value) c.in_ok-integers.ensures.grows c.as_bytes-5.ensures.value) c.in_ok-strings.ensures.grows c.as_bytes-6.ensures.value) c.in_ok-vectors.ensures.grows c.as_bytes-7.ensures.value) c.in_ok-blocks.ensures.grows c.as_bytes-8.ensures.value
