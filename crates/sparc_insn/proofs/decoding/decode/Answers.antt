use Rattle.sparc_insn.proofs.RoundTrip.{instruction-is}
use Rattle.sparc_insn.proofs.decoding.decode.Goals as goal

pub returns-in-0-clause-value : goal.returns-in-0-clause-value
returns-in-0-clause-value c =
    instruction-is c.decode_format2.result c.args.word c.decode_format2.ensures.found c.decode_format2.ensures.none

pub returns-in-1-clause-value : goal.returns-in-1-clause-value
returns-in-1-clause-value c =
    instruction-is c.decode_call.result c.args.word c.decode_call.ensures.found c.decode_call.ensures.none

pub returns-in-Some-clause-value : goal.returns-in-Some-clause-value
returns-in-Some-clause-value c =
    instruction-is c.decode_three.result c.args.word c.decode_three.ensures.found c.decode_three.ensures.none

pub returns-in-None-clause-value : goal.returns-in-None-clause-value
returns-in-None-clause-value c =
    instruction-is c.decode_trap.result c.args.word c.decode_trap.ensures.found c.decode_trap.ensures.none
