use Rattle.self_tokens.specs.declared.symbols.OutOfMemory.{OutOfMemory}
use Rattle.self_tokens.proofs.TokensWithin.{list_in}
use Rattle.self_tokens.proofs.scanning.scan.Goals as goal

pub returns-clause-within : goal.returns-clause-within
returns-clause-within c = list_in OutOfMemory c.args.bytes.now c.scan_all.result c.scan_all.ensures
