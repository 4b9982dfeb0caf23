-- What a task of the code stands for.
use Rattle.self_debugger.specs.declared.words.Task.{Task}
use Rattle.self_debugger.specs.declared.words.Task.TheVariants.{Run, Check, Drill}
use Rattle.self_debugger.specs.Words.{Job, RunWorld, CheckWorld, RunDrill}

abbrev pub meant : Task → Job
meant (Run name) = RunWorld name.now
meant (Check name) = CheckWorld name.now
meant (Drill n) = RunDrill n
