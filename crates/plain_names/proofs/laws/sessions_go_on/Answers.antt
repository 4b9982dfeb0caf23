use Rattle.world_state.specs.Begun.{begun}
use Rattle.world_blocks.specs.Sessions.{session_names}
use Rattle.plain_names.proofs.Sessions.{may_name}
use Rattle.plain_names.proofs.Whole.{rests_on}
use Rattle.plain_names.proofs.laws.sessions_go_on.Goals as goal

pub returns : goal.returns
returns c = λ h w more advisors few fit rests. rests_on h (begun w (session_names w) advisors) more (may_name w more advisors (c.sessions_have_names.ensures w) few fit) rests
