use Rattle.shown_frames.proofs.Words.{value_shows, ended_show}
use Rattle.shown_frames.proofs.Acts.{activations_show}
use Rattle.shown_frames.proofs.laws.activations_show.Goals as goal

pub returns-clause-values : goal.returns-clause-values
returns-clause-values c = λ z r s all frames memory are has v w value. value_shows z r s all frames memory are has v w value

pub returns-clause-ended : goal.returns-clause-ended
returns-clause-ended c = ended_show

pub returns-clause-activations : goal.returns-clause-activations
returns-clause-activations c = λ z r s all frames memory are has well. activations_show z r s all frames memory are has well
