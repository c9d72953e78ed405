use Rattle.dm_steps.proofs.Outcomes.{settled_next, restarted_next}
use Rattle.dm_steps.proofs.Sites.{placing_next}
use Rattle.dm_steps.proofs.places_next.Goals as goal

pub returns : goal.returns
returns c = record {
  placing = λ layout step past part. placing_next layout step past part;
  settled = λ layout step past session part site. settled_next layout session part site step past;
  restarted = λ step past session site. restarted_next session site step past;
}
