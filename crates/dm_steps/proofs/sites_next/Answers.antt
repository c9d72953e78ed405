use Rattle.dm_steps.proofs.Floors.{legal_floor_next}
use Rattle.dm_steps.proofs.Running.{running_next}
use Rattle.dm_steps.proofs.Sites.{down_next, pending_next, reached_next, vector_next}
use Rattle.dm_steps.proofs.sites_next.Goals as goal

pub returns : goal.returns
returns c = record {
  down = λ step past site. down_next site step past;
  pending = λ step past site. pending_next site step past;
  reached = λ step past site origin. reached_next site origin past step;
  vector = λ count step past site. vector_next count site step past;
  floor = λ layout past legal step allowed site. legal_floor_next layout past legal step allowed site;
  running = λ layout past legal step allowed site. running_next layout past legal step allowed site;
}
