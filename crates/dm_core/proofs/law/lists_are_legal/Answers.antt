use Rattle.dm_core.proofs.LawLegal.{legal_seen, follows_seen}
use Rattle.dm_core.proofs.law.lists_are_legal.Goals as goal

pub returns : goal.returns
returns c = record {
  legal = legal_seen;
  back = follows_seen;
}
