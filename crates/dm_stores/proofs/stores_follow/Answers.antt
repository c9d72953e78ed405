use Rattle.std.proofs.Common.{refl}
use Rattle.dm_stores.proofs.Others.{stores_other}
use Rattle.dm_stores.proofs.Restarting.{stores_restart}
use Rattle.dm_stores.proofs.Steps.{stores_empty, stores_refresh, stores_commit, stores_still}
use Rattle.dm_stores.proofs.stores_follow.Goals as goal

pub returns : goal.returns
returns c = record {
  empty = λ layout site. stores_empty layout site;
  refresh = λ layout past site origin entry installed legal next stores. stores_refresh layout past site origin entry installed legal next stores;
  commit = λ layout past entry installed legal stores. stores_commit layout past entry.origin entry installed legal refl stores;
  others = λ layout past step site installed legal other stores. stores_other layout past step site installed legal other stores;
  still = λ layout past step site installed still stores. stores_still layout past step site installed still stores;
  restart = λ layout history site vector found legal. stores_restart layout history site vector found legal;
}
