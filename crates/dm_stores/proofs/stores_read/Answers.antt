use Rattle.dm_stores.proofs.Reading.{stores_value}
use Rattle.dm_stores.proofs.stores_read.Goals as goal

pub returns : goal.returns
returns c = record { value = λ layout past site installed stores vector key most. stores_value layout past site installed stores vector key most }
