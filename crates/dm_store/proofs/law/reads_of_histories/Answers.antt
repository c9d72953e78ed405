use Rattle.dm_store.proofs.Joining.{reads_whole, reads_inside, reads_by_key}
use Rattle.dm_store.proofs.law.reads_of_histories.Goals as goal

pub returns-clause-whole : goal.returns-clause-whole
returns-clause-whole c = λ layout history u key. reads_whole layout history u key

pub returns-clause-inside : goal.returns-clause-inside
returns-clause-inside c = λ layout history v u key most. reads_inside layout history v u key most

pub returns-clause-by_key : goal.returns-clause-by_key
returns-clause-by_key c = λ layout history v u key installed has most. reads_by_key layout history v u key installed has most
