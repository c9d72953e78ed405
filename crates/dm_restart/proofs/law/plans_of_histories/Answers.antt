use Rattle.std.specs.Prelude.{reverse}
use Rattle.dm_model.proofs.NumbersSound.{sound_past}
use Rattle.dm_model.specs.Acts.{entries}
use Rattle.dm_plain.proofs.Written.{entries_small}
use Rattle.dm_restart.proofs.Insides.{may_inside}
use Rattle.dm_restart.proofs.Restarting.{whole_plan, reads_plan}
use Rattle.dm_restart.proofs.law.plans_of_histories.Goals as goal

pub returns-clause-whole : goal.returns-clause-whole
returns-clause-whole c = λ layout history h site there found fits. whole_plan layout history h site there found fits

pub returns-clause-installs : goal.returns-clause-installs
returns-clause-installs c = λ layout history h v.
    may_inside v (entries (reverse history)) (sound_past layout (reverse history) h).numbered (entries_small layout (reverse history) h)

pub returns-clause-reads : goal.returns-clause-reads
returns-clause-reads c = λ layout history h site there found fits u key most. reads_plan layout history h site there found fits u key most
