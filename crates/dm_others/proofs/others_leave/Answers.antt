use Rattle.dm_event.specs.declared.actor.Actor.TheVariants.{Site}
use Rattle.dm_frames.specs.Records.{records_of}
use Rattle.dm_model.specs.Doubts.{is_down, pending_at}
use Rattle.dm_model.specs.Progress.{entry_count, site_vector}
use Rattle.dm_model.specs.Runs.{running}
use Rattle.dm_others.proofs.Growing.{unchanged}
use Rattle.dm_others.proofs.Logs.{down_other, pending_other, records_other, faults_other}
use Rattle.dm_others.proofs.Others.{entries_other, vector_other}
use Rattle.dm_others.proofs.Runs.{running_other, claims_other}
use Rattle.dm_others.proofs.others_leave.Goals as goal
use Rattle.dm_others.specs.Faults.{faults}
use Rattle.dm_others.specs.Locking.{claims}

pub returns : goal.returns
returns c = record {
  entries = λ layout old new site l a.
      unchanged layout (Site site) (entry_count site) (λ past s k b. entries_other layout site past k.0 s k.1 b) old new a.0 a.1 l;
  vector = λ layout old new site l a.
      unchanged layout (Site site) (λ past. site_vector layout.sites past site) (λ past s k b. vector_other layout site past k.0 s k.1 b) old new a.0 a.1 l;
  down = λ layout old new site l a. unchanged layout (Site site) (is_down site) (λ past s k b. down_other site past s b) old new a.0 a.1 l;
  pending = λ layout old new site l a. unchanged layout (Site site) (pending_at site) (λ past s k b. pending_other site past s b) old new a.0 a.1 l;
  records = λ layout old new site l a.
      unchanged layout (Site site) (records_of site) (λ past s k b. records_other layout site past k.0 s k.1 b) old new a.0 a.1 l;
  faults = λ layout old new site l a. unchanged layout (Site site) (faults site) (λ past s k b. faults_other site past s b) old new a.0 a.1 l;
  running = λ layout old new site l a.
      unchanged layout (Site site) (running site) (λ past s k b. running_other layout site past k.0 s k.1 b) old new a.0 a.1 l;
  claims = λ layout old new site l a.
      unchanged layout (Site site) (claims site) (λ past s k b. claims_other layout site past k.0 s k.1 b) old new a.0 a.1 l;
}
