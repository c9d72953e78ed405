-- What a site finds, in a history, to restart with.
use Rattle.std.specs.Prelude.{ℕ, List}
use Rattle.dm_event.specs.declared.step.Found.{Found}
use Rattle.dm_event.specs.declared.step.Step.{Step}
use Rattle.dm_frames.specs.Records.{records_of}
use Rattle.dm_model.specs.Allowed.{with_kept}
use Rattle.dm_record.specs.declared.record.Record.{Record}

-- what stands in the site's log: the records of its acts, with the one of the step in doubt where that is kept
abbrev pub logged : ℕ → Found → List Step → List Record
logged site found past = records_of site (with_kept site found past)
