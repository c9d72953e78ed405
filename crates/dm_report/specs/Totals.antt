-- How often the sessions were answered in each way.
use Rattle.std.specs.Prelude.{ℕ, Bool, true, false, List}
use Rattle.dm_event.specs.declared.step.Said.TheVariants as said
use Rattle.dm_event.specs.declared.step.Step.{Step}
use Rattle.dm_event.specs.declared.step.Step.TheVariants.{Reply}
use Rattle.dm_model.specs.Words.{count_of}
use Rattle.dm_report.specs.declared.totals.Outcome.{Outcome}
use Rattle.dm_report.specs.declared.totals.Totals.{Totals}
use Rattle.dm_report.specs.declared.totals.Outcome.TheVariants.{Committed, Read, Placed, Restarted, InDoubt, Refused}

-- the step is a Reply with such an outcome
abbrev pub answers : Outcome → Step → Bool
answers Committed (Reply session number (said.Committed site seq)) = true
answers Read (Reply session number (said.Read site)) = true
answers Placed (Reply session number (said.Placed part site epoch)) = true
answers Restarted (Reply session number (said.Restarted site)) = true
answers InDoubt (Reply session number (said.InDoubt site)) = true
answers Refused (Reply session number (said.Refused why)) = true
answers outcome s = false

-- how many Replies have such an outcome
abbrev pub total : Outcome → List Step → ℕ
total outcome past = count_of (answers outcome) past

abbrev pub totals_of : List Step → Totals
totals_of past =
    record {
      committed = total Committed past;
      read = total Read past;
      placed = total Placed past;
      restarted = total Restarted past;
      in_doubt = total InDoubt past;
      refused = total Refused past;
    }
