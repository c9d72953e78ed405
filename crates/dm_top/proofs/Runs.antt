-- A history that a book holds.
use Rattle.std.proofs.Common.{◌≡◌, ℕ, List, [], ◌++◌, subst, refl}
use Rattle.dm_event.specs.Layout.{Layout}
use Rattle.dm_event.specs.declared.step.Step.{Step}
use Rattle.dm_model.specs.Legal.{Legal}
use Rattle.dm_model.specs.OneMaster.{OneMaster}
use Rattle.dm_model.specs.Ordered.{Ordered}
use Rattle.dm_model.specs.SessionUp.{SessionUp}
use Rattle.dm_model.specs.Snapshot.{Snapshot}
use Rattle.dm_lines.specs.declared.line.Line.{Line}
use Rattle.dm_report.specs.Rest.{rest_text}
use Rattle.dm_schedule.specs.Drive.{drive_of, answers_of}
use Rattle.dm_top.specs.Ends.{IsHistory}
use Rattle.dm_top.specs.Step.{output_of}

pub history_is : {a b : Layout} {history : List Step} → a ≡ b → Legal a history → Snapshot a history → Ordered history → SessionUp a history
    → OneMaster a history → IsHistory b history
history_is {a} {b} {history} e legal snapshot ordered session_up one_master = record {
  legal = subst (λ (x : Layout). Legal x history) e legal;
  snapshot = subst (λ (x : Layout). Snapshot x history) e snapshot;
  ordered = ordered;
  session_up = subst (λ (x : Layout). SessionUp x history) e session_up;
  one_master = subst (λ (x : Layout). OneMaster x history) e one_master;
}

-- the answers, and the rest after them, in a buffer that was empty
pub text_of : {a b : Layout} (lines : List Line) {steps : List Step} {start after whole : List ℕ} → a ≡ b → steps ≡ (drive_of b lines).history → start ≡ []
    → after ≡ start ++ answers_of b lines → whole ≡ after ++ rest_text a steps → whole ≡ output_of b lines
text_of lines e driven empty answered rested = rw (rested, answered, empty, driven, e) refl
