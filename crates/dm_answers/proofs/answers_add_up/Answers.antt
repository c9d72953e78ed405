use Rattle.dm_answers.proofs.Told.{answers_answered, answers_more, answers_numbers}
use Rattle.dm_answers.proofs.answers_add_up.Goals as goal

pub returns : goal.returns
returns c = record {
  more = λ session first items item said steps here a t. answers_more session first items item said steps here a t;
  numbers = λ session first items steps a. answers_numbers session first items steps a;
  answered = λ session items history a. answers_answered session items history a;
}
