use Rattle.dm_steps.proofs.Sessions.{replies_next, routes_next, routing_next, attempt_next, begin_next, seen_next}
use Rattle.dm_steps.proofs.sessions_next.Goals as goal

pub returns : goal.returns
returns c = record {
  replies = λ step past session. replies_next session step past;
  routes = λ step past session. routes_next session step past;
  routing = λ step past session. routing_next session step past;
  attempt = λ step past session. attempt_next session step past;
  begin = λ step past session. begin_next session step past;
  seen = λ layout past legal step session. seen_next layout past legal session step;
}
