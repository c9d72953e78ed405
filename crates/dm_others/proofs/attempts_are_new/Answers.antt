use Rattle.dm_others.proofs.Once.{first_route, route_stays, sent_claim, routed_unbegun, began_past, begun_unrouted, first_begin, begin_stays}
use Rattle.dm_others.proofs.attempts_are_new.Goals as goal

pub returns : goal.returns
returns c = record {
  route = λ layout past txn want least site choice l. first_route layout past txn want least site choice l;
  unbegun = λ layout past txn want least site choice l. routed_unbegun layout past txn want least site choice l;
  kept = λ layout past step txn route l h. route_stays layout past step txn route l h;
  keys = λ layout past site claim l sent. sent_claim layout past site claim l sent;
  sent = λ layout past txn l h. (began_past layout past l txn h).0;
  unrouted = λ layout past txn l h. begun_unrouted layout past l txn h;
  begin = λ layout past site txn begin l. first_begin layout past site txn begin l;
  stays = λ layout past step txn begin l h. begin_stays layout past step txn begin l h;
}
