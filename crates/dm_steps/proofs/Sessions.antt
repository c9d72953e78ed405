-- What a further step makes of what is kept of a session.
use Rattle.std.proofs.Common.{ℕ, suc, ◌≡◌, ◌==◌, Bool, true, false, if◌then◌else◌, List, [], ◌∷◌, Option, Some, None, length, refl, sym, ap}
use Rattle.std.specs.List.{cons_option}
use Rattle.std.specs.Option.{option_or}
use Rattle.std.specs.Prelude.{option_map, IfSome}
use Rattle.dm_event.specs.Entries.{commit_vector}
use Rattle.dm_event.specs.Layout.{Layout}
use Rattle.dm_event.specs.Vectors.{join_all}
use Rattle.dm_event.specs.declared.step.Entry.{Entry}
use Rattle.dm_event.specs.declared.step.Said.{Said}
use Rattle.dm_event.specs.declared.step.Said.TheVariants as said
use Rattle.dm_event.specs.declared.step.Step.{Step}
use Rattle.dm_event.specs.declared.step.Step.TheVariants.{Route, Reply, Ask, Settle, Begin, Moved, Commit, End, Fail, Refresh, Release, Grant, Doubt, Restart}
use Rattle.dm_event.specs.declared.step.TxnId.{TxnId}
use Rattle.dm_model.specs.Acts.{entry_at}
use Rattle.dm_model.specs.Attempts.{Routing, is_reply, replies, is_route, routes, routing_of, last_routing, state, attempt}
use Rattle.dm_model.specs.Legal.{LegalPast}
use Rattle.dm_model.specs.Runs.{last_begin}
use Rattle.dm_model.specs.Sessions.{answered_by, answered, session_vector}
use Rattle.dm_model.specs.Words.{count_of, since}
use Rattle.dm_steps.proofs.Components.{join_one_more}
use Rattle.dm_steps.proofs.Legality.{made_entry, long_commit, long_begin}
use Rattle.dm_steps.specs.Adding.{join_one}
use Rattle.dm_steps.specs.Adding.{routed_by}
use Rattle.dm_steps.specs.Naming.{named_by, named_in}
use Rattle.dm_steps.specs.Next.{next_replies, next_routes, next_routing, next_txn, next_attempt, next_begin, seen_by, next_seen}

module _ (c : ℕ) (s : Step) (past : List Step) where
  pub replies_next : replies c (s ∷ past) ≡ next_replies c s (replies c past)
  replies_next = refl

  pub routes_next : routes c (s ∷ past) ≡ next_routes c s (routes c past)
  routes_next = by_test (is_reply c s)
    where
      by_test : (b : Bool) → count_of (is_route c) (if b then [] else s ∷ since (is_reply c) past)
          ≡ (if b then 0 else (if is_route c s then suc (routes c past) else routes c past))
      by_test true = refl
      by_test false = refl

  pub routing_next : last_routing c (s ∷ past) ≡ next_routing c s (last_routing c past)
  routing_next = refl

  abbrev item_txn : List Step → Option TxnId
  item_txn l = option_map (λ r. r.txn) (last_routing c (since (is_reply c) l))

  map_or : (a b : Option Routing) → option_map (λ r. r.txn) (option_or a b) ≡ option_or (option_map (λ r. r.txn) a) (option_map (λ r. r.txn) b)
  map_or None b = refl
  map_or (Some a) b = refl

  txn_next : item_txn (s ∷ past) ≡ next_txn c s (item_txn past)
  txn_next = by_test (is_reply c s)
    where
      by_test : (b : Bool) → option_map (λ r. r.txn) (last_routing c (if b then [] else s ∷ since (is_reply c) past))
          ≡ (if b then None else option_or (routed_by c s) (item_txn past))
      by_test true = refl
      by_test false = map_or (routing_of (λ txn. txn.session == c) s) (last_routing c (since (is_reply c) past))

  pub attempt_next : attempt c (s ∷ past) ≡ next_attempt c s (attempt c past)
  attempt_next = ap (λ (t : Option TxnId). record { txn = t; state = state c (s ∷ past) }) txn_next

  pub begin_next : last_begin c (s ∷ past) ≡ next_begin c s (last_begin c past)
  begin_next = refl

long_entry : (layout : Layout) (past : List Step) → LegalPast layout past → (o : Option Entry) (site seq : ℕ) → entry_at site seq past ≡ o
    → IfSome (option_map commit_vector o) (λ v. length v ≡ layout.sites)
long_entry layout past h None site seq e = tt
long_entry layout past h (Some x) site seq e = long_commit layout x (made_entry layout past h site seq x e)

long_read : (layout : Layout) (past : List Step) → LegalPast layout past → (o : Option (List ℕ)) (c : ℕ) → last_begin c past ≡ o
    → IfSome o (λ v. length v ≡ layout.sites)
long_read layout past h None c e = tt
long_read layout past h (Some v) c e = long_begin layout _ past h v e

-- what is seen has a component for each site
pub long_seen : (layout : Layout) (past : List Step) → LegalPast layout past → (c : ℕ) (o : Said) → IfSome (seen_by o (named_by o past) (last_begin c past))
    (λ v. length v ≡ layout.sites)
long_seen layout past h c (said.Committed site seq) = long_entry layout past h (entry_at site seq past) site seq refl
long_seen layout past h c (said.Read site) = long_read layout past h (last_begin c past) c refl
long_seen layout past h c (said.InDoubt site) = tt
long_seen layout past h c (said.Placed part site epoch) = tt
long_seen layout past h c (said.Restarted site) = tt
long_seen layout past h c (said.Refused why) = tt

own_answer : (c number : ℕ) (o : Said) (past : List Step) (b : Bool) (vs : List (List ℕ)) (count : ℕ)
    → join_one (join_all count vs) (seen_by o (named_by o past) (last_begin c past))
    ≡ join_all count (cons_option (seen_by o (named_by o past) (last_begin c past)) vs)
    → (session : ℕ) → (session == c) ≡ b
    → join_all count (cons_option (answered_by c (Reply session number o) past) vs)
    ≡ (if b then join_one (join_all count vs) (seen_by o (named_by o past) (last_begin c past)) else join_all count vs)
own_answer c number (said.Committed site seq) past true vs count h session e = rw e (sym h)
own_answer c number (said.Committed site seq) past false vs count h session e = rw e refl
own_answer c number (said.Read site) past true vs count h session e = rw e (sym h)
own_answer c number (said.Read site) past false vs count h session e = rw e refl
own_answer c number (said.InDoubt site) past true vs count h session e = refl
own_answer c number (said.InDoubt site) past false vs count h session e = refl
own_answer c number (said.Placed part site epoch) past true vs count h session e = refl
own_answer c number (said.Placed part site epoch) past false vs count h session e = refl
own_answer c number (said.Restarted site) past true vs count h session e = refl
own_answer c number (said.Restarted site) past false vs count h session e = refl
own_answer c number (said.Refused why) past true vs count h session e = refl
own_answer c number (said.Refused why) past false vs count h session e = refl

pub seen_next : (layout : Layout) (past : List Step) → LegalPast layout past → (c : ℕ) (s : Step)
    → session_vector layout.sites (s ∷ past) c ≡ next_seen c s (named_in s past) (last_begin c past) (session_vector layout.sites past c)
seen_next layout past h c (Reply session number o) =
    own_answer c number o past (session == c) (answered c past) layout.sites
    (join_one_more layout.sites (seen_by o (named_by o past) (last_begin c past)) (answered c past) (long_seen layout past h c o)) session refl
seen_next layout past h c (Route txn want min site choice) = refl
seen_next layout past h c (Ask part epoch to txn) = refl
seen_next layout past h c (Settle part epoch) = refl
seen_next layout past h c (Begin site txn begin) = refl
seen_next layout past h c (Moved site txn) = refl
seen_next layout past h c (Commit entry) = refl
seen_next layout past h c (End site txn ops reads) = refl
seen_next layout past h c (Fail site txn cause) = refl
seen_next layout past h c (Refresh site origin) = refl
seen_next layout past h c (Release site part epoch to vector) = refl
seen_next layout past h c (Grant site part epoch vector) = refl
seen_next layout past h c (Doubt site p) = refl
seen_next layout past h c (Restart site vector found) = refl
