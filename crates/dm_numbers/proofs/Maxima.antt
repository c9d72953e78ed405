-- A floor, what a session has seen, and its Routes after one step more are what the step tells.
use Rattle.std.proofs.Common.{ℕ, suc, ◌+◌, ◌≡◌, ◌==◌, Bool, true, false, if◌then◌else◌, List, ◌∷◌, Option, Some, None, length, refl}
use Rattle.std.proofs.Common.{sym, ap, ◌∙◌, arith}
use Rattle.std.proofs.lemmas.Bool.{eqb-true, eq-eqb, le-leb, and_from, cond-true}
use Rattle.std.specs.Prelude.{option_map, option_and_then, IfSome}
use Rattle.dm_event.specs.Entries.{commit_vector}
use Rattle.dm_event.specs.Layout.{Layout, is_between}
use Rattle.dm_event.specs.declared.step.Entry.{Entry}
use Rattle.dm_event.specs.declared.step.Said.{Said}
use Rattle.dm_event.specs.declared.step.Said.TheVariants as said
use Rattle.dm_event.specs.declared.step.Step.{Step}
use Rattle.dm_event.specs.declared.step.Step.TheVariants.{Route, Reply, Commit, Grant}
use Rattle.dm_model.proofs.LegalSteps.{legal_route}
use Rattle.dm_model.proofs.VectorFacts.{long_by}
use Rattle.dm_model.specs.Acts.{entry_at}
use Rattle.dm_model.specs.Allowed.{Allowed}
use Rattle.dm_model.specs.Attempts.{routes}
use Rattle.dm_model.specs.Floors.{floor_vector, floor}
use Rattle.dm_model.specs.Legal.{LegalPast}
use Rattle.dm_model.specs.Runs.{last_begin}
use Rattle.dm_model.specs.Sessions.{session_vector}
use Rattle.dm_numbers.specs.Told.{told_join, told_commit, told_floor_vector, told_floor, told_seen_by, told_seen, told_routes}
use Rattle.dm_steps.proofs.Floors.{Fits, act_fits}
use Rattle.dm_steps.proofs.Legality.{Made, made_entry, long_commit}
use Rattle.dm_steps.proofs.Sessions.{long_seen, seen_next, routes_next}
use Rattle.dm_steps.proofs.Sites.{floor_next}
use Rattle.dm_steps.specs.Adding.{join_one}
use Rattle.dm_steps.specs.Naming.{named_by, named_in}
use Rattle.dm_steps.specs.Next.{seen_by}
use Rattle.dm_steps.specs.Pendings.{kept_of, act_of}

joins : (count : ℕ) (u : List ℕ) (o : Option (List ℕ)) → length u ≡ count → IfSome o (λ v. length v ≡ count) → told_join u o ≡ join_one u o
joins count u None l h = refl
joins count u (Some v) l h = cond-true (length u == length v) _ _ (eq-eqb (length u) (length v) (l ∙ sym h))

module _ (layout : Layout) where
  made_commit : (e : Entry) → Made layout e → told_commit e ≡ Some (commit_vector e)
  made_commit e m = cond-true (is_between 1 (length e.begin) e.origin) _ _ (and_from _ _ (le-leb 1 e.origin m.one) (le-leb e.origin (length e.begin) m.within))

  -- what is told of a vector, and that it has a component for each site
  record Told (told given : Option (List ℕ)) : Type 0 where
    same : told ≡ given
    long : IfSome given (λ v. length v ≡ layout.sites)

  floor_told : (i : ℕ) (s : Step) → Fits layout s → Told (told_floor_vector i s) (floor_vector i s)
  floor_told i (Commit e) m = by (e.origin == i)
    where
      by : (b : Bool) → Told (if b then told_commit e else None) (if b then Some (commit_vector e) else None)
      by true = record { same = made_commit e m; long = long_commit layout e m }
      by false = record { same = refl; long = tt }
  floor_told i (Grant site part epoch vector) l = by (site == i)
    where
      by : (b : Bool) → Told (if b then Some vector else None) (if b then Some vector else None)
      by true = record { same = refl; long = l }
      by false = record { same = refl; long = tt }
  floor_told i other h = record { same = refl; long = tt }

  act_told : (i : ℕ) (o : Option Step) → IfSome o (λ a. Fits layout a) → Told (option_and_then (told_floor_vector i) o) (option_and_then (floor_vector i) o)
  act_told i None h = record { same = refl; long = tt }
  act_told i (Some a) h = floor_told i a h

  pub told_floor_is : (past : List Step) → LegalPast layout past → (s : Step) → Allowed layout past s → (i : ℕ)
      → told_floor i s (kept_of s past) (floor layout.sites past i) ≡ floor layout.sites (s ∷ past) i
  told_floor_is past h s a i =
      let t = act_told i (act_of s (kept_of s past)) (act_fits layout past h s a) in
      ap (λ (o : Option (List ℕ)). told_join (floor layout.sites past i) o) t.same
      ∙ joins layout.sites (floor layout.sites past i) (option_and_then (floor_vector i) (act_of s (kept_of s past))) (long_by layout.sites _) t.long
      ∙ sym (floor_next layout.sites i s past t.long)

  -- ---- what a session has seen

  entry_told : (past : List Step) → LegalPast layout past → (o : Option Entry) (site seq : ℕ) → entry_at site seq past ≡ o
      → option_and_then told_commit o ≡ option_map commit_vector o
  entry_told past h None site seq e = refl
  entry_told past h (Some x) site seq e = made_commit x (made_entry layout past h site seq x e)

  said_told : (past : List Step) → LegalPast layout past → (o : Said) (begin : Option (List ℕ)) → told_seen_by o (named_by o past) begin
      ≡ seen_by o (named_by o past) begin
  said_told past h (said.Committed site seq) begin = entry_told past h (entry_at site seq past) site seq refl
  said_told past h (said.Read site) begin = refl
  said_told past h (said.InDoubt site) begin = refl
  said_told past h (said.Placed part site epoch) begin = refl
  said_told past h (said.Restarted site) begin = refl
  said_told past h (said.Refused why) begin = refl

  pub told_seen_is : (past : List Step) → LegalPast layout past → (s : Step) → (c : ℕ)
      → told_seen c s (named_in s past) (last_begin c past) (session_vector layout.sites past c) ≡ session_vector layout.sites (s ∷ past) c
  told_seen_is past h (Reply session number o) c =
      ap (λ (v : List ℕ). if session == c then v else session_vector layout.sites past c)
      (ap (λ (x : Option (List ℕ)). told_join (session_vector layout.sites past c) x) (said_told past h o (last_begin c past))
      ∙ joins layout.sites (session_vector layout.sites past c) (seen_by o (named_by o past) (last_begin c past)) (long_by layout.sites _)
      (long_seen layout past h c o))
      ∙ sym (seen_next layout past h c (Reply session number o))
  told_seen_is past h other c = refl

  -- ---- its Routes

  pub told_routes_is : (past : List Step) (s : Step) → Allowed layout past s → (c : ℕ) → told_routes c s (routes c past) ≡ routes c (s ∷ past)
  told_routes_is past (Route txn want min site choice) a c =
      by (txn.session == c) refl (legal_route layout past txn want min site choice a).attempt ∙ sym (routes_next c (Route txn want min site choice) past)
    where
      by : (b : Bool) → (txn.session == c) ≡ b → txn.attempt ≡ routes txn.session past + 1
          → (if b then txn.attempt else routes c past) ≡ (if b then suc (routes c past) else routes c past)
      by true e f = let g = ap (λ (d : ℕ). routes d past) (eqb-true txn.session c e) in omega (arith, f, g)
      by false e f = refl
  told_routes_is past (Reply session number said) a c = sym (routes_next c (Reply session number said) past)
  told_routes_is past other a c = refl
