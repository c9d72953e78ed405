-- What is read of the latest Route is the latest of what is read of each.
use Rattle.std.proofs.Common.{◌≡◌, ℕ, List, [], ◌∷◌, Option, Some, None, refl, ap, ◌∙◌}
use Rattle.std.specs.Prelude.{option_map}
use Rattle.std.specs.Option.{option_or}
use Rattle.dm_event.specs.declared.step.Step.{Step}
use Rattle.dm_event.specs.declared.step.TxnId.{TxnId}
use Rattle.dm_model.specs.Attempts.{last_routing, routing}
use Rattle.dm_model.specs.Words.{latest}
use Rattle.dm_plain.specs.Routings.{routing_by, wanted_by, want_of}
use Rattle.dm_steps.specs.Adding.{routed_by}
use Rattle.dm_told.specs.Routings.{without_want}

map_or : {A B : Type 0} (f : A → B) (a b : Option A) → option_or (option_map f a) (option_map f b) ≡ option_map f (option_or a b)
map_or f None b = refl
map_or f (Some a) b = refl

pub latest_map : {S A B : Type 0} (f : A → B) (h : S → Option A) (past : List S) → latest (λ s. option_map f (h s)) past ≡ option_map f (latest h past)
latest_map f h [] = refl
latest_map {B = B} f h (s ∷ past) = ap (λ (o : Option B). option_or (option_map f (h s)) o) (latest_map f h past) ∙ map_or f (h s) (latest h past)

pub routing_last : (c : ℕ) (past : List Step) → latest (routing_by c) past ≡ option_map without_want (last_routing c past)
routing_last c past = latest_map without_want _ past

pub wanted_last : (c : ℕ) (past : List Step) → latest (wanted_by c) past ≡ option_map (λ r. r.want) (last_routing c past)
wanted_last c past = latest_map (λ r. r.want) _ past

pub routed_last : (c : ℕ) (past : List Step) → latest (routed_by c) past ≡ option_map (λ r. r.txn) (last_routing c past)
routed_last c past = latest_map (λ r. r.txn) _ past

pub want_last : (t : TxnId) (past : List Step) → latest (want_of t) past ≡ option_map (λ r. r.want) (routing t past)
want_last t past = latest_map (λ r. r.want) _ past
