-- The lists of a chronicle whose law is a book are the legal histories.
use Rattle.std.proofs.Common.{List, [], ◌∷◌, ◌++◌, sym, subst, append_assoc, append-nil}
use Rattle.std.proofs.lemmas.List.{reverse-append}
use Rattle.std.specs.Prelude.{reverse}
use Rattle.dm_chronicle.specs.Rule.{Legal as Follows}
use Rattle.dm_core.specs.Lawful.{Terms, may_follow}
use Rattle.dm_event.specs.declared.step.Step.{Step}
use Rattle.dm_event.specs.Layout.{Layout}
use Rattle.dm_model.proofs.Histories.{legal_push, legal_prefix}
use Rattle.dm_model.specs.Allowed.{Allowed}
use Rattle.dm_model.specs.Legal.{Legal, LegalPast}

legal_after : (f : Terms) (before xs : List Step) → Legal f.layout before → Follows may_follow f before xs → Legal f.layout (before ++ xs)
legal_after f before [] l h = subst (λ (p : List Step). Legal f.layout p) (sym (append-nil before)) l
legal_after f before (x ∷ xs) l h =
    subst (λ (p : List Step). Legal f.layout p) (append_assoc before (x ∷ []) xs)
    (legal_after f (before ++ x ∷ []) xs (legal_push f.layout before x l h.0) h.1)

-- what a pass or a turn shows is legal
pub legal_seen : (f : Terms) (xs : List Step) → Follows may_follow f [] xs → Legal f.layout xs
legal_seen f xs h = legal_after f [] xs tt h

legal_last : (layout : Layout) (history : List Step) (s : Step) → Legal layout (history ++ s ∷ []) → Allowed layout (reverse history) s
legal_last layout history s h = (subst (λ (past : List Step). LegalPast layout past) (reverse-append history (s ∷ [])) h).1

follows_after : (f : Terms) (before xs : List Step) → Legal f.layout (before ++ xs) → Follows may_follow f before xs
follows_after f before [] h = tt
follows_after f before (x ∷ xs) h =
    let all : Legal f.layout ((before ++ x ∷ []) ++ xs) = subst (λ (p : List Step). Legal f.layout p) (sym (append_assoc before (x ∷ []) xs)) h in
    (legal_last f.layout before x (legal_prefix f.layout (before ++ x ∷ []) xs all), follows_after f (before ++ x ∷ []) xs all)

-- a legal history may open a chronicle
pub follows_seen : (f : Terms) (xs : List Step) → Legal f.layout xs → Follows may_follow f [] xs
follows_seen f xs h = follows_after f [] xs h
