-- Which Routes and Replies may follow.
use Rattle.std.proofs.Common.{◌≡◌, ◌≢◌, ℕ, zero, suc, ◌+◌, ◌≤◌, ◌<◌, ◌%◌, Bool, true, false, ◌==◌, if◌then◌else◌, cond, List, [], ◌∷◌, Option, Some, None}
use Rattle.std.proofs.Common.{refl, ◌∙◌, subst, arith, unwrap_or, nat_le, map}
use Rattle.std.proofs.lemmas.Bool.{eq-eqb, and_from, le-leb}
use Rattle.std.specs.List.{list_all, range_with_len}
use Rattle.std.proofs.lemmas.Nat.{mod_below}
use Rattle.std.specs.Prelude.{ℤ, find, int_lt, ◌-◌}
use Rattle.dm_event.specs.Layout.{Layout, is_site}
use Rattle.dm_event.specs.Vectors.{is_at_most, same_numbers}
use Rattle.dm_event.specs.declared.step.Choice.{Choice}
use Rattle.dm_event.specs.declared.step.Choice.TheVariants.{Master, Best, Reader, Hand}
use Rattle.dm_event.specs.declared.step.Said.{Said}
use Rattle.dm_event.specs.declared.step.Step.{Step}
use Rattle.dm_event.specs.declared.step.Step.TheVariants.{Route, Reply}
use Rattle.dm_event.specs.declared.step.TxnId.{TxnId}
use Rattle.dm_event.specs.declared.step.Want.{Want}
use Rattle.dm_model.proofs.ClausesHold.{first_none, holds_none}
use Rattle.dm_model.proofs.Judged.{judged}
use Rattle.dm_model.specs.Allowed.{Allowed, route_clauses, reply_clauses}
use Rattle.dm_model.specs.Attempts.{replies, routes, state}
use Rattle.dm_model.specs.Choices.{due_for, choice_due, writer_choice, settled_site, choose, parts_of, reader_site, score}
use Rattle.dm_model.specs.Outcomes.{may_say}
use Rattle.dm_model.specs.Placings.{placing, settled_at}
use Rattle.dm_model.specs.Progress.{site_vector}
use Rattle.dm_model.specs.Rows.{may_route, may_choose}
use Rattle.dm_model.specs.Scores.{best_site}
use Rattle.dm_model.specs.Sessions.{session_vector}
use Rattle.dm_model.specs.Shape.{is_shaped}
use Rattle.dm_model.specs.Tests.{same_choice}

numbers_own : (u : List ℕ) → same_numbers u u ≡ true
numbers_own [] = refl
numbers_own (x ∷ u) = and_from (x == x) (same_numbers u u) (eq-eqb x x refl) (numbers_own u)

choice_own : (c : Choice) → same_choice c c ≡ true
choice_own Master = refl
choice_own Best = refl
choice_own Reader = refl
choice_own Hand = refl

-- what is due may be chosen
pub due_chosen : (due : ℕ × Choice) (site : ℕ) (choice : Choice) → site ≡ due.0 → choice ≡ due.1 → may_choose due site choice ≡ true
due_chosen due site Hand e f = refl
due_chosen due site Master e f = and_from _ _ (eq-eqb site due.0 e) (subst (λ (c : Choice). same_choice Master c ≡ true) f refl)
due_chosen due site Best e f = and_from _ _ (eq-eqb site due.0 e) (subst (λ (c : Choice). same_choice Best c ≡ true) f refl)
due_chosen due site Reader e f = and_from _ _ (eq-eqb site due.0 e) (subst (λ (c : Choice). same_choice Reader c ≡ true) f refl)

-- a Route with the number, the attempt, the vector and the choice that are due
pub route_follows : (layout : Layout) (past : List Step) (txn : TxnId) (wanted : Want) (min : List ℕ) (site : ℕ) (choice : Choice)
    → is_shaped layout (Route txn wanted min site choice) ≡ true → txn.number ≡ replies txn.session past + 1 → may_route (state txn.session past) ≡ true
    → txn.attempt ≡ routes txn.session past + 1 → min ≡ session_vector layout.sites past txn.session
    → site ≡ (due_for layout past txn.session wanted site).0 → choice ≡ (due_for layout past txn.session wanted site).1
    → Allowed layout past (Route txn wanted min site choice)
route_follows layout past txn wanted min site choice shaped number may attempt least to by =
    judged layout past (Route txn wanted min site choice) (Route txn wanted min site choice) refl shaped
    ∙ first_none (route_clauses layout past txn wanted min site choice) (
      holds_none _ _ (eq-eqb txn.number (replies txn.session past + 1) number),
      (
        holds_none _ _ may,
        (
          holds_none _ _ (eq-eqb txn.attempt (routes txn.session past + 1) attempt),
          (
            holds_none _ _ (subst (λ (v : List ℕ). same_numbers min v ≡ true) least (numbers_own min)),
            (
              holds_none _ _ (due_chosen (due_for layout past txn.session wanted site) site choice to by),
              tt,
            ),
          ),
        ),
      ),
    )

-- a Reply with the number that is due and an outcome that is allowed
pub reply_follows : (layout : Layout) (past : List Step) (c number : ℕ) (o : Said)
    → is_shaped layout (Reply c number o) ≡ true → number ≡ replies c past + 1 → may_say layout past c o ≡ true
    → Allowed layout past (Reply c number o)
reply_follows layout past c number o shaped due said =
    judged layout past (Reply c number o) (Reply c number o) refl shaped
    ∙ first_none (reply_clauses layout past c number o) (holds_none _ _ (eq-eqb number (replies c past + 1) due), (holds_none _ _ said, tt))

-- ---- the choice that is due

not_by_hand : (o : Option ℕ) (best : ℕ) → (writer_choice o best).1 ≢ Hand
not_by_hand (Some site) best h = cc (h)
not_by_hand None best h = cc (h)

-- a transaction goes by no hand
pub due_by_no_hand : (layout : Layout) (past : List Step) (c : ℕ) (keys : List ℕ) → (choice_due layout past c keys).1 ≢ Hand
due_by_no_hand layout past c [] h = cc (h)
due_by_no_hand layout past c (key ∷ keys) h =
    not_by_hand (settled_site layout past (parts_of layout (key ∷ keys))) (choose layout past (parts_of layout (key ∷ keys))) h

module _ (layout : Layout) (some : 1 ≤ layout.sites) where
  abbrev Here : ℕ → Type 0
  Here i = is_site layout i ≡ true

  within : (i : ℕ) → 1 ≤ i → i ≤ layout.sites → Here i
  within i a b = and_from (nat_le 1 i) (nat_le i layout.sites) (le-leb 1 i a) (le-leb i layout.sites b)

  in_range : (p : ℕ → Bool) (a n i : ℕ) → 1 ≤ a → a + n ≤ layout.sites + 1 → find p (range_with_len a n) ≡ Some i → Here i
  in_range p a zero i l m f = absurd (cc (f))
  in_range p a (suc n) i l m f = by (p a) (λ g. in_range p (a + 1) n i (omega arith) (omega arith) g) f
    where
      by : (b : Bool) → (find p (range_with_len (a + 1) n) ≡ Some i → Here i) → cond b (Some a) (find p (range_with_len (a + 1) n)) ≡ Some i → Here i
      by true rest g = (let same : a ≡ i = cc (g) in subst Here same (within a l (omega arith)))
      by false rest g = rest g

  best_here : (f : ℕ → ℤ) (a n best : ℕ) → 1 ≤ a → a + n ≤ layout.sites + 1 → Here best → Here (best_site f (range_with_len a n) best)
  best_here f a zero best l m h = h
  best_here f a (suc n) best l m h = best_here f (a + 1) n (if int_lt (f best) (f a) then a else best) (omega arith) (omega arith) (by (int_lt (f best) (f a)))
    where
      by : (b : Bool) → Here (if b then a else best)
      by true = within a l (omega arith)
      by false = h

  turned : (k : ℕ) → Here (1 + k % layout.sites)
  turned k = within (1 + k % layout.sites) (omega arith) (let r : k % layout.sites < layout.sites = mod_below k layout.sites some in omega (arith, r))

  reader_here : (past : List Step) (c : ℕ) → Here (reader_site layout past c)
  reader_here past c = by (range_with_len 0 layout.sites)
    where
      p : ℕ → Bool
      p site = is_at_most (session_vector layout.sites past c) (site_vector layout.sites past site)

      by : (ks : List ℕ) → Here (unwrap_or (find p (map (λ k. 1 + (c - 1 + k) % layout.sites) ks)) (1 + (c - 1) % layout.sites))
      by [] = turned (c - 1)
      by (k ∷ ks) = at_head (p (1 + (c - 1 + k) % layout.sites)) (by ks)
        where
          at_head : (b : Bool) → Here (unwrap_or (find p (map (λ j. 1 + (c - 1 + j) % layout.sites) ks)) (1 + (c - 1) % layout.sites))
              → Here (unwrap_or (cond b (Some (1 + (c - 1 + k) % layout.sites)) (find p (map (λ j. 1 + (c - 1 + j) % layout.sites) ks)))
              (1 + (c - 1) % layout.sites))
          at_head true h = turned (c - 1 + k)
          at_head false h = h

  -- and to a site that there is
  pub due_here : (past : List Step) (c : ℕ) (keys : List ℕ) → Here (choice_due layout past c keys).0
  due_here past c [] = reader_here past c
  due_here past c (key ∷ keys) = by (settled_site layout past parts) refl
    where
      parts : List ℕ
      parts = parts_of layout (key ∷ keys)

      by : (o : Option ℕ) → settled_site layout past parts ≡ o → Here (writer_choice o (choose layout past parts)).0
      by (Some i) e = in_range (λ site. list_all (λ p. settled_at (placing layout past p) site) parts) 1 layout.sites i (omega arith) (omega arith) e
      by None e = best_here (score layout past parts) 1 layout.sites 1 (omega arith) (omega arith) (within 1 (omega arith) some)
