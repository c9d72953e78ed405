-- A history has one verdict, and `check` ends with it.
use Rattle.std.proofs.Common.{◌≡◌, ◌⊎◌, ◌∙◌, refl, sym, ap, subst, inl, inr, ℕ, ◌+◌, List, [], ◌∷◌, ◌++◌, length, Option, Some, Result, Ok, Err}
use Rattle.dm_event.specs.Layout.{Layout}
use Rattle.dm_event.specs.declared.step.Step.{Step}
use Rattle.dm_event.specs.declared.why.LineFault.{LineFault}
use Rattle.dm_event.specs.declared.why.Why.{Why}
use Rattle.dm_check.specs.Judged.{IsFirstRefused, refused_next}
use Rattle.dm_check.proofs.Steps.{not_legal}
use Rattle.dm_fields.specs.Faults.{Faulty}
use Rattle.dm_model.specs.Legal.{Legal}
use Rattle.dm_past.specs.Histories.{history_of}
use Rattle.dm_top.specs.declared.status.Status.{Status}
use Rattle.dm_top.specs.declared.status.Status.TheVariants as statuses
use Rattle.dm_top.specs.Check.{EndsLegal, EndsOnHistory, HasSteps, AreLegal, AreRefused}
use Rattle.dm_top.specs.Due.{IsVerdict, IsJudged}
use Rattle.dm_top.specs.Ends.{Output}

-- ---- one place at which a list is refused first

-- two fronts of a list, each with the step behind it: they are one, or one is a front of the other with its step
abbrev Meets : List Step → Step → List Step → Step → Type 0
Meets a s b t = ((a ≡ b) × (s ≡ t)) ⊎ ((rest : List Step) × (b ≡ a ++ s ∷ rest)) ⊎ ((rest : List Step) × (a ≡ b ++ t ∷ rest))

longer : (x y : Step) (a b : List Step) (s t : Step) → x ≡ y → Meets a s b t → Meets (x ∷ a) s (y ∷ b) t
longer x y a b s t e (inl (f, g)) = inl (rw (e, f) refl, g)
longer x y a b s t e (inr (inl (rest, f))) = inr (inl (rest, rw (e, f) refl))
longer x y a b s t e (inr (inr (rest, f))) = inr (inr (rest, rw (e, f) refl))

meets : (a b : List Step) (s t : Step) (q r : List Step) → a ++ s ∷ q ≡ b ++ t ∷ r → Meets a s b t
meets [] [] s t q r e = inl (refl, cc)
meets [] (x ∷ b) s t q r e = inr (inl (b, cc))
meets (x ∷ a) [] s t q r e = inr (inr (a, cc))
meets (x ∷ a) (y ∷ b) s t q r e =
    let first : x ≡ y = cc in
    let rest : a ++ s ∷ q ≡ b ++ t ∷ r = cc in
    longer x y a b s t first (meets a b s t q r rest)

one_first : (layout : Layout) (steps : List Step) (i j : ℕ) (v w : Why) (a b : List Step) → IsFirstRefused layout steps i v a → IsFirstRefused layout steps j w b
    → (i ≡ j) × (v ≡ w)
one_first layout steps i j v w a b f g = by_meets (meets a b f.next.step g.next.step f.next.rest g.next.rest (sym f.next.stands ∙ g.next.stands))
  where
    same_why : a ≡ b → f.next.step ≡ g.next.step → ◌≡◌ {A = Option Why} (Some v) (Some w)
    same_why e h = sym f.next.refused ∙ ap (λ (x : List Step). refused_next layout x f.next.step) e ∙ ap (λ (x : Step). refused_next layout b x) h ∙ g.next.refused

    by_meets : Meets a f.next.step b g.next.step → (i ≡ j) × (v ≡ w)
    by_meets (inl (e, h)) =
        let same = same_why e h in
        (f.counted ∙ ap (λ (x : List Step). length x + 1) e ∙ sym g.counted, cc)
    by_meets (inr (inl (rest, e))) =
        absurd (not_legal layout b v a (record {
          step = f.next.step;
          rest = rest;
          stands = e;
          legal = f.next.legal;
          refused = f.next.refused;
        }) g.next.legal)
    by_meets (inr (inr (rest, e))) =
        absurd (not_legal layout a w b (record {
          step = g.next.step;
          rest = rest;
          stands = e;
          legal = g.next.legal;
          refused = g.next.refused;
        }) f.next.legal)

-- ---- one verdict

-- the three verdicts
data Verdict (layout : Layout) (bytes : List ℕ) (status : Status) : Type 0 where
  yes : (steps : List Step) → history_of layout bytes ≡ Ok steps → Legal layout steps → status ≡ statuses.Done → Verdict layout bytes status
  no : (steps before : List Step) (place : ℕ) (why : Why) → history_of layout bytes ≡ Ok steps → IsFirstRefused layout steps place why before
      → status ≡ statuses.CheckedNo place why → Verdict layout bytes status
  faulty : (line : ℕ) (kind : LineFault) → history_of layout bytes ≡ Err (line, kind) → status ≡ statuses.StepFault line kind → Verdict layout bytes status

verdict : (layout : Layout) (bytes : List ℕ) (status : Status) → IsVerdict layout bytes status → Verdict layout bytes status
verdict layout bytes statuses.Done (steps, says, legal) = yes steps says legal refl
verdict layout bytes (statuses.CheckedNo place why) (steps, before, says, first) = no steps before place why says first refl
verdict layout bytes (statuses.StepFault line kind) says = faulty line kind says refl
verdict layout bytes statuses.BadWords e = absurd e
verdict layout bytes (statuses.Absent name) e = absurd e
verdict layout bytes (statuses.TooLong name limit) e = absurd e
verdict layout bytes (statuses.SchemaFault flaw) e = absurd e
verdict layout bytes statuses.ReadFault e = absurd e
verdict layout bytes statuses.WriteFault e = absurd e
verdict layout bytes statuses.Memory e = absurd e

same_steps : (r : Result (List Step) Faulty) (x y : List Step) → r ≡ Ok x → r ≡ Ok y → x ≡ y
same_steps r x y e f = cc

same_fault : (r : Result (List Step) Faulty) (i j : ℕ) (v w : LineFault) → r ≡ Err (i, v) → r ≡ Err (j, w) → (i ≡ j) × (v ≡ w)
same_fault r i j v w e f =
    let same : ◌≡◌ {A = Faulty} (i, v) (j, w) = cc in
    (ap (λ (p : Faulty). p.0) same, ap (λ (p : Faulty). p.1) same)

not_both : (r : Result (List Step) Faulty) (x : List Step) (y : Faulty) → r ≡ Ok x → r ≡ Err y → ⊥
not_both r x y e f = cc

no_first : (layout : Layout) (x y : List Step) (place : ℕ) (why : Why) (before : List Step) → x ≡ y → Legal layout x → IsFirstRefused layout y place why before → ⊥
no_first layout x y place why before e legal first = not_legal layout y why before first.next (subst (λ (l : List Step). Legal layout l) e legal)

one_of : (layout : Layout) (bytes : List ℕ) (a b : Status) → Verdict layout bytes a → Verdict layout bytes b → a ≡ b
one_of layout bytes a b (yes x s l e) (yes y t m f) = e ∙ sym f
one_of layout bytes a b (yes x s l e) (no y before place why t first f) = absurd (no_first layout x y place why before (same_steps _ x y s t) l first)
one_of layout bytes a b (yes x s l e) (faulty line kind t f) = absurd (not_both _ x (line, kind) s t)
one_of layout bytes a b (no x before place why s first e) (yes y t m f) = absurd (no_first layout y x place why before (same_steps _ y x t s) m first)
one_of layout bytes a b (no x before place why s first e) (no y before_b place_b why_b t first_b f) =
    let one = one_first layout y place place_b why why_b before before_b
    (subst (λ (l : List Step). IsFirstRefused layout l place why before) (same_steps _ x y s t) first) first_b in
    e ∙ rw (one.0, one.1) (sym f)
one_of layout bytes a b (no x before place why s first e) (faulty line kind t f) = absurd (not_both _ x (line, kind) s t)
one_of layout bytes a b (faulty line kind s e) (yes y t m f) = absurd (not_both _ y (line, kind) t s)
one_of layout bytes a b (faulty line kind s e) (no y before place why t first f) = absurd (not_both _ y (line, kind) t s)
one_of layout bytes a b (faulty line kind s e) (faulty line_b kind_b t f) =
    let one = same_fault _ line line_b kind kind_b s t in
    e ∙ rw (one.0, one.1) (sym f)

pub one_verdict : (layout : Layout) (bytes : List ℕ) (a b : Status) → IsVerdict layout bytes a → IsVerdict layout bytes b → a ≡ b
one_verdict layout bytes a b x y = one_of layout bytes a b (verdict layout bytes a x) (verdict layout bytes b y)

-- ---- the command ends with it

where_legal : (layout : Layout) (bytes : List ℕ) (steps : List Step) (count : ℕ) (out : Output) (status : Status) → history_of layout bytes ≡ Ok steps
    → Legal layout steps → EndsLegal count out status → IsJudged layout bytes status
where_legal layout bytes steps count out statuses.Done says legal e = inl (steps, says, legal)
where_legal layout bytes steps count out statuses.WriteFault says legal e = inr (inr ((steps, says, legal), refl))
where_legal layout bytes steps count out statuses.Memory says legal e = inr (inl refl)
where_legal layout bytes steps count out statuses.BadWords says legal e = absurd e
where_legal layout bytes steps count out (statuses.Absent name) says legal e = absurd e
where_legal layout bytes steps count out (statuses.TooLong name limit) says legal e = absurd e
where_legal layout bytes steps count out (statuses.SchemaFault flaw) says legal e = absurd e
where_legal layout bytes steps count out (statuses.StepFault line kind) says legal e = absurd e
where_legal layout bytes steps count out (statuses.CheckedNo step why) says legal e = absurd e
where_legal layout bytes steps count out statuses.ReadFault says legal e = absurd e

with_status : (layout : Layout) (bytes : List ℕ) (status due : Status) → status ≡ due → IsVerdict layout bytes due → IsJudged layout bytes status
with_status layout bytes status due e v = inl (subst (λ (s : Status). IsVerdict layout bytes s) (sym e) v)

on_steps : (layout : Layout) (bytes : List ℕ) (out : Output) (history : List Step) (status : Status) → HasSteps layout bytes out history status
    → IsJudged layout bytes status
on_steps layout bytes out history status h = by_ends h.ends
  where
    by_ends : AreLegal layout h.steps out history status ⊎ AreRefused layout h.steps out history status → IsJudged layout bytes status
    by_ends (inl l) =
        where_legal layout bytes h.steps (length history) out status h.says (subst (λ (x : List Step). Legal layout x) l.all l.is.legal) l.said
    by_ends (inr r) = with_status layout bytes status (statuses.CheckedNo r.place r.why) r.said (h.steps, history, h.says, r.first)

pub judged : (layout : Layout) (bytes : List ℕ) (out : Output) (history : List Step) (status : Status) → EndsOnHistory layout bytes out history status
    → IsJudged layout bytes status
judged layout bytes out history status (inl h) = on_steps layout bytes out history status h
judged layout bytes out history status (inr (inl f)) = with_status layout bytes status (statuses.StepFault f.line f.kind) f.said f.says
judged layout bytes out history status (inr (inr m)) = inr (inl m.said)
