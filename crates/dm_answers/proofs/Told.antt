-- Answers, one item more at a time, and what they say of the history.
use Rattle.std.proofs.Common.{◌≡◌, ◌⊎◌, inl, inr, ⊎_elim, ℕ, zero, suc, ◌+◌, Bool, true, false, ◌==◌, ◌||◌, List, [], ◌∷◌, ◌++◌, length, Option, Some, None}
use Rattle.std.proofs.Common.{refl, sym, ap, ◌∙◌, subst, arith, append_assoc, append-nil}
use Rattle.std.specs.List.{cons_option}
use Rattle.std.specs.Prelude.{slice_get, if◌then◌else◌}
use Rattle.std.proofs.lemmas.Bool.{false≢true, eq-eqb}
use Rattle.dm_chronicle.specs.Belongs.{belongs}
use Rattle.dm_chronicle.specs.Rule.{In, keep_if, mine}
use Rattle.dm_event.specs.Actors.{actors}
use Rattle.dm_event.specs.declared.actor.Actor.{Actor}
use Rattle.dm_event.specs.declared.actor.Actor.TheVariants.{Session}
use Rattle.dm_event.specs.declared.step.Said.{Said}
use Rattle.dm_event.specs.declared.step.Step.{Step}
use Rattle.dm_event.specs.declared.step.Step.TheVariants.{Reply}
use Rattle.dm_answers.specs.Answers.{Tries, EachTries, Told, Answers, upward, number_told, numbers_told, ForItem, Answered}
use Rattle.dm_answers.specs.declared.item.Item.{Item}

-- the actor's steps, in order
abbrev own : Actor → List Step → List Step
own actor steps = mine (belongs actors) actor steps

-- ---- one item more

pub each_append : (c n : ℕ) (item : Item) (xs ys : List Step) → EachTries c n item xs → EachTries c n item ys → EachTries c n item (xs ++ ys)
each_append c n item [] ys p q = q
each_append c n item (x ∷ xs) ys p q = (p.0, each_append c n item xs ys p.1 q)

pub answers_more : (c n : ℕ) (items : List Item) (item : Item) (o : Said) (steps here : List Step)
    → Answers c n items steps → Told c (n + length items) item o here → Answers c n (items ++ item ∷ []) (steps ++ here)
answers_more c n [] item o steps here a t =
    (here, o, [], ap (λ (l : List Step). l ++ here) a ∙ sym (append-nil here), subst (λ (k : ℕ). Told c k item o here) (omega arith) t, refl)
answers_more c n (i ∷ is) item o steps here a t =
    let e : n + suc (length is) ≡ (n + 1) + length is = omega arith in
    let r = answers_more c (n + 1) is item o a.2 here a.5 (subst (λ (k : ℕ). Told c k item o here) e t) in
    (a.0, a.1, a.2 ++ here, ap (λ (l : List Step). l ++ here) a.3 ∙ append_assoc a.0 a.2 here, a.4, r)

-- ---- the numbers of the Replies

numbers_append : (c : ℕ) (xs ys : List Step) → numbers_told c (xs ++ ys) ≡ numbers_told c xs ++ numbers_told c ys
numbers_append c [] ys = refl
numbers_append c (x ∷ xs) ys = ap (cons_option (number_told c x)) (numbers_append c xs ys) ∙ by (number_told c x)
  where
    by : (o : Option ℕ) → cons_option o (numbers_told c xs ++ numbers_told c ys) ≡ cons_option o (numbers_told c xs) ++ numbers_told c ys
    by None = refl
    by (Some k) = refl

tries_none : (c n : ℕ) (item : Item) (s : Step) → Tries c n item s → number_told c s ≡ None
tries_none c n item (Reply session number o) t = absurd t
tries_none c n item other t = refl

way_none : (c n : ℕ) (item : Item) (way : List Step) → EachTries c n item way → numbers_told c way ≡ []
way_none c n item [] e = refl
way_none c n item (s ∷ way) e = ap (λ (o : Option ℕ). cons_option o (numbers_told c way)) (tries_none c n item s e.0) ∙ way_none c n item way e.1

reply_one : (c n : ℕ) (o : Said) → numbers_told c (Reply c n o ∷ []) ≡ n ∷ []
reply_one c n o = ap (λ (b : Bool). cons_option (if b then Some n else None) []) (eq-eqb c c refl)

pub answers_numbers : (c n : ℕ) (items : List Item) (steps : List Step) → Answers c n items steps → numbers_told c steps ≡ upward n items
answers_numbers c n [] steps a = ap (numbers_told c) a
answers_numbers c n (i ∷ is) steps a =
    let t = a.4 in
    let one : numbers_told c a.0 ≡ n ∷ [] =
    ap (numbers_told c) t.1 ∙ (numbers_append c t.0 (Reply c n a.1 ∷ [])
    ∙ (ap (λ (l : List ℕ). l ++ numbers_told c (Reply c n a.1 ∷ [])) (way_none c n i t.0 t.2) ∙ reply_one c n a.1)) in
    ap (numbers_told c) a.3 ∙ (numbers_append c a.0 a.2 ∙ (ap (λ (l : List ℕ). l ++ numbers_told c a.2) one
    ∙ ap (λ (l : List ℕ). n ∷ l) (answers_numbers c (n + 1) is a.2 a.5)))

-- ---- the session's steps in the history

-- what stands in a list

in_append : {A : Type 0} (x : A) (xs ys : List A) → In x (xs ++ ys) → In x xs ⊎ In x ys
in_append x [] ys h = inr h
in_append x (y ∷ xs) ys h = ⊎_elim (λ e. inl (inl e)) (λ t. ⊎_elim (λ p. inl (inr p)) (λ q. inr q) (in_append x xs ys t)) h

in_left : {A : Type 0} (x : A) (xs ys : List A) → In x xs → In x (xs ++ ys)
in_left x [] ys h = absurd h
in_left x (y ∷ xs) ys h = ⊎_elim (λ e. inl e) (λ t. inr (in_left x xs ys t)) h

in_right : {A : Type 0} (x : A) (xs ys : List A) → In x ys → In x (xs ++ ys)
in_right x [] ys h = h
in_right x (y ∷ xs) ys h = inr (in_right x xs ys h)

in_kept : (c : ℕ) (s x : Step) (rest : List Step) (b : Bool) → In s (keep_if b x rest) → (x ≡ s) ⊎ In s rest
in_kept c s x rest true h = h
in_kept c s x rest false h = inr h

own_in : (c : ℕ) (s : Step) (h : List Step) → In s (own (Session c) h) → In s h
own_in c s [] k = absurd k
own_in c s (x ∷ h) k = ⊎_elim (λ e. inl e) (λ t. inr (own_in c s h t)) (in_kept c s x (own (Session c) h) (belongs actors x (Session c)) k)

in_own : (c : ℕ) (s : Step) (h : List Step) → In s h → belongs actors s (Session c) ≡ true → In s (own (Session c) h)
in_own c s [] k b = absurd k
in_own c s (x ∷ h) k b = ⊎_elim
    (λ (e : x ≡ s). at_head (belongs actors x (Session c)) (ap (λ (y : Step). belongs actors y (Session c)) e ∙ b) e)
    (λ t. behind (belongs actors x (Session c)) (in_own c s h t b))
    k
  where
    at_head : (t : Bool) → t ≡ true → x ≡ s → In s (keep_if t x (own (Session c) h))
    at_head true q e = inl e
    at_head false q e = absurd (false≢true q)

    behind : (t : Bool) → In s (own (Session c) h) → In s (keep_if t x (own (Session c) h))
    behind true q = inr q
    behind false q = q

-- a Reply of the session is its step
told_own : (c : ℕ) (s : Step) → belongs actors s (Session c) ≡ false → number_told c s ≡ None
told_own c (Reply session number o) h = by (session == c) h
  where
    by : (b : Bool) → (b || false) ≡ false → (if b then Some number else None) ≡ None
    by true g = absurd (false≢true (sym g))
    by false g = refl
told_own c other h = refl

numbers_own : (c : ℕ) (h : List Step) → numbers_told c (own (Session c) h) ≡ numbers_told c h
numbers_own c [] = refl
numbers_own c (s ∷ h) = by (belongs actors s (Session c)) refl (numbers_own c h)
  where
    by : (b : Bool) → belongs actors s (Session c) ≡ b → numbers_told c (own (Session c) h) ≡ numbers_told c h
        → numbers_told c (keep_if b s (own (Session c) h)) ≡ cons_option (number_told c s) (numbers_told c h)
    by true e r = ap (cons_option (number_told c s)) r
    by false e r = r ∙ ap (λ (o : Option ℕ). cons_option o (numbers_told c h)) (sym (told_own c s e))

-- ---- each step is one for its item

each_in : (c n : ℕ) (item : Item) (way : List Step) (s : Step) → EachTries c n item way → In s way → Tries c n item s
each_in c n item [] s e k = absurd k
each_in c n item (x ∷ way) s e k = ⊎_elim (λ (p : x ≡ s). subst (Tries c n item) p e.0) (λ t. each_in c n item way s e.1 t) k

told_each : (c n : ℕ) (item : Item) (o : Said) (here h : List Step) (s : Step) → Told c n item o here → ((x : Step) → In x here → In x h) → In s here
    → ForItem c n item h s
told_each c n item o here h s t sub k = ⊎_elim
    (λ p. inl (each_in c n item t.0 s t.2 p))
    (λ q. ⊎_elim (λ (e : Reply c n o ≡ s). inr (o, t.0, sym e, t.3, (λ x w. sub x (subst (In x) (sym t.1) (in_left x t.0 (Reply c n o ∷ []) w)))))
    (λ f. absurd f) q)
    (in_append s t.0 (Reply c n o ∷ []) (subst (In s) t.1 k))

answers_each : (c n : ℕ) (items : List Item) (steps h : List Step) (s : Step) → Answers c n items steps → ((x : Step) → In x steps → In x h) → In s steps
    → (k : ℕ) × (item : Item) × (slice_get items k ≡ Some item) × ForItem c (k + n) item h s
answers_each c n [] steps h s a sub k = absurd (subst (In s) a k)
answers_each c n (i ∷ is) steps h s a sub k = ⊎_elim
    (λ p. (
      zero,
      i,
      refl,
      (let e : n ≡ 0 + n = omega arith in subst (λ (m : ℕ). ForItem c m i h s) e
          (told_each c n i a.1 a.0 h s a.4 (λ x w. sub x (subst (In x) (sym a.3) (in_left x a.0 a.2 w))) p)),
    ))
    (λ q.
    let r = answers_each c (n + 1) is a.2 h s a.5 (λ x w. sub x (subst (In x) (sym a.3) (in_right x a.0 a.2 w))) q in
    let e : r.0 + (n + 1) ≡ suc r.0 + n = omega arith in
    (suc r.0, r.1, r.2, subst (λ (m : ℕ). ForItem c m r.1 h s) e r.3))
    (in_append s a.0 a.2 (subst (In s) a.3 k))

-- the session answered its items, in the whole history
pub answers_answered : (c : ℕ) (items : List Item) (h : List Step) → Answers c 1 items (own (Session c) h) → Answered c items h
answers_answered c items h a = record {
  numbers = sym (numbers_own c h) ∙ answers_numbers c 1 items (own (Session c) h) a;
  each = λ s k b. answers_each c 1 items (own (Session c) h) h s a (own_in_all c h) (in_own c s h k b);
}
  where
    own_in_all : (c : ℕ) (h : List Step) (x : Step) → In x (own (Session c) h) → In x h
    own_in_all c h x w = own_in c x h w
