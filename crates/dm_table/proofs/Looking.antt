-- What is made of entries, one by one.
use Rattle.std.proofs.Common.{ℕ, ◌≡◌, ◌≤◌, Bool, true, false, nat_le, min, cond, List, ◌∷◌, Option, Some, None, refl, sym, ap, ◌∙◌, subst, arith, inl, inr}
use Rattle.std.proofs.lemmas.Bool.{false≢true, leb-true, leb-false}
use Rattle.std.specs.Prelude.{is_some}
use Rattle.dm_table.specs.Verdicts.{IsAsked, IsLeastAsked, Masters, least_with}
use Rattle.dm_table.specs.declared.looks.Glance.{Glance}

-- one of them is the first, or stands behind it
asked_behind : (part : ℕ) (first : Glance) (rest : List Glance) → IsAsked part rest → IsAsked part (first ∷ rest)
asked_behind part first rest a = (a.0, inr a.1, a.2, a.3)

-- where the first isn't asked, another is
asked_rest : (part : ℕ) (first : Glance) (rest : List Glance) → is_some first.asked ≡ false → IsAsked part (first ∷ rest) → IsAsked part rest
asked_rest part first rest n (glance, inl e, p, s) = absurd (false≢true (sym n ∙ (ap (λ (g : Glance). is_some g.asked) e ∙ s)))
asked_rest part first rest n (glance, inr h, p, s) = (glance, h, p, s)

-- the first is asked
asked_first : (part : ℕ) (first : Glance) (rest : List Glance) → is_some first.asked ≡ true → part ≡ first.part → IsAsked part (first ∷ rest)
asked_first part first rest s e = (first, inl refl, sym e, s)

-- what is asked is the first's, or another's
below : (part least : ℕ) (first : Glance) (rest : List Glance) → least ≤ first.part → ((other : ℕ) → IsAsked other rest → least ≤ other)
    → IsAsked part (first ∷ rest) → least ≤ part
below part least first rest l h (glance, inl e, p, s) = subst (λ (n : ℕ). least ≤ n) (ap (λ (g : Glance). g.part) e ∙ p) l
below part least first rest l h (glance, inr at, p, s) = h part (glance, at, p, s)

min_either : (a b : ℕ) (P : ℕ → Type 0) → P a → P b → P (min a b)
min_either a b P h k = by (nat_le a b) refl
  where
    by : (t : Bool) → nat_le a b ≡ t → P (min a b)
    by true e = let l : a ≤ b = leb-true a b e in let m : a ≡ min a b = omega (arith, l) in subst P m h
    by false e = let l = leb-false a b e in let m : b ≡ min a b = omega (arith, l) in subst P m k

least_of_all : (first : Glance) (rest : List Glance) (least : Option ℕ) → IsLeastAsked rest least → IsLeastAsked (first ∷ rest) (least_with first least)
least_of_all first rest None h = by (is_some first.asked) refl
  where
    by : (b : Bool) → is_some first.asked ≡ b → IsLeastAsked (first ∷ rest) (cond b (Some first.part) None)
    by true s = (asked_first first.part first rest s refl, λ other a. below other first.part first rest (omega arith) (λ p q. absurd (h p q)) a)
    by false n = λ part a. h part (asked_rest part first rest n a)
least_of_all first rest (Some part) h = by (is_some first.asked) refl
  where
    by : (b : Bool) → is_some first.asked ≡ b → IsLeastAsked (first ∷ rest) (cond b (Some (min part first.part)) (Some part))
    by true s = (
      min_either part first.part (λ n. IsAsked n (first ∷ rest)) (asked_behind part first rest h.0) (asked_first first.part first rest s refl),
      λ other a. below other (min part first.part) first rest (omega arith) (λ p q. (let l = h.1 p q in omega (arith, l))) a,
    )
    by false n = (asked_behind part first rest h.0, λ other a. h.1 other (asked_rest other first rest n a))

pub least_of : (seen : List Glance) (first : Glance) (rest : List Glance) (others least : Option ℕ) → seen ≡ first ∷ rest → IsLeastAsked rest others
    → least ≡ least_with first others → IsLeastAsked seen least
least_of seen first rest others least s h e =
    subst (λ (l : List Glance). IsLeastAsked l least) (sym s)
    (subst (λ (o : Option ℕ). IsLeastAsked (first ∷ rest) o) (sym e) (least_of_all first rest others h))

-- where the first is that site's, all are
no_other : (site : ℕ) (first : Glance) (rest : List Glance) → first.site ≡ site → ((other : ℕ) → Masters other rest → other ≡ site)
    → (other : ℕ) → Masters other (first ∷ rest) → other ≡ site
no_other site first rest e h other (glance, inl is, s) = sym s ∙ (sym (ap (λ (g : Glance). g.site) is) ∙ e)
no_other site first rest e h other (glance, inr at, s) = h other (glance, at, s)

pub none_other : (site : ℕ) (seen : List Glance) (first : Glance) (rest : List Glance) → seen ≡ first ∷ rest → first.site ≡ site
    → ((other : ℕ) → Masters other rest → other ≡ site) → (other : ℕ) → Masters other seen → other ≡ site
none_other site seen first rest s e h other m = no_other site first rest e h other (subst (λ (l : List Glance). Masters other l) s m)
