-- A site that has nothing yet, one whose lock table another waits at, or nobody of a session any more, and one that is taken apart.
use Rattle.std.proofs.Common.{ℕ, ◌≡◌, ◌≤◌, nat_le, true, List, [], ◌∷◌, Option, Some, None, refl, sym, ap, ◌∙◌, subst, arith, inl}
use Rattle.std.proofs.lemmas.Bool.{and_parts, false≢true, leb-true}
use Rattle.std.specs.List.{AllByRecursion as Each}
use Rattle.std.specs.Prelude.{not, reverse, unwrap_or, IfSome}
use Rattle.atomic_table.specs.Seated.{TableId}
use Rattle.dm_core.specs.Lawful.{Terms}
use Rattle.dm_event.specs.Layout.{Layout, is_site}
use Rattle.dm_event.specs.Vectors.{at}
use Rattle.dm_event.specs.declared.actor.Actor.TheVariants.{Site}
use Rattle.dm_event.specs.declared.step.Step.{Step}
use Rattle.dm_event.specs.declared.step.TxnId.{TxnId}
use Rattle.dm_locks.proofs.Counts.{each_filter}
use Rattle.dm_locks.specs.Claims.{is_of}
use Rattle.dm_locks.specs.Locks.{Locks, left_line, no_locks, withdrawn}
use Rattle.dm_others.specs.Locking.{IsSent}
use Rattle.dm_redo.specs.Holding.{IsAt, IsFirm}
use Rattle.dm_invariant.proofs.Appends.{held_settled}
use Rattle.dm_invariant.proofs.Steps.{keeps_line, others_sent}
use Rattle.dm_invariant.specs.Keeping.{IsSite, Keeps, Parts}
use Rattle.dm_invariant.specs.Stations.{View, layout_of, no_terms}
use Rattle.dm_site.specs.Leaving.{Leaves}
use Rattle.dm_store.specs.declared.past.Past.{Past}
use Rattle.dm_stores.proofs.Steps.{stores_empty}
use Rattle.dm_stores.specs.Stores.{Stores}

-- ---- no step yet

-- where the schema has the site, the terms are there
there_are_terms : (o : Option Terms) (site : ℕ) → is_site (unwrap_or o no_terms).layout site ≡ true → (terms : Terms) × (o ≡ Some terms)
there_are_terms None site h =
    let range = and_parts (nat_le 1 site) (nat_le site 0) h in absurd (omega (arith, leb-true 1 site range.0, leb-true site 0 range.1))
there_are_terms (Some terms) site h = (terms, refl)

-- nothing has come, and nothing is held
opens : (layout : Layout) (opened : List ℕ) (site : ℕ) (parts : Parts) → is_site layout site ≡ true → parts.store.layout ≡ layout
    → parts.store.installed ≡ [] → parts.locks ≡ no_locks → IfSome parts.told (λ s. IsAt [] parts.gate s × IsFirm [] s) → at opened site ≤ parts.faults
    → Keeps layout opened site [] parts
opens layout opened site parts there l i n s f = record {
  there = there;
  legal = tt;
  layout_is = l;
  stores = subst (λ (installed : List Past). Stores layout [] site installed) (sym i) (stores_empty layout site);
  holders = ap (λ (locks : Locks). locks.holders) n;
  waiters = subst (λ (locks : Locks). Each (IsSent site []) locks.waiters) (sym n) tt;
  logged = record {
    settled = λ up on. s;
    held = λ up. held_settled [] parts.gate parts.told s;
    doubtful = λ down. absurd (false≢true down);
  };
  caused = record { few = inl (omega (arith, f)); each = tt };
}

pub opens_site : (table : TableId) (opened : List ℕ) (site : ℕ) (pass : View) (schema : Layout) (parts : Parts) → pass.table ≡ table
    → pass.actors ≡ Site site ∷ [] → pass.seen ≡ [] → layout_of pass ≡ schema → is_site schema site ≡ true → parts.store.layout ≡ schema
    → parts.store.installed ≡ [] → parts.locks ≡ no_locks → IfSome parts.told (λ s. IsAt [] parts.gate s × IsFirm [] s) → at opened site ≤ parts.faults
    → IsSite table opened site pass parts
opens_site table opened site pass schema parts t a o e there l i n s f =
    let terms = there_are_terms pass.fixed site (ap (λ (layout : Layout). is_site layout site) e ∙ there) in
    let same : schema ≡ terms.0.layout = sym e ∙ ap (λ (o : Option Terms). (unwrap_or o no_terms).layout) terms.1 in
    record {
      table_is = t;
      actors = a;
      terms = terms.0;
      fixed = terms.1;
      keeps = subst (λ (steps : List Step). Keeps terms.0.layout opened site (reverse steps) parts) (sym o)
          (subst (λ (layout : Layout). Keeps layout opened site [] parts) same (opens schema opened site parts there l i n s f));
    }

-- ---- the line

module _ {table : TableId} {opened : List ℕ} {site : ℕ} {pass : View} {parts : Parts} (s : IsSite table opened site pass parts) where
  other_line : (locks : Locks) → locks.holders ≡ parts.locks.holders → Each (IsSent site (reverse pass.seen)) locks.waiters
      → IsSite table opened site pass (record parts { locks = locks })
  other_line locks h w = record {
    table_is = s.table_is;
    actors = s.actors;
    terms = s.terms;
    fixed = s.fixed;
    keeps = keeps_line s.terms.layout opened site (reverse pass.seen) parts s.keeps locks h w;
  }

  pub line_left : (locks : Locks) (session : ℕ) → locks ≡ left_line parts.locks session → IsSite table opened site pass (record parts { locks = locks })
  line_left locks session e =
      subst (λ (locks : Locks). IsSite table opened site pass (record parts { locks = locks })) (sym e)
      (other_line (left_line parts.locks session) refl (others_sent s.terms.layout opened site (reverse pass.seen) parts s.keeps session))

  pub line_withdrawn : (locks : Locks) (txn : TxnId) → locks ≡ withdrawn parts.locks txn → IsSite table opened site pass (record parts { locks = locks })
  line_withdrawn locks txn e =
      subst (λ (locks : Locks). IsSite table opened site pass (record parts { locks = locks })) (sym e)
      (other_line (withdrawn parts.locks txn) refl
      (each_filter (IsSent site (reverse pass.seen)) (λ claim. not (is_of txn claim)) parts.locks.waiters s.keeps.waiters))

-- ---- taken apart

pub leaves : (table : TableId) (opened : List ℕ) (site : ℕ) (pass : View) (parts : Parts) → IsSite table opened site pass parts
    → Leaves table opened site pass parts.told parts.faults
leaves table opened site pass parts s = record {
  table_is = s.table_is;
  actors = s.actors;
  held = s.keeps.logged.held;
  caused = s.keeps.caused;
}
