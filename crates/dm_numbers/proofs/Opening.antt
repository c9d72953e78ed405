-- The numbers before any step.
use Rattle.std.proofs.Common.{ℕ, suc, zero, ◌+◌, ◌≡◌, ◌==◌, Bool, true, false, if◌then◌else◌, List, [], length, None, refl, sym, ap, ◌∙◌}
use Rattle.std.proofs.lemmas.List.{length-replicate}
use Rattle.std.specs.Prelude.{replicate, unwrap_or}
use Rattle.dm_event.specs.Layout.{Layout}
use Rattle.dm_event.specs.Vectors.{at, vector_by}
use Rattle.dm_event.specs.declared.limits.TheConstants.{MAX_SESSIONS}
use Rattle.dm_model.proofs.VectorFacts.{at_by, long_by}
use Rattle.dm_model.specs.Progress.{reached}
use Rattle.dm_numbers.specs.Counted.{Counted, no_site, no_session, AreNumbers}
use Rattle.dm_numbers.specs.declared.session.SessionNumbers.{SessionNumbers}
use Rattle.dm_numbers.specs.declared.site.SiteNumbers.{SiteNumbers}
use Rattle.dm_steps.proofs.Components.{join_none, vector_is}
use Rattle.dm_steps.proofs.Slots.{numbered_same}
use Rattle.dm_steps.specs.Slots.{numbered_in}

none_reached : (i j : ℕ) → reached i j [] ≡ 0
none_reached i j = by (i == j) j
  where
    by : (b : Bool) (j : ℕ) → (if b then 0 else at [] j + 0) ≡ 0
    by true j = refl
    by false zero = refl
    by false (suc k) = refl

zeros : (count i : ℕ) → replicate {A = ℕ} count 0 ≡ vector_by count (λ j. reached i j [])
zeros count i =
    join_none count
    ∙ vector_is count (vector_by count (λ j. 0)) (λ j. reached i j []) (long_by count (λ j. 0)) (λ k l m. at_by count (λ j. 0) k l m ∙ sym (none_reached i k))

pub opening : (layout : Layout) (n : Counted) → n.sites ≡ replicate layout.sites (no_site layout.sites)
    → n.sessions ≡ replicate MAX_SESSIONS (no_session layout.sites) → AreNumbers layout [] n
opening layout n s c =
    let none : replicate {A = ℕ} layout.sites 0 ≡ _ = join_none layout.sites in
    let many : length n.sites ≡ layout.sites = ap (λ (l : List SiteNumbers). length l) s ∙ length-replicate layout.sites (no_site layout.sites) in
    record {
      sites = many;
      sessions = ap (λ (l : List SessionNumbers). length l) c ∙ length-replicate MAX_SESSIONS (no_session layout.sites);
      site_is = λ i.
          let z = zeros layout.sites i in
          ap (λ (m : ℕ). unwrap_or (numbered_in n.sites i) (no_site m)) many
          ∙ ap (λ (l : List SiteNumbers). unwrap_or (numbered_in l i) (no_site layout.sites)) s ∙ numbered_same (no_site layout.sites) layout.sites i
          ∙ (λ t. record { vector = z t; floor = none t; down = false });
      session_is = λ k.
          ap (λ (m : ℕ). unwrap_or (numbered_in n.sessions k) (no_session m)) many
          ∙ ap (λ (l : List SessionNumbers). unwrap_or (numbered_in l k) (no_session layout.sites)) c ∙ numbered_same (no_session layout.sites) MAX_SESSIONS k
          ∙ (λ t. record { seen = none t; begin = None; routes = 0 });
    }
