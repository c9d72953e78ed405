-- The numbers after one step more.
use Rattle.std.proofs.Common.{ℕ, ◌+◌, ◌<◌, ◌≡◌, ◌^◌, true, refl, List, ◌∷◌, Option, length, sym, ap, ◌∙◌}
use Rattle.std.specs.Prelude.{option_map, slice_get, unwrap_or}
use Rattle.dm_event.specs.Layout.{Layout, is_between, is_session}
use Rattle.dm_event.specs.declared.limits.TheConstants.{MAX_SESSIONS}
use Rattle.dm_event.specs.declared.step.Entry.{Entry}
use Rattle.dm_event.specs.declared.step.Pending.{Pending}
use Rattle.dm_event.specs.declared.step.Step.{Step}
use Rattle.dm_model.proofs.Judged.{shape_of}
use Rattle.dm_model.specs.Allowed.{Allowed}
use Rattle.dm_model.specs.Legal.{LegalPast}
use Rattle.dm_model.specs.Runs.{last_begin}
use Rattle.dm_numbers.proofs.Foreign.{foreign_site, foreign_session}
use Rattle.dm_numbers.proofs.Maxima.{told_floor_is, told_seen_is, told_routes_is}
use Rattle.dm_numbers.proofs.Reached.{told_vector_is}
use Rattle.dm_numbers.specs.Counted.{Counted, site_of, session_of, told_site, told_session, no_site, no_session, site_in, session_in, AreNumbers}
use Rattle.dm_numbers.specs.declared.session.SessionNumbers.{SessionNumbers}
use Rattle.dm_numbers.specs.declared.site.SiteNumbers.{SiteNumbers}
use Rattle.dm_steps.proofs.Sites.{down_next}
use Rattle.dm_steps.proofs.Slots.{numbered_next, numbered_inside}
use Rattle.dm_steps.specs.Naming.{named_in}
use Rattle.dm_steps.specs.Pendings.{kept_of}
use Rattle.dm_steps.specs.Slots.{numbered_in}

-- each element of the lists is brought up to date
pub record Advanced (old new : Counted) (s : Step) (kept : Option Pending) (named : Option Entry) : Type 0 where
  pub all : length old.sessions ≡ MAX_SESSIONS
  pub many : length new.sites ≡ length old.sites
  pub many_sessions : length new.sessions ≡ length old.sessions
  pub sites : (k : ℕ) → slice_get new.sites k ≡ option_map (told_site (k + 1) s kept) (slice_get old.sites k)
  pub sessions : (k : ℕ) → slice_get new.sessions k ≡ option_map (told_session (k + 1) s named) (slice_get old.sessions k)

-- what this says of each site and each session, and of a history
pub record Follows (old new : Counted) (s : Step) (kept : Option Pending) (named : Option Entry) : Type 0 where
  pub sites : (site : ℕ) → is_between 1 (length old.sites) site ≡ true → site_in new site ≡ told_site site s kept (site_in old site)
  pub sessions : (session : ℕ) → is_session session ≡ true → session_in new session ≡ told_session session s named (session_in old session)
  pub many : length new.sites ≡ length old.sites
  pub follows : (layout : Layout) (past : List Step) → LegalPast layout past → Allowed layout past s → length past < 2 ^ 63 → kept ≡ kept_of s past
      → named ≡ named_in s past → AreNumbers layout past old → AreNumbers layout (s ∷ past) new

module _ (layout : Layout) (past : List Step) (s : Step) (legal : LegalPast layout past) (allowed : Allowed layout past s) (few : length past < 2 ^ 63) where
  site_next : (i : ℕ) → told_site i s (kept_of s past) (site_of layout past i) ≡ site_of layout (s ∷ past) i
  site_next i =
      let v = told_vector_is layout past i legal s allowed few in
      let f = told_floor_is layout past legal s allowed i in
      let d = sym (down_next i s past) in
      λ t. record { vector = v t; floor = f t; down = d t }

  session_next : (c : ℕ) → told_session c s (named_in s past) (session_of layout past c) ≡ session_of layout (s ∷ past) c
  session_next c =
      let v = told_seen_is layout past legal s c in
      let r = told_routes_is layout past s allowed c in
      λ t. record { seen = v t; begin = last_begin c (s ∷ past); routes = r t }

module _ (old new : Counted) (s : Step) (kept : Option Pending) (named : Option Entry) (up : Advanced old new s kept named) where
  -- there are as many sites as before
  site_same : (i : ℕ) → site_in new i ≡ unwrap_or (numbered_in new.sites i) (no_site (length old.sites))
  site_same i = ap (λ (count : ℕ). unwrap_or (numbered_in new.sites i) (no_site count)) up.many

  session_same : (c : ℕ) → session_in new c ≡ unwrap_or (numbered_in new.sessions c) (no_session (length old.sites))
  session_same c = ap (λ (count : ℕ). unwrap_or (numbered_in new.sessions c) (no_session count)) up.many

  after : (layout : Layout) (past : List Step) → LegalPast layout past → Allowed layout past s → length past < 2 ^ 63 → kept ≡ kept_of s past
      → named ≡ named_in s past → AreNumbers layout past old → AreNumbers layout (s ∷ past) new
  after layout past legal allowed few k n are =
      let shaped = shape_of layout past s allowed in
      record {
        sites = up.many ∙ are.sites;
        sessions = up.many_sessions ∙ are.sessions;
        site_is = λ i.
            site_same i
            ∙ numbered_next (λ j (x : SiteNumbers). told_site j s kept x) (no_site (length old.sites)) old.sites new.sites layout.sites are.sites up.sites
            (λ j none. ap (λ (o : Option Pending). told_site j s o (no_site (length old.sites))) k
            ∙ foreign_site layout j none past legal s shaped (length old.sites))
            i
            ∙ ap (λ (x : SiteNumbers). told_site i s kept x) (are.site_is i)
            ∙ ap (λ (o : Option Pending). told_site i s o (site_of layout past i)) k
            ∙ site_next layout past s legal allowed few i;
        session_is = λ c.
            session_same c
            ∙ numbered_next (λ j (x : SessionNumbers). told_session j s named x) (no_session (length old.sites)) old.sessions new.sessions MAX_SESSIONS up.all
            up.sessions (λ j none. foreign_session layout j none s shaped named (length old.sites)) c
            ∙ ap (λ (x : SessionNumbers). told_session c s named x) (are.session_is c)
            ∙ ap (λ (o : Option Entry). told_session c s o (session_of layout past c)) n
            ∙ session_next layout past s legal allowed few c;
      }

  pub follows : Follows old new s kept named
  follows = record {
    sites = λ i inside.
        site_same i
        ∙ numbered_inside (λ j (x : SiteNumbers). told_site j s kept x) (no_site (length old.sites)) old.sites new.sites (length old.sites) refl
        up.sites i inside;
    sessions = λ c inside.
        session_same c
        ∙ numbered_inside (λ j (x : SessionNumbers). told_session j s named x) (no_session (length old.sites)) old.sessions new.sessions MAX_SESSIONS up.all
        up.sessions c inside;
    many = up.many;
    follows = after;
  }
