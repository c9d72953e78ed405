-- The states after one step more.
use Rattle.std.proofs.Common.{ℕ, suc, ◌+◌, ◌<◌, ◌≡◌, ◌==◌, Bool, true, false, if◌then◌else◌, List, ◌∷◌, Option, length, refl, sym, ap, ◌∙◌, arith}
use Rattle.std.proofs.lemmas.Bool.{eqb-true}
use Rattle.std.specs.Prelude.{option_map, slice_get}
use Rattle.dm_event.specs.Layout.{Layout, is_session}
use Rattle.dm_event.specs.declared.attempt.Attempt.{Attempt}
use Rattle.dm_event.specs.declared.limits.TheConstants.{MAX_SESSIONS}
use Rattle.dm_event.specs.declared.placing.Placing.{Placing}
use Rattle.dm_event.specs.declared.placing.Placing.TheVariants.{Settled}
use Rattle.dm_event.specs.declared.step.Pending.{Pending}
use Rattle.dm_event.specs.declared.step.Step.{Step}
use Rattle.dm_event.specs.declared.step.Step.TheVariants.{Reply}
use Rattle.dm_model.proofs.Judged.{shape_of}
use Rattle.dm_model.proofs.LegalSteps.{legal_reply}
use Rattle.dm_model.specs.Allowed.{Allowed}
use Rattle.dm_model.specs.Attempts.{replies}
use Rattle.dm_model.specs.Legal.{LegalPast}
use Rattle.dm_model.specs.Placings.{placing}
use Rattle.dm_state.proofs.Foreign.{foreign, moved_part}
use Rattle.dm_state.proofs.Unmoved.{unmoved}
use Rattle.dm_state.specs.Moving.{moved}
use Rattle.dm_state.specs.Standings.{Standings, idle, attempt_in, replies_in, placing_in, told_replies, AreStates}
use Rattle.dm_steps.proofs.Sessions.{attempt_next}
use Rattle.dm_steps.proofs.Sites.{placing_next}
use Rattle.dm_steps.proofs.Slots.{at_end, read_next, numbered_next, numbered_inside}
use Rattle.dm_steps.specs.Next.{next_attempt, next_replies, next_placing}
use Rattle.dm_steps.specs.Pendings.{kept_of}

-- each element of the lists is brought up to date
pub record Advanced (old new : Standings) (s : Step) (kept : Option Pending) : Type 0 where
  pub attempts_all : length old.attempts ≡ MAX_SESSIONS
  pub replies_all : length old.replies ≡ MAX_SESSIONS
  pub parts : length new.placings ≡ length old.placings
  pub attempts : (k : ℕ) → slice_get new.attempts k ≡ option_map (next_attempt (k + 1) s) (slice_get old.attempts k)
  pub replies : (k : ℕ) → slice_get new.replies k ≡ option_map (told_replies (k + 1) s) (slice_get old.replies k)
  pub placings : (k : ℕ) → slice_get new.placings k ≡ option_map (next_placing k s kept) (slice_get old.placings k)

-- what this says of each session and each partition, and of a history
pub record Follows (old new : Standings) (s : Step) (kept : Option Pending) : Type 0 where
  pub attempts : (session : ℕ) → is_session session ≡ true → attempt_in new session ≡ next_attempt session s (attempt_in old session)
  pub replies : (session : ℕ) → is_session session ≡ true → replies_in new session ≡ told_replies session s (replies_in old session)
  pub placings : (part : ℕ) → part < length old.placings → placing_in new part ≡ next_placing part s kept (placing_in old part)
  pub parts : length new.placings ≡ length old.placings
  pub follows : (layout : Layout) (past : List Step) → LegalPast layout past → Allowed layout past s → kept ≡ kept_of s past → AreStates layout past old
      → AreStates layout (s ∷ past) new

module _ (layout : Layout) (past : List Step) (s : Step) (legal : LegalPast layout past) (allowed : Allowed layout past s) where
  -- the Reply that is allowed has the next number
  told : (c n : ℕ) → n ≡ replies c past → told_replies c s n ≡ next_replies c s n
  told c n e = by s allowed
    where
      by : (t : Step) → Allowed layout past t → told_replies c t n ≡ next_replies c t n
      by (Reply session number said) a = own (session == c) refl (legal_reply layout past session number said a).due
        where
          own : (b : Bool) → (session == c) ≡ b → number ≡ replies session past + 1 → (if b then number else n) ≡ (if b then suc n else n)
          own true f g = let x : replies session past ≡ replies c past = ap (λ (d : ℕ). replies d past) (eqb-true session c f) in omega (arith, x, g, e)
          own false f g = refl
      by other a = refl

  after : (old new : Standings) (kept : Option Pending) → kept ≡ kept_of s past → Advanced old new s kept → AreStates layout past old
      → AreStates layout (s ∷ past) new
  after old new kept k up are =
      let shaped = shape_of layout past s allowed in
      record {
        parts = up.parts ∙ are.parts;
        attempt_of = λ c.
            numbered_next (λ d (a : Attempt). next_attempt d s a) idle old.attempts new.attempts MAX_SESSIONS up.attempts_all up.attempts
            (λ d none. (foreign layout d none s shaped).attempt) c
            ∙ ap (λ (a : Attempt). next_attempt c s a) (are.attempt_of c) ∙ sym (attempt_next c s past);
        replies_of = λ c.
            numbered_next (λ d (n : ℕ). told_replies d s n) 0 old.replies new.replies MAX_SESSIONS up.replies_all up.replies
            (λ d none. (foreign layout d none s shaped).replies) c
            ∙ told c (replies_in old c) (are.replies_of c) ∙ ap (λ (n : ℕ). next_replies c s n) (are.replies_of c);
        placing_of = λ p.
            read_next (λ (now : Placing). next_placing p s kept now) (Settled 0 0) (slice_get old.placings p) (slice_get new.placings p) (up.placings p)
            (λ none. unmoved p s kept (Settled 0 0) (λ m.
            let inside = moved_part layout past legal s shaped p (ap (λ (o : Option Pending). moved s o) (sym k) ∙ m) in
            let outside = at_end old.placings p none in
            omega (arith, inside, outside, are.parts)))
            ∙ ap (λ (now : Placing). next_placing p s kept now) (are.placing_of p)
            ∙ ap (λ (o : Option Pending). next_placing p s o (placing layout past p)) k
            ∙ sym (placing_next layout s past p);
      }

pub follows : (old new : Standings) (s : Step) (kept : Option Pending) → Advanced old new s kept → Follows old new s kept
follows old new s kept up = record {
  attempts = numbered_inside (λ d (a : Attempt). next_attempt d s a) idle old.attempts new.attempts MAX_SESSIONS up.attempts_all up.attempts;
  replies = numbered_inside (λ d (n : ℕ). told_replies d s n) 0 old.replies new.replies MAX_SESSIONS up.replies_all up.replies;
  placings = λ p inside.
      read_next (λ (now : Placing). next_placing p s kept now) (Settled 0 0) (slice_get old.placings p) (slice_get new.placings p) (up.placings p)
      (λ none. let outside = at_end old.placings p none in absurd (omega (arith, inside, outside)));
  parts = up.parts;
  follows = λ layout past legal allowed k are. after layout past s legal allowed old new kept k up are;
}
