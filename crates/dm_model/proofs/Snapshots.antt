-- In every legal past what a transaction read stays what the whole past gives.
use Rattle.std.proofs.Common.{ℕ, ℤ, ◌≤◌, ◌≡◌, Bool, true, false, ◌==◌, if◌then◌else◌, List, [], ◌∷◌, ◌++◌, Option, Some, None, sym, ap, ◌∙◌, arith, inl, inr}
use Rattle.std.proofs.Common.{unwrap_or}
use Rattle.std.proofs.lemmas.Bool.{false≢true, lt-leb}
use Rattle.std.specs.List.{AllByRecursion as Each}
use Rattle.std.specs.Option.{option_or}
use Rattle.std.specs.Prelude.{option_map, option_to_list, filter_map}
use Rattle.dm_event.specs.Layout.{Layout, opening_value}
use Rattle.dm_event.specs.Vectors.{at}
use Rattle.dm_event.specs.declared.step.Entry.{Entry}
use Rattle.dm_event.specs.declared.step.Found.TheVariants.{Clean, Kept, Lost}
use Rattle.dm_event.specs.declared.step.Pending.{Pending}
use Rattle.dm_event.specs.declared.step.Pending.TheVariants as pending
use Rattle.dm_event.specs.declared.step.Step.{Step}
use Rattle.dm_event.specs.declared.step.Step.TheVariants.{Commit, End, Doubt, Restart}
use Rattle.dm_event.specs.declared.step.Op.{Op}
use Rattle.dm_event.specs.declared.step.Pair.{Pair}
use Rattle.dm_model.proofs.LegalSteps.{LegalCommit, legal_commit, legal_end, legal_restart, doubted_commit}
use Rattle.dm_model.proofs.ListFacts.{each_map}
use Rattle.dm_model.proofs.Numbering.{Numbered, count_at, count_more}
use Rattle.dm_model.proofs.NumbersSound.{SoundPast, sound_past, sound_step, commit_within}
use Rattle.dm_model.proofs.StepTests.{ran}
use Rattle.dm_model.specs.Acts.{entries, acts, entry_of}
use Rattle.dm_model.specs.Allowed.{Allowed}
use Rattle.dm_model.specs.Bodies.{body}
use Rattle.dm_model.specs.Closed.{is_inside}
use Rattle.dm_model.specs.Doubts.{step_of, is_down, down_after, pending_at}
use Rattle.dm_model.specs.Legal.{LegalPast}
use Rattle.dm_model.specs.Runs.{began_at}
use Rattle.dm_model.specs.Snapshot.{ReadsMatch, SnapshotPast}
use Rattle.dm_model.specs.Values.{newest, written}
use Rattle.dm_model.specs.Words.{latest}

-- the value over these entries
abbrev pub value_in : Layout → List Entry → List ℕ → ℕ → ℤ
value_in layout es v key = unwrap_or (newest es key v) (opening_value layout key)

-- the vector is at most the counts
abbrev pub WithinCounts : List Entry → List ℕ → Type 0
WithinCounts es v = (j : ℕ) → at v j ≤ count_at j es

-- an entry that comes is inside no vector that is within the counts
pub value_more : (layout : Layout) (d : Entry) (es : List Entry) (v : List ℕ) → Numbered (d ∷ es) → WithinCounts es v
    → value_in layout (d ∷ es) v ≡ value_in layout es v
value_more layout d es v n c =
    let out : is_inside v d ≡ false = lt-leb d.seq (at v d.origin) (let a = c d.origin in let b = n.0.seq in omega (arith, a, b)) in
    λ i key. unwrap_or (option_or (if out i then written d.writes key else None) (newest es key v)) (opening_value layout key)

pub within_more : (d : Entry) (es : List Entry) (v : List ℕ) → WithinCounts es v → WithinCounts (d ∷ es) v
within_more d es v c j = (let a = count_more d es j in let b = c j in omega arith)

-- the entry read and wrote what its ops do at its begin vector
pub record Fits (layout : Layout) (es : List Entry) (e : Entry) : Type 0 where
  pub reads : e.reads ≡ (body e.ops (value_in layout es e.begin)).reads
  pub writes : e.writes ≡ (body e.ops (value_in layout es e.begin)).writes
  pub within : WithinCounts es e.begin

pub fits_more : (layout : Layout) (d : Entry) (es : List Entry) (e : Entry) → Numbered (d ∷ es) → Fits layout es e → Fits layout (d ∷ es) e
fits_more layout d es e n f =
    let same = value_more layout d es e.begin n f.within in
    record {
      reads = f.reads ∙ ap (λ (g : ℕ → ℤ). (body e.ops g).reads) (sym same);
      writes = f.writes ∙ ap (λ (g : ℕ → ℤ). (body e.ops g).writes) (sym same);
      within = within_more d es e.begin f.within;
    }

-- an End read what its ops do at its begin vector
pub record EndFits (layout : Layout) (es : List Entry) (begin : List ℕ) (ops : List Op) (reads : List Pair) : Type 0 where
  pub read : reads ≡ (body ops (value_in layout es begin)).reads
  pub within : WithinCounts es begin

-- the Ends in these steps
abbrev pub EndsFit : Layout → List Entry → List Step → Type 0
EndsFit layout es [] = Unit {0}
EndsFit layout es (End site txn ops reads ∷ past) = EndFits layout es (began_at txn past) ops reads × EndsFit layout es past
EndsFit layout es (s ∷ past) = EndsFit layout es past

pub ends_more : (layout : Layout) (d : Entry) (es : List Entry) (past : List Step) → Numbered (d ∷ es) → EndsFit layout es past → EndsFit layout (d ∷ es) past
ends_more layout d es [] n h = tt
ends_more layout d es (End site txn ops reads ∷ past) n h = (
  record {
    read = h.0.read ∙ ap (λ (g : ℕ → ℤ). (body ops g).reads) (sym (value_more layout d es (began_at txn past) n h.0.within));
    within = within_more d es _ h.0.within;
  },
  ends_more layout d es past n h.1,
)
ends_more layout d es (s ∷ past) n h = ends_more layout d es past n h

abbrev pub DoubtFits : Layout → List Entry → Option Pending → Type 0
DoubtFits layout es None = Unit {0}
DoubtFits layout es (Some (pending.Commit e)) = Fits layout es e
DoubtFits layout es (Some (pending.Release part epoch to vector)) = Unit {0}
DoubtFits layout es (Some (pending.Grant part epoch vector)) = Unit {0}

doubt_more : (layout : Layout) (d : Entry) (es : List Entry) (o : Option Pending) → Numbered (d ∷ es) → DoubtFits layout es o → DoubtFits layout (d ∷ es) o
doubt_more layout d es None n h = tt
doubt_more layout d es (Some (pending.Commit e)) n h = fits_more layout d es e n h
doubt_more layout d es (Some (pending.Release part epoch to vector)) n h = tt
doubt_more layout d es (Some (pending.Grant part epoch vector)) n h = tt

-- what was committed and what was read fits, and so does what is in doubt
pub record Snap (layout : Layout) (es : List Entry) (past : List Step) (down : ℕ → Bool) (doubt : ℕ → Option Pending) : Type 0 where
  pub commits : Each (Fits layout es) es
  pub ends : EndsFit layout es past
  pub held : (i : ℕ) → down i ≡ true → DoubtFits layout es (doubt i)

abbrev pub SnapPast : Layout → List Step → Type 0
SnapPast layout past = Snap layout (entries past) past (λ i. is_down i past) (λ i. pending_at i past)

-- a step that adds no entry and is no End
same_entries : (layout : Layout) (es : List Entry) (past past' : List Step) (down down' : ℕ → Bool) (doubt doubt' : ℕ → Option Pending)
    → Snap layout es past down doubt → EndsFit layout es past'
    → ((i : ℕ) → down' i ≡ true → DoubtFits layout es (doubt' i)) → Snap layout es past' down' doubt'
same_entries layout es past past' down down' doubt doubt' s e h = record { commits = s.commits; ends = e; held = h }

-- a step that adds an entry which fits
one_entry : (layout : Layout) (es : List Entry) (past past' : List Step) (down down' : ℕ → Bool) (doubt : ℕ → Option Pending) (e : Entry)
    → Snap layout es past down doubt → Numbered (e ∷ es) → Fits layout es e
    → (EndsFit layout (e ∷ es) past → EndsFit layout (e ∷ es) past') → ((i : ℕ) → down' i ≡ true → down i ≡ true) → Snap layout (e ∷ es) past' down' doubt
one_entry layout es past past' down down' doubt e s n f g d = record {
  commits = (fits_more layout e es e n f, each_map (Fits layout es) (Fits layout (e ∷ es)) (λ x q. fits_more layout e es x n q) es s.commits);
  ends = g (ends_more layout e es past n s.ends);
  held = λ i h. doubt_more layout e es (doubt i) n (s.held i (d i h));
}

module _ (layout : Layout) (past : List Step) (n : SoundPast layout past) (s : SnapPast layout past) where
  pub commit_fits : (e : Entry) → LegalCommit layout past e → Fits layout (entries past) e
  commit_fits e legal = record {
    reads = legal.reads;
    writes = legal.writes;
    within = λ j. (let x = (commit_within layout past n e legal).below j in let y = (n.closed e.origin).within j in omega arith);
  }

  rise : (site k : ℕ) (o : Option Bool) → unwrap_or (option_or (if site == k then Some false else None) o) false ≡ true → unwrap_or o false ≡ true
  rise site k o r = elim (ran (site == k) false o r) [ inl q ↦ absurd (false≢true q.now) | inr q ↦ q.before ]

  snap_doubt : (site : ℕ) (p : Pending) → DoubtFits layout (entries past) (Some p) → SnapPast layout (Doubt site p ∷ past)
  snap_doubt site p f = same_entries layout (entries past) past (Doubt site p ∷ past) _ (λ i. is_down i (Doubt site p ∷ past)) _
      (λ i. pending_at i (Doubt site p ∷ past)) s s.ends
      (λ i h. by_site i (site == i) h)
    where
      by_site : (i : ℕ) (b : Bool) → unwrap_or (option_or (if b then Some true else None) (latest (down_after i) past)) false ≡ true
          → DoubtFits layout (entries past) (option_or (if b then Some p else None) (pending_at i past))
      by_site i true h = f
      by_site i false h = s.held i h

  snap_kept : (site : ℕ) (vector : List ℕ) (o : Option Pending) → DoubtFits layout (entries past) o
      → Numbered (filter_map entry_of (option_to_list (option_map (step_of site) o) ++ acts past))
      → Snap layout (filter_map entry_of (option_to_list (option_map (step_of site) o) ++ acts past)) (Restart site vector Kept ∷ past)
      (λ i. is_down i (Restart site vector Kept ∷ past)) (λ i. pending_at i past)
  snap_kept site vector None f m = same_entries layout (entries past) past (Restart site vector Kept ∷ past) _ (λ i.
      is_down i (Restart site vector Kept ∷ past)) _ (λ i. pending_at i past) s s.ends (λ i h. s.held i (rise site i _ h))
  snap_kept site vector (Some (pending.Release part epoch to v)) f m =
      same_entries layout (entries past) past (Restart site vector Kept ∷ past) _ (λ i. is_down i (Restart site vector Kept ∷ past)) _ (λ i. pending_at i past)
      s s.ends (λ i h. s.held i (rise site i _ h))
  snap_kept site vector (Some (pending.Grant part epoch v)) f m = same_entries layout (entries past) past (Restart site vector Kept ∷ past) _ (λ i.
      is_down i (Restart site vector Kept ∷ past)) _ (λ i. pending_at i past) s s.ends (λ i h. s.held i (rise site i _ h))
  snap_kept site vector (Some (pending.Commit e)) f m = one_entry layout (entries past) past (Restart site vector Kept ∷ past) _ (λ i.
      is_down i (Restart site vector Kept ∷ past)) _ e s m f (λ x. x) (λ i h. rise site i _ h)

pub snap_step : (layout : Layout) (past : List Step) (s : Step) → SoundPast layout past → Allowed layout past s → SnapPast layout past
    → SnapPast layout (s ∷ past)
snap_step layout past (Commit e) n h s =
    one_entry layout (entries past) past (Commit e ∷ past) _ (λ i. is_down i past) _ e s (sound_step layout past (Commit e) n h).numbered
    (commit_fits layout past n s e (legal_commit layout past e h)) (λ x. x) (λ i d. d)
snap_step layout past (End site txn ops reads) n h s =
    let legal = legal_end layout past site txn ops reads h in
    let r = n.running site txn legal.runs in
    same_entries layout _ past _ _ _ _ _ s (
      record {
        read = legal.read;
        within = λ j. (let a = r.within.below j in let b = (n.closed site).within j in let e = ap (λ (o : Option (List ℕ)). at (unwrap_or o []) j) r.is in
            omega arith);
      },
      s.ends,
    ) s.held
snap_step layout past (Doubt site (pending.Commit e)) n h s =
    snap_doubt layout past n s site (pending.Commit e) (commit_fits layout past n s e (doubted_commit layout past site e h).commit)
snap_step layout past (Doubt site (pending.Release part epoch to vector)) n h s = snap_doubt layout past n s site (pending.Release part epoch to vector) tt
snap_step layout past (Doubt site (pending.Grant part epoch vector)) n h s = snap_doubt layout past n s site (pending.Grant part epoch vector) tt
snap_step layout past (Restart site vector Clean) n h s = same_entries layout _ past _ _ _ _ _ s s.ends (λ i d. s.held i (rise layout past n s site i _ d))
snap_step layout past (Restart site vector Lost) n h s = same_entries layout _ past _ _ _ _ _ s s.ends (λ i d. s.held i (rise layout past n s site i _ d))
snap_step layout past (Restart site vector Kept) n h s =
    snap_kept layout past n s site vector (pending_at site past) (s.held site (legal_restart layout past site vector Kept h).fits)
    (sound_step layout past (Restart site vector Kept) n h).numbered
snap_step layout past other n h s = same_entries layout _ past _ _ _ _ _ s s.ends s.held

pub snap_past : (layout : Layout) (past : List Step) → LegalPast layout past → SnapPast layout past
snap_past layout [] h = record { commits = tt; ends = tt; held = λ i d. absurd (false≢true d) }
snap_past layout (s ∷ past) h = snap_step layout past s (sound_past layout past h.0) h.1 (snap_past layout past h.0)

reads_match : (layout : Layout) (whole past : List Step) → EndsFit layout (entries whole) past → ReadsMatch layout whole past
reads_match layout whole [] h = tt
reads_match layout whole (End site txn ops reads ∷ past) h = (h.0.read, reads_match layout whole past h.1)
reads_match layout whole (s ∷ past) h = reads_match layout whole past h

pub snapshot_past : (layout : Layout) (past : List Step) → LegalPast layout past → SnapshotPast layout past
snapshot_past layout past h =
    let s = snap_past layout past h in
    (each_map (Fits layout (entries past)) _ (λ e f. (f.reads, f.writes)) (entries past) s.commits, reads_match layout past past s.ends)
