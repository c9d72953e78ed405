-- What a site takes over next, from the book in a turn, and what it has then.
use Rattle.std.proofs.Common.{ℕ, ◌≡◌, ◌++◌, [], ◌∷◌, Bool, true, false, cond, List, Option, Some, None, map, refl, sym, ap, ◌∙◌, subst}
use Rattle.std.proofs.lemmas.Bool.{false≢true, eq-eqb}
use Rattle.std.specs.Prelude.{reverse, unwrap_or, is_some, ◌||◌, IsSome, IfSome, IsSomeAnd, Result, Ok, Err, OnOk, IfOk}
use Rattle.atomic_table.specs.Seated.{TableId}
use mathlib.Core.List.{IsPrefix}
use Rattle.dm_chronicle.proofs.Lists.{prefix_refl, prefix_trans}
use Rattle.dm_chronicle.specs.Belongs.{belongs}
use Rattle.dm_chronicle.specs.Rule.{In, Legal as Follows}
use Rattle.dm_chronicle.specs.Standing.{Sees}
use Rattle.dm_core.specs.Lawful.{Terms, may_follow}
use Rattle.dm_core.specs.Ledger.{Ledger, past}
use Rattle.dm_event.specs.Actors.{actors}
use Rattle.dm_event.specs.Layout.{Layout}
use Rattle.dm_event.specs.Vectors.{AtMost}
use Rattle.dm_event.specs.declared.actor.Actor.{Actor}
use Rattle.dm_event.specs.declared.actor.Actor.TheVariants.{Site}
use Rattle.dm_event.specs.declared.step.Entry.{Entry}
use Rattle.dm_event.specs.declared.step.Pair.{Pair}
use Rattle.dm_event.specs.declared.step.Step.{Step}
use Rattle.dm_event.specs.declared.step.Step.TheVariants.{Refresh}
use Rattle.dm_frames.specs.Records.{frames_of}
use Rattle.dm_model.proofs.LegalSteps.{legal_refresh}
use Rattle.dm_model.specs.Allowed.{Allowed, next_entry, next_refresh}
use Rattle.dm_model.specs.Doubts.{is_down}
use Rattle.dm_model.specs.Legal.{Legal}
use Rattle.dm_model.specs.Progress.{site_vector}
use Rattle.dm_next.proofs.Catching.{due_allowed, nothing_lacks, Far, far_on}
use Rattle.dm_next.proofs.Growing.{counts_on}
use Rattle.dm_next.specs.Counted.{Counts}
use Rattle.dm_others.proofs.Growing.{reverse_snoc}
use Rattle.dm_others.proofs.Logs.{records_stay}
use Rattle.dm_others.specs.Adding.{AddsOthers}
use Rattle.dm_record.specs.Bytes.{frame_of}
use Rattle.dm_record.specs.declared.record.Record.{Record}
use Rattle.dm_desk.proofs.Endings.{follows_book}
use Rattle.dm_invariant.proofs.Crashing.{doubted_on, frames_on}
use Rattle.dm_invariant.proofs.Passing.{rested_in, went_to, went_on, went_twice, went_layout, did}
use Rattle.dm_invariant.proofs.Steps.{keeps_store, keeps_refresh}
use Rattle.dm_invariant.proofs.Turned.{turn_adds, in_turn, after_turn, after_step}
use Rattle.dm_site.specs.Answers.{SiteRested, SiteDid, IsDownIn, IsUpIn, Refreshed, Caught, HasReached}
use Rattle.dm_site.specs.Catching.{Refreshes, SameRecords, IsCountedIn, Looked, LookAfter}
use Rattle.dm_invariant.specs.Keeping.{Parts as Kept, Keeps, IsSite}
use Rattle.dm_invariant.specs.Logs.{doubted}
use Rattle.dm_invariant.specs.Stations.{Station, View, Went, layout_of, no_terms}
use Rattle.dm_invariant.specs.Turning.{Turned}
use Rattle.dm_desk.specs.declared.answers.CatchAnswer.{CatchAnswer}
use Rattle.dm_desk.specs.declared.answers.CatchAnswer.TheVariants as caught
use Rattle.dm_desk.specs.declared.answers.RefreshAnswer.{RefreshAnswer}
use Rattle.dm_desk.specs.declared.answers.RefreshAnswer.TheVariants as refreshed
use Rattle.dm_site.specs.declared.refreshing.Look.{Look}
use Rattle.dm_site.specs.declared.refreshing.Look.TheVariants.{Covers, Lacks, Down}
use Rattle.dm_store.specs.Contents.{Contents}
use Rattle.dm_store.proofs.Rebuilding.{Parts, parts}
use Rattle.dm_store.specs.Histories.{past_of}
use Rattle.dm_store.specs.Known.{AreKnown}
use Rattle.dm_store.specs.declared.past.Past.{Past}
use Rattle.dm_stores.proofs.Fitting.{fits_refresh}
use Rattle.dm_stores.specs.Stores.{Stores}

pub on_ok : {A E : Type 0} (r : Result A E) (P : Type 0) → P → OnOk r P
on_ok (Ok x) P p = p
on_ok (Err e) P p = tt

-- ---- the next entry

module _ (fixed : Option Terms) (seen : List Step) (book : Ledger) (site origin : ℕ) (f : fixed ≡ Some (record { layout = book.layout; items = book.items }))
    (s : book.steps ≡ seen) where
  -- what the schema says in the turn
  abbrev turn_layout : Layout
  turn_layout = (unwrap_or fixed no_terms).layout

  same_layout : turn_layout ≡ book.layout
  same_layout = ap (λ (o : Option Terms). (unwrap_or o no_terms).layout) f

  same_past : reverse seen ≡ past book
  same_past = ap (λ (steps : List Step). reverse steps) (sym s)

  same_next : next_entry turn_layout (reverse seen) site origin ≡ next_entry book.layout (past book) site origin
  same_next = ap (λ (l : Layout). next_entry l (reverse seen) site origin) same_layout ∙ ap (λ (p : List Step). next_entry book.layout p site origin) same_past

  -- where a Refresh may come there is one
  pub next_there : None ≡ next_entry book.layout (past book) site origin → IsSome (next_entry turn_layout (reverse seen) site origin) → ⊥
  next_there n h = false≢true (sym (ap (λ (o : Option Entry). is_some o) (same_next ∙ sym n)) ∙ h)

  pub next_due : None ≡ next_entry book.layout (past book) site origin → IsSomeAnd fixed (λ f. may_follow f seen (Refresh site origin)) → ⊥
  next_due n h =
      let r = legal_refresh book.layout (past book) site origin (follows_book fixed seen book (Refresh site origin) f s h) in
      false≢true (ap (λ (o : Option Entry). is_some o) (n ∙ r.next))

  module _ (entry : Entry) (n : Some entry ≡ next_entry book.layout (past book) site origin) where
    pub next_in : next_entry turn_layout (reverse seen) site origin ≡ Some entry
    next_in = same_next ∙ sym n

    pub known_next : (known now : List ℕ) (writes : List Pair) → AreKnown known writes → writes ≡ entry.writes → now ≡ known
        → IfSome (next_entry turn_layout (reverse seen) site origin) (λ e. AreKnown now e.writes)
    known_next known now writes h e same =
        subst (λ (o : Option Entry). IfSome o (λ e. AreKnown now e.writes)) (sym next_in)
        (subst (λ (ws : List Pair). AreKnown now ws) e (subst (λ (ks : List ℕ). AreKnown ks writes) (sym same) h))

    pub next_known : (known : List ℕ) → IfSome (next_entry turn_layout (reverse seen) site origin) (λ e. AreKnown known e.writes) → AreKnown known entry.writes
    next_known known h = subst (λ (o : Option Entry). IfSome o (λ e. AreKnown known e.writes)) next_in h

    -- it fits behind what the store has
    pub next_fits : (steps : List Step) (installed : List Past) → steps ≡ book.steps → Legal book.layout steps
        → IsSomeAnd fixed (λ f. may_follow f seen (Refresh site origin)) → Stores turn_layout (reverse seen) site installed → Parts installed (past_of entry)
    next_fits steps installed e l h k =
        parts installed (past_of entry)
        (fits_refresh book.layout (past book) site origin entry installed (subst (λ (steps : List Step). Legal book.layout steps) e l)
        (follows_book fixed seen book (Refresh site origin) f s h) (sym n)
        (subst (λ (p : List Step). Stores book.layout p site installed) same_past
        (subst (λ (l : Layout). Stores l (reverse seen) site installed) same_layout k)))

    pub next_installed : (before after : List Past) → after ≡ before ++ past_of entry ∷ []
        → IsSomeAnd (next_entry turn_layout (reverse seen) site origin) (λ e. after ≡ before ++ past_of e ∷ [])
    next_installed before after h = subst (λ (o : Option Entry). IsSomeAnd o (λ e. after ≡ before ++ past_of e ∷ [])) (sym next_in) h

-- ---- the site's records

-- what others did leaves them as they are
pub records_since : (layout : Layout) (site : ℕ) (old new : View) → Legal layout new.seen → AddsOthers (Site site) old.seen new.seen → SameRecords site old new
records_since layout site old new l a = record {
  frames = frames_on layout site old.seen new.seen l a;
  doubt = doubted_on layout site old.seen new.seen l a;
}

-- and so does a Refresh
refreshed_frames : (site : ℕ) (past : List Step) (origin : ℕ) → frames_of site (Refresh site origin ∷ past) ≡ frames_of site past
refreshed_frames site past origin = ap (λ (rs : List Record). map frame_of rs) (records_stay site past (Refresh site origin) refl)

-- ---- a turn of the site's pass

is_own : (site origin : ℕ) → belongs actors (Refresh site origin) (Site site) ≡ true
is_own site origin = ap (λ (b : Bool). b || false) (eq-eqb site site refl)

-- the same turn, once room was made in the book
pub turned_same : (pass old new : View) → new ≡ old → Turned pass old.seen old.fixed → Turned pass new.seen new.fixed
turned_same pass old new e t = subst (λ (v : View). Turned pass v.seen v.fixed) (sym e) t

module _ (table : TableId) (opened : List ℕ) (site : ℕ) (pass : View) (parts : Kept) (s : IsSite table opened site pass parts)
    (turn : List Step) (fixed : Option Terms) (t : Turned pass turn fixed) where
  -- what the schema says in the turn
  abbrev layout : Layout
  layout = (unwrap_or fixed no_terms).layout

  known_layout : layout ≡ layout_of pass
  known_layout = ap (λ (o : Option Terms). (unwrap_or o no_terms).layout) t.fixed_is

  terms_there : fixed ≡ Some s.terms
  terms_there = t.fixed_is ∙ s.fixed

  kept : Keeps (layout_of pass) opened site (reverse turn) parts
  kept = in_turn table opened site pass parts turn fixed s t

  pub turn_stores : (installed : List Past) → installed ≡ parts.store.installed → Stores layout (reverse turn) site installed
  turn_stores installed e =
      subst (λ (installed : List Past). Stores layout (reverse turn) site installed) (sym e)
      (subst (λ (l : Layout). Stores l (reverse turn) site parts.store.installed) (sym known_layout) kept.stores)

  -- no step came
  module _ (after : View) (e : after ≡ record pass { seen = turn }) where
    after_seen : after.seen ≡ turn
    after_seen = ap (λ (v : View). v.seen) e

    after_layout : layout_of after ≡ layout
    after_layout = ap (λ (v : View). layout_of v) e ∙ sym known_layout

    pub still_site : (store : Contents) → store.layout ≡ parts.store.layout → store.installed ≡ parts.store.installed
        → IsSite table opened site after (record parts { store = store })
    still_site store l i =
        after_turn table opened site pass after parts (record parts { store = store }) turn s e
        (keeps_store (layout_of pass) opened site (reverse turn) parts kept store l i)

    pub still_went : Went pass after × SameRecords site pass after
    still_went = (went_to pass after turn t.begins e, still_records)
      where
        others : AddsOthers (Site site) pass.seen after.seen
        others = subst (λ (steps : List Step). AddsOthers (Site site) pass.seen steps) (sym after_seen) (turn_adds table opened site pass parts turn fixed s t)

        legal : Legal (layout_of pass) after.seen
        legal = subst (λ (steps : List Step). Legal (layout_of pass) steps) (sym after_seen) kept.legal

        still_records : SameRecords site pass after
        still_records = records_since (layout_of pass) site pass after legal others

    pub still_rested : SiteRested site pass after
    still_rested = rested_in (Site site) pass after turn (turn_adds table opened site pass parts turn fixed s t) e

    down_after : (b : Bool) → b ≡ is_down site (reverse turn) → is_down site (reverse after.seen) ≡ b
    down_after b d = ap (λ (steps : List Step). is_down site (reverse steps)) after_seen ∙ sym d

    pub told_down : true ≡ is_down site (reverse turn) → SiteRested site pass after × IsDownIn after site
    told_down d = (still_rested, down_after true d)

    pub told_nothing : false ≡ is_down site (reverse turn) → None ≡ next_refresh layout (reverse turn) site
        → SiteRested site pass after × IsUpIn after site × (next_refresh (layout_of after) (reverse after.seen) site ≡ None)
    told_nothing d n = (
      still_rested,
      down_after false d,
      ap (λ (l : Layout). next_refresh l (reverse after.seen) site) after_layout
          ∙ (ap (λ (steps : List Step). next_refresh layout (reverse steps) site) after_seen ∙ sym n),
    )

    vector_after : site_vector layout.sites (reverse turn) site ≡ site_vector (layout_of after).sites (reverse after.seen) site
    vector_after =
        ap (λ (steps : List Step). site_vector layout.sites (reverse steps) site) (sym after_seen)
        ∙ ap (λ (l : Layout). site_vector l.sites (reverse after.seen) site) (sym after_layout)

    -- what a look finds
    pub looked : (to vector : List ℕ) (down covers : Bool) (look : Look) → down ≡ is_down site (reverse turn)
        → vector ≡ site_vector layout.sites (reverse turn) site → (covers ≡ true → AtMost to vector)
        → look ≡ cond down Down (cond covers Covers Lacks) → Looked site to after look
    looked to vector down covers look d v c l = subst (λ (found : Look). Looked site to after found) (sym l) (by down covers refl refl)
      where
        by : (x y : Bool) → down ≡ x → covers ≡ y → Looked site to after (cond x Down (cond y Covers Lacks))
        by true y p q = down_after down d ∙ p
        by false true p q = (down_after down d ∙ p, subst (λ (have : List ℕ). AtMost to have) (v ∙ vector_after) (c q))
        by false false p q = tt

  -- a Refresh is due
  module _ (origin : ℕ) (due : Some origin ≡ next_refresh layout (reverse turn) site) where
    allowed_in : Allowed layout (reverse turn) (Refresh site origin)
    allowed_in = due_allowed layout (reverse turn) site origin (sym due)

    allowed : Allowed (layout_of pass) (reverse turn) (Refresh site origin)
    allowed = subst (λ (l : Layout). Allowed l (reverse turn) (Refresh site origin)) known_layout allowed_in

    pub due_there : IsSome (next_entry layout (reverse turn) site origin)
    due_there = ap (λ (o : Option Entry). is_some o) (legal_refresh layout (reverse turn) site origin allowed_in).next

    pub due_follows : IsSomeAnd fixed (λ f. may_follow f turn (Refresh site origin))
    due_follows =
        subst (λ (o : Option Terms). IsSomeAnd o (λ f. may_follow f turn (Refresh site origin))) (sym terms_there)
        (subst (λ (l : Layout). Allowed l (reverse turn) (Refresh site origin))
        (ap (λ (o : Option Terms). (unwrap_or o no_terms).layout) terms_there) allowed_in)

    -- and came
    module _ (store : Contents) (after : View) (e : after ≡ record pass { seen = turn ++ Refresh site origin ∷ [] })
        (i : IsSomeAnd (next_entry layout (reverse turn) site origin) (λ entry. store.installed ≡ parts.store.installed ++ past_of entry ∷ [])) where
      pub came_site : store.layout ≡ parts.store.layout → IsSite table opened site after (record parts { store = store })
      came_site l = by (next_entry layout (reverse turn) site origin) refl i
        where
          by : (o : Option Entry) → next_entry layout (reverse turn) site origin ≡ o
              → IsSomeAnd o (λ entry. store.installed ≡ parts.store.installed ++ past_of entry ∷ [])
              → IsSite table opened site after (record parts { store = store })
          by None n h = absurd h
          by (Some entry) n h =
              after_step table opened site pass after parts (record parts { store = store }) turn (Refresh site origin) s e
              (keeps_refresh (layout_of pass) opened site (reverse turn) parts kept origin entry allowed
              (subst (λ (l : Layout). next_entry l (reverse turn) site origin ≡ Some entry) known_layout n) store l h)

      pub came_more : IsPrefix parts.store.installed store.installed
      came_more = by (next_entry layout (reverse turn) site origin) i
        where
          by : (o : Option Entry) → IsSomeAnd o (λ entry. store.installed ≡ parts.store.installed ++ past_of entry ∷ [])
              → IsPrefix parts.store.installed store.installed
          by None h = absurd h
          by (Some entry) h = (past_of entry ∷ [], sym h)

      pub came_went : Went pass after × SameRecords site pass after
      came_went = (
        went_on pass after turn (Refresh site origin) t.begins e,
        record {
          frames = ap (λ (past : List Step). frames_of site past) past_is ∙ (refreshed_frames site (reverse turn) origin
              ∙ frames_on (layout_of pass) site pass.seen turn kept.legal (turn_adds table opened site pass parts turn fixed s t));
          doubt = ap (λ (past : List Step). doubted site past) past_is
              ∙ doubted_on (layout_of pass) site pass.seen turn kept.legal (turn_adds table opened site pass parts turn fixed s t);
        },
      )
        where
          past_is : reverse after.seen ≡ Refresh site origin ∷ reverse turn
          past_is = ap (λ (v : View). reverse v.seen) e ∙ reverse_snoc turn (Refresh site origin)

      pub came_did : SiteDid site pass after (Refresh site origin)
      came_did = did (Site site) pass after turn (Refresh site origin) (turn_adds table opened site pass parts turn fixed s t) e (is_own site origin)

-- ---- a site as contracts see it

pub refreshes : {D : Type 0} (inside old : Station D) (installed : List Past) (after : View) → inside ≡ old → IsPrefix inside.installed installed
    → Went inside.pass after × SameRecords inside.number inside.pass after → Refreshes old (record inside { installed = installed; pass = after })
refreshes inside old installed after e i w =
    subst (λ (was : Station _). Refreshes was (record inside { installed = installed; pass = after })) e
    (record { number = refl; installed = i; locks = refl; live = refl; pass = w.0; disk = refl; records = w.1 })

-- ---- two passes that met

module _ (own0 own1 pass0 pass1 : View) (own : Sees (belongs actors) own0 own1) (two : Sees (belongs actors) pass0 pass1) (e : pass1.seen ≡ own1.seen)
    (f : own0.fixed ≡ pass0.fixed) where
  pub met_turned : IsSomeAnd own1.fixed (λ f. Follows may_follow f [] own1.seen) → Turned pass0 pass1.seen pass1.fixed
  met_turned l = record {
    begins = two.begins;
    same = two.own;
    fixed_is = ap (λ (v : View). v.fixed) two.same;
    follows =
        subst (λ (o : Option Terms). IsSomeAnd o (λ f. Follows may_follow f [] pass1.seen))
        (ap (λ (v : View). v.fixed) own.same ∙ (f ∙ sym (ap (λ (v : View). v.fixed) two.same)))
        (subst (λ (steps : List Step). IsSomeAnd own1.fixed (λ f. Follows may_follow f [] steps)) (sym e) l);
  }

pub sees_twice : (first second third : View) → Sees (belongs actors) first second → Sees (belongs actors) second third → Sees (belongs actors) first third
sees_twice first second third a b = record {
  begins = prefix_trans first.seen second.seen third.seen a.begins b.begins;
  own =
      λ actor h. b.own actor (subst (λ (held : List Actor). In actor held) (sym (ap (λ (v : View). v.actors) a.same)) h) ∙ a.own actor h;
  same = b.same ∙ ap (λ (v : View). record v { seen = third.seen }) a.same;
}

-- ---- one call after another

pub refreshes_none : {D : Type 0} (site : Station D) → Refreshes site site
refreshes_none site = record {
  number = refl;
  installed = prefix_refl site.installed;
  locks = refl;
  live = refl;
  pass = record { table = refl; fixed = refl; actors = refl; begins = prefix_refl site.pass.seen };
  disk = refl;
  records = record { frames = refl; doubt = refl };
}

pub refreshes_twice : {D : Type 0} (first second third : Station D) → Refreshes first second → Refreshes second third → Refreshes first third
refreshes_twice first second third a b = record {
  number = b.number ∙ a.number;
  installed = prefix_trans first.installed second.installed third.installed a.installed b.installed;
  locks = b.locks ∙ a.locks;
  live = b.live ∙ a.live;
  pass = went_twice first.pass second.pass third.pass a.pass b.pass;
  disk = b.disk ∙ a.disk;
  records = record { frames = next.frames ∙ a.records.frames; doubt = next.doubt ∙ a.records.doubt };
}
  where
    next : SameRecords first.number second.pass third.pass
    next = subst (λ (site : ℕ). SameRecords site second.pass third.pass) a.number b.records

-- what was counted is counted in a longer list
counted_in : (to : List ℕ) (old new : View) → new.fixed ≡ old.fixed → IsPrefix old.seen new.seen → IsCountedIn to old → IsCountedIn to new
counted_in to old new f p c =
    subst (λ (l : Layout). Counts l (reverse new.seen) to) (ap (λ (o : Option Terms). (unwrap_or o no_terms).layout) (sym f))
    (counts_on (layout_of old) old.seen new.seen to p c)

pub counted_went : (to : List ℕ) (old new : View) → Went old new → IsCountedIn to old → IsCountedIn to new
counted_went to old new w c = counted_in to old new w.fixed w.begins c

pub counted_met : (to : List ℕ) (own0 own1 pass0 pass1 : View) → Sees (belongs actors) own0 own1 → own1.seen ≡ pass1.seen → own0.fixed ≡ pass0.fixed
    → Went pass0 pass1 → IsCountedIn to own0 → IsCountedIn to pass1
counted_met to own0 own1 pass0 pass1 o e f w c =
    counted_in to own0 pass1 (w.fixed ∙ sym f) (subst (λ (steps : List Step). IsPrefix own0.seen steps) e o.begins) c

-- ---- how far it has come

module _ (table : TableId) (opened : List ℕ) (site : ℕ) (pass : View) (parts : Kept) (s : IsSite table opened site pass parts) (to : List ℕ) where
  layout_is : s.terms.layout ≡ layout_of pass
  layout_is = sym (ap (λ (o : Option Terms). (unwrap_or o no_terms).layout) s.fixed)

  keeps : Keeps (layout_of pass) opened site (reverse pass.seen) parts
  keeps = subst (λ (l : Layout). Keeps l opened site (reverse pass.seen) parts) layout_is s.keeps

  look_follows : {E : Type 0} (old : View) (done : Result RefreshAnswer E) (look : Look) → IsCountedIn to pass → IfOk done (Refreshed site old pass)
      → LookAfter done look → Looked site to pass look
  look_follows old (Ok (refreshed.Applied origin)) look k h e = subst (λ (l : Look). Looked site to pass l) (sym e) tt
  look_follows old (Ok refreshed.Nothing) look k h e =
      subst (λ (l : Look). Looked site to pass l) (sym e)
      (h.1, nothing_lacks (layout_of pass) (reverse pass.seen) site to keeps.legal keeps.there h.1 h.2 k)
  look_follows old (Ok refreshed.Down) look k h e = subst (λ (l : Look). Looked site to pass l) (sym e) h.1
  look_follows old (Err x) look k h e = absurd e

  -- what it had reached it still has, where it did no step
  caught_still : (before : View) (answer : CatchAnswer) → Went before pass → SiteRested site before pass → Caught site to before answer
      → Caught site to pass answer
  caught_still before answer w r h = by answer h
    where
      far : Far (layout_of pass) before.seen pass.seen site
      far = far_on (layout_of pass) before.seen pass.seen site keeps.legal (w.begins, r)

      same : site_vector (layout_of before).sites (reverse before.seen) site ≡ site_vector (layout_of pass).sites (reverse pass.seen) site
      same =
          ap (λ (l : Layout). site_vector l.sites (reverse before.seen) site) (sym (went_layout before pass w))
          ∙ sym far.vector_is

      by : (answer : CatchAnswer) → Caught site to before answer → Caught site to pass answer
      by caught.Reached h = (far.down_is ∙ h.0, subst (λ (have : List ℕ). AtMost to have) same h.1)
      by caught.Down h = far.down_is ∙ h

if_ok : {A E : Type 0} (r : Result A E) (P Q : A → Type 0) → ((x : A) → P x → Q x) → IfOk r P → IfOk r Q
if_ok (Ok x) P Q f h = f x h
if_ok (Err e) P Q f h = tt

-- after a look and a Refresh
pub looked_then : {D E F : Type 0} (table : TableId) (opened : List ℕ) (old first now inside : Station D) (parts : Kept)
    → IsSite table opened inside.number inside.pass parts → inside ≡ now → Refreshes old first → Refreshes first now → (to : List ℕ)
    → IsCountedIn to old.pass → (done : Result RefreshAnswer E) → IfOk done (Refreshed first.number first.pass now.pass)
    → (look : Result Look F) → IfOk look (LookAfter done) → IfOk look (Looked old.number to now.pass)
looked_then table opened old first now inside parts s e a b to c done told look after =
    if_ok look (LookAfter done) (Looked old.number to now.pass)
    (λ l h. look_follows table opened old.number now.pass parts
    (subst (λ (n : ℕ). IsSite table opened n now.pass parts) (b.number ∙ a.number)
    (subst (λ (site : Station _). IsSite table opened site.number site.pass parts) e s)) to first.pass done l
    (counted_went to old.pass now.pass (went_twice old.pass first.pass now.pass a.pass b.pass) c)
    (subst (λ (n : ℕ). IfOk done (Refreshed n first.pass now.pass)) a.number told) h)
    after

-- after the last meeting
pub caught_then : {D E : Type 0} (table : TableId) (opened : List ℕ) (old first second now inside : Station D) (parts : Kept)
    → IsSite table opened inside.number inside.pass parts → inside ≡ now → Refreshes old first → Refreshes first second → Refreshes second now
    → SiteRested second.number second.pass now.pass → (to : List ℕ) → (done : Result CatchAnswer E) → IfOk done (Caught first.number to second.pass)
    → IfOk done (Caught old.number to now.pass)
caught_then table opened old first second now inside parts s e a b c r to done told =
    if_ok done (Caught first.number to second.pass) (Caught old.number to now.pass)
    (λ answer h. caught_still table opened old.number now.pass parts
    (subst (λ (n : ℕ). IsSite table opened n now.pass parts) (c.number ∙ (b.number ∙ a.number))
    (subst (λ (site : Station _). IsSite table opened site.number site.pass parts) e s)) to second.pass answer c.pass
    (subst (λ (n : ℕ). SiteRested n second.pass now.pass) (b.number ∙ a.number) r)
    (subst (λ (n : ℕ). Caught n to second.pass answer) a.number h))
    told

-- a look that ends the catching up
pub reached_by : {D : Type 0} (old now : Station D) → Refreshes old now → (to : List ℕ) (pass : View) (look : Look) → look ≡ Covers
    → Looked now.number to pass look → HasReached old.number to pass
reached_by old now a to pass look e h =
    subst (λ (n : ℕ). HasReached n to pass) a.number (subst (λ (l : Look). Looked now.number to pass l) e h)

pub down_by : {D : Type 0} (old now : Station D) → Refreshes old now → (to : List ℕ) (pass : View) (look : Look) → look ≡ Down
    → Looked now.number to pass look → IsDownIn pass old.number
down_by old now a to pass look e h =
    subst (λ (n : ℕ). IsDownIn pass n) a.number (subst (λ (l : Look). Looked now.number to pass l) e h)
