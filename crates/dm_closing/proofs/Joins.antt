-- What stays so of passes that came in while others do.
use Rattle.std.proofs.lemmas.List.{reverse-append, reverse-reverse}
use Rattle.std.specs.Prelude.{reverse}
use Rattle.std.proofs.Common.{◌≡◌, ℕ, zero, suc, ◌+◌, List, [], ◌∷◌, ◌++◌, Option, length, refl, sym, ap, ◌∙◌, subst, inl, arith, append_assoc, append-nil, length-append}
use mathlib.Core.List.{IsPrefix}
use Rattle.atomic_table.specs.Seated.{TableId}
use Rattle.dm_chronicle.proofs.Lists.{in_left, in_right, prefix_refl, prefix_trans}
use Rattle.dm_chronicle.specs.Belongs.{belongs}
use Rattle.dm_chronicle.specs.Rule.{In}
use Rattle.dm_chronicle.specs.Standing.{SameSteps}
use Rattle.dm_closing.proofs.Leaving.{left_on}
use Rattle.dm_closing.specs.Closed.{AllKept, AllLeft}
use Rattle.dm_closing.specs.Joining.{AreIn, CameIn, Grew, HasLeft, HaveLeft}
use Rattle.dm_event.specs.Actors.{actors}
use Rattle.dm_event.specs.Layout.{Layout}
use Rattle.dm_event.specs.declared.actor.Actor.{Actor}
use Rattle.dm_event.specs.declared.actor.Actor.TheVariants.{Session, Site}
use Rattle.dm_event.specs.declared.step.Step.{Step}
use Rattle.dm_invariant.specs.Stations.{View, own}
use Rattle.dm_logdisk.specs.Story.{Story}
use Rattle.dm_model.specs.Legal.{Legal}
use Rattle.dm_session.specs.Sitting.{Sitting}
use Rattle.dm_site.specs.Leaving.{Leaves}
use Rattle.dm_table.specs.Starts.{ArePasses, IsPassOfPart}

-- ---- passes

pub grew_none : (p : View) → Grew p p
grew_none p = record { table = refl; more = []; holds = sym (append-nil p.actors); begins = prefix_refl p.seen; steps = λ a i. refl }

pub grew_on : (p q r : View) → Grew p q → Grew q r → Grew p r
grew_on p q r g h = record {
  table = h.table ∙ g.table;
  more = g.more ++ h.more;
  holds = h.holds ∙ (ap (λ (l : List Actor). l ++ h.more) g.holds ∙ append_assoc p.actors g.more h.more);
  begins = prefix_trans p.seen q.seen r.seen g.begins h.begins;
  steps = λ a i. h.steps a (subst (λ (l : List Actor). In a l) (sym g.holds) (in_left a p.actors g.more i)) ∙ g.steps a i;
}

pub came_on : (actor : Actor) (was p q : View) → CameIn actor was p → Grew p q → CameIn actor was q
came_on actor was p q c g = record {
  there = subst (λ (l : List Actor). In actor l) (sym g.holds) (in_left actor p.actors g.more c.there);
  begins = prefix_trans was.seen p.seen q.seen c.begins g.begins;
  steps = g.steps actor c.there ∙ c.steps;
}

-- the one that just came in
pub came_now : (actor : Actor) (held : List Actor) (was q : View) → q.actors ≡ held ++ actor ∷ [] → IsPrefix was.seen q.seen
    → SameSteps (belongs actors) (actor ∷ []) was.seen q.seen → CameIn actor was q
came_now actor held was q e b s = record {
  there = subst (λ (l : List Actor). In actor l) (sym e) (in_right actor held (actor ∷ []) (inl refl));
  begins = b;
  steps = s actor (inl refl);
}

-- ---- partitions

turned : {X : Type 0} (left xs : List X) (x : X) → xs ++ x ∷ [] ≡ reverse left → (rest : List X) × (left ≡ x ∷ rest) × (xs ≡ reverse rest)
turned left xs x e =
    (reverse xs, sym (reverse-reverse left) ∙ (ap (λ (l : List _). reverse l) (sym e) ∙ reverse-append xs (x ∷ [])), sym (reverse-reverse xs))

pub part_after : (part next : ℕ) → next ≡ part + 1 → suc part ≡ next
part_after part next e = omega (arith, e)

-- the passes that are left, of the partitions from this one on, lie the other way round
abbrev pub AreLeft : TableId → ℕ → List View → Type 0
AreLeft table part passes = (left : List View) × (passes ≡ reverse left) × ArePasses table part left

pub next_pass : (table : TableId) (part : ℕ) (all firsts : List View) (p : View) → all ≡ firsts ++ p ∷ [] → AreLeft table part all
    → IsPassOfPart table part p × AreLeft table (suc part) firsts
next_pass table part all firsts p e a =
    let t = turned a.0 firsts p (sym e ∙ a.1) in
    let h : ArePasses table part (p ∷ t.0) = subst (λ (l : List View). ArePasses table part l) t.1 a.2 in
    (h.0, (t.0, t.2, h.1))

-- ---- sessions

pub sessions_on : (done : List Sitting) (p q : View) → AreIn done p → Grew p q → AreIn done q
sessions_on [] p q a g = tt
sessions_on (s ∷ done) p q a g = (came_on (Session s.id) s.pass p q a.0 g, sessions_on done p q a.1 g)

pub sessions_kept : (done : List Sitting) (p : View) (history : List Step) → AreIn done p → SameSteps (belongs actors) p.actors p.seen history
    → AllKept done history
sessions_kept [] p history a s = tt
sessions_kept (b ∷ done) p history a s = (s (Session b.id) a.0.there ∙ a.0.steps, sessions_kept done p history a.1 s)

sessions_more : (done : List Sitting) (b : Sitting) (p : View) → AreIn done p → CameIn (Session b.id) b.pass p → AreIn (done ++ b ∷ []) p
sessions_more [] b p a c = (c, tt)
sessions_more (x ∷ done) b p a c = (a.0, sessions_more done b p a.1 c)

-- some of the sessions are in, and those that are left lie the other way round
abbrev pub IsPartly : View → List Sitting → List Sitting → Type 0
IsPartly pass sessions all = (done : List Sitting) × (left : List Sitting) × (done ++ left ≡ all) × (sessions ≡ reverse left) × AreIn done pass

-- the next session is in
pub session_in : (p q : View) (id : ℕ) (b : Sitting) (out : View) (sessions firsts all : List Sitting) → id ≡ b.id → out ≡ b.pass
    → CameIn (Session id) out q → Grew p q → sessions ≡ firsts ++ b ∷ [] → IsPartly p sessions all → IsPartly q firsts all
session_in p q id b out sessions firsts all i o c g e (done, left, f, r, a) =
    let t = turned left firsts b (sym e ∙ r) in (
      done ++ b ∷ [],
      t.0,
      append_assoc done (b ∷ []) t.0 ∙ (ap (λ (l : List Sitting). done ++ l) (sym t.1) ∙ f),
      t.2,
      sessions_more done b q (sessions_on done p q a g)
          (subst (λ (k : ℕ). CameIn (Session k) b.pass q) i (subst (λ (v : View). CameIn (Session id) v q) o c)),
    )

-- none is left
pub all_in : (pass : View) (all : List Sitting) → IsPartly pass [] all → AreIn all pass
all_in pass all (done, left, f, r, a) =
    let none : left ≡ [] = sym (reverse-reverse left) ∙ ap (λ (l : List Sitting). reverse l) (sym r) in
    subst (λ (l : List Sitting). AreIn l pass) (sym (append-nil done) ∙ (ap (λ (l : List Sitting). done ++ l) (sym none) ∙ f)) a

-- ---- sites

module _ {D : Type 0} (story : D → Option Story) (faults : D → ℕ) (table : TableId) (opened : List ℕ) where
  pub sites_on : (site : ℕ) (p q : View) (disks : List D) → HaveLeft story faults table opened site p disks → Grew p q
      → HaveLeft story faults table opened site q disks
  sites_on site p q [] h g = tt
  sites_on site p q (d ∷ disks) h g =
      (record { was = h.0.was; leaves = h.0.leaves; came = came_on (Site site) h.0.was p q h.0.came g }, sites_on (site + 1) p q disks h.1 g)

  pub site_more : (site : ℕ) (p : View) (disks : List D) (d : D) → HaveLeft story faults table opened site p disks
      → HasLeft table opened (site + length disks) p (story d) (faults d) → HaveLeft story faults table opened site p (disks ++ d ∷ [])
  site_more site p [] d h l = (subst (λ (n : ℕ). HasLeft table opened n p (story d) (faults d)) (omega arith) l, tt)
  site_more site p (x ∷ disks) d h l = (
    h.0,
    site_more (site + 1) p disks d h.1
        (subst (λ (n : ℕ). HasLeft table opened n p (story d) (faults d)) (let e : site + suc (length disks) ≡ (site + 1) + length disks = omega arith in e) l),
  )

  pub sites_left : (layout : Layout) (site : ℕ) (p : View) (history : List Step) (disks : List D) → HaveLeft story faults table opened site p disks
      → Legal layout history → IsPrefix p.seen history → SameSteps (belongs actors) p.actors p.seen history
      → AllLeft story faults opened site history disks
  sites_left layout site p history [] h l b s = tt
  sites_left layout site p history (d ∷ disks) h l b s =
      let c = h.0.came in (
        left_on opened site (story d) (faults d) table layout h.0.was history h.0.leaves l (prefix_trans h.0.was.seen p.seen history c.begins b)
            (s (Site site) c.there ∙ c.steps),
        sites_left layout (site + 1) p history disks h.1 l b s,
      )

  -- the next site is in, and its disk is behind those that were
  pub site_joined : (p q was : View) (number next : ℕ) (disks after : List D) (d : D) → HaveLeft story faults table opened 1 p disks → Grew p q
      → Leaves table opened next was (story d) (faults d) → CameIn (Site next) was q → next ≡ number + 1 → number ≡ length disks → after ≡ disks ++ d ∷ []
      → (next ≡ length after) × HaveLeft story faults table opened 1 q after
  site_joined p q was number next disks after d h g l c n k e =
      let there : next ≡ 1 + length disks = omega (arith, n, k) in
      let one : HasLeft table opened (1 + length disks) q (story d) (faults d) =
      subst (λ (i : ℕ). HasLeft table opened i q (story d) (faults d)) there (record { was = was; leaves = l; came = c }) in
      let long : length after ≡ length disks + 1 = ap (λ (ds : List D). length ds) e ∙ length-append disks (d ∷ []) in (
        omega (arith, there, long),
        subst (λ (ds : List D). HaveLeft story faults table opened 1 q ds) (sym e) (site_more 1 q disks d (sites_on 1 p q disks h g) one),
      )
