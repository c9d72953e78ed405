-- Sessions that are opened, the last first.
use Rattle.std.proofs.Common.{◌≡◌, ⊎_elim, ℕ, suc, ◌+◌, ◌≤◌, ◌<◌, ◌==◌, Bool, true, false, if◌then◌else◌, List, [], ◌∷◌, ◌++◌, length, Some, refl, sym, ap, ◌∙◌, subst, arith, inl, inr}
use Rattle.std.proofs.lemmas.List.{append_assoc, reverse-append, reverse-reverse}
use Rattle.std.specs.Prelude.{reverse}
use Rattle.atomic_table.specs.Seated.{TableId}
use Rattle.dm_chronicle.specs.Rule.{In}
use Rattle.dm_chronicle.specs.Standing.{starts}
use Rattle.dm_core.specs.Lawful.{Terms}
use Rattle.dm_event.specs.declared.actor.Actor.TheVariants.{Session}
use Rattle.dm_invariant.specs.Stations.{View}
use Rattle.dm_opening.specs.Dealing.{ids_from, sessions_of}
use Rattle.dm_opening.specs.Opening.{AreNew}
use Rattle.dm_session.specs.Sitting.{Sitting}

-- lists with the same last
pub same_ends : {X : Type 0} (xs ys : List X) (x y : X) → xs ++ x ∷ [] ≡ ys ++ y ∷ [] → (xs ≡ ys) × (x ≡ y)
same_ends {X} xs ys x y e =
    let r : x ∷ reverse xs ≡ y ∷ reverse ys = sym (reverse-append xs (x ∷ [])) ∙ (ap (λ (l : List X). reverse l) e ∙ reverse-append ys (y ∷ [])) in
    (sym (reverse-reverse xs) ∙ (ap (λ (l : List X). reverse l) (ap rest r) ∙ reverse-reverse ys), ap head r)
  where
    rest : List X → List X
    rest [] = []
    rest (z ∷ zs) = zs

    head : List X → X
    head [] = x
    head (z ∷ zs) = z

in_ids : (a : ℕ) (items : List ℕ) (id : ℕ) → In id (ids_from a items) → (a ≤ id) × (id < a + length items)
in_ids a [] id h = absurd h
in_ids a (n ∷ items) id h = by (n == 0) h (λ t. in_ids (suc a) items id t)
  where
    by : (b : Bool) → In id (if b then ids_from (suc a) items else a ∷ ids_from (suc a) items)
        → (In id (ids_from (suc a) items) → (suc a ≤ id) × (id < suc a + length items)) → (a ≤ id) × (id < a + suc (length items))
    by true k rest = let r = rest k in let l = r.0 in let m = r.1 in (omega (arith, l), omega (arith, m))
    by false k rest = ⊎_elim (λ e. (omega (arith, e), omega (arith, e))) (λ t. let r = rest t in let l = r.0 in let m = r.1 in (omega (arith, l), omega (arith, m))) k

module _ (table : TableId) (terms : Terms) where
  abbrev pub view : ℕ → View
  view id = record { table = table; fixed = Some terms; actors = Session id ∷ []; seen = [] }

  dealt_more : (ids : List ℕ) (id : ℕ) → starts table terms [] (sessions_of (ids ++ id ∷ [])) ≡ starts table terms [] (sessions_of ids) ++ view id ∷ []
  dealt_more [] id = refl
  dealt_more (i ∷ ids) id = ap (λ (l : List View). view i ∷ l) (dealt_more ids id)

  -- the sessions behind the first of the ids are there, and these have their passes
  pub record Partly (all ids : List ℕ) (passes : List View) (sessions : List Sitting) : Type 0 where
    pub done : List ℕ
    pub whole : ids ++ done ≡ all
    pub dealt : passes ≡ starts table terms [] (sessions_of ids)
    pub new : AreNew table terms done (reverse sessions)

  pub next_id : (all ids firsts : List ℕ) (id : ℕ) (passes others : List View) (pass : View) (sessions : List Sitting) → Partly all ids passes sessions
      → ids ≡ firsts ++ id ∷ [] → passes ≡ others ++ pass ∷ [] → (others ≡ starts table terms [] (sessions_of firsts)) × (pass ≡ view id)
  next_id all ids firsts id passes others pass sessions p e f =
      same_ends others (starts table terms [] (sessions_of firsts)) pass (view id)
      (sym f ∙ (p.dealt ∙ (ap (λ (l : List ℕ). starts table terms [] (sessions_of l)) e ∙ dealt_more firsts id)))

  pub id_in : (all ids firsts items : List ℕ) (id : ℕ) (passes : List View) (sessions : List Sitting) → Partly all ids passes sessions → ids ≡ firsts ++ id ∷ []
      → all ≡ ids_from 1 items → (1 ≤ id) × (id < 1 + length items)
  id_in all ids firsts items id passes sessions p e a =
      in_ids 1 items id (subst (λ (l : List ℕ). In id l) (ap (λ (l : List ℕ). l ++ p.done) (sym e) ∙ (p.whole ∙ a))
      (in_left_of firsts id p.done))
    where
      in_left_of : (xs : List ℕ) (x : ℕ) (ys : List ℕ) → In x ((xs ++ x ∷ []) ++ ys)
      in_left_of [] x ys = inl refl
      in_left_of (z ∷ zs) x ys = inr (in_left_of zs x ys)

  pub opened_more : (all ids firsts : List ℕ) (id : ℕ) (passes others : List View) (pass : View) (sessions more : List Sitting) (s : Sitting)
      → Partly all ids passes sessions → ids ≡ firsts ++ id ∷ [] → passes ≡ others ++ pass ∷ [] → more ≡ sessions ++ s ∷ []
      → s.id ≡ id → s.count ≡ 0 → s.pass ≡ pass → Partly all firsts others more
  opened_more all ids firsts id passes others pass sessions more s p e f m i c q =
      let n = next_id all ids firsts id passes others pass sessions p e f in
      let is : s.pass ≡ view id = q ∙ n.1 in
      record {
        done = id ∷ p.done;
        whole = sym (append_assoc firsts (id ∷ []) p.done) ∙ (ap (λ (l : List ℕ). l ++ p.done) (sym e) ∙ p.whole);
        dealt = n.0;
        new = subst (λ (l : List Sitting). AreNew table terms (id ∷ p.done) l) (sym (ap (λ (l : List Sitting). reverse l) m ∙ reverse-append sessions (s ∷ []))) (
          record {
            id_is = i;
            none = c;
            table_is = ap (λ (v : View). v.table) is;
            terms_are = ap (λ (v : View). v.fixed) is;
            empty = ap (λ (v : View). v.seen) is;
          },
          p.new,
        );
      }
