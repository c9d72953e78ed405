-- Along the chain of a key, from the newest version on.
use Rattle.std.proofs.Common.{ℕ, suc, ◌<◌, ◌≤◌, ◌≡◌, Bool, true, false, ◌==◌, ◌&&◌, cond, List, [], ◌∷◌, ◌++◌, length, get_or, Option, Some, None, refl, sym}
use Rattle.std.proofs.Common.{ap, subst, ◌∙◌, arith, map}
use Rattle.std.specs.Prelude.{reverse}
use Rattle.std.proofs.lemmas.Bool.{eqb-true, eq-eqb, le-leb, lt-leb}
use Rattle.dm_event.specs.Vectors.{at}
use Rattle.std.proofs.lemmas.List.{append_assoc, reverse-append, reverse-reverse, length-append, length-reverse}
use Rattle.dm_store.specs.Chains.{last_place, AreLinked}
use Rattle.dm_store.specs.Versions.{latest_version, is_within}
use Rattle.dm_store.specs.declared.version.Link.{Link}
use Rattle.dm_store.specs.declared.version.Version.{Version}

abbrev pub versions_of : List Link → List Version
versions_of ls = map (λ (l : Link). l.version) ls

-- one more than the place, 0 where there is none
abbrev pub after : Option ℕ → ℕ
after None = 0
after (Some place) = suc place

-- no link of the key is left, or the last one, which stands at the place, with those before it
pub record IsLast (key : ℕ) (v : List ℕ) (ls : List Link) (place : ℕ) : Type 0 where
  pub link : Link
  pub below : List Link
  pub front : List Link
  pub split : ls ≡ front ++ (link ∷ below)
  pub at : length below ≡ place
  pub key_is : link.version.key ≡ key
  pub linked : AreLinked (link ∷ below)
  pub same : latest_version (versions_of ls) key v ≡ latest_version (versions_of (link ∷ below)) key v

pub none_left : (key : ℕ) (v : List ℕ) (ls : List Link) → last_place key ls ≡ None → latest_version (versions_of ls) key v ≡ None
none_left key v [] h = refl
none_left key v (l ∷ ls) h = by (l.version.key == key) (none_left key v ls) h
  where
    by : (b : Bool) → (last_place key ls ≡ None → latest_version (versions_of ls) key v ≡ None) → cond b (Some (length ls)) (last_place key ls) ≡ None
        → cond (b && is_within v l.version) (Some l.version.value) (latest_version (versions_of ls) key v) ≡ None
    by true rest h = absurd (cc)
    by false rest h = rest h

pub last_of : (key : ℕ) (v : List ℕ) (ls : List Link) (place : ℕ) → AreLinked ls → last_place key ls ≡ Some place → IsLast key v ls place
last_of key v [] place linked h = absurd (cc)
last_of key v (l ∷ ls) place linked h = by (l.version.key == key) refl (last_of key v ls place linked.1) h
  where
    by : (b : Bool) → (l.version.key == key) ≡ b → (last_place key ls ≡ Some place → IsLast key v ls place)
        → cond b (Some (length ls)) (last_place key ls) ≡ Some place → IsLast key v (l ∷ ls) place
    by true e rest h = record { link = l; below = ls; front = []; split = refl; at = (cc); key_is = eqb-true l.version.key key e; linked = linked; same = refl }
    by false e rest h =
        let r = rest h in
        record {
          link = r.link;
          below = r.below;
          front = l ∷ r.front;
          split = ap (λ (xs : List Link). l ∷ xs) r.split;
          at = r.at;
          key_is = r.key_is;
          linked = r.linked;
          same = (λ i. cond (e i && is_within v l.version) (Some l.version.value) (latest_version (versions_of ls) key v)) ∙ r.same;
        }

pub after_last : (key : ℕ) (ls : List Link) → after (last_place key ls) ≤ length ls
after_last key [] = (omega arith)
after_last key (l ∷ ls) = by (l.version.key == key) (after_last key ls)
  where
    by : (b : Bool) → after (last_place key ls) ≤ length ls → after (cond b (Some (length ls)) (last_place key ls)) ≤ suc (length ls)
    by true h = (omega arith)
    by false h = (omega arith)

-- where the search for the key stands: which links are left, of all
pub record Follows (all : List Link) (key : ℕ) (v : List ℕ) (next : Option ℕ) : Type 0 where
  pub rest : List Link
  pub front : List Link
  pub split : all ≡ front ++ rest
  pub linked : AreLinked rest
  pub next_is : next ≡ last_place key rest
  pub same : latest_version (versions_of all) key v ≡ latest_version (versions_of rest) key v

get_seam : {A : Type 0} (xs : List A) (y : A) (ys : List A) (d : A) → get_or ((xs ++ y ∷ []) ++ ys) (length xs) d ≡ y
get_seam [] y ys d = refl
get_seam (x ∷ xs) y ys d = get_seam xs y ys d

module _ (all : List Link) (key : ℕ) (v : List ℕ) where
  pub start : AreLinked all → (next : Option ℕ) → next ≡ last_place key all → Follows all key v next
  start linked next h = record { rest = all; front = []; split = refl; linked = linked; next_is = h; same = refl }

  pub stop : (next : Option ℕ) → Follows all key v next → next ≡ None → None ≡ latest_version (versions_of all) key v
  stop next f e = sym (f.same ∙ none_left key v f.rest (sym f.next_is ∙ e))

  module _ (next : Option ℕ) (place : ℕ) (f : Follows all key v next) (e : next ≡ Some place) where
    abbrev pub last : IsLast key v f.rest place
    last = last_of key v f.rest place f.linked (sym f.next_is ∙ e)

    whole : all ≡ (f.front ++ last.front) ++ (last.link ∷ last.below)
    whole = f.split ∙ ap (λ (xs : List Link). f.front ++ xs) last.split ∙ sym (append_assoc f.front last.front (last.link ∷ last.below))

    pub in_bounds : place < length all
    in_bounds = let a = ap (λ (xs : List Link). length xs) whole in let b = length-append (f.front ++ last.front) (last.link ∷ last.below) in let h = last.at in
        omega arith

    module _ (items : List Link) (turned : all ≡ reverse items) where
      -- the link at the place is the key's last one
      pub found : (d : Link) → get_or items place d ≡ last.link
      found d =
          let seam = reverse last.below in
          let parts : items ≡ (seam ++ last.link ∷ []) ++ reverse (f.front ++ last.front) =
          sym (reverse-reverse items) ∙ ap (λ (xs : List Link). reverse xs) (sym turned ∙ whole)
          ∙ reverse-append (f.front ++ last.front) (last.link ∷ last.below)
          ∙ ap (λ (xs : List Link). xs ++ reverse (f.front ++ last.front)) (reverse-append (last.link ∷ []) last.below) in
          let n : place ≡ length seam = sym last.at ∙ sym (length-reverse last.below) in
          (λ i. get_or (parts i) (n i) d) ∙ get_seam seam last.link (reverse (f.front ++ last.front)) d

      module _ (link : Link) (read : link ≡ get_or items place link) where
        link_is : link ≡ last.link
        link_is = read ∙ found link

        -- it is within the vector, and so it is the answer
        pub answer : link.version.seq ≤ at v link.version.origin → Some link.version.value ≡ latest_version (versions_of all) key v
        answer h =
            let inside : is_within v last.link.version ≡ true = le-leb _ _ (subst (λ (l : Link). l.version.seq ≤ at v l.version.origin) link_is h) in
            let own : (last.link.version.key == key) ≡ true = eq-eqb _ _ last.key_is in
            ap (λ (l : Link). Some l.version.value) link_is
            ∙ (λ i. cond (sym own i && sym inside i) (Some last.link.version.value) (latest_version (versions_of last.below) key v))
            ∙ sym (f.same ∙ last.same)

        -- it isn't, and the search goes on below it
        pub onward : at v link.version.origin < link.version.seq → Follows all key v link.older
        onward h =
            let outside : is_within v last.link.version ≡ false = lt-leb _ _ (subst (λ (l : Link). at v l.version.origin < l.version.seq) link_is h) in
            record {
              rest = last.below;
              front = (f.front ++ last.front) ++ last.link ∷ [];
              split = whole ∙ sym (append_assoc (f.front ++ last.front) (last.link ∷ []) last.below);
              linked = last.linked.1;
              next_is = ap (λ (l : Link). l.older) link_is ∙ last.linked.0 ∙ ap (λ (k : ℕ). last_place k last.below) last.key_is;
              same = f.same ∙ last.same ∙ (λ i. cond ((last.link.version.key == key) && outside i) (Some last.link.version.value)
                  (latest_version (versions_of last.below) key v)) ∙ not_here (last.link.version.key == key);
            }
          where
            not_here : (b : Bool) → cond (b && false) (Some last.link.version.value) (latest_version (versions_of last.below) key v) ≡ latest_version
                (versions_of last.below) key v
            not_here true = refl
            not_here false = refl

        pub lower : after link.older < after next
        lower =
            let a : after link.older ≤ length last.below = subst (λ (o : Option ℕ). after o ≤ length last.below)
            (sym (ap (λ (l : Link). l.older) link_is ∙ last.linked.0)) (after_last last.link.version.key last.below) in
            let b : after next ≡ suc place = ap after e in
            let h = last.at in
            omega arith
