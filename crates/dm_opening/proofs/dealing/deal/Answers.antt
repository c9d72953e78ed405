use Rattle.std.proofs.Common.{◌≡◌, ◌≤◌, ℕ, length, subst, sym, ◌∙◌, arith}
use Rattle.dm_opening.proofs.Cutting.{given_apart, given_long, given_so, given_some, shared_out}
use Rattle.dm_opening.proofs.dealing.deal.Goals as goal

pub new-requires-2-clause-some : goal.new-requires-2-clause-some
new-requires-2-clause-some c =
    let layout = c.args.schema.now in
    let g = given_so layout.sites (length layout.masters) c.args.items.now c.in_ok-ids.ids.items c.deref.result.now c.in_ok-actors.actors.items
    c.deref-2.result.now c.in_ok-ids.ensures c.deref.ensures.value c.in_ok-actors.ensures c.deref-2.ensures.value in
    given_some _ _ _ _ _ g (subst (λ (n : ℕ). 1 ≤ n) c.sites.ensures.same c.sites.ensures.limits.0)

pub new-requires-2-clause-apart : goal.new-requires-2-clause-apart
new-requires-2-clause-apart c =
    let layout = c.args.schema.now in
    given_apart _ _ _ _ _ (given_so layout.sites (length layout.masters) c.args.items.now c.in_ok-ids.ids.items c.deref.result.now
    c.in_ok-actors.actors.items c.deref-2.result.now c.in_ok-ids.ensures c.deref.ensures.value c.in_ok-actors.ensures c.deref-2.ensures.value)

pub split_off-requires : goal.split_off-requires
split_off-requires c =
    let layout = c.args.schema.now in
    let g = given_so layout.sites (length layout.masters) c.args.items.now c.in_ok-ids.ids.items c.deref.result.now c.in_ok-actors.actors.items
    c.deref-2.result.now c.in_ok-ids.ensures c.deref.ensures.value c.in_ok-actors.ensures c.deref-2.ensures.value in
    let long = given_long _ layout.sites (length layout.masters) c.args.items.now c.in_ok-ids.ids.items c.deref-2.result.now g c.in-Ok.passes.items
    c.in-Ok.ensures.passes in
    let s : c.from-sites.result ≡ layout.sites = c.from-sites.ensures ∙ c.sites.ensures.same in
    let p : c.from-parts.result ≡ length layout.masters = c.from-parts.ensures ∙ c.parts.ensures.same in
    let l : c.in-Ok.passes.len ≡ length c.in-Ok.passes.items = c.in-Ok.passes.ok.0 in
    omega (arith, long, s, p, l)

pub invariant_of-result : goal.invariant_of-result
invariant_of-result c =
    let layout = c.args.schema.now in
    let g = given_so layout.sites (length layout.masters) c.args.items.now c.in_ok-ids.ids.items c.deref.result.now c.in_ok-actors.actors.items
    c.deref-2.result.now c.in_ok-ids.ensures c.deref.ensures.value c.in_ok-actors.ensures c.deref-2.ensures.value in
    let e = c.in-Ok.ensures in
    let s = shared_out _ _ _ layout c.args.items.now c.in_ok-ids.ids.items _ c.deref-2.result.now c.from-sites.result c.from-parts.result
    c.in-Ok.passes.items c.split_off.new.self.items _ _ _ g (c.from-sites.ensures ∙ c.sites.ensures.same) (c.from-parts.ensures ∙ c.parts.ensures.same)
    e.fixed c.in_ok-book.ensures.schema c.in_ok-book.ensures.items c.in_ok-book.ensures.empty e.passes c.in_ok-sessions.ensures.items
    c.in_ok-sessions.ensures.tail c.in_ok-parts.ensures.items c.in_ok-parts.ensures.tail in
    record {
      actors_are = sym c.deref-2.ensures.value ∙ sym e.actors;
      ids_are = s.ids_are;
      sites_are = s.sites_are;
      parts_are = s.parts_are;
      sessions_are = s.sessions_are;
    }
