use Rattle.std.proofs.Common.{◌≡◌, List, sym, ◌∙◌, ap, subst, length}
use Rattle.std.proofs.lemmas.List.{with_items_is}
use Rattle.std.specs.Prelude.{option_copied}
use Rattle.std.specs.Vec.{with_items}
use Rattle.dm_numbers.proofs.Advancing.{Advanced, Follows, follows}
use Rattle.dm_numbers.proofs.numbers.Numbers.apply.Goals as goal
use Rattle.dm_numbers.specs.Counted.{Counted}
use Rattle.dm_numbers.specs.contracts.numbers.Numbers.{the_view}
use Rattle.dm_numbers.specs.declared.session.SessionNumbers.{SessionNumbers}
use Rattle.dm_numbers.specs.declared.site.SiteNumbers.{SiteNumbers}

pub returns : goal.returns
returns c =
    let s = c.args.step.now in
    let kept = option_copied c.args.pending in
    let named = option_copied c.args.entry in
    let before : Counted = the_view c.self.inside in
    let after : Counted = record { sites = c.advance.new.sites; sessions = c.advance-2.new.sessions } in
    let sites_long : length c.advance.new.sites ≡ c.self.inside.sites.len = c.advance.ensures.long ∙ c.deref_mut.ensures.len in
    let sessions_long : length c.advance-2.new.sessions ≡ c.self.inside.sessions.len = c.advance-2.ensures.long ∙ c.deref_mut-2.ensures.len in
    let up : Advanced before after s kept named = record {
      all = c.self.invariant.sessions;
      many = c.advance.ensures.long ∙ ap (λ (l : List SiteNumbers). length l) c.deref_mut.ensures.value;
      many_sessions = c.advance-2.ensures.long ∙ ap (λ (l : List SessionNumbers). length l) c.deref_mut-2.ensures.value;
      sites = rw c.deref_mut.ensures.value at c.advance.ensures.each;
      sessions = rw c.deref_mut-2.ensures.value at c.advance-2.ensures.each;
    } in
    let seen : after ≡ the_view (record {
      sites = with_items c.self.inside.sites after.sites;
      sessions = with_items c.self.inside.sessions after.sessions;
    }) = sym (λ i. record {
      sites = with_items_is c.self.inside.sites after.sites sites_long i;
      sessions = with_items_is c.self.inside.sessions after.sessions sessions_long i;
    }) in
    let all = subst (λ (new : Counted). Follows c.args.self.now new s kept named) seen
    (subst (λ (old : Counted). Follows old after s kept named) c.self.view_is (follows before after s kept named up)) in
    record { sites = all.sites; sessions = all.sessions; many = all.many; follows = all.follows }
