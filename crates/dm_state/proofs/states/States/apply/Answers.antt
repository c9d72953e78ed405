use Rattle.std.proofs.Common.{◌≡◌, List, sym, ◌∙◌, ap, subst, length}
use Rattle.std.proofs.lemmas.List.{with_items_is}
use Rattle.std.specs.Prelude.{option_copied}
use Rattle.std.specs.Vec.{with_items}
use Rattle.dm_event.specs.declared.placing.Placing.{Placing}
use Rattle.dm_state.proofs.Advancing.{Advanced, Follows, follows}
use Rattle.dm_state.proofs.states.States.apply.Goals as goal
use Rattle.dm_state.specs.Standings.{Standings}
use Rattle.dm_state.specs.contracts.states.States.{the_view}

pub returns : goal.returns
returns c =
    let s = c.args.step.now in
    let kept = option_copied c.args.pending in
    let before : Standings = the_view c.self.inside in
    let after : Standings = record { attempts = c.advance.new.attempts; replies = c.advance-2.new.replies; placings = c.advance-3.new.placings } in
    let attempts_long : length c.advance.new.attempts ≡ c.self.inside.attempts.len = c.advance.ensures.long ∙ c.deref_mut.ensures.len in
    let replies_long : length c.advance-2.new.replies ≡ c.self.inside.replies.len = c.advance-2.ensures.long ∙ c.deref_mut-2.ensures.len in
    let placings_long : length c.advance-3.new.placings ≡ c.self.inside.placings.len = c.advance-3.ensures.long ∙ c.deref_mut-3.ensures.len in
    let up : Advanced before after s kept = record {
      attempts_all = c.self.invariant.attempts;
      replies_all = c.self.invariant.replies;
      parts = c.advance-3.ensures.long ∙ ap (λ (l : List Placing). length l) c.deref_mut-3.ensures.value;
      attempts = rw c.deref_mut.ensures.value at c.advance.ensures.each;
      replies = rw c.deref_mut-2.ensures.value at c.advance-2.ensures.each;
      placings = rw c.deref_mut-3.ensures.value at c.advance-3.ensures.each;
    } in
    let seen : after ≡ the_view (record {
      attempts = with_items c.self.inside.attempts after.attempts;
      replies = with_items c.self.inside.replies after.replies;
      placings = with_items c.self.inside.placings after.placings;
    }) = sym (λ i. record {
      attempts = with_items_is c.self.inside.attempts after.attempts attempts_long i;
      replies = with_items_is c.self.inside.replies after.replies replies_long i;
      placings = with_items_is c.self.inside.placings after.placings placings_long i;
    }) in
    let all = subst (λ (new : Standings). Follows c.args.self.now new s kept) seen
    (subst (λ (old : Standings). Follows old after s kept) c.self.view_is (follows before after s kept up)) in
    record { attempts = all.attempts; replies = all.replies; placings = all.placings; parts = all.parts; follows = all.follows }
