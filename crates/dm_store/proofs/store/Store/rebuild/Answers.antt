use Rattle.std.proofs.Common.{ℕ, ◌+◌, ◌<◌, ◌∷◌, ◌++◌, [], length, drop, List, ◌≡◌, ap, sym, subst, ◌∙◌, arith, rules, true}
use Rattle.dm_event.specs.declared.step.Pair.{Pair}
use Rattle.dm_model.specs.Tests.{is_among}
use Rattle.dm_store.specs.Known.{AreKnown}
use Rattle.dm_store.specs.Rising.{may_install, is_above}
use Rattle.dm_store.specs.declared.past.Past.{Past}
use Rattle.dm_store.proofs.Knowing.{one_later}
use Rattle.dm_store.proofs.Rebuilding.{parts, next_fits, next_taken}
use Rattle.dm_store.proofs.store.Store.rebuild.Goals as goal

pub install-requires : goal.install-requires
install-requires c =
    let before : c.reserve.new.self.installed ≡ c.loop-transaction.store.installed = c.reserve.ensures.installed ∙ c.know_each.ensures.installed in
    let fit = (next_fits c.args.past.now c.loop-transaction.transaction-index c.transaction-item.result (omega arith) c.transaction-item.is
    c.loop-transaction.store.installed c.loop-transaction.invariant.rest).0 in
    let p = parts c.loop-transaction.store.installed c.transaction-item.result fit in
    record {
      few = p.few;
      ascending = p.ascending;
      known = search rules;
      room = c.in_ok-reserve.ensures.room;
      rising = subst (λ (ts : List Past). is_above ts c.transaction-item.result.origin c.transaction-item.result.seq ≡ true) (sym before) p.rising;
    }

pub loop-transaction-preserved : goal.loop-transaction-preserved
loop-transaction-preserved c =
    let i = c.loop-transaction.transaction-index in
    let t = c.transaction-item.result in
    let l : i < length c.args.past.now = omega arith in
    let before : c.reserve.new.self.installed ≡ c.loop-transaction.store.installed = c.reserve.ensures.installed ∙ c.know_each.ensures.installed in
    let more : c.install.new.self.installed ≡ c.loop-transaction.store.installed ++ t ∷ [] = c.install.ensures.installed
    ∙ ap (λ (ts : List Past). ts ++ t ∷ []) before in
    let known : c.know_each.new.self.known ≡ c.install.new.self.known = sym (c.install.ensures.known ∙ c.reserve.ensures.known) in
    record {
      installed = more ∙ next_taken c.args.past.now i t l c.transaction-item.is c.loop-transaction.store.installed c.loop-transaction.invariant.installed;
      rest = subst (λ (ts : List Past). may_install ts (drop (i + 1) c.args.past.now) ≡ true) (sym more)
          (next_fits c.args.past.now i t l c.transaction-item.is c.loop-transaction.store.installed c.loop-transaction.invariant.rest).1;
      layout = search rules;
      known = one_later c.loop-transaction.store.known c.install.new.self.known c.args.past.now i t l c.transaction-item.is c.loop-transaction.invariant.known
          (subst (λ (ks : List ℕ). (k : ℕ) → is_among c.loop-transaction.store.known k ≡ true → is_among ks k ≡ true) known c.know_each.ensures.stay)
          (subst (λ (ks : List ℕ). AreKnown ks t.writes) known
          (subst (λ (ws : List Pair). AreKnown c.know_each.new.self.known ws) c.as_slice.ensures c.in_ok-know_each.ensures.all));
    }
