use Rattle.std.proofs.Common.{ℕ, ◌≡◌, ◌<◌, ◌≤◌, ◌+◌, ◌^◌, List, refl, sym, ap, ◌∙◌, subst, arith}
use Rattle.dm_event.specs.declared.step.Step.{Step}
use Rattle.dm_event.specs.declared.step.Step.TheVariants.{Begin}
use Rattle.dm_kept.proofs.Beginning.{may_begin}
use Rattle.dm_kept.proofs.KeptCount.{finds}
use Rattle.dm_kept.proofs.Roomier.{begin_needs, kept_fits, no_begin, no_value, on_ok, only_more, room_for, some_value, steps_more}
use Rattle.dm_kept.specs.Finding.{Finds}
use Rattle.dm_kept.specs.KeptFields.{shown}
use Rattle.dm_kept.specs.Roomy.{HasBegin}
use Rattle.dm_kept.specs.Ledger.{Ledger, past}
use Rattle.dm_model.specs.Allowed.{Allowed}
use Rattle.dm_model.specs.Attempts.{last_routing}
use Rattle.dm_room.specs.Room.{need}
use Rattle.dm_runs.specs.Running.{AreRuns}
use Rattle.std.specs.Prelude.{option_copied, option_map, reverse, vec_len, vec_capacity}
use Rattle.dm_kept.proofs.kept.Kept.reserve.Goals as goal

pub invariant_of-self : goal.invariant_of-self
invariant_of-self c =
    steps_more c.self.inside c.reserve.new.self c.reserve.ensures.items c.reserve.ensures.len c.reserve.ensures.capacity c.self.invariant

pub last_want-want-requires : goal.last_want-want-requires
last_want-want-requires c =
    let b = c.self.inside in
    subst (λ (l : List Step). Finds l b.index) (sym (c.deref.ensures.value ∙ c.reserve.ensures.items))
    (finds b.schema b.steps.items b.index c.self.invariant.places)

pub invariant_of-self-in-Begin : goal.invariant_of-self-in-Begin
invariant_of-self-in-Begin c =
    let b = c.self.inside in
    let e = c.reserve_begin.ensures in
    let len : vec_len c.reserve.new.self ≡ vec_len b.steps = c.reserve.ensures.len in
    let capacity : vec_capacity b.steps ≤ vec_capacity c.reserve.new.self = c.reserve.ensures.capacity in
    only_more b c.reserve.new.self c.reserve_begin.new.index c.reserve_begin.new.runs c.reserve_begin.new.store
    (record {
      items = c.reserve.ensures.items;
      routes = e.routes;
      doubts = e.doubts;
      entries = e.entries;
      runs = e.runs;
      layout = e.layout;
      installed = e.installed;
    })
    (omega (arith, len, capacity)) e.rooms e.spare e.stay c.self.invariant

pub invariant_of-self-in_default : goal.invariant_of-self-in_default
invariant_of-self-in_default c =
    steps_more c.self.inside c.reserve.new.self c.reserve.ensures.items c.reserve.ensures.len c.reserve.ensures.capacity c.self.invariant

pub returns-in-Begin-clause-room : goal.returns-in-Begin-clause-room
returns-in-Begin-clause-room c =
    let b = c.self.inside in
    let inv = c.self.invariant in
    let s = c.args.step.now in
    let begin = c.in-Begin in
    let items = c.reserve.ensures.items in
    let q = reverse c.reserve.new.self.items in
    let e = c.reserve_begin.ensures in
    let allowed : Allowed b.schema (reverse b.steps.items) s = subst (λ (k : Ledger). Allowed k.layout (past k) s) (sym c.self.view_is) c.requires in
    let begins : Allowed b.schema q (Begin begin.site begin.txn begin.begin) =
    subst (λ (l : List Step). Allowed b.schema (reverse l) (Begin begin.site begin.txn begin.begin)) (sym items)
    (subst (λ (t : Step). Allowed b.schema (reverse b.steps.items) t) begin.is allowed) in
    let needs : c.need.result ≡ need b.schema b.items.items (reverse b.steps.items) s =
    c.need.ensures ∙ ap (λ (k : Ledger). need k.layout k.items (past k) s) (sym c.self.view_is) in
    let sum = some_value c.checked_add.result (b.kept + c.need.result < 2 ^ 64) (b.kept + c.need.result) c.in_ok-more.more c.checked_add.ensures
    c.in_ok-more.ensures.ok_part in
    let steps = room_for b inv c.reserve.new.self items s c.need.result c.in_ok-more.more needs sum c.in_ok-reserve.ensures.ok in
    let runs : AreRuns q b.runs.runs = subst (λ (l : List Step). AreRuns (reverse l) b.runs.runs) (sym items) inv.runs in
    let want : option_copied c.last_want-want.result ≡ option_map (λ r. r.want) (last_routing begin.txn.session q) =
    c.last_want-want.ensures ∙ ap (λ (l : List Step). option_map (λ r. r.want) (last_routing begin.txn.session (reverse l))) c.deref.ensures.value in
    let after : Ledger = shown (record b {
      steps = c.reserve.new.self;
      index = c.reserve_begin.new.index;
      runs = c.reserve_begin.new.runs;
      store = c.reserve_begin.new.store;
    }) in
    on_ok c.reserve_begin.result _ _ _ _ _ e.begins e.places e.installs e.known
    (λ room places installs known. record {
      steps = steps;
      begin = subst (λ (t : Step). HasBegin after t) (sym begin.is)
          (may_begin after b.runs.runs runs begin.site begin.txn begin.begin begins
          (option_copied c.last_want-want.result) want c.sites.result c.sites.ensures.same
          room (λ i l. places i (let long = inv.places.entries.long in let same = c.sites.ensures.same in omega (arith, l, long, same))) installs known);
    })

pub returns-in_default : goal.returns-in_default
returns-in_default c =
    let b = c.self.inside in
    let s = c.args.step.now in
    let items = c.reserve.ensures.items in
    let needs : c.need.result ≡ need b.schema b.items.items (reverse b.steps.items) s =
    c.need.ensures ∙ ap (λ (k : Ledger). need k.layout k.items (past k) s) (sym c.self.view_is) in
    let sum = some_value c.checked_add.result (b.kept + c.need.result < 2 ^ 64) (b.kept + c.need.result) c.in_ok-more.more c.checked_add.ensures
    c.in_ok-more.ensures.ok_part in
    record {
      room = record {
        steps = room_for b c.self.invariant c.reserve.new.self items s c.need.result c.in_ok-more.more needs sum c.in_ok-reserve.ensures.ok;
        begin = no_begin _ s c.in_default.not-Begin;
      };
      free = λ none. refl;
      history = items ∙ ap (λ (k : Ledger). k.steps) c.self.view_is;
      schema = ap (λ (k : Ledger). k.layout) c.self.view_is;
      items = ap (λ (k : Ledger). k.items) c.self.view_is;
    }

pub returns-in_err-more-clause-free : goal.returns-in_err-more-clause-free
returns-in_err-more-clause-free c = λ none.
    let b = c.self.inside in
    let fits = kept_fits b c.self.invariant in
    let small = b.steps.small in
    let zero : c.need.result ≡ 0 = c.need.ensures ∙ none in
    absurd (no_value c.checked_add.result (b.kept + c.need.result < 2 ^ 64) (b.kept + c.need.result) c.checked_add.ensures c.in_err-more.ensures.ok_part
    (omega (arith, fits, small, zero)))

pub returns-in_err-reserve-clause-free : goal.returns-in_err-reserve-clause-free
returns-in_err-reserve-clause-free c = λ none.
    let b = c.self.inside in
    let fits = kept_fits b c.self.invariant in
    let long = b.steps.ok.1 in
    let zero : c.need.result ≡ 0 = c.need.ensures ∙ none in
    let sum = some_value c.checked_add.result (b.kept + c.need.result < 2 ^ 64) (b.kept + c.need.result) c.in_ok-more.more c.checked_add.ensures
    c.in_ok-more.ensures.ok_part in
    let full = c.in_err-reserve.ensures.full in
    absurd (omega (arith, fits, long, zero, sum, full))

pub returns-in-Begin-clause-free : goal.returns-in-Begin-clause-free
returns-in-Begin-clause-free c = λ none.
    let b = c.self.inside in
    let s = c.args.step.now in
    let p = reverse b.steps.items in
    let allowed : Allowed b.schema p s = subst (λ (k : Ledger). Allowed k.layout (past k) s) (sym c.self.view_is) c.requires in
    let one = begin_needs b.schema b.items.items p s (c.self.invariant.legal, allowed) c.in-Begin.site c.in-Begin.txn c.in-Begin.begin c.in-Begin.is in
    let zero : need b.schema b.items.items p s ≡ 0 = ap (λ (k : Ledger). need k.layout k.items (past k) s) c.self.view_is ∙ none in
    absurd (let same : ◌≡◌ {A = ℕ} 1 0 = sym one ∙ zero in omega (arith, same))
