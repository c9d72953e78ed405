use Rattle.dm_site.proofs.Catching.{next_due, next_known, next_fits, next_installed}
use Rattle.dm_site.proofs.refreshing.take_over.Goals as goal

pub unreachable-requires : goal.unreachable-requires
unreachable-requires c =
    let k = c.kept-book in let turn = c.args.turn.now in
    next_due turn.fixed turn.seen k.result.now c.args.site c.args.origin k.ensures.fixed k.ensures.list c.in_default.ensures.exact c.requires.follows

pub install-requires-clause-few : goal.install-requires-clause-few
install-requires-clause-few c =
    let k = c.kept-book in let turn = c.args.turn.now in
    (next_fits turn.fixed turn.seen k.result.now c.args.site c.args.origin k.ensures.fixed k.ensures.list c.in-Some.entry.now c.in-Some.ensures.exact
    c.steps-steps.result.now c.args.store.now.installed c.steps-steps.ensures.same c.steps-steps.ensures.legal c.requires.follows c.requires.stores).few

pub install-requires-clause-ascending : goal.install-requires-clause-ascending
install-requires-clause-ascending c =
    let k = c.kept-book in let turn = c.args.turn.now in
    (next_fits turn.fixed turn.seen k.result.now c.args.site c.args.origin k.ensures.fixed k.ensures.list c.in-Some.entry.now c.in-Some.ensures.exact
    c.steps-steps.result.now c.args.store.now.installed c.steps-steps.ensures.same c.steps-steps.ensures.legal c.requires.follows c.requires.stores).ascending

pub install-requires-clause-rising : goal.install-requires-clause-rising
install-requires-clause-rising c =
    let k = c.kept-book in let turn = c.args.turn.now in
    (next_fits turn.fixed turn.seen k.result.now c.args.site c.args.origin k.ensures.fixed k.ensures.list c.in-Some.entry.now c.in-Some.ensures.exact
    c.steps-steps.result.now c.args.store.now.installed c.steps-steps.ensures.same c.steps-steps.ensures.legal c.requires.follows c.requires.stores).rising

pub install-requires-clause-known : goal.install-requires-clause-known
install-requires-clause-known c =
    let k = c.kept-book in let turn = c.args.turn.now in
    next_known turn.fixed turn.seen k.result.now c.args.site c.args.origin k.ensures.fixed k.ensures.list c.in-Some.entry.now c.in-Some.ensures.exact
    c.args.store.now.known c.requires.known

pub returns-clause-installed : goal.returns-clause-installed
returns-clause-installed c =
    let k = c.kept-book in let turn = c.args.turn.now in
    next_installed turn.fixed turn.seen k.result.now c.args.site c.args.origin k.ensures.fixed k.ensures.list c.in-Some.entry.now c.in-Some.ensures.exact
    c.args.store.now.installed c.install.new.self.installed c.install.ensures.installed
