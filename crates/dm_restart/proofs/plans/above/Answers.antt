use Rattle.std.proofs.Common.{ap, ◌∙◌, []}
use Rattle.std.proofs.lemmas.Bool.{le-ltb}
use Rattle.std.specs.List.{cons_option}
use Rattle.std.specs.Prelude.{find}
use Rattle.dm_record.specs.declared.record.Record.{Record}
use Rattle.dm_restart.specs.Plans.{commit_of, is_numbered_above}
use Rattle.dm_restart.proofs.Lacking.{none_next, found_first, not_above, no_commit, none_in_all}
use Rattle.dm_restart.proofs.plans.above.Goals as goal
use Rattle.dm_restart.proofs.plans.above.Goals.{in-Commit+else-last-seq, in_default}

pub returns-then-last-seq : goal.returns-then-last-seq
returns-then-last-seq c = λ site.
    found_first c.args.last site c.args.own.now c.loop-record.record-index c.record-item.result c.loop-record-test.true c.record-item.is
    (c.loop-record.invariant site) c.in-Commit.txn c.in-Commit.seq c.in-Commit.begin c.in-Commit.writes c.in-Commit.is c.if-last-seq.true

pub loop-record-preserved : goal.loop-record-preserved
loop-record-preserved c = λ site. none_next c.args.last site c.args.own.now c.loop-record.record-index c.record-item.result c.loop-record-test.true c.record-item.is
    (c.loop-record.invariant site)
    (elim c.match-record.branch [
      | in-Commit+else-last-seq w
          ↦ ap (λ (r : Record). find (is_numbered_above c.args.last) (cons_option (commit_of site r) [])) w.in-Commit.is
          ∙ not_above c.args.last site w.in-Commit.txn w.in-Commit.seq w.in-Commit.begin w.in-Commit.writes
          (le-ltb c.args.last w.in-Commit.seq w.if-last-seq.false)
      | in_default w ↦ no_commit c.args.last site c.record-item.result w.in_default.not-Commit
    ])

pub returns : goal.returns
returns c = λ site. none_in_all c.args.last site c.args.own.now c.loop-record.record-index c.loop-record-test.false (c.loop-record.invariant site)
