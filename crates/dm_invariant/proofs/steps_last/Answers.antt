use Rattle.dm_invariant.proofs.Lasting.{lasts_commit, lasts_release, lasts_grant, lasts_run_fail, lasts_routed_fail}
use Rattle.dm_invariant.proofs.steps_last.Goals as goal

pub returns : goal.returns
returns c = record {
  commit = λ layout was old site txn begin done begins there runs began writes. lasts_commit layout was old site txn begin done begins there runs began writes;
  release = λ layout old session site part epoch to there up asked free. lasts_release layout old session site part epoch to there up asked free;
  grant = λ layout old session from site part epoch vector there up between reached.
      lasts_grant layout old session from site part epoch vector there up between reached;
  run_fail = λ layout was old site txn begin done cause begins there runs began fits of_site.
      lasts_run_fail layout was old site txn begin done cause begins there runs began fits of_site;
  routed_fail = λ layout old site txn cause there routed fits of_site. lasts_routed_fail layout old site txn cause there routed fits of_site;
}
