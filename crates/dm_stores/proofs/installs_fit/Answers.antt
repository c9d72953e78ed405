use Rattle.std.proofs.Common.{refl}
use Rattle.dm_stores.proofs.Fitting.{fits_refresh, fits_commit}
use Rattle.dm_stores.proofs.installs_fit.Goals as goal

pub returns-clause-refresh : goal.returns-clause-refresh
returns-clause-refresh c = λ layout past site origin entry installed legal next stores.
    fits_refresh layout past site origin entry installed legal.0 legal.1 next stores

pub returns-clause-commit : goal.returns-clause-commit
returns-clause-commit c = λ layout past entry installed legal stores. fits_commit layout past entry.origin entry installed legal.0 legal.1 refl stores
