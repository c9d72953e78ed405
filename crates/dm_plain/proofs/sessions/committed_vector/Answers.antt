use Rattle.std.proofs.Common.{ℕ, List, ap, sym, ◌∙◌, length}
use Rattle.std.specs.Prelude.{reverse}
use Rattle.dm_steps.proofs.Legality.{made_entry, long_commit}
use Rattle.dm_plain.proofs.sessions.committed_vector.Goals as goal

pub commit_vector-requires : goal.commit_vector-requires
commit_vector-requires c =
    let m = made_entry c.args.schema.now (reverse c.args.steps.now) c.requires c.args.site c.args.seq c.in-Some.entry.now (sym c.in-Some.ensures) in
    (m.one, m.within)

pub returns-in-Some-clause-sites : goal.returns-in-Some-clause-sites
returns-in-Some-clause-sites c =
    ap (λ (v : List ℕ). length v) c.commit_vector.ensures
    ∙ long_commit c.args.schema.now c.in-Some.entry.now (made_entry c.args.schema.now (reverse c.args.steps.now) c.requires c.args.site c.args.seq
    c.in-Some.entry.now (sym c.in-Some.ensures))
