use Rattle.std.proofs.Common.{rules, ◌≡◌, ℕ, true, sym, subst}
use Rattle.dm_event.specs.Layout.{is_part}
use Rattle.dm_invariant.specs.Stations.{layout_of}
use Rattle.dm_model.specs.Tests.{is_among}
use Rattle.dm_table.specs.Places.{WantsPart}
use Rattle.dm_client.proofs.bringing.bring_one.Goals as goal

pub bring-requires-clause-part : goal.bring-requires-clause-part
bring-requires-clause-part g c =
    let h : is_among c.args.parts.now c.args.part ≡ true = search rules in
    subst (λ (n : ℕ). is_part (layout_of c.args.own.now) n ≡ true) (sym c.in-Some.ensures) (c.requires.parts c.args.part h).0

pub bring-requires-clause-wants : goal.bring-requires-clause-wants
bring-requires-clause-wants g c t =
    let h : is_among c.args.parts.now c.args.part ≡ true = search rules in
    subst (λ (n : ℕ). WantsPart c.args.on n c.args.to c.args.own.now) (sym c.in-Some.ensures) ((c.requires.parts c.args.part h).1 t)
