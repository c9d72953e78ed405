use Rattle.std.proofs.Common.{ℕ, List, ◌-◌, ◌∙◌, ap, sym, arith, refl, Vec, Global}
use Rattle.dm_index.proofs.Reading.{read}
use Rattle.dm_index.proofs.entries.place.Goals as goal
use Rattle.dm_steps.specs.Slots.{numbered_in}

pub returns : goal.returns
returns c =
    c.numbered.ensures ∙ ap (λ (l : List ℕ). numbered_in l c.args.seq) c.deref.ensures.value
    ∙ sym (read (λ (v : Vec ℕ Global). v.items) c.args.places.now (c.args.origin - 1) c.args.origin c.args.seq c.index-places-origin.result refl (omega arith)
    (omega arith) c.index-places-origin.is)
