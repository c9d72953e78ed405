use Rattle.std.proofs.Common.{rules, arith, ◌≡◌, ◌∙◌, ap, map, List, codes, refl}
use Rattle.std.specs.Prelude.{string_bytes}
use Rattle.std.specs.declared.string.String.{String}
use Rattle.std.specs.declared.alloc.Global.{Global}
use Rattle.dm_top.proofs.Lists.{both_of}
use Rattle.dm_top.proofs.command.step_name.Goals as goal

pub returns-then-eq-clause-found : goal.returns-then-eq-clause-found
returns-then-eq-clause-found c =
    let e = both_of c.args.words.now c.first-item.result c.name-item.result (omega arith) (omega arith) c.first-item.is c.name-item.is in
    let w : string_bytes c.first-item.result ≡ codes "step" = search rules in
    ap (λ (ws : List (String Global)). map string_bytes ws) e ∙ rw (w, c.as_str-then-eq.ensures.value) refl
