use Rattle.std.proofs.Common.{rules, arith, ◌≡◌, ◌∙◌, ap, map, List, codes, refl}
use Rattle.std.specs.Prelude.{string_bytes}
use Rattle.std.specs.declared.string.String.{String}
use Rattle.std.specs.declared.alloc.Global.{Global}
use Rattle.dm_top.proofs.Lists.{three_of}
use Rattle.dm_top.proofs.command.check_names.Goals as goal

pub returns-then-eq-clause-found : goal.returns-then-eq-clause-found
returns-then-eq-clause-found c =
    let e = three_of c.args.words.now c.first-item.result c.schema-item.result c.history-item.result (omega arith) (omega arith) c.first-item.is c.schema-item.is
    c.history-item.is in
    let w : string_bytes c.first-item.result ≡ codes "check" = search rules in
    ap (λ (ws : List (String Global)). map string_bytes ws) e ∙ rw (w, c.as_str-then-eq.ensures.value, c.as_str-then-eq-2.ensures.value) refl
