use Rattle.std.proofs.Common.{◌∙◌, sym, ap, subst, ℕ, List, arith}
use Rattle.dm_record.specs.Form.{walk}
use Rattle.dm_record.specs.Grammar.{frame_form}
use Rattle.dm_record.specs.Judging.{Tells}
use Rattle.dm_record.proofs.Telling.{are_bytes, tells, found, again}
use Rattle.dm_record.proofs.Passing.{ok_on}
use Rattle.dm_record.proofs.decoding.decode.Goals as goal

pub returns-clause-tells : goal.returns-clause-tells
returns-clause-tells c = ok_on _ _ c.decoded.result c.decoded.ensures
    (λ d is. subst (Tells c.args.bytes.now) is (tells c.args.bytes.now (are_bytes c.args.bytes.now (λ i. omega (arith, c.type_inv.bytes i)))))

pub returns-clause-whole : goal.returns-clause-whole
returns-clause-whole c = λ n rec within h. ok_on _ _ c.decoded.result c.decoded.ensures (λ d is. sym is ∙ found c.args.bytes.now n rec within h)

pub returns-clause-again : goal.returns-clause-again
returns-clause-again c = λ rec rest has split. ok_on _ _ c.decoded.result c.decoded.ensures (λ d is. sym is ∙ ap (λ (l : List ℕ). walk frame_form l 0) split
    ∙ again rec rest has)
