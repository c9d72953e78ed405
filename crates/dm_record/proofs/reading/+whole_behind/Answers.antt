use Rattle.std.proofs.Common.{◌∙◌, ap, ℕ, ◌+◌, ◌-◌, ◌*◌, arith, get_or}
use Rattle.dm_record.specs.Form.{walk}
use Rattle.dm_record.proofs.Walks.{number_more, next_within, next_fits, alive_between}
use Rattle.dm_record.proofs.reading.+whole_behind.Goals as goal

pub overflow_mul-so_far : goal.overflow_mul-so_far
overflow_mul-so_far t c =
    let a = c.args in
    let b = get_or a.bytes.now a.at 0 in
    omega (arith, next_fits a.so_far b a.width (omega arith) (omega (arith, c.type_inv.bytes a.at)) c.requires.fits)

pub overflow_add-so_far : goal.overflow_add-so_far
overflow_add-so_far t c =
    let a = c.args in
    let b = get_or a.bytes.now a.at 0 in
    omega (arith, next_fits a.so_far b a.width (omega arith) (omega (arith, c.type_inv.bytes a.at)) c.requires.fits)

pub whole_behind-requires : goal.whole_behind-requires
whole_behind-requires t c =
    let a = c.args in
    let within = next_within a.so_far (get_or a.bytes.now a.at 0) a.width (omega arith) (omega (arith, c.type_inv.bytes a.at)) in
    (omega arith, (omega arith, omega (arith, within.1, c.requires.fits)))

pub returns-clause-least : goal.returns-clause-least
returns-clause-least t c =
    let a = c.args in
    let within = next_within a.so_far (get_or a.bytes.now a.at 0) a.width (omega arith) (omega (arith, c.type_inv.bytes a.at)) in
    omega (arith, within.0, c.whole_behind.ensures.least)

pub returns-clause-most : goal.returns-clause-most
returns-clause-most t c =
    let a = c.args in
    let within = next_within a.so_far (get_or a.bytes.now a.at 0) a.width (omega arith) (omega (arith, c.type_inv.bytes a.at)) in
    omega (arith, within.1, c.whole_behind.ensures.most)

pub returns-clause-walked : goal.returns-clause-walked
returns-clause-walked t c = λ low high next above below.
    let a = c.args in
    let n = c.whole_behind.result in
    number_more low high a.so_far next a.bytes.now a.at a.width (omega arith) (omega arith)
    (alive_between low high n (a.so_far * 256 + get_or a.bytes.now a.at 0) (a.width - 1) c.whole_behind.ensures.least c.whole_behind.ensures.most above below)
    ∙ c.whole_behind.ensures.walked low high next above below
    ∙ ap (λ (k : ℕ). walk (next n) a.bytes.now k) (omega arith)
