use Rattle.std.proofs.Common.{◌<◌, ◌≤◌, ◌∙◌, sym, ap, arith, Some}
use Rattle.command_line.specs.Values.{number_of}
use Rattle.command_line.proofs.ValueLemmas.{above, below, inside, same, too_large}
use Rattle.command_line.proofs.values.number_within.Goals as goal

pub returns-in_default-clause-is : goal.returns-in_default-clause-is
returns-in_default-clause-is c =
    sym (too_large c.args.least c.args.most c.args.word.now c.parse.result c.parse.ensures.value.0
    (sym c.is_number.ensures ∙ c.if-not-is_number.false) c.ranges.most.fits
    (λ n is. c.in_default.not-Ok n is))

pub returns-then-number-least-clause-is : goal.returns-then-number-least-clause-is
returns-then-number-least-clause-is c =
    let n = same c.args.word.now c.parse.result c.in-Ok.number c.parse.ensures.value.0
    (sym c.is_number.ensures ∙ c.if-not-is_number.false) c.in-Ok.is in
    let low : number_of c.args.word.now < c.args.least = rw (← n) c.if-number-least.true in
    sym (below c.args.least c.args.most c.args.word.now low)

pub returns-then-number-most-clause-is : goal.returns-then-number-most-clause-is
returns-then-number-most-clause-is c =
    let n = same c.args.word.now c.parse.result c.in-Ok.number c.parse.ensures.value.0
    (sym c.is_number.ensures ∙ c.if-not-is_number.false) c.in-Ok.is in
    let high : c.args.most < number_of c.args.word.now = rw (← n) c.if-number-most.true in
    sym (above c.args.least c.args.most c.args.word.now high)

pub returns-clause-is : goal.returns-clause-is
returns-clause-is c =
    let number = sym c.is_number.ensures ∙ c.if-not-is_number.false in
    let n = same c.args.word.now c.parse.result c.in-Ok.number c.parse.ensures.value.0 number
    c.in-Ok.is in
    let low : c.args.least ≤ number_of c.args.word.now =
    rw (← n) (omega (arith, c.if-number-least.false)) in
    let high : number_of c.args.word.now ≤ c.args.most =
    rw (← n) (omega (arith, c.if-number-most.false)) in
    ap Some n ∙ sym (inside c.args.least c.args.most c.args.word.now number low high)
