use Rattle.std.proofs.Common.{◌≡◌, ◌<◌, ◌^◌, true, bytes_eq, sym, ap, ◌∙◌, arith}
use Rattle.std.proofs.lemmas.Slice.Eq.{bytes_eq-Decides}
use Rattle.json_members.specs.Decimals.{number_of}
use Rattle.json_members.proofs.DecimalLemmas.{number_of-apart, number_of-decimal}
use Rattle.json_members.proofs.decimal.decimal_number.Goals as goal

pub returns-in_default : goal.returns-in_default
returns-in_default c =
    sym (number_of-apart c.args.text.now c.parse.result c.parse.ensures.value.0
    (λ n is e. c.in_default.not-Ok n is))

pub returns-then-eq : goal.returns-then-eq
returns-then-eq c =
    let same : c.format.result.now ≡ c.args.text.now =
    (bytes_eq-Decides _ _).0 (sym c.eq.ensures ∙ c.if-eq.true) in
    let small : c.in-Ok.number < 2 ^ 64 = omega (arith, c.in-Ok.ensures) in
    sym (number_of-decimal c.in-Ok.number small) ∙ ap number_of (sym c.format.ensures.text ∙ same)

pub returns-else-eq : goal.returns-else-eq
returns-else-eq c =
    sym (number_of-apart c.args.text.now c.parse.result c.parse.ensures.value.0 (λ n is e.
    let same : c.format.result.now ≡ c.args.text.now = cc in
    let no : bytes_eq c.format.result.now c.args.text.now ≡ true = (bytes_eq-Decides _ _).1 same in
    cc))
