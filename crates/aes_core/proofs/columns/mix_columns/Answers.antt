use Rattle.std.proofs.Common.{◌≡◌, ℕ, ◌+◌, ◌∙◌, ap, ap₂, bit_xor, arith}
use Rattle.aes_core.specs.Field.{times_x}
use Rattle.aes_core.specs.Planes.{byte_in, place}
use Rattle.aes_core.proofs.ByteLemmas.{byte_fits, state_of_columns, mixed_byte}
use Rattle.aes_core.proofs.columns.mix_columns.Goals as goal

pub returns : goal.returns
returns c k =
    state_of_columns 0x02 0x01 0x01 0x03 k c.args.state _ (λ row column.
    let byte : ℕ → ℕ = λ p. byte_in k p c.args.state in
    let pair : (r : ℕ)
    → byte_in k (place r column) c.bitxor-pairs.result
    ≡ bit_xor (byte (place r column)) (byte (place (r + 1) column)) =
    λ r. c.bitxor-pairs.ensures k (place r column)
    ∙ ap (bit_xor (byte (place r column))) (c.up_one-above.ensures k r column) in
    let three : row + 2 + 1 ≡ row + 3 = omega arith in
    c.bitxor-2.ensures k (place row column)
    ∙ ap₂ bit_xor
    (c.bitxor.ensures k (place row column)
    ∙ ap₂ bit_xor (c.times_x.ensures k (place row column) ∙ ap times_x (pair row))
    (c.up_one-above.ensures k row column))
    (c.up_two.ensures k row column ∙ pair (row + 2)
    ∙ ap (λ r. bit_xor (byte (place (row + 2) column)) (byte (place r column))) three)
    ∙ mixed_byte (byte (place row column)) (byte (place (row + 1) column))
    (byte (place (row + 2) column)) (byte (place (row + 3) column))
    (byte_fits k _ c.args.state) (byte_fits k _ c.args.state))
