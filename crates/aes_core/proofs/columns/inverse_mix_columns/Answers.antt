use Rattle.std.proofs.Common.{◌≡◌, ℕ, ◌+◌, ◌∙◌, ap, bit_xor}
use Rattle.aes_core.specs.Field.{times_x}
use Rattle.aes_core.specs.State.{mix_columns, multiply_columns}
use Rattle.aes_core.specs.Planes.{byte_in, state_in, place}
use Rattle.aes_core.specs.Laws.Steps.{inverse_mix_columns_is_product}
use Rattle.aes_core.proofs.ByteLemmas.{byte_fits, state_block, state_of_columns, opposite_byte}
use Rattle.aes_core.proofs.columns.inverse_mix_columns.Goals as goal

pub returns : goal.returns
returns c k =
    let first : state_in k c.bitxor.result
    ≡ multiply_columns 0x05 0x00 0x04 0x00 (state_in k c.args.state) =
    state_of_columns 0x05 0x00 0x04 0x00 k c.args.state c.bitxor.result (λ row column.
    let byte : ℕ → ℕ = λ p. byte_in k p c.args.state in
    c.bitxor.ensures k (place row column)
    ∙ ap (bit_xor (byte (place row column)))
    (c.times_x-2.ensures k (place row column)
    ∙ ap times_x (c.times_x.ensures k (place row column)
    ∙ ap times_x (c.bitxor-opposite.ensures k (place row column)
    ∙ ap (bit_xor (byte (place row column))) (c.up_two.ensures k row column))))
    ∙ opposite_byte (byte (place row column)) (byte (place (row + 1) column))
    (byte (place (row + 2) column)) (byte (place (row + 3) column))
    (byte_fits k _ c.args.state) (byte_fits k _ c.args.state)) in
    c.mix_columns.ensures k ∙ ap mix_columns first
    ∙ inverse_mix_columns_is_product _ (state_block k c.args.state)
