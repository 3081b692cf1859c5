use Rattle.std.proofs.Common.{◌∙◌, ap, bit_xor}
use Rattle.aes_core.specs.Boxes.{inverse_s_box}
use Rattle.aes_core.specs.State.{inverse_sub_bytes}
use Rattle.aes_core.specs.Planes.{translated}
use Rattle.aes_core.specs.Circuit.{inverse_forms, inversion, inverse_sums}
use Rattle.aes_core.proofs.ByteLemmas.{byte_from_bits, inverse_s_box_circuit, state_substituted}
use Rattle.aes_core.proofs.s_box.inverse_sub_bytes.Goals as goal

pub returns : goal.returns
unfolding inverse_sub_bytes translated
returns c k =
    state_substituted (λ v. inverse_s_box (bit_xor v 0x63)) k c.args.state c.inverse_sums.result
    (λ p.
    byte_from_bits (λ bits. inverse_sums (inversion (inverse_forms bits)))
    (λ v. inverse_s_box (bit_xor v 0x63)) inverse_s_box_circuit k p c.args.state
    c.inverse_sums.result
    (c.inverse_sums.ensures k p
    ∙ ap inverse_sums (c.inversion.ensures k p ∙ ap inversion (c.inverse_forms.ensures k p))))
