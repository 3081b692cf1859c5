use Rattle.std.proofs.Common.{◌∙◌, ap, bit_xor}
use Rattle.aes_core.specs.Boxes.{s_box}
use Rattle.aes_core.specs.State.{sub_bytes}
use Rattle.aes_core.specs.Planes.{translated}
use Rattle.aes_core.specs.Circuit.{linear_forms, inversion, sums}
use Rattle.aes_core.proofs.ByteLemmas.{byte_from_bits, s_box_circuit, state_substituted}
use Rattle.aes_core.proofs.s_box.sub_bytes.Goals as goal

pub returns : goal.returns
unfolding sub_bytes translated
returns c k =
    state_substituted (λ v. bit_xor (s_box v) 0x63) k c.args.state c.sums.result (λ p.
    byte_from_bits (λ bits. sums (inversion (linear_forms bits))) (λ v. bit_xor (s_box v) 0x63)
    s_box_circuit k p c.args.state c.sums.result
    (c.sums.ensures k p
    ∙ ap sums (c.inversion.ensures k p ∙ ap inversion (c.linear_forms.ensures k p))))
