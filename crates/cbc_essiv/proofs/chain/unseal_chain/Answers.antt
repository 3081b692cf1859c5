use Rattle.std.proofs.Common.{ℕ, List, ◌≡◌, ◌-◌, ◌*◌, ◌/◌, length, take, drop, ap, sym, ◌∙◌, arith}
use Rattle.std.proofs.Common.{length-drop}
use Rattle.std.proofs.lemmas.List.{take_all}
use Rattle.cipher_laws.specs.Pieces.{worked}
use Rattle.cipher_laws.specs.CipherBlocks.UnderWayLaws.{under_way_rest}
use Rattle.cbc_essiv.specs.Cbc.{unseal_after, cbc_opened}
use Rattle.cbc_essiv.proofs.chain.unseal_chain.Goals as goal

pub returns : goal.returns
unfolding cbc_opened
returns g c =
    let unseal = g.C.BlockCipher.opened c.args.cipher.now in
    let chain = c.unseal_eights-chain.result in
    let mid : List ℕ = c.unseal_eights-chain.new.sector in
    let done : ℕ = 128 * (length mid / 128) in
    let same : 128 * (length c.args.sector.now / 128) ≡ done =
    ap (λ (n : ℕ). 128 * (n / 128)) (sym c.unseal_eights-chain.auto.sector) in
    let way = rw same at c.unseal_eights-chain.ensures in
    let left : take (length mid - done) (drop done mid) ≡ drop done mid =
    take_all (length mid - done) (drop done mid) (omega (arith, length-drop done mid)) in
    let long : length (drop done mid) / 16 ≡ (length mid - done) / 16 =
    ap (λ (n : ℕ). n / 16) (length-drop done mid) in
    let rest =
    c.unseal_each.ensures ∙ ap (cbc_opened unseal chain) left
    ∙ ap (λ (n : ℕ). worked (unseal_after unseal) (λ _ sealed _. sealed) 16 chain n (drop done mid))
    long in
    under_way_rest way (length mid - done) c.unseal_each.new.sector (omega arith) rest
