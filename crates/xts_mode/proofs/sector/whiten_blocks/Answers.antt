use Rattle.std.proofs.Common.{ℕ, List, ◌≡◌, ◌-◌, ◌*◌, ◌/◌, length, take, drop, ap, sym, ◌∙◌, arith}
use Rattle.std.proofs.Common.{length-drop}
use Rattle.std.proofs.lemmas.List.{take_all}
use Rattle.cipher_laws.specs.Pieces.{worked}
use Rattle.cipher_laws.specs.CipherBlocks.UnderWayLaws.{under_way_rest}
use Rattle.xts_mode.specs.Xts.{doubled, whitened, xts_from}
use Rattle.xts_mode.proofs.sector.whiten_blocks.Goals as goal

pub returns : goal.returns
unfolding xts_from
returns g c =
    let change = g.C.BlockCipher.sealed c.args.cipher.now in
    let tweak = c.whiten_eights-tweak.result in
    let mid : List ℕ = c.whiten_eights-tweak.new.sector in
    let done : ℕ = 128 * (length mid / 128) in
    let same : 128 * (length c.args.sector.now / 128) ≡ done =
    ap (λ (n : ℕ). 128 * (n / 128)) (sym c.whiten_eights-tweak.auto.sector) in
    let way = rw same at c.whiten_eights-tweak.ensures in
    let left : take (length mid - done) (drop done mid) ≡ drop done mid =
    take_all (length mid - done) (drop done mid) (omega (arith, length-drop done mid)) in
    let long : length (drop done mid) / 16 ≡ (length mid - done) / 16 =
    ap (λ (n : ℕ). n / 16) (length-drop done mid) in
    let rest =
    c.whiten_each.ensures ∙ ap (xts_from change tweak) left
    ∙ ap (λ (n : ℕ). worked (whitened change) (λ t _ _. doubled t) 16 tweak n (drop done mid))
    long in
    under_way_rest way (length mid - done) c.whiten_each.new.sector (omega arith) rest
