use Rattle.std.proofs.Common.{◌≡◌, ℕ, ◌+◌, ◌-◌, ◌*◌, ◌/◌, ◌%◌, ◌<◌, ◌≤◌, ◌^◌, List, length, take}
use Rattle.std.proofs.Common.{drop, ap, sym, subst, ◌∙◌, arith}
use Rattle.std.proofs.Math.Nat.{mul-mod_left, mul-div_cancel}
use Rattle.cipher_laws.specs.Pieces.{worked}
use Rattle.cipher_laws.specs.Sectors.{by_sectors}
use Rattle.cipher_laws.specs.CipherBlocks.UnderWay.{IsUnderWay}
use Rattle.cipher_laws.specs.CipherBlocks.UnderWayLaws.{under_way_rest}
use Rattle.cbc_essiv.specs.Cbc.{cbc_essiv_sealed, essiv}
use Rattle.cbc_essiv.proofs.RowLemmas.{rest_alone, length-rest, sectors_left, rest_in_range}
use Rattle.cbc_essiv.proofs.RowLemmas.{fits_in}
use Rattle.cbc_essiv.proofs.mode.CbcEssivSectorMode.seal_sectors.Goals as goal

pub change_sectors-requires-clause-whole : goal.change_sectors-requires-clause-whole
change_sectors-requires-clause-whole g c =
    let size = c.args.size in
    let mid : List ℕ = c.seal_eights-number.new.bytes in
    let n : ℕ = 8 * (length mid / size / 8) in
    let whole : length mid % size ≡ 0 =
    ap (λ (k : ℕ). k % size) c.seal_eights-number.auto.bytes ∙ c.requires.whole in
    ap (λ (l : List ℕ). length l % size) (rest_alone size n mid)
    ∙ ap (λ (k : ℕ). k % size) (length-rest size n mid c.requires.some whole (omega arith))
    ∙ mul-mod_left (length mid / size - n) size

pub change_sectors-requires-clause-in_range : goal.change_sectors-requires-clause-in_range
change_sectors-requires-clause-in_range g c =
    let size = c.args.size in
    let mid : List ℕ = c.seal_eights-number.new.bytes in
    let n : ℕ = 8 * (length mid / size / 8) in
    let rest : ℕ = length mid / size - n in
    let same : length mid ≡ length c.args.bytes.now = c.seal_eights-number.auto.bytes in
    let whole : length mid % size ≡ 0 = ap (λ (k : ℕ). k % size) same ∙ c.requires.whole in
    let within : n ≤ length mid / size = omega arith in
    let number_is : c.seal_eights-number.result ≡ c.args.first + n * (size / 512) =
    c.seal_eights-number.ensures.number_is
    ∙ ap (λ (k : ℕ). c.args.first + 8 * (k / size / 8) * (size / 512)) (sym same) in
    let split : length mid ≡ size * n + size * rest =
    omega (
      arith,
      sectors_left size (length mid) n c.requires.some whole within,
      fits_in size n (length mid) within,
    ) in
    let left : length (take (length mid - size * n) (drop (size * n) mid)) ≡ rest * size =
    ap length (rest_alone size n mid) ∙ length-rest size n mid c.requires.some whole within in
    subst (λ (k : ℕ). c.seal_eights-number.result + k / 512 < 2 ^ 64) (sym left)
    (rest_in_range size (length mid) c.args.first c.seal_eights-number.result n rest
    c.requires.units number_is split (omega (arith, same, c.requires.in_range)))

pub returns : goal.returns
unfolding by_sectors cbc_essiv_sealed essiv
returns g c =
    let size = c.args.size in
    let first = c.args.first in
    let number = c.seal_eights-number.result in
    let change =
    cbc_essiv_sealed (g.B.BlockCipher.sealed c.args.self.now.body)
    (g.B.BlockCipher.sealed c.args.self.now.iv) in
    let mid : List ℕ = c.seal_eights-number.new.bytes in
    let n : ℕ = 8 * (length mid / size / 8) in
    let left : List ℕ = drop (size * n) mid in
    let whole : length mid % size ≡ 0 =
    ap (λ (k : ℕ). k % size) c.seal_eights-number.auto.bytes ∙ c.requires.whole in
    let way : IsUnderWay change (λ s _ _. s + size / 512) size number (length mid / size - n)
    (size * n) (by_sectors change size first c.args.bytes.now) mid =
    subst (λ (long : ℕ). IsUnderWay change (λ s _ _. s + size / 512) size number
    (long / size - 8 * (long / size / 8)) (size * (8 * (long / size / 8)))
    (by_sectors change size first c.args.bytes.now) mid)
    (sym c.seal_eights-number.auto.bytes) c.seal_eights-number.ensures.way in
    let count : length left / size ≡ length mid / size - n =
    ap (λ (k : ℕ). k / size) (length-rest size n mid c.requires.some whole (omega arith))
    ∙ mul-div_cancel (length mid / size - n) c.requires.some in
    let rest =
    c.change_sectors.ensures ∙ ap (by_sectors change size number) (rest_alone size n mid)
    ∙ ap (λ (k : ℕ). worked change (λ s _ _. s + size / 512) size number k left) count in
    under_way_rest way (length mid - size * n) c.change_sectors.new.bytes (omega arith) rest
