use Rattle.std.proofs.Common.{◌≡◌, ◌*◌, ℕ, List, ◌++◌, length, take, drop}
use Rattle.std.proofs.Common.{replicate, ◌∙◌, sym, ap, arith}
use Rattle.std.proofs.Math.Seq.{take-append_seam}
use Rattle.std.proofs.lemmas.Grind.{common_steps}
use Rattle.af_split.specs.Af.{split_of}
use Rattle.luks_slots.proofs.AreaLemmas.{area-padded, some-atom}
use Rattle.luks_slots.specs.NewSlots.{area_bytes, area_key_of, salt_len}
use Rattle.luks_slots.specs.Stripes.{rounded, sectors_len, split_len}
use Rattle.pbkdf2_hmac.specs.declared.Hash.TheVariants.{Sha256}
use Rattle.sector_cipher.specs.Context.{sealed_under}
use Rattle.sector_cipher.specs.declared.spec.Spec.TheVariants.{AesXtsPlain64}
use Rattle.luks_slots.proofs.new_slot.make_area.Goals as goal

pub returns-clause-bytes : goal.returns-clause-bytes
unfolding area_bytes
returns-clause-bytes c =
    let key = c.args.key.now in
    let drawn = c.args.drawn.now in
    let new = c.fill_area.new.area in
    let total : ℕ = c.div_ceil-2.result * c.args.atom in
    let n : ℕ = split_len (length key) in
    let stripes : List ℕ = split_of Sha256 key 4000 (drop salt_len drawn) in
    let sealed : List ℕ → List ℕ =
    sealed_under AesXtsPlain64 (area_key_of c.args.pass.now drawn c.args.rounds) 512 0 in
    let first : c.div_ceil.result * 512 ≡ sectors_len (length key) =
    ap (λ m. m * 512) c.div_ceil.ensures in
    let all : total ≡ rounded (rounded n 512) c.args.atom =
    ap (λ m. m * c.args.atom) c.div_ceil-2.ensures ∙ ap (λ m. rounded m c.args.atom) first in
    let zeros : c.as_mut_slice.result.now ≡ replicate total 0 =
    c.as_mut_slice.ensures.value ∙ c.in_ok-area.ensures in
    let long : length new ≡ total =
    c.fill_area.ensures.length ∙ ap length zeros ∙ grind (arith, common_steps) in
    let is : new ≡ sealed (take (sectors_len (length key)) (stripes ++ drop n (replicate total 0)))
    ++ drop (sectors_len (length key)) (replicate total 0) =
    c.fill_area.ensures.bytes
    ∙ ap (λ zs. sealed (take (sectors_len (length key)) (stripes ++ drop n zs))
    ++ drop (sectors_len (length key)) zs) zeros in
    let same : c.in_ok-area.area.len ≡ length new =
    sym (c.fill_area.ensures.length ∙ c.as_mut_slice.ensures.len) in
    ap (λ m. take m (new ++ drop (length new) c.in_ok-area.area.items)) same
    ∙ take-append_seam new (drop (length new) c.in_ok-area.area.items)
    ∙ area-padded sealed n c.args.atom total stripes new (some-atom c.args.atom c.requires.atom) all
    c.fill_area.ensures.size long is
