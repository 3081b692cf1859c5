use Rattle.std.proofs.Common.{◌≡◌, ◌*◌, ℕ, List, ◌++◌, length, take, drop, ◌∙◌, sym, ap, arith}
use Rattle.af_split.specs.Af.{split_of}
use Rattle.luks_slots.proofs.AreaLemmas.{front-changed, sectors-room}
use Rattle.luks_slots.specs.NewSlots.{area_key_of, salt_len}
use Rattle.luks_slots.specs.Stripes.{sectors_len, split_len}
use Rattle.pbkdf2_hmac.specs.Pbkdf2.{derived_key}
use Rattle.pbkdf2_hmac.specs.declared.Hash.TheVariants.{Sha256}
use Rattle.sector_cipher.specs.Context.{sealed_under}
use Rattle.sector_cipher.specs.declared.spec.Spec.TheVariants.{AesXtsPlain64}
use Rattle.luks_slots.proofs.new_slot.fill_area.Goals as goal

pub returns-clause-bytes : goal.returns-clause-bytes
unfolding area_key_of
returns-clause-bytes c =
    let key = c.args.key.now in
    let drawn = c.args.drawn.now in
    let old = c.args.area.now in
    let new = c.put_stripes.new.area in
    let count : ℕ = c.div_ceil.result * 512 in
    let n : ℕ = split_len (length key) in
    let stripes : List ℕ = split_of Sha256 key 4000 (drop salt_len drawn) in
    let sealed : List ℕ → List ℕ =
    sealed_under AesXtsPlain64 (area_key_of c.args.pass.now drawn c.args.rounds) 512 0 in
    let is : new ≡ stripes ++ drop n old =
    c.put_stripes.ensures.stripes
    ∙ ap (λ d. split_of Sha256 key 4000 d ++ drop n old) c.split_at.ensures.back in
    let long : length stripes ≡ n =
    sym (ap (λ d. length (split_of Sha256 key 4000 d)) c.split_at.ensures.back)
    ∙ c.put_stripes.ensures.size in
    let whole : count ≡ sectors_len (length key) = ap (λ m. m * 512) c.div_ceil.ensures in
    let room = sectors-room n in
    let changed : c.seal_sectors.new.sectors ≡ sealed (take count new) =
    c.seal_sectors.ensures.sealed
    ∙ ap (λ salt. sealed_under AesXtsPlain64
    (derived_key Sha256 c.args.pass.now salt c.args.rounds 64) 512 0 (take count new))
    c.split_at.ensures.front in
    front-changed sealed n count stripes old new c.seal_sectors.new.sectors is long
    (omega (arith, whole, room)) changed
    ∙ ap (λ m. sealed (take m (stripes ++ drop n old)) ++ drop m old) whole
