-- The header behind a commit has the next number.
use Rattle.std.proofs.Common.{◌≡◌, ◌∙◌, ℕ, suc, ◌+◌, ◌*◌, ◌/◌, ◌%◌, ◌≤◌, length}
use Rattle.std.proofs.Common.{refl, sym, ap, subst, arith}
use Rattle.std.proofs.Math.Nat.{div-div-eq-div-mul}
use Rattle.std.specs.Int.{w64, from_be_bytes, to_be_bytes}
use Rattle.luks_bin.specs.Fields.{field, u64_in}
use Rattle.luks_bin.specs.Writing.{common, written}
use Rattle.luks_bin.specs.declared.header.BinHeader.{BinHeader}
use Rattle.luks_store.proofs.Copying.MeaningLemmas.{seqid_is}
use Rattle.luks_store.specs.Copying.Held.{primary_of}
use Rattle.luks_store.specs.Copying.Meanings.{meaning_of, seqid_in}
use Rattle.luks_meta.specs.declared.meta.Parts.{Parts}
use Rattle.luks_store.proofs.GivenLemmas.{numbered-by}
use Rattle.luks_store.specs.Commits.{IsNext, text_for}
use Rattle.luks_store.specs.Loads.{IsStored}
use Rattle.luks_store.specs.declared.commit.Prepared.{Prepared}
use Rattle.luks_store.specs.declared.loaded.Stored.{Stored}
use Rattle.hotzone.proofs.ZoneEvents.HeadLemmas.{common-long, common-number, field-long}
use Rattle.hotzone.proofs.ZoneEvents.HeadLemmas.{number-kept}
use Rattle.hotzone.proofs.ZoneEvents.TextLemmas.{next-long, stored-long}

-- ---- eight bytes of a number are it, or less
digits-less : (a b c d e f g h n p q r s t u v : ℕ) → n ≡ a + p * 256 → p ≡ b + q * 256
    → q ≡ c + r * 256 → r ≡ d + s * 256 → s ≡ e + t * 256 → t ≡ f + u * 256 → u ≡ g + v * 256
    → h ≤ v
    → h * 72057594037927936 + g * 281474976710656 + f * 1099511627776 + e * 4294967296
    + d * 16777216 + c * 65536 + b * 256 + a ≤ n
digits-less a b c d e f g h n p q r s t u v one two three four five six seven last =
    omega (arith, one, two, three, four, five, six, seven, last)

rest-of : (n p : ℕ) → n / p ≡ n / p % 256 + n / (p * 256) * 256
rest-of n p = omega (arith, div-div-eq-div-mul n p 256)

number-less : (n : ℕ) → from_be_bytes w64 (to_be_bytes w64 n) ≤ n
number-less n =
    let low : n ≡ n % 256 + n / 256 * 256 = omega arith in
    digits-less (n % 256) (n / 256 % 256) (n / 65536 % 256) (n / 16777216 % 256)
    (n / 4294967296 % 256) (n / 1099511627776 % 256) (n / 281474976710656 % 256)
    (n / 72057594037927936 % 256) n (n / 256) (n / 65536) (n / 16777216) (n / 4294967296)
    (n / 1099511627776) (n / 281474976710656) (n / 72057594037927936) low (rest-of n 256)
    (rest-of n 65536) (rest-of n 16777216) (rest-of n 4294967296) (rest-of n 1099511627776)
    (rest-of n 281474976710656) (omega arith)

-- ---- the number of a commit that follows a header
module _ (before : Stored) (parts : Parts) (p : Prepared) (stored : IsStored before)
    (next : IsNext before parts p) (salt : length before.copies.primary.salt ≡ 64) where
  least : 16384 ≤ p.header.hdr_size
  least =
      subst (λ n. 16384 ≤ n) (sym (ap (λ (h : BinHeader). h.hdr_size) next.header))
      (stored-long before stored)

  used-long : 512 ≤ length before.copies.used.bytes
  used-long =
      let whole = stored.copies.whole.whole in let enough = stored-long before stored in
      omega (arith, whole, enough)

  label : length p.header.label ≡ 48
  label =
      ap (λ (h : BinHeader). length h.label) next.header
      ∙ ap length (sym stored.copies.whole.label)
      ∙ field-long 24 48 before.copies.used.bytes (let enough = used-long in omega (arith, enough))

  uuid : length p.header.uuid ≡ 40
  uuid =
      ap (λ (h : BinHeader). length h.uuid) next.header
      ∙ ap length (sym stored.copies.whole.uuid)
      ∙ field-long 168 40 before.copies.used.bytes (let enough = used-long in omega (arith, enough))

  subsystem : length p.header.subsystem ≡ 48
  subsystem =
      ap (λ (h : BinHeader). length h.subsystem) next.header
      ∙ ap length (sym stored.copies.whole.subsystem)
      ∙ field-long 208 48 before.copies.used.bytes (let enough = used-long in omega (arith, enough))

  own-salt : length p.header.salt ≡ 64
  own-salt = ap (λ (h : BinHeader). length h.salt) next.header ∙ salt

  field-is : field 16 8 (primary_of p.copies) ≡ to_be_bytes w64 p.header.seqid
  unfolding written
  field-is =
      ap (field 16 8) next.bytes.first
      ∙ number-kept p.header.hdr_offset p.header.salt (common p.header (text_for parts)) own-salt
      (common-long p.header (text_for parts) label uuid subsystem least)
      ∙ common-number p.header (text_for parts) label uuid subsystem least

  number-is : seqid_in (meaning_of (primary_of p.copies))
      ≡ from_be_bytes w64 (to_be_bytes w64 p.header.seqid)
  unfolding u64_in
  number-is =
      seqid_is (primary_of p.copies)
      (let long = next-long before parts p stored next in let enough = stored-long before stored in
      omega (arith, long, enough))
      ∙ ap (from_be_bytes w64) field-is

  pub next-number : seqid_in (meaning_of (primary_of p.copies))
      ≡ suc (seqid_in (meaning_of before.copies.used.bytes))
  next-number =
      let is = number-is in
      let less = number-less p.header.seqid in
      let more = next.follows.0 in
      let one = ap (λ (h : BinHeader). h.seqid) next.header in
      let used = numbered-by before.copies.used.header.hdr_offset before.copies.used
      (record { whole = stored.copies.whole; here = refl }) in
      omega (arith, is, less, more, one, used)
