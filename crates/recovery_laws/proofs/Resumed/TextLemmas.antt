-- The text of a copy of a header: it is that of the other copy, moved to its place under its salt.
use Rattle.std.proofs.Common.{◌≡◌, ◌++◌, ◌∙◌, ◌+◌, ◌≤◌, ℕ, List, length, take, drop, ap, arith}
use Rattle.std.proofs.Common.{sym, append_assoc, length-drop, length-take-le}
use Rattle.std.proofs.lemmas.List.{drop-drop, take-append-drop}
use Rattle.std.proofs.lemmas.Nat.{be_bytes_8}
use Rattle.std.specs.Int.{to_be_bytes, w64}
use Rattle.base_terms.specs.Blocks.{pasted}
use Rattle.cipher_laws.specs.Bytes.{AreBytes}
use Rattle.sector_disk.proofs.DiskViews.Blockwise.{bytes-drop, bytes-take}
use Rattle.luks_bin.proofs.FieldLemmas.{size-least}
use Rattle.luks_bin.specs.Copies.{IsCopy}
use Rattle.luks_bin.specs.Fields.{field, u64_in}
use Rattle.luks_bin.specs.Shares.{Agree}
use Rattle.luks_bin.specs.Writing.{moved, own_pieces, paste_all, summed}
use Rattle.luks_bin.specs.declared.header.BinHeader.{BinHeader}
use Rattle.hotzone.proofs.ZoneEvents.HeadLemmas.{field-long, moved-same}

-- ---- bytes put where they stand
paste-own : (old : List ℕ) (at len : ℕ) → at + len ≤ length old
    → pasted old at (field at len old) ≡ old
unfolding pasted field
paste-own old at len within =
    let rest = drop at old in
    let there : len ≤ length rest = (let left = length-drop at old in omega (arith, within, left)) in
    let long : length (take len rest) ≡ len = length-take-le len rest there in
    let tail : drop (at + length (take len rest)) old ≡ drop len rest =
    ap (λ n. drop (at + n) old) long ∙ sym (drop-drop len at old) in
    append_assoc (take at old) (take len rest) (drop (at + length (take len rest)) old)
    ∙ ap (λ xs. take at old ++ (take len rest ++ xs)) tail
    ∙ ap (λ xs. take at old ++ xs) (take-append-drop len rest)
    ∙ take-append-drop at old

field-bytes : (at len : ℕ) (bytes : List ℕ) → AreBytes bytes → AreBytes (field at len bytes)
unfolding field
field-bytes at len bytes are = bytes-take len (drop at bytes) (bytes-drop at bytes are)

-- ---- a copy is itself moved to its own place
module _ (copy : List ℕ) (h : BinHeader) (is : IsCopy copy h) (are : AreBytes copy) where
  long : 16384 ≤ length copy
  long =
      let least = size-least h.hdr_size is.one_of_nine in
      let whole = is.whole in
      omega (arith, least, whole)

  number : to_be_bytes w64 h.hdr_offset ≡ field 256 8 copy
  unfolding u64_in
  number =
      be_bytes_8 (field 256 8 copy) h.hdr_offset (field-long 256 8 copy (omega (arith, long)))
      (field-bytes 256 8 copy are) (sym is.hdr_offset)

  own : paste_all (own_pieces h.hdr_offset h.salt) copy ≡ copy
  own =
      ap (λ bytes. pasted (pasted (pasted copy 0 bytes) 104 h.salt) 256 (to_be_bytes w64 h.hdr_offset))
      (sym is.magic)
      ∙ ap (λ bytes. pasted (pasted bytes 104 h.salt) 256 (to_be_bytes w64 h.hdr_offset))
      (paste-own copy 0 6 (omega (arith, long)))
      ∙ ap (λ bytes. pasted (pasted copy 104 bytes) 256 (to_be_bytes w64 h.hdr_offset)) (sym is.salt)
      ∙ ap (λ bytes. pasted bytes 256 (to_be_bytes w64 h.hdr_offset))
      (paste-own copy 104 64 (omega (arith, long)))
      ∙ ap (λ bytes. pasted copy 256 bytes) number
      ∙ paste-own copy 256 8 (omega (arith, long))

  sum-own : summed copy ≡ copy
  unfolding summed
  sum-own =
      ap (λ bytes. pasted copy 448 bytes) (sym is.csum) ∙ paste-own copy 448 64 (omega (arith, long))

  pub moved-own : moved h.hdr_offset h.salt copy ≡ copy
  unfolding moved
  moved-own = ap summed own ∙ sum-own

  pub salt-long : length h.salt ≡ 64
  salt-long = ap length (sym is.salt) ∙ field-long 104 64 copy (omega (arith, long))

  -- and so is what agrees with it, moved there
  pub text-moved-is : (used : List ℕ) → length copy ≡ length used → Agree copy used
      → copy ≡ moved h.hdr_offset h.salt used
  text-moved-is used even agree =
      sym moved-own
      ∙ moved-same h.hdr_offset h.salt copy used salt-long (omega (arith, long)) even agree
