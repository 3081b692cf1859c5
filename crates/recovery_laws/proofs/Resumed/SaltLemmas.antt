-- The salts that a header has for the places of its copies, and the copy that stands beside the one
-- that is used.
use Rattle.std.proofs.Common.{◌≡◌, ◌≢◌, ◌∙◌, ℕ, List, length, drop, Result, Ok, Err, ap, refl, subst, sym, arith}
use Rattle.luks_bin.proofs.FieldLemmas.{size-least}
use Rattle.luks_bin.specs.Copies.{IsCopy}
use Rattle.luks_bin.specs.declared.header.BinFault.{BinFault}
use Rattle.luks_bin.specs.declared.header.BinHeader.{BinHeader}
use Rattle.luks_store.specs.Copying.Meanings.{meaning_of}
use Rattle.luks_store.proofs.CopyLemmas.{Spelt}
use Rattle.luks_store.proofs.GivenLemmas.{Newer, are_other, are_same, copy-whole, is_first, is_second}
use Rattle.luks_store.proofs.GivenLemmas.{newer, ok-is}
use Rattle.luks_store.proofs.PlaceLemmas.{alone, first-is, places}
use Rattle.luks_store.specs.Commits.{AreGood}
use Rattle.luks_store.specs.Found.{copy_at}
use Rattle.luks_store.specs.Used.{beside, copies_by, copies_in, nearest, newer_of}
use Rattle.luks_store.specs.declared.copies.Copies.{Copies}
use Rattle.luks_store.specs.declared.copies.CopyState.TheVariants.{Good, Lacking, Older}
use Rattle.luks_store.specs.declared.copies.HeaderCopy.{HeaderCopy}
use Rattle.hotzone.proofs.ZoneEvents.HeadLemmas.{field-long}

-- a good copy stands at the place of the secondary, under the salt that the header has for it
pub record StandsBeside (bytes : List ℕ) (copies : Copies) : Type 0 where
  pub second : HeaderCopy
  pub at : copy_at copies.used.header.hdr_size bytes ≡ Ok second
  pub salt : second.header.salt ≡ copies.secondary.salt
  pub means : meaning_of second.bytes ≡ meaning_of copies.used.bytes

pub record HasSalts (bytes : List ℕ) (copies : Copies) : Type 0 where
  pub first_long : length copies.primary.salt ≡ 64
  pub second_long : length copies.secondary.salt ≡ 64
  pub first : copies.primary.state ≡ Good → copies.used.header.salt ≡ copies.primary.salt
  pub second : copies.primary.state ≢ Good → copies.used.header.salt ≡ copies.secondary.salt
  pub both : AreGood copies → StandsBeside bytes copies

-- ---- a salt has 64 bytes
salt-of : (copy : List ℕ) (h : BinHeader) → IsCopy copy h → length h.salt ≡ 64
salt-of copy h is =
    let least = size-least h.hdr_size is.one_of_nine in
    let whole = is.whole in
    ap length (sym is.salt) ∙ field-long 104 64 copy (omega (arith, least, whole))

salt-at : Spelt → (place : ℕ) (bytes : List ℕ) (copy : HeaderCopy) → copy_at place bytes ≡ Ok copy
    → length copy.header.salt ≡ 64
salt-at spelt place bytes copy at =
    salt-of copy.bytes copy.header (copy-whole spelt place (drop place bytes) copy at).whole

older-good : Older ≡ Good → ⊥
older-good e = cc

lacking-good : Lacking ≡ Good → ⊥
lacking-good e = cc

-- ---- the copies that bytes hold
salts-newer : Spelt → (bytes : List ℕ) (first second : HeaderCopy) (copies : Copies)
    → copy_at 0 bytes ≡ Ok first → copy_at first.header.hdr_size bytes ≡ Ok second
    → Newer first second → newer_of first second ≡ Ok copies → HasSalts bytes copies
salts-newer spelt bytes first second copies one two (is_first less is) used =
    subst (HasSalts bytes) (ok-is _ _ (sym is ∙ used)) (record {
      first_long = salt-at spelt 0 bytes first one;
      second_long = salt-at spelt first.header.hdr_size bytes second two;
      first = λ good. refl;
      second = λ bad. absurd (bad refl);
      both = λ good. absurd (older-good good.secondary);
    })
salts-newer spelt bytes first second copies one two (is_second less is) used =
    subst (HasSalts bytes) (ok-is _ _ (sym is ∙ used)) (record {
      first_long = salt-at spelt 0 bytes first one;
      second_long = salt-at spelt first.header.hdr_size bytes second two;
      first = λ good. absurd (older-good good);
      second = λ bad. refl;
      both = λ good. absurd (older-good good.primary);
    })
salts-newer spelt bytes first second copies one two (are_same equal same is) used =
    subst (HasSalts bytes) (ok-is _ _ (sym is ∙ used)) (record {
      first_long = salt-at spelt 0 bytes first one;
      second_long = salt-at spelt first.header.hdr_size bytes second two;
      first = λ good. refl;
      second = λ bad. absurd (bad refl);
      both = λ good. record { second = second; at = two; salt = refl; means = sym same };
    })
salts-newer spelt bytes first second copies one two (are_other equal other is) used = absurd cc

salts-beside : Spelt → (bytes : List ℕ) (first : HeaderCopy) (copies : Copies)
    → copy_at 0 bytes ≡ Ok first → (r : Result HeaderCopy BinFault)
    → copy_at first.header.hdr_size bytes ≡ r → beside first r ≡ Ok copies → HasSalts bytes copies
salts-beside spelt bytes first copies one (Ok second) at used =
    salts-newer spelt bytes first second copies one at (newer first second) used
salts-beside spelt bytes first copies one (Err fault) at used =
    subst (HasSalts bytes) (ok-is _ _ used) (record {
      first_long = salt-at spelt 0 bytes first one;
      second_long = salt-at spelt 0 bytes first one;
      first = λ good. refl;
      second = λ bad. absurd (bad refl);
      both = λ good. absurd (lacking-good good.secondary);
    })

salts-by : Spelt → (bytes : List ℕ) (copies : Copies) (r : Result HeaderCopy BinFault)
    → copy_at 0 bytes ≡ r → copies_by bytes r ≡ Ok copies → HasSalts bytes copies
salts-by spelt bytes copies (Ok first) at used =
    salts-beside spelt bytes first copies at (copy_at first.header.hdr_size bytes) refl used
salts-by spelt bytes copies (Err fault) at used =
    let (copy, found, same) = alone bytes fault copies (copy_at nearest bytes) refl used in
    let stands = (first-is spelt places bytes copy refl refl found).at in
    subst (HasSalts bytes) (sym same) (record {
      first_long = salt-at spelt copy.header.hdr_size bytes copy stands;
      second_long = salt-at spelt copy.header.hdr_size bytes copy stands;
      first = λ good. absurd (lacking-good good);
      second = λ bad. refl;
      both = λ good. absurd (lacking-good good.primary);
    })

pub has-salts : Spelt → (bytes : List ℕ) (copies : Copies) → copies_in bytes ≡ Ok copies
    → HasSalts bytes copies
unfolding copies_in
has-salts spelt bytes copies used = salts-by spelt bytes copies (copy_at 0 bytes) refl used
