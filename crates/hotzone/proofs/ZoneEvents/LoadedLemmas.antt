-- The header that was loaded is one, once both places hold it.
use Rattle.std.proofs.Common.{◌≡◌, ◌∙◌, ◌⊎◌, inl, inr, ℕ, ◌≤◌, List, length, Some, Ok}
use Rattle.std.proofs.Common.{refl, sym, ap, subst, arith}
use Rattle.std.proofs.lemmas.List.{take_all}
use Rattle.crash_laws.specs.HeaderAreas.Headers.{Copy, IsHeader, byte_of, primary, secondary, text_of}
use Rattle.luks_bin.proofs.ReadLemmas.{spells}
use Rattle.luks_bin.proofs.WriteLemmas.{agree-moved, length-moved, moved-back}
use Rattle.luks_bin.specs.Copies.{IsCopy, copy_of}
use Rattle.luks_bin.specs.Writing.{moved}
use Rattle.luks_bin.specs.declared.header.BinHeader.{BinHeader}
use Rattle.luks_store.proofs.Copying.MeaningLemmas.{agreeing_means}
use Rattle.luks_store.specs.Copying.Meanings.{header_reader, meaning_at, meaning_if, meaning_of, size_in}
use Rattle.luks_store.specs.Loads.{IsStored}
use Rattle.luks_store.specs.declared.loaded.Stored.{Stored}
use Rattle.hotzone.proofs.ZoneEvents.TextLemmas.{size-meant, stored-long}
use Rattle.hotzone.specs.ZoneEvents.Heads.{header_on}

module _ (stored : Stored) (is : IsStored stored) where
  abbrev used : List ℕ
  used = stored.copies.used.bytes

  abbrev header : BinHeader
  header = stored.copies.used.header

  long : 4096 ≤ length used
  long =
      let whole = is.copies.whole.whole in
      let least = stored-long stored is in
      omega (arith, whole, least)

  read : copy_of header.hdr_offset used ≡ Ok header
  read =
      spells header.hdr_offset used header
      (let whole = is.copies.whole.whole in record {
        there = omega (arith, whole);
        here = refl;
        copy = subst (λ bytes. IsCopy bytes header)
            (sym (take_all header.hdr_size used (omega (arith, whole)))) is.copies.whole;
      })

  module _ (place : ℕ) (salt : List ℕ) (of : length salt ≡ 64)
      (at : (place ≡ 0) ⊎ (place ≡ header.hdr_size)) where
    sized : length (moved place salt used) ≡ header.hdr_size
    sized = length-moved place salt used of long ∙ is.copies.whole.whole

    means : meaning_of (moved place salt used) ≡ meaning_of used
    means =
        agreeing_means (moved place salt used) used (length-moved place salt used of long)
        (agree-moved place salt used of long)

    decoded : meaning_at place (moved place salt used) ≡ Some (meaning_of used)
    unfolding meaning_at
    decoded =
        ap (meaning_if (moved place salt used))
        (moved-back place header.hdr_offset salt used header of read is.copies.whole.whole at)
        ∙ ap (λ bytes. Some (meaning_of bytes))
        (take_all header.hdr_size (moved place salt used)
        (let size = sized in omega (arith, size)))
        ∙ ap (λ m. Some m) means

  module _ (first : length stored.copies.primary.salt ≡ 64)
      (second : length stored.copies.secondary.salt ≡ 64) where
    sizes : size_in (meaning_of used) ≡ header.hdr_size
    sizes = size-meant stored is

    valid : (copy : Copy)
        → meaning_at (byte_of (size_in (meaning_of used)) copy) (text_of (header_on stored) copy)
        ≡ Some (meaning_of used)
    valid primary = decoded 0 stored.copies.primary.salt first (inl refl)
    valid secondary =
        ap (λ n. meaning_at n (moved header.hdr_size stored.copies.secondary.salt used)) sizes
        ∙ decoded header.hdr_size stored.copies.secondary.salt second (inr refl)

    size : (copy : Copy)
        → length (text_of (header_on stored) copy) ≡ size_in (meaning_of used)
    size primary = sized 0 stored.copies.primary.salt first (inl refl) ∙ sym sizes
    size secondary =
        sized header.hdr_size stored.copies.secondary.salt second (inr refl) ∙ sym sizes

    pub loaded-header : IsHeader header_reader (header_on stored)
    loaded-header = record { valid = valid; size = size }
