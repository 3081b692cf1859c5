-- What a header that was loaded lacks for those to follow, by what it means.
use Rattle.std.proofs.Common.{ℕ, ◌≡◌, ◌+◌, ◌-◌, ◌<◌, ◌≤◌, refl, sym, ◌∙◌, ap, arith}
use Rattle.luks_store.specs.Copying.Meanings.{meaning_of, seqid_in}
use Rattle.luks_store.specs.Copying.Steps.{last_seqid, longest_text}
use Rattle.luks_store.proofs.GivenLemmas.{numbered-by, sized-by}
use Rattle.luks_store.specs.Loads.{IsStored}
use Rattle.luks_store.specs.declared.loaded.Stored.{Stored}
use Rattle.volume_machine.specs.WorkSteps.{Lacks, no_number, no_room}
use Rattle.hotzone.specs.ZoneEvents.Heads.{header_on}
use Rattle.hotzone.specs.ZoneEvents.Readings.{reading_of, room_in}

module _ (before : Stored) (stored : IsStored before) where
  number-is : seqid_in (meaning_of before.copies.used.bytes) ≡ before.copies.used.header.seqid
  number-is =
      numbered-by before.copies.used.header.hdr_offset before.copies.used
      (record { whole = stored.copies.whole; here = refl })

  room-is : room_in (meaning_of before.copies.used.bytes) ≡ longest_text before.copies.used.header
  unfolding room_in
  room-is =
      ap (λ n. n - 4097)
      (sized-by before.copies.used.header.hdr_offset before.copies.used
      (record { whole = stored.copies.whole; here = refl }))

  pub lacks-number : (count left needed : ℕ)
      → before.copies.used.header.seqid + left ≡ last_seqid → needed ≡ count → left < needed
      → Lacks (reading_of before.valid.sizes) (header_on before) count (no_number left needed)
  lacks-number count left needed last is fewer = (ap (λ n. n + left) number-is ∙ last, is, fewer)

  pub lacks-room : (count len limit : ℕ) → limit ≡ longest_text before.copies.used.header
      → limit < len → before.copies.used.header.seqid + count ≤ last_seqid
      → Lacks (reading_of before.valid.sizes) (header_on before) count (no_room len limit)
  lacks-room count len limit is longer enough =
      (let number = number-is in omega (arith, number, enough), is ∙ sym room-is, longer)
