-- A new volume's bytes stand for what its key unseals from those that were there.
use Rattle.std.proofs.Common.{◌≡◌, inl, ℕ, ◌+◌, ◌*◌, ◌%◌, ◌≤◌, List, length, drop, Some}
use Rattle.std.proofs.Common.{Bool, true, false, option_and_then, sym, ◌∙◌, ap, subst, arith}
use Rattle.std.specs.Prelude.{if◌then◌else◌}
use Rattle.cipher_laws.specs.CipherBlocks.BytesLaws.{bytes-take}
use Rattle.cipher_laws.specs.Bytes.{AreBytes}
use Rattle.base_terms.specs.declared.disk_sizes.Sizes.{Sizes}
use Rattle.luks_format.proofs.DiskFormat.FrontLemmas.{data-begins}
use Rattle.luks_format.specs.DiskFormat.Calls.{FitsNew, WritesVolume}
use Rattle.luks_format.specs.DiskFormat.Fitting.{draw_of, metadata_of}
use Rattle.luks_format.specs.DiskFormat.Rests.{LeaveTheRest, end_of_front, front_room}
use Rattle.luks_format.specs.DiskFormat.Volumes.{IsNewVolume}
use Rattle.luks_format.specs.DiskFormat.Written.{AreOpened, AreWritten, OpensTo, written_over}
use Rattle.luks_format.specs.declared.format_disk.volume.NewVolume.{NewVolume}
use Rattle.sector_disk.specs.JoinedDisks.Counts.{HasSizes}
use Rattle.luks_format.proofs.SizeLemmas.{pages-whole, sector-some, sector-units}
use Rattle.luks_format.specs.Drawings.{drawn_by, drawn_len}
use Rattle.luks_format.specs.Wishes.{FitsDisk, IsWish}
use Rattle.luks_format.specs.declared.wish.Wish.{Wish}
use Rattle.luks_meta.specs.declared.digest.Digest.{Digest}
use Rattle.luks_meta.specs.declared.meta.Parts.{Parts}
use Rattle.luks_rules.specs.Areas.{header_bytes, main_bytes}
use Rattle.luks_slots.specs.Functions.{named_cipher}
use Rattle.luks_slots.specs.Unlocks.{key_of}
use Rattle.image_laws.proofs.Made.BlockLemmas.{all-held}
use Rattle.image_laws.proofs.Made.CipherLemmas.{seals-again}
use Rattle.image_laws.proofs.Made.PlacedLemmas.{is-placed, placement, segment}
use Rattle.image_laws.specs.Made.Standing.{NewVolumesStand, content_of}
use Rattle.reenc_meta.specs.Placements.{IsPlacementOf, all_atoms, base_of}
use Rattle.reenc_recovery.specs.Images.{StandsFor}
use Rattle.reenc_recovery.specs.Keys.{IsKeyOf, key_for}
use Rattle.reenc_recovery.specs.Placings.{RestsIn}
use Rattle.reenc_recovery.proofs.PlacingLemmas.{is_idle, rests_by}
use Rattle.sector_disk.specs.Devices.{Device, succeeded}
use Rattle.seed_stream.specs.Streams.{GoOn}

-- ---- what a header that opens gives
module _ (w : Wish) (sizes : Sizes) (pass seed image : List ℕ)
    (opens : OpensTo w sizes pass seed image) where
  abbrev key : List ℕ
  key = (draw_of w seed).key

  right-key : IsKeyOf opens.stored.valid.meta (segment w) key
  right-key =
      subst (λ (m : Parts). IsKeyOf m (segment w) key) (sym opens.meta)
      (opens.digest, opens.there, opens.same)

  found-key : key_for opens.stored.valid.meta image pass (segment w) ≡ Some key
  found-key =
      subst (λ (m : Parts). key_for m image pass (segment w) ≡ Some key) (sym opens.meta)
      (ap (option_and_then (λ (d : Digest). key_of (metadata_of w seed) d image pass)) opens.there
      ∙ opens.key)

-- ---- the whole
module _ (streams : GoOn) (rest : LeaveTheRest) (written : AreWritten) (opened : AreOpened)
    (w : Wish) (sizes : Sizes) (pass seed : List ℕ) (v : NewVolume) (old new : Device)
    (bytes : List ℕ) (wish : IsWish w) (disk : FitsDisk w sizes)
    (is : IsNewVolume w sizes pass seed v) (fits : FitsNew v old) (values : old.values ≡ Some bytes)
    (long : length bytes ≡ old.atoms * old.size) (of_bytes : AreBytes bytes)
    (made : WritesVolume v old new succeeded) where
  abbrev image : List ℕ
  image = written_over v bytes

  pub holds : new.values ≡ Some image
  holds = written w sizes pass seed v old new bytes wish disk is fits values long made

  all-bytes : length bytes ≡ all_atoms sizes * sizes.atom
  all-bytes =
      let has = subst (λ (s : Sizes). HasSizes s old) is.first.sizes_are fits.sizes in
      long ∙ ap (λ n. n * old.size) (sym has.all)
      ∙ ap (λ n. all_atoms sizes * n) (sym has.atom)

  even : w.data_offset % sizes.atom ≡ 0
  even = pages-whole w.data_offset sizes.atom disk.atom wish.page

  begins : w.data_offset ≤ main_bytes sizes
  begins = data-begins w sizes pass seed v wish disk is

  -- what is written ends in front of the first of the data's atoms
  room-by : (detached : Bool) → (if detached then header_bytes sizes else w.data_offset)
      ≤ (if detached then sizes.header_atoms else 0) * sizes.atom + w.data_offset
  room-by true = omega arith
  room-by false = omega arith

  before : end_of_front v ≤ base_of sizes * sizes.atom + w.data_offset
  before =
      let end = (rest w sizes pass seed v old new succeeded wish is made).0 in
      let room : front_room w sizes ≤ base_of sizes * sizes.atom + w.data_offset =
      rw disk.detached (room-by w.detached) in
      omega (arith, end, room)

  key-bytes : AreBytes (draw_of w seed).key
  unfolding drawn_by
  key-bytes = bytes-take w.key_size _ (streams.bytes seed (drawn_len w))

  same-rest : drop (end_of_front v) image ≡ drop (end_of_front v) bytes
  same-rest =
      let kept = (rest w sizes pass seed v old new succeeded wish is made).1 bytes values in
      let now : kept.0 ≡ image = (let e : Some kept.0 ≡ Some image = sym kept.1 ∙ holds in cc) in
      ap (drop (end_of_front v)) (sym now) ∙ kept.2

  -- its header places the volume, of which nothing is being converted
  placed-by : (opens : OpensTo w sizes pass seed image)
      → IsPlacementOf opens.stored.valid.meta sizes (placement w sizes disk begins)
  placed-by opens =
      subst (λ (m : Parts). IsPlacementOf m sizes (placement w sizes disk begins)) (sym opens.meta)
      (is-placed w sizes disk begins (draw_of w seed))

  pub rests : RestsIn sizes image
  rests =
      let opens = opened w sizes pass seed v bytes wish disk is in
      rests_by sizes image opens.stored opens.loaded
      (is_idle opens.stored.valid.meta sizes (placement w sizes disk begins) (placed-by opens))

  pub stands : StandsFor sizes pass image (content_of w sizes (draw_of w seed).key bytes)
  stands =
      let key = (draw_of w seed).key in
      let opens = opened w sizes pass seed v bytes wish disk is in
      let lawful = seals-again (named_cipher w.cipher) key w.sector_size key-bytes
      (record {
        some = sector-some w.sector_size wish.sector;
        units = sector-units w.sector_size wish.sector;
      }) in
      let right = right-key w sizes pass seed image opens in
      let found = found-key w sizes pass seed image opens in
      record {
        old = key;
        new = key;
        stands = record {
          stored = opens.stored;
          header = opens.loaded;
          placement = placement w sizes disk begins;
          placed = inl (placed-by opens);
          old_key = right;
          new_key = right;
          holds = all-held w sizes disk begins even key bytes image all-bytes of_bytes
              (end_of_front v) before same-rest lawful;
        };
        old_is = found;
        new_is = found;
      }

pub new-stands : GoOn → LeaveTheRest → AreWritten → AreOpened → NewVolumesStand
new-stands streams rest written opened w sizes pass seed v old new bytes wish disk is fits values
    long of_bytes made = (
      holds streams rest written opened w sizes pass seed v old new bytes wish disk is fits values
          long of_bytes made,
      stands streams rest written opened w sizes pass seed v old new bytes wish disk is fits values
          long of_bytes made,
      rests streams rest written opened w sizes pass seed v old new bytes wish disk is fits values
          long of_bytes made,
    )
