-- Each block of a new volume is held: its atom is what it was, and what the key unseals from it is
-- sealed to it again.
use Rattle.std.proofs.Common.{◌≡◌, ℕ, ◌+◌, ◌-◌, ◌*◌, ◌/◌, ◌%◌, ◌<◌, ◌≤◌, List, []}
use Rattle.std.proofs.Common.{length, take, drop}
use Rattle.std.proofs.Common.{sym, ◌∙◌, ap, subst, arith, length-drop}
use Rattle.std.proofs.lemmas.List.{drop-drop, length-take-le}
use Rattle.std.proofs.lemmas.List.FromFn.{get_or-map-range_with_len, length-map-range_with_len}
use Rattle.cipher_laws.specs.CipherBlocks.BytesLaws.{bytes-drop, bytes-take}
use Rattle.cipher_laws.specs.Bytes.{AreBytes, AreSectors}
use Rattle.base_terms.specs.declared.disk_sizes.Sizes.{Sizes}
use Rattle.sector_disk.specs.DiskViews.Parts.{AreBlocks, block_at, value_in}
use Rattle.luks_format.specs.Wishes.{FitsDisk}
use Rattle.luks_format.specs.declared.wish.Wish.{Wish}
use Rattle.luks_rules.specs.Areas.{main_bytes}
use Rattle.luks_slots.specs.Functions.{named_cipher}
use Rattle.image_laws.proofs.Made.PlacedLemmas.{block-begins, block-ends, place-in, placement, side-is}
use Rattle.image_laws.specs.Made.Standing.{block_count, content_of, first_atom, unsealed_block}
use Rattle.reenc_meta.specs.Placements.{all_atoms, base_of}
use Rattle.reenc_recovery.specs.Images.{HoldsBlock, HoldsBlocks, seals_in}
use Rattle.sector_cipher.specs.Context.{opened_under, sealed_under}
use Rattle.sector_cipher.specs.SectorLaws.{AreLawful}
use Rattle.segment_map.specs.declared.Side.{Side}
use Rattle.segment_map.specs.declared.map.Map.{Map}
use Rattle.volume_machine.specs.Pieces.{place_in}

-- ---- the content
pub content-size : (w : Wish) (sizes : Sizes) (key bytes : List ℕ)
    → length (content_of w sizes key bytes) ≡ block_count w sizes
unfolding content_of
content-size w sizes key bytes =
    length-map-range_with_len (unsealed_block w sizes key bytes) 0 (block_count w sizes)

content-at : (w : Wish) (sizes : Sizes) (key bytes : List ℕ) (b : ℕ) → b < block_count w sizes
    → value_in (content_of w sizes key bytes) b ≡ unsealed_block w sizes key bytes b
unfolding content_of
content-at w sizes key bytes b below =
    get_or-map-range_with_len (unsealed_block w sizes key bytes) 0 (block_count w sizes) b b []
    below (omega arith)

-- texts that are the same from a byte on have the same blocks there
same-block : (atom from k : ℕ) (xs ys : List ℕ) → from ≤ k * atom → drop from xs ≡ drop from ys
    → block_at atom xs k ≡ block_at atom ys k
same-block atom from k xs ys le same =
    let split : from + (k * atom - from) ≡ k * atom = omega (arith, le) in
    ap (take atom)
    (ap (λ n. drop n xs) (sym split) ∙ sym (drop-drop (k * atom - from) from xs)
    ∙ ap (drop (k * atom - from)) same ∙ drop-drop (k * atom - from) from ys
    ∙ ap (λ n. drop n ys) split)

module _ (w : Wish) (sizes : Sizes) (disk : FitsDisk w sizes)
    (begins : w.data_offset ≤ main_bytes sizes) (even : w.data_offset % sizes.atom ≡ 0)
    (key bytes image : List ℕ) (long : length bytes ≡ all_atoms sizes * sizes.atom)
    (of_bytes : AreBytes bytes) (from : ℕ)
    (before : from ≤ base_of sizes * sizes.atom + w.data_offset)
    (same : drop from image ≡ drop from bytes)
    (lawful : AreLawful w.sector_size
    (opened_under (named_cipher w.cipher) key w.sector_size)
    (sealed_under (named_cipher w.cipher) key w.sector_size)) where
  abbrev map : Map
  map = (placement w sizes disk begins).map

  -- the atom of a block, and the IV number of its first sector
  abbrev atom-of : ℕ → List ℕ
  atom-of b = block_at sizes.atom bytes (first_atom w sizes + b)

  abbrev number : ℕ → ℕ
  number b = b * (sizes.atom / 512)

  atom-size : (b : ℕ) → b < block_count w sizes → length (atom-of b) ≡ sizes.atom
  atom-size b below =
      let k : ℕ = first_atom w sizes + b in
      let ends = block-ends (base_of sizes) w.data_offset sizes.atom sizes.main_atoms b disk.atom
      even below in
      let left = length-drop (k * sizes.atom) bytes in
      length-take-le sizes.atom (drop (k * sizes.atom) bytes) (omega (arith, ends, left, long))

  are-sectors : (b : ℕ) → b < block_count w sizes → AreSectors w.sector_size (atom-of b)
  are-sectors b below = record {
    whole = ap (λ n. n % w.sector_size) (atom-size b below) ∙ disk.sector;
    are_bytes = bytes-take sizes.atom _ (bytes-drop _ bytes of_bytes);
  }

  are-blocks : (b : ℕ) → b < block_count w sizes
      → AreBlocks sizes.atom 1 (unsealed_block w sizes key bytes b)
  are-blocks b below = record {
    size = lawful.lengths (number b) (atom-of b) (are-sectors b below) ∙ atom-size b below
        ∙ omega arith;
    are_bytes = lawful.bytes (number b) (atom-of b) (are-sectors b below);
  }

  same-atom : (b : ℕ) → b < block_count w sizes
      → block_at sizes.atom image (place_in map b) ≡ atom-of b
  same-atom b below =
      let starts = block-begins (base_of sizes) w.data_offset sizes.atom b disk.atom even in
      ap (block_at sizes.atom image) (place-in w sizes disk begins b below)
      ∙ same-block sizes.atom from (first_atom w sizes + b) image bytes
      (omega (arith, before, starts)) same

  held : (b : ℕ) → b < block_count w sizes
      → HoldsBlock map (seals_in sizes.atom (placement w sizes disk begins) key key) b
      (unsealed_block w sizes key bytes b) (block_at sizes.atom image (place_in map b))
  held b below =
      let seals = seals_in sizes.atom (placement w sizes disk begins) key key in
      let value = unsealed_block w sizes key bytes b in
      let new = side-is w sizes disk begins b below in
      let at = same-atom b below in
      let none : 0 + number b ≡ number b = omega arith in
      record {
        sealed = (
          are-blocks b below,
          at ∙ sym (lawful.undone (number b) (atom-of b) (are-sectors b below))
              ∙ ap (λ n. sealed_under (named_cipher w.cipher) key w.sector_size n value) (sym none)
              ∙ ap (λ (side : Side). seals.sealed side b value) (sym new),
        );
        opened = ap (opened_under (named_cipher w.cipher) key w.sector_size (number b)) (sym at)
            ∙ ap (λ n. opened_under (named_cipher w.cipher) key w.sector_size n
            (block_at sizes.atom image (place_in map b))) (sym none)
            ∙ ap (λ (side : Side). seals.opened side b (block_at sizes.atom image (place_in map b)))
            (sym new);
      }

  pub all-held : HoldsBlocks sizes.atom (placement w sizes disk begins) key key image
      (content_of w sizes key bytes)
  all-held = record {
    count = content-size w sizes key bytes;
    blocks = λ b below. subst (λ (value : List ℕ). HoldsBlock map
        (seals_in sizes.atom (placement w sizes disk begins) key key) b value
        (block_at sizes.atom image (place_in map b)))
        (sym (content-at w sizes key bytes b below)) (held b below);
  }
