-- A volume that was opened starts with the content that its disks' bytes stand for.
use Rattle.std.proofs.Common.{◌≡◌, inl, ℕ, zero, suc, ◌*◌, ◌%◌, ◌<◌, List, [], ◌∷◌, map, length}
use Rattle.std.proofs.Common.{Some}
use Rattle.std.proofs.Common.{Option, refl, sym, ◌∙◌, ap, subst}
use Rattle.std.proofs.lemmas.List.{length-map}
use Rattle.cipher_laws.specs.Bytes.{AreBytes}
use Rattle.base_terms.specs.declared.disk_sizes.Sizes.{Sizes}
use Rattle.sector_disk.specs.DiskViews.Parts.{block_at, value_in}
use Rattle.plain_disk.specs.Plain.{Block}
use Rattle.reenc_recovery.specs.Images.{HoldsBlock, seals_in}
use Rattle.reenc_recovery.specs.Keys.{used_by}
use Rattle.reenc_recovery.specs.Openings.{IsOpened, StartsAsImage}
use Rattle.reenc_recovery.proofs.CipherLemmas.{keys_fit, same_opened, same_sealed}
use Rattle.sector_disk.specs.Geometry.{IsAtom}
use Rattle.segment_map.specs.declared.map.Map.{Map}
use Rattle.volume_laws.specs.Contents.{block_in, opened_blocks}
use Rattle.volume_laws.specs.Promises.{Starts}
use Rattle.volume_machine.specs.Beginnings.{IsFresh}
use Rattle.volume_machine.specs.Pieces.{place_in, side_in}
use Rattle.volume_machine.specs.Seals.{AreLawful, Seals, seals_of}
use Rattle.volume_machine.specs.Sound.{AreApart, IsSound}
use Rattle.volume_machine.specs.States.{State}
use Rattle.volume_machine.specs.declared.keys.Keys.{Keys}

-- the newest values of blocks
abbrev newest_of : List Block → List (List ℕ)
newest_of blocks = map (λ block. block.newest) blocks

newest_in : (blocks : List Block) (b : ℕ) → value_in (newest_of blocks) b
    ≡ (block_in blocks b).newest
newest_in [] b = refl
newest_in (block ∷ blocks) zero = refl
newest_in (block ∷ blocks) (suc b) = newest_in blocks b

-- ---- the laws of volumes that are cited
abbrev pub SealLawfully : {C : Type 0} → (C → ℕ) → (C → ℕ → List ℕ → List ℕ)
    → (C → ℕ → List ℕ → List ℕ) → Type 0
SealLawfully {C} sector sealed opened = (keys : Keys C) (atom : ℕ) → IsAtom atom
    → atom % sector keys.old ≡ 0 → atom % sector keys.new ≡ 0
    → AreLawful atom (seals_of sealed opened atom keys)

abbrev pub VolumesStart : Type 0 → Type 0
VolumesStart C = (start : State (Keys C)) (seals : Seals) (bytes : List ℕ) → IsSound start
    → IsFresh start → AreApart start.map → AreLawful start.map.atom seals
    → start.disk.values ≡ Some bytes → length bytes ≡ start.disk.atoms * start.map.atom
    → AreBytes bytes → Starts start seals (opened_blocks start.map seals bytes) bytes

-- a block of a volume that starts, opened, is what it holds
held_block : {K : Type 0} (start : State K) (seals : Seals) (blocks : List Block) (bytes : List ℕ)
    (b : ℕ) → Starts start seals blocks bytes → b < start.map.blocks
    → HoldsBlock start.map seals b (value_in (newest_of blocks) b)
    (block_at start.map.atom bytes (place_in start.map b))
held_block start seals blocks bytes b starts below =
    let stands = starts.stands b below in
    rw (newest_in blocks b) (record {
      sealed = stands;
      opened = sym (starts.lawful.opens_sealed (side_in start.map b) b _ stands.0)
          ∙ ap (λ atom. seals.opened (side_in start.map b) b atom) (sym stands.1);
    })

-- under other words for the same seals
same_block : (map : Map) (one other : Seals) (b : ℕ) (value atom : List ℕ)
    → one.sealed (side_in map b) b value ≡ other.sealed (side_in map b) b value
    → one.opened (side_in map b) b atom ≡ other.opened (side_in map b) b atom
    → HoldsBlock map one b value atom → HoldsBlock map other b value atom
same_block map one other b value atom seal unseal holds = record {
  sealed = (holds.sealed.0, holds.sealed.1 ∙ seal);
  opened = holds.opened ∙ unseal;
}

module _ {C : Type 0} (sector : C → ℕ) (sealed opened : C → ℕ → List ℕ → List ℕ) (sizes : Sizes)
    (key : Option (List ℕ)) (all : List ℕ) (volume : State (Keys C))
    (is : IsOpened sector sealed opened sizes key all volume) where
  lawful : SealLawfully sector sealed opened → IsSound volume
      → AreLawful volume.map.atom (seals_of sealed opened volume.map.atom volume.keys)
  lawful keys_seal sound =
      let fit = keys_fit sector sealed opened is.stored.valid.meta sizes key is.placement
      volume.keys is.opening in
      keys_seal volume.keys volume.map.atom sound.fits.known
      (subst (λ (m : Map). m.atom % sector volume.keys.old ≡ 0) (sym is.map) fit.old_sector)
      (subst (λ (m : Map). m.atom % sector volume.keys.new ≡ 0) (sym is.map) fit.new_sector)

  -- a block that the volume's seals hold is one that the segments' hold
  by_segments : (b : ℕ) (value : List ℕ)
      → HoldsBlock volume.map (seals_of sealed opened volume.map.atom volume.keys) b value
      (block_at volume.map.atom all (place_in volume.map b))
      → HoldsBlock is.placement.map (seals_in sizes.atom is.placement
      (used_by is.placement.old.encryption key) (used_by is.placement.new.encryption key)) b value
      (block_at sizes.atom all (place_in is.placement.map b))
  by_segments b value held =
      let p = is.placement in
      let moved =
      subst (λ (m : Map). HoldsBlock m (seals_of sealed opened m.atom volume.keys) b value
      (block_at m.atom all (place_in m b))) is.map held in
      let sized =
      subst (λ (a : ℕ). HoldsBlock p.map (seals_of sealed opened a volume.keys) b value
      (block_at a all (place_in p.map b))) is.opening.right.atom moved in
      same_block p.map (seals_of sealed opened sizes.atom volume.keys)
      (seals_in sizes.atom p (used_by p.old.encryption key) (used_by p.new.encryption key)) b value
      (block_at sizes.atom all (place_in p.map b))
      (same_sealed sector sealed opened is.stored.valid.meta sizes key p volume.keys is.opening
      sizes.atom (side_in p.map b) b value)
      (same_opened sector sealed opened is.stored.valid.meta sizes key p volume.keys is.opening
      sizes.atom (side_in p.map b) b (block_at sizes.atom all (place_in p.map b)))
      sized

  starts_by : (seals : Seals) (blocks : List Block)
      → seals ≡ seals_of sealed opened volume.map.atom volume.keys
      → Starts volume seals blocks all → StartsAsImage sealed opened sizes key all volume
  starts_by seals blocks same starts =
      let p = is.placement in
      let begun = subst (λ (s : Seals). Starts volume s blocks all) same starts in
      record {
        content = newest_of blocks;
        old = used_by p.old.encryption key;
        new = used_by p.new.encryption key;
        stands = record {
          stored = is.stored;
          header = is.header;
          placement = p;
          placed = inl is.opening.placed;
          old_key = is.opening.old_key;
          new_key = is.opening.new_key;
          holds = record {
            count = length-map blocks _ ∙ starts.are.count ∙ ap (λ (m : Map). m.blocks) is.map;
            blocks = λ b below. by_segments b (value_in (newest_of blocks) b)
                (held_block volume (seals_of sealed opened volume.map.atom volume.keys) blocks all b
                begun (subst (λ (m : Map). b < m.blocks) (sym is.map) below));
          };
        };
        old_is = refl;
        new_is = refl;
        blocks = blocks;
        starts = begun;
        newest = λ b below. newest_in blocks b;
      }

  pub starts_as_image : SealLawfully sector sealed opened → VolumesStart C → IsSound volume
      → IsFresh volume → volume.disk.values ≡ Some all
      → length all ≡ volume.disk.atoms * volume.map.atom → AreBytes all
      → StartsAsImage sealed opened sizes key all volume
  starts_as_image keys_seal start sound fresh values long bytes =
      let seals = seals_of sealed opened volume.map.atom volume.keys in
      starts_by seals (opened_blocks volume.map seals all) refl
      (start volume seals all sound fresh
      (subst (λ (m : Map). AreApart m) (sym is.map) is.opening.right.apart)
      (lawful keys_seal sound) values long bytes)
