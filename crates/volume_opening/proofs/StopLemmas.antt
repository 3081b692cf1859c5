-- Each image that a stop leaves of a volume that a passphrase opened stands by itself.
use Rattle.std.proofs.Common.{◌≡◌, ◌≢◌, ◌∙◌, ℕ, zero, suc, ◌+◌, ◌*◌, ◌<◌, ◌≤◌, List, [], ◌∷◌}
use Rattle.std.proofs.Common.{length, take, drop, replicate, ap, sym, subst, refl, arith, inl, Ok}
use Rattle.std.proofs.Common.{Option, Some, None}
use Rattle.std.specs.Prelude.{option_and_then}
use Rattle.std.proofs.lemmas.List.{drop-take, take-take}
use Rattle.base_terms.specs.Blocks.{joined, lengths}
use Rattle.base_terms.specs.declared.disk_sizes.Sizes.{Sizes}
use Rattle.sector_disk.specs.DiskViews.Parts.{block_at, cell_in, value_in}
use Rattle.luks_meta.specs.declared.digest.Digest.{Digest}
use Rattle.luks_meta.specs.declared.meta.Parts.{Parts}
use Rattle.luks_meta.specs.declared.segment.Encryption.{Encryption}
use Rattle.luks_rules.specs.Areas.{areas_begin, areas_end, header_bytes}
use Rattle.luks_rules.specs.References.{value_at}
use Rattle.luks_rules.specs.States.{IsSound as HasRules}
use Rattle.luks_rules.specs.declared.extents.Extent.{Extent}
use Rattle.luks_slots.specs.Laws.{KeysAreInAreas}
use Rattle.luks_slots.specs.Unlocks.{key_of}
use Rattle.luks_store.specs.Devices.{front_of}
use Rattle.luks_store.specs.Loads.{stored_in}
use Rattle.luks_store.specs.Promises.{FrontsAreLoaded}
use Rattle.luks_store.specs.declared.copies.CopyState.TheVariants.{Lacking}
use Rattle.reenc_recovery.specs.Images.{HoldsBlock, StandsFor, seals_in}
use Rattle.reenc_recovery.specs.Keys.{key_by, key_for, used_by}
use Rattle.reenc_recovery.specs.Openings.{IsOpened}
use Rattle.segment_map.specs.declared.Side.{Side}
use Rattle.segment_map.specs.declared.Side.TheVariants.{New, Old, Zone}
use Rattle.sector_disk.specs.Cells.{Cell, currents}
use Rattle.sector_disk.specs.Geometry.{IsAtom}
use Rattle.segment_map.specs.declared.map.Map.{Map}
use Rattle.volume_laws.specs.Contents.{IsSealed}
use Rattle.volume_machine.specs.Pieces.{place_in, side_in}
use Rattle.volume_machine.specs.Seals.{AreLawful, Seals, seals_of}
use Rattle.volume_machine.specs.States.{State}
use Rattle.volume_machine.specs.declared.keys.Keys.{Keys}
use Rattle.volume_opening.proofs.FrontLemmas.{atom_is, front_is}

-- ---- a content, value by value
unfoldable pub values_from : (ℕ → List ℕ) → ℕ → ℕ → List (List ℕ)
values_from value first zero = []
values_from value first (suc n) = value first ∷ values_from value (suc first) n

length-from : (value : ℕ → List ℕ) (first n : ℕ) → length (values_from value first n) ≡ n
unfolding values_from
length-from value first zero = refl
length-from value first (suc n) = ap (λ k. suc k) (length-from value (suc first) n)

value-from : (value : ℕ → List ℕ) (first n b : ℕ) → b < n
    → value_in (values_from value first n) b ≡ value (first + b)
unfolding values_from
value-from value first zero b below = absurd (omega (arith, below))
value-from value first (suc n) zero below = ap value (omega arith)
value-from value first (suc n) (suc b) below =
    value-from value (suc first) n b (omega (arith, below)) ∙ ap value (omega arith)

-- ---- keys that two images give
and_then_same : (f g : Digest → Option (List ℕ)) → ((d : Digest) → f d ≡ g d)
    → (o : Option Digest) → option_and_then f o ≡ option_and_then g o
and_then_same f g same None = refl
and_then_same f g same (Some d) = same d

pub key_same : (m : Parts) (one other pass : List ℕ)
    → ((d : Digest) → key_of m d one pass ≡ key_of m d other pass)
    → (e : Option Encryption) (n : Option ℕ) → key_by m one pass e n ≡ key_by m other pass e n
key_same m one other pass same None n = refl
key_same m one other pass same (Some e) None = refl
key_same m one other pass same (Some e) (Some n) =
    and_then_same (λ d. key_of m d one pass) (λ d. key_of m d other pass) same
    (value_at m.digests n)

-- ---- texts that begin with the same bytes
-- the same in a shorter front, also of what a disk in front has of them
same_in_front : (m n : ℕ) (one other : List ℕ) → m ≤ n → take n one ≡ take n other
    → take m one ≡ take m other
same_in_front m n one other within same =
    sym (take-take m n one within) ∙ ap (λ xs. take m xs) same ∙ take-take m n other within

same_header : (m n room : ℕ) (one other : List ℕ) → m ≤ n → m ≤ room
    → take n one ≡ take n other → take m (take room one) ≡ take m (take room other)
same_header m n room one other within fits same =
    take-take m room one fits ∙ same_in_front m n one other within same
    ∙ sym (take-take m room other fits)

same_behind : (begin size : ℕ) (one other : List ℕ)
    → take (begin + size) one ≡ take (begin + size) other
    → take size (drop begin one) ≡ take size (drop begin other)
same_behind begin size one other same =
    sym (drop-take begin size one) ∙ ap (λ xs. drop begin xs) same ∙ drop-take begin size other

-- ---- one cipher under two names, from IV numbers that are the same
by_tweak : (one other : ℕ → List ℕ → List ℕ) (t u n : ℕ) (bytes : List ℕ)
    → ((first : ℕ) (bytes : List ℕ) → one first bytes ≡ other first bytes) → t ≡ u
    → one (t + n) bytes ≡ other (u + n) bytes
by_tweak one other t u n bytes same is =
    same (t + n) bytes ∙ ap (λ k. other (k + n) bytes) is

-- ---- an image
module _ {C : Type 0} (sector : C → ℕ) (sealed opened : C → ℕ → List ℕ → List ℕ) (sizes : Sizes)
    (key : Option (List ℕ)) (now : List ℕ) (volume : State (Keys C))
    (is : IsOpened sector sealed opened sizes key now volume) where
  abbrev seals : Seals
  seals = seals_of sealed opened volume.map.atom volume.keys

  abbrev meta : Parts
  meta = is.stored.valid.meta

  abbrev as_segments : Seals
  as_segments = seals_in sizes.atom is.placement (used_by is.placement.old.encryption key)
      (used_by is.placement.new.encryption key)

  -- the volume's seals are those of its segments
  same_sealed : (side : Side) (b : ℕ) (bytes : List ℕ)
      → (seals_of sealed opened sizes.atom volume.keys).sealed side b bytes
      ≡ as_segments.sealed side b bytes
  same_sealed Old b bytes = by_tweak (sealed volume.keys.old) _ _ _ _ bytes is.opening.old.seals
      is.opening.old_tweak
  same_sealed Zone b bytes = by_tweak (sealed volume.keys.old) _ _ _ _ bytes is.opening.old.seals
      is.opening.old_tweak
  same_sealed New b bytes = by_tweak (sealed volume.keys.new) _ _ _ _ bytes is.opening.new.seals
      is.opening.new_tweak

  same_opened : (side : Side) (b : ℕ) (bytes : List ℕ)
      → (seals_of sealed opened sizes.atom volume.keys).opened side b bytes
      ≡ as_segments.opened side b bytes
  same_opened Old b bytes = by_tweak (opened volume.keys.old) _ _ _ _ bytes is.opening.old.opens
      is.opening.old_tweak
  same_opened Zone b bytes = by_tweak (opened volume.keys.old) _ _ _ _ bytes is.opening.old.opens
      is.opening.old_tweak
  same_opened New b bytes = by_tweak (opened volume.keys.new) _ _ _ _ bytes is.opening.new.opens
      is.opening.new_tweak

  -- what the volume's seals hold in an atom the segments' hold there
  by_segments : (image : List ℕ) (b : ℕ) (value : List ℕ)
      → HoldsBlock volume.map seals b value
      (block_at volume.map.atom image (place_in volume.map b))
      → HoldsBlock is.placement.map (seals_in sizes.atom is.placement
      (used_by is.placement.old.encryption key) (used_by is.placement.new.encryption key)) b value
      (block_at sizes.atom image (place_in is.placement.map b))
  by_segments image b value held =
      let p = is.placement in
      let moved =
      subst (λ (m : Map). HoldsBlock m (seals_of sealed opened m.atom volume.keys) b value
      (block_at m.atom image (place_in m b))) is.map held in
      let sized =
      subst (λ (a : ℕ). HoldsBlock p.map (seals_of sealed opened a volume.keys) b value
      (block_at a image (place_in p.map b))) is.opening.right.atom moved in
      let atom = block_at sizes.atom image (place_in p.map b) in
      record {
        sealed = (
          sized.sealed.0,
          sized.sealed.1 ∙ same_sealed (side_in p.map b) b value,
        );
        opened = sized.opened ∙ same_opened (side_in p.map b) b atom;
      }

  module _ (n : ℕ) (before : List Cell) (image : List (List ℕ))
      (lawful : AreLawful volume.map.atom seals) (some : 0 < volume.map.atom) (even : lengths (currents before) ≡ replicate n volume.map.atom)
      (held : (b : ℕ) → b < volume.map.blocks → (value : List ℕ)
      × IsSealed volume.map seals b value (value_in image (place_in volume.map b)))
      (kept : (place : ℕ) → ((b : ℕ) → b < volume.map.blocks → place_in volume.map b ≢ place)
      → value_in image place ≡ (cell_in before place).current)
      (within : (b : ℕ) → b < volume.map.blocks → place_in volume.map b < n)
      (end : areas_end meta.config ≤ n * volume.map.atom) where
    -- what the atoms of its blocks are opened to
    abbrev pub stopped : List (List ℕ)
    stopped = values_from
        (λ b. seals.opened (side_in volume.map b) b (value_in image (place_in volume.map b))) 0
        volume.map.blocks

    -- which are the values that they hold
    pub value_is : (b : ℕ) → b < volume.map.blocks → (value : List ℕ)
        → IsSealed volume.map seals b value (value_in image (place_in volume.map b))
        → value_in stopped b ≡ value
    value_is b below value sealed_is =
        value-from (λ b. seals.opened (side_in volume.map b) b
        (value_in image (place_in volume.map b))) 0 volume.map.blocks b below
        ∙ ap (λ k. seals.opened (side_in volume.map k) k (value_in image (place_in volume.map k)))
        (let e : 0 + b ≡ b = omega arith in e)
        ∙ ap (λ atom. seals.opened (side_in volume.map b) b atom) sealed_is.1
        ∙ lawful.opens_sealed (side_in volume.map b) b value sealed_is.0

    block_held : (b : ℕ) → b < volume.map.blocks
        → HoldsBlock volume.map seals b (value_in stopped b)
        (block_at volume.map.atom (joined image) (place_in volume.map b))
    block_held b below =
        let (value, sealed_is) = held b below in
        subst (λ atom. HoldsBlock volume.map seals b (value_in stopped b) atom)
        (sym (atom_is volume.map seals n image before some lawful even held kept
        (place_in volume.map b) (within b below)))
        (subst (λ v. HoldsBlock volume.map seals b v (value_in image (place_in volume.map b)))
        (sym (value_is b below value sealed_is))
        (record {
          sealed = sealed_is;
          opened = sym (ap (λ atom. seals.opened (side_in volume.map b) b atom) sealed_is.1
              ∙ lawful.opens_sealed (side_in volume.map b) b value sealed_is.0);
        }))

    -- it begins with what the disk held
    same : joined (currents before) ≡ now
        → take (areas_end meta.config) (joined image) ≡ take (areas_end meta.config) now
    same holds =
        front_is volume.map seals n image before some lawful even held kept
        (areas_end meta.config) end
        (λ b below. let fits : b < is.placement.map.blocks =
        subst (λ (m : Map). b < m.blocks) is.map below in
        subst (λ (m : Map). areas_end meta.config ≤ place_in m b * m.atom) (sym is.map)
        (is.opening.right.behind b fits))
        ∙ ap (λ xs. take (areas_end meta.config) xs) holds

    -- so it has the header that the disk had
    pub loads : joined (currents before) ≡ now
        → areas_begin meta.config ≡ 2 * is.stored.copies.used.header.hdr_size
        → areas_end meta.config ≤ header_bytes sizes
        → is.stored.copies.primary.state ≢ Lacking → FrontsAreLoaded
        → stored_in sizes (front_of sizes (joined image)) ≡ Ok is.stored
    loads holds begin room good fronts =
        let size = 2 * is.stored.copies.used.header.hdr_size in
        let short : size ≤ areas_end meta.config = omega (arith, begin) in
        fronts sizes (front_of sizes now) (front_of sizes (joined image)) is.stored is.header good
        (same_header size (areas_end meta.config) (header_bytes sizes) (joined image) now short
        (omega (arith, short, room)) (same holds))

    pub stands : (pass : List ℕ) → joined (currents before) ≡ now
        → areas_begin meta.config ≡ 2 * is.stored.copies.used.header.hdr_size
        → areas_end meta.config ≤ header_bytes sizes
        → is.stored.copies.primary.state ≢ Lacking → HasRules meta sizes → IsAtom sizes.atom
        → key_for meta now pass is.placement.old ≡ Some (used_by is.placement.old.encryption key)
        → key_for meta now pass is.placement.new ≡ Some (used_by is.placement.new.encryption key)
        → FrontsAreLoaded → KeysAreInAreas → StandsFor sizes pass (joined image) stopped
    stands pass holds begin room good sound atom old_key new_key fronts areas =
        let p = is.placement in
        let key_is : (e : Extent) → key_for meta (joined image) pass e ≡ key_for meta now pass e =
        λ e. key_same meta (joined image) now pass
        (λ d. areas meta sizes d (joined image) now pass sound atom
        (same_behind (areas_begin meta.config) meta.config.keyslots_size (joined image) now
        (same holds))) e.encryption e.digest in
        record {
          old = used_by p.old.encryption key;
          new = used_by p.new.encryption key;
          stands = record {
            stored = is.stored;
            header = loads holds begin room good fronts;
            placement = p;
            placed = inl is.opening.placed;
            old_key = is.opening.old_key;
            new_key = is.opening.new_key;
            holds = record {
              count = length-from (λ b. seals.opened (side_in volume.map b) b
                  (value_in image (place_in volume.map b))) 0 volume.map.blocks
                  ∙ ap (λ (m : Map). m.blocks) is.map;
              blocks = λ b below. by_segments (joined image) b (value_in stopped b)
                  (block_held b (subst (λ (m : Map). b < m.blocks) (sym is.map) below));
            };
          };
          old_is = key_is p.old ∙ old_key;
          new_is = key_is p.new ∙ new_key;
        }
