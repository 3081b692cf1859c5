-- What an image stands for by its own header, as the volume's machine says it, is what it stands for by
-- the metadata of that header: of a conversion that is under way.
use Rattle.std.proofs.Common.{◌≡◌, ◌⊎◌, ◌∙◌, ◌+◌, ◌-◌, ◌*◌, ◌/◌, ◌<◌, ◌≤◌, inl, inr, ℕ, zero, suc, List, []}
use Rattle.std.proofs.Common.{◌∷◌, length, replicate, Some, Ok, ap, arith, refl, subst, sym, take, drop}
use Rattle.std.proofs.Math.Nat.{mul-le-mul_right}
use Rattle.std.proofs.lemmas.Bool.{cases_lt}
use Rattle.std.proofs.lemmas.Grind.{div_ceil_times}
use Rattle.std.proofs.lemmas.List.{drop_all}
use Rattle.std.specs.Int.{div_ceil}
use Rattle.base_terms.specs.Blocks.{joined, lengths}
use Rattle.base_terms.specs.declared.disk_sizes.Sizes.{Sizes}
use Rattle.sector_disk.specs.DiskViews.Parts.{AreBlocks, block_at, value_in}
use Rattle.crash_laws.specs.HeaderAreas.Areas.{text_from, text_in}
use Rattle.crash_laws.specs.HotZones.Standing.{Recovers, digest_at}
use Rattle.crash_laws.specs.HotZones.Zones.{checksum}
use Rattle.crash_laws.specs.HotZones.Zones.{Resilience as Kind}
use Rattle.hotzone.specs.Sites.{IsSaved}
use Rattle.luks_meta.specs.declared.reencrypt.Resilience.{Resilience as Guard}
use Rattle.luks_meta.specs.declared.reencrypt.Resilience.TheVariants.{Checksum, Datashift, Journal}
use Rattle.luks_rules.specs.Shapes.{progress_of}
use Rattle.luks_rules.specs.declared.shape.Progress.{Progress}
use Rattle.luks_store.proofs.SettledLemmas.{atom_of_joined, even_head, even_tail, none_even}
use Rattle.luks_store.specs.Devices.{front_of}
use Rattle.luks_store.specs.Loads.{stored_in}
use Rattle.luks_store.specs.declared.loaded.Stored.{Stored}
use Rattle.image_laws.proofs.Opened.AtomLemmas.{long-joined}
use Rattle.image_laws.proofs.Opened.TurnLemmas.{LiesBeside, LiesIn, beside-zone, map-side, zone-is-run}
use Rattle.image_laws.specs.Opened.Images.{HoldsOnSide, HoldsSaved, OpenStandsUnder, atom_in, sealed_both}
use Rattle.image_laws.specs.Opened.Images.{seals_at}
use Rattle.image_laws.specs.Opened.Zones.{guard_of, zone_of}
use Rattle.reenc_meta.specs.ConversionMaps.{IsMapAt}
use Rattle.reenc_recovery.specs.Images.{HoldsBlock, StandsUnder}
use Rattle.reenc_recovery.specs.Keys.{IsKeyOf}
use Rattle.recovery_laws.proofs.Resumed.DigestLemmas.{same-digest, same-text}
use Rattle.recovery_laws.proofs.Resumed.RangeLemmas.{OnOneSide}
use Rattle.segment_map.specs.Maps.{place_on}
use Rattle.segment_map.specs.declared.Side.{Side}
use Rattle.segment_map.specs.declared.Side.TheVariants.{New, Old, Zone}
use Rattle.segment_map.specs.declared.map.Map.{Map}
use Rattle.volume_laws.specs.Standing.{AtomStands, BlockStands, Content}
use Rattle.volume_laws.specs.Texts.{atoms_of}
use Rattle.volume_machine.specs.Pieces.{place_in, side_in}
use Rattle.volume_machine.specs.Saved.{saved_atoms, saved_hash}
use Rattle.volume_machine.specs.Seals.{AreLawful, Seals, seals_of}
use Rattle.volume_machine.specs.Working.{HasRoom}
use Rattle.volume_machine.specs.Works.{Work}
use Rattle.volume_machine.specs.declared.keys.Keys.{Keys}
use Rattle.hotzone.specs.ZoneEvents.Readings.{map_of, reading_of}
use Rattle.image_laws.proofs.Led.KeyLemmas.{same-opened, same-sealed}
use Rattle.image_laws.specs.Led.Keys.{AreCiphersOf}

-- ---- atoms
far-value : (image : List (List ℕ)) (atom n place : ℕ) → lengths image ≡ replicate n atom
    → n ≤ place → value_in image place ≡ []
unfolding lengths
far-value [] atom n place even far = refl
far-value (value ∷ image) atom zero place even far = cc
far-value (value ∷ image) atom (suc n) zero even far = absurd (omega (arith, far))
far-value (value ∷ image) atom (suc n) (suc place) even far =
    far-value image atom n place (let e : lengths image ≡ replicate n atom = cc in e)
    (omega (arith, far))

take-none : (n : ℕ) (bytes : List ℕ) → bytes ≡ [] → take n bytes ≡ []
take-none zero bytes is = refl
take-none (suc n) bytes is = rw is refl

pub long-value : (image : List (List ℕ)) (atom n place : ℕ) → lengths image ≡ replicate n atom
    → place < n → length (value_in image place) ≡ atom
unfolding lengths
long-value image atom zero place even below = absurd (omega (arith, below))
long-value [] atom (suc n) place even below = absurd (none_even atom n even)
long-value (value ∷ image) atom (suc n) zero even below = even_head atom n value image even
long-value (value ∷ image) atom (suc n) (suc place) even below =
    long-value image atom n place (even_tail atom n value image even) (omega (arith, below))

-- an atom of the bytes of an image is its value there, also where there is none
pub atom-at : (atom n : ℕ) (image : List (List ℕ)) (place : ℕ) → lengths image ≡ replicate n atom
    → block_at atom (joined image) place ≡ value_in image place
atom-at atom n image place even = elim (cases_lt place n) [
  | inl below ↦ atom_of_joined atom n image place even below
  | inr far ↦
      let long = long-joined atom n image even in
      let end : n * atom ≤ place * atom = mul-le-mul_right atom far in
      take-none atom (drop (place * atom) (joined image))
      (drop_all (place * atom) (joined image) (omega (arith, long, end)))
      ∙ sym (far-value image atom n place even far)
]

module _ {C : Type 0} (sector : C → ℕ) (sealed opened : C → ℕ → List ℕ → List ℕ) (sizes : Sizes)
    (keys : Keys C)
    (lawful : AreLawful sizes.atom (seals_of sealed opened sizes.atom keys)) (work : Work)
    (image : List (List ℕ)) (atoms blocks : ℕ) (even : lengths image ≡ replicate atoms sizes.atom)
    (held : Content) (content : List (List ℕ)) (long : length content ≡ blocks)
    (same : (b : ℕ) → b < blocks → held b ≡ value_in content b) (m : List ℕ)
    (count : (map_of sizes m).blocks ≡ blocks)
    (stands : (b : ℕ) → b < blocks → BlockStands (reading_of sizes) (map_of sizes m)
    (seals_of sealed opened sizes.atom keys) work (value_in image) held b) (c : Progress)
    (map_is : IsMapAt sizes c (map_of sizes m)) (old new : List ℕ)
    (are : AreCiphersOf sector sealed opened c old new keys) where
  abbrev map : Map
  map = map_of sizes m

  abbrev seals : Seals
  seals = seals_of sealed opened sizes.atom keys

  abbrev by : Seals
  by = seals_at sizes.atom c old new

  bytes-are : (b : ℕ) → b < blocks → AreBlocks sizes.atom 1 (value_in content b)
  bytes-are b below =
      subst (λ (a : ℕ). AreBlocks a 1 (value_in content b)) map_is.atom
      (subst (λ v. AreBlocks map.atom 1 v) (same b below) (stands b below).are)

  -- what is sealed on a side opens to what it was
  opens : (side : Side) (b : ℕ) → b < blocks
      → value_in content b ≡ by.opened side b (by.sealed side b (value_in content b))
  opens side b below =
      sym (lawful.opens_sealed side b (value_in content b) (bytes-are b below))
      ∙ same-opened sector sealed opened c old new keys are sizes.atom side b
      (seals.sealed side b (value_in content b))
      ∙ ap (λ text. by.opened side b text)
      (same-sealed sector sealed opened c old new keys are sizes.atom side b (value_in content b))

  -- ---- a block that lies in its place
  text-by : (b : ℕ) → b < blocks → (side : Side) → (side ≡ Zone → ⊥)
      → AtomStands (reading_of sizes) map seals work (value_in image) held b side
      → value_in image (place_on map b side) ≡ seals.sealed side b (value_in content b)
  text-by b below Old other is = is ∙ ap (λ v. seals.sealed Old b v) (same b below)
  text-by b below New other is = is ∙ ap (λ v. seals.sealed New b v) (same b below)
  text-by b below Zone other is = absurd (other refl)

  pub held-block : (b : ℕ) → b < blocks → (side_in map b ≡ Zone → ⊥)
      → HoldsBlock map by b (value_in content b) (block_at sizes.atom (joined image) (place_in map b))
  held-block b below other =
      let side = side_in map b in
      let text : block_at sizes.atom (joined image) (place_in map b)
      ≡ by.sealed side b (value_in content b) =
      atom-at sizes.atom atoms image (place_in map b) even
      ∙ text-by b below side other (stands b below).stands
      ∙ same-sealed sector sealed opened c old new keys are sizes.atom side b (value_in content b) in
      record {
        sealed = (
          subst (λ (a : ℕ). AreBlocks a 1 (value_in content b)) (sym map_is.atom) (bytes-are b below),
          text,
        );
        opened = opens side b below ∙ ap (λ t. by.opened side b t) (sym text);
      }

  -- ---- no zone is open
  pub none-zoned : c.plan.zone ≡ 0 → (b : ℕ) → side_in map b ≡ Zone → ⊥
  none-zoned none b is =
      let inside = zone-is-run sizes c map b map_is is in
      let from = inside.0 in
      let end = inside.1 in
      omega (arith, none, from, end)

  module _ (stored : Stored)
      (header : stored_in sizes (front_of sizes (joined image)) ≡ Ok stored)
      (known : progress_of stored.valid.meta sizes ≡ Some c)
      (old_key : IsKeyOf stored.valid.meta c.old old) (new_key : IsKeyOf stored.valid.meta c.new new)
    where
      pub closed-stands : c.plan.zone ≡ 0 → StandsUnder sizes old new (joined image) content
      closed-stands none = record {
        stored = stored;
        header = header;
        placement = record { map = map; old = c.old; new = c.new };
        placed = inr (c, known, record { closed = none; map = map_is; old = refl; new = refl });
        old_key = old_key;
        new_key = new_key;
        holds = record {
          count = long ∙ sym count;
          blocks = λ b below. held-block b (let all = count in omega (arith, below, all))
              (none-zoned none b);
        };
      }

      -- ---- one is
      module _ (some : 0 < c.plan.zone) where
        -- its first block
        beside-first : (side_in map c.plan.first ≡ Zone → ⊥) → ⊥
        beside-first other =
            go (beside-zone c.conversion.direction c.plan c.plan.first
            (λ is. other (map-side sizes c map c.plan.first map_is ∙ is)))
          where
            go : LiesBeside c.plan c.plan.first → ⊥
            go (inl before) = omega (arith, before)
            go (inr behind) = omega (arith, behind, some)

        first-below : c.plan.first < blocks
        first-below =
            let all = map_is.blocks in let same_count = count in omega (arith, all, same_count, some)

        first-by : (side : Side) → side_in map c.plan.first ≡ side
            → side_in map c.plan.first ≡ Zone
        first-by Zone is = is
        first-by Old is = absurd (beside-first (λ zone. (let e : Old ≡ Zone = sym is ∙ zone in cc)))
        first-by New is = absurd (beside-first (λ zone. (let e : New ≡ Zone = sym is ∙ zone in cc)))

        first-in : side_in map c.plan.first ≡ Zone
        first-in = first-by (side_in map c.plan.first) refl

        -- so the zone at hand has blocks
        pub some-range : work.range.start < work.range.end
        some-range =
            let here = (stands c.plan.first first-below).zone first-in in
            let from = here.from in
            let to = here.to in
            omega (arith, from, to)

        -- ---- the zone at hand is it, guarded as the header says
        module _ (one_side : OnOneSide work.range map) (guarded : IsSaved c.conversion.resilience)
            (kind : work.zone.resilience ≡ guard_of c.conversion.resilience)
            (store : work.zone.store.start ≡ c.conversion.area.offset / sizes.atom)
            (count_is : work.range.start + work.zone.own.count ≡ work.range.end)
            (room : HasRoom work.zone.resilience sizes.atom work.zone)
            (lies : work.zone.store.start + work.zone.store.count ≤ atoms)
            (some_atom : 0 < sizes.atom) where
          start-is : work.range.start ≡ c.plan.first
          start-is =
              let (side, all) = one_side in
              let here = (stands c.plan.first first-below).zone first-in in
              let from = here.from in
              let to = here.to in
              let zoned : side ≡ Zone = sym (all c.plan.first from to) ∙ first-in in
              let inside = zone-is-run sizes c map work.range.start map_is
              (all work.range.start (omega arith) (omega (arith, from, to)) ∙ zoned) in
              let low = inside.0 in
              omega (arith, low, from)

          module _ (b : ℕ) (below : b < blocks) (is : side_in map b ≡ Zone) where
            abbrev value : List ℕ
            value = value_in content b

            abbrev i : ℕ
            i = b - work.range.start

            inside : LiesIn c.plan b
            inside = zone-is-run sizes c map b map_is is

            same-i : b - c.plan.first ≡ i
            same-i = ap (λ s. b - s) (sym start-is)

            -- what the block is sealed to on either side
            sealed-as : (side : Side)
                → seals.sealed side (work.range.start + i) (held (work.range.start + i))
                ≡ by.sealed side b value
            sealed-as side =
                let start = start-is in
                let behind = inside.0 in
                let whole : work.range.start + i ≡ b = omega (arith, start, behind) in
                ap (λ k. seals.sealed side k (held k)) whole
                ∙ ap (λ v. seals.sealed side b v) (same b below)
                ∙ same-sealed sector sealed opened c old new keys are sizes.atom side b value

            told : Recovers work.zone.resilience saved_hash work.zone
                (atoms_of map.atom seals held work) (value_in image) i
            told =
                subst (λ (s : Side). AtomStands (reading_of sizes) map seals work (value_in image) held b
                s) is (stands b below).stands

            abbrev Tells : Kind → Type 0
            Tells r =
                Recovers r saved_hash (zone_of sizes c) (sealed_both by b value)
                (atom_in sizes.atom (joined image)) (b - c.plan.first)

            -- its own atom
            own-atom : atom_in sizes.atom (joined image)
                ((zone_of sizes c).own.start + (b - c.plan.first))
                ≡ value_in image (work.zone.own.start + i)
            own-atom =
                let here = (stands b below).zone is in
                let at = here.place in
                let old_place = map_is.old_place in
                let behind = inside.0 in
                let place : (zone_of sizes c).own.start + (b - c.plan.first) ≡ work.zone.own.start + i =
                omega (arith, at, old_place, behind) in
                atom-at sizes.atom atoms image ((zone_of sizes c).own.start + (b - c.plan.first)) even
                ∙ ap (value_in image) place

            -- its digest
            same-saved : (n : ℕ) → c.conversion.resilience ≡ Checksum n
                → HasRoom checksum sizes.atom work.zone
                → digest_at saved_hash
                (text_in (atom_in sizes.atom (joined image)) (zone_of sizes c).store)
                (b - c.plan.first)
                ≡ digest_at saved_hash (text_in (value_in image) work.zone.store) i
            same-saved n by_digests enough =
                let here = (stands b below).zone is in
                let to = here.to in
                let from = here.from in
                let end = inside.1 in
                let behind = inside.0 in
                let equal = same-i in
                let count_here : (zone_of sizes c).store.count ≡ div_ceil (c.plan.zone * 32) sizes.atom =
                ap (λ x. saved_atoms (guard_of x) sizes.atom c.plan.zone) by_digests in
                let ceil = (div_ceil_times (c.plan.zone * 32) sizes.atom some_atom).0 in
                let also : (b - c.plan.first) * 32 + 32 ≤ (zone_of sizes c).store.count * sizes.atom =
                subst (λ (k : ℕ). (b - c.plan.first) * 32 + 32 ≤ k * sizes.atom) (sym count_here)
                (omega (arith, ceil, end, behind)) in
                let fits : (b - c.plan.first) * 32 + 32 ≤ work.zone.store.count * sizes.atom =
                omega (arith, enough, count_is, to, from, equal) in
                ap (λ t. block_at 32 t (b - c.plan.first))
                (same-text (atom_in sizes.atom (joined image)) (value_in image)
                (λ place. atom-at sizes.atom atoms image place even) (zone_of sizes c).store.start
                (zone_of sizes c).store.count)
                ∙ ap (λ s. block_at 32 (text_from (value_in image) s (zone_of sizes c).store.count)
                (b - c.plan.first)) (sym store)
                ∙ sym (same-digest sizes.atom work.zone.store.start work.zone.store.count
                (zone_of sizes c).store.count (b - c.plan.first) (value_in image)
                (λ place low high. long-value image sizes.atom atoms place even
                (omega (arith, low, high, lies))) fits also)
                ∙ ap (λ k. block_at 32 (text_in (value_in image) work.zone.store) k) same-i

            by-guard : (r : Guard) → c.conversion.resilience ≡ r → IsSaved r
                → Recovers (guard_of r) saved_hash work.zone (atoms_of map.atom seals held work)
                (value_in image) i → HasRoom (guard_of r) sizes.atom work.zone → Tells (guard_of r)
            by-guard Journal by_journal known recovers enough =
                let place : (zone_of sizes c).store.start + (b - c.plan.first) ≡ work.zone.store.start + i =
                (let equal = same-i in omega (arith, store, equal)) in
                atom-at sizes.atom atoms image ((zone_of sizes c).store.start + (b - c.plan.first)) even
                ∙ ap (value_in image) place ∙ recovers ∙ sealed-as Old
            by-guard (Checksum n) by_digests known recovers enough =
                let digest = same-saved n by_digests enough in
                record {
                  is_old = digest ∙ recovers.is_old ∙ ap (λ t. saved_hash.digest t) (sealed-as Old);
                  differs = λ same_digests. recovers.differs
                      (ap (λ t. saved_hash.digest t) (sealed-as New) ∙ same_digests ∙ digest);
                  either = either recovers.either;
                }
              where
                either : (value_in image (work.zone.own.start + i)
                    ≡ seals.sealed Old (work.range.start + i) (held (work.range.start + i)))
                    ⊎ (value_in image (work.zone.own.start + i)
                    ≡ seals.sealed New (work.range.start + i) (held (work.range.start + i)))
                    → (atom_in sizes.atom (joined image)
                    ((zone_of sizes c).own.start + (b - c.plan.first)) ≡ by.sealed Old b value)
                    ⊎ (atom_in sizes.atom (joined image)
                    ((zone_of sizes c).own.start + (b - c.plan.first)) ≡ by.sealed New b value)
                either (inl was) = inl (own-atom ∙ was ∙ sealed-as Old)
                either (inr was) = inr (own-atom ∙ was ∙ sealed-as New)
            by-guard (Datashift n) shifts known recovers enough = absurd known

            saved-block : HoldsSaved sizes.atom (zone_of sizes c) c.plan.first by
                (atom_in sizes.atom (joined image)) b value
            saved-block = record {
              are = bytes-are b below;
              tells = by-guard c.conversion.resilience refl guarded
                  (subst (λ (r : Kind). Recovers r saved_hash work.zone
                  (atoms_of map.atom seals held work) (value_in image) i) kind told)
                  (subst (λ (r : Kind). HasRoom r sizes.atom work.zone) kind room);
              old = opens Old b below;
              new = opens New b below;
            }

          on-side : (b : ℕ) → b < blocks → (side : Side) → side_in map b ≡ side
              → HoldsOnSide sizes c map by (joined image) b (value_in content b) side
          on-side b below Zone is = saved-block b below is
          on-side b below Old is =
              held-block b below (λ zone. (let e : Old ≡ Zone = sym is ∙ zone in cc))
          on-side b below New is =
              held-block b below (λ zone. (let e : New ≡ Zone = sym is ∙ zone in cc))

          pub open-stands : OpenStandsUnder sizes old new (joined image) content
          open-stands = record {
            stored = stored;
            header = header;
            now = c;
            known = known;
            some = some;
            map = map;
            map_is = map_is;
            old_key = old_key;
            new_key = new_key;
            holds = record {
              count = long ∙ sym count;
              blocks = λ b below. on-side b (let all = count in omega (arith, below, all))
                  (side_in map b) refl;
            };
          }
