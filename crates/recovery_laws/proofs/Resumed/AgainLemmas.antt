-- An image that a stop of a conversion leaves stands for its content by the metadata of its own header:
-- of a conversion that is under way, with a zone open or not, or of one that is at its end.
use Rattle.std.proofs.Common.{◌≡◌, ◌∙◌, ◌+◌, ◌*◌, ◌/◌, ◌<◌, ◌≤◌, inl, inr, ℕ, true, false, List, length}
use Rattle.std.proofs.Common.{Bool, Option, replicate, None, Some, Ok, ap, arith, refl, subst, sym}
use Rattle.std.proofs.lemmas.Bool.{cases_lt}
use Rattle.base_terms.specs.Blocks.{joined, lengths}
use Rattle.crash_laws.specs.HeaderAreas.Areas.{Area}
use Rattle.crash_laws.specs.HeaderAreas.Headers.{Gives}
use Rattle.base_terms.specs.declared.disk_sizes.Sizes.{Sizes}
use Rattle.sector_disk.specs.DiskViews.Parts.{AreBlocks, block_at, value_in}
use Rattle.crash_laws.specs.HotZones.Zones.{datashift}
use Rattle.hotzone.specs.Sites.{IsSaved}
use Rattle.luks_store.specs.Copying.Meanings.{header_reader}
use Rattle.luks_meta.specs.declared.meta.Parts.{Parts}
use Rattle.luks_meta.specs.declared.segment.Encryption.{Encryption}
use Rattle.luks_rules.specs.Idles.{idle_of}
use Rattle.luks_rules.specs.Rules.{first_fault}
use Rattle.luks_rules.specs.Segments.{in_progress}
use Rattle.luks_rules.specs.Shapes.{progress_of}
use Rattle.luks_rules.specs.declared.extents.Extent.{Extent}
use Rattle.luks_rules.specs.declared.idle.Idle.{Idle}
use Rattle.luks_rules.specs.declared.shape.Progress.{Progress}
use Rattle.luks_store.proofs.CopyLemmas.{Spelt}
use Rattle.luks_store.specs.Devices.{front_of}
use Rattle.luks_store.specs.Promises.{GivenIsUsed}
use Rattle.luks_store.specs.declared.loaded.Stored.{Stored}
use Rattle.reenc_meta.specs.Placements.{PlacedBy}
use Rattle.reenc_recovery.specs.Images.{HoldsBlock, StandsUnder}
use Rattle.reenc_recovery.specs.Keys.{IsCipherOf, IsKeyOf, opened_by, sealed_by, seals_by, tweak_by}
use Rattle.image_laws.specs.Opened.Zones.{guard_of}
use Rattle.recovery_laws.proofs.Resumed.GivenLemmas.{IsLoaded, loaded, map-busy, map-rests, ruled}
use Rattle.recovery_laws.proofs.Resumed.GuardLemmas.{is-saved, same-guard, some-saved}
use Rattle.recovery_laws.proofs.Resumed.RangeLemmas.{OnOneSide}
use Rattle.recovery_laws.proofs.Resumed.StopLemmas.{atom-at, closed-stands, open-stands, some-range}
use Rattle.recovery_laws.specs.Resumed.Chaining.{GoesOnIn, StandsAgain}
use Rattle.sector_disk.specs.Geometry.{IsAtom}
use Rattle.segment_map.specs.Maps.{place_on}
use Rattle.segment_map.specs.declared.Direction.TheVariants.{Forward}
use Rattle.segment_map.specs.declared.Side.{Side}
use Rattle.segment_map.specs.declared.Side.TheVariants.{New}
use Rattle.segment_map.specs.declared.map.Map.{Map}
use Rattle.image_laws.proofs.Started.GapLemmas.{one-header}
use Rattle.volume_laws.specs.Standing.{AtomStands, BlockStands, Content}
use Rattle.volume_laws.specs.Telling.{TellsZone}
use Rattle.volume_machine.specs.Pieces.{place_in, side_in}
use Rattle.volume_machine.specs.Seals.{AreLawful, Seals, seals_of}
use Rattle.volume_machine.specs.Working.{HasRoom}
use Rattle.volume_machine.specs.Works.{Work}
use Rattle.volume_machine.specs.declared.keys.Keys.{Keys}
use Rattle.hotzone.proofs.ZoneEvents.GroundLemmas.{busy-of}
use Rattle.hotzone.proofs.ZoneEvents.SideLemmas.{all-behind, side-as}
use Rattle.hotzone.proofs.ZoneEvents.TellLemmas.{guard-told, store-told}
use Rattle.hotzone.specs.ZoneEvents.Readings.{guard_in, map_of, parts_in, reading_of}
use Rattle.hotzone.specs.ZoneEvents.Sides.{IsSideOf}
use Rattle.hotzone.specs.ZoneEvents.Tellings.{resilience_of}
use Rattle.image_laws.specs.Led.Keys.{AreCiphersOf}

-- ---- what a header's meaning tells of a side that is that of the first metadata
-- its metadata break no rule, and the side's segment is sealed as the first one's is, under the same key
pub record TellsKeys (sizes : Sizes) (first : Parts) (e : Extent) (to : List ℕ) (side : Side)
    : Type 0 where
  pub meta : Parts
  pub parts : parts_in to ≡ Ok meta
  pub valid : first_fault meta sizes ≡ None
  pub segment : Extent
  pub is : IsSideOf sizes meta side segment
  pub encryption : segment.encryption ≡ e.encryption
  pub key : (key : List ℕ) → IsKeyOf first e key → IsKeyOf meta segment key

-- ---- small facts
pub none-some : {A : Type 0} {o : Option A} {x : A} → o ≡ None → o ≡ Some x → ⊥
none-some {A} {o} {x} none is = (let e : ◌≡◌ {A = Option A} None (Some x) = sym none ∙ is in cc)

cipher-as : {C : Type 0} (sector : C → ℕ) (sealed opened : C → ℕ → List ℕ → List ℕ)
    (e f : Option Encryption) (key : List ℕ) (cipher : C) → f ≡ e
    → IsCipherOf sector sealed opened e key cipher → IsCipherOf sector sealed opened f key cipher
cipher-as sector sealed opened e f key cipher same is =
    subst (λ (x : Option Encryption). IsCipherOf sector sealed opened x key cipher) (sym same) is

module _ {C : Type 0} (sector : C → ℕ) (sealed opened : C → ℕ → List ℕ → List ℕ) (sizes : Sizes)
    (known-atom : IsAtom sizes.atom) (keys : Keys C)
    (lawful : AreLawful sizes.atom (seals_of sealed opened sizes.atom keys)) (work : Work)
    (image : List (List ℕ)) (atoms blocks : ℕ) (even : lengths image ≡ replicate atoms sizes.atom)
    (held : Content) (content : List (List ℕ)) (long : length content ≡ blocks) (some : 0 < blocks)
    (same : (b : ℕ) → b < blocks → held b ≡ value_in content b) (m : List ℕ)
    (count : (map_of sizes m).blocks ≡ blocks)
    (stands : (b : ℕ) → b < blocks → BlockStands (reading_of sizes) (map_of sizes m)
    (seals_of sealed opened sizes.atom keys) work (value_in image) held b)
    (spelt : Spelt) (given : GivenIsUsed)
    (gives : Gives header_reader (front_of sizes (joined image)) m) (first : Parts) (p : Progress)
    (old_key new_key : List ℕ)
    (old_is : IsKeyOf first p.old old_key) (new_is : IsKeyOf first p.new new_key)
    (are : AreCiphersOf sector sealed opened p old_key new_key keys) where
  abbrev map : Map
  map = map_of sizes m

  some-map : 0 < map.blocks
  some-map = let all = count in omega (arith, some, all)

  -- ---- a conversion is under way
  module _ (meta : Parts) (parts : parts_in m ≡ Ok meta) (valid : first_fault meta sizes ≡ None)
      (c : Progress) (known : progress_of meta sizes ≡ Some c)
      (old_segment : c.old.encryption ≡ p.old.encryption)
      (new_segment : c.new.encryption ≡ p.new.encryption)
      (old_here : IsKeyOf meta c.old old_key) (new_here : IsKeyOf meta c.new new_key)
      (guard : guard_in sizes m ≡ datashift → ⊥)
      (tells : work.range.start < work.range.end → TellsZone (reading_of sizes) work m)
      (count_is : work.range.start + work.zone.own.count ≡ work.range.end)
      (room : HasRoom work.zone.resilience sizes.atom work.zone)
      (lies : work.zone.store.start + work.zone.store.count ≤ atoms)
      (one_side : OnOneSide work.range map) where
    ciphers : AreCiphersOf sector sealed opened c old_key new_key keys
    ciphers = record {
      old_cipher = cipher-as sector sealed opened p.old.encryption c.old.encryption old_key keys.old
          old_segment are.old_cipher;
      new_cipher = cipher-as sector sealed opened p.new.encryption c.new.encryption new_key keys.new
          new_segment are.new_cipher;
      old_tweak = are.old_tweak ∙ ap (λ e. tweak_by e) (sym old_segment);
      new_tweak = are.new_tweak ∙ ap (λ e. tweak_by e) (sym new_segment);
    }

    busy-loaded : IsLoaded sizes (front_of sizes (joined image)) meta
    busy-loaded =
        loaded spelt given sizes (front_of sizes (joined image)) m meta gives parts valid

    abbrev stored : Stored
    stored = record { copies = busy-loaded.copies; valid = record { meta = meta; sizes = sizes } }

    goes-on : GoesOnIn sizes (joined image)
    goes-on other is =
        subst (λ (s : Stored). in_progress s.valid.meta.config ≡ true)
        (one-header sizes (joined image) stored other busy-loaded.held is) (busy-of meta sizes c known)

    told-guard : guard_in sizes m ≡ resilience_of c.conversion.resilience
    told-guard = guard-told sizes m meta (Some c) parts known

    saved-here : IsSaved c.conversion.resilience
    saved-here = is-saved c.conversion.resilience (λ is. guard (told-guard ∙ is))

    some-atom : 0 < sizes.atom
    some-atom = some-of known-atom
      where
        some-of : {atom : ℕ} → IsAtom atom → 0 < atom
        some-of (inl is) = rw is (omega arith)
        some-of (inr is) = rw is (omega arith)

    open-again : 0 < c.plan.zone → StandsAgain sizes old_key new_key (joined image) content
    open-again zone =
        let range = some-range sector sealed opened sizes keys lawful work image atoms blocks even held
        content long same m count stands c (map-busy sizes m meta parts some-map c known) old_key
        new_key ciphers stored busy-loaded.held known old_here new_here zone in
        let told = tells range in
        let kind : work.zone.resilience ≡ guard_of c.conversion.resilience =
        sym told.guard ∙ told-guard ∙ same-guard c.conversion.resilience in
        let stored_some = some-saved work.zone.resilience sizes.atom work.zone
        (λ is. guard (told.guard ∙ is)) room (omega (arith, count_is, range)) in
        inl (
          inr (open-stands sector sealed opened sizes keys lawful work image atoms blocks even held
              content long same m count stands c (map-busy sizes m meta parts some-map c known) old_key
              new_key ciphers stored busy-loaded.held known old_here new_here zone one_side
              saved-here kind
              (told.store stored_some
              ∙ ap (λ (a : Area). a.start) (store-told sizes m meta (Some c) parts known)) count_is room
              lies some-atom),
          goes-on,
        )

    pub busy-again : StandsAgain sizes old_key new_key (joined image) content
    busy-again = elim (cases_lt 0 c.plan.zone) as
        (λ _. StandsAgain sizes old_key new_key (joined image) content) [
          | inl zone ↦ open-again zone
          | inr none ↦
              inl (
                inl (closed-stands sector sealed opened sizes keys lawful work image atoms blocks even
                    held content long same m count stands c
                    (map-busy sizes m meta parts some-map c known) old_key new_key ciphers stored
                    busy-loaded.held known old_here new_here (omega (arith, none))),
                goes-on,
              )
        ]

  -- ---- nothing is converted any more
  module _ (meta : Parts) (parts : parts_in m ≡ Ok meta) (valid : first_fault meta sizes ≡ None)
      (none : progress_of meta sizes ≡ None) (v : Idle) (idle : idle_of meta sizes ≡ Some v)
      (segment : v.segment.encryption ≡ p.new.encryption)
      (here : IsKeyOf meta v.segment new_key) where
    rest-loaded : IsLoaded sizes (front_of sizes (joined image)) meta
    rest-loaded =
        loaded spelt given sizes (front_of sizes (joined image)) m meta gives parts valid

    abbrev rest-stored : Stored
    rest-stored =
        record { copies = rest-loaded.copies; valid = record { meta = meta; sizes = sizes } }

    all-new : (b : ℕ) → b < blocks → side_in map b ≡ New
    all-new b below =
        let shape = map-rests sizes m meta parts some-map v none idle in
        let all = shape.blocks in
        let full = count in
        side-as map Forward v.blocks v.blocks 0 b shape.direction shape.blocks shape.boundary shape.zone
        ∙ all-behind Forward v.blocks v.blocks b (omega arith) (omega (arith, below, all, full))

    abbrev by : Seals
    by = seals_by sizes.atom v.segment v.segment new_key new_key

    -- a block is sealed as in the one segment
    sealed-new : (b : ℕ) (bytes : List ℕ)
        → (seals_of sealed opened sizes.atom keys).sealed New b bytes ≡ by.sealed New b bytes
    sealed-new b bytes =
        are.new_cipher.seals (keys.new_tweak + b * (sizes.atom / 512)) bytes
        ∙ ap (λ t. sealed_by p.new.encryption new_key (t + b * (sizes.atom / 512)) bytes) are.new_tweak
        ∙ ap (λ e. sealed_by e new_key (tweak_by e + b * (sizes.atom / 512)) bytes) (sym segment)

    opened-new : (b : ℕ) (bytes : List ℕ)
        → (seals_of sealed opened sizes.atom keys).opened New b bytes ≡ by.opened New b bytes
    opened-new b bytes =
        are.new_cipher.opens (keys.new_tweak + b * (sizes.atom / 512)) bytes
        ∙ ap (λ t. opened_by p.new.encryption new_key (t + b * (sizes.atom / 512)) bytes) are.new_tweak
        ∙ ap (λ e. opened_by e new_key (tweak_by e + b * (sizes.atom / 512)) bytes) (sym segment)

    rest-block : (b : ℕ) → b < blocks → HoldsBlock map by b (value_in content b)
        (block_at sizes.atom (joined image) (place_in map b))
    rest-block b below =
        let shape = map-rests sizes m meta parts some-map v none idle in
        let side = all-new b below in
        let is = stands b below in
        let whole : AreBlocks sizes.atom 1 (value_in content b) =
        subst (λ (a : ℕ). AreBlocks a 1 (value_in content b)) shape.atom
        (subst (λ bytes. AreBlocks map.atom 1 bytes) (same b below) is.are) in
        let place : place_in map b ≡ place_on map b New = ap (λ s. place_on map b s) side in
        let sealed_atom : block_at sizes.atom (joined image) (place_in map b)
        ≡ (seals_of sealed opened sizes.atom keys).sealed New b (value_in content b) =
        atom-at sizes.atom atoms image (place_in map b) even ∙ ap (value_in image) place
        ∙ subst (λ (s : Side). AtomStands (reading_of sizes) map
        (seals_of sealed opened sizes.atom keys) work (value_in image) held b s) side is.stands
        ∙ ap (λ bytes. (seals_of sealed opened sizes.atom keys).sealed New b bytes) (same b below) in
        record {
          sealed = (
            subst (λ (n : ℕ). AreBlocks n 1 (value_in content b)) (sym shape.atom) whole,
            sealed_atom ∙ sealed-new b (value_in content b)
                ∙ ap (λ s. by.sealed s b (value_in content b)) (sym side),
          );
          opened = sym (lawful.opens_sealed New b (value_in content b) whole)
              ∙ opened-new b ((seals_of sealed opened sizes.atom keys).sealed New b (value_in content b))
              ∙ ap (λ text. by.opened New b text) (sym sealed_atom)
              ∙ ap (λ s. by.opened s b (block_at sizes.atom (joined image) (place_in map b))) (sym side);
        }

    rest-stands : StandsUnder sizes new_key new_key (joined image) content
    rest-stands =
        let shape = map-rests sizes m meta parts some-map v none idle in
        record {
          stored = rest-stored;
          header = rest-loaded.held;
          placement = record { map = map; old = v.segment; new = v.segment };
          placed = inl (subst (λ (o : Option Idle). PlacedBy sizes o
              (record { map = map; old = v.segment; new = v.segment })) (sym idle) (record {
                atom = shape.atom;
                blocks = shape.blocks;
                boundary = shape.boundary;
                direction = shape.direction;
                zone = shape.zone;
                old_place = shape.old_place;
                new_place = shape.new_place;
                old = refl;
                new = refl;
              }));
          old_key = here;
          new_key = here;
          holds = record {
            count = long ∙ sym count;
            blocks = λ b below. rest-block b (let all = count in omega (arith, below, all));
          };
        }

    rests-by : (b : Bool) → in_progress meta.config ≡ b → b ≡ false
    rests-by false is = refl
    rests-by true is =
        absurd (let sound = ruled spelt given sizes (front_of sizes (joined image)) m meta gives parts
        valid known-atom in let busy = (sound.busy is).1 in none-some none busy.1)

    pub rest-again : StandsAgain sizes old_key new_key (joined image) content
    rest-again =
        inr (
          rest-stands,
          λ other is. subst (λ (s : Stored). in_progress s.valid.meta.config ≡ false)
              (one-header sizes (joined image) rest-stored other rest-loaded.held is)
              (rests-by (in_progress meta.config) refl),
        )
