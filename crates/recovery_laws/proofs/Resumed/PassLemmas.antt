-- The keys that keyslots give to a passphrase by the header that an image has at a stop of a conversion are
-- those that they gave before, so what it stands for under the keys it stands for under the passphrase.
use Rattle.std.proofs.Common.{◌≡◌, ◌⊎◌, ◌∙◌, ◌+◌, ◌*◌, ◌/◌, ◌<◌, ◌≤◌, inl, inr, ℕ, Bool, true, false, List}
use Rattle.std.proofs.Common.{not, Option, None, Some, Ok, ap, arith, refl, subst, sym}
use Rattle.std.proofs.lemmas.List.Elements.{All-contains_itself, All-weaker}
use Rattle.std.specs.List.{All, filter}
use Rattle.std.specs.Prelude.{Contains, is_some}
use Rattle.crash_laws.specs.HeaderAreas.Areas.{Area as DiskArea}
use Rattle.crash_laws.specs.HeaderAreas.Commits.{MayBe}
use Rattle.crash_laws.specs.HeaderAreas.Headers.{Copy, Gives, Layout, place_of}
use Rattle.base_terms.specs.declared.disk_sizes.Sizes.{Sizes}
use Rattle.sector_disk.specs.DiskViews.Parts.{block_at}
use Rattle.sector_disk.specs.DiskViews.Views.{IsOutside}
use Rattle.crash_laws.specs.HotZones.Zones.{from_of, stage_of, to_of}
use Rattle.hotzone.specs.Endings.{is_left}
use Rattle.luks_store.specs.Copying.Meanings.{header_reader}
use Rattle.luks_meta.specs.declared.meta.Parts.{Parts}
use Rattle.luks_rules.specs.Areas.{areas_begin, areas_end, areas_of}
use Rattle.luks_rules.specs.Idles.{idle_of}
use Rattle.luks_rules.specs.Rules.{first_fault}
use Rattle.luks_rules.specs.Segments.{in_progress}
use Rattle.luks_rules.specs.Shapes.{progress_of}
use Rattle.luks_rules.specs.States.{IsSound}
use Rattle.luks_rules.specs.declared.areas.Area.{Area}
use Rattle.luks_rules.specs.declared.extents.Extent.{Extent}
use Rattle.luks_rules.specs.declared.idle.Idle.{Idle}
use Rattle.luks_rules.specs.declared.shape.Progress.{Progress}
use Rattle.luks_store.proofs.CopyLemmas.{Spelt}
use Rattle.luks_store.specs.Devices.{front_of}
use Rattle.luks_store.specs.Loads.{stored_in}
use Rattle.luks_store.specs.Promises.{GivenIsUsed}
use Rattle.luks_store.specs.declared.loaded.Stored.{Stored}
use Rattle.reenc_meta.specs.Layouts.{whole_on}
use Rattle.reenc_meta.specs.Placements.{PlacedBy}
use Rattle.reenc_meta.specs.declared.placement.Placement.{Placement}
use Rattle.reenc_recovery.proofs.PlacingLemmas.{is_idle, resting as rests-placed}
use Rattle.reenc_recovery.specs.Images.{StandsFor, StandsUnder}
use Rattle.reenc_recovery.specs.Keys.{key_for}
use Rattle.recovery_laws.proofs.Resumed.AgainLemmas.{none-some}
use Rattle.recovery_laws.proofs.Resumed.GivenLemmas.{loaded}
use Rattle.recovery_laws.proofs.Resumed.SlotLemmas.{before-block, behind-copy, is-area, of-side}
use Rattle.recovery_laws.proofs.Resumed.SlotLemmas.{outside-guard, same-area-of}
use Rattle.recovery_laws.specs.Resumed.Chaining.{GoesOnIn, StandsAgain}
use Rattle.recovery_laws.specs.Resumed.Passphrases.{StandsAgainFor}
use Rattle.sector_disk.specs.Geometry.{IsAtom}
use Rattle.segment_map.specs.declared.Side.{Side}
use Rattle.segment_map.specs.declared.Side.TheVariants.{New, Old}
use Rattle.image_laws.specs.Sides.Keys.{HasSameAtoms, SidesGiveTheirKeys}
use Rattle.image_laws.proofs.Started.GapLemmas.{one-header}
use Rattle.image_laws.proofs.Started.HeaderLemmas.{known-of}
use Rattle.image_laws.specs.Started.Gaps.{key_areas}
use Rattle.volume_machine.specs.Pieces.{place_in}
use Rattle.volume_machine.specs.States.{State}
use Rattle.volume_machine.specs.Works.{Work, resting}
use Rattle.volume_laws.specs.WorkerRuns.Leaving.{IsDropped, IsElsewhere, SaysAs, SaysItEnds}
use Rattle.hotzone.proofs.ZoneEvents.GroundLemmas.{one-progress}
use Rattle.hotzone.proofs.ZoneEvents.MemberLemmas.{from-filtered, from-mapped, has-filtered}
use Rattle.hotzone.proofs.ZoneEvents.MemberLemmas.{has-mapped}
use Rattle.hotzone.proofs.ZoneEvents.TellLemmas.{converts-told, keyslots-told, store-told}
use Rattle.hotzone.specs.ZoneEvents.Readings.{converts_in, keyslots_in, parts_in, reading_of}
use Rattle.hotzone.specs.ZoneEvents.Readings.{sealing_in}
use Rattle.hotzone.specs.ZoneEvents.Sides.{IsSideOf, SidesAreTold, TellsSide}
use Rattle.hotzone.specs.ZoneEvents.Tellings.{area_on, guarding, keyslots_by, side_alone}

-- ---- small facts
one-idle : {o : Option Idle} (v w : Idle) → o ≡ Some v → o ≡ Some w → v ≡ w
one-idle v w is also = (let e : Some v ≡ Some w = sym is ∙ also in cc)

none-there : (o : Option Progress) → is_some o ≡ false → o ≡ None
none-there None is = refl
none-there (Some p) is = (let e : true ≡ false = is in cc)

-- a side has one whole segment
one-side : (sizes : Sizes) (m : Parts) (side : Side) (e f : Extent) → IsSideOf sizes m side e
    → IsSideOf sizes m side f → e ≡ f
one-side sizes m side e f (inl (p, known, is)) (inl (q, also, at)) =
    is ∙ ap (λ (x : Progress). whole_on x side) (one-progress m sizes p q known also) ∙ sym at
one-side sizes m side e f (inl (p, known, is)) (inr (none, found)) = absurd (none-some none known)
one-side sizes m side e f (inr (none, found)) (inl (q, also, at)) = absurd (none-some none also)
one-side sizes m side e f (inr (none, (v, idle, is))) (inr (other, (w, also, at))) =
    is ∙ ap (λ (x : Idle). x.segment) (one-idle v w idle also) ∙ sym at

-- the one segment of a volume of which nothing is converted
idle-placed : (sizes : Sizes) (m : Parts) (p : Placement) (o : Option Idle) → idle_of m sizes ≡ o
    → PlacedBy sizes o p
    → (v : Idle) × (idle_of m sizes ≡ Some v) × (p.old ≡ v.segment) × (p.new ≡ v.segment)
idle-placed sizes m p None is placed = absurd placed
idle-placed sizes m p (Some v) is placed = (v, is, placed.old, placed.new)

some-size : {atom : ℕ} → IsAtom atom → 0 < atom
some-size (inl is) = rw is (omega arith)
some-size (inr is) = rw is (omega arith)

module _ {K : Type 0} (sizes : Sizes) (known-atom : IsAtom sizes.atom) (told : SidesAreTold)
    (given : SidesGiveTheirKeys) (layout : Layout) (means : List ℕ) (m : Parts)
    (parts : parts_in means ≡ Ok m) (valid : first_fault m sizes ≡ None) (sound : IsSound m sizes)
    (p : Progress) (known : progress_of m sizes ≡ Some p) (volume here : State K)
    (copies : (copy : Copy)
    → ((place_of layout copy).start + (place_of layout copy).count) * sizes.atom
    ≤ areas_begin m.config)
    (blocks : (b : ℕ) → b < volume.map.blocks
    → areas_end m.config ≤ place_in volume.map b * sizes.atom) where
  abbrev Dropped : ℕ → Type 0
  Dropped place = IsDropped (reading_of sizes) means here place

  abbrev Elsewhere : ℕ → Type 0
  Elsewhere place = IsElsewhere (reading_of sizes) layout means volume place

  side-told : (to : List ℕ) (side : Side) → sealing_in sizes to side ≡ sealing_in sizes means side
      → TellsSide sizes m (whole_on p side) to side
  side-told to side same =
      told sizes means to m side (whole_on p side) (some-size known-atom) parts valid
      (inl (p, known, refl)) same

  -- ---- an atom from which a key is read
  module _ (a : Area) (has : Contains (key_areas m.keyslots) a) (k : ℕ)
      (below : k < a.size / sizes.atom) where
    its : Contains (areas_of m.keyslots) a
    its = is-area m.keyslots a has

    elsewhere : Elsewhere (a.offset / sizes.atom + k)
    elsewhere = record {
      copies = λ copy. behind-copy m sizes sound a its k below (place_of layout copy).start
          (place_of layout copy).count (copies copy);
      store = subst (λ (s : DiskArea). IsOutside s.start s.count (a.offset / sizes.atom + k))
          (sym (store-told sizes means m (Some p) parts known))
          (outside-guard m sizes sound p known a has k below);
      blocks = λ b inside. before-block m sizes sound a its k below (place_in volume.map b)
          (blocks b inside);
    }

    -- an area that was dropped, and has it, is the same
    dropped-one : (d : Dropped (a.offset / sizes.atom + k)) → d.area ≡ area_on sizes.atom a
    dropped-one d =
        let keep : Area → Bool = λ x. not (is_left (guarding (Some p)) x) in
        let had : Contains (keyslots_by sizes.atom m (Some p)) d.area =
        subst (λ (xs : List DiskArea). Contains xs d.area)
        (keyslots-told sizes means m (Some p) parts known) d.had in
        let (x, within, same) =
        from-mapped (area_on sizes.atom) d.area (filter keep (areas_of m.keyslots)) had in
        let there = (from-filtered keep x (areas_of m.keyslots) within).0 in
        let (j, inside, at) = d.inside in
        sym same
        ∙ ap (area_on sizes.atom)
        (same-area-of m sizes sound a its k below x there j
        (subst (λ (s : DiskArea). j < s.count) (sym same) inside)
        (subst (λ (s : DiskArea). a.offset / sizes.atom + k ≡ s.start + j) (sym same) at))

    -- so it isn't one of the new side's, which the last header has
    new-stays : Contains (key_areas (side_alone m p.new).keyslots) a
        → Dropped (a.offset / sizes.atom + k) → ⊥
    new-stays of d =
        let t = side-told d.last.means New d.says.sealing in
        let keep : Area → Bool = λ x. not (is_left (guarding None) x) in
        let none : progress_of t.meta sizes ≡ None =
        none-there (progress_of t.meta sizes)
        (sym (converts-told sizes d.last.means t.meta (progress_of t.meta sizes) t.parts refl)
        ∙ d.says.rests) in
        let there : Contains (areas_of t.meta.keyslots) a =
        is-area t.meta.keyslots a
        (of-side t.meta t.segment a
        (subst (λ (n : Parts). Contains (key_areas n.keyslots) a) (sym t.same) of)) in
        d.gone
        (subst (λ (x : DiskArea). Contains (keyslots_in sizes d.last.means) x) (sym (dropped-one d))
        (subst (λ (xs : List DiskArea). Contains xs (area_on sizes.atom a))
        (sym (keyslots-told sizes d.last.means t.meta None t.parts none))
        (has-mapped (area_on sizes.atom) a (filter keep (areas_of t.meta.keyslots))
        (has-filtered keep a (areas_of t.meta.keyslots) there refl))))

  -- ---- the bytes of an image, which has there what was there, unless it was dropped
  module _ (bytes image pass : List ℕ)
      (kept : (place : ℕ) → Elsewhere place
      → (block_at sizes.atom image place ≡ block_at sizes.atom bytes place) ⊎ Dropped place) where
    abbrev Stays : Side → Type 0
    Stays side = (a : Area) → Contains (key_areas (side_alone m (whole_on p side)).keyslots) a
        → (k : ℕ) → k < a.size / sizes.atom → Dropped (a.offset / sizes.atom + k) → ⊥

    same-atoms : (side : Side) → Stays side
        → All (HasSameAtoms sizes.atom bytes image)
        (key_areas (side_alone m (whole_on p side)).keyslots)
    same-atoms side stays =
        let some = key_areas (side_alone m (whole_on p side)).keyslots in
        All-weaker (Contains some) (HasSameAtoms sizes.atom bytes image)
        (λ (a : Area) of k below.
        elim (kept (a.offset / sizes.atom + k)
        (elsewhere a (of-side m (whole_on p side) a of) k below)) [
          | inl same ↦ same
          | inr d ↦ absurd (stays a of k below d)
        ])
        some (All-contains_itself some)

    -- ---- by the header that it has
    module _ (spelt : Spelt) (is-used : GivenIsUsed) (by : List ℕ)
        (gives : Gives header_reader (front_of sizes image) by)
        (may : (work : Work) → here.work ≡ Some work
        → MayBe (stage_of work.phase) (from_of work.zone work.phase).means
        (to_of work.zone work.phase).means by) where
      -- nothing is dropped while a conversion is under way by it
      busy-stays : (side : Side) → converts_in sizes by ≡ true → Stays side
      busy-stays side busy a of k below d =
          let same : by ≡ d.last.means = may (resting d.layout d.last d.progress) d.stands in
          (let e : true ≡ false = sym busy ∙ ap (converts_in sizes) same ∙ d.says.rests in cc)

      module _ (stored : Stored) (held : stored_in sizes (front_of sizes image) ≡ Ok stored) where
        meta-is : (n : Parts) → parts_in by ≡ Ok n → first_fault n sizes ≡ None
            → stored.valid.meta ≡ n
        meta-is n at rules =
            ap (λ (s : Stored). s.valid.meta)
            (one-header sizes image stored _ held
            (loaded spelt is-used sizes (front_of sizes image) by n gives at rules).held)

        key-on : (side : Side) (f : Extent) → IsSideOf sizes stored.valid.meta side f
            → sealing_in sizes by side ≡ sealing_in sizes means side → Stays side
            → key_for stored.valid.meta image pass f ≡ key_for m bytes pass (whole_on p side)
        key-on side f is seals stays =
            let t = side-told by side seals in
            let meta : stored.valid.meta ≡ t.meta = meta-is t.meta t.parts t.valid in
            let segment : f ≡ t.segment =
            one-side sizes t.meta side f t.segment
            (subst (λ (n : Parts). IsSideOf sizes n side f) meta is) t.is in
            given sizes side m stored.valid.meta (whole_on p side) f bytes image pass (record {
              atom = known-atom;
              one_sound = sound;
              two_sound = (known-of sizes (front_of sizes image) stored (some-size known-atom)
                  held).sound;
              one = inl (p, known, refl);
              two = is;
              same = ap (λ (n : Parts). side_alone n f) meta
                  ∙ ap (side_alone t.meta) segment ∙ t.same;
              read = same-atoms side stays;
            })

        -- by it a conversion is under way exactly where its meaning says so
        converts-by : sealing_in sizes by New ≡ sealing_in sizes means New → (o : Option Progress)
            → progress_of stored.valid.meta sizes ≡ o → converts_in sizes by ≡ is_some o
        converts-by seals o is =
            let t = side-told by New seals in
            converts-told sizes by t.meta o t.parts
            (subst (λ (n : Parts). progress_of n sizes ≡ o) (meta-is t.meta t.parts t.valid) is)

      -- ---- what it stands for
      module _ (old_key new_key : List ℕ) (old_given : key_for m bytes pass p.old ≡ Some old_key)
          (new_given : key_for m bytes pass p.new ≡ Some new_key)
          (says : SaysAs (reading_of sizes) means by ⊎ SaysItEnds (reading_of sizes) means by)
          (content : List (List ℕ)) where
        new-seals : sealing_in sizes by New ≡ sealing_in sizes means New
        new-seals = elim says [
          | inl goes ↦ goes.sealing New
          | inr ends ↦ ends.sealing
        ]

        -- both sides are sealed as before while a conversion is under way by it
        old-seals : converts_in sizes by ≡ true
            → sealing_in sizes by Old ≡ sealing_in sizes means Old
        old-seals busy = elim says [
          | inl goes ↦ goes.sealing Old
          | inr ends ↦ absurd (let e : true ≡ false = sym busy ∙ ends.rests in cc)
        ]

        closed-for : (s : StandsUnder sizes old_key new_key image content) → GoesOnIn sizes image
            → StandsFor sizes pass image content
        closed-for s goes = elim s.placed [
          | inl idle ↦ absurd (let e : true ≡ false =
              sym (goes s.stored s.header)
              ∙ is_idle s.stored.valid.meta sizes s.placement idle in cc)
          | inr (c, is, placed) ↦
              (let busy = converts-by s.stored s.header new-seals (Some c) is in
              record {
                old = old_key;
                new = new_key;
                stands = s;
                old_is = key-on s.stored s.header Old s.placement.old (inl (c, is, placed.old))
                    (old-seals busy) (busy-stays Old busy) ∙ old_given;
                new_is = key-on s.stored s.header New s.placement.new (inl (c, is, placed.new))
                    new-seals (busy-stays New busy) ∙ new_given;
              })
        ]

        rest-for : (s : StandsUnder sizes new_key new_key image content)
            → in_progress s.stored.valid.meta.config ≡ false → StandsFor sizes pass image content
        rest-for s rests =
            let ruled = (known-of sizes (front_of sizes image) s.stored (some-size known-atom)
            s.header).sound in
            let (v, idle, old, new) = idle-placed sizes s.stored.valid.meta s.placement
            (idle_of s.stored.valid.meta sizes) refl
            (rests-placed s.stored.valid.meta sizes s.placement rests s.placed) in
            let none = (ruled.idle rests).0 in
            let stays : Stays New = λ a of k below. new-stays a (of-side m p.new a of) k below of in
            record {
              old = new_key;
              new = new_key;
              stands = s;
              old_is = key-on s.stored s.header New s.placement.old
                  (inr (none, (v, idle, old))) new-seals stays ∙ new_given;
              new_is = key-on s.stored s.header New s.placement.new
                  (inr (none, (v, idle, new))) new-seals stays ∙ new_given;
            }

        pub stands-for : StandsAgain sizes old_key new_key image content
            → StandsAgainFor sizes pass image content
        stands-for (inl (inl s, goes)) = inl (inl (closed-for s goes), goes)
        stands-for (inl (inr s, goes)) =
            let busy = converts-by s.stored s.header new-seals (Some s.now) s.known in
            inl (
              inr (record {
                old = old_key;
                new = new_key;
                stands = s;
                old_is = key-on s.stored s.header Old s.now.old (inl (s.now, s.known, refl))
                    (old-seals busy) (busy-stays Old busy) ∙ old_given;
                new_is = key-on s.stored s.header New s.now.new (inl (s.now, s.known, refl))
                    new-seals (busy-stays New busy) ∙ new_given;
              }),
              goes,
            )
        stands-for (inr (s, rests)) = inr (rest-for s (rests s.stored s.header), rests)
