-- An image that a stop of a conversion leaves stands for its content by whatever its header says, as long
-- as that says of the sides what the first header said, or that the conversion is at its end.
use Rattle.std.proofs.Common.{◌≡◌, ◌⊎◌, ◌∙◌, ◌+◌, ◌<◌, ◌≤◌, inl, inr, ℕ, true, false, List, length}
use Rattle.std.proofs.Common.{replicate, None, Some, Ok, ap, subst, sym}
use Rattle.base_terms.specs.Blocks.{joined, lengths}
use Rattle.crash_laws.specs.HeaderAreas.Headers.{Gives}
use Rattle.base_terms.specs.declared.disk_sizes.Sizes.{Sizes}
use Rattle.sector_disk.specs.DiskViews.Parts.{value_in}
use Rattle.crash_laws.specs.HotZones.Zones.{datashift}
use Rattle.hotzone.specs.Sites.{IsSaved}
use Rattle.luks_store.specs.Copying.Meanings.{header_reader}
use Rattle.luks_meta.specs.declared.meta.Parts.{Parts}
use Rattle.luks_rules.specs.Rules.{first_fault}
use Rattle.luks_rules.specs.Shapes.{progress_of}
use Rattle.luks_rules.specs.declared.extents.Extent.{Extent}
use Rattle.luks_rules.specs.declared.shape.Progress.{Progress}
use Rattle.luks_store.proofs.CopyLemmas.{Spelt}
use Rattle.luks_store.specs.Devices.{front_of}
use Rattle.luks_store.specs.Promises.{GivenIsUsed}
use Rattle.reenc_recovery.specs.Keys.{IsKeyOf}
use Rattle.recovery_laws.proofs.Resumed.AgainLemmas.{TellsKeys, busy-again, none-some, rest-again}
use Rattle.recovery_laws.proofs.Resumed.GivenLemmas.{map-busy, map-rests}
use Rattle.recovery_laws.proofs.Resumed.GuardLemmas.{not-shifted}
use Rattle.recovery_laws.proofs.Resumed.RangeLemmas.{OnOneSide}
use Rattle.recovery_laws.specs.Resumed.Chaining.{StandsAgain}
use Rattle.sector_disk.specs.Geometry.{IsAtom}
use Rattle.segment_map.specs.declared.Side.{Side}
use Rattle.segment_map.specs.declared.Side.TheVariants.{New, Old}
use Rattle.volume_laws.specs.Standing.{BlockStands, Content}
use Rattle.volume_laws.specs.Telling.{TellsZone}
use Rattle.volume_machine.specs.Seals.{AreLawful, seals_of}
use Rattle.volume_machine.specs.Working.{HasRoom}
use Rattle.volume_machine.specs.Works.{Work}
use Rattle.volume_machine.specs.declared.keys.Keys.{Keys}
use Rattle.volume_laws.specs.WorkerRuns.Leaving.{SaysAs, SaysItEnds}
use Rattle.hotzone.proofs.ZoneEvents.GroundLemmas.{one-progress}
use Rattle.hotzone.proofs.ZoneEvents.TellLemmas.{converts-told, guard-told}
use Rattle.hotzone.specs.ZoneEvents.Readings.{guard_in, map_of, parts_in, reading_of, sealing_in}
use Rattle.hotzone.specs.ZoneEvents.Sides.{IsSideOf}
use Rattle.image_laws.specs.Led.Keys.{AreCiphersOf}

-- ---- what a header's meaning tells that says of a side what the first one says
abbrev pub SidesTellKeys : Type 0
SidesTellKeys =
    (sizes : Sizes) (from to : List ℕ) (m : Parts) (side : Side) (e : Extent) → 0 < sizes.atom
    → parts_in from ≡ Ok m → first_fault m sizes ≡ None → IsSideOf sizes m side e
    → sealing_in sizes to side ≡ sealing_in sizes from side → TellsKeys sizes m e to side

-- the metadata of one meaning are one
one-parts : (m : List ℕ) (a b : Parts) → parts_in m ≡ Ok a → parts_in m ≡ Ok b → a ≡ b
one-parts m a b is also = (let e : Ok a ≡ Ok b = sym is ∙ also in cc)

-- its map has the disk's atoms
pub told-atom : (sizes : Sizes) (m : List ℕ) (meta : Parts) (side : Side) (segment : Extent)
    → parts_in m ≡ Ok meta → IsSideOf sizes meta side segment → 0 < (map_of sizes m).blocks
    → (map_of sizes m).atom ≡ sizes.atom
told-atom sizes m meta side segment parts (inl (p, known, is)) some =
    (map-busy sizes m meta parts some p known).atom
told-atom sizes m meta side segment parts (inr (none, (v, idle, is))) some =
    (map-rests sizes m meta parts some v none idle).atom

module _ {C : Type 0} (sector : C → ℕ) (sealed opened : C → ℕ → List ℕ → List ℕ) (sizes : Sizes)
    (known-atom : IsAtom sizes.atom) (keys : Keys C)
    (lawful : AreLawful sizes.atom (seals_of sealed opened sizes.atom keys)) (work : Work)
    (image : List (List ℕ)) (atoms blocks : ℕ) (even : lengths image ≡ replicate atoms sizes.atom)
    (held : Content) (content : List (List ℕ)) (long : length content ≡ blocks) (some : 0 < blocks)
    (same : (b : ℕ) → b < blocks → held b ≡ value_in content b) (m : List ℕ)
    (count : (map_of sizes m).blocks ≡ blocks)
    (stands : (b : ℕ) → b < blocks → BlockStands (reading_of sizes) (map_of sizes m)
    (seals_of sealed opened sizes.atom keys) work (value_in image) held b)
    (spelt : Spelt) (given : GivenIsUsed)
    (gives : Gives header_reader (front_of sizes (joined image)) m) (first : Parts) (p : Progress)
    (old_key new_key : List ℕ)
    (old_is : IsKeyOf first p.old old_key) (new_is : IsKeyOf first p.new new_key)
    (are : AreCiphersOf sector sealed opened p old_key new_key keys) (from : List ℕ)
    (parts : parts_in from ≡ Ok first) (known : progress_of first sizes ≡ Some p)
    (guarded : IsSaved p.conversion.resilience)
    (new_told : TellsKeys sizes first p.new m New)
    (tells : work.range.start < work.range.end → TellsZone (reading_of sizes) work m)
    (count_is : work.range.start + work.zone.own.count ≡ work.range.end)
    (room : HasRoom work.zone.resilience sizes.atom work.zone)
    (lies : work.zone.store.start + work.zone.store.count ≤ atoms)
    (one_side : OnOneSide work.range (map_of sizes m)) where
  abbrev Again : Type 0
  Again = StandsAgain sizes old_key new_key (joined image) content

  -- guarded as the first one says
  guard-here : guard_in sizes m ≡ guard_in sizes from → guard_in sizes m ≡ datashift → ⊥
  guard-here is shifts =
      not-shifted p.conversion.resilience guarded
      (sym (guard-told sizes from first (Some p) parts known) ∙ sym is ∙ shifts)

  -- a conversion that is under way, by both sides
  by-both : (c : Progress) → progress_of new_told.meta sizes ≡ Some c
      → new_told.segment ≡ c.new → TellsKeys sizes first p.old m Old
      → guard_in sizes m ≡ guard_in sizes from → Again
  by-both c c_known c_new told guard =
      go (one-parts m told.meta new_told.meta told.parts new_told.parts) told.is
    where
      at-old : (o : Extent) → o ≡ c.old → told.meta ≡ new_told.meta → told.segment ≡ o → Again
      at-old o is meta segment =
          busy-again sector sealed opened sizes known-atom keys lawful work image atoms blocks even held
          content long some same m count stands spelt given gives first p old_key new_key old_is new_is
          are new_told.meta new_told.parts new_told.valid c c_known
          (ap (λ (e : Extent). e.encryption) (sym (segment ∙ is)) ∙ told.encryption)
          (ap (λ (e : Extent). e.encryption) (sym c_new) ∙ new_told.encryption)
          (subst (λ (n : Parts). IsKeyOf n c.old old_key) meta
          (subst (λ (e : Extent). IsKeyOf told.meta e old_key) (segment ∙ is)
          (told.key old_key old_is)))
          (subst (λ (e : Extent). IsKeyOf new_told.meta e new_key) c_new
          (new_told.key new_key new_is)) (guard-here guard) tells count_is room lies one_side

      go : told.meta ≡ new_told.meta → IsSideOf sizes told.meta Old told.segment → Again
      go meta (inl (q, q_known, is)) =
          let here = subst (λ (n : Parts). progress_of n sizes ≡ Some q) meta q_known in
          at-old q.old
          (ap (λ (x : Progress). x.old) (one-progress new_told.meta sizes q c here c_known)) meta is
      go meta (inr (none, (v, idle, is))) =
          absurd (none-some
          (subst (λ (n : Parts). progress_of n sizes ≡ None) meta none) c_known)

  pub says-again : (sealing_in sizes m Old ≡ sealing_in sizes from Old
      → TellsKeys sizes first p.old m Old)
      → SaysAs (reading_of sizes) from m ⊎ SaysItEnds (reading_of sizes) from m → Again
  says-again old_told says = go new_told.is says
    where
      go : IsSideOf sizes new_told.meta New new_told.segment
          → SaysAs (reading_of sizes) from m ⊎ SaysItEnds (reading_of sizes) from m → Again
      go (inl (c, c_known, is)) (inl goes) =
          by-both c c_known is (old_told (goes.sealing Old)) goes.guard
      go (inl (c, c_known, is)) (inr ends) =
          absurd (let e : true ≡ false =
          sym (converts-told sizes m new_told.meta (Some c) new_told.parts c_known) ∙ ends.rests in cc)
      go (inr (none, (v, idle, is))) either =
          rest-again sector sealed opened sizes known-atom keys lawful work image atoms blocks even held
          content long some same m count stands spelt given gives first p old_key new_key old_is new_is
          are new_told.meta new_told.parts new_told.valid none v idle
          (ap (λ (e : Extent). e.encryption) (sym is) ∙ new_told.encryption)
          (subst (λ (e : Extent). IsKeyOf new_told.meta e new_key) is (new_told.key new_key new_is))
