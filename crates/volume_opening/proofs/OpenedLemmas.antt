-- A volume that was opened is that of what the disk stood for under the passphrase.
use Rattle.std.proofs.Common.{◌≡◌, ◌∙◌, ℕ, ◌*◌, ◌<◌, zero, suc, List, [], ◌∷◌, length, ap, ap₂, sym}
use Rattle.std.proofs.Common.{subst, refl, false, Option, Some, None, Result, Ok}
use Rattle.base_terms.specs.declared.disk_sizes.Sizes.{Sizes}
use Rattle.sector_disk.specs.DiskViews.Parts.{AreBlocks, block_at, value_in}
use Rattle.header_report.proofs.ExamineLemmas.{alone_values, whole_front}
use Rattle.header_report.specs.Examinations.{sizes_alone}
use Rattle.sector_disk.specs.JoinedDisks.Joined.{Joint, joined_disk}
use Rattle.luks_meta.specs.declared.meta.Parts.{Parts}
use Rattle.luks_rules.specs.Idles.{idle_of}
use Rattle.luks_rules.specs.declared.extents.Extent.{Extent}
use Rattle.luks_rules.specs.declared.idle.Idle.{Idle}
use Rattle.luks_store.specs.Devices.{KeepsBytes, front_of}
use Rattle.luks_store.specs.Loads.{stored_in}
use Rattle.luks_store.specs.Used.{Refusal}
use Rattle.luks_store.specs.declared.loaded.Stored.{Stored}
use Rattle.plain_disk.specs.Plain.{AreSure, Block, settled, settled_blocks}
use Rattle.reenc_meta.specs.Placements.{IsPlacementOf, PlacedBy}
use Rattle.reenc_meta.specs.declared.placement.Placement.{Placement}
use Rattle.reenc_recovery.specs.Causes.{HasCauseIn, IsCauseIn}
use Rattle.reenc_recovery.specs.Images.{StandsFor}
use Rattle.reenc_recovery.specs.Keys.{key_for, used_by}
use Rattle.reenc_recovery.specs.Placings.{PlacesVolume}
use Rattle.reenc_recovery.specs.Tables.{TellsSince}
use Rattle.reenc_recovery.specs.Volumes.{AreUnlocked, IsOpenedOf, IsUnopened, IsVolumeOf}
use Rattle.reenc_recovery.specs.declared.fault.OpenCause.{OpenCause}
use Rattle.reenc_recovery.proofs.PlacingLemmas.{idle_too}
use Rattle.sector_disk.specs.Devices.{Device}
use Rattle.sector_disk.specs.Geometry.{IsDisk}
use Rattle.segment_map.specs.declared.map.Map.{Map}
use Rattle.volume_laws.specs.Contents.{IsSealed, block_in}
use Rattle.volume_laws.specs.Promises.{Starts}
use Rattle.volume_machine.specs.Beginnings.{IsFresh, new_volume}
use Rattle.volume_machine.specs.Pieces.{place_in}
use Rattle.volume_machine.specs.Seals.{seals_of}
use Rattle.volume_machine.specs.Sound.{IsSound}
use Rattle.volume_machine.specs.States.{State}
use Rattle.volume_machine.specs.declared.keys.Keys.{Keys}
use Rattle.volume_opening.proofs.ReadLemmas.{keeps_on}
use Rattle.volume_opening.proofs.ShortLemmas.{short_under}
use Rattle.volume_opening.specs.Openings.{IsFound, IsKeyFound, IsOpenedBy, IsUnderKey, StartsFor}
use Rattle.volume_opening.specs.Openings.{alone}
use Rattle.volume_opening.specs.Refusals.{IsNoKeyFound, IsUnopenedBy, IsUnopenedUnder}
use Rattle.volume_opening.specs.declared.refusal.Refusal.{Refusal as Refused}
use Rattle.volume_opening.specs.declared.refusal.Refusal.TheVariants as refusals

pub same_stored : (r : Result Stored Refusal) (one other : Stored) → r ≡ Ok one → r ≡ Ok other →
    one ≡ other
same_stored r one other is also = (let e : Ok one ≡ Ok other = sym is ∙ also in cc)

-- ---- header and key
pub same_sizes : (old new : Device) → KeepsBytes old new → sizes_alone new ≡ sizes_alone old
same_sizes old new kept = ap₂ sizes_by kept.size kept.atoms
  where
    sizes_by : ℕ → ℕ → Sizes
    sizes_by atom atoms = record {
      atom = atom;
      header_atoms = atoms;
      main_atoms = atoms;
      detached = false;
    }

pub under_key : (device read : Device) (stored : Stored) (pass : List ℕ) (key : Option (List ℕ)) →
    KeepsBytes device read → IsFound device stored →
    IsKeyFound stored.valid.meta stored.valid.sizes pass read.values key →
    IsUnderKey device stored pass key
under_key device read stored pass key kept found is = record {
  found = found;
  key_found = subst (λ (held : Option (List ℕ)).
      IsKeyFound stored.valid.meta stored.valid.sizes pass held key) kept.values is;
}

-- the key that was found is that of the segment of each side, since there is one
pub unlocked : (sizes : Sizes) (m : Parts) (first pass : List ℕ) (held key : Option (List ℕ)) →
    IsKeyFound m sizes pass held key → held ≡ Some first → AreUnlocked sizes m first pass key
unlocked sizes m first pass held key found told p placed =
    let idle = found.idle in
    let is = subst (λ (v : Option Idle). PlacedBy sizes v p) found.is placed in
    let gives : (e : Extent) → e ≡ idle.segment →
    key_for m first pass e ≡ Some (used_by e.encryption key) =
    λ e same. subst (λ (x : Extent). key_for m first pass x ≡ Some (used_by x.encryption key))
    (sym same) (found.told first told) in
    (gives p.old is.old, gives p.new is.new)

-- ---- the blocks that runs start from
block_of : (content : List (List ℕ)) (b : ℕ) →
    block_in (settled_blocks content) b ≡ settled (value_in content b)
unfolding settled_blocks
block_of [] b = refl
block_of (value ∷ content) zero = refl
block_of (value ∷ content) (suc b) = block_of content b

length_of : (content : List (List ℕ)) → length (settled_blocks content) ≡ length content
unfolding settled_blocks
length_of [] = refl
length_of (value ∷ content) = ap (λ n. suc n) (length_of content)

sure_of : (content : List (List ℕ)) → AreSure (settled_blocks content)
unfolding settled_blocks AreSure
sure_of [] = tt
sure_of (value ∷ content) = (refl, sure_of content)

-- a header places as many blocks, however it is said
blocks_one : (sizes : Sizes) (m : Parts) (p q : Placement) → IsPlacementOf m sizes p →
    IsPlacementOf m sizes q → p.map.blocks ≡ q.map.blocks
blocks_one sizes m p q = by_case (idle_of m sizes)
  where
    by_case : (v : Option Idle) → PlacedBy sizes v p → PlacedBy sizes v q →
        p.map.blocks ≡ q.map.blocks
    by_case (Some v) one other = one.blocks ∙ sym other.blocks
    by_case None one other = absurd one

module _ {C : Type 0} (sector : C → ℕ) (sealed opened : C → ℕ → List ℕ → List ℕ) (sizes : Sizes)
    (key : Option (List ℕ)) (header : Stored) (pass first : List ℕ) (volume : State (Keys C))
    (is : IsVolumeOf sector sealed opened sizes key header first volume) where
  -- so many blocks has the content
  long : length is.starts.content ≡ volume.map.blocks
  long =
      let stands = is.starts.stands in
      let same : stands.stored ≡ is.still.stored =
      same_stored (stored_in sizes (front_of sizes is.now)) stands.stored is.still.stored
      stands.header is.still.header in
      stands.holds.count
      ∙ blocks_one sizes is.still.stored.valid.meta stands.placement is.still.placement
      (idle_too is.still.stored.valid.meta sizes is.still.placement stands.placement
      is.still.opening.placed
      (subst (λ (stored : Stored). PlacesVolume stored.valid.meta sizes stands.placement) same
      stands.placed))
      is.still.opening.placed
      ∙ ap (λ (m : Map). m.blocks) (sym is.still.map)

  newest : (b : ℕ) → b < volume.map.blocks →
      (block_in is.starts.blocks b).newest
      ≡ (block_in (settled_blocks is.starts.content) b).newest
  newest b below =
      sym (is.starts.newest b below)
      ∙ ap (λ (block : Block). block.newest) (sym (block_of is.starts.content b))

  -- it starts as from the plain disk that holds the content for certain
  starts : Starts volume (seals_of sealed opened volume.map.atom volume.keys)
      (settled_blocks is.starts.content) is.now
  starts =
      let was = is.starts.starts in
      record {
        sound = was.sound;
        fresh = was.fresh;
        apart = was.apart;
        lawful = was.lawful;
        are = record {
          count = length_of is.starts.content ∙ long;
          newest = λ b below. subst (λ (value : List ℕ). AreBlocks volume.map.atom 1 value)
              (newest b below) (was.are.newest b below);
        };
        sure = sure_of is.starts.content;
        values = was.values;
        stands = λ b below. subst (λ (value : List ℕ).
            IsSealed volume.map (seals_of sealed opened volume.map.atom volume.keys) b value
            (block_at volume.map.atom is.now (place_in volume.map b)))
            (newest b below) (was.stands b below);
      }

  pub starts_for : StandsFor sizes pass first is.starts.content →
      StartsFor sealed opened sizes pass first volume
  starts_for stood = record {
    content = is.starts.content;
    stood = stood;
    now = is.now;
    values = is.values;
    stands = (is.stands.keeps.passphrase pass is.starts.content).0 stood;
    settled = is.settled;
    starts = starts;
  }

-- ---- the whole
module _ (device read read' : Device) (pass : List ℕ) (stored : Stored)
    (key : Option (List ℕ)) (joint : Joint) (sizes : Sizes)
    (header_read : KeepsBytes device read) (found : IsFound device stored)
    (slots_read : KeepsBytes read read')
    (key_found : IsKeyFound stored.valid.meta stored.valid.sizes pass read.values key)
    (joint_is : joint ≡ alone read') (sizes_are : sizes ≡ sizes_alone read') where
  both_read : KeepsBytes device read'
  both_read = keeps_on device read read' header_read slots_read

  sizes_same : sizes ≡ sizes_alone device
  sizes_same = sizes_are ∙ same_sizes device read' both_read

  pub opened_by : {C : Type 0} (sector : C → ℕ) (sealed opened : C → ℕ → List ℕ → List ℕ)
      (lanes : ℕ) (volume : State (Keys C)) →
      IsOpenedOf sector sealed opened sizes key joint volume →
      TellsSince sizes (joined_disk joint) volume.disk →
      volume ≡ new_volume volume.map volume.keys lanes volume.disk → IsFresh volume →
      IsSound volume → IsDisk read'.size read'.atoms →
      ((all : List ℕ) → device.values ≡ Some all → length all ≡ device.atoms * device.size) →
      ((header : Stored) (first : List ℕ)
      (is : IsVolumeOf sector sealed opened (sizes_alone device) key header first volume) →
      AreUnlocked (sizes_alone device) header.valid.meta first pass key →
      StandsFor (sizes_alone device) pass first is.starts.content) →
      IsOpenedBy sector sealed opened device pass lanes volume
  opened_by {C} sector sealed opened lanes volume calls tables is fresh sound disk long law =
      let calls' : IsOpenedOf sector sealed opened (sizes_alone device) key (alone read') volume =
      subst (λ (s : Sizes). IsOpenedOf sector sealed opened s key (alone read') volume) sizes_same
      (subst (λ (j : Joint). IsOpenedOf sector sealed opened sizes key j volume) joint_is calls) in
      let held : (first : List ℕ) → device.values ≡ Some first
      → IsVolumeOf sector sealed opened (sizes_alone device) key stored first volume =
      λ first told.
      (let whole : length first ≡ read'.atoms * read'.size =
      long first told ∙ ap₂ (λ a s. a * s) (sym both_read.atoms) (sym both_read.size) in
      let was = calls'.held first
      (alone_values read' first disk (both_read.values ∙ told) whole) in
      subst (λ (s : Stored).
      IsVolumeOf sector sealed opened (sizes_alone device) key s first volume)
      (same_stored (stored_in (sizes_alone device) first) calls'.header stored
      (ap (stored_in (sizes_alone device)) (sym (whole_front device first (long first told)))
      ∙ was.stands.holds.was)
      (found.held first told)) was) in
      record {
        read = read';
        unwritten = both_read;
        stored = stored;
        key = key;
        under = under_key device read stored pass key header_read found key_found;
        calls = calls';
        held = held;
        tables = subst (λ (s : Sizes). TellsSince s (joined_disk (alone read')) volume.disk)
            sizes_same
            (subst (λ (j : Joint). TellsSince sizes (joined_disk j) volume.disk) joint_is tables);
        is = is;
        fresh = fresh;
        sound = sound;
        starts = λ first told.
            starts_for sector sealed opened (sizes_alone device) key stored pass first volume
            (held first told)
            (law stored first (held first told)
            (unlocked (sizes_alone device) stored.valid.meta first pass read.values key
            (subst (λ (z : Sizes). IsKeyFound stored.valid.meta z pass read.values key) found.sizes
            key_found)
            (header_read.values ∙ told)));
      }

  pub unopened_by : (cause : OpenCause) (later : Sizes) (new : Joint) →
      IsUnopened sizes later key joint new cause →
      HasCauseIn (joined_disk joint) (joined_disk new) cause →
      ((all : List ℕ) → (joined_disk joint).values ≡ Some all →
      IsCauseIn sizes key (stored_in sizes (front_of sizes all)) cause) →
      IsDisk read'.size read'.atoms →
      ((all : List ℕ) → device.values ≡ Some all → length all ≡ device.atoms * device.size) →
      IsUnopenedUnder device pass cause new
  unopened_by cause later new unopened cause_is refused disk long =
      let under = under_key device read stored pass key header_read found key_found in
      let held : (bytes : List ℕ) → device.values ≡ Some bytes →
      IsCauseIn (sizes_alone device) key (stored_in (sizes_alone device) bytes) cause =
      λ bytes told.
      (let whole : length bytes ≡ read'.atoms * read'.size =
      long bytes told ∙ ap₂ (λ a s. a * s) (sym both_read.atoms) (sym both_read.size) in
      let shown : (joined_disk joint).values ≡ Some bytes =
      ap (λ (j : Joint). (joined_disk j).values) joint_is
      ∙ alone_values read' bytes disk (both_read.values ∙ told) whole in
      subst (λ (all : List ℕ). IsCauseIn (sizes_alone device) key
      (stored_in (sizes_alone device) all) cause)
      (whole_front device bytes (long bytes told))
      (subst (λ (s : Sizes). IsCauseIn s key (stored_in s (front_of s bytes)) cause) sizes_same
      (refused bytes shown))) in
      record {
        read = read';
        unwritten = both_read;
        stored = stored;
        key = key;
        under = under;
        unopened = (
          later,
          subst (λ (s : Sizes). IsUnopened s later key (alone read') new cause) sizes_same
              (subst (λ (j : Joint). IsUnopened sizes later key j new cause) joint_is unopened),
        );
        cause_is = subst (λ (j : Joint). HasCauseIn (joined_disk j) (joined_disk new) cause)
            joint_is cause_is;
        refused = held;
        short = λ bytes told. short_under device stored pass key under bytes told cause
            (held bytes told);
      }

-- ---- no key
pub refused_key : {D : Type 0} (device : D → Device) (disk back : D) (pass : List ℕ)
    (refusal : Refused) (stored : Stored) (read : Device) → IsFound (device disk) stored →
    KeepsBytes (device disk) read → KeepsBytes read (device back) →
    IsNoKeyFound stored.valid.meta stored.valid.sizes pass read (device back) refusal →
    IsUnopenedBy device disk pass refusal None back
refused_key device disk back pass (refusals.Header fault) stored read found one two none =
    absurd none
refused_key device disk back pass (refusals.Opening cause) stored read found one two none =
    absurd none
refused_key device disk back pass refusals.InProgress stored read found one two none = (
  refl,
  record {
    stored = stored;
    found = found;
    read = read;
    header_read = one;
    slots_read = two;
    none = none;
  },
)
refused_key device disk back pass (refusals.Passphrase count) stored read found one two none = (
  refl,
  record {
    stored = stored;
    found = found;
    read = read;
    header_read = one;
    slots_read = two;
    none = none;
  },
)
refused_key device disk back pass (refusals.Slots fault) stored read found one two none = (
  refl,
  record {
    stored = stored;
    found = found;
    read = read;
    header_read = one;
    slots_read = two;
    none = none;
  },
)
