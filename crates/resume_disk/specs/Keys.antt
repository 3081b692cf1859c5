-- The keys of both sides of a volume that is being converted, as its keyslots give them.
use Rattle.std.specs.Prelude.{ℕ, ◌≡◌, List, length, Option, Some, true, false, Err, IsSome}
use Rattle.base_terms.specs.declared.disk_sizes.Sizes.{Sizes}
use Rattle.luks_meta.specs.declared.digest.Digest.{Digest}
use Rattle.luks_meta.specs.declared.meta.Parts.{Parts}
use Rattle.luks_rules.specs.References.{value_at}
use Rattle.luks_rules.specs.Segments.{in_progress}
use Rattle.luks_rules.specs.Shapes.{progress_of}
use Rattle.luks_rules.specs.States.{IsSound}
use Rattle.luks_rules.specs.declared.extents.Extent.{Extent}
use Rattle.luks_rules.specs.declared.shape.Progress.{Progress}
use Rattle.luks_slots.specs.Unlocks.{IsUnlocked}
use Rattle.luks_slots.specs.declared.fault.SlotFault.{SlotFault}
use Rattle.luks_store.specs.Devices.{KeepsBytes}
use Rattle.reenc_recovery.specs.Keys.{key_for, used_by}
use Rattle.reenc_recovery.specs.declared.keys.SideKeys.{SideKeys}
use Rattle.resume_disk.specs.declared.refusal.Refusal.{Refusal}
use Rattle.resume_disk.specs.declared.refusal.Refusal.TheVariants as refusals
use Rattle.sector_disk.specs.Devices.{Device}
use Rattle.segment_map.specs.declared.Side.{Side}
use Rattle.segment_map.specs.declared.Side.TheVariants.{Old, New, Zone}
use Rattle.volume_opening.specs.Openings.{IsRightBy, IsTried}
use Rattle.volume_opening.specs.Refusals.{IsNotTried}

-- ---- the keys
-- The key of a whole segment is one of its digest; a linear segment has none. Where the disk tells
-- what it holds, it is the one that the keyslots there give to the passphrase.
pub record IsSideKey (m : Parts) (pass : List ℕ) (held : Option (List ℕ)) (segment : Extent)
    (key : Option (List ℕ)) : Type 0 where
  pub right : IsRightBy m segment.encryption segment.digest key
  pub told : (image : List ℕ) → held ≡ Some image
      → key_for m image pass segment ≡ Some (used_by segment.encryption key)

-- The objects break no rule, a conversion is under way, and the keys are those of both its whole
-- segments.
pub record AreKeysFound (m : Parts) (sizes : Sizes) (pass : List ℕ) (held : Option (List ℕ))
    (keys : SideKeys) : Type 0 where
  pub tried : IsTried pass
  pub sound : IsSound m sizes
  pub now : Progress
  pub known : progress_of m sizes ≡ Some now
  pub old_is : IsSideKey m pass held now.old keys.old
  pub new_is : IsSideKey m pass held now.new keys.new

-- ---- where there is none
-- The keyslots of a segment that is encrypted answered no key to the passphrase. Where the disk tells
-- its bytes, that there is none is said exactly where they give none.
pub record HasNoSideKey (m : Parts) (pass : List ℕ) (segment : Extent) (old new : Device)
    (fault : SlotFault) : Type 0 where
  pub number : ℕ
  pub digest : Digest
  pub crypt : IsSome segment.encryption
  pub wanted : segment.digest ≡ Some number
  pub is_digest : value_at m.digests number ≡ Some digest
  pub answered : IsUnlocked m digest pass old new (Err fault)

-- The key of the old side was found, and then the keyslots answered none of the new one's.
pub record LacksNewKey (m : Parts) (pass : List ℕ) (now : Progress) (old new : Device)
    (fault : SlotFault) : Type 0 where
  pub read : Device
  pub unwritten : KeepsBytes old read
  pub key : Option (List ℕ)
  pub old_is : IsSideKey m pass old.values now.old key
  pub none : HasNoSideKey m pass now.new read new fault

-- of which side the key lacks: the old one's comes first
abbrev pub LacksKey : Parts → List ℕ → Progress → Device → Device → Side → SlotFault → Type 0
LacksKey m pass now old new Old fault = HasNoSideKey m pass now.old old new fault
LacksKey m pass now old new New fault = LacksNewKey m pass now old new fault
LacksKey m pass now old new Zone fault = ⊥

-- a side of a conversion that is under way has no key of a passphrase that was tried
pub record HasNoKeys (m : Parts) (sizes : Sizes) (pass : List ℕ) (old new : Device) (side : Side)
    (fault : SlotFault) : Type 0 where
  pub tried : IsTried pass
  pub now : Progress
  pub known : progress_of m sizes ≡ Some now
  pub lacks : LacksKey m pass now old new side fault

-- why a header gives no keys for a passphrase: nothing is being converted, the passphrase has a
-- length that is tried on no keyslot, or the keyslots answered none for a side
abbrev pub IsNoKeysFound : Parts → Sizes → List ℕ → Device → Device → Refusal → Type 0
IsNoKeysFound m sizes pass old new refusals.Idle = in_progress m.config ≡ false
IsNoKeysFound m sizes pass old new (refusals.Passphrase count) =
    (count ≡ length pass) × IsNotTried pass × (in_progress m.config ≡ true)
IsNoKeysFound m sizes pass old new (refusals.Slots side fault) =
    HasNoKeys m sizes pass old new side fault
IsNoKeysFound m sizes pass old new _ = ⊥
