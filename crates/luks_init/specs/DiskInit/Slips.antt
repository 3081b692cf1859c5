-- What an operator would lose by a conversion without knowing it: keyslots where more than one holds
-- the volume's key, and sectors behind the last whole atom of the disk.
use Rattle.std.specs.Prelude.{ℕ, ◌≡◌, ◌⊎◌, ◌<◌, ◌≤◌, true, false, List, [], length}
use Rattle.std.specs.Prelude.{Option, Some, None, option_and_then}
use Rattle.base_terms.specs.declared.disk_sizes.Sizes.{Sizes}
use Rattle.luks_init.specs.declared.init_disk.refusal.Refusal.{Refusal}
use Rattle.luks_init.specs.declared.init_disk.refusal.Refusal.TheVariants as refusals
use Rattle.luks_init.specs.declared.wish.Wish.{Wish}
use Rattle.luks_meta.specs.declared.digest.Digest.{Digest}
use Rattle.luks_meta.specs.declared.meta.Parts.{Parts}
use Rattle.luks_rules.specs.Idles.{idle_of}
use Rattle.luks_rules.specs.References.{value_at}
use Rattle.luks_rules.specs.Segments.{has_tail}
use Rattle.luks_rules.specs.declared.idle.Idle.{Idle}
use Rattle.luks_slots.specs.Kinds.{holders}
use Rattle.luks_slots.specs.declared.kinds.SlotKind.{SlotKind}

-- the digest of the one segment of a volume of which nothing is being converted
abbrev pub digest_by : Parts → Option Idle → Option Digest
digest_by m None = None
digest_by m (Some v) = option_and_then (λ n. value_at m.digests n) v.segment.digest

abbrev pub holders_by : Parts → Option Digest → List (ℕ × SlotKind)
holders_by m None = []
holders_by m (Some d) = holders m d

-- the keyslots that hold the volume's key, by their numbers and kinds
abbrev pub key_holders : Parts → Sizes → List (ℕ × SlotKind)
key_holders m sizes = holders_by m (digest_by m (idle_of m sizes))

-- Keyslots may go, or at most one keyslot holds the volume's key. It is the one that the passphrase
-- opened where that was tried by the same header.
abbrev pub KeepsOthers : Wish → Parts → Sizes → Type 0
KeepsOthers w m sizes = (w.drop_keyslots ≡ true) ⊎ (length (key_holders m sizes) ≤ 1)

-- Nothing is lost: at most one keyslot holds the volume's key, unless they may go; and no bytes that
-- may be sectors of the volume lie behind the last whole atom of its disk, which has so many there.
pub record LosesNothing (w : Wish) (m : Parts) (sizes : Sizes) (tail : ℕ) : Type 0 where
  pub kept : KeepsOthers w m sizes
  pub whole : has_tail m.segments tail ≡ false

-- The first that would be lost: the keyslots that hold the volume's key are told, or how many bytes
-- that may be sectors of it lie behind the last whole atom. Want of memory says nothing.
abbrev pub WouldLose : Wish → Parts → Sizes → ℕ → Refusal → Type 0
WouldLose w m sizes tail (refusals.Unopened refusal) = ⊥
WouldLose w m sizes tail refusals.Linear = ⊥
WouldLose w m sizes tail refusals.Memory = Unit {0}
WouldLose w m sizes tail (refusals.Keyslots list) =
    (list ≡ key_holders m sizes) × (w.drop_keyslots ≡ false) × (1 < length list)
WouldLose w m sizes tail (refusals.Tail bytes) =
    (bytes ≡ tail) × KeepsOthers w m sizes × (has_tail m.segments tail ≡ true)
WouldLose w m sizes tail (refusals.Unmade fault) = ⊥
WouldLose w m sizes tail refusals.Writing = ⊥
