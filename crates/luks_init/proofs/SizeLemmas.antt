-- The areas of a conversion have whole atoms, and one guards a block.
use Rattle.std.proofs.Common.{◌≡◌, inl, inr, ℕ, ◌*◌, ◌/◌, ◌%◌, ◌<◌, ◌≤◌, arith}
use Rattle.luks_init.specs.Wishes.{guard_len, resilience_for, saved_len, IsWish}
use Rattle.luks_init.specs.declared.wish.Guard.{Guard}
use Rattle.luks_init.specs.declared.wish.Guard.TheVariants.{Journal, Checksum}
use Rattle.luks_init.specs.declared.wish.Wish.{Wish}
use Rattle.luks_rules.specs.Rooms.{capacity_by}
use Rattle.luks_slots.proofs.GapLemmas.{not-before, whole-rounded}
use Rattle.luks_slots.specs.NewSlots.{area_len}
use Rattle.luks_slots.specs.Stripes.{rounded, split_len}
use Rattle.sector_cipher.specs.Names.{IsKeyLength}
use Rattle.sector_cipher.specs.declared.spec.Spec.{Spec}
use Rattle.sector_cipher.specs.declared.spec.Spec.TheVariants.{AesXtsPlain64, AesCbcEssivSha256}
use Rattle.sector_disk.specs.Geometry.{IsAtom}

-- ---- whole pages are whole atoms
page-atoms : (n atom : ℕ) → IsAtom atom → n % 4096 ≡ 0 → n % atom ≡ 0
page-atoms n atom (inl e) page = rw e (omega (arith, page))
page-atoms n atom (inr e) page = rw e page

pub slot-whole : (key_size atom : ℕ) → IsAtom atom → area_len key_size % atom ≡ 0
slot-whole key_size atom known =
    page-atoms (area_len key_size) atom known (whole-rounded (split_len key_size) 4096)

pub guard-whole : (w : Wish) (atom : ℕ) → IsAtom atom → guard_len w atom % atom ≡ 0
unfolding guard_len
guard-whole w atom known =
    page-atoms _ atom known (whole-rounded (saved_len w.resilience w.hotzone_size atom) 4096)

-- ---- a zone of one block has room
room-by : (g : Guard) (hotzone atom : ℕ) → IsAtom atom → hotzone % atom ≡ 0 → 0 < hotzone
    → 0 < capacity_by atom (rounded (saved_len g hotzone atom) 4096) (resilience_for g atom)
room-by Journal hotzone atom (inl e) whole some =
    let even = rw e at whole in
    let most = not-before hotzone 4096 (omega arith) in
    rw e (omega (arith, even, some, most))
room-by Journal hotzone atom (inr e) whole some =
    let even = rw e at whole in
    let most = not-before hotzone 4096 (omega arith) in
    rw e (omega (arith, even, some, most))
room-by Checksum hotzone atom (inl e) whole some =
    let even = rw e at whole in
    let most = not-before (hotzone / 512 * 32) 4096 (omega arith) in
    rw e (omega (arith, even, some, most))
room-by Checksum hotzone atom (inr e) whole some =
    let even = rw e at whole in
    let most = not-before (hotzone / 4096 * 32) 4096 (omega arith) in
    rw e (omega (arith, even, some, most))

pub guard-room : (w : Wish) (atom : ℕ) → IsAtom atom → IsWish w atom
    → 0 < capacity_by atom (guard_len w atom) (resilience_for w.resilience atom)
unfolding guard_len
guard-room w atom known wish =
    room-by w.resilience w.hotzone_size atom known wish.whole_hotzone wish.some_hotzone

-- ---- what is saved of a zone
pub guard-some : (w : Wish) (atom : ℕ) → IsAtom atom → IsWish w atom → 0 < guard_len w atom
unfolding guard_len
guard-some w atom known wish = by w.resilience
  where
    by : (g : Guard) → 0 < rounded (saved_len g w.hotzone_size atom) 4096
    by Journal =
        let some = wish.some_hotzone in
        let most = not-before w.hotzone_size 4096 (omega arith) in
        omega (arith, some, most)
    by Checksum =
        let some = room-by Checksum w.hotzone_size atom known wish.whole_hotzone
        wish.some_hotzone in
        omega (arith, some)

-- a key has 16 to 64 bytes
pub key-bounds : (s : Spec) (n : ℕ) → IsKeyLength s n → (1 ≤ n) × (n ≤ 64)
key-bounds AesXtsPlain64 n (inl e) = (omega (arith, e), omega (arith, e))
key-bounds AesXtsPlain64 n (inr e) = (omega (arith, e), omega (arith, e))
key-bounds AesCbcEssivSha256 n (inl e) = (omega (arith, e), omega (arith, e))
key-bounds AesCbcEssivSha256 n (inr e) = (omega (arith, e), omega (arith, e))

pub slot-some : (key_size : ℕ) → 1 ≤ key_size → 0 < area_len key_size
slot-some key_size some =
    let most = not-before (split_len key_size) 4096 (omega arith) in omega (arith, some, most)
