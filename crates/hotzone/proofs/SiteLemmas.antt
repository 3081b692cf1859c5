-- Where zones lie: their blocks in the volume, and what they save on the disk.
use Rattle.std.proofs.Common.{◌≡◌, ℕ, ◌+◌, ◌*◌, ◌/◌, ◌%◌, ◌<◌, ◌≤◌, min, suc}
use Rattle.std.proofs.Common.{Option, Some, None, List, [], ◌∷◌}
use Rattle.std.proofs.Common.{subst, arith}
use Rattle.std.proofs.Math.Nat.{le_of_mul-le-mul_right}
use Rattle.std.proofs.lemmas.Nat.{div-add-mod'}
use Rattle.sector_disk.proofs.DiskViews.Blockwise.{blocks_end}
use Rattle.std.specs.List.{All, cons_option}
use Rattle.hotzone.specs.Sites.{count_of, next_count, next_start, site_by, start_by}
use Rattle.hotzone.specs.declared.site.Guard.{Guard}
use Rattle.luks_meta.specs.declared.keyslot.Keyslot.{Keyslot}
use Rattle.luks_meta.specs.declared.keyslot.Keyslot.TheVariants as keyslots
use Rattle.luks_rules.specs.Areas.{area_of, areas_of}
use Rattle.luks_rules.specs.Conversions.{conversion_of, conversions_of}
use Rattle.luks_rules.specs.declared.areas.Area.{Area}
use Rattle.luks_rules.specs.declared.conversions.Conversion.{Conversion}
use Rattle.segment_map.specs.Sides.{left_of}
use Rattle.segment_map.specs.declared.Direction.{Direction}
use Rattle.segment_map.specs.declared.Direction.TheVariants.{Forward, Backward}
use Rattle.segment_map.specs.declared.map.Map.{Map}

-- ---- blocks
pub site-count : (map : Map) (room store : ℕ) (guard : Guard)
    → count_of (site_by map room store guard) ≡ next_count map room
site-count map room store guard = omega arith

start-within : (d : Direction) (blocks boundary room : ℕ) → boundary ≤ blocks
    → start_by d boundary (min (left_of d blocks boundary) room)
    + min (left_of d blocks boundary) room ≤ blocks
start-within Forward blocks boundary room within = omega (arith, within)
start-within Backward blocks boundary room within = omega (arith, within)

pub site-within : (map : Map) (room : ℕ) → next_start map room + next_count map room ≤ map.blocks
site-within map room = start-within map.direction map.blocks map.boundary room map.within

pub own-within : (map : Map) (room store : ℕ) (guard : Guard) (atoms : ℕ)
    → map.old_place + map.blocks ≤ atoms
    → (site_by map room store guard).own + count_of (site_by map room store guard) ≤ atoms
own-within map room store guard atoms fits =
    let within = site-within map room in
    let count = site-count map room store guard in
    omega (arith, within, count, fits)

-- ---- the area that guards zones is one of the keyslots'
-- of all elements the first, and those behind it
all-first : {X : Type 0} (P : X → Type 0) (x : X) (xs : List X) → All P (x ∷ xs) → P x
all-first P x xs all = all 0 x (omega arith)

all-later : {X : Type 0} (P : X → Type 0) (x : X) (xs : List X) → All P (x ∷ xs) → All P xs
all-later P x xs all = λ k d below. all (suc k) d (omega (arith, below))

all-behind : {X : Type 0} (P : X → Type 0) (o : Option X) (xs : List X)
    → All P (cons_option o xs) → All P xs
all-behind P None xs all = all
all-behind P (Some x) xs all = all-later P x xs all

pub area-kept : (P : Area → Type 0) (slots : List (ℕ × Keyslot)) (c : Conversion)
    (cs : List Conversion) → All P (areas_of slots) → conversions_of slots ≡ c ∷ cs → P c.area
unfolding areas_of conversions_of conversion_of
area-kept P [] c cs all is = absurd cc
area-kept P (s ∷ slots) c cs all is = go s.0 s.1 (area-kept P slots c cs) all is
  where
    injected : (a b : Conversion) → a ∷ conversions_of slots ≡ b ∷ cs → a ≡ b
    injected a b is = cc

    go : (n : ℕ) (slot : Keyslot)
        → (All P (areas_of slots) → conversions_of slots ≡ c ∷ cs → P c.area)
        → All P (cons_option (area_of slot) (areas_of slots))
        → cons_option (conversion_of (n, slot)) (conversions_of slots) ≡ c ∷ cs → P c.area
    go n (keyslots.Luks2 x) later all is = later (all-later P _ _ all) is
    go n (keyslots.Unknown x) later all is = later (all-behind P _ (areas_of slots) all) is
    go n (keyslots.Reencrypt x) later all is =
        subst (λ (k : Conversion). P k.area) (injected _ c is) (all-first P _ _ all)

-- an area of whole atoms that ends on a disk of so many
pub store-within : (atom offset size n atoms : ℕ) → 0 < atom → offset % atom ≡ 0
    → n * atom ≤ size → offset + size ≤ atoms * atom → offset / atom + n ≤ atoms
store-within atom offset size n atoms some whole fits within =
    let cut = div-add-mod' offset atom in
    let sum = blocks_end atom (offset / atom) n in
    le_of_mul-le-mul_right (omega (arith, cut, sum, whole, fits, within)) some
