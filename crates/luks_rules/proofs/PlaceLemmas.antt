-- Each block of a volume under conversion lies on the disk.
use Rattle.std.proofs.Common.{◌≡◌, inl, inr, ℕ, suc, ◌+◌, ◌*◌, ◌<◌, ◌≤◌, ◌++◌, nat_lt, List, []}
use Rattle.std.proofs.Common.{◌∷◌, map, Bool, true, false, cond, refl, subst, arith}
use Rattle.std.proofs.Math.Nat.{mul-le-mul_right}
use Rattle.std.proofs.lemmas.Bool.{eqb-true, ltb-true, ltb-false}
use Rattle.std.specs.List.{All}
use Rattle.base_terms.specs.declared.disk_sizes.Sizes.{Sizes}
use Rattle.luks_meta.specs.declared.digest.Digest.{Digest}
use Rattle.luks_meta.specs.declared.meta.Parts.{Parts}
use Rattle.luks_meta.specs.declared.reencrypt.Direction.{Direction}
use Rattle.luks_meta.specs.declared.reencrypt.Direction.TheVariants.{Forward, Backward}
use Rattle.luks_meta.specs.declared.segment.Segment.{Segment}
use Rattle.luks_meta.specs.declared.segment.SegmentSize.{SegmentSize}
use Rattle.luks_meta.specs.declared.segment.SegmentSize.TheVariants.{Dynamic, Sized}
use Rattle.luks_rules.specs.Areas.{main_bytes}
use Rattle.luks_rules.specs.Extents.{extent_of}
use Rattle.luks_rules.specs.Plans.{blocks_in, is_part, is_sized, laid_out, parts_of, place_at}
use Rattle.luks_rules.specs.Segments.{bytes_by, bytes_of}
use Rattle.luks_rules.specs.States.{IsState}
use Rattle.luks_rules.specs.declared.extents.Extent.{Extent}
use Rattle.luks_rules.specs.declared.plan.Part.{Part}
use Rattle.luks_rules.specs.declared.plan.Plan.{Plan}
use Rattle.luks_rules.specs.declared.shape.Progress.{Progress}
use Rattle.luks_rules.proofs.ChoiceLemmas.{laid_by}
use Rattle.luks_rules.proofs.OneChoiceLemmas.{part_facts, step}

-- ---- segments on the disk
OnDisk : ℕ → List Extent → Type 0
OnDisk main [] = Unit {0}
OnDisk main (e ∷ es) = (e.offset + bytes_by main e.offset e.size ≤ main) × OnDisk main es

all_on : (sizes : Sizes) (ds : List (ℕ × Digest)) (ss : List (ℕ × Segment))
    → All (λ s. s.1.offset + bytes_of sizes s.1 ≤ main_bytes sizes) ss
    → OnDisk (main_bytes sizes) (map (extent_of ds) ss)
unfolding OnDisk
all_on sizes ds [] h = tt
all_on sizes ds (s ∷ ss) h =
    (h 0 s (omega arith), all_on sizes ds ss (λ k d l. h (suc k) d (omega arith)))

front_on : (main : ℕ) (es fs : List Extent) → OnDisk main (es ++ fs) → OnDisk main es
unfolding OnDisk
front_on main [] fs h = tt
front_on main (e ∷ es) fs h = (h.0, front_on main es fs h.1)

-- ---- and so are the parts that they are
AreOn : ℕ → ℕ → List Part → Type 0
AreOn atom main [] = Unit {0}
AreOn atom main (p ∷ ps) =
    (0 < p.blocks → p.whole.offset + p.from * atom + p.blocks * atom ≤ main) × AreOn atom main ps

sized_bytes : (main offset bytes : ℕ) (size : SegmentSize) → is_sized bytes size ≡ true
    → bytes_by main offset size ≡ bytes
sized_bytes main offset bytes Dynamic h = cc
sized_bytes main offset bytes (Sized n) h = eqb-true n bytes h

part_on : (atom main : ℕ) (p : Part) (e : Extent) → is_part atom p e ≡ true
    → e.offset + bytes_by main e.offset e.size ≤ main
    → p.whole.offset + p.from * atom + p.blocks * atom ≤ main
part_on atom main p e h on =
    let t = part_facts atom p e h in
    let bytes = sized_bytes main e.offset (p.blocks * atom) e.size t.3 in
    let at = t.2 in
    omega (arith, at, bytes, on)

parts_on : (atom main : ℕ) (ps : List Part) (live : List Extent) → OnDisk main live
    → laid_out atom ps live ≡ true → AreOn atom main ps
unfolding AreOn OnDisk
parts_on atom main [] live on h = tt
parts_on atom main (p ∷ ps) [] on h = elim (step atom p ps [] h) [
  | inl a ↦ (λ some. absurd (omega (arith, some, a.0)), parts_on atom main ps [] on a.1)
  | inr a ↦ let bad : false ≡ true = a.0 in cc
]
parts_on atom main (p ∷ ps) (e ∷ es) on h = elim (step atom p ps (e ∷ es) h) [
  | inl a ↦ (λ some. absurd (omega (arith, some, a.0)), parts_on atom main ps (e ∷ es) on a.1)
  | inr a ↦ (λ some. part_on atom main p e a.0 on.0, parts_on atom main ps es on.1 a.1)
]

-- ---- block by block
block_on : (atom main offset from blocks b : ℕ) → from ≤ b → b < from + blocks
    → (0 < blocks → offset + from * atom + blocks * atom ≤ main) → offset + b * atom + atom ≤ main
block_on atom main offset from blocks b low high on =
    let end = on (omega arith) in
    let last : b + 1 ≤ from + blocks = omega arith in
    let bytes : (b + 1) * atom ≤ (from + blocks) * atom = mul-le-mul_right atom last in
    omega (arith, end, bytes)

by_place : (atom main : ℕ) (d : Direction) (old new : Extent) (plan : Plan) (b : ℕ)
    → AreOn atom main (parts_of d old new plan) → b < blocks_in plan
    → place_at atom d old new plan b + atom ≤ main
unfolding AreOn
by_place atom main Forward old new plan b on h = go (nat_lt b plan.first) refl
  where
    late : plan.first ≤ b → (c : Bool) → nat_lt b (plan.first + plan.zone) ≡ c
        → old.offset + b * atom + atom ≤ main
    late low true e =
        block_on atom main old.offset plan.first plan.zone b low (ltb-true _ _ e) on.1.0
    late low false e =
        block_on atom main old.offset (plan.first + plan.zone) plan.last b (ltb-false _ _ e) h
        on.1.1.0

    go : (c : Bool) → nat_lt b plan.first ≡ c → (cond c new old).offset + b * atom + atom ≤ main
    go true e =
        block_on atom main new.offset 0 plan.first b (omega arith)
        (let low : b < plan.first = ltb-true _ _ e in omega (arith, low)) on.0
    go false e = late (ltb-false _ _ e) (nat_lt b (plan.first + plan.zone)) refl
by_place atom main Backward old new plan b on h = go (nat_lt b (plan.first + plan.zone)) refl
  where
    early : b < plan.first + plan.zone → (c : Bool) → nat_lt b plan.first ≡ c
        → old.offset + b * atom + atom ≤ main
    early high true e =
        block_on atom main old.offset 0 plan.first b (omega arith)
        (let low : b < plan.first = ltb-true _ _ e in omega (arith, low)) on.0
    early high false e =
        block_on atom main old.offset plan.first plan.zone b (ltb-false _ _ e) high on.1.0

    go : (c : Bool) → nat_lt b (plan.first + plan.zone) ≡ c
        → (cond c old new).offset + b * atom + atom ≤ main
    go true e = early (ltb-true _ _ e) (nat_lt b plan.first) refl
    go false e =
        block_on atom main new.offset (plan.first + plan.zone) plan.last b (ltb-false _ _ e) h
        on.1.1.0

pub on_disk : (m : Parts) (sizes : Sizes) (p : Progress) (live : List Extent)
    → All (λ s. s.1.offset + bytes_of sizes s.1 ≤ main_bytes sizes) m.segments
    → map (extent_of m.digests) m.segments ≡ live ++ p.old ∷ p.new ∷ []
    → IsState sizes.atom p.conversion live p.old p.new p.plan
    → (b : ℕ) → b < blocks_in p.plan
    → place_at sizes.atom p.conversion.direction p.old p.new p.plan b + sizes.atom
    ≤ main_bytes sizes
on_disk m sizes p live all is state b h =
    by_place sizes.atom (main_bytes sizes) p.conversion.direction p.old p.new p.plan b
    (parts_on sizes.atom (main_bytes sizes) (parts_of p.conversion.direction p.old p.new p.plan)
    live
    (front_on (main_bytes sizes) live (p.old ∷ p.new ∷ [])
    (subst (OnDisk (main_bytes sizes)) is (all_on sizes m.digests m.segments all)))
    (laid_by sizes.atom p.conversion p.old p.new live p.plan state.parts)) h
