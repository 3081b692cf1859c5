-- Each run of a later state ends within its whole segment.
use Rattle.std.proofs.Common.{◌≡◌, ◌∙◌, ℕ, ◌+◌, ◌-◌, ◌*◌, ◌<◌, ◌≤◌, cond, eqb, nat_lt}
use Rattle.std.proofs.Common.{Bool, List, true, false, refl, sym, ap, subst, arith}
use Rattle.std.proofs.Math.Nat.{mul-le-mul_right}
use Rattle.std.proofs.lemmas.Bool.{and_parts, eqb-true, le-ltb, lt-ltb}
use Rattle.base_terms.specs.declared.disk_sizes.Sizes.{Sizes}
use Rattle.luks_meta.specs.declared.meta.Parts.{Parts}
use Rattle.luks_meta.specs.declared.reencrypt.Direction.{Direction}
use Rattle.luks_meta.specs.declared.reencrypt.Direction.TheVariants.{Forward, Backward}
use Rattle.luks_meta.specs.declared.reencrypt.Resilience.{Resilience}
use Rattle.luks_meta.specs.declared.reencrypt.Resilience.TheVariants.{Journal, Checksum, Datashift}
use Rattle.luks_meta.specs.declared.segment.SegmentSize.{SegmentSize}
use Rattle.luks_meta.specs.declared.segment.SegmentSize.TheVariants.{Dynamic, Sized}
use Rattle.luks_rules.specs.Areas.{main_bytes}
use Rattle.luks_rules.specs.Plans.{blocks_in, whole_at}
use Rattle.luks_rules.specs.Segments.{bytes_by}
use Rattle.luks_rules.specs.Shapes.{fits_place, is_next_size, is_whole_size}
use Rattle.luks_rules.specs.Shapes.{stays_dynamic}
use Rattle.luks_rules.specs.States.{IsConverting}
use Rattle.luks_rules.specs.declared.extents.Extent.{Extent}
use Rattle.luks_rules.specs.declared.plan.Plan.{Plan}
use Rattle.luks_rules.specs.declared.shape.Progress.{Progress}
use Rattle.reenc_meta.specs.Layouts.{whole_on}
use Rattle.reenc_meta.specs.Moves.{IsOnward, MayBecome}
use Rattle.reenc_meta.proofs.RunLemmas.{run_on}
use Rattle.reenc_meta.proofs.SegmentLemmas.{IsIn}
use Rattle.reenc_meta.proofs.WholeLemmas.{whole-place, whole-sizes}
use Rattle.segment_map.specs.declared.Side.{Side}
use Rattle.segment_map.specs.declared.Side.TheVariants.{Old, New, Zone}

-- ---- so many blocks are within a whole segment
sized_room : (n bytes : ℕ) (c blocks atom : ℕ) → n ≡ blocks * atom → c ≤ blocks → c * atom ≤ n
sized_room n bytes c blocks atom is few = rw is (mul-le-mul_right atom few)

old_room : (size : SegmentSize) (last offset atom c blocks : ℕ)
    → is_whole_size (blocks * atom) size ≡ true → c ≤ blocks → offset + c * atom ≤ last
    → c * atom ≤ bytes_by last offset size
old_room Dynamic last offset atom c blocks is few on = omega (arith, on)
old_room (Sized n) last offset atom c blocks is few on =
    sized_room n 0 c blocks atom (eqb-true n (blocks * atom) is) few

new_room : (dynamic : Bool) (size : SegmentSize) (last offset atom c blocks : ℕ)
    → is_next_size (blocks * atom) dynamic size ≡ true → c ≤ blocks
    → (dynamic ≡ true → offset + c * atom ≤ last) → c * atom ≤ bytes_by last offset size
new_room true Dynamic last offset atom c blocks is few on =
    let here = on refl in omega (arith, here)
new_room true (Sized n) last offset atom c blocks is few on = let bad : false ≡ true = is in cc
new_room false Dynamic last offset atom c blocks is few on = let bad : false ≡ true = is in cc
new_room false (Sized n) last offset atom c blocks is few on =
    sized_room n 0 c blocks atom (eqb-true n (blocks * atom) is) few

-- without a shift the two begin at one place
one_place : (atom : ℕ) (r : Resilience) (size : SegmentSize) (old new : ℕ)
    → fits_place atom r old new ≡ true → stays_dynamic r size ≡ true → new ≡ old
one_place atom Journal size old new place dynamic = eqb-true new old place
one_place atom (Checksum n) size old new place dynamic =
    eqb-true new old (and_parts (eqb n atom) (eqb new old) place).1
one_place atom (Datashift n) size old new place dynamic =
    let bad : false ≡ true = dynamic in cc

either_place : (d : Direction) (old new : Extent) (plan : Plan) (b : ℕ) → new.offset ≡ old.offset
    → (whole_at d old new plan b).offset ≡ new.offset
either_place Forward old new plan b same = go (nat_lt b plan.first)
  where
    go : (t : Bool) → (cond t new old).offset ≡ new.offset
    go true = refl
    go false = sym same
either_place Backward old new plan b same = go (nat_lt b (plan.first + plan.zone))
  where
    go : (t : Bool) → (cond t old new).offset ≡ new.offset
    go true = sym same
    go false = refl

-- ---- of a conversion
module _ (m : Parts) (sizes : Sizes) (p : Progress) (live : List Extent)
    (conv : IsConverting m sizes p live) where
  -- the last of so many blocks
  block_before : (c atom : ℕ) → 0 < c → (c - 1) * atom + atom ≡ c * atom
  block_before c atom some =
      let one : c - 1 + 1 ≡ c = omega (arith, some) in
      (omega arith) ∙ ap (λ n. n * atom) one

  old_in : (c : ℕ) → 0 < c → c ≤ blocks_in p.plan
      → whole_at p.conversion.direction p.old p.new p.plan (c - 1) ≡ p.old
      → c * sizes.atom ≤ bytes_by (main_bytes sizes) p.old.offset p.old.size
  old_in c some few is =
      let sized = whole-sizes sizes.atom p.conversion p.old p.new live p.plan conv.state.parts in
      let on = conv.places (c - 1) (omega (arith, some, few)) in
      let at = block_before c sizes.atom some in
      let here = subst (λ (e : Extent). e.offset + (c - 1) * sizes.atom + sizes.atom
      ≤ main_bytes sizes) is on in
      old_room p.old.size (main_bytes sizes) p.old.offset sizes.atom c (blocks_in p.plan) sized.0
      few (omega (arith, here, at))

  pub new-in : (c : ℕ) → 0 < c → c ≤ blocks_in p.plan
      → c * sizes.atom ≤ bytes_by (main_bytes sizes) p.new.offset p.new.size
  new-in c some few =
      let sized = whole-sizes sizes.atom p.conversion p.old p.new live p.plan conv.state.parts in
      let place = whole-place sizes.atom p.conversion p.old p.new conv.state.wholes in
      let on = conv.places (c - 1) (omega (arith, some, few)) in
      let at = block_before c sizes.atom some in
      new_room (stays_dynamic p.conversion.resilience p.old.size) p.new.size (main_bytes sizes)
      p.new.offset sizes.atom c (blocks_in p.plan) sized.1 few
      (λ dynamic.
      let same = one_place sizes.atom p.conversion.resilience p.old.size p.old.offset p.new.offset
      place dynamic in
      let here = either_place p.conversion.direction p.old p.new p.plan (c - 1) same in
      omega (arith, on, at, here))

  old_forward : (b : ℕ) → p.plan.first ≤ b → whole_at Forward p.old p.new p.plan b ≡ p.old
  old_forward b far = ap (λ t. cond t p.new p.old) (le-ltb b p.plan.first far)

  old_backward : (b : ℕ) → b < p.plan.first + p.plan.zone
      → whole_at Backward p.old p.new p.plan b ≡ p.old
  old_backward b below = ap (λ t. cond t p.old p.new) (lt-ltb b (p.plan.first + p.plan.zone) below)

  two_products : (a b atom : ℕ) → a * atom + b * atom ≡ (a + b) * atom
  two_products a b atom = omega arith

  in_forward : (plan : Plan) → p.conversion.direction ≡ Forward → blocks_in plan ≡ blocks_in p.plan
      → p.plan.first ≤ plan.first → (side : Side) → 0 < (run_on Forward plan side).blocks
      → IsIn sizes (whole_on p (run_on Forward plan side).side) (run_on Forward plan side)
  in_forward plan forward blocks onward New some =
      let here = new-in plan.first some (omega (arith, blocks)) in
      let sum = two_products 0 plan.first sizes.atom in
      omega (arith, here, sum)
  in_forward plan forward blocks onward Zone some =
      let here = old_in (plan.first + plan.zone) (omega (arith, some)) (omega (arith, blocks))
      (ap (λ d. whole_at d p.old p.new p.plan (plan.first + plan.zone - 1)) forward
      ∙ old_forward (plan.first + plan.zone - 1) (omega (arith, onward, some))) in
      let sum = two_products plan.first plan.zone sizes.atom in
      omega (arith, here, sum)
  in_forward plan forward blocks onward Old some =
      let here = old_in (plan.first + plan.zone + plan.last) (omega (arith, some))
      (omega (arith, blocks))
      (ap (λ d. whole_at d p.old p.new p.plan (plan.first + plan.zone + plan.last - 1)) forward
      ∙ old_forward (plan.first + plan.zone + plan.last - 1) (omega (arith, onward, some))) in
      let sum = two_products (plan.first + plan.zone) plan.last sizes.atom in
      omega (arith, here, sum)

  in_backward : (plan : Plan) → p.conversion.direction ≡ Backward
      → blocks_in plan ≡ blocks_in p.plan → p.plan.last ≤ plan.last → (side : Side)
      → 0 < (run_on Backward plan side).blocks
      → IsIn sizes (whole_on p (run_on Backward plan side).side) (run_on Backward plan side)
  in_backward plan backward blocks onward New some =
      let here = new-in (plan.first + plan.zone + plan.last) (omega (arith, some))
      (omega (arith, blocks)) in
      let sum = two_products (plan.first + plan.zone) plan.last sizes.atom in
      omega (arith, here, sum)
  in_backward plan backward blocks onward Zone some =
      let here = old_in (plan.first + plan.zone) (omega (arith, some)) (omega (arith, blocks))
      (ap (λ d. whole_at d p.old p.new p.plan (plan.first + plan.zone - 1)) backward
      ∙ old_backward (plan.first + plan.zone - 1) (omega (arith, onward, blocks, some))) in
      let sum = two_products plan.first plan.zone sizes.atom in
      omega (arith, here, sum)
  in_backward plan backward blocks onward Old some =
      let here = old_in plan.first some (omega (arith, blocks))
      (ap (λ d. whole_at d p.old p.new p.plan (plan.first - 1)) backward
      ∙ old_backward (plan.first - 1) (omega (arith, onward, blocks, some))) in
      let sum = two_products 0 plan.first sizes.atom in
      omega (arith, here, sum)

  in_direction : (plan : Plan) (d : Direction) → p.conversion.direction ≡ d
      → blocks_in plan ≡ blocks_in p.plan → IsOnward d p.plan plan → (side : Side)
      → 0 < (run_on d plan side).blocks
      → IsIn sizes (whole_on p (run_on d plan side).side) (run_on d plan side)
  in_direction plan Forward is blocks onward = in_forward plan is blocks onward
  in_direction plan Backward is blocks onward = in_backward plan is blocks onward

  pub runs-in : (plan : Plan) → MayBecome sizes.atom p plan → (side : Side)
      → 0 < (run_on p.conversion.direction plan side).blocks
      → IsIn sizes (whole_on p (run_on p.conversion.direction plan side).side)
      (run_on p.conversion.direction plan side)
  runs-in plan may = in_direction plan p.conversion.direction refl may.blocks may.onward
