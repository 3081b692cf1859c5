-- Each block of a volume under conversion lies in the live segment that its map names.
use Rattle.std.proofs.Common.{◌≡◌, ◌∙◌, inl, inr, ℕ, suc, zero, ◌+◌, ◌-◌, ◌*◌, ◌/◌, ◌%◌, ◌<◌}
use Rattle.std.proofs.Common.{◌≤◌, ◌++◌, ◌&&◌, not, eqb, cond, List, [], ◌∷◌, map}
use Rattle.std.proofs.Common.{drop, replicate, Option, Some, None, Bool, true, false, refl, sym, ap}
use Rattle.std.proofs.Common.{arith}
use Rattle.std.proofs.Math.Nat.{div-add-mod, mul-le-mul_right, mul_comm}
use Rattle.std.proofs.lemmas.Bool.{and_parts, cases_lt, eq-eqb, eqb-true, le-ltb, lt-ltb, ne_eqb}
use Rattle.std.specs.List.{slice_get}
use Rattle.std.specs.Option.{is_some, option_map}
use Rattle.base_terms.specs.declared.disk_sizes.Sizes.{Sizes}
use Rattle.luks_meta.specs.declared.reencrypt.Direction.{Direction}
use Rattle.luks_meta.specs.declared.reencrypt.Direction.TheVariants.{Forward, Backward}
use Rattle.luks_meta.specs.declared.reencrypt.Mode.{Mode}
use Rattle.luks_meta.specs.declared.reencrypt.Mode.TheVariants.{Reencrypt, Encrypt, Decrypt}
use Rattle.luks_meta.specs.declared.segment.Encryption.{Encryption}
use Rattle.luks_meta.specs.declared.segment.SegmentSize.{SegmentSize}
use Rattle.luks_meta.specs.declared.segment.SegmentSize.TheVariants.{Dynamic, Sized}
use Rattle.luks_rules.specs.Plans.{begins, blocks_in, is_marked, is_part, is_sized, laid_out}
use Rattle.luks_rules.specs.Plans.{parts_of, rest_of, same_digest}
use Rattle.luks_rules.specs.Shapes.{fits_mode, has_own_digest, have_two_digests}
use Rattle.luks_rules.specs.declared.extents.Extent.{Extent}
use Rattle.luks_rules.specs.declared.extents.Mark.{Mark}
use Rattle.luks_rules.specs.declared.extents.Mark.TheVariants as marks
use Rattle.luks_rules.specs.declared.shape.Progress.{Progress}
use Rattle.luks_rules.proofs.OneChoiceLemmas.{part_facts}
use Rattle.reenc_meta.specs.ConversionMaps.{IsMapAt, LiesIn, boundary_in, direction_of, live_size}
use Rattle.reenc_meta.specs.ConversionMaps.{segment_at, side_by, side_under}
use Rattle.reenc_meta.specs.Placements.{base_of, place_of}
use Rattle.segment_map.specs.Maps.{place_on, side_at, sides_of}
use Rattle.segment_map.specs.Sides.{sides}
use Rattle.segment_map.specs.declared.Side.{Side}
use Rattle.segment_map.specs.declared.Side.TheVariants.{Old, New, Zone}
use Rattle.segment_map.specs.declared.map.Map.{Map}

-- ---- the segment of a part
-- a segment is so many blocks of a whole one, from one of them on
pub record IsPartOf (atom : ℕ) (whole : Extent) (zone : Bool) (from blocks : ℕ) (e : Extent)
    : Type 0 where
  pub mark : is_marked zone e.mark ≡ true
  pub digest : same_digest whole.digest e.digest ≡ true
  pub offset : e.offset ≡ whole.offset + from * atom
  pub size : live_size e.size ≡ blocks * atom

sized : (bytes : ℕ) (size : SegmentSize) → is_sized bytes size ≡ true → live_size size ≡ bytes
sized bytes Dynamic is = let bad : false ≡ true = is in cc
sized bytes (Sized n) is = eqb-true n bytes is

part_of : (atom : ℕ) (whole : Extent) (zone : Bool) (from blocks : ℕ) (e : Extent)
    → is_part atom (record { whole = whole; zone = zone; from = from; blocks = blocks }) e ≡ true
    → IsPartOf atom whole zone from blocks e
part_of atom whole zone from blocks e is =
    let facts = part_facts atom
    (record { whole = whole; zone = zone; from = from; blocks = blocks }) e is in
    record {
      mark = facts.0;
      digest = facts.1;
      offset = facts.2;
      size = sized (blocks * atom) e.size facts.3;
    }

-- The bytes of a part are in its segment; those behind it are in what comes behind that.
pub record Sought (atom : ℕ) (whole : Extent) (zone : Bool) (from blocks : ℕ)
    (test : List Extent → Bool) (live : List Extent) : Type 0 where
  pub rest : List Extent
  pub passed : test rest ≡ true
  pub within : (at : ℕ) → at < blocks * atom
      → (e : Extent) × (segment_at at live ≡ Some (e, at)) × IsPartOf atom whole zone from blocks e
  pub beyond : (at : ℕ) → blocks * atom ≤ at
      → segment_at at live ≡ segment_at (at - blocks * atom) rest

seek : (atom : ℕ) (whole : Extent) (zone : Bool) (from blocks : ℕ) (test : List Extent → Bool)
    (live : List Extent)
    → cond (eqb blocks 0) (test live)
    (begins atom (record { whole = whole; zone = zone; from = from; blocks = blocks }) live
    && test (rest_of live)) ≡ true
    → Sought atom whole zone from blocks test live
unfolding segment_at
seek atom whole zone from blocks test live is = go (eqb blocks 0) refl live is
  where
    go : (b : Bool) → eqb blocks 0 ≡ b → (live : List Extent)
        → cond b (test live)
        (begins atom (record { whole = whole; zone = zone; from = from; blocks = blocks }) live
        && test (rest_of live)) ≡ true
        → Sought atom whole zone from blocks test live
    go true none live is =
        let zero : blocks ≡ 0 = eqb-true blocks 0 none in
        let bytes : blocks * atom ≡ 0 = rw zero (omega arith) in
        record {
          rest = live;
          passed = is;
          within = λ at below. absurd (omega (arith, below, bytes));
          beyond = λ at far. ap (λ n. segment_at n live)
              (let same : at ≡ at - blocks * atom = omega (arith, bytes) in same);
        }
    go false some [] is = let bad : false ≡ true = is in cc
    go false some (e ∷ es) is =
        let parts = and_parts
        (is_part atom (record { whole = whole; zone = zone; from = from; blocks = blocks }) e)
        (test es) is in
        let part = part_of atom whole zone from blocks e parts.0 in
        let bytes = part.size in
        record {
          rest = es;
          passed = parts.1;
          within = λ at below. (
            e,
            ap (λ b. cond b (Some (e, at)) (segment_at (at - live_size e.size) es))
                (lt-ltb at (live_size e.size) (omega (arith, below, bytes))),
            part,
          );
          beyond = λ at far.
              ap (λ b. cond b (Some (e, at)) (segment_at (at - live_size e.size) es))
              (le-ltb at (live_size e.size) (omega (arith, far, bytes)))
              ∙ ap (λ n. segment_at (at - n) es) bytes;
        }

-- ---- runs of sides
pub in-run : (n k : ℕ) (side : Side) (rest : List Side) → k < n
    → slice_get (replicate n side ++ rest) k ≡ Some side
in-run zero k side rest below = absurd (omega (arith, below))
in-run (suc n) zero side rest below = refl
in-run (suc n) (suc k) side rest below = in-run n k side rest (omega (arith, below))

pub behind-run : (n k : ℕ) (side : Side) (rest : List Side) → n ≤ k
    → slice_get (replicate n side ++ rest) k ≡ slice_get rest (k - n)
behind-run zero k side rest far = ap (slice_get rest) (let same : k ≡ k - 0 = omega arith in same)
behind-run (suc n) zero side rest far = absurd (omega (arith, far))
behind-run (suc n) (suc k) side rest far =
    behind-run n k side rest (omega (arith, far))
    ∙ ap (slice_get rest) (let same : k - n ≡ suc k - suc n = omega arith in same)

last_run : (n k : ℕ) (side : Side) → k < n → slice_get (replicate n side) k ≡ Some side
last_run zero k side below = absurd (omega (arith, below))
last_run (suc n) zero side below = refl
last_run (suc n) (suc k) side below = last_run n k side (omega (arith, below))

-- ---- the side of a segment, by its flag and its digest
unmarked : (m : Mark) (side : Side) → is_marked false m ≡ true → side_by m side ≡ side
unmarked marks.Plain side is = refl
unmarked marks.Zone side is = let bad : false ≡ true = is in cc
unmarked marks.Previous side is = refl
unmarked marks.Final side is = refl
unmarked marks.Other side is = refl

zone_marked : (m : Mark) (side : Side) → is_marked true m ≡ true → side_by m side ≡ Zone
zone_marked marks.Plain side is = let bad : false ≡ true = is in cc
zone_marked marks.Zone side is = refl
zone_marked marks.Previous side is = let bad : false ≡ true = is in cc
zone_marked marks.Final side is = let bad : false ≡ true = is in cc
zone_marked marks.Other side is = let bad : false ≡ true = is in cc

pub new-side : (p : Progress) (e : Extent) → is_marked false e.mark ≡ true
    → same_digest p.new.digest e.digest ≡ true → side_under p e ≡ New
new-side p e mark digest =
    unmarked e.mark _ mark ∙ ap (λ b. cond b New Old) digest

pub zone-side : (p : Progress) (e : Extent) → is_marked true e.mark ≡ true → side_under p e ≡ Zone
zone-side p e mark = zone_marked e.mark _ mark

-- what is under the old digest isn't under the new one
other_digest : (old new found : Option ℕ) → have_two_digests old new ≡ true
    → (old ≡ None → new ≡ None → ⊥) → same_digest old found ≡ true
    → same_digest new found ≡ false
other_digest None None found two some same = absurd (some refl refl)
other_digest None (Some e) None two some same = refl
other_digest None (Some e) (Some n) two some same = let bad : false ≡ true = same in cc
other_digest (Some d) None None two some same = let bad : false ≡ true = same in cc
other_digest (Some d) None (Some n) two some same = refl
other_digest (Some d) (Some e) None two some same = let bad : false ≡ true = same in cc
other_digest (Some d) (Some e) (Some n) two some same =
    let here : d ≡ n = eqb-true d n same in
    ne_eqb e n (λ there.
    let both : d ≡ e = here ∙ sym there in
    let bad : not (eqb d e) ≡ false = ap not (eq-eqb d e both) in
    let worse : true ≡ false = sym two ∙ bad in cc)

pub old-side : (p : Progress) (e : Extent) → have_two_digests p.old.digest p.new.digest ≡ true
    → (p.old.digest ≡ None → p.new.digest ≡ None → ⊥)
    → is_marked false e.mark ≡ true → same_digest p.old.digest e.digest ≡ true
    → side_under p e ≡ Old
old-side p e two some mark digest =
    unmarked e.mark _ mark
    ∙ ap (λ b. cond b New Old) (other_digest p.old.digest p.new.digest e.digest two some digest)

-- ---- a block of the volume
-- the byte of a block, by its place and by its segment
place_is : (base offset atom b from at : ℕ) → offset % atom ≡ 0 → from ≤ b
    → at ≡ base + offset / atom + b
    → at * atom ≡ base * atom + (offset + from * atom + (b - from) * atom)
place_is base offset atom b from at whole low is =
    let parts = div-add-mod offset atom in
    let turned = mul_comm atom (offset / atom) in
    let sum : from + (b - from) ≡ b = omega (arith, low) in
    let both = ap (λ n. n * atom) sum in
    let all = ap (λ n. n * atom) is in
    omega (arith, parts, turned, whole, both, all)

some_place : (o : Option Side) (f : Side → ℕ) (side : Side) (at : ℕ) → o ≡ Some side
    → option_map f o ≡ Some at → at ≡ f side
some_place o f side at is found =
    let here : Some (f side) ≡ Some at = sym (ap (option_map f) is) ∙ found in cc

pub lies-in : (sizes : Sizes) (p : Progress) (live : List Extent) (map : Map) (b : ℕ)
    (whole : Extent) (zone : Bool) (from n : ℕ) (e : Extent) (side : Side)
    → map.atom ≡ sizes.atom → whole.offset % sizes.atom ≡ 0 → from ≤ b
    → segment_at (b * sizes.atom) live ≡ Some (e, (b - from) * sizes.atom)
    → IsPartOf sizes.atom whole zone from n e → side_at map b ≡ Some side
    → side_under p e ≡ side → place_on map b side ≡ place_of sizes whole + b
    → LiesIn sizes p live map b
lies-in sizes p live map b whole zone from n e side atom even low there part is same place =
    record {
      segment = e;
      behind = (b - from) * sizes.atom;
      there = there;
      side = is ∙ ap Some (sym same);
      place = λ at found.
          (let here = some_place (side_at map b) (place_on map b) side at is found ∙ place in
          let bytes = place_is (base_of sizes) whole.offset sizes.atom b from at even low here in
          let start = part.offset in
          omega (arith, bytes, start));
    }

-- a block's byte is before the end of so many blocks, or not
block_below : (b n atom : ℕ) → 0 < atom → b < n → b * atom < n * atom
block_below b n atom some below =
    let more = mul-le-mul_right atom (let next : b + 1 ≤ n = omega (arith, below) in next) in
    omega (arith, more, some)

behind_bytes : (b n atom : ℕ) → n ≤ b → b * atom - n * atom ≡ (b - n) * atom
behind_bytes b n atom far =
    let sum : n + (b - n) ≡ b = omega (arith, far) in
    let both = ap (λ k. k * atom) sum in
    omega (arith, both)

module _ (sizes : Sizes) (p : Progress) (live : List Extent) (map : Map) (atom : 0 < sizes.atom)
    (old : p.old.offset % sizes.atom ≡ 0) (new : p.new.offset % sizes.atom ≡ 0)
    (is : IsMapAt sizes p map) (two : have_two_digests p.old.digest p.new.digest ≡ true)
    (some : p.old.digest ≡ None → p.new.digest ≡ None → ⊥) where
  old_place : (b : ℕ) → place_on map b Old ≡ place_of sizes p.old + b
  old_place b = ap (λ n. n + b) is.old_place

  zone_place : (b : ℕ) → place_on map b Zone ≡ place_of sizes p.old + b
  zone_place b = ap (λ n. n + b) is.old_place

  new_place : (b : ℕ) → place_on map b New ≡ place_of sizes p.new + b
  new_place b = ap (λ n. n + b) is.new_place

  -- the sides of the map, by the plan
  forward_sides : p.conversion.direction ≡ Forward
      → sides_of map ≡ replicate p.plan.first New
      ++ (replicate p.plan.zone Zone
      ++ replicate (blocks_in p.plan - p.plan.first - p.plan.zone) Old)
  forward_sides forward =
      (λ i. sides (is.direction i) (is.blocks i) (is.boundary i) (is.zone i))
      ∙ ap (λ d. sides (direction_of d) (blocks_in p.plan) (boundary_in d p.plan) p.plan.zone)
      forward

  backward_sides : p.conversion.direction ≡ Backward
      → sides_of map ≡ replicate (p.plan.first + p.plan.zone - p.plan.zone) Old
      ++ (replicate p.plan.zone Zone
      ++ replicate (blocks_in p.plan - (p.plan.first + p.plan.zone)) New)
  backward_sides backward =
      (λ i. sides (is.direction i) (is.blocks i) (is.boundary i) (is.zone i))
      ∙ ap (λ d. sides (direction_of d) (blocks_in p.plan) (boundary_in d p.plan) p.plan.zone)
      backward

  forward_at : (b : ℕ) (side : Side) → p.conversion.direction ≡ Forward
      → slice_get (replicate p.plan.first New
      ++ (replicate p.plan.zone Zone
      ++ replicate (blocks_in p.plan - p.plan.first - p.plan.zone) Old)) b ≡ Some side
      → side_at map b ≡ Some side
  forward_at b side forward here = ap (λ xs. slice_get xs b) (forward_sides forward) ∙ here

  backward_at : (b : ℕ) (side : Side) → p.conversion.direction ≡ Backward
      → slice_get (replicate (p.plan.first + p.plan.zone - p.plan.zone) Old
      ++ (replicate p.plan.zone Zone
      ++ replicate (blocks_in p.plan - (p.plan.first + p.plan.zone)) New)) b ≡ Some side
      → side_at map b ≡ Some side
  backward_at b side backward here = ap (λ xs. slice_get xs b) (backward_sides backward) ∙ here

  -- a block of the first, the second and the last part
  in_first : (w : Extent) (z : Bool) (test : List Extent → Bool)
      → (s : Sought sizes.atom w z 0 p.plan.first test live) → (b : ℕ) → b < p.plan.first
      → (e : Extent) × (segment_at (b * sizes.atom) live ≡ Some (e, (b - 0) * sizes.atom))
      × IsPartOf sizes.atom w z 0 p.plan.first e
  in_first w z test s b below =
      let found = s.within (b * sizes.atom) (block_below b p.plan.first sizes.atom atom below) in (
        found.0,
        found.1 ∙ ap (λ k. Some (found.0, k * sizes.atom))
            (let same : b ≡ b - 0 = omega arith in same),
        found.2,
      )

  in_second : (w x : Extent) (z y : Bool) (f g : List Extent → Bool)
      → (s : Sought sizes.atom w z 0 p.plan.first f live)
      → (t : Sought sizes.atom x y p.plan.first p.plan.zone g s.rest)
      → (b : ℕ) → p.plan.first ≤ b → b < p.plan.first + p.plan.zone
      → (e : Extent)
      × (segment_at (b * sizes.atom) live ≡ Some (e, (b - p.plan.first) * sizes.atom))
      × IsPartOf sizes.atom x y p.plan.first p.plan.zone e
  in_second w x z y f g s t b low below =
      let found = t.within ((b - p.plan.first) * sizes.atom)
      (block_below (b - p.plan.first) p.plan.zone sizes.atom atom (omega (arith, low, below))) in (
        found.0,
        s.beyond (b * sizes.atom) (mul-le-mul_right sizes.atom low)
            ∙ ap (λ n. segment_at n s.rest) (behind_bytes b p.plan.first sizes.atom low)
            ∙ found.1,
        found.2,
      )

  in_third : (w x v : Extent) (z y u : Bool) (f g h : List Extent → Bool)
      → (s : Sought sizes.atom w z 0 p.plan.first f live)
      → (t : Sought sizes.atom x y p.plan.first p.plan.zone g s.rest)
      → (r : Sought sizes.atom v u (p.plan.first + p.plan.zone) p.plan.last h t.rest)
      → (b : ℕ) → p.plan.first + p.plan.zone ≤ b → b < blocks_in p.plan
      → (e : Extent)
      × (segment_at (b * sizes.atom) live
      ≡ Some (e, (b - (p.plan.first + p.plan.zone)) * sizes.atom))
      × IsPartOf sizes.atom v u (p.plan.first + p.plan.zone) p.plan.last e
  in_third w x v z y u f g h s t r b low below =
      let left : b - p.plan.first - p.plan.zone ≡ b - (p.plan.first + p.plan.zone) =
      omega (arith, low) in
      let found = r.within ((b - p.plan.first - p.plan.zone) * sizes.atom)
      (block_below (b - p.plan.first - p.plan.zone) p.plan.last sizes.atom atom
      (omega (arith, low, below))) in
      let one : p.plan.first ≤ b = omega (arith, low) in
      let two : p.plan.zone ≤ b - p.plan.first = omega (arith, low) in (
        found.0,
        s.beyond (b * sizes.atom) (mul-le-mul_right sizes.atom one)
            ∙ ap (λ n. segment_at n s.rest) (behind_bytes b p.plan.first sizes.atom one)
            ∙ t.beyond ((b - p.plan.first) * sizes.atom) (mul-le-mul_right sizes.atom two)
            ∙ ap (λ n. segment_at n t.rest)
            (behind_bytes (b - p.plan.first) p.plan.zone sizes.atom two)
            ∙ found.1
            ∙ ap (λ n. Some (found.0, n * sizes.atom)) left,
        found.2,
      )

  old_in_segment : (b from n : ℕ) (e : Extent) → from ≤ b
      → segment_at (b * sizes.atom) live ≡ Some (e, (b - from) * sizes.atom)
      → IsPartOf sizes.atom p.old false from n e → side_at map b ≡ Some Old
      → LiesIn sizes p live map b
  old_in_segment b from n e low there part at =
      lies-in sizes p live map b p.old false from n e Old is.atom old low there part at
      (old-side p e two some part.mark part.digest) (old_place b)

  zone_in_segment : (b from n : ℕ) (e : Extent) → from ≤ b
      → segment_at (b * sizes.atom) live ≡ Some (e, (b - from) * sizes.atom)
      → IsPartOf sizes.atom p.old true from n e → side_at map b ≡ Some Zone
      → LiesIn sizes p live map b
  zone_in_segment b from n e low there part at =
      lies-in sizes p live map b p.old true from n e Zone is.atom old low there part at
      (zone-side p e part.mark) (zone_place b)

  new_in_segment : (b from n : ℕ) (e : Extent) → from ≤ b
      → segment_at (b * sizes.atom) live ≡ Some (e, (b - from) * sizes.atom)
      → IsPartOf sizes.atom p.new false from n e → side_at map b ≡ Some New
      → LiesIn sizes p live map b
  new_in_segment b from n e low there part at =
      lies-in sizes p live map b p.new false from n e New is.atom new low there part at
      (new-side p e part.mark part.digest) (new_place b)

  forward : p.conversion.direction ≡ Forward
      → laid_out sizes.atom (parts_of Forward p.old p.new p.plan) live ≡ true
      → (b : ℕ) → b < blocks_in p.plan → LiesIn sizes p live map b
  unfolding laid_out
  forward d laid b below =
      let f = laid_out sizes.atom (drop 1 (parts_of Forward p.old p.new p.plan)) in
      let g = laid_out sizes.atom (drop 2 (parts_of Forward p.old p.new p.plan)) in
      let h = laid_out sizes.atom (drop 3 (parts_of Forward p.old p.new p.plan)) in
      let s = seek sizes.atom p.new false 0 p.plan.first f live laid in
      let t = seek sizes.atom p.old true p.plan.first p.plan.zone g s.rest s.passed in
      let r = seek sizes.atom p.old false (p.plan.first + p.plan.zone) p.plan.last h t.rest t.passed
      in
      elim (cases_lt b p.plan.first) [
        | inl in_new ↦
            let found = in_first p.new false f s b in_new in
            new_in_segment b 0 p.plan.first found.0 (omega arith) found.1 found.2
            (forward_at b New d (in-run p.plan.first b New _ in_new))
        | inr past_new ↦ elim (cases_lt b (p.plan.first + p.plan.zone)) [
          | inl in_zone ↦
              let found = in_second p.new p.old false true f g s t b past_new in_zone in
              zone_in_segment b p.plan.first p.plan.zone found.0 past_new found.1 found.2
              (forward_at b Zone d (behind-run p.plan.first b New _ past_new
              ∙ in-run p.plan.zone (b - p.plan.first) Zone _ (omega (arith, past_new, in_zone))))
          | inr past_zone ↦
              let found =
              in_third p.new p.old p.old false true false f g h s t r b past_zone below in
              old_in_segment b (p.plan.first + p.plan.zone) p.plan.last found.0 past_zone found.1
              found.2
              (forward_at b Old d (behind-run p.plan.first b New _ past_new
              ∙ behind-run p.plan.zone (b - p.plan.first) Zone _ (omega (arith, past_zone))
              ∙ last_run (blocks_in p.plan - p.plan.first - p.plan.zone)
              (b - p.plan.first - p.plan.zone) Old (omega (arith, past_zone, below))))
        ]
      ]

  backward : p.conversion.direction ≡ Backward
      → laid_out sizes.atom (parts_of Backward p.old p.new p.plan) live ≡ true
      → (b : ℕ) → b < blocks_in p.plan → LiesIn sizes p live map b
  unfolding laid_out
  backward d laid b below =
      let f = laid_out sizes.atom (drop 1 (parts_of Backward p.old p.new p.plan)) in
      let g = laid_out sizes.atom (drop 2 (parts_of Backward p.old p.new p.plan)) in
      let h = laid_out sizes.atom (drop 3 (parts_of Backward p.old p.new p.plan)) in
      let s = seek sizes.atom p.old false 0 p.plan.first f live laid in
      let t = seek sizes.atom p.old true p.plan.first p.plan.zone g s.rest s.passed in
      let r = seek sizes.atom p.new false (p.plan.first + p.plan.zone) p.plan.last h t.rest t.passed
      in
      let run : p.plan.first + p.plan.zone - p.plan.zone ≡ p.plan.first = omega arith in
      elim (cases_lt b p.plan.first) [
        | inl in_old ↦
            let found = in_first p.old false f s b in_old in
            old_in_segment b 0 p.plan.first found.0 (omega arith) found.1 found.2
            (backward_at b Old d (in-run (p.plan.first + p.plan.zone - p.plan.zone) b Old _
            (omega (arith, in_old, run))))
        | inr past_old ↦ elim (cases_lt b (p.plan.first + p.plan.zone)) [
          | inl in_zone ↦
              let found = in_second p.old p.old false true f g s t b past_old in_zone in
              zone_in_segment b p.plan.first p.plan.zone found.0 past_old found.1 found.2
              (backward_at b Zone d
              (behind-run (p.plan.first + p.plan.zone - p.plan.zone) b Old _
              (omega (arith, past_old, run))
              ∙ in-run p.plan.zone (b - (p.plan.first + p.plan.zone - p.plan.zone)) Zone _
              (omega (arith, past_old, in_zone, run))))
          | inr past_zone ↦
              let found =
              in_third p.old p.old p.new false true false f g h s t r b past_zone below in
              new_in_segment b (p.plan.first + p.plan.zone) p.plan.last found.0 past_zone found.1
              found.2
              (backward_at b New d
              (behind-run (p.plan.first + p.plan.zone - p.plan.zone) b Old _
              (omega (arith, past_zone, run))
              ∙ behind-run p.plan.zone (b - (p.plan.first + p.plan.zone - p.plan.zone)) Zone _
              (omega (arith, past_zone, run))
              ∙ last_run (blocks_in p.plan - (p.plan.first + p.plan.zone))
              (b - (p.plan.first + p.plan.zone - p.plan.zone) - p.plan.zone) New
              (omega (arith, past_zone, below, run))))
        ]
      ]

  pub blocks-lie : (d : Direction) → p.conversion.direction ≡ d
      → laid_out sizes.atom (parts_of d p.old p.new p.plan) live ≡ true
      → (b : ℕ) → b < blocks_in p.plan → LiesIn sizes p live map b
  blocks-lie Forward is_forward laid = forward is_forward laid
  blocks-lie Backward is_backward laid = backward is_backward laid

-- ---- a conversion has an encrypted side
neither : (mode : Mode) → fits_mode mode false false ≡ true → ⊥
neither Reencrypt h = let bad : false ≡ true = h in cc
neither Encrypt h = let bad : false ≡ true = h in cc
neither Decrypt h = let bad : false ≡ true = h in cc

pub not-both : (mode : Mode) (old new : Option Encryption) (d e : Option ℕ)
    → fits_mode mode (is_some old) (is_some new) ≡ true → has_own_digest old d ≡ true
    → has_own_digest new e ≡ true → d ≡ None → e ≡ None → ⊥
not-both mode None None d e fits own other none nothing = neither mode fits
not-both mode (Some o) new None e fits own other none nothing =
    let bad : false ≡ true = own in cc
not-both mode (Some o) new (Some d) e fits own other none nothing = cc
not-both mode None (Some n) d None fits own other none nothing =
    let bad : false ≡ true = other in cc
not-both mode None (Some n) d (Some e) fits own other none nothing = cc
