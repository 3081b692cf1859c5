-- Lanes moved within a plane.
use Rattle.std.proofs.Common.{◌≡◌, ℕ, List, ◌++◌, length, slice_index, get_or, true, T, ap, ◌∙◌}
use Rattle.std.proofs.Common.{arith}
use Rattle.std.specs.Simd.Lanes.{pick_l, all_below}
use Rattle.std.proofs.lemmas.List.{get_or-map}
use Rattle.std.proofs.lemmas.Simd.{pick_l_left}
use Rattle.aes_core.specs.Planes.{place}
use Rattle.aes_core.specs.Laws.Bytes.{agree_below, agree_at}

-- the lanes of v taken from these places, where the lane at p comes from `from p`
pub moved : (places : List ℕ) (from : ℕ → ℕ) → length places ≡ 16 → T (all_below 16 places)
    → agree_below (slice_index places) from 16 ≡ true
    → (v : List ℕ) → length v ≡ 16 → (r c to : ℕ) → from (place r c) ≡ to
    → slice_index (pick_l 0 (v ++ v) places) (place r c) ≡ slice_index v to
moved places from sixteen below computed v long r c to is =
    ap (λ lanes. slice_index lanes (place r c)) (pick_l_left 0 v v 16 places long below)
    ∙ get_or-map (λ k. get_or v k 0) places (place r c) 0 0 (omega (arith, sixteen))
    ∙ ap (slice_index v)
    (agree_at (slice_index places) from 16 computed (place r c) (omega arith) ∙ is)
