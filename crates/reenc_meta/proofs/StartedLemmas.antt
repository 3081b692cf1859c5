-- What a conversion begins with, of the volume that its header says.
use Rattle.std.proofs.Common.{◌≡◌, ◌∙◌, ℕ, List, [], ◌∷◌, map, Some, sym, ap}
use Rattle.std.proofs.Common.{subst, length, get_or}
use Rattle.std.specs.List.{All}
use Rattle.base_terms.specs.declared.disk_sizes.Sizes.{Sizes}
use Rattle.luks_meta.specs.Metas.{IsMeta}
use Rattle.luks_meta.specs.declared.meta.Parts.{Parts}
use Rattle.luks_meta.specs.declared.segment.Segment.{Segment}
use Rattle.luks_rules.specs.Extents.{extent_of}
use Rattle.luks_rules.specs.Rules.{first_fault}
use Rattle.luks_rules.specs.Shapes.{progress_of}
use Rattle.luks_rules.specs.declared.extents.Extent.{Extent}
use Rattle.luks_rules.specs.declared.idle.Idle.{Idle}
use Rattle.reenc_meta.specs.Layouts.{HasPlace, whole_on}
use Rattle.reenc_meta.specs.Placements.{all_atoms}
use Rattle.reenc_meta.specs.Runs.{run_of, runs_of}
use Rattle.reenc_meta.specs.Starts.{HaveNumbers, HaveSizes, IsStarted, new_for, nothing_new}
use Rattle.reenc_meta.specs.Starts.{progress_from}
use Rattle.reenc_meta.specs.Starts.{progress_to}
use Rattle.reenc_meta.specs.Starts.{started_from, started_to}
use Rattle.reenc_meta.specs.Unconverted.{IsUnconverted}
use Rattle.reenc_meta.specs.Wishes.{HasOffset, IsWish, MayStart}
use Rattle.reenc_meta.specs.declared.wish.Wish.{Wish}
use Rattle.reenc_meta.proofs.EachLemmas.{at-each}
use Rattle.reenc_meta.proofs.SegmentLemmas.{run-place}
use Rattle.reenc_meta.proofs.StartLemmas.{start-meta, start-progress, start-valid, volume_at}
use Rattle.reenc_meta.proofs.StartSegmentLemmas.{start-each, start-within}
use Rattle.reenc_meta.proofs.UnconvertedLemmas.{main-fits, some-atom}
use Rattle.sector_disk.specs.Geometry.{IsDisk}
use Rattle.segment_map.specs.declared.Side.TheVariants.{Old}
use Rattle.std.proofs.Common.{None}
use Rattle.std.proofs.Common.{arith}

-- the one segment is the volume's
one_of : {X Y : Type 0} (f : X → Y) (x : X) (y : Y) (xs : List X) → xs ≡ x ∷ [] → map f xs ≡ y ∷ []
    → f x ≡ y
one_of f x y xs one is = let here = sym (ap (map f) one) ∙ is in cc

module _ (m : Parts) (sizes : Sizes) (w : Wish) (v : Idle) (s : ℕ × Segment)
    (disk : IsDisk sizes.atom (all_atoms sizes)) (is : IsMeta m) (idle : IsUnconverted m sizes v)
    (one : m.segments ≡ s ∷ []) (wish : IsWish w v) where
  segment_is : extent_of m.digests s ≡ v.segment
  segment_is = one_of (extent_of m.digests) s v.segment m.segments one idle.segments

  same : volume_at m s v.blocks ≡ v
  same = λ i. record { segment = segment_is i; blocks = v.blocks }

  -- ---- where it lies
  pub started-place : HasPlace sizes.atom v.segment (run_of Old 0 v.blocks)
  started-place =
      let within = start-within _ sizes.atom v.blocks idle.blocks in
      run-place sizes v.segment (run_of Old 0 v.blocks) (main-fits sizes disk) idle.on_disk
      idle.numbers (omega (arith, within))

  pub started-offset : HasOffset w.direction w.area.resilience s.1.offset
  started-offset =
      subst (λ (e : Extent). HasOffset w.direction w.area.resilience e.offset) (sym segment_is)
      wish.offset

  module _ (numbers : HaveNumbers w m) where
    pub started-meta : HaveSizes w
        → IsMeta (started_to sizes.atom w m v s.1 (new_for sizes.atom w v s.1))
    started-meta few =
        subst (λ u. IsMeta (started_to sizes.atom w m u s.1 (new_for sizes.atom w u s.1))) same
        (start-meta m sizes w s v.blocks (some-atom sizes.atom (all_atoms sizes) disk)
        (main-fits sizes disk) is (subst (IsUnconverted m sizes) (sym same) idle) one
        (subst (IsWish w) (sym same) wish) numbers few)

    pub is-started : IsStarted sizes w m v
        (started_to sizes.atom w m v s.1 (new_for sizes.atom w v s.1))
    is-started = record {
      is = sym (ap (started_from sizes.atom w m v) one);
      valid = λ may.
          subst (λ u. first_fault
          (started_to sizes.atom w m u s.1 (new_for sizes.atom w u s.1)) sizes ≡ None) same
          (start-valid m sizes w s v.blocks (some-atom sizes.atom (all_atoms sizes) disk)
          (main-fits sizes disk) is (subst (IsUnconverted m sizes) (sym same) idle) one
          (subst (IsWish w) (sym same) wish) numbers (subst (MayStart m sizes w) (sym same) may));
      progress = λ may.
          subst (λ u. progress_of
          (started_to sizes.atom w m u s.1 (new_for sizes.atom w u s.1)) sizes
          ≡ Some (progress_to w m u (new_for sizes.atom w u s.1))) same
          (start-progress m sizes w s v.blocks (some-atom sizes.atom (all_atoms sizes) disk)
          (main-fits sizes disk) is (subst (IsUnconverted m sizes) (sym same) idle) one
          (subst (IsWish w) (sym same) wish) numbers (subst (MayStart m sizes w) (sym same) may))
          ∙ sym (ap (progress_from sizes.atom w m v) one);
    }

-- ---- the one part that there is
pub started-parts : (atom : ℕ) (w : Wish) (m : Parts) (v : Idle) (new : Segment)
    → HasPlace atom v.segment (run_of Old 0 v.blocks)
    → All (λ run. HasPlace atom (whole_on (progress_to w m v new) run.side) run)
    (runs_of w.direction (progress_to w m v new).plan)
unfolding progress_to
started-parts atom w m v new place =
    let p = progress_to w m v new in
    at-each (λ run. HasPlace atom (whole_on p run.side) run)
    (runs_of w.direction (nothing_new w.direction v.blocks))
    (start-each (λ run. HasPlace atom (whole_on p run.side) run) w.direction v.blocks (record {
      offset = place.offset;
      size = place.size;
      numbers = place.numbers;
    }))

-- ---- a list of one
pub only-one : {X : Type 0} (xs : List X) (x : X) → length xs ≡ 1 → x ≡ get_or xs 0 x → xs ≡ x ∷ []
only-one [] x long is = absurd (omega (arith, long))
only-one (y ∷ []) x long is = ap (λ z. z ∷ []) (sym is)
only-one (y ∷ z ∷ xs) x long is = absurd (omega (arith, long))
