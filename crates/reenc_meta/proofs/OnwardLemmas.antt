-- A conversion at a later plan: its metadata have a text, break no rule, and are read as so far.
use Rattle.std.proofs.Common.{◌≡◌, ◌∙◌, ℕ, ◌+◌, ◌*◌, ◌^◌, ◌<◌, ◌++◌, List, [], ◌∷◌, length, drop}
use Rattle.std.proofs.Common.{Some, None, true, refl, ap, subst, arith}
use Rattle.std.specs.List.{All, AllByRecursion}
use Rattle.std.specs.Option.{IfSome}
use Rattle.base_terms.specs.declared.disk_sizes.Sizes.{Sizes}
use Rattle.luks_meta.specs.Metas.{IsMeta}
use Rattle.luks_meta.specs.Segments.{IsEncryption, IsSegment}
use Rattle.luks_meta.specs.declared.meta.Parts.{Parts}
use Rattle.luks_meta.specs.declared.segment.Segment.{Segment}
use Rattle.luks_rules.specs.Areas.{main_bytes}
use Rattle.luks_rules.specs.Extents.{extent_of}
use Rattle.luks_rules.specs.Plans.{blocks_in}
use Rattle.luks_rules.specs.Rules.{first_fault}
use Rattle.luks_rules.specs.Segments.{in_progress}
use Rattle.luks_rules.specs.Shapes.{is_next_size, is_whole_size, progress_of, stays_dynamic}
use Rattle.luks_rules.specs.States.{IsConverting, IsPlaced, IsSound}
use Rattle.luks_rules.specs.declared.extents.Extent.{Extent}
use Rattle.luks_rules.specs.declared.plan.Plan.{Plan}
use Rattle.luks_rules.specs.declared.shape.Progress.{Progress}
use Rattle.reenc_meta.specs.Layouts.{HasPlace, laid_out_by, part_of, parts_by, progress_at}
use Rattle.reenc_meta.specs.Layouts.{whole_on}
use Rattle.reenc_meta.specs.Layouts.{wholes_of}
use Rattle.reenc_meta.specs.Moves.{MayBecome}
use Rattle.reenc_meta.specs.Runs.{runs_of}
use Rattle.reenc_meta.specs.declared.runs.Run.{Run}
use Rattle.reenc_meta.proofs.EachLemmas.{at-each, each-joined, each-mapped, each-weaker}
use Rattle.reenc_meta.proofs.ExtentLemmas.{whole-again}
use Rattle.reenc_meta.proofs.LayoutLemmas.{AreLaid, IsLaid, IsLaidRight, laid-digests}
use Rattle.reenc_meta.proofs.LayoutLemmas.{laid-progress}
use Rattle.reenc_meta.proofs.LayoutLemmas.{laid-segments, laid-valid}
use Rattle.reenc_meta.proofs.ListingLemmas.{AreThere}
use Rattle.reenc_meta.proofs.RoomLemmas.{runs-in}
use Rattle.reenc_meta.proofs.RuleLemmas.{areas-apart}
use Rattle.reenc_meta.proofs.RunLemmas.{each-run, run_on}
use Rattle.reenc_meta.proofs.SegmentLemmas.{IsIn, IsRight, part-place, part-right, segments-right}
use Rattle.reenc_meta.proofs.SegmentLemmas.{wholes-right}
use Rattle.reenc_meta.proofs.StateLemmas.{digest-there, parts-again, segments-so, wholes-so}
use Rattle.reenc_meta.proofs.StateLemmas.{wholes-two}
use Rattle.reenc_meta.proofs.WholeLemmas.{new-own, old-own, whole-sizes}
use Rattle.segment_map.specs.declared.Side.{Side}
use Rattle.segment_map.specs.declared.Side.TheVariants.{Old, New, Zone}

module _ (m : Parts) (sizes : Sizes) (p : Progress) (live : List Extent) (plan : Plan)
    (is : IsMeta m) (sound : IsSound m sizes) (busy : in_progress m.config ≡ true)
    (conv : IsConverting m sizes p live) (may : MayBecome sizes.atom p plan)
    (some : 0 < blocks_in p.plan) (fits : main_bytes sizes < 2 ^ 63) where
  abbrev q : Progress
  q = progress_at plan p

  abbrev runs : List Run
  runs = runs_of p.conversion.direction plan

  abbrev next : Parts
  next = laid_out_by sizes.atom p plan m

  -- ---- the two whole segments
  wholes : (a : ℕ × Segment) × (b : ℕ × Segment) × (drop p.old.number m.segments ≡ a ∷ b ∷ [])
      × (extent_of m.digests a ≡ p.old) × (extent_of m.digests b ≡ p.new)
  wholes = wholes-so m sizes p live plan is.digests.rising busy sound.atom conv may some

  two : wholes_of p m.segments ≡ wholes.0.1 ∷ wholes.1.1 ∷ []
  unfolding wholes
  two = wholes-two m sizes p live plan is.digests.rising busy sound.atom conv may some

  whole_right : AllByRecursion (IsRight sizes m.config) (wholes.0.1 ∷ wholes.1.1 ∷ [])
  whole_right =
      subst (AllByRecursion (IsRight sizes m.config)) two
      (wholes-right sizes m.config p.old.number m.segments
      (segments-right m sizes busy is sound))

  -- ---- the parts
  encryption_of : (side : Side) → IfSome (whole_on p side).encryption IsEncryption
  encryption_of Old =
      subst (λ (e : Extent). IfSome e.encryption IsEncryption) wholes.3
      whole_right.0.text.encryption
  encryption_of Zone =
      subst (λ (e : Extent). IfSome e.encryption IsEncryption) wholes.3
      whole_right.0.text.encryption
  encryption_of New =
      subst (λ (e : Extent). IfSome e.encryption IsEncryption) wholes.4
      whole_right.1.0.text.encryption

  placed_on : (side : Side) → IsPlaced m sizes (whole_on p side)
  placed_on Old = conv.old
  placed_on Zone = conv.old
  placed_on New = conv.new

  pub runs-placed : All (λ run. HasPlace sizes.atom (whole_on p run.side) run) runs
  runs-placed =
      at-each (λ run. HasPlace sizes.atom (whole_on p run.side) run) runs
      (each-run (λ run. HasPlace sizes.atom (whole_on p run.side) run) p.conversion.direction plan
      (λ side here. part-place m sizes
      (whole_on p (run_on p.conversion.direction plan side).side)
      (run_on p.conversion.direction plan side) fits
      (placed_on (run_on p.conversion.direction plan side).side)
      (runs-in m sizes p live conv plan may side here)))

  part_right : (run : Run) → IsIn sizes (whole_on p run.side) run
      → IsRight sizes m.config (part_of sizes.atom (whole_on p run.side) run)
  part_right run inside =
      part-right m sizes (whole_on p run.side) run fits (placed_on run.side) inside
      (encryption_of run.side)

  all_right : AllByRecursion (IsRight sizes m.config)
      (parts_by sizes.atom q runs ++ wholes.0.1 ∷ wholes.1.1 ∷ [])
  all_right =
      subst (λ parts. AllByRecursion (IsRight sizes m.config)
      (parts ++ wholes.0.1 ∷ wholes.1.1 ∷ [])) (parts-again sizes.atom p plan runs)
      (each-joined (IsRight sizes m.config) (parts_by sizes.atom p runs)
      (wholes.0.1 ∷ wholes.1.1 ∷ [])
      (each-mapped (λ run. part_of sizes.atom (whole_on p run.side) run) (IsRight sizes m.config)
      runs
      (each-run (λ run. IsRight sizes m.config (part_of sizes.atom (whole_on p run.side) run))
      p.conversion.direction plan
      (λ side here. part_right (run_on p.conversion.direction plan side)
      (runs-in m sizes p live conv plan may side here))))
      whole_right)

  -- ---- the next metadata are laid out
  laid : AreLaid next sizes q wholes.0.1 wholes.1.1 m.digests
  unfolding laid_out_by wholes
  laid = record {
    segments = segments-so m sizes p live plan is.digests.rising busy sound.atom conv may some;
    digests = refl;
    rising = is.digests.rising;
  }

  there : AreThere q m.digests
  there Old =
      digest-there m sizes p.old conv.old
      (old-own sizes.atom p.conversion p.old p.new conv.state.wholes)
  there Zone =
      digest-there m sizes p.old conv.old
      (old-own sizes.atom p.conversion p.old p.new conv.state.wholes)
  there New =
      digest-there m sizes p.new conv.new
      (new-own sizes.atom p.conversion p.old p.new conv.state.wholes)

  is_laid : IsLaid next sizes q wholes.0.1 wholes.1.1 m.digests
  unfolding laid_out_by
  is_laid =
      let sized = whole-sizes sizes.atom p.conversion p.old p.new live p.plan conv.state.parts in
      let bytes = ap (λ n. n * sizes.atom) may.blocks in
      record {
        laid = laid;
        atom = sound.atom;
        busy = busy;
        old = whole-again (length runs) wholes.0.0 p.old.digest m.digests wholes.0.1 p.old
            wholes.3 refl;
        new = whole-again (length runs + 1) wholes.1.0 p.new.digest m.digests wholes.1.1 p.new
            wholes.4 refl;
        wholes = conv.state.wholes;
        sized = ap (λ n. is_whole_size n p.old.size) bytes ∙ sized.0;
        next =
            ap (λ n. is_next_size n (stays_dynamic p.conversion.resilience p.old.size) p.new.size)
            bytes ∙ sized.1;
        opens = may.kept;
        some = (let same = may.blocks in omega (arith, some, same));
        there = there;
        keyslot = conv.keyslot;
        alone = conv.alone;
      }

  are_right : IsLaidRight next sizes q wholes.0.1 wholes.1.1 m.digests
  unfolding laid_out_by
  are_right = record {
    own = sound.own;
    within = sound.within.areas;
    detached = sound.within.detached;
    apart = areas-apart m sizes sound;
    areas = sound.atoms.areas;
    keyslots = sound.digests.keyslots;
    right = all_right;
    room = conv.room;
    zone = may.room;
    shift = conv.shift;
  }

  pub progress-so : progress_of next sizes ≡ Some q
  progress-so = laid-progress next sizes q wholes.0.1 wholes.1.1 m.digests is_laid

  pub valid-so : first_fault next sizes ≡ None
  valid-so = laid-valid next sizes q wholes.0.1 wholes.1.1 m.digests is_laid are_right

  pub meta-so : IsMeta next
  unfolding laid_out_by
  meta-so = record {
    keyslots = is.keyslots;
    tokens = is.tokens;
    segments =
        laid-segments next sizes q wholes.0.1 wholes.1.1 m.digests laid
        (each-weaker (IsRight sizes m.config) IsSegment
        (parts_by sizes.atom q runs ++ wholes.0.1 ∷ wholes.1.1 ∷ []) (λ s right. right.text)
        all_right);
    digests = laid-digests next sizes q wholes.0.1 wholes.1.1 m.digests laid is.digests.each;
    config = is.config;
    lacks = is.lacks;
    plain = is.plain;
  }
