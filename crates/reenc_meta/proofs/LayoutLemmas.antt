-- Metadata whose segments and digests are those that a plan lays out are of the conversion so far,
-- and break no rule.
use Rattle.std.proofs.Common.{◌≡◌, ◌∙◌, ℕ, ◌+◌, ◌*◌, ◌/◌, ◌%◌, ◌-◌, ◌^◌, ◌<◌, ◌≤◌, ◌++◌, eqb}
use Rattle.std.proofs.Common.{List, [], ◌∷◌, length, map, get_or, true, false, refl, sym, ap}
use Rattle.std.proofs.Common.{subst, arith}
use Rattle.std.proofs.Math.Nat.{mul-le-mul_right}
use Rattle.std.proofs.lemmas.Bool.{and_from, eq-eqb, le-ltb, ne_eqb, or_from}
use Rattle.std.proofs.lemmas.List.{length-append, length-map}
use Rattle.std.specs.List.{All, AllByRecursion, enumerate_from, sum_by}
use Rattle.std.specs.Option.{IfSome, IsSome}
use Rattle.base_terms.specs.declared.disk_sizes.Sizes.{Sizes}
use Rattle.json_members.specs.Entries.{AreEntries, IsRising}
use Rattle.luks_meta.specs.Configs.{is_foreign, mandatory}
use Rattle.luks_meta.specs.Digests.{IsDigest}
use Rattle.luks_meta.specs.Segments.{IsSegment}
use Rattle.luks_meta.specs.declared.digest.Digest.{Digest}
use Rattle.luks_meta.specs.declared.meta.Parts.{Parts}
use Rattle.luks_meta.specs.declared.segment.Segment.{Segment}
use Rattle.luks_rules.specs.Areas.{areas_end, areas_of, header_bytes, main_bytes}
use Rattle.luks_rules.specs.Conversions.{conversions_of}
use Rattle.luks_rules.specs.Extents.{digest_of, extent_of}
use Rattle.luks_rules.specs.Overlaps.{overlap}
use Rattle.luks_rules.specs.Plain.{IsWholeSize, IsWithin}
use Rattle.luks_rules.specs.Plans.{blocks_in}
use Rattle.luks_rules.specs.References.{is_there, lists, times_listed}
use Rattle.luks_rules.specs.Rooms.{HasShift, capacity}
use Rattle.luks_rules.specs.Rules.{first_fault}
use Rattle.luks_rules.specs.Segments.{bytes_of, in_progress, is_backup, is_dynamic, live_bytes}
use Rattle.luks_rules.specs.Shapes.{are_wholes, is_next_size, is_whole_size, may_open, numbered}
use Rattle.luks_rules.specs.Shapes.{progress_of, stays_dynamic}
use Rattle.luks_rules.specs.States.{IsShaped, IsState}
use Rattle.luks_rules.specs.declared.extents.Extent.{Extent}
use Rattle.luks_rules.specs.declared.shape.Progress.{Progress}
use Rattle.luks_rules.proofs.ShapeLemmas.{from_shaped}
use Rattle.luks_rules.proofs.ShiftLemmas.{from-shift}
use Rattle.reenc_meta.specs.Layouts.{listed_by, parts_by, segments_by, segments_under, whole_on}
use Rattle.reenc_meta.specs.Runs.{runs_of, sides_of}
use Rattle.reenc_meta.specs.declared.runs.Run.{Run}
use Rattle.reenc_meta.proofs.EachLemmas.{at-each, by-recursion, each-mapped, each-numbered}
use Rattle.reenc_meta.proofs.EachLemmas.{each-weaker, numbered-rising, numbered-there}
use Rattle.reenc_meta.proofs.EachLemmas.{rising-mapped}
use Rattle.reenc_meta.proofs.ExtentLemmas.{AreRead, extents-laid, extents-length, extents-numbered}
use Rattle.reenc_meta.proofs.ExtentLemmas.{extents_for, segments-read, whole_extent}
use Rattle.reenc_meta.proofs.ListingLemmas.{AreListed, AreThere, are-listed}
use Rattle.reenc_meta.proofs.RuleLemmas.{BreaksNone, no-fault, numbers-few, once-each, relisted}
use Rattle.reenc_meta.proofs.RunLemmas.{runs-few, runs-some, runs-sum}
use Rattle.reenc_meta.proofs.SegmentLemmas.{IsRight, live-sum}
use Rattle.reenc_meta.proofs.StateLemmas.{sides-length}
use Rattle.reenc_meta.proofs.WholeLemmas.{crypt-digest, new-own, old-own, whole-digests}
use Rattle.segment_map.specs.declared.Side.{Side}
use Rattle.segment_map.specs.declared.Side.TheVariants.{Old, New, Zone}
use Rattle.reenc_meta.specs.Layouts.{part_of}
use Rattle.std.proofs.Common.{None}
use Rattle.std.proofs.Common.{Some}

-- The segments are the parts of the runs, and the two whole ones `a` and `b`; the digests are those
-- of `ds` with the segments on their side.
pub record AreLaid (m : Parts) (sizes : Sizes) (p : Progress) (a b : Segment)
    (ds : List (ℕ × Digest)) : Type 0 where
  pub segments : m.segments
      ≡ segments_by sizes.atom p (runs_of p.conversion.direction p.plan) (a ∷ b ∷ [])
  pub digests : m.digests
      ≡ map (listed_by p (sides_of (runs_of p.conversion.direction p.plan))) ds
  pub rising : IsRising ds

-- The whole ones are of one conversion, whose keyslot no digest lists.
pub record IsLaid (m : Parts) (sizes : Sizes) (p : Progress) (a b : Segment)
    (ds : List (ℕ × Digest)) : Type 0 where
  pub laid : AreLaid m sizes p a b ds
  pub atom : 0 < sizes.atom
  pub busy : in_progress m.config ≡ true
  pub old : whole_extent (length (runs_of p.conversion.direction p.plan)) p.old.digest a ≡ p.old
  pub new : whole_extent (length (runs_of p.conversion.direction p.plan) + 1) p.new.digest b
      ≡ p.new
  pub wholes : are_wholes sizes.atom p.conversion p.old p.new ≡ true
  pub sized : is_whole_size (blocks_in p.plan * sizes.atom) p.old.size ≡ true
  pub next : is_next_size (blocks_in p.plan * sizes.atom)
      (stays_dynamic p.conversion.resilience p.old.size) p.new.size ≡ true
  pub opens : may_open p.conversion.resilience p.plan.zone ≡ true
  pub some : 0 < blocks_in p.plan
  pub there : AreThere p ds
  pub keyslot : conversions_of m.keyslots ≡ p.conversion ∷ []
  pub alone : All (λ d. lists d.1.keyslots p.conversion.keyslot ≡ false) ds

-- Each of its objects is as the rules ask.
pub record IsLaidRight (m : Parts) (sizes : Sizes) (p : Progress) (a b : Segment)
    (ds : List (ℕ × Digest)) : Type 0 where
  pub own : All (λ text. is_foreign text ≡ false) (mandatory m.config.requirements)
  pub within : All (IsWithin m.config) (areas_of m.keyslots)
  pub detached : sizes.detached ≡ true → areas_end m.config ≤ header_bytes sizes
  pub apart : overlap (areas_of m.keyslots) ≡ false
  pub areas : All (λ a. (a.offset % sizes.atom ≡ 0) × (a.size % sizes.atom ≡ 0))
      (areas_of m.keyslots)
  pub keyslots : All (λ d. All (λ k. is_there m.keyslots k ≡ true) d.1.keyslots) ds
  pub right : AllByRecursion (IsRight sizes m.config)
      (parts_by sizes.atom p (runs_of p.conversion.direction p.plan) ++ a ∷ b ∷ [])
  pub room : 0 < capacity sizes.atom p
  pub zone : p.plan.zone ≤ capacity sizes.atom p
  pub shift : HasShift p.conversion.direction p.conversion.resilience p.old.offset p.new.offset

module _ (m : Parts) (sizes : Sizes) (p : Progress) (a b : Segment) (ds : List (ℕ × Digest))
    (are : AreLaid m sizes p a b ds) where
  abbrev text_runs : List Run
  text_runs = runs_of p.conversion.direction p.plan

  abbrev text_parts : List Segment
  text_parts = parts_by sizes.atom p text_runs ++ a ∷ b ∷ []

  -- ---- how many there are
  pub laid-count : length text_parts ≡ length (sides_of text_runs)
  laid-count =
      let all = length-append (parts_by sizes.atom p text_runs) (a ∷ b ∷ []) in
      let some = length-map text_runs (λ run. part_of sizes.atom (whole_on p run.side) run) in
      let sides = sides-length text_runs in
      omega (arith, all, some, sides)

  few : length text_parts ≤ 5
  few =
      let same = laid-count in
      let sides = sides-length text_runs in
      let most = runs-few p.conversion.direction p.plan in
      omega (arith, same, sides, most)

  -- ---- the text
  pub laid-segments : AllByRecursion IsSegment text_parts → AreEntries IsSegment m.segments
  laid-segments texts =
      subst (AreEntries IsSegment) (sym are.segments) (record {
        rising = numbered-rising 0 text_parts (let most = few in omega (arith, most));
        each = each-numbered IsSegment 0 text_parts texts;
      })

  numbers_small : (number : ℕ)
      → AllByRecursion (λ n. n < 2 ^ 64) (segments_under p (sides_of text_runs) number)
  numbers_small number =
      each-weaker (λ n. n < length (sides_of text_runs)) (λ n. n < 2 ^ 64)
      (segments_under p (sides_of text_runs) number)
      (λ n below. let same = laid-count in let most = few in omega (arith, below, same, most))
      (numbers-few p (sides_of text_runs) number)

  pub laid-digests : AllByRecursion (λ d. IsDigest d.1) ds → AreEntries IsDigest m.digests
  laid-digests texts =
      subst (AreEntries IsDigest) (sym are.digests) (record {
        rising = rising-mapped (listed_by p (sides_of text_runs)) ds (λ d. refl) are.rising;
        each = each-mapped (listed_by p (sides_of text_runs)) (λ d. IsDigest d.1) ds
            (each-weaker (λ d. IsDigest d.1)
            (λ d. IsDigest (listed_by p (sides_of text_runs) d).1) ds
            (λ d right. relisted (segments_under p (sides_of text_runs) d.0) d.1 right
            (numbers_small d.0)) texts);
      })

-- ---- the state and the rules
module _ (m : Parts) (sizes : Sizes) (p : Progress) (a b : Segment) (ds : List (ℕ × Digest))
    (is : IsLaid m sizes p a b ds) where
  abbrev runs : List Run
  runs = runs_of p.conversion.direction p.plan

  abbrev digests : List (ℕ × Digest)
  digests = map (listed_by p (sides_of runs)) ds

  abbrev parts : List Segment
  parts = parts_by sizes.atom p runs ++ a ∷ b ∷ []

  abbrev live : List Extent
  live = extents_for sizes.atom p 0 runs

  -- ---- the state
  listed : AreListed p (sides_of runs) digests
  listed =
      are-listed p (sides_of runs) ds
      (whole-digests sizes.atom p.conversion p.old p.new is.wholes) is.laid.rising is.there

  are_read : AreRead p digests 0 (sides_of runs)
  are_read i n d at below =
      let same : n ≡ i = omega (arith, at) in
      ap (digest_of digests) same ∙ listed.digest i d below

  read : map (extent_of digests) (enumerate_from 0 parts) ≡ live ++ p.old ∷ p.new ∷ []
  read =
      let zero : 0 + length runs ≡ length runs = omega arith in
      let old = is.old in
      let new = is.new in
      segments-read sizes.atom 0 p digests runs a b are_read
      ∙ ap (λ n. live ++ whole_extent n p.old.digest a
      ∷ whole_extent (n + 1) p.new.digest b ∷ []) zero
      ∙ (λ i. live ++ old i ∷ new i ∷ [])

  count_live : length live ≡ length runs
  count_live = extents-length sizes.atom p 0 runs

  state : IsState sizes.atom p.conversion live p.old p.new p.plan
  state =
      let old : p.old.number ≡ length live =
      sym (ap (λ (e : Extent). e.number) is.old) ∙ sym count_live in
      let new : p.new.number ≡ length live + 1 =
      sym (ap (λ (e : Extent). e.number) is.new) ∙ ap (λ n. n + 1) (sym count_live) in
      record {
        numbers =
            and_from _ (eqb p.new.number (length live + 1))
            (and_from (numbered 0 live) (eqb p.old.number (length live))
            (extents-numbered sizes.atom p 0 runs) (eq-eqb p.old.number (length live) old))
            (eq-eqb p.new.number (length live + 1) new);
        wholes = is.wholes;
        parts =
            and_from _ (may_open p.conversion.resilience p.plan.zone)
            (and_from _ (is_next_size (blocks_in p.plan * sizes.atom)
            (stays_dynamic p.conversion.resilience p.old.size) p.new.size)
            (and_from _ (is_whole_size (blocks_in p.plan * sizes.atom) p.old.size)
            (extents-laid sizes.atom p.conversion.direction p p.plan) is.sized)
            is.next)
            is.opens;
      }

  alone : All (λ d. lists d.1.keyslots p.conversion.keyslot ≡ false) digests
  alone =
      at-each (λ d. lists d.1.keyslots p.conversion.keyslot ≡ false) digests
      (each-mapped (listed_by p (sides_of runs))
      (λ d. lists d.1.keyslots p.conversion.keyslot ≡ false) ds
      (by-recursion (λ d. lists d.1.keyslots p.conversion.keyslot ≡ false) ds is.alone))

  shaped : IsShaped m sizes.atom p live
  shaped =
      let segments = is.laid.segments in
      let found = is.laid.digests in
      record {
        keyslot = is.keyslot;
        alone = subst (λ (es : List (ℕ × Digest)). All
            (λ d. lists d.1.keyslots p.conversion.keyslot ≡ false) es) (sym is.laid.digests) alone;
        some =
            (let here = runs-some p.conversion.direction p.plan is.some in
            let same = count_live in omega (arith, here, same));
        segments = (λ i. map (extent_of (found i)) (segments i)) ∙ read;
        state = state;
      }

  pub laid-progress : progress_of m sizes ≡ Some p
  laid-progress = from_shaped m sizes p live is.atom is.busy shaped

  -- ---- the rules
  own_digest : (side : Side) → IsSome (whole_on p side).encryption → IsSome (whole_on p side).digest
  own_digest Old =
      crypt-digest p.old.encryption p.old.digest
      (old-own sizes.atom p.conversion p.old p.new is.wholes)
  own_digest Zone =
      crypt-digest p.old.encryption p.old.digest
      (old-own sizes.atom p.conversion p.old p.new is.wholes)
  own_digest New =
      crypt-digest p.new.encryption p.new.digest
      (new-own sizes.atom p.conversion p.old p.new is.wholes)

  once : All (λ s. IsSome s.1.encryption → times_listed digests s.0 ≡ 1) (enumerate_from 0 parts)
  once =
      at-each (λ s. IsSome s.1.encryption → times_listed digests s.0 ≡ 1) (enumerate_from 0 parts)
      (once-each sizes.atom 0 p digests runs a b
      (λ i n d at below here.
      let same : n ≡ i = omega (arith, at) in
      ap (times_listed digests) same ∙ listed.once i d below here)
      own_digest
      (λ here. own_digest Old (subst (λ (e : Extent). IsSome e.encryption) is.old here))
      (λ here. own_digest New (subst (λ (e : Extent). IsSome e.encryption) is.new here)))

  listed_there : (number : ℕ) → All (λ n. is_there (enumerate_from 0 parts) n ≡ true)
      (segments_under p (sides_of runs) number)
  listed_there number =
      at-each (λ n. is_there (enumerate_from 0 parts) n ≡ true)
      (segments_under p (sides_of runs) number)
      (each-weaker (λ n. n < length (sides_of runs))
      (λ n. is_there (enumerate_from 0 parts) n ≡ true)
      (segments_under p (sides_of runs) number)
      (λ n below. let same = laid-count m sizes p a b ds is.laid in
      numbered-there 0 n parts (omega arith) (omega (arith, below, same)))
      (numbers-few p (sides_of runs) number))

  segments_there : All (λ d. All (λ n. is_there (enumerate_from 0 parts) n ≡ true) d.1.segments)
      digests
  segments_there =
      at-each (λ d. All (λ n. is_there (enumerate_from 0 parts) n ≡ true) d.1.segments) digests
      (each-mapped (listed_by p (sides_of runs))
      (λ d. All (λ n. is_there (enumerate_from 0 parts) n ≡ true) d.1.segments) ds
      (by-recursion (λ d. All (λ n. is_there (enumerate_from 0 parts) n ≡ true)
      (segments_under p (sides_of runs) d.0)) ds (λ k d below. listed_there (get_or ds k d).0)))

  block : sizes.atom ≤ sum_by (λ s. live_bytes true sizes s.1) (enumerate_from 0 parts)
  block =
      let some = is.some in
      let live = live-sum sizes p 0 runs (a ∷ b ∷ []) in
      let all = runs-sum sizes.atom p.conversion.direction p.plan in
      let one = mul-le-mul_right sizes.atom
      (let here : 1 ≤ blocks_in p.plan = omega (arith, some) in here) in
      omega (arith, live, all, one)

  module _ (are : IsLaidRight m sizes p a b ds) where
    each_segment : (P : Segment → Type 0) → ((s : Segment) → IsRight sizes m.config s → P s)
        → All (λ s. P s.1) m.segments
    each_segment P from =
        subst (λ (ss : List (ℕ × Segment)). All (λ s. P s.1) ss) (sym is.laid.segments)
        (at-each (λ s. P s.1) (enumerate_from 0 parts)
        (each-numbered P 0 parts (each-weaker (IsRight sizes m.config) P parts from are.right)))

    keyslots_there : All (λ d. All (λ k. is_there m.keyslots k ≡ true) d.1.keyslots) m.digests
    keyslots_there =
        subst (λ (es : List (ℕ × Digest)). All
        (λ d. All (λ k. is_there m.keyslots k ≡ true) d.1.keyslots) es) (sym is.laid.digests)
        (at-each (λ d. All (λ k. is_there m.keyslots k ≡ true) d.1.keyslots) digests
        (each-mapped (listed_by p (sides_of runs))
        (λ d. All (λ k. is_there m.keyslots k ≡ true) d.1.keyslots) ds
        (by-recursion (λ d. All (λ k. is_there m.keyslots k ≡ true) d.1.keyslots) ds
        are.keyslots)))

    breaks_none : BreaksNone m sizes p
    breaks_none =
        let segments = is.laid.segments in
        let found = is.laid.digests in
        record {
          own = are.own;
          bounds = record {
            areas = are.within;
            attached = λ e. each_segment (λ s. areas_end m.config ≤ s.offset)
                (λ s right. right.behind e);
            detached = are.detached;
          };
          apart = are.apart;
          referred = record {
            keyslots = keyslots_there;
            segments = subst (λ ss. All (λ d. All (λ n. is_there ss n ≡ true) d.1.segments)
                m.digests) (sym is.laid.segments)
                (subst (λ (es : List (ℕ × Digest)). All
                (λ d. All (λ n. is_there (enumerate_from 0 parts) n ≡ true) d.1.segments) es)
                (sym is.laid.digests) segments_there);
            once = subst (λ (ss : List (ℕ × Segment)). All
                (λ s. IsSome s.1.encryption → times_listed m.digests s.0 ≡ 1) ss)
                (sym is.laid.segments)
                (subst (λ es. All (λ s. IsSome s.1.encryption → times_listed es s.0 ≡ 1)
                (enumerate_from 0 parts)) (sym is.laid.digests) once);
          };
          volume = record {
            one = λ idle. (let bad : false ≡ true = sym idle ∙ is.busy in cc);
            sized = λ e. each_segment (λ s. is_backup s ≡ false → is_dynamic s.size ≡ false)
                (λ s right. right.sized);
            on_disk = each_segment (λ s. s.offset + bytes_of sizes s ≤ main_bytes sizes)
                (λ s right. right.on_disk);
            block = subst (λ b. sizes.atom ≤ sum_by (λ s. live_bytes b sizes s.1) m.segments)
                (sym is.busy)
                (subst (λ (ss : List (ℕ × Segment)). sizes.atom
                ≤ sum_by (λ s. live_bytes true sizes s.1) ss) (sym is.laid.segments) block);
          };
          sectors = each_segment
              (λ s. IfSome s.encryption
              (λ e. (0 < e.sector_size) × (sizes.atom % e.sector_size ≡ 0)))
              (λ s right. right.sectors);
          atoms = record {
            segments = each_segment
                (λ s. (s.offset % sizes.atom ≡ 0) × IsWholeSize sizes.atom s.size)
                (λ s right. right.whole);
            areas = are.areas;
          };
          numbers = each_segment
              (λ s. IfSome s.encryption (λ e. e.iv_tweak + bytes_of sizes s / 512 ≤ 2 ^ 64 - 1))
              (λ s right. right.numbers);
          busy = is.busy;
          progress = laid-progress;
          capacity = or_from _ _
              (ne_eqb _ _ (λ none. let room = are.room in absurd (omega (arith, room, none))))
              (le-ltb _ _ are.zone);
          shift = from-shift p are.shift;
        }

    pub laid-valid : first_fault m sizes ≡ None
    laid-valid = no-fault m sizes p breaks_none
