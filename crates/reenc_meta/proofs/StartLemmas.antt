-- The metadata with which a conversion begins have a text, break no rule, and say that nothing is
-- converted.
use Rattle.std.proofs.Common.{◌≡◌, ◌∙◌, ℕ, ◌+◌, ◌*◌, ◌%◌, ◌^◌, ◌<◌, ◌≤◌, ◌++◌}
use Rattle.std.proofs.Common.{eqb, List, [], ◌∷◌, length, Option, Some, None, true, false, refl}
use Rattle.std.proofs.Common.{sym, ap, subst, arith}
use Rattle.std.proofs.lemmas.Bool.{and_from, or_from}
use Rattle.std.specs.List.{All, AllByRecursion}
use Rattle.std.specs.Option.{IfSome}
use Rattle.base_terms.specs.declared.disk_sizes.Sizes.{Sizes}
use Rattle.luks_meta.specs.Digests.{IsDigest}
use Rattle.luks_meta.specs.Keyslots.{IsKeyslot, IsLuks2}
use Rattle.luks_meta.specs.Metas.{IsMeta}
use Rattle.luks_meta.specs.Segments.{IsSegment}
use Rattle.luks_meta.specs.declared.digest.Digest.{Digest}
use Rattle.luks_meta.specs.declared.meta.Parts.{Parts}
use Rattle.luks_meta.specs.declared.segment.Segment.{Segment}
use Rattle.luks_rules.specs.Areas.{areas_of, main_bytes}
use Rattle.luks_rules.specs.Extents.{extent_of}
use Rattle.luks_rules.specs.Plain.{IsWithin}
use Rattle.luks_rules.specs.References.{is_there, lists}
use Rattle.luks_rules.specs.Rules.{first_fault}
use Rattle.luks_rules.specs.Segments.{bytes_by}
use Rattle.luks_rules.specs.Shapes.{are_wholes, fits_place, has_own_digest}
use Rattle.luks_rules.specs.Shapes.{have_two_digests, is_next_size}
use Rattle.luks_rules.specs.Shapes.{is_whole_size, progress_of, starts_at_0, stays_dynamic}
use Rattle.luks_rules.specs.declared.idle.Idle.{Idle}
use Rattle.luks_rules.specs.declared.shape.Progress.{Progress}
use Rattle.reenc_meta.specs.Layouts.{parts_by, part_of, whole_on}
use Rattle.reenc_meta.specs.Runs.{run_of, runs_of, sides_of}
use Rattle.reenc_meta.specs.Starts.{HaveNumbers, HaveSizes, keyslots_by, lowest_free, new_for}
use Rattle.reenc_meta.specs.Starts.{nothing_new}
use Rattle.reenc_meta.specs.Starts.{old_whole, progress_to, started_by, started_to, with_slot}
use Rattle.reenc_meta.specs.Unconverted.{IsUnconverted}
use Rattle.reenc_meta.specs.Wishes.{IsWish, MayStart, config_by, encryption_for, new_areas}
use Rattle.reenc_meta.specs.Wishes.{new_whole, offset_by, size_by}
use Rattle.reenc_meta.specs.declared.wish.Wish.{Wish}
use Rattle.reenc_meta.proofs.EachLemmas.{at-each, by-recursion, each-joined, each-mapped}
use Rattle.reenc_meta.proofs.ExtentLemmas.{whole_extent}
use Rattle.reenc_meta.proofs.LayoutLemmas.{AreLaid, IsLaid, IsLaidRight, laid-digests}
use Rattle.reenc_meta.proofs.LayoutLemmas.{laid-progress}
use Rattle.reenc_meta.proofs.LayoutLemmas.{laid-segments, laid-valid}
use Rattle.reenc_meta.proofs.ListingLemmas.{AreThere}
use Rattle.reenc_meta.proofs.SegmentLemmas.{IsIn, IsRight, nothing-named, run-right, run-text}
use Rattle.reenc_meta.proofs.StartConfigLemmas.{config-busy, config-origin, config-own}
use Rattle.reenc_meta.proofs.StartConfigLemmas.{config-right}
use Rattle.reenc_meta.proofs.StartDigestLemmas.{digest-found, digest-other, digests-each}
use Rattle.reenc_meta.proofs.StartDigestLemmas.{digests-listed, digests-own, digests-rising}
use Rattle.reenc_meta.proofs.StartDigestLemmas.{digests-there, digests_with, own_digest}
use Rattle.reenc_meta.proofs.StartDigestLemmas.{two-digests}
use Rattle.reenc_meta.proofs.StartSegmentLemmas.{new-encryption, new-fits-place, new-next}
use Rattle.reenc_meta.proofs.StartSegmentLemmas.{new-numbers}
use Rattle.reenc_meta.proofs.StartSegmentLemmas.{new-offset, new-on-disk, new-own-digest}
use Rattle.reenc_meta.proofs.StartSegmentLemmas.{new-sectors}
use Rattle.reenc_meta.proofs.StartSegmentLemmas.{new-shift, new-size, new-starts, new-whole-place}
use Rattle.reenc_meta.proofs.StartSegmentLemmas.{new-whole-size, old-own-digest, start-blocks}
use Rattle.reenc_meta.proofs.StartSegmentLemmas.{start-closed, start-each, start-opens, start-runs}
use Rattle.reenc_meta.proofs.StartSegmentLemmas.{start-sized, start-within}
use Rattle.reenc_meta.proofs.StartSlotLemmas.{own-slot, start-apart, start-areas, start-conversion}
use Rattle.reenc_meta.proofs.StartSlotLemmas.{start-other, start-own, start-slots, start-there}
use Rattle.reenc_meta.proofs.StartSlotLemmas.{there-slot}
use Rattle.segment_map.specs.declared.Side.TheVariants.{Old, New, Zone}
use Rattle.std.proofs.Common.{get_or}
use Rattle.luks_meta.specs.Configs.{is_foreign, mandatory, origin_by, origin_of}
use Rattle.luks_meta.specs.declared.keyslot.Origin.TheVariants.{Own}
use Rattle.json_members.specs.Entries.{AreEntries}
use Rattle.luks_rules.specs.declared.areas.Area.{Area}
use Rattle.reenc_meta.proofs.FinishLemmas.{own_texts}

-- ---- the volume of one segment, and what is made of it
abbrev pub volume_at : Parts → ℕ × Segment → ℕ → Idle
volume_at m s n = record { segment = extent_of m.digests s; blocks = n }

abbrev pub new_at : ℕ → Wish → Parts → ℕ × Segment → ℕ → Segment
new_at atom w m s n = new_for atom w (volume_at m s n) s.1

abbrev pub progress_at_start : ℕ → Wish → Parts → ℕ × Segment → ℕ → Progress
progress_at_start atom w m s n = progress_to w m (volume_at m s n) (new_at atom w m s n)

abbrev pub started_at : ℕ → Wish → Parts → ℕ × Segment → ℕ → Parts
started_at atom w m s n = started_to atom w m (volume_at m s n) s.1 (new_at atom w m s n)

-- ---- what is known of both
each_split : {X : Type 0} (P : X → Type 0) (xs ys : List X) → AllByRecursion P (xs ++ ys)
    → AllByRecursion P xs × AllByRecursion P ys
each_split P [] ys h = (tt, h)
each_split P (x ∷ xs) ys h =
    let later = each_split P xs ys h.1 in ((h.0, later.0), later.1)

if_first : {X : Type 0} (o : Option X) (P Q : X → Type 0) → IfSome o (λ x. P x × Q x) → IfSome o P
if_first None P Q h = tt
if_first (Some x) P Q h = h.0

if_second : {X : Type 0} (o : Option X) (P Q : X → Type 0) → IfSome o (λ x. P x × Q x) → IfSome o Q
if_second None P Q h = tt
if_second (Some x) P Q h = h.1

if_both : {X : Type 0} (o : Option X) (P Q : X → Type 0) → ((x : X) → P x → Q x) → IfSome o P
    → IfSome o Q
if_both None P Q from h = tt
if_both (Some x) P Q from h = from x h

unlisted : (ks : List ℕ) (n : ℕ) → AllByRecursion (λ k. eqb k n ≡ false) ks → lists ks n ≡ false
unlisted [] n h = refl
unlisted (k ∷ ks) n h = or_from (eqb k n) (lists ks n) h.0 (unlisted ks n h.1)

module _ (m : Parts) (sizes : Sizes) (w : Wish) (s : ℕ × Segment) (n : ℕ) (atom : 0 < sizes.atom)
    (fits : main_bytes sizes < 2 ^ 63) (is : IsMeta m)
    (idle : IsUnconverted m sizes (volume_at m s n)) (one : m.segments ≡ s ∷ [])
    (wish : IsWish w (volume_at m s n)) (numbers : HaveNumbers w m) where
  abbrev p : Progress
  p = progress_at_start sizes.atom w m s n

  abbrev new : Segment
  new = new_at sizes.atom w m s n

  abbrev slot : ℕ
  slot = lowest_free m.keyslots

  abbrev ds : List (ℕ × Digest)
  ds = digests_with w.key slot m.digests

  abbrev next : Parts
  next = started_at sizes.atom w m s n

  -- ---- where it lies
  within : n * sizes.atom ≤ bytes_by (main_bytes sizes) s.1.offset s.1.size
  within =
      start-within (bytes_by (main_bytes sizes) s.1.offset s.1.size) sizes.atom n idle.blocks

  in_old : IsIn sizes (extent_of m.digests s) (run_of Old 0 n)
  in_old = let all = within in omega (arith, all)

  reach : s.1.offset + n * sizes.atom ≤ main_bytes sizes
  reach = let on = idle.on_disk in let all = within in omega (arith, on, all)

  -- ---- the text
  old_text : IsSegment s.1
  old_text =
      (subst (λ (ss : List (ℕ × Segment)). AllByRecursion (λ s. IsSegment s.1) ss) one
      is.segments.each).0

  whole_text : IsSegment (old_whole s.1)
  whole_text = record {
    offset = old_text.offset;
    size = old_text.size;
    encryption = old_text.encryption;
    lacks = old_text.lacks;
    plain = old_text.plain;
  }

  new_text : IsSegment new
  unfolding new_whole
  new_text = record {
    offset = new-offset w.direction w.area.resilience s.1.offset wish.offset
        (let on = reach in omega (arith, on, fits));
    size = new-size (stays_dynamic w.area.resilience s.1.size) (n * sizes.atom)
        (let on = reach in omega (arith, on, fits));
    encryption = new-encryption w w.mode wish.sectors;
    lacks = nothing-named (encryption_for w w.mode);
    plain = record { whole = refl; flat = omega arith };
  }

  part_texts : AllByRecursion IsSegment
      (parts_by sizes.atom p (runs_of p.conversion.direction p.plan))
  unfolding progress_to
  part_texts =
      each-mapped (λ run. part_of sizes.atom (whole_on p run.side) run) IsSegment
      (runs_of w.direction (nothing_new w.direction n))
      (start-each (λ run. IsSegment (part_of sizes.atom (whole_on p run.side) run)) w.direction n
      (run-text sizes p.old (run_of Old 0 n) fits idle.on_disk idle.numbers in_old
      old_text.encryption))

  texts : AllByRecursion IsSegment
      (parts_by sizes.atom p (runs_of p.conversion.direction p.plan) ++ old_whole s.1 ∷ new ∷ [])
  texts =
      each-joined IsSegment (parts_by sizes.atom p (runs_of p.conversion.direction p.plan))
      (old_whole s.1 ∷ new ∷ []) part_texts (whole_text, (new_text, tt))

  laid : AreLaid next sizes p (old_whole s.1) new ds
  unfolding started_by progress_to
  laid = record {
    segments = refl;
    digests = digests-listed w.key slot m.digests p
        (sides_of (runs_of w.direction (nothing_new w.direction n))) refl
        (digest-other m.digests (extent_of m.digests s).digest is.digests.rising
        (digest-found m.digests s.0));
    rising = digests-rising w.key slot m.digests numbers.digest is.digests.rising;
  }

  new_digest : IfSome w.key (λ k. IsDigest (own_digest slot k.1))
  new_digest =
      if_both w.key (λ k. IsDigest k.1) (λ k. IsDigest (own_digest slot k.1))
      (λ k right. record {
        keyslots = (numbers.slot, tt);
        segments = right.segments;
        iterations = right.iterations;
        salt = right.salt;
        digest = right.digest;
        lacks = right.lacks;
        plain = right.plain;
      })
      (if_second w.key (λ k. IsLuks2 k.0) (λ k. IsDigest k.1) wish.key)

  origin : origin_of m.config ≡ Own
  origin =
      ap origin_by (own_texts (mandatory m.config.requirements)
      (by-recursion (λ text. is_foreign text ≡ false) (mandatory m.config.requirements) idle.own))

  pub start-meta : HaveSizes w → IsMeta next
  unfolding started_by
  start-meta few = record {
    keyslots =
        subst (λ o. AreEntries (IsKeyslot o) (keyslots_by w m.keyslots))
        (sym (config-origin w m.config idle.own))
        (start-slots w m.keyslots numbers.slot numbers.conversion
        (if_first w.key (λ k. IsLuks2 k.0) (λ k. IsDigest k.1) wish.key) wish.area
        (subst (λ o. AreEntries (IsKeyslot o) m.keyslots) origin is.keyslots));
    tokens = is.tokens;
    segments = laid-segments next sizes p (old_whole s.1) new ds laid texts;
    digests =
        laid-digests next sizes p (old_whole s.1) new ds laid
        (digests-each w.key slot m.digests IsDigest new_digest is.digests.each);
    config = config-right w m.config few is.config;
    lacks = is.lacks;
    plain = is.plain;
  }

  -- ---- where there is room
  module _ (may : MayStart m sizes w (volume_at m s n)) where
    wholes : are_wholes sizes.atom p.conversion p.old p.new ≡ true
    unfolding progress_to new_whole
    wholes =
        and_from _ (have_two_digests p.old.digest p.new.digest)
        (and_from _ (has_own_digest p.new.encryption p.new.digest)
        (and_from _ (has_own_digest p.old.encryption p.old.digest)
        (and_from _ (fits_place sizes.atom p.conversion.resilience p.old.offset p.new.offset)
        (and_from _ (starts_at_0 p.new.encryption)
        may.mode
        (new-starts w w.mode))
        (new-fits-place sizes.atom w.direction w.area.resilience s.1.offset (n * sizes.atom)
        (main_bytes sizes) may.safe))
        (old-own-digest s.1.encryption (extent_of m.digests s).digest idle.digest may.linear))
        (new-own-digest w w.mode w.key (lowest_free m.digests) may.key))
        (two-digests w.key slot m.digests (extent_of m.digests s).digest is.digests.rising
        (digest-found m.digests s.0))

    there : AreThere p ds
    unfolding progress_to
    there Old =
        digests-there w.key slot m.digests (extent_of m.digests s).digest
        (digest-found m.digests s.0)
    there Zone =
        digests-there w.key slot m.digests (extent_of m.digests s).digest
        (digest-found m.digests s.0)
    there New = digests-own w.key slot m.digests

    other : (k : ℕ) → is_there (with_slot w.key m.keyslots) k ≡ true
        → eqb k (lowest_free (with_slot w.key m.keyslots)) ≡ false
    other k there = start-other w m.keyslots k numbers.slot is.keyslots.rising there

    alone : All (λ d. lists d.1.keyslots (lowest_free (with_slot w.key m.keyslots)) ≡ false) ds
    alone =
        let number = lowest_free (with_slot w.key m.keyslots) in
        at-each (λ d. lists d.1.keyslots number ≡ false) ds
        (digests-each w.key slot m.digests (λ d. lists d.keyslots number ≡ false)
        (if_both w.key (λ k. is_there (with_slot w.key m.keyslots) slot ≡ true)
        (λ k. lists (slot ∷ []) number ≡ false)
        (λ k there. unlisted (slot ∷ []) number (other slot there, tt))
        (own-slot w.key m.keyslots))
        (by-recursion (λ d. lists d.1.keyslots number ≡ false) m.digests
        (λ i d below. unlisted (get_or m.digests i d).1.keyslots number
        (by-recursion (λ k. eqb k number ≡ false) (get_or m.digests i d).1.keyslots
        (λ j e here. other (get_or (get_or m.digests i d).1.keyslots j e)
        (there-slot w.key m.keyslots (get_or (get_or m.digests i d).1.keyslots j e)
        (idle.listed i d below j e here)))))))

    is_laid : IsLaid next sizes p (old_whole s.1) new ds
    unfolding started_by progress_to new_whole
    is_laid =
        let blocks = start-blocks w.direction n in
        let runs = start-runs w.direction n may.some in
        record {
          laid = laid;
          atom = atom;
          busy = config-busy w m.config;
          old = ap (λ rs. whole_extent (length rs) (extent_of m.digests s).digest (old_whole s.1))
              runs;
          new = ap (λ rs. whole_extent (length rs + 1) p.new.digest new) runs;
          wholes = wholes;
          sized =
              ap (λ k. is_whole_size (k * sizes.atom) s.1.size) blocks
              ∙ start-sized s.1.size (main_bytes sizes) s.1.offset sizes.atom n idle.size
              idle.blocks;
          next =
              ap (λ k. is_next_size (k * sizes.atom) (stays_dynamic w.area.resilience s.1.size)
              (size_by (stays_dynamic w.area.resilience s.1.size) (n * sizes.atom))) blocks
              ∙ new-next (stays_dynamic w.area.resilience s.1.size) (n * sizes.atom);
          opens = start-opens w.area.resilience p.plan.zone (start-closed w.direction n);
          some = (let some = may.some in omega (arith, some, blocks));
          there = there;
          keyslot = start-conversion w m.keyslots idle.keyslots;
          alone = alone;
        }

    pub start-progress : progress_of next sizes ≡ Some p
    start-progress = laid-progress next sizes p (old_whole s.1) new ds is_laid

    -- ---- the segments under the next sizes
    old_right : IsRight sizes (config_by w m.config) (old_whole s.1)
    old_right = record {
      text = whole_text;
      whole = (idle.whole, idle.size);
      on_disk = idle.on_disk;
      behind = may.gaps.old;
      sectors = idle.sectors;
      numbers = idle.numbers;
      sized = λ live. (let bad : true ≡ false = live in cc);
    }

    new_right : IsRight sizes (config_by w m.config) new
    unfolding new_whole
    new_right =
        let on = new-on-disk sizes.atom w.direction w.area.resilience s.1.size s.1.offset
        (n * sizes.atom) (main_bytes sizes) may.safe reach in
        record {
          text = new_text;
          whole = (
            new-whole-place sizes.atom w.direction w.area.resilience s.1.offset (n * sizes.atom)
                (main_bytes sizes) may.safe idle.whole,
            new-whole-size (stays_dynamic w.area.resilience s.1.size) sizes.atom n,
          );
          on_disk = on;
          behind = may.gaps.new;
          sectors = new-sectors sizes.atom (encryption_for w w.mode) wish.sectors may.sectors;
          numbers = new-numbers w w.mode (bytes_by (main_bytes sizes)
              (offset_by w.direction w.area.resilience s.1.offset)
              (size_by (stays_dynamic w.area.resilience s.1.size) (n * sizes.atom)))
              (omega (arith, on, fits));
          sized = λ live. (let bad : true ≡ false = live in cc);
        }

    part_right : AllByRecursion (IsRight sizes (config_by w m.config))
        (parts_by sizes.atom p (runs_of p.conversion.direction p.plan))
    unfolding progress_to
    part_right =
        each-mapped (λ run. part_of sizes.atom (whole_on p run.side) run)
        (IsRight sizes (config_by w m.config)) (runs_of w.direction (nothing_new w.direction n))
        (start-each (λ run. IsRight sizes (config_by w m.config)
        (part_of sizes.atom (whole_on p run.side) run)) w.direction n
        (run-right sizes (config_by w m.config) p.old (run_of Old 0 n) fits
        (record {
          whole = idle.whole;
          on_disk = idle.on_disk;
          behind = may.gaps.old;
          sectors = idle.sectors;
          numbers = idle.numbers;
        }) in_old old_text.encryption))

    -- ---- the keyslots
    abbrev whole_area : Area → Type 0
    whole_area area = (area.offset % sizes.atom ≡ 0) × (area.size % sizes.atom ≡ 0)

    areas_within : All (IsWithin (config_by w m.config)) (areas_of (keyslots_by w m.keyslots))
    areas_within =
        let both = each_split (IsWithin (config_by w m.config)) (new_areas w) (areas_of m.keyslots)
        (by-recursion (IsWithin (config_by w m.config)) (new_areas w ++ areas_of m.keyslots)
        may.gaps.within) in
        start-areas w m.keyslots (IsWithin (config_by w m.config))
        (at-each (IsWithin (config_by w m.config)) (new_areas w) both.0)
        (at-each (IsWithin (config_by w m.config)) (areas_of m.keyslots) both.1)

    keyslots_there : All (λ d. All (λ k. is_there (keyslots_by w m.keyslots) k ≡ true)
        d.1.keyslots) ds
    keyslots_there =
        let test : Digest → Type 0 =
        λ d. All (λ k. is_there (keyslots_by w m.keyslots) k ≡ true) d.keyslots in
        at-each (λ d. test d.1) ds
        (digests-each w.key slot m.digests test
        (if_both w.key (λ k. is_there (keyslots_by w m.keyslots) slot ≡ true)
        (λ k. All (λ k. is_there (keyslots_by w m.keyslots) k ≡ true) (slot ∷ []))
        (λ k there. at-each (λ k. is_there (keyslots_by w m.keyslots) k ≡ true) (slot ∷ [])
        (there, tt))
        (start-own w m.keyslots))
        (by-recursion (λ d. test d.1) m.digests
        (λ i d below j e here. start-there w m.keyslots
        (get_or (get_or m.digests i d).1.keyslots j e) (idle.listed i d below j e here))))

    are_right : IsLaidRight next sizes p (old_whole s.1) new ds
    unfolding started_by progress_to new_whole
    are_right = record {
      own =
          at-each (λ text. is_foreign text ≡ false)
          (mandatory (config_by w m.config).requirements) (config-own w m.config idle.own);
      within = areas_within;
      detached = may.gaps.detached;
      apart = start-apart w m.keyslots may.gaps.apart;
      areas = start-areas w m.keyslots whole_area may.gaps.whole idle.areas;
      keyslots = keyslots_there;
      right =
          each-joined (IsRight sizes (config_by w m.config))
          (parts_by sizes.atom p (runs_of p.conversion.direction p.plan)) (old_whole s.1 ∷ new ∷ [])
          part_right (old_right, (new_right, tt));
      room = may.room;
      zone = (let closed = start-closed w.direction n in omega (arith, closed));
      shift =
          new-shift sizes.atom w.area.size w.direction w.area.resilience s.1.offset
          (n * sizes.atom) (main_bytes sizes) may.safe may.room;
    }

    pub start-valid : first_fault next sizes ≡ None
    start-valid = laid-valid next sizes p (old_whole s.1) new ds is_laid are_right
