-- The segments that a plan lays out lie where they may.
use Rattle.std.proofs.Common.{◌≡◌, ◌∙◌, ℕ, ◌+◌, ◌-◌, ◌*◌, ◌/◌, ◌%◌, ◌^◌, ◌<◌, ◌≤◌, ◌++◌, ◌&&◌, ◌||◌}
use Rattle.std.proofs.Common.{not, cond, List, [], ◌∷◌, map, drop, Option, Some, None}
use Rattle.std.proofs.Common.{true, false, refl, arith, codes}
use Rattle.std.proofs.Math.Nat.{add-mul-mod_self_right, mul-mod_left}
use Rattle.std.proofs.lemmas.List.Sums.{sum_by-cons}
use Rattle.std.specs.List.{AllByRecursion, enumerate_from, sum_by}
use Rattle.std.specs.Option.{IfSome, IsSome}
use Rattle.base_terms.specs.declared.disk_sizes.Sizes.{Sizes}
use Rattle.json_members.specs.Members.{Lacks}
use Rattle.luks_meta.specs.Metas.{IsMeta}
use Rattle.luks_meta.specs.Segments.{IsEncryption, IsSegment, segment_names}
use Rattle.luks_meta.specs.declared.config.Config.{Config}
use Rattle.luks_meta.specs.declared.meta.Parts.{Parts}
use Rattle.luks_meta.specs.declared.segment.Encryption.{Encryption}
use Rattle.luks_meta.specs.declared.segment.Segment.{Segment}
use Rattle.luks_rules.specs.Areas.{areas_end, main_bytes}
use Rattle.luks_rules.specs.Plain.{IsWholeSize}
use Rattle.luks_rules.specs.Segments.{bytes_by, bytes_of, flag_in, in_progress, is_backup}
use Rattle.luks_rules.specs.Segments.{is_dynamic, live_bytes}
use Rattle.luks_rules.specs.States.{IsPlaced, IsSound}
use Rattle.luks_rules.specs.declared.extents.Extent.{Extent}
use Rattle.luks_rules.specs.declared.shape.Progress.{Progress}
use Rattle.reenc_meta.specs.Layouts.{HasPlace, encryption_behind, flags_on, part_of, parts_by}
use Rattle.reenc_meta.specs.Layouts.{whole_on}
use Rattle.reenc_meta.specs.declared.runs.Run.{Run}
use Rattle.reenc_meta.proofs.EachLemmas.{at-each, by-recursion, each-dropped}
use Rattle.reenc_meta.proofs.EachLemmas.{each-mapped}
use Rattle.segment_map.specs.declared.Side.{Side}
use Rattle.segment_map.specs.declared.Side.TheVariants.{Old, New, Zone}
use Rattle.serde_json.specs.Data.{no_members}

-- A segment has a text, lies in whole atoms on the disk, behind the keyslots' areas where these are
-- on the same one, and has whole sectors with numbers of 64 bits; a live one has a size.
pub record IsRight (sizes : Sizes) (config : Config) (s : Segment) : Type 0 where
  pub text : IsSegment s
  pub whole : (s.offset % sizes.atom ≡ 0) × IsWholeSize sizes.atom s.size
  pub on_disk : s.offset + bytes_of sizes s ≤ main_bytes sizes
  pub behind : sizes.detached ≡ false → areas_end config ≤ s.offset
  pub sectors : IfSome s.encryption (λ e. (0 < e.sector_size) × (sizes.atom % e.sector_size ≡ 0))
  pub numbers : IfSome s.encryption (λ e. e.iv_tweak + bytes_of sizes s / 512 ≤ 2 ^ 64 - 1)
  pub sized : is_backup s ≡ false → is_dynamic s.size ≡ false

-- ---- a part of a whole segment
-- a run ends within its whole segment
abbrev pub IsIn : Sizes → Extent → Run → Type 0
IsIn sizes whole run =
    run.from * sizes.atom + run.blocks * sizes.atom
    ≤ bytes_by (main_bytes sizes) whole.offset whole.size

encryption_right : (units : ℕ) (o : Option Encryption) → IfSome o IsEncryption
    → IfSome o (λ e. e.iv_tweak + units < 2 ^ 64) → IfSome (encryption_behind units o) IsEncryption
encryption_right units None is fits = tt
encryption_right units (Some e) is fits =
    record { iv_tweak = fits; sector_size = is.sector_size }

pub nothing-named : (o : Option Encryption) → Lacks (codes "integrity" ∷ segment_names o) no_members
nothing-named None = (refl, (refl, (refl, (refl, (refl, tt)))))
nothing-named (Some e) = (refl, (refl, (refl, (refl, (refl, (refl, (refl, (refl, tt))))))))

sectors_right : (atom units : ℕ) (o : Option Encryption)
    → IfSome o (λ e. (0 < e.sector_size) × (atom % e.sector_size ≡ 0))
    → IfSome (encryption_behind units o) (λ e. (0 < e.sector_size) × (atom % e.sector_size ≡ 0))
sectors_right atom units None is = tt
sectors_right atom units (Some e) is = is

numbers_right : (from bytes all : ℕ) (o : Option Encryption) → from + bytes ≤ all
    → IfSome o (λ e. e.iv_tweak + all / 512 ≤ 2 ^ 64 - 1)
    → IfSome (encryption_behind (from / 512) o) (λ e. e.iv_tweak + bytes / 512 ≤ 2 ^ 64 - 1)
numbers_right from bytes all None within is = tt
numbers_right from bytes all (Some e) within is = omega (arith, within, is)

numbers_fit : (from bytes all : ℕ) (o : Option Encryption) → from + bytes ≤ all
    → IfSome o (λ e. e.iv_tweak + all / 512 ≤ 2 ^ 64 - 1)
    → IfSome o (λ e. e.iv_tweak + from / 512 < 2 ^ 64)
numbers_fit from bytes all None within is = tt
numbers_fit from bytes all (Some e) within is = omega (arith, within, is)

module _ (sizes : Sizes) (whole : Extent) (run : Run) (fits : main_bytes sizes < 2 ^ 63)
    (on : whole.offset + bytes_by (main_bytes sizes) whole.offset whole.size ≤ main_bytes sizes)
    (numbers : IfSome whole.encryption
    (λ e. e.iv_tweak + bytes_by (main_bytes sizes) whole.offset whole.size / 512 ≤ 2 ^ 64 - 1))
    (in_whole : IsIn sizes whole run) where
  pub run-place : HasPlace sizes.atom whole run
  run-place =
      let inside = in_whole in
      record {
        offset = omega (arith, fits, on, inside);
        size = omega (arith, fits, on, inside);
        numbers = numbers_fit (run.from * sizes.atom) (run.blocks * sizes.atom)
            (bytes_by (main_bytes sizes) whole.offset whole.size) whole.encryption in_whole numbers;
      }

  pub run-text : IfSome whole.encryption IsEncryption → IsSegment (part_of sizes.atom whole run)
  unfolding part_of
  run-text is = record {
    offset = run-place.offset;
    size = run-place.size;
    encryption = encryption_right (run.from * sizes.atom / 512) whole.encryption is
        run-place.numbers;
    lacks = nothing-named (encryption_behind (run.from * sizes.atom / 512) whole.encryption);
    plain = record { whole = refl; flat = omega arith };
  }

-- A whole segment lies as each segment has to.
pub record IsWhole (sizes : Sizes) (config : Config) (e : Extent) : Type 0 where
  pub whole : e.offset % sizes.atom ≡ 0
  pub on_disk : e.offset + bytes_by (main_bytes sizes) e.offset e.size ≤ main_bytes sizes
  pub behind : sizes.detached ≡ false → areas_end config ≤ e.offset
  pub sectors : IfSome e.encryption (λ c. (0 < c.sector_size) × (sizes.atom % c.sector_size ≡ 0))
  pub numbers : IfSome e.encryption
      (λ c. c.iv_tweak + bytes_by (main_bytes sizes) e.offset e.size / 512 ≤ 2 ^ 64 - 1)

pub run-right : (sizes : Sizes) (config : Config) (whole : Extent) (run : Run)
    → main_bytes sizes < 2 ^ 63 → IsWhole sizes config whole → IsIn sizes whole run
    → IfSome whole.encryption IsEncryption → IsRight sizes config (part_of sizes.atom whole run)
unfolding part_of
run-right sizes config whole run fits is in_whole encryption =
    let on = is.on_disk in
    let inside = in_whole in
    record {
      text = run-text sizes whole run fits is.on_disk is.numbers in_whole encryption;
      whole = (
        add-mul-mod_self_right whole.offset run.from sizes.atom ∙ is.whole,
        mul-mod_left run.blocks sizes.atom,
      );
      on_disk = omega (arith, on, inside);
      behind = λ e. let far = is.behind e in omega (arith, far);
      sectors = sectors_right sizes.atom (run.from * sizes.atom / 512) whole.encryption is.sectors;
      numbers = numbers_right (run.from * sizes.atom) (run.blocks * sizes.atom)
          (bytes_by (main_bytes sizes) whole.offset whole.size) whole.encryption in_whole
          is.numbers;
      sized = λ live. refl;
    }

module _ (m : Parts) (sizes : Sizes) (whole : Extent) (run : Run)
    (fits : main_bytes sizes < 2 ^ 63) (placed : IsPlaced m sizes whole)
    (in_whole : IsIn sizes whole run) where
  pub part-place : HasPlace sizes.atom whole run
  part-place = run-place sizes whole run fits placed.on_disk placed.numbers in_whole

  pub part-right : IfSome whole.encryption IsEncryption
      → IsRight sizes m.config (part_of sizes.atom whole run)
  part-right is =
      run-right sizes m.config whole run fits
      (record {
        whole = placed.whole;
        on_disk = placed.on_disk;
        behind = placed.behind;
        sectors = placed.sectors;
        numbers = placed.numbers;
      }) in_whole is

-- ---- the segments that are there
pub segments-right : (m : Parts) (sizes : Sizes) → in_progress m.config ≡ true → IsMeta m
    → IsSound m sizes → AllByRecursion (λ s. IsRight sizes m.config s.1) m.segments
segments-right m sizes busy is sound =
    by-recursion (λ s. IsRight sizes m.config s.1) m.segments (λ k d below. record {
      text = at-each (λ s. IsSegment s.1) m.segments is.segments.each k d below;
      whole = sound.atoms.segments k d below;
      on_disk = sound.segments.on_disk k d below;
      behind = λ e. sound.within.attached e k d below;
      sectors = sound.sectors k d below;
      numbers = sound.numbers k d below;
      sized = sound.segments.sized busy k d below;
    })

pub wholes-right : (sizes : Sizes) (config : Config) (n : ℕ) (segments : List (ℕ × Segment))
    → AllByRecursion (λ s. IsRight sizes config s.1) segments
    → AllByRecursion (IsRight sizes config) (map (λ s. s.1) (drop n segments))
wholes-right sizes config n segments right =
    each-mapped (λ s. s.1) (IsRight sizes config) (drop n segments)
    (each-dropped (λ s. IsRight sizes config s.1) n segments right)

-- ---- how many bytes the live ones have
part_bytes : (sizes : Sizes) (whole : Extent) (run : Run)
    → live_bytes true sizes (part_of sizes.atom whole run) ≡ run.blocks * sizes.atom
unfolding part_of
part_bytes sizes whole run = go run.side
  where
    go : (side : Side)
        → cond (not (true && (flag_in (codes "backup-previous") (flags_on side)
        || flag_in (codes "backup-final") (flags_on side)))) (run.blocks * sizes.atom) 0
        ≡ run.blocks * sizes.atom
    go Old = refl
    go Zone = refl
    go New = refl

pub live-sum : (sizes : Sizes) (p : Progress) (k : ℕ) (runs : List Run) (wholes : List Segment)
    → sum_by (λ run. run.blocks * sizes.atom) runs
    ≤ sum_by (λ s. live_bytes true sizes s.1)
    (enumerate_from k (parts_by sizes.atom p runs ++ wholes))
live-sum sizes p k [] wholes = omega arith
live-sum sizes p k (run ∷ runs) wholes =
    let one = sum_by-cons (λ run. run.blocks * sizes.atom) run runs in
    let two = sum_by-cons (λ s. live_bytes true sizes s.1)
    (k, part_of sizes.atom (whole_on p run.side) run)
    (enumerate_from (k + 1) (parts_by sizes.atom p runs ++ wholes)) in
    let here = part_bytes sizes (whole_on p run.side) run in
    let later = live-sum sizes p (k + 1) runs wholes in
    omega (arith, one, two, here, later)

-- ---- a crypt part has a crypt whole
pub crypt-whole : (atom : ℕ) (whole : Extent) (run : Run)
    → IsSome (part_of atom whole run).encryption → IsSome whole.encryption
unfolding part_of
crypt-whole atom whole run some = by whole.encryption some
  where
    by : (o : Option Encryption) → IsSome (encryption_behind (run.from * atom / 512) o) → IsSome o
    by None some = some
    by (Some e) some = refl
