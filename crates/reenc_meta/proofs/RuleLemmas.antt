-- What the rules ask of metadata of a conversion, and so no fault.
use Rattle.std.proofs.Common.{◌≡◌, ◌∙◌, ℕ, suc, ◌+◌, ◌^◌, ◌<◌, ◌++◌, not, cond}
use Rattle.std.proofs.Common.{List, inl, inr, [], ◌∷◌, length, get_or}
use Rattle.std.proofs.Common.{Option, Some, None, Bool, true, false, refl, ap, arith}
use Rattle.std.proofs.lemmas.Bool.{cases_Bool}
use Rattle.std.proofs.lemmas.List.Folds.{list_any_none}
use Rattle.std.specs.List.{All, AllByRecursion, enumerate_from}
use Rattle.std.specs.Option.{IsSome, is_some}
use Rattle.base_terms.specs.declared.disk_sizes.Sizes.{Sizes}
use Rattle.luks_meta.specs.Configs.{is_foreign, mandatory}
use Rattle.luks_meta.specs.Digests.{IsDigest}
use Rattle.luks_meta.specs.declared.digest.Digest.{Digest}
use Rattle.luks_meta.specs.declared.meta.Parts.{Parts}
use Rattle.luks_meta.specs.declared.segment.Segment.{Segment}
use Rattle.luks_rules.specs.Areas.{areas_of}
use Rattle.luks_rules.specs.Conversions.{conversions_of}
use Rattle.luks_rules.specs.Foreign.{first_foreign}
use Rattle.luks_rules.specs.Overlaps.{overlap}
use Rattle.luks_rules.specs.Plain.{AreReferred, HaveNumbers, HaveWholeAtoms, HaveWholeSectors}
use Rattle.luks_rules.specs.Plain.{HoldVolume, LieWithin}
use Rattle.luks_rules.specs.Plans.{same_digest}
use Rattle.luks_rules.specs.References.{times_listed}
use Rattle.luks_rules.specs.Rooms.{breaks_capacity, breaks_shift}
use Rattle.luks_rules.specs.Rules.{first_fault}
use Rattle.luks_rules.specs.Segments.{in_progress}
use Rattle.luks_rules.specs.Shapes.{breaks_shape, is_any, progress_of}
use Rattle.luks_rules.specs.States.{IsSound}
use Rattle.luks_rules.specs.declared.shape.Progress.{Progress}
use Rattle.luks_rules.proofs.ChoiceLemmas.{find_any}
use Rattle.luks_rules.proofs.PlainLemmas.{from_atoms, from_held, from_numbers, from_referred}
use Rattle.luks_rules.proofs.PlainLemmas.{from_sectors, from_within}
use Rattle.luks_rules.proofs.ShareLemmas.{shared}
use Rattle.reenc_meta.specs.Layouts.{numbers_under}
use Rattle.reenc_meta.specs.Layouts.{parts_by}
use Rattle.reenc_meta.specs.Layouts.{segments_under, whole_on}
use Rattle.reenc_meta.specs.Runs.{sides_of}
use Rattle.reenc_meta.specs.declared.runs.Run.{Run}
use Rattle.reenc_meta.proofs.ListingLemmas.{numbers-below}
use Rattle.reenc_meta.proofs.SegmentLemmas.{crypt-whole}
use Rattle.segment_map.specs.declared.Side.{Side}
use Rattle.segment_map.specs.declared.Side.TheVariants.{Old}

pub record BreaksNone (m : Parts) (sizes : Sizes) (p : Progress) : Type 0 where
  pub own : All (λ text. is_foreign text ≡ false) (mandatory m.config.requirements)
  pub bounds : LieWithin m sizes
  pub apart : overlap (areas_of m.keyslots) ≡ false
  pub referred : AreReferred m
  pub volume : HoldVolume (in_progress m.config) m sizes
  pub sectors : HaveWholeSectors m sizes
  pub atoms : HaveWholeAtoms m sizes
  pub numbers : HaveNumbers m sizes
  pub busy : in_progress m.config ≡ true
  pub progress : progress_of m sizes ≡ Some p
  pub capacity : breaks_capacity sizes.atom (Some p) ≡ false
  pub shift : breaks_shift (Some p) ≡ false

not_some : (o : Option (List ℕ)) → is_some o ≡ false → o ≡ None
not_some None h = refl
not_some (Some x) h = cc

pub none-foreign : (texts : List (List ℕ)) → All (λ text. is_foreign text ≡ false) texts
    → first_foreign texts ≡ None
none-foreign texts h =
    not_some (first_foreign texts)
    (find_any is_foreign texts ∙ list_any_none is_foreign texts h)

has_shape : (m : Parts) (sizes : Sizes) (p : Progress) → in_progress m.config ≡ true
    → breaks_shape m (Some p) ≡ false
unfolding breaks_shape
has_shape m sizes p busy =
    ap (λ b. cond b (not (is_some (Some p))) (is_any (conversions_of m.keyslots))) busy

pub no-fault : (m : Parts) (sizes : Sizes) (p : Progress) → BreaksNone m sizes p
    → first_fault m sizes ≡ None
unfolding first_fault
no-fault m sizes p is =
    rw (
      none-foreign (mandatory m.config.requirements) is.own,
      from_within m sizes is.bounds,
      is.apart,
      from_referred m is.referred,
      from_held (in_progress m.config) m sizes is.volume,
      from_sectors m sizes is.sectors,
      from_atoms m sizes is.atoms,
      from_numbers m sizes is.numbers,
      is.progress,
      has_shape m sizes p is.busy,
      is.capacity,
      is.shift,
    )
    refl

pub areas-apart : (m : Parts) (sizes : Sizes) → IsSound m sizes
    → overlap (areas_of m.keyslots) ≡ false
areas-apart m sizes sound = elim (cases_Bool (overlap (areas_of m.keyslots))) [
  | inl e ↦ absurd (sound.apart (shared (areas_of m.keyslots) e))
  | inr e ↦ e
]

-- ---- a crypt segment is listed once
pub once-each : (atom k : ℕ) (p : Progress) (ds : List (ℕ × Digest)) (runs : List Run)
    (a b : Segment)
    → ((i n : ℕ) (d : Side) → n ≡ k + i → i < length (sides_of runs)
    → IsSome (whole_on p (get_or (sides_of runs) i d)).digest → times_listed ds n ≡ 1)
    → ((side : Side) → IsSome (whole_on p side).encryption → IsSome (whole_on p side).digest)
    → (IsSome a.encryption → IsSome p.old.digest) → (IsSome b.encryption → IsSome p.new.digest)
    → AllByRecursion (λ s. IsSome s.1.encryption → times_listed ds s.0 ≡ 1)
    (enumerate_from k (parts_by atom p runs ++ a ∷ b ∷ []))
once-each atom k p ds [] a b once own old new = (
  λ some. once 0 k Old (omega arith) (omega arith) (old some),
  (λ some. once 1 (k + 1) Old refl (omega arith) (new some), tt),
)
once-each atom k p ds (run ∷ runs) a b once own old new = (
  λ some. once 0 k Old (omega arith) (omega arith)
      (own run.side (crypt-whole atom (whole_on p run.side) run some)),
  once-each atom (k + 1) p ds runs a b
      (λ i n d at below some. once (suc i) n d (omega (arith, at)) (omega (arith, below)) some) own
      old new,
)

-- ---- a digest with other segments
pub relisted : (segments : List ℕ) (d : Digest) → IsDigest d
    → AllByRecursion (λ n. n < 2 ^ 64) segments → IsDigest (record d { segments = segments })
relisted segments d is few = record {
  keyslots = is.keyslots;
  segments = few;
  iterations = is.iterations;
  salt = is.salt;
  digest = is.digest;
  lacks = is.lacks;
  plain = is.plain;
}

few_either : (sides : List Side) (a b : Bool)
    → AllByRecursion (λ n. n < length sides)
    (cond a (numbers_under false 0 sides) (cond b (numbers_under true 0 sides) []))
few_either sides true b = numbers-below false 0 (length sides) sides (omega arith)
few_either sides false true = numbers-below true 0 (length sides) sides (omega arith)
few_either sides false false = tt

pub numbers-few : (p : Progress) (sides : List Side) (number : ℕ)
    → AllByRecursion (λ n. n < length sides) (segments_under p sides number)
numbers-few p sides number =
    few_either sides (same_digest p.old.digest (Some number))
    (same_digest p.new.digest (Some number))
