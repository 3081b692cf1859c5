-- The two whole segments of a conversion, and its segments and digests at a later plan.
use Rattle.std.proofs.Common.{◌≡◌, ◌∙◌, ℕ, ◌+◌, ◌<◌, ◌++◌, ◌&&◌, ◌⊎◌, eqb}
use Rattle.std.proofs.Common.{List, [], ◌∷◌, length, map, drop, Option, Some, None}
use Rattle.std.proofs.Common.{true, inl, inr}
use Rattle.std.proofs.Common.{refl, sym, ap, subst}
use Rattle.std.proofs.lemmas.Bool.{and_parts, eqb-true}
use Rattle.std.proofs.lemmas.List.{length-append, length-map}
use Rattle.std.specs.List.{enumerate_from, find}
use Rattle.std.specs.Option.{IfSome, IsSome, is_some, option_map}
use Rattle.base_terms.specs.declared.disk_sizes.Sizes.{Sizes}
use Rattle.json_members.specs.Entries.{IsRising}
use Rattle.luks_meta.specs.declared.meta.Parts.{Parts}
use Rattle.luks_meta.specs.declared.segment.Encryption.{Encryption}
use Rattle.luks_meta.specs.declared.segment.Segment.{Segment}
use Rattle.luks_rules.specs.Extents.{extent_of}
use Rattle.luks_rules.specs.Plans.{blocks_in}
use Rattle.luks_rules.specs.References.{is_there, value_at}
use Rattle.luks_rules.specs.Segments.{in_progress}
use Rattle.luks_rules.specs.Shapes.{has_own_digest}
use Rattle.luks_rules.specs.Shapes.{numbered}
use Rattle.luks_rules.specs.States.{IsConverting, IsPlaced}
use Rattle.luks_rules.specs.declared.extents.Extent.{Extent}
use Rattle.luks_rules.specs.declared.plan.Plan.{Plan}
use Rattle.luks_rules.specs.declared.shape.Progress.{Progress}
use Rattle.luks_rules.proofs.ChoiceLemmas.{find_any}
use Rattle.reenc_meta.specs.Layouts.{part_of}
use Rattle.reenc_meta.specs.Layouts.{parts_by, progress_at, segments_by, whole_on, wholes_of}
use Rattle.reenc_meta.specs.Moves.{MayBecome}
use Rattle.reenc_meta.specs.Runs.{runs_of, sides_of}
use Rattle.reenc_meta.specs.declared.runs.Run.{Run}
use Rattle.reenc_meta.proofs.ExtentLemmas.{wholes-last}
use Rattle.reenc_meta.proofs.WholeLemmas.{linear-digest}
use Rattle.segment_map.specs.declared.Side.{Side}
use Rattle.segment_map.specs.declared.Side.TheVariants.{Old, New, Zone}

-- ---- the digests of the sides are there
pub value-there : {X : Type 0} (es : List (ℕ × X)) (n : ℕ) (x : X) → value_at es n ≡ Some x
    → is_there es n ≡ true
value-there {X} es n x is =
    sym (find_any (λ e. eqb e.0 n) es) ∙ go (find (λ e. eqb e.0 n) es) is
  where
    go : (o : Option (ℕ × X)) → option_map (λ e. e.1) o ≡ Some x → is_some o ≡ true
    go None h = cc
    go (Some e) h = refl

none_or_some : (o : Option Encryption) → (o ≡ None) ⊎ (IsSome o)
none_or_some None = inl refl
none_or_some (Some e) = inr refl

pub digest-there : (m : Parts) (sizes : Sizes) (e : Extent) → IsPlaced m sizes e
    → has_own_digest e.encryption e.digest ≡ true
    → IfSome e.digest (λ n. is_there m.digests n ≡ true)
digest-there m sizes e placed own = elim (none_or_some e.encryption) [
  | inl none ↦
      subst (λ o. IfSome o (λ n. is_there m.digests n ≡ true))
      (sym (linear-digest e.encryption e.digest own none)) tt
  | inr some ↦
      let under = placed.digest some in
      subst (λ o. IfSome o (λ n. is_there m.digests n ≡ true)) (sym under.2.number)
      (value-there m.digests under.0 under.1 under.2.digest)
]

-- ---- the same whole segments under other numbers
part_again : (atom : ℕ) (p : Progress) (plan : Plan) (run : Run)
    → part_of atom (whole_on p run.side) run
    ≡ part_of atom (whole_on (progress_at plan p) run.side) run
unfolding part_of
part_again atom p plan run = go run.side
  where
    go : (side : Side) → part_of atom (whole_on p side) run
        ≡ part_of atom (whole_on (progress_at plan p) side) run
    go Old = refl
    go Zone = refl
    go New = refl

pub parts-again : (atom : ℕ) (p : Progress) (plan : Plan) (runs : List Run)
    → parts_by atom p runs ≡ parts_by atom (progress_at plan p) runs
parts-again atom p plan [] = refl
parts-again atom p plan (run ∷ runs) =
    let first = part_again atom p plan run in
    let later = parts-again atom p plan runs in
    λ i. first i ∷ later i

-- ---- the sides of all segments
pub sides-length : (runs : List Run) → length (sides_of runs) ≡ length runs + 2
sides-length runs =
    length-append (map (λ run. run.side) runs) (Old ∷ New ∷ [])
    ∙ ap (λ n. n + 2) (length-map runs (λ run. run.side))

-- ---- so far
module _ (m : Parts) (sizes : Sizes) (p : Progress) (live : List Extent) (plan : Plan)
    (rising : IsRising m.digests) (busy : in_progress m.config ≡ true) (atom : 0 < sizes.atom)
    (conv : IsConverting m sizes p live) (may : MayBecome sizes.atom p plan)
    (some : 0 < blocks_in p.plan) where
  abbrev q : Progress
  q = progress_at plan p

  abbrev runs : List Run
  runs = runs_of p.conversion.direction plan

  numbers : (numbered 0 live && eqb p.old.number (length live)) ≡ true
  numbers =
      (and_parts (numbered 0 live && eqb p.old.number (length live))
      (eqb p.new.number (length live + 1)) conv.state.numbers).0

  pub live-length : p.old.number ≡ length live
  live-length =
      eqb-true p.old.number (length live)
      (and_parts (numbered 0 live) (eqb p.old.number (length live)) numbers).1

  pub wholes-so : (a : ℕ × Segment) × (b : ℕ × Segment)
      × (drop p.old.number m.segments ≡ a ∷ b ∷ [])
      × (extent_of m.digests a ≡ p.old) × (extent_of m.digests b ≡ p.new)
  wholes-so =
      wholes-last m.digests m.segments live p.old p.new p.old.number conv.segments live-length

  pub wholes-two : wholes_of p m.segments ≡ wholes-so.0.1 ∷ wholes-so.1.1 ∷ []
  wholes-two = ap (map (λ s. s.1)) wholes-so.2

  pub segments-so : segments_by sizes.atom p runs (wholes_of p m.segments)
      ≡ enumerate_from 0 (parts_by sizes.atom q runs ++ wholes-so.0.1 ∷ wholes-so.1.1 ∷ [])
  segments-so =
      ap (λ wholes. enumerate_from 0 (parts_by sizes.atom p runs ++ wholes)) wholes-two
      ∙ ap (λ parts. enumerate_from 0 (parts ++ wholes-so.0.1 ∷ wholes-so.1.1 ∷ []))
      (parts-again sizes.atom p plan runs)
