-- Operations that aren't refused are of whole blocks: they have no edge, and the bytes of their range
-- are those of their blocks.
use Rattle.std.proofs.Common.{List, None, [], ap, arith, drop, inl, inr, length, not, refl, replicate}
use Rattle.std.proofs.Common.{take, ℕ, ◌%◌, ◌+◌, ◌∙◌, ◌≡◌, ◌≤◌, ◌==◌}
use Rattle.std.proofs.lemmas.Bool.{and_right, eq-eqb}
use Rattle.std.proofs.lemmas.Grind.{common_steps}
use Rattle.std.proofs.lemmas.List.{length-replicate, take_all}
use Rattle.plain_disk.specs.Operations.{wrong_range_of}
use Rattle.plain_disk.specs.declared.operation.Op.{Op}
use Rattle.plain_disk.specs.declared.operation.Op.TheVariants as Ops
use Rattle.sector_disk.specs.Geometry.{IsAtom}
use Rattle.volume_machine.proofs.EdgeBlocks.{in_range-nil}
use Rattle.volume_machine.proofs.Soundness.{proper-range}
use Rattle.volume_machine.specs.Asks.{wrong_ask}
use Rattle.volume_machine.specs.Edges.{InPlain, KeepsEdges, edges_of, in_range}
use Rattle.volume_machine.specs.declared.ask.Ask.{Ask}
use Rattle.volume_machine.specs.declared.ask.Ask.TheVariants.{Flush, Read, Write}
use Rattle.lane_plan.specs.Calls.{ask_of}
use Rattle.lane_plan.specs.Plans.{HasPlain, IsAligned}
use Rattle.lane_plan.proofs.PlanSizes.{body-long}

aligned_range : (atom size offset len past : ℕ) → wrong_range_of atom size offset len past ≡ None
    → (offset % atom ≡ 0) × (len % atom ≡ 0)
aligned_range atom size offset len past proper =
    (grind (arith, common_steps), grind (arith, common_steps))

pub aligned_ask : (atom size : ℕ) (ask : Ask) → wrong_ask atom size ask ≡ None
    → IsAligned atom ask
aligned_ask atom size (Read offset len) proper =
    aligned_range atom size offset len 22 (proper-range atom size offset len proper)
aligned_ask atom size (Write offset len fua) proper =
    aligned_range atom size offset len 28 proper
aligned_ask atom size Flush proper = tt

whole_sum : (atom offset len : ℕ) → IsAtom atom → offset % atom ≡ 0 → len % atom ≡ 0
    → (offset + len) % atom ≡ 0
whole_sum atom offset len (inl is) start whole =
    rw is (let first = rw is at start in let all = rw is at whole in omega (arith, first, all))
whole_sum atom offset len (inr is) start whole =
    rw is (let first = rw is at start in let all = rw is at whole in omega (arith, first, all))

-- they have no edge
pub no_edges : (atom : ℕ) (ask : Ask) → IsAtom atom → IsAligned atom ask → edges_of atom ask ≡ []
unfolding edges_of
no_edges atom (Read offset len) known is = refl
no_edges atom (Write offset len fua) known (start, whole) =
    let begins = and_right (not (len == 0)) (not (offset % atom == 0))
    (ap (λ b. not b) (eq-eqb (offset % atom) 0 start)) in
    let ends = and_right (not (len == 0)) (not ((offset + len) % atom == 0))
    (ap (λ b. not b) (eq-eqb ((offset + len) % atom) 0 (whole_sum atom offset len known start whole)))
    in
    rw (begins, ends) refl
no_edges atom Flush known is = refl

-- so they keep all of them
pub keeps_aligned : (atom : ℕ) (ask : Ask) (plain : InPlain) → IsAtom atom → IsAligned atom ask
    → KeepsEdges atom ask plain
keeps_aligned atom ask plain known is = record {
  each = λ which k below inside at beside.
      absurd (omega (arith, below, ap (λ xs. length xs) (no_edges atom ask known is)));
}

-- the bytes of the range are those of the blocks
pub in_range-aligned : (atom offset len : ℕ) (plain : List ℕ) → offset % atom ≡ 0
    → length plain ≤ len → in_range atom offset len plain ≡ plain
in_range-aligned atom offset len plain start short =
    ap (λ k. take len (drop k plain)) start ∙ take_all len plain short

-- of what was tried of a write the bytes of its range are all
abbrev pub RangeIs : ℕ → Ask → List ℕ → Type 0
RangeIs atom (Read offset len) plain = Unit {0}
RangeIs atom (Write offset len fua) plain = in_range atom offset len plain ≡ plain
RangeIs atom Flush plain = Unit {0}

pub range_none : (atom : ℕ) (ask : Ask) → RangeIs atom ask []
range_none atom (Read offset len) = tt
range_none atom (Write offset len fua) = in_range-nil atom offset len
range_none atom Flush = tt

pub range_all : (atom : ℕ) (whole : List ℕ) (op : Op) (plain : List ℕ) → IsAligned atom (ask_of op)
    → HasPlain whole op plain → RangeIs atom (ask_of op) plain
range_all atom whole (Ops.Read offset len) plain is has = tt
range_all atom whole (Ops.Write offset body fua) plain is has =
    in_range-aligned atom offset (length body) plain is.0 (body-long plain body has)
range_all atom whole (Ops.Zeroes offset len fua) plain is has =
    let size = length-replicate {A = ℕ} len 0 in
    in_range-aligned atom offset len plain is.0
    (omega (arith, body-long plain (replicate len 0) has, size))
range_all atom whole Ops.Flush plain is has = tt
