-- The blocks of the zone at hand are on one side by each header that the commit at hand may leave.
use Rattle.std.proofs.Common.{◌≡◌, ◌⊎◌, inl, inr, ℕ, ◌<◌, ◌≤◌, List, Some, ap, refl, subst, sym, ◌∙◌}
use Rattle.base_terms.specs.declared.block_range.BlockRange.{BlockRange}
use Rattle.crash_laws.specs.HeaderAreas.Commits.{MayBe, Stage, begun, first_kept, first_written, second_written}
use Rattle.crash_laws.specs.HotZones.Calls.{IsFirst}
use Rattle.crash_laws.specs.HotZones.Standing.{side_before}
use Rattle.crash_laws.specs.HotZones.Zones.{Hotzone, Phase, from_of, mending, moving, opening, saving}
use Rattle.crash_laws.specs.HotZones.Zones.{shifting, stage_of, to_of, turning, writing}
use Rattle.segment_map.specs.declared.Side.{Side}
use Rattle.segment_map.specs.declared.Side.TheVariants.{New, Zone}
use Rattle.segment_map.specs.declared.map.Map.{Map}
use Rattle.volume_laws.specs.Converting.{IsInOrder}
use Rattle.volume_machine.specs.Courses.{IsToOpen, Leads}
use Rattle.volume_machine.specs.Pieces.{side_in}
use Rattle.volume_machine.specs.Readings.{Reading}
use Rattle.volume_machine.specs.States.{State}
use Rattle.volume_machine.specs.Works.{Work}

-- the blocks of a range are on this side by a map
abbrev pub AllOn : BlockRange → Map → Side → Type 0
AllOn range map side = (b : ℕ) → range.start ≤ b → b < range.end → side_in map b ≡ side

-- on one side
abbrev pub OnOneSide : BlockRange → Map → Type 0
OnOneSide range map = (side : Side) × AllOn range map side

-- ---- by what a header means
module _ (reading : Reading) (range : BlockRange) (zone : Hotzone (List ℕ)) where
  abbrev Of : List ℕ → Type 0
  Of means = OnOneSide range (reading.map_of means)

  in-commit : (stage : Stage) (from to m : List ℕ) → Of from → Of to → MayBe stage from to m → Of m
  in-commit begun from to m one other is = subst Of (sym is) one
  in-commit first_written from to m one other (inl is) = subst Of (sym is) one
  in-commit first_written from to m one other (inr is) = subst Of (sym is) other
  in-commit first_kept from to m one other is = subst Of (sym is) other
  in-commit second_written from to m one other is = subst Of (sym is) other

  by-phase : (phase : Phase) (m : List ℕ) → Of (from_of zone phase).means
      → ((IsFirst phase → ⊥) → Of (to_of zone phase).means)
      → MayBe (stage_of phase) (from_of zone phase).means (to_of zone phase).means m → Of m
  by-phase (saving n) m one other is = subst Of (sym is) one
  by-phase (opening stage) m one other is =
      in-commit stage zone.before.means zone.opened.means m one (other (λ none. none)) is
  by-phase (writing n) m one other is = subst Of (sym is) one
  by-phase (mending n) m one other is = subst Of (sym is) one
  by-phase (moving stage) m one other is =
      in-commit stage zone.opened.means zone.moved.means m one (other (λ none. none)) is
  by-phase (shifting n) m one other is = subst Of (sym is) one
  by-phase (turning stage) m one other is =
      in-commit stage zone.before.means zone.moved.means m one (other (λ none. none)) is

-- ---- by a volume that is in order
module _ {K : Type 0} (reading : Reading) (state : State K) (order : IsInOrder reading state)
    (work : Work) (at : state.work ≡ Some work) where
  by-from : OnOneSide work.range (reading.map_of (from_of work.zone work.phase).means)
  by-from = (
    side_before work.phase,
    λ b from to. ap (λ (map : Map). side_in map b) (sym (order.courses work at).map)
        ∙ (order.works work at).sides b from to,
  )

  by-to : (phase : Phase) → work.phase ≡ phase → IsFirst work.phase ⊎ Leads reading state work
      → (IsFirst phase → ⊥) → OnOneSide work.range (reading.map_of (to_of work.zone phase).means)
  by-to phase is (inl first) other = absurd (other (subst IsFirst is first))
  by-to (saving n) is (inr leads) other =
      (Zone, (leads.opens (subst IsToOpen (sym is) tt)).1.sides)
  by-to (opening stage) is (inr leads) other =
      (Zone, (leads.opens (subst IsToOpen (sym is) tt)).1.sides)
  by-to (writing n) is (inr leads) other = (New, leads.moves.1.sides)
  by-to (mending n) is (inr leads) other = (New, leads.moves.1.sides)
  by-to (moving stage) is (inr leads) other = (New, leads.moves.1.sides)
  by-to (shifting n) is (inr leads) other = (New, leads.moves.1.sides)
  by-to (turning stage) is (inr leads) other = (New, leads.moves.1.sides)

  pub on-one-side : (m : List ℕ)
      → MayBe (stage_of work.phase) (from_of work.zone work.phase).means
      (to_of work.zone work.phase).means m → OnOneSide work.range (reading.map_of m)
  on-one-side m is =
      by-phase reading work.range work.zone work.phase m by-from
      (by-to work.phase refl (order.courses work at).next) is
