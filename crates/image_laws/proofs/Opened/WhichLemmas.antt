-- Which of two headers an image has while an open zone is written again, and on which side the zone's
-- blocks are by it.
use Rattle.std.proofs.Common.{◌≡◌, ◌≢◌, ◌⊎◌, inl, inr, ℕ, ◌<◌, List, cond, eqb, refl, ◌∙◌, ap, arith}
use Rattle.std.proofs.lemmas.Bool.{eq-eqb, ne_eqb}
use Rattle.crash_laws.specs.HeaderAreas.Commits.{IsLater, MayBe, Stage, begun, first_kept, first_written}
use Rattle.crash_laws.specs.HeaderAreas.Commits.{second_written}
use Rattle.crash_laws.specs.HotZones.Standing.{HasSides, IsPhaseOf, new_start}
use Rattle.crash_laws.specs.HotZones.Zones.{Hotzone, Phase, Resilience, checksum, datashift, journal, mending}
use Rattle.crash_laws.specs.HotZones.Zones.{moving, opening, saving, shifting, stage_of, turning, writing}
use Rattle.luks_store.specs.Copying.Meanings.{header_reader}
use Rattle.image_laws.specs.Opened.Mending.{WritesAgain}
use Rattle.segment_map.specs.declared.Side.{Side}
use Rattle.segment_map.specs.declared.Side.TheVariants.{New, Zone}

-- ---- which header an image has
-- the zone's side by a header: open by the one of this number, and new by the next
abbrev pub side-of : ℕ → List ℕ → Side
side-of number means = cond (eqb (header_reader.seq means) number) Zone New

abbrev pub Has : List ℕ → List ℕ → List ℕ → Type 0
Has from to m =
    ((m ≡ from) × (side-of (header_reader.seq from) m ≡ Zone))
    ⊎ ((m ≡ to) × (side-of (header_reader.seq from) m ≡ New))

open-side : (from : List ℕ) → side-of (header_reader.seq from) from ≡ Zone
open-side from =
    ap (λ b. cond b Zone New) (eq-eqb (header_reader.seq from) (header_reader.seq from) refl)

new-side : (from to : List ℕ) → header_reader.seq from < header_reader.seq to
    → side-of (header_reader.seq from) to ≡ New
new-side from to more =
    ap (λ b. cond b Zone New)
    (ne_eqb (header_reader.seq to) (header_reader.seq from) (λ same. omega (arith, more, same)))

next-side : (stage : Stage) (from to : List ℕ) → IsLater header_reader stage from to
    → stage ≢ begun → side-of (header_reader.seq from) to ≡ New
next-side begun from to later far = absurd (far refl)
next-side first_written from to later far = new-side from to later.0
next-side first_kept from to later far = new-side from to later.0
next-side second_written from to later far = new-side from to later.0

pub which : (stage : Stage) (from to m : List ℕ) → IsLater header_reader stage from to
    → MayBe stage from to m → Has from to m
which begun from to m later is =
    inl (is, ap (side-of (header_reader.seq from)) is ∙ open-side from)
which first_written from to m later (inl is) =
    inl (is, ap (side-of (header_reader.seq from)) is ∙ open-side from)
which first_written from to m later (inr is) =
    inr (is, ap (side-of (header_reader.seq from)) is ∙ new-side from to later.0)
which first_kept from to m later is =
    inr (is, ap (side-of (header_reader.seq from)) is ∙ new-side from to later.0)
which second_written from to m later is =
    inr (is, ap (side-of (header_reader.seq from)) is ∙ new-side from to later.0)

-- ---- the phases in which a zone is written again
pub phase-of : (r : Resilience) (phase : Phase) → r ≢ datashift → WritesAgain phase
    → IsPhaseOf r phase
phase-of journal (mending n) other is = tt
phase-of journal (moving stage) other is = tt
phase-of checksum (mending n) other is = tt
phase-of checksum (moving stage) other is = tt
phase-of datashift phase other is = absurd (other refl)
phase-of r (saving n) other is = absurd is
phase-of r (opening stage) other is = absurd is
phase-of r (writing n) other is = absurd is
phase-of r (shifting n) other is = absurd is
phase-of r (turning stage) other is = absurd is

-- each new atom stands where the old one does
pub new-place : (r : Resilience) (zone : Hotzone (List ℕ)) → r ≢ datashift
    → new_start r zone ≡ zone.own.start
new-place journal zone other = refl
new-place checksum zone other = refl
new-place datashift zone other = absurd (other refl)

module _ (zone : Hotzone (List ℕ)) where
  -- the sides of the zone's blocks by the two headers
  pub sides-in : (phase : Phase) → WritesAgain phase
      → IsLater header_reader (stage_of phase) zone.opened.means zone.moved.means
      → HasSides (side-of (header_reader.seq zone.opened.means)) zone phase
  sides-in (mending n) is later = record {
    before = open-side zone.opened.means;
    after = λ far. absurd (far refl);
  }
  sides-in (moving stage) is later = record {
    before = open-side zone.opened.means;
    after = next-side stage zone.opened.means zone.moved.means later;
  }
  sides-in (saving n) is later = absurd is
  sides-in (opening stage) is later = absurd is
  sides-in (writing n) is later = absurd is
  sides-in (shifting n) is later = absurd is
  sides-in (turning stage) is later = absurd is
