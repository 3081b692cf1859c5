-- By checksum the digests of a zone's blocks tell their old atoms from the new ones, once they were
-- saved.
use Rattle.std.proofs.Common.{List, arith, inl, inr, refl, subst, ℕ, ◌<◌, ◌≡◌, ◌≢◌, ◌⊎◌}
use Rattle.crash_laws.specs.HotZones.Zones.{checksum}
use Rattle.volume_machine.specs.Seals.{Seals}
use Rattle.volume_machine.specs.Works.{Work}
use Rattle.std.specs.Prelude.{◌/◌}
use Rattle.crash_laws.specs.HotZones.Calls.{IsFirst}
use Rattle.crash_laws.specs.HotZones.Standing.{IsPhaseOf}
use Rattle.crash_laws.specs.HotZones.Zones.{Hotzone, Phase, Texts, mending, moving, opening, saving, shifting}
use Rattle.crash_laws.specs.HotZones.Zones.{turning, writing}
use Rattle.sector_disk.specs.Devices.{Device}
use Rattle.sha2.specs.Sha256.{sha256}
use Rattle.volume_machine.specs.WorkCalls.{StepFails}
use Rattle.volume_machine.specs.WorkCalls as calls
use Rattle.volume_machine.specs.Works.{Part}

-- the digest of this atom was saved by now
abbrev pub IsTold : ℕ → Phase → ℕ → Type 0
IsTold atom (saving n) i = i / (atom / 32) < n
IsTold atom _ i = Unit {0}

abbrev pub TellsAtoms : ℕ → Texts → Hotzone (List ℕ) → Phase → Type 0
TellsAtoms atom texts zone phase = zone.resilience ≡ checksum → (i : ℕ) → i < zone.own.count
    → IsTold atom phase i → sha256 (texts.old i) ≢ sha256 (texts.new i)

-- every digest was saved, but while they are being saved
pub saving_or : (atom : ℕ) (phase : Phase)
    → ((n : ℕ) × (phase ≡ saving n)) ⊎ ((i : ℕ) → IsTold atom phase i)
saving_or atom (saving n) = inl (n, refl)
saving_or atom (opening stage) = inr (λ i. tt)
saving_or atom (writing n) = inr (λ i. tt)
saving_or atom (mending n) = inr (λ i. tt)
saving_or atom (moving stage) = inr (λ i. tt)
saving_or atom (shifting n) = inr (λ i. tt)
saving_or atom (turning stage) = inr (λ i. tt)

below_none : (a n : ℕ) → n ≡ 0 → a < n → ⊥
below_none a n none less = omega (arith, none, less)

-- when a zone begins no digest is saved
pub first_tells : (atom : ℕ) (texts : Texts) (zone : Hotzone (List ℕ)) (phase : Phase)
    → IsFirst phase → IsPhaseOf zone.resilience phase → TellsAtoms atom texts zone phase
first_tells atom texts zone (saving n) first phased = λ is i below told.
    absurd (below_none (i / (atom / 32)) n first told)
first_tells atom texts zone (opening stage) first phased = absurd first
first_tells atom texts zone (writing n) first phased = absurd first
first_tells atom texts zone (mending n) first phased = absurd first
first_tells atom texts zone (moving stage) first phased = absurd first
first_tells atom texts zone (shifting n) first phased = λ is i below told.
    absurd (subst (λ r. IsPhaseOf r (shifting n)) is phased)
first_tells atom texts zone (turning stage) first phased = absurd first

-- a step that fails saves none
pub tells_failed : {atom : ℕ} {seals : Seals} {old new : Device} {work : Work} (texts : Texts)
    {phase next_phase : Phase} {part : Part}
    → StepFails seals atom work old new phase part next_phase
    → TellsAtoms atom texts work.zone phase → TellsAtoms atom texts work.zone next_phase
tells_failed texts (calls.read_fails phase first text behind call) tells = tells
tells_failed texts (calls.save_fails first count text saved it any call) tells = tells
tells_failed texts (calls.open_fails stage part call) tells = tells
tells_failed texts (calls.write_fails n count text next any is call) tells = tells
tells_failed texts (calls.move_fails stage part call) tells = tells
tells_failed texts (calls.shift_fails n count text next any is within call) tells = tells
tells_failed texts (calls.turn_fails stage part call) tells = tells
tells_failed texts (calls.sync_fails phase part is call) tells = tells
