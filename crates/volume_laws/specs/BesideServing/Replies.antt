-- Which replies clients get beside a conversion's worker: error 5 where an operation has failed, and all
-- else where no count of faults moved.
use Rattle.std.specs.Prelude.{ℕ, ◌≡◌, ◌<◌, ◌-◌, ◌^◌, ◌↔◌, ◌∷◌, ◌==◌, Bool, true, false, List, [], Option, None}
use Rattle.std.specs.Prelude.{if◌then◌else◌, option_map}
use Rattle.base_terms.specs.ErrorNumbers.{device_error}
use Rattle.plain_disk.specs.Outcomes.{AreServed, IsDeviceError}
use Rattle.plain_disk.specs.Plain.{Exchange}
use Rattle.volume_laws.specs.BesideServing.Failing.{fails_over}
use Rattle.volume_laws.specs.Promises.{failed_by, is_failure, next_place, placed_error}
use Rattle.volume_machine.specs.Answers.{Answered, AreExchanges}
use Rattle.volume_machine.specs.Asks.{wrong_ask}
use Rattle.volume_machine.specs.Deeds.{Act, Deed, answered_of, answered_over, client, plain_over}
use Rattle.volume_machine.specs.Deeds.{state_after, worker}
use Rattle.volume_machine.specs.Events.{admits, finishes, lane_of, settles}
use Rattle.volume_machine.specs.Runs.{no_plain}
use Rattle.volume_machine.specs.Seals.{Seals}
use Rattle.volume_machine.specs.States.{State, size_of}

-- ---- error 5
-- whether the operation that is answered has failed: at its admit, where the volume was found broken;
-- at the settle of a flush, where that failed; at its finish, where one of its events since its admit
-- failed
abbrev pub has_failed : {K : Type 0} → State K → List (Deed K) → Act → Bool
has_failed start earlier (client (admits lane session ask) outcome) = (state_after start earlier).broken
has_failed start earlier (client (settles lane) outcome) = is_failure outcome
has_failed start earlier (client (finishes lane) outcome) = fails_over lane false earlier
has_failed start earlier _ = false

-- where the read of a lane has failed, given where it had before
abbrev pub piece_by : {K : Type 0} → State K → ℕ → Act → Option ℕ → Option ℕ
piece_by old lane (client event outcome) before =
    if lane_of event == lane then failed_by event outcome (next_place old lane) before else before
piece_by old lane (worker worked) before = before

unfoldable pub piece_over : {K : Type 0} → State K → ℕ → Option ℕ → List (Deed K) → Option ℕ
piece_over old lane before [] = before
piece_over old lane before (one ∷ rest) =
    piece_over one.after lane (piece_by old lane one.act before) rest

-- the piece at which the read failed that is answered
abbrev pub failed_piece : {K : Type 0} → State K → List (Deed K) → Act → Option ℕ
failed_piece start earlier (client (finishes lane) outcome) = piece_over start lane None earlier
failed_piece start earlier _ = None

-- what is answered by this deed behind the earlier ones
abbrev pub Answers : {K : Type 0} → Seals → State K → List (Deed K) → Deed K → Answered → Type 0
Answers seals start earlier one answered =
    answered_of (state_after start earlier) one.act (plain_over seals start no_plain earlier)
    ≡ answered ∷ []

-- an operation that isn't wrong is answered 5 exactly where it has failed
abbrev pub DeviceErrorsAreExact : {K : Type 0} → Seals → State K → List (Deed K) → Deed K → Type 0
DeviceErrorsAreExact seals start earlier one =
    (answered : Answered) → Answers seals start earlier one answered
    → wrong_ask start.map.atom (size_of start.map) answered.ask ≡ None
    → IsDeviceError answered.reply ↔ (has_failed start earlier one.act ≡ true)

-- and its answer has a place exactly where it is a read of which a piece failed: where that begins
abbrev pub PlacesAreExact : {K : Type 0} → Seals → State K → List (Deed K) → Deed K → Type 0
PlacesAreExact seals start earlier one =
    (answered : Answered) → Answers seals start earlier one answered
    → placed_error answered.reply
    ≡ option_map (λ place. (device_error, place)) (failed_piece start earlier one.act)

-- ---- no fault
-- where no count of faults moved on a volume that wasn't broken, every operation was served or refused
-- with its number, and nothing is broken
abbrev pub ServesWithoutFaults : {K : Type 0} → State K → Seals → List (Deed K) → Type 0
ServesWithoutFaults start seals deeds =
    (exchanges : List Exchange) → AreExchanges (answered_over seals start no_plain deeds) exchanges
    → start.broken ≡ false → (state_after start deeds).disk.faults ≡ start.disk.faults
    → start.disk.faults < 2 ^ 64 - 1
    → AreServed start.map.atom (size_of start.map) exchanges
    × ((state_after start deeds).broken ≡ false)
