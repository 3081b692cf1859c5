-- Sessions that were served over links: what they tell of the operations, and why they ended.
use Rattle.std.specs.Prelude.{ℕ, ◌≡◌, ◌≢◌, ◌-◌, ◌^◌, ◌<◌, ◌≤◌, ◌==◌, ◌||◌, Bool, true, false}
use Rattle.std.specs.Prelude.{if◌then◌else◌, List, length, fold, Option, Some, None, slice_index_or}
use Rattle.bays.specs.Stories.{LinkState}
use Rattle.block_server.specs.Links.{AreServed}
use Rattle.block_server.specs.Serving.{IsLeft}
use Rattle.block_server.specs.Sessions.{AreSessions, HasEach, IsOfSessions, Played, operations_of}
use Rattle.block_server.specs.declared.link.Standing.{Standing}
use Rattle.block_server.specs.declared.link.Standing.TheVariants.{Live}
use Rattle.nbd_session.specs.declared.ending.SessionEnd.{SessionEnd}
use Rattle.nbd_stream.specs.declared.ending.Ending.{Ending}
use Rattle.nbd_stream.specs.declared.ending.Ending.TheVariants.{PortSpent}
use Rattle.reenc_worker.specs.declared.ends.WorkerEnd.{WorkerEnd}
use Rattle.reenc_worker.specs.declared.ends.WorkerEnd.TheVariants as ends
use Rattle.volume_machine.specs.Answers.{Tagged, untagged}
use Rattle.volume_machine.specs.States.{State, open_at, size_of}
use Rattle.volume_machine.specs.declared.open.Open.{Open}
use Rattle.reenc_tool.specs.Outcomes.{Coming}
use Rattle.reenc_tool.specs.Standings.{AreFaultsOfFirst, HasLive, failed_in}
use Rattle.reenc_tool.specs.Status.{cause_of_unfit}
use Rattle.reenc_tool.specs.declared.ended.Cause.{Cause}
use Rattle.reenc_tool.specs.declared.ended.Cause.TheVariants as causes
use Rattle.reenc_tool.specs.declared.ended.Failing.TheVariants.{Converting, Writing}
use Rattle.reenc_tool.specs.declared.ended.Fit.TheVariants.{Events}

-- the most entries that the history of a served volume gets: each event of a client is one, and each
-- step of the conversion's worker
abbrev pub most_events : ℕ
most_events = 2 ^ 63 - 2

-- ---- the cause
-- a session ended since its port was spent
abbrev pub is_spent : Ending → Bool
is_spent PortSpent = true
is_spent _ = false

abbrev pub any_spent : List SessionEnd → Bool
any_spent list = fold (λ found end. found || is_spent end.ending) false list

abbrev pub has_spent : List (List SessionEnd) → Bool
has_spent lists = fold (λ found list. found || any_spent list) false lists

-- the cause by what was found of sessions and links: one found the history full; so many links failed,
-- the first of them at so many calls; memory was wanted
abbrev pub cause_of_links : Bool → ℕ → ℕ → Bool → Cause
cause_of_links spent failed faults memory =
    if spent then causes.NoFit Events (2 ^ 63 - 1) (2 ^ 63 - 2)
    else (if failed == 0 then (if memory then causes.Memory else causes.Fine)
    else causes.Link failed faults)

-- behind the end of the conversion's worker, where there was one, on a disk of which so many calls
-- failed
abbrev pub cause_by : Option WorkerEnd → ℕ → Bool → ℕ → ℕ → Bool → Cause
cause_by None disk_faults spent failed faults memory = cause_of_links spent failed faults memory
cause_by (Some ends.Finished) disk_faults spent failed faults memory =
    cause_of_links spent failed faults memory
cause_by (Some ends.Device) disk_faults spent failed faults memory =
    causes.Device Converting disk_faults
cause_by (Some ends.Broken) disk_faults spent failed faults memory =
    causes.Device Converting disk_faults
cause_by (Some (ends.Clash block digest)) disk_faults spent failed faults memory =
    causes.Clash block digest
cause_by (Some (ends.NoFit what)) disk_faults spent failed faults memory = cause_of_unfit what
cause_by (Some ends.Spent) disk_faults spent failed faults memory =
    cause_of_links true failed faults memory
cause_by (Some ends.Memory) disk_faults spent failed faults memory =
    cause_of_links spent failed faults true

-- behind whether the volume is broken
abbrev pub cause_of : Bool → ℕ → Option WorkerEnd → Bool → ℕ → ℕ → Bool → Cause
cause_of broken disk_faults worker spent failed faults memory =
    if broken then causes.Device Writing disk_faults
    else cause_by worker disk_faults spent failed faults memory

-- ---- sessions
-- Sessions were served over these links, which tell of the operations of a history of so many entries,
-- from one state of a volume to another one: of each session just those that it submitted, each once
-- and in order; each is some session's.
pub record HavePlayed {K L : Type 0} (state : L → LinkState) (start final : State K) (events : ℕ)
    (worker : Option WorkerEnd) (begun : List L) (came : Coming L) (operations : List Tagged) : Type 0
  where
    pub played : List Played
    pub standings : List Standing
    -- a session ends since the port is spent only where the history is full
    pub sessions : AreSessions
        (record { number = 0; size = size_of start.map; atom = start.map.atom })
        (most_events ≤ events) played
    pub served : AreServed state begun came.links came.ends standings played
    pub each : HasEach operations played
    pub known : IsOfSessions played operations
    -- those of one link followed one another
    pub in_turn : length begun ≡ 1 → untagged operations ≡ operations_of played
    -- nothing is under way at the end, unless the history is full
    pub left : (lane : ℕ) (o : Open) → open_at final.lanes lane ≡ Some o
        → IsLeft start most_events events lane o played
    -- each link was asked until it had no more or failed itself, unless memory was wanted
    pub to_the_end : came.memory ≡ false → (k : ℕ) → k < length begun
        → slice_index_or standings k Live ≢ Live
    pub short : came.memory ≡ true → HasLive (length begun) standings
    -- the cause, with the counts of the disk and of the first link that failed as they are at the end
    pub faults : ℕ
    pub faults_are : AreFaultsOfFirst state came.links standings faults
    pub cause_is : came.cause ≡ cause_of final.broken final.disk.faults worker (has_spent came.ends)
        (failed_in standings) faults came.memory
