-- Links served at once on one volume, beside the worker of its conversion.
use Rattle.std.specs.Prelude.{ℕ, ◌≡◌, ◌≢◌, ◌≤◌, List, [], length, Option, Some, None, IsSome}
use Rattle.bays.specs.Stories.{LinkState}
use Rattle.base_terms.specs.declared.disk_sizes.Sizes.{Sizes}
use Rattle.volume_laws.specs.BesideLanes.Executing.{ExecutesBeside}
use Rattle.volume_laws.specs.BesideLanes.Lanes.{IsKept, StaysSame, works_over}
use Rattle.nbd_session.specs.declared.ending.SessionEnd.{SessionEnd}
use Rattle.reenc_worker.specs.declared.ends.WorkerEnd.{WorkerEnd}
use Rattle.reenc_worker.specs.declared.ends.WorkerEnd.TheVariants.{Spent}
use Rattle.shared_volume.specs.Histories.{IsReadSo, Tells}
use Rattle.shared_volume.specs.Serving.{EndsBy, WentOn}
use Rattle.shared_volume.specs.declared.asking.SharedEvent.{SharedEvent}
use Rattle.shared_volume.specs.declared.asking.SharedOutcome.{SharedOutcome}
use Rattle.block_server.specs.Links.{AreServed}
use Rattle.block_server.specs.Sessions.{Played, AreSessions, HasEach, HasNumber, IsOfSessions}
use Rattle.block_server.specs.Sessions.{of_link, operations_of}
use Rattle.block_server.specs.declared.link.Standing.{Standing}
use Rattle.volume_cell.specs.declared.knowledge.Knowledge.{Knowledge}
use Rattle.volume_core.specs.Zones.{IsReadBy}
use Rattle.volume_machine.specs.Answers.{Tagged, untagged}
use Rattle.volume_machine.specs.Deeds.{Deed}
use Rattle.volume_machine.specs.Seals.{Seals}
use Rattle.volume_machine.specs.States.{IsClient, State, open_at, size_of}
use Rattle.volume_machine.specs.declared.open.Open.{Open}
use Rattle.hotzone.specs.ZoneEvents.Readings.{reading_of}

-- what is known by a pass of a volume with such keys
abbrev pub VolumeKnowledge : Type 0 → Type 0
VolumeKnowledge K = Knowledge (State K) SharedEvent SharedOutcome

-- By the pass the whole history of the volume that began so is known: these deeds, entry by entry.
pub record KnowsDeeds {K : Type 0} (start : State K) (pass : VolumeKnowledge K)
    (deeds : List (Deed K)) : Type 0 where
  pub start_is : pass.start ≡ Some start
  pub tells : Tells (length start.lanes) pass.history deeds

-- An operation may be under way at the end only since the history has as many entries as it can get,
-- and on a lane of clients it is of a session of the lane's own link then.
pub record IsLeft {K : Type 0} (start : State K) (limit entries lane : ℕ) (o : Open)
    (played : List Played) : Type 0 where
  pub full : limit ≤ entries
  pub its : IsClient start lane → HasNumber o.session (of_link lane played)

-- How the worker of the conversion ended, where there was one: its last step is the one that brought
-- its end; or it is spent, since the history has as many entries as it can get, and all its steps
-- went on. Where there was none no step was made: the deeds are events of clients alone.
abbrev pub WorkerHasEnded : {K : Type 0} → ℕ → List (Deed K) → Option WorkerEnd → Type 0
WorkerHasEnded limit deeds None = works_over deeds ≡ []
WorkerHasEnded limit deeds (Some end) = (end ≢ Spent → EndsBy end deeds)
    × (end ≡ Spent → (limit ≤ length deeds) × WentOn (works_over deeds))

-- Sessions were served over these links on a volume that began so and was left so, beside the worker
-- of its conversion, where there was one. All calls on it are the history that is known by this pass:
-- deeds, events of clients and steps of the worker, by each sizes by which the volume's header is read,
-- and they executed the sessions' operations: of each session just those that it submitted, each once
-- and in order.
pub record HasServedBeside {K L : Type 0} (state : L → LinkState) (seals : Seals)
    (start final : State K) (pass : VolumeKnowledge K) (limit : ℕ) (olds news : List L)
    (ends : List (List SessionEnd)) (standings : List Standing) (worker : Option WorkerEnd)
    : Type 0 where
  -- the deeds, which the pass tells, and the operations that they executed
  pub deeds : List (Deed K)
  pub told : KnowsDeeds start pass deeds
  pub operations : List Tagged
  pub did : (sizes : Sizes) → IsReadSo sizes start
      → ExecutesBeside (reading_of sizes) seals start final deeds operations
  -- the volume keeps its lanes, blocks and keys, and stays read, sound and in order
  pub same : StaysSame start final
  pub armed : IsSome start.work → IsSome final.work
  pub read : (sizes : Sizes) → IsReadBy sizes start → IsReadBy sizes final
  pub kept : (sizes : Sizes) → IsReadSo sizes start → IsKept (reading_of sizes) final
  -- The sessions and links that tell of the operations. A session ends since the port is spent only
  -- where the history has as many entries as it can get.
  pub played : List Played
  pub sessions : AreSessions
      (record { number = 0; size = size_of start.map; atom = start.map.atom })
      (limit ≤ length deeds) played
  pub served : AreServed state olds news ends standings played
  -- the operations are just those of the sessions, and of one link's sessions one after the other
  pub each : HasEach operations played
  pub known : IsOfSessions played operations
  pub in_turn : length olds ≡ 1 → untagged operations ≡ operations_of played
  -- nothing is under way at the end, unless the history is full
  pub left : (lane : ℕ) (o : Open) → open_at final.lanes lane ≡ Some o
      → IsLeft start limit (length deeds) lane o played
  -- how the conversion's worker ended
  pub worked : WorkerHasEnded limit deeds worker

-- nothing was served, for want of memory: volume and links are as they were
pub record HasServedNone {K L : Type 0} (start final : State K) (olds news : List L) : Type 0 where
  pub volume : final ≡ start
  pub links : news ≡ olds
