-- The workers of links, before and after they served them.
use Rattle.std.specs.Prelude.{ℕ, ◌≡◌, ◌≢◌, ◌*◌, ◌<◌, ◌≤◌, List, [], ◌∷◌, length, Option, None, IsSomeAnd}
use Rattle.std.specs.Prelude.{slice_index_or}
use Rattle.bays.specs.Stories.{LinkState}
use Rattle.lane_plan.specs.Plans.{IsShape}
use Rattle.lane_plan.specs.declared.plan.Shape.{Shape}
use Rattle.nbd_hand.specs.declared.export.Export.{Export}
use Rattle.shared_volume.specs.Ciphers.{Context, opened, sealed}
use Rattle.shared_volume.specs.Lanes.{Answers}
use Rattle.shared_volume.specs.Works.{VolumeCell}
use Rattle.volume_cell.specs.Passes.{IsSamePass, known}
use Rattle.block_server.specs.Links.{IsLinkServed}
use Rattle.block_server.specs.Ports.{IsUsable}
use Rattle.block_server.specs.Sessions.{LeavesBy, Played, tagged_of}
use Rattle.block_server.specs.declared.worker.Worker.{Worker}
use Rattle.volume_machine.specs.States.{State}
use Rattle.volume_machine.specs.declared.keys.Keys.{Keys}

-- the export of a volume of this shape, of the session of this number
abbrev pub export_of : Shape → ℕ → Export
export_of shape number =
    record { number = number; size = shape.blocks * shape.atom; atom = shape.atom }

module _ {D P L : Type 0} (state : L → LinkState) (cell : VolumeCell D Context P) (links : ℕ) (shape : Shape)
  where
    -- The worker of the link of this number, one of so many, on the lane of this number: nothing was
    -- done on the lane, and no session served.
    pub record IsReady (k : ℕ) (worker : Worker D L) : Type 0 where
      pub usable : IsUsable cell worker.lane None
      pub name : (known worker.lane.pass).name ≡ k ∷ []
      pub number : worker.lane.number ≡ k
      pub calls : (known worker.lane.pass).calls ≡ []
      pub shape_is : worker.lane.shape ≡ shape
      pub fits : IsShape shape
      pub ends : worker.ends.items ≡ []
      pub bound : (state worker.link).bound ≤ 4294967295

    -- It served its link: its lane executed just the operations of its sessions, each of its
    -- session, and was left at rest, or by one of them, since the history was found full.
    pub record HasWorked (k : ℕ) (old new : Worker D L) : Type 0 where
      pub played : List Played
      pub served : IsLinkServed (export_of shape k) (new.left_by ≢ None) links k (state old.link)
          (state new.link) [] new.ends.items new.standing played
      pub usable : IsUsable cell new.lane new.left_by
      pub answers : Answers sealed opened (known old.lane.pass) (known new.lane.pass)
          (tagged_of played)
      pub same : IsSamePass (known old.lane.pass) (known new.lane.pass)
      pub left : LeavesBy played None new.left_by

    -- each link has a worker that is ready, and whose lane is of the machine with this start
    pub record AreReady (start : Option (State (Keys Context))) (olds : List L)
        (workers : List (Option (Worker D L))) : Type 0 where
      pub count : length workers ≡ length olds
      pub each : (k : ℕ) (link : L) (slot : Option (Worker D L)) → k < length olds
          → IsSomeAnd (slice_index_or workers k slot)
          (λ worker. IsReady k worker × (worker.link ≡ slice_index_or olds k link)
          × ((known worker.lane.pass).start ≡ start))

    -- each worker has served its link
    pub record HaveWorked (before after : List (Option (Worker D L))) : Type 0 where
      pub count : length after ≡ length before
      pub each : (k : ℕ) (slot : Option (Worker D L)) → k < length before
          → IsSomeAnd (slice_index_or before k slot)
          (λ old. IsSomeAnd (slice_index_or after k slot) (λ new. HasWorked k old new))
