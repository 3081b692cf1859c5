-- What workers leave: their links, the ends of their sessions, and how their links stand.
use Rattle.std.specs.Prelude.{ℕ, ◌≡◌, ◌≤◌, ◌+◌, List, [], length, map, Option, vec_capacity}
use Rattle.block_server.specs.Slots.{each_of}
use Rattle.block_server.specs.declared.worker.Worker.{Worker}
use Rattle.block_server.specs.declared.leavings.Leavings.{Leavings}

module _ {D L : Type 0} where
  -- just what these workers left, in their order
  pub record IsLeftOf (workers : List (Option (Worker D L))) (leavings : Leavings L) : Type 0
    where
      pub links : leavings.links.items ≡ each_of (λ worker. worker.link) workers
      pub sessions : map (λ list. list.items) leavings.sessions.items
          ≡ each_of (λ worker. worker.ends.items) workers
      pub standings : leavings.standings.items ≡ each_of (λ worker. worker.standing) workers

-- each list has room for what so many workers leave
pub record HasRoom {L : Type 0} (count : ℕ) (leavings : Leavings L) : Type 0 where
  pub links : length leavings.links.items + count ≤ vec_capacity leavings.links
  pub sessions : length leavings.sessions.items + count ≤ vec_capacity leavings.sessions
  pub standings : length leavings.standings.items + count ≤ vec_capacity leavings.standings

-- nothing is left yet, and there is room
pub record IsRoomFor {L : Type 0} (count : ℕ) (leavings : Leavings L) : Type 0 where
  pub room : HasRoom count leavings
  pub links : leavings.links.items ≡ []
  pub sessions : leavings.sessions.items ≡ []
  pub standings : leavings.standings.items ≡ []
