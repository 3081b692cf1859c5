use Rattle.std.proofs.Common.{◌≡◌, Some}
use Rattle.volume_core.proofs.ZoneSteps.{free-before, locked-before}
use Rattle.volume_core.proofs.ZoneWorks.{at-any, called-any}
use Rattle.volume_core.proofs.volume.Volume.work.Goals as goal
use Rattle.volume_core.specs.Turns.{shared}

pub go_on-worked-requires-clause-locked : goal.go_on-worked-requires-clause-locked
go_on-worked-requires-clause-locked g c κs within =
    let one = c.in-Some.is in
    let other = c.in-Some.zone-is in
    let is : c.self.inside.zone ≡ Some c.in-Some.zone = cc in
    let last = rw (← c.self.view_is) at c.worker_lane-lane.ensures in
    locked-before g.C.SectorCipher.sector g.C.SectorCipher.sealed g.C.SectorCipher.opened c.zones_are_planned.ensures c.in-Some.zone _
    (at-any g.C.SectorCipher.sector g.C.SectorCipher.sealed g.C.SectorCipher.opened c.in-Some.zone
    (shared c.self.inside.map c.self.inside.table c.self.inside.lanes.items c.self.inside.broken (g.D.Disk.device c.self.inside.disk))
    c.self.inside.keys (record {
      working = c.is_working.ensures.working;
      stored = c.is_working.ensures.stored;
      ruled = c.is_working.ensures.ruled;
      first_salt = c.is_working.ensures.first_salt;
      second_salt = c.is_working.ensures.second_salt;
      bytes = c.is_working.ensures.bytes;
    }) c.self.inside.zone is c.self.invariant)
    c.worker_lane-lane.result last

pub go_on-worked-requires-clause-free : goal.go_on-worked-requires-clause-free
go_on-worked-requires-clause-free g c κs within =
    let one = c.in-Some.is in
    let other = c.in-Some.zone-is in
    let is : c.self.inside.zone ≡ Some c.in-Some.zone = cc in
    let last = rw (← c.self.view_is) at c.worker_lane-lane.ensures in
    free-before g.C.SectorCipher.sector g.C.SectorCipher.sealed g.C.SectorCipher.opened c.zones_are_planned.ensures c.in-Some.zone _
    (at-any g.C.SectorCipher.sector g.C.SectorCipher.sealed g.C.SectorCipher.opened c.in-Some.zone
    (shared c.self.inside.map c.self.inside.table c.self.inside.lanes.items c.self.inside.broken (g.D.Disk.device c.self.inside.disk))
    c.self.inside.keys (record {
      working = c.is_working.ensures.working;
      stored = c.is_working.ensures.stored;
      ruled = c.is_working.ensures.ruled;
      first_salt = c.is_working.ensures.first_salt;
      second_salt = c.is_working.ensures.second_salt;
      bytes = c.is_working.ensures.bytes;
    }) c.self.inside.zone is c.self.invariant)
    c.worker_lane-lane.result last

pub invariant_of-self : goal.invariant_of-self
invariant_of-self g c =
    let one = c.in-Some.is in
    let other = c.in-Some.zone-is in
    let is : c.self.inside.zone ≡ Some c.in-Some.zone = cc in
    let last = rw (← c.self.view_is) at c.worker_lane-lane.ensures in
    (called-any g.C.SectorCipher.sector g.C.SectorCipher.sealed g.C.SectorCipher.opened c.in-Some.zone
    (shared c.self.inside.map c.self.inside.table c.self.inside.lanes.items c.self.inside.broken (g.D.Disk.device c.self.inside.disk))
    c.self.inside.keys (record {
      working = c.is_working.ensures.working;
      stored = c.is_working.ensures.stored;
      ruled = c.is_working.ensures.ruled;
      first_salt = c.is_working.ensures.first_salt;
      second_salt = c.is_working.ensures.second_salt;
      bytes = c.is_working.ensures.bytes;
    }) c.steps_are_works.ensures.works c.steps_are_works.ensures.parts c.steps_are_works.ensures.ground c.steps_are_works.ensures.leaves
    c.zones_are_planned.ensures c.maps_follow.ensures c.sizes_are_told.ensures.sizes c.go_on-worked.new.zone
    (shared c.go_on-worked.new.map c.go_on-worked.new.table c.go_on-worked.new.lanes.items c.go_on-worked.new.broken (g.D.Disk.device c.go_on-worked.new.disk))
    c.worker_lane-lane.result last (record {
      working = c.is_working-2.ensures.working;
      stored = c.is_working-2.ensures.stored;
      ruled = c.is_working-2.ensures.ruled;
      first_salt = c.is_working-2.ensures.first_salt;
      second_salt = c.is_working-2.ensures.second_salt;
      bytes = c.is_working-2.ensures.bytes;
    })
    c.go_on-worked.result c.go_on-worked.ensures c.self.inside.zone is c.self.invariant).volume

pub returns-clause-step : goal.returns-clause-step
returns-clause-step g c =
    let one = c.in-Some.is in
    let other = c.in-Some.zone-is in
    let is : c.self.inside.zone ≡ Some c.in-Some.zone = cc in
    let last = rw (← c.self.view_is) at c.worker_lane-lane.ensures in
    rw (← c.self.view_is) (λ sizes read. (called-any g.C.SectorCipher.sector g.C.SectorCipher.sealed g.C.SectorCipher.opened c.in-Some.zone
    (shared c.self.inside.map c.self.inside.table c.self.inside.lanes.items c.self.inside.broken (g.D.Disk.device c.self.inside.disk))
    c.self.inside.keys (record {
      working = c.is_working.ensures.working;
      stored = c.is_working.ensures.stored;
      ruled = c.is_working.ensures.ruled;
      first_salt = c.is_working.ensures.first_salt;
      second_salt = c.is_working.ensures.second_salt;
      bytes = c.is_working.ensures.bytes;
    }) c.steps_are_works.ensures.works c.steps_are_works.ensures.parts c.steps_are_works.ensures.ground c.steps_are_works.ensures.leaves
    c.zones_are_planned.ensures c.maps_follow.ensures c.sizes_are_told.ensures.sizes c.go_on-worked.new.zone
    (shared c.go_on-worked.new.map c.go_on-worked.new.table c.go_on-worked.new.lanes.items c.go_on-worked.new.broken (g.D.Disk.device c.go_on-worked.new.disk))
    c.worker_lane-lane.result last (record {
      working = c.is_working-2.ensures.working;
      stored = c.is_working-2.ensures.stored;
      ruled = c.is_working-2.ensures.ruled;
      first_salt = c.is_working-2.ensures.first_salt;
      second_salt = c.is_working-2.ensures.second_salt;
      bytes = c.is_working-2.ensures.bytes;
    })
    c.go_on-worked.result c.go_on-worked.ensures c.self.inside.zone is c.self.invariant).step sizes read)

pub returns-clause-read : goal.returns-clause-read
returns-clause-read g c =
    let one = c.in-Some.is in
    let other = c.in-Some.zone-is in
    let is : c.self.inside.zone ≡ Some c.in-Some.zone = cc in
    let last = rw (← c.self.view_is) at c.worker_lane-lane.ensures in
    rw (← c.self.view_is) (λ sizes read. (called-any g.C.SectorCipher.sector g.C.SectorCipher.sealed g.C.SectorCipher.opened c.in-Some.zone
    (shared c.self.inside.map c.self.inside.table c.self.inside.lanes.items c.self.inside.broken (g.D.Disk.device c.self.inside.disk))
    c.self.inside.keys (record {
      working = c.is_working.ensures.working;
      stored = c.is_working.ensures.stored;
      ruled = c.is_working.ensures.ruled;
      first_salt = c.is_working.ensures.first_salt;
      second_salt = c.is_working.ensures.second_salt;
      bytes = c.is_working.ensures.bytes;
    }) c.steps_are_works.ensures.works c.steps_are_works.ensures.parts c.steps_are_works.ensures.ground c.steps_are_works.ensures.leaves
    c.zones_are_planned.ensures c.maps_follow.ensures c.sizes_are_told.ensures.sizes c.go_on-worked.new.zone
    (shared c.go_on-worked.new.map c.go_on-worked.new.table c.go_on-worked.new.lanes.items c.go_on-worked.new.broken (g.D.Disk.device c.go_on-worked.new.disk))
    c.worker_lane-lane.result last (record {
      working = c.is_working-2.ensures.working;
      stored = c.is_working-2.ensures.stored;
      ruled = c.is_working-2.ensures.ruled;
      first_salt = c.is_working-2.ensures.first_salt;
      second_salt = c.is_working-2.ensures.second_salt;
      bytes = c.is_working-2.ensures.bytes;
    })
    c.go_on-worked.result c.go_on-worked.ensures c.self.inside.zone is c.self.invariant).read sizes read)
