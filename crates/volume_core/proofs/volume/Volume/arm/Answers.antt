use Rattle.std.proofs.Common.{arith, refl}
use Rattle.volume_core.proofs.ArmLemmas.{armed-order, armed-read, armed-volume, armed-work, disk-is, has-keys}
use Rattle.volume_core.proofs.ArmLemmas.{maps-fit, some-atoms}
use Rattle.volume_core.proofs.ZoneWorks.{with_any}
use Rattle.volume_core.proofs.volume.Volume.arm.Goals as goal
use Rattle.volume_core.specs.Turns.{shared}

pub new-requires-clause-disk : goal.new-requires-clause-disk
new-requires-clause-disk g c =
    disk-is g.C.SectorCipher.sector c.args.loaded (with_any g.C.SectorCipher.sealed g.C.SectorCipher.opened (shared c.self.inside.map
    c.self.inside.table c.self.inside.lanes.items c.self.inside.broken
    (g.D.Disk.device c.self.inside.disk)) c.self.inside.keys c.self.inside.zone)
    (rw (← c.self.view_is) at c.requires.sizes) (rw (← c.self.view_is) at c.requires.map)
    (g.met.D.Disk.geometry c.self.inside.disk)

pub new-requires-clause-maps : goal.new-requires-clause-maps
new-requires-clause-maps g c =
    maps-fit g.C.SectorCipher.sector c.args.loaded (with_any g.C.SectorCipher.sealed g.C.SectorCipher.opened (shared c.self.inside.map
    c.self.inside.table c.self.inside.lanes.items c.self.inside.broken
    (g.D.Disk.device c.self.inside.disk)) c.self.inside.keys c.self.inside.zone)
    (rw (← c.self.view_is) at c.requires.sizes) (rw (← c.self.view_is) at c.requires.map)
    c.self.invariant.sound

pub new-requires-clause-keys : goal.new-requires-clause-keys
new-requires-clause-keys g c =
    has-keys g.C.SectorCipher.sector c.args.loaded (with_any g.C.SectorCipher.sealed g.C.SectorCipher.opened (shared c.self.inside.map
    c.self.inside.table c.self.inside.lanes.items c.self.inside.broken
    (g.D.Disk.device c.self.inside.disk)) c.self.inside.keys c.self.inside.zone)
    (rw (← c.self.view_is) at c.requires.sizes) (rw (← c.self.view_is) at c.requires.map)
    c.self.invariant.keys

pub invariant_of-self : goal.invariant_of-self
invariant_of-self g c =
    rw c.put_zone.ensures (armed-volume g.C.SectorCipher.sector g.C.SectorCipher.sealed g.C.SectorCipher.opened
    c.zones_begin_in_order.ensures c.args.loaded c.in_ok-zone.zone _ _ c.self.inside.zone
    c.self.invariant (rw (← c.self.view_is) at c.requires.unarmed)
    (rw (← c.self.view_is) at c.requires.free) (rw (← c.self.view_is) at c.requires.sizes)
    (rw (← c.self.view_is) at c.requires.map) c.in_ok-zone.ensures (record {
      working = c.is_working.ensures.working;
      stored = c.is_working.ensures.stored;
      ruled = c.is_working.ensures.ruled;
    }) c.is_working.ensures.first_salt c.is_working.ensures.second_salt refl)

pub returns-clause-armed : goal.returns-clause-armed
returns-clause-armed g c =
    rw (c.put_zone.ensures, ← c.self.view_is) (armed-work g.C.SectorCipher.sector g.C.SectorCipher.sealed g.C.SectorCipher.opened
    c.zones_begin_in_order.ensures c.args.loaded c.in_ok-zone.zone _ _ c.self.inside.zone
    c.self.invariant (rw (← c.self.view_is) at c.requires.unarmed)
    (rw (← c.self.view_is) at c.requires.free) (rw (← c.self.view_is) at c.requires.sizes)
    (rw (← c.self.view_is) at c.requires.map) c.in_ok-zone.ensures (record {
      working = c.is_working.ensures.working;
      stored = c.is_working.ensures.stored;
      ruled = c.is_working.ensures.ruled;
    }) c.is_working.ensures.first_salt c.is_working.ensures.second_salt refl)

pub returns-clause-read : goal.returns-clause-read
returns-clause-read g c =
    let size = c.is_stored.ensures.size in
    let some = some-atoms c.args.loaded.valid.sizes c.args.loaded.copies.used.header.hdr_size
    (omega (arith, size)) c.is_stored.ensures.room c.requires.sizes.alone in
    rw c.put_zone.ensures (armed-read g.C.SectorCipher.sector g.C.SectorCipher.sealed g.C.SectorCipher.opened
    c.zones_begin_in_order.ensures c.args.loaded c.in_ok-zone.zone _ _ c.self.inside.zone
    c.self.invariant (rw (← c.self.view_is) at c.requires.unarmed)
    (rw (← c.self.view_is) at c.requires.free) (rw (← c.self.view_is) at c.requires.sizes)
    (rw (← c.self.view_is) at c.requires.map) c.in_ok-zone.ensures (record {
      working = c.is_working.ensures.working;
      stored = c.is_working.ensures.stored;
      ruled = c.is_working.ensures.ruled;
    }) c.is_working.ensures.first_salt c.is_working.ensures.second_salt refl some)

pub returns-clause-order : goal.returns-clause-order
returns-clause-order g c =
    rw c.put_zone.ensures (armed-order g.C.SectorCipher.sector g.C.SectorCipher.sealed g.C.SectorCipher.opened
    c.zones_begin_in_order.ensures c.args.loaded c.in_ok-zone.zone _ _ c.self.inside.zone
    c.self.invariant (rw (← c.self.view_is) at c.requires.unarmed)
    (rw (← c.self.view_is) at c.requires.free) (rw (← c.self.view_is) at c.requires.sizes)
    (rw (← c.self.view_is) at c.requires.map) c.in_ok-zone.ensures (record {
      working = c.is_working.ensures.working;
      stored = c.is_working.ensures.stored;
      ruled = c.is_working.ensures.ruled;
    }) c.is_working.ensures.first_salt c.is_working.ensures.second_salt refl)
