use Rattle.std.proofs.Common.{◌∙◌, sym, ap, subst}
use Rattle.resume_disk.proofs.OpenedMidway.ArmLemmas.{armed_is, disk_is, lane_free, map_fits}
use Rattle.resume_disk.proofs.midway.arming.arm_volume.Goals as goal
use Rattle.sector_disk.specs.JoinedDisks.Counts.{HasSizes}
use Rattle.reenc_meta.specs.ConversionMaps.{IsMapOf}

pub find_map-map-requires-clause-disk : goal.find_map-map-requires-clause-disk
find_map-map-requires-clause-disk g c =
    disk_is c.args.header (g.D.Disk.device c.args.disk) c.requires.sizes
    (g.met.D.Disk.geometry c.args.disk)

pub opened-volume-requires-clause-atom : goal.opened-volume-requires-clause-atom
opened-volume-requires-clause-atom g c = c.find_map-map.ensures.map.2.atom ∙ c.requires.sizes.atom

pub opened-volume-requires-clause-map : goal.opened-volume-requires-clause-map
opened-volume-requires-clause-map g c =
    map_fits g.C.SectorCipher.sector c.args.header c.args.keys c.find_map-map.result
    (g.D.Disk.device c.args.disk) c.requires.fits c.requires.sizes c.find_map-map.ensures.map

pub opened-volume-requires-clause-keys : goal.opened-volume-requires-clause-keys
opened-volume-requires-clause-keys g c =
    c.requires.fits.keys_are c.find_map-map.result c.find_map-map.ensures.map

pub arm-requires-clause-unarmed : goal.arm-requires-clause-unarmed
arm-requires-clause-unarmed g c = c.opened-volume.ensures.fresh.rests

pub arm-requires-clause-unbroken : goal.arm-requires-clause-unbroken
arm-requires-clause-unbroken g c = c.opened-volume.ensures.fresh.unbroken

pub arm-requires-clause-free : goal.arm-requires-clause-free
arm-requires-clause-free g c = lane_free _ c.opened-volume.ensures.sound c.opened-volume.ensures.fresh

pub arm-requires-clause-sizes : goal.arm-requires-clause-sizes
arm-requires-clause-sizes g c =
    subst (λ v. HasSizes c.args.header.valid.sizes v.disk) (sym c.opened-volume.ensures.volume)
    c.requires.sizes

pub arm-requires-clause-map : goal.arm-requires-clause-map
arm-requires-clause-map g c =
    subst (λ v. IsMapOf c.args.header.valid.meta c.args.header.valid.sizes v.map)
    (sym c.opened-volume.ensures.volume) c.find_map-map.ensures.map

pub returns-in-Ok-clause-map : goal.returns-in-Ok-clause-map
returns-in-Ok-clause-map g c =
    let armed = armed_is c.args.header c.find_map-map.result c.args.keys c.args.lanes
    (g.D.Disk.device c.args.disk) _ _ c.opened-volume.ensures.volume c.in-Ok.ensures.armed in
    subst (λ m. IsMapOf c.args.header.valid.meta c.args.header.valid.sizes m) (sym armed.map_is)
    c.find_map-map.ensures.map

pub returns-in-Ok-clause-keys : goal.returns-in-Ok-clause-keys
returns-in-Ok-clause-keys g c =
    (armed_is c.args.header c.find_map-map.result c.args.keys c.args.lanes
    (g.D.Disk.device c.args.disk) _ _ c.opened-volume.ensures.volume c.in-Ok.ensures.armed).keys_are

pub returns-in-Ok-clause-disk : goal.returns-in-Ok-clause-disk
returns-in-Ok-clause-disk g c =
    (armed_is c.args.header c.find_map-map.result c.args.keys c.args.lanes
    (g.D.Disk.device c.args.disk) _ _ c.opened-volume.ensures.volume c.in-Ok.ensures.armed).disk_is

pub returns-in-Ok-clause-armed : goal.returns-in-Ok-clause-armed
returns-in-Ok-clause-armed g c =
    (armed_is c.args.header c.find_map-map.result c.args.keys c.args.lanes
    (g.D.Disk.device c.args.disk) _ _ c.opened-volume.ensures.volume c.in-Ok.ensures.armed).armed

pub returns-in-Err-clause-refused : goal.returns-in-Err-clause-refused
returns-in-Err-clause-refused g c =
    c.into_disk.ensures.disk
    ∙ ap (λ v. v.disk) c.in-Err.ensures.refused
    ∙ ap (λ v. v.disk) c.opened-volume.ensures.volume
