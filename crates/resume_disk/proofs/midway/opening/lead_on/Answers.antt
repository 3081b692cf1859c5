use Rattle.std.proofs.Common.{refl, subst}
use Rattle.resume_disk.proofs.OpenedMidway.OpenLemmas.{led_on, left_unarmed}
use Rattle.resume_disk.proofs.OpenedMidway.StepLemmas.{tells}
use Rattle.resume_disk.proofs.midway.opening.lead_on.Goals as goal
use Rattle.resume_disk.specs.OpenedMidway.Openings.{unmended, unrepaired}
use Rattle.resume_disk.specs.OpenedMidway.Runs.{header_in}
use Rattle.base_terms.specs.declared.disk_sizes.Sizes.{Sizes}
use Rattle.hotzone.proofs.CommitLemmas.{has-as}
use Rattle.luks_store.specs.Devices.{device_of}
use Rattle.volume_core.specs.Zones.{IsReadBy}
use Rattle.volume_laws.specs.Converting.{IsInOrder}
use Rattle.hotzone.specs.ZoneEvents.Readings.{reading_of}

-- a call of the repair failed
pub returns-in-Err-clause-left : goal.returns-in-Err-clause-left
returns-in-Err-clause-left g c = unrepaired c.in-Err.ensures.run refl

pub lead-requires-clause-begins : goal.lead-requires-clause-begins
lead-requires-clause-begins g c = λ κs lives. (c.args.begun.keys, c.requires.begins)

pub lead-requires-clause-sizes : goal.lead-requires-clause-sizes
lead-requires-clause-sizes g c = λ κs lives.
    has-as (header_in c.args.begun.course).valid.sizes (device_of c.args.disk)
    (device_of c.mend.new.disk) c.in-Ok.ensures.size c.in-Ok.ensures.atoms c.requires.sizes

-- a step failed
pub returns-in-Err-lead-clause-left : goal.returns-in-Err-lead-clause-left
returns-in-Err-lead-clause-left g c =
    unmended (device_of c.mend.new.disk) c.in-Ok.ensures.run
    (c.in-Err-lead.ensures.failed c.args.begun.keys c.requires.begins) refl

-- all calls were done
pub arm_volume-requires-clause-fits : goal.arm_volume-requires-clause-fits
arm_volume-requires-clause-fits g c =
    c.in-Ok-lead.ensures.fits c.args.begun.keys c.requires.begins c.requires.volume

pub returns-in-Ok-arm_volume-clause-led : goal.returns-in-Ok-arm_volume-clause-led
returns-in-Ok-arm_volume-clause-led g c =
    let law = c.disks_tell_lawfully.ensures in
    led_on _ _ _ (header_in c.args.begun.course) c.args.begun.keys c.args.begun.repair c.args.lanes
    (device_of c.args.disk) (device_of c.mend.new.disk) (device_of c.lead.new.disk)
    c.in-Ok-lead.header c.in-Ok-arm_volume.volume c.in-Ok.ensures.run
    (c.in-Ok-lead.ensures.leads c.args.begun.keys c.requires.begins)
    (tells _ law.agrees law.even law.bytes law.sized) c.in-Ok-lead.ensures.same
    c.in-Ok-arm_volume.ensures.disk c.in-Ok-arm_volume.ensures.keys c.in-Ok-arm_volume.ensures.map
    c.in-Ok-arm_volume.ensures.armed

pub returns-in-Ok-arm_volume-clause-read : goal.returns-in-Ok-arm_volume-clause-read
returns-in-Ok-arm_volume-clause-read g c =
    subst (λ (z : Sizes). IsReadBy z c.in-Ok-arm_volume.volume) c.in-Ok-lead.ensures.same
    c.in-Ok-arm_volume.ensures.read

pub returns-in-Ok-arm_volume-clause-order : goal.returns-in-Ok-arm_volume-clause-order
returns-in-Ok-arm_volume-clause-order g c =
    subst (λ (z : Sizes). IsInOrder (reading_of z) c.in-Ok-arm_volume.volume)
    c.in-Ok-lead.ensures.same c.in-Ok-arm_volume.ensures.order

pub returns-in-Err-arm_volume-clause-left : goal.returns-in-Err-arm_volume-clause-left
returns-in-Err-arm_volume-clause-left g c =
    left_unarmed _ _ _ (header_in c.args.begun.course) c.args.begun.keys c.args.begun.repair
    (device_of c.args.disk) (device_of c.mend.new.disk) (device_of c.lead.new.disk) _
    c.in-Ok-lead.header c.in-Ok.ensures.run
    (c.in-Ok-lead.ensures.leads c.args.begun.keys c.requires.begins)
    c.in-Err-arm_volume.ensures.refused
