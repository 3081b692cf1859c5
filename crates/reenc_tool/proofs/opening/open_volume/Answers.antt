use Rattle.std.proofs.Common.{ap, inl, inr, subst, sym}
use Rattle.luks_store.specs.Devices.{KeepsBytes}
use Rattle.sector_disk.specs.Devices.{Device}
use Rattle.reenc_tool.proofs.TakenLemmas.{busy-then, in-progress, midway-then, only-read, refused-then}
use Rattle.reenc_tool.proofs.opening.open_volume.Goals as goal

pub returns-in-Ok-clause-opened : goal.returns-in-Ok-clause-opened
returns-in-Ok-clause-opened g c = inl c.in-Ok.ensures.opened

pub only_disk-disk-requires : goal.only_disk-disk-requires
only_disk-disk-requires g c =
    (in-progress g.D.Disk.device c.args.disk c.args.pass.now c.in-Err.unopened.refusal
    c.in-Err.unopened.header c.in-Err.unopened.disk c.in-InProgress.is c.in-Err.ensures.refused).0

pub returns-in-Ok-take_up_conversion-clause-opened :
    goal.returns-in-Ok-take_up_conversion-clause-opened
returns-in-Ok-take_up_conversion-clause-opened g c =
    let device = g.D.Disk.device in
    let unopened = c.in-Err.unopened in
    let first = in-progress device c.args.disk c.args.pass.now unopened.refusal unopened.header
    unopened.disk c.in-InProgress.is c.in-Err.ensures.refused in
    let kept = subst (λ (d : Device). KeepsBytes (device c.args.disk) d)
    (ap device (sym c.only_disk-disk.ensures)) (only-read first.1) in
    inr (midway-then (device c.args.disk) (device c.only_disk-disk.result) kept _ _ _
    c.args.pass.now c.args.lanes c.in-Ok-take_up_conversion.volume
    c.in-Ok-take_up_conversion.ensures.taken)

pub returns-in-Err-take_up_conversion-clause-none :
    goal.returns-in-Err-take_up_conversion-clause-none
returns-in-Err-take_up_conversion-clause-none g c =
    let device = g.D.Disk.device in
    let unopened = c.in-Err.unopened in
    let refused = c.in-Err-take_up_conversion.refused in
    let first = in-progress device c.args.disk c.args.pass.now unopened.refusal unopened.header
    unopened.disk c.in-InProgress.is c.in-Err.ensures.refused in
    let kept = subst (λ (d : Device). KeepsBytes (device c.args.disk) d)
    (ap device (sym c.only_disk-disk.ensures)) (only-read first.1) in (
      busy-then _ _ _ device c.args.disk c.only_disk-disk.result kept c.args.pass.now first.1.found
          first.1.none refused.refusal refused.header refused.disk
          c.in-Err-take_up_conversion.ensures.refused,
      refused-then _ _ _ device c.args.disk c.only_disk-disk.result kept c.args.pass.now
          refused.refusal refused.header refused.disk
          c.in-Err-take_up_conversion.ensures.refused,
    )
