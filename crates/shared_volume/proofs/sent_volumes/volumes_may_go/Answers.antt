use denote.Exit.{no}
use denote.Param.Send.{arg_send, param_send}
use Rattle.shared_volume.proofs.Sending.Volumes.{volume_send, volume_sync}
use Rattle.shared_volume.proofs.sent_volumes.volumes_may_go.Goals as goal

pub may_go-requires-send-T : goal.may_go-requires-send-T
may_go-requires-send-T g c κs within = param_send 0 _ (arg_send _ no _
    (volume_send _ _ g.D.Disk g.C.SectorCipher c.type_bounds.send-D c.type_bounds.send-C))

pub may_go-requires-sync-T : goal.may_go-requires-sync-T
may_go-requires-sync-T g c κs within = record {
  shared = (volume_sync _ _ g.D.Disk g.C.SectorCipher c.type_bounds.sync-D
      c.type_bounds.sync-C).shared;
}
