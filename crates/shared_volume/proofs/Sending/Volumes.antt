-- A volume may go to another thread, and be lent to others, where its disk and its cipher may.
use denote.Param.Send.{IsSend, plain_send, recorded_send, struct_send, view_send, IsSync}
use denote.Param.Send.{plain_sync, recorded_sync, struct_sync, view_sync}
use denote.RattleType.{RattleType}
use denote.Struct.Declared as S
use Rattle.cipher_laws.specs.declared.sector.SectorCipher as cipher_laws
use Rattle.hotzone.specs.contracts.zone.Zone as Zone
use Rattle.range_lock.proofs.table.Table.TheSendSync as table
use Rattle.sector_disk.specs.declared.device.Disk as disk_laws
use Rattle.segment_map.proofs.map.Map.TheSendSync as map
use Rattle.shared_volume.proofs.Sending.JsonValues.{list_send, list_sync}
use Rattle.shared_volume.proofs.Sending.Zones.{zone_send, zone_sync}
use Rattle.std.proofs.option.Option.TheSendSync as option
use Rattle.std.specs.contracts.option.Option as Option
use Rattle.volume_core.specs.contracts.volume.Volume as Volume
use Rattle.volume_core.specs.contracts.volume.Volume.TheInside as InVolume
use Rattle.volume_machine.proofs.keys.Keys.TheSendSync as keys
use Rattle.volume_machine.proofs.open.Open.TheSendSync as opened
use Rattle.volume_machine.specs.contracts.open.Open as Open

pub volume_send : (D C : RattleType) (h : disk_laws.Ghosts D.Denot) (g : cipher_laws.Ghosts C.Denot)
    → IsSend D → IsSend C → IsSend (Volume.the_row D C h g)
volume_send D C h g d c = view_send (InVolume.the_row D C h g) _ _ _ _
    (recorded_send (InVolume.the_field D C h g).row _ _ (InVolume.the_type D C h g).to_one
    (struct_send (S.shape (InVolume.the_type D C h g)) (
      d,
      (
        map.the_field_send,
        (
          keys.the_field_send C c,
          (
            table.the_send,
            (
              list_send (Option.the_row Open.the_row) (option.the_send Open.the_row opened.the_send),
              (plain_send _ _ _ _ _, (option.the_field_send (Zone.the_row C g) (zone_send C g c), tt)),
            ),
          ),
        ),
      ),
    )))

pub volume_sync : (D C : RattleType) (h : disk_laws.Ghosts D.Denot) (g : cipher_laws.Ghosts C.Denot)
    → IsSync D → IsSync C → IsSync (Volume.the_row D C h g)
volume_sync D C h g d c = view_sync (InVolume.the_row D C h g) _ _ _ _
    (recorded_sync (InVolume.the_field D C h g).row _ _ (InVolume.the_type D C h g).to_one
    (struct_sync (S.shape (InVolume.the_type D C h g)) (
      d,
      (
        map.the_field_sync,
        (
          keys.the_field_sync C c,
          (
            table.the_sync,
            (
              list_sync (Option.the_row Open.the_row) (option.the_sync Open.the_row opened.the_sync),
              (plain_sync _ _ _ _ _, (option.the_field_sync (Zone.the_row C g) (zone_sync C g c), tt)),
            ),
          ),
        ),
      ),
    )))
