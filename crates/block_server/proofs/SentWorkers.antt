-- Workers may go to other threads, and a volume that is shared may be lent to them.
use denote.Builtin.{u64}
use denote.Param.Send.{IsSend, plain_send, recorded_send, struct_send, sendable, IsSync, plain_sync}
use denote.Param.Send.{AllSync, recorded_sync, struct_sync}
use denote.RattleType.{RattleType}
use denote.Struct.Declared as S
use denote.Struct.Tuple.{TupleAt, field_at, type_at}
use mir.Syntax.{Sym}
use mathlib.Core.List.{List}
use Rattle.aes_core.proofs.cipher.Aes.TheSendSync as aes_sent
use Rattle.aes_core.specs.contracts.cipher.Aes as Aes
use Rattle.aes_core.specs.contracts.cipher.AesBlockCipher.TheImpl as aes
use Rattle.atomic_table.proofs.owned.Table.TheSendSync as table
use Rattle.atomic_table.proofs.shared.Seat.TheSendSync as seat
use Rattle.block_server.proofs.link.Standing.TheSendSync as standing
use Rattle.block_server.specs.contracts.worker.Worker as Worker
use Rattle.lane_plan.proofs.plan.Shape.TheSendSync as shape
use Rattle.nbd_session.proofs.ending.SessionEnd.TheSendSync as session_end
use Rattle.sector_cipher.proofs.disk.DiskCipher.TheSendSync as cipher
use Rattle.sector_cipher.specs.contracts.disk.DiskCipher as DiskCipher
use Rattle.sector_cipher.specs.contracts.disk.DiskCipherSectorCipher.TheImpl as disk
use Rattle.sector_disk.specs.declared.device.Disk as disk_laws
use Rattle.shared_volume.proofs.Sending.JsonValues.{list_send}
use Rattle.shared_volume.proofs.Sending.Volumes.{volume_send}
use Rattle.shared_volume.proofs.departures.Departures.TheSendSync as departures
use Rattle.shared_volume.specs.contracts.asking.SharedEvent as SharedEvent
use Rattle.shared_volume.specs.contracts.asking.SharedOutcome as SharedOutcome
use Rattle.shared_volume.specs.contracts.lane.Lane as Lane
use Rattle.shared_volume.specs.contracts.machine.SharedVolume as SharedVolume
use Rattle.shared_volume.specs.contracts.sharing.SharedCell as SharedCell
use Rattle.std.below.std_heap.proofs.GlobalAllocator.TheSendSync as frees
use Rattle.std.proofs.alloc.Global.TheSendSync as heap
use Rattle.std.proofs.option.Option.TheSendSync as option
use Rattle.std.specs.contracts.alloc.Global as Global
use Rattle.std.specs.contracts.impls.GlobalAllocator.TheImpl as alloc
use Rattle.volume_cell.specs.Knowing.{beginning}
use Rattle.volume_cell.specs.contracts.held.Held as Held
use Rattle.volume_cell.specs.contracts.shared.Shared as Shared
use Rattle.volume_cell.specs.contracts.rule.Terms as Terms
use Rattle.volume_cell.specs.contracts.rule.OneHistory as OneHistory
use Rattle.volume_cell.specs.contracts.knowledge.Knowledge as Knowledge
use Rattle.volume_core.specs.contracts.volume.Volume as Volume
use Rattle.volume_machine.proofs.keys.Keys.TheSendSync as keys
use Rattle.volume_machine.proofs.sealers.Sealers.TheSendSync as sealers

-- the program's cipher
abbrev Cipher : RattleType
Cipher = DiskCipher.the_row Aes.the_row

abbrev VolumeOn : (D : RattleType) → disk_laws.Ghosts D.Denot → RattleType
VolumeOn D h = Volume.the_row D Cipher h (disk.ghosts Aes.the_row aes.ghosts disk.no_dict)

abbrev HeldOn : (D : RattleType) → disk_laws.Ghosts D.Denot → RattleType
HeldOn D h = Held.the_row (SharedVolume.the_row D h) SharedEvent.the_row SharedOutcome.the_row

abbrev KnownOn : (D : RattleType) → disk_laws.Ghosts D.Denot → RattleType
KnownOn D h = Knowledge.the_row (VolumeOn D h) SharedEvent.the_row SharedOutcome.the_row

cipher_send : IsSend Cipher
cipher_send = cipher.the_send Aes.the_row aes_sent.the_send

machine_send : (D : RattleType) (h : disk_laws.Ghosts D.Denot) → IsSend D
    → IsSend (SharedVolume.the_row D h)
machine_send D h d = recorded_send (SharedVolume.the_field D h).row _ _
    (SharedVolume.the_type D h).to_one
    (struct_send (S.shape (SharedVolume.the_type D h)) (
      volume_send D Cipher h (disk.ghosts Aes.the_row aes.ghosts disk.no_dict) d cipher_send,
      (search sendable depth 20, (heap.the_field_send, tt)),
    ))

held_send : (D : RattleType) (h : disk_laws.Ghosts D.Denot) → IsSend D → IsSend (HeldOn D h)
held_send D h d = recorded_send
    (Held.the_field (SharedVolume.the_row D h) SharedEvent.the_row SharedOutcome.the_row).row _ _
    (Held.the_type (SharedVolume.the_row D h) SharedEvent.the_row SharedOutcome.the_row).to_one
    (struct_send (S.shape
    (Held.the_type (SharedVolume.the_row D h) SharedEvent.the_row SharedOutcome.the_row))
    (machine_send D h d, (search sendable depth 30, tt)))

lane_field_send : (D : RattleType) (h : disk_laws.Ghosts D.Denot) → IsSend D
    → IsSend (Lane.the_field D h).row
lane_field_send D h d = struct_send (S.shape (Lane.the_type D h)) (
  seat.the_send (HeldOn D h) (KnownOn D h) (held_send D h d),
  (plain_send _ _ _ _ _, (keys.the_field_send Cipher cipher_send, (shape.the_field_send, tt))),
)

pub worker_send : (D L : RattleType) (h : disk_laws.Ghosts D.Denot) → IsSend D → IsSend L
    → IsSend (Worker.the_row D L h)
worker_send D L h d l = recorded_send (Worker.the_field D L h).row _ _
    (Worker.the_type D L h).to_one
    (struct_send (S.shape (Worker.the_type D L h)) (
      lane_field_send D h d,
      (
        l,
        (
          list_send _ session_end.the_send,
          (standing.the_field_send, (option.the_field_send u64 (plain_send _ _ _ _ _), tt)),
        ),
      ),
    ))

pub cell_sync : (D : RattleType) (h : disk_laws.Ghosts D.Denot) → IsSend D
    → IsSync (SharedCell.the_row D h)
cell_sync D h d = recorded_sync (SharedCell.the_field D h).row _ _ (SharedCell.the_type D h).to_one
    (struct_sync (S.shape (SharedCell.the_type D h)) (
      struct_sync (S.shape (Shared.the_type (SharedVolume.the_row D h) (HeldOn D h) (KnownOn D h)
          (OneHistory.the_row (SharedVolume.the_row D h))
          (record { holds = _; first = λ terms. beginning terms.opening.value.opening.value }))) (
            table.the_field_sync (HeldOn D h) (KnownOn D h) (Terms.the_row (SharedVolume.the_row D h))
                (OneHistory.the_row (SharedVolume.the_row D h)) Global.the_row
                (record { holds = _; first = λ terms. beginning terms.opening.value.opening.value })
                alloc.ghosts (held_send D h d) heap.the_send heap.the_sync frees.the_frees,
            (plain_sync _ _ _ _ _, tt),
          ),
      (departures.the_field_sync, (sealers.the_field_sync, tt)),
    ))

-- a closure over these captures may be lent to other threads, where each of them may
pub closure_sync : (name : Sym) (captures : List RattleType)
    → AllSync (S.fields (type_at name captures)) → IsSync (TupleAt name captures)
closure_sync name captures each = recorded_sync (field_at name captures).row _ _
    (type_at name captures).to_one (struct_sync (S.shape (type_at name captures)) each)
