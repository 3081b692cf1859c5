-- Keyslots of a header may go to another thread, and be lent to others.
use denote.Enum.Declared as E
use denote.Param.Send.{IsSend, plain_send, recorded_send, struct_send, enum_send, IsSync}
use denote.Param.Send.{plain_sync, recorded_sync, struct_sync, enum_sync}
use denote.Struct.Declared as S
use Rattle.json_members.proofs.text.Text.TheSendSync as text
use Rattle.luks_meta.proofs.keyslot.Derivation.TheSendSync as derivation
use Rattle.luks_meta.proofs.keyslot.Priority.TheSendSync as priority
use Rattle.luks_meta.proofs.reencrypt.Direction.TheSendSync as direction
use Rattle.luks_meta.proofs.reencrypt.Mode.TheSendSync as mode
use Rattle.luks_meta.proofs.reencrypt.Resilience.TheSendSync as resilience
use Rattle.luks_meta.specs.contracts.keyslot.Kdf as Kdf
use Rattle.luks_meta.specs.contracts.keyslot.Keyslot as Keyslot
use Rattle.luks_meta.specs.contracts.keyslot.Luks2 as Luks2
use Rattle.luks_meta.specs.contracts.keyslot.OtherArea as OtherArea
use Rattle.luks_meta.specs.contracts.keyslot.OtherSlot as OtherSlot
use Rattle.luks_meta.specs.contracts.keyslot.Priority as Priority
use Rattle.luks_meta.specs.contracts.keyslot.SlotArea as SlotArea
use Rattle.luks_meta.specs.contracts.keyslot.Splitter as Splitter
use Rattle.luks_meta.specs.contracts.reencrypt.Reencrypt as Reencrypt
use Rattle.luks_meta.specs.contracts.reencrypt.ReencryptArea as ReencryptArea
use Rattle.shared_volume.proofs.Sending.JsonValues.{object_send, object_sync}
use Rattle.std.proofs.option.Option.TheSendSync as option

reencrypt_area_field_send : IsSend (ReencryptArea.the_field).row
reencrypt_area_field_send = struct_send (S.shape ReencryptArea.the_type) (
  resilience.the_field_send,
  (plain_send _ _ _ _ _, (plain_send _ _ _ _ _, (object_send, tt))),
)

reencrypt_field_send : IsSend (Reencrypt.the_field).row
reencrypt_field_send = struct_send (S.shape Reencrypt.the_type) (
  mode.the_field_send,
  (direction.the_field_send, (reencrypt_area_field_send, (object_send, tt))),
)

slot_area_field_send : IsSend (SlotArea.the_field).row
slot_area_field_send = struct_send (S.shape SlotArea.the_type) (
  text.the_send,
  (plain_send _ _ _ _ _, (plain_send _ _ _ _ _, (plain_send _ _ _ _ _, (object_send, tt)))),
)

kdf_field_send : IsSend (Kdf.the_field).row
kdf_field_send = struct_send (S.shape Kdf.the_type) (derivation.the_field_send, (object_send, tt))

splitter_field_send : IsSend (Splitter.the_field).row
splitter_field_send = struct_send (S.shape Splitter.the_type) (
  plain_send _ _ _ _ _,
  (
    text.the_send,
    (object_send, tt),
  ),
)

luks2_field_send : IsSend (Luks2.the_field).row
luks2_field_send = struct_send (S.shape Luks2.the_type) (
  plain_send _ _ _ _ _,
  (
    slot_area_field_send,
    (
      kdf_field_send,
      (
        splitter_field_send,
        (option.the_field_send Priority.the_row priority.the_send, (object_send, tt)),
      ),
    ),
  ),
)

other_area_field_send : IsSend (OtherArea.the_field).row
other_area_field_send = struct_send (S.shape OtherArea.the_type) (
  plain_send _ _ _ _ _,
  (plain_send _ _ _ _ _, (object_send, tt)),
)

other_area_send : IsSend OtherArea.the_row
other_area_send = recorded_send (OtherArea.the_field).row _ _
    (OtherArea.the_type).to_one other_area_field_send

other_slot_field_send : IsSend (OtherSlot.the_field).row
other_slot_field_send = struct_send (S.shape OtherSlot.the_type) (
  text.the_send,
  (option.the_field_send OtherArea.the_row other_area_send, (object_send, tt)),
)

keyslot_field_send : IsSend (Keyslot.the_field).row
keyslot_field_send = enum_send (E.shape Keyslot.the_type) (
  (luks2_field_send, tt),
  ((reencrypt_field_send, tt), ((other_slot_field_send, tt), tt)),
)

pub keyslot_send : IsSend Keyslot.the_row
keyslot_send = recorded_send (Keyslot.the_field).row _ _
    (Keyslot.the_type).to_one keyslot_field_send

reencrypt_area_field_sync : IsSync (ReencryptArea.the_field).row
reencrypt_area_field_sync = struct_sync (S.shape ReencryptArea.the_type) (
  resilience.the_field_sync,
  (plain_sync _ _ _ _ _, (plain_sync _ _ _ _ _, (object_sync, tt))),
)

reencrypt_field_sync : IsSync (Reencrypt.the_field).row
reencrypt_field_sync = struct_sync (S.shape Reencrypt.the_type) (
  mode.the_field_sync,
  (direction.the_field_sync, (reencrypt_area_field_sync, (object_sync, tt))),
)

slot_area_field_sync : IsSync (SlotArea.the_field).row
slot_area_field_sync = struct_sync (S.shape SlotArea.the_type) (
  text.the_sync,
  (plain_sync _ _ _ _ _, (plain_sync _ _ _ _ _, (plain_sync _ _ _ _ _, (object_sync, tt)))),
)

kdf_field_sync : IsSync (Kdf.the_field).row
kdf_field_sync = struct_sync (S.shape Kdf.the_type) (derivation.the_field_sync, (object_sync, tt))

splitter_field_sync : IsSync (Splitter.the_field).row
splitter_field_sync = struct_sync (S.shape Splitter.the_type) (
  plain_sync _ _ _ _ _,
  (
    text.the_sync,
    (object_sync, tt),
  ),
)

luks2_field_sync : IsSync (Luks2.the_field).row
luks2_field_sync = struct_sync (S.shape Luks2.the_type) (
  plain_sync _ _ _ _ _,
  (
    slot_area_field_sync,
    (
      kdf_field_sync,
      (
        splitter_field_sync,
        (option.the_field_sync Priority.the_row priority.the_sync, (object_sync, tt)),
      ),
    ),
  ),
)

other_area_field_sync : IsSync (OtherArea.the_field).row
other_area_field_sync = struct_sync (S.shape OtherArea.the_type) (
  plain_sync _ _ _ _ _,
  (plain_sync _ _ _ _ _, (object_sync, tt)),
)

other_area_sync : IsSync OtherArea.the_row
other_area_sync = recorded_sync (OtherArea.the_field).row _ _
    (OtherArea.the_type).to_one other_area_field_sync

other_slot_field_sync : IsSync (OtherSlot.the_field).row
other_slot_field_sync = struct_sync (S.shape OtherSlot.the_type) (
  text.the_sync,
  (option.the_field_sync OtherArea.the_row other_area_sync, (object_sync, tt)),
)

keyslot_field_sync : IsSync (Keyslot.the_field).row
keyslot_field_sync = enum_sync (E.shape Keyslot.the_type) (
  (luks2_field_sync, tt),
  ((reencrypt_field_sync, tt), ((other_slot_field_sync, tt), tt)),
)

pub keyslot_sync : IsSync Keyslot.the_row
keyslot_sync = recorded_sync (Keyslot.the_field).row _ _
    (Keyslot.the_type).to_one keyslot_field_sync
