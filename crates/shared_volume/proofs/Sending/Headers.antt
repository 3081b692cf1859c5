-- A header that is valid, and one that was loaded from a disk, may go to another thread, and be lent
-- to others.
use denote.Param.Send.{IsSend, recorded_send, struct_send, view_send, IsSync, recorded_sync}
use denote.Param.Send.{struct_sync, view_sync}
use denote.Struct.Declared as S
use Rattle.base_terms.proofs.disk_sizes.Sizes.TheSendSync as sizes
use Rattle.luks_rules.proofs.shape.Progress.TheSendSync as progress
use Rattle.luks_rules.specs.contracts.shape.Progress as Progress
use Rattle.luks_rules.specs.contracts.valid.Checked as Checked
use Rattle.luks_rules.specs.contracts.valid.Valid as Valid
use Rattle.luks_rules.specs.contracts.valid.Valid.TheInside as InValid
use Rattle.luks_store.proofs.copies.Copies.TheSendSync as copies
use Rattle.luks_store.specs.contracts.loaded.Loaded as Loaded
use Rattle.luks_store.specs.contracts.loaded.Loaded.TheInside as InLoaded
use Rattle.luks_store.specs.contracts.loaded.Stored as Stored
use Rattle.shared_volume.proofs.Sending.HeaderObjects.{meta_send, meta_sync}
use Rattle.std.proofs.option.Option.TheSendSync as option

checked_field_send : IsSend (Checked.the_field).row
checked_field_send = struct_send (S.shape Checked.the_type) (meta_send, (sizes.the_field_send, tt))

valid_send : IsSend Valid.the_row
valid_send = view_send InValid.the_row _ _ _ _ (recorded_send (InValid.the_field).row _ _
    (InValid.the_type).to_one
    (struct_send (S.shape InValid.the_type) (
      checked_field_send,
      (option.the_field_send Progress.the_row progress.the_send, tt),
    )))

stored_field_send : IsSend (Stored.the_field).row
stored_field_send = struct_send (S.shape Stored.the_type) (copies.the_field_send, (valid_send, tt))

pub loaded_send : IsSend Loaded.the_row
loaded_send = view_send InLoaded.the_row _ _ _ _ (recorded_send (InLoaded.the_field).row _ _
    (InLoaded.the_type).to_one
    (struct_send (S.shape InLoaded.the_type) (stored_field_send, tt)))

checked_field_sync : IsSync (Checked.the_field).row
checked_field_sync = struct_sync (S.shape Checked.the_type) (meta_sync, (sizes.the_field_sync, tt))

valid_sync : IsSync Valid.the_row
valid_sync = view_sync InValid.the_row _ _ _ _ (recorded_sync (InValid.the_field).row _ _
    (InValid.the_type).to_one
    (struct_sync (S.shape InValid.the_type) (
      checked_field_sync,
      (option.the_field_sync Progress.the_row progress.the_sync, tt),
    )))

stored_field_sync : IsSync (Stored.the_field).row
stored_field_sync = struct_sync (S.shape Stored.the_type) (copies.the_field_sync, (valid_sync, tt))

pub loaded_sync : IsSync Loaded.the_row
loaded_sync = view_sync InLoaded.the_row _ _ _ _ (recorded_sync (InLoaded.the_field).row _ _
    (InLoaded.the_type).to_one
    (struct_sync (S.shape InLoaded.the_type) (stored_field_sync, tt)))
