-- The other objects of a header, and all of its metadata, may go to another thread, and be lent to
-- others.
use denote.Builtin.{u64}
use denote.Param.Send.{IsSend, plain_send, recorded_send, struct_send, view_send, IsSync}
use denote.Param.Send.{plain_sync, recorded_sync, struct_sync, view_sync}
use denote.RattleType.{RattleType}
use denote.Struct.Declared as S
use denote.Struct.Tuple.{Tuple, tuple_field, tuple_type}
use Rattle.base_terms.proofs.bytes.Bytes.TheSendSync as bytes
use Rattle.json_members.proofs.listed.Listed.TheSendSync as listed
use Rattle.json_members.proofs.text.Text.TheSendSync as text
use Rattle.json_members.specs.contracts.listed.Listed as Listed
use Rattle.json_members.specs.contracts.text.Text as Text
use Rattle.luks_meta.proofs.names.Hash.TheSendSync as hash
use Rattle.luks_meta.proofs.segment.Encryption.TheSendSync as encryption
use Rattle.luks_meta.proofs.segment.SegmentSize.TheSendSync as segment_size
use Rattle.luks_meta.specs.contracts.config.Config as Config
use Rattle.luks_meta.specs.contracts.config.Requirements as Requirements
use Rattle.luks_meta.specs.contracts.digest.Digest as Digest
use Rattle.luks_meta.specs.contracts.keyslot.Keyslot as Keyslot
use Rattle.luks_meta.specs.contracts.meta.Meta as Meta
use Rattle.luks_meta.specs.contracts.meta.Meta.TheInside as InMeta
use Rattle.luks_meta.specs.contracts.meta.Parts as Parts
use Rattle.luks_meta.specs.contracts.segment.Encryption as Encryption
use Rattle.luks_meta.specs.contracts.segment.Segment as Segment
use Rattle.luks_meta.specs.contracts.token.Token as Token
use Rattle.shared_volume.proofs.Sending.JsonValues.{object_send, object_sync}
use Rattle.shared_volume.proofs.Sending.Keyslots.{keyslot_send, keyslot_sync}
use Rattle.std.proofs.Common.{List, [], ◌∷◌}
use Rattle.std.proofs.option.Option.TheSendSync as option

abbrev pub Numbered : RattleType → List RattleType
Numbered R = u64 ∷ (R ∷ [])

numbered_send : (R : RattleType) → IsSend R → IsSend (Tuple (Numbered R))
numbered_send R s = recorded_send (tuple_field (Numbered R)).row _ _ (tuple_type
    (Numbered R)).to_one
    (struct_send (S.shape (tuple_type (Numbered R))) (plain_send _ _ _ _ _, (s, tt)))

token_field_send : IsSend (Token.the_field).row
token_field_send = struct_send (S.shape Token.the_type) (object_send, tt)

token_send : IsSend Token.the_row
token_send = recorded_send (Token.the_field).row _ _ (Token.the_type).to_one token_field_send

segment_field_send : IsSend (Segment.the_field).row
segment_field_send = struct_send (S.shape Segment.the_type) (
  plain_send _ _ _ _ _,
  (
    segment_size.the_field_send,
    (
      option.the_field_send Encryption.the_row encryption.the_send,
      (
        option.the_field_send (Listed.the_row Text.the_row)
            (listed.the_send Text.the_row text.the_send),
        (object_send, tt),
      ),
    ),
  ),
)

segment_send : IsSend Segment.the_row
segment_send = recorded_send (Segment.the_field).row _ _
    (Segment.the_type).to_one segment_field_send

digest_field_send : IsSend (Digest.the_field).row
digest_field_send = struct_send (S.shape Digest.the_type) (
  listed.the_send u64
      (plain_send _ _ _ _ _),
  (
    listed.the_send u64 (plain_send _ _ _ _ _),
    (
      hash.the_field_send,
      (plain_send _ _ _ _ _, (bytes.the_send, (bytes.the_send, (object_send, tt)))),
    ),
  ),
)

digest_send : IsSend Digest.the_row
digest_send = recorded_send (Digest.the_field).row _ _ (Digest.the_type).to_one digest_field_send

requirements_field_send : IsSend (Requirements.the_field).row
requirements_field_send = struct_send (S.shape Requirements.the_type)
    (listed.the_send Text.the_row text.the_send, (object_send, tt))

requirements_send : IsSend Requirements.the_row
requirements_send = recorded_send (Requirements.the_field).row _ _
    (Requirements.the_type).to_one requirements_field_send

config_field_send : IsSend (Config.the_field).row
config_field_send = struct_send (S.shape Config.the_type) (
  plain_send _ _ _ _ _,
  (
    plain_send _ _ _ _ _,
    (
      option.the_field_send Requirements.the_row requirements_send,
      (object_send, tt),
    ),
  ),
)

parts_field_send : IsSend (Parts.the_field).row
parts_field_send = struct_send (S.shape Parts.the_type) (
  listed.the_send (Tuple
      (Numbered Keyslot.the_row)) (numbered_send Keyslot.the_row keyslot_send),
  (
    listed.the_send (Tuple (Numbered Token.the_row)) (numbered_send Token.the_row token_send),
    (
      listed.the_send (Tuple (Numbered Segment.the_row))
          (numbered_send Segment.the_row segment_send),
      (
        listed.the_send (Tuple (Numbered Digest.the_row)) (numbered_send Digest.the_row digest_send),
        (config_field_send, (object_send, tt)),
      ),
    ),
  ),
)

pub meta_send : IsSend Meta.the_row
meta_send = view_send InMeta.the_row _ _ _ _ (recorded_send (InMeta.the_field).row _ _
    (InMeta.the_type).to_one
    (struct_send (S.shape InMeta.the_type) (parts_field_send, tt)))

numbered_sync : (R : RattleType) → IsSync R → IsSync (Tuple (Numbered R))
numbered_sync R s = recorded_sync (tuple_field (Numbered R)).row _ _ (tuple_type
    (Numbered R)).to_one
    (struct_sync (S.shape (tuple_type (Numbered R))) (plain_sync _ _ _ _ _, (s, tt)))

token_field_sync : IsSync (Token.the_field).row
token_field_sync = struct_sync (S.shape Token.the_type) (object_sync, tt)

token_sync : IsSync Token.the_row
token_sync = recorded_sync (Token.the_field).row _ _ (Token.the_type).to_one token_field_sync

segment_field_sync : IsSync (Segment.the_field).row
segment_field_sync = struct_sync (S.shape Segment.the_type) (
  plain_sync _ _ _ _ _,
  (
    segment_size.the_field_sync,
    (
      option.the_field_sync Encryption.the_row encryption.the_sync,
      (
        option.the_field_sync (Listed.the_row Text.the_row)
            (listed.the_sync Text.the_row text.the_sync),
        (object_sync, tt),
      ),
    ),
  ),
)

segment_sync : IsSync Segment.the_row
segment_sync = recorded_sync (Segment.the_field).row _ _
    (Segment.the_type).to_one segment_field_sync

digest_field_sync : IsSync (Digest.the_field).row
digest_field_sync = struct_sync (S.shape Digest.the_type) (
  listed.the_sync u64
      (plain_sync _ _ _ _ _),
  (
    listed.the_sync u64 (plain_sync _ _ _ _ _),
    (
      hash.the_field_sync,
      (plain_sync _ _ _ _ _, (bytes.the_sync, (bytes.the_sync, (object_sync, tt)))),
    ),
  ),
)

digest_sync : IsSync Digest.the_row
digest_sync = recorded_sync (Digest.the_field).row _ _ (Digest.the_type).to_one digest_field_sync

requirements_field_sync : IsSync (Requirements.the_field).row
requirements_field_sync = struct_sync (S.shape Requirements.the_type)
    (listed.the_sync Text.the_row text.the_sync, (object_sync, tt))

requirements_sync : IsSync Requirements.the_row
requirements_sync = recorded_sync (Requirements.the_field).row _ _
    (Requirements.the_type).to_one requirements_field_sync

config_field_sync : IsSync (Config.the_field).row
config_field_sync = struct_sync (S.shape Config.the_type) (
  plain_sync _ _ _ _ _,
  (
    plain_sync _ _ _ _ _,
    (
      option.the_field_sync Requirements.the_row requirements_sync,
      (object_sync, tt),
    ),
  ),
)

parts_field_sync : IsSync (Parts.the_field).row
parts_field_sync = struct_sync (S.shape Parts.the_type) (
  listed.the_sync (Tuple
      (Numbered Keyslot.the_row)) (numbered_sync Keyslot.the_row keyslot_sync),
  (
    listed.the_sync (Tuple (Numbered Token.the_row)) (numbered_sync Token.the_row token_sync),
    (
      listed.the_sync (Tuple (Numbered Segment.the_row))
          (numbered_sync Segment.the_row segment_sync),
      (
        listed.the_sync (Tuple (Numbered Digest.the_row)) (numbered_sync Digest.the_row digest_sync),
        (config_field_sync, (object_sync, tt)),
      ),
    ),
  ),
)

pub meta_sync : IsSync Meta.the_row
meta_sync = view_sync InMeta.the_row _ _ _ _ (recorded_sync (InMeta.the_field).row _ _
    (InMeta.the_type).to_one
    (struct_sync (S.shape InMeta.the_type) (parts_field_sync, tt)))
