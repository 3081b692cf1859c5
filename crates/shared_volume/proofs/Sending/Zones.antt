-- A zone of a conversion may go to another thread, and be lent to others, where its cipher may.
use denote.Enum.Declared as E
use denote.Param.Send.{IsSend, plain_send, recorded_send, struct_send, enum_send, view_send, IsSync}
use denote.Param.Send.{plain_sync, recorded_sync, struct_sync, enum_sync, view_sync}
use denote.RattleType.{RattleType}
use denote.Struct.Declared as S
use Rattle.base_terms.proofs.buffer.Buffer.TheSendSync as buffer
use Rattle.cipher_laws.specs.declared.sector.SectorCipher as cipher_laws
use Rattle.hotzone.proofs.scratch.Scratch.TheSendSync as scratch
use Rattle.hotzone.proofs.site.Site.TheSendSync as site
use Rattle.hotzone.proofs.worker.Ending.TheSendSync as ending
use Rattle.hotzone.proofs.worker.Halt.TheSendSync as halt
use Rattle.hotzone.specs.contracts.worker.Halt as Halt
use Rattle.hotzone.specs.contracts.worker.Headers as Headers
use Rattle.hotzone.specs.contracts.worker.NextCall as NextCall
use Rattle.hotzone.specs.contracts.worker.NextHeader as NextHeader
use Rattle.hotzone.specs.contracts.worker.Worker as Worker
use Rattle.hotzone.specs.contracts.zone.Zone as Zone
use Rattle.hotzone.specs.contracts.zone.Zone.TheInside as InZone
use Rattle.luks_store.proofs.commit.Commit.TheSendSync as commit
use Rattle.segment_map.proofs.map.Map.TheSendSync as map
use Rattle.shared_volume.proofs.Sending.Headers.{loaded_send, loaded_sync}
use Rattle.std.proofs.option.Option.TheSendSync as option
use Rattle.volume_machine.proofs.keys.Keys.TheSendSync as keys

next_header_field_send : IsSend (NextHeader.the_field).row
next_header_field_send = struct_send (S.shape NextHeader.the_type) (
  commit.the_send,
  (
    loaded_send,
    tt,
  ),
)

headers_field_send : IsSend (Headers.the_field).row
headers_field_send = struct_send (S.shape Headers.the_type) (
  commit.the_send,
  (next_header_field_send, tt),
)

next_call_field_send : IsSend (NextCall.the_field).row
next_call_field_send = enum_send (E.shape NextCall.the_type) (
  tt,
  (
    tt,
    (
      tt,
      (
        (
          plain_send _ _ _ _ _,
          (headers_field_send, tt),
        ),
        (
          (plain_send _ _ _ _ _, (headers_field_send, tt)),
          (
            (headers_field_send, tt),
            (
              (headers_field_send, tt),
              (
                (
                  plain_send _ _ _ _ _,
                  (headers_field_send, tt),
                ),
                (
                  (plain_send _ _ _ _ _, (headers_field_send, tt)),
                  (
                    (headers_field_send, tt),
                    (
                      (headers_field_send, tt),
                      (
                        tt,
                        (
                          (ending.the_field_send, tt),
                          (
                            (plain_send _ _ _ _ _, (ending.the_field_send, tt)),
                            (
                              (ending.the_field_send, tt),
                              ((ending.the_field_send, tt), tt),
                            ),
                          ),
                        ),
                      ),
                    ),
                  ),
                ),
              ),
            ),
          ),
        ),
      ),
    ),
  ),
)

worker_field_send : (C : RattleType) → IsSend C → IsSend (Worker.the_field C).row
worker_field_send C c = struct_send (S.shape (Worker.the_type C)) (
  keys.the_field_send C c,
  (
    loaded_send,
    (
      map.the_field_send,
      (
        site.the_field_send,
        (
          buffer.the_send,
          (
            next_call_field_send,
            (
              option.the_field_send Halt.the_row halt.the_send,
              tt,
            ),
          ),
        ),
      ),
    ),
  ),
)

pub zone_send : (C : RattleType) (g : cipher_laws.Ghosts C.Denot) → IsSend C → IsSend (Zone.the_row C g)
zone_send C g c = view_send (InZone.the_row C g) _ _ _ _
    (recorded_send (InZone.the_field C g).row _ _ (InZone.the_type C g).to_one
    (struct_send (S.shape (InZone.the_type C g))
    (worker_field_send C c, (scratch.the_field_send, tt))))

next_header_field_sync : IsSync (NextHeader.the_field).row
next_header_field_sync = struct_sync (S.shape NextHeader.the_type) (
  commit.the_sync,
  (
    loaded_sync,
    tt,
  ),
)

headers_field_sync : IsSync (Headers.the_field).row
headers_field_sync = struct_sync (S.shape Headers.the_type) (
  commit.the_sync,
  (next_header_field_sync, tt),
)

next_call_field_sync : IsSync (NextCall.the_field).row
next_call_field_sync = enum_sync (E.shape NextCall.the_type) (
  tt,
  (
    tt,
    (
      tt,
      (
        (
          plain_sync _ _ _ _ _,
          (headers_field_sync, tt),
        ),
        (
          (plain_sync _ _ _ _ _, (headers_field_sync, tt)),
          (
            (headers_field_sync, tt),
            (
              (headers_field_sync, tt),
              (
                (
                  plain_sync _ _ _ _ _,
                  (headers_field_sync, tt),
                ),
                (
                  (plain_sync _ _ _ _ _, (headers_field_sync, tt)),
                  (
                    (headers_field_sync, tt),
                    (
                      (headers_field_sync, tt),
                      (
                        tt,
                        (
                          (ending.the_field_sync, tt),
                          (
                            (plain_sync _ _ _ _ _, (ending.the_field_sync, tt)),
                            (
                              (ending.the_field_sync, tt),
                              ((ending.the_field_sync, tt), tt),
                            ),
                          ),
                        ),
                      ),
                    ),
                  ),
                ),
              ),
            ),
          ),
        ),
      ),
    ),
  ),
)

worker_field_sync : (C : RattleType) → IsSync C → IsSync (Worker.the_field C).row
worker_field_sync C c = struct_sync (S.shape (Worker.the_type C)) (
  keys.the_field_sync C c,
  (
    loaded_sync,
    (
      map.the_field_sync,
      (
        site.the_field_sync,
        (
          buffer.the_sync,
          (
            next_call_field_sync,
            (
              option.the_field_sync Halt.the_row halt.the_sync,
              tt,
            ),
          ),
        ),
      ),
    ),
  ),
)

pub zone_sync : (C : RattleType) (g : cipher_laws.Ghosts C.Denot) → IsSync C → IsSync (Zone.the_row C g)
zone_sync C g c = view_sync (InZone.the_row C g) _ _ _ _
    (recorded_sync (InZone.the_field C g).row _ _ (InZone.the_type C g).to_one
    (struct_sync (S.shape (InZone.the_type C g))
    (worker_field_sync C c, (scratch.the_field_sync, tt))))
