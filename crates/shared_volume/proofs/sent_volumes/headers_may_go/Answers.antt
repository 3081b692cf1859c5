use denote.Exit.{no}
use denote.Param.Send.{arg_send, param_send}
use Rattle.shared_volume.proofs.Sending.Headers.{loaded_send, loaded_sync}
use Rattle.shared_volume.proofs.sent_volumes.headers_may_go.Goals as goal

pub may_go-requires-send-T : goal.may_go-requires-send-T
may_go-requires-send-T c κs = param_send 0 _ (arg_send _ no _ loaded_send)

pub may_go-requires-sync-T : goal.may_go-requires-sync-T
may_go-requires-sync-T c κs = record { shared = loaded_sync.shared }
