use Rattle.std.proofs.Common.{[], ◌∷◌}
use denote.Exit.{no}
use denote.Param.{param}
use denote.Struct.Field.{shr_ref_field, u64-field}
use denote.Param.Send.{arg_send, arg_sync, param_send, param_sync, plain_sync, sendable}
use denote.Param.Send.{shr_sync}
use Rattle.lane_plan.proofs.plan.Shape.TheSendSync as shape
use Rattle.std.proofs.alloc.Global.TheSendSync as heap
use Rattle.lane_plan.specs.contracts.plan.Shape as Shape
use Rattle.shared_volume.specs.contracts.sharing.SharedCell as SharedCell
use Rattle.std.specs.contracts.alloc.Global as Global
use Rattle.std.proofs.option.Option.TheSendSync as option
use Rattle.block_server.proofs.SentWorkers.{cell_sync, closure_sync, worker_send}
use Rattle.block_server.proofs.SlotLemmas.{both-at, some-same}
use Rattle.block_server.proofs.workers.work_all.Goals as goal

pub each_beside-requires-send-T : goal.each_beside-requires-send-T
each_beside-requires-send-T g c κs within = param_send 1 _ (arg_send _ no _
    (option.the_send _ (worker_send _ _ g.D.Disk c.type_bounds.send-D c.type_bounds.send-L)))

pub each_beside-requires-sync-F : goal.each_beside-requires-sync-F
each_beside-requires-sync-F g c κs within = param_sync 2 _ (arg_sync _ no _ (closure_sync _
    (u64-field.row ∷ (shr_ref_field _ (param 0 g.row.R) (tt {0})).row ∷ Global.the_row
    ∷ (shr_ref_field _ (SharedCell.the_row (param 1 g.row.D) g.D.Disk) (tt {0})).row
    ∷ (shr_ref_field _ (param 3 g.row.G) (tt {0})).row
    ∷ Shape.the_row ∷ []) (
      plain_sync _ _ _ _ _,
      (
        shr_sync _ _ _ c.type_bounds.sync-R,
        (
          heap.the_sync,
          (
            shr_sync _ _ _ (cell_sync (param 1 g.row.D) g.D.Disk c.type_bounds.send-D),
            (shr_sync _ _ _ c.type_bounds.sync-G, (shape.the_sync, tt)),
          ),
        ),
      ),
    )))

pub each_beside-requires-clause-accepts : goal.each_beside-requires-clause-accepts
each_beside-requires-clause-accepts g c κs within = λ i p below at. (
  search sendable depth 20,
  (
    (below, c.requires.few),
    (
      some-same _ _ _ at (c.requires.ready i p.now below),
      search sendable depth 30,
    ),
  ),
)

pub returns-clause-worked : goal.returns-clause-worked
returns-clause-worked g c = record {
  count = c.each_beside.auto.places;
  each = λ k slot below.
      let at = (c.each_beside.ensures.each.each k slot below).1 in
      both-at _ _ _ _ _ at.argument_is at.left at.call;
}
