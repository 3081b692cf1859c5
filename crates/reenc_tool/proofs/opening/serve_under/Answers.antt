use Rattle.std.proofs.Common.{◌+◌, ◌∙◌, inl, inr, ⊎_elim}
use Rattle.reenc_tool.proofs.AgainForLemmas.{ForLaws, again-for}
use Rattle.reenc_tool.proofs.EndForLemmas.{ran-midway}
use Rattle.reenc_tool.proofs.IdleLemmas.{RunLaws, idle-at-rest}
use Rattle.reenc_tool.proofs.MidwayLemmas.{MidwayLaws, keeps-beside}
use Rattle.reenc_tool.proofs.RefusedLemmas.{not-taken-up}
use Rattle.reenc_tool.proofs.RestLemmas.{RestLaws}
use Rattle.reenc_tool.proofs.RunLemmas.{linked_so, ran_as_it_is}
use Rattle.reenc_tool.proofs.TakenLemmas.{any-idle, any-lanes, any-shared}
use Rattle.reenc_tool.proofs.opening.serve_under.Goals as goal

pub serve_opened-requires-clause-lanes : goal.serve_opened-requires-clause-lanes
serve_opened-requires-clause-lanes g c κs within =
    any-lanes _ _ _ _ _ _ c.in-Ok.volume c.in-Ok.ensures.opened ∙ c.lanes_for.ensures

pub serve_opened-requires-clause-shared : goal.serve_opened-requires-clause-shared
serve_opened-requires-clause-shared g c κs within =
    any-shared _ _ _ _ _ _ c.in-Ok.volume c.taken_volumes_keep_content.ensures.idle
    c.in-Ok.ensures.opened

pub serve_opened-requires-clause-fresh : goal.serve_opened-requires-clause-fresh
serve_opened-requires-clause-fresh g c κs within =
    (any-idle _ _ _ _ _ _ c.in-Ok.volume c.taken_volumes_keep_content.ensures.idle
    c.in-Ok.ensures.opened).0

pub serve_opened-requires-clause-sound : goal.serve_opened-requires-clause-sound
serve_opened-requires-clause-sound g c κs within =
    (any-idle _ _ _ _ _ _ c.in-Ok.volume c.taken_volumes_keep_content.ensures.idle
    c.in-Ok.ensures.opened).1

-- it was opened, or its conversion was taken up
pub returns-in-Ok-clause-ended : goal.returns-in-Ok-clause-ended
returns-in-Ok-clause-ended g c =
    let device = g.B.Disk.Disk.device c.args.disk in
    let volume = c.in-Ok.volume in
    let pass = c.args.pass.now in
    let lanes = c.args.words.now.workers + 1 in
    let own = g.met.B.Disk.Disk g.world.𝓛 g.world.𝓜 g.world.𝓡
    ((λ s x. x), (λ x. x), (λ x. x), λ x. x) in
    let geometry = own.geometry c.args.disk in
    let runs : RunLaws = record {
      serves = c.every_run_is_served.ensures;
      untagged_are = c.executions_join.ensures.untagged;
    } in
    let rest : RestLaws = record {
      areas = c.keys_are_in_areas.ensures;
      fronts = c.headers_stand_in_front.ensures.loads;
      begins = c.headers_stand_in_front.ensures.areas;
    } in
    let laws : MidwayLaws _ _ _ = record {
      openings = c.openings_of_conversions_keep_content.ensures.opened;
      begins = c.resumed_conversions_keep_content.ensures.begins;
      start = c.begun_conversions_start.ensures;
      again = c.stops_beside_clients_stand_again.ensures;
      newest = c.conversions_end_beside_clients.ensures;
      tables = c.tables_are_of_deeds.ensures;
      untagged_are = c.executions_join_beside.ensures.untagged;
      reader = λ sizes. c.copies_are_read.ensures;
    } in
    let passes : ForLaws _ _ _ = record {
      given = c.found_keys_are_given.ensures;
      begins = c.conversions_go_on_under_their_passphrase.ensures.begins;
      stops = c.stops_beside_clients_stand_under_passphrases.ensures.once;
      ended = c.ends_beside_clients_stand_under_passphrases.ensures;
    } in
    ⊎_elim
    (λ by. inr (inl (record {
      sector = _;
      sealed = _;
      opened = _;
      start = volume;
      volume = by;
      stands = λ first told run is_run. c.opened_volumes_stand_along.ensures device pass first lanes
          volume run by told is_run;
      at_rest = λ first told begun ran fine few. idle-at-rest runs rest g.B.Disk.Disk.device
          g.B.Link.Link.state c.args.disk pass lanes volume by geometry
          (λ bytes is. own.whole c.args.disk bytes is) _ first told begun ran fine few;
      linked = linked_so _ _ _ _ _ _ _ _ c.serve_opened.ensures.linked
          (λ begun ran. ran_as_it_is _ _ _ volume _ begun _ by.fresh ran);
    })))
    (λ taken. inr (inr (inr (record {
      sector = _;
      sealed = _;
      opened = _;
      volume = volume;
      taken = taken;
      known = λ first content told stands. c.passphrases_give_keys.ensures device pass first lanes
          volume content taken told stands;
      keeps = λ first old_key new_key content run stood is_run known.
          c.taken_volumes_keep_content.ensures.keeps device pass lanes volume taken first old_key
          new_key content run stood is_run known;
      keeps_beside = λ first old_key new_key content deeds stood are known.
          keeps-beside laws device pass lanes volume taken geometry first old_key new_key content stood
          deeds are known;
      again_for = again-for laws passes device pass lanes volume taken geometry;
      linked = linked_so _ _ _ _ _ _ _ _ c.serve_opened.ensures.linked
          (λ begun ran. ran-midway laws passes g.B.Disk.Disk.device _ c.args.disk pass lanes volume
          taken geometry begun _ c.args.words.now.converts ran);
    }))))
    (rw c.lanes_for.ensures at c.in-Ok.ensures.opened)

-- it wasn't
pub returns-in-Err-Midway-clause-ended : goal.returns-in-Err-Midway-clause-ended
returns-in-Err-Midway-clause-ended g c =
    let refused = c.in-Err-Midway.refused in
    inr (inr (inl (not-taken-up (record {
      given = c.found_keys_are_given.ensures;
      in_vain = c.openings_of_conversions_keep_content.ensures.unopened;
    }) g.B.Disk.Disk.device c.standing_conversions_end.ensures c.args.pass.now c.args.disk _ _
    refused.refusal refused.header refused.disk
    (rw c.in-Err-Midway.field-0-is at c.in-Err-Midway.ensures.none)
    c.ended_unresumed.ensures.outcome)))
