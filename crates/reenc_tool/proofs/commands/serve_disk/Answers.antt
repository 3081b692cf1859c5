use Rattle.std.proofs.Common.{◌∙◌, None, Some, inl, inr, ap, length, ⊎_elim}
use Rattle.std.proofs.lemmas.List.{length-replicate}
use Rattle.reenc_tool.proofs.IdleLemmas.{RunLaws, plain-at-rest}
use Rattle.reenc_tool.proofs.RunLemmas.{fresh_as_it_is, plain_certain, plain_volume}
use Rattle.reenc_tool.proofs.RunLemmas.{served_alone, shared_as_it_is, sound_as_it_is, tells_start}
use Rattle.reenc_tool.specs.Outcomes.{ended_by}
use Rattle.reenc_tool.proofs.commands.serve_disk.Goals as goal

pub serve_volume-disk-requires-clause-shared : goal.serve_volume-disk-requires-clause-shared
serve_volume-disk-requires-clause-shared g c κs within =
    shared_as_it_is c.in-Ok.volume c.in-Ok.ensures.fresh c.in-Ok.ensures.sound

pub serve_volume-disk-requires-clause-fresh : goal.serve_volume-disk-requires-clause-fresh
serve_volume-disk-requires-clause-fresh g c κs within =
    fresh_as_it_is c.in-Ok.volume c.in-Ok.ensures.fresh

pub serve_volume-disk-requires-clause-sound : goal.serve_volume-disk-requires-clause-sound
serve_volume-disk-requires-clause-sound g c κs within =
    sound_as_it_is c.in-Ok.volume c.in-Ok.ensures.fresh c.in-Ok.ensures.sound

pub serve_volume-disk-requires-clause-lanes : goal.serve_volume-disk-requires-clause-lanes
serve_volume-disk-requires-clause-lanes g c κs within =
    ap (λ lanes. length lanes) c.in-Ok.ensures.lanes ∙ length-replicate c.args.lanes None
    ∙ c.requires.lanes

pub returns-in-Ok-clause-ended : goal.returns-in-Ok-clause-ended
returns-in-Ok-clause-ended g c =
    let start = c.in-Ok.volume in
    let made = c.in-Ok.ensures in
    let atom_is = made.map.atom in
    let device = g.D.Disk.device c.args.disk in
    let back = c.serve_volume-disk.result.0 in
    let volume = plain_volume device _ start made.fresh made.sound atom_is made.disk made.map
    made.apart made.keys in
    let laws = g.met.D.Disk g.world.𝓛 g.world.𝓜 g.world.𝓡
    ((λ s x. x), (λ x. x), (λ x. x), λ x. x) in
    let tells = tells_start device _ start volume (record {
      whole = λ bytes is. laws.whole c.args.disk bytes is;
      are_bytes = λ bytes is. laws.bytes c.args.disk bytes is;
      agrees = λ told is. laws.agrees c.args.disk told is;
      even = λ told is. laws.even c.args.disk told is;
    }) in
    ⊎_elim
    (λ ran.
    let served = served_alone _ _ start _ _ _ _ made.fresh ran in
    let runs : RunLaws = record {
      serves = c.every_run_is_served.ensures;
      untagged_are = c.executions_join.ensures.untagged;
    } in
    inl (record {
      start = start;
      seals = _;
      volume = volume;
      back = back;
      came = _;
      served = served;
      back_is = c.ended.ensures.outcome;
      size = c.serve_volume-disk.ensures.size ∙ atom_is;
      starts = λ bytes is.
          c.plain_volumes_start.ensures.starts start _ bytes made.sound made.fresh made.apart
          volume.whole served.lawful made.keys is (tells.whole bytes is) (tells.are_bytes bytes is);
      certain = plain_certain start tells;
      at_rest = λ bytes is fine few.
          plain-at-rest runs _ start _ _ _ _ served made.sound tells volume.whole made.keys bytes is
          (c.plain_volumes_start.ensures.starts start _ bytes made.sound made.fresh made.apart
          volume.whole served.lawful made.keys is (tells.whole bytes is) (tells.are_bytes bytes is))
          fine few;
    }))
    (λ none. inr (inl (record {
      back = back;
      shows = none.0 ∙ made.disk;
      outcome_is = c.ended.ensures.outcome ∙ ap (λ came. ended_by came (Some back) None) none.1;
    })))
    c.serve_volume-disk.ensures.served
