use Rattle.std.proofs.Common.{◌∙◌, ap, inl, map, subst, sym}
use Rattle.reenc_tool.proofs.ConcludingLemmas.{ServingLaws, found-of, served-as}
use Rattle.reenc_tool.proofs.PlayedLemmas.{some_element}
use Rattle.reenc_tool.specs.Outcomes.{Coming, came_of}
use Rattle.reenc_tool.specs.Sessions.{most_events}
use Rattle.shared_volume.specs.Ciphers.{opened, sealed}
use Rattle.volume_cell.specs.Passes.{known}
use Rattle.volume_machine.specs.Seals.{seals_of}
use Rattle.block_server.specs.Serving.{HasServedBeside as IsServedBeside}
use Rattle.reenc_tool.proofs.sessions.serve_volume.Goals as goal

pub returns-in-Ok-clause-served : goal.returns-in-Ok-clause-served
returns-in-Ok-clause-served g c =
    let volume = c.args.volume in
    let fits = c.keys-keys.ensures.fits in
    let served = c.in-Ok.served in
    let s = c.in-Ok.ensures.served in
    let made = c.conclude.ensures in
    let came = came_of c.conclude.result.1 in
    let standings = served.standings.items in
    let laws : ServingLaws = record {
      leaves = c.clients_leave_work_alone.ensures;
      quiets = c.runs_are_deeds.ensures.quiet;
      runs = λ start seals run. record {
        served = c.every_run_is_served.ensures start seals;
        answers = λ final operations did.
            c.executions_join.ensures.untagged seals start final run operations did;
        events = c.failures_go_by_events.ensures.along start;
        errors = λ earlier later one sound fresh lawful is. (
          c.device_errors_are_exact.ensures.reply start seals earlier later one fresh is,
          c.device_errors_are_exact.ensures.place start seals earlier later one sound fresh lawful is,
        );
        stops = λ blocks bytes exchanges.
            c.runs_stop_anywhere.ensures start seals blocks bytes run exchanges;
        tables = λ now. c.tables_are_of_events.ensures start run now;
        faultless = c.runs_fail_by_faults.ensures.served start seals run;
        breaks = c.runs_fail_by_faults.ensures.broken start run;
        covered = λ blocks bytes. c.settled_volumes_are_covered.ensures start seals blocks bytes;
      };
      answers = c.executions_join_beside.ensures.untagged;
      reader = λ sizes. c.copies_are_read.ensures;
      serves = c.every_conversion_is_served.ensures;
      goes = c.failures_go_by_deeds.ensures;
      replies = c.device_errors_are_exact-2.ensures.reply;
      places = c.device_errors_are_exact-2.ensures.place;
      stops = c.deeds_stop_anywhere.ensures;
      tables = c.tables_are_of_deeds.ensures;
      faultless = c.deeds_fail_by_faults.ensures.served;
      breaks = c.deeds_fail_by_faults.ensures.broken;
      raised = c.deeds_fail_by_faults.ensures.raised;
      ends_so = c.conversions_end_beside.ensures;
    } in
    inl (served-as laws g.L.Link.state _ c.args.links.items
    (some_element c.args.links.items c.requires.some) came volume served.volume
    (seals_of sealed opened volume.map.atom volume.keys) standings
    c.args.converts c.requires.fresh c.requires.sound c.requires.shared
    (c.keys_seal_lawfully.ensures volume.keys volume.map.atom c.requires.sound.fits.known
    (rw c.keys-keys.ensures.is at fits.old_sector) (rw c.keys-keys.ensures.is at fits.new_sector))
    made.disk (known served.pass) (ap (λ (k : Coming g.row.L.Denot). k.pass) made.came.2)
    served.worker c.in-Ok.ensures.led
    (subst (λ (k : Coming g.row.L.Denot). IsServedBeside g.L.Link.state
    (seals_of sealed opened volume.map.atom volume.keys) volume served.volume (known served.pass) most_events
    c.args.links.items k.links k.ends standings served.worker) (sym made.came.2) s)
    (found-of g.L.Link.state served.volume served.worker c.args.links.items served.links.items came
    standings (map (λ list. list.items) served.sessions.items) _ made.came.0 _ made.came.1 made.came.2
    made.disk s.served.count made.short made.to_the_end))

pub returns-in-Ok-clause-size : goal.returns-in-Ok-clause-size
returns-in-Ok-clause-size g c = c.conclude.ensures.size ∙ c.in-Ok.ensures.served.same.atom
