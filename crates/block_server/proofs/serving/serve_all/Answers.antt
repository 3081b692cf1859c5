use Rattle.std.proofs.Common.{◌≡◌, ◌∙◌, ℕ, ◌+◌, List, Option, Some, ap, arith, length, subst}
use Rattle.std.proofs.Common.{sym}
use Rattle.shared_volume.specs.Histories.{StandsFor}
use Rattle.shared_volume.specs.Lanes.{seals_at}
use Rattle.volume_cell.specs.Passes.{known}
use Rattle.volume_machine.specs.States.{State}
use Rattle.volume_machine.specs.declared.keys.Keys.{Keys}
use Rattle.shared_volume.specs.Ciphers.{Context, opened, sealed, sector_of}
use Rattle.block_server.specs.Leading.{AreSplit, passes_of}
use Rattle.block_server.specs.Leaving.{IsLeftOf, IsRoomFor}
use Rattle.block_server.specs.Passing.{AreBack, IsFirst, KnowsAll, account_of}
use Rattle.block_server.specs.Slots.{each_of}
use Rattle.block_server.specs.Workers.{AreReady}
use Rattle.block_server.specs.declared.worker.Worker.{Worker}
use Rattle.block_server.proofs.BegunLemmas.{back-all, first-begun, on-start, ready-all, shape-on}
use Rattle.block_server.proofs.BegunLemmas.{worked-all, written-whole}
use Rattle.block_server.proofs.RejoiningLemmas.{led-back, rejoined-name, rejoined-start}
use Rattle.block_server.proofs.RejoiningLemmas.{rejoined-whole, split-first, split-joined, split-led}
use Rattle.block_server.proofs.RejoiningLemmas.{split-name, split-same, split-start, told-some}
use Rattle.block_server.proofs.ServingLemmas.{closed-served, stays-so}
use Rattle.block_server.proofs.SlotLemmas.{same-some}
use Rattle.block_server.proofs.serving.serve_all.Goals as goal

pub engage-requires-clause-first : goal.engage-requires-clause-first
engage-requires-clause-first g c =
    first-begun (known c.args.sharing.first) c.requires.begun.0 c.requires.begun.1.first

pub engage-requires-clause-shape : goal.engage-requires-clause-shape
engage-requires-clause-shape g c =
    shape-on sector_of 0 c.args.sharing.keys c.args.sharing.shape
    (known c.args.sharing.first).start (c.requires.begun.1.on 0 c.requires.some)

pub work-led-requires-clause-shape : goal.work-led-requires-clause-shape
work-led-requires-clause-shape g c κs within =
    shape-on sector_of 0 c.args.sharing.keys c.args.sharing.shape
    (known c.args.sharing.first).start (c.requires.begun.1.on 0 c.requires.some)

pub work-led-requires-clause-ready : goal.work-led-requires-clause-ready
work-led-requires-clause-ready g c κs within =
    ready-all g.L.Link.state
    c.args.sharing.shared.cell c.args.sharing.shape c.args.links.items
    (known c.args.sharing.first).start c.engage.new.workers.items c.as_mut_slice.result.now
    c.as_mut_slice.ensures.value c.engage.ensures.ready

pub dismiss-requires-clause-name : goal.dismiss-requires-clause-name
dismiss-requires-clause-name g c =
    split-name c.args.sharing.shared.cell _ (known c.engage.new.first) (known c.work-led.new.first)
    c.work-led.result c.work-led.ensures.split ∙ c.engage.ensures.first.name

pub dismiss-requires-clause-joined : goal.dismiss-requires-clause-joined
dismiss-requires-clause-joined g c =
    split-joined c.args.sharing.shared.cell _ (known c.engage.new.first) (known c.work-led.new.first)
    c.work-led.result c.work-led.ensures.split ∙ c.engage.ensures.joined

pub dismiss-requires-clause-back : goal.dismiss-requires-clause-back
dismiss-requires-clause-back g c =
    let ready = c.engage.ensures.ready in
    let worked = worked-all
    g.L.Link.state c.args.sharing.shared.cell c.args.sharing.shape c.args.links.items
    c.engage.new.workers.items c.as_mut_slice.result.now c.work-led.new.workers
    c.as_mut_slice.ensures.value ready.count c.work-led.ensures.worked in
    let own = c.engage.new.workers.ok.0 in
    let whole = written-whole c.engage.new.workers.len c.engage.new.workers.items
    c.work-led.new.workers worked.count (omega (arith, own)) in
    let started = ap (λ k. k.start) c.requires.begun.1.first in
    subst (λ (ws : List (Option (Worker g.row.D.Denot g.row.L.Denot))).
    AreBack c.args.sharing.shared.cell ws) (sym whole)
    (back-all
    g.L.Link.state c.args.sharing.shared.cell c.args.sharing.shape c.args.links.items
    c.requires.begun.0 c.engage.new.workers.items c.work-led.new.workers
    (subst (λ (s : Option (State (Keys Context))). AreReady g.L.Link.state c.args.sharing.shared.cell
    (length c.args.links.items) c.args.sharing.shape s c.args.links.items
    c.engage.new.workers.items) started ready) worked)

pub dismiss-requires-clause-room : goal.dismiss-requires-clause-room
dismiss-requires-clause-room g c =
    let ready = c.engage.ensures.ready in
    let worked = worked-all
    g.L.Link.state c.args.sharing.shared.cell c.args.sharing.shape c.args.links.items
    c.engage.new.workers.items c.as_mut_slice.result.now c.work-led.new.workers
    c.as_mut_slice.ensures.value ready.count c.work-led.ensures.worked in
    let own = c.engage.new.workers.ok.0 in
    let whole = written-whole c.engage.new.workers.len c.engage.new.workers.items
    c.work-led.new.workers worked.count (omega (arith, own)) in
    subst (λ (n : ℕ). IsRoomFor n c.args.leavings)
    (sym (ap (λ l. length l) whole ∙ (worked.count ∙ ready.count))) c.requires.leavings

pub relieve-worker-requires-clause-name : goal.relieve-worker-requires-clause-name
relieve-worker-requires-clause-name g c =
    let many = ap (λ l. length l) c.as_mut_slice.ensures.value ∙ c.engage.ensures.ready.count in
    let split = subst (λ (n : ℕ). AreSplit c.args.sharing.shared.cell n (known c.engage.new.first)
    (known c.work-led.new.first) c.work-led.result) many c.work-led.ensures.split in
    (c.dismiss.ensures.first (length c.args.links.items + passes_of c.work-led.result)
    (split-first c.args.sharing.shared.cell (length c.args.links.items) (known c.engage.new.first)
    (known c.work-led.new.first) c.work-led.result split c.engage.ensures.first)).name

pub relieve-worker-requires-clause-back : goal.relieve-worker-requires-clause-back
relieve-worker-requires-clause-back g c = (
  _,
  led-back c.args.sharing.shared.cell _ (known c.engage.new.first).start c.work-led.result
      (split-led c.args.sharing.shared.cell _ (known c.engage.new.first) (known c.work-led.new.first)
      c.work-led.result c.work-led.ensures.split),
)

pub close-machine-requires-clause-first : goal.close-machine-requires-clause-first
close-machine-requires-clause-first g c =
    let many = ap (λ l. length l) c.as_mut_slice.ensures.value ∙ c.engage.ensures.ready.count in
    let split = subst (λ (n : ℕ). AreSplit c.args.sharing.shared.cell n (known c.engage.new.first)
    (known c.work-led.new.first) c.work-led.result) many c.work-led.ensures.split in
    rejoined-name (known c.dismiss.new.first) (known c.relieve-worker.new.first) c.work-led.result
    c.relieve-worker.ensures.rejoined
    ∙ (c.dismiss.ensures.first (length c.args.links.items + passes_of c.work-led.result)
    (split-first c.args.sharing.shared.cell (length c.args.links.items) (known c.engage.new.first)
    (known c.work-led.new.first) c.work-led.result split c.engage.ensures.first)).name

pub close-machine-requires-clause-whole : goal.close-machine-requires-clause-whole
close-machine-requires-clause-whole g c =
    let links = length c.args.links.items in
    let cell = c.args.sharing.shared.cell in
    let ready = c.engage.ensures.ready in
    let many = ap (λ l. length l) c.as_mut_slice.ensures.value ∙ ready.count in
    let split = subst (λ (n : ℕ). AreSplit cell n (known c.engage.new.first)
    (known c.work-led.new.first) c.work-led.result) many c.work-led.ensures.split in
    let worked = worked-all g.L.Link.state cell c.args.sharing.shape c.args.links.items
    c.engage.new.workers.items c.as_mut_slice.result.now c.work-led.new.workers
    c.as_mut_slice.ensures.value ready.count c.work-led.ensures.worked in
    let own = c.engage.new.workers.ok.0 in
    let whole = written-whole c.engage.new.workers.len c.engage.new.workers.items
    c.work-led.new.workers worked.count (omega (arith, own)) in
    rejoined-whole cell links (known c.engage.new.first).start (known c.dismiss.new.first)
    (known c.relieve-worker.new.first) c.work-led.result
    (split-led cell links (known c.engage.new.first) (known c.work-led.new.first) c.work-led.result split)
    c.relieve-worker.ensures.rejoined
    (subst (λ (n : ℕ). IsFirst (links + passes_of c.work-led.result) n (known c.dismiss.new.first))
    (ap (λ l. length l) whole ∙ (worked.count ∙ ready.count))
    (c.dismiss.ensures.first (links + passes_of c.work-led.result)
    (split-first cell links (known c.engage.new.first)
    (known c.work-led.new.first) c.work-led.result split c.engage.ensures.first)))

pub returns-clause-served : goal.returns-clause-served
returns-clause-served g c = λ volume begun.
    let links = length c.args.links.items in
    let cell = c.args.sharing.shared.cell in
    let ready = c.engage.ensures.ready in
    let many = ap (λ l. length l) c.as_mut_slice.ensures.value ∙ ready.count in
    let split = subst (λ (n : ℕ). AreSplit cell n (known c.engage.new.first)
    (known c.work-led.new.first) c.work-led.result) many c.work-led.ensures.split in
    let worked = worked-all g.L.Link.state cell c.args.sharing.shape c.args.links.items
    c.engage.new.workers.items c.as_mut_slice.result.now c.work-led.new.workers
    c.as_mut_slice.ensures.value ready.count c.work-led.ensures.worked in
    let own = c.engage.new.workers.ok.0 in
    let whole = written-whole c.engage.new.workers.len c.engage.new.workers.items
    c.work-led.new.workers worked.count (omega (arith, own)) in
    let started = ap (λ k. k.start) begun.first in
    let e = c.close-machine.ensures in
    let v = known c.close-machine.result.1 in
    let machine = c.close-machine.result.0 in
    let from : v.start ≡ Some volume =
    ap (λ k. k.start) e.pass
    ∙ (rejoined-start (known c.dismiss.new.first) (known c.relieve-worker.new.first) c.work-led.result
    c.relieve-worker.ensures.rejoined
    ∙ (c.dismiss.ensures.start
    ∙ (split-start cell links (known c.engage.new.first) (known c.work-led.new.first) c.work-led.result split
    ∙ (c.engage.ensures.start ∙ started)))) in
    let same : machine.opening.value ≡ volume =
    same-some machine.opening.value volume v.start e.start from in
    let stands : StandsFor (seals_at sealed opened volume)
    volume c.into_volume.result v.history =
    subst (λ now. StandsFor (seals_at sealed opened volume)
    volume now v.history) (sym c.into_volume.ensures)
    (subst (λ start. StandsFor (seals_at sealed opened start)
    start machine.volume v.history) same e.stands) in
    let first = c.dismiss.ensures.first (links + passes_of c.work-led.result)
    (split-first cell links (known c.engage.new.first)
    (known c.work-led.new.first) c.work-led.result split c.engage.ensures.first) in
    let serves = c.shared_volumes_serve_their_lanes.ensures.beside
    (seals_at sealed opened volume) volume c.into_volume.result v stands e.law in
    let last = begun.lanes in
    closed-served
    g.L.Link.state cell c.args.sharing.shape c.args.sharing.keys volume
    c.into_volume.result c.args.links.items c.engage.new.workers.items c.work-led.new.workers
    c.work-led.result (known c.dismiss.new.first) (known c.relieve-worker.new.first) v c.dismiss.new.leavings
    c.relieve-worker.result (record {
      shared = begun.shared;
      on = on-start sector_of 0 c.args.sharing.keys c.args.sharing.shape
          (known c.args.sharing.first).start volume started (begun.on 0 c.requires.some);
      lanes = begun.lanes;
      some = c.requires.some;
      ready = subst (λ (s : Option (State (Keys Context))). AreReady
          g.L.Link.state cell links
          c.args.sharing.shape s c.args.links.items c.engage.new.workers.items) started ready;
      worked = worked;
      name = first.name;
      calls = first.calls;
      joined = c.dismiss.ensures.joined ∙ ap (λ ws. each_of account_of ws) whole;
      knows = subst (λ (ws : List (Option (Worker g.row.D.Denot
          g.row.L.Denot))). KnowsAll (known c.dismiss.new.first) ws) whole
          c.dismiss.ensures.knows;
      left = subst (λ (ws : List (Option (Worker g.row.D.Denot
          g.row.L.Denot))). IsLeftOf ws c.dismiss.new.leavings) whole c.dismiss.ensures.left;
      has_led = split-same cell links (known c.engage.new.first).start (Some volume) c.work-led.result
          (c.engage.ensures.start ∙ started)
          (split-led cell links (known c.engage.new.first) (known c.work-led.new.first) c.work-led.result
          split);
      rejoined = c.relieve-worker.ensures.rejoined;
      told_is = c.relieve-worker.ensures.told;
      closed = e.pass;
      limit = c.requires.limit;
      begun = from;
      serves = serves;
      same = stays-so (seals_at sealed opened volume) volume c.into_volume.result v.history
          c.lanes_are_alone_beside.ensures.deeds stands;
      ended = λ answers end are all other. c.worker_ends_are_deeds.ensures.ended
          (seals_at sealed opened volume) volume c.into_volume.result v links answers end serves
          (omega (arith, last)) are all other;
      spent = λ answers are all. c.worker_ends_are_deeds.ensures.spent
          (seals_at sealed opened volume) volume c.into_volume.result v links answers serves
          (omega (arith, last)) are all;
    })

pub returns-clause-led : goal.returns-clause-led
returns-clause-led g c =
    told-some c.work-led.result c.relieve-worker.result _ c.relieve-worker.ensures.told
    c.work-led.ensures.led
