-- All that is known once every worker is back and the cell is closed.
use Rattle.std.proofs.Common.{◌≡◌, ◌≢◌, ◌+◌, ◌-◌, ◌^◌, ◌<◌, ◌≤◌, List, [], ◌++◌, map, IfSome, Option, Some}
use Rattle.std.proofs.Common.{length, refl, sym, ◌∙◌, ap, subst}
use Rattle.bays.specs.Stories.{LinkState}
use Rattle.lane_plan.specs.declared.plan.Shape.{Shape}
use Rattle.volume_laws.specs.BesideLanes.Lanes.{AreAloneBeside, AreMade, AreMetBeside, BeginsBeside, StaysSame}
use Rattle.volume_laws.specs.BesideLanes.Lanes.{works_over}
use Rattle.nbd_session.specs.declared.ending.SessionEnd.{SessionEnd}
use Rattle.reenc_worker.specs.Answers.{AreAnswers}
use Rattle.reenc_worker.specs.declared.ends.WorkAnswer.{WorkAnswer}
use Rattle.reenc_worker.specs.declared.ends.WorkerEnd.{WorkerEnd}
use Rattle.reenc_worker.specs.declared.ends.WorkerEnd.TheVariants.{Spent}
use Rattle.shared_volume.proofs.Beginning.{begins-so, some-reading}
use Rattle.shared_volume.specs.Ciphers.{Context, opened, sealed, sector_of}
use Rattle.shared_volume.specs.Histories.{MayBeShared, StandsFor}
use Rattle.shared_volume.specs.Lanes.{IsOn, Knowing, seals_at}
use Rattle.shared_volume.specs.Serving.{EndsBy, HasServedBeside, WentOn, calls_on}
use Rattle.shared_volume.specs.Working.{AreAnswered}
use Rattle.shared_volume.specs.Works.{VolumeCell}
use Rattle.volume_cell.specs.Knowing.{retired}
use Rattle.volume_cell.specs.Passes.{known}
use Rattle.volume_machine.specs.Deeds.{Deed}
use Rattle.volume_machine.specs.Readings.{Reading}
use Rattle.volume_machine.specs.Seals.{Seals}
use Rattle.volume_machine.specs.States.{State}
use Rattle.volume_machine.specs.declared.keys.Keys.{Keys}
use Rattle.hotzone.specs.ZoneEvents.Readings.{reading_of}
use Rattle.block_server.specs.Leading.{AreRejoined, HasLed, accounts_of, end_of}
use Rattle.block_server.specs.Leaving.{IsLeftOf}
use Rattle.block_server.specs.Passing.{KnowsAll, account_of}
use Rattle.block_server.specs.Serving
use Rattle.block_server.specs.Slots.{each_of}
use Rattle.block_server.specs.Workers.{AreReady, HaveWorked}
use Rattle.block_server.specs.declared.leading.Led.{Led}
use Rattle.block_server.specs.declared.leavings.Leavings.{Leavings}
use Rattle.block_server.specs.declared.link.Standing.{Standing}
use Rattle.block_server.specs.declared.worker.Worker.{Worker}
use Rattle.block_server.proofs.RejoiningLemmas.{rejoined-accounts, rejoined-calls, rejoined-knows}
use Rattle.block_server.proofs.RejoiningLemmas.{rejoined-led, rejoined-name}
use Rattle.block_server.proofs.WholeLemmas.{IsDone, all-served}

-- what never changes of a volume, by the law of lanes alone
pub stays-so : {K : Type 0} (seals : Seals) (start now : State K) (v : _)
    → ((reading : Reading) (start : State K) (seals : Seals) (deeds : List (Deed K))
    → BeginsBeside reading start → AreMade reading seals start deeds
    → AreMetBeside start seals deeds → AreAloneBeside reading start seals deeds)
    → StandsFor seals start now v → StaysSame start now
stays-so {K = K} seals start now v law stands =
    let (sizes, read) = some-reading start stands.shared in
    subst (λ (s : State K). StaysSame start s) stands.last
    (law (reading_of sizes) start seals stands.deeds (begins-so start stands.shared sizes read)
    (stands.made sizes read) stands.met).same

module _ {D P L : Type 0} (state : L → LinkState) (cell : VolumeCell D Context P) (shape : Shape)
    (keys : Keys Context) (start final : State (Keys Context)) (olds : List L)
    (before after : List (Option (Worker D L))) (led : Option (Led D))
    (first all v : Knowing Context) (leavings : Leavings L) (told : Option WorkerEnd)
  where
    -- The workers that were ready have worked; their passes were joined into the first one, and
    -- behind them that of the conversion's worker; and that one was closed.
    pub record IsClosed : Type 0 where
      pub shared : MayBeShared start
      pub on : IsOn sector_of 0 keys shape start
      pub lanes : length start.lanes ≡ length olds + 1
      pub some : 0 < length olds
      pub ready : AreReady state cell (length olds) shape (Some start) olds
          before
      pub worked : HaveWorked state cell (length olds) shape before after
      pub name : first.name ≡ []
      pub calls : first.calls ≡ []
      pub joined : first.joined ≡ each_of account_of after
      pub knows : KnowsAll first after
      pub left : IsLeftOf after leavings
      pub has_led : IfSome led (HasLed cell (length olds) (Some start))
      pub rejoined : AreRejoined first all led
      pub told_is : told ≡ end_of led
      pub closed : v ≡ retired all
      pub limit : cell.limit < 2 ^ 63 - 1
      pub begun : v.start ≡ Some start
      pub serves : HasServedBeside (seals_at sealed opened start) start final v
      pub same : StaysSame start final
      pub ended : (answers : List WorkAnswer) (end : WorkerEnd)
          → AreAnswered (length olds) (calls_on (length olds) v) answers → AreAnswers end answers
          → end ≢ Spent → EndsBy end serves.deeds
      pub spent : (answers : List WorkAnswer)
          → AreAnswered (length olds) (calls_on (length olds) v) answers
          → AreAnswers Spent answers → WentOn (works_over serves.deeds)

    pub closed-served : IsClosed
        → Serving.HasServedBeside state (seals_at sealed opened start) start final v cell.limit olds
        leavings.links.items (map (λ list. list.items) leavings.sessions.items)
        leavings.standings.items told
    closed-served is =
        let done : IsDone state cell (length olds) shape start final olds
        before after v led = record {
          shared = is.shared;
          atom = is.on.atom;
          blocks = is.on.blocks;
          lanes = is.lanes;
          some = is.some;
          count = refl;
          ready = is.ready;
          worked = is.worked;
          joined = record {
            name = ap (λ (k : Knowing Context). k.name) is.closed
                ∙ (rejoined-name first all led is.rejoined ∙ is.name);
            calls = ap (λ (k : Knowing Context). k.calls) is.closed
                ∙ (rejoined-calls first all led is.rejoined ∙ is.calls);
            joined = ap (λ (k : Knowing Context). k.joined) is.closed
                ∙ (rejoined-accounts cell (length olds) (Some start) first all led is.has_led is.rejoined
                ∙ ap (λ others. others ++ accounts_of led) is.joined);
          };
          knows = subst (λ (k : Knowing Context). KnowsAll k after) (sym is.closed)
              (rejoined-knows first all led after is.rejoined is.knows);
          begun = is.begun;
          serves = is.serves;
          same = is.same;
          limit = is.limit;
          has_led = is.has_led;
          knows_led = subst (λ (k : Knowing Context). IfSome led
              (λ led. length (known led.pass).history ≤ length k.history)) (sym is.closed)
              (rejoined-led first all led is.rejoined);
          ended = is.ended;
          spent = is.spent;
        } in
        subst (λ (end : Option WorkerEnd). Serving.HasServedBeside state
        (seals_at sealed opened start) start final v cell.limit olds leavings.links.items
        (map (λ list. list.items) leavings.sessions.items) leavings.standings.items end)
        (sym is.told_is)
        (subst (λ (links : List L). Serving.HasServedBeside state (seals_at sealed opened start) start
        final v cell.limit olds links (map (λ list. list.items) leavings.sessions.items)
        leavings.standings.items (end_of led)) (sym is.left.links)
        (subst (λ (ends : List (List SessionEnd)). Serving.HasServedBeside state
        (seals_at sealed opened start) start final v cell.limit olds
        (each_of (λ (w : Worker D L). w.link) after) ends leavings.standings.items (end_of led))
        (sym is.left.sessions)
        (subst (λ (standings : List Standing). Serving.HasServedBeside state
        (seals_at sealed opened start)
        start final v cell.limit olds (each_of (λ (w : Worker D L). w.link) after)
        (each_of (λ (w : Worker D L). w.ends.items) after) standings (end_of led))
        (sym is.left.standings)
        (all-served state cell (length olds) shape start final olds before
        after v led done))))
