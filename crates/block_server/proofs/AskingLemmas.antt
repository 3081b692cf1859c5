-- A link that was asked once.
use Rattle.std.proofs.Common.{◌≡◌, ◌∙◌, ◌⊎◌, ℕ, List, [], ◌∷◌, ◌++◌, Some, ap, refl, sym, subst}
use Rattle.std.proofs.Common.{append-nil}
use Rattle.io_edge.specs.Intake.{Intake}
use Rattle.io_edge.specs.Outlet.{Outlet}
use Rattle.bays.specs.Stories.{Script, Handed, LinkState, Story, Begins, TakesBack}
use Rattle.nbd_stream.specs.declared.ending.Ending.TheVariants.{PortSpent, WriteFault}
use Rattle.nbd_session.specs.declared.ending.SessionEnd.{SessionEnd}
use Rattle.nbd_hand.specs.declared.export.Export.{Export}
use Rattle.nbd_stream.specs.Moments.{Traffic, moment}
use Rattle.nbd_stream.specs.Putting.{IsOut}
use Rattle.nbd_session.specs.Session.{Log, IsSession}
use Rattle.nbd_session.specs.Turns.{exchanges_of}
use Rattle.block_server.specs.Sessions.{Played, AreSessions, Goes, Plays, numbered}
use Rattle.block_server.specs.Sessions.{tagged, tagged_of}

pub goes_none : (old new : LinkState) →
    ((story : Story) → old.story ≡ Some story → new.story ≡ Some story) → Goes old new []
unfolding Plays
goes_none old new same = λ story is. (story, same story is, refl)

-- a source and a sink that tell so are seen as they were handed back
moment_told : (source : Intake) (sink : Outlet) (given left had : List ℕ) (taken put : ℕ) →
    source.given ≡ Some given → source.left ≡ Some left → sink.had ≡ Some had →
    moment source sink taken put
    ≡ moment (record { given = Some given; left = Some left; faults = source.faults })
    (record { had = Some had; held_back = sink.held_back; faults = sink.faults }) taken put
moment_told source sink given left had taken put given_is left_is had_is =
    ap (λ g. moment (record { given = g; left = source.left; faults = source.faults }) sink taken
    put) given_is
    ∙ ap (λ l. moment (record { given = Some given; left = l; faults = source.faults }) sink taken
    put) left_is
    ∙ ap (λ h. moment (record { given = Some given; left = Some left; faults = source.faults })
    (record { had = h; held_back = sink.held_back; faults = sink.faults }) taken put) had_is

-- a connection was taken, served and handed back
pub goes_one : (k : ℕ) (end : SessionEnd) (log : Log) (old mid new : LinkState)
    (source source' : Intake) (sink sink' : Outlet)
    (taken whole front : List ℕ) →
    ((story : Story) → old.story ≡ Some story → (script : Script) × (rest : List Script)
    × (story.ahead ≡ script ∷ rest)
    × (mid.story ≡ Some (record { ahead = rest; handed = story.handed }))
    × Begins source sink script) →
    TakesBack source' sink' mid new →
    Traffic (moment source sink 0 0) (moment source' sink' end.taken end.put) taken whole front →
    Goes old new (record {
      link = k;
      end = end;
      log = log;
      before = moment source sink 0 0;
      after =
          moment source' sink' end.taken end.put;
    } ∷ [])
unfolding Plays
goes_one k end log old mid new source source' sink sink' taken whole front gives takes_back
    traffic = λ story is.
    let next = gives story is in
    let begins = next.4 in
    let given = traffic.took.given [] (ap (λ (i : Intake). i.given) begins.source_is) in
    let left = traffic.took.left next.0.input (ap (λ (i : Intake). i.left) begins.source_is) in
    let had = traffic.sent [] (ap (λ (o : Outlet). o.had) begins.sink_is) in
    let handed : Handed = record {
      given = [] ++ taken;
      left = left.0;
      had = [] ++ (whole ++ front);
      held_back = sink'.held_back;
      in_faults = source'.faults;
      out_faults = sink'.faults;
    } in
    let told : Story = record { ahead = next.1; handed = story.handed ++ handed ∷ [] } in (
      told,
      takes_back (record { ahead = next.1; handed = story.handed }) next.3 handed.given handed.left
          handed.had given left.2 had,
      (
        next.0,
        next.1,
        handed,
        next.2,
        ap (λ i. moment i sink 0 0) begins.source_is
            ∙ ap (λ o. moment (record {
              given = Some [];
              left = Some next.0.input;
              faults =
                  next.0.in_faults;
            }) o 0 0) begins.sink_is,
        moment_told source' sink' handed.given handed.left handed.had end.taken end.put given left.2
            had,
        refl,
      ),
    )

numbered_same : (export : Export) (n : ℕ) → n ≡ export.number → numbered export n ≡ export
numbered_same export n is = ap (λ m. numbered export m) is

pub sessions_one : (export : Export) (may_spend : Type 0) (one : Played) →
    IsSession export one.end one.before one.after one.log →
    (one.end.ending ≡ WriteFault) ⊎ IsOut one.after.sink →
    (one.end.ending ≡ PortSpent → may_spend) → AreSessions export may_spend (one ∷ [])
unfolding AreSessions
sessions_one export may_spend one session out spent = (
  record {
    session = subst (λ (e : Export). IsSession e one.end one.before one.after one.log)
        (sym (numbered_same export one.end.number session.number)) session;
    out = out;
    spent = spent;
  },
  tt,
)

pub sessions_none : (export : Export) (may_spend : Type 0) → AreSessions export may_spend []
unfolding AreSessions
sessions_none export may_spend = tt

-- where the port can't be spent, no session ended by that
pub sessions_unspent : (export : Export) {may_spend : Type 0} (never : may_spend → ⊥)
    (all : List Played) →
    AreSessions export may_spend all → AreSessions export ⊥ all
unfolding AreSessions
sessions_unspent export never [] sessions = tt
sessions_unspent export never (one ∷ rest) sessions = (
  record {
    session = sessions.0.session;
    out = sessions.0.out;
    spent = λ is.
        never (sessions.0.spent is);
  },
  sessions_unspent export never rest sessions.1,
)

pub tagged_of-none : tagged_of [] ≡ []
unfolding tagged_of
tagged_of-none = refl

pub tagged_of-one : (one : Played) →
    tagged_of (one ∷ []) ≡ tagged one.end.number (exchanges_of one.log.turns)
unfolding tagged_of
tagged_of-one one = append-nil (tagged one.end.number (exchanges_of one.log.turns))
