-- Sessions that were served, and how links tell of them.
use Rattle.std.specs.Prelude.{ℕ, ◌≡◌, ◌+◌, ◌<◌, ◌⊎◌, ◌==◌, if◌then◌else◌, List, [], ◌∷◌}
use Rattle.std.specs.Prelude.{map}
use Rattle.std.specs.Prelude.{◌++◌, Option, Some, None}
use Rattle.bays.specs.Stories.{Script, Handed, LinkState, Story}
use Rattle.nbd_stream.specs.declared.ending.Ending.TheVariants.{PortSpent, WriteFault}
use Rattle.nbd_session.specs.declared.ending.SessionEnd.{SessionEnd}
use Rattle.nbd_hand.specs.declared.export.Export.{Export}
use Rattle.nbd_stream.specs.Moments.{Moment, moment}
use Rattle.nbd_stream.specs.Putting.{IsOut}
use Rattle.nbd_session.specs.Session.{Log, IsSession}
use Rattle.nbd_session.specs.Turns.{exchanges_of}
use Rattle.plain_disk.specs.Plain.{Exchange}
use Rattle.volume_machine.specs.Answers.{Tagged, of_session}

-- a session that was served: the link that its connection came from, how it ended, its log, and the
-- moments of its source and sink before and after
pub record Played : Type 0 where
  pub link : ℕ
  pub end : SessionEnd
  pub log : Log
  pub before : Moment
  pub after : Moment

-- the export that a session was served
abbrev pub numbered : Export → ℕ → Export
numbered export number = record { number = number; size = export.size; atom = export.atom }

-- It is a session. All that it put has gone out, unless its sink failed; and it ended since the port
-- is spent only where the port may be.
pub record IsPlayed (export : Export) (may_spend : Type 0) (one : Played) : Type 0 where
  pub session : IsSession (numbered export one.end.number) one.end one.before one.after one.log
  pub out : (one.end.ending ≡ WriteFault) ⊎ IsOut one.after.sink
  pub spent : one.end.ending ≡ PortSpent → may_spend

-- each of them is a session
unfoldable pub AreSessions : Export → Type 0 → List Played → Type 0
AreSessions export may_spend [] = Unit {0}
AreSessions export may_spend (played ∷ rest) = IsPlayed export may_spend played
    × AreSessions export may_spend rest

-- the operations that were submitted, session after session
unfoldable pub operations_of : List Played → List Exchange
operations_of [] = []
operations_of (played ∷ rest) = exchanges_of played.log.turns ++ operations_of rest

-- the same, each with the number of its session
abbrev pub tagged : ℕ → List Exchange → List Tagged
tagged number exchanges =
    map (λ exchange. record { session = number; exchange = exchange }) exchanges

unfoldable pub tagged_of : List Played → List Tagged
tagged_of [] = []
tagged_of (played ∷ rest) =
    tagged played.end.number (exchanges_of played.log.turns) ++ tagged_of rest

-- a history has of each session just the operations that it submitted, each once and in order
unfoldable pub HasEach : List Tagged → List Played → Type 0
HasEach history [] = Unit {0}
HasEach history (played ∷ rest) =
    (of_session played.end.number history ≡ exchanges_of played.log.turns) × HasEach history rest

-- a session of this number was served
unfoldable pub HasNumber : ℕ → List Played → Type 0
HasNumber number [] = ⊥
HasNumber number (played ∷ rest) = (played.end.number ≡ number) ⊎ HasNumber number rest

-- each of its operations is some session's
unfoldable pub IsOfSessions : List Played → List Tagged → Type 0
IsOfSessions played [] = Unit {0}
IsOfSessions played (one ∷ history) = HasNumber one.session played × IsOfSessions played history

-- the sessions of one link
unfoldable pub of_link : ℕ → List Played → List Played
of_link k [] = []
of_link k (played ∷ rest) = if played.link == k then played ∷ of_link k rest else of_link k rest

-- each session is one of these links'
unfoldable pub AreOfLinks : ℕ → List Played → Type 0
AreOfLinks links [] = Unit {0}
AreOfLinks links (played ∷ rest) = (played.link < links) × AreOfLinks links rest

-- a connection as it begins, and as it was handed back
abbrev pub beginning : Script → Moment
beginning script =
    moment (record { given = Some []; left = Some script.input; faults = script.in_faults })
    (record { had = Some []; held_back = []; faults = script.out_faults }) 0 0

abbrev pub handing_back : Handed → SessionEnd → Moment
handing_back handed end =
    moment (record {
      given = Some handed.given;
      left = Some handed.left;
      faults =
          handed.in_faults;
    })
    (record { had = Some handed.had; held_back = handed.held_back; faults = handed.out_faults })
    end.taken end.put

-- A link that told a story tells the next one: each session took the first connection ahead, and it
-- was handed back as the session left it.
unfoldable pub Plays : Story → Story → List Played → Type 0
Plays old new [] = new ≡ old
Plays old new (played ∷ rest) =
    (script : Script) × (others : List Script) × (handed : Handed) × (old.ahead ≡ script ∷ others)
    × (played.before ≡ beginning script) × (played.after ≡ handing_back handed played.end)
    × Plays (record { ahead = others; handed = old.handed ++ handed ∷ [] }) new rest

-- where a link tells its story, it goes on by these sessions
abbrev pub Goes : LinkState → LinkState → List Played → Type 0
Goes old new played = (story : Story) → old.story ≡ Some story → (next : Story)
    × (new.story ≡ Some next) × Plays story next played

-- the numbers of the sessions are `number`, `number + step` and so on
unfoldable pub AreNumbered : ℕ → ℕ → List Played → Type 0
AreNumbered step number [] = Unit {0}
AreNumbered step number (played ∷ rest) = (played.end.number ≡ number)
    × AreNumbered step (number + step) rest

-- each session is of this link
unfoldable pub AreOfLink : ℕ → List Played → Type 0
AreOfLink k [] = Unit {0}
AreOfLink k (played ∷ rest) = (played.link ≡ k) × AreOfLink k rest

-- A port was left without an answer by no other session than before, or by the first one of these
-- that was.
abbrev pub LeavesBy : List Played → Option ℕ → Option ℕ → Type 0
LeavesBy played was is =
    (is ≡ was) ⊎ ((was ≡ None) × ((number : ℕ) × (is ≡ Some number) × HasNumber number played))
