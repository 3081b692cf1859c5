-- What the clients of a demonstration wrote, and what they read, by all that is known of it.
use Rattle.std.specs.Prelude.{ℕ, ◌≡◌, ◌<◌, ◌≤◌, List, [], ◌∷◌, length, map, replicate, Some}
use Rattle.std.specs.Prelude.{slice_index_or}
use Rattle.base_terms.specs.Blocks.{joined, lengths}
use Rattle.bays.specs.Memory.{Line}
use Rattle.io_edge.specs.Memory.{Input, Output}
use Rattle.nbd_hand.specs.declared.export.Export.{Export}
use Rattle.nbd_session.specs.declared.ending.SessionEnd.{SessionEnd}
use Rattle.nbd_session.specs.Replies.{data_of}
use Rattle.nbd_session.specs.Session.{IsSession, Log}
use Rattle.nbd_session.specs.Turns.{exchanges_of}
use Rattle.nbd_stream.specs.Endings.{IsByInput}
use Rattle.nbd_stream.specs.Moments.{Moment}
use Rattle.plain_disk.specs.Plain.{Block, Exchange, Legal}
use Rattle.volume_machine.specs.Answers.{Tagged, of_session, untagged}
use Rattle.demo_clients.specs.Asking.{AreGranted}
use Rattle.demo_clients.specs.Contents.{demo_content}
use Rattle.demo_clients.specs.Histories.{AreOfClients, replies_in}
use Rattle.demo_clients.specs.Inputs.{demo_input}
use Rattle.demo_clients.specs.Operations.{AllServed, demo_operations, ops_of}
use Rattle.demo_clients.specs.Replies.{AreReadBack}

-- the data of the reads among some exchanges, one behind the other
abbrev pub content_in : List Exchange → List ℕ
content_in exchanges = joined (map data_of (replies_in exchanges))

-- session `i` of `k`, which have `m` blocks among them: it gave its client's input, its sink was put
-- what its link was handed back, and its input ended it
pub record IsClient (seed m k i : ℕ) (line : Line) (log : Log) : Type 0 where
  pub export : Export
  pub end : SessionEnd
  pub old : Moment
  pub new : Moment
  pub session : IsSession export end old new log
  pub input : old.source.left ≡ Some (demo_input seed m k i)
  pub none : old.sink.had ≡ Some []
  pub ended : IsByInput end.ending
  pub put : (connection : Input × Output) → line.handed ≡ connection ∷ [] →
      new.sink.had ≡ Some connection.1.had

-- A history on `m` blocks of 512 bytes that has of `k` sessions just what they submitted, and nothing
-- else. Each is a client's, over a link of its own; and from what the links were handed back this
-- content was read back.
pub record IsDemonstrated (seed m k : ℕ) (blocks : List Block) (history : List Tagged)
    (left : List Block) (lines : List Line) (logs : ℕ → Log) (content : List ℕ) : Type 0 where
  pub even : lengths (map (λ block. block.newest) blocks) ≡ replicate m 512
  pub legal : Legal 512 blocks (untagged history) left
  pub clients : AreOfClients k history
  pub submitted : (i : ℕ) → i < k → of_session i history ≡ exchanges_of (logs i).turns
  pub links : length lines ≡ k
  pub each : (i : ℕ) (d : Line) → i < k →
      IsClient seed m k i (slice_index_or lines i d) (logs i)
  pub read : AreReadBack seed m k 0 lines content

-- Each session asked just what its client asks, and nothing was answered an error. The blocks hold in
-- the end what the clients wrote, and this is what they read.
pub record IsTold (seed m k : ℕ) (history : List Tagged) (left : List Block) (content : List ℕ)
    : Type 0 where
  pub asked : (i : ℕ) → i < k → ops_of (of_session i history) ≡ demo_operations seed m k i
  pub served : (i : ℕ) → i < k → AllServed (of_session i history)
  pub newest : map (λ block. block.newest) left ≡ demo_content seed m
  pub content_is : content ≡ joined (demo_content seed m)

abbrev pub DemonstrationsAreTold : Type 0
DemonstrationsAreTold =
    (seed m k : ℕ) (blocks : List Block) (history : List Tagged) (left : List Block)
    (lines : List Line) (logs : ℕ → Log) (content : List ℕ) → m ≤ 16384 → 0 < k →
    IsDemonstrated seed m k blocks history left lines logs content →
    IsTold seed m k history left content

-- Links that were handed back one connection each, of a client's session in which nothing was answered
-- an error, are read back.
abbrev pub GrantedIsReadBack : Type 0
GrantedIsReadBack =
    (seed m k : ℕ) (lines : List Line) (logs : ℕ → Log) → m ≤ 16384 → length lines ≡ k →
    ((i : ℕ) (d : Line) → i < k → IsClient seed m k i (slice_index_or lines i d) (logs i)) →
    ((i : ℕ) (d : Line) → i < k → (connection : Input × Output)
    × ((slice_index_or lines i d).handed ≡ connection ∷ [])) →
    ((i : ℕ) → i < k → AreGranted (logs i).turns) →
    (content : List ℕ) × AreReadBack seed m k 0 lines content
