-- What the clients of the demonstration are answered, and what they leave.
use Rattle.std.specs.Prelude.{ℕ, ◌≡◌, ◌<◌, ◌/◌, List, [], ◌∷◌, map, replicate}
use Rattle.base_terms.specs.Blocks.{lengths}
use Rattle.plain_disk.specs.declared.operation.Op.{Op}
use Rattle.plain_disk.specs.declared.operation.Op.TheVariants.{Read, Write, Zeroes, Flush}
use Rattle.plain_disk.specs.declared.operation.Reply.{Reply}
use Rattle.plain_disk.specs.declared.operation.Reply.TheVariants.{Content, Done}
use Rattle.plain_disk.specs.Plain.{Block, Exchange, Legal}
use Rattle.volume_machine.specs.Answers.{Tagged, of_session, untagged}
use Rattle.demo_clients.specs.Contents.{demo_block, demo_content}
use Rattle.demo_clients.specs.Operations.{AllServed, demo_operations, ops_of}

-- what a client's operation is answered: a read with its block, and any other that it is done
abbrev pub demo_reply : (seed : ℕ) → Op → Reply
demo_reply seed (Read offset len) = Content (demo_block seed (offset / 512))
demo_reply seed (Write offset body fua) = Done
demo_reply seed (Zeroes offset len fua) = Done
demo_reply seed Flush = Done

-- what some exchanges were answered
unfoldable pub replies_in : List Exchange → List Reply
replies_in exchanges = map (λ exchange. exchange.reply) exchanges

-- each operation of a history is one of the first `k` sessions'
unfoldable pub AreOfClients : (k : ℕ) → List Tagged → Type 0
AreOfClients k [] = Unit {0}
AreOfClients k (one ∷ history) = (one.session < k) × AreOfClients k history

-- A history on `m` blocks of 512 bytes. Each of `k` sessions, and no other, asked in it just what a
-- client asks, in order, and no operation was answered an error.
pub record IsDemonstration (seed m k : ℕ) (blocks : List Block) (history : List Tagged)
    (left : List Block) : Type 0 where
  pub even : lengths (map (λ block. block.newest) blocks) ≡ replicate m 512
  pub legal : Legal 512 blocks (untagged history) left
  pub clients : AreOfClients k history
  pub asked : (i : ℕ) → i < k → ops_of (of_session i history) ≡ demo_operations seed m k i
  pub served : (i : ℕ) → i < k → AllServed (of_session i history)

-- The blocks hold in the end what the clients wrote, and the reads of each session were answered
-- with that.
pub record LeavesContent (seed m k : ℕ) (history : List Tagged) (left : List Block) : Type 0 where
  pub newest : map (λ block. block.newest) left ≡ demo_content seed m
  pub replies : (i : ℕ) → i < k →
      replies_in (of_session i history) ≡ map (demo_reply seed) (demo_operations seed m k i)

abbrev pub HistoriesLeaveTheContent : Type 0
HistoriesLeaveTheContent =
    (seed m k : ℕ) (blocks : List Block) (history : List Tagged) (left : List Block) →
    0 < k → IsDemonstration seed m k blocks history left → LeavesContent seed m k history left
