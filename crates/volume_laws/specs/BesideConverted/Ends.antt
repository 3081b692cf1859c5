-- What a conversion that is at its end leaves of a volume that clients used meanwhile.
use Rattle.std.specs.Prelude.{ℕ, ◌≡◌, ◌*◌, ◌<◌, false, List, length, None, Some}
use Rattle.volume_laws.specs.BesideConversions.Ends.{IsConvertedBeside}
use Rattle.crash_laws.specs.HeaderAreas.Areas.{content_of}
use Rattle.crash_laws.specs.HeaderAreas.Headers.{Gives, Header, IsReader, Layout}
use Rattle.sector_disk.specs.DiskViews.Parts.{block_at}
use Rattle.plain_disk.specs.Plain.{Block, Exchange, Legal}
use Rattle.segment_map.specs.declared.Side.TheVariants.{New}
use Rattle.volume_laws.specs.Contents.{IsSealed, block_in}
use Rattle.volume_laws.specs.Converting.{StartsUnder}
use Rattle.volume_machine.specs.Answers.{AreExchanges}
use Rattle.volume_machine.specs.Deeds.{AreDeeds, Deed, answered_over, state_after}
use Rattle.volume_machine.specs.Pieces.{place_in}
use Rattle.volume_machine.specs.Readings.{Reading}
use Rattle.volume_machine.specs.Runs.{no_plain}
use Rattle.volume_machine.specs.Saved.{saved_hash}
use Rattle.volume_machine.specs.Seals.{Seals}
use Rattle.volume_machine.specs.States.{IsClient, State, open_at}
use Rattle.volume_machine.specs.WorkSteps.{AreAllOn}
use Rattle.volume_machine.specs.Works.{Progress}
use Rattle.volume_machine.specs.declared.keys.Keys.{Keys}

-- The disk's bytes have this header, whose map is the volume's. By it each block is on the new side, and
-- the atom in its place is what the newest value of the plain disk's block is sealed to there.
pub record HoldsNewest {K : Type 0} (reading : Reading) (seals : Seals) (header : Header (List ℕ))
    (state : State K) (blocks : List Block) : Type 0 where
  pub now : List ℕ
  pub values : state.disk.values ≡ Some now
  pub long : length now ≡ state.disk.atoms * state.map.atom
  pub gives : Gives reading.reader
      (content_of state.disk.atoms (λ place. block_at state.map.atom now place)) header.means
  pub map : state.map ≡ reading.map_of header.means
  pub new : AreAllOn state.map New
  pub each : (b : ℕ) → b < state.map.blocks → IsSealed state.map seals b (block_in blocks b).newest
      (block_at state.map.atom now (place_in state.map b))

-- A conversion that begins on a disk that stands for these blocks comes to its end beside clients' events.
-- Where nothing is broken then, and no operation of a client is under way, the disk holds the newest
-- values of the plain disk that was asked the clients' operations.
abbrev pub ConvertedVolumesHoldNewest : Type 0 → Type 0
ConvertedVolumesHoldNewest C =
    (reading : Reading) (seals : Seals) (layout : Layout) (header : Header (List ℕ))
    (progress : Progress) (start : State (Keys C)) (blocks : List Block) (bytes : List ℕ)
    (deeds : List (Deed (Keys C))) (exchanges : List Exchange) → IsReader reading.reader
    → reading.hash ≡ saved_hash
    → StartsUnder reading layout header progress start seals blocks bytes
    → AreDeeds reading seals start deeds
    → AreExchanges (answered_over seals start no_plain deeds) exchanges
    → (state_after start deeds).broken ≡ false
    → ((lane : ℕ) → IsClient start lane → open_at (state_after start deeds).lanes lane ≡ None)
    → (done : IsConvertedBeside reading layout header start (state_after start deeds))
    → (now : List Block) × Legal start.map.atom blocks exchanges now
    × HoldsNewest reading seals done.header (state_after start deeds) now
