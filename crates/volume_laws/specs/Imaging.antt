-- What the images stand for that a stop leaves of a volume while it is converted: each by its own
-- header.
use Rattle.std.specs.Prelude.{ℕ, ◌≡◌, ◌<◌, false, List, Some, length, replicate}
use Rattle.base_terms.specs.Blocks.{lengths}
use Rattle.crash_laws.specs.HeaderAreas.Areas.{Image, content_of}
use Rattle.crash_laws.specs.HeaderAreas.Commits.{IsDated, MayBe}
use Rattle.crash_laws.specs.HeaderAreas.Headers.{Gives, Handed, Header, IsGenuine, IsReader, Layout}
use Rattle.sector_disk.specs.DiskViews.Parts.{block_at, value_in}
use Rattle.crash_laws.specs.HotZones.Zones.{checksum, from_of, to_of, stage_of}
use Rattle.plain_disk.specs.Plain.{Block, Exchange, Legal}
use Rattle.sector_disk.specs.Cells.{Cell, IsImage}
use Rattle.sector_disk.specs.Steps.{Told}
use Rattle.volume_laws.specs.Contents.{IsAllowedAt}
use Rattle.volume_laws.specs.Converting.{StartsCertain, StartsUnder}
use Rattle.volume_laws.specs.Handing.{handed_over}
use Rattle.volume_laws.specs.Standing.{Content, Stands, StandsForNow}
use Rattle.volume_machine.specs.Answers.{AreExchanges}
use Rattle.volume_machine.specs.Deeds.{AreDeeds, Deed, answered_over, plain_over, state_after}
use Rattle.volume_machine.specs.Edges.{InPlain}
use Rattle.volume_machine.specs.Readings.{Reading}
use Rattle.volume_machine.specs.Runs.{no_plain}
use Rattle.volume_machine.specs.Saved.{saved_hash}
use Rattle.volume_machine.specs.Seals.{Seals}
use Rattle.volume_machine.specs.States.{State}
use Rattle.volume_machine.specs.Works.{Progress, Work}

-- the texts that the copies' places were handed mean the header that the commit at hand leads from,
-- an older one, or the next one
abbrev pub AreDated : {K : Type 0} → Reading → State K → Handed → Type 0
AreDated reading state handed = (work : Work) → state.work ≡ Some work
    → IsDated reading.reader (from_of work.zone work.phase) (to_of work.zone work.phase)
    (stage_of work.phase) handed

-- digests that are saved are read as those of SHA-256
abbrev pub ReadsDigests : {K : Type 0} → Reading → State K → Type 0
ReadsDigests reading state = (work : Work) → state.work ≡ Some work
    → work.zone.resilience ≡ checksum → reading.hash ≡ saved_hash

-- an image of a table, of whole atoms, in which no copy is torn or hidden
pub record IsTaken {K : Type 0} (reading : Reading) (state : State K) (handed : Handed)
    (cells : List Cell) (image : List (List ℕ)) : Type 0 where
  pub is : IsImage cells image
  pub whole : lengths image ≡ replicate (length cells) state.map.atom
  pub genuine : (work : Work) → state.work ≡ Some work → IsGenuine reading.reader
      (reading.reader.size (from_of work.zone work.phase).means) handed
      (content_of (length cells) (value_in image))

-- a header that these bytes give is one that the commit at hand may have left: the one that it leads
-- from, before its first write that alone, or the next one, behind its first sync that alone
abbrev pub HasHeader : {K : Type 0} → Reading → State K → Image → Type 0
HasHeader reading state image = (work : Work) → state.work ≡ Some work → (header : List ℕ)
    → Gives reading.reader (content_of state.disk.atoms image) header
    → MayBe (stage_of work.phase) (from_of work.zone work.phase).means
    (to_of work.zone work.phase).means header

-- each such image stands for an allowed content, by a header that the commit at hand may have left
abbrev pub StandsTaken : {K : Type 0} → Reading → State K → Seals → (ℕ → InPlain) → List Block
    → Handed → List Cell → Type 0
StandsTaken reading state seals plain blocks handed cells =
    (image : List (List ℕ)) → IsTaken reading state handed cells image
    → (content : Content) × Stands reading state seals (value_in image) content
    × ((b : ℕ) → b < state.map.blocks → IsAllowedAt state plain blocks b (content b))
    × HasHeader reading state (value_in image)

-- While nothing has failed the current bytes stand, by their own header, for what each block holds.
abbrev pub NowBeside : {K : Type 0} → Reading → State K → Seals → Type 0
NowBeside {K} reading start seals =
    (layout : Layout) (header : Header (List ℕ)) (progress : Progress) (blocks : List Block)
    (bytes : List ℕ) (deeds : List (Deed K)) (exchanges : List Exchange)
    → IsReader reading.reader
    → StartsUnder reading layout header progress start seals blocks bytes
    → AreDeeds reading seals start deeds
    → AreExchanges (answered_over seals start no_plain deeds) exchanges
    → (state_after start deeds).broken ≡ false
    → (now : List ℕ) → (state_after start deeds).disk.values ≡ Some now
    → (work : Work) → (state_after start deeds).work ≡ Some work
    → ReadsDigests reading (state_after start deeds)
    → (left : List Block) × Legal start.map.atom blocks exchanges left
    × StandsForNow reading (state_after start deeds) seals (plain_over seals start no_plain deeds)
    left now
    × HasHeader reading (state_after start deeds)
    (λ place. block_at (state_after start deeds).map.atom now place)

-- Wherever a run of deeds stops: the operations answered by then are legal, and each image that is
-- taken there of what the disk may hold stands for a content that they allow.
abbrev pub StopsBeside : {K : Type 0} → Reading → State K → Seals → Type 0
StopsBeside {K} reading start seals =
    (layout : Layout) (header : Header (List ℕ)) (progress : Progress) (blocks : List Block)
    (bytes : List ℕ) (deeds : List (Deed K)) (exchanges : List Exchange) (handed : Handed)
    → IsReader reading.reader
    → StartsUnder reading layout header progress start seals blocks bytes
    → StartsCertain layout header start seals blocks → AreDated reading start handed
    → AreDeeds reading seals start deeds
    → AreExchanges (answered_over seals start no_plain deeds) exchanges
    → (told : Told) → (state_after start deeds).disk.told ≡ Some told
    → (work : Work) → (state_after start deeds).work ≡ Some work
    → ReadsDigests reading (state_after start deeds)
    → (left : List Block) × Legal start.map.atom blocks exchanges left
    × StandsTaken reading (state_after start deeds) seals (plain_over seals start no_plain deeds) left
    (handed_over start handed deeds) told.now
