-- What a volume holds whose conversion its worker alone leads, behind each of its steps and at its end.
use Rattle.std.specs.Prelude.{ℕ, ◌≡◌, ◌*◌, ◌<◌, ◌++◌, List, length, Some}
use Rattle.crash_laws.specs.HeaderAreas.Areas.{content_of}
use Rattle.crash_laws.specs.HeaderAreas.Headers.{Gives, Handed, Header, IsReader, Layout}
use Rattle.sector_disk.specs.DiskViews.Parts.{block_at, value_in}
use Rattle.plain_disk.specs.Plain.{settled_blocks}
use Rattle.reenc_worker.specs.declared.ends.WorkAnswer.{WorkAnswer}
use Rattle.reenc_worker.specs.declared.ends.WorkerEnd.TheVariants.{Finished}
use Rattle.sector_disk.specs.Cells.{Cell}
use Rattle.sector_disk.specs.Steps.{Told}
use Rattle.segment_map.specs.declared.Side.TheVariants.{New}
use Rattle.volume_laws.specs.Contents.{IsSealed}
use Rattle.volume_laws.specs.Converting.{StartsCertain, StartsUnder}
use Rattle.volume_laws.specs.Handing.{handed_over}
use Rattle.volume_laws.specs.Imaging.{AreDated, HasHeader, IsTaken}
use Rattle.volume_laws.specs.Standing.{Content, Stands}
use Rattle.volume_machine.specs.Deeds.{Deed, state_after}
use Rattle.volume_machine.specs.Pieces.{place_in}
use Rattle.volume_machine.specs.Readings.{Reading}
use Rattle.volume_machine.specs.Saved.{saved_hash}
use Rattle.volume_machine.specs.Seals.{Seals}
use Rattle.volume_machine.specs.States.{State}
use Rattle.volume_machine.specs.WorkSteps.{AreAllOn}
use Rattle.volume_machine.specs.Works.{converting}
use Rattle.volume_machine.specs.declared.keys.Keys.{Keys}
use Rattle.volume_laws.specs.WorkerRuns.Conversions.{HasConverted}
use Rattle.volume_laws.specs.WorkerRuns.Steps.{HasWorked}

-- ---- at its end
-- The disk's bytes have this header, whose map is the volume's. By it each block is on the new side,
-- and the atom in its place is what its value in the content is sealed to there.
pub record HoldsNew {K : Type 0} (reading : Reading) (seals : Seals) (header : Header (List ℕ))
    (state : State K) (content : List (List ℕ)) : Type 0 where
  pub now : List ℕ
  pub values : state.disk.values ≡ Some now
  pub long : length now ≡ state.disk.atoms * state.map.atom
  pub gives : Gives reading.reader
      (content_of state.disk.atoms (λ place. block_at state.map.atom now place)) header.means
  pub map : state.map ≡ reading.map_of header.means
  pub new : AreAllOn state.map New
  pub count : length content ≡ state.map.blocks
  pub blocks : (b : ℕ) → b < state.map.blocks → IsSealed state.map seals b (value_in content b)
      (block_at state.map.atom now (place_in state.map b))

-- The worker of a volume that stands for a content leads its conversion to its end: the volume holds
-- that content, sealed under the same keys.
abbrev pub ConversionsKeepContent : Type 0 → Type 0
ConversionsKeepContent C =
    (reading : Reading) (seals : Seals) (layout : Layout) (header : Header (List ℕ))
    (old new : State (Keys C)) (content : List (List ℕ)) (bytes : List ℕ)
    → IsReader reading.reader → reading.hash ≡ saved_hash
    → StartsUnder reading layout header converting old seals (settled_blocks content) bytes
    → (done : HasConverted reading seals layout header old new Finished)
    → HoldsNew reading seals done.leaves.header new content

-- ---- behind each step
-- Each image that is taken of a table stands for this content alone, by a header that the commit at
-- hand may have left.
abbrev pub StandsAlone : {K : Type 0} → Reading → State K → Seals → List (List ℕ) → Handed
    → List Cell → Type 0
StandsAlone reading state seals content handed cells =
    (image : List (List ℕ)) → IsTaken reading state handed cells image
    → (held : Content) × Stands reading state seals (value_in image) held
    × ((b : ℕ) → b < state.map.blocks → held b ≡ value_in content b)
    × HasHeader reading state (value_in image)

-- Wherever steps of the worker alone stop, whatever they ended with, each image that is taken there of
-- what the disk may hold stands for the content for which the volume stood at the start.
abbrev pub StopsKeepContent : Type 0 → Type 0
StopsKeepContent C =
    (reading : Reading) (seals : Seals) (layout : Layout) (header : Header (List ℕ))
    (old new : State (Keys C)) (content : List (List ℕ)) (bytes : List ℕ) (handed : Handed)
    (answers : List WorkAnswer) → IsReader reading.reader → reading.hash ≡ saved_hash
    → StartsUnder reading layout header converting old seals (settled_blocks content) bytes
    → StartsCertain layout header old seals (settled_blocks content) → AreDated reading old handed
    → (worked : HasWorked reading seals old new answers) → (earlier later : List (Deed (Keys C)))
    → worked.deeds ≡ earlier ++ later → (told : Told)
    → (state_after old earlier).disk.told ≡ Some told
    → StandsAlone reading (state_after old earlier) seals content (handed_over old handed earlier)
    told.now
