-- What the end of a conversion leaves, under the passphrase, of a volume that clients used meanwhile.
use Rattle.std.specs.Prelude.{ℕ, ◌≡◌, false, List, map, None, Some}
use Rattle.volume_laws.specs.BesideConversions.Ends.{IsConvertedBeside}
use Rattle.base_terms.specs.declared.disk_sizes.Sizes.{Sizes}
use Rattle.hotzone.specs.Sites.{IsSaved}
use Rattle.luks_store.specs.declared.loaded.Stored.{Stored}
use Rattle.plain_disk.specs.Plain.{Block, Exchange, Legal, settled_blocks}
use Rattle.reenc_recovery.specs.Images.{StandsFor}
use Rattle.reenc_recovery.specs.Placings.{RestsIn}
use Rattle.recovery_laws.specs.Resumed.Chaining.{AreDisks}
use Rattle.recovery_laws.specs.Resumed.Starts.{BeginsBehind, layout_on, volume_seals}
use Rattle.sector_disk.specs.Devices.{Device}
use Rattle.volume_machine.specs.Answers.{AreExchanges}
use Rattle.volume_machine.specs.Deeds.{AreDeeds, Deed, answered_over, state_after}
use Rattle.volume_machine.specs.Runs.{no_plain}
use Rattle.volume_machine.specs.States.{IsClient, State, open_at}
use Rattle.volume_machine.specs.declared.keys.Keys.{Keys}
use Rattle.hotzone.specs.ZoneEvents.Heads.{header_on}
use Rattle.hotzone.specs.ZoneEvents.Readings.{reading_of}

-- what the blocks of a plain disk hold now, one after the other
abbrev pub newest_values : List Block → List (List ℕ)
newest_values blocks = map (λ block. block.newest) blocks

-- The operations are legal on the plain disk that held this content for certain. The bytes that the disk
-- tells stand, under the passphrase, for the newest values that they leave, by a header that converts
-- nothing.
pub record StandsForNewest (sizes : Sizes) (pass : List ℕ) (atom : ℕ) (content : List (List ℕ))
    (exchanges : List Exchange) (disk : Device) : Type 0 where
  pub left : List Block
  pub legal : Legal atom (settled_blocks content) exchanges left
  pub now : List ℕ
  pub told : disk.values ≡ Some now
  pub stands : StandsFor sizes pass now (newest_values left)
  pub rests : RestsIn sizes now

-- A volume begins behind a header by whose conversion something is saved of the blocks of zones, under the
-- keys that the keyslots give to a passphrase under which its disks stand for a content. Deeds of
-- clients and of the worker lead the conversion to its end. Where nothing is broken then, and no operation
-- of a client is under way, the disk stands so.
abbrev pub EndsStandForNewest : {C : Type 0} → (C → ℕ) → (C → ℕ → List ℕ → List ℕ)
    → (C → ℕ → List ℕ → List ℕ) → Type 0
EndsStandForNewest {C} sector sealed opened =
    (sizes : Sizes) (header : Stored) (lanes : ℕ) (pass bytes : List ℕ) (volume : State (Keys C))
    (content : List (List ℕ)) (deeds : List (Deed (Keys C))) (exchanges : List Exchange)
    → (stands : StandsFor sizes pass bytes content)
    → (begins : BeginsBehind sector sealed opened sizes header lanes stands.old stands.new bytes volume)
    → AreDisks sizes volume.disk → IsSaved begins.now.conversion.resilience
    → AreDeeds (reading_of sizes) (volume_seals sealed opened volume) volume deeds
    → AreExchanges (answered_over (volume_seals sealed opened volume) volume no_plain deeds) exchanges
    → (state_after volume deeds).broken ≡ false
    → ((lane : ℕ) → IsClient volume lane → open_at (state_after volume deeds).lanes lane ≡ None)
    → IsConvertedBeside (reading_of sizes) (layout_on sizes header) (header_on header) volume
    (state_after volume deeds)
    → StandsForNewest sizes pass volume.map.atom content exchanges (state_after volume deeds).disk
