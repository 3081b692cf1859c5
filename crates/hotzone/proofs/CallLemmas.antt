-- Device calls of a zone, as they move what the disk shows.
use Rattle.std.proofs.Common.{◌≡◌, ◌∙◌, ℕ, ◌+◌, ◌*◌, ◌/◌, ◌<◌, ◌≤◌, List, [], ◌∷◌, zero, suc, inl, inr, length, map, replicate, Some}
use Rattle.std.proofs.Common.{Result, refl, sym, ap, subst, arith}
use Rattle.std.specs.Prelude.{slice_index_or}
use Rattle.base_terms.specs.declared.failed.Failed.{Failed}
use Rattle.std.proofs.lemmas.List.{length-map, length-replicate}
use Rattle.std.proofs.Math.Nat.{mul-div_cancel}
use Rattle.base_terms.specs.Blocks.{lengths, blocks_of, changed}
use Rattle.cipher_laws.specs.Bytes.{AreBytes}
use Rattle.sector_disk.proofs.DiskViews.Blockwise.{bytes-drop, bytes-take}
use Rattle.sector_disk.proofs.DiskViews.DeviceViews.{TurnsTable, block-read, places_of_atoms, table-read}
use Rattle.sector_disk.proofs.DiskViews.DeviceViews.{table-synced, table-thinned, table-written}
use Rattle.sector_disk.proofs.DiskViews.DeviceViews.{text-read}
use Rattle.sector_disk.proofs.DiskViews.Entries.{blocks_of-at}
use Rattle.sector_disk.proofs.DiskViews.TableEntries.{tried_view, untried_view, wrote_view}
use Rattle.sector_disk.specs.DiskViews.Parts.{block_at, cell_in, AreBlocks}
use Rattle.sector_disk.specs.DiskViews.Views.{View, IsSynced, IsThinned, IsTried, IsUnchanged, IsWritten}
use Rattle.sector_disk.specs.DiskViews.Views.{view_of_cells}
use Rattle.hotzone.specs.Promises.{Leads, TellsAlike}
use Rattle.base_terms.proofs.BlockLemmas.{blocks_of-joined}
use Rattle.sector_disk.specs.Cells.{Cell, content, currents, wrote}
use Rattle.sector_disk.specs.Cells as disk_cells
use Rattle.sector_disk.specs.Devices.{Device, ReadCall, SyncCall, WriteCall, failed_call, succeeded}
use Rattle.sector_disk.specs.Steps.{Told}

-- a table has so many atoms
counted : (cells : List Cell) (size atoms : ℕ) → lengths (currents cells) ≡ replicate atoms size
    → length cells ≡ atoms
unfolding lengths currents
counted cells size atoms even =
    sym (length-map cells (λ cell. cell.current))
    ∙ sym (length-map (map (λ cell. cell.current) cells) (λ block. length block))
    ∙ ap length even ∙ length-replicate atoms size

pub table-long : (device : Device) → TellsAlike device → (told : Told) → device.told ≡ Some told
    → length told.now ≡ device.atoms
table-long device tells told is =
    counted told.now device.size device.atoms (tells.even told is)

-- a table behind a call leads from the one before it, by this step
pub record Led (old : Device) (now : Told) (Step : View → View → Type 0) : Type 0 where
  pub was : Told
  pub told : old.told ≡ Some was
  pub step : Step (view_of_cells was.now) (view_of_cells now.now)

leads : (old : Device) (now : Told) (Step : View → View → Type 0) → TurnsTable old now Step
    → Led old now Step
leads old now Step turns = record { was = turns.before; told = turns.told; step = turns.step }

pub led-on : {Step : View → View → Type 0} (old : Device) (now : Told) (Q : View → View → Type 0)
    → Led old now Step → ((was is : View) → Step was is → Q was is) → Led old now Q
led-on old now Q led on = record { was = led.was; told = led.told; step = on _ _ led.step }

pub leads-by : (old : Device) (now : Told) (Q : View → View → Type 0) → Led old now Q
    → Leads old now Q
leads-by old now Q led = (led.was, led.told, led.step)

pub synced-leads : (old new : Device) (now : Told) → SyncCall old new succeeded
    → new.told ≡ Some now → Led old now IsSynced
synced-leads old new now call told = leads old now _ (table-synced old new now call told)

pub thinned-leads : (old new : Device) (now : Told) → SyncCall old new failed_call
    → new.told ≡ Some now → Led old now IsThinned
thinned-leads old new now call told = leads old now _ (table-thinned old new now call told)

pub written-leads : (old new : Device) (now : Told) (at n : ℕ) (text : List ℕ) → TellsAlike old
    → 0 < old.size → length text ≡ n * old.size → at + n ≤ old.atoms
    → WriteCall old.size at text old new succeeded → new.told ≡ Some now
    → Led old now (IsWritten old.size at n text)
written-leads old new now at n text tells some long within call told =
    leads old now _ (table-written old.size at n text old new now call told some long
    (places_of_atoms old old.atoms at n (table-long old tells) within))

-- so where the text's length is known by what was told
pub written-if : (old new : Device) (now : Told) (at n : ℕ) (text : List ℕ) → TellsAlike old
    → 0 < old.size → at + n ≤ old.atoms
    → WriteCall old.size at text old new succeeded → new.told ≡ Some now
    → Led old now (λ was is. length text ≡ n * old.size → IsWritten old.size at n text was is)
written-if old new now at n text tells some within call told =
    let m = call.told now told in
    record {
      was = m.0;
      told = m.1;
      step = λ long. wrote_view old.size at n text m.0.now now.now
          (places_of_atoms old old.atoms at n (table-long old tells) within m.0 m.1)
          (m.2.step ∙ ap (λ k. changed wrote m.0.now at (blocks_of old.size k text))
          (ap (λ l. l / old.size) long ∙ mul-div_cancel n some));
    }

pub tried-if : (old new : Device) (now : Told) (at n : ℕ) (text : List ℕ)
    → 0 < old.size → WriteCall old.size at text old new failed_call → new.told ≡ Some now
    → Led old now (λ was is. length text ≡ n * old.size → IsTried old.size at n text was is)
tried-if old new now at n text some call told = elim call.told [
  | inl same ↦
      record {
        was = now;
        told = sym same ∙ told;
        step = λ long. untried_view old.size at n text now.now now.now refl;
      }
  | inr moves ↦
      let m = moves now told in
      record {
        was = m.0;
        told = m.1;
        step = λ long. tried_view old.size at n text m.0.now now.now
            (subst (λ k. disk_cells.IsTried m.0.now at (blocks_of old.size k text) now.now)
            (ap (λ l. l / old.size) long ∙ mul-div_cancel n some) m.2.step);
      }
]

-- what a read gave
current_in : (cells : List Cell) (place : ℕ)
    → (cell_in cells place).current ≡ slice_index_or (currents cells) place []
unfolding currents
current_in [] place = refl
current_in (cell ∷ cells) zero = refl
current_in (cell ∷ cells) (suc place) = current_in cells place

current-block : (atom atoms : ℕ) (bytes : List ℕ) (cells : List Cell) (place : ℕ)
    → bytes ≡ content cells → lengths (currents cells) ≡ replicate atoms atom → place < atoms
    → block_at atom bytes place ≡ (cell_in cells place).current
unfolding content
current-block atom atoms bytes cells place same even inside =
    sym (blocks_of-at atom atoms bytes place [] inside)
    ∙ ap (λ vs. slice_index_or vs place [])
    (ap (λ text. blocks_of atom atoms text) same ∙ blocks_of-joined atom atoms (currents cells) even)
    ∙ sym (current_in cells place)

-- the bytes that were read are these blocks of the table
pub record HasGot (atom at n : ℕ) (text : List ℕ) (was : View) : Type 0 where
  pub blocks : AreBlocks atom n text
  pub each : (k : ℕ) → k < n → block_at atom text k ≡ was.current (at + k)

pub unread-leads : (old new : Device) (now : Told) (at : ℕ) (text : List ℕ)
    (result : Result (Unit {0}) Failed)
    → ReadCall old.size at text old new result → new.told ≡ Some now → Led old now IsUnchanged
unread-leads old new now at text result call told =
    leads old now _ (table-read old.size at text old new result now call told)

pub read-leads : (old new : Device) (now : Told) (at n : ℕ) (text : List ℕ) → TellsAlike old
    → length text ≡ n * old.size → at + n ≤ old.atoms
    → ReadCall old.size at text old new succeeded → new.told ≡ Some now
    → Led old now (λ was is. IsUnchanged was is × HasGot old.size at n text was)
read-leads old new now at n text tells long within call told =
    let turns = table-read old.size at text old new succeeded now call told in
    let values = tells.agrees turns.before turns.told in
    record {
      was = turns.before;
      told = turns.told;
      step = (
        turns.step,
        record {
          blocks = record {
            size = long;
            are_bytes = subst AreBytes (sym (text-read old.size at text _ old new call values))
                (bytes-take _ _ (bytes-drop _ _ (tells.bytes _ values)));
          };
          each = λ k below. block-read old.size at n text _ old new k call values long below
              ∙ current-block old.size old.atoms _ turns.before.now (at + k) refl
              (tells.even turns.before turns.told) (omega (arith, within, below));
        },
      );
    }
