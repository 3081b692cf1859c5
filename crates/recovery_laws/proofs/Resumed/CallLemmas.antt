-- What the calls of an opening leave as it is, and what its disk holds once all were done: its bytes,
-- and in them both copies of its header.
use Rattle.std.proofs.Common.{◌≡◌, ◌∙◌, ◌*◌, ◌/◌, ◌≤◌, ℕ, List, length, Option, Some, None, Ok, ap, refl, subst, sym}
use Rattle.base_terms.specs.Blocks.{pasted}
use Rattle.cipher_laws.specs.Bytes.{AreBytes}
use Rattle.base_terms.specs.declared.disk_sizes.Sizes.{Sizes}
use Rattle.sector_disk.specs.JoinedDisks.Counts.{HasSizes}
use Rattle.sector_disk.specs.JoinedDisks.Joined.{Joint, joined_disk}
use Rattle.luks_store.specs.Copying.Held.{copy_in, place_in}
use Rattle.luks_store.specs.Copying.Promises.{MeanTheSame}
use Rattle.luks_store.specs.declared.header_copies.repair.Repair.{Repair}
use Rattle.luks_rules.specs.Areas.{header_bytes}
use Rattle.luks_store.proofs.CopyLemmas.{Spelt}
use Rattle.luks_store.specs.Devices.{front_of}
use Rattle.luks_store.specs.Loads.{IsStored, stored_in}
use Rattle.luks_store.specs.Promises.{UsedStands}
use Rattle.luks_store.specs.declared.loaded.Stored.{Stored}
use Rattle.reenc_recovery.proofs.WritingLemmas.{repair_place}
use Rattle.reenc_recovery.specs.Calls.{IsRepairFor, RepairRun, SyncsAndReads}
use Rattle.reenc_recovery.specs.Tables.{ShowsSizes}
use Rattle.recovery_laws.proofs.Resumed.StandLemmas.{StandTwice, long-repaired, stand-good, stand-repaired}
use Rattle.sector_disk.specs.Devices.{Device, succeeded}
use Rattle.sector_disk.specs.Geometry.{IsAtom}
use Rattle.image_laws.specs.Led.Holding.{TellsLawfully}

-- ---- sizes
read-size : (old read : Joint) → SyncsAndReads old read
    → (joined_disk read).size ≡ (joined_disk old).size
read-size old read run = run.unwritten.size ∙ run.sync.size

read-atoms : (old read : Joint) → SyncsAndReads old read
    → (joined_disk read).atoms ≡ (joined_disk old).atoms
read-atoms old read run = run.unwritten.atoms ∙ run.sync.atoms

read-values : (old read : Joint) → SyncsAndReads old read
    → (joined_disk read).values ≡ (joined_disk old).values
read-values old read run = run.unwritten.values ∙ run.sync.values

repair-size : (repair : Option Repair) (old new : Device) → RepairRun repair old new succeeded
    → new.size ≡ old.size
repair-size None old new run = ap (λ (d : Device). d.size) run
repair-size (Some repair) old new run = run.sync.size ∙ run.write.size

repair-atoms : (repair : Option Repair) (old new : Device) → RepairRun repair old new succeeded
    → new.atoms ≡ old.atoms
repair-atoms None old new run = ap (λ (d : Device). d.atoms) run
repair-atoms (Some repair) old new run = run.sync.atoms ∙ run.write.atoms

-- a disk of the same sizes
has-too : (sizes : Sizes) (one other : Device) → other.size ≡ one.size → other.atoms ≡ one.atoms
    → HasSizes sizes one → HasSizes sizes other
has-too sizes one other size atoms has = record {
  atom = has.atom ∙ sym size;
  header = subst (λ (n : ℕ). sizes.header_atoms ≤ n) (sym atoms) has.header;
  main = subst (λ (n : ℕ). sizes.main_atoms ≤ n) (sym atoms) has.main;
  all = has.all ∙ sym atoms;
  alone = has.alone;
}

-- ---- bytes
-- bytes in which both copies of a header stand, as many as others
pub record IsRepaired (header : Stored) (first : List ℕ) (device : Device) : Type 0 where
  pub now : List ℕ
  pub values : device.values ≡ Some now
  pub stand : StandTwice header now
  pub long : length now ≡ length first

module _ (spelt : Spelt) (mean : MeanTheSame) (stands : UsedStands) (header : Stored)
    (stored : IsStored header) (sizes : Sizes)
    (room : 2 * header.copies.used.header.hdr_size ≤ header_bytes sizes) (first : List ℕ)
    (long : header_bytes sizes ≤ length first)
    (held : stored_in sizes (front_of sizes first) ≡ Ok header) where
  repaired-by : (repair : Option Repair) (old new : Device) → RepairRun repair old new succeeded
      → sizes.atom ≡ old.size → IsAtom sizes.atom → old.values ≡ Some first
      → IsRepairFor header.copies repair
      → ((all : List ℕ) → new.values ≡ Some all → AreBytes all) → IsRepaired header first new
  repaired-by None old new run atom known is asked are =
      let values = ap (λ (d : Device). d.values) run ∙ is in
      record {
        now = first;
        values = values;
        stand = stand-good header stored spelt mean stands sizes room first long held
            (are first values) asked;
        long = refl;
      }
  repaired-by (Some repair) old new run atom known is asked are =
      let place = place_in repair / old.size * old.size in
      let place_is : place ≡ place_in repair =
      ap (λ n. place_in repair / n * n) (sym atom)
      ∙ repair_place header.copies repair sizes.atom stored.copies asked known in
      let values = run.sync.values ∙ run.write.values first is in
      record {
        now = pasted first place (copy_in repair);
        values = values;
        stand = stand-repaired header stored spelt mean stands sizes room first long held repair place
            place_is asked (are (pasted first place (copy_in repair)) values);
        long = long-repaired header stored spelt mean stands sizes room first long held repair place
            place_is asked;
      }

-- ---- all calls of an opening
module _ (sizes : Sizes) (old read : Joint) (first_run : SyncsAndReads old read)
    (repair : Option Repair) (mended : Device)
    (run : RepairRun repair (joined_disk read) mended succeeded)
    (has : HasSizes sizes (joined_disk old)) (shows : ShowsSizes sizes (joined_disk old)) where
  mended-size : mended.size ≡ (joined_disk old).size
  mended-size = repair-size repair (joined_disk read) mended run ∙ read-size old read first_run

  pub mended-atoms : mended.atoms ≡ (joined_disk old).atoms
  mended-atoms = repair-atoms repair (joined_disk read) mended run ∙ read-atoms old read first_run

  pub has-mended : HasSizes sizes mended
  has-mended = has-too sizes (joined_disk old) mended mended-size mended-atoms has

  module _ (spelt : Spelt) (mean : MeanTheSame) (stands : UsedStands) (header : Stored)
      (stored : IsStored header)
      (room : 2 * header.copies.used.header.hdr_size ≤ header_bytes sizes)
      (asked : IsRepairFor header.copies repair) (first : List ℕ)
      (is : (joined_disk old).values ≡ Some first)
      (held : stored_in sizes (front_of sizes first) ≡ Ok header) (tells : TellsLawfully mended)
    where
      pub repaired : IsRepaired header first mended
      repaired =
          repaired-by spelt mean stands header stored sizes room first (shows.whole first is) held repair
          (joined_disk read) mended run (shows.atom ∙ sym (read-size old read first_run)) shows.known
          (read-values old read first_run ∙ is) asked tells.alike.bytes

      pub shows-mended : ShowsSizes sizes mended
      shows-mended = record {
        atom = shows.atom ∙ sym mended-size;
        known = shows.known;
        header = subst (λ (n : ℕ). sizes.header_atoms ≤ n) (sym mended-atoms) shows.header;
        agrees = tells.alike.agrees;
        even = tells.alike.even;
        whole = λ all values.
            (let same : all ≡ repaired.now =
            (let e : Some all ≡ Some repaired.now = sym values ∙ repaired.values in cc) in
            subst (λ (n : ℕ). header_bytes sizes ≤ n) (sym (ap length same ∙ repaired.long))
            (shows.whole first is));
      }
