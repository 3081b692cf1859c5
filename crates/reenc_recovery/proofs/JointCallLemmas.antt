-- The calls of an opening of joined disks are those of the disk that they are as one.
use Rattle.std.proofs.Common.{refl, Option, Result}
use Rattle.base_terms.specs.declared.failed.Failed.{Failed}
use Rattle.sector_disk.specs.JoinedDisks.Joined.{Joint, joined_disk}
use Rattle.luks_store.specs.declared.header_copies.repair.Repair.{Repair}
use Rattle.luks_store.specs.Devices.{IsUnwritten, KeepsBytes}
use Rattle.reenc_recovery.specs.Calls.{DiskOpeningRun, DiskSyncsAndReads, OpeningRun, SyncsAndReads}
use Rattle.sector_disk.specs.Devices.{Device}

keeps_bytes : (old new : Joint) → IsUnwritten old new
    → KeepsBytes (joined_disk old) (joined_disk new)
keeps_bytes old new unwritten = record {
  size = unwritten.size;
  atoms = unwritten.atoms;
  tail = unwritten.tail;
  values = unwritten.values;
  later = unwritten.later;
  told = λ now is.
      (let has = unwritten.told now is in
      let kept = has.2 in (
        has.0,
        has.1,
        record {
          cells = kept.cells;
          mark = refl;
          more = kept.more;
          past = kept.past;
          same = kept.same;
        },
      ));
}

pub disk_reads : (old read : Joint) → SyncsAndReads old read
    → DiskSyncsAndReads (joined_disk old) (joined_disk read)
disk_reads old read run = record {
  synced = joined_disk run.synced;
  sync = run.sync;
  unwritten = keeps_bytes run.synced read run.unwritten;
}

pub disk_run : (repair : Option Repair) (old : Joint) (new : Device)
    (result : Result (Unit {0}) Failed) → OpeningRun repair old new result
    → DiskOpeningRun repair (joined_disk old) new result
disk_run repair old new result run = record {
  read = joined_disk run.read;
  first = disk_reads old run.read run.first;
  run = run.run;
}
