-- What the header of a disk alone is read as, and what is left of the disk.
use Rattle.std.proofs.Common.{◌≡◌, ◌∙◌, ℕ, List, [], ◌++◌, ap, subst, sym, refl}
use Rattle.std.proofs.Common.{Option, Some, Result, Ok, Err, IfErr, IfOk, arith, append_assoc}
use Rattle.std.proofs.Common.{append-nil}
use Rattle.std.proofs.lemmas.List.Elements.{All-append, All-nil}
use Rattle.std.specs.List.{All}
use Rattle.header_report.proofs.ExamineLemmas.{cause-told}
use Rattle.header_report.specs.Examinations.{TellsFault, sizes_alone}
use Rattle.sector_disk.specs.JoinedDisks.Joined.{both_faults}
use Rattle.luks_slots.specs.Devices.{IsUnwritten}
use Rattle.luks_store.specs.Devices.{KeepsBytes}
use Rattle.luks_store.specs.Loads.{Answers, HasCause, stored_in}
use Rattle.luks_store.specs.declared.fault.StoreFault.{StoreFault}
use Rattle.luks_store.specs.declared.loaded.Stored.{Stored}
use Rattle.sector_disk.specs.Cells.{Cell}
use Rattle.sector_disk.specs.Devices.{Device}
use Rattle.volume_opening.specs.Openings.{IsFound}

abbrev pub Holds : Device → Result Stored StoreFault → Type 0
Holds device loaded = (all : List ℕ) → device.values ≡ Some all →
    Answers loaded (stored_in (sizes_alone device) all)

pub found_of : (device : Device) (loaded : Result Stored StoreFault) → Holds device loaded →
    IfOk loaded (λ stored. stored.valid.sizes ≡ sizes_alone device) → IfOk loaded (IsFound device)
found_of device (Ok stored) held sized = record { sizes = sized; held = held }
found_of device (Err fault) held sized = tt

pub told_of : (device : Device) (loaded : Result Stored StoreFault) → Holds device loaded →
    IfErr loaded (TellsFault device)
told_of device (Ok stored) held = tt
told_of device (Err fault) held = held

pub cause_of : (old new main main' : Device) (loaded : Result Stored StoreFault) →
    old.faults ≡ both_faults 0 main.faults → new.faults ≡ both_faults 0 main'.faults →
    IfErr loaded (λ fault. HasCause old new fault) → IfErr loaded (HasCause main main')
cause_of old new main main' (Ok stored) was is cause = tt
cause_of old new main main' (Err fault) was is cause =
    cause-told old new main main' (Err fault) (Err fault) was is cause refl

-- ---- what reads leave
pub keeps_none : (d : Device) → KeepsBytes d d
keeps_none d = record {
  size = refl;
  atoms = refl;
  tail = refl;
  values = refl;
  later = omega arith;
  told = λ now is. (
    now,
    is,
    record {
      cells = refl;
      mark = refl;
      more = [];
      past = sym (append-nil now.past);
      same = All-nil (λ (table : Option ℕ × List Cell). table.1 ≡ now.now);
    },
  );
}

-- a disk that was read, and then read again
pub keeps_on : (a b c : Device) → KeepsBytes a b → KeepsBytes b c → KeepsBytes a c
keeps_on a b c first later = record {
  size = later.size ∙ first.size;
  atoms = later.atoms ∙ first.atoms;
  tail = later.tail ∙ first.tail;
  values = later.values ∙ first.values;
  later = (let one = first.later in let two = later.later in omega (arith, one, two));
  told = λ now is.
      (let (mid, of_mid, reads) = later.told now is in
      let (before, was, earlier) = first.told mid of_mid in (
        before,
        was,
        record {
          cells = reads.cells ∙ earlier.cells;
          mark = refl;
          more = earlier.more ++ reads.more;
          past = reads.past ∙ ap (λ past. past ++ reads.more) earlier.past
              ∙ append_assoc before.past earlier.more reads.more;
          same = All-append (λ (table : Option ℕ × List Cell). table.1 ≡ before.now) earlier.more
              reads.more earlier.same
              (subst (λ (cells : List Cell). All (λ (table : Option ℕ × List Cell).
              table.1 ≡ cells) reads.more) earlier.cells reads.same);
        },
      ));
}

-- so it is after the reads of keyslots
pub keeps_slots : (old new : Device) → IsUnwritten old new → KeepsBytes old new
keeps_slots old new kept = record {
  size = kept.size;
  atoms = kept.atoms;
  tail = kept.tail;
  values = kept.values;
  later = kept.later;
  told = λ now is.
      (let (before, was, reads) = kept.told now is in (
        before,
        was,
        record {
          cells = reads.cells;
          mark = refl;
          more = reads.more;
          past = reads.past;
          same = reads.same;
        },
      ));
}
