-- A commit goes on by a call: it is of the same copies, on disks of the same sizes.
use Rattle.std.proofs.Common.{◌≡◌, ◌≢◌, ◌∙◌, ℕ, ◌≤◌, List, Result, true, false, refl, sym, subst}
use Rattle.base_terms.specs.declared.failed.Failed.{Failed}
use Rattle.base_terms.specs.declared.disk_sizes.Sizes.{Sizes}
use Rattle.hotzone.specs.Headings.{IsSame}
use Rattle.hotzone.specs.Steps.{Commits, IsBroken, IsCommitted}
use Rattle.sector_disk.specs.JoinedDisks.Counts.{HasSizes}
use Rattle.luks_store.specs.Copying.Held.{primary_of, secondary_of, stage_in}
use Rattle.luks_store.specs.Copying.Steps.{CopyCall, is_last, next_of}
use Rattle.luks_store.specs.declared.header_copies.commit.Stage.{Stage}
use Rattle.luks_store.specs.declared.header_copies.commit.Stage.TheVariants.{Begun, FirstWritten, FirstKept}
use Rattle.luks_store.specs.declared.header_copies.commit.Stage.TheVariants.{SecondWritten, Ended}
use Rattle.luks_store.specs.Commits.{committed}
use Rattle.luks_store.specs.declared.commit.Prepared.{Prepared}
use Rattle.sector_disk.specs.Devices.{Device, failed_call, succeeded}

-- disks of the same sizes are as large
pub has-as : (sizes : Sizes) (a b : Device) → b.size ≡ a.size → b.atoms ≡ a.atoms → HasSizes sizes a
    → HasSizes sizes b
has-as sizes a b size atoms has = record {
  atom = has.atom ∙ sym size;
  header = subst (λ n. sizes.header_atoms ≤ n) (sym atoms) has.header;
  main = subst (λ n. sizes.main_atoms ≤ n) (sym atoms) has.main;
  all = has.all ∙ sym atoms;
  alone = has.alone;
}

-- a call leaves the sizes
pub call-size : (stage : Stage) (one two : List ℕ) (size : ℕ) (old new : Device)
    (result : Result (Unit {0}) Failed) → CopyCall stage one two size old new result
    → new.size ≡ old.size
call-size Begun one two size old new result call = call.size
call-size FirstWritten one two size old new result call = call.size
call-size FirstKept one two size old new result call = call.size
call-size SecondWritten one two size old new result call = call.size
call-size Ended one two size old new result call = absurd call

pub call-atoms : (stage : Stage) (one two : List ℕ) (size : ℕ) (old new : Device)
    (result : Result (Unit {0}) Failed) → CopyCall stage one two size old new result
    → new.atoms ≡ old.atoms
call-atoms Begun one two size old new result call = call.atoms
call-atoms FirstWritten one two size old new result call = call.atoms
call-atoms FirstKept one two size old new result call = call.atoms
call-atoms SecondWritten one two size old new result call = call.atoms
call-atoms Ended one two size old new result call = absurd call

-- a commit of which a call was tried is of the same copies
pub same-by : (before after : Prepared) (old new : Device) (result : Result (Unit {0}) Failed)
    → Commits before old new result → HasSizes before.sizes old → HasSizes after.sizes new
    → primary_of after.copies ≡ primary_of before.copies
    → secondary_of after.copies ≡ secondary_of before.copies → committed after ≡ committed before
    → IsSame before after
same-by before after old new result call had has first second copies = record {
  primary = first;
  secondary = second;
  copies = copies;
  sizes = λ device here.
      has-as after.sizes new device
      (sym here.atom ∙ had.atom ∙ sym (call-size (stage_in before.copies) _ _ _ old new _ call))
      (sym here.all ∙ had.all ∙ sym (call-atoms (stage_in before.copies) _ _ _ old new _ call))
      has;
}

pub committed-on : (before after : Prepared) (old new : Device)
    → Commits before old new succeeded → HasSizes before.sizes old → HasSizes after.sizes new
    → primary_of after.copies ≡ primary_of before.copies
    → secondary_of after.copies ≡ secondary_of before.copies → committed after ≡ committed before
    → stage_in after.copies ≡ next_of (stage_in before.copies) → IsCommitted before after
committed-on before after old new call had has first second copies stage = record {
  same = same-by before after old new succeeded call had has first second copies;
  stage = stage;
}

pub broken-on : (before after : Prepared) (old new : Device)
    → Commits before old new failed_call → HasSizes before.sizes old → HasSizes after.sizes new
    → primary_of after.copies ≡ primary_of before.copies
    → secondary_of after.copies ≡ secondary_of before.copies → committed after ≡ committed before
    → stage_in after.copies ≡ Ended → IsBroken before after
broken-on before after old new call had has first second copies ended = record {
  same = same-by before after old new failed_call call had has first second copies;
  ended = ended;
}

-- whether it was the last call
pub is-far : (stage : Stage) → false ≡ is_last stage → stage ≢ SecondWritten
is-far Begun is = λ at. cc
is-far FirstWritten is = λ at. cc
is-far FirstKept is = λ at. cc
is-far SecondWritten is = absurd cc
is-far Ended is = λ at. cc

pub is-second : (stage : Stage) → true ≡ is_last stage → stage ≡ SecondWritten
is-second Begun is = absurd cc
is-second FirstWritten is = absurd cc
is-second FirstKept is = absurd cc
is-second SecondWritten is = refl
is-second Ended is = absurd cc
