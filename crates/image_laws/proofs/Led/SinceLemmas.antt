-- The tables that a disk tells since a moment, one more with each device call.
use Rattle.std.proofs.Common.{◌≡◌, ◌⊎◌, inl, inr, ℕ, List, [], ◌∷◌, ◌++◌, Option, Some, refl, sym}
use Rattle.std.proofs.Common.{◌∙◌, ap, append_assoc}
use Rattle.std.proofs.lemmas.List.{append-nil}
use Rattle.std.proofs.lemmas.List.Elements.{All-append, All-cons, All-nil}
use Rattle.luks_store.specs.Copying.Steps.{CopyCall}
use Rattle.luks_store.specs.declared.header_copies.commit.Stage.{Stage}
use Rattle.luks_store.specs.declared.header_copies.commit.Stage.TheVariants.{Begun, Ended, FirstKept}
use Rattle.luks_store.specs.declared.header_copies.commit.Stage.TheVariants.{FirstWritten, SecondWritten}
use Rattle.sector_disk.specs.Cells.{Cell}
use Rattle.sector_disk.specs.Devices.{Device, failed_call, succeeded}
use Rattle.sector_disk.specs.Steps.{Moves, MovesOrNot, Told, then_table}
use Rattle.image_laws.specs.Led.Holding.{HoldsSince}

module _ (Holds : List Cell → Type 0) where
  pub since-none : (told : Told) → Holds told.now → HoldsSince Holds told told
  since-none told holds = record {
    more = [];
    past = sym (append-nil told.past);
    each = All-nil (λ (table : Option ℕ × List Cell). Holds table.1);
    last = holds;
  }

  pub since-more : (before mid now : Told) → HoldsSince Holds before mid
      → now ≡ then_table mid now.now → Holds now.now → HoldsSince Holds before now
  since-more before mid now since one holds = record {
    more = since.more ++ (mid.mark, now.now) ∷ [];
    past = ap (λ (t : Told). t.past) one
        ∙ ap (λ past. past ++ (mid.mark, now.now) ∷ []) since.past
        ∙ append_assoc before.past since.more ((mid.mark, now.now) ∷ []);
    each = All-append (λ (table : Option ℕ × List Cell). Holds table.1) since.more
        ((mid.mark, now.now) ∷ []) since.each
        (All-cons (λ (table : Option ℕ × List Cell). Holds table.1) (mid.mark, now.now) [] holds
        (All-nil (λ (table : Option ℕ × List Cell). Holds table.1)));
    last = holds;
  }

-- what holds of a table by the one property holds by the other
pub since-weaker : (P Q : List Cell → Type 0) → ((cells : List Cell) → P cells → Q cells)
    → (before now : Told) → HoldsSince P before now → HoldsSince Q before now
since-weaker P Q so before now since = record {
  more = since.more;
  past = since.past;
  each = λ k d below. so _ (since.each k d below);
  last = so now.now since.last;
}

-- ---- a device call
-- a table behind a call that was done is one more
pub record OneMore (old : Device) (now : Told) : Type 0 where
  pub mid : Told
  pub told : old.told ≡ Some mid
  pub one : now ≡ then_table mid now.now

pub one-by : (Step : List Cell → List Cell → Type 0) (old new : Device) (now : Told)
    → Moves Step old.told new.told → new.told ≡ Some now → OneMore old now
one-by Step old new now moves is =
    let m = moves now is in record { mid = m.0; told = m.1; one = m.2.one }

-- behind one that failed it is one more, or the same
pub record OneOrNone (old : Device) (now : Told) : Type 0 where
  pub mid : Told
  pub told : old.told ≡ Some mid
  pub one : (now ≡ mid) ⊎ (now ≡ then_table mid now.now)

pub one-or-none : (Step : List Cell → List Cell → Type 0) (old new : Device) (now : Told)
    → MovesOrNot Step old.told new.told → new.told ≡ Some now → OneOrNone old now
one-or-none Step old new now (inl same) is =
    record { mid = now; told = sym same ∙ is; one = inl refl }
one-or-none Step old new now (inr moves) is =
    let m = moves now is in record { mid = m.0; told = m.1; one = inr m.2.one }

-- a call of a commit
pub commit-one : (stage : Stage) (first second : List ℕ) (size : ℕ) (old new : Device) (now : Told)
    → CopyCall stage first second size old new succeeded → new.told ≡ Some now → OneMore old now
commit-one Begun first second size old new now call is = one-by _ old new now call.told is
commit-one FirstWritten first second size old new now call is = one-by _ old new now call.told is
commit-one FirstKept first second size old new now call is = one-by _ old new now call.told is
commit-one SecondWritten first second size old new now call is = one-by _ old new now call.told is
commit-one Ended first second size old new now call is = absurd call

pub commit-or-none : (stage : Stage) (first second : List ℕ) (size : ℕ) (old new : Device)
    (now : Told) → CopyCall stage first second size old new failed_call → new.told ≡ Some now
    → OneOrNone old now
commit-or-none Begun first second size old new now call is = one-or-none _ old new now call.told is
commit-or-none FirstWritten first second size old new now call is =
    one-or-none _ old new now call.told is
commit-or-none FirstKept first second size old new now call is =
    one-or-none _ old new now call.told is
commit-or-none SecondWritten first second size old new now call is =
    one-or-none _ old new now call.told is
commit-or-none Ended first second size old new now call is = absurd call
