-- The tables of a disk before a call and after it.
use Rattle.std.proofs.Common.{◌≡◌, inl, inr, ℕ, ◌⊎◌, List, [], ◌∷◌, ◌++◌, length, Option, Some}
use Rattle.std.proofs.Common.{Result, refl, sym, ◌∙◌, ap, append_assoc}
use Rattle.base_terms.specs.declared.failed.Failed.{Failed}
use Rattle.std.proofs.lemmas.List.{append-nil, length-map}
use Rattle.std.proofs.lemmas.List.Elements.{All-append, All-cons, All-nil}
use Rattle.std.specs.List.{All}
use Rattle.sector_disk.proofs.DiskViews.Entries.{length-changed}
use Rattle.sector_disk.proofs.DiskViews.TableEntries.{length-thinned, length-tried}
use Rattle.luks_store.specs.declared.header_copies.commit.Stage.TheVariants.{Begun, FirstWritten, FirstKept}
use Rattle.luks_store.specs.declared.header_copies.commit.Stage.TheVariants.{SecondWritten, Ended}
use Rattle.sector_disk.specs.Cells.{Cell, synced}
use Rattle.sector_disk.specs.Devices.{Device, SyncCall, WriteCall, failed_call, succeeded}
use Rattle.sector_disk.specs.Steps.{Told, then_table}
use Rattle.luks_store.specs.SlotCommits.Calls.{MakesCall, MakesCalls, SlotCall, commits, syncs_area}
use Rattle.luks_store.specs.SlotCommits.Calls.{writes_area}
use Rattle.luks_store.specs.declared.slot_commit.writing.SlotCommit.{SlotCommit}

-- the table that stood before a call that was done, and one more then stands behind it
pub record IsMovedTo (from : Device) (now : Told) : Type 0 where
  pub before : Told
  pub told : from.told ≡ Some before
  pub one : now ≡ then_table before now.now
  pub count : length now.now ≡ length before.now

-- a call that failed may have made none
pub record MayMoveTo (from : Device) (now : Told) : Type 0 where
  pub before : Told
  pub told : from.told ≡ Some before
  pub one : (now ≡ before) ⊎ (now ≡ then_table before now.now)
  pub count : length now.now ≡ length before.now

by_write : (atom at : ℕ) (body : List ℕ) (from to : Device) (now : Told)
    → WriteCall atom at body from to succeeded → to.told ≡ Some now → IsMovedTo from now
by_write atom at body from to now call is =
    let moved = call.told now is in
    record {
      before = moved.0;
      told = moved.1;
      one = moved.2.one;
      count = ap length moved.2.step ∙ length-changed _ moved.0.now _ _;
    }

by_sync : (from to : Device) (now : Told) → SyncCall from to succeeded → to.told ≡ Some now
    → IsMovedTo from now
by_sync from to now call is =
    let moved = call.told now is in
    record {
      before = moved.0;
      told = moved.1;
      one = moved.2.one;
      count = ap length moved.2.step ∙ length-map moved.0.now synced;
    }

none_made : (from to : Device) (now : Told) → to.told ≡ from.told → to.told ≡ Some now
    → MayMoveTo from now
none_made from to now same is =
    record { before = now; told = sym same ∙ is; one = inl refl; count = refl }

by_try : (atom at : ℕ) (body : List ℕ) (from to : Device) (now : Told)
    → WriteCall atom at body from to failed_call → to.told ≡ Some now → MayMoveTo from now
by_try atom at body from to now call is = elim call.told as (λ _. MayMoveTo from now) [
  | inl same ↦ none_made from to now same is
  | inr moves ↦
      (let moved = moves now is in
      record {
        before = moved.0;
        told = moved.1;
        one = inr moved.2.one;
        count = length-tried moved.0.now _ _ now.now moved.2.step;
      })
]

by_thin : (from to : Device) (now : Told) → SyncCall from to failed_call → to.told ≡ Some now
    → MayMoveTo from now
by_thin from to now call is = elim call.told as (λ _. MayMoveTo from now) [
  | inl same ↦ none_made from to now same is
  | inr moves ↦
      (let moved = moves now is in
      record {
        before = moved.0;
        told = moved.1;
        one = inr moved.2.one;
        count = length-thinned moved.0.now now.now moved.2.step;
      })
]

-- ---- the calls of a keyslot
pub moved : (slot : SlotCommit) (call : SlotCall) (from to : Device) (now : Told)
    → MakesCall slot call from to succeeded → to.told ≡ Some now → IsMovedTo from now
moved slot writes_area from to now made is = by_write _ _ slot.area from to now made is
moved slot syncs_area from to now made is = by_sync from to now made is
moved slot (commits Begun) from to now made is = by_write _ _ _ from to now made is
moved slot (commits FirstWritten) from to now made is = by_sync from to now made is
moved slot (commits FirstKept) from to now made is = by_write _ _ _ from to now made is
moved slot (commits SecondWritten) from to now made is = by_sync from to now made is
moved slot (commits Ended) from to now made is = absurd made

pub may_move : (slot : SlotCommit) (call : SlotCall) (from to : Device) (now : Told)
    → MakesCall slot call from to failed_call → to.told ≡ Some now → MayMoveTo from now
may_move slot writes_area from to now made is = by_try _ _ slot.area from to now made is
may_move slot syncs_area from to now made is = by_thin from to now made is
may_move slot (commits Begun) from to now made is = by_try _ _ _ from to now made is
may_move slot (commits FirstWritten) from to now made is = by_thin from to now made is
may_move slot (commits FirstKept) from to now made is = by_try _ _ _ from to now made is
may_move slot (commits SecondWritten) from to now made is = by_thin from to now made is
may_move slot (commits Ended) from to now made is = absurd made

-- sizes stay
pub same_size : (slot : SlotCommit) (call : SlotCall) (from to : Device)
    → MakesCall slot call from to succeeded → (to.size ≡ from.size) × (to.atoms ≡ from.atoms)
same_size slot writes_area from to made = (made.size, made.atoms)
same_size slot syncs_area from to made = (made.size, made.atoms)
same_size slot (commits Begun) from to made = (made.size, made.atoms)
same_size slot (commits FirstWritten) from to made = (made.size, made.atoms)
same_size slot (commits FirstKept) from to made = (made.size, made.atoms)
same_size slot (commits SecondWritten) from to made = (made.size, made.atoms)
same_size slot (commits Ended) from to made = absurd made

same_failed : (slot : SlotCommit) (call : SlotCall) (from to : Device)
    → MakesCall slot call from to failed_call → (to.size ≡ from.size) × (to.atoms ≡ from.atoms)
same_failed slot writes_area from to made = (made.size, made.atoms)
same_failed slot syncs_area from to made = (made.size, made.atoms)
same_failed slot (commits Begun) from to made = (made.size, made.atoms)
same_failed slot (commits FirstWritten) from to made = (made.size, made.atoms)
same_failed slot (commits FirstKept) from to made = (made.size, made.atoms)
same_failed slot (commits SecondWritten) from to made = (made.size, made.atoms)
same_failed slot (commits Ended) from to made = absurd made

pub same_sizes : (slot : SlotCommit) (calls : List SlotCall) (old new : Device)
    (result : Result (Unit {0}) Failed) → MakesCalls slot calls old new result
    → (new.size ≡ old.size) × (new.atoms ≡ old.atoms)
unfolding MakesCalls
same_sizes slot [] old new result made =
    (ap (λ (d : Device). d.size) made.0, ap (λ (d : Device). d.atoms) made.0)
same_sizes slot (call ∷ calls) old new result (inl (made, failed)) =
    same_failed slot call old new made
same_sizes slot (call ∷ calls) old new result (inr (between, made, rest)) =
    let one = same_size slot call old between made in
    let later = same_sizes slot calls between new result rest in
    (later.0 ∙ one.0, later.1 ∙ one.1)

-- where a table is told, so was each before it
pub told_before : (slot : SlotCommit) (calls : List SlotCall) (old new : Device)
    (result : Result (Unit {0}) Failed) → MakesCalls slot calls old new result → (now : Told)
    → new.told ≡ Some now → (before : Told) × (old.told ≡ Some before)
unfolding MakesCalls
told_before slot [] old new result made now is =
    (now, ap (λ (d : Device). d.told) (sym made.0) ∙ is)
told_before slot (call ∷ calls) old new result (inl (made, failed)) now is =
    (let m = may_move slot call old new now made is in (m.before, m.told))
told_before slot (call ∷ calls) old new result (inr (between, made, rest)) now is =
    let mid = told_before slot calls between new result rest now is in
    let m = moved slot call old between mid.0 made mid.1 in
    (m.before, m.told)

-- ---- tables since one
pub record IsSince (Holds : List Cell → Type 0) (before now : Told) : Type 0 where
  pub more : List (Option ℕ × List Cell)
  pub past : now.past ≡ before.past ++ more
  pub each : All (λ (table : Option ℕ × List Cell). Holds table.1) more
  pub last : Holds now.now

module _ (Holds : List Cell → Type 0) where
  abbrev Each : Option ℕ × List Cell → Type 0
  Each table = Holds table.1

  pub since_none : (before now : Told) → now ≡ before → Holds now.now → IsSince Holds before now
  since_none before now same holds = record {
    more = [];
    past = ap (λ (t : Told). t.past) same ∙ sym (append-nil before.past);
    each = All-nil Each;
    last = holds;
  }

  pub since_one : (before now : Told) → now ≡ then_table before now.now → Holds now.now
      → IsSince Holds before now
  since_one before now one holds = record {
    more = (before.mark, now.now) ∷ [];
    past = ap (λ (t : Told). t.past) one;
    each = All-cons Each (before.mark, now.now) [] holds (All-nil Each);
    last = holds;
  }

  pub since_joined : (a b c : Told) → IsSince Holds a b → IsSince Holds b c → IsSince Holds a c
  since_joined a b c one later = record {
    more = one.more ++ later.more;
    past = later.past ∙ ap (λ past. past ++ later.more) one.past
        ∙ append_assoc a.past one.more later.more;
    each = All-append Each one.more later.more one.each later.each;
    last = later.last;
  }
