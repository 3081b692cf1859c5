-- The calls of a new keyslot lead from what a disk shows to what it shows.
use Rattle.std.proofs.Common.{◌≡◌, inl, inr, ℕ, ◌+◌, ◌*◌, ◌/◌, ◌<◌, ◌≤◌, Bool, true, false, List}
use Rattle.std.proofs.Common.{[], ◌∷◌, length, Option, Some, Result, sym, ◌∙◌, ap, subst, arith}
use Rattle.base_terms.specs.declared.failed.Failed.{Failed}
use Rattle.crash_laws.specs.HeaderAreas.Areas.{Area, AreApart}
use Rattle.crash_laws.specs.HeaderAreas.Commits.{CommitCall, CommitFails, begun, failed_stage}
use Rattle.crash_laws.specs.HeaderAreas.Headers.{Copy, Header, IsLaidOut, Layout, place_of, primary, secondary}
use Rattle.crash_laws.specs.HeaderAreas.Headers.{text_of}
use Rattle.crash_laws.specs.HeaderAreas.Promises.{CommitGoes}
use Rattle.sector_disk.proofs.DiskViews.DeviceViews.{places_of_atoms, table-synced, table-thinned, table-tried}
use Rattle.sector_disk.proofs.DiskViews.DeviceViews.{TurnsTable, table-written}
use Rattle.sector_disk.specs.DiskViews.Views.{IsSynced, IsThinned, IsTried, IsWritten, View, view_of_cells}
use Rattle.luks_store.specs.Copying.Seen.{CallsAreSeen, HasRoomFor, stage_of}
use Rattle.luks_store.specs.declared.header_copies.commit.Stage.{Stage as CopyStage}
use Rattle.sector_disk.specs.Cells.{Cell}
use Rattle.sector_disk.specs.Devices.{Device, WriteCall, failed_call, succeeded}
use Rattle.sector_disk.specs.Steps.{Told, then_table}
use Rattle.luks_store.proofs.SlotCommits.MovedLemmas.{IsSince, may_move, moved, same_size}
use Rattle.luks_store.proofs.SlotCommits.MovedLemmas.{since_joined, since_none, since_one, told_before}
use Rattle.luks_store.proofs.SlotCommits.ShownLemmas.{Reached, ShowsSlot, area_is_synced}
use Rattle.luks_store.proofs.SlotCommits.ShownLemmas.{area_is_thinned, area_is_tried, area_is_written, area_kept}
use Rattle.luks_store.proofs.SlotCommits.ShownLemmas.{area_written, commit_fails, commit_goes, nothing}
use Rattle.luks_store.proofs.SlotCommits.ShownLemmas.{reached_behind}
use Rattle.luks_store.specs.SlotCommits.Calls.{MakesCall, MakesCalls, SlotCall, commits, copy_size, primary_in}
use Rattle.luks_store.specs.SlotCommits.Calls.{secondary_in, syncs_area, writes_area}
use Rattle.luks_store.specs.SlotCommits.Images.{next_header}
use Rattle.luks_store.specs.declared.slot_commit.writing.SlotCommit.{SlotCommit}

-- how both copies lie
abbrev pub layout_of : ℕ → ℕ → Layout
layout_of atom size = record {
  first = record { start = 0; count = size / atom };
  second = record { start = size / atom; count = size / atom };
}

-- the atoms of the keyslot's area, and the first one behind both copies
abbrev pub area_in : ℕ → SlotCommit → Area
area_in atom slot =
    record { start = slot.area_offset / atom; count = length slot.area / atom }

abbrev pub end_of_copies : ℕ → SlotCommit → ℕ
end_of_copies atom slot = copy_size slot / atom + copy_size slot / atom

-- both copies and the area lie in whole atoms of a disk of so many, the area behind the copies
pub record LiesIn (atom atoms : ℕ) (slot : SlotCommit) : Type 0 where
  pub some : 0 < atom
  pub laid : IsLaidOut atom atoms (copy_size slot) (layout_of atom (copy_size slot))
  pub one : length (primary_in slot) ≡ copy_size slot
  pub two : length (secondary_in slot) ≡ copy_size slot
  pub long : length slot.area ≡ length slot.area / atom * atom
  pub behind : end_of_copies atom slot ≤ slot.area_offset / atom
  pub within : slot.area_offset / atom + length slot.area / atom ≤ atoms

-- what is reached where a call may be made, and behind it
abbrev pub before_call : SlotCall → Reached
before_call writes_area = nothing
before_call syncs_area = area_written
before_call (commits stage) = area_kept (stage_of stage)

abbrev pub behind_call : SlotCall → Reached
behind_call writes_area = area_written
behind_call syncs_area = area_kept begun
behind_call (commits stage) = reached_behind (stage_of stage)

-- calls of which each leads to the next one
abbrev pub LeadTo : List SlotCall → Reached → Reached → Type 0
LeadTo [] reached end = reached ≡ end
LeadTo (call ∷ calls) reached end =
    (reached ≡ before_call call) × LeadTo calls (behind_call call) end

module _ (seen : CallsAreSeen) (goes : CommitGoes) (slot : SlotCommit) (atom atoms : ℕ)
    (from : Header (List ℕ)) (first : List ℕ) (lies : LiesIn atom atoms slot) where
  abbrev size : ℕ
  size = copy_size slot

  abbrev layout : Layout
  layout = layout_of atom (copy_size slot)

  abbrev area : Area
  area = area_in atom slot

  abbrev pub Shows : Reached → Bool → List Cell → Type 0
  Shows reached broken cells =
      ShowsSlot atom atoms (end_of_copies atom slot) (layout_of atom (copy_size slot)) from
      (next_header slot) (area_in atom slot) slot.area first reached broken (view_of_cells cells)

  -- a disk of these sizes that tells its tables and shows that so much is reached
  pub record Stands (device : Device) (told : Told) (reached : Reached) : Type 0 where
    pub same_atom : device.size ≡ atom
    pub same_atoms : device.atoms ≡ atoms
    pub told_is : device.told ≡ Some told
    pub many : length told.now ≡ atoms
    pub shows : Shows reached false told.now

  same_told : (told : Option Told) (a b : Told) → told ≡ Some a → told ≡ Some b → a ≡ b
  same_told told a b a_is b_is = (let e : Some a ≡ Some b = sym a_is ∙ b_is in cc)

  all_many : (device : Device) (mid : Told) → device.told ≡ Some mid → length mid.now ≡ atoms
      → (told : Told) → device.told ≡ Some told → length told.now ≡ atoms
  all_many device mid mid_is many told told_is =
      ap (λ (t : Told). length t.now) (same_told device.told told mid told_is mid_is) ∙ many

  -- ---- where the parts lie
  front : (copy : Copy)
      → (place_of layout copy).start + (place_of layout copy).count ≤ end_of_copies atom slot
  front primary = omega arith
  front secondary = omega arith

  parts_apart : AreApart layout.first layout.second
  parts_apart = inl (omega arith)

  long_copy : (copy : Copy) → length (text_of (next_header slot) copy)
      ≡ (place_of layout copy).count * atom
  long_copy primary = lies.one ∙ sym lies.laid.long
  long_copy secondary = lies.two ∙ sym lies.laid.long

  room_for : (device : Device) (mid : Told) (reached : Reached) → Stands device mid reached
      → HasRoomFor size (primary_in slot) (secondary_in slot) layout device
  room_for device mid reached stands = record {
    some = subst (λ (n : ℕ). 0 < n) (sym stands.same_atom) lies.some;
    laid = subst (λ (n : ℕ). IsLaidOut n device.atoms size layout) (sym stands.same_atom)
        (subst (λ (n : ℕ). IsLaidOut atom n size layout) (sym stands.same_atoms) lies.laid);
    first = lies.one;
    second = lies.two;
    even = λ told told_is.
        all_many device mid stands.told_is stands.many told told_is ∙ sym stands.same_atoms;
  }

  -- ---- a call that was done
  module _ (old new : Device) (mid now : Told) (now_is : new.told ≡ Some now) where
    turned : (Step : View → View → Type 0) → old.told ≡ Some mid → TurnsTable old now Step
        → Step (view_of_cells mid.now) (view_of_cells now.now)
    turned Step mid_is turns =
        subst (λ (t : Told). Step (view_of_cells t.now) (view_of_cells now.now))
        (same_told old.told turns.before mid turns.told mid_is) turns.step

    area_call : (result : Result (Unit {0}) Failed) → old.size ≡ atom
        → MakesCall slot writes_area old new result
        → WriteCall atom area.start slot.area old new result
    area_call result same made =
        subst (λ (n : ℕ). WriteCall n (slot.area_offset / n) slot.area old new result) same made

    area_writes : Stands old mid nothing → MakesCall slot writes_area old new succeeded
        → Shows area_written false now.now
    area_writes stands made =
        area_is_written atom atoms (end_of_copies atom slot) layout from (next_header slot) area
        slot.area first (view_of_cells mid.now) (view_of_cells now.now) lies.long lies.within
        lies.behind front stands.shows
        (turned (IsWritten atom area.start area.count slot.area) stands.told_is
        (table-written atom area.start area.count slot.area old new now
        (area_call succeeded stands.same_atom made) now_is lies.some lies.long
        (places_of_atoms old atoms area.start area.count
        (λ told told_is. all_many old mid stands.told_is stands.many told told_is) lies.within)))

    area_tries : Stands old mid nothing → MakesCall slot writes_area old new failed_call
        → Shows nothing true now.now
    area_tries stands made =
        area_is_tried atom atoms (end_of_copies atom slot) layout from (next_header slot) area
        slot.area first (view_of_cells mid.now) (view_of_cells now.now) lies.long lies.within
        lies.behind front stands.shows
        (turned (IsTried atom area.start area.count slot.area) stands.told_is
        (table-tried atom area.start area.count slot.area old new now
        (area_call failed_call stands.same_atom made) now_is lies.some lies.long))

    area_syncs : Stands old mid area_written → MakesCall slot syncs_area old new succeeded
        → Shows (area_kept begun) false now.now
    area_syncs stands made =
        area_is_synced atom atoms (end_of_copies atom slot) layout from (next_header slot) area
        slot.area first (view_of_cells mid.now) (view_of_cells now.now) lies.long lies.within
        lies.behind front stands.shows
        (turned IsSynced stands.told_is (table-synced old new now made now_is))

    area_thins : Stands old mid area_written → MakesCall slot syncs_area old new failed_call
        → Shows area_written true now.now
    area_thins stands made =
        area_is_thinned atom atoms (end_of_copies atom slot) layout from (next_header slot) area
        slot.area first (view_of_cells mid.now) (view_of_cells now.now) lies.long lies.within
        lies.behind front stands.shows
        (turned IsThinned stands.told_is (table-thinned old new now made now_is))

    commit_call : (stage : CopyStage) → Stands old mid (area_kept (stage_of stage))
        → MakesCall slot (commits stage) old new succeeded
        → Shows (reached_behind (stage_of stage)) false now.now
    commit_call stage stands made =
        let view = (seen stage (primary_in slot) (secondary_in slot) size layout old new now
        (room_for old mid (area_kept (stage_of stage)) stands) now_is).0 made in
        let same = same_told old.told view.0 mid view.1 stands.told_is in
        commit_goes atom atoms (end_of_copies atom slot) layout from (next_header slot) area
        slot.area first (view_of_cells mid.now) (view_of_cells now.now) long_copy lies.behind front
        lies.within goes parts_apart (stage_of stage) stands.shows
        (subst (λ (n : ℕ). CommitCall n layout (next_header slot) (stage_of stage)
        (view_of_cells mid.now) (view_of_cells now.now)) stands.same_atom
        (subst (λ (t : Told). CommitCall old.size layout (next_header slot) (stage_of stage)
        (view_of_cells t.now) (view_of_cells now.now)) same view.2))

    commit_fail : (stage : CopyStage) → Stands old mid (area_kept (stage_of stage))
        → MakesCall slot (commits stage) old new failed_call
        → Shows (area_kept (failed_stage (stage_of stage))) true now.now
    commit_fail stage stands made =
        let view = (seen stage (primary_in slot) (secondary_in slot) size layout old new now
        (room_for old mid (area_kept (stage_of stage)) stands) now_is).1 made in
        let same = same_told old.told view.0 mid view.1 stands.told_is in
        commit_fails atom atoms (end_of_copies atom slot) layout from (next_header slot) area
        slot.area first (view_of_cells mid.now) (view_of_cells now.now) long_copy lies.behind front
        lies.within goes parts_apart (stage_of stage) stands.shows
        (subst (λ (n : ℕ). CommitFails n layout (next_header slot) (stage_of stage)
        (view_of_cells mid.now) (view_of_cells now.now)) stands.same_atom
        (subst (λ (t : Told). CommitFails old.size layout (next_header slot) (stage_of stage)
        (view_of_cells t.now) (view_of_cells now.now)) same view.2))

    shown_behind : (call : SlotCall) → Stands old mid (before_call call)
        → MakesCall slot call old new succeeded → Shows (behind_call call) false now.now
    shown_behind writes_area stands made = area_writes stands made
    shown_behind syncs_area stands made = area_syncs stands made
    shown_behind (commits stage) stands made = commit_call stage stands made

    -- what a call that failed leaves
    pub shown_failed : (call : SlotCall) → Stands old mid (before_call call)
        → MakesCall slot call old new failed_call
        → (reached : Reached) × Shows reached true now.now
    shown_failed writes_area stands made = (nothing, area_tries stands made)
    shown_failed syncs_area stands made = (area_written, area_thins stands made)
    shown_failed (commits stage) stands made =
        (area_kept (failed_stage (stage_of stage)), commit_fail stage stands made)

    pub stands_behind : (call : SlotCall) → Stands old mid (before_call call)
        → MakesCall slot call old new succeeded
        → Stands new now (behind_call call) × (now ≡ then_table mid now.now)
    stands_behind call stands made =
        let m = moved slot call old new now made now_is in
        let same = same_told old.told m.before mid m.told stands.told_is in
        let sizes = same_size slot call old new made in (
          record {
            same_atom = sizes.0 ∙ stands.same_atom;
            same_atoms = sizes.1 ∙ stands.same_atoms;
            told_is = now_is;
            many = m.count ∙ ap (λ (t : Told). length t.now) same ∙ stands.many;
            shows = shown_behind call stands made;
          },
          subst (λ (t : Told). now ≡ then_table t now.now) same m.one,
        )

  -- ---- all of them
  -- each table of which something is shown holds what is promised
  module _ (Holds : List Cell → Type 0) (holds : (reached : Reached) (broken : Bool)
      (cells : List Cell) → length cells ≡ atoms → Shows reached broken cells → Holds cells) where
    failed_since : (call : SlotCall) (old new : Device) (mid now : Told)
        → Stands old mid (before_call call) → MakesCall slot call old new failed_call
        → new.told ≡ Some now → IsSince Holds mid now
    failed_since call old new mid now stands made now_is =
        let m = may_move slot call old new now made now_is in
        let same = same_told old.told m.before mid m.told stands.told_is in
        let shown = shown_failed old new mid now now_is call stands made in
        let it : Holds now.now = holds shown.0 true now.now
        (m.count ∙ ap (λ (t : Told). length t.now) same ∙ stands.many) shown.1 in
        elim m.one as (λ _. IsSince Holds mid now) [
          | inl none ↦ since_none Holds mid now (none ∙ same) it
          | inr one ↦
              since_one Holds mid now (subst (λ (t : Told). now ≡ then_table t now.now) same one) it
        ]

    pub run_since : (calls : List SlotCall) (reached end : Reached) (old new : Device)
        (before now : Told) (result : Result (Unit {0}) Failed) → LeadTo calls reached end
        → Stands old before reached → MakesCalls slot calls old new result → new.told ≡ Some now
        → IsSince Holds before now
    unfolding MakesCalls
    run_since [] reached end old new before now result lead stands made now_is =
        let same : now ≡ before = same_told old.told now before
        (ap (λ (d : Device). d.told) (sym made.0) ∙ now_is) stands.told_is in
        since_none Holds before now same (subst (λ (t : Told). Holds t.now) (sym same)
        (holds reached false before.now stands.many stands.shows))
    run_since (call ∷ calls) reached end old new before now result lead stands (inl (made, failed))
        now_is =
        failed_since call old new before now
        (subst (λ (r : Reached). Stands old before r) lead.0 stands) made now_is
    run_since (call ∷ calls) reached end old new before now result lead stands
        (inr (between, made, rest)) now_is =
        let mid = told_before slot calls between new result rest now now_is in
        let went = stands_behind old between before mid.0 mid.1 call
        (subst (λ (r : Reached). Stands old before r) lead.0 stands) made in
        since_joined Holds before mid.0 now
        (since_one Holds before mid.0 went.1
        (holds (behind_call call) false mid.0.now went.0.many went.0.shows))
        (run_since calls (behind_call call) end between new mid.0 now result lead.1 went.0 rest
        now_is)

  pub run_ends : (calls : List SlotCall) (reached end : Reached) (old new : Device)
      (before now : Told) → LeadTo calls reached end → Stands old before reached
      → MakesCalls slot calls old new succeeded → new.told ≡ Some now → Stands new now end
  unfolding MakesCalls
  run_ends [] reached end old new before now lead stands made now_is =
      let same : before ≡ now = same_told old.told before now stands.told_is
      (ap (λ (d : Device). d.told) (sym made.0) ∙ now_is) in
      subst (λ (d : Device). Stands d now end) (sym made.0)
      (subst (λ (t : Told). Stands old t end) same
      (subst (λ (r : Reached). Stands old before r) lead stands))
  run_ends (call ∷ calls) reached end old new before now lead stands (inl (made, failed)) now_is =
      absurd cc
  run_ends (call ∷ calls) reached end old new before now lead stands (inr (between, made, rest))
      now_is =
      let mid = told_before slot calls between new succeeded rest now now_is in
      let went = stands_behind old between before mid.0 mid.1 call
      (subst (λ (r : Reached). Stands old before r) lead.0 stands) made in
      run_ends calls (behind_call call) end between new mid.0 now lead.1 went.0 rest now_is
