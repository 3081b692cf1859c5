-- The header with which the conversion of a demonstration's volume begins, as it stands on the disk.
use Rattle.std.proofs.Common.{◌≡◌, ◌∙◌, ◌+◌, ◌*◌, ◌/◌, ◌%◌, ℕ, List, [], ◌∷◌, ◌++◌, length, drop}
use Rattle.std.proofs.Common.{Option, None, Some, Ok, inl, inr, ap, arith, subst, sym, IsSomeAnd}
use Rattle.std.proofs.lemmas.List.{append_assoc, drop-drop, drop_at, take_at}
use Rattle.base_terms.specs.Blocks.{pasted}
use Rattle.base_terms.specs.declared.disk_sizes.Sizes.{Sizes}
use Rattle.header_report.specs.Examinations.{sizes_alone}
use Rattle.hotzone.specs.Sites.{IsSaved}
use Rattle.luks_init.proofs.DiskInit.ImageLemmas.{next_meta}
use Rattle.luks_init.proofs.DiskInit.StartLemmas.{has_alone}
use Rattle.luks_init.specs.DiskInit.Answers.{IsBegunUnder}
use Rattle.luks_init.specs.DiskInit.Makings.{IsMade, draw_of}
use Rattle.luks_init.specs.Metadata.{IsBeginning, wish_for, wish_with}
use Rattle.luks_init.specs.declared.places.Places.{Places}
use Rattle.luks_meta.specs.declared.config.Config.{Config}
use Rattle.luks_meta.specs.declared.meta.Parts.{Parts}
use Rattle.luks_meta.specs.declared.segment.Segment.{Segment}
use Rattle.luks_rules.specs.Shapes.{progress_of}
use Rattle.luks_rules.specs.Idles.{idle_of}
use Rattle.luks_rules.specs.declared.idle.Idle.{Idle}
use Rattle.luks_rules.specs.declared.shape.Progress.{Progress}
use Rattle.luks_slots.specs.KeyMaking.Drawings.{Draw}
use Rattle.luks_store.specs.Commits.{IsNextStored, IsPrepared}
use Rattle.luks_store.specs.Copying.Held.{copy_in, place_in}
use Rattle.luks_store.specs.Copying.Steps.{FitDisk}
use Rattle.luks_store.specs.Loads.{stored_in}
use Rattle.luks_store.specs.SlotCommits.Calls.{MakesCall, MakesCalls, SlotCall, WritesSlot, commits}
use Rattle.luks_store.specs.SlotCommits.Calls.{copy_size, primary_in, secondary_in, syncs_area}
use Rattle.luks_store.specs.SlotCommits.Calls.{writes_area}
use Rattle.luks_store.specs.declared.header_copies.commit.Stage.TheVariants.{Begun, FirstWritten, FirstKept}
use Rattle.luks_store.specs.declared.header_copies.commit.Stage.TheVariants.{SecondWritten}
use Rattle.luks_store.specs.declared.header_copies.repair.Repair.{Repair}
use Rattle.luks_store.specs.declared.loaded.Stored.{Stored}
use Rattle.luks_store.specs.declared.slot_commit.writing.SlotCommit.{SlotCommit}
use Rattle.reenc_meta.specs.Starts.{progress_from, progress_to}
use Rattle.reenc_recovery.specs.Calls.{DiskOpeningRun}
use Rattle.sector_disk.specs.Devices.{Device, succeeded}
use Rattle.sector_disk.specs.JoinedDisks.Counts.{HasSizes}
use Rattle.reenc_tool.specs.Demonstrating.{demo_starting}
use Rattle.reenc_tool.specs.Starting.{wish_of}

-- ---- copies of a header
-- the first of some calls succeeded, and then the others
went : (slot : SlotCommit) (call : SlotCall) (calls : List SlotCall) (old new : Device)
    → MakesCalls slot (call ∷ calls) old new succeeded
    → (between : Device) × MakesCall slot call old between succeeded
    × MakesCalls slot calls between new succeeded
unfolding MakesCalls
went slot call calls old new (inl (made, failed)) = absurd (cc)
went slot call calls old new (inr rest) = rest

none_left : (slot : SlotCommit) (old new : Device) → MakesCalls slot [] old new succeeded
    → new ≡ old
unfolding MakesCalls
none_left slot old new made = made.0

-- bytes over the front of a text, and behind a front
over_front : (old bytes : List ℕ) (at : ℕ) → at ≡ 0
    → pasted old at bytes ≡ bytes ++ drop (length bytes) old
unfolding pasted
over_front old bytes at none =
    ap (λ (n : ℕ). pasted old n bytes) none
    ∙ ap (λ (n : ℕ). bytes ++ drop n old)
    (let e : 0 + length bytes ≡ length bytes = omega arith in e)

behind_front : (front rest bytes : List ℕ) (at : ℕ) → length front ≡ at
    → pasted (front ++ rest) at bytes ≡ front ++ (bytes ++ drop (length bytes) rest)
unfolding pasted
behind_front front rest bytes at long =
    ap (λ xs. xs ++ bytes ++ drop (at + length bytes) (front ++ rest)) (take_at front rest at long)
    ∙ ap (λ xs. front ++ bytes ++ xs)
    (sym (drop-drop (length bytes) at (front ++ rest))
    ∙ ap (drop (length bytes)) (drop_at front rest at long))
    ∙ append_assoc front bytes (drop (length bytes) rest)

whole_atoms : (n size : ℕ) → size ≡ 512 → n % 512 ≡ 0 → n / size * size ≡ n
whole_atoms n size is whole = rw is (omega (arith, whole))

module _ (slot : SlotCommit) (next : Stored) (next_is : IsNextStored slot.commit next)
    (prepared : IsPrepared slot.commit) (old new : Device) (atom : old.size ≡ 512)
    (whole : copy_size slot % 512 ≡ 0) (calls : WritesSlot slot old new succeeded) where
  -- both copies stand in front
  copies_stand : (first : List ℕ) → old.values ≡ Some first
      → (rest : List ℕ) × (new.values ≡ Some (primary_in slot ++ (secondary_in slot ++ rest)))
  copies_stand first values =
      let one = primary_in slot in
      let two = secondary_in slot in
      let a = went slot writes_area _ old new calls in
      let b = went slot syncs_area _ a.0 new a.2 in
      let c = went slot (commits Begun) _ b.0 new b.2 in
      let d = went slot (commits FirstWritten) _ c.0 new c.2 in
      let e = went slot (commits FirstKept) _ d.0 new d.2 in
      let f = went slot (commits SecondWritten) _ e.0 new e.2 in
      let size : d.0.size ≡ 512 = d.1.size ∙ c.1.size ∙ b.1.size ∙ a.1.size ∙ atom in
      let xs = pasted first (slot.area_offset / old.size * old.size) slot.area in
      let area : b.0.values ≡ Some xs = b.1.values ∙ a.1.values first values in
      let behind = drop (length one) xs in
      let over : d.0.values ≡ Some (one ++ behind) =
      d.1.values ∙ c.1.values xs area
      ∙ ap Some (over_front xs one (0 * b.0.size) (omega arith)) in
      let place : length one ≡ copy_size slot / d.0.size * d.0.size =
      prepared.first.whole.whole ∙ sym (whole_atoms (copy_size slot) d.0.size size whole) in (
        drop (length two) behind,
        ap (λ (device : Device). device.values) (none_left slot f.0 new f.2)
            ∙ f.1.values ∙ e.1.values (one ++ behind) over
            ∙ ap Some (behind_front one behind two (copy_size slot / d.0.size * d.0.size) place),
      )

  -- so the header is the next one
  pub holds_next : (first bytes : List ℕ) → old.values ≡ Some first → new.values ≡ Some bytes
      → stored_in slot.commit.sizes bytes ≡ Ok next
  holds_next first bytes values told =
      let stand = copies_stand first values in
      let same : primary_in slot ++ (secondary_in slot ++ stand.0) ≡ bytes =
      (let e : Some (primary_in slot ++ (secondary_in slot ++ stand.0)) ≡ Some bytes =
      sym stand.1 ∙ told in cc) in
      subst (λ (b : List ℕ). stored_in slot.commit.sizes b ≡ Ok next) same (next_is.loads stand.0)

-- a disk that told its bytes tells them behind an opening
opened_values : (repair : Option Repair) (old new : Device) (first : List ℕ)
    → old.values ≡ Some first → DiskOpeningRun repair old new succeeded
    → (now : List ℕ) × (new.values ≡ Some now)
opened_values None old new first values run = (
  first,
  ap (λ (d : Device). d.values) run.run ∙ run.first.unwritten.values ∙ run.first.sync.values ∙ values,
)
opened_values (Some repair) old new first values run =
    let read : run.read.values ≡ Some first =
    run.first.unwritten.values ∙ run.first.sync.values ∙ values in (
      pasted first (place_in repair / run.read.size * run.read.size) (copy_in repair),
      run.run.sync.values ∙ run.run.write.values first read,
    )

opened_size : (repair : Option Repair) (old new : Device) → DiskOpeningRun repair old new succeeded
    → new.size ≡ old.size
opened_size None old new run =
    ap (λ (d : Device). d.size) run.run ∙ run.first.unwritten.size ∙ run.first.sync.size
opened_size (Some repair) old new run =
    run.run.sync.size ∙ run.run.write.size ∙ run.first.unwritten.size ∙ run.first.sync.size

-- ---- what is saved of zones
-- by checksum something is
saved_start : (c : Config) (atom at : ℕ) (d : Draw) (p : Places) (m : Parts) (v : Idle)
    (segments : List (ℕ × Segment)) (now : Progress)
    → progress_from at (wish_for c atom (wish_of demo_starting) d p) m v segments ≡ Some now
    → IsSaved now.conversion.resilience
unfolding progress_to wish_with
saved_start c atom at d p m v [] now is = absurd (cc)
saved_start c atom at d p m v (s ∷ more) now is =
    subst (λ (o : Option Progress). IsSomeAnd o (λ now. IsSaved now.conversion.resilience)) is tt

saved_begun : (m : Parts) (sizes : Sizes) (d : Draw) (p : Places) (next : Parts) (o : Option Idle)
    (now : Progress)
    → IsSomeAnd o (λ v. IsBeginning m sizes (wish_of demo_starting) d p v next)
    → progress_of next sizes ≡ Some now → IsSaved now.conversion.resilience
saved_begun m sizes d p next None now begins is = absurd begins
saved_begun m sizes d p next (Some v) now begins is =
    saved_start m.config sizes.atom sizes.atom d p m v m.segments now (sym begins.progress ∙ is)

-- ---- what `init` leaves
module _ (disk back : Device) (pass seed first bytes : List ℕ) (atom : disk.size ≡ 512)
    (known : disk.values ≡ Some first)
    (under : IsBegunUnder disk (wish_of demo_starting) pass seed back succeeded) where
  abbrev slot : SlotCommit
  slot = under.begun.slot

  abbrev made : IsMade under.begun.header (wish_of demo_starting) pass seed slot
  made = under.begun.ready.made

  -- the header that is in the bytes then
  abbrev pub next : Stored
  next = made.is.loaded.0

  pub sizes_were : slot.commit.sizes ≡ sizes_alone disk
  sizes_were = made.is.next.sizes ∙ under.begun.ready.checked.found.sizes_are

  fits_there : FitDisk (primary_in slot) (secondary_in slot) (copy_size slot) disk
  fits_there = made.is.fit disk
      (subst (λ (z : Sizes). HasSizes z disk) (sym sizes_were) (has_alone disk)) (inl atom)

  copy_whole : copy_size slot % 512 ≡ 0
  copy_whole =
      ap (λ (n : ℕ). n % 512) (sym made.is.prepared.second.whole.whole)
      ∙ ap (λ (n : ℕ). length (secondary_in slot) % n) (sym atom) ∙ fits_there.second.whole

  pub next_held : back.values ≡ Some bytes → stored_in (sizes_alone disk) bytes ≡ Ok next
  next_held told =
      let read = under.unlocked.unwritten in
      let between = opened_values under.begun.repair under.read under.begun.between first
      (read.values ∙ known) under.begun.opening in
      let size = opened_size under.begun.repair under.read under.begun.between under.begun.opening
      ∙ read.size ∙ atom in
      subst (λ (z : Sizes). stored_in z bytes ≡ Ok made.is.loaded.0) sizes_were
      (holds_next slot made.is.loaded.0 made.is.loaded.1 made.is.prepared under.begun.between back
      size copy_whole under.begun.slot_calls between.0 bytes between.1 told)

  pub next_saves : (now : Progress) → progress_of next.valid.meta (sizes_alone disk) ≡ Some now
      → IsSaved now.conversion.resilience
  next_saves now is =
      let header = under.begun.header in
      let sizes_are = under.begun.ready.checked.found.sizes_are in
      let meta = next_meta header (wish_of demo_starting) pass seed slot made.is.loaded.0 made
      made.is.loaded.1 in
      saved_begun header.valid.meta header.valid.sizes (draw_of (wish_of demo_starting) seed)
      made.begun.places made.begun.meta
      (idle_of header.valid.meta header.valid.sizes) now made.begins.meta
      (ap (λ (m : Parts). progress_of m header.valid.sizes) (sym meta)
      ∙ ap (λ (z : Sizes). progress_of made.is.loaded.0.valid.meta z) sizes_are ∙ is)
