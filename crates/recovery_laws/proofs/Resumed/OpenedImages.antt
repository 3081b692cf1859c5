-- Images of the tables that an opening was told: each stands for the content by its own header, as the next
-- opening begins with it.
use Rattle.std.proofs.Common.{◌≡◌, ◌⊎◌, ◌∙◌, ◌+◌, ◌<◌, inl, inr, ℕ, true, false, List, [], length, drop}
use Rattle.std.proofs.Common.{Bool, None, Option, Some, Ok, ap, refl, subst, sym}
use Rattle.std.proofs.Math.Seq.{drop-append-add}
use Rattle.std.specs.List.{All}
use Rattle.std.specs.Prelude.{slice_index_or}
use Rattle.base_terms.specs.Blocks.{joined}
use Rattle.base_terms.specs.declared.disk_sizes.Sizes.{Sizes}
use Rattle.hotzone.specs.Workers.{MayGoOn}
use Rattle.hotzone.specs.declared.worker.NextHeader.{NextHeader}
use Rattle.luks_rules.specs.Segments.{in_progress}
use Rattle.luks_rules.specs.Shapes.{progress_of}
use Rattle.luks_rules.specs.declared.shape.Progress.{Progress}
use Rattle.luks_rules.specs.declared.valid.Checked.{Checked}
use Rattle.luks_store.specs.Devices.{front_of}
use Rattle.luks_store.specs.Loads.{stored_in}
use Rattle.luks_store.specs.declared.loaded.Stored.{Stored}
use Rattle.reenc_meta.specs.Layouts.{progress_at}
use Rattle.reenc_meta.specs.Moves.{moved as moved_over}
use Rattle.reenc_recovery.specs.Tables.{IsSpared}
use Rattle.recovery_laws.proofs.Resumed.TableLemmas.{one-told}
use Rattle.recovery_laws.specs.Resumed.Chaining.{GoesOnIn, StandsAgain}
use Rattle.recovery_laws.specs.Resumed.Keeping.{IsBy, KeepsAtRepair, KeepsContent, OpenedSince}
use Rattle.recovery_laws.specs.Resumed.Keeping.{StandsAtMending, StandsAtRepair, TellsOpened}
use Rattle.recovery_laws.specs.Resumed.Repeating.{IsTableSince}
use Rattle.recovery_laws.specs.Resumed.Repeating.{tables_since}
use Rattle.sector_disk.specs.Cells.{Cell}
use Rattle.sector_disk.specs.Devices.{Device}
use Rattle.sector_disk.specs.Steps.{Told}
use Rattle.image_laws.proofs.Started.GapLemmas.{one-header}
use Rattle.hotzone.proofs.ZoneEvents.GroundLemmas.{busy-of}
use Rattle.image_laws.specs.Led.Holding.{HoldsSince, TellsOn}
use Rattle.image_laws.specs.Led.Spared.{IsSparedTurn}
use Rattle.image_laws.specs.Led.Turned.{StandsBy}
use Rattle.zone_mending.specs.OpenZones.{IsMoved}

abbrev Table : Type 0
Table = Option ℕ × List Cell

-- ---- tables
module _ (Holds : List Cell → Type 0) where
  of-all : (more tables : List Table) → tables ≡ more → All (λ table. Holds table.1) more → (k : ℕ)
      → k < length tables → Holds (slice_index_or tables k (None, [])).1
  of-all more tables same all k below =
      subst (λ (t : List Table). Holds (slice_index_or t k (None, [])).1) (sym same)
      (all k (None, []) (subst (λ (t : List Table). k < length t) same below))

  pub table-opened : (old new : Device) (cells : List Cell) → TellsOpened Holds old new
      → IsTableSince 1 old new cells → Holds cells
  table-opened old new cells told s =
      let (before, was, since) = told s.now s.is in
      let here = subst (λ (t : Told). OpenedSince Holds t s.now)
      (one-told before s.before old.told was s.was) since in
      go here s.table
    where
      go : OpenedSince Holds s.before s.now
          → (cells ≡ s.now.now) ⊎ ((k : ℕ) × (k < length (tables_since 1 s.before s.now))
          × (cells ≡ (slice_index_or (tables_since 1 s.before s.now) k (None, [])).1))
          → Holds cells
      go here (inl is) = subst Holds (sym is) here.last
      go here (inr (k, below, is)) =
          subst Holds (sym is)
          (of-all here.more (tables_since 1 s.before s.now)
          (ap (drop (length s.before.past + 1)) here.past
          ∙ drop-append-add s.before.past _ 1) here.each k below)

  pub table-on : (old new : Device) (cells : List Cell) → TellsOn Holds old new
      → IsTableSince 0 old new cells → Holds cells
  table-on old new cells told s =
      let (before, was, since) = told s.now s.is in
      let here = subst (λ (t : Told). HoldsSince Holds t s.now)
      (one-told before s.before old.told was s.was) since in
      go here s.table
    where
      go : HoldsSince Holds s.before s.now
          → (cells ≡ s.now.now) ⊎ ((k : ℕ) × (k < length (tables_since 0 s.before s.now))
          × (cells ≡ (slice_index_or (tables_since 0 s.before s.now) k (None, [])).1))
          → Holds cells
      go here (inl is) = subst Holds (sym is) here.last
      go here (inr (k, below, is)) =
          subst Holds (sym is)
          (of-all here.more (tables_since 0 s.before s.now)
          (ap (drop (length s.before.past + 0)) here.past
          ∙ drop-append-add s.before.past here.more 0) here.each k below)

-- ---- whether a conversion is under way by a header
pub goes-by : (sizes : Sizes) (bytes : List ℕ) (header : Stored)
    → in_progress header.valid.meta.config ≡ true → IsBy sizes header bytes → GoesOnIn sizes bytes
goes-by sizes bytes header busy by other is =
    subst (λ (v : Checked). in_progress v.meta.config ≡ true) (sym (by other is)) busy

pub by-one : (sizes : Sizes) (bytes : List ℕ) (stored header : Stored)
    → stored_in sizes (front_of sizes bytes) ≡ Ok stored → stored.valid ≡ header.valid
    → IsBy sizes header bytes
by-one sizes bytes stored header held same other is =
    ap (λ (s : Stored). s.valid) (one-header sizes bytes other stored is held) ∙ same

pub not-both : {b : Bool} → b ≡ true → b ≡ false → ⊥
not-both busy rests = (let e : true ≡ false = sym busy ∙ rests in cc)

-- the header with the boundary moved is one of a conversion
pub moved-known : (sizes : Sizes) (header next : Stored) → header.valid.sizes ≡ sizes
    → (moved : NextHeader) → IsMoved header moved → next ≡ moved.loaded
    → (p : Progress) × (progress_of next.valid.meta sizes ≡ Some p)
moved-known sizes header next sized moved is same =
    let (c, known, gone) = is.moves in
    let p = progress_at (moved_over c.conversion.direction c.plan.zone c.plan) c in (
      p,
      subst (λ (s : Stored). progress_of s.valid.meta sizes ≡ Some p) (sym same)
          (subst (λ (z : Sizes). progress_of moved.loaded.valid.meta z ≡ Some p) sized gone.progress),
    )

-- ---- images of an opening
module _ (sizes : Sizes) (old_key new_key : List ℕ) (content : List (List ℕ)) where
  abbrev Again : List ℕ → Type 0
  Again image = StandsAgain sizes old_key new_key image content

  pub repair-again : (header : Stored) → in_progress header.valid.meta.config ≡ true
      → (old mended : Device) → KeepsAtRepair sizes header old_key new_key content old mended → (cells : List Cell)
      (values : List (List ℕ)) → IsTableSince 1 old mended cells
      → IsSpared sizes header cells values → Again (joined values)
  repair-again header busy old mended keeps cells values table spared =
      let (stands, by) = table-opened (StandsAtRepair sizes header old_key new_key content) old mended
      cells keeps table values spared in
      inl (stands, goes-by sizes (joined values) header busy by)

  pub turned-again : (header next : Stored) (p : Progress)
      → progress_of next.valid.meta sizes ≡ Some p → (image : List ℕ)
      → StandsBy sizes header next old_key new_key image content → Again image
  turned-again header next p known image (inl still) =
      inl (
        inr still.stands,
        goes-by sizes image still.stands.stored
            (busy-of still.stands.stored.valid.meta sizes still.stands.now still.stands.known)
            (by-one sizes image still.stands.stored still.stands.stored still.stands.header refl),
      )
  turned-again header next p known image (inr turned) =
      inl (
        inl turned.stands,
        goes-by sizes image next (busy-of next.valid.meta sizes p known)
            (by-one sizes image turned.stands.stored next turned.stands.header turned.valid),
      )

  pub mending-again : (header next : Stored) → header.valid.sizes ≡ sizes → (old mended new : Device)
      → KeepsContent sizes header next old_key new_key content old mended new
      → (MayGoOn header → ⊥) → (cells : List Cell) (values : List (List ℕ))
      → IsTableSince 0 mended new cells → IsSparedTurn sizes header next cells values
      → Again (joined values)
  mending-again header next sized old mended new keeps busy cells values table spared =
      let (moved, is, same) = keeps.moves busy in
      let (p, known) = moved-known sizes header next sized moved is same in
      turned-again header next p known (joined values)
      (table-on (StandsAtMending sizes header next old_key new_key content) mended new cells
      (keeps.at_mending busy) table values spared)
