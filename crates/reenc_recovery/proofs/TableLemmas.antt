-- The tables of an opening: each image of each stands for the same content.
use Rattle.std.proofs.Common.{◌≡◌, inl, inr, ℕ, List, [], ◌∷◌}
use Rattle.std.proofs.Common.{◌++◌, map, Option, Some}
use Rattle.std.proofs.Common.{append_assoc, refl, sym, ◌∙◌, ap, ap₂, subst, arith}
use Rattle.std.proofs.lemmas.List.{append-nil}
use Rattle.std.proofs.lemmas.List.Elements.{All-append, All-cons, All-nil, Contains-push_cases}
use Rattle.std.specs.List.{All}
use Rattle.std.specs.Prelude.{Contains}
use Rattle.base_terms.specs.Blocks.{joined}
use Rattle.sector_disk.specs.JoinedDisks.Joined.{Joint, joined_disk}
use Rattle.base_terms.specs.declared.disk_sizes.Sizes.{Sizes}
use Rattle.reenc_recovery.specs.Calls.{DiskSyncsAndReads, SyncsAndReads}
use Rattle.reenc_recovery.specs.Images.{StandsAs}
use Rattle.reenc_recovery.specs.Tables.{StandsSince, StandsStill, TellsSince}
use Rattle.reenc_recovery.proofs.JointCallLemmas.{disk_reads}
use Rattle.reenc_recovery.proofs.KeepLemmas.{stands_unwritten}
use Rattle.sector_disk.specs.Cells.{AreSettled, Cell, IsImage, content, currents, synced}
use Rattle.sector_disk.specs.Devices.{Device}
use Rattle.sector_disk.specs.Steps.{Told, then_table}

-- ---- a table of which each atom is certain
none_held : (P : Type 0) (value : List ℕ) → Contains [] value → P
none_held P value has = absurd (omega (arith, has.1))

one_held : (x value : List ℕ) → Contains (x ∷ []) value → value ≡ x
one_held x value has =
    elim (Contains-push_cases [] x value has) as (λ _. value ≡ x) [
      | inl held ↦ none_held (value ≡ x) value held
      | inr same ↦ sym same
    ]

pub currents-synced : (cells : List Cell) → currents (map synced cells) ≡ currents cells
unfolding currents
currents-synced [] = refl
currents-synced (cell ∷ cells) = ap (λ rest. cell.current ∷ rest) (currents-synced cells)

one_image : (cells : List Cell) (image : List (List ℕ)) → IsImage (map synced cells) image
    → image ≡ currents cells
unfolding IsImage currents
one_image [] [] is = refl
one_image [] (value ∷ image) is = absurd is
one_image (cell ∷ cells) [] is = absurd is
one_image (cell ∷ cells) (value ∷ image) is =
    ap₂ (λ x xs. x ∷ xs) (one_held cell.current value is.0) (one_image cells image is.1)

joined-one : (cells : List Cell) (image : List (List ℕ)) → image ≡ currents cells
    → content cells ≡ joined image
unfolding content
joined-one cells image is = sym (ap (λ values. joined values) is)

pub still_settled : (sizes : Sizes) (cells table : List Cell) → table ≡ map synced cells
    → StandsStill sizes (content cells) table
still_settled sizes cells table same stored held image spared =
    subst (λ (bytes : List ℕ). StandsAs sizes stored (content cells) bytes)
    (joined-one cells image
    (one_image cells image (subst (λ (t : List Cell). IsImage t image) same spared.is)))
    (stands_unwritten sizes stored (content cells) held)

-- ---- the sync and the reads
pub record IsSettledSince (before now : Told) : Type 0 where
  pub more : List (Option ℕ × List Cell)
  pub past : now.past ≡ before.past ++ (before.mark, map synced before.now) ∷ more
  pub same : All (λ (table : Option ℕ × List Cell). table.1 ≡ map synced before.now) more
  pub cells : now.now ≡ map synced before.now

pub settled : (old read : Device) → DiskSyncsAndReads old read → (now : Told)
    → read.told ≡ Some now
    → (before : Told) × (old.told ≡ Some before) × IsSettledSince before now
settled old read run now is =
    let reads = run.unwritten.told now is in
    let mid = reads.0 in
    let syncs = run.sync.told mid reads.1 in
    let before = syncs.0 in
    let moved = syncs.2 in
    let kept = reads.2 in
    let mid_past : mid.past ≡ before.past ++ (before.mark, map synced before.now) ∷ [] =
    ap (λ (t : Told). t.past) moved.one
    ∙ ap (λ (cells : List Cell). before.past ++ (before.mark, cells) ∷ []) moved.step in (
      before,
      syncs.1,
      record {
        more = kept.more;
        past = kept.past ∙ ap (λ past. past ++ kept.more) mid_past
            ∙ append_assoc before.past ((before.mark, map synced before.now) ∷ []) kept.more;
        same = subst (λ (cells : List Cell). All (λ (table : Option ℕ × List Cell). table.1 ≡ cells)
            kept.more) moved.step kept.same;
        cells = kept.cells ∙ moved.step;
      },
    )

all_still : (sizes : Sizes) (cells : List Cell) (more : List (Option ℕ × List Cell))
    → All (λ (table : Option ℕ × List Cell). table.1 ≡ map synced cells) more
    → All (λ (table : Option ℕ × List Cell). StandsStill sizes (content cells) table.1) more
all_still sizes cells more same k d below =
    still_settled sizes cells _ (same k d below)

pub stands_settled : (sizes : Sizes) (before now : Told) → IsSettledSince before now
    → StandsSince sizes before now
stands_settled sizes before now is = record {
  more = is.more;
  past = is.past;
  each = all_still sizes before.now is.more is.same;
  last = still_settled sizes before.now now.now is.cells;
}

pub disk_reads_keep : (sizes : Sizes) (old read : Device) → DiskSyncsAndReads old read
    → TellsSince sizes old read
disk_reads_keep sizes old read run now is =
    let has = settled old read run now is in
    (has.0, has.1, stands_settled sizes has.0 now has.2)

pub reads_keep : (sizes : Sizes) (old read : Joint) → SyncsAndReads old read
    → TellsSince sizes (joined_disk old) (joined_disk read)
reads_keep sizes old read run =
    disk_reads_keep sizes (joined_disk old) (joined_disk read) (disk_reads old read run)

-- ---- what a sync leaves
all_settled : (cells : List Cell) → AreSettled (map synced cells)
unfolding AreSettled
all_settled [] = tt
all_settled (cell ∷ cells) = (refl, all_settled cells)

pub settled-synced : (cells table : List Cell) → table ≡ map synced cells → AreSettled table
settled-synced cells table same =
    subst (λ (t : List Cell). AreSettled t) (sym same) (all_settled cells)

-- ---- some calls more
pub record StillSince (sizes : Sizes) (first : List ℕ) (mid now : Told) : Type 0 where
  pub more : List (Option ℕ × List Cell)
  pub past : now.past ≡ mid.past ++ more
  pub each : All (λ (table : Option ℕ × List Cell). StandsStill sizes first table.1) more
  pub last : StandsStill sizes first now.now

pub still_none : (sizes : Sizes) (first : List ℕ) (mid now : Told) → now ≡ mid
    → StandsStill sizes first now.now → StillSince sizes first mid now
still_none sizes first mid now same still = record {
  more = [];
  past = ap (λ (t : Told). t.past) same ∙ sym (append-nil mid.past);
  each = All-nil (λ (table : Option ℕ × List Cell). StandsStill sizes first table.1);
  last = still;
}

pub still_one : (sizes : Sizes) (first : List ℕ) (mid now : Told) → now ≡ then_table mid now.now
    → StandsStill sizes first now.now → StillSince sizes first mid now
still_one sizes first mid now one still = record {
  more = (mid.mark, now.now) ∷ [];
  past = ap (λ (t : Told). t.past) one;
  each = All-cons (λ (table : Option ℕ × List Cell). StandsStill sizes first table.1)
      (mid.mark, now.now) [] still
      (All-nil (λ (table : Option ℕ × List Cell). StandsStill sizes first table.1));
  last = still;
}

pub still_joined : (sizes : Sizes) (first : List ℕ) (a b c : Told) → StillSince sizes first a b
    → StillSince sizes first b c → StillSince sizes first a c
still_joined sizes first a b c one later = record {
  more = one.more ++ later.more;
  past = later.past ∙ ap (λ past. past ++ later.more) one.past
      ∙ append_assoc a.past one.more later.more;
  each = All-append (λ (table : Option ℕ × List Cell). StandsStill sizes first table.1) one.more
      later.more one.each later.each;
  last = later.last;
}

pub stands_later : (sizes : Sizes) (before mid now : Told) → IsSettledSince before mid
    → StillSince sizes (content before.now) mid now → StandsSince sizes before now
stands_later sizes before mid now is still = record {
  more = is.more ++ still.more;
  past = still.past ∙ ap (λ past. past ++ still.more) is.past
      ∙ append_assoc before.past ((before.mark, map synced before.now) ∷ is.more) still.more;
  each = All-append (λ (table : Option ℕ × List Cell).
      StandsStill sizes (content before.now) table.1) is.more still.more
      (all_still sizes before.now is.more is.same) still.each;
  last = still.last;
}
