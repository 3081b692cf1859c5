-- The tables of a disk from the one that it told when it was handed in to those that it tells when it
-- is handed back.
use Rattle.std.proofs.Common.{◌≡◌, ◌∙◌, ℕ, List, ◌∷◌, ◌++◌, map, Option, Some, append_assoc, ap, sym}
use Rattle.std.proofs.Common.{subst}
use Rattle.std.specs.List.{All}
use Rattle.base_terms.specs.declared.disk_sizes.Sizes.{Sizes}
use Rattle.luks_init.specs.DiskInit.Tables.{TellsOn, TellsThroughout}
use Rattle.luks_store.specs.Devices.{KeepsBytes}
use Rattle.luks_store.specs.declared.loaded.Stored.{Stored}
use Rattle.reenc_recovery.specs.Tables.{StandsStill, TellsSince}
use Rattle.sector_disk.specs.Cells.{Cell, content, synced}
use Rattle.sector_disk.specs.Devices.{Device}
use Rattle.sector_disk.specs.Steps.{Told}
use Rattle.luks_store.specs.declared.slot_commit.writing.SlotCommit.{SlotCommit}

pub throughout : (sizes : Sizes) (pass first : List ℕ) (header : Stored) (slot : SlotCommit)
    (device read between back : Device) → KeepsBytes device read → TellsSince sizes read between
    → TellsOn sizes pass header slot first between back
    → ((told : Told) → device.told ≡ Some told → device.values ≡ Some (content told.now))
    → device.values ≡ Some first → TellsThroughout sizes pass first header slot device back
throughout sizes pass first header slot device read between back kept opened on agrees told now
    now_is =
    let late = on now now_is in
    let mid = opened late.0 late.1 in
    let start = kept.told mid.0 mid.1 in
    let before = start.0 in
    let reads = start.2 in
    let since = mid.2 in
    let writes = late.2 in
    let bytes : content before.now ≡ first =
    (let e : Some (content before.now) ≡ Some first = sym (agrees before start.1) ∙ told in cc) in
    let held : content mid.0.now ≡ first =
    ap (λ (cells : List Cell). content cells) reads.cells ∙ bytes in (
      before,
      start.1,
      record {
        reads = reads.more;
        unwritten = reads.same;
        mark = mid.0.mark;
        repairs = since.more;
        repaired = subst (λ (f : List ℕ). All (λ (table : Option ℕ × List Cell).
            StandsStill sizes f table.1) since.more) held since.each;
        writes = writes.more;
        written = writes.each;
        past = writes.past
            ∙ ap (λ past. past ++ writes.more)
            (since.past
            ∙ ap (λ past. past ++ (mid.0.mark, map synced mid.0.now) ∷ since.more) reads.past)
            ∙ append_assoc (before.past ++ reads.more)
            ((mid.0.mark, map synced mid.0.now) ∷ since.more) writes.more
            ∙ append_assoc before.past reads.more
            ((mid.0.mark, map synced mid.0.now) ∷ (since.more ++ writes.more))
            ∙ ap (λ (cells : List Cell). before.past
            ++ (reads.more ++ (mid.0.mark, map synced cells) ∷ (since.more ++ writes.more)))
            reads.cells;
        last = writes.last;
      },
    )
