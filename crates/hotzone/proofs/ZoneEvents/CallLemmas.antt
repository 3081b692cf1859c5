-- The device calls of a zone are those of the volume's worker.
use Rattle.std.proofs.Common.{◌≡◌, ◌≢◌, ◌∙◌, ℕ, ◌+◌, ◌-◌, ◌*◌, ◌/◌, ◌<◌, ◌≤◌, min, List, length, take}
use Rattle.std.proofs.Common.{Result, inl, inr, refl, sym, ap, subst, arith}
use Rattle.std.proofs.Math.Nat.{mul-le-mul_right}
use Rattle.std.proofs.lemmas.List.{length-take-le}
use Rattle.std.proofs.lemmas.Nat.{div-mul-add}
use Rattle.base_terms.specs.declared.failed.Failed.{Failed}
use Rattle.crash_laws.specs.HeaderAreas.Commits.{second_written, next_stage}
use Rattle.crash_laws.specs.HeaderAreas.Headers.{IsLaidOut, Layout, secondary}
use Rattle.hotzone.specs.Headings.{AreOf, IsSame}
use Rattle.hotzone.specs.Known.{header_by}
use Rattle.hotzone.specs.Sites.{bytes_at, count_of, part_at}
use Rattle.hotzone.specs.Steps.{Commits}
use Rattle.hotzone.specs.declared.site.Site.{Site}
use Rattle.luks_bin.specs.declared.header.BinHeader.{BinHeader}
use Rattle.luks_store.specs.Copying.Held.{primary_of, secondary_of, stage_in}
use Rattle.luks_store.specs.Copying.Meanings.{header_of}
use Rattle.luks_store.specs.Copying.Seen.{stage_of}
use Rattle.luks_store.specs.Copying.Steps.{CopyCall, next_of}
use Rattle.luks_store.specs.declared.header_copies.commit.Stage.{Stage}
use Rattle.luks_store.specs.declared.header_copies.commit.Stage.TheVariants.{Begun, FirstWritten, FirstKept}
use Rattle.luks_store.specs.declared.header_copies.commit.Stage.TheVariants.{SecondWritten, Ended}
use Rattle.luks_meta.specs.declared.meta.Parts.{Parts}
use Rattle.luks_store.specs.Commits.{IsNext}
use Rattle.luks_store.specs.Loads.{IsStored}
use Rattle.luks_store.specs.declared.commit.Prepared.{Prepared}
use Rattle.luks_store.specs.declared.copies.Copies.{Copies}
use Rattle.luks_store.specs.declared.loaded.Stored.{Stored}
use Rattle.sector_disk.specs.Devices.{Device, WriteCall}
use Rattle.sector_disk.specs.Geometry.{IsAtom}
use Rattle.segment_map.specs.Maps.{most_bytes}
use Rattle.volume_machine.specs.WorkCalls.{PutsCopy, part_of}
use Rattle.hotzone.proofs.ZoneEvents.TextLemmas.{next-long, size-next}

-- ---- stages of a commit
pub stage-on : (s : Stage) → s ≢ SecondWritten → s ≢ Ended
    → stage_of (next_of s) ≡ next_stage (stage_of s)
stage-on Begun last ended = refl
stage-on FirstWritten last ended = refl
stage-on FirstKept last ended = refl
stage-on SecondWritten last ended = absurd (last refl)
stage-on Ended last ended = absurd (ended refl)

pub stage-far : (s : Stage) → s ≢ SecondWritten → s ≢ Ended → stage_of s ≢ second_written
stage-far Begun last ended = λ is. cc
stage-far FirstWritten last ended = λ is. cc
stage-far FirstKept last ended = λ is. cc
stage-far SecondWritten last ended = absurd (last refl)
stage-far Ended last ended = absurd (ended refl)

-- ---- a commit whose copies have this size
pub record IsSized (size : ℕ) (commit : Prepared) : Type 0 where
  pub header : commit.header.hdr_size ≡ size
  pub first : length (primary_of commit.copies) ≡ size
  pub second : length (secondary_of commit.copies) ≡ size

pub sized-next : (stored : Stored) (parts : Parts) (first now : Prepared) → IsStored stored
    → IsNext stored parts first → IsSame first now
    → IsSized stored.copies.used.header.hdr_size now
sized-next stored parts first now is next same = record {
  header = ap (λ (c : Copies). c.used.header.hdr_size) same.copies
      ∙ ap (λ (h : BinHeader). h.hdr_size) next.header;
  first = ap length same.primary ∙ next-long stored parts first is next;
  second = ap length same.secondary ∙ next.whole.size secondary
      ∙ size-next stored parts first is next;
}

-- both commits of a zone
pub opened-sized : (before : Stored) (blocks : ℕ) (opened : Prepared) (next : _)
    → IsStored before → AreOf before blocks opened next
    → IsSized before.copies.used.header.hdr_size opened
opened-sized before blocks opened next is are =
    sized-next before are.between.valid.meta are.first opened is are.commit are.same

pub moved-sized : (before : Stored) (blocks : ℕ) (opened : Prepared) (next : _)
    → IsStored before → AreOf before blocks opened next
    → IsSized before.copies.used.header.hdr_size next.commit
moved-sized before blocks opened next is are =
    subst (λ n. IsSized n next.commit)
    (ap (λ (c : Copies). c.used.header.hdr_size) are.loaded.copies
    ∙ ap (λ (h : BinHeader). h.hdr_size) are.commit.header)
    (sized-next are.between next.loaded.valid.meta are.follows.first next.commit
    are.loaded.stored are.follows.commit are.follows.same)

-- ---- a call of it
copy-put : (stage : Stage) (one two : List ℕ) (size atom atoms : ℕ) (layout : Layout)
    (old new : Device) (result : Result (Unit {0}) Failed) → IsLaidOut atom atoms size layout
    → atom ≡ old.size → 0 < atom → length one ≡ size → length two ≡ size
    → CopyCall stage one two size old new result
    → PutsCopy atom layout (header_of one two) (stage_of stage) old new result
copy-put Begun one two size atom atoms layout old new result laid is some first second call =
    record {
      call = subst (λ at. WriteCall atom at one old new result) (sym laid.first)
          (subst (λ a. WriteCall a 0 one old new result) (sym is) call);
      size = first ∙ sym laid.long;
    }
copy-put FirstWritten one two size atom atoms layout old new result laid is some first second call =
    call
copy-put FirstKept one two size atom atoms layout old new result laid is some first second call =
    record {
      call = subst (λ at. WriteCall atom at two old new result)
          (ap (λ n. n / atom) (sym laid.long)
          ∙ ap (λ n. n / atom) (let e : layout.first.count * atom
          ≡ layout.first.count * atom + 0 = omega arith in e)
          ∙ div-mul-add layout.first.count atom 0 some ∙ sym laid.second)
          (subst (λ a. WriteCall a (size / a) two old new result) (sym is) call);
      size = second ∙ sym laid.long ∙ ap (λ n. n * atom) (sym laid.same);
    }
copy-put SecondWritten one two size atom atoms layout old new result laid is some first second call =
    call
copy-put Ended one two size atom atoms layout old new result laid is some first second call =
    absurd call

pub commit-put : (commit : Prepared) (size atom atoms : ℕ) (layout : Layout) (old new : Device)
    (result : Result (Unit {0}) Failed) → IsLaidOut atom atoms size layout → atom ≡ old.size
    → 0 < atom → IsSized size commit → Commits commit old new result
    → PutsCopy atom layout (header_by commit) (stage_of (stage_in commit.copies)) old new result
commit-put commit size atom atoms layout old new result laid is some sized call =
    copy-put (stage_in commit.copies) (primary_of commit.copies) (secondary_of commit.copies) size
    atom atoms layout old new result laid is some sized.first sized.second
    (subst (λ n. CopyCall (stage_in commit.copies) (primary_of commit.copies)
    (secondary_of commit.copies) n old new result) sized.header call)

-- ---- parts
pub part-is : (site : Site) (atom done : ℕ) → site.atom ≡ atom
    → part_at site done ≡ part_of atom (count_of site - done)
part-is site atom done is = ap (λ a. min (count_of site - done) (most_bytes / a)) is

pub part-long : (site : Site) (buffer : List ℕ) (atom done : ℕ) → site.atom ≡ atom
    → bytes_at site 0 ≤ length buffer
    → length (take (bytes_at site done) buffer) ≡ part_at site done * atom
part-long site buffer atom done is room =
    let less : part_at site done ≤ part_at site 0 = omega arith in
    let fewer = mul-le-mul_right site.atom less in
    length-take-le (bytes_at site done) buffer (omega (arith, fewer, room))
    ∙ ap (λ a. part_at site done * a) is

pub most-atoms : (atom : ℕ) → IsAtom atom → 0 < most_bytes / atom
most-atoms atom (inl is) = rw is (omega arith)
most-atoms atom (inr is) = rw is (omega arith)
