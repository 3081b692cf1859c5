-- Parts of a zone on their way: after each step of the zone what is known of its part is known of
-- the next one.
use Rattle.std.proofs.Common.{Bool, List, Some, ap, arith, false, if◌then◌else◌, length, refl, sym}
use Rattle.std.proofs.Common.{true, replicate, zero, suc, ℕ, ◌*◌, ◌++◌, ◌+◌, ◌-◌, ◌/◌, ◌<◌, ◌==◌}
use Rattle.std.proofs.Common.{◌∙◌, ◌≡◌, ◌≤◌}
use Rattle.crash_laws.specs.HotZones.Zones.{Resilience, ShowsZone, checksum, datashift, journal}
use Rattle.sector_disk.specs.DiskViews.Parts.{block_at}
use Rattle.sector_disk.specs.DiskViews.Views.{view_of_bytes}
use Rattle.volume_machine.specs.Seals.{Seals}
use Rattle.volume_machine.specs.Works.{Work}
use Rattle.sector_disk.proofs.DiskViews.DeviceViews.{block-read}
use Rattle.crash_laws.specs.HotZones.Zones.{Texts, Phase, saving, opening, writing, mending, moving}
use Rattle.crash_laws.specs.HotZones.Zones.{shifting, turning}
use Rattle.sector_disk.specs.Devices.{Device}
use Rattle.volume_machine.specs.Saved.{IsOfPart, digests_in, saved_of}
use Rattle.volume_machine.specs.Saved.{saved_atoms, saved_before}
use Rattle.volume_machine.specs.WorkCalls.{IsNext, IsResealed, SavesPart, ZoneStep, after_saving}
use Rattle.volume_machine.specs.WorkCalls.{arrives, keeps, moves, opens, reads, resealed, saves}
use Rattle.volume_machine.specs.WorkCalls.{settles, shifts, turns, writes}
use Rattle.volume_machine.specs.Works.{Part, fetched, wanted}
use Rattle.volume_laws.proofs.Invariant.{IsPartOf, KnowsPart}
use Rattle.volume_laws.proofs.PartLemmas.{digests_same}

-- what is saved at an atom by the values of a part alone
saved_by_part : (resilience : Resilience) (atom total first count : ℕ) (values next : ℕ → List ℕ)
    (i : ℕ) → IsOfPart resilience atom total first count i
    → ((k : ℕ) → first ≤ k → k < first + count → next k ≡ values k)
    → saved_of resilience atom total next i ≡ saved_of resilience atom total values i
saved_by_part journal atom total first count values next i of same = same i of.0 of.1
saved_by_part checksum atom total first count values next i of same =
    ap (λ text. text ++ replicate (atom - digests_in atom total i * 32) 0)
    (digests_same values next (i * (atom / 32)) (digests_in atom total i) (λ k below.
    same (i * (atom / 32) + k) (omega (arith, of.0)) (omega (arith, of.1, below))))
saved_by_part datashift atom total first count values next i of same = absurd of

-- the atoms of the next part are still the old ones
still_old : (atom : ℕ) (bytes : List ℕ) (work : Work) (texts : Texts) (phase : Phase) (first k : ℕ)
    → IsNext atom work phase first → first + k < work.zone.own.count
    → ShowsZone atom work.layout work.zone texts phase false (view_of_bytes atom bytes)
    → block_at atom bytes (work.zone.own.start + (first + k)) ≡ texts.old (first + k)
still_old atom bytes work texts (saving n) first k is below shows = shows.own.now refl (first + k) below
still_old atom bytes work texts (opening stage) first k is below shows = absurd is
still_old atom bytes work texts (writing n) first k is below shows =
    (shows.own.now refl (first + k) below).1 (omega (arith, is))
still_old atom bytes work texts (mending n) first k is below shows = absurd is
still_old atom bytes work texts (moving stage) first k is below shows = absurd is
still_old atom bytes work texts (shifting n) first k is below shows = shows.own.now refl (first + k) below
still_old atom bytes work texts (turning stage) first k is below shows = absurd is

-- two counts of one text
pub same_count : {atom : ℕ} (n m : ℕ) (text : List ℕ) → 0 < atom → length text ≡ n * atom
    → length text ≡ m * atom → n ≡ m
same_count {atom} n m text some one other = grind (arith, one, other, some)

-- what is written of a part is the zone's: its new atoms, and what is saved of it
module _ {atom : ℕ} {seals : Seals} (work : Work) (texts : Texts) (some : 0 < atom)
    (saved_is : (i : ℕ) → texts.saved i
    ≡ saved_of work.zone.resilience atom work.zone.own.count texts.old i)
    (resealed_is : (i : ℕ) → i < work.zone.own.count
    → resealed seals (work.range.start + i) (texts.old i) ≡ texts.new i) where
  pub new_within : (n count : ℕ) (text next : List ℕ)
      → IsPartOf atom n work.zone.own.count texts.old text
      → IsResealed seals atom (work.range.start + n) count text next
      → n + count ≤ work.zone.own.count
  new_within n count text next part is =
      let same : count ≡ part.count = same_count count part.count text some is.old_size part.size in
      let within = part.within in omega (arith, within, same)

  pub new_known : (n count : ℕ) (text next : List ℕ)
      → IsPartOf atom n work.zone.own.count texts.old text
      → IsResealed seals atom (work.range.start + n) count text next
      → (k : ℕ) → k < count → block_at atom next k ≡ texts.new (n + k)
  new_known n count text next part is k below =
      let same : count ≡ part.count = same_count count part.count text some is.old_size part.size in
      let within = part.within in
      let place : work.range.start + n + k ≡ work.range.start + (n + k) = omega arith in
      is.each k below
      ∙ ap (λ b. resealed seals b (block_at atom text k)) place
      ∙ ap (λ value. resealed seals (work.range.start + (n + k)) value)
      (part.each k (omega (arith, below, same)))
      ∙ resealed_is (n + k) (omega (arith, within, same, below))

  pub saved_known : (first count : ℕ) (text saved : List ℕ)
      → IsPartOf atom first work.zone.own.count texts.old text
      → SavesPart seals atom work first count text saved
      → (j : ℕ) → j < saved_atoms work.zone.resilience atom count
      → block_at atom saved j
      ≡ texts.saved (saved_before work.zone.resilience atom first + j)
  saved_known first count text saved part it j below =
      let same : count ≡ part.count = same_count count part.count text some it.size part.size in
      it.is.each j below
      ∙ sym (saved_is (saved_before work.zone.resilience atom first + j)
      ∙ saved_by_part work.zone.resilience atom work.zone.own.count first count
      (λ i. block_at atom text (i - first)) texts.old
      (saved_before work.zone.resilience atom first + j) (it.is.of_part j below)
      (λ k from to. let e : first + (k - first) ≡ k = omega (arith, from) in
      sym (part.each (k - first) (omega (arith, from, to, same)) ∙ ap texts.old e)))

-- behind a save the part stays where it is the only one
module _ (atom : ℕ) (work : Work) (texts : Texts) where
  chosen_part : (which : Bool) (one other : Part) → KnowsPart atom texts work.zone one
      → KnowsPart atom texts work.zone other
      → KnowsPart atom texts work.zone (if which then one else other)
  chosen_part true one other knows also = knows
  chosen_part false one other knows also = also

  saved_next : (first count : ℕ) (text : List ℕ)
      → IsPartOf atom first work.zone.own.count texts.old text
      → KnowsPart atom texts work.zone (after_saving work.zone.own.count first count text)
  saved_next zero count text part = chosen_part (count == work.zone.own.count) (fetched 0 text)
      (wanted count) part tt
  saved_next (suc first) count text part = chosen_part
      (suc first + count == work.zone.own.count) (wanted 0) (wanted (suc first + count)) tt tt

module _ {atom : ℕ} {bytes : List ℕ} {seals : Seals} {old new : Device} (work : Work)
    (texts : Texts) (told : old.values ≡ Some bytes) where
  -- each step
  pub part_after : {phase next_phase : Phase} {part next_part : Part}
      → ZoneStep seals atom work old new phase part next_phase next_part
      → ShowsZone atom work.layout work.zone texts phase false (view_of_bytes atom bytes)
      → KnowsPart atom texts work.zone part → KnowsPart atom texts work.zone next_part
  part_after (reads phase first count text is counted any long call) shows knows =
      let within : first + count ≤ work.zone.own.count = omega (arith, counted, any) in record {
        count = count;
        size = long;
        within = within;
        each = λ k below. block-read atom (work.zone.own.start + first) count text bytes old new k
            call told long below
            ∙ ap (λ place. block_at atom bytes place)
            (let e : work.zone.own.start + first + k ≡ work.zone.own.start + (first + k) =
            omega arith in e)
            ∙ still_old atom bytes work texts phase first k is (omega (arith, within, below)) shows;
      }
  part_after (saves first count text saved it any call) shows knows =
      saved_next atom work texts first count text knows
  part_after (keeps part call) shows knows = knows
  part_after (opens stage part goes call) shows knows = knows
  part_after (writes n count text next any is call) shows knows = tt
  part_after (settles part call) shows knows = knows
  part_after (moves stage part goes call) shows knows = knows
  part_after (shifts n count text next any is within call) shows knows = tt
  part_after (arrives part call) shows knows = knows
  part_after (turns stage part goes call) shows knows = knows
