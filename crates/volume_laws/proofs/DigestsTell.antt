-- By checksum each step of a zone leaves the digests of its blocks, once they were saved, such that
-- they tell the old atoms from the new ones.
use Rattle.std.proofs.Common.{List, ap, arith, inl, inr, subst, sym, ℕ, ◌*◌, ◌+◌, ◌-◌, ◌<◌, ◌∙◌}
use Rattle.std.proofs.Common.{◌≡◌, ◌≢◌, ◌≤◌}
use Rattle.std.proofs.lemmas.Bool.{cases_lt}
use Rattle.crash_laws.specs.HotZones.Zones.{checksum}
use Rattle.sector_disk.specs.DiskViews.Parts.{block_at}
use Rattle.volume_machine.specs.Seals.{Seals}
use Rattle.volume_machine.specs.Works.{Work}
use Rattle.std.proofs.Math.Nat.{div-mul-le_self, le-min, lt-div-mul-add, mul_assoc}
use Rattle.std.proofs.lemmas.Nat.{div_below}
use Rattle.std.specs.Prelude.{◌/◌, min}
use Rattle.crash_laws.specs.HotZones.Zones.{Phase, Texts}
use Rattle.sector_disk.specs.Devices.{Device}
use Rattle.sector_disk.specs.Geometry.{IsAtom}
use Rattle.sha2.specs.Sha256.{sha256}
use Rattle.volume_machine.specs.Saved.{IsOfPart, TellsApart, saved_atoms, saved_before}
use Rattle.volume_machine.specs.WorkCalls.{SavesPart, ZoneStep, resealed}
use Rattle.volume_machine.specs.WorkCalls as calls
use Rattle.volume_machine.specs.Working.{HasRoom}
use Rattle.volume_machine.specs.Works.{Part}
use Rattle.volume_laws.proofs.DigestLemmas.{even_atom}
use Rattle.volume_laws.proofs.Here.{some_atom}
use Rattle.volume_laws.proofs.Invariant.{IsPartOf, KnowsPart}
use Rattle.volume_laws.proofs.StepParts.{same_count}
use Rattle.volume_laws.proofs.ToldApart.{TellsAtoms}

-- where an atom's digest lies in its area
within_of : (i per total first count : ℕ) → 0 < per → i < total → first ≤ i / per * per
    → i / per * per + min per (total - i / per * per) ≤ first + count
    → (first ≤ i) × (i - first < count)
within_of i per total first count some below from to =
    let low = div-mul-le_self i per in
    let high = lt-div-mul-add {a = i} {b = per} some in
    let inside : i - i / per * per < min per (total - i / per * per) =
    le-min (omega (arith, low, high)) (omega (arith, low, below)) in
    (omega (arith, low, from), omega (arith, low, from, to, inside))

some_digests : (atom : ℕ) → IsAtom atom → 0 < atom / 32
some_digests atom (inl is) = let even = even_atom atom (inl is) in omega (arith, even, is)
some_digests atom (inr is) = let even = even_atom atom (inr is) in omega (arith, even, is)

-- all digests are saved where their area is full
all_saved : (atom : ℕ) (work : Work) → IsAtom atom → HasRoom work.zone.resilience atom work.zone
    → work.zone.resilience ≡ checksum → (i : ℕ) → i < work.zone.own.count
    → i / (atom / 32) < work.zone.store.count
all_saved atom work known room is i below =
    let enough = subst (λ r. HasRoom r atom work.zone) is room in
    let all : work.zone.store.count * atom ≡ (work.zone.store.count * (atom / 32)) * 32 =
    ap (λ a. work.zone.store.count * a) (sym (even_atom atom known))
    ∙ sym (mul_assoc work.zone.store.count (atom / 32) 32) in
    div_below i (atom / 32) work.zone.store.count (some_digests atom known)
    (omega (arith, enough, below, all))

module _ {atom : ℕ} {seals : Seals} (work : Work) (texts : Texts) (known : IsAtom atom)
    (resealed_is : (i : ℕ) → i < work.zone.own.count
    → resealed seals (work.range.start + i) (texts.old i) ≡ texts.new i) where
  -- a part that is saved now
  saved_apart : (first count : ℕ) (text saved : List ℕ)
      → IsPartOf atom first work.zone.own.count texts.old text
      → SavesPart seals atom work first count text saved → work.zone.resilience ≡ checksum
      → (i : ℕ) → i < work.zone.own.count
      → saved_before work.zone.resilience atom first ≤ i / (atom / 32)
      → i / (atom / 32) < saved_before work.zone.resilience atom first
      + saved_atoms work.zone.resilience atom count
      → sha256 (texts.old i) ≢ sha256 (texts.new i)
  saved_apart first count text saved part it is i below from to =
      let before = saved_before work.zone.resilience atom first in
      let place : before + (i / (atom / 32) - before) ≡ i / (atom / 32) = omega (arith, from) in
      let of_part = subst (λ r. IsOfPart r atom work.zone.own.count first count (i / (atom / 32))) is
      (subst (IsOfPart work.zone.resilience atom work.zone.own.count first count) place
      (it.is.of_part (i / (atom / 32) - before) (omega (arith, from, to)))) in
      let (low, high) = within_of i (atom / 32) work.zone.own.count first count (some_digests atom known) below
      of_part.0 of_part.1 in
      let k = i - first in
      let at : first + k ≡ i = omega (arith, low) in
      let same : count ≡ part.count = same_count count part.count text
      (some_atom atom known) it.size part.size in
      let old_is : block_at atom text k ≡ texts.old i =
      part.each k (omega (arith, high, same)) ∙ ap texts.old at in
      let new_is : resealed seals (work.range.start + first + k) (block_at atom text k)
      ≡ texts.new i =
      ap (λ b. resealed seals b (block_at atom text k))
      (let e : work.range.start + first + k ≡ work.range.start + i = omega (arith, low) in e)
      ∙ ap (λ value. resealed seals (work.range.start + i) value) old_is ∙ resealed_is i below in
      let differs = subst (λ r. TellsApart r atom count text
      (λ n. resealed seals (work.range.start + first + n) (block_at atom text n))) is it.tells k
      high in
      λ alike. differs (ap sha256 old_is ∙ alike ∙ ap sha256 (sym new_is))

module _ {atom : ℕ} {seals : Seals} {old new : Device} (work : Work) (texts : Texts)
    (known : IsAtom atom) (room : HasRoom work.zone.resilience atom work.zone)
    (resealed_is : (i : ℕ) → i < work.zone.own.count
    → resealed seals (work.range.start + i) (texts.old i) ≡ texts.new i) where
  -- each step
  pub tells_after : {phase next_phase : Phase} {part next_part : Part}
      → ZoneStep seals atom work old new phase part next_phase next_part
      → KnowsPart atom texts work.zone part
      → TellsAtoms atom texts work.zone phase → TellsAtoms atom texts work.zone next_phase
  tells_after (calls.reads phase first count text is counted any long call) knows tells = tells
  tells_after (calls.saves first count text saved it any call) knows tells = λ is i below told.
      elim (cases_lt (i / (atom / 32)) (saved_before work.zone.resilience atom first)) [
        | inl earlier ↦ tells is i below earlier
        | inr now ↦ saved_apart work texts known resealed_is first count text saved knows it is i below now told
      ]
  tells_after (calls.keeps part call) knows tells = λ is i below told.
      tells is i below (all_saved atom work known room is i below)
  tells_after (calls.opens stage part goes call) knows tells = tells
  tells_after (calls.writes n count text next any is call) knows tells = tells
  tells_after (calls.settles part call) knows tells = tells
  tells_after (calls.moves stage part goes call) knows tells = tells
  tells_after (calls.shifts n count text next any is within call) knows tells = tells
  tells_after (calls.arrives part call) knows tells = tells
  tells_after (calls.turns stage part goes call) knows tells = tells
