-- The digests of a part are compared, and what is saved of it lies on the disk.
use Rattle.std.proofs.Common.{◌≡◌, ◌∙◌, ℕ, ◌+◌, ◌*◌, ◌/◌, ◌%◌, ◌^◌, ◌<◌, ◌≤◌, List, length, take, Result, Err}
use Rattle.std.proofs.Common.{refl, sym, ap, subst, arith, inl, inr, mul-le-mul_right}
use Rattle.std.proofs.Math.Nat.{mul-div_cancel, mul-mod_left}
use Rattle.std.proofs.lemmas.Grind.{div_ceil_times}
use Rattle.std.proofs.lemmas.List.{length-take-le}
use Rattle.base_terms.specs.declared.failed.Failed.{Failed}
use Rattle.sector_disk.proofs.DiskViews.Blockwise.{block_end, blocks_end}
use Rattle.sector_disk.specs.DiskViews.Parts.{block_at}
use Rattle.hotzone.proofs.GuardLemmas.{ceil-fewer, saved-within, saved_part}
use Rattle.hotzone.specs.Sites.{IsPartStart, bytes_at, count_of, kind_of, part_at, saved_at, saved_count}
use Rattle.hotzone.proofs.PartLemmas.{atoms-few, part-front}
use Rattle.hotzone.specs.Making.{Makes}
use Rattle.hotzone.specs.Steps.{Clashes, clashes, clashes_first}
use Rattle.hotzone.specs.Steps.{IsClash, IsSavedText, SavesPart, TellsBy, TellsPart, part_in, resealed}
use Rattle.hotzone.specs.declared.site.Guard.TheVariants as guards
use Rattle.hotzone.specs.declared.site.Site.{Site}
use Rattle.hotzone.specs.declared.worker.Halt.TheVariants.{GivenUp}
use Rattle.hotzone.specs.declared.worker.Headers.{Headers}
use Rattle.hotzone.specs.declared.worker.NextCall.TheVariants.{Save, SaveFirst}
use Rattle.hotzone.specs.declared.worker.Worker.{Worker}
use Rattle.hotzone.specs.declared.worker.ZoneFault.{ZoneFault}
use Rattle.hotzone.specs.declared.worker.ZoneFault.TheVariants as faults
use Rattle.resil_checksum.specs.Clashes.{AllDiffer, IsLowestClash}
use Rattle.resil_checksum.specs.Digests.{AreDigests, AreSaved, saved_len}
use Rattle.sector_disk.specs.Devices.{Device, WriteCall}
use Rattle.sector_disk.specs.Geometry.{IsAtom, IsDisk, IsInDisk}
use Rattle.sha2.specs.Sha256.{sha256}
use Rattle.volume_machine.specs.Saved.{saved_atoms, saved_before}
use Rattle.volume_machine.specs.Seals.{Seals}

-- ---- the part at the front of the buffer
pub front-is : {C : Type 0} (w : Worker C) (done size : ℕ) (old : List ℕ)
    → size ≡ bytes_at w.site done → old ≡ take size w.buffer → old ≡ part_in w done
front-is w done size old size_is is = is ∙ ap (λ n. take n w.buffer) size_is

pub front-long : {C : Type 0} (w : Worker C) (done size : ℕ) (old : List ℕ)
    → bytes_at w.site 0 ≤ length w.buffer → size ≡ bytes_at w.site done → old ≡ take size w.buffer
    → length old ≡ bytes_at w.site done
front-long w done size old room size_is is =
    ap length (front-is w done size old size_is is)
    ∙ length-take-le (bytes_at w.site done) w.buffer (part-front w.site done (length w.buffer) room)

-- which are whole atoms
pub long-count : (site : Site) (done : ℕ) (old : List ℕ) → 0 < site.atom
    → length old ≡ bytes_at site done → length old / site.atom ≡ part_at site done
long-count site done old some long =
    ap (λ n. n / site.atom) long ∙ mul-div_cancel (part_at site done) some

pub long-whole : (site : Site) (done : ℕ) (old : List ℕ) → length old ≡ bytes_at site done
    → length old % site.atom ≡ 0
long-whole site done old long =
    ap (λ n. n % site.atom) long ∙ mul-mod_left (part_at site done) site.atom

-- and the block of a digest is one of them
pub clash-inside : (site : Site) (done k : ℕ) (old : List ℕ) → 0 < site.atom
    → length old ≡ bytes_at site done → k < length old / site.atom
    → k * site.atom + site.atom ≤ length old
clash-inside site done k old some long below =
    let count = long-count site done old some long in
    let inside : k < part_at site done = omega (arith, below, count) in
    let more = mul-le-mul_right site.atom inside in
    let end = block_end site.atom k in
    omega (arith, more, end, long)

pub clash-place : (site : Site) (done k : ℕ) (old : List ℕ) → 0 < site.atom
    → length old ≡ bytes_at site done → k < length old / site.atom
    → site.blocks.start + done + k < site.blocks.end
clash-place site done k old some long below =
    let count = long-count site done old some long in
    let inside : k < part_at site done = omega (arith, below, count) in
    omega (arith, inside)

-- no part has more digests than the first
pub digests-front : (site : Site) (done : ℕ) → IsAtom site.atom
    → saved_len (part_at site done) site.atom ≤ saved_len (part_at site 0) site.atom
digests-front site done known =
    mul-le-mul_right site.atom
    (ceil-fewer site.atom (part_at site done) (part_at site 0) known (omega arith))

-- the numbers of its blocks fit 64 bits where those of their sectors do
pub few-blocks : (atom tweak blocks : ℕ) → IsAtom atom → tweak + blocks * (atom / 512) < 2 ^ 64
    → blocks < 2 ^ 64
few-blocks atom tweak blocks (inl is) fits =
    let here = subst (λ a. tweak + blocks * (a / 512) < 2 ^ 64) is fits in omega (arith, here)
few-blocks atom tweak blocks (inr is) fits =
    let here = subst (λ a. tweak + blocks * (a / 512) < 2 ^ 64) is fits in omega (arith, here)

-- ---- digests are compared
module _ {C : Type 0} (seals : Seals) (w : Worker C) (done : ℕ) (old new : List ℕ)
    (guard : w.site.guard ≡ guards.Checksum) (some : 0 < w.site.atom)
    (old_is : old ≡ part_in w done) (long : length old ≡ bytes_at w.site done)
    (new_is : new ≡ resealed seals (w.site.blocks.start + done) old) where
  count-is : length old / w.site.atom ≡ part_at w.site done
  count-is = long-count w.site done old some long

  -- what is known of the part and of it sealed anew
  of-part : (P : ℕ → List ℕ → List ℕ → Type 0) → P (length old / w.site.atom) old new
      → P (part_at w.site done) (part_in w done)
      (resealed seals (w.site.blocks.start + done) (part_in w done))
  of-part P is =
      subst (λ o. P (part_at w.site done) o (resealed seals (w.site.blocks.start + done) o)) old_is
      (subst (λ n. P (part_at w.site done) old n) new_is
      (subst (λ n. P n old new) count-is is))

  pub tells-none : AllDiffer w.site.atom (length old / w.site.atom) old new → TellsPart seals w done
  tells-none differ =
      subst (λ g. TellsBy g w.site.atom (part_at w.site done) (part_in w done)
      (resealed seals (w.site.blocks.start + done) (part_in w done))) (sym guard)
      (of-part (λ n o a. AllDiffer w.site.atom n o a) differ)

  pub clash-some : (k : ℕ) (digest : List ℕ)
      → IsLowestClash w.site.atom (length old / w.site.atom) old new k
      → digest ≡ sha256 (block_at w.site.atom old k)
      → IsClash seals w done (w.site.blocks.start + done + k) digest
  clash-some k digest clash is = record {
    guard = guard;
    k = k;
    is = refl;
    lowest = of-part (λ n o a. IsLowestClash w.site.atom n o a k) clash;
    digest_is = is ∙ ap (λ o. sha256 (block_at w.site.atom o k)) old_is;
  }

-- ---- ... by digests of the part that are laid, with it sealed anew
pub record IsCompared {C : Type 0} (seals : Seals) (w : Worker C) (done : ℕ)
    (old new digests : List ℕ) : Type 0 where
  pub part : old ≡ part_in w done
  pub long : length old ≡ bytes_at w.site done
  pub is : new ≡ resealed seals (w.site.blocks.start + done) old
  pub same : length new ≡ length old
  pub laid : AreSaved w.site.atom (length old / w.site.atom) old digests
  pub enough : length new / w.site.atom * 32 ≤ length digests

pub compared : {C : Type 0} (seals : Seals) (w : Worker C) (done size len : ℕ)
    (old sealed new laid digests : List ℕ) → IsAtom w.site.atom → 0 < w.site.atom
    → bytes_at w.site 0 ≤ length w.buffer → size ≡ bytes_at w.site done → old ≡ take size w.buffer
    → bytes_at w.site 0 ≤ length sealed
    → take (length old) sealed ≡ resealed seals (w.site.blocks.start + done) old
    → new ≡ take size sealed → len ≡ saved_len (part_at w.site done) w.site.atom
    → saved_len (part_at w.site 0) w.site.atom ≤ length laid
    → AreSaved w.site.atom (length old / w.site.atom) old (take len laid) → digests ≡ take len laid
    → IsCompared seals w done old new digests
compared seals w done size len old sealed new laid digests known some room size_is old_is sealed_room
    sealed_is new_is len_is laid_room saved digests_are =
    let long = front-long w done size old room size_is old_is in
    let fits : size ≤ length sealed =
    subst (λ n. n ≤ length sealed) (sym size_is) (part-front w.site done (length sealed) sealed_room) in
    let new_long : length new ≡ size = ap length new_is ∙ length-take-le size sealed fits in
    let same : length new ≡ length old = new_long ∙ size_is ∙ sym long in
    let count = long-count w.site done new some (same ∙ long) in
    let inside = digests-front w.site done known in
    let laid_long : length digests ≡ len =
    ap length digests_are ∙ length-take-le len laid (omega (arith, inside, laid_room, len_is)) in
    let ceil = (div_ceil_times (part_at w.site done * 32) w.site.atom some).0 in
    record {
      part = front-is w done size old size_is old_is;
      long = long;
      is = new_is ∙ ap (λ n. take n sealed) (size_is ∙ sym long) ∙ sealed_is;
      same = same;
      laid = subst (AreSaved w.site.atom (length old / w.site.atom) old) (sym digests_are) saved;
      enough = omega (arith, count, laid_long, len_is, ceil);
    }

module _ {C : Type 0} (seals : Seals) (w : Worker C) (done : ℕ) (old new digests : List ℕ)
    (guard : w.site.guard ≡ guards.Checksum) (some : 0 < w.site.atom)
    (here : IsCompared seals w done old new digests) where
  of-new : (P : ℕ → Type 0) → P (length new / w.site.atom) → P (length old / w.site.atom)
  of-new P is = subst (λ n. P (n / w.site.atom)) here.same is

  laid-digests : AreDigests w.site.atom (length new / w.site.atom) old digests
  laid-digests =
      subst (λ n. AreDigests w.site.atom (n / w.site.atom) old digests) (sym here.same)
      here.laid.digests

  pub new-whole : length new % w.site.atom ≡ 0
  new-whole = long-whole w.site done new (here.same ∙ here.long)

  pub laid-none : ((xs : List ℕ) → AreDigests w.site.atom (length new / w.site.atom) xs digests
      → AllDiffer w.site.atom (length new / w.site.atom) xs new) → TellsPart seals w done
  laid-none differ =
      tells-none seals w done old new guard some here.part here.long here.is
      (of-new (λ n. AllDiffer w.site.atom n old new) (differ old laid-digests))

  module _ (k : ℕ) (lowest : (xs : List ℕ)
      → AreDigests w.site.atom (length new / w.site.atom) xs digests
      → IsLowestClash w.site.atom (length new / w.site.atom) xs new k) where
    pub laid-within : k * 32 + 32 ≤ length digests
    laid-within =
        let below = (lowest old laid-digests).within in
        let enough = here.enough in
        omega (arith, below, enough)

    pub laid-place : w.site.blocks.start + done + k < w.site.blocks.end
    laid-place =
        clash-place w.site done k new some (here.same ∙ here.long) (lowest old laid-digests).within

    pub laid-some : (digest : List ℕ) → digest ≡ block_at 32 digests k
        → IsClash seals w done (w.site.blocks.start + done + k) digest
    laid-some digest is =
        let clash = of-new (λ n. IsLowestClash w.site.atom n old new k) (lowest old laid-digests) in
        clash-some seals w done old new guard some here.part here.long here.is k digest clash
        (is ∙ here.laid.digests k clash.within)

  -- so they are laid as they are saved
  pub laid-part : (laid : List ℕ) (len : ℕ) → len ≡ saved_len (part_at w.site done) w.site.atom
      → digests ≡ take len laid
      → AreSaved w.site.atom (part_at w.site done) (part_in w done)
      (take (saved_len (part_at w.site done) w.site.atom) laid)
  laid-part laid len len_is are =
      subst (λ n. AreSaved w.site.atom (part_at w.site done) (part_in w done) (take n laid)) len_is
      (subst (AreSaved w.site.atom (part_at w.site done) (part_in w done)) are
      (subst (λ o. AreSaved w.site.atom (part_at w.site done) o digests) here.part
      (subst (λ n. AreSaved w.site.atom n old digests)
      (long-count w.site done old some here.long) here.laid)))

-- ---- a zone is given up for them
pub clash-first : {C : Type 0} (seals : Seals) (old new : Device) (w : Worker C) (fault : ZoneFault)
    → Clashes seals w 0 fault → new ≡ old
    → Makes seals old new w SaveFirst w
    (record { next = SaveFirst; answer = Err (record { fault = fault; halt = GivenUp }) })
clash-first seals old new w faults.Device clash same = absurd clash
clash-first seals old new w (faults.DigestClash block digest) clash same =
    clashes_first block digest refl clash same (record { is = refl })
clash-first seals old new w (faults.SeqEnd left wanted) clash same = absurd clash
clash-first seals old new w (faults.JsonFull len limit) clash same = absurd clash
clash-first seals old new w faults.Memory clash same = absurd clash

pub clash-later : {C : Type 0} (seals : Seals) (old new : Device) (w : Worker C) (done : ℕ)
    (headers : Headers) (fault : ZoneFault) → Clashes seals w done fault → new ≡ old
    → Makes seals old new w (Save done headers) w
    (record { next = Save done headers; answer = Err (record { fault = fault; halt = GivenUp }) })
clash-later seals old new w done headers faults.Device clash same = absurd clash
clash-later seals old new w done headers (faults.DigestClash block digest) clash same =
    clashes done headers block digest refl clash same (record { is = refl })
clash-later seals old new w done headers (faults.SeqEnd left wanted) clash same = absurd clash
clash-later seals old new w done headers (faults.JsonFull len limit) clash same = absurd clash
clash-later seals old new w done headers faults.Memory clash same = absurd clash

-- ---- what is saved lies on the disk
blocks-inside : (atom atoms at n : ℕ) → at + n ≤ atoms → IsInDisk atom atoms at (n * atom)
blocks-inside atom atoms at n fits = record {
  whole = mul-mod_left n atom;
  within =
      (let less = mul-le-mul_right atom fits in
      let sum = blocks_end atom at n in
      omega (arith, less, sum));
}

pub saved-ends : (site : Site) (atoms done : ℕ) → IsAtom site.atom → IsPartStart site done
    → done ≤ count_of site → site.store + saved_count site ≤ atoms
    → site.store + saved_at site done + saved_part site done ≤ atoms
saved-ends site atoms done known start within fits =
    let here = saved-within site done known start within in omega (arith, here, fits)

-- its place fits 64 bits
pub saved-place : (site : Site) (device : Device) (done : ℕ) → IsDisk device.size device.atoms
    → IsAtom site.atom → IsPartStart site done → done ≤ count_of site
    → site.store + saved_count site ≤ device.atoms → site.store + saved_at site done < 2 ^ 64
saved-place site device done is known start within fits =
    let few = atoms-few device.size device.atoms is.known is.fits in
    let ends = saved-ends site device.atoms done known start within fits in
    omega (arith, few, ends)

pub saved-inside : (site : Site) (device : Device) (done : ℕ) (text : List ℕ) → IsAtom site.atom
    → site.atom ≡ device.size → IsPartStart site done → done ≤ count_of site
    → site.store + saved_count site ≤ device.atoms
    → length text ≡ saved_part site done * site.atom
    → IsInDisk device.size device.atoms (site.store + saved_at site done) (length text)
saved-inside site device done text known size start within fits long =
    subst (λ n. IsInDisk device.size device.atoms (site.store + saved_at site done) n) (sym long)
    (subst (λ a. IsInDisk a device.atoms (site.store + saved_at site done)
    (saved_part site done * site.atom)) size
    (blocks-inside site.atom device.atoms (site.store + saved_at site done) (saved_part site done)
    (saved-ends site device.atoms done known start within fits)))

-- by each guard
pub saved-digests-part : (site : Site) (done : ℕ) → site.guard ≡ guards.Checksum
    → saved_part site done * site.atom ≡ saved_len (part_at site done) site.atom
saved-digests-part site done guard =
    ap (λ g. saved_atoms (kind_of g) site.atom (part_at site done) * site.atom) guard

pub saved-atoms-all : (site : Site) → site.guard ≡ guards.Journal → saved_count site ≡ count_of site
saved-atoms-all site guard = ap (λ g. saved_atoms (kind_of g) site.atom (count_of site)) guard

pub saves-digests : {C : Type 0} (w : Worker C) (done : ℕ) (old new : Device)
    (result : Result (Unit {0}) Failed) (text : List ℕ) → w.site.guard ≡ guards.Checksum
    → AreSaved w.site.atom (part_at w.site done) (part_in w done) text
    → length text ≡ saved_len (part_at w.site done) w.site.atom
    → WriteCall old.size (w.site.store + saved_at w.site done) text old new result
    → SavesPart w done old new result
saves-digests w done old new result text guard saved long call = record {
  text = text;
  is = subst (λ g. IsSavedText g w.site.atom (part_at w.site done) (part_in w done) text)
      (sym guard) (saved, long);
  call = call;
}

pub saves-atoms : {C : Type 0} (w : Worker C) (done : ℕ) (old new : Device)
    (result : Result (Unit {0}) Failed) (text : List ℕ) → w.site.guard ≡ guards.Journal
    → text ≡ part_in w done → WriteCall old.size (w.site.store + done) text old new result
    → SavesPart w done old new result
saves-atoms w done old new result text guard is call = record {
  text = text;
  is = subst (λ g. IsSavedText g w.site.atom (part_at w.site done) (part_in w done) text)
      (sym guard) is;
  call = subst (λ g. WriteCall old.size (w.site.store + saved_before (kind_of g) w.site.atom done)
      text old new result) (sym guard) call;
}
