-- What is saved of the parts of a zone, by what guards it.
use Rattle.std.proofs.Common.{◌≡◌, ◌∙◌, ℕ, ◌+◌, ◌-◌, ◌*◌, ◌/◌, ◌%◌, ◌<◌, ◌≤◌, min, List, length}
use Rattle.std.proofs.Common.{refl, sym, ap, subst, arith, inl, inr}
use Rattle.std.proofs.Math.Nat.{div-mul-le_self, mul-le-mul_right, zero-div}
use Rattle.std.proofs.lemmas.Bool.{cases_lt}
use Rattle.std.proofs.lemmas.Grind.{div_ceil_times}
use Rattle.std.proofs.lemmas.Nat.{div-add-mod'}
use Rattle.std.specs.Int.{div_ceil}
use Rattle.sector_disk.proofs.DiskViews.Blockwise.{block_end}
use Rattle.sector_disk.specs.DiskViews.Parts.{block_at}
use Rattle.crash_laws.specs.HotZones.Zones.{Texts}
use Rattle.hotzone.proofs.SavedLemmas.{atom-of-part, in-atoms, saved-digests}
use Rattle.hotzone.specs.Known.{TellBy}
use Rattle.hotzone.specs.Making.{IsNoLonger}
use Rattle.hotzone.specs.Sites.{IsPartStart, IsSaved, count_of, guard_of, kind_of, part_at}
use Rattle.hotzone.specs.Sites.{saved_at, saved_count}
use Rattle.hotzone.specs.Steps.{IsSavedText, TellsBy}
use Rattle.hotzone.specs.Workers.{HasRoom, HasRoomBy, IsAsLong}
use Rattle.hotzone.specs.declared.scratch.Scratch.{Scratch}
use Rattle.hotzone.specs.declared.site.Guard.{Guard}
use Rattle.hotzone.specs.declared.site.Guard.TheVariants as guards
use Rattle.hotzone.specs.declared.site.Site.{Site}
use Rattle.luks_meta.specs.declared.reencrypt.Resilience.{Resilience}
use Rattle.luks_meta.specs.declared.reencrypt.Resilience.TheVariants.{Journal, Checksum, Datashift}
use Rattle.luks_rules.specs.Rooms.{capacity_by}
use Rattle.resil_checksum.specs.Digests.{saved_len}
use Rattle.sector_disk.specs.Geometry.{IsAtom}
use Rattle.segment_map.specs.Maps.{most_bytes}
use Rattle.sha2.specs.Sha256.{sha256}
use Rattle.volume_machine.specs.Saved.{IsOfPart, saved_atoms, saved_before, saved_of}

-- ---- how many atoms
-- no more of fewer blocks
pub ceil-fewer : (atom few more : ℕ) → IsAtom atom → few ≤ more
    → div_ceil (few * 32) atom ≤ div_ceil (more * 32) atom
ceil-fewer atom few more (inl is) less =
    subst (λ a. div_ceil (few * 32) a ≤ div_ceil (more * 32) a) (sym is) (omega (arith, less))
ceil-fewer atom few more (inr is) less =
    subst (λ a. div_ceil (few * 32) a ≤ div_ceil (more * 32) a) (sym is) (omega (arith, less))

pub saved-fewer : (g : Guard) (atom few more : ℕ) → IsAtom atom → few ≤ more
    → saved_atoms (kind_of g) atom few ≤ saved_atoms (kind_of g) atom more
saved-fewer guards.Journal atom few more known less = less
saved-fewer guards.Checksum atom few more known less = ceil-fewer atom few more known less

ceil-some : (atom count : ℕ) → IsAtom atom → 0 < count → 0 < div_ceil (count * 32) atom
ceil-some atom count (inl is) some =
    subst (λ a. 0 < div_ceil (count * 32) a) (sym is) (omega (arith, some))
ceil-some atom count (inr is) some =
    subst (λ a. 0 < div_ceil (count * 32) a) (sym is) (omega (arith, some))

pub saved-some : (g : Guard) (atom count : ℕ) → IsAtom atom → 0 < count
    → 0 < saved_atoms (kind_of g) atom count
saved-some guards.Journal atom count known some = some
saved-some guards.Checksum atom count known some = ceil-some atom count known some

-- whole units in which so much has room are no more than a whole number of them that has room
units-fit : (n area unit : ℕ) → 0 < unit → area % unit ≡ 0 → n ≤ area → div_ceil n unit * unit ≤ area
units-fit n area unit some whole fits =
    let cut = div-add-mod' area unit in
    let least = (div_ceil_times n unit some).1 in
    elim (cases_lt (area / unit) (div_ceil n unit)) [
      | inl more ↦
          let past = mul-le-mul_right unit more in
          let next = block_end unit (area / unit) in
          absurd (omega (arith, least, past, next, cut, whole, fits))
      | inr enough ↦
          (let within = mul-le-mul_right unit enough in omega (arith, within, cut, whole))
    ]

-- an area of whole atoms has room for what is saved of as many blocks as it has room for
pub saved-fits : (r : Resilience) (atom size n : ℕ) → IsSaved r → 0 < atom → size % atom ≡ 0
    → n ≤ capacity_by atom size r → saved_atoms (kind_of (guard_of r)) atom n * atom ≤ size
saved-fits Journal atom size n by some whole less =
    let more = mul-le-mul_right atom less in
    let all = div-mul-le_self size atom in omega (arith, more, all)
saved-fits (Checksum k) atom size n by some whole less =
    units-fit (n * 32) size atom some whole (omega (arith, less))
saved-fits (Datashift k) atom size n by some whole less = absurd by

-- ---- where they lie
module _ (atom first count total : ℕ) (known : IsAtom atom)
    (start : first % (most_bytes / atom) ≡ 0) (below-total : first ≤ total)
    (part : count ≡ min (total - first) (most_bytes / atom)) where
  part-ends : first + count ≤ total
  part-ends = omega (arith, below-total, part)

  abbrev next_at : Guard → ℕ
  next_at h = saved_before (kind_of h) atom first + saved_atoms (kind_of h) atom count

  within-by : (h : Guard) → next_at h ≤ saved_atoms (kind_of h) atom total
  within-by guards.Journal = part-ends
  within-by guards.Checksum = (in-atoms atom known first count total start below-total part).within

  last-by : (h : Guard) → first + count ≡ total → next_at h ≡ saved_atoms (kind_of h) atom total
  last-by guards.Journal ends = ends
  last-by guards.Checksum ends =
      (in-atoms atom known first count total start below-total part).last ends

  on-by : (h : Guard) → (first + count ≡ total → ⊥)
      → saved_before (kind_of h) atom (first + count) ≡ next_at h
  on-by guards.Journal far = refl
  on-by guards.Checksum far = (in-atoms atom known first count total start below-total part).on far

  starts-by : (first + count ≡ total → ⊥) → (first + count) % (most_bytes / atom) ≡ 0
  starts-by = (in-atoms atom known first count total start below-total part).starts

  -- an atom of what is saved holds nothing of another part
  of-part-by : (h : Guard) (j : ℕ) → j < saved_atoms (kind_of h) atom count
      → IsOfPart (kind_of h) atom total first count (saved_before (kind_of h) atom first + j)
  of-part-by guards.Journal j below = (omega arith, omega (arith, below))
  of-part-by guards.Checksum j below =
      atom-of-part atom first count total known
      (in-atoms atom known first count total start below-total part) part-ends j below

  -- ---- what they are
  each-by : (h : Guard) (bytes text : List ℕ) (old : ℕ → List ℕ)
      → ((k : ℕ) → k < count → block_at atom bytes k ≡ old (first + k))
      → IsSavedText h atom count bytes text → (j : ℕ) → j < saved_atoms (kind_of h) atom count
      → block_at atom text j
      ≡ saved_of (kind_of h) atom total old (saved_before (kind_of h) atom first + j)
  each-by guards.Journal bytes text old each is j inside =
      ap (λ t. block_at atom t j) is ∙ each j inside
  each-by guards.Checksum bytes text old each is j inside =
      saved-digests atom first count total known
      (in-atoms atom known first count total start below-total part) part-ends bytes text old each is.0
      is.1 j inside

pub saved-long : (g : Guard) (atom count : ℕ) (part text : List ℕ)
    → IsSavedText g atom count part text → length part ≡ count * atom
    → length text ≡ saved_atoms (kind_of g) atom count * atom
saved-long guards.Journal atom count part text is long = ap length is ∙ long
saved-long guards.Checksum atom count part text is long = is.1

-- ---- so of a zone's part
abbrev pub saved_part : Site → ℕ → ℕ
saved_part site done = saved_atoms (kind_of site.guard) site.atom (part_at site done)

pub first-start : (site : Site) → IsAtom site.atom → IsPartStart site 0
first-start site (inl is) = subst (λ a. 0 % (most_bytes / a) ≡ 0) (sym is) refl
first-start site (inr is) = subst (λ a. 0 % (most_bytes / a) ≡ 0) (sym is) refl

place-by : (g : Guard) (atom : ℕ) → saved_before (kind_of g) atom 0 ≡ 0
place-by guards.Journal atom = refl
place-by guards.Checksum atom = zero-div (atom / 32)

pub first-place : (site : Site) → saved_at site 0 ≡ 0
first-place site = place-by site.guard site.atom

module _ (site : Site) (done : ℕ) (known : IsAtom site.atom) (start : IsPartStart site done)
    (within : done ≤ count_of site) where
  pub saved-within : saved_at site done + saved_part site done ≤ saved_count site
  saved-within =
      within-by site.atom done (part_at site done) (count_of site) known start within refl
      site.guard

  pub saved-last : done + part_at site done ≡ count_of site
      → saved_at site done + saved_part site done ≡ saved_count site
  saved-last =
      last-by site.atom done (part_at site done) (count_of site) known start within refl
      site.guard

  pub saved-on : (done + part_at site done ≡ count_of site → ⊥)
      → saved_at site (done + part_at site done) ≡ saved_at site done + saved_part site done
  saved-on =
      on-by site.atom done (part_at site done) (count_of site) known start within refl
      site.guard

  pub start-on : (done + part_at site done ≡ count_of site → ⊥)
      → IsPartStart site (done + part_at site done)
  start-on =
      starts-by site.atom done (part_at site done) (count_of site) known start within refl

  pub saved-of-part : (j : ℕ) → j < saved_part site done
      → IsOfPart (kind_of site.guard) site.atom (count_of site) done (part_at site done)
      (saved_at site done + j)
  saved-of-part =
      of-part-by site.atom done (part_at site done) (count_of site) known start within refl
      site.guard

  pub saved-each : (bytes text : List ℕ) (old : ℕ → List ℕ)
      → ((k : ℕ) → k < part_at site done → block_at site.atom bytes k ≡ old (done + k))
      → IsSavedText site.guard site.atom (part_at site done) bytes text
      → (j : ℕ) → j < saved_part site done
      → block_at site.atom text j
      ≡ saved_of (kind_of site.guard) site.atom (count_of site) old (saved_at site done + j)
  saved-each =
      each-by site.atom done (part_at site done) (count_of site) known start within refl
      site.guard

-- ---- digests that tell: of no block; of a part more
pub tell-none : (g : Guard) (texts : Texts) → TellBy g 0 texts
tell-none guards.Journal texts = tt
tell-none guards.Checksum texts = λ i below. absurd (omega (arith, below))

pub tell-on : (g : Guard) (atom first count : ℕ) (texts : Texts) (old new : List ℕ)
    → TellBy g first texts → TellsBy g atom count old new
    → ((k : ℕ) → k < count → block_at atom old k ≡ texts.old (first + k))
    → ((k : ℕ) → k < count → block_at atom new k ≡ texts.new (first + k))
    → TellBy g (first + count) texts
tell-on guards.Journal atom first count texts old new told tells olds news = tt
tell-on guards.Checksum atom first count texts old new told tells olds news = λ i below.
    elim (cases_lt i first) [
      | inl earlier ↦ told i earlier
      | inr here ↦
          let k = i - first in
          let is : first + k ≡ i = omega (arith, here) in
          let inside : k < count = omega (arith, here, below) in
          λ same. tells k inside
          (ap sha256 (olds k inside ∙ ap texts.old is) ∙ same
          ∙ sym (ap sha256 (news k inside ∙ ap texts.new is)))
    ]

-- ---- room for what is compared and saved
pub room-later : (before after : Site) (scratch next : Scratch) → IsAtom before.atom
    → IsNoLonger before after → IsAsLong scratch next → HasRoom before scratch → HasRoom after next
room-later before after scratch next known no_longer long room =
    subst (λ g. HasRoomBy g after next) (sym no_longer.guard) (go before.guard room)
  where
    less : part_at after 0 ≤ part_at before 0
    less = subst (λ a. min (count_of after - 0) (most_bytes / a) ≤ part_at before 0)
        (sym no_longer.atom) (let fewer = no_longer.fewer in omega (arith, fewer))

    go : (g : Guard) → HasRoomBy g before scratch → HasRoomBy g after next
    go guards.Journal room = tt
    go guards.Checksum room =
        let more = mul-le-mul_right before.atom less in
        let ceil = mul-le-mul_right before.atom
        (ceil-fewer before.atom (part_at after 0) (part_at before 0) known less) in
        let had = room.0 in
        let told = room.1 in
        let sealed = long.sealed in
        let digests = long.digests in (
          subst (λ a. part_at after 0 * a ≤ length next.sealed) (sym no_longer.atom)
              (omega (arith, more, had, sealed)),
          subst (λ a. saved_len (part_at after 0) a ≤ length next.digests) (sym no_longer.atom)
              (omega (arith, ceil, told, digests)),
        )
