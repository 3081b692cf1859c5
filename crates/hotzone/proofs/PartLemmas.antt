-- Where the parts of a zone lie: at the front of the buffer, on the disk, and by the keys' numbers.
use Rattle.std.proofs.Common.{◌≡◌, ℕ, ◌+◌, ◌*◌, ◌%◌, ◌^◌, ◌<◌, ◌≤◌, length, sym, subst, arith}
use Rattle.std.proofs.Common.{◌∙◌, List, ap, drop, inl, inr, take}
use Rattle.std.proofs.lemmas.List.{length-take-le, take_at}
use Rattle.base_terms.specs.Blocks.{rewritten}
use Rattle.std.proofs.Common.{mul-le-mul_right}
use Rattle.std.proofs.Math.Nat.{mul-mod_left}
use Rattle.sector_disk.proofs.DiskViews.Blockwise.{blocks_end}
use Rattle.hotzone.proofs.KnownLemmas.{part-fits}
use Rattle.hotzone.specs.Sites.{bytes_at, count_of, part_at}
use Rattle.hotzone.specs.Workers.{FitsDisk}
use Rattle.hotzone.specs.declared.site.Site.{Site}
use Rattle.hotzone.specs.declared.worker.Worker.{Worker}
use Rattle.sector_disk.specs.Devices.{Device}
use Rattle.sector_disk.specs.Geometry.{IsAtom, IsDisk, IsInDisk}
use Rattle.volume_machine.proofs.KeyLemmas.{fewer-blocks}
use Rattle.volume_machine.specs.Seals.{KeysFit}

-- no part is longer than the first
pub part-front : (site : Site) (done room : ℕ) → bytes_at site 0 ≤ room → bytes_at site done ≤ room
part-front site done room fits =
    let fewer : part_at site done ≤ part_at site 0 = omega arith in
    let less = mul-le-mul_right site.atom fewer in
    omega (arith, less, fits)

-- its atoms lie on a disk where the zone's do
pub part-inside : (site : Site) (device : Device) (place done : ℕ) → site.atom ≡ device.size
    → place + count_of site ≤ device.atoms → done ≤ count_of site
    → IsInDisk device.size device.atoms (place + done) (bytes_at site done)
part-inside site device place done size fits within =
    let part = part_at site done in record {
      whole = subst (λ a. (part * site.atom) % a ≡ 0) size (mul-mod_left part site.atom);
      within = subst (λ a. (place + done) * device.size + part * a ≤ device.atoms * device.size)
          (sym size)
          (let here = part-fits site done within in
          let few : place + done + part ≤ device.atoms = omega (arith, fits, here) in
          let less = mul-le-mul_right device.size few in
          let sum = blocks_end device.size (place + done) part in
          omega (arith, less, sum));
    }

-- the numbers of its blocks fit
pub part-keys-by : {C : Type 0} (sector : C → ℕ) (w : Worker C) (done : ℕ)
    → KeysFit sector w.keys w.site.atom (w.site.blocks.start + count_of w.site)
    → done ≤ count_of w.site
    → KeysFit sector w.keys w.site.atom (w.site.blocks.start + done + part_at w.site done)
part-keys-by sector w done keys within =
    fewer-blocks sector w.keys w.site.atom (w.site.blocks.start + count_of w.site) _
    (let here = part-fits w.site done within in omega (arith, here)) keys

pub part-keys : {C : Type 0} (sector : C → ℕ) (w : Worker C) (device : Device) (done : ℕ)
    → FitsDisk sector w device → done ≤ count_of w.site
    → KeysFit sector w.keys w.site.atom (w.site.blocks.start + done + part_at w.site done)
part-keys sector w device done fits within = part-keys-by sector w done fits.keys within

-- and have places that fit 64 bits
pub atoms-few : (size atoms : ℕ) → IsAtom size → atoms * size < 2 ^ 63 → atoms < 2 ^ 63
atoms-few size atoms (inl is) fits =
    let here = subst (λ s. atoms * s < 2 ^ 63) is fits in omega (arith, here)
atoms-few size atoms (inr is) fits =
    let here = subst (λ s. atoms * s < 2 ^ 63) is fits in omega (arith, here)

pub part-place : (site : Site) (device : Device) (place done : ℕ)
    → IsDisk device.size device.atoms → place + count_of site ≤ device.atoms
    → done ≤ count_of site → place + done < 2 ^ 64
part-place site device place done is fits within =
    let few = atoms-few device.size device.atoms is.known is.fits in
    omega (arith, few, fits, within)

-- a text of the front of a buffer that has room for the zone's first part
pub front-inside : (site : Site) (device : Device) (place done len : ℕ) (buffer text : List ℕ)
    → site.atom ≡ device.size → place + count_of site ≤ device.atoms → done ≤ count_of site
    → bytes_at site 0 ≤ length buffer → len ≡ bytes_at site done → text ≡ take len buffer
    → IsInDisk device.size device.atoms (place + done) (length text)
front-inside site device place done len buffer text size fits within room long is =
    subst (λ n. IsInDisk device.size device.atoms (place + done) n)
    (sym (ap length is
    ∙ length-take-le len buffer (subst (λ n. n ≤ length buffer) (sym long)
    (part-front site done (length buffer) room))
    ∙ long))
    (part-inside site device place done size fits within)

-- a buffer that is written over whole
pub all-rewritten : (old new : List ℕ) → length new ≡ length old → rewritten old new ≡ new
all-rewritten old new long = take_at new (drop (length new) old) (length old) long
