-- The next zone of a volume: its places fit 64 bits.
use Rattle.std.proofs.Common.{◌≡◌, ◌∙◌, ◌+◌, ◌^◌, ◌<◌, Some, ap, arith, subst, sym}
use Rattle.std.proofs.Math.Nat.{le-mul_of_pos_right}
use Rattle.base_terms.specs.declared.disk_sizes.Sizes.{Sizes}
use Rattle.hotzone.proofs.SiteLemmas.{store-within}
use Rattle.hotzone.specs.Workers.{IsNextZone}
use Rattle.hotzone.specs.declared.site.Site.{Site}
use Rattle.luks_meta.specs.declared.meta.Parts.{Parts}
use Rattle.luks_rules.specs.Shapes.{progress_of}
use Rattle.luks_rules.specs.States.{IsSound}
use Rattle.luks_rules.specs.declared.shape.Progress.{Progress}
use Rattle.luks_store.specs.declared.loaded.Stored.{Stored}
use Rattle.reenc_meta.proofs.GoLemmas.{under-way}
use Rattle.reenc_meta.proofs.StepLemmas.{main-few}
use Rattle.reenc_meta.specs.ConversionMaps.{IsMapAt}
use Rattle.reenc_meta.specs.Placements.{all_atoms}
use Rattle.sector_disk.specs.Geometry.{IsAtom, IsDisk}
use Rattle.segment_map.specs.declared.map.Map.{Map}

pub places-few : (m : Parts) (sizes : Sizes) (p : Progress) (map : Map) → IsSound m sizes
    → progress_of m sizes ≡ Some p → IsDisk sizes.atom (all_atoms sizes) → IsMapAt sizes p map
    → map.old_place + map.blocks < 2 ^ 64
places-few m sizes p map sound known disk at =
    let way = under-way m sizes p sound known (main-few sizes disk.fits) in
    let on = way.converting.old.on_disk in
    let inside = store-within sizes.atom p.old.offset 0 0 sizes.main_atoms sound.atom
    way.converting.old.whole (omega arith) (omega (arith, on)) in
    let fewer = le-mul_of_pos_right (all_atoms sizes) sound.atom in
    let fits = disk.fits in
    let few = way.few in
    let place = at.old_place in
    let blocks = at.blocks in
    omega (arith, place, blocks, few, inside, fewer, fits)

-- its atoms are a disk's
pub site-known : (before : Stored) (map : Map) (site : Site) → IsNextZone before map site
    → IsDisk before.valid.sizes.atom (all_atoms before.valid.sizes) → IsAtom site.atom
site-known before map site zone disk =
    subst IsAtom (sym (ap (λ (s : Site). s.atom) zone.site_is ∙ zone.map_is.atom)) disk.known
