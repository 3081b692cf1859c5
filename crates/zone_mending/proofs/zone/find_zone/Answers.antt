use Rattle.std.proofs.Common.{◌≡◌, ◌∙◌, ◌/◌, ◌<◌, Some, ap, refl, sym, subst}
use Rattle.hotzone.proofs.GoneLemmas.{is-under_way}
use Rattle.hotzone.proofs.NextLemmas.{places-few}
use Rattle.luks_rules.specs.Shapes.{progress_of}
use Rattle.luks_rules.specs.States.{IsSound}
use Rattle.luks_rules.specs.declared.valid.Checked.{Checked}
use Rattle.reenc_meta.specs.ConversionMaps.{IsMapAt}
use Rattle.reenc_meta.specs.Placements.{all_atoms}
use Rattle.sector_disk.specs.Geometry.{IsDisk}
use Rattle.hotzone.specs.Sites.{IsSaved, guard_of, site_by}
use Rattle.zone_mending.proofs.OpenZoneLemmas.{is-open}
use Rattle.zone_mending.proofs.zone.find_zone.Goals as goal

pub guard_by-requires : goal.guard_by-requires
guard_by-requires c =
    let reenc = c.in-Some.reenc in
    let v = reenc.valid.now in
    let header = c.args.loaded.now in
    let same : v ≡ header.valid = c.in-Some.ensures.is ∙ c.valid-2.ensures in
    record {
      saved = (is-open header reenc.progress
          (subst (λ (x : Checked). progress_of x.meta x.sizes ≡ Some reenc.progress) same
          reenc.known) c.requires.zone).guarded;
    }

pub next_site-requires : goal.next_site-requires
next_site-requires c =
    let reenc = c.in-Some.reenc in
    let v = reenc.valid.now in
    let same : v ≡ c.args.loaded.now.valid = c.in-Some.ensures.is ∙ c.valid-2.ensures in
    record {
      places = places-few v.meta v.sizes reenc.progress c.map-map.result
          (subst (λ (x : Checked). IsSound x.meta x.sizes) (c.valid.ensures ∙ sym same)
          c.is_sound.ensures)
          reenc.known
          (subst (λ (x : Checked). IsDisk x.sizes.atom (all_atoms x.sizes)) (sym same)
          c.requires.disk)
          c.map-map.ensures.is;
    }

pub returns : goal.returns
returns c =
    let reenc = c.in-Some.reenc in
    let v = reenc.valid.now in
    let header = c.args.loaded.now in
    let map = c.map-map.result in
    let same : v ≡ header.valid = c.in-Some.ensures.is ∙ c.valid-2.ensures in
    let at : IsMapAt header.valid.sizes reenc.progress map =
    subst (λ (x : Checked). IsMapAt x.sizes reenc.progress map) same c.map-map.ensures.is in (
      map,
      record {
        now = reenc.progress;
        is = is-open header reenc.progress
            (subst (λ (x : Checked). progress_of x.meta x.sizes ≡ Some reenc.progress) same
            reenc.known) c.requires.zone;
        map_is = at;
        site_is = c.next_site.ensures
            ∙ ap (λ g. site_by map map.zone (reenc.progress.conversion.area.offset / map.atom) g)
            c.guard_by.ensures
            ∙ ap (λ a. site_by map map.zone (reenc.progress.conversion.area.offset / a)
            (guard_of reenc.progress.conversion.resilience)) at.atom;
      },
    )

pub unreachable-requires : goal.unreachable-requires
unreachable-requires c =
    is-under_way (λ now. (0 < now.plan.zone) × IsSaved now.conversion.resilience)
    c.args.loaded.now.valid c.valid-2.result.now c.valid-2.ensures c.requires.zone
    (c.in-None.ensures.none.0 refl)
