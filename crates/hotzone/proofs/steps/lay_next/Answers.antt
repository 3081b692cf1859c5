use Rattle.std.proofs.Common.{◌≡◌, ◌∙◌, sym, subst}
use Rattle.hotzone.proofs.NextLemmas.{places-few}
use Rattle.luks_rules.specs.States.{IsSound}
use Rattle.luks_rules.specs.declared.valid.Checked.{Checked}
use Rattle.reenc_meta.specs.Placements.{all_atoms}
use Rattle.sector_disk.specs.Geometry.{IsDisk}
use Rattle.hotzone.proofs.steps.lay_next.Goals as goal

pub next_site-site-requires : goal.next_site-site-requires
next_site-site-requires c =
    let reenc = c.in-Some.reenc in
    let v = reenc.valid.now in
    let same : v ≡ c.args.loaded.now.valid = c.in-Some.ensures.is ∙ c.valid-2.ensures in
    record {
      places = places-few v.meta v.sizes reenc.progress c.map-map.result
          (subst (λ (x : Checked). IsSound x.meta x.sizes) (c.valid.ensures ∙ sym same)
          c.is_sound.ensures)
          reenc.known
          (subst (λ (x : Checked). IsDisk x.sizes.atom (all_atoms x.sizes)) (sym same)
          c.requires.disk)
          c.map-map.ensures.is;
    }
