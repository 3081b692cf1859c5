use Rattle.std.proofs.Common.{◌∙◌, ap, length, refl, arith, subst}
use Rattle.std.proofs.lemmas.List.{length-replicate}
use Rattle.luks_rules.specs.States.{IsSound}
use Rattle.luks_rules.specs.declared.valid.Checked.{Checked}
use Rattle.zone_mending.proofs.OpenZoneLemmas.{zone-known}
use Rattle.zone_mending.proofs.StepLemmas.{mends-new}
use Rattle.zone_mending.proofs.mending.make_mender.Goals as goal

pub bytes-requires : goal.bytes-requires
bytes-requires g c = record {
  atom = zone-known _ _ _ c.requires.zone.1 c.requires.disk;
  within = omega arith;
}

pub digest_room-requires : goal.digest_room-requires
digest_room-requires g c =
    record { atom = zone-known _ _ _ c.requires.zone.1 c.requires.disk }

pub returns-in-Ok-digest_room-clause-mends : goal.returns-in-Ok-digest_room-clause-mends
returns-in-Ok-digest_room-clause-mends g c =
    let long = ap length c.in-Ok.ensures ∙ length-replicate _ 0 in
    let size = c.bytes.ensures in
    let buffer = ap length c.new.ensures in
    mends-new g.C.SectorCipher.sector _ c.requires.zone.0 c.is_stored.ensures.stored c.requires.disk
    (subst (λ (x : Checked). IsSound x.meta x.sizes) c.valid.ensures c.is_sound.ensures)
    c.requires.zone.1 c.requires.maps c.requires.keys (omega (arith, long, size, buffer))
    c.in-Ok-digest_room.ensures c.requires.moved c.requires.begun refl

pub returns-in-Ok-digest_room-clause-new : goal.returns-in-Ok-digest_room-clause-new
returns-in-Ok-digest_room-clause-new g c = record {
  loaded = refl;
  keys_are = refl;
  map = c.requires.zone.0;
  zone = c.requires.zone.1;
  moves = c.requires.moved;
  begun = c.requires.begun;
  first = refl;
}
