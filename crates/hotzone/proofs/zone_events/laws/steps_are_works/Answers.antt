use Rattle.hotzone.proofs.ZoneEvents.LawLemmas.{AreCiphers, parts-by, works-by}
use Rattle.hotzone.proofs.ZoneEvents.StayLemmas.{steps-keep, steps-leave}
use Rattle.hotzone.specs.Promises.{seals_in}
use Rattle.hotzone.proofs.zone_events.laws.steps_are_works.Goals as goal

pub returns-clause-works : goal.returns-clause-works
returns-clause-works g c =
    let cipher = g.C.SectorCipher in
    let ciphers : AreCiphers cipher.sector cipher.sealed cipher.opened =
    record {
      lengths = g.met.C.SectorCipher.sealed_length;
      gives = g.met.C.SectorCipher.sealed_bytes;
      undoes = g.met.C.SectorCipher.unseal_undoes_seal;
      lawful = c.keys_seal_lawfully.ensures;
    } in
    λ layout before after old new result of made becomes.
    works-by cipher.sector cipher.sealed cipher.opened ciphers layout before after old new result of
    made becomes

pub returns-clause-parts : goal.returns-clause-parts
returns-clause-parts g c =
    λ before after old new step working later made.
    parts-by g.C.SectorCipher.sector before after working
    (seals_in g.C.SectorCipher.sealed g.C.SectorCipher.opened before) old new step later made

pub returns-clause-ground : goal.returns-clause-ground
returns-clause-ground g c =
    let cipher = g.C.SectorCipher in steps-keep cipher.sector cipher.sealed cipher.opened

pub returns-clause-leaves : goal.returns-clause-leaves
returns-clause-leaves g c =
    let cipher = g.C.SectorCipher in steps-leave cipher.sector cipher.sealed cipher.opened
