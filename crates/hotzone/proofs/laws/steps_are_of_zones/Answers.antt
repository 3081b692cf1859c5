use Rattle.std.proofs.Common.{[]}
use Rattle.crash_laws.specs.HotZones.Zones.{Texts}
use Rattle.hotzone.proofs.GoingLemmas.{step-begins, step-ends, step-goes}
use Rattle.hotzone.proofs.HaltingLemmas.{step-stops}
use Rattle.hotzone.proofs.KeptLemmas.{step-keeps}
use Rattle.hotzone.proofs.LawLemmas.{AreCiphers, step-stays}
use Rattle.hotzone.proofs.StepCallLemmas.{given-by}
use Rattle.hotzone.proofs.laws.steps_are_of_zones.Goals as goal

-- no atoms
none : Texts
none = record { old = λ i. []; new = λ i. []; saved = λ i. [] }

pub returns : goal.returns
returns g c =
    let cipher = g.C.SectorCipher in
    let ciphers : AreCiphers cipher.sector cipher.sealed cipher.opened =
    record {
      lengths = g.met.C.SectorCipher.sealed_length;
      gives = g.met.C.SectorCipher.sealed_bytes;
      undoes = g.met.C.SectorCipher.unseal_undoes_seal;
      lawful = c.keys_seal_lawfully.ensures;
    } in
    let given = given-by cipher.sector cipher.sealed cipher.opened ciphers
    c.zones_go_by_calls.ensures.goes c.zones_stay.ensures c.calls_are_seen.ensures.commits in
    record {
      begins = λ layout header before after old new stepped now over at means apart made told.
          step-begins
          (given layout header header header none before after old new now over told)
          c.zones_go_by_calls.ensures.begins stepped at means apart made;
      goes = λ layout first middle moved texts before after old new now over hand made told.
          step-goes (given layout first middle moved texts before after old new now over told) hand
          made;
      ends = λ layout first middle moved texts before after old new now over made told.
          step-ends (given layout first middle moved texts before after old new now over told)
          c.zones_go_by_calls.ensures.ends made;
      stops = λ layout first middle moved texts before after old new fault now over hand made told.
          step-stops (given layout first middle moved texts before after old new now over told)
          fault hand made;
      stays = λ seals layout first middle moved texts worker old new call known.
          step-stays c.zones_stay.ensures seals layout first middle moved texts worker old new call
          known;
      keeps = λ seals layout first middle moved texts worker view atom saved known.
          step-keeps seals layout first middle moved texts worker view atom saved known;
    }
