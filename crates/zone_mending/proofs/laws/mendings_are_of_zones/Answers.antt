use Rattle.std.proofs.Common.{List, ℕ}
use Rattle.sector_disk.specs.DiskViews.Views.{view_of_cells}
use Rattle.hotzone.proofs.KnownLemmas.{SealRuns, seal-runs}
use Rattle.hotzone.proofs.LawLemmas.{AreCiphers}
use Rattle.sector_disk.specs.Devices.{Device}
use Rattle.crash_laws.specs.HeaderAreas.Headers.{Layout}
use Rattle.zone_mending.proofs.MendLemmas.{step-ends, step-fails, step-goes}
use Rattle.zone_mending.proofs.MenderLemmas.{fits-disk}
use Rattle.zone_mending.proofs.StartLemmas.{mend-resumes, mend-starts, mend-stays}
use Rattle.zone_mending.specs.Promises.{IsOver, seals_in}
use Rattle.zone_mending.specs.declared.mender.Mender.{Mender}
use Rattle.zone_mending.proofs.laws.mendings_are_of_zones.Goals as goal

runs-over : {C : Type 0} (sector : C → ℕ) (seal unseal : C → ℕ → List ℕ → List ℕ)
    → AreCiphers sector seal unseal → (layout : Layout) (before : Mender C) (old : Device)
    → IsOver sector layout before old
    → SealRuns before.site.atom (seals_in seal unseal before)
runs-over sector seal unseal ciphers layout before old over =
    let fits = fits-disk sector before old over.mends over.sizes in
    let keys = fits.keys in
    seal-runs sector seal unseal before.keys before.site.atom
    (ciphers.lawful before.keys before.site.atom fits.known keys.old_sector keys.new_sector)
    ciphers.lengths ciphers.gives ciphers.undoes keys.new_sector

pub returns : goal.returns
returns g c =
    let cipher = g.C.SectorCipher in
    let ciphers : AreCiphers cipher.sector cipher.sealed cipher.opened =
    record {
      lengths = g.met.C.SectorCipher.sealed_length;
      gives = g.met.C.SectorCipher.sealed_bytes;
      undoes = g.met.C.SectorCipher.unseal_undoes_seal;
      lawful = c.keys_seal_lawfully.ensures;
    } in
    let goes = c.zones_go_by_calls.ensures.goes in
    let stays = c.zones_stay.ensures in
    let seen = c.calls_are_seen.ensures.commits in
    record {
      resumes = λ layout opened texts mender device now over at means header told are found.
          mend-resumes cipher.sector (seals_in cipher.sealed cipher.opened mender)
          c.zones_are_resumed.ensures.resumes layout opened texts mender device
          (view_of_cells now.now) over at means header are found;
      starts = λ layout mender device now bytes stored texts over at told certain held good means
          laid found has.
          mend-starts cipher.sector (seals_in cipher.sealed cipher.opened mender)
          c.zones_are_resumed.ensures.resumes c.commits_begin.ensures layout mender device now bytes
          stored texts over at told certain held good means laid found has;
      goes = λ layout opened texts before after old new now over made told.
          step-goes cipher.sector (seals_in cipher.sealed cipher.opened before) goes stays seen
          layout opened texts before after old new now over told
          (runs-over cipher.sector cipher.sealed cipher.opened ciphers layout before old over) made;
      ends = λ layout opened texts before after old new now over made told.
          step-ends cipher.sector (seals_in cipher.sealed cipher.opened before) goes stays seen
          layout opened texts before after old new now over told
          (runs-over cipher.sector cipher.sealed cipher.opened ciphers layout before old over)
          c.zones_go_by_calls.ensures.ends made;
      fails = λ layout opened texts before after old new now over made told.
          step-fails cipher.sector (seals_in cipher.sealed cipher.opened before) goes stays seen
          layout opened texts before after old new now over told
          (runs-over cipher.sector cipher.sealed cipher.opened ciphers layout before old over) made;
      stays = λ seals layout opened texts mender old new call known.
          mend-stays stays seals layout opened texts mender old new call known;
    }
