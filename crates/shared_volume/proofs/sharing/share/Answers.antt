use Rattle.std.proofs.Common.{ap, ◌∙◌}
use Rattle.volume_cell.specs.Knowing.{beginning}
use Rattle.volume_cell.specs.Passes.{known}
use Rattle.shared_volume.specs.Ciphers.{sector_of}
use Rattle.shared_volume.proofs.Turning.{on-each}
use Rattle.shared_volume.proofs.WorkerTurns.{has-worker}
use Rattle.shared_volume.proofs.sharing.share.Goals as goal

pub returns-in-Ok-clause-on : goal.returns-in-Ok-clause-on
returns-in-Ok-clause-on g c =
    on-each sector_of c.args.volume c.keys-keys.result _ (known c.in-Ok.first)
    (c.in-Ok.ensures.pass.1 ∙ ap beginning c.of.ensures.opening) c.keys-keys.ensures.is
    c.keys-keys.ensures.fits (rw c.map-atom.ensures.is at c.map-atom.ensures.fits)
    (ap (λ m. m.atom) c.map-atom.ensures.is) (ap (λ m. m.blocks) c.map-atom.ensures.is)

pub returns-in-Ok-clause-has : goal.returns-in-Ok-clause-has
returns-in-Ok-clause-has g c =
    has-worker c.args.volume (known c.in-Ok.first)
    (c.in-Ok.ensures.pass.1 ∙ ap beginning c.of.ensures.opening)
