use Rattle.std.proofs.Common.{refl, ap}
use Rattle.hotzone.proofs.GuardLemmas.{first-start}
use Rattle.hotzone.specs.Steps.{saves_first, save_first_fails}
use Rattle.hotzone.proofs.worker.Worker.save_with.Goals as goal

pub save_part-requires-clause-start : goal.save_part-requires-clause-start
save_part-requires-clause-start g c =
    first-start c.args.self.now.site c.requires.fits.known

pub returns-in-Ok : goal.returns-in-Ok
returns-in-Ok g c =
    let made = c.requires.made in
    saves_first refl c.requires.tells c.in-Ok.ensures.call c.args.headers made.are
    (made.open_begun, made.moved_begun)
    (ap (λ n. record c.args.self.now { next = n }) c.behind_save.ensures)

pub returns-in-Err : goal.returns-in-Err
returns-in-Err g c =
    save_first_fails refl c.requires.tells c.in-Err.ensures.call (record { is = refl })
