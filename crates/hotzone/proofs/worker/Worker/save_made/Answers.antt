use Rattle.std.proofs.Common.{refl, subst}
use Rattle.hotzone.specs.Headings.{IsToCome, IsUnmade}
use Rattle.hotzone.specs.Steps.{refuses}
use Rattle.hotzone.proofs.worker.Worker.save_made.Goals as goal

pub returns-in-Err : goal.returns-in-Err
returns-in-Err g c =
    let before = c.args.self.now.loaded in
    rw c.give_up.ensures
    (refuses _ refl c.requires.tells
    (subst (λ n. IsUnmade before 2 (IsToCome before n) c.in-Err.fault) c.len.ensures
    c.in-Err.ensures.unmade) refl (record { is = refl }))
