use Rattle.luks_store.proofs.Copying.MeaningLemmas.{repaired_first, repaired_second}
use Rattle.luks_store.proofs.header_copies.repair.Repair.new.Goals as goal

pub returns-clause-primary : goal.returns-clause-primary
returns-clause-primary c =
    let made = c.in_ok-copy.ensures in
    repaired_first c.copies_are_spelt.ensures c.in_ok-copy.copy c.args.used.now c.args.salt.now
    c.args.place made.size made.shared made.valid

pub returns-clause-secondary : goal.returns-clause-secondary
returns-clause-secondary c =
    let made = c.in_ok-copy.ensures in
    repaired_second c.copies_are_spelt.ensures c.in_ok-copy.copy c.args.used.now c.args.salt.now
    c.args.place made.size made.shared made.valid
