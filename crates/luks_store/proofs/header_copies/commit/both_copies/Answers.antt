use Rattle.std.proofs.Common.{refl}
use Rattle.luks_bin.specs.Writing.{common}
use Rattle.luks_store.proofs.Copying.MeaningLemmas.{both_agree, written_header, written_number}
use Rattle.luks_store.proofs.header_copies.commit.both_copies.Goals as goal

pub returns-clause-valid : goal.returns-clause-valid
unfolding common
returns-clause-valid c =
    let first = c.in_ok-first.ensures in
    let second = c.in_ok-second.ensures in
    written_header c.copies_are_spelt.ensures c.args.header.now.hdr_size c.in_ok-first.first
    c.in_ok-second.second _ _ refl refl
    first.back second.back first.size second.size
    (both_agree c.in_ok-first.first c.in_ok-second.second _ first.shared second.shared)

pub returns-clause-number : goal.returns-clause-number
returns-clause-number c =
    (written_number c.copies_are_spelt.ensures 0 c.in_ok-first.first _ c.in_ok-first.ensures.back
    c.in_ok-first.ensures.size).0

pub returns-clause-size : goal.returns-clause-size
returns-clause-size c =
    (written_number c.copies_are_spelt.ensures 0 c.in_ok-first.first _ c.in_ok-first.ensures.back
    c.in_ok-first.ensures.size).1
