use Rattle.luks_store.proofs.SlotCommits.LawLemmas.{ends_kept, keeps_headers}
use Rattle.luks_store.proofs.SlotCommits.MovedLemmas.{same_sizes}
use Rattle.luks_store.specs.SlotCommits.Calls.{slot_calls}
use Rattle.luks_store.proofs.slot_commit.laws.slot_commits_keep_headers.Goals as goal

pub returns-clause-sizes : goal.returns-clause-sizes
returns-clause-sizes c = λ slot old new result made. same_sizes slot slot_calls old new result made

pub returns-clause-keeps : goal.returns-clause-keeps
returns-clause-keeps c =
    keeps_headers c.copies_are_read.ensures c.images_are_taken.ensures
    c.commits_keep_headers.ensures.gives c.commits_keep_headers.ensures.goes
    c.calls_are_seen.ensures.commits c.commits_begin.ensures c.metadata_go_by_meaning.ensures.loads
    c.headers_stand_in_front.ensures.areas

pub returns-clause-ends : goal.returns-clause-ends
returns-clause-ends c =
    ends_kept c.copies_are_read.ensures c.images_are_taken.ensures
    c.commits_keep_headers.ensures.gives c.commits_keep_headers.ensures.goes
    c.calls_are_seen.ensures.commits c.commits_begin.ensures c.metadata_go_by_meaning.ensures.loads
    c.headers_stand_in_front.ensures.areas
