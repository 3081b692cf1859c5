use Rattle.json_members.proofs.PlainLemmas.{get_member-without, get_member-without_other}
use Rattle.json_members.proofs.laws.other_members_are_kept.Goals as goal

pub returns-clause-gone : goal.returns-clause-gone
returns-clause-gone c name ms = get_member-without name ms

pub returns-clause-kept : goal.returns-clause-kept
returns-clause-kept c name other ms apart = get_member-without_other other name ms apart
