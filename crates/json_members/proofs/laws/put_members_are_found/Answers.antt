use Rattle.serde_json.proofs.Views.{get_member-put, get_member-put_other}
use Rattle.json_members.proofs.laws.put_members_are_found.Goals as goal

pub returns-clause-found : goal.returns-clause-found
returns-clause-found c = get_member-put

pub returns-clause-kept : goal.returns-clause-kept
returns-clause-kept c name other d ms apart = get_member-put_other other name d ms apart
