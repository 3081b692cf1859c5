use Rattle.std.proofs.Common.{option_map, ap, ◌∙◌}
use Rattle.serde_json.specs.Find.{get_member}
use Rattle.serde_json.specs.View.{view, members_view}
use Rattle.serde_json.proofs.Views.{view-lookup}
use Rattle.json_members.specs.Members.{without}
use Rattle.json_members.proofs.MemberLemmas.{removed}
use Rattle.json_members.proofs.object.Object.take.Goals as goal

pub returns-clause-taken : goal.returns-clause-taken
returns-clause-taken c =
    ap (option_map view) c.remove.ensures.value
    ∙ view-lookup c.args.name.now c.self.inside.map.entries
    ∙ ap (get_member c.args.name.now) c.self.view_is

pub returns-clause-rest : goal.returns-clause-rest
returns-clause-rest c =
    ap members_view c.remove.ensures.entries
    ∙ removed c.args.name.now c.self.inside.map.entries c.len-ordered.ensures.ordered
    ∙ ap (without c.args.name.now) c.self.view_is
