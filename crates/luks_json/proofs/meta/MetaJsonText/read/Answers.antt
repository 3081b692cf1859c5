use Rattle.luks_meta.specs.Metas.{IsMeta}
use Rattle.luks_json.specs.Metas.{meta_from}
use Rattle.luks_json.proofs.MetaLemmas.{meta_from_right}
use Rattle.json_members.proofs.ReadLemmas.{right_at}
use Rattle.luks_json.proofs.meta.MetaJsonText.read.Goals as goal

pub new-requires : goal.new-requires
new-requires c =
    right_at (meta_from c.args.hdr_size c.args.text.now) c.in-Ok.parts IsMeta c.in-Ok.ensures
    (meta_from_right c.args.hdr_size c.args.text.now)
