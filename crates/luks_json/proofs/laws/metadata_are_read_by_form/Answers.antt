use Rattle.json_members.proofs.ReadLemmas.{right_at}
use Rattle.luks_json.specs.MetaForms.{HasMeta}
use Rattle.luks_json.specs.Metas.{meta_of}
use Rattle.luks_json.proofs.MetaFormLemmas.{meta_form, meta_made}
use Rattle.luks_json.proofs.laws.metadata_are_read_by_form.Goals as goal

pub returns : goal.returns
returns c = λ hdr_size d m. (
  λ is. right_at (meta_of hdr_size d) m (HasMeta hdr_size d) is (meta_form hdr_size d),
  λ has. meta_made hdr_size d m has,
)
