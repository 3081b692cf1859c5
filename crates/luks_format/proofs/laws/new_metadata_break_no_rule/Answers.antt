use Rattle.luks_format.proofs.RulesLemmas.{no-fault}
use Rattle.luks_format.proofs.laws.new_metadata_break_no_rule.Goals as goal

pub returns : goal.returns
returns c =
    λ w d sizes wish disk room front block. no-fault w d sizes wish disk room front block
