use Rattle.luks_init.proofs.StartLemmas.{may-start}
use Rattle.luks_init.proofs.laws.begun_conversions_may_start.Goals as goal

pub returns : goal.returns
returns c =
    λ m sizes w d p v sound known wish there crypt placed. may-start m sizes w d p v sound known
    wish there crypt placed
