use Rattle.sector_cipher.specs.Disk.{sealed_in, opened_in, sealed_by, opened_by}
use Rattle.sector_cipher.proofs.ContextLemmas.{xts_seals, xts_opens, cbc_essiv_seals}
use Rattle.sector_cipher.proofs.ContextLemmas.{cbc_essiv_opens}
use Rattle.sector_cipher.proofs.context.DiskCipher+Aes.new.Goals as goal

pub returns-in_ok-xts_under-in-AesXtsPlain64-clause-seals :
    goal.returns-in_ok-xts_under-in-AesXtsPlain64-clause-seals
unfolding sealed_in sealed_by
returns-in_ok-xts_under-in-AesXtsPlain64-clause-seals c =
    rw c.in-AesXtsPlain64.is
    (xts_seals c.in_ok-xts_under-in-AesXtsPlain64.ensures.ok c.args.sector_size)

pub returns-in_ok-xts_under-in-AesXtsPlain64-clause-opens :
    goal.returns-in_ok-xts_under-in-AesXtsPlain64-clause-opens
unfolding opened_in opened_by
returns-in_ok-xts_under-in-AesXtsPlain64-clause-opens c =
    rw c.in-AesXtsPlain64.is
    (xts_opens c.in_ok-xts_under-in-AesXtsPlain64.ensures.ok c.args.sector_size)

pub returns-in_ok-cbc_essiv_under-in-AesCbcEssivSha256-clause-seals :
    goal.returns-in_ok-cbc_essiv_under-in-AesCbcEssivSha256-clause-seals
unfolding sealed_in sealed_by
returns-in_ok-cbc_essiv_under-in-AesCbcEssivSha256-clause-seals c =
    rw c.in-AesCbcEssivSha256.is
    (cbc_essiv_seals c.in_ok-cbc_essiv_under-in-AesCbcEssivSha256.ensures.ok c.args.sector_size)

pub returns-in_ok-cbc_essiv_under-in-AesCbcEssivSha256-clause-opens :
    goal.returns-in_ok-cbc_essiv_under-in-AesCbcEssivSha256-clause-opens
unfolding opened_in opened_by
returns-in_ok-cbc_essiv_under-in-AesCbcEssivSha256-clause-opens c =
    rw c.in-AesCbcEssivSha256.is
    (cbc_essiv_opens c.in_ok-cbc_essiv_under-in-AesCbcEssivSha256.ensures.ok c.args.sector_size)
