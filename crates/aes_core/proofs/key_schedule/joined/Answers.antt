use Rattle.aes_core.proofs.Words.{bytes_of_are_joined, bytes_of_block}
use Rattle.aes_core.proofs.key_schedule.joined.Goals as goal

pub returns-clause-bytes : goal.returns-clause-bytes
returns-clause-bytes c =
    bytes_of_are_joined c.args.w0 c.args.w1 c.args.w2 c.args.w3 c.fits-w0.0 c.fits-w1.0 c.fits-w2.0
    c.fits-w3.0

pub returns-clause-block : goal.returns-clause-block
returns-clause-block c =
    bytes_of_block c.args.w0 c.args.w1 c.args.w2 c.args.w3 c.fits-w0.1 c.fits-w1.1 c.fits-w2.1
    c.fits-w3.1
