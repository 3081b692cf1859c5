use Rattle.std.proofs.Common.{rules}
use Rattle.aes_core.proofs.ExchangeLemmas.{first_lane, second_lane}
use Rattle.aes_core.proofs.transposition.exchange.Goals as goal

pub returns-clause-first : goal.returns-clause-first
returns-clause-first c =
    first_lane c.args.n c.args.mask c.args.a c.args.b (search rules) c.fits-a.0 c.fits-b.0
    c.fits-a.1 c.fits-b.1

pub returns-clause-second : goal.returns-clause-second
returns-clause-second c =
    second_lane c.args.n c.args.mask c.args.a c.args.b c.fits-a.0 c.fits-b.0 c.fits-a.1 c.fits-b.1
