use Rattle.std.proofs.Common.{slice_index}
use Rattle.aes_core.proofs.SquareLemmas.{square_transposed}
use Rattle.aes_core.proofs.transposition.transposed.Goals as goal

pub returns : goal.returns
returns c p within =
    let x = c.args.x in
    rw (
      c.exchange-c04.ensures.first p within,
      c.exchange-c04.ensures.second p within,
      c.exchange-c15.ensures.first p within,
      c.exchange-c15.ensures.second p within,
      c.exchange-c26.ensures.first p within,
      c.exchange-c26.ensures.second p within,
      c.exchange-c37.ensures.first p within,
      c.exchange-c37.ensures.second p within,
      c.exchange-b02.ensures.first p within,
      c.exchange-b02.ensures.second p within,
      c.exchange-b13.ensures.first p within,
      c.exchange-b13.ensures.second p within,
      c.exchange-b46.ensures.first p within,
      c.exchange-b46.ensures.second p within,
      c.exchange-b57.ensures.first p within,
      c.exchange-b57.ensures.second p within,
      c.exchange-a01.ensures.first p within,
      c.exchange-a01.ensures.second p within,
      c.exchange-a23.ensures.first p within,
      c.exchange-a23.ensures.second p within,
      c.exchange-a45.ensures.first p within,
      c.exchange-a45.ensures.second p within,
      c.exchange-a67.ensures.first p within,
      c.exchange-a67.ensures.second p within,
    )
    (square_transposed (slice_index x.b0 p) (slice_index x.b1 p) (slice_index x.b2 p)
    (slice_index x.b3 p)
    (slice_index x.b4 p) (slice_index x.b5 p) (slice_index x.b6 p) (slice_index x.b7 p))
