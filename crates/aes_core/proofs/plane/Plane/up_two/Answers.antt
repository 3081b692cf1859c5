use Rattle.std.proofs.Common.{◌+◌, ◌*◌, ◌/◌, ◌%◌, [], ◌∷◌, refl, ap, arith}
use Rattle.std.specs.Int.{bit_at}
use Rattle.aes_core.specs.Planes.{bit_in, place}
use Rattle.aes_core.specs.Laws.Bytes.{agree_below}
use Rattle.aes_core.proofs.MoveLemmas.{moved}
use Rattle.aes_core.proofs.plane.Plane.up_two.Goals as goal

pub returns : goal.returns
unfolding bit_in agree_below
returns c k row column =
    ap (λ n. bit_at n k)
    (moved (8 ∷ 9 ∷ 10 ∷ 11 ∷ 12 ∷ 13 ∷ 14 ∷ 15 ∷ 0 ∷ 1 ∷ 2 ∷ 3 ∷ 4 ∷ 5 ∷ 6 ∷ 7 ∷ [])
    (λ p. 4 * ((p / 4 + 2) % 4) + p % 4) refl tt refl c.args.self.0 (omega arith) row column
    (place (row + 2) column) (omega arith))
