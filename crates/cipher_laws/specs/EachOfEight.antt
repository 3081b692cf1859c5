-- What holds of each of eight.
use Rattle.std.proofs.Common.{ℕ, zero, suc, ◌<◌, arith}

-- a fact of each number below 8
pub each_of_eight : (P : ℕ → Type 0) → P 0 → P 1 → P 2 → P 3 → P 4 → P 5 → P 6 → P 7 → (k : ℕ)
    → k < 8 → P k
each_of_eight P p0 p1 p2 p3 p4 p5 p6 p7 zero below = p0
each_of_eight P p0 p1 p2 p3 p4 p5 p6 p7 (suc zero) below = p1
each_of_eight P p0 p1 p2 p3 p4 p5 p6 p7 (suc (suc zero)) below = p2
each_of_eight P p0 p1 p2 p3 p4 p5 p6 p7 (suc (suc (suc zero))) below = p3
each_of_eight P p0 p1 p2 p3 p4 p5 p6 p7 (suc (suc (suc (suc zero)))) below = p4
each_of_eight P p0 p1 p2 p3 p4 p5 p6 p7 (suc (suc (suc (suc (suc zero))))) below = p5
each_of_eight P p0 p1 p2 p3 p4 p5 p6 p7 (suc (suc (suc (suc (suc (suc zero)))))) below = p6
each_of_eight P p0 p1 p2 p3 p4 p5 p6 p7 (suc (suc (suc (suc (suc (suc (suc zero))))))) below = p7
each_of_eight P p0 p1 p2 p3 p4 p5 p6 p7 (suc (suc (suc (suc (suc (suc (suc (suc k)))))))) below =
    absurd (omega arith)
