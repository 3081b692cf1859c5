use Rattle.std.proofs.Common.{[], slice_index_or}
use Rattle.cbc_essiv.proofs.RowLemmas.{ArePutApart}
use Rattle.cbc_essiv.proofs.side_by_side.put_apart.Given as goal

-- the first k of the eight blocks are put
abbrev pub invariant-loop-k : goal.invariant-loop-k
invariant-loop-k l =
    ArePutApart l.size l.at l.k (λ n. slice_index_or l.arrays n []) l.initial.row l.row
