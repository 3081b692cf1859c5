use Rattle.std.proofs.Common.{inl, inr, ⊎_elim}
use Rattle.reenc_tool.proofs.RunLemmas.{handed}
use Rattle.reenc_tool.proofs.opening.serve_joined.Goals as goal

pub returns-clause-ended : goal.returns-clause-ended
returns-clause-ended g c =
    ⊎_elim
    (λ served. inl (record {
      left = _;
      came = _;
      served = served;
      back = c.hand_back.ensures.back;
    }))
    (λ none. inr (handed g.D.Disk.device _ _ _ _ _ none.0 none.1 c.hand_back.ensures.back))
    c.serve_volume-joined.ensures.served
