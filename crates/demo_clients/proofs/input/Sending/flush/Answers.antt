use Rattle.std.proofs.Common.{ℕ, List, ◌++◌, ap, ◌∙◌}
use Rattle.std.proofs.lemmas.Result.{on_ok_weaker}
use Rattle.demo_clients.proofs.InputLemmas.{flush-asked}
use Rattle.demo_clients.proofs.input.Sending.flush.Goals as goal

pub returns-clause-bytes : goal.returns-clause-bytes
returns-clause-bytes c =
    let old = c.args.self.now in
    on_ok_weaker c.put_head.result
    (λ put. put ∙ ap (λ (t : List ℕ). old.bytes.items ++ t) (flush-asked old.cookie))
    c.put_head.ensures.bytes
