use Rattle.std.proofs.Common.{◌++◌, ◌∙◌, rules, refl, ap, take, drop, length}
use Rattle.base_terms.specs.Blocks.{rewritten}
use Rattle.base_terms.proofs.buffer.Buffer.as_mut_slice.Goals as goal

pub returns : goal.returns
returns c =
    let vec = c.self.inside.vec in (
      (
        refl,
        λ bytes.
            ap (λ n. take n (bytes ++ drop (length bytes) vec.items)) vec.ok.0
            ∙ ap (λ old. rewritten old bytes) c.self.view_is,
      ),
      record { writes_back = tt; value = search rules },
    )
