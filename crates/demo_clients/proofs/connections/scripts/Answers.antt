use Rattle.std.proofs.Common.{◌≡◌, ℕ, ◌+◌, List, [], ◌∷◌, ◌++◌, map, ap, ap₂, sym, ◌∙◌, arith}
use Rattle.std.proofs.lemmas.Grind.{common_steps}
use Rattle.std.proofs.lemmas.List.FromFn.{map-range_with_len_more}
use Rattle.std.specs.List.{range_with_len}
use Rattle.io_edge.specs.Memory.{Input, Output}
use Rattle.demo_clients.specs.Connections.{connection_of, demo_connections}
use Rattle.demo_clients.proofs.connections.scripts.Goals as goal

pub loop-session-preserved : goal.loop-session-preserved
loop-session-preserved c =
    let made = connection_of c.args.seed c.args.blocks c.args.workers in
    let session = c.loop-session.session in
    let same : 0 + session ≡ session = omega arith in
    record {
      room = grind (arith, common_steps);
      count = grind (arith, common_steps);
      made = c.push_reserved.ensures.items
          ∙ ap₂ (λ (xs : List (Input × Output)) (x : Input × Output). xs ++ x ∷ [])
          c.loop-session.invariant.made c.in_ok-connection.ensures
          ∙ sym (map-range_with_len_more made 0 session session same);
    }

pub returns : goal.returns
unfolding demo_connections
returns c =
    let all : c.loop-session.session ≡ c.args.workers = omega arith in
    c.loop-session.invariant.made
    ∙ ap
    (λ (n : ℕ). map (connection_of c.args.seed c.args.blocks c.args.workers) (range_with_len 0 n))
    all
