use Rattle.std.proofs.Common.{arith, ◌∙◌}
use Rattle.volume_machine.proofs.EdgeBlocks.{few_edges}
use Rattle.volume_machine.proofs.NextPieces.{place-in}
use Rattle.volume_core.proofs.CodePieceSteps.{front-size}
use Rattle.volume_core.proofs.calls.read_edge.Goals as goal

pub fetching-requires : goal.fetching-requires
fetching-requires g c =
    omega (
      arith,
      few_edges c.args.map.atom c.args.operation.now.ask,
      c.requires.can.next,
      c.requires.can.some,
    )

pub returns-in-Ok-clause-reads : goal.returns-in-Ok-clause-reads
returns-in-Ok-clause-reads g c = record {
  was = c.if-is_broken.false;
  call = (
    record {
      size = front-size c.args.map.atom c.in-Ok.buffer c.args.buffer c.in-Ok.ensures.length
          c.requires.front ∙ omega arith;
      are_bytes = c.in-Ok.ensures.bytes;
    },
    rw (
      ← c.edge-block.ensures,
      ← place-in c.args.map c.edge-block.result c.place.result c.place.ensures,
      c.requires.atom,
    ) (rw c.requires.atom at c.in-Ok.ensures.read),
  );
  leaves = c.fetching.ensures;
}
