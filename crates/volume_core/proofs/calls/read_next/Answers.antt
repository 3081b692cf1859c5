use Rattle.std.proofs.Common.{◌∙◌}
use Rattle.volume_machine.proofs.NextPieces.{place-of}
use Rattle.volume_core.proofs.CodePieceSteps.{front-size, read-size}
use Rattle.volume_core.proofs.calls.read_next.Goals as goal

pub returns-in-Ok-clause-reads : goal.returns-in-Ok-clause-reads
returns-in-Ok-clause-reads g c =
    let piece = c.next_piece-piece.result in
    let next = rw c.rest.ensures at c.next_piece-piece.ensures in
    record {
      was = c.if-is_broken.false;
      piece = piece;
      next = next;
      call = (
        record {
          size = front-size c.args.len c.in-Ok.buffer c.args.buffer c.in-Ok.ensures.length
              c.requires.front
              ∙ read-size _ c.args.len c.args.operation.now piece c.requires.can next;
          are_bytes = c.in-Ok.ensures.bytes;
        },
        rw (
          ← place-of _ c.args.operation.now piece c.place.result next c.place.ensures,
          c.requires.atom,
        ) c.in-Ok.ensures.read,
      );
      leaves = c.moved.ensures;
    }
