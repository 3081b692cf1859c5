use Rattle.volume_machine.proofs.NextPieces.{place-of}
use Rattle.volume_core.proofs.CodePieceSteps.{write-bytes}
use Rattle.volume_core.proofs.calls.write_next.Goals as goal

pub returns-in-Ok-clause-writes : goal.returns-in-Ok-clause-writes
returns-in-Ok-clause-writes g c =
    let next = rw c.rest.ensures at c.next_piece-piece.ensures in
    record {
      was = c.if-broken.false;
      piece = c.next_piece-piece.result;
      next = next;
      call = (
        write-bytes _ _ c.args.operation.now _ c.requires.can next,
        rw (
          ← place-of _ c.args.operation.now _ c.place.result next c.place.ensures,
          c.requires.atom,
          ← c.as_slice.ensures,
        ) c.in-Ok.ensures.call,
      );
      leaves = c.moved.ensures;
    }

pub returns-in-Err-clause-writes : goal.returns-in-Err-clause-writes
returns-in-Err-clause-writes g c =
    let next = rw c.rest.ensures at c.next_piece-piece.ensures in
    record {
      was = c.if-broken.false;
      piece = c.next_piece-piece.result;
      next = next;
      call = (
        write-bytes _ _ c.args.operation.now _ c.requires.can next,
        rw (
          ← place-of _ c.args.operation.now _ c.place.result next c.place.ensures,
          c.requires.atom,
          ← c.as_slice.ensures,
        ) c.in-Err.ensures.call,
      );
      leaves = c.failing-in-Err.ensures;
    }
