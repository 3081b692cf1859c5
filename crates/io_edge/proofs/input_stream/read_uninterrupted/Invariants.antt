use Rattle.io_edge.specs.Calls.{ReadsInVain}
use Rattle.io_edge.proofs.input_stream.read_uninterrupted.Given as goal

abbrev pub invariant-loop : goal.invariant-loop
invariant-loop g l = ReadsInVain g.R.InputStream.reads l.counter l.initial.reader l.reader
