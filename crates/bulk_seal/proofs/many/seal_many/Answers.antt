use Rattle.std.proofs.Common.{◌≡◌, ℕ, ◌+◌, ◌*◌, ◌/◌, ◌%◌, ◌<◌, length, ap, sym, ◌∙◌, arith}
use Rattle.cipher_laws.specs.Bytes.{AreSectors}
use Rattle.bulk_seal.proofs.ManyLemmas.{multiple_through, chunk_whole, runs_changed, in_turn}
use Rattle.bulk_seal.proofs.many.seal_many.Goals as goal

pub for_each_chunk_mut-requires-clause-accepts : goal.for_each_chunk_mut-requires-clause-accepts
for_each_chunk_mut-requires-clause-accepts g c κs within start p chunk =
    let sector = g.C.SectorCipher.sector c.args.cipher.now in
    let run = c.run_length-run in
    let whole_run : run.result % sector ≡ 0 =
    multiple_through sector c.args.atom run.result run.ensures.whole c.requires.sectors in
    let whole : length c.args.bytes.now % sector ≡ 0 =
    multiple_through sector c.args.atom (length c.args.bytes.now) c.requires.whole
    c.requires.sectors in (
      chunk_whole sector run.result start c.args.bytes.now p.now whole_run whole chunk,
      omega (arith, chunk.in_bounds, c.requires.in_range),
    )

pub returns : goal.returns
returns g c =
    let cipher = c.args.cipher.now in
    let bytes = c.args.bytes.now in
    let sector = g.C.SectorCipher.sector cipher in
    let change = g.C.SectorCipher.sealed cipher in
    let run = c.run_length-run in
    let joins = c.tell_laws.ensures.joined in
    let keeps = c.tell_laws.ensures.lengths in
    let whole_run : run.result % sector ≡ 0 =
    multiple_through sector c.args.atom run.result run.ensures.whole c.requires.sectors in
    let units : run.result % 512 ≡ 0 =
    multiple_through 512 sector run.result whole_run c.tell_laws.ensures.units in
    let are : AreSectors sector bytes = record {
      whole = multiple_through sector c.args.atom (length bytes) c.requires.whole
          c.requires.sectors;
      are_bytes = c.tell_laws.ensures.are_bytes;
    } in
    let chunks = λ (n : ℕ) (inside : n * run.result < length bytes).
    let call =
    c.for_each_chunk_mut.ensures.chunks n inside in
    sym call.left ∙ call.call
    ∙ ap (change (c.args.first + n * run.result / 512)) call.argument_is in
    let at_once =
    runs_changed sector change joins run.result run.ensures.some whole_run units c.args.first bytes
    c.for_each_chunk_mut.new.s are c.for_each_chunk_mut.auto.s keeps chunks in record {
      at_once = at_once;
      in_turn =
          at_once ∙ in_turn sector change joins keeps c.args.atom c.args.first bytes c.requires.some
          c.requires.sectors c.requires.whole are.are_bytes;
    }
