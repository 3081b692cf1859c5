use Rattle.seed_stream.proofs.WordLemmas.{fill-bytes, fill-count, fill-front}
use Rattle.seed_stream.proofs.streams_go_on.Goals as goal
use Rattle.seed_stream.specs.Streams.{bytes_of_seed}
use Rattle.rand_chacha.specs.ChaCha.{next_word, of_seed}

pub returns : goal.returns
unfolding bytes_of_seed
returns c = record {
  bytes = λ seed n k. fill-bytes (next_word 10) n (of_seed seed) k;
  count = λ seed n. fill-count (next_word 10) n (of_seed seed);
  front = λ seed n more whole. fill-front (next_word 10) n more (of_seed seed) whole;
}
