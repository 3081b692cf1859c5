use Rattle.std.proofs.Common.{◌≡◌, ℕ, length, ◌∙◌, ap}
use Rattle.std.proofs.lemmas.List.{length-replicate, take_at}
use Rattle.luks_store.proofs.DiskLemmas.{read-bytes, unwritten-call}
use Rattle.luks_store.proofs.reading.read_bytes.Goals as goal

pub returns-in-Ok-read-clause-bytes : goal.returns-in-Ok-read-clause-bytes
returns-in-Ok-read-clause-bytes g c = λ all told.
    let buf = c.read.new.buf in
    let there : length buf ≡ c.in-Ok.bytes.len = c.read.auto.buf ∙ c.as_mut_slice.ensures.len in
    let long : length buf ≡ c.args.len =
    c.read.auto.buf ∙ ap length (c.as_mut_slice.ensures.value ∙ c.in-Ok.ensures)
    ∙ length-replicate {A = ℕ} c.args.len 0 in
    c.new.ensures ∙ take_at buf _ _ there
    ∙ read-bytes c.sizes-sizes.result.atom _ c.args.place c.args.len all buf
    c.sizes-sizes.ensures.known
    c.sizes-sizes.ensures.atom c.requires.place long (c.in-Ok-read.ensures.call.content all told)

pub returns-in-Ok-read-clause-unwritten : goal.returns-in-Ok-read-clause-unwritten
returns-in-Ok-read-clause-unwritten g c =
    unwritten-call _ _ _ _ _ _ c.read.ensures.call c.read.ensures.each

pub returns-in-Err-read-clause-unwritten : goal.returns-in-Err-read-clause-unwritten
returns-in-Err-read-clause-unwritten g c =
    unwritten-call _ _ _ _ _ _ c.read.ensures.call c.read.ensures.each
