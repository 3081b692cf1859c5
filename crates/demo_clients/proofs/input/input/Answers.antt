use Rattle.std.proofs.Common.{◌≡◌, ℕ, ◌+◌, ◌++◌, map, ap, ◌∙◌, arith}
use Rattle.std.proofs.lemmas.Result.{IfOk-weaker}
use Rattle.std.specs.List.{range_with_len}
use Rattle.plain_disk.specs.declared.operation.Op.TheVariants.{Flush}
use Rattle.demo_clients.specs.Inputs.{asking_text, parting_text, requests_text}
use Rattle.demo_clients.specs.Operations.{read_of, write_of}
use Rattle.demo_clients.proofs.InputLemmas.{input-whole}
use Rattle.demo_clients.proofs.input.input.Goals as goal

pub returns : goal.returns
returns c =
    let first = c.args.share.first in
    let count = c.args.share.count in
    let begun = c.in_ok-sending.sending in
    let written = c.write_all.new.self in
    let flushed = c.flush.new.self in
    let asked = c.read_all.new.self in
    let none : begun.cookie ≡ 0 = c.in_ok-sending.ensures.cookie in
    let writes : written.cookie ≡ count = omega (arith, none, c.in_ok-write_all.ensures.cookie) in
    let flush : flushed.cookie ≡ count + 1 =
    omega (arith, writes, c.in_ok-flush.ensures.cookie) in
    let reads : asked.cookie ≡ count + 1 + count =
    omega (arith, flush, c.in_ok-read_all.ensures.cookie) in
    IfOk-weaker c.disconnect.result _ _
    (λ bytes is. input-whole c.args.seed first count begun.bytes.items written.bytes.items
    flushed.bytes.items asked.bytes.items bytes.items c.in_ok-sending.ensures.bytes
    (c.in_ok-write_all.ensures.bytes
    ∙ ap (λ (n : ℕ). begun.bytes.items
    ++ requests_text n (map (write_of c.args.seed) (range_with_len first count))) none)
    (c.in_ok-flush.ensures.bytes
    ∙ ap (λ (n : ℕ). written.bytes.items ++ asking_text n Flush) writes)
    (c.in_ok-read_all.ensures.bytes
    ∙ ap (λ (n : ℕ). flushed.bytes.items
    ++ requests_text n (map read_of (range_with_len first count))) flush)
    (is ∙ ap (λ (n : ℕ). asked.bytes.items ++ parting_text n) reads))
    c.disconnect.ensures
