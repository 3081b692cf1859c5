use Rattle.std.proofs.Common.{◌*◌, ◌/◌, ◌≤◌, ℕ, List, arith, length, subst, drop}
use Rattle.std.proofs.Math.Nat.{mod-add-div'}
use Rattle.resil_checksum.proofs.DigestLemmas.{digests-joined, run-whole}
use Rattle.resil_checksum.specs.Digests.{AreDigests}
use Rattle.std.specs.Fork.{slice_chunk}
use Rattle.resil_checksum.proofs.digests.digest_all.Goals as goal

pub for_each_chunk_mut-requires-clause-accepts : goal.for_each_chunk_mut-requires-clause-accepts
for_each_chunk_mut-requires-clause-accepts g c κs within start p chunk =
    let old = c.args.old.now in
    let enough : length old / c.args.atom * c.args.atom ≤ length old =
    omega (arith, mod-add-div' (length old) c.args.atom) in (
      c.requires.some,
      run-whole c.args.atom c.part_of-run.result (length old / c.args.atom) start old
          c.args.out.now p.now c.requires.room enough chunk,
    )

pub returns-clause-digests : goal.returns-clause-digests
returns-clause-digests g c =
    let atom = c.args.atom in
    let old = c.args.old.now in
    let run = c.part_of-run.result in
    let digests : List ℕ → List ℕ → ℕ → Type 0 =
    λ before after n. AreDigests atom (length before / 32) (drop (n * (run * 32) / 32 * atom) old) after in
    digests-joined atom run (length old / atom) old c.args.out.now c.for_each_chunk_mut.new.s
    c.part_of-run.ensures.some c.requires.room (λ n inside.
    let call = c.for_each_chunk_mut.ensures.chunks n inside in
    subst (λ l. digests l (slice_chunk c.for_each_chunk_mut.new.s (run * 32) n) n) call.argument_is
    (subst (λ l. digests call.argument.now l n) call.left call.call))
