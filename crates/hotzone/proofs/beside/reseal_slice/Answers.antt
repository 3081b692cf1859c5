use Rattle.std.proofs.Common.{◌∙◌, ◌*◌, List, ℕ, ap, drop, length, take}
use borrow.Rule.Slice.PartMut.{put_mid}
use Rattle.hotzone.proofs.PartLemmas.{all-rewritten}
use Rattle.hotzone.specs.Steps.{resealed}
use Rattle.volume_machine.specs.Seals.{seals_of}
use Rattle.hotzone.proofs.beside.reseal_slice.Goals as goal

pub returns-clause-sealed : goal.returns-clause-sealed
returns-clause-sealed g c =
    let size = c.args.piece.count * c.args.atom in
    all-rewritten c.args.buffer.now c.reseal_among.new.bytes
    (c.reseal_among.ensures.length ∙ ap length c.as_mut_slice.ensures.value)
    ∙ (c.reseal_among.ensures.sealed
    ∙ ap (λ (xs : List ℕ). put_mid c.args.from size xs
    (resealed (seals_of g.C.SectorCipher.sealed g.C.SectorCipher.opened c.args.atom c.args.keys.now)
    c.args.piece.first (take size (drop c.args.from xs)))) c.as_mut_slice.ensures.value)

pub returns-clause-length : goal.returns-clause-length
returns-clause-length g c =
    let long = c.reseal_among.ensures.length ∙ ap length c.as_mut_slice.ensures.value in
    ap length (all-rewritten c.args.buffer.now c.reseal_among.new.bytes long) ∙ long
