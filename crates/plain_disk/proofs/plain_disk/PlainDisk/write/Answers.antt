use Rattle.std.proofs.Common.{◌≡◌, ◌+◌, ◌*◌, ◌≤◌, length, sym, ap, ◌∙◌, subst, arith}
use Rattle.base_terms.proofs.BlockLemmas.{length-blocks_of}
use Rattle.plain_disk.proofs.EdgeLemmas.{written_values}
use Rattle.plain_disk.specs.Machine.{Machine}
use Rattle.plain_disk.proofs.plain_disk.PlainDisk.write.Goals as goal

pub paste-requires : goal.paste-requires
paste-requires c =
    let size : length c.args.self.now.newest * c.args.self.now.atom ≡ length
    c.self.inside.bytes.items =
    rw (← c.self.view_is)
    (ap (λ n. n * c.self.inside.atom) (length-blocks_of _ _ _) ∙ sym c.self.invariant.whole) in
    omega (arith, size, c.requires)

pub returns-clause-count : goal.returns-clause-count
returns-clause-count c = length-blocks_of _ _ _
    ∙ rw (← c.self.view_is) (sym (length-blocks_of _ _ _))

pub returns-clause-newest : goal.returns-clause-newest
returns-clause-newest c =
    let within = subst (λ (machine : Machine).
    c.args.offset + length c.args.body.now ≤ length machine.newest * machine.atom)
    (sym c.self.view_is) c.requires in
    rw (c.paste.ensures.items, ← c.self.view_is)
    (written_values c.self.inside.atom c.self.inside.blocks c.args.offset c.self.inside.bytes.items
    c.args.body.now
    c.self.invariant.some c.self.invariant.whole
    (subst (λ n. c.args.offset + length c.args.body.now ≤ n * c.self.inside.atom)
    (length-blocks_of _ _ _) within))
