use Rattle.std.proofs.Common.{◌≡◌, ◌∙◌, ◌+◌, length, take, ap, sym, subst}
use Rattle.base_terms.specs.Blocks.{rewritten}
use Rattle.hotzone.proofs.PartLemmas.{all-rewritten, part-front, part-keys-by}
use Rattle.hotzone.specs.Steps.{resealed}
use Rattle.volume_machine.specs.Seals.{KeysFit, seals_of}
use Rattle.hotzone.proofs.worker.Worker.seal_anew.Given.{Over}
use Rattle.hotzone.proofs.worker.Worker.seal_anew.Goals as goal
use Rattle.hotzone.proofs.worker.Worker.seal_anew.Goals.{After-reseal}

pub reseal-requires-clause-fits : goal.reseal-requires-clause-fits
reseal-requires-clause-fits g c κs within =
    subst (λ n. KeysFit g.C.SectorCipher.sector c.args.self.now.keys c.args.self.now.site.atom
    (c.args.self.now.site.blocks.start + c.args.done + n)) (sym c.part.ensures)
    (part-keys-by g.C.SectorCipher.sector c.args.self.now c.args.done c.requires.keys
    c.requires.within)

pub reseal-requires-clause-front : goal.reseal-requires-clause-front
reseal-requires-clause-front g c κs within =
    rw (c.requires.size, c.as_mut_slice.ensures.value)
    (part-front c.args.self.now.site c.args.done _ c.requires.room)

-- the buffer behind it, as long as it was
written : (g : Over) (c : After-reseal g)
    → rewritten c.args.self.now.buffer c.reseal.new.bytes ≡ c.reseal.new.bytes
written g c =
    all-rewritten c.args.self.now.buffer c.reseal.new.bytes
    (c.reseal.ensures.length ∙ ap length c.as_mut_slice.ensures.value)

pub returns-clause-sealed : goal.returns-clause-sealed
returns-clause-sealed g c =
    let behind = (goal.at.returns-clause-sealed g c).After-reseal in
    ap (take c.args.len) (written g behind) ∙ c.reseal.ensures.front
    ∙ (λ i. resealed (seals_of g.C.SectorCipher.sealed g.C.SectorCipher.opened
    c.args.self.now.site.atom c.args.self.now.keys) (c.args.self.now.site.blocks.start + c.args.done)
    (take (c.requires.size i) (c.as_mut_slice.ensures.value i)))

pub returns-clause-long : goal.returns-clause-long
returns-clause-long g c =
    let behind = (goal.at.returns-clause-long g c).After-reseal in
    ap length (written g behind) ∙ c.reseal.ensures.length ∙ ap length c.as_mut_slice.ensures.value
