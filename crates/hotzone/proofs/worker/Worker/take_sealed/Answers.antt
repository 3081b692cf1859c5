use Rattle.std.proofs.Common.{◌≡◌, ◌∙◌, length, take, ap, sym}
use Rattle.std.proofs.lemmas.List.{length-take-le}
use Rattle.base_terms.specs.Blocks.{rewritten}
use Rattle.hotzone.proofs.LaidLemmas.{sealed-is, sealed-long}
use Rattle.hotzone.proofs.PartLemmas.{all-rewritten, part-front}
use Rattle.hotzone.proofs.worker.Worker.take_sealed.Given.{Over}
use Rattle.hotzone.proofs.worker.Worker.take_sealed.Goals as goal
use Rattle.hotzone.proofs.worker.Worker.take_sealed.Goals.{After-front, After-lay_first}

pub front-requires : goal.front-requires
front-requires g c =
    sealed-long _ c.args.self.now c.args.scratch.now c.requires.first c.requires.sealed c.args.done
    c.args.len c.requires.size

-- what is laid has so many bytes
front-long : (g : Over) (c : After-front g) → length c.front.result.now ≡ c.args.len
front-long g c =
    ap length c.front.ensures
    ∙ length-take-le c.args.len c.args.scratch.now.sealed
    (sealed-long _ c.args.self.now c.args.scratch.now c.requires.first c.requires.sealed c.args.done
    c.args.len c.requires.size)

pub lay_first-requires : goal.lay_first-requires
lay_first-requires g c =
    let long = front-long g (goal.at.lay_first-requires g c).After-front in
    rw (long, c.requires.size, c.as_mut_slice.ensures.value)
    (part-front c.args.self.now.site c.args.done _ c.requires.room)

-- the buffer behind it, as long as it was
written : (g : Over) (c : After-lay_first g)
    → rewritten c.args.self.now.buffer c.lay_first.new.bytes ≡ c.lay_first.new.bytes
written g c =
    all-rewritten c.args.self.now.buffer c.lay_first.new.bytes
    (c.lay_first.ensures.length ∙ ap length c.as_mut_slice.ensures.value)

pub returns-clause-sealed : goal.returns-clause-sealed
returns-clause-sealed g c =
    let at = goal.at.returns-clause-sealed g c in
    ap (take c.args.len) (written g at.After-lay_first)
    ∙ ap (λ n. take n c.lay_first.new.bytes) (sym (front-long g at.After-front))
    ∙ c.lay_first.ensures.front ∙ c.front.ensures
    ∙ sealed-is _ c.args.self.now c.args.scratch.now c.requires.first c.requires.sealed c.args.done
    c.args.len c.requires.size c.requires.none

pub returns-clause-long : goal.returns-clause-long
returns-clause-long g c =
    let behind = (goal.at.returns-clause-long g c).After-lay_first in
    ap length (written g behind) ∙ c.lay_first.ensures.length
    ∙ ap length c.as_mut_slice.ensures.value
