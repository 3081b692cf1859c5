use Rattle.std.proofs.Common.{rules}
use Rattle.luks_slots.proofs.AreaLemmas.{stripes-put, stripes-size}
use Rattle.luks_slots.proofs.new_slot.put_stripes.Goals as goal

pub returns-clause-stripes : goal.returns-clause-stripes
returns-clause-stripes c =
    stripes-put _ c.args.key.now c.args.drawn.now c.args.area.now c.copy_from_slice.new.self
    c.split.new.out c.requires.drawn c.copy_from_slice.ensures.after c.split.ensures.split

pub returns-clause-size : goal.returns-clause-size
returns-clause-size c =
    stripes-size _ _ c.args.area.now _
    (stripes-put _ c.args.key.now c.args.drawn.now c.args.area.now c.copy_from_slice.new.self
    c.split.new.out c.requires.drawn c.copy_from_slice.ensures.after c.split.ensures.split)
    (search rules) c.requires.room
