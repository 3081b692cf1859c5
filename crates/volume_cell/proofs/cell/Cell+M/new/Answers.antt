use Rattle.std.proofs.Common.{List, [], ◌∷◌, ◌++◌, None, sym, ap, ◌∙◌, subst}
use Rattle.atomic_table.specs.Table.{opening}
use Rattle.volume_cell.specs.declared.held.Held.{Held}
use Rattle.volume_cell.specs.Knowing.{beginning}
use Rattle.volume_cell.specs.History.{Rule}
use Rattle.volume_cell.proofs.Turns.{opens}
use Rattle.volume_cell.proofs.cell.Cell+M.new.Goals as goal

pub new-requires : goal.new-requires
new-requires g c = let items =
    c.in_default.ensures.items
    ∙ ap (λ l. l ++ record { machine = c.args.machine; note = None } ∷ [])
    c.new-slots.ensures.items in
    subst (λ
    (z : List (Held g.row.M.Denot g.row.M-Event.Denot g.row.M-Outcome.Denot) × g.row.M.Denot). Rule
    g.M.Machine.start g.M.Machine.stands_for c.args.limit
    (opening (0 ∷ 0 ∷ []) z.0 (beginning (g.M.Machine.start z.1))))
    (λ i. (sym items i, sym c.of.ensures i))
    (opens g.M.Machine.start g.M.Machine.stands_for c.args.limit
    record { machine = c.args.machine; note = None } c.requires.machine)

pub only_machine-requires : goal.only_machine-requires
only_machine-requires g c = (
  _,
  c.in-Err-new.ensures.err
      ∙ (c.in_default.ensures.items
      ∙ ap (λ l. l ++ record { machine = c.args.machine; note = None } ∷ [])
      c.new-slots.ensures.items),
)
