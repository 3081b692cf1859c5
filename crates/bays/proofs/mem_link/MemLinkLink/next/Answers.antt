use Rattle.std.proofs.Common.{◌≡◌, ◌+◌, ◌∷◌, ◌∙◌, ap, refl, sym}
use Rattle.bays.specs.Memory.{Line}
use Rattle.bays.proofs.TellLemmas.{tells_first}
use Rattle.bays.proofs.mem_link.MemLinkLink.next.Goals as goal

pub returns-clause-told : goal.returns-clause-told
returns-clause-told c =
    let first : c.args.self.now.ahead ≡ c.in-Some.connection ∷ c.pop_front.new.self.items =
    ap (λ l. l.ahead) (sym c.self.view_is) ∙ rw c.in-Some.is at c.pop_front.ensures.items in
    let left : Line = record {
      ahead = c.pop_front.new.self.items;
      lent = c.self.inside.lent + 1;
      handed = c.self.inside.handed.items;
      room = c.self.inside.room;
      plan = c.is_failing.new.self;
    } in
    tells_first _ c.pop_front.new.self.items c.args.self.now left first refl
    (ap (λ l. l.handed) c.self.view_is)
