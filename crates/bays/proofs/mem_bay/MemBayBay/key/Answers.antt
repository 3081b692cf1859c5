use Rattle.std.proofs.Common.{◌≡◌, ◌∙◌, Some, ap, not, refl, sym, is_some, take}
use Rattle.std.proofs.lemmas.List.{take_min}
use Rattle.bays.specs.Names.{StandsAt, named}
use Rattle.bays.proofs.NameLemmas.{not_swapped}
use Rattle.bays.proofs.mem_bay.MemBayBay.key.Goals as goal

pub returns-then-is_failing-clause-exact : goal.returns-then-is_failing-clause-exact
returns-then-is_failing-clause-exact c =
    let absent : c.is_none.result ≡ not (is_some (named c.args.name.now c.self.inside.keys.items)) =
    rw (← c.as_slice.ensures.value)
    (not_swapped _ _ (sym c.find_name-place.ensures.variant ∙ c.is_none.ensures)) in
    rw (← c.self.view_is)
    (λ _. rw absent at (c.is_failing.ensures.exact.0 c.if-is_failing.true), λ _. refl)

whole_is : goal.returns-clause-bytes
whole_is c =
    let stands : StandsAt c.args.name.now c.self.inside.keys.items c.in-Some.i =
    rw (← c.as_slice.ensures.value) (rw c.in-Some.is at c.find_name-place.ensures.stands) in
    let whole : named c.args.name.now c.self.inside.keys.items ≡ Some c.as_slice-whole.result.now =
    stands.first c.index.result.now
    ∙ ap Some (ap (λ entry. entry.1) (sym c.index.ensures) ∙ sym c.as_slice-whole.ensures) in
    rw (← c.self.view_is, whole)
    (c.new.ensures ∙ c.in-Ok.ensures.items
    ∙ ap (λ n. take n c.as_slice-whole.result.now) c.min.ensures
    ∙ take_min 513 c.as_slice-whole.result.now)

pub returns-clause-bytes : goal.returns-clause-bytes
returns-clause-bytes c = whole_is c

pub returns-clause-told : goal.returns-clause-told
returns-clause-told c = λ whole is. rw is at (whole_is c)

pub returns-clause-leaves : goal.returns-clause-leaves
returns-clause-leaves c =
    rw (← c.self.view_is) (record { disks = refl; keys = refl; clients = refl })
