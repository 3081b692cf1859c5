use Rattle.std.proofs.Common.{◌≡◌, ◌∙◌, not, refl, sym}
use Rattle.bays.specs.Memory.{has_disk}
use Rattle.bays.specs.Names.{StandsAt}
use Rattle.bays.proofs.NameLemmas.{named_other, not_swapped}
use Rattle.bays.proofs.mem_bay.MemBayBay.disk.Goals as goal

pub returns-then-is_failing-clause-exact : goal.returns-then-is_failing-clause-exact
returns-then-is_failing-clause-exact c =
    let absent : c.is_none.result ≡ not
    (has_disk c.args.name.now c.args.atom c.self.inside.disks.items) =
    rw (← c.as_slice.ensures.value)
    (not_swapped _ _ (sym c.find_disk-place.ensures.variant ∙ c.is_none.ensures)) in
    rw (← c.self.view_is)
    (λ _. rw absent at (c.is_failing.ensures.exact.0 c.if-is_failing.true), λ _. refl)

pub returns-clause-leaves : goal.returns-clause-leaves
returns-clause-leaves c =
    let stands : StandsAt c.args.name.now c.self.inside.disks.items c.in-Some.i =
    rw (← c.as_slice.ensures.value) (rw c.in-Some.is at c.find_disk-place.ensures.stands) in
    rw (← c.self.view_is) (record {
      disks = λ other differ.
          rw (c.remove-disk.ensures.items, ← stands.others)
          (named_other c.args.name.now other c.self.inside.disks.items differ);
      keys = refl;
      clients = refl;
    })
