use Rattle.std.proofs.Common.{◌≤◌, length, refl, sym, subst, ◌*◌}
use Rattle.luks_store.proofs.CopyLemmas.{long_enough}
use Rattle.luks_store.proofs.RepairLemmas.{first-fits, first-repaired, second-fits, second-repaired}
use Rattle.luks_store.specs.Commits.{FitsDisks, Repairs}
use Rattle.luks_store.specs.Devices.{header_room}
use Rattle.luks_store.specs.declared.loaded.Stored.{Stored}
use Rattle.luks_store.proofs.loaded.Loaded.repair.Goals as goal

pub new-requires : goal.new-requires
new-requires c =
    subst (λ bytes. 4096 ≤ length bytes) (sym c.as_slice-used.ensures)
    (long_enough _ _ c.self.invariant.copies.whole)

pub new-requires-then-not-is_good-2 : goal.new-requires-then-not-is_good-2
new-requires-then-not-is_good-2 c =
    subst (λ bytes. 4096 ≤ length bytes) (sym c.as_slice-used.ensures)
    (long_enough _ _ c.self.invariant.copies.whole)

pub returns-then-not-is_good-clause-is : goal.returns-then-not-is_good-clause-is
returns-then-not-is_good-clause-is c =
    let copies = c.self.inside.stored.copies in
    let made = c.in_ok-repair.ensures in
    let is = c.as_slice-used.ensures in
    subst (λ (s : Stored). Repairs s.copies c.in_ok-repair.repair) c.self.view_is
    (first-repaired c.copies_are_spelt.ensures copies c.in_ok-repair.repair c.self.invariant.copies
    (λ good. (let e = c.if-not-is_good.ensures.1 good in cc)) made.begun made.place
    (rw is at made.size) (rw is at made.shared) (rw is at made.hidden) (rw is at made.valid)
    (rw is at made.primary))

pub returns-then-not-is_good-2-clause-is : goal.returns-then-not-is_good-2-clause-is
returns-then-not-is_good-2-clause-is c =
    let copies = c.self.inside.stored.copies in
    let made = c.in_ok-repair-2.ensures in
    let is = c.as_slice-used.ensures in
    subst (λ (s : Stored). Repairs s.copies c.in_ok-repair-2.repair) c.self.view_is
    (second-repaired c.copies_are_spelt.ensures copies c.in_ok-repair-2.repair
    c.self.invariant.copies
    (c.if-not-is_good.ensures.0 refl) (λ good. (let e = c.if-not-is_good-2.ensures.1 good in cc))
    made.begun made.place
    (rw is at made.size) (rw is at made.shared) (rw is at made.hidden) (rw is at made.valid)
    (rw is at made.secondary))

pub returns-then-not-is_good-clause-fits : goal.returns-then-not-is_good-clause-fits
returns-then-not-is_good-clause-fits c =
    let made = c.in_ok-repair.ensures in
    let stored = c.self.inside.stored in
    subst (λ (s : Stored). FitsDisks s.valid.sizes c.in_ok-repair.repair) c.self.view_is
    (first-fits stored.valid.sizes stored.copies c.in_ok-repair.repair c.self.invariant.copies
    (subst (λ (s : Stored). 2 * s.copies.used.header.hdr_size
    ≤ header_room s.valid.sizes)
    (sym c.self.view_is) c.is_stored.ensures.room) made.place
    (rw c.as_slice-used.ensures at made.size))

pub returns-then-not-is_good-2-clause-fits : goal.returns-then-not-is_good-2-clause-fits
returns-then-not-is_good-2-clause-fits c =
    let made = c.in_ok-repair-2.ensures in
    let stored = c.self.inside.stored in
    subst (λ (s : Stored). FitsDisks s.valid.sizes c.in_ok-repair-2.repair) c.self.view_is
    (second-fits stored.valid.sizes stored.copies c.in_ok-repair-2.repair c.self.invariant.copies
    (subst (λ (s : Stored). 2 * s.copies.used.header.hdr_size
    ≤ header_room s.valid.sizes)
    (sym c.self.view_is) c.is_stored.ensures.room) made.place
    (rw c.as_slice-used.ensures at made.size))
