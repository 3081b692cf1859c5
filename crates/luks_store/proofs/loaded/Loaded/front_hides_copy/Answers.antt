use Rattle.std.proofs.Common.{◌*◌, ◌≤◌, take, is_some, sym, ◌∙◌, ap, subst, arith}
use Rattle.base_terms.specs.declared.disk_sizes.Sizes.{Sizes}
use Rattle.luks_bin.specs.Hidden.{hides_copy}
use Rattle.luks_store.proofs.PageLemmas.{size-pages}
use Rattle.luks_store.proofs.RoomLemmas.{room-there}
use Rattle.luks_store.specs.Devices.{header_room}
use Rattle.luks_store.specs.declared.loaded.Stored.{Stored}
use Rattle.luks_store.proofs.loaded.Loaded.front_hides_copy.Goals as goal

pub read_bytes-requires-clause-len : goal.read_bytes-requires-clause-len
read_bytes-requires-clause-len g c = size-pages _ c.self.invariant.copies.whole.one_of_nine

pub read_bytes-requires-clause-within : goal.read_bytes-requires-clause-within
read_bytes-requires-clause-within g c =
    let disk = c.args.disk.now in
    let n = c.args.self.now.copies.used.header.hdr_size in
    let same = ap (λ (s : Stored). s.copies.used.header.hdr_size) c.self.view_is in
    let room =
    subst (λ (z : Sizes). 2 * n ≤ header_room z) (sym c.requires) c.is_stored.ensures.room in
    let there = room-there disk.atom disk.base disk.used (is_some disk.head) in
    omega (arith, same, room, there)

pub returns-in-Ok-clause-hides : goal.returns-in-Ok-clause-hides
returns-in-Ok-clause-hides g c = λ all told.
    c.hides_copy.ensures
    ∙ ap hides_copy
    (c.as_slice.ensures ∙ c.in-Ok.ensures.bytes all told
    ∙ ap (λ (s : Stored). take s.copies.used.header.hdr_size all) c.self.view_is)
