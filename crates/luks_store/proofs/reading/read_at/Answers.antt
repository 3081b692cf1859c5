use Rattle.std.proofs.Common.{◌≡◌, ◌+◌, ◌-◌, ◌*◌, ◌≤◌, length, sym, ◌∙◌, subst, arith}
use Rattle.base_terms.specs.declared.disk_sizes.Sizes.{Sizes}
use Rattle.luks_bin.proofs.ReadLemmas.{sized}
use Rattle.luks_store.proofs.CopyLemmas.{no-size, read-copy, too-short}
use Rattle.luks_store.proofs.DiskLemmas.{unwritten-joined}
use Rattle.luks_store.proofs.PageLemmas.{front-within, size-pages}
use Rattle.luks_store.proofs.reading.read_at.Goals as goal

pub returns-then-there-lt4096-clause-found : goal.returns-then-there-lt4096-clause-found
returns-then-there-lt4096-clause-found g c = λ all told.
    let s = c.sizes-sizes in
    let there =
    subst (λ (z : Sizes). c.saturating_sub-there.result ≡ z.header_atoms * z.atom - c.args.place)
    s.ensures.is c.saturating_sub-there.ensures in
    let within = subst (λ (z : Sizes). z.header_atoms * z.atom ≤ length all) s.ensures.is
    (front-within s.result.atom _ s.result.header_atoms all s.ensures.header
    (s.ensures.whole all told)) in
    too-short _ c.args.place _ all within there c.if-there-lt4096.true

pub returns-in-Err-read_size-clause-found : goal.returns-in-Err-read_size-clause-found
returns-in-Err-read_size-clause-found g c = λ all told.
    let s = c.sizes-sizes in
    let there =
    subst (λ (z : Sizes). c.saturating_sub-there.result ≡ z.header_atoms * z.atom - c.args.place)
    s.ensures.is c.saturating_sub-there.ensures in
    let within = subst (λ (z : Sizes). z.header_atoms * z.atom ≤ length all) s.ensures.is
    (front-within s.result.atom _ s.result.header_atoms all s.ensures.header
    (s.ensures.whole all told)) in
    let enough = c.if-there-lt4096.false in
    no-size c.sizes_are_told_by_heads.ensures _ c.args.place _ all c.as_slice.result.now _ within
    there (omega (arith, enough))
    (c.as_slice.ensures ∙ c.in-Ok.ensures.bytes all told)
    (sym c.in-Err-read_size.is ∙ c.read_size.ensures)

pub read_bytes-requires-2-clause-len : goal.read_bytes-requires-2-clause-len
read_bytes-requires-2-clause-len g c =
    size-pages c.in-Ok-read_size.size
    (sized _ _ _ _ (sym c.read_size.ensures ∙ c.in-Ok-read_size.is)).one_of_nine

pub read_bytes-requires-2-clause-within : goal.read_bytes-requires-2-clause-within
read_bytes-requires-2-clause-within g c =
    let s = c.sizes-sizes in
    let there =
    subst (λ (z : Sizes). c.saturating_sub-there.result ≡ z.header_atoms * z.atom - c.args.place)
    s.ensures.is c.saturating_sub-there.ensures in
    let room = sized _ _ _ _ (sym c.read_size.ensures ∙ c.in-Ok-read_size.is) in
    let enough = room.enough in
    let fits = room.room in
    subst (λ (z : Sizes). c.args.place + c.in-Ok-read_size.size ≤ z.header_atoms * z.atom)
    (sym c.read_bytes.ensures.sizes) (omega (arith, there, enough, fits))

pub returns-in-Ok-read_bytes-clause-found : goal.returns-in-Ok-read_bytes-clause-found
returns-in-Ok-read_bytes-clause-found g c = λ all told.
    let s = c.sizes-sizes in
    let there =
    subst (λ (z : Sizes). c.saturating_sub-there.result ≡ z.header_atoms * z.atom - c.args.place)
    s.ensures.is c.saturating_sub-there.ensures in
    let within = subst (λ (z : Sizes). z.header_atoms * z.atom ≤ length all) s.ensures.is
    (front-within s.result.atom _ s.result.header_atoms all s.ensures.header
    (s.ensures.whole all told)) in
    let enough = c.if-there-lt4096.false in
    c.copy_in.ensures.found
    ∙ read-copy c.copies_are_spelt.ensures c.sizes_are_told_by_heads.ensures
    c.copies_are_their_fronts.ensures _ c.args.place _
    c.in-Ok-read_size.size all c.as_slice.result.now c.in-Ok-read_bytes.bytes within there
    (omega (arith, enough))
    (c.as_slice.ensures ∙ c.in-Ok.ensures.bytes all told)
    (sym c.in-Ok-read_size.is ∙ c.read_size.ensures)
    (c.in-Ok-read_bytes.ensures.bytes all (c.read_bytes.ensures.unwritten.values ∙ told))

pub returns-in-Ok-read_bytes-clause-unwritten : goal.returns-in-Ok-read_bytes-clause-unwritten
returns-in-Ok-read_bytes-clause-unwritten g c =
    unwritten-joined _ _ _ c.read_bytes.ensures.unwritten c.read_bytes-2.ensures.unwritten

pub returns-clause-unwritten : goal.returns-clause-unwritten
returns-clause-unwritten g c =
    unwritten-joined _ _ _ c.read_bytes.ensures.unwritten c.read_bytes-2.ensures.unwritten
