use Rattle.std.proofs.Common.{◌≤◌, ◌∙◌, ◌+◌, ◌*◌, ap, arith, length, sym, subst, take}
use Rattle.hotzone.proofs.CompareLemmas.{IsCompared, compared, digests-front, few-blocks}
use Rattle.hotzone.proofs.CompareLemmas.{front-long}
use Rattle.hotzone.proofs.CompareLemmas.{laid-none, laid-part, laid-place, laid-some, laid-within}
use Rattle.hotzone.proofs.CompareLemmas.{long-count, long-whole, new-whole}
use Rattle.hotzone.proofs.LaidLemmas.{sealed-first}
use Rattle.hotzone.proofs.LawLemmas.{some-atom}
use Rattle.hotzone.proofs.PartLemmas.{part-front, part-keys-by}
use Rattle.hotzone.specs.Laid.{HasSealed}
use Rattle.hotzone.specs.Sites.{bytes_at, part_at}
use Rattle.hotzone.specs.Steps.{part_in, resealed}
use Rattle.resil_checksum.specs.Digests.{AreSaved, saved_len}
use Rattle.std.specs.Prelude.{MatchBool, ◌==◌}
use Rattle.hotzone.proofs.worker.Worker.compare.Given.{Over}
use Rattle.hotzone.proofs.worker.Worker.compare.Goals as goal
use Rattle.hotzone.proofs.worker.Worker.compare.Goals.{After-front-digests}
use Rattle.volume_machine.specs.Seals.{KeysFit, seals_of}

pub front-old-requires : goal.front-old-requires
front-old-requires g c =
    subst (λ n. n ≤ length c.args.self.now.buffer) (sym c.bytes-size.ensures)
    (part-front c.args.self.now.site c.args.done _ c.requires.part)

pub lay_digests-requires-clause-whole : goal.lay_digests-requires-clause-whole
lay_digests-requires-clause-whole g c κs within =
    long-whole c.args.self.now.site c.args.done c.front-old.result.now
    (front-long c.args.self.now c.args.done c.bytes-size.result c.front-old.result.now
    c.requires.part c.bytes-size.ensures c.front-old.ensures)

pub lay_digests-requires-clause-size : goal.lay_digests-requires-clause-size
lay_digests-requires-clause-size g c κs within =
    c.digest_bytes-len.ensures
    ∙ ap (λ n. saved_len n c.args.self.now.site.atom)
    (sym (long-count c.args.self.now.site c.args.done c.front-old.result.now
    (some-atom c.args.self.now.site.atom c.requires.known)
    (front-long c.args.self.now c.args.done c.bytes-size.result c.front-old.result.now
    c.requires.part c.bytes-size.ensures c.front-old.ensures)))

pub lay_digests-requires-clause-room : goal.lay_digests-requires-clause-room
lay_digests-requires-clause-room g c κs within =
    let less = digests-front c.args.self.now.site c.args.done c.requires.known in
    let room = c.requires.digests in
    let size = c.digest_bytes-len.ensures in
    omega (arith, less, room, size)

pub reseal_into-requires-clause-fits : goal.reseal_into-requires-clause-fits
reseal_into-requires-clause-fits g c κs within =
    subst (λ n. KeysFit g.C.SectorCipher.sector c.args.self.now.keys c.args.self.now.site.atom
    (c.args.self.now.site.blocks.start + c.args.done + n)) (sym c.part.ensures)
    (part-keys-by g.C.SectorCipher.sector c.args.self.now c.args.done c.requires.keys
    c.requires.within)

pub reseal_into-requires-clause-size : goal.reseal_into-requires-clause-size
reseal_into-requires-clause-size g c κs within =
    front-long c.args.self.now c.args.done c.bytes-size.result c.front-old.result.now
    c.requires.part c.bytes-size.ensures c.front-old.ensures
    ∙ ap (λ n. n * c.args.self.now.site.atom) (sym c.part.ensures)

pub reseal_into-requires-clause-room : goal.reseal_into-requires-clause-room
reseal_into-requires-clause-room g c κs within =
    subst (λ n. n ≤ length c.args.scratch.now.sealed)
    (sym (front-long c.args.self.now c.args.done c.bytes-size.result c.front-old.result.now
    c.requires.part c.bytes-size.ensures c.front-old.ensures))
    (part-front c.args.self.now.site c.args.done _ c.requires.room)

pub front-digests-requires : goal.front-digests-requires
front-digests-requires g c =
    let less = digests-front c.args.self.now.site c.args.done c.requires.known in
    let room = c.requires.digests in
    let size = c.digest_bytes-len.ensures in
    let long = c.lay_digests.ensures.length in
    omega (arith, less, room, size, long)

-- what is compared
here : (g : Over) (c : After-front-digests g)
    → IsCompared (seals_of g.C.SectorCipher.sealed g.C.SectorCipher.opened c.args.self.now.site.atom
    c.args.self.now.keys) c.args.self.now c.args.done c.front-old.result.now c.front-new.result.now
    c.front-digests.result.now
here g c =
    compared _ c.args.self.now c.args.done c.bytes-size.result c.digest_bytes-len.result
    c.front-old.result.now c.reseal_into.new.buffer c.front-new.result.now c.lay_digests.new.buffer
    c.front-digests.result.now c.requires.known
    (some-atom c.args.self.now.site.atom c.requires.known) c.requires.part c.bytes-size.ensures
    c.front-old.ensures
    (subst (λ n. bytes_at c.args.self.now.site 0 ≤ n) (sym c.reseal_into.ensures.length)
    c.requires.room)
    c.reseal_into.ensures.front c.front-new.ensures c.digest_bytes-len.ensures
    (subst (λ n. saved_len (part_at c.args.self.now.site 0) c.args.self.now.site.atom ≤ n)
    (sym c.lay_digests.ensures.length) c.requires.digests)
    c.lay_digests.ensures.saved c.front-digests.ensures

pub clash_by-requires-clause-whole : goal.clash_by-requires-clause-whole
clash_by-requires-clause-whole g c κs within =
    let behind = (goal.at.clash_by-requires-clause-whole g c).After-front-digests in
    new-whole _ c.args.self.now c.args.done _ _ _ c.requires.guard
    (some-atom c.args.self.now.site.atom c.requires.known) (here g behind)

pub clash_by-requires-clause-enough : goal.clash_by-requires-clause-enough
clash_by-requires-clause-enough g c κs within =
    (here g (goal.at.clash_by-requires-clause-enough g c).After-front-digests).enough

pub digest_at-requires : goal.digest_at-requires
digest_at-requires g c =
    laid-within _ c.args.self.now c.args.done _ _ _ c.requires.guard
    (some-atom c.args.self.now.site.atom c.requires.known)
    (here g (goal.at.digest_at-requires g c).After-front-digests) c.in-Some.k c.in-Some.ensures

pub overflow_add-result-in-Some : goal.overflow_add-result-in-Some
overflow_add-result-in-Some g c =
    let place = laid-place _ c.args.self.now c.args.done _ _ _ c.requires.guard
    (some-atom c.args.self.now.site.atom c.requires.known)
    (here g (goal.at.overflow_add-result-in-Some g c).After-front-digests) c.in-Some.k
    c.in-Some.ensures in
    let few = few-blocks c.args.self.now.site.atom _ _ c.requires.known
    c.requires.keys.old_numbers in
    record { fits = omega (arith, place, few) }

pub returns-in-Some-clause-finds : goal.returns-in-Some-clause-finds
returns-in-Some-clause-finds g c =
    laid-some _ c.args.self.now c.args.done _ _ _ c.requires.guard
    (some-atom c.args.self.now.site.atom c.requires.known)
    (here g (goal.at.returns-in-Some-clause-finds g c).After-front-digests) c.in-Some.k
    c.in-Some.ensures _ c.digest_at.ensures

pub returns-in-None-clause-finds : goal.returns-in-None-clause-finds
returns-in-None-clause-finds g c =
    laid-none _ c.args.self.now c.args.done _ _ _ c.requires.guard
    (some-atom c.args.self.now.site.atom c.requires.known)
    (here g (goal.at.returns-in-None-clause-finds g c).After-front-digests) c.in-None.ensures

-- it is laid and sealed whatever was found
laid : (g : Over) (c : After-front-digests g)
    → AreSaved c.args.self.now.site.atom (part_at c.args.self.now.site c.args.done)
    (part_in c.args.self.now c.args.done)
    (take (saved_len (part_at c.args.self.now.site c.args.done) c.args.self.now.site.atom)
    c.lay_digests.new.buffer)
laid g c =
    laid-part _ c.args.self.now c.args.done _ _ _ c.requires.guard
    (some-atom c.args.self.now.site.atom c.requires.known) (here g c) c.lay_digests.new.buffer
    c.digest_bytes-len.result c.digest_bytes-len.ensures c.front-digests.ensures

sealed : (g : Over) (c : After-front-digests g)
    → MatchBool (c.args.done == 0) (HasSealed (seals_of g.C.SectorCipher.sealed
    g.C.SectorCipher.opened c.args.self.now.site.atom c.args.self.now.keys) c.args.self.now.site
    (part_in c.args.self.now 0) c.reseal_into.new.buffer) (Unit {0})
sealed g c =
    let is = here g c in
    sealed-first (seals_of g.C.SectorCipher.sealed g.C.SectorCipher.opened c.args.self.now.site.atom
    c.args.self.now.keys) c.args.self.now c.args.done c.reseal_into.new.buffer
    (subst (λ n. bytes_at c.args.self.now.site 0 ≤ n) (sym c.reseal_into.ensures.length)
    c.requires.room)
    (ap (λ n. take n c.reseal_into.new.buffer) (sym is.long) ∙ c.reseal_into.ensures.front
    ∙ ap (resealed (seals_of g.C.SectorCipher.sealed g.C.SectorCipher.opened
    c.args.self.now.site.atom c.args.self.now.keys) (c.args.self.now.site.blocks.start + c.args.done))
    is.part)

pub returns-in-Some-clause-laid : goal.returns-in-Some-clause-laid
returns-in-Some-clause-laid g c =
    laid g (goal.at.returns-in-Some-clause-laid g c).After-front-digests

pub returns-in-None-clause-laid : goal.returns-in-None-clause-laid
returns-in-None-clause-laid g c =
    laid g (goal.at.returns-in-None-clause-laid g c).After-front-digests

pub returns-in-Some-clause-sealed : goal.returns-in-Some-clause-sealed
returns-in-Some-clause-sealed g c =
    sealed g (goal.at.returns-in-Some-clause-sealed g c).After-front-digests

pub returns-in-None-clause-sealed : goal.returns-in-None-clause-sealed
returns-in-None-clause-sealed g c =
    sealed g (goal.at.returns-in-None-clause-sealed g c).After-front-digests
