use Rattle.std.proofs.Common.{◌∙◌, ◌+◌, ◌≤◌, ◌==◌, length, take, ap}
use Rattle.std.proofs.Common.{sym, subst, arith, mul-le-mul_right}
use Rattle.sector_disk.proofs.DiskViews.Blockwise.{blocks_end}
use Rattle.volume_machine.proofs.KeyLemmas.{fewer-blocks}
use Rattle.hotzone.proofs.SliceLemmas.{AreCiphers, begun-if, part-blocks, sealed-if, slice-sealed}
use Rattle.std.proofs.lemmas.List.{take_all}
use Rattle.std.specs.Prelude.{MatchBool}
use Rattle.cipher_laws.specs.Bytes.{AreBytes}
use Rattle.hotzone.specs.Laid.{HasBegun, HasSealed}
use Rattle.hotzone.specs.Sites.{bytes_at, count_of, part_at}
use Rattle.hotzone.specs.Steps.{part_in}
use Rattle.volume_machine.specs.Seals.{seals_of}
use Rattle.hotzone.proofs.worker.Worker.seal_slice.Given.{Over}
use Rattle.hotzone.proofs.worker.Worker.seal_slice.Goals as goal
use Rattle.hotzone.proofs.worker.Worker.seal_slice.Goals.{After-reseal_slice-told}

ciphers : (g : Over) (c : After-reseal_slice-told g)
    → AreCiphers g.C.SectorCipher.sector g.C.SectorCipher.sealed g.C.SectorCipher.opened
    c.args.self.now.keys c.args.self.now.site.atom
ciphers g c = record {
  known = c.requires.known;
  old_whole = c.requires.keys.old_sector;
  new_whole = c.requires.keys.new_sector;
  laws = c.tell_laws.ensures;
}

pub reseal_slice-told-requires-clause-fits : goal.reseal_slice-told-requires-clause-fits
reseal_slice-told-requires-clause-fits g c κs within =
    let w = c.args.self.now in
    let all = c.part-all.ensures in
    let few = c.requires.begun.within in
    fewer-blocks g.C.SectorCipher.sector w.keys w.site.atom (w.site.blocks.start + count_of w.site) _
    (omega (arith, all, few)) c.requires.keys

pub reseal_slice-told-requires-clause-room : goal.reseal_slice-told-requires-clause-room
reseal_slice-told-requires-clause-room g c κs within =
    let w = c.args.self.now in
    let old = c.args.scratch.now in
    let was = c.requires.begun in
    let few : old.ready + c.min-count.result ≤ part_at w.site 0 =
    omega (arith, c.part-all.ensures, was.within, c.min-count.ensures) in
    let ends = blocks_end w.site.atom old.ready c.min-count.result in
    let less = mul-le-mul_right w.site.atom few in
    omega (arith, ends, less, was.room)

-- the buffer has bytes
in-bytes : (g : Over) (c : After-reseal_slice-told g) → AreBytes c.args.self.now.buffer
in-bytes g c =
    let buffer = c.args.self.now.buffer in
    subst AreBytes (c.front.ensures
    ∙ (ap (λ n. take n buffer) c.len.ensures ∙ take_all (length buffer) buffer (omega arith)))
    c.bytes_are_below_256.ensures

-- a slice more of the part is sealed
begun : (g : Over) (c : After-reseal_slice-told g)
    → HasBegun (seals_of g.C.SectorCipher.sealed g.C.SectorCipher.opened c.args.self.now.site.atom
    c.args.self.now.keys) c.args.self.now.site (part_in c.args.self.now 0)
    (c.args.scratch.now.ready + c.min-count.result) c.reseal_slice-told.new.buffer
begun g c =
    let w = c.args.self.now in
    let old = c.args.scratch.now in
    let was = c.requires.begun in
    let few : old.ready + c.min-count.result ≤ part_at w.site 0 =
    omega (arith, c.part-all.ensures, was.within, c.min-count.ensures) in
    record {
      room = subst (λ n. bytes_at w.site 0 ≤ n) (sym c.reseal_slice-told.ensures.length) was.room;
      within = few;
      is = slice-sealed g.C.SectorCipher.sector g.C.SectorCipher.sealed g.C.SectorCipher.opened w.keys
          w.site.atom (ciphers g c) (w.site.blocks.start + 0) (w.site.blocks.start + old.ready)
          old.ready c.min-count.result (part_at w.site 0) (part_in w 0) old.sealed
          c.reseal_slice-told.new.buffer
          (part-blocks w c.requires.part (in-bytes g c))
          (omega arith) few was.is c.reseal_slice-told.ensures.sealed;
    }

pub returns-clause-begun : goal.returns-clause-begun
returns-clause-begun g c =
    let behind = (goal.at.returns-clause-begun g c).After-reseal_slice-told in
    begun-if _ c.args.self.now _ _ _ (begun g behind)

pub returns-clause-sealed : goal.returns-clause-sealed
returns-clause-sealed g c =
    let behind = (goal.at.returns-clause-sealed g c).After-reseal_slice-told in
    let w = c.args.self.now in
    let ready = c.args.scratch.now.ready + c.min-count.result in
    subst (λ n. MatchBool (ready == n) (HasSealed (seals_of g.C.SectorCipher.sealed
    g.C.SectorCipher.opened w.site.atom w.keys) w.site (part_in w 0)
    c.reseal_slice-told.new.buffer) (Unit {0})) (sym c.part-all.ensures)
    (sealed-if g.C.SectorCipher.sector g.C.SectorCipher.sealed g.C.SectorCipher.opened
    w ready c.reseal_slice-told.new.buffer (ciphers g behind) c.requires.part (begun g behind))
