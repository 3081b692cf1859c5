use Rattle.std.proofs.Common.{◌≡◌, ◌∙◌, ◌+◌, ◌≤◌, length, take, ap, sym, subst, arith}
use Rattle.std.proofs.lemmas.List.{length-take-le}
use Rattle.hotzone.proofs.SliceLemmas.{AreCiphers, none-sealed}
use Rattle.hotzone.specs.Sites.{bytes_at}
use Rattle.hotzone.specs.Steps.{part_in}
use Rattle.hotzone.proofs.worker.Worker.lay.Given.{Over}
use Rattle.hotzone.proofs.worker.Worker.lay.Goals as goal
use Rattle.hotzone.proofs.worker.Worker.lay.Goals.{After-front, After-lay_at_front}

pub front-requires : goal.front-requires
front-requires g c =
    subst (λ n. n ≤ length c.args.self.now.buffer) (sym c.requires.size) c.requires.part

-- what is laid has so many bytes
front-long : (g : Over) (c : After-front g) → length c.front.result.now ≡ c.args.len
front-long g c =
    ap length c.front.ensures
    ∙ length-take-le c.args.len c.args.self.now.buffer
    (subst (λ n. n ≤ length c.args.self.now.buffer) (sym c.requires.size) c.requires.part)

pub lay_at_front-requires : goal.lay_at_front-requires
lay_at_front-requires g c =
    let long = front-long g (goal.at.lay_at_front-requires g c).After-front in
    omega (arith, long, c.requires.room)

pub returns-clause-begun : goal.returns-clause-begun
returns-clause-begun g c =
    let at = goal.at.returns-clause-begun g c in
    let w = c.args.self.now in
    let old = c.args.scratch.now in
    let keys = w.keys in
    let new = c.lay_at_front.new.buffer in
    let long = front-long g at.After-front ∙ c.requires.size in
    let ciphers : AreCiphers g.C.SectorCipher.sector g.C.SectorCipher.sealed g.C.SectorCipher.opened
    keys w.site.atom = record {
      known = c.requires.known;
      old_whole = c.requires.keys.old_sector;
      new_whole = c.requires.keys.new_sector;
      laws = c.tell_laws.ensures;
    } in
    record {
      room = subst (λ n. bytes_at w.site 0 ≤ n) (sym c.lay_at_front.ensures.length)
          (subst (λ n. n ≤ length old.sealed) c.requires.size c.requires.room);
      within = omega arith;
      is = ap (λ n. take n new) (sym long)
          ∙ (c.lay_at_front.ensures.front
          ∙ (c.front.ensures
          ∙ (ap (λ n. take n w.buffer) c.requires.size
          ∙ none-sealed g.C.SectorCipher.sector g.C.SectorCipher.sealed g.C.SectorCipher.opened keys
          w.site.atom ciphers (w.site.blocks.start + 0) (part_in w 0))));
    }
