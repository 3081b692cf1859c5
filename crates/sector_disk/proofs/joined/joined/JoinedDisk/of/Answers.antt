use Rattle.std.proofs.Common.{◌≡◌, sym, ap, subst, arith}
use Rattle.sector_disk.specs.JoinedDisks.Joined.{in_front}
use Rattle.sector_disk.proofs.JoinedDisks.JointWrites.{positive}
use Rattle.sector_disk.proofs.JoinedDisks.TurnLemmas.{follows_start, fits_below}
use Rattle.sector_disk.proofs.joined.joined.JoinedDisk.of.Goals as goal
use Rattle.sector_disk.proofs.joined.joined.JoinedDisk.of.Goals.{then-atoms-rest, else-atoms-rest}

pub invariant_of-result : goal.invariant_of-result
invariant_of-result g c =
    let device = g.D.Disk.device in
    let size = c.atom-atom.ensures.is in
    record {
      size = sym size;
      same_size =
          subst (λ atom. (in_front device atom c.args.head).size ≡ atom) (sym size) c.requires.size;
      front = subst (λ atom. (in_front device atom c.args.head).atoms ≡ c.args.base) (sym size)
          c.requires.base;
      within = elim c.if-atoms-rest.branch [
        | then-atoms-rest w ↦ omega (arith, w.used-is, c.atoms-atoms.ensures.is)
        | else-atoms-rest w ↦
            omega (arith, w.used-is, w.if-atoms-rest.false, c.atoms-atoms.ensures.is)
      ];
      fits = fits_below c.atom-atom.result c.args.base c.if-atoms-rest.used
          (positive c.atom-atom.result c.atom-atom.ensures.known)
          (rw size c.requires.fits)
          (elim c.if-atoms-rest.branch [
            | then-atoms-rest w ↦ omega (arith, w.used-is, w.if-atoms-rest.true)
            | else-atoms-rest w ↦ omega (arith, w.used-is)
          ]);
      head_follows = λ _.
          follows_start _ _
          (ap (λ head. (in_front device c.atom-atom.result head).told) c.of-head_was.ensures);
      main_follows = λ _. follows_start _ _ (ap (λ main. (device main).told) c.of-main_was.ensures);
    }
