use Rattle.std.proofs.Common.{◌≡◌, ◌<◌, if◌then◌else◌, length, ◌∙◌, ap, refl, inl, inr, subst}
use Rattle.std.proofs.Common.{arith}
use Rattle.sector_disk.specs.Devices.{WriteCall}
use Rattle.sector_disk.specs.JoinedDisks.Joined.{in_front, joint_of}
use Rattle.sector_disk.specs.JoinedDisks.JoinedCalls.{BothWritten}
use Rattle.sector_disk.specs.JoinedDisks.JoinedLaws.{shows, shows_front}
use Rattle.sector_disk.proofs.JoinedDisks.JointLemmas.{as_joined}
use Rattle.sector_disk.proofs.JoinedDisks.MainCalls.{LeavesHead, write_by_main, within_main}
use Rattle.sector_disk.proofs.JoinedDisks.JointKeeps.{joins_of, both_keep, write_went}
use Rattle.sector_disk.proofs.JoinedDisks.JointParts.{write_parts}
use Rattle.sector_disk.proofs.JoinedDisks.JointWrites.{write_joined, positive}
use Rattle.sector_disk.proofs.joined.joined.JoinedDiskDisk.write.Goals as goal

pub invariant_of-self : goal.invariant_of-self
invariant_of-self g c =
    let self = c.args.self.now in
    record {
      size = c.write.ensures.call.size ∙ self.size;
      same_size = self.same_size;
      front = self.front;
      within = rw c.write.ensures.call.atoms self.within;
      fits = self.fits;
      head_follows = λ some. absurd (omega (arith, some, c.if-self-eq0.true));
      main_follows = λ some. absurd (omega (arith, some, c.if-self-eq0.true));
    }

pub returns-then-self-eq0 : goal.returns-then-self-eq0
returns-then-self-eq0 g c =
    let self = c.args.self.now in
    let device = g.D.Disk.device in
    let each =
    shows device g.met.D.Disk.whole g.met.D.Disk.bytes g.met.D.Disk.agrees g.met.D.Disk.even
    g.met.D.Disk.held g.met.D.Disk.sized in
    let old =
    joint_of device self.atom self.head_was.value self.main_was.value self.head self.main self.used
    self.calls in
    let new =
    joint_of device self.atom self.head_was.value self.main_was.value self.head c.write.new.self
    self.used c.saturating_add-self.result in
    let none : old.head.atoms ≡ 0 = self.front ∙ c.if-self-eq0.true in
    let leaves : LeavesHead old new = record {
      none = none;
      same = refl;
      used = refl;
      shows = shows_front device each self.atom self.head;
      fits = self.within;
    } in
    record {
      call = write_by_main c.args.at c.args.bytes.now old new c.write.result leaves (each self.main)
          (each c.write.new.self)
          (within_main c.args.at old.main.size old.head.atoms old.used (length c.args.bytes.now) none
          c.requires.within) c.write.ensures.call;
      each = inl (none, refl, c.write.ensures.call);
      counts = record {
        calls = c.saturating_add-self.ensures;
        used = refl;
        head_was = refl;
        main_was = refl;
        tells = λ some. absurd (omega (arith, some, none));
      };
      sizes = refl;
    }

pub invariant_of-self-2 : goal.invariant_of-self-2
invariant_of-self-2 g c =
    let self = c.args.self.now in
    let device = g.D.Disk.device in
    let each =
    shows device g.met.D.Disk.whole g.met.D.Disk.bytes g.met.D.Disk.agrees g.met.D.Disk.even
    g.met.D.Disk.held g.met.D.Disk.sized in
    let both =
    subst (λ size. BothWritten (device self.main).size c.args.at c.saturating_sub.result
    c.split_at.result.0.now c.split_at.result.1.now
    self.calls (in_front device size self.head) (in_front device size c.write_both.new.head)
    (device self.main)
    (device c.write_both.new.main) c.write_both.result) self.size c.write_both.ensures.both in
    let old =
    joint_of device self.atom self.head_was.value self.main_was.value self.head self.main self.used
    self.calls in
    let new =
    joint_of device self.atom self.head_was.value self.main_was.value c.write_both.new.head
    c.write_both.new.main
    self.used c.saturating_add-self.result in
    let some : 0 < self.base = omega (arith, c.if-self-eq0.false) in
    let joins =
    joins_of device self.atom self.head_was.value self.main_was.value self.head
    c.write_both.new.head self.main
    c.write_both.new.main self.used self.calls c.saturating_add-self.result
    c.saturating_add-self.ensures
    (self.head_follows some) (self.main_follows some) (shows_front device each self.atom self.head)
    (each self.main) in
    let kept = both_keep (WriteCall (device self.main).size c.args.at c.split_at.result.0.now)
    (WriteCall (device self.main).size c.saturating_sub.result c.split_at.result.1.now)
    (length c.split_at.result.0.now ≡ 0) (length c.split_at.result.1.now ≡ 0)
    old new c.write_both.result joins (λ r call. write_went _ _ _ _ _ _ r call)
    (λ r call. write_went _ _ _ _ _ _ r call) both in
    record {
      size = kept.main_size ∙ self.size;
      same_size = kept.head_size ∙ self.same_size;
      front = kept.head_atoms ∙ self.front;
      within = rw kept.main_atoms self.within;
      fits = self.fits;
      head_follows = λ _. kept.head_follows;
      main_follows = λ _. kept.main_follows;
    }

pub returns : goal.returns
returns g c =
    let self = c.args.self.now in
    let device = g.D.Disk.device in
    let each =
    shows device g.met.D.Disk.whole g.met.D.Disk.bytes g.met.D.Disk.agrees g.met.D.Disk.even
    g.met.D.Disk.held g.met.D.Disk.sized in
    let both =
    subst (λ size. BothWritten (device self.main).size c.args.at c.saturating_sub.result
    c.split_at.result.0.now c.split_at.result.1.now
    self.calls (in_front device size self.head) (in_front device size c.write_both.new.head)
    (device self.main)
    (device c.write_both.new.main) c.write_both.result) self.size c.write_both.ensures.both in
    let old =
    joint_of device self.atom self.head_was.value self.main_was.value self.head self.main self.used
    self.calls in
    let new =
    joint_of device self.atom self.head_was.value self.main_was.value c.write_both.new.head
    c.write_both.new.main
    self.used c.saturating_add-self.result in
    let some : 0 < self.base = omega (arith, c.if-self-eq0.false) in
    let joins =
    joins_of device self.atom self.head_was.value self.main_was.value self.head
    c.write_both.new.head self.main
    c.write_both.new.main self.used self.calls c.saturating_add-self.result
    c.saturating_add-self.ensures
    (self.head_follows some) (self.main_follows some) (shows_front device each self.atom self.head)
    (each self.main) in
    let kept = both_keep (WriteCall (device self.main).size c.args.at c.split_at.result.0.now)
    (WriteCall (device self.main).size c.saturating_sub.result c.split_at.result.1.now)
    (length c.split_at.result.0.now ≡ 0) (length c.split_at.result.1.now ≡ 0)
    old new c.write_both.result joins (λ r call. write_went _ _ _ _ _ _ r call)
    (λ r call. write_went _ _ _ _ _ _ r call) both in
    let on_head : 0 < old.head.atoms = rw self.front some in
    record {
      call = as_joined (λ one next. WriteCall old.main.size c.args.at c.args.bytes.now one next
          c.write_both.result) old new on_head kept.head_atoms
          (write_joined c.args.at c.saturating_sub.result self.atom self.base
          c.bytes_in_front-cut.result c.args.bytes.now
          c.split_at.result.0.now c.split_at.result.1.now old new c.write_both.result joins
          (shows_front device each self.atom c.write_both.new.head) (each c.write_both.new.main)
          self.size self.same_size self.front self.within
          (positive self.atom (rw self.size at (g.met.D.Disk.geometry self.main).known)) c.requires
          c.split_at.ensures.front c.split_at.ensures.back c.bytes_in_front-cut.ensures
          c.saturating_sub.ensures both);
      each = inr (
        on_head,
        write_parts c.args.at c.saturating_sub.result self.atom self.base
            c.bytes_in_front-cut.result c.args.bytes.now
            c.split_at.result.0.now c.split_at.result.1.now old new c.write_both.result self.size
            self.front
            c.split_at.ensures.front c.split_at.ensures.back c.bytes_in_front-cut.ensures
            c.saturating_sub.ensures both,
      );
      counts = kept.counts;
      sizes = ap
          (λ one. record {
            atom = self.atom;
            header_atoms =
                if one then self.base else self.used;
            main_atoms = self.used;
            detached = one;
          }) c.write_both.ensures.head;
    }
