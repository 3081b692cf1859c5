use Rattle.std.proofs.Common.{◌≡◌, ◌<◌, ◌++◌, if◌then◌else◌, length, length-append, ◌∙◌, ap, refl}
use Rattle.std.proofs.Common.{inl, inr, subst, arith}
use Rattle.sector_disk.specs.Devices.{ReadCall}
use Rattle.sector_disk.specs.JoinedDisks.Joined.{in_front, joint_of}
use Rattle.sector_disk.specs.JoinedDisks.JoinedCalls.{BothRead}
use Rattle.sector_disk.specs.JoinedDisks.JoinedLaws.{shows, shows_front}
use Rattle.sector_disk.proofs.JoinedDisks.JointLemmas.{as_joined}
use Rattle.sector_disk.proofs.JoinedDisks.MainCalls.{LeavesHead, read_by_main, within_main}
use Rattle.sector_disk.proofs.JoinedDisks.JointKeeps.{joins_of, both_keep, read_went}
use Rattle.sector_disk.proofs.JoinedDisks.JointParts.{read_parts}
use Rattle.sector_disk.proofs.JoinedDisks.JointReads.{read_joined}
use Rattle.sector_disk.proofs.joined.joined.JoinedDiskDisk.read.Goals as goal

pub invariant_of-self : goal.invariant_of-self
invariant_of-self g c =
    let self = c.args.self.now in
    record {
      size = c.read.ensures.call.size ∙ self.size;
      same_size = self.same_size;
      front = self.front;
      within = rw c.read.ensures.call.atoms self.within;
      fits = self.fits;
      head_follows = λ some. absurd (omega (arith, some, c.if-self-eq0.true));
      main_follows = λ some. absurd (omega (arith, some, c.if-self-eq0.true));
    }

pub returns-then-self-eq0 : goal.returns-then-self-eq0
returns-then-self-eq0 g c =
    let self = c.args.self.now in
    let device = g.D.Disk.device in
    let each =
    shows device g.met.D.Disk.whole g.met.D.Disk.bytes g.met.D.Disk.agrees g.met.D.Disk.even
    g.met.D.Disk.held g.met.D.Disk.sized in
    let old =
    joint_of device self.atom self.head_was.value self.main_was.value self.head self.main self.used
    self.calls in
    let new =
    joint_of device self.atom self.head_was.value self.main_was.value self.head c.read.new.self
    self.used c.saturating_add-self.result in
    let none : old.head.atoms ≡ 0 = self.front ∙ c.if-self-eq0.true in
    let leaves : LeavesHead old new = record {
      none = none;
      same = refl;
      used = refl;
      shows = shows_front device each self.atom self.head;
      fits = self.within;
    } in
    record {
      call = read_by_main c.args.at c.read.new.buf old new c.read.result leaves
          (within_main c.args.at old.main.size old.head.atoms old.used (length c.read.new.buf) none
          (rw c.read.auto.buf c.requires.within)) c.read.ensures.call;
      each = inl (none, refl, c.read.ensures.call);
      counts = record {
        calls = c.saturating_add-self.ensures;
        used = refl;
        head_was = refl;
        main_was = refl;
        tells = λ some. absurd (omega (arith, some, none));
      };
      sizes = refl;
    }

pub invariant_of-self-2 : goal.invariant_of-self-2
invariant_of-self-2 g c =
    let self = c.args.self.now in
    let device = g.D.Disk.device in
    let each =
    shows device g.met.D.Disk.whole g.met.D.Disk.bytes g.met.D.Disk.agrees g.met.D.Disk.even
    g.met.D.Disk.held g.met.D.Disk.sized in
    let both =
    subst (λ size. BothRead (device self.main).size c.args.at c.saturating_sub.result
    c.read_both.new.front c.read_both.new.back
    self.calls (in_front device size self.head) (in_front device size c.read_both.new.head)
    (device self.main)
    (device c.read_both.new.main) c.read_both.result) self.size c.read_both.ensures.both in
    let old =
    joint_of device self.atom self.head_was.value self.main_was.value self.head self.main self.used
    self.calls in
    let new =
    joint_of device self.atom self.head_was.value self.main_was.value c.read_both.new.head
    c.read_both.new.main
    self.used c.saturating_add-self.result in
    let some : 0 < self.base = omega (arith, c.if-self-eq0.false) in
    let joins =
    joins_of device self.atom self.head_was.value self.main_was.value self.head c.read_both.new.head
    self.main
    c.read_both.new.main self.used self.calls c.saturating_add-self.result
    c.saturating_add-self.ensures
    (self.head_follows some) (self.main_follows some) (shows_front device each self.atom self.head)
    (each self.main) in
    let kept = both_keep (ReadCall (device self.main).size c.args.at c.read_both.new.front)
    (ReadCall (device self.main).size c.saturating_sub.result c.read_both.new.back)
    (length c.read_both.new.front ≡ 0) (length c.read_both.new.back ≡ 0)
    old new c.read_both.result joins (λ r call. read_went _ _ _ _ _ _ r call)
    (λ r call. read_went _ _ _ _ _ _ r call) both in
    record {
      size = kept.main_size ∙ self.size;
      same_size = kept.head_size ∙ self.same_size;
      front = kept.head_atoms ∙ self.front;
      within = rw kept.main_atoms self.within;
      fits = self.fits;
      head_follows = λ _. kept.head_follows;
      main_follows = λ _. kept.main_follows;
    }

pub returns : goal.returns
returns g c =
    let self = c.args.self.now in
    let device = g.D.Disk.device in
    let each =
    shows device g.met.D.Disk.whole g.met.D.Disk.bytes g.met.D.Disk.agrees g.met.D.Disk.even
    g.met.D.Disk.held g.met.D.Disk.sized in
    let both =
    subst (λ size. BothRead (device self.main).size c.args.at c.saturating_sub.result
    c.read_both.new.front c.read_both.new.back
    self.calls (in_front device size self.head) (in_front device size c.read_both.new.head)
    (device self.main)
    (device c.read_both.new.main) c.read_both.result) self.size c.read_both.ensures.both in
    let old =
    joint_of device self.atom self.head_was.value self.main_was.value self.head self.main self.used
    self.calls in
    let new =
    joint_of device self.atom self.head_was.value self.main_was.value c.read_both.new.head
    c.read_both.new.main
    self.used c.saturating_add-self.result in
    let some : 0 < self.base = omega (arith, c.if-self-eq0.false) in
    let joins =
    joins_of device self.atom self.head_was.value self.main_was.value self.head c.read_both.new.head
    self.main
    c.read_both.new.main self.used self.calls c.saturating_add-self.result
    c.saturating_add-self.ensures
    (self.head_follows some) (self.main_follows some) (shows_front device each self.atom self.head)
    (each self.main) in
    let front_long = c.read_both.auto.front ∙ c.split_at_mut-front.ensures.front_len in
    let back_long = c.read_both.auto.back in
    let kept = both_keep (ReadCall (device self.main).size c.args.at c.read_both.new.front)
    (ReadCall (device self.main).size c.saturating_sub.result c.read_both.new.back)
    (length c.read_both.new.front ≡ 0) (length c.read_both.new.back ≡ 0)
    old new c.read_both.result joins (λ r call. read_went _ _ _ _ _ _ r call)
    (λ r call. read_went _ _ _ _ _ _ r call) both in
    let on_head : 0 < old.head.atoms = rw self.front some in
    record {
      call = as_joined (λ one next. ReadCall old.main.size c.args.at
          (c.read_both.new.front ++ c.read_both.new.back) one next c.read_both.result) old new on_head kept.head_atoms
          (read_joined c.args.at c.saturating_sub.result self.atom self.base
          c.bytes_in_front-cut.result (length c.args.buf.now)
          c.read_both.new.front c.read_both.new.back old new c.read_both.result joins self.size
          self.same_size self.front self.within
          c.requires.within front_long c.bytes_in_front-cut.ensures
          (length-append c.read_both.new.front c.read_both.new.back
          ∙ omega (arith, front_long, back_long, c.split_at_mut-front.ensures.back_len))
          c.saturating_sub.ensures both);
      each = inr (
        on_head,
        read_parts c.args.at c.saturating_sub.result self.atom self.base
            c.bytes_in_front-cut.result (length c.args.buf.now)
            c.read_both.new.front c.read_both.new.back old new c.read_both.result self.size self.front
            front_long c.bytes_in_front-cut.ensures
            (length-append c.read_both.new.front c.read_both.new.back
            ∙ omega (arith, front_long, back_long, c.split_at_mut-front.ensures.back_len))
            c.saturating_sub.ensures both,
      );
      counts = kept.counts;
      sizes = ap
          (λ one. record {
            atom = self.atom;
            header_atoms =
                if one then self.base else self.used;
            main_atoms = self.used;
            detached = one;
          }) c.read_both.ensures.head;
    }
