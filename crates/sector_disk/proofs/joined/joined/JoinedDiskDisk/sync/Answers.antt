use Rattle.std.proofs.Common.{◌≡◌, ◌<◌, if◌then◌else◌, [], Some, None, refl, sym, ◌∙◌, ap, inl, inr}
use Rattle.std.proofs.Common.{subst, arith}
use Rattle.sector_disk.specs.Devices.{SyncCall}
use Rattle.sector_disk.specs.JoinedDisks.Joined.{in_front, joint_of}
use Rattle.sector_disk.specs.JoinedDisks.JoinedCalls.{BothSynced}
use Rattle.sector_disk.specs.JoinedDisks.JoinedLaws.{shows, shows_front}
use Rattle.sector_disk.proofs.JoinedDisks.JointCalls.{joint_sync}
use Rattle.sector_disk.proofs.JoinedDisks.JointParts.{synced_alone}
use Rattle.sector_disk.proofs.JoinedDisks.JointLemmas.{as_joined}
use Rattle.sector_disk.proofs.JoinedDisks.MainCalls.{LeavesHead, sync_by_main}
use Rattle.sector_disk.proofs.JoinedDisks.JointKeeps.{joins_of, both_keep, sync_went}
use Rattle.sector_disk.proofs.joined.joined.JoinedDiskDisk.sync.Goals as goal

pub invariant_of-self : goal.invariant_of-self
invariant_of-self g c =
    let self = c.args.self.now in
    record {
      size = c.sync.ensures.call.size ∙ self.size;
      same_size = self.same_size;
      front = self.front;
      within = rw c.sync.ensures.call.atoms self.within;
      fits = self.fits;
      head_follows = λ some. absurd (omega (arith, some, c.if-self-eq0.true));
      main_follows = λ some. absurd (omega (arith, some, c.if-self-eq0.true));
    }

pub returns-then-self-eq0 : goal.returns-then-self-eq0
returns-then-self-eq0 g c =
    let self = c.args.self.now in
    let device = g.D.Disk.device in
    let each =
    shows device g.met.D.Disk.whole g.met.D.Disk.bytes g.met.D.Disk.agrees g.met.D.Disk.even
    g.met.D.Disk.held g.met.D.Disk.sized in
    let old =
    joint_of device self.atom self.head_was.value self.main_was.value self.head self.main self.used
    self.calls in
    let new =
    joint_of device self.atom self.head_was.value self.main_was.value self.head c.sync.new.self
    self.used c.saturating_add-self.result in
    let none : old.head.atoms ≡ 0 = self.front ∙ c.if-self-eq0.true in
    let leaves : LeavesHead old new = record {
      none = none;
      same = refl;
      used = refl;
      shows = shows_front device each self.atom self.head;
      fits = self.within;
    } in
    record {
      call = sync_by_main old new c.sync.result leaves c.sync.ensures.call;
      each = inl (none, refl, c.sync.ensures.call);
      counts = record {
        calls = c.saturating_add-self.ensures;
        used = refl;
        head_was = refl;
        main_was = refl;
        tells = λ some. absurd (omega (arith, some, none));
      };
      sizes = refl;
    }

pub invariant_of-self-2 : goal.invariant_of-self-2
invariant_of-self-2 g c =
    let self = c.args.self.now in
    let device = g.D.Disk.device in
    let each =
    shows device g.met.D.Disk.whole g.met.D.Disk.bytes g.met.D.Disk.agrees g.met.D.Disk.even
    g.met.D.Disk.held g.met.D.Disk.sized in
    let both =
    subst (λ size. BothSynced (self.head ≡ None) self.calls (in_front device size self.head)
    (in_front device size c.sync_both.new.head) (device self.main) (device c.sync_both.new.main)
    c.sync_both.result)
    self.size c.sync_both.ensures.both in
    let old =
    joint_of device self.atom self.head_was.value self.main_was.value self.head self.main self.used
    self.calls in
    let new =
    joint_of device self.atom self.head_was.value self.main_was.value c.sync_both.new.head
    c.sync_both.new.main
    self.used c.saturating_add-self.result in
    let some : 0 < self.base = omega (arith, c.if-self-eq0.false) in
    let joins =
    joins_of device self.atom self.head_was.value self.main_was.value self.head c.sync_both.new.head
    self.main
    c.sync_both.new.main self.used self.calls c.saturating_add-self.result
    c.saturating_add-self.ensures
    (self.head_follows some) (self.main_follows some) (shows_front device each self.atom self.head)
    (each self.main) in
    let kept = both_keep SyncCall SyncCall (self.head ≡ None) ⊥ old new c.sync_both.result joins
    (λ r call. sync_went _ _ _ r call) (λ r call. sync_went _ _ _ r call) both in
    record {
      size = kept.main_size ∙ self.size;
      same_size = kept.head_size ∙ self.same_size;
      front = kept.head_atoms ∙ self.front;
      within = rw kept.main_atoms self.within;
      fits = self.fits;
      head_follows = λ _. kept.head_follows;
      main_follows = λ _. kept.main_follows;
    }

pub returns : goal.returns
returns g c =
    let self = c.args.self.now in
    let device = g.D.Disk.device in
    let each =
    shows device g.met.D.Disk.whole g.met.D.Disk.bytes g.met.D.Disk.agrees g.met.D.Disk.even
    g.met.D.Disk.held g.met.D.Disk.sized in
    let both =
    subst (λ size. BothSynced (self.head ≡ None) self.calls (in_front device size self.head)
    (in_front device size c.sync_both.new.head) (device self.main) (device c.sync_both.new.main)
    c.sync_both.result)
    self.size c.sync_both.ensures.both in
    let old =
    joint_of device self.atom self.head_was.value self.main_was.value self.head self.main self.used
    self.calls in
    let new =
    joint_of device self.atom self.head_was.value self.main_was.value c.sync_both.new.head
    c.sync_both.new.main
    self.used c.saturating_add-self.result in
    let some : 0 < self.base = omega (arith, c.if-self-eq0.false) in
    let joins =
    joins_of device self.atom self.head_was.value self.main_was.value self.head c.sync_both.new.head
    self.main
    c.sync_both.new.main self.used self.calls c.saturating_add-self.result
    c.saturating_add-self.ensures
    (self.head_follows some) (self.main_follows some) (shows_front device each self.atom self.head)
    (each self.main) in
    let kept = both_keep SyncCall SyncCall (self.head ≡ None) ⊥ old new c.sync_both.result joins
    (λ r call. sync_went _ _ _ r call) (λ r call. sync_went _ _ _ r call) both in
    let on_head : 0 < old.head.atoms = rw self.front some in
    record {
      call = as_joined (λ one next. SyncCall one next c.sync_both.result) old new on_head kept.head_atoms
          (joint_sync old new c.sync_both.result (self.head ≡ None) joins
          (λ none. (
            record { now = []; past = []; mark = Some 0 },
            ap (λ head. (in_front device self.atom head).told) none,
            refl,
          )) both);
      each = inr (
        on_head,
        synced_alone (self.head ≡ None) ⊥ old.calls old.head new.head
            old.main new.main c.sync_both.result
            (λ is. absurd (let e : 0 ≡ self.base =
            ap (λ head. (in_front device self.atom head).atoms) (sym is) ∙ self.front in
            omega (arith, e, some))) both,
      );
      counts = kept.counts;
      sizes = ap
          (λ one. record {
            atom = self.atom;
            header_atoms =
                if one then self.base else self.used;
            main_atoms = self.used;
            detached = one;
          }) c.sync_both.ensures.head;
    }
