-- What the last step of a worker leaves, by its answer.
use Rattle.std.proofs.Common.{List, None, Option, Some, ap, arith, false, inl, inr, refl, subst}
use Rattle.std.proofs.Common.{suc, sym, true, ℕ, ◌++◌, append_assoc, ◌⊎◌, ◌≤◌, ◌-◌, ◌<◌, ◌^◌, ◌∙◌}
use Rattle.std.proofs.Common.{◌∷◌, ◌≡◌, ◌≢◌, Bool, [], length}
use Rattle.std.proofs.lemmas.List.{append-nil}
use Rattle.base_terms.specs.Causes.{Rose}
use Rattle.sector_disk.specs.DiskViews.Parts.{block_at}
use Rattle.volume_machine.specs.Seals.{Seals}
use Rattle.volume_machine.specs.States.{State, open_at}
use Rattle.volume_machine.specs.Works.{Work}
use Rattle.crash_laws.specs.HeaderAreas.Headers.{Header, Layout}
use Rattle.crash_laws.specs.HotZones.Standing.{side_before}
use Rattle.crash_laws.specs.HotZones.Zones.{Phase, mending, moving, opening, saving, shifting, turning}
use Rattle.crash_laws.specs.HotZones.Zones.{writing}
use Rattle.reenc_worker.specs.Answers.{AreAnswers, ended, exhausted}
use Rattle.reenc_worker.specs.declared.ends.WorkAnswer.{WorkAnswer}
use Rattle.reenc_worker.specs.declared.ends.WorkAnswer.TheVariants.{Ended, Stepped, Waiting}
use Rattle.reenc_worker.specs.declared.ends.WorkerEnd.{WorkerEnd}
use Rattle.reenc_worker.specs.declared.ends.WorkerEnd.TheVariants as ends_of
use Rattle.segment_map.specs.declared.Side.TheVariants.{New, Old}
use Rattle.segment_map.specs.declared.map.Map.{Map}
use Rattle.volume_laws.specs.Converting.{IsInOrder}
use Rattle.volume_laws.proofs.VolumesKept.{step_in_order}
use Rattle.volume_laws.proofs.WorkFaults.{goes_by_answer}
use Rattle.volume_machine.specs.Courses.{IsAtRest}
use Rattle.volume_machine.specs.Deeds.{Deed}
use Rattle.volume_machine.specs.Pieces.{side_in}
use Rattle.volume_machine.specs.Readings.{Reading}
use Rattle.volume_machine.specs.States.{IsIdle}
use Rattle.volume_machine.specs.WorkSteps.{AreAllOn, Frees, GivesUp, Hindrance, IsDone, IsHindered}
use Rattle.volume_machine.specs.WorkSteps.{IsUnfinished, Lacks, WorkStep}
use Rattle.volume_machine.specs.WorkSteps.{Hinders, IsGivable, IsNoClash, Worked, begins, clashes}
use Rattle.volume_machine.specs.WorkSteps.{concludes, ends, ends_zone, faulted, faults}
use Rattle.volume_machine.specs.WorkSteps.{is_hindered, is_unfinished, leaves_blocks}
use Rattle.volume_machine.specs.WorkSteps.{leaves_broken, misses_conclusion, misses_part, misses_wipe}
use Rattle.volume_machine.specs.WorkSteps.{no_memory, no_number, no_room, opens_zone, queues, stays}
use Rattle.volume_machine.specs.WorkSteps.{steps, takes, wiped, wipes}
use Rattle.volume_machine.specs.Works.{Work, complete, converting, resting}
use Rattle.volume_laws.specs.WorkerRuns.Conversions.{EndsSo, HasConverted, HasWiped, IsClash}
use Rattle.volume_laws.specs.WorkerRuns.Conversions.{IsConverted, IsFaultless, MayConvert, StaysInUse}
use Rattle.volume_laws.specs.WorkerRuns.Steps.{HasWorked, end_by, told_by}
use Rattle.sector_disk.proofs.DiskViews.Blockwise.{length-block_at}
use Rattle.volume_laws.proofs.WorkerRuns.LanesIdle.{all_idle, work_leaves}
use Rattle.volume_laws.proofs.WorkerRuns.Stages.{at_hand_at, converting_at, over_at}
use Rattle.volume_laws.proofs.WorkerRuns.WorkRuns.{SoFar, all_further, last_further, none_so_far}
use Rattle.volume_laws.proofs.WorkerRuns.WorkRuns.{none_waited}
use Rattle.std.proofs.lemmas.List.Elements.{All-push}

-- behind one more deed, in which nothing changed
wiped_further : {K : Type 0} {reading : Reading} {layout : Layout} {first last : Header (List ℕ)}
    {old now new : State K} {deeds all : List (Deed K)} (one : Deed K) → all ≡ deeds ++ one ∷ []
    → new ≡ now → HasWiped reading layout first last old deeds now
    → HasWiped reading layout first last old all new
wiped_further one parts same wiped_so = record {
  earlier = wiped_so.earlier;
  later = wiped_so.later ++ one ∷ [];
  parts = parts ∙ ap (λ d. d ++ one ∷ []) wiped_so.parts
      ∙ append_assoc wiped_so.earlier wiped_so.later (one ∷ []);
  areas = wiped_so.areas;
  stood = wiped_so.stood;
  dropped = wiped_so.dropped;
  wipes = rw same wiped_so.wipes;
}

stepped_ends : {end : WorkerEnd} → Stepped ≡ Ended end → ⊥
stepped_ends e = cc

waiting_ends : {end : WorkerEnd} → Waiting ≡ Ended end → ⊥
waiting_ends e = cc

module _ {K : Type 0} {reading : Reading} (seals : Seals) {layout : Layout}
    {first : Header (List ℕ)} {old : State K} {deeds all : List (Deed K)} {mid : State K}
    (new : State K) (far : SoFar reading layout first old deeds mid) (one : Deed K)
    (parts : all ≡ deeds ++ one ∷ []) where
  -- ---- no operation is under way
  freed_idle : {broken : Bool} {next : Option Work} → Frees mid new broken next → IsIdle new
  freed_idle frees =
      let count = frees.lanes.count in
      all_idle new frees.lane (λ k below.
      frees.lanes.others k (λ same. (let last = frees.last in omega (arith, same, last, below, count)))
      ∙ far.clients k (omega (arith, below, count)))
      (frees.last ∙ sym count) frees.lanes.own

  same_idle : (lane : ℕ) → new ≡ mid → suc lane ≡ length mid.lanes → open_at mid.lanes lane ≡ None
      → IsIdle new
  same_idle lane same last free = rw same (all_idle mid lane far.clients last free)

  pub last_idle : {worked : Worked} → WorkStep reading seals mid new worked → (end : WorkerEnd)
      → told_by worked ≡ Ended end → IsIdle new
  last_idle (takes grant it) end told = absurd (stepped_ends told)
  last_idle (queues lane it) end told = absurd (waiting_ends told)
  last_idle (stays lane it) end told = absurd (waiting_ends told)
  last_idle (begins it) end told = absurd (stepped_ends told)
  last_idle (steps it) end told = absurd (stepped_ends told)
  last_idle (opens_zone it) end told = absurd (stepped_ends told)
  last_idle (ends_zone it) end told = absurd (stepped_ends told)
  last_idle (leaves_blocks it) end told = absurd (stepped_ends told)
  last_idle (concludes it) end told = absurd (stepped_ends told)
  last_idle (wipes it) end told = absurd (stepped_ends told)
  last_idle (wiped it) end told = absurd (stepped_ends told)
  last_idle (ends it) end told = same_idle it.lane it.same it.last it.free
  last_idle (misses_part it) end told = freed_idle it.gives_up.frees
  last_idle (is_hindered cause it) end told = freed_idle it.gives_up.frees
  last_idle (is_unfinished cause it) end told = same_idle it.lane it.same it.last it.free
  last_idle (faults it) end told = freed_idle it.frees
  last_idle (misses_conclusion it) end told = freed_idle it.frees
  last_idle (misses_wipe it) end told = freed_idle it.frees
  last_idle (leaves_broken it) end told = freed_idle it.frees

  -- ---- the volume stays in use
  given_up : {worked : Worked} (step : WorkStep reading seals mid new worked) (work : Work)
      → (it : GivesUp mid new work)
      → (in_use : StaysInUse reading layout old new) × (in_use.header ≡ work.zone.before)
  given_up {worked = worked} step work it =
      let away : IsAtRest work → ⊥ = (λ rest. (let some = it.some in
      let none = subst (λ w. w.range.start < w.range.end) rest some in omega (arith, none))) in
      elim (at_hand_at far.stands work it.was away) [
        | inl on ↦ (let (lay, keeps) = converting_at far.stands work it.was on in (
          record {
            header = work.zone.before;
            may = record {
              order = step_in_order reading seals mid new worked far.order step;
              idle = freed_idle it.frees;
              at_rest = it.frees.work ∙ rw (lay, on) refl;
            };
            unbroken = it.frees.broken_is;
            blocks = ap (λ m. m.blocks) it.frees.map ∙ far.blocks;
          },
          refl,
        ))
        | inr closing_so ↦ (let some = it.some in
            let none = subst (λ w. w.range.start < w.range.end) closing_so.is some in
            absurd (omega (arith, none)))
      ]

  given_stays : {worked : Worked} (step : WorkStep reading seals mid new worked) (work : Work)
      → (it : GivesUp mid new work) → StaysInUse reading layout old new
  given_stays step work it = (given_up step work it).0

  unfinished_stays : {cause : Hindrance} → IsUnfinished reading mid new cause
      → StaysInUse reading layout old new
  unfinished_stays it = let (lay, keeps) = converting_at far.stands _ it.was refl in record {
    header = it.header;
    may = record {
      order = subst (IsInOrder reading) (sym it.same) far.order;
      idle = same_idle it.lane it.same it.last it.free;
      at_rest = ap (λ s. s.work) it.same ∙ it.was
          ∙ ap (λ l. Some (resting l it.header converting)) lay;
    };
    unbroken = ap (λ s. s.broken) it.same ∙ it.unbroken;
    blocks = ap (λ s. s.map.blocks) it.same ∙ far.blocks;
  }

  -- ---- by what the last step is answered
  is_finished : IsDone mid new → IsConverted reading layout first old all new
  is_finished it =
      let at = over_at far.stands it.layout it.header it.was in
      let course = far.order.courses _ it.was in record {
        header = it.header;
        is = course.is;
        at_end = ap (λ s. s.work) it.same ∙ it.was
            ∙ ap (λ l. Some (resting l it.header complete)) at.lay;
        unbroken = ap (λ s. s.broken) it.same ∙ it.unbroken;
        idle = same_idle it.lane it.same it.last it.free;
        map = ap (λ s. s.map) it.same ∙ course.map;
        blocks = ap (λ s. s.map.blocks) it.same ∙ far.blocks;
        converted = rw it.same at.all;
        rests = at.says.rests;
        sealing = at.says.sealing;
        wiped = wiped_further one parts it.same at.wiped;
        certain = rw it.same at.certain;
      }

  rose_since : Rose mid.disk.faults new.disk.faults → Rose old.disk.faults new.disk.faults
  rose_since (inl more) = inl (let later = far.later in omega (arith, more, later))
  rose_since (inr full) = inr full

  -- what headers to come lack behind this one, where a zone is hindered, or the end
  LacksSome : Header (List ℕ) → Hindrance → Type 0
  LacksSome header cause =
      Lacks reading header 2 cause ⊎ (AreAllOn new.map New × Lacks reading header 1 cause)

  hindered_leaves : (cause : Hindrance) → (in_use : StaysInUse reading layout old new)
      → (IsNoClash cause → LacksSome in_use.header cause)
      → ((block : ℕ) (digest : List ℕ) → cause ≡ clashes block digest
      → IsClash reading seals in_use.header new block digest)
      → EndsSo reading seals layout first old all new (end_by cause)
  unfolding LacksSome
  hindered_leaves (clashes block digest) in_use lacks clash = (in_use, clash block digest refl)
  hindered_leaves (no_number left needed) in_use lacks clash = (in_use, lacks tt)
  hindered_leaves (no_room len limit) in_use lacks clash = (in_use, lacks tt)
  hindered_leaves no_memory in_use lacks clash = in_use

  zone_lacks : {cause : Hindrance} (it : IsHindered reading seals mid new cause)
      → (header : Header (List ℕ)) → header ≡ it.work.zone.before → IsNoClash cause
      → LacksSome header cause
  unfolding LacksSome
  zone_lacks {cause = cause} it header same none =
      inl (subst (λ h. Lacks reading h 2 cause) (sym same) (it.lacks none))

  end_lacks : {cause : Hindrance} (it : IsUnfinished reading mid new cause)
      → LacksSome it.header cause
  unfolding LacksSome
  end_lacks it = inr (subst (λ s. AreAllOn s.map New) (sym it.same) it.converted, it.lacks)

  no_clash : (cause : Hindrance) (header : Header (List ℕ)) → Lacks reading header 1 cause
      → (block : ℕ) (digest : List ℕ) → cause ≡ clashes block digest → ⊥
  no_clash cause header lacks block digest same = subst (Lacks reading header 1) same lacks

  old_side : (phase : Phase) → IsGivable phase → side_before phase ≡ Old
  old_side (saving n) givable = refl
  old_side (opening stage) givable = absurd givable
  old_side (writing n) givable = absurd givable
  old_side (mending n) givable = absurd givable
  old_side (moving stage) givable = absurd givable
  old_side (shifting n) givable = refl
  old_side (turning stage) givable = absurd givable

  is_clash : {cause : Hindrance} (it : IsHindered reading seals mid new cause)
      → (header : Header (List ℕ)) → header ≡ it.work.zone.before
      → (block : ℕ) (digest : List ℕ) → cause ≡ clashes block digest
      → IsClash reading seals header new block digest
  is_clash it header header_is block digest same =
      let found = subst (Hinders seals mid.map.atom it.work it.first it.text) same it.hinders in
      let zone = far.order.works it.work it.gives_up.was in
      let start : it.work.range.start ≤ block = (let is = found.is in omega (arith, is)) in
      let map = it.gives_up.frees.map in record {
        guard = ap (λ (h : Header (List ℕ)). reading.guard h.means) header_is ∙ sym it.guard
            ∙ found.by_digests;
        within = subst (λ (m : Map). block < m.blocks) (sym map)
            (let inside = found.inside in let fits = zone.lies.inside in omega (arith, inside, fits));
        side = ap (λ (m : Map). side_in m block) map ∙ zone.sides block start found.inside
            ∙ old_side it.work.phase it.gives_up.phase;
        value = block_at mid.map.atom it.text found.k;
        size = length-block_at mid.map.atom found.count it.text found.k found.within
            (let long = found.size in omega (arith, long))
            ∙ sym (ap (λ (m : Map). m.atom) map);
        old = found.old;
        new = found.new;
      }

  broken_before : mid.broken ≡ true → mid ≡ old
  broken_before is = elim far.unbroken [
    | inl same ↦ same
    | inr whole ↦ absurd (cc)
  ]

  at_end : {found end : WorkerEnd} → EndsSo reading seals layout first old all new found
      → Ended found ≡ Ended end → EndsSo reading seals layout first old all new end
  at_end {found = found} {end = end} so same = let is : found ≡ end = cc in
      subst (EndsSo reading seals layout first old all new) is so

  pub by_answer : {worked : Worked} → WorkStep reading seals mid new worked
      → (end : WorkerEnd) → told_by worked ≡ Ended end
      → EndsSo reading seals layout first old all new end
  unfolding unfinished_stays
  by_answer (takes grant it) end told = absurd (stepped_ends told)
  by_answer (queues lane it) end told = absurd (waiting_ends told)
  by_answer (stays lane it) end told = absurd (waiting_ends told)
  by_answer (begins it) end told = absurd (stepped_ends told)
  by_answer (steps it) end told = absurd (stepped_ends told)
  by_answer (opens_zone it) end told = absurd (stepped_ends told)
  by_answer (ends_zone it) end told = absurd (stepped_ends told)
  by_answer (leaves_blocks it) end told = absurd (stepped_ends told)
  by_answer (concludes it) end told = absurd (stepped_ends told)
  by_answer (wipes it) end told = absurd (stepped_ends told)
  by_answer (wiped it) end told = absurd (stepped_ends told)
  by_answer (ends it) end told = at_end {found = ends_of.Finished} (is_finished it) told
  by_answer (misses_part it) end told =
      at_end {found = ends_of.Device} (record {
        rose = rose_since (it.call.cause.failed refl);
        left = inr (given_stays (misses_part it) it.work it.gives_up);
      }) told
  by_answer (is_hindered cause it) end told =
      let used = given_up (is_hindered cause it) it.work it.gives_up in
      at_end {found = end_by cause} (hindered_leaves cause used.0
      (zone_lacks it used.0.header used.1)
      (is_clash it used.0.header used.1)) told
  by_answer (is_unfinished cause it) end told =
      at_end {found = end_by cause} (hindered_leaves cause (unfinished_stays it)
      (λ none. end_lacks it)
      (λ block digest same. absurd (no_clash cause it.header it.lacks block digest same))) told
  by_answer (faults it) end told =
      at_end {found = ends_of.Device} (record {
        rose = rose_since ((goes_by_answer reading seals faulted (faults it)).rose refl);
        left = inl it.frees.broken_is;
      }) told
  by_answer (misses_conclusion it) end told =
      at_end {found = ends_of.Device} (record {
        rose = rose_since (it.call.call.cause.failed refl);
        left = inl it.frees.broken_is;
      }) told
  by_answer (misses_wipe it) end told =
      at_end {found = ends_of.Device} (record {
        rose = rose_since (it.call.call.cause.failed refl);
        left = inl it.frees.broken_is;
      }) told
  by_answer (leaves_broken it) end told =
      let same = broken_before it.broken in
      at_end {found = ends_of.Broken} (record {
        was = subst (λ s. s.broken ≡ true) same it.broken;
        broken = it.frees.broken_is;
        rests = subst (λ s. new.disk ≡ s.disk) same it.rests;
        map = subst (λ s. new.map ≡ s.map) same it.frees.map;
      }) told

-- ---- a whole run
pub all_ends : {K : Type 0} (reading : Reading) (seals : Seals) (layout : Layout)
    (header : Header (List ℕ)) (old new : State K) (answers : List WorkAnswer) (end : WorkerEnd)
    → MayConvert reading layout header old → HasWorked reading seals old new answers
    → AreAnswers end answers → HasConverted reading seals layout header old new end
all_ends reading seals layout header old new _ end may worked (ended went on below) =
    let found = last_further reading seals went (Ended end) [] worked.deeds worked.deeds worked.works old refl
    (none_so_far may) worked.are worked.acts worked.answered on in
    let step = subst (λ s. WorkStep reading seals found.mid s found.worked) worked.last found.step in
    let leaves = work_leaves found.mid new found.far.order.courses step in record {
      answers = went ++ Ended end ∷ [];
      worked = worked;
      ends = ended went on below;
      unwaiting = All-push (λ answer. answer ≢ Waiting) went (Ended end)
          (none_waited reading seals went (Ended end ∷ []) [] worked.deeds worked.deeds worked.works
          old refl (none_so_far may) worked.are worked.acts worked.answered on) (λ e. cc);
      leaves = by_answer seals new found.far found.one found.parts step end found.told;
      idle = λ other. last_idle seals new found.far found.one found.parts step end found.told;
      keys = leaves.keys ∙ found.far.keys;
    }
all_ends reading seals layout header old new answers end may worked (exhausted went on count is) =
    let far = all_further reading seals [] worked.deeds worked.deeds worked.works old refl (none_so_far may)
    worked.are worked.acts (rw worked.answered on) in record {
      answers = answers;
      worked = worked;
      ends = exhausted answers on count is;
      unwaiting = none_waited reading seals went [] [] worked.deeds worked.deeds worked.works old refl
          (none_so_far may) worked.are worked.acts (worked.answered ∙ sym (append-nil went)) on;
      leaves = rw is tt;
      idle = λ other. absurd (other is);
      keys = subst (λ s. s.keys ≡ old.keys) worked.last far.keys;
    }

-- ---- no end by a failed call comes without one
pub faultless_ends : {K : Type 0} (reading : Reading) (seals : Seals) (layout : Layout)
    (header : Header (List ℕ)) (old new : State K) (end : WorkerEnd)
    → HasConverted reading seals layout header old new end → old.broken ≡ false
    → new.disk.faults ≡ old.disk.faults → old.disk.faults < 2 ^ 64 - 1 → IsFaultless end
faultless_ends reading seals layout header old new end ran whole same below =
    by end refl ran.leaves
  where
    rose : Rose old.disk.faults new.disk.faults → ⊥
    rose (inl more) = omega (arith, more, same)
    rose (inr full) = omega (arith, full, same, below)

    by : (one : WorkerEnd) → end ≡ one
        → EndsSo reading seals layout header old ran.worked.deeds new one → IsFaultless one
    by ends_of.Finished is leaves = tt
    by ends_of.Device is leaves = absurd (rose leaves.rose)
    by (ends_of.Clash block digest) is leaves = tt
    by (ends_of.NoFit what) is leaves = tt
    by ends_of.Broken is leaves = (let was = leaves.was in absurd (cc))
    by ends_of.Spent is leaves = tt
    by ends_of.Memory is leaves = tt
