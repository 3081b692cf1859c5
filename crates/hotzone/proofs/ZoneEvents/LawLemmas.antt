-- Each step of a zone is a step of the volume's worker.
use Rattle.std.proofs.Common.{◌≡◌, ℕ, ◌+◌, ◌%◌, ◌≤◌, ◌==◌, nat_lt, Bool, true, false, List, length}
use Rattle.std.proofs.Common.{Result, Ok, Err, cond, sym, ap, subst, arith}
use Rattle.cipher_laws.specs.Laws.{GivesBytes, KeepsLengths, UndoesSectors}
use Rattle.crash_laws.specs.HeaderAreas.Headers.{Layout}
use Rattle.hotzone.proofs.KnownLemmas.{SealRuns, seal-runs}
use Rattle.hotzone.proofs.WorkingLemmas.{atom-of}
use Rattle.hotzone.specs.Endings.{IsFinishing, after_wipe}
use Rattle.hotzone.specs.Headings.{IsToCome, IsUnmade}
use Rattle.hotzone.specs.Promises.{seals_in}
use Rattle.hotzone.specs.Sites.{count_of, part_at}
use Rattle.hotzone.specs.Steps.{Goes, HasRead, IsHalted, Steps, Stops, after_open, after_save, after_write}
use Rattle.hotzone.specs.Steps as steps
use Rattle.hotzone.specs.Workers.{IsWorking, first_call}
use Rattle.hotzone.specs.declared.site.Site.{Site}
use Rattle.hotzone.specs.declared.worker.Ending.{Ending}
use Rattle.hotzone.specs.declared.worker.Halt.TheVariants.{GivenUp}
use Rattle.hotzone.specs.declared.worker.Headers.{Headers}
use Rattle.hotzone.specs.declared.worker.NextCall.TheVariants as next
use Rattle.hotzone.specs.declared.worker.Stepped.{Stepped}
use Rattle.hotzone.specs.declared.worker.Worker.{Worker}
use Rattle.hotzone.specs.declared.worker.ZoneFault.{ZoneFault}
use Rattle.hotzone.specs.declared.worker.ZoneFault.TheVariants as faults
use Rattle.sector_disk.specs.Devices.{Device}
use Rattle.sector_disk.specs.Geometry.{IsAtom}
use Rattle.volume_machine.specs.Seals.{AreLawful, Seals, seals_of}
use Rattle.volume_machine.specs.States.{State}
use Rattle.volume_machine.specs.WorkSteps.{Worked, WorkStep}
use Rattle.volume_machine.specs.WorkSteps as works
use Rattle.volume_machine.specs.declared.keys.Keys.{Keys}
use Rattle.hotzone.proofs.ZoneEvents.EndLemmas.{finished-on, finishes-more, finishes-on, rests-on}
use Rattle.hotzone.proofs.ZoneEvents.EndLemmas.{wipes-on}
use Rattle.hotzone.proofs.ZoneEvents.LackLemmas.{lacks-number, lacks-room}
use Rattle.hotzone.proofs.ZoneEvents.SaveLemmas.{begins-on, keeps-on, reads-first-on, reads-on}
use Rattle.hotzone.proofs.ZoneEvents.SaveLemmas.{saves-first-on, saves-on}
use Rattle.hotzone.proofs.ZoneEvents.StopLemmas.{OldRuns, begin-fails-on, clashes-first-on}
use Rattle.hotzone.proofs.ZoneEvents.StopLemmas.{clashes-on}
use Rattle.hotzone.proofs.ZoneEvents.StopLemmas.{end-fails-on, finish-fails-on}
use Rattle.hotzone.proofs.ZoneEvents.StopLemmas.{hindered-on, keep-fails-on, move-fails-on}
use Rattle.hotzone.proofs.ZoneEvents.StopLemmas.{open-fails-on}
use Rattle.hotzone.proofs.ZoneEvents.StopLemmas.{read-again-fails-on, read-fails-on}
use Rattle.hotzone.proofs.ZoneEvents.StopLemmas.{read-first-fails-on}
use Rattle.hotzone.proofs.ZoneEvents.StopLemmas.{rest-fails-on, save-fails-on, save-first-fails-on}
use Rattle.hotzone.proofs.ZoneEvents.StopLemmas.{settle-fails-on, unfinished-on, wipe-fails-on}
use Rattle.hotzone.proofs.ZoneEvents.StopLemmas.{write-fails-on}
use Rattle.hotzone.proofs.ZoneEvents.WriteLemmas.{ends-on, moves-on, opened-on, opens-on}
use Rattle.hotzone.proofs.ZoneEvents.WriteLemmas.{reads-again-on}
use Rattle.hotzone.proofs.ZoneEvents.WriteLemmas.{settles-on, writes-on}
use Rattle.hotzone.specs.ZoneEvents.Promises.{Becomes, IsLater, IsOf, Leaves, answer_of}
use Rattle.hotzone.specs.ZoneEvents.Readings.{reading_of}
use Rattle.hotzone.specs.ZoneEvents.Works.{work_of}

-- ---- what is asked of a cipher
pub record AreCiphers {C : Type 0} (sector : C → ℕ) (seal unseal : C → ℕ → List ℕ → List ℕ) : Type
    0 where
  pub lengths : (c : C) → KeepsLengths (sector c) (seal c)
  pub gives : (c : C) → GivesBytes (sector c) (seal c)
  pub undoes : (c : C) → UndoesSectors (sector c) (unseal c) (seal c)
  pub lawful : (keys : Keys C) (atom : ℕ) → IsAtom atom → atom % sector keys.old ≡ 0
      → atom % sector keys.new ≡ 0 → AreLawful atom (seals_of seal unseal atom keys)

-- both sides in each other's place
abbrev swapped : {C : Type 0} → Keys C → Keys C
swapped keys = record {
  old = keys.new;
  old_tweak = keys.new_tweak;
  new = keys.old;
  new_tweak = keys.old_tweak;
}

module _ {C : Type 0} (sector : C → ℕ) (seal unseal : C → ℕ → List ℕ → List ℕ)
    (ciphers : AreCiphers sector seal unseal) (w : Worker C) (working : IsWorking sector w) where
  known : IsAtom w.site.atom
  known = subst IsAtom (sym (atom-of sector w working)) working.disk.known

  map-atom : w.map.atom ≡ w.site.atom
  map-atom = sym (ap (λ (s : Site). s.atom) working.zone.site_is)

  old-whole : w.site.atom % sector w.keys.old ≡ 0
  old-whole = subst (λ a. a % sector w.keys.old ≡ 0) map-atom working.keys.old_sector

  new-whole : w.site.atom % sector w.keys.new ≡ 0
  new-whole = subst (λ a. a % sector w.keys.new ≡ 0) map-atom working.keys.new_sector

  new-runs : SealRuns w.site.atom (seals_in seal unseal w)
  new-runs =
      seal-runs sector seal unseal w.keys w.site.atom
      (ciphers.lawful w.keys w.site.atom known old-whole new-whole) ciphers.lengths ciphers.gives
      ciphers.undoes new-whole

  pub old-runs : OldRuns w.site.atom (seals_in seal unseal w)
  old-runs =
      let runs =
      seal-runs sector seal unseal (swapped w.keys) w.site.atom
      (ciphers.lawful (swapped w.keys) w.site.atom known new-whole old-whole) ciphers.lengths
      ciphers.gives ciphers.undoes old-whole in
      record { keeps = runs.keeps; undone = runs.undone }

module _ {C : Type 0} (sector : C → ℕ) (seal unseal : C → ℕ → List ℕ → List ℕ)
    (ciphers : AreCiphers sector seal unseal) (layout : Layout) (before after : Worker C)
    (old new : State (Keys C))
    (of : IsOf sector (seals_in seal unseal before) layout before old) where
  abbrev seals : Seals
  seals = seals_in seal unseal before

  runs : SealRuns before.site.atom seals
  runs = new-runs sector seal unseal ciphers before of.working

  back : OldRuns before.site.atom seals
  back = old-runs sector seal unseal ciphers before of.working

  abbrev Answered : Worked → Type 0
  Answered worked =
      WorkStep (reading_of before.loaded.valid.sizes) seals old new worked

  goes-by : (step : Stepped) → Goes seals old.disk new.disk before after step
      → Becomes seals layout after old new (Ok step) → Answered works.stepped
  goes-by step (steps.begins at call to) becomes =
      works.begins (begins-on sector seals layout before after old new of runs becomes at call to)
  goes-by step (steps.reads_first at call read) becomes =
      works.steps
      (reads-first-on sector seals layout before after old new of runs becomes at call read)
  goes-by step (steps.saves_first at tells call headers are begun to) becomes =
      works.steps
      (saves-first-on sector seals layout before after old new of runs becomes at tells call headers
      are to)
  goes-by step (steps.reads done headers at call read) becomes =
      works.steps
      (reads-on sector seals layout before after old new of runs becomes done headers at call read)
  goes-by step (steps.saves done headers at tells call to) becomes =
      works.steps
      (saves-on sector seals layout before after old new of runs becomes done headers at tells call
      to)
  goes-by step (steps.keeps headers at call to) becomes =
      works.steps
      (keeps-on sector seals layout before after old new of runs becomes headers at call to)
  goes-by step (steps.opens headers commit at call on far to) becomes =
      works.steps
      (opens-on sector seals layout before after old new of runs becomes headers commit at call on
      far to)
  goes-by step (steps.opened headers commit at call on last to) becomes =
      works.opens_zone
      (opened-on sector seals layout before after old new of runs becomes headers commit at call on
      last to)
  goes-by step (steps.reads_again done headers at call read) becomes =
      works.steps
      (reads-again-on sector seals layout before after old new of runs becomes done headers at call
      read)
  goes-by step (steps.writes done headers at call read) becomes =
      works.steps
      (writes-on sector seals layout before after old new of runs becomes done headers at call read)
  goes-by step (steps.settles headers at call to) becomes =
      works.steps
      (settles-on sector seals layout before after old new of runs becomes headers at call to)
  goes-by step (steps.moves headers commit at call on far to) becomes =
      works.steps
      (moves-on sector seals layout before after old new of runs becomes headers commit at call on
      far to)
  goes-by step (steps.ends headers at call last has) becomes =
      works.ends_zone
      (ends-on sector seals layout before after old new of runs becomes headers at call last has)
  goes-by step (steps.finishes ending commit at are call on to) becomes =
      works.concludes
      (finishes-on sector seals layout before after old new of becomes ending commit at are call on
      to)
  goes-by step (steps.finishes_on ending commit at call on far to) becomes =
      works.steps
      (finishes-more sector seals layout before after old new of becomes ending commit at call on far
      to)
  goes-by step (steps.finished ending commit at call on last to) becomes =
      works.ends_zone
      (finished-on sector seals layout before after old new of becomes ending commit at call on last
      to)
  goes-by step (steps.wipes done ending at call to) becomes =
      works.wipes (wipes-on sector seals layout before after old new of becomes done ending at call to)
  goes-by step (steps.rests ending at call to) becomes =
      works.wiped (rests-on sector seals layout before after old new of becomes ending at call to)

  -- one that isn't made is hindered
  refuses-by : (fault : ZoneFault)
      → IsUnmade before.loaded 2 (IsToCome before.loaded (count_of before.site)) fault
      → before.next ≡ next.SaveFirst → new.disk ≡ old.disk
      → IsHalted before after next.SaveFirst GivenUp
      → Leaves old new (work_of seals layout after) after.next after.halted
      → Answered (answer_of (Err fault))
  refuses-by faults.Device unmade at same stop leaves = absurd unmade
  refuses-by (faults.DigestClash block digest) unmade at same stop leaves = absurd unmade
  refuses-by (faults.SeqEnd left needed) unmade at same stop leaves =
      works.is_hindered (works.no_number left needed)
      (hindered-on sector seals layout before after old new of runs back leaves
      (works.no_number left needed) tt
      (lacks-number before.loaded of.stored 2 left needed unmade.0 unmade.1 unmade.2) at same stop)
  refuses-by (faults.JsonFull len limit) (meta, comes, length_is, limit_is, longer, enough) at same
      stop leaves =
      works.is_hindered (works.no_room len limit)
      (hindered-on sector seals layout before after old new of runs back leaves
      (works.no_room len limit) tt
      (lacks-room before.loaded of.stored 2 len limit limit_is longer enough) at same stop)
  refuses-by faults.Memory unmade at same stop leaves =
      works.is_hindered works.no_memory
      (hindered-on sector seals layout before after old new of runs back leaves works.no_memory tt tt
      at same stop)

  unmade-by : (fault : ZoneFault) → IsUnmade before.loaded 1 (IsFinishing before.loaded) fault
      → before.next ≡ next.Finish → IsHalted before after next.Finish GivenUp
      → Leaves old new (work_of seals layout after) after.next after.halted
      → Answered (answer_of (Err fault))
  unmade-by faults.Device unmade at stop leaves = absurd unmade
  unmade-by (faults.DigestClash block digest) unmade at stop leaves = absurd unmade
  unmade-by (faults.SeqEnd left needed) unmade at stop leaves =
      works.is_unfinished (works.no_number left needed)
      (unfinished-on sector seals layout before after old new of runs back leaves
      (works.no_number left needed)
      (lacks-number before.loaded of.stored 1 left needed unmade.0 unmade.1 unmade.2) at stop)
  unmade-by (faults.JsonFull len limit) (meta, comes, length_is, limit_is, longer, enough) at stop
      leaves =
      works.is_unfinished (works.no_room len limit)
      (unfinished-on sector seals layout before after old new of runs back leaves
      (works.no_room len limit)
      (lacks-room before.loaded of.stored 1 len limit limit_is longer enough) at stop)
  unmade-by faults.Memory unmade at stop leaves =
      works.is_unfinished works.no_memory
      (unfinished-on sector seals layout before after old new of runs back leaves works.no_memory tt at
      stop)

  stops-by : (fault : ZoneFault) → Stops seals old.disk new.disk before after fault
      → Becomes seals layout after old new (Err fault) → Answered (answer_of (Err fault))
  stops-by fault (steps.clashes_first block digest at clash same stop) leaves =
      works.is_hindered (works.clashes block digest)
      (clashes-first-on sector seals layout before after old new of runs back leaves block digest at
      clash same stop)
  stops-by fault (steps.clashes done headers block digest at clash same stop) leaves =
      works.is_hindered (works.clashes block digest)
      (clashes-on sector seals layout before after old new of runs back leaves done headers block
      digest at clash same stop)
  stops-by fault (steps.refuses _ at tells unmade same stop) leaves =
      refuses-by fault unmade at same stop leaves
  stops-by fault (steps.begin_fails at call stop) leaves =
      works.faults
      (begin-fails-on sector seals layout before after old new of runs back leaves at call stop)
  stops-by fault (steps.read_first_fails at call stop) leaves =
      works.misses_part
      (read-first-fails-on sector seals layout before after old new of runs back leaves at call stop)
  stops-by fault (steps.save_first_fails at tells call stop) leaves =
      works.faults
      (save-first-fails-on sector seals layout before after old new of runs back leaves at tells call
      stop)
  stops-by fault (steps.read_fails done headers at call stop) leaves =
      works.misses_part
      (read-fails-on sector seals layout before after old new of runs back leaves done headers at
      call stop)
  stops-by fault (steps.save_fails done headers at tells call stop) leaves =
      works.faults
      (save-fails-on sector seals layout before after old new of runs back leaves done headers at
      tells call stop)
  stops-by fault (steps.keep_fails headers at call stop) leaves =
      works.faults
      (keep-fails-on sector seals layout before after old new of runs back leaves headers at call
      stop)
  stops-by fault (steps.open_fails headers commit at call broken stop) leaves =
      works.faults
      (open-fails-on sector seals layout before after old new of runs back leaves headers commit at
      call broken stop)
  stops-by fault (steps.read_again_fails done headers at call stop) leaves =
      works.faults
      (read-again-fails-on sector seals layout before after old new of runs back leaves done headers
      at call stop)
  stops-by fault (steps.write_fails done headers at call stop kept) leaves =
      works.faults
      (write-fails-on sector seals layout before after old new of runs back leaves done headers at
      call stop kept)
  stops-by fault (steps.settle_fails headers at call stop) leaves =
      works.faults
      (settle-fails-on sector seals layout before after old new of runs back leaves headers at call
      stop)
  stops-by fault (steps.move_fails headers commit at call broken stop) leaves =
      works.faults
      (move-fails-on sector seals layout before after old new of runs back leaves headers commit at
      call broken stop)
  stops-by fault (steps.finish_refuses _ at unmade same stop) leaves =
      unmade-by fault unmade at stop leaves
  stops-by fault (steps.finish_fails ending commit at are call broken stop) leaves =
      works.misses_conclusion
      (finish-fails-on sector seals layout before after old new of runs back leaves ending commit at
      are call broken stop)
  stops-by fault (steps.end_fails ending commit at call broken stop) leaves =
      works.faults
      (end-fails-on sector seals layout before after old new of runs back leaves ending commit at
      call broken stop)
  stops-by fault (steps.wipe_fails done ending at call stop) leaves =
      works.misses_wipe
      (wipe-fails-on sector seals layout before after old new of runs back leaves done ending at call
      stop)
  stops-by fault (steps.rest_fails ending at call stop) leaves =
      works.faults
      (rest-fails-on sector seals layout before after old new of runs back leaves ending at call
      stop)

pub works-by : {C : Type 0} (sector : C → ℕ) (seal unseal : C → ℕ → List ℕ → List ℕ)
    → AreCiphers sector seal unseal → (layout : Layout) (before after : Worker C)
    (old new : State (Keys C)) (result : Result Stepped ZoneFault)
    → IsOf sector (seals_in seal unseal before) layout before old
    → Steps (seals_in seal unseal before) old.disk new.disk before after result
    → Becomes (seals_in seal unseal before) layout after old new result
    → WorkStep (reading_of before.loaded.valid.sizes) (seals_in seal unseal before) old new
    (answer_of result)
works-by sector seal unseal ciphers layout before after old new (Ok step) of made becomes =
    goes-by sector seal unseal ciphers layout before after old new of step made becomes
works-by sector seal unseal ciphers layout before after old new (Err fault) of made becomes =
    stops-by sector seal unseal ciphers layout before after old new of fault made becomes

-- ---- a part behind the first one is one of several
module _ {C : Type 0} (sector : C → ℕ) (before after : Worker C) (working : IsWorking sector before)
  where
    later-next : (w : Worker C) → after ≡ w → IsLater w.site w.next → IsLater after.site after.next
    later-next w to is = subst (λ (v : Worker C). IsLater v.site v.next) (sym to) is

    behind-save : (done : ℕ) (headers : Headers) → part_at before.site 0 ≤ done + part_at before.site done
        → IsLater before.site (after_save before.site done headers)
    behind-save done headers far =
        go (done + part_at before.site done == count_of before.site)
      where
        go : (b : Bool) → IsLater before.site
            (cond b (next.Keep headers) (next.Read (done + part_at before.site done) headers))
        go true = tt
        go false = far

    behind-open : (headers : Headers) → IsLater before.site (after_open before.site headers)
    behind-open headers = go (part_at before.site 0 == count_of before.site)
      where
        go : (b : Bool) → IsLater before.site (cond b (next.Write 0 headers) (next.ReadAgain 0 headers))
        go true = tt
        go false = tt

    behind-write : (done : ℕ) (headers : Headers)
        → IsLater before.site (after_write before.site done headers)
    behind-write done headers = go (done + part_at before.site done == count_of before.site)
      where
        go : (b : Bool) → IsLater before.site
            (cond b (next.Settle headers) (next.ReadAgain (done + part_at before.site done) headers))
        go true = tt
        go false = tt

    behind-wipe : (done : ℕ) (ending : Ending) → IsLater before.site (after_wipe done ending)
    behind-wipe done ending = go (nat_lt done (length ending.wipes.areas))
      where
        go : (b : Bool) → IsLater before.site (cond b (next.Wipe done ending) (next.Rest ending))
        go true = tt
        go false = tt

    first-later : (site : Site) → IsLater site (first_call site)
    first-later site = go (count_of site == 0)
      where
        go : (b : Bool) → IsLater site (cond b next.Finish next.Begin)
        go true = tt
        go false = tt

    pub parts-by : (seals : Seals) (old new : Device) (step : Stepped)
        → IsLater before.site before.next → Goes seals old new before after step
        → IsLater after.site after.next
    parts-by seals old new step later (steps.begins at call to) = later-next _ to tt
    parts-by seals old new step later (steps.reads_first at call read) = later-next _ read.is tt
    parts-by seals old new step later (steps.saves_first at tells call headers are begun to) =
        later-next _ to (behind-save 0 headers (omega arith))
    parts-by seals old new step later (steps.reads done headers at call read) =
        later-next _ read.is (subst (IsLater before.site) at later)
    parts-by seals old new step later (steps.saves done headers at tells call to) =
        later-next _ to (behind-save done headers
        (let far : part_at before.site 0 ≤ done = subst (IsLater before.site) at later in
        omega (arith, far)))
    parts-by seals old new step later (steps.keeps headers at call to) = later-next _ to tt
    parts-by seals old new step later (steps.opens headers commit at call on far to) =
        later-next _ to tt
    parts-by seals old new step later (steps.opened headers commit at call on last to) =
        later-next _ to (behind-open _)
    parts-by seals old new step later (steps.reads_again done headers at call read) =
        later-next _ read.is tt
    parts-by seals old new step later (steps.writes done headers at call read) =
        later-next _ read.is (behind-write done headers)
    parts-by seals old new step later (steps.settles headers at call to) = later-next _ to tt
    parts-by seals old new step later (steps.moves headers commit at call on far to) =
        later-next _ to tt
    parts-by seals old new step later (steps.ends headers at call last has) =
        subst (IsLater after.site) (sym has.next) (first-later after.site)
    parts-by seals old new step later (steps.finishes ending commit at are call on to) =
        later-next _ to tt
    parts-by seals old new step later (steps.finishes_on ending commit at call on far to) =
        later-next _ to tt
    parts-by seals old new step later (steps.finished ending commit at call on last to) =
        later-next _ to (behind-wipe 0 _)
    parts-by seals old new step later (steps.wipes done ending at call to) =
        later-next _ to (behind-wipe (done + 1) ending)
    parts-by seals old new step later (steps.rests ending at call to) = later-next _ to tt
