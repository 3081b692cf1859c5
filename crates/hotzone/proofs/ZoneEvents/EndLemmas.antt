-- The steps of the end of a conversion.
use Rattle.std.proofs.Common.{◌≡◌, ◌≢◌, ◌∙◌, ℕ, zero, suc, ◌+◌, ◌*◌, ◌/◌, ◌%◌}
use Rattle.std.proofs.Common.{◌<◌, ◌≤◌, nat_lt, Bool, true, false, List, [], ◌∷◌, length, drop, map}
use Rattle.std.proofs.Common.{replicate, Result, Some, None, cond, refl, sym, ap, ap₂, subst, arith}
use Rattle.std.specs.Prelude.{slice_index_or}
use Rattle.std.proofs.lemmas.Bool.{ltb-false}
use Rattle.std.proofs.lemmas.List.{length-replicate}
use Rattle.std.proofs.lemmas.Nat.{div-add-mod'}
use Rattle.base_terms.specs.declared.failed.Failed.{Failed}
use Rattle.crash_laws.specs.HeaderAreas.Areas.{Area as DiskArea}
use Rattle.crash_laws.specs.HeaderAreas.Commits.{first_written, next_stage}
use Rattle.crash_laws.specs.HeaderAreas.Headers.{Header, Layout}
use Rattle.base_terms.specs.declared.disk_sizes.Sizes.{Sizes}
use Rattle.crash_laws.specs.HotZones.Zones.{moving, saving}
use Rattle.hotzone.proofs.HeadingLemmas.{same-self}
use Rattle.hotzone.specs.Endings.{IsEnding, WipesArea, after_wipe, area_at}
use Rattle.hotzone.specs.Known.{header_by}
use Rattle.hotzone.specs.Steps.{Commits, IsCommitted, ended_by}
use Rattle.hotzone.specs.Workers.{HasEnding}
use Rattle.hotzone.specs.declared.worker.Ending.{Ending}
use Rattle.hotzone.specs.declared.worker.NextCall.{NextCall}
use Rattle.hotzone.specs.declared.worker.NextCall.TheVariants.{Finish, End, Wipe, Rest, Over}
use Rattle.hotzone.specs.declared.worker.Wipes.{Wipes as Areas}
use Rattle.hotzone.specs.declared.worker.Worker.{Worker}
use Rattle.luks_store.specs.Copying.Held.{primary_of, secondary_of, stage_in}
use Rattle.luks_store.specs.Copying.Seen.{stage_of}
use Rattle.luks_store.specs.Copying.Steps.{CopyCall, next_of}
use Rattle.luks_store.specs.declared.header_copies.commit.Stage.TheVariants.{SecondWritten, Ended}
use Rattle.luks_rules.specs.declared.areas.Area.{Area}
use Rattle.luks_store.specs.declared.commit.Prepared.{Prepared}
use Rattle.sector_disk.specs.Devices.{Device, SyncCall, WriteCall, succeeded}
use Rattle.volume_machine.specs.Courses.{IsAtRest}
use Rattle.volume_machine.specs.Seals.{Seals}
use Rattle.volume_machine.specs.States.{State}
use Rattle.volume_machine.specs.WorkCalls.{Puts, PutsCopy}
use Rattle.volume_machine.specs.WorkCalls as calls
use Rattle.volume_machine.specs.WorkSteps.{Concludes, EndsZone, IsWiped, Proceeds, StepsOn, Wipes}
use Rattle.volume_machine.specs.WorkSteps.{closing, zeros_of}
use Rattle.volume_machine.specs.Works.{Work, complete, resting, wanted, wiping}
use Rattle.volume_machine.specs.declared.keys.Keys.{Keys}
use Rattle.hotzone.proofs.ZoneEvents.CallLemmas.{IsSized, commit-put, sized-next, stage-far}
use Rattle.hotzone.proofs.ZoneEvents.CallLemmas.{stage-on}
use Rattle.hotzone.proofs.ZoneEvents.ConcludeLemmas.{ending-kept, may-conclude}
use Rattle.hotzone.proofs.ZoneEvents.HereLemmas.{becoming, course-by, early-header, early-here}
use Rattle.hotzone.proofs.ZoneEvents.HereLemmas.{early-map}
use Rattle.hotzone.proofs.ZoneEvents.HereLemmas.{fits-by, last-atom, needs, site-atom, staying}
use Rattle.hotzone.proofs.ZoneEvents.HereLemmas.{was-by}
use Rattle.hotzone.proofs.ZoneEvents.TurnLemmas.{same-headers}
use Rattle.hotzone.specs.ZoneEvents.Heads.{header_on}
use Rattle.hotzone.specs.ZoneEvents.Promises.{IsOf}
use Rattle.hotzone.specs.ZoneEvents.Readings.{map_of, reading_of}
use Rattle.hotzone.specs.ZoneEvents.Tellings.{area_on}
use Rattle.hotzone.specs.ZoneEvents.Works.{areas_behind, map_in, work_by, work_of}

-- ---- the areas that are left
-- those from one on begin with it
drop-one : (areas : List Area) (done : ℕ) (none : Area) → done < length areas
    → drop done areas ≡ slice_index_or areas done none ∷ drop (done + 1) areas
drop-one [] done none below = absurd (omega (arith, below))
drop-one (a ∷ areas) zero none below = refl
drop-one (a ∷ areas) (suc done) none below =
    drop-one areas done none (omega (arith, below))
    ∙ ap (λ n. slice_index_or areas done none ∷ drop n (a ∷ areas))
    (let e : suc (done + 1) ≡ suc done + 1 = omega arith in e)

drop-none : (areas : List Area) (done : ℕ) → length areas ≤ done → drop done areas ≡ []
drop-none [] zero far = refl
drop-none [] (suc done) far = refl
drop-none (a ∷ areas) zero far = absurd (omega (arith, far))
drop-none (a ∷ areas) (suc done) far = drop-none areas done (omega (arith, far))

-- ---- what comes behind so many areas
pub behind-wipe : {C : Type 0} (seals : Seals) (layout : Layout) (w : Worker C) (done : ℕ)
    (ending : Ending)
    → work_by seals layout (record w { next = after_wipe done ending }) (after_wipe done ending) None
    ≡ resting layout (header_by ending.commit) (wiping (areas_behind w.site.atom done ending))
unfolding work_by
behind-wipe seals layout w done ending =
    go (after_wipe done ending) (nat_lt done (length ending.wipes.areas)) refl
  where
    go : (now : NextCall) (b : Bool) → nat_lt done (length ending.wipes.areas) ≡ b
        → work_by seals layout (record w { next = now })
        (cond b (Wipe done ending) (Rest ending)) None
        ≡ resting layout (header_by ending.commit) (wiping (areas_behind w.site.atom done ending))
    go now true is = refl
    go now false is =
        ap (λ xs. resting layout (header_by ending.commit) (wiping (map (area_on w.site.atom) xs)))
        (sym (drop-none ending.wipes.areas done
        (ltb-false done (length ending.wipes.areas) is)))

-- ---- zeros are written to one
pub area-zeros : (atom : ℕ) (a : Area) → a.size % atom ≡ 0
    → zeros_of atom (area_on atom a) ≡ replicate a.size 0
area-zeros atom a whole =
    let cut = div-add-mod' a.size atom in
    ap (λ n. replicate n 0) (let e : a.size / atom * atom ≡ a.size = omega (arith, cut, whole) in e)

wipe-put : (wipes : Areas) (done atom : ℕ) (old new : Device)
    (result : Result (Unit {0}) Failed) → atom ≡ old.size
    → (area_at wipes done).size % atom ≡ 0 → WipesArea done wipes old new result
    → Puts atom (area_on atom (area_at wipes done)).start (area_on atom (area_at wipes done)).count
    (zeros_of atom (area_on atom (area_at wipes done))) old new result
wipe-put wipes done atom old new result is whole call = record {
  call = subst (λ text. WriteCall atom ((area_at wipes done).offset / atom) text old new result)
      (sym (area-zeros atom (area_at wipes done) whole))
      (subst (λ n. WriteCall n ((area_at wipes done).offset / n)
      (replicate (area_at wipes done).size 0) old new result) (sym is) call);
  size = length-replicate (((area_at wipes done).size / atom) * atom) 0;
}

-- ---- the end isn't at rest
closing-on : (layout : Layout) (header last : Header (List ℕ)) (stage : _) (areas : List DiskArea)
    → IsAtRest (closing layout header last stage areas) → ⊥
closing-on layout header last stage areas is =
    let bad : moving stage ≡ saving 0 = ap (λ (k : Work). k.phase) is in cc

module _ {C : Type 0} (sector : C → ℕ) (seals : Seals) (layout : Layout) (before : Worker C)
    (old : State (Keys C)) (of : IsOf sector seals layout before old) where
  -- the commit of the finished header
  pub ending-sized : (ending : Ending) → HasEnding before.loaded ending
      → IsSized before.loaded.copies.used.header.hdr_size ending.commit
  ending-sized ending has =
      sized-next before.loaded has.1.meta has.0 ending.commit of.stored has.1.commit has.2

  -- the area that comes next
  pub area-whole : (done : ℕ) (ending : Ending) → done < length ending.wipes.areas
      → HasEnding before.loaded ending
      → (area_at ending.wipes done).size % before.site.atom ≡ 0
  area-whole done ending below has =
      let kept = ending-kept before.loaded of.ruled (record ending { commit = has.0 }) has.1 in
      subst (λ n. (area_at ending.wipes done).size % n ≡ 0)
      (of.sizes.atom ∙ sym (site-atom sector seals layout before old of))
      (kept done (record { offset = 0; size = 0 }) below).size

  pub last-map : (done : ℕ) (ending : Ending) → before.next ≡ Wipe done ending
      → old.map ≡ map_of before.loaded.valid.sizes (header_by ending.commit).means
  unfolding work_by
  last-map done ending at =
      (course-by sector seals layout before old of (Wipe done ending) at).map

  pub rest-map : (ending : Ending) → before.next ≡ Rest ending
      → old.map ≡ map_of before.loaded.valid.sizes (header_by ending.commit).means
  unfolding work_by
  rest-map ending at = (course-by sector seals layout before old of (Rest ending) at).map

  -- so many areas are left
  pub areas-are : (done : ℕ) (ending : Ending) → done < length ending.wipes.areas
      → areas_behind before.site.atom done ending
      ≡ area_on before.site.atom (area_at ending.wipes done)
      ∷ areas_behind before.site.atom (done + 1) ending
  areas-are done ending below =
      ap (map (area_on before.site.atom))
      (drop-one ending.wipes.areas done (record { offset = 0; size = 0 }) below)

  pub wiping-was : (done : ℕ) (ending : Ending) → before.next ≡ Wipe done ending
      → done < length ending.wipes.areas
      → old.work ≡ Some (resting layout (header_by ending.commit)
      (wiping (area_on before.site.atom (area_at ending.wipes done)
      ∷ areas_behind before.site.atom (done + 1) ending)))
  unfolding work_by
  wiping-was done ending at below =
      was-by sector seals layout before old of (Wipe done ending) at
      ∙ ap (λ xs. Some (resting layout (header_by ending.commit) (wiping xs)))
      (areas-are done ending below)

  pub wipe-call : (done : ℕ) (ending : Ending) (new : Device) (result : Result (Unit {0}) Failed)
      → before.next ≡ Wipe done ending → done < length ending.wipes.areas
      → HasEnding before.loaded ending
      → WipesArea done ending.wipes old.disk new result
      → Puts old.map.atom (area_on before.site.atom (area_at ending.wipes done)).start
      (area_on before.site.atom (area_at ending.wipes done)).count
      (zeros_of old.map.atom (area_on before.site.atom (area_at ending.wipes done))) old.disk new
      result
  wipe-call done ending new result at below has call =
      let atom : before.site.atom ≡ old.map.atom =
      site-atom sector seals layout before old of
      ∙ sym (last-atom sector seals layout before old of ending has (last-map done ending at)) in
      subst (λ n. Puts n (area_on before.site.atom (area_at ending.wipes done)).start
      (area_on before.site.atom (area_at ending.wipes done)).count
      (zeros_of n (area_on before.site.atom (area_at ending.wipes done))) old.disk new result) atom
      (wipe-put ending.wipes done before.site.atom old.disk new result
      (site-atom sector seals layout before old of) (area-whole done ending below has) call)

-- ---- the steps
module _ {C : Type 0} (sector : C → ℕ) (seals : Seals) (layout : Layout) (before after : Worker C)
    (old new : State (Keys C)) (of : IsOf sector seals layout before old)
    (becomes : Proceeds old new (map_in seals layout after) (work_of seals layout after) false)
  where
    abbrev sizes : Sizes
    sizes = before.loaded.valid.sizes

    pub finishes-on : (ending : Ending) (commit : Prepared) → before.next ≡ Finish
        → IsEnding before.loaded ending → Commits ending.commit old.disk new.disk succeeded
        → IsCommitted ending.commit commit
        → after ≡ record before { next = End (ended_by ending commit) }
        → Concludes (reading_of sizes) old new
    unfolding work_by
    finishes-on ending commit at are call on to =
        let map = early-map sector seals layout before old of Finish at tt in
        let here = early-here sector seals layout before old of Finish at tt in
        let none = needs sector seals layout before old of Finish at in
        let was = was-by sector seals layout before old of Finish at in
        let areas = areas_behind before.site.atom 0 ending in
        record {
          layout = layout;
          header = header_on before.loaded;
          next = header_by ending.commit;
          areas = areas;
          may = may-conclude sector layout before old of.working of.stored of.ruled map here.laid
              (fits-by sector seals layout before old of map) none ending are of.salts.0 (of.free at) was of.unbroken;
          call = subst (λ s. PutsCopy old.map.atom layout (header_by ending.commit) s old.disk
              new.disk succeeded) (ap stage_of are.begun)
              (commit-put ending.commit before.loaded.copies.used.header.hdr_size old.map.atom
              old.disk.atoms layout old.disk new.disk succeeded here.laid here.atom here.some
              (ending-sized sector seals layout before old of ending
              (ending.commit, are, same-self ending.commit)) call);
          goes = staying seals layout after old new becomes
              (record before { next = End (ended_by ending commit) }) to of.runs
              (End (ended_by ending commit)) refl
              (closing layout (header_on before.loaded) (header_by ending.commit) first_written areas)
              (ap₂ (λ h s. closing layout (header_on before.loaded) h s areas)
              (sym (same-headers ending.commit commit on.same))
              (ap stage_of (on.stage ∙ ap next_of are.begun))) map;
        }

    pub finishes-more : (ending : Ending) (commit : Prepared) → before.next ≡ End ending
        → Commits ending.commit old.disk new.disk succeeded → IsCommitted ending.commit commit
        → stage_in ending.commit.copies ≢ SecondWritten
        → after ≡ record before { next = End (ended_by ending commit) }
        → StepsOn (reading_of sizes) seals old new
    unfolding work_by
    finishes-more ending commit at call on far to =
        let map = early-map sector seals layout before old of (End ending) at tt in
        let here = early-here sector seals layout before old of (End ending) at tt in
        let header = early-header sector seals layout before old of (End ending) at tt in
        let had = needs sector seals layout before old of (End ending) at in
        let stage = stage_in ending.commit.copies in
        let ended : stage ≢ Ended = had.1 of.runs in
        let areas = areas_behind before.site.atom 0 ending in
        record {
          work = closing layout (header_on before.loaded) (header_by ending.commit) (stage_of stage)
              areas;
          was = was-by sector seals layout before old of (End ending) at;
          unbroken = of.unbroken;
          at_hand = closing-on layout (header_on before.loaded) (header_by ending.commit)
              (stage_of stage) areas;
          opened = header_on before.loaded;
          moved = header_by ending.commit;
          phase = moving (next_stage (stage_of stage));
          part = wanted 0;
          names = record {
            stay = λ other. (refl, refl);
            is = (
              header,
              (course-by sector seals layout before old of (End ending) at).is_next,
            );
            leads = λ first other. absurd first;
            keeps = λ first other. absurd first;
          };
          step = calls.moves (stage_of stage) (wanted 0) (stage-far stage far ended)
              (commit-put ending.commit before.loaded.copies.used.header.hdr_size old.map.atom
              old.disk.atoms layout old.disk new.disk succeeded here.laid here.atom here.some
              (ending-sized sector seals layout before old of ending had.0) call);
          goes = staying seals layout after old new becomes
              (record before { next = End (ended_by ending commit) }) to of.runs
              (End (ended_by ending commit)) refl
              (closing layout (header_on before.loaded) (header_by ending.commit)
              (next_stage (stage_of stage)) areas)
              (ap₂ (λ h s. closing layout (header_on before.loaded) h s areas)
              (sym (same-headers ending.commit commit on.same))
              (ap stage_of on.stage ∙ stage-on stage far ended)) map;
        }

    pub finished-on : (ending : Ending) (commit : Prepared) → before.next ≡ End ending
        → Commits ending.commit old.disk new.disk succeeded → IsCommitted ending.commit commit
        → stage_in ending.commit.copies ≡ SecondWritten
        → after ≡ record before { next = after_wipe 0 (ended_by ending commit) }
        → EndsZone (reading_of sizes) old new
    unfolding work_by
    finished-on ending commit at call on last to =
        let areas = areas_behind before.site.atom 0 ending in
        record {
          work = closing layout (header_on before.loaded) (header_by ending.commit)
              (stage_of (stage_in ending.commit.copies)) areas;
          was = was-by sector seals layout before old of (End ending) at;
          unbroken = of.unbroken;
          last = ap stage_of last;
          call = subst (λ s. CopyCall s (primary_of ending.commit.copies)
              (secondary_of ending.commit.copies) ending.commit.header.hdr_size old.disk new.disk
              succeeded) last call;
          goes = becoming seals layout after old new becomes
              (record before { next = after_wipe 0 (ended_by ending commit) }) to of.runs
              (after_wipe 0 (ended_by ending commit)) refl
              (resting layout (header_by ending.commit) (wiping areas))
              (behind-wipe seals layout before 0 (ended_by ending commit)
              ∙ ap (λ h. resting layout h (wiping areas))
              (sym (same-headers ending.commit commit on.same)));
        }

    pub wipes-on : (done : ℕ) (ending : Ending) → before.next ≡ Wipe done ending
        → WipesArea done ending.wipes old.disk new.disk succeeded
        → after ≡ record before { next = after_wipe (done + 1) ending } → Wipes old new
    unfolding work_by
    wipes-on done ending at call to =
        let had = needs sector seals layout before old of (Wipe done ending) at in
        record {
          layout = layout;
          header = header_by ending.commit;
          area = area_on before.site.atom (area_at ending.wipes done);
          areas = areas_behind before.site.atom (done + 1) ending;
          was = wiping-was sector seals layout before old of done ending at had.0;
          unbroken = of.unbroken;
          call = wipe-call sector seals layout before old of done ending new.disk succeeded at had.0
              had.1 call;
          goes = staying seals layout after old new becomes
              (record before { next = after_wipe (done + 1) ending }) to of.runs
              (after_wipe (done + 1) ending) refl
              (resting layout (header_by ending.commit)
              (wiping (areas_behind before.site.atom (done + 1) ending)))
              (behind-wipe seals layout before (done + 1) ending)
              (last-map sector seals layout before old of done ending at);
        }

    pub rests-on : (ending : Ending) → before.next ≡ Rest ending
        → SyncCall old.disk new.disk succeeded → after ≡ record before { next = Over ending }
        → IsWiped old new
    unfolding work_by
    rests-on ending at call to =
        record {
          layout = layout;
          header = header_by ending.commit;
          was = was-by sector seals layout before old of (Rest ending) at;
          unbroken = of.unbroken;
          call = call;
          goes = staying seals layout after old new becomes (record before { next = Over ending }) to
              of.runs (Over ending) refl (resting layout (header_by ending.commit) complete) refl
              (rest-map sector seals layout before old of ending at);
        }
