-- A conversion stands so behind each step that goes on.
use Rattle.std.proofs.Common.{Contains, List, Some, [], ap, append_assoc, arith, inl, inr, refl}
use Rattle.std.proofs.Common.{subst, sym, suc, zero, ℕ, ◌*◌, ◌++◌, ◌<◌, ◌∙◌, ◌∷◌, ◌≡◌, ◌↔◌, ◌⊎◌}
use Rattle.std.proofs.Common.{length}
use Rattle.std.proofs.lemmas.List.{append-nil}
use Rattle.segment_map.specs.declared.Side.TheVariants.{New}
use Rattle.volume_machine.specs.Pieces.{side_in}
use Rattle.volume_machine.specs.Seals.{Seals}
use Rattle.volume_machine.specs.States.{State}
use Rattle.crash_laws.specs.HeaderAreas.Areas.{Area}
use Rattle.crash_laws.specs.HeaderAreas.Commits.{Stage, first_written, next_stage, second_written}
use Rattle.crash_laws.specs.HeaderAreas.Headers.{Header, Layout}
use Rattle.crash_laws.specs.HotZones.Calls.{IsFirst}
use Rattle.crash_laws.specs.HotZones.Zones.{Phase, moving, writing}
use Rattle.sector_disk.specs.Devices.{Device}
use Rattle.volume_laws.specs.Converting.{IsInOrder}
use Rattle.volume_laws.proofs.HoldersKept.{atom_kept, atoms_kept, ends_turned}
use Rattle.volume_machine.specs.Deeds.{Deed, state_after}
use Rattle.volume_machine.specs.Readings.{Reading}
use Rattle.volume_machine.specs.WorkCalls as calls
use Rattle.volume_machine.specs.WorkSteps.{AreAllOn, Begins, Concludes, EndsZone, IsWiped, OpensZone}
use Rattle.volume_machine.specs.WorkSteps.{StepsOn, Wipes, WorkStep, Worked, awaits, begins, closing}
use Rattle.volume_machine.specs.WorkSteps.{concludes, ends, ends_zone, faults, is_hindered}
use Rattle.volume_machine.specs.WorkSteps.{is_unfinished, leaves_blocks, leaves_broken}
use Rattle.volume_machine.specs.WorkSteps.{misses_conclusion, misses_part, misses_wipe, opens_zone}
use Rattle.volume_machine.specs.WorkSteps.{queues, stays, stepped, steps, takes, wiped, wipes}
use Rattle.volume_machine.specs.Works.{Part, Work, advanced, complete, converting, named, resting}
use Rattle.volume_machine.specs.Works.{wanted, wiping}
use Rattle.volume_laws.specs.WorkerRuns.Conversions.{IsZeroed}
use Rattle.volume_laws.proofs.WorkerRuns.HeadersKept.{begins_keeps, ends_keeps, opens_keeps, steps_keep}
use Rattle.volume_laws.proofs.WorkerRuns.Stages.{IsClosing, IsWipingOn, Stands, at_hand_at}
use Rattle.volume_laws.proofs.WorkerRuns.Stages.{closes, closing_not_opening, converting_at, converts, is_over}
use Rattle.volume_laws.proofs.WorkerRuns.Stages.{last_not_rest, opening_not_rest, wipes_on, wiping_at}
use Rattle.volume_laws.proofs.WorkerRuns.Wiping.{area_wiped, certain_behind}

-- ---- a step of the commit of the last header
pub record IsNextStage (phase : Phase) (part next : Part) : Type 0 where
  pub stage : Stage
  pub is : phase ≡ moving stage
  pub same : next ≡ part

pub closing_step : {seals : Seals} {atom : ℕ} {work : Work} {old new : Device} {phase next : Phase}
    {part next_part : Part} (stage : Stage) → phase ≡ moving stage
    → calls.ZoneStep seals atom work old new phase part next next_part
    → IsNextStage next part next_part
closing_step {atom = atom} {work = work} stage at (calls.reads phase first count text is counted any long call) =
    absurd (subst (λ p. calls.IsNext atom work p first) at is)
closing_step stage at (calls.saves first count text saved it any call) = absurd (cc)
closing_step stage at (calls.keeps part call) = absurd (cc)
closing_step stage at (calls.opens other part goes call) = absurd (cc)
closing_step stage at (calls.writes n count text next any is call) = absurd (cc)
closing_step stage at (calls.settles part call) = absurd (cc)
closing_step stage at (calls.moves other part goes call) =
    record { stage = next_stage other; is = refl; same = refl }
closing_step stage at (calls.shifts n count text next any is within call) = absurd (cc)
closing_step stage at (calls.arrives part call) = absurd (cc)
closing_step stage at (calls.turns other part goes call) = absurd (cc)

pub same_closing : {work : Work} {opened moved before last : Header (List ℕ)} {phase : Phase}
    {part : Part} {layout : Layout} {stage later : Stage} {areas : List Area}
    → work ≡ closing layout before last stage areas → opened ≡ before → moved ≡ last
    → phase ≡ moving later → part ≡ wanted 0
    → advanced (named work opened moved) phase part ≡ closing layout before last later areas
same_closing is opens moves at of = rw (is, opens, moves, at, of) refl

-- ---- answers that go on, and lists of areas
abbrev pub GoesOnBy : Worked → Type 0
GoesOnBy stepped = Unit {0}
GoesOnBy (awaits lane) = Unit {0}
GoesOnBy _ = ⊥

pub contains_first : (area : Area) (areas : List Area) → Contains (area ∷ areas) area
contains_first area areas = (0, omega arith, refl)

pub contains_either : (area : Area) (areas : List Area) (other : Area) → Contains (area ∷ areas) other
    → (other ≡ area) ⊎ Contains areas other
contains_either area areas other (zero, below, is) = inl (sym is)
contains_either area areas other (suc k, below, is) = inr (k, omega (arith, below), is)

pub none_contained : (area : Area) → Contains [] area → ⊥
none_contained area (k, below, is) = omega (arith, below)

-- ---- the deeds and one more
state_after-push : {K : Type 0} (old : State K) (deeds : List (Deed K)) (one : Deed K)
    → state_after old (deeds ++ one ∷ []) ≡ one.after
unfolding state_after
state_after-push old [] one = refl
state_after-push old (first ∷ deeds) one = state_after-push first.after deeds one

module _ {K : Type 0} {reading : Reading} {layout : Layout} {first : Header (List ℕ)}
    {old : State K} {deeds : List (Deed K)} {mid new : State K} (order : IsInOrder reading mid)
    (stands : Stands reading layout first old deeds mid) (one : Deed K) (is : one.after ≡ new) where
  same_converting : {l : Layout} {h : Header (List ℕ)}
      → mid.work ≡ Some (resting l h converting) → new.work ≡ mid.work
      → Stands reading layout first old (deeds ++ one ∷ []) new
  same_converting was same = let (lay, keeps) = converting_at stands _ was refl in
      converts _ (same ∙ was) refl lay keeps

  begins_so : Begins reading mid new → Stands reading layout first old (deeds ++ one ∷ []) new
  begins_so it = let (lay, keeps) = converting_at stands _ it.was refl in
      converts it.work it.goes.work it.planned.progress (it.planned.layout_is ∙ lay)
      (begins_keeps mid new it keeps)

  closes_on : {seals : Seals} (it : StepsOn reading seals mid new)
      → IsClosing reading layout first mid it.work
      → Stands reading layout first old (deeds ++ one ∷ []) new
  closes_on it closing_so =
      let at : it.work.phase ≡ moving closing_so.stage = ap (λ w. w.phase) closing_so.is in
      let next = closing_step closing_so.stage at it.step in
      let stay = it.names.stay (λ at_first. subst IsFirst at at_first) in
      closes (advanced (named it.work it.opened it.moved) it.phase it.part) it.goes.work (record {
        before = closing_so.before;
        last = closing_so.last;
        stage = next.stage;
        areas = closing_so.areas;
        is = same_closing closing_so.is (stay.0 ∙ ap (λ w. w.zone.opened) closing_so.is)
            (stay.1 ∙ ap (λ w. w.zone.moved) closing_so.is) next.is
            (next.same ∙ ap (λ w. w.part) closing_so.is);
        says = closing_so.says;
        dropped = closing_so.dropped;
        converted = subst (λ m. AreAllOn m New) (sym it.goes.map_is) closing_so.converted;
      })

  steps_so : {seals : Seals} → StepsOn reading seals mid new
      → Stands reading layout first old (deeds ++ one ∷ []) new
  steps_so it = elim (at_hand_at stands it.work it.was it.at_hand) [
    | inl on ↦ (let (lay, keeps) = converting_at stands it.work it.was on in
        converts (advanced (named it.work it.opened it.moved) it.phase it.part) it.goes.work on lay
        (steps_keep mid new it keeps))
    | inr closing_so ↦ closes_on it closing_so
  ]

  opens_so : OpensZone reading mid new → Stands reading layout first old (deeds ++ one ∷ []) new
  opens_so it =
      elim (at_hand_at stands it.work it.was (opening_not_rest it.work second_written it.phase)) [
        | inl on ↦ (let (lay, keeps) = converting_at stands it.work it.was on in
            converts (advanced it.work (writing 0) it.work.part) it.goes.work on lay
            (opens_keeps mid new it keeps))
        | inr closing_so ↦ absurd (closing_not_opening it.work second_written closing_so it.phase)
      ]

  -- the last header stands, and areas are to be wiped from here on
  finish_stands : (it : EndsZone reading mid new) → IsClosing reading layout first mid it.work
      → Stands reading layout first old (deeds ++ one ∷ []) new
  finish_stands it closing_so =
      let work = it.work in
      let turned = ends_turned order.courses it in
      let last = closing_so.last in
      let after : state_after old (deeds ++ one ∷ []) ≡ new = state_after-push old deeds one ∙ is in
      let lay : work.layout ≡ layout = ap (λ w. w.layout) closing_so.is in
      let moved : work.zone.moved ≡ last = ap (λ w. w.zone.moved) closing_so.is in
      let left : work.progress ≡ wiping closing_so.areas = ap (λ w. w.progress) closing_so.is in
      let now : new.work ≡ Some (resting layout last (wiping closing_so.areas)) =
      it.goes.work ∙ rw (lay, moved, left) refl in
      let all : AreAllOn new.map New = (λ b below.
      let inside = subst (λ n. b < n) (ap (λ m. m.blocks) it.goes.map_is ∙ turned.blocks) below
      in ap (λ m. side_in m b) it.goes.map_is
      ∙ turned.same_sides b inside (rw closing_so.is (inr (omega arith)))
      ∙ closing_so.converted b inside) in
      wipes_on last closing_so.areas now closing_so.says all (record {
        earlier = deeds ++ one ∷ [];
        later = [];
        parts = sym (append-nil (deeds ++ one ∷ []));
        areas = closing_so.areas;
        stood = ap (λ s. s.work) after ∙ now;
        dropped = closing_so.dropped;
        atom = ap (λ s. s.map.atom) (sym after);
        wipes = rw after (λ bytes told long. (bytes, told, long, λ area has. inl has));
      })

  ends_so : EndsZone reading mid new → Stands reading layout first old (deeds ++ one ∷ []) new
  ends_so it = elim (at_hand_at stands it.work it.was (last_not_rest it.work it.last)) [
    | inl on ↦ (let (lay, keeps) = converting_at stands it.work it.was on in
        converts (resting it.work.layout it.work.zone.moved it.work.progress) it.goes.work on lay
        (ends_keeps mid new it keeps))
    | inr closing_so ↦ finish_stands it closing_so
  ]

  concludes_so : Concludes reading mid new → Stands reading layout first old (deeds ++ one ∷ []) new
  concludes_so it =
      let may = it.may in
      let (lay, keeps) = converting_at stands _ may.was refl in
      closes (closing it.layout it.header it.next first_written it.areas) it.goes.work (record {
        before = it.header;
        last = it.next;
        stage = first_written;
        areas = it.areas;
        is = ap (λ l. closing l it.header it.next first_written it.areas) lay;
        says = record { rests = may.rests; sealing = may.sealing ∙ keeps.from.sealing New };
        dropped = subst (λ slots. (area : Area) → Contains it.areas area
            ↔ (Contains slots area × (Contains (reading.keyslots it.next.means) area → ⊥)))
            keeps.from.keyslots may.dropped;
        converted = subst (λ m. AreAllOn m New) (sym it.goes.map_is) may.converted;
      })

  -- ---- one more deed behind those by which areas were wiped
  goes_on_wiping : {seals : Seals} {worked : Worked} {last : Header (List ℕ)} {left less : List Area}
      → WorkStep reading seals mid new worked
      → IsWipingOn reading layout first last old deeds mid left
      → ((bytes : List ℕ) → mid.disk.values ≡ Some bytes
      → length bytes ≡ mid.disk.atoms * mid.map.atom → (now : List ℕ)
      × (new.disk.values ≡ Some now) × (length now ≡ length bytes)
      × ((area : Area) → Contains left area ⊎ IsZeroed mid.map.atom bytes area
      → Contains less area ⊎ IsZeroed mid.map.atom now area))
      → IsWipingOn reading layout first last old (deeds ++ one ∷ []) new less
  goes_on_wiping {left = left} {less = less} step on more = record {
    earlier = on.earlier;
    later = on.later ++ one ∷ [];
    parts = ap (λ d. d ++ one ∷ []) on.parts ∙ append_assoc on.earlier on.later (one ∷ []);
    areas = on.areas;
    stood = on.stood;
    dropped = on.dropped;
    atom = atom_kept order.courses step ∙ on.atom;
    wipes = λ bytes told long.
        let (middle, middle_told, middle_long, each) = on.wipes bytes told long in
        let (now, now_told, now_long, all) = more middle middle_told middle_long in
        let size : new.disk.atoms * new.map.atom ≡ mid.disk.atoms * mid.map.atom =
        rw (atoms_kept step, atom_kept order.courses step) refl in (
          now,
          now_told,
          now_long ∙ middle_long ∙ sym size,
          λ area has. subst (λ n. Contains less area ⊎ IsZeroed n now area) on.atom
              (all area (subst (λ n. Contains left area ⊎ IsZeroed n middle area) (sym on.atom)
              (each area has))),
        );
  }

  wipes_so : (seals : Seals) (it : Wipes mid new)
      → Stands reading layout first old (deeds ++ one ∷ []) new
  wipes_so seals it =
      let step : WorkStep reading seals mid new stepped = wipes it in
      let at = wiping_at stands it.layout it.header (it.area ∷ it.areas) it.was in
      let spare = (order.works _ it.was).spare it.area (contains_first it.area it.areas) in
      wipes_on it.header it.areas
      (it.goes.work ∙ ap (λ l. Some (resting l it.header (wiping it.areas))) at.lay) at.says
      (subst (λ m. AreAllOn m New) (sym it.goes.map_is) at.all)
      (goes_on_wiping step at.on (λ bytes told long.
      let now = area_wiped mid.map.atom mid.disk.atoms it.area bytes mid.disk new.disk it.call told
      long spare.within in (
        now.now,
        now.told,
        now.size,
        λ area so. elim so [
          | inl has ↦ elim (contains_either it.area it.areas area has) [
            | inl same ↦ inr (subst (IsZeroed mid.map.atom now.now) (sym same) now.own)
            | inr later ↦ inl later
          ]
          | inr zeroed ↦ inr (now.others area zeroed)
        ],
      )))

  wiped_so : (seals : Seals) (it : IsWiped mid new)
      → Stands reading layout first old (deeds ++ one ∷ []) new
  wiped_so seals it =
      let step : WorkStep reading seals mid new stepped = wiped it in
      let at = wiping_at stands it.layout it.header [] it.was in
      let on = goes_on_wiping {less = []} step at.on (λ bytes told long.
      (bytes, it.call.values ∙ told, refl, λ area so. so)) in
      is_over it.header
      (it.goes.work ∙ ap (λ l. Some (resting l it.header complete)) at.lay) at.says
      (subst (λ m. AreAllOn m New) (sym it.goes.map_is) at.all)
      (record {
        earlier = on.earlier;
        later = on.later;
        parts = on.parts;
        areas = on.areas;
        stood = on.stood;
        dropped = on.dropped;
        wipes = λ bytes told long.
            let (now, now_told, now_long, each) = on.wipes bytes told long in (
              now,
              now_told,
              λ area has. elim (each area has) [
                | inl none ↦ absurd (none_contained area none)
                | inr zeroed ↦ zeroed
              ],
            );
      }) (certain_behind mid.disk new.disk it.call)

  -- ---- each step that goes on
  pub stands_on : {seals : Seals} {worked : Worked} → WorkStep reading seals mid new worked
      → GoesOnBy worked → Stands reading layout first old (deeds ++ one ∷ []) new
  stands_on (takes grant it) on = same_converting it.was it.admitted.goes.work
  stands_on (queues lane it) on = same_converting it.was it.admitted.goes.work
  stands_on (stays lane it) on = same_converting it.was (ap (λ s. s.work) it.same)
  stands_on (begins it) on = begins_so it
  stands_on (steps it) on = steps_so it
  stands_on (opens_zone it) on = opens_so it
  stands_on (ends_zone it) on = ends_so it
  stands_on (leaves_blocks it) on = same_converting it.was it.frees.work
  stands_on (concludes it) on = concludes_so it
  stands_on {seals = seals} (wipes it) on = wipes_so seals it
  stands_on {seals = seals} (wiped it) on = wiped_so seals it
  stands_on (ends it) on = absurd on
  stands_on (misses_part it) on = absurd on
  stands_on (is_hindered cause it) on = absurd on
  stands_on (is_unfinished cause it) on = absurd on
  stands_on (faults it) on = absurd on
  stands_on (misses_conclusion it) on = absurd on
  stands_on (misses_wipe it) on = absurd on
  stands_on (leaves_broken it) on = absurd on
