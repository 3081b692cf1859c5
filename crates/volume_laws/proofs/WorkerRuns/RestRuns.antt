-- What deeds leave, one after the other: what headers say, and the rest.
use Rattle.std.proofs.Common.{List, Some, [], ap, inl, inr, refl, subst, sym, ℕ, ◌++◌, ◌<◌, ◌∙◌}
use Rattle.std.proofs.Common.{◌∷◌, ◌≡◌, ◌≢◌, ◌⊎◌, ◌||◌, Bool, false, true}
use Rattle.crash_laws.specs.HotZones.Zones.{datashift}
use Rattle.volume_machine.specs.Pieces.{place_in}
use Rattle.volume_machine.specs.Seals.{Seals}
use Rattle.volume_machine.specs.States.{State}
use Rattle.volume_machine.specs.Works.{Work}
use Rattle.crash_laws.specs.HeaderAreas.Commits.{MayBe, Stage, begun}
use Rattle.crash_laws.specs.HeaderAreas.Headers.{Header, Layout}
use Rattle.crash_laws.specs.HotZones.Calls.{IsFirst}
use Rattle.crash_laws.specs.HotZones.Zones.{Phase, from_of, mending, moving, opening, saving, shifting}
use Rattle.crash_laws.specs.HotZones.Zones.{stage_of, to_of, turning, writing}
use Rattle.volume_laws.proofs.HoldersKept.{atom_kept, atoms_kept}
use Rattle.volume_laws.proofs.VolumesKept.{event_in_order, step_in_order}
use Rattle.volume_laws.proofs.WorkFaults.{goes_by_answer}
use Rattle.volume_laws.proofs.ZoneBlocks.{either_header}
use Rattle.volume_laws.specs.Converting.{IsInOrder}
use Rattle.volume_laws.specs.Faulting.{GoesByAnswer}
use Rattle.volume_machine.proofs.EventEffects.{event_effects}
use Rattle.volume_machine.specs.Deeds.{Act, AreDeeds, Deed, Does, client, state_after, worker}
use Rattle.volume_machine.specs.Events.{Event, Outcome}
use Rattle.volume_machine.specs.Steps.{Meets, Step}
use Rattle.volume_machine.specs.Readings.{Reading}
use Rattle.volume_machine.specs.WorkSteps.{WorkStep, Worked, closing}
use Rattle.volume_machine.specs.Works.{converting, resting}
use Rattle.volume_laws.specs.WorkerRuns.Leaving.{DeedsLeaveTheRest, HeadersSay, IsDropped, IsElsewhere}
use Rattle.volume_laws.specs.WorkerRuns.Leaving.{KeepsAtom}
use Rattle.volume_laws.specs.WorkerRuns.Leaving.{SaysAs, SaysItEnds, WorksLeaveTheRest}
use Rattle.volume_laws.proofs.WorkerRuns.AtomCalls.{spares_same}
use Rattle.volume_laws.proofs.WorkerRuns.HeadersKept.{AllKeep, rest_keeps, says_itself}
use Rattle.volume_laws.proofs.WorkerRuns.ClientRest.{dropped_still, event_keeps, stands_still}
use Rattle.volume_laws.proofs.WorkerRuns.LanesIdle.{work_leaves}
use Rattle.volume_laws.proofs.WorkerRuns.RestAtoms.{atom_step, by_call, kept_twice, place_stays}
use Rattle.volume_laws.proofs.WorkerRuns.RestEnds.{ended_on}
use Rattle.volume_laws.proofs.WorkerRuns.RestStages.{Stays, closes, converts, ended, no_zone_fits, stays_on}

-- ---- what headers say
-- the header that comes next, once something of it was written
next_says : {reading : Reading} {first : List ℕ} (work : Work) → AllKeep reading first work
    → stage_of work.phase ≢ begun → SaysAs reading first (to_of work.zone work.phase).means
next_says {reading = reading} {first = first} work keeps goes = by work.phase refl goes
  where
    by : (phase : Phase) → work.phase ≡ phase → stage_of phase ≢ begun
        → SaysAs reading first (to_of work.zone phase).means
    by (saving n) is so = absurd (so refl)
    by (opening stage) is so = keeps.opened (λ at. subst IsFirst is at) (rw is tt)
    by (writing n) is so = absurd (so refl)
    by (mending n) is so = absurd (so refl)
    by (moving stage) is so = keeps.moved (λ at. subst IsFirst is at)
    by (shifting n) is so = absurd (so refl)
    by (turning stage) is so = keeps.moved (λ at. subst IsFirst is at)

-- by a work, the one or the other
abbrev WorkSays : Reading → List ℕ → Work → Type 0
WorkSays reading first work = (one : List ℕ)
    → MayBe (stage_of work.phase) (from_of work.zone work.phase).means
    (to_of work.zone work.phase).means one
    → SaysAs reading first one ⊎ SaysItEnds reading first one

converting_says : {reading : Reading} {first : List ℕ} (work : Work) → AllKeep reading first work
    → WorkSays reading first work
converting_says {reading = reading} {first = first} work keeps one may =
    elim (either_header (stage_of work.phase) (from_of work.zone work.phase).means
    (to_of work.zone work.phase).means one may) [
      | inl same ↦ inl (subst (SaysAs reading first) (sym same) keeps.from)
      | inr (same, goes) ↦
          inl (subst (SaysAs reading first) (sym same) (next_says work keeps goes))
    ]

closing_says : {reading : Reading} {first : List ℕ} (layout : Layout) (before last : Header (List ℕ))
    (stage : Stage) (areas : List _) → SaysAs reading first before.means
    → SaysItEnds reading first last.means
    → WorkSays reading first (closing layout before last stage areas)
closing_says {reading = reading} {first = first} layout before last stage areas says ends_so one may =
    elim (either_header stage before.means last.means one may) [
      | inl same ↦ inl (subst (SaysAs reading first) (sym same) says)
      | inr (same, goes) ↦ inr (subst (SaysItEnds reading first) (sym same) ends_so)
    ]

stays_say : {K : Type 0} {reading : Reading} {layout : Layout} {first : List ℕ} (now : State K)
    → Stays reading layout first now → HeadersSay reading first now
stays_say {reading = reading} {first = first} now (converts one is on lay keeps guards) work at =
    let same : one ≡ work = cc in
    subst (WorkSays reading first) same (converting_says one keeps)
stays_say {reading = reading} {layout = layout} {first = first} now
    (closes before last stage areas is says ends_so gone) work at =
    let same : closing layout before last stage areas ≡ work = cc in
    subst (WorkSays reading first) same (closing_says layout before last stage areas says ends_so)
stays_say {reading = reading} {layout = layout} {first = first} now
    (ended last progress is done says gone) work at =
    let same : resting layout last progress ≡ work = cc in
    subst (WorkSays reading first) same
    (λ one may. inr (subst (SaysItEnds reading first) (sym may) says))

-- ---- behind some steps
pub record SoLeft {K : Type 0} (reading : Reading) (layout : Layout) (first : List ℕ)
    (old now : State K) : Type 0 where
  pub order : IsInOrder reading now
  pub stands : Stays reading layout first now
  pub atom : now.map.atom ≡ old.map.atom
  pub atoms : now.disk.atoms ≡ old.disk.atoms
  pub blocks : now.map.blocks ≡ old.map.blocks
  pub places : (b : ℕ) → b < old.map.blocks → place_in now.map b ≡ place_in old.map b
  pub rest : (place : ℕ) → IsElsewhere reading layout first old place
      → KeepsAtom old now place ⊎ IsDropped reading first now place

none_left : {K : Type 0} {reading : Reading} {layout : Layout} {header : Header (List ℕ)}
    {old : State K} → IsInOrder reading old → old.work ≡ Some (resting layout header converting)
    → SoLeft reading layout header.means old old
none_left {layout = layout} {header = header} {old = old} order at_rest = record {
  order = order;
  stands = converts (resting layout header converting) at_rest refl refl
      (rest_keeps layout header converting says_itself)
      (no_zone_fits header header _ refl refl);
  atom = refl;
  atoms = refl;
  blocks = refl;
  places = λ b below. refl;
  rest = λ place elsewhere. inl (by_call (spares_same {atom = old.map.atom} place refl));
}

-- a broken volume stays so
whole_before : (a b : Bool) → a || b ≡ false → a ≡ false
whole_before true b is = absurd (cc)
whole_before false b is = refl

unbroken_before : {K : Type 0} (reading : Reading) (seals : Seals) (mid new : State K) (worked : Worked) → WorkStep reading seals mid new worked
    → new.broken ≡ false → mid.broken ≡ false
unbroken_before reading seals mid new worked step whole =
    by mid.broken refl (goes_by_answer reading seals worked step)
  where
    by : (b : Bool) → mid.broken ≡ b → GoesByAnswer mid new worked → mid.broken ≡ false
    by false was goes = was
    by true was goes =
        let both : true ≡ false = sym (goes.leaves was).1 ∙ whole in absurd (cc)

dropped_on : {K : Type 0} (reading : Reading) (seals : Seals) {first : List ℕ} (mid new : State K) (place : ℕ) (worked : Worked)
    → WorkStep reading seals mid new worked → IsDropped reading first mid place
    → IsDropped reading first new place
dropped_on reading seals mid new place worked step is =
    let on = ended_on mid new is.stands is.ended step in record {
      layout = is.layout;
      last = is.last;
      progress = on.next;
      stands = on.is;
      ended = on.ended;
      says = is.says;
      area = is.area;
      had = is.had;
      gone = is.gone;
      inside = is.inside;
    }

module _ {K : Type 0} (reading : Reading) (seals : Seals) {layout : Layout} {first : List ℕ}
    {old : State K} (stay : reading.guard first ≢ datashift) where
  elsewhere_now : (mid : State K) (place : ℕ) → SoLeft reading layout first old mid
      → IsElsewhere reading layout first old place → IsElsewhere reading layout first mid place
  elsewhere_now mid place far is = record {
    copies = is.copies;
    store = is.store;
    blocks = λ b below same.
        (let inside = subst (λ n. b < n) far.blocks below in
        is.blocks b inside (sym (far.places b inside) ∙ same));
  }

  one_left : (mid new : State K) (worked : Worked) → SoLeft reading layout first old mid
      → WorkStep reading seals mid new worked → SoLeft reading layout first old new
  one_left mid new worked far step =
      let leaves = work_leaves mid new far.order.courses step in record {
        order = step_in_order reading seals mid new worked far.order step;
        stands = stays_on mid new stay far.order.courses far.stands step;
        atom = atom_kept far.order.courses step ∙ far.atom;
        atoms = atoms_kept step ∙ far.atoms;
        blocks = leaves.blocks ∙ far.blocks;
        places = λ b below. place_stays mid new far.order far.stands step b
            (subst (λ n. b < n) (sym far.blocks) below) ∙ far.places b below;
        rest = λ place elsewhere. elim (far.rest place elsewhere) [
          | inl kept ↦ elim (atom_step mid new far.order far.stands place
              (elsewhere_now mid place far elsewhere) step) [
                | inl later ↦ inl (kept_twice far.atom far.atoms
                    (unbroken_before reading seals mid new worked step) kept later)
                | inr dropped ↦ inr dropped
              ]
          | inr dropped ↦ inr (dropped_on reading seals mid new place worked step dropped)
        ];
      }

  client_left : (mid new : State K) (event : Event) (outcome : Outcome)
      → SoLeft reading layout first old mid → Meets mid event → Step mid event outcome new
      → SoLeft reading layout first old new
  client_left mid new event outcome far meets step =
      let goes = event_effects mid new event outcome step in
      let atom : new.map.atom ≡ mid.map.atom = ap (λ m. m.atom) goes.map in record {
        order = event_in_order reading mid new event outcome far.order meets step;
        stands = stands_still mid new goes.work atom far.stands;
        atom = atom ∙ far.atom;
        atoms = goes.disk.atoms ∙ far.atoms;
        blocks = ap (λ m. m.blocks) goes.map ∙ far.blocks;
        places = λ b below. ap (λ m. place_in m b) goes.map ∙ far.places b below;
        rest = λ place elsewhere. elim (far.rest place elsewhere) [
          | inl kept ↦ inl (kept_twice far.atom far.atoms
              (λ whole. whole_before mid.broken _ (sym goes.broken_is ∙ whole)) kept
              (event_keeps mid new far.order.sound place (elsewhere_now mid place far elsewhere)
              event outcome step))
          | inr dropped ↦ inr (dropped_still mid new goes.work dropped)
        ];
      }

  deed_left : (mid new : State K) (act : Act) → SoLeft reading layout first old mid
      → Does reading seals mid act new → SoLeft reading layout first old new
  deed_left mid new (client event outcome) far (meets, step) =
      client_left mid new event outcome far meets step
  deed_left mid new (worker worked) far step = one_left mid new worked far step

  all_left : (mid : State K) (deeds : List (Deed K)) → SoLeft reading layout first old mid
      → AreDeeds reading seals mid deeds → SoLeft reading layout first old (state_after mid deeds)
  unfolding AreDeeds state_after
  all_left mid [] far are = far
  all_left mid (one ∷ rest) far (does, are) =
      all_left one.after rest (deed_left mid one.after one.act far does) are

front_of : {K : Type 0} (reading : Reading) (seals : Seals) (old : State K)
    (earlier later : List (Deed K)) → AreDeeds reading seals old (earlier ++ later)
    → AreDeeds reading seals old earlier
unfolding AreDeeds
front_of reading seals old [] later are = tt
front_of reading seals old (one ∷ earlier) later (does, are) =
    (does, front_of reading seals one.after earlier later are)

pub deeds_leave : (C : Type 0) → DeedsLeaveTheRest C
deeds_leave C reading seals layout header old deeds order at_rest stay are =
    let far = all_left reading seals stay old deeds (none_left order at_rest) are in
    record { headers = stays_say (state_after old deeds) far.stands; rest = far.rest }

pub leaves_rest : (C : Type 0) → WorksLeaveTheRest C
leaves_rest C reading seals layout header old new answers may stay worked earlier later parts =
    deeds_leave C reading seals layout header old earlier may.order may.at_rest stay
    (front_of reading seals old earlier later
    (subst (AreDeeds reading seals old) parts worked.are))
