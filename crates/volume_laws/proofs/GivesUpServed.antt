-- A zone that is given up: nothing of it was written over, and its blocks are live again.
use Rattle.std.proofs.Common.{Contains, List, ap, arith, false, inl, inr, refl, subst, sym, true, ℕ}
use Rattle.std.proofs.Common.{◌+◌, ◌-◌, ◌<◌, ◌∙◌, ◌≡◌, ◌≤◌}
use Rattle.crash_laws.specs.HotZones.Zones.{ShowsZone}
use Rattle.plain_disk.specs.Plain.{Block}
use Rattle.sector_disk.specs.DiskViews.Views.{IsOutside, IsUnchanged, View}
use Rattle.segment_map.specs.declared.Side.TheVariants.{Old}
use Rattle.volume_machine.specs.Edges.{InPlain}
use Rattle.volume_machine.specs.Pieces.{place_in}
use Rattle.volume_machine.specs.Seals.{Seals}
use Rattle.volume_machine.specs.States.{State}
use Rattle.volume_machine.specs.Working.{IsWorking, Works}
use Rattle.volume_machine.specs.Works.{Work}
use Rattle.crash_laws.proofs.HeaderAreas.AreasShown.{unchanged}
use Rattle.crash_laws.specs.HeaderAreas.Commits.{begun, ShowsCommit}
use Rattle.crash_laws.specs.HeaderAreas.Headers.{Copy, Layout, place_of}
use Rattle.crash_laws.specs.HotZones.Standing.{side_before}
use Rattle.crash_laws.specs.HotZones.Zones.{Hotzone, Phase, Texts, saving, opening, writing, mending, moving}
use Rattle.crash_laws.specs.HotZones.Zones.{shifting, turning, its_header}
use Rattle.volume_machine.specs.Readings.{Reading}
use Rattle.volume_machine.specs.WorkSteps.{GivesUp, Hindrance, IsGivable, IsHindered, MissesPart}
use Rattle.volume_machine.specs.WorkSteps.{Proceeds}
use Rattle.volume_machine.specs.Works.{resting}
use Rattle.volume_laws.specs.Contents.{IsSealed, block_in}
use Rattle.volume_laws.specs.Texts.{texts_of}
use Rattle.volume_laws.proofs.BeginsServed.{any_next, none_governed, zone_untried}
use Rattle.volume_laws.proofs.FreesServed.{freed_served, still_under_way, then_ends}
use Rattle.volume_laws.proofs.Here.{Here, Moves, moves_by_read, moves_not, positive}
use Rattle.volume_laws.proofs.Invariant.{Shown}
use Rattle.volume_laws.proofs.StepsSeen.{unchanged_leaves}
use Rattle.volume_laws.proofs.StepsServed.{at_hand_now}
use Rattle.volume_laws.proofs.TurnsServed.{beyond_live, beyond_or_in, outside_copy, resting_works}
use Rattle.volume_laws.proofs.WorkAround.{IsBack, IsIn, worked_served}

-- what is known of a zone that is given up: its atoms are the old ones, and its header is the one
-- from before
pub given_side : (phase : Phase) → IsGivable phase → side_before phase ≡ Old
given_side (saving n) is = refl
given_side (opening stage) is = absurd is
given_side (writing n) is = absurd is
given_side (mending n) is = absurd is
given_side (moving stage) is = absurd is
given_side (shifting n) is = refl
given_side (turning stage) is = absurd is

record IsStillOld (atom : ℕ) (layout : Layout) (zone : Hotzone (List ℕ)) (texts : Texts)
    (view : View) : Type 0 where
  now : (i : ℕ) → i < zone.own.count → view.current (zone.own.start + i) ≡ texts.old i
  left : (i : ℕ) → i < zone.own.count → (value : List ℕ)
      → Contains (view.candidates (zone.own.start + i)) value → value ≡ texts.old i
  header : ShowsCommit atom layout zone.before zone.before begun false view

given_old : (atom : ℕ) (layout : Layout) (zone : Hotzone (List ℕ)) (texts : Texts) (phase : Phase)
    (view : View) → IsGivable phase → ShowsZone atom layout zone texts phase false view
    → IsStillOld atom layout zone texts view
given_old atom layout zone texts (saving n) view is shows = record {
  now = shows.own.now refl;
  left = shows.own.left;
  header = any_next zone.before shows.header;
}
given_old atom layout zone texts (opening stage) view is shows = absurd is
given_old atom layout zone texts (writing n) view is shows = absurd is
given_old atom layout zone texts (mending n) view is shows = absurd is
given_old atom layout zone texts (moving stage) view is shows = absurd is
given_old atom layout zone texts (shifting n) view is shows = record {
  now = shows.own.now refl;
  left = shows.own.left;
  header = any_next zone.before shows.header;
}
given_old atom layout zone texts (turning stage) view is shows = absurd is

-- what is asked of the zone at hand then
module _ {K : Type 0} {old new : State K} (work : Work) (up : GivesUp old new work) where
  pub given_goes : Proceeds old (still_under_way old new) old.map
      (resting work.layout work.zone.before work.progress) false
  given_goes = record {
    map_is = up.frees.map;
    keys = up.frees.keys;
    room = up.frees.room;
    entries = refl;
    lanes = refl;
    broken_is = up.frees.broken_is;
    work = up.frees.work;
  }

  pub works_given_up : new.disk.atoms ≡ old.disk.atoms → Works old
      → Works (still_under_way old new)
  works_given_up atoms works next is_next =
      let rest = resting work.layout work.zone.before work.progress in
      let working = works work up.was in
      let same : next ≡ rest = (let at = up.frees.work in cc) in
      rw same (resting_works work.layout work.zone.before work.zone.before rest refl refl refl tt
      working.lies.apart.headers (rw atoms working.within.copies)
      (λ lane o last at. working.worker lane o last at)
      (λ b live copy. let below : b < old.map.blocks =
      subst (λ m. b < m.blocks) up.frees.map live.inside in
      subst (λ p. IsOutside (place_of work.layout copy).start (place_of work.layout copy).count p)
      (sym (ap (λ m. place_in m b) up.frees.map)) (copies_away working b below copy))
      (λ area has. absurd (let behind = working.behind area has in let some = up.some in
      omega (arith, behind, some))))
    where
      copies_away : IsWorking old work → (b : ℕ) → b < old.map.blocks → (copy : Copy)
          → IsOutside (place_of work.layout copy).start (place_of work.layout copy).count
          (place_in old.map b)
      copies_away working b below copy = elim (beyond_or_in work.range b) [
        | inl beyond ↦ working.lies.away b (beyond_live work up.was b below beyond)
            (place_of work.layout copy) (its_header copy)
        | inr (from, to) ↦ subst (λ p. IsOutside (place_of work.layout copy).start
            (place_of work.layout copy).count p) (sym (working.places b from to))
            (outside_copy work.zone.own (place_of work.layout copy) (b - work.range.start)
            (working.lies.apart.own_header copy) (let count = working.lies.count in
            omega (arith, count, from, to)))
      ]

module _ {K P Q : Type 0} {old new : State K} {seals : Seals} {plain : ℕ → InPlain}
    {left : List Block} (here : Here P Q old seals plain left) (work : Work)
    (up : GivesUp old new work) where
  abbrev rest : Work
  rest = resting work.layout work.zone.before work.progress

  abbrev mid : State K
  mid = still_under_way old new

  working : IsWorking old work
  working = here.works work up.was

  on : Proceeds old mid old.map rest false
  on = given_goes work up

  -- a block of the zone
  zone_back : {view after : View} → IsUnchanged view after → Shown old seals plain left view
      → (b : ℕ) → work.range.start ≤ b → b < work.range.end → IsBack on seals plain left after b
  zone_back {view} {after} same shown b from to =
      let i : ℕ = b - work.range.start in
      let below : i < work.zone.own.count = (let count = working.lies.count in
      omega (arith, count, from, to)) in
      let texts = texts_of old.map.atom seals left work in
      let still = given_old old.map.atom work.layout work.zone texts work.phase view up.phase
      (at_hand_now work up.was up.unbroken shown).zone in
      let inside : b < old.map.blocks = (let end = working.lies.inside in omega (arith, end, to)) in
      let number : work.range.start + i ≡ b = omega (arith, from) in
      let place : place_in old.map b ≡ work.zone.own.start + i = working.places b from to in
      let sealed : (atom : List ℕ) → atom ≡ texts.old i
      → IsSealed old.map seals b (block_in left b).newest atom = λ atom is. (
        here.logic.are.newest b inside,
        is ∙ ap (λ n. seals.sealed Old n (block_in left n).newest) number
            ∙ ap (λ s. seals.sealed s b (block_in left b).newest)
            (sym (working.sides b from to ∙ given_side work.phase up.phase)),
      ) in record {
        untried = λ lane value tried. zone_untried work b lane value here.logic (positive here)
            (working.lies.held up.unbroken up.some) from to tried;
        current = sealed (after.current (place_in old.map b))
            (same.current (place_in old.map b) ∙ ap (λ p. view.current p) place ∙ still.now i below);
        candidates = λ atom has. sealed atom (still.left i below atom
            (subst (λ p. Contains (view.candidates p) atom) place
            (same.candidates (place_in old.map b) atom has)));
      }

  given_up_here : Moves P true old.map.atom here.bytes old.disk new.disk IsUnchanged
      → Here P Q mid seals plain left
  given_up_here moved = worked_served here on up.unbroken (works_given_up work up moved.atoms here.works)
      (λ b zoned. absurd (let governed = here.logic.sound.zoned b zoned in
      let (from, to) = subst (λ w. IsIn w b) up.was governed in
      let old_side = working.sides b from to ∙ given_side work.phase up.phase in cc))
      (λ lane o at knows b from to of. absurd (none_governed mid b on.work of)) moved
      (λ view after same shown. record {
        live = λ b live. (let below : b < old.map.blocks =
            subst (λ m. b < m.blocks) up.frees.map live.inside in
            elim (beyond_or_in work.range b) [
              | inl beyond ↦ inl (beyond_live work up.was b below beyond)
              | inr (from, to) ↦ inr (zone_back same shown b from to)
            ]);
        beside = λ b live. unchanged_leaves here work working view after same b;
        zone = λ next is_next. (let one : next ≡ rest = (let at = on.work in cc) in
            let still = given_old old.map.atom work.layout work.zone
            (texts_of old.map.atom seals left work) work.phase view up.phase
            (at_hand_now work up.was up.unbroken shown).zone in
            rw (one, on.map_is, on.broken_is) (record {
              zone = record {
                own = record {
                  now = λ whole i below. absurd (omega (arith, below));
                  left = λ i below value has. absurd (omega (arith, below));
                };
                target = record { now = λ whole i below. tt; left = λ i below value has. tt };
                store = record {
                  now = λ whole i below. absurd (omega (arith, below));
                  left = λ i below value has. tt;
                };
                header = unchanged_commit same still.header;
              };
              part = tt;
              apart = λ is_so i below. absurd (omega (arith, below));
            }));
      })
    where
      unchanged_commit : {view after : View} → IsUnchanged view after
          → ShowsCommit old.map.atom work.layout work.zone.before work.zone.before begun false view
          → ShowsCommit old.map.atom work.layout work.zone.before work.zone.before begun false after
      unchanged_commit {view} {after} same shows = record {
        first = unchanged view after work.layout.first _ _ same
            shows.first;
        second = unchanged view after work.layout.second _ _ same
            shows.second;
      }

  given_up_served : Moves P true old.map.atom here.bytes old.disk new.disk IsUnchanged
      → Here P Q new seals plain left
  given_up_served moved = freed_served (given_up_here moved) (then_ends up.frees) refl up.frees.last
      (λ o at. working.worker up.frees.lane o up.frees.last at)
      (λ next is whole. let same : next ≡ rest = (let at = on.work in cc) in
      rw same (omega arith))

pub misses_part_served : {K P Q : Type 0} {old new : State K} {seals : Seals} {plain : ℕ → InPlain}
    {left : List Block} → Here P Q old seals plain left → MissesPart old new
    → Here P Q new seals plain left
misses_part_served here it =
    given_up_served here it.work it.gives_up (moves_by_read it.call here.values)

pub hindered_served : {K P Q : Type 0} {reading : Reading} {old new : State K} {seals : Seals}
    {plain : ℕ → InPlain} {left : List Block} {cause : Hindrance} → Here P Q old seals plain left
    → IsHindered reading seals old new cause
    → Here P Q new seals plain left
hindered_served here it =
    given_up_served here it.work it.gives_up (moves_not it.rests here.values)
