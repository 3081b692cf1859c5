-- Lemmas on a zone at hand: client lanes keep apart from it, and their events leave it.
use Rattle.std.proofs.Common.{Bool, IsSomeAnd, List, None, Option, Some, ap, arith, false, length}
use Rattle.std.proofs.Common.{refl, subst, suc, sym, true, ℕ, ◌+◌, ◌<◌, ◌∙◌, ◌≡◌, ◌≢◌, ◌≤◌}
use Rattle.plain_disk.specs.Plain.{Block}
use Rattle.sector_disk.specs.DiskViews.Views.{View}
use Rattle.segment_map.specs.declared.Side.{Side}
use Rattle.segment_map.specs.declared.Side.TheVariants.{New, Old}
use Rattle.volume_machine.specs.Asks.{has_lock}
use Rattle.volume_machine.specs.Seals.{Seals}
use Rattle.volume_machine.specs.Sound.{IsSound}
use Rattle.volume_machine.specs.States.{IsGoverned, State, open_at}
use Rattle.volume_machine.specs.Steps.{Holds}
use Rattle.volume_machine.specs.Working.{HoldsZone, IsWorking, KeepsApart, LiesApart, Works}
use Rattle.volume_machine.specs.Works.{Work}
use Rattle.crash_laws.proofs.HotZones.SameTexts.{zone_same}
use Rattle.volume_machine.specs.declared.open.Open.{Open}
use Rattle.sha2.specs.Sha256.{sha256}
use Rattle.volume_laws.specs.Contents.{block_in}
use Rattle.volume_laws.specs.Texts.{atom_on, newest_in, texts_of}
use Rattle.volume_machine.specs.Works.{Part, wanted, fetched}
use Rattle.volume_laws.proofs.Invariant.{KnowsPart, ShowsAtHand, Stays, live_back}
use Rattle.volume_laws.proofs.PartLemmas.{part_same, saved_same}
use Rattle.volume_laws.proofs.Reading.{AreLive, held_apart}

-- what a lane holds, where that isn't the zone's lane
module _ {K : Type 0} {state : State K} (lane : ℕ) {o : Open} (sound : IsSound state)
    (keeps : KeepsApart state) (whole : state.broken ≡ false) (at : open_at state.lanes lane ≡ Some o)
    (has : has_lock o.ask ≡ true) (holds : Holds state lane) where
  apart_live : ((work : Work) → state.work ≡ Some work → (working : HoldsZone state work)
      → lane ≢ working.lane) → AreLive state o
  apart_live differ b from to = record {
    inside = omega (arith, (sound.under_way lane o at).inside);
    free = λ governed. cases state.work refl governed;
  }
    where
      cases : (work : Option Work) → state.work ≡ work
          → IsSomeAnd work (λ w. (w.range.start ≤ b) × (b < w.range.end)) → ⊥
      cases None is governed = absurd governed
      cases (Some work) is (zone_from, zone_to) =
          let working = (keeps work is).held whole (omega arith) in
          held_apart lane working.lane b sound (differ work is working) at has holds from to
          working.at working.writes working.holds (rw working.range zone_from)
          (rw working.range zone_to)

  -- a lane of a client
  pub client_live : suc lane < length state.lanes → AreLive state o
  client_live client = apart_live (λ work is working same. omega arith)

  -- an operation that has come to its end
  pub ended_live : o.range.start < o.next → AreLive state o
  ended_live some = apart_live (λ work is working same.
      let one : working.o ≡ o = cc in
      omega (arith, subst (λ p. p.next ≡ p.range.start) one working.next))

-- the zone at hand after an event of another lane
module _ {K : Type 0} {old new : State K} (stays : Stays old new)
    (unbroken : new.broken ≡ false → old.broken ≡ false)
    (count : length new.lanes ≡ length old.lanes)
    (left : (lane : ℕ) → suc lane ≡ length old.lanes
    → (open_at new.lanes lane ≡ open_at old.lanes lane) × (Holds old lane → Holds new lane)) where
  pub lies_on : (work : Work) → LiesApart old work → LiesApart new work
  lies_on work lies = record {
    apart = lies.apart;
    count = lies.count;
    inside = rw stays.map lies.inside;
    fewer = lies.fewer;
    held = λ whole some.
        let held = lies.held (unbroken whole) some in
        let (own, holds) = left held.lane held.last in record {
          lane = held.lane;
          last = held.last ∙ sym count;
          o = held.o;
          at = own ∙ held.at;
          writes = held.writes;
          range = held.range;
          next = held.next;
          unfailed = held.unfailed;
          holds = holds held.holds;
        };
    away = λ b live area of. rw stays.map (lies.away b (live_back b stays live) area of);
  }

  pub works_stay : new.disk.atoms ≡ old.disk.atoms → Works old → Works new
  works_stay atoms works work is =
      let working = works work (sym stays.work ∙ is) in record {
        lies = lies_on work working.lies;
        enough = rw stays.map working.enough;
        phased = working.phased;
        within = rw atoms working.within;
        sides = λ b from to. rw stays.map (working.sides b from to);
        places = λ b from to. rw stays.map (working.places b from to);
        worker = λ lane o last at. (let before : suc lane ≡ length old.lanes = last ∙ count in
            working.worker lane o before (sym (left lane before).0 ∙ at));
        behind = working.behind;
        spare = λ area has. (let spare = working.spare area has in record {
          within = rw atoms spare.within;
          copies = spare.copies;
          beside = λ b below. rw stays.map (spare.beside b (rw stays.map at below));
        });
      }

-- what a zone at hand that works keeps apart
pub works_apart : {K : Type 0} {state : State K} → Works state → KeepsApart state
works_apart works work is = (works work is).lies

-- the zone's blocks under blocks whose newest values are the same
pub zone_renewed : {K : Type 0} {state : State K} {work : Work} (seals : Seals)
    (left next : List Block) (broken : Bool) (view : View) → IsWorking state work
    → state.work ≡ Some work → ((b : ℕ) → b < state.map.blocks → IsGoverned state b
    → (block_in next b).newest ≡ (block_in left b).newest) →
    ShowsAtHand state.map.atom seals left work broken view
    → ShowsAtHand state.map.atom seals next work broken view
zone_renewed {state = state} {work = work} seals left next broken view working is newest shows =
    record {
      zone = zone_same state.map.atom work.layout work.zone (texts_of state.map.atom seals left work)
          (texts_of state.map.atom seals next work) work.phase broken view (record {
            fewer = working.lies.fewer;
            old = same_on Old;
            new = same_on New;
            saved = saved;
          }) shows.zone;
      part = renewed work.part shows.part;
      apart = λ is_so i below told alike. shows.apart is_so i below told
          (ap sha256 (sym (same_on Old i below)) ∙ alike ∙ ap sha256 (same_on New i below));
    }
  where
    same_on : (side : Side) (i : ℕ) → i < work.zone.own.count
        → atom_on seals work (newest_in next) side i ≡ atom_on seals work (newest_in left) side i
    same_on side i below = ap (λ v. seals.sealed side (work.range.start + i) v)
        (newest (work.range.start + i) (omega arith) (rw is (omega arith, omega arith)))

    saved : (i : ℕ) → i < work.zone.store.count → (texts_of state.map.atom seals next work).saved i
        ≡ (texts_of state.map.atom seals left work).saved i
    saved i below = saved_same work.zone.resilience state.map.atom work.zone
        (atom_on seals work (newest_in left) Old) (atom_on seals work (newest_in next) Old) i
        working.enough below (same_on Old)

    renewed : (part : Part)
        → KnowsPart state.map.atom (texts_of state.map.atom seals left work) work.zone part
        → KnowsPart state.map.atom (texts_of state.map.atom seals next work) work.zone part
    renewed (wanted first) knows = tt
    renewed (fetched first old) knows =
        part_same (texts_of state.map.atom seals next work).old (same_on Old) knows
