-- What holds at a moment, around a step of the worker: of the operations of all lanes, and of what
-- the disk shows of live blocks.
use Rattle.std.proofs.Common.{Bool, Contains, IsSomeAnd, List, Option, Some, ap, arith, false, inl}
use Rattle.std.proofs.Common.{inr, refl, subst, sym, true, ℕ, ◌+◌, ◌-◌, ◌<◌, ◌∙◌, ◌≡◌, ◌≤◌, ◌⊎◌}
use Rattle.plain_disk.specs.Plain.{Block, values_of}
use Rattle.sector_disk.specs.DiskViews.Parts.{AreBlocks, block_at}
use Rattle.sector_disk.specs.DiskViews.Views.{View}
use Rattle.segment_map.specs.declared.Side.TheVariants.{Zone}
use Rattle.volume_machine.specs.Edges.{InPlain}
use Rattle.volume_machine.specs.Pieces.{place_in, side_in}
use Rattle.volume_machine.specs.Seals.{Seals}
use Rattle.volume_machine.specs.Sound.{IsSound}
use Rattle.volume_machine.specs.States.{IsGoverned, IsLive, State, open_at}
use Rattle.volume_machine.specs.Steps.{Holds}
use Rattle.volume_machine.specs.Working.{Works}
use Rattle.volume_machine.specs.Works.{Work}
use Rattle.crash_laws.specs.HotZones.Standing.{IsPhaseOf, side_before}
use Rattle.crash_laws.specs.HeaderAreas.Areas.{Area}
use Rattle.crash_laws.specs.HotZones.Zones.{Phase, Reaches}
use Rattle.volume_machine.specs.WorkSteps.{Proceeds}
use Rattle.volume_machine.specs.Works.{Part, advanced}
use Rattle.volume_machine.specs.declared.open.Open.{Open}
use Rattle.volume_laws.specs.Contents.{IsAllowedAt, IsNow, IsSealed, IsTriedBy, block_in}
use Rattle.volume_laws.proofs.Here.{Here, Moves, here_after, positive}
use Rattle.volume_laws.proofs.Invariant.{KnowsEdges}
use Rattle.volume_laws.proofs.Invariant.{IsRight, KeepsTried, LaneKnows, Logic, Shown, ShowsWork}
use Rattle.volume_laws.proofs.Invariant.{allowed_kept, now_kept, tried_goes}
use Rattle.volume_laws.proofs.PlainBlocks.{newest_contained}
use Rattle.volume_laws.proofs.Reading.{forced_writes, writes_lock}
use Rattle.volume_laws.proofs.Settling.{own_value, tried_whole}
use Rattle.volume_laws.proofs.StepsSeen.{Leaves}
use Rattle.volume_laws.proofs.Workings.{ended_live, works_apart}

-- the blocks of a zone
abbrev pub IsIn : Option Work → ℕ → Type 0
IsIn work b = IsSomeAnd work (λ one. (one.range.start ≤ b) × (b < one.range.end))

-- what a block holds is allowed
pub now_allowed : {K : Type 0} (state : State K) (plain : ℕ → InPlain) (left : List Block) (b : ℕ)
    (value : List ℕ) → IsNow state plain left b value → IsAllowedAt state plain left b value
now_allowed state plain left b value (inl tried) = inr tried
now_allowed state plain left b value (inr (none, is)) =
    inl (subst (λ v. Contains (values_of (block_in left b)) v) (sym is)
    (newest_contained (block_in left b)))

module _ {K : Type 0} {old new : State K} {next : Work} {is_broken : Bool}
    (on : Proceeds old new old.map next is_broken) where
  pub same_tried : {plain : ℕ → InPlain} → KeepsTried old plain new plain
  same_tried = record {
    kept = λ lane b value tried. tried_goes on.map_is (ap (λ l. open_at l lane) on.lanes) refl tried;
    back = λ lane b value tried.
        tried_goes (sym on.map_is) (sym (ap (λ l. open_at l lane) on.lanes)) refl tried;
  }

  was_open : (lane : ℕ) {o : Open} → open_at new.lanes lane ≡ Some o
      → open_at old.lanes lane ≡ Some o
  was_open lane is = ap (λ l. open_at l lane) (sym on.lanes) ∙ is

  -- the operations of all lanes
  pub sound_worked : new.disk.atoms ≡ old.disk.atoms
      → ((b : ℕ) → side_in old.map b ≡ Zone → IsGoverned new b) → IsSound old → IsSound new
  sound_worked atoms zoned sound = record {
    fits = rw (on.map_is, atoms) sound.fits;
    room = rw (on.room, on.lanes) sound.room;
    some = rw on.lanes sound.some;
    count = rw (on.entries, on.lanes) sound.count;
    entries = λ lane. rw (on.entries, on.map_is, on.lanes) (sound.entries lane);
    once = λ lane. rw on.entries (sound.once lane);
    under_way = λ lane o is. rw on.map_is (sound.under_way lane o (was_open lane is));
    zoned = λ b is. zoned b (sym (ap (λ m. side_in m b) on.map_is) ∙ is);
  }

  pub logic_worked : {plain : ℕ → InPlain} {left : List Block} → IsSound new → old.broken ≡ false
      → ((lane : ℕ) (o : Open) → open_at old.lanes lane ≡ Some o
      → (knows : LaneKnows old plain left lane o) → (b : ℕ) → o.range.start ≤ b
      → b < o.range.start + knows.count → IsGoverned new b → ⊥)
      → Logic old plain left → Logic new plain left
  logic_worked {plain} {left} sound was beside logic = record {
    sound = sound;
    are = rw on.map_is logic.are;
    sure = λ whole b below. logic.sure was b (subst (λ m. b < m.blocks) on.map_is below);
    lanes = λ lane o is. (let is_old : open_at old.lanes lane ≡ Some o = was_open lane is in
        let knows = logic.lanes lane o is_old in record {
          count = knows.count;
          are = subst (λ m. AreBlocks m.atom knows.count (plain lane).bytes) (sym on.map_is) knows.are;
          least = knows.least;
          most = knows.most;
          exact = knows.exact;
          holds = λ some. rw on.entries (knows.holds some);
          reads = λ reading k below. subst (λ m. IsRight left (o.range.start + k)
              (block_at m.atom (plain lane).bytes k)) (sym on.map_is) (knows.reads reading k below);
          kept = knows.kept;
          breaks = λ writes failed some. absurd (let broke = knows.breaks writes failed some in cc);
          beside = beside lane o is_old knows;
          edges = subst (λ m. KnowsEdges m.atom left o.ask o.fetched knows.count (plain lane).edges)
              (sym on.map_is) knows.edges;
          edges_hold = λ some. rw on.entries (knows.edges_hold some);
        });
  }

  -- a block that was the zone's, which nobody has tried, and whose atom is still the old one
  pub record IsBack (seals : Seals) (plain : ℕ → InPlain) (left : List Block) (after : View)
      (b : ℕ) : Type 0 where
    pub untried : (lane : ℕ) (value : List ℕ) → IsTriedBy old plain lane b value → ⊥
    pub current : IsSealed old.map seals b (block_in left b).newest
        (after.current (place_in old.map b))
    pub candidates : (atom : List ℕ) → Contains (after.candidates (place_in old.map b)) atom
        → IsSealed old.map seals b (block_in left b).newest atom

  -- what a call leaves: of blocks that are live after it, of those that were, and of the zone
  pub record IsAround (seals : Seals) (plain : ℕ → InPlain) (left : List Block)
      (view after : View) : Type 0 where
    pub live : (b : ℕ) → IsLive new b → IsLive old b ⊎ IsBack seals plain left after b
    pub beside : (b : ℕ) → IsLive old b → Leaves view after (place_in old.map b)
    pub zone : ShowsWork new seals left after

  back_now : {seals : Seals} {plain : ℕ → InPlain} {left : List Block} {after : View} (b : ℕ)
      → IsBack seals plain left after b → IsNow new plain left b (block_in left b).newest
  back_now {left = left} b back = now_kept same_tried left b (block_in left b).newest
      (inr (back.untried, refl))

  -- live blocks
  pub around : {plain : ℕ → InPlain} {seals : Seals} {left : List Block} {view after : View}
      → 0 < old.map.atom → Logic old plain left → old.broken ≡ false → Works old
      → IsAround seals plain left view after → Shown old seals plain left view
      → Shown new seals plain left after
  around {plain} {seals} {left} {view} {after} some logic was works it shown = record {
    current = λ whole b alive. subst (λ m. (value : List ℕ) × IsNow new plain left b value
        × IsSealed m seals b value (after.current (place_in m b))) (sym on.map_is)
        (elim (it.live b alive) [
          | inl live ↦ let (value, is_now, sealed) = shown.current was b live in (
            value,
            now_kept same_tried left b value is_now,
            rw ((it.beside b live).current) sealed,
          )
          | inr back ↦ ((block_in left b).newest, back_now b back, back.current)
        ]);
    candidates = λ b alive atom contains. subst (λ m. (value : List ℕ)
        × IsAllowedAt new plain left b value × IsSealed m seals b value atom) (sym on.map_is)
        (let there = subst (λ m. Contains (after.candidates (place_in m b)) atom) on.map_is contains
        in elim (it.live b alive) [
          | inl live ↦ elim ((it.beside b live).candidates atom there) [
            | inl before ↦
                let (value, allowed, sealed) = shown.candidates b live atom before in
                (value, allowed_kept same_tried left b value allowed, sealed)
            | inr same ↦ let (value, is_now, sealed) = shown.current was b live in (
              value,
              now_allowed new plain left b value (now_kept same_tried left b value is_now),
              rw same sealed,
            )
          ]
          | inr back ↦ (
            (block_in left b).newest,
            inl (newest_contained (block_in left b)),
            back.candidates atom there,
          )
        ]);
    settled = λ lane o is forced is_settled b from to atom contains. subst (λ m. IsSealed m
        seals b (block_at m.atom (plain lane).bytes (b - o.range.start)) atom) (sym on.map_is)
        (let is_old : open_at old.lanes lane ≡ Some o = was_open lane is in
        let knows = logic.lanes lane o is_old in
        let kept = knows.kept is_settled in
        let writes = forced_writes o.ask forced in
        let held : Holds old lane = knows.holds (let least = knows.least in
        omega (arith, kept, from, to, least)) in
        let live = ended_live lane logic.sound (works_apart works) was is_old (writes_lock o.ask writes) held
        (omega (arith, kept, from, to)) b from to in
        elim ((it.beside b live).candidates atom
        (subst (λ m. Contains (after.candidates (place_in m b)) atom) on.map_is contains)) [
          | inl before ↦ shown.settled lane o is_old forced is_settled b from to atom before
          | inr same ↦ let (value, is_now, sealed) = shown.current was b live in
              let own = own_value lane b value logic some is_old writes held from to
              (tried_whole b knows kept from to) is_now in
              rw (← own, same) sealed
        ]);
    zone = it.zone;
  }

-- the zone at hand after one of its steps: its phase and its part moved on
module _ {K : Type 0} {old new : State K} (work : Work) {phase : Phase} {part : Part}
    {is_broken : Bool} (is : old.work ≡ Some work)
    (on : Proceeds old new old.map (advanced work phase part) is_broken) where
  pub governed_back : (b : ℕ) → IsGoverned new b → IsGoverned old b
  governed_back b governed = subst (λ w. IsIn w b) (sym is) (subst (λ w. IsIn w b) on.work governed)

  pub governed_on : (b : ℕ) → IsGoverned old b → IsGoverned new b
  governed_on b governed = subst (λ w. IsIn w b) (sym on.work) (subst (λ w. IsIn w b) is governed)

  pub live_back : (b : ℕ) → IsLive new b → IsLive old b
  live_back b live = record {
    inside = subst (λ m. b < m.blocks) on.map_is live.inside;
    free = λ governed. live.free (governed_on b governed);
  }

  pub works_advanced : new.disk.atoms ≡ old.disk.atoms → old.broken ≡ false
      → IsPhaseOf work.zone.resilience phase → side_before phase ≡ side_before work.phase
      → Works old → Works new
  works_advanced atoms was phased side works next is_next =
      let working = works work is in
      let same : next ≡ advanced work phase part = (let at = on.work in cc) in
      rw same (record {
        lies = record {
          apart = working.lies.apart;
          count = working.lies.count;
          inside = rw on.map_is working.lies.inside;
          fewer = working.lies.fewer;
          held = λ whole some. (let held = working.lies.held was some in record {
            lane = held.lane;
            last = rw on.lanes held.last;
            o = held.o;
            at = rw on.lanes held.at;
            writes = held.writes;
            range = held.range;
            next = held.next;
            unfailed = held.unfailed;
            holds = rw on.entries held.holds;
          });
          away = λ b live area of. rw on.map_is
              (working.lies.away b (live_back b live) area (reaches area of));
        };
        enough = rw on.map_is working.enough;
        phased = phased;
        within = rw atoms (record { zone = working.within.zone; copies = working.within.copies });
        sides = λ b from to. rw (on.map_is, side) (working.sides b from to);
        places = λ b from to. rw on.map_is (working.places b from to);
        worker = λ lane o last at. working.worker lane o (rw (← on.lanes) last)
            (ap (λ l. open_at l lane) (sym on.lanes) ∙ at);
        behind = λ area has. working.behind area has;
        spare = λ area has. (let spare = working.spare area has in record {
          within = rw atoms spare.within;
          copies = spare.copies;
          beside = λ b below. rw on.map_is
              (spare.beside b (subst (λ m. b < m.blocks) on.map_is below));
        });
      })
    where
      reaches : (area : Area) → Reaches (advanced work phase part).layout
          (advanced work phase part).zone area → Reaches work.layout work.zone area
      reaches area of = of

-- a step of the worker that leaves the map, by what its call does
pub worked_served : {K P Q : Type 0} {old new : State K} {next : Work} {seals : Seals}
    {plain : ℕ → InPlain} {left : List Block} {Rel : View → View → Type 0}
    → (here : Here P Q old seals plain left) → (on : Proceeds old new old.map next false)
    → old.broken ≡ false → Works new
    → ((b : ℕ) → side_in old.map b ≡ Zone → IsGoverned new b)
    → ((lane : ℕ) (o : Open) → open_at old.lanes lane ≡ Some o
    → (knows : LaneKnows old plain left lane o) → (b : ℕ) → o.range.start ≤ b
    → b < o.range.start + knows.count → IsGoverned new b → ⊥)
    → Moves P true old.map.atom here.bytes old.disk new.disk Rel
    → ((view after : View) → Rel view after → Shown old seals plain left view
    → IsAround on seals plain left view after) → Here P Q new seals plain left
worked_served here on was works zoned beside moved seen =
    let sound = sound_worked on moved.atoms zoned here.logic.sound in
    here_after here on.map_is works (λ whole. (was, refl))
    (logic_worked on sound was beside here.logic) moved
    (λ view after call shown. around on (positive here) here.logic was here.works
    (seen view after call shown) shown)
