-- What holds between the events of a run: of the operations under way, and of what the disk holds.
use Rattle.std.proofs.Common.{Bool, Contains, List, Option, Some, [], ap, false, inl, inr, length}
use Rattle.std.proofs.Common.{refl, slice_index_or, subst, sym, true, ℕ, ◌*◌, ◌+◌, ◌-◌, ◌<◌, ◌∙◌}
use Rattle.std.proofs.Common.{◌≡◌, ◌≢◌, ◌≤◌}
use Rattle.std.proofs.lemmas.Bool.{cases_Bool as either, cases_eq as same_or_not}
use Rattle.crash_laws.proofs.HotZones.ZoneFrames.{zone_kept}
use Rattle.crash_laws.specs.HotZones.Zones.{ShowsZone}
use Rattle.plain_disk.specs.Plain.{Block}
use Rattle.range_lock.specs.declared.Entry.{Entry}
use Rattle.sector_disk.specs.DiskViews.Parts.{AreBlocks, block_at}
use Rattle.sector_disk.specs.DiskViews.Views.{IsThinned, View}
use Rattle.volume_machine.specs.Asks.{IsForced, IsRead, IsWrite}
use Rattle.volume_machine.specs.Edges.{InPlain, edge_at, edges_of}
use Rattle.volume_machine.specs.Pieces.{place_in}
use Rattle.volume_machine.specs.Seals.{Seals}
use Rattle.volume_machine.specs.Sound.{IsSound}
use Rattle.volume_machine.specs.States.{IsGoverned, IsLive, LaneBecomes, State, open_at}
use Rattle.volume_machine.specs.Steps.{Goes, Holds}
use Rattle.volume_machine.specs.Works.{Work}
use Rattle.volume_machine.specs.declared.ask.Ask.{Ask}
use Rattle.volume_machine.specs.declared.open.Open.{Open}
use Rattle.volume_laws.specs.Contents.{AreBlocksOf, IsAllowedAt, IsNow, IsSealed, IsTriedBy}
use Rattle.volume_laws.specs.Contents.{block_in}
use Rattle.volume_laws.specs.Texts.{texts_of}
use Rattle.volume_laws.proofs.ToldApart.{TellsAtoms}
use Rattle.crash_laws.specs.HotZones.Zones.{Hotzone, Texts}
use Rattle.volume_machine.specs.Works.{Part, wanted, fetched}

-- the value of a block that is certain
abbrev pub IsRight : List Block → ℕ → List ℕ → Type 0
IsRight left b value = (value ≡ (block_in left b).newest) × ((block_in left b).unsure ≡ false)

-- the edges that an operation has read hold what the plain disk's blocks do, and all were read before
-- it tried a block
pub record KnowsEdges (atom : ℕ) (left : List Block) (ask : Ask) (read count : ℕ)
    (edges : List (List ℕ)) : Type 0 where
  pub size : length edges ≡ read
  pub few : read ≤ length (edges_of atom ask)
  pub all : IsWrite ask → 0 < count → read ≡ length (edges_of atom ask)
  pub are : (which : ℕ) → which < read
      → IsRight left (edge_at atom ask which) (slice_index_or edges which [])

-- what an operation under way has read, or tried to write: so many blocks
pub record LaneKnows {K : Type 0} (state : State K) (plain : ℕ → InPlain) (left : List Block)
    (lane : ℕ) (o : Open) : Type 0 where
  pub count : ℕ
  pub are : AreBlocks state.map.atom count (plain lane).bytes
  pub least : o.next ≤ o.range.start + count
  pub most : o.range.start + count ≤ o.range.end
  pub exact : o.failed ≡ false → o.range.start + count ≡ o.next
  pub holds : 0 < count → Holds state lane
  pub reads : IsRead o.ask → (k : ℕ) → k < count
      → IsRight left (o.range.start + k) (block_at state.map.atom (plain lane).bytes k)
  pub beside : (b : ℕ) → o.range.start ≤ b → b < o.range.start + count → IsGoverned state b → ⊥
  pub kept : o.settled ≡ true → o.next ≡ o.range.end
  pub breaks : IsWrite o.ask → o.failed ≡ true → 0 < count → state.broken ≡ true
  pub edges : KnowsEdges state.map.atom left o.ask o.fetched count (plain lane).edges
  pub edges_hold : 0 < o.fetched → Holds state lane

-- what holds of the operations
pub record Logic {K : Type 0} (state : State K) (plain : ℕ → InPlain) (left : List Block) : Type 0
  where
    pub sound : IsSound state
    pub are : AreBlocksOf state.map left
    pub sure : state.broken ≡ false → (b : ℕ) → b < state.map.blocks
        → (block_in left b).unsure ≡ false
    pub lanes : (lane : ℕ) (o : Open) → open_at state.lanes lane ≡ Some o
        → LaneKnows state plain left lane o

-- a text is a part of a zone's values, of so many in all
pub record IsPartOf (atom first total : ℕ) (values : ℕ → List ℕ) (text : List ℕ) : Type 0 where
  pub count : ℕ
  pub size : length text ≡ count * atom
  pub within : first + count ≤ total
  pub each : (k : ℕ) → k < count → block_at atom text k ≡ values (first + k)

-- the part on its way is the zone's
abbrev pub KnowsPart : ℕ → Texts → Hotzone (List ℕ) → Part → Type 0
KnowsPart atom texts zone (wanted first) = Unit {0}
KnowsPart atom texts zone (fetched first old) =
    IsPartOf atom first zone.own.count texts.old old

-- what the disk shows of the zone at hand, and what is known of the part on its way
pub record ShowsAtHand (atom : ℕ) (seals : Seals) (left : List Block) (work : Work) (broken : Bool)
    (view : View) : Type 0 where
  pub zone : ShowsZone atom work.layout work.zone (texts_of atom seals left work) work.phase broken
      view
  pub part : KnowsPart atom (texts_of atom seals left work) work.zone work.part
  pub apart : TellsAtoms atom (texts_of atom seals left work) work.zone work.phase

abbrev pub ShowsWork : {K : Type 0} → State K → Seals → List Block → View → Type 0
ShowsWork state seals left view = (work : Work) → state.work ≡ Some work
    → ShowsAtHand state.map.atom seals left work state.broken view

-- what holds of the disk: while nothing has failed it stands for what each block holds; each
-- candidate is an allowed value; and of a write that is settled its own values alone are left
pub record Shown {K : Type 0} (state : State K) (seals : Seals) (plain : ℕ → InPlain)
    (left : List Block) (view : View) : Type 0 where
  pub current : state.broken ≡ false → (b : ℕ) → IsLive state b → (value : List ℕ) × IsNow state
      plain left b value × IsSealed state.map seals b value (view.current (place_in state.map b))
  pub candidates : (b : ℕ) → IsLive state b
      → (atom : List ℕ) → Contains (view.candidates (place_in state.map b)) atom → (value : List ℕ)
      × IsAllowedAt state plain left b value × IsSealed state.map seals b value atom
  pub settled : (lane : ℕ) (o : Open) → open_at state.lanes lane ≡ Some o
      → IsForced o.ask → o.settled ≡ true → (b : ℕ) → o.range.start ≤ b
      → b < o.range.end → (atom : List ℕ) → Contains (view.candidates (place_in state.map b)) atom
      → IsSealed state.map seals b (block_at state.map.atom (plain lane).bytes (b - o.range.start)) atom
  pub zone : ShowsWork state seals left view

-- between two states the same blocks were tried by the same lanes
pub record KeepsTried {K : Type 0} (old : State K) (plain : ℕ → InPlain) (new : State K)
    (now : ℕ → InPlain) : Type 0 where
  pub kept : (lane b : ℕ) (value : List ℕ) → IsTriedBy old plain lane b value
      → IsTriedBy new now lane b value
  pub back : (lane b : ℕ) (value : List ℕ) → IsTriedBy new now lane b value
      → IsTriedBy old plain lane b value

-- and no write became settled
pub record KeepsWrites {K : Type 0} (old : State K) (plain : ℕ → InPlain) (new : State K)
    (now : ℕ → InPlain) : Type 0 where
  pub tried : KeepsTried old plain new now
  pub settled : (lane : ℕ) (o : Open) → open_at new.lanes lane ≡ Some o → IsForced o.ask → o.settled
      ≡ true → (before : Open) × (open_at old.lanes lane ≡ Some before) × (before.ask ≡ o.ask)
      × (before.range ≡ o.range) × (before.settled ≡ true)
      × ((now lane).bytes ≡ (plain lane).bytes)

-- this lane has tried nothing
abbrev pub TriesNothing : {K : Type 0} → State K → (ℕ → InPlain) → ℕ → Type 0
TriesNothing state plain lane = (b : ℕ) (value : List ℕ) → IsTriedBy state plain lane b value → ⊥

-- what a lane has tried stays where its operation keeps its ask and its range
module _ {K : Type 0} {old new : State K} {plain now : ℕ → InPlain} {lane b : ℕ} {value : List ℕ}
    (map : new.map ≡ old.map) where
  pub tried_by : {o next : Open} → open_at old.lanes lane ≡ Some o
      → open_at new.lanes lane ≡ Some next → next.ask ≡ o.ask → next.range ≡ o.range
      → (now lane).bytes ≡ (plain lane).bytes → IsTriedBy old plain lane b value
      → IsTriedBy new now lane b value
  tried_by {o = o} {next = next} is is_next ask range known tried =
      let same : tried.o ≡ o = (cc) in record {
        o = next;
        is = is_next;
        writes = rw (ask, ← same) tried.writes;
        begun = rw (range, ← same) tried.begun;
        tried = rw (range, ← same, map, known) tried.tried;
        value_is = rw (range, ← same, map, known) tried.value_is;
      }

  pub tried_goes : open_at new.lanes lane ≡ open_at old.lanes lane → now lane ≡ plain lane
      → IsTriedBy old plain lane b value → IsTriedBy new now lane b value
  tried_goes same known tried = tried_by tried.is (same ∙ tried.is) refl refl
      (ap (λ p. p.bytes) known) tried

-- blocks and their places stay, and which of them the zone at hand knows
pub record Stays {K : Type 0} (old new : State K) : Type 0 where
  pub map : new.map ≡ old.map
  pub work : new.work ≡ old.work

module _ {K : Type 0} {old new : State K} where
  pub goes_stays : {lane : ℕ} {entries : List Entry} {now : Option Open} {is_broken : Bool}
      → Goes old new lane entries now is_broken → Stays old new
  goes_stays goes = record { map = goes.map; work = goes.work }

  pub governed_back : (b : ℕ) → Stays old new → IsGoverned new b → IsGoverned old b
  governed_back b stays governed = rw stays.work at governed

  pub live_back : (b : ℕ) → Stays old new → IsLive new b → IsLive old b
  live_back b stays live = record {
    inside = rw stays.map at live.inside;
    free = λ governed. live.free (rw stays.work governed);
  }

-- one lane's operation changes, and no other
module _ {K : Type 0} {old new : State K} {plain now : ℕ → InPlain} {lane : ℕ} {next : Option Open}
    (map : new.map ≡ old.map) (lanes : LaneBecomes old.lanes new.lanes lane next)
    (known : (k : ℕ) → k ≢ lane → now k ≡ plain k) where
  tried_stays : ((b : ℕ) (value : List ℕ) → IsTriedBy old plain lane b value
      → IsTriedBy new now lane b value) → ((b : ℕ) (value : List ℕ) → IsTriedBy new now lane b value
      → IsTriedBy old plain lane b value) → KeepsTried old plain new now
  tried_stays kept back = record {
    kept = λ k b value tried. elim (same_or_not k lane) [
      | inl same ↦ rw same (kept b value (rw same at tried))
      | inr other ↦ tried_goes map (lanes.others k other) (known k other) tried
    ];
    back = λ k b value tried. elim (same_or_not k lane) [
      | inl same ↦ rw same (back b value (rw same at tried))
      | inr other ↦ tried_goes (sym map) (sym (lanes.others k other)) (sym (known k other)) tried
    ];
  }

  -- it goes on with what it asked for and knows
  pub tried_go_on : {o p : Open} → open_at old.lanes lane ≡ Some o → next ≡ Some p
      → p.ask ≡ o.ask → p.range ≡ o.range → (now lane).bytes ≡ (plain lane).bytes
      → KeepsTried old plain new now
  tried_go_on is becomes ask range same = tried_stays
      (λ b value. tried_by map is (lanes.own ∙ becomes) ask range same)
      (λ b value. tried_by (sym map) (lanes.own ∙ becomes) is (sym ask) (sym range) (sym same))

  pub writes_go_on : {o p : Open} → open_at old.lanes lane ≡ Some o → next ≡ Some p
      → p.ask ≡ o.ask → p.range ≡ o.range → p.settled ≡ o.settled
      → (now lane).bytes ≡ (plain lane).bytes → KeepsWrites old plain new now
  writes_go_on {o = o} {p = p} is becomes ask range settled knows = record {
    tried = tried_go_on is becomes ask range knows;
    settled = λ k one at forced is_settled. elim (same_or_not k lane) [
      | inl same ↦ rw same (let e : one ≡ p = cc in
          (o, is, rw e (sym ask), rw e (sym range), sym settled ∙ rw (← e) is_settled, knows))
      | inr other ↦ (
        one,
        sym (lanes.others k other) ∙ at,
        refl,
        refl,
        is_settled,
        ap (λ p. p.bytes) (known k other),
      )
    ];
  }

  -- it has tried nothing before and after
  pub tried_stay : TriesNothing old plain lane → TriesNothing new now lane
      → KeepsTried old plain new now
  tried_stay before after = tried_stays (λ b value tried. absurd (before b value tried))
      (λ b value tried. absurd (after b value tried))

  pub writes_stay : TriesNothing old plain lane → TriesNothing new now lane → ((o : Open)
      → next ≡ Some o → IsForced o.ask → o.settled ≡ true → ⊥) → KeepsWrites old plain new now
  writes_stay before after unsettled = record {
    tried = tried_stay before after;
    settled = λ k one at forced is_settled. elim (same_or_not k lane) [
      | inl same ↦ absurd (unsettled one (cc) forced is_settled)
      | inr other ↦ (
        one,
        sym (lanes.others k other) ∙ at,
        refl,
        refl,
        is_settled,
        ap (λ p. p.bytes) (known k other),
      )
    ];
  }

module _ {K : Type 0} {old new : State K} {plain now : ℕ → InPlain}
    (keeps : KeepsTried old plain new now) (left : List Block) (b : ℕ) (value : List ℕ) where
  pub now_kept : IsNow old plain left b value → IsNow new now left b value
  now_kept (inl (lane, tried)) = inl (lane, keeps.kept lane b value tried)
  now_kept (inr (none, is)) =
      inr (λ lane other tried. none lane other (keeps.back lane b other tried), is)

  pub allowed_kept : IsAllowedAt old plain left b value → IsAllowedAt new now left b value
  allowed_kept (inl contains) = inl contains
  allowed_kept (inr (lane, tried)) = inr (lane, keeps.kept lane b value tried)

-- what the disk shows, said of the places that its blocks had before
pub shown_by : {K : Type 0} {old new : State K} {now : ℕ → InPlain} {left : List Block}
    {seals : Seals} {next : View} → Stays old new
    → (new.broken ≡ false → (b : ℕ) → IsLive old b → (value : List ℕ) × IsNow new now left b value
    × IsSealed old.map seals b value (next.current (place_in old.map b))) → ((b : ℕ)
    → IsLive old b → (atom : List ℕ) → Contains (next.candidates (place_in old.map b)) atom
    → (value : List ℕ) × IsAllowedAt new now left b value × IsSealed old.map seals b value atom)
    → ((lane : ℕ) (o : Open) → open_at new.lanes lane ≡ Some o
    → IsForced o.ask → o.settled ≡ true → (b : ℕ) → o.range.start ≤ b
    → b < o.range.end → (atom : List ℕ) → Contains (next.candidates (place_in old.map b)) atom
    → IsSealed old.map seals b (block_at old.map.atom (now lane).bytes (b - o.range.start)) atom)
    → ((work : Work) → old.work ≡ Some work
    → ShowsAtHand old.map.atom seals left work new.broken next) → Shown new seals now left next
shown_by {new = new} {now = now} {left = left} {seals = seals} {next = next} stays current
    candidates settled zone = record {
      current = λ whole b below. subst (λ m. (value : List ℕ) × IsNow new now left b value
          × IsSealed m seals b value (next.current (place_in m b))) (sym stays.map)
          (current whole b (live_back b stays below));
      candidates = λ b below atom contains. subst (λ m. (value : List ℕ)
          × IsAllowedAt new now left b value × IsSealed m seals b value atom) (sym stays.map)
          (candidates b (live_back b stays below) atom (rw stays.map at contains));
      settled = λ lane o is forced is_settled b from to atom contains. rw stays.map
          (settled lane o is forced is_settled b from to atom (rw stays.map at contains));
      zone = λ work is. rw stays.map (zone work (sym stays.work ∙ is));
    }

module _ {K : Type 0} {old new : State K} {plain now : ℕ → InPlain} {left : List Block}
    (stays : Stays old new) where
  -- what the disk shows stays where no write was tried, finished or settled
  pub shown_kept : {seals : Seals} {view next : View} → KeepsWrites old plain new now → (new.broken
      ≡ false → (old.broken ≡ false) × ((place : ℕ) → next.current place ≡ view.current place))
      → IsThinned view next → Shown old seals plain left view → Shown new seals now left next
  shown_kept {seals = seals} {view = view} {next = next} keeps unbroken thinned shown =
      shown_by stays (λ whole b live. let (was, same) = unbroken whole in
      let (value, is_now, sealed) = shown.current was b live in
      (value, now_kept keeps.tried left b value is_now, rw (same (place_in old.map b)) sealed))
      (λ b live atom contains. let (value, allowed, sealed) = shown.candidates b live atom
      (thinned (place_in old.map b) atom contains) in
      (value, allowed_kept keeps.tried left b value allowed, sealed))
      (λ lane o is forced is_settled b from to atom contains.
      let (before, was, ask, range, was_settled, known) =
      keeps.settled lane o is forced is_settled in
      let sealed = shown.settled lane before was (rw ask forced) was_settled b (rw range from)
      (rw range to) atom (thinned (place_in old.map b) atom contains) in
      rw (known, ← range) sealed)
      (λ work is. record {
        zone = zone_kept old.map.atom work.layout work.zone (texts_of old.map.atom seals left work)
            work.phase old.broken new.broken view next unbroken thinned (shown.zone work is).zone;
        part = (shown.zone work is).part;
        apart = (shown.zone work is).apart;
      })

  -- what the other lanes know stays
  pub knows_still : {lane : ℕ} {o : Open} → now lane ≡ plain lane
      → (Holds old lane → Holds new lane) → (old.broken ≡ true → new.broken ≡ true)
      → LaneKnows old plain left lane o → LaneKnows new now left lane o
  knows_still known holds broken knows = record {
    count = knows.count;
    are = rw (stays.map, known) knows.are;
    least = knows.least;
    most = knows.most;
    exact = knows.exact;
    holds = λ some. holds (knows.holds some);
    reads = λ is k below. rw (stays.map, known) (knows.reads is k below);
    kept = knows.kept;
    breaks = λ writes failed some. broken (knows.breaks writes failed some);
    beside = λ b from to of. knows.beside b from to (governed_back b stays of);
    edges = rw (stays.map, known) knows.edges;
    edges_hold = λ some. holds (knows.edges_hold some);
  }

  pub lanes_still : {lane : ℕ} {next : Option Open} → LaneBecomes old.lanes new.lanes lane next
      → ((k : ℕ) → k ≢ lane → now k ≡ plain k) → ((k : ℕ) → k ≢ lane → Holds old k → Holds new k)
      → (old.broken ≡ true → new.broken ≡ true)
      → ((o : Open) → next ≡ Some o → LaneKnows new now left lane o)
      → ((k : ℕ) → k ≢ lane → (o : Open) → open_at old.lanes k ≡ Some o
      → LaneKnows old plain left k o)
      → (k : ℕ) (o : Open) → open_at new.lanes k ≡ Some o → LaneKnows new now left k o
  lanes_still {lane = lane} lanes known holds broken own all k o is = elim (same_or_not k lane) [
    | inl same ↦ rw same (own o (cc))
    | inr other ↦ knows_still (known k other) (holds k other) broken
        (all k other o (sym (lanes.others k other) ∙ is))
  ]

-- an event of one lane
module _ {K : Type 0} {old new : State K} {lane : ℕ} {entries : List Entry} {next : Option Open}
    {is_broken : Bool} (goes : Goes old new lane entries next is_broken)
    (unbroken : is_broken ≡ false → old.broken ≡ false) where
  -- a broken volume stays broken
  pub still_broken : old.broken ≡ true → new.broken ≡ true
  still_broken was = elim (either is_broken) [
    | inl breaks ↦ goes.broken_is ∙ breaks
    | inr stays ↦ absurd (let whole = unbroken stays in cc)
  ]

  -- what holds of the operations goes on to hold where it does of this lane's
  pub logic_kept : {plain now : ℕ → InPlain} {left : List Block} → IsSound new
      → ((k : ℕ) → k ≢ lane → now k ≡ plain k) → ((k : ℕ) → k ≢ lane → Holds old k → Holds new k)
      → ((o : Open) → next ≡ Some o → LaneKnows new now left lane o) → Logic old plain left
      → Logic new now left
  logic_kept sound known holds own logic = record {
    sound = sound;
    are = rw goes.map logic.are;
    sure = λ whole b below. logic.sure (unbroken (sym goes.broken_is ∙ whole)) b
        (rw goes.map at below);
    lanes = lanes_still (goes_stays goes) goes.lane_is known holds still_broken own
        (λ k other. logic.lanes k);
  }
