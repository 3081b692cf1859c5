-- Settles: what holds between events goes on to hold.
use Rattle.std.proofs.Common.{Bool, List, None, Some, ap, arith, false, inl, inr, length, map, refl}
use Rattle.std.proofs.Common.{subst, suc, sym, true, ℕ, ◌*◌, ◌+◌, ◌-◌, ◌<◌, ◌∙◌, ◌≡◌, ◌≤◌}
use Rattle.std.proofs.lemmas.Bool.{cases_eq as same_or_not}
use Rattle.std.proofs.lemmas.List.{length-map}
use Rattle.crash_laws.proofs.HotZones.ZoneFrames.{zone_stays, zone_whole}
use Rattle.crash_laws.specs.HotZones.Zones.{ShowsZone}
use Rattle.plain_disk.specs.Plain.{Block, flushed}
use Rattle.sector_disk.specs.DiskViews.Parts.{block_at}
use Rattle.sector_disk.specs.DiskViews.Views.{IsSynced, IsThinned, View}
use Rattle.volume_machine.specs.Asks.{IsForced, IsRead, IsWrite, has_lock}
use Rattle.volume_machine.specs.Edges.{InPlain, edge_at}
use Rattle.volume_machine.specs.Pieces.{place_in, settling}
use Rattle.volume_machine.specs.Seals.{Seals}
use Rattle.volume_machine.specs.Sound.{IsSound, IsUnderWay}
use Rattle.volume_machine.specs.States.{State, open_at}
use Rattle.volume_machine.specs.Steps.{Goes, Holds}
use Rattle.volume_machine.specs.Working.{Works}
use Rattle.crash_laws.specs.HotZones.Calls.{syncs}
use Rattle.volume_machine.proofs.EdgeBlocks.{edge_touched}
use Rattle.volume_machine.specs.declared.open.Open.{Open}
use Rattle.volume_laws.specs.Contents.{IsAllowedAt, IsNow, block_in}
use Rattle.volume_laws.specs.Texts.{texts_of}
use Rattle.volume_laws.proofs.Admits.{idle}
use Rattle.volume_laws.proofs.Invariant.{KeepsTried, LaneKnows, Logic, Shown, Stays, TriesNothing}
use Rattle.volume_laws.proofs.Invariant.{goes_stays, now_kept, shown_by, shown_kept, tried_go_on}
use Rattle.volume_laws.proofs.Invariant.{tried_stay, writes_stay}
use Rattle.volume_laws.proofs.PlainBlocks.{block_in-flushed, newest_contained}
use Rattle.volume_laws.proofs.Reading.{forced_writes, knows_on, knows_with, logic_goes_on}
use Rattle.volume_laws.proofs.Reading.{tried_apart, writes_lock}
use Rattle.volume_laws.proofs.Workings.{ended_live, works_apart, zone_renewed}

-- what a write that made all its pieces has tried of a block is what the block holds
pub own_value : {K : Type 0} {state : State K} {plain : ℕ → InPlain} {left : List Block}
    (lane b : ℕ) (value : List ℕ) {o : Open} → Logic state plain left → 0 < state.map.atom
    → open_at state.lanes lane ≡ Some o → IsWrite o.ask → Holds state lane → o.range.start ≤ b
    → b < o.range.end → suc (b - o.range.start) * state.map.atom ≤ length (plain lane).bytes
    → IsNow state plain left b value
    → value ≡ block_at state.map.atom (plain lane).bytes (b - o.range.start)
own_value lane b value {o = o} logic some is writes holds from to enough (inl (k, tried)) =
    elim (same_or_not lane k) [
      | inl same ↦ let one : tried.o ≡ o = cc in rw (same, ← one) tried.value_is
      | inr differ ↦ absurd (tried_apart
          lane k b logic some differ is (writes_lock o.ask writes) holds from to tried)
    ]
own_value {state = state} {plain = plain} lane b value {o = o} logic some is writes holds from to
    enough (inr (none, newest)) =
    absurd (none lane (block_at state.map.atom (plain lane).bytes (b - o.range.start)) (record {
      o = o;
      is = is;
      writes = writes;
      begun = from;
      tried = enough;
      value_is = refl;
    }))

-- all its pieces were made
pub tried_whole : {K : Type 0} {state : State K} {plain : ℕ → InPlain} {left : List Block} {lane : ℕ}
    (b : ℕ) {o : Open} → LaneKnows state plain left lane o → o.next ≡ o.range.end → o.range.start
    ≤ b → b < o.range.end → suc (b - o.range.start) * state.map.atom ≤ length (plain lane).bytes
tried_whole b {o = o} knows whole from to =
    let count : suc (b - o.range.start) ≤ knows.count = omega arith in
    rw knows.are.size (grind (arith, count))

-- each write that is settled was all tried before
abbrev SettledBefore : {K : Type 0} → State K → State K → Type 0
SettledBefore old new = (lane : ℕ) (o : Open) → open_at new.lanes lane ≡ Some o
    → IsForced o.ask → o.settled ≡ true → (p : Open) × (open_at old.lanes lane ≡ Some p)
    × IsForced p.ask × (p.range ≡ o.range) × (p.next ≡ p.range.end)

-- after a sync: each block's atom has the one candidate that it holds
module _ {K : Type 0} {old new : State K} {plain : ℕ → InPlain} {left : List Block}
    (next_left : List Block) (logic : Logic old plain left) (some : 0 < old.map.atom)
    (works : Works old) (stays : Stays old new) (was : old.broken ≡ false)
    (keeps : KeepsTried old plain new plain) (newest : (b : ℕ) → b < old.map.blocks
    → (block_in next_left b).newest ≡ (block_in left b).newest)
    (settled : SettledBefore old new) where
  renewed : (b : ℕ) (value : List ℕ) → b < old.map.blocks → IsNow old plain left b value
      → IsNow new plain next_left b value
  renewed b value below now = elim (now_kept keeps left b value now) [
    | inl tried ↦ inl tried
    | inr (none, is) ↦ inr (none, is ∙ sym (newest b below))
  ]

  allowed : (b : ℕ) (value : List ℕ) → IsNow new plain next_left b value
      → IsAllowedAt new plain next_left b value
  allowed b value (inl tried) = inr tried
  allowed b value (inr (none, is)) = inl (rw is (newest_contained (block_in next_left b)))

  shown_synced : {seals : Seals} {view next : View} → IsSynced view next
      → Shown old seals plain left view → Shown new seals plain next_left next
  shown_synced {seals = seals} {view = view} {next = next} synced shown = shown_by stays
      (λ whole b live. let (value, is_now, sealed) = shown.current was b live in
      (value, renewed b value live.inside is_now, rw (synced.current (place_in old.map b)) sealed))
      (λ b live atom contains. let (value, is_now, sealed) = shown.current was b live in (
        value,
        allowed b value (renewed b value live.inside is_now),
        rw (synced.candidates (place_in old.map b) atom contains) sealed,
      )) (λ lane o is forced is_settled b from to atom contains.
      let (p, at, is_forced, range, whole) = settled lane o is forced is_settled in
      let p_from : p.range.start ≤ b = rw range from in
      let p_to : b < p.range.end = rw range to in let knows = logic.lanes lane p at in
      let writes = forced_writes p.ask is_forced in
      let holds : Holds old lane = knows.holds (omega arith) in
      let live = ended_live lane logic.sound (works_apart works) was at (writes_lock p.ask writes) holds
      (omega arith) in
      let (value, is_now, sealed) = shown.current was b (live b p_from p_to) in
      let own = own_value lane b value logic some at writes holds p_from p_to
      (tried_whole b knows whole p_from p_to) is_now in
      rw (← range, ← own, synced.candidates (place_in old.map b) atom contains) sealed)
      (λ work is. let texts = texts_of old.map.atom seals left work in
      zone_renewed seals left next_left
      new.broken next (works work is) is (λ b below of. newest b below) (record {
        zone = zone_whole old.map.atom work.layout work.zone texts work.phase new.broken next
            (zone_stays old.map.atom work.layout work.zone texts work.phase false view next
            (syncs synced) (subst (λ b. ShowsZone old.map.atom work.layout work.zone texts
            work.phase b view) was (shown.zone work is).zone));
        part = (shown.zone work is).part;
        apart = (shown.zone work is).apart;
      }))

-- a block of the plain disk has the same newest value, as certain as before
abbrev pub IsSameIn : List Block → List Block → ℕ → Type 0
IsSameIn left next b = ((block_in next b).newest ≡ (block_in left b).newest)
    × ((block_in next b).unsure ≡ (block_in left b).unsure)

-- what a lane knows of other blocks of the plain disk, where those that it has read are the same
pub knows_renewed : {K : Type 0} {state : State K} {plain : ℕ → InPlain} {left next : List Block}
    {lane : ℕ} {o : Open} → (knows : LaneKnows state plain left lane o) →
    (IsRead o.ask → (k : ℕ) → k < knows.count → IsSameIn left next (o.range.start + k))
    → ((which : ℕ) → which < o.fetched → IsSameIn left next (edge_at state.map.atom o.ask which))
    → LaneKnows state plain next lane o
knows_renewed knows same edges = record {
  count = knows.count;
  are = knows.are;
  least = knows.least;
  most = knows.most;
  exact = knows.exact;
  holds = knows.holds;
  reads = λ reading k below. (let right = knows.reads reading k below in
      let (newest, unsure) = same reading k below in (right.0 ∙ sym newest, unsure ∙ right.1));
  kept = knows.kept;
  beside = knows.beside;
  breaks = knows.breaks;
  edges = record {
    size = knows.edges.size;
    few = knows.edges.few;
    all = knows.edges.all;
    are = λ which below. (let right = knows.edges.are which below in
        let (newest, unsure) = edges which below in (right.0 ∙ sym newest, unsure ∙ right.1));
  };
  edges_hold = knows.edges_hold;
}

-- an edge that was read is one of the volume's blocks
pub edge_inside : {K : Type 0} {state : State K} {plain : ℕ → InPlain} {left : List Block}
    {lane : ℕ} {o : Open} (which : ℕ) → IsUnderWay state.map o
    → LaneKnows state plain left lane o → which < o.fetched
    → (o.range.start ≤ edge_at state.map.atom o.ask which)
    × (edge_at state.map.atom o.ask which < o.range.end)
edge_inside {state = state} {o = o} which under_way knows below =
    let touched = edge_touched state.map.atom o.ask which state.map.some_atom
    (omega (arith, below, knows.edges.few)) in
    let range = under_way.range_is in
    (rw range touched.from, rw range touched.to)

-- a lane that ends its flush has tried nothing
flush_untried : {K : Type 0} {state : State K} {plain : ℕ → InPlain} {lane : ℕ} {o : Open}
    → open_at state.lanes lane ≡ Some o → has_lock o.ask ≡ false → TriesNothing state plain lane
flush_untried {o = o} is free b value tried =
    let one : tried.o ≡ o = cc in
    let locks = writes_lock o.ask (subst (λ p. IsWrite p.ask) one tried.writes) in cc

module _ {K : Type 0} {old new : State K} {plain : ℕ → InPlain} {left : List Block} {lane : ℕ}
    {is_broken : Bool} (goes : Goes old new lane old.entries None is_broken) where
  pub logic_unflushed : (is_broken ≡ false → old.broken ≡ false) → IsSound new
      → Logic old plain left → Logic new plain left
  logic_unflushed unbroken sound = logic_goes_on goes unbroken sound (λ o is. absurd (cc))

  pub logic_flushed : old.broken ≡ false → IsSound new → Logic old plain left
      → Logic new plain (map flushed left)
  logic_flushed was sound logic =
      let ended = logic_unflushed (λ whole. was) sound logic in
      let same : (b : ℕ) → b < new.map.blocks → block_in (map flushed left) b
      ≡ flushed (block_in left b) = λ b below. block_in-flushed left b (omega arith) in record {
        sound = sound;
        are = record {
          count = length-map left flushed ∙ ended.are.count;
          newest = λ b below. rw (same b below) (ended.are.newest b below);
        };
        sure = λ whole b below. rw (same b below) (ended.sure whole b below);
        lanes = λ k o is. (let knows = ended.lanes k o is in
            let under_way = sound.under_way k o is in
            knows_renewed knows (λ reading i below.
            let e = same (o.range.start + i) (omega arith) in
            (ap (λ block. block.newest) e, ap (λ block. block.unsure) e)) (λ which below.
            let inside = edge_inside which under_way knows below in
            let e = same (edge_at new.map.atom o.ask which) (omega (arith, inside.1, under_way.inside))
            in (ap (λ block. block.newest) e, ap (λ block. block.unsure) e)));
      }

  module _ {seals : Seals} {o : Open} {view next : View} (is : open_at old.lanes lane ≡ Some o)
      (free : has_lock o.ask ≡ false) where
    pub shown_flushed : 0 < old.map.atom → Logic old plain left → old.broken ≡ false → Works old
        → IsSynced view next → Shown old seals plain left view
        → Shown new seals plain (map flushed left) next
    shown_flushed some logic was works =
        shown_synced (map flushed left) logic some works (goes_stays goes) was (tried_stay
        goes.map goes.lane_is (λ k other. refl) (flush_untried is free) (idle goes.lane_is.own))
        (λ b below. ap (λ block. block.newest) (block_in-flushed left b (omega arith)))
        (λ k one at forced settled. elim (same_or_not k lane) [
          | inl same ↦ absurd (cc)
          | inr other ↦ let before = sym (goes.lane_is.others k other) ∙ at in
              (one, before, forced, refl, (logic.lanes k one before).kept settled)
        ])

    -- a flush that failed
    pub shown_unflushed : new.broken ≡ true → IsThinned view next → Shown old seals plain left view
        → Shown new seals plain left next
    shown_unflushed broken = shown_kept (goes_stays goes)
        (writes_stay goes.map goes.lane_is (λ k other. refl) (flush_untried is free)
        (idle goes.lane_is.own) (λ one same. absurd (cc))) (λ whole. absurd (cc))

module _ {K : Type 0} {old new : State K} {plain : ℕ → InPlain} {left : List Block} {lane : ℕ}
    {o : Open} (is : open_at old.lanes lane ≡ Some o) (whole : o.next ≡ o.range.end) (goes : Goes
    old new lane old.entries (Some (settling o)) false) (was : old.broken ≡ false) where
  pub logic_settled : IsSound new → Logic old plain left → Logic new plain left
  logic_settled sound logic = logic_goes_on goes (λ stays. was) sound
      (λ one same. let e : one ≡ settling o = cc in
      let knows = knows_on goes (λ stays. was) (logic.lanes lane o is) in
      rw e (knows_with o.failed true (λ unfailed. unfailed) (λ settled. whole) knows knows.breaks))
      logic

  pub shown_settled : {seals : Seals} {view next : View} → 0 < old.map.atom
      → Logic old plain left → IsForced o.ask → Works old → IsSynced view next
      → Shown old seals plain left view → Shown new seals plain left next
  shown_settled some logic forced works = shown_synced left logic some works (goes_stays goes)
      was (tried_go_on goes.map goes.lane_is (λ k other. refl) is refl refl refl refl)
      (λ b below. refl) (λ k one at is_forced settled. elim (same_or_not k lane) [
        | inl same ↦ let e : one ≡ settling o = cc in
            (o, ap (λ n. open_at old.lanes n) same ∙ is, forced, ap (λ p. p.range) (sym e), whole)
        | inr other ↦ let before = sym (goes.lane_is.others k other) ∙ at in
            (one, before, is_forced, refl, (logic.lanes k one before).kept settled)
      ])
