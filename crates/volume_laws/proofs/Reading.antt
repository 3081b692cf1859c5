-- Pieces that are read, and reads that are answered: what holds between events goes on to hold.
use Rattle.std.proofs.Common.{Bool, List, Option, Some, ap, arith, false, inl, inr, length, refl}
use Rattle.std.proofs.Common.{subst, suc, sym, true, ℕ, ◌*◌, ◌++◌, ◌+◌, ◌-◌, ◌<◌, ◌∙◌, ◌≡◌, ◌≢◌, ◌≤◌, ◌⊎◌}
use Rattle.std.proofs.lemmas.Bool.{cases_lt, cases_eq as same_or_not}
use Rattle.plain_disk.specs.Plain.{Block}
use Rattle.sector_disk.proofs.DiskViews.Blockwise.{block_at-behind, block_at-front, blocks_joined}
use Rattle.sector_disk.specs.DiskViews.Parts.{AreBlocks, block_at}
use Rattle.sector_disk.specs.DiskViews.Views.{IsUnchanged, View}
use Rattle.segment_map.specs.Maps.{place_on}
use Rattle.segment_map.specs.declared.Side.TheVariants.{New, Old, Zone}
use Rattle.segment_map.specs.declared.map.Map.{Map}
use Rattle.segment_map.specs.declared.map.Piece.{Piece}
use Rattle.volume_machine.specs.Asks.{IsForced, IsRead, IsWrite, entry_of, has_lock, kind_of}
use Rattle.volume_machine.specs.Asks.{range_of}
use Rattle.volume_machine.specs.Edges.{InPlain, edges_of, with_bytes}
use Rattle.volume_machine.specs.Pieces.{ArePieceBytes, IsPieceOf, failing, moved, place_in}
use Rattle.volume_machine.specs.Pieces.{place_of, side_in}
use Rattle.volume_machine.specs.Runs.{plain_piece, with_plain}
use Rattle.volume_machine.specs.Seals.{AreLawful, Seals}
use Rattle.volume_machine.specs.Sound.{IsSound}
use Rattle.volume_machine.specs.States.{IsLive, State, open_at}
use Rattle.volume_machine.specs.Steps.{GetsPiece, Goes, HasPiece, Holds}
use Rattle.range_lock.specs.declared.Kind.TheVariants.{Alone}
use Rattle.volume_machine.specs.{declared.ask.Ask.Ask, declared.ask.Ask.TheVariants.Read}
use Rattle.volume_machine.specs.{declared.ask.Ask.TheVariants.Write, declared.open.Open.Open}
use Rattle.volume_machine.proofs.Locking.{holders-apart}
use Rattle.volume_laws.specs.Contents.{IsTriedBy, block_in}
use Rattle.volume_laws.proofs.Admits.{plain-other, plain-own}
use Rattle.volume_laws.proofs.Invariant.{IsRight, KeepsWrites, KnowsEdges, LaneKnows, Logic, Shown}
use Rattle.volume_laws.proofs.Invariant.{TriesNothing, goes_stays, governed_back, knows_still}
use Rattle.volume_laws.proofs.Invariant.{logic_kept, shown_kept, still_broken, writes_go_on}
use Rattle.volume_laws.proofs.Invariant.{writes_stay}

-- reads and writes have a lock, a write for itself
pub writes_lock : (ask : Ask) → IsWrite ask → has_lock ask ≡ true
writes_lock (Write offset len fua) is = refl
writes_lock _ is = absurd is

pub reads_lock : (ask : Ask) → IsRead ask → has_lock ask ≡ true
reads_lock (Read offset len) is = refl
reads_lock _ is = absurd is

writes_alone : (ask : Ask) → IsWrite ask → kind_of ask ≡ Alone
writes_alone (Write offset len fua) is = refl
writes_alone _ is = absurd is

pub never_both : (ask : Ask) → IsRead ask → IsWrite ask → ⊥
never_both (Read offset len) reads writes = writes
never_both _ reads writes = reads

pub forced_writes : (ask : Ask) → IsForced ask → IsWrite ask
forced_writes (Write offset len fua) forced = tt
forced_writes _ forced = absurd forced

-- a lane's entry in the table
entry_is : {K : Type 0} {state : State K} (lane : ℕ) {o : Open} → IsSound state
    → open_at state.lanes lane ≡ Some o → has_lock o.ask ≡ true →
    Rattle.std.specs.Prelude.find (Rattle.range_lock.specs.Locks.is_of lane) state.entries
    ≡ Some (entry_of state.map.atom lane o.ask)
entry_is lane sound is has = sound.entries lane ∙ rw (is, has) refl

-- two lanes that hold have no block in common where one of them writes
pub held_apart : {K : Type 0} {state : State K} (lane other b : ℕ) {o p : Open} → IsSound state
    → lane ≢ other → open_at state.lanes lane ≡ Some o → has_lock o.ask ≡ true → Holds state lane
    → o.range.start ≤ b → b < o.range.end → open_at state.lanes other ≡ Some p → IsWrite p.ask
    → Holds state other → p.range.start ≤ b → b < p.range.end → ⊥
held_apart {state = state} lane other b {o = o} {p = p} sound differ is has holds from to others_is
    writes others_hold others_from others_to =
    let range : o.range ≡ range_of state.map.atom o.ask = (sound.under_way lane o is).range_is in
    let others_range : p.range ≡ range_of state.map.atom p.ask =
    (sound.under_way other p others_is).range_is in
    holders-apart lane other (entry_of state.map.atom lane o.ask)
    (entry_of state.map.atom other p.ask) state.entries differ (entry_is lane sound is has)
    (entry_is other sound others_is (writes_lock p.ask writes)) holds others_hold
    (rw (← range, ← others_range)
    ((b, ((from, to), (others_from, others_to))), inr (writes_alone p.ask writes)))

-- a block that another lane has tried isn't one that this lane holds
pub tried_apart : {K : Type 0} {state : State K} {plain : ℕ → InPlain} {left : List Block}
    (lane other b : ℕ) {value : List ℕ} {o : Open} → Logic state plain left → 0 < state.map.atom
    → lane ≢ other → open_at state.lanes lane ≡ Some o → has_lock o.ask ≡ true → Holds state lane
    → o.range.start ≤ b → b < o.range.end → IsTriedBy state plain other b value → ⊥
tried_apart lane other b logic some differ is has holds from to tried =
    let knows = logic.lanes other tried.o tried.is in
    let below : b - tried.o.range.start < knows.count =
    grind (arith, knows.are.size, tried.tried, some) in
    held_apart lane other b logic.sound differ is has holds from to tried.is tried.writes
    (knows.holds (omega arith)) tried.begun (omega arith)

-- an operation that hasn't failed and has made no piece has tried nothing
abbrev pub HasMadeNothing : Open → Type 0
HasMadeNothing o = (o.next ≡ o.range.start) × (o.failed ≡ false)

pub tries_nothing : {K : Type 0} {state : State K} {plain : ℕ → InPlain} {left : List Block}
    {lane : ℕ} {o : Open} → Logic state plain left → 0 < state.map.atom
    → open_at state.lanes lane ≡ Some o → HasMadeNothing o → TriesNothing state plain lane
tries_nothing {state = state} {plain = plain} {lane = lane} {o = o} logic some at (first, unfailed) b
    value tried =
    let knows = logic.lanes lane o at in
    let none : knows.count ≡ 0 = omega (arith, knows.exact unfailed, first) in
    let empty : length (plain lane).bytes ≡ 0 =
    knows.are.size ∙ ap (λ n. n * state.map.atom) none ∙ omega arith in
    let bound : 1 * state.map.atom ≤ suc (b - tried.o.range.start) * state.map.atom = grind arith in
    omega (arith, tried.tried, empty, some, bound)

-- the blocks of a piece are on its side, in places one after the other
module _ {map : Map} (o : Open) {piece : Piece} (next : IsPieceOf map o piece) where
  piece_side : (k : ℕ) → k < piece.count → side_in map (o.next + k) ≡ piece.side
  piece_side k below = rw (next.one_side k below) refl

  pub piece_place : (k : ℕ) → k < piece.count → place_in map (o.next + k) ≡ place_of map piece + k
  piece_place k below = rw (piece_side k below, next.first) (place_behind piece.side)
    where
      place_behind : (side : _) → place_on map (o.next + k) side ≡ place_on map o.next side + k
      place_behind Old = omega arith
      place_behind Zone = omega arith
      place_behind New = omega arith

  first_side : side_in map o.next ≡ piece.side
  first_side = let e : o.next ≡ o.next + 0 = omega arith in
      ap (λ b. side_in map b) e ∙ piece_side 0 next.some

  -- a piece in plain: so many blocks, each as it is sealed in its place
  pub piece_blocks : {seals : Seals} {bytes : List ℕ} → AreLawful map.atom seals
      → ArePieceBytes map piece bytes →
      AreBlocks map.atom piece.count (seals.opened (side_in map o.next) o.next bytes)
  piece_blocks {bytes = bytes} lawful are = lawful.keeps_opened (side_in map o.next)
      o.next piece.count bytes (record { size = are.size; are_bytes = are.are_bytes })

  pub piece_block : {seals : Seals} {bytes : List ℕ} → AreLawful map.atom seals
      → ArePieceBytes map piece bytes → (k : ℕ) → k < piece.count →
      block_at map.atom (seals.opened (side_in map o.next) o.next bytes) k
      ≡ seals.opened (side_in map (o.next + k)) (o.next + k) (block_at map.atom bytes k)
  piece_block {seals = seals} {bytes = bytes} lawful are k below =
      lawful.each_opened (side_in map o.next) o.next piece.count bytes
      (record { size = are.size; are_bytes = are.are_bytes }) k below ∙ ap (λ side. seals.opened
      side (o.next + k) (block_at map.atom bytes k)) (first_side ∙ sym (piece_side k below))

-- a block that was read is right, where no unfinished write has tried it
pub right_read : {K : Type 0} {state : State K} {seals : Seals} {plain : ℕ → InPlain} {left : List Block}
    {view : View} (b : ℕ) {sealed : List ℕ} → AreLawful state.map.atom seals
    → Logic state plain left → Shown state seals plain left view → state.broken ≡ false
    → IsLive state b → ((lane : ℕ) (value : List ℕ) → IsTriedBy state plain lane b value → ⊥)
    → sealed ≡ view.current (place_in state.map b)
    → IsRight left b (seals.opened (side_in state.map b) b sealed)
right_read {state = state} {seals = seals} {left = left} b lawful logic shown was below untried
    same =
    let (value, is_now, is_sealed) = shown.current was b below in
    let newest : value ≡ (block_in left b).newest = elim is_now [
      | inl tried ↦ absurd (untried tried.0 value tried.1)
      | inr only ↦ only.1
    ] in (
      ap (λ bytes. seals.opened (side_in state.map b) b bytes) (same ∙ is_sealed.1)
          ∙ lawful.opens_sealed (side_in state.map b) b value is_sealed.0 ∙ newest,
      logic.sure was b below.inside,
    )

-- what is known of the edges once another piece was read or tried
pub edges_more : {atom : ℕ} {left : List Block} {ask : Ask} {read count more : ℕ}
    {edges : List (List ℕ)} → KnowsEdges atom left ask read count edges
    → (IsWrite ask → read ≡ length (edges_of atom ask)) → KnowsEdges atom left ask read more edges
edges_more knows all = record {
  size = knows.size;
  few = knows.few;
  all = λ writes any. all writes;
  are = knows.are;
}

-- no block of an operation is the zone's
abbrev pub AreLive : {K : Type 0} → State K → Open → Type 0
AreLive state o = (b : ℕ) → o.range.start ≤ b → b < o.range.end → IsLive state b

-- what the lanes know in plain once a piece was read or tried
abbrev pub now_of : {K : Type 0} → State K → Seals → (ℕ → InPlain) → ℕ → List ℕ → ℕ → InPlain
now_of old seals plain lane bytes =
    with_plain plain lane (with_bytes (plain lane) (plain_piece seals old lane bytes))

abbrev pub opened_piece : {K : Type 0} → State K → Seals → Open → List ℕ → List ℕ
opened_piece old seals o bytes = seals.opened (side_in old.map o.next) o.next bytes

module _ {K : Type 0} (old : State K) (seals : Seals) (plain : ℕ → InPlain) (lane : ℕ)
    (bytes : List ℕ) where
  pub now_is : {o : Open} → open_at old.lanes lane ≡ Some o →
      (now_of old seals plain lane bytes lane).bytes
      ≡ (plain lane).bytes ++ opened_piece old seals o bytes
  now_is at = ap (λ p. p.bytes)
      (plain-own plain lane (with_bytes (plain lane) (plain_piece seals old lane bytes)))
      ∙ rw at refl

  pub now_edges : (now_of old seals plain lane bytes lane).edges ≡ (plain lane).edges
  now_edges = ap (λ p. p.edges)
      (plain-own plain lane (with_bytes (plain lane) (plain_piece seals old lane bytes)))

  pub now_other : (k : ℕ) → k ≢ lane → now_of old seals plain lane bytes k ≡ plain k
  now_other = plain-other plain lane (with_bytes (plain lane) (plain_piece seals old lane bytes))

-- a read tries nothing
pub read_untried : {K : Type 0} {state : State K} {plain : ℕ → InPlain} {lane : ℕ} {o : Open}
    → open_at state.lanes lane ≡ Some o → IsRead o.ask → TriesNothing state plain lane
read_untried {o = o} at reads b value tried = never_both o.ask reads
    (let one : tried.o ≡ o = (cc) in subst (λ p. IsWrite p.ask) one tried.writes)

-- a piece was read
module _ {K : Type 0} {old new : State K} {seals : Seals} {plain : ℕ → InPlain} {left : List Block}
    {view : View} {lane : ℕ} {o : Open} {bytes : List ℕ} (at : open_at old.lanes lane ≡ Some o)
    (reads : IsRead o.ask) (is : GetsPiece old lane o bytes new)
    (lawful : AreLawful old.map.atom seals) (some : 0 < old.map.atom)
    (shown : Shown old seals plain left view) (live : AreLive old o) (has : HasPiece o)
    (holds : Holds old lane) (content : (k : ℕ) → k < is.piece.count
    → block_at old.map.atom bytes k ≡ view.current (place_of old.map is.piece + k)) where
  knows_read : Logic old plain left
      → LaneKnows new (now_of old seals plain lane bytes) left lane (moved o is.piece)
  knows_read logic =
      let knows = logic.lanes lane o at in let opened = opened_piece old seals o bytes in
      let all : (now_of old seals plain lane bytes lane).bytes ≡ (plain lane).bytes ++ opened =
      now_is old seals plain lane bytes at in
      let exact : o.range.start + knows.count ≡ o.next = knows.exact has.goes_on in
      let under_way = logic.sound.under_way lane o at in record {
        count = knows.count + is.piece.count;
        are = rw (is.goes.map, all) (blocks_joined old.map.atom knows.count
            is.piece.count (plain lane).bytes opened knows.are (piece_blocks o is.next lawful is.are));
        least = omega arith;
        most = omega arith;
        exact = λ whole. omega arith;
        holds = λ any. rw is.goes.entries_are holds;
        reads = λ reading k below. rw (is.goes.map, all) (elim (cases_lt k knows.count) [
          | inl lt ↦ rw (block_at-front old.map.atom
              knows.count (plain lane).bytes opened k lt (omega arith)) (knows.reads reads k lt)
          | inr ge ↦
              let j : ℕ = k - knows.count in
              let place : k ≡ knows.count + j = omega arith in
              let lt : j < is.piece.count = omega arith in
              let b : o.range.start + k ≡ o.next + j = omega arith in
              let value : block_at old.map.atom ((plain lane).bytes ++ opened) k ≡ seals.opened
              (side_in old.map (o.next + j)) (o.next + j) (block_at old.map.atom bytes j) =
              ap (λ n. block_at old.map.atom ((plain lane).bytes ++ opened) n) place
              ∙ block_at-behind old.map.atom knows.count (plain lane).bytes opened j knows.are.size
              ∙ piece_block o is.next lawful is.are j lt in
              rw (b, value) (right_read (o.next + j) lawful logic shown is.was
              (live (o.next + j) (omega arith) (omega arith))
              (λ other tried_value tried. elim (same_or_not lane other) [
                | inl same ↦ read_untried at reads _ _ (rw (← same) at tried)
                | inr differ ↦ tried_apart lane other (o.next + j) logic some
                    differ at (reads_lock o.ask reads) holds (omega arith) (omega arith) tried
              ]) (content j lt ∙ ap (λ p. view.current p) (sym (piece_place o is.next j lt))))
        ]);
        kept = λ settled. absurd (omega (arith, knows.kept settled));
        breaks = λ writes failed any. absurd (never_both o.ask reads writes);
        beside = λ b
            from to of. (live b from (omega arith)).free (governed_back b (goes_stays is.goes) of);
        edges = rw (is.goes.map, now_edges old seals plain lane bytes)
            (edges_more knows.edges (λ writes. absurd (never_both o.ask reads writes)));
        edges_hold = λ any. rw is.goes.entries_are holds;
      }

  pub logic_read : IsSound new → Logic old plain left
      → Logic new (now_of old seals plain lane bytes) left
  logic_read sound logic =
      logic_kept is.goes (λ whole. is.was) sound (now_other old seals plain lane bytes)
      (λ k other held. rw is.goes.entries_are held)
      (λ one same. let e : one ≡ moved o is.piece = cc in rw e (knows_read logic)) logic

pub shown_read : {K : Type 0} {old new : State K} {seals : Seals} {plain : ℕ → InPlain}
    {left : List Block} {view next : View} {lane : ℕ} {o : Open} {bytes : List ℕ}
    → open_at old.lanes lane ≡ Some o → IsRead o.ask → GetsPiece old lane o bytes new
    → IsUnchanged view next → Shown old seals plain left view
    → Shown new seals (now_of old seals plain lane bytes) left next
shown_read {old = old} {seals = seals} {plain = plain} {lane = lane} {o = o} {bytes = bytes} at
    reads is same = shown_kept (goes_stays is.goes)
    (writes_stay is.goes.map is.goes.lane_is (now_other old seals plain lane bytes)
    (read_untried at reads) (read_untried is.goes.lane_is.own reads)
    (λ one becomes forced settled. let e : one ≡ moved o is.piece = cc in
    never_both o.ask reads (forced_writes o.ask (subst (λ p. IsForced p.ask) e forced))))
    (λ whole. (is.was, same.current)) same.candidates

-- what a lane knows of an operation that failed or is settled
pub knows_with : {K : Type 0} {state : State K} {plain : ℕ → InPlain} {left : List Block} {lane : ℕ}
    {o : Open} (failed settled : Bool) → (failed ≡ false → o.failed ≡ false)
    → (settled ≡ true → o.next ≡ o.range.end) → (knows : LaneKnows state plain left lane o)
    → (IsWrite o.ask → failed ≡ true → 0 < knows.count → state.broken ≡ true)
    → LaneKnows state plain left lane (record o { failed = failed; settled = settled })
knows_with failed settled unfailed kept knows breaks = record {
  count = knows.count;
  are = knows.are;
  least = knows.least;
  most = knows.most;
  exact = λ whole. knows.exact (unfailed whole);
  holds = knows.holds;
  reads = knows.reads;
  kept = kept;
  beside = knows.beside;
  breaks = breaks;
  edges = knows.edges;
  edges_hold = knows.edges_hold;
}

-- an event that leaves the table of locks
module _ {K : Type 0} {old new : State K} {plain : ℕ → InPlain} {left : List Block} {lane : ℕ}
    {next : Option Open} {is_broken : Bool} (goes : Goes old new lane old.entries next is_broken)
    (unbroken : is_broken ≡ false → old.broken ≡ false) where
  pub knows_on : {k : ℕ} {o : Open} → LaneKnows old plain left k o → LaneKnows new plain left k o
  knows_on = knows_still (goes_stays goes) refl (λ held. rw goes.entries_are held)
      (still_broken goes unbroken)

  pub logic_goes_on : IsSound new → ((o : Open) → next ≡ Some o → LaneKnows new plain left lane o)
      → Logic old plain left → Logic new plain left
  logic_goes_on sound = logic_kept goes unbroken sound (λ k other. refl)
      (λ k other held. rw goes.entries_are held)

module _ {K : Type 0} {old new : State K} {lane : ℕ} {o : Open} {is_broken : Bool}
    (at : open_at old.lanes lane ≡ Some o)
    (goes : Goes old new lane old.entries (Some (failing o)) is_broken) where
  pub logic_failed : {plain : ℕ → InPlain} {left : List Block}
      → (is_broken ≡ false → old.broken ≡ false)
      → (IsWrite o.ask → (is_broken ≡ true) ⊎ HasMadeNothing o)
      → IsSound new → Logic old plain left → Logic new plain left
  logic_failed {plain = plain} {left = left} unbroken breaks sound logic =
      logic_goes_on goes unbroken sound
      (λ one same. let e : one ≡ failing o = cc in
      let knows = knows_on goes unbroken (logic.lanes lane o at) in
      rw e (knows_with true o.settled (λ whole. absurd (cc)) knows.kept knows
      (λ writes failed some. goes.broken_is ∙ by knows writes some))) logic
    where
      by : (knows : LaneKnows new plain left lane o) → IsWrite o.ask → 0 < knows.count
          → is_broken ≡ true
      by knows writes some = elim (breaks writes) [
        | inl broke ↦ broke
        | inr (first, unfailed) ↦
            absurd (let exact = knows.exact unfailed in omega (arith, exact, first, some))
      ]

  pub failing_keeps : {plain : ℕ → InPlain} → KeepsWrites old plain new plain
  failing_keeps = writes_go_on goes.map goes.lane_is (λ k other. refl) at refl refl refl refl refl
