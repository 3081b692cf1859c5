-- Pieces that are written: what holds between events goes on to hold.
use Rattle.std.proofs.Common.{Bool, Contains, List, Some, ap, arith, false, inl, inr, length}
use Rattle.std.proofs.Common.{length-append, refl, subst, suc, sym, true, ℕ, ◌*◌, ◌++◌, ◌+◌, ◌-◌}
use Rattle.std.proofs.Common.{◌<◌, ◌∙◌, ◌≡◌, ◌≤◌, ◌⊎◌}
use Rattle.std.proofs.lemmas.Bool.{cases_lt, cases_eq as same_or_not}
use Rattle.crash_laws.proofs.HotZones.ZoneFrames.{zone_stays, zone_whole}
use Rattle.crash_laws.specs.HotZones.Zones.{Reaches, ShowsZone}
use Rattle.plain_disk.specs.Plain.{Block}
use Rattle.sector_disk.proofs.DiskViews.Blockwise.{block_at-behind, block_at-front, blocks_joined}
use Rattle.sector_disk.proofs.DiskViews.Blockwise.{one_block}
use Rattle.sector_disk.specs.DiskViews.Parts.{AreBlocks, block_at}
use Rattle.sector_disk.specs.DiskViews.Views.{IsOutside, IsTried, IsWritten, View}
use Rattle.segment_map.specs.declared.map.Map.{Map}
use Rattle.segment_map.specs.declared.map.Piece.{Piece}
use Rattle.volume_machine.specs.Asks.{IsForced, IsRead, IsWrite}
use Rattle.volume_machine.specs.Edges.{InPlain, edges_of}
use Rattle.volume_machine.specs.Pieces.{ArePieceBytes, IsPieceOf, place_in, place_of, side_in}
use Rattle.volume_machine.specs.Seals.{AreLawful, Seals}
use Rattle.volume_machine.specs.Sound.{AreApart, IsSound}
use Rattle.volume_machine.specs.States.{IsLive, State, open_at}
use Rattle.volume_machine.specs.Steps.{Goes, HasPiece, Holds}
use Rattle.volume_machine.specs.Working.{Works}
use Rattle.volume_machine.specs.Works.{Work}
use Rattle.crash_laws.specs.HeaderAreas.Areas.{Area}
use Rattle.crash_laws.specs.HotZones.Calls.{write_fails_beside, writes_beside}
use Rattle.volume_machine.specs.declared.open.Open.{Open}
use Rattle.volume_laws.specs.Contents.{IsAllowedAt, IsNow, IsSealed, IsTriedBy}
use Rattle.volume_laws.specs.Texts.{texts_of}
use Rattle.volume_laws.proofs.Invariant.{LaneKnows, Logic, Shown, goes_stays, governed_back}
use Rattle.volume_laws.proofs.Invariant.{logic_kept, shown_by, tried_goes}
use Rattle.volume_laws.proofs.Reading.{AreLive, edges_more, forced_writes, held_apart, never_both}
use Rattle.volume_laws.proofs.Reading.{now_edges, now_is, now_of, now_other, opened_piece}
use Rattle.volume_laws.proofs.Reading.{piece_block, piece_blocks, piece_place, writes_lock}

-- a block is the piece's or not
pub in_piece : (first count b : ℕ)
    → ((j : ℕ) × (j < count) × (b ≡ first + j)) ⊎ IsOutside first count b
in_piece first count b = elim (cases_lt b first) [
  | inl before ↦ inr (inl before)
  | inr from ↦ elim (cases_lt b (first + count)) [
    | inl within ↦ inl (b - first, omega arith, omega arith)
    | inr past ↦ inr (inr past)
  ]
]

-- the place of a block that isn't the piece's is none of the piece's places
place_outside : {map : Map} (o : Open) {piece : Piece} (b : ℕ) → AreApart map
    → IsPieceOf map o piece → o.range.end ≤ map.blocks → b < map.blocks
    → IsOutside o.next piece.count b → IsOutside (place_of map piece) piece.count (place_in map b)
place_outside {map = map} o {piece = piece} b apart next inside below outside =
    elim (in_piece (place_of map piece) piece.count (place_in map b)) [
      | inl (j, lt, is) ↦
          let bound : o.next + piece.count ≤ o.range.end = next.within in
          let same : b ≡ o.next + j = apart b (o.next + j) below (omega arith)
          (is ∙ sym (piece_place o next j lt)) in absurd (omega arith)
      | inr away ↦ away
    ]

-- a lane's operation with one more piece that it has tried
pub record TriesPiece {K : Type 0} (old new : State K) (seals : Seals) (plain : ℕ → InPlain)
    (left : List Block) (lane : ℕ) (o next : Open) (piece : Piece) (bytes : List ℕ) : Type 0 where
  pub lawful : AreLawful old.map.atom seals
  pub some : 0 < old.map.atom
  pub apart : AreApart old.map
  pub logic : Logic old plain left
  pub at : open_at old.lanes lane ≡ Some o
  pub writes : IsWrite o.ask
  pub edges : o.fetched ≡ length (edges_of old.map.atom o.ask)
  pub has : HasPiece o
  pub holds : Holds old lane
  pub is_piece : IsPieceOf old.map o piece
  pub are : ArePieceBytes old.map piece bytes
  pub is_broken : Bool
  pub goes : Goes old new lane old.entries (Some next) is_broken
  pub ask : next.ask ≡ o.ask
  pub range : next.range ≡ o.range
  pub fetched : next.fetched ≡ o.fetched
  pub unsettled : next.settled ≡ o.settled
  pub live : AreLive old o
  pub works : Works old
  pub whole : old.broken ≡ false

module _ {K : Type 0} {old new : State K} {seals : Seals} {plain : ℕ → InPlain} {left : List Block}
    {lane : ℕ} {o next : Open} {piece : Piece} {bytes : List ℕ}
    (it : TriesPiece old new seals plain left lane o next piece bytes) where
  -- what the lanes know in plain then, the piece in plain, and what the lane knew
  abbrev now : ℕ → InPlain
  now = now_of old seals plain lane bytes

  abbrev opened : List ℕ
  opened = opened_piece old seals o bytes

  abbrev knows : LaneKnows old plain left lane o
  knows = it.logic.lanes lane o it.at

  own : (now lane).bytes ≡ (plain lane).bytes ++ opened
  own = now_is old seals plain lane bytes it.at

  exact : o.range.start + knows.count ≡ o.next
  exact = knows.exact it.has.goes_on

  piece_are : AreBlocks old.map.atom piece.count opened
  piece_are = piece_blocks o it.is_piece it.lawful it.are

  long : length ((plain lane).bytes ++ opened) ≡ (knows.count + piece.count) * old.map.atom
  long = rw (length-append (plain lane).bytes opened, knows.are.size, piece_are.size) (grind arith)

  -- what it had tried stays tried
  own_still : (b : ℕ) (value : List ℕ) → IsTriedBy old plain lane b value
      → IsTriedBy new now lane b value
  own_still b value tried =
      let one : tried.o ≡ o = cc in
      let most : suc (b - o.range.start) * old.map.atom ≤ length (plain lane).bytes =
      subst (λ p. suc (b - p.range.start) * old.map.atom ≤ length (plain lane).bytes) one tried.tried in
      let was : value ≡ block_at old.map.atom (plain lane).bytes (b - o.range.start) = subst (λ p. value
      ≡ block_at old.map.atom (plain lane).bytes (b - p.range.start)) one tried.value_is in
      let below : b - o.range.start < knows.count =
      (grind (arith, knows.are.size, most, it.some)) in
      record {
        o = next;
        is = it.goes.lane_is.own;
        writes = rw it.ask it.writes;
        begun = rw it.range (subst (λ p. p.range.start ≤ b) one tried.begun);
        tried = rw (it.goes.map, it.range, own) (omega (arith, length-append (plain lane).bytes opened));
        value_is = rw (it.goes.map, it.range, own) (was ∙ sym
            (block_at-front old.map.atom knows.count (plain lane).bytes opened (b - o.range.start) below
            (omega (arith, knows.are.size))));
      }

  still_tried : (k b : ℕ) (value : List ℕ) → IsTriedBy old plain k b value
      → IsTriedBy new now k b value
  still_tried k b value tried = elim (same_or_not k lane) [
    | inl same ↦ rw same (own_still b value (rw same at tried))
    | inr other ↦ tried_goes it.goes.map (it.goes.lane_is.others k other)
        (now_other old seals plain lane bytes k other) tried
  ]

  -- the piece's blocks are tried now
  now_tried : (j : ℕ) → j < piece.count → IsTriedBy new now lane (o.next + j)
      (block_at old.map.atom opened j)
  now_tried j below =
      let place : o.next + j - o.range.start ≡ knows.count + j = omega (arith, exact) in
      let enough : suc (knows.count + j) * old.map.atom
      ≤ (knows.count + piece.count) * old.map.atom = grind (arith, below) in
      record {
        o = next;
        is = it.goes.lane_is.own;
        writes = rw it.ask it.writes;
        begun = rw it.range (omega (arith, exact));
        tried = rw (it.goes.map, it.range, own, place) (rw long enough);
        value_is = rw (it.goes.map, it.range, own, place)
            (sym (block_at-behind old.map.atom knows.count (plain lane).bytes opened j knows.are.size));
      }

  -- no other block is
  own_was : (b : ℕ) (value : List ℕ) → IsOutside o.next piece.count b
      → IsTriedBy new now lane b value
      → IsTriedBy old plain lane b (block_at old.map.atom (plain lane).bytes (b - o.range.start))
  own_was b value outside tried =
      let one : tried.o ≡ next = (cc) in let begun : o.range.start ≤ b =
      rw (← it.range) (subst (λ p. p.range.start ≤ b) one tried.begun) in
      let most : suc (b - o.range.start) * old.map.atom
      ≤ (knows.count + piece.count) * old.map.atom = rw (← long, ← own, ← it.range)
      (subst (λ m. suc (b - next.range.start) * m.atom ≤ length (now lane).bytes) it.goes.map
      (subst (λ p. suc (b - p.range.start) * new.map.atom ≤ length (now lane).bytes) one tried.tried)) in
      let inside : b - o.range.start < knows.count + piece.count = (grind (arith, most, it.some)) in
      let count : suc (b - o.range.start) ≤ knows.count = omega (arith, exact) in record {
        o = o;
        is = it.at;
        writes = it.writes;
        begun = begun;
        tried = rw knows.are.size (grind (arith, count));
        value_is = refl;
      }

  was_tried : (k b : ℕ) (value : List ℕ) → IsOutside o.next piece.count b
      → IsTriedBy new now k b value → (before : List ℕ) × IsTriedBy old plain k b before
  was_tried k b value outside tried = elim (same_or_not k lane) [
    | inl same ↦ (
      block_at old.map.atom (plain lane).bytes (b - o.range.start),
      rw same (own_was b value outside (rw same at tried)),
    )
    | inr other ↦ (
      value,
      tried_goes (sym it.goes.map) (sym (it.goes.lane_is.others k other))
          (sym (now_other old seals plain lane bytes k other)) tried,
    )
  ]

  -- what the piece's blocks are sealed to
  piece_sealed : (j : ℕ) → j < piece.count → IsSealed old.map seals (o.next + j)
      (block_at old.map.atom opened j) (block_at old.map.atom bytes j)
  piece_sealed j below =
      let one = one_block old.map.atom piece.count bytes j
      (record { size = it.are.size; are_bytes = it.are.are_bytes }) below in
      let side = side_in old.map (o.next + j) in (
        one_block old.map.atom piece.count opened j piece_are below,
        sym (ap (λ v. seals.sealed side (o.next + j) v)
            (piece_block o it.is_piece it.lawful it.are j below)
            ∙ it.lawful.seals_opened side (o.next + j) (block_at old.map.atom bytes j) one),
      )

  still_allowed : (b : ℕ) (value : List ℕ) → IsAllowedAt old plain left b value
      → IsAllowedAt new now left b value
  still_allowed b value (inl contains) = inl contains
  still_allowed b value (inr (k, tried)) = inr (k, still_tried k b value tried)

  away : (b : ℕ) → b < old.map.blocks → IsOutside o.next piece.count b
      → IsOutside (place_of old.map piece) piece.count (place_in old.map b)
  away b below = place_outside o b it.apart it.is_piece
      (it.logic.sound.under_way lane o it.at).inside below

  at_place : (b j : ℕ) → j < piece.count → b ≡ o.next + j
      → place_in old.map b ≡ place_of old.map piece + j
  at_place b j lt is = ap (λ n. place_in old.map n) is ∙ piece_place o it.is_piece j lt

  -- candidates after a piece that came to the disk, whether its write failed or not
  tried_candidates : {view after : View}
      → IsTried old.map.atom (place_of old.map piece) piece.count bytes view after
      → Shown old seals plain left view → (b : ℕ) → IsLive old b → (atom : List ℕ)
      → Contains (after.candidates (place_in old.map b)) atom
      → (value : List ℕ) × IsAllowedAt new now left b value × IsSealed old.map seals b value atom
  tried_candidates {view = view} {after = after} tried shown b below atom contains =
      let was : Contains (view.candidates (place_in old.map b)) atom → (value : List ℕ)
      × IsAllowedAt new now left b value × IsSealed old.map seals b value atom =
      λ before. (let (value, allowed, sealed) = shown.candidates b below atom before in
      (value, still_allowed b value allowed, sealed)) in
      elim (in_piece o.next piece.count b) [
        | inl (j, lt, is) ↦
            let place = at_place b j lt is in elim (tried.inside j lt atom
            (subst (λ p. Contains (after.candidates p) atom) place contains)) [
              | inl before ↦ was (subst (λ p. Contains (view.candidates p) atom) (sym place) before)
              | inr same ↦ (
                block_at old.map.atom opened j,
                inr (lane, rw is (now_tried j lt)),
                rw (is, same) (piece_sealed j lt),
              )
            ]
        | inr outside ↦ was (tried.outside (place_in old.map b) (away b below.inside outside) atom
            contains)
      ]

  -- what a settled write of another lane leaves stays
  tried_settled : {view after : View}
      → IsTried old.map.atom (place_of old.map piece) piece.count bytes view after
      → Shown old seals plain left view → (k : ℕ) (p : Open) → open_at new.lanes k ≡ Some p
      → IsForced p.ask → p.settled ≡ true → (b : ℕ) → p.range.start ≤ b → b < p.range.end
      → (atom : List ℕ) → Contains (after.candidates (place_in old.map b)) atom
      → IsSealed old.map seals b (block_at old.map.atom (now k).bytes (b - p.range.start)) atom
  tried_settled tried shown k p is forced settled b from to atom contains =
      elim (same_or_not k lane) [
        | inl same ↦
            let one : p ≡ next = (cc) in let was : o.settled ≡ true =
            sym it.unsettled ∙ subst (λ q. q.settled ≡ true) one settled in
            absurd (omega (arith, knows.kept was))
        | inr other ↦
            let was : open_at old.lanes k ≡ Some p = sym (it.goes.lane_is.others k other) ∙ is in
            let others = it.logic.lanes k p was in
            let outside : IsOutside o.next piece.count b = elim (in_piece o.next piece.count b) [
              | inl (j, lt, at) ↦ absurd (held_apart lane
                  k b it.logic.sound (λ same. other (sym same)) it.at (writes_lock o.ask it.writes)
                  it.holds (omega (arith, at, (it.logic.sound.under_way lane o it.at).begun))
                  (omega (arith, at)) was (forced_writes p.ask forced)
                  (others.holds (omega (arith, others.kept settled))) from to)
              | inr out ↦ out
            ] in
            rw (now_other old seals plain lane bytes k other) (shown.settled
            k p was forced settled b from to atom (tried.outside (place_in old.map b) (away
            b (omega (arith, (it.logic.sound.under_way k p was).inside)) outside) atom contains))
      ]

  -- what each block holds after a piece was written
  written_current : {view after : View}
      → IsWritten old.map.atom (place_of old.map piece) piece.count bytes view after
      → Shown old seals plain left view → (b : ℕ) → IsLive old b → (value : List ℕ) × IsNow
      new now left b value × IsSealed old.map seals b value (after.current (place_in old.map b))
  written_current written shown b below = elim (in_piece o.next piece.count b) [
    | inl (j, lt, is) ↦ (
      block_at old.map.atom opened j,
      inl (lane, rw is (now_tried j lt)),
      rw (at_place b j lt is, written.inside j lt, is) (piece_sealed j lt),
    )
    | inr outside ↦ let (value, is_now, sealed) = shown.current it.whole b below in (
      value,
      still_now value outside is_now,
      rw (written.outside (place_in old.map b) (away b below.inside outside)) sealed,
    )
  ]
    where
      still_now : (value : List ℕ) → IsOutside o.next piece.count b → IsNow old plain left b value
          → IsNow new now left b value
      still_now value outside (inl (k, tried)) = inl (k, still_tried k b value tried)
      still_now value outside (inr (none, is)) = inr (
        λ k other tried.
            (let (before, was_so) = was_tried k b other outside tried in none k before was_so),
        is,
      )

  -- what the lane knows
  knows_tried : next.next ≤ o.next + piece.count → (next.failed ≡ false → next.next ≡ o.next
      + piece.count) → (next.failed ≡ true → new.broken ≡ true) → LaneKnows new now left lane next
  knows_tried least exact_next breaks =
      let knows = it.logic.lanes lane o it.at in
      let exact : o.range.start + knows.count ≡ o.next = exact in
      record {
        count = knows.count + piece.count;
        are = rw (it.goes.map, own) (blocks_joined
            old.map.atom knows.count piece.count (plain lane).bytes opened knows.are piece_are);
        least = rw it.range (omega (arith, exact));
        most = rw it.range (omega (arith, exact));
        exact = λ whole. (rw it.range (omega (arith, exact, exact_next whole)));
        holds = λ any. rw it.goes.entries_are it.holds;
        reads = λ reading k below. absurd
            (never_both o.ask (subst (λ a. IsRead a) it.ask reading) it.writes);
        kept = λ settled. absurd (omega (arith, knows.kept (sym it.unsettled ∙ settled)));
        breaks = λ writes failed any. breaks failed;
        beside = λ b from to of. (it.live b (rw (← it.range) from)
            (let last = subst (λ r. b < r.start + (knows.count + piece.count)) it.range to in
            omega (arith, exact))).free (governed_back b (goes_stays it.goes) of);
        edges = rw (it.goes.map, it.ask, it.fetched, now_edges old seals plain lane bytes)
            (edges_more knows.edges (λ writes. it.edges));
        edges_hold = λ any. rw it.goes.entries_are it.holds;
      }

  pub logic_tried : IsSound new → (it.is_broken ≡ false → old.broken ≡ false)
      → next.next ≤ o.next + piece.count → (next.failed ≡ false → next.next ≡ o.next + piece.count)
      → (next.failed ≡ true → it.is_broken ≡ true) → Logic new now left
  logic_tried sound unbroken least exact_next breaks =
      logic_kept it.goes unbroken sound (now_other old seals plain lane bytes)
      (λ k other held. rw it.goes.entries_are held) (λ one same. let e : one ≡ next = cc in
      rw e (knows_tried least exact_next (λ failed. it.goes.broken_is ∙ breaks failed))) it.logic

  -- the zone's areas lie apart from a piece
  piece_away : (work : Work) → old.work ≡ Some work → (area : Area)
      → Reaches work.layout work.zone area → (i : ℕ) → i < area.count
      → IsOutside (place_of old.map piece) piece.count (area.start + i)
  piece_away work is area of i below =
      elim (in_piece (place_of old.map piece) piece.count (area.start + i)) [
        | inl (j, lt, same) ↦ absurd (omega (
          arith,
          piece_place o it.is_piece j lt,
          same,
          below,
          (it.works work is).lies.away (o.next + j) (it.live (o.next + j) (omega
              (arith, (it.logic.sound.under_way lane o it.at).begun)) (omega arith)) area of,
        ))
        | inr outside ↦ outside
      ]

  was_shown : {view : View} → Shown old seals plain left view → (work : Work)
      → old.work ≡ Some work → ShowsZone old.map.atom work.layout work.zone
      (texts_of old.map.atom seals left work) work.phase false view
  was_shown {view = view} shown work is = subst (λ b. ShowsZone old.map.atom work.layout work.zone
      (texts_of old.map.atom seals left work) work.phase b view) it.whole (shown.zone work is).zone

  -- a piece was written
  pub shown_written : (view after : View)
      → IsWritten old.map.atom (place_of old.map piece) piece.count bytes view after
      → Shown old seals plain left view → Shown new seals now left after
  shown_written view after written shown = shown_by (goes_stays it.goes)
      (λ whole. written_current written shown) (tried_candidates written.tried shown) (tried_settled
      written.tried shown) (λ work is. record {
        zone = zone_whole old.map.atom work.layout work.zone (texts_of old.map.atom seals left work)
            work.phase new.broken after (zone_stays old.map.atom work.layout work.zone
            (texts_of old.map.atom seals left work) work.phase false view after
            (writes_beside old.map.atom (place_of old.map piece) piece.count bytes
            (piece_away work is) written) (was_shown shown work is));
        part = (shown.zone work is).part;
        apart = (shown.zone work is).apart;
      })

  -- a write of a piece failed
  pub shown_tried : (view after : View)
      → IsTried old.map.atom (place_of old.map piece) piece.count bytes view after
      → new.broken ≡ true → Shown old seals plain left view → Shown new seals now left after
  shown_tried view after tried broken shown = shown_by (goes_stays it.goes)
      (λ whole. absurd (cc)) (tried_candidates tried shown) (tried_settled tried shown)
      (λ work is. rw broken (record {
        zone = zone_stays old.map.atom work.layout work.zone (texts_of old.map.atom seals left work)
            work.phase true view after (write_fails_beside old.map.atom (place_of old.map piece)
            piece.count bytes (piece_away work is) tried) (was_shown shown work is);
        part = (shown.zone work is).part;
        apart = (shown.zone work is).apart;
      }))
