-- Operations that end: what holds between events goes on to hold.
use Rattle.std.proofs.Common.{Contains, List, None, Some, ap, arith, false, inl, inr, length, refl}
use Rattle.std.proofs.Common.{subst, suc, sym, true, ℕ, ◌*◌, ◌+◌, ◌-◌, ◌<◌, ◌∙◌, ◌≡◌, ◌≢◌, ◌≤◌, ◌⊎◌}
use Rattle.std.proofs.lemmas.Bool.{cases_eq as same_or_not}
use Rattle.base_terms.specs.Blocks.{blocks_of, changed}
use Rattle.crash_laws.proofs.HotZones.ZoneFrames.{zone_kept}
use Rattle.plain_disk.specs.Plain.{Block, values_of}
use Rattle.range_lock.specs.Locks.{without}
use Rattle.sector_disk.proofs.DiskViews.Blockwise.{one_block}
use Rattle.sector_disk.specs.DiskViews.Parts.{AreBlocks, block_at}
use Rattle.sector_disk.specs.DiskViews.Views.{IsOutside, IsUnchanged, View}
use Rattle.volume_machine.specs.Asks.{IsForced, IsRead, IsWrite}
use Rattle.volume_machine.specs.Edges.{InPlain, edge_at}
use Rattle.volume_machine.specs.Pieces.{place_in}
use Rattle.volume_machine.specs.Seals.{Seals}
use Rattle.volume_machine.specs.Sound.{IsSound}
use Rattle.volume_machine.specs.States.{IsGoverned, IsLive, State, open_at}
use Rattle.volume_machine.specs.Steps.{Goes, Holds}
use Rattle.volume_machine.specs.Working.{Works}
use Rattle.sector_disk.proofs.DiskViews.Entries.{length-changed}
use Rattle.volume_machine.specs.declared.open.Open.{Open}
use Rattle.volume_machine.proofs.{EdgeBlocks.edges_write, Locking.holds-without}
use Rattle.volume_laws.specs.Contents.{AreBlocksOf, IsAllowedAt, IsNow, IsSealed, IsTriedBy}
use Rattle.volume_laws.specs.Contents.{block_in}
use Rattle.volume_laws.specs.Texts.{texts_of}
use Rattle.volume_laws.proofs.Invariant.{LaneKnows, Logic, Shown, goes_stays, lanes_still}
use Rattle.volume_laws.proofs.Invariant.{logic_kept, shown_by, shown_kept, tried_goes, writes_stay}
use Rattle.volume_laws.proofs.Reading.{held_apart, never_both, read_untried, reads_lock}
use Rattle.volume_laws.proofs.Reading.{tried_apart, writes_lock}
use Rattle.volume_laws.proofs.{Admits.idle, PlainBlocks.block_in-changed_inside}
use Rattle.volume_laws.proofs.{PlainBlocks.block_in-changed_outside, Settling.edge_inside}
use Rattle.volume_laws.proofs.Settling.{knows_renewed}
use Rattle.volume_laws.proofs.{Settling.own_value, Workings.zone_renewed, Writing.in_piece}

-- a lane ended its operation
abbrev pub Ends : {K : Type 0} → State K → State K → ℕ → Type 0
Ends old new lane = Goes old new lane (without lane old.entries) None old.broken

module _ {K : Type 0} {old new : State K} {lane : ℕ} (goes : Ends old new lane) where
  still_holds : (k : ℕ) → k ≢ lane → Holds old k → Holds new k
  still_holds k other held = rw goes.entries_are
      (holds-without lane k old.entries (λ same. other (sym same)) held)

  pub logic_ended : {plain : ℕ → InPlain} {left : List Block}
      → IsSound new → Logic old plain left → Logic new plain left
  logic_ended sound = logic_kept goes (λ whole. whole) sound (λ k other. refl) still_holds
      (λ o is. absurd (cc))

-- a read that ended
pub shown_read_ended : {K : Type 0} {old new : State K} {plain : ℕ → InPlain} {seals : Seals}
    {left : List Block} {lane : ℕ} {o : Open} {view next : View}
    → open_at old.lanes lane ≡ Some o → IsRead o.ask → Ends old new lane → IsUnchanged view next
    → Shown old seals plain left view → Shown new seals plain left next
shown_read_ended is reads goes same = shown_kept (goes_stays goes) (writes_stay
    goes.map goes.lane_is (λ k other. refl) (read_untried is reads) (idle goes.lane_is.own) (λ one
    same_one. absurd (cc))) (λ whole. (sym goes.broken_is ∙ whole, same.current)) same.candidates

-- A write that ended, and what it made of the blocks that it tried: each has the new value, and
-- either keeps those before, or was settled.
pub record EndsWrite {K : Type 0} (old new : State K) (plain : ℕ → InPlain) (left : List Block)
    (lane : ℕ) (o : Open) (change : Block → List ℕ → Block) (count : ℕ) : Type 0 where
  pub some : 0 < old.map.atom
  pub logic : Logic old plain left
  pub at : open_at old.lanes lane ≡ Some o
  pub writes : IsWrite o.ask
  pub holds : Holds old lane
  pub goes : Ends old new lane
  pub are : AreBlocks old.map.atom count (plain lane).bytes
  pub most : o.range.start + count ≤ o.range.end
  pub newest : (block : Block) (value : List ℕ) → (change block value).newest ≡ value
  pub has : (block : Block) (value : List ℕ) → Contains (values_of (change block value)) value
  pub works : Works old
  pub live : (b : ℕ) → o.range.start ≤ b → b < o.range.start + count → IsGoverned old b → ⊥
  pub keeps : 0 < count → ((block : Block) (value other : List ℕ) → Contains (values_of block) other
      → Contains (values_of (change block value)) other) ⊎ (IsForced o.ask × (o.settled ≡ true))

-- the plain disk's blocks then
abbrev pub ended_blocks : {K : Type 0} → State K → (ℕ → InPlain) → List Block → ℕ → Open
    → (Block → List ℕ → Block) → ℕ → List Block
ended_blocks old plain left lane o change count =
    changed change left o.range.start (blocks_of old.map.atom count (plain lane).bytes)

pub ended_outside : {K : Type 0} (old : State K) (plain : ℕ → InPlain) (left : List Block) (lane : ℕ)
    (o : Open) (change : Block → List ℕ → Block) (count b : ℕ) → IsOutside o.range.start count b
    → block_in (ended_blocks old plain left lane o change count) b ≡ block_in left b
ended_outside old plain left lane o change count b outside =
    block_in-changed_outside change left old.map.atom o.range.start count (plain lane).bytes b outside

module _ {K : Type 0} {old new : State K} {plain : ℕ → InPlain} {left : List Block} {lane : ℕ}
    {o : Open} {change : Block → List ℕ → Block} {count : ℕ}
    (it : EndsWrite old new plain left lane o change count) where
  -- the plain disk's blocks once the write has ended
  abbrev ended : List Block
  ended = ended_blocks old plain left lane o change count

  -- a block that it tried, and one that it didn't
  ended_inside : (j : ℕ) → j < count → block_in ended (o.range.start + j)
      ≡ change (block_in left (o.range.start + j)) (block_at old.map.atom (plain lane).bytes j)
  ended_inside j below = block_in-changed_inside change left old.map.atom o.range.start count
      (plain lane).bytes j below (let inside = (it.logic.sound.under_way lane o it.at).inside in
      omega arith)

  ended_at : (b j : ℕ) → j < count → b ≡ o.range.start + j
      → block_in ended b ≡ change (block_in left b) (block_at old.map.atom (plain lane).bytes j)
  ended_at b j lt is = rw is (ended_inside j lt)

  ended_beside : (b : ℕ) → IsOutside o.range.start count b → block_in ended b ≡ block_in left b
  ended_beside = ended_outside old plain left lane o change count

  -- what is governed isn't its own
  pub ended_newest : (b : ℕ) → IsGoverned old b
      → (block_in ended b).newest ≡ (block_in left b).newest
  ended_newest b of = ap (λ block. block.newest)
      (ended_beside b (elim (in_piece o.range.start count b) [
        | inl (j, lt, at) ↦ absurd (it.live b (omega (arith, at)) (omega (arith, at)) of)
        | inr outside ↦ outside
      ]))

  -- only the ended write tried its blocks
  only_own : (k j : ℕ) (value : List ℕ) → j < count → k ≢ lane
      → IsTriedBy old plain k (o.range.start + j) value → ⊥
  only_own k j value below other = tried_apart lane k (o.range.start + j) it.logic it.some (λ same.
      other (sym same)) it.at (writes_lock o.ask it.writes) it.holds (omega arith) (omega arith)

  -- what is tried still was tried before, by another lane
  tried_before : (k b : ℕ) (value : List ℕ) → IsTriedBy new plain k b value
      → (k ≢ lane) × IsTriedBy old plain k b value
  tried_before k b value tried = elim (same_or_not k lane) [
    | inl same ↦
        absurd (idle (ap (λ n. open_at new.lanes n) same ∙ it.goes.lane_is.own) b value tried)
    | inr other ↦
        (other, tried_goes (sym it.goes.map) (sym (it.goes.lane_is.others k other)) refl tried)
  ]

  -- what was tried the ended write tried, or it is tried still
  tried_after : (k b : ℕ) (value : List ℕ) → IsTriedBy old plain k b value
      → IsTriedBy old plain lane b value ⊎ IsTriedBy new plain k b value
  tried_after k b value tried = elim (same_or_not k lane) [
    | inl same ↦ inl (rw same at tried)
    | inr other ↦ inr (tried_goes it.goes.map (it.goes.lane_is.others k other) refl tried)
  ]

  -- what the ended write tried
  own_of : (b : ℕ) (value : List ℕ) → IsTriedBy old plain lane b value → (j : ℕ)
      × (j < count) × (b ≡ o.range.start + j) × (value ≡ block_at old.map.atom (plain lane).bytes j)
  own_of b value tried =
      let one : tried.o ≡ o = cc in
      let begun : o.range.start ≤ b = subst (λ p. p.range.start ≤ b) one tried.begun in
      let enough : suc (b - o.range.start) * old.map.atom ≤ length (plain lane).bytes =
      subst (λ p. suc (b - p.range.start) * old.map.atom ≤ length (plain lane).bytes) one tried.tried in (
        b - o.range.start,
        grind (arith, enough, it.are.size, it.some),
        omega arith,
        subst (λ p. value ≡ block_at old.map.atom (plain lane).bytes (b - p.range.start)) one
            tried.value_is,
      )

  not_own : (b : ℕ) (value : List ℕ) → IsOutside o.range.start count b
      → IsTriedBy old plain lane b value → ⊥
  not_own b value outside tried = let (i, lt, is, same) = own_of b value tried in omega arith

  ended_are : AreBlocksOf old.map ended
  ended_are = record {
    count = length-changed change left o.range.start (blocks_of old.map.atom count (plain lane).bytes)
        ∙ it.logic.are.count;
    newest = λ b below. elim (in_piece o.range.start count b) [
      | inl (j, lt, is) ↦ rw (ap (λ block. block.newest) (ended_at b j lt is)
          ∙ it.newest (block_in left b) (block_at old.map.atom (plain lane).bytes j))
          (one_block old.map.atom count (plain lane).bytes j it.are lt)
      | inr outside ↦ rw (ended_beside b outside) (it.logic.are.newest b below)
    ];
  }

  -- what others have read isn't what the ended write tried
  read_beside : (k : ℕ) (p : Open) (i : ℕ) → open_at old.lanes k ≡ Some p → IsRead p.ask
      → (knows : LaneKnows old plain left k p) → i < knows.count
      → block_in ended (p.range.start + i) ≡ block_in left (p.range.start + i)
  read_beside k p i is reading knows below =
      elim (in_piece o.range.start count (p.range.start + i)) [
        | inl (j, lt, same_b) ↦ elim (same_or_not k lane) [
          | inl same ↦ absurd (let one : p ≡ o = cc in
              never_both p.ask reading (subst (λ q. IsWrite q.ask) (sym one) it.writes))
          | inr other ↦ absurd (held_apart k lane (p.range.start
              + i) it.logic.sound other is (reads_lock p.ask reading) (knows.holds (omega arith))
              (omega arith) (omega arith) it.at it.writes it.holds (omega arith) (omega arith))
        ]
        | inr outside ↦ ended_beside (p.range.start + i) outside
      ]

  -- what others have read of their edges isn't what the ended write tried
  edge_beside : (k : ℕ) (p : Open) (which : ℕ) → k ≢ lane → open_at old.lanes k ≡ Some p
      → (knows : LaneKnows old plain left k p) → which < p.fetched
      → block_in ended (edge_at old.map.atom p.ask which)
      ≡ block_in left (edge_at old.map.atom p.ask which)
  edge_beside k p which other is knows below =
      let inside = edge_inside which (it.logic.sound.under_way k p is) knows below in
      let writes = edges_write old.map.atom p.ask which (omega (arith, below, knows.edges.few)) in
      elim (in_piece o.range.start count (edge_at old.map.atom p.ask which)) [
        | inl (j, lt, same) ↦ absurd (held_apart k lane (edge_at old.map.atom p.ask which)
            it.logic.sound other is (writes_lock p.ask writes)
            (knows.edges_hold (omega (arith, below))) inside.0 inside.1 it.at it.writes it.holds
            (omega (arith, same)) (omega (arith, same, lt, it.most)))
        | inr outside ↦ ended_beside (edge_at old.map.atom p.ask which) outside
      ]

  pub logic_write_ended : IsSound new → (old.broken ≡ false → 0 < count → (block : Block)
      (value : List ℕ) → (change block value).unsure ≡ false) → Logic new plain ended
  logic_write_ended sound sure = record {
    sound = sound;
    are = rw it.goes.map ended_are;
    sure = λ whole b below. (let was : old.broken ≡ false = sym it.goes.broken_is ∙ whole in
        elim (in_piece o.range.start count b) [
          | inl (j, lt, is) ↦ ap (λ block. block.unsure) (ended_at b j lt is)
              ∙ sure was (omega (arith, lt)) (block_in left b)
              (block_at old.map.atom (plain lane).bytes j)
          | inr outside ↦ ap (λ block. block.unsure) (ended_beside b outside)
              ∙ it.logic.sure was b (rw it.goes.map at below)
        ]);
    lanes = lanes_still (goes_stays it.goes)
        it.goes.lane_is (λ k other. refl) (still_holds it.goes) (λ was. it.goes.broken_is
        ∙ was) (λ p is. absurd (cc)) (λ k other p is. let knows = it.logic.lanes k p is in
        knows_renewed knows (λ reading i below.
        let same = read_beside k p i is reading knows below in
        (ap (λ block. block.newest) same, ap (λ block. block.unsure) same)) (λ which below.
        let same = edge_beside k p which other is knows below in
        (ap (λ block. block.newest) same, ap (λ block. block.unsure) same)));
  }

  -- the candidates of a block, after its write ended
  ended_allowed : {seals : Seals} {view : View} → Shown old seals plain left view → (b : ℕ)
      → IsLive old b → (atom : List ℕ) → Contains (view.candidates (place_in old.map b)) atom
      → (value : List ℕ) × IsAllowedAt new plain ended b value × IsSealed old.map seals b value atom
  ended_allowed {seals = seals} shown b below atom contains =
      let (value, allowed, sealed) = shown.candidates b below atom contains in
      elim (in_piece o.range.start count b) [
        | inl (j, lt, is) ↦
            let mine = block_at old.map.atom (plain lane).bytes j in
            let now = ended_at b j lt is in
            let own_has : Contains (values_of (block_in ended b)) mine =
            rw now (it.has (block_in left b) mine) in
            elim (it.keeps (omega arith)) [
              | inl keeps ↦ elim allowed [
                | inl had ↦ (value, inl (rw now (keeps (block_in left b) mine value had)), sealed)
                | inr (k, tried) ↦ elim (tried_after k b value tried) [
                  | inl own ↦
                      let (i, i_lt, i_is, i_value) = own_of b value own in
                      let same_j : i ≡ j = omega arith in (
                        value,
                        inl (subst (λ v. Contains (values_of (block_in ended b)) v) (sym (i_value
                            ∙ ap (λ n. block_at old.map.atom (plain lane).bytes n) same_j)) own_has),
                        sealed,
                      )
                  | inr still ↦ (value, inr (k, still), sealed)
                ]
              ]
              | inr (forced, settled) ↦
                  let place : b - o.range.start ≡ j = omega arith in (
                    mine,
                    inl own_has,
                    subst (λ n. IsSealed old.map
                        seals b (block_at old.map.atom (plain lane).bytes n) atom) place (shown.settled
                        lane o it.at forced settled b (omega arith) (omega arith) atom contains),
                  )
            ]
        | inr outside ↦ elim allowed [
          | inl had ↦ (
            value,
            inl (subst (λ block. Contains (values_of block) value)
                (sym (ended_beside b outside)) had),
            sealed,
          )
          | inr (k, tried) ↦ elim (tried_after k b value tried) [
            | inl own ↦ absurd (not_own b value outside own)
            | inr still ↦ (value, inr (k, still), sealed)
          ]
        ]
      ]

  -- what a block holds, after its write ended
  ended_current : (b : ℕ) (value : List ℕ) → IsNow old plain left b value
      → IsNow new plain ended b value
  ended_current b value is_now = elim (in_piece o.range.start count b) [
    | inl (j, lt, is) ↦
        let now : (block_in ended b).newest ≡ block_at old.map.atom (plain lane).bytes j =
        ap (λ block. block.newest) (ended_at b j lt is)
        ∙ it.newest (block_in left b) (block_at old.map.atom (plain lane).bytes j) in
        let place : b - o.range.start ≡ j = omega arith in
        let enough : suc (b - o.range.start) * old.map.atom ≤ length (plain lane).bytes =
        (rw (place, it.are.size) (grind (arith, lt))) in
        let own = own_value lane b value it.logic it.some it.at it.writes it.holds
        (omega arith) (omega arith) enough is_now in
        inr (
          λ k other tried. (let (differ, before) = tried_before k b other tried in
              only_own k j other lt differ (rw is at before)),
          own ∙ ap (λ n. block_at old.map.atom (plain lane).bytes n) place ∙ sym now,
        )
    | inr outside ↦ beside outside is_now
  ]
    where
      beside : IsOutside o.range.start count b → IsNow old plain left b value
          → IsNow new plain ended b value
      beside outside (inl (k, tried)) = elim (tried_after k b value tried) [
        | inl own ↦ absurd (not_own b value outside own)
        | inr still ↦ inl (k, still)
      ]
      beside outside (inr (none, is)) = inr (
        λ k other tried. none k other (tried_before k b other tried).1,
        is ∙ sym (ap (λ block. block.newest) (ended_beside b outside)),
      )

  pub shown_write_ended : {seals : Seals} (view next : View) → IsUnchanged view next
      → Shown old seals plain left view → Shown new seals plain ended next
  shown_write_ended {seals = seals} view next same shown = shown_by (goes_stays it.goes) (λ whole
      b live. let (value, is_now, sealed) = shown.current (sym it.goes.broken_is ∙ whole) b live in
      (value, ended_current b value is_now, rw (same.current (place_in old.map b)) sealed))
      (λ b live atom contains. ended_allowed shown b live atom (same.candidates (place_in old.map b)
      atom contains)) (λ k p is forced settled b from to atom contains. elim (same_or_not k lane) [
        | inl own ↦ absurd (cc)
        | inr other ↦ shown.settled k p (sym (it.goes.lane_is.others k other) ∙ is) forced settled
            b from to atom (same.candidates (place_in old.map b) atom contains)
      ]) (λ work is. zone_renewed seals left ended new.broken
      next (it.works work is) is (λ b below. ended_newest b) (record {
        zone = zone_kept old.map.atom work.layout work.zone (texts_of old.map.atom seals left work)
            work.phase old.broken new.broken view next
            (λ whole. (sym it.goes.broken_is ∙ whole, same.current)) same.candidates
            (shown.zone work is).zone;
        part = (shown.zone work is).part;
        apart = (shown.zone work is).apart;
      }))
