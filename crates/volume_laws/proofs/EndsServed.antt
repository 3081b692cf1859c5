-- Operations that end: they are answered as the plain disk answers.
use Rattle.std.proofs.Common.{Bool, Contains, List, None, Some, [], ap, arith, drop, false}
use Rattle.std.proofs.Common.{if◌then◌else◌, inl, inr, length, max, refl, slice_index_or, subst, sym}
use Rattle.std.proofs.Common.{take, true, ℕ, ◌%◌, ◌*◌, ◌+◌, ◌-◌, ◌/◌, ◌<◌, ◌∙◌, ◌∷◌, ◌≡◌, ◌≤◌, ◌⊎◌}
use Rattle.std.proofs.Math.Nat.{mod-add-div'}
use Rattle.std.proofs.lemmas.Bool.{cases_Bool as either, cases_lt}
use Rattle.std.proofs.lemmas.List.Elements.{Contains-push}
use Rattle.base_terms.specs.Blocks.{blocks_of, changed}
use Rattle.plain_disk.proofs.RangeLemmas.{range_of_proper, touched_bytes, touched_covers}
use Rattle.plain_disk.proofs.RangeLemmas.{touched_end-none, touched_ends}
use Rattle.plain_disk.specs.Operations.{touched, touched_end}
use Rattle.plain_disk.specs.Plain.{Block, Exchange, tried, values_of, AreSure, newest_bytes}
use Rattle.plain_disk.specs.declared.operation.Reply.TheVariants.{Content, Done, Errno}
use Rattle.volume_machine.specs.Answers.{Answered, IsExchange, by_finish, full_reply, AreExchanges}
use Rattle.volume_machine.specs.Asks.{IsForced, IsRead, IsWrite, has_lock, range_of, wrong_ask}
use Rattle.volume_machine.specs.Edges.{InPlain, edge_at, edges_of, in_range}
use Rattle.volume_machine.specs.Pieces.{IsComplete}
use Rattle.volume_machine.specs.Seals.{Seals}
use Rattle.volume_machine.specs.States.{State, open_at}
use Rattle.volume_machine.specs.Steps.{Holds}
use Rattle.plain_disk.specs.Plain.{Step as PlainStep}
use Rattle.plain_disk.specs.declared.operation.Reply.TheVariants.{ErrnoAt}
use Rattle.volume_machine.specs.Answers.{failed_reply}
use Rattle.volume_machine.specs.declared.ask.Ask.{Ask}
use Rattle.volume_machine.specs.declared.ask.Ask.TheVariants.{Flush, Read, Write}
use Rattle.volume_machine.specs.declared.open.Open.{Open}
use Rattle.volume_laws.specs.Contents.{block_in}
use Rattle.volume_laws.proofs.Answering.{TellsEdged, answer, change_of, legal_one, step_read}
use Rattle.volume_laws.proofs.Answering.{step_unread, step_unwritten, step_written}
use Rattle.volume_laws.proofs.EdgedText.{edged_tried, range_part}
use Rattle.volume_laws.proofs.EventsServed.{IsFine, Served, goes_on}
use Rattle.volume_laws.proofs.Finishing.{Ends, EndsWrite, ended_blocks, ended_newest, logic_ended}
use Rattle.volume_laws.proofs.Finishing.{logic_write_ended, shown_read_ended, shown_write_ended}
use Rattle.volume_laws.proofs.Here.{Here, here_after, moves_not, positive}
use Rattle.volume_laws.proofs.Invariant.{LaneKnows, Logic, goes_stays}
use Rattle.volume_laws.proofs.PlainBlocks.{is_newest_part, sure_part, written-keeps}
use Rattle.volume_laws.proofs.PlainBlocks.{written_contained}

-- what it knows of its text: of so many of the blocks that it touches
record KnowsText {K : Type 0} (old : State K) (plain : ℕ → InPlain) (lane : ℕ) (o : Open)
    (offset len count : ℕ) : Type 0 where
  start : o.range.start ≡ offset / old.map.atom
  end : o.range.end ≡ touched_end old.map.atom offset len
  size : length (plain lane).bytes ≡ count * old.map.atom
  most : count ≤ touched old.map.atom offset len
  all : o.failed ≡ false → o.next ≡ o.range.end → touched old.map.atom offset len ≡ count

knows_text : {K : Type 0} {old : State K} {plain : ℕ → InPlain} {left : List Block} (lane : ℕ)
    {o : Open} (offset len : ℕ) (logic : Logic old plain left) (at : open_at old.lanes lane
    ≡ Some o) → range_of old.map.atom o.ask ≡ range_of old.map.atom (Read offset len)
    → KnowsText old plain lane o offset len (logic.lanes lane o at).count
knows_text {old = old} lane {o = o} offset len logic at asked =
    let knows = logic.lanes lane o at in
    let range = (logic.sound.under_way lane o at).range_is ∙ asked in
    let start : o.range.start ≡ offset / old.map.atom = ap (λ r. r.start) range in
    let end : o.range.end ≡ touched_end old.map.atom offset len = ap (λ r. r.end) range in
    record {
      start = start;
      end = end;
      size = knows.are.size;
      most = omega (arith, start, end, knows.most);
      all = λ unfailed ended. omega (arith, knows.exact unfailed, start, end, ended);
    }

-- what a write that is done makes of a block: the new value is its newest, one of its values, and
-- certain
change_makes : (fua : Bool) (block : Block) (value : List ℕ) → ((change_of fua block value).newest
    ≡ value) × Contains (values_of (change_of fua block value)) value
    × ((change_of fua block value).unsure ≡ false)
change_makes true block value = (refl, Contains-push [] value, refl)
change_makes false block value = (refl, written_contained block value, refl)

module _ {K P Q : Type 0} {seals : Seals} {old new : State K} {plain : ℕ → InPlain}
    {left : List Block} (lane : ℕ) {o : Open} (exchanges : List Exchange)
    (here : Here P Q old seals plain left) (fine : IsFine new)
    (at : open_at old.lanes lane ≡ Some o) (holds : Holds old lane) (goes : Ends old new lane)
    (rests : new.disk ≡ old.disk) where
  proper : wrong_ask old.map.atom (old.map.blocks * old.map.atom) o.ask ≡ None
  proper = (here.logic.sound.under_way lane o at).proper

  -- a read that ends
  read_ended : (one : Answered) → IsRead o.ask → ((exchange : Exchange)
      → IsExchange one exchange → PlainStep old.map.atom left exchange left)
      → AreExchanges (one ∷ []) exchanges → Served P Q seals old new plain left exchanges
  read_ended one reading step are = goes_on (goes_stays goes)
      (legal_one old.map.atom left left one exchanges step are) (here_after here goes.map fine.works
      (λ whole. (sym goes.broken_is ∙ whole, refl)) (logic_ended goes fine.sound here.logic)
      (moves_not rests here.values) (λ view after. shown_read_ended at reading goes))

  -- the newest bytes of a range, out of those of the blocks that it touches
  range_right : (offset len : ℕ) (bytes : List ℕ) → bytes ≡ take (touched old.map.atom offset len
      * old.map.atom) (drop (offset / old.map.atom * old.map.atom) (newest_bytes left))
      → in_range old.map.atom offset len bytes ≡ take len (drop offset (newest_bytes left))
  range_right offset len bytes is = elim (cases_lt 0 len) [
    | inl more ↦
        let atom = old.map.atom in
        let first : offset / atom * atom + offset % atom ≡ offset =
        (let split = mod-add-div' offset atom in omega (arith, split)) in
        let ends = touched_bytes atom offset len (positive here) in
        let covers = touched_covers atom offset len (positive here) more in
        ap (λ xs. in_range atom offset len xs) is
        ∙ range_part (newest_bytes left) (offset / atom * atom) (offset % atom) len
        (touched atom offset len * atom) (omega (arith, first, ends, covers))
        ∙ ap (λ n. take len (drop n (newest_bytes left))) first
    | inr none ↦ let no : len ≡ 0 = omega (arith, none) in rw no refl
  ]

  read_right : (offset len : ℕ) → o.ask ≡ Read offset len → o.failed ≡ false
      → o.next ≡ o.range.end → (in_range old.map.atom offset len (plain lane).bytes
      ≡ take len (drop offset (newest_bytes left)))
      × AreSure (take (touched old.map.atom offset len) (drop (offset / old.map.atom) left))
  read_right offset len is unfailed ended =
      let atom = old.map.atom in let under_way = here.logic.sound.under_way lane o at in
      let knows = here.logic.lanes lane o at in
      let text = knows_text lane offset len here.logic at (ap (λ a. range_of atom a) is) in
      let count : touched atom offset len ≡ knows.count = text.all unfailed ended in
      let ends = touched_ends atom offset len (positive here) in
      let inside : offset / atom + touched atom offset len ≤ length left =
      omega (arith, ends, text.end, under_way.inside, here.logic.are.count) in
      let reading : IsRead o.ask = rw is tt in
      let newest = is_newest_part atom (offset / atom) (touched atom offset len) left
      (plain lane).bytes (λ b
      below. omega (arith, (here.logic.are.newest b (omega (arith, below, here.logic.are.count))).size))
      inside (knows.are.size
      ∙ ap (λ n. n * atom) (sym count)) (λ k below.
      (knows.reads reading k (omega (arith, below, count))).0
      ∙ ap (λ n. (block_in left (n + k)).newest) text.start) in (
        range_right offset len (plain lane).bytes newest,
        sure_part (offset / atom) (touched atom offset len) left inside (λ b from to.
            let k : ℕ = b - offset / atom in
            let place : o.range.start + k ≡ b = omega (arith, text.start, from) in
            subst (λ n. (block_in left n).unsure ≡ false) place
            (knows.reads reading k (omega (arith, from, to, count))).1),
      )

  -- a write that ends, with what it made of its blocks
  write_ended : (change : Block → List ℕ → Block) (one : Answered)
      → IsWrite o.ask → ((block : Block) (value : List ℕ) → ((change block value).newest ≡ value)
      × Contains (values_of (change block value)) value × (old.broken ≡ false
      → 0 < (here.logic.lanes lane o at).count → (change block value).unsure ≡ false))
      → (0 < (here.logic.lanes lane o at).count
      → ((block : Block) (value other : List ℕ) → Contains (values_of block) other
      → Contains (values_of (change block value)) other) ⊎ (IsForced o.ask × (o.settled ≡ true)))
      → ((exchange : Exchange) → IsExchange one exchange → PlainStep old.map.atom
      left exchange (ended_blocks old plain left lane o change (here.logic.lanes lane o at).count))
      → AreExchanges (one ∷ []) exchanges → Served P Q seals old new plain left exchanges
  write_ended change one writing makes keeps step are =
      let knows = here.logic.lanes lane o at in
      let next = ended_blocks old plain left lane o change knows.count in
      let it : EndsWrite old new plain left lane o change knows.count = record {
        some = positive here;
        logic = here.logic;
        at = at;
        writes = writing;
        holds = holds;
        goes = goes;
        works = here.works;
        live = knows.beside;
        are = knows.are;
        most = knows.most;
        newest = λ block value. (makes block value).0;
        has = λ block value. (makes block value).1;
        keeps = keeps;
      } in record {
        next = next;
        legal = legal_one old.map.atom left next one exchanges step are;
        here = here_after here goes.map fine.works (λ whole. (sym goes.broken_is ∙ whole, refl))
            (logic_write_ended it fine.sound (λ was some block value. (makes block value).2 was some))
            (moves_not rests here.values) (shown_write_ended it);
        map = goes.map;
        work = goes.work;
        newest = λ b below. ended_newest it b;
      }

  -- what is known of a write
  module _ (offset len : ℕ) (fua : Bool) (is : o.ask ≡ Write offset len fua) where
    abbrev knows : LaneKnows old plain left lane o
    knows = here.logic.lanes lane o at

    right : wrong_ask old.map.atom (old.map.blocks * old.map.atom) (Write offset len fua) ≡ None
    right = rw is at proper

    text : KnowsText old plain lane o offset len (here.logic.lanes lane o at).count
    text = knows_text lane offset len here.logic at (ap (λ a. range_of old.map.atom a) is)

    -- its edges hold what the plain disk's blocks do
    edges_right : (which : ℕ) → which < length (edges_of old.map.atom (Write offset len fua))
        → 0 < knows.count → slice_index_or (plain lane).edges which []
        ≡ (block_in left (edge_at old.map.atom (Write offset len fua) which)).newest
    edges_right which below some =
        let writing : IsWrite o.ask = rw is tt in
        let read = knows.edges.all writing some in
        let count : length (edges_of old.map.atom o.ask)
        ≡ length (edges_of old.map.atom (Write offset len fua)) =
        ap (λ a. length (edges_of old.map.atom a)) is in
        (knows.edges.are which (omega (arith, below, read, count))).0
        ∙ ap (λ a. (block_in left (edge_at old.map.atom a which)).newest) is

    -- what it tried is what the plain disk makes of its blocks
    tells : TellsEdged old.map.atom left offset len fua knows.count (plain lane)
    tells body long begins keeps = edged_tried old.map.atom offset len knows.count fua left
        (plain lane) body (positive here) (λ b below.
        omega (arith, (here.logic.are.newest b (omega (arith, below, here.logic.are.count))).size))
        (rw here.logic.are.count
        (range_of_proper old.map.atom (old.map.blocks * old.map.atom) offset len 28 right))
        long text.size text.most begins keeps edges_right

    -- a write that failed
    failed_write_served : o.failed ≡ true → AreExchanges (answer old.map.atom o.session
        (Write offset len fua) (plain lane) (Errno 5) ∷ []) exchanges
        → Served P Q seals old new plain left exchanges
    failed_write_served failed =
        let writing : IsWrite o.ask = rw is tt in
        write_ended tried (answer old.map.atom o.session (Write offset len fua) (plain lane) (Errno 5))
        writing (λ block value. (
          refl,
          written_contained block value,
          λ was some. absurd (let breaks = knows.breaks writing failed some in cc),
        )) (λ some. inl written-keeps) (λ exchange is_exchange. subst (λ n. PlainStep old.map.atom
        left exchange (changed tried left n (blocks_of old.map.atom knows.count (plain lane).bytes)))
        (sym text.start) (step_unwritten old.map.atom left
        here.logic.are.count knows.count right (positive here) text.size text.most tells is_exchange))

    -- a write that is done
    written_served : o.failed ≡ false → IsComplete o
        → AreExchanges (answer old.map.atom o.session (Write offset len fua) (plain lane) Done ∷ [])
        exchanges → Served P Q seals old new plain left exchanges
    written_served unfailed complete =
        let all = text.all unfailed complete.pieces in
        write_ended (change_of fua)
        (answer old.map.atom o.session (Write offset len fua) (plain lane) Done)
        (rw is tt) (λ block value. (let makes = change_makes fua block value in
        (makes.0, makes.1, λ was some. makes.2)))
        (λ some. kept fua is (any some)) (λ exchange is_exchange.
        subst (λ n. PlainStep old.map.atom left exchange (changed (change_of fua) left n (blocks_of
        old.map.atom knows.count (plain lane).bytes))) (sym text.start) (step_written old.map.atom
        left here.logic.are.count knows.count right text.size all tells is_exchange))
      where
        -- what touches a block has a byte
        any : 0 < knows.count → 0 < len
        any some = elim (cases_lt 0 len) [
          | inl more ↦ more
          | inr none ↦
              let no : len ≡ 0 = omega (arith, none) in
              let ends : touched_end old.map.atom offset len ≡ offset / old.map.atom =
              ap (λ l. touched_end old.map.atom offset l) no
              ∙ touched_end-none old.map.atom offset in
              absurd (omega (arith, ends, text.most, some))
        ]

        kept : (forced : Bool) → o.ask ≡ Write offset len forced → 0 < len →
            ((block : Block) (value other : List ℕ) → Contains (values_of block) other
            → Contains (values_of (change_of forced block value)) other)
            ⊎ (IsForced o.ask × (o.settled ≡ true))
        kept true asked some = (let forced : IsForced o.ask = rw asked (refl, some) in
            inr (forced, complete.kept forced))
        kept false asked some = inl written-keeps

  -- an operation that ends is answered
  end_by : (ask : Ask) → o.ask ≡ ask → has_lock ask ≡ true
      → (o.failed ≡ true) ⊎ ((o.failed ≡ false) × IsComplete o)
      → AreExchanges (answer old.map.atom o.session ask (plain lane)
      (if o.failed then failed_reply old.map.atom ask (plain lane).bytes
      else full_reply old.map.atom ask (plain lane).bytes) ∷ []) exchanges
      → Served P Q seals old new plain left exchanges
  end_by (Read offset len) is has (inl failed) are = read_ended (answer old.map.atom o.session
      (Read offset len) (plain lane) (ErrnoAt 5 (max offset
      (offset / old.map.atom * old.map.atom + length (plain lane).bytes)))) (rw is tt) (λ exchange.
      step_unread old.map.atom left here.logic.are.count (rw is at proper)) (rw failed at are)
  end_by (Read offset len) is has (inr (unfailed, complete)) are =
      read_ended (answer old.map.atom o.session (Read offset len) (plain lane)
      (Content (in_range old.map.atom offset len (plain lane).bytes))) (rw is tt)
      (λ exchange. step_read old.map.atom left here.logic.are.count (rw is at proper)
      (read_right offset len is unfailed complete.pieces)) (rw unfailed at are)
  end_by (Write offset len fua) is has (inl failed) are =
      failed_write_served offset len fua is failed (rw failed at are)
  end_by (Write offset len fua) is has (inr (unfailed, complete)) are =
      written_served offset len fua is unfailed complete (rw unfailed at are)
  end_by Flush is has ended are = absurd (cc)

  pub finish_served : has_lock o.ask ≡ true → (o.failed ≡ true) ⊎ IsComplete o
      → AreExchanges (by_finish old.map.atom (Some o) (plain lane)) exchanges
      → Served P Q seals old new plain left exchanges
  finish_served has ends = end_by o.ask refl has (elim (either o.failed) [
    | inl failed ↦ inl failed
    | inr unfailed ↦ elim ends [ inl failed ↦ inl failed | inr complete ↦ inr (unfailed, complete) ]
  ])
