-- A session that came to its requests, once its lanes were dismissed and its cells closed.
use Rattle.std.proofs.Common.{◌≡◌, ◌≢◌, ◌⊎◌, inl, inr, ℕ, zero, suc, ◌+◌, ◌^◌, ◌-◌, ◌<◌, ◌≤◌, Bool, true, false}
use Rattle.std.proofs.Common.{List, [], ◌∷◌, ◌++◌, map, length, slice_index_or, Option, Some, None, ◌||◌}
use Rattle.std.proofs.Common.{Ok, Vec, Global, refl, sym, ◌∙◌, ap, subst, arith}
use Rattle.io_edge.specs.Intake.{Intake}
use Rattle.io_edge.specs.Outlet.{Outlet}
use Rattle.plain_disk.specs.Plain.{Exchange}
use Rattle.nbd_stream.specs.declared.ending.Ending.{Ending}
use Rattle.nbd_stream.specs.declared.ending.Ending.TheVariants.{Memory, PortSpent, WriteFault}
use Rattle.nbd_stream.specs.Moments.{Moment, moment}
use Rattle.nbd_stream.specs.Putting.{IsOut}
use Rattle.nbd_hand.specs.declared.export.Export.{Export}
use Rattle.nbd_hand.specs.declared.negotiation.Agreed.{Agreed}
use Rattle.nbd_hand.specs.Handshakes.{Handshake}
use Rattle.nbd_hand.specs.Negotiation.{Negotiates}
use Rattle.nbd_session.specs.declared.lane.Halt.{Halt}
use Rattle.nbd_session.specs.declared.lane.Halt.TheVariants as Halts
use Rattle.nbd_session.specs.declared.lane.Lane.{Lane}
use Rattle.nbd_session.specs.declared.reader.Reading.{Reading}
use Rattle.nbd_session.specs.declared.reader.Take.{Take}
use Rattle.nbd_session.specs.declared.reader.Taken.{Taken}
use Rattle.nbd_session.specs.declared.writer.Put.{Put}
use Rattle.nbd_session.specs.declared.writer.Writing.{Writing}
use Rattle.nbd_session.specs.declared.writer.Written.{Written}
use Rattle.nbd_session.specs.Flying.{AreMade, AreUsable, HasFlown, HasLanded, IsOneSpent}
use Rattle.nbd_session.specs.Flying.{LeavesSpent}
use Rattle.nbd_session.specs.Flying.{ReaderCell, ReaderPass, WriterCell, WriterPass, any_spent}
use Rattle.nbd_session.specs.Flying.{is_spent_halt}
use Rattle.nbd_session.specs.Lanes.{HasServed, reader_spent}
use Rattle.nbd_session.specs.Merges.{AreFrom, From, items_from}
use Rattle.nbd_session.specs.Puts.{HasWritten, Sends}
use Rattle.nbd_session.specs.Asking.{Asked}
use Rattle.nbd_session.specs.Takes.{Gives, HasRead, ReadingEnds}
use Rattle.nbd_session.specs.Turns.{exchanges_of}
use Rattle.nbd_session.proofs.CountLemmas.{IsLaned, puts-bound, puts-few, reading-few, takes-bound}
use Rattle.nbd_session.proofs.CountLemmas.{takes-few}
use Rattle.nbd_session.proofs.FlightLemmas.{EndsSo, ServedAt, by_memory, by_reading, by_room, by_sink}
use Rattle.nbd_session.proofs.AloneLemmas.{alone-unended, broke-lane}
use Rattle.nbd_session.proofs.FlightLemmas.{answers, broken, flight-served, lane-broke, lane-ended, lane-left, served-flight}
use Rattle.nbd_session.proofs.FlightLemmas.{turns-did}
use Rattle.nbd_session.proofs.LaneHistories.{GivesCalls, below-or-not, gives-from, gives-lane}
use Rattle.nbd_session.proofs.LaneHistories.{one-name}
use Rattle.nbd_session.proofs.LaneLemmas.{served-none}
use Rattle.nbd_session.proofs.PassLemmas.{AreNumbered, calls-at, calls-or, map-at, map-length}
use Rattle.volume_cell.proofs.Names.{not-both, true-or-false}
use Rattle.volume_cell.specs.declared.history.Call.{Call}
use Rattle.volume_cell.specs.declared.knowledge.Knowledge.{Knowledge}
use Rattle.volume_cell.specs.Histories.{account, calls_of}
use Rattle.volume_cell.specs.Passes.{IsAccounted, known}

pub some-same : {A : Type 0} (a b : A) → Some a ≡ Some b → a ≡ b
some-same a b is = cc

some-of : {A : Type 0} (xs : List A) (k : ℕ) → k < length xs → A
some-of [] k below = absurd (omega (arith, below))
some-of (x ∷ xs) k below = x

-- it is the same one, whatever stands for a place behind the list
pub same-place : {X : Type 0} (xs : List X) (j : ℕ) (x y : X) → j < length xs
    → slice_index_or xs j x ≡ slice_index_or xs j y
same-place [] j x y short = absurd (omega (arith, short))
same-place (z ∷ xs) zero x y short = refl
same-place (z ∷ xs) (suc j) x y short = same-place xs j x y (omega (arith, short))

-- a number that no lane has did nothing
pub nothing-served : HasServed Halts.CellSpent [] [] [] []
nothing-served = record {
  served_takes = [];
  served_puts = [];
  served = [];
  last_takes = [];
  last_puts = [];
  last = [];
  are_served = served-none;
  is_last = reader_spent;
  takes_are = refl;
  puts_are = refl;
  turns_are = refl;
}

-- ---- how the lanes halted
swap : (a b c : Bool) → (a || (b || c)) ≡ (b || (a || c))
swap true true c = refl
swap true false c = refl
swap false b c = refl

left-false : (a b : Bool) → (a || b) ≡ false → (a ≡ false) × (b ≡ false)
left-false true b is = absurd (cc)
left-false false b is = (refl, is)

module _ {A B P : Type 0} where
  pub any-more : (lanes : List (Lane A B P)) (lane : Lane A B P)
      → any_spent (lanes ++ lane ∷ []) ≡ (is_spent_halt lane.halt || any_spent lanes)
  unfolding any_spent
  any-more [] lane = refl
  any-more (first ∷ lanes) lane =
      ap (λ b. is_spent_halt first.halt || b) (any-more lanes lane)
      ∙ swap (is_spent_halt first.halt) (is_spent_halt lane.halt) (any_spent lanes)

  pub any-none : (lanes : List (Lane A B P)) → lanes ≡ [] → any_spent lanes ≡ false
  unfolding any_spent
  any-none lanes is = rw is refl

  -- none of them
  none-spent : (lanes : List (Lane A B P)) → any_spent lanes ≡ false → (k : ℕ) (lane : Lane A B P)
      → k < length lanes → is_spent_halt (slice_index_or lanes k lane).halt ≡ false
  unfolding any_spent
  none-spent [] none k lane below = absurd (omega (arith, below))
  none-spent (first ∷ lanes) none zero lane below =
      (left-false (is_spent_halt first.halt) (any_spent lanes) none).0
  none-spent (first ∷ lanes) none (suc k) lane below = none-spent lanes
      (left-false (is_spent_halt first.halt) (any_spent lanes) none).1 k lane (omega (arith, below))

  -- this one did
  record OneSpent (lanes : List (Lane A B P)) : Type 0 where
    place : ℕ
    below : place < length lanes
    is : (lane : Lane A B P) → is_spent_halt (slice_index_or lanes place lane).halt ≡ true

  one-spent : (lanes : List (Lane A B P)) → any_spent lanes ≡ true → OneSpent lanes
  unfolding any_spent
  one-spent [] is = absurd (cc)
  one-spent (first ∷ lanes) is =
      by (true-or-false (is_spent_halt first.halt)) (λ rest. one-spent lanes rest)
    where
      by : (is_spent_halt first.halt ≡ true) ⊎ (is_spent_halt first.halt ≡ false)
          → (any_spent lanes ≡ true → OneSpent lanes) → OneSpent (first ∷ lanes)
      by (inl it) more = record { place = 0; below = omega arith; is = λ lane. it }
      by (inr not) more =
          let rest = more (rw not at is) in record {
            place = suc rest.place;
            below = let below = rest.below in omega (arith, below);
            is = λ lane. rest.is lane;
          }

-- a halt that isn't for want of room
data IsCalm : Halt → Type 0 where
  read_so : (how : Ending) → IsCalm (Halts.RequestsEnded how)
  sink_so : IsCalm Halts.SinkFailed

calm-halt : (halt : Halt) → is_spent_halt (Some halt) ≡ false → IsCalm halt
calm-halt (Halts.RequestsEnded how) is = read_so how
calm-halt Halts.SinkFailed is = sink_so
calm-halt Halts.PortSpent is = absurd (cc)
calm-halt Halts.CellSpent is = absurd (cc)

spent-halt : (halt : Halt) → is_spent_halt (Some halt) ≡ true
    → (halt ≡ Halts.PortSpent) ⊎ (halt ≡ Halts.CellSpent)
spent-halt Halts.PortSpent is = inl refl
spent-halt Halts.CellSpent is = inr refl
spent-halt Halts.SinkFailed is = absurd (cc)
spent-halt (Halts.RequestsEnded how) is = absurd (cc)

memory-differs : Memory ≡ PortSpent → ⊥
memory-differs is = cc

cell-differs : Halts.CellSpent ≡ Halts.PortSpent → ⊥
cell-differs is = cc

port-differs : (how : Ending) → Halts.PortSpent ≡ Halts.RequestsEnded how → ⊥
port-differs how is = cc

fault-differs : WriteFault ≡ PortSpent → ⊥
fault-differs is = cc

-- no request ends a reading as by a spent port
never-spent : (n : ℕ) (ended : Bool) (rest : List ℕ) → ReadingEnds (Some PortSpent) n ended rest → ⊥
never-spent n ended rest ends = ends.0

-- why a session ended so: its sink failed, a lane was out of room, or the requests ended so
pub record EndsBy (failed spent : Bool) (read : Option Ending) (ending : Ending) : Type 0 where
  pub sink : failed ≡ true → ending ≡ WriteFault
  pub spent_so : failed ≡ false → spent ≡ true → ending ≡ PortSpent
  pub read_so_far : (how : Ending) → failed ≡ false → spent ≡ false → read ≡ Some how → ending ≡ how

module _ {S K P A B : Type 0} (intake : S → Intake) (outlet : K → Outlet)
    (usable is_spent : P → Type 0) (did : P → P → List Exchange → Type 0)
    (reader : ReaderCell S A) (writer : WriterCell K B) (ports : List P) (left : Vec P Global)
    (made served : List (Lane (ReaderPass S) (WriterPass K) P)) (begun read : Reading S)
    (start now : Writing K) (v : Knowledge (Reading S) Take Taken)
    (w : Knowledge (Writing K) Put Written)
  where
    -- lanes were made for the ports, served the session and were dismissed, and the cells closed
    pub record HasClosed : Type 0 where
      pub are_made : AreMade usable reader writer ports made
      pub count : length served ≡ length made
      pub flown : (k : ℕ) (lane : Lane (ReaderPass S) (WriterPass K) P) → k < length made
          → HasFlown usable reader writer is_spent did k (slice_index_or made k lane)
          (slice_index_or served k lane)
      pub left_are : left.items ≡ map (λ lane. lane.port) served
      pub has_read : HasRead intake begun read v.history
      pub has_written : HasWritten outlet start now w.history
      pub takes_law : IsAccounted v
      pub takes_name : v.name ≡ []
      pub takes_none : v.calls ≡ []
      pub takes_joined : v.joined
          ≡ map (λ lane. account (known lane.source).name (known lane.source).calls) served
      pub puts_law : IsAccounted w
      pub puts_name : w.name ≡ []
      pub puts_none : w.calls ≡ []
      pub puts_joined : w.joined
          ≡ map (λ lane. account (known lane.sink).name (known lane.sink).calls) served
      pub takes_known : (k : ℕ) (lane : Lane (ReaderPass S) (WriterPass K) P) → k < length served
          → length (known (slice_index_or served k lane).source).history ≤ length v.history
      pub puts_known : (k : ℕ) (lane : Lane (ReaderPass S) (WriterPass K) P) → k < length served
          → length (known (slice_index_or served k lane).sink).history ≤ length w.history
      pub takes_limit : reader.limit ≡ 2 ^ 63 - 2
      pub puts_limit : writer.limit ≡ 2 ^ 63 - 2

    module _ (closed : HasClosed) where
      abbrev AnyLane : Type 0
      AnyLane = Lane (ReaderPass S) (WriterPass K) P

      made-below : (k : ℕ) → k < length ports → k < length made
      made-below k below = let count = closed.are_made.count in omega (arith, below, count)

      served-below : (k : ℕ) → k < length ports → k < length served
      served-below k below =
          let count = closed.are_made.count in let same = closed.count in
          omega (arith, below, count, same)

      ports-below : (k : ℕ) → k < length served → k < length ports
      ports-below k below =
          let count = closed.are_made.count in let same = closed.count in
          omega (arith, below, count, same)

      plain : (n : ℕ) → n ≡ 0 + n
      plain n = omega arith

      takes-numbered : AreNumbered (λ (lane : AnyLane). (known lane.source).name)
          (λ (lane : AnyLane). (known lane.source).calls) 0 served
      takes-numbered = record {
        each = λ k lane below.
            (closed.flown k lane (made-below k (ports-below k below))).ready.source.name
            ∙ ap (λ (n : ℕ). n ∷ []) (plain k);
      }

      puts-numbered : AreNumbered (λ (lane : AnyLane). (known lane.sink).name)
          (λ (lane : AnyLane). (known lane.sink).calls) 0 served
      puts-numbered = record {
        each = λ k lane below.
            (closed.flown k lane (made-below k (ports-below k below))).ready.sink.name
            ∙ ap (λ (n : ℕ). n ∷ []) (plain k);
      }

      -- no call is of a name that no lane has
      pub no-takes : (k : ℕ) → length ports ≤ k → calls_of (k ∷ []) v.history ≡ []
      no-takes k beyond = by (calls-or _ _ v served takes-numbered closed.takes_law
          closed.takes_name closed.takes_none closed.takes_joined (k ∷ []))
        where
          by : (calls_of (k ∷ []) v.history ≡ [])
              ⊎ ((j : ℕ) × (0 ≤ j) × (j < length served) × ((k ∷ []) ≡ (j ∷ [])))
              → calls_of (k ∷ []) v.history ≡ []
          by (inl none) = none
          by (inr (j, above, below, is)) =
              let same = one-name k j is in let less = ports-below j below in
              absurd (omega (arith, same, less, beyond))

      pub no-puts : (k : ℕ) → length ports ≤ k → calls_of (k ∷ []) w.history ≡ []
      no-puts k beyond = by (calls-or _ _ w served puts-numbered closed.puts_law
          closed.puts_name closed.puts_none closed.puts_joined (k ∷ []))
        where
          by : (calls_of (k ∷ []) w.history ≡ [])
              ⊎ ((j : ℕ) × (0 ≤ j) × (j < length served) × ((k ∷ []) ≡ (j ∷ [])))
              → calls_of (k ∷ []) w.history ≡ []
          by (inl none) = none
          by (inr (j, above, below, is)) =
              let same = one-name k j is in let less = ports-below j below in
              absurd (omega (arith, same, less, beyond))

      -- what the lane of a number did
      record AtLane (k : ℕ) : Type 0 where
        at : ServedAt v.history w.history k
        did_so : (port : P) → k < length ports
            → did (slice_index_or ports k port) (slice_index_or left.items k port) (exchanges_of at.turns)
        halted : (lane : AnyLane) → k < length ports
            → (slice_index_or served k lane).halt ≡ Some at.halt
        spent : (port : P) → k < length ports → at.halt ≡ Halts.PortSpent
            → is_spent (slice_index_or left.items k port)
        full : k < length ports → at.halt ≡ Halts.CellSpent → (lane : AnyLane)
            × ((length (known (slice_index_or served k lane).source).history ≡ reader.limit)
            ⊎ (length (known (slice_index_or served k lane).sink).history ≡ writer.limit))

      lane-below : (k : ℕ) → k < length ports → AtLane k
      lane-below k below =
          let some = some-of made k (made-below k below) in
          let flown = closed.flown k some (made-below k below) in
          let new = closed.are_made.each k some.port some below in
          record {
            at = record {
              halt = flown.halt;
              takes = flown.takes;
              puts = flown.puts;
              turns = flown.turns;
              left = flown.left;
              served = flown.served;
              source = calls-at _ _ v served takes-numbered closed.takes_law closed.takes_name
                  closed.takes_none closed.takes_joined k some (served-below k below)
                  ∙ flown.took.calls_are ∙ ap (λ them. them ++ flown.takes) new.no_takes;
              sink = calls-at _ _ w served puts-numbered closed.puts_law closed.puts_name
                  closed.puts_none closed.puts_joined k some (served-below k below)
                  ∙ flown.put.calls_are ∙ ap (λ them. them ++ flown.puts) new.no_puts;
            };
            did_so = λ port _.
                subst (λ (old : P). did old (slice_index_or left.items k port) (exchanges_of flown.turns))
                (closed.are_made.each k port some below).port_is
                (subst (λ (later : P). did (slice_index_or made k some).port later
                (exchanges_of flown.turns))
                (sym (ap (λ (them : List P). slice_index_or them k port) closed.left_are
                ∙ map-at (λ (lane : AnyLane). lane.port) served k some port (served-below k below)))
                flown.did_so);
            halted = λ lane _. by-lane lane;
            spent = λ port _ is. subst is_spent
                (sym (ap (λ (them : List P). slice_index_or them k port) closed.left_are
                ∙ map-at (λ (lane : AnyLane). lane.port) served k some port (served-below k below)))
                (flown.spent is);
            full = λ _ is. (some, flown.full is);
          }
        where
          by-lane : (lane : AnyLane) → (slice_index_or served k lane).halt
              ≡ Some (closed.flown k (some-of made k (made-below k below)) (made-below k below)).halt
          by-lane lane = ap (λ (one : AnyLane). one.halt)
              (same-place served k lane (some-of made k (made-below k below)) (served-below k below))
              ∙ (closed.flown k (some-of made k (made-below k below)) (made-below k below)).halted

      lane-beyond : (k : ℕ) → length ports ≤ k → AtLane k
      lane-beyond k beyond = record {
        at = record {
          halt = Halts.CellSpent;
          takes = [];
          puts = [];
          turns = [];
          left = [];
          served = nothing-served;
          source = no-takes k beyond;
          sink = no-puts k beyond;
        };
        did_so = λ port below. absurd (omega (arith, below, beyond));
        halted = λ lane below. absurd (omega (arith, below, beyond));
        spent = λ port below. absurd (omega (arith, below, beyond));
        full = λ below. absurd (omega (arith, below, beyond));
      }

      at-lane : (k : ℕ) → AtLane k
      at-lane k = by (below-or-not k (length ports))
        where
          by : (k < length ports) ⊎ (length ports ≤ k) → AtLane k
          by (inl below) = lane-below k below
          by (inr beyond) = lane-beyond k beyond

      abbrev at-number : (k : ℕ) → ServedAt v.history w.history k
      at-number k = (at-lane k).at

      -- ---- how many calls there were
      takes-laned : IsLaned (length ports) v.history
      takes-laned name = by (calls-or _ _ v served takes-numbered closed.takes_law closed.takes_name
          closed.takes_none closed.takes_joined name)
        where
          by : (calls_of name v.history ≡ [])
              ⊎ ((j : ℕ) × (0 ≤ j) × (j < length served) × (name ≡ j ∷ []))
              → (calls_of name v.history ≡ [])
              ⊎ ((j : ℕ) × (0 ≤ j) × (j < length ports) × (name ≡ j ∷ []))
          by (inl none) = inl none
          by (inr (j, above, below, is)) = inr (j, above, ports-below j below, is)

      puts-laned : IsLaned (length ports) w.history
      puts-laned name = by (calls-or _ _ w served puts-numbered closed.puts_law closed.puts_name
          closed.puts_none closed.puts_joined name)
        where
          by : (calls_of name w.history ≡ [])
              ⊎ ((j : ℕ) × (0 ≤ j) × (j < length served) × (name ≡ j ∷ []))
              → (calls_of name w.history ≡ [])
              ⊎ ((j : ℕ) × (0 ≤ j) × (j < length ports) × (name ≡ j ∷ []))
          by (inl none) = inl none
          by (inr (j, above, below, is)) = inr (j, above, ports-below j below, is)

      takes-most : (k : ℕ) → k < length ports
          → length (calls_of (k ∷ []) v.history) ≤ suc (length (items_from k closed.has_read.all))
      takes-most k below =
          let lane = at-number k in
          subst (λ (them : List (Call Take Taken)).
          length them ≤ suc (length (items_from k closed.has_read.all))) (sym lane.source)
          (takes-few read.ending lane.halt lane.takes lane.puts lane.turns lane.left
          (items_from k closed.has_read.all) lane.served
          (subst (λ (calls : List (Call Take Taken)).
          GivesCalls read.ending calls (items_from k closed.has_read.all)) lane.source
          (gives-lane k 0 v.history closed.has_read.all read.ending closed.has_read.gives)))

      puts-most : (k : ℕ) → k < length ports
          → length (calls_of (k ∷ []) w.history) ≤ length (calls_of (k ∷ []) v.history)
      puts-most k below =
          let lane = at-number k in
          subst (λ (them : List (Call Put Written)). length them ≤ length (calls_of (k ∷ []) v.history))
          (sym lane.sink) (subst (λ (them : List (Call Take Taken)). length lane.puts ≤ length them)
          (sym lane.source)
          (puts-few lane.halt lane.takes lane.puts lane.turns lane.left lane.served))

      takes-from : AreFrom (length ports) closed.has_read.all
      takes-from = gives-from (length ports) 0 v.history closed.has_read.all read.ending
          closed.has_read.gives no-takes

      few-asked : length closed.has_read.all ≤ 2 ^ 32
      few-asked = reading-few read.ending (length closed.has_read.all) closed.has_read.ended
          closed.has_read.rest closed.has_read.ends

      takes-short : length v.history ≤ 2 ^ 32 + length ports
      takes-short = takes-bound (length ports) v.history w.history closed.has_read.all takes-from
          few-asked takes-laned puts-laned takes-most puts-most

      puts-short : length w.history ≤ 2 ^ 32 + length ports
      puts-short = puts-bound (length ports) v.history w.history closed.has_read.all takes-from
          few-asked takes-laned puts-laned takes-most puts-most

      -- no cell is full
      module _ (few : length ports ≤ 4294967295) where
        cell-spent : (k : ℕ) (lane : AnyLane) → k < length served
            → (length (known (slice_index_or served k lane).source).history ≡ reader.limit)
            ⊎ (length (known (slice_index_or served k lane).sink).history ≡ writer.limit) → ⊥
        cell-spent k lane below (inl full) =
            let known_so = closed.takes_known k lane below in
            let limit = closed.takes_limit in
            let short = takes-short in omega (arith, full, known_so, limit, short, few)
        cell-spent k lane below (inr full) =
            let known_so = closed.puts_known k lane below in
            let limit = closed.puts_limit in
            let short = puts-short in omega (arith, full, known_so, limit, short, few)

        no-full : (k : ℕ) → k < length ports → (at-number k).halt ≢ Halts.CellSpent
        no-full k below is =
            let one = (at-lane k).full below is in cell-spent k one.0 (served-below k below) one.1

        -- so where one was out of room its port is spent
        spent-place : any_spent served ≡ true
            → (k : ℕ) × (k < length ports) × ((at-number k).halt ≡ Halts.PortSpent)
        spent-place is =
            let one = one-spent served is in
            let lane = some-of served one.place one.below in
            let below = ports-below one.place one.below in
            by one.place below (spent-halt (at-number one.place).halt
            (subst (λ (h : Option Halt). is_spent_halt h ≡ true)
            ((at-lane one.place).halted lane below) (one.is lane)))
          where
            by : (k : ℕ) → k < length ports
                → ((at-number k).halt ≡ Halts.PortSpent) ⊎ ((at-number k).halt ≡ Halts.CellSpent)
                → (k : ℕ) × (k < length ports) × ((at-number k).halt ≡ Halts.PortSpent)
            by k below (inl port) = (k, below, port)
            by k below (inr cell) = absurd (no-full k below cell)

        pub spent-port : any_spent served ≡ true → IsOneSpent is_spent left.items
        spent-port is =
            let one = spent-place is in
            let same = ap (λ (them : List P). length them) closed.left_are
            ∙ map-length (λ (it : AnyLane). it.port) served in
            let below = served-below one.0 one.1 in (
              one.0,
              omega (arith, same, below),
              λ port. (at-lane one.0).spent port one.1 one.2,
            )

      -- a lane left a request only where its port is spent
      leaves-spent : LeavesSpent is_spent left.items
          (λ k. (answers intake outlet (length ports) begun read start now v.history w.history
          closed.has_read closed.has_written at-number no-takes no-puts k).left)
      leaves-spent k port below some =
          let same = ap (λ (them : List P). length them) closed.left_are
          ∙ map-length (λ (it : AnyLane). it.port) served in
          (at-lane k).spent port (ports-below k (omega (arith, same, below)))
          (lane-left intake outlet (length ports) begun read start now v.history w.history
          closed.has_read closed.has_written at-number no-takes no-puts k some)

      -- ---- a lane that is alone
      -- where a lane halted, but not since the requests ended, it came to no end of its reading
      alone : (k : ℕ) → k < length ports
          → ((how : Ending) → (at-number k).halt ≢ Halts.RequestsEnded how) → length ports ≡ 1
          → read.ending ≡ None
      alone k below other one = alone-unended (length ports) v.history w.history at-number takes-laned
          closed.has_read.all read.ending closed.has_read.gives k below other one

      -- as at the failure of its sink
      alone-broke : now.failed ≡ true → length ports ≡ 1 → read.ending ≡ None
      alone-broke failed one =
          let lane = broke-lane (length ports) v.history w.history at-number no-puts
          closed.has_written.all
          (broken w.history closed.has_written.all now.failed failed closed.has_written.sends) in
          alone lane.0 lane.1 lane.2 one

      -- or where its port takes no more
      alone-spent : (k : ℕ) → k < length ports → (at-number k).halt ≡ Halts.PortSpent
          → length ports ≡ 1 → read.ending ≡ None
      alone-spent k below is one = alone k below (λ how ended. port-differs how (sym is ∙ ended)) one

      -- ---- why it ended
      module _ (some : 0 < length ports) where
        -- where no lane was out of room and the sink goes on, each lane read out the requests
        read-out : now.failed ≡ false → any_spent served ≡ false → (k : ℕ) → k < length ports
            → (how : Ending) × ((at-number k).halt ≡ Halts.RequestsEnded how)
        read-out still none k below =
            let one = some-of served k (served-below k below) in
            by (at-number k).halt refl (calm-halt (at-number k).halt
            (subst (λ (h : Option Halt). is_spent_halt h ≡ false) ((at-lane k).halted one below)
            (none-spent served none k one (served-below k below))))
          where
            by : (halt : Halt) → (at-number k).halt ≡ halt → IsCalm halt
                → (how : Ending) × ((at-number k).halt ≡ Halts.RequestsEnded how)
            by _ is (read_so how) = (how, is)
            by _ is sink_so = absurd (not-both (lane-broke intake outlet (length ports)
                begun read start now v.history w.history closed.has_read closed.has_written at-number
                no-takes no-puts k is) still)

        -- so the requests ended
        pub have-ended : now.failed ≡ false → any_spent served ≡ false
            → (ending : Ending) × (read.ending ≡ Some ending)
        have-ended still none =
            let first = read-out still none 0 some in (
              first.0,
              lane-ended intake outlet (length ports) begun read start now v.history w.history
                  closed.has_read closed.has_written at-number no-takes no-puts 0 first.0 first.1,
            )

        ends-so : length ports ≤ 4294967295 → (ending : Ending) → EndsBy now.failed (any_spent served) read.ending ending
            → EndsSo (length ports) (λ k. (at-number k).halt) read.ending closed.has_read.all
            now.failed ending
        ends-so few ending by = decide (true-or-false now.failed) (true-or-false (any_spent served))
          where
            decide : (now.failed ≡ true) ⊎ (now.failed ≡ false)
                → (any_spent served ≡ true) ⊎ (any_spent served ≡ false)
                → EndsSo (length ports) (λ k. (at-number k).halt) read.ending closed.has_read.all
                now.failed ending
            decide (inl failed) room = subst
                (EndsSo (length ports) (λ k. (at-number k).halt) read.ending closed.has_read.all
                now.failed)
                (sym (by.sink failed)) (by_sink failed (alone-broke failed))
            decide (inr still) (inl spent) = subst
                (EndsSo (length ports) (λ k. (at-number k).halt) read.ending closed.has_read.all
                now.failed)
                (sym (by.spent_so still spent))
                (let one = spent-place few spent in by_room still (alone-spent one.0 one.1 one.2)
                one.0 one.1 one.2 (no-full few))
            decide (inr still) (inr none) =
                let read_end = have-ended still none in subst
                (EndsSo (length ports) (λ k. (at-number k).halt) read.ending closed.has_read.all
                now.failed)
                (sym (by.read_so_far read_end.0 still none read_end.1))
                (by_reading read_end.0 still read_end.1 (read-out still none))

        -- its replies have gone out, unless the sink failed
        pub closed-out : (ending : Ending) → EndsBy now.failed (any_spent served) read.ending ending
            → (ending ≡ WriteFault) ⊎ IsOut (outlet now.sink)
        closed-out ending by = decide (true-or-false now.failed)
          where
            decide : (now.failed ≡ true) ⊎ (now.failed ≡ false)
                → (ending ≡ WriteFault) ⊎ IsOut (outlet now.sink)
            decide (inl failed) = inl (by.sink failed)
            decide (inr still) = inr (closed.has_written.out still)

        -- a session ends as by a spent port only where one is
        pub closed-spent : length ports ≤ 4294967295 → (ending : Ending)
            → EndsBy now.failed (any_spent served) read.ending ending → ending ≡ PortSpent
            → IsOneSpent is_spent left.items
        closed-spent few ending why is =
            decide (true-or-false now.failed) (true-or-false (any_spent served))
          where
            decide : (now.failed ≡ true) ⊎ (now.failed ≡ false)
                → (any_spent served ≡ true) ⊎ (any_spent served ≡ false) → IsOneSpent is_spent left.items
            decide (inl failed) room = absurd (fault-differs (sym (why.sink failed) ∙ is))
            decide (inr still) (inl spent) = spent-port few spent
            decide (inr still) (inr none) =
                let read_end = have-ended still none in
                let same : read_end.0 ≡ PortSpent =
                sym (why.read_so_far read_end.0 still none read_end.1) ∙ is in
                absurd (never-spent (length closed.has_read.all) closed.has_read.ended
                closed.has_read.rest
                (subst (λ (e : Option Ending). ReadingEnds e (length closed.has_read.all)
                closed.has_read.ended closed.has_read.rest)
                (read_end.1 ∙ ap (λ (e : Ending). Some e) same) closed.has_read.ends))

        -- its ports still take operations
        pub closed-usable : AreUsable usable left.items
        closed-usable k port below =
            let count : length left.items ≡ length served =
            ap (λ (them : List P). length them) closed.left_are
            ∙ map-length (λ (it : AnyLane). it.port) served in
            let short : k < length served = omega (arith, below, count) in
            let lane = some-of served k short in
            subst usable
            (sym (ap (λ (them : List P). slice_index_or them k port) closed.left_are
            ∙ map-at (λ (it : AnyLane). it.port) served k lane port short))
            (closed.flown k lane (made-below k (ports-below k short))).ready.usable_port

        -- the session
        pub closed-landed : length ports ≤ 4294967295 → (export : Export) (ending : Ending)
            → EndsBy now.failed (any_spent served) read.ending ending → read.taken < 2 ^ 64
            → now.put < 2 ^ 64
            → HasLanded intake outlet usable is_spent did export begun start ports (record {
              end = record {
                number = export.number;
                ending = ending;
                taken = read.taken;
                put = now.put;
              };
              source = read.source;
              sink = now.sink;
              ports = left;
            })
        closed-landed few export ending by taken_fits put_fits = record {
          usable_ports = closed-usable;
          spent = closed-spent few ending by;
          out = closed-out ending by;
          session = λ a agreed hand none_taken none_put structured negotiates. (
            served-flight intake outlet (length ports) begun read start now v.history w.history
                closed.has_read closed.has_written at-number no-takes no-puts hand,
            record {
              count = ap (λ (them : List P). length them) closed.left_are
                  ∙ map-length (λ (lane : AnyLane). lane.port) served ∙ closed.count
                  ∙ closed.are_made.count;
              each = λ k port below. subst
                  (λ done. did (slice_index_or ports k port) (slice_index_or left.items k port) done)
                  (sym (turns-did intake outlet (length ports) begun read start now v.history
                  w.history closed.has_read closed.has_written at-number no-takes no-puts k))
                  ((at-lane k).did_so port below);
            },
            leaves-spent,
            flight-served intake outlet (length ports) begun read start now v.history w.history
                closed.has_read closed.has_written at-number no-takes no-puts export a agreed ending
                hand none_taken none_put taken_fits put_fits structured negotiates
                (ends-so few ending by),
          );
        }

-- ---- behind a negotiation
-- the moment at which the requests begin
pub negotiated : (export : Export) (a : Moment) (source source' : Intake) (sink sink' : Outlet)
    (taken taken' put put' : ℕ) (agreed : Agreed) (hand : Handshake) → source ≡ source'
    → sink ≡ sink' → taken ≡ taken' → put ≡ put'
    → Negotiates export a (moment source' sink' taken' put') (Ok agreed) hand
    → Negotiates export a (moment source sink taken put) (Ok agreed) hand
negotiated export a source source' sink sink' taken taken' put put' agreed hand is_source is_sink
    is_taken is_put negotiates = rw (is_source, is_sink, is_taken, is_put) negotiates

-- ---- memory was wanted before the first request
no-takes-yet : (k : ℕ) → calls_of {E = Take} {O = Taken} (k ∷ []) [] ≡ []
unfolding calls_of
no-takes-yet k = refl

no-puts-yet : (k : ℕ) → calls_of {E = Put} {O = Written} (k ∷ []) [] ≡ []
unfolding calls_of
no-puts-yet k = refl

module _ {S K P : Type 0} (intake : S → Intake) (outlet : K → Outlet)
    (usable is_spent : P → Type 0) (did : P → P → List Exchange → Type 0)
    (did_none : (port : P) → did port port []) (begun read : Reading S) (start now : Writing K)
    (has_read : HasRead intake begun read []) (has_written : HasWritten outlet start now [])
  where
    -- the sink goes on
    still-goes : (failed : Bool) (all : List (From (List ℕ))) → Sends [] all failed → failed ≡ false
    unfolding Sends
    still-goes false all sends = refl
    still-goes true [] sends = absurd sends
    still-goes true (one ∷ all) sends = absurd sends

    goes-on : now.failed ≡ false
    goes-on = still-goes now.failed has_written.all has_written.sends

    gives-nothing : (all : List (From Asked)) (end : Option Ending) → Gives 0 [] all end
        → (end ≡ None) × (all ≡ [])
    unfolding Gives
    gives-nothing [] None gives = (refl, refl)
    gives-nothing [] (Some ending) gives = absurd gives
    gives-nothing (given ∷ all) end gives = absurd gives

    nothing-read : (read.ending ≡ None) × (has_read.all ≡ [])
    nothing-read = gives-nothing has_read.all read.ending has_read.gives

    pub none-out : IsOut (outlet now.sink)
    none-out = has_written.out goes-on

    abbrev at-none : (k : ℕ) → ServedAt [] [] k
    at-none k = record {
      halt = Halts.CellSpent;
      takes = [];
      puts = [];
      turns = [];
      left = [];
      served = nothing-served;
      source = no-takes-yet k;
      sink = no-puts-yet k;
    }

    nothing-done : (k : ℕ) → exchanges_of (at-none k).turns ≡ []
    unfolding exchanges_of
    nothing-done k = refl

    pub memory-landed : (export : Export) (ports : Vec P Global) → AreUsable usable ports.items
        → read.taken < 2 ^ 64 → now.put < 2 ^ 64
        → HasLanded intake outlet usable is_spent did export begun start ports.items (record {
          end = record {
            number = export.number;
            ending = Memory;
            taken = read.taken;
            put = now.put;
          };
          source = read.source;
          sink = now.sink;
          ports = ports;
        })
    memory-landed export ports are_usable taken_fits put_fits = record {
      usable_ports = are_usable;
      spent = λ is. absurd (memory-differs is);
      out = inr none-out;
      session = λ a agreed hand none_taken none_put structured negotiates. (
        served-flight intake outlet (length ports.items) begun read start now [] [] has_read has_written
            at-none (λ k beyond. no-takes-yet k) (λ k beyond. no-puts-yet k) hand,
        record {
          count = refl;
          each = λ k port below. subst
              (λ done. did (slice_index_or ports.items k port) (slice_index_or ports.items k port) done)
              (sym (turns-did intake outlet (length ports.items) begun read start now [] [] has_read
              has_written at-none (λ k beyond. no-takes-yet k) (λ k beyond. no-puts-yet k) k
              ∙ nothing-done k)) (did_none (slice_index_or ports.items k port));
        },
        λ k port below some. absurd (cell-differs (lane-left intake outlet (length ports.items) begun
            read start now [] [] has_read has_written at-none (λ k beyond. no-takes-yet k)
            (λ k beyond. no-puts-yet k) k some)),
        flight-served intake outlet (length ports.items) begun read start now [] [] has_read has_written
            at-none (λ k beyond. no-takes-yet k) (λ k beyond. no-puts-yet k) export a agreed Memory
            hand none_taken none_put taken_fits put_fits structured negotiates
            (by_memory goes-on nothing-read.0 nothing-read.1),
      );
    }
