-- How many calls the lanes of a session made: hardly more than it has requests.
use Rattle.std.proofs.Common.{◌≡◌, ◌≢◌, ◌⊎◌, inl, inr, ℕ, zero, suc, ◌+◌, ◌^◌, ◌<◌, ◌≤◌, Bool, true, false}
use Rattle.std.proofs.Common.{if◌then◌else◌, List, [], ◌∷◌, ◌++◌, length, Option, Some, None}
use Rattle.std.proofs.Common.{refl, sym, ◌∙◌, ap, subst, arith, length-append}
use Rattle.std.proofs.lemmas.Bool.{cases_eq}
use Rattle.nbd_stream.specs.declared.ending.Ending.{Ending}
use Rattle.nbd_stream.specs.declared.ending.Ending.TheVariants.{TooMany, WriteFault}
use Rattle.nbd_stream.specs.Endings.{IsCount}
use Rattle.nbd_session.specs.declared.lane.Halt.{Halt}
use Rattle.nbd_session.specs.declared.reader.Take.{Take}
use Rattle.nbd_session.specs.declared.reader.Taken.{Taken}
use Rattle.nbd_session.specs.declared.writer.Put.{Put}
use Rattle.nbd_session.specs.declared.writer.Written.{Written}
use Rattle.nbd_session.specs.Asking.{Asked}
use Rattle.nbd_session.specs.Lanes.{AreServed, HasServed, IsLast, port_spent, read_out, reader_spent}
use Rattle.nbd_session.specs.Lanes.{sink_failed, writer_spent}
use Rattle.nbd_session.specs.Merges.{AreFrom, From, items_from}
use Rattle.nbd_session.specs.Takes.{ReadingEnds}
use Rattle.nbd_session.specs.Turns.{Turn}
use Rattle.nbd_session.proofs.LaneAnswers.{stop-turn}
use Rattle.nbd_session.proofs.LaneHistories.{AreStops, GivesCalls, differ-eqb, nothing, one-name}
use Rattle.nbd_session.proofs.LaneHistories.{same-eqb}
use Rattle.volume_cell.proofs.Names.{names-differ, names-same}
use Rattle.volume_cell.specs.declared.history.Call.{Call}
use Rattle.volume_cell.specs.declared.history.Entry.{Entry}
use Rattle.volume_cell.specs.Histories.{call, calls_of, is_same}

-- ---- sums
unfoldable pub total : (ℕ → ℕ) → ℕ → ℕ
total f zero = 0
total f (suc n) = total f n + f n

total-same : (f g : ℕ → ℕ) (n : ℕ) → ((k : ℕ) → k < n → g k ≡ f k) → total g n ≡ total f n
unfolding total
total-same f g zero same = refl
total-same f g (suc n) same =
    let rest = total-same f g n (λ k below. same k (omega (arith, below))) in
    let last = same n (omega arith) in omega (arith, rest, last)

total-zero : (f : ℕ → ℕ) (n : ℕ) → ((k : ℕ) → f k ≡ 0) → total f n ≡ 0
unfolding total
total-zero f zero none = refl
total-zero f (suc n) none =
    let rest = total-zero f n none in let last = none n in omega (arith, rest, last)

-- one more at one place
total-more : (f g : ℕ → ℕ) (j n : ℕ) → j < n → g j ≡ suc (f j) → ((k : ℕ) → k ≢ j → g k ≡ f k)
    → total g n ≡ suc (total f n)
unfolding total
total-more f g j zero below more same = absurd (omega (arith, below))
total-more f g j (suc n) below more same =
    by (cases_eq j n) (λ less. total-more f g j n less more same)
  where
    by : (j ≡ n) ⊎ (j ≢ n) → (j < n → total g n ≡ suc (total f n))
        → total g n + g n ≡ suc (total f n + f n)
    by (inl is) front =
        let rest = total-same f g n (λ k less. same k (λ it. omega (arith, less, it, is))) in
        let last : g n ≡ suc (f n) = subst (λ (m : ℕ). g m ≡ suc (f m)) is more in
        omega (arith, rest, last)
    by (inr differ) front =
        let rest = front (omega (arith, below, differ)) in
        let last = same n (λ it. differ (sym it)) in omega (arith, rest, last)

total-at-most : (f g : ℕ → ℕ) (n : ℕ) → ((k : ℕ) → k < n → f k ≤ suc (g k))
    → total f n ≤ total g n + n
unfolding total
total-at-most f g zero most = omega arith
total-at-most f g (suc n) most =
    let rest = total-at-most f g n (λ k below. most k (omega (arith, below))) in
    let last = most n (omega arith) in omega (arith, rest, last)

total-within : (f g : ℕ → ℕ) (n : ℕ) → ((k : ℕ) → k < n → f k ≤ g k) → total f n ≤ total g n
unfolding total
total-within f g zero most = omega arith
total-within f g (suc n) most =
    let rest = total-within f g n (λ k below. most k (omega (arith, below))) in
    let last = most n (omega arith) in omega (arith, rest, last)

-- ---- items by their lists
count-items : {X : Type 0} (n : ℕ) (all : List (From X)) → AreFrom n all
    → total (λ k. length (items_from k all)) n ≡ length all
unfolding AreFrom items_from
count-items n [] are = total-zero (λ k. 0) n (λ k. refl)
count-items n (one ∷ all) (below, are) =
    total-more (λ k. length (items_from k all)) (λ k. length (items_from k (one ∷ all))) one.list n
    below (rw (same-eqb one.list) refl)
    (λ k differ. rw (differ-eqb one.list k (λ is. differ (sym is))) refl)
    ∙ ap (λ (m : ℕ). suc m) (count-items n all are)

-- ---- entries by their names
-- each entry has the name of one of so many lanes
unfoldable AreNamed : {E O : Type 0} → ℕ → List (Entry E O) → Type 0
AreNamed n [] = Unit {0}
AreNamed n (one ∷ history) = ((k : ℕ) × (k < n) × (one.name ≡ k ∷ [])) × AreNamed n history

other-name : (j k : ℕ) (name : List ℕ) → name ≡ j ∷ [] → k ≢ j → (k ∷ []) ≢ name
other-name j k name is differ same = differ (one-name k j (same ∙ is))

module _ {E O : Type 0} where
  -- a name that has calls is that of a lane
  abbrev pub IsLaned : ℕ → List (Entry E O) → Type 0
  IsLaned n history = (name : List ℕ)
      → (calls_of name history ≡ []) ⊎ ((k : ℕ) × (0 ≤ k) × (k < n) × (name ≡ k ∷ []))

  named-all : (n : ℕ) (history : List (Entry E O)) → IsLaned n history → AreNamed n history
  unfolding AreNamed calls_of
  named-all n [] laned = tt
  named-all n (one ∷ history) laned =
      (first (laned one.name), named-all n history (λ name. later name (laned name)))
    where
      first : ((if is_same one.name one.name then call one.event one.outcome ∷ [] else [])
          ++ calls_of one.name history ≡ [])
          ⊎ ((k : ℕ) × (0 ≤ k) × (k < n) × (one.name ≡ k ∷ []))
          → (k : ℕ) × (k < n) × (one.name ≡ k ∷ [])
      first (inl none) = absurd (nothing (call one.event one.outcome) [] (calls_of one.name history)
          (subst (λ (b : Bool). (if b then call one.event one.outcome ∷ [] else [])
          ++ calls_of one.name history ≡ []) (names-same one.name one.name refl) none))
      first (inr (k, above, below, is)) = (k, below, is)

      behind : (its : Bool) (name : List ℕ)
          → (if its then call one.event one.outcome ∷ [] else []) ++ calls_of name history ≡ []
          → calls_of name history ≡ []
      behind true name none =
          absurd (nothing (call one.event one.outcome) [] (calls_of name history) none)
      behind false name none = none

      later : (name : List ℕ)
          → ((if is_same name one.name then call one.event one.outcome ∷ [] else [])
          ++ calls_of name history ≡ [])
          ⊎ ((k : ℕ) × (0 ≤ k) × (k < n) × (name ≡ k ∷ []))
          → (calls_of name history ≡ []) ⊎ ((k : ℕ) × (0 ≤ k) × (k < n) × (name ≡ k ∷ []))
      later name (inl none) = inl (behind (is_same name one.name) name none)
      later name (inr is) = inr is

  count-calls : (n : ℕ) (history : List (Entry E O)) → AreNamed n history
      → total (λ k. length (calls_of (k ∷ []) history)) n ≡ length history
  unfolding AreNamed calls_of
  count-calls n [] are = total-zero (λ k. 0) n (λ k. refl)
  count-calls n (one ∷ history) ((j, below, is), are) =
      total-more (λ k. length (calls_of (k ∷ []) history))
      (λ k. length (calls_of (k ∷ []) (one ∷ history))) j n below
      (rw (names-same (j ∷ []) one.name (sym is)) refl)
      (λ k differ. rw (names-differ (k ∷ []) one.name (other-name j k one.name is differ)) refl)
      ∙ ap (λ (m : ℕ). suc m) (count-calls n history are)

  pub counted : (n : ℕ) (history : List (Entry E O)) → IsLaned n history
      → total (λ k. length (calls_of (k ∷ []) history)) n ≡ length history
  counted n history laned = count-calls n history (named-all n history laned)

-- ---- the calls of a lane
front-few : (end : Option Ending) (takes last : List (Call Take Taken)) (puts : List (Call Put Written))
    (turns : List Turn) (asked : List Asked) → AreServed takes puts turns
    → GivesCalls end (takes ++ last) asked → length takes ≤ length asked
unfolding AreServed GivesCalls AreStops
front-few end [] last puts turns asked served gives = omega arith
front-few end (take ∷ takes) last (put ∷ puts) (turn ∷ turns) [] (is, done, served) gives =
    absurd (stop-turn take.outcome.next turn is.turn_of gives.0 gives.2.0)
front-few end (take ∷ takes) last (put ∷ puts) (turn ∷ turns) (one ∷ asked) (is, done, served) gives =
    let rest = front-few end takes last puts turns asked served gives.1 in omega (arith, rest)
front-few end (take ∷ takes) last [] turns asked served gives = absurd served
front-few end (take ∷ takes) last (put ∷ puts) [] asked served gives = absurd served

last-few : (halt : Halt) (takes : List (Call Take Taken)) (puts : List (Call Put Written))
    (turns : List Turn) (left : List Asked) → IsLast halt takes puts turns left
    → (length takes ≤ 1) × (length puts ≤ length takes)
last-few _ _ _ _ _ (read_out take ending is) = (omega arith, omega arith)
last-few _ _ _ _ _ (sink_failed take put turn is refused) = (omega arith, omega arith)
last-few _ _ _ _ _ (port_spent take asked is) = (omega arith, omega arith)
last-few _ _ _ _ _ reader_spent = (omega arith, omega arith)
last-few _ _ _ _ _ (writer_spent take turn is) = (omega arith, omega arith)

served-even : (takes : List (Call Take Taken)) (puts : List (Call Put Written)) (turns : List Turn)
    → AreServed takes puts turns → length puts ≡ length takes
unfolding AreServed
served-even [] [] [] served = refl
served-even (take ∷ takes) (put ∷ puts) (turn ∷ turns) (is, done, served) =
    let rest = served-even takes puts turns served in omega (arith, rest)
served-even [] [] (turn ∷ turns) served = absurd served
served-even [] (put ∷ puts) turns served = absurd served
served-even (take ∷ takes) [] turns served = absurd served
served-even (take ∷ takes) (put ∷ puts) [] served = absurd served

-- it asked the reader once more at most than it was given requests
pub takes-few : (end : Option Ending) (halt : Halt) (takes : List (Call Take Taken))
    (puts : List (Call Put Written)) (turns : List Turn) (left asked : List Asked)
    → HasServed halt takes puts turns left → GivesCalls end takes asked
    → length takes ≤ suc (length asked)
takes-few end halt takes puts turns left asked is gives =
    let front = front-few end is.served_takes is.last_takes is.served_puts is.served asked is.are_served
    (subst (λ (them : List (Call Take Taken)). GivesCalls end them asked) is.takes_are gives) in
    let last = (last-few halt is.last_takes is.last_puts is.last left is.is_last).0 in
    let all = ap (λ (them : List (Call Take Taken)). length them) is.takes_are in
    omega (arith, front, last, all, length-append is.served_takes is.last_takes)

-- and the writer no more often
pub puts-few : (halt : Halt) (takes : List (Call Take Taken)) (puts : List (Call Put Written))
    (turns : List Turn) (left : List Asked) → HasServed halt takes puts turns left
    → length puts ≤ length takes
puts-few halt takes puts turns left is =
    let front = served-even is.served_takes is.served_puts is.served is.are_served in
    let last = (last-few halt is.last_takes is.last_puts is.last left is.is_last).1 in
    let all = ap (λ (them : List (Call Take Taken)). length them) is.takes_are in
    let put = ap (λ (them : List (Call Put Written)). length them) is.puts_are in
    omega (
      arith,
      front,
      last,
      all,
      put,
      length-append is.served_takes is.last_takes,
      length-append is.served_puts is.last_puts,
    )

-- ---- all calls
count-most : (ending : Ending) (n : ℕ) → IsCount (2 ^ 32) ending n → n ≤ 2 ^ 32
count-most (TooMany m) n count = let is = count.1 in omega (arith, is)
count-most WriteFault n count = count.1
count-most _ n count = omega (arith, count)

pub reading-few : (end : Option Ending) (n : ℕ) (ended : Bool) (rest : List ℕ)
    → ReadingEnds end n ended rest → n ≤ 2 ^ 32
reading-few None n ended rest ends = ends.2
reading-few (Some ending) n ended rest ends = count-most ending n ends.1

module _ (n : ℕ) (takes_of : List (Entry Take Taken)) (puts_of : List (Entry Put Written))
    (all : List (From Asked)) (are : AreFrom n all) (few : length all ≤ 2 ^ 32)
    (takes_laned : IsLaned n takes_of) (puts_laned : IsLaned n puts_of)
    (takes_most : (k : ℕ) → k < n
    → length (calls_of (k ∷ []) takes_of) ≤ suc (length (items_from k all)))
    (puts_most : (k : ℕ) → k < n
    → length (calls_of (k ∷ []) puts_of) ≤ length (calls_of (k ∷ []) takes_of))
  where
    pub takes-bound : length takes_of ≤ 2 ^ 32 + n
    takes-bound =
        let so = total-at-most (λ k. length (calls_of (k ∷ []) takes_of))
        (λ k. length (items_from k all)) n takes_most in
        let items = count-items n all are in
        let entries = counted n takes_of takes_laned in omega (arith, so, items, entries, few)

    pub puts-bound : length puts_of ≤ 2 ^ 32 + n
    puts-bound =
        let so = total-within (λ k. length (calls_of (k ∷ []) puts_of))
        (λ k. length (calls_of (k ∷ []) takes_of)) n puts_most in
        let entries = counted n takes_of takes_laned in
        let others = counted n puts_of puts_laned in
        let bound = takes-bound in omega (arith, so, entries, others, bound)
