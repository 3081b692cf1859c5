-- The first pass to a cell, as those of the lanes are split off it and joined back, and what it then
-- knows of their calls.
use Rattle.std.proofs.Common.{◌≡◌, ◌≢◌, ◌⊎◌, inl, inr, ℕ, zero, suc, ◌+◌, ◌<◌, ◌≤◌, Bool, true, false}
use Rattle.std.proofs.Common.{List, [], ◌∷◌, ◌++◌, map, length, slice_index_or, if◌then◌else◌}
use Rattle.std.proofs.Common.{refl, sym, ◌∙◌, ap, subst, arith, length-append, append-nil, append_assoc}
use Rattle.atomic_table.specs.declared.shared.Seat.{Seat}
use Rattle.volume_cell.proofs.Names.{names-differ, names-differ-or-not, names-same}
use Rattle.volume_cell.specs.declared.held.Held.{Held}
use Rattle.volume_cell.specs.declared.history.Call.{Call}
use Rattle.volume_cell.specs.declared.knowledge.Knowledge.{Knowledge}
use Rattle.volume_cell.specs.declared.shared.Shared.{Shared}
use Rattle.volume_cell.specs.Histories.{Begins, account, accounted, calls_of, is_same}
use Rattle.volume_cell.specs.Knowing.{beginning, having_joined, having_split, next_name}
use Rattle.volume_cell.specs.Knowing.{split_off, without}
use Rattle.volume_cell.specs.Passes.{IsAccounted, IsPassOf, known}
use Rattle.nbd_session.specs.Flying.{IsPassFor}
use Rattle.nbd_session.specs.Lanes.{HasCalled}
use Rattle.nbd_session.specs.Passing.{AreBetween, HasJoined, HasSplit, IsFirst}

-- ---- names of passes that are away
wider : (least end : ℕ) (names : List (List ℕ)) → AreBetween least end names
    → AreBetween least (end + 1) names
unfolding AreBetween
wider least end [] are = tt
wider least end (n ∷ ns) are =
    let (k, is, above, below) = are.0 in
    ((k, is, above, omega (arith, below)), wider least end ns are.1)

between-more : (least end : ℕ) (names : List (List ℕ)) → least ≤ end
    → AreBetween least end names → AreBetween least (end + 1) ((end ∷ []) ∷ names)
unfolding AreBetween
between-more least end names from all =
    ((end, refl, from, omega arith), wider least end names all)

-- the least one is gone
one-less : (least end : ℕ) (n : List ℕ) (ns : List (List ℕ)) → AreBetween least end (n ∷ ns)
    → AreBetween (suc least) end (without (least ∷ []) ns)
    → AreBetween (suc least) end (without (least ∷ []) (n ∷ ns))
unfolding AreBetween without
one-less least end n ns are rest = by (is_same (least ∷ []) n) refl
  where
    true-false : true ≡ false → ⊥
    true-false same = absurd (cc)

    by : (b : Bool) → is_same (least ∷ []) n ≡ b
        → AreBetween (suc least) end
        (if is_same (least ∷ []) n then without (least ∷ []) ns else n ∷ without (least ∷ []) ns)
    by true same = rw same rest
    by false differ =
        let (k, is, above, below) = are.0 in
        let apart : least ≢ k = λ same. true-false
        (sym (names-same (least ∷ []) n (ap (λ (m : ℕ). m ∷ []) same ∙ sym is)) ∙ differ) in
        rw differ ((k, is, omega (arith, above, apart), below), rest)

between-without : (least end : ℕ) (names : List (List ℕ)) → AreBetween least end names
    → AreBetween (suc least) end (without (least ∷ []) names)
unfolding AreBetween without
between-without least end [] are = tt
between-without least end (n ∷ ns) are =
    one-less least end n ns are (between-without least end ns are.1)

-- none is left
between-none : (end : ℕ) (names : List (List ℕ)) → AreBetween end end names → names ≡ []
unfolding AreBetween
between-none end [] are = refl
between-none end (n ∷ ns) are =
    let (k, is, above, below) = are.0 in absurd (omega (arith, above, below))

next : (n : ℕ) → suc n ≡ n + 1
next n = omega arith

-- ---- places of lists
at-front : {A : Type 0} (xs ys : List A) (k : ℕ) (d : A) → k < length xs
    → slice_index_or (xs ++ ys) k d ≡ slice_index_or xs k d
at-front [] ys k d below = absurd (omega (arith, below))
at-front (x ∷ xs) ys zero d below = refl
at-front (x ∷ xs) ys (suc k) d below = at-front xs ys k d (omega (arith, below))

at-last : {A : Type 0} (xs : List A) (x d : A) → slice_index_or (xs ++ x ∷ []) (length xs) d ≡ x
at-last [] x d = refl
at-last (y ∷ xs) x d = at-last xs x d

-- it holds of each place, and of one more
pub each-more : {A : Type 0} (Is : ℕ → A → Type 0) (xs : List A) (a : A)
    → ((k : ℕ) (one : A) → k < length xs → Is k (slice_index_or xs k one)) → Is (length xs) a
    → (k : ℕ) (one : A) → k < length (xs ++ a ∷ []) → Is k (slice_index_or (xs ++ a ∷ []) k one)
each-more {A = A} Is xs a all last k one below = by (order k (length xs))
  where
    order : (i n : ℕ) → (i < n) ⊎ (n ≤ i)
    order i n = grind arith

    by : (k < length xs) ⊎ (length xs ≤ k) → Is k (slice_index_or (xs ++ a ∷ []) k one)
    by (inl less) =
        subst (λ (o : A). Is k o) (sym (at-front xs (a ∷ []) k one less)) (all k one less)
    by (inr more) =
        let same : length xs ≡ k = omega (arith, more, below, length-append xs (a ∷ [])) in
        subst (λ (i : ℕ). Is i (slice_index_or (xs ++ a ∷ []) i one)) same
        (subst (λ (o : A). Is (length xs) o) (sym (at-last xs a one)) last)

pub map-at : {A X : Type 0} (f : A → X) (xs : List A) (k : ℕ) (one : A) (x : X) → k < length xs
    → slice_index_or (map f xs) k x ≡ f (slice_index_or xs k one)
map-at f [] k one x below = absurd (omega (arith, below))
map-at f (a ∷ xs) zero one x below = refl
map-at f (a ∷ xs) (suc k) one x below = map-at f xs k one x (omega (arith, below))

pub map-more : {A X : Type 0} (f : A → X) (xs : List A) (a : A)
    → map f (xs ++ a ∷ []) ≡ map f xs ++ f a ∷ []
map-more f [] a = refl
map-more f (x ∷ xs) a = ap (λ rest. f x ∷ rest) (map-more f xs a)

pub map-length : {A X : Type 0} (f : A → X) (xs : List A) → length (map f xs) ≡ length xs
map-length f [] = refl
map-length f (x ∷ xs) = omega (arith, map-length f xs)

pub begins-length : {X : Type 0} (earlier later : List X) → Begins earlier later
    → length earlier ≤ length later
begins-length {X = X} earlier later begins =
    omega (arith, ap (λ (l : List X). length l) begins.is, length-append earlier begins.rest)

-- ---- the first pass
module _ {S E O : Type 0} where
  pub first-begun : (v : Knowledge S E O) (start : S) → v ≡ beginning start → IsFirst 0 0 v
  unfolding AreBetween
  first-begun v start is = subst (λ (k : Knowledge S E O). IsFirst 0 0 k) (sym is)
      (record { name = refl; calls = refl; splits_are = refl; away = tt })

  pub split-none : (v : Knowledge S E O) → IsFirst 0 0 v → HasSplit 0 v v
  split-none v first = record { first = first; start = refl; joined = refl }

  -- one more pass was split off it
  pub split-more : (splits : ℕ) (u v w : Knowledge S E O) → HasSplit splits u v
      → w ≡ having_split v → HasSplit (splits + 1) u w
  split-more splits u v w has is =
      subst (λ (k : Knowledge S E O). HasSplit (splits + 1) u k) (sym is) (record {
        first = record {
          name = has.first.name;
          calls = has.first.calls;
          splits_are = ap (λ (n : ℕ). n + 1) has.first.splits_are;
          away = subst (λ (n : List ℕ). AreBetween 0 (splits + 1) (n ∷ v.away)) (sym named)
              (between-more 0 splits v.away (omega arith) has.first.away);
        };
        start = has.start;
        joined = has.joined;
      })
    where
      named : next_name v ≡ splits ∷ []
      named = ap (λ (n : List ℕ). n ++ v.splits ∷ []) has.first.name
          ∙ ap (λ (n : ℕ). n ∷ []) has.first.splits_are

  -- the name of the pass that is split off it
  pub split-name : (splits : ℕ) (u v : Knowledge S E O) → HasSplit splits u v
      → next_name v ≡ splits ∷ []
  split-name splits u v has = ap (λ (n : List ℕ). n ++ v.splits ∷ []) has.first.name
      ∙ ap (λ (n : ℕ). n ∷ []) has.first.splits_are

  -- all that were split off it were joined back
  pub whole-again : (splits : ℕ) (v : Knowledge S E O) → IsFirst splits splits v → v.away ≡ []
  whole-again splits v first = between-none splits v.away first.away

module _ {A S E O : Type 0} (pass : A → Knowledge S E O) where
  pub joined-none : (splits : ℕ) (v : Knowledge S E O) → IsFirst splits 0 v
      → HasJoined splits pass [] v v
  joined-none splits v first = record {
    first = first;
    start = refl;
    joined = sym (append-nil v.joined);
    knows = λ k one below. absurd (omega (arith, below));
  }

  -- the pass of the next one was joined into it
  pub joined-more : (splits : ℕ) (all : List A) (one : A) (u v w : Knowledge S E O)
      → HasJoined splits pass all u v → w ≡ having_joined v (pass one)
      → (pass one).name ≡ length all ∷ [] → (pass one).joined ≡ []
      → Begins v.history w.history → Begins (pass one).history w.history
      → HasJoined splits pass (all ++ one ∷ []) u w
  joined-more splits all one u v w has is name none own its = record {
    first = subst (λ (n : ℕ). IsFirst splits n w) longer
        (subst (λ (k : Knowledge S E O). IsFirst splits (length all + 1) k) (sym is) (record {
          name = has.first.name;
          calls = has.first.calls;
          splits_are = has.first.splits_are;
          away = subst (λ (n : ℕ). AreBetween n splits (without (pass one).name v.away))
              (next (length all))
              (subst (λ (n : List ℕ). AreBetween (suc (length all)) splits (without n v.away))
              (sym name) (between-without (length all) splits v.away has.first.away));
        }));
    start = ap (λ (k : Knowledge S E O). k.start) is ∙ has.start;
    joined = ap (λ (k : Knowledge S E O). k.joined) is
        ∙ (ap (λ others. v.joined ++ account (pass one).name (pass one).calls ∷ others) none
        ∙ (ap (λ them. them ++ account (pass one).name (pass one).calls ∷ []) has.joined
        ∙ (append_assoc u.joined (map (λ x. account (pass x).name (pass x).calls) all)
        (account (pass one).name (pass one).calls ∷ [])
        ∙ ap (λ them. u.joined ++ them)
        (sym (map-more (λ x. account (pass x).name (pass x).calls) all one)))));
    knows = each-more (λ k x. length (pass x).history ≤ length w.history) all one
        (λ k x below. longer-by (length (pass (slice_index_or all k x)).history) (has.knows k x below))
        (begins-length (pass one).history w.history its);
  }
    where
      longer : length all + 1 ≡ length (all ++ one ∷ [])
      longer = omega (arith, length-append all (one ∷ []))

      longer-by : (n : ℕ) → n ≤ length v.history → n ≤ length w.history
      longer-by n short = let more = begins-length v.history w.history own in omega (arith, short, more)

-- ---- the calls of all
one-number : (a b : ℕ) → (a ∷ []) ≡ (b ∷ []) → a ≡ b
one-number a b is = cc

-- the name is one of these numbers
abbrev pub IsNumber : (from end : ℕ) → List ℕ → Type 0
IsNumber from end n = (k : ℕ) × (from ≤ k) × (k < end) × (n ≡ k ∷ [])

module _ {E O X : Type 0} (name : X → List ℕ) (calls : X → List (Call E O)) where
  -- each has its number for a name, counted from this one
  pub record AreNumbered (from : ℕ) (xs : List X) : Type 0 where
    pub each : (k : ℕ) (x : X) → k < length xs → name (slice_index_or xs k x) ≡ (from + k) ∷ []

  tail-numbered : (from : ℕ) (one : X) (xs : List X) → AreNumbered from (one ∷ xs)
      → AreNumbered (suc from) xs
  tail-numbered from one xs are = record {
    each = λ k x below.
        are.each (suc k) x (omega (arith, below)) ∙ ap (λ (n : ℕ). n ∷ []) (shift from k);
  }
    where
      shift : (a b : ℕ) → a + suc b ≡ suc a + b
      shift a b = omega arith

  first-number : (from : ℕ) (one : X) (xs : List X) → AreNumbered from (one ∷ xs)
      → name one ≡ from ∷ []
  first-number from one xs are =
      are.each 0 one (omega arith) ∙ ap (λ (n : ℕ). n ∷ []) (plain from)
    where
      plain : (a : ℕ) → a + 0 ≡ a
      plain a = omega arith

  pub accounted-in : (from k : ℕ) (xs : List X) (x : X) → AreNumbered from xs → k < length xs
      → accounted ((from + k) ∷ []) (map (λ y. account (name y) (calls y)) xs)
      ≡ calls (slice_index_or xs k x)
  unfolding accounted
  accounted-in from k [] x are below = absurd (omega (arith, below))
  accounted-in from zero (one ∷ xs) x are below =
      let same : is_same ((from + 0) ∷ []) (name one) ≡ true =
      names-same ((from + 0) ∷ []) (name one)
      (ap (λ (n : ℕ). n ∷ []) (plain from) ∙ sym (first-number from one xs are)) in rw same refl
    where
      plain : (a : ℕ) → a + 0 ≡ a
      plain a = omega arith
  accounted-in from (suc k) (one ∷ xs) x are below =
      let apart : is_same ((from + suc k) ∷ []) (name one) ≡ false =
      names-differ ((from + suc k) ∷ []) (name one)
      (λ is. let n = one-number (from + suc k) from (is ∙ first-number from one xs are) in
      omega (arith, n)) in
      rw apart (ap (λ (n : ℕ). accounted (n ∷ []) (map (λ y. account (name y) (calls y)) xs))
      (shift from k)
      ∙ accounted-in (suc from) k xs x (tail-numbered from one xs are) (omega (arith, below)))
    where
      shift : (a b : ℕ) → a + suc b ≡ suc a + b
      shift a b = omega arith

  pub accounted-or : (from : ℕ) (xs : List X) (n : List ℕ) → AreNumbered from xs
      → (accounted n (map (λ y. account (name y) (calls y)) xs) ≡ [])
      ⊎ IsNumber from (from + length xs) n
  unfolding accounted
  accounted-or from [] n are = inl refl
  accounted-or from (one ∷ xs) n are =
      by (names-differ-or-not n (name one)) (accounted-or (suc from) xs n (tail-numbered from one xs are))
    where
      by : (n ≡ name one) ⊎ (n ≢ name one)
          → (accounted n (map (λ y. account (name y) (calls y)) xs) ≡ [])
          ⊎ IsNumber (suc from) (suc from + length xs) n
          → ((if is_same n (name one) then calls one
          else accounted n (map (λ y. account (name y) (calls y)) xs)) ≡ [])
          ⊎ IsNumber from (from + suc (length xs)) n
      by (inl same) rest =
          inr (from, omega arith, omega arith, same ∙ first-number from one xs are)
      by (inr differ) (inl none) = inl (rw (names-differ n (name one) differ) none)
      by (inr differ) (inr (k, above, below, is)) =
          inr (k, omega (arith, above), omega (arith, below), is)

  -- of what the first pass knows once all were joined into it, each name has the calls of its own
  module _ {S : Type 0} (v : Knowledge S E O) (xs : List X) (are : AreNumbered 0 xs)
      (law : IsAccounted v) (named : v.name ≡ []) (quiet : v.calls ≡ [])
      (joined : v.joined ≡ map (λ y. account (name y) (calls y)) xs)
    where
      not-first : (k : ℕ) → (k ∷ []) ≢ []
      not-first k is = absurd (cc)

      pub calls-at : (k : ℕ) (x : X) → k < length xs
          → calls_of (k ∷ []) v.history ≡ calls (slice_index_or xs k x)
      unfolding accounted
      calls-at k x below =
          let apart : is_same (k ∷ []) v.name ≡ false =
          names-differ (k ∷ []) v.name (λ is. not-first k (is ∙ named)) in
          law (k ∷ []) ∙ rw apart (ap (λ them. accounted (k ∷ []) them) joined
          ∙ subst (λ (n : ℕ). accounted (n ∷ []) (map (λ y. account (name y) (calls y)) xs)
          ≡ calls (slice_index_or xs k x)) (plain k) (accounted-in 0 k xs x are below))
        where
          plain : (n : ℕ) → 0 + n ≡ n
          plain n = omega arith

      -- a name that isn't one of theirs has none
      pub calls-or : (n : List ℕ) → (calls_of n v.history ≡ []) ⊎ IsNumber 0 (length xs) n
      unfolding accounted
      calls-or n = by (names-differ-or-not n v.name) (accounted-or 0 xs n are)
        where
          by : (n ≡ v.name) ⊎ (n ≢ v.name)
              → (accounted n (map (λ y. account (name y) (calls y)) xs) ≡ [])
              ⊎ IsNumber 0 (0 + length xs) n
              → (calls_of n v.history ≡ []) ⊎ IsNumber 0 (length xs) n
          by (inl same) rest = inl (law n ∙ rw (names-same n v.name same) quiet)
          by (inr differ) (inl none) =
              inl (law n ∙ rw (names-differ n v.name differ)
              (ap (λ them. accounted n them) joined ∙ none))
          by (inr differ) (inr (k, above, below, is)) = inr (k, above, omega (arith, below), is)

-- ---- a pass that was split off
module _ {M S E O P : Type 0} (cell : Shared M (Held M E O) (Knowledge S E O) P) where
  pub pass-split : (k : ℕ) (u v : Knowledge S E O) (pass : Seat (Held M E O) (Knowledge S E O))
      → HasSplit k u v → IsPassOf cell pass → known pass ≡ split_off v → IsPassFor cell k pass
  pass-split k u v pass has of is = record {
    of_cell = of;
    name = ap (λ (x : Knowledge S E O). x.name) is ∙ split-name k u v has;
    joined = ap (λ (x : Knowledge S E O). x.joined) is;
    away = ap (λ (x : Knowledge S E O). x.away) is;
  }

  -- it is still that of its lane after some calls
  pub pass-stays : (k : ℕ) (old new : Seat (Held M E O) (Knowledge S E O)) (calls : List (Call E O))
      → IsPassFor cell k old → IsPassOf cell new → HasCalled (known old) (known new) calls
      → IsPassFor cell k new
  pass-stays k old new calls was of called = record {
    of_cell = of;
    name = called.same.name ∙ was.name;
    joined = called.same.joined ∙ was.joined;
    away = called.same.away ∙ was.away;
  }
