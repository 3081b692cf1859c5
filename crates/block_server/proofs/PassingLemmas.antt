-- The first pass, as passes are split off it and joined back.
use Rattle.std.proofs.Common.{◌≡◌, ◌≢◌, ◌⊎◌, inl, inr, ℕ, zero, suc, ◌+◌, ◌<◌, ◌≤◌, Bool, true, false, List}
use Rattle.std.proofs.Common.{[], ◌∷◌, ◌++◌, Option, Some, IsSomeAnd, length, slice_index_or}
use Rattle.std.proofs.Common.{if◌then◌else◌, refl, sym, ◌∙◌, ap, subst, arith, length-append}
use Rattle.volume_cell.proofs.Names.{names-same}
use Rattle.shared_volume.specs.Lanes.{Knowing}
use Rattle.volume_cell.specs.Histories.{Begins, account, is_same}
use Rattle.volume_cell.specs.Knowing.{having_joined, having_split, next_name, without}
use Rattle.block_server.specs.Passing.{AreBetween, IsFirst}

-- one more
wider : (least end : ℕ) (names : List (List ℕ)) → AreBetween least end names
    → AreBetween least (end + 1) names
unfolding AreBetween
wider least end [] are = tt
wider least end (n ∷ ns) are =
    let (k, is, above, below) = are.0 in
    ((k, is, above, omega (arith, below)), wider least end ns are.1)

pub between-more : (least end : ℕ) (names : List (List ℕ)) → least ≤ end
    → AreBetween least end names → AreBetween least (end + 1) ((end ∷ []) ∷ names)
unfolding AreBetween
between-more least end names from all =
    ((end, refl, from, omega arith), wider least end names all)

-- the least one is gone
one-less : (least end : ℕ) (n : List ℕ) (ns : List (List ℕ)) → AreBetween least end (n ∷ ns)
    → AreBetween (suc least) end (without (least ∷ []) ns)
    → AreBetween (suc least) end (without (least ∷ []) (n ∷ ns))
unfolding AreBetween without
one-less least end n ns are rest = by (is_same (least ∷ []) n) refl
  where
    true-false : true ≡ false → ⊥
    true-false same = absurd (cc)

    by : (b : Bool) → is_same (least ∷ []) n ≡ b
        → AreBetween (suc least) end
        (if is_same (least ∷ []) n then without (least ∷ []) ns else n ∷ without (least ∷ []) ns)
    by true same = rw same rest
    by false differ =
        let (k, is, above, below) = are.0 in
        let apart : least ≢ k = λ same. true-false
        (sym (names-same (least ∷ []) n (ap (λ (m : ℕ). m ∷ []) same ∙ sym is)) ∙ differ) in
        rw differ ((k, is, omega (arith, above, apart), below), rest)

pub between-without : (least end : ℕ) (names : List (List ℕ)) → AreBetween least end names
    → AreBetween (suc least) end (without (least ∷ []) names)
unfolding AreBetween without
between-without least end [] are = tt
between-without least end (n ∷ ns) are =
    one-less least end n ns are (between-without least end ns are.1)

-- none is left
pub between-none : (end : ℕ) (names : List (List ℕ)) → AreBetween end end names → names ≡ []
unfolding AreBetween
between-none end [] are = refl
between-none end (n ∷ ns) are =
    let (k, is, above, below) = are.0 in absurd (omega (arith, above, below))

-- a place of a list with one more
pub at-front : {A : Type 0} (xs ys : List A) (k : ℕ) (d : A) → k < length xs
    → slice_index_or (xs ++ ys) k d ≡ slice_index_or xs k d
at-front [] ys k d below = absurd (omega (arith, below))
at-front (x ∷ xs) ys zero d below = refl
at-front (x ∷ xs) ys (suc k) d below = at-front xs ys k d (omega (arith, below))

pub at-last : {A : Type 0} (xs : List A) (x d : A) → slice_index_or (xs ++ x ∷ []) (length xs) d ≡ x
at-last [] x d = refl
at-last (y ∷ xs) x d = at-last xs x d

pub each-more : {A : Type 0} (Is : ℕ → A → Type 0) (xs : List (Option A)) (a : A)
    → ((k : ℕ) (slot : Option A) → k < length xs → IsSomeAnd (slice_index_or xs k slot) (Is k))
    → Is (length xs) a
    → (k : ℕ) (slot : Option A) → k < length (xs ++ Some a ∷ [])
    → IsSomeAnd (slice_index_or (xs ++ Some a ∷ []) k slot) (Is k)
each-more {A = A} Is xs a all last k slot below = by (order k (length xs))
  where
    order : (i n : ℕ) → (i < n) ⊎ (n ≤ i)
    order i zero = inr (omega arith)
    order zero (suc n) = inl (omega arith)
    order (suc i) (suc n) = elim (order i n) [
      | inl less ↦ inl (omega (arith, less))
      | inr more ↦ inr (omega (arith, more))
    ]

    by : (k < length xs) ⊎ (length xs ≤ k)
        → IsSomeAnd (slice_index_or (xs ++ Some a ∷ []) k slot) (Is k)
    by (inl less) = subst (λ (o : Option A). IsSomeAnd o (Is k))
        (sym (at-front xs (Some a ∷ []) k slot less)) (all k slot less)
    by (inr more) =
        let same : length xs ≡ k = omega (arith, more, below, length-append xs (Some a ∷ [])) in
        subst (λ (i : ℕ). IsSomeAnd (slice_index_or (xs ++ Some a ∷ []) i slot) (Is i)) same
        (subst (λ (o : Option A). IsSomeAnd o (Is (length xs)))
        (sym (at-last xs (Some a) slot)) last)

pub begins-length : {X : Type 0} (earlier later : List X) → Begins earlier later
    → length earlier ≤ length later
begins-length {X = X} earlier later begins =
    omega (arith, ap (λ (l : List X). length l) begins.is, length-append earlier begins.rest)

module _ {C : Type 0} where
  -- one more pass was split off the first one
  pub first-split : (splits : ℕ) (v w : Knowing C) → w ≡ having_split v → IsFirst splits 0 v
      → IsFirst (splits + 1) 0 w
  first-split splits v w is first =
      subst (λ (k : Knowing C). IsFirst (splits + 1) 0 k) (sym is) (record {
        name = first.name;
        calls = first.calls;
        splits_are = ap (λ (n : ℕ). n + 1) first.splits_are;
        away = subst (λ (n : List ℕ). AreBetween 0 (splits + 1) (n ∷ v.away)) (sym named)
            (between-more 0 splits v.away (omega arith) first.away);
      })
    where
      named : next_name v ≡ splits ∷ []
      named = ap (λ (n : List ℕ). n ++ v.splits ∷ []) first.name
          ∙ ap (λ (n : ℕ). n ∷ []) first.splits_are

  -- the pass of the next number was joined back
  pub first-joined : (splits back : ℕ) (v w x : Knowing C) → x ≡ having_joined v w
      → w.name ≡ back ∷ [] → IsFirst splits back v → IsFirst splits (back + 1) x
  first-joined splits back v w x is name first =
      subst (λ (k : Knowing C). IsFirst splits (back + 1) k) (sym is) (record {
        name = first.name;
        calls = first.calls;
        splits_are = first.splits_are;
        away = subst (λ (n : ℕ). AreBetween n splits (without w.name v.away)) (next back)
            (subst (λ (n : List ℕ). AreBetween (suc back) splits (without n v.away)) (sym name)
            (between-without back splits v.away first.away));
      })
    where
      next : (n : ℕ) → suc n ≡ n + 1
      next n = omega arith

  pub joined-one : (v w x : Knowing C) → x ≡ having_joined v w → w.joined ≡ []
      → x.joined ≡ v.joined ++ account w.name w.calls ∷ []
  joined-one v w x is none =
      ap (λ (k : Knowing C). k.joined) is
      ∙ ap (λ others. v.joined ++ account w.name w.calls ∷ others) none
