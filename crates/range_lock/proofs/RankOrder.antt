-- Ranked entries put in the order of their ranks: with one more, without one of them, and with
-- ranks that have fallen.
use Rattle.std.proofs.Common.{◌≡◌, ℕ, ◌-◌, ◌+◌, ◌<◌, ◌≤◌, List, [], ◌∷◌, ◌++◌, map, nat_lt}
use Rattle.std.proofs.Common.{refl, sym, ap, ◌∙◌, subst, inl, inr, arith}
use Rattle.std.proofs.lemmas.Bool.{cases_lt, cond-true, cond-false, lt-ltb, le-ltb}
use Rattle.std.proofs.lemmas.List.Elements.{All-from_recursion, recursion_from_All}
use Rattle.std.proofs.lemmas.List.Sorted.{IsPermutation-refl, IsPermutation-sym}
use Rattle.std.proofs.lemmas.List.Sorted.{IsPermutation-trans, IsPermutation-cons}
use Rattle.std.proofs.lemmas.List.Sorted.{IsPermutation-middle, All-permutation}
use Rattle.std.specs.List.{AllByRecursion}
use Rattle.std.specs.List.Sorted.{IsPermutation}
use Rattle.range_lock.specs.declared.ranked.Ranked.{Ranked}
use Rattle.range_lock.specs.Ranks.{put_by_rank, in_rank_order, rank_after, lowered}
use Rattle.range_lock.proofs.Lists.{all-each}

-- ---- one more of them
put-below : (r s : Ranked) (rest : List Ranked) → r.rank < s.rank
    → put_by_rank r (s ∷ rest) ≡ r ∷ s ∷ rest
unfolding put_by_rank
put-below r s rest lt =
    cond-true (nat_lt r.rank s.rank) (r ∷ s ∷ rest) (s ∷ put_by_rank r rest)
    (lt-ltb r.rank s.rank lt)

put-past : (r s : Ranked) (rest : List Ranked) → s.rank ≤ r.rank
    → put_by_rank r (s ∷ rest) ≡ s ∷ put_by_rank r rest
unfolding put_by_rank
put-past r s rest le =
    cond-false (nat_lt r.rank s.rank) (r ∷ s ∷ rest) (s ∷ put_by_rank r rest)
    (le-ltb r.rank s.rank le)

put-permutes : (r : Ranked) (items : List Ranked) → IsPermutation (r ∷ items) (put_by_rank r items)
unfolding put_by_rank
put-permutes r [] = IsPermutation-refl (r ∷ [])
put-permutes r (s ∷ rest) = elim (cases_lt r.rank s.rank) [
  | inl here ↦ subst (λ (l : List Ranked). IsPermutation (r ∷ s ∷ rest) l)
      (sym (put-below r s rest here)) (IsPermutation-refl (r ∷ s ∷ rest))
  | inr past ↦ subst (λ (l : List Ranked). IsPermutation (r ∷ s ∷ rest) l)
      (sym (put-past r s rest past))
      (IsPermutation-trans (r ∷ s ∷ rest) (s ∷ r ∷ rest) (s ∷ put_by_rank r rest)
      (IsPermutation-sym (s ∷ r ∷ rest) (r ∷ s ∷ rest) (IsPermutation-middle (s ∷ []) r rest))
      (IsPermutation-cons s (r ∷ rest) (put_by_rank r rest) (put-permutes r rest)))
]

pub order-permutes : (items : List Ranked) → IsPermutation items (in_rank_order items)
unfolding in_rank_order
order-permutes [] = IsPermutation-refl []
order-permutes (r ∷ rest) =
    IsPermutation-trans (r ∷ rest) (r ∷ in_rank_order rest) (put_by_rank r (in_rank_order rest))
    (IsPermutation-cons r rest (in_rank_order rest) (order-permutes rest))
    (put-permutes r (in_rank_order rest))

pub all-ordered : (P : Ranked → Type 0) (items : List Ranked) → AllByRecursion P items
    → AllByRecursion P (in_rank_order items)
all-ordered P items all =
    recursion_from_All P (in_rank_order items)
    (All-permutation P items (in_rank_order items) (order-permutes items)
    (All-from_recursion P items all))

pub all-unordered : (P : Ranked → Type 0) (items : List Ranked)
    → AllByRecursion P (in_rank_order items) → AllByRecursion P items
all-unordered P items all =
    recursion_from_All P items
    (All-permutation P (in_rank_order items) items
    (IsPermutation-sym items (in_rank_order items) (order-permutes items))
    (All-from_recursion P (in_rank_order items) all))

-- ---- one of the highest rank
put-last : (r : Ranked) (items : List Ranked) → AllByRecursion (λ s. s.rank < r.rank) items
    → put_by_rank r items ≡ items ++ r ∷ []
unfolding put_by_rank
put-last r [] lower = refl
put-last r (s ∷ rest) lower =
    let less : s.rank < r.rank = lower.0 in
    put-past r s rest (omega arith) ∙ ap (λ (l : List Ranked). s ∷ l) (put-last r rest lower.1)

put-before_last : (r s : Ranked) (items : List Ranked) → r.rank < s.rank
    → put_by_rank r (items ++ s ∷ []) ≡ put_by_rank r items ++ s ∷ []
unfolding put_by_rank
put-before_last r s [] lt = put-below r s [] lt
put-before_last r s (t ∷ rest) lt = elim (cases_lt r.rank t.rank) [
  | inl here ↦ put-below r t (rest ++ s ∷ []) here
      ∙ ap (λ (l : List Ranked). l ++ s ∷ []) (sym (put-below r t rest here))
  | inr past ↦ put-past r t (rest ++ s ∷ []) past
      ∙ (ap (λ (l : List Ranked). t ∷ l) (put-before_last r s rest lt)
      ∙ ap (λ (l : List Ranked). l ++ s ∷ []) (sym (put-past r t rest past)))
]

pub order-last : (front : List Ranked) (r : Ranked) (back : List Ranked)
    → AllByRecursion (λ s. s.rank < r.rank) (front ++ back)
    → in_rank_order (front ++ r ∷ back) ≡ in_rank_order (front ++ back) ++ r ∷ []
unfolding in_rank_order
order-last [] r back lower =
    put-last r (in_rank_order back) (all-ordered (λ s. s.rank < r.rank) back lower)
order-last (s ∷ front) r back lower =
    ap (put_by_rank s) (order-last front r back lower.1)
    ∙ put-before_last s r (in_rank_order (front ++ back)) lower.0

-- ---- one of another rank than all others
put-swaps : (r s : Ranked) (items : List Ranked) → r.rank < s.rank
    → put_by_rank r (put_by_rank s items) ≡ put_by_rank s (put_by_rank r items)
unfolding put_by_rank
put-swaps r s [] lt = put-below r s [] lt ∙ sym (put-past s r [] (omega arith))
put-swaps r s (t ∷ rest) lt = elim (cases_lt s.rank t.rank) [
  | inl here ↦
      let first : r.rank < t.rank = omega arith in
      let behind : r.rank ≤ s.rank = omega arith in
      ap (put_by_rank r) (put-below s t rest here)
      ∙ (put-below r s (t ∷ rest) lt
      ∙ sym (ap (put_by_rank s) (put-below r t rest first)
      ∙ (put-past s r (t ∷ rest) behind
      ∙ ap (λ (l : List Ranked). r ∷ l) (put-below s t rest here))))
  | inr past ↦ elim (cases_lt r.rank t.rank) [
    | inl here ↦
        let behind : r.rank ≤ s.rank = omega arith in
        ap (put_by_rank r) (put-past s t rest past)
        ∙ (put-below r t (put_by_rank s rest) here
        ∙ sym (ap (put_by_rank s) (put-below r t rest here)
        ∙ (put-past s r (t ∷ rest) behind
        ∙ ap (λ (l : List Ranked). r ∷ l) (put-past s t rest past))))
    | inr also ↦ ap (put_by_rank r) (put-past s t rest past)
        ∙ (put-past r t (put_by_rank s rest) also
        ∙ (ap (λ (l : List Ranked). t ∷ l) (put-swaps r s rest lt)
        ∙ sym (ap (put_by_rank s) (put-past r t rest also)
        ∙ put-past s t (put_by_rank r rest) past)))
  ]
]

put-swapped : (r s : Ranked) (items : List Ranked) → (r.rank ≡ s.rank → ⊥)
    → put_by_rank r (put_by_rank s items) ≡ put_by_rank s (put_by_rank r items)
put-swapped r s items other = elim (cases_lt r.rank s.rank) [
  | inl lt ↦ put-swaps r s items lt
  | inr le ↦ sym (put-swaps s r items (omega arith))
]

order-put : (front : List Ranked) (r : Ranked) (back : List Ranked)
    → AllByRecursion (λ s. r.rank ≡ s.rank → ⊥) (front ++ back)
    → in_rank_order (front ++ r ∷ back) ≡ put_by_rank r (in_rank_order (front ++ back))
unfolding in_rank_order
order-put [] r back others = refl
order-put (s ∷ front) r back others =
    ap (put_by_rank s) (order-put front r back others.1)
    ∙ put-swapped s r (in_rank_order (front ++ back)) (λ same. others.0 (sym same))

-- ranks rise
abbrev IsRising : List Ranked → Type 0
IsRising [] = Unit {0}
IsRising (r ∷ rest) = AllByRecursion (λ s. r.rank ≤ s.rank) rest × IsRising rest

put-rises : (r : Ranked) (items : List Ranked) → IsRising items → IsRising (put_by_rank r items)
unfolding put_by_rank
put-rises r [] rising = (tt, tt)
put-rises r (s ∷ rest) rising = elim (cases_lt r.rank s.rank) [
  | inl here ↦
      let le : r.rank ≤ s.rank = omega arith in
      let above = all-each (λ (t : Ranked). s.rank ≤ t.rank) (λ (t : Ranked). r.rank ≤ t.rank)
      (λ t higher. omega arith) rest rising.0 in
      subst IsRising (sym (put-below r s rest here)) ((le, above), rising)
  | inr past ↦
      let all = recursion_from_All (λ (t : Ranked). s.rank ≤ t.rank) (put_by_rank r rest)
      (All-permutation (λ (t : Ranked). s.rank ≤ t.rank) (r ∷ rest) (put_by_rank r rest)
      (put-permutes r rest)
      (All-from_recursion (λ (t : Ranked). s.rank ≤ t.rank) (r ∷ rest) (past, rising.0))) in
      subst IsRising (sym (put-past r s rest past)) (all, put-rises r rest rising.1)
]

order-rises : (items : List Ranked) → IsRising (in_rank_order items)
unfolding in_rank_order
order-rises [] = tt
order-rises (r ∷ rest) = put-rises r (in_rank_order rest) (order-rises rest)

-- one put among others: those of lower rank before it, and those of higher rank behind it
pub record Parted (r : Ranked) (items whole : List Ranked) : Type 0 where
  pub front : List Ranked
  pub back : List Ranked
  pub without : items ≡ front ++ back
  pub among : whole ≡ front ++ r ∷ back
  pub lower : AllByRecursion (λ s. s.rank < r.rank) front
  pub higher : AllByRecursion (λ s. r.rank < s.rank) back

put-parts : (r : Ranked) (items : List Ranked) → IsRising items
    → AllByRecursion (λ s. r.rank ≡ s.rank → ⊥) items → Parted r items (put_by_rank r items)
unfolding put_by_rank
put-parts r [] rising others =
    record { front = []; back = []; without = refl; among = refl; lower = tt; higher = tt }
put-parts r (s ∷ rest) rising others = elim (cases_lt r.rank s.rank) [
  | inl here ↦
      let above = all-each (λ (t : Ranked). s.rank ≤ t.rank) (λ (t : Ranked). r.rank < t.rank)
      (λ t higher. omega arith) rest rising.0 in
      record {
        front = [];
        back = s ∷ rest;
        without = refl;
        among = put-below r s rest here;
        lower = tt;
        higher = (here, above);
      }
  | inr past ↦
      let other : r.rank ≡ s.rank → ⊥ = others.0 in
      let less : s.rank < r.rank = omega arith in
      let q = put-parts r rest rising.1 others.1 in
      record {
        front = s ∷ q.front;
        back = q.back;
        without = ap (λ (l : List Ranked). s ∷ l) q.without;
        among = put-past r s rest past ∙ ap (λ (l : List Ranked). s ∷ l) q.among;
        lower = (less, q.lower);
        higher = q.higher;
      }
]

pub order-parts : (front : List Ranked) (r : Ranked) (back : List Ranked)
    → AllByRecursion (λ s. r.rank ≡ s.rank → ⊥) (front ++ back)
    → Parted r (in_rank_order (front ++ back)) (in_rank_order (front ++ r ∷ back))
order-parts front r back others =
    let q = put-parts r (in_rank_order (front ++ back)) (order-rises (front ++ back))
    (all-ordered (λ s. r.rank ≡ s.rank → ⊥) (front ++ back) others) in
    record {
      front = q.front;
      back = q.back;
      without = q.without;
      among = order-put front r back others ∙ q.among;
      lower = q.lower;
      higher = q.higher;
    }

-- ---- ranks after an entry has left
pub after-above : (gone rank : ℕ) → gone < rank → rank_after gone rank ≡ rank - 1
unfolding rank_after
after-above gone rank lt = cond-true (nat_lt gone rank) (rank - 1) rank (lt-ltb gone rank lt)

pub after-upto : (gone rank : ℕ) → rank ≤ gone → rank_after gone rank ≡ rank
unfolding rank_after
after-upto gone rank le = cond-false (nat_lt gone rank) (rank - 1) rank (le-ltb gone rank le)

-- the order of two others stays
rank_after-lt : (gone a b : ℕ) → (gone ≡ a → ⊥) → (gone ≡ b → ⊥) → a < b
    → rank_after gone a < rank_after gone b
rank_after-lt gone a b x y lt = elim (cases_lt gone a) [
  | inl above ↦
      let also : gone < b = omega arith in
      omega (arith, after-above gone a above, after-above gone b also)
  | inr upto ↦ elim (cases_lt gone b) [
    | inl above ↦ omega (arith, after-upto gone a upto, after-above gone b above)
    | inr also ↦ omega (arith, after-upto gone a upto, after-upto gone b also)
  ]
]

rank_after-le : (gone a b : ℕ) → a ≤ b → rank_after gone a ≤ rank_after gone b
rank_after-le gone a b le = elim (cases_lt gone a) [
  | inl above ↦
      let also : gone < b = omega arith in
      omega (arith, after-above gone a above, after-above gone b also)
  | inr upto ↦ elim (cases_lt gone b) [
    | inl above ↦ omega (arith, after-upto gone a upto, after-above gone b above)
    | inr also ↦ omega (arith, after-upto gone a upto, after-upto gone b also)
  ]
]

pub rank_after-ne : (gone a b : ℕ) → (gone ≡ a → ⊥) → (gone ≡ b → ⊥) → (a ≡ b → ⊥)
    → rank_after gone a ≡ rank_after gone b → ⊥
rank_after-ne gone a b x y other same = elim (cases_lt a b) [
  | inl lt ↦ let less = rank_after-lt gone a b x y lt in omega (arith, less, same)
  | inr le ↦
      let lt : b < a = omega arith in
      let less = rank_after-lt gone b a y x lt in
      omega (arith, less, same)
]

pub rank_after-below : (gone rank most : ℕ) → (gone ≡ rank → ⊥) → rank < most + 1 → gone < most + 1
    → rank_after gone rank < most
rank_after-below gone rank most other below within = elim (cases_lt gone rank) [
  | inl above ↦ omega (arith, after-above gone rank above)
  | inr upto ↦ omega (arith, after-upto gone rank upto)
]

put-lowered : (gone : ℕ) (r : Ranked) (items : List Ranked) → (gone ≡ r.rank → ⊥)
    → AllByRecursion (λ s. gone ≡ s.rank → ⊥) items
    → put_by_rank (lowered gone r) (map (lowered gone) items)
    ≡ map (lowered gone) (put_by_rank r items)
unfolding put_by_rank
put-lowered gone r [] other others = refl
put-lowered gone r (s ∷ rest) other others = elim (cases_lt r.rank s.rank) [
  | inl here ↦ put-below (lowered gone r) (lowered gone s) (map (lowered gone) rest)
      (rank_after-lt gone r.rank s.rank other others.0 here)
      ∙ ap (map (lowered gone)) (sym (put-below r s rest here))
  | inr past ↦ put-past (lowered gone r) (lowered gone s) (map (lowered gone) rest)
      (rank_after-le gone s.rank r.rank past)
      ∙ (ap (λ (l : List Ranked). lowered gone s ∷ l) (put-lowered gone r rest other others.1)
      ∙ ap (map (lowered gone)) (sym (put-past r s rest past)))
]

pub order-lowered : (gone : ℕ) (items : List Ranked)
    → AllByRecursion (λ s. gone ≡ s.rank → ⊥) items
    → in_rank_order (map (lowered gone) items) ≡ map (lowered gone) (in_rank_order items)
unfolding in_rank_order
order-lowered gone [] others = refl
order-lowered gone (r ∷ rest) others =
    ap (put_by_rank (lowered gone r)) (order-lowered gone rest others.1)
    ∙ put-lowered gone r (in_rank_order rest) others.0
    (all-ordered (λ s. gone ≡ s.rank → ⊥) rest others.1)
