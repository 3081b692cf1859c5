-- What the law of a closed cell gives where two passes were split off the first, and which outcomes
-- a history has.
use Rattle.std.proofs.Common.{◌≡◌, ◌≢◌, ℕ, suc, ◌+◌, ◌%◌, ◌^◌, ◌⊎◌, inl, inr, List, [], ◌∷◌, ◌++◌}
use Rattle.std.proofs.Common.{length, get_or, refl, sym, ap, ◌∙◌, arith}
use Rattle.volume_cell.specs.declared.history.Call.{Call}
use Rattle.volume_cell.specs.declared.history.Entry.{Entry}
use Rattle.volume_cell.specs.declared.knowledge.Account.{Account}
use Rattle.volume_cell.specs.declared.knowledge.Knowledge.{Knowledge}
use Rattle.volume_cell.specs.Histories.{entry, account, calls_of, accounted}
use Rattle.volume_cell.specs.Knowing.{accounts, IsWhole, without, beginning, having_split}
use Rattle.volume_cell.specs.Knowing.{having_joined, retired}
use Rattle.volume_cell.specs.Passes.{IsAccounted}
use Rattle.volume_cell.specs.Numbered.{AreNumbered}
use Rattle.volume_cell.proofs.Names.{names-same, names-differ, names-differ-or-not}
use Rattle.volume_cell.proofs.Names.{calls_of-nothing, not-none}

module _ {E : Type 0} where
  -- one more number
  pub numbered-more : (n : ℕ) (m : List ℕ) (e : E) (o : ℕ) (es : List (Entry E ℕ))
      → AreNumbered n es → o ≡ (n + length es) % 2 ^ 64 → AreNumbered n (es ++ entry m e o ∷ [])
  unfolding AreNumbered
  numbered-more n m e o [] are is = (is ∙ ap (λ k. k % 2 ^ 64) (omega arith), tt)
  numbered-more n m e o (x ∷ xs) are is =
      (are.0, numbered-more (n + 1) m e o xs are.1 (is ∙ ap (λ k. k % 2 ^ 64) (omega arith)))

nil-second : {X : Type 0} (xs ys : List X) → xs ++ ys ≡ [] → ys ≡ []
nil-second [] ys e = e
nil-second (x ∷ xs) ys e = absurd (let l = ap length e in omega arith)

module _ {E O : Type 0} where
  later-none : (k : List ℕ) (e : Entry E O) (es : List (Entry E O)) → calls_of k (e ∷ es) ≡ []
      → calls_of k es ≡ []
  unfolding calls_of
  later-none k e es none = nil-second _ (calls_of k es) none

  one-more : (n : List ℕ) (e : Entry E O) (es : List (Entry E O)) → n ≡ e.name
      → length (calls_of n (e ∷ es)) ≡ suc (length (calls_of n es))
  unfolding calls_of
  one-more n e es same = rw (names-same n e.name same) refl

  no-more : (n : List ℕ) (e : Entry E O) (es : List (Entry E O)) → n ≢ e.name
      → length (calls_of n (e ∷ es)) ≡ length (calls_of n es)
  unfolding calls_of
  no-more n e es other = rw (names-differ n e.name other) refl

  -- a history in which two names alone have calls is as long as their calls
  pub two-names : (n m : List ℕ) → n ≢ m → (h : List (Entry E O))
      → ((k : List ℕ) → k ≢ n → k ≢ m → calls_of k h ≡ [])
      → length h ≡ length (calls_of n h) + length (calls_of m h)
  two-names n m apart [] none =
      ap (λ (z : List (Call E O) × List (Call E O)). length z.0 + length z.1)
      (λ i. (
        sym (calls_of-nothing {E = E} {O = O} n) i,
        sym (calls_of-nothing {E = E} {O = O} m) i,
      ))
  two-names n m apart (e ∷ es) none =
      by (names-differ-or-not n e.name) (names-differ-or-not m e.name)
      (two-names n m apart es (λ k x y. later-none k e es (none k x y)))
    where
      by : (n ≡ e.name) ⊎ (n ≢ e.name) → (m ≡ e.name) ⊎ (m ≢ e.name)
          → length es ≡ length (calls_of n es) + length (calls_of m es)
          → length (e ∷ es) ≡ length (calls_of n (e ∷ es)) + length (calls_of m (e ∷ es))
      by (inl x) (inl y) before = absurd (apart (x ∙ sym y))
      by (inl x) (inr y) before = let a = one-more n e es x in let b =
          no-more m e es y in omega (arith, a, b, before)
      by (inr x) (inl y) before = let a = no-more n e es x in let b =
          one-more m e es y in omega (arith, a, b, before)
      by (inr x) (inr y) before =
          absurd (not-none e es (none e.name (λ z. x (sym z)) (λ z. y (sym z))))

module _ {S E O : Type 0} where
  -- both passes are back
  pub both-back : (s : S) (u v w : Knowledge S E O)
      → u ≡ having_joined (having_joined (having_split (having_split (beginning s))) v) w
      → v.name ≡ 0 ∷ [] → w.name ≡ 1 ∷ [] → IsWhole u
  unfolding without
  both-back s u v w is left right =
      ap (λ (x : Knowledge S E O). x.away) is
      ∙ ap (λ (z : List ℕ × List ℕ). without z.1 (without z.0 ((1 ∷ []) ∷ (0 ∷ []) ∷ [])))
      (λ i. (left i, right i))

  module _ (s : S) (t v w : Knowledge S E O)
      (is : t ≡ retired
      (having_joined (having_joined (having_split (having_split (beginning s))) v) w))
      (left : v.name ≡ 0 ∷ []) (alone : v.joined ≡ []) (right : w.name ≡ 1 ∷ [])
      (lone : w.joined ≡ []) (law : IsAccounted t) where
    abbrev all : List (Account E O)
    all = account [] [] ∷ account (0 ∷ []) v.calls ∷ account (1 ∷ []) w.calls ∷ []

    accounts-are : accounts t ≡ all
    accounts-are =
        ap accounts is
        ∙ ap (λ (z : (List ℕ × List (Account E O)) × (List ℕ × List (Account E O))). account [] []
        ∷ ((account z.0.0 v.calls ∷ z.0.1) ++ account z.1.0 w.calls ∷ z.1.1))
        (λ i. ((left i, alone i), (right i, lone i)))

    told : (n : List ℕ) → calls_of n t.history ≡ accounted n all
    told n = law n ∙ ap (accounted n) accounts-are

    pub drawn-left : calls_of (0 ∷ []) t.history ≡ v.calls
    unfolding accounted
    drawn-left = told (0 ∷ []) ∙ refl

    pub drawn-right : calls_of (1 ∷ []) t.history ≡ w.calls
    unfolding accounted
    drawn-right = told (1 ∷ []) ∙ refl

    no-others : (k : List ℕ) → k ≢ 0 ∷ [] → k ≢ 1 ∷ [] → accounted k all ≡ []
    unfolding accounted
    no-others k x y = by (names-differ-or-not k [])
      where
        by : (k ≡ []) ⊎ (k ≢ []) → accounted k all ≡ []
        by (inl e) = rw (names-same k [] e) refl
        by (inr ne) =
            rw (names-differ k [] ne, names-differ k (0 ∷ []) x, names-differ k (1 ∷ []) y) refl

    pub drawn-all : length t.history ≡ length v.calls + length w.calls
    drawn-all =
        two-names (0 ∷ []) (1 ∷ [])
        (λ e. let z : 0 ≡ 1 = ap (λ (l : List ℕ). get_or l 0 0) e in absurd (omega (arith, z)))
        t.history (λ k x y. told k ∙ no-others k x y)
        ∙ ap (λ (z : List (Call E O) × List (Call E O)). length z.0 + length z.1)
        (λ i. (drawn-left i, drawn-right i))
