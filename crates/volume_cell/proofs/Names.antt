-- The calls of a history by name, and accounts by name.
use Rattle.std.proofs.Common.{◌≡◌, ◌≢◌, ℕ, ◌⊎◌, inl, inr, Bool, true, false, if◌then◌else◌, ◌||◌}
use Rattle.std.proofs.Common.{List, [], ◌∷◌, ◌++◌, length, refl, sym, ap, ◌∙◌, append_assoc}
use Rattle.std.proofs.Common.{append-nil, length-append, arith}
use Rattle.std.proofs.lemmas.Slice.Eq.{bytes_eq-Decides}
use Rattle.volume_cell.specs.declared.history.Call.{Call}
use Rattle.volume_cell.specs.declared.history.Entry.{Entry}
use Rattle.volume_cell.specs.declared.knowledge.Account.{Account}
use Rattle.volume_cell.specs.Histories.{is_same, Begins, call, entry, account, call_of, calls_of}
use Rattle.volume_cell.specs.Histories.{has_account, accounted}
use Rattle.volume_cell.specs.Knowing.{without, is_among}

pub true-or-false : (b : Bool) → (b ≡ true) ⊎ (b ≡ false)
true-or-false true = inl refl
true-or-false false = inr refl

pub not-both : {b : Bool} → b ≡ true → b ≡ false → ⊥
not-both t f = let e : true ≡ false = sym t ∙ f in absurd (cc)

pub same-names : (n m : List ℕ) → is_same n m ≡ true → n ≡ m
same-names n m = (bytes_eq-Decides n m).0

pub names-same : (n m : List ℕ) → n ≡ m → is_same n m ≡ true
names-same n m = (bytes_eq-Decides n m).1

pub names-differ : (n m : List ℕ) → (n ≢ m) → is_same n m ≡ false
names-differ n m apart = decide (true-or-false (is_same n m))
  where
    decide : (is_same n m ≡ true) ⊎ (is_same n m ≡ false) → is_same n m ≡ false
    decide (inl t) = absurd (apart (same-names n m t))
    decide (inr f) = f

pub differ-names : (n m : List ℕ) → is_same n m ≡ false → n ≢ m
differ-names n m f e = not-both (names-same n m e) f

pub names-differ-or-not : (n m : List ℕ) → (n ≡ m) ⊎ (n ≢ m)
names-differ-or-not n m = decide (true-or-false (is_same n m))
  where
    decide : (is_same n m ≡ true) ⊎ (is_same n m ≡ false) → (n ≡ m) ⊎ (n ≢ m)
    decide (inl t) = inl (same-names n m t)
    decide (inr f) = inr (differ-names n m f)

or-right : (a b : Bool) → a ≡ false → (a || b) ≡ b
or-right true b e = absurd (cc)
or-right false b e = refl

or-left : (a b : Bool) → a ≡ true → (a || b) ≡ true
or-left true b e = refl
or-left false b e = absurd (cc)

or-false : (a b : Bool) → a ≡ false → b ≡ false → (a || b) ≡ false
or-false a b x y = or-right a b x ∙ y

false-or : (a b : Bool) → (a || b) ≡ false → (a ≡ false) × (b ≡ false)
false-or true b e = absurd (cc)
false-or false b e = (refl, e)

or-assoc : (a b c : Bool) → ((a || b) || c) ≡ (a || (b || c))
or-assoc true b c = refl
or-assoc false b c = refl

-- the names of a list
pub among-without : (n m : List ℕ) (ms : List (List ℕ)) → n ≢ m → is_among n ms ≡ true
    → is_among n (without m ms) ≡ true
unfolding is_among without
among-without n m [] apart there = there
among-without n m (k ∷ ks) apart there =
    drops (true-or-false (is_same m k)) (true-or-false (is_same n k)) (among-without n m ks apart)
  where
    drops : (is_same m k ≡ true) ⊎ (is_same m k ≡ false)
        → (is_same n k ≡ true) ⊎ (is_same n k ≡ false)
        → (is_among n ks ≡ true → is_among n (without m ks) ≡ true)
        → is_among n (if is_same m k then without m ks else k ∷ without m ks) ≡ true
    drops (inl out) (inl here) later =
        absurd (apart (same-names n k here ∙ sym (same-names m k out)))
    drops (inl out) (inr other) later =
        rw out (later (sym (or-right (is_same n k) (is_among n ks) other) ∙ there))
    drops (inr stays) (inl here) later =
        rw stays (or-left (is_same n k) (is_among n (without m ks)) here)
    drops (inr stays) (inr other) later =
        rw stays
        (or-right (is_same n k) (is_among n (without m ks)) other
        ∙ later (sym (or-right (is_same n k) (is_among n ks) other) ∙ there))

pub among-first : (n : List ℕ) (ms : List (List ℕ)) → is_among n (n ∷ ms) ≡ true
unfolding is_among
among-first n ms = or-left _ _ (names-same n n refl)

pub among-later : (n m : List ℕ) (ms : List (List ℕ)) → is_among n ms ≡ true
    → is_among n (m ∷ ms) ≡ true
unfolding is_among
among-later n m ms there = later (is_same n m)
  where
    later : (b : Bool) → (b || is_among n ms) ≡ true
    later true = refl
    later false = there

pub among-none : (n : List ℕ) (ms : List (List ℕ)) → ms ≡ [] → is_among n ms ≡ true → ⊥
unfolding is_among
among-none n ms none there = not-both there (ap (is_among n) none)

nil-of : {X : Type 0} (xs : List X) → length xs ≡ 0 → xs ≡ []
nil-of [] e = refl
nil-of (x ∷ xs) e = absurd (omega arith)

nil-first : {X : Type 0} (xs ys : List X) → xs ++ ys ≡ [] → xs ≡ []
nil-first [] ys e = refl
nil-first (x ∷ xs) ys e = absurd (let l = ap length e in omega arith)

kept-all : {X : Type 0} (xs ys : List X) → xs ++ ys ≡ xs → ys ≡ []
kept-all xs ys e = nil-of ys (let l = ap length e in omega (arith, length-append xs ys))

module _ {E O : Type 0} where
  pub calls_of-append : (n : List ℕ) (es fs : List (Entry E O))
      → calls_of n (es ++ fs) ≡ calls_of n es ++ calls_of n fs
  unfolding calls_of
  calls_of-append n [] fs = refl
  calls_of-append n (e ∷ es) fs =
      ap (λ l. call_of n e ++ l) (calls_of-append n es fs)
      ∙ sym (append_assoc (call_of n e) (calls_of n es) (calls_of n fs))

  pub calls_of-own : (n : List ℕ) (e : E) (o : O) (es : List (Entry E O))
      → calls_of n (es ++ entry n e o ∷ []) ≡ calls_of n es ++ call e o ∷ []
  unfolding calls_of
  calls_of-own n e o es =
      calls_of-append n es (entry n e o ∷ [])
      ∙ ap (λ l. calls_of n es ++ l) (rw (names-same n n refl) refl)

  pub calls_of-other : (n m : List ℕ) (e : E) (o : O) (es : List (Entry E O)) → n ≢ m
      → calls_of n (es ++ entry m e o ∷ []) ≡ calls_of n es
  unfolding calls_of
  calls_of-other n m e o es apart =
      calls_of-append n es (entry m e o ∷ [])
      ∙ (ap (λ l. calls_of n es ++ l) (rw (names-differ n m apart) refl)
      ∙ append-nil (calls_of n es))

  -- a beginning of a history in which nothing stands under a name
  pub begins-none : (n : List ℕ) (es fs : List (Entry E O)) → Begins es fs → calls_of n fs ≡ []
      → calls_of n es ≡ []
  begins-none n es fs b none =
      nil-first (calls_of n es) (calls_of n b.rest)
      (sym (calls_of-append n es b.rest) ∙ (sym (ap (calls_of n) b.is) ∙ none))

  pub calls_of-nothing : (n : List ℕ) → calls_of {E = E} {O = O} n [] ≡ []
  unfolding calls_of
  calls_of-nothing n = refl

  -- the name of a first entry has a call
  pub not-none : (e : Entry E O) (es : List (Entry E O)) → calls_of e.name (e ∷ es) ≡ [] → ⊥
  unfolding calls_of
  not-none e es none =
      let one : call_of e.name e ++ calls_of e.name es
      ≡ call e.event e.outcome ∷ calls_of e.name es = rw (names-same e.name e.name refl) refl in
      let l = ap length (sym one ∙ none) in absurd (omega arith)

  -- what comes after a beginning that has all the calls of a name has none of them
  pub rest-none : (n : List ℕ) (es fs : List (Entry E O)) (b : Begins es fs)
      → calls_of n fs ≡ calls_of n es → calls_of n b.rest ≡ []
  rest-none n es fs b all =
      kept-all (calls_of n es) (calls_of n b.rest)
      (sym (calls_of-append n es b.rest) ∙ (sym (ap (calls_of n) b.is) ∙ all))

  -- a history between two in which the same calls stand under a name
  pub between : (n : List ℕ) (es fs gs : List (Entry E O)) (cs : List (Call E O)) → Begins es fs
      → Begins fs gs → calls_of n es ≡ cs → calls_of n gs ≡ cs → calls_of n fs ≡ cs
  between n es fs gs cs b c first last =
      let more : calls_of n fs ≡ calls_of n es ++ calls_of n b.rest =
      ap (calls_of n) b.is ∙ calls_of-append n es b.rest in
      let all : calls_of n gs ≡ calls_of n fs ++ calls_of n c.rest =
      ap (calls_of n) c.is ∙ calls_of-append n fs c.rest in
      let short : length (calls_of n gs) ≡ length (calls_of n es) = ap length (last ∙ sym first) in
      let none : calls_of n b.rest ≡ [] =
      nil-of (calls_of n b.rest)
      (let l = ap length all in let k =
      ap length more in
      omega (
        arith,
        length-append (calls_of n fs) (calls_of n c.rest),
        length-append (calls_of n es) (calls_of n b.rest),
      )) in
      more ∙ (ap (λ l. calls_of n es ++ l) none ∙ (append-nil (calls_of n es) ∙ first))

  -- accounts
  pub has-own : (n m : List ℕ) (cs : List (Call E O)) (bs : List (Account E O)) → n ≡ m
      → has_account n (account m cs ∷ bs) ≡ true
  unfolding has_account
  has-own n m cs bs e = or-left _ _ (names-same n m e)

  pub has-not-own : (n m : List ℕ) (cs : List (Call E O)) (bs : List (Account E O))
      → has_account n (account m cs ∷ bs) ≡ false → n ≢ m
  has-not-own n m cs bs none e = not-both (has-own n m cs bs e) none

  -- whether there is an account does not depend on its calls
  pub has-names : (n m : List ℕ) (cs ds : List (Call E O)) (bs : List (Account E O))
      → has_account n (account m cs ∷ bs) ≡ has_account n (account m ds ∷ bs)
  unfolding has_account
  has-names n m cs ds bs = refl

  pub has-alone : (n m : List ℕ) (cs : List (Call E O)) → n ≢ m
      → has_account n (account m cs ∷ []) ≡ false
  unfolding has_account
  has-alone n m cs apart = or-false _ _ (names-differ n m apart) refl

  -- an account alone is of its own name
  pub has-one : (n m : List ℕ) (cs : List (Call E O)) → has_account n (account m cs ∷ []) ≡ true
      → n ≡ m
  has-one n m cs has = decide (names-differ-or-not n m)
    where
      decide : (n ≡ m) ⊎ (n ≢ m) → n ≡ m
      decide (inl same) = same
      decide (inr other) = absurd (not-both has (has-alone n m cs other))

  -- the calls of an account do not decide whether it is there
  pub own-call : (n m : List ℕ) (cs ds : List (Call E O)) (bs : List (Account E O))
      → has_account n (account m ds ∷ bs) ≡ true → has_account n (account m cs ∷ bs) ≡ true
  own-call n m cs ds bs has = has-names n m cs ds bs ∙ has

  pub has-append : (n : List ℕ) (xs bs : List (Account E O))
      → has_account n (xs ++ bs) ≡ (has_account n xs || has_account n bs)
  unfolding has_account
  has-append n [] bs = refl
  has-append n (a ∷ more) bs =
      ap (λ b. is_same n a.name || b) (has-append n more bs)
      ∙ sym (or-assoc (is_same n a.name) (has_account n more) (has_account n bs))

  pub has-neither : (n : List ℕ) (xs bs : List (Account E O)) → has_account n xs ≡ false
      → has_account n bs ≡ false → has_account n (xs ++ bs) ≡ false
  has-neither n xs bs x y = has-append n xs bs ∙ or-false _ _ x y

  -- an account that the first do not have
  pub has-alone-name : (n : List ℕ) (xs bs : List (Account E O)) → has_account n xs ≡ false
      → has_account n (xs ++ bs) ≡ true → has_account n bs ≡ true
  has-alone-name n xs bs none has = sym (or-right _ _ none) ∙ (sym (has-append n xs bs) ∙ has)

  pub has-left : (n : List ℕ) (xs bs : List (Account E O)) → has_account n xs ≡ true
      → has_account n (xs ++ bs) ≡ true
  has-left n xs bs x = has-append n xs bs ∙ or-left _ _ x

  pub has-right : (n : List ℕ) (xs bs : List (Account E O)) → has_account n bs ≡ true
      → has_account n (xs ++ bs) ≡ true
  has-right n xs bs y = has-append n xs bs ∙ either (has_account n xs)
    where
      either : (b : Bool) → (b || has_account n bs) ≡ true
      either true = refl
      either false = y

  pub accounted-own : (n m : List ℕ) (cs : List (Call E O)) (bs : List (Account E O)) → n ≡ m
      → accounted n (account m cs ∷ bs) ≡ cs
  unfolding accounted
  accounted-own n m cs bs e = rw (names-same n m e) refl

  pub accounted-other : (n m : List ℕ) (cs ds : List (Call E O)) (bs : List (Account E O)) → n ≢ m
      → accounted n (account m cs ∷ bs) ≡ accounted n (account m ds ∷ bs)
  unfolding accounted
  accounted-other n m cs ds bs apart = rw (names-differ n m apart) refl

  pub accounted-none : (n : List ℕ) (xs : List (Account E O)) → has_account n xs ≡ false
      → accounted n xs ≡ []
  unfolding has_account accounted
  accounted-none n [] none = refl
  accounted-none n (a ∷ more) none = let both =
      false-or (is_same n a.name) (has_account n more) none in
      rw both.0 (accounted-none n more both.1)

  pub accounted-left : (n : List ℕ) (xs bs : List (Account E O)) → has_account n xs ≡ true
      → accounted n (xs ++ bs) ≡ accounted n xs
  unfolding has_account accounted
  accounted-left n [] bs has = absurd (cc)
  accounted-left n (a ∷ more) bs has =
      decide (true-or-false (is_same n a.name)) (accounted-left n more bs)
    where
      decide : (is_same n a.name ≡ true) ⊎ (is_same n a.name ≡ false)
          → (has_account n more ≡ true → accounted n (more ++ bs) ≡ accounted n more)
          → (if is_same n a.name then a.calls else accounted n (more ++ bs))
          ≡ (if is_same n a.name then a.calls else accounted n more)
      decide (inl here) further = rw here refl
      decide (inr later) further =
          rw later (further (sym (or-right (is_same n a.name) (has_account n more) later) ∙ has))

  pub accounted-right : (n : List ℕ) (xs bs : List (Account E O)) → has_account n xs ≡ false
      → accounted n (xs ++ bs) ≡ accounted n bs
  unfolding has_account accounted
  accounted-right n [] bs none = refl
  accounted-right n (a ∷ more) bs none = let both =
      false-or (is_same n a.name) (has_account n more) none in
      rw both.0 (accounted-right n more bs both.1)
