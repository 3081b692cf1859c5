-- Entries by rising number, whatever the order in which they come.
use Rattle.std.proofs.Common.{◌≡◌, ℕ, ◌^◌, ◌<◌, List, [], ◌∷◌, Bool, true, false, Option, Some}
use Rattle.std.proofs.Common.{None, Result, Ok, Ordering, Less, Equal, Greater, nat_cmp, nat_lt}
use Rattle.std.proofs.Common.{decimal, map, refl, sym, ap, ◌∙◌, arith, true≢false}
use Rattle.std.proofs.lemmas.Bool.{ltb-true, ltb-false}
use Rattle.std.proofs.lemmas.Fmt.{decimal_injective}
use Rattle.std.proofs.lemmas.Slice.Eq.{bytes_eq-Decides}
use Rattle.std.proofs.lemmas.Map.Lookups.{exact_bytes}
use Rattle.std.specs.BTreeMap.{insert_entry}
use Rattle.std.specs.Cmp.{nat_cmp_is}
use Rattle.std.specs.Cmp.Lexicographic.{slice_cmp}
use Rattle.std.specs.List.{AllByRecursion}
use Rattle.std.specs.Ordering.{match_ordering}
use Rattle.serde_json.specs.Data.{Data, object, Members, no_members, member, put}
use Rattle.serde_json.specs.Find.{get_member}
use Rattle.serde_json.proofs.Views.{get_member-put_other}
use Rattle.json_members.specs.declared.faults.JsonFault.{JsonFault}
use Rattle.json_members.specs.Decimals.{number_of}
use Rattle.json_members.specs.Fields.{under}
use Rattle.json_members.specs.Entries.{numbered_from, each_of, entry_at, objects_in, objects_onto}
use Rattle.json_members.specs.Entries.{objects_members, IsRising}
use Rattle.json_members.proofs.DecimalLemmas.{number_of-decimal, number_of-exact}
use Rattle.json_members.proofs.PutLemmas.{gone_at}

pub less : (a b : ℕ) → a < b → nat_cmp a b ≡ Less
less a b h = sym (nat_cmp_is a b Less h)

pub same : (a b : ℕ) → a ≡ b → nat_cmp a b ≡ Equal
same a b h = sym (nat_cmp_is a b Equal h)

pub more : (a b : ℕ) → b < a → nat_cmp a b ≡ Greater
more a b h = sym (nat_cmp_is a b Greater h)

pub data Compares (a b : ℕ) : Type 0 where
  below : a < b → Compares a b
  equal : a ≡ b → Compares a b
  above : b < a → Compares a b

by_test : (a b : ℕ) (t u : Bool) → nat_lt a b ≡ t → nat_lt b a ≡ u → Compares a b
by_test a b true u p q = below (ltb-true a b p)
by_test a b false true p q = above (ltb-true b a q)
by_test a b false false p q = equal (omega (arith, ltb-false a b p, ltb-false b a q))

pub compared : (a b : ℕ) → Compares a b
compared a b = by_test a b _ _ refl refl

module _ {X : Type 0} where
  swap_at : (n m : ℕ) (d e : X) (x : ℕ × X) (xs : List (ℕ × X)) → n < m → Compares n x.0
      → Compares m x.0
      → insert_entry nat_cmp (insert_entry nat_cmp xs m e) n d
      ≡ insert_entry nat_cmp (insert_entry nat_cmp xs n d) m e
      → insert_entry nat_cmp (insert_entry nat_cmp (x ∷ xs) m e) n d
      ≡ insert_entry nat_cmp (insert_entry nat_cmp (x ∷ xs) n d) m e
  swap_at n m d e x xs h (below p) (below q) later =
      simp (less n x.0 p, less m x.0 q, less n m h, more m n h)
  swap_at n m d e x xs h (below p) (equal q) later = simp (less n x.0 p, same m x.0 q, more m n h)
  swap_at n m d e x xs h (below p) (above q) later = simp (less n x.0 p, more m x.0 q, more m n h)
  swap_at n m d e x xs h (equal p) (below q) later = absurd (omega arith)
  swap_at n m d e x xs h (equal p) (equal q) later = absurd (omega arith)
  swap_at n m d e x xs h (equal p) (above q) later = simp (same n x.0 p, more m x.0 q)
  swap_at n m d e x xs h (above p) (below q) later = absurd (omega arith)
  swap_at n m d e x xs h (above p) (equal q) later = absurd (omega arith)
  swap_at n m d e x xs h (above p) (above q) later =
      simp (more n x.0 p, more m x.0 q) (ap (λ r. x ∷ r) later)

  swap : (xs : List (ℕ × X)) (n m : ℕ) (d e : X) → n < m
      → insert_entry nat_cmp (insert_entry nat_cmp xs m e) n d
      ≡ insert_entry nat_cmp (insert_entry nat_cmp xs n d) m e
  swap [] n m d e h = rw (less n m h, more m n h) refl
  swap (x ∷ xs) n m d e h =
      swap_at n m d e x xs h (compared n x.0) (compared m x.0) (swap xs n m d e h)

  swapped : (xs : List (ℕ × X)) (n m : ℕ) (d e : X) → (n ≡ m → ⊥)
      → insert_entry nat_cmp (insert_entry nat_cmp xs m e) n d
      ≡ insert_entry nat_cmp (insert_entry nat_cmp xs n d) m e
  swapped xs n m d e other =
      elim (compared n m) [
        | below h ↦ swap xs n m d e h
        | equal h ↦ absurd (other h)
        | above h ↦
            sym (swap xs m n e d h)
      ]

-- ---- one more member
put_step : (path : List ℕ) (found : List (ℕ × Data)) (n : ℕ) (d : Data) (l : List ℕ) (e : Data)
    (ms : Members) (r : Option ℕ) → number_of l ≡ r → (decimal n ≡ l → ⊥)
    → ((es : List (ℕ × Data))
    → numbered_from path es (put (decimal n) d ms)
    ≡ numbered_from path (insert_entry nat_cmp es n d) ms)
    → numbered_from path found (member l e (put (decimal n) d ms))
    ≡ numbered_from path (insert_entry nat_cmp found n d) (member l e ms)
unfolding numbered_from
put_step path found n d l e ms None is other later = rw is refl
put_step path found n d l e ms (Some m) is other later =
    rw is (later (insert_entry nat_cmp found m e)
    ∙ ap (λ es. numbered_from path es ms)
    (swapped found n m d e (λ (h : n ≡ m). other (ap decimal h ∙ sym (number_of-exact l m is).1))))

put_at : (o : Ordering) (path : List ℕ) (found : List (ℕ × Data)) (n : ℕ) (d : Data) (l : List ℕ)
    (e : Data) (ms : Members) → slice_cmp nat_cmp (decimal n) l ≡ o → n < 2 ^ 64
    → (decimal n ≡ l → ⊥)
    → ((es : List (ℕ × Data))
    → numbered_from path es (put (decimal n) d ms)
    ≡ numbered_from path (insert_entry nat_cmp es n d) ms)
    → numbered_from path found
    (match_ordering o (member (decimal n) d (member l e ms)) (member l d ms)
    (member l e (put (decimal n) d ms)))
    ≡ numbered_from path (insert_entry nat_cmp found n d) (member l e ms)
unfolding numbered_from
put_at Less path found n d l e ms is small other later = rw (number_of-decimal n small) refl
put_at Equal path found n d l e ms is small other later =
    absurd (other (exact_bytes (decimal n) l is))
put_at Greater path found n d l e ms is small other later =
    put_step path found n d l e ms _ refl other later

numbered_from-put : (path : List ℕ) (found : List (ℕ × Data)) (n : ℕ) (d : Data) (ms : Members)
    → n < 2 ^ 64 → get_member (decimal n) ms ≡ None
    → numbered_from path found (put (decimal n) d ms)
    ≡ numbered_from path (insert_entry nat_cmp found n d) ms
unfolding numbered_from
numbered_from-put path found n d no_members small fresh = rw (number_of-decimal n small) refl
numbered_from-put path found n d (member l e ms) small fresh =
    let g = gone_at _ (decimal n) l e ms refl fresh in
    put_at _ path found n d l e ms refl small
    (λ (h : decimal n ≡ l). true≢false (sym ((bytes_eq-Decides (decimal n) l).1 h) ∙ g.0))
    (λ es. numbered_from-put path es n d ms small g.1)

-- ---- all members
module _ {X : Type 0} (members : X → Members) where
  -- the entries, put in from the last one on
  abbrev spread : List (ℕ × X) → List (ℕ × Data) → List (ℕ × Data)
  spread [] found = found
  spread (e ∷ es) found = insert_entry nat_cmp (spread es found) e.0 (object (members e.1))

  abbrev IsFresh : Members → List (ℕ × X) → Type 0
  IsFresh ms es = AllByRecursion (λ e. get_member (decimal e.0) ms ≡ None) es

  still_fresh : (n : ℕ) (d : Data) (ms : Members) (es : List (ℕ × X)) → n < 2 ^ 64 → IsRising es
      → AllByRecursion (λ f. n < f.0) es → IsFresh ms es → IsFresh (put (decimal n) d ms) es
  still_fresh n d ms [] small rising all fresh = tt
  still_fresh n d ms (e ∷ es) small rising all fresh = (
    get_member-put_other (decimal e.0) (decimal n) d ms
        (λ (h : decimal e.0 ≡ decimal n). let k : e.0 ≡ n =
        decimal_injective e.0 n rising.0 small h in omega arith) ∙ fresh.0,
    still_fresh n d ms es small rising.2 all.1 fresh.1,
  )

  numbered_from-onto : (path : List ℕ) (found : List (ℕ × Data)) (es : List (ℕ × X)) (ms : Members)
      → IsRising es → IsFresh ms es
      → numbered_from path found (objects_onto members es ms)
      ≡ numbered_from path (spread es found) ms
  numbered_from-onto path found [] ms rising fresh = refl
  numbered_from-onto path found (e ∷ es) ms rising fresh =
      numbered_from-onto path found es (put (decimal e.0) (object (members e.1)) ms) rising.2
      (still_fresh e.0 _ ms es rising.0 rising.2 rising.1 fresh.1)
      ∙ numbered_from-put path (spread es found) e.0 (object (members e.1)) ms rising.0 fresh.0

  abbrev datas : List (ℕ × X) → List (ℕ × Data)
  datas es = map (λ e. (e.0, object (members e.1))) es

  in_front : (n : ℕ) (d : Data) (es : List (ℕ × X)) → AllByRecursion (λ f. n < f.0) es
      → insert_entry nat_cmp (datas es) n d ≡ (n, d) ∷ datas es
  in_front n d [] all = refl
  in_front n d (e ∷ es) all = rw (less n e.0 all.0) refl

  spread-rising : (es : List (ℕ × X)) → IsRising es → spread es [] ≡ datas es
  spread-rising [] rising = refl
  spread-rising (e ∷ es) rising =
      rw (spread-rising es rising.2) (in_front e.0 (object (members e.1)) es rising.1)

  nothing_fresh : (es : List (ℕ × X)) → IsFresh no_members es
  nothing_fresh [] = tt
  nothing_fresh (e ∷ es) = (refl, nothing_fresh es)

  pub numbered_back : (path : List ℕ) (es : List (ℕ × X)) → IsRising es
      → numbered_from path [] (objects_members members es) ≡ Ok (datas es)
  unfolding numbered_from
  numbered_back path es rising =
      numbered_from-onto path [] es no_members rising (nothing_fresh es)
      ∙ ap Ok (spread-rising es rising)

  each_back : (of : List ℕ → Members → Result X JsonFault) (path : List ℕ) (es : List (ℕ × X))
      → AllByRecursion (λ e. of (under path (decimal e.0)) (members e.1) ≡ Ok e.1) es
      → each_of of path (datas es) ≡ Ok es
  unfolding each_of entry_at
  each_back of path [] all = refl
  each_back of path (e ∷ es) all = rw (all.0, each_back of path es all.1) refl

  -- what is written for entries is read as those entries
  pub objects_back : (of : List ℕ → Members → Result X JsonFault) (path : List ℕ)
      (es : List (ℕ × X)) → IsRising es
      → AllByRecursion (λ e. of (under path (decimal e.0)) (members e.1) ≡ Ok e.1) es
      → objects_in of path (objects_members members es) ≡ Ok es
  unfolding objects_in
  objects_back of path es rising all = rw (numbered_back path es rising) (each_back of path es all)
