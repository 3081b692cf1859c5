-- The loops over lists and over a map of objects by numbers.
use Rattle.std.proofs.Common.{◌≡◌, ℕ, suc, ◌+◌, ◌<◌, ◌≤◌, List, [], ◌∷◌, ◌++◌, length, get_or, drop}
use Rattle.std.proofs.Common.{Some, None, Result, Ok, Err, Ordering, Less, Equal, Greater, String}
use Rattle.std.proofs.Common.{Global, string_bytes, nat_cmp, refl, ap, ◌∙◌, append_assoc}
use Rattle.std.proofs.Common.{append-nil, drop-cons, arith}
use Rattle.std.proofs.lemmas.List.{drop_all}
use Rattle.std.specs.BTreeMap.{insert_entry}
use Rattle.std.specs.Ordering.{match_ordering}
use Rattle.serde_json.specs.Data.{Data, Members}
use Rattle.serde_json.specs.View.{view, members_view, items_view}
use Rattle.serde_json.specs.declared.value.Value.{Value}
use Rattle.json_members.specs.declared.faults.JsonFault.{JsonFault}
use Rattle.json_members.specs.declared.faults.JsonFaultKind.TheVariants.{Number}
use Rattle.json_members.specs.Decimals.{number_of}
use Rattle.json_members.specs.declared.faults.ReadError.{ReadError}
use Rattle.json_members.specs.declared.faults.ReadError.TheVariants as errors
use Rattle.json_members.specs.Fields.{◌>>=◌, Fails, fault, each_item}
use Rattle.json_members.specs.Entries.{viewed, numbered_from, each_of, entry_at}

viewed-match_ordering : (o : Ordering) (a b c : List (ℕ × Value))
    → viewed (match_ordering o a b c) ≡ match_ordering o (viewed a) (viewed b) (viewed c)
viewed-match_ordering Less a b c = refl
viewed-match_ordering Equal a b c = refl
viewed-match_ordering Greater a b c = refl

pub viewed-insert_entry : (es : List (ℕ × Value)) (n : ℕ) (v : Value)
    → viewed (insert_entry nat_cmp es n v) ≡ insert_entry nat_cmp (viewed es) n (view v)
viewed-insert_entry [] n v = refl
viewed-insert_entry (e ∷ es) n v =
    viewed-match_ordering (nat_cmp n e.0) _ _ _ ∙ rw (viewed-insert_entry es n v) refl

pub numbered_more : (path : List ℕ) (es : List (ℕ × Value)) (k : String Global) (v : Value)
    (rest : List (String Global × Value)) (n : ℕ) → number_of (string_bytes k) ≡ Some n
    → numbered_from path (viewed (insert_entry nat_cmp es n v)) (members_view rest)
    ≡ numbered_from path (viewed es) (members_view ((k, v) ∷ rest))
unfolding numbered_from
numbered_more path es k v rest n is = rw (is, viewed-insert_entry es n v) refl

pub numbered_bad : (path : List ℕ) (found : List (ℕ × Data)) (k : String Global) (v : Value)
    (rest : List (String Global × Value)) → number_of (string_bytes k) ≡ None
    → numbered_from path found (members_view ((k, v) ∷ rest))
    ≡ Err (fault Number path (string_bytes k))
unfolding numbered_from
numbered_bad path found k v rest is = rw is refl

-- what was read so far, before what is read of the rest
abbrev pub after : {X : Type 0} → List X → Result (List X) JsonFault → Result (List X) JsonFault
after xs (Ok ys) = Ok (xs ++ ys)
after xs (Err e) = Err e

joined : {X : Type 0} (xs : List X) (x : X) (read : Result (List X) JsonFault)
    → after (xs ++ x ∷ []) read ≡ after xs (read >>= λ ys. Ok (x ∷ ys))
joined xs x (Ok ys) = ap Ok (append_assoc xs (x ∷ []) ys)
joined xs x (Err e) = refl

pub after-nothing : {X : Type 0} (read : Result (List X) JsonFault) → after [] read ≡ read
after-nothing (Ok ys) = refl
after-nothing (Err e) = refl

-- ---- the objects of a map by numbers
pub each_more : {X : Type 0} (of : List ℕ → Members → Result X JsonFault) (path : List ℕ)
    (xs : List (ℕ × X)) (e : ℕ × Data) (x : X) (es : List (ℕ × Data)) → entry_at of path e ≡ Ok x
    → after (xs ++ (e.0, x) ∷ []) (each_of of path es) ≡ after xs (each_of of path (e ∷ es))
unfolding each_of
each_more of path xs e x es is = rw is (joined xs (e.0, x) (each_of of path es))

pub each_fails : {X : Type 0} (of : List ℕ → Members → Result X JsonFault) (path : List ℕ)
    (xs : List (ℕ × X)) (e : ℕ × Data) (es : List (ℕ × Data)) (error : ReadError)
    → Fails error (entry_at of path e) → Fails error (after xs (each_of of path (e ∷ es)))
unfolding each_of
each_fails of path xs e es errors.Memory is = tt
each_fails of path xs e es (errors.Fault f) is = rw is refl

pub each_done : {X : Type 0} (of : List ℕ → Members → Result X JsonFault) (path : List ℕ)
    (xs : List (ℕ × X)) → after xs (each_of of path []) ≡ Ok xs
unfolding each_of
each_done of path xs = ap Ok (append-nil xs)

-- ---- the items of a list
module _ {X : Type 0} (of : List ℕ → ℕ → Data → Result X JsonFault) (path : List ℕ) where
  pub item_more : (xs : List X) (vs : List Value) (i : ℕ) (d : Value) (x : X) → i < length vs
      → of path i (view (get_or vs i d)) ≡ Ok x
      → after (xs ++ x ∷ []) (each_item of path (i + 1) (items_view (drop (i + 1) vs)))
      ≡ after xs (each_item of path i (items_view (drop i vs)))
  unfolding each_item
  item_more xs vs i d x h is =
      let next : i + 1 ≡ suc i = omega arith in
      rw (drop-cons vs i d h, is)
      (ap (λ (k : ℕ). after (xs ++ x ∷ []) (each_item of path (i + 1) (items_view (drop k vs))))
      next ∙ joined xs x (each_item of path (i + 1) (items_view (drop (suc i) vs))))

  pub item_fails : (xs : List X) (vs : List Value) (i : ℕ) (d : Value) (error : ReadError)
      → i < length vs → Fails error (of path i (view (get_or vs i d)))
      → Fails error (after xs (each_item of path i (items_view (drop i vs))))
  unfolding each_item
  item_fails xs vs i d errors.Memory h is = tt
  item_fails xs vs i d (errors.Fault f) h is = rw (drop-cons vs i d h, is) refl

  pub items_done : (xs : List X) (vs : List Value) (i : ℕ) → length vs ≤ i
      → after xs (each_item of path i (items_view (drop i vs))) ≡ Ok xs
  unfolding each_item
  items_done xs vs i h = rw (drop_all i vs h) (ap Ok (append-nil xs))
