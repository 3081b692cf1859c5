-- Entries that were read are right.
use Rattle.std.proofs.Common.{◌≡◌, ℕ, suc, ◌^◌, ◌<◌, List, [], ◌∷◌, Some, Result, Ok, Err, decimal}
use Rattle.std.proofs.Common.{nat_cmp, subst, arith}
use Rattle.std.specs.BTreeMap.{insert_entry}
use Rattle.std.specs.List.{AllByRecursion}
use Rattle.serde_json.specs.Data.{Data, null, boolean, number, string, array, object, Members}
use Rattle.serde_json.specs.Data.{no_members, member}
use Rattle.serde_json.specs.Find.{as_object}
use Rattle.json_members.specs.declared.faults.JsonFault.{JsonFault}
use Rattle.json_members.specs.declared.faults.JsonFaultKind.TheVariants.{Kind, Number}
use Rattle.json_members.specs.Decimals.{number_of}
use Rattle.json_members.specs.Fields.{required, under}
use Rattle.json_members.specs.Members.{IsPlain, IsPlainData}
use Rattle.json_members.specs.Entries.{numbered_from, numbered_in, each_of, entry_at, objects_in}
use Rattle.json_members.specs.Entries.{IsRising, AreEntries}
use Rattle.json_members.proofs.DecimalLemmas.{number_of-exact}
use Rattle.json_members.proofs.OrderLemmas.{Compares, below, equal, above, compared, less, same}
use Rattle.json_members.proofs.OrderLemmas.{more}
use Rattle.json_members.proofs.PlainLemmas.{first as first_plain, later as later_plain}
use Rattle.json_members.proofs.ReadLemmas.{Right, then, right_at, required-Some}

module _ {X : Type 0} where
  abbrev Above : ℕ → List (ℕ × X) → Type 0
  Above a es = AllByRecursion (λ f. a < f.0) es

  further : (a b : ℕ) (es : List (ℕ × X)) → a < b → Above b es → Above a es
  further a b [] h all = tt
  further a b (e ∷ es) h all = (omega (arith, all.0), further a b es h all.1)

  insert_all_at : (P : ℕ × X → Type 0) (e : ℕ × X) (es : List (ℕ × X)) (n : ℕ) (d : X)
      → Compares n e.0 → P (n, d) → P (e.0, d) → P e → AllByRecursion P es
      → AllByRecursion P (insert_entry nat_cmp es n d)
      → AllByRecursion P (insert_entry nat_cmp (e ∷ es) n d)
  insert_all_at P e es n d (below h) p q r all after = rw (less n e.0 h) (p, (r, all))
  insert_all_at P e es n d (equal h) p q r all after = rw (same n e.0 h) (q, all)
  insert_all_at P e es n d (above h) p q r all after = rw (more n e.0 h) (r, after)

  insert_above : (a : ℕ) (es : List (ℕ × X)) (n : ℕ) (d : X) → a < n → Above a es
      → Above a (insert_entry nat_cmp es n d)
  insert_above a [] n d h all = (h, tt)
  insert_above a (e ∷ es) n d h all =
      insert_all_at (λ f. a < f.0) e es n d (compared n e.0) h all.0 all.0 all.1
      (insert_above a es n d h all.1)

  insert_values : (P : X → Type 0) (es : List (ℕ × X)) (n : ℕ) (d : X) → P d
      → AllByRecursion (λ f. P f.1) es → AllByRecursion (λ f. P f.1) (insert_entry nat_cmp es n d)
  insert_values P [] n d h all = (h, tt)
  insert_values P (e ∷ es) n d h all =
      insert_all_at (λ f. P f.1) e es n d (compared n e.0) h h all.0 all.1
      (insert_values P es n d h all.1)

  insert_rising_at : (e : ℕ × X) (es : List (ℕ × X)) (n : ℕ) (d : X) → Compares n e.0 → n < 2 ^ 64
      → IsRising (e ∷ es) → IsRising (insert_entry nat_cmp es n d)
      → IsRising (insert_entry nat_cmp (e ∷ es) n d)
  insert_rising_at e es n d (below h) small all after =
      rw (less n e.0 h) (small, (h, further n e.0 es h all.1), all)
  insert_rising_at e es n d (equal h) small all after = rw (same n e.0 h) all
  insert_rising_at e es n d (above h) small all after =
      rw (more n e.0 h) (all.0, insert_above e.0 es n d h all.1, after)

  insert_rising : (es : List (ℕ × X)) (n : ℕ) (d : X) → n < 2 ^ 64 → IsRising es
      → IsRising (insert_entry nat_cmp es n d)
  insert_rising [] n d small all = (small, tt, tt)
  insert_rising (e ∷ es) n d small all =
      insert_rising_at e es n d (compared n e.0) small all (insert_rising es n d small all.2)

pub record AreNumbered (deep : ℕ) (es : List (ℕ × Data)) : Type 0 where
  pub rising : IsRising es
  pub plain : AllByRecursion (λ e. IsPlainData deep e.1) es

numbered_right : {deep : ℕ} (path : List ℕ) (found : List (ℕ × Data)) (ms : Members)
    → AreNumbered deep found → IsPlain deep ms
    → Right (AreNumbered deep) (numbered_from path found ms)
unfolding numbered_from
numbered_right path found no_members are plain = are
numbered_right {deep} path found (member k d ms) are plain =
    then (required Number path k (number_of k)) _ _ (λ n e.
    let small : n < 2 ^ 64 =
    right_at _ n (λ m. m < 2 ^ 64) e
    (required-Some Number path k (number_of k) (λ m. m < 2 ^ 64)
    (λ m is. (number_of-exact k m is).0)) in
    numbered_right path (insert_entry nat_cmp found n d) ms (record {
      rising = insert_rising found n d small are.rising;
      plain = insert_values (IsPlainData deep) found n d (first_plain k d ms plain) are.plain;
    }) (later_plain k d ms plain))

module _ {X : Type 0} (deep : ℕ) (of : List ℕ → Members → Result X JsonFault) (P : X → Type 0)
    (right : (path : List ℕ) (ms : Members) → IsPlain deep ms → Right P (of path ms)) where
  inner : (d : Data) (ms : Members) → as_object d ≡ Some ms → IsPlainData (suc deep) d
      → IsPlain deep ms
  inner null ms e plain = cc
  inner (boolean b) ms e plain = cc
  inner (number n) ms e plain = cc
  inner (string s) ms e plain = cc
  inner (array ds) ms e plain = cc
  inner (object ns) ms e plain =
      let k : ns ≡ ms = cc in
      subst (IsPlain deep) k (record { whole = plain.whole; flat = omega (arith, plain.flat) })

  object_right : (path : List ℕ) (e : ℕ × Data) → IsPlainData (suc deep) e.1
      → Right P (entry_at of path e)
  unfolding entry_at
  object_right path e plain =
      then (required Kind path (decimal e.0) (as_object e.1)) _ _ (λ ms is.
      right (under path (decimal e.0)) ms
      (right_at _ ms (IsPlain deep) is
      (required-Some Kind path (decimal e.0) (as_object e.1) (IsPlain deep)
      (λ ns k. inner e.1 ns k plain))))

  only_first : (Q : List (ℕ × X) → Type 0) (r : Result (List (ℕ × X)) JsonFault)
      → Right (λ xs. AreEntries P xs × Q xs) r → Right (AreEntries P) r
  only_first Q (Ok xs) h = h.0
  only_first Q (Err e) h = tt

  -- the numbers stay
  each_right : (path : List ℕ) (es : List (ℕ × Data)) → IsRising es
      → AllByRecursion (λ e. IsPlainData (suc deep) e.1) es
      → Right (λ xs. AreEntries P xs
      × ((a : ℕ) → AllByRecursion (λ f. a < f.0) es → AllByRecursion (λ f. a < f.0) xs))
      (each_of of path es)
  unfolding each_of
  each_right path [] rising plain = (record { rising = tt; each = tt }, λ a all. tt)
  each_right path (e ∷ es) rising plain =
      then (entry_at of path e) _ _ (λ x is.
      then (each_of of path es) _ _ (λ xs are.
      let rest =
      right_at _ xs
      (λ ys. AreEntries P ys
      × ((a : ℕ) → AllByRecursion (λ f. a < f.0) es → AllByRecursion (λ f. a < f.0) ys)) are
      (each_right path es rising.2 plain.1) in (
        record {
          rising = (rising.0, rest.1 e.0 rising.1, rest.0.rising);
          each =
              (right_at _ x P is (object_right path e plain.0), rest.0.each);
        },
        λ a all. (all.0, rest.1 a all.1),
      )))

  -- entries that were read are right
  pub objects_right : (path : List ℕ) (ms : Members) → IsPlain (suc deep) ms
      → Right (AreEntries P) (objects_in of path ms)
  unfolding objects_in
  objects_right path ms plain =
      then (numbered_in path ms) _ _ (λ es is.
      let are =
      right_at _ es (AreNumbered (suc deep)) is
      (numbered_right path [] ms (record { rising = tt; plain = tt }) plain) in
      only_first _ (each_of of path es) (each_right path es are.rising are.plain))
