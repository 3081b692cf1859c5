-- A value is told by its numbers: they are read back.
use Rattle.std.proofs.Common.{◌≡◌, ℕ, zero, suc, ◌+◌, ◌==◌, ◌≤◌, List, [], ◌∷◌, ◌++◌, true}
use Rattle.std.proofs.Common.{false, Option, Some, None, length, take, drop, refl, ap, ◌∙◌, arith}
use Rattle.std.proofs.Common.{append_assoc, if◌then◌else◌}
use Rattle.std.proofs.lemmas.Bool.{or_parts}
use Rattle.std.specs.Prelude.{pos, negsuc}
use Rattle.serde_json.specs.Data.{unsigned, negative, float, Data, null, boolean, number, string}
use Rattle.serde_json.specs.Data.{array, object, Items, no_items, item, Members, no_members, member}
use Rattle.serde_json.specs.Written.{has_float, items_have_float, members_have_float}
use Rattle.hotzone.specs.ZoneEvents.Codes.{value_code, items_code, members_code, text_code}

-- ---- read back, each with what is left
abbrev after : {A B : Type 0} → Option (A × List ℕ) → (A → List ℕ → Option B) → Option B
after None more = None
after (Some p) more = more p.0 p.1

abbrev one_from : List ℕ → Option (ℕ × List ℕ)
one_from [] = None
one_from (n ∷ codes) = Some (n, codes)

abbrev text_from : List ℕ → Option (List ℕ × List ℕ)
text_from [] = None
text_from (n ∷ codes) = Some (take n codes, drop n codes)

abbrev mutual
  value_from : ℕ → List ℕ → Option (Data × List ℕ)
  value_from zero codes = None
  value_from (suc n) [] = None
  value_from (suc n) (t ∷ codes) =
      if t == 0 then Some (null, codes) else (if t == 1 then Some (boolean false, codes) else
      (if t == 2 then Some (boolean true, codes) else
      (if t == 3 then after (one_from codes) (λ k rest. Some (number (unsigned k), rest)) else
      (if t == 4 then after (one_from codes) (λ k rest. Some (number (negative (pos k)), rest)) else
      (if t == 5 then after (one_from codes) (λ k rest. Some (number (negative (negsuc k)), rest)) else
      (if t == 7 then after (text_from codes) (λ s rest. Some (string s, rest)) else
      (if t == 8 then after (items_from n codes) (λ ds rest. Some (array ds, rest)) else
      (if t == 9 then after (members_from n codes) (λ ms rest. Some (object ms, rest)) else
      None))))))))

  items_from : ℕ → List ℕ → Option (Items × List ℕ)
  items_from zero codes = None
  items_from (suc n) [] = None
  items_from (suc n) (t ∷ codes) =
      if t == 0 then Some (no_items, codes) else after (value_from n codes)
      (λ d rest. after (items_from n rest) (λ ds more. Some (item d ds, more)))

  members_from : ℕ → List ℕ → Option (Members × List ℕ)
  members_from zero codes = None
  members_from (suc n) [] = None
  members_from (suc n) (t ∷ codes) =
      if t == 0 then Some (no_members, codes) else after (text_from codes)
      (λ k left. after (value_from n left)
      (λ d rest. after (members_from n rest) (λ ms more. Some (member k d ms, more))))

-- how many steps that takes
abbrev mutual
  steps : Data → ℕ
  steps null = 1
  steps (boolean b) = 1
  steps (number n) = 1
  steps (string s) = 1
  steps (array ds) = suc (items_steps ds)
  steps (object ms) = suc (members_steps ms)

  items_steps : Items → ℕ
  items_steps no_items = 1
  items_steps (item d ds) = suc (steps d + items_steps ds)

  members_steps : Members → ℕ
  members_steps no_members = 1
  members_steps (member k d ms) = suc (steps d + members_steps ms)

take-front : (s rest : List ℕ) → take (length s) (s ++ rest) ≡ s
take-front [] rest = refl
take-front (x ∷ s) rest = ap (λ l. x ∷ l) (take-front s rest)

drop-front : (s rest : List ℕ) → drop (length s) (s ++ rest) ≡ rest
drop-front [] rest = refl
drop-front (x ∷ s) rest = drop-front s rest

text-back : (s rest : List ℕ) → text_from (text_code s ++ rest) ≡ Some (s, rest)
text-back s rest = λ i. Some (take-front s rest i, drop-front s rest i)

mutual
  value-back : (d : Data) (n : ℕ) (rest : List ℕ) → has_float d ≡ false → steps d ≤ n
      → value_from n (value_code d ++ rest) ≡ Some (d, rest)
  value-back null zero rest whole enough = absurd (omega (arith, enough))
  value-back null (suc n) rest whole enough = refl
  value-back (boolean b) zero rest whole enough = absurd (omega (arith, enough))
  value-back (boolean false) (suc n) rest whole enough = refl
  value-back (boolean true) (suc n) rest whole enough = refl
  value-back (number k) zero rest whole enough = absurd (omega (arith, enough))
  value-back (number (unsigned k)) (suc n) rest whole enough = refl
  value-back (number (negative (pos k))) (suc n) rest whole enough = refl
  value-back (number (negative (negsuc k))) (suc n) rest whole enough = refl
  value-back (number (float x)) (suc n) rest whole enough = let bad : true ≡ false = whole in cc
  value-back (string s) zero rest whole enough = absurd (omega (arith, enough))
  value-back (string s) (suc n) rest whole enough =
      ap (λ r. after r (λ k more. Some (string k, more))) (text-back s rest)
  value-back (array ds) zero rest whole enough = absurd (omega (arith, enough))
  value-back (array ds) (suc n) rest whole enough =
      ap (λ r. after r (λ k more. Some (array k, more)))
      (items-back ds n rest whole (omega (arith, enough)))
  value-back (object ms) zero rest whole enough = absurd (omega (arith, enough))
  value-back (object ms) (suc n) rest whole enough =
      ap (λ r. after r (λ k more. Some (object k, more)))
      (members-back ms n rest whole (omega (arith, enough)))

  items-back : (ds : Items) (n : ℕ) (rest : List ℕ) → items_have_float ds ≡ false
      → items_steps ds ≤ n → items_from n (items_code ds ++ rest) ≡ Some (ds, rest)
  items-back no_items zero rest whole enough = absurd (omega (arith, enough))
  items-back no_items (suc n) rest whole enough = refl
  items-back (item d ds) zero rest whole enough = absurd (omega (arith, enough))
  items-back (item d ds) (suc n) rest whole enough =
      let both = or_parts (has_float d) (items_have_float ds) whole in
      ap (λ codes. after (value_from n codes)
      (λ d rest. after (items_from n rest) (λ ds more. Some (item d ds, more))))
      (append_assoc (value_code d) (items_code ds) rest)
      ∙ ap (λ r. after r (λ d rest. after (items_from n rest) (λ ds more. Some (item d ds, more))))
      (value-back d n (items_code ds ++ rest) both.0 (omega (arith, enough)))
      ∙ ap (λ r. after r (λ ds more. Some (item d ds, more)))
      (items-back ds n rest both.1 (omega (arith, enough)))

  members-back : (ms : Members) (n : ℕ) (rest : List ℕ) → members_have_float ms ≡ false
      → members_steps ms ≤ n → members_from n (members_code ms ++ rest) ≡ Some (ms, rest)
  members-back no_members zero rest whole enough = absurd (omega (arith, enough))
  members-back no_members (suc n) rest whole enough = refl
  members-back (member k d ms) zero rest whole enough = absurd (omega (arith, enough))
  members-back (member k d ms) (suc n) rest whole enough =
      let both = or_parts (has_float d) (members_have_float ms) whole in
      let behind = value_code d ++ members_code ms in
      ap (λ codes. after (text_from codes) (λ k left. after (value_from n left)
      (λ d rest. after (members_from n rest) (λ ms more. Some (member k d ms, more)))))
      (append_assoc (text_code k) behind rest)
      ∙ ap (λ r. after r (λ k left. after (value_from n left)
      (λ d rest. after (members_from n rest) (λ ms more. Some (member k d ms, more)))))
      (text-back k (behind ++ rest))
      ∙ ap (λ codes. after (value_from n codes)
      (λ d rest. after (members_from n rest) (λ ms more. Some (member k d ms, more))))
      (append_assoc (value_code d) (members_code ms) rest)
      ∙ ap (λ r. after r (λ d rest. after (members_from n rest) (λ ms more. Some (member k d ms, more))))
      (value-back d n (members_code ms ++ rest) both.0 (omega (arith, enough)))
      ∙ ap (λ r. after r (λ ms more. Some (member k d ms, more)))
      (members-back ms n rest both.1 (omega (arith, enough)))

some-first : (d e : Data) (xs ys : List ℕ) (one other : Option (Data × List ℕ))
    → one ≡ Some (d, xs) → other ≡ Some (e, ys) → one ≡ other → d ≡ e
some-first d e xs ys one other is at same =
    let pairs : ◌≡◌ {A = Data × List ℕ} (d, xs) (e, ys) = cc in ap (λ p. p.0) pairs

-- values without a float that have the same numbers are the same
pub one-value : (d e : Data) → has_float d ≡ false → has_float e ≡ false
    → value_code d ≡ value_code e → d ≡ e
one-value d e one two same =
    let n = steps d + steps e in
    some-first d e [] [] (value_from n (value_code d ++ [])) (value_from n (value_code e ++ []))
    (value-back d n [] one (omega arith)) (value-back e n [] two (omega arith))
    (ap (λ codes. value_from n (codes ++ [])) same)
