-- A header that bytes give is given by the front of them in which both its copies lie: what stands behind
-- tells nothing of it.
use Rattle.std.proofs.Common.{◌≡◌, ◌∙◌, ◌⊎◌, ◌+◌, ◌-◌, ◌*◌, ◌≤◌, ◌<◌, ◌++◌, inl, inr, ℕ, List, [], Option}
use Rattle.std.proofs.Common.{None, Some, ap, arith, drop, refl, sym, take}
use Rattle.std.proofs.lemmas.Bool.{cases_lt}
use Rattle.std.proofs.lemmas.List.{drop-take, drop_all, length-take, take-append-drop}
use Rattle.crash_laws.proofs.HeaderAreas.HeadersGiven.{some_none}
use Rattle.crash_laws.specs.HeaderAreas.Headers.{Gives, IsReader, Reader, found}
use Rattle.luks_store.proofs.CopyLemmas.{front-part}

none-or : {M : Type 0} (o : Option M) → ((m : M) → o ≡ Some m → ⊥) → o ≡ None
none-or None never = refl
none-or (Some m) never = absurd (never m refl)

-- from a place on the bytes are those of the front, and more
more-behind : (place front : ℕ) (bytes : List ℕ)
    → (rest : List ℕ) × (drop place bytes ≡ drop place (take front bytes) ++ rest)
more-behind place front bytes = elim (cases_lt front place) [
  | inl past ↦ (
    drop place bytes,
    ap (λ (text : List ℕ). text ++ drop place bytes) (sym (none past)),
  )
  | inr within ↦ (
    drop (front - place) (drop place bytes),
    sym (take-append-drop (front - place) (drop place bytes))
        ∙ ap (λ (text : List ℕ). text ++ drop (front - place) (drop place bytes))
        (sym (drop-take place (front - place) bytes)
        ∙ ap (λ n. drop place (take n bytes))
        (let e : place + (front - place) ≡ front = omega (arith, within) in e)),
  )
]
  where
    none : front < place → drop place (take front bytes) ≡ []
    none past =
        let long = length-take front bytes in
        drop_all place (take front bytes) (omega (arith, long, past))

module _ {M : Type 0} (reader : Reader M) (is : IsReader reader) (bytes : List ℕ) (front : ℕ) where
  -- a copy that is found in front is found in all
  found-in-all : (place : ℕ) (m : M) → found reader (take front bytes) place ≡ Some m
      → found reader bytes place ≡ Some m
  found-in-all place m here =
      let (rest, same) = more-behind place front bytes in
      ap (reader.decode place) same
      ∙ is.behind place (drop place (take front bytes)) rest m here

  none-in-front : (place : ℕ) → found reader bytes place ≡ None
      → found reader (take front bytes) place ≡ None
  none-in-front place none =
      none-or (found reader (take front bytes) place)
      (λ m here. some_none (found reader bytes place) m (found-in-all place m here) none)

  -- and one that ends there is found there
  found-in-front : (place : ℕ) (m : M) → place + reader.size m ≤ front
      → found reader bytes place ≡ Some m → found reader (take front bytes) place ≡ Some m
  found-in-front place m within here =
      let n = reader.size m in
      let short = drop place (take front bytes) in
      ap (reader.decode place) (sym (take-append-drop n short))
      ∙ is.behind place (take n short) (drop n short) m
      (ap (reader.decode place) (front-part front place n bytes within)
      ∙ is.own place (drop place bytes) m here)

  -- a copy that another one leads to stands no farther than at that one's size
  stands-within : (place : ℕ) (m : M) → found reader bytes place ≡ Some m → place ≤ reader.size m
  stands-within place m here = by-place (is.here place (drop place bytes) m here)
    where
      by-place : (place ≡ 0) ⊎ (place ≡ reader.size m) → place ≤ reader.size m
      by-place (inl first) = omega (arith, first)
      by-place (inr second) = omega (arith, second)

  pub gives-in-front : (m : M) → 2 * reader.size m ≤ front → Gives reader bytes m
      → Gives reader (take front bytes) m
  gives-in-front m room (inl (first, newest)) =
      inl (
        found-in-front 0 m (omega (arith, room)) first,
        λ other there. newest other (found-in-all (reader.size m) other there),
      )
  gives-in-front m room (inr (inl (one, first, second, later))) =
      let within = stands-within (reader.size one) m second in
      inr (inl (
        one,
        found-in-front 0 one (omega (arith, room, within)) first,
        found-in-front (reader.size one) m (omega (arith, room, within)) second,
        later,
      ))
  gives-in-front m room (inr (inr (none, second, below))) =
      inr (inr (
        none-in-front 0 none,
        found-in-front (reader.size m) m (omega (arith, room)) second,
        λ place from less. none-in-front place (below place from less),
      ))
