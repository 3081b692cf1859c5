-- Dealing connections out to links, the last one first.
use Rattle.std.proofs.Common.{◌≡◌, ℕ, zero, suc, ◌+◌, ◌-◌, ◌%◌, ◌<◌, ◌≤◌, ◌==◌, Bool, true, false}
use Rattle.std.proofs.Common.{List, [], ◌∷◌, ◌++◌, length, take, drop, get_or, refl, ap, sym, ◌∙◌}
use Rattle.std.proofs.Common.{arith, subst}
use Rattle.std.proofs.Math.ListN.{set}
use Rattle.std.proofs.lemmas.Bool.{eqb-true, eqb-false, eq-eqb}
use Rattle.std.proofs.lemmas.List.{drop_all, get_or-take, get_or_default, get_or_append_left}
use Rattle.std.proofs.lemmas.List.{get_or_push, get_or-set_same, get_or-set_other, length-append}
use Rattle.std.proofs.lemmas.List.{length-drop, take_at}
use Rattle.io_edge.specs.Memory.{Input, Output}
use Rattle.bays.specs.Bays.{share}
use Rattle.bays.specs.Memory.{Line, AreDealt, HaveShares, IsIdle, fails_of, new_line}
use Rattle.bays.proofs.ShareLemmas.{length-share, share_from}

-- of the first items, fewer first ones
take-take_less : {X : Type 0} (n m : ℕ) (items : List X) → n ≤ m →
    take n (take m items) ≡ take n items
take-take_less zero m items is = refl
take-take_less (suc n) zero items is = absurd (omega arith)
take-take_less (suc n) (suc m) [] is = refl
take-take_less (suc n) (suc m) (x ∷ items) is =
    ap (λ rest. x ∷ rest) (take-take_less n m items (omega arith))

-- of the first items of a list, now one fewer, the last one stood behind the others
pub record TakenLast {X : Type 0} (all now left : List X) (last : X) : Type 0 where
  pub one_fewer : length now ≡ length left + 1
  pub within : length left < length all
  pub last_is : get_or all (length left) last ≡ last
  pub front : left ≡ take (length left) all

pub taken_last : {X : Type 0} (all now left : List X) (last : X) → length now ≤ length all →
    now ≡ take (length now) all → now ≡ left ++ last ∷ [] →
    TakenLast all now left last
taken_last all now left last within front is =
    let one : length now ≡ length left + 1 = ap length is ∙ length-append left (last ∷ []) in
    record {
      one_fewer = one;
      within = omega arith;
      last_is = sym (get_or-take (length now) all (length left) last (omega arith))
          ∙ ap (λ l. get_or l (length left) last) (sym front ∙ is)
          ∙ get_or_push left last last (length left) refl;
      front = sym (take_at left (last ∷ []) (length left) refl)
          ∙ ap (λ l. take (length left) l) (sym is ∙ front)
          ∙ take-take_less (length left) (length now) all (omega arith);
    }

-- with none dealt, idle links have their shares
pub shares_of_none : (connections : List (Input × Output)) (links : List Line) →
    ((k : ℕ) (d : Line) → k < length links → IsIdle (length connections) (get_or links k d)) →
    HaveShares connections (length connections) links links
unfolding share
shares_of_none connections links idle = λ k d within.
    let none : share (length links) k (length connections)
    (drop (length connections) connections) ≡ [] =
    rw (drop_all (length connections) connections (omega arith)) refl in
    ap (λ ahead. record (get_or links k d) { ahead = ahead })
    ((idle k d within).none_ahead ∙ sym none)

-- an idle link that has its share of the connections behind one has room for that one
pub room_for_one : (connections : List (Input × Output)) (n workers k : ℕ) (old new : Line) →
    n < length connections → IsIdle (length connections) old →
    new ≡ record old { ahead = share workers k (n + 1) (drop (n + 1) connections) } →
    length new.ahead + new.lent + length new.handed < new.room
room_for_one connections n workers k old new within idle is =
    let few : length (share workers k (n + 1) (drop (n + 1) connections)) ≤ length
    (drop (n + 1) connections) = length-share workers k (n + 1) (drop (n + 1) connections) in
    let left : length (drop (n + 1) connections) ≡ length connections - (n + 1) =
    length-drop (n + 1) connections in
    let free : length connections + old.lent + length old.handed ≤ old.room = idle.free in
    rw is (omega arith)

-- with one more connection put first to the link of its number, all links have their shares
pub shares_of_one : (connections : List (Input × Output)) (n : ℕ) (connection : Input × Output)
    (old links : List Line) (line : Line) →
    0 < length old → length links ≡ length old → n < length connections →
    get_or connections n connection ≡ connection → HaveShares connections (n + 1) old links →
    HaveShares connections n old
    (set links (n % length old)
    (record (get_or links (n % length old) line) {
      ahead =
          connection ∷ (get_or links (n % length old) line).ahead;
    }))
shares_of_one connections n connection old links line some count within is shares = λ k d below.
    each k d below (n % length old == k) refl
  where
    put : Line
    put = record (get_or links (n % length old) line) {
      ahead =
          connection ∷ (get_or links (n % length old) line).ahead;
    }

    Has : ℕ → Line → Type 0
    Has k d = get_or (set links (n % length old) put) k
        d ≡ record (get_or old k d) { ahead = share (length old) k n (drop n connections) }

    behind : ℕ → List (Input × Output)
    behind k = share (length old) k (n + 1) (drop (n + 1) connections)

    here : (d : Line) → n % length old < length old → Has (n % length old) d
    here d below =
        let its : (n % length old == n % length old) ≡ true =
        eq-eqb (n % length old) (n % length old) refl in
        let first : share (length old) (n % length old) n (drop n connections) ≡ connection ∷ behind
        (n % length old) =
        rw its at (share_from (length old) (n % length old) n connections connection within is) in
        get_or-set_same links (n % length old) put d (omega arith)
        ∙ ap (λ (l : Line). record l { ahead = connection ∷ l.ahead })
        (shares (n % length old) line below)
        ∙ ap (λ (l : Line). record l { ahead = connection ∷ behind (n % length old) })
        (get_or_default old (n % length old) line d below)
        ∙ ap (λ ahead. record (get_or old (n % length old) d) { ahead = ahead }) (sym first)

    each : (k : ℕ) (d : Line) → k < length old → (b : Bool) → (n % length old == k) ≡ b → Has k d
    each k d below true same =
        subst (λ i. Has i d) (eqb-true (n % length old) k same) (here d (omega arith))
    each k d below false other =
        let later : share (length old) k n (drop n connections) ≡ behind k =
        rw other at (share_from (length old) k n connections connection within is) in
        get_or-set_other links (n % length old) k put d
        (λ e. eqb-false (n % length old) k other (sym e))
        ∙ shares k d below
        ∙ ap (λ ahead. record (get_or old k d) { ahead = ahead }) (sym later)

-- with one more item at the end, each item is what it is to be
pub each_more : {X : Type 0} (is : ℕ → X) (items : List X) (item : X) (n : ℕ) → length items ≡ n →
    ((k : ℕ) (d : X) → k < n → get_or items k d ≡ is k) → item ≡ is n → (k : ℕ) (d : X) →
    k < n + 1 → get_or (items ++ item ∷ []) k d ≡ is k
each_more {X = X} is items item n count before last k d below = each (k == n) refl
  where
    each : (b : Bool) → (k == n) ≡ b → get_or (items ++ item ∷ []) k d ≡ is k
    each true same =
        let e : k ≡ n = eqb-true k n same in
        rw e (get_or_push items item d n count ∙ last)
    each false other =
        let less : k < n = omega (arith, eqb-false k n other) in
        get_or_append_left items (item ∷ []) d k (omega arith) ∙ before k d less

-- links that were empty and have their shares of the first connections were dealt these
pub dealt_from_shares : (connections : List (Input × Output)) (link_fails : List (List ℕ))
    (workers sessions : ℕ) (empty links : List Line) → length empty ≡ workers →
    ((k : ℕ) (d : Line) → k < workers →
    get_or empty k d ≡ new_line [] (length connections) (fails_of link_fails k)) →
    HaveShares (take sessions connections) 0 empty links →
    AreDealt connections link_fails workers sessions links
dealt_from_shares connections link_fails workers sessions empty links count are_empty shares =
    λ k d below.
    shares k d (omega arith)
    ∙ ap (λ (l : Line). record l { ahead = share (length empty) k 0 (take sessions connections) })
    (are_empty k d below)
    ∙ ap (λ n. new_line (share n k 0 (take sessions connections)) (length connections)
    (fails_of link_fails k)) count
