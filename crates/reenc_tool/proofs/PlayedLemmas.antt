-- What sessions and links tell, of what was served.
use Rattle.std.proofs.Common.{◌≡◌, ◌<◌, ◌⊎◌, ◌||◌, ⊎_elim, nat_eq, Bool, true, false, ℕ, zero, suc}
use Rattle.std.proofs.Common.{List, [], ◌∷◌, length, map, fold, if◌then◌else◌, slice_index_or}
use Rattle.std.proofs.Common.{ap, arith, inl, inr, refl, subst}
use Rattle.std.proofs.lemmas.List.{length-map}
use Rattle.bays.specs.Stories.{LinkState}
use Rattle.block_server.specs.Links.{AreServed, StandsBy}
use Rattle.block_server.specs.Sessions.{AreSessions, IsPlayed, Played, of_link}
use Rattle.block_server.specs.declared.link.Standing.{Standing}
use Rattle.block_server.specs.declared.link.Standing.TheVariants.{Live, Ended, Failed}
use Rattle.nbd_hand.specs.declared.export.Export.{Export}
use Rattle.nbd_session.specs.declared.ending.SessionEnd.{SessionEnd}
use Rattle.nbd_stream.specs.declared.ending.Ending.{Ending}
use Rattle.nbd_stream.specs.declared.ending.Ending.TheVariants as endings
use Rattle.reenc_tool.proofs.TextLemmas.{not_rose}
use Rattle.reenc_tool.specs.Runs.{StoodStill}
use Rattle.reenc_tool.specs.Sessions.{any_spent, has_spent, is_spent}
use Rattle.reenc_tool.specs.Standings.{failed_in}

-- ---- links that failed
-- none of several failed, or one of them did
none_or_one : (standings : List Standing) → (failed_in standings ≡ 0)
    ⊎ ((k : ℕ) × (k < length standings) × (slice_index_or standings k Live ≡ Failed))
none_or_one [] = inl refl
none_or_one (Live ∷ rest) =
    ⊎_elim (λ none. inl none) (λ one. inr (suc one.0, omega (arith, one.1), one.2))
    (none_or_one rest)
none_or_one (Ended ∷ rest) =
    ⊎_elim (λ none. inl none) (λ one. inr (suc one.0, omega (arith, one.1), one.2))
    (none_or_one rest)
none_or_one (Failed ∷ rest) = inr (0, omega arith, refl)

-- where no link's count of faults moved, none failed
pub no_link_failed : {L : Type 0} (state : L → LinkState) (olds news : List L)
    (ends : List (List SessionEnd)) (standings : List Standing) (all : List Played)
    → AreServed state olds news ends standings all → (link : L) → StoodStill state olds news
    → failed_in standings ≡ 0
no_link_failed state olds news ends standings all served link stood =
    ⊎_elim (λ none. none)
    (λ one.
    let inside : one.0 < length olds = omega (arith, one.1, served.count) in
    let its = served.each one.0 link inside in
    let still = stood one.0 link inside in
    absurd (not_rose _ _ still.0 still.1
    (subst (λ (s : Standing).
    StandsBy s (state (slice_index_or olds one.0 link))
    (state (slice_index_or news one.0 link))) one.2 its.stands)))
    (none_or_one standings)

-- an element of a list that has one
pub some_element : {L : Type 0} (links : List L) → 0 < length links → L
some_element [] some = absurd (omega arith)
some_element (link ∷ rest) some = link

-- ---- sessions that found the history full
-- one of a list is what makes a fold by `||` true
found-before : {E : Type 0} (is : E → Bool) (list : List E) (found : Bool)
    → fold (λ before one. before || is one) found list ≡ true
    → (found ≡ true) ⊎ ((k : ℕ) × (k < length list) × ((default : E)
    → is (slice_index_or list k default) ≡ true))
found-before is [] found same = inl same
found-before is (one ∷ rest) found same =
    ⊎_elim (λ here. ⊎_elim (λ was. inl was)
    (λ own. inr (0, omega arith, λ default. own)) (one-of found (is one) here))
    (λ later. inr (suc later.0, (let below = later.1 in omega (arith, below)), later.2))
    (found-before is rest (found || is one) same)
  where
    one-of : (a b : Bool) → a || b ≡ true → (a ≡ true) ⊎ (b ≡ true)
    one-of true b both = inl refl
    one-of false b both = inr both

spent-ending : (ending : Ending) → is_spent ending ≡ true → ending ≡ endings.PortSpent
spent-ending endings.PortSpent is = refl
spent-ending _ is = absurd (cc)

-- a session at a place is one that was played
session-at : (export : Export) (may_spend : Type 0) (all : List Played) (k : ℕ) (default : SessionEnd)
    → AreSessions export may_spend all → k < length all
    → (slice_index_or (map (λ one. one.end) all) k default).ending ≡ endings.PortSpent → may_spend
unfolding AreSessions
session-at export may_spend [] k default are below is = absurd (omega (arith, below))
session-at export may_spend (one ∷ rest) zero default (played, are) below is = played.spent is
session-at export may_spend (one ∷ rest) (suc k) default (played, are) below is =
    session-at export may_spend rest k default are (omega (arith, below)) is

-- those of one link are sessions
kept-if : (export : Export) (may_spend : Type 0) (one : Played) (list : List Played) (same : Bool)
    → IsPlayed export may_spend one → AreSessions export may_spend list
    → AreSessions export may_spend (if same then one ∷ list else list)
unfolding AreSessions
kept-if export may_spend one list true played are = (played, are)
kept-if export may_spend one list false played are = are

of-link-sessions : (export : Export) (may_spend : Type 0) (k : ℕ) (all : List Played)
    → AreSessions export may_spend all → AreSessions export may_spend (of_link k all)
unfolding AreSessions of_link
of-link-sessions export may_spend k [] are = tt
of-link-sessions export may_spend k (one ∷ rest) (played, are) =
    kept-if export may_spend one (of_link k rest) (nat_eq one.link k) played
    (of-link-sessions export may_spend k rest are)

-- where one of them was spent, the history is full
pub spent-full : {L : Type 0} (state : L → LinkState) (olds news : List L)
    (ends : List (List SessionEnd)) (standings : List Standing) (all : List Played)
    (export : Export) (may_spend : Type 0) → AreServed state olds news ends standings all → L
    → AreSessions export may_spend all → has_spent ends ≡ true → may_spend
spent-full state olds news ends standings all export may_spend served link are spent =
    ⊎_elim (λ no. absurd (let e : false ≡ true = no in cc))
    (λ found.
    let (k, below, its) = found in
    let inside : k < length olds = (let count = served.lists in omega (arith, below, count)) in
    let mine = (served.each k link inside).ends_are in
    ⊎_elim (λ no. absurd (let e : false ≡ true = no in cc))
    (λ one.
    let (j, under, spends) = one in
    let default : SessionEnd = some_end (slice_index_or ends k []) (omega (arith, under)) in
    let at : (slice_index_or (map (λ p. p.end) (of_link k all)) j default).ending
    ≡ endings.PortSpent =
    subst (λ (l : List SessionEnd). (slice_index_or l j default).ending ≡ endings.PortSpent) mine
    (spent-ending _ (spends default)) in
    session-at export may_spend (of_link k all) j default
    (of-link-sessions export may_spend k all are)
    (let same = ap length mine in let as_many = length-map (of_link k all) (λ p. p.end) in
    omega (arith, under, same, as_many)) at)
    (found-before (λ end. is_spent end.ending) (slice_index_or ends k []) false (its [])))
    (found-before any_spent ends false spent)
  where
    some_end : (list : List SessionEnd) → 0 < length list → SessionEnd
    some_end [] some = absurd (omega arith)
    some_end (one ∷ rest) some = one

-- the same found of lists behind a view
pub spent-mapped : {E : Type 0} (items : E → List SessionEnd) (lists : List E) (found : Bool)
    → fold (λ before list. before || any_spent (items list)) found lists
    ≡ fold (λ before list. before || any_spent list) found (map items lists)
spent-mapped items [] found = refl
spent-mapped items (one ∷ rest) found = spent-mapped items rest (found || any_spent (items one))
