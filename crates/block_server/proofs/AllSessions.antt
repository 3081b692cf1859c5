-- The sessions of all links, link after link, by those of each.
use Rattle.std.proofs.Common.{◌≡◌, ◌≢◌, ◌⊎◌, inl, inr, ℕ, zero, suc, ◌<◌, ◌≤◌, Bool, true, false}
use Rattle.std.proofs.Common.{List, [], ◌∷◌, ◌++◌, ◌==◌, if◌then◌else◌, nat_eq, refl, sym, ◌∙◌, ap}
use Rattle.std.proofs.Common.{subst, append-nil, arith}
use Rattle.nbd_hand.specs.declared.export.Export.{Export}
use Rattle.volume_machine.proofs.Locking.{same_or_not}
use Rattle.volume_machine.specs.Answers.{Tagged}
use Rattle.block_server.specs.Sessions.{AreOfLink, AreOfLinks, AreSessions, HasEach, HasNumber, Played}
use Rattle.block_server.specs.Sessions.{of_link}
use Rattle.block_server.proofs.LeavingLemmas.{HasNumber-first, HasNumber-rest}
use Rattle.block_server.proofs.LinkLemmas.{AreSessions-append}
use Rattle.block_server.proofs.Merging.{differ-eqb, same-eqb}

unfoldable pub all_of : (ℕ → List Played) → ℕ → List Played
all_of each zero = []
all_of each (suc k) = all_of each k ++ each k

-- ---- the sessions of one link
of_link-append : (k : ℕ) (xs ys : List Played) → of_link k (xs ++ ys) ≡ of_link k xs ++ of_link k ys
unfolding of_link
of_link-append k [] ys = refl
of_link-append k (x ∷ xs) ys =
    ap (λ (t : List Played). if x.link == k then x ∷ t else t) (of_link-append k xs ys)
    ∙ both (x.link == k) (of_link k xs) (of_link k ys)
  where
    both : (b : Bool) (first rest : List Played) →
        (if b then x ∷ (first ++ rest) else first ++ rest)
        ≡ (if b then x ∷ first else first) ++ rest
    both true first rest = refl
    both false first rest = refl

of_link-own : (k : ℕ) (xs : List Played) → AreOfLink k xs → of_link k xs ≡ xs
unfolding of_link AreOfLink
of_link-own k [] are = refl
of_link-own k (x ∷ xs) are =
    let same : nat_eq x.link k ≡ true = subst (λ (j : ℕ). nat_eq x.link j ≡ true) are.0
    (same-eqb x.link) in
    rw same (ap (λ (t : List Played). x ∷ t) (of_link-own k xs are.1))

of_link-other : (k j : ℕ) (xs : List Played) → AreOfLink j xs → j ≢ k → of_link k xs ≡ []
unfolding of_link AreOfLink
of_link-other k j [] are differ = refl
of_link-other k j (x ∷ xs) are differ =
    let apart : nat_eq x.link k ≡ false = differ-eqb x.link k (λ is. differ (sym are.0 ∙ is)) in
    rw apart (of_link-other k j xs are.1 differ)

module _ (each : ℕ → List Played) (own : (k : ℕ) → AreOfLink k (each k)) where
  pub none-of_link : (m k : ℕ) → m ≤ k → of_link k (all_of each m) ≡ []
  unfolding all_of of_link
  none-of_link zero k below = refl
  none-of_link (suc m) k below =
      of_link-append k (all_of each m) (each m)
      ∙ (ap (λ (t : List Played). t ++ of_link k (each m)) (none-of_link m k (omega (arith, below)))
      ∙ of_link-other k m (each m) (own m) (λ is. omega (arith, is, below)))

  pub all-of_link : (m k : ℕ) → k < m → of_link k (all_of each m) ≡ each k
  unfolding all_of of_link
  all-of_link zero k below = absurd (omega (arith, below))
  all-of_link (suc m) k below =
      of_link-append k (all_of each m) (each m)
      ∙ by (λ inside. all-of_link m k inside) (same_or_not m k)
    where
      by : (k < m → of_link k (all_of each m) ≡ each k) → (m ≡ k) ⊎ (m ≢ k)
          → of_link k (all_of each m) ++ of_link k (each m) ≡ each k
      by before (inl same) =
          ap (λ (t : List Played). t ++ of_link k (each m)) (none-of_link m k (omega (arith, same)))
          ∙ subst (λ (j : ℕ). of_link k (each j) ≡ each k) (sym same) (of_link-own k (each k) (own k))
      by before (inr differ) =
          ap (λ (t : List Played). of_link k (all_of each m) ++ t)
          (of_link-other k m (each m) (own m) differ)
          ∙ (append-nil (of_link k (all_of each m)) ∙ before (omega (arith, below, differ)))

-- ---- what holds of each link's sessions holds of all
AreOfLinks-append : (links : ℕ) (xs ys : List Played) → AreOfLinks links xs → AreOfLinks links ys
    → AreOfLinks links (xs ++ ys)
unfolding AreOfLinks
AreOfLinks-append links [] ys first rest = rest
AreOfLinks-append links (x ∷ xs) ys first rest =
    (first.0, AreOfLinks-append links xs ys first.1 rest)

AreOfLinks-own : (links k : ℕ) (xs : List Played) → AreOfLink k xs → k < links
    → AreOfLinks links xs
unfolding AreOfLinks AreOfLink
AreOfLinks-own links k [] are below = tt
AreOfLinks-own links k (x ∷ xs) are below =
    (omega (arith, are.0, below), AreOfLinks-own links k xs are.1 below)

pub all-of_links : (each : ℕ → List Played) → ((k : ℕ) → AreOfLink k (each k)) → (links m : ℕ)
    → m ≤ links → AreOfLinks links (all_of each m)
unfolding all_of AreOfLinks
all-of_links each own links zero few = tt
all-of_links each own links (suc m) few = AreOfLinks-append links (all_of each m) (each m)
    (all-of_links each own links m (omega (arith, few)))
    (AreOfLinks-own links m (each m) (own m) (omega (arith, few)))

pub all-sessions : (export : Export) (may_spend : Type 0) (each : ℕ → List Played) (m : ℕ)
    → ((k : ℕ) → k < m → AreSessions export may_spend (each k))
    → AreSessions export may_spend (all_of each m)
unfolding all_of AreSessions
all-sessions export may_spend each zero are = tt
all-sessions export may_spend each (suc m) are =
    AreSessions-append export may_spend (all_of each m) (each m)
    (all-sessions export may_spend each m (λ k below. are k (omega (arith, below))))
    (are m (omega arith))

HasEach-append : (history : List Tagged) (xs ys : List Played) → HasEach history xs
    → HasEach history ys → HasEach history (xs ++ ys)
unfolding HasEach
HasEach-append history [] ys first rest = rest
HasEach-append history (x ∷ xs) ys first rest = (first.0, HasEach-append history xs ys first.1 rest)

pub all-have : (history : List Tagged) (each : ℕ → List Played) (m : ℕ)
    → ((k : ℕ) → k < m → HasEach history (each k)) → HasEach history (all_of each m)
unfolding all_of HasEach
all-have history each zero has = tt
all-have history each (suc m) has =
    HasEach-append history (all_of each m) (each m)
    (all-have history each m (λ k below. has k (omega (arith, below)))) (has m (omega arith))

pub number-of_all : (n : ℕ) (each : ℕ → List Played) (m k : ℕ) → k < m → HasNumber n (each k)
    → HasNumber n (all_of each m)
unfolding all_of
number-of_all n each zero k below has = absurd (omega (arith, below))
number-of_all n each (suc m) k below has = elim (same_or_not m k) [
  | inl same ↦ HasNumber-rest n (all_of each m) (each m)
      (subst (λ (j : ℕ). HasNumber n (each j)) (sym same) has)
  | inr differ ↦ HasNumber-first n (all_of each m) (each m)
      (number-of_all n each m k (omega (arith, below, differ)) has)
]
