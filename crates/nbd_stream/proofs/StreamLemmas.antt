-- Messages that come one after the other, up to the bytes that end them, where the front of what is
-- left decides what comes next.
use Rattle.std.proofs.Common.{◌≡◌, ℕ, ◌+◌, ◌≤◌, ◌<◌, Bool, true, List, [], ◌∷◌, ◌++◌, length, take}
use Rattle.std.proofs.Common.{drop, ap, ◌∙◌, refl, sym, subst, arith, take_at, append_assoc}
use Rattle.std.proofs.lemmas.List.{drop_at}

-- two parts of one text that are equally long are the same
pub split : (xs ys a b : List ℕ) → xs ++ a ≡ ys ++ b → length xs ≡ length ys → (xs ≡ ys) × (a ≡ b)
split xs ys a b is same = (
  sym (take_at xs a (length xs) refl) ∙ ap (take (length xs)) is
      ∙ take_at ys b (length xs) (sym same),
  sym (drop_at xs a (length xs) refl) ∙ ap (drop (length xs)) is
      ∙ drop_at ys b (length xs) (sym same),
)

-- a message of so many bytes comes, or an end after so many
pub data Decision (M E : Type 0) : Type 0 where
  asks : M → ℕ → Decision M E
  stops : E → ℕ → Decision M E

-- the bytes are these messages, one after the other
unfoldable pub Spelled : {M : Type 0} → (M → List ℕ → Type 0) → List M → List ℕ → Type 0
Spelled Whole [] bytes = bytes ≡ []
Spelled Whole (m ∷ ms) bytes =
    (message : List ℕ) × (rest : List ℕ) × (bytes ≡ message ++ rest) × Whole m message
    × Spelled Whole ms rest

-- what was taken behind `n` messages, of all that was left then
pub record Tail {M E : Type 0} (Whole : M → List ℕ → Type 0) (Last : E → ℕ → Bool → List ℕ → Type 0)
    (n : ℕ) (ms : List M) (e : E)
    (taken all : List ℕ) : Type 0 where
  pub text : List ℕ
  pub bytes : List ℕ
  pub rest : List ℕ
  pub ended : Bool
  pub taken_is : taken ≡ text ++ bytes
  pub parts : all ≡ taken ++ rest
  pub spells : Spelled Whole ms text
  pub last : Last e (n + length ms) ended bytes
  pub at_end : ended ≡ true → rest ≡ []

-- the next message and what is behind it
pub record Ahead {M E : Type 0} (Whole : M → List ℕ → Type 0)
    (Last : E → ℕ → Bool → List ℕ → Type 0) (decide : ℕ → List ℕ → Decision M E)
    (n : ℕ) (m : M) (ms : List M) (e : E) (taken all : List ℕ) : Type 0 where
  pub message : List ℕ
  pub later : List ℕ
  pub taken_is : taken ≡ message ++ later
  pub asked : decide n all ≡ asks m (length message)
  pub tail : Tail Whole Last (n + 1) ms e later (drop (length message) all)

stops-same : {M E : Type 0} (e e' : E) (n n' : ℕ) →
    ◌≡◌ {A = Decision M E} (stops e n) (stops e' n') → (e ≡ e') × (n ≡ n')
stops-same e e' n n' is = (cc, cc)

asks-same : {M E : Type 0} (m m' : M) (n n' : ℕ) → ◌≡◌ {A = Decision M E} (asks m n) (asks m' n') →
    (m ≡ m') × (n ≡ n')
asks-same m m' n n' is = (cc, cc)

stops-asks : {M E : Type 0} (e : E) (m : M) (n k : ℕ) →
    ◌≡◌ {A = Decision M E} (stops e n) (asks m k) → ⊥
stops-asks e m n k is = absurd (cc)

cons-same : {M : Type 0} (x y : M) (xs ys : List M) → x ≡ y → xs ≡ ys → x ∷ xs ≡ y ∷ ys
cons-same x y xs ys first rest = cc

module _ {M E : Type 0} (Whole : M → List ℕ → Type 0) (Last : E → ℕ → Bool → List ℕ → Type 0)
    (most : ℕ) (decide : ℕ → List ℕ → Decision M E)
    (few : (e : E) (n : ℕ) (ended : Bool) (bytes : List ℕ) → Last e n ended bytes → n ≤ most)
    (whole-decides : (n : ℕ) (m : M) (bytes more : List ℕ) → n < most → Whole m bytes →
    decide n (bytes ++ more) ≡ asks m (length bytes))
    (last-decides : (n : ℕ) (e : E) (ended : Bool) (bytes rest : List ℕ) → Last e n ended bytes →
    (ended ≡ true → rest ≡ []) →
    decide n (bytes ++ rest) ≡ stops e (length bytes)) where
  -- no message is left
  tail-last : (n : ℕ) (e : E) (taken all : List ℕ) → Tail Whole Last n [] e taken all →
      decide n all ≡ stops e (length taken)
  unfolding Spelled
  tail-last n e taken all tail =
      let same : taken ≡ tail.bytes = tail.taken_is ∙ ap (λ t. t ++ tail.bytes) tail.spells in
      let none : n + 0 ≡ n = omega arith in
      ap (decide n) (tail.parts ∙ ap (λ t. t ++ tail.rest) same)
      ∙ last-decides n e tail.ended tail.bytes tail.rest
      (subst (λ (k : ℕ). Last e k tail.ended tail.bytes) none tail.last) tail.at_end
      ∙ ap (λ t. stops e (length t)) (sym same)

  tail-next : (n : ℕ) (m : M) (ms : List M) (e : E) (taken all : List ℕ) →
      Tail Whole Last n (m ∷ ms) e taken all →
      Ahead Whole Last decide n m ms e taken all
  unfolding Spelled
  tail-next n m ms e taken all tail =
      let message = tail.spells.0 in
      let text = tail.spells.1 in
      let later = text ++ tail.bytes in
      let taken_is : taken ≡ message ++ later = tail.taken_is
      ∙ ap (λ t. t ++ tail.bytes) tail.spells.2 ∙ append_assoc message text tail.bytes in
      let parts : all ≡ message ++ (later ++ tail.rest) = tail.parts
      ∙ ap (λ t. t ++ tail.rest) taken_is ∙ append_assoc message later tail.rest in
      let count : n + length (m ∷ ms) ≡ (n + 1) + length ms = omega arith in
      record {
        message = message;
        later = later;
        taken_is = taken_is;
        asked = ap (decide n) parts
            ∙ whole-decides n m message (later ++ tail.rest)
            (omega (arith, few e (n + length (m ∷ ms)) tail.ended tail.bytes tail.last))
            tail.spells.3;
        tail = record {
          text = text;
          bytes = tail.bytes;
          rest = tail.rest;
          ended = tail.ended;
          taken_is = refl;
          parts = ap (drop (length message)) parts
              ∙ drop_at message (later ++ tail.rest) (length message) refl;
          spells = tail.spells.4;
          last = subst (λ (k : ℕ). Last e k tail.ended tail.bytes) count tail.last;
          at_end = tail.at_end;
        };
      }

  -- the messages and the end are functions of what was left
  pub tail-once : (n : ℕ) (ms ms' : List M) (e e' : E) (taken taken' all : List ℕ) →
      Tail Whole Last n ms e taken all → Tail Whole Last n ms' e' taken' all → (ms ≡ ms') × (e ≡ e')
      × (taken ≡ taken')
  tail-once n [] [] e e' taken taken' all a b =
      let same = stops-same e e' (length taken) (length taken')
      (sym (tail-last n e taken all a) ∙ tail-last n e' taken' all b) in
      (refl, same.0, (split taken taken' a.rest b.rest (sym a.parts ∙ b.parts) same.1).0)
  tail-once n [] (m ∷ ms') e e' taken taken' all a b =
      let next = tail-next n m ms' e' taken' all b in
      absurd (stops-asks e m (length taken) (length next.message)
      (sym (tail-last n e taken all a) ∙ next.asked))
  tail-once n (m ∷ ms) [] e e' taken taken' all a b =
      let next = tail-next n m ms e taken all a in
      absurd (stops-asks e' m (length taken') (length next.message)
      (sym (tail-last n e' taken' all b) ∙ next.asked))
  tail-once n (m ∷ ms) (m' ∷ ms') e e' taken taken' all a b =
      let x = tail-next n m ms e taken all a in
      let y = tail-next n m' ms' e' taken' all b in
      let same = asks-same m m' (length x.message) (length y.message) (sym x.asked ∙ y.asked) in
      let later = tail-once (n + 1) ms ms' e e' x.later y.later (drop (length x.message) all) x.tail
      (subst (λ (k : ℕ). Tail Whole Last (n + 1) ms' e' y.later (drop k all)) (sym same.1)
      y.tail) in
      let front = split x.message y.message (x.later ++ a.rest) (y.later ++ b.rest)
      (sym (append_assoc x.message x.later a.rest) ∙ ap (λ t. t ++ a.rest) (sym x.taken_is)
      ∙ sym a.parts ∙ b.parts ∙ ap (λ t. t ++ b.rest) y.taken_is
      ∙ append_assoc y.message y.later b.rest)
      same.1 in (
        cons-same m m' ms ms' same.0 later.0,
        later.1,
        x.taken_is ∙ ap (λ t. t ++ x.later) front.0 ∙ ap (λ l. y.message ++ l) later.2
            ∙ sym y.taken_is,
      )
