-- Lemmas on what areas show.
use Rattle.std.proofs.Common.{◌≡◌, ℕ, zero, suc, ◌+◌, ◌-◌, ◌*◌, ◌<◌, ◌≤◌, ◌⊎◌, inl, inr, Bool, true}
use Rattle.std.proofs.Common.{false, List, ◌++◌, length, take, drop, refl, sym, ◌∙◌, ap, ap₂, subst}
use Rattle.std.proofs.Common.{arith, length-drop}
use Rattle.std.specs.Prelude.{Contains}
use Rattle.std.proofs.lemmas.Bool.{cases_lt}
use Rattle.std.proofs.lemmas.List.{take-append-drop, nil_from_length, drop-drop}
use Rattle.sector_disk.specs.DiskViews.Views.{View, IsOutside, IsUnchanged, IsTried, IsWritten, IsSynced}
use Rattle.sector_disk.specs.DiskViews.Views.{IsThinned}
use Rattle.crash_laws.specs.HeaderAreas.Areas.{Area, AreApart, Shows, IsOf, Image, text_from, text_in, Takes}
use Rattle.sector_disk.specs.DiskViews.Parts.{block_at}

-- what is known may be forgotten
pub weaker : {broken : Bool} {view : View} (area : Area) (Now Left Now' Left' : ℕ → List ℕ → Type 0)
    → ((i : ℕ) (value : List ℕ) → i < area.count → Now i value → Now' i value)
    → ((i : ℕ) (value : List ℕ) → i < area.count → Left i value → Left' i value)
    → Shows area Now Left broken view → Shows area Now' Left' broken view
weaker {broken} {view} area Now Left Now' Left' now left shows = record {
  now = λ whole i below. now i (view.current (area.start + i)) below (shows.now whole i below);
  left = λ i below value has. left i value below (shows.left i below value has);
}

-- a read
pub unchanged : {broken : Bool} (old new : View) (area : Area) (Now Left : ℕ → List ℕ → Type 0)
    → IsUnchanged old new
    → Shows area Now Left broken old → Shows area Now Left broken new
unchanged old new area Now Left same shows = record {
  now = λ whole i below. rw (same.current (area.start + i)) (shows.now whole i below);
  left = λ i below value has. shows.left i below value (same.candidates (area.start + i) value has);
}

-- a sync: what an area holds now is what a stop leaves
pub synced : (old new : View) (area : Area) (Now Left : ℕ → List ℕ → Type 0) → IsSynced old new
    → Shows area Now Left false old → Shows area Now Now false new
synced old new area Now Left step shows = record {
  now = λ whole i below. rw (step.current (area.start + i)) (shows.now refl i below);
  left = λ i below value has. rw (step.candidates (area.start + i) value has)
      (shows.now refl i below);
}

-- a sync that failed
pub thinned : (old new : View) (area : Area) (Now Left : ℕ → List ℕ → Type 0) → IsThinned old new
    → Shows area Now Left false old → Shows area Now Left true new
thinned old new area Now Left step shows = record {
  now = λ whole i below. absurd (cc);
  left = λ i below value has. shows.left i below value (step (area.start + i) value has);
}

-- a write elsewhere
pub elsewhere : (atom at n : ℕ) (text : List ℕ) (old new : View) (area : Area)
    (Now Left : ℕ → List ℕ → Type 0)
    → ((i : ℕ) → i < area.count → IsOutside at n (area.start + i))
    → IsWritten atom at n text old new
    → Shows area Now Left false old → Shows area Now Left false new
elsewhere atom at n text old new area Now Left far step shows = record {
  now = λ whole i below. rw (step.outside (area.start + i) (far i below)) (shows.now whole i below);
  left = λ i below value has. shows.left i below value
      (step.tried.outside (area.start + i) (far i below) value has);
}

pub failed_elsewhere : (atom at n : ℕ) (text : List ℕ) (old new : View) (area : Area)
    (Now Left : ℕ → List ℕ → Type 0)
    → ((i : ℕ) → i < area.count → IsOutside at n (area.start + i)) → IsTried atom at n text old new
    → Shows area Now Left false old → Shows area Now Left true new
failed_elsewhere atom at n text old new area Now Left far step shows = record {
  now = λ whole i below. absurd (cc);
  left = λ i below value has. shows.left i below value
      (step.outside (area.start + i) (far i below) value has);
}

-- an atom of an area is written or not
side_of : (x n i : ℕ) → ((k : ℕ) × (k < n) × (i ≡ x + k)) ⊎ ((i < x) ⊎ (x + n ≤ i))
side_of x n i = elim (cases_lt i x) [
  | inl before ↦ inr (inl before)
  | inr from ↦ elim (cases_lt i (x + n)) [
    | inl inside ↦ inl (i - x, omega arith, omega arith)
    | inr behind ↦ inr (inr behind)
  ]
]

-- a write into an area, of `n` atoms from its atom `x` on
pub written : (atom at x n : ℕ) (text : List ℕ) (old new : View) (area : Area)
    (Now Left Now' Left' : ℕ → List ℕ → Type 0)
    → at ≡ area.start + x
    → ((k : ℕ) → k < n → Now' (x + k) (block_at atom text k))
    → ((i : ℕ) (value : List ℕ) → i < area.count → (i < x) ⊎ (x + n ≤ i) → Now i value
    → Now' i value)
    → ((k : ℕ) → k < n → Left' (x + k) (block_at atom text k))
    → ((i : ℕ) (value : List ℕ) → i < area.count → Left i value → Left' i value)
    → IsWritten atom at n text old new → Shows area Now Left false old
    → Shows area Now' Left' false new
written atom at x n text old new area Now Left Now' Left' is own others mine theirs step shows =
    record {
      now = λ whole i below. elim (side_of x n i) [
        | inl (k, inside, same) ↦
            let e : area.start + i ≡ at + k = omega (arith, is, same) in
            rw (e, step.inside k inside, same) (own k inside)
        | inr far ↦
            rw (step.outside (area.start + i) (outside i far))
            (others i (old.current (area.start + i)) below far (shows.now refl i below))
      ];
      left = λ i below value has. elim (side_of x n i) [
        | inl (k, inside, same) ↦
            let e : area.start + i ≡ at + k = omega (arith, is, same) in
            elim (step.tried.inside k inside value
            (subst (λ place. Contains (new.candidates place) value) e has)) [
              | inl before ↦
                  theirs i value below
                  (shows.left i below value
                  (subst (λ place. Contains (old.candidates place) value) (sym e) before))
              | inr it ↦ rw (it, same) (mine k inside)
            ]
        | inr far ↦
            theirs i value below
            (shows.left i below value
            (step.tried.outside (area.start + i) (outside i far) value has))
      ];
    }
  where
    outside : (i : ℕ) → (i < x) ⊎ (x + n ≤ i) → IsOutside at n (area.start + i)
    outside i (inl before) = inl (omega (arith, is, before))
    outside i (inr behind) = inr (omega (arith, is, behind))

-- a write into it that failed
pub failed_written : (atom at x n : ℕ) (text : List ℕ) (old new : View) (area : Area)
    (Now Left Now' Left' : ℕ → List ℕ → Type 0)
    → at ≡ area.start + x
    → ((k : ℕ) → k < n → Left' (x + k) (block_at atom text k))
    → ((i : ℕ) (value : List ℕ) → i < area.count → Left i value → Left' i value)
    → IsTried atom at n text old new → Shows area Now Left false old
    → Shows area Now' Left' true new
failed_written atom at x n text old new area Now Left Now' Left' is mine theirs step shows =
    record {
      now = λ whole i below. absurd (cc);
      left = λ i below value has. elim (side_of x n i) [
        | inl (k, inside, same) ↦
            let e : area.start + i ≡ at + k = omega (arith, is, same) in
            elim (step.inside k inside value
            (subst (λ place. Contains (new.candidates place) value) e has)) [
              | inl before ↦
                  theirs i value below
                  (shows.left i below value
                  (subst (λ place. Contains (old.candidates place) value) (sym e) before))
              | inr it ↦ rw (it, same) (mine k inside)
            ]
        | inr (inl before) ↦
            theirs i value below
            (shows.left i below value
            (step.outside (area.start + i) (inl (omega (arith, is, before))) value has))
        | inr (inr behind) ↦
            theirs i value below
            (shows.left i below value
            (step.outside (area.start + i) (inr (omega (arith, is, behind))) value has))
      ];
    }

-- areas that lie apart
pub outside_of : (a b : Area) (at x n : ℕ) → AreApart a b → at ≡ b.start + x → x + n ≤ b.count
    → (i : ℕ) → i < a.count → IsOutside at n (a.start + i)
outside_of a b at x n (inl before) is within i below = inl (omega (arith, before, is, below))
outside_of a b at x n (inr behind) is within i below =
    inr (omega (arith, behind, is, within, below))

-- the text of an area each of whose atoms is that of a text
from_atoms : (atom start n : ℕ) (text : List ℕ) (image : Image) → length text ≡ n * atom
    → ((i : ℕ) → i < n → image (start + i) ≡ block_at atom text i) → text_from image start n ≡ text
unfolding text_from
from_atoms atom start zero text image size each = sym (nil_from_length text (size ∙ omega arith))
from_atoms atom start (suc n) text image size each =
    let first : image start ≡ take atom text =
    subst (λ p. image p ≡ take atom text) (let e : start + 0 ≡ start = omega arith in e)
    (each 0 (omega arith)
    ∙ ap (λ m. take atom (drop m text)) (let e : 0 * atom ≡ 0 = omega arith in e)) in
    let left : length (drop atom text) ≡ n * atom =
    length-drop atom text ∙ (let e : length text - atom ≡ n * atom = grind (arith, size) in e) in
    ap₂ (λ a rest. a ++ rest) first
    (from_atoms atom (suc start) n (drop atom text) image left
    (λ i below. subst (λ p. image p ≡ block_at atom (drop atom text) i)
    (let e : start + suc i ≡ suc start + i = omega arith in e)
    (each (suc i) (omega (arith, below)) ∙ sym (next i))))
    ∙ take-append-drop atom text
  where
    next : (i : ℕ) → block_at atom (drop atom text) i ≡ block_at atom text (suc i)
    next i =
        ap (λ rest. take atom rest)
        (drop-drop (i * atom) atom text
        ∙ ap (λ m. drop m text) (let e : atom + i * atom ≡ suc i * atom = grind arith in e))

pub text_certain : {broken : Bool} {view : View} (atom : ℕ) (area : Area) (text : List ℕ)
    (Now : ℕ → List ℕ → Type 0) (image : Image)
    → length text ≡ area.count * atom → Shows area Now (IsOf atom text) broken view
    → Takes view image area → text_in image area ≡ text
text_certain atom area text Now image size shows takes =
    from_atoms atom area.start area.count text image size
    (λ i below. shows.left i below (image (area.start + i)) (takes i below))

-- a write of a whole area
pub whole_written : (atom : ℕ) (text : List ℕ) (old new : View) (area : Area)
    (Now Left Left' : ℕ → List ℕ → Type 0)
    → ((i : ℕ) → i < area.count → Left' i (block_at atom text i))
    → ((i : ℕ) (value : List ℕ) → i < area.count → Left i value → Left' i value)
    → IsWritten atom area.start area.count text old new → Shows area Now Left false old
    → Shows area (IsOf atom text) Left' false new
whole_written atom text old new area Now Left Left' mine theirs step shows =
    written atom area.start 0 area.count text old new area Now Left (IsOf atom text) Left'
    (omega arith)
    (λ k below. ap (λ i. block_at atom text i) (let e : k ≡ 0 + k = omega arith in e))
    (λ i value below far _. absurd (beside i below far))
    (λ k below. subst (λ i. Left' i (block_at atom text k)) (let e : k ≡ 0 + k = omega arith in e)
    (mine k below)) theirs step shows
  where
    beside : (i : ℕ) → i < area.count → (i < 0) ⊎ (0 + area.count ≤ i) → ⊥
    beside i below (inl before) = omega (arith, before)
    beside i below (inr behind) = omega (arith, below, behind)

pub whole_failed : (atom : ℕ) (text : List ℕ) (old new : View) (area : Area)
    (Now Left Now' Left' : ℕ → List ℕ → Type 0)
    → ((i : ℕ) → i < area.count → Left' i (block_at atom text i))
    → ((i : ℕ) (value : List ℕ) → i < area.count → Left i value → Left' i value)
    → IsTried atom area.start area.count text old new → Shows area Now Left false old
    → Shows area Now' Left' true new
whole_failed atom text old new area Now Left Now' Left' mine theirs step shows =
    failed_written atom area.start 0 area.count text old new area Now Left Now' Left' (omega arith)
    (λ k below. subst (λ i. Left' i (block_at atom text k)) (let e : k ≡ 0 + k = omega arith in e)
    (mine k below)) theirs step shows

-- a write of an area that lies apart
pub beside : (atom : ℕ) (at x n : ℕ) (text : List ℕ) (old new : View) (area other : Area)
    (Now Left : ℕ → List ℕ → Type 0)
    → AreApart area other → at ≡ other.start + x → x + n ≤ other.count
    → IsWritten atom at n text old new
    → Shows area Now Left false old → Shows area Now Left false new
beside atom at x n text old new area other Now Left apart is within step shows =
    elsewhere atom at n text old new area Now Left (outside_of area other at x n apart is within)
    step shows

pub failed_beside : (atom : ℕ) (at x n : ℕ) (text : List ℕ) (old new : View) (area other : Area)
    (Now Left Now' : ℕ → List ℕ → Type 0)
    → AreApart area other → at ≡ other.start + x → x + n ≤ other.count
    → IsTried atom at n text old new
    → Shows area Now Left false old → Shows area Now' Left true new
failed_beside atom at x n text old new area other Now Left Now' apart is within step shows =
    record {
      now = λ whole i below. absurd (cc);
      left = (failed_elsewhere atom at n text old new area Now Left
          (outside_of area other at x n apart is within) step shows).left;
    }
