-- Areas of whole atoms that are the same atom by atom are read alike.
use Rattle.std.proofs.Common.{◌≡◌, ◌∙◌, inl, inr, ℕ, zero, suc, ◌+◌, ◌*◌, ◌/◌, ◌%◌, ◌<◌, ◌≤◌, List, take}
use Rattle.std.proofs.Common.{drop, sym, ap, ap₂, subst, arith, ◌++◌}
use Rattle.std.proofs.Math.Seq.{take-add}
use Rattle.std.proofs.lemmas.List.{drop-drop, take-take}
use Rattle.std.proofs.lemmas.Nat.{div-add-mod'}
use Rattle.sector_disk.specs.DiskViews.Parts.{block_at}
use Rattle.luks_rules.specs.declared.areas.Area.{Area}
use Rattle.luks_slots.proofs.GapLemmas.{least-rounded}
use Rattle.luks_slots.specs.Stripes.{rounded}
use Rattle.sector_disk.specs.Geometry.{IsAtom}
use Rattle.image_laws.specs.Sides.Keys.{HasSameAtoms}
use Rattle.image_laws.proofs.Started.AgreeLemmas.{IsReadAlike}

one_more : (atom count : ℕ) → suc count * atom ≡ atom + count * atom
one_more atom count = grind arith

one_further : (atom at : ℕ) → at * atom + atom ≡ suc at * atom
one_further atom at = grind arith

-- a run of atoms
run-same : (atom count at : ℕ) (first now : List ℕ)
    → ((k : ℕ) → k < count → block_at atom now (at + k) ≡ block_at atom first (at + k))
    → take (count * atom) (drop (at * atom) now) ≡ take (count * atom) (drop (at * atom) first)
run-same atom zero at first now each =
    let none : 0 * atom ≡ 0 = grind arith in
    ap (λ n. take n (drop (at * atom) now)) none ∙ sym (ap (λ n. take n (drop (at * atom) first)) none)
run-same atom (suc count) at first now each =
    let here : (list : List ℕ)
    → take (suc count * atom) (drop (at * atom) list)
    ≡ block_at atom list at ++ take (count * atom) (drop (suc at * atom) list) =
    (λ list. ap (λ n. take n (drop (at * atom) list)) (one_more atom count)
    ∙ take-add atom (count * atom) (drop (at * atom) list)
    ∙ ap (λ l. take atom (drop (at * atom) list) ++ take (count * atom) l)
    (drop-drop atom (at * atom) list ∙ ap (λ n. drop n list) (one_further atom at))) in
    let head : block_at atom now at ≡ block_at atom first at =
    subst (λ n. block_at atom now n ≡ block_at atom first n) (omega arith) (each 0 (omega arith)) in
    let rest = run-same atom count (suc at) first now (λ k below.
    subst (λ n. block_at atom now n ≡ block_at atom first n) (omega arith)
    (each (suc k) (omega (arith, below)))) in
    here now ∙ ap₂ (λ a b. a ++ b) head rest ∙ sym (here first)

whole-sectors : (atom n : ℕ) → IsAtom atom → n % atom ≡ 0 → n % 512 ≡ 0
whole-sectors atom n (inl is) whole = (let h = rw is at whole in h)
whole-sectors atom n (inr is) whole = (let h = rw is at whole in omega (arith, h))

-- a run of whole atoms is that of so many
exactly : (atom n : ℕ) → n % atom ≡ 0 → n / atom * atom ≡ n
exactly atom n whole = let cut = div-add-mod' n atom in omega (arith, cut, whole)

pub read-alike : (atom : ℕ) (a : Area) (first now : List ℕ) → IsAtom atom → a.offset % atom ≡ 0
    → a.size % atom ≡ 0 → HasSameAtoms atom first now a → IsReadAlike first now a
read-alike atom a first now known offset size each n room =
    let most : rounded n 512 ≤ a.size =
    least-rounded n 512 a.size (omega arith) room (whole-sectors atom a.size known size) in
    let all : take a.size (drop a.offset now) ≡ take a.size (drop a.offset first) =
    subst (λ l. take l (drop a.offset now) ≡ take l (drop a.offset first)) (exactly atom a.size size)
    (subst (λ o. take (a.size / atom * atom) (drop o now)
    ≡ take (a.size / atom * atom) (drop o first)) (exactly atom a.offset offset)
    (run-same atom (a.size / atom) (a.offset / atom) first now each)) in
    sym (take-take (rounded n 512) a.size (drop a.offset first) most)
    ∙ sym (ap (take (rounded n 512)) all)
    ∙ take-take (rounded n 512) a.size (drop a.offset now) most
