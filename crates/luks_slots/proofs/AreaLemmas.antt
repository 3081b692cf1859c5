-- The bytes of a new keyslot's area.
use Rattle.std.proofs.Common.{◌≡◌, inl, inr, ℕ, zero, suc, ◌+◌, ◌-◌, ◌*◌, ◌<◌, ◌≤◌, List, ◌++◌}
use Rattle.std.proofs.Common.{length, take, drop, replicate}
use Rattle.std.proofs.Common.{refl, sym, ◌∙◌, ap, subst, arith}
use Rattle.std.proofs.Math.Seq.{drop-append-add, take-append-add}
use Rattle.std.proofs.lemmas.List.{drop-append-le, drop-drop, drop-replicate, length-append}
use Rattle.std.proofs.lemmas.List.{length-drop, length-replicate, take-append-le, take-replicate}
use Rattle.std.proofs.lemmas.Grind.{div_ceil_times}
use Rattle.af_split.specs.Af.{chain, split_of, stripe_of}
use Rattle.luks_slots.specs.NewSlots.{padded}
use Rattle.luks_slots.specs.Stripes.{rounded, split_len}
use Rattle.pbkdf2_hmac.specs.declared.Hash.{Hash}
use Rattle.sector_disk.specs.Geometry.{IsAtom}

-- an atom has bytes
pub some-atom : (atom : ℕ) → IsAtom atom → 0 < atom
some-atom atom (inl is) = omega (arith, is)
some-atom atom (inr is) = omega (arith, is)

-- the chain and the split look at no stripe behind those that they take in
chain-front : (h : Hash) (size : ℕ) (xs ys : List ℕ) (n : ℕ) → n * size ≤ length xs
    → chain h size (xs ++ ys) n ≡ chain h size xs n
unfolding chain
chain-front h size xs ys zero within = refl
chain-front h size xs ys (suc n) within =
    let before = chain-front h size xs ys n (omega arith) in
    let long = length-drop (n * size) xs in
    let stripe : stripe_of size (xs ++ ys) n ≡ stripe_of size xs n =
    ap (take size) (drop-append-le (n * size) xs ys (omega arith))
    ∙ take-append-le size (drop (n * size) xs) ys (omega (arith, long, within)) in
    rw (before, stripe) refl

split-front : (h : Hash) (key xs ys : List ℕ) (n : ℕ) → (n - 1) * length key ≤ length xs
    → split_of h key n (xs ++ ys) ≡ split_of h key n xs
unfolding split_of
split-front h key xs ys n within =
    rw (
      take-append-le ((n - 1) * length key) xs ys within,
      chain-front h (length key) xs ys (n - 1) within,
    )
    refl

pub stripes-put : (h : Hash) (key drawn area copied out : List ℕ)
    → length drawn ≡ 3999 * length key → copied ≡ drawn
    → out ≡ split_of h key 4000 (take (length key * 4000) (copied ++ drop (length drawn) area))
    → out ++ drop (length key * 4000) (copied ++ drop (length drawn) area)
    ≡ split_of h key 4000 drawn ++ drop (split_len (length key)) area
stripes-put h key drawn area copied out long copy is =
    let rest : List ℕ = drop (length drawn) area in
    let last : ℕ = length key in
    let all : last * 4000 ≡ length drawn + last = omega (arith, long) in
    let taken : take (last * 4000) (copied ++ rest) ≡ drawn ++ take last rest =
    ap (λ xs. take (last * 4000) (xs ++ rest)) copy ∙ ap (λ n. take n (drawn ++ rest)) all
    ∙ take-append-add drawn rest last in
    let left : drop (last * 4000) (copied ++ rest) ≡ drop last rest =
    ap (λ xs. drop (last * 4000) (xs ++ rest)) copy ∙ ap (λ n. drop n (drawn ++ rest)) all
    ∙ drop-append-add drawn rest last in
    let behind : drop last rest ≡ drop (last * 4000) area =
    drop-drop last (length drawn) area ∙ ap (λ n. drop n area) (omega (arith, all)) in
    let split : out ≡ split_of h key 4000 drawn =
    is ∙ ap (split_of h key 4000) taken
    ∙ split-front h key drawn (take last rest) 4000 (omega (arith, long)) in
    ap (λ xs. xs ++ drop (last * 4000) (copied ++ rest)) split
    ∙ ap (λ ys. split_of h key 4000 drawn ++ ys) (left ∙ behind)

-- stripes at the front of an area are as many bytes as they take there
pub stripes-size : (n : ℕ) (stripes old new : List ℕ) → new ≡ stripes ++ drop n old
    → length new ≡ length old → n ≤ length old → length stripes ≡ n
stripes-size n stripes old new is same within =
    let long = ap length is ∙ length-append stripes (drop n old) in
    let rest = length-drop n old in
    omega (arith, long, rest, same, within)

-- sectors at the front are changed, and what is behind stays
pub front-changed : (change : List ℕ → List ℕ) (n count : ℕ) (stripes old new front : List ℕ)
    → new ≡ stripes ++ drop n old → length stripes ≡ n → n ≤ count
    → front ≡ change (take count new)
    → front ++ drop count new ≡ change (take count (stripes ++ drop n old)) ++ drop count old
front-changed change n count stripes old new front is long le changed =
    let all : count ≡ length stripes + (count - n) = omega (arith, long, le) in
    let behind : drop count (stripes ++ drop n old) ≡ drop count old =
    ap (λ m. drop m (stripes ++ drop n old)) all
    ∙ drop-append-add stripes (drop n old) (count - n) ∙ drop-drop (count - n) n old
    ∙ ap (λ m. drop m old) (omega (arith, le)) in
    ap (λ xs. xs ++ drop count new) (changed ∙ ap (λ xs. change (take count xs)) is)
    ∙ ap (λ xs. change (take count (stripes ++ drop n old)) ++ xs)
    (ap (drop count) is ∙ behind)

pub sectors-room : (n : ℕ) → n ≤ rounded n 512
sectors-room n = (div_ceil_times n 512 (omega arith)).0

-- in an area of zeros these are the bytes with zeros behind them
pub area-padded : (change : List ℕ → List ℕ) (n atom total : ℕ) (stripes area : List ℕ)
    → 0 < atom → total ≡ rounded (rounded n 512) atom → length stripes ≡ n
    → length area ≡ total
    → area ≡ change (take (rounded n 512) (stripes ++ drop n (replicate total 0)))
    ++ drop (rounded n 512) (replicate total 0)
    → area ≡ padded atom (change (padded 512 stripes))
area-padded change n atom total stripes area some all long same is =
    let count : ℕ = rounded n 512 in
    let le : n ≤ count = sectors-room n in
    let most : count ≤ total =
    subst (λ m. count ≤ m) (sym all) (div_ceil_times count atom some).0 in
    let split : count ≡ length stripes + (count - n) = omega (arith, long, le) in
    let short : count - n ≤ total - n = omega (arith, most) in
    let inner : take count (stripes ++ drop n (replicate total 0)) ≡ padded 512 stripes =
    ap (λ m. take m (stripes ++ drop n (replicate total 0))) split
    ∙ take-append-add stripes (drop n (replicate total 0)) (count - n)
    ∙ ap (λ xs. stripes ++ take (count - n) xs) (drop-replicate n total 0)
    ∙ ap (λ xs. stripes ++ xs) (take-replicate (count - n) (total - n) 0 short)
    ∙ ap (λ m. stripes ++ replicate (rounded m 512 - m) 0) (sym long) in
    let sealed : List ℕ = change (padded 512 stripes) in
    let joined : area ≡ sealed ++ replicate (total - count) 0 =
    is ∙ ap (λ xs. change xs ++ drop count (replicate total 0)) inner
    ∙ ap (λ xs. sealed ++ xs) (drop-replicate count total 0) in
    let sizes = ap length joined ∙ length-append sealed (replicate (total - count) 0) in
    let zeros = length-replicate {A = ℕ} (total - count) 0 in
    let front : length sealed ≡ count = omega (arith, sizes, zeros, same, most) in
    joined ∙ ap (λ m. sealed ++ replicate (m - count) 0) all
    ∙ ap (λ m. sealed ++ replicate (rounded m atom - m) 0) (sym front)
