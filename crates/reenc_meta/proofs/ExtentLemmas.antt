-- The segments that a plan lays out are the parts that it is of.
use Rattle.std.proofs.Common.{◌≡◌, ◌∙◌, ℕ, suc, zero, ◌+◌, ◌*◌, ◌/◌, ◌<◌, ◌++◌, ◌&&◌, cond, eqb}
use Rattle.std.proofs.Common.{List, [], ◌∷◌, length, map, get_or, drop, Option, Some, None, Bool}
use Rattle.std.proofs.Common.{true, false, refl, ap, arith}
use Rattle.std.proofs.lemmas.Bool.{and_from, eq-eqb}
use Rattle.std.specs.List.{enumerate_from}
use Rattle.luks_meta.specs.declared.digest.Digest.{Digest}
use Rattle.luks_meta.specs.declared.names.Cipher.{Cipher}
use Rattle.luks_meta.specs.declared.names.Cipher.TheVariants.{AesXtsPlain64, AesCbcEssivSha256}
use Rattle.luks_meta.specs.declared.reencrypt.Direction.{Direction}
use Rattle.luks_meta.specs.declared.reencrypt.Direction.TheVariants.{Forward, Backward}
use Rattle.luks_meta.specs.declared.segment.Encryption.{Encryption}
use Rattle.luks_meta.specs.declared.segment.Segment.{Segment}
use Rattle.luks_meta.specs.declared.segment.SegmentSize.TheVariants.{Sized}
use Rattle.luks_rules.specs.Extents.{digest_of, extent_of, mark_of}
use Rattle.luks_rules.specs.Plans.{begins, is_encrypted, is_marked, is_part, laid_out, parts_of}
use Rattle.luks_rules.specs.Plans.{rest_of, same_cipher, same_digest}
use Rattle.luks_rules.specs.Shapes.{numbered}
use Rattle.luks_rules.specs.declared.extents.Extent.{Extent}
use Rattle.luks_rules.specs.declared.extents.Mark.{Mark}
use Rattle.luks_rules.specs.declared.extents.Mark.TheVariants as marks
use Rattle.luks_rules.specs.declared.plan.Plan.{Plan}
use Rattle.luks_rules.specs.declared.shape.Progress.{Progress}
use Rattle.reenc_meta.specs.Layouts.{encryption_behind, flags_on, part_of, parts_by, whole_on}
use Rattle.reenc_meta.specs.Runs.{runs_of, sides_of, some_of}
use Rattle.reenc_meta.specs.declared.runs.Run.{Run}
use Rattle.reenc_meta.proofs.RunLemmas.{run_on}
use Rattle.segment_map.specs.declared.Side.{Side}
use Rattle.segment_map.specs.declared.Side.TheVariants.{Old, New, Zone}

-- ---- a run's segment, as it is read
abbrev pub mark_on : Side → Mark
mark_on Old = marks.Plain
mark_on Zone = marks.Zone
mark_on New = marks.Plain

abbrev pub extent_for : ℕ → ℕ → Extent → Run → Extent
extent_for atom n whole run = record {
  number = n;
  offset = whole.offset + run.from * atom;
  size = Sized (run.blocks * atom);
  encryption = encryption_behind (run.from * atom / 512) whole.encryption;
  mark = mark_on run.side;
  digest = whole.digest;
}

abbrev pub extents_for : ℕ → Progress → ℕ → List Run → List Extent
extents_for atom p n [] = []
extents_for atom p n (run ∷ runs) =
    extent_for atom n (whole_on p run.side) run ∷ extents_for atom p (n + 1) runs

pub extents-length : (atom : ℕ) (p : Progress) (n : ℕ) (runs : List Run)
    → length (extents_for atom p n runs) ≡ length runs
extents-length atom p n [] = refl
extents-length atom p n (run ∷ runs) = ap suc (extents-length atom p (n + 1) runs)

pub extents-numbered : (atom : ℕ) (p : Progress) (n : ℕ) (runs : List Run)
    → numbered n (extents_for atom p n runs) ≡ true
unfolding numbered
extents-numbered atom p n [] = refl
extents-numbered atom p n (run ∷ runs) =
    and_from (eqb n n) (numbered (n + 1) (extents_for atom p (n + 1) runs)) (eq-eqb n n refl)
    (extents-numbered atom p (n + 1) runs)

-- ---- it is a part of its whole segment
same_ciphers : (c : Cipher) → same_cipher c c ≡ true
same_ciphers AesXtsPlain64 = refl
same_ciphers AesCbcEssivSha256 = refl

encrypted : (units : ℕ) (e : Option Encryption)
    → is_encrypted units e (encryption_behind units e) ≡ true
encrypted units None = refl
encrypted units (Some e) =
    and_from (same_cipher e.cipher e.cipher && eqb e.sector_size e.sector_size)
    (eqb (e.iv_tweak + units) (e.iv_tweak + units))
    (and_from (same_cipher e.cipher e.cipher) (eqb e.sector_size e.sector_size)
    (same_ciphers e.cipher) (eq-eqb e.sector_size e.sector_size refl))
    (eq-eqb (e.iv_tweak + units) (e.iv_tweak + units) refl)

same_digests : (d : Option ℕ) → same_digest d d ≡ true
same_digests None = refl
same_digests (Some d) = eq-eqb d d refl

abbrev pub is_zone : Side → Bool
is_zone Old = false
is_zone Zone = true
is_zone New = false

marked : (side : Side) → is_marked (is_zone side) (mark_on side) ≡ true
marked Old = refl
marked Zone = refl
marked New = refl

is_its_part : (atom n : ℕ) (whole : Extent) (run : Run)
    → is_part atom
    (record { whole = whole; zone = is_zone run.side; from = run.from; blocks = run.blocks })
    (extent_for atom n whole run) ≡ true
is_its_part atom n whole run =
    and_from _ (same_digest whole.digest whole.digest)
    (and_from _ (is_encrypted (run.from * atom / 512) whole.encryption
    (encryption_behind (run.from * atom / 512) whole.encryption))
    (and_from _ (eqb (run.blocks * atom) (run.blocks * atom))
    (and_from (is_marked (is_zone run.side) (mark_on run.side))
    (eqb (whole.offset + run.from * atom) (whole.offset + run.from * atom))
    (marked run.side)
    (eq-eqb (whole.offset + run.from * atom) (whole.offset + run.from * atom) refl))
    (eq-eqb (run.blocks * atom) (run.blocks * atom) refl))
    (encrypted (run.from * atom / 512) whole.encryption))
    (same_digests whole.digest)

-- a run's segment, if it has one, in front of those of later runs, which are numbered from there
abbrev pub front : ℕ → Extent → Run → (ℕ → List Extent) → ℕ → List Extent
front atom whole run later n =
    cond (eqb run.blocks 0) (later n) (extent_for atom n whole run ∷ later (n + 1))

extents_front : (atom n : ℕ) (p : Progress) (run : Run) (runs : List Run)
    → extents_for atom p n (some_of run ++ runs)
    ≡ front atom (whole_on p run.side) run (λ k. extents_for atom p k runs) n
extents_front atom n p run runs = go (eqb run.blocks 0)
  where
    go : (b : Bool)
        → extents_for atom p n (cond b [] (run ∷ []) ++ runs)
        ≡ cond b (extents_for atom p n runs)
        (extent_for atom n (whole_on p run.side) run ∷ extents_for atom p (n + 1) runs)
    go true = refl
    go false = refl

extents_last : (atom n : ℕ) (p : Progress) (run : Run)
    → extents_for atom p n (some_of run) ≡ front atom (whole_on p run.side) run (λ k. []) n
extents_last atom n p run = go (eqb run.blocks 0)
  where
    go : (b : Bool)
        → extents_for atom p n (cond b [] (run ∷ []))
        ≡ cond b [] (extent_for atom n (whole_on p run.side) run ∷ [])
    go true = refl
    go false = refl

-- what a list of parts asks of later segments it asks behind such a run too
laid_front : (atom n : ℕ) (whole : Extent) (run : Run) (test : List Extent → Bool)
    (later : ℕ → List Extent) → ((k : ℕ) → test (later k) ≡ true)
    → cond (eqb run.blocks 0) (test (front atom whole run later n))
    (begins atom
    (record { whole = whole; zone = is_zone run.side; from = run.from; blocks = run.blocks })
    (front atom whole run later n) && test (rest_of (front atom whole run later n))) ≡ true
laid_front atom n whole run test later laid = go (eqb run.blocks 0)
  where
    go : (b : Bool)
        → cond b (test (cond b (later n) (extent_for atom n whole run ∷ later (n + 1))))
        (begins atom
        (record { whole = whole; zone = is_zone run.side; from = run.from; blocks = run.blocks })
        (cond b (later n) (extent_for atom n whole run ∷ later (n + 1)))
        && test (rest_of (cond b (later n) (extent_for atom n whole run ∷ later (n + 1))))) ≡ true
    go true = laid n
    go false =
        and_from _ (test (later (n + 1))) (is_its_part atom n whole run) (laid (n + 1))

three_fronts : (atom n : ℕ) (p : Progress) (a b c : Run)
    → extents_for atom p n (some_of a ++ (some_of b ++ some_of c))
    ≡ front atom (whole_on p a.side) a
    (front atom (whole_on p b.side) b (front atom (whole_on p c.side) c (λ k. []))) n
three_fronts atom n p a b c =
    let last : (k : ℕ) → extents_for atom p k (some_of c)
    ≡ front atom (whole_on p c.side) c (λ j. []) k = λ k. extents_last atom k p c in
    let two : (k : ℕ) → extents_for atom p k (some_of b ++ some_of c)
    ≡ front atom (whole_on p b.side) b (front atom (whole_on p c.side) c (λ j. [])) k =
    λ k. extents_front atom k p b (some_of c)
    ∙ (λ i. front atom (whole_on p b.side) b (λ j. last j i) k) in
    extents_front atom n p a (some_of b ++ some_of c)
    ∙ (λ i. front atom (whole_on p a.side) a (λ j. two j i) n)

pub extents-laid : (atom : ℕ) (direction : Direction) (p : Progress) (plan : Plan)
    → laid_out atom (parts_of direction p.old p.new plan)
    (extents_for atom p 0 (runs_of direction plan)) ≡ true
unfolding laid_out runs_of
extents-laid atom Forward p plan =
    ap (laid_out atom (parts_of Forward p.old p.new plan))
    (three_fronts atom 0 p (run_on Forward plan New) (run_on Forward plan Zone)
    (run_on Forward plan Old))
    ∙ laid_front atom 0 p.new (run_on Forward plan New)
    (laid_out atom (drop 1 (parts_of Forward p.old p.new plan))) _
    (λ k. laid_front atom k p.old (run_on Forward plan Zone)
    (laid_out atom (drop 2 (parts_of Forward p.old p.new plan))) _
    (λ j. laid_front atom j p.old (run_on Forward plan Old)
    (laid_out atom (drop 3 (parts_of Forward p.old p.new plan))) (λ i. []) (λ i. refl)))
extents-laid atom Backward p plan =
    ap (laid_out atom (parts_of Backward p.old p.new plan))
    (three_fronts atom 0 p (run_on Backward plan Old) (run_on Backward plan Zone)
    (run_on Backward plan New))
    ∙ laid_front atom 0 p.old (run_on Backward plan Old)
    (laid_out atom (drop 1 (parts_of Backward p.old p.new plan))) _
    (λ k. laid_front atom k p.old (run_on Backward plan Zone)
    (laid_out atom (drop 2 (parts_of Backward p.old p.new plan))) _
    (λ j. laid_front atom j p.new (run_on Backward plan New)
    (laid_out atom (drop 3 (parts_of Backward p.old p.new plan))) (λ i. []) (λ i. refl)))

-- ---- all segments, as they are read
-- the digest by which each segment is read is that of its side
abbrev pub AreRead : Progress → List (ℕ × Digest) → ℕ → List Side → Type 0
AreRead p ds k sides =
    (i n : ℕ) (d : Side) → n ≡ k + i → i < length sides
    → digest_of ds n ≡ (whole_on p (get_or sides i d)).digest

abbrev pub whole_extent : ℕ → Option ℕ → Segment → Extent
whole_extent n digest s = record {
  number = n;
  offset = s.offset;
  size = s.size;
  encryption = s.encryption;
  mark = mark_of s.flags;
  digest = digest;
}

flagged : (side : Side) → mark_of (flags_on side) ≡ mark_on side
flagged Old = refl
flagged Zone = refl
flagged New = refl

read_part : (atom k : ℕ) (whole : Extent) (run : Run) (ds : List (ℕ × Digest))
    → digest_of ds k ≡ whole.digest
    → extent_of ds (k, part_of atom whole run) ≡ extent_for atom k whole run
unfolding part_of
read_part atom k whole run ds is = λ i. record {
  number = k;
  offset = whole.offset + run.from * atom;
  size = Sized (run.blocks * atom);
  encryption = encryption_behind (run.from * atom / 512) whole.encryption;
  mark = flagged run.side i;
  digest = is i;
}

read_whole : (n m : ℕ) (digest : Option ℕ) (s : Segment) (ds : List (ℕ × Digest)) → n ≡ m
    → digest_of ds n ≡ digest → extent_of ds (n, s) ≡ whole_extent m digest s
read_whole n m digest s ds at is = λ i. record {
  number = at i;
  offset = s.offset;
  size = s.size;
  encryption = s.encryption;
  mark = mark_of s.flags;
  digest = is i;
}

pub segments-read : (atom k : ℕ) (p : Progress) (ds : List (ℕ × Digest)) (runs : List Run)
    (a b : Segment) → AreRead p ds k (sides_of runs)
    → map (extent_of ds) (enumerate_from k (parts_by atom p runs ++ a ∷ b ∷ []))
    ≡ extents_for atom p k runs
    ++ whole_extent (k + length runs) p.old.digest a
    ∷ whole_extent (k + length runs + 1) p.new.digest b ∷ []
segments-read atom k p ds [] a b is =
    let old = read_whole k (k + 0) p.old.digest a ds (omega arith)
    (is 0 k Old (omega arith) (omega arith)) in
    let new = read_whole (k + 1) (k + 0 + 1) p.new.digest b ds (omega arith)
    (is 1 (k + 1) Old refl (omega arith)) in
    λ i. old i ∷ new i ∷ []
segments-read atom k p ds (run ∷ runs) a b is =
    let first = read_part atom k (whole_on p run.side) run ds
    (is 0 k Old (omega arith) (omega arith)) in
    let later = segments-read atom (k + 1) p ds runs a b
    (λ i n d at below. is (suc i) n d (omega (arith, at)) (omega (arith, below))) in
    let one : k + 1 + length runs ≡ k + suc (length runs) = omega arith in
    (λ i. first i ∷ later i)
    ∙ ap (λ n. extents_for atom p k (run ∷ runs)
    ++ whole_extent n p.old.digest a ∷ whole_extent (n + 1) p.new.digest b ∷ []) one

-- a whole segment that was read as one is read so again, but for its number
pub whole-again : (n k : ℕ) (digest : Option ℕ) (ds : List (ℕ × Digest)) (s : Segment) (e : Extent)
    → extent_of ds (k, s) ≡ e → digest ≡ e.digest
    → whole_extent n digest s ≡ record e { number = n }
whole-again n k digest ds s e is same = λ i. record {
  number = n;
  offset = (is i).offset;
  size = (is i).size;
  encryption = (is i).encryption;
  mark = (is i).mark;
  digest = same i;
}

-- ---- the two whole segments are the last
two_of : {X Y : Type 0} (f : X → Y) (xs : List X) (x y : Y) → map f xs ≡ x ∷ y ∷ []
    → (a : X) × (b : X) × (xs ≡ a ∷ b ∷ []) × (f a ≡ x) × (f b ≡ y)
two_of f [] x y h = cc
two_of f (a ∷ []) x y h = cc
two_of f (a ∷ b ∷ []) x y h = (a, b, refl, cc, cc)
two_of f (a ∷ b ∷ c ∷ xs) x y h = cc

dropped : {X Y : Type 0} (f : X → Y) (n : ℕ) (xs : List X) → map f (drop n xs) ≡ drop n (map f xs)
dropped f zero xs = refl
dropped f (suc n) [] = refl
dropped f (suc n) (x ∷ xs) = dropped f n xs

behind : {X : Type 0} (xs ys : List X) → drop (length xs) (xs ++ ys) ≡ ys
behind [] ys = refl
behind (x ∷ xs) ys = behind xs ys

pub wholes-last : (ds : List (ℕ × Digest)) (segments : List (ℕ × Segment)) (live : List Extent)
    (old new : Extent) (n : ℕ) → map (extent_of ds) segments ≡ live ++ old ∷ new ∷ []
    → n ≡ length live
    → (a : ℕ × Segment) × (b : ℕ × Segment) × (drop n segments ≡ a ∷ b ∷ [])
    × (extent_of ds a ≡ old) × (extent_of ds b ≡ new)
wholes-last ds segments live old new n is at =
    two_of (extent_of ds) (drop n segments) old new
    (dropped (extent_of ds) n segments ∙ ap (drop n) is
    ∙ ap (λ k. drop k (live ++ old ∷ new ∷ [])) at ∙ behind live (old ∷ new ∷ []))
