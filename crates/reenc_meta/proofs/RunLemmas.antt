-- The runs of a conversion: which there are, and how many blocks they have.
use Rattle.std.proofs.Common.{◌≡◌, ◌∙◌, ℕ, ◌+◌, ◌*◌, ◌<◌, ◌≤◌, ◌++◌, cond, eqb, List, [], ◌∷◌}
use Rattle.std.proofs.Common.{length, Bool, true, false, refl, ap, subst, arith}
use Rattle.std.proofs.lemmas.Bool.{eqb-true}
use Rattle.std.proofs.lemmas.List.{append-nil}
use Rattle.std.proofs.lemmas.List.Sums.{sum_by-append, sum_by-cons}
use Rattle.std.specs.List.{AllByRecursion, sum_by}
use Rattle.luks_meta.specs.declared.reencrypt.Direction.{Direction}
use Rattle.luks_meta.specs.declared.reencrypt.Direction.TheVariants.{Forward, Backward}
use Rattle.luks_rules.specs.Plans.{blocks_in}
use Rattle.luks_rules.specs.declared.plan.Plan.{Plan}
use Rattle.reenc_meta.specs.Runs.{run_of, runs_of, some_of}
use Rattle.reenc_meta.specs.declared.runs.Run.{Run}
use Rattle.reenc_meta.proofs.EachLemmas.{each-joined}
use Rattle.segment_map.specs.declared.Side.{Side}
use Rattle.segment_map.specs.declared.Side.TheVariants.{Old, New, Zone}

-- the run on a side, also where it has no block
abbrev pub run_on : Direction → Plan → Side → Run
run_on Forward plan New = run_of New 0 plan.first
run_on Forward plan Zone = run_of Zone plan.first plan.zone
run_on Forward plan Old = run_of Old (plan.first + plan.zone) plan.last
run_on Backward plan Old = run_of Old 0 plan.first
run_on Backward plan Zone = run_of Zone plan.first plan.zone
run_on Backward plan New = run_of New (plan.first + plan.zone) plan.last

-- all three, in logical order
abbrev pub three_runs : Direction → Plan → List Run
three_runs Forward plan =
    run_on Forward plan New ∷ run_on Forward plan Zone ∷ run_on Forward plan Old ∷ []
three_runs Backward plan =
    run_on Backward plan Old ∷ run_on Backward plan Zone ∷ run_on Backward plan New ∷ []

abbrev pub all_some : List Run → List Run
all_some [] = []
all_some (run ∷ runs) = some_of run ++ all_some runs

pub are-some : (direction : Direction) (plan : Plan)
    → all_some (three_runs direction plan) ≡ runs_of direction plan
unfolding runs_of
are-some Forward plan =
    ap (λ rest. some_of (run_on Forward plan New) ++ (some_of (run_on Forward plan Zone) ++ rest))
    (append-nil (some_of (run_on Forward plan Old)))
are-some Backward plan =
    ap (λ rest. some_of (run_on Backward plan Old) ++ (some_of (run_on Backward plan Zone) ++ rest))
    (append-nil (some_of (run_on Backward plan New)))

-- ---- each of them
pub some-block : (n : ℕ) → eqb n 0 ≡ false → 0 < n
some-block n h = grind arith

some_each : (P : Run → Type 0) (run : Run) → (0 < run.blocks → P run)
    → AllByRecursion P (some_of run)
some_each P run h = go (eqb run.blocks 0) refl
  where
    go : (b : Bool) → eqb run.blocks 0 ≡ b → AllByRecursion P (cond b [] (run ∷ []))
    go true e = tt
    go false e = (h (some-block run.blocks e), tt)

pub each-run : (P : Run → Type 0) (direction : Direction) (plan : Plan)
    → ((side : Side) → 0 < (run_on direction plan side).blocks → P (run_on direction plan side))
    → AllByRecursion P (runs_of direction plan)
unfolding runs_of
each-run P Forward plan h =
    each-joined P (some_of (run_on Forward plan New)) _
    (some_each P (run_on Forward plan New) (h New))
    (each-joined P (some_of (run_on Forward plan Zone)) _
    (some_each P (run_on Forward plan Zone) (h Zone))
    (some_each P (run_on Forward plan Old) (h Old)))
each-run P Backward plan h =
    each-joined P (some_of (run_on Backward plan Old)) _
    (some_each P (run_on Backward plan Old) (h Old))
    (each-joined P (some_of (run_on Backward plan Zone)) _
    (some_each P (run_on Backward plan Zone) (h Zone))
    (some_each P (run_on Backward plan New) (h New)))

-- ---- how many blocks they have
some_sum : (atom : ℕ) (run : Run)
    → sum_by (λ run. run.blocks * atom) (some_of run) ≡ run.blocks * atom
some_sum atom run = go (eqb run.blocks 0) refl
  where
    go : (b : Bool) → eqb run.blocks 0 ≡ b
        → sum_by (λ run. run.blocks * atom) (cond b [] (run ∷ [])) ≡ run.blocks * atom
    go true e = let none = eqb-true run.blocks 0 e in rw none (omega arith)
    go false e = sum_by-cons (λ run. run.blocks * atom) run [] ∙ omega arith

joined_sum : (atom : ℕ) (a b c : Run)
    → sum_by (λ run. run.blocks * atom) (some_of a ++ (some_of b ++ some_of c))
    ≡ (a.blocks + b.blocks + c.blocks) * atom
joined_sum atom a b c =
    let f : Run → ℕ = λ run. run.blocks * atom in
    let one = sum_by-append f (some_of a) (some_of b ++ some_of c) in
    let two = sum_by-append f (some_of b) (some_of c) in
    let x = some_sum atom a in
    let y = some_sum atom b in
    let z = some_sum atom c in
    omega (arith, one, two, x, y, z)

pub runs-sum : (atom : ℕ) (direction : Direction) (plan : Plan)
    → sum_by (λ run. run.blocks * atom) (runs_of direction plan) ≡ blocks_in plan * atom
unfolding runs_of
runs-sum atom Forward plan =
    joined_sum atom (run_on Forward plan New) (run_on Forward plan Zone) (run_on Forward plan Old)
runs-sum atom Backward plan =
    joined_sum atom (run_on Backward plan Old) (run_on Backward plan Zone)
    (run_on Backward plan New)

few_joined : (run : Run) (rest : List Run) (n : ℕ) → length rest ≤ n
    → length (some_of run ++ rest) ≤ n + 1
few_joined run rest n few = go (eqb run.blocks 0)
  where
    go : (b : Bool) → length (cond b [] (run ∷ []) ++ rest) ≤ n + 1
    go true = omega (arith, few)
    go false = omega (arith, few)

few_some : (runs : List Run) → length (all_some runs) ≤ length runs
few_some [] = omega arith
few_some (run ∷ runs) =
    let few = few_joined run (all_some runs) (length runs) (few_some runs) in omega (arith, few)

pub runs-few : (direction : Direction) (plan : Plan) → length (runs_of direction plan) ≤ 3
runs-few Forward plan =
    subst (λ runs. length runs ≤ 3) (are-some Forward plan) (few_some (three_runs Forward plan))
runs-few Backward plan =
    subst (λ runs. length runs ≤ 3) (are-some Backward plan) (few_some (three_runs Backward plan))

some_runs : (runs : List Run) → 0 < sum_by (λ run. run.blocks * 1) runs → 0 < length runs
some_runs [] h = h
some_runs (run ∷ runs) h = omega arith

pub runs-some : (direction : Direction) (plan : Plan) → 0 < blocks_in plan
    → 0 < length (runs_of direction plan)
runs-some direction plan some =
    let sum = runs-sum 1 direction plan in
    some_runs (runs_of direction plan) (omega (arith, some, sum))
