-- Workers of a volume that was put into a cell, from their first pass on.
use Rattle.std.proofs.Common.{◌≡◌, ℕ, ◌<◌, ◌≤◌, List, [], ◌∷◌, ◌++◌, Option, Some, None, slice_index_or}
use Rattle.std.proofs.Common.{IsSomeAnd, drop, length, take, refl, sym, ◌∙◌, ap, subst, arith}
use Rattle.std.proofs.Common.{append-nil}
use Rattle.std.proofs.lemmas.List.{drop_all, get_or_default, take_all}
use Rattle.bays.specs.Stories.{LinkState}
use Rattle.lane_plan.specs.Plans.{IsShape}
use Rattle.lane_plan.specs.declared.plan.Shape.{Shape}
use Rattle.shared_volume.specs.Ciphers.{Context}
use Rattle.shared_volume.specs.Lanes.{IsOn, Knowing}
use Rattle.shared_volume.specs.Works.{VolumeCell}
use Rattle.volume_cell.specs.Knowing.{beginning}
use Rattle.volume_cell.specs.Passes.{known}
use Rattle.volume_machine.specs.States.{State}
use Rattle.volume_machine.specs.declared.keys.Keys.{Keys}
use Rattle.block_server.specs.Passing.{AreBack, AreBetween, IsBack, IsFirst}
use Rattle.block_server.specs.Workers.{AreReady, HaveWorked, IsReady}
use Rattle.block_server.specs.declared.worker.Worker.{Worker}
use Rattle.block_server.proofs.ServedLemmas.{pair-at}
use Rattle.block_server.proofs.SlotLemmas.{and-some}

-- what was taken of a list that was written whole
pub written-whole : {A : Type 0} (n : ℕ) (old new : List A) → length new ≡ length old
    → length old ≤ n → take n (new ++ drop (length new) old) ≡ new
written-whole n old new same few =
    ap (λ rest. take n (new ++ rest)) (drop_all (length new) old (omega (arith, same)))
    ∙ (ap (λ l. take n l) (append-nil new) ∙ take_all n new (omega (arith, same, few)))

some-of : {A : Type 0} (xs : List A) (k : ℕ) → k < length xs → A
some-of [] k below = absurd (omega (arith, below))
some-of (x ∷ xs) k below = x

-- the first pass of a cell
pub first-begun : (v : Knowing Context) (start : State (Keys Context)) → v ≡ beginning start
    → IsFirst 0 0 v
unfolding AreBetween
first-begun v start is = subst (λ (k : Knowing Context). IsFirst 0 0 k) (sym is)
    (record { name = refl; calls = refl; splits_are = refl; away = tt })

pub shape-on : (sector : Context → ℕ) (number : ℕ) (keys : Keys Context) (shape : Shape)
    (start : Option (State (Keys Context))) → IsSomeAnd start (IsOn sector number keys shape)
    → IsShape shape
shape-on sector number keys shape None on = absurd on
shape-on sector number keys shape (Some start) on = on.known

pub on-start : (sector : Context → ℕ) (number : ℕ) (keys : Keys Context) (shape : Shape)
    (found : Option (State (Keys Context))) (start : State (Keys Context)) → found ≡ Some start
    → IsSomeAnd found (IsOn sector number keys shape) → IsOn sector number keys shape start
on-start sector number keys shape found start is on =
    subst (λ (o : Option (State (Keys Context))). IsSomeAnd o (IsOn sector number keys shape)) is on

module _ {D P L : Type 0} (state : L → LinkState) (cell : VolumeCell D Context P) (shape : Shape)
    (olds : List L)
  where
    -- workers that are ready may work
    pub ready-all : (start : Option (State (Keys Context)))
        (workers slots : List (Option (Worker D L))) → slots ≡ workers
        → AreReady state cell (length olds) shape start olds workers
        → (k : ℕ) (slot : Option (Worker D L)) → k < length slots
        → IsSomeAnd (slice_index_or slots k slot)
        (IsReady state cell (length slots) shape k)
    ready-all start workers slots same ready k slot below =
        let many : length slots ≡ length olds =
        ap (λ (ws : List (Option (Worker D L))). length ws) same ∙ ready.count in
        let inside : k < length olds = omega (arith, below, many) in
        subst (λ (n : ℕ). IsSomeAnd (slice_index_or slots k slot)
        (IsReady state cell n shape k)) (sym many)
        (subst (λ (ws : List (Option (Worker D L))). IsSomeAnd (slice_index_or ws k slot)
        (IsReady state cell (length olds) shape k)) (sym same)
        (alone (some-of olds k inside) (slice_index_or workers k slot)
        (ready.each k (some-of olds k inside) slot inside)))
      where
        alone : (link : L) (o : Option (Worker D L))
            → IsSomeAnd o (λ worker. IsReady state cell (length olds) shape k
            worker × (worker.link ≡ slice_index_or olds k link)
            × ((known worker.lane.pass).start ≡ start))
            → IsSomeAnd o (IsReady state cell (length olds) shape k)
        alone link None is = is
        alone link (Some worker) is = is.0

    -- what workers that were ready have done
    pub worked-all : (workers slots after : List (Option (Worker D L))) → slots ≡ workers
        → length workers ≡ length olds
        → HaveWorked state cell (length slots) shape slots after
        → HaveWorked state cell (length olds) shape workers after
    worked-all workers slots after same many worked =
        subst (λ (n : ℕ). HaveWorked state cell n shape workers after) many
        (subst (λ (ws : List (Option (Worker D L))).
        HaveWorked state cell (length ws) shape ws after) same worked)

    -- workers that have worked can be joined
    pub back-all : (start : State (Keys Context)) (before after : List (Option (Worker D L)))
        → AreReady state cell (length olds) shape (Some start) olds before
        → HaveWorked state cell (length olds) shape before after
        → AreBack cell after
    back-all start before after ready worked k slot below =
        let count = worked.count in
        let many = ready.count in
        let pair = pair-at state cell (length olds) shape start olds before
        after ready worked k (omega (arith, below, count, many)) in
        and-some (slice_index_or after k slot) (IsBack cell k) pair.new
        (get_or_default after k slot None below ∙ pair.at) (record {
          pass = pair.worked.usable.pass;
          name = pair.worked.same.name ∙ pair.ready.name;
          joined = pair.worked.usable.lane_is.joined;
          whole = pair.worked.usable.lane_is.away;
        })
