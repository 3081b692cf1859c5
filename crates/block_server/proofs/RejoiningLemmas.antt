-- The first pass, off which the pass of the conversion's worker was split, and into which it was
-- joined back.
use Rattle.std.proofs.Common.{◌≡◌, ℕ, ◌+◌, ◌≤◌, List, [], ◌++◌, IfSome, IsSome, IsSomeAnd, Option, Some, None}
use Rattle.std.proofs.Common.{◌↔◌, append-nil, length, slice_index_or, sym, ◌∙◌, ap, subst, arith}
use Rattle.reenc_worker.specs.declared.ends.WorkerEnd.{WorkerEnd}
use Rattle.shared_volume.specs.Ciphers.{Context}
use Rattle.shared_volume.specs.Lanes.{Knowing}
use Rattle.shared_volume.specs.Works.{VolumeCell}
use Rattle.volume_cell.specs.Passes.{known}
use Rattle.volume_machine.specs.States.{State}
use Rattle.volume_machine.specs.declared.keys.Keys.{Keys}
use Rattle.block_server.specs.Leading.{AreRejoined, AreSplit, HasLed, MayRejoin, accounts_of, end_of}
use Rattle.block_server.specs.Leading.{passes_of}
use Rattle.block_server.specs.Passing.{AreBetween, IsFirst, KnowsAll}
use Rattle.block_server.specs.declared.leading.Led.{Led}
use Rattle.block_server.specs.declared.worker.Worker.{Worker}
use Rattle.block_server.proofs.PassingLemmas.{begins-length, between-none, first-joined, first-split}
use Rattle.block_server.proofs.PassingLemmas.{joined-one}

module _ {D : Type 0} where
  -- ---- what the first pass keeps
  pub rejoined-name : (v w : Knowing Context) (led : Option (Led D)) → AreRejoined v w led
      → w.name ≡ v.name
  rejoined-name v w None is = ap (λ (k : Knowing Context). k.name) is
  rejoined-name v w (Some led) is = ap (λ (k : Knowing Context). k.name) is.joined

  pub rejoined-calls : (v w : Knowing Context) (led : Option (Led D)) → AreRejoined v w led
      → w.calls ≡ v.calls
  rejoined-calls v w None is = ap (λ (k : Knowing Context). k.calls) is
  rejoined-calls v w (Some led) is = ap (λ (k : Knowing Context). k.calls) is.joined

  pub rejoined-start : (v w : Knowing Context) (led : Option (Led D)) → AreRejoined v w led
      → w.start ≡ v.start
  rejoined-start v w None is = ap (λ (k : Knowing Context). k.start) is
  rejoined-start v w (Some led) is = ap (λ (k : Knowing Context). k.start) is.joined

  -- ---- what it has got
  pub rejoined-accounts : {P : Type 0} (cell : VolumeCell D Context P) (number : ℕ)
      (start : Option (State (Keys Context))) (v w : Knowing Context) (led : Option (Led D))
      → IfSome led (HasLed cell number start) → AreRejoined v w led
      → w.joined ≡ v.joined ++ accounts_of led
  rejoined-accounts cell number start v w None has is =
      ap (λ (k : Knowing Context). k.joined) is ∙ sym (append-nil v.joined)
  rejoined-accounts cell number start v w (Some led) has is =
      joined-one v (known led.pass) w is.joined has.worker.joined

  pub rejoined-led : (v w : Knowing Context) (led : Option (Led D)) → AreRejoined v w led
      → IfSome led (λ one. length (known one.pass).history ≤ length w.history)
  rejoined-led v w None is = tt
  rejoined-led v w (Some led) is = begins-length (known led.pass).history w.history is.its

  longer-so : (v w : Knowing Context) (led : Option (Led D)) → AreRejoined v w led
      → length v.history ≤ length w.history
  longer-so v w None is =
      let same = ap (λ (k : Knowing Context). length k.history) is in omega (arith, same)
  longer-so v w (Some led) is = begins-length v.history w.history is.own

  module _ {L : Type 0} where
    knows-on : (v w : Knowing Context) (o : Option (Worker D L)) → length v.history ≤ length w.history
        → IsSomeAnd o (λ one. length (known one.lane.pass).history ≤ length v.history)
        → IsSomeAnd o (λ one. length (known one.lane.pass).history ≤ length w.history)
    knows-on v w None more knows = knows
    knows-on v w (Some one) more knows = omega (arith, knows, more)

    pub rejoined-knows : (v w : Knowing Context) (led : Option (Led D))
        (workers : List (Option (Worker D L))) → AreRejoined v w led → KnowsAll v workers
        → KnowsAll w workers
    rejoined-knows v w led workers is knows k slot below =
        knows-on v w (slice_index_or workers k slot) (longer-so v w led is) (knows k slot below)

  -- ---- what is away
  pub split-first : {P : Type 0} (cell : VolumeCell D Context P) (number : ℕ) (v w : Knowing Context)
      (led : Option (Led D)) → AreSplit cell number v w led → IsFirst number 0 v
      → IsFirst (number + passes_of led) 0 w
  split-first cell number v w None is first =
      subst (λ (n : ℕ). IsFirst n 0 w) (plain number)
      (subst (λ (k : Knowing Context). IsFirst number 0 k) (sym is) first)
    where
      plain : (n : ℕ) → n ≡ n + 0
      plain n = omega arith
  split-first cell number v w (Some led) is first = first-split number v w is.0 first

  pub split-led : {P : Type 0} (cell : VolumeCell D Context P) (number : ℕ) (v w : Knowing Context)
      (led : Option (Led D)) → AreSplit cell number v w led → IfSome led (HasLed cell number v.start)
  split-led cell number v w None is = tt
  split-led cell number v w (Some led) is = is.1

  pub split-name : {P : Type 0} (cell : VolumeCell D Context P) (number : ℕ) (v w : Knowing Context)
      (led : Option (Led D)) → AreSplit cell number v w led → w.name ≡ v.name
  split-name cell number v w None is = ap (λ (k : Knowing Context). k.name) is
  split-name cell number v w (Some led) is = ap (λ (k : Knowing Context). k.name) is.0

  pub split-joined : {P : Type 0} (cell : VolumeCell D Context P) (number : ℕ) (v w : Knowing Context)
      (led : Option (Led D)) → AreSplit cell number v w led → w.joined ≡ v.joined
  split-joined cell number v w None is = ap (λ (k : Knowing Context). k.joined) is
  split-joined cell number v w (Some led) is = ap (λ (k : Knowing Context). k.joined) is.0

  pub split-start : {P : Type 0} (cell : VolumeCell D Context P) (number : ℕ) (v w : Knowing Context)
      (led : Option (Led D)) → AreSplit cell number v w led → w.start ≡ v.start
  split-start cell number v w None is = ap (λ (k : Knowing Context). k.start) is
  split-start cell number v w (Some led) is = ap (λ (k : Knowing Context). k.start) is.0

  pub led-back : {P : Type 0} (cell : VolumeCell D Context P) (number : ℕ)
      (start : Option (State (Keys Context))) (led : Option (Led D))
      → IfSome led (HasLed cell number start) → IfSome led (MayRejoin cell number)
  led-back cell number start None has = tt
  led-back cell number start (Some led) has = record {
    pass = has.pass;
    name = has.worker.name;
    joined = has.worker.joined;
    whole = has.worker.away;
  }

  -- none is away once the conversion's worker is back, too
  pub rejoined-whole : {P : Type 0} (cell : VolumeCell D Context P) (number : ℕ)
      (start : Option (State (Keys Context))) (v w : Knowing Context) (led : Option (Led D))
      → IfSome led (HasLed cell number start) → AreRejoined v w led
      → IsFirst (number + passes_of led) number v → w.away ≡ []
  rejoined-whole cell number start v w None has is first =
      ap (λ (k : Knowing Context). k.away) is
      ∙ between-none number v.away
      (subst (λ (n : ℕ). AreBetween number n v.away) (plain number) first.away)
    where
      plain : (n : ℕ) → n + 0 ≡ n
      plain n = omega arith
  rejoined-whole cell number start v w (Some led) has is first =
      between-none (number + 1) w.away
      (first-joined (number + 1) number v (known led.pass) w is.joined has.worker.name first).away

  -- by another name of how the volume began
  pub split-same : {P : Type 0} (cell : VolumeCell D Context P) (number : ℕ)
      (was is : Option (State (Keys Context))) (led : Option (Led D)) → was ≡ is
      → IfSome led (HasLed cell number was) → IfSome led (HasLed cell number is)
  split-same cell number was is led same has =
      subst (λ (s : Option (State (Keys Context))). IfSome led (HasLed cell number s)) same has

  -- its end is told just where there is one
  pub told-some : (led : Option (Led D)) (told : Option WorkerEnd) (B : Type 0) → told ≡ end_of led
      → (IsSome led ↔ B) → (IsSome told ↔ B)
  told-some None told B is so = subst (λ (o : Option WorkerEnd). IsSome o ↔ B) (sym is) so
  told-some (Some led) told B is so = subst (λ (o : Option WorkerEnd). IsSome o ↔ B) (sym is) so
