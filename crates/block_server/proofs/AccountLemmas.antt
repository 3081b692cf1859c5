-- The accounts of workers' calls, each under the number of its lane: those of the links' workers, and
-- behind them that of the conversion's.
use Rattle.std.proofs.Common.{◌≡◌, ◌≢◌, ℕ, zero, suc, ◌+◌, ◌<◌, ◌≤◌, true, false, List, [], ◌∷◌, ◌++◌}
use Rattle.std.proofs.Common.{Option, Some, None, length, slice_index_or, refl, sym, ◌∙◌, ap, subst, arith}
use Rattle.shared_volume.specs.Ciphers.{Context}
use Rattle.shared_volume.specs.Lanes.{Knowing}
use Rattle.shared_volume.specs.Serving.{calls_on}
use Rattle.shared_volume.specs.declared.asking.SharedEvent.{SharedEvent}
use Rattle.shared_volume.specs.declared.asking.SharedOutcome.{SharedOutcome}
use Rattle.volume_cell.proofs.Names.{names-differ, names-same}
use Rattle.volume_cell.specs.Histories.{accounted, is_same}
use Rattle.volume_cell.specs.Passes.{known}
use Rattle.volume_cell.specs.declared.knowledge.Account.{Account}
use Rattle.block_server.specs.Leading.{accounts_of}
use Rattle.block_server.specs.Passing.{account_of}
use Rattle.block_server.specs.Slots.{each_of}
use Rattle.block_server.specs.declared.leading.Led.{Led}
use Rattle.block_server.specs.declared.worker.Worker.{Worker}
use Rattle.block_server.proofs.SlotLemmas.{same-some}

one-differs : (a b : ℕ) → a ≢ b → (a ∷ []) ≢ (b ∷ [])
one-differs a b differ = λ is. differ (inside is)
  where
    inside : (a ∷ []) ≡ (b ∷ []) → a ≡ b
    inside is = cc

module _ {D L : Type 0} where
  -- each place has a worker whose name is its number, counted from this one
  pub record AreNamed (from : ℕ) (workers : List (Option (Worker D L))) : Type 0 where
    pub each : (k : ℕ) → k < length workers
        → (worker : Worker D L) × (slice_index_or workers k None ≡ Some worker)
        × ((known worker.lane.pass).name ≡ (from + k) ∷ [])

  tail-named : (from : ℕ) (slot : Option (Worker D L)) (rest : List (Option (Worker D L)))
      → AreNamed from (slot ∷ rest) → AreNamed (suc from) rest
  tail-named from slot rest named = record {
    each = λ k below.
        let (worker, at, name) = named.each (suc k) (omega (arith, below)) in
        (worker, at, name ∙ ap (λ (n : ℕ). n ∷ []) (shift from k));
  }
    where
      shift : (a b : ℕ) → a + suc b ≡ suc a + b
      shift a b = omega arith

  first-named : (from : ℕ) (worker : Worker D L) (rest : List (Option (Worker D L)))
      → AreNamed from (Some worker ∷ rest) → (known worker.lane.pass).name ≡ from ∷ []
  first-named from worker rest named =
      let (same, at, name) = named.each 0 (omega arith) in
      let is : worker ≡ same = same-some worker same (Some worker) refl at in
      ap (λ (w : Worker D L). (known w.lane.pass).name) is
      ∙ (name ∙ ap (λ (n : ℕ). n ∷ []) (plain from))
    where
      plain : (a : ℕ) → a + 0 ≡ a
      plain a = omega arith

  module _ (more : List (Account SharedEvent SharedOutcome)) where
    accounted-none : (from lane : ℕ) (workers : List (Option (Worker D L)))
        → AreNamed from workers → (lane < from → ⊥) → from + length workers ≤ lane
        → accounted (lane ∷ []) (each_of account_of workers ++ more) ≡ accounted (lane ∷ []) more
    unfolding each_of accounted
    accounted-none from lane [] named least beyond = refl
    accounted-none from lane (None ∷ rest) named least beyond =
        let (worker, at, name) = named.each 0 (omega arith) in absurd (cc)
    accounted-none from lane (Some worker ∷ rest) named least beyond =
        let name = first-named from worker rest named in
        let apart : is_same (lane ∷ []) (known worker.lane.pass).name ≡ false =
        names-differ (lane ∷ []) (known worker.lane.pass).name
        (λ is. one-differs lane from (λ same. omega (arith, same, beyond)) (is ∙ name)) in
        rw apart (accounted-none (suc from) lane rest (tail-named from (Some worker) rest named)
        (λ below. omega (arith, below, beyond)) (omega (arith, beyond)))

    accounted-at : (from k : ℕ) (workers : List (Option (Worker D L)))
        → AreNamed from workers → (worker : Worker D L) → k < length workers
        → slice_index_or workers k None ≡ Some worker
        → accounted ((from + k) ∷ []) (each_of account_of workers ++ more)
        ≡ (known worker.lane.pass).calls
    unfolding each_of accounted
    accounted-at from k [] named worker below at = absurd (omega (arith, below))
    accounted-at from k (None ∷ rest) named worker below at =
        let (other, none, name) = named.each 0 (omega arith) in absurd (cc)
    accounted-at from zero (Some first ∷ rest) named worker below at =
        let name = first-named from first rest named in
        let same : is_same ((from + 0) ∷ []) (known first.lane.pass).name ≡ true =
        names-same ((from + 0) ∷ []) (known first.lane.pass).name
        (ap (λ (n : ℕ). n ∷ []) (plain from) ∙ sym name) in
        rw same (ap (λ (w : Worker D L). (known w.lane.pass).calls)
        (same-some first worker (Some first) refl at))
      where
        plain : (a : ℕ) → a + 0 ≡ a
        plain a = omega arith
    accounted-at from (suc k) (Some first ∷ rest) named worker below at =
        let name = first-named from first rest named in
        let apart : is_same ((from + suc k) ∷ []) (known first.lane.pass).name ≡ false =
        names-differ ((from + suc k) ∷ []) (known first.lane.pass).name
        (λ is. one-differs (from + suc k) from (λ same. omega (arith, same)) (is ∙ name)) in
        rw apart (ap (λ (n : ℕ). accounted (n ∷ []) (each_of account_of rest ++ more))
        (shift from k)
        ∙ accounted-at (suc from) k rest (tail-named from (Some first) rest named) worker
        (omega (arith, below)) at)
      where
        shift : (a b : ℕ) → a + suc b ≡ suc a + b
        shift a b = omega arith

  -- What the first pass knows once all were joined into it, the conversion's worker behind the
  -- others, and itself made no call.
  pub record IsJoined (v : Knowing Context) (workers : List (Option (Worker D L)))
      (led : Option (Led D)) : Type 0 where
    pub name : v.name ≡ []
    pub calls : v.calls ≡ []
    pub joined : v.joined ≡ each_of account_of workers ++ accounts_of led

  joined-calls : (v : Knowing Context) (workers : List (Option (Worker D L))) (led : Option (Led D))
      (lane : ℕ) → IsJoined v workers led
      → calls_on lane v ≡ accounted (lane ∷ []) (each_of account_of workers ++ accounts_of led)
  unfolding accounted
  joined-calls v workers led lane is =
      let apart : is_same (lane ∷ []) v.name ≡ false =
      names-differ (lane ∷ []) v.name (λ same. some-none (same ∙ is.name)) in
      rw apart (ap (λ joined. accounted (lane ∷ []) joined) is.joined)
    where
      some-none : (lane ∷ []) ≡ [] → ⊥
      some-none same = absurd (cc)

  pub calls-at : (v : Knowing Context) (workers : List (Option (Worker D L))) (led : Option (Led D))
      (k : ℕ) (worker : Worker D L) → IsJoined v workers led → AreNamed 0 workers
      → k < length workers → slice_index_or workers k None ≡ Some worker
      → calls_on k v ≡ (known worker.lane.pass).calls
  calls-at v workers led k worker is named below at =
      joined-calls v workers led k is
      ∙ subst (λ (n : ℕ). accounted (n ∷ []) (each_of account_of workers ++ accounts_of led)
      ≡ (known worker.lane.pass).calls) (plain k)
      (accounted-at (accounts_of led) 0 k workers named worker below at)
    where
      plain : (n : ℕ) → 0 + n ≡ n
      plain n = omega arith

  -- on a lane behind those of the links there are the calls of the conversion's worker alone
  calls-beyond : (v : Knowing Context) (workers : List (Option (Worker D L))) (led : Option (Led D))
      (lane : ℕ) → IsJoined v workers led → AreNamed 0 workers → length workers ≤ lane
      → calls_on lane v ≡ accounted (lane ∷ []) (accounts_of led)
  calls-beyond v workers led lane is named beyond =
      joined-calls v workers led lane is
      ∙ accounted-none (accounts_of led) 0 lane workers named (λ below. omega (arith, below))
      (omega (arith, beyond))

  pub calls-led : (v : Knowing Context) (workers : List (Option (Worker D L))) (led : Led D)
      (lane : ℕ) → IsJoined v workers (Some led) → AreNamed 0 workers → length workers ≤ lane
      → (known led.pass).name ≡ lane ∷ [] → calls_on lane v ≡ (known led.pass).calls
  unfolding accounted
  calls-led v workers led lane is named beyond name =
      calls-beyond v workers (Some led) lane is named beyond
      ∙ (let same : is_same (lane ∷ []) (known led.pass).name ≡ true =
      names-same (lane ∷ []) (known led.pass).name (sym name) in rw same refl)

  pub calls-other : (v : Knowing Context) (workers : List (Option (Worker D L))) (led : Led D)
      (number lane : ℕ) → IsJoined v workers (Some led) → AreNamed 0 workers
      → length workers ≤ lane → (known led.pass).name ≡ number ∷ [] → lane ≢ number
      → calls_on lane v ≡ []
  unfolding accounted
  calls-other v workers led number lane is named beyond name differ =
      calls-beyond v workers (Some led) lane is named beyond
      ∙ (let apart : is_same (lane ∷ []) (known led.pass).name ≡ false =
      names-differ (lane ∷ []) (known led.pass).name
      (λ same. one-differs lane number differ (same ∙ name)) in rw apart refl)

  pub calls-none : (v : Knowing Context) (workers : List (Option (Worker D L))) (lane : ℕ)
      → IsJoined v workers None → AreNamed 0 workers → length workers ≤ lane → calls_on lane v ≡ []
  unfolding accounted
  calls-none v workers lane is named beyond = calls-beyond v workers None lane is named beyond
