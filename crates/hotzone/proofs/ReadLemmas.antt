-- A worker behind a call that has to do with its buffer alone.
use Rattle.std.proofs.Common.{◌≡◌, ◌∙◌, ℕ, length, Some, ap}
use Rattle.hotzone.specs.Steps.{HasRead, IsStopped, after_write}
use Rattle.hotzone.specs.declared.site.Site.{Site}
use Rattle.hotzone.specs.declared.worker.Halt.{Halt}
use Rattle.hotzone.specs.declared.worker.Headers.{Headers}
use Rattle.hotzone.specs.declared.worker.NextCall.{NextCall}
use Rattle.hotzone.specs.declared.worker.Worker.{Worker}

module _ {C : Type 0} (before after : Worker C) (call : NextCall)
    (is : after ≡ record before { buffer = after.buffer })
    (long : length after.buffer ≡ length before.buffer) where
  pub has-read : (next : NextCall)
      → HasRead (record before { next = call }) (record after { next = next }) next
  has-read next = record { is = ap (λ (w : Worker C). record w { next = next }) is; long = long }

  pub has-stopped : (next : NextCall) (halt : Halt)
      → IsStopped (record before { next = call })
      (record after { next = next; halted = Some halt }) next halt
  has-stopped next halt = record {
    is = ap (λ (w : Worker C). record w { next = next; halted = Some halt }) is;
    long = long;
  }

  -- behind a part that was written
  pub has-written : (next : NextCall) (done : ℕ) (headers : Headers)
      → next ≡ after_write after.site done headers
      → HasRead (record before { next = call }) (record after { next = next })
      (after_write before.site done headers)
  has-written next done headers then =
      let site : after.site ≡ before.site = ap (λ (w : Worker C). w.site) is in
      let same : next ≡ after_write before.site done headers =
      then ∙ ap (λ (s : Site). after_write s done headers) site in
      record {
        is = ap (λ (n : NextCall). record after { next = n }) same
            ∙ ap (λ (w : Worker C). record w { next = after_write before.site done headers }) is;
        long = long;
      }

-- one that is halted behind a call
pub halted-by : {C : Type 0} (after before : Worker C) (halt : Halt) → after ≡ before
    → record after { halted = Some halt } ≡ record before { halted = Some halt }
halted-by {C} after before halt is = ap (λ (w : Worker C). record w { halted = Some halt }) is
