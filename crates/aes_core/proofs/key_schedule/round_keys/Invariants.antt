use Rattle.std.proofs.Common.{◌≡◌, ◌<◌, ℕ, length}
use Rattle.aes_core.specs.KeySchedule.{round_key}
use Rattle.aes_core.specs.Planes.{state_in}
use Rattle.aes_core.specs.RoundKeys.{planes_at, key_at}
use Rattle.aes_core.proofs.key_schedule.round_keys.Given as goal

-- the keys so far are made of the words, and the same for each block
abbrev pub invariant-loop-round : goal.invariant-loop-round
invariant-loop-round l = record {
  long : length l.keys ≡ 15;
  keys : (r : ℕ) → r < l.round → key_at l.keys r ≡ round_key l.words r;
  alike : (r : ℕ) → r < l.round → (k : ℕ) → k < 8
      → state_in k (planes_at l.keys r) ≡ state_in 0 (planes_at l.keys r);
}
