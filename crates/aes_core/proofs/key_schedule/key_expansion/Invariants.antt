use Rattle.std.proofs.Common.{◌≡◌, length, take}
use Rattle.aes_core.specs.KeySchedule.{key_expansion}
use Rattle.aes_core.proofs.key_schedule.key_expansion.Given as goal

-- the words so far are the schedule's
abbrev pub invariant-loop-i : goal.invariant-loop-i
invariant-loop-i l = record {
  long : length l.words ≡ 60;
  words : take l.i l.words ≡ key_expansion l.key l.i;
}
