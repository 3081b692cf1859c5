-- How the line that is printed bears on a command's cause.
use Rattle.std.specs.Prelude.{ℕ, ◌≡◌, ◌⊎◌}
use Rattle.base_terms.specs.Causes.{Rose}
use Rattle.reenc_tool.specs.declared.ended.Cause.{Cause}
use Rattle.reenc_tool.specs.declared.ended.Cause.TheVariants.{Fine, Output, Memory}

-- The cause stays, but where all was fine and the line could not be put, whose cause has the
-- output's count of faults after it, or memory was wanted for it. All stays fine only where putting
-- the line met no fault.
abbrev pub EndsAs : Cause → ℕ → ℕ → Cause → Type 0
EndsAs cause before now result =
    ((result ≡ cause) × (cause ≡ Fine → now ≡ before))
    ⊎ ((cause ≡ Fine) × ((result ≡ Memory) ⊎ ((result ≡ Output now) × Rose before now)))
