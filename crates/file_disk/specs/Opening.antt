-- How a file is opened, locked and measured, and how it is opened to be read alone.
use Rattle.std.specs.Prelude.{ℕ, ◌⊎◌, Bool, Result, Ok, Err, MatchResult}
use Rattle.std.specs.declared.io.Error.{Error}

-- The file was opened, locked, found to be in no use, and measured, in this order; or the first of
-- these steps that was refused said why, and none came behind it. Opening, locking and measuring are
-- one call of the system each.
unfoldable pub OpensLocked : {F : Type 0} → (Result F Error → Type 0) →
    (F → Result (Unit {0}) Error → F → Type 0) → (F → Result (Unit {0}) Error → Type 0) →
    (F → Result ℕ Error → F → Type 0) → Result (F × ℕ) Error → Type 0
OpensLocked {F} opens locks checks measures result = MatchResult result
    (λ opened. (file locked : F) × opens (Ok file) × locks file (Ok tt) locked
    × checks locked (Ok tt) × measures locked (Ok opened.1) opened.0)
    (λ error. opens (Err error)
    ⊎ ((file left : F) × opens (Ok file) × locks file (Err error) left)
    ⊎ ((file locked : F) × opens (Ok file) × locks file (Ok tt) locked
    × checks locked (Err error))
    ⊎ ((file locked left : F) × opens (Ok file) × locks file (Ok tt) locked
    × checks locked (Ok tt) × measures locked (Err error) left))

-- The file was opened to be read alone, and measured, each by one call of the system; or the first
-- of these calls that the system refused said why, and none came behind it.
unfoldable pub OpensToRead : {F : Type 0} → (Result F Error → Type 0) →
    (F → Result ℕ Error → F → Type 0) → Result (F × ℕ) Error → Type 0
OpensToRead {F} opens measures result = MatchResult result
    (λ opened. (file : F) × opens (Ok file) × measures file (Ok opened.1) opened.0)
    (λ error. opens (Err error)
    ⊎ ((file left : F) × opens (Ok file) × measures file (Err error) left))
