-- Calls of a stream of the system, one after the other.
use Rattle.std.specs.Prelude.{ℕ, zero, suc, ◌≡◌, ◌≢◌, ◌-◌, ◌^◌, ◌≤◌, ◌⊎◌, List, [], ◌∷◌, ◌++◌}
use Rattle.std.specs.Prelude.{length, take, Bool, true, false, Result, Ok, Err, IsErrAnd}
use Rattle.std.specs.Prelude.{MatchResult, MatchBool}
use Rattle.std.specs.IoError.{error_kind}
use Rattle.std.specs.declared.io.Error.{Error}
use Rattle.std.specs.declared.io.ErrorKind.{ErrorKind}
use Rattle.std.specs.declared.io.ErrorKind.TheVariants.{Interrupted}

-- a signal interrupted the call
abbrev pub IsInterrupted : {T : Type 0} → Result T Error → Type 0
IsInterrupted answer = IsErrAnd answer (λ error. error_kind error ≡ Interrupted)

-- one write: the piece, and what the stream answered
pub record Written : Type 0 where
  pub piece : List ℕ
  pub answer : Result ℕ Error

-- what the stream took of a piece
abbrev pub taken_of : List ℕ → Result ℕ Error → List ℕ
taken_of piece (Ok n) = take n piece
taken_of piece (Err error) = []

-- what it took by these writes, the last one first
unfoldable pub bytes_of : List Written → List ℕ
bytes_of [] = []
bytes_of (call ∷ earlier) = bytes_of earlier ++ taken_of call.piece call.answer

-- a write that takes nothing of what there is, or fails for another reason than a signal
abbrev pub IsRefusal : Written → Type 0
IsRefusal call =
    (call.answer ≡ Ok 0) ⊎ IsErrAnd call.answer (λ error. error_kind error ≢ Interrupted)

-- the last of these writes was refused, or there were too many
unfoldable pub IsRefused : List Written → Type 0
IsRefused [] = ⊥
IsRefused (call ∷ earlier) = IsRefusal call ⊎ (2 ^ 64 - 1 ≤ length (call ∷ earlier))

-- Of a stream whose reads do so much, from the stream before a read, by the buffer after it and the
-- answer, to the stream after it:
module _ {S : Type 0} (reads : S → List ℕ → Result ℕ Error → S → Type 0) where
  -- so many reads, all of which a signal interrupted
  unfoldable pub ReadsInVain : ℕ → S → S → Type 0
  ReadsInVain zero old new = new ≡ old
  ReadsInVain (suc n) old new = (mid : S) × ReadsInVain n old mid
      × ((buf : List ℕ) × (answer : Result ℕ Error) × IsInterrupted answer
      × reads mid buf answer new)

  -- it was read until no signal interrupted it, up to `2 ^ 64` times; this is the last answer, and
  -- what the buffer held then
  unfoldable pub ReadsOn : S → List ℕ → Result ℕ Error → S → Type 0
  ReadsOn old buf answer new = (times : ℕ) × (mid : S) × ReadsInVain times old mid
      × reads mid buf answer new × (IsInterrupted answer → times ≡ 2 ^ 64 - 1)

-- Of a stream whose writes do so much, by the piece and the answer:
module _ {S : Type 0} (writes : S → List ℕ → Result ℕ Error → S → Type 0) where
  -- these writes were made, the last one first
  unfoldable pub Wrote : S → List Written → S → Type 0
  Wrote old [] new = new ≡ old
  Wrote old (call ∷ earlier) new =
      (mid : S) × Wrote old earlier mid × writes mid call.piece call.answer new

  -- of what was held back and the piece behind it one write took a front, with n bytes of the
  -- piece, or nothing, where it was refused
  unfoldable pub WritesSome : S → List ℕ → List ℕ → Result ℕ ErrorKind → S → List ℕ → Type 0
  WritesSome old old_held piece result new held = (answer : Result ℕ Error)
      × writes old (old_held ++ piece) answer new
      × MatchResult result
      (λ n. old_held ++ take n piece ≡ taken_of (old_held ++ piece) answer ++ held)
      (λ _. (old_held ++ [] ≡ taken_of (old_held ++ piece) answer ++ held)
      × IsRefusal (record { piece = old_held ++ piece; answer = answer }))

  -- what was held back and a front of a piece behind it were written, but for what is held back
  -- now; the whole piece was, or a write was refused
  unfoldable pub WritesThrough : S → List ℕ → List ℕ → Bool → S → List ℕ → Type 0
  WritesThrough old old_held piece done new held = (calls : List Written) × Wrote old calls new
      × ((k : ℕ) × (k ≤ length piece) × (old_held ++ take k piece ≡ bytes_of calls ++ held)
      × MatchBool done (k ≡ length piece) (IsRefused calls))

  -- what was held back was written, and then the stream was flushed, where no write was refused
  unfoldable pub FlushesThrough : (S → Bool → S → Type 0) → S → List ℕ → Bool → S → List ℕ → Type 0
  FlushesThrough flushes old old_held done new held =
      ((mid : S) × WritesThrough old old_held [] true mid held × (held ≡ []) × flushes mid done new)
      ⊎ ((done ≡ false) × WritesThrough old old_held [] false new held)
