-- What writes took of what was held back and of a piece behind it.
use Rattle.std.proofs.Common.{◌≡◌, ◌∙◌, ℕ, ◌+◌, ◌-◌, ◌≤◌, Bool, true, false, List, [], ◌∷◌, ◌++◌}
use Rattle.std.proofs.Common.{length, take, drop, is_ok, ◌^◌, inl, inr, nat_le, Result, Ok, Err}
use Rattle.std.proofs.Common.{refl, sym, ap, subst, append-nil, append_assoc, arith}
use Rattle.std.proofs.lemmas.Bool.{leb-true, leb-false}
use Rattle.std.proofs.lemmas.List.{drop_all, take_all, length-drop, take-append-le}
use Rattle.std.proofs.lemmas.List.{take-append-drop}
use Rattle.std.proofs.Math.Seq.{take-add, take-append-add}
use Rattle.std.specs.declared.io.Error.{Error}
use Rattle.std.specs.declared.io.ErrorKind.{ErrorKind}
use Rattle.io_edge.specs.Outlet.{HoldsBackRear, IsRear}
use Rattle.io_edge.specs.Calls.{Written, Wrote, bytes_of, taken_of, IsRefusal, IsRefused}
use Rattle.io_edge.specs.Calls.{WritesSome, WritesThrough, FlushesThrough}

-- what stands of two texts behind their first n bytes, as far as the first one reaches
pub front_and_rest : (n : ℕ) (held behind : List ℕ) →
    held ++ take (n - length held) behind ≡ take n (held ++ behind) ++ drop n held
front_and_rest n held behind = by_length (nat_le n (length held)) refl
  where
    by_length : (b : Bool) → nat_le n (length held) ≡ b →
        held ++ take (n - length held) behind ≡ take n (held ++ behind) ++ drop n held
    by_length true is =
        let within : n ≤ length held = leb-true n (length held) is in
        let none : n - length held ≡ 0 = omega (arith, within) in
        ap (λ m. held ++ take m behind) none ∙ append-nil held ∙ sym (take-append-drop n held)
        ∙ ap (λ front. front ++ drop n held) (sym (take-append-le n held behind within))
    by_length false is =
        let beyond : length held ≤ n = omega (arith, leb-false n (length held) is) in
        let all : length held + (n - length held) ≡ n = omega (arith, beyond) in
        sym (take-append-add held behind (n - length held))
        ∙ ap (λ m. take m (held ++ behind)) all ∙ sym (append-nil (take n (held ++ behind)))
        ∙ ap (λ rest. take n (held ++ behind) ++ rest) (sym (drop_all n held beyond))

-- one more write took n bytes of the rest of the piece
pub bytes_more : (old held left piece : List ℕ) (calls : List Written) (at n : ℕ)
    (answer : Result ℕ Error) → old ++ take at piece ≡ bytes_of calls ++ held →
    held ++ take n (drop at piece) ≡ taken_of (held ++ drop at piece) answer ++ left →
    old ++ take (at + n) piece
    ≡ bytes_of (record { piece = held ++ drop at piece; answer = answer } ∷ calls) ++ left
unfolding bytes_of
bytes_more old held left piece calls at n answer before more =
    ap (λ x. old ++ x) (take-add at n piece)
    ∙ sym (append_assoc old (take at piece) (take n (drop at piece)))
    ∙ ap (λ x. x ++ take n (drop at piece)) before
    ∙ append_assoc (bytes_of calls) held (take n (drop at piece))
    ∙ ap (λ x. bytes_of calls ++ x) more
    ∙ sym (append_assoc (bytes_of calls) (taken_of (held ++ drop at piece) answer) left)

-- a write that was refused took nothing
pub nothing_taken : (piece : List ℕ) (answer : Result ℕ Error) →
    IsRefusal (record { piece = piece; answer = answer }) → taken_of piece answer ≡ []
nothing_taken piece (Err error) refused = refl
nothing_taken piece (Ok n) (inl none) = cc
nothing_taken piece (Ok n) (inr never) = absurd never

-- what stands behind a place is taken whole
rest_whole : (at : ℕ) (piece : List ℕ) → take (length piece - at) (drop at piece) ≡ drop at piece
rest_whole at piece =
    take_all (length piece - at) (drop at piece) (omega (arith, length-drop at piece))

-- a front of what stands behind a place ends within the piece
pub more_within : (at n : ℕ) (piece : List ℕ) → at ≤ length piece →
    n ≤ length (take (length piece - at) (drop at piece)) → at + n ≤ length piece
more_within at n piece within front =
    let inside : n ≤ length (drop at piece) =
    subst (λ rest. n ≤ length rest) (rest_whole at piece) front in
    omega (arith, within, inside, length-drop at piece)

-- too many writes
pub refused_after : (calls : List Written) → 2 ^ 64 - 1 ≤ length calls → IsRefused calls
unfolding IsRefused
refused_after [] many = absurd (omega (arith, many))
refused_after (call ∷ earlier) many = inr many

module _ {S : Type 0} (writes : S → List ℕ → Result ℕ Error → S → Type 0) where
  -- one write that a signal interrupted
  pub some_interrupted : (old new : S) (slice held piece : List ℕ) (error : Error) →
      slice ≡ held → writes old (slice ++ piece) (Err error) new →
      WritesSome writes old held piece (Ok 0) new held
  unfolding WritesSome
  some_interrupted old new slice held piece error same wrote =
      let call = subst (λ front. writes old (front ++ piece) (Err error) new) same wrote in
      (Err error, call, append-nil held)

  -- one write that was refused
  pub some_refused : (old new : S) (slice held piece : List ℕ) (answer : Result ℕ Error)
      (said : ErrorKind) → slice ≡ held → writes old (slice ++ piece) answer new →
      IsRefusal (record { piece = held ++ piece; answer = answer }) →
      taken_of (held ++ piece) answer ≡ [] → WritesSome writes old held piece (Err said) new held
  unfolding WritesSome
  some_refused old new slice held piece answer said same wrote refused none =
      let call = subst (λ front. writes old (front ++ piece) answer new) same wrote in
      (answer, call, (append-nil held ∙ ap (λ taken. taken ++ held) (sym none), refused))

  -- one write that took n bytes
  pub some_written : (old new : S) (slice held left piece : List ℕ) (n more : ℕ) →
      slice ≡ held → writes old (slice ++ piece) (Ok n) new → more ≡ n - length held →
      left ≡ drop n held → WritesSome writes old held piece (Ok more) new left
  unfolding WritesSome
  some_written old new slice held left piece n more same wrote more_is left_is =
      let call = subst (λ front. writes old (front ++ piece) (Ok n) new) same wrote in
      rw (more_is, left_is) (Ok n, call, front_and_rest n held piece)

  -- writes took what was held back and so many bytes of the piece, but for what is held back now
  unfoldable pub HasWritten : S → List ℕ → List ℕ → ℕ → ℕ → S → List ℕ → Type 0
  HasWritten old old_held piece at count new held = (calls : List Written)
      × Wrote writes old calls new × (old_held ++ take at piece ≡ bytes_of calls ++ held)
      × (count ≤ length calls)

  -- no write was made
  pub none_written : (old : S) (held piece : List ℕ) → HasWritten old held piece 0 0 old held
  unfolding HasWritten Wrote bytes_of
  none_written old held piece = ([], refl, append-nil held, omega arith)

  -- one more write
  pub more_written : (old mid new : S) (old_held held left piece : List ℕ) (at count n : ℕ) →
      HasWritten old old_held piece at count mid held →
      WritesSome writes mid held (take (length piece - at) (drop at piece)) (Ok n) new left →
      HasWritten old old_held piece (at + n) (count + 1) new left
  unfolding HasWritten Wrote WritesSome
  more_written old mid new old_held held left piece at count n (calls, wrote, bytes, many) some =
      let (answer, call, left_is) =
      subst (λ rest. WritesSome writes mid held rest (Ok n) new left) (rest_whole at piece)
      some in (
        record { piece = held ++ drop at piece; answer = answer } ∷ calls,
        (mid, wrote, call),
        bytes_more old_held held left piece calls at n answer bytes left_is,
        omega (arith, many),
      )

  -- all was written
  pub through_all : (old new : S) (old_held held piece : List ℕ) (at count : ℕ) →
      HasWritten old old_held piece at count new held → at ≡ length piece →
      WritesThrough writes old old_held piece true new held
  unfolding HasWritten WritesThrough
  through_all old new old_held held piece at count (calls, wrote, bytes, many) end =
      (calls, wrote, (at, omega (arith, end), bytes, end))

  -- the write behind those before was refused
  pub through_refused : (old mid new : S) (old_held held left piece : List ℕ) (at count : ℕ)
      (said : ErrorKind) → HasWritten old old_held piece at count mid held → at ≤ length piece →
      WritesSome writes mid held (take (length piece - at) (drop at piece)) (Err said) new left →
      WritesThrough writes old old_held piece false new left
  unfolding HasWritten WritesThrough WritesSome Wrote IsRefused
  through_refused old mid new old_held held left piece at count said
      (calls, wrote, bytes, many) within some =
      let (answer, call, (left_is, refused)) =
      subst (λ rest. WritesSome writes mid held rest (Err said) new left) (rest_whole at piece) some
      in
      let all = ap (λ k. old_held ++ take k piece) (omega arith)
      ∙ bytes_more old_held held left piece calls at 0 answer bytes left_is in (
        record { piece = held ++ drop at piece; answer = answer } ∷ calls,
        (mid, wrote, call),
        (at, within, all, inl refused),
      )

  -- so many writes were made that no more is tried
  pub through_tired : (old new : S) (old_held held piece : List ℕ) (at count : ℕ) →
      HasWritten old old_held piece at count new held → at ≤ length piece → 2 ^ 64 - 1 ≤ count →
      WritesThrough writes old old_held piece false new held
  unfolding HasWritten WritesThrough
  through_tired old new old_held held piece at count (calls, wrote, bytes, many) within tired =
      (calls, wrote, (at, within, bytes, refused_after calls (omega (arith, many, tired))))

  -- a piece that is held back behind what was
  pub through_held : (old : S) (old_held held piece : List ℕ) → held ≡ old_held ++ piece →
      WritesThrough writes old old_held piece true old held
  unfolding WritesThrough Wrote bytes_of
  through_held old old_held held piece held_is =
      let whole = ap (λ x. old_held ++ x) (take_all (length piece) piece (omega arith)) in
      ([], refl, (length piece, omega arith, whole ∙ sym held_is, refl))

  -- nothing but a rear of what was held back and of the piece is held back
  pub through_holds : {T E : Type 0} (old new : S) (old_held held piece : List ℕ)
      (result : Result T E) → WritesThrough writes old old_held piece (is_ok result) new held →
      HoldsBackRear old_held held piece result
  unfolding WritesThrough
  through_holds old new old_held held piece (Ok value)
      (calls, wrote, (k, within, bytes, all)) =
      let whole = sym (take_all k piece (omega (arith, all))) in
      (bytes_of calls, ap (λ x. old_held ++ x) whole ∙ bytes)
  through_holds old new old_held held piece (Err error)
      (calls, wrote, (k, within, bytes, refused)) = (k, within, (bytes_of calls, bytes))

  -- where nothing was to be written but what was held back, a rear of it is held back
  pub through_rear : (old new : S) (old_held held : List ℕ) (done : Bool) →
      WritesThrough writes old old_held [] done new held → IsRear held old_held
  unfolding WritesThrough
  through_rear old new old_held held done (calls, wrote, (k, within, bytes, how)) =
      let none = sym (take_all k [] (omega arith)) in
      (bytes_of calls, sym (append-nil old_held) ∙ ap (λ x. old_held ++ x) none ∙ bytes)

  -- all that was held back was written, and then a flush was answered, whose outcome alone is told
  pub flushed : (flushes : S → Bool → S → Type 0) (old mid new : S) (old_held held : List ℕ)
      (done told : Bool) → WritesThrough writes old old_held [] true mid held → held ≡ [] →
      flushes mid done new → told ≡ done →
      FlushesThrough writes flushes old old_held told new held
  unfolding FlushesThrough
  flushed flushes old mid new old_held held done told through none call same =
      inl (mid, through, none, subst (λ how. flushes mid how new) (sym same) call)

  -- nothing was held back
  pub flushed_at_once : (flushes : S → Bool → S → Type 0) (old new : S) (held : List ℕ)
      (done told : Bool) → held ≡ [] → flushes old done new → told ≡ done →
      FlushesThrough writes flushes old held told new held
  flushed_at_once flushes old new held done told none call same =
      let nothing = through_held old held held [] (sym (append-nil held)) in
      flushed flushes old old new held held done told nothing none call same
