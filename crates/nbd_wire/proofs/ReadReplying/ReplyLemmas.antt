-- The chunks of the reply to a READ: what they spell.
use Rattle.std.proofs.Common.{◌≡◌, ℕ, zero, suc, ◌+◌, ◌-◌, ◌*◌, ◌/◌, ◌^◌, ◌<◌, ◌≤◌, Bool, true}
use Rattle.std.proofs.Common.{false, List, [], ◌∷◌, ◌++◌, length, map, take, drop, ap, ◌∙◌, refl}
use Rattle.std.proofs.Common.{sym, subst}
use Rattle.std.proofs.lemmas.Bool.{eqb-true, eqb-false}
use Rattle.std.proofs.Common.{◌⊎◌, ◌≢◌, ◌==◌, take_all, arith, inl, inr, append-nil}
use Rattle.std.proofs.Common.{length-drop, length-take-le, take-append-drop}
use native.Mathlib.Nat.{suc-mul}
use Rattle.nbd_wire.specs.ReadReplying.Parts.{Held, Part, nothing, bytes_at, failed, failed_at, AreHeld}
use Rattle.nbd_wire.specs.ReadReplying.Parts.{bytes_of}
use Rattle.nbd_wire.specs.ReadReplying.Replies.{Answer, Covers, Hold, IsDoneOnce, Spell, content, error}
use Rattle.nbd_wire.specs.ReadReplying.Replies.{error_at, IsAnswer, parts_of, parts_before, chunks_of}

done-more : (part : Part) (parts : List Part) → part.done ≡ false → IsDoneOnce parts
    → IsDoneOnce (part ∷ parts)
unfolding IsDoneOnce
done-more part [] more once = absurd once
done-more part (next ∷ parts) more once = (more, once)

parts-done : (n most offset : ℕ) (bytes : List ℕ) → IsDoneOnce (parts_of n most offset bytes)
unfolding IsDoneOnce parts_of
parts-done zero most offset bytes = refl
parts-done (suc n) most offset bytes =
    done-more (record { done = false; held = bytes_at offset (take most bytes) })
    (parts_of n most (offset + most) (drop most bytes)) refl
    (parts-done n most (offset + most) (drop most bytes))

parts-cover : (n most offset : ℕ) (bytes : List ℕ) → 0 < most → n * most < length bytes
    → Covers offset bytes (map (λ part. part.held) (parts_of n most offset bytes))
unfolding Covers parts_of
parts-cover zero most offset bytes some fewer =
    (bytes, [], sym (append-nil bytes), omega (arith, fewer), refl, refl)
parts-cover (suc n) most offset bytes some fewer =
    let whole : n * most + most < length bytes =
    subst (λ (k : ℕ). k < length bytes) (suc-mul n most) fewer in
    let size = length-take-le most bytes (omega (arith, whole)) in
    let rest : n * most < length (drop most bytes) =
    simp length-drop (omega (arith, whole)) in
    let behind = parts-cover n most (offset + most) (drop most bytes) some rest in (
      take most bytes,
      drop most bytes,
      sym (take-append-drop most bytes),
      omega (arith, size, some),
      refl,
      subst
          (λ (k : ℕ). Covers (offset + k) (drop most bytes)
          (map (λ part. part.held) (parts_of n most (offset + most) (drop most bytes)))) (sym size)
          behind,
    )

parts-held : (n most offset : ℕ) (bytes : List ℕ) → n * most < length bytes
    → offset + length bytes < 2 ^ 64 → 8 + length bytes < 2 ^ 32
    → AreHeld (parts_of n most offset bytes)
unfolding AreHeld parts_of
parts-held zero most offset bytes fewer ends size = ((omega (arith, ends), size), tt)
parts-held (suc n) most offset bytes fewer ends size =
    let whole : n * most + most < length bytes =
    subst (λ (k : ℕ). k < length bytes) (suc-mul n most) fewer in
    let front = length-take-le most bytes (omega (arith, whole)) in
    let left : length (drop most bytes) ≡ length bytes - most = length-drop most bytes in (
      (omega (arith, ends), omega (arith, front, whole, size)),
      parts-held n most (offset + most) (drop most bytes) (omega (arith, left, whole))
          (omega (arith, left, whole, ends)) (omega (arith, left, size)),
    )

before-fewer : (whole : Bool) (len : ℕ) → 0 < len → parts_before whole len * 2 ^ 20 < len
before-fewer true len some = omega (arith, some)
before-fewer false len some = omega (arith, some)

-- the chunks of an answer spell it
pub chunks-spell : (whole : Bool) (offset : ℕ) (answer : Answer)
    → Spell offset (chunks_of whole offset answer) answer
unfolding chunks_of IsDoneOnce
chunks-spell whole offset (content []) = record { done = refl; hold = inl (refl, refl) }
chunks-spell whole offset (content (byte ∷ bytes)) =
    let some : 0 < length (byte ∷ bytes) = omega arith in
    record {
      done = parts-done (parts_before whole (length (byte ∷ bytes))) (2 ^ 20) offset (byte ∷ bytes);
      hold = inr (
        some,
        parts-cover (parts_before whole (length (byte ∷ bytes))) (2 ^ 20) offset (byte ∷ bytes)
            (omega arith) (before-fewer whole (length (byte ∷ bytes)) some),
      );
    }
chunks-spell whole offset (error number) = record { done = refl; hold = refl }
chunks-spell whole offset (error_at number at) = record { done = refl; hold = refl }

-- and their numbers are in their ranges where those of the answer are
pub chunks-held : (whole : Bool) (offset : ℕ) (answer : Answer) → IsAnswer offset answer
    → AreHeld (chunks_of whole offset answer)
unfolding chunks_of AreHeld
chunks-held whole offset (content []) is = (tt, tt)
chunks-held whole offset (content (byte ∷ bytes)) is =
    parts-held (parts_before whole (length (byte ∷ bytes))) (2 ^ 20) offset (byte ∷ bytes)
    (before-fewer whole (length (byte ∷ bytes)) (omega arith)) is.0 is.1
chunks-held whole offset (error number) is = (is, tt)
chunks-held whole offset (error_at number at) is = (is, tt)

-- the bytes that these hold, and the answer that they are
bytes_in : List Held → List ℕ
bytes_in [] = []
bytes_in (held ∷ helds) = bytes_of held ++ bytes_in helds

answer_in : List Held → Answer
answer_in [] = content []
answer_in (nothing ∷ helds) = content []
answer_in (bytes_at offset bytes ∷ helds) = content (bytes ++ bytes_in helds)
answer_in (failed number ∷ helds) = error number
answer_in (failed_at number at ∷ helds) = error_at number at

covers-bytes : (helds : List Held) (offset : ℕ) (bytes : List ℕ) → Covers offset bytes helds
    → bytes ≡ bytes_in helds
unfolding Covers bytes_in
covers-bytes [] offset bytes covers = covers
covers-bytes (held ∷ helds) offset bytes covers =
    covers.2
    ∙ ap (λ r. covers.0 ++ r)
    (covers-bytes helds (offset + length covers.0) covers.1 covers.5)
    ∙ ap (λ (h : Held). bytes_of h ++ bytes_in helds) (sym covers.4)

covers-answer : (helds : List Held) (offset : ℕ) (bytes : List ℕ) → Covers offset bytes helds
    → content bytes ≡ answer_in helds
unfolding Covers answer_in
covers-answer [] offset bytes covers = ap content covers
covers-answer (held ∷ helds) offset bytes covers =
    ap content
    (covers.2
    ∙ ap (λ r. covers.0 ++ r)
    (covers-bytes helds (offset + length covers.0) covers.1 covers.5))
    ∙ ap (λ (h : Held). answer_in (h ∷ helds)) (sym covers.4)

hold-answer : (offset : ℕ) (helds : List Held) (answer : Answer) → Hold offset helds answer
    → answer ≡ answer_in helds
unfolding answer_in
hold-answer offset helds (content bytes) (inl none) = ap content none.0 ∙ ap answer_in (sym none.1)
hold-answer offset helds (content bytes) (inr some) = covers-answer helds offset bytes some.1
hold-answer offset helds (error number) hold = ap answer_in (sym hold)
hold-answer offset helds (error_at number at) hold = ap answer_in (sym hold)

-- chunks spell one answer
pub spell-once : (offset : ℕ) (parts : List Part) (a b : Answer) → Spell offset parts a
    → Spell offset parts b → a ≡ b
spell-once offset parts a b sa sb =
    hold-answer offset _ a sa.hold ∙ sym (hold-answer offset _ b sb.hold)

-- the chunks of some bytes, by their length
content-parts : (whole : Bool) (offset : ℕ) (bytes : List ℕ) → 0 < length bytes
    → chunks_of whole offset (content bytes)
    ≡ parts_of (parts_before whole (length bytes)) (2 ^ 20) offset bytes
unfolding chunks_of
content-parts whole offset [] some = absurd (omega (arith, some))
content-parts whole offset (byte ∷ bytes) some = refl

before-none : (whole : Bool) (len : ℕ) → (whole ≡ true) ⊎ (len ≤ 2 ^ 20)
    → parts_before whole len ≡ 0
before-none true len one = refl
before-none false len (inl one) = absurd cc
before-none false len (inr one) = omega (arith, one)

-- all bytes in one chunk
pub one-chunk : (whole : Bool) (offset : ℕ) (bytes : List ℕ) → 0 < length bytes
    → (whole ≡ true) ⊎ (length bytes ≤ 2 ^ 20)
    → chunks_of whole offset (content bytes)
    ≡ record { done = true; held = bytes_at offset bytes } ∷ []
unfolding parts_of
one-chunk whole offset bytes some one =
    content-parts whole offset bytes some
    ∙ ap (λ n. parts_of n (2 ^ 20) offset bytes) (before-none whole (length bytes) one)

-- an error in one chunk
pub error-chunk : (whole : Bool) (offset number : ℕ)
    → chunks_of whole offset (error number) ≡ record { done = true; held = failed number } ∷ []
unfolding chunks_of
error-chunk whole offset number = refl

pub error_at-chunk : (whole : Bool) (offset number at : ℕ)
    → chunks_of whole offset (error_at number at)
    ≡ record { done = true; held = failed_at number at } ∷ []
unfolding chunks_of
error_at-chunk whole offset number at = refl

-- no byte in one chunk
pub no-chunk : (whole : Bool) (offset : ℕ) (bytes : List ℕ) → length bytes ≡ 0
    → chunks_of whole offset (content bytes) ≡ record { done = true; held = nothing } ∷ []
unfolding chunks_of
no-chunk whole offset [] none = refl
no-chunk whole offset (byte ∷ bytes) none = absurd (omega (arith, none))

-- a MiB, and then the chunks of what is behind
pub first-chunk : (offset : ℕ) (bytes : List ℕ) → 2 ^ 20 < length bytes
    → chunks_of false offset (content bytes)
    ≡ record { done = false; held = bytes_at offset (take (2 ^ 20) bytes) }
    ∷ chunks_of false (offset + 2 ^ 20) (content (drop (2 ^ 20) bytes))
unfolding parts_of
first-chunk offset bytes more =
    let size : length (drop (2 ^ 20) bytes) ≡ length bytes - 2 ^ 20 = length-drop (2 ^ 20) bytes in
    let count : (length bytes - 1) / 2 ^ 20 ≡ suc ((length (drop (2 ^ 20) bytes) - 1) / 2 ^ 20) =
    omega (arith, more, size) in
    content-parts false offset bytes (omega (arith, more))
    ∙ ap (λ n. parts_of n (2 ^ 20) offset bytes) count
    ∙ ap
    (λ (parts : List Part). record {
      done = false;
      held = bytes_at offset (take (2 ^ 20) bytes);
    } ∷ parts)
    (sym
    (content-parts false (offset + 2 ^ 20) (drop (2 ^ 20) bytes) (omega (arith, more, size))))

-- by the tests of the code
pub tested-empty : (whole : Bool) (offset : ℕ) (bytes : List ℕ) → (length bytes == 0) ≡ true
    → chunks_of whole offset (content bytes) ≡ record { done = true; held = nothing } ∷ []
tested-empty whole offset bytes empty =
    no-chunk whole offset bytes (eqb-true (length bytes) 0 empty)

pub tested-one : (whole : Bool) (offset : ℕ) (bytes : List ℕ) → (length bytes == 0) ≡ false
    → (whole ≡ true) ⊎ (length bytes ≤ 2 ^ 20)
    → chunks_of whole offset (content bytes)
    ≡ record { done = true; held = bytes_at offset bytes } ∷ []
tested-one whole offset bytes some one =
    let other : length bytes ≢ 0 = eqb-false (length bytes) 0 some in
    one-chunk whole offset bytes (omega (arith, other)) one

pub more-chunks : (whole : Bool) (offset : ℕ) (bytes : List ℕ) → whole ≡ false
    → 2 ^ 20 < length bytes
    → chunks_of whole offset (content bytes)
    ≡ record { done = false; held = bytes_at offset (take (2 ^ 20) bytes) }
    ∷ chunks_of whole (offset + 2 ^ 20) (content (drop (2 ^ 20) bytes))
more-chunks true offset bytes several more = absurd cc
more-chunks false offset bytes several more = first-chunk offset bytes more

pub tested-more : (whole : Bool) (offset : ℕ) (bytes : List ℕ) → whole ≡ false
    → 2 ^ 20 < length bytes
    → chunks_of whole offset (content bytes)
    ≡ record { done = false; held = bytes_at offset (take (2 ^ 20) bytes) }
    ∷ chunks_of whole (offset + 2 ^ 20)
    (content (take (length bytes - 2 ^ 20) (drop (2 ^ 20) bytes)))
tested-more whole offset bytes several more =
    let size : length (drop (2 ^ 20) bytes) ≡ length bytes - 2 ^ 20 = length-drop (2 ^ 20) bytes in
    more-chunks whole offset bytes several more
    ∙ ap
    (λ (r : List ℕ). record {
      done = false;
      held = bytes_at offset (take (2 ^ 20) bytes);
    } ∷ chunks_of whole (offset + 2 ^ 20) (content r))
    (sym (take_all (length bytes - 2 ^ 20) (drop (2 ^ 20) bytes) (omega (arith, size))))

pub front-fits : (bytes : List ℕ) → 2 ^ 20 < length bytes
    → 8 + length (take (2 ^ 20) bytes) < 2 ^ 32
front-fits bytes more =
    let size = length-take-le (2 ^ 20) bytes (omega (arith, more)) in omega (arith, size)
