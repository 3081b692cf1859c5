-- A string whose parts are hashed in place, one after the other.
use Rattle.std.proofs.Common.{◌≡◌, ℕ, zero, suc, ◌+◌, ◌-◌, ◌*◌, ◌<◌, ◌≤◌, List, ◌++◌, length, take}
use Rattle.std.proofs.Common.{drop, min, refl, ap, sym, ◌∙◌, inl, inr, arith, append_assoc}
use Rattle.std.proofs.Math.Seq.{drop-append_seam, take-append_seam}
use Rattle.std.proofs.lemmas.Bool.{cases_lt}
use Rattle.std.proofs.lemmas.Grind.{div_ceil_times}
use Rattle.std.proofs.lemmas.List.{length-append, length-take, length-drop, take_all, drop_all}
use Rattle.std.proofs.lemmas.List.{drop-drop, append-nil}
use Rattle.std.specs.Int.{w32, to_be_bytes, div_ceil}
use borrow.Rule.Slice.PartMut.{put_mid}
use Rattle.pbkdf2_hmac.specs.declared.Hash.{Hash}
use Rattle.pbkdf2_hmac.specs.declared.Hash.TheVariants.{Sha256, Sha512}
use Rattle.pbkdf2_hmac.specs.Hashes.{digest_of, digest_len}
use Rattle.pbkdf2_hmac.proofs.Lengths.{length-digest_of}
use Rattle.af_split.specs.Af.{part_of, hashed_part, hashed_parts, diffused}

-- a cut at a length or at the end of the list, whichever comes first
take_least : (xs : List ℕ) (cut len : ℕ) → cut ≡ min len (length xs) → take cut xs ≡ take len xs
take_least xs cut len is =
    elim (cases_lt len (length xs)) [
      | inl lt ↦ let same : cut ≡ len = omega arith in rw same refl
      | inr le ↦ take_all cut xs (omega arith) ∙ sym (take_all len xs le)
    ]

drop_least : (xs : List ℕ) (cut len : ℕ) → cut ≡ min len (length xs) → drop cut xs ≡ drop len xs
drop_least xs cut len is =
    elim (cases_lt len (length xs)) [
      | inl lt ↦ let same : cut ≡ len = omega arith in rw same refl
      | inr le ↦ drop_all cut xs (omega arith) ∙ sym (drop_all len xs le)
    ]

pub digest_len-some : (h : Hash) → 0 < digest_len h
digest_len-some Sha256 = omega arith
digest_len-some Sha512 = omega arith

pub length-hashed_part : (h : Hash) (i : ℕ) (part : List ℕ) → length part ≤ digest_len h
    → length (hashed_part h i part) ≡ length part
unfolding hashed_part
length-hashed_part h i part within =
    let digest = length-digest_of h (to_be_bytes w32 i ++ part) in
    omega (arith, digest, length-take (length part) (digest_of h (to_be_bytes w32 i ++ part)))

pub length-hashed_parts : (h : Hash) (s : List ℕ) (n : ℕ)
    → length (hashed_parts h s n) ≡ min (n * digest_len h) (length s)
unfolding hashed_parts
length-hashed_parts h s zero = omega arith
length-hashed_parts h s (suc n) =
    let before = length-hashed_parts h s n in
    let rest = length-drop (n * digest_len h) s in
    let part = length-take (digest_len h) (drop (n * digest_len h) s) in
    let last = length-hashed_part h n (part_of h s n) (omega (arith, part)) in
    let both = length-append (hashed_parts h s n) (hashed_part h n (part_of h s n)) in
    omega (arith, before, rest, part, last, both)

pub length-diffused : (h : Hash) (s : List ℕ) → length (diffused h s) ≡ length s
unfolding diffused
length-diffused h s =
    let times = div_ceil_times (length s) (digest_len h) (digest_len-some h) in
    omega (arith, times, length-hashed_parts h s (div_ceil (length s) (digest_len h)))

-- the front and the back of what is done and what is still to do
done_front : (old done : List ℕ) (start : ℕ) → length done ≡ start
    → take start (done ++ drop start old) ≡ done
done_front old done start same = rw (← same) (take-append_seam done (drop (length done) old))

done_back : (old done : List ℕ) (start : ℕ) → length done ≡ start
    → drop start (done ++ drop start old) ≡ drop start old
done_back old done start same = rw (← same) (drop-append_seam done (drop (length done) old))

-- a part read where the ones before it are replaced
pub part-replaced : (old done : List ℕ) (start len end : ℕ) → length done ≡ start
    → end ≡ min (start + len) (length old)
    → take (end - start) (drop start (done ++ drop start old)) ≡ take len (drop start old)
part-replaced old done start len end same end_is =
    rw (done_back old done start same)
    (take_least (drop start old) (end - start) len (omega (arith, length-drop start old)))

-- and the same part written
pub put_mid-part : (old done ys : List ℕ) (start len end : ℕ) → start ≤ length old
    → length done ≡ start
    → end ≡ min (start + len) (length old)
    → put_mid start (end - start) (done ++ drop start old) ys
    ≡ (done ++ ys) ++ drop (start + len) old
put_mid-part old done ys start len end within same end_is =
    rw (
      done_front old done start same,
      done_back old done start same,
      drop-drop (end - start) start old,
      append_assoc,
    )
    (ap (λ (zs : List ℕ). done ++ (ys ++ zs))
    (drop_least old (start + (end - start)) (start + len) (omega arith)))

-- as many parts as reach the end are all of the string
pub all_parts : (h : Hash) (s : List ℕ) (n : ℕ) → n ≡ div_ceil (length s) (digest_len h)
    → hashed_parts h s n ++ drop (n * digest_len h) s ≡ diffused h s
unfolding diffused
all_parts h s n is =
    let times = div_ceil_times (length s) (digest_len h) (digest_len-some h) in
    rw (is, drop_all (div_ceil (length s) (digest_len h) * digest_len h) s (omega (arith, times)))
    (append-nil (hashed_parts h s (div_ceil (length s) (digest_len h))))
