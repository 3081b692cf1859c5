-- Bytes and the texts that they are in base64.
use Rattle.std.proofs.Common.{◌≡◌, ℕ, zero, suc, ◌<◌, List, [], ◌∷◌, true, nat_lt, Option, Some}
use Rattle.std.proofs.Common.{None, Result, Ok, Err, refl, sym, ap, subst, ◌∙◌, arith}
use Rattle.std.proofs.lemmas.Bool.{ltb-true}
use Rattle.std.proofs.lemmas.Slice.Eq.{bytes_eq-Decides}
use Rattle.base64.specs.Decode.{decode_outcome}
use Rattle.base64.specs.declared.decode.DecodeError.{DecodeError}
use Rattle.base64.specs.GeneralPurpose.{decode_of, encode_of, decoded_bytes_of, IsBytes}
use Rattle.base64.specs.GeneralPurpose.{IsConsistent}
use Rattle.base64.specs.Engines.{standard}
use Rattle.base64.proofs.EngineFacts.{decode_of-encode_of}
use Rattle.json_members.specs.Fields.{bytes_of, are_bytes}
use Rattle.json_members.proofs.DecimalLemmas.{both, all, chosen_from, refused_from, taken_from}

standard_consistent : IsConsistent standard
standard_consistent = search

small : (n : ℕ) → n < 256 → nat_lt n 256 ≡ true
small n h = grind arith

are_bytes-IsBytes : (bs : List ℕ) → are_bytes bs ≡ true → IsBytes bs
are_bytes-IsBytes [] h i = omega arith
are_bytes-IsBytes (b ∷ bs) h zero = ltb-true _ _ (both (nat_lt b 256) (are_bytes bs) h).0
are_bytes-IsBytes (b ∷ bs) h (suc i) =
    are_bytes-IsBytes bs (both (nat_lt b 256) (are_bytes bs) h).1 i

IsBytes-are_bytes : (bs : List ℕ) → IsBytes bs → are_bytes bs ≡ true
IsBytes-are_bytes [] h = refl
IsBytes-are_bytes (b ∷ bs) h = all _ _ (small b (h 0)) (IsBytes-are_bytes bs (λ i. h (suc i)))

decoded : (error : Option DecodeError) (bytes b : List ℕ) → decode_outcome error bytes ≡ Ok b
    → bytes ≡ b
decoded None bytes b e = cc
decoded (Some x) bytes b e = cc

no_error : (r : Result (List ℕ) DecodeError) (d : DecodeError) (b : List ℕ) → r ≡ Err d → r ≡ Ok b
    → ⊥
no_error (Ok x) d b e f = cc
no_error (Err x) d b e f = cc

-- the encoding of bytes
pub bytes_of-encode_of : (bs : List ℕ) → IsBytes bs → bytes_of (encode_of standard bs) ≡ Some bs
unfolding bytes_of
bytes_of-encode_of bs bytes =
    let e : decoded_bytes_of standard (encode_of standard bs) ≡ bs =
    decoded _ _ bs (decode_of-encode_of standard bs standard_consistent bytes) in
    taken_from _ _
    (all _ _ ((bytes_eq-Decides _ _).1 (ap (encode_of standard) e))
    (ap are_bytes e ∙ IsBytes-are_bytes bs bytes)) ∙ ap Some e

-- a text that is the encoding of bytes
pub bytes_of-exact : (text bs : List ℕ) → bytes_of text ≡ Some bs
    → (text ≡ encode_of standard bs) × IsBytes bs
unfolding bytes_of
bytes_of-exact text bs h =
    let t = chosen_from _ _ _ h in
    let b = both _ _ t.0 in (
      sym ((bytes_eq-Decides _ _).0 b.0) ∙ ap (encode_of standard) t.1,
      subst IsBytes t.1 (are_bytes-IsBytes _ b.1),
    )

-- a text that is decoded
pub decoded_text : (text bs : List ℕ) → text ≡ encode_of standard bs → IsBytes bs
    → bytes_of text ≡ Some bs
decoded_text text bs is bytes = ap bytes_of is ∙ bytes_of-encode_of bs bytes

-- a text that isn't
pub refused_text : (text : List ℕ) (d : DecodeError) → decode_of standard text ≡ Err d
    → bytes_of text ≡ None
unfolding bytes_of
refused_text text d e = refused_from _ _ (λ t.
    let b = both _ _ t in
    let bs = decoded_bytes_of standard text in
    let is : text ≡ encode_of standard bs = sym ((bytes_eq-Decides _ _).0 b.0) in
    no_error (decode_of standard text) d bs e
    (ap (decode_of standard) is
    ∙ decode_of-encode_of standard bs standard_consistent (are_bytes-IsBytes bs b.1)))
