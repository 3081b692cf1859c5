-- What the demonstration prints, as it is put together.
use Rattle.std.proofs.Common.{◌≡◌, ℕ, List, [], ◌∷◌, ◌++◌, codes, decimal, ◌∙◌, ap, Result, Ok, Err, IfOk}
use Rattle.std.proofs.Common.{String, string_bytes, append_assoc}
use Rattle.base_terms.specs.Blocks.{joined}
use Rattle.hex.specs.Hex.{encode_lower}
use Rattle.demo_clients.specs.Texts.{demo_text}

-- a text that was made is another one where both are the same
pub made_as : {Z E : Type 0} (made : Result (String Z) E) (text wanted : List ℕ)
    → IfOk made (λ s. string_bytes s ≡ text) → text ≡ wanted
    → IfOk made (λ s. string_bytes s ≡ wanted)
made_as (Ok s) text wanted is same = is ∙ same
made_as (Err e) text wanted is same = tt

-- the last piece stands apart
moved : (a b c d e f g h i j s z : List ℕ)
    → (a ++ (b ++ (c ++ (d ++ (e ++ (f ++ (g ++ (h ++ (i ++ (j ++ s)))))))))) ++ z
    ≡ a ++ (b ++ (c ++ (d ++ (e ++ (f ++ (g ++ (h ++ (i ++ (j ++ (s ++ z))))))))))
moved a b c d e f g h i j s z = simp append_assoc

abbrev last_line : List ℕ
last_line = (10 ∷ codes "state idle") ++ (10 ∷ [])

abbrev pub pieces : (seed blocks workers : ℕ) (sum : List ℕ) → List ℕ
pieces seed blocks workers sum =
    codes "demo seed " ++ ((decimal seed ++ (codes " blocks " ++ (decimal blocks
    ++ (codes " workers " ++ (decimal workers ++ ((10 ∷ codes "writes ") ++ (decimal blocks
    ++ ((10 ∷ codes "reads ") ++ (decimal blocks ++ ((10 ∷ codes "sha256 ") ++ sum))))))))))
    ++ last_line)

pub text_is : (seed blocks workers : ℕ) (digest sum : List ℕ) → sum ≡ encode_lower digest
    → pieces seed blocks workers sum ≡ demo_text seed blocks workers digest
unfolding demo_text joined
text_is seed blocks workers digest sum is =
    ap (λ s. pieces seed blocks workers s) is
    ∙ ap (λ text. codes "demo seed " ++ text)
    (moved (decimal seed) (codes " blocks ") (decimal blocks) (codes " workers ") (decimal workers)
    (10 ∷ codes "writes ") (decimal blocks) (10 ∷ codes "reads ") (decimal blocks)
    (10 ∷ codes "sha256 ") (encode_lower digest) last_line)
