-- A name has one meaning, and a meaning one name.
use Rattle.std.proofs.Common.{◌≡◌, ◌⊎◌, inl, inr, ℕ, List, Bool, true, false, cond, codes}
use Rattle.std.proofs.Common.{bytes_eq, Some, None, Ok, refl, sym, ap, ◌∙◌}
use Rattle.std.proofs.lemmas.Slice.Eq.{bytes_eq-Decides}
use Rattle.serde_json.specs.Data.{number, unsigned, Members}
use Rattle.json_members.specs.Fields.{counted_in}
use Rattle.json_members.specs.Forms.{HasNumber}
use Rattle.json_members.proofs.DecimalLemmas.{chosen_from, taken_from}
use Rattle.json_members.proofs.FieldLemmas.{counted_got, counted_in-number}
use Rattle.luks_meta.specs.declared.names.Cipher.{Cipher}
use Rattle.luks_meta.specs.declared.names.Cipher.TheVariants.{AesXtsPlain64, AesCbcEssivSha256}
use Rattle.luks_meta.specs.declared.names.Hash.{Hash}
use Rattle.luks_meta.specs.declared.names.Hash.TheVariants.{Sha256, Sha512}
use Rattle.luks_meta.specs.Names.{cipher_name, cipher_named, hash_name, hash_named, is_iterations}
use Rattle.luks_meta.specs.Names.{iterations_of}

-- ---- one of two, and one of three
pub one_of_two : {X : Type 0} (a b : Bool) (x y z : X)
    → cond a (Some x) (cond b (Some y) None) ≡ Some z
    → ((a ≡ true) × (x ≡ z)) ⊎ ((b ≡ true) × (y ≡ z))
one_of_two true b x y z h = inl (refl, cc)
one_of_two false true x y z h = inr (refl, cc)
one_of_two false false x y z h = cc

pub one_of_three : {X : Type 0} (a b c : Bool) (x y z w : X)
    → cond a (Some x) (cond b (Some y) (cond c (Some z) None)) ≡ Some w
    → ((a ≡ true) × (x ≡ w)) ⊎ (((b ≡ true) × (y ≡ w)) ⊎ ((c ≡ true) × (z ≡ w)))
one_of_three true b c x y z w h = inl (refl, cc)
one_of_three false true c x y z w h = inr (inl (refl, cc))
one_of_three false false true x y z w h = inr (inr (refl, cc))
one_of_three false false false x y z w h = cc

pub by_two : {A B P : Type 0} → A ⊎ B → (A → P) → (B → P) → P
by_two (inl a) f g = f a
by_two (inr b) f g = g b

pub by_three : {A B C P : Type 0} → A ⊎ (B ⊎ C) → (A → P) → (B → P) → (C → P) → P
by_three (inl a) f g h = f a
by_three (inr (inl b)) f g h = g b
by_three (inr (inr c)) f g h = h c

pub same_text : (text word : List ℕ) → bytes_eq text word ≡ true → text ≡ word
same_text text word h = (bytes_eq-Decides text word).0 h

-- ---- ciphers
pub cipher_named-exact : (text : List ℕ) (c : Cipher) → cipher_named text ≡ Some c
    → text ≡ cipher_name c
cipher_named-exact text c h =
    by_two (one_of_two (bytes_eq text (codes "aes-xts-plain64"))
    (bytes_eq text (codes "aes-cbc-essiv:sha256")) AesXtsPlain64 AesCbcEssivSha256 c h)
    (λ is. same_text text _ is.0 ∙ ap cipher_name is.1)
    (λ is. same_text text _ is.0 ∙ ap cipher_name is.1)

pub cipher_named-name : (c : Cipher) → cipher_named (cipher_name c) ≡ Some c
cipher_named-name AesXtsPlain64 = refl
cipher_named-name AesCbcEssivSha256 = refl

-- ---- hashes
pub hash_named-exact : (text : List ℕ) (h : Hash) → hash_named text ≡ Some h → text ≡ hash_name h
hash_named-exact text h e =
    by_two (one_of_two (bytes_eq text (codes "sha256")) (bytes_eq text (codes "sha512")) Sha256
    Sha512 h e)
    (λ is. same_text text _ is.0 ∙ ap hash_name is.1)
    (λ is. same_text text _ is.0 ∙ ap hash_name is.1)

pub hash_named-name : (h : Hash) → hash_named (hash_name h) ≡ Some h
hash_named-name Sha256 = refl
hash_named-name Sha512 = refl

-- ---- iterations
pub iterations_got : (path name : List ℕ) (ms : Members) (n : ℕ)
    → counted_in iterations_of path name ms ≡ Ok n → HasNumber name n ms × (is_iterations n ≡ true)
iterations_got path name ms n e =
    let got = counted_got iterations_of path name ms n e in
    let kept = chosen_from (is_iterations got.0) got.0 n got.2 in
    (got.1 ∙ ap (λ m. Some (number (unsigned m))) kept.1, sym (ap is_iterations kept.1) ∙ kept.0)

pub iterations_made : (path name : List ℕ) (ms : Members) (n : ℕ) → HasNumber name n ms
    → is_iterations n ≡ true → counted_in iterations_of path name ms ≡ Ok n
iterations_made path name ms n has within =
    counted_in-number iterations_of path name ms n n has (taken_from (is_iterations n) n within)
