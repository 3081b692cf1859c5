-- The digest of a key has a text, and tells the key.
use Rattle.std.proofs.Common.{◌≡◌, ℕ, ◌^◌, ◌<◌, true, List, length, refl, arith}
use Rattle.std.proofs.lemmas.List.{length-take-le}
use Rattle.std.proofs.lemmas.Slice.Eq.{bytes_eq-Decides}
use Rattle.std.specs.List.{AllByRecursion}
use Rattle.base64.specs.GeneralPurpose.{IsBytes}
use Rattle.json_members.specs.Members.{IsPlain}
use Rattle.luks_meta.specs.Digests.{IsDigest}
use Rattle.luks_slots.specs.KeyMaking.Digests.{digest_for}
use Rattle.luks_slots.specs.Unlocks.{matches}
use Rattle.pbkdf2_hmac.proofs.Lengths.{length-blocks_of}
use Rattle.pbkdf2_hmac.specs.Pbkdf2.{blocks_of, derived_key}
use Rattle.pbkdf2_hmac.specs.declared.Hash.TheVariants.{Sha256}
use Rattle.serde_json.specs.Data.{no_members}

none-plain : (deep : ℕ) → IsPlain deep no_members
none-plain deep = record { whole = refl; flat = omega arith }

pub digest-text : (keyslots segments key salt : List ℕ)
    → AllByRecursion (λ n. n < 2 ^ 64) keyslots → AllByRecursion (λ n. n < 2 ^ 64) segments
    → IsBytes salt → IsBytes (digest_for keyslots segments key salt).digest
    → IsDigest (digest_for keyslots segments key salt)
unfolding digest_for
digest-text keyslots segments key salt of_keyslots of_segments of_salt of_digest = record {
  keyslots = of_keyslots;
  segments = of_segments;
  iterations = refl;
  salt = of_salt;
  digest = of_digest;
  lacks = (refl, (refl, (refl, (refl, (refl, (refl, (refl, tt)))))));
  plain = none-plain 124;
}

digest-size : (key salt : List ℕ) (rounds : ℕ)
    → length (derived_key Sha256 key salt rounds 32) ≡ 32
unfolding derived_key
digest-size key salt rounds =
    let long = length-blocks_of Sha256 key salt rounds 1 in
    length-take-le 32 (blocks_of Sha256 key salt rounds 1) (omega (arith, long))

pub same-key : (keyslots segments key salt : List ℕ)
    → matches (digest_for keyslots segments key salt) key ≡ true
unfolding matches digest_for
same-key keyslots segments key salt =
    rw (digest-size key salt 1000, (bytes_eq-Decides _ _).1 refl) refl
