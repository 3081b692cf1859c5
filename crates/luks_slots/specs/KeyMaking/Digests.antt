-- The digest of a new key (LUKS2 On-Disk Format Specification 1.1, section 3.5).
use Rattle.std.specs.Prelude.{ℕ, List}
use Rattle.luks_meta.specs.declared.digest.Digest.{Digest}
use Rattle.luks_meta.specs.declared.names.Hash.TheVariants as hashes
use Rattle.pbkdf2_hmac.specs.Pbkdf2.{derived_key}
use Rattle.pbkdf2_hmac.specs.declared.Hash.TheVariants.{Sha256}
use Rattle.serde_json.specs.Data.{no_members}

abbrev pub digest_rounds : ℕ
digest_rounds = 1000

-- 32 bytes, for the keyslots that hold the key and the segments that are under it
unfoldable pub digest_for : List ℕ → List ℕ → List ℕ → List ℕ → Digest
digest_for keyslots segments key salt = record {
  keyslots = keyslots;
  segments = segments;
  hash = hashes.Sha256;
  iterations = digest_rounds;
  salt = salt;
  digest = derived_key Sha256 key salt digest_rounds 32;
  rest = no_members;
}
