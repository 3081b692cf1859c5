-- A digest as the members of an object.
use Rattle.std.specs.Prelude.{◌≡◌, ℕ, List, [], ◌∷◌, codes, true, Result, Ok}
use Rattle.base64.specs.GeneralPurpose.{encode_of}
use Rattle.base64.specs.Engines.{standard}
use Rattle.serde_json.specs.Data.{Data, string, number, unsigned, array, Members}
use Rattle.json_members.specs.declared.faults.JsonFault.{JsonFault}
use Rattle.json_members.specs.declared.faults.JsonFaultKind.TheVariants.{Unsupported}
use Rattle.json_members.specs.Fields.{◌>>=◌, meant_in, word_in, counted_in, bytes_in, decimals_in}
use Rattle.json_members.specs.Fields.{decimals_data}
use Rattle.json_members.specs.Forms.{HasText, HasNumber, HasBytes, HasDecimals}
use Rattle.json_members.specs.Members.{without_all, put_all}
use Rattle.luks_meta.specs.declared.digest.Digest.{Digest}
use Rattle.luks_meta.specs.Names.{hash_name, hash_named, is_iterations, iterations_of}
use Rattle.luks_meta.specs.Digests.{digest_names}

-- the digest that an object is, or its first fault
unfoldable pub digest_of : List ℕ → Members → Result Digest JsonFault
digest_of path ms = do
  _ ← word_in (codes "pbkdf2") path (codes "type") ms
  keyslots ← decimals_in path (codes "keyslots") ms
  segments ← decimals_in path (codes "segments") ms
  hash ← meant_in Unsupported hash_named path (codes "hash") ms
  iterations ← counted_in iterations_of path (codes "iterations") ms
  salt ← bytes_in path (codes "salt") ms
  digest ← bytes_in path (codes "digest") ms
  Ok (record {
    keyslots = keyslots;
    segments = segments;
    hash = hash;
    iterations = iterations;
    salt =
        salt;
    digest = digest;
    rest = without_all digest_names ms;
  })

abbrev pub digest_fields : Digest → List (List ℕ × Data)
digest_fields d =
    (codes "type", string (codes "pbkdf2")) ∷ (codes "keyslots", array (decimals_data d.keyslots))
    ∷ (codes "segments", array (decimals_data d.segments))
    ∷ (codes "hash", string (hash_name d.hash))
    ∷ (codes "iterations", number (unsigned d.iterations))
    ∷ (codes "salt", string (encode_of standard d.salt))
    ∷ (codes "digest", string (encode_of standard d.digest)) ∷ []

-- the members of a digest
unfoldable pub digest_members : Digest → Members
digest_members d = put_all (digest_fields d) d.rest

-- which members, of which form
pub record HasDigest (ms : Members) (d : Digest) : Type 0 where
  pub kind : HasText (codes "type") (codes "pbkdf2") ms
  pub keyslots : HasDecimals (codes "keyslots") d.keyslots ms
  pub segments : HasDecimals (codes "segments") d.segments ms
  pub hash : HasText (codes "hash") (hash_name d.hash) ms
  pub iterations : HasNumber (codes "iterations") d.iterations ms
  pub within : is_iterations d.iterations ≡ true
  pub salt : HasBytes (codes "salt") d.salt ms
  pub digest : HasBytes (codes "digest") d.digest ms
  pub rest : d.rest ≡ without_all digest_names ms
