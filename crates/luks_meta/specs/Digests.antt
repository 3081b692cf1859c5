-- Digests that have a text.
use Rattle.std.specs.Prelude.{◌≡◌, ℕ, ◌^◌, ◌<◌, List, [], ◌∷◌, codes, true}
use Rattle.std.specs.List.{AllByRecursion}
use Rattle.base64.specs.GeneralPurpose.{IsBytes}
use Rattle.json_members.specs.Members.{Lacks, IsPlain}
use Rattle.luks_meta.specs.declared.digest.Digest.{Digest}
use Rattle.luks_meta.specs.Names.{is_iterations}

-- the names of a digest's members
abbrev pub digest_names : List (List ℕ)
digest_names =
    codes "type" ∷ codes "keyslots" ∷ codes "segments" ∷ codes "hash" ∷ codes "iterations"
    ∷ codes "salt" ∷ codes "digest" ∷ []

-- a digest that has a text
pub record IsDigest (d : Digest) : Type 0 where
  pub keyslots : AllByRecursion (λ n. n < 2 ^ 64) d.keyslots
  pub segments : AllByRecursion (λ n. n < 2 ^ 64) d.segments
  pub iterations : is_iterations d.iterations ≡ true
  pub salt : IsBytes d.salt
  pub digest : IsBytes d.digest
  pub lacks : Lacks digest_names d.rest
  pub plain : IsPlain 124 d.rest
