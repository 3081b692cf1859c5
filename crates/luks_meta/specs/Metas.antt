-- Metadata that have a text.
use Rattle.std.specs.Prelude.{ℕ, List, [], ◌∷◌, codes}
use Rattle.json_members.specs.Members.{Lacks, IsPlain}
use Rattle.json_members.specs.Entries.{AreEntries}
use Rattle.luks_meta.specs.declared.meta.Parts.{Parts}
use Rattle.luks_meta.specs.Configs.{IsConfig, origin_of}
use Rattle.luks_meta.specs.Digests.{IsDigest}
use Rattle.luks_meta.specs.Keyslots.{IsKeyslot}
use Rattle.luks_meta.specs.Segments.{IsSegment}
use Rattle.luks_meta.specs.Tokens.{IsToken}

-- the names of the top members
abbrev pub meta_names : List (List ℕ)
meta_names =
    codes "keyslots" ∷ codes "tokens" ∷ codes "segments" ∷ codes "digests" ∷ codes "config" ∷ []

-- metadata that have a text
pub record IsMeta (m : Parts) : Type 0 where
  pub keyslots : AreEntries (IsKeyslot (origin_of m.config)) m.keyslots
  pub tokens : AreEntries IsToken m.tokens
  pub segments : AreEntries IsSegment m.segments
  pub digests : AreEntries IsDigest m.digests
  pub config : IsConfig m.config
  pub lacks : Lacks meta_names m.rest
  pub plain : IsPlain 126 m.rest
