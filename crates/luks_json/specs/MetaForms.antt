-- The whole of a header's text in plain words: which top members there are, of which form.
use Rattle.std.specs.Prelude.{◌≡◌, ℕ, List, [], ◌∷◌, codes, false, Ok}
use Rattle.serde_json.specs.Data.{Data, object, Members}
use Rattle.serde_json.specs.Written.{has_float}
use Rattle.json_members.specs.Entries.{numbered_in}
use Rattle.json_members.specs.Forms.{HasObject}
use Rattle.json_members.specs.Members.{without_all}
use Rattle.luks_json.specs.Configs.{HasConfig}
use Rattle.luks_meta.specs.Configs.{origin_of}
use Rattle.luks_json.specs.Digests.{HasDigest}
use Rattle.luks_json.specs.Keyslots.{HasKeyslot}
use Rattle.luks_meta.specs.Metas.{meta_names}
use Rattle.luks_json.specs.Segments.{HasSegment}
use Rattle.luks_meta.specs.declared.meta.Parts.{Parts}
use Rattle.luks_meta.specs.declared.token.Token.{Token}

-- each value is an object, and its members have this form
abbrev pub HaveForm : {X : Type 0} → (Members → X → Type 0) → List (ℕ × Data) → List (ℕ × X)
    → Type 0
HaveForm Form [] [] = Unit {0}
HaveForm Form [] (x ∷ xs) = ⊥
HaveForm Form (e ∷ es) [] = ⊥
HaveForm Form (e ∷ es) (x ∷ xs) =
    (e.0 ≡ x.0) × ((inner : Members) × (e.1 ≡ object inner) × Form inner x.1) × HaveForm Form es xs

-- A member of this name is an object whose keys are numbers, and whose values by rising number are
-- objects of this form.
pub record HasObjects {X : Type 0} (name : List ℕ) (Form : Members → X → Type 0)
    (xs : List (ℕ × X)) (ms : Members) : Type 0 where
  pub inner : Members
  pub there : HasObject name inner ms
  pub entries : List (ℕ × Data)
  pub by_number : numbered_in name inner ≡ Ok entries
  pub each : HaveForm Form entries xs

-- a token keeps all its members
abbrev pub HasToken : Members → Token → Type 0
HasToken ms token = token.members ≡ ms

-- The whole is an object of five objects, among whose numbers is none but whole ones of 64 bits;
-- its other members are kept. Whose header it is, by its config, tells which keyslots it may have.
pub record HasMeta (hdr_size : ℕ) (d : Data) (m : Parts) : Type 0 where
  pub members : Members
  pub whole : d ≡ object members
  pub numbers : has_float d ≡ false
  pub keyslots : HasObjects (codes "keyslots") (HasKeyslot (origin_of m.config)) m.keyslots members
  pub tokens : HasObjects (codes "tokens") HasToken m.tokens members
  pub segments : HasObjects (codes "segments") HasSegment m.segments members
  pub digests : HasObjects (codes "digests") HasDigest m.digests members
  pub config : (inner : Members) × HasObject (codes "config") inner members
      × HasConfig hdr_size inner m.config
  pub rest : m.rest ≡ without_all meta_names members
