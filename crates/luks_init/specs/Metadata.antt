-- The metadata with which a conversion begins.
use Rattle.std.specs.Prelude.{ℕ, ◌≡◌, ◌+◌, List, [], length, take, Some, None, IsSomeAnd, true}
use Rattle.base_terms.specs.declared.disk_sizes.Sizes.{Sizes}
use Rattle.luks_init.specs.Wishes.{guard_len, resilience_for}
use Rattle.luks_init.specs.declared.places.Places.{Places}
use Rattle.luks_init.specs.declared.wish.Wish.{Wish}
use Rattle.luks_json.specs.Metas.{data_of}
use Rattle.luks_meta.specs.declared.config.Config.{Config}
use Rattle.luks_meta.specs.declared.digest.Digest.{Digest}
use Rattle.luks_meta.specs.declared.keyslot.Luks2.{Luks2}
use Rattle.luks_meta.specs.declared.meta.Parts.{Parts}
use Rattle.luks_meta.specs.declared.reencrypt.Mode.TheVariants.{Reencrypt}
use Rattle.luks_slots.specs.KeyMaking.Digests.{digest_for}
use Rattle.luks_slots.specs.KeyMaking.Drawings.{Draw}
use Rattle.luks_rules.specs.Idles.{idle_of}
use Rattle.luks_rules.specs.Rules.{first_fault}
use Rattle.luks_rules.specs.Shapes.{progress_of}
use Rattle.luks_rules.specs.declared.idle.Idle.{Idle}
use Rattle.luks_slots.specs.NewSlots.{salt_len, slot_for}
use Rattle.luks_slots.specs.Unlocks.{matches}
use Rattle.reenc_meta.specs.Starts.{progress_from, started}
use Rattle.reenc_meta.specs.declared.wish.Wish.{Wish as MetaWish}
use Rattle.serde_json.specs.Data.{no_members}
use Rattle.serde_json.specs.Written.{compact_text}

-- the keyslot of the new key, whose area begins at a place
abbrev pub keyslot_for : Wish → Draw → ℕ → Luks2
keyslot_for w d place = slot_for place w.key_size w.iterations (take salt_len d.slot)

-- What is wished of the metadata, with a new keyslot and its digest: the volume is encrypted under
-- another key, the area that guards zones begins at its place, and copies of the header and the
-- keyslots area have the sizes that they have.
unfoldable pub wish_with : Config → ℕ → Wish → Places → Luks2 × Digest → MetaWish
wish_with c atom w p key = record {
  mode = Reencrypt;
  direction = w.direction;
  area = record {
    resilience = resilience_for w.resilience atom;
    offset = p.guard;
    size = guard_len w atom;
    rest = no_members;
  };
  encryption = w.cipher;
  sector_size = w.sector_size;
  key = Some key;
  header_size = c.json_size + 4096;
  keyslots_size = c.keyslots_size;
}

-- with those of the key that is drawn
abbrev pub wish_for : Config → ℕ → Wish → Draw → Places → MetaWish
wish_for c atom w d p =
    wish_with c atom w p (keyslot_for w d p.key, digest_for [] [] d.key d.digest_salt)

-- The next metadata of a volume are those of a conversion of which nothing is done: they break no
-- rule, and are read as just that. The digest that they have for the new key is that key's.
pub record IsBeginning (m : Parts) (sizes : Sizes) (w : Wish) (d : Draw) (p : Places) (v : Idle)
    (next : Parts) : Type 0 where
  pub is : next ≡ started sizes.atom (wish_for m.config sizes.atom w d p) m v
  pub valid : first_fault next sizes ≡ None
  pub progress : progress_of next sizes
      ≡ progress_from sizes.atom (wish_for m.config sizes.atom w d p) m v m.segments
  pub digest : (keyslots segments : List ℕ)
      → matches (digest_for keyslots segments d.key d.digest_salt) d.key ≡ true

-- of the volume that metadata say
abbrev pub HasBegun : Parts → Sizes → Wish → Draw → Places → Parts → Type 0
HasBegun m sizes w d p next = IsSomeAnd (idle_of m sizes) (λ v. IsBeginning m sizes w d p v next)

-- the bytes of their text
abbrev pub text_len : Parts → ℕ
text_len m = length (compact_text (data_of m))
