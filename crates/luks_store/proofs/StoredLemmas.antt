-- Lemmas on what is known of a header that was loaded: its metadata break no rule, and have its
-- size.
use Rattle.std.proofs.Common.{◌≡◌, ℕ, ◌+◌, ◌-◌, ◌*◌, ◌≤◌, List, Option, Some, None, Bool, true}
use Rattle.std.proofs.Common.{false, if◌then◌else◌, Result, Ok, Err, refl, ap, subst}
use Rattle.std.proofs.Common.{arith}
use Rattle.std.specs.Prelude.{codes}
use Rattle.std.specs.Str.{is_utf8}
use Rattle.json_members.specs.Fields.{object_in, required}
use Rattle.json_members.specs.Floats.{float_in}
use Rattle.json_members.specs.declared.faults.JsonFaultKind.TheVariants.{Kind}
use Rattle.luks_json.specs.Digests.{digest_of}
use Rattle.luks_json.specs.Keyslots.{keyslot_of}
use Rattle.luks_json.specs.Segments.{segment_of}
use Rattle.luks_json.specs.Tokens.{token_of}
use Rattle.serde_json.specs.Find.{as_object}
use Rattle.base_terms.specs.declared.disk_sizes.Sizes.{Sizes}
use Rattle.json_members.proofs.ReadLemmas.{Right, then}
use Rattle.json_members.specs.declared.faults.JsonFault.{JsonFault}
use Rattle.luks_bin.proofs.FieldLemmas.{size-least}
use Rattle.luks_bin.specs.Copies.{text_of, IsCopy}
use Rattle.luks_json.proofs.ConfigLemmas.{config_read}
use Rattle.luks_json.specs.Configs.{config_of, origin_in, HasConfig}
use Rattle.luks_json.specs.Metas.{all_there, config_in, list_in, meta_from, meta_of}
use Rattle.luks_meta.specs.Metas.{meta_names}
use Rattle.luks_json.specs.Metas.{parts_of, read_as, top, whole_if}
use Rattle.luks_meta.specs.declared.config.Config.{Config}
use Rattle.luks_meta.specs.declared.meta.Parts.{Parts}
use Rattle.json_members.specs.Entries.{IsRising}
use Rattle.luks_rules.proofs.SoundLemmas.{sound}
use Rattle.luks_store.proofs.RoomLemmas.{room-of}
use Rattle.luks_rules.specs.Rules.{first_fault}
use Rattle.luks_rules.specs.declared.fault.RuleFault.{RuleFault}
use Rattle.luks_store.specs.Devices.{header_room}
use Rattle.luks_store.specs.Loads.{because, judged, unless, IsStored, ◌>>=◌}
use Rattle.luks_store.specs.Used.{rule, text}
use Rattle.luks_store.specs.declared.copies.Copies.{Copies}
use Rattle.luks_store.specs.declared.loaded.Stored.{Stored}
use Rattle.serde_json.specs.Data.{Data, Members}
use Rattle.serde_json.specs.Read.{read}

-- ---- the size that the metadata of a text state
weaker : {A : Type 0} (P Q : A → Type 0) (r : Result A JsonFault) → ((x : A) → P x → Q x)
    → Right P r → Right Q r
weaker P Q (Ok x) so is = so x is
weaker P Q (Err fault) so is = tt

abbrev HasSize : ℕ → Parts → Type 0
HasSize n m = m.config.json_size ≡ n - 4096

config-sized : (n : ℕ) (ms : Members)
    → Right (λ (c : Config). c.json_size ≡ n - 4096) (config_in n ms)
unfolding config_in
config-sized n ms =
    (then) (object_in top (codes "config") ms) (λ inner. config_of n (codes "config") inner) _
    (λ inner a.
    weaker (HasConfig n inner) (λ (c : Config). c.json_size ≡ n - 4096)
    (config_of n (codes "config") inner) (λ c has. has.fits)
    (config_read n (codes "config") inner))

parts-sized : (n : ℕ) (ms : Members) → Right (HasSize n) (parts_of n ms)
unfolding parts_of
parts-sized n ms =
    (then) (all_there meta_names ms) _ _ (λ _ a.
    (then) (list_in (keyslot_of (origin_in ms)) (codes "keyslots") ms) _ _ (λ keyslots b.
    (then) (list_in token_of (codes "tokens") ms) _ _ (λ tokens c.
    (then) (list_in segment_of (codes "segments") ms) _ _ (λ segments d.
    (then) (list_in digest_of (codes "digests") ms) _ _ (λ digests e.
    (then) (config_in n ms) _ _ (λ config f.
    subst (Right (λ (c : Config). c.json_size ≡ n - 4096)) f (config-sized n ms)))))))

meta-sized : (n : ℕ) (d : Data) → Right (HasSize n) (meta_of n d)
unfolding meta_of
meta-sized n d = (then) (whole_if (float_in top d)) _ _ (λ _ a.
    (then) (required Kind top top (as_object d)) (λ ms. parts_of n ms) _ (λ ms b. parts-sized n ms))

read-sized : (n : ℕ) (d : Option Data) → Right (HasSize n) (read_as n d)
read-sized n None = tt
read-sized n (Some d) = meta-sized n d

either : (n : ℕ) (b : Bool) (r : Result Parts JsonFault) (fault : JsonFault) → Right (HasSize n) r
    → Right (HasSize n) (if b then r else Err fault)
either n true r fault is = is
either n false r fault is = tt

text-sized : (n : ℕ) (bytes : List ℕ) → Right (HasSize n) (meta_from n bytes)
unfolding meta_from
text-sized n bytes = either n (is_utf8 bytes) _ _ (read-sized n (read bytes))

-- ---- what was judged
pub record IsValid (sizes : Sizes) (copies : Copies) (stored : Stored)
    (r : Result Parts JsonFault) : Type 0 where
  pub same_copies : copies ≡ stored.copies
  pub same_sizes : sizes ≡ stored.valid.sizes
  pub read : r ≡ Ok stored.valid.meta
  pub rules : first_fault stored.valid.meta stored.valid.sizes ≡ None

valid-by : (sizes : Sizes) (copies : Copies) (stored : Stored) (meta : Parts) (o : Option RuleFault)
    → first_fault meta sizes ≡ o
    → ◌>>=◌ {B = Stored} (unless rule o)
    (λ _. Ok (record { copies = copies; valid = record { meta = meta; sizes = sizes } }))
    ≡ Ok stored
    → IsValid sizes copies stored (Ok meta)
valid-by sizes copies stored meta None none is =
    let e : ◌≡◌ {A = Stored}
    (record { copies = copies; valid = record { meta = meta; sizes = sizes } }) stored =
    cc in record {
      same_copies = ap (λ (s : Stored). s.copies) e;
      same_sizes = ap (λ (s : Stored). s.valid.sizes) e;
      read = ap (λ (s : Stored). Ok s.valid.meta) e;
      rules = subst (λ (s : Stored). first_fault s.valid.meta s.valid.sizes ≡ None) e none;
    }
valid-by sizes copies stored meta (Some fault) none is = absurd cc

valid-from : (sizes : Sizes) (copies : Copies) (stored : Stored) (r : Result Parts JsonFault)
    → ◌>>=◌ {B = Stored} (because text r)
    (λ meta. ◌>>=◌ {B = Stored} (unless rule (first_fault meta sizes))
    (λ _. Ok (record { copies = copies; valid = record { meta = meta; sizes = sizes } })))
    ≡ Ok stored
    → IsValid sizes copies stored r
valid-from sizes copies stored (Ok meta) is =
    valid-by sizes copies stored meta (first_fault meta sizes) refl is
valid-from sizes copies stored (Err fault) is = absurd cc

pub is-valid : (sizes : Sizes) (copies : Copies) (stored : Stored) → judged sizes copies ≡ Ok stored
    → IsValid sizes copies stored
    (meta_from copies.used.header.hdr_size (text_of copies.used.bytes))
unfolding judged
is-valid sizes copies stored is = valid-from sizes copies stored _ is

pub rules-kept : (stored : Stored) → IsStored stored
    → first_fault stored.valid.meta stored.valid.sizes ≡ None
rules-kept stored is = (is-valid stored.valid.sizes stored.copies stored is.held).rules

pub size-held : (sizes : Sizes) (stored : Stored)
    → IsCopy stored.copies.used.bytes stored.copies.used.header
    → judged sizes stored.copies ≡ Ok stored
    → stored.valid.meta.config.json_size + 4096 ≡ stored.copies.used.header.hdr_size
size-held sizes stored whole held =
    let n = stored.copies.used.header.hdr_size in
    let sized : stored.valid.meta.config.json_size ≡ n - 4096 = subst (Right (HasSize n))
    (is-valid sizes stored.copies stored held).read
    (text-sized n (text_of stored.copies.used.bytes)) in
    let least = size-least n whole.one_of_nine in
    omega (arith, sized, least)

pub size-kept : (stored : Stored) → IsStored stored
    → stored.valid.meta.config.json_size + 4096 ≡ stored.copies.used.header.hdr_size
size-kept stored is = size-held stored.valid.sizes stored is.copies.whole is.held

pub room-kept : (stored : Stored) → IsStored stored → IsRising stored.valid.meta.digests
    → 2 * stored.copies.used.header.hdr_size
    ≤ header_room stored.valid.sizes
room-kept stored is rising =
    let valid = stored.valid in
    room-of valid.meta valid.sizes stored.copies.used.header.hdr_size
    (sound valid.meta valid.sizes is.atom rising (rules-kept stored is)) (size-kept stored is)
