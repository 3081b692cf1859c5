-- Lemmas on the form of a header's whole.
use Rattle.std.proofs.Common.{◌≡◌, ℕ, List, [], ◌∷◌, codes, decimal, Some, Result, Ok}
use Rattle.std.proofs.Common.{false, refl, sym, ap, subst}
use Rattle.serde_json.specs.Data.{Data, object, Members}
use Rattle.serde_json.specs.Find.{get_member, as_object}
use Rattle.serde_json.specs.Written.{has_float}
use Rattle.json_members.specs.declared.faults.JsonFault.{JsonFault}
use Rattle.json_members.specs.declared.faults.JsonFaultKind.TheVariants.{Kind}
use Rattle.json_members.specs.Entries.{each_of, entry_at, numbered_in, objects_in}
use Rattle.json_members.specs.Fields.{required, under, object_in}
use Rattle.json_members.specs.Floats.{float_in}
use Rattle.json_members.proofs.FieldLemmas.{object_in-object, object_got, as_object-object}
use Rattle.json_members.proofs.FloatLemmas.{float_in-whole, whole-float_in}
use Rattle.json_members.proofs.ReadLemmas.{Right, then, right_at, needed, read_on}
use Rattle.luks_meta.specs.declared.meta.Parts.{Parts}
use Rattle.luks_meta.specs.declared.config.Config.{Config}
use Rattle.luks_meta.specs.declared.keyslot.Origin.{Origin}
use Rattle.luks_meta.specs.declared.token.Token.{Token}
use Rattle.luks_json.specs.Configs.{config_of, HasConfig, origin_in}
use Rattle.luks_meta.specs.Configs.{origin_of}
use Rattle.luks_json.specs.Digests.{digest_of, HasDigest}
use Rattle.luks_json.specs.Keyslots.{keyslot_of, HasKeyslot}
use Rattle.luks_json.specs.MetaForms.{HasMeta, HasObjects, HasToken, HaveForm}
use Rattle.luks_json.specs.Metas.{all_there, config_in, list_in, meta_of, parts_of, top}
use Rattle.luks_meta.specs.Metas.{meta_names}
use Rattle.luks_json.specs.Metas.{whole_if}
use Rattle.luks_json.specs.Segments.{segment_of, HasSegment}
use Rattle.luks_json.specs.Tokens.{token_of}
use Rattle.luks_json.proofs.ConfigLemmas.{config_made, config_read, origin_in-config}
use Rattle.luks_json.proofs.DigestLemmas.{digest_made, digest_read}
use Rattle.luks_json.proofs.KeyslotLemmas.{keyslot_made, keyslot_read}
use Rattle.luks_json.proofs.MetaLemmas.{there_in-there, whole_right}
use Rattle.luks_json.proofs.SegmentLemmas.{segment_made, segment_read}

-- ---- objects by number
module _ {X : Type 0} (of : List ℕ → Members → Result X JsonFault) (Form : Members → X → Type 0)
    (read : (path : List ℕ) (ms : Members) → Right (Form ms) (of path ms))
    (made : (path : List ℕ) (ms : Members) (x : X) → Form ms x → of path ms ≡ Ok x) where
  abbrev IsObjectOf : Data → X → Type 0
  IsObjectOf d x = (inner : Members) × (d ≡ object inner) × Form inner x

  entry_read : (path : List ℕ) (e : ℕ × Data) → Right (IsObjectOf e.1) (entry_at of path e)
  unfolding entry_at
  entry_read path e =
      then (required Kind path (decimal e.0) (as_object e.1)) _ _ (λ inner a.
      read_on {P = Form inner} {Q = IsObjectOf e.1} (of (under path (decimal e.0)) inner)
      (read (under path (decimal e.0)) inner)
      (λ x has. (
        inner,
        as_object-object e.1 inner (needed Kind path (decimal e.0) (as_object e.1) inner a),
        has,
      )))

  each_read : (path : List ℕ) (es : List (ℕ × Data)) → Right (HaveForm Form es) (each_of of path es)
  unfolding each_of
  each_read path [] = tt
  each_read path (e ∷ es) =
      then (entry_at of path e) _ _ (λ x a.
      then (each_of of path es) _ _ (λ xs b. (
        refl,
        right_at (entry_at of path e) x (IsObjectOf e.1) a (entry_read path e),
        right_at (each_of of path es) xs (HaveForm Form es) b (each_read path es),
      )))

  list_read : (name : List ℕ) (ms : Members)
      → Right (λ xs. HasObjects name Form xs ms) (list_in of name ms)
  unfolding list_in objects_in
  list_read name ms =
      then (object_in top name ms) _ _ (λ inner a.
      then (numbered_in name inner) _ _ (λ es b.
      read_on {P = HaveForm Form es} {Q = λ xs. HasObjects name Form xs ms} (each_of of name es)
      (each_read name es)
      (λ xs each. record {
        inner = inner;
        there = object_got top name ms inner a;
        entries = es;
        by_number = b;
        each = each;
      })))

  entry_made : (path : List ℕ) (e : ℕ × Data) (x : X) → IsObjectOf e.1 x
      → entry_at of path e ≡ Ok x
  unfolding entry_at
  entry_made path e x (inner, is, has) = rw is (made (under path (decimal e.0)) inner x has)

  each_made : (path : List ℕ) (es : List (ℕ × Data)) (xs : List (ℕ × X)) → HaveForm Form es xs
      → each_of of path es ≡ Ok xs
  unfolding each_of
  each_made path [] [] has = refl
  each_made path [] (x ∷ xs) has = absurd has
  each_made path (e ∷ es) [] has = absurd has
  each_made path (e ∷ es) (x ∷ xs) (number, here, later) =
      rw (entry_made path e x.1 here, each_made path es xs later)
      (ap (λ (n : ℕ). Ok ((n, x.1) ∷ xs)) number)

  list_made : (name : List ℕ) (ms : Members) (xs : List (ℕ × X)) → HasObjects name Form xs ms
      → list_in of name ms ≡ Ok xs
  unfolding list_in objects_in
  list_made name ms xs has =
      rw (object_in-object top name ms has.inner has.there, has.by_number)
      (each_made name has.entries xs has.each)

token_read : (path : List ℕ) (ms : Members) → Right (HasToken ms) (token_of path ms)
unfolding token_of
token_read path ms = refl

token_made : (path : List ℕ) (ms : Members) (t : Token) → HasToken ms t → token_of path ms ≡ Ok t
unfolding token_of
token_made path ms t has = ap (λ (x : Members). Ok (record { members = x })) (sym has)

-- ---- the config
abbrev ConfigForm : ℕ → Members → Config → Type 0
ConfigForm hdr_size ms c =
    (inner : Members) × (get_member (codes "config") ms ≡ Some (object inner))
    × HasConfig hdr_size inner c

config_form : (hdr_size : ℕ) (ms : Members) → Right (ConfigForm hdr_size ms) (config_in hdr_size ms)
unfolding config_in
config_form hdr_size ms =
    then (object_in top (codes "config") ms) _ _ (λ inner a.
    read_on {P = HasConfig hdr_size inner} {Q = ConfigForm hdr_size ms}
    (config_of hdr_size (codes "config") inner) (config_read hdr_size (codes "config") inner)
    (λ c has. (inner, object_got top (codes "config") ms inner a, has)))

config_in-made : (hdr_size : ℕ) (ms : Members) (c : Config) → ConfigForm hdr_size ms c
    → config_in hdr_size ms ≡ Ok c
unfolding config_in
config_in-made hdr_size ms c (inner, there, has) =
    rw (object_in-object top (codes "config") ms inner there)
    (config_made hdr_size (codes "config") inner c has)

-- ---- the whole
parts_form : (hdr_size : ℕ) (d : Data) (ms : Members) → d ≡ object ms → has_float d ≡ false
    → Right (HasMeta hdr_size d) (parts_of hdr_size ms)
unfolding parts_of
parts_form hdr_size d ms is plain =
    then (all_there meta_names ms) _ _ (λ u a.
    then (list_in (keyslot_of (origin_in ms)) (codes "keyslots") ms) _ _ (λ keyslots b.
    then (list_in token_of (codes "tokens") ms) _ _ (λ tokens c.
    then (list_in segment_of (codes "segments") ms) _ _ (λ segments e.
    then (list_in digest_of (codes "digests") ms) _ _ (λ digests f.
    then (config_in hdr_size ms) _ _ (λ config g.
    let has = right_at _ config (ConfigForm hdr_size ms) g (config_form hdr_size ms) in
    let origin = origin_in-config hdr_size ms has.0 config has.1 has.2 in
    let slots =
    right_at _ keyslots (λ xs. HasObjects (codes "keyslots") (HasKeyslot (origin_in ms)) xs ms) b
    (list_read (keyslot_of (origin_in ms)) (HasKeyslot (origin_in ms)) (keyslot_read (origin_in ms))
    (keyslot_made (origin_in ms)) (codes "keyslots") ms) in
    record {
      members = ms;
      whole = is;
      numbers = plain;
      keyslots =
          subst (λ (o : Origin). HasObjects (codes "keyslots") (HasKeyslot o) keyslots ms) origin
          slots;
      tokens = right_at _ tokens (λ xs. HasObjects (codes "tokens") HasToken xs ms) c
          (list_read token_of HasToken token_read token_made (codes "tokens") ms);
      segments = right_at _ segments (λ xs. HasObjects (codes "segments") HasSegment xs ms) e
          (list_read segment_of HasSegment segment_read segment_made (codes "segments") ms);
      digests = right_at _ digests (λ xs. HasObjects (codes "digests") HasDigest xs ms) f
          (list_read digest_of HasDigest digest_read digest_made (codes "digests") ms);
      config = has;
      rest = refl;
    }))))))

pub meta_form : (hdr_size : ℕ) (d : Data) → Right (HasMeta hdr_size d) (meta_of hdr_size d)
unfolding meta_of
meta_form hdr_size d =
    then (whole_if (float_in top d)) _ _ (λ u a.
    then (required Kind top top (as_object d)) _ _ (λ ms b.
    parts_form hdr_size d ms
    (as_object-object d ms (needed Kind top top (as_object d) ms b))
    (whole-float_in top d (whole_right (float_in top d) u a))))

parts_made : (hdr_size : ℕ) (d : Data) (m : Parts) (has : HasMeta hdr_size d m)
    → parts_of hdr_size has.members ≡ Ok m
unfolding parts_of
parts_made hdr_size d m has =
    let ms = has.members in
    let origin = origin_of m.config in
    rw (
      there_in-there (codes "keyslots") ms _ has.keyslots.there,
      there_in-there (codes "tokens") ms _ has.tokens.there,
      there_in-there (codes "segments") ms _ has.segments.there,
      there_in-there (codes "digests") ms _ has.digests.there,
      there_in-there (codes "config") ms _ has.config.1,
      origin_in-config hdr_size ms has.config.0 m.config has.config.1 has.config.2,
      list_made (keyslot_of origin) (HasKeyslot origin) (keyslot_read origin)
          (keyslot_made origin) (codes "keyslots") ms m.keyslots has.keyslots,
      list_made token_of HasToken token_read token_made (codes "tokens") ms m.tokens has.tokens,
      list_made segment_of HasSegment segment_read segment_made (codes "segments") ms m.segments
          has.segments,
      list_made digest_of HasDigest digest_read digest_made (codes "digests") ms m.digests
          has.digests,
      config_in-made hdr_size ms m.config has.config,
    )
    (ap (λ (r : Members). Ok (record m { rest = r })) (sym has.rest))

pub meta_made : (hdr_size : ℕ) (d : Data) (m : Parts) → HasMeta hdr_size d m
    → meta_of hdr_size d ≡ Ok m
unfolding meta_of
meta_made hdr_size d m has =
    rw (
      float_in-whole top d has.numbers,
      ap as_object has.whole,
    )
    (parts_made hdr_size d m has)
