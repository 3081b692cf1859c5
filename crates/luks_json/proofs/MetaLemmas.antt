-- Metadata, and the value and text that they are written as.
use Rattle.std.proofs.Common.{◌≡◌, ℕ, ◌-◌, ◌≤◌, List, [], ◌∷◌, Bool, true}
use Rattle.std.proofs.Common.{false, cond, not, ◌&&◌, codes, decimal, Option, Some, None, Result}
use Rattle.std.proofs.Common.{Ok, Err, refl, sym, ap, subst, ◌∙◌}
use Rattle.std.specs.List.{AllByRecursion}
use Rattle.std.specs.Str.{IsUtf8, bytes_eq, is_utf8}
use Rattle.std.proofs.lemmas.Bool.{and_parts}
use Rattle.std.proofs.lemmas.Str.{is_utf8-from_IsUtf8, IsUtf8-from_is_utf8}
use Rattle.serde_json.specs.Data.{Data, object, Members, no_members, depth}
use Rattle.serde_json.specs.Find.{get_member, as_object}
use Rattle.serde_json.specs.Read.{read}
use Rattle.serde_json.proofs.Nesting.{depth-read}
use Rattle.json_members.specs.declared.faults.JsonFault.{JsonFault}
use Rattle.json_members.specs.declared.faults.JsonFaultKind.TheVariants.{NotJson, Missing, Kind}
use Rattle.json_members.specs.Entries.{objects_in, objects_members, AreEntries}
use Rattle.json_members.specs.declared.faults.ReadError.{ReadError}
use Rattle.json_members.specs.declared.faults.ReadError.TheVariants as errors
use Rattle.json_members.specs.Fields.{◌>>=◌, required, under, object_in, Fails}
use Rattle.json_members.specs.Floats.{float_in}
use Rattle.json_members.specs.Members.{without, without_all, put_all, IsPlain, IsPlainData}
use Rattle.json_members.proofs.DataLemmas.{object_plain, objects_plain, none_plain, inner_plain}
use Rattle.json_members.proofs.DataLemmas.{object_member-plain}
use Rattle.json_members.proofs.EntryLemmas.{objects_right}
use Rattle.json_members.proofs.FieldLemmas.{object_in-object, object_got, as_object-object}
use Rattle.json_members.proofs.FloatLemmas.{float_in-whole, whole-float_in}
use Rattle.json_members.proofs.OrderLemmas.{objects_back}
use Rattle.json_members.proofs.PlainLemmas.{put_all-plain, without_all-plain, Lacks-without_all}
use Rattle.json_members.proofs.PlainLemmas.{get_member-without_other}
use Rattle.json_members.proofs.PutLemmas.{get_member-put_all, without_all-put_all}
use Rattle.json_members.proofs.ReadLemmas.{Right, then, right_at, needed, read_on}
use Rattle.json_members.proofs.ReadLemmas.{each_right}
use Rattle.luks_meta.specs.declared.meta.Parts.{Parts}
use Rattle.luks_meta.specs.declared.config.Config.{Config}
use Rattle.luks_meta.specs.declared.digest.Digest.{Digest}
use Rattle.luks_meta.specs.declared.keyslot.Keyslot.{Keyslot}
use Rattle.luks_meta.specs.declared.keyslot.Origin.{Origin}
use Rattle.luks_meta.specs.declared.segment.Segment.{Segment}
use Rattle.luks_meta.specs.declared.token.Token.{Token}
use Rattle.luks_json.specs.Configs.{config_of, config_members, HasConfig}
use Rattle.luks_meta.specs.Configs.{IsConfig, origin_of}
use Rattle.luks_json.specs.Configs.{origin_in}
use Rattle.luks_json.specs.Digests.{digest_of, digest_members, HasDigest}
use Rattle.luks_meta.specs.Digests.{IsDigest}
use Rattle.luks_json.specs.Keyslots.{keyslot_of, keyslot_members, HasKeyslot}
use Rattle.luks_meta.specs.Keyslots.{IsKeyslot}
use Rattle.luks_json.specs.Segments.{segment_of, segment_members, HasSegment}
use Rattle.luks_meta.specs.Segments.{IsSegment}
use Rattle.luks_json.specs.Tokens.{token_of, token_members}
use Rattle.luks_meta.specs.Tokens.{IsToken}
use Rattle.luks_json.specs.Metas.{top, text_fault, there_in, all_there, list_in}
use Rattle.luks_meta.specs.Metas.{meta_names}
use Rattle.luks_json.specs.Metas.{config_in, parts_of, whole_if, meta_of, read_as}
use Rattle.luks_json.specs.Metas.{meta_from, meta_fields, meta_members, data_of}
use Rattle.luks_meta.specs.Metas.{IsMeta}
use Rattle.luks_json.proofs.ConfigLemmas.{config_read, config_made, config_written, config_right}
use Rattle.luks_json.proofs.ConfigLemmas.{config_plain, origin_in-config}
use Rattle.luks_json.proofs.DigestLemmas.{digest_read, digest_made, digest_written, digest_right}
use Rattle.luks_json.proofs.DigestLemmas.{digest_plain}
use Rattle.luks_json.proofs.KeyslotLemmas.{keyslot_read, keyslot_made, keyslot_written}
use Rattle.luks_json.proofs.KeyslotLemmas.{keyslot_right, keyslot_plain}
use Rattle.luks_json.proofs.SegmentLemmas.{segment_read, segment_made, segment_written}
use Rattle.luks_json.proofs.SegmentLemmas.{segment_right, segment_plain}

-- ---- what was read is right
-- one object, from what it has
module _ {X : Type 0} (of : List ℕ → Members → Result X JsonFault) (Has : Members → X → Type 0)
    (Is : X → Type 0)
    (read : (path : List ℕ) (ms : Members) → Right (Has ms) (of path ms))
    (right : (ms : Members) (x : X) → IsPlain 124 ms → Has ms x → Is x) where
  one_right : (path : List ℕ) (ms : Members) → IsPlain 124 ms → Right Is (of path ms)
  one_right path ms plain =
      read_on {P = Has ms} {Q = Is} (of path ms) (read path ms) (λ x has. right ms x plain has)

  pub list_right : (name : List ℕ) (ms : Members) → IsPlain 126 ms
      → Right (AreEntries Is) (list_in of name ms)
  unfolding list_in
  list_right name ms plain =
      then (object_in top name ms) _ _
      (λ inner e. objects_right 124 of Is one_right name inner
      (object_member-plain name ms inner plain (object_got top name ms inner e)))

token_right : (path : List ℕ) (ms : Members) → IsPlain 124 ms → Right IsToken (token_of path ms)
unfolding token_of
token_right path ms plain = plain

tokens_right : (name : List ℕ) (ms : Members) → IsPlain 126 ms
    → Right (AreEntries IsToken) (list_in token_of name ms)
unfolding list_in
tokens_right name ms plain =
    then (object_in top name ms) _ _
    (λ inner e. objects_right 124 token_of IsToken token_right name inner
    (object_member-plain name ms inner plain (object_got top name ms inner e)))

-- the config is right, and says whose header it is
config_in-right : (hdr_size : ℕ) (ms : Members) → IsPlain 126 ms
    → Right (λ c. IsConfig c × (origin_in ms ≡ origin_of c)) (config_in hdr_size ms)
unfolding config_in
config_in-right hdr_size ms plain =
    then (object_in top (codes "config") ms) _ _ (λ inner e.
    let at = object_got top (codes "config") ms inner e in
    each_right (config_of hdr_size (codes "config") inner)
    (λ c. IsConfig c × (origin_in ms ≡ origin_of c)) (λ c is.
    let has =
    right_at _ c (HasConfig hdr_size inner) is (config_read hdr_size (codes "config") inner) in (
      config_right hdr_size inner c (object_member-plain (codes "config") ms inner plain at) has,
      origin_in-config hdr_size ms inner c at has,
    )))

parts_right : (hdr_size : ℕ) (ms : Members) → IsPlain 126 ms → Right IsMeta (parts_of hdr_size ms)
unfolding parts_of
parts_right hdr_size ms plain =
    then (all_there meta_names ms) _ _ (λ u a.
    then (list_in (keyslot_of (origin_in ms)) (codes "keyslots") ms) _ _ (λ keyslots b.
    then (list_in token_of (codes "tokens") ms) _ _ (λ tokens c.
    then (list_in segment_of (codes "segments") ms) _ _ (λ segments d.
    then (list_in digest_of (codes "digests") ms) _ _ (λ digests e.
    then (config_in hdr_size ms) _ _ (λ config f.
    let sized =
    right_at _ config (λ c. IsConfig c × (origin_in ms ≡ origin_of c)) f
    (config_in-right hdr_size ms plain) in
    let origin = origin_in ms in
    let slots =
    right_at _ keyslots (AreEntries (IsKeyslot origin)) b
    (list_right (keyslot_of origin) (HasKeyslot origin) (IsKeyslot origin) (keyslot_read origin)
    (keyslot_right origin) (codes "keyslots") ms plain) in
    record {
      keyslots = subst (λ (o : Origin). AreEntries (IsKeyslot o) keyslots) sized.1 slots;
      tokens = right_at _ tokens (AreEntries IsToken) c (tokens_right (codes "tokens") ms plain);
      segments =
          right_at _ segments (AreEntries IsSegment) d
          (list_right segment_of HasSegment IsSegment segment_read segment_right (codes "segments")
          ms plain);
      digests =
          right_at _ digests (AreEntries IsDigest) e
          (list_right digest_of HasDigest IsDigest digest_read digest_right (codes "digests") ms
          plain);
      config = sized.0;
      lacks = Lacks-without_all meta_names ms;
      plain = without_all-plain meta_names ms plain;
    }))))))

-- ---- what is written is plain
each_plain : {X : Type 0} (Is : X → Type 0) (members : X → Members)
    → ((x : X) → Is x → IsPlain 124 (members x)) → (es : List (ℕ × X))
    → AllByRecursion (λ e. Is e.1) es → AllByRecursion (λ e. IsPlain 124 (members e.1)) es
each_plain Is members h [] all = tt
each_plain Is members h (e ∷ es) all = (h e.1 all.0, each_plain Is members h es all.1)

list_plain : {X : Type 0} (Is : X → Type 0) (members : X → Members)
    → ((x : X) → Is x → IsPlain 124 (members x)) → (es : List (ℕ × X)) → AreEntries Is es
    → IsPlainData 126 (object (objects_members members es))
list_plain Is members h es are =
    object_plain _
    (objects_plain members es no_members (each_plain Is members h es are.each) none_plain)

pub data_plain : (m : Parts) → IsMeta m → IsPlainData 127 (data_of m)
unfolding data_of meta_members
data_plain m is =
    let origin = origin_of m.config in
    object_plain _ (put_all-plain (meta_fields m) m.rest (
      list_plain (IsKeyslot origin) keyslot_members (keyslot_plain origin) m.keyslots is.keyslots,
      (
        list_plain IsToken token_members (λ t plain. plain) m.tokens is.tokens,
        (
          list_plain IsSegment segment_members segment_plain m.segments is.segments,
          (
            list_plain IsDigest digest_members digest_plain m.digests is.digests,
            (object_plain _ (config_plain m.config is.config), tt),
          ),
        ),
      ),
    ) is.plain)

-- ---- and read again
each_back : {X : Type 0} (of : List ℕ → Members → Result X JsonFault) (Is : X → Type 0)
    (members : X → Members) → ((path : List ℕ) (x : X) → Is x → of path (members x) ≡ Ok x)
    → (path : List ℕ) (es : List (ℕ × X)) → AllByRecursion (λ e. Is e.1) es
    → AllByRecursion (λ e. of (under path (decimal e.0)) (members e.1) ≡ Ok e.1) es
each_back of Is members h path [] all = tt
each_back of Is members h path (e ∷ es) all =
    (h (under path (decimal e.0)) e.1 all.0, each_back of Is members h path es all.1)

list_back : {X : Type 0} (of : List ℕ → Members → Result X JsonFault) (Is : X → Type 0)
    (members : X → Members) → ((path : List ℕ) (x : X) → Is x → of path (members x) ≡ Ok x)
    → (name : List ℕ) (ms : Members) (es : List (ℕ × X))
    → get_member name ms ≡ Some (object (objects_members members es)) → AreEntries Is es
    → list_in of name ms ≡ Ok es
unfolding list_in
list_back of Is members h name ms es at are =
    rw (object_in-object top name ms (objects_members members es) at)
    (objects_back members of name es are.rising (each_back of Is members h name es are.each))

config_in-back : (hdr_size : ℕ) (ms : Members) (c : Config)
    → get_member (codes "config") ms ≡ Some (object (config_members c))
    → HasConfig hdr_size (config_members c) c → config_in hdr_size ms ≡ Ok c
unfolding config_in
config_in-back hdr_size ms c at has =
    rw (object_in-object top (codes "config") ms (config_members c) at)
    (config_made hdr_size (codes "config") (config_members c) c has)

token_back : (path : List ℕ) (t : Token) → IsToken t → token_of path (token_members t) ≡ Ok t
unfolding token_of
token_back path t is = refl

pub there_in-there : (name : List ℕ) (ms : Members) (d : Data) → get_member name ms ≡ Some d
    → there_in name ms ≡ Ok (tt {0})
unfolding there_in
there_in-there name ms d h = rw h refl

parts_back : (hdr_size : ℕ) (m : Parts) → IsMeta m → m.config.json_size ≡ hdr_size - 4096
    → parts_of hdr_size (meta_members m) ≡ Ok m
unfolding parts_of meta_members
parts_back hdr_size m is fits =
    let ms = put_all (meta_fields m) m.rest in
    let at = λ (name : List ℕ). get_member-put_all name (meta_fields m) m.rest in
    let keyslots : get_member (codes "keyslots") ms
    ≡ Some (object (objects_members keyslot_members m.keyslots)) = at (codes "keyslots") in
    let tokens : get_member (codes "tokens") ms
    ≡ Some (object (objects_members token_members m.tokens)) = at (codes "tokens") in
    let segments : get_member (codes "segments") ms
    ≡ Some (object (objects_members segment_members m.segments)) = at (codes "segments") in
    let digests : get_member (codes "digests") ms
    ≡ Some (object (objects_members digest_members m.digests)) = at (codes "digests") in
    let config : get_member (codes "config") ms ≡ Some (object (config_members m.config)) =
    at (codes "config") in
    let has = config_written hdr_size m.config is.config fits in
    let origin = origin_of m.config in
    rw (
      there_in-there (codes "keyslots") ms _ keyslots,
      there_in-there (codes "tokens") ms _ tokens,
      there_in-there (codes "segments") ms _ segments,
      there_in-there (codes "digests") ms _ digests,
      there_in-there (codes "config") ms _ config,
      origin_in-config hdr_size ms (config_members m.config) m.config config has,
      list_back (keyslot_of origin) (IsKeyslot origin) keyslot_members
          (λ path x right. keyslot_made origin path (keyslot_members x) x
          (keyslot_written origin x right)) (codes "keyslots") ms m.keyslots keyslots is.keyslots,
      list_back token_of IsToken token_members token_back (codes "tokens") ms m.tokens tokens
          is.tokens,
      list_back segment_of IsSegment segment_members
          (λ path x right. segment_made path (segment_members x) x (segment_written x right))
          (codes "segments") ms m.segments segments is.segments,
      list_back digest_of IsDigest digest_members
          (λ path x right. digest_made path (digest_members x) x (digest_written x right))
          (codes "digests") ms m.digests digests is.digests,
      config_in-back hdr_size ms m.config config has,
    )
    (ap (λ (r : Members). Ok
    (record {
      keyslots = m.keyslots;
      tokens = m.tokens;
      segments = m.segments;
      digests =
          m.digests;
      config = m.config;
      rest = r;
    })) (without_all-put_all meta_names (meta_fields m) m.rest refl is.lacks))

-- what is written for metadata is read as those metadata
pub meta_back : (hdr_size : ℕ) (m : Parts) → IsMeta m → m.config.json_size ≡ hdr_size - 4096
    → meta_of hdr_size (data_of m) ≡ Ok m
unfolding meta_of data_of
meta_back hdr_size m is fits =
    rw (float_in-whole top (data_of m) (data_plain m is).whole) (parts_back hdr_size m is fits)

pub whole_right : (o : Option (List ℕ)) (u : Unit {0}) → whole_if o ≡ Ok u → o ≡ None
whole_right None u e = refl
whole_right (Some path) u e = cc

-- what was read of a value is right
meta_right : (hdr_size : ℕ) (d : Data) → depth d ≤ 127 → Right IsMeta (meta_of hdr_size d)
unfolding meta_of
meta_right hdr_size d flat =
    then (whole_if (float_in top d)) _ _ (λ u a.
    then (required Kind top top (as_object d)) _ _ (λ ms b.
    let is : d ≡ object ms = as_object-object d ms (needed Kind top top (as_object d) ms b) in
    let plain : IsPlainData 127 d =
    record { whole = whole-float_in top d (whole_right (float_in top d) u a); flat = flat } in
    parts_right hdr_size ms (inner_plain ms (subst (IsPlainData 127) is plain))))

-- ---- the text
pub from_value : (hdr_size : ℕ) (text : List ℕ) (d : Data) → IsUtf8 text → read text ≡ Some d
    → meta_from hdr_size text ≡ meta_of hdr_size d
unfolding meta_from
from_value hdr_size text d utf8 is = rw (is_utf8-from_IsUtf8 text utf8, is) refl

no_value_at : (hdr_size : ℕ) (text : List ℕ) (b : Bool) → is_utf8 text ≡ b
    → (IsUtf8 text → read text ≡ None)
    → cond b (read_as hdr_size (read text)) (Err (text_fault NotJson)) ≡ Err (text_fault NotJson)
no_value_at hdr_size text true is h = rw (h (IsUtf8-from_is_utf8 text is)) refl
no_value_at hdr_size text false is h = refl

pub no_value : (hdr_size : ℕ) (text : List ℕ) → (IsUtf8 text → read text ≡ None)
    → meta_from hdr_size text ≡ Err (text_fault NotJson)
unfolding meta_from
no_value hdr_size text h = no_value_at hdr_size text (is_utf8 text) refl h

read_right : (hdr_size : ℕ) (o : Option Data) → ((d : Data) → o ≡ Some d → depth d ≤ 127)
    → Right IsMeta (read_as hdr_size o)
read_right hdr_size None h = tt
read_right hdr_size (Some d) h = meta_right hdr_size d (h d refl)

from_right : (b : Bool) (r : Result Parts JsonFault) → Right IsMeta r
    → Right IsMeta (cond b r (Err (text_fault NotJson)))
from_right true r h = h
from_right false r h = tt

-- what was read of a text is right
pub meta_from_right : (hdr_size : ℕ) (text : List ℕ) → Right IsMeta (meta_from hdr_size text)
unfolding meta_from
meta_from_right hdr_size text =
    from_right (is_utf8 text) (read_as hdr_size (read text))
    (read_right hdr_size (read text) (λ d is. depth-read text d is))

-- ---- reading while the top members are taken out one after the other
not_same : (b : Bool) → not b ≡ true → b ≡ false
not_same true is = sym is
not_same false is = refl

-- a name that is none of these
abbrev pub is_other : List ℕ → List (List ℕ) → Bool
is_other name [] = true
is_other name (k ∷ ks) = not (bytes_eq name k) && is_other name ks

left_in : (name : List ℕ) (ks : List (List ℕ)) (ms : Members) → is_other name ks ≡ true
    → get_member name (without_all ks ms) ≡ get_member name ms
left_in name [] ms other = refl
left_in name (k ∷ ks) ms other =
    let both = and_parts (not (bytes_eq name k)) (is_other name ks) other in
    left_in name ks (without k ms) both.1
    ∙ get_member-without_other name k ms (not_same (bytes_eq name k) both.0)

object_by : (name : List ℕ) (a b : Members) → get_member name a ≡ get_member name b
    → object_in top name a ≡ object_in top name b
unfolding object_in
object_by name a b same =
    ap (λ (o : Option Data). required Missing top name o
    >>= (λ d. required Kind top name (as_object d))) same

-- a top member is read as if those that were taken out were still there
pub list_left : {X : Type 0} (of : List ℕ → Members → Result X JsonFault) (name : List ℕ)
    (ks : List (List ℕ)) (ms : Members) → is_other name ks ≡ true
    → list_in of name (without_all ks ms) ≡ list_in of name ms
unfolding list_in
list_left of name ks ms other =
    ap (λ (r : Result Members JsonFault). r >>= (λ inner. objects_in of name inner))
    (object_by name (without_all ks ms) ms (left_in name ks ms other))

pub config_left : (hdr_size : ℕ) (ks : List (List ℕ)) (ms : Members)
    → is_other (codes "config") ks ≡ true
    → config_in hdr_size (without_all ks ms) ≡ config_in hdr_size ms
unfolding config_in
config_left hdr_size ks ms other =
    ap (λ (r : Result Members JsonFault). r >>=
    (λ inner. config_of hdr_size (codes "config") inner))
    (object_by (codes "config") (without_all ks ms) ms (left_in (codes "config") ks ms other))

-- a fault ends it, and what was read leads on
pub fails_at : {A B : Type 0} (e : ReadError) (r : Result A JsonFault) (f : A → Result B JsonFault)
    → Fails e r → Fails e (r >>= f)
fails_at errors.Memory r f fails = tt
fails_at (errors.Fault fault) r f fails = rw fails refl

pub fails_after : {A B : Type 0} (e : ReadError) (r : Result A JsonFault) (x : A)
    (f : A → Result B JsonFault) → r ≡ Ok x → Fails e (f x) → Fails e (r >>= f)
fails_after {A = A} e r x f is fails =
    subst (λ (q : Result A JsonFault). Fails e (q >>= f)) (sym is) fails

goes_on : {A B : Type 0} (r : Result A JsonFault) (x : A) (f : A → Result B JsonFault)
    (y : Result B JsonFault) → r ≡ Ok x → f x ≡ y → (r >>= f) ≡ y
goes_on {A = A} r x f y is rest = ap (λ (q : Result A JsonFault). q >>= f) is ∙ rest

-- what was read of the top members so far
pub record ReadSlots (ms : Members) (keyslots : List (ℕ × Keyslot)) : Type 0 where
  pub there : all_there meta_names ms ≡ Ok (tt {0})
  pub keyslots_are : list_in (keyslot_of (origin_in ms)) (codes "keyslots") ms ≡ Ok keyslots

pub slots_read : (ms : Members) (origin : Origin) (keyslots : List (ℕ × Keyslot)) (u : Unit {0})
    → all_there meta_names ms ≡ Ok u → origin ≡ origin_in ms
    → list_in (keyslot_of origin) (codes "keyslots") ms ≡ Ok keyslots → ReadSlots ms keyslots
slots_read ms origin keyslots u there of is = record {
  there = there;
  keyslots_are =
      subst (λ (o : Origin). list_in (keyslot_of o) (codes "keyslots") ms ≡ Ok keyslots) of is;
}

pub tokens_fail : (hdr_size : ℕ) (ms : Members) (e : ReadError) (keyslots : List (ℕ × Keyslot))
    → ReadSlots ms keyslots → Fails e (list_in token_of (codes "tokens") ms)
    → Fails e (parts_of hdr_size ms)
unfolding parts_of
tokens_fail hdr_size ms e keyslots slots fails =
    fails_after e (all_there meta_names ms) (tt {0}) _ slots.there
    (fails_after e (list_in (keyslot_of (origin_in ms)) (codes "keyslots") ms) keyslots _
    slots.keyslots_are
    (fails_at e (list_in token_of (codes "tokens") ms) _ fails))

pub segments_fail : (hdr_size : ℕ) (ms : Members) (e : ReadError) (keyslots : List (ℕ × Keyslot))
    (tokens : List (ℕ × Token))
    → ReadSlots ms keyslots → list_in token_of (codes "tokens") ms ≡ Ok tokens
    → Fails e (list_in segment_of (codes "segments") ms) → Fails e (parts_of hdr_size ms)
unfolding parts_of
segments_fail hdr_size ms e keyslots tokens slots a fails =
    fails_after e (all_there meta_names ms) (tt {0}) _ slots.there
    (fails_after e (list_in (keyslot_of (origin_in ms)) (codes "keyslots") ms) keyslots _
    slots.keyslots_are
    (fails_after e (list_in token_of (codes "tokens") ms) tokens _ a
    (fails_at e (list_in segment_of (codes "segments") ms) _ fails)))

pub digests_fail : (hdr_size : ℕ) (ms : Members) (e : ReadError) (keyslots : List (ℕ × Keyslot))
    (tokens : List (ℕ × Token)) (segments : List (ℕ × Segment))
    → ReadSlots ms keyslots → list_in token_of (codes "tokens") ms ≡ Ok tokens
    → list_in segment_of (codes "segments") ms ≡ Ok segments
    → Fails e (list_in digest_of (codes "digests") ms) → Fails e (parts_of hdr_size ms)
unfolding parts_of
digests_fail hdr_size ms e keyslots tokens segments slots a b fails =
    fails_after e (all_there meta_names ms) (tt {0}) _ slots.there
    (fails_after e (list_in (keyslot_of (origin_in ms)) (codes "keyslots") ms) keyslots _
    slots.keyslots_are
    (fails_after e (list_in token_of (codes "tokens") ms) tokens _ a
    (fails_after e (list_in segment_of (codes "segments") ms) segments _ b
    (fails_at e (list_in digest_of (codes "digests") ms) _ fails))))

pub config_fails : (hdr_size : ℕ) (ms : Members) (e : ReadError) (keyslots : List (ℕ × Keyslot))
    (tokens : List (ℕ × Token)) (segments : List (ℕ × Segment)) (digests : List (ℕ × Digest))
    → ReadSlots ms keyslots → list_in token_of (codes "tokens") ms ≡ Ok tokens
    → list_in segment_of (codes "segments") ms ≡ Ok segments
    → list_in digest_of (codes "digests") ms ≡ Ok digests
    → Fails e (config_in hdr_size ms) → Fails e (parts_of hdr_size ms)
unfolding parts_of
config_fails hdr_size ms e keyslots tokens segments digests slots a b c fails =
    fails_after e (all_there meta_names ms) (tt {0}) _ slots.there
    (fails_after e (list_in (keyslot_of (origin_in ms)) (codes "keyslots") ms) keyslots _
    slots.keyslots_are
    (fails_after e (list_in token_of (codes "tokens") ms) tokens _ a
    (fails_after e (list_in segment_of (codes "segments") ms) segments _ b
    (fails_after e (list_in digest_of (codes "digests") ms) digests _ c
    (fails_at e (config_in hdr_size ms) _ fails)))))

-- all of it was read
pub parts_read : (hdr_size : ℕ) (ms rest : Members) (keyslots : List (ℕ × Keyslot))
    (tokens : List (ℕ × Token)) (segments : List (ℕ × Segment)) (digests : List (ℕ × Digest))
    (config : Config)
    → ReadSlots ms keyslots → list_in token_of (codes "tokens") ms ≡ Ok tokens
    → list_in segment_of (codes "segments") ms ≡ Ok segments
    → list_in digest_of (codes "digests") ms ≡ Ok digests → config_in hdr_size ms ≡ Ok config
    → rest ≡ without_all meta_names ms
    → parts_of hdr_size ms
    ≡ Ok (record {
      keyslots = keyslots;
      tokens = tokens;
      segments = segments;
      digests = digests;
      config = config;
      rest = rest;
    })
unfolding parts_of
parts_read hdr_size ms rest keyslots tokens segments digests config slots a b c d left =
    goes_on (all_there meta_names ms) (tt {0}) _ _ slots.there
    (goes_on (list_in (keyslot_of (origin_in ms)) (codes "keyslots") ms) keyslots _ _
    slots.keyslots_are
    (goes_on (list_in token_of (codes "tokens") ms) tokens _ _ a
    (goes_on (list_in segment_of (codes "segments") ms) segments _ _ b
    (goes_on (list_in digest_of (codes "digests") ms) digests _ _ c
    (goes_on (config_in hdr_size ms) config _ _ d
    (ap (λ (r : Members). Ok
    (record {
      keyslots = keyslots;
      tokens = tokens;
      segments = segments;
      digests = digests;
      config = config;
      rest = r;
    })) (sym left)))))))
