-- A keyslot and its members.
use Rattle.std.proofs.Common.{◌≡◌, ℕ, ◌&&◌, List, Bool, true, false, cond, codes}
use Rattle.std.proofs.Common.{bytes_eq, Option, Some, None, option_map, IfSome, Ok, refl, sym, ap}
use Rattle.std.proofs.Common.{subst, ◌∙◌}
use Rattle.serde_json.specs.Data.{Data, string, object, Members}
use Rattle.json_members.specs.Fields.{under, text_in, decimal_in, object_in, optional}
use Rattle.json_members.specs.Forms.{HasText, HasObject, HasOptional}
use Rattle.json_members.specs.Members.{put_optional, Lacks, IsPlain}
use Rattle.json_members.proofs.DecimalLemmas.{both}
use Rattle.json_members.proofs.DataLemmas.{text_plain, object_plain, object_member-plain}
use Rattle.json_members.proofs.DataLemmas.{optional_plain}
use Rattle.json_members.proofs.FieldLemmas.{text_in-string, text_got, decimal_in-decimal}
use Rattle.json_members.proofs.FieldLemmas.{decimal_got, object_in-object, object_got, optional_got}
use Rattle.json_members.proofs.FieldLemmas.{has_optional}
use Rattle.json_members.proofs.PlainLemmas.{put_all-plain, without_all-plain, Lacks-without_all}
use Rattle.json_members.proofs.PutLemmas.{get_member-put_all, get_member-put_optional}
use Rattle.json_members.proofs.PutLemmas.{without_all-put_all, without_all-put_all_among}
use Rattle.json_members.proofs.PutLemmas.{without_all-put_optional, without_all-gone}
use Rattle.json_members.proofs.ReadLemmas.{Right, then, right_at, each_right}
use Rattle.luks_meta.specs.declared.keyslot.OtherArea.{OtherArea}
use Rattle.luks_meta.specs.declared.keyslot.OtherSlot.{OtherSlot}
use Rattle.luks_meta.specs.declared.keyslot.Keyslot.{Keyslot}
use Rattle.luks_meta.specs.declared.keyslot.Keyslot.TheVariants as keyslots
use Rattle.luks_meta.specs.declared.keyslot.Origin.{Origin}
use Rattle.luks_meta.specs.declared.keyslot.Origin.TheVariants.{Own, Foreign}
use Rattle.luks_meta.specs.declared.keyslot.SlotType.{SlotType}
use Rattle.luks_meta.specs.declared.keyslot.SlotType.TheVariants as types
use Rattle.luks_json.specs.Keyslots.{luks2_of, other_area_of, other_area_in}
use Rattle.luks_meta.specs.Keyslots.{other_area_names}
use Rattle.luks_meta.specs.Keyslots.{other_names, is_own, slot_type}
use Rattle.luks_json.specs.Keyslots.{other_of, keyslot_by}
use Rattle.luks_json.specs.Keyslots.{keyslot_of, other_area_fields}
use Rattle.luks_json.specs.Keyslots.{other_area_members, other_fields, other_members}
use Rattle.luks_json.specs.Keyslots.{keyslot_members, HasLuks2, HasOtherArea, HasOther, HasKeyslot}
use Rattle.luks_meta.specs.Keyslots.{IsOtherArea, IsOther, IsKeyslot}
use Rattle.luks_json.specs.Reencrypts.{reencrypt_of, HasReencrypt}
use Rattle.luks_json.proofs.Luks2Lemmas.{luks2_read, luks2_made, luks2_written, luks2_right}
use Rattle.luks_json.proofs.Luks2Lemmas.{luks2_plain}
use Rattle.luks_json.proofs.NameLemmas.{same_text}
use Rattle.luks_json.proofs.ReencryptLemmas.{reencrypt_read, reencrypt_made, reencrypt_written}
use Rattle.luks_json.proofs.ReencryptLemmas.{reencrypt_right, reencrypt_plain}

-- ---- the area of a keyslot of another type
other_area_read : (path : List ℕ) (ms : Members) → Right (HasOtherArea ms) (other_area_of path ms)
unfolding other_area_of
other_area_read path ms =
    then (decimal_in path (codes "offset") ms) _ _ (λ offset a.
    then (decimal_in path (codes "size") ms) _ _ (λ size b.
    record {
      offset = decimal_got path (codes "offset") ms offset a;
      size =
          decimal_got path (codes "size") ms size b;
      rest = refl;
    }))

other_area_made : (path : List ℕ) (ms : Members) (a : OtherArea) → HasOtherArea ms a
    → other_area_of path ms ≡ Ok a
unfolding other_area_of
other_area_made path ms a h =
    rw (
      decimal_in-decimal path (codes "offset") ms a.offset h.offset.0 h.offset.1,
      decimal_in-decimal path (codes "size") ms a.size h.size.0 h.size.1,
    )
    (ap (λ (x : Members). Ok (record { offset = a.offset; size = a.size; rest = x })) (sym h.rest))

other_area_written : (a : OtherArea) → IsOtherArea a → HasOtherArea (other_area_members a) a
unfolding other_area_members
other_area_written a is =
    let at = λ (name : List ℕ). get_member-put_all name (other_area_fields a) a.rest in
    record {
      offset = (at (codes "offset"), is.offset);
      size = (at (codes "size"), is.size);
      rest =
          sym (without_all-put_all other_area_names (other_area_fields a) a.rest refl is.lacks);
    }

other_area_right : (ms : Members) (a : OtherArea) → IsPlain 123 ms → HasOtherArea ms a
    → IsOtherArea a
other_area_right ms a plain h = record {
  offset = h.offset.1;
  size = h.size.1;
  lacks = subst (Lacks other_area_names) (sym h.rest) (Lacks-without_all other_area_names ms);
  plain = subst (IsPlain 123) (sym h.rest) (without_all-plain other_area_names ms plain);
}

other_area_plain : (a : OtherArea) → IsOtherArea a → IsPlain 123 (other_area_members a)
unfolding other_area_members
other_area_plain a is =
    put_all-plain (other_area_fields a) a.rest (text_plain _, (text_plain _, tt)) is.plain

-- ---- a keyslot of another type
abbrev AreaForm : Members → OtherArea → Type 0
AreaForm ms a = (inner : Members) × HasObject (codes "area") inner ms × HasOtherArea inner a

abbrev area_shape : OtherArea → Data
area_shape a = object (other_area_members a)

area_got : (path : List ℕ) (ms : Members) (a : OtherArea) → other_area_in path ms ≡ Ok a
    → AreaForm ms a
unfolding other_area_in
area_got path ms a e = right_at (other_area_in path ms) a (AreaForm ms) e (
    then (object_in path (codes "area") ms) _ _ (λ inner b.
    each_right (other_area_of (under path (codes "area")) inner) (AreaForm ms) (λ x c. (
      inner,
      object_got path (codes "area") ms inner b,
      right_at _ x (HasOtherArea inner) c (other_area_read (under path (codes "area")) inner),
    ))))

area_made : (path : List ℕ) (ms : Members) (a : OtherArea) → AreaForm ms a
    → other_area_in path ms ≡ Ok a
unfolding other_area_in
area_made path ms a h =
    rw (object_in-object path (codes "area") ms h.0 h.1)
    (other_area_made (under path (codes "area")) h.0 a h.2)

other_read : (kind path : List ℕ) (ms : Members)
    → Right (λ s. (s.kind ≡ kind) × HasOther ms s) (other_of kind path ms)
unfolding other_of
other_read kind path ms =
    then (optional (codes "area") ms (other_area_in path ms)) _ _ (λ area a. (
      refl,
      record {
        area =
            optional_got (codes "area") ms (other_area_in path ms) (AreaForm ms) area
            (λ x e. area_got path ms x e) a;
        rest = refl;
      },
    ))

optional_area_made : (path : List ℕ) (ms : Members) (o : Option OtherArea)
    → HasOptional (codes "area") (AreaForm ms) o ms
    → optional (codes "area") ms (other_area_in path ms) ≡ Ok o
optional_area_made path ms None h = rw h refl
optional_area_made path ms (Some a) h = rw (h.1, area_made path ms a h) refl

other_made : (path : List ℕ) (ms : Members) (s : OtherSlot) → HasOther ms s
    → other_of s.kind path ms ≡ Ok s
unfolding other_of
other_made path ms s h =
    rw (optional_area_made path ms s.area h.area)
    (ap (λ (x : Members). Ok (record { kind = s.kind; area = s.area; rest = x })) (sym h.rest))

there : (o : Option OtherArea) (a : OtherArea) → IfSome o IsOtherArea → o ≡ Some a → IsOtherArea a
there o a is e = subst (λ x. IfSome x IsOtherArea) e is

other_written : (s : OtherSlot) → IsOther s
    → HasText (codes "type") s.kind (other_members s) × HasOther (other_members s) s
unfolding other_members
other_written s is =
    let base = put_optional (codes "area") (option_map area_shape s.area) s.rest in
    let at = λ (name : List ℕ). get_member-put_all name (other_fields s) base in (
      at (codes "type"),
      record {
        area = has_optional (codes "area") (other_members s) area_shape (AreaForm (other_members s))
            s.area
            (at (codes "area")
            ∙ get_member-put_optional (codes "area") (option_map area_shape s.area) s.rest
            is.lacks.1.0)
            (λ a e h. (other_area_members a, h, other_area_written a (there s.area a is.area e)));
        rest = sym
            (without_all-put_all_among other_names (other_fields s) base refl
            ∙ without_all-put_optional other_names (codes "area") (option_map area_shape s.area)
            s.rest refl
            ∙ without_all-gone other_names s.rest is.lacks);
      },
    )

optional_area_right : (ms : Members) (o : Option OtherArea) → IsPlain 124 ms
    → HasOptional (codes "area") (AreaForm ms) o ms → IfSome o IsOtherArea
optional_area_right ms None plain h = tt
optional_area_right ms (Some a) plain h =
    other_area_right h.0 a (object_member-plain (codes "area") ms h.0 plain h.1) h.2

other_right : (ms : Members) (s : OtherSlot) → IsPlain 124 ms → HasOther ms s → IsOther s
other_right ms s plain h = record {
  area = optional_area_right ms s.area plain h.area;
  lacks = subst (Lacks other_names) (sym h.rest) (Lacks-without_all other_names ms);
  plain = subst (IsPlain 124) (sym h.rest) (without_all-plain other_names ms plain);
}

other_plain : (s : OtherSlot) → IsOther s → IsPlain 124 (other_members s)
unfolding other_members
other_plain s is =
    put_all-plain (other_fields s) _ (text_plain _, tt)
    (optional_plain (codes "area") area_shape s.area s.rest
    (λ a e. object_plain _ (other_area_plain a (there s.area a is.area e))) is.plain)

-- ---- by its type
abbrev Named : Origin → List ℕ → SlotType → Type 0
Named origin kind types.Luks2 = kind ≡ codes "luks2"
Named origin kind types.Reencrypt = (kind ≡ codes "reencrypt") × (origin ≡ Own)
Named origin kind types.Unknown = slot_type origin kind ≡ types.Unknown

luks2_only : (a b : Bool) → cond a types.Luks2 (cond b types.Reencrypt types.Unknown) ≡ types.Luks2
    → a ≡ true
luks2_only true b h = refl
luks2_only false true h = cc
luks2_only false false h = cc

reencrypt_only : (a b : Bool)
    → cond a types.Luks2 (cond b types.Reencrypt types.Unknown) ≡ types.Reencrypt → b ≡ true
reencrypt_only true b h = cc
reencrypt_only false true h = refl
reencrypt_only false false h = cc

own_only : (o : Origin) → is_own o ≡ true → o ≡ Own
own_only Own h = refl
own_only Foreign h = cc

named : (origin : Origin) (kind : List ℕ) (t : SlotType) → slot_type origin kind ≡ t
    → Named origin kind t
named origin kind types.Luks2 h =
    same_text kind (codes "luks2")
    (luks2_only (bytes_eq kind (codes "luks2")) (bytes_eq kind (codes "reencrypt") && is_own origin)
    h)
named origin kind types.Reencrypt h =
    let own =
    both (bytes_eq kind (codes "reencrypt")) (is_own origin)
    (reencrypt_only (bytes_eq kind (codes "luks2"))
    (bytes_eq kind (codes "reencrypt") && is_own origin) h) in
    (same_text kind (codes "reencrypt") own.0, own_only origin own.1)
named origin kind types.Unknown h = h

by_type-read : (origin : Origin) (kind path : List ℕ) (ms : Members) (t : SlotType)
    → Named origin kind t → HasText (codes "type") kind ms
    → Right (HasKeyslot origin ms) (keyslot_by t kind path ms)
by_type-read origin kind path ms types.Luks2 is has =
    then (luks2_of path ms) _ _
    (λ s e. (has ∙ ap (λ x. Some (string x)) is, right_at _ s (HasLuks2 ms) e (luks2_read path ms)))
by_type-read origin kind path ms types.Reencrypt is has =
    then (reencrypt_of path ms) _ _
    (λ s e. (
      has ∙ ap (λ x. Some (string x)) is.0,
      is.1,
      right_at _ s (HasReencrypt ms) e (reencrypt_read path ms),
    ))
by_type-read origin kind path ms types.Unknown is has =
    then (other_of kind path ms) _ _ (λ s e.
    let got =
    right_at _ s (λ (x : OtherSlot). (x.kind ≡ kind) × HasOther ms x) e (other_read kind path ms) in
    (has ∙ ap (λ x. Some (string x)) (sym got.0), ap (slot_type origin) got.0 ∙ is, got.1))

pub keyslot_read : (origin : Origin) (path : List ℕ) (ms : Members)
    → Right (HasKeyslot origin ms) (keyslot_of origin path ms)
unfolding keyslot_of
keyslot_read origin path ms =
    then (text_in path (codes "type") ms) _ _ (λ kind a.
    by_type-read origin kind path ms (slot_type origin kind)
    (named origin kind (slot_type origin kind) refl) (text_got path (codes "type") ms kind a))

pub keyslot_made : (origin : Origin) (path : List ℕ) (ms : Members) (s : Keyslot)
    → HasKeyslot origin ms s → keyslot_of origin path ms ≡ Ok s
unfolding keyslot_of
keyslot_made origin path ms (keyslots.Luks2 s) h =
    rw (text_in-string path (codes "type") ms (codes "luks2") h.0, luks2_made path ms s h.1) refl
keyslot_made origin path ms (keyslots.Reencrypt s) h =
    rw (
      text_in-string path (codes "type") ms (codes "reencrypt") h.0,
      h.1,
      reencrypt_made path ms s h.2,
    ) refl
keyslot_made origin path ms (keyslots.Unknown s) h =
    rw (text_in-string path (codes "type") ms s.kind h.0, h.1, other_made path ms s h.2) refl

pub keyslot_written : (origin : Origin) (s : Keyslot) → IsKeyslot origin s
    → HasKeyslot origin (keyslot_members s) s
unfolding keyslot_members
keyslot_written origin (keyslots.Luks2 s) is = luks2_written s is
keyslot_written origin (keyslots.Reencrypt s) is = let w =
    reencrypt_written s is.1 in (w.0, is.0, w.1)
keyslot_written origin (keyslots.Unknown s) is = let w = other_written s is.1 in (w.0, is.0, w.1)

pub keyslot_right : (origin : Origin) (ms : Members) (s : Keyslot) → IsPlain 124 ms
    → HasKeyslot origin ms s → IsKeyslot origin s
keyslot_right origin ms (keyslots.Luks2 s) plain h = luks2_right ms s plain h.1
keyslot_right origin ms (keyslots.Reencrypt s) plain h = (h.1, reencrypt_right ms s plain h.2)
keyslot_right origin ms (keyslots.Unknown s) plain h = (h.1, other_right ms s plain h.2)

pub keyslot_plain : (origin : Origin) (s : Keyslot) → IsKeyslot origin s
    → IsPlain 124 (keyslot_members s)
unfolding keyslot_members
keyslot_plain origin (keyslots.Luks2 s) is = luks2_plain s is
keyslot_plain origin (keyslots.Reencrypt s) is = reencrypt_plain s is.1
keyslot_plain origin (keyslots.Unknown s) is = other_plain s is.1
