-- A keyslot that a passphrase opens, and its members.
use Rattle.std.proofs.Common.{◌≡◌, ℕ, ◌==◌, List, Bool, true, false, codes}
use Rattle.std.proofs.Common.{bytes_eq, Option, Some, option_map, Ok, refl, sym, ap, subst}
use Rattle.std.proofs.Common.{◌∙◌}
use Rattle.std.proofs.lemmas.Bool.{eqb-true}
use Rattle.std.specs.List.{AllByRecursion}
use Rattle.serde_json.specs.Data.{Data, string, number, unsigned, Members}
use Rattle.json_members.specs.Fields.{under, text_in, word_in, number_in, counted_in}
use Rattle.json_members.specs.Fields.{decimal_in, bytes_in, object_in, optional}
use Rattle.json_members.specs.Forms.{HasText, HasNumber, HasOptional}
use Rattle.json_members.specs.Members.{put_optional, Lacks, IsPlain}
use Rattle.json_members.specs.Members.{IsPlainData}
use Rattle.json_members.proofs.DataLemmas.{text_plain, number_plain, object_plain}
use Rattle.json_members.proofs.DataLemmas.{object_member-plain, optional_plain}
use Rattle.json_members.proofs.FieldLemmas.{text_in-string, text_got, word_in-word, word_got}
use Rattle.json_members.proofs.FieldLemmas.{number_in-unsigned, number_got, decimal_in-decimal}
use Rattle.json_members.proofs.FieldLemmas.{decimal_got, bytes_in-bytes, bytes_got}
use Rattle.json_members.proofs.FieldLemmas.{counted_in-number, counted_got, object_in-object}
use Rattle.json_members.proofs.FieldLemmas.{object_got, optional_got, optional-read, has_optional}
use Rattle.json_members.proofs.PlainLemmas.{put_all-plain, without_all-plain, Lacks-without_all}
use Rattle.json_members.proofs.PutLemmas.{get_member-put_all, get_member-put_optional}
use Rattle.json_members.proofs.PutLemmas.{without_all-put_all, without_all-put_all_among}
use Rattle.json_members.proofs.PutLemmas.{without_all-put_optional, without_all-gone}
use Rattle.json_members.proofs.ReadLemmas.{Right, then, right_at}
use Rattle.luks_meta.specs.declared.keyslot.SlotArea.{SlotArea}
use Rattle.luks_meta.specs.declared.keyslot.Derivation.{Derivation}
use Rattle.luks_meta.specs.declared.keyslot.Derivation.TheVariants as derivations
use Rattle.luks_meta.specs.declared.keyslot.Kdf.{Kdf}
use Rattle.luks_meta.specs.declared.keyslot.Splitter.{Splitter}
use Rattle.luks_meta.specs.declared.keyslot.Priority.{Priority}
use Rattle.luks_meta.specs.declared.keyslot.Priority.TheVariants.{Ignore, Normal, High}
use Rattle.luks_meta.specs.declared.keyslot.Luks2.{Luks2}
use Rattle.luks_meta.specs.Keyslots.{slot_area_names}
use Rattle.luks_json.specs.Keyslots.{slot_area_of, pbkdf2_in, derivation_by}
use Rattle.luks_meta.specs.Keyslots.{kdf_names, splitter_names}
use Rattle.luks_json.specs.Keyslots.{kdf_of, splitter_of, priority_of}
use Rattle.luks_meta.specs.Keyslots.{luks2_names}
use Rattle.luks_json.specs.Keyslots.{luks2_of, slot_area_fields, slot_area_members}
use Rattle.luks_json.specs.Keyslots.{kdf_fields, kdf_members, splitter_fields, splitter_members}
use Rattle.luks_meta.specs.Keyslots.{priority_number}
use Rattle.luks_json.specs.Keyslots.{luks2_fields, luks2_members, HasSlotArea}
use Rattle.luks_json.specs.Keyslots.{HasPbkdf2, HasDerivation, HasKdf, HasSplitter}
use Rattle.luks_json.specs.Keyslots.{HasLuks2}
use Rattle.luks_meta.specs.Keyslots.{IsSlotArea, IsDerivation, IsKdf}
use Rattle.luks_meta.specs.Keyslots.{IsSplitter, IsLuks2}
use Rattle.luks_meta.specs.Names.{iterations_of}
use Rattle.luks_json.proofs.NameLemmas.{one_of_three, by_three, same_text, iterations_got}
use Rattle.luks_json.proofs.NameLemmas.{iterations_made}

-- ---- the area
slot_area_read : (path : List ℕ) (ms : Members) → Right (HasSlotArea ms) (slot_area_of path ms)
unfolding slot_area_of
slot_area_read path ms =
    then (word_in (codes "raw") path (codes "type") ms) _ _ (λ u a.
    then (text_in path (codes "encryption") ms) _ _ (λ encryption b.
    then (number_in path (codes "key_size") ms) _ _ (λ key_size c.
    then (decimal_in path (codes "offset") ms) _ _ (λ offset d.
    then (decimal_in path (codes "size") ms) _ _ (λ size e.
    record {
      kind = word_got (codes "raw") path (codes "type") ms u a;
      encryption = text_got path (codes "encryption") ms encryption b;
      key_size = number_got path (codes "key_size") ms key_size c;
      offset = decimal_got path (codes "offset") ms offset d;
      size = decimal_got path (codes "size") ms size e;
      rest = refl;
    })))))

slot_area_made : (path : List ℕ) (ms : Members) (a : SlotArea) → HasSlotArea ms a
    → slot_area_of path ms ≡ Ok a
unfolding slot_area_of
slot_area_made path ms a h =
    rw (
      word_in-word (codes "raw") path (codes "type") ms h.kind,
      text_in-string path (codes "encryption") ms a.encryption h.encryption,
      number_in-unsigned path (codes "key_size") ms a.key_size h.key_size,
      decimal_in-decimal path (codes "offset") ms a.offset h.offset.0 h.offset.1,
      decimal_in-decimal path (codes "size") ms a.size h.size.0 h.size.1,
    )
    (ap (λ (x : Members). Ok
    (record {
      encryption = a.encryption;
      key_size = a.key_size;
      offset = a.offset;
      size =
          a.size;
      rest = x;
    })) (sym h.rest))

slot_area_written : (a : SlotArea) → IsSlotArea a → HasSlotArea (slot_area_members a) a
unfolding slot_area_members
slot_area_written a is =
    let at = λ (name : List ℕ). get_member-put_all name (slot_area_fields a) a.rest in
    record {
      kind = at (codes "type");
      encryption = at (codes "encryption");
      key_size = at (codes "key_size");
      offset = (at (codes "offset"), is.offset);
      size = (at (codes "size"), is.size);
      rest = sym (without_all-put_all slot_area_names (slot_area_fields a) a.rest refl is.lacks);
    }

slot_area_right : (ms : Members) (a : SlotArea) → IsPlain 123 ms → HasSlotArea ms a → IsSlotArea a
slot_area_right ms a plain h = record {
  offset = h.offset.1;
  size = h.size.1;
  lacks = subst (Lacks slot_area_names) (sym h.rest) (Lacks-without_all slot_area_names ms);
  plain = subst (IsPlain 123) (sym h.rest) (without_all-plain slot_area_names ms plain);
}

slot_area_plain : (a : SlotArea) → IsSlotArea a → IsPlain 123 (slot_area_members a)
unfolding slot_area_members
slot_area_plain a is =
    put_all-plain (slot_area_fields a) a.rest
    (text_plain _, (text_plain _, (number_plain _, (text_plain _, (text_plain _, tt))))) is.plain

-- ---- the key derivation
pbkdf2_read : (path : List ℕ) (ms : Members) → HasText (codes "type") (codes "pbkdf2") ms
    → Right (HasPbkdf2 ms) (pbkdf2_in path ms)
unfolding pbkdf2_in
pbkdf2_read path ms has =
    then (text_in path (codes "hash") ms) _ _ (λ hash a.
    then (counted_in iterations_of path (codes "iterations") ms) _ _ (λ iterations b.
    then (bytes_in path (codes "salt") ms) _ _ (λ salt c.
    let counted = iterations_got path (codes "iterations") ms iterations b in
    record {
      kind = has;
      hash = text_got path (codes "hash") ms hash a;
      iterations =
          counted.0;
      within = counted.1;
      salt = bytes_got path (codes "salt") ms salt c;
    })))

derivation_read : (kind path : List ℕ) (ms : Members) (b : Bool)
    → bytes_eq kind (codes "pbkdf2") ≡ b → HasText (codes "type") kind ms
    → Right (HasDerivation ms) (derivation_by b kind path ms)
derivation_read kind path ms true is has =
    then (pbkdf2_in path ms) _ _
    (λ k e. right_at _ k (HasPbkdf2 ms) e
    (pbkdf2_read path ms (has ∙ ap (λ s. Some (string s)) (same_text kind (codes "pbkdf2") is))))
derivation_read kind path ms false is has = record { has_kind = has; other = is }

kdf_read : (path : List ℕ) (ms : Members) → Right (HasKdf ms) (kdf_of path ms)
unfolding kdf_of
kdf_read path ms =
    then (text_in path (codes "type") ms) _ _ (λ kind a.
    then (derivation_by (bytes_eq kind (codes "pbkdf2")) kind path ms) _ _ (λ derivation b.
    record {
      derivation =
          right_at _ derivation (HasDerivation ms) b
          (derivation_read kind path ms _ refl (text_got path (codes "type") ms kind a));
      rest = refl;
    }))

kdf_made_at : (path : List ℕ) (ms : Members) (d : Derivation) (rest : Members)
    → HasKdf ms (record { derivation = d; rest = rest })
    → kdf_of path ms ≡ Ok (record { derivation = d; rest = rest })
unfolding kdf_of pbkdf2_in
kdf_made_at path ms (derivations.Pbkdf2 k) rest h =
    let d = h.derivation in
    rw (
      text_in-string path (codes "type") ms (codes "pbkdf2") d.kind,
      text_in-string path (codes "hash") ms k.hash d.hash,
      iterations_made path (codes "iterations") ms k.iterations d.iterations d.within,
      bytes_in-bytes path (codes "salt") ms k.salt d.salt.0 d.salt.1,
    )
    (ap (λ (x : Members). Ok (record { derivation = derivations.Pbkdf2 k; rest = x })) (sym h.rest))
kdf_made_at path ms (derivations.Unknown kind) rest h =
    let d = h.derivation in
    rw (text_in-string path (codes "type") ms kind d.has_kind, d.other)
    (ap (λ (x : Members). Ok (record { derivation = derivations.Unknown kind; rest = x }))
    (sym h.rest))

kdf_made : (path : List ℕ) (ms : Members) (k : Kdf) → HasKdf ms k → kdf_of path ms ≡ Ok k
kdf_made path ms k h = kdf_made_at path ms k.derivation k.rest h

kdf_written_at : (d : Derivation) (rest : Members) → IsKdf (record { derivation = d; rest = rest })
    → HasKdf (kdf_members (record { derivation = d; rest = rest }))
    (record { derivation = d; rest = rest })
unfolding kdf_members
kdf_written_at (derivations.Pbkdf2 k) rest is =
    let fields = kdf_fields (derivations.Pbkdf2 k) in
    let at = λ (name : List ℕ). get_member-put_all name fields rest in
    record {
      derivation =
          record {
            kind = at (codes "type");
            hash = at (codes "hash");
            iterations =
                at (codes "iterations");
            within = is.derivation.iterations;
            salt = (at (codes "salt"), is.derivation.salt);
          };
      rest = sym (without_all-put_all (kdf_names (derivations.Pbkdf2 k)) fields rest refl is.lacks);
    }
kdf_written_at (derivations.Unknown kind) rest is =
    let fields = kdf_fields (derivations.Unknown kind) in
    record {
      derivation =
          record {
            has_kind = get_member-put_all (codes "type") fields rest;
            other =
                is.derivation;
          };
      rest = sym
          (without_all-put_all (kdf_names (derivations.Unknown kind)) fields rest refl is.lacks);
    }

kdf_written : (k : Kdf) → IsKdf k → HasKdf (kdf_members k) k
kdf_written k is = kdf_written_at k.derivation k.rest is

derivation_right : (ms : Members) (d : Derivation) → HasDerivation ms d → IsDerivation d
derivation_right ms (derivations.Pbkdf2 k) h = record { iterations = h.within; salt = h.salt.1 }
derivation_right ms (derivations.Unknown kind) h = h.other

kdf_right : (ms : Members) (k : Kdf) → IsPlain 123 ms → HasKdf ms k → IsKdf k
kdf_right ms k plain h =
    let names = kdf_names k.derivation in
    record {
      derivation = derivation_right ms k.derivation h.derivation;
      lacks = subst (Lacks names) (sym h.rest) (Lacks-without_all names ms);
      plain = subst (IsPlain 123) (sym h.rest) (without_all-plain names ms plain);
    }

kdf_fields_plain : (d : Derivation) → AllByRecursion (λ f. IsPlainData 123 f.1) (kdf_fields d)
kdf_fields_plain (derivations.Pbkdf2 k) =
    (text_plain _, (text_plain _, (number_plain _, (text_plain _, tt))))
kdf_fields_plain (derivations.Unknown kind) = (text_plain _, tt)

kdf_plain : (k : Kdf) → IsKdf k → IsPlain 123 (kdf_members k)
unfolding kdf_members
kdf_plain k is =
    put_all-plain (kdf_fields k.derivation) k.rest (kdf_fields_plain k.derivation) is.plain

-- ---- the splitter
splitter_read : (path : List ℕ) (ms : Members) → Right (HasSplitter ms) (splitter_of path ms)
unfolding splitter_of
splitter_read path ms =
    then (word_in (codes "luks1") path (codes "type") ms) _ _ (λ u a.
    then (number_in path (codes "stripes") ms) _ _ (λ stripes b.
    then (text_in path (codes "hash") ms) _ _ (λ hash c.
    record {
      kind = word_got (codes "luks1") path (codes "type") ms u a;
      stripes =
          number_got path (codes "stripes") ms stripes b;
      hash = text_got path (codes "hash") ms hash c;
      rest = refl;
    })))

splitter_made : (path : List ℕ) (ms : Members) (s : Splitter) → HasSplitter ms s
    → splitter_of path ms ≡ Ok s
unfolding splitter_of
splitter_made path ms s h =
    rw (
      word_in-word (codes "luks1") path (codes "type") ms h.kind,
      number_in-unsigned path (codes "stripes") ms s.stripes h.stripes,
      text_in-string path (codes "hash") ms s.hash h.hash,
    )
    (ap (λ (x : Members). Ok (record { stripes = s.stripes; hash = s.hash; rest = x }))
    (sym h.rest))

splitter_written : (s : Splitter) → IsSplitter s → HasSplitter (splitter_members s) s
unfolding splitter_members
splitter_written s is =
    let at = λ (name : List ℕ). get_member-put_all name (splitter_fields s) s.rest in
    record {
      kind = at (codes "type");
      stripes = at (codes "stripes");
      hash =
          at (codes "hash");
      rest = sym (without_all-put_all splitter_names (splitter_fields s) s.rest refl is.lacks);
    }

splitter_right : (ms : Members) (s : Splitter) → IsPlain 123 ms → HasSplitter ms s → IsSplitter s
splitter_right ms s plain h = record {
  lacks = subst (Lacks splitter_names) (sym h.rest) (Lacks-without_all splitter_names ms);
  plain = subst (IsPlain 123) (sym h.rest) (without_all-plain splitter_names ms plain);
}

splitter_plain : (s : Splitter) → IsSplitter s → IsPlain 123 (splitter_members s)
unfolding splitter_members
splitter_plain s is =
    put_all-plain (splitter_fields s) s.rest (text_plain _, (number_plain _, (text_plain _, tt)))
    is.plain

-- ---- the priority
priority_of-exact : (n : ℕ) (p : Priority) → priority_of n ≡ Some p → n ≡ priority_number p
priority_of-exact n p h = by_three (one_of_three (n == 0) (n == 1) (n == 2) Ignore Normal High p h)
    (λ is. eqb-true n 0 is.0 ∙ ap priority_number is.1)
    (λ is. eqb-true n 1 is.0 ∙ ap priority_number is.1)
    (λ is. eqb-true n 2 is.0 ∙ ap priority_number is.1)

priority_of-number : (p : Priority) → priority_of (priority_number p) ≡ Some p
priority_of-number Ignore = refl
priority_of-number Normal = refl
priority_of-number High = refl

priority_got : (path : List ℕ) (ms : Members) (p : Priority)
    → counted_in priority_of path (codes "priority") ms ≡ Ok p
    → HasNumber (codes "priority") (priority_number p) ms
priority_got path ms p e =
    let got = counted_got priority_of path (codes "priority") ms p e in
    got.1 ∙ ap (λ n. Some (number (unsigned n))) (priority_of-exact got.0 p got.2)

-- ---- the keyslot
pub luks2_read : (path : List ℕ) (ms : Members) → Right (HasLuks2 ms) (luks2_of path ms)
unfolding luks2_of
luks2_read path ms =
    then (number_in path (codes "key_size") ms) _ _ (λ key_size a.
    then (object_in path (codes "area") ms) _ _ (λ area_members b.
    then (slot_area_of (under path (codes "area")) area_members) _ _ (λ area c.
    then (object_in path (codes "kdf") ms) _ _ (λ kdf_inner d.
    then (kdf_of (under path (codes "kdf")) kdf_inner) _ _ (λ kdf e.
    then (object_in path (codes "af") ms) _ _ (λ af_inner f.
    then (splitter_of (under path (codes "af")) af_inner) _ _ (λ af g.
    then (optional (codes "priority") ms (counted_in priority_of path (codes "priority") ms)) _ _
    (λ priority h.
    record {
      key_size = number_got path (codes "key_size") ms key_size a;
      area = (
        area_members,
        object_got path (codes "area") ms area_members b,
        right_at _ area (HasSlotArea area_members) c
            (slot_area_read (under path (codes "area")) area_members),
      );
      kdf = (
        kdf_inner,
        object_got path (codes "kdf") ms kdf_inner d,
        right_at _ kdf (HasKdf kdf_inner) e (kdf_read (under path (codes "kdf")) kdf_inner),
      );
      af = (
        af_inner,
        object_got path (codes "af") ms af_inner f,
        right_at _ af (HasSplitter af_inner) g (splitter_read (under path (codes "af")) af_inner),
      );
      priority =
          optional_got (codes "priority") ms (counted_in priority_of path (codes "priority") ms)
          (λ p. HasNumber (codes "priority") (priority_number p) ms) priority
          (λ p is. priority_got path ms p is) h;
      rest = refl;
    }))))))))

priority_made : (path : List ℕ) (ms : Members) (o : Option Priority)
    → HasOptional (codes "priority") (λ p. HasNumber (codes "priority") (priority_number p) ms) o ms
    → optional (codes "priority") ms (counted_in priority_of path (codes "priority") ms) ≡ Ok o
priority_made path ms o h =
    optional-read (codes "priority") ms (counted_in priority_of path (codes "priority") ms)
    (λ p. HasNumber (codes "priority") (priority_number p) ms)
    (λ p. number (unsigned (priority_number p))) o
    (λ p has. (
      has,
      counted_in-number priority_of path (codes "priority") ms (priority_number p) p has
          (priority_of-number p),
    )) h

pub luks2_made : (path : List ℕ) (ms : Members) (s : Luks2) → HasLuks2 ms s
    → luks2_of path ms ≡ Ok s
unfolding luks2_of
luks2_made path ms s h =
    rw (
      number_in-unsigned path (codes "key_size") ms s.key_size h.key_size,
      object_in-object path (codes "area") ms h.area.0 h.area.1,
      slot_area_made (under path (codes "area")) h.area.0 s.area h.area.2,
      object_in-object path (codes "kdf") ms h.kdf.0 h.kdf.1,
      kdf_made (under path (codes "kdf")) h.kdf.0 s.kdf h.kdf.2,
      object_in-object path (codes "af") ms h.af.0 h.af.1,
      splitter_made (under path (codes "af")) h.af.0 s.af h.af.2,
      priority_made path ms s.priority h.priority,
    )
    (ap (λ (x : Members). Ok
    (record {
      key_size = s.key_size;
      area = s.area;
      kdf = s.kdf;
      af = s.af;
      priority =
          s.priority;
      rest = x;
    })) (sym h.rest))

abbrev priority_shape : Priority → Data
priority_shape p = number (unsigned (priority_number p))

pub luks2_written : (s : Luks2) → IsLuks2 s
    → HasText (codes "type") (codes "luks2") (luks2_members s) × HasLuks2 (luks2_members s) s
unfolding luks2_members
luks2_written s is =
    let base = put_optional (codes "priority") (option_map priority_shape s.priority) s.rest in
    let at = λ (name : List ℕ). get_member-put_all name (luks2_fields s) base in (
      at (codes "type"),
      record {
        key_size = at (codes "key_size");
        area = (slot_area_members s.area, at (codes "area"), slot_area_written s.area is.area);
        kdf = (kdf_members s.kdf, at (codes "kdf"), kdf_written s.kdf is.kdf);
        af = (splitter_members s.af, at (codes "af"), splitter_written s.af is.af);
        priority =
            has_optional (codes "priority") (luks2_members s) priority_shape
            (λ p. HasNumber (codes "priority") (priority_number p) (luks2_members s)) s.priority
            (at (codes "priority")
            ∙ get_member-put_optional (codes "priority") (option_map priority_shape s.priority)
            s.rest is.lacks.1.1.1.1.1.0) (λ p e h. h);
        rest = sym
            (without_all-put_all_among luks2_names (luks2_fields s) base refl
            ∙ without_all-put_optional luks2_names (codes "priority")
            (option_map priority_shape s.priority) s.rest refl
            ∙ without_all-gone luks2_names s.rest is.lacks);
      },
    )

pub luks2_right : (ms : Members) (s : Luks2) → IsPlain 124 ms → HasLuks2 ms s → IsLuks2 s
luks2_right ms s plain h = record {
  area = slot_area_right h.area.0 s.area
      (object_member-plain (codes "area") ms h.area.0 plain h.area.1) h.area.2;
  kdf = kdf_right h.kdf.0 s.kdf (object_member-plain (codes "kdf") ms h.kdf.0 plain h.kdf.1)
      h.kdf.2;
  af = splitter_right h.af.0 s.af (object_member-plain (codes "af") ms h.af.0 plain h.af.1) h.af.2;
  lacks = subst (Lacks luks2_names) (sym h.rest) (Lacks-without_all luks2_names ms);
  plain = subst (IsPlain 124) (sym h.rest) (without_all-plain luks2_names ms plain);
}

pub luks2_plain : (s : Luks2) → IsLuks2 s → IsPlain 124 (luks2_members s)
unfolding luks2_members
luks2_plain s is =
    put_all-plain (luks2_fields s) _ (
      text_plain _,
      (
        number_plain _,
        (
          object_plain _ (slot_area_plain s.area is.area),
          (
            object_plain _ (kdf_plain s.kdf is.kdf),
            (object_plain _ (splitter_plain s.af is.af), tt),
          ),
        ),
      ),
    )
    (optional_plain (codes "priority") priority_shape s.priority s.rest (λ p e. number_plain _)
    is.plain)
