-- A segment and its members.
use Rattle.std.proofs.Common.{◌≡◌, ℕ, ◌^◌, ◌<◌, List, ◌∷◌, Bool, true, false, cond}
use Rattle.std.proofs.Common.{codes, decimal, bytes_eq, Option, Some, None, option_map, IfSome}
use Rattle.std.proofs.Common.{Ok, refl, sym, ap, subst, ◌∙◌}
use Rattle.serde_json.specs.Data.{string, number, unsigned, array, Members}
use Rattle.json_members.specs.declared.faults.JsonFaultKind.TheVariants.{Number, Unsupported}
use Rattle.json_members.specs.Decimals.{number_of}
use Rattle.json_members.specs.Fields.{meant_in, counted_in, decimal_in, texts_in, optional}
use Rattle.json_members.specs.Fields.{absent, texts_data}
use Rattle.json_members.specs.Forms.{HasTexts, HasOptional}
use Rattle.json_members.specs.Members.{put_all, put_optional, Lacks, IsPlain}
use Rattle.json_members.proofs.DataLemmas.{text_plain, number_plain, texts_plain, optional_plain}
use Rattle.json_members.proofs.DecimalLemmas.{number_of-decimal, number_of-exact, decimal-dynamic}
use Rattle.json_members.proofs.DecimalLemmas.{chosen_from, taken_from}
use Rattle.json_members.proofs.FieldLemmas.{absent_read, decimal_in-decimal, decimal_got}
use Rattle.json_members.proofs.FieldLemmas.{meant_in-text, meant_got, meant_named}
use Rattle.json_members.proofs.FieldLemmas.{counted_in-number, counted_got, texts_in-texts}
use Rattle.json_members.proofs.FieldLemmas.{texts_got, optional_got, optional-read, has_optional}
use Rattle.json_members.proofs.PlainLemmas.{put_all-plain, without_all-plain, Lacks-without_all}
use Rattle.json_members.proofs.PlainLemmas.{none-without_all}
use Rattle.json_members.proofs.PutLemmas.{get_member-put_all, get_member-put_optional}
use Rattle.json_members.proofs.PutLemmas.{get_member-put_optional_other, without_all-put_all_among}
use Rattle.json_members.proofs.PutLemmas.{without_all-put_optional, without_all-gone}
use Rattle.json_members.proofs.ReadLemmas.{Right, then, right_at}
use Rattle.luks_meta.specs.declared.segment.Segment.{Segment}
use Rattle.luks_meta.specs.declared.segment.Encryption.{Encryption}
use Rattle.luks_meta.specs.declared.segment.SegmentSize.{SegmentSize}
use Rattle.luks_meta.specs.declared.segment.SegmentSize.TheVariants.{Dynamic, Sized}
use Rattle.luks_json.specs.declared.segment.SegmentType.{SegmentType}
use Rattle.luks_json.specs.declared.segment.SegmentType.TheVariants.{Crypt, Linear}
use Rattle.luks_meta.specs.Names.{cipher_name, cipher_named}
use Rattle.luks_json.specs.Segments.{type_named, size_named, sector_size_of}
use Rattle.luks_meta.specs.Segments.{is_sector_size}
use Rattle.luks_json.specs.Segments.{encryption_in, encryption_by, segment_of}
use Rattle.luks_meta.specs.Segments.{segment_names}
use Rattle.luks_json.specs.Segments.{size_text, type_name, encryption_fields, put_encryption}
use Rattle.luks_json.specs.Segments.{segment_fields, flags_data, segment_members}
use Rattle.luks_meta.specs.Segments.{IsSize}
use Rattle.luks_json.specs.Segments.{HasEncryption, HasSegment}
use Rattle.luks_meta.specs.Segments.{IsEncryption, IsSegment}
use Rattle.luks_json.proofs.NameLemmas.{one_of_two, by_two, same_text, cipher_named-exact}
use Rattle.luks_json.proofs.NameLemmas.{cipher_named-name}

-- ---- types and sizes
abbrev kind_name : SegmentType → List ℕ
kind_name Crypt = codes "crypt"
kind_name Linear = codes "linear"

type_named-exact : (text : List ℕ) (k : SegmentType) → type_named text ≡ Some k → text ≡ kind_name k
type_named-exact text k h =
    by_two (one_of_two (bytes_eq text (codes "crypt")) (bytes_eq text (codes "linear")) Crypt Linear
    k h)
    (λ is. same_text text _ is.0 ∙ ap kind_name is.1)
    (λ is. same_text text _ is.0 ∙ ap kind_name is.1)

size_named-exact_at : (text : List ℕ) (b : Bool) (o : Option ℕ) (z : SegmentSize)
    → bytes_eq text (codes "dynamic") ≡ b → number_of text ≡ o
    → cond b (Some Dynamic) (option_map Sized o) ≡ Some z
    → (text ≡ size_text z) × IsSize z
size_named-exact_at text true o Dynamic is n h = (same_text text (codes "dynamic") is, tt)
size_named-exact_at text true o (Sized m) is n h = cc
size_named-exact_at text false None z is n h = cc
size_named-exact_at text false (Some m) Dynamic is n h = cc
size_named-exact_at text false (Some m) (Sized k) is n h =
    let same : m ≡ k = cc in
    let exact = number_of-exact text m n in
    (exact.1 ∙ ap decimal same, subst (λ (j : ℕ). j < 2 ^ 64) same exact.0)

size_named-exact : (text : List ℕ) (z : SegmentSize) → size_named text ≡ Some z
    → (text ≡ size_text z) × IsSize z
size_named-exact text z h = size_named-exact_at text _ _ z refl refl h

size_named-text : (z : SegmentSize) → IsSize z → size_named (size_text z) ≡ Some z
size_named-text Dynamic within = refl
size_named-text (Sized n) within = rw (decimal-dynamic n within, number_of-decimal n within) refl

-- ---- the encryption
encryption_read : (path : List ℕ) (ms : Members) → Right (HasEncryption ms) (encryption_in path ms)
unfolding encryption_in
encryption_read path ms =
    then (decimal_in path (codes "iv_tweak") ms) _ _ (λ iv_tweak a.
    then (meant_in Unsupported cipher_named path (codes "encryption") ms) _ _ (λ cipher b.
    then (counted_in sector_size_of path (codes "sector_size") ms) _ _ (λ sector_size c.
    let got = counted_got sector_size_of path (codes "sector_size") ms sector_size c in
    let kept = chosen_from (is_sector_size got.0) got.0 sector_size got.2 in
    record {
      iv_tweak = decimal_got path (codes "iv_tweak") ms iv_tweak a;
      cipher =
          meant_named Unsupported cipher_named cipher_name cipher_named-exact path
          (codes "encryption") ms cipher b;
      sector_size = got.1 ∙ ap (λ m. Some (number (unsigned m))) kept.1;
      known = sym (ap is_sector_size kept.1) ∙ kept.0;
    })))

encryption_by-read : (kind : SegmentType) (path : List ℕ) (ms : Members)
    → Right (λ e. (kind_name kind ≡ type_name e) × IfSome e (HasEncryption ms))
    (encryption_by kind path ms)
encryption_by-read Crypt path ms =
    then (encryption_in path ms) _ _
    (λ e a. (refl, right_at _ e (HasEncryption ms) a (encryption_read path ms)))
encryption_by-read Linear path ms = (refl, tt)

encryption_made : (path : List ℕ) (ms : Members) (e : Encryption) → HasEncryption ms e
    → encryption_in path ms ≡ Ok e
unfolding encryption_in
encryption_made path ms e h =
    rw (
      decimal_in-decimal path (codes "iv_tweak") ms e.iv_tweak h.iv_tweak.0 h.iv_tweak.1,
      meant_in-text Unsupported cipher_named path (codes "encryption") ms (cipher_name e.cipher)
          e.cipher h.cipher (cipher_named-name e.cipher),
      counted_in-number sector_size_of path (codes "sector_size") ms e.sector_size e.sector_size
          h.sector_size (taken_from (is_sector_size e.sector_size) e.sector_size h.known),
    ) refl

-- ---- the segment
pub segment_read : (path : List ℕ) (ms : Members) → Right (HasSegment ms) (segment_of path ms)
unfolding segment_of
segment_read path ms =
    then (absent Unsupported path (codes "integrity") ms) _ _ (λ u a.
    then (meant_in Unsupported type_named path (codes "type") ms) _ _ (λ kind b.
    then (decimal_in path (codes "offset") ms) _ _ (λ offset c.
    then (meant_in Number size_named path (codes "size") ms) _ _ (λ size d.
    then (encryption_by kind path ms) _ _ (λ encryption e.
    then (optional (codes "flags") ms (texts_in path (codes "flags") ms)) _ _ (λ flags f.
    let sized = meant_got Number size_named path (codes "size") ms size d in
    let exact = size_named-exact sized.0 size sized.2 in
    let by_kind =
    right_at _ encryption (λ x. (kind_name kind ≡ type_name x) × IfSome x (HasEncryption ms)) e
    (encryption_by-read kind path ms) in
    record {
      no_integrity = absent_read Unsupported path (codes "integrity") ms u a;
      kind = meant_named Unsupported type_named kind_name type_named-exact path (codes "type") ms
          kind b ∙ ap (λ s. Some (string s)) by_kind.0;
      offset = decimal_got path (codes "offset") ms offset c;
      size = sized.1 ∙ ap (λ s. Some (string s)) exact.0;
      within = exact.1;
      encryption = by_kind.1;
      flags = optional_got (codes "flags") ms (texts_in path (codes "flags") ms)
          (λ x. HasTexts (codes "flags") x ms) flags
          (λ x is. texts_got path (codes "flags") ms x is) f;
      rest = refl;
    }))))))

flags_made : (path : List ℕ) (ms : Members) (flags : Option (List (List ℕ)))
    → HasOptional (codes "flags") (λ x. HasTexts (codes "flags") x ms) flags ms
    → optional (codes "flags") ms (texts_in path (codes "flags") ms) ≡ Ok flags
flags_made path ms flags h =
    optional-read (codes "flags") ms (texts_in path (codes "flags") ms)
    (λ x. HasTexts (codes "flags") x ms) (λ x. array (texts_data x)) flags
    (λ x has. (has, texts_in-texts path (codes "flags") ms x has)) h

made : (path : List ℕ) (ms : Members) (offset : ℕ) (size : SegmentSize) (e : Option Encryption)
    (flags : Option (List (List ℕ))) (rest : Members)
    → HasSegment ms
    (record { offset = offset; size = size; encryption = e; flags = flags; rest = rest })
    → segment_of path ms
    ≡ Ok (record { offset = offset; size = size; encryption = e; flags = flags; rest = rest })
unfolding segment_of
made path ms offset size None flags rest h =
    rw (
      h.no_integrity,
      meant_in-text Unsupported type_named path (codes "type") ms (codes "linear") Linear h.kind
          refl,
      decimal_in-decimal path (codes "offset") ms offset h.offset.0 h.offset.1,
      meant_in-text Number size_named path (codes "size") ms (size_text size) size h.size
          (size_named-text size h.within),
      flags_made path ms flags h.flags,
    )
    (ap (λ (r : Members). Ok
    (record { offset = offset; size = size; encryption = None; flags = flags; rest = r }))
    (sym h.rest))
made path ms offset size (Some e) flags rest h =
    rw (
      h.no_integrity,
      meant_in-text Unsupported type_named path (codes "type") ms (codes "crypt") Crypt h.kind refl,
      decimal_in-decimal path (codes "offset") ms offset h.offset.0 h.offset.1,
      meant_in-text Number size_named path (codes "size") ms (size_text size) size h.size
          (size_named-text size h.within),
      encryption_made path ms e h.encryption,
      flags_made path ms flags h.flags,
    )
    (ap (λ (r : Members). Ok
    (record { offset = offset; size = size; encryption = Some e; flags = flags; rest = r }))
    (sym h.rest))

pub segment_made : (path : List ℕ) (ms : Members) (s : Segment) → HasSegment ms s
    → segment_of path ms ≡ Ok s
segment_made path ms s h = made path ms s.offset s.size s.encryption s.flags s.rest h

abbrev base : Segment → Members
base s = put_optional (codes "flags") (flags_data s.flags) s.rest

written : (offset : ℕ) (size : SegmentSize) (e : Option Encryption) (flags : Option (List (List ℕ)))
    (rest : Members)
    → IsSegment
    (record { offset = offset; size = size; encryption = e; flags = flags; rest = rest })
    → HasSegment
    (segment_members
    (record { offset = offset; size = size; encryption = e; flags = flags; rest = rest }))
    (record { offset = offset; size = size; encryption = e; flags = flags; rest = rest })
unfolding segment_members
written offset size None flags rest is =
    let s : Segment =
    record { offset = offset; size = size; encryption = None; flags = flags; rest = rest } in
    let at = λ (name : List ℕ). get_member-put_all name (segment_fields s) (base s) in
    record {
      no_integrity =
          at (codes "integrity")
          ∙ get_member-put_optional_other (codes "integrity") (codes "flags") (flags_data flags)
          rest refl ∙ is.lacks.0;
      kind = at (codes "type");
      offset = (at (codes "offset"), is.offset);
      size = at (codes "size");
      within = is.size;
      encryption = tt;
      flags = has_optional (codes "flags") (segment_members s) (λ x. array (texts_data x))
          (λ x. HasTexts (codes "flags") x (segment_members s)) flags
          (at (codes "flags")
          ∙ get_member-put_optional (codes "flags") (flags_data flags) rest is.lacks.1.1.1.1.0)
          (λ x e h. h);
      rest = sym
          (without_all-put_all_among (segment_names None) (segment_fields s) (base s) refl
          ∙ without_all-put_optional (segment_names None) (codes "flags") (flags_data flags) rest
          refl
          ∙ without_all-gone (segment_names None) rest is.lacks.1);
    }
written offset size (Some e) flags rest is =
    let s : Segment =
    record { offset = offset; size = size; encryption = Some e; flags = flags; rest = rest } in
    let under_it = put_all (segment_fields s) (base s) in
    let inner = λ (name : List ℕ). get_member-put_all name (segment_fields s) (base s) in
    let at = λ (name : List ℕ). get_member-put_all name (encryption_fields e) under_it in
    record {
      no_integrity =
          at (codes "integrity") ∙ inner (codes "integrity")
          ∙ get_member-put_optional_other (codes "integrity") (codes "flags") (flags_data flags)
          rest refl ∙ is.lacks.0;
      kind = at (codes "type") ∙ inner (codes "type");
      offset = (at (codes "offset") ∙ inner (codes "offset"), is.offset);
      size = at (codes "size") ∙ inner (codes "size");
      within = is.size;
      encryption =
          record {
            iv_tweak = (at (codes "iv_tweak"), is.encryption.iv_tweak);
            cipher =
                at (codes "encryption");
            sector_size = at (codes "sector_size");
            known = is.encryption.sector_size;
          };
      flags = has_optional (codes "flags") (segment_members s) (λ x. array (texts_data x))
          (λ x. HasTexts (codes "flags") x (segment_members s)) flags
          (at (codes "flags") ∙ inner (codes "flags")
          ∙ get_member-put_optional (codes "flags") (flags_data flags) rest is.lacks.1.1.1.1.0)
          (λ x e h. h);
      rest = sym
          (without_all-put_all_among (segment_names (Some e)) (encryption_fields e) under_it refl
          ∙ without_all-put_all_among (segment_names (Some e)) (segment_fields s) (base s) refl
          ∙ without_all-put_optional (segment_names (Some e)) (codes "flags") (flags_data flags)
          rest refl ∙ without_all-gone (segment_names (Some e)) rest is.lacks.1);
    }

pub segment_written : (s : Segment) → IsSegment s → HasSegment (segment_members s) s
segment_written s is = written s.offset s.size s.encryption s.flags s.rest is

encryption_right : (ms : Members) (e : Option Encryption) → IfSome e (HasEncryption ms)
    → IfSome e IsEncryption
encryption_right ms None h = tt
encryption_right ms (Some e) h = record { iv_tweak = h.iv_tweak.1; sector_size = h.known }

pub segment_right : (ms : Members) (s : Segment) → IsPlain 124 ms → HasSegment ms s → IsSegment s
segment_right ms s plain h =
    let names = segment_names s.encryption in
    record {
      offset = h.offset.1;
      size = h.within;
      encryption = encryption_right ms s.encryption h.encryption;
      lacks = subst (Lacks (codes "integrity" ∷ names)) (sym h.rest) (
        none-without_all (codes "integrity") names ms h.no_integrity,
        Lacks-without_all names ms,
      );
      plain = subst (IsPlain 124) (sym h.rest) (without_all-plain names ms plain);
    }

encryption_plain : (e : Option Encryption) (ms : Members) → IsPlain 124 ms
    → IsPlain 124 (put_encryption e ms)
encryption_plain None ms plain = plain
encryption_plain (Some e) ms plain =
    put_all-plain (encryption_fields e) ms (text_plain _, (text_plain _, (number_plain _, tt)))
    plain

pub segment_plain : (s : Segment) → IsSegment s → IsPlain 124 (segment_members s)
unfolding segment_members
segment_plain s is =
    encryption_plain s.encryption _
    (put_all-plain (segment_fields s) (base s) (text_plain _, (text_plain _, (text_plain _, tt)))
    (optional_plain (codes "flags") (λ x. array (texts_data x)) s.flags s.rest
    (λ x e. texts_plain x) is.plain))
