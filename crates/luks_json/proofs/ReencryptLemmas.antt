-- The keyslot of a conversion and its members.
use Rattle.std.proofs.Common.{◌≡◌, ℕ, ◌==◌, List, codes, bytes_eq}
use Rattle.std.proofs.Common.{Some, Ok, refl, sym, ap, subst, ◌∙◌}
use Rattle.std.proofs.lemmas.Bool.{eqb-true}
use Rattle.std.specs.List.{AllByRecursion}
use Rattle.serde_json.specs.Data.{string, number, unsigned, Members}
use Rattle.json_members.specs.declared.faults.JsonFaultKind.TheVariants.{Unsupported}
use Rattle.json_members.specs.Fields.{under, meant_in, word_in, number_in, counted_in}
use Rattle.json_members.specs.Fields.{decimal_in, object_in}
use Rattle.json_members.specs.Forms.{HasText, HasNumber}
use Rattle.json_members.specs.Members.{Lacks, IsPlain, IsPlainData}
use Rattle.json_members.proofs.DataLemmas.{text_plain, number_plain, object_plain}
use Rattle.json_members.proofs.DataLemmas.{object_member-plain}
use Rattle.json_members.proofs.DecimalLemmas.{chosen_from}
use Rattle.json_members.proofs.FieldLemmas.{word_in-word, word_got, number_in-unsigned, number_got}
use Rattle.json_members.proofs.FieldLemmas.{decimal_in-decimal, decimal_got, meant_in-text}
use Rattle.json_members.proofs.FieldLemmas.{meant_named, counted_in-number, counted_got}
use Rattle.json_members.proofs.FieldLemmas.{object_in-object, object_got}
use Rattle.json_members.proofs.PlainLemmas.{put_all-plain, without_all-plain, Lacks-without_all}
use Rattle.json_members.proofs.PutLemmas.{get_member-put_all, without_all-put_all}
use Rattle.json_members.proofs.ReadLemmas.{Right, then, right_at, each_right}
use Rattle.luks_meta.specs.declared.reencrypt.Mode.{Mode}
use Rattle.luks_meta.specs.declared.reencrypt.Mode.TheVariants as modes
use Rattle.luks_meta.specs.declared.reencrypt.Direction.{Direction}
use Rattle.luks_meta.specs.declared.reencrypt.Direction.TheVariants.{Forward, Backward}
use Rattle.luks_meta.specs.declared.reencrypt.Resilience.{Resilience}
use Rattle.luks_meta.specs.declared.reencrypt.Resilience.TheVariants.{Journal, Checksum, Datashift}
use Rattle.luks_json.specs.declared.reencrypt.AreaType.{AreaType}
use Rattle.luks_json.specs.declared.reencrypt.AreaType.TheVariants as types
use Rattle.luks_meta.specs.declared.reencrypt.ReencryptArea.{ReencryptArea}
use Rattle.luks_meta.specs.declared.reencrypt.Reencrypt.{Reencrypt}
use Rattle.luks_meta.specs.Reencrypts.{mode_name, mode_named, direction_name, direction_named}
use Rattle.luks_json.specs.Reencrypts.{area_type_named, checksum_in, resilience_by}
use Rattle.luks_meta.specs.Reencrypts.{area_type_name}
use Rattle.luks_meta.specs.Reencrypts.{area_names, reencrypt_names}
use Rattle.luks_json.specs.Reencrypts.{area_of, only_one, reencrypt_of}
use Rattle.luks_json.specs.Reencrypts.{area_fields, area_members, reencrypt_fields}
use Rattle.luks_json.specs.Reencrypts.{reencrypt_members, HasResilience, HasArea, HasReencrypt}
use Rattle.luks_meta.specs.Reencrypts.{IsResilience, IsArea, IsReencrypt}
use Rattle.luks_json.proofs.NameLemmas.{one_of_two, one_of_three, by_two, by_three, same_text}

-- ---- names
mode_named-exact : (text : List ℕ) (m : Mode) → mode_named text ≡ Some m → text ≡ mode_name m
mode_named-exact text m h =
    by_three
    (one_of_three (bytes_eq text (codes "reencrypt")) (bytes_eq text (codes "encrypt"))
    (bytes_eq text (codes "decrypt")) modes.Reencrypt modes.Encrypt modes.Decrypt m h)
    (λ is. same_text text _ is.0 ∙ ap mode_name is.1)
    (λ is. same_text text _ is.0 ∙ ap mode_name is.1)
    (λ is. same_text text _ is.0 ∙ ap mode_name is.1)

mode_named-name : (m : Mode) → mode_named (mode_name m) ≡ Some m
mode_named-name modes.Reencrypt = refl
mode_named-name modes.Encrypt = refl
mode_named-name modes.Decrypt = refl

direction_named-exact : (text : List ℕ) (d : Direction) → direction_named text ≡ Some d
    → text ≡ direction_name d
direction_named-exact text d h =
    by_two (one_of_two (bytes_eq text (codes "forward")) (bytes_eq text (codes "backward")) Forward
    Backward d h)
    (λ is. same_text text _ is.0 ∙ ap direction_name is.1)
    (λ is. same_text text _ is.0 ∙ ap direction_name is.1)

direction_named-name : (d : Direction) → direction_named (direction_name d) ≡ Some d
direction_named-name Forward = refl
direction_named-name Backward = refl

abbrev kind_name : AreaType → List ℕ
kind_name types.Journal = codes "journal"
kind_name types.Checksum = codes "checksum"
kind_name types.Datashift = codes "datashift"

area_type_named-exact : (text : List ℕ) (k : AreaType) → area_type_named text ≡ Some k
    → text ≡ kind_name k
area_type_named-exact text k h =
    by_three
    (one_of_three (bytes_eq text (codes "journal")) (bytes_eq text (codes "checksum"))
    (bytes_eq text (codes "datashift")) types.Journal types.Checksum types.Datashift k h)
    (λ is. same_text text _ is.0 ∙ ap kind_name is.1)
    (λ is. same_text text _ is.0 ∙ ap kind_name is.1)
    (λ is. same_text text _ is.0 ∙ ap kind_name is.1)

-- ---- the area
checksum_read : (path : List ℕ) (ms : Members)
    → Right (λ n. HasText (codes "hash") (codes "sha256") ms × HasNumber (codes "sector_size") n ms)
    (checksum_in path ms)
unfolding checksum_in
checksum_read path ms =
    then (word_in (codes "sha256") path (codes "hash") ms) _ _ (λ u a.
    each_right (number_in path (codes "sector_size") ms)
    (λ n. HasText (codes "hash") (codes "sha256") ms × HasNumber (codes "sector_size") n ms)
    (λ n b. (
      word_got (codes "sha256") path (codes "hash") ms u a,
      number_got path (codes "sector_size") ms n b,
    )))

resilience_read : (kind : AreaType) (path : List ℕ) (ms : Members)
    → Right (λ r. (kind_name kind ≡ area_type_name r) × HasResilience ms r)
    (resilience_by kind path ms)
resilience_read types.Journal path ms = (refl, tt)
resilience_read types.Checksum path ms =
    then (checksum_in path ms) _ _
    (λ n a. (
      refl,
      right_at _ n
          (λ m. HasText (codes "hash") (codes "sha256") ms × HasNumber (codes "sector_size") m ms) a
          (checksum_read path ms),
    ))
resilience_read types.Datashift path ms =
    then (decimal_in path (codes "shift_size") ms) _ _
    (λ n a. (refl, decimal_got path (codes "shift_size") ms n a))

area_read : (path : List ℕ) (ms : Members) → Right (HasArea ms) (area_of path ms)
unfolding area_of
area_read path ms =
    then (meant_in Unsupported area_type_named path (codes "type") ms) _ _ (λ kind a.
    then (decimal_in path (codes "offset") ms) _ _ (λ offset b.
    then (decimal_in path (codes "size") ms) _ _ (λ size c.
    then (resilience_by kind path ms) _ _ (λ resilience d.
    let by_kind =
    right_at _ resilience (λ r. (kind_name kind ≡ area_type_name r) × HasResilience ms r) d
    (resilience_read kind path ms) in
    record {
      kind = meant_named Unsupported area_type_named kind_name area_type_named-exact path
          (codes "type") ms kind a ∙ ap (λ s. Some (string s)) by_kind.0;
      offset = decimal_got path (codes "offset") ms offset b;
      size = decimal_got path (codes "size") ms size c;
      resilience = by_kind.1;
      rest = refl;
    }))))

checksum_made : (path : List ℕ) (ms : Members) (n : ℕ) → HasText (codes "hash") (codes "sha256") ms
    → HasNumber (codes "sector_size") n ms → checksum_in path ms ≡ Ok n
unfolding checksum_in
checksum_made path ms n h k =
    rw (word_in-word (codes "sha256") path (codes "hash") ms h)
    (number_in-unsigned path (codes "sector_size") ms n k)

area_made_at : (path : List ℕ) (ms : Members) (r : Resilience) (offset size : ℕ) (rest : Members)
    → HasArea ms (record { resilience = r; offset = offset; size = size; rest = rest })
    → area_of path ms ≡ Ok (record { resilience = r; offset = offset; size = size; rest = rest })
unfolding area_of
area_made_at path ms Journal offset size rest h =
    rw (
      meant_in-text Unsupported area_type_named path (codes "type") ms (codes "journal")
          types.Journal h.kind refl,
      decimal_in-decimal path (codes "offset") ms offset h.offset.0 h.offset.1,
      decimal_in-decimal path (codes "size") ms size h.size.0 h.size.1,
    )
    (ap (λ (x : Members). Ok
    (record { resilience = Journal; offset = offset; size = size; rest = x })) (sym h.rest))
area_made_at path ms (Checksum n) offset size rest h =
    rw (
      meant_in-text Unsupported area_type_named path (codes "type") ms (codes "checksum")
          types.Checksum h.kind refl,
      decimal_in-decimal path (codes "offset") ms offset h.offset.0 h.offset.1,
      decimal_in-decimal path (codes "size") ms size h.size.0 h.size.1,
      checksum_made path ms n h.resilience.0 h.resilience.1,
    )
    (ap (λ (x : Members). Ok
    (record { resilience = Checksum n; offset = offset; size = size; rest = x })) (sym h.rest))
area_made_at path ms (Datashift n) offset size rest h =
    rw (
      meant_in-text Unsupported area_type_named path (codes "type") ms (codes "datashift")
          types.Datashift h.kind refl,
      decimal_in-decimal path (codes "offset") ms offset h.offset.0 h.offset.1,
      decimal_in-decimal path (codes "size") ms size h.size.0 h.size.1,
      decimal_in-decimal path (codes "shift_size") ms n h.resilience.0 h.resilience.1,
    )
    (ap (λ (x : Members). Ok
    (record { resilience = Datashift n; offset = offset; size = size; rest = x })) (sym h.rest))

area_made : (path : List ℕ) (ms : Members) (a : ReencryptArea) → HasArea ms a
    → area_of path ms ≡ Ok a
area_made path ms a h = area_made_at path ms a.resilience a.offset a.size a.rest h

area_written_at : (r : Resilience) (offset size : ℕ) (rest : Members)
    → IsArea (record { resilience = r; offset = offset; size = size; rest = rest })
    → HasArea (area_members (record { resilience = r; offset = offset; size = size; rest = rest }))
    (record { resilience = r; offset = offset; size = size; rest = rest })
unfolding area_members
area_written_at Journal offset size rest is =
    let fields = area_fields Journal offset size in
    let at = λ (name : List ℕ). get_member-put_all name fields rest in
    record {
      kind = at (codes "type");
      offset = (at (codes "offset"), is.offset);
      size =
          (at (codes "size"), is.size);
      resilience = tt;
      rest = sym (without_all-put_all (area_names Journal) fields rest refl is.lacks);
    }
area_written_at (Checksum n) offset size rest is =
    let fields = area_fields (Checksum n) offset size in
    let at = λ (name : List ℕ). get_member-put_all name fields rest in
    record {
      kind = at (codes "type");
      offset = (at (codes "offset"), is.offset);
      size = (at (codes "size"), is.size);
      resilience = (at (codes "hash"), at (codes "sector_size"));
      rest = sym (without_all-put_all (area_names (Checksum n)) fields rest refl is.lacks);
    }
area_written_at (Datashift n) offset size rest is =
    let fields = area_fields (Datashift n) offset size in
    let at = λ (name : List ℕ). get_member-put_all name fields rest in
    record {
      kind = at (codes "type");
      offset = (at (codes "offset"), is.offset);
      size = (at (codes "size"), is.size);
      resilience = (at (codes "shift_size"), is.resilience);
      rest = sym (without_all-put_all (area_names (Datashift n)) fields rest refl is.lacks);
    }

area_written : (a : ReencryptArea) → IsArea a → HasArea (area_members a) a
area_written a is = area_written_at a.resilience a.offset a.size a.rest is

resilience_right : (ms : Members) (r : Resilience) → HasResilience ms r → IsResilience r
resilience_right ms Journal h = tt
resilience_right ms (Checksum n) h = tt
resilience_right ms (Datashift n) h = h.1

area_right : (ms : Members) (a : ReencryptArea) → IsPlain 123 ms → HasArea ms a → IsArea a
area_right ms a plain h =
    let names = area_names a.resilience in
    record {
      resilience = resilience_right ms a.resilience h.resilience;
      offset = h.offset.1;
      size = h.size.1;
      lacks = subst (Lacks names) (sym h.rest) (Lacks-without_all names ms);
      plain = subst (IsPlain 123) (sym h.rest) (without_all-plain names ms plain);
    }

area_fields_plain : (r : Resilience) (offset size : ℕ)
    → AllByRecursion (λ f. IsPlainData 123 f.1) (area_fields r offset size)
area_fields_plain Journal offset size = (text_plain _, (text_plain _, (text_plain _, tt)))
area_fields_plain (Checksum n) offset size =
    (text_plain _, (text_plain _, (text_plain _, (text_plain _, (number_plain _, tt)))))
area_fields_plain (Datashift n) offset size =
    (text_plain _, (text_plain _, (text_plain _, (text_plain _, tt))))

area_plain : (a : ReencryptArea) → IsArea a → IsPlain 123 (area_members a)
unfolding area_members
area_plain a is =
    put_all-plain (area_fields a.resilience a.offset a.size) a.rest
    (area_fields_plain a.resilience a.offset a.size) is.plain

-- ---- the keyslot
key_size_got : (path : List ℕ) (ms : Members) (u : Unit {0})
    → counted_in only_one path (codes "key_size") ms ≡ Ok u → HasNumber (codes "key_size") 1 ms
key_size_got path ms u e =
    let got = counted_got only_one path (codes "key_size") ms u e in
    got.1 ∙ ap (λ n. Some (number (unsigned n)))
    (eqb-true got.0 1 (chosen_from (got.0 == 1) tt u got.2).0)

pub reencrypt_read : (path : List ℕ) (ms : Members) → Right (HasReencrypt ms) (reencrypt_of path ms)
unfolding reencrypt_of
reencrypt_read path ms =
    then (counted_in only_one path (codes "key_size") ms) _ _ (λ u a.
    then (meant_in Unsupported mode_named path (codes "mode") ms) _ _ (λ mode b.
    then (meant_in Unsupported direction_named path (codes "direction") ms) _ _ (λ direction c.
    then (object_in path (codes "area") ms) _ _ (λ inner d.
    then (area_of (under path (codes "area")) inner) _ _ (λ area e.
    record {
      key_size = key_size_got path ms u a;
      mode = meant_named Unsupported mode_named mode_name mode_named-exact path (codes "mode") ms
          mode b;
      direction =
          meant_named Unsupported direction_named direction_name direction_named-exact path
          (codes "direction") ms direction c;
      area = (
        inner,
        object_got path (codes "area") ms inner d,
        right_at _ area (HasArea inner) e (area_read (under path (codes "area")) inner),
      );
      rest = refl;
    })))))

pub reencrypt_made : (path : List ℕ) (ms : Members) (s : Reencrypt) → HasReencrypt ms s
    → reencrypt_of path ms ≡ Ok s
unfolding reencrypt_of
reencrypt_made path ms s h =
    rw (
      counted_in-number only_one path (codes "key_size") ms 1 tt h.key_size refl,
      meant_in-text Unsupported mode_named path (codes "mode") ms (mode_name s.mode) s.mode h.mode
          (mode_named-name s.mode),
      meant_in-text Unsupported direction_named path (codes "direction") ms
          (direction_name s.direction) s.direction h.direction (direction_named-name s.direction),
      object_in-object path (codes "area") ms h.area.0 h.area.1,
      area_made (under path (codes "area")) h.area.0 s.area h.area.2,
    )
    (ap (λ (x : Members). Ok
    (record { mode = s.mode; direction = s.direction; area = s.area; rest = x })) (sym h.rest))

pub reencrypt_written : (s : Reencrypt) → IsReencrypt s
    → HasText (codes "type") (codes "reencrypt") (reencrypt_members s)
    × HasReencrypt (reencrypt_members s) s
unfolding reencrypt_members
reencrypt_written s is =
    let at = λ (name : List ℕ). get_member-put_all name (reencrypt_fields s) s.rest in (
      at (codes "type"),
      record {
        key_size = at (codes "key_size");
        mode = at (codes "mode");
        direction = at (codes "direction");
        area = (area_members s.area, at (codes "area"), area_written s.area is.area);
        rest = sym (without_all-put_all reencrypt_names (reencrypt_fields s) s.rest refl is.lacks);
      },
    )

pub reencrypt_right : (ms : Members) (s : Reencrypt) → IsPlain 124 ms → HasReencrypt ms s
    → IsReencrypt s
reencrypt_right ms s plain h = record {
  area = area_right h.area.0 s.area (object_member-plain (codes "area") ms h.area.0 plain h.area.1)
      h.area.2;
  lacks = subst (Lacks reencrypt_names) (sym h.rest) (Lacks-without_all reencrypt_names ms);
  plain = subst (IsPlain 124) (sym h.rest) (without_all-plain reencrypt_names ms plain);
}

pub reencrypt_plain : (s : Reencrypt) → IsReencrypt s → IsPlain 124 (reencrypt_members s)
unfolding reencrypt_members
reencrypt_plain s is =
    put_all-plain (reencrypt_fields s) s.rest (
      text_plain _,
      (
        number_plain _,
        (text_plain _, (text_plain _, (object_plain _ (area_plain s.area is.area), tt))),
      ),
    ) is.plain
