-- Headers that tell a side the same have the same metadata of it.
use Rattle.std.proofs.Common.{◌≡◌, ◌∙◌, inl, inr, ℕ, ◌<◌, ◌-◌, ◌^◌, ◌++◌, ◌∷◌, [], List, map, Option, Some}
use Rattle.std.proofs.Common.{None, Ok, Err, Result, Bool, true, false, refl, sym, ap, subst, arith, cond, eqb}
use Rattle.std.proofs.lemmas.Bool.{eqb-true}
use Rattle.std.proofs.lemmas.List.Elements.{recursion_from_All}
use Rattle.std.specs.Prelude.{codes, option_and_then, option_map, ◌||◌}
use Rattle.std.specs.List.{AllByRecursion, filter, find}
use Rattle.std.specs.Option.{IfSome}
use Rattle.base_terms.specs.declared.disk_sizes.Sizes.{Sizes}
use Rattle.json_members.specs.Entries.{AreEntries, IsRising}
use Rattle.json_members.specs.Members.{Lacks}
use Rattle.json_members.specs.declared.faults.JsonFault.{JsonFault}
use Rattle.json_members.proofs.ReadLemmas.{Right}
use Rattle.luks_store.specs.Copying.Meanings.{size_in}
use Rattle.luks_json.proofs.MetaLemmas.{data_plain, meta_back, meta_from_right}
use Rattle.luks_meta.specs.Configs.{any_foreign, is_foreign, mandatory, origin_by, origin_of}
use Rattle.luks_meta.specs.Digests.{IsDigest}
use Rattle.luks_meta.specs.Keyslots.{IsKeyslot}
use Rattle.luks_meta.specs.Metas.{IsMeta}
use Rattle.luks_json.specs.Metas.{data_of, meta_of}
use Rattle.luks_meta.specs.Segments.{IsEncryption, IsSegment, segment_names}
use Rattle.luks_meta.specs.declared.digest.Digest.{Digest}
use Rattle.luks_meta.specs.declared.meta.Parts.{Parts}
use Rattle.luks_meta.specs.declared.segment.Encryption.{Encryption}
use Rattle.luks_meta.specs.declared.segment.Segment.{Segment}
use Rattle.luks_rules.proofs.SoundLemmas.{sound}
use Rattle.luks_rules.specs.Extents.{extent_of}
use Rattle.luks_rules.specs.Idles.{idle_from, idle_of}
use Rattle.luks_rules.specs.References.{value_at}
use Rattle.luks_rules.specs.Rules.{first_fault}
use Rattle.luks_rules.specs.Segments.{in_progress}
use Rattle.luks_rules.specs.Shapes.{progress_of}
use Rattle.luks_rules.specs.States.{IsSound}
use Rattle.luks_rules.specs.declared.extents.Extent.{Extent}
use Rattle.luks_rules.specs.declared.fault.RuleFault.{RuleFault}
use Rattle.luks_rules.specs.declared.idle.Idle.{Idle}
use Rattle.luks_rules.specs.declared.shape.Progress.{Progress}
use Rattle.reenc_meta.specs.Layouts.{whole_on}
use Rattle.serde_json.specs.Data.{no_members}
use Rattle.segment_map.specs.declared.Side.{Side}
use Rattle.segment_map.specs.declared.Side.TheVariants.{Old, New, Zone}
use Rattle.hotzone.proofs.ZoneEvents.CodeLemmas.{one-value}
use Rattle.hotzone.proofs.ZoneEvents.GroundLemmas.{converting}
use Rattle.hotzone.proofs.ZoneEvents.TellLemmas.{sealing-told}
use Rattle.hotzone.specs.ZoneEvents.Readings.{parts_in, sealing_in, text_in}
use Rattle.hotzone.specs.ZoneEvents.Sides.{IsSideOf, SidesAreTold, TellsSide}
use Rattle.hotzone.specs.ZoneEvents.Tellings.{digest_on, for_one, is_listed, numbered, sealing_by}
use Rattle.hotzone.specs.ZoneEvents.Tellings.{sealing_of}
use Rattle.hotzone.specs.ZoneEvents.Tellings.{side_alone, side_code, unless_broken}

-- ---- some of a list
each-passed : {X : Type 0} (test : X → Bool) (P : X → Type 0) (xs : List X)
    → AllByRecursion P xs → AllByRecursion P (filter test xs)
each-passed test P [] all = tt
each-passed {X} test P (x ∷ xs) all = go (test x) (each-passed test P xs all.1)
  where
    go : (b : Bool) → AllByRecursion P (filter test xs)
        → AllByRecursion P (cond b (x ∷ filter test xs) (filter test xs))
    go true later = (all.0, later)
    go false later = later

rising-passed : {X : Type 0} (test : ℕ × X → Bool) (xs : List (ℕ × X)) → IsRising xs
    → IsRising (filter test xs)
rising-passed test [] rising = tt
rising-passed {X} test (x ∷ xs) rising = go (test x) (rising-passed test xs rising.2)
  where
    go : (b : Bool) → IsRising (filter test xs)
        → IsRising (cond b (x ∷ filter test xs) (filter test xs))
    go true later = (rising.0, each-passed test (λ y. x.0 < y.0) xs rising.1, later)
    go false later = later

no-other : (texts : List (List ℕ)) → AllByRecursion (λ text. is_foreign text ≡ false) texts
    → any_foreign texts ≡ false
no-other [] own = refl
no-other (text ∷ texts) own =
    ap (λ b. b || any_foreign texts) own.0 ∙ no-other texts own.1

none-named : (o : Option Encryption) → Lacks (codes "integrity" ∷ segment_names o) no_members
none-named None = (refl, (refl, (refl, (refl, (refl, tt)))))
none-named (Some e) = (refl, (refl, (refl, (refl, (refl, (refl, (refl, (refl, tt))))))))

one-listed : (d : Digest) → IsDigest d → IsDigest (for_one d)
one-listed d is = record {
  keyslots = is.keyslots;
  segments = (omega arith, tt);
  iterations = is.iterations;
  salt = is.salt;
  digest = is.digest;
  lacks = is.lacks;
  plain = is.plain;
}

-- ---- metadata of a side alone have a text
module _ (m : Parts) (sizes : Sizes) (is : IsMeta m) (right : IsSound m sizes) where
  origin : origin_of m.config ≡ origin_by false
  origin =
      ap origin_by (no-other (mandatory m.config.requirements)
      (recursion_from_All _ (mandatory m.config.requirements) right.own))

  -- a segment of theirs
  pub record IsOfThem (e : Extent) : Type 0 where
    pub offset : e.offset < 2 ^ 64
    pub encryption : IfSome e.encryption IsEncryption

  extents-right : (digests : List (ℕ × Digest)) (ss : List (ℕ × Segment))
      → AllByRecursion (λ s. IsSegment s.1) ss
      → AllByRecursion IsOfThem (map (extent_of digests) ss)
  extents-right digests [] all = tt
  extents-right digests (s ∷ ss) all = (
    record { offset = all.0.offset; encryption = all.0.encryption },
    extents-right digests ss all.1,
  )

  last-two : (live : List Extent) (a b : Extent) → AllByRecursion IsOfThem (live ++ a ∷ b ∷ [])
      → IsOfThem a × IsOfThem b
  last-two [] a b all = (all.0, all.1.0)
  last-two (e ∷ live) a b all = last-two live a b all.1

  all-right : AllByRecursion IsOfThem (map (extent_of m.digests) m.segments)
  all-right = extents-right m.digests m.segments is.segments.each

  -- the whole segment of a side is one
  quiet : (v : Idle) → idle_of m sizes ≡ Some v → in_progress m.config ≡ false
  unfolding idle_of
  quiet v is_idle = go (in_progress m.config) is_idle
    where
      go : (b : Bool) → cond b None (idle_from sizes m.digests m.segments) ≡ Some v → b ≡ false
      go true h = cc
      go false h = refl

  side-right : (side : Side) (e : Extent) → IsSideOf sizes m side e → IsOfThem e
  side-right side e (inl (p, known, same)) = subst IsOfThem (sym same) (by side)
    where
      both : IsOfThem p.old × IsOfThem p.new
      both =
          let conv = converting m sizes p right known in
          last-two conv.0 p.old p.new
          (subst (AllByRecursion IsOfThem) conv.1.segments all-right)

      by : (s : Side) → IsOfThem (whole_on p s)
      by Old = both.0
      by Zone = both.0
      by New = both.1
  side-right side e (inr (none, (v, is_idle, same))) =
      let this = (right.idle (quiet v is_idle)).1 in
      let one : this.0 ≡ v = same_idle this.0 v (sym this.1 ∙ is_idle) in
      let here : IsOfThem this.0.segment =
      (subst (AllByRecursion IsOfThem) this.2.segments all-right).0 in
      subst IsOfThem (ap (λ (x : Idle). x.segment) one ∙ sym same) here
    where
      same_idle : (a b : Idle) → ◌≡◌ {A = Option Idle} (Some a) (Some b) → a ≡ b
      same_idle a b h = cc

  -- the digest that is found
  found-right : (n : ℕ) (d : Digest) (ds : List (ℕ × Digest)) → IsRising ds
      → AllByRecursion (λ d. IsDigest d.1) ds → value_at ds n ≡ Some d → (n < 2 ^ 64) × IsDigest d
  found-right n d [] rising all there = absurd cc
  found-right n d (x ∷ ds) rising all there =
      go (eqb x.0 n) refl there (λ at. found-right n d ds rising.2 all.1 at)
    where
      go : (b : Bool) → eqb x.0 n ≡ b
          → option_map (λ (e : ℕ × Digest). e.1)
          (cond b (Some x) (find (λ (e : ℕ × Digest). eqb e.0 n) ds)) ≡ Some d
          → (value_at ds n ≡ Some d → (n < 2 ^ 64) × IsDigest d) → (n < 2 ^ 64) × IsDigest d
      go true at h later =
          let same : x.1 ≡ d = cc in
          (subst (λ k. k < 2 ^ 64) (eqb-true x.0 n at) rising.0, subst IsDigest same all.0)
      go false at h later = later h

  digests-right : (o : Option ℕ)
      → AreEntries IsDigest
      (numbered o (option_map for_one (option_and_then (value_at m.digests) o)))
  digests-right None = record { rising = tt; each = tt }
  digests-right (Some n) = go (value_at m.digests n) refl
    where
      go : (o : Option Digest) → value_at m.digests n ≡ o
          → AreEntries IsDigest (numbered (Some n) (option_map for_one o))
      go None there = record { rising = tt; each = tt }
      go (Some d) there =
          let found = found-right n d m.digests is.digests.rising is.digests.each there in record {
            rising = (found.0, tt, tt);
            each = (one-listed d found.1, tt);
          }

  pub alone-right : (side : Side) (e : Extent) → IsSideOf sizes m side e → IsMeta (side_alone m e)
  unfolding side_alone
  alone-right side e of =
      let them = side-right side e of in record {
        keyslots = record {
          rising = rising-passed (λ slot. is_listed (digest_on m e) slot.0) m.keyslots
              is.keyslots.rising;
          each = each-passed (λ slot. is_listed (digest_on m e) slot.0) _ m.keyslots
              (subst (λ o. AllByRecursion (λ x. IsKeyslot o x.1) m.keyslots) origin
              is.keyslots.each);
        };
        tokens = record { rising = tt; each = tt };
        segments = record {
          rising = (omega arith, tt, tt);
          each = (
            record {
              offset = them.offset;
              size = tt;
              encryption = them.encryption;
              lacks = none-named e.encryption;
              plain = record { whole = refl; flat = omega arith };
            },
            tt,
          );
        };
        digests = digests-right e.digest;
        config = record {
          json_size = omega arith;
          keyslots_size = omega arith;
          requirements = tt;
          lacks = (refl, (refl, (refl, tt)));
          plain = record { whole = refl; flat = omega arith };
        };
        lacks = (refl, (refl, (refl, (refl, (refl, tt)))));
        plain = record { whole = refl; flat = omega arith };
      }

-- ---- what tells them
alone-fits : (m : Parts) (e : Extent) → (side_alone m e).config.json_size ≡ 4096 - 4096
unfolding side_alone
alone-fits m e = refl

same-meta : (a b : Parts) → ◌≡◌ {A = Result Parts JsonFault} (Ok a) (Ok b) → a ≡ b
same-meta a b h = cc

told-same : (a b : Parts) (x y : Extent) → IsMeta (side_alone a x) → IsMeta (side_alone b y)
    → side_code a x ≡ side_code b y → side_alone a x ≡ side_alone b y
unfolding side_code
told-same a b x y one two same =
    let values =
    one-value (data_of (side_alone a x)) (data_of (side_alone b y)) (data_plain _ one).whole
    (data_plain _ two).whole same in
    same-meta (side_alone a x) (side_alone b y)
    (sym (meta_back 4096 (side_alone a x) one (alone-fits a x)) ∙ ap (meta_of 4096) values
    ∙ meta_back 4096 (side_alone b y) two (alone-fits b y))

something-told : (m : Parts) (e : Extent) → [] ≡ side_code m e → ⊥
unfolding side_code data_of
something-told m e h = cc

-- ---- metadata that were read have a text, and are sound where they break no rule
meta-read : (means : List ℕ) (m : Parts) → parts_in means ≡ Ok m → IsMeta m
unfolding parts_in
meta-read means m parts =
    subst (Right IsMeta) parts (meta_from_right (size_in means) (text_in means))

sound-read : (sizes : Sizes) (m : Parts) → 0 < sizes.atom → IsMeta m → first_fault m sizes ≡ None
    → IsSound m sizes
sound-read sizes m some is valid = sound m sizes some is.digests.rising valid

sealing-first : (sizes : Sizes) (means : List ℕ) (m : Parts) (side : Side) (e : Extent)
    → parts_in means ≡ Ok m → first_fault m sizes ≡ None → IsSideOf sizes m side e
    → sealing_in sizes means side ≡ side_code m e
sealing-first sizes means m side e parts valid (inl (p, known, same)) =
    sealing-told sizes means m (Some p) parts known valid side ∙ ap (side_code m) (sym same)
sealing-first sizes means m side e parts valid (inr (none, (v, is_idle, same))) =
    sealing-told sizes means m None parts none valid side
    ∙ ap (λ o. sealing_by m None o side) is_idle ∙ ap (side_code m) (sym same)

sealing-is : (sizes : Sizes) (means : List ℕ) (side : Side)
    → sealing_in sizes means side ≡ sealing_of sizes (parts_in means) side
unfolding sealing_in
sealing-is sizes means side = refl

pub sides-told : SidesAreTold
sides-told sizes from to m side e some parts valid is same =
    go (parts_in to) refl
    (sym (sealing-is sizes to side) ∙ same ∙ sealing-first sizes from m side e parts valid is)
  where
    meta : IsMeta m
    meta = meta-read from m parts

    found : (n : Parts) → parts_in to ≡ Ok n → first_fault n sizes ≡ None → (f : Extent)
        → IsSideOf sizes n side f → side_code n f ≡ side_code m e → TellsSide sizes m e to side
    found n at ruled f of h =
        let right = meta-read to n at in record {
          meta = n;
          parts = at;
          valid = ruled;
          segment = f;
          is = of;
          same = told-same n m f e
              (alone-right n sizes right (sound-read sizes n some right ruled) side f of)
              (alone-right m sizes meta (sound-read sizes m some meta valid) side e is) h;
        }

    by : (n : Parts) → parts_in to ≡ Ok n → first_fault n sizes ≡ None → (o : Option Progress)
        → progress_of n sizes ≡ o → (v : Option Idle) → idle_of n sizes ≡ v
        → sealing_by n o v side ≡ side_code m e → TellsSide sizes m e to side
    by n at ruled (Some p) known v idle h =
        found n at ruled (whole_on p side) (inl (p, known, refl)) h
    by n at ruled None known (Some v) idle h =
        found n at ruled v.segment (inr (known, (v, idle, refl))) h
    by n at ruled None known None idle h = absurd (something-told m e h)

    rule : (n : Parts) → parts_in to ≡ Ok n → (f : Option RuleFault) → first_fault n sizes ≡ f
        → unless_broken f (sealing_by n (progress_of n sizes) (idle_of n sizes) side)
        ≡ side_code m e → TellsSide sizes m e to side
    rule n at None ruled h = by n at ruled (progress_of n sizes) refl (idle_of n sizes) refl h
    rule n at (Some fault) ruled h = absurd (something-told m e h)

    go : (r : Result Parts JsonFault) → parts_in to ≡ r → sealing_of sizes r side ≡ side_code m e
        → TellsSide sizes m e to side
    go (Ok n) at h = rule n at (first_fault n sizes) refl h
    go (Err fault) at h = absurd (something-told m e h)
