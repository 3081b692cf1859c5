-- No two choices of boundary and zone make the same segments a conversion's.
use Rattle.std.proofs.Common.{◌≡◌, ◌∙◌, ◌⊎◌, inl, inr, ℕ, ◌+◌, ◌*◌, ◌/◌, ◌<◌, ◌&&◌, not, eqb, List}
use Rattle.std.proofs.Common.{[], ◌∷◌, length, Option, Some, None, Bool, true, false, cond, refl}
use Rattle.std.proofs.Common.{sym, ap, arith}
use Rattle.std.proofs.lemmas.Bool.{and_parts, eqb-true, eq-eqb, not-true, both_ways}
use Rattle.std.specs.Option.{is_some}
use Rattle.luks_meta.specs.declared.reencrypt.Direction.{Direction}
use Rattle.luks_meta.specs.declared.reencrypt.Direction.TheVariants.{Forward, Backward}
use Rattle.luks_meta.specs.declared.reencrypt.Mode.{Mode}
use Rattle.luks_meta.specs.declared.reencrypt.Mode.TheVariants.{Reencrypt, Encrypt, Decrypt}
use Rattle.luks_meta.specs.declared.segment.Encryption.{Encryption}
use Rattle.luks_rules.specs.Plans.{begins, is_encrypted, is_marked, is_part, is_sized, laid_out}
use Rattle.luks_rules.specs.Plans.{parts_of, rest_of, same_digest}
use Rattle.luks_rules.specs.Shapes.{are_wholes, fits_mode, fits_place, has_own_digest}
use Rattle.luks_rules.specs.Shapes.{have_two_digests, is_final, is_previous, starts_at_0}
use Rattle.luks_rules.specs.States.{IsState}
use Rattle.luks_rules.specs.declared.conversions.Conversion.{Conversion}
use Rattle.luks_rules.specs.declared.extents.Extent.{Extent}
use Rattle.luks_rules.specs.declared.extents.Mark.{Mark}
use Rattle.luks_rules.specs.declared.extents.Mark.TheVariants as marks
use Rattle.luks_rules.specs.declared.plan.Part.{Part}
use Rattle.luks_rules.specs.declared.plan.Plan.{Plan}
use Rattle.luks_rules.proofs.ChoiceLemmas.{laid_by, part_blocks}

-- ---- a segment that is a part
pub part_facts : (atom : ℕ) (p : Part) (e : Extent) → is_part atom p e ≡ true
    → (is_marked p.zone e.mark ≡ true) × (same_digest p.whole.digest e.digest ≡ true)
    × (e.offset ≡ p.whole.offset + p.from * atom) × (is_sized (p.blocks * atom) e.size ≡ true)
part_facts atom p e h =
    let a = and_parts
    (is_marked p.zone e.mark && eqb e.offset (p.whole.offset + p.from * atom)
    && is_sized (p.blocks * atom) e.size
    && is_encrypted (p.from * atom / 512) p.whole.encryption e.encryption)
    (same_digest p.whole.digest e.digest) h in
    let b = and_parts
    (is_marked p.zone e.mark && eqb e.offset (p.whole.offset + p.from * atom)
    && is_sized (p.blocks * atom) e.size)
    (is_encrypted (p.from * atom / 512) p.whole.encryption e.encryption) a.0 in
    let d = and_parts (is_marked p.zone e.mark && eqb e.offset (p.whole.offset + p.from * atom))
    (is_sized (p.blocks * atom) e.size) b.0 in
    let f = and_parts (is_marked p.zone e.mark) (eqb e.offset (p.whole.offset + p.from * atom))
    d.0 in
    (f.0, a.1, eqb-true _ _ f.1, d.1)

marks_differ : (m : Mark) → is_marked true m ≡ true → is_marked false m ≡ true → ⊥
marks_differ marks.Plain h g = cc
marks_differ marks.Zone h g = cc
marks_differ marks.Previous h g = cc
marks_differ marks.Final h g = cc
marks_differ marks.Other h g = cc

numbers_differ : (a b e : ℕ) → not (eqb a b) ≡ true → eqb a e ≡ true → eqb b e ≡ true → ⊥
numbers_differ a b e apart h g =
    both_ways (eqb a b) (not-true _ apart) (eq-eqb a b (eqb-true a e h ∙ sym (eqb-true b e g)))

not_linear : (mode : Mode) → fits_mode mode false false ≡ true → ⊥
not_linear Reencrypt h = cc
not_linear Encrypt h = cc
not_linear Decrypt h = cc

digests_differ : (mode : Mode) (oe ne : Option Encryption) (od nd d : Option ℕ)
    → fits_mode mode (is_some oe) (is_some ne) ≡ true → has_own_digest oe od ≡ true
    → has_own_digest ne nd ≡ true
    → have_two_digests od nd ≡ true → same_digest od d ≡ true → same_digest nd d ≡ true → ⊥
digests_differ mode None None None None d fit own other two h g = not_linear mode fit
digests_differ mode (Some e) ne None nd d fit own other two h g = cc
digests_differ mode None (Some e) None None d fit own other two h g = cc
digests_differ mode None ne None (Some b) None fit own other two h g = cc
digests_differ mode None ne None (Some b) (Some x) fit own other two h g = cc
digests_differ mode oe ne (Some a) None None fit own other two h g = cc
digests_differ mode oe ne (Some a) None (Some x) fit own other two h g = cc
digests_differ mode oe ne (Some a) (Some b) None fit own other two h g = cc
digests_differ mode oe ne (Some a) (Some b) (Some x) fit own other two h g =
    numbers_differ a b x two h g

wholes_differ : (atom : ℕ) (c : Conversion) (old new : Extent) (d : Option ℕ)
    → are_wholes atom c old new ≡ true → same_digest old.digest d ≡ true
    → same_digest new.digest d ≡ true → ⊥
wholes_differ atom c old new d h =
    let a = and_parts
    (is_previous old.mark && is_final new.mark
    && fits_mode c.mode (is_some old.encryption) (is_some new.encryption)
    && starts_at_0 new.encryption && fits_place atom c.resilience old.offset new.offset
    && has_own_digest old.encryption old.digest && has_own_digest new.encryption new.digest)
    (have_two_digests old.digest new.digest) h in
    let b = and_parts
    (is_previous old.mark && is_final new.mark
    && fits_mode c.mode (is_some old.encryption) (is_some new.encryption)
    && starts_at_0 new.encryption && fits_place atom c.resilience old.offset new.offset
    && has_own_digest old.encryption old.digest) (has_own_digest new.encryption new.digest) a.0 in
    let d1 =
    and_parts
    (is_previous old.mark && is_final new.mark
    && fits_mode c.mode (is_some old.encryption) (is_some new.encryption)
    && starts_at_0 new.encryption && fits_place atom c.resilience old.offset new.offset)
    (has_own_digest old.encryption old.digest) b.0 in
    let e = and_parts
    (is_previous old.mark && is_final new.mark
    && fits_mode c.mode (is_some old.encryption) (is_some new.encryption)
    && starts_at_0 new.encryption) (fits_place atom c.resilience old.offset new.offset) d1.0 in
    let f = and_parts
    (is_previous old.mark && is_final new.mark
    && fits_mode c.mode (is_some old.encryption) (is_some new.encryption))
    (starts_at_0 new.encryption) e.0 in
    let g = and_parts (is_previous old.mark && is_final new.mark)
    (fits_mode c.mode (is_some old.encryption) (is_some new.encryption)) f.0 in
    digests_differ c.mode old.encryption new.encryption old.digest new.digest d g.1 d1.1 b.1 a.1

-- ---- three parts of which some have no block
abbrev first_part : Extent → Plan → Part
first_part whole plan = record { whole = whole; zone = false; from = 0; blocks = plan.first }

abbrev zone_part : Extent → Plan → Part
zone_part whole plan = record { whole = whole; zone = true; from = plan.first; blocks = plan.zone }

abbrev last_part : Extent → Plan → Part
last_part whole plan =
    record { whole = whole; zone = false; from = plan.first + plan.zone; blocks = plan.last }

pub step : (atom : ℕ) (p : Part) (ps : List Part) (live : List Extent)
    → laid_out atom (p ∷ ps) live ≡ true
    → ((p.blocks ≡ 0) × (laid_out atom ps live ≡ true))
    ⊎ ((begins atom p live ≡ true) × (laid_out atom ps (rest_of live) ≡ true))
unfolding laid_out
step atom p ps live h = go (eqb p.blocks 0) refl h
  where
    go : (b : Bool) → eqb p.blocks 0 ≡ b
        → cond b (laid_out atom ps live) (begins atom p live && laid_out atom ps (rest_of live))
        ≡ true
        → ((p.blocks ≡ 0) × (laid_out atom ps live ≡ true))
        ⊎ ((begins atom p live ≡ true) × (laid_out atom ps (rest_of live) ≡ true))
    go true e h = inl (eqb-true p.blocks 0 e, h)
    go false e h = inr (and_parts (begins atom p live) (laid_out atom ps (rest_of live)) h)

none_left : (atom : ℕ) (live : List Extent) (x : Extent) → laid_out atom [] (x ∷ live) ≡ true → ⊥
unfolding laid_out
none_left atom live x h = cc

-- of one segment
One : ℕ → Part → Part → Part → Extent → Type 0
One atom p q r x =
    ((is_part atom p x ≡ true) × (q.blocks ≡ 0) × (r.blocks ≡ 0))
    ⊎ (((p.blocks ≡ 0) × (is_part atom q x ≡ true) × (r.blocks ≡ 0))
    ⊎ ((p.blocks ≡ 0) × (q.blocks ≡ 0) × (is_part atom r x ≡ true)))

one : (atom : ℕ) (p q r : Part) (x : Extent) → laid_out atom (p ∷ q ∷ r ∷ []) (x ∷ []) ≡ true
    → One atom p q r x
unfolding One
one atom p q r x h = elim (step atom p (q ∷ r ∷ []) (x ∷ []) h) [
  | inl a ↦ elim (step atom q (r ∷ []) (x ∷ []) a.1) [
    | inl b ↦
        elim (step atom r [] (x ∷ []) b.1)
        [ inl d ↦ absurd (none_left atom [] x d.1) | inr d ↦ inr (inr (a.0, b.0, d.0)) ]
    | inr b ↦
        elim (step atom r [] [] b.1)
        [ inl d ↦ inr (inl (a.0, b.0, d.0)) | inr d ↦ let bad : false ≡ true = d.0 in cc ]
  ]
  | inr a ↦ elim (step atom q (r ∷ []) [] a.1) [
    | inl b ↦
        elim (step atom r [] [] b.1)
        [ inl d ↦ inl (a.0, b.0, d.0) | inr d ↦ let bad : false ≡ true = d.0 in cc ]
    | inr b ↦ let bad : false ≡ true = b.0 in cc
  ]
]

-- of two
Two : ℕ → Part → Part → Part → Extent → Extent → Type 0
Two atom p q r x y =
    ((is_part atom p x ≡ true) × (is_part atom q y ≡ true) × (r.blocks ≡ 0))
    ⊎ (((is_part atom p x ≡ true) × (q.blocks ≡ 0) × (is_part atom r y ≡ true))
    ⊎ ((p.blocks ≡ 0) × (is_part atom q x ≡ true) × (is_part atom r y ≡ true)))

two : (atom : ℕ) (p q r : Part) (x y : Extent) → laid_out atom (p ∷ q ∷ r ∷ []) (x ∷ y ∷ []) ≡ true
    → Two atom p q r x y
unfolding Two
two atom p q r x y h = elim (step atom p (q ∷ r ∷ []) (x ∷ y ∷ []) h) [
  | inl a ↦ elim (step atom q (r ∷ []) (x ∷ y ∷ []) a.1) [
    | inl b ↦
        elim (step atom r [] (x ∷ y ∷ []) b.1) [
          | inl d ↦ absurd (none_left atom (y ∷ []) x d.1)
          | inr d ↦
              absurd (none_left atom [] y d.1)
        ]
    | inr b ↦
        elim (step atom r [] (y ∷ []) b.1)
        [ inl d ↦ absurd (none_left atom [] y d.1) | inr d ↦ inr (inr (a.0, b.0, d.0)) ]
  ]
  | inr a ↦ elim (step atom q (r ∷ []) (y ∷ []) a.1) [
    | inl b ↦
        elim (step atom r [] (y ∷ []) b.1)
        [ inl d ↦ absurd (none_left atom [] y d.1) | inr d ↦ inr (inl (a.0, b.0, d.0)) ]
    | inr b ↦
        elim (step atom r [] [] b.1)
        [ inl d ↦ inl (a.0, b.0, d.0) | inr d ↦ let bad : false ≡ true = d.0 in cc ]
  ]
]

-- of three
three : (atom : ℕ) (p q r : Part) (x y z : Extent) (more : List Extent)
    → laid_out atom (p ∷ q ∷ r ∷ []) (x ∷ y ∷ z ∷ more) ≡ true
    → (is_part atom p x ≡ true) × (is_part atom q y ≡ true) × (is_part atom r z ≡ true)
three atom p q r x y z more h = elim (step atom p (q ∷ r ∷ []) (x ∷ y ∷ z ∷ more) h) [
  | inl a ↦ elim (step atom q (r ∷ []) (x ∷ y ∷ z ∷ more) a.1) [
    | inl b ↦
        elim (step atom r [] (x ∷ y ∷ z ∷ more) b.1)
        [ inl d ↦ absurd (none_left atom _ x d.1) | inr d ↦ absurd (none_left atom _ y d.1) ]
    | inr b ↦
        elim (step atom r [] (y ∷ z ∷ more) b.1)
        [ inl d ↦ absurd (none_left atom _ y d.1) | inr d ↦ absurd (none_left atom _ z d.1) ]
  ]
  | inr a ↦ elim (step atom q (r ∷ []) (y ∷ z ∷ more) a.1) [
    | inl b ↦
        elim (step atom r [] (y ∷ z ∷ more) b.1)
        [ inl d ↦ absurd (none_left atom _ y d.1) | inr d ↦ absurd (none_left atom _ z d.1) ]
    | inr b ↦
        elim (step atom r [] (z ∷ more) b.1)
        [ inl d ↦ absurd (none_left atom _ z d.1) | inr d ↦ (a.0, b.0, d.0) ]
  ]
]

-- ---- two choices for the same segments
Apart : Extent → Extent → Type 0
Apart w l =
    (x : Extent) → same_digest w.digest x.digest ≡ true → same_digest l.digest x.digest ≡ true → ⊥

-- both are the same part
same : (atom : ℕ) (p q : Part) (x : Extent) → 0 < atom → is_part atom p x ≡ true
    → is_part atom q x ≡ true → p.blocks ≡ q.blocks
same atom p q x some h g = sym (part_blocks atom p x some h) ∙ part_blocks atom q x some g

-- a zone is no other part
never : (atom : ℕ) (p q : Part) (x : Extent) → p.zone ≡ true → q.zone ≡ false
    → is_part atom p x ≡ true → is_part atom q x ≡ true → ⊥
never atom p q x zone plain h g =
    marks_differ x.mark (ap (λ z. is_marked z x.mark) (sym zone) ∙ (part_facts atom p x h).0)
    (ap (λ z. is_marked z x.mark) (sym plain) ∙ (part_facts atom q x g).0)

agree : (atom : ℕ) (w o l : Extent) (s t : Plan) (live : List Extent) → 0 < atom → 0 < length live
    → Apart w l
    → laid_out atom (first_part w s ∷ zone_part o s ∷ last_part l s ∷ []) live ≡ true
    → laid_out atom (first_part w t ∷ zone_part o t ∷ last_part l t ∷ []) live ≡ true → s ≡ t
unfolding Apart One Two
agree atom w o l s t [] some any apart h g = absurd (omega (arith, any))
agree atom w o l s t (x ∷ []) some any apart h g =
    elim (one atom (first_part w s) (zone_part o s) (last_part l s) x h) [
      | inl a ↦ elim (one atom (first_part w t) (zone_part o t) (last_part l t) x g) [
        | inl b ↦
            λ i. record {
              first =
                  same atom (first_part w s) (first_part w t) x some a.0 b.0 i;
              zone = (a.1 ∙ sym b.1) i;
              last = (a.2 ∙ sym b.2) i;
            }
        | inr b ↦ elim b [
          | inl b ↦ absurd (never atom (zone_part o t) (first_part w s) x refl refl b.1 a.0)
          | inr b ↦
              absurd (apart x (part_facts atom (first_part w s) x a.0).1
              (part_facts atom (last_part l t) x b.2).1)
        ]
      ]
      | inr a ↦ elim a [
        | inl a ↦ elim (one atom (first_part w t) (zone_part o t) (last_part l t) x g) [
          | inl b ↦ absurd (never atom (zone_part o s) (first_part w t) x refl refl a.1 b.0)
          | inr b ↦ elim b [
            | inl b ↦
                λ i. record {
                  first = (a.0 ∙ sym b.0) i;
                  zone =
                      same atom (zone_part o s) (zone_part o t) x some a.1 b.1 i;
                  last = (a.2 ∙ sym b.2) i;
                }
            | inr b ↦ absurd (never atom (zone_part o s) (last_part l t) x refl refl a.1 b.2)
          ]
        ]
        | inr a ↦ elim (one atom (first_part w t) (zone_part o t) (last_part l t) x g) [
          | inl b ↦
              absurd (apart x (part_facts atom (first_part w t) x b.0).1
              (part_facts atom (last_part l s) x a.2).1)
          | inr b ↦ elim b [
            | inl b ↦ absurd (never atom (zone_part o t) (last_part l s) x refl refl b.1 a.2)
            | inr b ↦
                λ i. record {
                  first = (a.0 ∙ sym b.0) i;
                  zone = (a.1 ∙ sym b.1) i;
                  last =
                      same atom (last_part l s) (last_part l t) x some a.2 b.2 i;
                }
          ]
        ]
      ]
    ]
agree atom w o l s t (x ∷ y ∷ []) some any apart h g =
    elim (two atom (first_part w s) (zone_part o s) (last_part l s) x y h) [
      | inl a ↦ elim (two atom (first_part w t) (zone_part o t) (last_part l t) x y g) [
        | inl b ↦
            λ i. record {
              first =
                  same atom (first_part w s) (first_part w t) x some a.0 b.0 i;
              zone = same atom (zone_part o s) (zone_part o t) y some a.1 b.1 i;
              last = (a.2 ∙ sym b.2) i;
            }
        | inr b ↦ elim b [
          | inl b ↦ absurd (never atom (zone_part o s) (last_part l t) y refl refl a.1 b.2)
          | inr b ↦ absurd (never atom (zone_part o t) (first_part w s) x refl refl b.1 a.0)
        ]
      ]
      | inr a ↦ elim a [
        | inl a ↦ elim (two atom (first_part w t) (zone_part o t) (last_part l t) x y g) [
          | inl b ↦ absurd (never atom (zone_part o t) (last_part l s) y refl refl b.1 a.2)
          | inr b ↦ elim b [
            | inl b ↦
                λ i. record {
                  first =
                      same atom (first_part w s) (first_part w t) x some a.0 b.0 i;
                  zone = (a.1 ∙ sym b.1) i;
                  last = same atom (last_part l s) (last_part l t) y some a.2 b.2 i;
                }
            | inr b ↦ absurd (never atom (zone_part o t) (first_part w s) x refl refl b.1 a.0)
          ]
        ]
        | inr a ↦ elim (two atom (first_part w t) (zone_part o t) (last_part l t) x y g) [
          | inl b ↦ absurd (never atom (zone_part o s) (first_part w t) x refl refl a.1 b.0)
          | inr b ↦ elim b [
            | inl b ↦ absurd (never atom (zone_part o s) (first_part w t) x refl refl a.1 b.0)
            | inr b ↦
                λ i. record {
                  first = (a.0 ∙ sym b.0) i;
                  zone =
                      same atom (zone_part o s) (zone_part o t) x some a.1 b.1 i;
                  last = same atom (last_part l s) (last_part l t) y some a.2 b.2 i;
                }
          ]
        ]
      ]
    ]
agree atom w o l s t (x ∷ y ∷ z ∷ more) some any apart h g =
    let a = three atom (first_part w s) (zone_part o s) (last_part l s) x y z more h in
    let b = three atom (first_part w t) (zone_part o t) (last_part l t) x y z more g in
    λ i. record {
      first = same atom (first_part w s) (first_part w t) x some a.0 b.0 i;
      zone = same atom (zone_part o s) (zone_part o t) y some a.1 b.1 i;
      last = same atom (last_part l s) (last_part l t) z some a.2 b.2 i;
    }

agree_by : (atom : ℕ) (d : Direction) (old new : Extent) (s t : Plan) (live : List Extent)
    → 0 < atom → 0 < length live
    → ((x : Option ℕ) → same_digest old.digest x ≡ true → same_digest new.digest x ≡ true → ⊥)
    → laid_out atom (parts_of d old new s) live ≡ true
    → laid_out atom (parts_of d old new t) live ≡ true → s ≡ t
unfolding Apart
agree_by atom Forward old new s t live some any apart h g =
    agree atom new old old s t live some any (λ x p q. apart x.digest q p) h g
agree_by atom Backward old new s t live some any apart h g =
    agree atom old old new s t live some any (λ x p q. apart x.digest p q) h g

pub one_choice : (atom : ℕ) (c : Conversion) (live : List Extent) (old new : Extent) (s t : Plan)
    → 0 < atom → 0 < length live → IsState atom c live old new s → IsState atom c live old new t
    → s ≡ t
one_choice atom c live old new s t some any is also =
    agree_by atom c.direction old new s t live some any
    (λ d. wholes_differ atom c old new d is.wholes) (laid_by atom c old new live s is.parts)
    (laid_by atom c old new live t also.parts)
