-- A key that is one of a side's digest doesn't differ from it.
use Rattle.std.proofs.Common.{◌≡◌, ◌∙◌, ◌==◌, ◌⊎◌, ◌||◌, ◌&&◌, not, nat_le, inl, inr, ℕ}
use Rattle.std.proofs.Common.{Bool, true, false, List, [], ◌∷◌, ◌++◌, length, map, sym, subst, refl}
use Rattle.std.proofs.Common.{arith, Option, Some, None, IsSome}
use Rattle.std.proofs.lemmas.Bool.{and_parts, leb-true}
use Rattle.std.proofs.lemmas.Bool.Decides.{Decides-eqb}
use Rattle.std.proofs.lemmas.Slice.Eq.{bytes_eq-Decides}
use Rattle.std.specs.List.{list_all}
use Rattle.std.specs.Str.{bytes_eq}
use Rattle.luks_meta.specs.declared.digest.Digest.{Digest}
use Rattle.luks_meta.specs.declared.meta.Parts.{Parts}
use Rattle.luks_meta.specs.declared.segment.Encryption.{Encryption}
use Rattle.luks_meta.specs.declared.segment.Segment.{Segment}
use Rattle.luks_rules.specs.Extents.{extent_of}
use Rattle.luks_rules.specs.References.{lists, value_at}
use Rattle.luks_rules.specs.States.{IsUnder}
use Rattle.luks_rules.specs.declared.extents.Extent.{Extent}
use Rattle.luks_slots.specs.Functions.{has_key_length, named_cipher}
use Rattle.luks_slots.specs.Slots.{fits, takes_key}
use Rattle.luks_slots.specs.Unlocks.{digest_of, matches}
use Rattle.reenc_recovery.specs.Keys.{Differs, DiffersBy, IsComputed}
use Rattle.sector_cipher.specs.Names.{IsKeyLength}
use Rattle.sector_cipher.specs.declared.spec.Spec.{Spec}
use Rattle.sector_cipher.specs.declared.spec.Spec.TheVariants.{AesXtsPlain64, AesCbcEssivSha256}
use Rattle.volume_opening.specs.Openings.{IsRightBy}

-- ---- a key of a digest
either : (a b n : ℕ) → ((n == a) || (n == b)) ≡ true → (n ≡ a) ⊎ (n ≡ b)
either a b n is = by_case (n == a) refl
  where
    by_case : (t : Bool) → (n == a) ≡ t → (n ≡ a) ⊎ (n ≡ b)
    by_case true same = inl ((Decides-eqb n a).0 same)
    by_case false other =
        inr ((Decides-eqb n b).0 (subst (λ (t : Bool). (t || (n == b)) ≡ true) other is))

known_length : (s : Spec) (n : ℕ) → has_key_length s n ≡ true → IsKeyLength s n
known_length AesXtsPlain64 n is = either 32 64 n is
known_length AesCbcEssivSha256 n is = either 16 32 n is

-- so nothing else was computed of it than the digest
none_other : (d : Digest) (s : Spec) (key computed : List ℕ) → IsKeyLength s (length key)
    → matches d key ≡ true → IsComputed d s (Some key) computed → ⊥
unfolding matches
none_other d s key computed known is (inl (untried, none)) =
    let t = and_parts (nat_le 20 (length d.digest) && nat_le (length d.digest) 64)
    (bytes_eq (digest_of d key (length d.digest)) d.digest) is in
    let u = and_parts (nat_le 20 (length d.digest)) (nat_le (length d.digest) 64) t.0 in
    let least = leb-true 20 (length d.digest) u.0 in
    let most = leb-true (length d.digest) 64 u.1 in
    elim untried [
      | inl unknown ↦ unknown known
      | inr (inl short) ↦ omega (arith, short, least)
      | inr (inr long) ↦ omega (arith, long, most)
    ]
none_other d s key computed known is (inr (computed_is, other)) =
    let t = and_parts (nat_le 20 (length d.digest) && nat_le (length d.digest) 64)
    (bytes_eq (digest_of d key (length d.digest)) d.digest) is in
    other (computed_is ∙ (bytes_eq-Decides (digest_of d key (length d.digest)) d.digest).0 t.1)

-- ---- a segment among those that its digest lists
taken : (digests : List (ℕ × Digest)) (segments : List (ℕ × Segment))
    (before after : List Extent) (e : Extent) (d : Digest) (n : ℕ)
    → map (extent_of digests) segments ≡ before ++ e ∷ after → lists d.segments e.number ≡ true
    → list_all (λ s. not (lists d.segments s.0) || takes_key n s.1.encryption) segments ≡ true
    → takes_key n e.encryption ≡ true
taken digests [] [] after e d n is listed all = absurd (let no : [] ≡ e ∷ after = is in cc)
taken digests [] (b ∷ before) after e d n is listed all =
    absurd (let no : [] ≡ b ∷ (before ++ e ∷ after) = is in cc)
taken digests (s ∷ more) [] after e d n is listed all =
    let same : extent_of digests s ≡ e =
    (let both : extent_of digests s ∷ map (extent_of digests) more ≡ e ∷ after = is in cc) in
    let here : lists d.segments s.0 ≡ true =
    subst (λ (x : Extent). lists d.segments x.number ≡ true) (sym same) listed in
    let one = (and_parts (not (lists d.segments s.0) || takes_key n s.1.encryption)
    (list_all (λ s. not (lists d.segments s.0) || takes_key n s.1.encryption) more) all).0 in
    subst (λ (x : Extent). takes_key n x.encryption ≡ true) same
    (subst (λ (t : Bool). (not t || takes_key n s.1.encryption) ≡ true) here one)
taken digests (s ∷ more) (b ∷ before) after e d n is listed all =
    let rest : map (extent_of digests) more ≡ before ++ e ∷ after =
    (let both : extent_of digests s ∷ map (extent_of digests) more ≡ b ∷ (before ++ e ∷ after) =
    is in cc) in
    taken digests more before after e d n rest listed
    (and_parts (not (lists d.segments s.0) || takes_key n s.1.encryption)
    (list_all (λ s. not (lists d.segments s.0) || takes_key n s.1.encryption) more) all).1

module _ (m : Parts) (e : Extent) (before after : List Extent)
    (segments : map (extent_of m.digests) m.segments ≡ before ++ e ∷ after)
    (under : IsSome e.encryption → (n : ℕ) × (d : Digest) × IsUnder m e n d)
    (key : Option (List ℕ)) where
  takes : (d : Digest) (n : ℕ) → lists d.segments e.number ≡ true → fits m d n ≡ true
      → takes_key n e.encryption ≡ true
  unfolding fits
  takes d n listed fit =
      taken m.digests m.segments before after e d n segments listed
      (and_parts (nat_le 1 n && nat_le n 64)
      (list_all (λ s. not (lists d.segments s.0) || takes_key n s.1.encryption) m.segments) fit).1

  listed : (n : ℕ) (d : Digest) → IsSome e.encryption → e.digest ≡ Some n
      → value_at m.digests n ≡ Some d → lists d.segments e.number ≡ true
  listed n d crypt number there =
      let (k, x, is) = under crypt in
      let one : k ≡ n = (let e : Some k ≡ Some n = sym is.number ∙ number in cc) in
      let same : x ≡ d = (let e : Some x ≡ Some d =
      sym (subst (λ (j : ℕ). value_at m.digests j ≡ Some x) one is.digest) ∙ there in cc) in
      subst (λ (y : Digest). lists y.segments e.number ≡ true) same is.listed

  differs_by : (c : Option Encryption) (n : Option ℕ) (computed stored : List ℕ)
      → e.encryption ≡ c → e.digest ≡ n → IsRightBy m c n key
      → DiffersBy m c n key computed stored → ⊥
  differs_by None n computed stored crypt number right differs = differs
  differs_by (Some c) None computed stored crypt number right differs = right
  differs_by (Some c) (Some n) computed stored crypt number (bytes, is, (d, there, right))
      (x, also, stored_is, computed_is) =
      let same : x ≡ d = (let both : Some x ≡ Some d = sym also ∙ there in cc) in
      let here = listed n d (subst (λ (c : Option Encryption). IsSome c) (sym crypt) refl) number
      there in
      let known : takes_key (length bytes) (Some c) ≡ true =
      subst (λ (c : Option Encryption). takes_key (length bytes) c ≡ true) crypt
      (takes d (length bytes) here right.fit) in
      none_other d (named_cipher c.cipher) bytes computed
      (known_length (named_cipher c.cipher) (length bytes) known) right.same
      (subst (λ (k : Option (List ℕ)). IsComputed d (named_cipher c.cipher) k computed) is
      (subst (λ (y : Digest). IsComputed y (named_cipher c.cipher) key computed) same computed_is))

  pub differs_not : IsRightBy m e.encryption e.digest key → (computed stored : List ℕ)
      → Differs m e key computed stored → ⊥
  differs_not right computed stored differs =
      differs_by e.encryption e.digest computed stored refl refl right differs
