-- A disk that told its bytes is refused only where memory was wanted or a device call failed, under
-- its header and a key of its segment's digest; and wherever these bytes stand for a content.
use Rattle.std.proofs.Common.{◌≡◌, ◌∙◌, ◌*◌, ◌≤◌, ◌==◌, ◌⊎◌, ◌||◌, not, nat_le, ◌&&◌}
use Rattle.std.proofs.Common.{inl, inr, ℕ, Bool, true, false, List, [], ◌∷◌, length, map, ap, sym}
use Rattle.std.proofs.Common.{subst, refl, arith, Option, Some, None, Result, Ok, Err, IsSome}
use Rattle.std.proofs.lemmas.Bool.{and_parts, leb-true}
use Rattle.std.proofs.lemmas.Bool.Decides.{Decides-eqb}
use Rattle.std.proofs.lemmas.Slice.Eq.{bytes_eq-Decides}
use Rattle.std.specs.List.{list_all}
use Rattle.std.specs.Prelude.{option_and_then}
use Rattle.std.specs.Str.{bytes_eq}
use Rattle.base_terms.specs.declared.disk_sizes.Sizes.{Sizes}
use Rattle.header_report.proofs.ExamineLemmas.{whole_front}
use Rattle.header_report.specs.Examinations.{sizes_alone}
use Rattle.luks_meta.specs.declared.digest.Digest.{Digest}
use Rattle.luks_meta.specs.declared.meta.Parts.{Parts}
use Rattle.luks_meta.specs.declared.segment.Encryption.{Encryption}
use Rattle.luks_meta.specs.declared.segment.Segment.{Segment}
use Rattle.luks_rules.specs.Extents.{extent_of}
use Rattle.luks_rules.specs.Idles.{idle_of}
use Rattle.luks_rules.specs.References.{lists, value_at}
use Rattle.luks_rules.specs.Segments.{in_progress}
use Rattle.luks_rules.specs.declared.extents.Extent.{Extent}
use Rattle.luks_rules.specs.declared.idle.Idle.{Idle}
use Rattle.luks_slots.specs.Functions.{has_key_length, named_cipher}
use Rattle.luks_slots.specs.Slots.{fits, takes_key}
use Rattle.luks_slots.specs.Unlocks.{IsCutShort, digest_of, key_of, matches}
use Rattle.luks_slots.specs.declared.fault.SlotFault.{SlotFault}
use Rattle.luks_store.specs.Devices.{KeepsBytes}
use Rattle.luks_store.specs.Loads.{Says, stored_in}
use Rattle.luks_store.specs.Used.{Refusal}
use Rattle.luks_store.specs.declared.fault.StoreFault.{StoreFault}
use Rattle.luks_store.specs.declared.fault.StoreFault.TheVariants as faults
use Rattle.luks_store.specs.declared.loaded.Stored.{Stored}
use Rattle.reenc_meta.specs.Placements.{IsPlacementOf, PlacedBy}
use Rattle.reenc_meta.specs.declared.placement.Placement.{Placement}
use Rattle.reenc_recovery.specs.Causes.{IsCauseIn}
use Rattle.reenc_recovery.specs.Images.{StandsFor}
use Rattle.reenc_recovery.specs.Placings.{PlacesVolume, RestsIn}
use Rattle.reenc_recovery.specs.Keys.{Differs, DiffersBy, IsComputed, key_by, key_for}
use Rattle.reenc_recovery.specs.declared.fault.OpenCause.{OpenCause}
use Rattle.reenc_recovery.specs.declared.fault.OpenCause.TheVariants as causes
use Rattle.reenc_recovery.proofs.PlacingLemmas.{resting}
use Rattle.sector_cipher.specs.Names.{IsKeyLength}
use Rattle.sector_cipher.specs.declared.spec.Spec.{Spec}
use Rattle.sector_cipher.specs.declared.spec.Spec.TheVariants.{AesXtsPlain64, AesCbcEssivSha256}
use Rattle.sector_disk.specs.Devices.{Device}
use Rattle.volume_opening.proofs.KeyLemmas.{its_digest, its_idle, one_idle}
use Rattle.volume_opening.specs.Openings.{IsFound, IsKeyFound, IsRightBy, IsTried, IsUnderKey}
use Rattle.volume_opening.specs.Refusals.{HasNoKey, IsNotTried, IsUnopenedBy}
use Rattle.volume_opening.specs.Shorts.{IsShort, IsShortOf, IsUnread}
use Rattle.volume_opening.specs.declared.refusal.Refusal.{Refusal as Refused}
use Rattle.volume_opening.specs.declared.refusal.Refusal.TheVariants as refusals

-- ---- a key of a digest
either : (a b n : ℕ) → ((n == a) || (n == b)) ≡ true → (n ≡ a) ⊎ (n ≡ b)
either a b n is = by_case (n == a) refl
  where
    by_case : (t : Bool) → (n == a) ≡ t → (n ≡ a) ⊎ (n ≡ b)
    by_case true same = inl ((Decides-eqb n a).0 same)
    by_case false other =
        inr ((Decides-eqb n b).0 (subst (λ (t : Bool). (t || (n == b)) ≡ true) other is))

known_length : (s : Spec) (n : ℕ) → has_key_length s n ≡ true → IsKeyLength s n
known_length AesXtsPlain64 n is = either 32 64 n is
known_length AesCbcEssivSha256 n is = either 16 32 n is

-- it has a length of the cipher of the one segment, which the digest lists
taken : (digests : List (ℕ × Digest)) (segments : List (ℕ × Segment)) (e : Extent) (d : Digest)
    (n : ℕ) → map (extent_of digests) segments ≡ e ∷ [] → lists d.segments e.number ≡ true →
    list_all (λ s. not (lists d.segments s.0) || takes_key n s.1.encryption) segments ≡ true →
    takes_key n e.encryption ≡ true
taken digests [] e d n is listed all = absurd (let no : [] ≡ e ∷ [] = is in cc)
taken digests (s ∷ more) e d n is listed all =
    let same : extent_of digests s ≡ e =
    (let both : extent_of digests s ∷ map (extent_of digests) more ≡ e ∷ [] = is in cc) in
    let here : lists d.segments s.0 ≡ true =
    subst (λ (x : Extent). lists d.segments x.number ≡ true) (sym same) listed in
    let one = (and_parts (not (lists d.segments s.0) || takes_key n s.1.encryption)
    (list_all (λ s. not (lists d.segments s.0) || takes_key n s.1.encryption) more) all).0 in
    subst (λ (x : Extent). takes_key n x.encryption ≡ true) same
    (subst (λ (t : Bool). (not t || takes_key n s.1.encryption) ≡ true) here one)

takes : (m : Parts) (e : Extent) (d : Digest) (n : ℕ) →
    map (extent_of m.digests) m.segments ≡ e ∷ [] → lists d.segments e.number ≡ true →
    fits m d n ≡ true → takes_key n e.encryption ≡ true
unfolding fits
takes m e d n is listed fit =
    taken m.digests m.segments e d n is listed
    (and_parts (nat_le 1 n && nat_le n 64)
    (list_all (λ s. not (lists d.segments s.0) || takes_key n s.1.encryption) m.segments) fit).1

pub record Matches (d : Digest) (key : List ℕ) : Type 0 where
  pub least : 20 ≤ length d.digest
  pub most : length d.digest ≤ 64
  pub same : digest_of d key (length d.digest) ≡ d.digest

matching : (d : Digest) (key : List ℕ) → matches d key ≡ true → Matches d key
unfolding matches
matching d key is =
    let t = and_parts (nat_le 20 (length d.digest) && nat_le (length d.digest) 64)
    (bytes_eq (digest_of d key (length d.digest)) d.digest) is in
    let u = and_parts (nat_le 20 (length d.digest)) (nat_le (length d.digest) 64) t.0 in
    record {
      least = leb-true 20 (length d.digest) u.0;
      most = leb-true (length d.digest) 64 u.1;
      same = (bytes_eq-Decides (digest_of d key (length d.digest)) d.digest).0 t.1;
    }

-- so nothing else was computed of it than the digest
none_other : (d : Digest) (s : Spec) (key computed : List ℕ) → IsKeyLength s (length key) →
    Matches d key → IsComputed d s (Some key) computed → ⊥
none_other d s key computed known is (inl (untried, none)) = elim untried [
  | inl unknown ↦ unknown known
  | inr (inl short) ↦ omega (arith, short, is.least)
  | inr (inr long) ↦ omega (arith, long, is.most)
]
none_other d s key computed known is (inr (computed_is, other)) = other (computed_is ∙ is.same)

-- ---- a key that was found
module _ (m : Parts) (sizes : Sizes) (pass : List ℕ) (held : Option (List ℕ))
    (key : Option (List ℕ)) (found : IsKeyFound m sizes pass held key) where
  listed : (n : ℕ) (d : Digest) → IsSome found.idle.segment.encryption →
      found.idle.segment.digest ≡ Some n → value_at m.digests n ≡ Some d →
      lists d.segments found.idle.segment.number ≡ true
  listed n d crypt number there =
      let (k, x, under) = its_digest m sizes found.sound found.idle found.is crypt in
      let one : k ≡ n = (let e : Some k ≡ Some n = sym under.number ∙ number in cc) in
      let same : x ≡ d = (let e : Some x ≡ Some d =
      sym (subst (λ (j : ℕ). value_at m.digests j ≡ Some x) one under.digest) ∙ there in cc) in
      subst (λ (y : Digest). lists y.segments found.idle.segment.number ≡ true) same under.listed

  differs_by : (c : Option Encryption) (n : Option ℕ) (computed stored : List ℕ) →
      found.idle.segment.encryption ≡ c → found.idle.segment.digest ≡ n → IsRightBy m c n key →
      DiffersBy m c n key computed stored → ⊥
  differs_by None n computed stored crypt number right differs = differs
  differs_by (Some e) None computed stored crypt number right differs = right
  differs_by (Some e) (Some n) computed stored crypt number (bytes, is, (d, there, right))
      (x, also, stored_is, computed_is) =
      let same : x ≡ d = (let both : Some x ≡ Some d = sym also ∙ there in cc) in
      let here = listed n d
      (subst (λ (c : Option Encryption). IsSome c) (sym crypt) refl) number there in
      let known : takes_key (length bytes) (Some e) ≡ true =
      subst (λ (c : Option Encryption). takes_key (length bytes) c ≡ true) crypt
      (takes m found.idle.segment d (length bytes)
      (its_idle m sizes found.sound found.idle found.is).segments here right.fit) in
      none_other d (named_cipher e.cipher) bytes computed
      (known_length (named_cipher e.cipher) (length bytes) known) (matching d bytes right.same)
      (subst (λ (k : Option (List ℕ)). IsComputed d (named_cipher e.cipher) k computed) is
      (subst (λ (y : Digest). IsComputed y (named_cipher e.cipher) key computed) same computed_is))

  differs_not : (p : Placement) (computed stored : List ℕ) → IsPlacementOf m sizes p →
      Differs m p.new key computed stored → ⊥
  differs_not p computed stored placed differs =
      let by = subst (λ (v : Option Idle). PlacedBy sizes v p) found.is placed in
      differs_by found.idle.segment.encryption found.idle.segment.digest computed stored refl refl
      found.key_is
      (subst (λ (e : Extent). Differs m e key computed stored) by.new differs)

-- ---- under a header and a key
module _ (sizes : Sizes) (pass : List ℕ) (values key : Option (List ℕ)) (stored : Stored)
    (held : Result Stored Refusal) (is : held ≡ Ok stored)
    (found : IsKeyFound stored.valid.meta sizes pass values key) where
  one_stored : (other : Stored) → held ≡ Ok other → other ≡ stored
  one_stored other also = (let both : Ok other ≡ Ok stored = sym also ∙ is in cc)

  short_by : (cause : OpenCause) → IsCauseIn sizes key held cause → IsShort cause
  short_by causes.Memory cause_is = tt
  short_by causes.Device cause_is = tt
  short_by (causes.NoHeader primary secondary) none =
      absurd (let no = sym is ∙ none in cc)
  short_by (causes.CopiesDiffer seqid place) (a, b, none, first) =
      absurd (let no = sym is ∙ none in cc)
  short_by (causes.Json fault) none = absurd (let no = sym is ∙ none in cc)
  short_by (causes.Rule fault) none = absurd (let no = sym is ∙ none in cc)
  short_by causes.InProgress (other, also, busy) =
      absurd (let idle = one_idle stored.valid.meta sizes found.sound found.idle found.is in
      let busy : in_progress stored.valid.meta.config ≡ true =
      subst (λ (s : Stored). in_progress s.valid.meta.config ≡ true) (one_stored other also) busy in
      let no : false ≡ true = sym idle ∙ busy in cc)
  short_by (causes.KeyDiffers computed digest) (other, also, (p, placed, differs)) =
      absurd (differs_not stored.valid.meta sizes pass values key found p computed digest
      (subst (λ (s : Stored). IsPlacementOf s.valid.meta sizes p) (one_stored other also) placed)
      (subst (λ (s : Stored). Differs s.valid.meta p.new key computed digest)
      (one_stored other also) differs))

pub short_under : (device : Device) (stored : Stored) (pass : List ℕ) (key : Option (List ℕ)) →
    IsUnderKey device stored pass key → (bytes : List ℕ) → device.values ≡ Some bytes →
    (cause : OpenCause) →
    IsCauseIn (sizes_alone device) key (stored_in (sizes_alone device) bytes) cause →
    IsShort cause
short_under device stored pass key under bytes told cause =
    short_by (sizes_alone device) pass device.values key stored
    (stored_in (sizes_alone device) bytes) (under.found.held bytes told)
    (subst (λ (s : Sizes). IsKeyFound stored.valid.meta s pass device.values key)
    under.found.sizes under.key_found) cause

-- ---- where the bytes stand for a content, and nothing is being converted by their header
given : (m : Parts) (image pass new : List ℕ) (c : Option Encryption) (n : Option ℕ) (number : ℕ)
    (d : Digest) → IsSome c → n ≡ Some number → value_at m.digests number ≡ Some d →
    key_by m image pass c n ≡ Some new → key_of m d image pass ≡ Some new
given m image pass new None n number d crypt wanted there is =
    absurd (let no : false ≡ true = crypt in cc)
given m image pass new (Some e) n number d crypt wanted there is =
    let by : option_and_then (λ (d : Digest). key_of m d image pass) (value_at m.digests number)
    ≡ Some new = subst (λ (x : Option ℕ). key_by m image pass (Some e) x ≡ Some new) wanted is in
    sym (ap (option_and_then (λ (d : Digest). key_of m d image pass)) there) ∙ by

module _ {D : Type 0} (device : D → Device) (disk back : D) (pass first : List ℕ)
    (content : List (List ℕ)) (told : (device disk).values ≡ Some first)
    (long : length first ≡ (device disk).atoms * (device disk).size) (tried : IsTried pass)
    (stands : StandsFor (sizes_alone (device disk)) pass first content)
    (rests : RestsIn (sizes_alone (device disk)) first) where
  header_is : stored_in (sizes_alone (device disk)) first ≡ Ok stands.stands.stored
  header_is =
      subst (λ (all : List ℕ).
      stored_in (sizes_alone (device disk)) all ≡ Ok stands.stands.stored)
      (whole_front (device disk) first long) stands.stands.header

  unread : (fault : StoreFault) → Says fault (stored_in (sizes_alone (device disk)) first) →
      IsUnread fault
  unread faults.Memory says = tt
  unread faults.Device says = tt
  unread (faults.NoHeader primary secondary) none = absurd (let no = sym header_is ∙ none in cc)
  unread (faults.CopiesDiffer seqid place) (a, b, none, differ) =
      absurd (let no = sym header_is ∙ none in cc)
  unread (faults.Json fault) none = absurd (let no = sym header_is ∙ none in cc)
  unread (faults.Rule fault) none = absurd (let no = sym header_is ∙ none in cc)

  its_header : (stored : Stored) → IsFound (device disk) stored → stands.stands.stored ≡ stored
  its_header stored found =
      (let both : Ok stands.stands.stored ≡ Ok stored = sym header_is ∙ found.held first told in cc)

  its_rest : (stored : Stored) → IsFound (device disk) stored →
      in_progress stored.valid.meta.config ≡ false
  its_rest stored found =
      rests stored (ap (stored_in (sizes_alone (device disk))) (whole_front (device disk) first long)
      ∙ found.held first told)

  its_placement : (stored : Stored) → IsFound (device disk) stored →
      IsPlacementOf stored.valid.meta (sizes_alone (device disk)) stands.stands.placement
  its_placement stored found =
      resting stored.valid.meta (sizes_alone (device disk)) stands.stands.placement
      (its_rest stored found)
      (subst (λ (s : Stored).
      PlacesVolume s.valid.meta (sizes_alone (device disk)) stands.stands.placement)
      (its_header stored found) stands.stands.placed)

  not_busy : (stored : Stored) → IsFound (device disk) stored →
      in_progress stored.valid.meta.config ≡ true → ⊥
  not_busy stored found busy =
      (let no : false ≡ true = sym (its_rest stored found) ∙ busy in cc)

  not_long : IsNotTried pass → ⊥
  not_long (inl none) = omega (arith, none, tried.0)
  not_long (inr more) = omega (arith, more, tried.1)

  -- the keyslots give the segment's key
  key_is : (stored : Stored) (v : Idle) (number : ℕ) (d : Digest) → IsFound (device disk) stored →
      idle_of stored.valid.meta stored.valid.sizes ≡ Some v → IsSome v.segment.encryption →
      v.segment.digest ≡ Some number → value_at stored.valid.meta.digests number ≡ Some d →
      key_of stored.valid.meta d first pass ≡ Some stands.new
  key_is stored v number d found there crypt wanted is_digest =
      let idle : idle_of stored.valid.meta (sizes_alone (device disk)) ≡ Some v =
      subst (λ (z : Sizes). idle_of stored.valid.meta z ≡ Some v) found.sizes there in
      let by = subst (λ (v : Option Idle).
      PlacedBy (sizes_alone (device disk)) v stands.stands.placement) idle
      (its_placement stored found) in
      let new_is : key_for stored.valid.meta first pass stands.stands.placement.new
      ≡ Some stands.new =
      subst (λ (s : Stored).
      key_for s.valid.meta first pass stands.stands.placement.new ≡ Some stands.new)
      (its_header stored found) stands.new_is in
      given stored.valid.meta first pass stands.new v.segment.encryption v.segment.digest number d
      crypt wanted is_digest
      (subst (λ (e : Extent). key_for stored.valid.meta first pass e ≡ Some stands.new) by.new
      new_is)

  slots_short : (stored : Stored) (read new : Device) (fault : SlotFault) →
      IsFound (device disk) stored → KeepsBytes (device disk) read →
      HasNoKey stored.valid.meta stored.valid.sizes pass read new fault → IsCutShort (Err fault)
  slots_short stored read new fault found kept none =
      elim (none.answered.exact first (kept.values ∙ told)) [
        | inl short ↦ short
        | inr none_there ↦ absurd (let one : None ≡ Some stands.new =
            none_there ∙ key_is stored none.idle none.number none.digest found none.is none.crypt none.wanted
            none.is_digest in cc)
      ]

  pub refused_short : (refusal : Refused) (header : Option D) →
      IsUnopenedBy device disk pass refusal header back → IsShortOf refusal
  refused_short (refusals.Header fault) header (none, kept, says, cause) =
      unread fault (says first told)
  refused_short (refusals.Opening cause) header (joint, are, under) = under.short first told
  refused_short refusals.InProgress header (none, by) = not_busy by.stored by.found by.none
  refused_short (refusals.Passphrase count) header (none, by) = not_long by.none.1
  refused_short (refusals.Slots fault) header (none, by) =
      slots_short by.stored by.read (device back) fault by.found by.header_read by.none
