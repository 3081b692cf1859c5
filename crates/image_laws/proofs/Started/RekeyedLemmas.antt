-- What the keyslots give to a passphrase for the segments of a volume that begins to be encrypted
-- anew.
use Rattle.std.proofs.Common.{◌≡◌, ℕ, ◌*◌, ◌&&◌, ◌∷◌, eqb, List, [], length, map, take}
use Rattle.std.proofs.Common.{true, false, Option, Some, None, IsSome, refl, sym, ◌∙◌, ap}
use Rattle.std.proofs.Common.{subst}
use Rattle.std.proofs.lemmas.Bool.{and_parts, ne_eqb}
use Rattle.std.specs.List.{All}
use Rattle.std.specs.Option.{is_some, option_map}
use Rattle.std.specs.Prelude.{option_and_then}
use Rattle.base_terms.specs.declared.disk_sizes.Sizes.{Sizes}
use Rattle.luks_meta.specs.declared.digest.Digest.{Digest}
use Rattle.luks_meta.specs.declared.keyslot.Keyslot.{Keyslot}
use Rattle.luks_meta.specs.declared.keyslot.Keyslot.TheVariants as keyslots
use Rattle.luks_meta.specs.declared.keyslot.Luks2.{Luks2}
use Rattle.luks_meta.specs.declared.keyslot.Priority.{Priority as Rank}
use Rattle.luks_meta.specs.declared.keyslot.Priority.TheVariants.{Normal, High}
use Rattle.luks_meta.specs.declared.meta.Parts.{Parts}
use Rattle.luks_meta.specs.declared.segment.Encryption.{Encryption}
use Rattle.luks_meta.specs.declared.segment.Segment.{Segment}
use Rattle.luks_rules.specs.Extents.{extent_of}
use Rattle.luks_rules.specs.References.{is_there, lists, value_at}
use Rattle.luks_rules.specs.Shapes.{fits_mode}
use Rattle.luks_rules.specs.States.{IsIdle, IsUnder}
use Rattle.luks_rules.specs.declared.areas.Area.{Area}
use Rattle.luks_rules.specs.declared.extents.Extent.{Extent}
use Rattle.luks_rules.specs.declared.idle.Idle.{Idle}
use Rattle.luks_slots.specs.Functions.{named_cipher}
use Rattle.luks_slots.specs.NewSlots.{StandsIn, salt_len}
use Rattle.luks_slots.specs.Slots.{fits, is_ranked, takes_key}
use Rattle.luks_slots.specs.Unlocks.{first_key, key_at, key_in, key_of, matches, or_else}
use Rattle.luks_slots.specs.declared.new_slot.NewSlot.{NewSlot}
use Rattle.reenc_meta.specs.Layouts.{listed_by, segments_under}
use Rattle.reenc_meta.specs.Starts.{conversion_slot, lowest_free, new_extent, new_for, old_extent}
use Rattle.reenc_meta.specs.Runs.{run_of}
use Rattle.reenc_meta.specs.Layouts.{part_of}
use Rattle.reenc_meta.specs.Starts.{old_whole, progress_to, started, started_from, with_digest}
use Rattle.reenc_meta.specs.Starts.{with_new, with_slot}
use Rattle.reenc_meta.specs.Wishes.{encryption_for}
use Rattle.reenc_meta.specs.declared.wish.Wish.{Wish}
use Rattle.reenc_recovery.specs.Keys.{IsKeyBy, IsKeyOf, key_by, key_for}
use Rattle.segment_map.specs.declared.Side.TheVariants.{Old}
use Rattle.image_laws.proofs.Started.AgreeLemmas.{IsReadAlike}
use Rattle.image_laws.proofs.Started.BegunLemmas.{begun, begun-is, fits-new, fits-old, fits-one}
use Rattle.image_laws.proofs.Started.BegunLemmas.{is_short}
use Rattle.image_laws.proofs.Started.BegunLemmas.{key-fits, new-encryption, no-priority, one-segment}
use Rattle.image_laws.proofs.Started.BegunLemmas.{relisted-matches, start_sides, still-matches}
use Rattle.image_laws.proofs.Started.BegunLemmas.{under-old}
use Rattle.image_laws.proofs.Started.BlockLemmas.{the-idle}
use Rattle.image_laws.proofs.Started.HeaderLemmas.{IsKnown}
use Rattle.image_laws.proofs.Started.KeyLemmas.{AreAlike, first-same}
use Rattle.image_laws.proofs.Started.NumberLemmas.{free-kept, new-value, number-free, value-changed}
use Rattle.image_laws.proofs.Started.NumberLemmas.{value-skips, value-there}
use Rattle.image_laws.proofs.Started.SlotLemmas.{first-only, first-skips, listed-gives, lists-none}
use Rattle.image_laws.proofs.Started.SlotLemmas.{others-none, unlisted-none, unranked-none}
use Rattle.image_laws.specs.Started.Gaps.{key_areas}
use Rattle.image_laws.specs.Started.Starting.{IsRekeyed}

some-of : (o : Option Encryption) → is_some o ≡ true → IsSome o
some-of None is = absurd cc
some-of (Some e) is = refl

module _ (sizes : Sizes) (m : Parts) (v : Idle) (w : Wish) (pass key : List ℕ)
    (besides : List Area) (offset : ℕ) (slot : NewSlot) (known : IsKnown sizes m)
    (is : IsRekeyed m sizes v w pass key besides offset slot) where
  -- ---- the volume as it was
  idle : IsIdle m sizes v
  idle = the-idle m sizes v known.sound is.idle

  pub segment : (s : ℕ × Segment) × (m.segments ≡ s ∷ []) × (extent_of m.digests s ≡ v.segment)
  segment = one-segment m.digests m.segments v.segment idle.segments

  encrypted : IsSome v.segment.encryption
  encrypted =
      some-of v.segment.encryption
      (and_parts (is_some v.segment.encryption) (is_some (encryption_for w w.mode))
      (ap (λ mode. fits_mode mode (is_some v.segment.encryption)
      (is_some (encryption_for w w.mode))) (sym is.mode) ∙ is.room.mode)).0

  under : (n : ℕ) × (d : Digest) × IsUnder m v.segment n d
  under = idle.placed.digest encrypted

  -- ---- the next metadata
  abbrev pub old : Segment
  old = segment.0.1

  abbrev pub new : Segment
  new = new_for sizes.atom w v old

  abbrev pub next : Parts
  next = begun sizes.atom w m v old new

  pub next-is : started sizes.atom w m v ≡ next
  next-is =
      ap (started_from sizes.atom w m v) segment.1 ∙ begun-is sizes.atom w m v old new is.room.some

  abbrev slot-number : ℕ
  slot-number = lowest_free m.keyslots

  slot-free : is_there m.keyslots slot-number ≡ false
  slot-free = number-free m.keyslots known.meta.keyslots.rising

  -- the keyslots: those that there were, the new one, and that of the conversion
  abbrev with-key : List (ℕ × Keyslot)
  with-key = with_new (keyslots.Luks2 slot.keyslot) m.keyslots

  slots-are : next.keyslots ≡ with_new (conversion_slot w) with-key
  slots-are = ap (λ o. with_new (conversion_slot w) (with_slot o m.keyslots)) is.wished

  -- that of the conversion gives none
  without-conversion : (d : Digest) (image : List ℕ) (rank : Rank)
      → first_key next d image pass rank next.keyslots
      ≡ first_key next d image pass rank with-key
  without-conversion d image rank =
      ap (first_key next d image pass rank) slots-are
      ∙ first-skips next d image pass rank with-key (lowest_free with-key)
      (lowest_free with-key, conversion_slot w) refl

  -- ---- the digests: those that there were, and the new one
  abbrev new-digest : Digest
  new-digest = record is.digest { keyslots = slot-number ∷ []; segments = 2 ∷ [] }

  abbrev relisted : ℕ × Digest → ℕ × Digest
  relisted = listed_by (progress_to w m v new) start_sides

  digests-are : next.digests ≡ with_new new-digest (map relisted m.digests)
  digests-are =
      ap (λ o. with_digest o slot-number (2 ∷ []) (map relisted m.digests)) is.wished

  kept-free : lowest_free (map relisted m.digests) ≡ lowest_free m.digests
  kept-free = free-kept relisted (λ e. refl) m.digests

  abbrev old-digest : Digest
  old-digest = (relisted (under.0, under.1)).1

  other-number : eqb (lowest_free (map relisted m.digests)) under.0 ≡ false
  other-number =
      ne_eqb (lowest_free (map relisted m.digests)) under.0 (λ same.
      let bad : true ≡ false =
      sym (value-there m.digests under.0 under.1 under.2.digest)
      ∙ ap (is_there m.digests) (sym same ∙ kept-free)
      ∙ number-free m.digests known.meta.digests.rising in cc)

  old-there : value_at next.digests under.0 ≡ Some old-digest
  old-there =
      ap (λ ds. value_at ds under.0) digests-are
      ∙ value-skips under.0 (map relisted m.digests) (lowest_free (map relisted m.digests))
      (lowest_free (map relisted m.digests), new-digest) other-number
      ∙ value-changed relisted (λ e. refl) m.digests under.0 under.1 under.2.digest

  new-there : value_at next.digests (lowest_free m.digests) ≡ Some new-digest
  new-there =
      ap (λ ds. value_at ds (lowest_free m.digests)) digests-are
      ∙ ap (value_at (with_new new-digest (map relisted m.digests))) (sym kept-free)
      ∙ new-value new-digest (map relisted m.digests)

  -- ---- the old key: the old digest lists what it listed
  alike : AreAlike m next under.1 old-digest
  alike = record {
    listed = refl;
    same = λ k. sym (relisted-matches under.1
        (segments_under (progress_to w m v new) start_sides under.0) k);
    fit = λ k.
        fits-one m under.1 k segment.0 segment.1
        (ap (λ (e : Extent). lists under.1.segments e.number) segment.2 ∙ under.2.listed)
        ∙ sym (fits-old next old-digest k sizes.atom v.blocks (old_extent v)
        (old_whole old) new refl (under-old w m v new under.0 under.2.number)
        (sym (ap (λ (e : Extent). e.encryption) segment.2)));
  }

  module _ (first now : List ℕ) (read : All (IsReadAlike first now) (key_areas m.keyslots)) where
    old-first : (rank : Rank)
        → first_key next old-digest now pass rank next.keyslots
        ≡ first_key m under.1 first pass rank m.keyslots
    old-first rank =
        without-conversion old-digest now rank
        ∙ first-skips next old-digest now pass rank m.keyslots slot-number
        (slot-number, keyslots.Luks2 slot.keyslot)
        (unlisted-none next old-digest now pass rank slot-number (keyslots.Luks2 slot.keyslot)
        (lists-none m.keyslots slot-number under.1.keyslots slot-free under.2.keyslots))
        ∙ sym (first-same m next under.1 old-digest first now pass alike rank m.keyslots read)

    old-key : key_of next old-digest now pass ≡ key_of m under.1 first pass
    unfolding key_of
    old-key =
        (λ i. or_else (old-first High i) (old-first Normal i))

    keys-by : (o : Option Encryption)
        → key_by next now pass o (Some under.0) ≡ key_by m first pass o (Some under.0)
    keys-by None = refl
    keys-by (Some e) =
        ap (option_and_then (λ (d : Digest). key_of next d now pass)) old-there ∙ old-key
        ∙ sym (ap (option_and_then (λ (d : Digest). key_of m d first pass)) under.2.digest)

    -- the passphrase gives the key that it gave
    pub old-given : key_for next now pass (old_extent v) ≡ key_for m first pass v.segment
    old-given =
        ap (key_by next now pass v.segment.encryption) under.2.number
        ∙ keys-by v.segment.encryption
        ∙ sym (ap (key_by m first pass v.segment.encryption) under.2.number)

  keyed : (o : Option Encryption) (k : List ℕ) → IsKeyBy m o (Some under.0) k
      → IsKeyBy next o (Some under.0) k
  keyed None k h = h
  keyed (Some e) k (d, there, right) =
      let same : under.1 ≡ d =
      (let s : Some under.1 ≡ Some d = sym under.2.digest ∙ there in cc) in
      (old-digest, old-there, sym (alike.same k) ∙ ap (λ x. matches x k) same ∙ right)

  pub old-right : (k : List ℕ) → IsKeyOf m v.segment k → IsKeyOf next (old_extent v) k
  old-right k right =
      subst (λ o. IsKeyBy next v.segment.encryption o k) (sym under.2.number)
      (keyed v.segment.encryption k
      (subst (λ o. IsKeyBy m v.segment.encryption o k) under.2.number right))

  -- ---- the new key: the new digest lists the new keyslot alone
  abbrev pub whole : Extent
  whole = new_extent w m.digests new

  abbrev by-cipher : Encryption
  by-cipher = record { iv_tweak = 0; cipher = w.encryption; sector_size = w.sector_size }

  whole-encryption : whole.encryption ≡ Some by-cipher
  whole-encryption = new-encryption w old (v.blocks * sizes.atom) is.mode

  whole-digest : whole.digest ≡ Some (lowest_free m.digests)
  whole-digest = ap (option_map (λ key. lowest_free m.digests)) is.wished

  right-digest : matches new-digest key ≡ true
  right-digest = still-matches is.digest (slot-number ∷ []) (2 ∷ []) key ∙ is.same

  long-key : fits next new-digest (length key) ≡ true
  long-key =
      fits-new next new-digest (length key)
      (part_of sizes.atom (old_extent v) (run_of Old 0 v.blocks)) (old_whole old) new refl refl
      ∙ ap (λ o. is_short (length key) && takes_key (length key) o) whole-encryption
      ∙ key-fits (named_cipher w.encryption) (length key) is.long

  priority : slot.keyslot.priority ≡ None
  priority =
      ap (λ (s : Luks2). s.priority) is.made.slot
      ∙ no-priority offset (length key) is.rounds (take salt_len is.drawn)

  module _ (now : List ℕ) (stands : StandsIn now slot) where
    gives : key_in next new-digest now pass slot.keyslot ≡ Some key
    gives = is.made.opens next new-digest now long-key stands

    only-slot : (rank : Rank)
        → first_key next new-digest now pass rank next.keyslots
        ≡ key_at next new-digest now pass rank (slot-number, keyslots.Luks2 slot.keyslot)
    only-slot rank =
        without-conversion new-digest now rank
        ∙ first-only next new-digest now pass rank m.keyslots slot-number
        (slot-number, keyslots.Luks2 slot.keyslot)
        (others-none next new-digest now pass rank slot-number m.keyslots refl slot-free)

    high-none : first_key next new-digest now pass High next.keyslots ≡ None
    high-none =
        only-slot High
        ∙ unranked-none next new-digest now pass High slot-number slot.keyslot
        (ap (is_ranked High) priority)

    normal-gives : first_key next new-digest now pass Normal next.keyslots ≡ Some key
    normal-gives =
        only-slot Normal
        ∙ listed-gives next new-digest now pass Normal slot-number slot.keyslot key refl
        (ap (is_ranked Normal) priority) right-digest gives

    new-key : key_of next new-digest now pass ≡ Some key
    unfolding key_of
    new-key = (λ i. or_else (high-none i) (normal-gives i))

    pub new-given : key_for next now pass whole ≡ Some key
    new-given =
        (λ i. key_by next now pass (whole-encryption i) (whole-digest i))
        ∙ ap (option_and_then (λ (d : Digest). key_of next d now pass)) new-there ∙ new-key

  pub new-right : IsKeyOf next whole key
  new-right =
      subst (λ o. IsKeyBy next o whole.digest key) (sym whole-encryption)
      (subst (λ n. IsKeyBy next (Some by-cipher) n key) (sym whole-digest)
      (new-digest, new-there, right-digest))
