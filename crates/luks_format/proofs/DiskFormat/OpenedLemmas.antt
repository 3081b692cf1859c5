-- The header that is loaded from a new volume's bytes, and the key that its passphrase unseals.
use Rattle.std.proofs.Common.{◌≡◌, inl, inr, ℕ, ◌+◌, ◌-◌, ◌*◌, ◌≤◌, true, false, List}
use Rattle.std.proofs.Common.{Bool, Option, [], ◌∷◌, ◌++◌, length, take, drop, Some, None, Ok}
use Rattle.std.proofs.Common.{refl, sym, ◌∙◌, ap, ap₂, subst}
use Rattle.std.proofs.Common.{arith}
use Rattle.std.proofs.Math.Seq.{take-append-add}
use Rattle.std.proofs.lemmas.Bool.{le-leb}
use Rattle.std.proofs.lemmas.List.{drop-drop, drop_at, length-take-le, take_at}
use Rattle.std.proofs.lemmas.Slice.Eq.{bytes_eq-Decides}
use Rattle.std.specs.Prelude.{if◌then◌else◌}
use Rattle.base_terms.specs.declared.disk_sizes.Sizes.{Sizes}
use Rattle.luks_format.proofs.DiskFormat.FrontLemmas.{IsFront, is-front, slot-is, slot-offset}
use Rattle.luks_format.specs.DiskFormat.Fitting.{draw_of, metadata_of}
use Rattle.luks_format.specs.DiskFormat.Rests.{end_of_front}
use Rattle.luks_format.specs.DiskFormat.Volumes.{IsNewVolume}
use Rattle.luks_format.specs.DiskFormat.Written.{OpensTo, written_over}
use Rattle.luks_format.specs.declared.format_disk.volume.NewVolume.{NewVolume}
use Rattle.luks_bin.specs.Copies.{text_of}
use Rattle.luks_store.specs.Copying.Held.{primary_of, secondary_of}
use Rattle.luks_format.proofs.RulesLemmas.{key-bounds}
use Rattle.luks_format.specs.Drawings.{Draw}
use Rattle.luks_format.specs.Metadata.{digest_for, keyslot_for, parts_with, segment_for}
use Rattle.luks_format.specs.Wishes.{FitsDisk, IsWish}
use Rattle.luks_format.specs.declared.wish.Wish.{Wish}
use Rattle.luks_json.specs.Metas.{meta_from}
use Rattle.luks_meta.specs.declared.digest.Digest.{Digest}
use Rattle.luks_meta.specs.declared.keyslot.Keyslot.TheVariants as keyslots
use Rattle.luks_meta.specs.declared.keyslot.Luks2.{Luks2}
use Rattle.luks_meta.specs.declared.keyslot.Priority.TheVariants.{High, Normal}
use Rattle.luks_meta.specs.declared.meta.Parts.{Parts}
use Rattle.luks_rules.specs.Areas.{header_bytes}
use Rattle.luks_rules.specs.References.{lists}
use Rattle.luks_rules.specs.Rules.{first_fault}
use Rattle.luks_slots.specs.Functions.{has_key_length, named_cipher}
use Rattle.luks_slots.specs.NewSlots.{StandsIn, slot_for}
use Rattle.luks_slots.specs.Slots.{fits, is_ranked}
use Rattle.luks_slots.specs.Unlocks.{first_key, key_in, key_of, key_of_slot, matches, or_else}
use Rattle.luks_store.specs.Commits.{IsNextStored, committed}
use Rattle.luks_store.specs.Devices.{front_of, header_room}
use Rattle.luks_store.specs.Loads.{judged, stored_in}
use Rattle.luks_store.specs.declared.commit.Prepared.{Prepared}
use Rattle.luks_store.specs.declared.loaded.Stored.{Stored}
use Rattle.pbkdf2_hmac.proofs.Lengths.{length-blocks_of}
use Rattle.pbkdf2_hmac.specs.Pbkdf2.{blocks_of, derived_key}
use Rattle.pbkdf2_hmac.specs.declared.Hash.TheVariants.{Sha256}
use Rattle.sector_cipher.specs.Names.{IsKeyLength}
use Rattle.sector_cipher.specs.declared.spec.Spec.{Spec}
use Rattle.sector_cipher.specs.declared.spec.Spec.TheVariants.{AesXtsPlain64, AesCbcEssivSha256}

-- ---- the header
-- what is loaded of copies whose text are these metadata, which break no rule
judged-is : (p : Prepared) (sizes : Sizes) (meta : Parts)
    → meta_from p.header.hdr_size (text_of (primary_of p.copies)) ≡ Ok meta
    → first_fault meta sizes ≡ None
    → judged sizes (committed p)
    ≡ Ok (record { copies = committed p; valid = record { meta = meta; sizes = sizes } })
unfolding judged
judged-is p sizes meta held rules = rw (held, rules) refl

metadata-are : (p : Prepared) (sizes : Sizes) (meta : Parts) (next : Stored)
    → p.sizes ≡ sizes → meta_from p.header.hdr_size (text_of (primary_of p.copies)) ≡ Ok meta
    → first_fault meta sizes ≡ None → IsNextStored p next → next.valid.meta ≡ meta
metadata-are p sizes meta next sized held rules is =
    let same : Ok next
    ≡ Ok (record { copies = committed p; valid = record { meta = meta; sizes = sizes } })
    = sym is.stored.held ∙ ap₂ judged (is.sizes ∙ sized) is.copies
    ∙ judged-is p sizes meta held rules in
    ap (λ (s : Stored). s.valid.meta) (let e : next
    ≡ record { copies = committed p; valid = record { meta = meta; sizes = sizes } } = cc in e)

-- ---- bytes one after the other: two copies of a size, an area, and what is behind
module _ (one two area rest : List ℕ) (size : ℕ) (first : length one ≡ size)
    (second : length two ≡ size) where
  area-there : take (length area) (drop (2 * size) (one ++ (two ++ (area ++ rest)))) ≡ area
  area-there =
      let twice : size + size ≡ 2 * size = omega arith in
      ap (take (length area))
      (ap (λ n. drop n (one ++ (two ++ (area ++ rest)))) (sym twice)
      ∙ sym (drop-drop size size (one ++ (two ++ (area ++ rest))))
      ∙ ap (drop size) (drop_at one (two ++ (area ++ rest)) size first)
      ∙ drop_at two (area ++ rest) size second)
      ∙ take_at area rest (length area) refl

-- a front that holds both copies has them
copies-there : (one two rest : List ℕ) (n : ℕ) → length one + length two ≤ n
    → take n (one ++ (two ++ rest))
    ≡ one ++ (two ++ take (n - length one - length two) rest)
copies-there one two rest n within =
    let split : length one + (length two + (n - length one - length two)) ≡ n =
    omega (arith, within) in
    ap (λ k. take k (one ++ (two ++ rest))) (sym split)
    ∙ take-append-add one (two ++ rest) (length two + (n - length one - length two))
    ∙ ap (λ xs. one ++ xs) (take-append-add two rest (n - length one - length two))

-- ---- the digest
digest-size : (key salt : List ℕ) (rounds : ℕ)
    → length (derived_key Sha256 key salt rounds 32) ≡ 32
unfolding derived_key
digest-size key salt rounds =
    let long = length-blocks_of Sha256 key salt rounds 1 in
    length-take-le 32 (blocks_of Sha256 key salt rounds 1) (omega (arith, long))

same-key : (key salt : List ℕ) → matches (digest_for key salt) key ≡ true
unfolding matches digest_for
same-key key salt = rw (digest-size key salt 1000, (bytes_eq-Decides _ _).1 refl) refl

-- ---- the keyslot
takes-key : (s : Spec) (n : ℕ) → IsKeyLength s n → has_key_length s n ≡ true
takes-key AesXtsPlain64 n (inl e) = rw e refl
takes-key AesXtsPlain64 n (inr e) = rw e refl
takes-key AesCbcEssivSha256 n (inl e) = rw e refl
takes-key AesCbcEssivSha256 n (inr e) = rw e refl

fits-key : (w : Wish) (keyslot : Luks2) (key salt : List ℕ) (n : ℕ)
    → IsKeyLength (named_cipher w.cipher) n
    → fits (parts_with w keyslot (digest_for key salt)) (digest_for key salt) n ≡ true
unfolding fits parts_with segment_for digest_for
fits-key w keyslot key salt n known =
    let bounds = key-bounds (named_cipher w.cipher) n known in
    rw (
      le-leb 1 n bounds.0,
      le-leb n 64 bounds.1,
      takes-key (named_cipher w.cipher) n known,
    )
    refl

slot-key : (m : Parts) (keyslot : Luks2) (d : Digest) (image pass key : List ℕ) (n : ℕ)
    → lists d.keyslots n ≡ true → matches d key ≡ true
    → key_in m d image pass keyslot ≡ Some key
    → key_of_slot m d image pass n keyslot ≡ Some key
unfolding key_of_slot
slot-key m keyslot d image pass key n listed same opens = rw (listed, opens, same) refl

-- what a list of one keyslot without a priority gives
abbrev gives-by : Parts → Digest → List ℕ → List ℕ → Luks2 → Bool → Option (List ℕ)
gives-by m d image pass keyslot ranked =
    or_else (if ranked then key_of_slot m d image pass 0 keyslot else None) None

none-high : (m : Parts) (keyslot : Luks2) (d : Digest) (image pass : List ℕ)
    → keyslot.priority ≡ None
    → first_key m d image pass High ((0, keyslots.Luks2 keyslot) ∷ []) ≡ None
unfolding first_key
none-high m keyslot d image pass normal =
    ap (λ p. gives-by m d image pass keyslot (is_ranked High p)) normal

one-normal : (m : Parts) (keyslot : Luks2) (d : Digest) (image pass key : List ℕ)
    → keyslot.priority ≡ None → key_of_slot m d image pass 0 keyslot ≡ Some key
    → first_key m d image pass Normal ((0, keyslots.Luks2 keyslot) ∷ []) ≡ Some key
unfolding first_key
one-normal m keyslot d image pass key normal gives =
    ap (λ p. gives-by m d image pass keyslot (is_ranked Normal p)) normal
    ∙ ap (λ o. or_else o None) gives

only-key : (m : Parts) (keyslot : Luks2) (d : Digest) (image pass key : List ℕ)
    → m.keyslots ≡ (0, keyslots.Luks2 keyslot) ∷ [] → keyslot.priority ≡ None
    → key_of_slot m d image pass 0 keyslot ≡ Some key → key_of m d image pass ≡ Some key
unfolding key_of
only-key m keyslot d image pass key only normal gives =
    ap₂ or_else
    (ap (first_key m d image pass High) only ∙ none-high m keyslot d image pass normal)
    (ap (first_key m d image pass Normal) only
    ∙ one-normal m keyslot d image pass key normal gives)

normal-slot : (w : Wish) (d : Draw) → (keyslot_for w d).priority ≡ None
unfolding keyslot_for slot_for
normal-slot w d = refl

listed-slot : (key salt : List ℕ) → lists (digest_for key salt).keyslots 0 ≡ true
unfolding digest_for
listed-slot key salt = refl

-- ---- a new volume
module _ (w : Wish) (sizes : Sizes) (pass seed : List ℕ) (v : NewVolume) (bytes : List ℕ)
    (wish : IsWish w) (disk : FitsDisk w sizes) (is : IsNewVolume w sizes pass seed v) where
  abbrev image : List ℕ
  image = written_over v bytes

  front : IsFront v w.metadata_size
  front = is-front w sizes pass seed v wish is

  room-is : (detached : Bool) → sizes.detached ≡ detached
      → header_room sizes ≡ header_bytes sizes
  room-is true own = rw own refl
  room-is false one = rw one (ap (λ n. n * sizes.atom) (sym (disk.alone one)))

  copies-in : 2 * w.metadata_size ≤ header_bytes sizes
  copies-in =
      let room = subst (λ (s : Sizes). 2 * v.slot.commit.header.hdr_size ≤ header_room s)
      is.first.sizes_are is.first.prepared.room in
      let same = room-is sizes.detached refl in
      let size = front.header in
      omega (arith, room, same, size)

  -- what stands behind both copies on the header's disk
  abbrev behind : List ℕ
  behind =
      take (header_bytes sizes - length (primary_of v.slot.commit.copies)
      - length (secondary_of v.slot.commit.copies)) (v.slot.area ++ drop (end_of_front v) bytes)

  front-is : front_of sizes image
      ≡ primary_of v.slot.commit.copies ++ (secondary_of v.slot.commit.copies ++ behind)
  front-is =
      let within = copies-in in
      let first = front.first in
      let second = front.second in
      copies-there (primary_of v.slot.commit.copies) (secondary_of v.slot.commit.copies) _
      (header_bytes sizes) (omega (arith, within, first, second))

  loads : stored_in sizes (front_of sizes image) ≡ Ok is.first.loaded.0
  loads =
      ap (stored_in sizes) front-is
      ∙ ap (λ (s : Sizes). stored_in s
      (primary_of v.slot.commit.copies ++ (secondary_of v.slot.commit.copies ++ behind)))
      (sym is.first.sizes_are)
      ∙ is.first.loaded.1.loads behind

  stands : StandsIn image (record { keyslot = is.slot.0; area = v.slot.area })
  stands =
      ap (λ n. take (length v.slot.area) (drop n image))
      (ap (λ (k : Luks2). k.area.offset) (slot-is w sizes pass seed v is)
      ∙ slot-offset w (draw_of w seed))
      ∙ area-there (primary_of v.slot.commit.copies) (secondary_of v.slot.commit.copies) v.slot.area
      (drop (end_of_front v) bytes) w.metadata_size front.first front.second

  abbrev digest : Digest
  digest = digest_for (draw_of w seed).key (draw_of w seed).digest_salt

  key : key_in (metadata_of w seed) digest image pass (keyslot_for w (draw_of w seed))
      ≡ Some (draw_of w seed).key
  key =
      let known : IsKeyLength (named_cipher w.cipher) (length (draw_of w seed).key) =
      subst (IsKeyLength (named_cipher w.cipher)) (sym is.drawn.key) wish.key in
      subst (λ (k : Luks2). key_in (metadata_of w seed) digest image pass k
      ≡ Some (draw_of w seed).key) (slot-is w sizes pass seed v is)
      (is.slot.1.opens (metadata_of w seed) digest image
      (fits-key w (keyslot_for w (draw_of w seed)) (draw_of w seed).key
      (draw_of w seed).digest_salt (length (draw_of w seed).key) known) stands)

  pub opened : OpensTo w sizes pass seed image
  unfolding parts_with
  opened =
      let draw = draw_of w seed in
      let same = same-key draw.key draw.digest_salt in
      record {
        stored = is.first.loaded.0;
        loaded = loads;
        meta = metadata-are v.slot.commit sizes (metadata_of w seed) is.first.loaded.0
            is.first.sizes_are is.first.meta_is is.rules is.first.loaded.1;
        digest = digest;
        there = refl;
        same = same;
        key = only-key (metadata_of w seed) (keyslot_for w draw) digest image pass draw.key refl
            (normal-slot w draw)
            (slot-key (metadata_of w seed) (keyslot_for w draw) digest image pass draw.key 0
            (listed-slot draw.key draw.digest_salt) same key);
      }
