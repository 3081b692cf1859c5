-- The metadata with which a volume begins to be encrypted anew: its segments, digests and keyslots.
use Rattle.std.proofs.Common.{◌≡◌, inl, inr, ℕ, ◌*◌, ◌/◌, ◌<◌, ◌&&◌, ◌||◌, not, nat_le}
use Rattle.std.proofs.Common.{cond, List}
use Rattle.std.proofs.Common.{[], ◌∷◌, ◌++◌, map, Bool, true, false, Option, Some, None, refl}
use Rattle.std.proofs.Common.{◌∙◌, ap, arith}
use Rattle.std.proofs.lemmas.Bool.{eq-eqb, ne_eqb}
use Rattle.std.specs.List.{list_all}
use Rattle.std.specs.Option.{option_map}
use Rattle.luks_meta.specs.declared.digest.Digest.{Digest}
use Rattle.luks_meta.specs.declared.meta.Parts.{Parts}
use Rattle.luks_meta.specs.declared.reencrypt.Direction.{Direction}
use Rattle.luks_meta.specs.declared.reencrypt.Direction.TheVariants.{Forward, Backward}
use Rattle.luks_meta.specs.declared.reencrypt.Mode.TheVariants.{Reencrypt}
use Rattle.luks_meta.specs.declared.segment.Encryption.{Encryption}
use Rattle.luks_meta.specs.declared.segment.Segment.{Segment}
use Rattle.luks_rules.specs.Extents.{extent_of}
use Rattle.luks_rules.specs.Plans.{same_digest}
use Rattle.luks_rules.specs.References.{lists}
use Rattle.luks_rules.specs.declared.extents.Extent.{Extent}
use Rattle.luks_rules.specs.declared.idle.Idle.{Idle}
use Rattle.luks_slots.specs.Functions.{has_key_length}
use Rattle.luks_slots.specs.NewSlots.{slot_for}
use Rattle.luks_slots.specs.Slots.{fits, takes_key}
use Rattle.luks_slots.specs.Unlocks.{matches}
use Rattle.reenc_meta.specs.Layouts.{encryption_behind, listed_by, numbers_under, part_of}
use Rattle.reenc_meta.specs.Layouts.{segments_by, segments_under}
use Rattle.reenc_meta.specs.Runs.{run_of, runs_of, sides_of}
use Rattle.reenc_meta.specs.Starts.{keyslots_by, lowest_free, nothing_new, old_extent, old_whole}
use Rattle.reenc_meta.specs.Starts.{progress_to, started_by, with_digest}
use Rattle.reenc_meta.specs.Wishes.{config_by, encryption_for, new_whole, offset_by}
use Rattle.reenc_meta.specs.declared.wish.Wish.{Wish}
use Rattle.sector_cipher.specs.Names.{IsKeyLength}
use Rattle.sector_cipher.specs.declared.spec.Spec.{Spec}
use Rattle.sector_cipher.specs.declared.spec.Spec.TheVariants.{AesXtsPlain64, AesCbcEssivSha256}
use Rattle.segment_map.specs.declared.Side.{Side}
use Rattle.segment_map.specs.declared.Side.TheVariants.{Old, New}

-- ---- the one segment of a volume of which nothing is converted
pub one-segment : (digests : List (ℕ × Digest)) (segments : List (ℕ × Segment)) (e : Extent)
    → map (extent_of digests) segments ≡ e ∷ []
    → (s : ℕ × Segment) × (segments ≡ s ∷ []) × (extent_of digests s ≡ e)
one-segment digests [] e is = absurd cc
one-segment digests (s ∷ []) e is = (s, refl, cc)
one-segment digests (s ∷ t ∷ more) e is = absurd cc

-- ---- all blocks are one run
one-run : (d : Direction) (n : ℕ) → 0 < n → runs_of d (nothing_new d n) ≡ run_of Old 0 n ∷ []
unfolding runs_of
one-run Forward n some =
    ap (λ b. cond b [] (run_of Old 0 n ∷ [])) (ne_eqb n 0 (λ z. absurd (omega (arith, some, z))))
one-run Backward n some =
    ap (λ b. cond b [] (run_of Old 0 n ∷ []) ++ ([] ++ []))
    (ne_eqb n 0 (λ z. absurd (omega (arith, some, z))))

-- the sides of the segments: the one part, and both wholes
abbrev pub start_sides : List Side
start_sides = Old ∷ Old ∷ New ∷ []

-- the metadata, object by object
abbrev pub begun : ℕ → Wish → Parts → Idle → Segment → Segment → Parts
begun atom w m v old new = record m {
  keyslots = keyslots_by w m.keyslots;
  segments = (0, part_of atom (old_extent v) (run_of Old 0 v.blocks)) ∷ (1, old_whole old)
      ∷ (2, new) ∷ [];
  digests = with_digest w.key (lowest_free m.keyslots) (2 ∷ [])
      (map (listed_by (progress_to w m v new) start_sides) m.digests);
  config = config_by w m.config;
}

pub begun-is : (atom : ℕ) (w : Wish) (m : Parts) (v : Idle) (old new : Segment) → 0 < v.blocks
    → started_by atom w m old new (progress_to w m v new) ≡ begun atom w m v old new
unfolding started_by progress_to numbers_under
begun-is atom w m v old new some =
    ap (λ runs. record m {
      keyslots = keyslots_by w m.keyslots;
      segments = segments_by atom (progress_to w m v new) runs (old_whole old ∷ new ∷ []);
      digests = with_digest w.key (lowest_free m.keyslots)
          (numbers_under true 0 (sides_of runs))
          (map (listed_by (progress_to w m v new) (sides_of runs)) m.digests);
      config = config_by w m.config;
    }) (one-run w.direction v.blocks some)

-- ---- which keys fit the segments of a digest
abbrev pub is_short : ℕ → Bool
is_short k = nat_le 1 k && nat_le k 64

abbrev takes_each : Digest → ℕ → ℕ × Segment → Bool
takes_each d k s = not (lists d.segments s.0) || takes_key k s.1.encryption

and-true : (b : Bool) → (b && true) ≡ b
and-true true = refl
and-true false = refl

twice : (b : Bool) → (b && (b && true)) ≡ b
twice true = refl
twice false = refl

pub fits-one : (m : Parts) (d : Digest) (k : ℕ) (s : ℕ × Segment) → m.segments ≡ s ∷ []
    → lists d.segments s.0 ≡ true → fits m d k ≡ (is_short k && takes_key k s.1.encryption)
unfolding fits
fits-one m d k s one listed =
    ap (λ ss. is_short k && list_all (takes_each d k) ss) one
    ∙ ap (λ b. is_short k && ((not b || takes_key k s.1.encryption) && true)) listed
    ∙ ap (λ b. is_short k && b) (and-true (takes_key k s.1.encryption))

-- of a segment from some sectors on the same keys
part-takes : (k units : ℕ) (e : Option Encryption)
    → takes_key k (encryption_behind units e) ≡ takes_key k e
part-takes k units None = refl
part-takes k units (Some e) = refl

pub fits-old : (n : Parts) (d : Digest) (k atom blocks : ℕ) (whole : Extent)
    (old new : Segment) → n.segments ≡ (0, part_of atom whole (run_of Old 0 blocks)) ∷ (1, old) ∷ (2, new) ∷ []
    → d.segments ≡ 0 ∷ 1 ∷ [] → whole.encryption ≡ old.encryption
    → fits n d k ≡ (is_short k && takes_key k old.encryption)
unfolding fits part_of
fits-old n d k atom blocks whole old new are listed same =
    ap (λ ss. is_short k && list_all (takes_each d k) ss) are
    ∙ ap (λ numbers. is_short k
    && ((not (lists numbers 0)
    || takes_key k (encryption_behind (0 * atom / 512) whole.encryption))
    && ((not (lists numbers 1) || takes_key k old.encryption)
    && ((not (lists numbers 2) || takes_key k new.encryption) && true)))) listed
    ∙ ap (λ b. is_short k && (b && (takes_key k old.encryption && true)))
    (part-takes k (0 * atom / 512) whole.encryption ∙ ap (takes_key k) same)
    ∙ ap (λ b. is_short k && b) (twice (takes_key k old.encryption))

pub fits-new : (n : Parts) (d : Digest) (k : ℕ) (part old new : Segment)
    → n.segments ≡ (0, part) ∷ (1, old) ∷ (2, new) ∷ [] → d.segments ≡ 2 ∷ []
    → fits n d k ≡ (is_short k && takes_key k new.encryption)
unfolding fits
fits-new n d k part old new are listed =
    ap (λ ss. is_short k && list_all (takes_each d k) ss) are
    ∙ ap (λ numbers. is_short k
    && ((not (lists numbers 0) || takes_key k part.encryption)
    && ((not (lists numbers 1) || takes_key k old.encryption)
    && ((not (lists numbers 2) || takes_key k new.encryption) && true)))) listed
    ∙ ap (λ b. is_short k && b) (and-true (takes_key k new.encryption))

-- ---- whose digest it is doesn't go by what it lists
pub still-matches : (d : Digest) (keyslots segments : List ℕ) (key : List ℕ)
    → matches (record d { keyslots = keyslots; segments = segments }) key ≡ matches d key
unfolding matches
still-matches d keyslots segments key = refl

pub relisted-matches : (d : Digest) (segments : List ℕ) (key : List ℕ)
    → matches (record d { segments = segments }) key ≡ matches d key
unfolding matches
relisted-matches d segments key = refl

-- ---- the segments that the old segment's digest lists
pub under-old : (w : Wish) (m : Parts) (v : Idle) (new : Segment) (number : ℕ)
    → v.segment.digest ≡ Some number
    → segments_under (progress_to w m v new) start_sides number ≡ 0 ∷ 1 ∷ []
unfolding progress_to numbers_under
under-old w m v new number is =
    let rest : List ℕ = cond (same_digest (option_map (λ key. lowest_free m.digests) w.key)
    (Some number)) (numbers_under true 0 start_sides) [] in
    ap (λ o. cond (same_digest o (Some number)) (0 ∷ 1 ∷ []) rest) is
    ∙ ap (λ b. cond b (0 ∷ 1 ∷ []) rest) (eq-eqb number number refl)

-- ---- the new segment
pub new-encryption : (w : Wish) (old : Segment) (bytes : ℕ) → w.mode ≡ Reencrypt
    → (new_whole w old bytes).encryption
    ≡ Some (record { iv_tweak = 0; cipher = w.encryption; sector_size = w.sector_size })
unfolding new_whole
new-encryption w old bytes mode = ap (encryption_for w) mode

pub new-offset : (w : Wish) (old : Segment) (bytes : ℕ)
    → (new_whole w old bytes).offset ≡ offset_by w.direction w.area.resilience old.offset
unfolding new_whole
new-offset w old bytes = refl

-- ---- the new keyslot
pub no-priority : (offset size rounds : ℕ) (salt : List ℕ)
    → (slot_for offset size rounds salt).priority ≡ None
unfolding slot_for
no-priority offset size rounds salt = refl

pub slot-place : (offset size rounds : ℕ) (salt : List ℕ)
    → (slot_for offset size rounds salt).area.offset ≡ offset
unfolding slot_for
slot-place offset size rounds salt = refl

-- keys of a cipher are as short as keys of keyslots may be
pub key-fits : (c : Spec) (k : ℕ) → IsKeyLength c k → (is_short k && has_key_length c k) ≡ true
key-fits AesXtsPlain64 k (inl e) = rw e refl
key-fits AesXtsPlain64 k (inr e) = rw e refl
key-fits AesCbcEssivSha256 k (inl e) = rw e refl
key-fits AesCbcEssivSha256 k (inr e) = rw e refl
