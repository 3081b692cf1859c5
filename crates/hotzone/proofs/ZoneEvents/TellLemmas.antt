-- What a header tells is what its metadata tell; a header that goes on with a conversion tells the
-- same.
use Rattle.std.proofs.Common.{◌≡◌, ◌∙◌, ℕ, Bool, true, false, List, [], ◌∷◌, map, Option, Some}
use Rattle.std.proofs.Common.{None, Ok, refl, sym, ap, cond, eqb}
use Rattle.std.specs.Prelude.{is_some, option_and_then, option_map}
use Rattle.std.specs.List.{filter, find}
use Rattle.base_terms.specs.declared.disk_sizes.Sizes.{Sizes}
use Rattle.luks_json.specs.Metas.{data_of}
use Rattle.luks_meta.specs.declared.digest.Digest.{Digest}
use Rattle.luks_meta.specs.declared.keyslot.Keyslot.{Keyslot}
use Rattle.luks_meta.specs.declared.meta.Parts.{Parts}
use Rattle.luks_meta.specs.declared.segment.SegmentSize.TheVariants.{Dynamic}
use Rattle.luks_rules.specs.Idles.{idle_of}
use Rattle.luks_rules.specs.References.{value_at}
use Rattle.luks_rules.specs.Rules.{first_fault}
use Rattle.luks_rules.specs.Shapes.{progress_of}
use Rattle.luks_rules.specs.declared.extents.Extent.{Extent}
use Rattle.luks_rules.specs.declared.plan.Plan.{Plan}
use Rattle.luks_rules.specs.declared.shape.Progress.{Progress}
use Rattle.reenc_meta.specs.Layouts.{laid_out_by, listed_by, progress_at, whole_on}
use Rattle.reenc_meta.specs.Moves.{IsGoneTo}
use Rattle.reenc_meta.specs.Runs.{runs_of, sides_of}
use Rattle.segment_map.specs.declared.Side.{Side}
use Rattle.segment_map.specs.declared.Side.TheVariants.{Old, New, Zone}
use Rattle.serde_json.specs.Data.{no_members}
use Rattle.volume_machine.specs.Courses.{Continues}
use Rattle.hotzone.specs.ZoneEvents.Codes.{value_code}
use Rattle.hotzone.specs.ZoneEvents.Readings.{converts_in, guard_in, keyslots_in, parts_in}
use Rattle.hotzone.specs.ZoneEvents.Readings.{reading_of}
use Rattle.hotzone.specs.ZoneEvents.Readings.{sealing_in, store_in}
use Rattle.hotzone.specs.ZoneEvents.Tellings.{conversion_of, digest_on, for_one, guard_by}
use Rattle.hotzone.specs.ZoneEvents.Tellings.{is_listed}
use Rattle.hotzone.specs.ZoneEvents.Tellings.{keyslots_by, keyslots_of, no_config, numbered}
use Rattle.hotzone.specs.ZoneEvents.Tellings.{sealing_by}
use Rattle.hotzone.specs.ZoneEvents.Tellings.{sealing_of, side_alone, side_code, store_by}
use Rattle.hotzone.specs.ZoneEvents.Tellings.{unless_broken}

-- ---- by the metadata
module _ (sizes : Sizes) (means : List ℕ) (m : Parts) (o : Option Progress)
    (parts : parts_in means ≡ Ok m) (known : progress_of m sizes ≡ o) where
  conversion : conversion_of sizes (parts_in means) ≡ o
  conversion = ap (conversion_of sizes) parts ∙ known

  pub converts-told : converts_in sizes means ≡ is_some o
  unfolding converts_in
  converts-told = ap (λ p. is_some p) conversion

  pub guard-told : guard_in sizes means ≡ guard_by o
  unfolding guard_in
  guard-told = ap guard_by conversion

  pub store-told : store_in sizes means ≡ store_by sizes.atom o
  unfolding store_in
  store-told = ap (store_by sizes.atom) conversion

  pub keyslots-told : keyslots_in sizes means ≡ keyslots_by sizes.atom m o
  unfolding keyslots_in
  keyslots-told = ap (keyslots_of sizes) parts ∙ ap (keyslots_by sizes.atom m) known

  pub sealing-told : first_fault m sizes ≡ None → (side : Side)
      → sealing_in sizes means side ≡ sealing_by m o (idle_of m sizes) side
  unfolding sealing_in
  sealing-told valid side =
      ap (λ r. sealing_of sizes r side) parts
      ∙ ap (λ f. unless_broken f (sealing_by m (progress_of m sizes) (idle_of m sizes) side)) valid
      ∙ ap (λ p. sealing_by m p (idle_of m sizes) side) known

-- ---- digests of which only the list of segments changes
abbrev pub KeepsKey : (ℕ × Digest → ℕ × Digest) → Type 0
KeepsKey f = (d : ℕ × Digest) → ((f d).0 ≡ d.0) × (for_one (f d).1 ≡ for_one d.1)

value-mapped : (f : ℕ × Digest → ℕ × Digest) → KeepsKey f → (ds : List (ℕ × Digest)) (n : ℕ)
    → option_map for_one (value_at (map f ds) n) ≡ option_map for_one (value_at ds n)
value-mapped f keeps [] n = refl
value-mapped f keeps (d ∷ ds) n =
    ap (λ b. option_map for_one (option_map (λ (e : ℕ × Digest). e.1)
    (cond b (Some (f d)) (find (λ (e : ℕ × Digest). eqb e.0 n) (map f ds)))))
    (ap (λ k. eqb k n) (keeps d).0)
    ∙ go (eqb d.0 n) (value-mapped f keeps ds n)
  where
    go : (b : Bool)
        → option_map for_one (value_at (map f ds) n) ≡ option_map for_one (value_at ds n)
        → option_map for_one (option_map (λ (e : ℕ × Digest). e.1)
        (cond b (Some (f d)) (find (λ (e : ℕ × Digest). eqb e.0 n) (map f ds))))
        ≡ option_map for_one (option_map (λ (e : ℕ × Digest). e.1)
        (cond b (Some d) (find (λ (e : ℕ × Digest). eqb e.0 n) ds)))
    go true later = ap (λ x. Some x) (keeps d).1
    go false later = later

pub key-mapped : (f : ℕ × Digest → ℕ × Digest) → KeepsKey f → (ds : List (ℕ × Digest))
    → (o : Option ℕ)
    → option_map for_one (option_and_then (value_at (map f ds)) o)
    ≡ option_map for_one (option_and_then (value_at ds) o)
key-mapped f keeps ds None = refl
key-mapped f keeps ds (Some n) = value-mapped f keeps ds n

-- sides of one place, one encryption, one digest and the same keyslots of it are the same by themselves
pub same-alone : (m n : Parts) (a b : Extent) → a.offset ≡ b.offset
    → a.encryption ≡ b.encryption → a.digest ≡ b.digest → digest_on m a ≡ digest_on n b
    → filter (λ slot. is_listed (digest_on n b) slot.0) m.keyslots
    ≡ filter (λ slot. is_listed (digest_on n b) slot.0) n.keyslots
    → side_alone m a ≡ side_alone n b
unfolding side_alone
same-alone m n a b offset encryption number digest slots =
    let same = ap (λ o. filter (λ (slot : ℕ × Keyslot). is_listed o slot.0) m.keyslots) digest
    ∙ slots in
    λ i. record {
      keyslots = same i;
      tokens = [];
      segments = (
        0,
        record {
          offset = offset i;
          size = Dynamic;
          encryption = encryption i;
          flags = None;
          rest = no_members;
        },
      ) ∷ [];
      digests = numbered (number i) (digest i);
      config = no_config;
      rest = no_members;
    }

pub same-code : (m n : Parts) (a b : Extent) → side_alone m a ≡ side_alone n b
    → side_code m a ≡ side_code n b
unfolding side_code
same-code m n a b same = ap (λ p. value_code (data_of p)) same

-- ---- a header that goes on with a conversion
module _ (sizes : Sizes) (p : Progress) (plan : Plan) (m next : Parts)
    (gone : IsGoneTo m sizes p plan next) where
  digests-are : next.digests
      ≡ map (listed_by p (sides_of (runs_of p.conversion.direction plan))) m.digests
  unfolding laid_out_by
  digests-are = ap (λ (n : Parts). n.digests) gone.is

  keyslots-kept : next.keyslots ≡ m.keyslots
  unfolding laid_out_by
  keyslots-kept = ap (λ (n : Parts). n.keyslots) gone.is

  key-kept : (o : Option ℕ) → option_map for_one (option_and_then (value_at next.digests) o)
      ≡ option_map for_one (option_and_then (value_at m.digests) o)
  key-kept o =
      ap (λ ds. option_map for_one (option_and_then (value_at ds) o)) digests-are
      ∙ key-mapped (listed_by p (sides_of (runs_of p.conversion.direction plan)))
      (λ d. (refl, refl)) m.digests o

  slots-kept : (o : Option Digest) → filter (λ slot. is_listed o slot.0) next.keyslots
      ≡ filter (λ slot. is_listed o slot.0) m.keyslots
  slots-kept o =
      ap (λ (slots : List (ℕ × Keyslot)). filter (λ slot. is_listed o slot.0) slots) keyslots-kept

  side-kept : (side : Side)
      → side_code next (whole_on (progress_at plan p) side) ≡ side_code m (whole_on p side)
  side-kept Old =
      same-code next m (progress_at plan p).old p.old
      (same-alone next m (progress_at plan p).old p.old refl refl refl (key-kept p.old.digest)
      (slots-kept (digest_on m p.old)))
  side-kept Zone =
      same-code next m (progress_at plan p).old p.old
      (same-alone next m (progress_at plan p).old p.old refl refl refl (key-kept p.old.digest)
      (slots-kept (digest_on m p.old)))
  side-kept New =
      same-code next m (progress_at plan p).new p.new
      (same-alone next m (progress_at plan p).new p.new refl refl refl (key-kept p.new.digest)
      (slots-kept (digest_on m p.new)))

  pub goes-on : (from to : List ℕ) → parts_in from ≡ Ok m → parts_in to ≡ Ok next
      → first_fault m sizes ≡ None → progress_of m sizes ≡ Some p
      → Continues (reading_of sizes) from to
  goes-on from to one two valid known = record {
    converts = converts-told sizes to next (Some (progress_at plan p)) two gone.progress;
    sealing = λ side.
        sealing-told sizes to next (Some (progress_at plan p)) two gone.progress gone.valid side
        ∙ side-kept side ∙ sym (sealing-told sizes from m (Some p) one known valid side);
    guard = guard-told sizes to next (Some (progress_at plan p)) two gone.progress
        ∙ sym (guard-told sizes from m (Some p) one known);
    store = store-told sizes to next (Some (progress_at plan p)) two gone.progress
        ∙ sym (store-told sizes from m (Some p) one known);
    keyslots = keyslots-told sizes to next (Some (progress_at plan p)) two gone.progress
        ∙ ap (λ (slots : List (ℕ × Keyslot)). keyslots_by sizes.atom
        (record m { keyslots = slots }) (Some p)) keyslots-kept
        ∙ sym (keyslots-told sizes from m (Some p) one known);
  }
