-- The header that bytes give, led back to its metadata: it is loaded where these break no rule, and its
-- map is theirs.
use Rattle.std.proofs.Common.{◌≡◌, ◌∙◌, ◌<◌, ◌≤◌, ℕ, Bool, true, false, List, None, Some, Ok, ap, arith}
use Rattle.std.proofs.Common.{drop, length, refl, subst, sym}
use Rattle.crash_laws.specs.HeaderAreas.Headers.{Gives}
use Rattle.base_terms.specs.declared.disk_sizes.Sizes.{Sizes}
use Rattle.luks_bin.proofs.FieldLemmas.{size-least}
use Rattle.luks_bin.specs.Copies.{text_of}
use Rattle.luks_store.specs.Copying.Meanings.{header_reader, meaning_of, size_in}
use Rattle.luks_json.specs.Metas.{meta_from}
use Rattle.luks_meta.specs.declared.meta.Parts.{Parts}
use Rattle.luks_rules.specs.Idles.{idle_of}
use Rattle.luks_rules.specs.Rules.{first_fault}
use Rattle.luks_rules.specs.Shapes.{progress_of}
use Rattle.luks_rules.specs.States.{IsSound}
use Rattle.luks_rules.specs.declared.idle.Idle.{Idle}
use Rattle.luks_rules.specs.declared.shape.Progress.{Progress}
use Rattle.luks_store.proofs.CopyLemmas.{Spelt}
use Rattle.luks_store.proofs.GivenLemmas.{copy-whole, sized-by}
use Rattle.luks_store.proofs.LoadLemmas.{copies-stored, stands-used}
use Rattle.luks_store.proofs.StoredLemmas.{is-valid}
use Rattle.luks_store.specs.Loads.{because, judged, stored_in, unless, ◌>>=◌}
use Rattle.luks_store.specs.Promises.{GivenIsUsed}
use Rattle.luks_store.specs.Used.{copies_in, rule, text}
use Rattle.luks_store.specs.declared.copies.Copies.{Copies}
use Rattle.luks_store.specs.declared.loaded.Stored.{Stored}
use Rattle.reenc_meta.specs.ConversionMaps.{IsMapAt}
use Rattle.sector_disk.specs.Geometry.{IsAtom}
use Rattle.image_laws.proofs.Started.HeaderLemmas.{known-of}
use Rattle.hotzone.proofs.ZoneEvents.MapLemmas.{HasShape, shaped-with, some-atom}
use Rattle.hotzone.proofs.ZoneEvents.TextLemmas.{text-in}
use Rattle.hotzone.specs.ZoneEvents.Readings.{Shape, idle_shape, is_map, map_by, map_of, map_when}
use Rattle.hotzone.specs.ZoneEvents.Readings.{no_shape}
use Rattle.hotzone.specs.ZoneEvents.Readings.{parts_in, shape_at, shape_from, shape_of, text_in}

-- ---- loaded
parts-of : (copy : List ℕ) (size : ℕ) → 4096 ≤ length copy → size_in (meaning_of copy) ≡ size
    → parts_in (meaning_of copy) ≡ meta_from size (text_of copy)
unfolding parts_in
parts-of copy size long sized =
    ap (λ n. meta_from n (text_in (meaning_of copy))) sized ∙ ap (meta_from size) (text-in copy long)

-- it is loaded from the bytes that give it
pub record IsLoaded (sizes : Sizes) (bytes : List ℕ) (meta : Parts) : Type 0 where
  pub copies : Copies
  pub held : stored_in sizes bytes
      ≡ Ok (record { copies = copies; valid = record { meta = meta; sizes = sizes } })

module _ (spelt : Spelt) (given : GivenIsUsed) (sizes : Sizes) (bytes m : List ℕ) (meta : Parts)
    (gives : Gives header_reader bytes m) (parts : parts_in m ≡ Ok meta)
    (valid : first_fault meta sizes ≡ None) where
  pub loaded : IsLoaded sizes bytes meta
  unfolding stored_in judged
  loaded =
      let (copies, used, means) = given bytes m gives in
      let (place, at) = stands-used spelt bytes copies used in
      let whole = copy-whole spelt place (drop place bytes) copies.used at in
      let least = size-least copies.used.header.hdr_size whole.whole.one_of_nine in
      let long = whole.whole.whole in
      let read : meta_from copies.used.header.hdr_size (text_of copies.used.bytes) ≡ Ok meta =
      sym (parts-of copies.used.bytes copies.used.header.hdr_size (omega (arith, least, long))
      (sized-by place copies.used whole)) ∙ ap parts_in means ∙ parts in
      record { copies = copies; held = held copies used read }
    where
      held : (copies : Copies) → copies_in bytes ≡ Ok copies
          → meta_from copies.used.header.hdr_size (text_of copies.used.bytes) ≡ Ok meta
          → stored_in sizes bytes
          ≡ Ok (record { copies = copies; valid = record { meta = meta; sizes = sizes } })
      held copies used read =
          ap (λ r. ◌>>=◌ {B = Stored} r (judged sizes)) used
          ∙ ap (λ r. ◌>>=◌ {B = Stored} (because text r)
          (λ (found : Parts). ◌>>=◌ {B = Stored} (unless rule (first_fault found sizes))
          (λ _. Ok (record { copies = copies; valid = record { meta = found; sizes = sizes } })))) read
          ∙ ap (λ fault. ◌>>=◌ {B = Stored} (unless rule fault)
          (λ _. Ok (record { copies = copies; valid = record { meta = meta; sizes = sizes } }))) valid

  pub ruled : IsAtom sizes.atom → IsSound meta sizes
  ruled known =
      (known-of sizes bytes
      (record { copies = loaded.copies; valid = record { meta = meta; sizes = sizes } })
      (some-atom sizes.atom known) loaded.held).sound

-- so the header that was read from bytes means its metadata
pub record IsRead (sizes : Sizes) (stored : Stored) : Type 0 where
  pub read : parts_in (meaning_of stored.copies.used.bytes) ≡ Ok stored.valid.meta
  pub rules : first_fault stored.valid.meta sizes ≡ None

judged-held : (sizes : Sizes) (bytes : List ℕ) (stored : Stored)
    → copies_in bytes ≡ Ok stored.copies → stored_in sizes bytes ≡ Ok stored
    → judged sizes stored.copies ≡ Ok stored
unfolding stored_in
judged-held sizes bytes stored used is =
    sym (ap (λ r. ◌>>=◌ {B = Stored} r (judged sizes)) used) ∙ is

pub held-parts : Spelt → (sizes : Sizes) (bytes : List ℕ) (stored : Stored)
    → stored_in sizes bytes ≡ Ok stored → IsRead sizes stored
held-parts spelt sizes bytes stored is =
    let copies = stored.copies in
    let used = copies-stored sizes bytes stored is in
    let (place, at) = stands-used spelt bytes copies used in
    let whole = copy-whole spelt place (drop place bytes) copies.used at in
    let least = size-least copies.used.header.hdr_size whole.whole.one_of_nine in
    let long = whole.whole.whole in
    let valid = is-valid sizes copies stored (judged-held sizes bytes stored used is) in
    record {
      read = parts-of copies.used.bytes copies.used.header.hdr_size (omega (arith, least, long))
          (sized-by place copies.used whole) ∙ valid.read;
      rules = subst (λ (s : Sizes). first_fault stored.valid.meta s ≡ None) (sym valid.same_sizes)
          valid.rules;
    }

-- ---- its map
mapped : (s : Shape) → 0 < (map_by s).blocks → HasShape s (map_by s)
unfolding map_by
mapped s some = go (is_map s) refl some
  where
    go : (b : Bool) (is : is_map s ≡ b) → 0 < (map_when s b is).blocks
        → HasShape s (map_when s b is)
    go true is some = shaped-with s is
    go false is some =
        absurd (let none = (shaped-with no_shape refl).blocks in omega (arith, none, some))

module _ (sizes : Sizes) (m : List ℕ) (meta : Parts) (parts : parts_in m ≡ Ok meta)
    (some : 0 < (map_of sizes m).blocks) where
  by-shape : shape_of sizes (parts_in m)
      ≡ shape_from sizes (progress_of meta sizes) (idle_of meta sizes)
  by-shape = ap (shape_of sizes) parts

  has : (s : Shape) → shape_from sizes (progress_of meta sizes) (idle_of meta sizes) ≡ s
      → HasShape s (map_of sizes m)
  unfolding map_of
  has s is =
      let same = by-shape ∙ is in
      subst (λ (k : Shape). HasShape k (map_by (shape_of sizes (parts_in m)))) same
      (mapped (shape_of sizes (parts_in m)) some)

  -- of a conversion that is under way
  pub map-busy : (p : Progress) → progress_of meta sizes ≡ Some p
      → IsMapAt sizes p (map_of sizes m)
  map-busy p known =
      let shape = has (shape_at sizes p)
      (ap (λ o. shape_from sizes o (idle_of meta sizes)) known) in
      record {
        atom = shape.atom;
        blocks = shape.blocks;
        boundary = shape.boundary;
        direction = shape.direction;
        zone = shape.zone;
        old_place = shape.old_place;
        new_place = shape.new_place;
      }

  -- of a volume of which nothing is converted
  pub map-rests : (v : Idle) → progress_of meta sizes ≡ None → idle_of meta sizes ≡ Some v
      → HasShape (idle_shape sizes v) (map_of sizes m)
  map-rests v none idle =
      has (idle_shape sizes v)
      (ap (λ o. shape_from sizes o (idle_of meta sizes)) none
      ∙ ap (λ o. shape_from sizes None o) idle)
