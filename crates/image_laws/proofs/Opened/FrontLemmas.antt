-- What is written in front of the keyslots' areas leaves what an image stands for with an open zone.
use Rattle.std.proofs.Common.{◌≡◌, ◌⊎◌, inl, inr, ℕ, ◌+◌, ◌-◌, ◌*◌, ◌/◌, ◌%◌, ◌<◌, ◌≤◌}
use Rattle.std.proofs.Common.{Bool, true, false, List, [], ◌∷◌, drop, Option, Some, None, Ok}
use Rattle.std.proofs.Common.{if◌then◌else◌, refl, sym, ◌∙◌, ap, subst, arith}
use Rattle.std.proofs.lemmas.List.Elements.{All-head, All-tail}
use Rattle.std.proofs.lemmas.Nat.{div-add-mod'}
use Rattle.std.specs.List.{All, cons_option}
use Rattle.std.specs.Prelude.{option_and_then}
use Rattle.crash_laws.specs.HeaderAreas.Areas.{Image, text_from}
use Rattle.base_terms.specs.declared.disk_sizes.Sizes.{Sizes}
use Rattle.sector_disk.specs.DiskViews.Parts.{block_at, value_in}
use Rattle.crash_laws.specs.HotZones.Standing.{Recovers, TellsDigest, digest_at}
use Rattle.crash_laws.specs.HotZones.Zones.{Hotzone, Texts, checksum, datashift, journal}
use Rattle.crash_laws.specs.HotZones.Zones.{Resilience as Guard}
use Rattle.luks_meta.specs.declared.digest.Digest.{Digest}
use Rattle.luks_meta.specs.declared.keyslot.Keyslot.{Keyslot}
use Rattle.luks_meta.specs.declared.keyslot.Keyslot.TheVariants as keyslots
use Rattle.luks_meta.specs.declared.meta.Parts.{Parts}
use Rattle.luks_meta.specs.declared.segment.Encryption.{Encryption}
use Rattle.luks_rules.specs.Areas.{area_of, areas_begin, areas_end, areas_of}
use Rattle.luks_rules.specs.Conversions.{conversion_by, conversion_of, conversions_of}
use Rattle.luks_rules.specs.References.{value_at}
use Rattle.luks_rules.specs.Shapes.{progress_of}
use Rattle.luks_rules.specs.States.{IsPlaced, IsSound}
use Rattle.luks_rules.specs.declared.areas.Area.{Area}
use Rattle.luks_rules.specs.declared.conversions.Conversion.{Conversion}
use Rattle.luks_rules.specs.declared.extents.Extent.{Extent}
use Rattle.luks_rules.specs.declared.shape.Progress.{Progress}
use Rattle.luks_rules.specs.declared.valid.Checked.{Checked}
use Rattle.luks_slots.specs.Laws.{KeysAreBehind}
use Rattle.luks_slots.specs.Unlocks.{key_of}
use Rattle.luks_store.specs.Devices.{front_of}
use Rattle.luks_store.specs.Loads.{stored_in}
use Rattle.luks_store.specs.declared.loaded.Stored.{Stored}
use Rattle.image_laws.proofs.Opened.AtomLemmas.{same-atom-from}
use Rattle.image_laws.proofs.Opened.RecoverLemmas.{same-text}
use Rattle.image_laws.specs.Opened.Images.{HoldsOnSide, HoldsOpen, OpenStandsFor}
use Rattle.image_laws.specs.Opened.Images.{OpenStandsUnder, atom_in, seals_at}
use Rattle.image_laws.specs.Opened.Promises.{FrontsKeepImages}
use Rattle.image_laws.specs.Opened.Zones.{zone_of}
use Rattle.reenc_meta.specs.ConversionMaps.{IsMapAt}
use Rattle.reenc_meta.specs.Placements.{place_of}
use Rattle.reenc_recovery.specs.Images.{HoldsBlock, HoldsOn}
use Rattle.reenc_recovery.specs.Keys.{IsKeyOf, key_by, key_for}
use Rattle.sector_disk.specs.Geometry.{IsAtom}
use Rattle.segment_map.specs.Maps.{place_on}
use Rattle.segment_map.specs.declared.Side.{Side}
use Rattle.segment_map.specs.declared.Side.TheVariants.{New, Old, Zone}
use Rattle.segment_map.specs.declared.map.Map.{Map}
use Rattle.image_laws.proofs.Started.BlockLemmas.{the-conversion}
use Rattle.image_laws.proofs.Started.GapLemmas.{one-header}
use Rattle.image_laws.proofs.Started.HeaderLemmas.{known-of}
use Rattle.image_laws.specs.Started.Gaps.{FrontsKeepContents}
use Rattle.volume_machine.specs.Pieces.{place_in, side_in}
use Rattle.volume_machine.specs.Saved.{saved_hash}
use Rattle.volume_machine.specs.Seals.{Seals}

-- ---- where a conversion's blocks lie, and what guards its zones
-- the area that guards zones is one of the keyslots'
guard-in : (P : Area → Type 0) (slots : List (ℕ × Keyslot)) (c : Conversion)
    → All P (areas_of slots) → conversions_of slots ≡ c ∷ [] → P c.area
unfolding areas_of conversions_of conversion_of
guard-in P [] c all is = absurd cc
guard-in P ((n, keyslots.Luks2 s) ∷ slots) c all is =
    guard-in P slots c (All-tail P _ (areas_of slots) all) is
guard-in P ((n, keyslots.Reencrypt s) ∷ slots) c all is =
    let same : conversion_by n s ≡ c = cc in
    subst (λ (x : Conversion). P x.area) same (All-head P _ (areas_of slots) all)
guard-in P ((n, keyslots.Unknown s) ∷ slots) c all is =
    guard-in P slots c (rest (area_of (keyslots.Unknown s)) all) is
  where
    rest : (o : Option Area) → All P (cons_option o (areas_of slots)) → All P (areas_of slots)
    rest None h = h
    rest (Some a) h = All-tail P a (areas_of slots) h

-- a run of whole atoms begins where it says
whole-atoms : (atom offset : ℕ) → offset % atom ≡ 0 → offset / atom * atom ≡ offset
whole-atoms atom offset whole =
    let cut = div-add-mod' offset atom in omega (arith, cut, whole)

-- a segment begins behind the keyslots' areas, on its own disk or behind the header's
behind : (detached : Bool) (header end offset atom b : ℕ) → offset % atom ≡ 0
    → (detached ≡ false → end ≤ offset) → (detached ≡ true → end ≤ header * atom)
    → end ≤ ((if detached then header else 0) + offset / atom + b) * atom
behind true header end offset atom b whole attached apart =
    let sum : (header + offset / atom + b) * atom
    ≡ header * atom + offset / atom * atom + b * atom = omega arith in
    let fits = apart refl in omega (arith, sum, fits)
behind false header end offset atom b whole attached apart =
    let sum : (0 + offset / atom + b) * atom ≡ offset / atom * atom + b * atom = omega arith in
    let start = whole-atoms atom offset whole in
    let fits = attached refl in omega (arith, sum, start, fits)

module _ (m : Parts) (sizes : Sizes) (c : Progress) (sound : IsSound m sizes)
    (is : progress_of m sizes ≡ Some c) where
  abbrev Lies : ℕ → Type 0
  Lies place = areas_begin m.config ≤ place * sizes.atom

  segment-lies : (e : Extent) (b : ℕ) → IsPlaced m sizes e → Lies (place_of sizes e + b)
  segment-lies e b placed =
      let end = behind sizes.detached sizes.header_atoms (areas_end m.config) e.offset
      sizes.atom b placed.whole placed.behind sound.within.detached in
      omega (arith, end)

  old-lies : (b : ℕ) → Lies (place_of sizes c.old + b)
  old-lies b = segment-lies c.old b (the-conversion m sizes c sound is).1.old

  new-lies : (b : ℕ) → Lies (place_of sizes c.new + b)
  new-lies b = segment-lies c.new b (the-conversion m sizes c sound is).1.new

  on-side : (map : Map) → IsMapAt sizes c map → (b : ℕ) (side : Side) → Lies (place_on map b side)
  on-side map at b Old = subst (λ (n : ℕ). Lies (n + b)) (sym at.old_place) (old-lies b)
  on-side map at b Zone = subst (λ (n : ℕ). Lies (n + b)) (sym at.old_place) (old-lies b)
  on-side map at b New = subst (λ (n : ℕ). Lies (n + b)) (sym at.new_place) (new-lies b)

  pub block-lies : (map : Map) → IsMapAt sizes c map → (b : ℕ) → Lies (place_in map b)
  block-lies map at b = on-side map at b (side_in map b)

  pub store-lies : (k : ℕ) → Lies (c.conversion.area.offset / sizes.atom + k)
  store-lies k =
      let slot = (the-conversion m sizes c sound is).1.keyslot in
      let begin = guard-in (λ (a : Area). areas_begin m.config ≤ a.offset) m.keyslots c.conversion
      (λ i d below. (sound.within.areas i d below).0) slot in
      let whole = guard-in (λ (a : Area). a.offset % sizes.atom ≡ 0) m.keyslots c.conversion
      (λ i d below. (sound.atoms.areas i d below).0) slot in
      let at = whole-atoms sizes.atom c.conversion.area.offset whole in
      let sum : (c.conversion.area.offset / sizes.atom + k) * sizes.atom
      ≡ c.conversion.area.offset / sizes.atom * sizes.atom + k * sizes.atom = omega arith in
      omega (arith, begin, at, sum)

-- ---- what was saved of a block
module _ (zone : Hotzone (Unit {0})) (first now : Image)
    (own : (k : ℕ) → first (zone.own.start + k) ≡ now (zone.own.start + k))
    (store : (place : ℕ) → zone.store.start ≤ place → first place ≡ now place) (texts : Texts)
    (i : ℕ) where
  tells-on : (r : Guard) → Recovers r saved_hash zone texts first i
      → Recovers r saved_hash zone texts now i
  tells-on journal is = sym (store (zone.store.start + i) (omega arith)) ∙ is
  tells-on checksum is =
      subst (λ (atom : List ℕ). TellsDigest saved_hash
      (digest_at saved_hash (text_from now zone.store.start zone.store.count) i) atom (texts.old i)
      (texts.new i)) (own i)
      (subst (λ (text : List ℕ). TellsDigest saved_hash (digest_at saved_hash text i)
      (first (zone.own.start + i)) (texts.old i) (texts.new i))
      (same-text first now zone.store.start zone.store.start zone.store.count
      (λ j below. store (zone.store.start + j) (omega arith))) is)
  tells-on datashift is = absurd is

-- ---- an image
module _ (sizes : Sizes) (m : Parts) (c : Progress) (sound : IsSound m sizes)
    (is : progress_of m sizes ≡ Some c) (first now : List ℕ)
    (same : drop (areas_begin m.config) now ≡ drop (areas_begin m.config) first) where
  same-atom : (place : ℕ) → areas_begin m.config ≤ place * sizes.atom
      → block_at sizes.atom first place ≡ block_at sizes.atom now place
  same-atom place lies =
      same-atom-from sizes.atom (areas_begin m.config) place first now lies (sym same)

  same-store : (place : ℕ) → (zone_of sizes c).store.start ≤ place
      → atom_in sizes.atom first place ≡ atom_in sizes.atom now place
  same-store place from =
      let k = place - c.conversion.area.offset / sizes.atom in
      let whole : c.conversion.area.offset / sizes.atom + k ≡ place = omega (arith, from) in
      same-atom place
      (subst (λ (n : ℕ). areas_begin m.config ≤ n * sizes.atom) whole
      (store-lies m sizes c sound is k))

  same-own : (k : ℕ) → atom_in sizes.atom first ((zone_of sizes c).own.start + k)
      ≡ atom_in sizes.atom now ((zone_of sizes c).own.start + k)
  same-own k =
      let sum : place_of sizes c.old + (c.plan.first + k)
      ≡ place_of sizes c.old + c.plan.first + k = omega arith in
      same-atom (place_of sizes c.old + c.plan.first + k)
      (subst (λ (n : ℕ). areas_begin m.config ≤ n * sizes.atom) sum
      (old-lies m sizes c sound is (c.plan.first + k)))

  module _ (map : Map) (at : IsMapAt sizes c map) (seals : Seals) (b : ℕ) (value : List ℕ) where
    block-on : HoldsBlock map seals b value (block_at sizes.atom first (place_in map b))
        → HoldsBlock map seals b value (block_at sizes.atom now (place_in map b))
    block-on holds =
        subst (λ (atom : List ℕ). HoldsBlock map seals b value atom)
        (same-atom (place_in map b) (block-lies m sizes c sound is map at b)) holds

    side-on : (side : Side) → HoldsOnSide sizes c map seals first b value side
        → HoldsOnSide sizes c map seals now b value side
    side-on Old holds = block-on holds
    side-on New holds = block-on holds
    side-on Zone holds = record {
      are = holds.are;
      tells = tells-on (zone_of sizes c) (atom_in sizes.atom first) (atom_in sizes.atom now)
          same-own same-store _ (b - c.plan.first) (zone_of sizes c).resilience holds.tells;
      old = holds.old;
      new = holds.new;
    }

  pub holds-on : (map : Map) → IsMapAt sizes c map → (old new : List ℕ) (content : List (List ℕ))
      → HoldsOpen sizes c map old new first content → HoldsOpen sizes c map old new now content
  holds-on map at old new content holds = record {
    count = holds.count;
    blocks = λ b below. side-on map at (seals_at sizes.atom c old new) b (value_in content b)
        (side_in map b) (holds.blocks b below);
  }

-- ---- the keys of a passphrase
and-then-same : (f g : Digest → Option (List ℕ)) → ((d : Digest) → f d ≡ g d)
    → (o : Option Digest) → option_and_then f o ≡ option_and_then g o
and-then-same f g same None = refl
and-then-same f g same (Some d) = same d

key-by-same : (m : Parts) (first now pass : List ℕ)
    → ((d : Digest) → key_of m d first pass ≡ key_of m d now pass)
    → (e : Option Encryption) (n : Option ℕ) → key_by m first pass e n ≡ key_by m now pass e n
key-by-same m first now pass same None n = refl
key-by-same m first now pass same (Some e) None = refl
key-by-same m first now pass same (Some e) (Some n) =
    and-then-same (λ d. key_of m d first pass) (λ d. key_of m d now pass) same
    (value_at m.digests n)

-- ---- one header
some-atom : (atom : ℕ) → IsAtom atom → 0 < atom
some-atom atom (inl e) = omega (arith, e)
some-atom atom (inr e) = omega (arith, e)

module _ (keys : KeysAreBehind) (sizes : Sizes) (known : IsAtom sizes.atom) (header : Stored)
    (first now : List ℕ) (holds : HoldsOn sizes header first now) where
  abbrev meta : Parts
  meta = header.valid.meta

  sound : IsSound header.valid.meta sizes
  sound = (known-of sizes (front_of sizes first) header (some-atom sizes.atom known) holds.was).sound

  there : holds.stored.valid.meta ≡ header.valid.meta
  there = ap (λ (v : Checked). v.meta) holds.same

  -- what was read of the first is this header
  here : (stored : Stored) → stored_in sizes (front_of sizes first) ≡ Ok stored
      → stored.valid.meta ≡ header.valid.meta
  here stored is =
      ap (λ (s : Stored). s.valid.meta)
      (one-header sizes first stored header is holds.was)

  key-on : (m : Parts) (pass key : List ℕ) (e : Extent) → m ≡ header.valid.meta
      → key_for m first pass e ≡ Some key → key_for holds.stored.valid.meta now pass e ≡ Some key
  key-on m pass key e at is =
      ap (λ (x : Parts). key_for x now pass e) there
      ∙ sym (key-by-same header.valid.meta first now pass
      (λ d. keys header.valid.meta sizes d first now pass sound (sym holds.behind)) e.encryption
      e.digest)
      ∙ sym (ap (λ (x : Parts). key_for x first pass e) at) ∙ is

  abbrev under-on : (old new : List ℕ) (content : List (List ℕ))
      → OpenStandsUnder sizes old new first content → OpenStandsUnder sizes old new now content
  under-on old new content stands =
      let at = here stands.stored stands.header in
      let on = at ∙ sym there in
      record {
        stored = holds.stored;
        header = holds.held;
        now = stands.now;
        known = subst (λ (x : Parts). progress_of x sizes ≡ Some stands.now) on stands.known;
        some = stands.some;
        map = stands.map;
        map_is = stands.map_is;
        old_key = subst (λ (x : Parts). IsKeyOf x stands.now.old old) on stands.old_key;
        new_key = subst (λ (x : Parts). IsKeyOf x stands.now.new new) on stands.new_key;
        holds = holds-on sizes header.valid.meta stands.now sound
            (subst (λ (x : Parts). progress_of x sizes ≡ Some stands.now) at stands.known) first now
            holds.behind stands.map stands.map_is old new content stands.holds;
      }

  for-on : (pass : List ℕ) (content : List (List ℕ)) → OpenStandsFor sizes pass first content
      → OpenStandsFor sizes pass now content
  for-on pass content stands =
      let under = stands.stands in
      let at = here under.stored under.header in
      record {
        old = stands.old;
        new = stands.new;
        stands = under-on stands.old stands.new content under;
        old_is = key-on under.stored.valid.meta pass stands.old under.now.old at stands.old_is;
        new_is = key-on under.stored.valid.meta pass stands.new under.now.new at stands.new_is;
      }

-- ---- both ways
turned : (sizes : Sizes) (header : Stored) (first now : List ℕ)
    → (holds : HoldsOn sizes header first now) → HoldsOn sizes holds.stored now first
turned sizes header first now holds = record {
  was = holds.held;
  stored = header;
  held = holds.was;
  same = sym holds.same;
  behind = subst (λ (m : Parts). drop (areas_begin m.config) first
      ≡ drop (areas_begin m.config) now)
      (ap (λ (c : Checked). c.meta) (sym holds.same)) (sym holds.behind);
}

either : (A B X Y : Type 0) → (A → X) → (B → Y) → A ⊎ B → X ⊎ Y
either A B X Y f g (inl a) = inl (f a)
either A B X Y f g (inr b) = inr (g b)

pub fronts-keep-images : FrontsKeepContents → KeysAreBehind → FrontsKeepImages
fronts-keep-images contents keys sizes header first now known holds =
    let closed = contents sizes header first now known holds in
    let back = turned sizes header first now holds in
    record {
      keys = λ old new content. (
        either _ _ _ _ (closed.keys old new content).0
            (under-on keys sizes known header first now holds old new content),
        either _ _ _ _ (closed.keys old new content).1
            (under-on keys sizes known holds.stored now first back old new content),
      );
      passphrase = λ pass content. (
        either _ _ _ _ (closed.passphrase pass content).0
            (for-on keys sizes known header first now holds pass content),
        either _ _ _ _ (closed.passphrase pass content).1
            (for-on keys sizes known holds.stored now first back pass content),
      );
    }
