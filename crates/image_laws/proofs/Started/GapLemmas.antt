-- Bytes in a gap of the keyslots area leave what an image stands for.
use Rattle.std.proofs.Common.{◌≡◌, inr, ℕ, ◌+◌, ◌-◌, ◌*◌, ◌<◌, ◌≤◌, List, take, drop}
use Rattle.std.proofs.Common.{Option, Some, None, Result, Ok, refl, sym, ◌∙◌, ap, subst, arith}
use Rattle.std.specs.Prelude.{option_and_then}
use Rattle.std.proofs.lemmas.List.Elements.{All-weaker}
use Rattle.base_terms.specs.declared.disk_sizes.Sizes.{Sizes}
use Rattle.sector_disk.specs.DiskViews.Parts.{block_at, value_in}
use Rattle.luks_meta.specs.declared.digest.Digest.{Digest}
use Rattle.luks_meta.specs.declared.meta.Parts.{Parts}
use Rattle.luks_meta.specs.declared.segment.Encryption.{Encryption}
use Rattle.luks_rules.specs.Areas.{areas_begin, areas_of}
use Rattle.luks_rules.specs.Plain.{IsWithin}
use Rattle.luks_rules.specs.References.{value_at}
use Rattle.luks_rules.specs.States.{IsSound}
use Rattle.luks_rules.specs.declared.areas.Area.{Area}
use Rattle.luks_rules.specs.declared.extents.Extent.{Extent}
use Rattle.luks_rules.specs.declared.valid.Checked.{Checked}
use Rattle.luks_slots.proofs.AreaLemmas.{some-atom}
use Rattle.luks_slots.proofs.ReadyLemmas.{IsWhole}
use Rattle.luks_slots.specs.Gaps.{IsApart}
use Rattle.luks_slots.specs.Unlocks.{key_of}
use Rattle.luks_store.specs.Devices.{front_of}
use Rattle.luks_store.specs.Loads.{stored_in}
use Rattle.luks_store.specs.declared.loaded.Stored.{Stored}
use Rattle.reenc_meta.specs.declared.placement.Placement.{Placement}
use Rattle.reenc_recovery.specs.Images.{HoldsBlock, HoldsBlocks, StandsFor}
use Rattle.reenc_recovery.specs.Images.{StandsUnder, seals_in}
use Rattle.reenc_recovery.specs.Keys.{IsKeyOf, key_by, key_for}
use Rattle.reenc_recovery.specs.Placings.{PlacesVolume}
use Rattle.sector_disk.specs.Geometry.{IsAtom}
use Rattle.image_laws.proofs.Started.AgreeLemmas.{all-alike, apart-among, same-behind}
use Rattle.image_laws.proofs.Started.BlockLemmas.{block-behind}
use Rattle.image_laws.proofs.Started.HeaderLemmas.{known-of}
use Rattle.image_laws.proofs.Started.KeyLemmas.{among-areas, key-same}
use Rattle.image_laws.specs.Started.Gaps.{AgreeBut, FrontsKeepContents, GapsSpareKeys}
use Rattle.image_laws.specs.Started.Gaps.{RunsKeepContents, SparesKeys, key_areas}
use Rattle.volume_machine.specs.Pieces.{place_in}

-- an image holds one header
one-by : {E : Type 0} (r : Result Stored E) (one other : Stored) → r ≡ Ok one → r ≡ Ok other
    → one ≡ other
one-by {E} r one other is also =
    (let e : ◌≡◌ {A = Result Stored E} (Ok one) (Ok other) = sym is ∙ also in cc)

pub one-header : (sizes : Sizes) (image : List ℕ) (one other : Stored)
    → stored_in sizes (front_of sizes image) ≡ Ok one
    → stored_in sizes (front_of sizes image) ≡ Ok other → one ≡ other
one-header sizes image one other is also =
    one-by (stored_in sizes (front_of sizes image)) one other is also

-- ---- the key of a passphrase
and-then-same : (f g : Digest → Option (List ℕ)) → ((d : Digest) → f d ≡ g d)
    → (o : Option Digest) → option_and_then f o ≡ option_and_then g o
and-then-same f g same None = refl
and-then-same f g same (Some d) = same d

key-by-same : (m : Parts) (first now pass : List ℕ)
    → ((d : Digest) → key_of m d first pass ≡ key_of m d now pass)
    → (e : Option Encryption) (n : Option ℕ) → key_by m first pass e n ≡ key_by m now pass e n
key-by-same m first now pass same None n = refl
key-by-same m first now pass same (Some e) None = refl
key-by-same m first now pass same (Some e) (Some n) =
    and-then-same (λ d. key_of m d first pass) (λ d. key_of m d now pass) same
    (value_at m.digests n)

-- ---- the blocks
pub blocks-held : (atom : ℕ) (p : Placement) (old new first image : List ℕ)
    (content : List (List ℕ))
    → ((b : ℕ) → b < p.map.blocks
    → block_at atom image (place_in p.map b) ≡ block_at atom first (place_in p.map b))
    → HoldsBlocks atom p old new first content → HoldsBlocks atom p old new image content
blocks-held atom p old new first image content same holds = record {
  count = holds.count;
  blocks = λ b below.
      subst (λ (bytes : List ℕ). HoldsBlock p.map (seals_in atom p old new) b (value_in content b)
      bytes)
      (sym (same b below)) (holds.blocks b below);
}

-- ---- one header, and a run that is free by it
module _ (sizes : Sizes) (m : Parts) (offset size : ℕ) (first now : List ℕ)
    (known : IsAtom sizes.atom) (spares : SparesKeys m offset size)
    (one other : Stored) (was : stored_in sizes (front_of sizes first) ≡ Ok one)
    (is : stored_in sizes (front_of sizes now) ≡ Ok other) (meta : one.valid.meta ≡ m)
    (same : other.valid.meta ≡ m) (agree : AgreeBut (areas_begin m.config) offset size first now)
  where
    sound : IsSound m sizes
    sound = subst (λ (x : Parts). IsSound x sizes) meta
        (known-of sizes (front_of sizes first) one (some-atom sizes.atom known) was).sound

    keys-same : (d : Digest) (pass : List ℕ) → key_of m d first pass ≡ key_of m d now pass
    keys-same d pass = key-same m d first now pass
        (all-alike (areas_begin m.config) offset size first now agree sizes.atom
        (key_areas m.keyslots) known
        (among-areas (λ (a : Area). areas_begin m.config ≤ a.offset) m.keyslots
        (All-weaker (IsWithin m.config) (λ (a : Area). areas_begin m.config ≤ a.offset)
        (λ a lies. lies.0) (areas_of m.keyslots) sound.within.areas))
        (among-areas (IsWhole sizes.atom) m.keyslots sound.atoms.areas) spares.apart)

    key-for-same : (n : Parts) (pass key : List ℕ) (e : Extent) → n ≡ m
        → key_for n first pass e ≡ Some key → key_for other.valid.meta now pass e ≡ Some key
    key-for-same n pass key e there gives =
        ap (λ (x : Parts). key_for x now pass e) same
        ∙ sym (key-by-same m first now pass (λ d. keys-same d pass) e.encryption e.digest)
        ∙ sym (ap (λ (x : Parts). key_for x first pass e) there) ∙ gives

    blocks-same : (p : Placement) → PlacesVolume m sizes p → (b : ℕ)
        → block_at sizes.atom now (place_in p.map b) ≡ block_at sizes.atom first (place_in p.map b)
    blocks-same p placed b =
        let end = block-behind m sizes p known sound b placed in
        let before = spares.before in
        ap (take sizes.atom)
        (same-behind (areas_begin m.config) offset size first now agree
        (place_in p.map b * sizes.atom) (omega (arith, end, before)))

    held-by : (old new : List ℕ) (content : List (List ℕ))
        → (stands : StandsUnder sizes old new first content) → stands.stored.valid.meta ≡ m
    held-by old new content stands =
        ap (λ (s : Stored). s.valid.meta)
        (one-header sizes first stands.stored one stands.header was) ∙ meta

    abbrev under-same : (old new : List ℕ) (content : List (List ℕ))
        → StandsUnder sizes old new first content → StandsUnder sizes old new now content
    under-same old new content stands =
        let q = stands.placement in
        let there = held-by old new content stands in
        let on = there ∙ sym same in
        record {
          stored = other;
          header = is;
          placement = q;
          placed = subst (λ (x : Parts). PlacesVolume x sizes q) on stands.placed;
          old_key = subst (λ (x : Parts). IsKeyOf x q.old old) on stands.old_key;
          new_key = subst (λ (x : Parts). IsKeyOf x q.new new) on stands.new_key;
          holds = blocks-held sizes.atom q old new first now content
              (λ b below. blocks-same q
              (subst (λ (x : Parts). PlacesVolume x sizes q) there stands.placed) b) stands.holds;
        }

    for-same : (pass : List ℕ) (content : List (List ℕ))
        → StandsFor sizes pass first content → StandsFor sizes pass now content
    for-same pass content stands =
        let under = stands.stands in
        let q = under.placement in
        let there = held-by stands.old stands.new content under in
        record {
          old = stands.old;
          new = stands.new;
          stands = under-same stands.old stands.new content under;
          old_is = key-for-same under.stored.valid.meta pass stands.old q.old there stands.old_is;
          new_is = key-for-same under.stored.valid.meta pass stands.new q.new there stands.new_is;
        }

-- ---- both ways
abbrev turned : (begin offset size : ℕ) (first now : List ℕ)
    → AgreeBut begin offset size first now → AgreeBut begin offset size now first
turned begin offset size first now agree = record {
  before = sym agree.before;
  behind = sym agree.behind;
}

pub runs-keep : RunsKeepContents
runs-keep sizes header offset size first now known spares holds =
    let m = header.valid.meta in
    let same : holds.stored.valid.meta ≡ m = ap (λ (c : Checked). c.meta) holds.same in
    let back = turned (areas_begin m.config) offset size first now holds.agree in
    record {
      keys = λ old new content. (
        under-same sizes m offset size first now known spares header holds.stored holds.was
            holds.held refl same holds.agree old new content,
        under-same sizes m offset size now first known spares holds.stored header holds.held
            holds.was same refl back old new content,
      );
      passphrase = λ pass content. (
        for-same sizes m offset size first now known spares header holds.stored holds.was
            holds.held refl same holds.agree pass content,
        for-same sizes m offset size now first known spares holds.stored header holds.held
            holds.was same refl back pass content,
      );
    }

-- ---- runs that spare the keys
pub gaps-spare : GapsSpareKeys
gaps-spare m besides atom offset size free = record {
  before = free.before;
  apart = among-areas (IsApart offset size) m.keyslots
      (apart-among offset size (areas_of m.keyslots) besides free.apart);
}

-- ---- no run at all
nothing-apart : (begin : ℕ) (a : Area) → begin ≤ a.offset → IsApart begin 0 a
nothing-apart begin a le = inr (inr (omega (arith, le)))

pub fronts-keep : FrontsKeepContents
fronts-keep sizes header first now known holds =
    let m = header.valid.meta in
    let begin : ℕ = areas_begin m.config in
    let sound =
    (known-of sizes (front_of sizes first) header (some-atom sizes.atom known) holds.was).sound in
    let whole : begin + 0 ≡ begin = omega arith in
    runs-keep sizes header begin 0 first now known
    (record {
      before = omega arith;
      apart = among-areas (IsApart begin 0) m.keyslots
          (All-weaker (IsWithin m.config) (IsApart begin 0)
          (λ a lies. nothing-apart begin a lies.0) (areas_of m.keyslots) sound.within.areas);
    })
    (record {
      was = holds.was;
      stored = holds.stored;
      held = holds.held;
      same = holds.same;
      agree = record {
        before = ap (take (begin - begin)) holds.behind;
        behind = ap (λ n. drop n now) whole ∙ holds.behind ∙ sym (ap (λ n. drop n first) whole);
      };
    })
