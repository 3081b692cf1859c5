-- The atoms of an open zone by the bytes from which it is written again: by journal the old ones are
-- those that are saved; by checksum they are what the blocks of the content are sealed to for which the
-- bytes stand.
use Rattle.std.proofs.Common.{◌≡◌, ◌⊎◌, inr, ℕ, ◌+◌, ◌-◌, ◌<◌, List, Ok, refl, sym, ◌∙◌, ap}
use Rattle.std.proofs.Common.{subst, arith}
use Rattle.crash_laws.specs.HeaderAreas.Areas.{IsWhole, text_from, text_in}
use Rattle.crash_laws.specs.HeaderAreas.Headers.{Header}
use Rattle.base_terms.specs.declared.disk_sizes.Sizes.{Sizes}
use Rattle.sector_disk.specs.DiskViews.Parts.{block_at, value_in}
use Rattle.crash_laws.specs.HotZones.Standing.{IsKept, Recovers, TellsDigest, digest_at}
use Rattle.crash_laws.specs.HotZones.Zones.{Is, Texts, checksum, found_by, journal}
use Rattle.crash_laws.specs.HotZones.Zones.{Resilience as Kind}
use Rattle.hotzone.specs.Sites.{count_of, kind_of, saved_count}
use Rattle.hotzone.specs.Steps.{resealed}
use Rattle.hotzone.specs.declared.site.Guard.{Guard}
use Rattle.hotzone.specs.declared.site.Guard.TheVariants as guards
use Rattle.luks_rules.specs.declared.shape.Progress.{Progress}
use Rattle.luks_store.specs.Devices.{front_of}
use Rattle.luks_store.specs.Loads.{stored_in}
use Rattle.luks_store.specs.declared.loaded.Stored.{Stored}
use Rattle.image_laws.proofs.Opened.RecoverLemmas.{same-text}
use Rattle.image_laws.specs.Opened.Images.{HoldsSaved, OpenStandsUnder, atom_in, seals_at, sealed_both}
use Rattle.image_laws.specs.Opened.Mending.{AreTextsOf}
use Rattle.image_laws.specs.Opened.Promises.{OneUnder}
use Rattle.image_laws.specs.Opened.Zones.{zone_of}
use Rattle.segment_map.specs.declared.Side.TheVariants.{New, Old}
use Rattle.volume_machine.specs.Saved.{saved_hash}
use Rattle.volume_machine.specs.Seals.{Seals}
use Rattle.image_laws.proofs.Led.BytesLemmas.{zone-held}
use Rattle.image_laws.proofs.Led.ZoneLemmas.{atom-is, count-is, kind-is, own-is, reseal-is, store-count}
use Rattle.image_laws.proofs.Led.ZoneLemmas.{store-is}
use Rattle.image_laws.specs.Led.Keys.{AreCiphersOf}
use Rattle.zone_mending.proofs.MenderLemmas.{all-saved}
use Rattle.zone_mending.specs.Known.{HasTexts, HoldsZone, zone_in}
use Rattle.zone_mending.specs.Menders.{IsMending}
use Rattle.zone_mending.specs.Promises.{seals_in}
use Rattle.zone_mending.specs.declared.mender.Mender.{Mender}

-- ---- what a digest that was saved tells
either-in : (told own old new : List ℕ) → TellsDigest saved_hash told own old new
    → (own ≡ old) ⊎ (own ≡ new)
either-in told own old new is = is.either

module _ {C : Type 0} (sector : C → ℕ) (sealed opened : C → ℕ → List ℕ → List ℕ) (m : Mender C)
    (mends : IsMending sector m) (old_key new_key bytes : List ℕ)
    (keys : AreCiphersOf sector sealed opened mends.zone.now old_key new_key m.keys)
    (stored : Stored)
    (held : stored_in m.loaded.valid.sizes (front_of m.loaded.valid.sizes bytes) ≡ Ok stored)
    (alike : stored.valid ≡ m.loaded.valid)
    (whole : IsWhole m.site.atom (saved_count m.site)
    (λ j. block_at m.site.atom bytes (m.site.store + j))) where
  abbrev sizes : Sizes
  sizes = m.loaded.valid.sizes

  abbrev c : Progress
  c = mends.zone.now

  abbrev seals : Seals
  seals = seals_at m.loaded.valid.sizes.atom mends.zone.now old_key new_key

  abbrev Stands : List (List ℕ) → Type 0
  Stands content = OpenStandsUnder m.loaded.valid.sizes old_key new_key bytes content

  -- these texts are the zone's, whatever its headers are, and whatever the bytes stand for
  pub record StartsBy (texts : Texts) : Type 0 where
    pub holds : HoldsZone m.site bytes texts
    pub has : (shown : Header (List ℕ))
        → HasTexts (seals_in sealed opened m) m.site (zone_in m shown) texts
    pub fits : (shown : Header (List ℕ)) (content : List (List ℕ))
        → OpenStandsUnder m.loaded.valid.sizes old_key new_key bytes content
        → AreTextsOf mends.zone.now.plan.first
        (seals_at m.loaded.valid.sizes.atom mends.zone.now old_key new_key) (zone_in m shown) content
        texts

  -- ---- a block of the zone, by a content
  module _ (content : List (List ℕ)) (stands : Stands content) (i : ℕ) (below : i < count_of m.site)
    where
      abbrev b : ℕ
      b = c.plan.first + i

      abbrev value : List ℕ
      value = value_in content b

      is-held : HoldsSaved sizes.atom (zone_of sizes c) c.plan.first seals (atom_in sizes.atom bytes) b
          value
      is-held =
          zone-held sizes m.loaded stored c bytes old_key new_key content mends.stored.atom
          mends.zone.is.known held alike stands i
          (let count = count-is sector m mends in omega (arith, below, count))

      told-at : (r : Kind) → (zone_of sizes c).resilience ≡ r
          → Recovers r saved_hash (zone_of sizes c) (sealed_both seals b value)
          (atom_in sizes.atom bytes) i
      told-at r by =
          subst (λ (x : Kind). Recovers x saved_hash (zone_of sizes c) (sealed_both seals b value)
          (atom_in sizes.atom bytes) i) by
          (subst (λ n. Recovers (zone_of sizes c).resilience saved_hash (zone_of sizes c)
          (sealed_both seals b value) (atom_in sizes.atom bytes) n)
          (let e : b - c.plan.first ≡ i = omega arith in e) is-held.tells)

      -- what its old atom becomes
      resealed-is : resealed (seals_in sealed opened m) (m.site.blocks.start + i)
          (seals.sealed Old b value) ≡ seals.sealed New b value
      resealed-is =
          reseal-is sector m mends sealed opened old_key new_key keys i (seals.sealed Old b value)
          ∙ ap (λ text. seals.sealed New b text) (sym is-held.old)

  -- ---- by journal
  module _ (by : m.site.guard ≡ guards.Journal) where
    abbrev saved-texts : Texts
    saved-texts = record {
      old = λ i. block_at m.site.atom bytes (m.site.store + i);
      new = λ i. resealed (seals_in sealed opened m) (m.site.blocks.start + i)
          (block_at m.site.atom bytes (m.site.store + i));
      saved = λ j. block_at m.site.atom bytes (m.site.store + j);
    }

    saved-kept : (shown : Header (List ℕ))
        → IsKept (kind_of m.site.guard) saved_hash (zone_in m shown) saved-texts
    saved-kept shown =
        subst (λ g. IsKept (kind_of g) saved_hash (zone_in m shown) saved-texts) (sym by) (record {
          are = λ i below. refl;
          enough = (let all = all-saved m.site.guard m.site.atom (count_of m.site) by in
              omega (arith, all));
        })

    saved-old : (content : List (List ℕ)) (stands : Stands content) (i : ℕ)
        → i < count_of m.site → saved-texts.old i
        ≡ seals.sealed Old (c.plan.first + i) (value_in content (c.plan.first + i))
    saved-old content stands i below =
        ap (λ a. block_at a bytes (m.site.store + i)) (atom-is sector m mends)
        ∙ ap (λ n. block_at sizes.atom bytes (n + i)) (store-is sector m mends)
        ∙ told-at content stands i below journal (sym (kind-is sector m mends) ∙ ap kind_of by)

    saved-start : StartsBy saved-texts
    saved-start = record {
      holds = record {
        own = λ i below. subst (λ g. Is (found_by (kind_of g)) saved-texts i
            (block_at m.site.atom bytes (m.site.own + i))) (sym by) tt;
        saved = λ j below. refl;
      };
      has = λ shown. record {
        new = λ i below. refl;
        kept = saved-kept shown;
        whole = λ other. whole;
      };
      fits = λ shown content stands. record {
        old = λ i below. saved-old content stands i below;
        new = λ i below.
            ap (λ text. resealed (seals_in sealed opened m) (m.site.blocks.start + i) text)
            (saved-old content stands i below)
            ∙ resealed-is content stands i below;
        kept = saved-kept shown;
      };
    }

  -- ---- by checksum
  module _ (by : m.site.guard ≡ guards.Checksum) (content : List (List ℕ)) (stands : Stands content)
    where
      abbrev content-texts : Texts
      content-texts = record {
        old = λ i. seals.sealed Old (c.plan.first + i) (value_in content (c.plan.first + i));
        new = λ i. seals.sealed New (c.plan.first + i) (value_in content (c.plan.first + i));
        saved = λ j. block_at m.site.atom bytes (m.site.store + j);
      }

      digest-told : (i : ℕ) → i < count_of m.site
          → TellsDigest saved_hash
          (digest_at saved_hash (text_in (atom_in sizes.atom bytes) (zone_of sizes c).store) i)
          (block_at sizes.atom bytes ((zone_of sizes c).own.start + i)) (content-texts.old i)
          (content-texts.new i)
      digest-told i below =
          told-at content stands i below checksum (sym (kind-is sector m mends) ∙ ap kind_of by)

      saved-text : text_from content-texts.saved 0 (saved_count m.site)
          ≡ text_in (atom_in sizes.atom bytes) (zone_of sizes c).store
      saved-text =
          same-text content-texts.saved (atom_in sizes.atom bytes) 0 (zone_of sizes c).store.start
          (saved_count m.site)
          (λ j below.
          ap (λ n. block_at m.site.atom bytes (m.site.store + n))
          (let e : 0 + j ≡ j = omega arith in e)
          ∙ ap (λ a. block_at a bytes (m.site.store + j)) (atom-is sector m mends)
          ∙ ap (λ n. block_at sizes.atom bytes (n + j)) (store-is sector m mends))
          ∙ ap (λ n. text_from (atom_in sizes.atom bytes) (zone_of sizes c).store.start n)
          (store-count sector m mends)

      content-kept : (shown : Header (List ℕ))
          → IsKept (kind_of m.site.guard) saved_hash (zone_in m shown) content-texts
      content-kept shown =
          subst (λ g. IsKept (kind_of g) saved_hash (zone_in m shown) content-texts) (sym by) (record {
            are = λ i below.
                ap (λ text. digest_at saved_hash text i) saved-text ∙ (digest-told i below).is_old;
            differ = λ i below same.
                (let told = digest-told i below in told.differs (sym same ∙ sym told.is_old));
          })

      content-start : OneUnder → StartsBy content-texts
      content-start one = record {
        holds = record {
          own = λ i below.
              subst (λ g. Is (found_by (kind_of g)) content-texts i
              (block_at m.site.atom bytes (m.site.own + i))) (sym by)
              (subst (λ v. (v ≡ content-texts.old i) ⊎ (v ≡ content-texts.new i))
              (sym (ap (λ a. block_at a bytes (m.site.own + i)) (atom-is sector m mends)
              ∙ ap (λ n. block_at sizes.atom bytes (n + i)) (own-is sector m mends)))
              (either-in _ _ _ _ (digest-told i below)));
          saved = λ j below. refl;
        };
        has = λ shown. record {
          new = λ i below. sym (resealed-is content stands i below);
          kept = content-kept shown;
          whole = λ other. whole;
        };
        fits = λ shown also stands_too.
            (let same = one sizes old_key new_key bytes content also (inr stands) (inr stands_too) in
            record {
              old = λ i below. ap (λ (all : List (List ℕ)).
                  seals.sealed Old (c.plan.first + i) (value_in all (c.plan.first + i))) same;
              new = λ i below. ap (λ (all : List (List ℕ)).
                  seals.sealed New (c.plan.first + i) (value_in all (c.plan.first + i))) same;
              kept = content-kept shown;
            });
      }

  -- ---- by either
  pub starts-by : OneUnder
      → (m.site.guard ≡ guards.Checksum → (content : List (List ℕ)) × Stands content)
      → (texts : Texts) × StartsBy texts
  starts-by one told = by-guard m.site.guard refl
    where
      by-guard : (g : Guard) → m.site.guard ≡ g → (texts : Texts) × StartsBy texts
      by-guard guards.Journal by = (saved-texts by, saved-start by)
      by-guard guards.Checksum by =
          let stood = told by in
          (content-texts by stood.0 stood.1, content-start by stood.0 stood.1 one)
