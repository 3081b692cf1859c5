-- A table of a disk on which an open zone is written again, under a passphrase.
use Rattle.std.proofs.Common.{◌≡◌, ℕ, ◌<◌, List, Ok, Some, ap}
use Rattle.std.specs.List.{All}
use Rattle.base_terms.specs.declared.disk_sizes.Sizes.{Sizes}
use Rattle.luks_rules.specs.declared.shape.Progress.{Progress}
use Rattle.luks_store.specs.Devices.{front_of}
use Rattle.luks_store.specs.Loads.{stored_in}
use Rattle.luks_store.specs.declared.loaded.Stored.{Stored}
use Rattle.image_laws.specs.Opened.Images.{OpenStandsFor, OpenStandsUnder}
use Rattle.image_laws.specs.Opened.Mending.{MovesOver}
use Rattle.reenc_meta.specs.Layouts.{progress_at}
use Rattle.reenc_meta.specs.Moves.{moved}
use Rattle.reenc_recovery.specs.Keys.{key_for}
use Rattle.image_laws.proofs.Started.AgreeLemmas.{IsReadAlike}
use Rattle.image_laws.specs.Started.Gaps.{key_areas}
use Rattle.image_laws.proofs.Led.BytesLemmas.{now-is, same, sound}
use Rattle.image_laws.proofs.Led.ContentLemmas.{ClosesBy}
use Rattle.image_laws.proofs.Led.ForLemmas.{closed-for, for-keys, image-for, key-as}
use Rattle.image_laws.proofs.Led.TableLemmas.{ImageBy}
use Rattle.image_laws.specs.Led.Turned.{ClosedForBy, StandsForBy}

module _ (sizes : Sizes) (header next stored : Stored) (c : Progress) (bytes old new : List ℕ)
    (some : 0 < sizes.atom) (moves : MovesOver sizes header next c)
    (held : stored_in sizes (front_of sizes bytes) ≡ Ok stored)
    (alike : stored.valid ≡ header.valid) (now pass : List ℕ)
    (read : All (IsReadAlike bytes now) (key_areas header.valid.meta.keyslots))
    (content : List (List ℕ)) where
  module _ (under : OpenStandsUnder sizes old new bytes content)
      (old_is : key_for under.stored.valid.meta bytes pass under.now.old ≡ Some old)
      (new_is : key_for under.stored.valid.meta bytes pass under.now.new ≡ Some new) where
    first-old : key_for header.valid.meta bytes pass c.old ≡ Some old
    first-old =
        key-as bytes pass old under.stored.valid.meta header.valid.meta under.now.old c.old
        (same sizes header stored c bytes old new content some moves.known held alike under)
        (ap (λ (p : Progress). p.old) (now-is sizes header stored c bytes old new content some
        moves.known held alike under)) old_is

    first-new : key_for header.valid.meta bytes pass c.new ≡ Some new
    first-new =
        key-as bytes pass new under.stored.valid.meta header.valid.meta under.now.new c.new
        (same sizes header stored c bytes old new content some moves.known held alike under)
        (ap (λ (p : Progress). p.new) (now-is sizes header stored c bytes old new content some
        moves.known held alike under)) new_is

    by-image : ImageBy sizes header next c old new now content
        → StandsForBy sizes header next pass now content
    by-image is =
        image-for sizes header next c old new bytes now pass content some
        (sound sizes header stored c bytes old new content some moves.known held alike under) moves.known moves.gone read first-old first-new is

    by-closed : ClosesBy sizes next (progress_at (moved c.conversion.direction c.plan.zone c.plan) c)
        old new now content → ClosedForBy sizes next pass now content
    by-closed is =
        closed-for sizes header next c old new bytes now pass content some
        (sound sizes header stored c bytes old new content some moves.known held alike under) moves.known moves.gone read first-old first-new is

  -- what the bytes stand for under the passphrase
  pub image-pass : ((under : OpenStandsUnder sizes old new bytes content)
      → ImageBy sizes header next c old new now content)
      → (stands : OpenStandsFor sizes pass bytes content) → stands.old ≡ old → stands.new ≡ new
      → StandsForBy sizes header next pass now content
  image-pass by_keys =
      for-keys sizes pass bytes old new content (StandsForBy sizes header next pass now content)
      (λ under old_is new_is. by-image under old_is new_is (by_keys under))

  pub closed-pass : ((under : OpenStandsUnder sizes old new bytes content)
      → ClosesBy sizes next (progress_at (moved c.conversion.direction c.plan.zone c.plan) c) old new
      now content)
      → (stands : OpenStandsFor sizes pass bytes content) → stands.old ≡ old → stands.new ≡ new
      → ClosedForBy sizes next pass now content
  closed-pass by_keys =
      for-keys sizes pass bytes old new content (ClosedForBy sizes next pass now content)
      (λ under old_is new_is. by-closed under old_is new_is (by_keys under))
