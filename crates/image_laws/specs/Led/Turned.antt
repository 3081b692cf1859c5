-- What bytes stand for by which of two headers: the one by which a zone is open, or the next one, by
-- which none is.
use Rattle.std.specs.Prelude.{ℕ, ◌≡◌, ◌⊎◌, List}
use Rattle.base_terms.specs.declared.disk_sizes.Sizes.{Sizes}
use Rattle.luks_store.specs.declared.loaded.Stored.{Stored}
use Rattle.image_laws.specs.Opened.Images.{OpenStandsFor, OpenStandsUnder}
use Rattle.reenc_recovery.specs.Images.{StandsFor, StandsUnder}

-- ---- under the keys of the sides
-- the bytes have this header, by it a zone is open, and so they stand for the content
pub record OpenBy (sizes : Sizes) (header : Stored) (old new now : List ℕ)
    (content : List (List ℕ)) : Type 0 where
  pub stands : OpenStandsUnder sizes old new now content
  pub valid : stands.stored.valid ≡ header.valid

-- the bytes have this header, by it no zone is open, and so they stand for the content
pub record ClosedBy (sizes : Sizes) (header : Stored) (old new now : List ℕ)
    (content : List (List ℕ)) : Type 0 where
  pub stands : StandsUnder sizes old new now content
  pub valid : stands.stored.valid ≡ header.valid

abbrev pub StandsBy : Sizes → Stored → Stored → List ℕ → List ℕ → List ℕ → List (List ℕ) → Type 0
StandsBy sizes header next old new now content =
    OpenBy sizes header old new now content ⊎ ClosedBy sizes next old new now content

-- ---- under a passphrase
pub record OpenForBy (sizes : Sizes) (header : Stored) (pass now : List ℕ)
    (content : List (List ℕ)) : Type 0 where
  pub stands : OpenStandsFor sizes pass now content
  pub valid : stands.stands.stored.valid ≡ header.valid

pub record ClosedForBy (sizes : Sizes) (header : Stored) (pass now : List ℕ)
    (content : List (List ℕ)) : Type 0 where
  pub stands : StandsFor sizes pass now content
  pub valid : stands.stands.stored.valid ≡ header.valid

abbrev pub StandsForBy : Sizes → Stored → Stored → List ℕ → List ℕ → List (List ℕ) → Type 0
StandsForBy sizes header next pass now content =
    OpenForBy sizes header pass now content ⊎ ClosedForBy sizes next pass now content
