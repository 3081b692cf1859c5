-- Which of the two headers of a commit an image has, and on which side a zone's blocks are by it.
use Rattle.std.proofs.Common.{◌≡◌, ◌≢◌, ◌⊎◌, inl, inr, ℕ, ◌<◌, List, cond, eqb, refl, ◌∙◌, ap, arith}
use Rattle.std.proofs.lemmas.Bool.{eq-eqb, ne_eqb}
use Rattle.crash_laws.specs.HeaderAreas.Commits.{IsLater, MayBe, Stage, begun, first_kept, first_written}
use Rattle.crash_laws.specs.HeaderAreas.Commits.{second_written}
use Rattle.luks_store.specs.Copying.Meanings.{header_reader}
use Rattle.segment_map.specs.declared.Side.{Side}

-- the side by a header: the near one by that of this number, and the far one by the next
abbrev pub side-of : Side → Side → ℕ → List ℕ → Side
side-of near far number means = cond (eqb (header_reader.seq means) number) near far

module _ (near far : Side) where
  abbrev pub Has : List ℕ → List ℕ → List ℕ → Type 0
  Has from to m =
      ((m ≡ from) × (side-of near far (header_reader.seq from) m ≡ near))
      ⊎ ((m ≡ to) × (side-of near far (header_reader.seq from) m ≡ far))

  pub near-side : (from : List ℕ) → side-of near far (header_reader.seq from) from ≡ near
  near-side from =
      ap (λ b. cond b near far) (eq-eqb (header_reader.seq from) (header_reader.seq from) refl)

  far-side : (from to : List ℕ) → header_reader.seq from < header_reader.seq to
      → side-of near far (header_reader.seq from) to ≡ far
  far-side from to more =
      ap (λ b. cond b near far)
      (ne_eqb (header_reader.seq to) (header_reader.seq from) (λ same. omega (arith, more, same)))

  pub next-side : (stage : Stage) (from to : List ℕ) → IsLater header_reader stage from to
      → stage ≢ begun → side-of near far (header_reader.seq from) to ≡ far
  next-side begun from to later on = absurd (on refl)
  next-side first_written from to later on = far-side from to later.0
  next-side first_kept from to later on = far-side from to later.0
  next-side second_written from to later on = far-side from to later.0

  pub which : (stage : Stage) (from to m : List ℕ) → IsLater header_reader stage from to
      → MayBe stage from to m → Has from to m
  which begun from to m later is =
      inl (is, ap (side-of near far (header_reader.seq from)) is ∙ near-side from)
  which first_written from to m later (inl is) =
      inl (is, ap (side-of near far (header_reader.seq from)) is ∙ near-side from)
  which first_written from to m later (inr is) =
      inr (is, ap (side-of near far (header_reader.seq from)) is ∙ far-side from to later.0)
  which first_kept from to m later is =
      inr (is, ap (side-of near far (header_reader.seq from)) is ∙ far-side from to later.0)
  which second_written from to m later is =
      inr (is, ap (side-of near far (header_reader.seq from)) is ∙ far-side from to later.0)
