-- Lemmas on images of a table as they are seen by place.
use Rattle.std.proofs.Common.{◌≡◌, ℕ, zero, suc, List, [], ◌∷◌, ◌++◌, length, replicate, refl, sym}
use Rattle.std.proofs.Common.{◌∙◌, ap, arith}
use Rattle.base_terms.specs.Blocks.{joined, lengths}
use Rattle.crash_laws.specs.HeaderAreas.Areas.{Image, IsWhole, content_of, text_from}
use Rattle.crash_laws.specs.HeaderAreas.Headers.{Layout, IsLaidOut}
use Rattle.crash_laws.specs.HeaderAreas.Promises.{IsImageOf}
use Rattle.crash_laws.proofs.HeaderAreas.HeadersGiven.{place_within}
use Rattle.sector_disk.proofs.DiskViews.Entries.{image_in, length-image}
use Rattle.sector_disk.specs.DiskViews.Parts.{value_in}
use Rattle.sector_disk.specs.DiskViews.Views.{view_of_cells}
use Rattle.sector_disk.specs.Cells.{Cell, IsImage}

-- the text of an image, one place further
text_next : (image : Image) (start n : ℕ)
    → text_from image (suc start) n ≡ text_from (λ place. image (suc place)) start n
unfolding text_from
text_next image start zero = refl
text_next image start (suc n) =
    ap (λ rest. image (suc start) ++ rest) (text_next image (suc start) n)

text_joined : (image : List (List ℕ)) → content_of (length image) (value_in image) ≡ joined image
unfolding text_from joined
text_joined [] = refl
text_joined (value ∷ image) =
    ap (λ rest. value ++ rest)
    (text_next (value_in (value ∷ image)) 0 (length image) ∙ text_joined image)

even_at : (atom n : ℕ) (image : List (List ℕ)) → lengths image ≡ replicate n atom
    → IsWhole atom n (value_in image)
unfolding lengths
even_at atom zero image even place below = absurd (omega (arith, below))
even_at atom (suc n) [] even place below = absurd (cc)
even_at atom (suc n) (value ∷ image) even zero below = cc
even_at atom (suc n) (value ∷ image) even (suc place) below =
    even_at atom n image (cc) place (omega (arith, below))

pub image_taken : (atom size : ℕ) (layout : Layout) (cells : List Cell) (image : List (List ℕ))
    → IsImage cells image
    → lengths image ≡ replicate (length cells) atom → IsLaidOut atom (length cells) size layout
    → IsImageOf atom (length cells) size layout (view_of_cells cells) (value_in image)
    × (content_of (length cells) (value_in image) ≡ joined image)
image_taken atom size layout cells image is even laid = (
  record {
    laid = laid;
    whole = even_at atom (length cells) image even;
    takes = λ copy i below. image_in cells image _ is
        (let within =
        place_within atom (length cells) size layout copy laid in omega (arith, below, within));
  },
  ap (λ n. content_of n (value_in image)) (sym (length-image cells image is)) ∙ text_joined image,
)
