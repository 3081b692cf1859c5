-- What the demonstration prints.
use Rattle.std.specs.Prelude.{ℕ, List, [], ◌∷◌, codes, decimal}
use Rattle.base_terms.specs.Blocks.{joined}
use Rattle.hex.specs.Hex.{encode_lower}

abbrev pub line_feed : List ℕ
line_feed = 10 ∷ []

-- the seed, how many blocks there are and how many workers; how many of the blocks were written, and
-- how many read; the digest of what was read; and that the volume isn't being converted any more
unfoldable pub demo_text : (seed blocks workers : ℕ) (digest : List ℕ) → List ℕ
demo_text seed blocks workers digest = joined (
    codes "demo seed " ∷ decimal seed ∷ codes " blocks " ∷ decimal blocks ∷ codes " workers "
    ∷ decimal workers ∷ line_feed
    ∷ codes "writes " ∷ decimal blocks ∷ line_feed
    ∷ codes "reads " ∷ decimal blocks ∷ line_feed
    ∷ codes "sha256 " ∷ encode_lower digest ∷ line_feed
    ∷ codes "state idle" ∷ line_feed
    ∷ []
    )
