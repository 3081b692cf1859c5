-- Wishes whose objects a header may have.
use Rattle.std.specs.Prelude.{◌≡◌, ◌≤◌, IfSome, true}
use Rattle.luks_meta.specs.Digests.{IsDigest}
use Rattle.luks_meta.specs.Keyslots.{IsLuks2}
use Rattle.luks_meta.specs.Reencrypts.{IsArea}
use Rattle.luks_meta.specs.Segments.{is_sector_size}
use Rattle.reenc_meta.specs.declared.wish.Wish.{Wish}

-- What is asked of a wish whatever the volume is.
pub record HasText (w : Wish) : Type 0 where
  pub key : IfSome w.key (λ key. IsLuks2 key.0 × IsDigest key.1)
  pub area : IsArea w.area
  pub sectors : is_sector_size w.sector_size ≡ true
  pub header : 4096 ≤ w.header_size
