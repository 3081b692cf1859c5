-- What an answer says of the key of a passphrase.
use Rattle.std.proofs.Common.{◌≡◌, ℕ, List, Option, Some, None, ◌∙◌, ap}
use Rattle.luks_meta.specs.declared.digest.Digest.{Digest}
use Rattle.luks_meta.specs.declared.keyslot.Priority.TheVariants.{Normal, High}
use Rattle.luks_meta.specs.declared.meta.Parts.{Parts}
use Rattle.luks_slots.specs.Unlocks.{first_key, key_of, or_else}

pub key-high : (m : Parts) (d : Digest) (image pass key : List ℕ)
    → first_key m d image pass High m.keyslots ≡ Some key
    → key_of m d image pass ≡ Some key
unfolding key_of
key-high m d image pass key is = ap (λ o. or_else o (first_key m d image pass Normal m.keyslots)) is

pub key-normal : (m : Parts) (d : Digest) (image pass : List ℕ) (key : Option (List ℕ))
    → first_key m d image pass High m.keyslots ≡ None
    → first_key m d image pass Normal m.keyslots ≡ key → key_of m d image pass ≡ key
unfolding key_of
key-normal m d image pass key none is =
    ap (λ o. or_else o (first_key m d image pass Normal m.keyslots)) none ∙ is
