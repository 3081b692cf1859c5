-- Lemmas on the metadata of the copy that is used, as they are judged.
use Rattle.std.proofs.Common.{◌≡◌, None, Ok, refl}
use Rattle.base_terms.specs.declared.disk_sizes.Sizes.{Sizes}
use Rattle.luks_bin.specs.Copies.{text_of}
use Rattle.luks_json.specs.Metas.{meta_from}
use Rattle.luks_meta.specs.declared.meta.Parts.{Parts}
use Rattle.luks_rules.specs.Rules.{first_fault}
use Rattle.luks_store.specs.Loads.{judged}
use Rattle.luks_store.specs.declared.copies.Copies.{Copies}

pub judged-ok : (sizes : Sizes) (copies : Copies) (meta : Parts)
    → meta_from copies.used.header.hdr_size (text_of copies.used.bytes) ≡ Ok meta
    → first_fault meta sizes ≡ None
    → judged sizes copies
    ≡ Ok (record { copies = copies; valid = record { meta = meta; sizes = sizes } })
unfolding judged
judged-ok sizes copies meta read valid = rw (read, valid) refl
