-- What is known of a header that an image holds: it has a text, and breaks no rule.
use Rattle.std.proofs.Common.{◌≡◌, ℕ, ◌<◌, List, Result, Ok, Err, None, sym, subst}
use Rattle.base_terms.specs.declared.disk_sizes.Sizes.{Sizes}
use Rattle.json_members.proofs.ReadLemmas.{Right}
use Rattle.luks_bin.specs.Copies.{text_of}
use Rattle.luks_json.proofs.MetaLemmas.{meta_from_right}
use Rattle.luks_meta.specs.Metas.{IsMeta}
use Rattle.luks_meta.specs.declared.meta.Parts.{Parts}
use Rattle.luks_rules.proofs.SoundLemmas.{sound}
use Rattle.luks_rules.specs.Rules.{first_fault}
use Rattle.luks_rules.specs.States.{IsSound}
use Rattle.luks_store.proofs.StoredLemmas.{is-valid}
use Rattle.luks_store.specs.Loads.{judged, stored_in, ◌>>=◌}
use Rattle.luks_store.specs.Used.{Refusal, copies_in}
use Rattle.luks_store.specs.declared.copies.Copies.{Copies}
use Rattle.luks_store.specs.declared.loaded.Stored.{Stored}

-- the copies that it was read from
judged-of : (sizes : Sizes) (bytes : List ℕ) (stored : Stored) → stored_in sizes bytes ≡ Ok stored
    → (copies : Copies) × (judged sizes copies ≡ Ok stored)
unfolding stored_in
judged-of sizes bytes stored is = go (copies_in bytes) is
  where
    go : (r : Result Copies Refusal)
        → ◌>>=◌ {B = Stored} r (λ copies. judged sizes copies) ≡ Ok stored
        → (copies : Copies) × (judged sizes copies ≡ Ok stored)
    go (Ok copies) e = (copies, e)
    go (Err refusal) e = absurd cc

pub record IsKnown (sizes : Sizes) (m : Parts) : Type 0 where
  pub meta : IsMeta m
  pub sound : IsSound m sizes

pub known-of : (sizes : Sizes) (bytes : List ℕ) (stored : Stored) → 0 < sizes.atom
    → stored_in sizes bytes ≡ Ok stored → IsKnown sizes stored.valid.meta
known-of sizes bytes stored some is =
    let from = judged-of sizes bytes stored is in
    let copies = from.0 in
    let valid = is-valid sizes copies stored from.1 in
    let m = stored.valid.meta in
    let n : ℕ = copies.used.header.hdr_size in
    let meta : IsMeta m =
    subst (Right IsMeta) valid.read (meta_from_right n (text_of copies.used.bytes)) in
    let rules : first_fault m sizes ≡ None =
    subst (λ (s : Sizes). first_fault m s ≡ None) (sym valid.same_sizes) valid.rules in
    record { meta = meta; sound = sound m sizes some meta.digests.rising rules }
