-- The objects of a copy are read from what it means.
use Rattle.std.proofs.Common.{◌≡◌, ◌∙◌, ℕ, ◌+◌, ◌≤◌, List, ◌++◌, length, drop, Ok}
use Rattle.std.proofs.Common.{refl, sym, ap, arith, length-drop}
use Rattle.std.proofs.Math.Seq.{drop-append-add}
use Rattle.std.proofs.lemmas.List.{drop-drop, length-take-le}
use Rattle.crash_laws.specs.HeaderAreas.Headers.{primary}
use Rattle.luks_bin.proofs.FieldLemmas.{size-least}
use Rattle.luks_bin.specs.Copies.{text_of, up_to_nul}
use Rattle.luks_bin.specs.Fields.{field}
use Rattle.luks_bin.specs.declared.header.BinHeader.{BinHeader}
use Rattle.luks_store.specs.Copying.Held.{primary_of}
use Rattle.luks_store.specs.Copying.Meanings.{meaning_of, size_in}
use Rattle.luks_json.specs.Metas.{meta_from}
use Rattle.luks_meta.specs.declared.meta.Parts.{Parts}
use Rattle.luks_store.proofs.GivenLemmas.{sized-by}
use Rattle.luks_store.proofs.StoredLemmas.{is-valid}
use Rattle.luks_store.specs.Commits.{IsNext}
use Rattle.luks_store.specs.Loads.{IsStored}
use Rattle.luks_store.specs.declared.commit.Prepared.{Prepared}
use Rattle.luks_store.specs.declared.loaded.Stored.{Stored}
use Rattle.hotzone.specs.ZoneEvents.Readings.{parts_in, text_in}

behind : (n j : ℕ) (a b : List ℕ) → length a ≡ n → drop (n + j) (a ++ b) ≡ drop j b
behind n j a b is = ap (λ m. drop (m + j) (a ++ b)) (sym is) ∙ drop-append-add a b j

long-field : (at len : ℕ) (copy : List ℕ) → at + len ≤ length copy → length (field at len copy) ≡ len
unfolding field
long-field at len copy there = length-take-le len (drop at copy) (omega (arith, length-drop at copy, there))

-- the JSON area stands behind what both copies share of the rest
area-in : (copy : List ℕ) → 4096 ≤ length copy → drop 3954 (meaning_of copy) ≡ drop 4096 copy
unfolding meaning_of
area-in copy long =
    behind 98 3856 (field 6 98 copy) (field 168 88 copy ++ (field 264 184 copy ++ drop 512 copy))
    (long-field 6 98 copy (omega (arith, long)))
    ∙ behind 88 3768 (field 168 88 copy) (field 264 184 copy ++ drop 512 copy)
    (long-field 168 88 copy (omega (arith, long)))
    ∙ behind 184 3584 (field 264 184 copy) (drop 512 copy)
    (long-field 264 184 copy (omega (arith, long)))
    ∙ drop-drop 3584 512 copy

pub text-in : (copy : List ℕ) → 4096 ≤ length copy → text_in (meaning_of copy) ≡ text_of copy
unfolding text_of
text-in copy long = ap up_to_nul (area-in copy long)

parts-read : (copy : List ℕ) (size : ℕ) (meta : Parts) → 4096 ≤ length copy
    → size_in (meaning_of copy) ≡ size → meta_from size (text_of copy) ≡ Ok meta
    → parts_in (meaning_of copy) ≡ Ok meta
unfolding parts_in
parts-read copy size meta long sized read =
    ap (λ n. meta_from n (text_in (meaning_of copy))) sized
    ∙ ap (meta_from size) (text-in copy long) ∙ read

-- ---- a header that was loaded
pub size-meant : (stored : Stored) → IsStored stored
    → size_in (meaning_of stored.copies.used.bytes) ≡ stored.copies.used.header.hdr_size
size-meant stored is =
    sized-by stored.copies.used.header.hdr_offset stored.copies.used
    (record { whole = is.copies.whole; here = refl })

pub stored-long : (stored : Stored) → IsStored stored
    → 16384 ≤ stored.copies.used.header.hdr_size
stored-long stored is =
    size-least stored.copies.used.header.hdr_size is.copies.whole.one_of_nine

pub stored-parts : (stored : Stored) → IsStored stored
    → parts_in (meaning_of stored.copies.used.bytes) ≡ Ok stored.valid.meta
stored-parts stored is =
    parts-read stored.copies.used.bytes stored.copies.used.header.hdr_size stored.valid.meta
    (let whole = is.copies.whole.whole in let least = stored-long stored is in
    omega (arith, whole, least))
    (size-meant stored is) (is-valid stored.valid.sizes stored.copies stored is.held).read

-- ---- a commit that follows one
pub size-next : (stored : Stored) (parts : Parts) (p : Prepared) → IsStored stored
    → IsNext stored parts p
    → size_in (meaning_of (primary_of p.copies)) ≡ stored.copies.used.header.hdr_size
size-next stored parts p is next = next.follows.1 ∙ size-meant stored is

pub next-long : (stored : Stored) (parts : Parts) (p : Prepared) → IsStored stored
    → IsNext stored parts p
    → length (primary_of p.copies) ≡ stored.copies.used.header.hdr_size
next-long stored parts p is next = next.whole.size primary ∙ size-next stored parts p is next

pub next-parts : (stored : Stored) (parts : Parts) (p : Prepared) → IsStored stored
    → IsNext stored parts p → parts_in (meaning_of (primary_of p.copies)) ≡ Ok parts
next-parts stored parts p is next =
    parts-read (primary_of p.copies) p.header.hdr_size parts
    (let long = next-long stored parts p is next in let least = stored-long stored is in
    omega (arith, long, least))
    (size-next stored parts p is next ∙ sym (ap (λ (h : BinHeader). h.hdr_size) next.header))
    next.meta
