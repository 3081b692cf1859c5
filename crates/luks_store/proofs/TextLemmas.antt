-- Lemmas on the text of metadata: it is UTF-8, and copies that mean the same hold the same one.
use Rattle.std.proofs.Common.{◌≡◌, inr, ℕ, ◌+◌, ◌-◌, List, length, drop, Bool, true, false, Result}
use Rattle.std.proofs.Common.{Ok, Err, if◌then◌else◌, refl, sym, ◌∙◌, ap, arith, length-drop}
use Rattle.std.specs.Str.{is_utf8}
use Rattle.std.proofs.lemmas.List.{ext_get_or, get_or-drop}
use Rattle.luks_bin.proofs.FieldLemmas.{size-least}
use Rattle.luks_bin.specs.Copies.{text_of, up_to_nul}
use Rattle.luks_bin.specs.Shares.{Agree}
use Rattle.luks_store.specs.Copying.Meanings.{size_in}
use Rattle.luks_store.specs.Copying.Promises.{MeanTheSame}
use Rattle.json_members.specs.declared.faults.JsonFault.{JsonFault}
use Rattle.luks_json.specs.Metas.{meta_from}
use Rattle.luks_meta.specs.declared.meta.Parts.{Parts}
use Rattle.luks_store.proofs.GivenLemmas.{sized-by}
use Rattle.luks_store.specs.Loads.{because}
use Rattle.luks_store.specs.Promises.{MetaByMeaning}
use Rattle.luks_store.specs.Used.{text}

text-same : (a b : List ℕ) → length a ≡ length b → Agree a b → text_of a ≡ text_of b
unfolding text_of Agree
text-same a b long agree = ap up_to_nul (ext_get_or 0 (drop 4096 a) (drop 4096 b)
    (length-drop 4096 a ∙ ap (λ n. n - 4096) long ∙ sym (length-drop 4096 b))
    (λ i below. get_or-drop 4096 a i 0 ∙ agree (4096 + i) (inr (inr (inr (omega arith))))
    ∙ sym (get_or-drop 4096 b i 0)))

same-objects : (m n : ℕ) (x y : List ℕ) → m ≡ n → x ≡ y
    → because {A = Parts} text (meta_from m x) ≡ because text (meta_from n y)
same-objects m n x y size is =
    ap (λ k. because text (meta_from k x)) size ∙ ap (λ z. because text (meta_from n z)) is

pub meta-same : MeanTheSame → MetaByMeaning
meta-same mean = λ a b at in_place one two same.
    let size : a.header.hdr_size ≡ b.header.hdr_size =
    sym (sized-by at a one) ∙ ap size_in same ∙ sized-by in_place b two in
    let long : length a.bytes ≡ length b.bytes = one.whole.whole ∙ size ∙ sym two.whole.whole in
    let least = size-least a.header.hdr_size one.whole.one_of_nine in
    let whole = one.whole.whole in
    same-objects a.header.hdr_size b.header.hdr_size _ _ size
    (text-same a.bytes b.bytes long
    ((mean a.bytes b.bytes (omega (arith, least, whole)) long).0 same))

-- what is read as metadata is UTF-8
tested : (b : Bool) (r : Result Parts JsonFault) (fault : JsonFault) (m : Parts)
    → (if b then r else Err fault) ≡ Ok m → b ≡ true
tested true r fault m is = refl
tested false r fault m is = cc

pub read-utf8 : (size : ℕ) (json : List ℕ) (m : Parts) → meta_from size json ≡ Ok m
    → is_utf8 json ≡ true
unfolding meta_from
read-utf8 size json m is = tested (is_utf8 json) _ _ m is
