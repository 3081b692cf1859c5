-- Where both copies of a header stand, each under the salt that the header has for its place: on a disk
-- on which both were good, and behind the write of a repair.
use Rattle.std.proofs.Common.{◌≡◌, ◌≢◌, ◌∙◌, ◌*◌, ◌≤◌, inl, inr, ℕ, List, length, take, drop, Ok}
use Rattle.std.proofs.Common.{ap, ap₂, arith, refl, subst, sym}
use Rattle.std.proofs.lemmas.List.{take_all}
use Rattle.base_terms.specs.Blocks.{pasted}
use Rattle.cipher_laws.specs.Bytes.{AreBytes}
use Rattle.base_terms.specs.declared.disk_sizes.Sizes.{Sizes}
use Rattle.sector_disk.proofs.DiskViews.Blockwise.{bytes-drop, bytes-take}
use Rattle.luks_bin.proofs.FieldLemmas.{size-least}
use Rattle.luks_bin.proofs.PieceLemmas.{field-before, field-behind, field-pasted, length-pasted}
use Rattle.luks_bin.specs.Copies.{IsCopy, copy_of}
use Rattle.luks_bin.specs.Fields.{field}
use Rattle.luks_bin.specs.Shares.{Agree}
use Rattle.luks_bin.specs.Writing.{moved}
use Rattle.luks_bin.specs.declared.header.BinHeader.{BinHeader}
use Rattle.luks_store.specs.Copying.Held.{copy_in, place_in}
use Rattle.luks_store.specs.Copying.Promises.{MeanTheSame}
use Rattle.luks_store.specs.declared.header_copies.repair.Repair.{Repair}
use Rattle.luks_rules.specs.Areas.{header_bytes}
use Rattle.luks_store.proofs.CopyLemmas.{Spelt, front-part, whole-behind, whole-from}
use Rattle.luks_store.proofs.GivenLemmas.{copy-cut, copy-whole}
use Rattle.luks_store.proofs.LoadLemmas.{copies-stored}
use Rattle.luks_store.proofs.RepairLemmas.{used-behind, used-front}
use Rattle.luks_store.specs.Commits.{AreGood, Repairs}
use Rattle.luks_store.specs.Devices.{front_of}
use Rattle.luks_store.specs.Loads.{IsStored, stored_in}
use Rattle.luks_store.specs.Promises.{UsedStands}
use Rattle.luks_store.specs.declared.copies.CopyState.TheVariants.{Good}
use Rattle.luks_store.specs.declared.loaded.Stored.{Stored}
use Rattle.reenc_recovery.proofs.StandingLemmas.{used_stands}
use Rattle.recovery_laws.proofs.Resumed.SaltLemmas.{HasSalts, has-salts}
use Rattle.recovery_laws.proofs.Resumed.TextLemmas.{text-moved-is}
use Rattle.hotzone.specs.ZoneEvents.Heads.{header_on}

-- both copies of a header, each at its place
pub record StandTwice (header : Stored) (bytes : List ℕ) : Type 0 where
  pub first : take header.copies.used.header.hdr_size (drop 0 bytes) ≡ (header_on header).first
  pub second : take header.copies.used.header.hdr_size
      (drop header.copies.used.header.hdr_size bytes) ≡ (header_on header).second

agree-self : (bytes : List ℕ) → Agree bytes bytes
unfolding Agree
agree-self bytes k shared = refl

module _ (header : Stored) (stored : IsStored header) where
  abbrev size : ℕ
  size = header.copies.used.header.hdr_size

  abbrev used : List ℕ
  used = header.copies.used.bytes

  abbrev whole : IsCopy used header.copies.used.header
  whole = stored.copies.whole

  least : 16384 ≤ size
  least = size-least size whole.one_of_nine

  -- a text that stands at a place, and is a copy that agrees with the used one
  text-is : (now : List ℕ) → AreBytes now → (place : ℕ) (text : List ℕ)
      → take size (drop place now) ≡ text → (h : BinHeader) → IsCopy text h → h.hdr_offset ≡ place
      → (salt : List ℕ) → h.salt ≡ salt → length text ≡ size → Agree text used
      → take size (drop place now) ≡ moved place salt used
  text-is now are place text stands h copy here salt salt_is even agree =
      let own = subst AreBytes stands (bytes-take size (drop place now) (bytes-drop place now are)) in
      stands
      ∙ text-moved-is text h copy own used (even ∙ sym whole.whole) agree
      ∙ ap₂ (λ n s. moved n s used) here salt_is

  module _ (spelt : Spelt) (mean : MeanTheSame) (stands : UsedStands) (sizes : Sizes)
      (room : 2 * size ≤ header_bytes sizes) (all : List ℕ) (long : header_bytes sizes ≤ length all)
      (held : stored_in sizes (front_of sizes all) ≡ Ok header) where
    salts : HasSalts (front_of sizes all) header.copies
    salts =
        has-salts spelt (front_of sizes all) header.copies
        (copies-stored sizes (front_of sizes all) header held)

    pub second-salt-long : length header.copies.secondary.salt ≡ 64
    second-salt-long = salts.second_long

    -- the used copy, where it stands at the one place or at the other
    used-first : (now : List ℕ) → AreBytes now → header.copies.primary.state ≡ Good
        → take size (drop 0 now) ≡ used → take size (drop 0 now) ≡ (header_on header).first
    used-first now are good here =
        text-is now are 0 used here header.copies.used.header whole
        (used-front header.copies stored.copies good) header.copies.primary.salt (salts.first good)
        whole.whole (agree-self used)

    used-second : (now : List ℕ) → AreBytes now → header.copies.primary.state ≢ Good
        → take size (drop size now) ≡ used → take size (drop size now) ≡ (header_on header).second
    used-second now are bad here =
        text-is now are size used here header.copies.used.header whole
        (used-behind header.copies stored.copies bad) header.copies.secondary.salt (salts.second bad)
        whole.whole (agree-self used)

    -- both were good
    pub stand-good : AreBytes all → AreGood header.copies → StandTwice header all
    stand-good are good =
        let beside = salts.both good in
        let at = copy-whole spelt size (drop size (front_of sizes all)) beside.second beside.at in
        let behind = whole-behind size beside.second (omega (arith, least)) at in
        let sized : beside.second.header.hdr_size ≡ size = sym behind.here ∙ at.here in
        let cut = copy-cut size (drop size (front_of sizes all)) beside.second beside.at in
        let here : take size (drop size all) ≡ beside.second.bytes =
        sym (front-part (header_bytes sizes) size size all (omega (arith, room)))
        ∙ ap (λ n. take n (drop size (front_of sizes all))) (sym sized) ∙ cut in
        let text_long : length beside.second.bytes ≡ size = at.whole.whole ∙ sized in
        record {
          first = used-first all are good.primary
              (used_stands stands sizes header all held 0
              (used-front header.copies stored.copies good.primary) (omega (arith, room)));
          second = text-is all are size beside.second.bytes here beside.second.header at.whole at.here
              header.copies.secondary.salt beside.salt text_long
              ((mean beside.second.bytes used (omega (arith, text_long, least))
              (text_long ∙ sym whole.whole)).0 beside.means);
        }

    -- ---- behind the write of a repair
    module _ (repair : Repair) where
      abbrev now : ℕ → List ℕ
      now place = pasted all place (copy_in repair)

      -- the text that is written
      written : (place : ℕ) (salt : List ℕ) → place ≤ size → AreBytes (now place)
          → copy_of place (copy_in repair)
          ≡ Ok (record header.copies.used.header { hdr_offset = place; salt = salt })
          → length (copy_in repair) ≡ size → Agree (copy_in repair) used
          → take size (drop place (now place)) ≡ moved place salt used
      unfolding field
      written place salt below are read text_long agree =
          let here : take size (drop place (now place)) ≡ copy_in repair =
          field-pasted all place size (copy_in repair) text_long
          (omega (arith, below, room, long)) in
          let from = whole-from spelt place (copy_in repair)
          (record header.copies.used.header { hdr_offset = place; salt = salt }) read in
          let all_of : take size (copy_in repair) ≡ copy_in repair =
          take_all size (copy_in repair) (omega (arith, text_long)) in
          text-is (now place) are place (copy_in repair) here
          (record header.copies.used.header { hdr_offset = place; salt = salt })
          (subst (λ text. IsCopy text
          (record header.copies.used.header { hdr_offset = place; salt = salt })) all_of from.whole)
          refl salt refl text_long agree

      by-secondary : AreBytes (now size) → header.copies.primary.state ≡ Good
          → copy_of size (copy_in repair) ≡ Ok (record header.copies.used.header {
            hdr_offset = size;
            salt = header.copies.secondary.salt;
          }) → length (copy_in repair) ≡ size → Agree (copy_in repair) used
          → StandTwice header (now size)
      unfolding field
      by-secondary are good read text_long agree = record {
        first = used-first (now size) are good
            (field-before all 0 size size (copy_in repair) (omega arith)
            (omega (arith, text_long, room, long))
            ∙ used_stands stands sizes header all held 0
            (used-front header.copies stored.copies good) (omega (arith, room)));
        second = written size header.copies.secondary.salt (omega arith) are read text_long agree;
      }

      by-primary : AreBytes (now 0) → header.copies.primary.state ≢ Good
          → copy_of 0 (copy_in repair) ≡ Ok (record header.copies.used.header {
            hdr_offset = 0;
            salt = header.copies.primary.salt;
          }) → length (copy_in repair) ≡ size → Agree (copy_in repair) used
          → StandTwice header (now 0)
      unfolding field
      by-primary are bad read text_long agree = record {
        first = written 0 header.copies.primary.salt (omega arith) are read text_long agree;
        second = used-second (now 0) are bad
            (field-behind all size size 0 (copy_in repair) (omega (arith, text_long))
            (omega (arith, text_long, room, long))
            ∙ used_stands stands sizes header all held size
            (used-behind header.copies stored.copies bad) (omega (arith, room)));
      }

      pub stand-repaired : (place : ℕ) → place ≡ place_in repair → Repairs header.copies repair
          → AreBytes (now place) → StandTwice header (now place)
      stand-repaired place at repairs = elim stored.copies.stands [
        | inl (good, here) ↦
            (let is = (repairs.1 good).1 in
            subst (λ (n : ℕ). AreBytes (now n) → StandTwice header (now n)) (sym (at ∙ is.at))
            (λ are. by-secondary are good is.copy is.size is.shared))
        | inr (worse, good, here) ↦
            (let is = repairs.0 worse in
            subst (λ (n : ℕ). AreBytes (now n) → StandTwice header (now n)) (sym (at ∙ is.at))
            (λ are. by-primary are worse is.copy is.size is.shared))
      ]

      pub long-repaired : (place : ℕ) → place ≡ place_in repair → Repairs header.copies repair
          → length (now place) ≡ length all
      long-repaired place at repairs = elim stored.copies.stands [
        | inl (good, here) ↦
            (let is = (repairs.1 good).1 in
            let there = at ∙ is.at in
            let sized = is.size in
            length-pasted all place (copy_in repair) (omega (arith, there, sized, room, long)))
        | inr (worse, good, here) ↦
            (let is = repairs.0 worse in
            let there = at ∙ is.at in
            let sized = is.size in
            length-pasted all place (copy_in repair) (omega (arith, there, sized, room, long)))
      ]
