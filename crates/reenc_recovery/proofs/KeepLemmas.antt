-- Two images, of which the one holds a header, and the other one of the same metadata and what
-- stands behind both copies: they stand for the same.
use Rattle.std.proofs.Common.{◌≡◌, ◌↔◌, ℕ, List, drop, Option, Some, None, Ok, refl, sym, ◌∙◌, ap}
use Rattle.std.proofs.Common.{subst}
use Rattle.std.specs.Prelude.{option_and_then}
use Rattle.base_terms.specs.declared.disk_sizes.Sizes.{Sizes}
use Rattle.luks_meta.specs.declared.digest.Digest.{Digest}
use Rattle.luks_meta.specs.declared.meta.Parts.{Parts}
use Rattle.luks_meta.specs.declared.segment.Encryption.{Encryption}
use Rattle.luks_rules.specs.Areas.{areas_begin}
use Rattle.luks_rules.specs.References.{value_at}
use Rattle.luks_rules.specs.States.{IsSound}
use Rattle.luks_rules.specs.declared.extents.Extent.{Extent}
use Rattle.luks_rules.specs.declared.valid.Checked.{Checked}
use Rattle.luks_slots.specs.Laws.{KeysAreBehind}
use Rattle.luks_slots.specs.Unlocks.{key_of}
use Rattle.luks_store.specs.Devices.{front_of}
use Rattle.luks_store.specs.Loads.{stored_in}
use Rattle.luks_store.specs.declared.loaded.Stored.{Stored}
use Rattle.reenc_meta.specs.Placements.{IsPlacementOf}
use Rattle.reenc_meta.specs.Places.{IsRightFor}
use Rattle.reenc_meta.specs.declared.placement.Placement.{Placement}
use Rattle.reenc_recovery.specs.Images.{HoldsOn, StandsAs, StandsFor, StandsUnder}
use Rattle.reenc_recovery.specs.Keys.{key_by, key_for}
use Rattle.reenc_recovery.specs.Placings.{PlacesVolume}
use Rattle.reenc_recovery.specs.Promises.{ContentsStay, ContentsStayFor}
use Rattle.reenc_recovery.proofs.FrameLemmas.{stands_still}
use Rattle.reenc_recovery.proofs.ImageLemmas.{same_stored}
use Rattle.reenc_recovery.proofs.PlacingLemmas.{OnePlacement}

-- ---- the key of a passphrase
and_then_same : (f g : Digest → Option (List ℕ)) → ((d : Digest) → f d ≡ g d)
    → (o : Option Digest) → option_and_then f o ≡ option_and_then g o
and_then_same f g same None = refl
and_then_same f g same (Some d) = same d

key_by_stays : (m : Parts) (first now pass : List ℕ)
    → ((d : Digest) → key_of m d first pass ≡ key_of m d now pass)
    → (e : Option Encryption) (n : Option ℕ) → key_by m first pass e n ≡ key_by m now pass e n
key_by_stays m first now pass same None n = refl
key_by_stays m first now pass same (Some e) None = refl
key_by_stays m first now pass same (Some e) (Some n) =
    and_then_same (λ d. key_of m d first pass) (λ d. key_of m d now pass) same
    (value_at m.digests n)

-- under other words for the same metadata and the same segment
key_stays : (k m n : Parts) (first now pass key : List ℕ) (e f : Extent)
    → ((d : Digest) → key_of k d first pass ≡ key_of k d now pass) → m ≡ k → n ≡ k → f ≡ e
    → key_for m first pass e ≡ Some key → key_for n now pass f ≡ Some key
key_stays k m n first now pass key e f same one other segment is =
    ap (λ (x : Extent). key_for n now pass x) segment
    ∙ ap (λ (x : Parts). key_for x now pass e) other
    ∙ sym (key_by_stays k first now pass same e.encryption e.digest)
    ∙ ap (λ (x : Parts). key_for x first pass e) (sym one) ∙ is

-- ---- the one way
under_stays : OnePlacement → (sizes : Sizes) (header : Stored) (p : Placement) (first now : List ℕ)
    → IsPlacementOf header.valid.meta sizes p → IsRightFor header.valid.meta sizes p
    → HoldsOn sizes header first now → (old new : List ℕ) (content : List (List ℕ))
    → StandsUnder sizes old new first content → StandsUnder sizes old new now content
under_stays placed sizes header p first now is right holds old new content stands =
    stands_still placed sizes old new first now content header holds.stored p holds.was is right
    holds.held holds.same holds.behind stands

for_stays : OnePlacement → KeysAreBehind → (sizes : Sizes) (header : Stored) (p : Placement)
    (first now : List ℕ) → IsPlacementOf header.valid.meta sizes p
    → IsRightFor header.valid.meta sizes p → IsSound header.valid.meta sizes
    → HoldsOn sizes header first now → (pass : List ℕ) (content : List (List ℕ))
    → StandsFor sizes pass first content → StandsFor sizes pass now content
for_stays placed keys sizes header p first now is right sound holds pass content stands =
    let under = stands.stands in
    let later = under_stays placed sizes header p first now is right holds stands.old stands.new
    content under in
    let one : under.stored.valid.meta ≡ header.valid.meta =
    ap (λ (s : Stored). s.valid.meta)
    (same_stored (stored_in sizes (front_of sizes first)) under.stored header under.header
    holds.was) in
    let other : later.stored.valid.meta ≡ header.valid.meta =
    ap (λ (s : Stored). s.valid.meta)
    (same_stored (stored_in sizes (front_of sizes now)) later.stored holds.stored later.header
    holds.held)
    ∙ ap (λ (c : Checked). c.meta) holds.same in
    let are = placed later.stored.valid.meta sizes later.placement under.placement later.placed
    (subst (λ (m : Parts). PlacesVolume m sizes under.placement) (one ∙ sym other) under.placed) in
    let same = λ (d : Digest). keys header.valid.meta sizes d first now pass sound
    (sym holds.behind) in
    record {
      old = stands.old;
      new = stands.new;
      stands = later;
      old_is = key_stays header.valid.meta under.stored.valid.meta later.stored.valid.meta first now
          pass stands.old under.placement.old later.placement.old same one other are.old
          stands.old_is;
      new_is = key_stays header.valid.meta under.stored.valid.meta later.stored.valid.meta first now
          pass stands.new under.placement.new later.placement.new same one other are.new
          stands.new_is;
    }

-- ---- and the other way round
back : (sizes : Sizes) (header : Stored) (first now : List ℕ)
    → (holds : HoldsOn sizes header first now) → HoldsOn sizes holds.stored now first
back sizes header first now holds = record {
  was = holds.held;
  stored = header;
  held = holds.was;
  same = sym holds.same;
  behind = subst (λ (m : Parts). drop (areas_begin m.config) first
      ≡ drop (areas_begin m.config) now)
      (ap (λ (c : Checked). c.meta) (sym holds.same)) (sym holds.behind);
}

module _ (placed : OnePlacement) (sizes : Sizes) (header : Stored) (p : Placement)
    (first now : List ℕ) (is : IsPlacementOf header.valid.meta sizes p)
    (right : IsRightFor header.valid.meta sizes p) (holds : HoldsOn sizes header first now) where
  meta : header.valid.meta ≡ holds.stored.valid.meta
  meta = ap (λ (c : Checked). c.meta) (sym holds.same)

  is_now : IsPlacementOf holds.stored.valid.meta sizes p
  is_now = subst (λ (m : Parts). IsPlacementOf m sizes p) meta is

  right_now : IsRightFor holds.stored.valid.meta sizes p
  right_now = subst (λ (m : Parts). IsRightFor m sizes p) meta right

  pub under_both : (old new : List ℕ) (content : List (List ℕ))
      → StandsUnder sizes old new first content ↔ StandsUnder sizes old new now content
  under_both old new content = (
    under_stays placed sizes header p first now is right holds old new content,
    under_stays placed sizes holds.stored p now first is_now right_now
        (back sizes header first now holds) old new content,
  )

  pub for_both : KeysAreBehind → IsSound header.valid.meta sizes → (pass : List ℕ)
      (content : List (List ℕ))
      → StandsFor sizes pass first content ↔ StandsFor sizes pass now content
  for_both keys sound pass content = (
    for_stays placed keys sizes header p first now is right sound holds pass content,
    for_stays placed keys sizes holds.stored p now first is_now right_now
        (subst (λ (m : Parts). IsSound m sizes) meta sound) (back sizes header first now holds) pass
        content,
  )

-- ---- both
pub stands_as : ContentsStay → ContentsStayFor → (sizes : Sizes) (header : Stored) (p : Placement)
    (first now : List ℕ) → IsPlacementOf header.valid.meta sizes p
    → IsRightFor header.valid.meta sizes p → IsSound header.valid.meta sizes
    → HoldsOn sizes header first now → StandsAs sizes header first now
stands_as stay stay_for sizes header p first now is right sound holds = record {
  holds = holds;
  keeps = record {
    keys = stay sizes header p first now is right holds;
    passphrase = stay_for sizes header p first now is right sound holds;
  };
}

-- nothing was written
unfoldable pub holds_unwritten : (sizes : Sizes) (header : Stored) (first : List ℕ)
    → stored_in sizes (front_of sizes first) ≡ Ok header → HoldsOn sizes header first first
holds_unwritten sizes header first held = record {
  was = held;
  stored = header;
  held = held;
  same = refl;
  behind = refl;
}

pub stands_unwritten : (sizes : Sizes) (header : Stored) (first : List ℕ)
    → stored_in sizes (front_of sizes first) ≡ Ok header → StandsAs sizes header first first
stands_unwritten sizes header first held = record {
  holds = holds_unwritten sizes header first held;
  keeps = record {
    keys = λ old new content. (λ stands. stands, λ stands. stands);
    passphrase = λ pass content. (λ stands. stands, λ stands. stands);
  };
}
