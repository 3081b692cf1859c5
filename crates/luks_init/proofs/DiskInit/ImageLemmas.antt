-- What the images of a new keyslot's writing stand for.
use Rattle.std.proofs.Common.{◌≡◌, ◌∙◌, inl, inr, ℕ, ◌+◌, ◌*◌, ◌⊎◌, List, [], length, take, drop}
use Rattle.std.proofs.Common.{Ok, sym, ap, subst}
use Rattle.base_terms.specs.declared.disk_sizes.Sizes.{Sizes}
use Rattle.luks_init.proofs.DiskInit.AgreeLemmas.{agree_but}
use Rattle.luks_init.proofs.DiskInit.BegunLemmas.{area_at, area_within, free, rekeyed, same_json}
use Rattle.luks_init.proofs.DiskInit.BegunLemmas.{started_so, volume, wished}
use Rattle.luks_init.specs.DiskInit.Makings.{IsMade, draw_of}
use Rattle.luks_init.specs.DiskInit.Tables.{HasBegun, StandsOn}
use Rattle.luks_bin.specs.Copies.{text_of}
use Rattle.luks_init.specs.Begins.{IsBegun}
use Rattle.luks_init.specs.Laws.{MayStartThere}
use Rattle.luks_init.specs.Wishes.{IsWish}
use Rattle.luks_init.specs.declared.wish.Wish.{Wish}
use Rattle.luks_json.specs.Metas.{meta_from}
use Rattle.luks_meta.specs.declared.meta.Parts.{Parts}
use Rattle.luks_slots.specs.KeyMaking.Drawings.{Draw}
use Rattle.luks_rules.specs.Areas.{areas_begin}
use Rattle.luks_rules.specs.States.{IsSound}
use Rattle.luks_rules.specs.declared.valid.Checked.{Checked}
use Rattle.luks_slots.specs.NewSlots.{area_len, StandsIn}
use Rattle.luks_store.proofs.StoredLemmas.{is-valid}
use Rattle.luks_store.specs.Commits.{IsNextStored}
use Rattle.luks_store.specs.declared.copies.Copies.{Copies}
use Rattle.luks_store.specs.declared.loaded.Stored.{Stored}
use Rattle.reenc_meta.specs.Placements.{all_atoms}
use Rattle.reenc_recovery.specs.Images.{KeepsContents, StandsAs, StandsFor}
use Rattle.sector_disk.specs.Geometry.{IsDisk}
use Rattle.luks_store.specs.SlotCommits.Agreements.{AgreesBut}
use Rattle.luks_store.specs.SlotCommits.Images.{AreaStands, IsBefore, IsBehind, KeepsRest}
use Rattle.luks_store.specs.declared.slot_commit.writing.SlotCommit.{SlotCommit}
use Rattle.image_laws.specs.Started.Gaps.{AgreeBut, GapsSpareKeys, RunsKeepContents}
use Rattle.image_laws.specs.Started.Starting.{HoldsStarted, StandsStarted, StartedVolumesStand}

-- the metadata of the header that is loaded behind a commit
pub next_meta : (header : Stored) (w : Wish) (pass seed : List ℕ) (slot : SlotCommit)
    (next : Stored) → (made : IsMade header w pass seed slot) → IsNextStored slot.commit next
    → next.valid.meta ≡ made.begun.meta
next_meta header w pass seed slot next made is =
    let read = (is-valid next.valid.sizes next.copies next is.stored.held).read in
    let e : Ok next.valid.meta ≡ Ok made.begun.meta =
    sym read
    ∙ ap (λ (c : Copies). meta_from c.used.header.hdr_size (text_of c.used.bytes)) is.copies
    ∙ made.is.next.meta in
    cc

module _ (gaps : RunsKeepContents) (spares : GapsSpareKeys) (started : StartedVolumesStand)
    (may : MayStartThere)
    (sizes : Sizes) (header next : Stored) (w : Wish) (pass seed : List ℕ) (slot : SlotCommit)
    (first now : List ℕ) (disk : IsDisk sizes.atom (all_atoms sizes)) (wish : IsWish w sizes.atom)
    (stands : StandsAs sizes header first now) (sound : IsSound header.valid.meta sizes)
    (sizes_are : header.valid.sizes ≡ sizes) (made : IsMade header w pass seed slot)
    (next_is : IsNextStored slot.commit next) where
  abbrev before : Stored
  before = stands.holds.stored

  abbrev m : Parts
  m = stands.holds.stored.valid.meta

  abbrev d : Draw
  d = draw_of w seed

  pub begins : IsBegun m sizes w pass d made.begun
  begins =
      subst (λ (z : Sizes). IsBegun m z w pass d made.begun)
      (ap (λ (c : Checked). c.sizes) stands.holds.same ∙ sizes_are)
      (subst (λ (c : Checked). IsBegun c.meta c.sizes w pass d made.begun)
      (sym stands.holds.same) made.begins)

  sound_now : IsSound m sizes
  sound_now = subst (λ (c : Checked). IsSound c.meta sizes) (sym stands.holds.same) sound

  abbrev place : ℕ
  place = made.begun.places.key

  rest_at : (image : List ℕ) → KeepsRest before slot now image
      → AgreesBut (areas_begin m.config) place (length made.begun.slot.area) now image
  rest_at image rest =
      subst (λ (n : ℕ). AgreesBut (areas_begin m.config) place n now image)
      (ap (λ (bytes : List ℕ). length bytes) made.is.area)
      (subst (λ (n : ℕ). AgreesBut (areas_begin m.config) n (length slot.area) now image)
      made.is.offset rest)

  agree_at : (image : List ℕ) → KeepsRest before slot now image
      → AgreeBut (areas_begin m.config) place (area_len (length d.key)) now image
  agree_at image rest =
      agree_but (areas_begin m.config) place (length made.begun.slot.area)
      (area_len (length d.key)) now image
      (free m sizes w pass d made.begun begins made.drawn).behind
      (area_within m sizes w pass d made.begun begins made.drawn) (rest_at image rest)

  -- the metadata from before
  by_before : (image : List ℕ) → IsBefore sizes before slot now image
      → KeepsContents sizes now image
  by_before image is =
      gaps sizes before place (area_len (length d.key)) now image disk.known
      (spares m [] sizes.atom place (area_len (length d.key))
      (free m sizes w pass d made.begun begins made.drawn))
      (record {
        was = stands.holds.held;
        stored = is.metadata.stored;
        held = is.metadata.held;
        same = is.metadata.same;
        agree = agree_at image is.rest;
      })

  -- the next ones
  slot_at : (image : List ℕ) → AreaStands slot image → StandsIn image made.begun.slot
  slot_at image area =
      subst (λ (n : ℕ). take (length made.begun.slot.area) (drop n image) ≡ made.begun.slot.area)
      (sym (area_at m sizes w pass d made.begun begins))
      (subst (λ (bytes : List ℕ). take (length bytes) (drop place image) ≡ bytes) made.is.area
      (subst (λ (n : ℕ). take (length slot.area) (drop n image) ≡ slot.area) made.is.offset area))

  holds_started : (image : List ℕ) → IsBehind sizes before next slot now image
      → HoldsStarted sizes before (volume m sizes w pass d made.begun begins)
      (wished m sizes w pass d made.begun begins) d.key place made.begun.slot now image
  holds_started image is =
      let meta : is.metadata.stored.valid.meta ≡ made.begun.meta =
      ap (λ (c : Checked). c.meta) is.metadata.same
      ∙ next_meta header w pass seed slot next made next_is in
      let begin : areas_begin m.config ≡ areas_begin is.metadata.stored.valid.meta.config =
      ap (λ n. 2 * (n + 4096)) (sym (same_json m sizes w pass d made.begun begins))
      ∙ ap (λ (k : Parts). areas_begin k.config) (sym meta) in
      record {
        was = stands.holds.held;
        stored = is.metadata.stored;
        held = is.metadata.held;
        started = started_so m sizes w pass d made.begun begins is.metadata.stored.valid.meta meta;
        slot_stands = slot_at image is.area;
        agree = subst (λ (n : ℕ). AgreeBut n place (area_len (length d.key)) now image) begin
            (agree_at image is.rest);
      }

  by_behind : (image : List ℕ) → IsBehind sizes before next slot now image
      → StandsStarted sizes pass d.key now image
  by_behind image is =
      started sizes before (volume m sizes w pass d made.begun begins)
      (wished m sizes w pass d made.begun begins) pass d.key [] place made.begun.slot now image disk
      (rekeyed m sizes w pass d made.begun begins made.drawn may sound_now disk.known wish)
      (holds_started image is)

  -- either
  pub stands_on : (image : List ℕ)
      → IsBefore sizes before slot now image ⊎ IsBehind sizes before next slot now image
      → StandsOn sizes pass first image
  stands_on image either content stood =
      let here : StandsFor sizes pass now content = (stands.keeps.passphrase pass content).0 stood in
      elim either as (λ _. StandsFor sizes pass image content) [
        | inl is ↦ ((by_before image is).passphrase pass content).0 here
        | inr is ↦ ((by_behind image is).passphrase content here).stands
      ]

  pub has_begun : (image : List ℕ) → IsBehind sizes before next slot now image
      → HasBegun sizes pass d.key first image
  has_begun image is =
      let was = by_behind image is in
      record {
        busy = was.busy;
        keys = λ old new content under.
            was.keys old new content ((stands.keeps.keys old new content).0 under);
        stands = λ content stood.
            (let here = (stands.keeps.passphrase pass content).0 stood in
            (here.new, was.passphrase content here));
      }
