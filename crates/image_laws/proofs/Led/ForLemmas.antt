-- What an image stands for under a passphrase, by the header with the zone open or by the next one.
use Rattle.std.proofs.Common.{◌≡◌, inl, inr, ℕ, ◌<◌, List, Some, sym, ◌∙◌, ap, subst}
use Rattle.std.specs.List.{All}
use Rattle.base_terms.specs.declared.disk_sizes.Sizes.{Sizes}
use Rattle.luks_meta.specs.declared.meta.Parts.{Parts}
use Rattle.luks_rules.specs.Shapes.{progress_of}
use Rattle.luks_rules.specs.States.{IsSound}
use Rattle.luks_rules.specs.declared.extents.Extent.{Extent}
use Rattle.luks_rules.specs.declared.shape.Progress.{Progress}
use Rattle.luks_rules.specs.declared.valid.Checked.{Checked}
use Rattle.luks_store.specs.Devices.{front_of}
use Rattle.luks_store.specs.declared.loaded.Stored.{Stored}
use Rattle.image_laws.specs.Opened.Images.{OpenStandsFor, OpenStandsUnder}
use Rattle.reenc_meta.specs.Layouts.{progress_at}
use Rattle.reenc_meta.specs.Moves.{IsGoneTo, moved}
use Rattle.reenc_recovery.specs.Keys.{key_for}
use Rattle.image_laws.proofs.Started.AgreeLemmas.{IsReadAlike}
use Rattle.image_laws.proofs.Started.HeaderLemmas.{known-of}
use Rattle.image_laws.specs.Started.Gaps.{key_areas}
use Rattle.image_laws.proofs.Led.ContentLemmas.{ClosesBy, OpensBy}
use Rattle.image_laws.proofs.Led.PassLemmas.{key-here, new-key-next, old-key-next}
use Rattle.image_laws.proofs.Led.TableLemmas.{ImageBy}
use Rattle.image_laws.specs.Led.Turned.{ClosedForBy, OpenForBy, StandsForBy}

-- a key by what was read, and by the header that says the same
pub key-as : (bytes pass key : List ℕ) (m n : Parts) (e f : Extent) → m ≡ n → e ≡ f
    → key_for m bytes pass e ≡ Some key → key_for n bytes pass f ≡ Some key
key-as bytes pass key m n e f meta segment is =
    subst (λ (x : Extent). key_for n bytes pass x ≡ Some key) segment
    (subst (λ (x : Parts). key_for x bytes pass e ≡ Some key) meta is)

module _ (sizes : Sizes) (header next : Stored) (c : Progress)
    (old new bytes now pass : List ℕ) (content : List (List ℕ)) (some : 0 < sizes.atom)
    (sound : IsSound header.valid.meta sizes) (known : progress_of header.valid.meta sizes ≡ Some c)
    (gone : IsGoneTo header.valid.meta sizes c
    (moved c.conversion.direction c.plan.zone c.plan) next.valid.meta)
    (read : All (IsReadAlike bytes now) (key_areas header.valid.meta.keyslots))
    (old_is : key_for header.valid.meta bytes pass c.old ≡ Some old)
    (new_is : key_for header.valid.meta bytes pass c.new ≡ Some new) where
  abbrev later : Progress
  later = progress_at (moved c.conversion.direction c.plan.zone c.plan) c

  pub closed-for : ClosesBy sizes next later old new now content
      → ClosedForBy sizes next pass now content
  closed-for is =
      let meta : next.valid.meta ≡ is.stands.stored.valid.meta =
      ap (λ (v : Checked). v.meta) (sym is.valid) in
      let sound_next : IsSound next.valid.meta sizes =
      subst (λ (v : Checked). IsSound v.meta sizes) is.valid
      (known-of sizes (front_of sizes now) is.stands.stored some is.stands.header).sound in
      record {
        stands = record {
          old = old;
          new = new;
          stands = is.stands;
          old_is = key-as now pass old next.valid.meta is.stands.stored.valid.meta later.old
              is.stands.placement.old meta (sym is.old_is)
              (old-key-next header.valid.meta next.valid.meta sizes c
              (moved c.conversion.direction c.plan.zone c.plan) sound known gone sound_next bytes now
              pass read old old_is);
          new_is = key-as now pass new next.valid.meta is.stands.stored.valid.meta later.new
              is.stands.placement.new meta (sym is.new_is)
              (new-key-next header.valid.meta next.valid.meta sizes c
              (moved c.conversion.direction c.plan.zone c.plan) sound known gone sound_next bytes now
              pass read new new_is);
        };
        valid = is.valid;
      }

  open-for : OpensBy sizes header c old new now content → OpenForBy sizes header pass now content
  open-for is =
      let meta : header.valid.meta ≡ is.stands.stored.valid.meta =
      ap (λ (v : Checked). v.meta) (sym is.valid) in
      record {
        stands = record {
          old = old;
          new = new;
          stands = is.stands;
          old_is = key-as now pass old header.valid.meta is.stands.stored.valid.meta c.old
              is.stands.now.old meta (ap (λ (p : Progress). p.old) (sym is.at))
              (key-here header.valid.meta bytes now pass read c.old ∙ old_is);
          new_is = key-as now pass new header.valid.meta is.stands.stored.valid.meta c.new
              is.stands.now.new meta (ap (λ (p : Progress). p.new) (sym is.at))
              (key-here header.valid.meta bytes now pass read c.new ∙ new_is);
        };
        valid = is.valid;
      }

  pub image-for : ImageBy sizes header next c old new now content
      → StandsForBy sizes header next pass now content
  image-for (inl is) = inl (open-for is)
  image-for (inr is) = inr (closed-for is)

-- ---- what the bytes stand for under the passphrase, under these keys
pub for-keys : (sizes : Sizes) (pass bytes old new : List ℕ) (content : List (List ℕ))
    (Goal : Type 0)
    → ((under : OpenStandsUnder sizes old new bytes content)
    → key_for under.stored.valid.meta bytes pass under.now.old ≡ Some old
    → key_for under.stored.valid.meta bytes pass under.now.new ≡ Some new → Goal)
    → (stands : OpenStandsFor sizes pass bytes content) → stands.old ≡ old → stands.new ≡ new
    → Goal
for-keys sizes pass bytes old new content Goal main stands old_same new_same =
    subst (λ (x : List ℕ). (under : OpenStandsUnder sizes x stands.new bytes content)
    → key_for under.stored.valid.meta bytes pass under.now.old ≡ Some x
    → key_for under.stored.valid.meta bytes pass under.now.new ≡ Some stands.new → Goal)
    (sym old_same)
    (subst (λ (y : List ℕ). (under : OpenStandsUnder sizes old y bytes content)
    → key_for under.stored.valid.meta bytes pass under.now.old ≡ Some old
    → key_for under.stored.valid.meta bytes pass under.now.new ≡ Some y → Goal)
    (sym new_same) main) stands.stands stands.old_is stands.new_is
