-- While a volume is opened that is being converted what it stood for under a passphrase it stands for under
-- it; and its keyslots give the same keys behind that.
use Rattle.std.proofs.Common.{◌≡◌, ◌∙◌, ◌<◌, inl, inr, ℕ, true, false, List, Option, None, Some, Ok}
use Rattle.std.proofs.Common.{Result, ap, drop, refl, subst, sym}
use Rattle.std.specs.Prelude.{option_and_then}
use Rattle.base_terms.specs.Blocks.{joined}
use Rattle.base_terms.specs.declared.failed.Failed.{Failed}
use Rattle.resume_disk.specs.OpenedMidway.Openings.{IsFound}
use Rattle.resume_disk.specs.OpenedMidway.Runs.{MendsZone, last_of}
use Rattle.base_terms.specs.declared.disk_sizes.Sizes.{Sizes}
use Rattle.sector_disk.specs.JoinedDisks.Joined.{Joint, joined_disk}
use Rattle.luks_meta.specs.declared.digest.Digest.{Digest}
use Rattle.luks_meta.specs.declared.meta.Parts.{Parts}
use Rattle.luks_meta.specs.declared.segment.Encryption.{Encryption}
use Rattle.luks_rules.specs.Areas.{areas_begin}
use Rattle.luks_rules.specs.References.{value_at}
use Rattle.luks_rules.specs.Shapes.{progress_of}
use Rattle.luks_rules.specs.States.{IsSound}
use Rattle.luks_rules.specs.declared.extents.Extent.{Extent}
use Rattle.luks_rules.specs.declared.shape.Progress.{Progress}
use Rattle.luks_rules.specs.declared.valid.Checked.{Checked}
use Rattle.luks_slots.specs.Laws.{KeysAreBehind}
use Rattle.luks_slots.specs.Unlocks.{key_of}
use Rattle.luks_store.specs.Devices.{front_of}
use Rattle.luks_store.specs.Loads.{stored_in}
use Rattle.luks_store.specs.declared.loaded.Stored.{Stored}
use Rattle.image_laws.specs.Opened.Images.{ImageStandsFor, ImageStandsUnder, OpenStandsFor}
use Rattle.image_laws.specs.Opened.Openings.{IsMendedImage}
use Rattle.image_laws.specs.Opened.Promises.{OneWay}
use Rattle.reenc_meta.specs.Layouts.{progress_at}
use Rattle.reenc_meta.specs.Moves.{IsGoneTo, moved}
use Rattle.reenc_recovery.proofs.PlacingLemmas.{is_idle}
use Rattle.reenc_recovery.specs.Calls.{RepairRun, SyncsAndReads}
use Rattle.reenc_recovery.specs.Images.{StandsFor}
use Rattle.reenc_recovery.specs.Keys.{key_by, key_for}
use Rattle.reenc_recovery.specs.Tables.{IsSpared}
use Rattle.reenc_recovery.specs.declared.keys.SideKeys.{SideKeys}
use Rattle.recovery_laws.proofs.Resumed.EndLemmas.{run-moved}
use Rattle.recovery_laws.proofs.Resumed.MendedSlots.{mended-reads}
use Rattle.recovery_laws.proofs.Resumed.OpeningLemmas.{OpeningLaws, from, image, is-found, kept, open-now}
use Rattle.recovery_laws.proofs.Resumed.OpeningLemmas.{some-zone}
use Rattle.recovery_laws.proofs.Resumed.TableLemmas.{Reads, tells-read}
use Rattle.recovery_laws.specs.Resumed.Keeping.{AreHandedIn, IsBy, TellsOpened}
use Rattle.recovery_laws.specs.Resumed.Openings.{OpensOn}
use Rattle.recovery_laws.specs.Resumed.Passphrases.{AreGiven}
use Rattle.recovery_laws.specs.Resumed.Repeating.{Tells}
use Rattle.sector_disk.specs.Cells.{Cell, content as bytes_in}
use Rattle.sector_disk.specs.Devices.{Device, failed_call, succeeded}
use Rattle.sector_disk.specs.Steps.{Told}
use Rattle.image_laws.proofs.Started.BlockLemmas.{progress-busy}
use Rattle.image_laws.proofs.Started.GapLemmas.{one-header}
use Rattle.image_laws.proofs.Started.HeaderLemmas.{known-of}
use Rattle.hotzone.proofs.ZoneEvents.GroundLemmas.{one-progress}
use Rattle.image_laws.proofs.Led.PassLemmas.{new-key-next, old-key-next}
use Rattle.image_laws.proofs.Led.SinceLemmas.{since-weaker}
use Rattle.image_laws.specs.Led.Holding.{TellsLawfully, TellsOn}
use Rattle.image_laws.specs.Led.Promises.{MendingsStandFor, StandsOnFor}
use Rattle.image_laws.specs.Led.Spared.{IsSparedTurn}
use Rattle.image_laws.specs.Led.Turned.{StandsForBy}

-- ---- tables
abbrev pub AtRepairFor : Sizes → Stored → List ℕ → List (List ℕ) → List Cell → Type 0
AtRepairFor sizes header pass content cells =
    (image : List (List ℕ)) → IsSpared sizes header cells image
    → ImageStandsFor sizes pass (joined image) content × IsBy sizes header (joined image)

abbrev pub AtMendingFor : Sizes → Stored → Stored → List ℕ → List (List ℕ) → List Cell → Type 0
AtMendingFor sizes header next pass content cells =
    (image : List (List ℕ)) → IsSparedTurn sizes header next cells image
    → StandsForBy sizes header next pass (joined image) content

-- ---- keys
one-key : {o : Option (List ℕ)} {a b : List ℕ} → o ≡ Some a → o ≡ Some b → a ≡ b
one-key {o} {a} {b} is also = (let e : Some a ≡ Some b = sym is ∙ also in cc)

and-then-same : (f g : Digest → Option (List ℕ)) → ((d : Digest) → f d ≡ g d)
    → (o : Option Digest) → option_and_then f o ≡ option_and_then g o
and-then-same f g same None = refl
and-then-same f g same (Some d) = same d

-- two images that are the same behind the copies give the same
key-behind : KeysAreBehind → (m : Parts) (sizes : Sizes) (one other pass : List ℕ)
    → IsSound m sizes → drop (areas_begin m.config) one ≡ drop (areas_begin m.config) other
    → (e : Extent) → key_for m one pass e ≡ key_for m other pass e
key-behind keys m sizes one other pass sound same e = go e.encryption e.digest
  where
    go : (c : Option Encryption) (n : Option ℕ) → key_by m one pass c n ≡ key_by m other pass c n
    go None n = refl
    go (Some c) None = refl
    go (Some c) (Some n) =
        and-then-same (λ d. key_of m d one pass) (λ d. key_of m d other pass)
        (λ d. keys m sizes d one other pass sound same) (value_at m.digests n)

-- By the header that bytes have, while a conversion is under way, its keyslots give these keys.
abbrev pub GivesBoth : Sizes → List ℕ → List ℕ → List ℕ → List ℕ → Type 0
GivesBoth sizes pass bytes old new = (stored : Stored)
    → stored_in sizes (front_of sizes bytes) ≡ Ok stored → (now : Progress)
    → progress_of stored.valid.meta sizes ≡ Some now
    → (key_for stored.valid.meta bytes pass now.old ≡ Some old)
    × (key_for stored.valid.meta bytes pass now.new ≡ Some new)

module _ (sizes : Sizes) (pass bytes : List ℕ) (content : List (List ℕ)) where
  pub closed-both : (s : StandsFor sizes pass bytes content) → GivesBoth sizes pass bytes s.old s.new
  closed-both s stored is now known =
      let same = one-header sizes bytes s.stands.stored stored s.stands.header is in
      let here = subst (λ (h : Stored). progress_of h.valid.meta sizes ≡ Some now) (sym same) known in
      let sides : (s.stands.placement.old ≡ now.old) × (s.stands.placement.new ≡ now.new) =
      elim s.stands.placed [
        | inl idle ↦ absurd (let e : false ≡ true =
            sym (is_idle s.stands.stored.valid.meta sizes s.stands.placement idle)
            ∙ progress-busy s.stands.stored.valid.meta sizes now here in cc)
        | inr (c, at, placed) ↦
            (let one = one-progress s.stands.stored.valid.meta sizes c now at here in (
              placed.old ∙ ap (λ (p : Progress). p.old) one,
              placed.new ∙ ap (λ (p : Progress). p.new) one,
            ))
      ] in (
        subst (λ (e : Extent). key_for stored.valid.meta bytes pass e ≡ Some s.old) sides.0
            (subst (λ (h : Stored).
            key_for h.valid.meta bytes pass s.stands.placement.old ≡ Some s.old) same s.old_is),
        subst (λ (e : Extent). key_for stored.valid.meta bytes pass e ≡ Some s.new) sides.1
            (subst (λ (h : Stored).
            key_for h.valid.meta bytes pass s.stands.placement.new ≡ Some s.new) same s.new_is),
      )

  open-both : (s : OpenStandsFor sizes pass bytes content)
      → GivesBoth sizes pass bytes s.old s.new
  open-both s stored is now known =
      let same = one-header sizes bytes s.stands.stored stored s.stands.header is in
      let here = subst (λ (h : Stored). progress_of h.valid.meta sizes ≡ Some now) (sym same) known in
      let one = one-progress s.stands.stored.valid.meta sizes s.stands.now now s.stands.known here in (
        subst (λ (p : Progress). key_for stored.valid.meta bytes pass p.old ≡ Some s.old) one
            (subst (λ (h : Stored).
            key_for h.valid.meta bytes pass s.stands.now.old ≡ Some s.old) same s.old_is),
        subst (λ (p : Progress). key_for stored.valid.meta bytes pass p.new ≡ Some s.new) one
            (subst (λ (h : Stored).
            key_for h.valid.meta bytes pass s.stands.now.new ≡ Some s.new) same s.new_is),
      )

  -- the keys under which they stand
  pub record HasKeys (handed : SideKeys) : Type 0 where
    pub old : List ℕ
    pub new : List ℕ
    pub both : GivesBoth sizes pass bytes old new
    pub under : ImageStandsUnder sizes old new bytes content
    pub handed_in : AreHandedIn sizes handed bytes old new

  pub has-keys : (handed : SideKeys) → AreGiven sizes pass handed bytes
      → ImageStandsFor sizes pass bytes content → HasKeys handed
  has-keys handed given stands = go stands
    where
      as-given : (old new : List ℕ) → GivesBoth sizes pass bytes old new
          → AreHandedIn sizes handed bytes old new
      as-given old new both stored is now known =
          let one = both stored is now known in
          let other = given stored is now known in
          (one-key one.0 other.0, one-key one.1 other.1)

      go : ImageStandsFor sizes pass bytes content → HasKeys handed
      go (inl s) = record {
        old = s.old;
        new = s.new;
        both = closed-both s;
        under = inl s.stands;
        handed_in = as-given s.old s.new (closed-both s);
      }
      go (inr s) = record {
        old = s.old;
        new = s.new;
        both = open-both s;
        under = inr s.stands;
        handed_in = as-given s.old s.new (open-both s);
      }

-- ---- an opening
-- metadata with the boundary moved over the open zone
abbrev GoesOver : Parts → Parts → Sizes → Progress → Type 0
GoesOver m next sizes c =
    IsGoneTo m sizes c (moved c.conversion.direction c.plan.zone c.plan) next

pub record ForLaws {C : Type 0} (sector : C → ℕ) (sealed opened : C → ℕ → List ℕ → List ℕ)
    : Type 0 where
  pub opening : OpeningLaws sector sealed opened
  pub mending : MendingsStandFor sector sealed opened
  pub behind : KeysAreBehind
  pub way : OneWay

module _ {C : Type 0} {sector : C → ℕ} {sealed opened : C → ℕ → List ℕ → List ℕ}
    (laws : ForLaws sector sealed opened) (sizes : Sizes) (handed : SideKeys) (old : Joint)
    (pass first : List ℕ) (content : List (List ℕ)) (tells : Tells sizes old first)
    (given : AreGiven sizes pass handed first) (stands : ImageStandsFor sizes pass first content)
  where
    pub keys : HasKeys sizes pass first content handed
    keys = has-keys sizes pass first content handed given stands

    pub opens : OpensOn sizes handed old first keys.old keys.new content
    opens = record {
      has = tells.has;
      shows = tells.shows;
      values = tells.values;
      long = tells.long;
      handed_in = keys.handed_in;
      stands = keys.under;
    }

    -- what a table keeps of the bytes at the start stands for the content
    pub reads-for : (header : Stored) → stored_in sizes (front_of sizes first) ≡ Ok header
        → Reads sizes (AtRepairFor sizes header pass content) (joined_disk old)
    reads-for header held before was cells still image spared =
        let same : bytes_in before.now ≡ first =
        (let e : Some (bytes_in before.now) ≡ Some first =
        sym (tells.shows.agrees before was) ∙ tells.values in cc) in
        let on = still header
        (subst (λ bytes. stored_in sizes (front_of sizes bytes) ≡ Ok header) (sym same) held) image
        spared in (
          (on.keeps.passphrase pass content).0
              (subst (λ bytes. ImageStandsFor sizes pass bytes content) (sym same) stands),
          λ other is. ap (λ (s : Stored). s.valid)
              (one-header sizes (joined image) other on.holds.stored is on.holds.held) ∙ on.holds.same,
        )

    pub read-for : (header : Stored) → stored_in sizes (front_of sizes first) ≡ Ok header
        → (new : Joint) → SyncsAndReads old new
        → TellsOpened (AtRepairFor sizes header pass content) (joined_disk old) (joined_disk new)
    read-for header held new run =
        tells-read sizes (AtRepairFor sizes header pass content) (joined_disk old) (joined_disk new)
        (reads-for header held) (laws.opening.reads sizes old new tells.shows.known run)

    -- ---- a header was found, under whose keys the volume is led on
    module _ (found : IsFound sector sealed opened sizes handed old) where
      abbrev now : Progress
      now = found.passed.conversion.now

      held : stored_in sizes (front_of sizes first) ≡ Ok found.header
      held = found.held first tells.values

      first-keys : (key_for found.header.valid.meta first pass now.old ≡ Some keys.old)
          × (key_for found.header.valid.meta first pass now.new ≡ Some keys.new)
      first-keys = keys.both found.header held now found.passed.conversion.known

      pub failed-for : (new : Device) → TellsLawfully new → (read : Joint) → SyncsAndReads old read
          → RepairRun found.repair (joined_disk read) new failed_call
          → TellsOpened (AtRepairFor sizes found.header pass content) (joined_disk old) new
      failed-for new lawful read first_run run =
          tells-read sizes (AtRepairFor sizes found.header pass content) (joined_disk old) new
          (reads-for found.header held)
          (laws.opening.keeps sizes found.header found.repair old new failed_call tells.shows
          (is-found laws.opening sizes handed old first keys.old keys.new content opens found)
          (record { read = read; first = first_run; run = run }) lawful.sized)

      -- ---- behind the repair
      module _ (read : Joint) (first_run : SyncsAndReads old read) (mended : Device)
          (repairs : RepairRun found.repair (joined_disk read) mended succeeded)
          (lawful : TellsLawfully mended) where
        abbrev held-now : IsMendedImage sizes found.header first mended
        held-now =
            image laws.opening sizes handed old first keys.old keys.new content opens found read
            first_run mended repairs lawful

        pub mended-for : TellsOpened (AtRepairFor sizes found.header pass content) (joined_disk old)
            mended
        mended-for =
            tells-read sizes (AtRepairFor sizes found.header pass content) (joined_disk old) mended
            (reads-for found.header held)
            (kept laws.opening sizes handed old first keys.old keys.new content opens found read
            first_run mended repairs lawful)

        key-now : (e : Extent) → key_for found.header.valid.meta held-now.now pass e
            ≡ key_for found.header.valid.meta first pass e
        key-now e =
            key-behind laws.behind found.header.valid.meta sizes held-now.now first pass
            found.passed.sound held-now.holds.behind e

        -- the disk's keyslots give the same then
        pub now-keys : (key_for found.header.valid.meta held-now.now pass now.old ≡ Some keys.old)
            × (key_for found.header.valid.meta held-now.now pass now.new ≡ Some keys.new)
        now-keys = (key-now now.old ∙ first-keys.0, key-now now.new ∙ first-keys.1)

        pub now-bytes : mended.values ≡ Some held-now.now
        now-bytes = held-now.values

        -- ---- a zone is open
        module _ (result : Result (Unit {0}) Failed) (last : Device)
            (zone : MendsZone sector sealed opened found.header found.keys mended last result) where
          some : 0 < now.plan.zone
          some =
              some-zone laws.opening sizes handed old first keys.old keys.new content opens found read
              first_run mended repairs lawful result last zone

          record OpenNow : Type 0 where
            stood : OpenStandsFor sizes pass held-now.now content
            old_is : stood.old ≡ keys.old
            new_is : stood.new ≡ keys.new

          open-keys : (stood : OpenStandsFor sizes pass held-now.now content) → OpenNow
          open-keys stood =
              let by = open-both sizes pass held-now.now content stood held-now.holds.stored
              held-now.holds.held now
              (subst (λ (v : Checked). progress_of v.meta sizes ≡ Some now) (sym held-now.holds.same)
              found.passed.conversion.known) in
              let meta : held-now.holds.stored.valid.meta ≡ found.header.valid.meta =
              ap (λ (v : Checked). v.meta) held-now.holds.same in
              record {
                stood = stood;
                old_is = one-key
                    (subst (λ (m : Parts). key_for m held-now.now pass now.old ≡ Some stood.old) meta
                    by.0) now-keys.0;
                new_is = one-key
                    (subst (λ (m : Parts). key_for m held-now.now pass now.new ≡ Some stood.new) meta
                    by.1) now-keys.1;
              }

          open-for : OpenNow
          open-for =
              elim ((held-now.keeps.passphrase pass content).0 stands) as (λ _. OpenNow) [
                | inl closed ↦ absurd (laws.way sizes closed.old closed.new keys.old keys.new
                    held-now.now content content closed.stands
                    (open-now laws.opening sizes handed old first keys.old keys.new content opens found
                    read first_run mended repairs lawful some))
                | inr stood ↦ open-keys stood
              ]

          pub led-for : TellsOn (AtMendingFor sizes found.header zone.after.moved.loaded pass content)
              mended last
          led-for =
              let told : TellsOn (StandsOnFor sizes found.header zone.before.moved.loaded keys.old
              keys.new held-now.now) mended last =
              (laws.mending sizes found.header keys.old keys.new held-now.now zone.before zone.after mended
              last (last_of result)
              (from laws.opening sizes handed old first keys.old keys.new content opens found read
              first_run mended repairs lawful result last zone) zone.run).0 in
              subst (λ (next : Stored). TellsOn (AtMendingFor sizes found.header next pass content)
              mended last)
              (sym (run-moved sealed opened zone.before mended zone.after last (last_of result)
              zone.run)) (λ later is.
              let t = told later is in (
                t.0,
                t.1,
                since-weaker
                    (StandsOnFor sizes found.header zone.before.moved.loaded keys.old keys.new
                    held-now.now)
                    (AtMendingFor sizes found.header zone.before.moved.loaded pass content)
                    (λ cells stand image spared. stand image spared pass content open-for.stood
                    open-for.old_is open-for.new_is) t.0 later t.2,
              ))

        -- the keyslots give the same by the header with the boundary moved
        module _ (last : Device)
            (zone : MendsZone sector sealed opened found.header found.keys mended last succeeded)
            (told : Told) (told_is : last.told ≡ Some told) (bytes : List ℕ)
            (values : last.values ≡ Some bytes) (stored : Stored)
            (stored_is : stored_in sizes (front_of sizes bytes) ≡ Ok stored)
            (same : stored.valid ≡ zone.after.moved.loaded.valid) (p : Progress)
            (known : progress_of zone.after.moved.loaded.valid.meta sizes ≡ Some p) where
          pub led-keys : (key_for zone.after.moved.loaded.valid.meta bytes pass p.old ≡ Some keys.old)
              × (key_for zone.after.moved.loaded.valid.meta bytes pass p.new ≡ Some keys.new)
          led-keys =
              let reads = mended-reads laws.opening.steps laws.opening.areas sizes found.header keys.old
              keys.new held-now.now zone.before zone.after mended last
              (from laws.opening sizes handed old first keys.old keys.new content opens found read
              first_run mended repairs lawful succeeded last zone) zone.run told told_is in
              let here : reads.now ≡ bytes =
              (let e : Some reads.now ≡ Some bytes = sym reads.values ∙ values in cc) in
              let (c, c_known, gone) = zone.moves.moves in
              let next = zone.after.moved.loaded.valid.meta in
              let plan = moved c.conversion.direction c.plan.zone c.plan in
              let sized = found.passed.sizes_are in
              let own : progress_of found.header.valid.meta sizes ≡ Some c =
              subst (λ (z : Sizes). progress_of found.header.valid.meta z ≡ Some c) sized c_known in
              let at : now ≡ c =
              one-progress found.header.valid.meta sizes now c found.passed.conversion.known own in
              let sound_next : IsSound next sizes =
              subst (λ (v : Checked). IsSound v.meta sizes) same
              (known-of sizes (front_of sizes bytes) stored found.passed.sound.atom stored_is).sound in
              let goes = subst (λ (z : Sizes). GoesOver found.header.valid.meta next z c) sized gone in
              let later : progress_at plan c ≡ p =
              one-progress next sizes (progress_at plan c) p goes.progress known in
              let old_first = subst (λ (q : Progress).
              key_for found.header.valid.meta held-now.now pass q.old ≡ Some keys.old) at now-keys.0 in
              let new_first = subst (λ (q : Progress).
              key_for found.header.valid.meta held-now.now pass q.new ≡ Some keys.new) at now-keys.1 in (
                subst (λ (q : Progress). key_for next bytes pass q.old ≡ Some keys.old) later
                    (subst (λ all. key_for next all pass (progress_at plan c).old ≡ Some keys.old) here
                    (old-key-next found.header.valid.meta next sizes c plan found.passed.sound own goes
                    sound_next held-now.now reads.now pass reads.alike keys.old old_first)),
                subst (λ (q : Progress). key_for next bytes pass q.new ≡ Some keys.new) later
                    (subst (λ all. key_for next all pass (progress_at plan c).new ≡ Some keys.new) here
                    (new-key-next found.header.valid.meta next sizes c plan found.passed.sound own goes
                    sound_next held-now.now reads.now pass reads.alike keys.new new_first)),
              )
