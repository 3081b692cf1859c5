-- The keys that the keyslots gave to a passphrase are those under which a disk's bytes stand for what
-- they stand for under the passphrase.
use Rattle.std.proofs.Common.{◌≡◌, ◌∙◌, ◌+◌, ◌*◌, inl, inr, ℕ, true, false, List, Option, Some, Ok, ap, arith}
use Rattle.std.proofs.Common.{length, sym, subst}
use Rattle.base_terms.specs.declared.disk_sizes.Sizes.{Sizes}
use Rattle.header_report.proofs.ExamineLemmas.{whole_front}
use Rattle.header_report.specs.Examinations.{sizes_alone}
use Rattle.sector_disk.specs.JoinedDisks.Joined.{joined_disk}
use Rattle.luks_meta.specs.declared.meta.Parts.{Parts}
use Rattle.luks_rules.specs.Shapes.{progress_of}
use Rattle.luks_rules.specs.declared.extents.Extent.{Extent}
use Rattle.luks_rules.specs.declared.shape.Progress.{Progress}
use Rattle.luks_store.specs.Devices.{front_of}
use Rattle.luks_store.specs.Loads.{stored_in}
use Rattle.luks_store.specs.declared.loaded.Stored.{Stored}
use Rattle.image_laws.specs.Opened.Images.{ImageStandsFor, OpenStandsFor}
use Rattle.reenc_recovery.proofs.PlacingLemmas.{is_idle}
use Rattle.reenc_recovery.specs.Images.{StandsFor}
use Rattle.reenc_recovery.specs.Keys.{key_for, used_by}
use Rattle.resume_disk.specs.Keys.{AreKeysFound, IsSideKey}
use Rattle.reenc_recovery.specs.declared.keys.SideKeys.{SideKeys}
use Rattle.resume_disk.specs.Resuming.{AreUnderKeys, BeginsWith, IsOpenedMidway}
use Rattle.recovery_laws.specs.Resumed.Keeping.{AreHandedIn}
use Rattle.recovery_laws.specs.Resumed.Passphrases.{AreGiven}
use Rattle.sector_disk.specs.Devices.{Device}
use Rattle.recovery_laws.specs.Served.Clients.{StoodFor}
use Rattle.recovery_laws.specs.Served.Serving.{FoundKeysStand, PassphrasesGiveKeys}
use Rattle.image_laws.proofs.Started.BlockLemmas.{progress-busy}
use Rattle.image_laws.proofs.Started.GapLemmas.{one-header}
use Rattle.volume_machine.specs.States.{State}
use Rattle.volume_machine.specs.declared.keys.Keys.{Keys}
use Rattle.volume_opening.specs.Openings.{alone}
use Rattle.hotzone.proofs.ZoneEvents.GroundLemmas.{one-progress}

module _ (device : Device) (pass first : List ℕ) (keys : SideKeys) (read : Device)
    (under : AreUnderKeys device pass keys read) (begins : BeginsWith device read)
    (told : device.values ≡ Some first) where
  abbrev sizes : Sizes
  sizes = sizes_alone device

  abbrev meta : Parts
  meta = under.stored.valid.meta

  are : AreKeysFound meta sizes pass device.values keys
  are = subst (λ (s : Sizes). AreKeysFound meta s pass device.values keys) under.found.sizes
      under.are

  whole : length first ≡ device.atoms * device.size
  whole =
      let long = begins.long first told in
      let all = begins.has.all in
      let same : (joined_disk (alone read)).atoms ≡ device.atoms = omega (arith, all) in
      long ∙ ap (λ n. n * device.size) same

  held : stored_in sizes (front_of sizes first) ≡ Ok under.stored
  held = ap (stored_in sizes) (whole_front device first whole) ∙ under.found.held first told

  -- a key that the keyslots give is the one that was found
  one-key : (e : Extent) (side : Option (List ℕ)) (key : List ℕ)
      → IsSideKey meta pass device.values e side → key_for meta first pass e ≡ Some key
      → key ≡ used_by e.encryption side
  one-key e side key is known =
      (let both : Some key ≡ Some (used_by e.encryption side) = sym known ∙ is.told first told in cc)

  -- so keys that they give are those that were found for the sides
  handed : (old_key new_key : List ℕ) → key_for meta first pass are.now.old ≡ Some old_key
      → key_for meta first pass are.now.new ≡ Some new_key
      → AreHandedIn sizes keys first old_key new_key
  handed old_key new_key old_is new_is stored is now known =
      let same = one-header sizes first stored under.stored is held in
      let here = one-progress meta sizes are.now now are.known
      (subst (λ (s : Stored). progress_of s.valid.meta sizes ≡ Some now) same known) in (
        subst (λ (p : Progress). old_key ≡ used_by p.old.encryption keys.old) here
            (one-key are.now.old keys.old old_key are.old_is old_is),
        subst (λ (p : Progress). new_key ≡ used_by p.new.encryption keys.new) here
            (one-key are.now.new keys.new new_key are.new_is new_is),
      )

  -- and those that were found are the ones that they give
  given : AreGiven sizes pass keys first
  given stored is now known =
      let same = one-header sizes first stored under.stored is held in
      let here = one-progress meta sizes are.now now are.known
      (subst (λ (s : Stored). progress_of s.valid.meta sizes ≡ Some now) same known) in
      let by : (s : Stored) → under.stored ≡ s → (p : Progress) → are.now ≡ p
      → (key_for s.valid.meta first pass p.old ≡ Some (used_by p.old.encryption keys.old))
      × (key_for s.valid.meta first pass p.new ≡ Some (used_by p.new.encryption keys.new)) =
      λ s same_header p same_now.
      subst (λ (x : Stored).
      (key_for x.valid.meta first pass p.old ≡ Some (used_by p.old.encryption keys.old))
      × (key_for x.valid.meta first pass p.new ≡ Some (used_by p.new.encryption keys.new)))
      same_header
      (subst (λ (q : Progress).
      (key_for meta first pass q.old ≡ Some (used_by q.old.encryption keys.old))
      × (key_for meta first pass q.new ≡ Some (used_by q.new.encryption keys.new))) same_now
      (are.old_is.told first told, are.new_is.told first told)) in
      by stored (sym same) now here

  abbrev Stood : List (List ℕ) → Type 0
  Stood content =
      (old_key new_key : List ℕ) × StoodFor sizes keys device first old_key new_key content

  -- ---- no zone is open
  module _ (content : List (List ℕ)) (s : StandsFor sizes pass first content) where
    closed-same : s.stands.stored ≡ under.stored
    closed-same = one-header sizes first s.stands.stored under.stored s.stands.header held

    closed-sides : (s.stands.placement.old ≡ are.now.old) × (s.stands.placement.new ≡ are.now.new)
    closed-sides =
        let known = subst (λ (h : Stored). progress_of h.valid.meta sizes ≡ Some are.now)
        (sym closed-same) are.known in
        elim s.stands.placed [
          | inl idle ↦ absurd (let e : false ≡ true =
              sym (is_idle s.stands.stored.valid.meta sizes s.stands.placement idle)
              ∙ progress-busy s.stands.stored.valid.meta sizes are.now known in cc)
          | inr (c, is, here) ↦
              (let one = one-progress s.stands.stored.valid.meta sizes c are.now is known in (
                here.old ∙ ap (λ (p : Progress). p.old) one,
                here.new ∙ ap (λ (p : Progress). p.new) one,
              ))
        ]

    closed-key : (e now : Extent) (key : List ℕ) → e ≡ now
        → key_for s.stands.stored.valid.meta first pass e ≡ Some key
        → key_for meta first pass now ≡ Some key
    closed-key e now key same is =
        subst (λ (x : Extent). key_for meta first pass x ≡ Some key) same
        (subst (λ (h : Stored). key_for h.valid.meta first pass e ≡ Some key) closed-same is)

    closed-stood : Stood content
    closed-stood = (
      s.old,
      s.new,
      record {
        told = told;
        handed_in = handed s.old s.new
            (closed-key s.stands.placement.old are.now.old s.old closed-sides.0 s.old_is)
            (closed-key s.stands.placement.new are.now.new s.new closed-sides.1 s.new_is);
        stands = inl s.stands;
      },
    )

  -- ---- one is
  module _ (content : List (List ℕ)) (s : OpenStandsFor sizes pass first content) where
    open-same : s.stands.stored ≡ under.stored
    open-same = one-header sizes first s.stands.stored under.stored s.stands.header held

    open-now : s.stands.now ≡ are.now
    open-now = one-progress meta sizes s.stands.now are.now
        (subst (λ (h : Stored). progress_of h.valid.meta sizes ≡ Some s.stands.now) open-same
        s.stands.known) are.known

    open-key : (side : Progress → Extent) (key : List ℕ)
        → key_for s.stands.stored.valid.meta first pass (side s.stands.now) ≡ Some key
        → key_for meta first pass (side are.now) ≡ Some key
    open-key side key is =
        subst (λ (p : Progress). key_for meta first pass (side p) ≡ Some key) open-now
        (subst (λ (h : Stored). key_for h.valid.meta first pass (side s.stands.now) ≡ Some key)
        open-same is)

    open-stood : Stood content
    open-stood = (
      s.old,
      s.new,
      record {
        told = told;
        handed_in = handed s.old s.new (open-key (λ p. p.old) s.old s.old_is)
            (open-key (λ p. p.new) s.new s.new_is);
        stands = inr s.stands;
      },
    )

  by-image : (content : List (List ℕ)) → ImageStandsFor sizes pass first content → Stood content
  by-image content (inl s) = closed-stood content s
  by-image content (inr s) = open-stood content s

pub passphrases-give : {C : Type 0} (sector : C → ℕ) (sealed opened : C → ℕ → List ℕ → List ℕ)
    → PassphrasesGiveKeys sector sealed opened
passphrases-give sector sealed opened device pass first lanes volume content taken told stands =
    by-image device pass first taken.keys taken.read taken.under taken.begins told content stands

pub found-stand : FoundKeysStand
found-stand device pass first keys read under begins told = (
  given device pass first keys read under begins told,
  by-image device pass first keys read under begins told,
)
