-- A conversion on a disk that stands isn't led to its end only where something cuts it short.
use Rattle.std.proofs.Common.{◌≡◌, ◌∙◌, ◌*◌, inl, inr, ℕ, true, false, List, length, Option, Some, None}
use Rattle.std.proofs.Common.{Ok, Err, IsSome, ap, arith, sym, subst}
use Rattle.std.specs.Prelude.{option_and_then}
use Rattle.resume_disk.specs.OpenedMidway.Causes.{IsCauseIn}
use Rattle.resume_disk.specs.declared.midway.fault.ConversionCause.{ConversionCause}
use Rattle.resume_disk.specs.declared.midway.fault.ConversionCause.TheVariants as causes
use Rattle.base_terms.specs.declared.disk_sizes.Sizes.{Sizes}
use Rattle.header_report.proofs.ExamineLemmas.{whole_front}
use Rattle.header_report.specs.Examinations.{sizes_alone}
use Rattle.hotzone.specs.Sites.{IsSaved}
use Rattle.luks_meta.specs.declared.digest.Digest.{Digest}
use Rattle.luks_meta.specs.declared.meta.Parts.{Parts}
use Rattle.luks_meta.specs.declared.segment.Encryption.{Encryption}
use Rattle.luks_rules.specs.References.{value_at}
use Rattle.luks_rules.specs.Segments.{in_progress}
use Rattle.luks_rules.specs.Shapes.{progress_of}
use Rattle.luks_rules.specs.declared.extents.Extent.{Extent}
use Rattle.luks_rules.specs.declared.shape.Progress.{Progress}
use Rattle.luks_slots.specs.Unlocks.{IsCutShort, key_of}
use Rattle.luks_slots.specs.declared.fault.SlotFault.{SlotFault}
use Rattle.luks_store.specs.Devices.{KeepsBytes, front_of}
use Rattle.luks_store.specs.Loads.{Says, stored_in}
use Rattle.luks_store.specs.declared.fault.StoreFault.{StoreFault}
use Rattle.luks_store.specs.declared.fault.StoreFault.TheVariants as faults
use Rattle.luks_store.specs.declared.loaded.Stored.{Stored}
use Rattle.image_laws.specs.Opened.Images.{ImageStandsFor, OpenStandsFor}
use Rattle.reenc_recovery.proofs.PlacingLemmas.{is_idle}
use Rattle.reenc_recovery.specs.Images.{StandsFor}
use Rattle.reenc_recovery.specs.Keys.{key_by, key_for}
use Rattle.reenc_recovery.specs.declared.keys.SideKeys.{SideKeys}
use Rattle.resume_disk.specs.Keys.{HasNoSideKey, IsNoKeysFound, LacksKey}
use Rattle.resume_disk.specs.Refusals.{IsLockedBy, IsRefusedBy, IsUnfinishedBy}
use Rattle.resume_disk.specs.Refusals.{IsShort}
use Rattle.resume_disk.specs.Standing.{ConvertsIn, CutsOpening, IsCut, IsCutBy}
use Rattle.resume_disk.specs.declared.refusal.Refusal.{Refusal}
use Rattle.resume_disk.specs.declared.refusal.Refusal.TheVariants as refusals
use Rattle.resume_disk.specs.declared.refusal.Unfinished.{Unfinished}
use Rattle.resume_disk.specs.declared.refusal.Unfinished.TheVariants as unfinished
use Rattle.sector_disk.specs.Devices.{Device}
use Rattle.segment_map.specs.declared.Side.{Side}
use Rattle.segment_map.specs.declared.Side.TheVariants.{New, Old, Zone}
use Rattle.image_laws.proofs.Started.BlockLemmas.{progress-busy}
use Rattle.image_laws.proofs.Started.GapLemmas.{one-header}
use Rattle.volume_opening.specs.Openings.{IsFound, IsTried}
use Rattle.volume_opening.specs.Refusals.{IsNotTried}
use Rattle.volume_opening.specs.Shorts.{IsUnread}
use Rattle.hotzone.proofs.ZoneEvents.GroundLemmas.{one-progress}

-- what the keyslots give for a segment they give for its digest
digest_key : (m : Parts) (image pass key : List ℕ) (c : Option Encryption) (n : Option ℕ)
    (number : ℕ) (d : Digest) → IsSome c → n ≡ Some number → value_at m.digests number ≡ Some d
    → key_by m image pass c n ≡ Some key → key_of m d image pass ≡ Some key
digest_key m image pass key None n number d crypt wanted there is =
    absurd (let no : false ≡ true = crypt in cc)
digest_key m image pass key (Some e) n number d crypt wanted there is =
    let by : option_and_then (λ (d : Digest). key_of m d image pass) (value_at m.digests number)
    ≡ Some key = subst (λ (x : Option ℕ). key_by m image pass (Some e) x ≡ Some key) wanted is in
    sym (ap (option_and_then (λ (d : Digest). key_of m d image pass)) there) ∙ by

none_some : {A : Type 0} {o : Option A} {x : A} → None ≡ o → o ≡ Some x → ⊥
none_some {A} {o} {x} none is = (let e : ◌≡◌ {A = Option A} None (Some x) = none ∙ is in cc)

module _ {D : Type 0} (device : D → Device) (disk back : D) (pass first : List ℕ)
    (content : List (List ℕ)) (told : (device disk).values ≡ Some first)
    (long : length first ≡ (device disk).atoms * (device disk).size) (tried : IsTried pass)
    (stands : ImageStandsFor (sizes_alone (device disk)) pass first content)
    (converts : ConvertsIn (sizes_alone (device disk)) first) where
  abbrev sizes : Sizes
  sizes = sizes_alone (device disk)

  -- ---- the header that the bytes have
  record HasIt : Type 0 where
    stored : Stored
    held : stored_in sizes (front_of sizes first) ≡ Ok stored

  it : HasIt
  it = elim stands [
    | inl s ↦ record { stored = s.stands.stored; held = s.stands.header }
    | inr s ↦ record { stored = s.stands.stored; held = s.stands.header }
  ]

  whole : stored_in sizes first ≡ Ok it.stored
  whole =
      subst (λ (all : List ℕ). stored_in sizes all ≡ Ok it.stored)
      (whole_front (device disk) first long) it.held

  unread : (fault : StoreFault) → Says fault (stored_in sizes first) → IsUnread fault
  unread faults.Memory says = tt
  unread faults.Device says = tt
  unread (faults.NoHeader primary secondary) none = absurd (let no = sym whole ∙ none in cc)
  unread (faults.CopiesDiffer seqid place) (a, b, none, differ) =
      absurd (let no = sym whole ∙ none in cc)
  unread (faults.Json fault) none = absurd (let no = sym whole ∙ none in cc)
  unread (faults.Rule fault) none = absurd (let no = sym whole ∙ none in cc)

  not_long : IsNotTried pass → ⊥
  not_long (inl none) = omega (arith, none, tried.0)
  not_long (inr more) = omega (arith, more, tried.1)

  -- ---- by a header that was loaded
  module _ (stored : Stored) (found : IsFound (device disk) stored) where
    held : stored_in sizes (front_of sizes first) ≡ Ok stored
    held =
        ap (stored_in sizes) (whole_front (device disk) first long) ∙ found.held first told

    busy : in_progress stored.valid.meta.config ≡ true
    busy =
        let (now, known, saved) = converts stored held in
        progress-busy stored.valid.meta sizes now known

    not_idle : in_progress stored.valid.meta.config ≡ false → ⊥
    not_idle idle = (let no : false ≡ true = sym idle ∙ busy in cc)

    -- the keyslots give the keys of both sides
    module _ (now : Progress) (known : progress_of stored.valid.meta sizes ≡ Some now) where
      record HasBoth : Type 0 where
        old : List ℕ
        new : List ℕ
        old_is : key_for stored.valid.meta first pass now.old ≡ Some old
        new_is : key_for stored.valid.meta first pass now.new ≡ Some new

      closed : StandsFor sizes pass first content → HasBoth
      closed s =
          let same = one-header sizes first s.stands.stored stored s.stands.header held in
          let here = subst (λ (h : Stored). progress_of h.valid.meta sizes ≡ Some now) (sym same) known
          in
          let sides : (s.stands.placement.old ≡ now.old) × (s.stands.placement.new ≡ now.new) =
          elim s.stands.placed [
            | inl idle ↦ absurd (let e : false ≡ true =
                sym (is_idle s.stands.stored.valid.meta sizes s.stands.placement idle)
                ∙ progress-busy s.stands.stored.valid.meta sizes now here in cc)
            | inr (c, is, placed) ↦
                (let one = one-progress s.stands.stored.valid.meta sizes c now is here in (
                  placed.old ∙ ap (λ (p : Progress). p.old) one,
                  placed.new ∙ ap (λ (p : Progress). p.new) one,
                ))
          ] in
          record {
            old = s.old;
            new = s.new;
            old_is = subst (λ (e : Extent). key_for stored.valid.meta first pass e ≡ Some s.old)
                sides.0 (subst (λ (h : Stored).
                key_for h.valid.meta first pass s.stands.placement.old ≡ Some s.old) same s.old_is);
            new_is = subst (λ (e : Extent). key_for stored.valid.meta first pass e ≡ Some s.new)
                sides.1 (subst (λ (h : Stored).
                key_for h.valid.meta first pass s.stands.placement.new ≡ Some s.new) same s.new_is);
          }

      zoned : OpenStandsFor sizes pass first content → HasBoth
      zoned s =
          let same = one-header sizes first s.stands.stored stored s.stands.header held in
          let here = subst (λ (h : Stored). progress_of h.valid.meta sizes ≡ Some now) (sym same) known
          in
          let one = one-progress s.stands.stored.valid.meta sizes s.stands.now now s.stands.known here in
          record {
            old = s.old;
            new = s.new;
            old_is = subst (λ (p : Progress). key_for stored.valid.meta first pass p.old ≡ Some s.old)
                one (subst (λ (h : Stored).
                key_for h.valid.meta first pass s.stands.now.old ≡ Some s.old) same s.old_is);
            new_is = subst (λ (p : Progress). key_for stored.valid.meta first pass p.new ≡ Some s.new)
                one (subst (λ (h : Stored).
                key_for h.valid.meta first pass s.stands.now.new ≡ Some s.new) same s.new_is);
          }

      both : HasBoth
      both = elim stands [
        | inl s ↦ closed s
        | inr s ↦ zoned s
      ]

      side_short : (segment : Extent) (key : List ℕ) (old new : Device) (fault : SlotFault)
          → key_for stored.valid.meta first pass segment ≡ Some key → old.values ≡ Some first
          → HasNoSideKey stored.valid.meta pass segment old new fault → IsCutShort (Err fault)
      side_short segment key old new fault is bytes none =
          elim (none.answered.exact first bytes) [
            | inl short ↦ short
            | inr none_there ↦ absurd (none_some none_there
                (digest_key stored.valid.meta first pass key segment.encryption segment.digest none.number
                none.digest none.crypt none.wanted none.is_digest is))
          ]

      slots_short : (read new : Device) (side : Side) (fault : SlotFault) → read.values ≡ Some first
          → LacksKey stored.valid.meta pass now read new side fault → IsCutShort (Err fault)
      slots_short read new Old fault bytes lacks =
          side_short now.old both.old read new fault both.old_is bytes lacks
      slots_short read new New fault bytes lacks =
          side_short now.new both.new lacks.read new fault both.new_is
          (lacks.unwritten.values ∙ bytes) lacks.none
      slots_short read new Zone fault bytes lacks = absurd lacks

    keys_short : (read new : Device) (refusal : Refusal) → KeepsBytes (device disk) read
        → IsNoKeysFound stored.valid.meta stored.valid.sizes pass read new refusal → IsCutBy refusal
    keys_short read new (refusals.Header fault) kept none = absurd none
    keys_short read new refusals.Idle kept none = absurd (not_idle none)
    keys_short read new (refusals.Passphrase count) kept none = absurd (not_long none.1)
    keys_short read new (refusals.Slots side fault) kept none =
        slots_short none.now
        (subst (λ (z : Sizes). progress_of stored.valid.meta z ≡ Some none.now) found.sizes none.known)
        read new side fault (kept.values ∙ told) none.lacks
    keys_short read new (refusals.Tail bytes) kept none = absurd none
    keys_short read new (refusals.Unopened cause) kept none = absurd none

  -- ---- by the bytes' header the volume may be led on
  may_lead : (cause : ConversionCause) (sides : SideKeys)
      → IsCauseIn sizes sides (stored_in sizes first) cause → IsShort cause → CutsOpening cause
  may_lead (causes.Opening cause) sides is short = short
  may_lead causes.Idle sides is short = absurd short
  may_lead causes.NotBuilt sides (stored, is, (now, known, unsaved)) short =
      absurd (let (own, own_known, saved) = converts stored
      (ap (stored_in sizes) (whole_front (device disk) first long) ∙ is) in
      unsaved (subst (λ (p : Progress). IsSaved p.conversion.resilience)
      (one-progress stored.valid.meta sizes own now own_known known) saved))
  may_lead (causes.SeqEnd left wanted) sides is short = tt
  may_lead (causes.JsonFull len limit) sides is short = tt

  -- ---- all of it
  locked_short : (refusal : Refusal) → IsLockedBy (device disk) pass refusal (device back)
      → IsCutBy refusal
  locked_short (refusals.Header fault) (kept, says, cause) = unread fault (says first told)
  locked_short refusals.Idle by =
      keys_short by.stored by.found by.read (device back) refusals.Idle by.header_read by.none
  locked_short (refusals.Passphrase count) by =
      keys_short by.stored by.found by.read (device back) (refusals.Passphrase count) by.header_read
      by.none
  locked_short (refusals.Slots side fault) by =
      keys_short by.stored by.found by.read (device back) (refusals.Slots side fault) by.header_read
      by.none
  locked_short (refusals.Tail bytes) by = tt
  locked_short (refusals.Unopened cause) by =
      keys_short by.stored by.found by.read (device back) (refusals.Unopened cause) by.header_read
      by.none

  pub refused_cut : {C : Type 0} (sector : C → ℕ) (sealed opened : C → ℕ → List ℕ → List ℕ)
      (refusal : Refusal) (header : Option D)
      → IsRefusedBy sector sealed opened device disk pass refusal header back → IsCutBy refusal
  refused_cut sector sealed opened (refusals.Header fault) header (none, locked) =
      locked_short (refusals.Header fault) locked
  refused_cut sector sealed opened refusals.Idle header (none, locked) =
      locked_short refusals.Idle locked
  refused_cut sector sealed opened (refusals.Passphrase count) header (none, locked) =
      locked_short (refusals.Passphrase count) locked
  refused_cut sector sealed opened (refusals.Slots side fault) header (none, locked) =
      locked_short (refusals.Slots side fault) locked
  refused_cut sector sealed opened (refusals.Tail bytes) header (none, locked) = tt
  refused_cut sector sealed opened (refusals.Unopened cause) header (joint, are, under) =
      may_lead cause under.keys (under.refused first told) (under.short first told)

pub unfinished_cut : {C D : Type 0} (sector : C → ℕ) (sealed opened : C → ℕ → List ℕ → List ℕ)
    (device : D → Device) (disk : D) (pass first : List ℕ) (content : List (List ℕ))
    → (device disk).values ≡ Some first
    → length first ≡ (device disk).atoms * (device disk).size → IsTried pass
    → ImageStandsFor (sizes_alone (device disk)) pass first content
    → ConvertsIn (sizes_alone (device disk)) first → (left : Unfinished D)
    → IsUnfinishedBy sector sealed opened device disk pass left → IsCut left
unfinished_cut sector sealed opened device disk pass first content told long tried stands converts
    (unfinished.Refused r) by =
    refused_cut device disk r.disk pass first content told long tried stands converts sector sealed
    opened r.refusal r.header by
unfinished_cut sector sealed opened device disk pass first content told long tried stands converts
    (unfinished.Halted h) by = tt
