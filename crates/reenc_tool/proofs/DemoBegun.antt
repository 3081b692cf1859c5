-- For which causes `format` and `init` of a demonstration may end.
use Rattle.std.proofs.Common.{◌≡◌, ◌∙◌, ◌+◌, ◌-◌, ◌^◌, ◌<◌, ℕ, List, [], ◌∷◌, length, Option}
use Rattle.std.proofs.Common.{None, Some, Ok, inl, inr, ⊎_elim, ap, arith, refl, subst, sym, IsSomeAnd}
use Rattle.base_terms.specs.declared.disk_sizes.Sizes.{Sizes}
use Rattle.bays.specs.Memory.{Line}
use Rattle.bays.specs.Stories.{Script}
use Rattle.demo_clients.specs.DemoBays.{Supplies, demo_holdings}
use Rattle.demo_clients.specs.DemoBays.{demo_name, demo_passphrase, ram_device}
use Rattle.header_report.specs.Examinations.{sizes_alone}
use Rattle.io_edge.specs.Supply.{Supply}
use Rattle.luks_init.specs.Begins.{unready_by}
use Rattle.luks_init.specs.DiskInit.Answers.{IsUnreadyUnder, IsUnstartedBy}
use Rattle.luks_init.specs.DiskInit.Makings.{IsUnmade, draw_of}
use Rattle.luks_init.specs.DiskInit.Slips.{digest_by, holders_by}
use Rattle.luks_init.specs.Faults.{IsTooLong, IsUnbegun}
use Rattle.luks_init.specs.Places.{IsNoPlace, IsNoRoom, slot_area}
use Rattle.luks_init.specs.declared.fault.InitFault.{InitFault}
use Rattle.luks_init.specs.declared.fault.InitFault.TheVariants as inits
use Rattle.luks_init.specs.declared.init_disk.making.MakeFault.{MakeFault}
use Rattle.luks_init.specs.declared.init_disk.making.MakeFault.TheVariants as makings
use Rattle.luks_init.specs.declared.init_disk.refusal.Refusal.{Refusal as StartRefusal}
use Rattle.luks_init.specs.declared.init_disk.refusal.Refusal.TheVariants as starts
use Rattle.luks_init.specs.declared.places.Places.{Places}
use Rattle.luks_init.specs.declared.wish.Wish.{Wish as InitWish}
use Rattle.luks_meta.specs.declared.meta.Parts.{Parts}
use Rattle.luks_rules.specs.Idles.{idle_of}
use Rattle.luks_rules.specs.declared.areas.Area.{Area}
use Rattle.luks_rules.specs.declared.idle.Idle.{Idle}
use Rattle.luks_init.specs.Wishes.{guard_len}
use Rattle.luks_slots.specs.KeyMaking.Drawings.{Draw}
use Rattle.luks_slots.specs.NewSlots.{area_len}
use Rattle.luks_store.specs.Loads.{stored_in}
use Rattle.luks_store.specs.SlotCommits.Calls.{slot_calls}
use Rattle.luks_store.specs.declared.loaded.Stored.{Stored}
use Rattle.memory_disks.specs.declared.ram_disk.RamDisk.{RamDisk}
use Rattle.reenc_recovery.specs.Images.{StandsFor}
use Rattle.reenc_recovery.specs.Placings.{RestsIn}
use Rattle.volume_opening.specs.Openings.{IsTried}
use Rattle.volume_opening.specs.Refusals.{IsUnopenedBy}
use Rattle.volume_opening.specs.Shorts.{IsShortOf}
use Rattle.volume_opening.specs.declared.refusal.Refusal.{Refusal}
use Rattle.volume_opening.specs.declared.refusal.Refusal.TheVariants as refusals
use Rattle.reenc_tool.specs.Demonstrating.{MayEndBy, demo_formatting, demo_starting, demo_view}
use Rattle.reenc_tool.specs.Asking.{IsGiven, key_named}
use Rattle.reenc_tool.specs.Making.{ComesTo, HasMade, IsOnOne, wish_of}
use Rattle.reenc_tool.specs.Outcomes.{Outcome}
use Rattle.reenc_tool.specs.Starting.{ComesToStart, HasStarted, wish_of as init_wish_of}
use Rattle.reenc_tool.specs.Status.{cause_of_init, cause_of_making, cause_of_refusal, cause_of_start}
use Rattle.reenc_tool.specs.declared.ended.Cause.{Cause}
use Rattle.reenc_tool.specs.declared.ended.Failing.TheVariants.{Keying}
use Rattle.reenc_tool.proofs.DemoCauses.{calls_fail, disk_given, header_ends, key_ends, may_end}
use Rattle.reenc_tool.proofs.DemoCauses.{none_rose, opening_ends, slots_end, tried, unfit_ends}
use Rattle.reenc_tool.proofs.DemoCauses.{written_ends}
use Rattle.reenc_tool.proofs.DemoHeaders.{IsFormatted, front_whole, may_begin, no_tail, not_linear}
use Rattle.reenc_tool.proofs.DemoHeaders.{one_holder}
use Rattle.reenc_tool.proofs.DemoVolumes.{Holds, Stands, same_pass}

-- a volume that stands and rests is opened, unless memory is wanted or a call fails
abbrev pub OpensStanding : Type 0
OpensStanding = (disk back : RamDisk) (pass first : List ℕ) (content : List (List ℕ))
    (refusal : Refusal) (header : Option RamDisk) → (ram_device disk).values ≡ Some first
    → IsTried pass → StandsFor (sizes_alone (ram_device disk)) pass first content
    → RestsIn (sizes_alone (ram_device disk)) first
    → IsUnopenedBy ram_device disk pass refusal header back → IsShortOf refusal

-- ---- `format`
came_ends : (m : ℕ) (disk back : RamDisk) (pass seed : List ℕ) (cause : Cause)
    (report : Option (List ℕ)) → 0 < m → disk.atom ≡ 512 → disk.atoms ≡ 2048 + m
    → pass ≡ demo_passphrase
    → ComesTo ram_device (wish_of demo_formatting) (sizes_alone (ram_device disk)) pass seed disk back
    cause report
    → MayEndBy cause
came_ends m disk back pass seed cause report some atom atoms pass_is (inl made) =
    written_ends made.volume.slot slot_calls (ram_device disk) (ram_device back) made.result
    (ram_device back).faults cause refl made.writes made.cause_is
came_ends m disk back pass seed cause report some atom atoms pass_is (inr unmade) =
    may_end cause _ unmade.cause_is
    (unfit_ends m (sizes_alone (ram_device disk)) pass seed unmade.fault some atom atoms pass_is
    unmade.unfit)

keyed_ends : (m : ℕ) (old : Supplies) (first : RamDisk) (scripts : List Script)
    (between new : Supplies) (disk : RamDisk) (seed : List ℕ) (outcome : Outcome RamDisk Line)
    (report : Option (List ℕ)) → 0 < m → Holds old first scripts → disk ≡ first
    → first.atom ≡ 512 → first.atoms ≡ 2048 + m
    → (demo_holdings between).keyring demo_name ≡ (demo_holdings old).keyring demo_name
    → IsGiven demo_view (key_named demo_view demo_name) between (λ pass after. (new ≡ after)
    × IsOnOne ram_device (wish_of demo_formatting) pass seed disk outcome report) → MayEndBy outcome.cause
keyed_ends m old first scripts between new disk seed outcome report some holds disk_is atom atoms keys
    has =
    came_ends m disk has.came.1.back has.given seed outcome.cause report some
    (ap (λ (d : RamDisk). d.atom) disk_is ∙ atom) (ap (λ (d : RamDisk). d.atoms) disk_is ∙ atoms)
    (same_pass ((demo_holdings between).keyring demo_name) has.given (keys ∙ holds.key) has.is)
    has.came.1.came

pub made_ends : (m : ℕ) (old : Supplies) (first : RamDisk) (scripts : List Script)
    (supply now : Supply) (new : Supplies) (outcome : Outcome RamDisk Line)
    (report : Option (List ℕ)) → 0 < m → now.faults ≡ 0 → Holds old first scripts
    → first.atom ≡ 512 → first.atoms ≡ 2048 + m
    → HasMade demo_view demo_formatting supply now old new
    outcome report
    → MayEndBy outcome.cause
made_ends m old first scripts supply now new outcome report some calm holds atom atoms
    (inl (none, unseeded)) =
    absurd (none_rose supply.faults now.faults calm (unseeded.count.failed refl))
made_ends m old first scripts supply now new outcome report some calm holds atom atoms
    (inr (seed, has, inr unplaced)) =
    absurd (disk_given old new first unplaced.fault holds.there atom unplaced.asked)
made_ends m old first scripts supply now new outcome report some calm holds atom atoms
    (inr (seed, has, inl placed)) =
    ⊎_elim (λ key. keyed_ends m old first scripts placed.between new placed.given seed outcome report
    some holds (placed.is.kept first holds.there) atom atoms
    (ap (λ (keys : List ℕ → Option (List ℕ)). keys demo_name) placed.leaves.keys) key)
    (λ unkeyed. key_ends placed.between new Keying unkeyed.fault (demo_holdings new).faults
    outcome.cause unkeyed.asked (ap (λ o. o.cause) unkeyed.ended.1)) placed.came

-- ---- what can't be made of its volume
-- no conversion can begin that would be of an encrypted volume at rest
ready_else : (o : Option Idle) (fault : InitFault) → unready_by o demo_passphrase ≡ None
    → unready_by o demo_passphrase ≡ Some fault → ⊥
ready_else o fault is other = (let e : None ≡ Some fault = sym is ∙ other in cc)

no_place : (m : Parts) (besides : List Area) (atom size wanted gap : ℕ)
    → IsNoPlace m besides atom size (inits.Area wanted gap) → gap < wanted
no_place m besides atom size wanted gap is =
    let same = is.0 in let fewer = is.1 in omega (arith, same, fewer)

no_room : (m : Parts) (atom : ℕ) (w : InitWish) (wanted gap : ℕ)
    → IsNoRoom m atom w (inits.Area wanted gap) → gap < wanted
no_room m atom w wanted gap (inl is) = no_place m [] atom (area_len w.key_size) wanted gap is
no_room m atom w wanted gap (inr (place, lowest, is)) =
    no_place m (slot_area w place ∷ []) atom (guard_len w atom) wanted gap is

too_long : (m : Parts) (sizes : Sizes) (w : InitWish) (d : Draw) (len limit : ℕ) (o : Option Idle)
    → IsSomeAnd o (λ v. (p : Places) × IsTooLong m sizes w d v p len limit) → limit < len
too_long m sizes w d len limit None is = absurd is
too_long m sizes w d len limit (Some v) is = is.1.longer

module _ (disk : RamDisk) (formatted : IsFormatted disk) (stored : Stored)
    (held : stored_in (sizes_alone (ram_device disk)) disk.bytes.items ≡ Ok stored)
    (w : InitWish) (seed : List ℕ) where
  unbegun_ends : (pass : List ℕ) (fault : InitFault) → pass ≡ demo_passphrase
      → (fault ≡ inits.InProgress → ⊥)
      → IsUnbegun stored.valid.meta stored.valid.sizes w pass (draw_of w seed) fault
      → MayEndBy (cause_of_init fault)
  unbegun_ends pass inits.Memory pass_is other is = tt
  unbegun_ends pass inits.InProgress pass_is other is = absurd (other refl)
  unbegun_ends pass inits.Linear pass_is other is =
      absurd (ready_else (idle_of stored.valid.meta stored.valid.sizes) inits.Linear
      (may_begin disk formatted stored held stored.valid.sizes)
      (subst (λ (p : List ℕ). unready_by (idle_of stored.valid.meta stored.valid.sizes) p
      ≡ Some inits.Linear) pass_is is))
  unbegun_ends pass (inits.Passphrase len) pass_is other is =
      absurd (ready_else (idle_of stored.valid.meta stored.valid.sizes) (inits.Passphrase len)
      (may_begin disk formatted stored held stored.valid.sizes)
      (subst (λ (p : List ℕ). unready_by (idle_of stored.valid.meta stored.valid.sizes) p
      ≡ Some (inits.Passphrase len)) pass_is is))
  unbegun_ends pass (inits.Area wanted gap) pass_is other is =
      (tt, no_room stored.valid.meta stored.valid.sizes.atom w wanted gap is.1)
  unbegun_ends pass (inits.Json len limit) pass_is other is = (
    tt,
    too_long stored.valid.meta stored.valid.sizes w (draw_of w seed) len limit
        (idle_of stored.valid.meta stored.valid.sizes) is.1,
  )

  unmade_ends : (pass : List ℕ) (fault : MakeFault) → pass ≡ demo_passphrase
      → (fault ≡ makings.Unready inits.InProgress → ⊥) → IsUnmade stored w pass seed fault
      → MayEndBy (cause_of_making fault)
  unmade_ends pass (makings.Unready fault) pass_is other is =
      unbegun_ends pass fault pass_is
      (λ same. other (ap (λ (f : InitFault). makings.Unready f) same)) is
  unmade_ends pass (makings.SeqEnd number) pass_is other is =
      let last = is.0.1 in
      (tt, (let e : 2 ^ 64 - 2 < number = omega (arith, last) in e))

-- ---- `init`
module _ (opens : OpensStanding) (blocks : ℕ) (disk back : RamDisk) (stands : Stands disk blocks)
    (formatted : IsFormatted disk) (pass seed : List ℕ) (pass_is : pass ≡ demo_passphrase) where
  stands_so : StandsFor (sizes_alone (ram_device disk)) pass disk.bytes.items stands.content
  stands_so = subst (λ (p : List ℕ).
      StandsFor (sizes_alone (ram_device disk)) p disk.bytes.items stands.content) (sym pass_is)
      stands.stands

  short : (refusal : Refusal) → IsUnopenedBy ram_device disk pass refusal None back
      → IsShortOf refusal
  short refusal by = opens disk back pass disk.bytes.items stands.content refusal None refl
      (tried pass pass_is) stands_so formatted.rests by

  unopened_ends : (refusal : Refusal)
      → IsUnstartedBy ram_device disk (init_wish_of demo_starting) pass seed
      (starts.Unopened refusal) back
      → MayEndBy (cause_of_refusal refusal (ram_device back).faults)
  unopened_ends (refusals.Header fault) (by, other) =
      header_ends (ram_device disk) (ram_device back) fault (ram_device back).faults refl
      (short (refusals.Header fault) by) by.3
  unopened_ends refusals.InProgress (by, other) = absurd (short refusals.InProgress by)
  unopened_ends (refusals.Passphrase len) (by, other) =
      absurd (short (refusals.Passphrase len) by)
  unopened_ends (refusals.Slots fault) (by, other) =
      slots_end by.1.stored.valid.meta by.1.stored.valid.sizes pass by.1.read (ram_device back) fault
      (ram_device back).faults refl by.1.none (short (refusals.Slots fault) by)
  unopened_ends (refusals.Opening cause) (under, other) =
      opening_ends under.read (ram_device back) cause (ram_device back).faults refl
      (under.short disk.bytes.items refl) under.unopened.why.cause_is

  -- it was read, and something would be lost, or can't be made
  module _ (refusal : StartRefusal)
      (under : IsUnreadyUnder (ram_device disk) (init_wish_of demo_starting) pass seed
      (ram_device back) refusal) where
    abbrev header : Stored
    header = under.unready.header

    header_held : stored_in (sizes_alone (ram_device disk)) disk.bytes.items ≡ Ok header
    header_held = subst (λ (b : List ℕ). stored_in (sizes_alone (ram_device disk)) b ≡ Ok header)
        (front_whole disk)
        (under.unready.checked.found.held disk.bytes.items under.unlocked.unwritten.values)

  unready_ends : (refusal : StartRefusal)
      → IsUnstartedBy ram_device disk (init_wish_of demo_starting) pass seed refusal back
      → MayEndBy (cause_of_start refusal (ram_device back).faults)
  unready_ends (starts.Unopened refusal) by = unopened_ends refusal by
  unready_ends starts.Linear by =
      absurd (not_linear disk formatted by.stored (by.found.held disk.bytes.items refl)
      by.stored.valid.sizes by.linear)
  unready_ends starts.Memory by = tt
  unready_ends (starts.Keyslots list) by =
      let header = by.unready.header in
      let most = one_holder disk formatted header (header_held (starts.Keyslots list) by)
      (digest_by header.valid.meta (idle_of header.valid.meta header.valid.sizes)) in
      let same : length list ≡ length (holders_by header.valid.meta
      (digest_by header.valid.meta (idle_of header.valid.meta header.valid.sizes))) =
      ap (λ l. length l) by.unready.unready.0 in
      let more = by.unready.unready.2 in
      absurd (omega (arith, most, same, more))
  unready_ends (starts.Tail bytes) by =
      absurd (no_tail by.unready.header.valid.meta.segments by.read.tail
      by.unlocked.unwritten.tail by.unready.unready.2)
  unready_ends (starts.Unmade fault) by =
      unmade_ends disk formatted by.unready.header (header_held (starts.Unmade fault) by)
      (init_wish_of demo_starting) seed pass fault pass_is
      (λ same. by.unready.idle (ap (λ (f : MakeFault). starts.Unmade f) same)) by.unready.unready.1
  unready_ends starts.Writing by =
      absurd (calls_fail by.begun.slot slot_calls by.begun.between (ram_device back) refl
      by.begun.slot_calls)

start_ends : OpensStanding → (blocks : ℕ) (disk : RamDisk) (pass seed : List ℕ)
    (outcome : Outcome RamDisk Line) (report : Option (List ℕ)) → pass ≡ demo_passphrase
    → Stands disk blocks → IsFormatted disk
    → ComesToStart ram_device demo_starting pass seed disk outcome report → MayEndBy outcome.cause
start_ends opens blocks disk pass seed outcome report pass_is stands formatted (inl started) =
    may_end outcome.cause _ (ap (λ o. o.cause) started.outcome_is) tt
start_ends opens blocks disk pass seed outcome report pass_is stands formatted
    (inr (inl unstarted)) =
    may_end outcome.cause _ (ap (λ o. o.cause) unstarted.outcome_is)
    (unready_ends opens blocks disk unstarted.back stands formatted pass seed pass_is
    unstarted.refusal unstarted.refused)
start_ends opens blocks disk pass seed outcome report pass_is stands formatted
    (inr (inr (none, untold))) =
    may_end outcome.cause _ (ap (λ o. o.cause) untold) tt

pub started_ends : OpensStanding → (blocks : ℕ) (old : Supplies) (first : RamDisk)
    (scripts : List Script) (supply now : Supply) (new : Supplies) (outcome : Outcome RamDisk Line)
    (report : Option (List ℕ)) → now.faults ≡ 0 → Holds old first scripts → Stands first blocks
    → IsFormatted first
    → HasStarted demo_view demo_starting supply now old new
    outcome report
    → MayEndBy outcome.cause
started_ends opens blocks old first scripts supply now new outcome report calm holds stands formatted
    (inl (none, unseeded)) =
    absurd (none_rose supply.faults now.faults calm (unseeded.count.failed refl))
started_ends opens blocks old first scripts supply now new outcome report calm holds stands formatted
    (inr (seed, has, inr unplaced)) =
    absurd (disk_given old new first unplaced.fault holds.there formatted.atom unplaced.asked)
started_ends opens blocks old first scripts supply now new outcome report calm holds stands formatted
    (inr (seed, has, inl placed)) =
    let same = placed.is.kept first holds.there in
    ⊎_elim (λ key. start_ends opens blocks placed.given key.given seed outcome report
    (same_pass ((demo_holdings placed.between).keyring demo_name) key.given
    (ap (λ (keys : List ℕ → Option (List ℕ)). keys demo_name) placed.leaves.keys ∙ holds.key)
    key.is)
    (subst (λ (d : RamDisk). Stands d blocks) (sym same) stands)
    (subst (λ (d : RamDisk). IsFormatted d) (sym same) formatted) key.came.1)
    (λ unkeyed. key_ends placed.between new Keying unkeyed.fault (demo_holdings new).faults
    outcome.cause unkeyed.asked (ap (λ o. o.cause) unkeyed.ended.1)) placed.came
