-- Why a command of a demonstration may end otherwise than fine: no call of its outside fails, and what
-- it asks its bay for is there.
use Rattle.std.proofs.Common.{◌≡◌, ◌∙◌, ◌+◌, ◌/◌, ◌<◌, ◌≤◌, ◌==◌, Bool, true, false, if◌then◌else◌}
use Rattle.std.proofs.Common.{ℕ, List, [], ◌∷◌, length, Option, None, Some, Result, Ok, Err, inl, inr, ap}
use Rattle.std.proofs.Common.{arith, refl, subst, sym, bytes_eq, nat_lt, nat_le, ltb-true, leb-true}
use Rattle.std.proofs.Common.{IfSome}
use Rattle.base_terms.specs.Causes.{Rose}
use Rattle.base_terms.specs.declared.disk_sizes.Sizes.{Sizes}
use Rattle.base_terms.specs.declared.failed.Failed.{Failed}
use Rattle.bays.specs.declared.bay.BayFault.{BayFault}
use Rattle.bays.specs.declared.bay.BayFault.TheVariants as BayFaults
use Rattle.bays.specs.declared.bay.Manner.{Manner}
use Rattle.demo_clients.specs.DemoBays.{Supplies, asks_demo_disk, asks_demo_key, asks_demo_links}
use Rattle.demo_clients.specs.DemoBays.{demo_name, demo_passphrase, has_atom, ram_device}
use Rattle.header_report.specs.Examinations.{TellsFault, sizes_alone}
use Rattle.luks_format.specs.DiskFormat.Fitting.{IsUnfit, text_len, unfit_by}
use Rattle.luks_format.specs.Wishes.{keyslots_size_for}
use Rattle.luks_format.specs.declared.format_disk.fault.FormatFault.{FormatFault}
use Rattle.luks_format.specs.declared.format_disk.fault.FormatFault.TheVariants as formats
use Rattle.luks_meta.specs.declared.meta.Parts.{Parts}
use Rattle.luks_slots.specs.NewSlots.{area_len}
use Rattle.luks_slots.specs.Unlocks.{IsCutShort}
use Rattle.luks_slots.specs.declared.fault.SlotFault.{SlotFault}
use Rattle.luks_slots.specs.declared.fault.SlotFault.TheVariants as slots
use Rattle.luks_store.specs.Loads.{HasCause, Says, stored_in}
use Rattle.luks_store.specs.SlotCommits.Calls.{MakesCall, MakesCalls, SlotCall, commits}
use Rattle.luks_store.specs.SlotCommits.Calls.{syncs_area, writes_area}
use Rattle.luks_store.specs.Used.{Refusal as StoredRefusal}
use Rattle.luks_store.specs.declared.fault.StoreFault.{StoreFault}
use Rattle.luks_store.specs.declared.fault.StoreFault.TheVariants as faults
use Rattle.luks_store.specs.declared.header_copies.commit.Stage.TheVariants.{Begun, FirstWritten, FirstKept}
use Rattle.luks_store.specs.declared.header_copies.commit.Stage.TheVariants.{SecondWritten, Ended}
use Rattle.luks_store.specs.declared.loaded.Stored.{Stored}
use Rattle.luks_store.specs.declared.slot_commit.writing.SlotCommit.{SlotCommit}
use Rattle.memory_disks.specs.declared.ram_disk.RamDisk.{RamDisk}
use Rattle.reenc_recovery.specs.Causes.{HasCauseIn}
use Rattle.reenc_recovery.specs.declared.fault.OpenCause.{OpenCause}
use Rattle.reenc_recovery.specs.declared.fault.OpenCause.TheVariants as openings
use Rattle.sector_disk.specs.Devices.{Device as DiskState, failed_call}
use Rattle.volume_opening.specs.Refusals.{HasNoKey, IsNotTried}
use Rattle.volume_opening.specs.Shorts.{IsShort, IsUnread}
use Rattle.reenc_tool.specs.declared.ended.Cause.{Cause}
use Rattle.reenc_tool.specs.declared.ended.Failing.{Failing}
use Rattle.reenc_tool.specs.Demonstrating.{MayEndBy, demo_formatting}
use Rattle.reenc_tool.specs.Making.{cause_of_writing, wish_of}
use Rattle.reenc_tool.specs.Outcomes.{cause_of_fault}
use Rattle.reenc_tool.specs.Status.{cause_of_format, cause_of_slots, cause_of_store, cause_of_volume}
use Rattle.reenc_tool.proofs.ServedLemmas.{not-true}

-- one of two causes that are the same
pub may_end : (one other : Cause) → one ≡ other → MayEndBy other → MayEndBy one
may_end one other is may = subst (λ (c : Cause). MayEndBy c) (sym is) may

-- ---- counts
-- a count that is 0 rose from none
pub none_rose : (before now : ℕ) → now ≡ 0 → Rose before now → ⊥
none_rose before now none (inl rose) = omega (arith, none, rose)
none_rose before now none (inr full) = omega (arith, none, full)

-- ---- the calls that write a keyslot and a header
call_fails : (slot : SlotCommit) (call : SlotCall) (old new : DiskState) → new.faults ≡ 0
    → MakesCall slot call old new failed_call → ⊥
call_fails slot writes_area old new none made =
    none_rose old.faults new.faults none (made.cause.failed refl)
call_fails slot syncs_area old new none made =
    none_rose old.faults new.faults none (made.cause.failed refl)
call_fails slot (commits Begun) old new none made =
    none_rose old.faults new.faults none (made.cause.failed refl)
call_fails slot (commits FirstWritten) old new none made =
    none_rose old.faults new.faults none (made.cause.failed refl)
call_fails slot (commits FirstKept) old new none made =
    none_rose old.faults new.faults none (made.cause.failed refl)
call_fails slot (commits SecondWritten) old new none made =
    none_rose old.faults new.faults none (made.cause.failed refl)
call_fails slot (commits Ended) old new none made = made

-- none of them failed on a disk that counts none
pub calls_fail : (slot : SlotCommit) (calls : List SlotCall) (old new : DiskState) → new.faults ≡ 0
    → MakesCalls slot calls old new failed_call → ⊥
unfolding MakesCalls
calls_fail slot [] old new none (same, never) = absurd (cc)
calls_fail slot (call ∷ calls) old new none (inl (made, failed)) =
    call_fails slot call old new none made
calls_fail slot (call ∷ calls) old new none (inr (between, made, rest)) =
    calls_fail slot calls between new none rest

-- ---- the bay
-- its disk is given where it is there and has this atom
pub disk_given : (bay new : Supplies) (disk : RamDisk) (fault : BayFault) → bay.disk ≡ Some disk
    → disk.atom ≡ 512 → asks_demo_disk bay demo_name 512 (Err fault) new → ⊥
disk_given bay new disk fault there atom asked =
    let has : has_atom 512 bay.disk ≡ true =
    ap (λ (d : Option RamDisk). has_atom 512 d) there ∙ ap (λ (n : ℕ). n == 512) atom in
    let lacks : has_atom 512 bay.disk ≡ false = asked refl in
    (let e : true ≡ false = sym has ∙ lacks in cc)

-- and its key and its links, but for memory
pub asked_ends : (failing : Failing) (fault : BayFault) (count : ℕ) (cause : Cause)
    → (fault ≡ BayFaults.Failed → bytes_eq demo_name demo_name ≡ false)
    → cause ≡ cause_of_fault failing fault count → MayEndBy cause
asked_ends failing BayFaults.Failed count cause asked is =
    absurd (let e : true ≡ false = asked refl in cc)
asked_ends failing BayFaults.Memory count cause asked is = may_end cause _ is tt

failed_is : {T : Type 0} (fault : BayFault) → fault ≡ BayFaults.Failed
    → ◌≡◌ {A = Result T BayFault} (Err fault) (Err BayFaults.Failed)
failed_is {T} fault is = ap (λ (f : BayFault). Err f) is

pub key_ends : (between new : Supplies) (failing : Failing) (fault : BayFault) (count : ℕ)
    (cause : Cause) → asks_demo_key between demo_name (Err fault) new
    → cause ≡ cause_of_fault failing fault count → MayEndBy cause
key_ends between new failing fault count cause asked is =
    asked_ends failing fault count cause (λ same. asked (failed_is fault same)) is

pub links_end : (between new : Supplies) (workers sessions : ℕ) (manner : Manner)
    (failing : Failing) (fault : BayFault) (count : ℕ) (cause : Cause)
    → asks_demo_links between demo_name workers sessions manner (Err fault) new
    → cause ≡ cause_of_fault failing fault count → MayEndBy cause
links_end between new workers sessions manner failing fault count cause asked is =
    asked_ends failing fault count cause (λ same. asked (failed_is fault same)) is

-- ---- `format`
-- what is beyond its limit, by the first test of three that holds
first_of_three : (room area text limit : ℕ) (wide long late : Bool) (fault : FormatFault)
    → nat_lt room area ≡ wide → nat_lt limit text ≡ long → late ≡ false
    → (if wide then Some (formats.Area area room)
    else (if long then Some (formats.Json text limit)
    else (if late then Some formats.Blocks else None))) ≡ Some fault
    → MayEndBy (cause_of_format fault)
first_of_three room area text limit true long late fault wide_is long_is late_is is =
    let e : formats.Area area room ≡ fault = cc in
    subst (λ (f : FormatFault). MayEndBy (cause_of_format f)) e (tt, ltb-true room area wide_is)
first_of_three room area text limit false true late fault wide_is long_is late_is is =
    let e : formats.Json text limit ≡ fault = cc in
    subst (λ (f : FormatFault). MayEndBy (cause_of_format f)) e (tt, ltb-true limit text long_is)
first_of_three room area text limit false false true fault wide_is long_is late_is is =
    absurd (cc)
first_of_three room area text limit false false false fault wide_is long_is late_is is =
    absurd (cc)

-- the disk has a block behind the first 2048 atoms
behind_front : (m : ℕ) → 0 < m → nat_le (2048 + m) 2048 ≡ false
behind_front m some = not-true (nat_le (2048 + m) 2048) (λ is.
    let most = leb-true (2048 + m) 2048 is in omega (arith, most, some))

unfit_ends_by : (m text : ℕ) (sizes : Sizes) (fault : FormatFault) → 0 < m
    → sizes.atom ≡ 512 → sizes.main_atoms ≡ 2048 + m
    → unfit_by (wish_of demo_formatting) sizes demo_passphrase text ≡ Some fault
    → MayEndBy (cause_of_format fault)
unfolding unfit_by
unfit_ends_by m text sizes fault some atom atoms is =
    let late : nat_le sizes.main_atoms (1048576 / sizes.atom) ≡ false =
    ap (λ (n : ℕ). nat_le n (1048576 / sizes.atom)) atoms
    ∙ ap (λ (n : ℕ). nat_le (2048 + m) (1048576 / n)) atom ∙ behind_front m some in
    first_of_three (keyslots_size_for (wish_of demo_formatting)) (area_len 64) text 12287
    (nat_lt (keyslots_size_for (wish_of demo_formatting)) (area_len 64)) (nat_lt 12287 text)
    (nat_le sizes.main_atoms (1048576 / sizes.atom)) fault refl refl late is

pub unfit_ends : (m : ℕ) (sizes : Sizes) (pass seed : List ℕ) (fault : FormatFault) → 0 < m
    → sizes.atom ≡ 512 → sizes.main_atoms ≡ 2048 + m → pass ≡ demo_passphrase
    → IsUnfit (wish_of demo_formatting) sizes pass seed fault → MayEndBy (cause_of_format fault)
unfit_ends m sizes pass seed fault some atom atoms pass_is (inl memory) =
    subst (λ (f : FormatFault). MayEndBy (cause_of_format f)) (sym memory) tt
unfit_ends m sizes pass seed fault some atom atoms pass_is (inr first) =
    unfit_ends_by m (text_len (wish_of demo_formatting) seed) sizes fault some atom atoms
    (subst (λ (p : List ℕ). unfit_by (wish_of demo_formatting) sizes p
    (text_len (wish_of demo_formatting) seed) ≡ Some fault) pass_is first)

pub written_ends : (slot : SlotCommit) (calls : List SlotCall) (old new : DiskState)
    (result : Result (Unit {0}) Failed) (count : ℕ) (cause : Cause) → new.faults ≡ 0
    → MakesCalls slot calls old new result → cause ≡ cause_of_writing result count
    → MayEndBy cause
written_ends slot calls old new (Ok done) count cause none made is = may_end cause _ is tt
written_ends slot calls old new (Err failed) count cause none made is =
    absurd (calls_fail slot calls old new none made)

-- ---- a volume that isn't opened
-- the passphrase is tried
pub tried : (pass : List ℕ) → pass ≡ demo_passphrase → (0 < length pass) × (length pass ≤ 512)
tried pass is = subst (λ (p : List ℕ). (0 < length p) × (length p ≤ 512)) (sym is)
    (let long : length demo_passphrase ≡ 4 = refl in (omega (arith, long), omega (arith, long)))

pub not_untried : (pass : List ℕ) → pass ≡ demo_passphrase → IsNotTried pass → ⊥
not_untried pass is (inl none) = let long = (tried pass is).0 in omega (arith, none, long)
not_untried pass is (inr long) = let most = (tried pass is).1 in omega (arith, long, most)

-- by its header, which is one
unread_by : (fault : StoreFault) (held : Result Stored StoredRefusal) (stored : Stored)
    → held ≡ Ok stored → Says fault held → IsUnread fault
unread_by faults.Memory held stored is says = tt
unread_by faults.Device held stored is says = tt
unread_by (faults.NoHeader primary secondary) held stored is says = absurd (cc)
unread_by (faults.CopiesDiffer seqid place) held stored is says =
    absurd (let e = says.2 in cc)
unread_by (faults.Json fault) held stored is says = absurd (cc)
unread_by (faults.Rule fault) held stored is says = absurd (cc)

pub header_ends : (old new : DiskState) (fault : StoreFault) (count : ℕ) → new.faults ≡ 0
    → IsUnread fault → HasCause old new fault → MayEndBy (cause_of_store fault count)
header_ends old new faults.Memory count none unread cause = tt
header_ends old new faults.Device count none unread cause =
    absurd (none_rose old.faults new.faults none cause)
header_ends old new (faults.NoHeader primary secondary) count none unread cause = absurd unread
header_ends old new (faults.CopiesDiffer seqid place) count none unread cause = absurd unread
header_ends old new (faults.Json fault) count none unread cause = absurd unread
header_ends old new (faults.Rule fault) count none unread cause = absurd unread

pub unread : (device : DiskState) (bytes : List ℕ) (fault : StoreFault) (stored : Stored)
    → device.values ≡ Some bytes → stored_in (sizes_alone device) bytes ≡ Ok stored
    → TellsFault device fault → IsUnread fault
unread device bytes fault stored told held says =
    unread_by fault (stored_in (sizes_alone device) bytes) stored held (says bytes told)

-- by its keyslots
pub slots_end : (m : Parts) (sizes : Sizes) (pass : List ℕ) (old new : DiskState) (fault : SlotFault)
    (count : ℕ) → new.faults ≡ 0 → HasNoKey m sizes pass old new fault → IsCutShort (Err fault)
    → MayEndBy (cause_of_slots fault count)
slots_end m sizes pass old new slots.Memory count none has cut = tt
slots_end m sizes pass old new slots.Device count none has cut =
    absurd (none_rose old.faults new.faults none has.answered.right)
slots_end m sizes pass old new (slots.NoKey list) count none has cut = absurd cut
slots_end m sizes pass old new (slots.NoRoom wanted gap) count none has cut = absurd cut

-- by a call, or for memory
pub opening_ends : (old new : DiskState) (cause : OpenCause) (count : ℕ) → new.faults ≡ 0
    → IsShort cause → HasCauseIn old new cause → MayEndBy (cause_of_volume cause count)
opening_ends old new openings.Memory count none short has = tt
opening_ends old new openings.Device count none short has =
    absurd (none_rose old.faults new.faults none has)
opening_ends old new (openings.NoHeader primary secondary) count none short has = absurd short
opening_ends old new (openings.CopiesDiffer seqid place) count none short has = absurd short
opening_ends old new (openings.Json fault) count none short has = absurd short
opening_ends old new (openings.Rule fault) count none short has = absurd short
opening_ends old new openings.InProgress count none short has = absurd short
opening_ends old new (openings.KeyDiffers computed stored) count none short has = absurd short

-- a disk of a header that is handed back counts none
pub heads_stood : (header : Option RamDisk) → IfSome header (λ head. (ram_device head).faults ≡ 0)
heads_stood None = tt
heads_stood (Some head) = refl
