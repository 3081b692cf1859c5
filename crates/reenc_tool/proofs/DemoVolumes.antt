-- The volume of a demonstration, as `format` makes it and `init` hands it on: what its disk stands for.
use Rattle.std.proofs.Common.{◌≡◌, ◌∙◌, ◌+◌, ◌-◌, ◌*◌, ◌/◌, ℕ, List, length, take, Option, Some, None}
use Rattle.std.proofs.Common.{Ok, Err, Result, inl, inr, ⊎_elim, ap, refl, sym, subst, arith}
use Rattle.std.proofs.lemmas.List.FromFn.{length-map-range_with_len}
use Rattle.base_terms.specs.declared.failed.Failed.{Failed}
use Rattle.bays.specs.Bays.{LeavesAll, LeavesOtherDisks}
use Rattle.bays.specs.Memory.{Line}
use Rattle.bays.specs.Stories.{Script}
use Rattle.command_line.specs.Demonstrations.{Demonstrating}
use Rattle.base_terms.specs.declared.disk_sizes.Sizes.{Sizes}
use Rattle.demo_clients.specs.DemoBays.{Supplies, demo_holdings}
use Rattle.demo_clients.specs.DemoBays.{demo_name, demo_passphrase, ram_device}
use Rattle.header_report.specs.Examinations.{sizes_alone}
use Rattle.image_laws.specs.Made.Standing.{block_count, content_of, unsealed_block}
use Rattle.hotzone.specs.Sites.{IsSaved}
use Rattle.io_edge.specs.Supply.{Supply}
use Rattle.luks_format.specs.DiskFormat.Fitting.{draw_of}
use Rattle.luks_format.specs.DiskFormat.Written.{AreOpened, written_over}
use Rattle.luks_init.specs.DiskInit.Answers.{IsBegunUnder}
use Rattle.luks_rules.specs.Shapes.{progress_of}
use Rattle.luks_rules.specs.declared.shape.Progress.{Progress}
use Rattle.luks_store.proofs.SlotCommits.MovedLemmas.{same_sizes}
use Rattle.luks_store.specs.Devices.{front_of}
use Rattle.luks_store.specs.Loads.{stored_in}
use Rattle.luks_store.specs.SlotCommits.Calls.{slot_calls}
use Rattle.luks_store.specs.declared.loaded.Stored.{Stored}
use Rattle.memory_disks.specs.declared.ram_disk.RamDisk.{RamDisk}
use Rattle.reenc_recovery.specs.Calls.{DiskOpeningRun}
use Rattle.reenc_recovery.specs.Images.{StandsFor}
use Rattle.reenc_recovery.specs.Placings.{RestsIn}
use Rattle.luks_store.specs.declared.header_copies.repair.Repair.{Repair}
use Rattle.sector_disk.specs.Devices.{Device, succeeded}
use Rattle.reenc_tool.specs.declared.ended.Cause.{Cause}
use Rattle.reenc_tool.specs.declared.ended.Cause.TheVariants.{Fine}
use Rattle.reenc_tool.specs.Demonstrating.{PutsBack, demo_formatting, demo_starting, demo_view}
use Rattle.reenc_tool.specs.Asking.{IsGiven, key_named}
use Rattle.reenc_tool.specs.Making.{ComesTo, HasMade, IsOnOne}
use Rattle.reenc_tool.specs.Making.{cause_of_writing, wish_of}
use Rattle.reenc_tool.specs.Outcomes.{Outcome}
use Rattle.reenc_tool.specs.Starting.{ComesToStart, HasStarted, wish_of as init_wish_of}
use Rattle.reenc_tool.proofs.DemoHeaders.{IsFormatted, front_whole, is_formatted, same_header}
use Rattle.reenc_tool.proofs.DemoLemmas.{unfine}
use Rattle.reenc_tool.proofs.DemoWritten.{next, next_held, next_saves}
use Rattle.reenc_tool.proofs.FineLemmas.{unfine_format, unfine_start}

-- ---- the bay
-- it holds a disk, the passphrase and what the clients are to send
pub record Holds (bay : Supplies) (disk : RamDisk) (scripts : List Script) : Type 0 where
  pub there : bay.disk ≡ Some disk
  pub key : (demo_holdings bay).keyring demo_name ≡ Some demo_passphrase
  pub clients : (demo_holdings bay).inputs demo_name ≡ Some scripts

-- so it does once its disk was given and one was put back
pub holds_again : (old between new back : Supplies) (disk put : RamDisk) (scripts : List Script)
    → Holds old disk scripts
    → LeavesOtherDisks demo_name (demo_holdings old) (demo_holdings between)
    → LeavesAll (demo_holdings between) (demo_holdings new)
    → back ≡ record new { disk = Some put } → Holds back put scripts
holds_again old between new back disk put scripts holds first after is =
    subst (λ (b : Supplies). Holds b put scripts) (sym is) (record {
      there = refl;
      key = ap (λ (keys : List ℕ → Option (List ℕ)). keys demo_name) (after.keys ∙ first.keys)
          ∙ holds.key;
      clients = ap (λ (inputs : List ℕ → Option (List Script)). inputs demo_name)
          (after.clients ∙ first.clients) ∙ holds.clients;
    })

-- the passphrase that is given is the four bytes
pub same_pass : (keys : Option (List ℕ)) (pass : List ℕ) → keys ≡ Some demo_passphrase
    → ((whole : List ℕ) → keys ≡ Some whole → pass ≡ take 513 whole) → pass ≡ demo_passphrase
same_pass keys pass is whole = whole demo_passphrase is

-- ---- what a disk stands for
-- its bytes stand under the passphrase for a content of so many blocks, in atoms of 512 bytes
pub record Stands (disk : RamDisk) (blocks : ℕ) : Type 0 where
  pub content : List (List ℕ)
  pub stands : StandsFor (sizes_alone (ram_device disk)) demo_passphrase disk.bytes.items content
  pub count : length content ≡ blocks

-- ---- `format`
fine_writing : (result : Result (Unit {0}) Failed) (faults : ℕ) (cause : Cause)
    → cause ≡ cause_of_writing result faults → cause ≡ Fine → result ≡ succeeded
fine_writing (Ok done) faults cause is fine = refl
fine_writing (Err failed) faults cause is fine = absurd (cc)

-- the sizes of a disk that tells as many atoms of as many bytes
same_alone : (one other : Device) → other.size ≡ one.size → other.atoms ≡ one.atoms
    → sizes_alone one ≡ sizes_alone other
same_alone one other size atoms =
    ap (λ (n : ℕ). sizes_alone (record one { size = n })) (sym size)
    ∙ ap (λ (n : ℕ). sizes_alone (record one { size = other.size; atoms = n })) (sym atoms)

counted : (m : ℕ) → ((2048 + m) * 512 - 1048576) / 512 ≡ m
counted m = grind arith

-- so many blocks lie behind byte 1048576
count_of : (m : ℕ) (sizes : Sizes) (key bytes : List ℕ) → sizes.atom ≡ 512
    → sizes.main_atoms ≡ 2048 + m → length (content_of (wish_of demo_formatting) sizes key bytes) ≡ m
unfolding content_of
count_of m sizes key bytes atom atoms =
    length-map-range_with_len (unsealed_block (wish_of demo_formatting) sizes key bytes) 0
    (block_count (wish_of demo_formatting) sizes)
    ∙ ap (λ (n : ℕ). (n * sizes.atom - 1048576) / sizes.atom) atoms
    ∙ ap (λ (n : ℕ). ((2048 + m) * n - 1048576) / n) atom
    ∙ counted m

-- the bytes of a disk, by what it tells
bytes_are : (disk : RamDisk) (bytes : List ℕ) → (ram_device disk).values ≡ Some bytes
    → bytes ≡ disk.bytes.items
bytes_are disk bytes is = let e : Some disk.bytes.items ≡ Some bytes = is in cc

made_stands : (demo : Demonstrating) (disk back : RamDisk) (pass seed : List ℕ) (cause : Cause)
    (report : Option (List ℕ)) → pass ≡ demo_passphrase → disk.atom ≡ 512
    → disk.atoms ≡ 2048 + demo.blocks → cause ≡ Fine
    → ComesTo ram_device (wish_of demo_formatting) (sizes_alone (ram_device disk)) pass seed disk back
    cause report
    → Stands back demo.blocks
made_stands demo disk back pass seed cause report pass_is atom atoms fine (inr unmade) =
    absurd (unfine_format unmade.fault (sym unmade.cause_is ∙ fine))
made_stands demo disk back pass seed cause report pass_is atom atoms fine (inl made) =
    let wish = wish_of demo_formatting in
    let sizes = sizes_alone (ram_device disk) in
    let done = fine_writing made.result (ram_device back).faults cause made.cause_is fine in
    let (values, stands, rests) = made.written done disk.bytes.items refl in
    let kept = same_sizes made.volume.slot slot_calls (ram_device disk) (ram_device back)
    made.result made.writes in
    let content = content_of wish sizes (draw_of wish seed).key disk.bytes.items in
    let text = written_over made.volume disk.bytes.items in
    record {
      content = content;
      stands = subst (λ (z : Sizes). StandsFor z demo_passphrase back.bytes.items content)
          (same_alone (ram_device disk) (ram_device back) kept.0 kept.1)
          (subst (λ (b : List ℕ). StandsFor sizes demo_passphrase b content)
          (bytes_are back text values)
          (subst (λ (p : List ℕ). StandsFor sizes p text content) pass_is stands));
      count = count_of demo.blocks sizes (draw_of wish seed).key disk.bytes.items atom atoms;
    }

-- and it is one of a new volume
made_formatted : AreOpened → (disk back : RamDisk) (pass seed : List ℕ) (cause : Cause)
    (report : Option (List ℕ)) → disk.atom ≡ 512 → cause ≡ Fine
    → ComesTo ram_device (wish_of demo_formatting) (sizes_alone (ram_device disk)) pass seed disk back
    cause report
    → IsFormatted back
made_formatted opened disk back pass seed cause report atom fine (inr unmade) =
    absurd (unfine_format unmade.fault (sym unmade.cause_is ∙ fine))
made_formatted opened disk back pass seed cause report atom fine (inl made) =
    let done = fine_writing made.result (ram_device back).faults cause made.cause_is fine in
    let (values, stands, rests) = made.written done disk.bytes.items refl in
    let kept = same_sizes made.volume.slot slot_calls (ram_device disk) (ram_device back)
    made.result made.writes in
    is_formatted opened disk back pass seed disk.bytes.items made.volume atom kept.0 kept.1 made.is
    (sym (bytes_are back (written_over made.volume disk.bytes.items) values)) rests

-- what the bay holds behind a command, and what its disk stands for
pub record HandsOver (bay : Supplies) (scripts : List Script) (blocks : ℕ) : Type 0 where
  pub disk : RamDisk
  pub holds : Holds bay disk scripts
  pub stands : Stands disk blocks
  pub format : IsFormatted disk

same_disk : {D : Type 0} (given : Option D) (one other : D) → given ≡ Some one → given ≡ Some other
    → one ≡ other
same_disk given one other is too = cc

formatted_by : AreOpened → (demo : Demonstrating) (old : Supplies) (first : RamDisk) (scripts : List Script)
    (between new back : Supplies) (disk : RamDisk) (seed : List ℕ) (outcome : Outcome RamDisk Line)
    (report : Option (List ℕ)) → Holds old first scripts → disk ≡ first → first.atom ≡ 512
    → first.atoms ≡ 2048 + demo.blocks
    → LeavesOtherDisks demo_name (demo_holdings old) (demo_holdings between)
    → IsGiven demo_view (key_named demo_view demo_name) between (λ pass after. (new ≡ after)
    × IsOnOne ram_device (wish_of demo_formatting) pass seed disk outcome report) → PutsBack outcome new back → HandsOver back scripts demo.blocks
formatted_by opened demo old first scripts between new back disk seed outcome report holds disk_is atom
    atoms leaves has puts =
    let pass_is = same_pass ((demo_holdings between).keyring demo_name) has.given
    (ap (λ (keys : List ℕ → Option (List ℕ)). keys demo_name) leaves.keys ∙ holds.key) has.is in
    let one = has.came.1 in
    let put : one.back ≡ puts.disk =
    same_disk outcome.disk one.back puts.disk (ap (λ o. o.disk) one.outcome_is) puts.disk_is in
    let stands = made_stands demo disk one.back has.given seed outcome.cause report pass_is
    (ap (λ (d : RamDisk). d.atom) disk_is ∙ atom) (ap (λ (d : RamDisk). d.atoms) disk_is ∙ atoms)
    puts.fine one.came in
    record {
      disk = puts.disk;
      holds = holds_again old between new back first puts.disk scripts holds leaves
          (subst (λ (b : Supplies). LeavesAll (demo_holdings between) (demo_holdings b))
          (sym has.came.0) has.leaves) puts.back_is;
      stands = subst (λ (d : RamDisk). Stands d demo.blocks) put stands;
      format = subst (λ (d : RamDisk). IsFormatted d) put
          (made_formatted opened disk one.back has.given seed outcome.cause report
          (ap (λ (d : RamDisk). d.atom) disk_is ∙ atom) puts.fine one.came);
    }

pub formatted : AreOpened → (demo : Demonstrating) (old : Supplies) (first : RamDisk) (scripts : List Script)
    (supply now : Supply) (new back : Supplies) (outcome : Outcome RamDisk Line)
    (report : Option (List ℕ)) → Holds old first scripts → first.atom ≡ 512
    → first.atoms ≡ 2048 + demo.blocks
    → HasMade demo_view demo_formatting supply now old new
    outcome report
    → PutsBack outcome new back → HandsOver back scripts demo.blocks
formatted opened demo old first scripts supply now new back outcome report holds atom atoms
    (inl (none, unseeded)) puts =
    absurd (let e = ap (λ o. o.cause) unseeded.outcome_is in let f = puts.fine in cc)
formatted opened demo old first scripts supply now new back outcome report holds atom atoms
    (inr (seed, has, inr unplaced)) puts =
    absurd (unfine _ unplaced.fault _ _ (ap (λ o. o.cause) unplaced.ended.1) puts.fine)
formatted opened demo old first scripts supply now new back outcome report holds atom atoms
    (inr (seed, has, inl placed)) puts =
    ⊎_elim (λ key. formatted_by opened demo old first scripts placed.between new back placed.given seed
    outcome report holds (placed.is.kept first holds.there) atom atoms placed.leaves key puts)
    (λ unkeyed. absurd (unfine _ unkeyed.fault _ _ (ap (λ o. o.cause) unkeyed.ended.1)
    puts.fine)) placed.came

-- ---- `init`
opening_sizes : (repair : Option Repair) (old new : Device)
    → DiskOpeningRun repair old new succeeded → (new.size ≡ old.size) × (new.atoms ≡ old.atoms)
opening_sizes None old new run = (
  ap (λ (d : Device). d.size) run.run ∙ run.first.unwritten.size ∙ run.first.sync.size,
  ap (λ (d : Device). d.atoms) run.run ∙ run.first.unwritten.atoms ∙ run.first.sync.atoms,
)
opening_sizes (Some repair) old new run = (
  run.run.sync.size ∙ run.run.write.size ∙ run.first.unwritten.size ∙ run.first.sync.size,
  run.run.sync.atoms ∙ run.run.write.atoms ∙ run.first.unwritten.atoms ∙ run.first.sync.atoms,
)

-- of its conversion's zones something is saved, by the header in its bytes
abbrev pub Saves : RamDisk → Type 0
Saves disk = (stored : Stored) (now : Progress)
    → stored_in (sizes_alone (ram_device disk))
    (front_of (sizes_alone (ram_device disk)) disk.bytes.items) ≡ Ok stored
    → progress_of stored.valid.meta (sizes_alone (ram_device disk)) ≡ Some now
    → IsSaved now.conversion.resilience

-- a conversion is under way in its bytes, which stand so, and no zone of it is open
pub record Begins (disk : RamDisk) (blocks : ℕ) : Type 0 where
  pub stands : Stands disk blocks
  pub busy : RestsIn (sizes_alone (ram_device disk)) disk.bytes.items → ⊥
  pub atom : disk.atom ≡ 512
  pub saves : Saves disk

begun_saves : (disk back : RamDisk) (pass seed : List ℕ) → disk.atom ≡ 512
    → sizes_alone (ram_device disk) ≡ sizes_alone (ram_device back)
    → IsBegunUnder (ram_device disk) (init_wish_of demo_starting) pass seed (ram_device back)
    succeeded
    → Saves back
begun_saves disk back pass seed atom same under stored now held known =
    let bytes = back.bytes.items in
    let after = next (ram_device disk) (ram_device back) pass seed disk.bytes.items bytes atom refl
    under in
    let there : stored_in (sizes_alone (ram_device back)) bytes ≡ Ok after =
    subst (λ (z : Sizes). stored_in z bytes ≡ Ok after) same
    (next_held (ram_device disk) (ram_device back) pass seed disk.bytes.items bytes atom refl under
    refl) in
    let here : stored_in (sizes_alone (ram_device back)) bytes ≡ Ok stored =
    subst (λ (b : List ℕ). stored_in (sizes_alone (ram_device back)) b ≡ Ok stored)
    (front_whole back) held in
    let one = same_header (sizes_alone (ram_device back)) bytes stored after here there in
    next_saves (ram_device disk) (ram_device back) pass seed disk.bytes.items bytes atom refl under now
    (subst (λ (z : Sizes). progress_of after.valid.meta z ≡ Some now) (sym same)
    (subst (λ (s : Stored). progress_of s.valid.meta (sizes_alone (ram_device back)) ≡ Some now) one
    known))

begun_stands : (blocks : ℕ) (disk back : RamDisk) (pass seed : List ℕ) → pass ≡ demo_passphrase
    → disk.atom ≡ 512 → Stands disk blocks
    → IsBegunUnder (ram_device disk) (init_wish_of demo_starting) pass seed (ram_device back)
    succeeded
    → Begins back blocks
begun_stands blocks disk back pass seed pass_is atom stands under =
    let sizes = sizes_alone (ram_device disk) in
    let read = under.unlocked.unwritten in
    let has = under.begun.held disk.bytes.items read.values refl back.bytes.items refl in
    let old = has.stands stands.content (subst (λ (p : List ℕ).
    StandsFor sizes p disk.bytes.items stands.content) (sym pass_is) stands.stands) in
    let opening = opening_sizes under.begun.repair under.read under.begun.between under.begun.opening
    in
    let slot = same_sizes under.begun.slot slot_calls under.begun.between (ram_device back) succeeded
    under.begun.slot_calls in
    let same = same_alone (ram_device disk) (ram_device back)
    (slot.0 ∙ opening.0 ∙ read.size) (slot.1 ∙ opening.1 ∙ read.atoms) in
    record {
      stands = record {
        content = stands.content;
        stands = subst (λ (z : Sizes). StandsFor z demo_passphrase back.bytes.items stands.content)
            same (subst (λ (p : List ℕ). StandsFor sizes p back.bytes.items stands.content) pass_is
            old.1.stands);
        count = stands.count;
      };
      busy = subst (λ (z : Sizes). RestsIn z back.bytes.items → ⊥) same has.busy;
      atom = slot.0 ∙ opening.0 ∙ read.size ∙ atom;
      saves = begun_saves disk back pass seed atom same under;
    }

pub record HandsBegun (bay : Supplies) (scripts : List Script) (blocks : ℕ) : Type 0 where
  pub disk : RamDisk
  pub holds : Holds bay disk scripts
  pub begins : Begins disk blocks

started_on : (blocks : ℕ) (disk back : RamDisk) (pass seed : List ℕ)
    (outcome : Outcome RamDisk Line) (report : Option (List ℕ)) → pass ≡ demo_passphrase
    → disk.atom ≡ 512 → Stands disk blocks → outcome.cause ≡ Fine → outcome.disk ≡ Some back
    → ComesToStart ram_device demo_starting pass seed disk outcome report → Begins back blocks
started_on blocks disk back pass seed outcome report pass_is atom stands fine back_is (inl started) =
    subst (λ (d : RamDisk). Begins d blocks)
    (same_disk outcome.disk started.back back (ap (λ o. o.disk) started.outcome_is) back_is)
    (begun_stands blocks disk started.back pass seed pass_is atom stands started.started)
started_on blocks disk back pass seed outcome report pass_is atom stands fine back_is
    (inr (inl unstarted)) =
    absurd (unfine_start unstarted.refusal (ram_device unstarted.back).faults
    (sym (ap (λ o. o.cause) unstarted.outcome_is) ∙ fine))
started_on blocks disk back pass seed outcome report pass_is atom stands fine back_is
    (inr (inr (none, untold))) =
    absurd (let e = ap (λ o. o.cause) untold in cc)

started_by : (blocks : ℕ) (old : Supplies) (first : RamDisk) (scripts : List Script)
    (between new back : Supplies) (disk : RamDisk) (seed : List ℕ) (outcome : Outcome RamDisk Line)
    (report : Option (List ℕ)) → Holds old first scripts → first.atom ≡ 512 → Stands first blocks
    → disk ≡ first
    → LeavesOtherDisks demo_name (demo_holdings old) (demo_holdings between)
    → IsGiven demo_view (key_named demo_view demo_name) between (λ pass after. (new ≡ after)
    × ComesToStart ram_device demo_starting pass seed disk outcome report)
    → PutsBack outcome new back → HandsBegun back scripts blocks
started_by blocks old first scripts between new back disk seed outcome report holds atom stands disk_is
    leaves has puts =
    let pass_is = same_pass ((demo_holdings between).keyring demo_name) has.given
    (ap (λ (keys : List ℕ → Option (List ℕ)). keys demo_name) leaves.keys ∙ holds.key) has.is in
    record {
      disk = puts.disk;
      holds = holds_again old between new back first puts.disk scripts holds leaves
          (subst (λ (b : Supplies). LeavesAll (demo_holdings between) (demo_holdings b))
          (sym has.came.0) has.leaves) puts.back_is;
      begins = started_on blocks disk puts.disk has.given seed outcome report pass_is
          (ap (λ (d : RamDisk). d.atom) disk_is ∙ atom) (subst (λ (d : RamDisk). Stands d blocks) (sym disk_is) stands) puts.fine puts.disk_is
          has.came.1;
    }

pub started : (blocks : ℕ) (old : Supplies) (first : RamDisk) (scripts : List Script)
    (supply now : Supply) (new back : Supplies) (outcome : Outcome RamDisk Line)
    (report : Option (List ℕ)) → Holds old first scripts → first.atom ≡ 512 → Stands first blocks
    → HasStarted demo_view demo_starting supply now old new
    outcome report
    → PutsBack outcome new back → HandsBegun back scripts blocks
started blocks old first scripts supply now new back outcome report holds atom stands
    (inl (none, unseeded)) puts =
    absurd (let e = ap (λ o. o.cause) unseeded.outcome_is in let f = puts.fine in cc)
started blocks old first scripts supply now new back outcome report holds atom stands
    (inr (seed, has, inr unplaced)) puts =
    absurd (unfine _ unplaced.fault _ _ (ap (λ o. o.cause) unplaced.ended.1) puts.fine)
started blocks old first scripts supply now new back outcome report holds atom stands
    (inr (seed, has, inl placed)) puts =
    ⊎_elim (λ key. started_by blocks old first scripts placed.between new back placed.given seed outcome
    report holds atom stands (placed.is.kept first holds.there) placed.leaves key puts)
    (λ unkeyed. absurd (unfine _ unkeyed.fault _ _ (ap (λ o. o.cause) unkeyed.ended.1)
    puts.fine)) placed.came
