-- What the bytes of a disk hold behind sessions during which nothing was converted, where all was fine.
use Rattle.std.proofs.Common.{◌≡◌, ◌∙◌, ◌*◌, ◌<◌, Bool, true, false, ℕ, List, [], length, map, None, Option, Some}
use Rattle.std.proofs.Common.{ap, arith, refl, subst, sym}
use Rattle.std.proofs.lemmas.List.{append-nil, ext_get_or, get_or-map, length-map}
use Rattle.aes_core.specs.declared.cipher.Aes.{Aes}
use Rattle.base_terms.proofs.BlockLemmas.{joined-blocks_of}
use Rattle.base_terms.specs.Blocks.{blocks_of, joined}
use Rattle.bays.specs.Stories.{LinkState}
use Rattle.sector_disk.proofs.DiskViews.Entries.{blocks_of-at, length-blocks_of}
use Rattle.sector_disk.specs.DiskViews.Parts.{block_at}
use Rattle.header_report.specs.Examinations.{sizes_alone}
use Rattle.plain_disk.specs.Plain.{Block, newest_bytes, settled, settled_blocks}
use Rattle.recovery_laws.proofs.Served.CountLemmas.{legal-count}
use Rattle.reenc_tool.proofs.MidwayLemmas.{none-open}
use Rattle.reenc_tool.proofs.RestAtoms.{newest-at, run-leaves}
use Rattle.reenc_tool.proofs.RestLemmas.{RestLaws, stands-at-rest}
use Rattle.reenc_tool.proofs.RunLemmas.{VolumeTells}
use Rattle.reenc_tool.specs.Encrypted.{RanOver}
use Rattle.reenc_tool.specs.Outcomes.{Coming, Outcome}
use Rattle.reenc_tool.specs.Plain.{TellsNewest}
use Rattle.reenc_tool.specs.Runs.{HasServed, VolumeKeys}
use Rattle.reenc_tool.specs.Sessions.{cause_of, has_spent, most_events}
use Rattle.reenc_tool.specs.Standings.{failed_in}
use Rattle.reenc_tool.specs.declared.ended.Cause.TheVariants.{Fine}
use Rattle.reenc_worker.specs.declared.ends.WorkerEnd.{WorkerEnd}
use Rattle.sector_cipher.specs.declared.disk.DiskCipher.{DiskCipher}
use Rattle.sector_disk.specs.Devices.{Device}
use Rattle.sector_disk.specs.Geometry.{IsDisk}
use Rattle.recovery_laws.specs.Served.Ends.{StandsForNewest}
use Rattle.volume_laws.specs.Contents.{block_in, plain_blocks}
use Rattle.volume_laws.specs.Executing.{Executes}
use Rattle.volume_laws.specs.Promises.{GoesByEvents, IsServed, ServesEachRun, Starts}
use Rattle.volume_machine.specs.Answers.{AreExchanges, Tagged, untagged}
use Rattle.volume_machine.specs.Beginnings.{ChangeNothing, IsWholeDisk}
use Rattle.volume_machine.specs.Pieces.{side_in}
use Rattle.volume_machine.specs.Runs.{Happening, answered_in, last_of, no_plain}
use Rattle.volume_machine.specs.Seals.{Seals, seals_of}
use Rattle.volume_machine.specs.Sound.{IsSound}
use Rattle.volume_machine.specs.States.{State, open_at}
use Rattle.volume_opening.specs.Openings.{IsOpenedBy}

-- the laws of runs that this stands on
pub record RunLaws : Type 0 where
  pub serves : (start : State VolumeKeys) (seals : Seals) → ServesEachRun start seals
  pub untagged_are : (seals : Seals) (old new : State VolumeKeys) (run : List (Happening VolumeKeys))
      (history : List Tagged) → Executes seals old new run history
      → AreExchanges (answered_in seals old no_plain run) (untagged history)

-- where all was fine nothing is broken
fine-whole : (broken : Bool) (disk_faults : ℕ) (worker : Option WorkerEnd) (spent : Bool)
    (failed faults : ℕ) (memory : Bool)
    → cause_of broken disk_faults worker spent failed faults memory ≡ Fine → broken ≡ false
fine-whole true disk_faults worker spent failed faults memory is = absurd (cc)
fine-whole false disk_faults worker spent failed faults memory is = refl

-- ---- behind sessions
module _ (laws : RunLaws) {L : Type 0} (state : L → LinkState) (start : State VolumeKeys) (seals : Seals)
    (left : Device) (begun : List L) (came : Coming L)
    (served : HasServed state start seals left begun came) where
  abbrev last : State VolumeKeys
  last = last_of start served.run

  pub left-is : last.disk ≡ left
  left-is = ap (λ (v : State VolumeKeys). v.disk) served.did.last ∙ sym served.left_is

  pub along : GoesByEvents start served.run
  along = served.fails served.run [] (sym (append-nil served.run))

  pub is-served : (blocks : List Block) (bytes : List ℕ) → Starts start seals blocks bytes
      → IsServed start seals blocks served.run (untagged served.operations)
  is-served blocks bytes starts =
      laws.serves start seals blocks bytes served.run (untagged served.operations) starts served.did.is
      (laws.untagged_are seals start served.final served.run served.operations served.did)

  pub unbroken : came.cause ≡ Fine → last.broken ≡ false
  unbroken fine =
      ap (λ (v : State VolumeKeys). v.broken) served.did.last
      ∙ fine-whole served.final.broken served.final.disk.faults None (has_spent came.ends)
      (failed_in served.played.standings) served.played.faults came.memory
      (sym served.played.cause_is ∙ fine)

  -- an operation is left under way only where the history is full
  pub none-left : length served.run < most_events → (lane : ℕ) → open_at last.lanes lane ≡ None
  none-left few lane =
      ap (λ (v : State VolumeKeys). open_at v.lanes lane) served.did.last
      ∙ none-open (open_at served.final.lanes lane) (λ o at.
      (let full = (served.played.left lane o at).full in omega (arith, few, full)))

-- ---- an idle volume
module _ {D L : Type 0} {sector : DiskCipher Aes → ℕ}
    {sealed opened : DiskCipher Aes → ℕ → List ℕ → List ℕ} (laws : RunLaws) (rest : RestLaws)
    (device : D → Device) (state : L → LinkState) (disk : D) (pass : List ℕ) (lanes : ℕ)
    (start : State VolumeKeys)
    (by : IsOpenedBy sector sealed opened (device disk) pass lanes start)
    (geometry : IsDisk (device disk).size (device disk).atoms)
    (whole : (bytes : List ℕ) → (device disk).values ≡ Some bytes
    → length bytes ≡ (device disk).atoms * (device disk).size) (outcome : Outcome D L) where
  abbrev seals : Seals
  seals = seals_of sealed opened start.map.atom start.keys

  pub idle-at-rest : (first : List ℕ) → (told : (device disk).values ≡ Some first) → (begun : List L)
      → (ran : RanOver device state start seals begun outcome) → ran.came.cause ≡ Fine
      → length ran.served.run < most_events
      → StandsForNewest (sizes_alone (device disk)) pass start.map.atom (by.starts first told).content
      (untagged ran.served.operations) ran.left
  idle-at-rest first told begun ran fine few =
      let from = by.starts first told in
      let served = ran.served in
      subst (λ (d : Device). StandsForNewest (sizes_alone (device disk)) pass start.map.atom from.content
      (untagged served.operations) d) (left-is laws state start seals ran.left begun ran.came served)
      (stands-at-rest sector sealed opened (device disk) pass first lanes start by told geometry
      (whole first told) rest served.run served.did.is (untagged served.operations)
      (is-served laws state start seals ran.left begun ran.came served (settled_blocks from.content)
      from.now from.starts)
      (along laws state start seals ran.left begun ran.came served)
      (unbroken laws state start seals ran.left begun ran.came served fine)
      (none-left laws state start seals ran.left begun ran.came served few))

-- ---- a plain disk
module _ (laws : RunLaws) {L : Type 0} (state : L → LinkState) (start : State VolumeKeys) (seals : Seals)
    (left : Device) (begun : List L) (came : Coming L)
    (served : HasServed state start seals left begun came) (sound : IsSound start)
    (tells : VolumeTells start.map.atom start.disk)
    (whole : IsWholeDisk start.map.atom start.disk.atoms start.map) (nothing : ChangeNothing seals)
    (bytes : List ℕ) (told : start.disk.values ≡ Some bytes)
    (starts : Starts start seals (plain_blocks start bytes) bytes) (fine : came.cause ≡ Fine)
    (few : length served.run < most_events) where
  abbrev atom : ℕ
  atom = start.map.atom

  abbrev n : ℕ
  n = start.disk.atoms

  s : IsServed start seals (plain_blocks start bytes) served.run (untagged served.operations)
  s = is-served laws state start seals left begun came served (plain_blocks start bytes) bytes starts

  long : length s.now ≡ n * atom
  long =
      let kept = run-leaves start served.run bytes sound served.did.is
      (unbroken laws state start seals left begun came served fine) told (tells.whole bytes told) in
      let same : s.now ≡ kept.now =
      (let e : Some s.now ≡ Some kept.now = sym s.values ∙ kept.values in cc) in
      ap length same ∙ kept.size ∙ tells.whole bytes told

  block-is : (b : ℕ) → b < n → block_at atom s.now b ≡ (block_in s.left b).newest
  block-is b below =
      let inside : b < start.map.blocks = subst (λ (k : ℕ). b < k) (sym whole.blocks) below in
      let held = newest-at start seals (plain_blocks start bytes) served.run (untagged served.operations) s
      (along laws state start seals left begun came served) starts.fresh.rests
      (unbroken laws state start seals left begun came served fine)
      (none-left laws state start seals left begun came served few) b inside in
      ap (λ k. block_at atom s.now k) (sym (whole.places b inside)) ∙ held.1
      ∙ nothing.sealed (side_in start.map b) b (block_in s.left b).newest

  count-left : length s.left ≡ n
  count-left =
      legal-count atom (plain_blocks start bytes) s.left (untagged served.operations) s.legal
      ∙ starts.are.count ∙ whole.blocks

  are-newest : blocks_of atom n s.now ≡ map (λ block. block.newest) s.left
  are-newest =
      ext_get_or [] (blocks_of atom n s.now) (map (λ block. block.newest) s.left)
      (length-blocks_of atom n s.now ∙ sym count-left ∙ sym (length-map s.left (λ block. block.newest)))
      (λ b below.
      let inside : b < n = (let c = length-blocks_of atom n s.now in omega (arith, c, below)) in
      blocks_of-at atom n s.now b [] inside ∙ block-is b inside
      ∙ sym (get_or-map (λ block. block.newest) s.left b (settled []) []
      (let c = count-left in omega (arith, c, inside))))

  pub plain-at-rest : TellsNewest atom (plain_blocks start bytes) (untagged served.operations) left
  unfolding newest_bytes
  plain-at-rest = record {
    left = s.left;
    legal = s.legal;
    told = ap (λ (d : Device). d.values)
        (sym (left-is laws state start seals left begun came served))
        ∙ s.values ∙ ap Some (sym (joined-blocks_of atom n s.now long) ∙ ap joined are-newest);
  }
