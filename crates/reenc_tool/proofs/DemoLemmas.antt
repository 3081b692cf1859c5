-- The commands of a demonstration hand back the disk that the next one is given.
use Rattle.std.proofs.Common.{◌≡◌, ◌∙◌, ◌&&◌, Bool, true, ℕ, List, [], ◌∷◌, length, map, Option, Some}
use Rattle.std.proofs.Common.{None, inl, inr, ⊎_elim, ap, refl, subst, sym, Vec, Global}
use Rattle.std.specs.List.{list_all}
use Rattle.std.specs.Prelude.{IsSome}
use Rattle.bays.specs.Memory.{Line}
use Rattle.command_line.specs.Demonstrations.{Demonstrating}
use Rattle.demo_clients.specs.Replies.{AreReadBack}
use Rattle.demo_clients.specs.Texts.{demo_text}
use Rattle.memory_disks.specs.declared.ram_disk.RamDisk.{RamDisk}
use Rattle.nbd_session.specs.declared.ending.SessionEnd.{SessionEnd}
use Rattle.sha2.specs.Sha256.{sha256}
use Rattle.reenc_tool.specs.Demonstrating.{HasReadBack, has_disconnected}
use Rattle.bays.specs.declared.bay.BayFault.{BayFault}
use Rattle.bays.specs.declared.bay.BayFault.TheVariants as BayFaults
use Rattle.command_line.specs.Formats.{Formatting}
use Rattle.command_line.specs.Starts.{Starting}
use Rattle.io_edge.specs.Supply.{Supply}
use Rattle.sector_disk.specs.Devices.{Device as DiskState}
use Rattle.reenc_tool.specs.Asking.{BayView, UnderKey}
use Rattle.reenc_tool.specs.declared.ended.Cause.{Cause}
use Rattle.reenc_tool.specs.declared.ended.Cause.TheVariants.{Fine}
use Rattle.reenc_tool.specs.declared.ended.Failing.{Failing}
use Rattle.reenc_tool.specs.Making.{HasMade, IsOnOne, MakesBehind, wish_of}
use Rattle.reenc_tool.specs.Outcomes.{EndsSilently, Outcome, cause_of_fault}
use Rattle.reenc_tool.specs.Starting.{ComesToStart, HasStarted}

-- where all was fine a disk is handed back
abbrev pub HandsOn : {D L : Type 0} → Outcome D L → Type 0
HandsOn outcome = outcome.cause ≡ Fine → IsSome outcome.disk

pub unfine : (failing : Failing) (fault : BayFault) (count : ℕ) (cause : Cause) →
    cause ≡ cause_of_fault failing fault count → cause ≡ Fine → ⊥
unfine failing BayFaults.Failed count cause is fine = cc
unfine failing BayFaults.Memory count cause is fine = cc

is_some : {D : Type 0} (given : Option D) (disk : D) → given ≡ Some disk → IsSome given
is_some given disk is = subst IsSome (sym is) refl

-- nothing was given
unplaced_hands_on : {D L : Type 0} (failing : Failing) (fault : BayFault) (count : ℕ)
    (outcome : Outcome D L) (report : Option (List ℕ)) →
    EndsSilently None None outcome report (cause_of_fault failing fault count) → HandsOn outcome
unplaced_hands_on failing fault count outcome report (silent, is) fine =
    absurd (unfine failing fault count outcome.cause (ap (λ o. o.cause) is) fine)

-- a disk was handed back
back_hands_on : {D L : Type 0} (disk : D) (header : Option D) (outcome : Outcome D L)
    (report : Option (List ℕ)) (cause : Cause) →
    EndsSilently (Some disk) header outcome report cause → HandsOn outcome
back_hands_on disk header outcome report cause (silent, is) fine =
    is_some outcome.disk disk (ap (λ o. o.disk) is)

-- ---- `format` whose header lies on the disk of its data
made_on_one : {B D L : Type 0} (bay : BayView B D L) (format : Formatting) (seed : List ℕ)
    (disk : D) (between new : B) (outcome : Outcome D L) (report : Option (List ℕ)) →
    UnderKey bay format.key_file disk None between new outcome report
    (λ pass. IsOnOne bay.device (wish_of format) pass seed disk outcome report) → HandsOn outcome
made_on_one bay format seed disk between new outcome report (inl has) fine =
    is_some outcome.disk has.came.1.back (ap (λ o. o.disk) has.came.1.outcome_is)
made_on_one bay format seed disk between new outcome report (inr unkeyed) fine =
    back_hands_on disk None outcome report _ unkeyed.ended fine

pub made_hands_on : {B D L : Type 0} (bay : BayView B D L) (format : Formatting)
    (supply now : Supply) (old new : B) (outcome : Outcome D L) (report : Option (List ℕ)) →
    format.header ≡ None → HasMade bay format supply now old new outcome report → HandsOn outcome
made_hands_on bay format supply now old new outcome report alone (inl (none, unseeded)) fine =
    absurd (let e = ap (λ o. o.cause) unseeded.outcome_is in cc)
made_hands_on bay format supply now old new outcome report alone
    (inr (seed, has, inr unplaced)) fine =
    unplaced_hands_on _ unplaced.fault _ outcome report unplaced.ended fine
made_hands_on bay format supply now old new outcome report alone (inr (seed, has, inl placed)) fine =
    made_on_one bay format seed placed.given placed.between new outcome report
    (subst (λ (header : Option (List ℕ)). MakesBehind bay format seed header placed.given
    placed.between new outcome report) alone placed.came) fine

-- ---- `init`
started_on : {D L : Type 0} (device : D → DiskState) (words : Starting) (pass seed : List ℕ)
    (disk : D) (outcome : Outcome D L) (report : Option (List ℕ)) →
    ComesToStart device words pass seed disk outcome report → HandsOn outcome
started_on device words pass seed disk outcome report (inl started) fine =
    is_some outcome.disk started.back (ap (λ o. o.disk) started.outcome_is)
started_on device words pass seed disk outcome report (inr (inl unstarted)) fine =
    is_some outcome.disk unstarted.back (ap (λ o. o.disk) unstarted.outcome_is)
started_on device words pass seed disk outcome report (inr (inr untold)) fine =
    back_hands_on disk None outcome report _ untold fine

pub started_hands_on : {B D L : Type 0} (bay : BayView B D L) (words : Starting)
    (supply now : Supply) (old new : B) (outcome : Outcome D L) (report : Option (List ℕ)) →
    HasStarted bay words supply now old new outcome report → HandsOn outcome
started_hands_on bay words supply now old new outcome report (inl (none, unseeded)) fine =
    absurd (let e = ap (λ o. o.cause) unseeded.outcome_is in cc)
started_hands_on bay words supply now old new outcome report (inr (seed, has, inr unplaced)) fine =
    unplaced_hands_on _ unplaced.fault _ outcome report unplaced.ended fine
started_hands_on bay words supply now old new outcome report (inr (seed, has, inl placed)) fine =
    ⊎_elim
    (λ key. started_on bay.device words key.given seed placed.given outcome report key.came.1 fine)
    (λ unkeyed. back_hands_on placed.given None outcome report _ unkeyed.ended fine) placed.came

-- ---- what the clients read
all_mapped : {E : Type 0} (P : List E → Bool) (lists : List (Vec E Global))
    → list_all P (map (λ list. list.items) lists) ≡ list_all (λ list. P list.items) lists
all_mapped P [] = refl
all_mapped P (list ∷ lists) = ap (λ (b : Bool). P list.items && b) (all_mapped P lists)

pub read_so : (demo : Demonstrating) (served : Outcome RamDisk Line)
    (lists : List (Vec SessionEnd Global)) (links : List Line) (content text : List ℕ)
    → served.ends ≡ map (λ list. list.items) lists
    → list_all (λ list. has_disconnected list.items) lists ≡ true → links ≡ served.links
    → length links ≡ demo.workers
    → AreReadBack demo.seed demo.blocks (length links) 0 links content
    → text ≡ demo_text demo.seed demo.blocks demo.workers (sha256 content)
    → HasReadBack demo served (Some text)
read_so demo served lists links content text ends all same count read is = record {
  links = ap (λ (l : List Line). length l) (sym same) ∙ count;
  disconnected = ap (list_all has_disconnected) ends ∙ all_mapped has_disconnected lists ∙ all;
  content = content;
  read = subst (λ (l : List Line). AreReadBack demo.seed demo.blocks demo.workers 0 l content) same
      (subst (λ (k : ℕ). AreReadBack demo.seed demo.blocks k 0 links content) count read);
  report_is = ap Some is;
}
