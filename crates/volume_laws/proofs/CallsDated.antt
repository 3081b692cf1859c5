-- The texts that the copies' places are handed, along a zone's device calls: each means the header
-- that the commit at hand leads from, an older one, or the next one.
use Rattle.std.proofs.Common.{List, inl, inr, refl, ℕ, ◌≢◌}
use Rattle.volume_machine.specs.Seals.{Seals}
use Rattle.volume_machine.specs.Works.{Work}
use Rattle.crash_laws.proofs.HeaderAreas.TextsHanded.{dated_failed, dated_step}
use Rattle.crash_laws.specs.HeaderAreas.Commits.{Stage, begun, first_written, first_kept, second_written}
use Rattle.crash_laws.specs.HeaderAreas.Commits.{Follows, IsDated, WasHanded, handed_by}
use Rattle.crash_laws.specs.HeaderAreas.Commits.{next_stage}
use Rattle.crash_laws.specs.HeaderAreas.Headers.{Handed, Header, IsHeader, Reader, primary}
use Rattle.crash_laws.specs.HeaderAreas.Headers.{secondary}
use Rattle.crash_laws.specs.HotZones.Calls.{IsFirst}
use Rattle.crash_laws.specs.HotZones.Zones.{Hotzone, Phase, saving, opening, writing, mending, moving}
use Rattle.crash_laws.specs.HotZones.Zones.{shifting, turning, from_of, to_of, stage_of}
use Rattle.sector_disk.specs.Devices.{Device}
use Rattle.volume_machine.specs.Courses.{IsToOpen, Succeeds, last_from}
use Rattle.volume_machine.specs.WorkCalls.{StepFails, ZoneStep, arrives, keeps, move_fails, moves}
use Rattle.volume_machine.specs.WorkCalls.{open_fails, opens, read_fails, reads, save_fails, saves}
use Rattle.volume_machine.specs.WorkCalls.{settles, shift_fails, shifts, sync_fails, turn_fails}
use Rattle.volume_machine.specs.WorkCalls.{turns, write_fails, writes}
use Rattle.volume_machine.specs.Works.{Part}
use Rattle.volume_laws.specs.Handing.{handed_in}

-- what is dated in a phase
abbrev pub DatedIn : Reader (List ℕ) → Hotzone (List ℕ) → Phase → Handed → Type 0
DatedIn reader zone phase handed =
    IsDated reader (from_of zone phase) (to_of zone phase) (stage_of phase) handed

-- before anything of the next header was written, it may be any
pub any_dated : {reader : Reader (List ℕ)} {from to : Header (List ℕ)} {handed : Handed}
    (next : Header (List ℕ)) → IsDated reader from to begun handed
    → IsDated reader from next begun handed
any_dated next dated = record {
  later = tt;
  each = λ copy text m has valid. elim (dated.each copy text m has valid) [
    | inl same ↦ inl same
    | inr (inl older) ↦ inr (inl older)
    | inr (inr (was, same)) ↦ absurd (never copy was)
  ];
}
  where
    never : (copy : _) → WasHanded copy begun → ⊥
    never primary was = was
    never secondary was = was

-- the next header's text was handed, or its call made, whatever came of it
module _ (reader : Reader (List ℕ)) (from to : Header (List ℕ)) {handed : Handed}
    (of_to : IsHeader reader to) (follows : Follows reader from.means to.means) where
  pub called_on : (stage : Stage) → stage ≢ second_written → IsDated reader from to stage handed
      → IsDated reader from to (next_stage stage) (handed_by stage to handed)
  called_on begun goes dated = dated_step reader from to to begun handed of_to follows dated
  called_on first_written goes dated =
      dated_step reader from to to first_written handed of_to follows dated
  called_on first_kept goes dated =
      dated_step reader from to to first_kept handed of_to follows dated
  called_on second_written goes dated = absurd (goes refl)

  pub called_last : (after : Header (List ℕ)) → IsDated reader from to second_written handed
      → IsDated reader to after begun handed
  called_last after dated =
      dated_step reader from to after second_written handed of_to follows dated

-- ---- a step of a zone
module _ (reader : Reader (List ℕ)) {seals : Seals} {atom : ℕ} {work : Work} {old new : Device}
    {handed : Handed} where
  pub step_dated : {phase next : Phase} {part next_part : Part}
      → ZoneStep seals atom work old new phase part next next_part
      → ((IsFirst phase → ⊥) → IsToOpen phase
      → Succeeds reader work.zone.before work.zone.opened)
      → ((IsFirst phase → ⊥)
      → Succeeds reader (last_from work.zone phase) work.zone.moved)
      → DatedIn reader work.zone phase handed
      → DatedIn reader work.zone next (handed_in phase next work.zone work.zone handed)
  step_dated (reads (saving n) first count text is counted any long call) opens_so moves_so dated =
      dated
  step_dated (reads (opening stage) first count text is counted any long call) opens_so moves_so
      dated = absurd is
  step_dated (reads (writing n) first count text is counted any long call) opens_so moves_so dated =
      dated
  step_dated (reads (mending n) first count text is counted any long call) opens_so moves_so dated =
      absurd is
  step_dated (reads (moving stage) first count text is counted any long call) opens_so moves_so
      dated = absurd is
  step_dated (reads (shifting n) first count text is counted any long call) opens_so moves_so dated =
      dated
  step_dated (reads (turning stage) first count text is counted any long call) opens_so moves_so
      dated = absurd is
  step_dated (saves first count text saved it any call) opens_so moves_so dated = dated
  step_dated (keeps part call) opens_so moves_so dated = dated
  step_dated (opens stage part goes call) opens_so moves_so dated =
      let succeeds = opens_so (λ never. never) tt in
      called_on reader work.zone.before work.zone.opened succeeds.is succeeds.follows stage
      goes dated
  step_dated (writes n count text next any is call) opens_so moves_so dated = dated
  step_dated (settles part call) opens_so moves_so dated = dated
  step_dated (moves stage part goes call) opens_so moves_so dated =
      let succeeds = moves_so (λ never. never) in
      called_on reader work.zone.opened work.zone.moved succeeds.is succeeds.follows stage
      goes dated
  step_dated (shifts n count text next any is within call) opens_so moves_so dated = dated
  step_dated (arrives part call) opens_so moves_so dated = dated
  step_dated (turns stage part goes call) opens_so moves_so dated =
      let succeeds = moves_so (λ never. never) in
      called_on reader work.zone.before work.zone.moved succeeds.is succeeds.follows stage
      goes dated

  pub fault_dated : {phase next : Phase} {part : Part}
      → StepFails seals atom work old new phase part next
      → ((IsFirst phase → ⊥) → IsToOpen phase
      → Succeeds reader work.zone.before work.zone.opened)
      → ((IsFirst phase → ⊥)
      → Succeeds reader (last_from work.zone phase) work.zone.moved)
      → DatedIn reader work.zone phase handed
      → DatedIn reader work.zone next (handed_in phase next work.zone work.zone handed)
  fault_dated (read_fails (saving n) first text behind call) opens_so moves_so dated = absurd behind
  fault_dated (read_fails (opening stage) first text behind call) opens_so moves_so dated =
      absurd behind
  fault_dated (read_fails (writing n) first text behind call) opens_so moves_so dated = dated
  fault_dated (read_fails (mending n) first text behind call) opens_so moves_so dated =
      absurd behind
  fault_dated (read_fails (moving stage) first text behind call) opens_so moves_so dated =
      absurd behind
  fault_dated (read_fails (shifting n) first text behind call) opens_so moves_so dated = dated
  fault_dated (read_fails (turning stage) first text behind call) opens_so moves_so dated =
      absurd behind
  fault_dated (save_fails first count text saved it any call) opens_so moves_so dated = dated
  fault_dated (open_fails stage part call) opens_so moves_so dated =
      let succeeds = opens_so (λ never. never) tt in
      dated_failed reader work.zone.before work.zone.opened stage handed succeeds.is
      succeeds.follows dated
  fault_dated (write_fails n count text next any is call) opens_so moves_so dated = dated
  fault_dated (move_fails stage part call) opens_so moves_so dated =
      let succeeds = moves_so (λ never. never) in
      dated_failed reader work.zone.opened work.zone.moved stage handed succeeds.is
      succeeds.follows dated
  fault_dated (shift_fails n count text next any is within call) opens_so moves_so dated = dated
  fault_dated (turn_fails stage part call) opens_so moves_so dated =
      let succeeds = moves_so (λ never. never) in
      dated_failed reader work.zone.before work.zone.moved stage handed succeeds.is
      succeeds.follows dated
  fault_dated (sync_fails (saving n) part is call) opens_so moves_so dated = dated
  fault_dated (sync_fails (opening stage) part is call) opens_so moves_so dated = absurd is
  fault_dated (sync_fails (writing n) part is call) opens_so moves_so dated = dated
  fault_dated (sync_fails (mending n) part is call) opens_so moves_so dated = absurd is
  fault_dated (sync_fails (moving stage) part is call) opens_so moves_so dated = absurd is
  fault_dated (sync_fails (shifting n) part is call) opens_so moves_so dated = dated
  fault_dated (sync_fails (turning stage) part is call) opens_so moves_so dated = absurd is
