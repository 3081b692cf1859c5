-- What came of sessions on a volume whose conversion is led on beside them.
use Rattle.std.proofs.Common.{◌≡◌, ◌≢◌, ◌∙◌, ◌-◌, ◌^◌, ◌≤◌, ◌⊎◌, ⊎_elim, Bool, true, false, ℕ}
use Rattle.std.proofs.Common.{List, [], ◌∷◌, ◌++◌, length, Option, Some, IsSomeAnd, ap, append_assoc}
use Rattle.std.proofs.Common.{append-nil, arith, if◌then◌else◌, ◌==◌, inl, inr, refl, subst, sym}
use Rattle.base_terms.specs.Causes.{Rose}
use Rattle.bays.specs.Stories.{LinkState}
use Rattle.block_server.specs.Serving.{HasServedBeside as IsServedBeside, KnowsDeeds}
use Rattle.block_server.specs.declared.link.Standing.{Standing}
use Rattle.volume_laws.specs.BesideConversions.Ends.{IsConvertedBeside, MayConvertBeside}
use Rattle.crash_laws.specs.HeaderAreas.Headers.{Header, IsReader, Layout}
use Rattle.base_terms.specs.declared.disk_sizes.Sizes.{Sizes}
use Rattle.volume_laws.specs.BesideLanes.Executing.{ExecutesBeside}
use Rattle.volume_laws.specs.BesideLanes.Lanes.{works_over}
use Rattle.reenc_tool.proofs.PlayedLemmas.{no_link_failed}
use Rattle.reenc_tool.proofs.ServedLemmas.{AreFound, none-spent}
use Rattle.reenc_tool.proofs.TextLemmas.{not_rose}
use Rattle.reenc_tool.specs.Beside.{HasEndedBeside, HasServedConverting}
use Rattle.reenc_tool.specs.Outcomes.{Coming}
use Rattle.reenc_tool.specs.Runs.{VolumeKeys}
use Rattle.reenc_tool.specs.Sessions.{HavePlayed, cause_by, cause_of, cause_of_links, has_spent}
use Rattle.reenc_tool.specs.Sessions.{most_events}
use Rattle.reenc_tool.specs.Standings.{failed_in}
use Rattle.reenc_tool.specs.Status.{cause_of_unfit}
use Rattle.reenc_tool.specs.declared.ended.Cause.TheVariants.{Fine, Memory}
use Rattle.reenc_tool.specs.declared.ended.Cause.TheVariants as causes
use Rattle.reenc_tool.specs.declared.ended.Fit.TheVariants.{Events}
use Rattle.reenc_worker.specs.declared.ends.NoFit.{NoFit as Unfit}
use Rattle.reenc_worker.specs.declared.ends.NoFit.TheVariants.{JsonFull, SeqEnd}
use Rattle.reenc_worker.specs.declared.ends.WorkAnswer.TheVariants.{Ended}
use Rattle.reenc_worker.specs.declared.ends.WorkerEnd.{WorkerEnd}
use Rattle.reenc_worker.specs.declared.ends.WorkerEnd.TheVariants as ends
use Rattle.sector_disk.specs.Devices.{Device}
use Rattle.sector_disk.specs.Steps.{Told}
use Rattle.volume_laws.specs.BesideServing.Failing.{AreBreaking, BreaksByFaults, FaultsRaise, GoesByDeeds}
use Rattle.volume_laws.specs.BesideServing.Replies.{DeviceErrorsAreExact, PlacesAreExact, ServesWithoutFaults}
use Rattle.volume_laws.specs.BesideServing.Stops.{DeedsStopAnywhere}
use Rattle.volume_laws.specs.BesideServing.Tables.{TellsDeeds}
use Rattle.shared_volume.specs.Ciphers.{Context}
use Rattle.shared_volume.specs.Lanes.{Knowing}
use Rattle.shared_volume.specs.Serving.{EndsBy, WentOn}
use Rattle.volume_laws.specs.Converting.{ServesBeside}
use Rattle.volume_machine.specs.Answers.{AreExchanges, untagged}
use Rattle.volume_machine.specs.Deeds.{Act, AreDeeds, Deed, Does, answered_over, state_after, worker}
use Rattle.volume_machine.specs.Readings.{Reading}
use Rattle.volume_machine.specs.Runs.{no_plain}
use Rattle.volume_machine.specs.Saved.{saved_hash}
use Rattle.volume_machine.specs.Seals.{AreLawful, Seals}
use Rattle.volume_machine.specs.States.{State}
use Rattle.volume_machine.specs.WorkSteps.{Hindrance, WorkStep, Worked, awaits, clashes, faulted}
use Rattle.volume_machine.specs.WorkSteps.{finished, hindered, leaves_broken, no_memory, no_number}
use Rattle.volume_machine.specs.WorkSteps.{no_room, stepped, was_broken}
use Rattle.volume_laws.specs.WorkerRuns.Conversions.{IsFaultless}
use Rattle.volume_laws.specs.WorkerRuns.Steps.{end_by, told_by}
use Rattle.hotzone.specs.ZoneEvents.Readings.{reading_of}

-- ---- the step that brought an end
-- what a step was that was answered by one of these ends
end-of : (cause : Hindrance) → (end_by cause ≢ ends.Finished) × (end_by cause ≢ ends.Device)
    × (end_by cause ≢ ends.Broken)
end-of (clashes block digest) = (λ e. cc, λ e. cc, λ e. cc)
end-of (no_number left needed) = (λ e. cc, λ e. cc, λ e. cc)
end-of (no_room len limit) = (λ e. cc, λ e. cc, λ e. cc)
end-of no_memory = (λ e. cc, λ e. cc, λ e. cc)

told-end : {a b : WorkerEnd} → Ended a ≡ Ended b → a ≡ b
told-end e = cc

by-finished : (worked : Worked) → told_by worked ≡ Ended ends.Finished → worked ≡ finished
by-finished stepped told = absurd (cc)
by-finished (awaits lane) told = absurd (cc)
by-finished finished told = refl
by-finished faulted told = absurd (cc)
by-finished (hindered cause) told = absurd ((end-of cause).0 (told-end told))
by-finished was_broken told = absurd (cc)

by-device : (worked : Worked) → told_by worked ≡ Ended ends.Device → worked ≡ faulted
by-device stepped told = absurd (cc)
by-device (awaits lane) told = absurd (cc)
by-device finished told = absurd (cc)
by-device faulted told = refl
by-device (hindered cause) told = absurd ((end-of cause).1 (told-end told))
by-device was_broken told = absurd (cc)

by-broken : (worked : Worked) → told_by worked ≡ Ended ends.Broken → worked ≡ was_broken
by-broken stepped told = absurd (cc)
by-broken (awaits lane) told = absurd (cc)
by-broken finished told = absurd (cc)
by-broken faulted told = absurd (cc)
by-broken (hindered cause) told = absurd ((end-of cause).2 (told-end told))
by-broken was_broken told = refl

found-broken : {K : Type 0} {reading : Reading} {seals : Seals} {old new : State K}
    → WorkStep reading seals old new was_broken → old.broken ≡ true
found-broken (leaves_broken it) = it.broken

-- a deed among others
deed-amid : {K : Type 0} (reading : Reading) (seals : Seals) (old : State K)
    (earlier : List (Deed K)) (one : Deed K) (later : List (Deed K))
    → AreDeeds reading seals old (earlier ++ one ∷ later)
    → Does reading seals (state_after old earlier) one.act one.after
unfolding AreDeeds state_after
deed-amid reading seals old [] one later (does, are) = does
deed-amid reading seals old (first ∷ earlier) one later (does, are) =
    deed-amid reading seals first.after earlier one later are

breaking-more : {K : Type 0} (deeds more : List (Deed K)) → AreBreaking deeds
    → AreBreaking (deeds ++ more)
breaking-more deeds more it = record {
  earlier = it.earlier;
  one = it.one;
  later = it.later ++ more;
  parts = ap (λ d. d ++ more) it.parts ∙ append_assoc it.earlier (it.one ∷ it.later) more;
  breaks = it.breaks;
}

-- ---- the cause
calm-same : (end : WorkerEnd) (disk_faults faults : ℕ) (memory : Bool)
    → cause_by (Some end) disk_faults false 0 faults memory
    ≡ cause_by (Some end) disk_faults false 0 0 memory
calm-same ends.Finished disk_faults faults memory = refl
calm-same ends.Device disk_faults faults memory = refl
calm-same (ends.Clash block digest) disk_faults faults memory = refl
calm-same (ends.NoFit what) disk_faults faults memory = refl
calm-same ends.Broken disk_faults faults memory = refl
calm-same ends.Spent disk_faults faults memory = refl
calm-same ends.Memory disk_faults faults memory = refl

unfit-not-fine : (what : Unfit) → cause_of_unfit what ≢ Fine
unfit-not-fine (SeqEnd left wanted) e = cc
unfit-not-fine (JsonFull len limit) e = cc

links-not-fine : (none : Bool) (failed faults : ℕ)
    → (if none then Memory else causes.Link failed faults) ≢ Fine
links-not-fine true failed faults e = cc
links-not-fine false failed faults e = cc

memory-not-fine : (spent : Bool) (failed faults : ℕ) → cause_of_links spent failed faults true ≢ Fine
memory-not-fine true failed faults e =
    let f : causes.NoFit Events (2 ^ 63 - 1) (2 ^ 63 - 2) ≡ Fine = e in cc
memory-not-fine false failed faults e = links-not-fine (failed == 0) failed faults e

fine-end : (broken : Bool) (disk_faults : ℕ) (end : WorkerEnd) (spent : Bool) (failed faults : ℕ)
    (memory : Bool) → cause_of broken disk_faults (Some end) spent failed faults memory ≡ Fine
    → (end ≡ ends.Finished) × (broken ≡ false)
fine-end true disk_faults end spent failed faults memory is = absurd (cc)
fine-end false disk_faults ends.Finished spent failed faults memory is = (refl, refl)
fine-end false disk_faults ends.Device spent failed faults memory is = absurd (cc)
fine-end false disk_faults (ends.Clash block digest) spent failed faults memory is = absurd (cc)
fine-end false disk_faults (ends.NoFit what) spent failed faults memory is =
    absurd (unfit-not-fine what is)
fine-end false disk_faults ends.Broken spent failed faults memory is = absurd (cc)
fine-end false disk_faults ends.Spent spent failed faults memory is = absurd (cc)
fine-end false disk_faults ends.Memory spent failed faults memory is =
    absurd (memory-not-fine spent failed faults is)

faultless-end : (end : WorkerEnd) → ((end ≡ ends.Device) ⊎ (end ≡ ends.Broken) → ⊥)
    → IsFaultless end
faultless-end ends.Finished none = tt
faultless-end ends.Device none = none (inl refl)
faultless-end (ends.Clash block digest) none = tt
faultless-end (ends.NoFit what) none = tt
faultless-end ends.Broken none = none (inr refl)
faultless-end ends.Spent none = tt
faultless-end ends.Memory none = tt

-- ---- sessions
-- the laws of deeds that sessions cite
pub record DeedLaws (reading : Reading) (start : State VolumeKeys) (seals : Seals)
    (deeds : List (Deed VolumeKeys)) : Type 0 where
  pub are : AreDeeds reading seals start deeds
  pub reader : IsReader reading.reader
  pub hash : reading.hash ≡ saved_hash
  pub serves : ServesBeside reading start seals
  pub goes : (earlier later : List (Deed VolumeKeys)) → deeds ≡ earlier ++ later
      → GoesByDeeds start earlier
  pub errors : (earlier later : List (Deed VolumeKeys)) (one : Deed VolumeKeys)
      → deeds ≡ earlier ++ one ∷ later
      → DeviceErrorsAreExact seals start earlier one × PlacesAreExact seals start earlier one
  pub stops : DeedsStopAnywhere reading start seals
  pub tables : (now : Told) → (state_after start deeds).disk.told ≡ Some now
      → TellsDeeds start deeds now
  pub faultless : ServesWithoutFaults start seals deeds
  pub breaks : BreaksByFaults start deeds
  pub raised : FaultsRaise start deeds
  pub ends_so : (layout : Layout) (header : Header (List ℕ)) (earlier : List Worked)
      → MayConvertBeside reading layout header start
      → works_over deeds ≡ earlier ++ finished ∷ []
      → IsConvertedBeside reading layout header start (state_after start deeds)

module _ (reading : Reading) (start final : State VolumeKeys) (seals : Seals)
    (deeds : List (Deed VolumeKeys)) (laws : DeedLaws reading start seals deeds)
    (last : state_after start deeds ≡ final) (whole : start.broken ≡ false) (end : WorkerEnd)
    (by : end ≢ ends.Spent → EndsBy end deeds) where
  step-of : (it : EndsBy end deeds)
      → WorkStep reading seals (state_after start it.deed.earlier) it.deed.one.after it.last
  step-of it =
      subst (λ (act : Act). Does reading seals (state_after start it.deed.earlier) act
      it.deed.one.after) it.deed.act
      (deed-amid reading seals start it.deed.earlier it.deed.one it.deed.later
      (subst (λ (d : List (Deed VolumeKeys)). AreDeeds reading seals start d) it.deed.parts laws.are))

  rose-last : Rose start.disk.faults (state_after start deeds).disk.faults
      → Rose start.disk.faults final.disk.faults
  rose-last rose = subst (λ (v : State VolumeKeys). Rose start.disk.faults v.disk.faults) last rose

  by-fault : end ≡ ends.Device → Rose start.disk.faults final.disk.faults
  by-fault is =
      let it = by (λ spent. (let e : ends.Device ≡ ends.Spent = sym is ∙ spent in cc)) in
      rose-last (laws.raised it.deed.earlier it.deed.later it.deed.one it.deed.parts
      (it.deed.act ∙ ap worker (by-device it.last (it.told ∙ ap Ended is))))

  was-so : end ≡ ends.Broken → Rose start.disk.faults final.disk.faults
  was-so is =
      let it = by (λ spent. (let e : ends.Broken ≡ ends.Spent = sym is ∙ spent in cc)) in
      let before = state_after start it.deed.earlier in
      let broke : before.broken ≡ true =
      found-broken (subst (λ (w : Worked). WorkStep reading seals before it.deed.one.after w)
      (by-broken it.last (it.told ∙ ap Ended is)) (step-of it)) in
      let breaking : AreBreaking it.deed.earlier =
      ⊎_elim (λ was. absurd (let e : true ≡ false = sym was ∙ whole in cc)) (λ breaks. breaks)
      ((laws.goes it.deed.earlier (it.deed.one ∷ it.deed.later) it.deed.parts).breaks.0 broke) in
      let all : AreBreaking deeds =
      subst (λ (d : List (Deed VolumeKeys)). AreBreaking d) (sym it.deed.parts)
      (breaking-more it.deed.earlier (it.deed.one ∷ it.deed.later) breaking) in
      let broken : (state_after start deeds).broken ≡ true =
      (laws.goes deeds [] (sym (append-nil deeds))).breaks.1 (inr all) in
      rose-last (laws.breaks whole broken)

  pub ended-beside : (end ≡ ends.Spent
      → (most_events ≤ length deeds) × WentOn (works_over deeds))
      → HasEndedBeside reading seals start final deeds end
  ended-beside full = record {
    by = λ other. record { by = by other; step = step-of (by other) };
    full = full;
    rose = λ either. ⊎_elim by-fault was-so either;
    converted = λ is layout header may.
        (let it = by (λ spent. (let e : ends.Finished ≡ ends.Spent = sym is ∙ spent in cc)) in
        subst (λ (v : State VolumeKeys). IsConvertedBeside reading layout header start v) last
        (laws.ends_so layout header it.earlier may (it.works
        ∙ ap (λ w. it.earlier ++ w ∷ []) (by-finished it.last (it.told ∙ ap Ended is)))));
  }

module _ {L : Type 0} (state : L → LinkState) (left : Device) (begun : List L) (link : L)
    (came : Coming L) (volume : State VolumeKeys) (seals : Seals) (final : State VolumeKeys)
    (standings : List Standing) (end : WorkerEnd) (pass : Knowing Context)
    (s : IsServedBeside state seals volume final pass most_events begun came.links came.ends standings
    (Some end)) (passed : came.pass ≡ Some pass) (found : AreFound state final (Some end) begun came standings) (sizes : Sizes)
    (did : ExecutesBeside (reading_of sizes) seals volume final s.deeds s.operations)
    (answered : AreExchanges (answered_over seals volume no_plain s.deeds) (untagged s.operations))
    (laws : DeedLaws (reading_of sizes) volume seals s.deeds) (whole : volume.broken ≡ false)
    (lawful : AreLawful volume.map.atom seals) where
  ended : HasEndedBeside (reading_of sizes) seals volume final s.deeds end
  ended = ended-beside (reading_of sizes) volume final seals s.deeds laws did.last whole end
      s.worked.0 s.worked.1

  played : HavePlayed state volume final (length s.deeds) (Some end) begun came s.operations
  played = record {
    played = s.played;
    standings = standings;
    sessions = s.sessions;
    served = s.served;
    each = s.each;
    known = s.known;
    in_turn = s.in_turn;
    left = s.left;
    to_the_end = found.to_the_end;
    short = found.short;
    faults = found.faults;
    faults_are = found.faults_are;
    cause_is = found.cause_is;
  }

  pub served_converting : left ≡ final.disk
      → HasServedConverting state sizes volume seals left begun came
  served_converting left_is = record {
    final = final;
    deeds = s.deeds;
    told = subst (λ (p : Option (Knowing Context)). IsSomeAnd p
        (λ pass. KnowsDeeds volume pass s.deeds)) (sym passed) s.told;
    operations = s.operations;
    did = did;
    left_is = left_is;
    lawful = lawful;
    end = end;
    ended = ended;
    played = played;
    history = λ layout header progress blocks bytes starts.
        (let one = laws.serves layout header progress blocks bytes s.deeds (untagged s.operations)
        starts laws.are answered in (one.left, one.legal));
    stops = λ layout header progress blocks bytes handed starts certain dated earlier later parts.
        laws.stops layout header progress blocks bytes s.deeds (untagged s.operations) handed
        laws.reader laws.hash starts certain dated laws.are answered earlier later parts;
    tables = λ now told. laws.tables now
        (ap (λ (v : State VolumeKeys). v.disk.told) did.last ∙ told);
    broke = λ broken. (subst (λ (v : State VolumeKeys).
        v.broken ≡ true → Rose volume.disk.faults v.disk.faults) did.last (laws.breaks whole)) broken;
    errors = laws.errors;
    fails = laws.goes;
    complete = λ stood low links_stood.
        let fine = laws.faultless (untagged s.operations) answered whole
        (ap (λ (v : State VolumeKeys). v.disk.faults) did.last ∙ stood) (omega (arith, stood, low)) in
        let unbroken : final.broken ≡ false =
        ap (λ (v : State VolumeKeys). v.broken) (sym did.last) ∙ fine.1 in
        let calm = no_link_failed state begun came.links came.ends standings s.played s.served link
        links_stood in (
          fine.0,
          faultless-end end (λ failed. not_rose _ _ stood low (ended.rose failed)),
          λ few. (let unspent : has_spent came.ends ≡ false =
              none-spent state left begun link came volume seals final standings (Some end) pass s few in
              found.cause_is
              ∙ ap (λ b. cause_of b final.disk.faults (Some end) (has_spent came.ends)
              (failed_in standings) found.faults came.memory) unbroken
              ∙ ap (λ b. cause_of false final.disk.faults (Some end) b (failed_in standings)
              found.faults came.memory) unspent
              ∙ ap (λ f. cause_of false final.disk.faults (Some end) false f found.faults
              came.memory) calm
              ∙ calm-same end final.disk.faults found.faults came.memory),
        );
    fine = λ is. fine-end final.broken final.disk.faults end (has_spent came.ends)
        (failed_in standings) found.faults came.memory (sym found.cause_is ∙ is);
  }
