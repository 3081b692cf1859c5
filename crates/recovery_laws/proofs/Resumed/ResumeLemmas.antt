-- A conversion that is taken up again and led on by the volume's worker: what its disks stood for before
-- the opening is what each image stands for, and what the volume holds at the end.
use Rattle.std.proofs.Common.{◌≡◌, ◌⊎◌, ◌∙◌, ◌*◌, ◌++◌, ◌∷◌, inl, inr, ℕ, List, [], length, Some, ap, arith}
use Rattle.std.proofs.Common.{refl, subst, sym}
use Rattle.std.proofs.lemmas.List.Elements.{Contains-push_cases}
use Rattle.std.specs.Prelude.{Contains}
use Rattle.resume_disk.specs.OpenedMidway.Runs.{LeadsTo, mends, rests}
use Rattle.crash_laws.specs.HeaderAreas.Headers.{Copy, Header, IsHeader, IsReader, Layout, byte_of, text_of}
use Rattle.base_terms.specs.declared.disk_sizes.Sizes.{Sizes}
use Rattle.hotzone.proofs.CallLemmas.{table-long}
use Rattle.hotzone.specs.Sites.{IsSaved}
use Rattle.sector_disk.specs.JoinedDisks.Joined.{Joint}
use Rattle.luks_store.specs.Copying.Meanings.{header_reader}
use Rattle.luks_rules.specs.Shapes.{progress_of}
use Rattle.luks_rules.specs.declared.plan.Plan.{Plan}
use Rattle.luks_rules.specs.declared.shape.Progress.{Progress}
use Rattle.luks_store.specs.declared.loaded.Stored.{Stored}
use Rattle.reenc_meta.specs.Layouts.{progress_at}
use Rattle.reenc_meta.specs.Moves.{moved}
use Rattle.reenc_recovery.specs.declared.keys.SideKeys.{SideKeys}
use Rattle.reenc_worker.specs.declared.ends.WorkAnswer.{WorkAnswer}
use Rattle.recovery_laws.proofs.Resumed.OpeningLemmas.{keys-handed}
use Rattle.recovery_laws.proofs.Resumed.ToldLemmas.{IsTold, told-back}
use Rattle.recovery_laws.proofs.Resumed.WorkerDeeds.{AreWorks, deeds-front, works-front}
use Rattle.recovery_laws.specs.Resumed.Keeping.{StandsArmed}
use Rattle.recovery_laws.specs.Resumed.Openings.{IsKnownBehind, OpeningsKeepContent}
use Rattle.recovery_laws.specs.Resumed.Resuming.{IsTakenUp, ResumedConversionsKeepContent}
use Rattle.recovery_laws.specs.Resumed.Resuming.{TakenUpConversionsBegin}
use Rattle.recovery_laws.specs.Resumed.Resuming.{ResumedConversionsStand, both_of}
use Rattle.recovery_laws.specs.Resumed.Runs.{ConversionsKeepContent, StopsKeepContent}
use Rattle.recovery_laws.specs.Resumed.Starts.{BeginsBehind, BegunConversionsStart, layout_on, volume_seals}
use Rattle.sector_disk.specs.Steps.{Told}
use Rattle.volume_laws.specs.Imaging.{AreDated}
use Rattle.volume_machine.specs.Deeds.{AreDeeds, Deed, state_after}
use Rattle.volume_machine.specs.Readings.{Reading}
use Rattle.volume_machine.specs.Seals.{Seals}
use Rattle.volume_machine.specs.States.{State}
use Rattle.volume_machine.specs.Works.{converting, resting}
use Rattle.volume_machine.specs.declared.keys.Keys.{Keys}
use Rattle.volume_laws.specs.WorkerRuns.Steps.{HasWorked}
use Rattle.hotzone.proofs.ZoneEvents.GroundLemmas.{one-progress}
use Rattle.hotzone.specs.ZoneEvents.Heads.{header_on}
use Rattle.hotzone.specs.ZoneEvents.Readings.{reading_of}
use Rattle.image_laws.specs.Led.Keys.{AreCiphersOf}

-- ---- texts that a copy's place was handed
only-one : {text other : List ℕ} → Contains (other ∷ []) text → text ≡ other
only-one {text} {other} has = go (Contains-push_cases [] other text has)
  where
    go : Contains [] text ⊎ (other ≡ text) → text ≡ other
    go (inl (i, below, at)) = absurd (omega (arith, below))
    go (inr same) = sym same

-- Those of both copies of the header mean it.
pub both-dated : {K : Type 0} (reading : Reading) (state : State K) (layout : Layout)
    (header : Header (List ℕ)) → IsHeader reading.reader header
    → state.work ≡ Some (resting layout header converting)
    → AreDated reading state (both_of header)
both-dated reading state layout header is at work here =
    let same : work ≡ resting layout header converting = cc in rw same (record {
      later = tt;
      each = λ copy text m has read. inl (means copy text m (only-one has) read);
    })
  where
    means : (copy : Copy) (text m : List ℕ) → text ≡ text_of header copy
        → reading.reader.decode (byte_of (reading.reader.size header.means) copy) text ≡ Some m
        → m ≡ header.means
    means copy text m same read =
        (let e : Some m ≡ Some header.means =
        sym read
        ∙ ap (λ t. reading.reader.decode (byte_of (reading.reader.size header.means) copy) t) same
        ∙ is.valid copy in cc)

-- ---- the keys of the sides, by the header with the boundary moved
moved-keys : {C : Type 0} (sector : C → ℕ) (sealed opened : C → ℕ → List ℕ → List ℕ)
    (plan : Plan) (c : Progress) (old new : List ℕ) (keys : Keys C)
    → AreCiphersOf sector sealed opened c old new keys
    → AreCiphersOf sector sealed opened (progress_at plan c) old new keys
moved-keys sector sealed opened plan c old new keys are = record {
  old_cipher = are.old_cipher;
  new_cipher = are.new_cipher;
  old_tweak = are.old_tweak;
  new_tweak = are.new_tweak;
}

module _ {C : Type 0} {sector : C → ℕ} {sealed opened : C → ℕ → List ℕ → List ℕ}
    (keeps : OpeningsKeepContent sector sealed opened) (start : BegunConversionsStart sector sealed opened)
    (sizes : Sizes) (handed : SideKeys) (lanes : ℕ) (old : Joint) (volume : State (Keys C))
    (content : List (List ℕ))
    (r : IsTakenUp sector sealed opened sizes handed lanes old volume content) where
  first-keys : AreCiphersOf sector sealed opened r.is.found.passed.conversion.now r.old_key r.new_key
      r.is.found.keys
  first-keys =
      keys-handed sizes handed old r.first r.old_key r.new_key content r.opens r.is.found

  keys-by : (last : Stored)
      → LeadsTo sector sealed opened r.is.found.header r.is.found.keys r.is.led.mended volume.disk last
      → (p : Progress) → progress_of last.valid.meta sizes ≡ Some p
      → AreCiphersOf sector sealed opened p r.old_key r.new_key r.is.found.keys
  keys-by last (rests may same is_last) p known =
      let here = subst (λ (h : Stored). progress_of h.valid.meta sizes ≡ Some p) is_last known in
      subst (λ (q : Progress). AreCiphersOf sector sealed opened q r.old_key r.new_key r.is.found.keys)
      (one-progress r.is.found.header.valid.meta sizes r.is.found.passed.conversion.now p
      r.is.found.passed.conversion.known here) first-keys
  keys-by last (mends zone is_last) p known =
      let here = subst (λ (h : Stored). progress_of h.valid.meta sizes ≡ Some p) is_last known in
      let (c, c_known, gone) = zone.moves.moves in
      let sized = r.is.found.passed.sizes_are in
      let plan = moved c.conversion.direction c.plan.zone c.plan in
      let same = one-progress r.is.found.header.valid.meta sizes r.is.found.passed.conversion.now c
      r.is.found.passed.conversion.known
      (subst (λ (s : Sizes). progress_of r.is.found.header.valid.meta s ≡ Some c) sized c_known) in
      let own = subst (λ (q : Progress).
      AreCiphersOf sector sealed opened q r.old_key r.new_key r.is.found.keys) same first-keys in
      subst (λ (q : Progress). AreCiphersOf sector sealed opened q r.old_key r.new_key r.is.found.keys)
      (one-progress zone.after.moved.loaded.valid.meta sizes (progress_at plan c) p
      (subst (λ (s : Sizes). progress_of zone.after.moved.loaded.valid.meta s
      ≡ Some (progress_at plan c)) sized gone.progress) here)
      (moved-keys sector sealed opened plan c r.old_key r.new_key r.is.found.keys own)

  -- what is saved of the blocks of zones by the header that was found is saved of them by that one too
  saved-by : (last : Stored)
      → LeadsTo sector sealed opened r.is.found.header r.is.found.keys r.is.led.mended volume.disk last
      → (p : Progress) → progress_of last.valid.meta sizes ≡ Some p
      → IsSaved p.conversion.resilience
  saved-by last (rests may same is_last) p known =
      let here = subst (λ (h : Stored). progress_of h.valid.meta sizes ≡ Some p) is_last known in
      subst (λ (q : Progress). IsSaved q.conversion.resilience)
      (one-progress r.is.found.header.valid.meta sizes r.is.found.passed.conversion.now p
      r.is.found.passed.conversion.known here) r.is.found.passed.conversion.guarded
  saved-by last (mends zone is_last) p known =
      let here = subst (λ (h : Stored). progress_of h.valid.meta sizes ≡ Some p) is_last known in
      let (c, c_known, gone) = zone.moves.moves in
      let sized = r.is.found.passed.sizes_are in
      let plan = moved c.conversion.direction c.plan.zone c.plan in
      let same = one-progress r.is.found.header.valid.meta sizes r.is.found.passed.conversion.now c
      r.is.found.passed.conversion.known
      (subst (λ (s : Sizes). progress_of r.is.found.header.valid.meta s ≡ Some c) sized c_known) in
      subst (λ (q : Progress). IsSaved q.conversion.resilience)
      (one-progress zone.after.moved.loaded.valid.meta sizes (progress_at plan c) p
      (subst (λ (s : Sizes). progress_of zone.after.moved.loaded.valid.meta s
      ≡ Some (progress_at plan c)) sized gone.progress) here)
      (subst (λ (q : Progress). IsSaved q.conversion.resilience) same
      r.is.found.passed.conversion.guarded)

  -- ---- behind the opening
  module _ (known : IsKnownBehind r.is.found.header volume.disk) where
    armed : StandsArmed sizes r.is.led.last r.old_key r.new_key content volume.disk
    armed =
        (keeps sizes handed lanes old volume r.first r.old_key r.new_key content r.opens r.is).1 known

    long : (bytes : List ℕ) → volume.disk.values ≡ Some bytes
        → length bytes ≡ volume.disk.atoms * volume.map.atom
    long bytes is =
        let same : bytes ≡ armed.now =
        (let e : Some bytes ≡ Some armed.now = sym is ∙ armed.holds.holds.values in cc) in
        ap length same ∙ armed.long ∙ ap (λ a. volume.disk.atoms * a) (sym r.is.led.map.2.atom)

    begins : BeginsBehind sector sealed opened sizes r.is.led.last lanes r.old_key r.new_key
        armed.now volume
    begins = record {
      armed = r.is.led.armed;
      order = r.order;
      sizes_are = r.is.led.sizes_are;
      now = r.is.led.map.0;
      known = r.is.led.map.1;
      map = r.is.led.map.2;
      keys = subst (λ (k : Keys C). AreCiphersOf sector sealed opened r.is.led.map.0 r.old_key
          r.new_key k) (sym r.is.led.keys_are) (keys-by r.is.led.last r.is.led.leads r.is.led.map.0
          r.is.led.map.1);
      holds = armed.holds;
      whole = record {
        bytes = long;
        cells = λ told is. table-long volume.disk r.is.led.tells.alike told is;
      };
    }

-- where steps of the worker alone led to a disk that tells its tables, the one before them told its
pub told-first : {K : Type 0} {reading : Reading} {seals : Seals} {old new : State K}
    {answers : List WorkAnswer} → (earlier later : List (Deed K)) → (worked : HasWorked reading seals old new answers)
    → worked.deeds ≡ earlier ++ later → (told : Told)
    → (state_after old earlier).disk.told ≡ Some told → IsTold old.disk
told-first {K} {reading} {seals} {old} {new} {answers} earlier later worked parts told is =
    told-back reading seals old earlier
    (deeds-front reading seals old earlier later
    (subst (λ (d : List (Deed K)). AreDeeds reading seals old d) parts worked.are))
    (works-front earlier later
    (subst (λ (d : List (Deed K)). AreWorks d) parts (worked.works, worked.acts))) (told, is)

-- so no zone was open, or it told its tables, before the steps, where it is so behind them
pub known-first : {K : Type 0} {reading : Reading} {seals : Seals} {old new : State K}
    {answers : List WorkAnswer} (header : Stored) → HasWorked reading seals old new answers
    → IsKnownBehind header new.disk → IsKnownBehind header old.disk
known-first header worked (inl may) = inl may
known-first {K} {reading} {seals} {old} header worked (inr (told, is)) =
    inr (told-back reading seals old worked.deeds worked.are (worked.works, worked.acts)
    (told, ap (λ (s : State K). s.disk.told) worked.last ∙ is))

module _ {C : Type 0} {sector : C → ℕ} {sealed opened : C → ℕ → List ℕ → List ℕ}
    (keeps : OpeningsKeepContent sector sealed opened) (start : BegunConversionsStart sector sealed opened)
    (reader : IsReader header_reader) where
  pub resumed-keep : ConversionsKeepContent C → ResumedConversionsKeepContent sector sealed opened
  resumed-keep runs sizes handed lanes old volume after content r done known =
      let behind = known-first r.is.found.header done.worked known in
      let b = begins keeps start sizes handed lanes old volume content r behind in
      let from = armed keeps start sizes handed lanes old volume content r behind in
      let starts = start sizes r.is.led.last lanes r.old_key r.new_key from.now volume content b
      from.stands in
      runs (reading_of sizes) (volume_seals sealed opened volume) (layout_on sizes r.is.led.last)
      (header_on r.is.led.last) volume after content from.now reader refl starts.0 done

  pub taken-begin : TakenUpConversionsBegin sector sealed opened
  unfolding begins
  taken-begin sizes handed lanes old volume content r known =
      let from = armed keeps start sizes handed lanes old volume content r known in (
        from.now,
        from.stands,
        begins keeps start sizes handed lanes old volume content r known,
        saved-by keeps start sizes handed lanes old volume content r r.is.led.last r.is.led.leads
            r.is.led.map.0 r.is.led.map.1,
      )

  pub resumed-stand : StopsKeepContent C → ResumedConversionsStand sector sealed opened
  resumed-stand stops sizes handed lanes old volume after content answers r worked earlier later parts
      told told_is =
      let behind = inr (told-first earlier later worked parts told told_is) in
      let b = begins keeps start sizes handed lanes old volume content r behind in
      let from = armed keeps start sizes handed lanes old volume content r behind in
      let starts = start sizes r.is.led.last lanes r.old_key r.new_key from.now volume content b
      from.stands in
      stops (reading_of sizes) (volume_seals sealed opened volume) (layout_on sizes r.is.led.last)
      (header_on r.is.led.last) volume after content from.now (both_of (header_on r.is.led.last)) answers
      reader refl starts.0 starts.1
      (both-dated (reading_of sizes) volume (layout_on sizes r.is.led.last) (header_on r.is.led.last)
      (r.order.courses (resting (layout_on sizes r.is.led.last) (header_on r.is.led.last) converting)
      starts.0.at_rest).is starts.0.at_rest) worked earlier later parts told told_is
