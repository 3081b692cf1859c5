-- What each step leaves of a worker: whether it is halted, whether it was the last one, and the
-- sizes of its disk.
use Rattle.std.proofs.Common.{◌≡◌, ◌∙◌, ℕ, ◌+◌, ◌==◌, nat_lt, Bool, true, false, length, None}
use Rattle.std.proofs.Common.{Result, Ok, Err, refl, sym, ap, subst, cond}
use Rattle.base_terms.specs.declared.failed.Failed.{Failed}
use Rattle.base_terms.specs.declared.disk_sizes.Sizes.{Sizes}
use Rattle.hotzone.proofs.CommitLemmas.{call-atoms, call-size, has-as}
use Rattle.hotzone.proofs.HeadingLemmas.{moved-sizes}
use Rattle.hotzone.proofs.WorkingLemmas.{no-longer, same-site}
use Rattle.hotzone.proofs.WorksLemmas.{works-on, works-over}
use Rattle.hotzone.specs.Endings.{after_wipe}
use Rattle.hotzone.specs.Making.{HasStepped, IsPut, Makes, MakesBy}
use Rattle.hotzone.specs.Sites.{count_of, part_at}
use Rattle.hotzone.specs.Steps.{Commits, Goes, Stops, after_open, after_save, after_write}
use Rattle.hotzone.specs.Steps.{begins, reads_first, saves_first, reads, saves, keeps, opens, opened}
use Rattle.hotzone.specs.Steps.{reads_again, writes, settles, moves, ends, finishes, finishes_on}
use Rattle.hotzone.specs.Steps.{finished, wipes, rests, refuses, begin_fails, read_first_fails}
use Rattle.hotzone.specs.Steps.{save_first_fails, read_fails, save_fails, keep_fails, open_fails}
use Rattle.hotzone.specs.Steps.{clashes_first, clashes}
use Rattle.hotzone.specs.Steps.{read_again_fails, write_fails, settle_fails, move_fails}
use Rattle.hotzone.specs.Steps.{finish_refuses, finish_fails, end_fails, wipe_fails, rest_fails}
use Rattle.hotzone.specs.Workers.{IsDone, IsWorking, Needs, first_call}
use Rattle.hotzone.specs.declared.site.Site.{Site}
use Rattle.hotzone.specs.declared.steps.Made.{Made}
use Rattle.hotzone.specs.declared.steps.Stop.{Stop}
use Rattle.hotzone.specs.declared.worker.Ending.{Ending}
use Rattle.hotzone.specs.declared.worker.Headers.{Headers}
use Rattle.hotzone.specs.declared.worker.NextCall.{NextCall}
use Rattle.hotzone.specs.declared.worker.NextCall.TheVariants.{Begin, Read, Keep, ReadAgain, Write}
use Rattle.hotzone.specs.declared.worker.NextCall.TheVariants.{Settle, Finish, Wipe, Rest}
use Rattle.hotzone.specs.declared.worker.Stepped.{Stepped}
use Rattle.hotzone.specs.declared.worker.Stepped.TheVariants.{Went, ZoneDone, AllDone}
use Rattle.hotzone.specs.declared.worker.Worker.{Worker}
use Rattle.hotzone.specs.declared.worker.ZoneFault.{ZoneFault}
use Rattle.sector_disk.specs.JoinedDisks.Counts.{HasSizes}
use Rattle.luks_store.specs.Copying.Held.{stage_in}
use Rattle.luks_store.specs.declared.commit.Prepared.{Prepared}
use Rattle.luks_store.specs.declared.loaded.Stored.{Stored}
use Rattle.sector_disk.specs.Devices.{Device}
use Rattle.volume_machine.specs.Seals.{Seals}

-- ---- the call that is taken out of a worker is made
pub made-on : {C : Type 0} (seals : Seals) (old new : Device) (before after : Worker C)
    (call : NextCall) (made : Made) → call ≡ before.next
    → Makes seals old new (record before { next = Begin }) call after made
    → MakesBy seals old new before (record after { next = made.next }) made.answer
made-on seals old new before after call made is makes =
    subst (λ (n : NextCall). MakesBy seals old new (record before { next = n })
    (record after { next = made.next }) made.answer) is makes

module _ {C : Type 0} (seals : Seals) (old new : Device) (before after : Worker C) where
  -- ---- a step that is made leaves it running
  pub halted-on : (stepped : Stepped) → Goes seals old new before after stepped
      → after.halted ≡ before.halted
  halted-on stepped (begins at call to) = ap (λ (w : Worker C). w.halted) to
  halted-on stepped (reads_first at call read) = ap (λ (w : Worker C). w.halted) read.is
  halted-on stepped (saves_first at tells call headers are begun to) = ap (λ (w : Worker C). w.halted) to
  halted-on stepped (reads done headers at call read) = ap (λ (w : Worker C). w.halted) read.is
  halted-on stepped (saves done headers at tells call to) = ap (λ (w : Worker C). w.halted) to
  halted-on stepped (keeps headers at call to) = ap (λ (w : Worker C). w.halted) to
  halted-on stepped (opens headers commit at call on far to) = ap (λ (w : Worker C). w.halted) to
  halted-on stepped (opened headers commit at call on last to) =
      ap (λ (w : Worker C). w.halted) to
  halted-on stepped (reads_again done headers at call read) = ap (λ (w : Worker C). w.halted) read.is
  halted-on stepped (writes done headers at call read) = ap (λ (w : Worker C). w.halted) read.is
  halted-on stepped (settles headers at call to) = ap (λ (w : Worker C). w.halted) to
  halted-on stepped (moves headers commit at call on far to) = ap (λ (w : Worker C). w.halted) to
  halted-on stepped (ends headers at call last has) = has.halted
  halted-on stepped (finishes ending commit at are call on to) = ap (λ (w : Worker C). w.halted) to
  halted-on stepped (finishes_on ending commit at call on far to) =
      ap (λ (w : Worker C). w.halted) to
  halted-on stepped (finished ending commit at call on last to) = ap (λ (w : Worker C). w.halted) to
  halted-on stepped (wipes done ending at call to) = ap (λ (w : Worker C). w.halted) to
  halted-on stepped (rests ending at call to) = ap (λ (w : Worker C). w.halted) to

  -- ---- the last one, and no other, leaves no call
  save-left : (site : Site) (done : ℕ) (headers : Headers) → IsDone (after_save site done headers) → ⊥
  save-left site done headers = go (done + part_at site done == count_of site)
    where
      go : (b : Bool) → IsDone (cond b (Keep headers) (Read (done + part_at site done) headers)) → ⊥
      go true is = is
      go false is = is

  open-left : (site : Site) (headers : Headers) → IsDone (after_open site headers) → ⊥
  open-left site headers = go (part_at site 0 == count_of site)
    where
      go : (b : Bool) → IsDone (cond b (Write 0 headers) (ReadAgain 0 headers)) → ⊥
      go true is = is
      go false is = is

  write-left : (site : Site) (done : ℕ) (headers : Headers)
      → IsDone (after_write site done headers) → ⊥
  write-left site done headers = go (done + part_at site done == count_of site)
    where
      go : (b : Bool)
          → IsDone (cond b (Settle headers) (ReadAgain (done + part_at site done) headers)) → ⊥
      go true is = is
      go false is = is

  wipe-left : (done : ℕ) (ending : Ending) → IsDone (after_wipe done ending) → ⊥
  wipe-left done ending = go (nat_lt done (length ending.wipes.areas))
    where
      go : (b : Bool) → IsDone (cond b (Wipe done ending) (Rest ending)) → ⊥
      go true is = is
      go false is = is

  first-left : (site : Site) → IsDone (first_call site) → ⊥
  first-left site = go (count_of site == 0)
    where
      go : (b : Bool) → IsDone (cond b Finish Begin) → ⊥
      go true is = is
      go false is = is

  -- the next call is this one
  next-of : (next : NextCall) → after ≡ record before { next = next } → after.next ≡ next
  next-of next to = ap (λ (w : Worker C). w.next) to

  abbrev IsLast : Stepped → Type 0
  IsLast Went = IsDone after.next → ⊥
  IsLast ZoneDone = IsDone after.next → ⊥
  IsLast AllDone = IsDone after.next

  left-by : (next : NextCall) → after.next ≡ next → (IsDone next → ⊥) → IsDone after.next → ⊥
  left-by next is left done = left (subst IsDone is done)

  last-on : (stepped : Stepped) → Goes seals old new before after stepped → IsLast stepped
  last-on stepped (begins at call to) = left-by _ (next-of _ to) (λ is. is)
  last-on stepped (reads_first at call read) =
      left-by _ (ap (λ (w : Worker C). w.next) read.is) (λ is. is)
  last-on stepped (saves_first at tells call headers are begun to) =
      left-by _ (next-of _ to) (save-left before.site 0 headers)
  last-on stepped (reads done headers at call read) =
      left-by _ (ap (λ (w : Worker C). w.next) read.is) (λ is. is)
  last-on stepped (saves done headers at tells call to) =
      left-by _ (next-of _ to) (save-left before.site done headers)
  last-on stepped (keeps headers at call to) = left-by _ (next-of _ to) (λ is. is)
  last-on stepped (opens headers commit at call on far to) = left-by _ (next-of _ to) (λ is. is)
  last-on stepped (opened headers commit at call on last to) =
      left-by _ (next-of _ to) (open-left before.site _)
  last-on stepped (reads_again done headers at call read) =
      left-by _ (ap (λ (w : Worker C). w.next) read.is) (λ is. is)
  last-on stepped (writes done headers at call read) =
      left-by _ (ap (λ (w : Worker C). w.next) read.is) (write-left before.site done headers)
  last-on stepped (settles headers at call to) = left-by _ (next-of _ to) (λ is. is)
  last-on stepped (moves headers commit at call on far to) = left-by _ (next-of _ to) (λ is. is)
  last-on stepped (ends headers at call last has) =
      left-by _ has.next (first-left after.site)
  last-on stepped (finishes ending commit at are call on to) =
      left-by _ (next-of _ to) (λ is. is)
  last-on stepped (finishes_on ending commit at call on far to) =
      left-by _ (next-of _ to) (λ is. is)
  last-on stepped (finished ending commit at call on last to) =
      left-by _ (next-of _ to) (wipe-left 0 _)
  last-on stepped (wipes done ending at call to) =
      left-by _ (next-of _ to) (wipe-left (done + 1) ending)
  last-on stepped (rests ending at call to) = subst IsDone (sym (next-of _ to)) tt

  pub over-on : (stepped : Stepped) → Goes seals old new before after stepped
      → (stepped ≡ AllDone → IsDone after.next) × (IsDone after.next → stepped ≡ AllDone)
  over-on stepped made = go stepped (last-on stepped made)
    where
      go : (s : Stepped) → IsLast s
          → (s ≡ AllDone → IsDone after.next) × (IsDone after.next → s ≡ AllDone)
      go Went left = (λ is. absurd cc, λ is. absurd (left is))
      go ZoneDone left = (λ is. absurd cc, λ is. absurd (left is))
      go AllDone is = (λ same. is, λ done. refl)

-- ---- the disk stays of its sizes
abbrev IsAsLarge : Device → Device → Type 0
IsAsLarge old new = (new.size ≡ old.size) × (new.atoms ≡ old.atoms)

module _ {C : Type 0} (sector : C → ℕ) (seals : Seals) (old new : Device) (before after : Worker C)
  where
    copy-shape : (commit : Prepared) (result : Result (Unit {0}) Failed)
        → Commits commit old new result → IsAsLarge old new
    copy-shape commit result call = (
      call-size (stage_in commit.copies) _ _ _ old new result call,
      call-atoms (stage_in commit.copies) _ _ _ old new result call,
    )

    shape-on : (stepped : Stepped) → Goes seals old new before after stepped → IsAsLarge old new
    shape-on stepped (begins at call to) = (call.size, call.atoms)
    shape-on stepped (reads_first at call read) = (call.size, call.atoms)
    shape-on stepped (saves_first at tells call headers are begun to) = (call.call.size, call.call.atoms)
    shape-on stepped (reads done headers at call read) = (call.size, call.atoms)
    shape-on stepped (saves done headers at tells call to) = (call.call.size, call.call.atoms)
    shape-on stepped (keeps headers at call to) = (call.size, call.atoms)
    shape-on stepped (opens headers commit at call on far to) = copy-shape headers.opened _ call
    shape-on stepped (opened headers commit at call on last to) = copy-shape headers.opened _ call
    shape-on stepped (reads_again done headers at call read) = (call.size, call.atoms)
    shape-on stepped (writes done headers at call read) = (call.size, call.atoms)
    shape-on stepped (settles headers at call to) = (call.size, call.atoms)
    shape-on stepped (moves headers commit at call on far to) = copy-shape headers.moved.commit _ call
    shape-on stepped (ends headers at call last has) = copy-shape headers.moved.commit _ call
    shape-on stepped (finishes ending commit at are call on to) = copy-shape ending.commit _ call
    shape-on stepped (finishes_on ending commit at call on far to) = copy-shape ending.commit _ call
    shape-on stepped (finished ending commit at call on last to) = copy-shape ending.commit _ call
    shape-on stepped (wipes done ending at call to) = (call.size, call.atoms)
    shape-on stepped (rests ending at call to) = (call.size, call.atoms)

    shape-over : (fault : ZoneFault) → Stops seals old new before after fault → IsAsLarge old new
    shape-over fault (clashes_first _ _ at clash same stop) = (ap (λ (d : Device). d.size) same, ap (λ (d : Device). d.atoms) same)
    shape-over fault (clashes done headers _ _ at clash same stop) = (ap (λ (d : Device). d.size) same, ap (λ (d : Device). d.atoms) same)
    shape-over fault (refuses _ at tells unmade same stop) = (ap (λ (d : Device). d.size) same, ap (λ (d : Device). d.atoms) same)
    shape-over fault (begin_fails at call stop) = (call.size, call.atoms)
    shape-over fault (read_first_fails at call stop) = (call.size, call.atoms)
    shape-over fault (save_first_fails at tells call stop) = (call.call.size, call.call.atoms)
    shape-over fault (read_fails done headers at call stop) = (call.size, call.atoms)
    shape-over fault (save_fails done headers at tells call stop) = (call.call.size, call.call.atoms)
    shape-over fault (keep_fails headers at call stop) = (call.size, call.atoms)
    shape-over fault (open_fails headers commit at call on stop) = copy-shape headers.opened _ call
    shape-over fault (read_again_fails done headers at call stop) = (call.size, call.atoms)
    shape-over fault (write_fails done headers at call stop sealed) = (call.size, call.atoms)
    shape-over fault (settle_fails headers at call stop) = (call.size, call.atoms)
    shape-over fault (move_fails headers commit at call on stop) = copy-shape headers.moved.commit _ call
    shape-over fault (finish_refuses _ at unmade same stop) = (ap (λ (d : Device). d.size) same, ap (λ (d : Device). d.atoms) same)
    shape-over fault (finish_fails ending commit at are call on stop) = copy-shape ending.commit _ call
    shape-over fault (end_fails ending commit at call on stop) = copy-shape ending.commit _ call
    shape-over fault (wipe_fails done ending at call stop) = (call.size, call.atoms)
    shape-over fault (rest_fails ending at call stop) = (call.size, call.atoms)

    abbrev sizes-in : Worker C → Sizes
    sizes-in w = w.loaded.valid.sizes

    sizes-on : (stepped : Stepped) → IsWorking sector before
        → Goes seals old new before after stepped → sizes-in after ≡ sizes-in before
    sizes-on stepped is (begins at call to) = ap sizes-in to
    sizes-on stepped is (reads_first at call read) = ap sizes-in read.is
    sizes-on stepped is (saves_first at tells call headers are begun to) = ap sizes-in to
    sizes-on stepped is (reads done headers at call read) = ap sizes-in read.is
    sizes-on stepped is (saves done headers at tells call to) = ap sizes-in to
    sizes-on stepped is (keeps headers at call to) = ap sizes-in to
    sizes-on stepped is (opens headers commit at call on far to) = ap sizes-in to
    sizes-on stepped is (opened headers commit at call on last to) = ap sizes-in to
    sizes-on stepped is (reads_again done headers at call read) = ap sizes-in read.is
    sizes-on stepped is (writes done headers at call read) = ap sizes-in read.is
    sizes-on stepped is (settles headers at call to) = ap sizes-in to
    sizes-on stepped is (moves headers commit at call on far to) = ap sizes-in to
    sizes-on stepped is (ends headers at call last has) =
        ap (λ (s : Stored). s.valid.sizes) has.loaded
        ∙ moved-sizes before.loaded (count_of before.site) headers.opened headers.moved
        (subst (Needs before) at is.next).1
    sizes-on stepped is (finishes ending commit at are call on to) = ap sizes-in to
    sizes-on stepped is (finishes_on ending commit at call on far to) = ap sizes-in to
    sizes-on stepped is (finished ending commit at call on last to) = ap sizes-in to
    sizes-on stepped is (wipes done ending at call to) = ap sizes-in to
    sizes-on stepped is (rests ending at call to) = ap sizes-in to

    abbrev kept-in : Worker C → Sizes × Site
    kept-in w = (w.loaded.valid.sizes, w.site)

    kept-over : (fault : ZoneFault) → Stops seals old new before after fault
        → kept-in after ≡ kept-in before
    kept-over fault (clashes_first _ _ at clash same stop) = ap kept-in stop.is
    kept-over fault (clashes done headers _ _ at clash same stop) = ap kept-in stop.is
    kept-over fault (refuses _ at tells unmade same stop) = ap kept-in stop.is
    kept-over fault (begin_fails at call stop) = ap kept-in stop.is
    kept-over fault (read_first_fails at call stop) = ap kept-in stop.is
    kept-over fault (save_first_fails at tells call stop) = ap kept-in stop.is
    kept-over fault (read_fails done headers at call stop) = ap kept-in stop.is
    kept-over fault (save_fails done headers at tells call stop) = ap kept-in stop.is
    kept-over fault (keep_fails headers at call stop) = ap kept-in stop.is
    kept-over fault (open_fails headers commit at call on stop) = ap kept-in stop.is
    kept-over fault (read_again_fails done headers at call stop) = ap kept-in stop.is
    kept-over fault (write_fails done headers at call stop sealed) = ap kept-in stop.is
    kept-over fault (settle_fails headers at call stop) = ap kept-in stop.is
    kept-over fault (move_fails headers commit at call on stop) = ap kept-in stop.is
    kept-over fault (finish_refuses _ at unmade same stop) = ap kept-in stop.is
    kept-over fault (finish_fails ending commit at are call on stop) = ap kept-in stop.is
    kept-over fault (end_fails ending commit at call on stop) = ap kept-in stop.is
    kept-over fault (wipe_fails done ending at call stop) = ap kept-in stop.is
    kept-over fault (rest_fails ending at call stop) = ap kept-in stop.is

    sizes-over : (fault : ZoneFault) → Stops seals old new before after fault
        → sizes-in after ≡ sizes-in before
    sizes-over fault stop = ap (λ (k : Sizes × Site). k.0) (kept-over fault stop)

    pub site-over : (fault : ZoneFault) → Stops seals old new before after fault
        → after.site ≡ before.site
    site-over fault stop = ap (λ (k : Sizes × Site). k.1) (kept-over fault stop)

    has-behind : IsAsLarge old new → sizes-in after ≡ sizes-in before
        → HasSizes before.loaded.valid.sizes old → HasSizes after.loaded.valid.sizes new
    has-behind shape same has =
        subst (λ s. HasSizes s new) (sym same)
        (has-as before.loaded.valid.sizes old new shape.0 shape.1 has)

    pub has-on : (stepped : Stepped) → IsWorking sector before
        → HasSizes before.loaded.valid.sizes old → Goes seals old new before after stepped
        → HasSizes after.loaded.valid.sizes new
    has-on stepped is has made =
        has-behind (shape-on stepped made) (sizes-on stepped is made) has

    pub has-over : (fault : ZoneFault) → HasSizes before.loaded.valid.sizes old
        → Stops seals old new before after fault → HasSizes after.loaded.valid.sizes new
    has-over fault has stop = has-behind (shape-over fault stop) (sizes-over fault stop) has

-- ---- a step, and what holds behind it
module _ {C : Type 0} (sector : C → ℕ) (seals : Seals) (old new : Device) (before : Worker C)
    (is : IsWorking sector before) (runs : before.halted ≡ None)
    (has : HasSizes before.loaded.valid.sizes old) where
  went-by : (after : Worker C) (stepped : Stepped) → Goes seals old new before after stepped
      → HasStepped sector seals old new before after (Ok stepped)
  went-by after stepped made = record {
    working = works-on sector seals old new before after stepped is made;
    steps = made;
    sizes = has-on sector seals old new before after stepped is has made;
    site = no-longer sector seals old new before after stepped is made;
    went = halted-on seals old new before after stepped made ∙ runs;
    over = over-on seals old new before after stepped made;
  }

  stopped-by : (after : Worker C) (fault : ZoneFault) → Stops seals old new before after fault
      → HasStepped sector seals old new before after (Err fault)
  stopped-by after fault stop = record {
    working = works-over sector seals old new before after fault is stop;
    steps = stop;
    sizes = has-over sector seals old new before after fault has stop;
    site = same-site before after (site-over sector seals old new before after fault stop);
    went = tt;
    over = tt;
  }

  pub stepped-by : (mid after : Worker C) (next : NextCall) (answer : Result Stepped Stop)
      (result : Result Stepped ZoneFault)
      → MakesBy seals old new before (record mid { next = next }) answer
      → IsPut mid next after answer result
      → HasStepped sector seals old new before after result
  stepped-by mid after next (Ok stepped) result made put =
      subst (λ r. HasStepped sector seals old new before after r) (sym put.1)
      (went-by after stepped
      (subst (λ w. Goes seals old new before w stepped) (sym put.0) made))
  stepped-by mid after next (Err stop) result made put =
      subst (λ r. HasStepped sector seals old new before after r) (sym put.1)
      (stopped-by after stop.fault
      (subst (λ w. Stops seals old new before w stop.fault) (sym put.0) made))
