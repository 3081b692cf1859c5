-- What follows a step of a zone: the next call, and how a step that isn't made, or fails, leaves it.
use Rattle.std.proofs.Common.{Some, ap, if◌then◌else◌, inl, inr, subst, sym, ℕ, ◌+◌, ◌==◌, ◌∙◌, ◌≡◌}
use Rattle.std.proofs.Common.{◌⊎◌}
use Rattle.segment_map.specs.declared.map.Map.{Map}
use Rattle.hotzone.specs.Endings.{after_wipe}
use Rattle.hotzone.specs.Known.{IsAtHand}
use Rattle.hotzone.specs.Sites.{count_of, part_at}
use Rattle.hotzone.specs.Steps.{Goes, IsHalted, IsStopped, Stops, after_open, after_save, after_write}
use Rattle.hotzone.specs.Steps.{begins, ends, finishes, finishes_on, finished, keeps, moves, opened}
use Rattle.hotzone.specs.Steps.{opens, reads, reads_again, reads_first, rests, saves, saves_first}
use Rattle.hotzone.specs.Steps.{settles, wipes, writes}
use Rattle.hotzone.specs.Steps.{begin_fails, clashes, clashes_first, end_fails, finish_fails}
use Rattle.hotzone.specs.Steps.{finish_refuses, keep_fails}
use Rattle.hotzone.specs.Steps.{move_fails, open_fails, read_again_fails, read_fails}
use Rattle.hotzone.specs.Steps.{read_first_fails, refuses, rest_fails, save_fails, save_first_fails}
use Rattle.hotzone.specs.Steps.{settle_fails, wipe_fails, write_fails}
use Rattle.hotzone.specs.Workers.{first_call}
use Rattle.hotzone.specs.declared.site.Site.{Site}
use Rattle.hotzone.specs.declared.worker.Ending.{Ending}
use Rattle.hotzone.specs.declared.worker.Halt.{Halt}
use Rattle.hotzone.specs.declared.worker.Headers.{Headers}
use Rattle.hotzone.specs.declared.worker.NextCall.{NextCall}
use Rattle.hotzone.specs.declared.worker.NextCall.TheVariants.{Begin, ReadFirst, SaveFirst, Read}
use Rattle.hotzone.specs.declared.worker.NextCall.TheVariants.{Save, Keep, Open, ReadAgain, Write}
use Rattle.hotzone.specs.declared.worker.NextCall.TheVariants.{Settle, Move, Finish, End, Wipe, Rest}
use Rattle.hotzone.specs.declared.worker.NextCall.TheVariants.{Over}
use Rattle.hotzone.specs.declared.worker.Stepped.{Stepped}
use Rattle.hotzone.specs.declared.worker.Stepped.TheVariants.{ZoneDone}
use Rattle.hotzone.specs.declared.worker.Worker.{Worker}
use Rattle.hotzone.specs.declared.worker.ZoneFault.{ZoneFault}
use Rattle.sector_disk.specs.Devices.{Device}
use Rattle.std.specs.Prelude.{Bool, true, false, length, nat_lt}
use Rattle.volume_core.specs.Zones.{FitsCall, IsEnded}
use Rattle.volume_machine.specs.Seals.{Seals}
use Rattle.volume_machine.specs.declared.open.Open.{Open as Operation}
use Rattle.hotzone.specs.ZoneEvents.Promises.{IsLater}

-- ---- calls of a zone
hand-save : (site : Site) (done : ℕ) (headers : Headers) → IsAtHand (after_save site done headers)
hand-save site done headers = go (done + part_at site done == count_of site)
  where
    go : (b : Bool)
        → IsAtHand (if b then Keep headers else Read (done + part_at site done) headers)
    go true = tt
    go false = tt

hand-open : (site : Site) (headers : Headers) → IsAtHand (after_open site headers)
hand-open site headers = go (part_at site 0 == count_of site)
  where
    go : (b : Bool) → IsAtHand (if b then Write 0 headers else ReadAgain 0 headers)
    go true = tt
    go false = tt

hand-write : (site : Site) (done : ℕ) (headers : Headers) → IsAtHand (after_write site done headers)
hand-write site done headers = go (done + part_at site done == count_of site)
  where
    go : (b : Bool)
        → IsAtHand (if b then Settle headers else ReadAgain (done + part_at site done) headers)
    go true = tt
    go false = tt

end-wipe : (done : ℕ) (ending : Ending) → IsEnded (after_wipe done ending)
end-wipe done ending = go (nat_lt done (length ending.wipes.areas))
  where
    go : (b : Bool) → IsEnded (if b then Wipe done ending else Rest ending)
    go true = tt
    go false = tt

-- they ask for nothing of the lane, and are none of the end
pub hand-fits : {C : Type 0} (w : Worker C) (map : Map) (o : Operation) (next : NextCall)
    → IsAtHand next → FitsCall w map o next
hand-fits w map o ReadFirst is = tt
hand-fits w map o SaveFirst is = tt
hand-fits w map o (Read done headers) is = tt
hand-fits w map o (Save done headers) is = tt
hand-fits w map o (Keep headers) is = tt
hand-fits w map o (Open headers) is = tt
hand-fits w map o (ReadAgain done headers) is = tt
hand-fits w map o (Write done headers) is = tt
hand-fits w map o (Settle headers) is = tt
hand-fits w map o (Move headers) is = tt
hand-fits w map o _ is = absurd is

pub hand-on : (next : NextCall) → IsAtHand next → IsEnded next → ⊥
hand-on ReadFirst is ended = ended
hand-on SaveFirst is ended = ended
hand-on (Read done headers) is ended = ended
hand-on (Save done headers) is ended = ended
hand-on (Keep headers) is ended = ended
hand-on (Open headers) is ended = ended
hand-on (ReadAgain done headers) is ended = ended
hand-on (Write done headers) is ended = ended
hand-on (Settle headers) is ended = ended
hand-on (Move headers) is ended = ended
hand-on _ is ended = is

-- ---- what a step leads to: a zone goes on; it is done; the end goes on
pub data Comes {C : Type 0} (before after : Worker C) : Stepped → Type 0 where
  goes_on : (stepped : Stepped) → IsAtHand after.next → Comes before after stepped
  is_done : IsAtHand before.next → after.next ≡ first_call after.site → Comes before after ZoneDone
  at_end : (stepped : Stepped) → IsEnded after.next → (before.next ≡ Finish) ⊎ IsEnded before.next
      → after.site ≡ before.site → Comes before after stepped

module _ {C : Type 0} (before after : Worker C) where
  hand-by : (stepped : Stepped) (next : NextCall) → after.next ≡ next → IsAtHand next
      → Comes before after stepped
  hand-by stepped next is hand = goes_on stepped (subst IsAtHand (sym is) hand)

  end-by : (stepped : Stepped) (was next : NextCall) → before.next ≡ was → IsEnded was
      → after ≡ record before { next = next } → IsEnded next → Comes before after stepped
  end-by stepped was next from ended is more =
      at_end stepped (subst IsEnded (sym (ap (λ (v : Worker C). v.next) is)) more)
      (inr (subst IsEnded (sym from) ended)) (ap (λ (v : Worker C). v.site) is)

  pub comes : (seals : Seals) (old new : Device) (stepped : Stepped)
      → Goes seals old new before after stepped → Comes before after stepped
  comes seals old new _ (begins from call is) =
      hand-by _ ReadFirst (ap (λ (v : Worker C). v.next) is) tt
  comes seals old new _ (reads_first from call is) =
      hand-by _ SaveFirst (ap (λ (v : Worker C). v.next) is.is) tt
  comes seals old new _ (saves_first from tells call headers are begun is) =
      hand-by _ _ (ap (λ (v : Worker C). v.next) is) (hand-save before.site 0 headers)
  comes seals old new _ (reads done headers from call is) =
      hand-by _ (Save done headers) (ap (λ (v : Worker C). v.next) is.is) tt
  comes seals old new _ (saves done headers from tells call is) =
      hand-by _ _ (ap (λ (v : Worker C). v.next) is) (hand-save before.site done headers)
  comes seals old new _ (keeps headers from call is) =
      hand-by _ (Open headers) (ap (λ (v : Worker C). v.next) is) tt
  comes seals old new _ (opens headers commit from call committed more is) =
      hand-by _ _ (ap (λ (v : Worker C). v.next) is) tt
  comes seals old new _ (opened headers commit from call committed last is) =
      hand-by _ _ (ap (λ (v : Worker C). v.next) is) (hand-open before.site _)
  comes seals old new _ (reads_again done headers from call is) =
      hand-by _ (Write done headers) (ap (λ (v : Worker C). v.next) is.is) tt
  comes seals old new _ (writes done headers from call is) =
      hand-by _ _ (ap (λ (v : Worker C). v.next) is.is) (hand-write before.site done headers)
  comes seals old new _ (settles headers from call is) =
      hand-by _ (Move headers) (ap (λ (v : Worker C). v.next) is) tt
  comes seals old new _ (moves headers commit from call committed more is) =
      hand-by _ _ (ap (λ (v : Worker C). v.next) is) tt
  comes seals old new _ (ends headers from call last moved) =
      is_done (subst IsAtHand (sym from) tt) moved.next
  comes seals old new _ (finishes ending commit from are call committed is) =
      at_end _ (subst IsEnded (sym (ap (λ (v : Worker C). v.next) is)) tt) (inl from)
      (ap (λ (v : Worker C). v.site) is)
  comes seals old new _ (finishes_on ending commit from call committed more is) =
      end-by _ (End ending) _ from tt is tt
  comes seals old new _ (finished ending commit from call committed last is) =
      end-by _ (End ending) _ from tt is (end-wipe 0 _)
  comes seals old new _ (wipes done ending from call is) =
      end-by _ (Wipe done ending) _ from tt is (end-wipe (done + 1) ending)
  comes seals old new _ (rests ending from call is) =
      end-by _ (Rest ending) (Over ending) from tt is tt

-- ---- how a step leaves the zone that isn't made, or fails
pub record Halting {C : Type 0} (before after : Worker C) (old new : Device) : Type 0 where
  pub halt : Halt
  pub halted_is : after.halted ≡ Some halt
  pub loaded : after.loaded ≡ before.loaded
  pub site : after.site ≡ before.site
  pub later : IsLater before.site after.next
  pub ends : IsEnded after.next → (before.next ≡ Finish) ⊎ IsEnded before.next
  pub finish : after.next ≡ Finish → (before.next ≡ Finish) × (new ≡ old)

module _ {C : Type 0} (before after : Worker C) (old new : Device)
    (later : IsLater before.site before.next) where
  -- a call of the zone
  zone-halts : (next : NextCall) (halt : Halt) → IsAtHand next → IsLater before.site next
      → after.next ≡ next → after.halted ≡ Some halt → after.loaded ≡ before.loaded
      → after.site ≡ before.site → (next ≡ Finish → ⊥) → Halting before after old new
  zone-halts next halt hand part is halted loaded site other = record {
    halt = halt;
    loaded = loaded;
    halted_is = halted;
    site = site;
    later = subst (IsLater before.site) (sym is) part;
    ends = λ ended. absurd (hand-on next hand (subst IsEnded is ended));
    finish = λ finish. absurd (other (sym is ∙ finish));
  }

  -- one of the end
  end-halts : (was next : NextCall) (halt : Halt) → before.next ≡ was → IsEnded was
      → IsLater before.site next → after.next ≡ next → after.halted ≡ Some halt
      → after.loaded ≡ before.loaded → after.site ≡ before.site → (next ≡ Finish → ⊥)
      → Halting before after old new
  end-halts was next halt from ended part is halted loaded site other = record {
    halt = halt;
    loaded = loaded;
    halted_is = halted;
    site = site;
    later = subst (IsLater before.site) (sym is) part;
    ends = λ more. inr (subst IsEnded (sym from) ended);
    finish = λ finish. absurd (other (sym is ∙ finish));
  }

  by-halted : (next : NextCall) (halt : Halt) → IsHalted before after next halt → IsAtHand next
      → IsLater before.site next → (next ≡ Finish → ⊥) → Halting before after old new
  by-halted next halt is hand part other =
      zone-halts next halt hand part (ap (λ (v : Worker C). v.next) is.is)
      (ap (λ (v : Worker C). v.halted) is.is) (ap (λ (v : Worker C). v.loaded) is.is)
      (ap (λ (v : Worker C). v.site) is.is) other

  by-stopped : (next : NextCall) (halt : Halt) → IsStopped before after next halt → IsAtHand next
      → IsLater before.site next → (next ≡ Finish → ⊥) → Halting before after old new
  by-stopped next halt is hand part other =
      zone-halts next halt hand part (ap (λ (v : Worker C). v.next) is.is)
      (ap (λ (v : Worker C). v.halted) is.is) (ap (λ (v : Worker C). v.loaded) is.is)
      (ap (λ (v : Worker C). v.site) is.is) other

  by-end : (was next : NextCall) (halt : Halt) → before.next ≡ was → IsEnded was
      → IsHalted before after next halt → IsLater before.site next → (next ≡ Finish → ⊥)
      → Halting before after old new
  by-end was next halt from ended is part other =
      end-halts was next halt from ended part (ap (λ (v : Worker C). v.next) is.is)
      (ap (λ (v : Worker C). v.halted) is.is) (ap (λ (v : Worker C). v.loaded) is.is)
      (ap (λ (v : Worker C). v.site) is.is) other

  pub halting : (seals : Seals) (fault : ZoneFault) → Stops seals old new before after fault
      → Halting before after old new
  halting seals _ (clashes_first _ _ from clash same is) =
      by-halted SaveFirst _ is tt tt (λ e. absurd (cc))
  halting seals _ (clashes done headers _ _ from clash same is) =
      by-halted (Save done headers) _ is tt (subst (IsLater before.site) from later)
      (λ e. absurd (cc))
  halting seals _ (refuses fault from tells made same is) =
      by-halted SaveFirst _ is tt tt (λ e. absurd (cc))
  halting seals _ (begin_fails from call is) = record {
    halt = _;
    halted_is = ap (λ (v : Worker C). v.halted) is.is;
    loaded = ap (λ (v : Worker C). v.loaded) is.is;
    site = ap (λ (v : Worker C). v.site) is.is;
    later = subst (IsLater before.site) (sym (ap (λ (v : Worker C). v.next) is.is)) tt;
    ends = λ ended. absurd (subst IsEnded (ap (λ (v : Worker C). v.next) is.is) ended);
    finish = λ finish. absurd
        (let e : Begin ≡ Finish = sym (ap (λ (v : Worker C). v.next) is.is) ∙ finish in cc);
  }
  halting seals _ (read_first_fails from call is) = by-stopped ReadFirst _ is tt tt (λ e. absurd (cc))
  halting seals _ (save_first_fails from tells call is) = by-halted SaveFirst _ is tt tt (λ e. absurd (cc))
  halting seals _ (read_fails done headers from call is) =
      by-stopped (Read done headers) _ is tt (subst (IsLater before.site) from later)
      (λ e. absurd (cc))
  halting seals _ (save_fails done headers from tells call is) =
      by-halted (Save done headers) _ is tt (subst (IsLater before.site) from later)
      (λ e. absurd (cc))
  halting seals _ (keep_fails headers from call is) =
      by-halted (Keep headers) _ is tt tt (λ e. absurd (cc))
  halting seals _ (open_fails headers commit from call broken is) =
      by-halted _ _ is tt tt (λ e. absurd (cc))
  halting seals _ (read_again_fails done headers from call is) =
      by-stopped (ReadAgain done headers) _ is tt tt (λ e. absurd (cc))
  halting seals _ (write_fails done headers from call is sealed) =
      by-stopped (Write done headers) _ is tt tt (λ e. absurd (cc))
  halting seals _ (settle_fails headers from call is) =
      by-halted (Settle headers) _ is tt tt (λ e. absurd (cc))
  halting seals _ (move_fails headers commit from call broken is) =
      by-halted _ _ is tt tt (λ e. absurd (cc))
  halting seals _ (finish_refuses fault from made same is) = record {
    halt = _;
    halted_is = ap (λ (v : Worker C). v.halted) is.is;
    loaded = ap (λ (v : Worker C). v.loaded) is.is;
    site = ap (λ (v : Worker C). v.site) is.is;
    later = subst (IsLater before.site) (sym (ap (λ (v : Worker C). v.next) is.is)) tt;
    ends = λ ended. inl from;
    finish = λ finish. (from, same);
  }
  halting seals _ (finish_fails ending commit from are call broken is) = record {
    halt = _;
    halted_is = ap (λ (v : Worker C). v.halted) is.is;
    loaded = ap (λ (v : Worker C). v.loaded) is.is;
    site = ap (λ (v : Worker C). v.site) is.is;
    later = subst (IsLater before.site) (sym (ap (λ (v : Worker C). v.next) is.is)) tt;
    ends = λ ended. inl from;
    finish = λ finish. absurd
        (let e = sym (ap (λ (v : Worker C). v.next) is.is) ∙ finish in cc);
  }
  halting seals _ (end_fails ending commit from call broken is) =
      by-end (End ending) _ _ from tt is tt (λ e. absurd (cc))
  halting seals _ (wipe_fails done ending from call is) =
      by-end (Wipe done ending) (Wipe done ending) _ from tt is tt (λ e. absurd (cc))
  halting seals _ (rest_fails ending from call is) =
      by-end (Rest ending) (Rest ending) _ from tt is tt (λ e. absurd (cc))
