-- What each step by which an open zone is written again leaves as it is, and the one table more that
-- it leaves.
use Rattle.std.proofs.Common.{◌≡◌, ℕ, Bool, List, Some, refl, ◌∙◌, ap}
use Rattle.hotzone.proofs.HeadingLemmas.{same-self}
use Rattle.hotzone.specs.Headings.{IsSame}
use Rattle.hotzone.specs.Known.{header_by}
use Rattle.luks_store.specs.declared.commit.Prepared.{Prepared}
use Rattle.sector_disk.specs.Devices.{Device}
use Rattle.sector_disk.specs.Steps.{Told}
use Rattle.volume_machine.specs.Seals.{Seals}
use Rattle.image_laws.proofs.Led.SinceLemmas.{OneMore, OneOrNone, commit-one, commit-or-none, one-by}
use Rattle.image_laws.proofs.Led.SinceLemmas.{one-or-none}
use Rattle.zone_mending.proofs.MendLemmas.{same-header}
use Rattle.zone_mending.specs.Menders.{after_write, stage_of_move}
use Rattle.zone_mending.specs.Steps.{Fails, Goes, committed_to}
use Rattle.zone_mending.specs.Steps.{reads, lays, finds, writes, settles, moves, ends, read_fails}
use Rattle.zone_mending.specs.Steps.{lay_fails, find_fails, write_fails, settle_fails, move_fails}
use Rattle.zone_mending.specs.declared.mender.MendCall.{MendCall}
use Rattle.zone_mending.specs.declared.mender.MendCall.TheVariants.{Done, Move, ReadOwn, Write}
use Rattle.zone_mending.specs.declared.mender.Mender.{Mender}

-- ---- what stays
pub record IsSameMender {C : Type 0} (first now : Mender C) : Type 0 where
  pub loaded : now.loaded ≡ first.loaded
  pub keys : now.keys ≡ first.keys
  pub site : now.site ≡ first.site
  pub moved : now.moved.loaded ≡ first.moved.loaded
  pub header : header_by now.moved.commit ≡ header_by first.moved.commit

pub same-mender : {C : Type 0} (m : Mender C) → IsSameMender m m
same-mender m = record { loaded = refl; keys = refl; site = refl; moved = refl; header = refl }

pub same-along : {C : Type 0} (first mid last : Mender C) → IsSameMender first mid
    → IsSameMender mid last → IsSameMender first last
same-along first mid last one two = record {
  loaded = two.loaded ∙ one.loaded;
  keys = two.keys ∙ one.keys;
  site = two.site ∙ one.site;
  moved = two.moved ∙ one.moved;
  header = two.header ∙ one.header;
}

module _ {C : Type 0} (seals : Seals) (old new : Device) (before after : Mender C) where
  same-as : (commit : Prepared) (buffer digests : List ℕ) (next : MendCall)
      → IsSame before.moved.commit commit
      → after ≡ record (committed_to before commit next) { buffer = buffer; digests = digests }
      → IsSameMender before after
  same-as commit buffer digests next same to = record {
    loaded = ap (λ (m : Mender C). m.loaded) to;
    keys = ap (λ (m : Mender C). m.keys) to;
    site = ap (λ (m : Mender C). m.site) to;
    moved = ap (λ (m : Mender C). m.moved.loaded) to;
    header = ap (λ (m : Mender C). header_by m.moved.commit) to
        ∙ same-header before.moved.commit commit same;
  }

  pub same-on : (last : Bool) → Goes seals old new before after last → IsSameMender before after
  same-on last (reads done by at call filled) =
      same-as before.moved.commit after.buffer before.digests (Write done)
      (same-self before.moved.commit) filled.is
  same-on last (lays done by at call laid) =
      same-as before.moved.commit before.buffer after.digests (ReadOwn done)
      (same-self before.moved.commit) laid.is
  same-on last (finds done at call filled) =
      same-as before.moved.commit after.buffer before.digests (Write done)
      (same-self before.moved.commit) filled.is
  same-on last (writes done at again filled) =
      same-as before.moved.commit after.buffer before.digests (after_write before.site done)
      (same-self before.moved.commit) filled.is
  same-on last (settles at call to) =
      same-as before.moved.commit before.buffer before.digests Move (same-self before.moved.commit)
      to
  same-on last (moves commit at call on far to) =
      same-as commit before.buffer before.digests Move on.same to
  same-on last (ends commit at call on is_last to) =
      same-as commit before.buffer before.digests Done on.same to

  pub same-failed : Fails seals old new before after → after.loaded ≡ before.loaded
  same-failed (read_fails done by at call failed) = ap (λ (m : Mender C). m.loaded) failed.is
  same-failed (lay_fails done by at call failed) = ap (λ (m : Mender C). m.loaded) failed.is
  same-failed (find_fails done at call failed) = ap (λ (m : Mender C). m.loaded) failed.is
  same-failed (write_fails done at call failed) = ap (λ (m : Mender C). m.loaded) failed.is
  same-failed (settle_fails at call failed) = ap (λ (m : Mender C). m.loaded) failed.is
  same-failed (move_fails at call failed) = ap (λ (m : Mender C). m.loaded) failed.is

  -- ---- its table
  pub goes-one : (last : Bool) → Goes seals old new before after last → (now : Told)
      → new.told ≡ Some now → OneMore old now
  goes-one last (reads done by at call filled) now is = one-by _ old new now call.told is
  goes-one last (lays done by at call laid) now is = one-by _ old new now call.told is
  goes-one last (finds done at call filled) now is = one-by _ old new now call.told is
  goes-one last (writes done at again filled) now is = one-by _ old new now again.call.told is
  goes-one last (settles at call to) now is = one-by _ old new now call.told is
  goes-one last (moves commit at call on far to) now is =
      commit-one (stage_of_move before) _ _ _ old new now call is
  goes-one last (ends commit at call on is_last to) now is =
      commit-one (stage_of_move before) _ _ _ old new now call is

  pub fails-one : Fails seals old new before after → (now : Told) → new.told ≡ Some now
      → OneOrNone old now
  fails-one (read_fails done by at call failed) now is = one-or-none _ old new now call.told is
  fails-one (lay_fails done by at call failed) now is = one-or-none _ old new now call.told is
  fails-one (find_fails done at call failed) now is = one-or-none _ old new now call.told is
  fails-one (write_fails done at again failed) now is =
      one-or-none _ old new now again.call.told is
  fails-one (settle_fails at call failed) now is = one-or-none _ old new now call.told is
  fails-one (move_fails at call failed) now is = commit-or-none (stage_of_move before) _ _ _ old new now call is
