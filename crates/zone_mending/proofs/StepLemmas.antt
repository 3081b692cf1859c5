-- What holds between two steps by which a zone is written again holds behind each.
use Rattle.std.proofs.Common.{◌≡◌, ◌≢◌, ◌∙◌, ℕ, ◌+◌, ◌<◌, ◌≤◌, ◌==◌, Bool, true, false, List}
use Rattle.std.proofs.Common.{length, Result, Ok, Err, refl, sym, ap, subst, arith, cond}
use Rattle.base_terms.specs.declared.failed.Failed.{Failed as Failure}
use Rattle.std.proofs.lemmas.Bool.{eqb-false}
use Rattle.hotzone.proofs.CommitLemmas.{call-atoms, call-size, has-as, is-far, is-second}
use Rattle.hotzone.proofs.GuardLemmas.{first-start, start-on}
use Rattle.hotzone.proofs.HeadingLemmas.{same-on, same-self}
use Rattle.hotzone.proofs.WorkingLemmas.{not-ended}
use Rattle.hotzone.specs.Headings.{IsSame}
use Rattle.hotzone.specs.Sites.{IsPartStart, bytes_at, count_of, part_at}
use Rattle.hotzone.specs.declared.site.Guard.{Guard}
use Rattle.hotzone.specs.declared.site.Guard.TheVariants as guards
use Rattle.hotzone.specs.declared.site.Site.{Site}
use Rattle.hotzone.specs.Steps.{Commits, IsCommitted}
use Rattle.hotzone.specs.Workers.{HasKeys, MapsFit}
use Rattle.sector_disk.specs.JoinedDisks.Counts.{HasSizes}
use Rattle.luks_store.specs.Copying.Held.{stage_in}
use Rattle.luks_store.specs.Copying.Steps.{is_last}
use Rattle.luks_store.specs.declared.header_copies.commit.Stage.TheVariants.{Begun, Ended}
use Rattle.luks_rules.specs.States.{IsSound}
use Rattle.luks_store.specs.Loads.{IsStored}
use Rattle.luks_store.specs.declared.commit.Prepared.{Prepared}
use Rattle.luks_store.specs.declared.loaded.Stored.{Stored}
use Rattle.reenc_meta.specs.ConversionMaps.{IsMapOf}
use Rattle.reenc_meta.specs.Placements.{all_atoms}
use Rattle.sector_disk.specs.Devices.{Device, succeeded}
use Rattle.sector_disk.specs.Geometry.{IsDisk}
use Rattle.segment_map.specs.declared.map.Map.{Map}
use Rattle.volume_machine.specs.Seals.{Seals}
use Rattle.zone_mending.proofs.MenderLemmas.{fits-disk}
use Rattle.zone_mending.proofs.OpenZoneLemmas.{count-open, zone-known, zone-store}
use Rattle.zone_mending.specs.Menders.{Asks, HasRoom, HasRoomBy, IsMending, IsUnderWay}
use Rattle.zone_mending.specs.Menders.{LeavesNext, Needs}
use Rattle.zone_mending.specs.Menders.{after_move, after_write, stage_of_move}
use Rattle.zone_mending.specs.OpenZones.{IsMoved, IsOpenZone}
use Rattle.zone_mending.specs.Steps.{Fails, Goes, HasStepped, IsFailed, Steps, committed_to}
use Rattle.zone_mending.specs.Steps.{reads, lays, finds, writes, settles, moves, ends, read_fails}
use Rattle.zone_mending.specs.Steps.{lay_fails, find_fails, write_fails, settle_fails, move_fails}
use Rattle.zone_mending.specs.declared.mender.MendCall.{MendCall}
use Rattle.zone_mending.specs.declared.mender.MendCall.TheVariants.{ReadSaved, ReadOwn, Write}
use Rattle.zone_mending.specs.declared.mender.MendCall.TheVariants.{Settle, Move, Done, Failed}
use Rattle.zone_mending.specs.declared.mender.Mender.{Mender}

-- ---- what the next call needs is there
pub asks : {C : Type 0} (sector : C → ℕ) (m : Mender C) (disk : Device) → IsMending sector m
    → HasSizes m.loaded.valid.sizes disk → IsUnderWay m.next → Asks sector m disk m.next
asks sector m disk is sizes goes = go m.next goes is.next
  where
    go : (next : MendCall) → IsUnderWay next
        → Needs m.site (stage_of_move m) next → Asks sector m disk next
    go (ReadSaved n) goes needs = (needs.0, needs.2, fits-disk sector m disk is sizes)
    go (ReadOwn n) goes needs = (needs.0, needs.3, fits-disk sector m disk is sizes)
    go (Write n) goes needs = (needs.0, fits-disk sector m disk is sizes)
    go Settle goes needs = tt
    go Move goes needs = (
      needs,
      is.moves.follows.same.sizes disk
          (subst (λ s. HasSizes s disk) (sym is.moves.follows.commit.sizes) sizes),
    )
    go Done goes needs = absurd goes
    go Failed goes needs = absurd goes

-- ---- the beginning
pub mends-new : {C : Type 0} (sector : C → ℕ) (m : Mender C) (map : Map) → IsStored m.loaded
    → IsDisk m.loaded.valid.sizes.atom (all_atoms m.loaded.valid.sizes)
    → IsSound m.loaded.valid.meta m.loaded.valid.sizes → IsOpenZone m.loaded map m.site
    → MapsFit m.loaded → HasKeys sector m.loaded m.keys → bytes_at m.site 0 ≤ length m.buffer
    → HasRoom m.site m.digests → IsMoved m.loaded m.moved → stage_of_move m ≡ Begun → m.next ≡ ReadSaved 0
    → IsMending sector m
mends-new sector m map stored disk sound zone maps keys room digest_room moved begun first =
    let count = count-open m.loaded map m.site zone in
    let blocks = zone.is.some in
    let some : 0 < count_of m.site = omega (arith, count, blocks) in
    let map_of : IsMapOf m.loaded.valid.meta m.loaded.valid.sizes map =
    (zone.now, zone.is.known, zone.map_is) in
    record {
      stored = stored;
      sound = sound;
      disk = disk;
      map = map;
      zone = zone;
      fits = maps map map_of;
      store = zone-store m.loaded map m.site zone sound disk;
      room = room;
      digest_room = digest_room;
      keys = keys map map_of;
      moves = moved;
      next = subst (Needs m.site (stage_of_move m)) (sym first)
          (some, begun, first-start m.site (zone-known m.loaded map m.site zone disk));
    }

-- room stays
room-as : (g : Guard) (site : Site) (old new : List ℕ) → length new ≡ length old
    → HasRoomBy g site old → HasRoomBy g site new
room-as guards.Journal site old new same room = tt
room-as guards.Checksum site old new same room = omega (arith, same, room)

-- ---- behind each step
module _ {C : Type 0} (sector : C → ℕ) (before after : Mender C) (is : IsMending sector before) where
  abbrev AskedBy : MendCall → Type 0
  AskedBy next = Needs before.site (stage_of_move before) next

  needs-at : (next : MendCall) → before.next ≡ next → AskedBy next
  needs-at next at = subst AskedBy at is.next

  mends-as : (commit : Prepared) (buffer digests : List ℕ) (next : MendCall)
      → IsSame before.moved.commit commit → length buffer ≡ length before.buffer
      → length digests ≡ length before.digests
      → Needs before.site (stage_in commit.copies) next
      → after ≡ record (committed_to before commit next) { buffer = buffer; digests = digests }
      → IsMending sector after
  mends-as commit buffer digests next same long digests_long needs to =
      subst (IsMending sector) (sym to) (record {
        stored = is.stored;
        sound = is.sound;
        disk = is.disk;
        map = is.map;
        zone = is.zone;
        fits = is.fits;
        store = is.store;
        room = (let room = is.room in omega (arith, room, long));
        digest_room = room-as before.site.guard before.site before.digests digests digests_long is.digest_room;
        keys = is.keys;
        moves = record {
          moves = is.moves.moves;
          follows = record {
            first = is.moves.follows.first;
            commit = is.moves.follows.commit;
            loaded = is.moves.follows.loaded;
            same = same-on is.moves.follows.first before.moved.commit commit is.moves.follows.same
                same;
          };
        };
        next = needs;
      })

  needs-written : (done : ℕ) → done < count_of before.site → stage_of_move before ≡ Begun
      → IsPartStart before.site done → AskedBy (after_write before.site done)
  needs-written done below begun start =
      go (done + part_at before.site done == count_of before.site) refl
    where
      go : (b : Bool) → (done + part_at before.site done == count_of before.site) ≡ b
          → AskedBy (cond b Settle (ReadSaved (done + part_at before.site done)))
      go true last = begun
      go false goes =
          let far = eqb-false _ _ goes in (
            omega (arith, below, far),
            begun,
            start-on before.site done
                (zone-known before.loaded is.map before.site is.zone is.disk) start
                (omega (arith, below)) far,
          )

  pub mends-on : (seals : Seals) (old new : Device) (last : Bool)
      → Goes seals old new before after last → IsMending sector after
  mends-on seals old new last (reads done by at call filled) =
      mends-as before.moved.commit after.buffer before.digests (Write done)
      (same-self before.moved.commit) filled.long refl (needs-at (ReadSaved done) at) filled.is
  mends-on seals old new last (lays done by at call laid) =
      let had = needs-at (ReadSaved done) at in
      mends-as before.moved.commit before.buffer after.digests (ReadOwn done)
      (same-self before.moved.commit) refl laid.long (had.0, had.1, had.2, by) laid.is
  mends-on seals old new last (finds done at call filled) =
      let had = needs-at (ReadOwn done) at in
      mends-as before.moved.commit after.buffer before.digests (Write done)
      (same-self before.moved.commit) filled.long refl (had.0, had.1, had.2) filled.is
  mends-on seals old new last (writes done at call filled) =
      let had = needs-at (Write done) at in
      mends-as before.moved.commit after.buffer before.digests (after_write before.site done)
      (same-self before.moved.commit) filled.long refl
      (needs-written done had.0 had.1 had.2) filled.is
  mends-on seals old new last (settles at call to) =
      mends-as before.moved.commit before.buffer before.digests Move
      (same-self before.moved.commit) refl refl
      (subst (λ s. s ≢ Ended) (sym (needs-at Settle at)) (λ e. cc)) to
  mends-on seals old new last (moves commit at call on far to) =
      mends-as commit before.buffer before.digests Move on.same refl refl
      (subst (λ s. s ≢ Ended) (sym on.stage) (not-ended sector _ (needs-at Move at) far)) to
  mends-on seals old new last (ends commit at call on second to) =
      mends-as commit before.buffer before.digests Done on.same refl refl tt to

  failed-as : IsFailed before after → IsMending sector after
  failed-as failed =
      mends-as failed.commit after.buffer after.digests Failed failed.same failed.long
      failed.digests_long tt failed.is

  pub mends-failed : (seals : Seals) (old new : Device) → Fails seals old new before after
      → IsMending sector after
  mends-failed seals old new (read_fails done by at call failed) = failed-as failed
  mends-failed seals old new (lay_fails done by at call failed) = failed-as failed
  mends-failed seals old new (find_fails done at call failed) = failed-as failed
  mends-failed seals old new (write_fails done at call failed) = failed-as failed
  mends-failed seals old new (settle_fails at call failed) = failed-as failed
  mends-failed seals old new (move_fails at call failed) = failed-as failed

-- ---- a read or a write that failed: the buffer has other bytes, or the digests have
pub failed-filled : {C : Type 0} (before made : Mender C)
    → made ≡ record before { buffer = made.buffer } → length made.buffer ≡ length before.buffer
    → IsFailed before (record made { next = Failed })
failed-filled {C} before made is long = record {
  commit = before.moved.commit;
  same = same-self before.moved.commit;
  is = ap (λ (m : Mender C). record m { next = Failed }) is
      ∙ ap (λ d. record before { buffer = made.buffer; digests = d; next = Failed })
      (sym (ap (λ (m : Mender C). m.digests) is));
  long = long;
  digests_long = ap (λ (m : Mender C). length m.digests) is;
}

pub failed-laid : {C : Type 0} (before made : Mender C)
    → made ≡ record before { digests = made.digests }
    → length made.digests ≡ length before.digests
    → IsFailed before (record made { next = Failed })
failed-laid {C} before made is long = record {
  commit = before.moved.commit;
  same = same-self before.moved.commit;
  is = ap (λ (m : Mender C). record m { next = Failed }) is
      ∙ ap (λ b. record before { buffer = b; digests = made.digests; next = Failed })
      (sym (ap (λ (m : Mender C). m.buffer) is));
  long = ap (λ (m : Mender C). length m.buffer) is;
  digests_long = long;
}

-- ---- a call of the commit
pub move-goes : {C : Type 0} (seals : Seals) (old new : Device) (before : Mender C)
    (commit : Prepared) (last : Bool) → before.next ≡ Move
    → Commits before.moved.commit old new succeeded → IsCommitted before.moved.commit commit
    → last ≡ is_last (stage_of_move before) → (next : MendCall) → next ≡ after_move last
    → Goes seals old new before (committed_to before commit next) last
move-goes seals old new before commit true at call on is next to =
    ends commit at call on (is-second _ is) (ap (λ n. committed_to before commit n) to)
move-goes seals old new before commit false at call on is next to =
    moves commit at call on (is-far _ is) (ap (λ n. committed_to before commit n) to)

-- ---- what a step leaves
module _ {C : Type 0} (seals : Seals) (old new : Device) (before after : Mender C) where
  sizes-by : new.size ≡ old.size → new.atoms ≡ old.atoms → after.loaded ≡ before.loaded
      → HasSizes before.loaded.valid.sizes old → HasSizes after.loaded.valid.sizes new
  sizes-by size atoms same has =
      subst (λ (s : Stored). HasSizes s.valid.sizes new) (sym same)
      (has-as before.loaded.valid.sizes old new size atoms has)

  loaded-as : (made : Mender C) → after ≡ made → made.loaded ≡ before.loaded
      → after.loaded ≡ before.loaded
  loaded-as made to same = ap (λ (m : Mender C). m.loaded) to ∙ same

  pub sizes-on : (last : Bool) → Goes seals old new before after last
      → HasSizes before.loaded.valid.sizes old → HasSizes after.loaded.valid.sizes new
  sizes-on last (reads done by at call filled) =
      sizes-by call.size call.atoms (loaded-as _ filled.is refl)
  sizes-on last (lays done by at call laid) =
      sizes-by call.size call.atoms (loaded-as _ laid.is refl)
  sizes-on last (finds done at call filled) =
      sizes-by call.size call.atoms (loaded-as _ filled.is refl)
  sizes-on last (writes done at again filled) =
      sizes-by again.call.size again.call.atoms (loaded-as _ filled.is refl)
  sizes-on last (settles at call to) = sizes-by call.size call.atoms (loaded-as _ to refl)
  sizes-on last (moves commit at call on far to) =
      sizes-by (call-size (stage_of_move before) _ _ _ old new _ call)
      (call-atoms (stage_of_move before) _ _ _ old new _ call) (loaded-as _ to refl)
  sizes-on last (ends commit at call on second to) =
      sizes-by (call-size (stage_of_move before) _ _ _ old new _ call)
      (call-atoms (stage_of_move before) _ _ _ old new _ call) (loaded-as _ to refl)

  pub sizes-failed : Fails seals old new before after
      → HasSizes before.loaded.valid.sizes old → HasSizes after.loaded.valid.sizes new
  sizes-failed (read_fails done by at call failed) =
      sizes-by call.size call.atoms (loaded-as _ failed.is refl)
  sizes-failed (lay_fails done by at call failed) =
      sizes-by call.size call.atoms (loaded-as _ failed.is refl)
  sizes-failed (find_fails done at call failed) =
      sizes-by call.size call.atoms (loaded-as _ failed.is refl)
  sizes-failed (write_fails done at again failed) =
      sizes-by again.call.size again.call.atoms (loaded-as _ failed.is refl)
  sizes-failed (settle_fails at call failed) =
      sizes-by call.size call.atoms (loaded-as _ failed.is refl)
  sizes-failed (move_fails at call failed) =
      sizes-by (call-size (stage_of_move before) _ _ _ old new _ call)
      (call-atoms (stage_of_move before) _ _ _ old new _ call) (loaded-as _ failed.is refl)

  next-as : (made : Mender C) → after ≡ made → after.next ≡ made.next
  next-as made to = ap (λ (m : Mender C). m.next) to

  goes-written : (done : ℕ) → IsUnderWay (after_write before.site done)
  goes-written done = go (done + part_at before.site done == count_of before.site)
    where
      go : (b : Bool) → IsUnderWay (cond b Settle (ReadSaved (done + part_at before.site done)))
      go true = tt
      go false = tt

  pub left-on : (last : Bool) → Goes seals old new before after last → LeavesNext last after.next
  left-on last (reads done by at call filled) = subst IsUnderWay (sym (next-as _ filled.is)) tt
  left-on last (lays done by at call laid) = subst IsUnderWay (sym (next-as _ laid.is)) tt
  left-on last (finds done at call filled) = subst IsUnderWay (sym (next-as _ filled.is)) tt
  left-on last (writes done at call filled) =
      subst IsUnderWay (sym (next-as _ filled.is)) (goes-written done)
  left-on last (settles at call to) = subst IsUnderWay (sym (next-as _ to)) tt
  left-on last (moves commit at call on far to) = subst IsUnderWay (sym (next-as _ to)) tt
  left-on last (ends commit at call on second to) = next-as _ to

  pub left-failed : Fails seals old new before after → after.next ≡ Failed
  left-failed (read_fails done by at call failed) = next-as _ failed.is
  left-failed (lay_fails done by at call failed) = next-as _ failed.is
  left-failed (find_fails done at call failed) = next-as _ failed.is
  left-failed (write_fails done at call failed) = next-as _ failed.is
  left-failed (settle_fails at call failed) = next-as _ failed.is
  left-failed (move_fails at call failed) = next-as _ failed.is

-- ---- one step
pub stepped-by : {C : Type 0} (sector : C → ℕ) (seals : Seals) (old new : Device)
    (before after : Mender C) (result : Result Bool Failure) → IsMending sector before
    → HasSizes before.loaded.valid.sizes old → Steps seals old new before after result
    → HasStepped sector seals old new before after result
stepped-by sector seals old new before after (Ok last) is sizes made = record {
  steps = made;
  mends = mends-on sector before after is seals old new last made;
  sizes = sizes-on seals old new before after last made sizes;
  left = left-on seals old new before after last made;
  failed = tt;
}
stepped-by sector seals old new before after (Err fault) is sizes made = record {
  steps = made;
  mends = mends-failed sector before after is seals old new made;
  sizes = sizes-failed seals old new before after made sizes;
  left = tt;
  failed = left-failed seals old new before after made;
}
