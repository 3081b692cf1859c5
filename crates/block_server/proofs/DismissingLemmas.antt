-- Passes of workers that are joined back, and what the workers leave.
use Rattle.std.proofs.Common.{◌≡◌, ℕ, ◌<◌, ◌≤◌, List, [], ◌∷◌, ◌++◌, Option, Some, None, slice_index_or}
use Rattle.std.proofs.Common.{IsSomeAnd, length, map, sym, ◌∙◌, ap, subst, arith}
use Rattle.shared_volume.specs.Ciphers.{Context}
use Rattle.shared_volume.specs.Lanes.{Knowing}
use Rattle.shared_volume.specs.Works.{VolumeCell}
use Rattle.volume_cell.specs.Histories.{Begins}
use Rattle.volume_cell.specs.Knowing.{having_joined}
use Rattle.volume_cell.specs.Passes.{known}
use Rattle.block_server.specs.Leaving.{HasRoom, IsLeftOf}
use Rattle.block_server.specs.Passing.{AreBack, IsBack, KnowsAll, account_of}
use Rattle.block_server.specs.Slots.{each_of}
use Rattle.block_server.specs.declared.leavings.Leavings.{Leavings}
use Rattle.block_server.specs.declared.worker.Worker.{Worker}
use Rattle.block_server.proofs.PassingLemmas.{begins-length, each-more, joined-one}
use Rattle.block_server.proofs.SlotLemmas.{each_of-more}

module _ {D L : Type 0} where
  -- the worker at a place can be joined
  pub back-at : {P : Type 0} (cell : VolumeCell D Context P) (workers : List (Option (Worker D L)))
      (n : ℕ) (slot : Option (Worker D L)) (worker : Worker D L) → AreBack cell workers
      → n < length workers → slot ≡ slice_index_or workers n slot → slot ≡ Some worker
      → IsBack cell n worker
  back-at cell workers n slot worker back below at is =
      subst (λ (o : Option (Worker D L)). IsSomeAnd o (IsBack cell n)) is
      (subst (λ (o : Option (Worker D L)). IsSomeAnd o (IsBack cell n)) (sym at)
      (back n slot below))

  -- there is one at each place
  pub back-some : {P : Type 0} (cell : VolumeCell D Context P) (workers : List (Option (Worker D L)))
      (n : ℕ) (slot : Option (Worker D L)) → AreBack cell workers → n < length workers
      → slot ≡ slice_index_or workers n slot → slot ≡ None → ⊥
  back-some cell workers n slot back below at is =
      subst (λ (o : Option (Worker D L)). IsSomeAnd o (IsBack cell n)) is
      (subst (λ (o : Option (Worker D L)). IsSomeAnd o (IsBack cell n)) (sym at)
      (back n slot below))

  module _ (workers : List (Option (Worker D L))) (slot : Option (Worker D L))
      (worker : Worker D L) (is : slot ≡ Some worker)
    where
      -- the accounts of one more
      pub joined-more : (v w x : Knowing Context) → x ≡ having_joined v w
          → w ≡ known worker.lane.pass → (known worker.lane.pass).joined ≡ []
          → v.joined ≡ each_of account_of workers
          → x.joined ≡ each_of account_of (workers ++ slot ∷ [])
      joined-more v w x joins same none before =
          joined-one v w x joins (ap (λ (k : Knowing Context). k.joined) same ∙ none)
          ∙ (ap (λ (k : Knowing Context). v.joined
          ++ record { name = k.name; calls = k.calls } ∷ []) same
          ∙ (ap (λ others. others ++ account_of worker ∷ []) before
          ∙ (sym (each_of-more account_of workers worker)
          ∙ ap (λ (o : Option (Worker D L)). each_of account_of (workers ++ o ∷ [])) (sym is))))

      longer : (v x : Knowing Context) → length v.history ≤ length x.history
          → (o : Option (Worker D L))
          → IsSomeAnd o (λ one. length (known one.lane.pass).history ≤ length v.history)
          → IsSomeAnd o (λ one. length (known one.lane.pass).history ≤ length x.history)
      longer v x more None knows = knows
      longer v x more (Some one) knows = omega (arith, knows, more)

      -- what one more knew
      pub knows-more : (v w x : Knowing Context) → Begins v.history x.history
          → Begins w.history x.history → w ≡ known worker.lane.pass → KnowsAll v workers
          → KnowsAll x (workers ++ slot ∷ [])
      knows-more v w x own its same before =
          subst (λ (o : Option (Worker D L)). KnowsAll x (workers ++ o ∷ [])) (sym is)
          (each-more (λ k one. length (known one.lane.pass).history ≤ length x.history) workers
          worker (λ k place below. longer v x (begins-length v.history x.history own)
          (slice_index_or workers k place) (before k place below))
          (subst (λ (k : Knowing Context). length k.history ≤ length x.history) same
          (begins-length w.history x.history its)))

      -- what one more left
      pub left-more : (old new : Leavings L) → IsLeftOf workers old
          → new.links.items ≡ old.links.items ++ worker.link ∷ []
          → map (λ list. list.items) new.sessions.items
          ≡ map (λ list. list.items) old.sessions.items ++ worker.ends.items ∷ []
          → new.standings.items ≡ old.standings.items ++ worker.standing ∷ []
          → IsLeftOf (workers ++ slot ∷ []) new
      left-more old new before links sessions standings =
          subst (λ (o : Option (Worker D L)). IsLeftOf (workers ++ o ∷ []) new) (sym is) (record {
            links = links ∙ (ap (λ others. others ++ worker.link ∷ []) before.links
                ∙ sym (each_of-more (λ (w : Worker D L). w.link) workers worker));
            sessions = sessions ∙ (ap (λ others. others ++ worker.ends.items ∷ []) before.sessions
                ∙ sym (each_of-more (λ (w : Worker D L). w.ends.items) workers worker));
            standings = standings
                ∙ (ap (λ others. others ++ worker.standing ∷ []) before.standings
                ∙ sym (each_of-more (λ (w : Worker D L). w.standing) workers worker));
          })

pub room-one : {L : Type 0} (count : ℕ) (leavings : Leavings L) → 1 ≤ count
    → HasRoom count leavings → HasRoom 1 leavings
room-one count leavings some room =
    let links = room.links in
    let sessions = room.sessions in
    let standings = room.standings in record {
      links = omega (arith, links, some);
      sessions = omega (arith, sessions, some);
      standings = omega (arith, standings, some);
    }

-- nothing was left yet
pub left-none : {D L : Type 0} (leavings : Leavings L) → leavings.links.items ≡ []
    → leavings.sessions.items ≡ [] → leavings.standings.items ≡ []
    → IsLeftOf {D = D} [] leavings
unfolding each_of
left-none leavings links sessions standings = record {
  links = links;
  sessions = ap (λ lists. map (λ list. list.items) lists) sessions;
  standings = standings;
}
