-- Links that are served, each with the ends of its sessions.
use Rattle.std.specs.Prelude.{ℕ, ◌≡◌, ◌+◌, ◌<◌, ◌≤◌, List, [], ◌++◌, length, map}
use Rattle.std.specs.Prelude.{slice_index_or}
use Rattle.base_terms.specs.Causes.{Rose}
use Rattle.bays.specs.Stories.{HasNoneAhead, LinkState}
use Rattle.nbd_hand.specs.declared.export.Export.{Export}
use Rattle.nbd_session.specs.declared.ending.SessionEnd.{SessionEnd}
use Rattle.block_server.specs.declared.link.Standing.{Standing}
use Rattle.block_server.specs.declared.link.Standing.TheVariants.{Live, Ended, Failed}
use Rattle.block_server.specs.Sessions.{Played, AreNumbered, AreOfLink, AreOfLinks, AreSessions}
use Rattle.block_server.specs.Sessions.{Goes, of_link}

-- why a link stands so: memory was wanted for a session's end, it has none ahead, or its own count
-- of faults rose
abbrev pub StandsBy : Standing → LinkState → LinkState → Type 0
StandsBy Live old new = new.faults ≡ old.faults
StandsBy Ended old new = (new.faults ≡ old.faults) × HasNoneAhead new
StandsBy Failed old new = Rose old.faults new.faults

-- The link of the number `k` was served from some moment to another: what it told goes on by its
-- sessions, each of a connection that it gave and took back, and which have the numbers of the
-- export, so many more, and so on.
pub record IsLinkServed (export : Export) (may_spend : Type 0) (step k : ℕ) (old new : LinkState)
    (old_ends new_ends : List SessionEnd) (standing : Standing) (played : List Played) : Type 0
  where
    pub sessions : AreSessions export may_spend played
    pub goes : Goes old new played
    pub ends : new_ends ≡ old_ends ++ map (λ one. one.end) played
    pub links : AreOfLink k played
    pub numbers : AreNumbered step export.number played
    pub counts : new.bound + length played ≡ old.bound
    pub lent : new.lent ≡ old.lent
    pub later : old.faults ≤ new.faults
    pub stands : StandsBy standing old new

-- The link of the number `k` of so many was served, of all sessions by its own.
pub record IsServed (links k : ℕ) (old new : LinkState) (ends : List SessionEnd)
    (standing : Standing) (all : List Played) : Type 0 where
  pub goes : Goes old new (of_link k all)
  pub ends_are : ends ≡ map (λ one. one.end) (of_link k all)
  pub numbers : AreNumbered links k (of_link k all)
  pub counts : new.bound + length (of_link k all) ≡ old.bound
  pub lent : new.lent ≡ old.lent
  pub later : old.faults ≤ new.faults
  pub stands : StandsBy standing old new

-- All links were served. Each goes on by its sessions and has the list of their ends; it was asked
-- until it had none ahead or failed itself, unless memory was wanted for the end of a session of its
-- own; and every session is one of these links'.
pub record AreServed {L : Type 0} (state : L → LinkState) (olds news : List L)
    (ends : List (List SessionEnd)) (standings : List Standing) (all : List Played) : Type 0 where
  pub links : length news ≡ length olds
  pub lists : length ends ≡ length olds
  pub count : length standings ≡ length olds
  pub each : (k : ℕ) (link : L) → k < length olds →
      IsServed (length olds) k (state (slice_index_or olds k link))
      (state (slice_index_or news k link))
      (slice_index_or ends k []) (slice_index_or standings k Live) all
  pub none_other : AreOfLinks (length olds) all
