-- A worker that is made for a link.
use Rattle.std.proofs.Common.{◌≡◌, ℕ, ◌<◌, ◌≤◌, List, [], ◌∷◌, ◌++◌, Option, Some, None, slice_index_or}
use Rattle.std.proofs.Common.{IsSomeAnd, length, sym, ◌∙◌, ap, subst}
use Rattle.bays.specs.Stories.{LinkState}
use Rattle.lane_plan.specs.Plans.{IsShape}
use Rattle.lane_plan.specs.declared.plan.Shape.{Shape}
use Rattle.shared_volume.specs.Ciphers.{Context, opened, sealed, sector_of}
use Rattle.shared_volume.specs.Lanes.{IsAtRest, IsLaneOf}
use Rattle.shared_volume.specs.declared.lane.Lane.{Lane}
use Rattle.shared_volume.specs.Works.{VolumeCell}
use Rattle.volume_cell.specs.Passes.{IsPassOf, known}
use Rattle.volume_machine.specs.States.{State}
use Rattle.volume_machine.specs.declared.keys.Keys.{Keys}
use Rattle.block_server.specs.Ports.{IsUsable}
use Rattle.block_server.specs.Workers.{AreReady, IsReady}
use Rattle.block_server.specs.declared.worker.Worker.{Worker}
use Rattle.block_server.proofs.PassingLemmas.{each-more}

module _ {D P L : Type 0} (state : L → LinkState) (cell : VolumeCell D Context P) (links : ℕ) (shape : Shape)
    (start : Option (State (Keys Context))) (olds : List L)
  where
    -- the worker of the link of this number is ready
    abbrev pub IsEngaged : ℕ → Worker D L → Type 0
    IsEngaged k worker = IsReady state cell links shape k worker
        × ((link : L) → worker.link ≡ slice_index_or olds k link)
        × ((known worker.lane.pass).start ≡ start)

    pub engaged : (number : ℕ) (keys : Keys Context) (lane : Lane D) (link : L) (worker : Worker D L)
        → worker.lane ≡ lane → worker.link ≡ link → worker.ends.items ≡ []
        → IsPassOf cell lane.pass → IsAtRest sealed opened (known lane.pass)
        → IsLaneOf sector_of (known lane.pass) number keys shape → (known lane.pass).calls ≡ []
        → (known lane.pass).start ≡ start → lane.number ≡ number → lane.keys ≡ keys
        → lane.shape ≡ shape → IsShape shape → (state link).bound ≤ 4294967295
        → ((other : L) → link ≡ slice_index_or olds number other) → IsEngaged number worker
    engaged number keys lane link worker lane_is link_is ends pass rests own calls started number_is
        keys_is shape_is fits bound at = (
          record {
            usable = subst (λ (l : Lane D). IsUsable cell l None) (sym lane_is)
                (record {
                  pass = pass;
                  lane_is = subst (λ (n : ℕ). IsLaneOf sector_of (known lane.pass) n lane.keys lane.shape)
                      (sym number_is) (subst (λ (k : Keys Context).
                      IsLaneOf sector_of (known lane.pass) number k lane.shape) (sym keys_is)
                      (subst (λ (s : Shape). IsLaneOf sector_of (known lane.pass) number keys s)
                      (sym shape_is) own));
                  stands = rests;
                });
            name = ap (λ (l : Lane D). (known l.pass).name) lane_is ∙ own.name;
            number = ap (λ (l : Lane D). l.number) lane_is ∙ number_is;
            calls = ap (λ (l : Lane D). (known l.pass).calls) lane_is ∙ calls;
            shape_is = ap (λ (l : Lane D). l.shape) lane_is ∙ shape_is;
            fits = fits;
            ends = ends;
            bound = subst (λ (l : L). (state l).bound ≤ 4294967295) (sym link_is) bound;
          },
          (λ other. link_is ∙ at other),
          ap (λ (l : Lane D). (known l.pass).start) lane_is ∙ started,
        )

    -- one more worker
    pub engaged-more : (before after : List (Option (Worker D L))) (worker : Worker D L)
        (number : ℕ) → after ≡ before ++ Some worker ∷ [] → length before ≡ number
        → ((k : ℕ) (slot : Option (Worker D L)) → k < length before
        → IsSomeAnd (slice_index_or before k slot) (IsEngaged k)) → IsEngaged number worker
        → (k : ℕ) (slot : Option (Worker D L)) → k < length after
        → IsSomeAnd (slice_index_or after k slot) (IsEngaged k)
    engaged-more before after worker number is long all last k slot below =
        subst (λ (ws : List (Option (Worker D L))). IsSomeAnd (slice_index_or ws k slot)
        (IsEngaged k)) (sym is) (each-more IsEngaged before worker all
        (subst (λ (n : ℕ). IsEngaged n worker) (sym long) last) k slot
        (subst (λ (ws : List (Option (Worker D L))). k < length ws) is below))

    with-link : (o : Option (Worker D L)) (k : ℕ) (link : L) → IsSomeAnd o (IsEngaged k)
        → IsSomeAnd o (λ worker. IsReady state cell links shape k worker
        × (worker.link ≡ slice_index_or olds k link) × ((known worker.lane.pass).start ≡ start))
    with-link None k link is = is
    with-link (Some worker) k link is = (is.0, is.1 link, is.2)

    -- all of them
    pub are-engaged : (workers : List (Option (Worker D L))) → length workers ≡ length olds
        → ((k : ℕ) (slot : Option (Worker D L)) → k < length workers
        → IsSomeAnd (slice_index_or workers k slot) (IsEngaged k))
        → AreReady state cell links shape start olds workers
    are-engaged workers count all = record {
      count = count;
      each = λ k link slot below. with-link (slice_index_or workers k slot) k link
          (all k slot (subst (λ (n : ℕ). k < n) (sym count) below));
    }
