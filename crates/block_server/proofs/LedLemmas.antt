-- How the conversion's worker ended, by its pass, where there was one.
use Rattle.std.proofs.Common.{◌≡◌, ◌≢◌, inl, inr, ℕ, suc, ◌≤◌, List, [], Option, Some, None, length}
use Rattle.std.proofs.Common.{refl, ◌∙◌}
use Rattle.volume_laws.specs.BesideLanes.Lanes.{works_over}
use Rattle.reenc_worker.specs.declared.ends.WorkerEnd.TheVariants.{Spent}
use Rattle.shared_volume.specs.Serving.{EndsBy, WentOn}
use Rattle.volume_machine.specs.Deeds.{AreDeeds, Deed, state_after}
use Rattle.volume_machine.specs.Readings.{Reading}
use Rattle.volume_machine.specs.Seals.{Seals}
use Rattle.volume_machine.specs.States.{State, open_at}
use Rattle.volume_machine.specs.declared.open.Open.{Open}
use Rattle.block_server.specs.Leading.{end_of}
use Rattle.block_server.specs.Serving.{WorkerHasEnded}
use Rattle.block_server.specs.declared.leading.Led.{Led}
use Rattle.block_server.proofs.LastLane.{clients-leave, last-free, no-open}
use Rattle.block_server.proofs.LeadingLemmas.{spent-or-not}

module _ {K D : Type 0} (links limit : ℕ) (start : State K) (deeds : List (Deed K))
    (led : Option (Led D))
  where
    -- on the last lane, whose number is that of the links, it made the steps of the deeds
    pub record IsLedSo : Type 0 where
      pub last : suc links ≡ length start.lanes
      pub none : led ≡ None → works_over deeds ≡ []
      pub ended : (one : Led D) → led ≡ Some one → one.end ≢ Spent → EndsBy one.end deeds
      pub spent : (one : Led D) → led ≡ Some one → one.end ≡ Spent
          → (limit ≤ length deeds) × WentOn (works_over deeds)

    module _ (so : IsLedSo) where
      worked-by : (which : Option (Led D)) → led ≡ which → WorkerHasEnded limit deeds (end_of which)
      worked-by None is = so.none is
      worked-by (Some one) is = (so.ended one is, so.spent one is)

      pub led-worked : WorkerHasEnded limit deeds (end_of led)
      led-worked = worked-by led refl

      module _ (reading : Reading) (seals : Seals) (are : AreDeeds reading seals start deeds)
          (idle : open_at start.lanes links ≡ None) (o : Open)
          (at : open_at (state_after start deeds).lanes links ≡ Some o) where
        full-by-end : (which : Option (Led D)) → led ≡ which → limit ≤ length deeds
        full-by-end None is =
            absurd (no-open (open_at (state_after start deeds).lanes links) o
            (clients-leave reading seals links start deeds so.last are (so.none is) ∙ idle) at)
        full-by-end (Some one) is = elim (spent-or-not one.end) [
          | inl spent ↦ (so.spent one is spent).0
          | inr other ↦
              let ends = so.ended one is other in
              absurd (no-open (open_at (state_after start deeds).lanes links) o
              (last-free reading seals links start deeds ends.last one.end so.last are
              ends.deed ends.told) at)
        ]

        -- an operation is under way on it at the end only since the history is full
        pub under-way-last : limit ≤ length deeds
        under-way-last = full-by-end led refl
