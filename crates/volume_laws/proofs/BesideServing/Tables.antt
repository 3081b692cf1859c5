-- The tables of a disk along deeds: each adds at most one, the one after it.
use Rattle.std.proofs.Common.{All, List, Some, [], ap, append_assoc, inl, inr, refl, sym, ℕ, ◌++◌}
use Rattle.std.proofs.Common.{◌∙◌, ◌∷◌, ◌≡◌}
use Rattle.std.proofs.lemmas.List.{append-nil}
use Rattle.std.proofs.lemmas.List.Elements.{All-cons, All-nil}
use Rattle.sector_disk.specs.Cells.{Cell}
use Rattle.sector_disk.specs.Steps.{Told}
use Rattle.volume_machine.specs.Effects.{Grows}
use Rattle.volume_machine.specs.Seals.{Seals}
use Rattle.volume_machine.specs.States.{State}
use Rattle.volume_machine.proofs.EventEffects.{event_effects}
use Rattle.volume_machine.specs.Deeds.{Act, AreDeeds, Deed, Does, client, state_after, worker}
use Rattle.volume_machine.specs.Readings.{Reading}
use Rattle.volume_laws.proofs.BesideServing.WorkCalls.{work_called}
use Rattle.volume_laws.specs.BesideServing.Tables.{TellsDeeds, WasTold}

-- a table that was told later was told
told_later : {K : Type 0} (start : State K) (one : Deed K) (rest : List (Deed K))
    (cells : List Cell) → WasTold one.after rest cells → WasTold start (one ∷ rest) cells
unfolding state_after
told_later start one rest cells was = record {
  earlier = one ∷ was.earlier;
  later = was.later;
  parts = ap (λ xs. one ∷ xs) was.parts;
  told = was.told;
  is = was.is;
  now = was.now;
}

told_first : {K : Type 0} (start : State K) (one : Deed K) (rest : List (Deed K))
    (told : Told) → one.after.disk.told ≡ Some told → WasTold start (one ∷ rest) told.now
unfolding state_after
told_first start one rest told is =
    record { earlier = one ∷ []; later = rest; parts = refl; told = told; is = is; now = refl }

module _ {K : Type 0} (reading : Reading) (seals : Seals) where
  tables_on : (old new : State K) (act : Act) → Does reading seals old act new
      → Grows old.disk.told new.disk.told
  tables_on old new (client event outcome) (meets, step) =
      (event_effects old new event outcome step).disk.tables
  tables_on old new (worker worked) step = (work_called step).tables

  pub tells_deeds : (start : State K) (deeds : List (Deed K)) (now : Told)
      → AreDeeds reading seals start deeds → (state_after start deeds).disk.told ≡ Some now
      → TellsDeeds start deeds now
  unfolding AreDeeds state_after
  tells_deeds start [] now are told = record {
    before = now;
    was = told;
    tables = [];
    since = sym (append-nil now.past);
    each = All-nil _;
  }
  tells_deeds start (one ∷ rest) now (does, are) told =
      let behind = tells_deeds one.after rest now are told in
      let (before, was, grew) = tables_on start one.after one.act does behind.before behind.was in
      let later : All (λ table. WasTold start (one ∷ rest) table.1) behind.tables =
      λ k d below. told_later start one rest _ (behind.each k d below) in
      elim grew [
        | inl same ↦ record {
          before = before;
          was = was;
          tables = behind.tables;
          since = behind.since ∙ ap (λ t. t.past ++ behind.tables) same;
          each = later;
        }
        | inr grown ↦ record {
          before = before;
          was = was;
          tables = (before.mark, behind.before.now) ∷ behind.tables;
          since = behind.since ∙ ap (λ t. t.past ++ behind.tables) grown
              ∙ append_assoc before.past ((before.mark, behind.before.now) ∷ []) behind.tables;
          each = All-cons (λ table. WasTold start (one ∷ rest) table.1)
              (before.mark, behind.before.now) behind.tables
              (told_first start one rest behind.before behind.was) later;
        }
      ]
