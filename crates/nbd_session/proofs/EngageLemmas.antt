-- Lanes as they are made for ports and dismissed.
use Rattle.std.proofs.Common.{◌≡◌, ℕ, ◌<◌, ◌≤◌, List, [], ◌∷◌, ◌++◌, length, slice_index_or, drop}
use Rattle.std.proofs.Common.{take, sym, ◌∙◌, ap, subst, arith, append-nil}
use Rattle.std.proofs.lemmas.List.{drop_all, take_all}
use Rattle.nbd_session.specs.declared.lane.Lane.{Lane}
use Rattle.nbd_session.specs.Flying.{AreMade, IsMade, IsPassFor, IsReady, ReaderCell}
use Rattle.nbd_session.specs.Flying.{ReaderPass, WriterCell, WriterPass}
use Rattle.nbd_session.proofs.PassLemmas.{each-more}
use Rattle.volume_cell.specs.Passes.{known}

-- what was taken of a list that was written whole
pub written-whole : {A : Type 0} (n : ℕ) (old new : List A) → length new ≡ length old
    → length old ≤ n → take n (new ++ drop (length new) old) ≡ new
written-whole n old new same few =
    ap (λ rest. take n (new ++ rest)) (drop_all (length new) old (omega (arith, same)))
    ∙ (ap (λ l. take n l) (append-nil new) ∙ take_all n new (omega (arith, same, few)))

module _ {S K P A B : Type 0} (usable : P → Type 0) (reader : ReaderCell S A)
    (writer : WriterCell K B) (ports : List P)
  where
    -- a lane more, for the next port
    pub made-more : (lanes after : List (Lane (ReaderPass S) (WriterPass K) P)) (number : ℕ)
        (lane : Lane (ReaderPass S) (WriterPass K) P) → length lanes ≡ number
        → after ≡ lanes ++ lane ∷ [] → IsPassFor reader number lane.source
        → IsPassFor writer number lane.sink → (known lane.source).calls ≡ []
        → (known lane.sink).calls ≡ [] → usable lane.port
        → ((port : P) → lane.port ≡ slice_index_or ports number port)
        → ((k : ℕ) (one : Lane (ReaderPass S) (WriterPass K) P) → k < length lanes → (port : P)
        → IsMade usable reader writer k (slice_index_or ports k port) (slice_index_or lanes k one))
        → (k : ℕ) (one : Lane (ReaderPass S) (WriterPass K) P) → k < length after → (port : P)
        → IsMade usable reader writer k (slice_index_or ports k port) (slice_index_or after k one)
    made-more lanes after number lane long is source sink no_takes no_puts fit here all k one below
        port =
        subst (λ (them : List (Lane (ReaderPass S) (WriterPass K) P)).
        IsMade usable reader writer k (slice_index_or ports k port) (slice_index_or them k one))
        (sym is)
        (each-more (λ j it. (other : P) →
        IsMade usable reader writer j (slice_index_or ports j other) it) lanes lane all
        (λ other. subst (λ (n : ℕ).
        IsMade usable reader writer n (slice_index_or ports n other) lane) (sym long)
        (record {
          ready = record { source = source; sink = sink; usable_port = fit };
          port_is = here other;
          no_takes = no_takes;
          no_puts = no_puts;
        })) k one
        (subst (λ (them : List (Lane (ReaderPass S) (WriterPass K) P)). k < length them) is below)
        port)

    pub made-ready : (lanes slots : List (Lane (ReaderPass S) (WriterPass K) P)) → slots ≡ lanes
        → AreMade usable reader writer ports lanes
        → (k : ℕ) (lane : Lane (ReaderPass S) (WriterPass K) P) → k < length slots
        → IsReady usable reader writer k (slice_index_or slots k lane)
    made-ready lanes slots is made k lane below =
        subst (λ (them : List (Lane (ReaderPass S) (WriterPass K) P)).
        IsReady usable reader writer k (slice_index_or them k lane)) (sym is)
        (let short = subst (λ (them : List (Lane (ReaderPass S) (WriterPass K) P)). k < length them)
        is below in let count = made.count in
        (made.each k lane.port lane (omega (arith, short, count))).ready)
