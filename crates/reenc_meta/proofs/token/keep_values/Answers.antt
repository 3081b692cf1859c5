use Rattle.std.proofs.Common.{◌≡◌, ◌∙◌, ℕ, List, [], ◌∷◌, map, not, cond, Bool, true, false, refl}
use Rattle.std.proofs.Common.{ap}
use Rattle.std.specs.List.{filter}
use Rattle.reenc_meta.specs.Finishes.{is_dropped, items_kept, names_dropped}
use Rattle.reenc_meta.proofs.LoopLemmas.{kept-all}
use Rattle.reenc_meta.proofs.token.keep_values.Goals as goal
use Rattle.serde_json.specs.Data.{Data, item}
use Rattle.serde_json.specs.View.{items_of, view}

-- the items that stay are those that pass
some_items : (dropped : ℕ → Bool) (ds : List Data)
    → items_of (filter (λ d. not (names_dropped dropped d)) ds) ≡ items_kept dropped (items_of ds)
some_items dropped [] = refl
some_items dropped (d ∷ ds) = go (names_dropped dropped d) (some_items dropped ds)
  where
    go : (b : Bool)
        → items_of (filter (λ d. not (names_dropped dropped d)) ds)
        ≡ items_kept dropped (items_of ds)
        → items_of (cond (not b) (d ∷ filter (λ d. not (names_dropped dropped d)) ds)
        (filter (λ d. not (names_dropped dropped d)) ds))
        ≡ cond b (items_kept dropped (items_of ds)) (item d (items_kept dropped (items_of ds)))
    go true later = later
    go false later = ap (item d) later

pub returns : goal.returns
returns c =
    let dropped = is_dropped c.args.progress.now c.args.digests.now in
    let stays : List Data → List Data = filter (λ d. not (names_dropped dropped d)) in
    ap items_of
    (kept-all (λ vs. stays (map view vs)) (map view c.loop-value.kept.items) c.args.values.now
    c.loop-value.value-index (stays (map view c.args.values.now)) refl c.loop-value-test.false
    c.loop-value.invariant)
    ∙ some_items dropped (map view c.args.values.now)
