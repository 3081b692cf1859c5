-- An image stands for one content.
use Rattle.std.proofs.Common.{◌≡◌, ℕ, ◌<◌, List, [], Option, Some, Result, Ok, sym, ◌∙◌}
use Rattle.std.proofs.Common.{ap}
use Rattle.std.proofs.Common.{subst, arith}
use Rattle.std.proofs.lemmas.List.{ext_get_or}
use Rattle.base_terms.specs.declared.disk_sizes.Sizes.{Sizes}
use Rattle.sector_disk.specs.DiskViews.Parts.{block_at, value_in}
use Rattle.luks_meta.specs.declared.meta.Parts.{Parts}
use Rattle.luks_rules.specs.declared.extents.Extent.{Extent}
use Rattle.luks_store.specs.Devices.{front_of}
use Rattle.luks_store.specs.Loads.{stored_in}
use Rattle.luks_store.specs.Used.{Refusal}
use Rattle.luks_store.specs.declared.loaded.Stored.{Stored}
use Rattle.reenc_meta.specs.Places.{AreOne}
use Rattle.reenc_meta.specs.declared.placement.Placement.{Placement}
use Rattle.reenc_recovery.specs.Images.{HoldsBlock, HoldsBlocks, StandsFor, StandsUnder, seals_in}
use Rattle.reenc_recovery.specs.Keys.{key_for, seals_by}
use Rattle.reenc_recovery.specs.Placings.{PlacesVolume}
use Rattle.reenc_recovery.proofs.PlacingLemmas.{OnePlacement}
use Rattle.segment_map.specs.declared.Side.{Side}
use Rattle.volume_machine.specs.Pieces.{place_in, side_in}

pub same_stored : (r : Result Stored Refusal) (one other : Stored) → r ≡ Ok one → r ≡ Ok other
    → one ≡ other
same_stored r one other is also = (let e : Ok one ≡ Ok other = sym is ∙ also in cc)

-- what the atom of a block is opened to
abbrev opened : ℕ → List ℕ → List ℕ → List ℕ → ℕ → Extent → Extent → Side → ℕ → List ℕ
opened atom old_key new_key image b old new side place =
    (seals_by atom old new old_key new_key).opened side b (block_at atom image place)

one_block : (atom : ℕ) (p q : Placement) (old new image one other : List ℕ) (b : ℕ) → AreOne p q
    → b < p.map.blocks
    → HoldsBlock p.map (seals_in atom p old new) b one (block_at atom image (place_in p.map b))
    → HoldsBlock q.map (seals_in atom q old new) b other (block_at atom image (place_in q.map b))
    → one ≡ other
one_block atom p q old new image one other b are below is also =
    let f = opened atom old new image b in
    is.opened ∙ ap (λ e. f e p.new (side_in p.map b) (place_in p.map b)) are.old
    ∙ ap (λ e. f q.old e (side_in p.map b) (place_in p.map b)) are.new
    ∙ ap (λ side. f q.old q.new side (place_in p.map b)) (are.sides b below)
    ∙ ap (λ place. f q.old q.new (side_in q.map b) place) (are.places b below) ∙ sym also.opened

one_list : (atom : ℕ) (p q : Placement) (old new image : List ℕ) (one other : List (List ℕ))
    → AreOne p q → HoldsBlocks atom p old new image one → HoldsBlocks atom q old new image other
    → one ≡ other
one_list atom p q old new image one other are is also =
    let count = is.count in
    let same = are.blocks in
    ext_get_or [] one other (is.count ∙ are.blocks ∙ sym also.count) (λ b below.
    one_block atom p q old new image (value_in one b) (value_in other b) b are
    (omega (arith, below, count)) (is.blocks b (omega (arith, below, count)))
    (also.blocks b (omega (arith, below, count, same))))

pub one_under : OnePlacement → (sizes : Sizes) (old new image : List ℕ) (one other : List (List ℕ))
    → StandsUnder sizes old new image one → StandsUnder sizes old new image other → one ≡ other
one_under placed sizes old new image one other is also =
    let same = same_stored (stored_in sizes (front_of sizes image)) is.stored also.stored is.header
    also.header in
    one_list sizes.atom is.placement also.placement old new image one other
    (placed is.stored.valid.meta sizes is.placement also.placement is.placed
    (subst (λ s. PlacesVolume s.valid.meta sizes also.placement) (sym same) also.placed))
    is.holds also.holds

-- ---- under a passphrase
same_key : (o : Option (List ℕ)) (one other : List ℕ) → o ≡ Some one → o ≡ Some other → one ≡ other
same_key o one other is also = (let e : Some one ≡ Some other = sym is ∙ also in cc)

keys_same : (m : Parts) (image pass one other : List ℕ) (e f : Extent) → e ≡ f
    → key_for m image pass e ≡ Some one → key_for m image pass f ≡ Some other → one ≡ other
keys_same m image pass one other e f same is also =
    same_key (key_for m image pass f) one other
    (subst (λ x. key_for m image pass x ≡ Some one) same is) also

pub one_for : OnePlacement → (sizes : Sizes) (pass image : List ℕ) (one other : List (List ℕ))
    → StandsFor sizes pass image one → StandsFor sizes pass image other → one ≡ other
one_for placed sizes pass image one other is also =
    let a = is.stands in
    let c = also.stands in
    let same = same_stored (stored_in sizes (front_of sizes image)) a.stored c.stored a.header
    c.header in
    let are = placed a.stored.valid.meta sizes a.placement c.placement a.placed
    (subst (λ s. PlacesVolume s.valid.meta sizes c.placement) (sym same) c.placed) in
    let old = keys_same a.stored.valid.meta image pass is.old also.old a.placement.old
    c.placement.old are.old is.old_is
    (subst (λ s. key_for s.valid.meta image pass c.placement.old ≡ Some also.old) (sym same)
    also.old_is) in
    let new = keys_same a.stored.valid.meta image pass is.new also.new a.placement.new
    c.placement.new are.new is.new_is
    (subst (λ s. key_for s.valid.meta image pass c.placement.new ≡ Some also.new) (sym same)
    also.new_is) in
    one_under placed sizes also.old also.new image one other
    (subst (λ k. StandsUnder sizes also.old k image one) new
    (subst (λ k. StandsUnder sizes k is.new image one) old a)) c
