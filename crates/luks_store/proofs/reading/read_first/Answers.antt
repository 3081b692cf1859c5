use Rattle.std.proofs.Common.{◌≡◌, ℕ, ◌+◌, List, drop, get_or, Ok, Err, sym, ◌∙◌, subst, arith}
use Rattle.std.proofs.lemmas.List.{at_drop_all, at_drop_more}
use Rattle.luks_store.proofs.CopyLemmas.{found-here, found-later, found-none}
use Rattle.luks_store.proofs.DiskLemmas.{unwritten-joined}
use Rattle.luks_store.specs.Devices.{front_of}
use Rattle.sector_disk.specs.JoinedDisks.Counts.{sizes_of}
use Rattle.base_terms.specs.declared.disk_sizes.Sizes.{Sizes}
use Rattle.luks_store.specs.Found.{copy_at, first_at}
use Rattle.luks_store.proofs.reading.read_first.Goals as goal

pub returns-in-Ok-Ok-clause-unwritten : goal.returns-in-Ok-Ok-clause-unwritten
returns-in-Ok-Ok-clause-unwritten g c =
    unwritten-joined _ _ _ c.loop-i.invariant.unwritten c.read_at.ensures.unwritten

pub returns-in-Err-clause-unwritten : goal.returns-in-Err-clause-unwritten
returns-in-Err-clause-unwritten g c =
    unwritten-joined _ _ _ c.loop-i.invariant.unwritten c.read_at.ensures.unwritten

pub returns-in-Ok-Ok-clause-found : goal.returns-in-Ok-Ok-clause-found
returns-in-Ok-Ok-clause-found g c = λ all told.
    let disk = front_of (sizes_of c.args.disk.now) all in
    let at =
    subst (λ (z : Sizes). Ok c.in-Ok-Ok.copy
    ≡ copy_at (get_or c.args.places.now c.loop-i.i 0) (front_of z all)) c.loop-i.invariant.sizes
    (sym c.in-Ok-Ok.field-0-is
    ∙ c.in-Ok-Ok.ensures.found all (c.loop-i.invariant.unwritten.values ∙ told)) in
    sym (found-here (drop (c.loop-i.i + 1) c.args.places.now) _ disk c.in-Ok-Ok.copy at)
    ∙ sym (at_drop_more (λ (xs : List ℕ). first_at xs disk) c.args.places.now c.loop-i.i 0
    c.loop-i-test.true)
    ∙ c.loop-i.invariant.none all told

pub loop-i-preserved : goal.loop-i-preserved
loop-i-preserved g c = record {
  unwritten = unwritten-joined _ _ _ c.loop-i.invariant.unwritten c.read_at.ensures.unwritten;
  sizes = c.read_at.ensures.sizes ∙ c.loop-i.invariant.sizes;
  none = λ all told. (let disk = front_of (sizes_of c.args.disk.now) all in
      let at =
      subst (λ (z : Sizes). Err c.in-Ok-Err.field-0-0
      ≡ copy_at (get_or c.args.places.now c.loop-i.i 0) (front_of z all)) c.loop-i.invariant.sizes
      (sym c.in-Ok-Err.field-0-is
      ∙ c.in-Ok-Err.ensures.found all (c.loop-i.invariant.unwritten.values ∙ told)) in
      sym (found-later (drop (c.loop-i.i + 1) c.args.places.now) _ disk c.in-Ok-Err.field-0-0 at)
      ∙ sym (at_drop_more (λ (xs : List ℕ). first_at xs disk) c.args.places.now c.loop-i.i 0
      c.loop-i-test.true)
      ∙ c.loop-i.invariant.none all told);
}

pub returns-clause-found : goal.returns-clause-found
returns-clause-found g c = λ all told.
    sym (found-none (front_of (sizes_of c.args.disk.now) all))
    ∙ sym (at_drop_all (λ (xs : List ℕ). first_at xs (front_of (sizes_of c.args.disk.now) all))
    c.args.places.now c.loop-i.i
    (let over = c.loop-i-test.false in omega (arith, over)))
    ∙ c.loop-i.invariant.none all told
