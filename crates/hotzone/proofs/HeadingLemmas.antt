-- The headers of a zone stay so while their commits go on; what the last one says of the volume.
use Rattle.std.proofs.Common.{◌≡◌, ◌∙◌, ℕ, Some}
use Rattle.std.proofs.Common.{refl, ap}
use Rattle.hotzone.specs.Headings.{AreOf, IsSame}
use Rattle.hotzone.specs.declared.worker.NextHeader.{NextHeader}
use Rattle.luks_rules.specs.Shapes.{progress_of}
use Rattle.luks_rules.specs.declared.shape.Progress.{Progress}
use Rattle.luks_store.specs.declared.commit.Prepared.{Prepared}
use Rattle.luks_store.specs.declared.loaded.Stored.{Stored}
use Rattle.reenc_meta.specs.Layouts.{progress_at}
use Rattle.reenc_meta.specs.Moves.{moved, opened}

pub same-self : (p : Prepared) → IsSame p p
same-self p = record {
  primary = refl;
  secondary = refl;
  copies = refl;
  sizes = λ device has. has;
}

pub same-on : (first now next : Prepared) → IsSame first now → IsSame now next → IsSame first next
same-on first now next one two = record {
  primary = two.primary ∙ one.primary;
  secondary = two.secondary ∙ one.secondary;
  copies = two.copies ∙ one.copies;
  sizes = λ device has. two.sizes device (one.sizes device has);
}

pub open-on : (before : Stored) (blocks : ℕ) (middle after : Prepared) (next : NextHeader)
    → AreOf before blocks middle next → IsSame middle after → AreOf before blocks after next
open-on before blocks middle after next are same = record {
  now = are.now;
  known = are.known;
  between = are.between;
  opens = are.opens;
  first = are.first;
  commit = are.commit;
  loaded = are.loaded;
  same = same-on are.first middle after are.same same;
  moves = are.moves;
  follows = are.follows;
}

pub moved-on : (before : Stored) (blocks : ℕ) (middle : Prepared) (next : NextHeader)
    (after : Prepared) → AreOf before blocks middle next → IsSame next.commit after
    → AreOf before blocks middle (record next { commit = after })
moved-on before blocks middle next after are same = record {
  now = are.now;
  known = are.known;
  between = are.between;
  opens = are.opens;
  first = are.first;
  commit = are.commit;
  loaded = are.loaded;
  same = are.same;
  moves = are.moves;
  follows = record {
    first = are.follows.first;
    commit = are.follows.commit;
    loaded = are.follows.loaded;
    same = same-on are.follows.first next.commit after are.follows.same same;
  };
}

-- the disks of both headers are those of the first
pub between-sizes : (before : Stored) (blocks : ℕ) (middle : Prepared) (next : NextHeader)
    → (are : AreOf before blocks middle next) → are.between.valid.sizes ≡ before.valid.sizes
between-sizes before blocks middle next are = are.loaded.sizes ∙ are.commit.sizes

pub moved-sizes : (before : Stored) (blocks : ℕ) (middle : Prepared) (next : NextHeader)
    → AreOf before blocks middle next → next.loaded.valid.sizes ≡ before.valid.sizes
moved-sizes before blocks middle next are =
    are.follows.loaded.sizes ∙ are.follows.commit.sizes
    ∙ between-sizes before blocks middle next are

-- how far the conversion is behind the zone
abbrev pub progress_behind : ℕ → Progress → Progress
progress_behind blocks p =
    progress_at
    (moved p.conversion.direction blocks (opened p.conversion.direction blocks p.plan))
    (progress_at (opened p.conversion.direction blocks p.plan) p)

pub behind-known : (before : Stored) (blocks : ℕ) (middle : Prepared) (next : NextHeader)
    → (are : AreOf before blocks middle next)
    → progress_of next.loaded.valid.meta next.loaded.valid.sizes
    ≡ Some (progress_behind blocks are.now)
behind-known before blocks middle next are =
    ap (progress_of next.loaded.valid.meta) (moved-sizes before blocks middle next are)
    ∙ are.moves.progress
