-- The end of a conversion as it is made.
use Rattle.std.proofs.Common.{◌≡◌, ◌∙◌, Some, ap, subst}
use Rattle.hotzone.proofs.GoneLemmas.{known-here}
use Rattle.hotzone.proofs.MadeLemmas.{config-behind}
use Rattle.hotzone.specs.Endings.{HasZeros, IsEnding, IsFinishing, wiped}
use Rattle.hotzone.specs.declared.worker.Wipes.{Wipes}
use Rattle.luks_store.specs.Copying.Held.{stage_in}
use Rattle.luks_store.specs.declared.header_copies.commit.Stage.TheVariants.{Begun}
use Rattle.luks_meta.specs.declared.meta.Parts.{Parts}
use Rattle.luks_rules.specs.Shapes.{progress_of}
use Rattle.luks_rules.specs.declared.shape.Progress.{Progress}
use Rattle.luks_rules.specs.declared.valid.Checked.{Checked}
use Rattle.luks_store.specs.Commits.{IsNext}
use Rattle.luks_store.specs.declared.commit.Prepared.{Prepared}
use Rattle.luks_store.specs.declared.loaded.Stored.{Stored}
use Rattle.reenc_meta.specs.Finishes.{IsFinished}

-- how far a conversion is, and the finished metadata
pub record Ends (before : Checked) (p : Progress) (meta : Parts) : Type 0 where
  pub known : progress_of before.meta before.sizes ≡ Some p
  pub finished : IsFinished before.meta before.sizes p meta

pub ends-here : (before valid : Checked) (p : Progress) (meta : Parts) → valid ≡ before
    → progress_of valid.meta valid.sizes ≡ Some p → IsFinished valid.meta valid.sizes p meta
    → Ends before p meta
ends-here before valid p meta same known finished = record {
  known = known-here before valid p same known;
  finished = subst (λ (v : Checked). IsFinished v.meta v.sizes p meta) same finished;
}

-- the area of their text is as long
pub ends-as_long : (before : Checked) (p : Progress) (meta : Parts) → Ends before p meta
    → meta.config.json_size ≡ before.meta.config.json_size
ends-as_long before p meta ends =
    ap (λ (m : Parts). m.config.json_size) ends.finished.is
    ∙ config-behind before.sizes p before.meta

pub is-finishing : (before : Stored) (p : Progress) (meta : Parts) → Ends before.valid p meta
    → IsFinishing before meta
is-finishing before p meta ends = (p, ends.known, ends.finished)

pub is-ending : (before : Stored) (p : Progress) (meta : Parts) (commit : Prepared) (wipes : Wipes)
    → Ends before.valid p meta → IsNext before meta commit → stage_in commit.copies ≡ Begun
    → wipes.areas ≡ wiped p.conversion.area before.valid.meta.keyslots meta.keyslots
    → HasZeros wipes
    → IsEnding before (record { commit = commit; wipes = wipes })
is-ending before p meta commit wipes ends next begun areas zeros = record {
  now = p;
  known = ends.known;
  meta = meta;
  finished = ends.finished;
  commit = next;
  begun = begun;
  areas = areas;
  zeros = zeros;
}
