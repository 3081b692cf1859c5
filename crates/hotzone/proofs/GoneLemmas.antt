-- The metadata of a header to come, as they are made of those of a header that was loaded.
use Rattle.std.proofs.Common.{◌≡◌, ◌∙◌, ℕ, Option, Some, false, sym, ap, subst}
use Rattle.std.specs.Option.{IsSomeAnd}
use Rattle.hotzone.proofs.MadeLemmas.{config-on, known-by, never-idle}
use Rattle.luks_meta.specs.declared.config.Config.{Config}
use Rattle.luks_meta.specs.declared.meta.Parts.{Parts}
use Rattle.luks_rules.specs.Segments.{in_progress}
use Rattle.luks_rules.specs.Shapes.{progress_of}
use Rattle.luks_rules.specs.declared.plan.Plan.{Plan}
use Rattle.luks_rules.specs.declared.shape.Progress.{Progress}
use Rattle.luks_rules.specs.declared.valid.Checked.{Checked}
use Rattle.reenc_meta.specs.Moves.{IsGoneTo}

-- how far a conversion is, and metadata with which it goes on
pub record Goes (before : Checked) (p : Progress) (plan : Plan) (meta : Parts) : Type 0 where
  pub known : progress_of before.meta before.sizes ≡ Some p
  pub gone : IsGoneTo before.meta before.sizes p plan meta

pub known-here : (before valid : Checked) (p : Progress) → valid ≡ before
    → progress_of valid.meta valid.sizes ≡ Some p
    → progress_of before.meta before.sizes ≡ Some p
known-here before valid p same known =
    subst (λ (v : Checked). progress_of v.meta v.sizes ≡ Some p) same known

pub may-here : (P : ℕ → Progress → Type 0) (before valid : Checked) (p : Progress)
    → valid ≡ before → progress_of valid.meta valid.sizes ≡ Some p
    → IsSomeAnd (progress_of before.meta before.sizes) (P before.sizes.atom)
    → P valid.sizes.atom p
may-here P before valid p same known may =
    subst (λ (v : Checked). P v.sizes.atom p) (sym same)
    (known-by (P before.sizes.atom) (progress_of before.meta before.sizes) p (known-here before valid p same known) may)

pub goes-here : (before valid : Checked) (p : Progress) (plan : Plan) (meta : Parts)
    → valid ≡ before → progress_of valid.meta valid.sizes ≡ Some p
    → IsGoneTo valid.meta valid.sizes p plan meta → Goes before p plan meta
goes-here before valid p plan meta same known gone = record {
  known = known-here before valid p same known;
  gone = subst (λ (v : Checked). IsGoneTo v.meta v.sizes p plan meta) same gone;
}

same-progress : (p q : Progress) → ◌≡◌ {A = Option Progress} (Some p) (Some q) → p ≡ q
same-progress p q is = cc

-- it is said of the one progress that there is
pub goes-by : (before : Checked) (by : Progress → Plan) (p : Progress) (meta next : Parts)
    → Goes before p (by p) meta → next ≡ meta → (now : Progress)
    → progress_of before.meta before.sizes ≡ Some now
    → IsGoneTo before.meta before.sizes now (by now) next
goes-by before by p meta next goes same now known =
    subst (λ (m : Parts). IsGoneTo before.meta before.sizes now (by now) m) (sym same)
    (subst (λ (q : Progress). IsGoneTo before.meta before.sizes q (by q) meta)
    (same-progress p now (sym goes.known ∙ known)) goes.gone)

-- the area of its text is as long
pub goes-as_long : (before : Checked) (p : Progress) (plan : Plan) (meta : Parts)
    → Goes before p plan meta → meta.config.json_size ≡ before.meta.config.json_size
goes-as_long before p plan meta goes =
    ap (λ (m : Parts). m.config.json_size) goes.gone.is
    ∙ ap (λ (c : Config). c.json_size) (config-on before.sizes.atom p plan before.meta)

-- a conversion is under way
pub is-under_way : (P : Progress → Type 0) (before valid : Checked) → valid ≡ before
    → IsSomeAnd (progress_of before.meta before.sizes) P → in_progress valid.meta.config ≡ false
    → ⊥
is-under_way P before valid same may idle =
    never-idle P before.meta before.sizes may
    (ap (λ (v : Checked). in_progress v.meta.config) (sym same) ∙ idle)
