use Rattle.std.proofs.Common.{◌∙◌, ◌++◌, [], List, ℕ, ap, ap₂, map, string_bytes}
use Rattle.luks_bin.specs.declared.header.BinHeader.{BinHeader}
use Rattle.luks_meta.specs.declared.keyslot.Keyslot.{Keyslot}
use Rattle.luks_rules.specs.Idles.{idle_of}
use Rattle.luks_rules.specs.Shapes.{progress_of}
use Rattle.luks_rules.specs.declared.valid.Checked.{Checked}
use Rattle.header_report.specs.Reports.{lines_of, seqid_line, slot_line, text_of_lines, uuid_line}
use Rattle.header_report.specs.Reports.{volume_lines}
use Rattle.header_report.proofs.LineLemmas.{whole}
use Rattle.header_report.proofs.text.report.Goals as goal

pub returns : goal.returns
unfolding lines_of
returns c =
    let valid = c.args.loaded.now.valid in
    whole (string_bytes c.in_ok-uuid.uuid) (string_bytes c.in_ok-seqid.seqid)
    (string_bytes c.in_ok-volume.volume) [] _ _
    (volume_lines (idle_of valid.meta valid.sizes) (progress_of valid.meta valid.sizes))
    (map slot_line valid.meta.keyslots) _
    (c.in_ok-uuid.ensures ∙ ap (λ (h : BinHeader). uuid_line h.uuid) c.header-header.ensures)
    (c.in_ok-seqid.ensures ∙ ap (λ (h : BinHeader). seqid_line h.seqid) c.header-header.ensures)
    (c.in_ok-volume.ensures ∙ ap (λ (v : Checked). text_of_lines
    (volume_lines (idle_of v.meta v.sizes) (progress_of v.meta v.sizes))) c.valid-valid.ensures)
    (c.in_ok-add_slots.ensures
    ∙ ap₂ (λ (a : List ℕ) (b : List (ℕ × Keyslot)). a ++ text_of_lines (map slot_line b))
    c.in_ok-report.ensures.ok
    (c.as_slice.ensures ∙ ap (λ p. p.keyslots) (c.parts.ensures.same ∙ c.meta.ensures)
    ∙ ap (λ (v : Checked). v.meta.keyslots) c.valid-valid.ensures))
