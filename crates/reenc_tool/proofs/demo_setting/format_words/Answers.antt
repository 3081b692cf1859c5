use Rattle.std.proofs.Common.{inl, refl, arith}
use Rattle.command_line.specs.Segments.{has_key_size}
use Rattle.luks_bin.specs.Fields.{is_size}
use Rattle.reenc_tool.proofs.demo_setting.format_words.Goals as goal

pub returns-clause-bounded : goal.returns-clause-bounded
unfolding has_key_size is_size
returns-clause-bounded c = rw c.segment.ensures (record {
  atom = inl refl;
  segment = record {
    key = refl;
    sector = refl;
    sectors = refl;
    some_rounds = omega arith;
    most_rounds = omega arith;
  };
  page = refl;
  within = omega arith;
  size = refl;
})
