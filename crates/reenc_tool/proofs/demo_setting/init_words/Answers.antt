use Rattle.std.proofs.Common.{inl, refl, arith}
use Rattle.command_line.specs.Segments.{has_key_size}
use Rattle.reenc_tool.proofs.demo_setting.init_words.Goals as goal

pub returns-clause-bounded : goal.returns-clause-bounded
unfolding has_key_size
returns-clause-bounded c = rw c.segment.ensures (record {
  atom = inl refl;
  segment = record {
    key = refl;
    sector = refl;
    sectors = refl;
    some_rounds = omega arith;
    most_rounds = omega arith;
  };
  whole_hotzone = refl;
  some_hotzone = omega arith;
  most_hotzone = omega arith;
})
