use Rattle.std.proofs.Common.{◌≡◌, ◌+◌, ◌-◌, ◌/◌, inl, inr, refl, arith}
use Rattle.std.proofs.lemmas.Bool.{cases_lt}
use Rattle.segment_map.proofs.Pieces.{div-some, times-div, div-most}
use Rattle.segment_map.proofs.map.Map.next_piece.Goals as goal

pub returns : goal.returns
returns c =
    let start = c.end_of.ensures.below c.args.range.start c.side-side.ensures in
    let most =
    div-some 1048576 c.args.self.now.atom c.args.self.now.some_atom c.args.self.now.most_atom in
    record {
      first = refl;
      some = omega (arith, start, most);
      within = omega (arith, start);
      one_side =
          λ k lt. c.end_of.ensures.whole c.args.range.start (c.args.range.start + k)
          c.side-side.ensures (omega arith) (omega (arith, start));
      limit = times-div 1048576 c.args.self.now.atom c.min.result c.args.self.now.some_atom
          (omega arith);
      longest =
          elim (cases_lt (1048576 / c.args.self.now.atom) (c.min-end.result - c.args.range.start)) [
            | inl lt ↦
                let all : c.min.result ≡ 1048576 / c.args.self.now.atom = omega arith in
                inr (inl (rw all (div-most 1048576 c.args.self.now.atom c.args.self.now.some_atom)))
            | inr le ↦ elim (cases_lt c.end_of.result c.args.range.end) [
              | inl lt ↦
                  let end : c.args.range.start + c.min.result ≡ c.end_of.result =
                  omega (arith, start) in
                  inr (inr (rw end c.end_of.ensures.ends))
              | inr le' ↦ inl (omega (arith, start))
            ]
          ];
    }
