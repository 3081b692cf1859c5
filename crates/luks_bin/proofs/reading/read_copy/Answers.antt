use Rattle.std.proofs.Common.{◌≡◌, ◌≤◌, length, take, sym, arith}
use Rattle.std.proofs.lemmas.List.{length-take-le}
use Rattle.luks_bin.proofs.FieldLemmas.{size-least}
use Rattle.luks_bin.proofs.ReadLemmas.{sized}
use Rattle.luks_bin.proofs.reading.read_copy.Goals as goal

pub slice_bounds-read_header-end : goal.slice_bounds-read_header-end
slice_bounds-read_header-end c =
    let is = sized _ _ _ _ (sym c.in-Ok.ensures) in
    sym (length-take-le c.in-Ok.size c.args.bytes.now is.room)

pub read_header-requires : goal.read_header-requires
read_header-requires c =
    let is = sized _ _ _ _ (sym c.in-Ok.ensures) in
    let len : length (take c.in-Ok.size c.args.bytes.now) ≡ c.in-Ok.size =
    length-take-le c.in-Ok.size c.args.bytes.now is.room in
    let least : 16384 ≤ c.in-Ok.size = size-least _ is.one_of_nine in
    omega arith
