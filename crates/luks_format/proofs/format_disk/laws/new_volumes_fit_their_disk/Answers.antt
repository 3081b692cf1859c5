use Rattle.luks_format.proofs.DiskFormat.FrontLemmas.{fits-new}
use Rattle.luks_format.proofs.format_disk.laws.new_volumes_fit_their_disk.Goals as goal

pub returns : goal.returns
returns c =
    λ w sizes pass seed v device wish disk is has.
    fits-new w sizes pass seed v device wish disk is has
