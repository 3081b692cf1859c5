use Rattle.luks_format.proofs.DiskFormat.OpenedLemmas.{opened}
use Rattle.luks_format.proofs.format_disk.laws.new_volumes_are_opened.Goals as goal

pub returns : goal.returns
returns c =
    λ w sizes pass seed v bytes wish disk is. opened w sizes pass seed v bytes wish disk is
