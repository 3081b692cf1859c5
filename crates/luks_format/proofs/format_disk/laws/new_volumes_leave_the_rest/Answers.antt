use Rattle.luks_format.proofs.DiskFormat.RestLemmas.{rest-stays}
use Rattle.luks_format.proofs.format_disk.laws.new_volumes_leave_the_rest.Goals as goal

pub returns : goal.returns
returns c = λ w sizes pass seed v old new result wish is made.
    rest-stays w sizes pass seed v old new result wish is made
