use Rattle.luks_format.proofs.DiskFormat.WrittenLemmas.{are-written}
use Rattle.luks_format.proofs.format_disk.laws.new_volumes_are_written.Goals as goal

pub returns : goal.returns
returns c = are-written
