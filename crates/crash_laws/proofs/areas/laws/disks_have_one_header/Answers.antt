use Rattle.crash_laws.proofs.HeaderAreas.HeadersGiven.{header_is_one}
use Rattle.crash_laws.proofs.areas.laws.disks_have_one_header.Goals as goal

pub returns : goal.returns
returns c = λ reader is_reader bytes one two. header_is_one reader bytes one two
