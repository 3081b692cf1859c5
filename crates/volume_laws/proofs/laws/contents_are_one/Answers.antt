use Rattle.sector_disk.specs.DiskViews.Parts.{value_in}
use Rattle.volume_machine.specs.Pieces.{place_in}
use Rattle.volume_laws.proofs.VolumeStart.{one_content, one_value}
use Rattle.volume_laws.proofs.laws.contents_are_one.Goals as goal

pub returns : goal.returns
returns c = record {
  bytes = one_content;
  images = λ map seals image b one other.
      one_value map seals b one other (value_in image (place_in map b));
}
