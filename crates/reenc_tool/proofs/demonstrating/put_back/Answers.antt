use Rattle.std.proofs.Common.{◌∙◌, sym}
use Rattle.reenc_tool.proofs.demonstrating.put_back.Goals as goal

pub returns : goal.returns
returns c = record {
  fine = c.requires.fine;
  disk = c.in-Some.disk;
  disk_is = sym c.disk_of.ensures ∙ c.in-Some.is;
  back_is = c.put_back.ensures;
}
