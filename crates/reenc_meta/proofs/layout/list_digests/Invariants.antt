use Rattle.std.proofs.Common.{◌≡◌, map, take}
use Rattle.reenc_meta.specs.Layouts.{listed_by}
use Rattle.reenc_meta.proofs.layout.list_digests.Given as goal

abbrev pub invariant-loop-digest : goal.invariant-loop-digest
invariant-loop-digest l =
    l.listed.items ≡ map (listed_by l.progress l.sides) (take l.digest-index l.digests)
