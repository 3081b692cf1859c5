-- What a gate is told of a conversion.
use Rattle.gates.specs.declared.gate.Converted.{Converted}
use Rattle.segment_map.specs.Sides.{passed_of}
use Rattle.segment_map.specs.declared.map.Map.{Map}

-- how far a volume with this map is converted
abbrev pub converted_in : Map → Converted
converted_in map = record {
  done = passed_of map.direction map.blocks map.boundary;
  blocks = map.blocks;
  atom = map.atom;
}
