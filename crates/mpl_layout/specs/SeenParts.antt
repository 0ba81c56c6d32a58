-- What the parts of structs and states stand for.
use Rattle.mpl_mean.specs.Meaning.Layout as layout
use Rattle.mpl_mean.specs.Meaning.Layout.{dimension_of}
use Rattle.mpl_layout.specs.declared.part.Part.{Part}

abbrev pub part_seen : Part → layout.Part
part_seen p = record { name = p.name.now; type = p.type_name.now; dimension = dimension_of p.dimension; offset = p.offset; words = p.words }
