-- The entries of the `select` of a class, if it has one.
use Rattle.std.specs.Prelude.{List, Option}
use Rattle.mpl_ast.specs.declared.class.Entry.{Entry}
use Rattle.mpl_gen_code.specs.ProgramImage.{select_of}
use Rattle.mpl_layout.specs.declared.class.Class.{Class}

abbrev pub select_seen : Class → Option (List Entry)
select_seen c = select_of c.items.now
