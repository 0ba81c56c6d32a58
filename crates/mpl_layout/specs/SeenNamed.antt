-- What the names of types stand for, in a table of them.
use Rattle.std.specs.Prelude.{ℕ, true, false, List, Option, Some, None}
use Rattle.mpl_ast.specs.declared.program.Declaration.{Declaration}
use Rattle.mpl_mean.specs.Meaning.Layout.{AClass, AStruct, Meant}
use Rattle.mpl_mean.specs.Meaning.Layout as layout
use Rattle.mpl_layout.specs.Bounds.{FieldsFit}
use Rattle.mpl_layout.specs.declared.named.Named.{Named}
use Rattle.mpl_layout.specs.declared.named.Named.TheVariants as named

abbrev pub named_seen : List ℕ → Named → Meant
named_seen name (named.Struct fields) = AStruct name fields.now
named_seen name (named.Regular items) = AClass name true items.now
named_seen name (named.Persistent items) = AClass name false items.now
named_seen name named.Nothing = layout.Nothing

-- what the table has for a name, or else this
abbrev pub named_or : List ℕ → Option Named → Meant → Meant
named_or name None other = other
named_or name (Some n) other = named_seen name n

-- a struct has few words
abbrev pub NamedFits : List Declaration → Named → Type 0
NamedFits ds (named.Struct fields) = FieldsFit ds fields.now
NamedFits ds (named.Regular items) = Unit {0}
NamedFits ds (named.Persistent items) = Unit {0}
NamedFits ds named.Nothing = Unit {0}
