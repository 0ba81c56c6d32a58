use Rattle.std.proofs.Common.{◌≡◌, ◌+◌, List, drop, map}
use Rattle.mpl_ast.specs.declared.class.Field.{Field}
use Rattle.mpl_layout.specs.Bounds.{words_in}
use Rattle.mpl_layout.specs.Parts.{parts_with}
use Rattle.mpl_layout.specs.SeenParts.{part_seen}
use Rattle.mpl_layout.proofs.parts.add_field.Given as goal

abbrev pub invariant-loop-name : goal.invariant-loop-name
invariant-loop-name l = record {
  parts : (others : List Field) →
      parts_with l.layout l.field.type_name (map part_seen l.parts.items) l.next (drop l.name-index l.name-items) others
      ≡ parts_with l.layout l.field.type_name (map part_seen l.initial.parts.items) l.offset l.name-items others;
  words : l.next + words_in l.layout l.field.type_name (drop l.name-index l.name-items) ≡ l.offset + words_in l.layout l.field.type_name l.name-items;
}
