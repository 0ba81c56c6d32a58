-- The meaning of a program, as journals see it.
use Rattle.std.specs.Prelude.{ℕ, List, map, Option, Some, None, pos}
use Rattle.std.specs.FinMap.{from_entries}
use Rattle.std.specs.Option.{option_map}
use Rattle.mpl_ast.specs.declared.program.Declaration.{Declaration}
use Rattle.mpl_ast.specs.declared.program.Program.{Program}
use Rattle.mpl_mean.specs.Laws.Sizes.{member_of_id, words_of_formal, words_of_object, words_of_result}
use Rattle.mpl_mean.specs.Meaning.BodyMeaning.{yield_of}
use Rattle.mpl_mean.specs.Meaning.ExpressionMeaning.{value_of}
use Rattle.mpl_mean.specs.Meaning.Layout.{Class, Member}
use Rattle.mdf_mean.specs.Guards.{choices_by, class_at}
use Rattle.mdf_mean.specs.Meanings.{Meaning, MemberSizes}

abbrev pub words_in : List Declaration → Option Class → ℕ
words_in ds None = 0
words_in ds (Some class) = words_of_object ds class

abbrev pub sizes_of : List Declaration → Class × Member → MemberSizes
sizes_of ds found = record {
  class = pos found.0.number;
  formals = map (words_of_formal ds) found.1.formals;
  result = words_of_result ds found.1.result;
}

-- A program's bodies do what the language says, with the table of the replies.
abbrev pub language : Program → Meaning
language p = record {
  yield = λ start answers turns. yield_of p start (from_entries answers) turns;
  choices = choices_by value_of p.declarations;
  words = λ class. words_in p.declarations (class_at p.declarations class);
  sizes = λ id. option_map (sizes_of p.declarations) (member_of_id p.declarations id);
}
