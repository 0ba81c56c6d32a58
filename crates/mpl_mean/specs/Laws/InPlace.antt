-- A regular member that is called in place, and its body alone.
use Rattle.std.specs.Prelude.{◌≡◌, ◌+◌, true, List, [], flat_map, length, Some, ℤ, pos}
use Rattle.std.specs.List.{AllZip}
use Rattle.mpl_ast.specs.declared.class.Formal.{Formal}
use Rattle.mpl_ast.specs.declared.program.Declaration.{Declaration}
use Rattle.mpl_value.specs.declared.body.Arg.{Arg}
use Rattle.mpl_value.specs.declared.body.BodyStart.{BodyStart}
use Rattle.mpl_value.specs.declared.body.Yield.{Yield}
use Rattle.mpl_mean.specs.Meaning.BodyMeaning.{back_with}
use Rattle.mpl_mean.specs.Meaning.Layout.{Class, Member}
use Rattle.mpl_mean.specs.Laws.Sizes.{member_of_id, words_of_formal}
use Rattle.mpl_mean.specs.Meaning.Store.{Step}

-- a member of the program, of a regular class
pub record IsRegular (ds : List Declaration) (m : Member) : Type 0 where
  pub class : Class
  pub found : member_of_id ds (record { 0 = m.id }) ≡ Some (class, m)
  pub regular : class.is_regular ≡ true

-- each argument has the words of its formal
abbrev pub ArgumentsHaveWords : List Declaration → List Formal → List (List ℤ) → Type 0
ArgumentsHaveWords ds = AllZip (λ formal words. length words ≡ words_of_formal ds formal)

-- the start of the body of a regular member with these arguments
abbrev pub start_alone : Member → List (List ℤ) → BodyStart
start_alone m arguments = record {
  member = Some (record { 0 = m.id });
  args = flat_map (λ words. words) arguments;
  state = [];
  object = pos 0;
  number = 0;
  input = [];
}

-- A caller goes on with what such a body gave, and with its turns more; where the body is spent the caller is, too.
abbrev pub goes_on_with : Yield → Step Arg
goes_on_with yield store = back_with (store.turns + yield.turns) (yield.end, yield.result) store
