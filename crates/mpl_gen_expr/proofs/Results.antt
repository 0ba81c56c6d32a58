-- The words and the type of what a function gives, by the type of its result.
use Rattle.std.proofs.Common.{◌≡◌, false, List, option_map, Option, Some, None, refl, ap}
use Rattle.mpl_ast.specs.declared.program.Declaration.{Declaration}
use Rattle.mpl_ast.specs.declared.statement.TypeName.{TypeName}
use Rattle.mpl_mean.proofs.Truth.{some_is}
use Rattle.mpl_mean.specs.Meaning.Layout.{Function, meant, words_of_one}
use Rattle.mpl_mean.specs.Meaning.PlaceMeaning.{is_bool}
use Rattle.mpl_gen_code.specs.Words.{is_bool_function, words_of_function}
use Rattle.mpl_gen_scope.specs.Outlines.{result_of}

pub words_of_given : (ds : List Declaration) (o : Option Function) (type : TypeName) → Some type ≡ option_map result_of o → words_of_one (meant ds type) ≡ words_of_function ds o
words_of_given ds None type h = absurd cc
words_of_given ds (Some f) type h = ap (λ t. words_of_one (meant ds t)) (some_is h)

pub words_of_none : (ds : List Declaration) (o : Option Function) → None ≡ option_map result_of o → 0 ≡ words_of_function ds o
words_of_none ds None h = refl
words_of_none ds (Some f) h = absurd cc

pub bool_of_given : (o : Option Function) (type : TypeName) → Some type ≡ option_map result_of o → is_bool type ≡ is_bool_function o
bool_of_given None type h = absurd cc
bool_of_given (Some f) type h = ap is_bool (some_is h)

pub bool_of_none : (o : Option Function) → None ≡ option_map result_of o → false ≡ is_bool_function o
bool_of_none None h = refl
bool_of_none (Some f) h = absurd cc
