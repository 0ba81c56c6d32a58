-- What items and variables in the code stand for.
use Rattle.std.specs.Prelude.{List, [], ◌∷◌, map, reverse, ℤ}
use Rattle.mpl_value.specs.declared.body.Arg.{Arg}
use Rattle.mpl_body_code.specs.Machine.{Item, OfValue, OfTrap, NotKnown, arg_of}
use Rattle.mpl_body_run.specs.declared.stack.Holds.{Holds}
use Rattle.mpl_body_run.specs.declared.stack.Holds.TheVariants as holds
use Rattle.mpl_body_run.specs.declared.word_list.WordList.{WordList}
use Rattle.mpl_body_run.specs.declared.word_list.WordList.TheVariants as list

abbrev pub item_seen : Holds → Item
item_seen (holds.Word z b) = OfValue (record { words = z ∷ []; is_bool = b })
item_seen (holds.Words words b) = OfValue (record { words = words.value; is_bool = b })
item_seen (holds.Trapped trap) = OfTrap trap
item_seen holds.Unknown = NotKnown

-- the last is the top
abbrev pub stack_seen : List Holds → List Item
stack_seen all = reverse (map item_seen all)

-- what variables hold
abbrev pub arg_seen : Holds → Arg
arg_seen h = arg_of (item_seen h)

abbrev pub slots_seen : List Holds → List Arg
slots_seen all = reverse (map arg_seen all)

-- the words that a function returns
abbrev pub words_seen : WordList → List ℤ
words_seen (list.One word) = word ∷ []
words_seen (list.Many words) = words.value
