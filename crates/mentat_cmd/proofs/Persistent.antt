-- The first word `persistent`, and programs without one.
use Rattle.std.proofs.Common.{◌≡◌, ℕ, ◌+◌, ◌<◌, ◌≤◌, Bool, true, false, List, [], ◌∷◌, length, drop, get_or, Option, Some, None, is_some, refl, ap, sym, ◌∙◌, true≢false, if◌then◌else◌}
use Rattle.mpl_ast.specs.declared.class.Kind.TheVariants.{Regular, Persistent}
use Rattle.mpl_ast.specs.declared.program.Declaration.{Declaration}
use Rattle.mpl_ast.specs.declared.program.Declaration.TheVariants.{Struct, Class, Function}
use Rattle.mpl_mean.proofs.Lists.{next_left, none_left}
use Rattle.mpl_mean.specs.Laws.Waiting.{HasPersistent}
use Rattle.mpl_mean.specs.Meaning.Layout.{Class as Declared, class_named, classes_from, members_from}
use Rattle.mentat_cmd.specs.Program.{first_persistent, or_later, persistent_word}

-- ---- the first word

here_or_later : (word later : Option ℕ) → is_some word ≡ true → or_later word later ≡ word
here_or_later (Some at) later some = refl
here_or_later None later some = absurd (true≢false (sym some))

only_later : (word later : Option ℕ) → is_some word ≡ false → or_later word later ≡ later
only_later (Some at) later none = absurd (true≢false none)
only_later None later none = refl

-- the next declaration has the word
pub word_found : (ds : List Declaration) (i : ℕ) (d : Declaration) (word : Option ℕ) → i < length ds → d ≡ get_or ds i d → word ≡ persistent_word d → is_some word ≡ true
    → first_persistent (drop i ds) ≡ first_persistent ds → word ≡ first_persistent ds
word_found ds i d word within is told some left =
    sym (here_or_later word (first_persistent (drop (i + 1) ds)) some)
    ∙ ap (λ w. or_later w (first_persistent (drop (i + 1) ds))) told
    ∙ ap first_persistent (sym (next_left ds i d within is))
    ∙ left

-- it does not
pub word_passed : (ds : List Declaration) (i : ℕ) (d : Declaration) (word : Option ℕ) → i < length ds → d ≡ get_or ds i d → word ≡ persistent_word d → is_some word ≡ false
    → first_persistent (drop i ds) ≡ first_persistent ds → first_persistent (drop (i + 1) ds) ≡ first_persistent ds
word_passed ds i d word within is told none left =
    sym (only_later word (first_persistent (drop (i + 1) ds)) none)
    ∙ ap (λ w. or_later w (first_persistent (drop (i + 1) ds))) told
    ∙ ap first_persistent (sym (next_left ds i d within is))
    ∙ left

pub none_has_it : (ds : List Declaration) (i : ℕ) → length ds ≤ i → first_persistent (drop i ds) ≡ first_persistent ds → None ≡ first_persistent ds
none_has_it ds i past left = sym (ap first_persistent (none_left ds i past)) ∙ left

-- ---- programs without it

none_is : (class : Declared) → ◌≡◌ {A = Option Declared} None (Some class) → ⊥
none_is class e = cc

some_is_none : (at : ℕ) → ◌≡◌ {A = Option ℕ} (Some at) None → ⊥
some_is_none at e = cc

regular_here : (b : Bool) (here class : Declared) (others : Option Declared) → here.is_regular ≡ true → (if b then Some here else others) ≡ Some class
    → class.is_regular ≡ false → (others ≡ Some class → ⊥) → ⊥
regular_here true here class others regular found persistent later =
    let same : here ≡ class = cc in
    true≢false (sym regular ∙ ap (λ (c : Declared). c.is_regular) same ∙ persistent)
regular_here false here class others regular found persistent later = later found

none_named : (number id : ℕ) (name : List ℕ) (ds : List Declaration) (class : Declared) → first_persistent ds ≡ None
    → class_named name (classes_from number id ds) ≡ Some class → class.is_regular ≡ false → ⊥
none_named number id name [] class none found persistent = none_is class found
none_named number id name (Struct at line struct fields ∷ ds) class none found persistent = none_named number id name ds class none found persistent
none_named number id name (Function at result function formals body ∷ ds) class none found persistent = none_named number id name ds class none found persistent
none_named number id name (Class at line (Persistent word) other items ∷ ds) class none found persistent = some_is_none word.span.from none
none_named number id name (Class at line (Regular word) other items ∷ ds) class none found persistent =
    regular_here _ _ class _ refl found persistent
    (λ later. none_named (number + 1) (id + length (members_from id items)) name ds class none later persistent)

pub no_persistent : (ds : List Declaration) → first_persistent ds ≡ None → HasPersistent ds → ⊥
no_persistent ds none h = none_named 0 0 h.name ds h.class none h.named h.persistent
