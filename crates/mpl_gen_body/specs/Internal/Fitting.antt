-- What is asked of the parts of a program, so that the numbers of its image have 32 bits.
use Rattle.std.specs.Prelude.{◌≡◌, ℕ, Bool, false, codes, List, []}
use Rattle.std.specs.Str.{bytes_eq}
use Rattle.mpl_ast.specs.declared.class.Entry.{Entry}
use Rattle.mpl_ast.specs.declared.class.Item.{Item}
use Rattle.mpl_ast.specs.declared.class.Item.TheVariants as item
use Rattle.mpl_ast.specs.declared.program.Declaration.{Declaration}
use Rattle.mpl_ast.specs.declared.program.Declaration.TheVariants as declaration
use Rattle.mpl_mean.specs.Laws.Sizes.{Every}
use Rattle.mpl_mean.specs.Meaning.Layout.{Class, formals_of, member_named}
use Rattle.mpl_gen_code.specs.ProgramImage.{function_image, member_image, with_entry}
use Rattle.mpl_gen_bounds.specs.ImageFits.{EntryFits, FunctionFits, MemberFits}

abbrev pub DeclarationFits : List Declaration → (ℕ → Bool) → Declaration → Type 0
DeclarationFits ds marks (declaration.Struct at line name fields) = Unit {0}
DeclarationFits ds marks (declaration.Class at line kind name items) = Unit {0}
DeclarationFits ds marks (declaration.Function at result name formals body) =
    bytes_eq name.text (codes "main") ≡ false
    → FunctionFits (function_image ds marks (record { name = name.text; function = record { result = result; formals = formals_of formals; body = body } }))

-- The image of a member doesn't have its number.
abbrev pub ItemFits : List Declaration → (ℕ → Bool) → Class → Item → Type 0
ItemFits ds marks class (item.OfField at field) = Unit {0}
ItemFits ds marks class (item.Member at result name formals body) =
    MemberFits (member_image ds marks class (record { id = 0; name = name.text; result = result; formals = formals_of formals; body = body }))
ItemFits ds marks class (item.Select at line entries) = Unit {0}
ItemFits ds marks class (item.Public at) = Unit {0}
ItemFits ds marks class (item.Private at) = Unit {0}
ItemFits ds marks class (item.Empty at) = Unit {0}

abbrev pub ListedFits : List Declaration → Class → Entry → Type 0
ListedFits ds class entry = Every EntryFits (with_entry ds class entry (member_named entry.member.text class.members) [])
