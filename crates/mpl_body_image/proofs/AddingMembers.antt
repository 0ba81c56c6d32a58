-- A member of a class that is added.
use Rattle.std.proofs.Common.{◌≡◌, ℕ, ◌+◌, List, [], ◌∷◌, ◌++◌, length, map, Option, ap, ap₂, ◌∙◌}
use Rattle.std.specs.Borrow.{Bor}
use Rattle.mpl_ast.specs.declared.class.Formal.{Formal}
use Rattle.mpl_ast.specs.declared.class.Item.{Item}
use Rattle.mpl_ast.specs.declared.program.Declaration.{Declaration}
use Rattle.mpl_ast.specs.declared.statement.Statement.{Statement}
use Rattle.mpl_mean.specs.Meaning.Layout.{Class, Member, members_from}
use Rattle.mpl_mean.specs.Plain.Stmt.{stmts_from}
use Rattle.mpl_body_code.specs.Codes.{Code, body_code}
use Rattle.mpl_mean.specs.Plain.Scopes.{formal_shape}
use Rattle.mpl_body_code.specs.declared.instruction.MemberCode.{MemberCode}
use Rattle.mpl_body_image.specs.Internal.Bodies.{Sees, env_with}
use Rattle.mpl_body_image.specs.Laid.{member_code, member_entries, member_entry, members_code}
use Rattle.mpl_body_image.specs.declared.scope.Object.{Object}
use Rattle.mpl_body_image.proofs.Adding.{code_added, entry_added, later_place, same_codes, same_entries}

-- the code of a member stands behind what was there
pub member_written : (ds : List Declaration) (object : Option (Bor Object)) (class : Class) (m : Member) (formals : List Formal) (statements : List Statement) (old new : Code) → Sees ds object class
    → formals ≡ m.formals → statements ≡ m.body.statements → new ≡ old ++ body_code (env_with ds object formals) (stmts_from statements) → new ≡ old ++ member_code ds class m
member_written ds object class m formals statements old new sees is are h =
    h
    ∙ ap₂ (λ formals statements. old ++ body_code (env_with ds object formals) (stmts_from statements)) is are
    ∙ ap₂ (λ members parts. old ++ body_code (record { declarations = ds; members = members; parts = parts; scope = map formal_shape m.formals }) (stmts_from m.body.statements)) sees.members sees.parts

pub code_with : (ds : List Declaration) (class : Class) (m : Member) (id : ℕ) (others : List Item) (old new : Code) → new ≡ old ++ member_code ds class m
    → new ++ members_code ds class (members_from id others) ≡ old ++ (member_code ds class m ++ members_code ds class (members_from (id + 1) others))
code_with ds class m id others old new h =
    code_added old (member_code ds class m) (members_code ds class (members_from id others)) new h
    ∙ ap (λ code. old ++ (member_code ds class m ++ code)) (same_codes ds class id (id + 1) others)

pub entry_with : (ds : List Declaration) (class : Class) (m : Member) (id : ℕ) (others : List Item) (entry : MemberCode) (old new : List MemberCode) (before after : Code) → after ≡ before ++ member_code ds class m
    → entry ≡ member_entry (length before) m → new ≡ old ++ entry ∷ []
    → new ++ member_entries ds class (length after) (members_from id others)
    ≡ old ++ member_entry (length before) m ∷ member_entries ds class (length before + length (member_code ds class m)) (members_from (id + 1) others)
entry_with ds class m id others entry old new before after written is h =
    entry_added old entry (member_entries ds class (length after) (members_from id others)) new h
    ∙ ap₂ (λ entry place. old ++ entry ∷ member_entries ds class place (members_from id others)) is (later_place before (member_code ds class m) after written)
    ∙ ap (λ entries. old ++ member_entry (length before) m ∷ entries) (same_entries ds class (length before + length (member_code ds class m)) id (id + 1) others)
