-- Worked programs at the limits of how many there may be.
use Rattle.std.proofs.Common.{◌≡◌, ℕ, zero, suc, ◌+◌, ◌*◌, ◌/◌, ◌%◌, true, false, List, [], ◌∷◌, ◌++◌, refl}
use Rattle.std.specs.Prelude.{None}
use Rattle.mpl_ast.specs.declared.class.Item.TheVariants as item
use Rattle.mpl_ast.specs.declared.class.ResultType.TheVariants.{Typed}
use Rattle.mpl_ast.specs.declared.program.Declaration.{Declaration}
use Rattle.mpl_ast.specs.declared.statement.TypeName.TheVariants as type
use Rattle.mpl_mean.specs.Plain.Stmt.{NoStmt}
use Rattle.mpl_mean.specs.TypeRules.Nodes.{ADeclaration}
use Rattle.mpl_mean.specs.TypeRules.ProgramNodes.{OfRoutine}
use Rattle.mpl_mean.specs.TypeRules.Rules.{is_typed, least_failure}
use Rattle.mpl_mean.specs.TypeRules.Scopes.{Environment}
use Rattle.mpl_mean.specs.TypeRules.SizeRules.{count_is_allowed}
use Rattle.mpl_mean.proofs.SmallPrograms.Expressions.{at}
use Rattle.mpl_mean.proofs.SmallPrograms.Programs.{Parts, program, fails, failed, held, in_items, in_entries, entry, member, typed, select, main_at, persistent_class}
use Rattle.mpl_mean.proofs.SmallPrograms.Statements.{int}
use Rattle.mpl_mean.proofs.SmallPrograms.Shown.{Part}

-- from `aa` to `zz`
abbrev two_letters : ℕ → List ℕ
two_letters n = (97 + n / 26) ∷ (97 + n % 26) ∷ []

-- `int aa() { } int ab() { } ..`, from byte 31 on
abbrev members : ℕ → List (Part in_items)
members zero = []
members (suc n) = members n ++ record {
  tree = item.Member (at (31 + 13 * n)) (Typed (at (31 + 13 * n)) (type.Int (at (31 + 13 * n)))) (record { from = 35 + 13 * n; text = two_letters n })
      None (record { at = at (40 + 13 * n); mark_line = 1; statements = [] });
  inners = OfRoutine (31 + 13 * n) [] NoStmt ∷ [];
  has = λ c. refl;
} ∷ []

-- `persistent mentat class cell { int aa() { } .. }; int main() { }`
abbrev with_members : ℕ → Parts
with_members n = persistent_class 0 24 "cell" (members n) ∷ main_at (34 + 13 * n) [] ∷ []

members_65_fails : least_failure (program (with_members 65)) ≡ fails 8 863
members_65_fails = failed (with_members 65)

members_64_holds : is_typed (program (with_members 64)) ≡ true
members_64_holds = held (with_members 64)

-- `priority 0 : accept put; priority 0 : accept put; ..`, from byte 54 on
abbrev entries : ℕ → List (Part in_entries)
entries zero = []
entries (suc n) = entries n ++ entry (54 + 25 * n) (63 + 25 * n) 0 (74 + 25 * n) "put" ∷ []

-- `persistent mentat class cell { int put() { } select { priority 0 : accept put; .. } }; int main() { }`
abbrev with_entries : ℕ → Parts
with_entries n = persistent_class 0 24 "cell" (member 31 (typed 31 (int 31)) 35 "put" [] [] ∷ select 45 (entries n) ∷ []) ∷ main_at (59 + 25 * n) [] ∷ []

entries_257_fails : least_failure (program (with_entries 257)) ≡ fails 8 6454
entries_257_fails = failed (with_entries 257)

entries_256_holds : is_typed (program (with_entries 256)) ≡ true
entries_256_holds = held (with_entries 256)

-- the 4,097th declaration is too many, whatever it is
declaration_4097_fails : (environment : Environment) (d : Declaration) → count_is_allowed environment (ADeclaration 4096 d) ≡ false
declaration_4097_fails environment d = refl

declaration_4096_holds : (environment : Environment) (d : Declaration) → count_is_allowed environment (ADeclaration 4095 d) ≡ true
declaration_4096_holds environment d = refl
