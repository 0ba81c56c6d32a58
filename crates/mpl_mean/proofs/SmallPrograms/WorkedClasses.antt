-- Worked programs of the type rules 9 to 11 and 25, on classes: for each rule one that just breaks it,
-- with its least failure, and one that just keeps it.
use Rattle.std.proofs.Common.{◌≡◌, true, [], ◌∷◌}
use Rattle.std.specs.Prelude.{None}
use Rattle.mpl_mean.specs.TypeRules.Rules.{is_typed, least_failure}
use Rattle.mpl_mean.proofs.SmallPrograms.Expressions.{as_relation, as_equality, as_expression, in_equality, variable, whole, number, input, read, equal}
use Rattle.mpl_mean.proofs.SmallPrograms.Programs.{Parts, program, fails, failed, held, formal, main_at, field_name, fields, state, member, void, entry, guarded, select, regular_class, persistent_class}
use Rattle.mpl_mean.proofs.SmallPrograms.Statements.{int}

-- `regular mentat class calc { int n; }; int main() { }`
abbrev state_in_regular : Parts
state_in_regular = regular_class 0 21 "calc" (state (fields 28 (int 28) (field_name 32 "n" None ∷ [])) ∷ []) ∷ main_at
    38 [] ∷ []

state_in_regular_fails : least_failure (program state_in_regular) ≡ fails 9 28
state_in_regular_fails = failed state_in_regular

-- `persistent mentat class cell { int n; }; int main() { }`
abbrev state_in_persistent : Parts
state_in_persistent = persistent_class 0 24 "cell" (state (fields 31 (int 31) (field_name 35 "n" None ∷ [])) ∷ []) ∷
    main_at 41 [] ∷ []

state_in_persistent_holds : is_typed (program state_in_persistent) ≡ true
state_in_persistent_holds = held state_in_persistent

-- `regular mentat class calc { select { } }; int main() { }`
abbrev select_in_regular : Parts
select_in_regular = regular_class 0 21 "calc" (select 28 [] ∷ []) ∷ main_at 42 [] ∷ []

select_in_regular_fails : least_failure (program select_in_regular) ≡ fails 9 28
select_in_regular_fails = failed select_in_regular

-- `persistent mentat class cell { void put() { } select { priority 256 : accept put; } }; int main() { }`
abbrev priority_256 : Parts
priority_256 = persistent_class 0 24 "cell" (member 31 (void 31) 36 "put" [] [] ∷ select 46 (entry 55 64 256 77 "put"
    ∷ []) ∷ []) ∷ main_at 87 [] ∷ []

priority_256_fails : least_failure (program priority_256) ≡ fails 10 64
priority_256_fails = failed priority_256

-- `persistent mentat class cell { void put() { } select { priority 255 : accept put; } }; int main() { }`
abbrev priority_255 : Parts
priority_255 = persistent_class 0 24 "cell" (member 31 (void 31) 36 "put" [] [] ∷ select 46 (entry 55 64 255 77 "put"
    ∷ []) ∷ []) ∷ main_at 87 [] ∷ []

priority_255_holds : is_typed (program priority_255) ≡ true
priority_255_holds = held priority_255

-- `persistent mentat class cell { select { } select { } }; int main() { }`
abbrev second_select : Parts
second_select = persistent_class 0 24 "cell" (select 31 [] ∷ select 42 [] ∷ []) ∷ main_at 56 [] ∷ []

second_select_fails : least_failure (program second_select) ≡ fails 10 42
second_select_fails = failed second_select

-- `persistent mentat class cell { int n; void put() { } select { priority 0 : guard (n) accept put; } }; int main() { }`
abbrev guard_of_int : Parts
guard_of_int = persistent_class 0 24 "cell" (state (fields 31 (int 31) (field_name 35 "n" None ∷ [])) ∷ member 38
    (void 38) 43 "put" [] [] ∷ select 53 (guarded 62 71 0 (as_expression 82 (read 82 (whole 82 (variable 82 "n")))) 92
    "put" ∷ []) ∷ []) ∷ main_at 102 [] ∷ []

guard_of_int_fails : least_failure (program guard_of_int) ≡ fails 11 82
guard_of_int_fails = failed guard_of_int

-- `persistent mentat class cell { int n; void put(int x) { } select { priority 0 : guard (n == x) accept put; } }; int main() { }`
abbrev guard_of_bool : Parts
guard_of_bool = persistent_class 0 24 "cell" (state (fields 31 (int 31) (field_name 35 "n" None ∷ [])) ∷ member 38
    (void 38) 43 "put" (formal (int 47) 51 "x" ∷ []) [] ∷ select 58 (guarded 67 76 0 (in_equality 87 (equal 87
    (as_equality 87 (read 87 (whole 87 (variable 87 "n")))) (as_relation 92 (read 92 (whole 92 (variable 92 "x"))))))
    102 "put" ∷ []) ∷ []) ∷ main_at 112 [] ∷ []

guard_of_bool_holds : is_typed (program guard_of_bool) ≡ true
guard_of_bool_holds = held guard_of_bool

-- `persistent mentat class cell { void put() { } select { priority 0 : guard (1 == input()) accept put; } }; int main() { }`
abbrev guard_with_input : Parts
guard_with_input = persistent_class 0 24 "cell" (member 31 (void 31) 36 "put" [] [] ∷ select 46 (guarded 55 64 0
    (in_equality 75 (equal 75 (as_equality 75 (number 75)) (as_relation 80 (input 80)))) 96 "put" ∷ []) ∷ []) ∷
    main_at 106 [] ∷ []

guard_with_input_fails : least_failure (program guard_with_input) ≡ fails 11 75
guard_with_input_fails = failed guard_with_input

-- `persistent mentat class cell { void put(int x) { } void take() { } select { priority 0 : guard (x == 1) accept take; } }; int main() { }`
abbrev guard_with_other_formal : Parts
guard_with_other_formal = persistent_class 0 24 "cell" (member 31 (void 31) 36 "put" (formal (int 40) 44 "x" ∷ []) []
    ∷ member 51 (void 51) 56 "take" [] [] ∷ select 67 (guarded 76 85 0 (in_equality 96 (equal 96 (as_equality 96 (read
    96 (whole 96 (variable 96 "x")))) (as_relation 101 (number 101)))) 111 "take" ∷ []) ∷ []) ∷ main_at 122 [] ∷ []

guard_with_other_formal_fails : least_failure (program guard_with_other_formal) ≡ fails 1 96
guard_with_other_formal_fails = failed guard_with_other_formal

-- `regular mentat class calc { void f() { } }; int main() { }`
abbrev void_in_regular : Parts
void_in_regular = regular_class 0 21 "calc" (member 28 (void 28) 33 "f" [] [] ∷ []) ∷ main_at 44 [] ∷ []

void_in_regular_fails : least_failure (program void_in_regular) ≡ fails 25 28
void_in_regular_fails = failed void_in_regular

-- `persistent mentat class cell { void f() { } }; int main() { }`
abbrev void_in_persistent : Parts
void_in_persistent = persistent_class 0 24 "cell" (member 31 (void 31) 36 "f" [] [] ∷ []) ∷ main_at 47 [] ∷ []

void_in_persistent_holds : is_typed (program void_in_persistent) ≡ true
void_in_persistent_holds = held void_in_persistent
