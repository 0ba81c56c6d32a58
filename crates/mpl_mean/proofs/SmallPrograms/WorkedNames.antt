-- Worked programs of the type rules 1 to 3, on names and on main: for each rule one that just breaks it,
-- with its least failure, and one that just keeps it.
use Rattle.std.proofs.Common.{◌≡◌, true, [], ◌∷◌}
use Rattle.std.specs.Prelude.{None}
use Rattle.mpl_mean.specs.TypeRules.Rules.{is_typed, least_failure}
use Rattle.mpl_mean.proofs.SmallPrograms.Expressions.{as_term, as_sum, as_relation, as_expression, in_relation, in_sum, variable, field, whole, number, truth, read, plain_call, plus, less, call, of_call, of_expression}
use Rattle.mpl_mean.proofs.SmallPrograms.Programs.{Parts, program, fails, failed, held, formal, function, main_at, field_name, fields, struct, state, member, typed, entry, select, regular_class, persistent_class}
use Rattle.mpl_mean.proofs.SmallPrograms.Statements.{int, bool, named, plain, initialized, local, assignment, nothing, within, declare, assign, when, starting, loop, print}

-- `int main() { x = 1; }`
abbrev unknown : Parts
unknown = main_at 0 (assign 13 (whole 13 (variable 13 "x")) (of_expression 17 (as_expression 17 (number 17))) ∷ []) ∷
    []

unknown_fails : least_failure (program unknown) ≡ fails 1 13
unknown_fails = failed unknown

-- `int main() { int x; x = 1; }`
abbrev known : Parts
known = main_at 0 (declare 13 (int 13) (plain 17 "x" None ∷ []) ∷ assign 20 (whole 20 (variable 20 "x"))
    (of_expression 24 (as_expression 24 (number 24))) ∷ []) ∷ []

known_holds : is_typed (program known) ≡ true
known_holds = held known

-- `int main() { int x = x; }`
abbrev own_initialiser : Parts
own_initialiser = main_at 0 (declare 13 (int 13) (initialized 17 "x" (of_expression 21 (as_expression 21 (read 21
    (whole 21 (variable 21 "x"))))) ∷ []) ∷ []) ∷ []

own_initialiser_fails : least_failure (program own_initialiser) ≡ fails 1 21
own_initialiser_fails = failed own_initialiser

-- `int main() { for (int i = 0; i < 3; i = i + 1) ; i = 1; }`
abbrev behind_loop : Parts
behind_loop = main_at 0 (loop 13 (starting (local (int 18) 18 (initialized 22 "i" (of_expression 26 (as_expression 26
    (number 26))) ∷ []))) (in_relation 29 (less 29 (as_relation 29 (read 29 (whole 29 (variable 29 "i")))) (as_sum 33
    (number 33)))) (assignment 36 (whole 36 (variable 36 "i")) (of_expression 40 (in_sum 40 (plus 40 (as_sum 40 (read
    40 (whole 40 (variable 40 "i")))) (as_term 44 (number 44)))))) (nothing 47) ∷ assign 49 (whole 49 (variable 49
    "i")) (of_expression 53 (as_expression 53 (number 53))) ∷ []) ∷ []

behind_loop_fails : least_failure (program behind_loop) ≡ fails 1 49
behind_loop_fails = failed behind_loop

-- `int main() { if (true) int x; x = 1; }`
abbrev behind_branch : Parts
behind_branch = main_at 0 (when 13 (as_expression 17 (truth 17)) (declare 23 (int 23) (plain 27 "x" None ∷ [])) ∷
    assign 30 (whole 30 (variable 30 "x")) (of_expression 34 (as_expression 34 (number 34))) ∷ []) ∷ []

behind_branch_fails : least_failure (program behind_branch) ≡ fails 1 30
behind_branch_fails = failed behind_branch

-- `int main() { s x; }`
abbrev no_such_type : Parts
no_such_type = main_at 0 (declare 13 (named 13 "s") (plain 15 "x" None ∷ []) ∷ []) ∷ []

no_such_type_fails : least_failure (program no_such_type) ≡ fails 1 13
no_such_type_fails = failed no_such_type

-- `struct s { int a; }; int main() { s x; x.b = 1; }`
abbrev no_such_field : Parts
no_such_field = struct 0 7 "s" (fields 11 (int 11) (field_name 15 "a" None ∷ []) ∷ []) ∷ main_at 21 (declare 34 (named
    34 "s") (plain 36 "x" None ∷ []) ∷ assign 39 (whole 39 (field 39 "x" 41 "b")) (of_expression 45 (as_expression 45
    (number 45))) ∷ []) ∷ []

no_such_field_fails : least_failure (program no_such_field) ≡ fails 1 41
no_such_field_fails = failed no_such_field

-- `regular mentat class calc { int f(int x) { } }; int main() { calc w; int y = w.g(1); }`
abbrev no_such_member : Parts
no_such_member = regular_class 0 21 "calc" (member 28 (typed 28 (int 28)) 32 "f" (formal (int 34) 38 "x" ∷ []) [] ∷
    []) ∷ main_at 48 (declare 61 (named 61 "calc") (plain 66 "w" None ∷ []) ∷ declare 69 (int 69) (initialized 73 "y"
    (of_call 77 (call 77 (variable 77 "w") 79 "g" (of_expression 81 (as_expression 81 (number 81)) ∷ []))) ∷ []) ∷ [])
    ∷ []

no_such_member_fails : least_failure (program no_such_member) ≡ fails 1 79
no_such_member_fails = failed no_such_member

-- `int main() { print(main()); }`
abbrev main_is_called : Parts
main_is_called = main_at 0 (print 13 (as_expression 19 (plain_call 19 "main" []) ∷ []) ∷ []) ∷ []

main_is_called_fails : least_failure (program main_is_called) ≡ fails 1 19
main_is_called_fails = failed main_is_called

-- `persistent mentat class cell { select { priority 0 : accept put; } }; int main() { }`
abbrev no_such_entry : Parts
no_such_entry = persistent_class 0 24 "cell" (select 31 (entry 40 49 0 60 "put" ∷ []) ∷ []) ∷ main_at 70 [] ∷ []

no_such_entry_fails : least_failure (program no_such_entry) ≡ fails 1 60
no_such_entry_fails = failed no_such_entry

-- `int main() { int x, x; }`
abbrev twice : Parts
twice = main_at 0 (declare 13 (int 13) (plain 17 "x" None ∷ plain 20 "x" None ∷ []) ∷ []) ∷ []

twice_fails : least_failure (program twice) ≡ fails 2 20
twice_fails = failed twice

-- `int main() { int x; { int x; } }`
abbrev in_inner_block : Parts
in_inner_block = main_at 0 (declare 13 (int 13) (plain 17 "x" None ∷ []) ∷ within 20 (declare 22 (int 22) (plain 26
    "x" None ∷ []) ∷ []) ∷ []) ∷ []

in_inner_block_holds : is_typed (program in_inner_block) ≡ true
in_inner_block_holds = held in_inner_block

-- `int f(int x) { int x; } int main() { }`
abbrev as_its_formal : Parts
as_its_formal = function 0 (int 0) 4 "f" (formal (int 6) 10 "x" ∷ []) (declare 15 (int 15) (plain 19 "x" None ∷ []) ∷
    []) ∷ main_at 24 [] ∷ []

as_its_formal_fails : least_failure (program as_its_formal) ≡ fails 2 19
as_its_formal_fails = failed as_its_formal

-- `persistent mentat class cell { int n; int n() { } }; int main() { }`
abbrev as_a_member : Parts
as_a_member = persistent_class 0 24 "cell" (state (fields 31 (int 31) (field_name 35 "n" None ∷ [])) ∷ member 38
    (typed 38 (int 38)) 42 "n" [] [] ∷ []) ∷ main_at 53 [] ∷ []

as_a_member_fails : least_failure (program as_a_member) ≡ fails 2 42
as_a_member_fails = failed as_a_member

-- `int main() { } int main() { }`
abbrev second_main : Parts
second_main = main_at 0 [] ∷ main_at 15 [] ∷ []

second_main_fails : least_failure (program second_main) ≡ fails 2 19
second_main_fails = failed second_main

-- a source of no token
abbrev empty : Parts
empty = []

empty_fails : least_failure (program empty) ≡ fails 3 0
empty_fails = failed empty

-- `int main() { }`
abbrev only_main : Parts
only_main = main_at 0 [] ∷ []

only_main_holds : is_typed (program only_main) ≡ true
only_main_holds = held only_main

-- `bool main() { }`
abbrev main_of_bool : Parts
main_of_bool = function 0 (bool 0) 5 "main" [] [] ∷ []

main_of_bool_fails : least_failure (program main_of_bool) ≡ fails 3 0
main_of_bool_fails = failed main_of_bool

-- `struct main { int x; };`
abbrev main_is_struct : Parts
main_is_struct = struct 0 7 "main" (fields 14 (int 14) (field_name 18 "x" None ∷ []) ∷ []) ∷ []

main_is_struct_fails : least_failure (program main_is_struct) ≡ fails 3 0
main_is_struct_fails = failed main_is_struct
