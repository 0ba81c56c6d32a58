-- Worked programs of the type rules 12 to 17, on expressions, places and assignments: for each rule one that just breaks it,
-- with its least failure, and one that just keeps it.
use Rattle.std.proofs.Common.{◌≡◌, true, [], ◌∷◌}
use Rattle.std.specs.Prelude.{None}
use Rattle.mpl_mean.specs.TypeRules.Rules.{is_typed, least_failure}
use Rattle.mpl_mean.proofs.SmallPrograms.Expressions.{as_term, as_sum, as_expression, in_sum, variable, field, whole, element, number, truth, read, inner, plus, call, of_expression}
use Rattle.mpl_mean.proofs.SmallPrograms.Programs.{Parts, program, fails, failed, held, formal, main_at, field_name, fields, struct, member, typed, regular_class}
use Rattle.mpl_mean.proofs.SmallPrograms.Statements.{int, named, dimension, plain, nothing, declare, assign, call_alone, create, when, print}

-- `int main() { if (1) ; }`
abbrev test_of_int : Parts
test_of_int = main_at 0 (when 13 (as_expression 17 (number 17)) (nothing 20) ∷ []) ∷ []

test_of_int_fails : least_failure (program test_of_int) ≡ fails 12 17
test_of_int_fails = failed test_of_int

-- `int main() { if (true) ; }`
abbrev test_of_bool : Parts
test_of_bool = main_at 0 (when 13 (as_expression 17 (truth 17)) (nothing 23) ∷ []) ∷ []

test_of_bool_holds : is_typed (program test_of_bool) ≡ true
test_of_bool_holds = held test_of_bool

-- `int main() { print(1 + true); }`
abbrev adds_truth : Parts
adds_truth = main_at 0 (print 13 (in_sum 19 (plus 19 (as_sum 19 (number 19)) (as_term 23 (truth 23))) ∷ []) ∷ []) ∷ []

adds_truth_fails : least_failure (program adds_truth) ≡ fails 13 19
adds_truth_fails = failed adds_truth

-- `int main() { print(1 + 1); }`
abbrev adds_number : Parts
adds_number = main_at 0 (print 13 (in_sum 19 (plus 19 (as_sum 19 (number 19)) (as_term 23 (number 23))) ∷ []) ∷ []) ∷
    []

adds_number_holds : is_typed (program adds_number) ≡ true
adds_number_holds = held adds_number

-- `int main() { print(1 + (true + 1)); }`
abbrev part_without_type : Parts
part_without_type = main_at 0 (print 13 (in_sum 19 (plus 19 (as_sum 19 (number 19)) (as_term 23 (inner 23 (in_sum 24
    (plus 24 (as_sum 24 (truth 24)) (as_term 31 (number 31))))))) ∷ []) ∷ []) ∷ []

part_without_type_fails : least_failure (program part_without_type) ≡ fails 13 24
part_without_type_fails = failed part_without_type

-- `int main() { int a[2]; print(a); }`
abbrev prints_array : Parts
prints_array = main_at 0 (declare 13 (int 13) (plain 17 "a" (dimension 19 2) ∷ []) ∷ print 23 (as_expression 29 (read
    29 (whole 29 (variable 29 "a"))) ∷ []) ∷ []) ∷ []

prints_array_fails : least_failure (program prints_array) ≡ fails 15 29
prints_array_fails = failed prints_array

-- `int main() { int x; x[0] = 1; }`
abbrev index_of_int : Parts
index_of_int = main_at 0 (declare 13 (int 13) (plain 17 "x" None ∷ []) ∷ assign 20 (element 20 (variable 20 "x")
    (as_expression 22 (number 22))) (of_expression 27 (as_expression 27 (number 27))) ∷ []) ∷ []

index_of_int_fails : least_failure (program index_of_int) ≡ fails 14 20
index_of_int_fails = failed index_of_int

-- `int main() { int x[1]; x[0] = 1; }`
abbrev index_of_array : Parts
index_of_array = main_at 0 (declare 13 (int 13) (plain 17 "x" (dimension 19 1) ∷ []) ∷ assign 23 (element 23 (variable
    23 "x") (as_expression 25 (number 25))) (of_expression 30 (as_expression 30 (number 30))) ∷ []) ∷ []

index_of_array_holds : is_typed (program index_of_array) ≡ true
index_of_array_holds = held index_of_array

-- `int main() { int x[1]; x[true] = 1; }`
abbrev index_of_bool : Parts
index_of_bool = main_at 0 (declare 13 (int 13) (plain 17 "x" (dimension 19 1) ∷ []) ∷ assign 23 (element 23 (variable
    23 "x") (as_expression 25 (truth 25))) (of_expression 33 (as_expression 33 (number 33))) ∷ []) ∷ []

index_of_bool_fails : least_failure (program index_of_bool) ≡ fails 14 23
index_of_bool_fails = failed index_of_bool

-- `int main() { int x[1]; x[1 + true] = 1; }`
abbrev index_without_type : Parts
index_without_type = main_at 0 (declare 13 (int 13) (plain 17 "x" (dimension 19 1) ∷ []) ∷ assign 23 (element 23
    (variable 23 "x") (in_sum 25 (plus 25 (as_sum 25 (number 25)) (as_term 29 (truth 29))))) (of_expression 37
    (as_expression 37 (number 37))) ∷ []) ∷ []

index_without_type_fails : least_failure (program index_without_type) ≡ fails 13 25
index_without_type_fails = failed index_without_type

-- `int main() { int a[2]; a = 1; }`
abbrev assigned_array : Parts
assigned_array = main_at 0 (declare 13 (int 13) (plain 17 "a" (dimension 19 2) ∷ []) ∷ assign 23 (whole 23 (variable
    23 "a")) (of_expression 27 (as_expression 27 (number 27))) ∷ []) ∷ []

assigned_array_fails : least_failure (program assigned_array) ≡ fails 15 23
assigned_array_fails = failed assigned_array

-- `int main() { int a[2]; a[0] = 1; }`
abbrev assigned_element : Parts
assigned_element = main_at 0 (declare 13 (int 13) (plain 17 "a" (dimension 19 2) ∷ []) ∷ assign 23 (element 23
    (variable 23 "a") (as_expression 25 (number 25))) (of_expression 30 (as_expression 30 (number 30))) ∷ []) ∷ []

assigned_element_holds : is_typed (program assigned_element) ≡ true
assigned_element_holds = held assigned_element

-- `regular mentat class calc { int f(int x) { } }; int main() { calc w; w.create(); }`
abbrev created_regular : Parts
created_regular = regular_class 0 21 "calc" (member 28 (typed 28 (int 28)) 32 "f" (formal (int 34) 38 "x" ∷ []) [] ∷
    []) ∷ main_at 48 (declare 61 (named 61 "calc") (plain 66 "w" None ∷ []) ∷ create 69 (variable 69 "w") ∷ []) ∷ []

created_regular_fails : least_failure (program created_regular) ≡ fails 15 69
created_regular_fails = failed created_regular

-- `regular mentat class calc { int f(int x) { } }; int main() { calc w; w.x = 1; }`
abbrev field_of_regular : Parts
field_of_regular = regular_class 0 21 "calc" (member 28 (typed 28 (int 28)) 32 "f" (formal (int 34) 38 "x" ∷ []) [] ∷
    []) ∷ main_at 48 (declare 61 (named 61 "calc") (plain 66 "w" None ∷ []) ∷ assign 69 (whole 69 (field 69 "w" 71
    "x")) (of_expression 75 (as_expression 75 (number 75))) ∷ []) ∷ []

field_of_regular_fails : least_failure (program field_of_regular) ≡ fails 15 69
field_of_regular_fails = failed field_of_regular

-- `int main() { int a; a.b = 1; }`
abbrev field_of_int : Parts
field_of_int = main_at 0 (declare 13 (int 13) (plain 17 "a" None ∷ []) ∷ assign 20 (whole 20 (field 20 "a" 22 "b"))
    (of_expression 26 (as_expression 26 (number 26))) ∷ []) ∷ []

field_of_int_fails : least_failure (program field_of_int) ≡ fails 16 20
field_of_int_fails = failed field_of_int

-- `struct s { int b; }; int main() { s a; a.b = 1; }`
abbrev field_of_struct : Parts
field_of_struct = struct 0 7 "s" (fields 11 (int 11) (field_name 15 "b" None ∷ []) ∷ []) ∷ main_at 21 (declare 34
    (named 34 "s") (plain 36 "a" None ∷ []) ∷ assign 39 (whole 39 (field 39 "a" 41 "b")) (of_expression 45
    (as_expression 45 (number 45))) ∷ []) ∷ []

field_of_struct_holds : is_typed (program field_of_struct) ≡ true
field_of_struct_holds = held field_of_struct

-- `int main() { int a; a.b.f(); }`
abbrev receiver_behind_int : Parts
receiver_behind_int = main_at 0 (declare 13 (int 13) (plain 17 "a" None ∷ []) ∷ call_alone 20 (call 20 (field 20 "a"
    22 "b") 24 "f" []) ∷ []) ∷ []

receiver_behind_int_fails : least_failure (program receiver_behind_int) ≡ fails 16 20
receiver_behind_int_fails = failed receiver_behind_int

-- `int main() { int x; x = true; }`
abbrev assigned_truth : Parts
assigned_truth = main_at 0 (declare 13 (int 13) (plain 17 "x" None ∷ []) ∷ assign 20 (whole 20 (variable 20 "x"))
    (of_expression 24 (as_expression 24 (truth 24))) ∷ []) ∷ []

assigned_truth_fails : least_failure (program assigned_truth) ≡ fails 17 20
assigned_truth_fails = failed assigned_truth

-- `int main() { int x; x = 1; }`
abbrev assigned_number : Parts
assigned_number = main_at 0 (declare 13 (int 13) (plain 17 "x" None ∷ []) ∷ assign 20 (whole 20 (variable 20 "x"))
    (of_expression 24 (as_expression 24 (number 24))) ∷ []) ∷ []

assigned_number_holds : is_typed (program assigned_number) ≡ true
assigned_number_holds = held assigned_number

-- `int main() { int x; x = 1 + true; }`
abbrev value_without_type : Parts
value_without_type = main_at 0 (declare 13 (int 13) (plain 17 "x" None ∷ []) ∷ assign 20 (whole 20 (variable 20 "x"))
    (of_expression 24 (in_sum 24 (plus 24 (as_sum 24 (number 24)) (as_term 28 (truth 28))))) ∷ []) ∷ []

value_without_type_fails : least_failure (program value_without_type) ≡ fails 13 24
value_without_type_fails = failed value_without_type
