-- Worked programs of the type rules 23, 24 and 26, on statements, and of the least failure among several: for each rule one that just breaks it,
-- with its least failure, and one that just keeps it.
use Rattle.std.proofs.Common.{◌≡◌, true, [], ◌∷◌}
use Rattle.std.specs.Prelude.{None, Some}
use Rattle.mpl_mean.specs.TypeRules.Rules.{is_typed, least_failure}
use Rattle.mpl_mean.proofs.SmallPrograms.Expressions.{as_term, as_sum, as_expression, in_sum, variable, whole, number, truth, input, read, plus, of_expression}
use Rattle.mpl_mean.proofs.SmallPrograms.Programs.{Parts, program, fails, failed, held, function, main_at, member, void, typed, regular_class, persistent_class}
use Rattle.mpl_mean.proofs.SmallPrograms.Statements.{int, assign, print, rtf, return}

-- `int f() { print(1); } int main() { }`
abbrev print_in_function : Parts
print_in_function = function 0 (int 0) 4 "f" [] (print 10 (as_expression 16 (number 16) ∷ []) ∷ []) ∷ main_at 22 [] ∷
    []

print_in_function_fails : least_failure (program print_in_function) ≡ fails 23 10
print_in_function_fails = failed print_in_function

-- `int main() { print(input()); }`
abbrev print_in_main : Parts
print_in_main = main_at 0 (print 13 (as_expression 19 (input 19) ∷ []) ∷ []) ∷ []

print_in_main_holds : is_typed (program print_in_main) ≡ true
print_in_main_holds = held print_in_main

-- `int f() { return input(); } int main() { }`
abbrev input_in_function : Parts
input_in_function = function 0 (int 0) 4 "f" [] (return 10 (Some (as_expression 17 (input 17))) ∷ []) ∷ main_at 28 []
    ∷ []

input_in_function_fails : least_failure (program input_in_function) ≡ fails 23 17
input_in_function_fails = failed input_in_function

-- `int main() { rtf(1); }`
abbrev rtf_in_main : Parts
rtf_in_main = main_at 0 (rtf 13 (of_expression 17 (as_expression 17 (number 17))) ∷ []) ∷ []

rtf_in_main_fails : least_failure (program rtf_in_main) ≡ fails 24 13
rtf_in_main_fails = failed rtf_in_main

-- `regular mentat class calc { int f() { rtf(1); } }; int main() { }`
abbrev rtf_in_member : Parts
rtf_in_member = regular_class 0 21 "calc" (member 28 (typed 28 (int 28)) 32 "f" [] (rtf 38 (of_expression 42
    (as_expression 42 (number 42))) ∷ []) ∷ []) ∷ main_at 51 [] ∷ []

rtf_in_member_holds : is_typed (program rtf_in_member) ≡ true
rtf_in_member_holds = held rtf_in_member

-- `regular mentat class calc { int f() { rtf(true); } }; int main() { }`
abbrev rtf_of_truth : Parts
rtf_of_truth = regular_class 0 21 "calc" (member 28 (typed 28 (int 28)) 32 "f" [] (rtf 38 (of_expression 42
    (as_expression 42 (truth 42))) ∷ []) ∷ []) ∷ main_at 54 [] ∷ []

rtf_of_truth_fails : least_failure (program rtf_of_truth) ≡ fails 24 38
rtf_of_truth_fails = failed rtf_of_truth

-- `persistent mentat class cell { void f() { rtf(1); } }; int main() { }`
abbrev rtf_in_void : Parts
rtf_in_void = persistent_class 0 24 "cell" (member 31 (void 31) 36 "f" [] (rtf 42 (of_expression 46 (as_expression 46
    (number 46))) ∷ []) ∷ []) ∷ main_at 55 [] ∷ []

rtf_in_void_fails : least_failure (program rtf_in_void) ≡ fails 24 42
rtf_in_void_fails = failed rtf_in_void

-- `int f() { return; } int main() { }`
abbrev returns_nothing : Parts
returns_nothing = function 0 (int 0) 4 "f" [] (return 10 None ∷ []) ∷ main_at 20 [] ∷ []

returns_nothing_fails : least_failure (program returns_nothing) ≡ fails 26 10
returns_nothing_fails = failed returns_nothing

-- `int f() { return 1; } int main() { }`
abbrev returns_number : Parts
returns_number = function 0 (int 0) 4 "f" [] (return 10 (Some (as_expression 17 (number 17))) ∷ []) ∷ main_at 22 [] ∷
    []

returns_number_holds : is_typed (program returns_number) ≡ true
returns_number_holds = held returns_number

-- `int main() { return true; }`
abbrev returns_truth : Parts
returns_truth = main_at 0 (return 13 (Some (as_expression 20 (truth 20))) ∷ []) ∷ []

returns_truth_fails : least_failure (program returns_truth) ≡ fails 26 13
returns_truth_fails = failed returns_truth

-- `regular mentat class calc { int f() { return 1; } }; int main() { }`
abbrev returns_in_member : Parts
returns_in_member = regular_class 0 21 "calc" (member 28 (typed 28 (int 28)) 32 "f" [] (return 38 (Some (as_expression
    45 (number 45))) ∷ []) ∷ []) ∷ main_at 53 [] ∷ []

returns_in_member_fails : least_failure (program returns_in_member) ≡ fails 26 38
returns_in_member_fails = failed returns_in_member

-- `int main() { print(1 + true); x = 1; }`
abbrev place_first : Parts
place_first = main_at 0 (print 13 (in_sum 19 (plus 19 (as_sum 19 (number 19)) (as_term 23 (truth 23))) ∷ []) ∷ assign
    30 (whole 30 (variable 30 "x")) (of_expression 34 (as_expression 34 (number 34))) ∷ []) ∷ []

place_first_fails : least_failure (program place_first) ≡ fails 13 19
place_first_fails = failed place_first

-- `int main() { print(x + true); }`
abbrev rule_second : Parts
rule_second = main_at 0 (print 13 (in_sum 19 (plus 19 (as_sum 19 (read 19 (whole 19 (variable 19 "x")))) (as_term 23
    (truth 23))) ∷ []) ∷ []) ∷ []

rule_second_fails : least_failure (program rule_second) ≡ fails 1 19
rule_second_fails = failed rule_second
