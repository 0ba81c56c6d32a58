-- Worked programs of the type rules 18 to 22, on calls: for each rule one that just breaks it,
-- with its least failure, and one that just keeps it.
use Rattle.std.proofs.Common.{◌≡◌, true, [], ◌∷◌}
use Rattle.std.specs.Prelude.{None}
use Rattle.mpl_mean.specs.TypeRules.Rules.{is_typed, least_failure}
use Rattle.mpl_mean.proofs.SmallPrograms.Expressions.{as_term, as_sum, as_expression, in_sum, variable, field, number, truth, own, plain_call, plus, call, own_call, of_call, of_expression}
use Rattle.mpl_mean.proofs.SmallPrograms.Programs.{Parts, program, fails, failed, held, formal, function, main_at, field_name, fields, struct, state, member, void, typed, regular_class, persistent_class}
use Rattle.mpl_mean.proofs.SmallPrograms.Statements.{int, named, plain, initialized, declare, call_alone, create, rtf}

-- `int f(int x) { } int main() { int y = f(); }`
abbrev too_few : Parts
too_few = function 0 (int 0) 4 "f" (formal (int 6) 10 "x" ∷ []) [] ∷ main_at 17 (declare 30 (int 30) (initialized 34
    "y" (of_expression 38 (as_expression 38 (plain_call 38 "f" []))) ∷ []) ∷ []) ∷ []

too_few_fails : least_failure (program too_few) ≡ fails 18 38
too_few_fails = failed too_few

-- `int f(int x) { } int main() { int y = f(1); }`
abbrev as_many : Parts
as_many = function 0 (int 0) 4 "f" (formal (int 6) 10 "x" ∷ []) [] ∷ main_at 17 (declare 30 (int 30) (initialized 34
    "y" (of_expression 38 (as_expression 38 (plain_call 38 "f" (as_expression 40 (number 40) ∷ [])))) ∷ []) ∷ []) ∷ []

as_many_holds : is_typed (program as_many) ≡ true
as_many_holds = held as_many

-- `int f(int x) { } int main() { int y = f(true); }`
abbrev of_another_type : Parts
of_another_type = function 0 (int 0) 4 "f" (formal (int 6) 10 "x" ∷ []) [] ∷ main_at 17 (declare 30 (int 30)
    (initialized 34 "y" (of_expression 38 (as_expression 38 (plain_call 38 "f" (as_expression 40 (truth 40) ∷ [])))) ∷
    []) ∷ []) ∷ []

of_another_type_fails : least_failure (program of_another_type) ≡ fails 18 38
of_another_type_fails = failed of_another_type

-- `int f(int x, int y) { } int main() { int z = f(true, 1 + true); }`
abbrev argument_without_type : Parts
argument_without_type = function 0 (int 0) 4 "f" (formal (int 6) 10 "x" ∷ formal (int 13) 17 "y" ∷ []) [] ∷ main_at 24
    (declare 37 (int 37) (initialized 41 "z" (of_expression 45 (as_expression 45 (plain_call 45 "f" (as_expression 47
    (truth 47) ∷ in_sum 53 (plus 53 (as_sum 53 (number 53)) (as_term 57 (truth 57))) ∷ [])))) ∷ []) ∷ []) ∷ []

argument_without_type_fails : least_failure (program argument_without_type) ≡ fails 13 53
argument_without_type_fails = failed argument_without_type

-- `int f(int x) { } int main() { int z = f(true, 1 + true); }`
abbrev too_many_without_type : Parts
too_many_without_type = function 0 (int 0) 4 "f" (formal (int 6) 10 "x" ∷ []) [] ∷ main_at 17 (declare 30 (int 30)
    (initialized 34 "z" (of_expression 38 (as_expression 38 (plain_call 38 "f" (as_expression 40 (truth 40) ∷ in_sum
    46 (plus 46 (as_sum 46 (number 46)) (as_term 50 (truth 50))) ∷ [])))) ∷ []) ∷ []) ∷ []

too_many_without_type_fails : least_failure (program too_many_without_type) ≡ fails 18 38
too_many_without_type_fails = failed too_many_without_type

-- `regular mentat class calc { int f(int x) { } }; int main() { calc w; int y = w.f(); }`
abbrev member_too_few : Parts
member_too_few = regular_class 0 21 "calc" (member 28 (typed 28 (int 28)) 32 "f" (formal (int 34) 38 "x" ∷ []) [] ∷
    []) ∷ main_at 48 (declare 61 (named 61 "calc") (plain 66 "w" None ∷ []) ∷ declare 69 (int 69) (initialized 73 "y"
    (of_call 77 (call 77 (variable 77 "w") 79 "f" [])) ∷ []) ∷ []) ∷ []

member_too_few_fails : least_failure (program member_too_few) ≡ fails 19 77
member_too_few_fails = failed member_too_few

-- `regular mentat class calc { int f(int x) { } }; int main() { calc w; int y = w.f(1); }`
abbrev member_as_many : Parts
member_as_many = regular_class 0 21 "calc" (member 28 (typed 28 (int 28)) 32 "f" (formal (int 34) 38 "x" ∷ []) [] ∷
    []) ∷ main_at 48 (declare 61 (named 61 "calc") (plain 66 "w" None ∷ []) ∷ declare 69 (int 69) (initialized 73 "y"
    (of_call 77 (call 77 (variable 77 "w") 79 "f" (of_expression 81 (as_expression 81 (number 81)) ∷ []))) ∷ []) ∷ [])
    ∷ []

member_as_many_holds : is_typed (program member_as_many) ≡ true
member_as_many_holds = held member_as_many

-- `int main() { int a; int y = a.f(); }`
abbrev on_int : Parts
on_int = main_at 0 (declare 13 (int 13) (plain 17 "a" None ∷ []) ∷ declare 20 (int 20) (initialized 24 "y" (of_call 28
    (call 28 (variable 28 "a") 30 "f" [])) ∷ []) ∷ []) ∷ []

on_int_fails : least_failure (program on_int) ≡ fails 19 28
on_int_fails = failed on_int

-- `int main() { int a; a.create(); }`
abbrev created_int : Parts
created_int = main_at 0 (declare 13 (int 13) (plain 17 "a" None ∷ []) ∷ create 20 (variable 20 "a") ∷ []) ∷ []

created_int_fails : least_failure (program created_int) ≡ fails 19 20
created_int_fails = failed created_int

-- `struct s { int a; }; int main() { s x; int y = x.b.f(); }`
abbrev receiver_without_field : Parts
receiver_without_field = struct 0 7 "s" (fields 11 (int 11) (field_name 15 "a" None ∷ []) ∷ []) ∷ main_at 21 (declare
    34 (named 34 "s") (plain 36 "x" None ∷ []) ∷ declare 39 (int 39) (initialized 43 "y" (of_call 47 (call 47 (field
    47 "x" 49 "b") 51 "f" [])) ∷ []) ∷ []) ∷ []

receiver_without_field_fails : least_failure (program receiver_without_field) ≡ fails 1 49
receiver_without_field_fails = failed receiver_without_field

-- `persistent mentat class cell { int n; void put(int x) { } int get() { } }; int main() { cell c; int y = c.put(1); }`
abbrev passed_void : Parts
passed_void = persistent_class 0 24 "cell" (state (fields 31 (int 31) (field_name 35 "n" None ∷ [])) ∷ member 38 (void
    38) 43 "put" (formal (int 47) 51 "x" ∷ []) [] ∷ member 58 (typed 58 (int 58)) 62 "get" [] [] ∷ []) ∷ main_at 75
    (declare 88 (named 88 "cell") (plain 93 "c" None ∷ []) ∷ declare 96 (int 96) (initialized 100 "y" (of_call 104
    (call 104 (variable 104 "c") 106 "put" (of_expression 110 (as_expression 110 (number 110)) ∷ []))) ∷ []) ∷ []) ∷
    []

passed_void_fails : least_failure (program passed_void) ≡ fails 20 104
passed_void_fails = failed passed_void

-- `persistent mentat class cell { int n; void put(int x) { } int get() { } }; int main() { cell c; c.put(1); }`
abbrev void_alone : Parts
void_alone = persistent_class 0 24 "cell" (state (fields 31 (int 31) (field_name 35 "n" None ∷ [])) ∷ member 38 (void
    38) 43 "put" (formal (int 47) 51 "x" ∷ []) [] ∷ member 58 (typed 58 (int 58)) 62 "get" [] [] ∷ []) ∷ main_at 75
    (declare 88 (named 88 "cell") (plain 93 "c" None ∷ []) ∷ call_alone 96 (call 96 (variable 96 "c") 98 "put"
    (of_expression 102 (as_expression 102 (number 102)) ∷ [])) ∷ []) ∷ []

void_alone_holds : is_typed (program void_alone) ≡ true
void_alone_holds = held void_alone

-- `persistent mentat class cell { int n; void put(int x) { } int get() { } }; int g(cell c) { c.put(1); } int main() { }`
abbrev call_in_function : Parts
call_in_function = persistent_class 0 24 "cell" (state (fields 31 (int 31) (field_name 35 "n" None ∷ [])) ∷ member 38
    (void 38) 43 "put" (formal (int 47) 51 "x" ∷ []) [] ∷ member 58 (typed 58 (int 58)) 62 "get" [] [] ∷ []) ∷
    function 75 (int 75) 79 "g" (formal (named 81 "cell") 86 "c" ∷ []) (call_alone 91 (call 91 (variable 91 "c") 93
    "put" (of_expression 97 (as_expression 97 (number 97)) ∷ [])) ∷ []) ∷ main_at 103 [] ∷ []

call_in_function_fails : least_failure (program call_in_function) ≡ fails 21 91
call_in_function_fails = failed call_in_function

-- `persistent mentat class cell { int n; void put(int x) { } int get() { } }; int main() { cell c; c.create(); c.put(1); }`
abbrev call_in_main : Parts
call_in_main = persistent_class 0 24 "cell" (state (fields 31 (int 31) (field_name 35 "n" None ∷ [])) ∷ member 38
    (void 38) 43 "put" (formal (int 47) 51 "x" ∷ []) [] ∷ member 58 (typed 58 (int 58)) 62 "get" [] [] ∷ []) ∷ main_at
    75 (declare 88 (named 88 "cell") (plain 93 "c" None ∷ []) ∷ create 96 (variable 96 "c") ∷ call_alone 108 (call 108
    (variable 108 "c") 110 "put" (of_expression 114 (as_expression 114 (number 114)) ∷ [])) ∷ []) ∷ []

call_in_main_holds : is_typed (program call_in_main) ≡ true
call_in_main_holds = held call_in_main

-- `persistent mentat class cell { int n; void put(int x) { } int get() { } }; regular mentat class calc { int f(cell c) { c.put(1); } }; int main() { }`
abbrev object_in_regular : Parts
object_in_regular = persistent_class 0 24 "cell" (state (fields 31 (int 31) (field_name 35 "n" None ∷ [])) ∷ member 38
    (void 38) 43 "put" (formal (int 47) 51 "x" ∷ []) [] ∷ member 58 (typed 58 (int 58)) 62 "get" [] [] ∷ []) ∷
    regular_class 75 96 "calc" (member 103 (typed 103 (int 103)) 107 "f" (formal (named 109 "cell") 114 "c" ∷ [])
    (call_alone 119 (call 119 (variable 119 "c") 121 "put" (of_expression 125 (as_expression 125 (number 125)) ∷ []))
    ∷ []) ∷ []) ∷ main_at 134 [] ∷ []

object_in_regular_fails : least_failure (program object_in_regular) ≡ fails 21 119
object_in_regular_fails = failed object_in_regular

-- `persistent mentat class cell { int n; void put(int x) { } int get() { } }; regular mentat class calc { int f(cell c) { c.create(); } }; int main() { }`
abbrev create_in_regular : Parts
create_in_regular = persistent_class 0 24 "cell" (state (fields 31 (int 31) (field_name 35 "n" None ∷ [])) ∷ member 38
    (void 38) 43 "put" (formal (int 47) 51 "x" ∷ []) [] ∷ member 58 (typed 58 (int 58)) 62 "get" [] [] ∷ []) ∷
    regular_class 75 96 "calc" (member 103 (typed 103 (int 103)) 107 "f" (formal (named 109 "cell") 114 "c" ∷ [])
    (create 119 (variable 119 "c") ∷ []) ∷ []) ∷ main_at 136 [] ∷ []

create_in_regular_fails : least_failure (program create_in_regular) ≡ fails 21 119
create_in_regular_fails = failed create_in_regular

-- `regular mentat class calc { int f() { rtf(self); } }; int main() { }`
abbrev own_in_regular : Parts
own_in_regular = regular_class 0 21 "calc" (member 28 (typed 28 (int 28)) 32 "f" [] (rtf 38 (of_expression 42
    (as_expression 42 (own 42))) ∷ []) ∷ []) ∷ main_at 54 [] ∷ []

own_in_regular_fails : least_failure (program own_in_regular) ≡ fails 22 42
own_in_regular_fails = failed own_in_regular

-- `persistent mentat class cell { cell f() { rtf(self); } }; int main() { }`
abbrev own_in_persistent : Parts
own_in_persistent = persistent_class 0 24 "cell" (member 31 (typed 31 (named 31 "cell")) 36 "f" [] (rtf 42
    (of_expression 46 (as_expression 46 (own 46))) ∷ []) ∷ []) ∷ main_at 58 [] ∷ []

own_in_persistent_holds : is_typed (program own_in_persistent) ≡ true
own_in_persistent_holds = held own_in_persistent

-- `regular mentat class calc { int f() { rtf(self.g()); } }; int main() { }`
abbrev own_call_in_regular : Parts
own_call_in_regular = regular_class 0 21 "calc" (member 28 (typed 28 (int 28)) 32 "f" [] (rtf 38 (of_call 42 (own_call
    42 47 "g" [])) ∷ []) ∷ []) ∷ main_at 58 [] ∷ []

own_call_in_regular_fails : least_failure (program own_call_in_regular) ≡ fails 22 42
own_call_in_regular_fails = failed own_call_in_regular
