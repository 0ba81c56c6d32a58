-- Worked programs of the type rules 4 to 8, on declarations and sizes: for each rule one that just breaks it,
-- with its least failure, and one that just keeps it.
use Rattle.std.proofs.Common.{◌≡◌, true, [], ◌∷◌}
use Rattle.std.specs.Prelude.{None}
use Rattle.mpl_mean.specs.TypeRules.Rules.{is_typed, least_failure}
use Rattle.mpl_mean.proofs.SmallPrograms.Expressions.{as_expression, number, of_expression}
use Rattle.mpl_mean.proofs.SmallPrograms.Programs.{Parts, program, fails, failed, held, formal, function, main_at, field_name, fields, struct, state, member, typed, regular_class, persistent_class}
use Rattle.mpl_mean.proofs.SmallPrograms.Statements.{int, bool, named, dimension, plain, initialized, declare}

-- `struct s { int x; }; struct t { s a; }; int main() { }`
abbrev struct_in_struct : Parts
struct_in_struct = struct 0 7 "s" (fields 11 (int 11) (field_name 15 "x" None ∷ []) ∷ []) ∷ struct 21 28 "t" (fields
    32 (named 32 "s") (field_name 34 "a" None ∷ []) ∷ []) ∷ main_at 40 [] ∷ []

struct_in_struct_fails : least_failure (program struct_in_struct) ≡ fails 4 32
struct_in_struct_fails = failed struct_in_struct

-- `struct s { int x; }; int main() { s a; }`
abbrev struct_in_local : Parts
struct_in_local = struct 0 7 "s" (fields 11 (int 11) (field_name 15 "x" None ∷ []) ∷ []) ∷ main_at 21 (declare 34
    (named 34 "s") (plain 36 "a" None ∷ []) ∷ []) ∷ []

struct_in_local_holds : is_typed (program struct_in_local) ≡ true
struct_in_local_holds = held struct_in_local

-- `regular mentat class calc { int f(int x) { } }; int g(calc w) { } int main() { }`
abbrev regular_formal : Parts
regular_formal = regular_class 0 21 "calc" (member 28 (typed 28 (int 28)) 32 "f" (formal (int 34) 38 "x" ∷ []) [] ∷
    []) ∷ function 48 (int 48) 52 "g" (formal (named 54 "calc") 59 "w" ∷ []) [] ∷ main_at 66 [] ∷ []

regular_formal_fails : least_failure (program regular_formal) ≡ fails 4 54
regular_formal_fails = failed regular_formal

-- `regular mentat class calc { int f(int x) { } }; int main() { calc w = 1; }`
abbrev regular_with_value : Parts
regular_with_value = regular_class 0 21 "calc" (member 28 (typed 28 (int 28)) 32 "f" (formal (int 34) 38 "x" ∷ []) []
    ∷ []) ∷ main_at 48 (declare 61 (named 61 "calc") (initialized 66 "w" (of_expression 70 (as_expression 70 (number
    70))) ∷ []) ∷ []) ∷ []

regular_with_value_fails : least_failure (program regular_with_value) ≡ fails 4 61
regular_with_value_fails = failed regular_with_value

-- `int main() { int a[257]; }`
abbrev dimension_257 : Parts
dimension_257 = main_at 0 (declare 13 (int 13) (plain 17 "a" (dimension 19 257) ∷ []) ∷ []) ∷ []

dimension_257_fails : least_failure (program dimension_257) ≡ fails 5 19
dimension_257_fails = failed dimension_257

-- `int main() { int a[256]; }`
abbrev dimension_256 : Parts
dimension_256 = main_at 0 (declare 13 (int 13) (plain 17 "a" (dimension 19 256) ∷ []) ∷ []) ∷ []

dimension_256_holds : is_typed (program dimension_256) ≡ true
dimension_256_holds = held dimension_256

-- `struct s { int x; }; int main() { s a[2]; }`
abbrev array_of_structs : Parts
array_of_structs = struct 0 7 "s" (fields 11 (int 11) (field_name 15 "x" None ∷ []) ∷ []) ∷ main_at 21 (declare 34
    (named 34 "s") (plain 36 "a" (dimension 38 2) ∷ []) ∷ []) ∷ []

array_of_structs_fails : least_failure (program array_of_structs) ≡ fails 5 38
array_of_structs_fails = failed array_of_structs

-- `struct s { int a[256], b; }; int main() { }`
abbrev struct_257 : Parts
struct_257 = struct 0 7 "s" (fields 11 (int 11) (field_name 15 "a" (dimension 17 256) ∷ field_name 23 "b" None ∷ []) ∷
    []) ∷ main_at 29 [] ∷ []

struct_257_fails : least_failure (program struct_257) ≡ fails 6 0
struct_257_fails = failed struct_257

-- `struct s { int a[256]; }; int main() { }`
abbrev struct_256 : Parts
struct_256 = struct 0 7 "s" (fields 11 (int 11) (field_name 15 "a" (dimension 17 256) ∷ []) ∷ []) ∷ main_at 26 [] ∷ []

struct_256_holds : is_typed (program struct_256) ≡ true
struct_256_holds = held struct_256

-- `struct s { }; int main() { }`
abbrev struct_0 : Parts
struct_0 = struct 0 7 "s" [] ∷ main_at 14 [] ∷ []

struct_0_fails : least_failure (program struct_0) ≡ fails 6 0
struct_0_fails = failed struct_0

-- `persistent mentat class cell { int a[256]; bool b; }; int main() { }`
abbrev state_257 : Parts
state_257 = persistent_class 0 24 "cell" (state (fields 31 (int 31) (field_name 35 "a" (dimension 37 256) ∷ [])) ∷
    state (fields 43 (bool 43) (field_name 48 "b" None ∷ [])) ∷ []) ∷ main_at 54 [] ∷ []

state_257_fails : least_failure (program state_257) ≡ fails 6 0
state_257_fails = failed state_257

-- `struct s { int a[257]; }; int main() { }`
abbrev field_before_dimension : Parts
field_before_dimension = struct 0 7 "s" (fields 11 (int 11) (field_name 15 "a" (dimension 17 257) ∷ []) ∷ []) ∷
    main_at 26 [] ∷ []

field_before_dimension_fails : least_failure (program field_before_dimension) ≡ fails 6 0
field_before_dimension_fails = failed field_before_dimension

-- `int main() { int a[256], b[256], c[256], d[256], e; }`
abbrev words_1025 : Parts
words_1025 = main_at 0 (declare 13 (int 13) (plain 17 "a" (dimension 19 256) ∷ plain 25 "b" (dimension 27 256) ∷ plain
    33 "c" (dimension 35 256) ∷ plain 41 "d" (dimension 43 256) ∷ plain 49 "e" None ∷ []) ∷ []) ∷ []

words_1025_fails : least_failure (program words_1025) ≡ fails 7 0
words_1025_fails = failed words_1025

-- `int main() { int a[256], b[256], c[256], d[256]; }`
abbrev words_1024 : Parts
words_1024 = main_at 0 (declare 13 (int 13) (plain 17 "a" (dimension 19 256) ∷ plain 25 "b" (dimension 27 256) ∷ plain
    33 "c" (dimension 35 256) ∷ plain 41 "d" (dimension 43 256) ∷ []) ∷ []) ∷ []

words_1024_holds : is_typed (program words_1024) ≡ true
words_1024_holds = held words_1024

-- `int main() { int a[256], b[256], c[256], d[256]; t e; }`
abbrev words_of_no_type : Parts
words_of_no_type = main_at 0 (declare 13 (int 13) (plain 17 "a" (dimension 19 256) ∷ plain 25 "b" (dimension 27 256) ∷
    plain 33 "c" (dimension 35 256) ∷ plain 41 "d" (dimension 43 256) ∷ []) ∷ declare 49 (named 49 "t") (plain 51 "e"
    None ∷ []) ∷ []) ∷ []

words_of_no_type_fails : least_failure (program words_of_no_type) ≡ fails 7 0
words_of_no_type_fails = failed words_of_no_type

-- `int f(int a, int b, int c, int d, int e, int f, int g, int h, int i, int j, int k, int l, int m, int n, int o, int p, int q) { } int main() { }`
abbrev formals_17 : Parts
formals_17 = function 0 (int 0) 4 "f" (formal (int 6) 10 "a" ∷ formal (int 13) 17 "b" ∷ formal (int 20) 24 "c" ∷
    formal (int 27) 31 "d" ∷ formal (int 34) 38 "e" ∷ formal (int 41) 45 "f" ∷ formal (int 48) 52 "g" ∷ formal (int
    55) 59 "h" ∷ formal (int 62) 66 "i" ∷ formal (int 69) 73 "j" ∷ formal (int 76) 80 "k" ∷ formal (int 83) 87 "l" ∷
    formal (int 90) 94 "m" ∷ formal (int 97) 101 "n" ∷ formal (int 104) 108 "o" ∷ formal (int 111) 115 "p" ∷ formal
    (int 118) 122 "q" ∷ []) [] ∷ main_at 129 [] ∷ []

formals_17_fails : least_failure (program formals_17) ≡ fails 8 118
formals_17_fails = failed formals_17

-- `int f(int a, int b, int c, int d, int e, int f, int g, int h, int i, int j, int k, int l, int m, int n, int o, int p) { } int main() { }`
abbrev formals_16 : Parts
formals_16 = function 0 (int 0) 4 "f" (formal (int 6) 10 "a" ∷ formal (int 13) 17 "b" ∷ formal (int 20) 24 "c" ∷
    formal (int 27) 31 "d" ∷ formal (int 34) 38 "e" ∷ formal (int 41) 45 "f" ∷ formal (int 48) 52 "g" ∷ formal (int
    55) 59 "h" ∷ formal (int 62) 66 "i" ∷ formal (int 69) 73 "j" ∷ formal (int 76) 80 "k" ∷ formal (int 83) 87 "l" ∷
    formal (int 90) 94 "m" ∷ formal (int 97) 101 "n" ∷ formal (int 104) 108 "o" ∷ formal (int 111) 115 "p" ∷ []) [] ∷
    main_at 122 [] ∷ []

formals_16_holds : is_typed (program formals_16) ≡ true
formals_16_holds = held formals_16
