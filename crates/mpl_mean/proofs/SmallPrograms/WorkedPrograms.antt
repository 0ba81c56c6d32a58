-- Whole programs that are well typed.
use Rattle.std.proofs.Common.{◌≡◌, true, [], ◌∷◌}
use Rattle.std.specs.Prelude.{None}
use Rattle.mpl_mean.specs.TypeRules.Rules.{is_typed}
use Rattle.mpl_mean.proofs.SmallPrograms.Expressions.{as_unary, as_term, as_sum, as_relation, as_expression, in_relation, in_sum, in_term, to_sum, variable, field, whole, element, number, truth, input, read, plus, minus, times, negated, less, call, own_call, of_call, of_expression}
use Rattle.mpl_mean.proofs.SmallPrograms.Programs.{Parts, program, held, formal, main_at, field_name, fields, struct, state, member, void, typed, guarded, select, regular_class, persistent_class}
use Rattle.mpl_mean.proofs.SmallPrograms.Statements.{int, bool, named, dimension, plain, initialized, local, assignment, within, declare, assign, call_alone, create, when_else, starting, starting_with, loop, repeat, print, rtf}

-- `regular mentat class calc { int sq(int x) { rtf(x * x); } }; int main() { calc w; int a = w.sq(3); int b = w.sq(4); print(a + b); }`
abbrev squares : Parts
squares = regular_class 0 21 "calc" (member 28 (typed 28 (int 28)) 32 "sq" (formal (int 35) 39 "x" ∷ []) (rtf 44
    (of_expression 48 (in_sum 48 (to_sum 48 (times 48 (as_term 48 (read 48 (whole 48 (variable 48 "x")))) (as_unary 52
    (read 52 (whole 52 (variable 52 "x")))))))) ∷ []) ∷ []) ∷ main_at 61 (declare 74 (named 74 "calc") (plain 79 "w"
    None ∷ []) ∷ declare 82 (int 82) (initialized 86 "a" (of_call 90 (call 90 (variable 90 "w") 92 "sq" (of_expression
    95 (as_expression 95 (number 95)) ∷ []))) ∷ []) ∷ declare 99 (int 99) (initialized 103 "b" (of_call 107 (call 107
    (variable 107 "w") 109 "sq" (of_expression 112 (as_expression 112 (number 112)) ∷ []))) ∷ []) ∷ print 116 (in_sum
    122 (plus 122 (as_sum 122 (read 122 (whole 122 (variable 122 "a")))) (as_term 126 (read 126 (whole 126 (variable
    126 "b"))))) ∷ []) ∷ []) ∷ []

squares_holds : is_typed (program squares) ≡ true
squares_holds = held squares

-- `regular mentat class calc { int add(int x, int y) { rtf(x + y); } int fib(int n) { calc w; if (n < 2) { rtf(n); } else { int a = w.fib(n - 1); int b = w.fib(n - 2); rtf(w.add(a, b)); } } }; int main() { calc w; int r = w.fib(10); print(r); }`
abbrev fibonacci : Parts
fibonacci = regular_class 0 21 "calc" (member 28 (typed 28 (int 28)) 32 "add" (formal (int 36) 40 "x" ∷ formal (int
    43) 47 "y" ∷ []) (rtf 52 (of_expression 56 (in_sum 56 (plus 56 (as_sum 56 (read 56 (whole 56 (variable 56 "x"))))
    (as_term 60 (read 60 (whole 60 (variable 60 "y"))))))) ∷ []) ∷ member 66 (typed 66 (int 66)) 70 "fib" (formal (int
    74) 78 "n" ∷ []) (declare 83 (named 83 "calc") (plain 88 "w" None ∷ []) ∷ when_else 91 (in_relation 95 (less 95
    (as_relation 95 (read 95 (whole 95 (variable 95 "n")))) (as_sum 99 (number 99)))) (within 102 (rtf 104
    (of_expression 108 (as_expression 108 (read 108 (whole 108 (variable 108 "n"))))) ∷ [])) (within 119 (declare 121
    (int 121) (initialized 125 "a" (of_call 129 (call 129 (variable 129 "w") 131 "fib" (of_expression 135 (in_sum 135
    (minus 135 (as_sum 135 (read 135 (whole 135 (variable 135 "n")))) (as_term 139 (number 139)))) ∷ []))) ∷ []) ∷
    declare 143 (int 143) (initialized 147 "b" (of_call 151 (call 151 (variable 151 "w") 153 "fib" (of_expression 157
    (in_sum 157 (minus 157 (as_sum 157 (read 157 (whole 157 (variable 157 "n")))) (as_term 161 (number 161)))) ∷ [])))
    ∷ []) ∷ rtf 165 (of_call 169 (call 169 (variable 169 "w") 171 "add" (of_expression 175 (as_expression 175 (read
    175 (whole 175 (variable 175 "a")))) ∷ of_expression 178 (as_expression 178 (read 178 (whole 178 (variable 178
    "b")))) ∷ []))) ∷ [])) ∷ []) ∷ []) ∷ main_at 190 (declare 203 (named 203 "calc") (plain 208 "w" None ∷ []) ∷
    declare 211 (int 211) (initialized 215 "r" (of_call 219 (call 219 (variable 219 "w") 221 "fib" (of_expression 225
    (as_expression 225 (number 225)) ∷ []))) ∷ []) ∷ print 230 (as_expression 236 (read 236 (whole 236 (variable 236
    "r"))) ∷ []) ∷ []) ∷ []

fibonacci_holds : is_typed (program fibonacci) ≡ true
fibonacci_holds = held fibonacci

-- `persistent mentat class buffer { int v; bool full; void put(int x) { v = x; full = true; } int get() { full = false; rtf(v); } select { priority 1 : guard (!full) accept put; priority 1 : guard (full) accept get; } }; int main() { buffer b; b.create(); int x = b.get(); b.put(7); print(x); }`
abbrev buffer : Parts
buffer = persistent_class 0 24 "buffer" (state (fields 33 (int 33) (field_name 37 "v" None ∷ [])) ∷ state (fields 40
    (bool 40) (field_name 45 "full" None ∷ [])) ∷ member 51 (void 51) 56 "put" (formal (int 60) 64 "x" ∷ []) (assign
    69 (whole 69 (variable 69 "v")) (of_expression 73 (as_expression 73 (read 73 (whole 73 (variable 73 "x"))))) ∷
    assign 76 (whole 76 (variable 76 "full")) (of_expression 83 (as_expression 83 (truth 83))) ∷ []) ∷ member 91
    (typed 91 (int 91)) 95 "get" [] (assign 103 (whole 103 (variable 103 "full")) (of_expression 110 (as_expression
    110 (truth 110))) ∷ rtf 117 (of_expression 121 (as_expression 121 (read 121 (whole 121 (variable 121 "v"))))) ∷
    []) ∷ select 127 (guarded 136 145 1 (in_sum 156 (to_sum 156 (in_term 156 (negated 156 (as_unary 157 (read 157
    (whole 157 (variable 157 "full")))))))) 170 "put" ∷ guarded 175 184 1 (as_expression 195 (read 195 (whole 195
    (variable 195 "full")))) 208 "get" ∷ []) ∷ []) ∷ main_at 218 (declare 231 (named 231 "buffer") (plain 238 "b" None
    ∷ []) ∷ create 241 (variable 241 "b") ∷ declare 253 (int 253) (initialized 257 "x" (of_call 261 (call 261
    (variable 261 "b") 263 "get" [])) ∷ []) ∷ call_alone 270 (call 270 (variable 270 "b") 272 "put" (of_expression 276
    (as_expression 276 (number 276)) ∷ [])) ∷ print 280 (as_expression 286 (read 286 (whole 286 (variable 286 "x"))) ∷
    []) ∷ []) ∷ []

buffer_holds : is_typed (program buffer) ≡ true
buffer_holds = held buffer

-- `struct vec { int v[4]; }; regular mentat class op { int dot(vec a, vec b) { int s = 0; for (int i = 0; i < 4; i = i + 1) { s = s + a.v[i] * b.v[i]; } rtf(s); } }; int main() { op w; vec a, b; int i = 0; while (i < 4) { a.v[i] = input(); i = i + 1; } for (i = 0; i < 4; i = i + 1) { b.v[i] = input(); } int d = w.dot(a, b); int e = w.dot(b, b); print(d, e); }`
abbrev dot_product : Parts
dot_product = struct 0 7 "vec" (fields 13 (int 13) (field_name 17 "v" (dimension 19 4) ∷ []) ∷ []) ∷ regular_class 26
    47 "op" (member 52 (typed 52 (int 52)) 56 "dot" (formal (named 60 "vec") 64 "a" ∷ formal (named 67 "vec") 71 "b" ∷
    []) (declare 76 (int 76) (initialized 80 "s" (of_expression 84 (as_expression 84 (number 84))) ∷ []) ∷ loop 87
    (starting (local (int 92) 92 (initialized 96 "i" (of_expression 100 (as_expression 100 (number 100))) ∷ [])))
    (in_relation 103 (less 103 (as_relation 103 (read 103 (whole 103 (variable 103 "i")))) (as_sum 107 (number 107))))
    (assignment 110 (whole 110 (variable 110 "i")) (of_expression 114 (in_sum 114 (plus 114 (as_sum 114 (read 114
    (whole 114 (variable 114 "i")))) (as_term 118 (number 118)))))) (within 121 (assign 123 (whole 123 (variable 123
    "s")) (of_expression 127 (in_sum 127 (plus 127 (as_sum 127 (read 127 (whole 127 (variable 127 "s")))) (times 131
    (as_term 131 (read 131 (element 131 (field 131 "a" 133 "v") (as_expression 135 (read 135 (whole 135 (variable 135
    "i"))))))) (as_unary 140 (read 140 (element 140 (field 140 "b" 142 "v") (as_expression 144 (read 144 (whole 144
    (variable 144 "i"))))))))))) ∷ [])) ∷ rtf 150 (of_expression 154 (as_expression 154 (read 154 (whole 154 (variable
    154 "s"))))) ∷ []) ∷ []) ∷ main_at 163 (declare 176 (named 176 "op") (plain 179 "w" None ∷ []) ∷ declare 182
    (named 182 "vec") (plain 186 "a" None ∷ plain 189 "b" None ∷ []) ∷ declare 192 (int 192) (initialized 196 "i"
    (of_expression 200 (as_expression 200 (number 200))) ∷ []) ∷ repeat 203 (in_relation 210 (less 210 (as_relation
    210 (read 210 (whole 210 (variable 210 "i")))) (as_sum 214 (number 214)))) (within 217 (assign 219 (element 219
    (field 219 "a" 221 "v") (as_expression 223 (read 223 (whole 223 (variable 223 "i"))))) (of_expression 228
    (as_expression 228 (input 228))) ∷ assign 237 (whole 237 (variable 237 "i")) (of_expression 241 (in_sum 241 (plus
    241 (as_sum 241 (read 241 (whole 241 (variable 241 "i")))) (as_term 245 (number 245))))) ∷ [])) ∷ loop 250
    (starting_with (assignment 255 (whole 255 (variable 255 "i")) (of_expression 259 (as_expression 259 (number
    259))))) (in_relation 262 (less 262 (as_relation 262 (read 262 (whole 262 (variable 262 "i")))) (as_sum 266
    (number 266)))) (assignment 269 (whole 269 (variable 269 "i")) (of_expression 273 (in_sum 273 (plus 273 (as_sum
    273 (read 273 (whole 273 (variable 273 "i")))) (as_term 277 (number 277)))))) (within 280 (assign 282 (element 282
    (field 282 "b" 284 "v") (as_expression 286 (read 286 (whole 286 (variable 286 "i"))))) (of_expression 291
    (as_expression 291 (input 291))) ∷ [])) ∷ declare 302 (int 302) (initialized 306 "d" (of_call 310 (call 310
    (variable 310 "w") 312 "dot" (of_expression 316 (as_expression 316 (read 316 (whole 316 (variable 316 "a")))) ∷
    of_expression 319 (as_expression 319 (read 319 (whole 319 (variable 319 "b")))) ∷ []))) ∷ []) ∷ declare 323 (int
    323) (initialized 327 "e" (of_call 331 (call 331 (variable 331 "w") 333 "dot" (of_expression 337 (as_expression
    337 (read 337 (whole 337 (variable 337 "b")))) ∷ of_expression 340 (as_expression 340 (read 340 (whole 340
    (variable 340 "b")))) ∷ []))) ∷ []) ∷ print 344 (as_expression 350 (read 350 (whole 350 (variable 350 "d"))) ∷
    as_expression 353 (read 353 (whole 353 (variable 353 "e"))) ∷ []) ∷ []) ∷ []

dot_product_holds : is_typed (program dot_product) ≡ true
dot_product_holds = held dot_product

-- `persistent mentat class looper { int f() { int x = self.f(); rtf(x + 1); } }; int main() { looper c; c.create(); int a = c.f(); print(a); }`
abbrev asks_itself : Parts
asks_itself = persistent_class 0 24 "looper" (member 33 (typed 33 (int 33)) 37 "f" [] (declare 43 (int 43)
    (initialized 47 "x" (of_call 51 (own_call 51 56 "f" [])) ∷ []) ∷ rtf 61 (of_expression 65 (in_sum 65 (plus 65
    (as_sum 65 (read 65 (whole 65 (variable 65 "x")))) (as_term 69 (number 69))))) ∷ []) ∷ []) ∷ main_at 78 (declare
    91 (named 91 "looper") (plain 98 "c" None ∷ []) ∷ create 101 (variable 101 "c") ∷ declare 113 (int 113)
    (initialized 117 "a" (of_call 121 (call 121 (variable 121 "c") 123 "f" [])) ∷ []) ∷ print 128 (as_expression 134
    (read 134 (whole 134 (variable 134 "a"))) ∷ []) ∷ []) ∷ []

asks_itself_holds : is_typed (program asks_itself) ≡ true
asks_itself_holds = held asks_itself
