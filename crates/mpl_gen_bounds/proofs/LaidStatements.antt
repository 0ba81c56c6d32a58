-- The code of a statement has at most five instructions a form, and declares at most one variable a form.
use Rattle.std.proofs.Common.{◌≡◌, ◌≤◌, ℕ, ◌+◌, ◌*◌, Bool, true, false, List, [], ◌∷◌, ◌++◌, length, map, Option, Some, None, sym, subst, arith}
use Rattle.std.proofs.lemmas.List.{length-append}
use Rattle.mpl_ast.specs.declared.program.Declaration.{Declaration}
use Rattle.mpl_ast.specs.declared.statement.Dimension.{Dimension}
use Rattle.mpl_ast.specs.declared.statement.TypeName.{TypeName}
use Rattle.mpl_mean.specs.Laws.Sizes.{Every}
use Rattle.mpl_mean.specs.Meaning.Layout.{Class, dimension_of, words_of}
use Rattle.mpl_mean.specs.Plain.Expr.{Expr}
use Rattle.mpl_mean.specs.Plain.Expr as e
use Rattle.mpl_mean.specs.Plain.Stmt.{NewLocal, Stmt, Stmts}
use Rattle.mpl_mean.specs.Plain.Stmt as s
use Rattle.mdf_code.specs.declared.instr.Instr.{Instr}
use Rattle.mdf_code.specs.declared.instr.Instr.TheVariants as instr
use Rattle.mpl_gen_code.specs.ExpressionCode.{Codes, codes_of, need_of_slot, value_code}
use Rattle.mpl_gen_code.specs.Pieces.{Piece, all_joined, where_marked}
use Rattle.mpl_gen_code.specs.ProgramImage.{code_of_body}
use Rattle.mpl_gen_code.specs.Scopes.{Env, Finish, OfBody, OfFunction, Found, Slot, class_found, found_at, out_of, words_of_shape}
use Rattle.mpl_gen_code.specs.StatementCode.{assign_code, behind, behind_all, behind_assignment, behind_block, behind_element, behind_found, create_code, create_in, create_of, declares, declares_all, element_code, end_instr, initial_code, into_code, into_slot, letters_of, locals_code, return_code, return_instr, shape_of_local, stmt_code, stmts_code, store_element, tests_index}
use Rattle.mpl_gen_expr.specs.Drafts.{Fits32, InstrFits}
use Rattle.mpl_gen_laws.proofs.SmallSizes.{AllLocalsFew, DimensionFew, LocalsFew}
use Rattle.mpl_gen_bounds.specs.ImageFits.{CodeFits}
use Rattle.mpl_gen_bounds.proofs.FormCounts.{count_all, count_if_any, forms, forms_of_local, stmt_forms, stmts_forms}
use Rattle.mpl_gen_bounds.proofs.LaidExpressions.{LaidCodes, codes_laid, need_slot_laid}
use Rattle.mpl_gen_bounds.proofs.LaidPieces.{IsLimit, Laid, both_laid, either_laid, fits_below, loop_laid, marked_laid, more, none_laid, one_laid, then_laid, unless_laid}
use Rattle.mpl_gen_bounds.proofs.SmallScopes.{FinishSmall, FoundSmall, IfAny, IsFew, NumberSmall, Sized, Small, place_small}

every_last : {A : Type 0} (P : A → Type 0) (xs : List A) (x : A) → Every P xs → P x → Every P (xs ++ x ∷ [])
every_last P [] x h k = (k, tt)
every_last P (y ∷ xs) x h k = (h.0, every_last P xs x h.1 k)

one_longer : {A : Type 0} (xs : List A) (x : A) → length (xs ++ x ∷ []) ≡ length xs + 1
one_longer xs x = length-append xs (x ∷ [])

module _ (ds : List Declaration) (sized : Sized ds) (limit : ℕ) (is : IsLimit limit) (wide : 1024 ≤ limit) where
  abbrev FoundFits : Found → Type 0
  FoundFits = FoundSmall ds sized limit

  abbrev NumberFits : Slot → Type 0
  NumberFits = NumberSmall ds sized limit

  abbrev LaidIn : ℕ → Piece → Type 0
  LaidIn = Laid limit is

  abbrev EnvSmall : Env → Type 0
  EnvSmall = Small ds sized limit

  -- a code that names no place of its own
  fixed_laid : (n : ℕ) (code : List Instr) → length code ≤ n → Every InstrFits code → LaidIn n (λ base. code)
  fixed_laid n code le h = record { short = λ base. le; fits = λ base room. h }

  -- what is written for a statement, and what surrounds the next one
  record Done (env : Env) (n : ℕ) (piece : Piece) (next : Env) : Type 0 where
    code : LaidIn (5 * n) piece
    small : EnvSmall next
    grows : length next.sizes ≤ length env.sizes + n

  -- ---- locals

  dimension_words : (t : TypeName) (dimension : Option Dimension) (new : NewLocal) → DimensionFew (record new { dimension = dimension }) → words_of ds t (dimension_of dimension) ≤ 1024
  dimension_words t None new h = let few = sized.words t in omega (arith, few)
  dimension_words t (Some dimension) new h = omega (arith, h)

  declare_small : (t : TypeName) (new : NewLocal) (env : Env) → EnvSmall env → DimensionFew new → length env.sizes ≤ limit → EnvSmall (declares t new env)
  declare_small t new env small h room =
      let words : words_of ds t (dimension_of new.dimension) ≤ 1024 = dimension_words t new.dimension new h in
      let few : words_of_shape env.declarations (shape_of_local t new) ≤ 1024 = subst (λ ds. words_of ds t (dimension_of new.dimension) ≤ 1024) (sym small.declarations) words in record {
        declarations = small.declarations;
        scope = ((room, words), small.scope);
        parts = small.parts;
        sizes = every_last IsFew env.sizes (words_of_shape env.declarations (shape_of_local t new)) small.sizes few;
        finish = small.finish;
      }

  initial_laid : (env : Env) (o : Option Expr) → EnvSmall env → length env.sizes ≤ limit → LaidIn (5 * count_if_any forms o + 1) (initial_code env o)
  initial_laid env None small room = more limit is (omega arith) (one_laid limit is (instr.Zero (length env.sizes)) (λ k. fits_below (length env.sizes) is room))
  initial_laid env (Some value) small room = then_laid limit is (instr.SetVariable (length env.sizes)) (codes_laid ds sized limit is wide env value small).flow (λ k. fits_below (length env.sizes) is room)

  locals_done : (t : TypeName) (locals : List NewLocal) (env : Env) → EnvSmall env → Every DimensionFew locals → length env.sizes + count_all forms_of_local locals ≤ limit
      → Done env (count_all forms_of_local locals) (locals_code env t locals) (declares_all t locals env)
  locals_done t [] env small h room = record { code = more limit is (omega arith) (none_laid limit is); small = small; grows = omega arith }
  locals_done t (new ∷ locals) env small h room =
      let longer = one_longer env.sizes (words_of_shape env.declarations (shape_of_local t new)) in
      let rest = locals_done t locals (declares t new env) (declare_small t new env small h.0 (omega (arith, room))) h.1 (omega (arith, room, longer)) in record {
        code = more limit is (omega arith) (both_laid limit is (initial_laid env new.initialiser small (omega (arith, room))) rest.code);
        small = rest.small;
        grows = let grows = rest.grows in omega (arith, grows, longer);
      }

  -- ---- assignments

  into_slot_laid : {n : ℕ} {codes : Codes} (b : Bool) (found : Found) (slot : Option Slot) (whole : Bool) → found.offset ≤ 512 → found.words ≤ 1024 → IfAny NumberFits slot
      → LaidCodes ds sized limit is wide n codes → LaidIn (n + 2) (into_slot b codes found slot whole)
  into_slot_laid b found (Some slot) true h k number codes = more limit is (omega arith) (then_laid limit is (instr.SetVariable slot.number) codes.flow (λ room. fits_below slot.number is number))
  into_slot_laid b found (Some slot) false h k number codes =
      more limit is (omega arith)
      (both_laid limit is codes.value
      (then_laid limit is (instr.Store slot.number found.offset found.words) (marked_laid limit is b (need_slot_laid ds sized limit is wide (Some slot) number))
      (λ room. (fits_below slot.number is number, fits_below found.offset is (omega (arith, h, wide)), fits_below found.words is (omega (arith, k, wide))))))
  into_slot_laid b found None whole h k number codes =
      more limit is (omega arith) (then_laid limit is (instr.Keep found.offset found.words) codes.value (λ room. (fits_below found.offset is (omega (arith, h, wide)), fits_below found.words is (omega (arith, k, wide)))))

  into_laid : {n : ℕ} {codes : Codes} (b : Bool) (o : Option Found) → IfAny FoundFits o → LaidCodes ds sized limit is wide n codes → LaidIn (n + 2) (into_code b codes o)
  into_laid b None h codes = more limit is (omega arith) (none_laid limit is)
  into_laid b (Some found) h codes = into_slot_laid b found found.slot found.is_whole h.0 h.1 h.2 codes

  tests_laid : (line hidden words : ℕ) → hidden + 1 ≤ limit → words ≤ 1024 → LaidIn 6 (tests_index line hidden words)
  tests_laid line hidden words room few =
      let one = fits_below 1 is (omega (arith, wide)) in
      let zero = fits_below 0 is (omega arith) in
      let held = fits_below hidden is (omega (arith, room)) in
      let next = fits_below (hidden + 1) is room in
      fixed_laid 6 (tests_index line hidden words 0) (omega arith) (one, (held, (next, ((held, zero, one), ((next, zero, fits_below words is (omega (arith, few, wide))), (tt, tt))))))

  store_laid : (b : Bool) (line hidden : ℕ) (found : Found) (slot : Option Slot) → hidden + 1 ≤ limit → found.offset ≤ 512 → found.words ≤ 1024 → IfAny NumberFits slot
      → LaidIn 9 (store_element b line hidden found slot)
  store_laid b line hidden found None room h k number =
      more limit is (omega arith)
      (one_laid limit is (instr.KeepIndexed found.offset found.words line) (λ room. (fits_below found.offset is (omega (arith, h, wide)), fits_below found.words is (omega (arith, k, wide)))))
  store_laid b line hidden found (Some slot) room h k number =
      more limit is (omega arith)
      (both_laid limit is (tests_laid line hidden found.words room k)
      (both_laid limit is (marked_laid limit is b (need_slot_laid ds sized limit is wide (Some slot) number))
      (fixed_laid 2 (instr.Load hidden 0 1 ∷ instr.StoreIndexed slot.number found.offset found.words line ∷ []) (omega arith) (
        (fits_below hidden is (omega (arith, room)), fits_below 0 is (omega arith), fits_below 1 is (omega (arith, wide))),
        ((fits_below slot.number is number, fits_below found.offset is (omega (arith, h, wide)), fits_below found.words is (omega (arith, k, wide))), tt),
      ))))

  element_laid : {m n : ℕ} {value index : Piece} (b : Bool) (line hidden : ℕ) (o : Option Found) → hidden + 1 ≤ limit → IfAny FoundFits o → LaidIn m value → LaidIn n index
      → LaidIn (m + n + 9) (element_code b line hidden value index o)
  element_laid b line hidden None room h value index = more limit is (omega arith) (none_laid limit is)
  element_laid b line hidden (Some found) room h value index =
      more limit is (omega arith) (both_laid limit is value (both_laid limit is index (store_laid b line hidden found found.slot room h.0 h.1 h.2)))

  hidden_small : (env : Env) (found : Found) (slot : Option Slot) → EnvSmall env → found.words ≤ 1024 → EnvSmall (behind_element found slot env)
  hidden_small env found None small few = small
  hidden_small env found (Some slot) small few = record {
    declarations = small.declarations;
    scope = small.scope;
    parts = small.parts;
    sizes = every_last IsFew (env.sizes ++ 1 ∷ []) found.words (every_last IsFew env.sizes 1 small.sizes (omega arith)) few;
    finish = small.finish;
  }

  hidden_grows : (env : Env) (found : Found) (slot : Option Slot) → length (behind_element found slot env).sizes ≤ length env.sizes + 2
  hidden_grows env found None = omega arith
  hidden_grows env found (Some slot) =
      let one = one_longer env.sizes 1 in
      let two = one_longer (env.sizes ++ 1 ∷ []) found.words in
      omega (arith, one, two)

  behind_found_done : (env : Env) (o : Option Found) → EnvSmall env → IfAny FoundFits o → EnvSmall (behind_found o env) × (length (behind_found o env).sizes ≤ length env.sizes + 2)
  behind_found_done env None small h = (small, omega arith)
  behind_found_done env (Some found) small h = (hidden_small env found found.slot small h.1, hidden_grows env found found.slot)

  nothing_done : (env : Env) (n : ℕ) → EnvSmall env → Done env n (λ base. []) env
  nothing_done env n small = record { code = more limit is (omega arith) (none_laid limit is); small = small; grows = omega arith }

  assign_done : (place value : Expr) (env : Env) → EnvSmall env → length env.sizes + (1 + forms place + forms value) ≤ limit → Done env (1 + forms place + forms value) (assign_code env place value) (behind_assignment place env)
  assign_done (e.Whole at target) value env small room = record {
    code = more limit is (omega arith) (into_laid (env.marks at.id) (found_at env target) (place_small ds sized limit env target small) (codes_laid ds sized limit is wide env value small));
    small = small;
    grows = omega arith;
  }
  assign_done (e.Element at line target index) value env small room =
      let place = place_small ds sized limit env target small in
      let behind = behind_found_done env (found_at env target) small place in record {
        code = more limit is (omega arith)
            (element_laid (env.marks at.id) line (length env.sizes) (found_at env target) (omega (arith, room)) place (codes_laid ds sized limit is wide env value small).value (codes_laid ds sized limit is wide env index small).value);
        small = behind.0;
        grows = let grows = behind.1 in omega (arith, grows);
      }
  assign_done (e.Number at z) value env small room = nothing_done env (1 + 1 + forms value) small
  assign_done (e.Truth at b) value env small room = nothing_done env (1 + 1 + forms value) small
  assign_done (e.Own at) value env small room = nothing_done env (1 + 1 + forms value) small
  assign_done (e.Input at) value env small room = nothing_done env (1 + 1 + forms value) small
  assign_done (e.PlainCall at function arguments) value env small room = nothing_done env (1 + forms (e.PlainCall at function arguments) + forms value) small
  assign_done (e.Parenthesized at inner) value env small room = nothing_done env (1 + forms (e.Parenthesized at inner) + forms value) small
  assign_done (e.Unary at line operator operand) value env small room = nothing_done env (1 + forms (e.Unary at line operator operand) + forms value) small
  assign_done (e.Binary at line operator left right) value env small room = nothing_done env (1 + forms (e.Binary at line operator left right) + forms value) small
  assign_done (e.CallOnOwn at member arguments) value env small room = nothing_done env (1 + forms (e.CallOnOwn at member arguments) + forms value) small
  assign_done (e.CallOnTarget at target member arguments) value env small room = nothing_done env (1 + forms (e.CallOnTarget at target member arguments) + forms value) small

  -- ---- objects

  create_in_laid : (b : Bool) (class : ℕ) (found : Found) (slot : Option Slot) (whole : Bool) → found.offset ≤ 512 → found.words ≤ 1024 → IfAny NumberFits slot → LaidIn 3 (create_in b class found slot whole)
  create_in_laid b class found (Some slot) true h k number =
      fixed_laid 3 (instr.Create class ∷ instr.ArgWords 1 ∷ instr.SetVariable slot.number ∷ []) (omega arith) (tt, (fits_below 1 is (omega (arith, wide)), (fits_below slot.number is number, tt)))
  create_in_laid b class found (Some slot) false h k number =
      both_laid limit is (marked_laid limit is b (need_slot_laid ds sized limit is wide (Some slot) number))
      (fixed_laid 2 (instr.Create class ∷ instr.Store slot.number found.offset found.words ∷ []) (omega arith)
      (tt, ((fits_below slot.number is number, fits_below found.offset is (omega (arith, h, wide)), fits_below found.words is (omega (arith, k, wide))), tt)))
  create_in_laid b class found None whole h k number =
      fixed_laid 3 (instr.Create class ∷ instr.Keep found.offset found.words ∷ []) (omega arith) (tt, ((fits_below found.offset is (omega (arith, h, wide)), fits_below found.words is (omega (arith, k, wide))), tt))

  create_of_laid : (b : Bool) (found : Found) (class : Option Class) → FoundFits found → LaidIn 3 (create_of b found class)
  create_of_laid b found None h = more limit is (omega arith) (none_laid limit is)
  create_of_laid b found (Some class) h = create_in_laid b class.number found found.slot found.is_whole h.0 h.1 h.2

  create_laid : (env : Env) (b : Bool) (o : Option Found) → IfAny FoundFits o → LaidIn 3 (create_code env b o)
  create_laid env b None h = more limit is (omega arith) (none_laid limit is)
  create_laid env b (Some found) h = create_of_laid b found (class_found env (Some found)) h

  -- ---- printing and returning

  values_laid : (env : Env) (exprs : List Expr) → EnvSmall env → LaidIn (5 * count_all forms exprs) (all_joined (map (value_code env) exprs))
  values_laid env [] small = more limit is (omega arith) (none_laid limit is)
  values_laid env (expr ∷ exprs) small = more limit is (omega arith) (both_laid limit is (codes_laid ds sized limit is wide env expr small).value (values_laid env exprs small))

  return_fits : (finish : Finish) → FinishSmall finish → InstrFits (return_instr finish)
  return_fits (OfBody line) h = tt
  return_fits (OfFunction words line) h = fits_below words is (omega (arith, h, wide))

  end_fits : (finish : Finish) → InstrFits (end_instr finish)
  end_fits (OfBody line) = tt
  end_fits (OfFunction words line) = tt

  return_laid : (env : Env) (finish : Finish) (o : Option Expr) → EnvSmall env → FinishSmall finish → LaidIn (5 * count_if_any forms o + 1) (return_code env finish o)
  return_laid env finish None small h = more limit is (omega arith) (one_laid limit is (return_instr finish) (λ room. return_fits finish h))
  return_laid env finish (Some value) small h = then_laid limit is (return_instr finish) (codes_laid ds sized limit is wide env value small).value (λ room. return_fits finish h)

  -- ---- one form after another

  out_small : (outer inner : Env) → EnvSmall outer → EnvSmall inner → EnvSmall (out_of outer inner)
  out_small outer inner h k = record { declarations = k.declarations; scope = h.scope; parts = k.parts; sizes = k.sizes; finish = k.finish }

  -- where no variable is declared
  plain_done : {n : ℕ} {piece : Piece} (env : Env) → EnvSmall env → LaidIn (5 * n) piece → Done env n piece env
  plain_done env small h = record { code = h; small = small; grows = omega arith }

  mutual
    stmt_done : (stmt : Stmt) (env : Env) → EnvSmall env → LocalsFew stmt → length env.sizes + stmt_forms stmt ≤ limit → Done env (stmt_forms stmt) (stmt_code env stmt) (behind stmt env)
    stmt_done s.Nothing env small few room = nothing_done env 0 small
    stmt_done (s.Within stmts) env small few room =
        let inner = all_done stmts env small few room in
        record { code = inner.code; small = out_small env (behind_all stmts env) small inner.small; grows = inner.grows }
    stmt_done (s.Locals t locals) env small few room = locals_done t locals env small few room
    stmt_done (s.Assigns at place value) env small few room = assign_done place value env small room
    stmt_done (s.Calls call) env small few room = plain_done env small (more limit is (omega arith) (then_laid limit is instr.DropFlow (codes_laid ds sized limit is wide env call small).flow (λ room. tt)))
    stmt_done (s.Creates at target) env small few room = plain_done env small (more limit is (omega arith) (create_laid env (env.marks at.id) (found_at env target) (place_small ds sized limit env target small)))
    stmt_done (s.When test then_part) env small few room =
        let inner = stmt_done then_part env small few (omega (arith, room)) in record {
          code = more limit is (omega arith) (both_laid limit is (codes_laid ds sized limit is wide env test small).value (unless_laid limit is inner.code));
          small = out_small env (behind then_part env) small inner.small;
          grows = let grows = inner.grows in omega (arith, grows);
        }
    stmt_done (s.Branches test then_part else_part) env small few room =
        let first = stmt_done then_part env small few.0 (omega (arith, room)) in
        let grows = first.grows in
        let second = stmt_done else_part (behind_block then_part env) (out_small env (behind then_part env) small first.small) few.1 (omega (arith, room, grows)) in record {
          code = more limit is (omega arith) (both_laid limit is (codes_laid ds sized limit is wide env test small).value (either_laid limit is first.code second.code));
          small = out_small env (behind else_part (behind_block then_part env)) small second.small;
          grows = let later = second.grows in omega (arith, grows, later);
        }
    stmt_done (s.Repeats test body) env small few room =
        let inner = stmt_done body env small few (omega (arith, room)) in record {
          code = more limit is (omega arith) (loop_laid limit is (codes_laid ds sized limit is wide env test small).value inner.code);
          small = out_small env (behind body env) small inner.small;
          grows = let grows = inner.grows in omega (arith, grows);
        }
    stmt_done (s.Loops first test step body) env small few room =
        let begun = stmt_done first env small few.0 (omega (arith, room)) in
        let one = begun.grows in
        let inner = stmt_done body (behind first env) begun.small few.2 (omega (arith, room, one)) in
        let two = inner.grows in
        let between = out_small (behind first env) (behind body (behind first env)) begun.small inner.small in
        let last = stmt_done step (behind_block body (behind first env)) between few.1 (omega (arith, room, one, two)) in record {
          code = more limit is (omega arith)
              (both_laid limit is begun.code (loop_laid limit is (codes_laid ds sized limit is wide (behind first env) test begun.small).value (both_laid limit is inner.code last.code)));
          small = out_small env (behind step (behind_block body (behind first env))) small last.small;
          grows = let three = last.grows in omega (arith, one, two, three);
        }
    stmt_done (s.Prints at arguments) env small few room =
        plain_done env small (more limit is (omega arith) (then_laid limit is (instr.Print (letters_of env arguments)) (values_laid env arguments small) (λ room. tt)))
    stmt_done (s.Gives at value) env small few room = plain_done env small (more limit is (omega arith) (then_laid limit is (instr.Reply at.line) (codes_laid ds sized limit is wide env value small).flow (λ room. tt)))
    stmt_done (s.Returns at value) env small few room = plain_done env small (more limit is (omega arith) (return_laid env env.finish value small small.finish))

    all_done : (stmts : Stmts) (env : Env) → EnvSmall env → AllLocalsFew stmts → length env.sizes + stmts_forms stmts ≤ limit → Done env (stmts_forms stmts) (stmts_code env stmts) (behind_all stmts env)
    all_done s.NoStmt env small few room = nothing_done env 0 small
    all_done (s.MoreStmts stmt stmts) env small few room =
        let first = stmt_done stmt env small few.0 (omega (arith, room)) in
        let one = first.grows in
        let rest = all_done stmts (behind stmt env) first.small few.1 (omega (arith, room, one)) in record {
          code = more limit is (omega arith) (both_laid limit is first.code rest.code);
          small = rest.small;
          grows = let two = rest.grows in omega (arith, one, two);
        }

  -- ---- bodies

  sizes_fit : (sizes : List ℕ) → Every IsFew sizes → Every Fits32 sizes
  sizes_fit [] h = tt
  sizes_fit (n ∷ sizes) h = (fits_below n is (omega (arith, h.0, wide)), sizes_fit sizes h.1)

  pub body_fits : (env : Env) (stmts : Stmts) → EnvSmall env → AllLocalsFew stmts → length env.sizes + stmts_forms stmts ≤ limit → 5 * stmts_forms stmts + 1 ≤ limit → CodeFits (code_of_body env stmts)
  body_fits env stmts small few room below =
      let done = all_done stmts env small few room in record {
        vars = sizes_fit (behind_all stmts env).sizes done.small.sizes;
        code = (then_laid limit is (end_instr env.finish) done.code (λ room. end_fits env.finish)).fits 0 (omega (arith, below));
      }
