-- The code of a statement needs a variable as often as uses on the ways through it are marked.
use Rattle.std.proofs.Common.{◌≡◌, ℕ, ◌+◌, Bool, true, false, List, [], ◌∷◌, length, map, Option, Some, None, ◌⊎◌, inl, inr, refl, ap, sym, subst, arith, ◌∙◌}
use Rattle.mpl_ast.specs.declared.place.At.{At}
use Rattle.mpl_ast.specs.declared.expression.Target.{Target}
use Rattle.mpl_ast.specs.declared.statement.TypeName.{TypeName}
use Rattle.mpl_mean.specs.Meaning.CallMeaning.{name_of_target}
use Rattle.mpl_mean.specs.Meaning.Layout.{Class}
use Rattle.mpl_mean.specs.Pending.BodyWays.{assigned_ways, becomes, create_ways, created_in, each_value, event_of, flow_ways, held_event, local_ways, locals_ways, place_ways, return_ways, stmt_ways, stmts_ways, uses, value_ways}
use Rattle.mpl_mean.specs.Pending.Paths.{Ways}
use Rattle.mpl_mean.specs.Plain.Expr.{Expr}
use Rattle.mpl_mean.specs.Plain.Expr as e
use Rattle.mpl_mean.specs.Plain.Scopes as plain
use Rattle.mpl_mean.specs.Plain.Stmt.{NewLocal, Stmt, Stmts}
use Rattle.mpl_mean.specs.Plain.Stmt as s
use Rattle.mdf_code.specs.declared.instr.Instr.{Instr}
use Rattle.mdf_code.specs.declared.instr.Instr.TheVariants as instr
use Rattle.mpl_gen_code.specs.ExpressionCode.{codes_of, flow_code, need_of_slot, value_code}
use Rattle.mpl_gen_code.specs.Fits.{AssignmentFits, CreationFits, EachFits, FlowFits, LocalsFit, May, PlaceFits, ReturnsFit, StmtFits, StmtsFit}
use Rattle.mpl_gen_code.specs.Pieces.{Piece, all_joined, joined, where_marked}
use Rattle.mpl_gen_code.specs.Scopes.{Env, Finish, OfBody, OfFunction, Found, Slot, class_found, found_at, whole_slot}
use Rattle.mpl_gen_code.specs.StatementCode.{assign_code, behind, behind_block, body_code, create_code, create_in, create_of, declares, element_code, end_instr, initial_code, into_code, into_slot, letters_of, locals_code, return_code, return_instr, stmt_code, stmts_code, store_element, tests_index}
use Rattle.mpl_gen_code.proofs.Storing.{same_behind}
use Rattle.mpl_gen_laws.specs.MarkedUses.{marked_event, marked_uses, need_in, needs_in, one_if}
use Rattle.mpl_gen_laws.proofs.CountedNeeds.{Needs, both_need, either_needs, loop_needs, none_needed, one_needs, same_needs, slot_needs, then_needs, unless_needs}
use Rattle.mpl_gen_laws.proofs.Loosened.{SameFound, SameSlot, behind_seen, block_seen, found_same, part_seen, place_seen, plain_env, whole_seen}
use Rattle.mpl_gen_laws.proofs.NeededExpressions.{flow_counted, need_counted, place_counted, value_counted}

-- ---- values of what may be a call

passed_counted : (may : May) (env : Env) (expr : Expr) → FlowFits may env expr → Needs (marked_uses env.marks (value_ways (plain_env env) expr)) (value_code env expr)
passed_counted may env (e.CallOnOwn at member arguments) fits = then_needs instr.Force refl (flow_counted may env (e.CallOnOwn at member arguments) fits)
passed_counted may env (e.CallOnTarget at target member arguments) fits = then_needs instr.Force refl (flow_counted may env (e.CallOnTarget at target member arguments) fits)
passed_counted may env (e.Number at value) fits = value_counted may env (e.Number at value) fits
passed_counted may env (e.Truth at value) fits = value_counted may env (e.Truth at value) fits
passed_counted may env (e.Own at) fits = value_counted may env (e.Own at) fits
passed_counted may env (e.Input at) fits = value_counted may env (e.Input at) fits
passed_counted may env (e.Whole at target) fits = value_counted may env (e.Whole at target) fits
passed_counted may env (e.Element at line target index) fits = value_counted may env (e.Element at line target index) fits
passed_counted may env (e.PlainCall at function arguments) fits = value_counted may env (e.PlainCall at function arguments) fits
passed_counted may env (e.Parenthesized at inner) fits = value_counted may env (e.Parenthesized at inner) fits
passed_counted may env (e.Unary at line operator operand) fits = value_counted may env (e.Unary at line operator operand) fits
passed_counted may env (e.Binary at line operator left right) fits = value_counted may env (e.Binary at line operator left right) fits

-- ---- what goes into a whole variable forces none

held_none : (marks : ℕ → Bool) (n : ℕ) (o : Option plain.Slot) → marked_event marks (held_event n o) ≡ 0
held_none marks n None = refl
held_none marks n (Some slot) = refl

event_none : (marks : ℕ → Bool) (env : plain.Env) (n : ℕ) (expr : Expr) → marked_event marks (event_of env n expr) ≡ 0
event_none marks env n (e.CallOnOwn at member arguments) = refl
event_none marks env n (e.CallOnTarget at target member arguments) = refl
event_none marks env n (e.Number at value) = refl
event_none marks env n (e.Truth at value) = refl
event_none marks env n (e.Own at) = refl
event_none marks env n (e.Input at) = refl
event_none marks env n (e.Whole at target) = held_none marks n (plain.whole_slot env (e.Whole at target))
event_none marks env n (e.Element at line target index) = refl
event_none marks env n (e.PlainCall at function arguments) = refl
event_none marks env n (e.Parenthesized at inner) = refl
event_none marks env n (e.Unary at line operator operand) = refl
event_none marks env n (e.Binary at line operator left right) = refl

becomes_counted : (may : May) (env : Env) (n : ℕ) (value : Expr) → FlowFits may env value → Needs (marked_uses env.marks (becomes (plain_env env) n value)) (flow_code env value)
becomes_counted may env n value fits = let none = event_none env.marks (plain_env env) n value in same_needs (omega (arith, none)) (flow_counted may env value fits)

-- ---- locals

initial_counted : (may : May) (env : Env) (words : ℕ) (o : Option Expr) → Rattle.mpl_gen_code.specs.Fits.InitialFits may env words o → Needs (marked_uses env.marks (local_ways (plain_env env) o)) (initial_code env o)
initial_counted may env words None fits = one_needs (instr.Zero (length env.sizes))
initial_counted may env words (Some value) fits = then_needs (instr.SetVariable (length env.sizes)) refl (becomes_counted may env (length (plain_env env).scope) value fits.0)

locals_counted : (may : May) (env : Env) (t : TypeName) (locals : List NewLocal) → LocalsFit may env t locals → Needs (marked_uses env.marks (locals_ways (plain_env env) t locals)) (locals_code env t locals)
locals_counted may env t [] fits = none_needed
locals_counted may env t (local ∷ locals) fits = both_need (initial_counted may env _ local.initialiser fits.0) (locals_counted may (declares t local env) t locals fits.1)

-- ---- assignments

fixed_need : {n : ℕ} (code : List Instr) → needs_in code ≡ n → Needs n (λ base. code)
fixed_need code e = record { are = λ base. e }

-- the use of a place whose slot is known
used_at : (env : Env) (node : ℕ) (t : Target) (found : Found) (o : Option Slot) → found_at env t ≡ Some found → found.slot ≡ o
    → Needs (marked_uses env.marks (uses node (plain.found_at (plain_env env) t))) (where_marked (env.marks node) (need_of_slot o))
used_at env node t found o is slot =
    subst (λ o. Needs (marked_uses env.marks (uses node (plain.found_at (plain_env env) t))) (where_marked (env.marks node) (need_of_slot o))) slot
    (subst (λ o. Needs (marked_uses env.marks (uses node (plain.found_at (plain_env env) t))) (Rattle.mpl_gen_code.specs.ExpressionCode.need_of (env.marks node) o)) is (place_counted env node t))

none_used : (env : Env) (node : ℕ) (t : Target) (found : Found) → found_at env t ≡ Some found → found.slot ≡ None → marked_uses env.marks (uses node (plain.found_at (plain_env env) t)) ≡ 0
none_used env node t found is slot = sym ((used_at env node t found None is slot).are 0) ∙ by_mark (env.marks node) where
  by_mark : (b : Bool) → needs_in (where_marked b (need_of_slot None) 0) ≡ 0
  by_mark true = refl
  by_mark false = refl

whole_ways : (env : plain.Env) (node : ℕ) (value : Expr) (found : Option plain.Found) (o : Option plain.Slot) (slot : plain.Slot) → o ≡ Some slot → becomes env slot.number value ≡ assigned_ways env node o value found
whole_ways env node value found o slot is = ap (λ o. assigned_ways env node o value found) (sym is)

into_counted : (may : May) (env : Env) (at : At) (t : Target) (value : Expr) (found : Found) → found_at env t ≡ Some found → FlowFits may env value
    → Needs (marked_uses env.marks (assigned_ways (plain_env env) at.id (plain.whole_slot (plain_env env) (e.Whole at t)) value (plain.found_at (plain_env env) t))) (into_slot (env.marks at.id) (codes_of env value) found found.slot found.is_whole)
into_counted may env at t value found is fits = by_slot found.slot found.is_whole refl refl where
  ways : Option plain.Slot → Ways
  ways o = assigned_ways (plain_env env) at.id o value (plain.found_at (plain_env env) t)

  by_slot : (o : Option Slot) (whole : Bool) → found.slot ≡ o → found.is_whole ≡ whole
      → Needs (marked_uses env.marks (assigned_ways (plain_env env) at.id (plain.whole_slot (plain_env env) (e.Whole at t)) value (plain.found_at (plain_env env) t))) (into_slot (env.marks at.id) (codes_of env value) found o whole)
  by_slot (Some slot) true i w =
      let seen = whole_seen env at t found slot is i w in
      same_needs (ap (marked_uses env.marks) (whole_ways (plain_env env) at.id value (plain.found_at (plain_env env) t) (plain.whole_slot (plain_env env) (e.Whole at t)) seen.0 seen.1))
      (then_needs (instr.SetVariable slot.number) refl (becomes_counted may env seen.0.number value fits))
  by_slot (Some slot) false i w =
      subst (λ o. Needs (marked_uses env.marks (assigned_ways (plain_env env) at.id o value (plain.found_at (plain_env env) t))) (into_slot (env.marks at.id) (codes_of env value) found (Some slot) false)) (sym (part_seen env at t found is (inr w)))
      (both_need (passed_counted may env value fits) (then_needs (instr.Store slot.number found.offset found.words) refl (used_at env at.id t found (Some slot) is i)))
  by_slot None whole i w =
      subst (λ o. Needs (marked_uses env.marks (assigned_ways (plain_env env) at.id o value (plain.found_at (plain_env env) t))) (into_slot (env.marks at.id) (codes_of env value) found None whole)) (sym (part_seen env at t found is (inl i)))
      (let none = none_used env at.id t found is i in same_needs (omega (arith, none)) (then_needs (instr.Keep found.offset found.words) refl (passed_counted may env value fits)))

assign_whole : (may : May) (env : Env) (at : At) (t : Target) (value : Expr) (o : Option Found) → found_at env t ≡ o → PlaceFits env o → FlowFits may env value
    → Needs (marked_uses env.marks (assigned_ways (plain_env env) at.id (plain.whole_slot (plain_env env) (e.Whole at t)) value (plain.found_at (plain_env env) t))) (into_code (env.marks at.id) (codes_of env value) o)
assign_whole may env at t value None is place fits = absurd place
assign_whole may env at t value (Some found) is place fits = into_counted may env at t value found is fits

store_counted : (env : Env) (node line hidden : ℕ) (t : Target) (found : Found) → found_at env t ≡ Some found → Needs (marked_uses env.marks (uses node (plain.found_at (plain_env env) t))) (store_element (env.marks node) line hidden found found.slot)
store_counted env node line hidden t found is = by_slot found.slot refl where
  tests : Needs 0 (tests_index line hidden found.words)
  tests = record { are = λ base. refl }

  by_slot : (o : Option Slot) → found.slot ≡ o → Needs (marked_uses env.marks (uses node (plain.found_at (plain_env env) t))) (store_element (env.marks node) line hidden found o)
  by_slot None i = same_needs (sym (none_used env node t found is i)) (one_needs (instr.KeepIndexed found.offset found.words line))
  by_slot (Some slot) i =
      same_needs (omega arith)
      (both_need tests (both_need (used_at env node t found (Some slot) is i) (fixed_need (instr.Load hidden 0 1 ∷ instr.StoreIndexed slot.number found.offset found.words line ∷ []) refl)))

assign_element : (may : May) (env : Env) (node line : ℕ) (t : Target) (value index : Expr) (o : Option Found) → found_at env t ≡ o → PlaceFits env o → FlowFits may env value → Rattle.mpl_gen_code.specs.Fits.ExprFits may env index
    → Needs (marked_uses env.marks (value_ways (plain_env env) value) + (marked_uses env.marks (value_ways (plain_env env) index) + marked_uses env.marks (uses node (plain.found_at (plain_env env) t))))
    (element_code (env.marks node) line (length env.sizes) (value_code env value) (value_code env index) o)
assign_element may env node line t value index None is place fits inner = absurd place
assign_element may env node line t value index (Some found) is place fits inner =
    both_need (passed_counted may env value fits) (both_need (value_counted may env index inner) (store_counted env node line (length env.sizes) t found is))

assign_counted : (may : May) (env : Env) (place value : Expr) → AssignmentFits may env place value → Needs (marked_uses env.marks (place_ways (plain_env env) place value)) (assign_code env place value)
assign_counted may env (e.Whole at target) value fits = assign_whole may env at target value (found_at env target) refl fits.0 fits.1
assign_counted may env (e.Element at line target index) value fits = assign_element may env at.id line target value index (found_at env target) refl fits.0 fits.1 fits.3
assign_counted may env (e.Number at z) value fits = absurd fits
assign_counted may env (e.Truth at b) value fits = absurd fits
assign_counted may env (e.Own at) value fits = absurd fits
assign_counted may env (e.Input at) value fits = absurd fits
assign_counted may env (e.PlainCall at function arguments) value fits = absurd fits
assign_counted may env (e.Parenthesized at inner) value fits = absurd fits
assign_counted may env (e.Unary at line operator operand) value fits = absurd fits
assign_counted may env (e.Binary at line operator left right) value fits = absurd fits
assign_counted may env (e.CallOnOwn at member arguments) value fits = absurd fits
assign_counted may env (e.CallOnTarget at target member arguments) value fits = absurd fits

-- ---- objects

create_slot : (marks : ℕ → Bool) (node class : ℕ) (scope : List Slot) (found : Found) (p : Option plain.Slot) (o : Option Slot) (whole : Bool) → SameSlot scope p o
    → Needs (marked_uses marks (created_in node p whole)) (create_in (marks node) class found o whole)
create_slot marks node class scope found None None true h = record { are = λ base. refl }
create_slot marks node class scope found None None false h = record { are = λ base. refl }
create_slot marks node class scope found None (Some slot) whole h = absurd h
create_slot marks node class scope found (Some p) None whole h = absurd h
create_slot marks node class scope found (Some p) (Some slot) true h = record { are = λ base. refl }
create_slot marks node class scope found (Some p) (Some slot) false h =
    same_needs (omega arith)
    (both_need (slot_needs (marks node) slot) (fixed_need (instr.Create class ∷ instr.Store slot.number found.offset found.words ∷ []) refl))

create_found : (may : May) (env : Env) (node : ℕ) (scope : List Slot) (p : Option plain.Found) (o : Option Found) (class : Option Class) → SameFound scope p o → CreationFits may env o class → class ≡ class_found env o
    → Needs (marked_uses env.marks (create_ways node p)) (create_code env (env.marks node) o)
create_found may env node scope None None class h fits is = none_needed
create_found may env node scope None (Some found) class h fits is = absurd h
create_found may env node scope (Some p) None class h fits is = absurd h
create_found may env node scope (Some p) (Some found) None h fits is = absurd fits
create_found may env node scope (Some p) (Some found) (Some class) h fits is =
    subst (λ class. Needs (marked_uses env.marks (create_ways node (Some p))) (create_of (env.marks node) found class)) is
    (subst (λ whole. Needs (marked_uses env.marks (created_in node p.slot whole)) (create_in (env.marks node) class.number found found.slot found.is_whole)) (sym h.whole)
    (create_slot env.marks node class.number scope found p.slot found.slot found.is_whole h.slot))

-- ---- printing and returning

each_counted : (may : May) (env : Env) (exprs : List Expr) → EachFits may env exprs → Needs (marked_uses env.marks (each_value (plain_env env) exprs)) (all_joined (map (value_code env) exprs))
each_counted may env [] fits = none_needed
each_counted may env (expr ∷ exprs) fits = both_need (value_counted may env expr fits.0) (each_counted may env exprs fits.2)

return_none : (finish : Finish) → need_in (return_instr finish) ≡ 0
return_none (OfBody line) = refl
return_none (OfFunction words line) = refl

end_none : (finish : Finish) → need_in (end_instr finish) ≡ 0
end_none (OfBody line) = refl
end_none (OfFunction words line) = refl

return_counted : (may : May) (env : Env) (finish : Finish) (o : Option Expr) → ReturnsFit may env finish o → Needs (marked_uses env.marks (return_ways (plain_env env) o)) (return_code env finish o)
return_counted may env finish None fits = same_needs (return_none finish) (one_needs (return_instr finish))
return_counted may env (OfBody line) (Some value) fits = same_needs (omega arith) (then_needs (instr.End line) refl (value_counted may env value fits.0))
return_counted may env (OfFunction words line) (Some value) fits = same_needs (omega arith) (then_needs (instr.Return words) refl (value_counted may env value fits.0))

-- ---- one form after another

-- behind a statement the marks are the same
marks_behind : (stmt : Stmt) (env : Env) → (behind stmt env).marks ≡ env.marks
marks_behind stmt env = ap Env.marks (same_behind stmt env)

at_marks : (env : Env) {marks : ℕ → Bool} {piece : Piece} (ways : Ways) → env.marks ≡ marks → Needs (marked_uses env.marks ways) piece → Needs (marked_uses marks ways) piece
at_marks env {piece = piece} ways e h = subst (λ marks. Needs (marked_uses marks ways) piece) e h

mutual
  pub stmt_counted : (may : May) (marks : ℕ → Bool) (stmt : Stmt) (env : Env) → env.marks ≡ marks → StmtFits may env stmt → Needs (marked_uses marks (stmt_ways (plain_env env) stmt)) (stmt_code env stmt)
  stmt_counted may marks s.Nothing env m fits = none_needed
  stmt_counted may marks (s.Within stmts) env m fits = stmts_counted may marks stmts env m fits
  stmt_counted may marks (s.Locals t locals) env m fits = at_marks env (locals_ways (plain_env env) t locals) m (locals_counted may env t locals fits)
  stmt_counted may marks (s.Assigns at place value) env m fits = at_marks env (place_ways (plain_env env) place value) m (assign_counted may env place value fits)
  stmt_counted may marks (s.Calls call) env m fits = at_marks env (flow_ways (plain_env env) call) m (then_needs instr.DropFlow refl (flow_counted may env call fits))
  stmt_counted may marks (s.Creates at target) env m fits =
      at_marks env (create_ways at.id (plain.found_at (plain_env env) target)) m
      (create_found may env at.id env.scope (plain.found_at (plain_env env) target) (found_at env target) (class_found env (found_at env target)) (found_same env target) fits refl)
  stmt_counted may marks (s.When test then_part) env m fits =
      same_needs (omega arith)
      (both_need (at_marks env (value_ways (plain_env env) test) m (value_counted may env test fits.0.0)) (unless_needs (stmt_counted may marks then_part env m fits.1)))
  stmt_counted may marks (s.Branches test then_part else_part) env m fits =
      both_need (at_marks env (value_ways (plain_env env) test) m (value_counted may env test fits.0.0))
      (either_needs (stmt_counted may marks then_part env m fits.1)
      (subst (λ (seen : plain.Env). Needs (marked_uses marks (stmt_ways seen else_part)) (stmt_code (behind_block then_part env) else_part)) (sym (block_seen then_part env))
      (stmt_counted may marks else_part (behind_block then_part env) (marks_behind then_part env ∙ m) fits.2)))
  stmt_counted may marks (s.Repeats test body) env m fits =
      loop_needs (at_marks env (value_ways (plain_env env) test) m (value_counted may env test fits.0.0)) (stmt_counted may marks body env m fits.1)
  stmt_counted may marks (s.Loops first test step body) env m fits =
      let inner = behind first env in
      let same : inner.marks ≡ marks = marks_behind first env ∙ m in
      let last = behind_block body inner in
      both_need (stmt_counted may marks first env m fits.0)
      (subst (λ (seen : plain.Env). Needs (marked_uses marks (value_ways seen test) + (marked_uses marks (stmt_ways seen body) + marked_uses marks (stmt_ways seen step)))
      (Rattle.mpl_gen_code.specs.Pieces.loop (value_code inner test) (joined (stmt_code inner body) (stmt_code last step)))) (sym (behind_seen first env))
      (loop_needs (at_marks inner (value_ways (plain_env inner) test) same (value_counted may inner test fits.1.0))
      (both_need (stmt_counted may marks body inner same fits.2)
      (subst (λ (seen : plain.Env). Needs (marked_uses marks (stmt_ways seen step)) (stmt_code last step)) (sym (block_seen body inner)) (stmt_counted may marks step last (marks_behind body inner ∙ same) fits.3)))))
  stmt_counted may marks (s.Prints at arguments) env m fits =
      at_marks env (each_value (plain_env env) arguments) m (then_needs (instr.Print (letters_of env arguments)) refl (each_counted may env arguments fits.1))
  stmt_counted may marks (s.Gives at value) env m fits = at_marks env (flow_ways (plain_env env) value) m (then_needs (instr.Reply at.line) refl (flow_counted may env value fits.0))
  stmt_counted may marks (s.Returns at value) env m fits = at_marks env (return_ways (plain_env env) value) m (return_counted may env env.finish value fits)

  stmts_counted : (may : May) (marks : ℕ → Bool) (stmts : Stmts) (env : Env) → env.marks ≡ marks → StmtsFit may env stmts → Needs (marked_uses marks (stmts_ways (plain_env env) stmts)) (stmts_code env stmts)
  stmts_counted may marks s.NoStmt env m fits = none_needed
  stmts_counted may marks (s.MoreStmts stmt stmts) env m fits =
      both_need (stmt_counted may marks stmt env m fits.0)
      (subst (λ (seen : plain.Env). Needs (marked_uses marks (stmts_ways seen stmts)) (stmts_code (behind stmt env) stmts)) (sym (behind_seen stmt env))
      (stmts_counted may marks stmts (behind stmt env) (marks_behind stmt env ∙ m) fits.1))

pub body_counted : (may : May) (env : Env) (stmts : Stmts) → StmtsFit may env stmts → needs_in (body_code env stmts 0) ≡ marked_uses env.marks (stmts_ways (plain_env env) stmts)
body_counted may env stmts fits = (then_needs (end_instr env.finish) (end_none env.finish) (stmts_counted may env.marks stmts env refl fits)).are 0
