-- The code of an expression does what the expression means.
use Rattle.std.proofs.Common.{◌≡◌, ◌≤◌, ℕ, ◌+◌, Bool, List, [], ◌∷◌, length, map, Option, Some, None, ℤ, refl, sym, subst, ◌∙◌}
use Rattle.std.specs.List.{slice_index_or}
use Rattle.std.specs.Prelude.{flat_map, pos}
use Rattle.mpl_ast.specs.declared.class.Formal.{Formal}
use Rattle.mpl_value.specs.declared.body.Arg.{Arg}
use Rattle.mpl_mean.specs.Laws.InPlace.{ArgumentsHaveWords}
use Rattle.mpl_mean.specs.Meaning.CallMeaning.{name_of_target}
use Rattle.mpl_mean.specs.Meaning.Context.{Callees, Context}
use Rattle.mpl_mean.specs.Meaning.Layout.{Function, function_named, words_of, words_of_parts}
use Rattle.mpl_mean.specs.Meaning.PlaceMeaning.{index_of, is_bool}
use Rattle.mpl_mean.specs.Meaning.Store.{Store, and_then, pure}
use Rattle.mpl_mean.specs.Meaning.Values.{Value, word_of}
use Rattle.mpl_mean.specs.Plain.Expr.{Expr, Exprs}
use Rattle.mpl_mean.specs.Plain.Expr as e
use Rattle.mdf_code.specs.Frames.{Flow}
use Rattle.mdf_code.specs.Parts.{text_at}
use Rattle.mdf_code.specs.Stacks.{pushed}
use Rattle.mdf_code.specs.declared.instr.Instr.{Instr}
use Rattle.mdf_code.specs.declared.instr.Instr.TheVariants as instr
use Rattle.mpl_checked.specs.Checked.CheckedExpressions.{checked_called, checked_value, checked_values, checked_words}
use Rattle.mpl_checked.specs.Checked.CheckedSteps.{CheckedCallees, Checking, Meant, checked_all, goes_on, ◌>?>◌}
use Rattle.mpl_gen_code.specs.ExpressionCode.{codes_of_each, function_number, of_place, plain_code, read_code, unary_instr, value_code, values_code}
use Rattle.mpl_gen_code.specs.Fits.{FunctionIs, May, ValuesFit}
use Rattle.mpl_gen_code.specs.Pieces.{Piece}
use Rattle.mpl_gen_code.specs.Scopes.{Env, Slot, found_at, whole_slot}
use Rattle.mpl_gen_code.specs.Words.{is_bool_expr, is_bool_function, is_bool_unary, words_of_expr, words_of_function}
use Rattle.mpl_gen_code.proofs.Below.{Below, function_numbered}
use Rattle.mpl_gen_code.proofs.Elements.{element_follows}
use Rattle.mpl_gen_code.proofs.Instructions.{At, Is, own, pushes}
use Rattle.mpl_gen_code.proofs.Operators.{Follows, binary_follows, input_follows, reads_place, top, unary_follows}
use Rattle.mpl_gen_code.proofs.Places.{Upto, ValueAt, from_followed, from_joined, known_at, moved, upto_before}
use Rattle.mpl_gen_code.proofs.Popping.{pushed_both}
use Rattle.mpl_gen_code.proofs.Reaching.{Comes, From, Keeping, Keeps, Run, comes_on}
use Rattle.mpl_gen_code.proofs.Scoped.{Allowed, Scoped, Stands, context_of, located}

-- a place is read the same way, whether it may be passed on as it stands or not
pub place_value : (slot : Option Slot) (words : ℕ) (piece : Piece) → (of_place slot words piece).value ≡ piece
place_value None words piece = refl
place_value (Some slot) words piece = refl

module _ (K : Run) (may : May) (env : Env) (inner : Callees) (callees : CheckedCallees) (base : ℕ) (below : Below K.whole env.declarations callees base) (above : base ≤ K.low)
    (allowed : Allowed K may env.parts) (scoped : Scoped K env) (vs : List Arg) where
  abbrev c : Context
  c = context_of K inner env

  abbrev chk : Checking
  chk = record { marks = env.marks; callees = callees }

  abbrev text : List Instr
  text = text_at K.whole.setting.image K.here.code

  abbrev S : Keeping → Store → Type 0
  S keeping s = Stands K keeping env vs s

  abbrev V : Keeping → ℕ → List ℤ → List (Flow Arg) → ℕ → Bool → Value → Store → Type 0
  V keeping = ValueAt K keeping env vs

  abbrev E : Expr → Type 0
  E = Follows K may env inner callees base below above allowed scoped vs

  -- the words of all values
  abbrev pub all_words : List Value → List (List ℤ)
  all_words = map (λ (value : Value). value.words)

  -- the words of the values are on top, one after another
  abbrev pub ValuesAt : Keeping → ℕ → List ℤ → List (Flow Arg) → List Formal → List Value → Store → Type 0
  ValuesAt keeping q ws fs formals values s = S keeping s → ArgumentsHaveWords env.declarations formals (all_words values) → At K q (pushed (flat_map (λ words. words) (all_words values)) ws) fs vs s

  -- ---- a plain function

  calls_function : (keeping : Keeping) (name : List ℕ) (f : Function) → FunctionIs env.declarations name f → (p q : ℕ) (ws : List ℤ) (fs : List (Flow Arg)) (s : Store) (number : ℕ) → function_number env.declarations name ≡ Some number
      → (values : List Value) → Is K p (instr.Call number) → p + 1 ≡ q → S keeping s → ArgumentsHaveWords env.declarations f.formals (all_words values)
      → Comes K (V keeping q ws fs (words_of_function env.declarations (function_named name env.declarations)) (is_bool_function (function_named name env.declarations)))
      (checked_called chk (function_named name env.declarations) (all_words values) s)
      → At K p (pushed (flat_map (λ words. words) (all_words values)) ws) fs vs s
  calls_function keeping name f is p q ws fs s number numbered values stands_at there stands have h =
      below.plain K.low above K.here name f is number numbered (all_words values) have p ws fs vs s stands.low stands.within stands.result stands_at
      (comes_on K (V keeping q ws fs (words_of env.declarations f.result None) (is_bool f.result)) _ (callees.plain f (all_words values) s) _
      (λ words t d same state result low within long.
      moved K keeping env vs (pushed words ws) fs t there
      (d (record {
        agree = same ∙ stands.agree;
        sized = stands.sized;
        keeps = subst (Keeps keeping) (sym state) stands.keeps;
        long = subst (λ (st : List ℤ). words_of_parts env.parts ≤ length st) (sym state) stands.long;
        low = low;
        within = within;
        result = result;
      }) long refl))
      (subst (λ (o : Option Function). Comes K (V keeping q ws fs (words_of_function env.declarations o) (is_bool_function o)) (checked_called chk o (all_words values) s)) is.named h))

  -- ---- the forms

  mutual
    pub expr_follows : (t : Expr) → E t
    expr_follows (e.Number at z) keeping p q ws fs s from inside fits stands h = pushes K p ws fs vs s z from.0 (moved K keeping env vs _ fs s from.1 (h stands refl refl))
    expr_follows (e.Truth at b) keeping p q ws fs s from inside fits stands h = pushes K p ws fs vs s _ from.0 (moved K keeping env vs _ fs s from.1 (h stands refl refl))
    expr_follows (e.Own at) keeping p q ws fs s from inside fits stands h =
        own K p ws fs vs s (allowed.own fits).0 from.0
        (moved K keeping env vs _ fs s from.1 (subst (λ (object : ℤ). At K q (object ∷ ws) fs vs s) (allowed.own fits).1 (h stands refl refl)))
    expr_follows (e.Input at) keeping p q ws fs s from inside fits stands h =
        input_follows K may env inner callees base below above allowed scoped vs keeping p q ws fs s at.line s.input refl fits from.0 from.1 stands h
    expr_follows (e.Whole at target) keeping p q ws fs s from inside fits stands h =
        reads_place K may env inner callees base below above allowed scoped vs keeping at.id target p q ws fs s
        (subst (λ (piece : Piece). From text p (piece p) q)
        (place_value (whole_slot env (name_of_target target)) (words_of_expr env (e.Whole at target)) (read_code (env.marks at.id) (found_at env target))) from) fits stands h
    expr_follows (e.Element at line target index) keeping p q ws fs s from inside fits stands h =
        element_follows K may env inner callees base below above allowed scoped vs at.id line (found_at env target) index (expr_follows index) keeping p q ws fs s from inside
        (known_at K may env target allowed) fits.0 fits.1 fits.2 stands
        (subst (λ l. Comes K (V keeping q ws fs 1 (is_bool_expr env (e.Element at line target index)))
        (goes_on (checked_words chk at.id l s) (λ a. checked_value chk index c >?> (λ i s. Meant (and_then (index_of line (length a.words) (word_of i) s)
        (λ n. pure (record { words = slice_index_or a.words n (pos 0) ∷ []; is_bool = a.is_bool })))))))
        (located K keeping inner env vs s target stands) h)
    expr_follows (e.PlainCall at function arguments) keeping p q ws fs s from inside fits stands h =
        let f = fits.0 in
        let numbered = function_numbered env.declarations function.text f fits.1 in
        let code : From text p (plain_code (Some numbered.number) (values_code (codes_of_each env arguments)) p) q =
        subst (λ (n : Option ℕ). From text p (plain_code n (values_code (codes_of_each env arguments)) p) q) numbered.numbered from in
        let parts = from_followed text (values_code (codes_of_each env arguments)) (instr.Call numbered.number) p q code in
        values_follow keeping f.formals arguments p parts.middle ws fs s parts.first (upto_before K keeping env vs q parts.middle parts.within inside) fits.2 stands
        (comes_on K (V keeping q ws fs (words_of_expr env (e.PlainCall at function arguments)) (is_bool_expr env (e.PlainCall at function arguments))) _ (checked_all (checked_values chk arguments c) s) _
        (λ values s1 h1 stands1 have. calls_function keeping function.text f fits.1 parts.middle q ws fs s1 numbered.number numbered.numbered values parts.is parts.next stands1 have h1)
        h)
    expr_follows (e.Parenthesized at t) keeping p q ws fs s from inside fits stands h = expr_follows t keeping p q ws fs s from inside fits stands h
    expr_follows (e.Unary at line operator operand) keeping p q ws fs s from inside fits stands h =
        let parts = from_followed text (value_code env operand) (unary_instr line operator) p q from in
        expr_follows operand keeping p parts.middle ws fs s parts.first (upto_before K keeping env vs q parts.middle parts.within inside) fits.0 stands
        (comes_on K (V keeping q ws fs 1 (is_bool_unary operator)) (V keeping parts.middle ws fs (words_of_expr env operand) (is_bool_expr env operand)) (checked_value chk operand c s) _
        (λ a s1 h1 stands1 long1 bool1.
        top K may env inner callees base below above allowed scoped vs a parts.middle ws fs s1 (long1 ∙ fits.1)
        (unary_follows K may env inner callees base below above allowed scoped vs keeping parts.middle q ws fs s1 line operator a parts.is parts.next stands1 h1))
        h)
    expr_follows (e.Binary at line operator left right) keeping p q ws fs s from inside fits stands h =
        binary_follows K may env inner callees base below above allowed scoped vs line operator left right (expr_follows left) (expr_follows right) keeping p q ws fs s from inside
        fits.0 fits.1 fits.2 fits.3 fits.4 stands h
    expr_follows (e.CallOnOwn at member arguments) keeping p q ws fs s from inside fits stands h = absurd fits
    expr_follows (e.CallOnTarget at target member arguments) keeping p q ws fs s from inside fits stands h = absurd fits

    -- one after another
    pub values_follow : (keeping : Keeping) (formals : List Formal) (ts : Exprs) (p q : ℕ) (ws : List ℤ) (fs : List (Flow Arg)) (s : Store)
        → From text p (values_code (codes_of_each env ts) p) q → Upto K keeping env vs q → ValuesFit may env formals ts → S keeping s
        → Comes K (ValuesAt keeping q ws fs formals) (checked_all (checked_values chk ts c) s) → At K p ws fs vs s
    values_follow keeping [] e.NoExpr p q ws fs s from inside fits stands h = moved K keeping env vs ws fs s from (h stands tt)
    values_follow keeping [] (e.MoreExprs t ts) p q ws fs s from inside fits stands h = absurd fits
    values_follow keeping (formal ∷ formals) e.NoExpr p q ws fs s from inside fits stands h = absurd fits
    values_follow keeping (formal ∷ formals) (e.MoreExprs t ts) p q ws fs s from inside fits stands h =
        let parts = from_joined text (value_code env t) (values_code (codes_of_each env ts)) p q from in
        expr_follows t keeping p parts.middle ws fs s parts.first (upto_before K keeping env vs q parts.middle parts.within inside) fits.0 stands
        (comes_on K (ValuesAt keeping q ws fs (formal ∷ formals)) (V keeping parts.middle ws fs (words_of_expr env t) (is_bool_expr env t)) (checked_value chk t c s) _
        (λ v s1 h1 stands1 long1 bool1.
        values_follow keeping formals ts parts.middle q (pushed v.words ws) fs s1 parts.second inside fits.2 stands1
        (comes_on K (ValuesAt keeping q ws fs (formal ∷ formals)) (ValuesAt keeping q (pushed v.words ws) fs formals) (checked_all (checked_values chk ts c) s1) _
        (λ values s2 h2 stands2 have.
        subst (λ (words : List ℤ). At K q words fs vs s2) (sym (pushed_both v.words (flat_map (λ words. words) (all_words values)) ws)) (h2 stands2 (long1 ∙ fits.1, have)))
        h1))
        h)
