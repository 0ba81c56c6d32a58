-- The code of statements that print, give a result, return or call does what they mean.
use Rattle.std.proofs.Common.{◌≡◌, ◌≤◌, ℕ, suc, ◌+◌, Bool, true, false, not, List, [], ◌∷◌, ◌++◌, length, map, Option, Some, None, if◌then◌else◌, ℤ, pos, refl, ap, ap₂, sym, subst, ◌∙◌}
use Rattle.std.specs.Fmt.{signed_decimal}
use Rattle.std.specs.Ordering.{int_eq}
use Rattle.std.specs.Prelude.{codes}
use Rattle.mpl_value.specs.Results.{result_of}
use Rattle.mpl_value.specs.declared.body.Arg.{Arg}
use Rattle.mpl_value.specs.declared.body.Arg.TheVariants as arg
use Rattle.mpl_value.specs.declared.body.BodyResult.{BodyResult}
use Rattle.mpl_value.specs.declared.body.BodyResult.TheVariants as result
use Rattle.mpl_mean.specs.Meaning.Context.{Callees, Context}
use Rattle.mpl_mean.specs.Meaning.Layout.{Function, Member}
use Rattle.mpl_mean.specs.Meaning.StatementMeaning.{give_result, gives_result}
use Rattle.mpl_mean.specs.Meaning.StatementMeaning as mean
use Rattle.mpl_mean.specs.Meaning.Store.{Store, Outcome, Goes}
use Rattle.mpl_mean.specs.Meaning.Values.{Value, is_true, value_text, word_of}
use Rattle.mpl_mean.specs.Plain.Expr.{Expr}
use Rattle.mdf_code.specs.Frames.{Caller}
use Rattle.mdf_code.specs.Parts.{function_of, text_at}
use Rattle.mdf_code.specs.Sizes.{ArgFits, ResultFits}
use Rattle.mdf_code.specs.Stacks.{pushed}
use Rattle.mdf_code.specs.Steps.{line_of, texts_after_first, word_text}
use Rattle.mdf_code.specs.declared.instr.Instr.{Instr}
use Rattle.mdf_code.specs.declared.instr.Instr.TheVariants as instr
use Rattle.mdf_code.specs.declared.raw.RawFunction.{RawFunction}
use Rattle.mpl_checked.specs.Checked.CheckedExpressions.{checked_passes, checked_value}
use Rattle.mpl_checked.specs.Checked.CheckedStatements.{checked_returned}
use Rattle.mpl_checked.specs.Checked.CheckedSteps.{Checked, CheckedCallees, Checking, Meant, checked_all, goes_on}
use Rattle.mpl_gen_code.specs.ExpressionCode.{flow_code, value_code}
use Rattle.mpl_gen_code.specs.Fits.{EachFits, FlowFits, GivesWords, May, ReturnsFit}
use Rattle.mpl_gen_code.specs.Pieces.{all_joined, followed_by}
use Rattle.mpl_gen_code.specs.Scopes.{Env, Finish, OfBody, OfFunction}
use Rattle.mpl_gen_code.specs.StatementCode.{letter, letters_of, return_code}
use Rattle.mpl_gen_code.specs.Words.{is_bool_expr, words_of_expr}
use Rattle.mpl_gen_code.proofs.Adding.{Adds, adds_none}
use Rattle.mpl_gen_code.proofs.Assignments.{Done, Writable}
use Rattle.mpl_gen_code.proofs.Below.{Below}
use Rattle.mpl_gen_code.proofs.Effects.{drops_flow, ends_body, gives_first, gives_twice, goes_back, prints}
use Rattle.mpl_gen_code.proofs.Expressions.{expr_follows}
use Rattle.mpl_gen_code.proofs.Flows.{Surrounded, flow_follows, meets_map, meets_on}
use Rattle.mpl_gen_code.proofs.Instructions.{At as Reached, Is}
use Rattle.mpl_gen_code.proofs.Members.{ItemAt, Meets}
use Rattle.mpl_gen_code.proofs.Operators.{top}
use Rattle.mpl_gen_code.proofs.Places.{Upto, ValueAt, from_followed, from_joined, moved, of_stands, upto_before}
use Rattle.mpl_gen_code.proofs.Popping.{pushed_both}
use Rattle.mpl_gen_code.proofs.Reaching.{Comes, From, Kept, Returned, Run, Whole, comes_map, comes_on, was_given}
use Rattle.mpl_gen_code.proofs.Scoped.{Allowed, Scoped, Stands, context_of}

-- ---- how a code ends

-- a plain function has its count of words, and a caller
pub record InFunction (K : Run) (count : ℕ) : Type 0 where
  pub function : RawFunction
  pub stands : function_of K.whole.setting.image K.here.code ≡ Some function
  pub gives : function.result ≡ count
  pub caller : Caller Arg
  pub callers : List (Caller Arg)
  pub called : K.here.callers ≡ caller ∷ callers

abbrev pub EndsAs : Run → Finish → Type 0
EndsAs K (OfBody line) = Unit {0}
EndsAs K (OfFunction count line) = InFunction K count

-- ---- lines

-- values of one word each, as they are printed
abbrev pub Printable : Env → List Expr → List Value → Type 0
Printable env [] [] = Unit {0}
Printable env [] (value ∷ values) = ⊥
Printable env (t ∷ ts) [] = ⊥
Printable env (t ∷ ts) (value ∷ values) = (value.is_bool ≡ is_bool_expr env t) × Printable env ts values

word_same : (b : Bool) (value : Value) → value.is_bool ≡ b → word_text (letter b) (word_of value) ≡ value_text value
word_same true value e = by_zero (int_eq (word_of value) (pos 0)) refl ∙ ap (λ b. if b then (if is_true value then codes "true" else codes "false") else signed_decimal (word_of value)) (sym e) where
  by_zero : (z : Bool) → int_eq (word_of value) (pos 0) ≡ z → (if int_eq (word_of value) (pos 0) then codes "false" else codes "true") ≡ (if is_true value then codes "true" else codes "false")
  by_zero true z = ap (λ b. if b then codes "false" else codes "true") z ∙ sym (ap (λ b. if not b then codes "true" else codes "false") z)
  by_zero false z = ap (λ b. if b then codes "false" else codes "true") z ∙ sym (ap (λ b. if not b then codes "true" else codes "false") z)
word_same false value e = ap (λ b. if b then (if is_true value then codes "true" else codes "false") else signed_decimal (word_of value)) (sym e)

texts_same : (env : Env) (ts : List Expr) (values : List Value) → Printable env ts values → texts_after_first (letters_of env ts) (map word_of values) ≡ mean.texts_after_first values
texts_same env [] [] h = refl
texts_same env [] (value ∷ values) h = absurd h
texts_same env (t ∷ ts) [] h = absurd h
texts_same env (t ∷ ts) (value ∷ values) h = ap₂ (λ first others. 32 ∷ (first ++ others)) (word_same (is_bool_expr env t) value h.0) (texts_same env ts values h.1)

line_same : (env : Env) (ts : List Expr) (values : List Value) → Printable env ts values → line_of (letters_of env ts) (map word_of values) ≡ mean.line_of values
line_same env [] [] h = refl
line_same env [] (value ∷ values) h = absurd h
line_same env (t ∷ ts) [] h = absurd h
line_same env (t ∷ ts) (value ∷ values) h = ap₂ (λ (first : List ℕ) others. first ++ others) (word_same (is_bool_expr env t) value h.0) (texts_same env ts values h.1)

letters_many : (env : Env) (ts : List Expr) (values : List Value) → Printable env ts values → length (map word_of values) ≡ length (letters_of env ts)
letters_many env [] [] h = refl
letters_many env [] (value ∷ values) h = absurd h
letters_many env (t ∷ ts) [] h = absurd h
letters_many env (t ∷ ts) (value ∷ values) h = ap suc (letters_many env ts values h.1)

given_fits : (words : ℕ) (given : Option ℕ) (a : Arg) → given ≡ Some words → ArgFits words a → ResultFits given (result_of a)
given_fits words given (arg.Know value) e fit = subst (λ g. ResultFits g (result_of (arg.Know value))) (sym e) fit
given_fits words given (arg.Trapped t) e fit = subst (λ g. ResultFits g (result_of (arg.Trapped t))) (sym e) tt
given_fits words given arg.Unknown e fit = subst (λ g. ResultFits g (result_of arg.Unknown)) (sym e) tt

module _ (K : Run) (may : May) (env : Env) (inner : Callees) (callees : CheckedCallees) (base : ℕ) (below : Below K.whole env.declarations callees base) (above : base ≤ K.low)
    (allowed : Allowed K may env.parts) (scoped : Scoped K env) (around : Surrounded K env.declarations env.marks)
    (plain : (f : Function) (arguments : List (List ℤ)) → Adds env.declarations K.whole.vowed (callees.plain f arguments))
    (regular : (m : Member) (arguments : List (List ℤ)) → Adds env.declarations K.whole.vowed (callees.regular m arguments))
    (writable : Writable K env.parts) (vs : List Arg) where
  abbrev c : Context
  c = context_of K inner env

  abbrev chk : Checking
  chk = record { marks = env.marks; callees = callees }

  abbrev text : List Instr
  text = text_at K.whole.setting.image K.here.code

  abbrev S : List Arg → Store → Type 0
  S vs s = Stands K K.here.keeping env vs s

  abbrev M : {A : Type 0} → (A → Store → Type 0) → Checked (Outcome A) → Type 0
  M Q o = Meets K env.declarations Q o

  -- ---- a call alone

  pub calls_follow : (t : Expr) (p q : ℕ) (s : Store) → From text p (followed_by (flow_code env t) instr.DropFlow p) q → Upto K K.here.keeping env vs q → FlowFits may env t → S vs s
      → M (Done K env q) (goes_on (checked_passes chk t c s) (λ _ s. Meant (Goes tt s))) → Reached K p [] [] vs s
  calls_follow t p q s from inside fits stands m =
      let parts = from_followed text (flow_code env t) instr.DropFlow p q from in
      flow_follows K may env inner callees base below above allowed scoped around plain regular vs t K.here.keeping p parts.middle [] [] s parts.first (upto_before K K.here.keeping env vs q parts.middle parts.within inside) fits stands
      (meets_on K env.declarations (Done K env q) (ItemAt K K.here.keeping env vs parts.middle [] [] (words_of_expr env t)) (checked_passes chk t c s) _
      (λ a. adds_none env.declarations K.whole.vowed (λ s. refl))
      (λ a s1 d stands1 fit. drops_flow K parts.middle [] [] vs s1 (record { value = a; words = words_of_expr env t }) parts.is (moved K K.here.keeping env vs [] [] s1 parts.next (d.1 vs stands1)))
      m)

  -- ---- printing

  each_follows : (ts : List Expr) (p q : ℕ) (ws : List ℤ) (s : Store) → From text p (all_joined (map (value_code env) ts) p) q → Upto K K.here.keeping env vs q → EachFits may env ts → S vs s
      → Comes K (λ values s1. S vs s1 → Printable env ts values → Reached K q (pushed (map word_of values) ws) [] vs s1) (checked_all (map (λ t. checked_value chk t c) ts) s) → Reached K p ws [] vs s
  each_follows [] p q ws s from inside fits stands h = moved K K.here.keeping env vs ws [] s from (h stands tt)
  each_follows (t ∷ ts) p q ws s from inside fits stands h =
      let parts = from_joined text (value_code env t) (all_joined (map (value_code env) ts)) p q from in
      expr_follows K may env inner callees base below above allowed scoped vs t K.here.keeping p parts.middle ws [] s parts.first (upto_before K K.here.keeping env vs q parts.middle parts.within inside) fits.0 stands
      (comes_on K (λ values s1. S vs s1 → Printable env (t ∷ ts) values → Reached K q (pushed (map word_of values) ws) [] vs s1)
      (ValueAt K K.here.keeping env vs parts.middle ws [] (words_of_expr env t) (is_bool_expr env t)) (checked_value chk t c s) _
      (λ v s1 d stands1 long bool.
      top K may env inner callees base below above allowed scoped vs v parts.middle ws [] s1 (long ∙ fits.1)
      (each_follows ts parts.middle q (word_of v ∷ ws) s1 parts.second inside fits.2 stands1
      (comes_on K (λ values s1. S vs s1 → Printable env (t ∷ ts) values → Reached K q (pushed (map word_of values) ws) [] vs s1)
      (λ values s2. S vs s2 → Printable env ts values → Reached K q (pushed (map word_of values) (word_of v ∷ ws)) [] vs s2) (checked_all (map (λ t. checked_value chk t c) ts) s1) _
      (λ values s2 d2 stands2 printable.
      subst (λ (words : List ℤ). Reached K q words [] vs s2) (sym (pushed_both (word_of v ∷ []) (map word_of values) ws)) (d2 stands2 (bool, printable)))
      d)))
      h)

  pub prints_follow : (ts : List Expr) (p q : ℕ) (s : Store) → From text p (followed_by (all_joined (map (value_code env) ts)) (instr.Print (letters_of env ts)) p) q → Upto K K.here.keeping env vs q
      → may.input ≡ true → EachFits may env ts → S vs s
      → M (Done K env q) (goes_on (checked_all (map (λ t. checked_value chk t c) ts) s) (λ values s. Meant (Goes tt (record s { lines = s.lines ++ mean.line_of values })))) → Reached K p [] [] vs s
  prints_follow ts p q s from inside main fits stands m =
      let parts = from_followed text (all_joined (map (value_code env) ts)) (instr.Print (letters_of env ts)) p q from in
      each_follows ts p parts.middle [] s parts.first (upto_before K K.here.keeping env vs q parts.middle parts.within inside) fits stands
      (meets_map K env.declarations (Done K env q) (λ values s1. S vs s1 → Printable env ts values → Reached K parts.middle (pushed (map word_of values) []) [] vs s1) (checked_all (map (λ t. checked_value chk t c) ts) s) _
      (λ values s1 d stands1 printable.
      prints K parts.middle [] [] vs s1 (letters_of env ts) (map word_of values) (allowed.input main) (letters_many env ts values printable) parts.is
      (subst (λ (line : List ℕ). Reached K (parts.middle + 1) [] [] vs (record s1 { lines = s1.lines ++ line })) (sym (line_same env ts values printable))
      (moved K K.here.keeping env vs [] [] (record s1 { lines = s1.lines ++ mean.line_of values }) parts.next
      (d.1 vs (record { agree = stands1.agree; sized = stands1.sized; keeps = stands1.keeps; long = stands1.long; low = stands1.low; within = stands1.within; result = stands1.result })))))
      m)

  -- ---- results

  pub gives_follow : (line : ℕ) (t : Expr) (p q : ℕ) (s : Store) → From text p (followed_by (flow_code env t) (instr.Reply line) p) q → Upto K K.here.keeping env vs q
      → FlowFits may env t → GivesWords may.gives (words_of_expr env t) → S vs s
      → M (Done K env q) (goes_on (checked_passes chk t c s) (λ a s. Meant (gives_result line a s))) → Reached K p [] [] vs s
  gives_follow line t p q s from inside fits words stands m =
      let parts = from_followed text (flow_code env t) (instr.Reply line) p q from in
      flow_follows K may env inner callees base below above allowed scoped around plain regular vs t K.here.keeping p parts.middle [] [] s parts.first (upto_before K K.here.keeping env vs q parts.middle parts.within inside) fits stands
      (meets_on K env.declarations (Done K env q) (ItemAt K K.here.keeping env vs parts.middle [] [] (words_of_expr env t)) (checked_passes chk t c s) _
      (λ a. adds_none env.declarations K.whole.vowed (λ s. give_same line a s.result s))
      (λ a s1 d stands1 fit. by_gives may.gives refl words parts.middle parts.is parts.next a s1 stands1 fit d)
      m) where
        give_same : (line : ℕ) (a : Arg) (r : BodyResult) (s : Store) → Rattle.mpl_gen_code.proofs.Adding.calls_of (give_result line a r s) ≡ s.calls
        give_same line a result.Open s = refl
        give_same line a (result.Known known) s = refl
        give_same line a result.Unknown s = refl

        by_gives : (o : Option ℕ) → may.gives ≡ o → GivesWords o (words_of_expr env t) → (n : ℕ) → Is K n (instr.Reply line) → n + 1 ≡ q → (a : Arg) (s1 : Store) → S vs s1 → ArgFits (words_of_expr env t) a
            → M (Done K env q) (Meant (give_result line a s1.result s1)) → Reached K n [] (record { value = a; words = words_of_expr env t } ∷ []) vs s1
        by_gives None e words n is there a s1 stands1 fit d = absurd words
        by_gives (Some count) e words n is there a s1 stands1 fit d = by_result s1.result refl d where
          gives : (Rattle.mdf_code.specs.Parts.given_words K.whole.setting.image K.here.code ≡ Some count) × (K.whole.given ≡ Some count)
          gives = allowed.gives count e

          again : was_given s1.result ≡ true → Rattle.mpl_gen_code.proofs.Reaching.Stopped K.whole (Rattle.mpl_value.specs.declared.body.BodyEnd.TheVariants.Trap (record { kind = Rattle.mpl_value.specs.declared.known.TrapKind.TheVariants.Twice; line = line })) s1
              → Reached K n [] (record { value = a; words = words_of_expr env t } ∷ []) vs s1
          again g = gives_twice K n [] [] vs s1 line (words_of_expr env t) count a gives.0 words g is

          by_result : (r : BodyResult) → s1.result ≡ r → M (Done K env q) (Meant (give_result line a r s1)) → Reached K n [] (record { value = a; words = words_of_expr env t } ∷ []) vs s1
          by_result result.Open r d =
              gives_first K n [] [] vs s1 line (words_of_expr env t) count a gives.0 words (ap was_given r) is
              (moved K K.here.keeping env vs [] [] (record s1 { result = result_of a }) there
              (d.1 vs (record {
                agree = stands1.agree;
                sized = stands1.sized;
                keeps = stands1.keeps;
                long = stands1.long;
                low = stands1.low;
                within = stands1.within;
                result = given_fits count K.whole.given a gives.1 (subst (λ k. ArgFits k a) words fit);
              })))
          by_result (result.Known known) r d = again (ap was_given r) (d.1 (of_stands K K.here.keeping env vs stands1 _))
          by_result result.Unknown r d = again (ap was_given r) (d.1 (of_stands K K.here.keeping env vs stands1 _))

  -- ---- returns

  kept : {s : Store} → S vs s → Kept K s
  kept stands = record { low = stands.low; within = stands.within; keeps = stands.keeps; result = stands.result }

  pub returns_follow : (finish : Finish) → K.here.finish ≡ finish → EndsAs K finish → (o : Option Expr) (p q : ℕ) (s : Store)
      → From text p (return_code env finish o p) q → Upto K K.here.keeping env vs q → ReturnsFit may env finish o → S vs s
      → M (Done K env q) (checked_returned chk o c s) → Reached K p [] [] vs s
  returns_follow (OfBody line) is ends None p q s from inside fits stands m =
      ends_body K p [] [] vs s line from.0 (subst (λ f. Returned K.whole f K.here.callers [] s) is (m.1 (kept stands)))
  returns_follow (OfFunction count line) is ends None p q s from inside fits stands m = absurd fits
  returns_follow (OfBody line) is ends (Some t) p q s from inside fits stands m =
      let parts = from_followed text (value_code env t) (instr.End line) p q from in
      expr_follows K may env inner callees base below above allowed scoped vs t K.here.keeping p parts.middle [] [] s parts.first (upto_before K K.here.keeping env vs q parts.middle parts.within inside) fits.0 stands
      (comes_on K (Done K env q) (ValueAt K K.here.keeping env vs parts.middle [] [] (words_of_expr env t) (is_bool_expr env t)) (checked_value chk t c s) _
      (λ v s1 d stands1 long bool.
      ends_body K parts.middle (pushed v.words []) [] vs s1 line parts.is (subst (λ f. Returned K.whole f K.here.callers v.words s1) is (d (kept stands1))))
      m.1)
  returns_follow (OfFunction count line) is ends (Some t) p q s from inside fits stands m =
      let parts = from_followed text (value_code env t) (instr.Return count) p q from in
      expr_follows K may env inner callees base below above allowed scoped vs t K.here.keeping p parts.middle [] [] s parts.first (upto_before K K.here.keeping env vs q parts.middle parts.within inside) fits.0 stands
      (comes_on K (Done K env q) (ValueAt K K.here.keeping env vs parts.middle [] [] (words_of_expr env t) (is_bool_expr env t)) (checked_value chk t c s) _
      (λ v s1 d stands1 long bool.
      let back : Returned K.whole (OfFunction count line) (ends.caller ∷ ends.callers) v.words s1 =
      subst (λ callers. Returned K.whole (OfFunction count line) callers v.words s1) ends.called (subst (λ f. Returned K.whole f K.here.callers v.words s1) is (d (kept stands1))) in
      goes_back K parts.middle [] [] vs s1 count ends.function v.words ends.caller ends.callers ends.stands ends.gives (long ∙ fits.1) ends.called parts.is (back (long ∙ fits.1)))
      m.1)
