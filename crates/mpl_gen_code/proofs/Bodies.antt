-- The code of a body does what its statements mean, up to its end.
use Rattle.std.proofs.Common.{◌≡◌, ◌≤◌, ◌<◌, ℕ, suc, ◌+◌, true, List, [], ◌∷◌, ◌++◌, length, Option, Some, None, ℤ, append_assoc, refl, ap, sym, subst, arith}
use Rattle.std.proofs.lemmas.List.{length-append}
use Rattle.std.specs.FinMap.{empty, get, get-empty}
use Rattle.std.specs.List.{slice_get}
use Rattle.std.specs.Ordering.{nat_cmp}
use Rattle.mpl_ast.specs.declared.program.Declaration.{Declaration}
use Rattle.mpl_value.specs.declared.body.Arg.{Arg}
use Rattle.mpl_value.specs.declared.body.BodyEnd.TheVariants as end
use Rattle.mpl_value.specs.declared.body.CallMade.{CallMade}
use Rattle.mpl_value.specs.declared.known.Known.{Known}
use Rattle.mpl_value.specs.declared.known.TrapKind.TheVariants.{NoReply}
use Rattle.mpl_mean.specs.Laws.Sizes.{FoundReplyFits, ReplyFits, member_of_id, words_of_result}
use Rattle.mpl_mean.specs.Meaning.Context.{Callees}
use Rattle.mpl_mean.specs.Meaning.Layout.{Class, Function, Member}
use Rattle.mpl_mean.specs.Meaning.Store.{Store, Outcome}
use Rattle.mpl_mean.specs.Plain.Stmt.{Stmts}
use Rattle.mdf_code.specs.Parts.{is_place, sizes_at, text_at}
use Rattle.mdf_code.specs.declared.instr.Instr.{Instr}
use Rattle.mpl_checked.specs.Checked.CheckedStatements.{checked_each}
use Rattle.mpl_checked.specs.Checked.CheckedSteps.{Checked, Meant, Astray, CheckedCallees, checked_in_turn}
use Rattle.mpl_gen_code.specs.Fits.{May, StmtsFit}
use Rattle.mpl_gen_code.specs.Scopes.{Env, Finish, OfBody, OfFunction}
use Rattle.mpl_gen_code.specs.StatementCode.{behind_all, body_code, end_instr, stmts_code}
use Rattle.mpl_gen_code.proofs.Adding.{Adds, Promised, Within, calls_of}
use Rattle.mpl_gen_code.proofs.Assignments.{Done, Writable}
use Rattle.mpl_gen_code.proofs.Below.{Below}
use Rattle.mpl_gen_code.proofs.Effects.{ends_body, fails}
use Rattle.mpl_gen_code.proofs.Flows.{Surrounded}
use Rattle.mpl_gen_code.proofs.Fronts.{front_itself}
use Rattle.mpl_gen_code.proofs.Instructions.{At as Reached}
use Rattle.mpl_gen_code.proofs.Leaves.{EndsAs}
use Rattle.mpl_gen_code.proofs.Reaching.{Comes, From, Here, IsDone, Kept, Run, Stopped, Whole, comes_map, from_parts, run_of}
use Rattle.mpl_gen_code.proofs.Scoped.{Allowed, IsFrontOf, Stands, WellScoped, context_of}
use Rattle.mpl_gen_code.proofs.Statements.{stmts_follow}

-- ---- replies that aren't there are promised

empty_fits : (words : ℕ) (call : ℕ) → ReplyFits words (get {X = Known} (empty {R = nat_cmp}) call)
empty_fits words call = subst (ReplyFits words) (sym (get-empty nat_cmp call)) tt

found_fits : (ds : List Declaration) (call : ℕ) (found : Option (Class × Member)) → FoundReplyFits ds (get {X = Known} (empty {R = nat_cmp}) call) found
found_fits ds call None = tt
found_fits ds call (Some found) = empty_fits (words_of_result ds found.1.result) call

none_promised : (ds : List Declaration) (calls : List CallMade) → Promised ds empty calls
none_promised ds [] = tt
none_promised ds (call ∷ calls) = (found_fits ds call.call (member_of_id ds call.member), none_promised ds calls)

pub within_none : {A : Type 0} (K : Run) (ds : List Declaration) (Q : A → Store → Type 0) (o : Checked (Outcome A)) → Comes K Q o → Within ds empty o
within_none K ds Q (Meant o) c = none_promised ds (calls_of o)
within_none K ds Q Astray c = c

-- ---- the place of a code

from_all : (front code : List Instr) → From (front ++ code) (length front) code (length front + length code)
from_all front [] = let e : length front ≡ length front + 0 = omega arith in e
from_all front (i ∷ code) =
    let rest = from_all (front ++ i ∷ []) code in
    let next : length (front ++ i ∷ []) ≡ length front + 1 = length-append front (i ∷ []) in
    let ends : length (front ++ i ∷ []) + length code ≡ length front + suc (length code) = omega (arith, next) in (
      got front code i,
      subst (λ n. From (front ++ i ∷ code) (length front + 1) code n) ends
          (subst (λ n. From (front ++ i ∷ code) n code (length (front ++ i ∷ []) + length code)) next
          (subst (λ (all : List Instr). From all (length (front ++ i ∷ [])) code (length (front ++ i ∷ []) + length code)) (append_assoc front (i ∷ []) code) rest)),
    ) where
      got : (front code : List Instr) (i : Instr) → slice_get (front ++ i ∷ code) (length front) ≡ Some i
      got [] code i = refl
      got (j ∷ front) code i = got front code i

pub from_whole : (code : List Instr) → From code 0 code (length code)
from_whole code = subst (λ n. From code 0 code n) (let e : 0 + length code ≡ length code = omega arith in e) (from_all [] code)

-- ---- bodies

-- the code of these statements
pub record IsBody (W : Whole) (here : Here) (outer : Env) (stmts : Stmts) : Type 0 where
  pub text : text_at W.setting.image here.code ≡ body_code outer stmts 0
  pub sizes : sizes_at W.setting.image here.code ≡ (behind_all stmts outer).sizes
  pub places : (n : ℕ) → n < length (text_at W.setting.image here.code) → is_place W.setting.image here.code n ≡ true

-- what is asked for at the end of the statements
abbrev pub Finished : Run → Finish → Store → Type 0
Finished K (OfBody line) s = Kept K s → IsDone K.whole line s
Finished K (OfFunction count line) s = Kept K s → Stopped K.whole (end.Trap (record { kind = NoReply; line = line })) s

pub body_follows : (W : Whole) (here : Here) (may : May) (outer : Env) (inner : Callees) (callees : CheckedCallees) (base : ℕ) → Below W outer.declarations callees base
    → ((low : ℕ) → Allowed (run_of W low here) may outer.parts) → ((low : ℕ) → Surrounded (run_of W low here) outer.declarations outer.marks)
    → ((f : Function) (arguments : List (List ℤ)) → Adds outer.declarations W.vowed (callees.plain f arguments))
    → ((m : Member) (arguments : List (List ℤ)) → Adds outer.declarations W.vowed (callees.regular m arguments))
    → ((low : ℕ) → Writable (run_of W low here) outer.parts) → here.finish ≡ outer.finish → ((low : ℕ) → EndsAs (run_of W low here) outer.finish)
    → (stmts : Stmts) → IsBody W here outer stmts → StmtsFit may outer stmts → WellScoped outer.declarations outer.sizes outer.scope
    → (low : ℕ) → base ≤ low → (vs : List Arg) (s : Store) → Stands (run_of W low here) here.keeping outer vs s
    → Within outer.declarations W.vowed (checked_in_turn (checked_each (record { marks = outer.marks; callees = callees }) stmts (context_of (run_of W 0 here) inner outer)) s)
    → Comes (run_of W low here) (λ u t. Finished (run_of W low here) outer.finish t) (checked_in_turn (checked_each (record { marks = outer.marks; callees = callees }) stmts (context_of (run_of W 0 here) inner outer)) s)
    → Reached (run_of W low here) 0 [] [] vs s
body_follows W here may outer inner callees base below allowed around plain regular writable finishes ends stmts is fits well low above vs s stands w c =
    let code : From (text_at W.setting.image here.code) 0 (stmts_code outer stmts 0 ++ end_instr outer.finish ∷ []) (length (body_code outer stmts 0)) =
    subst (λ (text : List Instr). From text 0 (body_code outer stmts 0) (length (body_code outer stmts 0))) (sym is.text) (from_whole (body_code outer stmts 0)) in
    let parts = from_parts (text_at W.setting.image here.code) (stmts_code outer stmts 0) (end_instr outer.finish ∷ []) 0 (length (body_code outer stmts 0)) code in
    let last : parts.0 + 1 ≡ length (body_code outer stmts 0) = parts.2.1 in
    let long : length (text_at W.setting.image here.code) ≡ length (body_code outer stmts 0) = ap length is.text in
    stmts_follow W here may outer inner callees base below allowed around plain regular writable finishes ends stmts outer.scope outer.sizes low above 0 parts.0 vs s parts.1
    (λ n le. is.places n (omega (arith, last, long))) fits
    (record { well = well; fronts = subst (IsFrontOf (behind_all stmts outer).sizes) (sym is.sizes) (front_itself (behind_all stmts outer).sizes) }) stands
    (w, comes_map (run_of W low here) {P = λ u t. Finished (run_of W low here) outer.finish t} {Q = Done (run_of W low here) (behind_all stmts outer) parts.0} (outcome s) (λ u t d us there. at_end outer.finish (ends low) parts.0 parts.2.0 t us (record { low = there.low; within = there.within; keeps = there.keeps; result = there.result }) d) c) where
      outcome : Store → Checked (Outcome (Unit {0}))
      outcome = checked_in_turn (checked_each (record { marks = outer.marks; callees = callees }) stmts (context_of (run_of W 0 here) inner outer))

      at_end : (finish : Finish) → EndsAs (run_of W low here) finish → (n : ℕ) → slice_get (text_at W.setting.image here.code) n ≡ Some (end_instr finish) → (t : Store) (us : List Arg)
          → Kept (run_of W low here) t → Finished (run_of W low here) finish t → Reached (run_of W low here) n [] [] us t
      at_end (OfBody line) ends n stands_at t us kept d = ends_body (run_of W low here) n [] [] us t line stands_at (d kept)
      at_end (OfFunction count line) ends n stands_at t us kept d = fails (run_of W low here) n [] [] us t line ends.function ends.stands stands_at (d kept)
