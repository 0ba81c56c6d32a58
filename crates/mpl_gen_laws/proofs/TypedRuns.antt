-- The code of `main` does what the program does.
use Rattle.std.proofs.Common.{◌≡◌, ℕ, Bool, true, List, [], ◌∷◌, Option, Some, None, ℤ, refl, sym, subst, arith}
use Rattle.std.specs.FinMap.{FinMap, empty, get, get-empty}
use Rattle.std.specs.Ordering.{nat_cmp}
use Rattle.mpl_ast.specs.declared.program.Declaration.{Declaration}
use Rattle.mpl_ast.specs.declared.program.Program.{Program}
use Rattle.mpl_value.specs.declared.body.CallMade.{CallMade}
use Rattle.mpl_value.specs.declared.known.Known.{Known}
use Rattle.mpl_mean.specs.Laws.Sizes.{CallReplyFits, Every, FoundReplyFits, member_of_id}
use Rattle.mpl_mean.specs.Meaning.DirectRun.{direct_run, main_start}
use Rattle.mpl_mean.specs.Meaning.Layout.{Class, Member}
use Rattle.mpl_mean.specs.Pending.MayBePending.{MayBePending}
use Rattle.mpl_mean.specs.TypeRules.Rules.{is_typed}
use Rattle.mpl_checked.proofs.AgreeBodies.{yields_so}
use Rattle.mpl_checked.proofs.Fitting.{bodies_fit}
use Rattle.mdf_code.specs.Yields.{YieldsUnstrayed}
use Rattle.mpl_gen_code.specs.ProgramImage.{image_of}
use Rattle.mpl_gen_code.proofs.Programs.{program_yields}
use Rattle.mpl_gen_code.proofs.TypedPrograms.{typed_fits}

abbrev none_yet : FinMap nat_cmp Known
none_yet = empty

-- where there is no reply, all of them fit
no_reply : (ds : List Declaration) (call : CallMade) → CallReplyFits ds none_yet call
no_reply ds call = subst (λ reply. FoundReplyFits ds reply (member_of_id ds call.member)) (sym unanswered) (found (member_of_id ds call.member)) where
  unanswered : get none_yet call.call ≡ None
  unanswered = get-empty nat_cmp call.call

  found : (o : Option (Class × Member)) → FoundReplyFits ds None o
  found None = tt
  found (Some o) = tt

no_replies : (ds : List Declaration) (calls : List CallMade) → Every (CallReplyFits ds none_yet) calls
no_replies ds [] = tt
no_replies ds (call ∷ calls) = (no_reply ds call, no_replies ds calls)

pub main_yields : (p : Program) (marks : ℕ → Bool) → is_typed p ≡ true → ((node : ℕ) → MayBePending p node → marks node ≡ true) → (input : List ℤ) (turns : ℕ)
    → YieldsUnstrayed (image_of p marks) (main_start input) empty turns (direct_run p input turns)
main_yields p marks typed marked input turns =
    program_yields p marks (typed_fits p marks typed) (main_start input) none_yet turns (direct_run p input turns) (no_replies p.declarations (direct_run p input turns).calls)
    (record { number = omega arith; words = (refl, refl) }) (yields_so p (bodies_fit p typed) marks marked (main_start input) none_yet turns)
