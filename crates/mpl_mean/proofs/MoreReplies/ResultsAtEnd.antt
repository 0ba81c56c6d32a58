-- What has become of a result where a body ends: what stays before the end stays after it.
use Rattle.std.proofs.Common.{◌≡◌, ℕ, refl, ap, subst}
use Rattle.mpl_ast.specs.declared.class.ResultType.{ResultType}
use Rattle.mpl_ast.specs.declared.class.ResultType.TheVariants.{Void, Typed}
use Rattle.mpl_value.specs.declared.body.BodyEnd.{BodyEnd}
use Rattle.mpl_value.specs.declared.body.BodyEnd.TheVariants as end
use Rattle.mpl_value.specs.declared.body.BodyResult.{BodyResult}
use Rattle.mpl_value.specs.declared.body.BodyResult.TheVariants as result
use Rattle.mpl_value.specs.declared.known.Known.{Known}
use Rattle.mpl_value.specs.declared.known.Known.TheVariants as known
use Rattle.mpl_value.specs.CallAnswers.{arg_of_result}
use Rattle.mpl_mean.specs.Meaning.BodyMeaning.{member_end, result_at_end}
use Rattle.mpl_value.specs.Results.{result_at}
use Rattle.mpl_mean.specs.Meaning.Layout.{Member}
use Rattle.mpl_value.specs.Growing.{Stays, ResultStays}
use Rattle.mpl_mean.specs.Meaning.Store.{Outcome, Goes, Returns, Ends}
use Rattle.mpl_mean.proofs.MoreReplies.Later.{ResultBeside, ResultStays-itself}
use Rattle.mpl_mean.proofs.MoreReplies.Follows.{store_after}

-- what a caller gets of it
pub arg_stays : (r q : BodyResult) → ResultStays r q → Stays (arg_of_result r) (arg_of_result q)
arg_stays result.Open q h = tt
arg_stays (result.Known (known.Value words)) q h = ap arg_of_result h
arg_stays (result.Known (known.Trapped t)) q h = ap arg_of_result h
arg_stays result.Unknown q h = tt

pub ended_stays : (type : ResultType) (line : ℕ) (r q : BodyResult) → ResultBeside r q → ResultStays (result_at_end type line r) (result_at_end type line q)
ended_stays type line result.Open q h = subst (λ q. ResultStays (result_at_end type line result.Open) (result_at_end type line q)) h (ResultStays-itself _)
ended_stays type line (result.Known known) q h =
    subst (λ q. ResultStays (result_at_end type line (result.Known known)) (result_at_end type line q)) h refl
ended_stays (Void at) line result.Unknown q h = tt
ended_stays (Typed at type) line result.Unknown q h = tt

pub stopped_stays : (e : BodyEnd) (r q : BodyResult) → ResultBeside r q → ResultStays (result_at e r) (result_at e q)
stopped_stays e result.Open q h = subst (λ q. ResultStays (result_at e result.Open) (result_at e q)) h (ResultStays-itself _)
stopped_stays e (result.Known known) q h = subst (λ q. ResultStays (result_at e (result.Known known)) (result_at e q)) h refl
stopped_stays end.Done result.Unknown q h = tt
stopped_stays (end.Trap t) result.Unknown q h = tt
stopped_stays end.Waits result.Unknown q h = tt
stopped_stays end.Spent result.Unknown q h = tt

-- a known result is that of the whole body
known_at_end : (m : Member) (known : Known) (p : Outcome (Unit {0})) → result.Known known ≡ (store_after p).result → result.Known known ≡ (member_end m p).1
known_at_end m known (Goes value t) h = subst (λ r. result.Known known ≡ result_at_end m.result m.body.mark_line r) h refl
known_at_end m known (Returns words t) h = subst (λ r. result.Known known ≡ result_at_end m.result m.body.mark_line r) h refl
known_at_end m known (Ends e t) h = subst (λ r. result.Known known ≡ result_at e r) h refl

-- a body that waits with a result, and what it comes to where it doesn't have to wait
pub waited_stays : (m : Member) (r : BodyResult) (p : Outcome (Unit {0})) → ResultStays r (store_after p).result → ResultStays (result_at end.Waits r) (member_end m p).1
waited_stays m result.Open p h = tt
waited_stays m (result.Known known) p h = known_at_end m known p h
waited_stays m result.Unknown p h = tt
