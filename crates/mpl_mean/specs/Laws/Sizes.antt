-- How many words what a body makes has, and what is asked of its start and of the replies for that.
use Rattle.std.specs.Prelude.{◌≡◌, ◌<◌, ◌^◌, ℕ, List, [], ◌∷◌, length, Option, Some, None, sum_by}
use Rattle.std.specs.FinMap.{FinMap, get}
use Rattle.std.specs.List.{AllZip}
use Rattle.std.specs.Option.{option_map}
use Rattle.std.specs.Ordering.{nat_cmp}
use Rattle.mpl_ast.specs.declared.class.Formal.{Formal}
use Rattle.mpl_ast.specs.declared.class.ResultType.{ResultType}
use Rattle.mpl_ast.specs.declared.class.ResultType.TheVariants.{Void, Typed}
use Rattle.mpl_ast.specs.declared.program.Declaration.{Declaration}
use Rattle.mpl_ast.specs.declared.program.Program.{Program}
use Rattle.mpl_value.specs.declared.body.Arg.{Arg}
use Rattle.mpl_value.specs.declared.body.Arg.TheVariants.{Know, Trapped, Unknown}
use Rattle.mpl_value.specs.declared.body.BodyResult.{BodyResult}
use Rattle.mpl_value.specs.declared.body.BodyResult.TheVariants as result
use Rattle.mpl_value.specs.declared.body.BodyStart.{BodyStart}
use Rattle.mpl_value.specs.declared.body.CallMade.{CallMade}
use Rattle.mpl_value.specs.declared.body.MemberId.{MemberId}
use Rattle.mpl_value.specs.declared.body.Yield.{Yield}
use Rattle.mpl_value.specs.declared.known.Known.{Known}
use Rattle.mpl_value.specs.declared.known.Known.TheVariants as known
use Rattle.mpl_mean.specs.Meaning.BodyMeaning.{member_of_classes, yield_of}
use Rattle.mpl_mean.specs.Meaning.Layout.{Class, Member, classes_of, parts_of, words_of, words_of_parts}

-- it holds of each item
abbrev pub Every : {A : Type 0} → (A → Type 0) → List A → Type 0
Every P [] = Unit {0}
Every P (x ∷ xs) = P x × Every P xs

-- ---- words that declarations ask for

abbrev pub words_of_formal : List Declaration → Formal → ℕ
words_of_formal ds formal = words_of ds formal.type_name None

abbrev pub words_of_formals : List Declaration → List Formal → ℕ
words_of_formals ds = sum_by (words_of_formal ds)

-- a void member gives none
abbrev pub words_of_result : List Declaration → ResultType → ℕ
words_of_result ds (Void at) = 0
words_of_result ds (Typed at type) = words_of ds type None

-- the state of an object
abbrev pub words_of_object : List Declaration → Class → ℕ
words_of_object ds class = words_of_parts (parts_of ds class.state)

-- the member of this number, and its class
abbrev pub member_of_id : List Declaration → MemberId → Option (Class × Member)
member_of_id ds id = member_of_classes id.0 (classes_of ds)

-- ---- starts

-- as many words as the formals of the member and the state of its object have; `main` has neither
abbrev pub MemberFits : List Declaration → BodyStart → Option (Class × Member) → Type 0
MemberFits ds start None = ⊥
MemberFits ds start (Some found) =
    (length start.args ≡ words_of_formals ds found.1.formals) × (length start.state ≡ words_of_object ds found.0)

abbrev pub WordsFit : List Declaration → BodyStart → Option MemberId → Type 0
WordsFit ds start None = (length start.args ≡ 0) × (length start.state ≡ 0)
WordsFit ds start (Some id) = MemberFits ds start (member_of_id ds id)

pub record StartFits (p : Program) (start : BodyStart) : Type 0 where
  pub number : start.number < 2 ^ 31
  pub words : WordsFit p.declarations start start.member

-- ---- replies

-- a reply that is a value has so many words
abbrev pub ReplyFits : ℕ → Option Known → Type 0
ReplyFits words (Some (known.Value value)) = length value ≡ words
ReplyFits words other = Unit {0}

abbrev pub FoundReplyFits : List Declaration → Option Known → Option (Class × Member) → Type 0
FoundReplyFits ds reply None = Unit {0}
FoundReplyFits ds reply (Some found) = ReplyFits (words_of_result ds found.1.result) reply

-- the reply to a call, if there is one
abbrev pub CallReplyFits : List Declaration → FinMap nat_cmp Known → CallMade → Type 0
CallReplyFits ds replies call = FoundReplyFits ds (get replies call.call) (member_of_id ds call.member)

-- The value that answers a call of the body has as many words as its member's result.
abbrev pub RepliesFit : Program → BodyStart → FinMap nat_cmp Known → ℕ → Type 0
RepliesFit p start replies turns = Every (CallReplyFits p.declarations replies) (yield_of p start replies turns).calls

-- ---- yields

-- an argument that is known has so many words
abbrev pub ArgFits : ℕ → Arg → Type 0
ArgFits words (Know value) = length value ≡ words
ArgFits words (Trapped t) = Unit {0}
ArgFits words Unknown = Unit {0}

-- as many arguments as formals, each with its formal's words where it is known
abbrev pub ArgumentsFit : List Declaration → List Formal → List Arg → Type 0
ArgumentsFit ds = AllZip (λ formal. ArgFits (words_of_formal ds formal))

abbrev pub FoundCallFits : List Declaration → List Arg → Option (Class × Member) → Type 0
FoundCallFits ds arguments None = ⊥
FoundCallFits ds arguments (Some found) = ArgumentsFit ds found.1.formals arguments

-- a call of a member of the program, with the arguments that its formals ask for
abbrev pub CallFits : List Declaration → CallMade → Type 0
CallFits ds call = FoundCallFits ds call.args (member_of_id ds call.member)

-- a result that is a known value has so many words; where there is no number it is no known value
abbrev pub ResultFits : Option ℕ → BodyResult → Type 0
ResultFits (Some words) (result.Known (known.Value value)) = length value ≡ words
ResultFits None (result.Known (known.Value value)) = ⊥
ResultFits words other = Unit {0}

-- the words of the result of a start's member; `main` has no result
abbrev pub words_given : List Declaration → Option MemberId → Option ℕ
words_given ds None = None
words_given ds (Some id) = option_map (λ (found : Class × Member). words_of_result ds found.1.result) (member_of_id ds id)

-- Arguments, result and state have the sizes of their declarations.
pub record Sized (p : Program) (start : BodyStart) (yield : Yield) : Type 0 where
  pub calls : Every (CallFits p.declarations) yield.calls
  pub result : ResultFits (words_given p.declarations start.member) yield.result
  pub state : length yield.state ≡ length start.state
