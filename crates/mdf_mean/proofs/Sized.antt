-- The sizes of arguments, replies and results.
use Rattle.std.proofs.Common.{◌≡◌, ℕ, zero, suc, ◌+◌, true, List, [], ◌∷◌, length, Option, Some, None, refl, ◌∙◌, subst, arith, length-append}
use Rattle.std.specs.List.{AllZip, list_all}
use Rattle.std.specs.Prelude.{slice_get}
use Rattle.std.specs.Option.{option_map}
use Rattle.mpl_value.specs.declared.body.Arg.{Arg}
use Rattle.mpl_value.specs.declared.body.Arg.TheVariants.{Know, Trapped, Unknown}
use Rattle.mpl_value.specs.declared.body.BodyResult.{BodyResult}
use Rattle.mpl_value.specs.declared.body.BodyResult.TheVariants as result
use Rattle.mpl_value.specs.declared.body.CallMade.{CallMade}
use Rattle.mpl_value.specs.declared.body.MemberId.{MemberId}
use Rattle.mpl_value.specs.declared.known.Known.{Known}
use Rattle.mpl_value.specs.declared.known.Known.TheVariants as known
use Rattle.mpl_mean.specs.Laws.Sizes.{ArgFits, Every, ResultFits}
use Rattle.mpl_mean.specs.Laws.Numbers.{NumberedFrom}
use Rattle.mdf_mean.specs.Fits.{AnswerFits, all_words, words_given}
use Rattle.mdf_mean.specs.Meanings.{Meaning, MemberSizes}
use Rattle.mdf_mean.specs.Ran.{argument_words, is_known, known_result}

pub no_answer_fits : (sizes : Option MemberSizes) → AnswerFits None sizes
no_answer_fits None = tt
no_answer_fits (Some sizes) = tt

-- arguments that fit have the words of the formals together
pub arguments_length : (formals : List ℕ) (arguments : List Arg) → AllZip ArgFits formals arguments → list_all is_known arguments ≡ true → length (argument_words arguments) ≡ all_words formals
arguments_length [] [] f k = refl
arguments_length [] (a ∷ arguments) f k = absurd f
arguments_length (w ∷ formals) [] f k = absurd f
arguments_length (w ∷ formals) (Know words ∷ arguments) f k =
    let r = arguments_length formals arguments f.1 k in let e = f.0 in length-append words (argument_words arguments) ∙ omega (arith, r, e)
arguments_length (w ∷ formals) (Trapped t ∷ arguments) f k = absurd cc
arguments_length (w ∷ formals) (Unknown ∷ arguments) f k = absurd cc

-- a known result has the words that a reply with it has
pub result_answers : (m : Meaning) (id : MemberId) (given : BodyResult) (v : Known) → ResultFits (words_given m (Some id)) given → known_result given ≡ Some v → AnswerFits (Some v) (m.sizes id)
result_answers m id given v f e = by_sizes (m.sizes id) given v f e where
  same : {a b : Known} → ◌≡◌ {A = Option Known} (Some a) (Some b) → a ≡ b
  same e = cc

  by_known : (sizes : MemberSizes) (k v : Known) → ResultFits (Some sizes.result) (result.Known k) → k ≡ v → AnswerFits (Some v) (Some sizes)
  by_known sizes (known.Value words) v f e = subst (λ v. AnswerFits (Some v) (Some sizes)) e f
  by_known sizes (known.Trapped t) v f e = subst (λ v. AnswerFits (Some v) (Some sizes)) e tt

  by_sizes : (sizes : Option MemberSizes) (given : BodyResult) (v : Known) → ResultFits (option_map (λ (z : MemberSizes). z.result) sizes) given → known_result given ≡ Some v → AnswerFits (Some v) sizes
  by_sizes None given v f e = tt
  by_sizes (Some sizes) result.Open v f e = absurd cc
  by_sizes (Some sizes) (result.Known k) v f e = by_known sizes k v f (same e)
  by_sizes (Some sizes) result.Unknown v f e = absurd cc

-- what holds of each call by its number holds of all
pub each_call : (P : CallMade → Type 0) (p : ℕ) (calls : List CallMade) → NumberedFrom p calls → ((k : ℕ) (call : CallMade) → slice_get calls k ≡ Some call → call.call ≡ p + k → P call) → Every P calls
each_call P p [] n h = tt
each_call P p (c ∷ calls) n h =
    let e = n.0 in (h zero c refl (omega (arith, e)), each_call P (suc p) calls n.1 (λ k call f g. h (suc k) call f (omega (arith, g))))
