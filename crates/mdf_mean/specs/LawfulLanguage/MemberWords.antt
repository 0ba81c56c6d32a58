-- The sizes of a program's members, and which class each has.
use Rattle.std.proofs.Common.{◌≡◌, ℕ, zero, suc, ◌+◌, true, false, List, [], ◌∷◌, length, map, Option, Some, None, pos, refl, sym, ap, ◌∙◌, subst, arith, nat_eq}
use Rattle.std.specs.List.{AllZip}
use Rattle.std.specs.Option.{option_map}
use Rattle.std.specs.Prelude.{cond, slice_get}
use Rattle.std.specs.FinMap.{find, from_entries, get, get-from_entries, nat_cmp-IsAntisymmetric}
use Rattle.std.specs.Ordering.{eq_by_cmp, is_eq, nat_cmp}
use Rattle.std.specs.Cmp.{eq_by_cmp_equiv, nat_cmp_total}
use Rattle.std.specs.declared.cmp.Ordering.{Ordering}
use Rattle.std.specs.declared.cmp.Ordering.TheVariants.{Less, Equal, Greater}
use Rattle.std.proofs.lemmas.Bool.{eqb-true, eqb-false}
use Rattle.std.proofs.lemmas.List.Sums.{sum_by-cons}
use Rattle.mpl_ast.specs.declared.class.Formal.{Formal}
use Rattle.mpl_ast.specs.declared.program.Declaration.{Declaration}
use Rattle.mpl_ast.specs.declared.program.Declaration.TheVariants as declaration
use Rattle.mpl_ast.specs.declared.program.Program.{Program}
use Rattle.mpl_value.specs.declared.body.Arg.{Arg}
use Rattle.mpl_value.specs.declared.body.BodyStart.{BodyStart}
use Rattle.mpl_value.specs.declared.body.CallMade.{CallMade}
use Rattle.mpl_value.specs.declared.body.MemberId.{MemberId}
use Rattle.mpl_value.specs.declared.body.Yield.{Yield}
use Rattle.mpl_value.specs.declared.known.Known.{Known}
use Rattle.mpl_value.specs.Growing as growing
use Rattle.mpl_mean.specs.Laws.Sizes as mean
use Rattle.mpl_mean.specs.Laws.Sizes.{ArgFits, Every, ReplyFits, ResultFits, member_of_id, words_of_formal, words_of_formals, words_of_object, words_of_result}
use Rattle.mpl_mean.specs.Meaning.BodyMeaning.{member_of_classes, member_or, yield_of}
use Rattle.mpl_mean.specs.Meaning.Layout.{Class, Member, classes_from, classes_of, member_numbered, members_from}
use Rattle.mpl_mean.proofs.Truth.{some_is}
use Rattle.mdf_mean.specs.Fits.{AnswerFits, AnswersFit, AreAmong, ArgumentsFit, MemberFits, Sized, StartFits, WordsFit, all_words, words_given}
use Rattle.mdf_mean.specs.Guards.{class_at}
use Rattle.mdf_mean.specs.Language.{language, sizes_of, words_in}
use Rattle.mdf_mean.specs.Meanings.{Answers, MemberSizes, answer_to}
use Rattle.mdf_mean.specs.LawfulLanguage.Facts.{by_bool, every_map}

-- ---- replies

key_same : (q x : ℕ) → eq_by_cmp nat_cmp q x ≡ nat_eq x q
key_same q x = by_bool (nat_eq x q)
    (λ t. subst (λ y. eq_by_cmp nat_cmp q y ≡ true) (sym (eqb-true x q t)) ((eq_by_cmp_equiv nat_cmp_total).refl q) ∙ sym t)
    (λ f. differs (nat_cmp q x) refl f ∙ sym f) where
      differs : (r : Ordering) → nat_cmp q x ≡ r → nat_eq x q ≡ false → is_eq r ≡ false
      differs Less e f = refl
      differs Equal e f = absurd (eqb-false x q f (sym (nat_cmp-IsAntisymmetric q x e)))
      differs Greater e f = refl

find_is : (answers : Answers) (k : ℕ) → find nat_cmp k answers ≡ answer_to k answers
find_is [] k = refl
find_is (a ∷ answers) k = ap (λ t. cond t (Some a.1) (find nat_cmp k answers)) (key_same k a.0) ∙ ap (cond (nat_eq a.0 k) (Some a.1)) (find_is answers k)

-- the table of the replies has what the list has
pub get_is : (answers : Answers) (k : ℕ) → get (from_entries {R = nat_cmp} answers) k ≡ answer_to k answers
get_is answers k = get-from_entries nat_cmp_total answers k ∙ find_is answers k

pub among_is : (answers more : Answers) → AreAmong answers more → growing.AreAmong (from_entries answers) (from_entries more)
among_is answers more h call known e = get_is more call ∙ h call known (sym (get_is answers call) ∙ e)

-- ---- classes and members

pub class_placed : (number id : ℕ) (ds : List Declaration) (n : ℕ) (class : Class) → slice_get (classes_from number id ds) n ≡ Some class → class.number ≡ number + n
class_placed number id [] n class e = absurd cc
class_placed number id (declaration.Struct at line name fields ∷ ds) n class e = class_placed number id ds n class e
class_placed number id (declaration.Class at line kind name items ∷ ds) zero class e = ap (λ (c : Class). c.number) (sym (some_is e)) ∙ omega arith
class_placed number id (declaration.Class at line kind name items ∷ ds) (suc n) class e =
    let r = class_placed (number + 1) (id + length (members_from id items)) ds n class e in omega (arith, r)
class_placed number id (declaration.Function at result name formals body ∷ ds) n class e = class_placed number id ds n class e

record Listed (classes : List Class) (class : Class) : Type 0 where
  place : ℕ
  is : slice_get classes place ≡ Some class

class_listed : (id : ℕ) (classes : List Class) (class : Class) (m : Member) → member_of_classes id classes ≡ Some (class, m) → Listed classes class
class_listed id [] class m e = absurd cc
class_listed id (c ∷ classes) class m e = by_member (class_listed id classes class m) (member_numbered id c.members) e where
  first_is : (a b : Class) (x y : Member) → ◌≡◌ {A = Option (Class × Member)} (Some (a, x)) (Some (b, y)) → a ≡ b
  first_is a b x y e = ap (λ (p : Class × Member). p.0) (some_is e)

  by_member : (member_of_classes id classes ≡ Some (class, m) → Listed classes class) → (found : Option Member) → member_or c found (member_of_classes id classes) ≡ Some (class, m) → Listed (c ∷ classes) class
  by_member r None e = let l = r e in record { place = suc l.place; is = l.is }
  by_member r (Some x) e = record { place = zero; is = ap Some (first_is c class x m e) }

pub found_class : (ds : List Declaration) (id : MemberId) (class : Class) (m : Member) → member_of_id ds id ≡ Some (class, m) → class_at ds (pos class.number) ≡ Some class
found_class ds id class m e =
    let l = class_listed id.0 (classes_of ds) class m e in
    let n = class_placed 0 0 ds l.place class l.is in
    subst (λ k. slice_get (classes_of ds) k ≡ Some class) (omega (arith, n)) l.is

-- ---- starts

formals_words : (ds : List Declaration) (formals : List Formal) → words_of_formals ds formals ≡ all_words (map (words_of_formal ds) formals)
formals_words ds [] = refl
formals_words ds (f ∷ formals) = sum_by-cons (words_of_formal ds) f formals ∙ ap (λ n. words_of_formal ds f + n) (formals_words ds formals)

pub starts_of_language : (p : Program) (start : BodyStart) → StartFits (language p) start → mean.StartFits p start
starts_of_language p start f = record { number = f.number; words = by_member start.member f.words } where
  by_found : (id : MemberId) (found : Option (Class × Member)) → member_of_id p.declarations id ≡ found → MemberFits (language p) start (option_map (sizes_of p.declarations) found) → mean.MemberFits p.declarations start found
  by_found id None e f = absurd f
  by_found id (Some found) e f =
      (f.0 ∙ sym (formals_words p.declarations found.1.formals), f.1 ∙ ap (words_in p.declarations) (found_class p.declarations id found.0 found.1 e))

  by_member : (member : Option MemberId) → WordsFit (language p) start member → mean.WordsFit p.declarations start member
  by_member None f = f
  by_member (Some id) f = by_found id (member_of_id p.declarations id) refl f

pub replies_of_language : (p : Program) (start : BodyStart) (answers : Answers) (n : ℕ) → AnswersFit (language p) start answers n → mean.RepliesFit p start (from_entries answers) n
replies_of_language p start answers n f =
    every_map (λ (call : CallMade). AnswerFits (answer_to call.call answers) (option_map (sizes_of p.declarations) (member_of_id p.declarations call.member))) (mean.CallReplyFits p.declarations (from_entries answers))
    (λ call h. subst (λ r. mean.FoundReplyFits p.declarations r (member_of_id p.declarations call.member)) (sym (get_is answers call.call)) (by_found (answer_to call.call answers) (member_of_id p.declarations call.member) h))
    (yield_of p start (from_entries answers) n).calls f where
      by_found : (reply : Option Known) (found : Option (Class × Member)) → AnswerFits reply (option_map (sizes_of p.declarations) found) → mean.FoundReplyFits p.declarations reply found
      by_found reply None h = tt
      by_found reply (Some found) h = h

-- ---- yields

zip_formals : (ds : List Declaration) (formals : List Formal) (arguments : List Arg) → mean.ArgumentsFit ds formals arguments → AllZip ArgFits (map (words_of_formal ds) formals) arguments
zip_formals ds [] [] h = tt
zip_formals ds [] (a ∷ arguments) h = absurd h
zip_formals ds (f ∷ formals) [] h = absurd h
zip_formals ds (f ∷ formals) (a ∷ arguments) h = (h.0, zip_formals ds formals arguments h.1)

pub sized_of_language : (p : Program) (start : BodyStart) (y : Yield) → mean.Sized p start y → Sized (language p) start y
sized_of_language p start y f = record {
  calls = every_map (mean.CallFits p.declarations) (λ (call : CallMade). ArgumentsFit call.args (option_map (sizes_of p.declarations) (member_of_id p.declarations call.member)))
      (λ call h. by_found call.args (member_of_id p.declarations call.member) h) y.calls f.calls;
  result = subst (λ words. ResultFits words y.result) (by_member start.member) f.result;
  state = f.state;
} where
  by_found : (arguments : List Arg) (found : Option (Class × Member)) → mean.FoundCallFits p.declarations arguments found → ArgumentsFit arguments (option_map (sizes_of p.declarations) found)
  by_found arguments None h = absurd h
  by_found arguments (Some found) h = zip_formals p.declarations found.1.formals arguments h

  by_given : (found : Option (Class × Member)) → option_map (λ (found : Class × Member). words_of_result p.declarations found.1.result) found ≡ option_map (λ (sizes : MemberSizes). sizes.result) (option_map (sizes_of p.declarations) found)
  by_given None = refl
  by_given (Some found) = refl

  by_member : (member : Option MemberId) → mean.words_given p.declarations member ≡ words_given (language p) member
  by_member None = refl
  by_member (Some id) = by_given (member_of_id p.declarations id)
