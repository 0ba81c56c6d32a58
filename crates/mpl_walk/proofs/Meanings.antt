-- What a run of a laid image comes to is what the body means.
use Rattle.std.proofs.Common.{◌≡◌, ◌+◌, ℕ, List, [], ◌∷◌, drop, map, option_map, take, None, Some, Option, Result, Ok, Err, refl, ap, sym, subst, ◌∙◌, ℤ, true}
use Rattle.std.specs.Prelude.{IfOk, slice_get}
use Rattle.std.proofs.lemmas.Bool.{eqb-true}
use Rattle.mpl_ast.specs.declared.class.Formal.{Formal}
use Rattle.mpl_ast.specs.declared.program.Declaration.{Declaration}
use Rattle.mpl_ast.specs.declared.program.Program.{Program}
use Rattle.mpl_value.specs.declared.body.Arg.{Arg}
use Rattle.mpl_value.specs.declared.body.BodyEnd.TheVariants as end
use Rattle.mpl_value.specs.declared.body.BodyResult.TheVariants as result
use Rattle.mpl_value.specs.declared.body.BodyStart.{BodyStart}
use Rattle.mpl_value.specs.declared.body.MemberId.{MemberId}
use Rattle.mpl_value.specs.declared.body.Yield.{Yield}
use Rattle.mpl_value.specs.declared.memory.NoMemory.{NoMemory}
use Rattle.mpl_mean.specs.Laws.Sizes.{MemberFits, StartFits, WordsFit, member_of_id, words_of_formal}
use Rattle.mpl_mean.specs.Meaning.BodyMeaning.{split_words, yield_of}
use Rattle.mpl_mean.specs.Meaning.Layout.{Class, Member, classes_of}
use Rattle.mpl_mean.specs.TypeRules.Rules.{is_typed}
use Rattle.mpl_body_code.proofs.Levels.{main_comes, member_comes}
use Rattle.mpl_body_code.specs.Images as images
use Rattle.mpl_body_code.specs.Images.{main_machine, starts}
use Rattle.mpl_body_code.specs.Machine.{Machine, Setting}
use Rattle.mpl_body_code.specs.declared.instruction.Finish.{Finish}
use Rattle.mpl_body_code.specs.declared.instruction.MemberCode.{MemberCode}
use Rattle.mpl_body_image.proofs.HavingCode.{has_code, main_is, numbered_is}
use Rattle.mpl_body_image.proofs.Standing.{id_so}
use Rattle.mpl_body_image.specs.Laid.{laid, main_entry, member_entry}
use Rattle.mpl_body_run.specs.Splitting.{split_by}
use Rattle.mpl_walk.proofs.OneYield.{one_yield}

-- what holds of the meaning holds of what means the same
pub of_meaning : (r : Result Yield NoMemory) (whole : Yield) (n : ℕ) → IfOk r (λ y. y ≡ whole) → (whole.end ≡ end.Spent → whole.turns ≡ n + 1) → IfOk r (λ y. y.end ≡ end.Spent → y.turns ≡ n + 1)
of_meaning (Ok y) whole n is h = λ spent. ap (λ (y : Yield). y.turns) is ∙ h (ap (λ (y : Yield). y.end) (sym is) ∙ spent)
of_meaning (Err e) whole n is h = is

pub main_means : (S : Setting) (p : Program) (start : BodyStart) (r : Result Yield NoMemory) (entry : ℕ) → S.image ≡ laid p.declarations → is_typed p ≡ true → start.member ≡ None → entry ≡ main_entry p.declarations
    → IfOk r (λ y. (steps : ℕ) × (starts steps S (main_machine start entry) ≡ Some y)) → IfOk r (λ y. y ≡ yield_of p start S.replies S.turns)
main_means S p start (Ok y) entry is typed none at h =
    one_yield S (main_machine start (main_entry p.declarations)) h.0 y (yield_of p start S.replies S.turns)
    (ap (λ entry. starts h.0 S (main_machine start entry)) (sym at) ∙ h.1)
    (main_comes S p start (main_entry p.declarations) none (has_code S p is typed) (main_is S p is typed))
main_means S p start (Err e) entry is typed none at h = h

split_same : (ds : List Declaration) (formals : List Formal) (words : List ℤ) → split_words ds formals words ≡ split_by (map (words_of_formal ds) formals) words
split_same ds [] words = refl
split_same ds (formal ∷ formals) words = ap (λ pieces. take (words_of_formal ds formal) words ∷ pieces) (split_same ds formals (drop (words_of_formal ds formal) words))

-- the start's member is one of the program
pub record Known (p : Program) (start : BodyStart) (id : MemberId) : Type 0 where
  pub class : Class
  pub member : Member
  pub found : member_of_id p.declarations id ≡ Some (class, member)
  pub numbered : member.id ≡ id.0

known_if : (p : Program) (start : BodyStart) (id : MemberId) (o : Option (Class × Member)) → member_of_id p.declarations id ≡ o → MemberFits p.declarations start o → Known p start id
known_if p start id None is fits = absurd fits
known_if p start id (Some found) is fits = record {
  class = found.0;
  member = found.1;
  found = is;
  numbered = eqb-true (found.1).id id.0 (id_so id.0 (classes_of p.declarations) found.0 found.1 is);
}

pub known_of : (p : Program) (start : BodyStart) (id : MemberId) → start.member ≡ Some id → StartFits p start → Known p start id
known_of p start id is fits =
    known_if p start id (member_of_id p.declarations id) refl (subst (WordsFit p.declarations start) is fits.words)

pub has_counts : (p : Program) (start : BodyStart) (id : MemberId) → Known p start id
    → None ≡ option_map (λ (found : Class × Member). map (words_of_formal p.declarations) found.1.formals) (member_of_id p.declarations id) → ⊥
has_counts p start id k none = not_none (none ∙ ap (option_map (λ (found : Class × Member). map (words_of_formal p.declarations) found.1.formals)) k.found) where
  not_none : {x : List ℕ} → ◌≡◌ {A = Option (List ℕ)} None (Some x) → ⊥
  not_none e = cc

pub has_member : (S : Setting) (p : Program) (start : BodyStart) (id : MemberId) → S.image ≡ laid p.declarations → is_typed p ≡ true → Known p start id → slice_get S.image.members id.0 ≡ None → ⊥
has_member S p start id is typed k none =
    let h = numbered_is S p is typed id k.class k.member k.found in
    not_none (sym none ∙ ap (slice_get S.image.members) (sym k.numbered) ∙ h.1) where
      not_none : {x : MemberCode} → ◌≡◌ {A = Option MemberCode} None (Some x) → ⊥
      not_none e = cc

some_same : {A : Type 0} {a b : A} → ◌≡◌ {A = Option A} (Some a) (Some b) → a ≡ b
some_same e = cc

pub member_means : (S : Setting) (p : Program) (start : BodyStart) (r : Result Yield NoMemory) (id : MemberId) (code : MemberCode) (counts : List ℕ) → S.image ≡ laid p.declarations → is_typed p ≡ true
    → start.member ≡ Some id → Known p start id
    → Some counts ≡ option_map (λ (found : Class × Member). map (words_of_formal p.declarations) found.1.formals) (member_of_id p.declarations id)
    → slice_get S.image.members id.0 ≡ Some code
    → IfOk r (λ y. (steps : ℕ) × (starts steps S (images.machine_of start code.finish code.entry (split_by counts start.args)) ≡ Some y)) → IfOk r (λ y. y ≡ yield_of p start S.replies S.turns)
member_means S p start (Ok y) id code counts is typed one k counted there h =
    let n = numbered_is S p is typed id k.class k.member k.found in
    let same : member_entry n.0 k.member ≡ code = some_same (sym n.1 ∙ ap (slice_get S.image.members) k.numbered ∙ there) in
    let sizes : counts ≡ map (words_of_formal p.declarations) k.member.formals =
    some_same (counted ∙ ap (option_map (λ (found : Class × Member). map (words_of_formal p.declarations) found.1.formals)) k.found) in
    let split : split_by counts start.args ≡ split_words p.declarations k.member.formals start.args = ap (λ counts. split_by counts start.args) sizes ∙ sym (split_same p.declarations k.member.formals start.args) in
    one_yield S (images.member_machine p.declarations start k.member (member_entry n.0 k.member)) h.0 y (yield_of p start S.replies S.turns)
    (ap (λ (code : MemberCode). starts h.0 S (images.machine_of start code.finish code.entry (split_words p.declarations k.member.formals start.args))) same
    ∙ ap (λ pieces. starts h.0 S (images.machine_of start code.finish code.entry pieces)) (sym split) ∙ h.1)
    (member_comes S p start id (k.class, k.member) (member_entry n.0 k.member) one k.found (has_code S p is typed) n.2)
member_means S p start (Err e) id code counts is typed one k counted there h = h

-- ---- what a body begins with

abbrev pub machine_with : BodyStart → ℤ → ℕ → Finish → List Arg → Machine
machine_with start object entry finish slots = record {
  frame = record { place = entry; stack = []; slots = slots; object = object; number = start.number };
  body = record { state = start.state; lines = []; input = start.input; calls = []; creations = []; result = result.Open; finish = finish; answered = true };
  callers = [];
  turns = 0;
}

pub comes_from : (S : Setting) (r : Result Yield NoMemory) (x z : Machine) → x ≡ z → IfOk r (λ y. (steps : ℕ) × (starts steps S x ≡ Some y)) → IfOk r (λ y. (steps : ℕ) × (starts steps S z ≡ Some y))
comes_from S r x z same h = subst (λ (x : Machine). IfOk r (λ y. (steps : ℕ) × (starts steps S x ≡ Some y))) same h
