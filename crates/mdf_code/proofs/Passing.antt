-- From every place of an image's code each way on comes to a test or an end.
use Rattle.std.proofs.Common.{◌≡◌, ◌≤◌, ◌<◌, ◌+◌, ℕ, zero, suc, Bool, true, ◌&&◌, List, [], ◌∷◌, length, get_or, take, nat_le, zero-add, Option, Some, None, refl, ap, ◌∙◌, subst, arith, inl, inr}
use Rattle.std.proofs.lemmas.Bool.{ltb-true, cases_lt}
use Rattle.std.proofs.lemmas.List.FromFn.{length-range_with_len, get_or-range_with_len}
use Rattle.std.specs.List.{list_all, range_with_len, slice_get}
use Rattle.std.specs.Option.{option_map}
use Rattle.mdf_code.specs.declared.instr.Instr.{Instr}
use Rattle.mdf_code.specs.declared.instr.Instr.TheVariants as instr
use Rattle.mdf_code.specs.declared.raw.RawCode.{RawCode}
use Rattle.mdf_code.specs.declared.raw.RawEntry.{RawEntry}
use Rattle.mdf_code.specs.declared.raw.RawFunction.{RawFunction}
use Rattle.mdf_code.specs.declared.raw.RawImage.{RawImage}
use Rattle.mdf_code.specs.declared.raw.RawMember.{RawMember}
use Rattle.mdf_code.specs.Frames.{Code, InMain, InFunction, InMember, InGuard}
use Rattle.mdf_code.specs.Images.{all_ways, guard_fits, is_class, is_code, is_entry, is_function, is_guard_from, is_image, is_member, letters_fit, loops_pass, most_formals, passes, result_fits, stands_in_guard, ways_on, words_fit}
use Rattle.mdf_code.specs.Parts.{guard_code, text_at, text_of}
use Rattle.mdf_code.specs.Stacks.{given}
use Rattle.mdf_code.proofs.MarkedPlaces.{all_at, both_true, passes_past}

-- each way on from each place
abbrev pub Passing : List Instr → Type 0
Passing code = (place : ℕ) → passes code (length code) place ≡ true

passing_loops : (code : List Instr) → loops_pass code ≡ true → Passing code
passing_loops code h place = elim (cases_lt place (length code)) [
  | inl within ↦
      let at : passes code (length code) (get_or (range_with_len 0 (length code)) place 0) ≡ true = all_at (passes code (length code)) (range_with_len 0 (length code)) place 0 h (omega (arith, within, length-range_with_len 0 (length code))) in
      subst (λ (p : ℕ). passes code (length code) p ≡ true) (get_or-range_with_len 0 (length code) place 0 within ∙ zero-add place) at
  | inr past ↦ passes_past code (length code) place past
]

passing_code : (body : RawCode) → is_code body ≡ true → Passing body.code
passing_code body h = passing_loops body.code (both_true (list_all letters_fit body.code) (loops_pass body.code) (both_true (list_all words_fit body.vars) (list_all letters_fit body.code && loops_pass body.code) h).1).1

-- ---- guards

-- the ways on from an instruction of a guard lead forward
leads_forward : (i : Instr) (place : ℕ) → stands_in_guard place i ≡ true → (p : ℕ → Bool) → ((q : ℕ) → place < q → p q ≡ true) → list_all p (ways_on i place) ≡ true
leads_forward (instr.Jump target) place h p each = let e = each target (ltb-true place target h) in cc e
leads_forward (instr.JumpZero target) place h p each = let e = each target (ltb-true place target h) in let f = each (place + 1) (omega arith) in cc (e, f)
leads_forward instr.Test place h p each = refl
leads_forward (instr.Return count) place h p each = refl
leads_forward (instr.End line) place h p each = refl
leads_forward (instr.Fail line) place h p each = refl
leads_forward other place h p each = let f = each (place + 1) (omega arith) in cc f

pub stands_at : (guard : List Instr) (first place : ℕ) (i : Instr) → is_guard_from first guard ≡ true → slice_get guard place ≡ Some i → stands_in_guard (first + place) i ≡ true
stands_at [] first place i h is = absurd (cc is)
stands_at (j ∷ guard) first zero i h is =
    let same : j ≡ i = cc is in
    let at : stands_in_guard first j ≡ true = (both_true (stands_in_guard first j) (is_guard_from (first + 1) guard) h).0 in
    let e : first ≡ first + 0 = omega arith in
    subst (λ (p : ℕ). stands_in_guard p i ≡ true) e (subst (λ (k : Instr). stands_in_guard first k ≡ true) same at)
stands_at (j ∷ guard) first (suc place) i h is =
    let e : first + 1 + place ≡ first + suc place = omega arith in
    subst (λ (p : ℕ). stands_in_guard p i ≡ true) e (stands_at guard (first + 1) place i (both_true (stands_in_guard first j) (is_guard_from (first + 1) guard) h).1 is)

passes_from : (guard : List Instr) → is_guard_from 0 guard ≡ true → (k place : ℕ) → ((q : ℕ) → place < q → passes guard k q ≡ true) → (o : Option Instr) → slice_get guard place ≡ o → passes guard (suc k) place ≡ true
passes_from guard h k place each None is = ap (λ (o : Option Instr). all_ways (passes guard k) o place) is
passes_from guard h k place each (Some i) is =
    let e : 0 + place ≡ place = omega arith in
    ap (λ (o : Option Instr). all_ways (passes guard k) o place) is
    ∙ leads_forward i place (subst (λ (p : ℕ). stands_in_guard p i ≡ true) e (stands_at guard 0 place i h is)) (passes guard k) each

guard_passes : (guard : List Instr) → is_guard_from 0 guard ≡ true → (k place : ℕ) → length guard ≤ place + k → passes guard k place ≡ true
guard_passes guard h zero place past = passes_past guard 0 place (omega (arith, past))
guard_passes guard h (suc k) place past = passes_from guard h k place (λ q after. guard_passes guard h k q (omega (arith, past, after))) (slice_get guard place) refl

-- ---- the parts of an image

nothing_passes : Passing []
nothing_passes place = passes_past [] 0 place (omega arith)

pub found : {A : Type 0} (p : A → Bool) (xs : List A) (i : ℕ) (x : A) → list_all p xs ≡ true → slice_get xs i ≡ Some x → p x ≡ true
found p [] i x h is = absurd (cc is)
found p (y ∷ xs) zero x h is = let same : y ≡ x = cc is in subst (λ y. p y ≡ true) same (both_true (p y) (list_all p xs) h).0
found p (y ∷ xs) (suc i) x h is = found p xs i x (both_true (p y) (list_all p xs) h).1 is

pub record IsImage (image : RawImage) : Type 0 where
  pub functions : list_all is_function image.functions ≡ true
  pub members : list_all is_member image.members ≡ true
  pub entries : list_all is_entry image.entries ≡ true
  pub main : is_code image.main ≡ true

pub parts : (image : RawImage) → is_image image ≡ true → IsImage image
parts image h =
    let a = both_true (list_all is_function image.functions) (list_all is_class image.classes && (list_all is_member image.members && (list_all is_entry image.entries && is_code image.main))) h in
    let b = both_true (list_all is_class image.classes) (list_all is_member image.members && (list_all is_entry image.entries && is_code image.main)) a.1 in
    let c = both_true (list_all is_member image.members) (list_all is_entry image.entries && is_code image.main) b.1 in
    let d = both_true (list_all is_entry image.entries) (is_code image.main) c.1 in
    record { functions = a.0; members = c.0; entries = d.0; main = d.1 }

function_passes : (f : RawFunction) → is_function f ≡ true → Passing f.body.code
function_passes f h = passing_code f.body (both_true (nat_le f.formals (length f.body.vars)) (is_code f.body) h).1

member_passes : (m : RawMember) → is_member m ≡ true → Passing m.body.code
member_passes m h =
    let a = both_true (nat_le m.formals (length m.body.vars)) (nat_le m.formals most_formals && (result_fits m.result && is_code m.body)) h in
    let b = both_true (nat_le m.formals most_formals) (result_fits m.result && is_code m.body) a.1 in
    passing_code m.body (both_true (result_fits m.result) (is_code m.body) b.1).1

entry_passes : (image : RawImage) (e : RawEntry) (o : Option (List Instr)) → guard_fits o ≡ true → Passing (text_of (given o (guard_code image e)))
entry_passes image e None h = nothing_passes
entry_passes image e (Some guard) h = by_member (slice_get image.members e.member.0) where
  by_member : (o : Option RawMember) → Passing (text_of (given o (λ m. Some (record { vars = take m.formals m.body.vars; code = guard }))))
  by_member None = nothing_passes
  by_member (Some m) = λ place. guard_passes guard h (length guard) place (omega arith)

pub all_passing : (image : RawImage) → is_image image ≡ true → (code : Code) → Passing (text_at image code)
all_passing image h InMain = passing_code image.main (parts image h).main
all_passing image h (InFunction n) = by_function (slice_get image.functions n) refl where
  by_function : (o : Option RawFunction) → slice_get image.functions n ≡ o → Passing (text_of (option_map (λ (f : RawFunction). f.body) o))
  by_function None is = nothing_passes
  by_function (Some f) is = function_passes f (found is_function image.functions n f (parts image h).functions is)
all_passing image h (InMember n) = by_member (slice_get image.members n) refl where
  by_member : (o : Option RawMember) → slice_get image.members n ≡ o → Passing (text_of (option_map (λ (m : RawMember). m.body) o))
  by_member None is = nothing_passes
  by_member (Some m) is = member_passes m (found is_member image.members n m (parts image h).members is)
all_passing image h (InGuard n) = by_entry (slice_get image.entries n) refl where
  by_entry : (o : Option RawEntry) → slice_get image.entries n ≡ o → Passing (text_of (given o (λ e. given e.guard (guard_code image e))))
  by_entry None is = nothing_passes
  by_entry (Some e) is = entry_passes image e e.guard (found is_entry image.entries n e (parts image h).entries is)
