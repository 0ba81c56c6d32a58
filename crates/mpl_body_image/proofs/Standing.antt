-- Code stands where it was laid.
use Rattle.std.proofs.Common.{◌≡◌, ℕ, zero, suc, ◌+◌, Bool, true, false, List, [], ◌∷◌, ◌++◌, length, Option, Some, None, if◌then◌else◌, ◌⊎◌, inl, inr, append_assoc, arith, refl, ap, sym, subst, ◌∙◌}
use Rattle.std.proofs.lemmas.List.{length-append}
use Rattle.std.specs.Prelude.{nat_eq, slice_get}
use Rattle.std.specs.Str.{bytes_eq}
use Rattle.mpl_ast.specs.declared.class.Item.{Item}
use Rattle.mpl_ast.specs.declared.class.Item.TheVariants as item
use Rattle.mpl_ast.specs.declared.program.Declaration.{Declaration}
use Rattle.mpl_ast.specs.declared.program.Declaration.TheVariants as declaration
use Rattle.mpl_mean.proofs.Truth.{some_is}
use Rattle.mpl_mean.specs.Meaning.BodyMeaning.{member_of_classes, member_or}
use Rattle.mpl_mean.specs.Meaning.Layout.{Class, Function, Member, class_named, classes_from, formals_of, function_named, is_regular, member_named, member_numbered, members_from, state_of}
use Rattle.mpl_body_code.specs.Codes.{Code, From, number_of_function}
use Rattle.mpl_body_code.specs.declared.instruction.FunctionCode.{FunctionCode}
use Rattle.mpl_body_code.specs.declared.instruction.MemberCode.{MemberCode}
use Rattle.mpl_body_image.specs.Laid.{class_entries, classes_code, function_code, function_entries, function_entry, functions_code, member_code, member_entries, member_entry, members_code}

-- ---- lists

pub get_front : {A : Type 0} (xs ys : List A) (x : A) → slice_get (xs ++ x ∷ ys) (length xs) ≡ Some x
get_front [] ys x = refl
get_front (y ∷ xs) ys x = get_front xs ys x

pub get_left : {A : Type 0} (xs ys : List A) (n : ℕ) (x : A) → slice_get xs n ≡ Some x → slice_get (xs ++ ys) n ≡ Some x
get_left [] ys n x h = absurd cc
get_left (y ∷ xs) ys zero x h = h
get_left (y ∷ xs) ys (suc n) x h = get_left xs ys n x h

pub get_right : {A : Type 0} (xs ys : List A) (n : ℕ) → slice_get (xs ++ ys) (length xs + n) ≡ slice_get ys n
get_right [] ys n = ap (slice_get ys) (let e : 0 + n ≡ n = omega arith in e)
get_right (x ∷ xs) ys n = ap (slice_get (x ∷ (xs ++ ys))) (let e : suc (length xs) + n ≡ suc (length xs + n) = omega arith in e) ∙ get_right xs ys n

-- ---- code

pub stands : (before is after : Code) → From (before ++ (is ++ after)) (length before) is (length before + length is)
stands before [] after = let e : length before ≡ length before + 0 = omega arith in e
stands before (i ∷ is) after = (
  get_front before (is ++ after) i,
  subst (λ (code : Code). From code (length before + 1) is (length before + suc (length is))) (append_assoc before (i ∷ []) (is ++ after))
      (subst (λ (n : ℕ). From ((before ++ i ∷ []) ++ (is ++ after)) n is (length before + suc (length is))) (length-append before (i ∷ []))
      (subst (λ (n : ℕ). From ((before ++ i ∷ []) ++ (is ++ after)) (length (before ++ i ∷ [])) is n)
      (let e = length-append before (i ∷ []) in let same : length (before ++ i ∷ []) + length is ≡ length before + suc (length is) = omega arith in same)
      (stands (before ++ i ∷ []) is after))),
)

-- some code, with what stands before and behind it in the whole
pub record Part (whole code : Code) (place : ℕ) : Type 0 where
  pub before : Code
  pub after : Code
  pub is : whole ≡ before ++ (code ++ after)
  pub at : place ≡ length before

pub part_stands : (whole code : Code) (place : ℕ) → Part whole code place → From whole place code (place + length code)
part_stands whole code place p =
    subst (λ (n : ℕ). From whole n code (n + length code)) (sym p.at)
    (subst (λ (all : Code). From all (length p.before) code (length p.before + length code)) (sym p.is) (stands p.before code p.after))

pub part_front : (whole one others : Code) (place : ℕ) → Part whole (one ++ others) place → Part whole one place
part_front whole one others place p = record { before = p.before; after = others ++ p.after; is = p.is ∙ ap (λ code. p.before ++ code) (append_assoc one others p.after); at = p.at }

pub part_rest : (whole one others : Code) (place : ℕ) → Part whole (one ++ others) place → Part whole others (place + length one)
part_rest whole one others place p = record {
  before = p.before ++ one;
  after = p.after;
  is = p.is ∙ ap (λ code. p.before ++ code) (append_assoc one others p.after) ∙ sym (append_assoc p.before one (others ++ p.after));
  at = ap (λ n. n + length one) p.at ∙ sym (length-append p.before one);
}

-- ---- functions

pub record FunctionPlaced (whole : Code) (ds : List Declaration) (entries : List FunctionCode) (start : ℕ) (number : Option ℕ) (f : Function) : Type 0 where
  pub further : ℕ
  pub numbered : number ≡ Some (start + further)
  pub place : ℕ
  pub entry : slice_get entries further ≡ Some (function_entry place f)
  pub code : Part whole (function_code ds f) place

-- the first function has the name, or it is among the others
function_case : (whole : Code) (ds : List Declaration) (place start : ℕ) (g f : Function) (entries : List FunctionCode) (others : Option Function) (number : Option ℕ) (b : Bool)
    → Part whole (function_code ds g) place → (if b then Some g else others) ≡ Some f
    → (others ≡ Some f → FunctionPlaced whole ds entries (suc start) number f)
    → FunctionPlaced whole ds (function_entry place g ∷ entries) start (if b then Some start else number) f
function_case whole ds place start g f entries others number true p found rest = record {
  further = 0;
  numbered = ap (λ n. Some n) (let same : start ≡ start + 0 = omega arith in same);
  place = place;
  entry = ap (λ f. Some (function_entry place f)) (some_is found);
  code = subst (λ (f : Function). Part whole (function_code ds f) place) (some_is found) p;
}
function_case whole ds place start g f entries others number false p found rest =
    let h = rest found in
    record {
      further = suc h.further;
      numbered = h.numbered ∙ ap (λ n. Some n) (let same : suc start + h.further ≡ start + suc h.further = omega arith in same);
      place = h.place;
      entry = h.entry;
      code = h.code;
    }

pub function_placed : (whole : Code) (ds : List Declaration) (place start : ℕ) (name : List ℕ) (list : List Declaration) (f : Function)
    → Part whole (functions_code ds list) place → function_named name list ≡ Some f
    → FunctionPlaced whole ds (function_entries ds place list) start (number_of_function start name list) f
function_placed whole ds place start name [] f p found = absurd cc
function_placed whole ds place start name (declaration.Struct at line struct fields ∷ others) f p found = function_placed whole ds place start name others f p found
function_placed whole ds place start name (declaration.Class at line kind class items ∷ others) f p found = function_placed whole ds place start name others f p found
function_placed whole ds place start name (declaration.Function at result function formals body ∷ others) f p found =
    let g : Function = record { result = result; formals = formals_of formals; body = body } in
    function_case whole ds place start g f (function_entries ds (place + length (function_code ds g)) others) (function_named name others)
    (number_of_function (suc start) name others) (bytes_eq function.text name) (part_front whole (function_code ds g) (functions_code ds others) place p) found
    (function_placed whole ds (place + length (function_code ds g)) (suc start) name others f (part_rest whole (function_code ds g) (functions_code ds others) place p))

-- ---- members

pub record MemberPlaced (whole : Code) (ds : List Declaration) (entries : List MemberCode) (start : ℕ) (class : Class) (m : Member) : Type 0 where
  pub further : ℕ
  pub numbered : m.id ≡ start + further
  pub place : ℕ
  pub entry : slice_get entries further ≡ Some (member_entry place m)
  pub code : Part whole (member_code ds class m) place

-- it is one of them
abbrev pub Among : {A : Type 0} → A → List A → Type 0
Among x [] = ⊥
Among x (y ∷ ys) = (x ≡ y) ⊎ Among x ys

abbrev pub AmongClasses : Class → Member → List Class → Type 0
AmongClasses class m [] = ⊥
AmongClasses class m (c ∷ classes) = ((class ≡ c) × Among m c.members) ⊎ AmongClasses class m classes

next_member : (whole : Code) (ds : List Declaration) (entries : List MemberCode) (e : MemberCode) (start : ℕ) (class : Class) (m : Member)
    → MemberPlaced whole ds entries (start + 1) class m → MemberPlaced whole ds (e ∷ entries) start class m
next_member whole ds entries e start class m h = record {
  further = suc h.further;
  numbered = h.numbered ∙ (let same : start + 1 + h.further ≡ start + suc h.further = omega arith in same);
  place = h.place;
  entry = h.entry;
  code = h.code;
}

member_placed : (whole : Code) (ds : List Declaration) (place start : ℕ) (class : Class) (items : List Item) (m : Member)
    → Part whole (members_code ds class (members_from start items)) place → Among m (members_from start items)
    → MemberPlaced whole ds (member_entries ds class place (members_from start items)) start class m
member_placed whole ds place start class [] m p h = absurd h
member_placed whole ds place start class (item.OfField at field ∷ items) m p h = member_placed whole ds place start class items m p h
member_placed whole ds place start class (item.Member at result name formals body ∷ items) m p (inl same) =
    let n : Member = record { id = start; name = name.text; result = result; formals = formals_of formals; body = body } in
    record {
      further = 0;
      numbered = ap (λ (m : Member). m.id) same ∙ (let e : start ≡ start + 0 = omega arith in e);
      place = place;
      entry = ap (λ m. Some (member_entry place m)) (sym same);
      code = subst (λ (m : Member). Part whole (member_code ds class m) place) (sym same)
          (part_front whole (member_code ds class n) (members_code ds class (members_from (start + 1) items)) place p);
    }
member_placed whole ds place start class (item.Member at result name formals body ∷ items) m p (inr h) =
    let n : Member = record { id = start; name = name.text; result = result; formals = formals_of formals; body = body } in
    next_member whole ds (member_entries ds class (place + length (member_code ds class n)) (members_from (start + 1) items)) (member_entry place n) start class m
    (member_placed whole ds (place + length (member_code ds class n)) (start + 1) class items m
    (part_rest whole (member_code ds class n) (members_code ds class (members_from (start + 1) items)) place p) h)
member_placed whole ds place start class (item.Select at line entries ∷ items) m p h = member_placed whole ds place start class items m p h
member_placed whole ds place start class (item.Public at ∷ items) m p h = member_placed whole ds place start class items m p h
member_placed whole ds place start class (item.Private at ∷ items) m p h = member_placed whole ds place start class items m p h
member_placed whole ds place start class (item.Empty at ∷ items) m p h = member_placed whole ds place start class items m p h

as_many_entries : (ds : List Declaration) (class : Class) (place : ℕ) (members : List Member) → length (member_entries ds class place members) ≡ length members
as_many_entries ds class place [] = refl
as_many_entries ds class place (m ∷ members) = ap (λ n. suc n) (as_many_entries ds class (place + length (member_code ds class m)) members)

pub class_placed : (whole : Code) (ds : List Declaration) (place number start : ℕ) (list : List Declaration) (class : Class) (m : Member)
    → Part whole (classes_code ds (classes_from number start list)) place → AmongClasses class m (classes_from number start list)
    → MemberPlaced whole ds (class_entries ds place (classes_from number start list)) start class m
class_placed whole ds place number start [] class m p h = absurd h
class_placed whole ds place number start (declaration.Struct at line name fields ∷ others) class m p h = class_placed whole ds place number start others class m p h
class_placed whole ds place number start (declaration.Function at result name formals body ∷ others) class m p h = class_placed whole ds place number start others class m p h
class_placed whole ds place number start (declaration.Class at line kind name items ∷ others) class m p (inl here) =
    let c : Class = record { number = number; name = name.text; is_regular = is_regular kind; state = state_of items; members = members_from start items } in
    let rest : List Class = classes_from (number + 1) (start + length (members_from start items)) others in
    let h = member_placed whole ds place start c items m (part_front whole (members_code ds c (members_from start items)) (classes_code ds rest) place p) here.1 in
    subst (λ class. MemberPlaced whole ds (class_entries ds place (c ∷ rest)) start class m) (sym here.0) (record {
      further = h.further;
      numbered = h.numbered;
      place = h.place;
      entry = get_left (member_entries ds c place (members_from start items)) (class_entries ds (place + length (members_code ds c (members_from start items))) rest) h.further (member_entry h.place m) h.entry;
      code = h.code;
    })
class_placed whole ds place number start (declaration.Class at line kind name items ∷ others) class m p (inr there) =
    let c : Class = record { number = number; name = name.text; is_regular = is_regular kind; state = state_of items; members = members_from start items } in
    let rest : List Class = classes_from (number + 1) (start + length (members_from start items)) others in
    let h = class_placed whole ds (place + length (members_code ds c (members_from start items))) (number + 1) (start + length (members_from start items)) others class m
    (part_rest whole (members_code ds c (members_from start items)) (classes_code ds rest) place p) there in
    let mine : List MemberCode = member_entries ds c place (members_from start items) in
    let theirs : List MemberCode = class_entries ds (place + length (members_code ds c (members_from start items))) rest in
    record {
      further = length mine + h.further;
      numbered = h.numbered ∙ (let e = as_many_entries ds c place (members_from start items) in let same : start + length (members_from start items) + h.further ≡ start + (length mine + h.further) = omega arith in same);
      place = h.place;
      entry = get_right mine theirs h.further ∙ h.entry;
      code = h.code;
    }

-- ---- what is found is one of them

if_member : (b : Bool) (x m : Member) (others : Option Member) (members : List Member) → (if b then Some x else others) ≡ Some m → (others ≡ Some m → Among m members) → (m ≡ x) ⊎ Among m members
if_member true x m others members found rest = inl (sym (some_is found))
if_member false x m others members found rest = inr (rest found)

pub named_among : (name : List ℕ) (members : List Member) (m : Member) → member_named name members ≡ Some m → Among m members
named_among name [] m found = absurd cc
named_among name (x ∷ members) m found = if_member (bytes_eq x.name name) x m (member_named name members) members found (named_among name members m)

pub numbered_among : (id : ℕ) (members : List Member) (m : Member) → member_numbered id members ≡ Some m → Among m members
numbered_among id [] m found = absurd cc
numbered_among id (x ∷ members) m found = if_member (nat_eq x.id id) x m (member_numbered id members) members found (numbered_among id members m)

if_class : (b : Bool) (c class : Class) (m : Member) (others : Option Class) (classes : List Class) → (if b then Some c else others) ≡ Some class → Among m class.members
    → (others ≡ Some class → AmongClasses class m classes) → ((class ≡ c) × Among m c.members) ⊎ AmongClasses class m classes
if_class true c class m others classes found h rest = inl (sym (some_is found), subst (λ (class : Class). Among m class.members) (sym (some_is found)) h)
if_class false c class m others classes found h rest = inr (rest found)

pub class_among : (name : List ℕ) (classes : List Class) (class : Class) (m : Member) → class_named name classes ≡ Some class → Among m class.members → AmongClasses class m classes
class_among name [] class m found h = absurd cc
class_among name (c ∷ classes) class m found h =
    if_class (bytes_eq c.name name) c class m (class_named name classes) classes found h (λ rest. class_among name classes class m rest h)

member_or_class : (id : ℕ) (c : Class) (found : Option Member) (others : Option (Class × Member)) (class : Class) (m : Member) (classes : List Class) → member_numbered id c.members ≡ found
    → member_or c found others ≡ Some (class, m) → (others ≡ Some (class, m) → AmongClasses class m classes) → ((class ≡ c) × Among m c.members) ⊎ AmongClasses class m classes
member_or_class id c None others class m classes is found rest = inr (rest found)
member_or_class id c (Some x) others class m classes is found rest =
    let same = some_is found in
    inl (sym (ap (λ (p : Class × Member). p.0) same), subst (λ (m : Member). Among m c.members) (ap (λ (p : Class × Member). p.1) same) (numbered_among id c.members x is))

pub id_among : (id : ℕ) (classes : List Class) (class : Class) (m : Member) → member_of_classes id classes ≡ Some (class, m) → AmongClasses class m classes
id_among id [] class m found = absurd cc
id_among id (c ∷ classes) class m found =
    member_or_class id c (member_numbered id c.members) (member_of_classes id classes) class m classes refl found (id_among id classes class m)

if_numbered : (id : ℕ) (b : Bool) (x m : Member) (others : Option Member) → nat_eq x.id id ≡ b → (if b then Some x else others) ≡ Some m → (others ≡ Some m → nat_eq m.id id ≡ true) → nat_eq m.id id ≡ true
if_numbered id true x m others is found rest = subst (λ (m : Member). nat_eq m.id id ≡ true) (some_is found) is
if_numbered id false x m others is found rest = rest found

pub numbered_so : (id : ℕ) (members : List Member) (m : Member) → member_numbered id members ≡ Some m → nat_eq m.id id ≡ true
numbered_so id [] m found = absurd cc
numbered_so id (x ∷ members) m found = if_numbered id (nat_eq x.id id) x m (member_numbered id members) refl found (numbered_so id members m)

or_numbered : (id : ℕ) (c : Class) (found : Option Member) (others : Option (Class × Member)) (class : Class) (m : Member) → member_numbered id c.members ≡ found
    → member_or c found others ≡ Some (class, m) → (others ≡ Some (class, m) → nat_eq m.id id ≡ true) → nat_eq m.id id ≡ true
or_numbered id c None others class m is found rest = rest found
or_numbered id c (Some x) others class m is found rest =
    subst (λ (m : Member). nat_eq m.id id ≡ true) (ap (λ (p : Class × Member). p.1) (some_is found)) (numbered_so id c.members x is)

pub id_so : (id : ℕ) (classes : List Class) (class : Class) (m : Member) → member_of_classes id classes ≡ Some (class, m) → nat_eq m.id id ≡ true
id_so id [] class m found = absurd cc
id_so id (c ∷ classes) class m found = or_numbered id c (member_numbered id c.members) (member_of_classes id classes) class m refl found (id_so id classes class m)
