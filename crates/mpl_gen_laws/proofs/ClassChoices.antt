-- A class accepts the same calls in the image and in the language, with `select` or without.
use Rattle.std.proofs.Common.{◌≡◌, ◌≢◌, ◌<◌, ℕ, zero, suc, ◌+◌, Bool, true, false, List, [], ◌∷◌, ◌++◌, length, map, Option, Some, None, if◌then◌else◌, pos, refl, ap, sym, subst, arith, ◌∙◌}
use Rattle.std.proofs.lemmas.List.{length-map}
use Rattle.std.specs.List.{AllZip, slice_get}
use Rattle.mpl_ast.specs.declared.class.Entry.{Entry}
use Rattle.mpl_ast.specs.declared.class.Item.{Item}
use Rattle.mpl_ast.specs.declared.class.Item.TheVariants as item
use Rattle.mpl_ast.specs.declared.program.Declaration.{Declaration}
use Rattle.mpl_ast.specs.declared.program.Declaration.TheVariants as declaration
use Rattle.mpl_ast.specs.declared.program.Program.{Program}
use Rattle.mpl_mean.specs.Laws.Sizes.{Every}
use Rattle.mpl_mean.specs.Meaning.ExpressionMeaning.{value_of}
use Rattle.mpl_mean.specs.Meaning.Layout.{Class, Member, classes_from, classes_of, formals_of, is_regular, members_from, state_of}
use Rattle.mpl_mean.specs.Text.Weight.{is_light}
use Rattle.mpl_mean.specs.TypeRules.Rules.{is_typed}
use Rattle.mpl_mean.proofs.Sizes.SizedClasses.{same_number}
use Rattle.mpl_mean.proofs.Truth.{some_is}
use Rattle.mdf_code.specs.declared.raw.RawClass.{RawClass}
use Rattle.mdf_code.specs.declared.raw.RawImage.{RawImage}
use Rattle.mdf_code.specs.declared.raw.RawMember.{RawMember}
use Rattle.mdf_core.specs.Choices.{always, choices, choices_of, entries_from}
use Rattle.mdf_core.specs.Choices as core
use Rattle.mdf_mean.specs.Guards.{choices_by, choices_in, class_at, class_choices, items_at, select_in}
use Rattle.mdf_mean.specs.Guards as guards
use Rattle.mdf_mean.specs.Meanings.{Choice}
use Rattle.mpl_gen_code.specs.ProgramImage.{classes_image, has_select, image_of, member_image, members_image, selects_of}
use Rattle.mpl_gen_laws.specs.SameChoices.{SameChoice}
use Rattle.mpl_gen_laws.proofs.GuardEntries.{entries_are, every_both, other_number, same_select}

-- ---- members of other classes

abbrev IsOther : ℕ → RawMember → Type 0
IsOther c member = member.class ≢ c

skipped : (c n : ℕ) (block others : List RawMember) → Every (IsOther c) block → core.members_from c n (block ++ others) ≡ core.members_from c (n + length block) others
skipped c n [] others h = ap (λ k. core.members_from c k others) (let e : n ≡ n + 0 = omega arith in e)
skipped c n (member ∷ block) others h =
    ap (λ t. if t then always n ∷ core.members_from c (n + 1) (block ++ others) else core.members_from c (n + 1) (block ++ others)) (other_number member.class c h.0)
    ∙ skipped c (n + 1) block others h.1
    ∙ ap (λ k. core.members_from c k others) (let e : n + 1 + length block ≡ n + suc (length block) = omega arith in e)

none_left : (c n : ℕ) (block : List RawMember) → Every (IsOther c) block → core.members_from c n block ≡ []
none_left c n [] h = refl
none_left c n (member ∷ block) h =
    ap (λ t. if t then always n ∷ core.members_from c (n + 1) block else core.members_from c (n + 1) block) (other_number member.class c h.0) ∙ none_left c (n + 1) block h.1

module _ (p : Program) (marks : ℕ → Bool) where
  abbrev ds : List Declaration
  ds = p.declarations

  block_others : (c : ℕ) (class : Class) (members : List Member) → class.number ≢ c → Every (IsOther c) (map (member_image ds marks class) members)
  block_others c class [] other = tt
  block_others c class (m ∷ members) other = (other, block_others c class members other)

  later_others : (c number first : ℕ) (rest : List Declaration) → c < number → Every (IsOther c) (members_image ds marks (classes_from number first rest))
  later_others c number first [] h = tt
  later_others c number first (declaration.Struct at line name fields ∷ rest) h = later_others c number first rest h
  later_others c number first (declaration.Function at result name formals body ∷ rest) h = later_others c number first rest h
  later_others c number first (declaration.Class at line kind name items ∷ rest) h =
      every_both (IsOther c) (map (member_image ds marks here) (members_from first items)) (members_image ds marks (classes_from (number + 1) (first + length (members_from first items)) rest))
      (block_others c here (members_from first items) (λ e. let e' : number ≡ c = e in absurd (omega (arith, e', h)))) (later_others c (number + 1) (first + length (members_from first items)) rest (omega (arith, h))) where
        here : Class
        here = record { number = number; name = name.text; is_regular = is_regular kind; state = state_of items; members = members_from first items }

  -- ---- the members of one class

  abbrev accepts : Class → Member → Choice
  accepts class = guards.choice_of value_of ds class 0 None

  members_same : (class : Class) (others : List RawMember) → ((n : ℕ) → core.members_from class.number n others ≡ []) → (id : ℕ) (items : List Item)
      → AllZip (SameChoice p class) (core.members_from class.number id (map (member_image ds marks class) (members_from id items) ++ others)) (map (accepts class) (members_from id items))
  members_same class others none id [] = subst (λ all. AllZip (SameChoice p class) all []) (sym (none id)) tt
  members_same class others none id (item.OfField at field ∷ items) = members_same class others none id items
  members_same class others none id (item.Member at result name formals body ∷ items) =
      subst (λ t. AllZip (SameChoice p class) (if t then always id ∷ core.members_from class.number (id + 1) (map (member_image ds marks class) (members_from (id + 1) items) ++ others)
      else core.members_from class.number (id + 1) (map (member_image ds marks class) (members_from (id + 1) items) ++ others))
      (accepts class (record { id = id; name = name.text; result = result; formals = formals_of formals; body = body }) ∷ map (accepts class) (members_from (id + 1) items))) (sym (same_number class.number))
      (record { priority = refl; member = refl; holds = λ m state arguments is state_long arguments_long. refl }, members_same class others none (id + 1) items)
  members_same class others none id (item.Select at line entries ∷ items) = members_same class others none id items
  members_same class others none id (item.Public at ∷ items) = members_same class others none id items
  members_same class others none id (item.Private at ∷ items) = members_same class others none id items
  members_same class others none id (item.Empty at ∷ items) = members_same class others none id items

  walk : (c number first : ℕ) (rest : List Declaration) (class : Class) → slice_get (classes_from number first rest) c ≡ Some class
      → AllZip (SameChoice p class) (core.members_from (number + c) first (members_image ds marks (classes_from number first rest))) (map (accepts class) class.members)
  walk c number first [] class is = absurd cc
  walk c number first (declaration.Struct node line name fields ∷ rest) class is = walk c number first rest class is
  walk c number first (declaration.Function node result name formals body ∷ rest) class is = walk c number first rest class is
  walk zero number first (declaration.Class node line kind name items ∷ rest) class is =
      subst (λ (class : Class). AllZip (SameChoice p class) (core.members_from (number + 0) first (map (member_image ds marks here) (members_from first items) ++ others)) (map (accepts class) class.members)) (some_is is)
      (subst (λ k. AllZip (SameChoice p here) (core.members_from k first (map (member_image ds marks here) (members_from first items) ++ others)) (map (accepts here) (members_from first items))) (let z : number ≡ number + 0 = omega arith in z)
      (members_same here others (λ n. none_left number n others (later_others number (number + 1) (first + length (members_from first items)) rest (omega arith))) first items)) where
        here : Class
        here = record { number = number; name = name.text; is_regular = is_regular kind; state = state_of items; members = members_from first items }

        others : List RawMember
        others = members_image ds marks (classes_from (number + 1) (first + length (members_from first items)) rest)
  walk (suc c) number first (declaration.Class node line kind name items ∷ rest) class is =
      subst (λ all. AllZip (SameChoice p class) all (map (accepts class) class.members))
      (ap (λ k. core.members_from k (first + length (members_from first items)) others) (let z : number + 1 + c ≡ number + suc c = omega arith in z)
      ∙ ap (λ k. core.members_from (number + suc c) (first + k) others) (sym (length-map (members_from first items) (member_image ds marks here)))
      ∙ sym (skipped (number + suc c) first block others (block_others (number + suc c) here (members_from first items) (λ e. let e' : number ≡ number + suc c = e in absurd (omega (arith, e'))))))
      (walk c (number + 1) (first + length (members_from first items)) rest class is) where
        here : Class
        here = record { number = number; name = name.text; is_regular = is_regular kind; state = state_of items; members = members_from first items }

        block : List RawMember
        block = map (member_image ds marks here) (members_from first items)

        others : List RawMember
        others = members_image ds marks (classes_from (number + 1) (first + length (members_from first items)) rest)

  -- ---- whether a class has a `select`

  record RawThere (raws : List RawClass) (c : ℕ) (select : Option (List Entry)) : Type 0 where
    raw : RawClass
    stands : slice_get raws c ≡ Some raw
    selects : raw.selects ≡ has_select select

  raw_there : (c number first : ℕ) (rest : List Declaration) (class : Class) → slice_get (classes_from number first rest) c ≡ Some class
      → RawThere (classes_image ds (classes_from number first rest) (selects_of rest)) c (select_in (items_at c rest))
  raw_there c number first [] class is = absurd cc
  raw_there c number first (declaration.Struct node line name fields ∷ rest) class is = raw_there c number first rest class is
  raw_there c number first (declaration.Function node result name formals body ∷ rest) class is = raw_there c number first rest class is
  raw_there zero number first (declaration.Class node line kind name items ∷ rest) class is = record { raw = _; stands = refl; selects = ap has_select (same_select items) }
  raw_there (suc c) number first (declaration.Class node line kind name items ∷ rest) class is =
      let r = raw_there c (number + 1) (first + length (members_from first items)) rest class is in record { raw = r.raw; stands = r.stands; selects = r.selects }

-- what a class accepts
pub choices_same : (p : Program) (marks : ℕ → Bool) → is_typed p ≡ true → is_light p ≡ true → (c : ℕ) (class : Class) → class_at p.declarations (pos c) ≡ Some class
    → AllZip (SameChoice p class) (choices (image_of p marks) c) (choices_by value_of p.declarations (pos c))
choices_same p marks typed light c class is = by_select (select_in (items_at c p.declarations)) refl where
  image : RawImage
  image = image_of p marks

  there : RawThere p marks (classes_image p.declarations (classes_of p.declarations) (selects_of p.declarations)) c (select_in (items_at c p.declarations))
  there = raw_there p marks c 0 0 p.declarations class is

  chosen : (b : Bool) → has_select (select_in (items_at c p.declarations)) ≡ b → choices (image_of p marks) c ≡ (if b then entries_from (image_of p marks) c 0 (image_of p marks).entries else core.members_from c 0 (image_of p marks).members)
  chosen b e =
      ap (choices_of (image_of p marks) c) (there.stands)
      ∙ ap (λ t. if t then entries_from (image_of p marks) c 0 (image_of p marks).entries else core.members_from c 0 (image_of p marks).members) (there.selects ∙ e)

  by_select : (o : Option (List Entry)) → select_in (items_at c p.declarations) ≡ o → AllZip (SameChoice p class) (choices (image_of p marks) c) (choices_by value_of p.declarations (pos c))
  by_select (Some entries) e =
      subst (λ all. AllZip (SameChoice p class) all (choices_by value_of p.declarations (pos c))) (sym (chosen true (ap has_select e))) (entries_are p marks typed light c class entries is e)
  by_select None e =
      subst (λ all. AllZip (SameChoice p class) all (choices_by value_of p.declarations (pos c))) (sym (chosen false (ap has_select e)))
      (subst (AllZip (SameChoice p class) (core.members_from c 0 (image_of p marks).members))
      (sym (ap (choices_in value_of p.declarations (items_at c p.declarations)) is ∙ ap (class_choices value_of p.declarations class) e))
      (subst (λ k. AllZip (SameChoice p class) (core.members_from k 0 (image_of p marks).members) (map (guards.choice_of value_of p.declarations class 0 None) class.members)) (let z : 0 + c ≡ c = omega arith in z)
      (walk p marks c 0 0 p.declarations class is)))
