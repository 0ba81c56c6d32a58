-- The entries of a class in the image of a program are those of the language.
use Rattle.std.proofs.Common.{◌≡◌, ◌≢◌, ◌≤◌, ◌<◌, ℕ, zero, suc, ◌+◌, Bool, true, false, List, [], ◌∷◌, ◌++◌, length, Option, Some, None, if◌then◌else◌, ℤ, pos, refl, ap, sym, subst, arith, ◌∙◌}
use Rattle.std.proofs.lemmas.Bool.{eqb-true}
use Rattle.std.specs.List.{AllZip, slice_get}
use Rattle.std.specs.Prelude.{nat_eq}
use Rattle.mpl_ast.specs.declared.class.Entry.{Entry}
use Rattle.mpl_ast.specs.declared.class.Item.{Item}
use Rattle.mpl_ast.specs.declared.class.Item.TheVariants as item
use Rattle.mpl_ast.specs.declared.class.Kind.{Kind}
use Rattle.mpl_ast.specs.declared.expression.Expression.{Expression}
use Rattle.mpl_ast.specs.declared.place.Name.{Name}
use Rattle.mpl_ast.specs.declared.program.Declaration.{Declaration}
use Rattle.mpl_ast.specs.declared.program.Declaration.TheVariants as declaration
use Rattle.mpl_ast.specs.declared.program.Program.{Program}
use Rattle.mpl_mean.specs.Laws.Sizes.{Every, member_of_id, words_of_formals, words_of_object}
use Rattle.mpl_mean.specs.Meaning.BodyMeaning.{member_of_classes, member_or}
use Rattle.mpl_mean.specs.Meaning.ExpressionMeaning.{value_of}
use Rattle.mpl_mean.specs.Meaning.Layout.{Class, Member, classes_from, classes_of, is_regular, member_named, members_from, natural, state_of}
use Rattle.mpl_mean.specs.Text.Weight.{is_light}
use Rattle.mpl_mean.specs.TypeRules.ProgramNodes.{accepted_formals, surrounding}
use Rattle.mpl_mean.specs.TypeRules.Rules.{is_typed}
use Rattle.mpl_mean.specs.TypeRules.Scopes.{at_top, in_class}
use Rattle.mpl_mean.specs.TypeRules.Typing.{member_of}
use Rattle.mpl_mean.proofs.Sizes.SizedClasses.{named_number, none_above, same_number}
use Rattle.mpl_mean.proofs.Sizes.SizedPrograms.{well_program}
use Rattle.mpl_mean.proofs.Sizes.SizedRules.{WellClass, WellDeclaration}
use Rattle.mpl_mean.proofs.Sizes.SizedTypes.{WellProgram}
use Rattle.mpl_mean.proofs.Truth.{some_is}
use Rattle.mdf_code.specs.Guards.{entry_holds}
use Rattle.mdf_code.specs.declared.raw.RawEntry.{RawEntry}
use Rattle.mdf_code.specs.declared.raw.RawImage.{RawImage}
use Rattle.mdf_core.specs.Choices.{choice_of, entries_from}
use Rattle.mdf_mean.specs.Guards.{choices_by, choices_in, class_at, class_choices, items_at, select_in, selected, with_choice}
use Rattle.mdf_mean.specs.Guards as guards
use Rattle.mpl_gen_code.specs.ProgramImage.{all_entries, entries_image, entries_of_select, guard_code, image_of, select_of, selects_of, with_entry}
use Rattle.mpl_gen_code.proofs.Compiling.{image_compiled}
use Rattle.mpl_gen_laws.specs.SameChoices.{SameChoice}
use Rattle.mpl_gen_laws.proofs.GuardReady.{holds_so, named_well, same_formals}
use Rattle.mpl_gen_laws.proofs.GuardRules.{DeclarationKeeps, EntryKeeps, GuardKeeps, ItemKeeps, guards_keep}
use Rattle.mpl_gen_laws.proofs.GuardWeights.{DeclarationLow, EntryLow, GuardLow, ItemLow, guards_low}

-- ---- entries of other classes

pub other_number : (a b : ℕ) → a ≢ b → nat_eq a b ≡ false
other_number a b e = by_test (nat_eq a b) refl where
  by_test : (t : Bool) → nat_eq a b ≡ t → t ≡ false
  by_test true i = absurd (e (eqb-true a b i))
  by_test false i = refl

abbrev IsOther : ℕ → RawEntry → Type 0
IsOther c entry = entry.class ≢ c

skipped : (image : RawImage) (c n : ℕ) (block others : List RawEntry) → Every (IsOther c) block → entries_from image c n (block ++ others) ≡ entries_from image c (n + length block) others
skipped image c n [] others h = ap (λ k. entries_from image c k others) (let e : n ≡ n + 0 = omega arith in e)
skipped image c n (entry ∷ block) others h =
    ap (λ t. if t then choice_of image n entry ∷ entries_from image c (n + 1) (block ++ others) else entries_from image c (n + 1) (block ++ others)) (other_number entry.class c h.0)
    ∙ skipped image c (n + 1) block others h.1
    ∙ ap (λ k. entries_from image c k others) (let e : n + 1 + length block ≡ n + suc (length block) = omega arith in e)

none_left : (image : RawImage) (c n : ℕ) (block : List RawEntry) → Every (IsOther c) block → entries_from image c n block ≡ []
none_left image c n [] h = refl
none_left image c n (entry ∷ block) h =
    ap (λ t. if t then choice_of image n entry ∷ entries_from image c (n + 1) block else entries_from image c (n + 1) block) (other_number entry.class c h.0) ∙ none_left image c (n + 1) block h.1

pub every_both : {A : Type 0} (P : A → Type 0) (xs ys : List A) → Every P xs → Every P ys → Every P (xs ++ ys)
every_both P [] ys h k = k
every_both P (x ∷ xs) ys h k = (h.0, every_both P xs ys h.1 k)

block_others : (ds : List Declaration) (c : ℕ) (class : Class) (entries : List Entry) → class.number ≢ c → Every (IsOther c) (entries_image ds class entries)
block_others ds c class [] other = tt
block_others ds c class (entry ∷ entries) other = by_member (member_named entry.member.text class.members) (block_others ds c class entries other) where
  by_member : (m : Option Member) → Every (IsOther c) (entries_image ds class entries) → Every (IsOther c) (with_entry ds class entry m (entries_image ds class entries))
  by_member None h = h
  by_member (Some m) h = (other, h)

select_others : (ds : List Declaration) (c : ℕ) (class : Class) (select : Option (List Entry)) → class.number ≢ c → Every (IsOther c) (entries_of_select ds class select)
select_others ds c class None other = tt
select_others ds c class (Some entries) other = block_others ds c class entries other

later_others : (ds : List Declaration) (c number first : ℕ) (rest : List Declaration) → c < number → Every (IsOther c) (all_entries ds (classes_from number first rest) (selects_of rest))
later_others ds c number first [] h = tt
later_others ds c number first (declaration.Struct at line name fields ∷ rest) h = later_others ds c number first rest h
later_others ds c number first (declaration.Function at result name formals body ∷ rest) h = later_others ds c number first rest h
later_others ds c number first (declaration.Class at line kind name items ∷ rest) h =
    every_both (IsOther c) (entries_of_select ds here (select_of items)) (all_entries ds (classes_from (number + 1) (first + length (members_from first items)) rest) (selects_of rest))
    (select_others ds c here (select_of items) (λ e. let e' : number ≡ c = e in absurd (omega (arith, e', h)))) (later_others ds c (number + 1) (first + length (members_from first items)) rest (omega (arith, h))) where
      here : Class
      here = record { number = number; name = name.text; is_regular = is_regular kind; state = state_of items; members = members_from first items }

-- ---- the two ways to find a `select`

pub same_select : (items : List Item) → select_of items ≡ select_in items
same_select [] = refl
same_select (item.OfField at field ∷ items) = same_select items
same_select (item.Member at result name formals body ∷ items) = same_select items
same_select (item.Select at line entries ∷ items) = refl
same_select (item.Public at ∷ items) = same_select items
same_select (item.Private at ∷ items) = same_select items
same_select (item.Empty at ∷ items) = same_select items

-- what holds of a `select` among the items
pub found_select : (P : List Entry → Type 0) (Q : Item → Type 0) → ((at : Rattle.mpl_ast.specs.declared.place.At.At) (line : ℕ) (entries : List Entry) → Q (item.Select at line entries) → P entries)
    → (items : List Item) (entries : List Entry) → Every Q items → select_in items ≡ Some entries → P entries
found_select P Q f [] entries h e = absurd cc
found_select P Q f (item.OfField at field ∷ items) entries h e = found_select P Q f items entries h.1 e
found_select P Q f (item.Member at result name formals body ∷ items) entries h e = found_select P Q f items entries h.1 e
found_select P Q f (item.Select at line others ∷ items) entries h e = subst P (some_is e) (f at line others h.0)
found_select P Q f (item.Public at ∷ items) entries h e = found_select P Q f items entries h.1 e
found_select P Q f (item.Private at ∷ items) entries h e = found_select P Q f items entries h.1 e
found_select P Q f (item.Empty at ∷ items) entries h e = found_select P Q f items entries h.1 e

module _ (p : Program) (marks : ℕ → Bool) (well : WellProgram p.declarations) where
  abbrev ds : List Declaration
  ds = p.declarations

  abbrev image : RawImage
  image = image_of p marks

  -- ---- one class

  module _ (number first : ℕ) (kind : Kind) (name : Name) (items : List Item) (right : WellClass ds (surrounding kind name items)) where
    abbrev class : Class
    class = record { number = number; name = name.text; is_regular = is_regular kind; state = state_of items; members = members_from first items }

    raw_of : Entry → Member → RawEntry
    raw_of entry m = record { class = number; priority = natural entry.priority.value; member = record { 0 = m.id }; guard = guard_code ds class m entry.guard }

    entry_same : (entry : Entry) (m : Member) → member_named entry.member.text (members_from first items) ≡ Some m → member_of_id ds (record { 0 = m.id }) ≡ Some (class, m)
        → EntryKeeps (in_class (surrounding kind name items) (at_top ds)) items entry → EntryLow entry → (n : ℕ) → slice_get image.entries n ≡ Some (record { class = number; priority = natural entry.priority.value; member = record { 0 = m.id }; guard = guard_code ds class m entry.guard })
        → SameChoice p class (choice_of image n (record { class = number; priority = natural entry.priority.value; member = record { 0 = m.id }; guard = guard_code ds class m entry.guard }))
        (guards.choice_of value_of ds class (natural entry.priority.value) entry.guard m)
    entry_same entry m found numbered keeps low n stands = record {
      priority = refl;
      member = refl;
      holds = λ other state arguments other_is state_long arguments_long.
          by_guard entry.guard keeps low stands state arguments state_long
          (subst (λ (m : Member). length arguments ≡ words_of_formals ds m.formals) (same_member other (sym other_is ∙ numbered)) arguments_long);
    } where
      same_member : (other : Member) → ◌≡◌ {A = Option (Class × Member)} (Some (class, other)) (Some (class, m)) → other ≡ m
      same_member other e = ap (λ (p : Class × Member). p.1) (some_is e)

      by_guard : (guard : Option Expression) → GuardKeeps (in_class (surrounding kind name items) (at_top ds)) items entry.member guard → GuardLow guard
          → slice_get image.entries n ≡ Some (record { class = number; priority = natural entry.priority.value; member = record { 0 = m.id }; guard = guard_code ds class m guard })
          → (state arguments : List ℤ) → length state ≡ words_of_object ds class → length arguments ≡ words_of_formals ds m.formals
          → (choice_of image n (record { class = number; priority = natural entry.priority.value; member = record { 0 = m.id }; guard = guard_code ds class m guard })).holds state arguments
          ≡ guards.guard_holds value_of ds class m guard state arguments
      by_guard None keeps low stands state arguments state_long arguments_long =
          ap (λ (o : Option RawEntry). entry_holds image n (Rattle.mdf_code.specs.Parts.split_words (Rattle.mdf_code.specs.Sizes.sizes_of_start image (Some (record { 0 = m.id }))) arguments) state o) stands
      by_guard (Some test) keeps low stands state arguments state_long arguments_long =
          holds_so ds well number first kind name items right m test (accepted_formals (member_of entry.member.text items)) (same_formals entry.member.text first 0 items m found)
          (named_well ds (surrounding kind name items) entry.member.text first items m right.0 found).0.0 keeps low marks image
          ((image_compiled p marks).members class m (record { found = numbered })) n
          (record { class = number; priority = natural entry.priority.value; member = record { 0 = m.id }; guard = guard_code ds class m (Some test) }) stands refl refl state arguments state_long arguments_long

    entries_same : (numbered : (m : Member) (name : List ℕ) → member_named name (members_from first items) ≡ Some m → member_of_id ds (record { 0 = m.id }) ≡ Some (class, m)) (others : List RawEntry)
        → ((n : ℕ) → entries_from image number n others ≡ []) → (entries : List Entry) → Every (EntryKeeps (in_class (surrounding kind name items) (at_top ds)) items) entries → Every EntryLow entries → (n : ℕ)
        → ((k : ℕ) → slice_get image.entries (n + k) ≡ slice_get (entries_image ds class entries ++ others) k)
        → AllZip (SameChoice p class) (entries_from image number n (entries_image ds class entries ++ others)) (selected value_of ds class entries)
    entries_same numbered others none [] keeps low n at = subst (λ all. AllZip (SameChoice p class) all []) (sym (none n)) tt
    entries_same numbered others none (entry ∷ entries) keeps low n at =
        by_member (member_named entry.member.text (members_from first items)) refl at (entries_same numbered others none entries keeps.1 low.1) where
          by_member : (o : Option Member) → member_named entry.member.text (members_from first items) ≡ o
              → ((k : ℕ) → slice_get image.entries (n + k) ≡ slice_get (with_entry ds class entry o (entries_image ds class entries) ++ others) k)
              → ((n : ℕ) → ((k : ℕ) → slice_get image.entries (n + k) ≡ slice_get (entries_image ds class entries ++ others) k)
              → AllZip (SameChoice p class) (entries_from image number n (entries_image ds class entries ++ others)) (selected value_of ds class entries))
              → AllZip (SameChoice p class) (entries_from image number n (with_entry ds class entry o (entries_image ds class entries) ++ others))
              (with_choice value_of ds class (natural entry.priority.value) entry.guard o (selected value_of ds class entries))
          by_member None e at again = again n at
          by_member (Some m) e at again =
              subst (λ t. AllZip (SameChoice p class) (if t then choice_of image n (record { class = number; priority = natural entry.priority.value; member = record { 0 = m.id }; guard = guard_code ds class m entry.guard })
              ∷ entries_from image number (n + 1) (entries_image ds class entries ++ others) else entries_from image number (n + 1) (entries_image ds class entries ++ others))
              (guards.choice_of value_of ds class (natural entry.priority.value) entry.guard m ∷ selected value_of ds class entries)) (sym (same_number number)) (
                entry_same entry m e (numbered m entry.member.text e) keeps.0 low.0 n (ap (slice_get image.entries) (let z : n ≡ n + 0 = omega arith in z) ∙ at 0),
                again (n + 1) (λ k. ap (slice_get image.entries) (let z : n + 1 + k ≡ n + suc k = omega arith in z) ∙ at (suc k)),
              )

  -- ---- the class of a number

  walk : (c number first offset : ℕ) (rest : List Declaration) → ((id : ℕ) → first ≤ id → member_of_classes id (classes_of ds) ≡ member_of_classes id (classes_from number first rest))
      → ((k : ℕ) → slice_get image.entries (offset + k) ≡ slice_get (all_entries ds (classes_from number first rest) (selects_of rest)) k)
      → Every (WellDeclaration ds) rest → Every (DeclarationKeeps ds) rest → Every DeclarationLow rest
      → (class : Class) (entries : List Entry) → slice_get (classes_from number first rest) c ≡ Some class → select_in (items_at c rest) ≡ Some entries
      → AllZip (SameChoice p class) (entries_from image (number + c) offset (all_entries ds (classes_from number first rest) (selects_of rest))) (selected value_of ds class entries)
  walk c number first offset [] ids at right keeps low class entries is select = absurd cc
  walk c number first offset (declaration.Struct node line name fields ∷ rest) ids at right keeps low class entries is select = walk c number first offset rest ids at right.1 keeps.1 low.1 class entries is select
  walk c number first offset (declaration.Function node result name formals body ∷ rest) ids at right keeps low class entries is select = walk c number first offset rest ids at right.1 keeps.1 low.1 class entries is select
  walk zero number first offset (declaration.Class node line kind name items ∷ rest) ids at right keeps low class entries is select =
      subst (λ class. AllZip (SameChoice p class) (entries_from image (number + 0) offset (entries_of_select ds here (select_of items) ++ others)) (selected value_of ds class entries)) (some_is is)
      (subst (λ o. AllZip (SameChoice p here) (entries_from image (number + 0) offset (entries_of_select ds here o ++ others)) (selected value_of ds here entries)) (sym chosen)
      (subst (λ k. AllZip (SameChoice p here) (entries_from image k offset (entries_image ds here entries ++ others)) (selected value_of ds here entries)) (let z : number ≡ number + 0 = omega arith in z)
      (entries_same number first kind name items right.0 numbered others
      (λ n. none_left image number n others (later_others ds number (number + 1) (first + length (members_from first items)) rest (omega arith))) entries
      (found_select (Every (EntryKeeps (in_class (surrounding kind name items) (at_top ds)) items)) (ItemKeeps (in_class (surrounding kind name items) (at_top ds)) items) (λ node line entries h. h) items entries keeps.0 select)
      (found_select (Every EntryLow) ItemLow (λ node line entries h. h) items entries low.0 select) offset
      (λ k. at k ∙ ap (λ o. slice_get (entries_of_select ds here o ++ others) k) chosen)))) where
        here : Class
        here = record { number = number; name = name.text; is_regular = is_regular kind; state = state_of items; members = members_from first items }

        others : List RawEntry
        others = all_entries ds (classes_from (number + 1) (first + length (members_from first items)) rest) (selects_of rest)

        chosen : select_of items ≡ Some entries
        chosen = same_select items ∙ select

        numbered : (m : Member) (name : List ℕ) → member_named name (members_from first items) ≡ Some m → member_of_id ds (record { 0 = m.id }) ≡ Some (here, m)
        numbered m name e =
            let h = named_number name first items m e in
            ids m.id h.least ∙ ap (λ o. member_or here o (member_of_classes m.id (classes_from (number + 1) (first + length (members_from first items)) rest))) h.found
  walk (suc c) number first offset (declaration.Class node line kind name items ∷ rest) ids at right keeps low class entries is select =
      subst (λ all. AllZip (SameChoice p class) all (selected value_of ds class entries))
      (ap (λ k. entries_from image k (offset + length block) others) (let z : number + 1 + c ≡ number + suc c = omega arith in z)
      ∙ sym (skipped image (number + suc c) offset block others (select_others ds (number + suc c) here (select_of items) (λ e. let e' : number ≡ number + suc c = e in absurd (omega (arith, e'))))))
      (walk c (number + 1) (first + length (members_from first items)) (offset + length block) rest
      (λ id le. ids id (omega (arith, le)) ∙ ap (λ o. member_or here o (member_of_classes id (classes_from (number + 1) (first + length (members_from first items)) rest))) (none_above id first items le))
      (λ k. ap (slice_get image.entries) (let z : offset + length block + k ≡ offset + (length block + k) = omega arith in z) ∙ at (length block + k) ∙ behind block others k)
      right.1 keeps.1 low.1 class entries is select) where
        here : Class
        here = record { number = number; name = name.text; is_regular = is_regular kind; state = state_of items; members = members_from first items }

        block : List RawEntry
        block = entries_of_select ds here (select_of items)

        others : List RawEntry
        others = all_entries ds (classes_from (number + 1) (first + length (members_from first items)) rest) (selects_of rest)

        behind : (front after : List RawEntry) (k : ℕ) → slice_get (front ++ after) (length front + k) ≡ slice_get after k
        behind [] after k = ap (slice_get after) (let z : 0 + k ≡ k = omega arith in z)
        behind (x ∷ front) after k = ap (slice_get (x ∷ (front ++ after))) (let z : suc (length front) + k ≡ suc (length front + k) = omega arith in z) ∙ behind front after k

-- the entries of a class with `select`
pub entries_are : (p : Program) (marks : ℕ → Bool) → is_typed p ≡ true → is_light p ≡ true → (c : ℕ) (class : Class) (entries : List Entry) → class_at p.declarations (pos c) ≡ Some class
    → select_in (items_at c p.declarations) ≡ Some entries → AllZip (SameChoice p class) (entries_from (image_of p marks) c 0 (image_of p marks).entries) (choices_by value_of p.declarations (pos c))
entries_are p marks typed light c class entries is select =
    subst (λ all. AllZip (SameChoice p class) (entries_from (image_of p marks) c 0 (image_of p marks).entries) all)
    (sym (ap (choices_in value_of p.declarations (items_at c p.declarations)) is ∙ ap (class_choices value_of p.declarations class) select))
    (subst (λ k. AllZip (SameChoice p class) (entries_from (image_of p marks) k 0 (image_of p marks).entries) (selected value_of p.declarations class entries)) (let z : 0 + c ≡ c = omega arith in z)
    (walk p marks (well_program p typed) c 0 0 0 p.declarations (λ id le. refl) (λ k. ap (slice_get (image_of p marks).entries) (let z : 0 + k ≡ k = omega arith in z))
    (well_program p typed).each (guards_keep p typed) (guards_low p light) class entries is select))
