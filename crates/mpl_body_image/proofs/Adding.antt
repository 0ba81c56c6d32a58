-- Bodies that are added one after another.
use Rattle.std.proofs.Common.{◌≡◌, ℕ, ◌+◌, List, [], ◌∷◌, ◌++◌, length, append_assoc, refl, ap, ◌∙◌}
use Rattle.std.proofs.lemmas.List.{length-append}
use Rattle.mpl_ast.specs.declared.class.Item.{Item}
use Rattle.mpl_ast.specs.declared.class.Item.TheVariants as item
use Rattle.mpl_ast.specs.declared.program.Declaration.{Declaration}
use Rattle.mpl_mean.specs.Meaning.Layout.{Class, Member, formals_of, members_from}
use Rattle.mpl_body_code.specs.Codes.{Code}
use Rattle.mpl_body_image.specs.Laid.{member_code, member_entries, member_entry, members_code}

-- ---- one more in front of the others

pub code_added : (old code others new : Code) → new ≡ old ++ code → new ++ others ≡ old ++ (code ++ others)
code_added old code others new is = ap (λ all. all ++ others) is ∙ append_assoc old code others

pub entry_added : {A : Type 0} (old : List A) (e : A) (others new : List A) → new ≡ old ++ e ∷ [] → new ++ others ≡ old ++ e ∷ others
entry_added old e others new is = ap (λ all. all ++ others) is ∙ append_assoc old (e ∷ []) others

pub later_place : (old code new : Code) → new ≡ old ++ code → length new ≡ length old + length code
later_place old code new is = ap length is ∙ length-append old code

-- ---- members by whatever numbers

pub same_codes : (ds : List Declaration) (class : Class) (a b : ℕ) (items : List Item) → members_code ds class (members_from a items) ≡ members_code ds class (members_from b items)
same_codes ds class a b [] = refl
same_codes ds class a b (item.OfField at field ∷ items) = same_codes ds class a b items
same_codes ds class a b (item.Member at result name formals body ∷ items) =
    ap (λ code. member_code ds class (record { id = a; name = name.text; result = result; formals = formals_of formals; body = body }) ++ code) (same_codes ds class (a + 1) (b + 1) items)
same_codes ds class a b (item.Select at line entries ∷ items) = same_codes ds class a b items
same_codes ds class a b (item.Public at ∷ items) = same_codes ds class a b items
same_codes ds class a b (item.Private at ∷ items) = same_codes ds class a b items
same_codes ds class a b (item.Empty at ∷ items) = same_codes ds class a b items

pub same_entries : (ds : List Declaration) (class : Class) (place a b : ℕ) (items : List Item) → member_entries ds class place (members_from a items) ≡ member_entries ds class place (members_from b items)
same_entries ds class place a b [] = refl
same_entries ds class place a b (item.OfField at field ∷ items) = same_entries ds class place a b items
same_entries ds class place a b (item.Member at result name formals body ∷ items) =
    let m : Member = record { id = a; name = name.text; result = result; formals = formals_of formals; body = body } in
    ap (λ entries. member_entry place m ∷ entries) (same_entries ds class (place + length (member_code ds class m)) (a + 1) (b + 1) items)
same_entries ds class place a b (item.Select at line entries ∷ items) = same_entries ds class place a b items
same_entries ds class place a b (item.Public at ∷ items) = same_entries ds class place a b items
same_entries ds class place a b (item.Private at ∷ items) = same_entries ds class place a b items
same_entries ds class place a b (item.Empty at ∷ items) = same_entries ds class place a b items
