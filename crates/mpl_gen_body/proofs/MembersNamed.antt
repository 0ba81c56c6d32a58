-- Members by their names, with what entries need of them.
use Rattle.std.proofs.Common.{◌≡◌, ℕ, ◌+◌, Bool, true, false, List, [], ◌∷◌, ◌++◌, map, Option, Some, None, option_map, if◌then◌else◌, append_assoc, refl, ap, ap₂, ◌∙◌}
use Rattle.std.specs.Str.{bytes_eq}
use Rattle.mpl_ast.specs.declared.class.Formal.{Formal}
use Rattle.mpl_ast.specs.declared.class.Item.{Item}
use Rattle.mpl_ast.specs.declared.class.Item.TheVariants as item
use Rattle.mpl_ast.specs.declared.program.Declaration.{Declaration}
use Rattle.mdf_code.specs.declared.raw.RawMember.{RawMember}
use Rattle.mpl_mean.proofs.Truth.{some_is}
use Rattle.mpl_mean.specs.Meaning.Layout.{Class, Member, formals_of, member_named, members_from}
use Rattle.mpl_gen_code.specs.ProgramImage.{member_image}
use Rattle.mpl_gen_body.specs.Internal.Accepting.{accepted_as, formals_among}

named_if : (b : Bool) (m : Member) (o : Option Member) → (if b then Some m.formals else option_map (λ (m : Member). m.formals) o) ≡ option_map (λ (m : Member). m.formals) (if b then Some m else o)
named_if true m o = refl
named_if false m o = refl

pub formals_are : (name : List ℕ) (id : ℕ) (items : List Item) → formals_among name items ≡ option_map (λ (m : Member). m.formals) (member_named name (members_from id items))
formals_are name id [] = refl
formals_are name id (item.OfField at field ∷ items) = formals_are name id items
formals_are name id (item.Member at result found formals body ∷ items) =
    let m : Member = record { id = id; name = found.text; result = result; formals = formals_of formals; body = body } in
    ap (λ others. if bytes_eq found.text name then Some (formals_of formals) else others) (formals_are name (id + 1) items)
    ∙ named_if (bytes_eq found.text name) m (member_named name (members_from (id + 1) items))
formals_are name id (item.Select at line entries ∷ items) = formals_are name id items
formals_are name id (item.Public at ∷ items) = formals_are name id items
formals_are name id (item.Private at ∷ items) = formals_are name id items
formals_are name id (item.Empty at ∷ items) = formals_are name id items

pub accepted_is : (o : Option Member) (id : ℕ) (formals : List Formal) → Some id ≡ option_map (λ (m : Member). m.id) o → Some formals ≡ option_map (λ (m : Member). m.formals) o
    → Some (record { id = id; formals = formals }) ≡ option_map accepted_as o
accepted_is None id formals h k = absurd cc
accepted_is (Some m) id formals h k = ap₂ (λ (id : ℕ) formals. Some (record { id = id; formals = formals })) (some_is h) (some_is k)

pub none_is : (o : Option Member) → None ≡ option_map (λ (m : Member). m.formals) o → None ≡ option_map accepted_as o
none_is None h = refl
none_is (Some m) h = absurd cc

-- ---- images of members by whatever numbers

pub same_images : (ds : List Declaration) (marks : ℕ → Bool) (class : Class) (a b : ℕ) (items : List Item) → map (member_image ds marks class) (members_from a items) ≡ map (member_image ds marks class) (members_from b items)
same_images ds marks class a b [] = refl
same_images ds marks class a b (item.OfField at field ∷ items) = same_images ds marks class a b items
same_images ds marks class a b (item.Member at result name formals body ∷ items) =
    ap (λ images. member_image ds marks class (record { id = a; name = name.text; result = result; formals = formals_of formals; body = body }) ∷ images) (same_images ds marks class (a + 1) (b + 1) items)
same_images ds marks class a b (item.Select at line entries ∷ items) = same_images ds marks class a b items
same_images ds marks class a b (item.Public at ∷ items) = same_images ds marks class a b items
same_images ds marks class a b (item.Private at ∷ items) = same_images ds marks class a b items
same_images ds marks class a b (item.Empty at ∷ items) = same_images ds marks class a b items

pub member_added : (ds : List Declaration) (marks : ℕ → Bool) (class : Class) (m : Member) (id : ℕ) (others : List Item) (raw : RawMember) (old new : List RawMember) → new ≡ old ++ raw ∷ []
    → raw ≡ member_image ds marks class m
    → new ++ map (member_image ds marks class) (members_from id others) ≡ old ++ (member_image ds marks class m ∷ map (member_image ds marks class) (members_from (id + 1) others))
member_added ds marks class m id others raw old new is raw_is =
    ap (λ (all : List RawMember). all ++ map (member_image ds marks class) (members_from id others)) is
    ∙ append_assoc old (raw ∷ []) (map (member_image ds marks class) (members_from id others))
    ∙ ap₂ (λ (raw : RawMember) (rest : List RawMember). old ++ raw ∷ rest) raw_is (same_images ds marks class id (id + 1) others)
