-- Classes one after another, and the numbers of their members.
use Rattle.std.proofs.Common.{◌≡◌, ◌<◌, ℕ, suc, ◌+◌, List, [], ◌∷◌, ◌++◌, length, map, Option, Some, None, option_map, append_assoc, arith, refl, ap, ap₂, ◌∙◌}
use Rattle.std.proofs.lemmas.List.{length-append, map-append}
use Rattle.mpl_ast.specs.declared.class.Item.{Item}
use Rattle.mpl_ast.specs.declared.class.Item.TheVariants as item
use Rattle.mpl_ast.specs.declared.program.Declaration.{Declaration}
use Rattle.mpl_mean.specs.Meaning.Layout.{Member, classes_from, member_named, members_from}
use Rattle.mpl_mean.proofs.Sizes.SizedClasses.{named_number}
use Rattle.mpl_mean.proofs.Truth.{some_is}
use Rattle.mpl_layout.specs.SeenClasses.{class_seen}
use Rattle.mpl_layout.specs.declared.class.Class.{Class}

pub as_many_members : (a b : ℕ) (items : List Item) → length (members_from a items) ≡ length (members_from b items)
as_many_members a b [] = refl
as_many_members a b (item.OfField at field ∷ items) = as_many_members a b items
as_many_members a b (item.Member at result name formals body ∷ items) = ap (λ n. suc n) (as_many_members (a + 1) (b + 1) items)
as_many_members a b (item.Select at line entries ∷ items) = as_many_members a b items
as_many_members a b (item.Public at ∷ items) = as_many_members a b items
as_many_members a b (item.Private at ∷ items) = as_many_members a b items
as_many_members a b (item.Empty at ∷ items) = as_many_members a b items

pub class_added : (classes : List Class) (c : Class) (next : ℕ) (others : List Declaration)
    → map class_seen (classes ++ c ∷ []) ++ classes_from (length (classes ++ c ∷ [])) next others
    ≡ map class_seen classes ++ class_seen c ∷ classes_from (length classes + 1) next others
class_added classes c next others =
    ap₂ (λ seen n. seen ++ classes_from n next others) (map-append class_seen classes (c ∷ [])) (length-append classes (c ∷ []))
    ∙ append_assoc (map class_seen classes) (class_seen c ∷ []) (classes_from (length classes + 1) next others)

-- the members of a class have the numbers from its first on
pub few_ids : (name : List ℕ) (first id : ℕ) (items : List Item) → Some id ≡ option_map (λ (m : Member). m.id) (member_named name (members_from first items)) → id < first + length (members_from 0 items)
few_ids name first id items h = by_member (member_named name (members_from first items)) refl h where
  by_member : (o : Option Member) → member_named name (members_from first items) ≡ o → Some id ≡ option_map (λ (m : Member). m.id) o → id < first + length (members_from 0 items)
  by_member None is h = absurd cc
  by_member (Some m) is h =
      let most = (named_number name first items m is).most in
      let same = as_many_members first 0 items in
      let at : id ≡ m.id = some_is h in
      omega arith
