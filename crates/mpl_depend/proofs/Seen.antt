-- What places stand for, as far as uses ask.
use Rattle.std.proofs.Common.{◌≡◌, ℕ, ◌+◌, Bool, true, false, List, [], ◌∷◌, ◌++◌, length, map, Option, Some, None, option_map, if◌then◌else◌, refl, ap, sym, ◌∙◌}
use Rattle.std.specs.Str.{bytes_eq}
use Rattle.mpl_ast.specs.declared.class.Field.{Field}
use Rattle.mpl_ast.specs.declared.class.FieldName.{FieldName}
use Rattle.mpl_ast.specs.declared.program.Declaration.{Declaration}
use Rattle.mpl_ast.specs.declared.program.Declaration.TheVariants as declaration
use Rattle.mpl_ast.specs.declared.place.At.{At}
use Rattle.mpl_ast.specs.declared.place.Name.{Name}
use Rattle.mpl_ast.specs.declared.statement.TypeName.{TypeName}
use Rattle.mpl_ast.specs.declared.statement.TypeName.TheVariants as named
use Rattle.mpl_mean.proofs.Truth.{some_is}
use Rattle.mpl_mean.specs.Meaning.Layout.{Class, Part, class_named, classes_from, dimension_of, members_from, part_named, parts_from, parts_of, parts_of_names, words_of, words_of_parts}
use Rattle.mpl_mean.specs.Pending.BodyWays.{create_ways, forces, receives, uses}
use Rattle.mpl_mean.specs.Plain.Scopes.{Env, Found, Slot, class_found, found_field, found_part}
use Rattle.mpl_mean.specs.TypeRules.Types.{Declared, InState, InStruct, Role, declared_fields, first_named}
use Rattle.mpl_scope.specs.First.{or_else}
use Rattle.mpl_depend.specs.Internal.Regular.{regular_among, regular_type}
use Rattle.mpl_depend.specs.Internal.Sights.{Sight, creates_sight, receives_sight, sight, sight_part, type_among, type_in, type_of, type_of_part, unless_regular, uses_sight}

-- ---- parts

one_name : (b : Bool) (part : Part) (d : Declared) (found : Option Part) (rest : Option Declared) → part.type ≡ d.type → type_of_part found ≡ type_of rest
    → type_of_part (if b then Some part else found) ≡ type_of (if b then Some d else rest)
one_name true part d found rest same e = ap (λ type. Some type) same
one_name false part d found rest same e = e

names_part : (role : Role) (ds : List Declaration) (type : TypeName) (offset : ℕ) (name : List ℕ) (names : List FieldName) (parts : List Part) (others : List Declared)
    → type_of_part (part_named name parts) ≡ type_of (first_named name others)
    → type_of_part (part_named name (parts_of_names ds type offset names ++ parts))
    ≡ type_of (first_named name (map (λ (n : FieldName). record { role = role; name = n.name.text; type = type; dimension = n.dimension }) names ++ others))
names_part role ds type offset name [] parts others e = e
names_part role ds type offset name (n ∷ names) parts others e =
    let next = offset + words_of ds type (dimension_of n.dimension) in
    one_name (bytes_eq n.name.text name)
    (record { name = n.name.text; type = type; dimension = dimension_of n.dimension; offset = offset; words = words_of ds type (dimension_of n.dimension) })
    (record { role = role; name = n.name.text; type = type; dimension = n.dimension })
    (part_named name (parts_of_names ds type next names ++ parts))
    (first_named name (map (λ (n : FieldName). record { role = role; name = n.name.text; type = type; dimension = n.dimension }) names ++ others))
    refl (names_part role ds type next name names parts others e)

parts_types : (role : Role) (ds : List Declaration) (name : List ℕ) (offset : ℕ) (fields : List Field) → type_of_part (part_named name (parts_from ds offset fields)) ≡ type_among role name fields
parts_types role ds name offset [] = refl
parts_types role ds name offset (field ∷ fields) =
    let next = offset + words_of_parts (parts_of_names ds field.type_name offset field.names) in
    names_part role ds field.type_name offset name field.names (parts_from ds next fields) (declared_fields role fields) (parts_types role ds name next fields)

pub part_of_struct : (ds : List Declaration) (name : List ℕ) (fields : List Field) → type_of_part (part_named name (parts_of ds fields)) ≡ type_among InStruct name fields
part_of_struct ds name fields = parts_types InStruct ds name 0 fields

sees_part : (slot : Option Slot) (offset : ℕ) (part : Option Part) → option_map sight (found_part slot offset part) ≡ sight_part slot (type_of_part part)
sees_part slot offset None = refl
sees_part slot offset (Some part) = refl

-- a part of the state
pub own_part : (ds : List Declaration) (name : List ℕ) (fields : List Field) → option_map sight (found_part None 0 (part_named name (parts_of ds fields))) ≡ sight_part None (type_among InState name fields)
own_part ds name fields = sees_part None 0 (part_named name (parts_of ds fields)) ∙ ap (sight_part None) (parts_types InState ds name 0 fields)

-- a part of a variable
pub field_of : (env : Env) (name : List ℕ) (found : Option Found) (s : Sight) → Some s ≡ option_map sight found → option_map sight (found_field env name found) ≡ sight_part s.slot (type_in env.declarations s.type name)
field_of env name None s e = absurd cc
field_of env name (Some found) s e =
    sees_part found.slot found.offset (part_named name _)
    ∙ ap (λ (s : Sight). sight_part s.slot (type_in env.declarations s.type name)) (sym (some_is e))

pub field_of_none : (env : Env) (name : List ℕ) (found : Option Found) → None ≡ option_map sight found → option_map sight (found_field env name found) ≡ None
field_of_none env name None e = refl
field_of_none env name (Some found) e = absurd cc

-- ---- classes

one_class : (b : Bool) (class : Class) (found : Option Class) (rest : Option Bool) → option_map (λ (class : Class). class.is_regular) found ≡ rest
    → option_map (λ (class : Class). class.is_regular) (if b then Some class else found) ≡ (if b then Some class.is_regular else rest)
one_class true class found rest e = refl
one_class false class found rest e = e

regular_from : (name : List ℕ) (number id : ℕ) (ds : List Declaration) → option_map (λ (class : Class). class.is_regular) (class_named name (classes_from number id ds)) ≡ regular_among name ds
regular_from name number id [] = refl
regular_from name number id (declaration.Struct at line struct fields ∷ others) = regular_from name number id others
regular_from name number id (declaration.Class at line kind class items ∷ others) =
    one_class (bytes_eq class.text name) _ _ (regular_among name others) (regular_from name (number + 1) (id + length (members_from id items)) others)
regular_from name number id (declaration.Function at result function formals body ∷ others) = regular_from name number id others

pub regular_is : (name : List ℕ) (ds : List Declaration) → option_map (λ (class : Class). class.is_regular) (class_named name (classes_from 0 0 ds)) ≡ regular_among name ds
regular_is name ds = regular_from name 0 0 ds

-- the class that a type's name stands for
pub regular_found : (ds : List Declaration) (t : TypeName) (at : At) (name : Name) (text : List ℕ) (r : Option Bool) → t ≡ named.Named at name → text ≡ name.text → r ≡ regular_among text ds → r ≡ regular_type ds t
regular_found ds t at name text r is same found =
    found ∙ ap (λ text. regular_among text ds) same ∙ sym (regular_is name.text ds) ∙ ap (regular_type ds) (sym is)

pub or_none : (o : Option Bool) → or_else o None ≡ o
or_none None = refl
or_none (Some b) = refl

pub class_joins : (old : Option Bool) (b regular : Bool) (rest : Option Bool) → or_else (or_else old (if b then Some regular else None)) rest ≡ or_else old (if b then Some regular else rest)
class_joins None true regular rest = refl
class_joins None false regular rest = refl
class_joins (Some o) b regular rest = refl

-- ---- uses

pub uses_is : (node : ℕ) (found : Option Found) → uses node found ≡ uses_sight node (option_map sight found)
uses_is node None = refl
uses_is node (Some found) = refl

by_class : (node : ℕ) (found : Found) (class : Option Class) → receives node (Some found) class ≡ unless_regular (option_map (λ (class : Class). class.is_regular) class) (forces node found.slot)
by_class node found None = refl
by_class node found (Some class) = refl

pub receives_is : (node : ℕ) (env : Env) (found : Option Found) → receives node found (class_found env found) ≡ receives_sight node env.declarations (option_map sight found)
receives_is node env None = refl
receives_is node env (Some found) = by_class node found (class_found env (Some found))

pub creates_is : (node : ℕ) (found : Option Found) → create_ways node found ≡ creates_sight node (option_map sight found)
creates_is node None = refl
creates_is node (Some found) = refl
