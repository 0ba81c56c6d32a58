-- What is asked of an image is asked of the parts of its program.
use Rattle.std.proofs.Common.{◌≡◌, ℕ, ◌+◌, Bool, true, false, List, [], ◌∷◌, ◌++◌, ◌≤◌, map, Option, Some, None, if◌then◌else◌, append_assoc, arith, ap, sym, subst, ◌∙◌}
use Rattle.std.specs.Prelude.{codes}
use Rattle.std.specs.Str.{bytes_eq}
use Rattle.mpl_ast.specs.declared.class.Entry.{Entry}
use Rattle.mpl_ast.specs.declared.class.Field.{Field}
use Rattle.mpl_ast.specs.declared.class.Item.{Item}
use Rattle.mpl_ast.specs.declared.class.Item.TheVariants as item
use Rattle.mpl_ast.specs.declared.program.Declaration.{Declaration}
use Rattle.mpl_ast.specs.declared.program.Declaration.TheVariants as declaration
use Rattle.mdf_code.specs.declared.raw.RawEntry.{RawEntry}
use Rattle.mdf_code.specs.declared.raw.RawMember.{RawMember}
use Rattle.mpl_mean.proofs.Sizes.SizedRules.{every_left, every_right}
use Rattle.mpl_mean.specs.Laws.Sizes.{Every}
use Rattle.mpl_mean.specs.Meaning.Layout.{Class, Member, Part, formals_of, member_named, members_from, parts_of, words_of_parts}
use Rattle.mpl_gen_code.specs.ExpressionCode.{PlainFunction, plain_functions}
use Rattle.mpl_gen_code.specs.ProgramImage.{all_entries, entries_image, entries_of_select, function_image, member_image, members_image, with_entry}
use Rattle.mpl_layout.specs.Bounds.{StateFits, words_within}
use Rattle.mpl_gen_scope.specs.SeenSelects.{select_seen}
use Rattle.mpl_layout.specs.SeenClasses.{class_seen}
use Rattle.mpl_layout.specs.declared.class.Class as scope
use Rattle.mpl_layout.proofs.Bounds.{fields_laid}
use Rattle.mpl_gen_bounds.specs.ImageFits.{EntryFits, FunctionFits, MemberFits}
use Rattle.mpl_gen_body.specs.Internal.Fitting.{DeclarationFits, ItemFits, ListedFits}

pub items_fit : (ds : List Declaration) (marks : ℕ → Bool) (class : Class) (id : ℕ) (items : List Item) → Every MemberFits (map (member_image ds marks class) (members_from id items)) → Every (ItemFits ds marks class) items
items_fit ds marks class id [] h = tt
items_fit ds marks class id (item.OfField at field ∷ items) h = (tt, items_fit ds marks class id items h)
items_fit ds marks class id (item.Member at result name formals body ∷ items) h = (h.0, items_fit ds marks class (id + 1) items h.1)
items_fit ds marks class id (item.Select at line entries ∷ items) h = (tt, items_fit ds marks class id items h)
items_fit ds marks class id (item.Public at ∷ items) h = (tt, items_fit ds marks class id items h)
items_fit ds marks class id (item.Private at ∷ items) h = (tt, items_fit ds marks class id items h)
items_fit ds marks class id (item.Empty at ∷ items) h = (tt, items_fit ds marks class id items h)

unless_fits : (ds : List Declaration) (marks : ℕ → Bool) (f : PlainFunction) (others : List PlainFunction) (b : Bool) → Every FunctionFits (map (function_image ds marks) (if b then others else f ∷ others))
    → (b ≡ false → FunctionFits (function_image ds marks f)) × Every FunctionFits (map (function_image ds marks) others)
unless_fits ds marks f others true h = ((λ e. absurd cc), h)
unless_fits ds marks f others false h = ((λ e. h.0), h.1)

pub declarations_fit : (ds : List Declaration) (marks : ℕ → Bool) (some : List Declaration) → Every FunctionFits (map (function_image ds marks) (plain_functions some)) → Every (DeclarationFits ds marks) some
declarations_fit ds marks [] h = tt
declarations_fit ds marks (declaration.Struct at line name fields ∷ some) h = (tt, declarations_fit ds marks some h)
declarations_fit ds marks (declaration.Class at line kind name items ∷ some) h = (tt, declarations_fit ds marks some h)
declarations_fit ds marks (declaration.Function at result name formals body ∷ some) h =
    let f : PlainFunction = record { name = name.text; function = record { result = result; formals = formals_of formals; body = body } } in
    let both = unless_fits ds marks f (plain_functions some) (bytes_eq name.text (codes "main")) h in
    (both.0, declarations_fit ds marks some both.1)

with_fits : (ds : List Declaration) (class : Class) (entry : Entry) (o : Option Member) (others : List RawEntry) → Every EntryFits (with_entry ds class entry o others)
    → Every EntryFits (with_entry ds class entry o []) × Every EntryFits others
with_fits ds class entry None others h = (tt, h)
with_fits ds class entry (Some m) others h = ((h.0, tt), h.1)

pub listed_fit : (ds : List Declaration) (class : Class) (entries : List Entry) → Every EntryFits (entries_image ds class entries) → Every (ListedFits ds class) entries
listed_fit ds class [] h = tt
listed_fit ds class (entry ∷ entries) h =
    let both = with_fits ds class entry (member_named entry.member.text class.members) (entries_image ds class entries) h in
    (both.0, listed_fit ds class entries both.1)

-- ---- one class and those behind it

pub entries_split : (ds : List Declaration) (x : scope.Class) (rest later : List scope.Class) → later ≡ x ∷ rest → Every EntryFits (all_entries ds (map class_seen later) (map select_seen later))
    → Every EntryFits (entries_of_select ds (class_seen x) (select_seen x)) × Every EntryFits (all_entries ds (map class_seen rest) (map select_seen rest))
entries_split ds x rest later split h =
    let here = entries_of_select ds (class_seen x) (select_seen x) in
    let others = all_entries ds (map class_seen rest) (map select_seen rest) in
    let all : Every EntryFits (here ++ others) = subst (λ (later : List scope.Class). Every EntryFits (all_entries ds (map class_seen later) (map select_seen later))) split h in
    (every_left EntryFits here others all, every_right EntryFits here others all)

pub entries_more : (ds : List Declaration) (x : scope.Class) (rest later : List scope.Class) (old new end : List RawEntry) → later ≡ x ∷ rest → new ≡ old ++ entries_of_select ds (class_seen x) (select_seen x)
    → old ++ all_entries ds (map class_seen later) (map select_seen later) ≡ end → new ++ all_entries ds (map class_seen rest) (map select_seen rest) ≡ end
entries_more ds x rest later old new end split is before =
    let others = all_entries ds (map class_seen rest) (map select_seen rest) in
    ap (λ (es : List RawEntry). es ++ others) is ∙ append_assoc old (entries_of_select ds (class_seen x) (select_seen x)) others
    ∙ ap (λ (later : List scope.Class). old ++ all_entries ds (map class_seen later) (map select_seen later)) (sym split) ∙ before

pub members_split : (ds : List Declaration) (marks : ℕ → Bool) (x : scope.Class) (rest later : List scope.Class) → later ≡ x ∷ rest → Every MemberFits (members_image ds marks (map class_seen later))
    → Every MemberFits (map (member_image ds marks (class_seen x)) (class_seen x).members) × Every MemberFits (members_image ds marks (map class_seen rest))
members_split ds marks x rest later split h =
    let here = map (member_image ds marks (class_seen x)) (class_seen x).members in
    let others = members_image ds marks (map class_seen rest) in
    let all : Every MemberFits (here ++ others) = subst (λ (later : List scope.Class). Every MemberFits (members_image ds marks (map class_seen later))) split h in
    (every_left MemberFits here others all, every_right MemberFits here others all)

pub members_more : (ds : List Declaration) (marks : ℕ → Bool) (x : scope.Class) (rest later : List scope.Class) (old new end : List RawMember) → later ≡ x ∷ rest
    → new ≡ old ++ map (member_image ds marks (class_seen x)) (class_seen x).members
    → old ++ members_image ds marks (map class_seen later) ≡ end → new ++ members_image ds marks (map class_seen rest) ≡ end
members_more ds marks x rest later old new end split is before =
    let others = members_image ds marks (map class_seen rest) in
    ap (λ (ms : List RawMember). ms ++ others) is ∙ append_assoc old (map (member_image ds marks (class_seen x)) (class_seen x).members) others
    ∙ ap (λ (later : List scope.Class). old ++ members_image ds marks (map class_seen later)) (sym split) ∙ before

pub states_more : (ds : List Declaration) (x : scope.Class) (rest later : List scope.Class) → later ≡ x ∷ rest → Every (StateFits ds) (map class_seen later) → Every (StateFits ds) (map class_seen rest)
states_more ds x rest later split h =
    let all : Every (StateFits ds) (map class_seen (x ∷ rest)) = subst (λ (later : List scope.Class). Every (StateFits ds) (map class_seen later)) split h in
    all.1

-- ---- states have few words

pub few_words : (ds : List Declaration) (parts : List Part) (fields : List Field) → parts ≡ parts_of ds fields → words_within ds fields ≤ 256 → words_of_parts parts ≤ 256
few_words ds parts fields is few = let e : words_of_parts parts ≡ words_within ds fields = ap words_of_parts is ∙ fields_laid ds 0 fields in omega (arith, e, few)
