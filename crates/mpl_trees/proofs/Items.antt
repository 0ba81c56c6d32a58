-- Items of classes are taken.
use Rattle.std.proofs.Common.{◌≡◌, ℕ, suc, ◌≤◌, List, [], ◌∷◌, length, Bool, true, Option, Some, refl, ap, ◌∙◌, arith}
use Rattle.std.specs.List.{AllByRecursion}
use Rattle.mpl_ast.specs.declared.class.Entry.{Entry}
use Rattle.mpl_ast.specs.declared.class.Field.{Field}
use Rattle.mpl_ast.specs.declared.class.Formals.{Formals}
use Rattle.mpl_ast.specs.declared.class.Item.{Item}
use Rattle.mpl_ast.specs.declared.class.Item.TheVariants as item
use Rattle.mpl_ast.specs.declared.class.ResultType.{ResultType}
use Rattle.mpl_ast.specs.declared.class.ResultType.TheVariants.{Void, Typed}
use Rattle.mpl_ast.specs.declared.place.At.{At}
use Rattle.mpl_ast.specs.declared.place.Name.{Name}
use Rattle.mpl_ast.specs.declared.statement.Block.{Block}
use Rattle.mpl_ast.specs.declared.token.Keyword.TheVariants as word
use Rattle.mpl_ast.specs.declared.token.Mark.TheVariants as m
use Rattle.mpl_mean.specs.Text.Reading.{Reads, Rest, ◌>>◌, is_mark, keyword, mark, name, node}
use Rattle.mpl_mean.specs.Text.StatementText.{type_text}
use Rattle.mpl_mean.proofs.Readers.Parts.{Reading, Through, chain, in_turn}
use Rattle.mpl_trees.specs.Expressions.{second}
use Rattle.mpl_trees.specs.Locals.{take_type}
use Rattle.mpl_trees.specs.Taking.{Takes, ahead, alone, both, inside, is_ahead, skip_then, take_name, then_skip}
use Rattle.mpl_trees.proofs.Steps.{alone_is, if_false, if_true, joins, skips, skips_behind}
use Rattle.mpl_trees.proofs.Took.{ahead-took, fewer-took, noded, takes-name, takes-node, took_keyword, took_mark, took_name}
use Rattle.mpl_trees.proofs.Growth.{Growing, all-of, growing-each, growing-keyword, growing-mark, growing-mark_on, growing-name, growing-node, growing-then, rising}
use Rattle.mpl_trees.proofs.Operators.{is_ahead-took}
use Rattle.mpl_trees.proofs.Targets.{second-took}
use Rattle.mpl_trees.proofs.Locals.{TypeAhead, bool, growing-type, int, named, type-read}
use Rattle.mpl_trees.proofs.Blocks.{PartAhead, PartTaken, part-node, part_ahead}
use Rattle.mpl_mean.specs.Text.ProgramText.{entry_text, field_text, item_text, result_text}
use Rattle.mpl_trees.specs.Programs.{item_at, take_braced, take_entry, take_field, take_function, take_item, take_member, take_typed, take_typed_item, take_void}
use Rattle.mpl_trees.proofs.Members.{braced-taken, braces, each_entry, field-read, function-taken, function_parts, growing-entry, growing-field, growing-function, rising-function, type-node, type_begins}

pub record IsItem (i : Item) : Type 0 where
  pub begins : {r x : Rest} → Reading (item_text i) r x → PartAhead r
  pub grows : Growing 1 0 (item_text i)
  pub taken : {r x : Rest} → Reading (item_text i) r x → (limit : ℕ) → x.next ≤ limit → take_item limit r ≡ Some (i, x)

-- ---- fields

typed : (limit : ℕ) {r x : Rest} {i : Item} → TypeAhead r → take_typed_item limit r ≡ Some (i, x) → take_item limit r ≡ Some (i, x)
typed limit {r = r} (int e) f = ap (λ k. item_at k limit r) e ∙ f
typed limit {r = r} (bool e) f = ap (λ k. item_at k limit r) e ∙ f
typed limit {r = r} (named n) f = ap (λ k. item_at k limit r) n.is ∙ f

of_field-is : (at : At) (f : Field) → IsItem (item.OfField at f)
of_field-is at f = record {
  begins = λ h. part-node (type_begins (field-read f (noded at (field_text f) h).read).ahead_is);
  grows = growing-node at 0 (omega arith) (growing-field f);
  taken = λ {r = r} h limit l.
      let n = noded at (field_text f) h in
      let p = field-read f n.read in
      typed limit (type-node p.ahead_is) (if_false (is_ahead (is_mark m.OpenParenthesis) (second (second r.tokens))) _ _ p.no_call ∙ takes-node limit item.OfField take_field n (omega (arith, rising (growing-field f) n.read)) l (p.taken limit l));
}

-- ---- members

abbrev member_parts : ResultType → Name → Option Formals → Block → List Reads
member_parts result n formals body = result_text result ∷ name n ∷ function_parts formals body

growing-result : (t : ResultType) → Growing 1 10 (result_text t)
growing-result (Void at) = growing-node at 10 (omega arith) (growing-keyword word.Void)
growing-result (Typed at type) = growing-node at 10 (omega arith) (growing-type type)

-- what stands before a member's name is one token
record ResultRead (t : ResultType) (r x : Rest) : Type 0 where
  kind : Takes ResultType
  taken : (limit : ℕ) → x.next ≤ limit → kind limit r ≡ Some (t, x)
  shorter : length r.tokens ≡ suc (length x.tokens)
  second_is : second r.tokens ≡ x.tokens
  begins : PartAhead r
  chosen : (limit : ℕ) (q : Rest) {y : Rest} {i : Item} → q.tokens ≡ r.tokens → is_ahead (is_mark m.OpenParenthesis) (second (second q.tokens)) ≡ true → take_member kind limit q ≡ Some (i, y) → take_item limit q ≡ Some (i, y)

type_same : (q r : Rest) → q.tokens ≡ r.tokens → TypeAhead r → TypeAhead q
type_same q r e (int f) = int (ap ahead e ∙ f)
type_same q r e (bool f) = bool (ap ahead e ∙ f)
type_same q r e (named n) = named (record { text = n.text; is = ap ahead e ∙ n.is })

result-read : (t : ResultType) {r x : Rest} → Reading (result_text t) r x → ResultRead t r x
result-read (Void at) {r = r} h =
    let n = noded at (keyword word.Void) h in
    let t = took_keyword word.Void n.read in
    record {
      kind = take_void;
      taken = λ limit l. takes-node limit (λ at (n : Bool). Void at) (alone true (keyword word.Void)) n (rising (growing-result (Void at)) h) l (alone_is limit true (keyword word.Void) n.read);
      shorter = fewer-took t;
      second_is = second-took t;
      begins = part_ahead r (ahead-took t) refl refl;
      chosen = λ limit q e f g. ap (λ k. item_at k limit q) (ap ahead e ∙ ahead-took t) ∙ g;
    }
result-read (Typed at type) {r = r} h =
    let n = noded at (type_text type) h in
    let t = type-read type n.read in
    record {
      kind = take_typed;
      taken = λ limit l. takes-node limit Typed take_type n (rising (growing-result (Typed at type)) h) l (t.taken limit l);
      shorter = t.shorter;
      second_is = t.second_is;
      begins = part-node (type_begins t.ahead_is);
      chosen = λ limit q e f g. typed limit (type_same q r e (type-node t.ahead_is)) (if_true (is_ahead (is_mark m.OpenParenthesis) (second (second q.tokens))) _ _ f ∙ g);
    }

member-is : (at : At) (result : ResultType) (member : Name) (formals : Option Formals) (body : Block) → IsItem (item.Member at result member formals body)
member-is at result member formals body = record {
  begins = λ h. part-node (result-read result (read h).1).begins;
  grows = grown;
  taken = λ {r = r} h limit l.
      let n = noded at (chain (member_parts result member formals body)) h in
      let u = in_turn (member_parts result member formals body) n.read in
      let p = result-read result u.1 in
      let behind = both (λ (n : Name) (p : Option Formals × Block). (n, p)) take_name take_function in
      p.chosen limit r refl
      (ap (λ ts. is_ahead (is_mark m.OpenParenthesis) (second ts)) p.second_is ∙ ap (is_ahead (is_mark m.OpenParenthesis)) (second-took (took_name member u.2.1).took) ∙ is_ahead-took (is_mark m.OpenParenthesis) (took_mark m.OpenParenthesis u.2.2.1))
      (takes-node limit (λ at (p : ResultType × (Name × (Option Formals × Block))). item.Member at p.0 p.1.0 p.1.1.0 p.1.1.1) (both (λ (r : ResultType) (p : Name × (Option Formals × Block)). (r, p)) p.kind behind) n (rising grown h) l
      (joins limit (λ (r : ResultType) (p : Name × (Option Formals × Block)). (r, p)) p.kind behind (inside r) (p.taken limit (omega (arith, l, (took_name member u.2.1).took.next, rising-function formals body u.2.2)))
      (joins limit (λ (n : Name) (p : Option Formals × Block). (n, p)) take_name take_function u.0 (takes-name limit member u.2.1) (function-taken formals body u.2.2 limit l))));
} where
  grown : Growing 1 0 (item_text (item.Member at result member formals body))
  grown = growing-node at 0 (omega arith) (growing-then (growing-result result) (growing-then (growing-name member) (growing-function formals body)))

  read : {r x : Rest} → Reading (item_text (item.Member at result member formals body)) r x → Through (member_parts result member formals body) (inside r) x
  read h = in_turn (member_parts result member formals body) (noded at (chain (member_parts result member formals body)) h).read

-- ---- the other items

abbrev select_parts : ℕ → List Entry → List Reads
select_parts line es = keyword word.Select ∷ braces entry_text line es

select-is : (at : At) (line : ℕ) (es : List Entry) → IsItem (item.Select at line es)
select-is at line es = record {
  begins = λ {r = r} h. part_ahead r (ahead-took (took_keyword word.Select (read h).1)) refl refl;
  grows = grown;
  taken = λ {r = r} h limit l.
      let n = noded at (chain (select_parts line es)) h in
      let u = in_turn (select_parts line es) n.read in
      let list = braced-taken limit entry_text take_entry line es u.0 (each_entry (length u.0.tokens) limit es) u.2.1 u.2.2.1 u.2.2.2 l in
      ap (λ k. item_at k limit r) (ahead-took (took_keyword word.Select u.1))
      ∙ takes-node limit (λ at (p : List Entry × ℕ). item.Select at p.1 p.0) (skip_then (keyword word.Select) (take_braced take_entry)) n (rising grown h) l (skips limit (keyword word.Select) (take_braced take_entry) u.1 list);
} where
  grown : Growing 1 0 (item_text (item.Select at line es))
  grown =
      growing-node at 0 (omega arith) (growing-then (growing-keyword word.Select) (growing-then (growing-mark m.OpenBrace)
      (growing-then (growing-each 1 0 entry_text es (all-of growing-entry es)) (growing-mark_on line m.CloseBrace))))

  read : {r x : Rest} → Reading (item_text (item.Select at line es)) r x → Through (select_parts line es) (inside r) x
  read h = in_turn (select_parts line es) (noded at (chain (select_parts line es)) h).read

public-is : (at : At) → IsItem (item.Public at)
public-is at = record {
  begins = λ {r = r} h. part_ahead r (ahead-took (took_keyword word.Public (read h).1)) refl refl;
  grows = grown;
  taken = λ {r = r} h limit l.
      let n = noded at (keyword word.Public >> mark m.Colon) h in
      let u = read h in
      ap (λ k. item_at k limit r) (ahead-took (took_keyword word.Public u.1))
      ∙ takes-node limit (λ at (n : Bool). item.Public at) (then_skip (alone true (keyword word.Public)) (mark m.Colon)) n (rising grown h) l (skips_behind limit (alone true (keyword word.Public)) (mark m.Colon) (inside r) (alone_is limit true (keyword word.Public) u.1) u.2);
} where
  grown : Growing 1 0 (item_text (item.Public at))
  grown = growing-node at 0 (omega arith) (growing-then (growing-keyword word.Public) (growing-mark m.Colon))

  read : {r x : Rest} → Reading (node at (keyword word.Public >> mark m.Colon)) r x → Through (keyword word.Public ∷ mark m.Colon ∷ []) (inside r) x
  read h = in_turn (keyword word.Public ∷ mark m.Colon ∷ []) (noded at (keyword word.Public >> mark m.Colon) h).read

private-is : (at : At) → IsItem (item.Private at)
private-is at = record {
  begins = λ {r = r} h. part_ahead r (ahead-took (took_keyword word.Private (read h).1)) refl refl;
  grows = grown;
  taken = λ {r = r} h limit l.
      let n = noded at (keyword word.Private >> mark m.Colon) h in
      let u = read h in
      ap (λ k. item_at k limit r) (ahead-took (took_keyword word.Private u.1))
      ∙ takes-node limit (λ at (n : Bool). item.Private at) (then_skip (alone true (keyword word.Private)) (mark m.Colon)) n (rising grown h) l (skips_behind limit (alone true (keyword word.Private)) (mark m.Colon) (inside r) (alone_is limit true (keyword word.Private) u.1) u.2);
} where
  grown : Growing 1 0 (item_text (item.Private at))
  grown = growing-node at 0 (omega arith) (growing-then (growing-keyword word.Private) (growing-mark m.Colon))

  read : {r x : Rest} → Reading (node at (keyword word.Private >> mark m.Colon)) r x → Through (keyword word.Private ∷ mark m.Colon ∷ []) (inside r) x
  read h = in_turn (keyword word.Private ∷ mark m.Colon ∷ []) (noded at (keyword word.Private >> mark m.Colon) h).read

empty-is : (at : At) → IsItem (item.Empty at)
empty-is at = record {
  begins = λ {r = r} h. part_ahead r (ahead-took (took_mark m.Semicolon (noded at (mark m.Semicolon) h).read)) refl refl;
  grows = grown;
  taken = λ {r = r} h limit l.
      let n = noded at (mark m.Semicolon) h in
      ap (λ k. item_at k limit r) (ahead-took (took_mark m.Semicolon n.read)) ∙ takes-node limit (λ at (n : Bool). item.Empty at) (alone true (mark m.Semicolon)) n (rising grown h) l (alone_is limit true (mark m.Semicolon) n.read);
} where
  grown : Growing 1 0 (item_text (item.Empty at))
  grown = growing-node at 0 (omega arith) (growing-mark m.Semicolon)

pub item-is : (i : Item) → IsItem i
item-is (item.OfField at field) = of_field-is at field
item-is (item.Member at result member formals body) = member-is at result member formals body
item-is (item.Select at line entries) = select-is at line entries
item-is (item.Public at) = public-is at
item-is (item.Private at) = private-is at
item-is (item.Empty at) = empty-is at

pub each_item : (d limit : ℕ) (is : List Item) → AllByRecursion (PartTaken item_text take_item d limit) is
each_item d limit [] = tt
each_item d limit (i ∷ is) = (record { begins = λ h. (item-is i).begins h; grows = (item-is i).grows; takes = λ h e k l. (item-is i).taken h limit l }, each_item d limit is)
