-- Every type, dimension and local is taken.
use Rattle.std.proofs.Common.{◌≡◌, ℕ, suc, ◌≤◌, List, [], ◌∷◌, map, length, Bool, true, false, Option, Some, None, ap, ◌∙◌, arith}
use Rattle.std.specs.List.{AllByRecursion}
use Rattle.std.specs.Option.{option_map}
use Rattle.mpl_ast.specs.declared.place.At.{At}
use Rattle.mpl_ast.specs.declared.place.Number.{Number}
use Rattle.mpl_ast.specs.declared.statement.Declarator.{Declarator}
use Rattle.mpl_ast.specs.declared.statement.Declarator.TheVariants.{Plain, Initialized}
use Rattle.mpl_ast.specs.declared.statement.Dimension.{Dimension}
use Rattle.mpl_ast.specs.declared.statement.Local.{Local}
use Rattle.mpl_ast.specs.declared.statement.TypeName.{TypeName}
use Rattle.mpl_ast.specs.declared.statement.TypeName.TheVariants as type
use Rattle.mpl_ast.specs.declared.token.Keyword.TheVariants as word
use Rattle.mpl_ast.specs.declared.token.Mark.TheVariants as m
use Rattle.mpl_ast.specs.declared.token.TokenKind.TheVariants as kind
use Rattle.mpl_mean.specs.Text.Reading.{Reads, Rest, ◌>>◌, after_first, is_mark, keyword, mark, mark_on, name, number, optional, separated}
use Rattle.mpl_mean.specs.Text.StatementText.{declarator_text, dimension_text, flow_text, local_text, type_text}
use Rattle.mpl_mean.proofs.Readers.Parts.{Reading, chain, in_turn, some_same}
use Rattle.mpl_trees.specs.Expressions.{second}
use Rattle.mpl_trees.specs.Flows.{take_flow}
use Rattle.mpl_trees.specs.Locals.{declared_behind, take_declarator, take_dimension, take_dimension_if_any, take_local, take_type, type_at}
use Rattle.mpl_trees.specs.Taking.{ahead, alone, between, both, continued, inside, is_ahead, is_any_name, line_of, skip_then, some_of, take_name, take_number, then_skip}
use Rattle.mpl_trees.proofs.Steps.{alone_is, continues, if_false, if_true, joins, makes, skips, skips_behind}
use Rattle.mpl_trees.proofs.Took.{ahead-took, fewer-took, mark_read, noded, takes-name, takes-node, takes-number, took_keyword, took_mark, took_mark_on, took_name}
use Rattle.mpl_trees.proofs.Growth.{Growing, all-of, growing-keyword, growing-less, growing-mark, growing-mark_on, growing-name, growing-node, growing-number, growing-optional, growing-separated, growing-then, rising}
use Rattle.mpl_trees.proofs.Operators.{is_ahead-took}
use Rattle.mpl_trees.proofs.Ends.{Ends}
use Rattle.mpl_trees.proofs.Lists.{ListEnds, Taken, some-taken}
use Rattle.mpl_trees.proofs.Targets.{NamedAhead, second-took}
use Rattle.mpl_trees.proofs.Flows.{flow-is}

-- ---- types

pub data TypeAhead (r : Rest) : Type 0 where
  int : ahead r.tokens ≡ Some (kind.Keyword word.Int) → TypeAhead r
  bool : ahead r.tokens ≡ Some (kind.Keyword word.Bool) → TypeAhead r
  named : NamedAhead r → TypeAhead r

pub growing-type : (t : TypeName) → Growing 1 11 (type_text t)
growing-type (type.Int at) = growing-node at 11 (omega arith) (growing-keyword word.Int)
growing-type (type.Bool at) = growing-node at 11 (omega arith) (growing-keyword word.Bool)
growing-type (type.Named at named_) = growing-node at 11 (omega arith) (growing-name named_)

-- a type is one token
pub record TypeRead (t : TypeName) (r x : Rest) : Type 0 where
  pub taken : (limit : ℕ) → x.next ≤ limit → take_type limit r ≡ Some (t, x)
  pub shorter : length r.tokens ≡ suc (length x.tokens)
  pub second_is : second r.tokens ≡ x.tokens
  pub ahead_is : TypeAhead r

pub type-read : (t : TypeName) {r x : Rest} → Reading (type_text t) r x → TypeRead t r x
type-read (type.Int at) {r = r} h =
    let n = noded at (keyword word.Int) h in
    let t = took_keyword word.Int n.read in
    record {
      taken = λ limit l. ap (λ k. type_at k limit r) (ahead-took t) ∙ takes-node limit (λ at (n : Bool). type.Int at) (alone true (keyword word.Int)) n (rising (growing-type (type.Int at)) h) l (alone_is limit true (keyword word.Int) n.read);
      shorter = fewer-took t;
      second_is = second-took t;
      ahead_is = int (ahead-took t);
    }
type-read (type.Bool at) {r = r} h =
    let n = noded at (keyword word.Bool) h in
    let t = took_keyword word.Bool n.read in
    record {
      taken = λ limit l. ap (λ k. type_at k limit r) (ahead-took t) ∙ takes-node limit (λ at (n : Bool). type.Bool at) (alone true (keyword word.Bool)) n (rising (growing-type (type.Bool at)) h) l (alone_is limit true (keyword word.Bool) n.read);
      shorter = fewer-took t;
      second_is = second-took t;
      ahead_is = bool (ahead-took t);
    }
type-read (type.Named at named_) {r = r} h =
    let n = noded at (name named_) h in
    let t = (took_name named_ n.read).took in
    record {
      taken = λ limit l. ap (λ k. type_at k limit r) (ahead-took t) ∙ takes-node limit type.Named take_name n (rising (growing-type (type.Named at named_)) h) l (takes-name limit named_ n.read);
      shorter = fewer-took t;
      second_is = second-took t;
      ahead_is = named (record { text = named_.text; is = ahead-took t });
    }

-- ---- dimensions

abbrev parts_of : Dimension → List Reads
parts_of d = mark_on d.mark_line m.OpenBracket ∷ number d.number ∷ mark m.CloseBracket ∷ []

pub growing-dimension : (d : Dimension) → Growing 1 0 (dimension_text d)
growing-dimension d = growing-node d.at 0 (omega arith) (growing-then (growing-mark_on d.mark_line m.OpenBracket) (growing-then (growing-number d.number) (growing-mark m.CloseBracket)))

pub record DimensionRead (d : Dimension) (r x : Rest) : Type 0 where
  pub taken : (limit : ℕ) → x.next ≤ limit → take_dimension limit r ≡ Some (d, x)
  pub bracket : is_ahead (is_mark m.OpenBracket) r.tokens ≡ true
  pub no_assign : is_ahead (is_mark m.Assign) r.tokens ≡ false
  pub no_call : is_ahead (is_mark m.OpenParenthesis) r.tokens ≡ false

pub dimension-read : (d : Dimension) {r x : Rest} → Reading (dimension_text d) r x → DimensionRead d r x
dimension-read d {r = r} {x = x} h =
    let n = noded d.at (chain (parts_of d)) h in
    let u = in_turn (parts_of d) n.read in
    let t = took_mark_on d.mark_line m.OpenBracket u.1 in
    let make : ℕ → At → Number → Dimension = λ line at n. record { at = at; mark_line = line; number = n } in
    record {
      taken = λ limit l.
          takes-node limit (make (line_of r.tokens)) (between m.OpenBracket take_number m.CloseBracket) n (rising (growing-dimension d) h) l
          (skips limit (mark m.OpenBracket) (then_skip take_number (mark m.CloseBracket)) (mark_read d.mark_line m.OpenBracket u.1) (skips_behind limit take_number (mark m.CloseBracket) u.0 (takes-number limit d.number u.2.1) u.2.2))
          ∙ ap (λ line. Some (make line d.at d.number, x)) t.line_is;
      bracket = is_ahead-took (is_mark m.OpenBracket) t.took;
      no_assign = is_ahead-took (is_mark m.Assign) t.took;
      no_call = is_ahead-took (is_mark m.OpenParenthesis) t.took;
    }

abbrev pub dimension_if_any : Option Dimension → Reads
dimension_if_any d = optional (option_map dimension_text d)

-- a dimension, or none before what ends a declarator
pub record DimensionIfAny (d : Option Dimension) (r x : Rest) : Type 0 where
  pub taken : (limit : ℕ) → x.next ≤ limit → take_dimension_if_any limit r ≡ Some (d, x)
  pub no_assign : is_ahead (is_mark m.Assign) r.tokens ≡ false
  pub no_call : is_ahead (is_mark m.OpenParenthesis) r.tokens ≡ false

pub dimension-if_any : (d : Option Dimension) {r x : Rest} → Reading (dimension_if_any d) r x → Ends x → DimensionIfAny d r x
dimension-if_any None {r = r} {x = x} h e =
    let same = some_same h.is in
    record {
      taken = λ limit l. if_false (is_ahead (is_mark m.OpenBracket) r.tokens) _ _ (ap (λ (y : Rest). is_ahead (is_mark m.OpenBracket) y.tokens) same ∙ e.follows.bracket) ∙ ap (λ y. Some (None, y)) same;
      no_assign = ap (λ (y : Rest). is_ahead (is_mark m.Assign) y.tokens) same ∙ e.no_assign;
      no_call = ap (λ (y : Rest). is_ahead (is_mark m.OpenParenthesis) y.tokens) same ∙ e.follows.parenthesis;
    }
dimension-if_any (Some d) {r = r} {x = x} h e =
    let p = dimension-read d {r = r} {x = x} (record { is = h.is }) in
    record {
      taken = λ limit l. if_true (is_ahead (is_mark m.OpenBracket) r.tokens) _ _ p.bracket ∙ makes limit Some take_dimension r (p.taken limit l);
      no_assign = p.no_assign;
      no_call = p.no_call;
    }

-- ---- declarators

pub growing-declarator : (c : Declarator) → Growing 1 0 (declarator_text c)
growing-declarator (Plain at variable d) = growing-node at 0 (omega arith) (growing-then (growing-name variable) (growing-optional dimension_text growing-dimension d))
growing-declarator (Initialized at variable f) = growing-node at 0 (omega arith) (growing-then (growing-name variable) (growing-then (growing-mark m.Assign) (flow-is f).grows))

pub declarator-named : (c : Declarator) {r x : Rest} → Reading (declarator_text c) r x → is_ahead is_any_name r.tokens ≡ true
declarator-named (Plain at variable d) h =
    let u = in_turn (name variable ∷ dimension_if_any d ∷ []) (noded at (name variable >> dimension_if_any d) h).read in is_ahead-took is_any_name (took_name variable u.1).took
declarator-named (Initialized at variable f) h =
    let u = in_turn (name variable ∷ mark m.Assign ∷ flow_text f ∷ []) (noded at (name variable >> mark m.Assign >> flow_text f) h).read in is_ahead-took is_any_name (took_name variable u.1).took

pub declarator-taken : (c : Declarator) (d : ℕ) {r x : Rest} → Reading (declarator_text c) r x → Ends x → length r.tokens ≤ d → (limit : ℕ) → x.next ≤ limit → take_declarator (take_flow d) limit r ≡ Some (c, x)
declarator-taken (Plain at variable w) d {r = r} h e k limit l =
    let n = noded at (name variable >> dimension_if_any w) h in
    let u = in_turn (name variable ∷ dimension_if_any w ∷ []) n.read in
    let p = dimension-if_any w u.2 e in
    takes-node limit (λ at (p : At → Declarator). p at) (continued take_name (declared_behind (take_flow d))) n (rising (growing-declarator (Plain at variable w)) h) l
    (continues limit take_name (declared_behind (take_flow d)) (inside r) (takes-name limit variable u.1)
    (if_false (is_ahead (is_mark m.Assign) u.0.tokens) _ _ p.no_assign ∙ makes {B = At → Declarator} limit (λ dimension at. Plain at variable dimension) take_dimension_if_any u.0 (p.taken limit l)))
declarator-taken (Initialized at variable f) d {r = r} h e k limit l =
    let n = noded at (name variable >> mark m.Assign >> flow_text f) h in
    let u = in_turn (name variable ∷ mark m.Assign ∷ flow_text f ∷ []) n.read in
    let t = took_mark m.Assign u.2.1 in
    let value = (flow-is f).taken u.2.2 e d (omega (arith, k, fewer-took (took_name variable u.1).took, fewer-took t)) limit l in
    takes-node limit (λ at (p : At → Declarator). p at) (continued take_name (declared_behind (take_flow d))) n (rising (growing-declarator (Initialized at variable f)) h) l
    (continues limit take_name (declared_behind (take_flow d)) (inside r) (takes-name limit variable u.1)
    (if_true (is_ahead (is_mark m.Assign) u.0.tokens) _ _ (is_ahead-took (is_mark m.Assign) t)
    ∙ makes {B = At → Declarator} limit (λ value at. Initialized at variable value) (skip_then (mark m.Assign) (take_flow d)) u.0 (skips limit (mark m.Assign) (take_flow d) u.2.1 value)))

each_declarator : (d limit : ℕ) (ts : List Declarator) → AllByRecursion (Taken declarator_text (take_declarator (take_flow d)) d limit) ts
each_declarator d limit [] = tt
each_declarator d limit (c ∷ ts) = (record { takes = λ h e k l. declarator-taken c d h e k limit l; grows = growing-less 0 (omega arith) (growing-declarator c) }, each_declarator d limit ts)

-- ---- locals

abbrev parts_of_local : Local → List Reads
parts_of_local l = type_text l.type_name ∷ separated (map declarator_text l.declarators) ∷ []

pub growing-local : (l : Local) → Growing 1 0 (local_text l)
growing-local l = growing-node l.at 0 (omega arith) (growing-then (growing-type l.type_name) (growing-separated 1 0 declarator_text l.declarators (all-of growing-declarator l.declarators)))

first_named : (ts : List Declarator) {r x : Rest} → Reading (separated (map declarator_text ts)) r x → is_ahead is_any_name r.tokens ≡ true
first_named [] h = let nothing_read = h.is in absurd cc
first_named (c ∷ ts) h = declarator-named c (in_turn (declarator_text c ∷ after_first (map declarator_text ts) ∷ []) (record { is = h.is })).1

pub data LocalAhead (r : Rest) : Type 0 where
  of_int : ahead r.tokens ≡ Some (kind.Keyword word.Int) → LocalAhead r
  of_bool : ahead r.tokens ≡ Some (kind.Keyword word.Bool) → LocalAhead r
  of_name : NamedAhead r → is_ahead is_any_name (second r.tokens) ≡ true → LocalAhead r

pub local-ahead : (l : Local) {r x : Rest} → Reading (local_text l) r x → LocalAhead r
local-ahead l {r = r} h =
    let u = in_turn (parts_of_local l) (noded l.at (chain (parts_of_local l)) h).read in
    let t = type-read l.type_name u.1 in
    begun t.ahead_is (ap (is_ahead is_any_name) t.second_is ∙ first_named l.declarators u.2) where
      begun : {r : Rest} → TypeAhead (inside r) → is_ahead is_any_name (second r.tokens) ≡ true → LocalAhead r
      begun (int e) f = of_int e
      begun (bool e) f = of_bool e
      begun (named n) f = of_name (record { text = n.text; is = n.is }) f

pub local-taken : (l : Local) (d : ℕ) {r x : Rest} → Reading (local_text l) r x → ListEnds x → length r.tokens ≤ suc d → (limit : ℕ) → x.next ≤ limit → take_local (take_flow d) limit r ≡ Some (l, x)
local-taken l d {r = r} h e k limit b =
    let n = noded l.at (chain (parts_of_local l)) h in
    let u = in_turn (parts_of_local l) n.read in
    let t = type-read l.type_name u.1 in
    let list = some-taken declarator_text (take_declarator (take_flow d)) d limit l.declarators (each_declarator d limit l.declarators) u.2 e (omega (arith, k, t.shorter)) b in
    takes-node limit (λ at (p : TypeName × List Declarator). record { at = at; type_name = p.0; declarators = p.1 }) (both (λ type_name declarators. (type_name, declarators)) take_type (some_of (take_declarator (take_flow d)))) n (rising (growing-local l) h) b
    (joins limit (λ type_name declarators. (type_name, declarators)) take_type (some_of (take_declarator (take_flow d))) (inside r) (t.taken limit (omega (arith, b, rising (growing-separated 1 0 declarator_text l.declarators (all-of growing-declarator l.declarators)) u.2))) list)
