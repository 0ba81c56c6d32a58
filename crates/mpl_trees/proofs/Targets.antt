-- The target of a place or a call is taken.
use Rattle.std.proofs.Common.{◌≡◌, ◌≤◌, ℕ, arith, List, [], ◌∷◌, Bool, true, false, ◌&&◌, ◌||◌, Some, refl, ap, ◌∙◌}
use Rattle.mpl_ast.specs.declared.expression.Target.{Target}
use Rattle.mpl_ast.specs.declared.expression.Target.TheVariants.{Variable, Field}
use Rattle.mpl_ast.specs.declared.place.Name.{Name}
use Rattle.mpl_ast.specs.declared.token.Keyword.TheVariants as word
use Rattle.mpl_ast.specs.declared.token.Mark.TheVariants as m
use Rattle.mpl_ast.specs.declared.token.Token.{Token}
use Rattle.mpl_ast.specs.declared.token.TokenKind.{TokenKind}
use Rattle.mpl_ast.specs.declared.token.TokenKind.TheVariants as kind
use Rattle.mpl_mean.specs.Text.ExpressionText.{target_text}
use Rattle.mpl_mean.specs.Text.Reading.{Rest, ◌>>◌, is_keyword, is_mark, mark, name}
use Rattle.mpl_mean.proofs.Readers.Parts.{Reading, in_turn}
use Rattle.mpl_trees.specs.Expressions.{begins_call, past_field, second, take_field, take_target}
use Rattle.mpl_trees.specs.Flows.{take_called}
use Rattle.mpl_trees.specs.Statements.{begins_create}
use Rattle.mpl_trees.specs.Taking.{ahead, both, inside, is_ahead, is_any_name, node_of, skip_then, take_name}
use Rattle.mpl_trees.proofs.Steps.{if_false, if_true, joins, skips}
use Rattle.mpl_trees.proofs.Took.{Took, ahead-took, noded, takes-name, takes-node, took_mark, took_name}
use Rattle.mpl_trees.proofs.Growth.{Growing, growing-mark, growing-name, growing-node, growing-then, rising}
use Rattle.mpl_trees.proofs.Insides.{Inside, Moves, dot, inside-mark, inside-name, inside-node, inside-then, moved, word-before, word-behind}
use Rattle.mpl_trees.proofs.Operators.{is_ahead-took}
use Rattle.mpl_trees.specs.declared.position.Position.{Position}
use Rattle.mpl_trees.specs.declared.position.Position.TheVariants.{Before, Behind}

pub growing-target : (t : Target) → Growing 1 11 (target_text t)
growing-target (Variable at variable) = growing-node at 11 (omega arith) (growing-name variable)
growing-target (Field at variable field) = growing-node at 11 (omega arith) (growing-then (growing-name variable) (growing-then (growing-mark m.Dot) (growing-name field)))

-- a name comes first
pub record NamedAhead (r : Rest) : Type 0 where
  pub text : List ℕ
  pub is : ahead r.tokens ≡ Some (kind.Name text)

pub record TargetRead (t : Target) (r x : Rest) : Type 0 where
  pub inside : Inside r x
  pub moves : Moves Before r Behind x
  pub named : NamedAhead r
  pub taken : is_ahead (is_mark m.Dot) x.tokens ≡ false → (limit : ℕ) → x.next ≤ limit → take_target limit r ≡ Some (t, x)
  pub no_call : is_ahead (is_mark m.OpenParenthesis) x.tokens ≡ false → is_ahead (is_mark m.OpenParenthesis) (second r.tokens) ≡ false
  pub no_member : is_ahead (is_mark m.OpenParenthesis) x.tokens ≡ false → is_ahead (is_mark m.Dot) x.tokens ≡ false → begins_call (ahead r.tokens) r.tokens ≡ false
  pub no_name : is_ahead is_any_name x.tokens ≡ false → is_ahead is_any_name (second r.tokens) ≡ false
  pub no_create : is_ahead (is_mark m.Dot) x.tokens ≡ false → begins_create r.tokens ≡ false

-- Behind the target a dot and one token come, and then a parenthesis.
pub record MemberAhead (x : Rest) : Type 0 where
  pub dot : is_ahead (is_mark m.Dot) x.tokens ≡ true
  pub open_ : is_ahead (is_mark m.OpenParenthesis) (second (second x.tokens)) ≡ true
  pub no_dot : is_ahead (is_mark m.Dot) (second (second x.tokens)) ≡ false
  pub no_name : is_ahead is_any_name x.tokens ≡ false
  pub no_open : is_ahead (is_mark m.OpenParenthesis) x.tokens ≡ false

pub record Called (t : Target) (r x : Rest) : Type 0 where
  pub taken : (limit : ℕ) → x.next ≤ limit → take_called limit r ≡ Some (t, x)
  pub begins : begins_call (ahead r.tokens) r.tokens ≡ true
  pub create : begins_create r.tokens ≡ is_ahead (is_keyword word.Create) (second x.tokens)
  pub no_name : is_ahead is_any_name (second r.tokens) ≡ false

-- a node's number is no matter of tokens
pub moves-node : {p q : Position} {r x : Rest} → Moves p (inside r) q x → Moves p r q x
moves-node e = record { same = e.same }

pub second-took : {k : TokenKind} {r x : Rest} → Took k r x → second r.tokens ≡ x.tokens
second-took t = ap second t.first

abbrev created : List Token → Bool
created ts = is_ahead (is_mark m.Dot) ts && (is_ahead (is_keyword word.Create) (second ts) || (is_ahead (is_mark m.Dot) (second (second ts)) && is_ahead (is_keyword word.Create) (second (second (second ts)))))

or_false : (b : Bool) → (b || false) ≡ b
or_false true = refl
or_false false = refl

field-created : (r : Rest) (variable field : Name) {k n x : Rest} → Reading (name variable) (inside r) k → Reading (mark m.Dot) k n → Reading (name field) n x
    → begins_create r.tokens ≡ (is_ahead (is_mark m.Dot) x.tokens && is_ahead (is_keyword word.Create) (second x.tokens))
field-created r variable field {k = k} {n = n} {x = x} g h i =
    let t = (took_name variable g).took in
    let s = took_mark m.Dot h in
    let f = (took_name field i).took in
    ap created (second-took t)
    ∙ ap (λ (b : Bool). b && (is_ahead (is_keyword word.Create) (second k.tokens) || (is_ahead (is_mark m.Dot) (second (second k.tokens)) && is_ahead (is_keyword word.Create) (second (second (second k.tokens)))))) (is_ahead-took (is_mark m.Dot) s)
    ∙ ap (λ ts. is_ahead (is_keyword word.Create) ts || (is_ahead (is_mark m.Dot) (second ts) && is_ahead (is_keyword word.Create) (second (second ts)))) (second-took s)
    ∙ ap (λ (b : Bool). b || (is_ahead (is_mark m.Dot) (second n.tokens) && is_ahead (is_keyword word.Create) (second (second n.tokens)))) (is_ahead-took (is_keyword word.Create) f)
    ∙ ap (λ ts. is_ahead (is_mark m.Dot) ts && is_ahead (is_keyword word.Create) (second ts)) (second-took f)

pub target-read : (t : Target) {r x : Rest} → Reading (target_text t) r x → TargetRead t r x
target-read (Variable at variable) {r = r} {x = x} h =
    let n = noded at (name variable) h in
    let t = (took_name variable n.read).took in
    record {
      inside = inside-node (inside-name variable n.read);
      moves = moves-node (word-before (λ level go. refl) t);
      named = record { text = variable.text; is = ahead-took t };
      taken = λ e limit l.
          if_false (is_ahead (is_mark m.Dot) (second r.tokens)) (take_field limit r) (node_of Variable take_name limit r) (ap (is_ahead (is_mark m.Dot)) (second-took t) ∙ e)
          ∙ takes-node limit Variable take_name n (rising (growing-target (Variable at variable)) h) l (takes-name limit variable n.read);
      no_call = λ e. ap (is_ahead (is_mark m.OpenParenthesis)) (second-took t) ∙ e;
      no_member = λ e f. ap (λ k. begins_call k r.tokens) (ahead-took t) ∙ ap (λ ts. is_ahead (is_mark m.Dot) ts && (is_ahead (is_mark m.OpenParenthesis) (second (second ts)) || is_ahead (is_mark m.Dot) (second (second ts)))) (second-took t) ∙ ap (λ (b : Bool). b && (is_ahead (is_mark m.OpenParenthesis) (second (second x.tokens)) || is_ahead (is_mark m.Dot) (second (second x.tokens)))) f;
      no_name = λ e. ap (is_ahead is_any_name) (second-took t) ∙ e;
      no_create = λ e. ap created (second-took t) ∙ ap (λ (b : Bool). b && (is_ahead (is_keyword word.Create) (second x.tokens) || (is_ahead (is_mark m.Dot) (second (second x.tokens)) && is_ahead (is_keyword word.Create) (second (second (second x.tokens)))))) e;
    }
target-read (Field at variable field) {r = r} {x = x} h =
    let n = noded at (name variable >> mark m.Dot >> name field) h in
    let u = in_turn (name variable ∷ mark m.Dot ∷ name field ∷ []) n.read in
    let t = (took_name variable u.1).took in
    let s = took_mark m.Dot u.2.1 in
    record {
      inside = inside-node (inside-then (inside-name variable u.1) (inside-then (inside-mark dot s) (inside-name field u.2.2)));
      moves = moves-node (moved (word-before (λ level go. refl) t) (moved (word-behind (λ level go. refl) s) (word-behind (λ level go. refl) (took_name field u.2.2).took)));
      named = record { text = variable.text; is = ahead-took t };
      taken = λ e limit l.
          if_true (is_ahead (is_mark m.Dot) (second r.tokens)) (take_field limit r) (node_of Variable take_name limit r) (ap (is_ahead (is_mark m.Dot)) (second-took t) ∙ is_ahead-took (is_mark m.Dot) s)
          ∙ takes-node limit (λ at (p : Name × Name). Field at p.0 p.1) (both (λ variable field. (variable, field)) take_name (skip_then (mark m.Dot) take_name)) n (rising (growing-target (Field at variable field)) h) l
          (joins limit (λ variable field. (variable, field)) take_name (skip_then (mark m.Dot) take_name) (inside r) (takes-name limit variable u.1) (skips limit (mark m.Dot) take_name u.2.1 (takes-name limit field u.2.2)));
      no_call = λ e. ap (is_ahead (is_mark m.OpenParenthesis)) (second-took t) ∙ is_ahead-took (is_mark m.OpenParenthesis) s;
      no_member = λ e f.
          ap (λ k. begins_call k r.tokens) (ahead-took t)
          ∙ ap (λ ts. is_ahead (is_mark m.Dot) ts && (is_ahead (is_mark m.OpenParenthesis) (second (second ts)) || is_ahead (is_mark m.Dot) (second (second ts)))) (second-took t)
          ∙ ap (λ (b : Bool). b && (is_ahead (is_mark m.OpenParenthesis) (second (second u.0.tokens)) || is_ahead (is_mark m.Dot) (second (second u.0.tokens)))) (is_ahead-took (is_mark m.Dot) s)
          ∙ ap (λ ts. is_ahead (is_mark m.OpenParenthesis) (second ts) || is_ahead (is_mark m.Dot) (second ts)) (second-took s)
          ∙ ap (λ ts. is_ahead (is_mark m.OpenParenthesis) ts || is_ahead (is_mark m.Dot) ts) (second-took (took_name field u.2.2).took)
          ∙ ap (λ (b : Bool). b || is_ahead (is_mark m.Dot) x.tokens) e ∙ f;
      no_name = λ e. ap (is_ahead is_any_name) (second-took t) ∙ is_ahead-took is_any_name s;
      no_create = λ e. field-created r variable field u.1 u.2.1 u.2.2 ∙ ap (λ (b : Bool). b && is_ahead (is_keyword word.Create) (second x.tokens)) e;
    }

-- ---- before a call

pub target-called : (t : Target) {r x : Rest} → Reading (target_text t) r x → MemberAhead x → Called t r x
target-called (Variable at variable) {r = r} {x = x} h a =
    let n = noded at (name variable) h in
    let t = (took_name variable n.read).took in
    record {
      taken = λ limit l.
          if_true (is_ahead (is_mark m.OpenParenthesis) (past_field r.tokens)) (node_of Variable take_name limit r) (take_field limit r) (ap (λ ts. is_ahead (is_mark m.OpenParenthesis) (second (second ts))) (second-took t) ∙ a.open_)
          ∙ takes-node limit Variable take_name n (rising (growing-target (Variable at variable)) h) l (takes-name limit variable n.read);
      begins =
          ap (λ k. begins_call k r.tokens) (ahead-took t)
          ∙ ap (λ ts. is_ahead (is_mark m.Dot) ts && (is_ahead (is_mark m.OpenParenthesis) (second (second ts)) || is_ahead (is_mark m.Dot) (second (second ts)))) (second-took t)
          ∙ ap (λ (b : Bool). b && (is_ahead (is_mark m.OpenParenthesis) (second (second x.tokens)) || is_ahead (is_mark m.Dot) (second (second x.tokens)))) a.dot
          ∙ ap (λ (b : Bool). b || is_ahead (is_mark m.Dot) (second (second x.tokens))) a.open_;
      create =
          ap created (second-took t)
          ∙ ap (λ (b : Bool). b && (is_ahead (is_keyword word.Create) (second x.tokens) || (is_ahead (is_mark m.Dot) (second (second x.tokens)) && is_ahead (is_keyword word.Create) (second (second (second x.tokens)))))) a.dot
          ∙ ap (λ (b : Bool). is_ahead (is_keyword word.Create) (second x.tokens) || (b && is_ahead (is_keyword word.Create) (second (second (second x.tokens))))) a.no_dot
          ∙ or_false (is_ahead (is_keyword word.Create) (second x.tokens));
      no_name = ap (is_ahead is_any_name) (second-took t) ∙ a.no_name;
    }
target-called (Field at variable field) {r = r} {x = x} h a =
    let n = noded at (name variable >> mark m.Dot >> name field) h in
    let u = in_turn (name variable ∷ mark m.Dot ∷ name field ∷ []) n.read in
    let t = (took_name variable u.1).took in
    let s = took_mark m.Dot u.2.1 in
    let f = (took_name field u.2.2).took in
    let past : past_field r.tokens ≡ x.tokens = ap (λ ts. second (second ts)) (second-took t) ∙ ap second (second-took s) ∙ second-took f in
    let dotted = ap (is_ahead (is_mark m.Dot)) (second-took t) ∙ is_ahead-took (is_mark m.Dot) s in
    record {
      taken = λ limit l.
          if_false (is_ahead (is_mark m.OpenParenthesis) (past_field r.tokens)) (node_of Variable take_name limit r) (take_field limit r) (ap (is_ahead (is_mark m.OpenParenthesis)) past ∙ a.no_open)
          ∙ takes-node limit (λ at (p : Name × Name). Field at p.0 p.1) (both (λ variable field. (variable, field)) take_name (skip_then (mark m.Dot) take_name)) n (rising (growing-target (Field at variable field)) h) l
          (joins limit (λ variable field. (variable, field)) take_name (skip_then (mark m.Dot) take_name) (inside r) (takes-name limit variable u.1) (skips limit (mark m.Dot) take_name u.2.1 (takes-name limit field u.2.2)));
      begins =
          ap (λ k. begins_call k r.tokens) (ahead-took t)
          ∙ ap (λ (b : Bool). b && (is_ahead (is_mark m.OpenParenthesis) (past_field r.tokens) || is_ahead (is_mark m.Dot) (past_field r.tokens))) dotted
          ∙ ap (λ ts. is_ahead (is_mark m.OpenParenthesis) ts || is_ahead (is_mark m.Dot) ts) past
          ∙ ap (λ (b : Bool). b || is_ahead (is_mark m.Dot) x.tokens) a.no_open ∙ a.dot;
      create = field-created r variable field u.1 u.2.1 u.2.2 ∙ ap (λ (b : Bool). b && is_ahead (is_keyword word.Create) (second x.tokens)) a.dot;
      no_name = ap (is_ahead is_any_name) (second-took t) ∙ is_ahead-took is_any_name s;
    }
