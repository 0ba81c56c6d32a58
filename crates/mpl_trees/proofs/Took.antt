-- What a reader of one token took, and that the parser takes the same.
use Rattle.std.proofs.Common.{◌≡◌, ◌≤◌, ◌+◌, ℕ, ℤ, suc, arith, Bool, true, ◌&&◌, ◌==◌, List, [], ◌∷◌, length, Option, Some, None, if◌then◌else◌, refl, ap, sym, ◌∙◌}
use Rattle.std.specs.Option.{option_and_then, option_map}
use Rattle.std.proofs.lemmas.Bool.{le-leb}
use Rattle.std.proofs.lemmas.Bool.Decides.{Decides-eqb}
use Rattle.mpl_ast.specs.declared.place.At.{At}
use Rattle.mpl_ast.specs.declared.place.Name.{Name}
use Rattle.mpl_ast.specs.declared.place.Number.{Number}
use Rattle.mpl_ast.specs.declared.token.Keyword.{Keyword}
use Rattle.mpl_ast.specs.declared.token.Mark.{Mark}
use Rattle.mpl_ast.specs.declared.token.Token.{Token}
use Rattle.mpl_ast.specs.declared.token.TokenKind.{TokenKind}
use Rattle.mpl_ast.specs.declared.token.TokenKind.TheVariants as kind
use Rattle.mpl_mean.specs.Text.Reading.{Reads, Rest, begins, ended, is_keyword, is_mark, is_name, is_number, keyword, mark, mark_on, name, node, number, token, token_from}
use Rattle.mpl_mean.proofs.Readers.Parts.{Reading, if_read, some_same}
use Rattle.mpl_mean.proofs.Readers.Tokens.{keyword_is, mark_is, name_is, number_is}
use Rattle.mpl_mean.proofs.Truth.{both_true}
use Rattle.mpl_trees.specs.Taking.{Takes, ahead, fitting, from_of, inside, line_of, node_of, past, place, start_of, take_name, take_number}

-- ---- the token

-- a token of the kind was taken, and nothing else
pub record Took (k : TokenKind) (r x : Rest) : Type 0 where
  pub token : Token
  pub first : r.tokens ≡ token ∷ x.tokens
  pub kind : token.kind ≡ k
  pub last : x.last ≡ token.span.to
  pub next : x.next ≡ r.next

record TookToken (test : Token → Bool) (ts : List Token) (next : ℕ) (x : Rest) : Type 0 where
  token : Token
  first : ts ≡ token ∷ x.tokens
  fits : test token ≡ true
  last : x.last ≡ token.span.to
  same : x.next ≡ next

took_from : (test : Token → Bool) (ts : List Token) (next : ℕ) (x : Rest) → token_from test ts next ≡ Some x → TookToken test ts next x
took_from test [] next x h = absurd cc
took_from test (t ∷ ts) next x h =
    let p = if_read (test t) (Some (past t ts next)) x h in
    let e = some_same p.1 in
    record { token = t; first = ap (λ (y : Rest). t ∷ y.tokens) e; fits = p.0; last = sym (ap (λ (y : Rest). y.last) e); same = sym (ap (λ (y : Rest). y.next) e) }

took_token : (test : Token → Bool) {r x : Rest} → Reading (token test) r x → TookToken test r.tokens r.next x
took_token test {r = r} {x = x} h = took_from test r.tokens r.next x h.is

pub took_mark : (o : Mark) {r x : Rest} → Reading (mark o) r x → Took (kind.Mark o) r x
took_mark o h =
    let p = took_token (λ t. is_mark o t.kind) h in
    record { token = p.token; first = p.first; kind = mark_is o p.token.kind p.fits; last = p.last; next = p.same }

pub took_keyword : (w : Keyword) {r x : Rest} → Reading (keyword w) r x → Took (kind.Keyword w) r x
took_keyword w h =
    let p = took_token (λ t. is_keyword w t.kind) h in
    record { token = p.token; first = p.first; kind = keyword_is w p.token.kind p.fits; last = p.last; next = p.same }

-- a mark and its line
pub record TookMark (line : ℕ) (o : Mark) (r x : Rest) : Type 0 where
  pub took : Took (kind.Mark o) r x
  pub line_is : line_of r.tokens ≡ line

pub took_mark_on : (line : ℕ) (o : Mark) {r x : Rest} → Reading (mark_on line o) r x → TookMark line o r x
took_mark_on line o h =
    let p = took_token (λ t. is_mark o t.kind && (t.line == line)) h in
    let q = both_true _ _ p.fits in
    record {
      took = record { token = p.token; first = p.first; kind = mark_is o p.token.kind q.0; last = p.last; next = p.same };
      line_is = ap line_of p.first ∙ (Decides-eqb p.token.line line).0 q.1;
    }

-- a name, and that the parser takes it
pub record TookName (n : Name) (r x : Rest) : Type 0 where
  pub took : Took (kind.Name n.text) r x
  pub from_is : took.token.span.from ≡ n.from

pub took_name : (n : Name) {r x : Rest} → Reading (name n) r x → TookName n r x
took_name n h =
    let p = took_token (λ t. is_name n.text t.kind && (t.span.from == n.from)) h in
    let q = both_true _ _ p.fits in
    record {
      took = record { token = p.token; first = p.first; kind = name_is n.text p.token.kind q.0; last = p.last; next = p.same };
      from_is = (Decides-eqb p.token.span.from n.from).0 q.1;
    }

pub took_value : (value : ℤ) {r x : Rest} → Reading (token (λ t. is_number value t.kind)) r x → Took (kind.Number value) r x
took_value value h =
    let p = took_token (λ t. is_number value t.kind) h in
    record { token = p.token; first = p.first; kind = number_is value p.token.kind p.fits; last = p.last; next = p.same }

pub record TookNumber (n : Number) (r x : Rest) : Type 0 where
  pub took : Took (kind.Number n.value) r x
  pub from_is : took.token.span.from ≡ n.from

pub took_number : (n : Number) {r x : Rest} → Reading (number n) r x → TookNumber n r x
took_number n h =
    let p = took_token (λ t. is_number n.value t.kind && (t.span.from == n.from)) h in
    let q = both_true _ _ p.fits in
    record {
      took = record { token = p.token; first = p.first; kind = number_is n.value p.token.kind q.0; last = p.last; next = p.same };
      from_is = (Decides-eqb p.token.span.from n.from).0 q.1;
    }

-- ---- the parser's

pub ahead-took : {k : TokenKind} {r x : Rest} → Took k r x → ahead r.tokens ≡ Some k
ahead-took t = ap ahead t.first ∙ ap Some t.kind

pub fewer-took : {k : TokenKind} {r x : Rest} → Took k r x → length r.tokens ≡ suc (length x.tokens)
fewer-took t = ap length t.first

pub rest_same : (x y : Rest) → x.tokens ≡ y.tokens → x.last ≡ y.last → x.next ≡ y.next → x ≡ y
rest_same x y e f g =
    let rest : List Token → ℕ → ℕ → Rest = λ ts l n. record { tokens = ts; last = l; next = n } in
    ap (λ ts. rest ts x.last x.next) e ∙ ap (λ l. rest y.tokens l x.next) f ∙ ap (λ n. rest y.tokens y.last n) g

pub past-took : {k : TokenKind} {r x : Rest} (t : Took k r x) → past t.token x.tokens r.next ≡ x
past-took {r = r} {x = x} t = rest_same (past t.token x.tokens r.next) x refl (sym t.last) (sym t.next)

name_taken : (limit from : ℕ) (n : Name) {r x : Rest} (t : Took (kind.Name n.text) r x) → t.token.span.from ≡ n.from → take_name limit r ≡ Some (n, x)
name_taken limit from n {r = r} {x = x} t e =
    let named : ℕ → Name = λ from. record { from = from; text = n.text } in
    rw (t.first, t.kind, e, past-took t) refl

pub takes-name : (limit : ℕ) (n : Name) {r x : Rest} → Reading (name n) r x → take_name limit r ≡ Some (n, x)
takes-name limit n h = let t = took_name n h in name_taken limit n.from n t.took t.from_is

pub takes-number : (limit : ℕ) (n : Number) {r x : Rest} → Reading (number n) r x → take_number limit r ≡ Some (n, x)
takes-number limit n h = let t = took_number n h in rw (t.took.first, t.took.kind, t.from_is, past-took t.took) refl

-- ---- nodes

-- what a node's reader tells: its place is that which the parser makes
pub record Noded (at : At) (parts : Reads) (r x : Rest) : Type 0 where
  pub read : Reading parts (inside r) x
  pub place_is : place (start_of r) x.last ≡ at

record Begun (at : At) (ts : List Token) : Type 0 where
  from_is : from_of ts ≡ at.span.from
  line_is : line_of ts ≡ at.line
  first : Token
  others : List Token
  is : ts ≡ first ∷ others

begun : (at : At) (ts : List Token) → begins at ts ≡ true → Begun at ts
begun at [] h = absurd cc
begun at (t ∷ ts) h =
    let p = both_true _ _ h in
    record { from_is = sym ((Decides-eqb at.span.from t.span.from).0 p.0); line_is = sym ((Decides-eqb at.line t.line).0 p.1); first = t; others = ts; is = refl }

ended_at : (at : At) (o : Option Rest) (x : Rest) → ended at o ≡ Some x → (o ≡ Some x) × (at.span.to ≡ x.last)
ended_at at None x h = absurd cc
ended_at at (Some y) x h =
    let p = if_read _ _ _ h in
    (p.1, (Decides-eqb at.span.to y.last).0 p.0 ∙ ap (λ (z : Rest). z.last) (some_same p.1))

at_is : (at : At) (from to line id : ℕ) → from ≡ at.span.from → to ≡ at.span.to → line ≡ at.line → id ≡ at.id → place (record { from = from; line = line; id = id }) to ≡ at
at_is at from to line id e f g h =
    let all : ℕ → ℕ → ℕ → ℕ → At = λ from to line id. record { span = record { from = from; to = to }; line = line; id = id } in
    ap (λ n. all n to line id) e ∙ ap (λ n. all at.span.from n line id) f ∙ ap (λ n. all at.span.from at.span.to n id) g ∙ ap (λ n. all at.span.from at.span.to at.line n) h

pub noded : (at : At) (parts : Reads) {r x : Rest} → Reading (node at parts) r x → Noded at parts r x
noded at parts {r = r} {x = x} h =
    let p = if_read _ _ _ h.is in
    let q = both_true _ _ p.0 in
    let b = begun at r.tokens q.1 in
    let e = ended_at at (parts (inside r)) x p.1 in
    record {
      read = record { is = e.0 };
      place_is = at_is at (from_of r.tokens) x.last (line_of r.tokens) r.next b.from_is (sym e.1) b.line_is (sym ((Decides-eqb at.id r.next).0 q.0));
    }

pub node-first : (at : At) (parts : Reads) {r x : Rest} → Reading (node at parts) r x → (t : Token) × (ts : List Token) × (r.tokens ≡ t ∷ ts)
node-first at parts {r = r} h =
    let b = begun at r.tokens (both_true _ _ (if_read _ _ _ h.is).0).1 in
    (b.first, b.others, b.is)

-- a number within the limit
pub fits : (limit : ℕ) (r : Rest) → r.next ≤ limit → fitting limit r ≡ Some r
fits limit r h = ap (λ (b : Bool). if b then Some r else None) (le-leb r.next limit h)

pub takes-node : {A B : Type 0} (limit : ℕ) (make : At → A → B) (take : Takes A) {at : At} {parts : Reads} {r x : Rest} {a : A} → Noded at parts r x → r.next + 1 ≤ x.next → x.next ≤ limit → take limit (inside r) ≡ Some (a, x)
    → node_of make take limit r ≡ Some (make at a, x)
takes-node {A = A} {B = B} limit make take {r = r} {x = x} {a = a} n g l e =
    let finish : A × Rest → B × Rest = λ p. (make (place (start_of r) p.1.last) p.0, p.1) in
    ap (λ o. option_map finish (option_and_then (take limit) o)) (fits limit (inside r) (omega (arith, g, l))) ∙ ap (option_map finish) e ∙ ap (λ at. Some (make at a, x)) n.place_is

-- the mark alone, without its line
pub mark_read : (line : ℕ) (o : Mark) {r x : Rest} → Reading (mark_on line o) r x → Reading (mark o) r x
mark_read line o {r = r} {x = x} h =
    let p = took_token (λ t. is_mark o t.kind && (t.line == line)) h in
    let q = both_true _ _ p.fits in
    record {
      is =
          ap (λ ts. token_from (λ t. is_mark o t.kind) ts r.next) p.first ∙ ap (λ (b : Bool). if b then Some (past p.token x.tokens r.next) else None) q.0
          ∙ ap Some (rest_same (past p.token x.tokens r.next) x refl (sym p.last) (sym p.same));
    }

-- the value of a number
pub takes-value : (limit : ℕ) (value : ℤ) {r x : Rest} (t : Took (kind.Number value) r x) → take_number limit r ≡ Some (record { from = t.token.span.from; value = value }, x)
takes-value limit value t = rw (t.first, t.kind, past-took t) refl
