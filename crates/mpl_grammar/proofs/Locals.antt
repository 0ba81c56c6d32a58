-- Types, dimensions and locals take the machine along.
use Rattle.std.proofs.Common.{◌≡◌, ℕ, ◌&&◌, ◌==◌, List, [], ◌∷◌, map, Some, None, refl, ap}
use Rattle.std.specs.Option.{option_map}
use Rattle.mpl_ast.specs.declared.place.Number.{Number}
use Rattle.mpl_ast.specs.declared.statement.Declarator.{Declarator}
use Rattle.mpl_ast.specs.declared.statement.Declarator.TheVariants.{Plain, Initialized}
use Rattle.mpl_ast.specs.declared.statement.Dimension.{Dimension}
use Rattle.mpl_ast.specs.declared.statement.Local.{Local}
use Rattle.mpl_ast.specs.declared.statement.TypeName.{TypeName}
use Rattle.mpl_ast.specs.declared.statement.TypeName.TheVariants as type
use Rattle.mpl_ast.specs.declared.token.Keyword.TheVariants as word
use Rattle.mpl_ast.specs.declared.token.Mark.{Mark}
use Rattle.mpl_ast.specs.declared.token.Mark.TheVariants as m
use Rattle.mpl_ast.specs.declared.token.TokenKind.{TokenKind}
use Rattle.mpl_ast.specs.declared.token.TokenKind.TheVariants as kind
use Rattle.mpl_mean.specs.Text.Reading.{Reads, Rest, after_first, is_number, keyword, mark, mark_on, name, number, optional, separated}
use Rattle.mpl_mean.specs.Text.StatementText.{declarator_text, dimension_text, flow_text, local_text, type_text}
use Rattle.mpl_mean.specs.Text.Weight.{declarator_weighs, dimension_weighs, local_weighs, plain}
use Rattle.mpl_mean.proofs.Readers.Parts.{Reading, in_turn, inside, parts, some_same}
use Rattle.mpl_mean.proofs.Readers.Tokens.{Heads, Took, number_is, took_first, took_keyword, took_mark, took_mark_on, took_name, token_read}
use Rattle.mpl_mean.proofs.Truth.{both_true}
use Rattle.mpl_grammar.specs.Internal.Grammar.{Stack}
use Rattle.mpl_grammar.specs.Internal.Machine.{next, weight}
use Rattle.mpl_grammar.specs.declared.symbol.Symbol.TheVariants.{AName, ANumber, CloseBracket, DeclaratorEnd, MoreDeclarators}
use Rattle.mpl_grammar.proofs.Passes.{Passes, ends_as, joined, passes-bracketed, passes-plain, stays, trace-heads}
use Rattle.mpl_grammar.proofs.Operands.{IsEnd, bracket, comma, parenthesis, semicolon}
use Rattle.mpl_grammar.proofs.Lists.{Each, EndsAt, Fills, IsListEnd, ListEndsAt, Listing, list_parenthesis, list_semicolon, more, none, some-fill}
use Rattle.mpl_grammar.proofs.Primaries.{no_sign}
use Rattle.mpl_grammar.proofs.Flows.{flow-drives, one_flow}

pub took_numbered : (n : Number) {r x : Rest} → Reading (number n) r x → Took (kind.Number n.value) r x
took_numbered n {r = r} {x = x} h =
    let p = token_read (λ t. is_number n.value t.kind && (t.span.from == n.from)) r x h.is in
    record { token = p.0; first = p.1; kind = number_is n.value p.0.kind (both_true _ _ p.2).0 }

-- a number is taken where one has to come
pub number_next : (n : Number) {r x : Rest} → Reading (number n) r x → (s : Stack) → next (ANumber ∷ s) (kind.Number n.value) ≡ Some s
number_next n {r = r} {x = x} h s =
    let p = token_read (λ t. is_number n.value t.kind && (t.span.from == n.from)) r x h.is in
    let positive = no_sign n.value p.0.kind (both_true _ _ p.2).0 in
    rw (positive)

-- nothing was read
pub read_nothing : {A : Type 0} (f : A → Reads) {r x : Rest} → Reading (optional (option_map f None)) r x → r.tokens ≡ x.tokens
read_nothing f h = ap (λ (r : Rest). r.tokens) (some_same h.is)

-- ---- dimensions

pub dimension-passes : (d : Dimension) (q z : Stack) → next q (kind.Mark m.OpenBracket) ≡ Some (ANumber ∷ CloseBracket ∷ z) → {r x : Rest} → Reading (dimension_text d) r x
    → Passes (weight z) r q (dimension_weighs d) (weight z) x z
dimension-passes d q z e h =
    let u = parts d.at (mark_on d.mark_line m.OpenBracket ∷ number d.number ∷ mark m.CloseBracket ∷ []) h in
    let p = passes-bracketed (took_mark_on d.mark_line m.OpenBracket u.1) e refl (passes-plain (took_numbered d.number u.2.1) (number_next d.number u.2.1 _) refl) (took_mark m.CloseBracket u.2.2) refl refl in
    record { seen = p.seen; after = p.after }

-- ---- declarators

declarator-over : {o : Mark} → IsEnd o → (z : Stack) → next (DeclaratorEnd ∷ z) (kind.Mark o) ≡ next z (kind.Mark o)
declarator-over parenthesis z = refl
declarator-over bracket z = refl
declarator-over comma z = refl
declarator-over semicolon z = refl

declarator-passes : (d : Declarator) (z : Stack) {r x : Rest} → Reading (declarator_text d) r x → EndsAt x → Passes (weight z) r (AName ∷ DeclaratorEnd ∷ z) (declarator_weighs d) (weight z) x z
declarator-passes (Plain at variable None) z {x = x} h e =
    let u = parts at (name variable ∷ optional (option_map dimension_text None) ∷ []) h in
    let over = trace-heads (DeclaratorEnd ∷ z) z e.heads (declarator-over e.is_end z) in
    let p = joined (passes-plain (took_name variable u.1) refl refl) (ends_as {x = x} over (stays (read_nothing dimension_text u.2))) in
    record { seen = p.seen; after = p.after }
declarator-passes (Plain at variable (Some d)) z h e =
    let u = parts at (name variable ∷ optional (option_map dimension_text (Some d)) ∷ []) h in
    let p = joined (passes-plain (took_name variable u.1) refl refl) (dimension-passes d (DeclaratorEnd ∷ z) z refl (record { is = u.2.is })) in
    record { seen = p.seen; after = p.after }
declarator-passes (Initialized at variable value) z h e =
    let u = parts at (name variable ∷ mark m.Assign ∷ flow_text value ∷ []) h in
    let p = joined (passes-plain (took_name variable u.1) refl refl) (joined (passes-plain (took_mark m.Assign u.2.1) refl refl) ((flow-drives value).drive (one_flow z) u.2.2 e)) in
    record { seen = p.seen; after = p.after }

each_declarator : (ds : List Declarator) → Each (Fills (AName ∷ DeclaratorEnd ∷ [])) (map declarator_text ds) (map declarator_weighs ds)
each_declarator [] = none
each_declarator (d ∷ ds) = more (record { fill = λ z h e. declarator-passes d z h e }) (each_declarator ds)

declarators : Listing (AName ∷ DeclaratorEnd ∷ []) MoreDeclarators
declarators = record { comma = λ z. refl; over = λ e z. closes e z; weighs = λ z. refl; weighs_more = λ z. refl } where
  closes : {o : Mark} → IsListEnd o → (z : Stack) → next (MoreDeclarators ∷ z) (kind.Mark o) ≡ next z (kind.Mark o)
  closes list_parenthesis z = refl
  closes list_semicolon z = refl

-- a list of declarators begins with a name
named_first : (ds : List Declarator) {r x : Rest} → Reading (separated (map declarator_text ds)) r x → (text : List ℕ) × Heads (kind.Name text) r
named_first [] h = let nothing_read = h.is in absurd cc
named_first (Plain at variable d ∷ ds) {r = r} h =
    let u = in_turn (declarator_text (Plain at variable d) ∷ after_first (map declarator_text ds) ∷ []) {r = r} (record { is = h.is }) in
    (variable.text, record { first = (took_first (took_name variable (parts at (name variable ∷ optional (option_map dimension_text d) ∷ []) u.1).1)).first })
named_first (Initialized at variable value ∷ ds) {r = r} h =
    let u = in_turn (declarator_text (Initialized at variable value) ∷ after_first (map declarator_text ds) ∷ []) {r = r} (record { is = h.is }) in
    (variable.text, record { first = (took_first (took_name variable (parts at (name variable ∷ mark m.Assign ∷ flow_text value ∷ []) u.1).1)).first })

-- ---- locals

-- what the type of a local leads to
pub record LocalStart (xs z : Stack) : Type 0 where
  pub named : Stack
  pub takes_int : next xs (kind.Keyword word.Int) ≡ Some (AName ∷ DeclaratorEnd ∷ MoreDeclarators ∷ z)
  pub takes_bool : next xs (kind.Keyword word.Bool) ≡ Some (AName ∷ DeclaratorEnd ∷ MoreDeclarators ∷ z)
  pub takes_name : (text : List ℕ) → next xs (kind.Name text) ≡ Some named
  pub second : (text : List ℕ) → next named (kind.Name text) ≡ Some (DeclaratorEnd ∷ MoreDeclarators ∷ z)
  pub weighs_named : weight named ≡ weight z

type-passes : (t : TypeName) {xs z : Stack} → LocalStart xs z → {r x y : Rest} (ds : List Declarator) → Reading (type_text t) r x → Reading (separated (map declarator_text ds)) x y
    → Passes (weight z) r xs plain (weight z) x (AName ∷ DeclaratorEnd ∷ MoreDeclarators ∷ z)
type-passes (type.Int at) c ds h k = let p = passes-plain (took_keyword word.Int (parts at (keyword word.Int ∷ []) h)) c.takes_int refl in record { seen = p.seen; after = p.after }
type-passes (type.Bool at) c ds h k = let p = passes-plain (took_keyword word.Bool (parts at (keyword word.Bool ∷ []) h)) c.takes_bool refl in record { seen = p.seen; after = p.after }
type-passes (type.Named at n) {z = z} c ds h k =
    let first = named_first ds k in
    let same = trace-heads c.named (AName ∷ DeclaratorEnd ∷ MoreDeclarators ∷ z) first.1 (c.second first.0) in
    let p = ends_as same (passes-plain (took_name n (parts at (name n ∷ []) h)) (c.takes_name n.text) c.weighs_named) in
    record { seen = p.seen; after = p.after }

pub local-passes : (l : Local) {xs z : Stack} → LocalStart xs z → {r x : Rest} → Reading (local_text l) r x → ListEndsAt x → Passes (weight z) r xs (local_weighs l) (weight z) x z
local-passes l {z = z} c h e =
    let u = parts l.at (type_text l.type_name ∷ separated (map declarator_text l.declarators) ∷ []) h in
    let p = joined (type-passes l.type_name c l.declarators u.1 u.2) (some-fill declarators (each_declarator l.declarators) z u.2 e) in
    record { seen = p.seen; after = p.after }

-- the kind of a type's token
abbrev pub type_head : TypeName → TokenKind
type_head (type.Int at) = kind.Keyword word.Int
type_head (type.Bool at) = kind.Keyword word.Bool
type_head (type.Named at n) = kind.Name n.text

pub took_type : (t : TypeName) {r x : Rest} → Reading (type_text t) r x → Took (type_head t) (inside r) x
took_type (type.Int at) h = took_keyword word.Int (parts at (keyword word.Int ∷ []) h)
took_type (type.Bool at) h = took_keyword word.Bool (parts at (keyword word.Bool ∷ []) h)
took_type (type.Named at n) h = took_name n (parts at (name n ∷ []) h)
