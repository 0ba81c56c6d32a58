-- The variables of a frame alone beside what is loose: what isn't loose is known.
use Rattle.std.proofs.Common.{◌≡◌, ◌≢◌, ◌<◌, ℕ, zero, suc, Bool, true, false, List, [], ◌∷◌, length, map, Option, Some, None, if◌then◌else◌, ℤ, ◌⊎◌, inl, inr, refl, ap, sym, subst, arith, eq-eqb, ne_eqb, ◌∙◌}
use Rattle.std.proofs.lemmas.List.{length-map}
use Rattle.std.specs.List.{slice_get, slice_set}
use Rattle.std.specs.Str.{bytes_eq}
use Rattle.mpl_ast.specs.declared.expression.Target.{Target}
use Rattle.mpl_ast.specs.declared.expression.Target.TheVariants as target
use Rattle.mpl_ast.specs.declared.place.At.{At as Node}
use Rattle.mpl_ast.specs.declared.program.Declaration.{Declaration}
use Rattle.mpl_ast.specs.declared.statement.TypeName.{TypeName}
use Rattle.mpl_value.specs.declared.body.Arg.{Arg}
use Rattle.mpl_value.specs.declared.body.Arg.TheVariants as arg
use Rattle.mpl_mean.specs.Meaning.CallMeaning.{name_of_target}
use Rattle.mpl_mean.specs.Meaning.Layout.{Part, class_of_type, part_named, parts_of_type}
use Rattle.mpl_mean.specs.Pending.Looseness.{Loose, where_one_is}
use Rattle.mpl_mean.specs.Plain.Expr.{Whole}
use Rattle.mpl_mean.specs.Plain.Scopes as plain
use Rattle.mpl_mean.specs.Plain.Stmt.{NewLocal, Stmt}
use Rattle.mpl_mean.specs.Plain.Stmt as s
use Rattle.mdf_code.specs.Alone.{Held, seen_by}
use Rattle.mdf_core.proofs.Lists.{same_or}
use Rattle.mpl_gen_code.specs.Scopes.{Env, Found, Slot, class_found, found_at, found_field, found_name, found_part, slot_named, whole_slot}
use Rattle.mpl_gen_code.specs.StatementCode.{behind, behind_assignment, behind_block, declares, declares_all}
use Rattle.mpl_gen_code.proofs.Scoped.{IsApart, WellScoped}
use Rattle.mpl_gen_code.proofs.Storing.{assigns_same, at_scope, out_same, same_behind}

-- ---- slots by how many variables are older

abbrev pub shape_in : Slot → plain.Shape
shape_in slot = record { name = slot.shape.name; type = slot.shape.type; dimension = slot.shape.dimension }

-- what surrounds a statement, as the ways through it see it
abbrev pub plain_env : Env → plain.Env
plain_env env = record { declarations = env.declarations; members = env.members; parts = env.parts; scope = map shape_in env.scope }

abbrev pub StandsAt : List Slot → ℕ → Slot → Type 0
StandsAt [] n slot = ⊥
StandsAt (first ∷ older) n slot = ((n ≡ length older) × (first ≡ slot)) ⊎ StandsAt older n slot

pub stands_below : (scope : List Slot) (n : ℕ) (slot : Slot) → StandsAt scope n slot → n < length scope
stands_below [] n slot h = absurd h
stands_below (first ∷ older) n slot (inl h) = omega (arith, h.0)
stands_below (first ∷ older) n slot (inr h) = let e = stands_below older n slot h in omega (arith, e)

pub stands_once : (scope : List Slot) (n : ℕ) (a b : Slot) → StandsAt scope n a → StandsAt scope n b → a ≡ b
stands_once [] n a b h k = absurd h
stands_once (first ∷ older) n a b (inl h) (inl k) = sym h.1 ∙ k.1
stands_once (first ∷ older) n a b (inl h) (inr k) = absurd (let e = stands_below older n b k in omega (arith, e, h.0))
stands_once (first ∷ older) n a b (inr h) (inl k) = absurd (let e = stands_below older n a h in omega (arith, e, k.0))
stands_once (first ∷ older) n a b (inr h) (inr k) = stands_once older n a b h k

pub apart_of : (n : ℕ) (scope : List Slot) (i : ℕ) (slot : Slot) → IsApart n scope → StandsAt scope i slot → slot.number ≢ n
apart_of n [] i slot apart h = absurd h
apart_of n (first ∷ older) i slot apart (inl h) = λ e. apart.0 (ap Slot.number h.1 ∙ e)
apart_of n (first ∷ older) i slot apart (inr h) = apart_of n older i slot apart.1 h

-- two slots of the scope have two numbers
pub stands_apart : (ds : List Declaration) (sizes : List ℕ) (scope : List Slot) (i j : ℕ) (a b : Slot) → WellScoped ds sizes scope → StandsAt scope i a → StandsAt scope j b → i ≢ j → a.number ≢ b.number
stands_apart ds sizes [] i j a b well h k differ = absurd h
stands_apart ds sizes (first ∷ older) i j a b well (inl h) (inl k) differ = absurd (differ (h.0 ∙ sym k.0))
stands_apart ds sizes (first ∷ older) i j a b well (inl h) (inr k) differ = λ e. apart_of first.number older j b well.1 k (sym e ∙ sym (ap Slot.number h.1))
stands_apart ds sizes (first ∷ older) i j a b well (inr h) (inl k) differ = λ e. apart_of first.number older i a well.1 h (e ∙ sym (ap Slot.number k.1))
stands_apart ds sizes (first ∷ older) i j a b well (inr h) (inr k) differ = stands_apart ds sizes older i j a b well.2 h k differ

-- ---- names and places

abbrev pub SameSlot : List Slot → Option plain.Slot → Option Slot → Type 0
SameSlot scope None None = Unit {0}
SameSlot scope None (Some slot) = ⊥
SameSlot scope (Some p) None = ⊥
SameSlot scope (Some p) (Some slot) = StandsAt scope p.number slot × (p.shape ≡ shape_in slot)

older_same : (first : Slot) (scope : List Slot) (p : Option plain.Slot) (o : Option Slot) → SameSlot scope p o → SameSlot (first ∷ scope) p o
older_same first scope None None h = tt
older_same first scope None (Some slot) h = absurd h
older_same first scope (Some p) None h = absurd h
older_same first scope (Some p) (Some slot) h = (inr h.0, h.1)

first_same : (b : Bool) (first : Slot) (scope : List Slot) (p : Option plain.Slot) (o : Option Slot) → SameSlot scope p o
    → SameSlot (first ∷ scope) (if b then Some (record { number = length (map shape_in scope); shape = shape_in first }) else p) (if b then Some first else o)
first_same true first scope p o h = (inl (length-map scope shape_in, refl), refl)
first_same false first scope p o h = older_same first scope p o h

pub named_same : (name : List ℕ) (scope : List Slot) → SameSlot scope (plain.slot_named name (map shape_in scope)) (slot_named name scope)
named_same name [] = tt
named_same name (first ∷ scope) = first_same (bytes_eq first.shape.name name) first scope (plain.slot_named name (map shape_in scope)) (slot_named name scope) (named_same name scope)

pub record SamePlace (scope : List Slot) (p : plain.Found) (found : Found) : Type 0 where
  pub type : p.type ≡ found.type
  pub whole : p.is_whole ≡ found.is_whole
  pub slot : SameSlot scope p.slot found.slot

abbrev pub SameFound : List Slot → Option plain.Found → Option Found → Type 0
SameFound scope None None = Unit {0}
SameFound scope None (Some found) = ⊥
SameFound scope (Some p) None = ⊥
SameFound scope (Some p) (Some found) = SamePlace scope p found

part_same : (scope : List Slot) (p : Option plain.Slot) (o : Option Slot) (m n : ℕ) (part : Option Part) → SameSlot scope p o → SameFound scope (plain.found_part p m part) (found_part o n part)
part_same scope p o m n None h = tt
part_same scope p o m n (Some part) h = record { type = refl; whole = refl; slot = h }

name_same : (env : Env) (p : Option plain.Slot) (o : Option Slot) (name : List ℕ) → SameSlot env.scope p o → SameFound env.scope (plain.found_name (plain_env env) p name) (found_name env o name)
name_same env None None name h = part_same env.scope None None 0 0 (part_named name env.parts) tt
name_same env None (Some slot) name h = absurd h
name_same env (Some p) None name h = absurd h
name_same env (Some p) (Some slot) name h = record { type = ap plain.Shape.type h.1; whole = refl; slot = h }

field_same : (env : Env) (field : List ℕ) (p : Option plain.Found) (o : Option Found) → SameFound env.scope p o → SameFound env.scope (plain.found_field (plain_env env) field p) (found_field env field o)
field_same env field None None h = tt
field_same env field None (Some found) h = absurd h
field_same env field (Some p) None h = absurd h
field_same env field (Some p) (Some found) h =
    subst (λ type. SameFound env.scope (plain.found_part p.slot p.offset (part_named field (parts_of_type env.declarations type))) (found_part found.slot found.offset (part_named field (parts_of_type env.declarations found.type))))
    (sym h.type) (part_same env.scope p.slot found.slot p.offset found.offset (part_named field (parts_of_type env.declarations found.type)) h.slot)

pub found_same : (env : Env) (t : Target) → SameFound env.scope (plain.found_at (plain_env env) t) (found_at env t)
found_same env (target.Variable at variable) = name_same env _ _ variable.text (named_same variable.text env.scope)
found_same env (target.Field at variable field) = field_same env field.text _ _ (name_same env _ _ variable.text (named_same variable.text env.scope))

pub class_same : (env : Env) (p : Option plain.Found) (o : Option Found) → SameFound env.scope p o → plain.class_found (plain_env env) p ≡ class_found env o
class_same env None None h = refl
class_same env None (Some found) h = absurd h
class_same env (Some p) None h = absurd h
class_same env (Some p) (Some found) h = ap (class_of_type env.declarations) h.type

pub whole_same : (env : Env) (at : Node) (t : Target) → SameSlot env.scope (plain.whole_slot (plain_env env) (Whole at t)) (whole_slot env (name_of_target t))
whole_same env at (target.Variable node variable) = named_same variable.text env.scope
whole_same env at (target.Field node variable field) = tt

-- a name that stands for no variable of the code stands for none on the ways
pub none_seen : (scope : List Slot) (p : Option plain.Slot) → SameSlot scope p None → p ≡ None
none_seen scope None same = refl
none_seen scope (Some p) same = absurd same

-- a slot, as the ways see it
abbrev pub SeenSlot : List Slot → Option plain.Slot → Slot → Type 0
SeenSlot scope p slot = (seen : plain.Slot) × (p ≡ Some seen) × StandsAt scope seen.number slot

pub some_seen : (scope : List Slot) (p : Option plain.Slot) (slot : Slot) → SameSlot scope p (Some slot) → SeenSlot scope p slot
some_seen scope None slot same = absurd same
some_seen scope (Some p) slot same = (p, refl, same.0)

pub place_seen : (scope : List Slot) (p : Option plain.Found) (found : Found) → SameFound scope p (Some found) → (seen : plain.Found) × (p ≡ Some seen) × SamePlace scope seen found
place_seen scope None found same = absurd same
place_seen scope (Some p) found same = (p, refl, same)

part_is : (slot : Option Slot) (offset : ℕ) (part : Option Part) (found : Found) → found_part slot offset part ≡ Some found → (found.slot ≡ slot) × (found.is_whole ≡ false)
part_is slot offset None found e = absurd cc
part_is slot offset (Some part) found e = (sym (ap Found.slot (found_is e)), sym (ap Found.is_whole (found_is e))) where
  found_is : {a b : Found} → Some a ≡ Some b → a ≡ b
  found_is h = cc h

field_is : (env : Env) (field : List ℕ) (outer : Option Found) (found : Found) → found_field env field outer ≡ Some found → found.is_whole ≡ false
field_is env field None found e = absurd cc
field_is env field (Some outer) found e = (part_is outer.slot outer.offset (part_named field (parts_of_type env.declarations outer.type)) found e).1

-- a whole variable that is assigned
pub whole_seen : (env : Env) (at : Node) (t : Target) (found : Found) (slot : Slot) → found_at env t ≡ Some found → found.slot ≡ Some slot → found.is_whole ≡ true → SeenSlot env.scope (plain.whole_slot (plain_env env) (Whole at t)) slot
whole_seen env at (target.Field node variable field) found slot e is whole = absurd (cc (whole, field_is env field.text (found_name env (slot_named variable.text env.scope) variable.text) found e))
whole_seen env at (target.Variable node variable) found slot e is whole = by_name (slot_named variable.text env.scope) (named_same variable.text env.scope) e where
  by_name : (o : Option Slot) → SameSlot env.scope (plain.slot_named variable.text (map shape_in env.scope)) o → found_name env o variable.text ≡ Some found → SeenSlot env.scope (plain.slot_named variable.text (map shape_in env.scope)) slot
  by_name None same e = absurd (cc (is, (part_is None 0 (part_named variable.text env.parts) found e).0))
  by_name (Some s) same e = some_seen env.scope (plain.slot_named variable.text (map shape_in env.scope)) slot (subst (λ o. SameSlot env.scope (plain.slot_named variable.text (map shape_in env.scope)) o) (slot_is e ∙ is) same) where
    slot_is : found_name env (Some s) variable.text ≡ Some found → Some s ≡ found.slot
    slot_is h = ap Found.slot (found_is h) where
      found_is : {a b : Found} → Some a ≡ Some b → a ≡ b
      found_is h = cc h

-- a part of a variable, or of the state
pub part_seen : (env : Env) (at : Node) (t : Target) (found : Found) → found_at env t ≡ Some found → (found.slot ≡ None) ⊎ (found.is_whole ≡ false) → plain.whole_slot (plain_env env) (Whole at t) ≡ None
part_seen env at (target.Field node variable field) found e is = refl
part_seen env at (target.Variable node variable) found e is = by_name (slot_named variable.text env.scope) (named_same variable.text env.scope) e where
  by_name : (o : Option Slot) → SameSlot env.scope (plain.slot_named variable.text (map shape_in env.scope)) o → found_name env o variable.text ≡ Some found → plain.slot_named variable.text (map shape_in env.scope) ≡ None
  by_name None same e = none_seen env.scope (plain.slot_named variable.text (map shape_in env.scope)) same
  by_name (Some s) same e = either is where
    found_is : {a b : Found} → Some a ≡ Some b → a ≡ b
    found_is h = cc h

    either : (found.slot ≡ None) ⊎ (found.is_whole ≡ false) → plain.slot_named variable.text (map shape_in env.scope) ≡ None
    either (inl none) = absurd (let s_is : Some s ≡ found.slot = ap Found.slot (found_is e) in cc (none, s_is))
    either (inr off) = absurd (let on : true ≡ found.is_whole = ap Found.is_whole (found_is e) in cc (off, on))

-- ---- behind statements

declares_seen : (type : TypeName) (locals : List NewLocal) (env : Env) → plain.declares_all type locals (plain_env env) ≡ plain_env (declares_all type locals env)
declares_seen type [] env = refl
declares_seen type (local ∷ locals) env = declares_seen type locals (declares type local env)

-- what changes the sizes alone
sizes_seen : (env other : Env) → other ≡ at_scope env env.scope other.sizes → plain_env env ≡ plain_env other
sizes_seen env other e = sym (ap plain_env e)

pub block_seen : (stmt : Stmt) (env : Env) → plain_env env ≡ plain_env (behind_block stmt env)
block_seen stmt env = sizes_seen env (behind_block stmt env) (out_same env (behind stmt env) (same_behind stmt env))

pub behind_seen : (stmt : Stmt) (env : Env) → plain.behind stmt (plain_env env) ≡ plain_env (behind stmt env)
behind_seen (s.Locals type locals) env = declares_seen type locals env
behind_seen s.Nothing env = refl
behind_seen (s.Within stmts) env = sizes_seen env (behind (s.Within stmts) env) (same_behind (s.Within stmts) env)
behind_seen (s.Assigns at place t) env = sizes_seen env (behind_assignment place env) (assigns_same place env)
behind_seen (s.Calls call) env = refl
behind_seen (s.Creates at target) env = refl
behind_seen (s.When test then_part) env = sizes_seen env (behind (s.When test then_part) env) (same_behind (s.When test then_part) env)
behind_seen (s.Branches test then_part else_part) env = sizes_seen env (behind (s.Branches test then_part else_part) env) (same_behind (s.Branches test then_part else_part) env)
behind_seen (s.Repeats test body) env = sizes_seen env (behind (s.Repeats test body) env) (same_behind (s.Repeats test body) env)
behind_seen (s.Loops first test step body) env = sizes_seen env (behind (s.Loops first test step body) env) (same_behind (s.Loops first test step body) env)
behind_seen (s.Prints at ts) env = refl
behind_seen (s.Gives at t) env = refl
behind_seen (s.Returns at o) env = refl

-- ---- what is known

abbrev pub KnownAt : (ℕ → Arg) → List Held → ℕ → Type 0
KnownAt knows vs n = (v : Held) × (words : List ℤ) × (slice_get vs n ≡ Some v) × (seen_by knows v ≡ arg.Know words)

-- each variable in scope that isn't loose is known
abbrev pub Beside : (ℕ → Arg) → Loose → List Slot → List Held → Type 0
Beside knows loose [] vs = Unit {0}
Beside knows loose (slot ∷ older) vs = (loose (length older) ≡ false → KnownAt knows vs slot.number) × Beside knows loose older vs

pub beside_by : (knows more : ℕ → Arg) (loose other : Loose) (scope : List Slot) (vs us : List Held)
    → ((n : ℕ) (slot : Slot) → StandsAt scope n slot → (loose n ≡ false → KnownAt knows vs slot.number) → other n ≡ false → KnownAt more us slot.number)
    → Beside knows loose scope vs → Beside more other scope us
beside_by knows more loose other [] vs us each h = tt
beside_by knows more loose other (slot ∷ older) vs us each h =
    (each (length older) slot (inl (refl, refl)) h.0, beside_by knows more loose other older vs us (λ n s stands. each n s (inr stands)) h.1)

pub beside_known : (knows : ℕ → Arg) (loose : Loose) (scope : List Slot) (vs : List Held) (n : ℕ) (slot : Slot) → StandsAt scope n slot → Beside knows loose scope vs → loose n ≡ false → KnownAt knows vs slot.number
beside_known knows loose [] vs n slot stands h off = absurd stands
beside_known knows loose (first ∷ older) vs n slot (inl stands) h off = subst (λ (s : Slot). KnownAt knows vs s.number) stands.1 (h.0 (ap loose (sym stands.0) ∙ off))
beside_known knows loose (first ∷ older) vs n slot (inr stands) h off = beside_known knows loose older vs n slot stands h.1 off

pub beside_later : (knows more : ℕ → Arg) (loose : Loose) (scope : List Slot) (vs : List Held) → ((v : Held) (words : List ℤ) → seen_by knows v ≡ arg.Know words → seen_by more v ≡ arg.Know words) → Beside knows loose scope vs → Beside more loose scope vs
beside_later knows more loose scope vs keeps = beside_by knows more loose loose scope vs vs (λ n slot stands old off. let k = old off in (k.0, k.1, k.2, keeps k.0 k.1 k.3))

here_is : (n : ℕ) (b : Bool) (loose : Loose) → where_one_is n b loose n ≡ b
here_is n b loose = ap (λ t. if t then b else loose n) (eq-eqb n n refl)

elsewhere_is : (n m : ℕ) (b : Bool) (loose : Loose) → (n ≡ m → ⊥) → where_one_is n b loose m ≡ loose m
elsewhere_is n m b loose differ = ap (λ t. if t then b else loose m) (ne_eqb n m differ)

-- one that is known isn't loose
pub beside_settled : (knows : ℕ → Arg) (loose : Loose) (scope : List Slot) (vs : List Held) (n : ℕ) (slot : Slot) → StandsAt scope n slot → KnownAt knows vs slot.number → Beside knows loose scope vs → Beside knows (where_one_is n false loose) scope vs
beside_settled knows loose scope vs n slot stands known = beside_by knows knows loose (where_one_is n false loose) scope vs vs (λ m s there old off. at m s there old off (same_or n m)) where
  at : (m : ℕ) (s : Slot) → StandsAt scope m s → (loose m ≡ false → KnownAt knows vs s.number) → where_one_is n false loose m ≡ false → (n ≡ m) ⊎ (n ≡ m → ⊥) → KnownAt knows vs s.number
  at m s there old off (inl same) = subst (λ (o : Slot). KnownAt knows vs o.number) (stands_once scope m slot s (subst (λ k. StandsAt scope k slot) same stands) there) known
  at m s there old off (inr differ) = old (sym (elsewhere_is n m false loose differ) ∙ off)

-- ---- what is held after a change

pub got_set : {A : Type 0} (xs : List A) (n : ℕ) (x : A) → n < length xs → slice_get (slice_set xs n x) n ≡ Some x
got_set [] n x h = absurd (let e : n < 0 = h in omega arith)
got_set (y ∷ xs) zero x h = refl
got_set (y ∷ xs) (suc n) x h = got_set xs n x (let e : suc n < suc (length xs) = h in omega arith)

pub got_other : {A : Type 0} (xs : List A) (n m : ℕ) (x : A) → n ≢ m → slice_get (slice_set xs m x) n ≡ slice_get xs n
got_other [] n m x h = refl
got_other (y ∷ xs) zero zero x h = absurd (h refl)
got_other (y ∷ xs) zero (suc m) x h = refl
got_other (y ∷ xs) (suc n) zero x h = refl
got_other (y ∷ xs) (suc n) (suc m) x h = got_other xs n m x (λ e. h (ap suc e))

pub known_other : (knows : ℕ → Arg) (vs : List Held) (n m : ℕ) (v : Held) → n ≢ m → KnownAt knows vs n → KnownAt knows (slice_set vs m v) n
known_other knows vs n m v differ k = (k.0, k.1, got_other vs n m v differ ∙ k.2, k.3)

-- a variable holds another value
pub beside_set : (knows : ℕ → Arg) (loose : Loose) (ds : List Declaration) (sizes : List ℕ) (scope : List Slot) (vs : List Held) (n : ℕ) (slot : Slot) (v : Held) (b : Bool) → WellScoped ds sizes scope → StandsAt scope n slot → slot.number < length vs
    → (b ≡ false → (words : List ℤ) × (seen_by knows v ≡ arg.Know words)) → Beside knows loose scope vs → Beside knows (where_one_is n b loose) scope (slice_set vs slot.number v)
beside_set knows loose ds sizes scope vs n slot v b well stands within known = beside_by knows knows loose (where_one_is n b loose) scope vs (slice_set vs slot.number v) (λ m s there old off. at m s there old off (same_or n m)) where
  at : (m : ℕ) (s : Slot) → StandsAt scope m s → (loose m ≡ false → KnownAt knows vs s.number) → where_one_is n b loose m ≡ false → (n ≡ m) ⊎ (n ≡ m → ⊥) → KnownAt knows (slice_set vs slot.number v) s.number
  at m s there old off (inl same) =
      let k = known (sym (here_is n b loose) ∙ (ap (where_one_is n b loose) same ∙ off)) in
      subst (λ (o : Slot). KnownAt knows (slice_set vs slot.number v) o.number) (stands_once scope m slot s (subst (λ k. StandsAt scope k slot) same stands) there) (v, k.0, got_set vs slot.number v within, k.1)
  at m s there old off (inr differ) = known_other knows vs s.number slot.number v (λ e. stands_apart ds sizes scope n m slot s well stands there differ (sym e)) (old (sym (elsewhere_is n m b loose differ) ∙ off))

-- one that is known holds other words
pub beside_kept : (knows : ℕ → Arg) (loose : Loose) (ds : List Declaration) (sizes : List ℕ) (scope : List Slot) (vs : List Held) (n : ℕ) (slot : Slot) (v : Held) (words : List ℤ) → WellScoped ds sizes scope → StandsAt scope n slot → slot.number < length vs
    → seen_by knows v ≡ arg.Know words → Beside knows loose scope vs → Beside knows loose scope (slice_set vs slot.number v)
beside_kept knows loose ds sizes scope vs n slot v words well stands within known = beside_by knows knows loose loose scope vs (slice_set vs slot.number v) (λ m s there old off. at m s there old off (same_or n m)) where
  at : (m : ℕ) (s : Slot) → StandsAt scope m s → (loose m ≡ false → KnownAt knows vs s.number) → loose m ≡ false → (n ≡ m) ⊎ (n ≡ m → ⊥) → KnownAt knows (slice_set vs slot.number v) s.number
  at m s there old off (inl same) =
      subst (λ (o : Slot). KnownAt knows (slice_set vs slot.number v) o.number) (stands_once scope m slot s (subst (λ k. StandsAt scope k slot) same stands) there) (v, words, got_set vs slot.number v within, known)
  at m s there old off (inr differ) = known_other knows vs s.number slot.number v (λ e. stands_apart ds sizes scope n m slot s well stands there differ (sym e)) (old off)

-- one that isn't in scope does
pub beside_hidden : (knows : ℕ → Arg) (loose : Loose) (scope : List Slot) (vs : List Held) (number : ℕ) (v : Held) → IsApart number scope → Beside knows loose scope vs → Beside knows loose scope (slice_set vs number v)
beside_hidden knows loose scope vs number v apart = beside_by knows knows loose loose scope vs (slice_set vs number v) (λ n s stands old off. known_other knows vs s.number number v (apart_of number scope n s apart stands) (old off))

-- a new one comes first
pub beside_new : (knows : ℕ → Arg) (loose : Loose) (scope : List Slot) (vs : List Held) (slot : Slot) (v : Held) (b : Bool) → IsApart slot.number scope → slot.number < length vs → (b ≡ false → (words : List ℤ) × (seen_by knows v ≡ arg.Know words))
    → Beside knows loose scope vs → Beside knows (where_one_is (length scope) b loose) (slot ∷ scope) (slice_set vs slot.number v)
beside_new knows loose scope vs slot v b apart within known h = (first, older) where
  first : where_one_is (length scope) b loose (length scope) ≡ false → KnownAt knows (slice_set vs slot.number v) slot.number
  first off = let k = known (sym (here_is (length scope) b loose) ∙ off) in (v, k.0, got_set vs slot.number v within, k.1)

  older : Beside knows (where_one_is (length scope) b loose) scope (slice_set vs slot.number v)
  older = beside_by knows knows loose (where_one_is (length scope) b loose) scope vs (slice_set vs slot.number v)
      (λ n s stands old off.
      known_other knows vs s.number slot.number v (apart_of slot.number scope n s apart stands)
      (old (sym (elsewhere_is (length scope) n b loose (λ e. let below = stands_below scope n s stands in absurd (omega (arith, below, e)))) ∙ off))) h
