-- The variables of a scope by their names.
use Rattle.std.proofs.Common.{◌≡◌, ◌<◌, ◌≤◌, ℕ, zero, suc, ◌+◌, ◌-◌, Bool, true, false, List, [], ◌∷◌, ◌++◌, cond, drop, length, reverse, Option, Some, None, if◌then◌else◌, refl, ap, sym, subst, arith, ◌∙◌}
use Rattle.std.proofs.lemmas.List.{length-drop, length-map, length-reverse, reverse-append, reverse-reverse}
use Rattle.std.specs.Prelude.{slice_get}
use Rattle.std.proofs.lemmas.Slice.Eq.{bytes_eq-Decides}
use Rattle.std.specs.Str.{bytes_eq}
use Rattle.mpl_mean.proofs.Truth.{some_is}
use Rattle.mpl_mean.specs.Plain.Scopes as code
use Rattle.mpl_mean.specs.Plain.Scopes.{slot_named}
use Rattle.mpl_locals.specs.SeenLocals.{Hides, if_any, newest_first, number_named, numbered, shape_seen, shapes_seen}
use Rattle.mpl_locals.specs.declared.locals.Local.{Local}
use Rattle.mpl_locals.specs.declared.locals.Newest.{Newest}

get_front : {A : Type 0} (xs ys : List A) (x : A) → slice_get (xs ++ x ∷ ys) (length xs) ≡ Some x
get_front [] ys x = refl
get_front (y ∷ xs) ys x = get_front xs ys x

get_left : {A : Type 0} (xs ys : List A) (n : ℕ) (x : A) → slice_get xs n ≡ Some x → slice_get (xs ++ ys) n ≡ Some x
get_left [] ys n x h = absurd cc
get_left (y ∷ xs) ys zero x h = h
get_left (y ∷ xs) ys (suc n) x h = get_left xs ys n x h

pub set_numbered : (b : Bool) (number : Option ℕ) (o p : Option (Option ℕ)) → p ≡ cond b (Some number) o → if_any p ≡ (if b then number else if_any o)
set_numbered true number o p is = ap if_any is
set_numbered false number o p is = ap if_any is

-- ---- finding

-- the variable of a number, as it is found by its name
pub record Numbered (name : List ℕ) (locals : List Local) (n : ℕ) : Type 0 where
  pub local : Local
  pub there : slice_get (reverse locals) n ≡ Some local
  pub named : slot_named name (shapes_seen locals) ≡ Some (record { number = n; shape = shape_seen local.shape })

abbrev pub Named : List ℕ → List Local → Option ℕ → Type 0
Named name locals None = slot_named name (shapes_seen locals) ≡ None
Named name locals (Some n) = Numbered name locals n

reverse_cons : (x : Local) (xs : List Local) → reverse (x ∷ xs) ≡ reverse xs ++ x ∷ []
reverse_cons x xs = reverse-append (x ∷ []) xs

record Older (name : List ℕ) (x : Local) (older : List Local) (o : Option ℕ) (b : Bool) : Type 0 where
  is : bytes_eq x.shape.name.now name ≡ b
  rest : Named name older o

slot_if : (name : List ℕ) (x : Local) (older : List Local) (b : Bool) → bytes_eq x.shape.name.now name ≡ b
    → slot_named name (shapes_seen (x ∷ older)) ≡ (if b then Some (record { number = length (shapes_seen older); shape = shape_seen x.shape }) else slot_named name (shapes_seen older))
slot_if name x older b is = ap (λ b. if b then Some (record { number = length (shapes_seen older); shape = shape_seen x.shape }) else slot_named name (shapes_seen older)) is

named_case : (name : List ℕ) (x : Local) (older : List Local) (o : Option ℕ) (b : Bool) → bytes_eq x.shape.name.now name ≡ b → Named name older o
    → Named name (x ∷ older) (if b then Some (length older) else o)
named_case name x older o true is rest = record {
  local = x;
  there = ap (λ xs. slice_get xs (length older)) (reverse_cons x older) ∙ ap (λ n. slice_get (reverse older ++ x ∷ []) n) (sym (length-reverse older)) ∙ get_front (reverse older) [] x;
  named = slot_if name x older true is ∙ ap (λ n. Some (record { number = n; shape = shape_seen x.shape })) (length-map older (λ (local : Local). shape_seen local.shape));
}
named_case name x older None false is rest = slot_if name x older false is ∙ rest
named_case name x older (Some n) false is rest = record {
  local = rest.local;
  there = ap (λ xs. slice_get xs n) (reverse_cons x older) ∙ get_left (reverse older) (x ∷ []) n rest.local rest.there;
  named = slot_if name x older false is ∙ rest.named;
}

pub named_is : (name : List ℕ) (locals : List Local) → Named name locals (number_named name locals)
named_is name [] = refl
named_is name (x ∷ older) = named_case name x older (number_named name older) (bytes_eq x.shape.name.now name) refl (named_is name older)

-- a variable that is found by its number is the one of the name
pub found_there : (name : List ℕ) (items : List Local) (n : ℕ) → number_named name (newest_first items) ≡ Some n → (local : Local) → slice_get items n ≡ Some local
    → slot_named name (shapes_seen (newest_first items)) ≡ Some (record { number = n; shape = shape_seen local.shape })
found_there name items n is local there =
    let h : Numbered name (newest_first items) n = subst (λ (o : Option ℕ). Named name (newest_first items) o) is (named_is name (newest_first items)) in
    let same : h.local ≡ local = some_is (sym h.there ∙ ap (λ xs. slice_get xs n) (reverse-reverse items) ∙ there) in
    h.named ∙ ap (λ (l : Local). Some (record { number = n; shape = shape_seen l.shape })) same

pub found_nowhere : (name : List ℕ) (items : List Local) (n : ℕ) → number_named name (newest_first items) ≡ Some n → slice_get items n ≡ None → ⊥
found_nowhere name items n is there =
    let h : Numbered name (newest_first items) n = subst (λ (o : Option ℕ). Named name (newest_first items) o) is (named_is name (newest_first items)) in
    none_some (sym there ∙ ap (λ xs. slice_get xs n) (sym (reverse-reverse items)) ∙ h.there) where
      none_some : {x : Local} → ◌≡◌ {A = Option Local} None (Some x) → ⊥
      none_some e = cc

pub not_named : (name : List ℕ) (items : List Local) → number_named name (newest_first items) ≡ None → slot_named name (shapes_seen (newest_first items)) ≡ None
not_named name items is = subst (λ (o : Option ℕ). Named name (newest_first items) o) is (named_is name (newest_first items))

-- ---- leaving

drop_none : (n : ℕ) → drop {A = code.Shape} n [] ≡ []
drop_none zero = refl
drop_none (suc n) = refl

drop_one_more : (n : ℕ) (xs : List code.Shape) → drop 1 (drop n xs) ≡ drop (n + 1) xs
drop_one_more zero xs = refl
drop_one_more (suc n) [] = drop_none 1 ∙ sym (drop_none (suc n + 1))
drop_one_more (suc n) (x ∷ xs) = drop_one_more n xs ∙ ap (λ (k : ℕ). drop k (x ∷ xs)) (let e : suc (n + 1) ≡ suc n + 1 = omega arith in e)

pub gone_more : (before now next : List code.Shape) (gone : ℕ) → next ≡ drop 1 now → now ≡ drop gone before → next ≡ drop (gone + 1) before
gone_more before now next gone is was = is ∙ ap (drop 1) was ∙ drop_one_more gone before

pub few_gone : (before now : List code.Shape) (count gone : ℕ) → now ≡ drop gone before → gone ≤ length before - count → count < length now → gone + 1 ≤ length before - count
few_gone before now count gone was few many = let e : length now ≡ length before - gone = ap length was ∙ length-drop gone before in omega arith

pub all_gone : (before now : List code.Shape) (count gone : ℕ) → now ≡ drop gone before → gone ≤ length before - count → length now ≤ count → now ≡ drop (length before - count) before
all_gone before now count gone was few done = was ∙ ap (λ n. drop n before) (let e : length now ≡ length before - gone = ap length was ∙ length-drop gone before in let same : gone ≡ length before - count = omega arith in same)

-- ---- forgetting the newest

cut_if : {A : Type 0} (b : Bool) (x y : A) → b ≡ false → (if b then x else y) ≡ y
cut_if true x y e = absurd cc
cut_if false x y e = refl

newest_of : (init : List Local) (x : Local) → newest_first (init ++ x ∷ []) ≡ x ∷ newest_first init
newest_of init x = reverse-append init (x ∷ [])

forgot_at : (t now : List ℕ → Option ℕ) (older : List Local) (x : Local) → ((q : List ℕ) → t q ≡ number_named q (x ∷ older)) → Hides (x ∷ older)
    → ((q : List ℕ) → now q ≡ (if bytes_eq x.shape.name.now q then x.hides else t q)) → (q : List ℕ) → now q ≡ number_named q older
forgot_at t now older x was hides set q = by_name (bytes_eq x.shape.name.now q) refl where
  by_name : (b : Bool) → bytes_eq x.shape.name.now q ≡ b → now q ≡ number_named q older
  by_name true is =
      set q ∙ ap (λ (b : Bool). if b then x.hides else t q) is ∙ hides.0 ∙ ap (λ name. number_named name older) ((bytes_eq-Decides x.shape.name.now q).0 is)
  by_name false is =
      set q ∙ ap (λ (b : Bool). if b then x.hides else t q) is ∙ was q ∙ ap (λ (b : Bool). if b then Some (length older) else number_named q older) is

pub forgot : (items init : List Local) (x : Local) (t now : Newest) → items ≡ init ++ x ∷ []
    → ((q : List ℕ) → numbered t q ≡ number_named q (newest_first items)) → Hides (newest_first items)
    → ((q : List ℕ) → numbered now q ≡ (if bytes_eq x.shape.name.now q then x.hides else numbered t q))
    → ((q : List ℕ) → numbered now q ≡ number_named q (newest_first init)) × Hides (newest_first init)
forgot items init x t now is was hides set =
    let same : newest_first items ≡ x ∷ newest_first init = ap newest_first is ∙ newest_of init x in
    let hid : Hides (x ∷ newest_first init) = subst Hides same hides in (
      forgot_at (numbered t) (numbered now) (newest_first init) x (λ q. was q ∙ ap (number_named q) same) hid set,
      hid.1,
    )
