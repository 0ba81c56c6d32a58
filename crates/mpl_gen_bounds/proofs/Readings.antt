-- What reads so many tokens at least.
use Rattle.std.proofs.Common.{◌≡◌, ◌≤◌, ℕ, ◌+◌, Bool, true, false, List, [], ◌∷◌, length, map, Option, Some, None, if◌then◌else◌, refl, ap, subst, arith}
use Rattle.std.specs.Option.{option_map}
use Rattle.mpl_ast.specs.declared.place.At.{At}
use Rattle.mpl_ast.specs.declared.token.Token.{Token}
use Rattle.mpl_mean.specs.Text.Reading.{Reads, Rest, ◌>>◌, after_first, each, ended, node, nothing, optional, separated, separated_if_any, token}
use Rattle.mpl_mean.proofs.Readers.Parts.{if_read, some_same, then_read}
use Rattle.mpl_mean.proofs.Readers.Tokens.{token_read}
use Rattle.mpl_gen_bounds.proofs.FormCounts.{count_all, count_if_any}

pub record Uses (n : ℕ) (a : Reads) : Type 0 where
  pub uses : (r x : Rest) → a r ≡ Some x → n + length x.tokens ≤ length r.tokens

pub fewer : {m n : ℕ} {a : Reads} → n ≤ m → Uses m a → Uses n a
fewer le h = record { uses = λ r x is. let k = h.uses r x is in omega (arith, le, k) }

pub uses_nothing : Uses 0 nothing
uses_nothing = record { uses = λ r x is. let k = ap (λ (y : Rest). length y.tokens) (some_same is) in omega (arith, k) }

pub uses_token : (test : Token → Bool) → Uses 1 (token test)
uses_token test = record { uses = λ r x is. let k = ap length (token_read test r x is).1 in omega (arith, k) }

-- one behind another
pub uses_both : {m n : ℕ} {a b : Reads} → Uses m a → Uses n b → Uses (m + n) (a >> b)
uses_both {m} {n} {a} {b} h k = record {
  uses = λ r x is.
      let p = then_read (a r) b x is in
      let first = h.uses r p.0 p.1 in
      let second = k.uses p.0 x p.2 in
      omega (arith, first, second);
}

-- behind one token
pub uses_next : {n : ℕ} {b : Reads} (test : Token → Bool) → Uses n b → Uses (1 + n) (token test >> b)
uses_next test h = uses_both (uses_token test) h

-- where the first isn't counted
pub uses_second : {n : ℕ} {m : ℕ} {a b : Reads} → Uses m a → Uses n b → Uses n (a >> b)
uses_second h k = fewer (omega arith) (uses_both h k)

ended_read : (at : At) (o : Option Rest) (x : Rest) → ended at o ≡ Some x → o ≡ Some x
ended_read at None x h = absurd cc
ended_read at (Some m) x h = (if_read _ _ _ h).1

pub uses_node : {n : ℕ} {a : Reads} (at : At) → Uses n a → Uses n (node at a)
uses_node {n} {a} at h = record {
  uses = λ r x is.
      let inner : Rest = record r { next = r.next + 1 } in
      h.uses inner x (ended_read at (a inner) x (if_read _ (ended at (a inner)) x is).1);
}

pub uses_refused : {n : ℕ} → Uses n (λ r. None)
uses_refused = record { uses = λ r x is. absurd cc }

pub uses_same : {n : ℕ} {a b : Reads} → a ≡ b → Uses n a → Uses n b
uses_same {n} e h = subst (Uses n) e h

-- ---- what may be missing

pub uses_optional : {A : Type 0} (f : A → Reads) (count : A → ℕ) → ((x : A) → Uses (count x) (f x)) → (o : Option A) → Uses (count_if_any count o) (optional (option_map f o))
uses_optional f count h None = record { uses = uses_nothing.uses }
uses_optional f count h (Some x) = record { uses = (h x).uses }

-- ---- one after another

-- each of these readers uses so many
abbrev pub AllUse : List ℕ → List Reads → Type 0
AllUse [] [] = Unit {0}
AllUse [] (a ∷ rs) = ⊥
AllUse (n ∷ ns) [] = ⊥
AllUse (n ∷ ns) (a ∷ rs) = Uses n a × AllUse ns rs

abbrev pub total : List ℕ → ℕ
total [] = 0
total (n ∷ ns) = n + total ns

pub uses_each : (ns : List ℕ) (rs : List Reads) → AllUse ns rs → Uses (total ns) (each rs)
uses_each [] [] h = uses_nothing
uses_each [] (a ∷ rs) h = absurd h
uses_each (n ∷ ns) [] h = absurd h
uses_each (n ∷ ns) (a ∷ rs) h = uses_both h.0 (uses_each ns rs h.1)

uses_after_first : (ns : List ℕ) (rs : List Reads) → AllUse ns rs → Uses (total ns) (after_first rs)
uses_after_first [] [] h = uses_nothing
uses_after_first [] (a ∷ rs) h = absurd h
uses_after_first (n ∷ ns) [] h = absurd h
uses_after_first (n ∷ ns) (a ∷ rs) h = uses_second (uses_token _) (uses_both h.0 (uses_after_first ns rs h.1))

pub uses_separated : (ns : List ℕ) (rs : List Reads) → AllUse ns rs → Uses (total ns) (separated rs)
uses_separated [] [] h = record { uses = λ r x is. absurd cc }
uses_separated [] (a ∷ rs) h = absurd h
uses_separated (n ∷ ns) [] h = absurd h
uses_separated (n ∷ ns) (a ∷ rs) h = record { uses = (uses_both h.0 (uses_after_first ns rs h.1)).uses }

pub uses_separated_if_any : (ns : List ℕ) (rs : List Reads) → AllUse ns rs → Uses (total ns) (separated_if_any rs)
uses_separated_if_any [] [] h = record { uses = uses_nothing.uses }
uses_separated_if_any [] (a ∷ rs) h = absurd h
uses_separated_if_any (n ∷ ns) [] h = absurd h
uses_separated_if_any (n ∷ ns) (a ∷ rs) h = record { uses = (uses_separated (n ∷ ns) (a ∷ rs) h).uses }

pub all_use : {A : Type 0} (f : A → Reads) (count : A → ℕ) → ((x : A) → Uses (count x) (f x)) → (xs : List A) → AllUse (map count xs) (map f xs)
all_use f count h [] = tt
all_use f count h (x ∷ xs) = (h x, all_use f count h xs)

pub total_is : {A : Type 0} (count : A → ℕ) (xs : List A) → total (map count xs) ≡ count_all count xs
total_is count [] = refl
total_is count (x ∷ xs) = ap (λ n. count x + n) (total_is count xs)

pub uses_all : {A : Type 0} (f : A → Reads) (count : A → ℕ) → ((x : A) → Uses (count x) (f x)) → (xs : List A) → Uses (count_all count xs) (each (map f xs))
uses_all f count h xs = subst (λ n. Uses n (each (map f xs))) (total_is count xs) (uses_each (map count xs) (map f xs) (all_use f count h xs))

pub uses_row : {A : Type 0} (f : A → Reads) (count : A → ℕ) → ((x : A) → Uses (count x) (f x)) → (xs : List A) → Uses (count_all count xs) (separated (map f xs))
uses_row f count h xs = subst (λ n. Uses n (separated (map f xs))) (total_is count xs) (uses_separated (map count xs) (map f xs) (all_use f count h xs))
