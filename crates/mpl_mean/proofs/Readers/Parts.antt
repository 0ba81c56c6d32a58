-- What a reader of several parts did: what each of them did, in turn.
use Rattle.std.proofs.Common.{◌≡◌, ◌+◌, Bool, true, false, List, [], ◌∷◌, Option, Some, None, if◌then◌else◌, refl, ap, sym, ◌∙◌}
use Rattle.std.specs.Option.{option_and_then}
use Rattle.mpl_ast.specs.declared.place.At.{At}
use Rattle.mpl_mean.specs.Text.Reading.{Reads, Rest, ◌>>◌, nothing, ended, node}

-- ---- one after another

pub if_read : {A : Type 0} (b : Bool) (o : Option A) (x : A) → (if b then o else None) ≡ Some x → (b ≡ true) × (o ≡ Some x)
if_read true o x h = (refl, h)
if_read false o x h = absurd cc

pub some_same : {x y : Rest} → ◌≡◌ {A = Option Rest} (Some x) (Some y) → x ≡ y
some_same h = cc

-- the reader reads from one place to another
pub record Reading (a : Reads) (r x : Rest) : Type 0 where
  pub is : a r ≡ Some x

pub reading : (a : Reads) {r x : Rest} → a r ≡ Some x → Reading a r x
reading a h = record { is = h }

-- what a reader reads, one that is the same reads
pub told : {a b : Reads} {r x : Rest} → a ≡ b → Reading a r x → Reading b r x
told {r = r} e h = record { is = sym (ap (λ a. a r) e) ∙ h.is }

abbrev pub chain : List Reads → Reads
chain [] = nothing
chain (a ∷ []) = a
chain (a ∷ b ∷ qs) = a >> chain (b ∷ qs)

-- readers in turn, each from where the one before it ended
abbrev pub Through : List Reads → Rest → Rest → Type 0
Through [] r x = r ≡ x
Through (a ∷ []) r x = Reading a r x
Through (a ∷ b ∷ qs) r x = (m : Rest) × Reading a r m × Through (b ∷ qs) m x

pub then_read : (o : Option Rest) (b : Reads) (x : Rest) → option_and_then b o ≡ Some x → (m : Rest) × (o ≡ Some m) × (b m ≡ Some x)
then_read None b x h = absurd cc
then_read (Some m) b x h = (m, refl, h)

through : (ps : List Reads) (r x : Rest) → chain ps r ≡ Some x → Through ps r x
through [] r x h = some_same h
through (a ∷ []) r x h = reading a h
through (a ∷ b ∷ qs) r x h =
    let p = then_read (a r) (chain (b ∷ qs)) x h in
    (p.0, reading a p.1, through (b ∷ qs) p.0 x p.2)

-- what was read in turn
pub in_turn : (ps : List Reads) {r x : Rest} → Reading (chain ps) r x → Through ps r x
in_turn ps h = through ps _ _ h.is

-- ---- nodes

-- behind the beginning of a node
abbrev pub inside : Rest → Rest
inside r = record r { next = r.next + 1 }

ended_read : (at : At) (o : Option Rest) (x : Rest) → ended at o ≡ Some x → o ≡ Some x
ended_read at None x h = absurd cc
ended_read at (Some m) x h = (if_read _ _ _ h).1

-- the parts of a node read what it reads
pub parts : (at : At) (ps : List Reads) {r x : Rest} → Reading (node at (chain ps)) r x → Through ps (inside r) x
parts at ps h = through ps _ _ (ended_read at _ _ (if_read _ _ _ h.is).1)
