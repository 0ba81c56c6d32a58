-- Lists with one more at the end, and without it again.
use Rattle.std.proofs.Common.{◌≡◌, ◌≤◌, ◌+◌, ◌-◌, ℕ, zero, suc, true, false, List, [], ◌∷◌, ◌++◌, length, set, take, Some, None, refl, ap, ◌∙◌, arith, slice_get, length-append}
use Rattle.std.proofs.Math.Seq.{take-append_seam}
use Rattle.mdf_actor.specs.declared.status.ActorStatus.TheVariants as status
use Rattle.mdf_machine.specs.declared.rows.Row.{Row}
use Rattle.mdf_machine.specs.Internal.Rows.{changed, with_child, without_child}
use Rattle.mdf_machine.specs.declared.making.NewCall.{NewCall}
use Rattle.mdf_machine.specs.Internal.Sending.{mark_by, row_by, rows_by, status_by}
use Rattle.mdf_machine.proofs.Changed.{changed-length}

without_last : {A : Type 0} (xs : List A) (x : A) → take (length (xs ++ x ∷ []) - 1) (xs ++ x ∷ []) ≡ xs
without_last xs x =
    let counted : length (xs ++ x ∷ []) - 1 ≡ length xs = omega (arith, length-append xs (x ∷ [])) in
    ap (λ n. take n (xs ++ x ∷ [])) counted ∙ take-append_seam xs (x ∷ [])

pub set_last : {A : Type 0} (xs : List A) (x y : A) → set (xs ++ x ∷ []) (length xs) y ≡ xs ++ y ∷ []
set_last [] x y = refl
set_last (z ∷ xs) x y = ap (λ zs. z ∷ zs) (set_last xs x y)

-- ---- what is there

pub get_last : {A : Type 0} (xs : List A) (y : A) → slice_get (xs ++ y ∷ []) (length xs) ≡ Some y
get_last [] y = refl
get_last (x ∷ xs) y = get_last xs y

pub get_others : {A : Type 0} (xs : List A) (y : A) (k : ℕ) → (k ≡ length xs → ⊥) → slice_get (xs ++ y ∷ []) k ≡ slice_get xs k
get_others [] y zero differ = absurd (differ refl)
get_others [] y (suc k) differ = refl
get_others (x ∷ xs) y zero differ = refl
get_others (x ∷ xs) y (suc k) differ = get_others xs y k (λ e. differ (ap suc e))

pub get_past : {A : Type 0} (xs : List A) (k : ℕ) → length xs ≤ k → slice_get xs k ≡ None
get_past [] k past = refl
get_past (x ∷ xs) zero past = absurd (omega (arith, past))
get_past (x ∷ xs) (suc k) past = get_past xs k (omega (arith, past))

-- ---- calls that are taken back

without_with : (child : ℕ) (row : Row) → without_child (with_child child row) ≡ row
without_with child row = ap (λ children. record row { children = children }) (without_last row.children child)

pub child_dropped : (actor child : ℕ) (rows : List Row) → changed without_child actor (changed (with_child child) actor rows) ≡ rows
child_dropped actor child [] = refl
child_dropped zero child (row ∷ rows) = ap (λ r. r ∷ rows) (without_with child row)
child_dropped (suc actor) child (row ∷ rows) = ap (λ rs. row ∷ rs) (child_dropped actor child rows)

pub call_dropped : (actor child : ℕ) (before old popped now : List Row) (row : Row) → popped ≡ take (length old - 1) old → now ≡ changed without_child actor popped → old ≡ changed (with_child child) actor before ++ row ∷ [] → now ≡ before
call_dropped actor child before old popped now row pop drop was =
    drop ∙ ap (changed without_child actor) (pop ∙ ap (λ rs. take (length rs - 1) rs) was ∙ without_last (changed (with_child child) actor before) row) ∙ child_dropped actor child before

pub rows_longer : (rows : List Row) (call : NewCall) → length (rows_by rows call) ≡ length rows + 1
rows_longer rows call = length-append (changed (with_child call.callee) call.caller rows) (row_by call ∷ []) ∙ ap (λ n. n + 1) (changed-length (with_child call.callee) call.caller rows)

-- ---- by how many arguments are missing

pub status_waits : (missing : ℕ) → (missing ≡ 0 → ⊥) → status.Waiting missing ≡ status_by missing
status_waits zero some = absurd (some refl)
status_waits (suc missing) some = refl

pub status_ready : (missing : ℕ) → missing ≡ 0 → status.Ready ≡ status_by missing
status_ready zero none = refl
status_ready (suc missing) none = absurd (omega (arith, none))

pub mark_off : (missing : ℕ) → (missing ≡ 0 → ⊥) → false ≡ mark_by missing
mark_off zero some = absurd (some refl)
mark_off (suc missing) some = refl

pub mark_on : (missing : ℕ) → missing ≡ 0 → true ≡ mark_by missing
mark_on zero none = refl
mark_on (suc missing) none = absurd (omega (arith, none))
