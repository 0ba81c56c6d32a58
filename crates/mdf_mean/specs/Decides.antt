-- Tests of what is justified, explained and closed.
use Rattle.std.specs.Prelude.{ℕ, suc, ◌^◌, Bool, true, false, not, ◌&&◌, ◌||◌, List, [], ◌∷◌, length, Option, Some, None, is_some, nat_eq, nat_lt, ℤ}
use Rattle.std.specs.List.{list_all}
use Rattle.std.specs.Ordering.{int_eq}
use Rattle.mpl_value.specs.declared.body.CallMade.{CallMade}
use Rattle.mpl_value.specs.declared.known.Known.{Known}
use Rattle.mpl_value.specs.declared.known.Known.TheVariants.{Value, Trapped}
use Rattle.mpl_value.specs.declared.known.Trap.{Trap}
use Rattle.mpl_value.specs.declared.known.TrapKind.{TrapKind}
use Rattle.mpl_value.specs.declared.known.TrapKind.TheVariants.{Overflow, DivZero, Index, Unbound, NoInput, NoReply, Twice}
use Rattle.mpl_value.specs.Words.{object_word}
use Rattle.mdf_mean.specs.declared.entry.Entry.{Entry}
use Rattle.mdf_mean.specs.declared.entry.Entry.TheVariants.{Arrive, Accept, Reply}
use Rattle.mdf_mean.specs.Meanings.{Meaning, Setting}
use Rattle.mdf_mean.specs.Histories.{CallName, accepted_as, has_arrived, has_reply, is_named, is_taken}
use Rattle.mdf_mean.specs.Ran.{Ran, bodies, is_idle, known_call, result_of}
use Rattle.mdf_mean.specs.Picks.{pick}

-- ---- known values

abbrev pub words_eq : List ℤ → List ℤ → Bool
words_eq [] [] = true
words_eq [] (w ∷ words) = false
words_eq (z ∷ more) [] = false
words_eq (z ∷ more) (w ∷ words) = int_eq z w && words_eq more words

abbrev pub kind_number : TrapKind → ℕ
kind_number Overflow = 0
kind_number DivZero = 1
kind_number Index = 2
kind_number Unbound = 3
kind_number NoInput = 4
kind_number NoReply = 5
kind_number Twice = 6

abbrev pub trap_eq : Trap → Trap → Bool
trap_eq t u = nat_eq (kind_number t.kind) (kind_number u.kind) && nat_eq t.line u.line

abbrev pub known_eq : Known → Known → Bool
known_eq (Value words) (Value others) = words_eq words others
known_eq (Value words) (Trapped t) = false
known_eq (Trapped t) (Value words) = false
known_eq (Trapped t) (Trapped u) = trap_eq t u

abbrev pub is_given : Known → Option Known → Bool
is_given known None = false
is_given known (Some given) = known_eq given known

-- ---- justified entries

abbrev pub is_pick : ℕ → ℕ → Option CallName → Bool
is_pick i k None = false
is_pick i k (Some name) = is_named i k name.body name.call

abbrev pub accepts : Meaning → List Ran → List Entry → ℕ → ℕ → Option CallMade → Bool
accepts m bs h i k None = false
accepts m bs h i k (Some call) = is_idle bs call.object && is_pick i k (pick m bs h call.object)

abbrev pub is_free : ℕ → List Entry → Bool
is_free number h = nat_lt 0 number && (nat_lt number (2 ^ 31) && not (is_taken number h))

abbrev pub may_come : Meaning → List Ran → List Entry → Entry → Bool
may_come m bs h (Arrive i k) = is_some (known_call bs i k) && not (has_arrived i k h)
may_come m bs h (Accept number i k) = accepts m bs h i k (known_call bs i k) && is_free number h
may_come m bs h (Reply i k known) = is_given known (result_of bs (accepted_as i k h)) && not (has_reply i k h)

abbrev pub is_justified : Setting → List Entry → Entry → Bool
is_justified s h e = may_come s.meaning (bodies s h) h e

-- ---- journals

abbrev pub is_explained : Setting → List Entry → Bool
is_explained s [] = true
is_explained s (e ∷ before) = is_justified s before e && is_explained s before

-- it holds of each number, from 1, that an item of the list has
abbrev pub each_number : {A : Type 0} → (ℕ → Bool) → List A → Bool
each_number test [] = true
each_number test (x ∷ items) = test (suc (length items)) && each_number test items

abbrev pub none_arrives : List Ran → List Entry → Bool
none_arrives bs h = list_all (λ (b : Ran). each_number (λ k. not (is_some (known_call bs b.start.number k)) || has_arrived b.start.number k h) b.yield.calls) bs

abbrev pub none_accepts : Meaning → List Ran → List Entry → Bool
none_accepts m bs h =
    list_all (λ (b : Ran). each_number (λ j. let o = object_word b.start.number j in not (is_idle bs o) || not (is_some (pick m bs h o))) b.yield.creations) bs

abbrev pub is_replied : List Ran → List Entry → Entry → Bool
is_replied bs h (Arrive i k) = true
is_replied bs h (Accept number i k) = not (is_some (result_of bs (accepted_as i k h))) || has_reply i k h
is_replied bs h (Reply i k known) = true

abbrev pub is_closed_by : Meaning → List Ran → List Entry → Bool
is_closed_by m bs h = none_arrives bs h && (none_accepts m bs h && list_all (is_replied bs h) h)

abbrev pub is_closed : Setting → List Entry → Bool
is_closed s h = is_closed_by s.meaning (bodies s h) h
