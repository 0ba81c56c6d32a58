-- The type rules by their numbers, where each fails, and which programs are well typed.
use Rattle.std.specs.Prelude.{◌≡◌, ◌<◌, ◌≤◌, ◌⊎◌, ℕ, Bool, true, false, not, ◌&&◌, ◌||◌, ◌==◌, nat_lt, List, [], ◌∷◌, map, flat_map, filter, Option, Some, None, if◌then◌else◌}
use Rattle.std.specs.List.{list_any}
use Rattle.mpl_ast.specs.declared.program.Program.{Program}
use Rattle.mpl_mean.specs.TypeRules.CallRules.{plain_call_agrees, member_call_agrees, void_call_is_alone, call_is_in_place, self_is_in_place}
use Rattle.mpl_mean.specs.TypeRules.ClassRules.{state_is_persistent, select_is_allowed, guard_is_allowed, member_gives_value}
use Rattle.mpl_mean.specs.TypeRules.ExpressionRules.{test_is_bool, operands_agree, index_agrees, place_may_stand, field_is_of_struct, right_side_agrees}
use Rattle.mpl_mean.specs.TypeRules.NameRules.{name_is_known, name_is_new, main_is_there}
use Rattle.mpl_mean.specs.TypeRules.Nodes.{Node, Located}
use Rattle.mpl_mean.specs.TypeRules.ProgramNodes.{nodes}
use Rattle.mpl_mean.specs.TypeRules.Scopes.{Environment}
use Rattle.mpl_mean.specs.TypeRules.SizeRules.{type_may_stand, dimension_fits, size_fits, variables_fit, count_is_allowed}
use Rattle.mpl_mean.specs.TypeRules.StatementRules.{speaks_in_main, rtf_agrees, return_agrees}

-- a rule, with its number in messages
pub record Rule : Type 0 where
  pub number : ℕ
  pub holds : Environment → Node → Bool

abbrev pub rule : ℕ → (Environment → Node → Bool) → Rule
rule number holds = record { number = number; holds = holds }

abbrev pub rules : List Rule
rules =
    rule 1 name_is_known
    ∷ rule 2 name_is_new
    ∷ rule 3 main_is_there
    ∷ rule 4 type_may_stand
    ∷ rule 5 dimension_fits
    ∷ rule 6 size_fits
    ∷ rule 7 variables_fit
    ∷ rule 8 count_is_allowed
    ∷ rule 9 state_is_persistent
    ∷ rule 10 select_is_allowed
    ∷ rule 11 guard_is_allowed
    ∷ rule 12 test_is_bool
    ∷ rule 13 operands_agree
    ∷ rule 14 index_agrees
    ∷ rule 15 place_may_stand
    ∷ rule 16 field_is_of_struct
    ∷ rule 17 right_side_agrees
    ∷ rule 18 plain_call_agrees
    ∷ rule 19 member_call_agrees
    ∷ rule 20 void_call_is_alone
    ∷ rule 21 call_is_in_place
    ∷ rule 22 self_is_in_place
    ∷ rule 23 speaks_in_main
    ∷ rule 24 rtf_agrees
    ∷ rule 25 member_gives_value
    ∷ rule 26 return_agrees
    ∷ []

-- a node's first byte, and the number of a rule that fails at it
pub record Failure : Type 0 where
  pub at : ℕ
  pub rule : ℕ

abbrev pub failing_at : Located → List Rule → List Rule
failing_at p = filter (λ (r : Rule). not (r.holds p.environment p.node))

abbrev pub failures_at : List Rule → Located → List Failure
failures_at some p = map (λ (r : Rule). record { at = p.at; rule = r.number }) (failing_at p some)

abbrev pub failures_among : List Rule → List Located → List Failure
failures_among some nodes = flat_map (failures_at some) nodes

-- each failure of some rules, over all nodes
abbrev pub failures_of : List Rule → Program → List Failure
failures_of some p = failures_among some (nodes p)

abbrev pub failures : Program → List Failure
failures = failures_of rules

abbrev pub is_failure : ℕ → ℕ → Failure → Bool
is_failure number at f = (f.rule == number) && (f.at == at)

-- the rule of this number fails at a node that begins at this byte
abbrev pub fails : Program → ℕ → ℕ → Bool
fails p number at = list_any (is_failure number at) (failures p)

-- ---- the least failure

-- by its place, and then by its rule
abbrev pub is_before : Failure → Failure → Bool
is_before a b = nat_lt a.at b.at || ((a.at == b.at) && nat_lt a.rule b.rule)

abbrev pub lesser : Failure → Option Failure → Failure
lesser a None = a
lesser a (Some b) = if is_before b a then b else a

abbrev pub least : List Failure → Option Failure
least [] = None
least (f ∷ others) = Some (lesser f (least others))

-- what a refusal says, where there is one
abbrev pub least_failure : Program → Option Failure
least_failure p = least (failures p)

-- the first is the second, or comes before it
abbrev pub IsNotBehind : Failure → Failure → Type 0
IsNotBehind a b = (a.at < b.at) ⊎ ((a.at ≡ b.at) × (a.rule ≤ b.rule))

-- ---- well typed

abbrev pub is_empty : List Failure → Bool
is_empty [] = true
is_empty (f ∷ others) = false

-- no rule fails
abbrev pub is_typed : Program → Bool
is_typed p = is_empty (failures p)

-- The rules that can fail in a program of the first form.
abbrev pub first_rules : List Rule
first_rules =
    rule 1 name_is_known
    ∷ rule 2 name_is_new
    ∷ rule 3 main_is_there
    ∷ rule 7 variables_fit
    ∷ rule 8 count_is_allowed
    ∷ rule 15 place_may_stand
    ∷ rule 19 member_call_agrees
    ∷ []

abbrev pub first_failures : Program → List Failure
first_failures = failures_of first_rules

-- one of them fails
abbrev pub fails_first : Program → Bool
fails_first p = not (is_empty (first_failures p))
