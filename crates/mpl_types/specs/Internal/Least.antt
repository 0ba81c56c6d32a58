-- The least failure at some nodes, put together from those of its parts.
use Rattle.std.specs.Prelude.{ℕ, Bool, true, false, List, [], ◌∷◌, Option, Some, None}
use Rattle.mpl_mean.specs.TypeRules.Nodes.{Located}
use Rattle.mpl_mean.specs.TypeRules.Rules.{Failure, Rule, rules, lesser}

abbrev pub earlier : Option Failure → Option Failure → Option Failure
earlier None b = b
earlier (Some a) b = Some (lesser a b)

-- what fails among the rest, and a rule at this byte unless it holds
abbrev pub noted : ℕ → ℕ → Bool → Option Failure → Option Failure
noted at rule true rest = rest
noted at rule false rest = Some (lesser (record { at = at; rule = rule }) rest)

abbrev pub noted_by : List Rule → Located → Option Failure → Option Failure
noted_by [] p rest = rest
noted_by (r ∷ rs) p rest = noted p.at r.number (r.holds p.environment p.node) (noted_by rs p rest)

-- the least failure of all rules at some nodes, where there is one
abbrev pub least_of : List Located → Option Failure
least_of [] = None
least_of (p ∷ others) = noted_by rules p (least_of others)
