use Rattle.std.proofs.Common.{◌≡◌, drop, map}
use Rattle.mpl_mean.specs.TypeRules.Types.{first_named}
use Rattle.mpl_scope.specs.SeenDeclared.{seen_declared}
use Rattle.mpl_scope.proofs.names.first_among.Given as goal

-- those that were passed don't have the name
abbrev pub invariant-loop-declared : goal.invariant-loop-declared
invariant-loop-declared l = first_named l.name (map seen_declared (drop l.declared-index l.list)) ≡ first_named l.name (map seen_declared l.list)
