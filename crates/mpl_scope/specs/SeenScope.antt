-- What the checker's own scope stands for.
use Rattle.std.specs.Prelude.{Option, option_map, reverse}
use Rattle.mpl_mean.specs.TypeRules.Scopes as scopes
use Rattle.mpl_scope.specs.declared.scope.Body.{Body}
use Rattle.mpl_scope.specs.declared.scope.Body.TheVariants as body
use Rattle.mpl_scope.specs.declared.scope.Scope.{Scope}
use denote.Ref.{Bor}

abbrev pub seen_body : Body → scopes.Body
seen_body body.Guard = scopes.InGuard
seen_body body.Main = scopes.InMain
seen_body (body.Function result) = scopes.InFunction result.now
seen_body (body.Member result) = scopes.InMember result.now

-- what a reference leads to
abbrev pub seen_if_any : {A : Type 0} → Option (Bor A) → Option A
seen_if_any = option_map (λ r. r.now)

abbrev pub seen_scope : Scope → scopes.Environment
seen_scope s = record { declarations = s.outline.now; class = seen_if_any s.class; body = seen_body s.body; formals = s.formals; blocks = reverse s.blocks.items }
