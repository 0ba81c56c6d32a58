-- What came of an instruction that was tried.
use Rattle.std.proofs.Common.{◌≡◌, ℕ, Bool, false, Result, Ok, Err, subst, sym}
use Rattle.std.specs.Prelude.{OnOk}
use Rattle.std.specs.Result.{is_err}
use Rattle.mpl_value.specs.declared.body.Arg.{Arg}
use Rattle.mdf_code.specs.declared.instr.Instr.{Instr}
use Rattle.mdf_code.specs.Alone.{Held}
use Rattle.mdf_code.specs.Frames.{Around, Next}
use Rattle.mdf_vm.specs.Internal.Tries.{Came, Tried}
use Rattle.mdf_vm.specs.declared.moves.Quick.{Quick}
use Rattle.mdf_vm.specs.declared.running.Running.{Running}

pub tried : (knows : ℕ → Arg) (x : Around) (i j : Instr) (before after : Running) (came : Quick) → i ≡ j → Tried knows x j before came after → Tried knows x i before came after
tried knows x i j before after came is did = subst (λ k. Tried knows x k before came after) (sym is) did

pub came_as : (next : Next Held) (before after : Running) (came known : Quick) → came ≡ known → Came next before came after → Came next before known after
came_as next before after came known is h = subst (λ q. Came next before q after) is h

pub no_error : {T E P : Type 0} (r : Result T E) → false ≡ is_err r → OnOk r P → P
no_error (Ok x) none h = h
no_error (Err e) none h = absurd (cc none)
