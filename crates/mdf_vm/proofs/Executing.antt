-- What one kind of instruction does is what the instruction does that is of this kind.
use Rattle.std.proofs.Common.{◌≡◌, ℕ, Result, Ok, Err, subst, sym}
use Rattle.std.specs.Prelude.{IfOk, ℤ}
use Rattle.mpl_value.specs.declared.body.Arg.{Arg}
use Rattle.mpl_value.specs.declared.memory.NoMemory.{NoMemory}
use Rattle.mdf_code.specs.declared.instr.Instr.{Instr}
use Rattle.mdf_code.specs.declared.raw.RawImage.{RawImage}
use Rattle.mdf_code.specs.Frames.{Around}
use Rattle.mdf_vm.specs.Internal.Moves.{Did}
use Rattle.mdf_vm.specs.declared.moves.Move.{Move}
use Rattle.mdf_vm.specs.declared.running.Running.{Running}

pub one : (knows : ℕ → Arg) (x : Around) (i j : Instr) (before after : Running) (m : Move) → i ≡ j → Did knows x j before m after → Did knows x i before m after
one knows x i j before after m is did = subst (λ k. Did knows x k before m after) (sym is) did

-- whatever is known, and whatever is around
pub any : (knows : ℕ → Arg) (x : Around) (i j : Instr) (before after : Running) (r : Result Move NoMemory) → i ≡ j →
    IfOk r (λ m. (k : ℕ → Arg) (y : Around) → Did k y j before m after) → IfOk r (λ m. Did knows x i before m after)
any knows x i j before after (Ok m) is did = one knows x i j before after m is (did knows x)
any knows x i j before after (Err e) is did = did

-- whatever is around
pub known : (knows : ℕ → Arg) (x : Around) (i j : Instr) (before after : Running) (r : Result Move NoMemory) → i ≡ j →
    IfOk r (λ m. (y : Around) → Did knows y j before m after) → IfOk r (λ m. Did knows x i before m after)
known knows x i j before after (Ok m) is did = one knows x i j before after m is (did x)
known knows x i j before after (Err e) is did = did

-- whatever is known, and whatever the object is
pub imaged : (knows : ℕ → Arg) (image : RawImage) (object : ℤ) (i j : Instr) (before after : Running) (r : Result Move NoMemory) → i ≡ j →
    IfOk r (λ m. (k : ℕ → Arg) (o : ℤ) → Did k (record { image = image; object = o }) j before m after) → IfOk r (λ m. Did knows (record { image = image; object = object }) i before m after)
imaged knows image object i j before after (Ok m) is did = one knows (record { image = image; object = object }) i j before after m is (did knows object)
imaged knows image object i j before after (Err e) is did = did

-- whatever is known
pub around : (knows : ℕ → Arg) (x : Around) (i j : Instr) (before after : Running) (r : Result Move NoMemory) → i ≡ j →
    IfOk r (λ m. (k : ℕ → Arg) → Did k x j before m after) → IfOk r (λ m. Did knows x i before m after)
around knows x i j before after (Ok m) is did = one knows x i j before after m is (did knows)
around knows x i j before after (Err e) is did = did
