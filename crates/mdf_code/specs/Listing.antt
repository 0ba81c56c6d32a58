-- The instructions of an image as text, each on a line of its own.
use Rattle.std.specs.Prelude.{ℕ, List, [], ◌∷◌, ◌++◌, codes, Option, Some, None, ℤ, pos}
use Rattle.std.specs.List.{flat_map}
use Rattle.std.specs.Fmt.{signed_decimal}
use Rattle.mdf_code.specs.declared.instr.Instr.{Instr}
use Rattle.mdf_code.specs.declared.instr.Instr.TheVariants as instr
use Rattle.mdf_code.specs.declared.raw.RawEntry.{RawEntry}
use Rattle.mdf_code.specs.declared.raw.RawFunction.{RawFunction}
use Rattle.mdf_code.specs.declared.raw.RawImage.{RawImage}
use Rattle.mdf_code.specs.declared.raw.RawMember.{RawMember}

abbrev pub name_of : Instr → List ℕ
name_of (instr.Push word) = codes "push"
name_of (instr.Drop count) = codes "drop"
name_of (instr.Load variable offset count) = codes "load"
name_of (instr.Store variable offset count) = codes "store"
name_of (instr.LoadIndexed variable offset count line) = codes "loadx"
name_of (instr.StoreIndexed variable offset count line) = codes "storex"
name_of (instr.Zero variable) = codes "zero"
name_of (instr.Copy variable source) = codes "copy"
name_of (instr.Need variable) = codes "need"
name_of (instr.Fetch offset count) = codes "fetch"
name_of (instr.Keep offset count) = codes "keep"
name_of (instr.FetchIndexed offset count line) = codes "fetchx"
name_of (instr.KeepIndexed offset count line) = codes "keepx"
name_of (instr.Add line) = codes "add"
name_of (instr.Sub line) = codes "sub"
name_of (instr.Mul line) = codes "mul"
name_of (instr.Div line) = codes "div"
name_of (instr.Rem line) = codes "rem"
name_of (instr.Neg line) = codes "neg"
name_of instr.Not = codes "not"
name_of instr.Equal = codes "eq"
name_of instr.NotEqual = codes "ne"
name_of instr.Less = codes "lt"
name_of instr.LessEqual = codes "le"
name_of instr.Greater = codes "gt"
name_of instr.GreaterEqual = codes "ge"
name_of (instr.Jump place) = codes "jump"
name_of (instr.JumpZero place) = codes "jumpz"
name_of instr.Test = codes "test"
name_of (instr.Call function) = codes "call"
name_of (instr.Return count) = codes "ret"
name_of instr.Own = codes "self"
name_of (instr.Bound line) = codes "bound"
name_of (instr.ArgWords count) = codes "argw"
name_of (instr.ArgVariable variable) = codes "argv"
name_of (instr.Send member count) = codes "send"
name_of (instr.Post member count) = codes "post"
name_of (instr.SetVariable variable) = codes "setv"
name_of instr.DropFlow = codes "dropf"
name_of instr.Force = codes "force"
name_of (instr.Create class) = codes "create"
name_of (instr.Reply line) = codes "reply"
name_of (instr.Input line) = codes "input"
name_of (instr.Print letters) = codes "print"
name_of (instr.End line) = codes "end"
name_of (instr.Fail line) = codes "fail"

-- the operands but for the letters of a line
abbrev pub operands_of : Instr → List ℤ
operands_of (instr.Push word) = word ∷ []
operands_of (instr.Drop count) = pos count ∷ []
operands_of (instr.Load variable offset count) = pos variable ∷ pos offset ∷ pos count ∷ []
operands_of (instr.Store variable offset count) = pos variable ∷ pos offset ∷ pos count ∷ []
operands_of (instr.LoadIndexed variable offset count line) = pos variable ∷ pos offset ∷ pos count ∷ pos line ∷ []
operands_of (instr.StoreIndexed variable offset count line) = pos variable ∷ pos offset ∷ pos count ∷ pos line ∷ []
operands_of (instr.Zero variable) = pos variable ∷ []
operands_of (instr.Copy variable source) = pos variable ∷ pos source ∷ []
operands_of (instr.Need variable) = pos variable ∷ []
operands_of (instr.Fetch offset count) = pos offset ∷ pos count ∷ []
operands_of (instr.Keep offset count) = pos offset ∷ pos count ∷ []
operands_of (instr.FetchIndexed offset count line) = pos offset ∷ pos count ∷ pos line ∷ []
operands_of (instr.KeepIndexed offset count line) = pos offset ∷ pos count ∷ pos line ∷ []
operands_of (instr.Add line) = pos line ∷ []
operands_of (instr.Sub line) = pos line ∷ []
operands_of (instr.Mul line) = pos line ∷ []
operands_of (instr.Div line) = pos line ∷ []
operands_of (instr.Rem line) = pos line ∷ []
operands_of (instr.Neg line) = pos line ∷ []
operands_of (instr.Jump place) = pos place ∷ []
operands_of (instr.JumpZero place) = pos place ∷ []
operands_of (instr.Call function) = pos function ∷ []
operands_of (instr.Return count) = pos count ∷ []
operands_of (instr.Bound line) = pos line ∷ []
operands_of (instr.ArgWords count) = pos count ∷ []
operands_of (instr.ArgVariable variable) = pos variable ∷ []
operands_of (instr.Send member count) = pos member ∷ pos count ∷ []
operands_of (instr.Post member count) = pos member ∷ pos count ∷ []
operands_of (instr.SetVariable variable) = pos variable ∷ []
operands_of (instr.Create class) = pos class ∷ []
operands_of (instr.Reply line) = pos line ∷ []
operands_of (instr.Input line) = pos line ∷ []
operands_of (instr.End line) = pos line ∷ []
operands_of (instr.Fail line) = pos line ∷ []
operands_of other = []

abbrev pub letters_of : Instr → List ℕ
letters_of (instr.Print letters) = 32 ∷ letters
letters_of other = []

abbrev pub operand_text : ℤ → List ℕ
operand_text operand = 32 ∷ signed_decimal operand

-- the name, the operands behind a space each, and a line feed
abbrev pub line_of : Instr → List ℕ
line_of instruction = name_of instruction ++ (flat_map operand_text (operands_of instruction) ++ (letters_of instruction ++ 10 ∷ []))

abbrev pub lines_of : List Instr → List ℕ
lines_of = flat_map line_of

abbrev pub guard_of : Option (List Instr) → List Instr
guard_of None = []
guard_of (Some guard) = guard

-- the plain functions, the members, the guards and `main`
abbrev pub listing_of : RawImage → List ℕ
listing_of image =
    flat_map (λ (f : RawFunction). lines_of f.body.code) image.functions
    ++ (flat_map (λ (m : RawMember). lines_of m.body.code) image.members
    ++ (flat_map (λ (e : RawEntry). lines_of (guard_of e.guard)) image.entries ++ lines_of image.main.code))
