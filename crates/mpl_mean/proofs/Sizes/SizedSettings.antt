-- A body in its frame: what surrounds its statements, what it runs in, and how the two belong together.
use Rattle.std.proofs.Common.{◌≡◌, ℕ, Bool, true, false, List, [], ◌∷◌, length, map, Option, Some, None, if◌then◌else◌, ℤ, refl, subst}
use Rattle.std.specs.FinMap.{FinMap, get}
use Rattle.std.specs.Ordering.{nat_cmp}
use Rattle.std.specs.Prelude.{is_some}
use Rattle.std.specs.Str.{bytes_eq}
use Rattle.mpl_ast.specs.declared.class.ResultType.{ResultType}
use Rattle.mpl_ast.specs.declared.program.Declaration.{Declaration}
use Rattle.mpl_ast.specs.declared.statement.TypeName.{TypeName}
use Rattle.mpl_value.specs.declared.body.Arg.{Arg}
use Rattle.mpl_value.specs.declared.body.CallMade.{CallMade}
use Rattle.mpl_value.specs.declared.known.Known.{Known}
use Rattle.mpl_mean.specs.TypeRules.CallRules.{call_may_stand}
use Rattle.mpl_mean.specs.Meaning.Context.{Callees, Context}
use Rattle.mpl_mean.specs.Meaning.Layout.{Function, Member, Part, dimension_of, member_named, part_named, state_of, words_of}
use Rattle.mpl_mean.specs.TypeRules.Scopes.{Body, Environment, InFunction, InMember, Surrounding, is_persistent, state_members, variable_of}
use Rattle.mpl_mean.specs.Laws.Sizes.{CallReplyFits, Every, words_of_result}
use Rattle.mpl_mean.specs.Meaning.Store.{Step, Variable, variable_named}
use Rattle.mpl_mean.specs.TypeRules.Types.{Declared, OfClass, OneValue, declared_formals, first_named}
use Rattle.mpl_mean.specs.TypeRules.Typing.{items_called, member_called, receiver_shape}
use Rattle.mpl_mean.specs.Laws.Waiting.{HasPersistent}
use Rattle.mpl_mean.proofs.Sizes.SizedAnswers.{IsMember, ListsFit}
use Rattle.mpl_mean.proofs.Sizes.SizedClasses.{bytes_same}
use Rattle.mpl_mean.proofs.Sizes.SizedParts.{PartFits}
use Rattle.mpl_mean.proofs.Sizes.SizedRules.{HasType, WellDeclared, WellMember, WellResult, WellRoutine, within}
use Rattle.mpl_mean.proofs.Sizes.SizedSteps.{ArgIn, Frame, Keeps, VariableFits, bare, so_after}
use Rattle.mpl_mean.proofs.Sizes.SizedTypes.{WellProgram}

-- what surrounds the statements of a body, and what it runs in
pub record Setting : Type 0 where
  pub class : Option Surrounding
  pub body : Body
  pub formals : List Declared
  pub context : Context

abbrev pub inside : Frame → Setting → Context
inside G S = record S.context { declarations = G.declarations; replies = G.replies }

abbrev pub environment : Frame → Setting → List (List Declared) → Environment
environment G S blocks = within G.declarations S.class S.body S.formals blocks

-- ---- what is called

pub record PlainFits (ds : List Declaration) (f : Function) : Type 0 where
  pub routine : WellRoutine ds None (InFunction f.result) f.formals f.body
  pub result : HasType ds f.result

pub record RegularFits (ds : List Declaration) (m : Member) : Type 0 where
  pub class : Surrounding
  pub regular : class.is_regular ≡ true
  pub stateless : state_of class.items ≡ []
  pub well : WellMember ds class m.result m.formals m.body

abbrev pub frame : List Declaration → Type 0 → Type 0 → FinMap nat_cmp Known → ℕ → Option ℕ → List CallMade → (List ℤ → Type 0) → Frame
frame ds make wait replies state result calls May = record { declarations = ds; replies = replies; state_words = state; result_words = result; calls = calls; MayReturn = May; MayMake = make; MayWait = wait }

-- in each frame what is called with fitting words gives fitting words
pub record BelowFits (ds : List Declaration) (replies : FinMap nat_cmp Known) (b : Callees) : Type 1 where
  pub plain : (make wait : Type 0) (state : ℕ) (result : Option ℕ) (calls : List CallMade) (May : List ℤ → Type 0) (vs : List Variable) (f : Function) (arguments : List (List ℤ))
      → Keeps (frame ds make wait replies state result calls May) vs (PlainFits ds f × ListsFit ds f.formals arguments) (List ℤ) (λ words. length words ≡ words_of ds f.result None) (b.plain f arguments)
  pub regular : (make wait : Type 0) (state : ℕ) (result : Option ℕ) (calls : List CallMade) (May : List ℤ → Type 0) (vs : List Variable) (m : Member) (arguments : List (List ℤ))
      → Keeps (frame ds make wait replies state result calls May) vs (RegularFits ds m × ListsFit ds m.formals arguments) Arg (ArgIn wait (words_of_result ds m.result)) (b.regular m arguments)

-- the member that is called, and what the type rules see of it
pub record Callee (ds : List Declaration) (m n : Member) : Type 0 where
  pub formals : m.formals ≡ n.formals
  pub result : m.result ≡ n.result
  pub well : Every (WellDeclared ds) (declared_formals m.formals)
  pub typed : WellResult ds m.result

abbrev pub CalleesMatch : List Declaration → (Member → Type 0) → Option Member → Option Member → Type 0
CalleesMatch ds R None None = Unit {0}
CalleesMatch ds R None (Some m) = ⊥
CalleesMatch ds R (Some n) None = ⊥
CalleesMatch ds R (Some n) (Some m) = Callee ds m n × R m

-- what a body that returns hands over
abbrev pub ReturnFits : List Declaration → Body → List ℤ → Type 0
ReturnFits ds (InFunction type) words = length words ≡ words_of ds type None
ReturnFits ds body words = Unit {0}

-- members of persistent objects may be called
abbrev pub MayCall : Setting → Type 0
MayCall S = call_may_stand S.body (is_persistent S.class) (Some (OneValue (OfClass []))) ≡ true

pub record Sound (G : Frame) (S : Setting) : Type 1 where
  pub well : WellProgram G.declarations
  pub state : (name : List ℕ) → PartFits G.declarations G.state_words (first_named name (state_members S.class)) (part_named name S.context.state)
  pub own : (blocks : List (List Declared)) (name : List ℕ) → is_persistent S.class ≡ true → CalleesMatch G.declarations (IsMember G.declarations) (member_called (environment G S blocks) None name) (member_named name S.context.members)
  pub replies : MayCall S → HasPersistent G.declarations → Every (CallReplyFits G.declarations G.replies) G.calls
  pub makes : MayCall S → HasPersistent G.declarations → G.MayMake
  pub awaits : MayCall S → HasPersistent G.declarations → Every (λ (call : CallMade). get G.replies call.call ≡ None → G.MayWait) G.calls
  pub own_class : is_persistent S.class ≡ true → HasPersistent G.declarations
  pub own_items : (blocks : List (List Declared)) → is_persistent S.class ≡ true → is_some (items_called G.declarations (receiver_shape (environment G S blocks) None)) ≡ true
  pub result : (result : ResultType) → S.body ≡ InMember result → G.result_words ≡ Some (words_of_result G.declarations result)
  pub typed : (result : ResultType) → S.body ≡ InMember result → WellResult G.declarations result
  pub function_typed : (type : TypeName) → S.body ≡ InFunction type → HasType G.declarations type
  pub returns : (words : List ℤ) → ReturnFits G.declarations S.body words → G.MayReturn words
  pub callees : BelowFits G.declarations G.replies S.context.callees

-- ---- variables

abbrev pub VariableOf : List Declaration → Option Declared → Variable → Type 0
VariableOf ds None v = ⊥
VariableOf ds (Some d) v = (v.type ≡ d.type) × (v.dimension ≡ dimension_of d.dimension) × WellDeclared ds d

-- a name is the same in the scope and in the store: a variable, or else a member of the state
abbrev pub PlaceFits : List Declaration → ℕ → Option Declared → Option Variable → Option Part → Type 0
PlaceFits ds total d (Some v) part = VariableOf ds d v
PlaceFits ds total d None part = PartFits ds total d part

abbrev pub Matches : Frame → Setting → List (List Declared) → List Variable → Type 0
Matches G S blocks vs =
    (name : List ℕ) → PlaceFits G.declarations G.state_words (variable_of (environment G S blocks) name) (variable_named name vs) (part_named name S.context.state)

-- what is known of a variable that was looked up
abbrev pub FoundAs : Type 0 → List Declaration → Option Variable → List ℕ → Option Variable → Type 0
FoundAs W ds u name None = u ≡ None
FoundAs W ds u name (Some v) = (u ≡ Some (bare v)) × VariableFits W ds v × (v.name ≡ name)

found_in : (W : Type 0) (ds : List Declaration) (name : List ℕ) (vs : List Variable) → Every (VariableFits W ds) vs
    → FoundAs W ds (variable_named name (map bare vs)) name (variable_named name vs)
found_in W ds name [] h = refl
found_in W ds name (v ∷ vs) h = chosen (bytes_eq v.name name) refl (found_in W ds name vs h.1) where
  chosen : (b : Bool) → bytes_eq v.name name ≡ b → FoundAs W ds (variable_named name (map bare vs)) name (variable_named name vs)
      → FoundAs W ds (if b then Some (bare v) else variable_named name (map bare vs)) name (if b then Some v else variable_named name vs)
  chosen true e k = (refl, h.0, bytes_same v.name name e)
  chosen false e k = k

-- a step that begins with a look at a variable
pub look_keeps : (G : Frame) (vs : List Variable) {P : Type 0} {A : Type 0} {V : A → Type 0} (name : List ℕ) (h : Option Variable → Step A)
    → ((v : Option Variable) → Keeps G vs (P × FoundAs G.MayWait G.declarations (variable_named name vs) name v) A V (h v)) → Keeps G vs P A V (λ s. h (variable_named name s.variables) s)
look_keeps G vs {P} {A} {V} name h r = record {
  grows = λ s. (r (variable_named name s.variables)).grows s;
  holds = λ s q w.
      so_after G (λ a s i. ((q.0, i.0.1), i.1)) (h (variable_named name s.variables) s)
      ((r (variable_named name s.variables)).holds s
      ((q.0, subst (λ vs. FoundAs G.MayWait G.declarations (variable_named name vs) name (variable_named name s.variables)) q.1.0 (found_in G.MayWait G.declarations name s.variables q.1.1)), q.1) w);
}
