-- Of one source there is one exact answer.
use Rattle.std.proofs.Common.{◌≡◌, ◌+◌, ◌≤◌, ◌<◌, ℕ, ℤ, List, [], Option, None, inl, inr, take, Result, true, Ok, Err, Some, refl, sym, ap, subst, true≢false, ◌∙◌, arith}
use Rattle.std.specs.Prelude.{length, ◌∷◌}
use Rattle.mpl_ast.specs.declared.program.Program.{Program}
use Rattle.mpl_ast.specs.declared.token.Token.{Token}
use Rattle.mpl_value.specs.declared.body.BodyEnd.{BodyEnd}
use Rattle.mpl_value.specs.declared.body.BodyEnd.TheVariants as end
use Rattle.mpl_value.specs.declared.body.Yield.{Yield}
use Rattle.mpl_mean.specs.Accepted.{IsAccepted}
use Rattle.mpl_mean.specs.Limits.{most_source_bytes}
use Rattle.mpl_mean.specs.Meaning.DirectRun.{direct_run}
use Rattle.mpl_mean.specs.Text.Lexemes.{LexicalFault, BadByte, OpenComment, WideNumber, tokens_of}
use Rattle.mpl_mean.specs.Text.ParseFaults.{HasLightProgram, IsSyntaxFault, IsTooDeep}
use Rattle.mpl_mean.specs.Text.ProgramText.{spells}
use Rattle.mpl_mean.specs.TypeRules.Rules.{Failure, failures, is_empty, is_typed, least, least_failure}
use Rattle.mentat_io.specs.Shelf.{Files}
use Rattle.mentat_input.proofs.OneAnswer.{one_answer}
use Rattle.mentat_input.specs.Limits.{most_input_bytes}
use Rattle.mentat_input.specs.Reads.{IsDecided, IsInput}
use Rattle.mentat_input.specs.declared.fault.InputFault.{InputFault}
use Rattle.mentat_input.specs.declared.fault.InputFault.TheVariants as fault
use Rattle.mentat_cmd.specs.Answer.{Answers, IsCause, IsExact, IsGiven, IsRead, IsTooLong, any_stream}
use Rattle.mentat_cmd.specs.Input.{Finds, told_input}
use Rattle.mentat_cmd.specs.Internal.Ran.{fault_status}
use Rattle.mentat_cmd.specs.Program.{IsBuilt, IsIllTyped, IsRefused, IsUnbuilt, NeedsInput, Runs, asks_for_input, first_persistent}
use Rattle.mentat_cmd.specs.declared.status.Refusal.{Refusal}
use Rattle.mentat_cmd.specs.declared.status.Refusal.TheVariants as refusal
use Rattle.mentat_cmd.specs.declared.status.Status.{Status}
use Rattle.mentat_cmd.specs.declared.status.Status.TheVariants as status

abbrev pub OneTree : Type 0
OneTree = (p q : Program) (tokens : List Token) → spells p tokens ≡ true → spells q tokens ≡ true → p ≡ q

-- of tokens there is at most one fault
pub record OneFault : Type 0 where
  pub syntax : (tokens : List Token) (end a b : ℕ) → IsSyntaxFault tokens end a → IsSyntaxFault tokens end b → a ≡ b
  pub depth : (tokens : List Token) (a b : ℕ) → IsTooDeep tokens a → IsTooDeep tokens b → a ≡ b
  pub not_both : (tokens : List Token) (end a b : ℕ) → IsSyntaxFault tokens end a → IsTooDeep tokens b → ⊥
  pub no_syntax : (tokens : List Token) (end at : ℕ) → HasLightProgram tokens → IsSyntaxFault tokens end at → ⊥
  pub no_depth : (tokens : List Token) (at : ℕ) → HasLightProgram tokens → IsTooDeep tokens at → ⊥

pub ok_same : {A E : Type 0} (r : Result A E) (x y : A) → r ≡ Ok x → r ≡ Ok y → x ≡ y
ok_same r x y e f = cc

err_same : {A E : Type 0} (r : Result A E) (x y : E) → r ≡ Err x → r ≡ Err y → x ≡ y
err_same r x y e f = cc

not_both_of : {A E : Type 0} (r : Result A E) (x : E) (y : A) → r ≡ Err x → r ≡ Ok y → ⊥
not_both_of r x y e f = cc

some_same : {A : Type 0} (r : Option A) (x y : A) → r ≡ Some x → r ≡ Some y → x ≡ y
some_same r x y e f = cc

none_is_some : {A : Type 0} (r : Option A) (x : A) → r ≡ None → r ≡ Some x → ⊥
none_is_some r x e f = cc

-- ---- programs and runs

pub one_program : OneTree → (source : List ℕ) (p q : Program) → IsAccepted source p → IsAccepted source q → p ≡ q
one_program one_tree source p q a b =
    let same : a.tokens ≡ b.tokens = ok_same (tokens_of source) a.tokens b.tokens a.lexed b.lexed in
    one_tree p q b.tokens (subst (λ (ts : List Token). spells p ts ≡ true) same a.spelled) b.spelled

one_run : OneTree → (budget : ℕ) (source : List ℕ) (numbers : List ℤ) (y z : Yield) → Runs budget source numbers y → Runs budget source numbers z → y ≡ z
one_run one_tree budget source numbers y z r s =
    r.yield
    ∙ ap (λ (p : Program). direct_run p numbers budget) (one_program one_tree source r.program s.program r.source_is.accepted s.source_is.accepted)
    ∙ sym s.yield

-- a program without persistent classes is none with one
not_unbuilt : OneTree → (source : List ℕ) (p : Program) (at : ℕ) → IsBuilt source p → IsUnbuilt source at → ⊥
not_unbuilt one_tree source p at b u =
    let same : p ≡ u.program = one_program one_tree source p u.program b.accepted u.accepted in
    none_is_some (first_persistent u.program.declarations) at (subst (λ (q : Program). first_persistent q.declarations ≡ None) same b.regular) u.persistent

-- one source has one first word `persistent`
one_place : OneTree → (source : List ℕ) (at place : ℕ) → IsUnbuilt source at → IsUnbuilt source place → at ≡ place
one_place one_tree source at place u v =
    let same : u.program ≡ v.program = one_program one_tree source u.program v.program u.accepted v.accepted in
    some_same (first_persistent v.program.declarations) at place (subst (λ (q : Program). first_persistent q.declarations ≡ Some at) same u.persistent) v.persistent

-- ---- refusals

abbrev lexical_refusal : LexicalFault → ℕ → Refusal
lexical_refusal BadByte at = refusal.BadByte at
lexical_refusal WideNumber at = refusal.WideNumber at
lexical_refusal OpenComment at = refusal.OpenComment at

-- a refusal of tokens that aren't there, of those that are, or of their program
data Refused (source : List ℕ) (r : Refusal) : Type 0 where
  lexical : (f : LexicalFault) (at : ℕ) → tokens_of source ≡ Err (f, at) → r ≡ lexical_refusal f at → Refused source r
  syntactic : (ts : List Token) (at : ℕ) → tokens_of source ≡ Ok ts → IsSyntaxFault ts (length source) at → r ≡ refusal.Syntax at → Refused source r
  deep : (ts : List Token) (at : ℕ) → tokens_of source ≡ Ok ts → IsTooDeep ts at → r ≡ refusal.TooDeep at → Refused source r
  ill : (rule at : ℕ) → IsIllTyped source rule at → r ≡ refusal.Rule rule at → Refused source r

refused : (source : List ℕ) (r : Refusal) → IsRefused source r → Refused source r
refused source (refusal.BadByte at) e = lexical BadByte at e refl
refused source (refusal.WideNumber at) e = lexical WideNumber at e refl
refused source (refusal.OpenComment at) e = lexical OpenComment at e refl
refused source (refusal.Syntax at) f = syntactic f.tokens at f.lexed f.fault refl
refused source (refusal.TooDeep at) f = deep f.tokens at f.lexed f.fault refl
refused source (refusal.Rule rule at) f = ill rule at f refl

-- the tokens of an ill typed program
ill_light : (source : List ℕ) (rule at : ℕ) → (f : IsIllTyped source rule at) → HasLightProgram f.tokens
ill_light source rule at f = record { program = f.program; spelled = f.spelled; light = f.light }

light_of : (source : List ℕ) (p : Program) → (a : IsAccepted source p) → HasLightProgram a.tokens
light_of source p a = record { program = p; spelled = a.spelled; light = a.light }

-- tokens with a syntax fault, or too deep, are those of no light program
no_syntax_at : OneFault → (source : List ℕ) (ts us : List Token) (at : ℕ) → tokens_of source ≡ Ok ts → tokens_of source ≡ Ok us → HasLightProgram us → IsSyntaxFault ts (length source) at → ⊥
no_syntax_at one source ts us at e h light f =
    one.no_syntax ts (length source) at (subst HasLightProgram (ok_same (tokens_of source) us ts h e) light) f

no_depth_at : OneFault → (source : List ℕ) (ts us : List Token) (at : ℕ) → tokens_of source ≡ Ok ts → tokens_of source ≡ Ok us → HasLightProgram us → IsTooDeep ts at → ⊥
no_depth_at one source ts us at e h light f =
    one.no_depth ts at (subst HasLightProgram (ok_same (tokens_of source) us ts h e) light) f

-- of one source there is one least failure
one_failure : OneTree → (source : List ℕ) (rule at other place : ℕ) → IsIllTyped source rule at → IsIllTyped source other place → refusal.Rule rule at ≡ refusal.Rule other place
one_failure one_tree source rule at other place f g =
    let tokens : f.tokens ≡ g.tokens = ok_same (tokens_of source) f.tokens g.tokens f.lexed g.lexed in
    let program : f.program ≡ g.program =
    one_tree f.program g.program g.tokens (subst (λ (ts : List Token). spells f.program ts ≡ true) tokens f.spelled) g.spelled in
    let failure : ◌≡◌ {A = Failure} (record { at = at; rule = rule }) (record { at = place; rule = other }) =
    some_same (least_failure g.program) _ _ (subst (λ (p : Program). least_failure p ≡ Some (record { at = at; rule = rule })) program f.fails) g.fails in
    ap (λ (x : Failure). refusal.Rule x.rule x.at) failure

-- where a rule fails, some do
some_fail : (fs : List Failure) (f : Failure) → least fs ≡ Some f → is_empty fs ≡ true → ⊥
some_fail [] f e t = cc
some_fail (g ∷ fs) f e t = cc

-- an accepted program is not ill typed
well_typed : OneTree → (source : List ℕ) (p : Program) (rule at : ℕ) → IsAccepted source p → IsIllTyped source rule at → ⊥
well_typed one_tree source p rule at a f =
    let tokens : a.tokens ≡ f.tokens = ok_same (tokens_of source) a.tokens f.tokens a.lexed f.lexed in
    let program : p ≡ f.program =
    one_tree p f.program f.tokens (subst (λ (ts : List Token). spells p ts ≡ true) tokens a.spelled) f.spelled in
    some_fail (failures f.program) (record { at = at; rule = rule }) f.fails (subst (λ (q : Program). is_typed q ≡ true) program a.typed)

lexical_same : (f g : LexicalFault) (a b : ℕ) (r q : Refusal) → ◌≡◌ {A = LexicalFault × ℕ} (f, a) (g, b) → r ≡ lexical_refusal f a → q ≡ lexical_refusal g b → r ≡ q
lexical_same f g a b r q e i j = i ∙ ap (λ (p : LexicalFault × ℕ). lexical_refusal p.0 p.1) e ∙ sym j

one_refusal : OneTree → OneFault → (source : List ℕ) (r q : Refusal) → Refused source r → Refused source q → r ≡ q
one_refusal tree one source r q (lexical f a e i) (lexical g b h j) = lexical_same f g a b r q (err_same (tokens_of source) (f, a) (g, b) e h) i j
one_refusal tree one source r q (lexical f a e i) (syntactic us b h k j) = absurd (not_both_of (tokens_of source) (f, a) us e h)
one_refusal tree one source r q (lexical f a e i) (deep us b h k j) = absurd (not_both_of (tokens_of source) (f, a) us e h)
one_refusal tree one source r q (lexical f a e i) (ill n b k j) = absurd (not_both_of (tokens_of source) (f, a) k.tokens e k.lexed)
one_refusal tree one source r q (syntactic ts a e f i) (lexical g b h j) = absurd (not_both_of (tokens_of source) (g, b) ts h e)
one_refusal tree one source r q (syntactic ts a e f i) (syntactic us b h k j) =
    let same : ts ≡ us = ok_same (tokens_of source) ts us e h in
    i ∙ ap refusal.Syntax (one.syntax us (length source) a b (subst (λ vs. IsSyntaxFault vs (length source) a) same f) k) ∙ sym j
one_refusal tree one source r q (syntactic ts a e f i) (deep us b h k j) =
    let same : ts ≡ us = ok_same (tokens_of source) ts us e h in
    absurd (one.not_both us (length source) a b (subst (λ vs. IsSyntaxFault vs (length source) a) same f) k)
one_refusal tree one source r q (syntactic ts a e f i) (ill n b k j) = absurd (no_syntax_at one source ts k.tokens a e k.lexed (ill_light source n b k) f)
one_refusal tree one source r q (deep ts a e f i) (lexical g b h j) = absurd (not_both_of (tokens_of source) (g, b) ts h e)
one_refusal tree one source r q (deep ts a e f i) (syntactic us b h k j) =
    let same : us ≡ ts = ok_same (tokens_of source) us ts h e in
    absurd (one.not_both ts (length source) b a (subst (λ vs. IsSyntaxFault vs (length source) b) same k) f)
one_refusal tree one source r q (deep ts a e f i) (deep us b h k j) =
    let same : ts ≡ us = ok_same (tokens_of source) ts us e h in
    i ∙ ap refusal.TooDeep (one.depth us a b (subst (λ vs. IsTooDeep vs a) same f) k) ∙ sym j
one_refusal tree one source r q (deep ts a e f i) (ill n b k j) = absurd (no_depth_at one source ts k.tokens a e k.lexed (ill_light source n b k) f)
one_refusal tree one source r q (ill m a f i) (lexical g b h j) = absurd (not_both_of (tokens_of source) (g, b) f.tokens h f.lexed)
one_refusal tree one source r q (ill m a f i) (syntactic us b h k j) = absurd (no_syntax_at one source us f.tokens b h f.lexed (ill_light source m a f) k)
one_refusal tree one source r q (ill m a f i) (deep us b h k j) = absurd (no_depth_at one source us f.tokens b h f.lexed (ill_light source m a f) k)
one_refusal tree one source r q (ill m a f i) (ill n b k j) = i ∙ one_failure tree source m a n b f k ∙ sym j

-- an accepted source is not refused
not_refused : OneTree → OneFault → (source : List ℕ) (r : Refusal) (p : Program) → Refused source r → IsAccepted source p → ⊥
not_refused tree one source r p (lexical f at e i) a = not_both_of (tokens_of source) (f, at) a.tokens e a.lexed
not_refused tree one source r p (syntactic ts at e f i) a = no_syntax_at one source ts a.tokens at e a.lexed (light_of source p a) f
not_refused tree one source r p (deep ts at e f i) a = no_depth_at one source ts a.tokens at e a.lexed (light_of source p a) f
not_refused tree one source r p (ill rule at f i) a = well_typed tree source p rule at a f

-- ---- answers

-- the status of a run
abbrev status_of : BodyEnd → Status
status_of end.Done = status.Done
status_of (end.Trap trap) = status.Trap trap
status_of end.Waits = status.Stuck
status_of end.Spent = status.Spent

abbrev Answer : Type 0
Answer = Result (List ℤ) InputFault

-- the bytes of an input that are read
abbrev read_of : List ℕ → List ℕ
read_of left = take (most_input_bytes + 1) left

-- a source is too long, is refused, has a persistent class, asks for an input that gives no numbers, or runs
data Found (budget : ℕ) (source left : List ℕ) (s : Status) (turns : ℕ) : Type 0 where
  long : most_source_bytes < length source → s ≡ status.TooLong → turns ≡ 0 → Found budget source left s turns
  wrong : length source ≤ most_source_bytes → (r : Refusal) → Refused source r → s ≡ status.Refused r → turns ≡ 0 → Found budget source left s turns
  none : (at : ℕ) → IsUnbuilt source at → s ≡ status.Unbuilt at → turns ≡ 0 → Found budget source left s turns
  faulty : NeedsInput source → (e : InputFault) → IsDecided (Err e) → IsInput (read_of left) (Err e) → s ≡ fault_status e → turns ≡ 0 → Found budget source left s turns
  ran : (numbers : List ℤ) (y : Yield) → IsGiven source (told_input left) numbers → Runs budget source numbers y → s ≡ status_of y.end → turns ≡ y.turns → Found budget source left s turns

-- what is found of an input that is told
input_is : (left : List ℕ) (answer : Answer) → Finds (told_input left) answer → IsInput (read_of left) answer
input_is left answer f = subst (λ (bytes : List ℕ). IsInput bytes answer) f.1 f.2

found_too_long : (budget : ℕ) (source left : List ℕ) (turns : ℕ) → IsTooLong source (told_input left) → turns ≡ 0 → Found budget source left status.TooLong turns
found_too_long budget source left turns (inl h) zero = long h.0 refl zero
found_too_long budget source left turns (inr h) zero = faulty h.0 fault.TooLong tt (input_is left (Err fault.TooLong) h.1) refl zero

found_in : (budget : ℕ) (source left : List ℕ) (s : Status) (turns : ℕ) → IsExact s → Answers budget source (told_input left) any_stream any_stream s turns → Found budget source left s turns
found_in budget source left status.Done turns x c = ran c.numbers c.done c.given c.runs (sym (ap status_of c.ends.0)) c.takes
found_in budget source left (status.Trap trap) turns x c = ran c.numbers c.done c.given c.runs (sym (ap status_of c.ends.0)) c.takes
found_in budget source left status.Spent turns x c = ran c.numbers c.done c.given c.runs (sym (ap status_of c.ends.0)) c.takes
found_in budget source left status.Stuck turns x c = absurd c
found_in budget source left status.TooLong turns x c = found_too_long budget source left turns c.0 c.1.0
found_in budget source left (status.Refused r) turns x c = wrong c.0 r (refused source r c.1) refl c.3.0
found_in budget source left (status.Unbuilt at) turns x c = none at c.0 refl c.2.0
found_in budget source left (status.BadInput at) turns x c = faulty c.0 (fault.BadInput at) tt (input_is left (Err (fault.BadInput at)) c.1) refl c.2.0
found_in budget source left status.Usage turns x c = absurd x
found_in budget source left status.ReadFault turns x c = absurd x
found_in budget source left status.WriteFault turns x c = absurd x
found_in budget source left status.NoMemory turns x c = absurd x

found : (budget : ℕ) (files : Files) (name left : List ℕ) (s : Status) (turns : ℕ) → IsExact s → IsCause budget files name left s turns → (source : List ℕ) × IsRead (Some files) name source × Found budget source left s turns
found budget files name left status.Done turns x c = (c.0, c.1, found_in budget c.0 left status.Done turns x c.2)
found budget files name left (status.Trap trap) turns x c = (c.0, c.1, found_in budget c.0 left (status.Trap trap) turns x c.2)
found budget files name left status.Stuck turns x c = (c.0, c.1, found_in budget c.0 left status.Stuck turns x c.2)
found budget files name left status.Spent turns x c = (c.0, c.1, found_in budget c.0 left status.Spent turns x c.2)
found budget files name left status.TooLong turns x c = (c.0, c.1, found_in budget c.0 left status.TooLong turns x c.2)
found budget files name left (status.Refused r) turns x c = (c.0, c.1, found_in budget c.0 left (status.Refused r) turns x c.2)
found budget files name left (status.Unbuilt at) turns x c = (c.0, c.1, found_in budget c.0 left (status.Unbuilt at) turns x c.2)
found budget files name left (status.BadInput at) turns x c = (c.0, c.1, found_in budget c.0 left (status.BadInput at) turns x c.2)
found budget files name left status.Usage turns x c = absurd x
found budget files name left status.ReadFault turns x c = absurd x
found budget files name left status.WriteFault turns x c = absurd x
found budget files name left status.NoMemory turns x c = absurd x

too_short : (source : List ℕ) → most_source_bytes < length source → length source ≤ most_source_bytes → ⊥
too_short source h k = omega (arith, h, k)

-- ---- inputs

err_of : {A E : Type 0} (e f : E) → ◌≡◌ {A = Result A E} (Err e) (Err f) → e ≡ f
err_of e f same = cc

ok_of : {A E : Type 0} (x y : A) → ◌≡◌ {A = Result A E} (Ok x) (Ok y) → x ≡ y
ok_of x y same = cc

err_is_ok : {A E : Type 0} (e : E) (x : A) → ◌≡◌ {A = Result A E} (Err e) (Ok x) → ⊥
err_is_ok e x same = cc

one_fault : (left : List ℕ) (e f : InputFault) → IsDecided (Err e) → IsDecided (Err f) → IsInput (read_of left) (Err e) → IsInput (read_of left) (Err f) → e ≡ f
one_fault left e f x y i j = err_of e f (one_answer (read_of left) (Err e) (Err f) x y i j)

-- a run is given numbers where the source asks for none, or where the input has them
not_faulty : (source left : List ℕ) (e : InputFault) (numbers : List ℤ) → asks_for_input source ≡ true → IsDecided (Err e) → IsInput (read_of left) (Err e) → IsGiven source (told_input left) numbers → ⊥
not_faulty source left e numbers asks x i (inl g) = true≢false (sym asks ∙ g.0)
not_faulty source left e numbers asks x i (inr g) =
    err_is_ok e numbers (one_answer (read_of left) (Err e) (Ok numbers) x tt i (input_is left (Ok numbers) g.1))

one_given : (source left : List ℕ) (ns ms : List ℤ) → IsGiven source (told_input left) ns → IsGiven source (told_input left) ms → ns ≡ ms
one_given source left ns ms (inl g) (inl h) = g.2 ∙ sym h.2
one_given source left ns ms (inl g) (inr h) = absurd (true≢false (sym h.0 ∙ g.0))
one_given source left ns ms (inr g) (inl h) = absurd (true≢false (sym g.0 ∙ h.0))
one_given source left ns ms (inr g) (inr h) =
    ok_of ns ms (one_answer (read_of left) (Ok ns) (Ok ms) tt tt (input_is left (Ok ns) g.1) (input_is left (Ok ms) h.1))

-- ---- one answer

one_found : (budget : ℕ) → OneTree → OneFault → (source left : List ℕ) (s t : Status) (m n : ℕ) → Found budget source left s m → Found budget source left t n → (s ≡ t) × (m ≡ n)
one_found budget tree one source left s t m n (long h is zero) (long k js also) = (is ∙ sym js, zero ∙ sym also)
one_found budget tree one source left s t m n (long h is zero) (wrong k r w js also) = absurd (too_short source h k)
one_found budget tree one source left s t m n (long h is zero) (none at u js also) = absurd (too_short source h u.accepted.short)
one_found budget tree one source left s t m n (long h is zero) (faulty a e x i js also) = absurd (too_short source h a.source_is.accepted.short)
one_found budget tree one source left s t m n (long h is zero) (ran ns y g r js takes) = absurd (too_short source h r.source_is.accepted.short)
one_found budget tree one source left s t m n (wrong h r w is zero) (long k js also) = absurd (too_short source k h)
one_found budget tree one source left s t m n (wrong h r w is zero) (wrong k q v js also) = (is ∙ ap status.Refused (one_refusal tree one source r q w v) ∙ sym js, zero ∙ sym also)
one_found budget tree one source left s t m n (wrong h r w is zero) (none at u js also) = absurd (not_refused tree one source r u.program w u.accepted)
one_found budget tree one source left s t m n (wrong h r w is zero) (faulty a e x i js also) = absurd (not_refused tree one source r a.program w a.source_is.accepted)
one_found budget tree one source left s t m n (wrong h q w is zero) (ran ns y g r js takes) = absurd (not_refused tree one source q r.program w r.source_is.accepted)
one_found budget tree one source left s t m n (none at u is zero) (long k js also) = absurd (too_short source k u.accepted.short)
one_found budget tree one source left s t m n (none at u is zero) (wrong k r w js also) = absurd (not_refused tree one source r u.program w u.accepted)
one_found budget tree one source left s t m n (none at u is zero) (none place v js also) = (is ∙ ap status.Unbuilt (one_place tree source at place u v) ∙ sym js, zero ∙ sym also)
one_found budget tree one source left s t m n (none at u is zero) (faulty a e x i js also) = absurd (not_unbuilt tree source a.program at a.source_is u)
one_found budget tree one source left s t m n (none at u is zero) (ran ns y g r js takes) = absurd (not_unbuilt tree source r.program at r.source_is u)
one_found budget tree one source left s t m n (faulty a e x i is zero) (long k js also) = absurd (too_short source k a.source_is.accepted.short)
one_found budget tree one source left s t m n (faulty a e x i is zero) (wrong k r w js also) = absurd (not_refused tree one source r a.program w a.source_is.accepted)
one_found budget tree one source left s t m n (faulty a e x i is zero) (none at u js also) = absurd (not_unbuilt tree source a.program at a.source_is u)
one_found budget tree one source left s t m n (faulty a e x i is zero) (faulty b f y j js also) = (is ∙ ap fault_status (one_fault left e f x y i j) ∙ sym js, zero ∙ sym also)
one_found budget tree one source left s t m n (faulty a e x i is zero) (ran ns y g r js takes) = absurd (not_faulty source left e ns a.asks x i g)
one_found budget tree one source left s t m n (ran ns y g r is takes) (long k js also) = absurd (too_short source k r.source_is.accepted.short)
one_found budget tree one source left s t m n (ran ns y g r is takes) (wrong k q w js also) = absurd (not_refused tree one source q r.program w r.source_is.accepted)
one_found budget tree one source left s t m n (ran ns y g r is takes) (none at u js also) = absurd (not_unbuilt tree source r.program at r.source_is u)
one_found budget tree one source left s t m n (ran ns y g r is takes) (faulty a e x i js also) = absurd (not_faulty source left e ns a.asks x i g)
one_found budget tree one source left s t m n (ran ns y g r is takes) (ran ms z h q js also) =
    let numbers : ns ≡ ms = one_given source left ns ms g h in
    let same : y ≡ z = one_run tree budget source ms y z (subst (λ (ks : List ℤ). Runs budget source ks y) numbers r) q in
    (is ∙ ap (λ (w : Yield). status_of w.end) same ∙ sym js, takes ∙ ap (λ (w : Yield). w.turns) same ∙ sym also)

pub causes_exclude : OneTree → OneFault → (budget : ℕ) (files : Files) (name left : List ℕ) (s t : Status) (m n : ℕ) → IsExact s → IsExact t → IsCause budget files name left s m → IsCause budget files name left t n → (s ≡ t) × (m ≡ n)
causes_exclude tree one budget files name left s t m n x z c d =
    let a = found budget files name left s m x c in
    let b = found budget files name left t n z d in
    let same : a.0 ≡ b.0 = some_same _ a.0 b.0 a.1.1 b.1.1 in
    one_found budget tree one b.0 left s t m n (subst (λ source. Found budget source left s m) same a.2) b.2
