-- What a frame alone comes to at an instruction, where it is safe behind it.
use Rattle.std.proofs.Common.{◌≡◌, ◌≤◌, ◌<◌, ℕ, zero, suc, ◌==◌, Bool, true, false, List, [], ◌∷◌, length, Option, Some, if◌then◌else◌, ℤ, refl, ap, sym, subst, arith, ◌∙◌}
use Rattle.std.proofs.lemmas.Bool.{eqb-true}
use Rattle.std.specs.List.{AllZip, slice_get, slice_set}
use Rattle.mpl_value.specs.CallAnswers.{arg_of_reply}
use Rattle.mpl_value.specs.declared.body.Arg.{Arg}
use Rattle.mpl_value.specs.declared.body.Arg.TheVariants as arg
use Rattle.mpl_value.specs.declared.known.Known.{Known}
use Rattle.mdf_code.specs.Alone.{Held, Words, Pending, framed, seen_by}
use Rattle.mdf_code.specs.Frames.{Around, Caller, Code, Flow, Frame, Next}
use Rattle.mdf_code.specs.Frames as frames
use Rattle.mdf_code.specs.Parts.{sizes_at, text_at}
use Rattle.mdf_code.specs.Sizes.{ArgFits}
use Rattle.mdf_code.specs.Stacks.{given}
use Rattle.mdf_code.specs.Steps.{does, or_strays, step}
use Rattle.mdf_code.specs.Steps as steps
use Rattle.mdf_code.specs.Told.{learns}
use Rattle.mdf_code.specs.declared.instr.Instr.{Instr}
use Rattle.mdf_code.specs.declared.raw.RawImage.{RawImage}
use Rattle.mpl_gen_laws.specs.SafeFrames.{HeldFits, Safe, SafeNext}

-- ---- what fits

pub zip_get : {A : Type 0} (P : ℕ → A → Type 0) (sizes : List ℕ) (values : List A) (n size : ℕ) → AllZip P sizes values → slice_get sizes n ≡ Some size → (v : A) × (slice_get values n ≡ Some v) × P size v × (n < length values)
zip_get P [] values n size fit e = absurd cc
zip_get P (k ∷ sizes) [] n size fit e = absurd fit
zip_get P (k ∷ sizes) (v ∷ values) zero size fit e = (v, refl, subst (λ m. P m v) (same e) fit.0, omega arith) where
  same : {a b : ℕ} → ◌≡◌ {A = Option ℕ} (Some a) (Some b) → a ≡ b
  same e = cc
zip_get P (k ∷ sizes) (v ∷ values) (suc n) size fit e = let r = zip_get P sizes values n size fit.1 e in (r.0, r.1, r.2, let i = r.3 in omega (arith, i))

pub zip_set : {A : Type 0} (P : ℕ → A → Type 0) (sizes : List ℕ) (values : List A) (n size : ℕ) (v : A) → AllZip P sizes values → slice_get sizes n ≡ Some size → P size v → AllZip P sizes (slice_set values n v)
zip_set P [] values n size v fit e h = absurd cc
zip_set P (k ∷ sizes) [] n size v fit e h = absurd fit
zip_set P (k ∷ sizes) (w ∷ values) zero size v fit e h = (subst (λ m. P m v) (sym (same e)) h, fit.1) where
  same : {a b : ℕ} → ◌≡◌ {A = Option ℕ} (Some a) (Some b) → a ≡ b
  same e = cc
zip_set P (k ∷ sizes) (w ∷ values) (suc n) size v fit e h = (fit.0, zip_set P sizes values n size v fit.1 e h)

-- ---- scenes

-- a code that runs in a body, its callers, and how many words the state has
pub record Scene : Type 0 where
  pub image : RawImage
  pub object : ℤ
  pub sizes : ℕ → ℕ
  pub code : Code
  pub callers : List (Caller Held)
  pub long : ℕ

-- what changes as it runs
pub record Run (C : Scene) : Type 0 where
  pub calls : ℕ
  pub knows : ℕ → Arg
  pub good : (result : ℕ) → ArgFits (C.sizes result) (knows result)
  pub state : List ℤ
  pub is_long : length state ≡ C.long
  pub input : List ℤ
  pub lines : List ℕ
  pub replied : Bool

-- what was known is still
pub record Later (C : Scene) (D E : Run C) : Type 0 where
  pub keeps : (result : ℕ) (words : List ℤ) → D.knows result ≡ arg.Know words → E.knows result ≡ arg.Know words

pub later_same : (C : Scene) (D : Run C) → Later C D D
later_same C D = record { keeps = λ result words e. e }

pub later_then : (C : Scene) (D E F : Run C) → Later C D E → Later C E F → Later C D F
later_then C D E F h k = record { keeps = λ result words e. k.keeps result words (h.keeps result words e) }

pub still_known : (C : Scene) (D E : Run C) (v : Held) (words : List ℤ) → Later C D E → seen_by D.knows v ≡ arg.Know words → seen_by E.knows v ≡ arg.Know words
still_known C D E (Words w) words h e = e
still_known C D E (Pending r) words h e = h.keeps r words e

pub known_long : (C : Scene) (D : Run C) (size : ℕ) (v : Held) (words : List ℤ) → HeldFits C.sizes size v → seen_by D.knows v ≡ arg.Know words → length words ≡ size
known_long C D size (Words w) words fit e = ap length (sym (same e)) ∙ fit where
  same : {a b : List ℤ} → ◌≡◌ {A = Arg} (arg.Know a) (arg.Know b) → a ≡ b
  same e = cc
known_long C D size (Pending r) words fit e = subst (ArgFits (C.sizes r)) e (D.good r) ∙ fit

module _ (C : Scene) where
  abbrev pub x : Around
  x = record { image = C.image; object = C.object }

  abbrev pub text : List Instr
  text = text_at C.image C.code

  abbrev pub all_sizes : List ℕ
  all_sizes = sizes_at C.image C.code

  abbrev pub frame : Run C → ℕ → List ℤ → List (Flow Held) → List Held → Frame Held
  frame D place ws fs vs = record {
    code = C.code;
    place = place;
    words = ws;
    flows = fs;
    variables = vs;
    callers = C.callers;
    state = D.state;
    input = D.input;
    lines = D.lines;
    replied = D.replied;
  }

  -- so many steps from here are safe
  abbrev pub At : ℕ → Run C → ℕ → List ℤ → List (Flow Held) → List Held → Type 0
  At n D place ws fs vs = Safe C.image C.object C.sizes n D.calls D.knows (frame D place ws fs vs)

  abbrev pub Is : ℕ → Instr → Type 0
  Is place i = slice_get text place ≡ Some i

  abbrev pub VarsFit : List Held → Type 0
  VarsFit vs = AllZip (HeldFits C.sizes) all_sizes vs

  abbrev pub Behind : ℕ → Run C → Next Held → Type 0
  Behind n D next = (m : ℕ) → m < n → SafeNext C.image C.sizes (Safe C.image C.object C.sizes m) D.calls D.knows next

  pub performs : (n : ℕ) (D : Run C) (p : ℕ) (ws : List ℤ) (fs : List (Flow Held)) (vs : List Held) (i : Instr) (next : Next Held) → Is p i → does (framed D.knows) x i (frame D p ws fs vs) ≡ Some next → Behind n D next → At n D p ws fs vs
  performs zero D p ws fs vs i next is e h = tt
  performs (suc m) D p ws fs vs i next is e h =
      subst (SafeNext C.image C.sizes (Safe C.image C.object C.sizes m) D.calls D.knows)
      (sym (ap (λ (o : Option Instr). or_strays (frame D p ws fs vs) (given o (λ i. does (framed D.knows) x i (frame D p ws fs vs)))) is ∙ ap (or_strays (frame D p ws fs vs)) e))
      (h m (omega arith))

  abbrev pub Onward : ℕ → Run C → ℕ → List ℤ → List (Flow Held) → List Held → Type 0
  Onward n D q ws fs vs = (m : ℕ) → m < n → At m D q ws fs vs

  moved : {p q : ℕ} (n : ℕ) (D : Run C) (ws : List ℤ) (fs : List (Flow Held)) (vs : List Held) → p ≡ q → At n D q ws fs vs → At n D p ws fs vs
  moved n D ws fs vs e = subst (λ k. At n D k ws fs vs) (sym e)

  -- ---- a variable that is needed

  pub learnt_good : (D : Run C) (result : ℕ) (known : Known) → ArgFits (C.sizes result) (arg_of_reply (Some known)) → (other : ℕ) → ArgFits (C.sizes other) (learns result (arg_of_reply (Some known)) D.knows other)
  learnt_good D result known fit other = by_test (other == result) refl where
    by_test : (t : Bool) → other == result ≡ t → ArgFits (C.sizes other) (if t then arg_of_reply (Some known) else D.knows other)
    by_test true e = subst (λ r. ArgFits (C.sizes r) (arg_of_reply (Some known))) (sym (eqb-true other result e)) fit
    by_test false e = D.good other

  -- with a result learnt that wasn't known
  abbrev pub learnt : (D : Run C) (result : ℕ) (known : Known) → ArgFits (C.sizes result) (arg_of_reply (Some known)) → Run C
  learnt D result known fit = record {
    calls = D.calls;
    knows = learns result (arg_of_reply (Some known)) D.knows;
    good = learnt_good D result known fit;
    state = D.state;
    is_long = D.is_long;
    input = D.input;
    lines = D.lines;
    replied = D.replied;
  }

  learnt_later : (D : Run C) (result : ℕ) (known : Known) (fit : ArgFits (C.sizes result) (arg_of_reply (Some known))) → D.knows result ≡ arg.Unknown → Later C D (learnt D result known fit)
  learnt_later D result known fit unknown = record { keeps = λ other words e. by_test other (other == result) refl words e } where
    by_test : (other : ℕ) (t : Bool) → other == result ≡ t → (words : List ℤ) → D.knows other ≡ arg.Know words → (if t then arg_of_reply (Some known) else D.knows other) ≡ arg.Know words
    by_test other true i words e = absurd (let u : D.knows other ≡ arg.Unknown = ap D.knows (eqb-true other result i) ∙ unknown in cc (e, u))
    by_test other false i words e = e

  -- behind a need the value is known
  abbrev pub Known_then : ℕ → Run C → ℕ → List ℤ → List (Flow Held) → List Held → Held → Type 0
  Known_then n D q ws fs vs v = (m : ℕ) → m ≤ n → (E : Run C) → Later C D E → (words : List ℤ) → seen_by E.knows v ≡ arg.Know words → At m E q ws fs vs

  -- what stops for a value that isn't known, and goes on where it is
  pub needed : (n k : ℕ) → k ≤ n → (D : Run C) (p : ℕ) (ws : List ℤ) (fs : List (Flow Held)) (vs : List Held) (i : Instr) (v : Held) (go : List ℤ → Frame Held → Next Held) → Is p i
      → ((E : Run C) → does (framed E.knows) x i (frame E p ws fs vs) ≡ steps.needed v (seen_by E.knows v) (frame E p ws fs vs) (λ words. Some (go words (frame E p ws fs vs))))
      → ((m : ℕ) → m ≤ k → (E : Run C) → Later C D E → (words : List ℤ) → seen_by E.knows v ≡ arg.Know words → Behind m E (go words (frame E p ws fs vs)))
      → At k D p ws fs vs
  needed n zero le D p ws fs vs i v go is e h = tt
  needed zero (suc k) le D p ws fs vs i v go is e h = absurd (omega (arith, le))
  needed (suc n) (suc k) le D p ws fs vs i v go is e h =
      by_seen (seen_by D.knows v) refl
      (λ m less E later. needed n m (omega (arith, less, le)) E p ws fs vs i v go is e (λ j below F after words known. h j (omega (arith, below, less)) F (later_then C D E F later after) words known)) where
        seen_so : (a : Arg) → seen_by D.knows v ≡ a → does (framed D.knows) x i (frame D p ws fs vs) ≡ steps.needed v a (frame D p ws fs vs) (λ words. Some (go words (frame D p ws fs vs)))
        seen_so a i' = e D ∙ ap (λ (a : Arg). steps.needed v a (frame D p ws fs vs) (λ words. Some (go words (frame D p ws fs vs)))) i'

        unknown : (w : Held) → v ≡ w → seen_by D.knows v ≡ arg.Unknown → ((m : ℕ) → m < suc k → (E : Run C) → Later C D E → At m E p ws fs vs) → At (suc k) D p ws fs vs
        unknown (Words words) same u again = absurd (let z : seen_by D.knows (Words words) ≡ arg.Unknown = ap (seen_by D.knows) (sym same) ∙ u in cc z)
        unknown (Pending r) same u again =
            performs (suc k) D p ws fs vs i (frames.Stops (frames.Needs v) (frame D p ws fs vs)) is (seen_so arg.Unknown u)
            (λ m less. subst (λ w. SafeNext C.image C.sizes (Safe C.image C.object C.sizes m) D.calls D.knows (frames.Stops (frames.Needs w) (frame D p ws fs vs))) (sym same)
            (λ known fit. again m less (learnt D r known fit) (learnt_later D r known fit (ap (seen_by D.knows) (sym same) ∙ u))))

        by_seen : (a : Arg) → seen_by D.knows v ≡ a → ((m : ℕ) → m < suc k → (E : Run C) → Later C D E → At m E p ws fs vs) → At (suc k) D p ws fs vs
        by_seen (arg.Know words) s again = performs (suc k) D p ws fs vs i (go words (frame D p ws fs vs)) is (seen_so (arg.Know words) s) (h (suc k) (omega arith) D (later_same C D) words s)
        by_seen (arg.Trapped t) s again = performs (suc k) D p ws fs vs i (frames.Stops (frames.Traps t) (frame D p ws fs vs)) is (seen_so (arg.Trapped t) s) (λ m less. tt)
        by_seen arg.Unknown s again = unknown v refl s again
