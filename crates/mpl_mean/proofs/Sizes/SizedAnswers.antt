-- Calls that are made, and what answers them.
use Rattle.std.proofs.Common.{◌≡◌, ℕ, ◌+◌, Bool, true, false, List, [], ◌∷◌, ◌++◌, length, Option, Some, None, if◌then◌else◌, ℤ, refl, sym, subst}
use Rattle.std.specs.FinMap.{get}
use Rattle.std.specs.List.{AllZip}
use Rattle.mpl_ast.specs.declared.class.Formal.{Formal}
use Rattle.mpl_ast.specs.declared.program.Declaration.{Declaration}
use Rattle.mpl_value.specs.declared.body.Arg.{Arg}
use Rattle.mpl_value.specs.declared.body.Arg.TheVariants.{Know, Trapped, Unknown}
use Rattle.mpl_value.specs.declared.body.CallMade.{CallMade}
use Rattle.mpl_value.specs.declared.known.Known.{Known}
use Rattle.mpl_value.specs.declared.known.Known.TheVariants as known
use Rattle.mpl_value.specs.declared.known.Trap.{Trap}
use Rattle.mpl_value.specs.CallAnswers.{any_unknown, arg_of_reply, known_words, leftmost_trap}
use Rattle.mpl_mean.specs.Meaning.CallMeaning.{answer, made, unless_trapped}
use Rattle.mpl_mean.specs.Meaning.Layout.{Class, Member}
use Rattle.mpl_value.specs.Growing.{IsFront}
use Rattle.mpl_mean.specs.Laws.Sizes.{ArgumentsFit, CallReplyFits, Every, FoundCallFits, FoundReplyFits, ReplyFits, member_of_id, words_of_formal, words_of_result}
use Rattle.mpl_mean.specs.Meaning.Store.{Step, Variable, pure, all_of}
use Rattle.mpl_mean.proofs.MoreReplies.Later.{Begins-append}
use Rattle.mpl_mean.proofs.Sizes.SizedSteps.{ArgIn, CallRight, Frame, Keeps, give_keeps, then_keeps, from_premise}
use Rattle.mpl_mean.proofs.Sizes.SizedStores.{every_append}

-- one after another, each with what holds of its value
pub all_keep : (G : Frame) (vs : List Variable) {P : Type 0} {A T : Type 0} (V : T → A → Type 0) (ts : List T) (fs : List (Step A)) → AllZip (λ t f. Keeps G vs P A (V t) f) ts fs
    → Keeps G vs P (List A) (AllZip V ts) (all_of fs)
all_keep G vs V [] [] r = give_keeps G vs [] (λ p. tt)
all_keep G vs V [] (f ∷ fs) r = absurd r
all_keep G vs V (t ∷ ts) [] r = absurd r
all_keep G vs V (t ∷ ts) (f ∷ fs) r =
    then_keeps G vs r.0 (λ a. then_keeps G vs (from_premise G vs (λ p. p.0) (all_keep G vs V ts fs r.1)) (λ xs. give_keeps G vs (a ∷ xs) (λ p. (p.0.1, p.1))))

-- the same from another premise
pub zip_from : (G : Frame) (vs : List Variable) {P P' : Type 0} {A T : Type 0} (V : T → A → Type 0) → (P → P') → (ts : List T) (fs : List (Step A))
    → AllZip (λ t f. Keeps G vs P' A (V t) f) ts fs → AllZip (λ t f. Keeps G vs P A (V t) f) ts fs
zip_from G vs V h [] [] r = tt
zip_from G vs V h [] (f ∷ fs) r = absurd r
zip_from G vs V h (t ∷ ts) [] r = absurd r
zip_from G vs V h (t ∷ ts) (f ∷ fs) r = (from_premise G vs h r.0, zip_from G vs V h ts fs r.1)

-- ---- calls

-- the member of this number, in the class that has it
abbrev pub IsMember : List Declaration → Member → Type 0
IsMember ds m = (class : Class) × (member_of_id ds (record { 0 = m.id }) ≡ Some (class, m))

last_of_front : (Q : CallMade → Type 0) (xs : List CallMade) (c : CallMade) (ys : List CallMade) → IsFront (xs ++ c ∷ []) ys → Every Q ys → Q c
last_of_front Q [] c [] h k = absurd h
last_of_front Q [] c (y ∷ ys) h k = subst Q (sym h.0) k.0
last_of_front Q (x ∷ xs) c [] h k = absurd h
last_of_front Q (x ∷ xs) c (y ∷ ys) h k = last_of_front Q xs c ys h.1 k.1

pub made_keeps : (G : Frame) (vs : List Variable) {P : Type 0} (object : ℤ) (m : Member) (args : List Arg) → (P → IsMember G.declarations m)
    → (P → ArgumentsFit G.declarations m.formals args) → (P → Every (CallReplyFits G.declarations G.replies) G.calls) → (P → G.MayMake)
    → (P → Every (λ (call : CallMade). get G.replies call.call ≡ None → G.MayWait) G.calls)
    → Keeps G vs P ℕ (λ k. ReplyFits (words_of_result G.declarations m.result) (get G.replies k) × (get G.replies k ≡ None → G.MayWait)) (made object m.id args)
made_keeps G vs object m args is fit replies make waits = record {
  grows = λ s. Begins-append _ (λ x. refl) s.calls _;
  holds = λ s q w.
      let call : CallMade = record { call = length s.calls + 1; object = object; member = record { 0 = m.id }; args = args } in
      let found = (is q.0).1 in (
        (
          q.0,
          (
            subst (λ f. FoundReplyFits G.declarations (get G.replies (length s.calls + 1)) f) found
                (last_of_front (CallReplyFits G.declarations G.replies) s.calls call G.calls w (replies q.0)),
            last_of_front (λ (call : CallMade). get G.replies call.call ≡ None → G.MayWait) s.calls call G.calls w (waits q.0),
          ),
        ),
        (
          q.1.0,
          q.1.1,
          record {
            state = q.1.2.state;
            calls = every_append (CallRight G) s.calls (call ∷ []) q.1.2.calls ((subst (λ f. FoundCallFits G.declarations args f) (sym found) (fit q.0), make q.0), tt);
            result = q.1.2.result;
          },
        ),
      );
}

-- ---- answers

pub reply_fits : (W : Type 0) (n : ℕ) (r : Option Known) → ReplyFits n r → (r ≡ None → W) → ArgIn W n (arg_of_reply r)
reply_fits W n None h w = w refl
reply_fits W n (Some (known.Value words)) h w = h
reply_fits W n (Some (known.Trapped t)) h w = tt

answer_of : (G : Frame) (vs : List Variable) {P : Type 0} (n : ℕ) (known : Step Arg) (u : Bool) (t : Option Trap) (args : List Arg) → any_unknown args ≡ u → leftmost_trap args ≡ t → (P → any_unknown args ≡ true → G.MayWait)
    → Keeps G vs (P × (any_unknown args ≡ false) × (leftmost_trap args ≡ None)) Arg (ArgIn G.MayWait n) known
    → Keeps G vs P Arg (ArgIn G.MayWait n) (if u then pure Unknown else unless_trapped t known)
answer_of G vs n known true t args i j w k = give_keeps G vs Unknown (λ p. w p i)
answer_of G vs n known false None args i j w k = from_premise G vs (λ p. (p, i, j)) k
answer_of G vs n known false (Some t) args i j w k = give_keeps G vs (Trapped t) (λ p. tt)

-- an answer has the words of what answers known arguments
pub answer_keeps : (G : Frame) (vs : List Variable) {P : Type 0} (n : ℕ) (args : List Arg) (known : Step Arg) → (P → any_unknown args ≡ true → G.MayWait)
    → Keeps G vs (P × (any_unknown args ≡ false) × (leftmost_trap args ≡ None)) Arg (ArgIn G.MayWait n) known → Keeps G vs P Arg (ArgIn G.MayWait n) (answer args known)
answer_keeps G vs n args known w = answer_of G vs n known (any_unknown args) (leftmost_trap args) args refl refl w

-- the words of each argument are those of its formal
abbrev pub ListsFit : List Declaration → List Formal → List (List ℤ) → Type 0
ListsFit ds = AllZip (λ formal words. length words ≡ words_of_formal ds formal)

pub known_fit : (ds : List Declaration) (formals : List Formal) (args : List Arg) → ArgumentsFit ds formals args → any_unknown args ≡ false → leftmost_trap args ≡ None
    → ListsFit ds formals (known_words args)
known_fit ds [] [] h i j = tt
known_fit ds [] (a ∷ args) h i j = absurd h
known_fit ds (formal ∷ formals) [] h i j = absurd h
known_fit ds (formal ∷ formals) (Know words ∷ args) h i j = (h.0, known_fit ds formals args h.1 i j)
known_fit ds (formal ∷ formals) (Trapped t ∷ args) h i j = absurd cc
known_fit ds (formal ∷ formals) (Unknown ∷ args) h i j = absurd cc
