-- A frame alone, behind what it was told: it names results of its own calls, and does what its body may do.
use Rattle.std.proofs.Common.{◌≡◌, ◌≢◌, ◌+◌, ◌==◌, ℕ, zero, suc, Bool, true, false, not, cond, List, [], ◌∷◌, map, Option, Some, None, ℤ, refl, sym, ap, ◌∙◌, subst, arith, inl, inr}
use Rattle.std.specs.List.{AllByRecursion, slice_get}
use Rattle.std.specs.Option.{unwrap_or}
use Rattle.mpl_value.specs.declared.body.Arg.{Arg}
use Rattle.mpl_value.specs.declared.body.BodyStart.{BodyStart}
use Rattle.mpl_value.specs.declared.body.MemberId.{MemberId}
use Rattle.mdf_code.specs.declared.raw.RawImage.{RawImage}
use Rattle.mdf_code.specs.declared.raw.RawMember.{RawMember}
use Rattle.mdf_code.specs.Alone.{Held, Words, Pending, framed}
use Rattle.mdf_code.specs.Frames.{Around, Caller, Code, InMember, Flow, Frame, Next, Goes, Spends, Stops, Stop, Calls, Creates, Ends, Needs, Replies, Strays, Traps}
use Rattle.mdf_code.specs.Parts.{is_persistent_member, is_regular, may_post, sizes_at, variables_holding}
use Rattle.mdf_code.specs.Stacks.{given}
use Rattle.mdf_code.specs.Steps.{step}
use Rattle.mdf_code.specs.Told.{Alone, Beaten, Beats, Called, Gave, Halt, HaltsNext, IsMade, Learnt, Named, NamesMade, Stands, Stood, Told, after, around_start, behind, calls_made, first, has_given, most_turns, run, runs_on, told_at}
use Rattle.mdf_code.specs.Yields.{answered, code_of_member, formals_at, found_regular, member_is_regular}
use Rattle.mdf_code.proofs.AddingSteps.{Adds, step_adds}
use Rattle.mdf_code.proofs.HeldSteps.{CallerHas, FrameHas, IsOf, Kept, MayCall, MayGive, NextHas, PlaceHas, StopHas, step_has}

-- ---- what holds of a frame that was told so

pub record IsTold (base : Code) (told : List Told) (f : Frame Held) : Type 0 where
  pub has : FrameHas (IsMade (calls_made told)) base f
  pub given : has_given told ≡ true → f.replied ≡ true

-- it gives a result where it hasn't given one
abbrev GivesOnce : List Told → Frame Held → Stop Held → Type 0
GivesOnce told f (Replies value) = (f.replied ≡ true) × (has_given told ≡ false)
GivesOnce told f (Calls member object arguments) = Unit {0}
GivesOnce told f (Needs value) = Unit {0}
GivesOnce told f (Creates class) = Unit {0}
GivesOnce told f (Ends line) = Unit {0}
GivesOnce told f Strays = Unit {0}
GivesOnce told f (Traps trap) = Unit {0}

abbrev HaltHas : RawImage → Code → List Told → Frame Held → Halt → Type 0
HaltHas image base told f (Stands stop) = StopHas (IsMade (calls_made told)) image base stop × GivesOnce told f stop
HaltHas image base told f Beats = Unit {0}

abbrev StoodHas : RawImage → Code → List Told → Stood → Type 0
StoodHas image base told stood = IsTold base told stood.frame × HaltHas image base told stood.frame stood.halt

some_stood : (s t : Stood) → Some s ≡ Some t → s ≡ t
some_stood s t h = cc h

true_is_not_false : true ≡ false → ⊥
true_is_not_false h = cc h

not_given : (told : List Told) (f : Frame Held) → (has_given told ≡ true → f.replied ≡ true) → f.replied ≡ false → has_given told ≡ false
not_given told f given before = by_test (has_given told) refl where
  by_test : (t : Bool) → has_given told ≡ t → t ≡ false
  by_test true is = absurd (true_is_not_false (sym (given is) ∙ before))
  by_test false is = refl

stop_has : (image : RawImage) (base : Code) (told : List Told) (f : Frame Held) (turns : ℕ) (stop : Stop Held) (g : Frame Held) → IsTold base told f → NextHas (IsMade (calls_made told)) image base (Stops stop g) → Adds f (Stops stop g) →
    StoodHas image base told (record { halt = Stands stop; turns = turns; frame = g })
stop_has image base told f turns (Calls member object arguments) g is has adds = (record { has = has.0; given = λ h. adds.replied ∙ is.given h }, (has.1, tt))
stop_has image base told f turns (Needs value) g is has adds = (record { has = has.0; given = λ h. sym (ap (λ (z : Frame Held). z.replied) adds) ∙ is.given h }, (has.1, tt))
stop_has image base told f turns (Replies value) g is has adds = (record { has = has.0; given = λ h. adds.after }, (has.1, (adds.after, not_given told f is.given adds.before)))
stop_has image base told f turns (Creates class) g is has adds = (record { has = has.0; given = λ h. adds.replied ∙ is.given h }, (has.1, tt))
stop_has image base told f turns (Ends line) g is has adds = (record { has = has.0; given = λ h. adds.replied ∙ is.given h }, (has.1, tt))
stop_has image base told f turns Strays g is has adds = (record { has = has.0; given = λ h. adds.replied ∙ is.given h }, (has.1, tt))
stop_has image base told f turns (Traps trap) g is has adds = (record { has = has.0; given = λ h. adds.replied ∙ is.given h }, (has.1, tt))

abbrev pub kept : (ℕ → Arg) → Around → Code → ℕ → Kept Held
kept knows x base calls = record { flows = framed knows; P = IsMade calls; known = λ words. tt; x = x; base = base }

run_has : (image : RawImage) (start : BodyStart) (base : Code) (told : List Told) (k : ℕ) (knows : ℕ → Arg) (quantum turns : ℕ) (f : Frame Held) (stood : Stood) → IsTold base told f →
    run k knows (around_start image start) quantum turns f ≡ Some stood → StoodHas image base told stood
run_has image start base told zero knows quantum turns f stood is h = absurd (cc h)
run_has image start base told (suc k) knows quantum turns f stood is h =
    by_next (λ turns g moved i. run_has image start base told k knows quantum turns g stood moved i) (step (framed knows) (around_start image start) f)
    (step_has (kept knows (around_start image start) base (calls_made told)) f is.has) (step_adds (framed knows) (around_start image start) f) h where
      by_next : ((turns : ℕ) (g : Frame Held) → IsTold base told g → run k knows (around_start image start) quantum turns g ≡ Some stood → StoodHas image base told stood) →
          (next : Next Held) → NextHas (IsMade (calls_made told)) image base next → Adds f next → after (run k knows (around_start image start) quantum) quantum turns next ≡ Some stood → StoodHas image base told stood
      by_next again (Goes g) has adds i = again turns g (record { has = has; given = λ h. adds.replied ∙ is.given h }) i
      by_next again (Spends g) has adds i = by_test (turns + 1 == quantum) i where
        moved : IsTold base told g
        moved = record { has = has; given = λ h. adds.replied ∙ is.given h }

        by_test : (t : Bool) → cond t (Some (record { halt = Beats; turns = turns + 1; frame = g })) (run k knows (around_start image start) quantum (turns + 1) g) ≡ Some stood → StoodHas image base told stood
        by_test true j = subst (StoodHas image base told) (some_stood _ stood j) (moved, tt)
        by_test false j = again (turns + 1) g moved j
      by_next again (Stops stop g) has adds i = subst (StoodHas image base told) (some_stood _ stood i) (stop_has image base told f turns stop g is has adds)

-- ---- what it is told

every_more : {A : Type 0} (P Q : A → Type 0) (xs : List A) → ((x : A) → P x → Q x) → AllByRecursion P xs → AllByRecursion Q xs
every_more P Q [] each h = tt
every_more P Q (x ∷ xs) each h = (each x h.0, every_more P Q xs each h.1)

place_more : (P Q : Held → Type 0) (base code : Code) (held : List Held) (pushed : List (Flow Held)) → ((x : Held) → P x → Q x) → PlaceHas P base code held pushed → PlaceHas Q base code held pushed
place_more P Q base code held pushed each has = record {
  is_of = has.is_of;
  variables = every_more P Q held each has.variables;
  flows = every_more (λ (flow : Flow Held). P flow.value) (λ (flow : Flow Held). Q flow.value) pushed (λ flow. each flow.value) has.flows;
}

pub frame_more : (P Q : Held → Type 0) (base : Code) (f : Frame Held) → ((x : Held) → P x → Q x) → FrameHas P base f → FrameHas Q base f
frame_more P Q base f each has = record {
  here = place_more P Q base f.code f.variables f.flows each has.here;
  callers = every_more (λ (c : Caller Held). CallerHas P base c) (λ (c : Caller Held). CallerHas Q base c) f.callers (λ c. place_more P Q base c.code c.variables c.flows each) has.callers;
}

pub one_more_made : (calls : ℕ) (value : Held) → IsMade calls value → IsMade (calls + 1) value
one_more_made calls (Words words) made = tt
one_more_made calls (Pending result) made = (made.0, (let below = made.1 in omega (arith, below)))

-- where it goes on, and how many calls it made
record GoesOn (base : Code) (told : List Told) (a : Alone) : Type 0 where
  is : IsTold base told a.frame
  calls : a.calls ≡ calls_made told

some_alone : (a b : Alone) → Some a ≡ Some b → a ≡ b
some_alone a b h = cc h

told_has : (image : RawImage) (base : Code) (told : List Told) (a : Alone) (f : Frame Held) (halt : Halt) (t : Told) (b : Alone) → a.calls ≡ calls_made told → IsTold base told f → HaltHas image base told f halt →
    told_at image a f halt t ≡ Some b → GoesOn base (t ∷ told) b
told_has image base told a f (Stands (Calls member object arguments)) Called b calls is has h = subst (GoesOn base (Called ∷ told)) (some_alone _ b h) (record {
  is = record { has = answer (frame_more (IsMade (calls_made told)) (IsMade (calls_made told + 1)) base f (one_more_made (calls_made told)) is.has); given = is.given };
  calls = ap (λ (n : ℕ). n + 1) calls;
}) where
  answer : FrameHas (IsMade (calls_made told + 1)) base f → FrameHas (IsMade (calls_made told + 1)) base (answered image member (Pending (a.calls + 1)) f)
  answer has = record {
    here = record { is_of = has.here.is_of; variables = has.here.variables; flows = ((omega arith, omega (arith, calls)), has.here.flows) };
    callers = has.callers;
  }
told_has image base told a f (Stands (Needs (Pending result))) (Learnt known) b calls is has h =
    subst (GoesOn base (Learnt known ∷ told)) (some_alone _ b h) (record { is = record { has = is.has; given = is.given }; calls = calls })
told_has image base told a f (Stands (Creates class)) (Named object) b calls is has h =
    subst (GoesOn base (Named object ∷ told)) (some_alone _ b h) (record { is = record { has = record { here = is.has.here; callers = is.has.callers }; given = is.given }; calls = calls })
told_has image base told a f (Stands (Replies value)) Gave b calls is has h =
    subst (GoesOn base (Gave ∷ told)) (some_alone _ b h) (record { is = record { has = is.has; given = λ _. has.1.0 }; calls = calls })
told_has image base told a f Beats Beaten b calls is has h =
    subst (GoesOn base (Beaten ∷ told)) (some_alone _ b h) (record { is = record { has = is.has; given = is.given }; calls = calls })
told_has image base told a f halt t b calls is has h = absurd (cc h)

pub all_words : (calls : ℕ) (values : List (List ℤ)) → AllByRecursion (IsMade calls) (map Words values)
all_words calls [] = tt
all_words calls (words ∷ values) = (tt, all_words calls values)

pub own_code : (member : Option MemberId) → IsOf (code_of_member member) (code_of_member member)
own_code None = refl
own_code (Some member) = refl

behind_has : (fuel : ℕ) (image : RawImage) (start : BodyStart) (told : List Told) (a : Alone) → behind fuel image start told ≡ Some a → GoesOn (code_of_member start.member) told a
behind_has fuel image start [] a h = subst (GoesOn (code_of_member start.member) []) (some_alone (first image start) a h) (record {
  is = record {
    has = record {
      here = record {
        is_of = own_code start.member;
        variables = all_words 0 (variables_holding (formals_at image start.member) (sizes_at image (code_of_member start.member)) start.args);
        flows = tt;
      };
      callers = tt;
    };
    given = λ h. absurd (true_is_not_false (sym h));
  };
  calls = refl;
})
behind_has fuel image start (t ∷ told) b h = by_behind (behind_has fuel image start told) (behind fuel image start told) refl h where
  by_stood : (a : Alone) → GoesOn (code_of_member start.member) told a → (o : Option Stood) → runs_on fuel image start a ≡ o → given o (λ stood. told_at image a stood.frame stood.halt t) ≡ Some b →
      GoesOn (code_of_member start.member) (t ∷ told) b
  by_stood a goes None is i = absurd (cc i)
  by_stood a goes (Some stood) is i =
      let has = run_has image start (code_of_member start.member) told fuel a.knows most_turns 0 a.frame stood goes.is is in
      told_has image (code_of_member start.member) told a stood.frame stood.halt t b goes.calls has.0 has.1 i

  by_behind : ((a : Alone) → behind fuel image start told ≡ Some a → GoesOn (code_of_member start.member) told a) → (o : Option Alone) → behind fuel image start told ≡ o →
      given o (λ a. given (runs_on fuel image start a) (λ stood. told_at image a stood.frame stood.halt t)) ≡ Some b → GoesOn (code_of_member start.member) (t ∷ told) b
  by_behind goes None is i = absurd (cc i)
  by_behind goes (Some a) is i = by_stood a (goes a is) (runs_on fuel image start a) refl i

halt_has : (image : RawImage) (start : BodyStart) (told : List Told) (stood : Stood) → HaltsNext image start told stood → HaltHas image (code_of_member start.member) told stood.frame stood.halt
halt_has image start told stood halts = by_behind (behind halts.steps image start told) refl halts.within where
  by_behind : (o : Option Alone) → behind halts.steps image start told ≡ o → given o (runs_on halts.steps image start) ≡ Some stood → HaltHas image (code_of_member start.member) told stood.frame stood.halt
  by_behind None is i = absurd (cc i)
  by_behind (Some a) is i =
      (run_has image start (code_of_member start.member) told halts.steps a.knows most_turns 0 a.frame stood (behind_has halts.steps image start told a is).is i).1

-- ---- the laws

pub names_made : (image : RawImage) (start : BodyStart) (told : List Told) (stood : Stood) → HaltsNext image start told stood → NamesMade (calls_made told) stood.halt
names_made image start told stood halts = by_halt stood.halt (halt_has image start told stood halts) where
  by_stop : (stop : Stop Held) → StopHas (IsMade (calls_made told)) image (code_of_member start.member) stop → NamesMade (calls_made told) (Stands stop)
  by_stop (Calls member object arguments) has = has.0
  by_stop (Needs value) has = has
  by_stop (Replies value) has = has.0
  by_stop (Creates class) has = tt
  by_stop (Ends line) has = tt
  by_stop Strays has = tt
  by_stop (Traps trap) has = tt

  by_halt : (halt : Halt) → HaltHas image (code_of_member start.member) told stood.frame halt → NamesMade (calls_made told) halt
  by_halt (Stands stop) has = by_stop stop has.0
  by_halt Beats has = tt

pub main_gives_nothing : (image : RawImage) (start : BodyStart) (told : List Told) (stood : Stood) (value : Held) → HaltsNext image start told stood → start.member ≡ None → stood.halt ≢ Stands (Replies value)
main_gives_nothing image start told stood value halts is h =
    let has : HaltHas image (code_of_member start.member) told stood.frame (Stands (Replies value)) = subst (HaltHas image (code_of_member start.member) told stood.frame) h (halt_has image start told stood halts) in
    let gives : MayGive image (code_of_member None) = subst (λ (member : Option MemberId). MayGive image (code_of_member member)) is has.0.1 in
    absurd (cc gives.1)

pub nothing_is_given_twice : (image : RawImage) (start : BodyStart) (told : List Told) (stood : Stood) (value : Held) → HaltsNext image start told stood → has_given told ≡ true → stood.halt ≢ Stands (Replies value)
nothing_is_given_twice image start told stood value halts is h =
    let has : HaltHas image (code_of_member start.member) told stood.frame (Stands (Replies value)) = subst (HaltHas image (code_of_member start.member) told stood.frame) h (halt_has image start told stood halts) in
    true_is_not_false (sym is ∙ has.1.1)

not_persistent : (image : RawImage) (member : ℕ) → member_is_regular image member ≡ true → may_post image (InMember member) ≡ true → ⊥
not_persistent image member regular posts = by_member (slice_get image.members member) regular posts where
  by_kind : (o : Option Bool) → unwrap_or o false ≡ true → not (unwrap_or o true) ≡ true → ⊥
  by_kind None h g = true_is_not_false (sym h)
  by_kind (Some true) h g = true_is_not_false (sym g)
  by_kind (Some false) h g = true_is_not_false (sym h)

  by_member : (o : Option RawMember) → found_regular image o ≡ true → is_persistent_member image o ≡ true → ⊥
  by_member None h g = true_is_not_false (sym h)
  by_member (Some m) h g = by_kind (is_regular image m) h g

pub regular_bodies_create_nothing : (image : RawImage) (start : BodyStart) (told : List Told) (stood : Stood) (member : MemberId) (class : ℕ) → HaltsNext image start told stood → start.member ≡ Some member → member_is_regular image member.0 ≡ true →
    stood.halt ≢ Stands (Creates class)
regular_bodies_create_nothing image start told stood member class halts is regular h =
    let has : HaltHas image (code_of_member start.member) told stood.frame (Stands (Creates class)) = subst (HaltHas image (code_of_member start.member) told stood.frame) h (halt_has image start told stood halts) in
    not_persistent image member.0 regular (subst (λ (member : Option MemberId). may_post image (code_of_member member) ≡ true) is has.0)

pub regular_bodies_call_regular_members : (image : RawImage) (start : BodyStart) (told : List Told) (stood : Stood) (member : MemberId) (called : ℕ) (object : ℤ) (arguments : List Held) → HaltsNext image start told stood →
    start.member ≡ Some member → member_is_regular image member.0 ≡ true → stood.halt ≡ Stands (Calls called object arguments) → member_is_regular image called ≡ true
regular_bodies_call_regular_members image start told stood member called object arguments halts is regular h = by_call has.0.1 where
  has : HaltHas image (code_of_member start.member) told stood.frame (Stands (Calls called object arguments))
  has = subst (HaltHas image (code_of_member start.member) told stood.frame) h (halt_has image start told stood halts)

  by_call : MayCall image (code_of_member start.member) called → member_is_regular image called ≡ true
  by_call (inl right) = right
  by_call (inr posts) = absurd (not_persistent image member.0 regular (subst (λ (member : Option MemberId). may_post image (code_of_member member) ≡ true) is posts))
