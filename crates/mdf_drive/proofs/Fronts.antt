-- What a frame was told rightly up to some halt, and what its body has done when it comes to its end.
use Rattle.std.proofs.Common.{◌≡◌, ◌+◌, ◌≤◌, ◌⊎◌, ℕ, Bool, true, false, List, [], ◌∷◌, ◌++◌, length, Option, Some, None, ℤ, refl, sym, ap, ◌∙◌, subst, arith, inl, inr}
use Rattle.std.specs.FinMap.{empty}
use Rattle.mpl_value.specs.declared.body.Arg.{Arg}
use Rattle.mpl_value.specs.declared.body.BodyStart.{BodyStart}
use Rattle.mpl_value.specs.declared.body.Yield.{Yield}
use Rattle.mpl_value.specs.declared.known.Trap.{Trap}
use Rattle.mpl_value.specs.CallAnswers.{any_unknown, leftmost_trap}
use Rattle.mpl_value.specs.Results.{result_of}
use Rattle.mdf_code.specs.declared.raw.RawImage.{RawImage}
use Rattle.mdf_code.specs.Alone.{Held, Words, Pending, seen_by, values_seen}
use Rattle.mdf_code.specs.Frames.{Calls, Creates, Ends, Frame, Needs, Replies, Strays, Traps}
use Rattle.mdf_code.specs.Right.{Account, EndsAt, IsCalled, IsRightAt, Right, Through, UnlessTrapped, UnlessUnknown, with_turns}
use Rattle.mdf_code.specs.Told.{Beaten, Beats, Called, Gave, Halt, HaltsNext, Learnt, Named, Stands, Stood, Told, has_given}
use Rattle.mdf_code.specs.Yields.{member_is_regular, missed_at, or_missed, replies_of, result_at_trap}
use Rattle.mdf_code.proofs.OneHalt.{one_halt}
use Rattle.mdf_code.proofs.OneTold.{on_the_way, one_list}
use Rattle.mdf_code.proofs.ToldFrames.{nothing_is_given_twice}
use Rattle.mdf_drive.proofs.Settling.{or_given, trap_given}

-- ---- one thing told

trapped_turns : (image : RawImage) (member : ℕ) (arguments : List Arg) (a b : Account) (t : Option Trap) → UnlessTrapped image member arguments a b t → (a.turns ≤ b.turns) × (b.result ≡ a.result)
trapped_turns image member arguments a b (Some trap) h = (omega (arith, ap (λ (x : Account). x.turns) h), sym (ap (λ (x : Account). x.result) h))
trapped_turns image member arguments a b None h = (omega (arith, ap (λ (x : Account). x.turns) h.is), sym (ap (λ (x : Account). x.result) h.is))

unknown_turns : (image : RawImage) (member : ℕ) (arguments : List Arg) (a b : Account) (u : Bool) → UnlessUnknown image member arguments a b u → (a.turns ≤ b.turns) × (b.result ≡ a.result)
unknown_turns image member arguments a b true h = (omega (arith, ap (λ (x : Account). x.turns) h), sym (ap (λ (x : Account). x.result) h))
unknown_turns image member arguments a b false h = trapped_turns image member arguments a b (leftmost_trap arguments) h

called_turns : (image : RawImage) (replies : ℕ → Arg) (member : ℕ) (object : ℤ) (arguments : List Arg) (a b : Account) (regular : Bool) → IsCalled image replies member object arguments a b regular → (a.turns ≤ b.turns) × (b.result ≡ a.result)
called_turns image replies member object arguments a b true h = unknown_turns image member arguments a b (any_unknown arguments) h
called_turns image replies member object arguments a b false h = (omega (arith, ap (λ (x : Account). x.turns) h), sym (ap (λ (x : Account). x.result) h))

-- turns grow, and a result that is given is given by Gave
abbrev ResultStays : Account → Account → Told → Type 0
ResultStays a b Gave = Unit {0}
ResultStays a b told = b.result ≡ a.result

one_turns : (image : RawImage) (start : BodyStart) (replies : ℕ → Arg) (a : Account) (halt : Halt) (t : Told) (b : Account) → IsRightAt image start replies a halt t b → (a.turns ≤ b.turns) × ResultStays a b t
one_turns image start replies a (Stands (Calls member object arguments)) Called b h =
    let k = called_turns image replies member object (values_seen (seen_by a.answers) arguments) (with_turns 1 a) b (member_is_regular image member) h in (omega (arith, k.0), k.1)
one_turns image start replies a (Stands (Needs (Pending call))) (Learnt known) b h = (omega (arith, ap (λ (x : Account). x.turns) h.1), sym (ap (λ (x : Account). x.result) h.1))
one_turns image start replies a (Stands (Creates class)) (Named object) b h = (omega (arith, ap (λ (x : Account). x.turns) h.1), sym (ap (λ (x : Account). x.result) h.1))
one_turns image start replies a (Stands (Replies value)) Gave b h = (omega (arith, ap (λ (x : Account). x.turns) h), tt)
one_turns image start replies a Beats Beaten b h = (omega (arith, ap (λ (x : Account). x.turns) h), sym (ap (λ (x : Account). x.result) h))
one_turns image start replies a halt t b h = absurd h

-- a halt where Gave is told is a gift
gives_halt : (image : RawImage) (start : BodyStart) (replies : ℕ → Arg) (a : Account) (halt : Halt) (b : Account) → IsRightAt image start replies a halt Gave b → (value : Held) × (halt ≡ Stands (Replies value))
gives_halt image start replies a (Stands (Replies value)) b h = (value, refl)
gives_halt image start replies a (Stands (Needs (Words words))) b h = absurd h
gives_halt image start replies a (Stands (Needs (Pending call))) b h = absurd h
gives_halt image start replies a halt b h = absurd h

given_on : (more told : List Told) → has_given told ≡ true → has_given (more ++ told) ≡ true
given_on [] told h = h
given_on (Called ∷ more) told h = given_on more told h
given_on (Learnt known ∷ more) told h = given_on more told h
given_on (Named object ∷ more) told h = given_on more told h
given_on (Gave ∷ more) told h = refl
given_on (Beaten ∷ more) told h = given_on more told h

-- ---- more that is told

-- turns grow, and a result that was given stays
record Onward (told : List Told) (a b : Account) : Type 0 where
  turns : a.turns ≤ b.turns
  result : has_given told ≡ true → b.result ≡ a.result

module _ (image : RawImage) (start : BodyStart) where
  result_on : (t : Told) (before : List Told) (b : Account) → has_given before ≡ true → (r : Right image start empty (t ∷ before) b) → ResultStays (with_turns r.stood.turns r.a) b t → b.result ≡ r.a.result
  result_on Gave before b given r h = let v = gives_halt image start (replies_of empty) (with_turns r.stood.turns r.a) r.stood.halt b r.is in
      absurd (nothing_is_given_twice image start before r.stood v.0 r.halts given v.1)
  result_on Called before b given r h = h
  result_on (Learnt known) before b given r h = h
  result_on (Named object) before b given r h = h
  result_on Beaten before b given r h = h

  onward : (more told : List Told) (a b : Account) → Right image start empty told a → Right image start empty (more ++ told) b → Onward told a b
  onward [] told a b before now = let same = (one_list image start empty told told a b refl before now).1 in record { turns = omega (arith, ap (λ (x : Account). x.turns) same); result = λ g. sym (ap (λ (x : Account). x.result) same) }
  onward (t ∷ more) told a b before now = let k = onward more told a now.a before now.was in let one = one_turns image start (replies_of empty) (with_turns now.stood.turns now.a) now.stood.halt t b now.is in record {
    turns = omega (arith, k.turns, one.0);
    result = λ g. result_on t (more ++ told) b (given_on more told g) now one.1 ∙ k.result g;
  }

  -- ---- the end

  ends_turns : (a : Account) (f : Frame Held) (halt : Halt) (y : Yield) → EndsAt image start a f halt y → y.turns ≡ a.turns
  ends_turns a f (Stands (Ends line)) y h = sym (ap (λ (x : Yield). x.turns) h)
  ends_turns a f (Stands (Traps t)) y h = sym (ap (λ (x : Yield). x.turns) h)
  ends_turns a f (Stands (Needs value)) y h = sym (ap (λ (x : Yield). x.turns) h.1)
  ends_turns a f (Stands Strays) y h = sym (ap (λ (x : Yield). x.turns) h.1)
  ends_turns a f halt y h = absurd h

  ends_given : (a : Account) (f : Frame Held) (halt : Halt) (y : Yield) (v : Arg) → EndsAt image start a f halt y → a.result ≡ result_of v → y.result ≡ result_of v
  ends_given a f (Stands (Ends line)) y v h is = sym (ap (λ (x : Yield). x.result) h) ∙ (ap (or_missed (missed_at image line start.member)) is ∙ or_given (missed_at image line start.member) v)
  ends_given a f (Stands (Traps t)) y v h is = sym (ap (λ (x : Yield). x.result) h) ∙ (ap (result_at_trap start.member t) is ∙ trap_given start.member t v)
  ends_given a f (Stands (Needs value)) y v h is = sym (ap (λ (x : Yield). x.result) h.1) ∙ is
  ends_given a f (Stands Strays) y v h is = sym (ap (λ (x : Yield). x.result) h.1) ∙ (ap (or_missed (missed_at image 0 start.member)) is ∙ or_given (missed_at image 0 start.member) v)
  ends_given a f halt y v h is = absurd h

  module _ (y : Yield) (through : Through image start empty y) where
    pub turns_within : (told : List Told) (a : Account) → Right image start empty told a → a.turns ≤ y.turns
    turns_within told a right = let way = on_the_way image start empty y through told a right in
        let k = onward way.0 told a through.account right (subst (λ list. Right image start empty list through.account) way.1 through.right) in
        omega (arith, k.turns, ends_turns (with_turns through.stood.turns through.account) through.stood.frame through.stood.halt y through.ends)

    pub given_stays : (told : List Told) (a : Account) (v : Arg) → Right image start empty told a → has_given told ≡ true → a.result ≡ result_of v → y.result ≡ result_of v
    given_stays told a v right given is = let way = on_the_way image start empty y through told a right in
        let k = onward way.0 told a through.account right (subst (λ list. Right image start empty list through.account) way.1 through.right) in
        ends_given (with_turns through.stood.turns through.account) through.stood.frame through.stood.halt y v through.ends (k.result given ∙ is)

    -- the body comes to its end where the frame halts, or the frame is told one thing more
    pub data WayOn (told : List Told) (a : Account) (stood : Stood) : Type 0 where
      AtEnd : EndsAt image start (with_turns stood.turns a) stood.frame stood.halt y → WayOn told a stood
      Further : (t : Told) → (b : Account) → IsRightAt image start (replies_of empty) (with_turns stood.turns a) stood.halt t b → Right image start empty (t ∷ told) b → WayOn told a stood

    last_told : (more told : List Told) (b : Account) → Right image start empty (more ++ told) b → (more ≡ []) ⊎ ((t : Told) × (c : Account) × Right image start empty (t ∷ told) c)
    last_told [] told b right = inl refl
    last_told (t ∷ []) told b right = inr (t, b, right)
    last_told (t ∷ u ∷ more) told b right = at (last_told (u ∷ more) told right.a right.was) where
      at : (u ∷ more ≡ []) ⊎ ((s : Told) × (c : Account) × Right image start empty (s ∷ told) c) → (t ∷ u ∷ more ≡ []) ⊎ ((s : Told) × (c : Account) × Right image start empty (s ∷ told) c)
      at (inl none) = absurd (cc none)
      at (inr k) = inr k

    pub way_on : (told : List Told) (a : Account) (stood : Stood) → Right image start empty told a → HaltsNext image start told stood → WayOn told a stood
    way_on told a stood right halts = at (on_the_way image start empty y through told a right) where
      ends : (more : List Told) → through.told ≡ more ++ told → more ≡ [] → WayOn told a stood
      ends more way none = AtEnd (subst (λ (s : Stood). EndsAt image start (with_turns s.turns a) s.frame s.halt y) same_stood
          (subst (λ (x : Account). EndsAt image start (with_turns through.stood.turns x) through.stood.frame through.stood.halt y) same_account through.ends)) where
            list : through.told ≡ told
            list = way ∙ ap (λ (m : List Told). m ++ told) none

            same_account : through.account ≡ a
            same_account = (one_list image start empty through.told told through.account a (ap length (way ∙ ap (λ (m : List Told). m ++ told) none)) through.right right).1

            same_stood : through.stood ≡ stood
            same_stood = one_halt image start told through.stood stood (subst (λ l. HaltsNext image start l through.stood) (way ∙ ap (λ (m : List Told). m ++ told) none) through.halts) halts

      on : (t : Told) (b : Account) → Right image start empty (t ∷ told) b → WayOn told a stood
      on t b r = Further t b (subst (λ (s : Stood). IsRightAt image start (replies_of empty) (with_turns s.turns a) s.halt t b) (one_halt image start told r.stood stood r.halts halts)
          (subst (λ (x : Account). IsRightAt image start (replies_of empty) (with_turns r.stood.turns x) r.stood.halt t b) (one_list image start empty told told r.a a refl r.was right).1 r.is)) r

      split : (more : List Told) → through.told ≡ more ++ told → (more ≡ []) ⊎ ((t : Told) × (c : Account) × Right image start empty (t ∷ told) c) → WayOn told a stood
      split more way (inl none) = ends more way none
      split more way (inr (t, b, r)) = on t b r

      at : (more : List Told) × (through.told ≡ more ++ told) → WayOn told a stood
      at (more, way) = split more way (last_told more told through.account (subst (λ list. Right image start empty list through.account) way through.right))

    -- the turns to the halt are within those of the body
    pub turns_to : (told : List Told) (a : Account) (stood : Stood) → Right image start empty told a → HaltsNext image start told stood → a.turns + stood.turns ≤ y.turns
    turns_to told a stood right halts = at (way_on told a stood right halts) where
      at : WayOn told a stood → a.turns + stood.turns ≤ y.turns
      at (AtEnd e) = omega (arith, ends_turns (with_turns stood.turns a) stood.frame stood.halt y e)
      at (Further t b is r) = let one = one_turns image start (replies_of empty) (with_turns stood.turns a) stood.halt t b is in let w = turns_within (t ∷ told) b r in omega (arith, one.0, w)
