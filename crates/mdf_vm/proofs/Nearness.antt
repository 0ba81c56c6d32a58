-- How near a frame is to its next turn, stop or end: by how far the next test is, and by its callers.
use Rattle.std.proofs.Common.{◌≡◌, ◌≤◌, ◌<◌, ◌+◌, ℕ, zero, suc, Bool, true, false, cond, List, length, Option, Some, None, refl, ap, sym, ◌∙◌, subst, arith, ◌⊎◌, inl, inr, ℤ}
use Rattle.std.proofs.lemmas.Bool.{cases_lt}
use Rattle.std.proofs.lemmas.Option.{slice_get_within, get_or_from_slice_get}
use Rattle.std.proofs.lemmas.List.Sums.{get_or-le-sum_by}
use Rattle.std.specs.List.{slice_get, sum_by}
use Rattle.std.specs.Option.{option_map}
use Rattle.mpl_value.specs.declared.body.Arg.{Arg}
use Rattle.mdf_code.specs.declared.instr.Instr.{Instr}
use Rattle.mdf_code.specs.declared.raw.RawFunction.{RawFunction}
use Rattle.mdf_code.specs.declared.raw.RawImage.{RawImage}
use Rattle.mdf_code.specs.declared.raw.RawMember.{RawMember}
use Rattle.mdf_code.specs.Alone.{Held, framed}
use Rattle.mdf_code.specs.Frames.{Around, Frame, Goes}
use Rattle.mdf_code.specs.Images.{all_ways, is_image, passes}
use Rattle.mdf_code.specs.Parts.{text_at, text_of}
use Rattle.mdf_code.specs.Stacks.{given}
use Rattle.mdf_code.specs.Steps.{does, or_strays, step}
use Rattle.mdf_code.proofs.Passing.{all_passing}
use Rattle.mdf_code.proofs.WaysOn.{IsBack, Moves, OnWay, step_moves}
use Rattle.mdf_vm.specs.declared.code.CodeKind.{CodeKind}
use Rattle.mdf_vm.specs.declared.code.CodeKind.TheVariants as kind
use Rattle.mdf_vm.specs.Places.{code_of}

-- ---- how far the next test is

-- the least count of instructions, from a number on, within which a place passes
abbrev pub least_from : List Instr → ℕ → ℕ → ℕ → ℕ
least_from code place zero from = from
least_from code place (suc fuel) from = cond (passes code from place) from (least_from code place fuel (suc from))

abbrev pub distance : List Instr → ℕ → ℕ
distance code place = least_from code place (length code) 0

unless_passes : (code : List Instr) (place from rest : ℕ) (t : Bool) → passes code from place ≡ t → (passes code from place ≡ false → passes code rest place ≡ true) → passes code (cond t from rest) place ≡ true
unless_passes code place from rest true is later = is
unless_passes code place from rest false is later = later is

least_passes : (code : List Instr) (place fuel from : ℕ) → passes code (from + fuel) place ≡ true → passes code (least_from code place fuel from) place ≡ true
least_passes code place zero from h = let e : from + 0 ≡ from = omega arith in subst (λ n. passes code n place ≡ true) e h
least_passes code place (suc fuel) from h =
    let e : from + suc fuel ≡ suc from + fuel = omega arith in
    unless_passes code place from (least_from code place fuel (suc from)) (passes code from place) refl
    (λ _. least_passes code place fuel (suc from) (subst (λ n. passes code n place ≡ true) e h))

one_small : (t : Bool) (from rest bound : ℕ) → from ≤ bound → rest ≤ bound → cond t from rest ≤ bound
one_small true from rest bound a b = a
one_small false from rest bound a b = b

least_small : (code : List Instr) (place fuel from : ℕ) → least_from code place fuel from ≤ from + fuel
least_small code place zero from = omega arith
least_small code place (suc fuel) from =
    let h = least_small code place fuel (suc from) in
    one_small (passes code from place) from (least_from code place fuel (suc from)) (from + suc fuel) (omega arith) (omega (arith, h))

unless_below : (code : List Instr) (place from rest j : ℕ) (t : Bool) → passes code from place ≡ t → from ≤ j → (passes code from place ≡ false → rest ≤ j) → cond t from rest ≤ j
unless_below code place from rest j true is low later = low
unless_below code place from rest j false is low later = later is

later_than : (code : List Instr) (place from j : ℕ) → from ≤ j → passes code j place ≡ true → passes code from place ≡ false → from < j
later_than code place from j low h is = elim (cases_lt from j) [
  | inl less ↦ less
  | inr more ↦ let same : from ≡ j = omega (arith, more, low) in absurd (cc (is, h, ap (λ n. passes code n place) same))
]

least_below : (code : List Instr) (place fuel from j : ℕ) → from ≤ j → j ≤ from + fuel → passes code j place ≡ true → least_from code place fuel from ≤ j
least_below code place zero from j low high h = low
least_below code place (suc fuel) from j low high h =
    unless_below code place from (least_from code place fuel (suc from)) j (passes code from place) refl low
    (λ is. let less = later_than code place from j low h is in least_below code place fuel (suc from) j (omega (arith, less)) (omega (arith, high)) h)

-- a way on is nearer
way_nearer : (image : RawImage) → is_image image ≡ true → (f g : Frame Held) (i : Instr) → slice_get (text_at image f.code) f.place ≡ Some i → OnWay i f g →
    distance (text_at image g.code) g.place < distance (text_at image f.code) f.place
way_nearer image h f g i is way = by_distance (distance code f.place) (least_passes code f.place (length code) 0 within) (least_small code f.place (length code) 0) where
  code : List Instr
  code = text_at image f.code

  within : passes code (0 + length code) f.place ≡ true
  within = let e : length code ≡ 0 + length code = omega arith in subst (λ n. passes code n f.place ≡ true) e (all_passing image h f.code f.place)

  same_code : (n : ℕ) → distance code g.place < n → distance (text_at image g.code) g.place < n
  same_code n less = subst (λ c. distance (text_at image c) g.place < n) (sym way.code) less

  by_distance : (d : ℕ) → passes code d f.place ≡ true → d ≤ 0 + length code → distance (text_at image g.code) g.place < d
  by_distance zero passing small = absurd (cc (way.leads (λ _. false) (sym (ap (λ (o : Option Instr). all_ways (λ _. false) o f.place) is) ∙ passing)))
  by_distance (suc d) passing small =
      let at : passes code d g.place ≡ true = way.leads (passes code d) (sym (ap (λ (o : Option Instr). all_ways (passes code d) o f.place) is) ∙ passing) in
      let near : distance code g.place ≤ d = least_below code g.place (length code) 0 d (omega arith) (omega (arith, small)) at in
      same_code (suc d) (omega (arith, near))

-- ---- with the callers

-- so much for each of so many
abbrev pub rounds : ℕ → ℕ → ℕ
rounds each zero = 0
rounds each (suc n) = each + rounds each n

-- no code of an image is longer
abbrev pub longest : RawImage → ℕ
longest image =
    length image.main.code
    + (sum_by (λ (f : RawFunction). length f.body.code) image.functions + sum_by (λ (m : RawMember). length m.body.code) image.members)

abbrev pub nearness : RawImage → Frame Held → ℕ
nearness image f = distance (text_at image f.code) f.place + rounds (suc (longest image)) (length f.callers)

in_sum : {A : Type 0} (w : A → ℕ) (xs : List A) (i : ℕ) (x : A) → slice_get xs i ≡ Some x → w x ≤ sum_by w xs
in_sum w xs i x is =
    subst (λ y. w y ≤ sum_by w xs) (get_or_from_slice_get xs i x x is) (get_or-le-sum_by w xs i x (slice_get_within xs i x is))

pub is_short : (image : RawImage) (k : CodeKind) → length (text_at image (code_of k)) ≤ longest image
is_short image kind.Main = omega arith
is_short image (kind.Function n) = by_function (slice_get image.functions n) refl where
  by_function : (o : Option RawFunction) → slice_get image.functions n ≡ o → length (text_of (option_map (λ (f : RawFunction). f.body) o)) ≤ longest image
  by_function None is = omega arith
  by_function (Some f) is = let h = in_sum (λ (f : RawFunction). length f.body.code) image.functions n f is in omega (arith, h)
is_short image (kind.Member n) = by_member (slice_get image.members n) refl where
  by_member : (o : Option RawMember) → slice_get image.members n ≡ o → length (text_of (option_map (λ (m : RawMember). m.body) o)) ≤ longest image
  by_member None is = omega arith
  by_member (Some m) is = let h = in_sum (λ (m : RawMember). length m.body.code) image.members n m is in omega (arith, h)

back_nearer : (image : RawImage) (f g : Frame Held) → length (text_at image g.code) ≤ longest image → IsBack f g → nearness image g < nearness image f
back_nearer image f g short back =
    let small = least_small (text_at image g.code) g.place (length (text_at image g.code)) 0 in
    let more : suc (longest image) + rounds (suc (longest image)) (length g.callers) ≡ rounds (suc (longest image)) (length f.callers) = ap (rounds (suc (longest image))) back in
    omega (arith, small, short, more)

-- a frame that goes on without a turn is nearer
pub step_nearer : (image : RawImage) → is_image image ≡ true → (knows : ℕ → Arg) (object : ℤ) (f g : Frame Held) → length (text_at image g.code) ≤ longest image →
    step (framed knows) (record { image = image; object = object }) f ≡ Goes g → nearness image g < nearness image f
step_nearer image h knows object f g short goes = by_instruction (slice_get (text_at image f.code) f.place) refl where
  x : Around
  x = record { image = image; object = object }

  by_way : (i : Instr) → slice_get (text_at image f.code) f.place ≡ Some i → (OnWay i f g) ⊎ (IsBack f g) → nearness image g < nearness image f
  by_way i is (inl way) =
      let near = way_nearer image h f g i is way in
      let same : rounds (suc (longest image)) (length g.callers) ≡ rounds (suc (longest image)) (length f.callers) = ap (λ callers. rounds (suc (longest image)) (length callers)) way.callers in
      omega (arith, near, same)
  by_way i is (inr back) = back_nearer image f g short back

  by_instruction : (o : Option Instr) → slice_get (text_at image f.code) f.place ≡ o → nearness image g < nearness image f
  by_instruction None is =
      absurd (cc (sym (ap (λ (o : Option Instr). or_strays f (given o (λ i. does (framed knows) x i f))) is) ∙ goes))
  by_instruction (Some i) is = by_way i is (subst (Moves i f) goes (step_moves (framed knows) x f i is))
