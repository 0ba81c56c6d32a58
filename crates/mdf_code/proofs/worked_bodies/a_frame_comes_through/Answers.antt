use Rattle.std.proofs.Common.{ℕ, List, [], ◌∷◌, Option, Some, None, ℤ, pos, refl}
use Rattle.std.specs.FinMap.{FinMap}
use Rattle.std.specs.Fmt.{digits}
use Rattle.std.specs.Ordering.{nat_cmp}
use Rattle.mpl_value.specs.declared.body.BodyEnd.TheVariants.{Done}
use Rattle.mpl_value.specs.declared.body.BodyResult.TheVariants as given
use Rattle.mpl_value.specs.declared.known.Known.{Known}
use Rattle.mpl_value.specs.declared.known.Known.TheVariants as known
use Rattle.mdf_code.specs.Alone.{Words}
use Rattle.mdf_code.specs.Right.{Account, OwnYield, ReadyCall, Right, opening, with_answer, with_turns}
use Rattle.mdf_code.specs.SmallBodies.{gives, sum_of_squares}
use Rattle.mdf_code.specs.SmallCode.{main_start, number}
use Rattle.mdf_code.specs.Told.{Beats, Called, Learnt, Stood, Told, next_within}
use Rattle.mdf_code.specs.Yields.{start_frame}
use Rattle.mdf_code.proofs.worked_bodies.a_frame_comes_through.Goals as goal

-- where `main` halts next
abbrev stood_or : Option Stood → Stood
stood_or None = record { halt = Beats; turns = 0; frame = start_frame Words sum_of_squares (main_start []) }
stood_or (Some stood) = stood

abbrev stood_behind : List Told → Stood
stood_behind told = stood_or (next_within 100 sum_of_squares (main_start []) told)

-- the calls so far, with their answers and a turn for each body
abbrev answered : ℕ → Account → Account
answered n a = with_answer (number n) (with_turns 1 (with_turns 1 a))

-- a call with known arguments, by what its member gives
ready : (member : ℕ) (arguments : List (List ℤ)) (n : ℕ) (a : Account) → OwnYield sum_of_squares member arguments (gives (given.Known (known.Value (pos n ∷ []))) [] Done) →
    ReadyCall sum_of_squares member arguments (with_turns 1 a) (answered n a)
ready member arguments n a own = record { yield = gives (given.Known (known.Value (pos n ∷ []))) [] Done; own = own; is = refl }

square_of_three : OwnYield sum_of_squares 0 ((pos 3 ∷ []) ∷ []) (gives (given.Known (known.Value (pos 9 ∷ []))) [] Done)
square_of_three = record { turns = 1; yields = record { steps = 100; within = refl }; unspent = λ h. cc h }

square_of_four : OwnYield sum_of_squares 0 ((pos 4 ∷ []) ∷ []) (gives (given.Known (known.Value (pos 16 ∷ []))) [] Done)
square_of_four = record { turns = 1; yields = record { steps = 100; within = refl }; unspent = λ h. cc h }

sum : OwnYield sum_of_squares 1 ((pos 9 ∷ []) ∷ (pos 16 ∷ []) ∷ []) (gives (given.Known (known.Value (pos 25 ∷ []))) [] Done)
sum = record { turns = 1; yields = record { steps = 100; within = refl }; unspent = λ h. cc h }

first_call : (replies : FinMap nat_cmp Known) → Right sum_of_squares (main_start []) replies (Called ∷ []) (answered 9 opening)
first_call replies = record { a = opening; was = refl; stood = stood_behind []; halts = record { steps = 100; within = refl }; is = ready 0 ((pos 3 ∷ []) ∷ []) 9 opening square_of_three }

second_call : (replies : FinMap nat_cmp Known) → Right sum_of_squares (main_start []) replies (Called ∷ Called ∷ []) (answered 16 (answered 9 opening))
second_call replies = record {
  a = answered 9 opening;
  was = first_call replies;
  stood = stood_behind (Called ∷ []);
  halts = record { steps = 100; within = refl };
  is = ready 0 ((pos 4 ∷ []) ∷ []) 16 (answered 9 opening) square_of_four;
}

third_call : (replies : FinMap nat_cmp Known) → Right sum_of_squares (main_start []) replies (Called ∷ Called ∷ Called ∷ []) (answered 25 (answered 16 (answered 9 opening)))
third_call replies = record {
  a = answered 16 (answered 9 opening);
  was = second_call replies;
  stood = stood_behind (Called ∷ Called ∷ []);
  halts = record { steps = 100; within = refl };
  is = ready 1 ((pos 9 ∷ []) ∷ (pos 16 ∷ []) ∷ []) 25 (answered 16 (answered 9 opening)) sum;
}

learnt : (replies : FinMap nat_cmp Known) → Right sum_of_squares (main_start []) replies (Learnt (known.Value (pos 25 ∷ [])) ∷ Called ∷ Called ∷ Called ∷ []) (answered 25 (answered 16 (answered 9 opening)))
learnt replies = record {
  a = answered 25 (answered 16 (answered 9 opening));
  was = third_call replies;
  stood = stood_behind (Called ∷ Called ∷ Called ∷ []);
  halts = record { steps = 100; within = refl };
  is = (refl, refl);
}

pub returns : goal.returns
unfolding digits
returns c = λ replies. record {
  told = Learnt (known.Value (pos 25 ∷ [])) ∷ Called ∷ Called ∷ Called ∷ [];
  account = answered 25 (answered 16 (answered 9 opening));
  right = learnt replies;
  stood = stood_behind (Learnt (known.Value (pos 25 ∷ [])) ∷ Called ∷ Called ∷ Called ∷ []);
  halts = record { steps = 100; within = refl };
  ends = refl;
}
