-- What was read of a source, piece after piece.
use Rattle.std.proofs.Common.{◌≡◌, ◌+◌, ◌≤◌, ℕ, List, [], ◌++◌, Option, Some, None, length, take, drop, option_map, IfSome, refl, sym, ap, subst, ◌∙◌, arith, length-append}
use Rattle.std.proofs.lemmas.Grind.{common_steps}
use Rattle.std.proofs.lemmas.List.{drop_all, drop-drop, length-take, length-drop, take_all}
use Rattle.std.proofs.Math.Seq.{take-add}
use Rattle.mentat_io.specs.Source.{GivesStart, IsAtEnd}
use Rattle.mentat_input.specs.Limits.{most_input_bytes}
use Rattle.mentat_input.specs.Reads.{IsRead}

-- so many bytes were read so far
pub record Taken (before now : Option (List ℕ)) (bytes : List ℕ) : Type 0 where
  pub front : IfSome before (λ left. bytes ≡ take (length bytes) left)
  pub rest : now ≡ option_map (λ left. drop (length bytes) left) before

-- before the first piece
pub nothing_taken : (left : Option (List ℕ)) → Taken left left []
nothing_taken None = record { front = tt; rest = refl }
nothing_taken (Some xs) = record { front = grind (arith, common_steps); rest = grind (arith, common_steps) }

piece_front : (xs bytes buf : List ℕ) (n : ℕ) → bytes ≡ take (length bytes) xs → GivesStart (drop (length bytes) xs) n buf → n ≤ length buf → bytes ++ take n buf ≡ take (length (bytes ++ take n buf)) xs
piece_front xs bytes buf n front gives fits =
    let size : length (bytes ++ take n buf) ≡ length bytes + n = omega (arith, length-append bytes (take n buf), length-take n buf) in
    let both : take (length bytes + n) xs ≡ take (length bytes) xs ++ take n (drop (length bytes) xs) = take-add (length bytes) n xs in
    rw size (rw both (rw (← front, gives.1) refl))

piece_rest : (xs bytes buf : List ℕ) (n : ℕ) → n ≤ length buf → drop n (drop (length bytes) xs) ≡ drop (length (bytes ++ take n buf)) xs
piece_rest xs bytes buf n fits =
    drop-drop n (length bytes) xs ∙ ap (λ k. drop k xs) (omega (arith, length-append bytes (take n buf), length-take n buf))

-- after one more
pub piece_taken : (before left now : Option (List ℕ)) (bytes buf : List ℕ) (n : ℕ) → Taken before left bytes → IfSome left (λ xs. GivesStart xs n buf) → n ≤ length buf
    → now ≡ option_map (λ xs. drop n xs) left → Taken before now (bytes ++ take n buf)
piece_taken None left now bytes buf n taken gives fits rest =
    record { front = tt; rest = rest ∙ ap (option_map (λ xs. drop n xs)) taken.rest }
piece_taken (Some xs) left now bytes buf n taken gives fits rest =
    let gave : GivesStart (drop (length bytes) xs) n buf = subst (λ ys. IfSome ys (λ zs. GivesStart zs n buf)) taken.rest gives in
    record {
      front = piece_front xs bytes buf n taken.front gave fits;
      rest = rest ∙ ap (option_map (λ ys. drop n ys)) taken.rest ∙ ap Some (piece_rest xs bytes buf n fits);
    }

-- one byte more than the limit
pub full_read : (before now : Option (List ℕ)) (bytes : List ℕ) → Taken before now bytes → length bytes ≡ most_input_bytes + 1 → IsRead before now bytes
full_read None now bytes taken size =
    record { short = omega (arith, size); front = tt; rest = taken.rest; end = λ h. absurd (omega (arith, size, h)) }
full_read (Some xs) now bytes taken size = record {
  short = omega (arith, size);
  front = subst (λ k. bytes ≡ take k xs) size taken.front;
  rest = subst (λ k. now ≡ Some (drop k xs)) size taken.rest;
  end = λ h. absurd (omega (arith, size, h));
}

-- all bytes to the end
pub whole_read : (before left now : Option (List ℕ)) (bytes : List ℕ) (n : ℕ) → Taken before left bytes → IsAtEnd left → length bytes ≤ most_input_bytes
    → n ≡ 0 → now ≡ option_map (λ xs. drop n xs) left → IsRead before now bytes
whole_read None left now bytes n taken at_end short zero gone =
    let rest : now ≡ option_map (λ xs. drop 0 xs) left = subst (λ k. now ≡ option_map (λ xs. drop k xs) left) zero gone in
    let none : now ≡ None = rest ∙ ap (option_map (λ xs. drop 0 xs)) taken.rest in
    record { short = omega (arith, short); front = tt; rest = none; end = λ h. subst IsAtEnd (sym none) tt }
whole_read (Some xs) left now bytes n taken at_end short zero gone =
    let rest : now ≡ option_map (λ ys. drop 0 ys) left = subst (λ k. now ≡ option_map (λ ys. drop k ys) left) zero gone in
    let e : drop (length bytes) xs ≡ [] = subst IsAtEnd taken.rest at_end in
    let few : length xs ≤ length bytes = omega (arith, length-drop (length bytes) xs, ap length e) in
    let empty : now ≡ Some [] = rest ∙ ap (option_map (λ xs. drop 0 xs)) taken.rest ∙ ap (λ ys. Some (drop 0 ys)) e ∙ ap Some (drop_all 0 [] (omega arith)) in
    record {
      short = omega (arith, short);
      front = taken.front ∙ take_all (length bytes) xs few ∙ sym (take_all (most_input_bytes + 1) xs (omega (arith, few, short)));
      rest = empty ∙ ap Some (sym (drop_all (most_input_bytes + 1) xs (omega (arith, few, short))));
      end = λ h. subst IsAtEnd (sym empty) refl;
    }
