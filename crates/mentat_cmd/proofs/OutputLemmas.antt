-- One more piece of the output.
use Rattle.std.proofs.Common.{◌≡◌, ℕ, ◌+◌, ◌≤◌, List, ◌++◌, length, take, drop, Option, Some, None, option_map, ap, sym, ◌∙◌, arith, append_assoc}
use Rattle.std.proofs.lemmas.List.{length-take, take-take}
use Rattle.std.proofs.Math.Seq.{take-add}
use Rattle.mentat_cmd.specs.Output.{Appends}

-- the front of the bytes up to here, and the front of a piece that begins here
fronts : (bytes : List ℕ) (at size n : ℕ) → n ≤ length (take size (drop at bytes)) → take at bytes ++ take n (take size (drop at bytes)) ≡ take (at + n) bytes
fronts bytes at size n fits =
    let short : n ≤ size = omega (arith, length-take size (drop at bytes)) in
    ap (λ x. take at bytes ++ x) (take-take n size (drop at bytes) short) ∙ sym (take-add at n bytes)

pub Appends-more : (before mid after : Option (List ℕ)) (bytes : List ℕ) (at size n : ℕ) → n ≤ length (take size (drop at bytes))
    → Appends before mid (take at bytes) → Appends mid after (take n (take size (drop at bytes))) → Appends before after (take (at + n) bytes)
Appends-more None mid after bytes at size n fits first second = second ∙ ap (option_map (λ w. w ++ take n (take size (drop at bytes)))) first
Appends-more (Some written) mid after bytes at size n fits first second =
    second ∙ ap (option_map (λ w. w ++ take n (take size (drop at bytes)))) first
    ∙ ap Some (append_assoc written _ _ ∙ ap (λ x. written ++ x) (fronts bytes at size n fits))
