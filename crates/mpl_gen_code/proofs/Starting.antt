-- What the variables of a frame hold at a start is what the formals hold.
use Rattle.std.proofs.Common.{◌≡◌, ◌<◌, ◌+◌, ℕ, zero, suc, List, [], ◌∷◌, ◌++◌, length, map, take, drop, flat_map, sum, Some, None, ℤ, append_assoc, refl, ap, ap₂, sym, subst, arith, ◌∙◌}
use Rattle.std.proofs.Math.Seq.{take-append_seam, drop-append_seam}
use Rattle.std.proofs.lemmas.List.{length-append, map-append}
use Rattle.std.proofs.lemmas.List.Sums.{sum_by-cons}
use Rattle.std.specs.List.{slice_get}
use Rattle.mpl_ast.specs.declared.class.Formal.{Formal}
use Rattle.mpl_ast.specs.declared.program.Declaration.{Declaration}
use Rattle.mpl_value.specs.Words.{zeros}
use Rattle.mpl_value.specs.declared.body.Arg.{Arg}
use Rattle.mpl_value.specs.declared.body.Arg.TheVariants.{Know}
use Rattle.mpl_mean.specs.Laws.InPlace.{ArgumentsHaveWords}
use Rattle.mpl_mean.specs.Laws.Sizes.{words_of_formal}
use Rattle.mpl_mean.specs.Meaning.BodyMeaning.{formals_holding}
use Rattle.mpl_mean.specs.Meaning.BodyMeaning as mean
use Rattle.mdf_code.specs.Parts.{split_words, variables_holding}
use Rattle.mpl_gen_code.specs.Scopes.{formals_from}
use Rattle.mpl_gen_code.proofs.Scoped.{IsApart, WellScoped, held, variables_of}

-- ---- numbers of formals

held_after : (front : List Arg) (a : Arg) (others : List Arg) → held (length front) (front ++ a ∷ others) ≡ a
held_after [] a others = refl
held_after (b ∷ front) a others = held_after front a others

formals_from_held : (front : List Arg) (formals : List Formal) (arguments : List (List ℤ)) (more : List Arg) → length arguments ≡ length formals
    → formals_holding formals arguments ≡ variables_of (front ++ (map Know arguments ++ more)) (formals_from (length front) formals)
formals_from_held front [] arguments more e = refl
formals_from_held front (formal ∷ formals) [] more e = absurd (let e' : zero ≡ suc (length formals) = e in omega arith)
formals_from_held front (formal ∷ formals) (words ∷ arguments) more e =
    ap₂ (λ (a : Arg) others. record { name = formal.name.text; type = formal.type_name; dimension = None; holds = a } ∷ others) (sym (held_after front (Know words) (map Know arguments ++ more)))
    (formals_from_held (front ++ Know words ∷ []) formals arguments more (let e' : suc (length arguments) ≡ suc (length formals) = e in omega arith)
    ∙ ap₂ (λ (all : List Arg) n. variables_of all (formals_from n formals)) (append_assoc front (Know words ∷ []) (map Know arguments ++ more)) (length-append front (Know words ∷ [])))

pub formals_held : (formals : List Formal) (arguments : List (List ℤ)) (more : List Arg) → length arguments ≡ length formals
    → formals_holding formals arguments ≡ variables_of (map Know arguments ++ more) (formals_from 0 formals)
formals_held = formals_from_held []

apart_later : (n m : ℕ) (formals : List Formal) → n < m → IsApart n (formals_from m formals)
apart_later n m [] h = tt
apart_later n m (formal ∷ formals) h = ((λ e. absurd (omega arith)), apart_later n (m + 1) formals (omega arith))

got_after : (front : List ℕ) (size : ℕ) (others : List ℕ) → slice_get (front ++ size ∷ others) (length front) ≡ Some size
got_after [] size others = refl
got_after (k ∷ front) size others = got_after front size others

well_formals : (ds : List Declaration) (front : List ℕ) (formals : List Formal) → WellScoped ds (front ++ map (words_of_formal ds) formals) (formals_from (length front) formals)
well_formals ds front [] = tt
well_formals ds front (formal ∷ formals) = (
  got_after front (words_of_formal ds formal) (map (words_of_formal ds) formals),
  apart_later (length front) (length front + 1) formals (omega arith),
  subst (λ (all : List ℕ). WellScoped ds all (formals_from (length front + 1) formals)) (append_assoc front (words_of_formal ds formal ∷ []) (map (words_of_formal ds) formals))
      (subst (λ n. WellScoped ds ((front ++ words_of_formal ds formal ∷ []) ++ map (words_of_formal ds) formals) (formals_from n formals)) (length-append front (words_of_formal ds formal ∷ []))
      (well_formals ds (front ++ words_of_formal ds formal ∷ []) formals)),
)

pub formals_well : (ds : List Declaration) (formals : List Formal) → WellScoped ds (map (words_of_formal ds) formals) (formals_from 0 formals)
formals_well ds = well_formals ds []

-- ---- words of formals

pub split_same : (ds : List Declaration) (formals : List Formal) (words : List ℤ) → split_words (map (words_of_formal ds) formals) words ≡ mean.split_words ds formals words
split_same ds [] words = refl
split_same ds (formal ∷ formals) words = ap (λ others. take (words_of_formal ds formal) words ∷ others) (split_same ds formals (drop (words_of_formal ds formal) words))

pub split_many : (ds : List Declaration) (formals : List Formal) (words : List ℤ) → length (mean.split_words ds formals words) ≡ length formals
split_many ds [] words = refl
split_many ds (formal ∷ formals) words = ap suc (split_many ds formals (drop (words_of_formal ds formal) words))

-- words that were joined are split as they were
pub split_joined : (ds : List Declaration) (formals : List Formal) (arguments : List (List ℤ)) → ArgumentsHaveWords ds formals arguments
    → split_words (map (words_of_formal ds) formals) (flat_map (λ words. words) arguments) ≡ arguments
split_joined ds [] [] have = refl
split_joined ds [] (words ∷ arguments) have = absurd have
split_joined ds (formal ∷ formals) [] have = absurd have
split_joined ds (formal ∷ formals) (words ∷ arguments) have =
    let rest = flat_map (λ (words : List ℤ). words) arguments in
    let long : length words ≡ words_of_formal ds formal = have.0 in
    ap₂ (λ (first : List ℤ) others. first ∷ others)
    (ap (λ n. take n (words ++ rest)) (sym long) ∙ take-append_seam words rest)
    (ap (λ n. split_words (map (words_of_formal ds) formals) (drop n (words ++ rest))) (sym long)
    ∙ ap (split_words (map (words_of_formal ds) formals)) (drop-append_seam words rest)
    ∙ split_joined ds formals arguments have.1)

pub many_have : (ds : List Declaration) (formals : List Formal) (arguments : List (List ℤ)) → ArgumentsHaveWords ds formals arguments → length arguments ≡ length formals
many_have ds [] [] have = refl
many_have ds [] (words ∷ arguments) have = absurd have
many_have ds (formal ∷ formals) [] have = absurd have
many_have ds (formal ∷ formals) (words ∷ arguments) have = ap suc (many_have ds formals arguments have.1)

pub joined_long : (ds : List Declaration) (formals : List Formal) (arguments : List (List ℤ)) → ArgumentsHaveWords ds formals arguments
    → length (flat_map (λ words. words) arguments) ≡ sum (map (words_of_formal ds) formals)
joined_long ds [] [] have = refl
joined_long ds [] (words ∷ arguments) have = absurd have
joined_long ds (formal ∷ formals) [] have = absurd have
joined_long ds (formal ∷ formals) (words ∷ arguments) have =
    let total = sum_by-cons (λ (n : ℕ). n) (words_of_formal ds formal) (map (words_of_formal ds) formals) in
    let whole = length-append words (flat_map (λ words. words) arguments) in
    let rest = joined_long ds formals arguments have.1 in
    let first : length words ≡ words_of_formal ds formal = have.0 in
    omega (arith, total, whole, rest, first)

-- the variables at a start, by the words of each formal
pub start_variables : (ds : List Declaration) (formals : List Formal) (sizes : List ℕ) (words : List ℤ) (arguments : List (List ℤ)) (count : ℕ) → count ≡ length formals → take (length formals) sizes ≡ map (words_of_formal ds) formals
    → split_words (map (words_of_formal ds) formals) words ≡ arguments
    → map Know (variables_holding count sizes words) ≡ map Know arguments ++ map Know (map zeros (drop (length formals) sizes))
start_variables ds formals sizes words arguments count same first split =
    ap (λ n. map Know (variables_holding n sizes words)) same
    ∙ ap (λ all. map Know (split_words all words ++ map zeros (drop (length formals) sizes))) first
    ∙ ap (λ all. map Know (all ++ map zeros (drop (length formals) sizes))) split
    ∙ map-append Know arguments (map zeros (drop (length formals) sizes))
