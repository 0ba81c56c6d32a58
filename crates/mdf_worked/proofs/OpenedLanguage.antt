-- The meaning of a program in a form that computes, and journals by their tests.
use Rattle.std.proofs.Common.{◌≡◌, ℕ, Bool, true, false, List, [], reverse, nat_lt, refl, sym, ap, subst}
use Rattle.std.proofs.Math.Path.{fun_ext}
use Rattle.std.specs.Fmt.{digits}
use Rattle.std.specs.FinMap.{from_entries}
use Rattle.std.specs.Option.{option_map}
use Rattle.mpl_ast.specs.declared.program.Program.{Program}
use Rattle.mpl_mean.specs.Laws.Sizes.{member_of_id}
use Rattle.mpl_mean.proofs.SmallPrograms.OpenTrees.{open_trees}
use Rattle.mpl_mean.proofs.SmallPrograms.OpenedExpressions.{value_opens, value_to}
use Rattle.mpl_mean.proofs.SmallPrograms.OpenedReplies.{opened_with, opens_with}
use Rattle.mdf_mean.specs.declared.entry.Entry.{Entry}
use Rattle.mdf_mean.specs.Decides.{is_closed, is_explained, is_justified}
use Rattle.mdf_mean.specs.Explained.{Closed, Explained, Justified, Outcome, Over, outcome_of, turns_of}
use Rattle.mdf_mean.specs.Guards.{choices_by, class_at}
use Rattle.mdf_mean.specs.Language.{language, sizes_of, words_in}
use Rattle.mdf_mean.specs.LawfulLanguage.MemberWords.{get_is}
use Rattle.mdf_mean.specs.Meanings.{Meaning, Setting, answer_to}
use Rattle.mdf_mean.specs.Ran.{bodies}
use Rattle.mdf_mean.proofs.Decided.{below, explained_is, is_may}
use Rattle.mdf_mean.proofs.DecidedClosed.{closed_is, is_closed_so}
use Rattle.mdf_worked.specs.WorkedJournals.{Explains, ExplainsPart, FailsAt, OverWith, setting}

unfoldable pub opened_language : Program → Meaning
unfolding open_trees digits opened_with
opened_language p = record {
  yield = λ start answers turns. opened_with (λ call. answer_to call answers) p start (from_entries answers) turns;
  choices = choices_by (value_to 40) p.declarations;
  words = λ class. words_in p.declarations (class_at p.declarations class);
  sizes = λ id. option_map (sizes_of p.declarations) (member_of_id p.declarations id);
}

language_opens : (p : Program) → language p ≡ opened_language p
unfolding opened_language
language_opens p = λ i. record {
  yield = λ start answers turns. opens_with p start (from_entries answers) turns (λ call. answer_to call answers) (fun_ext (λ call. get_is answers call)) i;
  choices = choices_by (value_opens 40 i) p.declarations;
  words = λ class. words_in p.declarations (class_at p.declarations class);
  sizes = λ id. option_map (sizes_of p.declarations) (member_of_id p.declarations id);
}

abbrev pub opened : ℕ → Program → Setting
opened turns p = record { meaning = opened_language p; input = []; turns = turns }

setting_opens : (turns : ℕ) (p : Program) → setting turns p ≡ opened turns p
setting_opens turns p = ap (λ m. record { meaning = m; input = []; turns = turns }) (language_opens p)

pub explains : (turns : ℕ) (journal : List Entry) (outcome : Outcome) (spent : ℕ) (p : Program) → is_explained (opened turns p) (reverse journal) ≡ true → is_closed (opened turns p) (reverse journal) ≡ true
    → outcome_of (opened turns p) (reverse journal) ≡ outcome → turns_of (opened turns p) (reverse journal) ≡ spent → Explains turns journal outcome spent p
explains turns journal outcome spent p e c o t =
    let is = sym (setting_opens turns p) in
    let h = reverse journal in
    record {
      explained = subst (λ s. Explained s h) is (explained_is (opened turns p) h e);
      closed = subst (λ s. Closed s h) is (closed_is (opened turns p).meaning (bodies (opened turns p) h) h c);
      outcome_is = subst (λ s. outcome_of s h ≡ outcome) is o;
      turns_are = subst (λ s. turns_of s h ≡ spent) is t;
    }

not_true : {b : Bool} → b ≡ false → b ≡ true → ⊥
not_true e f = absurd cc

pub explains_part : (turns : ℕ) (journal : List Entry) (p : Program) → is_explained (opened turns p) (reverse journal) ≡ true → is_closed (opened turns p) (reverse journal) ≡ false → ExplainsPart turns journal p
explains_part turns journal p e c =
    let is = sym (setting_opens turns p) in
    let s = opened turns p in
    let h = reverse journal in
    record {
      explained = subst (λ s. Explained s h) is (explained_is s h e);
      goes_on = subst (λ s. Closed s h → ⊥) is (λ closed. not_true c (is_closed_so s.meaning (bodies s h) h closed));
    }

pub fails_at : (turns : ℕ) (before : List Entry) (next : Entry) (p : Program) → is_explained (opened turns p) (reverse before) ≡ true → is_justified (opened turns p) (reverse before) next ≡ false → FailsAt turns before next p
fails_at turns before next p e f =
    let is = sym (setting_opens turns p) in
    let s = opened turns p in
    let h = reverse before in
    record {
      explained = subst (λ s. Explained s h) is (explained_is s h e);
      fails = subst (λ s. Justified s h next → ⊥) is (λ j. not_true f (is_may s.meaning (bodies s h) h next j));
    }

pub over_at : (turns : ℕ) (journal : List Entry) (p : Program) → is_explained (opened turns p) (reverse journal) ≡ true → nat_lt turns (turns_of (opened turns p) (reverse journal)) ≡ true → OverWith turns journal p
over_at turns journal p e t =
    let s = opened turns p in
    let h = reverse journal in
    record { over = subst (λ s. Over s h) (sym (setting_opens turns p)) (record { later = []; front = h; is = refl; explained = explained_is s h e; turns = below turns (turns_of s h) t }) }
