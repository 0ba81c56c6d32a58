-- The laws of meanings hold of each accepted program. The proof stands here, since a trait's laws cite nothing else.
pub mod Facts
pub mod MemberWords
pub mod MembersOfClasses
use Rattle.std.specs.Prelude.{◌≡◌, ℕ}
use Rattle.std.proofs.Common.{le_refl}
use Rattle.std.specs.FinMap.{from_entries}
use Rattle.mpl_ast.specs.declared.program.Program.{Program}
use Rattle.mpl_mean.specs.Accepted.{IsAcceptable}
use Rattle.mpl_mean.specs.Meaning.BodyMeaning.{yield_of}
use Rattle.mpl_mean.proofs.Allowance.ExactYields.{turns_spent, turns_within}
use Rattle.mpl_mean.proofs.Allowance.MoreAllowance.{calls_shared, creations_shared, spent_beyond}
use Rattle.mpl_mean.proofs.MoreReplies.RepliesOnlyAdd.{more_replies}
use Rattle.mpl_mean.proofs.MoreTurns.TurnsChangeNothing.{more_turns}
use Rattle.mpl_mean.proofs.Numbers.{yield_numbers}
use Rattle.mpl_mean.proofs.Sizes.SizedYields.{sizes_kept}
use Rattle.mdf_mean.specs.Fits.{Lawful}
use Rattle.mdf_mean.specs.Language.{language}
use Rattle.mdf_mean.specs.LawfulLanguage.MemberWords.{among_is, replies_of_language, sized_of_language, starts_of_language}
use Rattle.mdf_mean.specs.LawfulLanguage.MembersOfClasses.{entries_of_class}

pub lawful_language : (p : Program) → IsAcceptable p → Lawful (language p)
lawful_language p accepted = record {
  more_turns = λ start answers n w fits calm le. more_turns p start (from_entries answers) n w calm le;
  more_replies = λ start answers more n fits among calm still. more_replies p start (from_entries answers) (from_entries more) n (among_is answers more among) calm still;
  within = λ start answers n fits calm. turns_within p start (from_entries answers) n calm;
  spent = λ start answers n fits spent. turns_spent p start (from_entries answers) n spent;
  beyond = λ start answers more n w fits among le spent. spent_beyond p start (from_entries answers) (from_entries more) n w (among_is answers more among) le spent;
  calls_stay = λ start answers more n fits among. calls_shared p start (from_entries answers) (from_entries more) n n (among_is answers more among) (le_refl n);
  creations_stay = λ start answers more n fits among. creations_shared p start (from_entries answers) (from_entries more) n n (among_is answers more among) (le_refl n);
  numbers = λ start answers n fits. yield_numbers p start (from_entries answers) n;
  sizes = λ start answers n fits.
      sized_of_language p start (yield_of p start (from_entries answers) n)
      (sizes_kept p start (from_entries answers) n accepted.typed (starts_of_language p start fits.starts) (replies_of_language p start answers n fits.replies));
  members = entries_of_class p;
}
