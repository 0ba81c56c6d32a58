-- How what was called in place comes back to its caller, as the meaning of calls has it.
use Rattle.std.proofs.Common.{List, ℤ}
use Rattle.mpl_value.specs.declared.body.Arg.{Arg}
use Rattle.mpl_value.specs.declared.known.TrapKind.TheVariants.{NoReply}
use Rattle.mpl_mean.specs.Meaning.BodyMeaning.{back_with, member_end, store_of, with_variables}
use Rattle.mpl_mean.specs.Meaning.Layout.{Function, Member}
use Rattle.mpl_mean.specs.Meaning.Store.{Store, Outcome, Goes, Returns, Ends, trap}

abbrev pub after_plain : Function → Store → Outcome (Unit {0}) → Outcome (List ℤ)
after_plain f store (Goes value after) = trap NoReply f.body.mark_line (with_variables store.variables after)
after_plain f store (Returns words after) = Goes words (with_variables store.variables after)
after_plain f store (Ends e after) = Ends e (with_variables store.variables after)

abbrev pub after_regular : Member → Store → Outcome (Unit {0}) → Outcome Arg
after_regular m store outcome = back_with (store_of outcome).turns (member_end m outcome) store
