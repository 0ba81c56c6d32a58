use Rattle.std.proofs.Common.{◌≡◌, true, subst}
use Rattle.mpl_mean.specs.Text.ParseFaults.{HasLightProgram}
use Rattle.mpl_mean.specs.Text.ProgramText.{spells}
use Rattle.mpl_mean.specs.Text.Weight.{is_light}
use Rattle.mpl_parse.proofs.Taken.{never_stuck, same_program, taken}
use Rattle.mpl_parse.proofs.parser.parse.Goals as goal

pub unreachable-requires : goal.unreachable-requires
unreachable-requires c =
    let tokens = c.args.tokens.now.list in
    let light : HasLightProgram tokens = c.in_ok-at.ensures.none c.in-None.is in
    never_stuck tokens c.as_slice.result.now light.program c.as_slice.ensures (taken c.programs_are_taken.ensures tokens c.requires light) (c.in-Err-Stuck.ensures c.in-Err-Stuck.field-0-is)

pub returns-in-Ok-clause-text : goal.returns-in-Ok-clause-text
returns-in-Ok-clause-text c =
    let tokens = c.args.tokens.now.list in
    let light : HasLightProgram tokens = c.in_ok-at.ensures.none c.in-None.is in
    subst (λ p. spells p tokens ≡ true) (same_program tokens c.as_slice.result.now light.program c.in-Ok.program c.as_slice.ensures (taken c.programs_are_taken.ensures tokens c.requires light) c.in-Ok.ensures) light.spelled

pub returns-in-Ok-clause-light : goal.returns-in-Ok-clause-light
returns-in-Ok-clause-light c =
    let tokens = c.args.tokens.now.list in
    let light : HasLightProgram tokens = c.in_ok-at.ensures.none c.in-None.is in
    subst (λ p. is_light p ≡ true) (same_program tokens c.as_slice.result.now light.program c.in-Ok.program c.as_slice.ensures (taken c.programs_are_taken.ensures tokens c.requires light) c.in-Ok.ensures) light.light
