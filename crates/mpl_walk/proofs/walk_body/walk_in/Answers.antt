use Rattle.std.proofs.Common.{◌≡◌, ℕ, List, Option, Some, Vec, Global, map, option_map, ap, subst, sym, true, ◌∙◌}
use Rattle.mpl_ast.specs.declared.program.Declaration.{Declaration}
use Rattle.mpl_ast.specs.declared.program.Program.{Program}
use Rattle.mpl_mean.specs.Laws.Sizes.{member_of_id, words_of_formal}
use Rattle.mpl_mean.specs.Meaning.Layout.{Class, Member}
use Rattle.mpl_mean.specs.TypeRules.Rules.{is_typed}
use Rattle.mpl_body_run.specs.SeenSetting.{setting_seen}
use Rattle.mpl_walk.proofs.Meanings.{has_counts, has_member, known_of, main_means, member_means}
use Rattle.mpl_walk.proofs.walk_body.walk_in.Goals as goal

abbrev words_in : Option (Vec ℕ Global) → Option (List ℕ)
words_in found = option_map (λ (words : Vec ℕ Global). words.items) found

pub returns-in-None : goal.returns-in-None
returns-in-None c =
    let p = c.args.typed.now in
    let typed : is_typed p ≡ true = c.keeps_rules.ensures in
    main_means (setting_seen c.args.setting.now) p c.args.start.now c.walk_main.result c.args.main c.requires.image typed c.in-None.is c.requires.main c.walk_main.ensures

pub returns-in-Some-member_code : goal.returns-in-Some-member_code
returns-in-Some-member_code c =
    let p = c.args.typed.now in
    let id = c.in-Some.id in
    let typed : is_typed p ≡ true = c.keeps_rules.ensures in
    let counted =
    ap (λ counts. Some counts) c.as_slice.ensures.value ∙ ap words_in (sym c.in-Some-2.is) ∙ c.in_ok-counts-in-Some.ensures in
    member_means (setting_seen c.args.setting.now) p c.args.start.now c.walk_member.result id c.in-Some-member_code.code c.as_slice.result.now c.requires.image typed
    c.in-Some.is (known_of p c.args.start.now id c.in-Some.is c.requires.fits) counted (sym c.member_code.ensures ∙ c.in-Some-member_code.is) c.walk_member.ensures

pub unreachable-requires : goal.unreachable-requires
unreachable-requires c =
    let p = c.args.typed.now in
    let typed : is_typed p ≡ true = c.keeps_rules.ensures in
    has_member (setting_seen c.args.setting.now) p c.args.start.now c.in-Some.id c.requires.image typed (known_of p c.args.start.now c.in-Some.id c.in-Some.is c.requires.fits)
    (sym c.member_code.ensures ∙ c.in-None-member_code.is)

pub unreachable-requires-in-None-2 : goal.unreachable-requires-in-None-2
unreachable-requires-in-None-2 c =
    let p = c.args.typed.now in
    let id = c.in-Some.id in
    has_counts p c.args.start.now id (known_of p c.args.start.now id c.in-Some.is c.requires.fits)
    (ap words_in (sym c.in-None-2.is) ∙ c.in_ok-counts-in-Some.ensures)
