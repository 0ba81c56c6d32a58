use Rattle.std.proofs.Common.{◌≡◌, List, map, option_map, IfOk, subst, ◌∙◌}
use Rattle.mpl_ast.specs.declared.program.Declaration.{Declaration}
use Rattle.mpl_mean.specs.Laws.Sizes.{member_of_id, words_of_formal}
use Rattle.mpl_mean.specs.Meaning.Layout.{Class as Inner, Member}
use Rattle.mpl_body_image.proofs.sizes.formal_words.Goals as goal

pub returns : goal.returns
returns c =
    subst (λ (ds : List Declaration). IfOk c.words_of_member.result (λ found. option_map (λ words. words.items) found ≡ option_map (λ (found : Inner × Member). map (words_of_formal ds) found.1.formals) (member_of_id ds c.args.id)))
    (c.in_ok-outline.ensures ∙ c.declarations_of.ensures.are) c.words_of_member.ensures
