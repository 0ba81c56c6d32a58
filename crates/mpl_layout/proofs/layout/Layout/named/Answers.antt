use Rattle.std.proofs.Common.{◌≡◌, ap, subst, sym, ◌∙◌}
use Rattle.std.specs.Option.{option_copied}
use Rattle.mpl_mean.specs.Meaning.Layout.{Nothing, meant_by}
use Rattle.mpl_layout.specs.SeenNamed.{NamedFits, named_or, named_seen}
use Rattle.mpl_layout.proofs.Tables.{named_fits}
use Rattle.mpl_layout.proofs.layout.Layout.named.Goals as goal

pub returns-in-Some-clause-few : goal.returns-in-Some-clause-few
returns-in-Some-clause-few c =
    let ds = c.self.inside.declarations.now in
    let name = c.args.name.now in
    let is : named_seen name c.in-Some.named.now ≡ meant_by name ds =
    ap (λ found. named_or name found Nothing) (ap option_copied (sym c.in-Some.is) ∙ c.find.ensures) ∙ c.self.invariant.types_are name in
    subst (λ ds. NamedFits ds c.in-Some.named.now) c.self.view_is (named_fits ds name c.in-Some.named.now c.self.invariant.bounded.structs is)
