-- The formals of a member by its number.
use Rattle.std.proofs.Common.{◌≡◌, ℕ, List, ◌∷◌, option_map, Option, Some, None, refl}
use Rattle.mpl_ast.specs.declared.class.Formal.{Formal}
use Rattle.mpl_mean.specs.Meaning.BodyMeaning.{member_of_classes, member_or}
use Rattle.mpl_mean.specs.Meaning.Layout.{Class, Member, member_numbered}

abbrev formals_found : Option (Class × Member) → Option (List Formal)
formals_found o = option_map (λ (found : Class × Member). found.1.formals) o

abbrev formals_here : Option Member → Option (List Formal)
formals_here o = option_map (λ (m : Member). m.formals) o

here : (c : Class) (o : Option Member) (others : Option (Class × Member)) (formals : List Formal) → Some formals ≡ formals_here o → Some formals ≡ formals_found (member_or c o others)
here c None others formals h = absurd cc
here c (Some m) others formals h = h

there : (c : Class) (o : Option Member) (others : Option (Class × Member)) → None ≡ formals_here o → formals_found (member_or c o others) ≡ formals_found others
there c None others h = refl
there c (Some m) others h = absurd cc

pub in_class : (id : ℕ) (c : Class) (classes : List Class) (formals : List Formal)
    → Some formals ≡ option_map (λ (m : Member). m.formals) (member_numbered id c.members) → Some formals ≡ option_map (λ (found : Class × Member). found.1.formals) (member_of_classes id (c ∷ classes))
in_class id c classes formals h = here c (member_numbered id c.members) (member_of_classes id classes) formals h

pub in_others : (id : ℕ) (c : Class) (classes : List Class)
    → None ≡ option_map (λ (m : Member). m.formals) (member_numbered id c.members)
    → option_map (λ (found : Class × Member). found.1.formals) (member_of_classes id (c ∷ classes)) ≡ option_map (λ (found : Class × Member). found.1.formals) (member_of_classes id classes)
in_others id c classes h = there c (member_numbered id c.members) (member_of_classes id classes) h
