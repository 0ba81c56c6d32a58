-- A laid image has the code of its program.
use Rattle.std.proofs.Common.{◌≡◌, ℕ, ◌+◌, Bool, true, List, [], ◌++◌, length, Some, if◌then◌else◌, map, append_assoc, arith, refl, ap, sym, subst, ◌∙◌}
use Rattle.std.proofs.lemmas.List.{append-nil, length-append}
use Rattle.std.specs.Prelude.{slice_get}
use Rattle.mpl_ast.specs.declared.program.Declaration.{Declaration}
use Rattle.mpl_ast.specs.declared.program.Program.{Program}
use Rattle.mpl_value.specs.declared.body.MemberId.{MemberId}
use Rattle.mpl_mean.specs.Laws.Sizes.{member_of_id}
use Rattle.mpl_mean.specs.Meaning.BodyMeaning.{main_statements}
use Rattle.mpl_mean.specs.Meaning.Layout as layout
use Rattle.mpl_mean.specs.Meaning.Layout.{Class, Function, Member, class_named, classes_of, function_named, member_named, member_numbered, parts_of}
use Rattle.mpl_mean.specs.TypeRules.Rules.{is_typed}
use Rattle.mpl_mean.specs.Plain.Stmt.{Stmts, stmts_from}
use Rattle.mpl_plain.proofs.FittingBodies.{function_fits, main_fits, numbered_fits, regular_fits}
use Rattle.mpl_mean.proofs.Sizes.SizedPrograms.{well_program}
use Rattle.mpl_plain.specs.Arity.{StatementsFit}
use Rattle.mpl_mean.specs.Plain.Scopes.{Env, formal_shape, function_env, member_env, main_env, regular_env}
use Rattle.mpl_body_code.specs.Codes.{From, body_code}
use Rattle.mpl_body_code.specs.Images.{FunctionAt, HasCode, IsBodyCode, IsMemberCode, MemberAt}
use Rattle.mpl_body_code.specs.Machine.{Image, Setting}
use Rattle.mpl_body_image.specs.Laid.{classes_code, function_entry, functions_code, laid, main_code, main_entry, member_entry}
use Rattle.mpl_body_image.proofs.Standing.{AmongClasses, MemberPlaced, Part, class_among, class_placed, function_placed, id_among, named_among, part_stands}

-- ---- the parts of the whole

functions_part : (ds : List Declaration) → Part (laid ds).code (functions_code ds ds) 0
functions_part ds = record { before = []; after = classes_code ds (classes_of ds) ++ main_code ds; is = refl; at = refl }

classes_part : (ds : List Declaration) → Part (laid ds).code (classes_code ds (classes_of ds)) (length (functions_code ds ds))
classes_part ds = record { before = functions_code ds ds; after = main_code ds; is = refl; at = refl }

main_part : (ds : List Declaration) → Part (laid ds).code (main_code ds) (main_entry ds)
main_part ds = record {
  before = functions_code ds ds ++ classes_code ds (classes_of ds);
  after = [];
  is = sym (append_assoc (functions_code ds ds) (classes_code ds (classes_of ds)) (main_code ds)) ∙ ap (λ code. (functions_code ds ds ++ classes_code ds (classes_of ds)) ++ code) (sym (append-nil (main_code ds)));
  at = sym (length-append (functions_code ds ds) (classes_code ds (classes_of ds)));
}

-- ---- bodies

module _ (S : Setting) (p : Program) (is : S.image ≡ laid p.declarations) (typed : is_typed p ≡ true) where
  body_at : (env : Env) (trees : Stmts) (place : ℕ) → Part (laid p.declarations).code (body_code env trees) place → StatementsFit env trees → IsBodyCode S env trees place
  body_at env trees place part fits = record {
    last = place + length (body_code env trees);
    code = subst (λ (image : Image). From image.code place (body_code env trees) (place + length (body_code env trees))) (sym is) (part_stands (laid p.declarations).code (body_code env trees) place part);
    fits = fits;
  }

  pub main_is : IsBodyCode S (main_env p.declarations) (stmts_from (main_statements p.declarations)) (main_entry p.declarations)
  main_is = body_at (main_env p.declarations) (stmts_from (main_statements p.declarations)) (main_entry p.declarations) (main_part p.declarations) (main_fits p.declarations (well_program p typed))

  function_is : (name : List ℕ) (f : Function) → function_named name p.declarations ≡ Some f → FunctionAt S p.declarations name f
  function_is name f found =
      let h = function_placed (laid p.declarations).code p.declarations 0 0 name p.declarations f (functions_part p.declarations) found in
      record {
        number = h.further;
        numbered = h.numbered ∙ ap (λ n. Some n) (let e : 0 + h.further ≡ h.further = omega arith in e);
        code = function_entry h.place f;
        stands = ap (λ (image : Image). slice_get image.functions h.further) is ∙ h.entry;
        is = record {
          body = body_at (function_env p.declarations f) (stmts_from f.body.statements) h.place h.code (function_fits p.declarations (well_program p typed) name f found);
          line = refl;
          gives_bool = refl;
        };
      }

  placed : (class : Class) (m : Member) → AmongClasses class m (classes_of p.declarations)
      → MemberPlaced (laid p.declarations).code p.declarations (laid p.declarations).members 0 class m
  placed class m among = class_placed (laid p.declarations).code p.declarations (length (functions_code p.declarations p.declarations)) 0 0 p.declarations class m (classes_part p.declarations) among

  stands_at : (class : Class) (m : Member) (h : MemberPlaced (laid p.declarations).code p.declarations (laid p.declarations).members 0 class m) → slice_get S.image.members m.id ≡ Some (member_entry h.place m)
  stands_at class m h =
      ap (λ (image : Image). slice_get image.members m.id) is
      ∙ ap (slice_get (laid p.declarations).members) (h.numbered ∙ (let e : 0 + h.further ≡ h.further = omega arith in e)) ∙ h.entry

  member_is : (class : Class) (m : Member) (h : MemberPlaced (laid p.declarations).code p.declarations (laid p.declarations).members 0 class m)
      → StatementsFit (member_env p.declarations class m) (stmts_from m.body.statements) → IsMemberCode S (member_env p.declarations class m) m (member_entry h.place m)
  member_is class m h fits = record { body = body_at (member_env p.declarations class m) (stmts_from m.body.statements) h.place h.code fits; finish = refl }

  regular_same : (class : Class) (m : Member) → class.is_regular ≡ true → member_env p.declarations class m ≡ regular_env p.declarations m
  regular_same class m regular =
      ap (λ (b : Bool). env_of m (if b then [] else class.members) (if b then [] else parts_of p.declarations class.state)) regular where
        env_of : Member → List Member → List layout.Part → Env
        env_of m members parts = record { declarations = p.declarations; members = members; parts = parts; scope = map formal_shape m.formals }

  regular_is : (name member : List ℕ) (class : Class) (m : Member) → class_named name (classes_of p.declarations) ≡ Some class → class.is_regular ≡ true
      → member_named member class.members ≡ Some m → MemberAt S (regular_env p.declarations m) m
  regular_is name member class m e regular found =
      let h = placed class m (class_among name (classes_of p.declarations) class m e (named_among member class.members m found)) in
      let same = regular_same class m regular in
      record {
        code = member_entry h.place m;
        stands = stands_at class m h;
        is = subst (λ (env : Env). IsMemberCode S env m (member_entry h.place m)) same
            (member_is class m h (subst (λ (env : Env). StatementsFit env (stmts_from m.body.statements)) (sym same) (regular_fits p.declarations (well_program p typed) name member class m e regular found)));
      }

  pub has_code : HasCode S p.declarations
  has_code = record { function = function_is; regular = regular_is }

  pub numbered_is : (id : MemberId) (class : Class) (m : Member) → member_of_id p.declarations id ≡ Some (class, m)
      → (place : ℕ) × (slice_get S.image.members m.id ≡ Some (member_entry place m)) × IsMemberCode S (member_env p.declarations class m) m (member_entry place m)
  numbered_is id class m found =
      let h = placed class m (id_among id.0 (classes_of p.declarations) class m found) in
      (h.place, stands_at class m h, member_is class m h (numbered_fits p.declarations (well_program p typed) id (class, m) found))
