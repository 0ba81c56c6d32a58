-- Locals: what is declared in the scope is what is declared in the store.
use Rattle.std.proofs.Common.{◌≡◌, ℕ, Bool, true, false, ◌||◌, List, [], ◌∷◌, ◌++◌, map, Option, Some, None, if◌then◌else◌, pos, refl, sym, ap, subst, ◌∙◌, true≢false}
use Rattle.std.proofs.lemmas.List.{length-replicate}
use Rattle.std.proofs.lemmas.List.Folds.{list_any-append}
use Rattle.std.specs.List.{list_any}
use Rattle.std.specs.Prelude.{flat_map, is_some}
use Rattle.std.specs.Str.{bytes_eq}
use Rattle.mpl_ast.specs.declared.program.Declaration.{Declaration}
use Rattle.mpl_ast.specs.declared.statement.Declarator.{Declarator}
use Rattle.mpl_ast.specs.declared.statement.Declarator.TheVariants.{Plain, Initialized}
use Rattle.mpl_ast.specs.declared.statement.Dimension.{Dimension}
use Rattle.mpl_ast.specs.declared.statement.TypeName.{TypeName}
use Rattle.mpl_mean.specs.Plain.Stmt.{NewLocal, new_local}
use Rattle.mpl_mean.specs.TypeRules.ExpressionRules.{is_no_regular, is_one_value}
use Rattle.mpl_mean.specs.Meaning.Layout.{dimension_of, part_named, words_of}
use Rattle.mpl_mean.specs.TypeRules.NameRules.{is_meant}
use Rattle.mpl_mean.specs.TypeRules.Nodes.{Located, expr_nodes}
use Rattle.mpl_mean.specs.Plain.Expr.{expr_of_flow}
use Rattle.mpl_mean.specs.TypeRules.Scopes.{locals_beside, state_members, variable_of, with_last}
use Rattle.mpl_mean.specs.TypeRules.SizeRules.{is_element, is_size}
use Rattle.mpl_mean.specs.Meaning.Layout as layout
use Rattle.mpl_mean.specs.Meaning.StatementMeaning.{declares}
use Rattle.mpl_mean.specs.TypeRules.StatementNodes.{declared_local, dimension_nodes, local_walk, locals_walk}
use Rattle.mpl_mean.specs.Meaning.Store.{Variable, in_turn, variable_named}
use Rattle.mpl_mean.specs.TypeRules.Types.{AClass, ABool, AnInt, AStruct, AsLocal, Declared, Meant, Nothing, AnArray, ARegular, OneValue, Shape, agree, first_named, meant, names, shape_of, shape_of_meant}
use Rattle.mpl_mean.specs.TypeRules.Typing.{type_of, type_of_whole}
use Rattle.mpl_mean.proofs.Sizes.SizedArguments.{ArgHas}
use Rattle.mpl_mean.proofs.Sizes.SizedAssignments.{agree_arg}
use Rattle.mpl_mean.proofs.Sizes.SizedClasses.{bytes_itself, bytes_same}
use Rattle.mpl_mean.proofs.Sizes.SizedFlows.{flow_keeps}
use Rattle.mpl_mean.proofs.Sizes.SizedRules.{AllRight, IsElement, Right, WellDeclared, every_left, every_right}
use Rattle.mpl_mean.proofs.Sizes.SizedScopes.{Moves, declare_moves, keeps_then_moves, so_moves, still_moves, then_moves}
use Rattle.mpl_mean.proofs.Sizes.SizedSettings.{Matches, PlaceFits, Setting, Sound, environment, inside}
use Rattle.mpl_mean.proofs.Sizes.SizedSteps.{Frame, from_premise, give_keeps}
use Rattle.mpl_mean.proofs.Sizes.SizedTypes.{array_of_shape}
use Rattle.mpl_mean.proofs.Sizes.SizedTyping.{whole_size}
use Rattle.mpl_mean.proofs.Truth.{both_true, not_true}

-- ---- a new name in a scope

first_new : (name : List ℕ) (d : Declared) (block others formals state : List Declared) → list_any (bytes_eq d.name) (names block) ≡ false
    → first_named name ((((block ++ d ∷ []) ++ others) ++ formals) ++ state) ≡ (if bytes_eq d.name name then Some d else first_named name (((block ++ others) ++ formals) ++ state))
first_new name d [] others formals state h = refl
first_new name d (c ∷ block) others formals state h =
    chosen (bytes_eq c.name name) (bytes_eq d.name name) refl refl (first_new name d block others formals state (or_false (bytes_eq d.name c.name) _ h).1) where
      or_false : (a b : Bool) → (a || b) ≡ false → (a ≡ false) × (b ≡ false)
      or_false true b e = absurd cc
      or_false false b e = (refl, e)

      clash : bytes_eq c.name name ≡ true → bytes_eq d.name name ≡ true → ⊥
      clash i j =
          let e : bytes_eq d.name c.name ≡ true = subst (λ w. bytes_eq d.name w ≡ true) (bytes_same d.name name j ∙ sym (bytes_same c.name name i)) (bytes_itself d.name) in
          true≢false (sym e ∙ (or_false (bytes_eq d.name c.name) _ h).0)

      chosen : (a b : Bool) → bytes_eq c.name name ≡ a → bytes_eq d.name name ≡ b
          → first_named name ((((block ++ d ∷ []) ++ others) ++ formals) ++ state) ≡ (if bytes_eq d.name name then Some d else first_named name (((block ++ others) ++ formals) ++ state))
          → (if a then Some c else first_named name ((((block ++ d ∷ []) ++ others) ++ formals) ++ state))
          ≡ (if b then Some d else (if a then Some c else first_named name (((block ++ others) ++ formals) ++ state)))
      chosen true true i j k = absurd (clash i j)
      chosen true false i j k = refl
      chosen false b i j k = k ∙ ap (λ b. if b then Some d else first_named name (((block ++ others) ++ formals) ++ state)) j

-- a variable in the store for what is declared
abbrev pub Variables : Declared → Variable → Type 0
Variables d v = (v.name ≡ d.name) × (v.type ≡ d.type) × (v.dimension ≡ dimension_of d.dimension)

place_more : (ds : List Declaration) (total : ℕ) (name : List ℕ) (d : Declared) (v : Variable) (o : Option Declared) (u : Option Variable) (part : Option layout.Part) → Variables d v → WellDeclared ds d
    → PlaceFits ds total o u part → PlaceFits ds total (if bytes_eq d.name name then Some d else o) (if bytes_eq v.name name then Some v else u) part
place_more ds total name d v o u part h w p =
    subst (λ b. PlaceFits ds total (if bytes_eq d.name name then Some d else o) (if b then Some v else u) part) (ap (λ n. bytes_eq n name) (sym h.0)) (chosen (bytes_eq d.name name)) where
      chosen : (b : Bool) → PlaceFits ds total (if b then Some d else o) (if b then Some v else u) part
      chosen true = (h.1, h.2, w)
      chosen false = p

-- a local behind its declarator
pub matches_more : (G : Frame) (S : Setting) (blocks : List (List Declared)) (vs : List Variable) (d : Declared) (v : Variable) → Variables d v → WellDeclared G.declarations d
    → list_any (bytes_eq d.name) (locals_beside blocks S.formals) ≡ false → Matches G S blocks vs → Matches G S (with_last d blocks) (v ∷ vs)
matches_more G S [] vs d v h w n m = λ name.
    place_more G.declarations G.state_words name d v (variable_of (environment G S []) name) (variable_named name vs) (part_named name S.context.state) h w (m name)
matches_more G S (block ∷ []) vs d v h w n m = λ name.
    let new = left_false (list_any (bytes_eq d.name) (names block)) (list_any (bytes_eq d.name) (names S.formals)) (sym (list_any-append (bytes_eq d.name) (names block) (names S.formals)) ∙ n) in
    subst (λ o. PlaceFits G.declarations G.state_words o (variable_named name (v ∷ vs)) (part_named name S.context.state))
    (sym (first_new name d block [] S.formals (state_members S.class) new))
    (place_more G.declarations G.state_words name d v (variable_of (environment G S (block ∷ [])) name) (variable_named name vs) (part_named name S.context.state) h w (m name)) where
      left_false : (a b : Bool) → (a || b) ≡ false → a ≡ false
      left_false true b e = e
      left_false false b e = refl
matches_more G S (block ∷ outer ∷ others) vs d v h w n m = λ name.
    subst (λ o. PlaceFits G.declarations G.state_words o (variable_named name (v ∷ vs)) (part_named name S.context.state))
    (sym (first_new name d block (flat_map (λ block. block) (outer ∷ others)) S.formals (state_members S.class) n))
    (place_more G.declarations G.state_words name d v (variable_of (environment G S (block ∷ outer ∷ others)) name) (variable_named name vs) (part_named name S.context.state) h w (m name))

-- ---- what is declared

pub local_shape : (dimension : Option Dimension) (m : Meant) → is_meant m ≡ true → is_some (shape_of_meant AsLocal dimension m) ≡ true
local_shape dimension AnInt h = refl
local_shape dimension ABool h = refl
local_shape dimension (AStruct n fields) h = refl
local_shape dimension (AClass n true items) h = refl
local_shape dimension (AClass n false items) h = refl
local_shape dimension Nothing h = absurd cc

one_of : (ds : List Declaration) (name : List ℕ) (t : TypeName) (s : Option Shape) → shape_of_meant AsLocal None (meant ds t) ≡ s → is_no_regular s ≡ true → is_one_value s ≡ true
one_of ds name t None e h = refl
one_of ds name t (Some (OneValue v)) e h = refl
one_of ds name t (Some (AnArray v)) e h = absurd (let d = (array_of_shape AsLocal None (meant ds t) v e).0.1 in cc)
one_of ds name t (Some (ARegular items)) e h = absurd cc

pub dimension_element : (G : Frame) (S : Setting) (blocks : List (List Declared)) (t : TypeName) (dimension : Option Dimension) → AllRight (dimension_nodes (environment G S blocks) t dimension) → IsElement dimension t
dimension_element G S blocks t None r = tt
dimension_element G S blocks t (Some dimension) r = (both_true (is_size (layout.natural dimension.number.value)) (is_element t) r.0.dimension).1

-- the blocks behind some locals
abbrev pub blocks_behind : TypeName → List NewLocal → List (List Declared) → List (List Declared)
blocks_behind type [] blocks = blocks
blocks_behind type (new ∷ others) blocks = blocks_behind type others (with_last (declared_local type new) blocks)

module _ (G : Frame) (S : Setting) (s : Sound G S) (type : TypeName) where
  abbrev Known : Type 0
  Known = is_meant (meant G.declarations type) ≡ true

  abbrev LocalsReady : List (List Declared) → List Variable → List NewLocal → Type 0
  LocalsReady blocks vs news = Matches G S blocks vs × AllRight (locals_walk type news (environment G S blocks)).nodes × Known

  -- the nodes of the first local
  abbrev first_nodes : List (List Declared) → NewLocal → List Located
  first_nodes blocks new = (local_walk type new (environment G S blocks)).nodes

  one_moves : (blocks : List (List Declared)) (vs : List Variable) (d : Declarator) → Moves G vs (Matches G S blocks vs × AllRight (first_nodes blocks (new_local d)) × Known)
      (Matches G S (with_last (declared_local type (new_local d)) blocks)) (declares (inside G S) type d)
  one_moves blocks vs (Plain at variable dimension) =
      declare_moves (Matches G S (with_last (declared_local type (new_local (Plain at variable dimension))) blocks)) _ (λ p. length-replicate (words_of G.declarations type (dimension_of dimension)) (pos 0))
      (λ p.
      let h = environment G S blocks in
      let right = p.1 in
      matches_more G S blocks vs (declared_local type (new_local (Plain at variable dimension))) _ (refl, refl, refl)
      (local_shape dimension (meant G.declarations type) p.2, dimension_element G S blocks type dimension (every_left Right (dimension_nodes h type dimension) _ right.1))
      (not_true _ right.0.new) p.0)
  one_moves blocks vs (Initialized at variable value) =
      let h = environment G S blocks in
      let d = declared_local type (new_local (Initialized at variable value)) in
      keeps_then_moves (ArgHas G.MayWait G.declarations (type_of h (expr_of_flow value))) (Matches G S (with_last d blocks))
      (from_premise G vs (λ p. (p.0, every_left Right (expr_nodes h (expr_of_flow value)) [] (p.1).1.1)) (flow_keeps G S s blocks vs value))
      (λ a.
      declare_moves (Matches G S (with_last d blocks)) _
      (λ p.
      let two = both_true (is_no_regular (shape_of G.declarations (Some d))) (agree (type_of_whole (shape_of G.declarations (Some d))) (type_of h (expr_of_flow value))) (p.0.1).1.0.right_side in
      agree_arg G.MayWait G.declarations (type_of_whole (shape_of G.declarations (Some d))) (type_of h (expr_of_flow value)) (words_of G.declarations type None) a
      (whole_size s.well d (words_of G.declarations type None) (shape_of G.declarations (Some d)) refl (local_shape None (meant G.declarations type) p.0.2)
      (one_of G.declarations variable.text type (shape_of G.declarations (Some d)) refl two.0) refl) two.1 p.1)
      (λ p. matches_more G S blocks vs d _ (refl, refl, refl) (local_shape None (meant G.declarations type) p.0.2, tt) (not_true _ (p.0.1).0.new) p.0.0))

  all_split : (blocks : List (List Declared)) (d : Declarator) (ds : List Declarator) → AllRight (locals_walk type (map new_local (d ∷ ds)) (environment G S blocks)).nodes
      → AllRight (first_nodes blocks (new_local d)) × AllRight (locals_walk type (map new_local ds) (environment G S (with_last (declared_local type (new_local d)) blocks))).nodes
  all_split blocks (Plain at variable dimension) ds r =
      (every_left Right (first_nodes blocks (new_local (Plain at variable dimension))) _ r, every_right Right (first_nodes blocks (new_local (Plain at variable dimension))) _ r)
  all_split blocks (Initialized at variable value) ds r =
      (every_left Right (first_nodes blocks (new_local (Initialized at variable value))) _ r, every_right Right (first_nodes blocks (new_local (Initialized at variable value))) _ r)

  pub locals_move : (blocks : List (List Declared)) (vs : List Variable) (ds : List Declarator) → Moves G vs (LocalsReady blocks vs (map new_local ds))
      (Matches G S (blocks_behind type (map new_local ds) blocks)) (in_turn (map (declares (inside G S) type) ds))
  locals_move blocks vs [] = still_moves (Matches G S blocks) (λ p. p.0) (give_keeps G vs {V = λ _. Unit {0}} tt (λ p. tt))
  locals_move blocks vs (d ∷ ds) =
      let h = environment G S blocks in
      let first = with_last (declared_local type (new_local d)) blocks in
      let others = locals_walk type (map new_local ds) (environment G S first) in
      then_moves (λ ws. Matches G S first ws × AllRight others.nodes × Known) (Matches G S (blocks_behind type (map new_local ds) first)) {f = declares (inside G S) type d} {g = in_turn (map (declares (inside G S) type) ds)}
      (so_moves (Matches G S first) (λ ws. Matches G S first ws × AllRight others.nodes × Known) (λ p. (p.0, (all_split blocks d ds p.1).0, p.2))
      (λ ws p m. (m, (all_split blocks d ds p.1).1, p.2)) (one_moves blocks vs d))
      (λ ws. so_moves (Matches G S (blocks_behind type (map new_local ds) first)) (Matches G S (blocks_behind type (map new_local ds) first)) (λ p. p.1) (λ vs p m. m) (locals_move first ws ds))
