-- Marks that cover what is loose on the ways ahead.
use Rattle.std.proofs.Common.{◌≡◌, ℕ, Bool, true, [], ◌∷◌, ◌++◌, refl, ap, ◌∙◌}
use Rattle.mpl_mean.specs.Pending.Looseness.{Forces, Loose, Path, behind_event, behind_path}
use Rattle.mpl_mean.specs.Pending.Paths.{Ways, Then, Either, Loop, Through, UpTo, in_first, in_second, in_one, in_other, in_test, in_body, in_next_round}

pub behind_both : (p q : Path) (loose : Loose) → behind_path (p ++ q) loose ≡ behind_path q (behind_path p loose)
behind_both [] q loose = refl
behind_both (event ∷ p) q loose = behind_both p q (behind_event event loose)

-- each use ahead whose variable is loose there is marked
pub record Covers (marks : ℕ → Bool) (ways : Ways) (loose : Loose) : Type 0 where
  pub marked : (node variable : ℕ) (path : Path) → UpTo (Forces node variable) ways path → behind_path path loose variable ≡ true → marks node ≡ true

pub covers_first : {marks : ℕ → Bool} {first second : Ways} {loose : Loose} → Covers marks (Then first second) loose → Covers marks first loose
covers_first c = record { marked = λ node variable path upto e. c.marked node variable path (in_first upto) e }

pub covers_second : {marks : ℕ → Bool} {first second : Ways} {loose : Loose} → Covers marks (Then first second) loose → (p : Path) → Through first p → Covers marks second (behind_path p loose)
covers_second {loose = loose} c p through =
    record { marked = λ node variable path upto e. c.marked node variable (p ++ path) (in_second through upto) (ap (λ (l : Loose). l variable) (behind_both p path loose) ∙ e) }

pub covers_one : {marks : ℕ → Bool} {one other : Ways} {loose : Loose} → Covers marks (Either one other) loose → Covers marks one loose
covers_one c = record { marked = λ node variable path upto e. c.marked node variable path (in_one upto) e }

pub covers_other : {marks : ℕ → Bool} {one other : Ways} {loose : Loose} → Covers marks (Either one other) loose → Covers marks other loose
covers_other c = record { marked = λ node variable path upto e. c.marked node variable path (in_other upto) e }

pub covers_test : {marks : ℕ → Bool} {test body : Ways} {loose : Loose} → Covers marks (Loop test body) loose → Covers marks test loose
covers_test c = record { marked = λ node variable path upto e. c.marked node variable path (in_test upto) e }

pub covers_body : {marks : ℕ → Bool} {test body : Ways} {loose : Loose} → Covers marks (Loop test body) loose → (p : Path) → Through test p → Covers marks body (behind_path p loose)
covers_body {loose = loose} c p through =
    record { marked = λ node variable path upto e. c.marked node variable (p ++ path) (in_body through upto) (ap (λ (l : Loose). l variable) (behind_both p path loose) ∙ e) }

pub covers_round : {marks : ℕ → Bool} {test body : Ways} {loose : Loose} → Covers marks (Loop test body) loose → (p q : Path) → Through test p → Through body q
    → Covers marks (Loop test body) (behind_path q (behind_path p loose))
covers_round {loose = loose} c p q through round = record {
  marked = λ node variable path upto e.
      c.marked node variable (p ++ (q ++ path)) (in_next_round through round upto)
      (ap (λ (l : Loose). l variable) (behind_both p (q ++ path) loose ∙ behind_both q path (behind_path p loose)) ∙ e);
}
