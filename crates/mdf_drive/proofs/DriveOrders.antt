-- In a program without persistent objects no call arrives and no object accepts, so what is left of the drive list are the
-- due tokens and the actors that can go on.
use Rattle.std.proofs.Common.{◌≡◌, ◌+◌, ◌-◌, ◌<◌, ◌≤◌, ℕ, zero, suc, nat_lt, ltb-true, ltb-false, Bool, true, false, cond, List, [], ◌∷◌, ◌++◌, map, length, slice_get, Option, Some, None, ℤ, refl, sym, ap, ap₂, ◌∙◌, subst, arith}
use Rattle.std.specs.Prelude.{is_some, reverse}
use Rattle.std.specs.List.{filter_map, items_where_true, range_with_len}
use Rattle.std.specs.Option.{option_map}
use Rattle.std.proofs.lemmas.List.{length-append, length-map}
use Rattle.mpl_value.specs.declared.known.Known.{Known}
use Rattle.mdf_actor.specs.declared.status.ActorStatus.{ActorStatus}
use Rattle.mdf_actor.specs.declared.status.ActorStatus.TheVariants as status
use Rattle.mdf_core.specs.declared.item.Item.{Item}
use Rattle.mdf_core.specs.declared.item.Item.TheVariants as item
use Rattle.mdf_core.specs.declared.status.MachineStatus.TheVariants.{Going}
use Rattle.mdf_core.specs.Actors.{Actor, is_post}
use Rattle.mdf_core.specs.Choices.{best_of, idle_pick, pick, pick_of, unless_busy}
use Rattle.mdf_core.specs.DriveList.{accept_items, accepting, actor_items, arrive_items, arriving, due_items, going_items, going_on, items, items_at, resuming, serials}
use Rattle.mdf_core.specs.Enabled.{IsLog}
use Rattle.mdf_core.specs.Mail.{MailIs}
use Rattle.mdf_core.specs.Stages.{AsItsStatus, HasArguments}
use Rattle.mdf_core.specs.Steps.{Log, after}
use Rattle.mdf_core.specs.Worlds.{Job, Object, World, is_in, known_at}
use Rattle.mdf_core.proofs.Mailboxes.{mail_is}
use Rattle.mdf_core.proofs.Lists.{nat_same}
use Rattle.mdf_core.proofs.Staging.{as_statuses_say}
use Rattle.mdf_core.proofs.ToldSo.{so}
use Rattle.mdf_core.proofs.TreeOfActors.{tree}
use Rattle.mdf_drive.specs.DriveOrder.{MarksWhoGoes, goes_on, item_at, marked, next_in, next_items, next_of}
use Rattle.mdf_drive.specs.Plain.{IsPlain}
use Rattle.mdf_drive.proofs.Plainness.{all_plain, main_call_is}

-- ---- nothing on objects

pub plain_calls : (job : Job) (log : Log) → IsPlain job → IsLog job log → (c : ℕ) → c < (after job log).count → is_post ((after job log).actors c).call ≡ false
plain_calls job log plain h = all_plain job (after job log) plain (tree job log h) (as_statuses_say job log h) (so job log h) (main_call_is job log h)

none_of : {A B : Type 0} (f : A → Option B) (xs : List A) → ((x : A) → f x ≡ None) → filter_map f xs ≡ []
none_of f [] none = refl
none_of f (x ∷ xs) none = rw (none x) (none_of f xs none)

none_in_range : {B : Type 0} (f : ℕ → Option B) (from n : ℕ) → ((a : ℕ) → from ≤ a → a < from + n → f a ≡ None) → filter_map f (range_with_len from n) ≡ []
none_in_range f from zero none = refl
none_in_range f from (suc n) none =
    rw (none from (omega arith) (omega arith)) (none_in_range f (from + 1) n (λ a low high. none a (omega (arith, low)) (omega (arith, high))))

module _ (job : Job) (log : Log) (plain : IsPlain job) (h : IsLog job log) where
  abbrev here : World
  here = after job log

  waits_for_none : (a : ℕ) → a < here.count → (s : ActorStatus) → HasArguments job (here.actors a) s → arriving here a s ≡ None
  waits_for_none a there (status.Waiting zero) args = let never : true ≡ false = sym args.0 ∙ plain_calls job log plain h a there in absurd (cc)
  waits_for_none a there (status.Waiting (suc missing)) args = refl
  waits_for_none a there status.Ready args = refl
  waits_for_none a there status.Running args = refl
  waits_for_none a there (status.Parked child) args = refl
  waits_for_none a there status.Ended args = refl
  waits_for_none a there status.Poisoned args = refl

  nothing_arrives : arrive_items here ≡ []
  nothing_arrives = none_in_range (λ a. arriving here a (here.actors a).status) 0 here.count (λ a low high. waits_for_none a (omega (arith, high)) (here.actors a).status (as_statuses_say job log h a).arguments)

  none_arrived : (cs : List ℕ) → here.arrived ≡ cs → cs ≡ []
  none_arrived [] is = refl
  none_arrived (c ∷ cs) is =
      let m = mail_is job log h in
      let in_it : is_in c here.arrived ≡ true = ap (is_in c) is ∙ ap (λ b. cond b true (is_in c cs)) (nat_same c) in
      let never : true ≡ false = sym (m.posts c in_it) ∙ plain_calls job log plain h c (m.there c in_it) in absurd (cc)

  no_pick : (o : ℤ) (object : Object) → pick job here o object ≡ None
  no_pick o object = ap (λ cs. option_map (λ c. c.actor) (best_of job here o object cs)) (none_arrived here.arrived refl)

  nothing_accepted_of : (o : ℤ) (object : Option Object) → idle_pick job here o object ≡ None
  nothing_accepted_of o None = refl
  nothing_accepted_of o (Some object) = ap (unless_busy object.busy) (no_pick o object) ∙ at object.busy where
    at : (busy : Option ℕ) → unless_busy busy None ≡ None
    at None = refl
    at (Some actor) = refl

  nothing_is_accepted : accept_items job here ≡ []
  nothing_is_accepted = none_of (λ o. accepting o (pick_of job here o)) (reverse here.created) (λ o. ap (accepting o) (nothing_accepted_of o (here.objects o)))

-- ---- the actors that can go on

as_marked : (w : World) (a : ℕ) (s : ActorStatus) → going_on w a s ≡ cond (goes_on w s) (Some (next_of a s)) None
as_marked w a (status.Waiting missing) = refl
as_marked w a status.Ready = refl
as_marked w a status.Running = refl
as_marked w a (status.Parked child) = at (known_at w (Some child)) where
  at : (o : Option Known) → resuming a o ≡ cond (is_some o) (Some (item.Resume a)) None
  at None = refl
  at (Some known) = refl
as_marked w a status.Ended = refl
as_marked w a status.Poisoned = refl

one_more : (w : World) (a : ℕ) (others : List ℕ) (b : Bool) (marks : List Bool) → filter_map (λ a. going_on w a (w.actors a).status) others ≡ map (next_in w) (items_where_true marks others)
    → going_on w a (w.actors a).status ≡ cond b (Some (next_in w a)) None
    → filter_map (λ a. going_on w a (w.actors a).status) (a ∷ others) ≡ map (next_in w) (items_where_true (b ∷ marks) (a ∷ others))
one_more w a others true marks rest is = rw (is) (ap (λ is. next_in w a ∷ is) rest)
one_more w a others false marks rest is = rw (is) (rest)

going_from : (w : World) (n from : ℕ) (marks : List Bool) → length marks ≡ n
    → ((k a : ℕ) → k < n → a ≡ from + k → slice_get marks k ≡ Some (goes_on w (w.actors a).status))
    → filter_map (λ a. going_on w a (w.actors a).status) (range_with_len from n) ≡ map (next_in w) (items_where_true marks (range_with_len from n))
going_from w zero from [] many each = refl
going_from w zero from (b ∷ marks) many each = absurd (omega (arith, many))
going_from w (suc n) from [] many each = absurd (omega (arith, many))
going_from w (suc n) from (b ∷ marks) many each =
    one_more w from (range_with_len (from + 1) n) b marks
    (going_from w n (from + 1) marks (omega (arith, many)) (λ k a below is. each (suc k) a (omega (arith, below)) (omega (arith, is))))
    (as_marked w from (w.actors from).status ∙ ap (λ b. cond b (Some (next_in w from)) None) (sym (some_is b _ (each 0 from (omega arith) (omega arith))))) where
      some_is : (a b : Bool) → Some a ≡ Some b → a ≡ b
      some_is a b e = cc e

going_as_marked : (w : World) (marks : List Bool) → MarksWhoGoes w marks → actor_items w ≡ next_items w marks
going_as_marked w marks m =
    ap (λ n. filter_map (λ a. going_on w a (w.actors a).status) (range_with_len 0 n)) (sym m.many)
    ∙ going_from w (length marks) 0 marks refl (λ k a below is. ap (slice_get marks) (omega (arith, is)) ∙ m.each a (omega (arith, below, is, m.many)))

-- ---- the list

pub items_are : (job : Job) (log : Log) (marks : List Bool) → IsPlain job → IsLog job log → (after job log).why ≡ Going → MarksWhoGoes (after job log) marks
    → items job (after job log) ≡ due_items (after job log) ++ next_items (after job log) marks
items_are job log marks plain h going m =
    let w = after job log in
    ap (λ why. items_at why job w) going
    ∙ ap (λ is. due_items w ++ (is ++ (accept_items job w ++ actor_items w))) (nothing_arrives job log plain h)
    ∙ ap (λ is. due_items w ++ (is ++ actor_items w)) (nothing_is_accepted job log plain h)
    ∙ ap (λ is. due_items w ++ is) (going_as_marked w marks m)

length_range : (from n : ℕ) → length (range_with_len from n) ≡ n
length_range from zero = refl
length_range from (suc n) = let rest = length_range (from + 1) n in omega (arith, rest)

pub so_many_items : (job : Job) (log : Log) (marks : List Bool) → IsPlain job → IsLog job log → (after job log).why ≡ Going → MarksWhoGoes (after job log) marks
    → length (items job (after job log)) ≡ length (after job log).due + length (marked marks)
so_many_items job log marks plain h going m =
    let w = after job log in
    ap length (items_are job log marks plain h going m)
    ∙ length-append (due_items w) (next_items w marks)
    ∙ ap₂ (λ a b. a + b) (length-map (range_with_len 0 (length w.due)) item.Match ∙ length_range 0 (length w.due)) (length-map (marked marks) (next_in w))

-- a place among the tokens, and one behind them
token_at : (n from place : ℕ) (others : List Item) → place < n → slice_get (map item.Match (range_with_len from n) ++ others) place ≡ Some (item.Match (from + place))
token_at zero from place others below = absurd (omega (arith, below))
token_at (suc n) from zero others below = ap (λ p. Some (item.Match p)) (omega arith)
token_at (suc n) from (suc place) others below = token_at n (from + 1) place others (omega (arith, below)) ∙ ap (λ p. Some (item.Match p)) (omega arith)

behind_tokens : (n from place : ℕ) (others : List Item) → n ≤ place → slice_get (map item.Match (range_with_len from n) ++ others) place ≡ slice_get others (place - n)
behind_tokens zero from place others past = ap (slice_get others) (omega arith)
behind_tokens (suc n) from zero others past = absurd (omega (arith, past))
behind_tokens (suc n) from (suc place) others past = behind_tokens n (from + 1) place others (omega (arith, past)) ∙ ap (slice_get others) (omega arith)

get_map : {A B : Type 0} (f : A → B) (xs : List A) (place : ℕ) → slice_get (map f xs) place ≡ option_map f (slice_get xs place)
get_map f [] place = refl
get_map f (x ∷ xs) zero = refl
get_map f (x ∷ xs) (suc place) = get_map f xs place

pub item_is : (job : Job) (log : Log) (marks : List Bool) → IsPlain job → IsLog job log → (after job log).why ≡ Going → MarksWhoGoes (after job log) marks
    → (place : ℕ) → slice_get (items job (after job log)) place ≡ item_at (after job log) marks place
item_is job log marks plain h going m place =
    ap (λ is. slice_get is place) (items_are job log marks plain h going m) ∙ by_test (nat_lt place (length (after job log).due)) refl where
      by_test : (b : Bool) → nat_lt place (length (after job log).due) ≡ b
          → slice_get (due_items (after job log) ++ next_items (after job log) marks) place ≡ cond b (Some (item.Match place)) (option_map (next_in (after job log)) (slice_get (marked marks) (place - length (after job log).due)))
      by_test true is = token_at (length (after job log).due) 0 place (next_items (after job log) marks) (ltb-true place (length (after job log).due) is) ∙ ap (λ p. Some (item.Match p)) (omega arith)
      by_test false is = behind_tokens (length (after job log).due) 0 place (next_items (after job log) marks) (ltb-false place (length (after job log).due) is)
          ∙ get_map (next_in (after job log)) (marked marks) (place - length (after job log).due)
