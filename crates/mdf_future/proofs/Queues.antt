-- What is due follows from the calls: an actor's result is known where it was settled, and else has the consumers that
-- were added to it.
use Rattle.std.proofs.Common.{◌≡◌, ℕ, Bool, true, false, List, [], ◌∷◌, ◌++◌, refl, ap, ap₂, sym, subst, ◌∙◌}
use Rattle.std.specs.Prelude.{Option, Some, None, IsSome, ◌||◌, if◌then◌else◌, remove}
use Rattle.std.specs.Option.{option_map_or}
use Rattle.std.specs.Ordering.{nat_cmp}
use Rattle.std.specs.FinMap.{FinMap, get, insert, get-empty}
use Rattle.std.proofs.lemmas.Bool.{cases_eq, ne_eqb, eq-eqb}
use Rattle.std.proofs.Math.Logic.{⊎_elim}
use Rattle.mpl_value.specs.declared.known.Known.{Known}
use Rattle.mdf_future.specs.declared.consumer.Consumer.{Consumer}
use Rattle.mdf_future.specs.declared.future.Fate.{Fate}
use Rattle.mdf_future.specs.declared.future.Fate.TheVariants as fate
use Rattle.mdf_future.specs.declared.future.Future.{Future}
use Rattle.mdf_future.specs.declared.future.Give.{Give}
use Rattle.mdf_future.specs.declared.future.Give.TheVariants as give
use Rattle.mdf_future.specs.Consumers.{deliveries}
use Rattle.mdf_future.specs.Results.{ResultTable, is_known, may_become, consumers_of, waited_at, given}
use Rattle.mdf_future.proofs.Inserted.{inserted}
use Rattle.mdf_future.specs.Calls.{Call, Opens, Waits, Gives, Takes, after, AreAllowed, was_settled, added_to, queue}

-- what the results have of an actor, by the calls
abbrev Told : List Call → ℕ → Option Future → Type 0
Told calls q None = (added_to q calls ≡ []) × (was_settled q calls ≡ false)
Told calls q (Some f) = (is_known f.fate ≡ was_settled q calls) × (was_settled q calls ≡ false → f.consumers ≡ added_to q calls)

-- a consumer of another result, and another result that becomes known, change nothing
not_added : (on q : ℕ) (c : Consumer) (before : List Call) (o : Option Future) → (q ≡ on → ⊥) → Told before q o → Told (Waits on c ∷ before) q o
not_added on q c before None other told =
    (ap (λ b. if b then added_to q before ++ c ∷ [] else added_to q before) (ne_eqb on q (λ e. other (sym e))) ∙ told.0, told.1)
not_added on q c before (Some f) other told =
    (told.0, λ unsettled. told.1 unsettled ∙ sym (ap (λ b. if b then added_to q before ++ c ∷ [] else added_to q before) (ne_eqb on q (λ e. other (sym e)))))

not_settled : (a q : ℕ) (known : Known) (before : List Call) (o : Option Future) → (q ≡ a → ⊥) → Told before q o → Told (Gives a (give.Known known) ∷ before) q o
not_settled a q known before None other told =
    (told.0, ap (λ b. b || was_settled q before) (ne_eqb a q (λ e. other (sym e))) ∙ told.1)
not_settled a q known before (Some f) other told =
    let others : was_settled q (Gives a (give.Known known) ∷ before) ≡ was_settled q before = ap (λ b. b || was_settled q before) (ne_eqb a q (λ e. other (sym e))) in
    (told.0 ∙ sym others, λ unsettled. told.1 (sym others ∙ unsettled))

-- a consumer of a result that is known
told_known : (on q : ℕ) (c : Consumer) (before : List Call) (m : FinMap nat_cmp Future) (f : Future) → get m on ≡ Some f → is_known f.fate ≡ true
    → ((q : ℕ) → Told before q (get m q)) → Told (Waits on c ∷ before) q (get m q)
told_known on q c before m f here known told = ⊎_elim same (λ other. not_added on q c before (get m q) other (told q)) (cases_eq q on) where
  same : q ≡ on → Told (Waits on c ∷ before) q (get m q)
  same e =
      let at : get m q ≡ Some f = ap (get m) e ∙ here in
      let knew = subst (Told before q) at (told q) in
      subst (Told (Waits on c ∷ before) q) (sym at) (knew.0, λ unsettled. let never : true ≡ false = sym known ∙ knew.0 ∙ unsettled in absurd (cc))

-- a consumer of a result that isn't known
told_unknown : (on q : ℕ) (c : Consumer) (before : List Call) (m : FinMap nat_cmp Future) (f : Future) → get m on ≡ Some f
    → ((q : ℕ) → Told before q (get m q)) → Told (Waits on c ∷ before) q (get (insert m on (record f { consumers = f.consumers ++ c ∷ [] })) q)
told_unknown on q c before m f here told =
    inserted (Told (Waits on c ∷ before) q) m on q (record f { consumers = f.consumers ++ c ∷ [] }) same (λ other. not_added on q c before (get m q) other (told q)) where
      same : q ≡ on → Told (Waits on c ∷ before) q (Some (record f { consumers = f.consumers ++ c ∷ [] }))
      same e =
          let at : get m q ≡ Some f = ap (get m) e ∙ here in
          let knew = subst (Told before q) at (told q) in (
            knew.0,
            λ unsettled. ap (λ cs. cs ++ c ∷ []) (knew.1 unsettled)
                ∙ sym (ap (λ b. if b then added_to q before ++ c ∷ [] else added_to q before) (eq-eqb on q (sym e))),
          )

told_waited : (on q : ℕ) (c : Consumer) (before : List Call) (t : ResultTable) (o : Option Future) → get t.results on ≡ o → IsSome o
    → ((q : ℕ) → Told before q (get t.results q)) → Told (Waits on c ∷ before) q (get (waited_at t on c o).results q)
told_waited on q c before t None here there told = absurd (cc)
told_waited on q c before t (Some f) here there told = by_fate (is_known f.fate) refl where
  by_fate : (b : Bool) → is_known f.fate ≡ b → Told (Waits on c ∷ before) q
      (get (if b then record t { due = t.due ++ deliveries on (c ∷ []) } else record t { results = insert t.results on (record f { consumers = f.consumers ++ c ∷ [] }) }).results q)
  by_fate true known = told_known on q c before t.results f here known told
  by_fate false unknown = told_unknown on q c before t.results f here told

-- a result that may be given isn't known
still_unknown : (x : Fate) (g : Give) → may_become x g ≡ true → is_known x ≡ false
still_unknown fate.Open g may = refl
still_unknown (fate.Known _) g may = absurd (cc)
still_unknown (fate.Forwarded _) g may = refl

-- it is there, isn't settled, and has the consumers that were added to it
record IsOpen (before : List Call) (m : FinMap nat_cmp Future) (a : ℕ) : Type 0 where
  future : Future
  here : get m a ≡ Some future
  unsettled : was_settled a before ≡ false
  waiting : future.consumers ≡ added_to a before

may_be_given : (before : List Call) (m : FinMap nat_cmp Future) (a : ℕ) (g : Give) (o : Option Future) → get m a ≡ o
    → option_map_or (λ f. may_become f.fate g) o false ≡ true → Told before a o → IsOpen before m a
may_be_given before m a g None here may told = absurd (cc)
may_be_given before m a g (Some f) here may told =
    let unsettled : was_settled a before ≡ false = sym told.0 ∙ still_unknown f.fate g may in
    record { future = f; here = here; unsettled = unsettled; waiting = told.1 unsettled }

consumers_are : (before : List Call) (t : ResultTable) (a : ℕ) (open_one : IsOpen before t.results a) → consumers_of t a ≡ added_to a before
consumers_are before t a open_one = ap (λ o. option_map_or (λ f. f.consumers) o []) open_one.here ∙ open_one.waiting

told_given : (a q : ℕ) (g : Give) (before : List Call) (t : ResultTable) → IsOpen before t.results a
    → ((q : ℕ) → Told before q (get t.results q)) → Told (Gives a g ∷ before) q (get (given t a g).results q)
told_given a q (give.Known known) before t open_one told =
    inserted (Told (Gives a (give.Known known) ∷ before) q) t.results a q (record { fate = fate.Known known; consumers = [] }) same
    (λ other. not_settled a q known before (get t.results q) other (told q)) where
      same : q ≡ a → Told (Gives a (give.Known known) ∷ before) q (Some (record { fate = fate.Known known; consumers = [] }))
      same e =
          let settled : was_settled q (Gives a (give.Known known) ∷ before) ≡ true = ap (λ b. b || was_settled q before) (eq-eqb a q (sym e)) in
          (sym settled, λ unsettled. let never : true ≡ false = sym settled ∙ unsettled in absurd (cc))
told_given a q (give.Result other) before t open_one told =
    inserted (Told (Gives a (give.Result other) ∷ before) q) t.results a q (record { fate = fate.Forwarded other; consumers = consumers_of t a }) same
    (λ _. told q) where
      same : q ≡ a → Told (Gives a (give.Result other) ∷ before) q (Some (record { fate = fate.Forwarded other; consumers = consumers_of t a }))
      same e = (
        sym (ap (λ x. was_settled x before) e ∙ open_one.unsettled),
        λ unsettled. consumers_are before t a open_one ∙ ap (λ x. added_to x before) (sym e),
      )

told : (calls : List Call) → AreAllowed calls → (q : ℕ) → Told calls q (get (after calls).results q)
told [] allowed q = subst (Told [] q) (sym (get-empty nat_cmp q)) (refl, refl)
told (Opens a ∷ before) allowed q =
    inserted (Told (Opens a ∷ before) q) (after before).results a q (record { fate = fate.Open; consumers = [] })
    (λ e. let knew = subst (Told before q) (ap (get (after before).results) e ∙ allowed.0) (told before allowed.1 q) in (sym knew.1, λ unsettled. sym knew.0))
    (λ other. told before allowed.1 q)
told (Waits on c ∷ before) allowed q = told_waited on q c before (after before) _ refl allowed.0 (told before allowed.1)
told (Gives a g ∷ before) allowed q =
    told_given a q g before (after before) (may_be_given before (after before).results a g _ refl allowed.0 (told before allowed.1 a)) (told before allowed.1)
told (Takes at ∷ before) allowed q = told before allowed q

due_waited : (on : ℕ) (c : Consumer) (before : List Call) (t : ResultTable) (o : Option Future) → IsSome o → Told before on o → t.due ≡ queue before
    → (waited_at t on c o).due ≡ queue (Waits on c ∷ before)
due_waited on c before t None there told is = absurd (cc)
due_waited on c before t (Some f) there told is = by_fate (is_known f.fate) ∙ ap (λ b. if b then queue before ++ deliveries on (c ∷ []) else queue before) told.0 where
  by_fate : (b : Bool) → (if b then record t { due = t.due ++ deliveries on (c ∷ []) } else record t { results = insert t.results on (record f { consumers = f.consumers ++ c ∷ [] }) }).due
      ≡ (if b then queue before ++ deliveries on (c ∷ []) else queue before)
  by_fate true = ap (λ due. due ++ deliveries on (c ∷ [])) is
  by_fate false = is

pub due_is_the_queue : (calls : List Call) → AreAllowed calls → (after calls).due ≡ queue calls
due_is_the_queue [] allowed = refl
due_is_the_queue (Opens a ∷ before) allowed = due_is_the_queue before allowed.1
due_is_the_queue (Waits on c ∷ before) allowed =
    due_waited on c before (after before) _ allowed.0 (told before allowed.1 on) (due_is_the_queue before allowed.1)
due_is_the_queue (Gives a (give.Known known) ∷ before) allowed =
    ap₂ (λ due cs. due ++ deliveries a cs) (due_is_the_queue before allowed.1)
    (consumers_are before (after before) a (may_be_given before (after before).results a (give.Known known) _ refl allowed.0 (told before allowed.1 a)))
due_is_the_queue (Gives a (give.Result other) ∷ before) allowed = due_is_the_queue before allowed.1
due_is_the_queue (Takes at ∷ before) allowed = ap (λ due. remove due at) (due_is_the_queue before allowed)
