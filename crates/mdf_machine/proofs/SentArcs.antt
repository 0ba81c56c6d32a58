-- The arcs of a call that is made: what waits for each result then, and what is due.
use Rattle.std.proofs.Common.{◌≡◌, ◌+◌, ◌++◌, ℕ, zero, suc, Bool, true, false, not, cond, List, [], ◌∷◌, map, filter, refl, sym, ap, ◌∙◌, nat_eq, eqb-true}
use Rattle.std.specs.Prelude.{Option, Some, None}
use Rattle.std.proofs.lemmas.List.{append-nil, map-append}
use Rattle.std.proofs.lemmas.List.Elements.{filter-append}
use Rattle.mpl_value.specs.CallAnswers.{leftmost_trap}
use Rattle.mdf_code.specs.Alone.{Held, Words, Pending}
use Rattle.mdf_core.specs.Actors.{Actor, Arc, Fate, Open, Is, Forwarded, Port, arguments_of, is_known, is_post}
use Rattle.mdf_core.specs.Calls.{arc_to, arcs_to, awaits, complete, completed, counts_ports, leads_from, port_of, ready, waiting}
use Rattle.mdf_core.specs.Worlds.{World, change}
use Rattle.mdf_core.proofs.Lists.{by_bool}
use Rattle.mdf_match.specs.Ports.{missing_in}
use Rattle.mdf_future.specs.declared.consumer.Consumer.{Consumer}
use Rattle.mdf_future.specs.declared.consumer.Due.{Due}
use Rattle.mdf_future.specs.declared.future.Future.{Future}
use Rattle.mdf_future.specs.Openings.{Passed, is_known_at, joined, ports_due, ports_for}
use Rattle.mdf_future.specs.Openings as openings
use Rattle.mdf_future.specs.Results.{ResultTable}
use Rattle.mdf_future.specs.Results as results
use Rattle.mdf_machine.specs.Internal.Held.{consumer_of, consumers_in, due_of, kept_fate}

-- for each argument the actor whose result is passed there, if that is a result of an actor
abbrev pub passed_of : (ℕ → Option ℕ) → List Held → Passed
passed_of child [] = []
passed_of child (Words words ∷ others) = None ∷ passed_of child others
passed_of child (Pending result ∷ others) = child result ∷ passed_of child others

-- those that wait, where this is known of results
abbrev pub unknown_arcs : (ℕ → Bool) → List Arc → List Arc
unknown_arcs known = filter (λ arc. not (known arc.from))

abbrev pub known_arcs : (ℕ → Bool) → List Arc → List Arc
known_arcs known = filter (λ arc. known arc.from)

-- ---- consumers

-- one arc more among those that wait for a result
abbrev WaitsOne : (ℕ → Bool) → ℕ → ℕ → ℕ → ℕ → List Arc → List Consumer → Type 0
WaitsOne known q callee port on arcs ports =
    consumers_in (unknown_arcs known (record { from = on; to = Port callee port } ∷ arcs)) q ≡ cond (known q) [] (cond (nat_eq on q) (openings.port_of callee port ∷ ports) ports)

waits_one : (known : ℕ → Bool) (q callee port on : ℕ) (arcs : List Arc) (ports : List Consumer) → consumers_in (unknown_arcs known arcs) q ≡ cond (known q) [] ports → WaitsOne known q callee port on arcs ports
waits_one known q callee port on arcs ports rest = by_bool (nat_eq on q) here there where
  -- by whether the result is known
  dropped : known on ≡ true → consumers_in (unknown_arcs known (record { from = on; to = Port callee port } ∷ arcs)) q ≡ consumers_in (unknown_arcs known arcs) q
  dropped is = ap (λ b. consumers_in (cond (not b) (record { from = on; to = Port callee port } ∷ unknown_arcs known arcs) (unknown_arcs known arcs)) q) is

  kept : known on ≡ false → consumers_in (unknown_arcs known (record { from = on; to = Port callee port } ∷ arcs)) q
      ≡ map (λ (x : Arc). consumer_of x.to) (cond (nat_eq on q) (record { from = on; to = Port callee port } ∷ filter (leads_from q) (unknown_arcs known arcs)) (filter (leads_from q) (unknown_arcs known arcs)))
  kept is = ap (λ b. consumers_in (cond (not b) (record { from = on; to = Port callee port } ∷ unknown_arcs known arcs) (unknown_arcs known arcs)) q) is

  here : nat_eq on q ≡ true → WaitsOne known q callee port on arcs ports
  here same = by_bool (known q) known_case unknown_case where
    known_case : known q ≡ true → WaitsOne known q callee port on arcs ports
    known_case is =
        dropped (ap known (eqb-true on q same) ∙ is) ∙ rest ∙ ap (λ b. cond b [] ports) is
        ∙ sym (ap (λ b. cond b [] (cond (nat_eq on q) (openings.port_of callee port ∷ ports) ports)) is)

    unknown_case : known q ≡ false → WaitsOne known q callee port on arcs ports
    unknown_case is =
        kept (ap known (eqb-true on q same) ∙ is)
        ∙ ap (λ b. map (λ (x : Arc). consumer_of x.to) (cond b (record { from = on; to = Port callee port } ∷ filter (leads_from q) (unknown_arcs known arcs)) (filter (leads_from q) (unknown_arcs known arcs)))) same
        ∙ ap (λ cs. openings.port_of callee port ∷ cs) (rest ∙ ap (λ b. cond b [] ports) is)
        ∙ sym (ap (λ b. cond b [] (cond (nat_eq on q) (openings.port_of callee port ∷ ports) ports)) is ∙ ap (λ b. cond b (openings.port_of callee port ∷ ports) ports) same)

  there : nat_eq on q ≡ false → WaitsOne known q callee port on arcs ports
  there other =
      by_bool (known on) dropped
      (λ is. kept is ∙ ap (λ b. map (λ (x : Arc). consumer_of x.to) (cond b (record { from = on; to = Port callee port } ∷ filter (leads_from q) (unknown_arcs known arcs)) (filter (leads_from q) (unknown_arcs known arcs)))) other)
      ∙ rest ∙ sym (ap (λ b. cond (known q) [] (cond b (openings.port_of callee port ∷ ports) ports)) other)

pub waits_for_ports : (known : ℕ → Bool) (child : ℕ → Option ℕ) (q callee port : ℕ) (arguments : List Held)
    → consumers_in (unknown_arcs known (arcs_to child callee port arguments)) q ≡ cond (known q) [] (ports_for q callee port (passed_of child arguments))
waits_for_ports known child q callee port [] = by_bool (known q) (λ is. sym (ap (λ b. cond b [] []) is)) (λ is. sym (ap (λ b. cond b [] []) is))
waits_for_ports known child q callee port (Words words ∷ others) = waits_for_ports known child q callee (port + 1) others
waits_for_ports known child q callee port (Pending result ∷ others) = by_child (child result) (waits_for_ports known child q callee (port + 1) others) where
  by_child : (o : Option ℕ) → consumers_in (unknown_arcs known (arcs_to child callee (port + 1) others)) q ≡ cond (known q) [] (ports_for q callee (port + 1) (passed_of child others))
      → consumers_in (unknown_arcs known (arc_to callee port o ++ arcs_to child callee (port + 1) others)) q ≡ cond (known q) [] (ports_for q callee port (o ∷ passed_of child others))
  by_child None rest = rest
  by_child (Some on) rest = waits_one known q callee port on (arcs_to child callee (port + 1) others) (ports_for q callee (port + 1) (passed_of child others)) rest

pub more_consumers : (waits more : List Arc) (q : ℕ) → consumers_in (waits ++ more) q ≡ consumers_in waits q ++ consumers_in more q
more_consumers waits more q =
    ap (map (λ (x : Arc). consumer_of x.to)) (filter-append (leads_from q) waits more)
    ∙ map-append (λ (x : Arc). consumer_of x.to) (filter (leads_from q) waits) (filter (leads_from q) more)

pub known_kept : (f : Fate) → results.is_known (kept_fate f) ≡ is_known f
known_kept Open = refl
known_kept (Is known) = refl
known_kept (Forwarded child) = refl

-- what a result has, behind a call with these arguments
pub result_after_call : (fate : ℕ → Fate) (child : ℕ → Option ℕ) (q callee : ℕ) (arguments : List Held) (waits : List Arc)
    → joined (ports_for q callee 0 (passed_of child arguments)) (record { fate = kept_fate (fate q); consumers = consumers_in waits q })
    ≡ record { fate = kept_fate (fate q); consumers = consumers_in (waits ++ unknown_arcs (λ from. is_known (fate from)) (arcs_to child callee 0 arguments)) q }
result_after_call fate child q callee arguments waits =
    ap (λ b. cond b (future (consumers_in waits q)) (future (consumers_in waits q ++ ports))) (known_kept (fate q))
    ∙ at (is_known (fate q)) refl where
      future : List Consumer → Future
      future cs = record { fate = kept_fate (fate q); consumers = cs }

      ports : List Consumer
      ports = ports_for q callee 0 (passed_of child arguments)

      at : (b : Bool) → is_known (fate q) ≡ b → cond b (future (consumers_in waits q)) (future (consumers_in waits q ++ ports))
          ≡ future (consumers_in (waits ++ unknown_arcs (λ from. is_known (fate from)) (arcs_to child callee 0 arguments)) q)
      at true is = ap future (sym (append-nil (consumers_in waits q)) ∙ sym (more_consumers waits (unknown_arcs (λ from. is_known (fate from)) (arcs_to child callee 0 arguments)) q
          ∙ ap (λ cs. consumers_in waits q ++ cs) (waits_for_ports (λ from. is_known (fate from)) child q callee 0 arguments ∙ ap (λ b. cond b [] ports) is)))
      at false is = ap future (sym (more_consumers waits (unknown_arcs (λ from. is_known (fate from)) (arcs_to child callee 0 arguments)) q
          ∙ ap (λ cs. consumers_in waits q ++ cs) (waits_for_ports (λ from. is_known (fate from)) child q callee 0 arguments ∙ ap (λ b. cond b [] ports) is)))

-- ---- what is due

pub due_after_call : (known : ℕ → Bool) (child : ℕ → Option ℕ) (t : ResultTable) (callee port : ℕ) (arguments : List Held)
    → ((result on : ℕ) → child result ≡ Some on → is_known_at t on ≡ known on)
    → ports_due t callee port (passed_of child arguments) ≡ map due_of (known_arcs known (arcs_to child callee port arguments))
due_after_call known child t callee port [] same = refl
due_after_call known child t callee port (Words words ∷ others) same = due_after_call known child t callee (port + 1) others same
due_after_call known child t callee port (Pending result ∷ others) same = by_child (child result) refl (due_after_call known child t callee (port + 1) others same) where
  by_child : (o : Option ℕ) → child result ≡ o → ports_due t callee (port + 1) (passed_of child others) ≡ map due_of (known_arcs known (arcs_to child callee (port + 1) others))
      → ports_due t callee port (o ∷ passed_of child others) ≡ map due_of (known_arcs known (arc_to callee port o ++ arcs_to child callee (port + 1) others))
  by_child None is rest = rest
  by_child (Some on) is rest =
      ap (λ b. cond b (record { consumer = openings.port_of callee port; from = on } ∷ ports_due t callee (port + 1) (passed_of child others)) (ports_due t callee (port + 1) (passed_of child others))) (same result on is)
      ∙ ap (λ (due : List Due). cond (known on) (record { consumer = openings.port_of callee port; from = on } ∷ due) due) rest
      ∙ by_known (known on) where
        by_known : (b : Bool) → cond b (record { consumer = openings.port_of callee port; from = on } ∷ map due_of (known_arcs known (arcs_to child callee (port + 1) others))) (map due_of (known_arcs known (arcs_to child callee (port + 1) others)))
            ≡ map due_of (cond b (record { from = on; to = Port callee port } ∷ known_arcs known (arcs_to child callee (port + 1) others)) (known_arcs known (arcs_to child callee (port + 1) others)))
        by_known true = refl
        by_known false = refl

-- ---- the status of the new actor

-- words that were passed are no trap
pub no_trap : (arguments : List Held) → leftmost_trap (arguments_of (map port_of arguments)) ≡ None
no_trap [] = refl
no_trap (Words words ∷ others) = no_trap others
no_trap (Pending result ∷ others) = no_trap others

-- a call of a regular member is ready where nothing is missing, and else waits
abbrev pub counted_by : ℕ → Actor → Actor
counted_by zero = ready
counted_by (suc missing) = waiting (suc missing)

pub counts_plainly : (c : ℕ) (w : World) → is_post (w.actors c).call ≡ false → leftmost_trap (arguments_of (w.actors c).ports) ≡ None
    → counts_ports c w ≡ change c (counted_by (missing_in (w.actors c).ports)) w
counts_plainly c w plain none = at (missing_in (w.actors c).ports) where
  at : (missing : ℕ) → awaits c (w.actors c) missing w ≡ change c (counted_by missing) w
  at zero = ap (λ o. completed c (w.actors c) o w) none ∙ ap (λ b. change c (cond b complete ready) w) plain
  at (suc missing) = refl
