-- Ports have their arguments' values along a log.
use Rattle.std.proofs.Common.{◌≡◌, ◌+◌, ◌<◌, ◌⊎◌, ℕ, zero, suc, true, List, [], ◌∷◌, map, Option, Some, None, ℤ, option_map, refl, sym, ap, ap₂, ◌∙◌, subst, slice_get, slice_set, remove, inl, inr, arith, nat_lt, ltb-true, ltb-false}
use Rattle.std.proofs.lemmas.Option.{slice_get-map}
use Rattle.mpl_value.specs.declared.known.Known.{Known}
use Rattle.mpl_value.specs.declared.known.Known.TheVariants.{Value}
use Rattle.mdf_code.specs.Alone.{Held, Words, Pending}
use Rattle.mdf_core.specs.Actors.{Actor, Arc, Call, Fate, Open, Is, Forwarded, Target, Port, Result}
use Rattle.mdf_core.specs.Arguments.{ArgumentIs, HasArgument, Leads, LeadsTo, LeadsToPort}
use Rattle.mdf_core.specs.Calls.{arcs_to, calls_on, counts_ports, new_actor, port_of, with_arcs}
use Rattle.mdf_core.specs.Enabled.{Enabled, IsLog}
use Rattle.mdf_core.specs.Events.{Event, Send, Match}
use Rattle.mdf_core.specs.Steps.{Log, after, becomes_forwarded, brings, brings_known, fills_port, matches, sends, step}
use Rattle.mdf_core.specs.Trees.{IsTree}
use Rattle.mdf_core.specs.Worlds.{Job, World, change, fate_at, known_at, put, spends}
use Rattle.mdf_core.proofs.ArcLists.{Holds, every_at}
use Rattle.mdf_core.proofs.Changes.{Counted, Quiet, arcs_quiet, becomes_quiet, counts_counted}
use Rattle.mdf_core.proofs.EachStep.{Change, ByActor, ByCall, ByToken, ByArrival, ByAccept, ByEnd, changes, is_send}
use Rattle.mdf_core.proofs.Lists.{by_bool, put_here, put_there, same_or}
use Rattle.mdf_core.proofs.Rooted.{with_call}
use Rattle.mdf_core.proofs.ToldSo.{Later, known_child}
use Rattle.mdf_core.proofs.Transitions as transitions
use Rattle.mdf_core.proofs.Transitions.{filled_at}
use Rattle.mdf_core.proofs.TreeOfActors.{by_event, tree}
use Rattle.mdf_core.proofs.Wired.{holds, later_at, new_call_is}

-- ---- lists

pub get_here : {A : Type 0} (xs : List A) (place : ℕ) (x y : A) → slice_get xs place ≡ Some y → slice_get (slice_set xs place x) place ≡ Some x
get_here [] place x y h = absurd (cc h)
get_here (z ∷ zs) zero x y h = refl
get_here (z ∷ zs) (suc place) x y h = get_here zs place x y h

pub get_there : {A : Type 0} (xs : List A) (place other : ℕ) (x : A) → (other ≡ place → ⊥) → slice_get (slice_set xs place x) other ≡ slice_get xs other
get_there [] zero other x h = refl
get_there [] (suc place) other x h = refl
get_there (z ∷ zs) zero zero x h = absurd (h refl)
get_there (z ∷ zs) zero (suc other) x h = refl
get_there (z ∷ zs) (suc place) zero x h = refl
get_there (z ∷ zs) (suc place) (suc other) x h = get_there zs place other x (λ e. h (ap suc e))

pub some_same : {A : Type 0} {x y : A} → Some x ≡ Some y → x ≡ y
some_same e = cc e

-- ---- a port

-- what has come to a port
abbrev Came : World → ℕ → ℕ → Known → Type 0
Came w c place known = slice_get (w.actors c).ports place ≡ Some (Some known)

abbrev Fit : World → Type 0
Fit w = (c place : ℕ) (known : Known) → c < w.count → Came w c place known → HasArgument w c place known

value_later : (w v : World) → Later w v → IsTree w → (a : ℕ) (known : Known) (argument : Held) → ArgumentIs w a known argument → ArgumentIs v a known argument
value_later w v l t a known (Words words) h = h
value_later w v l t a known (Pending call) h = known_child w v l t a call known ((w.actors a).child call) refl h

argument_later : (w v : World) → Later w v → IsTree w → (c place : ℕ) (known : Known) → c < w.count → HasArgument w c place known → HasArgument v c place known
argument_later w v l t c place known there h = let same = l.calls c there in record {
  argument = h.argument;
  at = ap (λ (x : Call). slice_get x.arguments place) same ∙ h.at;
  is = subst (λ a. ArgumentIs v a known h.argument) (sym (ap (λ (x : Call). x.caller) same)) (value_later w v l t (w.actors c).call.caller known h.argument h.is);
}

-- ---- a token

-- it was there, or the token brought it
abbrev Brought : World → World → Target → Known → Type 0
Brought w v to known = (c place : ℕ) (k : Known) → Came v c place k → Came w c place k ⊎ ((Port c place ≡ to) × (known ≡ k))

brought_same : (w v : World) (to : Target) (known : Known) → ((c : ℕ) → (v.actors c).ports ≡ (w.actors c).ports) → Brought w v to known
brought_same w v to known same c place k h = inl (sym (ap (λ p. slice_get p place) (same c)) ∙ h)

quiet_ports : (d : ℕ) (w v : World) → Quiet d w v → (c : ℕ) → (v.actors c).ports ≡ (w.actors c).ports
quiet_ports d w v q c = at (same_or c d) where
  at : (c ≡ d) ⊎ (c ≡ d → ⊥) → (v.actors c).ports ≡ (w.actors c).ports
  at (inl same) = subst (λ k. (v.actors k).ports ≡ (w.actors k).ports) (sym same) q.only.ports
  at (inr differ) = ap (λ (x : Actor). x.ports) (q.only.others c differ)

filled_brought : (d port : ℕ) (known : Known) (w : World) → slice_get (w.actors d).ports port ≡ Some None → Brought w (counts_ports d (change d (filled_at port known) w)) (Port d port) known
filled_brought d port known w empty c place k h = at (same_or c d) (same_or place port) where
  counted : Counted d (change d (filled_at port known) w) (counts_ports d (change d (filled_at port known) w))
  counted = counts_counted d (change d (filled_at port known) w)

  ports : ((counts_ports d (change d (filled_at port known) w)).actors d).ports ≡ slice_set (w.actors d).ports port (Some known)
  ports = counted.only.ports ∙ ap (λ (x : Actor). x.ports) (put_here d (filled_at port known (w.actors d)) w.actors)

  at : (c ≡ d) ⊎ (c ≡ d → ⊥) → (place ≡ port) ⊎ (place ≡ port → ⊥) → Came w c place k ⊎ ((Port c place ≡ Port d port) × (known ≡ k))
  at (inr differ) q = inl (sym (ap (λ (x : Actor). slice_get x.ports place) (counted.only.others c differ ∙ put_there d c (filled_at port known (w.actors d)) w.actors differ)) ∙ h)
  at (inl same) (inl here) = inr (
    ap₂ Port same here,
    some_same (some_same (sym (get_here (w.actors d).ports port (Some known) None empty)
        ∙ (sym (ap (λ p. slice_get p port) ports) ∙ (ap₂ (λ e p. slice_get ((counts_ports d (change d (filled_at port known) w)).actors e).ports p) (sym same) (sym here) ∙ h)))),
  )
  at (inl same) (inr other) = inl (ap (λ e. slice_get (w.actors e).ports place) same
      ∙ (sym (get_there (w.actors d).ports port place (Some known) other) ∙ (sym (ap (λ p. slice_get p place) ports) ∙ (ap (λ e. slice_get ((counts_ports d (change d (filled_at port known) w)).actors e).ports place) (sym same) ∙ h))))

fills_brought : (d port : ℕ) (known : Known) (w : World) (o : Option (Option Known)) → slice_get (w.actors d).ports port ≡ o → Brought w (fills_port d port known o w) (Port d port) known
fills_brought d port known w None is = brought_same w w (Port d port) known (λ c. refl)
fills_brought d port known w (Some (Some other)) is = brought_same w w (Port d port) known (λ c. refl)
fills_brought d port known w (Some None) is = filled_brought d port known w is

forwarded_brought : (d : ℕ) (known : Known) (f : Fate) (w : World) → Brought w (becomes_forwarded d known f w) (Result d) known
forwarded_brought d known (Forwarded child) w = brought_same w (becomes_forwarded d known (Forwarded child) w) (Result d) known (quiet_ports d w (becomes_forwarded d known (Forwarded child) w) (becomes_quiet d known w))
forwarded_brought d known Open w = brought_same w w (Result d) known (λ c. refl)
forwarded_brought d known (Is other) w = brought_same w w (Result d) known (λ c. refl)

brings_brought : (known : Known) (to : Target) (w : World) → Brought w (brings known to w) to known
brings_brought known (Port d port) w = fills_brought d port known w (slice_get (w.actors d).ports port) refl
brings_brought known (Result d) w = forwarded_brought d known (fate_at w d) w

-- a token brings its result
token_fits : (w v : World) → Later w v → IsTree w → (arc : Arc) (known : Known) → Leads w arc → known_at w (Some arc.from) ≡ Some known → Brought w v arc.to known → Fit w →
    (c place : ℕ) (k : Known) → c < w.count → Came v c place k → HasArgument v c place k
token_fits w v l t arc known leads is b f c place k there h = at (b c place k h) where
  at : Came w c place k ⊎ ((Port c place ≡ arc.to) × (known ≡ k)) → HasArgument v c place k
  at (inl old) = argument_later w v l t c place k there (f c place k there old)
  at (inr new) = let lead : LeadsToPort w arc.from c place = subst (λ to. LeadsTo w arc.from to) (sym new.0) leads in argument_later w v l t c place k there (record {
    argument = Pending lead.call;
    at = lead.at;
    is = ap (known_at w) lead.is ∙ (is ∙ ap Some new.1);
  })

match_fits : (w v : World) → Later w v → IsTree w → (place : ℕ) (arc : Arc) → Leads w arc → matches place (Some arc) w ≡ v → Fit w → (c port : ℕ) (k : Known) → c < w.count → Came v c port k → HasArgument v c port k
match_fits w v l t place arc leads is f = at (known_at w (Some arc.from)) refl is where
  at : (o : Option Known) → known_at w (Some arc.from) ≡ o → brings_known o arc.to (record w { due = remove w.due place }) ≡ v → (c port : ℕ) (k : Known) → c < w.count → Came v c port k → HasArgument v c port k
  at None known same = λ c port k there h. argument_later w v l t c port k there (f c port k there (ap (λ (u : World). slice_get (u.actors c).ports port) same ∙ h))
  at (Some known) known_is same = token_fits w v l t arc known leads known_is
      (subst (λ u. Brought w u arc.to known) same (brings_brought known arc.to (record w { due = remove w.due place }))) f

-- ---- events

unchanged_fits : (w v : World) → Later w v → IsTree w → Fit w → (c : ℕ) → (v.actors c).ports ≡ (w.actors c).ports → (place : ℕ) (k : Known) → c < w.count → Came v c place k → HasArgument v c place k
unchanged_fits w v l t f c same place k there h = argument_later w v l t c place k there (f c place k there (sym (ap (λ p. slice_get p place) same) ∙ h))

-- the ports of a new actor have the words of its arguments
words_come : (arguments : List Held) (place : ℕ) (k : Known) → slice_get (map port_of arguments) place ≡ Some (Some k) → (words : List ℤ) × (slice_get arguments place ≡ Some (Words words)) × (Value words ≡ k)
words_come arguments place k h = at (slice_get arguments place) refl (sym (slice_get-map port_of arguments place) ∙ h) where
  at : (o : Option Held) → slice_get arguments place ≡ o → option_map port_of o ≡ Some (Some k) → (words : List ℤ) × (slice_get arguments place ≡ Some (Words words)) × (Value words ≡ k)
  at None is e = absurd (cc e)
  at (Some (Words words)) is e = (words, is, some_same (some_same e))
  at (Some (Pending call)) is e = absurd (cc (some_same e))

pub kind_fits : (job : Job) (w : World) (e : Event) (v : World) → Change job w e v → Later w v → IsTree w → Fit w → (is_send e ≡ true → (place : ℕ) (k : Known) → Came v w.count place k → HasArgument v w.count place k) →
    ((at : ℕ) → e ≡ Match at → (c place : ℕ) (k : Known) → c < w.count → Came v c place k → HasArgument v c place k) → Fit v
kind_fits job w e v (ByActor o) l t f new token c place k there h = unchanged_fits w v l t f c (at (same_or c o.actor)) place k (subst (λ n. c < n) o.acted.lists.count there) h where
  at : (c ≡ o.actor) ⊎ (c ≡ o.actor → ⊥) → (v.actors c).ports ≡ (w.actors c).ports
  at (inl same) = subst (λ d. (v.actors d).ports ≡ (w.actors d).ports) (sym same) o.acted.ports
  at (inr differ) = ap (λ (x : Actor). x.ports) (o.acted.others c differ)
kind_fits job w e v (ByCall o) l t f new token c place k there h = at (same_or c w.count) (same_or c o.actor) where
  below : (c ≡ w.count → ⊥) → c < w.count
  below d = by_bool (nat_lt c w.count) (λ b. ltb-true c w.count b) (λ b. absurd (d (omega (arith, there, o.sent.count, ltb-false c w.count b))))

  at : (c ≡ w.count) ⊎ (c ≡ w.count → ⊥) → (c ≡ o.actor) ⊎ (c ≡ o.actor → ⊥) → HasArgument v c place k
  at (inl same) q = subst (λ d. HasArgument v d place k) (sym same) (new o.sends place k (subst (λ d. Came v d place k) same h))
  at (inr old) (inl same) = unchanged_fits w v l t f c (subst (λ d. (v.actors d).ports ≡ (w.actors d).ports) (sym same) o.sent.ports) place k (below old) h
  at (inr old) (inr differ) = unchanged_fits w v l t f c (ap (λ (x : Actor). x.ports) (o.sent.others c differ old)) place k (below old) h
kind_fits job w e v (ByToken o) l t f new token c place k there h = token o.of_match.0 o.of_match.1 c place k (subst (λ n. c < n) (came_count o.came) there) h where
  came_count : transitions.Came w v → v.count ≡ w.count
  came_count (d, inl q) = q.only.lists.count
  came_count (d, inr g) = g.lists.count
kind_fits job w e v (ByArrival o) l t f new token c place k there h = unchanged_fits w v l t f c (ap (λ (g : ℕ → Actor). (g c).ports) o.actors) place k (subst (λ n. c < n) o.count there) h
kind_fits job w e v (ByAccept o) l t f new token c place k there h = unchanged_fits w v l t f c (at (same_or c o.actor)) place k (subst (λ n. c < n) o.count there) h where
  at : (c ≡ o.actor) ⊎ (c ≡ o.actor → ⊥) → (v.actors c).ports ≡ (w.actors c).ports
  at (inl same) = subst (λ d. (v.actors d).ports ≡ (w.actors d).ports) (sym same) o.ports
  at (inr differ) = ap (λ (x : Actor). x.ports) (o.others c differ)
kind_fits job w e v (ByEnd o) l t f new token c place k there h = unchanged_fits w v l t f c (ap (λ (g : ℕ → Actor). (g c).ports) o.actors) place k (subst (λ n. c < n) o.count there) h

-- ---- a call

pub new_ports : (job : Job) (w : World) (a turns member : ℕ) (object : ℤ) (arguments : List Held) →
    ((sends job a turns w.count member object arguments w).actors w.count).ports ≡ map port_of arguments
new_ports job w a turns member object arguments =
    let y = with_call job a turns w.count member object arguments w in let arcs = arcs_to (w.actors a).child w.count 0 arguments in
    (counts_counted w.count (with_arcs arcs y)).only.ports ∙ ((arcs_quiet w.count arcs y).only.ports
    ∙ ap (λ (x : Actor). x.ports) (put_here w.count (new_actor job a (w.actors a) member object arguments) (put a (spends (turns + 1) (calls_on job w.count member (w.actors a))) w.actors)))

new_fits : (job : Job) (w : World) (a turns member : ℕ) (object : ℤ) (arguments : List Held) (place : ℕ) (k : Known) → Came (sends job a turns w.count member object arguments w) w.count place k →
    HasArgument (sends job a turns w.count member object arguments w) w.count place k
new_fits job w a turns member object arguments place k h =
    let v = sends job a turns w.count member object arguments w in let same = new_call_is job w a turns member object arguments in
    let come = words_come arguments place k (sym (ap (λ p. slice_get p place) (new_ports job w a turns member object arguments)) ∙ h) in record {
      argument = Words come.0;
      at = ap (λ (x : Call). slice_get x.arguments place) same ∙ come.1;
      is = come.2;
    }

step_fits : (job : Job) (w : World) (e : Event) → Enabled job w e → Later w (step job w e) → IsTree w → Holds (Leads w) w → Fit w → Fit (step job w e)
step_fits job w e h l t leads f = kind_fits job w e (step job w e) (changes job w e h) l t f
    (λ sends_. by_event e (λ a turns callee member object arguments is. new a turns callee member object arguments is) (λ other. absurd (cc (sends_, other))))
    (λ place is. subst (λ d. (c port : ℕ) (k : Known) → c < w.count → Came (step job w d) c port k → HasArgument (step job w d) c port k) (sym is)
    (token place (subst (Enabled job w) is h) (subst (λ d. Later w (step job w d)) is l))) where
      new : (a turns callee member : ℕ) (object : ℤ) (arguments : List Held) → e ≡ Send a turns callee member object arguments → (place : ℕ) (k : Known) → Came (step job w e) w.count place k → HasArgument (step job w e) w.count place k
      new a turns callee member object arguments is =
          let next : callee ≡ w.count = (subst (Enabled job w) is h).next in let same : e ≡ Send a turns w.count member object arguments = is ∙ ap (λ c. Send a turns c member object arguments) next in
          subst (λ d. (place : ℕ) (k : Known) → Came (step job w d) w.count place k → HasArgument (step job w d) w.count place k) (sym same) (new_fits job w a turns member object arguments)

      token : (place : ℕ) → Enabled job w (Match place) → Later w (step job w (Match place)) → (c port : ℕ) (k : Known) → c < w.count → Came (step job w (Match place)) c port k → HasArgument (step job w (Match place)) c port k
      token place m later = match_fits w (step job w (Match place)) later t place m.0 (every_at (Leads w) w.due place m.0 leads.due m.1) (ap (λ o. matches place o w) (sym m.1)) f

pub ports_fit : (job : Job) (log : Log) → IsLog job log → (c place : ℕ) (known : Known) → c < (after job log).count → slice_get ((after job log).actors c).ports place ≡ Some (Some known) →
    HasArgument (after job log) c place known
ports_fit job [] h = λ c place known there e. absurd (cc e)
ports_fit job (e ∷ log) h = step_fits job (after job log) e h.0.1 (later_at job e log h) (tree job log h.1) (holds job log h.1) (ports_fit job log h.1)
