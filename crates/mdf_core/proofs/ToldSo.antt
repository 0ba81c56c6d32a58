-- What frames were told is so along a log.
use Rattle.std.proofs.Common.{◌≡◌, ◌+◌, ◌<◌, ◌≤◌, ◌⊎◌, ℕ, false, List, [], ◌∷◌, Option, Some, None, ℤ, refl, sym, ap, ap₂, ◌∙◌, subst, slice_get, inl, inr, arith, nat_lt, ltb-true, ltb-false}
use Rattle.mpl_value.specs.declared.known.Known.{Known}
use Rattle.mpl_value.specs.declared.known.Known.TheVariants.{Value}
use Rattle.mpl_value.specs.declared.body.BodyStart.{BodyStart}
use Rattle.mpl_value.specs.Words.{object_word}
use Rattle.mdf_code.specs.Alone.{Held, Words, Pending}
use Rattle.mdf_code.specs.Frames.{Calls, Creates, Needs, Replies}
use Rattle.mdf_code.specs.Told.{Beaten, Beats, Called, Gave, Halt, HaltsNext, Learnt, Named, Stands, Told, calls_made, most_turns}
use Rattle.mdf_core.specs.Actors.{Actor, Call, Is, Forwarded, known_of}
use Rattle.mdf_core.specs.Calls.{arcs_to, calls_on, counts_ports, new_actor, with_arcs}
use Rattle.mdf_core.specs.Causes.{AreSo, HasActor, IsGiven, IsSo, Passes, objects_named}
use Rattle.mdf_core.specs.Enabled.{Enabled, IsLog, Stops}
use Rattle.mdf_core.specs.Events.{Event, Fire, Send, Create, Learn, Park, Resume, Reply, End, Beat, Match, Arrive, Accept, Quit}
use Rattle.mdf_core.specs.Out.{actor_of}
use Rattle.mdf_core.specs.Steps.{Log, after, ends, forwards, gives, learns, parks, runs, sends, step, tells}
use Rattle.mdf_core.specs.Trees.{IsTree}
use Rattle.mdf_core.specs.Worlds.{Job, World, acts, fate_at, known_at, put, spends}
use Rattle.mdf_core.proofs.EachStep.{Change, ByActor, ByCall, ByToken, ByArrival, ByAccept, ByEnd, OfAccept, changes, is_send}
use Rattle.mdf_core.proofs.Fates.{AllFated, count_grows, fated, is_early, missing_fresh, step_stays}
use Rattle.mdf_core.proofs.Lists.{by_bool, put_here, put_there, same_or}
use Rattle.mdf_core.proofs.Passing.{PassesAll, pass, passes_later}
use Rattle.mdf_core.proofs.Related as all
use Rattle.mdf_core.proofs.Related.{Keeps}
use Rattle.mdf_core.proofs.Rooted.{send_rooted, step_rooted, with_call}
use Rattle.mdf_core.proofs.Standing.{Standing, stand}
use Rattle.mdf_core.proofs.Transitions.{Acted, Came, Mild, Sent, acts_acted, ends_acted, gives_acted, sends_sent}
use Rattle.mdf_core.proofs.TreeOfActors.{by_event, call_same, child_found, count_stays, tree}
use Rattle.mdf_core.proofs.Turning.{named_child}

-- ---- what stays

pub record Later (w v : World) : Type 0 where
  pub count : w.count ≤ v.count
  pub calls : (c : ℕ) → c < w.count → (v.actors c).call ≡ (w.actors c).call
  pub children : (a call c : ℕ) → (w.actors a).child call ≡ Some c → (v.actors a).child call ≡ Some c
  pub known : (c : ℕ) (k : Known) → c < w.count → known_at w (Some c) ≡ Some k → known_at v (Some c) ≡ Some k
  pub passes : (a child : ℕ) → a < w.count → child < w.count → Passes w a child → Passes v a child

pub later_step : (job : Job) (w : World) (e : Event) → Enabled job w e → ((k : ℕ) → Standing w k) → AllFated w → IsTree w → PassesAll w → Later w (step job w e)
later_step job w e h s f t p = record {
  count = count_grows job w e h;
  calls = λ c there. by_event e
      (λ a turns callee member object arguments is. subst (λ d. ((step job w d).actors c).call ≡ (w.actors c).call) (sym is) (sent_call a turns callee member object arguments c there (subst (Enabled job w) is h)))
      (λ other. (step_rooted job w e other c).call);
  children = λ a call c found. by_event e
      (λ b turns callee member object arguments is. subst (λ d. ((step job w d).actors a).child call ≡ Some c) (sym is) (sent_child b turns callee member object arguments a call c found (subst (Enabled job w) is h)))
      (λ other. ap (λ (g : ℕ → Option ℕ). g call) (step_rooted job w e other a).child ∙ found);
  known = λ c k there known. (step_stays job w e h s f c there).stays k known;
  passes = λ a child there below is. passes_later job w e h s f t p a child there below is;
} where
  sent_call : (a turns callee member : ℕ) (object : ℤ) (arguments : List Held) (c : ℕ) → c < w.count → Enabled job w (Send a turns callee member object arguments) →
      ((step job w (Send a turns callee member object arguments)).actors c).call ≡ (w.actors c).call
  sent_call a turns callee member object arguments c there m = subst (λ d. ((step job w (Send a turns d member object arguments)).actors c).call ≡ (w.actors c).call) (sym m.next)
      ((send_rooted job w a turns w.count member object arguments c).call ∙ call_same job w a turns member object arguments m.stops.stops.there c there)

  sent_child : (b turns callee member : ℕ) (object : ℤ) (arguments : List Held) (a call c : ℕ) → (w.actors a).child call ≡ Some c → Enabled job w (Send b turns callee member object arguments) →
      ((step job w (Send b turns callee member object arguments)).actors a).child call ≡ Some c
  sent_child b turns callee member object arguments a call c found m = subst (λ d. ((step job w (Send b turns d member object arguments)).actors a).child call ≡ Some c) (sym m.next)
      (ap (λ (g : ℕ → Option ℕ). g call) (send_rooted job w b turns w.count member object arguments a).child
      ∙ child_found job w b turns member object arguments m.stops.stops.there a call c (t.children a call c found) found)

-- the known result of a call stays
pub known_child : (w v : World) → Later w v → IsTree w → (a call : ℕ) (k : Known) (o : Option ℕ) → (w.actors a).child call ≡ o → known_at w o ≡ Some k → known_at v ((v.actors a).child call) ≡ Some k
known_child w v l t a call k None is h = absurd (cc h)
known_child w v l t a call k (Some c) is h = ap (known_at v) (l.children a call c is) ∙ l.known c k (t.children a call c is).there h

actor_later : (w v : World) → Later w v → IsTree w → (a call member : ℕ) (object : ℤ) (arguments : List Held) → HasActor w a call member object arguments → HasActor v a call member object arguments
actor_later w v l t a call member object arguments h = let same = l.calls h.child (t.children a call h.child h.is).there in record {
  child = h.child;
  is = l.children a call h.child h.is;
  member_is = ap (λ x. x.member) same ∙ h.member_is;
  object_is = ap (λ x. x.object) same ∙ h.object_is;
  arguments_are = ap (λ x. x.arguments) same ∙ h.arguments_are;
}

given_later : (w v : World) → Later w v → IsTree w → (a : ℕ) (value : Held) → a < w.count → IsGiven w a value → IsGiven v a value
given_later w v l t a (Words words) there h = l.known a (Value words) there h
given_later w v l t a (Pending call) there h = (h.0, l.children a call h.0 h.1, l.passes a h.0 there (t.children a call h.0 h.1).there h.2)

so_later : (w v : World) → Later w v → IsTree w → (a : ℕ) → a < w.count → (v.actors a).start ≡ (w.actors a).start → (before : List Told) (halt : Halt) (told : Told) → IsSo w a before halt told → IsSo v a before halt told
so_later w v l t a there start before (Stands (Calls member object arguments)) Called h = actor_later w v l t a (calls_made before + 1) member object arguments h
so_later w v l t a there start before (Stands (Needs (Pending call))) (Learnt known) h = known_child w v l t a call known ((w.actors a).child call) refl h
so_later w v l t a there start before (Stands (Creates class)) (Named object) h = h ∙ ap (λ (s : BodyStart). object_word s.number (objects_named before + 1)) (sym start)
so_later w v l t a there start before (Stands (Replies value)) Gave h = given_later w v l t a value there h
so_later w v l t a there start before Beats Beaten h = tt
so_later w v l t a there start before halt told h = absurd h

are_later : (job : Job) (w v : World) → Later w v → IsTree w → (a : ℕ) → a < w.count → (v.actors a).start ≡ (w.actors a).start → (told : List Told) → AreSo job w a told → AreSo job v a told
are_later job w v l t a there start [] h = tt
are_later job w v l t a there start (told ∷ before) h = (
  record {
    stood = h.0.stood;
    halts = subst (λ s. HaltsNext job.image s before h.0.stood) (sym start) h.0.halts;
    is = so_later w v l t a there start before h.0.stood.halt told h.0.is;
  },
  are_later job w v l t a there start before h.1,
)

abbrev AllSo : Job → World → Type 0
AllSo job w = (k : ℕ) → k < w.count → AreSo job w k (w.actors k).told

-- a frame that was told no more
same_so : (job : Job) (w v : World) → Later w v → IsTree w → (k : ℕ) → k < w.count → (v.actors k).told ≡ (w.actors k).told → ((w.actors k).told ≡ []) ⊎ ((v.actors k).start ≡ (w.actors k).start) →
    AreSo job w k (w.actors k).told → AreSo job v k (v.actors k).told
same_so job w v l t k there told (inl none) h = subst (AreSo job v k) (sym (told ∙ none)) tt
same_so job w v l t k there told (inr start) h = subst (AreSo job v k) (sym told) (are_later job w v l t k there start (w.actors k).told h)

unchanged_so : (job : Job) (w v : World) → Later w v → IsTree w → (k : ℕ) → k < w.count → v.actors k ≡ w.actors k → AreSo job w k (w.actors k).told → AreSo job v k (v.actors k).told
unchanged_so job w v l t k there same h = same_so job w v l t k there (ap (λ (x : Actor). x.told) same) (inr (ap (λ (x : Actor). x.start) same)) h

-- ---- events of a frame

acted_so : (job : Job) (w v : World) → Later w v → IsTree w → (a t : ℕ) (f : Actor → Actor) → Acted a t f w v → ((v.actors a).start ≡ (w.actors a).start → AreSo job v a (f (w.actors a)).told) →
    (f (w.actors a)).start ≡ (w.actors a).start → AllSo job w → (k : ℕ) → k < w.count → AreSo job v k (v.actors k).told
acted_so job w v l tree_ a t f o own start s k there = at (same_or k a) where
  at : (k ≡ a) ⊎ (k ≡ a → ⊥) → AreSo job v k (v.actors k).told
  at (inl same) = subst (λ d. AreSo job v d (v.actors d).told) (sym same) (subst (AreSo job v a) (sym o.frame.told) (own (o.frame.start ∙ start)))
  at (inr differ) = unchanged_so job w v l tree_ k there (o.others k differ) (s k there)

-- one more thing that a frame is told
one_more : (job : Job) (w v : World) (a turns : ℕ) (halt : Halt) (told : Told) → Later w v → IsTree w → Stops job w a turns halt → (v.actors a).start ≡ (w.actors a).start →
    IsSo v a (w.actors a).told halt told → AreSo job w a (w.actors a).told → AreSo job v a (told ∷ (w.actors a).told)
one_more job w v a turns halt told l t s start is h = (
  record {
    stood = s.stood;
    halts = subst (λ b. HaltsNext job.image b (w.actors a).told s.stood) (sym start) s.stops.halts;
    is = subst (λ g. IsSo v a (w.actors a).told g told) (sym s.is) is;
  },
  are_later job w v l t a s.stops.there start (w.actors a).told h,
)

learnt_told : (known : Known) (o : Option Known) (x : Actor) → o ≡ Some known → (learns o x).told ≡ Learnt known ∷ x.told
learnt_told known None x h = absurd (cc h)
learnt_told known (Some k) x h = ap (λ n. Learnt n ∷ x.told) (some_same h) where
  some_same : Some k ≡ Some known → k ≡ known
  some_same e = cc e

learns_start : (o : Option Known) (x : Actor) → (learns o x).start ≡ x.start
learns_start None x = refl
learns_start (Some k) x = refl

learns_mild : (o : Option Known) (x : Actor) → Mild (learns o) x
learns_mild None x = record { ports = refl; spent = refl }
learns_mild (Some k) x = record { ports = refl; spent = refl }

parks_told : (turns : ℕ) (o : Option ℕ) (x : Actor) → (parks turns o x).told ≡ x.told
parks_told turns None x = refl
parks_told turns (Some c) x = refl

parks_start : (turns : ℕ) (o : Option ℕ) (x : Actor) → (parks turns o x).start ≡ x.start
parks_start turns None x = refl
parks_start turns (Some c) x = refl

parks_mild : (turns : ℕ) (o : Option ℕ) (x : Actor) → Mild (parks turns o) x
parks_mild turns None x = record { ports = refl; spent = refl }
parks_mild turns (Some c) x = record { ports = refl; spent = refl }

-- ---- a gift

-- known words are the result at once, and a call that is passed on has an actor
given_now : (w : World) (a : ℕ) (value : Held) → ((call : ℕ) → value ≡ Pending call → (c : ℕ) × ((w.actors a).child call ≡ Some c)) → IsGiven (gives a value w) a value
given_now w a (Words words) h = ap (λ (x : Actor). known_of x.fate) (put_here a (record (w.actors a) { fate = Is (Value words) }) w.actors)
given_now w a (Pending call) h = let k = h call refl in (k.0, forwarded_child ((w.actors a).child call) ∙ k.1, inl (now_forwarded ((w.actors a).child call) k.0 k.1)) where
  now_forwarded : (o : Option ℕ) (child : ℕ) → o ≡ Some child → fate_at (forwards a o w) a ≡ Forwarded child
  now_forwarded None child is = absurd (cc is)
  now_forwarded (Some c) child is = ap (λ (x : Actor). x.fate) (put_here a (record (w.actors a) { fate = Forwarded c }) w.actors) ∙ cc is

  forwarded_child : (o : Option ℕ) → ((forwards a o w).actors a).child call ≡ (w.actors a).child call
  forwarded_child None = refl
  forwarded_child (Some c) = ap (λ (x : Actor). x.child call) (put_here a (record (w.actors a) { fate = Forwarded c }) w.actors)

-- ---- counting objects

-- as many objects were made as the frame was told of
record Numbered (x y : Actor) : Type 0 where
  pub keeps : x.made ≡ objects_named x.told → y.made ≡ objects_named y.told

numbered_keeps : Keeps Numbered
numbered_keeps = record {
  same = λ x. record { keeps = λ h. h };
  after = λ x y z a b. record { keeps = λ h. b.keeps (a.keeps h) };
  standing = λ x s. record { keeps = λ h. h };
  starting = λ x s start. record { keeps = λ h. h };
  stopped = λ x s n. record { keeps = λ h. h };
  spent = λ x n. record { keeps = λ h. h };
  fated = λ x f. record { keeps = λ h. h };
  filled = λ x ports. record { keeps = λ h. h };
}

learns_numbered : (known : Option Known) (x : Actor) → Numbered x (learns known x)
learns_numbered None x = record { keeps = λ h. h }
learns_numbered (Some known) x = record { keeps = λ h. h }

parks_numbered : (turns : ℕ) (child : Option ℕ) (x : Actor) → Numbered x (parks turns child x)
parks_numbered turns None x = record { keeps = λ h. h }
parks_numbered turns (Some child) x = record { keeps = λ h. h }

abbrev AllNumbered : World → Type 0
AllNumbered w = (k : ℕ) → (w.actors k).made ≡ objects_named (w.actors k).told

step_numbered : (job : Job) (w : World) (e : Event) → is_send e ≡ false → all.All Numbered numbered_keeps w (step job w e)
step_numbered job w (Fire a) h = all.acts_all Numbered numbered_keeps a 1 runs w (record { keeps = λ n. n })
step_numbered job w (Send a turns callee member object arguments) h = absurd (cc h)
step_numbered job w (Create a turns class object) h =
    all.acts_all Numbered numbered_keeps a (turns + 1) (λ x. record (tells (Named object) x) { made = x.made + 1 }) w (record { keeps = λ n. ap (λ m. m + 1) n })
step_numbered job w (Learn a turns call) h =
    all.acts_all Numbered numbered_keeps a turns (learns (known_at w ((w.actors a).child call))) w (learns_numbered (known_at w ((w.actors a).child call)) (w.actors a))
step_numbered job w (Park a turns call) h = all.acts_all Numbered numbered_keeps a turns (parks turns ((w.actors a).child call)) w (parks_numbered turns ((w.actors a).child call) (w.actors a))
step_numbered job w (Resume a) h = all.acts_all Numbered numbered_keeps a 0 runs w (record { keeps = λ n. n })
step_numbered job w (Reply a turns value) h =
    let v = acts a turns (tells Gave) w in
    all.all_then Numbered numbered_keeps w v (gives a value v) (all.acts_all Numbered numbered_keeps a turns (tells Gave) w (record { keeps = λ n. n })) (all.gives_all Numbered numbered_keeps a value v)
step_numbered job w (End a turns ending state) h = all.finishes_all Numbered numbered_keeps job a turns ending state w
step_numbered job w (Beat a) h = all.acts_all Numbered numbered_keeps a most_turns (tells Beaten) w (record { keeps = λ n. n })
step_numbered job w (Match place) h = all.matches_all Numbered numbered_keeps place (slice_get w.due place) w
step_numbered job w (Arrive a) h = λ k. numbered_keeps.same (w.actors k)
step_numbered job w (Accept o a number) h = all.accepts_all Numbered numbered_keeps o a number (w.objects o) w
step_numbered job w (Quit why) h = λ k. numbered_keeps.same (w.actors k)

send_numbered : (job : Job) (w : World) (a turns callee member : ℕ) (object : ℤ) (arguments : List Held) → AllNumbered w → AllNumbered (sends job a turns callee member object arguments w)
send_numbered job w a turns callee member object arguments n k =
    (all.all_then Numbered numbered_keeps y z (counts_ports callee z) (all.arcs_all Numbered numbered_keeps (arcs_to (w.actors a).child callee 0 arguments) y) (all.counts_all Numbered numbered_keeps callee z) k).keeps (at (same_or k callee) (same_or k a)) where
      y : World
      y = with_call job a turns callee member object arguments w

      z : World
      z = with_arcs (arcs_to (w.actors a).child callee 0 arguments) (with_call job a turns callee member object arguments w)

      caller : Actor
      caller = spends (turns + 1) (calls_on job callee member (w.actors a))

      new : Actor
      new = new_actor job a (w.actors a) member object arguments

      at : (k ≡ callee) ⊎ (k ≡ callee → ⊥) → (k ≡ a) ⊎ (k ≡ a → ⊥) → ((with_call job a turns callee member object arguments w).actors k).made ≡ objects_named ((with_call job a turns callee member object arguments w).actors k).told
      at (inl same) q = subst (λ d. ((with_call job a turns callee member object arguments w).actors d).made ≡ objects_named ((with_call job a turns callee member object arguments w).actors d).told) (sym same)
          (subst (λ (x : Actor). x.made ≡ objects_named x.told) (sym (put_here callee new (put a caller w.actors))) refl)
      at (inr old) (inl same) = subst (λ (x : Actor). x.made ≡ objects_named x.told) (sym (put_there callee k new (put a caller w.actors) old ∙ (ap (put a caller w.actors) same ∙ put_here a caller w.actors))) (n a)
      at (inr old) (inr differ) = subst (λ (x : Actor). x.made ≡ objects_named x.told) (sym (put_there callee k new (put a caller w.actors) old ∙ put_there a k caller w.actors differ)) (n k)

numbered : (job : Job) (log : Log) → IsLog job log → AllNumbered (after job log)
numbered job [] h = λ k. refl
numbered job (e ∷ log) h = let w = after job log in by_event e
    (λ a turns callee member object arguments is. subst (λ d. AllNumbered (step job w d)) (sym is) (send_numbered job w a turns callee member object arguments (numbered job log h.1)))
    (λ other. λ k. (step_numbered job w e other k).keeps (numbered job log h.1 k))

-- ---- events

came_so : (job : Job) (w v : World) → Later w v → IsTree w → ((k : ℕ) → Standing w k) → AllFated w → Came w v → AllSo job w → (k : ℕ) → k < w.count → AreSo job v k (v.actors k).told
came_so job w v l t s f (c, inl q) so k there = at (same_or k c) where
  at : (k ≡ c) ⊎ (k ≡ c → ⊥) → AreSo job v k (v.actors k).told
  at (inl same) = same_so job w v l t k there (subst (λ d. (v.actors d).told ≡ (w.actors d).told) (sym same) q.frame.told)
      (inr (subst (λ d. (v.actors d).start ≡ (w.actors d).start) (sym same) q.frame.start)) (so k there)
  at (inr differ) = unchanged_so job w v l t k there (q.only.others k differ) (so k there)
came_so job w v l t s f (c, inr g) so k there = at (same_or k c) where
  none : (w.actors c).told ≡ []
  none = (f c).untold (missing_fresh (w.actors c) g.before (s c).misses g.missed (f c)).early

  at : (k ≡ c) ⊎ (k ≡ c → ⊥) → AreSo job v k (v.actors k).told
  at (inl same) = same_so job w v l t k there (subst (λ d. (v.actors d).told ≡ (w.actors d).told) (sym same) g.told) (inl (subst (λ d. (w.actors d).told ≡ []) (sym same) none)) (so k there)
  at (inr differ) = unchanged_so job w v l t k there (g.others k differ) (so k there)

accept_so : (job : Job) (w v : World) (e : Event) → Later w v → IsTree w → ((k : ℕ) → Standing w k) → AllFated w → OfAccept w e v → AllSo job w → (k : ℕ) → k < w.count → AreSo job v k (v.actors k).told
accept_so job w v e l t s f o so k there = at (same_or k o.actor) where
  none : (w.actors o.actor).told ≡ []
  none = (f o.actor).untold (ap is_early ((s o.actor).waits o.came o.first))

  at : (k ≡ o.actor) ⊎ (k ≡ o.actor → ⊥) → AreSo job v k (v.actors k).told
  at (inl same) = same_so job w v l t k there (subst (λ d. (v.actors d).told ≡ (w.actors d).told) (sym same) o.told) (inl (subst (λ d. (w.actors d).told ≡ []) (sym same) none)) (so k there)
  at (inr differ) = unchanged_so job w v l t k there (o.others k differ) (so k there)

-- an event that isn't of a frame, or tells its frame nothing
kind_so : (job : Job) (w v : World) (e : Event) → Later w v → IsTree w → ((k : ℕ) → Standing w k) → AllFated w → Change job w e v → actor_of e ≡ None → AllSo job w → (k : ℕ) → k < w.count → AreSo job v k (v.actors k).told
kind_so job w v e l t s f (ByActor o) none so k there = absurd (cc (none, o.frame.named))
kind_so job w v e l t s f (ByCall o) none so k there = absurd (cc (none, o.frame.named))
kind_so job w v e l t s f (ByToken o) none so k there = came_so job w v l t s f o.came so k there
kind_so job w v e l t s f (ByArrival o) none so k there = unchanged_so job w v l t k there (ap (λ (g : ℕ → Actor). g k) o.actors) (so k there)
kind_so job w v e l t s f (ByAccept o) none so k there = accept_so job w v e l t s f o so k there
kind_so job w v e l t s f (ByEnd o) none so k there = unchanged_so job w v l t k there (ap (λ (g : ℕ → Actor). g k) o.actors) (so k there)

abbrev makes : ℤ → Actor → Actor
makes object x = record (tells (Named object) x) { made = x.made + 1 }

created_acted : (job : Job) (w : World) (a turns class : ℕ) (object : ℤ) → Acted a (turns + 1) (makes object) w (step job w (Create a turns class object))
created_acted job w a turns class object = let q = acts_acted a (turns + 1) (makes object) w (record { ports = refl; spent = refl }) in
    record { others = q.others; frame = q.frame; ports = q.ports; spent = q.spent; turns = q.turns; lists = record { count = refl; arrived = refl; accepted = refl; why = refl } }

-- what a frame gave is so behind that
reply_given : (job : Job) (w : World) (a turns : ℕ) (value : Held) → IsTree w → Stops job w a turns (Stands (Replies value)) → IsGiven (step job w (Reply a turns value)) a value
reply_given job w a turns value t s = given_now (acts a turns (tells Gave) w) a value
    (λ call is. let k = named_child job w a turns call t (subst (λ v. Stops job w a turns (Stands (Replies v))) is s) in
    (k.0, ap (λ (x : Actor). x.child call) (put_here a (spends turns (tells Gave (w.actors a))) w.actors) ∙ k.1))

frame_so : (job : Job) (w : World) (e : Event) → Enabled job w e → ((k : ℕ) → Standing w k) → AllFated w → IsTree w → PassesAll w → AllNumbered w → is_send e ≡ false → AllSo job w → (k : ℕ) → k < w.count → AreSo job (step job w e) k ((step job w e).actors k).told
frame_so job w (Fire a) h s f t p n other so = let v = step job w (Fire a) in let l = later_step job w (Fire a) h s f t p in
    acted_so job w v l t a 1 runs (acts_acted a 1 runs w (record { ports = refl; spent = refl })) (λ start. are_later job w v l t a h.there start (w.actors a).told (so a h.there)) refl so
frame_so job w (Send a turns callee member object arguments) h s f t p n other so = absurd (cc other)
frame_so job w (Create a turns class object) h s f t p n other so = let e = Create a turns class object in let v = step job w e in let l = later_step job w e h s f t p in
    acted_so job w v l t a (turns + 1) (makes object) (created_acted job w a turns class object)
    (λ start. one_more job w v a turns (Stands (Creates class)) (Named object) l t h.stops start
    (h.next ∙ ap₂ (λ (b : BodyStart) m. object_word b.number (m + 1)) (sym start) (n a)) (so a h.stops.stops.there)) refl so
frame_so job w (Learn a turns call) h s f t p n other so = let e = Learn a turns call in let v = step job w e in let l = later_step job w e h s f t p in let o = known_at w ((w.actors a).child call) in
    acted_so job w v l t a turns (learns o) (acts_acted a turns (learns o) w (learns_mild o (w.actors a)))
    (λ start. subst (AreSo job v a) (sym (learnt_told h.known o (w.actors a) h.is))
    (one_more job w v a turns (Stands (Needs (Pending call))) (Learnt h.known) l t h.stops start (known_child w v l t a call h.known ((w.actors a).child call) refl h.is) (so a h.stops.stops.there)))
    (learns_start o (w.actors a)) so
frame_so job w (Park a turns call) h s f t p n other so = let e = Park a turns call in let v = step job w e in let l = later_step job w e h s f t p in let o = (w.actors a).child call in
    acted_so job w v l t a turns (parks turns o) (acts_acted a turns (parks turns o) w (parks_mild turns o (w.actors a)))
    (λ start. subst (AreSo job v a) (sym (parks_told turns o (w.actors a))) (are_later job w v l t a h.stops.stops.there start (w.actors a).told (so a h.stops.stops.there)))
    (parks_start turns o (w.actors a)) so
frame_so job w (Resume a) h s f t p n other so = let v = step job w (Resume a) in let l = later_step job w (Resume a) h s f t p in
    acted_so job w v l t a 0 runs (acts_acted a 0 runs w (record { ports = refl; spent = refl })) (λ start. are_later job w v l t a h.there start (w.actors a).told (so a h.there)) refl so
frame_so job w (Reply a turns value) h s f t p n other so = let e = Reply a turns value in let v = step job w e in let l = later_step job w e h s f t p in
    acted_so job w v l t a turns (tells Gave) (gives_acted a turns value w)
    (λ start. one_more job w v a turns (Stands (Replies value)) Gave l t h start (reply_given job w a turns value t h) (so a h.stops.there)) refl so
frame_so job w (End a turns ending state) h s f t p n other so = let e = End a turns ending state in let v = step job w e in let l = later_step job w e h s f t p in
    acted_so job w v l t a turns (ends turns) (ends_acted job a turns ending state w) (λ start. are_later job w v l t a h.stops.there start (w.actors a).told (so a h.stops.there)) refl so
frame_so job w (Beat a) h s f t p n other so = let v = step job w (Beat a) in let l = later_step job w (Beat a) h s f t p in
    acted_so job w v l t a most_turns (tells Beaten) (acts_acted a most_turns (tells Beaten) w (record { ports = refl; spent = refl }))
    (λ start. one_more job w v a most_turns Beats Beaten l t h start tt (so a h.stops.there)) refl so
frame_so job w (Match place) h s f t p n other so = kind_so job w (step job w (Match place)) (Match place) (later_step job w (Match place) h s f t p) t s f (changes job w (Match place) h) refl so
frame_so job w (Arrive a) h s f t p n other so = kind_so job w (step job w (Arrive a)) (Arrive a) (later_step job w (Arrive a) h s f t p) t s f (changes job w (Arrive a) h) refl so
frame_so job w (Accept o a number) h s f t p n other so =
    kind_so job w (step job w (Accept o a number)) (Accept o a number) (later_step job w (Accept o a number) h s f t p) t s f (changes job w (Accept o a number) h) refl so
frame_so job w (Quit why) h s f t p n other so = kind_so job w (step job w (Quit why)) (Quit why) (later_step job w (Quit why) h s f t p) t s f (changes job w (Quit why) h) refl so

-- ---- a call

send_so : (job : Job) (w : World) (a turns member : ℕ) (object : ℤ) (arguments : List Held) → Enabled job w (Send a turns w.count member object arguments) → ((k : ℕ) → Standing w k) → AllFated w → IsTree w → PassesAll w →
    IsTree (step job w (Send a turns w.count member object arguments)) → AllSo job w → AllSo job (step job w (Send a turns w.count member object arguments))
send_so job w a turns member object arguments h s f t p tree_now so k there = at (same_or k w.count) (same_or k a) where
  e : Event
  e = Send a turns w.count member object arguments

  v : World
  v = step job w (Send a turns w.count member object arguments)

  l : Later w (step job w (Send a turns w.count member object arguments))
  l = later_step job w (Send a turns w.count member object arguments) h s f t p

  here : a < w.count
  here = h.stops.stops.there

  sent : Sent job a (turns + 1) w.count (calls_on job w.count member) w (step job w (Send a turns w.count member object arguments))
  sent = sends_sent job a turns w.count member object arguments w (λ same. absurd (omega (arith, same, here)))

  call_is : ((step job w (Send a turns w.count member object arguments)).actors w.count).call ≡ (new_actor job a (w.actors a) member object arguments).call
  call_is = (send_rooted job w a turns w.count member object arguments w.count).call
      ∙ ap (λ (x : Actor). x.call) (put_here w.count (new_actor job a (w.actors a) member object arguments) (put a (spends (turns + 1) (calls_on job w.count member (w.actors a))) w.actors))

  found : ((step job w (Send a turns w.count member object arguments)).actors a).child (calls_made (w.actors a).told + 1) ≡ Some w.count
  found = ap (λ (c : Call). ((step job w (Send a turns w.count member object arguments)).actors c.caller).child c.place) (sym call_is)
      ∙ tree_now.callers w.count (omega (arith, here)) (omega (arith, sent.count))

  actor : HasActor (step job w (Send a turns w.count member object arguments)) a (calls_made (w.actors a).told + 1) member object arguments
  actor = record { child = w.count; is = found; member_is = ap (λ (c : Call). c.member) call_is; object_is = ap (λ (c : Call). c.object) call_is; arguments_are = ap (λ (c : Call). c.arguments) call_is }

  below : (k ≡ w.count → ⊥) → k < w.count
  below d = by_bool (nat_lt k w.count) (λ b. ltb-true k w.count b) (λ b. absurd (d (omega (arith, there, sent.count, ltb-false k w.count b))))

  at : (k ≡ w.count) ⊎ (k ≡ w.count → ⊥) → (k ≡ a) ⊎ (k ≡ a → ⊥) → AreSo job (step job w (Send a turns w.count member object arguments)) k ((step job w (Send a turns w.count member object arguments)).actors k).told
  at (inl same) q = subst (λ d. AreSo job (step job w (Send a turns w.count member object arguments)) d ((step job w (Send a turns w.count member object arguments)).actors d).told) (sym same)
      (subst (AreSo job (step job w (Send a turns w.count member object arguments)) w.count) (sym sent.untold) tt)
  at (inr old) (inl same) = subst (λ d. AreSo job (step job w (Send a turns w.count member object arguments)) d ((step job w (Send a turns w.count member object arguments)).actors d).told) (sym same)
      (subst (AreSo job (step job w (Send a turns w.count member object arguments)) a) (sym sent.frame.told)
      (one_more job w v a turns (Stands (Calls member object arguments)) Called l t h.stops sent.frame.start actor (so a here)))
  at (inr old) (inr differ) = unchanged_so job w v l t k (below old) (sent.others k differ old) (so k (below old))

-- ---- logs

step_so : (job : Job) (w : World) (e : Event) → Enabled job w e → ((k : ℕ) → Standing w k) → AllFated w → IsTree w → PassesAll w → IsTree (step job w e) → AllNumbered w → AllSo job w → AllSo job (step job w e)
step_so job w e h s f t p now n so = by_event e
    (λ a turns callee member object arguments is. subst (λ d. AllSo job (step job w d)) (sym is)
    (call a turns callee member object arguments (subst (Enabled job w) is h) (subst (λ d. IsTree (step job w d)) is now)))
    (λ other k there. frame_so job w e h s f t p n other so k (subst (λ m. k < m) (count_stays job w (step job w e) e (changes job w e h) other) there)) where
      call : (a turns callee member : ℕ) (object : ℤ) (arguments : List Held) → Enabled job w (Send a turns callee member object arguments) → IsTree (step job w (Send a turns callee member object arguments)) →
          AllSo job (step job w (Send a turns callee member object arguments))
      call a turns callee member object arguments m tree_now = subst (λ c. AllSo job (step job w (Send a turns c member object arguments))) (sym m.next)
          (send_so job w a turns member object arguments (subst (λ c. Enabled job w (Send a turns c member object arguments)) m.next m) s f t p
          (subst (λ c. IsTree (step job w (Send a turns c member object arguments))) m.next tree_now) so)

pub so : (job : Job) (log : Log) → IsLog job log → (a : ℕ) → a < (after job log).count → AreSo job (after job log) a ((after job log).actors a).told
so job [] h = λ k there. tt
so job (e ∷ log) h = step_so job (after job log) e h.0.1 (stand job log h.1) (fated job log h.1) (tree job log h.1) (pass job log h.1) (tree job (e ∷ log) h) (numbered job log h.1) (so job log h.1)
