use Rattle.std.proofs.Common.{List, ℕ, true, false, inl, inr, length, map, drop, refl, ap, sym, subst, arith, rules, ◌∙◌, ◌+◌}
use Rattle.mpl_mean.proofs.Lists.{next_left, none_left}
use Rattle.mpl_mean.specs.Pending.Paths as paths
use Rattle.mpl_depend.specs.Internal.Ranks.{Round, Rounded, Stands, Traced}
use Rattle.mpl_depend.specs.Internal.Saves.{AreWithin, Opened, Restores, Saves}
use Rattle.mpl_depend.specs.Internal.SeenWays.{all_seen, event_seen, ways_seen, ways_step}
use Rattle.mpl_depend.specs.declared.ways.Ways.{fold-roll-Ways, roll-Ways}
use Rattle.mpl_depend.specs.declared.ways.Ways.TheOpen.{Ways-F}
use Rattle.mpl_depend.proofs.Merges.{AreBelow}
use Rattle.mpl_depend.proofs.Savings.{again_within}
use Rattle.mpl_depend.proofs.Traces.{stands_first, stands_head, stands_second, traced_halts, traced_nothing, traced_only, traced_stop, traced_then}
use Rattle.mpl_depend.proofs.TracedWays.{in_loop_stands, in_turn_stands, restores_before, restores_left, rounded, saves_now, traced_ends, traced_joined, traced_next, traced_rounds, traced_stops}
use Rattle.mpl_depend.proofs.Walks.{item_smaller}
use Rattle.mpl_depend.proofs.tracing.+trace.Goals as goal

pub trace-returns-in-Nothing : goal.trace-returns-in-Nothing
unfolding roll-Ways denote.Hole.Carrier.roll
trace-returns-in-Nothing t c =
    let is = ap ways_seen c.in-Nothing.is ∙ fold-roll-Ways paths.Ways ways_step Ways-F.Nothing in
    subst (λ w. Traced w true c.args.values.now.count c.args.values.now.count c.args.values.now.edges.items c.args.values.now.edges.items c.args.values.now.uses.items c.args.values.now.uses.items c.args.current.now c.args.current.now) (sym is)
    (traced_nothing c.args.values.now.count c.args.values.now.edges.items c.args.values.now.uses.items c.args.current.now c.requires.below)

pub trace-returns-in-Stop : goal.trace-returns-in-Stop
unfolding roll-Ways denote.Hole.Carrier.roll
trace-returns-in-Stop t c =
    let is = ap ways_seen c.in-Stop.is ∙ fold-roll-Ways paths.Ways ways_step Ways-F.Stop in
    subst (λ w. Traced w false c.args.values.now.count c.args.values.now.count c.args.values.now.edges.items c.args.values.now.edges.items c.args.values.now.uses.items c.args.values.now.uses.items c.args.current.now c.args.current.now) (sym is)
    (traced_stop c.args.values.now.count c.args.values.now.edges.items c.args.values.now.uses.items c.args.current.now c.requires.below)

pub trace-returns-in_ok-note-in-Only : goal.trace-returns-in_ok-note-in-Only
unfolding roll-Ways denote.Hole.Carrier.roll
trace-returns-in_ok-note-in-Only t c =
    let event = c.in-Only.event in
    let is = ap ways_seen c.in-Only.is ∙ fold-roll-Ways paths.Ways ways_step (Ways-F.Only event) in
    let noted = c.in_ok-note-in-Only.ensures in
    rw (is, noted.count, noted.edges, noted.uses)
    (traced_only (event_seen event) c.args.values.now.count c.args.values.now.edges.items c.args.values.now.uses.items c.args.current.now c.follow.new.current c.follow.ensures.sized c.follow.ensures.set c.requires.below)

pub trace_then-trace-requires : goal.trace_then-trace-requires
trace_then-trace-requires t c = (search rules, stands_first (ways_seen c.args.first.now) (ways_seen c.args.second.now) c.args.values.now.count c.args.values.now.edges.items c.args.current.now c.requires)

pub trace_then-trace-requires-2 : goal.trace_then-trace-requires-2
trace_then-trace-requires-2 t c = (
  search rules,
  stands_second (ways_seen c.args.first.now) (ways_seen c.args.second.now) c.in_ok-comes.comes c.args.values.now.count c.trace.new.values.count c.args.values.now.edges.items c.trace.new.values.edges.items
      c.args.values.now.uses.items c.trace.new.values.uses.items c.args.current.now c.trace.new.current c.trace.new.current c.requires c.in_ok-comes.ensures c.in_ok-comes.ensures.sized c.in_ok-comes.ensures.below,
)

pub trace_then-returns-then-not-comes : goal.trace_then-returns-then-not-comes
trace_then-returns-then-not-comes t c =
    let one = subst (λ comes. Traced (ways_seen c.args.first.now) comes c.args.values.now.count c.trace.new.values.count c.args.values.now.edges.items c.trace.new.values.edges.items c.args.values.now.uses.items c.trace.new.values.uses.items
    c.args.current.now c.trace.new.current) c.if-not-comes.true c.in_ok-comes.ensures in
    traced_halts (ways_seen c.args.first.now) (ways_seen c.args.second.now) c.args.values.now.count c.trace.new.values.count c.args.values.now.edges.items c.trace.new.values.edges.items
    c.args.values.now.uses.items c.trace.new.values.uses.items c.args.current.now c.trace.new.current one

pub trace_then-returns : goal.trace_then-returns
trace_then-returns t c =
    let one = subst (λ comes. Traced (ways_seen c.args.first.now) comes c.args.values.now.count c.trace.new.values.count c.args.values.now.edges.items c.trace.new.values.edges.items c.args.values.now.uses.items c.trace.new.values.uses.items
    c.args.current.now c.trace.new.current) c.if-not-comes.false c.in_ok-comes.ensures in
    traced_then (ways_seen c.args.first.now) (ways_seen c.args.second.now) c.args.values.now.count c.trace.new.values.count c.trace-2.new.values.count c.args.values.now.edges.items c.trace.new.values.edges.items c.trace-2.new.values.edges.items
    c.args.values.now.uses.items c.trace.new.values.uses.items c.trace-2.new.values.uses.items c.args.current.now c.trace.new.current c.trace-2.new.current c.in_ok-behind.behind one c.in_ok-behind.ensures

pub trace_all-trace-requires : goal.trace_all-trace-requires
trace_all-trace-requires t c =
    let list = c.args.list.now in
    let i = c.loop-ways.ways-index in
    let x = c.ways-item.result in
    let left = next_left list i x (omega arith) c.ways-item.is in (
      search (rules, item_smaller list i x left),
      stands_first (ways_seen x) (all_seen (map ways_seen (drop (i + 1) list))) c.loop-ways.values.count c.loop-ways.values.edges.items c.loop-ways.current
          (subst (λ left. Stands (all_seen (map ways_seen left)) c.loop-ways.values.count c.loop-ways.values.edges.items c.loop-ways.current) left c.loop-ways.invariant.stands),
    )

pub trace_all-loop-ways-init : goal.trace_all-loop-ways-init
trace_all-loop-ways-init t c = record { stands = c.requires; so = record { rest = λ comes high more all after traced. traced } }

pub trace_all-loop-ways-preserved : goal.trace_all-loop-ways-preserved
trace_all-loop-ways-preserved t c =
    let list = c.args.list.now in
    let i = c.loop-ways.ways-index in
    let x = c.ways-item.result in
    let left = next_left list i x (omega arith) c.ways-item.is in
    let stands = subst (λ left. Stands (all_seen (map ways_seen left)) c.loop-ways.values.count c.loop-ways.values.edges.items c.loop-ways.current) left c.loop-ways.invariant.stands in
    let one = subst (λ comes. Traced (ways_seen x) comes c.loop-ways.values.count c.trace.new.values.count c.loop-ways.values.edges.items c.trace.new.values.edges.items c.loop-ways.values.uses.items c.trace.new.values.uses.items
    c.loop-ways.current c.trace.new.current) c.if-not-comes.false c.in_ok-comes.ensures in
    record {
      stands = stands_second (ways_seen x) (all_seen (map ways_seen (drop (i + 1) list))) true c.loop-ways.values.count c.trace.new.values.count c.loop-ways.values.edges.items c.trace.new.values.edges.items
          c.loop-ways.values.uses.items c.trace.new.values.uses.items c.loop-ways.current c.trace.new.current c.trace.new.current stands one one.sized one.below;
      so = traced_next list i x c.args.values.now.count c.loop-ways.values.count c.trace.new.values.count c.args.values.now.edges.items c.loop-ways.values.edges.items c.trace.new.values.edges.items
          c.args.values.now.uses.items c.loop-ways.values.uses.items c.trace.new.values.uses.items c.args.current.now c.loop-ways.current c.trace.new.current left c.loop-ways.invariant.so one;
    }

pub trace_all-returns-then-not-comes : goal.trace_all-returns-then-not-comes
trace_all-returns-then-not-comes t c =
    let list = c.args.list.now in
    let i = c.loop-ways.ways-index in
    let x = c.ways-item.result in
    let left = next_left list i x (omega arith) c.ways-item.is in
    let one = subst (λ comes. Traced (ways_seen x) comes c.loop-ways.values.count c.trace.new.values.count c.loop-ways.values.edges.items c.trace.new.values.edges.items c.loop-ways.values.uses.items c.trace.new.values.uses.items
    c.loop-ways.current c.trace.new.current) c.if-not-comes.true c.in_ok-comes.ensures in
    traced_stops list i x c.args.values.now.count c.loop-ways.values.count c.trace.new.values.count c.args.values.now.edges.items c.loop-ways.values.edges.items c.trace.new.values.edges.items
    c.args.values.now.uses.items c.loop-ways.values.uses.items c.trace.new.values.uses.items c.args.current.now c.loop-ways.current c.trace.new.current left c.loop-ways.invariant.so one

pub trace_all-returns : goal.trace_all-returns
trace_all-returns t c =
    traced_ends c.args.list.now c.loop-ways.ways-index c.args.values.now.count c.loop-ways.values.count c.args.values.now.edges.items c.loop-ways.values.edges.items c.args.values.now.uses.items c.loop-ways.values.uses.items
    c.args.current.now c.loop-ways.current (none_left c.args.list.now c.loop-ways.ways-index (omega arith)) c.loop-ways.invariant.stands.below c.loop-ways.invariant.so

pub trace_both-trace-requires-2 : goal.trace_both-trace-requires-2
trace_both-trace-requires-2 t c =
    let a = ways_seen c.args.one.now in
    let b = ways_seen c.args.other.now in
    let one = c.in_ok-first.ensures in
    let before = c.args.current.now in
    let back = c.put_back.ensures.restored before (restores_before a b before c.trace.new.current c.args.saved.now c.requires.saved one.sized one.stays) in (
      search rules,
      stands_second a b c.in_ok-first.first c.args.values.now.count c.trace.new.values.count c.args.values.now.edges.items c.trace.new.values.edges.items c.args.values.now.uses.items c.trace.new.values.uses.items
          before c.trace.new.current c.put_back.new.current (in_turn_stands a b c.args.values.now.count c.args.values.now.edges.items before c.requires.stands) one (ap (λ (values : List ℕ). length values) back)
          (subst (λ (values : List ℕ). AreBelow c.trace.new.values.count values) (sym back) (λ p. let l = c.requires.stands.below p in let r = one.rising in omega arith)),
    )

pub trace_both-join-requires-clause-within : goal.trace_both-join-requires-clause-within
trace_both-join-requires-clause-within t c =
    let one = c.in_ok-first.ensures in
    let two = c.in_ok-second.ensures in
    let left = c.trace.new.current in
    subst (λ saved. AreWithin (length c.trace-2.new.current) saved) (sym (c.as_slice.ensures.value ∙ c.in_ok-left.ensures))
    (again_within left (length c.trace-2.new.current) c.args.saved.now (subst (λ count. AreWithin count c.args.saved.now) (sym (two.sized ∙ c.put_back.ensures.sized ∙ one.sized)) c.requires.saved.within))

pub trace_both-returns : goal.trace_both-returns
trace_both-returns t c =
    let a = ways_seen c.args.one.now in
    let b = ways_seen c.args.other.now in
    let one = c.in_ok-first.ensures in
    let before = c.args.current.now in
    let left = c.trace.new.current in
    let right = c.trace-2.new.current in
    let back = c.put_back.ensures.restored before (restores_before a b before left c.args.saved.now c.requires.saved one.sized one.stays) in
    let two = subst (λ (start : List ℕ). Traced b c.in_ok-second.second c.trace.new.values.count c.trace-2.new.values.count c.trace.new.values.edges.items c.trace-2.new.values.edges.items c.trace.new.values.uses.items c.trace-2.new.values.uses.items
    start right) back c.in_ok-second.ensures in
    let restores = subst (λ saved. Restores saved right left) (sym (c.as_slice.ensures.value ∙ c.in_ok-left.ensures))
    (restores_left a b before left before right c.args.saved.now c.requires.saved (two.sized ∙ sym one.sized) one.stays two.stays (λ p. inl refl)) in
    let joins = c.in_ok-comes.ensures.joined left restores (λ p. let l = one.below p in let r = two.rising in omega arith) in
    rw c.in_ok-comes.ensures.uses
    (traced_joined a b c.args.values.now.count c.trace.new.values.count c.trace-2.new.values.count c.join.new.values.count c.args.values.now.edges.items c.trace.new.values.edges.items c.trace-2.new.values.edges.items c.join.new.values.edges.items
    c.args.values.now.uses.items c.trace.new.values.uses.items c.trace-2.new.values.uses.items before left right c.join.new.current c.in_ok-first.first c.in_ok-second.second c.in_ok-comes.comes c.requires.stands one two joins)

pub trace_loop-trace_round-requires : goal.trace_loop-trace_round-requires
trace_loop-trace_round-requires t c =
    let a = ways_seen c.args.test.now in
    let b = ways_seen c.args.body.now in
    let before = c.args.current.now in
    let head = c.open.new.current in
    let opened = subst (λ (start : List ℕ). Opened c.as_slice.result.now c.args.values.now.count c.open.new.values.count c.args.values.now.edges.items c.open.new.values.edges.items start head) c.in_ok-saved.ensures.same c.in_ok-open.ensures.opened in
    let saves = subst (λ saved. Saves (paths.Then a b) before saved) (sym c.as_slice-2.ensures.value) c.in_ok-saved.ensures.saved in (
      search rules,
      (
        subst (λ saved. Saves (paths.Then a b) head saved) (sym (c.as_slice-3.ensures.value ∙ c.in_ok-head.ensures)) (saves_now (paths.Then a b) before head c.as_slice-2.result.now saves opened.merged.sized),
        stands_head a b c.args.values.now.count c.open.new.values.count c.args.values.now.edges.items c.open.new.values.edges.items before head c.requires opened.merged,
      ),
    )

pub trace_loop-returns : goal.trace_loop-returns
trace_loop-returns t c =
    let a = ways_seen c.args.test.now in
    let b = ways_seen c.args.body.now in
    let before = c.args.current.now in
    let head = c.open.new.current in
    let opened = subst (λ (start : List ℕ). Opened c.as_slice.result.now c.args.values.now.count c.open.new.values.count c.args.values.now.edges.items c.open.new.values.edges.items start head) c.in_ok-saved.ensures.same c.in_ok-open.ensures.opened in
    let saves = subst (λ saved. Saves (paths.Then a b) before saved) (sym c.as_slice.ensures.value) c.in_ok-saved.ensures.saved in
    traced_rounds a b c.in_ok-comes.comes c.args.values.now.count c.open.new.values.count c.trace_round.new.values.count c.args.values.now.edges.items c.open.new.values.edges.items c.trace_round.new.values.edges.items
    c.args.values.now.uses.items c.trace_round.new.values.uses.items c.as_slice.result.now before head c.trace_round.new.current c.requires saves opened
    (subst (λ uses. Round a b c.in_ok-comes.comes c.open.new.values.count c.trace_round.new.values.count c.open.new.values.edges.items c.trace_round.new.values.edges.items uses c.trace_round.new.values.uses.items head c.trace_round.new.current)
    c.in_ok-open.ensures.uses c.in_ok-comes.ensures)

pub trace_round-trace_body-requires : goal.trace_round-trace_body-requires
trace_round-trace_body-requires t c =
    let a = ways_seen c.args.test.now in
    let b = ways_seen c.args.body.now in
    let one = c.in_ok-comes.ensures in (
      search rules,
      (
        subst (λ count. AreWithin count c.args.head.now) (sym one.sized) c.requires.head.within,
        stands_second a b c.in_ok-comes.comes c.args.values.now.count c.trace.new.values.count c.args.values.now.edges.items c.trace.new.values.edges.items c.args.values.now.uses.items c.trace.new.values.uses.items
            c.args.current.now c.trace.new.current c.trace.new.current (in_loop_stands a b c.args.values.now.count c.args.values.now.edges.items c.args.current.now c.requires.stands) one one.sized one.below,
      ),
    )

pub trace_round-put_back-requires : goal.trace_round-put_back-requires
trace_round-put_back-requires t c =
    let one = c.in_ok-comes.ensures in
    let end = c.in_ok-trace_body.ensures in
    subst (λ saved. AreWithin (length c.trace_body.new.current) saved) (sym (c.as_slice.ensures.value ∙ c.in_ok-left.ensures))
    (again_within c.trace.new.current (length c.trace_body.new.current) c.args.head.now (subst (λ count. AreWithin count c.args.head.now) (sym (end.traced.sized ∙ one.sized)) c.requires.head.within))

pub trace_round-returns : goal.trace_round-returns
trace_round-returns t c =
    let a = ways_seen c.args.test.now in
    let b = ways_seen c.args.body.now in
    let head = c.args.current.now in
    let after = c.trace.new.current in
    let last = c.trace_body.new.current in
    let one = subst (λ comes. Traced a comes c.args.values.now.count c.trace.new.values.count c.args.values.now.edges.items c.trace.new.values.edges.items c.args.values.now.uses.items c.trace.new.values.uses.items head after) c.if-not-comes.false c.in_ok-comes.ensures in
    let end = c.in_ok-trace_body.ensures in
    let restores = subst (λ saved. Restores saved last after) (sym (c.as_slice.ensures.value ∙ c.in_ok-left.ensures))
    (restores_left a b head after after last c.args.head.now c.requires.head end.traced.sized one.stays end.traced.stays (λ p. inr refl)) in
    let back = c.put_back.ensures.restored after restores in
    subst (λ (now : List ℕ). Rounded a b c.args.values.now.count c.trace_body.new.values.count c.args.values.now.edges.items c.trace_body.new.values.edges.items c.args.values.now.uses.items c.trace_body.new.values.uses.items head now) (sym back)
    (rounded a b c.args.values.now.count c.trace.new.values.count c.trace_body.new.values.count c.args.values.now.edges.items c.trace.new.values.edges.items c.trace_body.new.values.edges.items
    c.args.values.now.uses.items c.trace.new.values.uses.items c.trace_body.new.values.uses.items c.args.head.now head after last c.requires.head one end)
